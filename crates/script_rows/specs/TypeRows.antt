-- Worked runs on types that are declared.
use Rattle.std.specs.Prelude.{◌≡◌, pos, false, List, [], ◌∷◌, codes, Some, None}
use Rattle.folder_meaning.specs.declared.script_type.ScriptType.TheVariants as of_type
use Rattle.gd_syntax.specs.declared.tree.expr.Literal.TheVariants as literal
use Rattle.gd_syntax.specs.declared.tree.expr.TreeOp.TheVariants as op
use Rattle.gd_syntax.specs.declared.tree.statement.AssignOp.TheVariants as assign
use Rattle.variant_values.specs.declared.classes.ClassTag.TheVariants as class_of
use Rattle.script_meaning.specs.Projects.{Project, AFunction, AClass, Never, WithNew}
use Rattle.script_meaning.specs.Tables.{ClassMeans}
use Rattle.script_rows.specs.Scripts.{at, identifier, named_type, lit, num, txt, name, this, paren, array, member, call, is_a, is_no, taken, binary, passes, returns, local, assigns, does, walks, param, func, class_at, project_of, writes}

-- class A:
--     pass
-- class B extends A:
--     pass
-- func _init():
--     var b = B.new()
--     print(b is A, b is B, A.new() is B, b is RefCounted, b is not A, null is A, 1 is int, "a" is String, [] is Dictionary)
--     print((b as A) == b, A.new() as B, 1 as int)
--     var n = 1
--     print(n as String)
abbrev pub names_types : Project
names_types = project_of (record {
  classes =
      record {
        class = class_at 0 0;
        file = 0;
        text = codes "res://m.gd";
        above = (class_of.RefCounted ∷ class_of.Object ∷ []);
        enclosing = [];
        fields = [];
        members = ((codes "_init", AFunction (class_at 0 0) false) ∷ (codes "A", AClass (class_at 0 1)) ∷ (codes "B", AClass (class_at 0 2)) ∷ []);
      }
      ∷ record {
        class = class_at 0 1;
        file = 0;
        text = codes "A";
        above = (class_of.RefCounted ∷ class_of.Object ∷ []);
        enclosing = (class_at 0 0 ∷ []);
        fields = [];
        members = [];
      }
      ∷ record {
        class = class_at 0 2;
        file = 0;
        text = codes "B";
        above = (class_at 0 1 ∷ class_of.RefCounted ∷ class_of.Object ∷ []);
        enclosing = (class_at 0 0 ∷ []);
        fields = [];
        members = [];
      }
      ∷ [];
  globals = [];
  types = ((0, at 7 13, of_type.Instance (class_at 0 1)) ∷ (0, at 7 21, of_type.Instance (class_at 0 2)) ∷ (0, at 7 35, of_type.Instance (class_at 0 2)) ∷ (0, at 7 43, (of_type.Instance class_of.RefCounted)) ∷ (0, at 7 64, of_type.Instance (class_at 0 1)) ∷ (0, at 7 75, of_type.Instance (class_at 0 1)) ∷ (0, at 7 83, of_type.Int) ∷ (0, at 7 95, of_type.Str) ∷ (0, at 7 109, of_type.Dict) ∷ (0, at 8 14, of_type.Instance (class_at 0 1)) ∷ (0, at 8 34, of_type.Instance (class_at 0 2)) ∷ (0, at 8 42, of_type.Int) ∷ (0, at 10 13, of_type.Str) ∷ []);
  constants = [];
  resources = [];
  enums = [];
})

abbrev pub code_types : Project → List ClassMeans
code_types P =
    record {
      class = class_at 0 0;
      starts = [];
      functions =
          func P (class_at 0 0) false (identifier (at 5 6) (codes "_init")) []
          (local P (at 6 2) (identifier (at 6 6) (codes "b")) (Some (call P (at 6 10) (member P (at 6 10) (name P (at 6 10) (codes "B")) (codes "new")) []))
          ∷ does P (at 7 2) (call P (at 7 2) (name P (at 7 2) (codes "print")) ((is_a P (at 7 8) (name P (at 7 8) (codes "b")) (named_type (at 7 13) (codes "A" ∷ []))) ∷ (is_a P (at 7 16) (name P (at 7 16) (codes "b")) (named_type (at 7 21) (codes "B" ∷ []))) ∷ (is_a P (at 7 24) (call P (at 7 24) (member P (at 7 24) (name P (at 7 24) (codes "A")) (codes "new")) []) (named_type (at 7 35) (codes "B" ∷ []))) ∷ (is_a P (at 7 38) (name P (at 7 38) (codes "b")) (named_type (at 7 43) (codes "RefCounted" ∷ []))) ∷ (is_no P (at 7 55) (name P (at 7 55) (codes "b")) (named_type (at 7 64) (codes "A" ∷ []))) ∷ (is_a P (at 7 67) (lit P (at 7 67) literal.Null) (named_type (at 7 75) (codes "A" ∷ []))) ∷ (is_a P (at 7 78) (num P (at 7 78) (pos 1)) (named_type (at 7 83) (codes "int" ∷ []))) ∷ (is_a P (at 7 88) (txt P (at 7 88) (codes "a")) (named_type (at 7 95) (codes "String" ∷ []))) ∷ (is_a P (at 7 103) (array P (at 7 103) []) (named_type (at 7 109) (codes "Dictionary" ∷ []))) ∷ []))
          ∷ does P (at 8 2) (call P (at 8 2) (name P (at 8 2) (codes "print")) ((binary P (at 8 8) op.Eq (paren P (at 8 8) (taken P (at 8 9) (name P (at 8 9) (codes "b")) (named_type (at 8 14) (codes "A" ∷ [])))) (name P (at 8 20) (codes "b"))) ∷ (taken P (at 8 23) (call P (at 8 23) (member P (at 8 23) (name P (at 8 23) (codes "A")) (codes "new")) []) (named_type (at 8 34) (codes "B" ∷ []))) ∷ (taken P (at 8 37) (num P (at 8 37) (pos 1)) (named_type (at 8 42) (codes "int" ∷ []))) ∷ []))
          ∷ local P (at 9 2) (identifier (at 9 6) (codes "n")) (Some (num P (at 9 10) (pos 1)))
          ∷ does P (at 10 2) (call P (at 10 2) (name P (at 10 2) (codes "print")) ((taken P (at 10 8) (name P (at 10 8) (codes "n")) (named_type (at 10 13) (codes "String" ∷ []))) ∷ []))
          ∷ [])
          ∷ [];
    }
    ∷ []

-- func _init():
--     print(self is RefCounted, null is RefCounted, 1 is not int, self as Node, 1 as int)
--     print(null as int)
abbrev pub names_native_types : Project
names_native_types = project_of (record {
  classes =
      record {
        class = class_at 0 0;
        file = 0;
        text = codes "res://m.gd";
        above = (class_of.RefCounted ∷ class_of.Object ∷ []);
        enclosing = [];
        fields = [];
        members = ((codes "_init", AFunction (class_at 0 0) false) ∷ []);
      }
      ∷ [];
  globals = [];
  types = ((0, at 2 16, (of_type.Instance class_of.RefCounted)) ∷ (0, at 2 36, (of_type.Instance class_of.RefCounted)) ∷ (0, at 2 57, of_type.Int) ∷ (0, at 2 70, (of_type.Instance class_of.Node)) ∷ (0, at 2 81, of_type.Int) ∷ (0, at 3 16, of_type.Int) ∷ []);
  constants = [];
  resources = [];
  enums = [];
})

abbrev pub code_native_types : Project → List ClassMeans
code_native_types P =
    record {
      class = class_at 0 0;
      starts = [];
      functions =
          func P (class_at 0 0) false (identifier (at 1 6) (codes "_init")) []
          (does P (at 2 2) (call P (at 2 2) (name P (at 2 2) (codes "print")) ((is_a P (at 2 8) (this P (at 2 8)) (named_type (at 2 16) (codes "RefCounted" ∷ []))) ∷ (is_a P (at 2 28) (lit P (at 2 28) literal.Null) (named_type (at 2 36) (codes "RefCounted" ∷ []))) ∷ (is_no P (at 2 48) (num P (at 2 48) (pos 1)) (named_type (at 2 57) (codes "int" ∷ []))) ∷ (taken P (at 2 62) (this P (at 2 62)) (named_type (at 2 70) (codes "Node" ∷ []))) ∷ (taken P (at 2 76) (num P (at 2 76) (pos 1)) (named_type (at 2 81) (codes "int" ∷ []))) ∷ []))
          ∷ does P (at 3 2) (call P (at 3 2) (name P (at 3 2) (codes "print")) ((taken P (at 3 8) (lit P (at 3 8) literal.Null) (named_type (at 3 16) (codes "int" ∷ []))) ∷ []))
          ∷ [])
          ∷ [];
    }
    ∷ []

-- func _init():
--     var v = "a"
--     var n: int = 1
--     n = 2
--     print(n)
--     n = v
abbrev pub names_local_types : Project
names_local_types = project_of (record {
  classes =
      record {
        class = class_at 0 0;
        file = 0;
        text = codes "res://m.gd";
        above = (class_of.RefCounted ∷ class_of.Object ∷ []);
        enclosing = [];
        fields = [];
        members = ((codes "_init", AFunction (class_at 0 0) false) ∷ []);
      }
      ∷ [];
  globals = [];
  types = ((0, at 3 6, of_type.Int) ∷ []);
  constants = [];
  resources = [];
  enums = [];
})

abbrev pub code_local_types : Project → List ClassMeans
code_local_types P =
    record {
      class = class_at 0 0;
      starts = [];
      functions =
          func P (class_at 0 0) false (identifier (at 1 6) (codes "_init")) []
          (local P (at 2 2) (identifier (at 2 6) (codes "v")) (Some (txt P (at 2 10) (codes "a")))
          ∷ local P (at 3 2) (identifier (at 3 6) (codes "n")) (Some (num P (at 3 15) (pos 1)))
          ∷ assigns P (at 4 2) (name P (at 4 2) (codes "n")) assign.Set (num P (at 4 6) (pos 2))
          ∷ does P (at 5 2) (call P (at 5 2) (name P (at 5 2) (codes "print")) ((name P (at 5 8) (codes "n")) ∷ []))
          ∷ assigns P (at 6 2) (name P (at 6 2) (codes "n")) assign.Set (name P (at 6 6) (codes "v"))
          ∷ [])
          ∷ [];
    }
    ∷ []

-- func _init():
--     var v = null
--     var s := "a"
--     s = v
abbrev pub names_inferred : Project
names_inferred = project_of (record {
  classes =
      record {
        class = class_at 0 0;
        file = 0;
        text = codes "res://m.gd";
        above = (class_of.RefCounted ∷ class_of.Object ∷ []);
        enclosing = [];
        fields = [];
        members = ((codes "_init", AFunction (class_at 0 0) false) ∷ []);
      }
      ∷ [];
  globals = [];
  types = ((0, at 3 6, of_type.Str) ∷ []);
  constants = [];
  resources = [];
  enums = [];
})

abbrev pub code_inferred : Project → List ClassMeans
code_inferred P =
    record {
      class = class_at 0 0;
      starts = [];
      functions =
          func P (class_at 0 0) false (identifier (at 1 6) (codes "_init")) []
          (local P (at 2 2) (identifier (at 2 6) (codes "v")) (Some (lit P (at 2 10) literal.Null))
          ∷ local P (at 3 2) (identifier (at 3 6) (codes "s")) (Some (txt P (at 3 11) (codes "a")))
          ∷ assigns P (at 4 2) (name P (at 4 2) (codes "s")) assign.Set (name P (at 4 6) (codes "v"))
          ∷ [])
          ∷ [];
    }
    ∷ []

-- var n: int = 1
-- func _init():
--     var s = "a"
--     n = s
abbrev pub names_field_type : Project
names_field_type = project_of (record {
  classes =
      record {
        class = class_at 0 0;
        file = 0;
        text = codes "res://m.gd";
        above = (class_of.RefCounted ∷ class_of.Object ∷ []);
        enclosing = [];
        fields = (record { name = codes "n"; class = class_at 0 0; line = 1; type = of_type.Int; starts = WithNew } ∷ []);
        members = ((codes "_init", AFunction (class_at 0 0) false) ∷ []);
      }
      ∷ [];
  globals = [];
  types = ((0, at 1 5, of_type.Int) ∷ []);
  constants = [];
  resources = [];
  enums = [];
})

abbrev pub code_field_type : Project → List ClassMeans
code_field_type P =
    record {
      class = class_at 0 0;
      starts = ((codes "n", (num P (at 1 14) (pos 1))) ∷ []);
      functions =
          func P (class_at 0 0) false (identifier (at 2 6) (codes "_init")) []
          (local P (at 3 2) (identifier (at 3 6) (codes "s")) (Some (txt P (at 3 10) (codes "a")))
          ∷ assigns P (at 4 2) (name P (at 4 2) (codes "n")) assign.Set (name P (at 4 6) (codes "s"))
          ∷ [])
          ∷ [];
    }
    ∷ []

-- class P:
--     var n: int
-- func _init():
--     var p = P.new()
--     p.n = "a"
abbrev pub names_member_type : Project
names_member_type = project_of (record {
  classes =
      record {
        class = class_at 0 0;
        file = 0;
        text = codes "res://m.gd";
        above = (class_of.RefCounted ∷ class_of.Object ∷ []);
        enclosing = [];
        fields = [];
        members = ((codes "_init", AFunction (class_at 0 0) false) ∷ (codes "P", AClass (class_at 0 1)) ∷ []);
      }
      ∷ record {
        class = class_at 0 1;
        file = 0;
        text = codes "P";
        above = (class_of.RefCounted ∷ class_of.Object ∷ []);
        enclosing = (class_at 0 0 ∷ []);
        fields = (record { name = codes "n"; class = class_at 0 1; line = 2; type = of_type.Int; starts = Never } ∷ []);
        members = [];
      }
      ∷ [];
  globals = [];
  types = ((0, at 2 6, of_type.Int) ∷ []);
  constants = [];
  resources = [];
  enums = [];
})

abbrev pub code_member_type : Project → List ClassMeans
code_member_type P =
    record {
      class = class_at 0 0;
      starts = [];
      functions =
          func P (class_at 0 0) false (identifier (at 3 6) (codes "_init")) []
          (local P (at 4 2) (identifier (at 4 6) (codes "p")) (Some (call P (at 4 10) (member P (at 4 10) (name P (at 4 10) (codes "P")) (codes "new")) []))
          ∷ assigns P (at 5 2) (member P (at 5 2) (name P (at 5 2) (codes "p")) (codes "n")) assign.Set (txt P (at 5 8) (codes "a"))
          ∷ [])
          ∷ [];
    }
    ∷ []

-- func f(a: int, b := "x"):
--     print(a, b)
-- func _init():
--     var c = f
--     c.call(1)
--     c.call(2, "y")
--     c.call("z")
-- (_init, var: 2; a statement and f, which is 2, two times; the refused one: 1)
abbrev pub names_parameter_types : Project
names_parameter_types = project_of (record {
  classes =
      record {
        class = class_at 0 0;
        file = 0;
        text = codes "res://m.gd";
        above = (class_of.RefCounted ∷ class_of.Object ∷ []);
        enclosing = [];
        fields = [];
        members = ((codes "f", AFunction (class_at 0 0) false) ∷ (codes "_init", AFunction (class_at 0 0) false) ∷ []);
      }
      ∷ [];
  globals = [];
  types = ((0, at 1 8, of_type.Int) ∷ []);
  constants = [];
  resources = [];
  enums = [];
})

abbrev pub code_parameter_types : Project → List ClassMeans
code_parameter_types P =
    record {
      class = class_at 0 0;
      starts = [];
      functions =
          func P (class_at 0 0) false (identifier (at 1 6) (codes "f")) (param P (class_at 0 0) (identifier (at 1 8) (codes "a")) None ∷ param P (class_at 0 0) (identifier (at 1 16) (codes "b")) (Some (txt P (at 1 21) (codes "x"))) ∷ [])
          (does P (at 2 2) (call P (at 2 2) (name P (at 2 2) (codes "print")) ((name P (at 2 8) (codes "a")) ∷ (name P (at 2 11) (codes "b")) ∷ []))
          ∷ [])
          ∷ func P (class_at 0 0) false (identifier (at 3 6) (codes "_init")) []
          (local P (at 4 2) (identifier (at 4 6) (codes "c")) (Some (name P (at 4 10) (codes "f")))
          ∷ does P (at 5 2) (call P (at 5 2) (member P (at 5 2) (name P (at 5 2) (codes "c")) (codes "call")) ((num P (at 5 9) (pos 1)) ∷ []))
          ∷ does P (at 6 2) (call P (at 6 2) (member P (at 6 2) (name P (at 6 2) (codes "c")) (codes "call")) ((num P (at 6 9) (pos 2)) ∷ (txt P (at 6 12) (codes "y")) ∷ []))
          ∷ does P (at 7 2) (call P (at 7 2) (member P (at 7 2) (name P (at 7 2) (codes "c")) (codes "call")) ((txt P (at 7 9) (codes "z")) ∷ []))
          ∷ [])
          ∷ [];
    }
    ∷ []

-- func f() -> int:
--     var v = "a"
--     return v
-- func _init():
--     f()
abbrev pub names_result_type : Project
names_result_type = project_of (record {
  classes =
      record {
        class = class_at 0 0;
        file = 0;
        text = codes "res://m.gd";
        above = (class_of.RefCounted ∷ class_of.Object ∷ []);
        enclosing = [];
        fields = [];
        members = ((codes "f", AFunction (class_at 0 0) false) ∷ (codes "_init", AFunction (class_at 0 0) false) ∷ []);
      }
      ∷ [];
  globals = [];
  types = ((0, at 1 6, of_type.Int) ∷ []);
  constants = [];
  resources = [];
  enums = [];
})

abbrev pub code_result_type : Project → List ClassMeans
code_result_type P =
    record {
      class = class_at 0 0;
      starts = [];
      functions =
          func P (class_at 0 0) false (identifier (at 1 6) (codes "f")) []
          (local P (at 2 2) (identifier (at 2 6) (codes "v")) (Some (txt P (at 2 10) (codes "a")))
          ∷ returns P (at 3 2) (Some (name P (at 3 9) (codes "v")))
          ∷ [])
          ∷ func P (class_at 0 0) false (identifier (at 4 6) (codes "_init")) []
          (does P (at 5 2) (call P (at 5 2) (name P (at 5 2) (codes "f")) []) ∷ [])
          ∷ [];
    }
    ∷ []

-- func f(x: int): pass
-- func _init():
--     var g = f
--     g.call("a")
abbrev pub names_typed_parameter : Project
names_typed_parameter = project_of (record {
  classes =
      record {
        class = class_at 0 0;
        file = 0;
        text = codes "res://m.gd";
        above = (class_of.RefCounted ∷ class_of.Object ∷ []);
        enclosing = [];
        fields = [];
        members = ((codes "f", AFunction (class_at 0 0) false) ∷ (codes "_init", AFunction (class_at 0 0) false) ∷ []);
      }
      ∷ [];
  globals = [];
  types = ((0, at 1 8, of_type.Int) ∷ []);
  constants = [];
  resources = [];
  enums = [];
})

abbrev pub code_typed_parameter : Project → List ClassMeans
code_typed_parameter P =
    record {
      class = class_at 0 0;
      starts = [];
      functions =
          func P (class_at 0 0) false (identifier (at 1 6) (codes "f")) (param P (class_at 0 0) (identifier (at 1 8) (codes "x")) None ∷ [])
          (passes P (at 1 17) ∷ [])
          ∷ func P (class_at 0 0) false (identifier (at 2 6) (codes "_init")) []
          (local P (at 3 2) (identifier (at 3 6) (codes "g")) (Some (name P (at 3 10) (codes "f")))
          ∷ does P (at 4 2) (call P (at 4 2) (member P (at 4 2) (name P (at 4 2) (codes "g")) (codes "call")) ((txt P (at 4 9) (codes "a")) ∷ []))
          ∷ [])
          ∷ [];
    }
    ∷ []

-- func f(x) -> void:
--     return x
-- func _init():
--     f(null)
--     f(1)
-- (_init: 1; a statement, f and its return, two times)
abbrev pub names_void_result : Project
names_void_result = project_of (record {
  classes =
      record {
        class = class_at 0 0;
        file = 0;
        text = codes "res://m.gd";
        above = (class_of.RefCounted ∷ class_of.Object ∷ []);
        enclosing = [];
        fields = [];
        members = ((codes "f", AFunction (class_at 0 0) false) ∷ (codes "_init", AFunction (class_at 0 0) false) ∷ []);
      }
      ∷ [];
  globals = [];
  types = ((0, at 1 6, of_type.Void) ∷ []);
  constants = [];
  resources = [];
  enums = [];
})

abbrev pub code_void_result : Project → List ClassMeans
code_void_result P =
    record {
      class = class_at 0 0;
      starts = [];
      functions =
          func P (class_at 0 0) false (identifier (at 1 6) (codes "f")) (param P (class_at 0 0) (identifier (at 1 8) (codes "x")) None ∷ [])
          (returns P (at 2 2) (Some (name P (at 2 9) (codes "x"))) ∷ [])
          ∷ func P (class_at 0 0) false (identifier (at 3 6) (codes "_init")) []
          (does P (at 4 2) (call P (at 4 2) (name P (at 4 2) (codes "f")) ((lit P (at 4 4) literal.Null) ∷ []))
          ∷ does P (at 5 2) (call P (at 5 2) (name P (at 5 2) (codes "f")) ((num P (at 5 4) (pos 1)) ∷ []))
          ∷ [])
          ∷ [];
    }
    ∷ []

-- func _init():
--     for i: int in [1, "a"]: print(i)
abbrev pub names_typed_walk : Project
names_typed_walk = project_of (record {
  classes =
      record {
        class = class_at 0 0;
        file = 0;
        text = codes "res://m.gd";
        above = (class_of.RefCounted ∷ class_of.Object ∷ []);
        enclosing = [];
        fields = [];
        members = ((codes "_init", AFunction (class_at 0 0) false) ∷ []);
      }
      ∷ [];
  globals = [];
  types = ((0, at 2 6, of_type.Int) ∷ []);
  constants = [];
  resources = [];
  enums = [];
})

abbrev pub code_typed_walk : Project → List ClassMeans
code_typed_walk P =
    record {
      class = class_at 0 0;
      starts = [];
      functions =
          func P (class_at 0 0) false (identifier (at 1 6) (codes "_init")) []
          (walks P (at 2 2) (identifier (at 2 6) (codes "i")) (array P (at 2 16) ((num P (at 2 17) (pos 1)) ∷ (txt P (at 2 20) (codes "a")) ∷ [])) (does P (at 2 26) (call P (at 2 26) (name P (at 2 26) (codes "print")) ((name P (at 2 32) (codes "i")) ∷ []))
          ∷ [])
          ∷ [])
          ∷ [];
    }
    ∷ []

-- func f(a: int):
--     pass
-- func _init():
--     var c = f
--     c.call("z", 1)
abbrev pub names_arguments_before_types : Project
names_arguments_before_types = project_of (record {
  classes =
      record {
        class = class_at 0 0;
        file = 0;
        text = codes "res://m.gd";
        above = (class_of.RefCounted ∷ class_of.Object ∷ []);
        enclosing = [];
        fields = [];
        members = ((codes "f", AFunction (class_at 0 0) false) ∷ (codes "_init", AFunction (class_at 0 0) false) ∷ []);
      }
      ∷ [];
  globals = [];
  types = ((0, at 1 8, of_type.Int) ∷ []);
  constants = [];
  resources = [];
  enums = [];
})

abbrev pub code_arguments_before_types : Project → List ClassMeans
code_arguments_before_types P =
    record {
      class = class_at 0 0;
      starts = [];
      functions =
          func P (class_at 0 0) false (identifier (at 1 6) (codes "f")) (param P (class_at 0 0) (identifier (at 1 8) (codes "a")) None ∷ [])
          (passes P (at 2 2) ∷ [])
          ∷ func P (class_at 0 0) false (identifier (at 3 6) (codes "_init")) []
          (local P (at 4 2) (identifier (at 4 6) (codes "c")) (Some (name P (at 4 10) (codes "f")))
          ∷ does P (at 5 2) (call P (at 5 2) (member P (at 5 2) (name P (at 5 2) (codes "c")) (codes "call")) ((txt P (at 5 9) (codes "z")) ∷ (num P (at 5 14) (pos 1)) ∷ []))
          ∷ [])
          ∷ [];
    }
    ∷ []

-- func g():
--     return "x"
-- func f(a: int = g()):
--     pass
-- func _init():
--     f()
abbrev pub names_default_type : Project
names_default_type = project_of (record {
  classes =
      record {
        class = class_at 0 0;
        file = 0;
        text = codes "res://m.gd";
        above = (class_of.RefCounted ∷ class_of.Object ∷ []);
        enclosing = [];
        fields = [];
        members = ((codes "g", AFunction (class_at 0 0) false) ∷ (codes "f", AFunction (class_at 0 0) false) ∷ (codes "_init", AFunction (class_at 0 0) false) ∷ []);
      }
      ∷ [];
  globals = [];
  types = ((0, at 3 8, of_type.Int) ∷ []);
  constants = [];
  resources = [];
  enums = [];
})

abbrev pub code_default_type : Project → List ClassMeans
code_default_type P =
    record {
      class = class_at 0 0;
      starts = [];
      functions =
          func P (class_at 0 0) false (identifier (at 1 6) (codes "g")) []
          (returns P (at 2 2) (Some (txt P (at 2 9) (codes "x"))) ∷ [])
          ∷ func P (class_at 0 0) false (identifier (at 3 6) (codes "f")) (param P (class_at 0 0) (identifier (at 3 8) (codes "a")) (Some (call P (at 3 17) (name P (at 3 17) (codes "g")) [])) ∷ [])
          (passes P (at 4 2) ∷ [])
          ∷ func P (class_at 0 0) false (identifier (at 5 6) (codes "_init")) []
          (does P (at 6 2) (call P (at 6 2) (name P (at 6 2) (codes "f")) []) ∷ [])
          ∷ [];
    }
    ∷ []

-- func g():
--     return "x"
-- var n: int = g()
-- func _init():
--     pass
abbrev pub names_initialiser_type : Project
names_initialiser_type = project_of (record {
  classes =
      record {
        class = class_at 0 0;
        file = 0;
        text = codes "res://m.gd";
        above = (class_of.RefCounted ∷ class_of.Object ∷ []);
        enclosing = [];
        fields = (record { name = codes "n"; class = class_at 0 0; line = 3; type = of_type.Int; starts = WithNew } ∷ []);
        members = ((codes "g", AFunction (class_at 0 0) false) ∷ (codes "_init", AFunction (class_at 0 0) false) ∷ []);
      }
      ∷ [];
  globals = [];
  types = ((0, at 3 5, of_type.Int) ∷ []);
  constants = [];
  resources = [];
  enums = [];
})

abbrev pub code_initialiser_type : Project → List ClassMeans
code_initialiser_type P =
    record {
      class = class_at 0 0;
      starts = ((codes "n", (call P (at 3 14) (name P (at 3 14) (codes "g")) [])) ∷ []);
      functions =
          func P (class_at 0 0) false (identifier (at 1 6) (codes "g")) []
          (returns P (at 2 2) (Some (txt P (at 2 9) (codes "x"))) ∷ [])
          ∷ func P (class_at 0 0) false (identifier (at 4 6) (codes "_init")) []
          (passes P (at 5 2) ∷ [])
          ∷ [];
    }
    ∷ []

-- what these scripts write, each in so many steps at most
pub record TypeRows : Type 0 where
  pub row_types : writes names_types code_types 100 ≡ codes "truetruefalsetruefalsefalsetruetruefalse\ntrue<null>1\nfault BadType res://m.gd:10 steps 6\n"
  pub row_native_types : writes names_native_types code_native_types 9 ≡ codes "truefalsefalse<null>1\nfault BadType res://m.gd:3 steps 3\n"
  pub row_local_types : writes names_local_types code_local_types 100 ≡ codes "2\nfault BadType res://m.gd:6 steps 6\n"
  pub row_inferred : writes names_inferred code_inferred 100 ≡ codes "fault BadType res://m.gd:4 steps 4\n"
  pub row_field_type : writes names_field_type code_field_type 100 ≡ codes "fault BadType res://m.gd:4 steps 4\n"
  pub row_member_type : writes names_member_type code_member_type 100 ≡ codes "fault BadType res://m.gd:5 steps 3\n"
  pub row_parameter_types : writes names_parameter_types code_parameter_types 100 ≡ codes "1x\n2y\nfault BadType res://m.gd:7 steps 9\n"
  pub row_result_type : writes names_result_type code_result_type 100 ≡ codes "fault BadType res://m.gd:3 steps 5\n"
  pub row_typed_parameter : writes names_typed_parameter code_typed_parameter 9 ≡ codes "fault BadType res://m.gd:4 steps 3\n"
  pub row_void_result : writes names_void_result code_void_result 100 ≡ codes "fault BadType res://m.gd:2 steps 7\n"
  pub row_typed_walk : writes names_typed_walk code_typed_walk 100 ≡ codes "1\nfault BadType res://m.gd:2 steps 5\n"
  pub row_arguments_before_types : writes names_arguments_before_types code_arguments_before_types 100 ≡ codes "fault BadArgs res://m.gd:5 steps 3\n"
  pub row_default_type : writes names_default_type code_default_type 100 ≡ codes "fault BadType res://m.gd:3 steps 5\n"
  pub row_initialiser_type : writes names_initialiser_type code_initialiser_type 100 ≡ codes "fault BadType res://m.gd:3 steps 3\n"
