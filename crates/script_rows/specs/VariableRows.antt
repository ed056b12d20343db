-- Worked runs on variables, assignments, and when objects go.
use Rattle.std.specs.Prelude.{◌≡◌, pos, true, false, List, [], ◌∷◌, codes, Some, None}
use Rattle.folder_meaning.specs.declared.script_type.ScriptType.TheVariants as of_type
use Rattle.gd_syntax.specs.declared.tree.expr.Literal.TheVariants as literal
use Rattle.gd_syntax.specs.declared.tree.expr.TreeOp.TheVariants as op
use Rattle.gd_syntax.specs.declared.tree.expr.TreePrefix.TheVariants as prefix
use Rattle.gd_syntax.specs.declared.tree.statement.AssignOp.TheVariants as assign
use Rattle.variant_values.specs.declared.classes.ClassTag.TheVariants as class_of
use Rattle.variant_values.specs.declared.values.Value.TheVariants.{Int}
use Rattle.script_meaning.specs.Projects.{Project, AFunction, AClass, WithNew}
use Rattle.script_meaning.specs.Constants.{scalar_made, array_made}
use Rattle.script_meaning.specs.Tables.{ClassMeans}
use Rattle.script_rows.specs.Scripts.{at, identifier, lit, num, txt, name, array, dictionary, index, member, call, prefixed, binary, passes, returns, local, local_constant, assigns, does, branch, tests, walks, param, func, class_at, project_of, plain_names, writes}

-- func _init():
--     var a: int
--     var b: bool
--     var c: String
--     var d: Array
--     var e: Dictionary
--     var f
--     var g: RefCounted
--     print(a, b, c, d, e, f, g)
abbrev pub names_local_defaults : Project
names_local_defaults = project_of (record {
  classes =
      record {
        class = class_at 0 0;
        file = 0;
        text = codes "res://m.gd";
        above = (class_of.RefCounted ∷ class_of.Object ∷ []);
        enclosing = [];
        fields = [];
        members = ((codes "_init", AFunction (class_at 0 0) false) ∷ []);
      }
      ∷ [];
  globals = [];
  types = ((0, at 2 6, of_type.Int) ∷ (0, at 3 6, of_type.Bool) ∷ (0, at 4 6, of_type.Str) ∷ (0, at 5 6, (of_type.Array None)) ∷ (0, at 6 6, of_type.Dict) ∷ (0, at 8 6, (of_type.Instance class_of.RefCounted)) ∷ []);
  constants = [];
  resources = [];
  enums = [];
})

abbrev pub code_local_defaults : Project → List ClassMeans
code_local_defaults P =
    record {
      class = class_at 0 0;
      starts = [];
      functions =
          func P (class_at 0 0) false (identifier (at 1 6) (codes "_init")) []
          (local P (at 2 2) (identifier (at 2 6) (codes "a")) None
          ∷ local P (at 3 2) (identifier (at 3 6) (codes "b")) None
          ∷ local P (at 4 2) (identifier (at 4 6) (codes "c")) None
          ∷ local P (at 5 2) (identifier (at 5 6) (codes "d")) None
          ∷ local P (at 6 2) (identifier (at 6 6) (codes "e")) None
          ∷ local P (at 7 2) (identifier (at 7 6) (codes "f")) None
          ∷ local P (at 8 2) (identifier (at 8 6) (codes "g")) None
          ∷ does P (at 9 2) (call P (at 9 2) (name P (at 9 2) (codes "print")) ((name P (at 9 8) (codes "a")) ∷ (name P (at 9 11) (codes "b")) ∷ (name P (at 9 14) (codes "c")) ∷ (name P (at 9 17) (codes "d")) ∷ (name P (at 9 20) (codes "e")) ∷ (name P (at 9 23) (codes "f")) ∷ (name P (at 9 26) (codes "g")) ∷ []))
          ∷ [])
          ∷ [];
    }
    ∷ []

-- func _init():
--     const C = [1]
--     C.append(2)
--     print(C)
abbrev pub names_local_constant : Project
names_local_constant = project_of (record {
  classes =
      record {
        class = class_at 0 0;
        file = 0;
        text = codes "res://m.gd";
        above = (class_of.RefCounted ∷ class_of.Object ∷ []);
        enclosing = [];
        fields = [];
        members = ((codes "_init", AFunction (class_at 0 0) false) ∷ []);
      }
      ∷ [];
  globals = [];
  types = [];
  constants = ((0, at 2 8, array_made (scalar_made (Int (pos 1)) ∷ [])) ∷ []);
  resources = [];
  enums = [];
})

abbrev pub code_local_constant : Project → List ClassMeans
code_local_constant P =
    record {
      class = class_at 0 0;
      starts = [];
      functions =
          func P (class_at 0 0) false (identifier (at 1 6) (codes "_init")) []
          (local_constant P (at 2 2) (identifier (at 2 8) (codes "C"))
          ∷ does P (at 3 2) (call P (at 3 2) (member P (at 3 2) (name P (at 3 2) (codes "C")) (codes "append")) ((num P (at 3 11) (pos 2)) ∷ []))
          ∷ does P (at 4 2) (call P (at 4 2) (name P (at 4 2) (codes "print")) ((name P (at 4 8) (codes "C")) ∷ []))
          ∷ [])
          ∷ [];
    }
    ∷ []

-- func _init():
--     var n = 7
--     n += 5
--     n -= 2
--     n *= 3
--     n /= 4
--     n %= 5
--     n <<= 3
--     n |= 1
--     n ^= 3
--     n &= 14
--     n >>= 1
--     print(n)
abbrev pub names_assignments : Project
names_assignments = plain_names (codes "_init" ∷ [])

abbrev pub code_assignments : Project → List ClassMeans
code_assignments P =
    record {
      class = class_at 0 0;
      starts = [];
      functions =
          func P (class_at 0 0) false (identifier (at 1 6) (codes "_init")) []
          (local P (at 2 2) (identifier (at 2 6) (codes "n")) (Some (num P (at 2 10) (pos 7)))
          ∷ assigns P (at 3 2) (name P (at 3 2) (codes "n")) assign.Add (num P (at 3 7) (pos 5))
          ∷ assigns P (at 4 2) (name P (at 4 2) (codes "n")) assign.Sub (num P (at 4 7) (pos 2))
          ∷ assigns P (at 5 2) (name P (at 5 2) (codes "n")) assign.Mul (num P (at 5 7) (pos 3))
          ∷ assigns P (at 6 2) (name P (at 6 2) (codes "n")) assign.Div (num P (at 6 7) (pos 4))
          ∷ assigns P (at 7 2) (name P (at 7 2) (codes "n")) assign.Rem (num P (at 7 7) (pos 5))
          ∷ assigns P (at 8 2) (name P (at 8 2) (codes "n")) assign.Shl (num P (at 8 8) (pos 3))
          ∷ assigns P (at 9 2) (name P (at 9 2) (codes "n")) assign.BitOr (num P (at 9 7) (pos 1))
          ∷ assigns P (at 10 2) (name P (at 10 2) (codes "n")) assign.BitXor (num P (at 10 7) (pos 3))
          ∷ assigns P (at 11 2) (name P (at 11 2) (codes "n")) assign.BitAnd (num P (at 11 7) (pos 14))
          ∷ assigns P (at 12 2) (name P (at 12 2) (codes "n")) assign.Shr (num P (at 12 8) (pos 1))
          ∷ does P (at 13 2) (call P (at 13 2) (name P (at 13 2) (codes "print")) ((name P (at 13 8) (codes "n")) ∷ []))
          ∷ [])
          ∷ [];
    }
    ∷ []

-- func f(n, x):
--     print(n)
--     return x
-- func _init():
--     var a = [1, 2]
--     f("t", a)[f("i", 0)] += f("r", 5)
--     print(a)
-- (_init, var, the assignment, print: 4; three calls of 3)
abbrev pub names_order_of_parts : Project
names_order_of_parts = plain_names (codes "f" ∷ codes "_init" ∷ [])

abbrev pub code_order_of_parts : Project → List ClassMeans
code_order_of_parts P =
    record {
      class = class_at 0 0;
      starts = [];
      functions =
          func P (class_at 0 0) false (identifier (at 1 6) (codes "f")) (param P (class_at 0 0) (identifier (at 1 8) (codes "n")) None ∷ param P (class_at 0 0) (identifier (at 1 11) (codes "x")) None ∷ [])
          (does P (at 2 2) (call P (at 2 2) (name P (at 2 2) (codes "print")) ((name P (at 2 8) (codes "n")) ∷ []))
          ∷ returns P (at 3 2) (Some (name P (at 3 9) (codes "x")))
          ∷ [])
          ∷ func P (class_at 0 0) false (identifier (at 4 6) (codes "_init")) []
          (local P (at 5 2) (identifier (at 5 6) (codes "a")) (Some (array P (at 5 10) ((num P (at 5 11) (pos 1)) ∷ (num P (at 5 14) (pos 2)) ∷ [])))
          ∷ assigns P (at 6 2) (index P (at 6 2) (call P (at 6 2) (name P (at 6 2) (codes "f")) ((txt P (at 6 4) (codes "t")) ∷ (name P (at 6 9) (codes "a")) ∷ [])) (call P (at 6 12) (name P (at 6 12) (codes "f")) ((txt P (at 6 14) (codes "i")) ∷ (num P (at 6 19) (pos 0)) ∷ []))) assign.Add (call P (at 6 26) (name P (at 6 26) (codes "f")) ((txt P (at 6 28) (codes "r")) ∷ (num P (at 6 33) (pos 5)) ∷ []))
          ∷ does P (at 7 2) (call P (at 7 2) (name P (at 7 2) (codes "print")) ((name P (at 7 8) (codes "a")) ∷ []))
          ∷ [])
          ∷ [];
    }
    ∷ []

-- var x = 1
-- func g():
--     x = 10
--     return 5
-- func _init():
--     x += g()
--     print(x)
abbrev pub names_old_value : Project
names_old_value = project_of (record {
  classes =
      record {
        class = class_at 0 0;
        file = 0;
        text = codes "res://m.gd";
        above = (class_of.RefCounted ∷ class_of.Object ∷ []);
        enclosing = [];
        fields = (record { name = codes "x"; class = class_at 0 0; line = 1; type = of_type.Variant; starts = WithNew } ∷ []);
        members = ((codes "g", AFunction (class_at 0 0) false) ∷ (codes "_init", AFunction (class_at 0 0) false) ∷ []);
      }
      ∷ [];
  globals = [];
  types = [];
  constants = [];
  resources = [];
  enums = [];
})

abbrev pub code_old_value : Project → List ClassMeans
code_old_value P =
    record {
      class = class_at 0 0;
      starts = ((codes "x", (num P (at 1 9) (pos 1))) ∷ []);
      functions =
          func P (class_at 0 0) false (identifier (at 2 6) (codes "g")) []
          (assigns P (at 3 2) (name P (at 3 2) (codes "x")) assign.Set (num P (at 3 6) (pos 10))
          ∷ returns P (at 4 2) (Some (num P (at 4 9) (pos 5)))
          ∷ [])
          ∷ func P (class_at 0 0) false (identifier (at 5 6) (codes "_init")) []
          (assigns P (at 6 2) (name P (at 6 2) (codes "x")) assign.Add (call P (at 6 7) (name P (at 6 7) (codes "g")) [])
          ∷ does P (at 7 2) (call P (at 7 2) (name P (at 7 2) (codes "print")) ((name P (at 7 8) (codes "x")) ∷ []))
          ∷ [])
          ∷ [];
    }
    ∷ []

-- class P:
--     var v = 1
-- func _init():
--     var p = P.new()
--     p.v = 5
--     p.v += 2
--     var d = {}
--     d.k = p.v
--     d["j"] = 1
--     print(p.v, d)
--     p.w = 1
-- (_init: 1; eight statements, the last of which fails; the initialiser of v: 1)
abbrev pub names_members : Project
names_members = project_of (record {
  classes =
      record {
        class = class_at 0 0;
        file = 0;
        text = codes "res://m.gd";
        above = (class_of.RefCounted ∷ class_of.Object ∷ []);
        enclosing = [];
        fields = [];
        members = ((codes "_init", AFunction (class_at 0 0) false) ∷ (codes "P", AClass (class_at 0 1)) ∷ []);
      }
      ∷ record {
        class = class_at 0 1;
        file = 0;
        text = codes "P";
        above = (class_of.RefCounted ∷ class_of.Object ∷ []);
        enclosing = (class_at 0 0 ∷ []);
        fields = (record { name = codes "v"; class = class_at 0 1; line = 2; type = of_type.Variant; starts = WithNew } ∷ []);
        members = [];
      }
      ∷ [];
  globals = [];
  types = [];
  constants = [];
  resources = [];
  enums = [];
})

abbrev pub code_members : Project → List ClassMeans
code_members P =
    record {
      class = class_at 0 0;
      starts = [];
      functions =
          func P (class_at 0 0) false (identifier (at 3 6) (codes "_init")) []
          (local P (at 4 2) (identifier (at 4 6) (codes "p")) (Some (call P (at 4 10) (member P (at 4 10) (name P (at 4 10) (codes "P")) (codes "new")) []))
          ∷ assigns P (at 5 2) (member P (at 5 2) (name P (at 5 2) (codes "p")) (codes "v")) assign.Set (num P (at 5 8) (pos 5))
          ∷ assigns P (at 6 2) (member P (at 6 2) (name P (at 6 2) (codes "p")) (codes "v")) assign.Add (num P (at 6 9) (pos 2))
          ∷ local P (at 7 2) (identifier (at 7 6) (codes "d")) (Some (dictionary P (at 7 10) []))
          ∷ assigns P (at 8 2) (member P (at 8 2) (name P (at 8 2) (codes "d")) (codes "k")) assign.Set (member P (at 8 8) (name P (at 8 8) (codes "p")) (codes "v"))
          ∷ assigns P (at 9 2) (index P (at 9 2) (name P (at 9 2) (codes "d")) (txt P (at 9 4) (codes "j"))) assign.Set (num P (at 9 11) (pos 1))
          ∷ does P (at 10 2) (call P (at 10 2) (name P (at 10 2) (codes "print")) ((member P (at 10 8) (name P (at 10 8) (codes "p")) (codes "v")) ∷ (name P (at 10 13) (codes "d")) ∷ []))
          ∷ assigns P (at 11 2) (member P (at 11 2) (name P (at 11 2) (codes "p")) (codes "w")) assign.Set (num P (at 11 8) (pos 1))
          ∷ [])
          ∷ [];
    }
    ∷ record {
      class = class_at 0 1;
      starts = ((codes "v", (num P (at 2 10) (pos 1))) ∷ []);
      functions =
          [];
    }
    ∷ []

-- func _init():
--     var s = "abc"
--     s[0] = "x"
abbrev pub names_into_string : Project
names_into_string = plain_names (codes "_init" ∷ [])

abbrev pub code_into_string : Project → List ClassMeans
code_into_string P =
    record {
      class = class_at 0 0;
      starts = [];
      functions =
          func P (class_at 0 0) false (identifier (at 1 6) (codes "_init")) []
          (local P (at 2 2) (identifier (at 2 6) (codes "s")) (Some (txt P (at 2 10) (codes "abc")))
          ∷ assigns P (at 3 2) (index P (at 3 2) (name P (at 3 2) (codes "s")) (num P (at 3 4) (pos 0))) assign.Set (txt P (at 3 9) (codes "x"))
          ∷ [])
          ∷ [];
    }
    ∷ []

-- func _init():
--     var a = [1]
--     a[-1] = 4
--     print(a)
--     a[1] = 0
abbrev pub names_into_array : Project
names_into_array = plain_names (codes "_init" ∷ [])

abbrev pub code_into_array : Project → List ClassMeans
code_into_array P =
    record {
      class = class_at 0 0;
      starts = [];
      functions =
          func P (class_at 0 0) false (identifier (at 1 6) (codes "_init")) []
          (local P (at 2 2) (identifier (at 2 6) (codes "a")) (Some (array P (at 2 10) ((num P (at 2 11) (pos 1)) ∷ [])))
          ∷ assigns P (at 3 2) (index P (at 3 2) (name P (at 3 2) (codes "a")) (prefixed P (at 3 4) prefix.Neg (num P (at 3 5) (pos 1)))) assign.Set (num P (at 3 10) (pos 4))
          ∷ does P (at 4 2) (call P (at 4 2) (name P (at 4 2) (codes "print")) ((name P (at 4 8) (codes "a")) ∷ []))
          ∷ assigns P (at 5 2) (index P (at 5 2) (name P (at 5 2) (codes "a")) (num P (at 5 4) (pos 1))) assign.Set (num P (at 5 9) (pos 0))
          ∷ [])
          ∷ [];
    }
    ∷ []

-- class A:
--     pass
-- func _init():
--     var w
--     if true:
--         var a = A.new()
--         w = weakref(a)
--         print(w.get_ref() == a)
--     print(w.get_ref())
abbrev pub names_block_ends : Project
names_block_ends = project_of (record {
  classes =
      record {
        class = class_at 0 0;
        file = 0;
        text = codes "res://m.gd";
        above = (class_of.RefCounted ∷ class_of.Object ∷ []);
        enclosing = [];
        fields = [];
        members = ((codes "_init", AFunction (class_at 0 0) false) ∷ (codes "A", AClass (class_at 0 1)) ∷ []);
      }
      ∷ record {
        class = class_at 0 1;
        file = 0;
        text = codes "A";
        above = (class_of.RefCounted ∷ class_of.Object ∷ []);
        enclosing = (class_at 0 0 ∷ []);
        fields = [];
        members = [];
      }
      ∷ [];
  globals = [];
  types = [];
  constants = [];
  resources = [];
  enums = [];
})

abbrev pub code_block_ends : Project → List ClassMeans
code_block_ends P =
    record {
      class = class_at 0 0;
      starts = [];
      functions =
          func P (class_at 0 0) false (identifier (at 3 6) (codes "_init")) []
          (local P (at 4 2) (identifier (at 4 6) (codes "w")) None
          ∷ tests P (at 5 2) (branch P (at 5 2) (lit P (at 5 5) (literal.Bool true)) (local P (at 6 3) (identifier (at 6 7) (codes "a")) (Some (call P (at 6 11) (member P (at 6 11) (name P (at 6 11) (codes "A")) (codes "new")) []))
          ∷ assigns P (at 7 3) (name P (at 7 3) (codes "w")) assign.Set (call P (at 7 7) (name P (at 7 7) (codes "weakref")) ((name P (at 7 15) (codes "a")) ∷ []))
          ∷ does P (at 8 3) (call P (at 8 3) (name P (at 8 3) (codes "print")) ((binary P (at 8 9) op.Eq (call P (at 8 9) (member P (at 8 9) (name P (at 8 9) (codes "w")) (codes "get_ref")) []) (name P (at 8 24) (codes "a"))) ∷ []))
          ∷ []) ∷ []) None
          ∷ does P (at 9 2) (call P (at 9 2) (name P (at 9 2) (codes "print")) ((call P (at 9 8) (member P (at 9 8) (name P (at 9 8) (codes "w")) (codes "get_ref")) []) ∷ []))
          ∷ [])
          ∷ [];
    }
    ∷ []

-- class Box:
--     func f():
--         pass
-- func g():
--     var b = Box.new()
--     return b
-- func _init():
--     var c = Box.new().f
--     print(c.is_valid(), " ", Box.new().f.is_valid(), " ", g().f.is_valid(), " ", k().f.is_valid())
--     var b = g()
--     var d = b.f
--     print(d.is_valid())
--     b = null
--     print(d.is_valid(), " ", b)
-- func k():
--     return Box.new()
-- (_init: 1; seven statements; g is 3, two times; k is 2)
abbrev pub names_unit_ends : Project
names_unit_ends = project_of (record {
  classes =
      record {
        class = class_at 0 0;
        file = 0;
        text = codes "res://m.gd";
        above = (class_of.RefCounted ∷ class_of.Object ∷ []);
        enclosing = [];
        fields = [];
        members = ((codes "g", AFunction (class_at 0 0) false) ∷ (codes "_init", AFunction (class_at 0 0) false) ∷ (codes "k", AFunction (class_at 0 0) false) ∷ (codes "Box", AClass (class_at 0 1)) ∷ []);
      }
      ∷ record {
        class = class_at 0 1;
        file = 0;
        text = codes "Box";
        above = (class_of.RefCounted ∷ class_of.Object ∷ []);
        enclosing = (class_at 0 0 ∷ []);
        fields = [];
        members = ((codes "f", AFunction (class_at 0 1) false) ∷ []);
      }
      ∷ [];
  globals = [];
  types = [];
  constants = [];
  resources = [];
  enums = [];
})

abbrev pub code_unit_ends : Project → List ClassMeans
code_unit_ends P =
    record {
      class = class_at 0 0;
      starts = [];
      functions =
          func P (class_at 0 0) false (identifier (at 4 6) (codes "g")) []
          (local P (at 5 2) (identifier (at 5 6) (codes "b")) (Some (call P (at 5 10) (member P (at 5 10) (name P (at 5 10) (codes "Box")) (codes "new")) []))
          ∷ returns P (at 6 2) (Some (name P (at 6 9) (codes "b")))
          ∷ [])
          ∷ func P (class_at 0 0) false (identifier (at 7 6) (codes "_init")) []
          (local P (at 8 2) (identifier (at 8 6) (codes "c")) (Some (member P (at 8 10) (call P (at 8 10) (member P (at 8 10) (name P (at 8 10) (codes "Box")) (codes "new")) []) (codes "f")))
          ∷ does P (at 9 2) (call P (at 9 2) (name P (at 9 2) (codes "print")) ((call P (at 9 8) (member P (at 9 8) (name P (at 9 8) (codes "c")) (codes "is_valid")) []) ∷ (txt P (at 9 22) (codes " ")) ∷ (call P (at 9 27) (member P (at 9 27) (member P (at 9 27) (call P (at 9 27) (member P (at 9 27) (name P (at 9 27) (codes "Box")) (codes "new")) []) (codes "f")) (codes "is_valid")) []) ∷ (txt P (at 9 51) (codes " ")) ∷ (call P (at 9 56) (member P (at 9 56) (member P (at 9 56) (call P (at 9 56) (name P (at 9 56) (codes "g")) []) (codes "f")) (codes "is_valid")) []) ∷ (txt P (at 9 74) (codes " ")) ∷ (call P (at 9 79) (member P (at 9 79) (member P (at 9 79) (call P (at 9 79) (name P (at 9 79) (codes "k")) []) (codes "f")) (codes "is_valid")) []) ∷ []))
          ∷ local P (at 10 2) (identifier (at 10 6) (codes "b")) (Some (call P (at 10 10) (name P (at 10 10) (codes "g")) []))
          ∷ local P (at 11 2) (identifier (at 11 6) (codes "d")) (Some (member P (at 11 10) (name P (at 11 10) (codes "b")) (codes "f")))
          ∷ does P (at 12 2) (call P (at 12 2) (name P (at 12 2) (codes "print")) ((call P (at 12 8) (member P (at 12 8) (name P (at 12 8) (codes "d")) (codes "is_valid")) []) ∷ []))
          ∷ assigns P (at 13 2) (name P (at 13 2) (codes "b")) assign.Set (lit P (at 13 6) literal.Null)
          ∷ does P (at 14 2) (call P (at 14 2) (name P (at 14 2) (codes "print")) ((call P (at 14 8) (member P (at 14 8) (name P (at 14 8) (codes "d")) (codes "is_valid")) []) ∷ (txt P (at 14 22) (codes " ")) ∷ (name P (at 14 27) (codes "b")) ∷ []))
          ∷ [])
          ∷ func P (class_at 0 0) false (identifier (at 15 6) (codes "k")) []
          (returns P (at 16 2) (Some (call P (at 16 9) (member P (at 16 9) (name P (at 16 9) (codes "Box")) (codes "new")) []))
          ∷ [])
          ∷ [];
    }
    ∷ record {
      class = class_at 0 1;
      starts = [];
      functions =
          func P (class_at 0 1) false (identifier (at 2 7) (codes "f")) []
          (passes P (at 3 3) ∷ [])
          ∷ [];
    }
    ∷ []

-- class A:
--     pass
-- func _init():
--     var w
--     for a in [A.new()]:
--         w = weakref(a)
--         a = null
--         print(w.get_ref() != null)
--     print(w.get_ref() == null)
-- (_init, var, for: 3; the turn 4; the last test and print: 2)
abbrev pub names_hidden_local : Project
names_hidden_local = project_of (record {
  classes =
      record {
        class = class_at 0 0;
        file = 0;
        text = codes "res://m.gd";
        above = (class_of.RefCounted ∷ class_of.Object ∷ []);
        enclosing = [];
        fields = [];
        members = ((codes "_init", AFunction (class_at 0 0) false) ∷ (codes "A", AClass (class_at 0 1)) ∷ []);
      }
      ∷ record {
        class = class_at 0 1;
        file = 0;
        text = codes "A";
        above = (class_of.RefCounted ∷ class_of.Object ∷ []);
        enclosing = (class_at 0 0 ∷ []);
        fields = [];
        members = [];
      }
      ∷ [];
  globals = [];
  types = [];
  constants = [];
  resources = [];
  enums = [];
})

abbrev pub code_hidden_local : Project → List ClassMeans
code_hidden_local P =
    record {
      class = class_at 0 0;
      starts = [];
      functions =
          func P (class_at 0 0) false (identifier (at 3 6) (codes "_init")) []
          (local P (at 4 2) (identifier (at 4 6) (codes "w")) None
          ∷ walks P (at 5 2) (identifier (at 5 6) (codes "a")) (array P (at 5 11) ((call P (at 5 12) (member P (at 5 12) (name P (at 5 12) (codes "A")) (codes "new")) []) ∷ [])) (assigns P (at 6 3) (name P (at 6 3) (codes "w")) assign.Set (call P (at 6 7) (name P (at 6 7) (codes "weakref")) ((name P (at 6 15) (codes "a")) ∷ []))
          ∷ assigns P (at 7 3) (name P (at 7 3) (codes "a")) assign.Set (lit P (at 7 7) literal.Null)
          ∷ does P (at 8 3) (call P (at 8 3) (name P (at 8 3) (codes "print")) ((binary P (at 8 9) op.Ne (call P (at 8 9) (member P (at 8 9) (name P (at 8 9) (codes "w")) (codes "get_ref")) []) (lit P (at 8 24) literal.Null)) ∷ []))
          ∷ [])
          ∷ does P (at 9 2) (call P (at 9 2) (name P (at 9 2) (codes "print")) ((binary P (at 9 8) op.Eq (call P (at 9 8) (member P (at 9 8) (name P (at 9 8) (codes "w")) (codes "get_ref")) []) (lit P (at 9 23) literal.Null)) ∷ []))
          ∷ [])
          ∷ [];
    }
    ∷ []

-- class Box:
--     pass
-- func f():
--     pass
-- func _init():
--     print(Box.new(), f())
abbrev pub names_held : Project
names_held = project_of (record {
  classes =
      record {
        class = class_at 0 0;
        file = 0;
        text = codes "res://m.gd";
        above = (class_of.RefCounted ∷ class_of.Object ∷ []);
        enclosing = [];
        fields = [];
        members = ((codes "f", AFunction (class_at 0 0) false) ∷ (codes "_init", AFunction (class_at 0 0) false) ∷ (codes "Box", AClass (class_at 0 1)) ∷ []);
      }
      ∷ record {
        class = class_at 0 1;
        file = 0;
        text = codes "Box";
        above = (class_of.RefCounted ∷ class_of.Object ∷ []);
        enclosing = (class_at 0 0 ∷ []);
        fields = [];
        members = [];
      }
      ∷ [];
  globals = [];
  types = [];
  constants = [];
  resources = [];
  enums = [];
})

abbrev pub code_held : Project → List ClassMeans
code_held P =
    record {
      class = class_at 0 0;
      starts = [];
      functions =
          func P (class_at 0 0) false (identifier (at 3 6) (codes "f")) []
          (passes P (at 4 2) ∷ [])
          ∷ func P (class_at 0 0) false (identifier (at 5 6) (codes "_init")) []
          (does P (at 6 2) (call P (at 6 2) (name P (at 6 2) (codes "print")) ((call P (at 6 8) (member P (at 6 8) (name P (at 6 8) (codes "Box")) (codes "new")) []) ∷ (call P (at 6 19) (name P (at 6 19) (codes "f")) []) ∷ []))
          ∷ [])
          ∷ [];
    }
    ∷ []

-- class A:
--     pass
-- class B:
--     func _init(d):
--         var a = A.new()
--         d.w = weakref(a)
--         return a
-- func f():
--     pass
-- func _init():
--     var d = {}
--     print(B.new(d) != null, f(), d.w.get_ref() != null)
--     print(d.w.get_ref() == null)
-- (_init, var: 2; print, _init of B and f: 7; print: 1)
abbrev pub names_init_result : Project
names_init_result = project_of (record {
  classes =
      record {
        class = class_at 0 0;
        file = 0;
        text = codes "res://m.gd";
        above = (class_of.RefCounted ∷ class_of.Object ∷ []);
        enclosing = [];
        fields = [];
        members = ((codes "f", AFunction (class_at 0 0) false) ∷ (codes "_init", AFunction (class_at 0 0) false) ∷ (codes "A", AClass (class_at 0 1)) ∷ (codes "B", AClass (class_at 0 2)) ∷ []);
      }
      ∷ record {
        class = class_at 0 1;
        file = 0;
        text = codes "A";
        above = (class_of.RefCounted ∷ class_of.Object ∷ []);
        enclosing = (class_at 0 0 ∷ []);
        fields = [];
        members = [];
      }
      ∷ record {
        class = class_at 0 2;
        file = 0;
        text = codes "B";
        above = (class_of.RefCounted ∷ class_of.Object ∷ []);
        enclosing = (class_at 0 0 ∷ []);
        fields = [];
        members = ((codes "_init", AFunction (class_at 0 2) false) ∷ []);
      }
      ∷ [];
  globals = [];
  types = [];
  constants = [];
  resources = [];
  enums = [];
})

abbrev pub code_init_result : Project → List ClassMeans
code_init_result P =
    record {
      class = class_at 0 0;
      starts = [];
      functions =
          func P (class_at 0 0) false (identifier (at 8 6) (codes "f")) []
          (passes P (at 9 2) ∷ [])
          ∷ func P (class_at 0 0) false (identifier (at 10 6) (codes "_init")) []
          (local P (at 11 2) (identifier (at 11 6) (codes "d")) (Some (dictionary P (at 11 10) []))
          ∷ does P (at 12 2) (call P (at 12 2) (name P (at 12 2) (codes "print")) ((binary P (at 12 8) op.Ne (call P (at 12 8) (member P (at 12 8) (name P (at 12 8) (codes "B")) (codes "new")) ((name P (at 12 14) (codes "d")) ∷ [])) (lit P (at 12 20) literal.Null)) ∷ (call P (at 12 26) (name P (at 12 26) (codes "f")) []) ∷ (binary P (at 12 31) op.Ne (call P (at 12 31) (member P (at 12 31) (member P (at 12 31) (name P (at 12 31) (codes "d")) (codes "w")) (codes "get_ref")) []) (lit P (at 12 48) literal.Null)) ∷ []))
          ∷ does P (at 13 2) (call P (at 13 2) (name P (at 13 2) (codes "print")) ((binary P (at 13 8) op.Eq (call P (at 13 8) (member P (at 13 8) (member P (at 13 8) (name P (at 13 8) (codes "d")) (codes "w")) (codes "get_ref")) []) (lit P (at 13 25) literal.Null)) ∷ []))
          ∷ [])
          ∷ [];
    }
    ∷ record {
      class = class_at 0 2;
      starts = [];
      functions =
          func P (class_at 0 2) false (identifier (at 4 7) (codes "_init")) (param P (class_at 0 2) (identifier (at 4 13) (codes "d")) None ∷ [])
          (local P (at 5 3) (identifier (at 5 7) (codes "a")) (Some (call P (at 5 11) (member P (at 5 11) (name P (at 5 11) (codes "A")) (codes "new")) []))
          ∷ assigns P (at 6 3) (member P (at 6 3) (name P (at 6 3) (codes "d")) (codes "w")) assign.Set (call P (at 6 9) (name P (at 6 9) (codes "weakref")) ((name P (at 6 17) (codes "a")) ∷ []))
          ∷ returns P (at 7 3) (Some (name P (at 7 10) (codes "a")))
          ∷ [])
          ∷ [];
    }
    ∷ []

-- what these scripts write, each in so many steps at most
pub record VariableRows : Type 0 where
  pub row_local_defaults : writes names_local_defaults code_local_defaults 100 ≡ codes "0false[]{}<null><null>\ndone steps 9 left 0\n"
  pub row_local_constant : writes names_local_constant code_local_constant 100 ≡ codes "[1]\ndone steps 4 left 0\n"
  pub row_assignments : writes names_assignments code_assignments 100 ≡ codes "1\ndone steps 13 left 0\n"
  pub row_order_of_parts : writes names_order_of_parts code_order_of_parts 100 ≡ codes "t\ni\nr\n[6, 2]\ndone steps 13 left 0\n"
  pub row_old_value : writes names_old_value code_old_value 100 ≡ codes "6\ndone steps 7 left 0\n"
  pub row_members : writes names_members code_members 100 ≡ codes "7{ \"k\": 7, \"j\": 1 }\nfault NoMember res://m.gd:11 steps 10\n"
  pub row_into_string : writes names_into_string code_into_string 100 ≡ codes "fault BadOperands res://m.gd:3 steps 3\n"
  pub row_into_array : writes names_into_array code_into_array 100 ≡ codes "[4]\nfault BadIndex res://m.gd:5 steps 5\n"
  pub row_block_ends : writes names_block_ends code_block_ends 100 ≡ codes "true\n<null>\ndone steps 7 left 0\n"
  pub row_unit_ends : writes names_unit_ends code_unit_ends 100 ≡ codes "false true true true\ntrue\nfalse <null>\ndone steps 16 left 0\n"
  pub row_hidden_local : writes names_hidden_local code_hidden_local 100 ≡ codes "true\ntrue\ndone steps 9 left 0\n"
  pub row_held : writes names_held code_held 100 ≡ codes "<Box#2><null>\ndone steps 4 left 0\n"
  pub row_init_result : writes names_init_result code_init_result 100 ≡ codes "true<null>true\ntrue\ndone steps 10 left 0\n"
