-- Worked runs on objects and their classes.
use Rattle.std.specs.Prelude.{◌≡◌, pos, true, false, List, [], ◌∷◌, codes, Some, None}
use Rattle.folder_meaning.specs.declared.script_type.ScriptType.TheVariants as of_type
use Rattle.gd_syntax.specs.declared.tree.expr.TreeOp.TheVariants as op
use Rattle.variant_values.specs.declared.classes.ClassTag.TheVariants as class_of
use Rattle.script_meaning.specs.Projects.{Project, AFunction, AClass, Never, WithNew}
use Rattle.script_meaning.specs.Tables.{ClassMeans}
use Rattle.script_rows.specs.Scripts.{at, identifier, num, txt, name, this, array, super_init, super_call, member, call, binary, passes, returns, local, does, param, func, class_at, project_of, plain_names, writes}

-- static func s(n):
--     return n + 1
-- class In:
--     func t():
--         return s(5)
--     static func u(n):
--         return n * 2
-- func _init():
--     print(s(1), In.new().t(), self.s(2), In.u(3))
--     var k = In
--     print(k.u(4))
-- (_init, print: 2; s 2, t with s 4, s 2, u 2; var, print: 2; u: 2)
abbrev pub names_statics : Project
names_statics = project_of (record {
  classes =
      record {
        class = class_at 0 0;
        file = 0;
        text = codes "res://m.gd";
        above = (class_of.RefCounted ∷ class_of.Object ∷ []);
        enclosing = [];
        fields = [];
        members = ((codes "s", AFunction (class_at 0 0) true) ∷ (codes "_init", AFunction (class_at 0 0) false) ∷ (codes "In", AClass (class_at 0 1)) ∷ []);
      }
      ∷ record {
        class = class_at 0 1;
        file = 0;
        text = codes "In";
        above = (class_of.RefCounted ∷ class_of.Object ∷ []);
        enclosing = (class_at 0 0 ∷ []);
        fields = [];
        members = ((codes "t", AFunction (class_at 0 1) false) ∷ (codes "u", AFunction (class_at 0 1) true) ∷ []);
      }
      ∷ [];
  globals = [];
  types = [];
  constants = [];
  resources = [];
  enums = [];
})

abbrev pub code_statics : Project → List ClassMeans
code_statics P =
    record {
      class = class_at 0 0;
      starts = [];
      functions =
          func P (class_at 0 0) true (identifier (at 1 13) (codes "s")) (param P (class_at 0 0) (identifier (at 1 15) (codes "n")) None ∷ [])
          (returns P (at 2 2) (Some (binary P (at 2 9) op.Add (name P (at 2 9) (codes "n")) (num P (at 2 13) (pos 1))))
          ∷ [])
          ∷ func P (class_at 0 0) false (identifier (at 8 6) (codes "_init")) []
          (does P (at 9 2) (call P (at 9 2) (name P (at 9 2) (codes "print")) ((call P (at 9 8) (name P (at 9 8) (codes "s")) ((num P (at 9 10) (pos 1)) ∷ [])) ∷ (call P (at 9 14) (member P (at 9 14) (call P (at 9 14) (member P (at 9 14) (name P (at 9 14) (codes "In")) (codes "new")) []) (codes "t")) []) ∷ (call P (at 9 28) (member P (at 9 28) (this P (at 9 28)) (codes "s")) ((num P (at 9 35) (pos 2)) ∷ [])) ∷ (call P (at 9 39) (member P (at 9 39) (name P (at 9 39) (codes "In")) (codes "u")) ((num P (at 9 44) (pos 3)) ∷ [])) ∷ []))
          ∷ local P (at 10 2) (identifier (at 10 6) (codes "k")) (Some (name P (at 10 10) (codes "In")))
          ∷ does P (at 11 2) (call P (at 11 2) (name P (at 11 2) (codes "print")) ((call P (at 11 8) (member P (at 11 8) (name P (at 11 8) (codes "k")) (codes "u")) ((num P (at 11 12) (pos 4)) ∷ [])) ∷ []))
          ∷ [])
          ∷ [];
    }
    ∷ record {
      class = class_at 0 1;
      starts = [];
      functions =
          func P (class_at 0 1) false (identifier (at 4 7) (codes "t")) []
          (returns P (at 5 3) (Some (call P (at 5 10) (name P (at 5 10) (codes "s")) ((num P (at 5 12) (pos 5)) ∷ [])))
          ∷ [])
          ∷ func P (class_at 0 1) true (identifier (at 6 14) (codes "u")) (param P (class_at 0 1) (identifier (at 6 16) (codes "n")) None ∷ [])
          (returns P (at 7 3) (Some (binary P (at 7 10) op.Mul (name P (at 7 10) (codes "n")) (num P (at 7 14) (pos 2))))
          ∷ [])
          ∷ [];
    }
    ∷ []

-- class A:
--     func f():
--         return "A" + g()
--     func g():
--         return "a"
-- class B extends A:
--     func f():
--         return "B" + super()
--     func g():
--         return "b" + super.g()
-- func _init():
--     print(A.new().f(), " ", B.new().f())
-- (_init, print: 2; f with g of A: 4; f of B, f of A, g of B, g of A: 8)
abbrev pub names_virtual : Project
names_virtual = project_of (record {
  classes =
      record {
        class = class_at 0 0;
        file = 0;
        text = codes "res://m.gd";
        above = (class_of.RefCounted ∷ class_of.Object ∷ []);
        enclosing = [];
        fields = [];
        members = ((codes "_init", AFunction (class_at 0 0) false) ∷ (codes "A", AClass (class_at 0 1)) ∷ (codes "B", AClass (class_at 0 2)) ∷ []);
      }
      ∷ record {
        class = class_at 0 1;
        file = 0;
        text = codes "A";
        above = (class_of.RefCounted ∷ class_of.Object ∷ []);
        enclosing = (class_at 0 0 ∷ []);
        fields = [];
        members = ((codes "f", AFunction (class_at 0 1) false) ∷ (codes "g", AFunction (class_at 0 1) false) ∷ []);
      }
      ∷ record {
        class = class_at 0 2;
        file = 0;
        text = codes "B";
        above = (class_at 0 1 ∷ class_of.RefCounted ∷ class_of.Object ∷ []);
        enclosing = (class_at 0 0 ∷ []);
        fields = [];
        members = ((codes "f", AFunction (class_at 0 2) false) ∷ (codes "g", AFunction (class_at 0 2) false) ∷ []);
      }
      ∷ [];
  globals = [];
  types = [];
  constants = [];
  resources = [];
  enums = [];
})

abbrev pub code_virtual : Project → List ClassMeans
code_virtual P =
    record {
      class = class_at 0 0;
      starts = [];
      functions =
          func P (class_at 0 0) false (identifier (at 11 6) (codes "_init")) []
          (does P (at 12 2) (call P (at 12 2) (name P (at 12 2) (codes "print")) ((call P (at 12 8) (member P (at 12 8) (call P (at 12 8) (member P (at 12 8) (name P (at 12 8) (codes "A")) (codes "new")) []) (codes "f")) []) ∷ (txt P (at 12 21) (codes " ")) ∷ (call P (at 12 26) (member P (at 12 26) (call P (at 12 26) (member P (at 12 26) (name P (at 12 26) (codes "B")) (codes "new")) []) (codes "f")) []) ∷ []))
          ∷ [])
          ∷ [];
    }
    ∷ record {
      class = class_at 0 1;
      starts = [];
      functions =
          func P (class_at 0 1) false (identifier (at 2 7) (codes "f")) []
          (returns P (at 3 3) (Some (binary P (at 3 10) op.Add (txt P (at 3 10) (codes "A")) (call P (at 3 16) (name P (at 3 16) (codes "g")) [])))
          ∷ [])
          ∷ func P (class_at 0 1) false (identifier (at 4 7) (codes "g")) []
          (returns P (at 5 3) (Some (txt P (at 5 10) (codes "a"))) ∷ [])
          ∷ [];
    }
    ∷ record {
      class = class_at 0 2;
      starts = [];
      functions =
          func P (class_at 0 2) false (identifier (at 7 7) (codes "f")) []
          (returns P (at 8 3) (Some (binary P (at 8 10) op.Add (txt P (at 8 10) (codes "B")) (super_init P (at 8 16) [])))
          ∷ [])
          ∷ func P (class_at 0 2) false (identifier (at 9 7) (codes "g")) []
          (returns P (at 10 3) (Some (binary P (at 10 10) op.Add (txt P (at 10 10) (codes "b")) (super_call P (at 10 16) (codes "g") [])))
          ∷ [])
          ∷ [];
    }
    ∷ []

-- class A:
--     var x = p("x")
--     func _init(n):
--         print("A", n)
--     func p(t):
--         print(t)
--         return t
-- class B extends A:
--     var y = p("y")
--     func _init(n):
--         super(n + 1)
--         print("B", n)
-- func _init():
--     B.new(1)
-- (_init and its statement: 2; each initialiser 1 and p 3; _init of B and super: 2; _init of A and its print: 2; print: 1)
abbrev pub names_order_of_new : Project
names_order_of_new = project_of (record {
  classes =
      record {
        class = class_at 0 0;
        file = 0;
        text = codes "res://m.gd";
        above = (class_of.RefCounted ∷ class_of.Object ∷ []);
        enclosing = [];
        fields = [];
        members = ((codes "_init", AFunction (class_at 0 0) false) ∷ (codes "A", AClass (class_at 0 1)) ∷ (codes "B", AClass (class_at 0 2)) ∷ []);
      }
      ∷ record {
        class = class_at 0 1;
        file = 0;
        text = codes "A";
        above = (class_of.RefCounted ∷ class_of.Object ∷ []);
        enclosing = (class_at 0 0 ∷ []);
        fields = (record { name = codes "x"; class = class_at 0 1; line = 2; type = of_type.Variant; starts = WithNew } ∷ []);
        members = ((codes "_init", AFunction (class_at 0 1) false) ∷ (codes "p", AFunction (class_at 0 1) false) ∷ []);
      }
      ∷ record {
        class = class_at 0 2;
        file = 0;
        text = codes "B";
        above = (class_at 0 1 ∷ class_of.RefCounted ∷ class_of.Object ∷ []);
        enclosing = (class_at 0 0 ∷ []);
        fields = (record { name = codes "y"; class = class_at 0 2; line = 9; type = of_type.Variant; starts = WithNew } ∷ []);
        members = ((codes "_init", AFunction (class_at 0 2) false) ∷ []);
      }
      ∷ [];
  globals = [];
  types = [];
  constants = [];
  resources = [];
  enums = [];
})

abbrev pub code_order_of_new : Project → List ClassMeans
code_order_of_new P =
    record {
      class = class_at 0 0;
      starts = [];
      functions =
          func P (class_at 0 0) false (identifier (at 13 6) (codes "_init")) []
          (does P (at 14 2) (call P (at 14 2) (member P (at 14 2) (name P (at 14 2) (codes "B")) (codes "new")) ((num P (at 14 8) (pos 1)) ∷ []))
          ∷ [])
          ∷ [];
    }
    ∷ record {
      class = class_at 0 1;
      starts = ((codes "x", (call P (at 2 10) (name P (at 2 10) (codes "p")) ((txt P (at 2 12) (codes "x")) ∷ []))) ∷ []);
      functions =
          func P (class_at 0 1) false (identifier (at 3 7) (codes "_init")) (param P (class_at 0 1) (identifier (at 3 13) (codes "n")) None ∷ [])
          (does P (at 4 3) (call P (at 4 3) (name P (at 4 3) (codes "print")) ((txt P (at 4 9) (codes "A")) ∷ (name P (at 4 14) (codes "n")) ∷ []))
          ∷ [])
          ∷ func P (class_at 0 1) false (identifier (at 5 7) (codes "p")) (param P (class_at 0 1) (identifier (at 5 9) (codes "t")) None ∷ [])
          (does P (at 6 3) (call P (at 6 3) (name P (at 6 3) (codes "print")) ((name P (at 6 9) (codes "t")) ∷ []))
          ∷ returns P (at 7 3) (Some (name P (at 7 10) (codes "t")))
          ∷ [])
          ∷ [];
    }
    ∷ record {
      class = class_at 0 2;
      starts = ((codes "y", (call P (at 9 10) (name P (at 9 10) (codes "p")) ((txt P (at 9 12) (codes "y")) ∷ []))) ∷ []);
      functions =
          func P (class_at 0 2) false (identifier (at 10 7) (codes "_init")) (param P (class_at 0 2) (identifier (at 10 13) (codes "n")) None ∷ [])
          (does P (at 11 3) (super_init P (at 11 3) ((binary P (at 11 9) op.Add (name P (at 11 9) (codes "n")) (num P (at 11 13) (pos 1))) ∷ []))
          ∷ does P (at 12 3) (call P (at 12 3) (name P (at 12 3) (codes "print")) ((txt P (at 12 9) (codes "B")) ∷ (name P (at 12 14) (codes "n")) ∷ []))
          ∷ [])
          ∷ [];
    }
    ∷ []

-- class A:
--     func _init(n):
--         print("A", n)
-- class C extends A:
--     pass
-- func _init():
--     print(C.new(5))
abbrev pub names_nearest_init : Project
names_nearest_init = project_of (record {
  classes =
      record {
        class = class_at 0 0;
        file = 0;
        text = codes "res://m.gd";
        above = (class_of.RefCounted ∷ class_of.Object ∷ []);
        enclosing = [];
        fields = [];
        members = ((codes "_init", AFunction (class_at 0 0) false) ∷ (codes "A", AClass (class_at 0 1)) ∷ (codes "C", AClass (class_at 0 2)) ∷ []);
      }
      ∷ record {
        class = class_at 0 1;
        file = 0;
        text = codes "A";
        above = (class_of.RefCounted ∷ class_of.Object ∷ []);
        enclosing = (class_at 0 0 ∷ []);
        fields = [];
        members = ((codes "_init", AFunction (class_at 0 1) false) ∷ []);
      }
      ∷ record {
        class = class_at 0 2;
        file = 0;
        text = codes "C";
        above = (class_at 0 1 ∷ class_of.RefCounted ∷ class_of.Object ∷ []);
        enclosing = (class_at 0 0 ∷ []);
        fields = [];
        members = [];
      }
      ∷ [];
  globals = [];
  types = [];
  constants = [];
  resources = [];
  enums = [];
})

abbrev pub code_nearest_init : Project → List ClassMeans
code_nearest_init P =
    record {
      class = class_at 0 0;
      starts = [];
      functions =
          func P (class_at 0 0) false (identifier (at 6 6) (codes "_init")) []
          (does P (at 7 2) (call P (at 7 2) (name P (at 7 2) (codes "print")) ((call P (at 7 8) (member P (at 7 8) (name P (at 7 8) (codes "C")) (codes "new")) ((num P (at 7 14) (pos 5)) ∷ [])) ∷ []))
          ∷ [])
          ∷ [];
    }
    ∷ record {
      class = class_at 0 1;
      starts = [];
      functions =
          func P (class_at 0 1) false (identifier (at 2 7) (codes "_init")) (param P (class_at 0 1) (identifier (at 2 13) (codes "n")) None ∷ [])
          (does P (at 3 3) (call P (at 3 3) (name P (at 3 3) (codes "print")) ((txt P (at 3 9) (codes "A")) ∷ (name P (at 3 14) (codes "n")) ∷ []))
          ∷ [])
          ∷ [];
    }
    ∷ []

-- class A:
--     var x = f()
--     func f():
--         print("x")
-- func _init():
--     var k = A
--     k.new(1)
abbrev pub names_no_init : Project
names_no_init = project_of (record {
  classes =
      record {
        class = class_at 0 0;
        file = 0;
        text = codes "res://m.gd";
        above = (class_of.RefCounted ∷ class_of.Object ∷ []);
        enclosing = [];
        fields = [];
        members = ((codes "_init", AFunction (class_at 0 0) false) ∷ (codes "A", AClass (class_at 0 1)) ∷ []);
      }
      ∷ record {
        class = class_at 0 1;
        file = 0;
        text = codes "A";
        above = (class_of.RefCounted ∷ class_of.Object ∷ []);
        enclosing = (class_at 0 0 ∷ []);
        fields = (record { name = codes "x"; class = class_at 0 1; line = 2; type = of_type.Variant; starts = WithNew } ∷ []);
        members = ((codes "f", AFunction (class_at 0 1) false) ∷ []);
      }
      ∷ [];
  globals = [];
  types = [];
  constants = [];
  resources = [];
  enums = [];
})

abbrev pub code_no_init : Project → List ClassMeans
code_no_init P =
    record {
      class = class_at 0 0;
      starts = [];
      functions =
          func P (class_at 0 0) false (identifier (at 5 6) (codes "_init")) []
          (local P (at 6 2) (identifier (at 6 6) (codes "k")) (Some (name P (at 6 10) (codes "A")))
          ∷ does P (at 7 2) (call P (at 7 2) (member P (at 7 2) (name P (at 7 2) (codes "k")) (codes "new")) ((num P (at 7 8) (pos 1)) ∷ []))
          ∷ [])
          ∷ [];
    }
    ∷ record {
      class = class_at 0 1;
      starts = ((codes "x", (call P (at 2 10) (name P (at 2 10) (codes "f")) [])) ∷ []);
      functions =
          func P (class_at 0 1) false (identifier (at 3 7) (codes "f")) []
          (does P (at 4 3) (call P (at 4 3) (name P (at 4 3) (codes "print")) ((txt P (at 4 9) (codes "x")) ∷ []))
          ∷ [])
          ∷ [];
    }
    ∷ []

-- func _init():
--     var o = Object.new()
--     var n = Node.new()
--     var r = RefCounted.new()
--     print(o, n, r)
abbrev pub names_native_classes : Project
names_native_classes = plain_names (codes "_init" ∷ [])

abbrev pub code_native_classes : Project → List ClassMeans
code_native_classes P =
    record {
      class = class_at 0 0;
      starts = [];
      functions =
          func P (class_at 0 0) false (identifier (at 1 6) (codes "_init")) []
          (local P (at 2 2) (identifier (at 2 6) (codes "o")) (Some (call P (at 2 10) (member P (at 2 10) (name P (at 2 10) (codes "Object")) (codes "new")) []))
          ∷ local P (at 3 2) (identifier (at 3 6) (codes "n")) (Some (call P (at 3 10) (member P (at 3 10) (name P (at 3 10) (codes "Node")) (codes "new")) []))
          ∷ local P (at 4 2) (identifier (at 4 6) (codes "r")) (Some (call P (at 4 10) (member P (at 4 10) (name P (at 4 10) (codes "RefCounted")) (codes "new")) []))
          ∷ does P (at 5 2) (call P (at 5 2) (name P (at 5 2) (codes "print")) ((name P (at 5 8) (codes "o")) ∷ (name P (at 5 11) (codes "n")) ∷ (name P (at 5 14) (codes "r")) ∷ []))
          ∷ [])
          ∷ [];
    }
    ∷ []

-- var a: int
-- var b: Array
-- var c = show()
-- var d: int = 7
-- var e: Array = [1]
-- func show():
--     print(a, b, d, e)
--     return 3
-- func _init():
--     print(a, b, c, d, e)
-- (three initialisers: 3; show: 3; _init, print: 2)
abbrev pub names_field_defaults : Project
names_field_defaults = project_of (record {
  classes =
      record {
        class = class_at 0 0;
        file = 0;
        text = codes "res://m.gd";
        above = (class_of.RefCounted ∷ class_of.Object ∷ []);
        enclosing = [];
        fields = (record { name = codes "a"; class = class_at 0 0; line = 1; type = of_type.Int; starts = Never } ∷ record { name = codes "b"; class = class_at 0 0; line = 2; type = (of_type.Array None); starts = Never } ∷ record { name = codes "c"; class = class_at 0 0; line = 3; type = of_type.Variant; starts = WithNew } ∷ record { name = codes "d"; class = class_at 0 0; line = 4; type = of_type.Int; starts = WithNew } ∷ record { name = codes "e"; class = class_at 0 0; line = 5; type = (of_type.Array None); starts = WithNew } ∷ []);
        members = ((codes "show", AFunction (class_at 0 0) false) ∷ (codes "_init", AFunction (class_at 0 0) false) ∷ []);
      }
      ∷ [];
  globals = [];
  types = ((0, at 1 5, of_type.Int) ∷ (0, at 2 5, (of_type.Array None)) ∷ (0, at 4 5, of_type.Int) ∷ (0, at 5 5, (of_type.Array None)) ∷ []);
  constants = [];
  resources = [];
  enums = [];
})

abbrev pub code_field_defaults : Project → List ClassMeans
code_field_defaults P =
    record {
      class = class_at 0 0;
      starts = ((codes "c", (call P (at 3 9) (name P (at 3 9) (codes "show")) [])) ∷ (codes "d", (num P (at 4 14) (pos 7))) ∷ (codes "e", (array P (at 5 16) ((num P (at 5 17) (pos 1)) ∷ []))) ∷ []);
      functions =
          func P (class_at 0 0) false (identifier (at 6 6) (codes "show")) []
          (does P (at 7 2) (call P (at 7 2) (name P (at 7 2) (codes "print")) ((name P (at 7 8) (codes "a")) ∷ (name P (at 7 11) (codes "b")) ∷ (name P (at 7 14) (codes "d")) ∷ (name P (at 7 17) (codes "e")) ∷ []))
          ∷ returns P (at 8 2) (Some (num P (at 8 9) (pos 3)))
          ∷ [])
          ∷ func P (class_at 0 0) false (identifier (at 9 6) (codes "_init")) []
          (does P (at 10 2) (call P (at 10 2) (name P (at 10 2) (codes "print")) ((name P (at 10 8) (codes "a")) ∷ (name P (at 10 11) (codes "b")) ∷ (name P (at 10 14) (codes "c")) ∷ (name P (at 10 17) (codes "d")) ∷ (name P (at 10 20) (codes "e")) ∷ []))
          ∷ [])
          ∷ [];
    }
    ∷ []

-- var x = 1
-- var y = 1 / 0
-- func _init():
--     pass
abbrev pub names_initialiser_fault : Project
names_initialiser_fault = project_of (record {
  classes =
      record {
        class = class_at 0 0;
        file = 0;
        text = codes "res://m.gd";
        above = (class_of.RefCounted ∷ class_of.Object ∷ []);
        enclosing = [];
        fields = (record { name = codes "x"; class = class_at 0 0; line = 1; type = of_type.Variant; starts = WithNew } ∷ record { name = codes "y"; class = class_at 0 0; line = 2; type = of_type.Variant; starts = WithNew } ∷ []);
        members = ((codes "_init", AFunction (class_at 0 0) false) ∷ []);
      }
      ∷ [];
  globals = [];
  types = [];
  constants = [];
  resources = [];
  enums = [];
})

abbrev pub code_initialiser_fault : Project → List ClassMeans
code_initialiser_fault P =
    record {
      class = class_at 0 0;
      starts = ((codes "x", (num P (at 1 9) (pos 1))) ∷ (codes "y", (binary P (at 2 9) op.Div (num P (at 2 9) (pos 1)) (num P (at 2 13) (pos 0)))) ∷ []);
      functions =
          func P (class_at 0 0) false (identifier (at 3 6) (codes "_init")) []
          (passes P (at 4 2) ∷ [])
          ∷ [];
    }
    ∷ []

-- class Base:
--     static func s(x): return x + 1
--     func f(a, b = 2): return a + b
--     func g(): return f(1)
-- class Sub extends Base:
--     func f(a, b = 5): return super(a) * 10
--     func _init(x): print(x)
-- func _init():
--     print(Base.s(1), Sub.new(9).g())
-- (_init, print: 2; s: 2; _init of Sub and its print: 2; g, f of Sub, f of Base: 6)
abbrev pub names_statics_and_super : Project
names_statics_and_super = project_of (record {
  classes =
      record {
        class = class_at 0 0;
        file = 0;
        text = codes "res://m.gd";
        above = (class_of.RefCounted ∷ class_of.Object ∷ []);
        enclosing = [];
        fields = [];
        members = ((codes "_init", AFunction (class_at 0 0) false) ∷ (codes "Base", AClass (class_at 0 1)) ∷ (codes "Sub", AClass (class_at 0 2)) ∷ []);
      }
      ∷ record {
        class = class_at 0 1;
        file = 0;
        text = codes "Base";
        above = (class_of.RefCounted ∷ class_of.Object ∷ []);
        enclosing = (class_at 0 0 ∷ []);
        fields = [];
        members = ((codes "s", AFunction (class_at 0 1) true) ∷ (codes "f", AFunction (class_at 0 1) false) ∷ (codes "g", AFunction (class_at 0 1) false) ∷ []);
      }
      ∷ record {
        class = class_at 0 2;
        file = 0;
        text = codes "Sub";
        above = (class_at 0 1 ∷ class_of.RefCounted ∷ class_of.Object ∷ []);
        enclosing = (class_at 0 0 ∷ []);
        fields = [];
        members = ((codes "f", AFunction (class_at 0 2) false) ∷ (codes "_init", AFunction (class_at 0 2) false) ∷ []);
      }
      ∷ [];
  globals = [];
  types = [];
  constants = [];
  resources = [];
  enums = [];
})

abbrev pub code_statics_and_super : Project → List ClassMeans
code_statics_and_super P =
    record {
      class = class_at 0 0;
      starts = [];
      functions =
          func P (class_at 0 0) false (identifier (at 8 6) (codes "_init")) []
          (does P (at 9 2) (call P (at 9 2) (name P (at 9 2) (codes "print")) ((call P (at 9 8) (member P (at 9 8) (name P (at 9 8) (codes "Base")) (codes "s")) ((num P (at 9 15) (pos 1)) ∷ [])) ∷ (call P (at 9 19) (member P (at 9 19) (call P (at 9 19) (member P (at 9 19) (name P (at 9 19) (codes "Sub")) (codes "new")) ((num P (at 9 27) (pos 9)) ∷ [])) (codes "g")) []) ∷ []))
          ∷ [])
          ∷ [];
    }
    ∷ record {
      class = class_at 0 1;
      starts = [];
      functions =
          func P (class_at 0 1) true (identifier (at 2 14) (codes "s")) (param P (class_at 0 1) (identifier (at 2 16) (codes "x")) None ∷ [])
          (returns P (at 2 20) (Some (binary P (at 2 27) op.Add (name P (at 2 27) (codes "x")) (num P (at 2 31) (pos 1))))
          ∷ [])
          ∷ func P (class_at 0 1) false (identifier (at 3 7) (codes "f")) (param P (class_at 0 1) (identifier (at 3 9) (codes "a")) None ∷ param P (class_at 0 1) (identifier (at 3 12) (codes "b")) (Some (num P (at 3 16) (pos 2))) ∷ [])
          (returns P (at 3 20) (Some (binary P (at 3 27) op.Add (name P (at 3 27) (codes "a")) (name P (at 3 31) (codes "b"))))
          ∷ [])
          ∷ func P (class_at 0 1) false (identifier (at 4 7) (codes "g")) []
          (returns P (at 4 12) (Some (call P (at 4 19) (name P (at 4 19) (codes "f")) ((num P (at 4 21) (pos 1)) ∷ [])))
          ∷ [])
          ∷ [];
    }
    ∷ record {
      class = class_at 0 2;
      starts = [];
      functions =
          func P (class_at 0 2) false (identifier (at 6 7) (codes "f")) (param P (class_at 0 2) (identifier (at 6 9) (codes "a")) None ∷ param P (class_at 0 2) (identifier (at 6 12) (codes "b")) (Some (num P (at 6 16) (pos 5))) ∷ [])
          (returns P (at 6 20) (Some (binary P (at 6 27) op.Mul (super_init P (at 6 27) ((name P (at 6 33) (codes "a")) ∷ [])) (num P (at 6 38) (pos 10))))
          ∷ [])
          ∷ func P (class_at 0 2) false (identifier (at 7 7) (codes "_init")) (param P (class_at 0 2) (identifier (at 7 13) (codes "x")) None ∷ [])
          (does P (at 7 17) (call P (at 7 17) (name P (at 7 17) (codes "print")) ((name P (at 7 23) (codes "x")) ∷ []))
          ∷ [])
          ∷ [];
    }
    ∷ []

-- class P:
--     var a = 1
--     var b: Array
--     var c: Array = [7]
--     var d = b.size() + a
-- func _init():
--     var p = P.new()
--     print(p.a, p.b, p.c, p.d, p)
--     var k = P
--     k.new(1)
-- (_init, var, three initialisers, print, var: 7; k.new and three initialisers: 4)
abbrev pub names_new_fields : Project
names_new_fields = project_of (record {
  classes =
      record {
        class = class_at 0 0;
        file = 0;
        text = codes "res://m.gd";
        above = (class_of.RefCounted ∷ class_of.Object ∷ []);
        enclosing = [];
        fields = [];
        members = ((codes "_init", AFunction (class_at 0 0) false) ∷ (codes "P", AClass (class_at 0 1)) ∷ []);
      }
      ∷ record {
        class = class_at 0 1;
        file = 0;
        text = codes "P";
        above = (class_of.RefCounted ∷ class_of.Object ∷ []);
        enclosing = (class_at 0 0 ∷ []);
        fields = (record { name = codes "a"; class = class_at 0 1; line = 2; type = of_type.Variant; starts = WithNew } ∷ record { name = codes "b"; class = class_at 0 1; line = 3; type = (of_type.Array None); starts = Never } ∷ record { name = codes "c"; class = class_at 0 1; line = 4; type = (of_type.Array None); starts = WithNew } ∷ record { name = codes "d"; class = class_at 0 1; line = 5; type = of_type.Variant; starts = WithNew } ∷ []);
        members = [];
      }
      ∷ [];
  globals = [];
  types = ((0, at 3 6, (of_type.Array None)) ∷ (0, at 4 6, (of_type.Array None)) ∷ []);
  constants = [];
  resources = [];
  enums = [];
})

abbrev pub code_new_fields : Project → List ClassMeans
code_new_fields P =
    record {
      class = class_at 0 0;
      starts = [];
      functions =
          func P (class_at 0 0) false (identifier (at 6 6) (codes "_init")) []
          (local P (at 7 2) (identifier (at 7 6) (codes "p")) (Some (call P (at 7 10) (member P (at 7 10) (name P (at 7 10) (codes "P")) (codes "new")) []))
          ∷ does P (at 8 2) (call P (at 8 2) (name P (at 8 2) (codes "print")) ((member P (at 8 8) (name P (at 8 8) (codes "p")) (codes "a")) ∷ (member P (at 8 13) (name P (at 8 13) (codes "p")) (codes "b")) ∷ (member P (at 8 18) (name P (at 8 18) (codes "p")) (codes "c")) ∷ (member P (at 8 23) (name P (at 8 23) (codes "p")) (codes "d")) ∷ (name P (at 8 28) (codes "p")) ∷ []))
          ∷ local P (at 9 2) (identifier (at 9 6) (codes "k")) (Some (name P (at 9 10) (codes "P")))
          ∷ does P (at 10 2) (call P (at 10 2) (member P (at 10 2) (name P (at 10 2) (codes "k")) (codes "new")) ((num P (at 10 8) (pos 1)) ∷ []))
          ∷ [])
          ∷ [];
    }
    ∷ record {
      class = class_at 0 1;
      starts = ((codes "a", (num P (at 2 10) (pos 1))) ∷ (codes "c", (array P (at 4 17) ((num P (at 4 18) (pos 7)) ∷ []))) ∷ (codes "d", (binary P (at 5 10) op.Add (call P (at 5 10) (member P (at 5 10) (name P (at 5 10) (codes "b")) (codes "size")) []) (name P (at 5 21) (codes "a")))) ∷ []);
      functions =
          [];
    }
    ∷ []

-- class A:
--     func f(): return "A"
-- class B extends A:
--     func f(): return super() + "B"
-- class C extends B:
--     func f(): return super.f() + "C"
-- func _init():
--     print(C.new().f())
abbrev pub names_three_classes : Project
names_three_classes = project_of (record {
  classes =
      record {
        class = class_at 0 0;
        file = 0;
        text = codes "res://m.gd";
        above = (class_of.RefCounted ∷ class_of.Object ∷ []);
        enclosing = [];
        fields = [];
        members = ((codes "_init", AFunction (class_at 0 0) false) ∷ (codes "A", AClass (class_at 0 1)) ∷ (codes "B", AClass (class_at 0 2)) ∷ (codes "C", AClass (class_at 0 3)) ∷ []);
      }
      ∷ record {
        class = class_at 0 1;
        file = 0;
        text = codes "A";
        above = (class_of.RefCounted ∷ class_of.Object ∷ []);
        enclosing = (class_at 0 0 ∷ []);
        fields = [];
        members = ((codes "f", AFunction (class_at 0 1) false) ∷ []);
      }
      ∷ record {
        class = class_at 0 2;
        file = 0;
        text = codes "B";
        above = (class_at 0 1 ∷ class_of.RefCounted ∷ class_of.Object ∷ []);
        enclosing = (class_at 0 0 ∷ []);
        fields = [];
        members = ((codes "f", AFunction (class_at 0 2) false) ∷ []);
      }
      ∷ record {
        class = class_at 0 3;
        file = 0;
        text = codes "C";
        above = (class_at 0 2 ∷ class_at 0 1 ∷ class_of.RefCounted ∷ class_of.Object ∷ []);
        enclosing = (class_at 0 0 ∷ []);
        fields = [];
        members = ((codes "f", AFunction (class_at 0 3) false) ∷ []);
      }
      ∷ [];
  globals = [];
  types = [];
  constants = [];
  resources = [];
  enums = [];
})

abbrev pub code_three_classes : Project → List ClassMeans
code_three_classes P =
    record {
      class = class_at 0 0;
      starts = [];
      functions =
          func P (class_at 0 0) false (identifier (at 7 6) (codes "_init")) []
          (does P (at 8 2) (call P (at 8 2) (name P (at 8 2) (codes "print")) ((call P (at 8 8) (member P (at 8 8) (call P (at 8 8) (member P (at 8 8) (name P (at 8 8) (codes "C")) (codes "new")) []) (codes "f")) []) ∷ []))
          ∷ [])
          ∷ [];
    }
    ∷ record {
      class = class_at 0 1;
      starts = [];
      functions =
          func P (class_at 0 1) false (identifier (at 2 7) (codes "f")) []
          (returns P (at 2 12) (Some (txt P (at 2 19) (codes "A"))) ∷ [])
          ∷ [];
    }
    ∷ record {
      class = class_at 0 2;
      starts = [];
      functions =
          func P (class_at 0 2) false (identifier (at 4 7) (codes "f")) []
          (returns P (at 4 12) (Some (binary P (at 4 19) op.Add (super_init P (at 4 19) []) (txt P (at 4 29) (codes "B"))))
          ∷ [])
          ∷ [];
    }
    ∷ record {
      class = class_at 0 3;
      starts = [];
      functions =
          func P (class_at 0 3) false (identifier (at 6 7) (codes "f")) []
          (returns P (at 6 12) (Some (binary P (at 6 19) op.Add (super_call P (at 6 19) (codes "f") []) (txt P (at 6 31) (codes "C"))))
          ∷ [])
          ∷ [];
    }
    ∷ []

-- what these scripts write, each in so many steps at most
pub record ClassRows : Type 0 where
  pub row_statics : writes names_statics code_statics 100 ≡ codes "2636\n8\ndone steps 16 left 0\n"
  pub row_virtual : writes names_virtual code_virtual 100 ≡ codes "Aa BAba\ndone steps 14 left 0\n"
  pub row_order_of_new : writes names_order_of_new code_order_of_new 100 ≡ codes "x\ny\nA2\nB1\ndone steps 15 left 0\n"
  pub row_nearest_init : writes names_nearest_init code_nearest_init 100 ≡ codes "A5\n<C#2>\ndone steps 4 left 0\n"
  pub row_no_init : writes names_no_init code_no_init 100 ≡ codes "x\nfault BadArgs res://m.gd:7 steps 6\n"
  pub row_native_classes : writes names_native_classes code_native_classes 100 ≡ codes "<Object#2><Node#3><RefCounted#4>\ndone steps 5 left 2\n"
  pub row_field_defaults : writes names_field_defaults code_field_defaults 100 ≡ codes "0[]0<null>\n0[]37[1]\ndone steps 8 left 0\n"
  pub row_initialiser_fault : writes names_initialiser_fault code_initialiser_fault 100 ≡ codes "fault DivisionByZero res://m.gd:2 steps 2\n"
  pub row_statics_and_super : writes names_statics_and_super code_statics_and_super 99 ≡ codes "9\n230\ndone steps 12 left 0\n"
  pub row_new_fields : writes names_new_fields code_new_fields 99 ≡ codes "1[][7]1<P#2>\nfault BadArgs res://m.gd:10 steps 11\n"
  pub row_three_classes : writes names_three_classes code_three_classes 100 ≡ codes "ABC\ndone steps 8 left 0\n"
