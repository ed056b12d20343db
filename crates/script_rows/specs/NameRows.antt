-- Worked runs on names, constants and files.
use Rattle.std.specs.Prelude.{◌≡◌, pos, true, false, List, [], ◌∷◌, codes, Some, None}
use Rattle.folder_meaning.specs.declared.script_type.ScriptType.TheVariants as of_type
use Rattle.gd_syntax.specs.declared.tree.expr.TreeOp.TheVariants as op
use Rattle.variant_values.specs.declared.classes.ClassTag.TheVariants as class_of
use Rattle.variant_values.specs.declared.values.Value.TheVariants.{Int, Str, Class}
use Rattle.script_meaning.specs.Projects.{Project, AFunction, ASignal, AConstant, AnEnum, AClass, WithNew}
use Rattle.script_meaning.specs.Constants.{scalar_made, array_made, dict_made}
use Rattle.script_meaning.specs.Tables.{ClassMeans}
use Rattle.script_rows.specs.Scripts.{at, identifier, num, txt, name, this, array, preloaded, loaded, index, member, call, binary, passes, returns, local, does, walks, param, func, class_at, project_of, plain_names, writes}

-- const C = 2
-- enum { A, B = 5 }
-- enum Kind { X, Y }
-- var f = 3
-- func g():
--     pass
-- func _init():
--     var l = 4
--     print(C, A, B, Kind.Y, f, l)
--     print(g, self.f, self.C)
abbrev pub names_names : Project
names_names = project_of (record {
  classes =
      record {
        class = class_at 0 0;
        file = 0;
        text = codes "res://m.gd";
        above = (class_of.RefCounted ∷ class_of.Object ∷ []);
        enclosing = [];
        fields = (record { name = codes "f"; class = class_at 0 0; line = 4; type = of_type.Variant; starts = WithNew } ∷ []);
        members = ((codes "g", AFunction (class_at 0 0) false) ∷ (codes "_init", AFunction (class_at 0 0) false) ∷ (codes "C", AConstant (scalar_made (Int (pos 2)))) ∷ (codes "A", AConstant (scalar_made (Int (pos 0)))) ∷ (codes "B", AConstant (scalar_made (Int (pos 5)))) ∷ (codes "Kind", AnEnum ((codes "X", pos 0) ∷ (codes "Y", pos 1) ∷ [])) ∷ []);
      }
      ∷ [];
  globals = [];
  types = [];
  constants = [];
  resources = [];
  enums = [];
})

abbrev pub code_names : Project → List ClassMeans
code_names P =
    record {
      class = class_at 0 0;
      starts = ((codes "f", (num P (at 4 9) (pos 3))) ∷ []);
      functions =
          func P (class_at 0 0) false (identifier (at 5 6) (codes "g")) []
          (passes P (at 6 2) ∷ [])
          ∷ func P (class_at 0 0) false (identifier (at 7 6) (codes "_init")) []
          (local P (at 8 2) (identifier (at 8 6) (codes "l")) (Some (num P (at 8 10) (pos 4)))
          ∷ does P (at 9 2) (call P (at 9 2) (name P (at 9 2) (codes "print")) ((name P (at 9 8) (codes "C")) ∷ (name P (at 9 11) (codes "A")) ∷ (name P (at 9 14) (codes "B")) ∷ (member P (at 9 17) (name P (at 9 17) (codes "Kind")) (codes "Y")) ∷ (name P (at 9 25) (codes "f")) ∷ (name P (at 9 28) (codes "l")) ∷ []))
          ∷ does P (at 10 2) (call P (at 10 2) (name P (at 10 2) (codes "print")) ((name P (at 10 8) (codes "g")) ∷ (member P (at 10 11) (this P (at 10 11)) (codes "f")) ∷ (member P (at 10 19) (this P (at 10 19)) (codes "C")) ∷ []))
          ∷ [])
          ∷ [];
    }
    ∷ []

-- class Box:
--     pass
-- func _init():
--     print(self, Box, RefCounted, Box.new())
abbrev pub names_classes : Project
names_classes = project_of (record {
  classes =
      record {
        class = class_at 0 0;
        file = 0;
        text = codes "res://m.gd";
        above = (class_of.RefCounted ∷ class_of.Object ∷ []);
        enclosing = [];
        fields = [];
        members = ((codes "_init", AFunction (class_at 0 0) false) ∷ (codes "Box", AClass (class_at 0 1)) ∷ []);
      }
      ∷ record {
        class = class_at 0 1;
        file = 0;
        text = codes "Box";
        above = (class_of.RefCounted ∷ class_of.Object ∷ []);
        enclosing = (class_at 0 0 ∷ []);
        fields = [];
        members = [];
      }
      ∷ [];
  globals = [];
  types = [];
  constants = [];
  resources = [];
  enums = [];
})

abbrev pub code_classes : Project → List ClassMeans
code_classes P =
    record {
      class = class_at 0 0;
      starts = [];
      functions =
          func P (class_at 0 0) false (identifier (at 3 6) (codes "_init")) []
          (does P (at 4 2) (call P (at 4 2) (name P (at 4 2) (codes "print")) ((this P (at 4 8)) ∷ (name P (at 4 14) (codes "Box")) ∷ (name P (at 4 19) (codes "RefCounted")) ∷ (call P (at 4 31) (member P (at 4 31) (name P (at 4 31) (codes "Box")) (codes "new")) []) ∷ []))
          ∷ [])
          ∷ [];
    }
    ∷ []

-- const B = preload("res://b.gd")
-- func _init():
--     print(B, B.X, load("res://b.gd").f())
--     print(preload("res://b.gd").new())
-- res://b.gd:
-- const X = 2
-- static func f():
--     return 3
abbrev pub names_files : Project
names_files = project_of (record {
  classes =
      record {
        class = class_at 0 0;
        file = 0;
        text = codes "res://m.gd";
        above = (class_of.RefCounted ∷ class_of.Object ∷ []);
        enclosing = [];
        fields = [];
        members = ((codes "_init", AFunction (class_at 0 0) false) ∷ (codes "B", AConstant (scalar_made (Class (class_at 1 0)))) ∷ []);
      }
      ∷ record {
        class = class_at 1 0;
        file = 1;
        text = codes "res://b.gd";
        above = (class_of.RefCounted ∷ class_of.Object ∷ []);
        enclosing = [];
        fields = [];
        members = ((codes "f", AFunction (class_at 1 0) true) ∷ (codes "X", AConstant (scalar_made (Int (pos 2)))) ∷ []);
      }
      ∷ [];
  globals = [];
  types = [];
  constants = [];
  resources = ((codes "res://b.gd", Class (class_at 1 0)) ∷ []);
  enums = [];
})

abbrev pub code_files : Project → List ClassMeans
code_files P =
    record {
      class = class_at 0 0;
      starts = [];
      functions =
          func P (class_at 0 0) false (identifier (at 2 6) (codes "_init")) []
          (does P (at 3 2) (call P (at 3 2) (name P (at 3 2) (codes "print")) ((name P (at 3 8) (codes "B")) ∷ (member P (at 3 11) (name P (at 3 11) (codes "B")) (codes "X")) ∷ (call P (at 3 16) (member P (at 3 16) (loaded P (at 3 16) (at 3 21) (codes "res://b.gd")) (codes "f")) []) ∷ []))
          ∷ does P (at 4 2) (call P (at 4 2) (name P (at 4 2) (codes "print")) ((call P (at 4 8) (member P (at 4 8) (preloaded P (at 4 8) (at 4 16) (codes "res://b.gd")) (codes "new")) []) ∷ []))
          ∷ [])
          ∷ [];
    }
    ∷ record {
      class = class_at 1 0;
      starts = [];
      functions =
          func P (class_at 1 0) true (identifier (at 2 13) (codes "f")) []
          (returns P (at 3 2) (Some (num P (at 3 9) (pos 3))) ∷ [])
          ∷ [];
    }
    ∷ []

-- signal s
-- func _init():
--     print(s, s == s)
abbrev pub names_signals : Project
names_signals = project_of (record {
  classes =
      record {
        class = class_at 0 0;
        file = 0;
        text = codes "res://m.gd";
        above = (class_of.RefCounted ∷ class_of.Object ∷ []);
        enclosing = [];
        fields = [];
        members = ((codes "_init", AFunction (class_at 0 0) false) ∷ (codes "s", ASignal) ∷ []);
      }
      ∷ [];
  globals = [];
  types = [];
  constants = [];
  resources = [];
  enums = [];
})

abbrev pub code_signals : Project → List ClassMeans
code_signals P =
    record {
      class = class_at 0 0;
      starts = [];
      functions =
          func P (class_at 0 0) false (identifier (at 2 6) (codes "_init")) []
          (does P (at 3 2) (call P (at 3 2) (name P (at 3 2) (codes "print")) ((name P (at 3 8) (codes "s")) ∷ (binary P (at 3 11) op.Eq (name P (at 3 11) (codes "s")) (name P (at 3 16) (codes "s"))) ∷ []))
          ∷ [])
          ∷ [];
    }
    ∷ []

-- const N = 3
-- enum { Z = 9 }
-- class In:
--     const M = N
--     func f():
--         return [N, M, Z]
-- func _init():
--     print(In.new().f(), In.M)
abbrev pub names_outer_names : Project
names_outer_names = project_of (record {
  classes =
      record {
        class = class_at 0 0;
        file = 0;
        text = codes "res://m.gd";
        above = (class_of.RefCounted ∷ class_of.Object ∷ []);
        enclosing = [];
        fields = [];
        members = ((codes "_init", AFunction (class_at 0 0) false) ∷ (codes "N", AConstant (scalar_made (Int (pos 3)))) ∷ (codes "Z", AConstant (scalar_made (Int (pos 9)))) ∷ (codes "In", AClass (class_at 0 1)) ∷ []);
      }
      ∷ record {
        class = class_at 0 1;
        file = 0;
        text = codes "In";
        above = (class_of.RefCounted ∷ class_of.Object ∷ []);
        enclosing = (class_at 0 0 ∷ []);
        fields = [];
        members = ((codes "f", AFunction (class_at 0 1) false) ∷ (codes "M", AConstant (scalar_made (Int (pos 3)))) ∷ []);
      }
      ∷ [];
  globals = [];
  types = [];
  constants = [];
  resources = [];
  enums = [];
})

abbrev pub code_outer_names : Project → List ClassMeans
code_outer_names P =
    record {
      class = class_at 0 0;
      starts = [];
      functions =
          func P (class_at 0 0) false (identifier (at 7 6) (codes "_init")) []
          (does P (at 8 2) (call P (at 8 2) (name P (at 8 2) (codes "print")) ((call P (at 8 8) (member P (at 8 8) (call P (at 8 8) (member P (at 8 8) (name P (at 8 8) (codes "In")) (codes "new")) []) (codes "f")) []) ∷ (member P (at 8 22) (name P (at 8 22) (codes "In")) (codes "M")) ∷ []))
          ∷ [])
          ∷ [];
    }
    ∷ record {
      class = class_at 0 1;
      starts = [];
      functions =
          func P (class_at 0 1) false (identifier (at 5 7) (codes "f")) []
          (returns P (at 6 3) (Some (array P (at 6 10) ((name P (at 6 11) (codes "N")) ∷ (name P (at 6 14) (codes "M")) ∷ (name P (at 6 17) (codes "Z")) ∷ [])))
          ∷ [])
          ∷ [];
    }
    ∷ []

-- func _init():
--     print(Foo, Foo.new())
-- res://foo.gd:
-- class_name Foo
-- pass
abbrev pub names_global_class : Project
names_global_class = project_of (record {
  classes =
      record {
        class = class_at 0 0;
        file = 0;
        text = codes "res://m.gd";
        above = (class_of.RefCounted ∷ class_of.Object ∷ []);
        enclosing = [];
        fields = [];
        members = ((codes "_init", AFunction (class_at 0 0) false) ∷ []);
      }
      ∷ record {
        class = class_at 1 0;
        file = 1;
        text = codes "Foo";
        above = (class_of.RefCounted ∷ class_of.Object ∷ []);
        enclosing = [];
        fields = [];
        members = [];
      }
      ∷ [];
  globals = ((codes "Foo", class_at 1 0) ∷ []);
  types = [];
  constants = [];
  resources = [];
  enums = [];
})

abbrev pub code_global_class : Project → List ClassMeans
code_global_class P =
    record {
      class = class_at 0 0;
      starts = [];
      functions =
          func P (class_at 0 0) false (identifier (at 1 6) (codes "_init")) []
          (does P (at 2 2) (call P (at 2 2) (name P (at 2 2) (codes "print")) ((name P (at 2 8) (codes "Foo")) ∷ (call P (at 2 13) (member P (at 2 13) (name P (at 2 13) (codes "Foo")) (codes "new")) []) ∷ []))
          ∷ [])
          ∷ [];
    }
    ∷ []

-- extends "res://b.gd"
-- func _init():
--     f()
-- res://b.gd:
-- func f():
--     print(1 / 0)
abbrev pub names_other_file : Project
names_other_file = project_of (record {
  classes =
      record {
        class = class_at 0 0;
        file = 0;
        text = codes "res://m.gd";
        above = (class_at 1 0 ∷ class_of.RefCounted ∷ class_of.Object ∷ []);
        enclosing = [];
        fields = [];
        members = ((codes "_init", AFunction (class_at 0 0) false) ∷ []);
      }
      ∷ record {
        class = class_at 1 0;
        file = 1;
        text = codes "res://b.gd";
        above = (class_of.RefCounted ∷ class_of.Object ∷ []);
        enclosing = [];
        fields = [];
        members = ((codes "f", AFunction (class_at 1 0) false) ∷ []);
      }
      ∷ [];
  globals = [];
  types = [];
  constants = [];
  resources = [];
  enums = [];
})

abbrev pub code_other_file : Project → List ClassMeans
code_other_file P =
    record {
      class = class_at 0 0;
      starts = [];
      functions =
          func P (class_at 0 0) false (identifier (at 2 6) (codes "_init")) []
          (does P (at 3 2) (call P (at 3 2) (name P (at 3 2) (codes "f")) []) ∷ [])
          ∷ [];
    }
    ∷ record {
      class = class_at 1 0;
      starts = [];
      functions =
          func P (class_at 1 0) false (identifier (at 1 6) (codes "f")) []
          (does P (at 2 2) (call P (at 2 2) (name P (at 2 2) (codes "print")) ((binary P (at 2 8) op.Div (num P (at 2 8) (pos 1)) (num P (at 2 12) (pos 0))) ∷ []))
          ∷ [])
          ∷ [];
    }
    ∷ []

-- const C = {"k": [1]}
-- func _init():
--     C["k"].append(2)
--     print(C, C == C)
abbrev pub names_constants_anew : Project
names_constants_anew = project_of (record {
  classes =
      record {
        class = class_at 0 0;
        file = 0;
        text = codes "res://m.gd";
        above = (class_of.RefCounted ∷ class_of.Object ∷ []);
        enclosing = [];
        fields = [];
        members = ((codes "_init", AFunction (class_at 0 0) false) ∷ (codes "C", AConstant (dict_made ((scalar_made (Str (codes "k")), array_made (scalar_made (Int (pos 1)) ∷ [])) ∷ []))) ∷ []);
      }
      ∷ [];
  globals = [];
  types = [];
  constants = [];
  resources = [];
  enums = [];
})

abbrev pub code_constants_anew : Project → List ClassMeans
code_constants_anew P =
    record {
      class = class_at 0 0;
      starts = [];
      functions =
          func P (class_at 0 0) false (identifier (at 2 6) (codes "_init")) []
          (does P (at 3 2) (call P (at 3 2) (member P (at 3 2) (index P (at 3 2) (name P (at 3 2) (codes "C")) (txt P (at 3 4) (codes "k"))) (codes "append")) ((num P (at 3 16) (pos 2)) ∷ []))
          ∷ does P (at 4 2) (call P (at 4 2) (name P (at 4 2) (codes "print")) ((name P (at 4 8) (codes "C")) ∷ (binary P (at 4 11) op.Eq (name P (at 4 11) (codes "C")) (name P (at 4 16) (codes "C"))) ∷ []))
          ∷ [])
          ∷ [];
    }
    ∷ []

-- func range(n):
--     return [n, n]
-- func _init():
--     for i in range(3):
--         print(i)
abbrev pub names_own_range : Project
names_own_range = plain_names (codes "range" ∷ codes "_init" ∷ [])

abbrev pub code_own_range : Project → List ClassMeans
code_own_range P =
    record {
      class = class_at 0 0;
      starts = [];
      functions =
          func P (class_at 0 0) false (identifier (at 1 6) (codes "range")) (param P (class_at 0 0) (identifier (at 1 12) (codes "n")) None ∷ [])
          (returns P (at 2 2) (Some (array P (at 2 9) ((name P (at 2 10) (codes "n")) ∷ (name P (at 2 13) (codes "n")) ∷ [])))
          ∷ [])
          ∷ func P (class_at 0 0) false (identifier (at 3 6) (codes "_init")) []
          (walks P (at 4 2) (identifier (at 4 6) (codes "i")) (call P (at 4 11) (name P (at 4 11) (codes "range")) ((num P (at 4 17) (pos 3)) ∷ [])) (does P (at 5 3) (call P (at 5 3) (name P (at 5 3) (codes "print")) ((name P (at 5 9) (codes "i")) ∷ []))
          ∷ [])
          ∷ [])
          ∷ [];
    }
    ∷ []

-- enum E { A = 3, B }
-- const K = [1]
-- func _init():
--     print(E.B, K)
--     K.append(2)
--     print(K, self.K)
abbrev pub names_enums : Project
names_enums = project_of (record {
  classes =
      record {
        class = class_at 0 0;
        file = 0;
        text = codes "res://m.gd";
        above = (class_of.RefCounted ∷ class_of.Object ∷ []);
        enclosing = [];
        fields = [];
        members = ((codes "_init", AFunction (class_at 0 0) false) ∷ (codes "E", AnEnum ((codes "A", pos 3) ∷ (codes "B", pos 4) ∷ [])) ∷ (codes "K", AConstant (array_made (scalar_made (Int (pos 1)) ∷ []))) ∷ []);
      }
      ∷ [];
  globals = [];
  types = [];
  constants = [];
  resources = [];
  enums = [];
})

abbrev pub code_enums : Project → List ClassMeans
code_enums P =
    record {
      class = class_at 0 0;
      starts = [];
      functions =
          func P (class_at 0 0) false (identifier (at 3 6) (codes "_init")) []
          (does P (at 4 2) (call P (at 4 2) (name P (at 4 2) (codes "print")) ((member P (at 4 8) (name P (at 4 8) (codes "E")) (codes "B")) ∷ (name P (at 4 13) (codes "K")) ∷ []))
          ∷ does P (at 5 2) (call P (at 5 2) (member P (at 5 2) (name P (at 5 2) (codes "K")) (codes "append")) ((num P (at 5 11) (pos 2)) ∷ []))
          ∷ does P (at 6 2) (call P (at 6 2) (name P (at 6 2) (codes "print")) ((name P (at 6 8) (codes "K")) ∷ (member P (at 6 11) (this P (at 6 11)) (codes "K")) ∷ []))
          ∷ [])
          ∷ [];
    }
    ∷ []

-- const C = preload("res://m.gd")
-- enum E { A }
-- func _init():
--     print(C.E.A)
--     var c = C
--     print(c.E.A)
abbrev pub names_known_enum : Project
names_known_enum = project_of (record {
  classes =
      record {
        class = class_at 0 0;
        file = 0;
        text = codes "res://m.gd";
        above = (class_of.RefCounted ∷ class_of.Object ∷ []);
        enclosing = [];
        fields = [];
        members = ((codes "_init", AFunction (class_at 0 0) false) ∷ (codes "C", AConstant (scalar_made (Class (class_at 0 0)))) ∷ (codes "E", AnEnum ((codes "A", pos 0) ∷ [])) ∷ []);
      }
      ∷ [];
  globals = [];
  types = [];
  constants = [];
  resources = [];
  enums = ((0, at 4 8, true) ∷ []);
})

abbrev pub code_known_enum : Project → List ClassMeans
code_known_enum P =
    record {
      class = class_at 0 0;
      starts = [];
      functions =
          func P (class_at 0 0) false (identifier (at 3 6) (codes "_init")) []
          (does P (at 4 2) (call P (at 4 2) (name P (at 4 2) (codes "print")) ((member P (at 4 8) (member P (at 4 8) (name P (at 4 8) (codes "C")) (codes "E")) (codes "A")) ∷ []))
          ∷ local P (at 5 2) (identifier (at 5 6) (codes "c")) (Some (name P (at 5 10) (codes "C")))
          ∷ does P (at 6 2) (call P (at 6 2) (name P (at 6 2) (codes "print")) ((member P (at 6 8) (member P (at 6 8) (name P (at 6 8) (codes "c")) (codes "E")) (codes "A")) ∷ []))
          ∷ [])
          ∷ [];
    }
    ∷ []

-- const K = 2
-- static func twice(n): return n * K
-- class In:
--     func f(): return twice(K) + L
--     const L = 1
-- func _init():
--     print(In.new().f())
abbrev pub names_inner_sees : Project
names_inner_sees = project_of (record {
  classes =
      record {
        class = class_at 0 0;
        file = 0;
        text = codes "res://m.gd";
        above = (class_of.RefCounted ∷ class_of.Object ∷ []);
        enclosing = [];
        fields = [];
        members = ((codes "twice", AFunction (class_at 0 0) true) ∷ (codes "_init", AFunction (class_at 0 0) false) ∷ (codes "K", AConstant (scalar_made (Int (pos 2)))) ∷ (codes "In", AClass (class_at 0 1)) ∷ []);
      }
      ∷ record {
        class = class_at 0 1;
        file = 0;
        text = codes "In";
        above = (class_of.RefCounted ∷ class_of.Object ∷ []);
        enclosing = (class_at 0 0 ∷ []);
        fields = [];
        members = ((codes "f", AFunction (class_at 0 1) false) ∷ (codes "L", AConstant (scalar_made (Int (pos 1)))) ∷ []);
      }
      ∷ [];
  globals = [];
  types = [];
  constants = [];
  resources = [];
  enums = [];
})

abbrev pub code_inner_sees : Project → List ClassMeans
code_inner_sees P =
    record {
      class = class_at 0 0;
      starts = [];
      functions =
          func P (class_at 0 0) true (identifier (at 2 13) (codes "twice")) (param P (class_at 0 0) (identifier (at 2 19) (codes "n")) None ∷ [])
          (returns P (at 2 23) (Some (binary P (at 2 30) op.Mul (name P (at 2 30) (codes "n")) (name P (at 2 34) (codes "K"))))
          ∷ [])
          ∷ func P (class_at 0 0) false (identifier (at 6 6) (codes "_init")) []
          (does P (at 7 2) (call P (at 7 2) (name P (at 7 2) (codes "print")) ((call P (at 7 8) (member P (at 7 8) (call P (at 7 8) (member P (at 7 8) (name P (at 7 8) (codes "In")) (codes "new")) []) (codes "f")) []) ∷ []))
          ∷ [])
          ∷ [];
    }
    ∷ record {
      class = class_at 0 1;
      starts = [];
      functions =
          func P (class_at 0 1) false (identifier (at 4 7) (codes "f")) []
          (returns P (at 4 12) (Some (binary P (at 4 19) op.Add (call P (at 4 19) (name P (at 4 19) (codes "twice")) ((name P (at 4 25) (codes "K")) ∷ [])) (name P (at 4 30) (codes "L"))))
          ∷ [])
          ∷ [];
    }
    ∷ []

-- extends Node
-- func _init():
--     print(self)
abbrev pub names_node_script : Project
names_node_script = project_of (record {
  classes =
      record {
        class = class_at 0 0;
        file = 0;
        text = codes "res://m.gd";
        above = (class_of.Node ∷ class_of.Object ∷ []);
        enclosing = [];
        fields = [];
        members = ((codes "_init", AFunction (class_at 0 0) false) ∷ []);
      }
      ∷ [];
  globals = [];
  types = [];
  constants = [];
  resources = [];
  enums = [];
})

abbrev pub code_node_script : Project → List ClassMeans
code_node_script P =
    record {
      class = class_at 0 0;
      starts = [];
      functions =
          func P (class_at 0 0) false (identifier (at 2 6) (codes "_init")) []
          (does P (at 3 2) (call P (at 3 2) (name P (at 3 2) (codes "print")) ((this P (at 3 8)) ∷ []))
          ∷ [])
          ∷ [];
    }
    ∷ []

-- signal s(a)
-- func _init():
--     s.emit(1)
--     print("after")
abbrev pub names_emission_of_nothing : Project
names_emission_of_nothing = project_of (record {
  classes =
      record {
        class = class_at 0 0;
        file = 0;
        text = codes "res://m.gd";
        above = (class_of.RefCounted ∷ class_of.Object ∷ []);
        enclosing = [];
        fields = [];
        members = ((codes "_init", AFunction (class_at 0 0) false) ∷ (codes "s", ASignal) ∷ []);
      }
      ∷ [];
  globals = [];
  types = [];
  constants = [];
  resources = [];
  enums = [];
})

abbrev pub code_emission_of_nothing : Project → List ClassMeans
code_emission_of_nothing P =
    record {
      class = class_at 0 0;
      starts = [];
      functions =
          func P (class_at 0 0) false (identifier (at 2 6) (codes "_init")) []
          (does P (at 3 2) (call P (at 3 2) (member P (at 3 2) (name P (at 3 2) (codes "s")) (codes "emit")) ((num P (at 3 9) (pos 1)) ∷ []))
          ∷ does P (at 4 2) (call P (at 4 2) (name P (at 4 2) (codes "print")) ((txt P (at 4 8) (codes "after")) ∷ []))
          ∷ [])
          ∷ [];
    }
    ∷ []

-- what these scripts write, each in so many steps at most
pub record NameRows : Type 0 where
  pub row_names : writes names_names code_names 100 ≡ codes "205134\n<Callable g>32\ndone steps 5 left 0\n"
  pub row_classes : writes names_classes code_classes 100 ≡ codes "<res://m.gd#1><Box><RefCounted><Box#2>\ndone steps 2 left 0\n"
  pub row_files : writes names_files code_files 100 ≡ codes "<res://b.gd>23\n<res://b.gd#2>\ndone steps 5 left 0\n"
  pub row_signals : writes names_signals code_signals 100 ≡ codes "<Signal s>true\ndone steps 2 left 0\n"
  pub row_outer_names : writes names_outer_names code_outer_names 100 ≡ codes "[3, 3, 9]3\ndone steps 4 left 0\n"
  pub row_global_class : writes names_global_class code_global_class 100 ≡ codes "<Foo><Foo#2>\ndone steps 2 left 0\n"
  pub row_other_file : writes names_other_file code_other_file 100 ≡ codes "fault DivisionByZero res://b.gd:2 steps 4\n"
  pub row_constants_anew : writes names_constants_anew code_constants_anew 100 ≡ codes "{ \"k\": [1] }true\ndone steps 3 left 0\n"
  pub row_own_range : writes names_own_range code_own_range 100 ≡ codes "3\n3\ndone steps 9 left 0\n"
  pub row_enums : writes names_enums code_enums 9 ≡ codes "4[1]\n[1][1]\ndone steps 4 left 0\n"
  pub row_known_enum : writes names_known_enum code_known_enum 9 ≡ codes "0\nfault NoMember res://m.gd:6 steps 4\n"
  pub row_inner_sees : writes names_inner_sees code_inner_sees 9 ≡ codes "5\ndone steps 6 left 0\n"
  pub row_node_script : writes names_node_script code_node_script 100 ≡ codes "<res://m.gd#1>\ndone steps 2 left 0\n"
  pub row_emission_of_nothing : writes names_emission_of_nothing code_emission_of_nothing 100 ≡ codes "after\ndone steps 3 left 0\n"
