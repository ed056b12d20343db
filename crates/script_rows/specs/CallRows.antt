-- Worked runs on calls of functions.
use Rattle.std.specs.Prelude.{◌≡◌, pos, false, List, [], ◌∷◌, codes, Some, None}
use Rattle.folder_meaning.specs.declared.script_type.ScriptType.TheVariants as of_type
use Rattle.gd_syntax.specs.declared.tree.expr.TreeOp.TheVariants as op
use Rattle.variant_values.specs.declared.classes.ClassTag.TheVariants as class_of
use Rattle.script_meaning.specs.Projects.{Project, AFunction, ASignal, AClass, WithNew}
use Rattle.script_meaning.specs.Tables.{ClassMeans}
use Rattle.script_rows.specs.Scripts.{at, identifier, num, txt, name, this, member, call, binary, passes, returns, local, does, branch, tests, param, func, class_at, project_of, plain_names, writes}

-- func f(a):
--     return a
-- func _init():
--     var c = f
--     print(c.call(1), c(2), c.is_valid(), c)
abbrev pub names_callables : Project
names_callables = plain_names (codes "f" ∷ codes "_init" ∷ [])

abbrev pub code_callables : Project → List ClassMeans
code_callables P =
    record {
      class = class_at 0 0;
      starts = [];
      functions =
          func P (class_at 0 0) false (identifier (at 1 6) (codes "f")) (param P (class_at 0 0) (identifier (at 1 8) (codes "a")) None ∷ [])
          (returns P (at 2 2) (Some (name P (at 2 9) (codes "a"))) ∷ [])
          ∷ func P (class_at 0 0) false (identifier (at 3 6) (codes "_init")) []
          (local P (at 4 2) (identifier (at 4 6) (codes "c")) (Some (name P (at 4 10) (codes "f")))
          ∷ does P (at 5 2) (call P (at 5 2) (name P (at 5 2) (codes "print")) ((call P (at 5 8) (member P (at 5 8) (name P (at 5 8) (codes "c")) (codes "call")) ((num P (at 5 15) (pos 1)) ∷ [])) ∷ (call P (at 5 19) (name P (at 5 19) (codes "c")) ((num P (at 5 21) (pos 2)) ∷ [])) ∷ (call P (at 5 25) (member P (at 5 25) (name P (at 5 25) (codes "c")) (codes "is_valid")) []) ∷ (name P (at 5 39) (codes "c")) ∷ []))
          ∷ [])
          ∷ [];
    }
    ∷ []

-- func _init():
--     var c = 5
--     c(1)
abbrev pub names_not_callable : Project
names_not_callable = plain_names (codes "_init" ∷ [])

abbrev pub code_not_callable : Project → List ClassMeans
code_not_callable P =
    record {
      class = class_at 0 0;
      starts = [];
      functions =
          func P (class_at 0 0) false (identifier (at 1 6) (codes "_init")) []
          (local P (at 2 2) (identifier (at 2 6) (codes "c")) (Some (num P (at 2 10) (pos 5)))
          ∷ does P (at 3 2) (call P (at 3 2) (name P (at 3 2) (codes "c")) ((num P (at 3 4) (pos 1)) ∷ []))
          ∷ [])
          ∷ [];
    }
    ∷ []

-- func _init():
--     var c
--     c()
abbrev pub names_null_call : Project
names_null_call = plain_names (codes "_init" ∷ [])

abbrev pub code_null_call : Project → List ClassMeans
code_null_call P =
    record {
      class = class_at 0 0;
      starts = [];
      functions =
          func P (class_at 0 0) false (identifier (at 1 6) (codes "_init")) []
          (local P (at 2 2) (identifier (at 2 6) (codes "c")) None
          ∷ does P (at 3 2) (call P (at 3 2) (name P (at 3 2) (codes "c")) [])
          ∷ [])
          ∷ [];
    }
    ∷ []

-- class Box:
--     func f():
--         pass
-- func _init():
--     var c = Box.new().f
--     print(c.is_valid())
--     c()
abbrev pub names_freed_call : Project
names_freed_call = project_of (record {
  classes =
      record {
        class = class_at 0 0;
        file = 0;
        text = codes "res://m.gd";
        above = (class_of.RefCounted ∷ class_of.Object ∷ []);
        enclosing = [];
        fields = [];
        members = ((codes "_init", AFunction (class_at 0 0) false) ∷ (codes "Box", AClass (class_at 0 1)) ∷ []);
      }
      ∷ record {
        class = class_at 0 1;
        file = 0;
        text = codes "Box";
        above = (class_of.RefCounted ∷ class_of.Object ∷ []);
        enclosing = (class_at 0 0 ∷ []);
        fields = [];
        members = ((codes "f", AFunction (class_at 0 1) false) ∷ []);
      }
      ∷ [];
  globals = [];
  types = [];
  constants = [];
  resources = [];
  enums = [];
})

abbrev pub code_freed_call : Project → List ClassMeans
code_freed_call P =
    record {
      class = class_at 0 0;
      starts = [];
      functions =
          func P (class_at 0 0) false (identifier (at 4 6) (codes "_init")) []
          (local P (at 5 2) (identifier (at 5 6) (codes "c")) (Some (member P (at 5 10) (call P (at 5 10) (member P (at 5 10) (name P (at 5 10) (codes "Box")) (codes "new")) []) (codes "f")))
          ∷ does P (at 6 2) (call P (at 6 2) (name P (at 6 2) (codes "print")) ((call P (at 6 8) (member P (at 6 8) (name P (at 6 8) (codes "c")) (codes "is_valid")) []) ∷ []))
          ∷ does P (at 7 2) (call P (at 7 2) (name P (at 7 2) (codes "c")) [])
          ∷ [])
          ∷ [];
    }
    ∷ record {
      class = class_at 0 1;
      starts = [];
      functions =
          func P (class_at 0 1) false (identifier (at 2 7) (codes "f")) []
          (passes P (at 3 3) ∷ [])
          ∷ [];
    }
    ∷ []

-- var c = f
-- func f(n):
--     return n + 1
-- func _init():
--     print(c(1), self.c(2))
abbrev pub names_field_called : Project
names_field_called = project_of (record {
  classes =
      record {
        class = class_at 0 0;
        file = 0;
        text = codes "res://m.gd";
        above = (class_of.RefCounted ∷ class_of.Object ∷ []);
        enclosing = [];
        fields = (record { name = codes "c"; class = class_at 0 0; line = 1; type = of_type.Variant; starts = WithNew } ∷ []);
        members = ((codes "f", AFunction (class_at 0 0) false) ∷ (codes "_init", AFunction (class_at 0 0) false) ∷ []);
      }
      ∷ [];
  globals = [];
  types = [];
  constants = [];
  resources = [];
  enums = [];
})

abbrev pub code_field_called : Project → List ClassMeans
code_field_called P =
    record {
      class = class_at 0 0;
      starts = ((codes "c", (name P (at 1 9) (codes "f"))) ∷ []);
      functions =
          func P (class_at 0 0) false (identifier (at 2 6) (codes "f")) (param P (class_at 0 0) (identifier (at 2 8) (codes "n")) None ∷ [])
          (returns P (at 3 2) (Some (binary P (at 3 9) op.Add (name P (at 3 9) (codes "n")) (num P (at 3 13) (pos 1))))
          ∷ [])
          ∷ func P (class_at 0 0) false (identifier (at 4 6) (codes "_init")) []
          (does P (at 5 2) (call P (at 5 2) (name P (at 5 2) (codes "print")) ((call P (at 5 8) (name P (at 5 8) (codes "c")) ((num P (at 5 10) (pos 1)) ∷ [])) ∷ (call P (at 5 14) (member P (at 5 14) (this P (at 5 14)) (codes "c")) ((num P (at 5 21) (pos 2)) ∷ [])) ∷ []))
          ∷ [])
          ∷ [];
    }
    ∷ []

-- func f(a, b = a + 1):
--     return a + b
-- func _init():
--     print(f(1), f(1, 5))
abbrev pub names_defaults : Project
names_defaults = plain_names (codes "f" ∷ codes "_init" ∷ [])

abbrev pub code_defaults : Project → List ClassMeans
code_defaults P =
    record {
      class = class_at 0 0;
      starts = [];
      functions =
          func P (class_at 0 0) false (identifier (at 1 6) (codes "f")) (param P (class_at 0 0) (identifier (at 1 8) (codes "a")) None ∷ param P (class_at 0 0) (identifier (at 1 11) (codes "b")) (Some (binary P (at 1 15) op.Add (name P (at 1 15) (codes "a")) (num P (at 1 19) (pos 1)))) ∷ [])
          (returns P (at 2 2) (Some (binary P (at 2 9) op.Add (name P (at 2 9) (codes "a")) (name P (at 2 13) (codes "b"))))
          ∷ [])
          ∷ func P (class_at 0 0) false (identifier (at 3 6) (codes "_init")) []
          (does P (at 4 2) (call P (at 4 2) (name P (at 4 2) (codes "print")) ((call P (at 4 8) (name P (at 4 8) (codes "f")) ((num P (at 4 10) (pos 1)) ∷ [])) ∷ (call P (at 4 14) (name P (at 4 14) (codes "f")) ((num P (at 4 16) (pos 1)) ∷ (num P (at 4 19) (pos 5)) ∷ [])) ∷ []))
          ∷ [])
          ∷ [];
    }
    ∷ []

-- func f(a, b = a + 1):
--     return a + b
-- func _init():
--     print(f(1), f(1, 5))
abbrev pub names_entering : Project
names_entering = plain_names (codes "f" ∷ codes "_init" ∷ [])

abbrev pub code_entering : Project → List ClassMeans
code_entering P =
    record {
      class = class_at 0 0;
      starts = [];
      functions =
          func P (class_at 0 0) false (identifier (at 1 6) (codes "f")) (param P (class_at 0 0) (identifier (at 1 8) (codes "a")) None ∷ param P (class_at 0 0) (identifier (at 1 11) (codes "b")) (Some (binary P (at 1 15) op.Add (name P (at 1 15) (codes "a")) (num P (at 1 19) (pos 1)))) ∷ [])
          (returns P (at 2 2) (Some (binary P (at 2 9) op.Add (name P (at 2 9) (codes "a")) (name P (at 2 13) (codes "b"))))
          ∷ [])
          ∷ func P (class_at 0 0) false (identifier (at 3 6) (codes "_init")) []
          (does P (at 4 2) (call P (at 4 2) (name P (at 4 2) (codes "print")) ((call P (at 4 8) (name P (at 4 8) (codes "f")) ((num P (at 4 10) (pos 1)) ∷ [])) ∷ (call P (at 4 14) (name P (at 4 14) (codes "f")) ((num P (at 4 16) (pos 1)) ∷ (num P (at 4 19) (pos 5)) ∷ [])) ∷ []))
          ∷ [])
          ∷ [];
    }
    ∷ []

-- func f(
--         a = 1 / 0):
--     pass
-- func _init():
--     f()
abbrev pub names_default_fault : Project
names_default_fault = plain_names (codes "f" ∷ codes "_init" ∷ [])

abbrev pub code_default_fault : Project → List ClassMeans
code_default_fault P =
    record {
      class = class_at 0 0;
      starts = [];
      functions =
          func P (class_at 0 0) false (identifier (at 1 6) (codes "f")) (param P (class_at 0 0) (identifier (at 2 3) (codes "a")) (Some (binary P (at 2 7) op.Div (num P (at 2 7) (pos 1)) (num P (at 2 11) (pos 0)))) ∷ [])
          (passes P (at 3 2) ∷ [])
          ∷ func P (class_at 0 0) false (identifier (at 4 6) (codes "_init")) []
          (does P (at 5 2) (call P (at 5 2) (name P (at 5 2) (codes "f")) []) ∷ [])
          ∷ [];
    }
    ∷ []

-- func f(a):
--     pass
-- func _init():
--     var c = f
--     c()
abbrev pub names_bad_args : Project
names_bad_args = plain_names (codes "f" ∷ codes "_init" ∷ [])

abbrev pub code_bad_args : Project → List ClassMeans
code_bad_args P =
    record {
      class = class_at 0 0;
      starts = [];
      functions =
          func P (class_at 0 0) false (identifier (at 1 6) (codes "f")) (param P (class_at 0 0) (identifier (at 1 8) (codes "a")) None ∷ [])
          (passes P (at 2 2) ∷ [])
          ∷ func P (class_at 0 0) false (identifier (at 3 6) (codes "_init")) []
          (local P (at 4 2) (identifier (at 4 6) (codes "c")) (Some (name P (at 4 10) (codes "f")))
          ∷ does P (at 5 2) (call P (at 5 2) (name P (at 5 2) (codes "c")) [])
          ∷ [])
          ∷ [];
    }
    ∷ []

-- func _init(a):
--     pass
abbrev pub names_bad_init : Project
names_bad_init = plain_names (codes "_init" ∷ [])

abbrev pub code_bad_init : Project → List ClassMeans
code_bad_init P =
    record {
      class = class_at 0 0;
      starts = [];
      functions =
          func P (class_at 0 0) false (identifier (at 1 6) (codes "_init")) (param P (class_at 0 0) (identifier (at 1 12) (codes "a")) None ∷ [])
          (passes P (at 2 2) ∷ [])
          ∷ [];
    }
    ∷ []

-- var x = 1
-- func f():
--     pass
-- func _init():
--     pass
abbrev pub names_no_step : Project
names_no_step = project_of (record {
  classes =
      record {
        class = class_at 0 0;
        file = 0;
        text = codes "res://m.gd";
        above = (class_of.RefCounted ∷ class_of.Object ∷ []);
        enclosing = [];
        fields = (record { name = codes "x"; class = class_at 0 0; line = 1; type = of_type.Variant; starts = WithNew } ∷ []);
        members = ((codes "f", AFunction (class_at 0 0) false) ∷ (codes "_init", AFunction (class_at 0 0) false) ∷ []);
      }
      ∷ [];
  globals = [];
  types = [];
  constants = [];
  resources = [];
  enums = [];
})

abbrev pub code_no_step : Project → List ClassMeans
code_no_step P =
    record {
      class = class_at 0 0;
      starts = ((codes "x", (num P (at 1 9) (pos 1))) ∷ []);
      functions =
          func P (class_at 0 0) false (identifier (at 2 6) (codes "f")) []
          (passes P (at 3 2) ∷ [])
          ∷ func P (class_at 0 0) false (identifier (at 4 6) (codes "_init")) []
          (passes P (at 5 2) ∷ [])
          ∷ [];
    }
    ∷ []

-- func f():
--     return
-- func g():
--     pass
-- func h(x) -> void:
--     if x:
--         return
--     print("h")
-- func _init():
--     print(f(), g())
--     h(1)
--     h(0)
-- (_init, print, f 2, g 2: 6; a statement and h, which is 3, two times)
abbrev pub names_results : Project
names_results = project_of (record {
  classes =
      record {
        class = class_at 0 0;
        file = 0;
        text = codes "res://m.gd";
        above = (class_of.RefCounted ∷ class_of.Object ∷ []);
        enclosing = [];
        fields = [];
        members = ((codes "f", AFunction (class_at 0 0) false) ∷ (codes "g", AFunction (class_at 0 0) false) ∷ (codes "h", AFunction (class_at 0 0) false) ∷ (codes "_init", AFunction (class_at 0 0) false) ∷ []);
      }
      ∷ [];
  globals = [];
  types = ((0, at 5 6, of_type.Void) ∷ []);
  constants = [];
  resources = [];
  enums = [];
})

abbrev pub code_results : Project → List ClassMeans
code_results P =
    record {
      class = class_at 0 0;
      starts = [];
      functions =
          func P (class_at 0 0) false (identifier (at 1 6) (codes "f")) []
          (returns P (at 2 2) None ∷ [])
          ∷ func P (class_at 0 0) false (identifier (at 3 6) (codes "g")) []
          (passes P (at 4 2) ∷ [])
          ∷ func P (class_at 0 0) false (identifier (at 5 6) (codes "h")) (param P (class_at 0 0) (identifier (at 5 8) (codes "x")) None ∷ [])
          (tests P (at 6 2) (branch P (at 6 2) (name P (at 6 5) (codes "x")) (returns P (at 7 3) None ∷ []) ∷ []) None
          ∷ does P (at 8 2) (call P (at 8 2) (name P (at 8 2) (codes "print")) ((txt P (at 8 8) (codes "h")) ∷ []))
          ∷ [])
          ∷ func P (class_at 0 0) false (identifier (at 9 6) (codes "_init")) []
          (does P (at 10 2) (call P (at 10 2) (name P (at 10 2) (codes "print")) ((call P (at 10 8) (name P (at 10 8) (codes "f")) []) ∷ (call P (at 10 13) (name P (at 10 13) (codes "g")) []) ∷ []))
          ∷ does P (at 11 2) (call P (at 11 2) (name P (at 11 2) (codes "h")) ((num P (at 11 4) (pos 1)) ∷ []))
          ∷ does P (at 12 2) (call P (at 12 2) (name P (at 12 2) (codes "h")) ((num P (at 12 4) (pos 0)) ∷ []))
          ∷ [])
          ∷ [];
    }
    ∷ []

-- func fact(n: int) -> int:
--     if n < 2: return 1
--     return n * fact(n - 1)
-- func _init():
--     print(fact(5))
-- (_init, print: 2; five calls of 3)
abbrev pub names_factorial : Project
names_factorial = project_of (record {
  classes =
      record {
        class = class_at 0 0;
        file = 0;
        text = codes "res://m.gd";
        above = (class_of.RefCounted ∷ class_of.Object ∷ []);
        enclosing = [];
        fields = [];
        members = ((codes "fact", AFunction (class_at 0 0) false) ∷ (codes "_init", AFunction (class_at 0 0) false) ∷ []);
      }
      ∷ [];
  globals = [];
  types = ((0, at 1 11, of_type.Int) ∷ (0, at 1 6, of_type.Int) ∷ []);
  constants = [];
  resources = [];
  enums = [];
})

abbrev pub code_factorial : Project → List ClassMeans
code_factorial P =
    record {
      class = class_at 0 0;
      starts = [];
      functions =
          func P (class_at 0 0) false (identifier (at 1 6) (codes "fact")) (param P (class_at 0 0) (identifier (at 1 11) (codes "n")) None ∷ [])
          (tests P (at 2 2) (branch P (at 2 2) (binary P (at 2 5) op.Lt (name P (at 2 5) (codes "n")) (num P (at 2 9) (pos 2))) (returns P (at 2 12) (Some (num P (at 2 19) (pos 1))) ∷ []) ∷ []) None
          ∷ returns P (at 3 2) (Some (binary P (at 3 9) op.Mul (name P (at 3 9) (codes "n")) (call P (at 3 13) (name P (at 3 13) (codes "fact")) ((binary P (at 3 18) op.Sub (name P (at 3 18) (codes "n")) (num P (at 3 22) (pos 1))) ∷ []))))
          ∷ [])
          ∷ func P (class_at 0 0) false (identifier (at 4 6) (codes "_init")) []
          (does P (at 5 2) (call P (at 5 2) (name P (at 5 2) (codes "print")) ((call P (at 5 8) (name P (at 5 8) (codes "fact")) ((num P (at 5 13) (pos 5)) ∷ [])) ∷ []))
          ∷ [])
          ∷ [];
    }
    ∷ []

-- var x = g
-- func g(a): return a
-- signal s
-- func _init():
--     print(self.x(5), s, x)
--     self.s(1)
abbrev pub names_values_called : Project
names_values_called = project_of (record {
  classes =
      record {
        class = class_at 0 0;
        file = 0;
        text = codes "res://m.gd";
        above = (class_of.RefCounted ∷ class_of.Object ∷ []);
        enclosing = [];
        fields = (record { name = codes "x"; class = class_at 0 0; line = 1; type = of_type.Variant; starts = WithNew } ∷ []);
        members = ((codes "g", AFunction (class_at 0 0) false) ∷ (codes "_init", AFunction (class_at 0 0) false) ∷ (codes "s", ASignal) ∷ []);
      }
      ∷ [];
  globals = [];
  types = [];
  constants = [];
  resources = [];
  enums = [];
})

abbrev pub code_values_called : Project → List ClassMeans
code_values_called P =
    record {
      class = class_at 0 0;
      starts = ((codes "x", (name P (at 1 9) (codes "g"))) ∷ []);
      functions =
          func P (class_at 0 0) false (identifier (at 2 6) (codes "g")) (param P (class_at 0 0) (identifier (at 2 8) (codes "a")) None ∷ [])
          (returns P (at 2 12) (Some (name P (at 2 19) (codes "a"))) ∷ [])
          ∷ func P (class_at 0 0) false (identifier (at 4 6) (codes "_init")) []
          (does P (at 5 2) (call P (at 5 2) (name P (at 5 2) (codes "print")) ((call P (at 5 8) (member P (at 5 8) (this P (at 5 8)) (codes "x")) ((num P (at 5 15) (pos 5)) ∷ [])) ∷ (name P (at 5 19) (codes "s")) ∷ (name P (at 5 22) (codes "x")) ∷ []))
          ∷ does P (at 6 2) (call P (at 6 2) (member P (at 6 2) (this P (at 6 2)) (codes "s")) ((num P (at 6 9) (pos 1)) ∷ []))
          ∷ [])
          ∷ [];
    }
    ∷ []

-- func f(n):
--     if n == 0: return 0
--     return f(n - 1)
-- func _init():
--     print(f(1022))
-- (1,024 frames: _init, print: 2; 1,023 calls of 3)
abbrev pub names_deepest : Project
names_deepest = plain_names (codes "f" ∷ codes "_init" ∷ [])

abbrev pub code_deepest : Project → List ClassMeans
code_deepest P =
    record {
      class = class_at 0 0;
      starts = [];
      functions =
          func P (class_at 0 0) false (identifier (at 1 6) (codes "f")) (param P (class_at 0 0) (identifier (at 1 8) (codes "n")) None ∷ [])
          (tests P (at 2 2) (branch P (at 2 2) (binary P (at 2 5) op.Eq (name P (at 2 5) (codes "n")) (num P (at 2 10) (pos 0))) (returns P (at 2 13) (Some (num P (at 2 20) (pos 0))) ∷ []) ∷ []) None
          ∷ returns P (at 3 2) (Some (call P (at 3 9) (name P (at 3 9) (codes "f")) ((binary P (at 3 11) op.Sub (name P (at 3 11) (codes "n")) (num P (at 3 15) (pos 1))) ∷ [])))
          ∷ [])
          ∷ func P (class_at 0 0) false (identifier (at 4 6) (codes "_init")) []
          (does P (at 5 2) (call P (at 5 2) (name P (at 5 2) (codes "print")) ((call P (at 5 8) (name P (at 5 8) (codes "f")) ((num P (at 5 10) (pos 1022)) ∷ [])) ∷ []))
          ∷ [])
          ∷ [];
    }
    ∷ []

-- func f(n):
--     if n == 0: return g.call(1)
--     return f(n - 1)
-- func g():
--     pass
-- func _init():
--     f(1022)
-- (1,024 frames: _init and its statement: 2; 1,023 calls of 3)
abbrev pub names_refused_at_depth : Project
names_refused_at_depth = plain_names (codes "f" ∷ codes "g" ∷ codes "_init" ∷ [])

abbrev pub code_refused_at_depth : Project → List ClassMeans
code_refused_at_depth P =
    record {
      class = class_at 0 0;
      starts = [];
      functions =
          func P (class_at 0 0) false (identifier (at 1 6) (codes "f")) (param P (class_at 0 0) (identifier (at 1 8) (codes "n")) None ∷ [])
          (tests P (at 2 2) (branch P (at 2 2) (binary P (at 2 5) op.Eq (name P (at 2 5) (codes "n")) (num P (at 2 10) (pos 0))) (returns P (at 2 13) (Some (call P (at 2 20) (member P (at 2 20) (name P (at 2 20) (codes "g")) (codes "call")) ((num P (at 2 27) (pos 1)) ∷ [])))
          ∷ []) ∷ []) None
          ∷ returns P (at 3 2) (Some (call P (at 3 9) (name P (at 3 9) (codes "f")) ((binary P (at 3 11) op.Sub (name P (at 3 11) (codes "n")) (num P (at 3 15) (pos 1))) ∷ [])))
          ∷ [])
          ∷ func P (class_at 0 0) false (identifier (at 4 6) (codes "g")) []
          (passes P (at 5 2) ∷ [])
          ∷ func P (class_at 0 0) false (identifier (at 6 6) (codes "_init")) []
          (does P (at 7 2) (call P (at 7 2) (name P (at 7 2) (codes "f")) ((num P (at 7 4) (pos 1022)) ∷ []))
          ∷ [])
          ∷ [];
    }
    ∷ []

-- what these scripts write, each in so many steps at most
pub record CallRows : Type 0 where
  pub row_callables : writes names_callables code_callables 100 ≡ codes "12true<Callable f>\ndone steps 7 left 0\n"
  pub row_not_callable : writes names_not_callable code_not_callable 100 ≡ codes "fault NotCallable res://m.gd:3 steps 3\n"
  pub row_null_call : writes names_null_call code_null_call 100 ≡ codes "fault NullAccess res://m.gd:3 steps 3\n"
  pub row_freed_call : writes names_freed_call code_freed_call 100 ≡ codes "false\nfault FreedAccess res://m.gd:7 steps 4\n"
  pub row_field_called : writes names_field_called code_field_called 100 ≡ codes "23\ndone steps 7 left 0\n"
  pub row_defaults : writes names_defaults code_defaults 100 ≡ codes "36\ndone steps 6 left 0\n"
  pub row_entering : writes names_entering code_entering 2 ≡ codes "spent res://m.gd:4 steps 2\n"
  pub row_default_fault : writes names_default_fault code_default_fault 100 ≡ codes "fault DivisionByZero res://m.gd:2 steps 3\n"
  pub row_bad_args : writes names_bad_args code_bad_args 100 ≡ codes "fault BadArgs res://m.gd:5 steps 3\n"
  pub row_bad_init : writes names_bad_init code_bad_init 100 ≡ codes "fault BadArgs res://m.gd:1 steps 0\n"
  pub row_no_step : writes names_no_step code_no_step 1 ≡ codes "spent res://m.gd:4 steps 1\n"
  pub row_results : writes names_results code_results 100 ≡ codes "<null><null>\nh\ndone steps 14 left 0\n"
  pub row_factorial : writes names_factorial code_factorial 100 ≡ codes "120\ndone steps 17 left 0\n"
  pub row_values_called : writes names_values_called code_values_called 9 ≡ codes "5<Signal s><Callable g>\nfault NotCallable res://m.gd:6 steps 6\n"
  pub row_deepest : writes names_deepest code_deepest 10000 ≡ codes "0\ndone steps 3071 left 0\n"
  pub row_refused_at_depth : writes names_refused_at_depth code_refused_at_depth 10000 ≡ codes "fault BadArgs res://m.gd:2 steps 3071\n"
