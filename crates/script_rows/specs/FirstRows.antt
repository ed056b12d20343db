-- Worked runs of first scripts.
use Rattle.std.specs.Prelude.{◌≡◌, pos, true, false, List, [], ◌∷◌, codes, Some, None}
use Rattle.folder_meaning.specs.declared.script_type.ScriptType.TheVariants as of_type
use Rattle.gd_syntax.specs.declared.tree.expr.Literal.TheVariants as literal
use Rattle.gd_syntax.specs.declared.tree.expr.TreeOp.TheVariants as op
use Rattle.gd_syntax.specs.declared.tree.expr.TreePrefix.TheVariants as prefix
use Rattle.gd_syntax.specs.declared.tree.statement.AssignOp.TheVariants as assign
use Rattle.variant_values.specs.declared.classes.ClassTag.TheVariants as class_of
use Rattle.script_meaning.specs.Projects.{Project, AFunction, AClass, Never, WithNew}
use Rattle.script_meaning.specs.Tables.{ClassMeans}
use Rattle.script_rows.specs.Scripts.{at, identifier, match_branch, lit, num, txt, name, array, dictionary, index, member, call, prefixed, binary, wildcard, literal_pattern, breaks, returns, local, assigns, does, branch, tests, loops, walks, matches, param, func, class_at, project_of, plain_names, writes}

-- func _init():
--     print(1 + 2)
abbrev pub names_1 : Project
names_1 = plain_names (codes "_init" ∷ [])

abbrev pub code_1 : Project → List ClassMeans
code_1 P =
    record {
      class = class_at 0 0;
      starts = [];
      functions =
          func P (class_at 0 0) false (identifier (at 1 6) (codes "_init")) []
          (does P (at 2 2) (call P (at 2 2) (name P (at 2 2) (codes "print")) ((binary P (at 2 8) op.Add (num P (at 2 8) (pos 1)) (num P (at 2 12) (pos 2))) ∷ []))
          ∷ [])
          ∷ [];
    }
    ∷ []

-- func _init():
--     print(-7 / 2, " ", -7 % 2)
abbrev pub names_4 : Project
names_4 = plain_names (codes "_init" ∷ [])

abbrev pub code_4 : Project → List ClassMeans
code_4 P =
    record {
      class = class_at 0 0;
      starts = [];
      functions =
          func P (class_at 0 0) false (identifier (at 1 6) (codes "_init")) []
          (does P (at 2 2) (call P (at 2 2) (name P (at 2 2) (codes "print")) ((binary P (at 2 8) op.Div (prefixed P (at 2 8) prefix.Neg (num P (at 2 9) (pos 7))) (num P (at 2 13) (pos 2))) ∷ (txt P (at 2 16) (codes " ")) ∷ (binary P (at 2 21) op.Rem (prefixed P (at 2 21) prefix.Neg (num P (at 2 22) (pos 7))) (num P (at 2 26) (pos 2))) ∷ []))
          ∷ [])
          ∷ [];
    }
    ∷ []

-- func _init():
--     print([1, "a", null, {}])
abbrev pub names_5 : Project
names_5 = plain_names (codes "_init" ∷ [])

abbrev pub code_5 : Project → List ClassMeans
code_5 P =
    record {
      class = class_at 0 0;
      starts = [];
      functions =
          func P (class_at 0 0) false (identifier (at 1 6) (codes "_init")) []
          (does P (at 2 2) (call P (at 2 2) (name P (at 2 2) (codes "print")) ((array P (at 2 8) ((num P (at 2 9) (pos 1)) ∷ (txt P (at 2 12) (codes "a")) ∷ (lit P (at 2 17) literal.Null) ∷ (dictionary P (at 2 23) []) ∷ [])) ∷ []))
          ∷ [])
          ∷ [];
    }
    ∷ []

-- func _init():
--     for i in 3: print(i)
abbrev pub names_6 : Project
names_6 = plain_names (codes "_init" ∷ [])

abbrev pub code_6 : Project → List ClassMeans
code_6 P =
    record {
      class = class_at 0 0;
      starts = [];
      functions =
          func P (class_at 0 0) false (identifier (at 1 6) (codes "_init")) []
          (walks P (at 2 2) (identifier (at 2 6) (codes "i")) (num P (at 2 11) (pos 3)) (does P (at 2 14) (call P (at 2 14) (name P (at 2 14) (codes "print")) ((name P (at 2 20) (codes "i")) ∷ []))
          ∷ [])
          ∷ [])
          ∷ [];
    }
    ∷ []

-- func _init():
--     for i in 3: print(i)
abbrev pub names_7 : Project
names_7 = plain_names (codes "_init" ∷ [])

abbrev pub code_7 : Project → List ClassMeans
code_7 P =
    record {
      class = class_at 0 0;
      starts = [];
      functions =
          func P (class_at 0 0) false (identifier (at 1 6) (codes "_init")) []
          (walks P (at 2 2) (identifier (at 2 6) (codes "i")) (num P (at 2 11) (pos 3)) (does P (at 2 14) (call P (at 2 14) (name P (at 2 14) (codes "print")) ((name P (at 2 20) (codes "i")) ∷ []))
          ∷ [])
          ∷ [])
          ∷ [];
    }
    ∷ []

-- var x = 1
-- func f() -> int:
--     x = 5
--     return 1
-- func _init():
--     print(x + f())
abbrev pub names_14 : Project
names_14 = project_of (record {
  classes =
      record {
        class = class_at 0 0;
        file = 0;
        text = codes "res://m.gd";
        above = (class_of.RefCounted ∷ class_of.Object ∷ []);
        enclosing = [];
        fields = (record { name = codes "x"; class = class_at 0 0; line = 1; type = of_type.Variant; starts = WithNew } ∷ []);
        members = ((codes "f", AFunction (class_at 0 0) false) ∷ (codes "_init", AFunction (class_at 0 0) false) ∷ []);
      }
      ∷ [];
  globals = [];
  types = ((0, at 2 6, of_type.Int) ∷ []);
  constants = [];
  resources = [];
  enums = [];
})

abbrev pub code_14 : Project → List ClassMeans
code_14 P =
    record {
      class = class_at 0 0;
      starts = ((codes "x", (num P (at 1 9) (pos 1))) ∷ []);
      functions =
          func P (class_at 0 0) false (identifier (at 2 6) (codes "f")) []
          (assigns P (at 3 2) (name P (at 3 2) (codes "x")) assign.Set (num P (at 3 6) (pos 5))
          ∷ returns P (at 4 2) (Some (num P (at 4 9) (pos 1)))
          ∷ [])
          ∷ func P (class_at 0 0) false (identifier (at 5 6) (codes "_init")) []
          (does P (at 6 2) (call P (at 6 2) (name P (at 6 2) (codes "print")) ((binary P (at 6 8) op.Add (name P (at 6 8) (codes "x")) (call P (at 6 12) (name P (at 6 12) (codes "f")) [])) ∷ []))
          ∷ [])
          ∷ [];
    }
    ∷ []

-- func _init():
--     var a = [RefCounted.new()]
--     var w = weakref(a[0])
--     print(a.clear(), w.get_ref() == null)
--     print(w.get_ref() == null)
abbrev pub names_15 : Project
names_15 = plain_names (codes "_init" ∷ [])

abbrev pub code_15 : Project → List ClassMeans
code_15 P =
    record {
      class = class_at 0 0;
      starts = [];
      functions =
          func P (class_at 0 0) false (identifier (at 1 6) (codes "_init")) []
          (local P (at 2 2) (identifier (at 2 6) (codes "a")) (Some (array P (at 2 10) ((call P (at 2 11) (member P (at 2 11) (name P (at 2 11) (codes "RefCounted")) (codes "new")) []) ∷ [])))
          ∷ local P (at 3 2) (identifier (at 3 6) (codes "w")) (Some (call P (at 3 10) (name P (at 3 10) (codes "weakref")) ((index P (at 3 18) (name P (at 3 18) (codes "a")) (num P (at 3 20) (pos 0))) ∷ [])))
          ∷ does P (at 4 2) (call P (at 4 2) (name P (at 4 2) (codes "print")) ((call P (at 4 8) (member P (at 4 8) (name P (at 4 8) (codes "a")) (codes "clear")) []) ∷ (binary P (at 4 19) op.Eq (call P (at 4 19) (member P (at 4 19) (name P (at 4 19) (codes "w")) (codes "get_ref")) []) (lit P (at 4 34) literal.Null)) ∷ []))
          ∷ does P (at 5 2) (call P (at 5 2) (name P (at 5 2) (codes "print")) ((binary P (at 5 8) op.Eq (call P (at 5 8) (member P (at 5 8) (name P (at 5 8) (codes "w")) (codes "get_ref")) []) (lit P (at 5 23) literal.Null)) ∷ []))
          ∷ [])
          ∷ [];
    }
    ∷ []

-- class Box:
--     var other
-- func _init():
--     var a = Box.new()
--     var b = Box.new()
--     a.other = b
--     b.other = a
abbrev pub names_16 : Project
names_16 = project_of (record {
  classes =
      record {
        class = class_at 0 0;
        file = 0;
        text = codes "res://m.gd";
        above = (class_of.RefCounted ∷ class_of.Object ∷ []);
        enclosing = [];
        fields = [];
        members = ((codes "_init", AFunction (class_at 0 0) false) ∷ (codes "Box", AClass (class_at 0 1)) ∷ []);
      }
      ∷ record {
        class = class_at 0 1;
        file = 0;
        text = codes "Box";
        above = (class_of.RefCounted ∷ class_of.Object ∷ []);
        enclosing = (class_at 0 0 ∷ []);
        fields = (record { name = codes "other"; class = class_at 0 1; line = 2; type = of_type.Variant; starts = Never } ∷ []);
        members = [];
      }
      ∷ [];
  globals = [];
  types = [];
  constants = [];
  resources = [];
  enums = [];
})

abbrev pub code_16 : Project → List ClassMeans
code_16 P =
    record {
      class = class_at 0 0;
      starts = [];
      functions =
          func P (class_at 0 0) false (identifier (at 3 6) (codes "_init")) []
          (local P (at 4 2) (identifier (at 4 6) (codes "a")) (Some (call P (at 4 10) (member P (at 4 10) (name P (at 4 10) (codes "Box")) (codes "new")) []))
          ∷ local P (at 5 2) (identifier (at 5 6) (codes "b")) (Some (call P (at 5 10) (member P (at 5 10) (name P (at 5 10) (codes "Box")) (codes "new")) []))
          ∷ assigns P (at 6 2) (member P (at 6 2) (name P (at 6 2) (codes "a")) (codes "other")) assign.Set (name P (at 6 12) (codes "b"))
          ∷ assigns P (at 7 2) (member P (at 7 2) (name P (at 7 2) (codes "b")) (codes "other")) assign.Set (name P (at 7 12) (codes "a"))
          ∷ [])
          ∷ [];
    }
    ∷ []

-- func _init():
--     print("a")
--     print(1 / 0)
abbrev pub names_19 : Project
names_19 = plain_names (codes "_init" ∷ [])

abbrev pub code_19 : Project → List ClassMeans
code_19 P =
    record {
      class = class_at 0 0;
      starts = [];
      functions =
          func P (class_at 0 0) false (identifier (at 1 6) (codes "_init")) []
          (does P (at 2 2) (call P (at 2 2) (name P (at 2 2) (codes "print")) ((txt P (at 2 8) (codes "a")) ∷ []))
          ∷ does P (at 3 2) (call P (at 3 2) (name P (at 3 2) (codes "print")) ((binary P (at 3 8) op.Div (num P (at 3 8) (pos 1)) (num P (at 3 12) (pos 0))) ∷ []))
          ∷ [])
          ∷ [];
    }
    ∷ []

-- func _init():
--     var d = {"a": 1, "b": 2}
--     d["a"] = 3
--     print(d, " ", d.get("z"))
abbrev pub names_25 : Project
names_25 = plain_names (codes "_init" ∷ [])

abbrev pub code_25 : Project → List ClassMeans
code_25 P =
    record {
      class = class_at 0 0;
      starts = [];
      functions =
          func P (class_at 0 0) false (identifier (at 1 6) (codes "_init")) []
          (local P (at 2 2) (identifier (at 2 6) (codes "d")) (Some (dictionary P (at 2 10) (((txt P (at 2 11) (codes "a")), (num P (at 2 16) (pos 1))) ∷ ((txt P (at 2 19) (codes "b")), (num P (at 2 24) (pos 2))) ∷ [])))
          ∷ assigns P (at 3 2) (index P (at 3 2) (name P (at 3 2) (codes "d")) (txt P (at 3 4) (codes "a"))) assign.Set (num P (at 3 11) (pos 3))
          ∷ does P (at 4 2) (call P (at 4 2) (name P (at 4 2) (codes "print")) ((name P (at 4 8) (codes "d")) ∷ (txt P (at 4 11) (codes " ")) ∷ (call P (at 4 16) (member P (at 4 16) (name P (at 4 16) (codes "d")) (codes "get")) ((txt P (at 4 22) (codes "z")) ∷ [])) ∷ []))
          ∷ [])
          ∷ [];
    }
    ∷ []

-- func _init():
--     print("%03d,%s,%x" % [7, [1], 255])
abbrev pub names_27 : Project
names_27 = plain_names (codes "_init" ∷ [])

abbrev pub code_27 : Project → List ClassMeans
code_27 P =
    record {
      class = class_at 0 0;
      starts = [];
      functions =
          func P (class_at 0 0) false (identifier (at 1 6) (codes "_init")) []
          (does P (at 2 2) (call P (at 2 2) (name P (at 2 2) (codes "print")) ((binary P (at 2 8) op.Rem (txt P (at 2 8) (codes "%03d,%s,%x")) (array P (at 2 23) ((num P (at 2 24) (pos 7)) ∷ (array P (at 2 27) ((num P (at 2 28) (pos 1)) ∷ [])) ∷ (num P (at 2 32) (pos 255)) ∷ []))) ∷ []))
          ∷ [])
          ∷ [];
    }
    ∷ []

-- func _init():
--     match true:
--         1: print("i")
--         _: print("w")
abbrev pub names_28 : Project
names_28 = plain_names (codes "_init" ∷ [])

abbrev pub code_28 : Project → List ClassMeans
code_28 P =
    record {
      class = class_at 0 0;
      starts = [];
      functions =
          func P (class_at 0 0) false (identifier (at 1 6) (codes "_init")) []
          (matches P (at 2 2) (lit P (at 2 8) (literal.Bool true)) (match_branch ((literal_pattern P (at 3 3) false (literal.Int (pos 1))) ∷ []) (does P (at 3 6) (call P (at 3 6) (name P (at 3 6) (codes "print")) ((txt P (at 3 12) (codes "i")) ∷ []))
          ∷ [])
          ∷ match_branch ((wildcard P (at 4 3)) ∷ []) (does P (at 4 6) (call P (at 4 6) (name P (at 4 6) (codes "print")) ((txt P (at 4 12) (codes "w")) ∷ []))
          ∷ [])
          ∷ [])
          ∷ [])
          ∷ [];
    }
    ∷ []

-- func f(n):
--     return f(n + 1)
-- func _init():
--     f(0)
-- (1,024 frames: 1,024 calls and 1,024 statements)
abbrev pub names_deep : Project
names_deep = plain_names (codes "f" ∷ codes "_init" ∷ [])

abbrev pub code_deep : Project → List ClassMeans
code_deep P =
    record {
      class = class_at 0 0;
      starts = [];
      functions =
          func P (class_at 0 0) false (identifier (at 1 6) (codes "f")) (param P (class_at 0 0) (identifier (at 1 8) (codes "n")) None ∷ [])
          (returns P (at 2 2) (Some (call P (at 2 9) (name P (at 2 9) (codes "f")) ((binary P (at 2 11) op.Add (name P (at 2 11) (codes "n")) (num P (at 2 15) (pos 1))) ∷ [])))
          ∷ [])
          ∷ func P (class_at 0 0) false (identifier (at 3 6) (codes "_init")) []
          (does P (at 4 2) (call P (at 4 2) (name P (at 4 2) (codes "f")) ((num P (at 4 4) (pos 0)) ∷ []))
          ∷ [])
          ∷ [];
    }
    ∷ []

-- func _init():
--     var i = 0
--     while true:
--         i += 1
--         if i == 2:
--             break
--     print(i)
abbrev pub names_turns : Project
names_turns = plain_names (codes "_init" ∷ [])

abbrev pub code_turns : Project → List ClassMeans
code_turns P =
    record {
      class = class_at 0 0;
      starts = [];
      functions =
          func P (class_at 0 0) false (identifier (at 1 6) (codes "_init")) []
          (local P (at 2 2) (identifier (at 2 6) (codes "i")) (Some (num P (at 2 10) (pos 0)))
          ∷ loops P (at 3 2) (lit P (at 3 8) (literal.Bool true)) (assigns P (at 4 3) (name P (at 4 3) (codes "i")) assign.Add (num P (at 4 8) (pos 1))
          ∷ tests P (at 5 3) (branch P (at 5 3) (binary P (at 5 6) op.Eq (name P (at 5 6) (codes "i")) (num P (at 5 11) (pos 2))) (breaks P (at 6 4) ∷ []) ∷ []) None
          ∷ [])
          ∷ does P (at 7 2) (call P (at 7 2) (name P (at 7 2) (codes "print")) ((name P (at 7 8) (codes "i")) ∷ []))
          ∷ [])
          ∷ [];
    }
    ∷ []

-- func _init():
--     var v = "a"
--     var n: int = v
abbrev pub names_received : Project
names_received = project_of (record {
  classes =
      record {
        class = class_at 0 0;
        file = 0;
        text = codes "res://m.gd";
        above = (class_of.RefCounted ∷ class_of.Object ∷ []);
        enclosing = [];
        fields = [];
        members = ((codes "_init", AFunction (class_at 0 0) false) ∷ []);
      }
      ∷ [];
  globals = [];
  types = ((0, at 3 6, of_type.Int) ∷ []);
  constants = [];
  resources = [];
  enums = [];
})

abbrev pub code_received : Project → List ClassMeans
code_received P =
    record {
      class = class_at 0 0;
      starts = [];
      functions =
          func P (class_at 0 0) false (identifier (at 1 6) (codes "_init")) []
          (local P (at 2 2) (identifier (at 2 6) (codes "v")) (Some (txt P (at 2 10) (codes "a")))
          ∷ local P (at 3 2) (identifier (at 3 6) (codes "n")) (Some (name P (at 3 15) (codes "v")))
          ∷ [])
          ∷ [];
    }
    ∷ []

-- func _init():
--     print(1 + 2)
abbrev pub names_one_step : Project
names_one_step = plain_names (codes "_init" ∷ [])

abbrev pub code_one_step : Project → List ClassMeans
code_one_step P =
    record {
      class = class_at 0 0;
      starts = [];
      functions =
          func P (class_at 0 0) false (identifier (at 1 6) (codes "_init")) []
          (does P (at 2 2) (call P (at 2 2) (name P (at 2 2) (codes "print")) ((binary P (at 2 8) op.Add (num P (at 2 8) (pos 1)) (num P (at 2 12) (pos 2))) ∷ []))
          ∷ [])
          ∷ [];
    }
    ∷ []

-- func _init():
--     print(9223372036854775807 + 1)
abbrev pub names_wraps : Project
names_wraps = plain_names (codes "_init" ∷ [])

abbrev pub code_wraps : Project → List ClassMeans
code_wraps P =
    record {
      class = class_at 0 0;
      starts = [];
      functions =
          func P (class_at 0 0) false (identifier (at 1 6) (codes "_init")) []
          (does P (at 2 2) (call P (at 2 2) (name P (at 2 2) (codes "print")) ((binary P (at 2 8) op.Add (num P (at 2 8) (pos 9223372036854775807)) (num P (at 2 30) (pos 1))) ∷ []))
          ∷ [])
          ∷ [];
    }
    ∷ []

-- what these scripts write, each in so many steps at most
pub record FirstRows : Type 0 where
  pub row_1 : writes names_1 code_1 100 ≡ codes "3\ndone steps 2 left 0\n"
  pub row_4 : writes names_4 code_4 100 ≡ codes "-3 -1\ndone steps 2 left 0\n"
  pub row_5 : writes names_5 code_5 100 ≡ codes "[1, \"a\", <null>, {}]\ndone steps 2 left 0\n"
  pub row_6 : writes names_6 code_6 100 ≡ codes "0\n1\n2\ndone steps 9 left 0\n"
  pub row_7 : writes names_7 code_7 8 ≡ codes "0\n1\n2\nspent res://m.gd:2 steps 8\n"
  pub row_14 : writes names_14 code_14 100 ≡ codes "2\ndone steps 6 left 0\n"
  pub row_15 : writes names_15 code_15 100 ≡ codes "<null>false\ntrue\ndone steps 5 left 0\n"
  pub row_16 : writes names_16 code_16 100 ≡ codes "done steps 5 left 2\n"
  pub row_19 : writes names_19 code_19 100 ≡ codes "a\nfault DivisionByZero res://m.gd:3 steps 3\n"
  pub row_25 : writes names_25 code_25 100 ≡ codes "{ \"a\": 3, \"b\": 2 } <null>\ndone steps 4 left 0\n"
  pub row_27 : writes names_27 code_27 100 ≡ codes "007,[1],ff\ndone steps 2 left 0\n"
  pub row_28 : writes names_28 code_28 100 ≡ codes "w\ndone steps 3 left 0\n"
  pub row_deep : writes names_deep code_deep 10000000 ≡ codes "fault CallTooDeep res://m.gd:2 steps 2048\n"
  pub row_turns : writes names_turns code_turns 10000000 ≡ codes "2\ndone steps 11 left 0\n"
  pub row_received : writes names_received code_received 100 ≡ codes "fault BadType res://m.gd:3 steps 3\n"
  pub row_one_step : writes names_one_step code_one_step 1 ≡ codes "spent res://m.gd:2 steps 1\n"
  pub row_wraps : writes names_wraps code_wraps 100 ≡ codes "-9223372036854775808\ndone steps 2 left 0\n"
