-- Worked runs on patterns.
use Rattle.std.specs.Prelude.{◌≡◌, pos, true, false, List, [], ◌∷◌, codes, Some, None}
use Rattle.gd_syntax.specs.declared.tree.expr.Literal.TheVariants as literal
use Rattle.gd_syntax.specs.declared.tree.expr.TreeOp.TheVariants as op
use Rattle.gd_syntax.specs.declared.tree.expr.TreePrefix.TheVariants as prefix
use Rattle.gd_syntax.specs.declared.tree.statement.AssignOp.TheVariants as assign
use Rattle.variant_values.specs.declared.classes.ClassTag.TheVariants as class_of
use Rattle.variant_values.specs.declared.values.Value.TheVariants.{Int}
use Rattle.script_meaning.specs.Projects.{Project, AFunction, AConstant, AnEnum, AClass}
use Rattle.script_meaning.specs.Constants.{scalar_made}
use Rattle.script_meaning.specs.Tables.{ClassMeans}
use Rattle.script_rows.specs.Scripts.{at, identifier, match_branch, lit, num, txt, name, array, dictionary, member, call, prefixed, binary, wildcard, bind, literal_pattern, path_pattern, array_pattern, dict_pattern, entry_pattern, breaks, returns, local, assigns, does, loops, matches, param, func, class_at, project_of, plain_names, writes}

-- const K = 4
-- enum E { A, B }
-- func f(x):
--     match x:
--         0: print("zero")
--         E.B, 2: print("few")
--         -3: print("minus")
--         "s": print("text")
--         null: print("null")
--         true: print("true")
--         K: print("K")
--         _: print("other")
-- func _init():
--     f(0)
--     f(1)
--     f(2)
--     f(-3)
--     f("s")
--     f(null)
--     f(true)
--     f(4)
--     f(false)
-- (_init: 1; each statement calls f, which matches and prints: 4, nine times)
abbrev pub names_scalars : Project
names_scalars = project_of (record {
  classes =
      record {
        class = class_at 0 0;
        file = 0;
        text = codes "res://m.gd";
        above = (class_of.RefCounted ∷ class_of.Object ∷ []);
        enclosing = [];
        fields = [];
        members = ((codes "f", AFunction (class_at 0 0) false) ∷ (codes "_init", AFunction (class_at 0 0) false) ∷ (codes "K", AConstant (scalar_made (Int (pos 4)))) ∷ (codes "E", AnEnum ((codes "A", pos 0) ∷ (codes "B", pos 1) ∷ [])) ∷ []);
      }
      ∷ [];
  globals = [];
  types = [];
  constants = [];
  resources = [];
  enums = [];
})

abbrev pub code_scalars : Project → List ClassMeans
code_scalars P =
    record {
      class = class_at 0 0;
      starts = [];
      functions =
          func P (class_at 0 0) false (identifier (at 3 6) (codes "f")) (param P (class_at 0 0) (identifier (at 3 8) (codes "x")) None ∷ [])
          (matches P (at 4 2) (name P (at 4 8) (codes "x")) (match_branch ((literal_pattern P (at 5 3) false (literal.Int (pos 0))) ∷ []) (does P (at 5 6) (call P (at 5 6) (name P (at 5 6) (codes "print")) ((txt P (at 5 12) (codes "zero")) ∷ []))
          ∷ [])
          ∷ match_branch ((path_pattern P (at 6 3) (codes "E" ∷ codes "B" ∷ [])) ∷ (literal_pattern P (at 6 8) false (literal.Int (pos 2))) ∷ []) (does P (at 6 11) (call P (at 6 11) (name P (at 6 11) (codes "print")) ((txt P (at 6 17) (codes "few")) ∷ []))
          ∷ [])
          ∷ match_branch ((literal_pattern P (at 7 3) true (literal.Int (pos 3))) ∷ []) (does P (at 7 7) (call P (at 7 7) (name P (at 7 7) (codes "print")) ((txt P (at 7 13) (codes "minus")) ∷ []))
          ∷ [])
          ∷ match_branch ((literal_pattern P (at 8 3) false (literal.Text (codes "s"))) ∷ []) (does P (at 8 8) (call P (at 8 8) (name P (at 8 8) (codes "print")) ((txt P (at 8 14) (codes "text")) ∷ []))
          ∷ [])
          ∷ match_branch ((literal_pattern P (at 9 3) false literal.Null) ∷ []) (does P (at 9 9) (call P (at 9 9) (name P (at 9 9) (codes "print")) ((txt P (at 9 15) (codes "null")) ∷ []))
          ∷ [])
          ∷ match_branch ((literal_pattern P (at 10 3) false (literal.Bool true)) ∷ []) (does P (at 10 9) (call P (at 10 9) (name P (at 10 9) (codes "print")) ((txt P (at 10 15) (codes "true")) ∷ []))
          ∷ [])
          ∷ match_branch ((path_pattern P (at 11 3) (codes "K" ∷ [])) ∷ []) (does P (at 11 6) (call P (at 11 6) (name P (at 11 6) (codes "print")) ((txt P (at 11 12) (codes "K")) ∷ []))
          ∷ [])
          ∷ match_branch ((wildcard P (at 12 3)) ∷ []) (does P (at 12 6) (call P (at 12 6) (name P (at 12 6) (codes "print")) ((txt P (at 12 12) (codes "other")) ∷ []))
          ∷ [])
          ∷ [])
          ∷ [])
          ∷ func P (class_at 0 0) false (identifier (at 13 6) (codes "_init")) []
          (does P (at 14 2) (call P (at 14 2) (name P (at 14 2) (codes "f")) ((num P (at 14 4) (pos 0)) ∷ []))
          ∷ does P (at 15 2) (call P (at 15 2) (name P (at 15 2) (codes "f")) ((num P (at 15 4) (pos 1)) ∷ []))
          ∷ does P (at 16 2) (call P (at 16 2) (name P (at 16 2) (codes "f")) ((num P (at 16 4) (pos 2)) ∷ []))
          ∷ does P (at 17 2) (call P (at 17 2) (name P (at 17 2) (codes "f")) ((prefixed P (at 17 4) prefix.Neg (num P (at 17 5) (pos 3))) ∷ []))
          ∷ does P (at 18 2) (call P (at 18 2) (name P (at 18 2) (codes "f")) ((txt P (at 18 4) (codes "s")) ∷ []))
          ∷ does P (at 19 2) (call P (at 19 2) (name P (at 19 2) (codes "f")) ((lit P (at 19 4) literal.Null) ∷ []))
          ∷ does P (at 20 2) (call P (at 20 2) (name P (at 20 2) (codes "f")) ((lit P (at 20 4) (literal.Bool true)) ∷ []))
          ∷ does P (at 21 2) (call P (at 21 2) (name P (at 21 2) (codes "f")) ((num P (at 21 4) (pos 4)) ∷ []))
          ∷ does P (at 22 2) (call P (at 22 2) (name P (at 22 2) (codes "f")) ((lit P (at 22 4) (literal.Bool false)) ∷ []))
          ∷ [])
          ∷ [];
    }
    ∷ []

-- func f(x):
--     match x:
--         []: print("empty")
--         [var a]: print("one ", a)
--         [1, [_, var b]]: print("deep ", b)
--         [1, ..]: print("from 1")
--         [_, 2, ..]: print("second 2")
--         var other: print("other ", other)
-- func _init():
--     f([])
--     f([9])
--     f([1, [0, 8]])
--     f([1, 5])
--     f([3, 2, 1])
--     f("[]")
--     f([3, 3])
-- (_init: 1; 4, seven times)
abbrev pub names_array_patterns : Project
names_array_patterns = plain_names (codes "f" ∷ codes "_init" ∷ [])

abbrev pub code_array_patterns : Project → List ClassMeans
code_array_patterns P =
    record {
      class = class_at 0 0;
      starts = [];
      functions =
          func P (class_at 0 0) false (identifier (at 1 6) (codes "f")) (param P (class_at 0 0) (identifier (at 1 8) (codes "x")) None ∷ [])
          (matches P (at 2 2) (name P (at 2 8) (codes "x")) (match_branch ((array_pattern P (at 3 3) [] false) ∷ []) (does P (at 3 7) (call P (at 3 7) (name P (at 3 7) (codes "print")) ((txt P (at 3 13) (codes "empty")) ∷ []))
          ∷ [])
          ∷ match_branch ((array_pattern P (at 4 3) ((bind P (at 4 4) (identifier (at 4 8) (codes "a"))) ∷ []) false) ∷ []) (does P (at 4 12) (call P (at 4 12) (name P (at 4 12) (codes "print")) ((txt P (at 4 18) (codes "one ")) ∷ (name P (at 4 26) (codes "a")) ∷ []))
          ∷ [])
          ∷ match_branch ((array_pattern P (at 5 3) ((literal_pattern P (at 5 4) false (literal.Int (pos 1))) ∷ (array_pattern P (at 5 7) ((wildcard P (at 5 8)) ∷ (bind P (at 5 11) (identifier (at 5 15) (codes "b"))) ∷ []) false) ∷ []) false) ∷ []) (does P (at 5 20) (call P (at 5 20) (name P (at 5 20) (codes "print")) ((txt P (at 5 26) (codes "deep ")) ∷ (name P (at 5 35) (codes "b")) ∷ []))
          ∷ [])
          ∷ match_branch ((array_pattern P (at 6 3) ((literal_pattern P (at 6 4) false (literal.Int (pos 1))) ∷ []) true) ∷ []) (does P (at 6 12) (call P (at 6 12) (name P (at 6 12) (codes "print")) ((txt P (at 6 18) (codes "from 1")) ∷ []))
          ∷ [])
          ∷ match_branch ((array_pattern P (at 7 3) ((wildcard P (at 7 4)) ∷ (literal_pattern P (at 7 7) false (literal.Int (pos 2))) ∷ []) true) ∷ []) (does P (at 7 15) (call P (at 7 15) (name P (at 7 15) (codes "print")) ((txt P (at 7 21) (codes "second 2")) ∷ []))
          ∷ [])
          ∷ match_branch ((bind P (at 8 3) (identifier (at 8 7) (codes "other"))) ∷ []) (does P (at 8 14) (call P (at 8 14) (name P (at 8 14) (codes "print")) ((txt P (at 8 20) (codes "other ")) ∷ (name P (at 8 30) (codes "other")) ∷ []))
          ∷ [])
          ∷ [])
          ∷ [])
          ∷ func P (class_at 0 0) false (identifier (at 9 6) (codes "_init")) []
          (does P (at 10 2) (call P (at 10 2) (name P (at 10 2) (codes "f")) ((array P (at 10 4) []) ∷ []))
          ∷ does P (at 11 2) (call P (at 11 2) (name P (at 11 2) (codes "f")) ((array P (at 11 4) ((num P (at 11 5) (pos 9)) ∷ [])) ∷ []))
          ∷ does P (at 12 2) (call P (at 12 2) (name P (at 12 2) (codes "f")) ((array P (at 12 4) ((num P (at 12 5) (pos 1)) ∷ (array P (at 12 8) ((num P (at 12 9) (pos 0)) ∷ (num P (at 12 12) (pos 8)) ∷ [])) ∷ [])) ∷ []))
          ∷ does P (at 13 2) (call P (at 13 2) (name P (at 13 2) (codes "f")) ((array P (at 13 4) ((num P (at 13 5) (pos 1)) ∷ (num P (at 13 8) (pos 5)) ∷ [])) ∷ []))
          ∷ does P (at 14 2) (call P (at 14 2) (name P (at 14 2) (codes "f")) ((array P (at 14 4) ((num P (at 14 5) (pos 3)) ∷ (num P (at 14 8) (pos 2)) ∷ (num P (at 14 11) (pos 1)) ∷ [])) ∷ []))
          ∷ does P (at 15 2) (call P (at 15 2) (name P (at 15 2) (codes "f")) ((txt P (at 15 4) (codes "[]")) ∷ []))
          ∷ does P (at 16 2) (call P (at 16 2) (name P (at 16 2) (codes "f")) ((array P (at 16 4) ((num P (at 16 5) (pos 3)) ∷ (num P (at 16 8) (pos 3)) ∷ [])) ∷ []))
          ∷ [])
          ∷ [];
    }
    ∷ []

-- func f(x):
--     match x:
--         {}: print("none")
--         {"k": var v}: print("k ", v)
--         {"k", ..}: print("has k")
--         {1: [var a], ..}: print("one ", a)
--         {null: 1}: print("never")
--         _: print("other")
-- func _init():
--     f({})
--     f({"k": 7})
--     f({"k": 1, "l": 2})
--     f({1: [6], "z": 0})
--     f({"z": 0})
-- (_init: 1; 4, five times)
abbrev pub names_dictionary_patterns : Project
names_dictionary_patterns = plain_names (codes "f" ∷ codes "_init" ∷ [])

abbrev pub code_dictionary_patterns : Project → List ClassMeans
code_dictionary_patterns P =
    record {
      class = class_at 0 0;
      starts = [];
      functions =
          func P (class_at 0 0) false (identifier (at 1 6) (codes "f")) (param P (class_at 0 0) (identifier (at 1 8) (codes "x")) None ∷ [])
          (matches P (at 2 2) (name P (at 2 8) (codes "x")) (match_branch ((dict_pattern P (at 3 3) [] false) ∷ []) (does P (at 3 7) (call P (at 3 7) (name P (at 3 7) (codes "print")) ((txt P (at 3 13) (codes "none")) ∷ []))
          ∷ [])
          ∷ match_branch ((dict_pattern P (at 4 3) (entry_pattern P (at 4 4) (literal.Text (codes "k")) (Some (bind P (at 4 9) (identifier (at 4 13) (codes "v")))) ∷ []) false) ∷ []) (does P (at 4 17) (call P (at 4 17) (name P (at 4 17) (codes "print")) ((txt P (at 4 23) (codes "k ")) ∷ (name P (at 4 29) (codes "v")) ∷ []))
          ∷ [])
          ∷ match_branch ((dict_pattern P (at 5 3) (entry_pattern P (at 5 4) (literal.Text (codes "k")) None ∷ []) true) ∷ []) (does P (at 5 14) (call P (at 5 14) (name P (at 5 14) (codes "print")) ((txt P (at 5 20) (codes "has k")) ∷ []))
          ∷ [])
          ∷ match_branch ((dict_pattern P (at 6 3) (entry_pattern P (at 6 4) (literal.Int (pos 1)) (Some (array_pattern P (at 6 7) ((bind P (at 6 8) (identifier (at 6 12) (codes "a"))) ∷ []) false)) ∷ []) true) ∷ []) (does P (at 6 21) (call P (at 6 21) (name P (at 6 21) (codes "print")) ((txt P (at 6 27) (codes "one ")) ∷ (name P (at 6 35) (codes "a")) ∷ []))
          ∷ [])
          ∷ match_branch ((dict_pattern P (at 7 3) (entry_pattern P (at 7 4) literal.Null (Some (literal_pattern P (at 7 10) false (literal.Int (pos 1)))) ∷ []) false) ∷ []) (does P (at 7 14) (call P (at 7 14) (name P (at 7 14) (codes "print")) ((txt P (at 7 20) (codes "never")) ∷ []))
          ∷ [])
          ∷ match_branch ((wildcard P (at 8 3)) ∷ []) (does P (at 8 6) (call P (at 8 6) (name P (at 8 6) (codes "print")) ((txt P (at 8 12) (codes "other")) ∷ []))
          ∷ [])
          ∷ [])
          ∷ [])
          ∷ func P (class_at 0 0) false (identifier (at 9 6) (codes "_init")) []
          (does P (at 10 2) (call P (at 10 2) (name P (at 10 2) (codes "f")) ((dictionary P (at 10 4) []) ∷ []))
          ∷ does P (at 11 2) (call P (at 11 2) (name P (at 11 2) (codes "f")) ((dictionary P (at 11 4) (((txt P (at 11 5) (codes "k")), (num P (at 11 10) (pos 7))) ∷ [])) ∷ []))
          ∷ does P (at 12 2) (call P (at 12 2) (name P (at 12 2) (codes "f")) ((dictionary P (at 12 4) (((txt P (at 12 5) (codes "k")), (num P (at 12 10) (pos 1))) ∷ ((txt P (at 12 13) (codes "l")), (num P (at 12 18) (pos 2))) ∷ [])) ∷ []))
          ∷ does P (at 13 2) (call P (at 13 2) (name P (at 13 2) (codes "f")) ((dictionary P (at 13 4) (((num P (at 13 5) (pos 1)), (array P (at 13 8) ((num P (at 13 9) (pos 6)) ∷ []))) ∷ ((txt P (at 13 13) (codes "z")), (num P (at 13 18) (pos 0))) ∷ [])) ∷ []))
          ∷ does P (at 14 2) (call P (at 14 2) (name P (at 14 2) (codes "f")) ((dictionary P (at 14 4) (((txt P (at 14 5) (codes "z")), (num P (at 14 10) (pos 0))) ∷ [])) ∷ []))
          ∷ [])
          ∷ [];
    }
    ∷ []

-- func _init():
--     match 3:
--         4: print("no")
--     print("after")
abbrev pub names_no_branch : Project
names_no_branch = plain_names (codes "_init" ∷ [])

abbrev pub code_no_branch : Project → List ClassMeans
code_no_branch P =
    record {
      class = class_at 0 0;
      starts = [];
      functions =
          func P (class_at 0 0) false (identifier (at 1 6) (codes "_init")) []
          (matches P (at 2 2) (num P (at 2 8) (pos 3)) (match_branch ((literal_pattern P (at 3 3) false (literal.Int (pos 4))) ∷ []) (does P (at 3 6) (call P (at 3 6) (name P (at 3 6) (codes "print")) ((txt P (at 3 12) (codes "no")) ∷ []))
          ∷ [])
          ∷ [])
          ∷ does P (at 4 2) (call P (at 4 2) (name P (at 4 2) (codes "print")) ((txt P (at 4 8) (codes "after")) ∷ []))
          ∷ [])
          ∷ [];
    }
    ∷ []

-- func f(x):
--     while true:
--         match x:
--             1: return "r"
--             2: break
--             _: x = 2
--     return "b"
-- func _init():
--     print(f(1), f(2), f(5))
-- (_init, print: 2; f(1) is 5, f(2) is 6, f(5) is 9)
abbrev pub names_out_of_match : Project
names_out_of_match = plain_names (codes "f" ∷ codes "_init" ∷ [])

abbrev pub code_out_of_match : Project → List ClassMeans
code_out_of_match P =
    record {
      class = class_at 0 0;
      starts = [];
      functions =
          func P (class_at 0 0) false (identifier (at 1 6) (codes "f")) (param P (class_at 0 0) (identifier (at 1 8) (codes "x")) None ∷ [])
          (loops P (at 2 2) (lit P (at 2 8) (literal.Bool true)) (matches P (at 3 3) (name P (at 3 9) (codes "x")) (match_branch ((literal_pattern P (at 4 4) false (literal.Int (pos 1))) ∷ []) (returns P (at 4 7) (Some (txt P (at 4 14) (codes "r"))) ∷ [])
          ∷ match_branch ((literal_pattern P (at 5 4) false (literal.Int (pos 2))) ∷ []) (breaks P (at 5 7) ∷ [])
          ∷ match_branch ((wildcard P (at 6 4)) ∷ []) (assigns P (at 6 7) (name P (at 6 7) (codes "x")) assign.Set (num P (at 6 11) (pos 2)) ∷ [])
          ∷ [])
          ∷ [])
          ∷ returns P (at 7 2) (Some (txt P (at 7 9) (codes "b")))
          ∷ [])
          ∷ func P (class_at 0 0) false (identifier (at 8 6) (codes "_init")) []
          (does P (at 9 2) (call P (at 9 2) (name P (at 9 2) (codes "print")) ((call P (at 9 8) (name P (at 9 8) (codes "f")) ((num P (at 9 10) (pos 1)) ∷ [])) ∷ (call P (at 9 14) (name P (at 9 14) (codes "f")) ((num P (at 9 16) (pos 2)) ∷ [])) ∷ (call P (at 9 20) (name P (at 9 20) (codes "f")) ((num P (at 9 22) (pos 5)) ∷ [])) ∷ []))
          ∷ [])
          ∷ [];
    }
    ∷ []

-- class A:
--     pass
-- func _init():
--     var w
--     match [A.new()]:
--         [var a]:
--             w = weakref(a)
--             a = null
--             print(w.get_ref() != null)
--     print(w.get_ref() == null)
abbrev pub names_subject_lives : Project
names_subject_lives = project_of (record {
  classes =
      record {
        class = class_at 0 0;
        file = 0;
        text = codes "res://m.gd";
        above = (class_of.RefCounted ∷ class_of.Object ∷ []);
        enclosing = [];
        fields = [];
        members = ((codes "_init", AFunction (class_at 0 0) false) ∷ (codes "A", AClass (class_at 0 1)) ∷ []);
      }
      ∷ record {
        class = class_at 0 1;
        file = 0;
        text = codes "A";
        above = (class_of.RefCounted ∷ class_of.Object ∷ []);
        enclosing = (class_at 0 0 ∷ []);
        fields = [];
        members = [];
      }
      ∷ [];
  globals = [];
  types = [];
  constants = [];
  resources = [];
  enums = [];
})

abbrev pub code_subject_lives : Project → List ClassMeans
code_subject_lives P =
    record {
      class = class_at 0 0;
      starts = [];
      functions =
          func P (class_at 0 0) false (identifier (at 3 6) (codes "_init")) []
          (local P (at 4 2) (identifier (at 4 6) (codes "w")) None
          ∷ matches P (at 5 2) (array P (at 5 8) ((call P (at 5 9) (member P (at 5 9) (name P (at 5 9) (codes "A")) (codes "new")) []) ∷ [])) (match_branch ((array_pattern P (at 6 3) ((bind P (at 6 4) (identifier (at 6 8) (codes "a"))) ∷ []) false) ∷ []) (assigns P (at 7 4) (name P (at 7 4) (codes "w")) assign.Set (call P (at 7 8) (name P (at 7 8) (codes "weakref")) ((name P (at 7 16) (codes "a")) ∷ []))
          ∷ assigns P (at 8 4) (name P (at 8 4) (codes "a")) assign.Set (lit P (at 8 8) literal.Null)
          ∷ does P (at 9 4) (call P (at 9 4) (name P (at 9 4) (codes "print")) ((binary P (at 9 10) op.Ne (call P (at 9 10) (member P (at 9 10) (name P (at 9 10) (codes "w")) (codes "get_ref")) []) (lit P (at 9 25) literal.Null)) ∷ []))
          ∷ [])
          ∷ [])
          ∷ does P (at 10 2) (call P (at 10 2) (name P (at 10 2) (codes "print")) ((binary P (at 10 8) op.Eq (call P (at 10 8) (member P (at 10 8) (name P (at 10 8) (codes "w")) (codes "get_ref")) []) (lit P (at 10 23) literal.Null)) ∷ []))
          ∷ [])
          ∷ [];
    }
    ∷ []

-- what these scripts write, each in so many steps at most
pub record PatternRows : Type 0 where
  pub row_scalars : writes names_scalars code_scalars 100 ≡ codes "zero\nfew\nfew\nminus\ntext\nnull\ntrue\nK\nother\ndone steps 37 left 0\n"
  pub row_array_patterns : writes names_array_patterns code_array_patterns 100 ≡ codes "empty\none 9\ndeep 8\nfrom 1\nsecond 2\nother []\nother [3, 3]\ndone steps 29 left 0\n"
  pub row_dictionary_patterns : writes names_dictionary_patterns code_dictionary_patterns 100 ≡ codes "none\nk 7\nhas k\none 6\nother\ndone steps 21 left 0\n"
  pub row_no_branch : writes names_no_branch code_no_branch 100 ≡ codes "after\ndone steps 3 left 0\n"
  pub row_out_of_match : writes names_out_of_match code_out_of_match 100 ≡ codes "rbb\ndone steps 22 left 0\n"
  pub row_subject_lives : writes names_subject_lives code_subject_lives 100 ≡ codes "true\ntrue\ndone steps 7 left 0\n"
