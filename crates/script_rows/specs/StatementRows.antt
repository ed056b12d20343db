-- Worked runs on statements.
use Rattle.std.specs.Prelude.{◌≡◌, pos, true, false, List, [], ◌∷◌, codes, Some, None}
use Rattle.folder_meaning.specs.declared.script_type.ScriptType.TheVariants as of_type
use Rattle.gd_syntax.specs.declared.tree.expr.Literal.TheVariants as literal
use Rattle.gd_syntax.specs.declared.tree.expr.TreeOp.TheVariants as op
use Rattle.gd_syntax.specs.declared.tree.expr.TreePrefix.TheVariants as prefix
use Rattle.gd_syntax.specs.declared.tree.statement.AssignOp.TheVariants as assign
use Rattle.variant_values.specs.declared.classes.ClassTag.TheVariants as class_of
use Rattle.script_meaning.specs.Projects.{Project, AFunction, WithNew}
use Rattle.script_meaning.specs.Tables.{ClassMeans}
use Rattle.script_rows.specs.Scripts.{at, identifier, lit, num, txt, name, this, array, dictionary, index, member, call, prefixed, binary, passes, breaks, continues, returns, local, asserts, assigns, does, branch, tests, loops, walks, func, class_at, project_of, plain_names, writes}

-- func _init():
--     if 0:
--         print("a")
--     elif "":
--         print("b")
--     elif [1]:
--         print("c")
--     else:
--         print("d")
--     if null:
--         pass
--     else:
--         print("e")
abbrev pub names_branches : Project
names_branches = plain_names (codes "_init" ∷ [])

abbrev pub code_branches : Project → List ClassMeans
code_branches P =
    record {
      class = class_at 0 0;
      starts = [];
      functions =
          func P (class_at 0 0) false (identifier (at 1 6) (codes "_init")) []
          (tests P (at 2 2) (branch P (at 2 2) (num P (at 2 5) (pos 0)) (does P (at 3 3) (call P (at 3 3) (name P (at 3 3) (codes "print")) ((txt P (at 3 9) (codes "a")) ∷ []))
          ∷ []) ∷ branch P (at 4 2) (txt P (at 4 7) (codes "")) (does P (at 5 3) (call P (at 5 3) (name P (at 5 3) (codes "print")) ((txt P (at 5 9) (codes "b")) ∷ []))
          ∷ []) ∷ branch P (at 6 2) (array P (at 6 7) ((num P (at 6 8) (pos 1)) ∷ [])) (does P (at 7 3) (call P (at 7 3) (name P (at 7 3) (codes "print")) ((txt P (at 7 9) (codes "c")) ∷ []))
          ∷ []) ∷ []) (Some (does P (at 9 3) (call P (at 9 3) (name P (at 9 3) (codes "print")) ((txt P (at 9 9) (codes "d")) ∷ []))
          ∷ []))
          ∷ tests P (at 10 2) (branch P (at 10 2) (lit P (at 10 5) literal.Null) (passes P (at 11 3) ∷ []) ∷ []) (Some (does P (at 13 3) (call P (at 13 3) (name P (at 13 3) (codes "print")) ((txt P (at 13 9) (codes "e")) ∷ []))
          ∷ []))
          ∷ [])
          ∷ [];
    }
    ∷ []

-- func _init():
--     if 0:
--         pass
--     elif 1 / 0:
--         pass
abbrev pub names_elif_fault : Project
names_elif_fault = plain_names (codes "_init" ∷ [])

abbrev pub code_elif_fault : Project → List ClassMeans
code_elif_fault P =
    record {
      class = class_at 0 0;
      starts = [];
      functions =
          func P (class_at 0 0) false (identifier (at 1 6) (codes "_init")) []
          (tests P (at 2 2) (branch P (at 2 2) (num P (at 2 5) (pos 0)) (passes P (at 3 3) ∷ []) ∷ branch P (at 4 2) (binary P (at 4 7) op.Div (num P (at 4 7) (pos 1)) (num P (at 4 11) (pos 0))) (passes P (at 5 3) ∷ []) ∷ []) None
          ∷ [])
          ∷ [];
    }
    ∷ []

-- func _init():
--     var i = 0
--     while i < 5:
--         i += 1
--         if i == 2:
--             continue
--         if i == 4:
--             break
--         print(i)
--     print("end")
-- (_init, var, while: 3; the turns 5, 4, 5, 5; the last print: 1)
abbrev pub names_loop : Project
names_loop = plain_names (codes "_init" ∷ [])

abbrev pub code_loop : Project → List ClassMeans
code_loop P =
    record {
      class = class_at 0 0;
      starts = [];
      functions =
          func P (class_at 0 0) false (identifier (at 1 6) (codes "_init")) []
          (local P (at 2 2) (identifier (at 2 6) (codes "i")) (Some (num P (at 2 10) (pos 0)))
          ∷ loops P (at 3 2) (binary P (at 3 8) op.Lt (name P (at 3 8) (codes "i")) (num P (at 3 12) (pos 5))) (assigns P (at 4 3) (name P (at 4 3) (codes "i")) assign.Add (num P (at 4 8) (pos 1))
          ∷ tests P (at 5 3) (branch P (at 5 3) (binary P (at 5 6) op.Eq (name P (at 5 6) (codes "i")) (num P (at 5 11) (pos 2))) (continues P (at 6 4) ∷ []) ∷ []) None
          ∷ tests P (at 7 3) (branch P (at 7 3) (binary P (at 7 6) op.Eq (name P (at 7 6) (codes "i")) (num P (at 7 11) (pos 4))) (breaks P (at 8 4) ∷ []) ∷ []) None
          ∷ does P (at 9 3) (call P (at 9 3) (name P (at 9 3) (codes "print")) ((name P (at 9 9) (codes "i")) ∷ []))
          ∷ [])
          ∷ does P (at 10 2) (call P (at 10 2) (name P (at 10 2) (codes "print")) ((txt P (at 10 8) (codes "end")) ∷ []))
          ∷ [])
          ∷ [];
    }
    ∷ []

-- func _init():
--     var i = 0
--     while i < 2:
--         i += 1
--     print(i)
-- (_init, var, while: 3; two turns of 2; the last test and print: 2)
abbrev pub names_loop_ends : Project
names_loop_ends = plain_names (codes "_init" ∷ [])

abbrev pub code_loop_ends : Project → List ClassMeans
code_loop_ends P =
    record {
      class = class_at 0 0;
      starts = [];
      functions =
          func P (class_at 0 0) false (identifier (at 1 6) (codes "_init")) []
          (local P (at 2 2) (identifier (at 2 6) (codes "i")) (Some (num P (at 2 10) (pos 0)))
          ∷ loops P (at 3 2) (binary P (at 3 8) op.Lt (name P (at 3 8) (codes "i")) (num P (at 3 12) (pos 2))) (assigns P (at 4 3) (name P (at 4 3) (codes "i")) assign.Add (num P (at 4 8) (pos 1)) ∷ [])
          ∷ does P (at 5 2) (call P (at 5 2) (name P (at 5 2) (codes "print")) ((name P (at 5 8) (codes "i")) ∷ []))
          ∷ [])
          ∷ [];
    }
    ∷ []

-- func _init():
--     for i in -2: print(i)
--     for i in 0: print(i)
--     for i in range(2, 2): print(i)
--     for i in range(5, 0, -2): print(i)
-- (_init: 1; a loop without turns 2, three times; the last one 1 + 3 * 2 + 1)
abbrev pub names_numbers : Project
names_numbers = plain_names (codes "_init" ∷ [])

abbrev pub code_numbers : Project → List ClassMeans
code_numbers P =
    record {
      class = class_at 0 0;
      starts = [];
      functions =
          func P (class_at 0 0) false (identifier (at 1 6) (codes "_init")) []
          (walks P (at 2 2) (identifier (at 2 6) (codes "i")) (prefixed P (at 2 11) prefix.Neg (num P (at 2 12) (pos 2))) (does P (at 2 15) (call P (at 2 15) (name P (at 2 15) (codes "print")) ((name P (at 2 21) (codes "i")) ∷ []))
          ∷ [])
          ∷ walks P (at 3 2) (identifier (at 3 6) (codes "i")) (num P (at 3 11) (pos 0)) (does P (at 3 14) (call P (at 3 14) (name P (at 3 14) (codes "print")) ((name P (at 3 20) (codes "i")) ∷ []))
          ∷ [])
          ∷ walks P (at 4 2) (identifier (at 4 6) (codes "i")) (call P (at 4 11) (name P (at 4 11) (codes "range")) ((num P (at 4 17) (pos 2)) ∷ (num P (at 4 20) (pos 2)) ∷ [])) (does P (at 4 24) (call P (at 4 24) (name P (at 4 24) (codes "print")) ((name P (at 4 30) (codes "i")) ∷ []))
          ∷ [])
          ∷ walks P (at 5 2) (identifier (at 5 6) (codes "i")) (call P (at 5 11) (name P (at 5 11) (codes "range")) ((num P (at 5 17) (pos 5)) ∷ (num P (at 5 20) (pos 0)) ∷ (prefixed P (at 5 23) prefix.Neg (num P (at 5 24) (pos 2))) ∷ [])) (does P (at 5 28) (call P (at 5 28) (name P (at 5 28) (codes "print")) ((name P (at 5 34) (codes "i")) ∷ []))
          ∷ [])
          ∷ [])
          ∷ [];
    }
    ∷ []

-- func _init():
--     var d = {"a": 1, 2: 3}
--     for k in d:
--         d["x"] = k
--         print(k)
--     for c in "xy":
--         print(c)
--     print(d)
-- (_init, var: 2; the keys 1 + 2 * 3 + 1; the characters 1 + 2 * 2 + 1; print: 1)
abbrev pub names_keys_and_characters : Project
names_keys_and_characters = plain_names (codes "_init" ∷ [])

abbrev pub code_keys_and_characters : Project → List ClassMeans
code_keys_and_characters P =
    record {
      class = class_at 0 0;
      starts = [];
      functions =
          func P (class_at 0 0) false (identifier (at 1 6) (codes "_init")) []
          (local P (at 2 2) (identifier (at 2 6) (codes "d")) (Some (dictionary P (at 2 10) (((txt P (at 2 11) (codes "a")), (num P (at 2 16) (pos 1))) ∷ ((num P (at 2 19) (pos 2)), (num P (at 2 22) (pos 3))) ∷ [])))
          ∷ walks P (at 3 2) (identifier (at 3 6) (codes "k")) (name P (at 3 11) (codes "d")) (assigns P (at 4 3) (index P (at 4 3) (name P (at 4 3) (codes "d")) (txt P (at 4 5) (codes "x"))) assign.Set (name P (at 4 12) (codes "k"))
          ∷ does P (at 5 3) (call P (at 5 3) (name P (at 5 3) (codes "print")) ((name P (at 5 9) (codes "k")) ∷ []))
          ∷ [])
          ∷ walks P (at 6 2) (identifier (at 6 6) (codes "c")) (txt P (at 6 11) (codes "xy")) (does P (at 7 3) (call P (at 7 3) (name P (at 7 3) (codes "print")) ((name P (at 7 9) (codes "c")) ∷ []))
          ∷ [])
          ∷ does P (at 8 2) (call P (at 8 2) (name P (at 8 2) (codes "print")) ((name P (at 8 8) (codes "d")) ∷ []))
          ∷ [])
          ∷ [];
    }
    ∷ []

-- func _init():
--     var a = [1, 2]
--     for x in a:
--         if len(a) < 4:
--             a.append(x)
--     a[0] += 5
--     print(a)
-- (_init, var: 2; for 1, turns 3, 3, 2, 2, the last test 1; the assignment and print: 2)
abbrev pub names_array_grows : Project
names_array_grows = plain_names (codes "_init" ∷ [])

abbrev pub code_array_grows : Project → List ClassMeans
code_array_grows P =
    record {
      class = class_at 0 0;
      starts = [];
      functions =
          func P (class_at 0 0) false (identifier (at 1 6) (codes "_init")) []
          (local P (at 2 2) (identifier (at 2 6) (codes "a")) (Some (array P (at 2 10) ((num P (at 2 11) (pos 1)) ∷ (num P (at 2 14) (pos 2)) ∷ [])))
          ∷ walks P (at 3 2) (identifier (at 3 6) (codes "x")) (name P (at 3 11) (codes "a")) (tests P (at 4 3) (branch P (at 4 3) (binary P (at 4 6) op.Lt (call P (at 4 6) (name P (at 4 6) (codes "len")) ((name P (at 4 10) (codes "a")) ∷ [])) (num P (at 4 15) (pos 4))) (does P (at 5 4) (call P (at 5 4) (member P (at 5 4) (name P (at 5 4) (codes "a")) (codes "append")) ((name P (at 5 13) (codes "x")) ∷ []))
          ∷ []) ∷ []) None
          ∷ [])
          ∷ assigns P (at 6 2) (index P (at 6 2) (name P (at 6 2) (codes "a")) (num P (at 6 4) (pos 0))) assign.Add (num P (at 6 10) (pos 5))
          ∷ does P (at 7 2) (call P (at 7 2) (name P (at 7 2) (codes "print")) ((name P (at 7 8) (codes "a")) ∷ []))
          ∷ [])
          ∷ [];
    }
    ∷ []

-- func _init():
--     for i in null:
--         pass
abbrev pub names_no_walk : Project
names_no_walk = plain_names (codes "_init" ∷ [])

abbrev pub code_no_walk : Project → List ClassMeans
code_no_walk P =
    record {
      class = class_at 0 0;
      starts = [];
      functions =
          func P (class_at 0 0) false (identifier (at 1 6) (codes "_init")) []
          (walks P (at 2 2) (identifier (at 2 6) (codes "i")) (lit P (at 2 11) literal.Null) (passes P (at 3 3) ∷ [])
          ∷ [])
          ∷ [];
    }
    ∷ []

-- func f():
--     for i in 3:
--         for j in 3:
--             if j == 1:
--                 break
--             print(i, j)
--         if i == 1:
--             return i
-- func _init():
--     print(f())
-- (_init, print, f: 3; for: 1; a turn is its test, the inner loop 1 + 3 + 3, and an if: 9, two times; return: 1)
abbrev pub names_out_of_loops : Project
names_out_of_loops = plain_names (codes "f" ∷ codes "_init" ∷ [])

abbrev pub code_out_of_loops : Project → List ClassMeans
code_out_of_loops P =
    record {
      class = class_at 0 0;
      starts = [];
      functions =
          func P (class_at 0 0) false (identifier (at 1 6) (codes "f")) []
          (walks P (at 2 2) (identifier (at 2 6) (codes "i")) (num P (at 2 11) (pos 3)) (walks P (at 3 3) (identifier (at 3 7) (codes "j")) (num P (at 3 12) (pos 3)) (tests P (at 4 4) (branch P (at 4 4) (binary P (at 4 7) op.Eq (name P (at 4 7) (codes "j")) (num P (at 4 12) (pos 1))) (breaks P (at 5 5) ∷ []) ∷ []) None
          ∷ does P (at 6 4) (call P (at 6 4) (name P (at 6 4) (codes "print")) ((name P (at 6 10) (codes "i")) ∷ (name P (at 6 13) (codes "j")) ∷ []))
          ∷ [])
          ∷ tests P (at 7 3) (branch P (at 7 3) (binary P (at 7 6) op.Eq (name P (at 7 6) (codes "i")) (num P (at 7 11) (pos 1))) (returns P (at 8 4) (Some (name P (at 8 11) (codes "i"))) ∷ []) ∷ []) None
          ∷ [])
          ∷ [])
          ∷ func P (class_at 0 0) false (identifier (at 9 6) (codes "_init")) []
          (does P (at 10 2) (call P (at 10 2) (name P (at 10 2) (codes "print")) ((call P (at 10 8) (name P (at 10 8) (codes "f")) []) ∷ []))
          ∷ [])
          ∷ [];
    }
    ∷ []

-- func f():
--     print("m")
--     return "msg"
-- func _init():
--     assert(1 == 1, f())
--     assert([], f())
-- (_init: 1; an assert and f, which is 3, two times)
abbrev pub names_asserts : Project
names_asserts = plain_names (codes "f" ∷ codes "_init" ∷ [])

abbrev pub code_asserts : Project → List ClassMeans
code_asserts P =
    record {
      class = class_at 0 0;
      starts = [];
      functions =
          func P (class_at 0 0) false (identifier (at 1 6) (codes "f")) []
          (does P (at 2 2) (call P (at 2 2) (name P (at 2 2) (codes "print")) ((txt P (at 2 8) (codes "m")) ∷ []))
          ∷ returns P (at 3 2) (Some (txt P (at 3 9) (codes "msg")))
          ∷ [])
          ∷ func P (class_at 0 0) false (identifier (at 4 6) (codes "_init")) []
          (asserts P (at 5 2) (binary P (at 5 9) op.Eq (num P (at 5 9) (pos 1)) (num P (at 5 14) (pos 1))) (Some (call P (at 5 17) (name P (at 5 17) (codes "f")) []))
          ∷ asserts P (at 6 2) (array P (at 6 9) []) (Some (call P (at 6 13) (name P (at 6 13) (codes "f")) []))
          ∷ [])
          ∷ [];
    }
    ∷ []

-- func _init():
--     var a = 1; a += 1; print(a); pass
abbrev pub names_one_line : Project
names_one_line = plain_names (codes "_init" ∷ [])

abbrev pub code_one_line : Project → List ClassMeans
code_one_line P =
    record {
      class = class_at 0 0;
      starts = [];
      functions =
          func P (class_at 0 0) false (identifier (at 1 6) (codes "_init")) []
          (local P (at 2 2) (identifier (at 2 6) (codes "a")) (Some (num P (at 2 10) (pos 1)))
          ∷ assigns P (at 2 13) (name P (at 2 13) (codes "a")) assign.Add (num P (at 2 18) (pos 1))
          ∷ does P (at 2 21) (call P (at 2 21) (name P (at 2 21) (codes "print")) ((name P (at 2 27) (codes "a")) ∷ []))
          ∷ passes P (at 2 31)
          ∷ [])
          ∷ [];
    }
    ∷ []

-- func _init():
--     for i in 3:
--         if i == 1:
--             continue
--         print(i)
-- (_init, for: 2; three turns of 3; the last test: 1)
abbrev pub names_turns_go_on : Project
names_turns_go_on = plain_names (codes "_init" ∷ [])

abbrev pub code_turns_go_on : Project → List ClassMeans
code_turns_go_on P =
    record {
      class = class_at 0 0;
      starts = [];
      functions =
          func P (class_at 0 0) false (identifier (at 1 6) (codes "_init")) []
          (walks P (at 2 2) (identifier (at 2 6) (codes "i")) (num P (at 2 11) (pos 3)) (tests P (at 3 3) (branch P (at 3 3) (binary P (at 3 6) op.Eq (name P (at 3 6) (codes "i")) (num P (at 3 11) (pos 1))) (continues P (at 4 4) ∷ []) ∷ []) None
          ∷ does P (at 5 3) (call P (at 5 3) (name P (at 5 3) (codes "print")) ((name P (at 5 9) (codes "i")) ∷ []))
          ∷ [])
          ∷ [])
          ∷ [];
    }
    ∷ []

-- func _init():
--     var n = 1
--     while 2 / n:
--         n -= 1
--     print("no")
abbrev pub names_test_fault : Project
names_test_fault = plain_names (codes "_init" ∷ [])

abbrev pub code_test_fault : Project → List ClassMeans
code_test_fault P =
    record {
      class = class_at 0 0;
      starts = [];
      functions =
          func P (class_at 0 0) false (identifier (at 1 6) (codes "_init")) []
          (local P (at 2 2) (identifier (at 2 6) (codes "n")) (Some (num P (at 2 10) (pos 1)))
          ∷ loops P (at 3 2) (binary P (at 3 8) op.Div (num P (at 3 8) (pos 2)) (name P (at 3 12) (codes "n"))) (assigns P (at 4 3) (name P (at 4 3) (codes "n")) assign.Sub (num P (at 4 8) (pos 1)) ∷ [])
          ∷ does P (at 5 2) (call P (at 5 2) (name P (at 5 2) (codes "print")) ((txt P (at 5 8) (codes "no")) ∷ []))
          ∷ [])
          ∷ [];
    }
    ∷ []

-- func _init():
--     if true:
--         var a = 1
--     var a = 2
--     print(a)
abbrev pub names_block_names : Project
names_block_names = plain_names (codes "_init" ∷ [])

abbrev pub code_block_names : Project → List ClassMeans
code_block_names P =
    record {
      class = class_at 0 0;
      starts = [];
      functions =
          func P (class_at 0 0) false (identifier (at 1 6) (codes "_init")) []
          (tests P (at 2 2) (branch P (at 2 2) (lit P (at 2 5) (literal.Bool true)) (local P (at 3 3) (identifier (at 3 7) (codes "a")) (Some (num P (at 3 11) (pos 1))) ∷ []) ∷ []) None
          ∷ local P (at 4 2) (identifier (at 4 6) (codes "a")) (Some (num P (at 4 10) (pos 2)))
          ∷ does P (at 5 2) (call P (at 5 2) (name P (at 5 2) (codes "print")) ((name P (at 5 8) (codes "a")) ∷ []))
          ∷ [])
          ∷ [];
    }
    ∷ []

-- var x = 1
-- func _init():
--     var x = 2
--     print(x, self.x)
abbrev pub names_shadow : Project
names_shadow = project_of (record {
  classes =
      record {
        class = class_at 0 0;
        file = 0;
        text = codes "res://m.gd";
        above = (class_of.RefCounted ∷ class_of.Object ∷ []);
        enclosing = [];
        fields = (record { name = codes "x"; class = class_at 0 0; line = 1; type = of_type.Variant; starts = WithNew } ∷ []);
        members = ((codes "_init", AFunction (class_at 0 0) false) ∷ []);
      }
      ∷ [];
  globals = [];
  types = [];
  constants = [];
  resources = [];
  enums = [];
})

abbrev pub code_shadow : Project → List ClassMeans
code_shadow P =
    record {
      class = class_at 0 0;
      starts = ((codes "x", (num P (at 1 9) (pos 1))) ∷ []);
      functions =
          func P (class_at 0 0) false (identifier (at 2 6) (codes "_init")) []
          (local P (at 3 2) (identifier (at 3 6) (codes "x")) (Some (num P (at 3 10) (pos 2)))
          ∷ does P (at 4 2) (call P (at 4 2) (name P (at 4 2) (codes "print")) ((name P (at 4 8) (codes "x")) ∷ (member P (at 4 11) (this P (at 4 11)) (codes "x")) ∷ []))
          ∷ [])
          ∷ [];
    }
    ∷ []

-- func f():
--     pass
--     pass
-- func _init():
--     f()
abbrev pub names_spent_inside : Project
names_spent_inside = plain_names (codes "f" ∷ codes "_init" ∷ [])

abbrev pub code_spent_inside : Project → List ClassMeans
code_spent_inside P =
    record {
      class = class_at 0 0;
      starts = [];
      functions =
          func P (class_at 0 0) false (identifier (at 1 6) (codes "f")) []
          (passes P (at 2 2)
          ∷ passes P (at 3 2)
          ∷ [])
          ∷ func P (class_at 0 0) false (identifier (at 4 6) (codes "_init")) []
          (does P (at 5 2) (call P (at 5 2) (name P (at 5 2) (codes "f")) []) ∷ [])
          ∷ [];
    }
    ∷ []

-- func _init():
--     if 0:
--         pass
--     elif \
--             1 / 0:
--         pass
abbrev pub names_elif_line : Project
names_elif_line = plain_names (codes "_init" ∷ [])

abbrev pub code_elif_line : Project → List ClassMeans
code_elif_line P =
    record {
      class = class_at 0 0;
      starts = [];
      functions =
          func P (class_at 0 0) false (identifier (at 1 6) (codes "_init")) []
          (tests P (at 2 2) (branch P (at 2 2) (num P (at 2 5) (pos 0)) (passes P (at 3 3) ∷ []) ∷ branch P (at 4 2) (binary P (at 5 4) op.Div (num P (at 5 4) (pos 1)) (num P (at 5 8) (pos 0))) (passes P (at 6 3) ∷ []) ∷ []) None
          ∷ [])
          ∷ [];
    }
    ∷ []

-- what these scripts write, each in so many steps at most
pub record StatementRows : Type 0 where
  pub row_branches : writes names_branches code_branches 100 ≡ codes "c\ne\ndone steps 5 left 0\n"
  pub row_elif_fault : writes names_elif_fault code_elif_fault 100 ≡ codes "fault DivisionByZero res://m.gd:4 steps 2\n"
  pub row_loop : writes names_loop code_loop 100 ≡ codes "1\n3\nend\ndone steps 23 left 0\n"
  pub row_loop_ends : writes names_loop_ends code_loop_ends 100 ≡ codes "2\ndone steps 9 left 0\n"
  pub row_numbers : writes names_numbers code_numbers 100 ≡ codes "5\n3\n1\ndone steps 15 left 0\n"
  pub row_keys_and_characters : writes names_keys_and_characters code_keys_and_characters 100 ≡ codes "a\n2\nx\ny\n{ \"a\": 1, 2: 3, \"x\": 2 }\ndone steps 17 left 0\n"
  pub row_array_grows : writes names_array_grows code_array_grows 100 ≡ codes "[6, 2, 1, 2]\ndone steps 16 left 0\n"
  pub row_no_walk : writes names_no_walk code_no_walk 100 ≡ codes "fault BadOperands res://m.gd:2 steps 2\n"
  pub row_out_of_loops : writes names_out_of_loops code_out_of_loops 100 ≡ codes "00\n10\n1\ndone steps 23 left 0\n"
  pub row_asserts : writes names_asserts code_asserts 100 ≡ codes "m\nm\nfault AssertFailed res://m.gd:6 steps 9\n"
  pub row_one_line : writes names_one_line code_one_line 100 ≡ codes "2\ndone steps 5 left 0\n"
  pub row_turns_go_on : writes names_turns_go_on code_turns_go_on 100 ≡ codes "0\n2\ndone steps 12 left 0\n"
  pub row_test_fault : writes names_test_fault code_test_fault 100 ≡ codes "fault DivisionByZero res://m.gd:3 steps 6\n"
  pub row_block_names : writes names_block_names code_block_names 100 ≡ codes "2\ndone steps 5 left 0\n"
  pub row_shadow : writes names_shadow code_shadow 100 ≡ codes "21\ndone steps 4 left 0\n"
  pub row_spent_inside : writes names_spent_inside code_spent_inside 4 ≡ codes "spent res://m.gd:3 steps 4\n"
  pub row_elif_line : writes names_elif_line code_elif_line 100 ≡ codes "fault DivisionByZero res://m.gd:4 steps 2\n"
