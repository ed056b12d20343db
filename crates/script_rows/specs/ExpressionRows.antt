-- Worked runs on expressions.
use Rattle.std.specs.Prelude.{◌≡◌, pos, true, false, List, [], ◌∷◌, codes, Some, None}
use Rattle.gd_syntax.specs.declared.tree.expr.Literal.TheVariants as literal
use Rattle.gd_syntax.specs.declared.tree.expr.TreeOp.TheVariants as op
use Rattle.gd_syntax.specs.declared.tree.expr.TreePrefix.TheVariants as prefix
use Rattle.script_meaning.specs.Projects.{Project}
use Rattle.script_meaning.specs.Tables.{ClassMeans}
use Rattle.script_rows.specs.Scripts.{at, identifier, lit, num, txt, name, this, paren, array, dictionary, table, index, member, call, prefixed, binary, negated, ternary, returns, local, does, param, func, class_at, plain_names, writes}

-- func _init():
--     print(null, true, false, 7, "a\"b")
--     print("")
abbrev pub names_literals : Project
names_literals = plain_names (codes "_init" ∷ [])

abbrev pub code_literals : Project → List ClassMeans
code_literals P =
    record {
      class = class_at 0 0;
      starts = [];
      functions =
          func P (class_at 0 0) false (identifier (at 1 6) (codes "_init")) []
          (does P (at 2 2) (call P (at 2 2) (name P (at 2 2) (codes "print")) ((lit P (at 2 8) literal.Null) ∷ (lit P (at 2 14) (literal.Bool true)) ∷ (lit P (at 2 20) (literal.Bool false)) ∷ (num P (at 2 27) (pos 7)) ∷ (txt P (at 2 30) (codes "a\"b")) ∷ []))
          ∷ does P (at 3 2) (call P (at 3 2) (name P (at 3 2) (codes "print")) ((txt P (at 3 8) (codes "")) ∷ []))
          ∷ [])
          ∷ [];
    }
    ∷ []

-- func _init():
--     print((1 + 2) * 3, 1 + 2 * 3, -(4), ~5, +6, 7 - -2)
abbrev pub names_parens : Project
names_parens = plain_names (codes "_init" ∷ [])

abbrev pub code_parens : Project → List ClassMeans
code_parens P =
    record {
      class = class_at 0 0;
      starts = [];
      functions =
          func P (class_at 0 0) false (identifier (at 1 6) (codes "_init")) []
          (does P (at 2 2) (call P (at 2 2) (name P (at 2 2) (codes "print")) ((binary P (at 2 8) op.Mul (paren P (at 2 8) (binary P (at 2 9) op.Add (num P (at 2 9) (pos 1)) (num P (at 2 13) (pos 2)))) (num P (at 2 18) (pos 3))) ∷ (binary P (at 2 21) op.Add (num P (at 2 21) (pos 1)) (binary P (at 2 25) op.Mul (num P (at 2 25) (pos 2)) (num P (at 2 29) (pos 3)))) ∷ (prefixed P (at 2 32) prefix.Neg (paren P (at 2 33) (num P (at 2 34) (pos 4)))) ∷ (prefixed P (at 2 38) prefix.Inv (num P (at 2 39) (pos 5))) ∷ (prefixed P (at 2 42) prefix.Plus (num P (at 2 43) (pos 6))) ∷ (binary P (at 2 46) op.Sub (num P (at 2 46) (pos 7)) (prefixed P (at 2 50) prefix.Neg (num P (at 2 51) (pos 2)))) ∷ []))
          ∷ [])
          ∷ [];
    }
    ∷ []

-- func _init():
--     print(7 / 2, " ", -7 % 3, " ", 1 << 4, " ", -16 >> 2, " ", 6 & 3, " ", 6 ^ 3, " ", 6 | 3)
--     print("a" + "b", [1] + [2], 2 < 3, "b" <= "a", 1 == 1, "a" != "a", null == [], 3 > 2, 2 >= 3)
abbrev pub names_operators : Project
names_operators = plain_names (codes "_init" ∷ [])

abbrev pub code_operators : Project → List ClassMeans
code_operators P =
    record {
      class = class_at 0 0;
      starts = [];
      functions =
          func P (class_at 0 0) false (identifier (at 1 6) (codes "_init")) []
          (does P (at 2 2) (call P (at 2 2) (name P (at 2 2) (codes "print")) ((binary P (at 2 8) op.Div (num P (at 2 8) (pos 7)) (num P (at 2 12) (pos 2))) ∷ (txt P (at 2 15) (codes " ")) ∷ (binary P (at 2 20) op.Rem (prefixed P (at 2 20) prefix.Neg (num P (at 2 21) (pos 7))) (num P (at 2 25) (pos 3))) ∷ (txt P (at 2 28) (codes " ")) ∷ (binary P (at 2 33) op.Shl (num P (at 2 33) (pos 1)) (num P (at 2 38) (pos 4))) ∷ (txt P (at 2 41) (codes " ")) ∷ (binary P (at 2 46) op.Shr (prefixed P (at 2 46) prefix.Neg (num P (at 2 47) (pos 16))) (num P (at 2 53) (pos 2))) ∷ (txt P (at 2 56) (codes " ")) ∷ (binary P (at 2 61) op.BitAnd (num P (at 2 61) (pos 6)) (num P (at 2 65) (pos 3))) ∷ (txt P (at 2 68) (codes " ")) ∷ (binary P (at 2 73) op.BitXor (num P (at 2 73) (pos 6)) (num P (at 2 77) (pos 3))) ∷ (txt P (at 2 80) (codes " ")) ∷ (binary P (at 2 85) op.BitOr (num P (at 2 85) (pos 6)) (num P (at 2 89) (pos 3))) ∷ []))
          ∷ does P (at 3 2) (call P (at 3 2) (name P (at 3 2) (codes "print")) ((binary P (at 3 8) op.Add (txt P (at 3 8) (codes "a")) (txt P (at 3 14) (codes "b"))) ∷ (binary P (at 3 19) op.Add (array P (at 3 19) ((num P (at 3 20) (pos 1)) ∷ [])) (array P (at 3 25) ((num P (at 3 26) (pos 2)) ∷ []))) ∷ (binary P (at 3 30) op.Lt (num P (at 3 30) (pos 2)) (num P (at 3 34) (pos 3))) ∷ (binary P (at 3 37) op.Le (txt P (at 3 37) (codes "b")) (txt P (at 3 44) (codes "a"))) ∷ (binary P (at 3 49) op.Eq (num P (at 3 49) (pos 1)) (num P (at 3 54) (pos 1))) ∷ (binary P (at 3 57) op.Ne (txt P (at 3 57) (codes "a")) (txt P (at 3 64) (codes "a"))) ∷ (binary P (at 3 69) op.Eq (lit P (at 3 69) literal.Null) (array P (at 3 77) [])) ∷ (binary P (at 3 81) op.Gt (num P (at 3 81) (pos 3)) (num P (at 3 85) (pos 2))) ∷ (binary P (at 3 88) op.Ge (num P (at 3 88) (pos 2)) (num P (at 3 93) (pos 3))) ∷ []))
          ∷ [])
          ∷ [];
    }
    ∷ []

-- func _init():
--     var m = -9223372036854775807 - 1
--     print(m / -1, " ", m % -1, " ", m - 1, " ", abs(m))
abbrev pub names_least : Project
names_least = plain_names (codes "_init" ∷ [])

abbrev pub code_least : Project → List ClassMeans
code_least P =
    record {
      class = class_at 0 0;
      starts = [];
      functions =
          func P (class_at 0 0) false (identifier (at 1 6) (codes "_init")) []
          (local P (at 2 2) (identifier (at 2 6) (codes "m")) (Some (binary P (at 2 10) op.Sub (prefixed P (at 2 10) prefix.Neg (num P (at 2 11) (pos 9223372036854775807))) (num P (at 2 33) (pos 1))))
          ∷ does P (at 3 2) (call P (at 3 2) (name P (at 3 2) (codes "print")) ((binary P (at 3 8) op.Div (name P (at 3 8) (codes "m")) (prefixed P (at 3 12) prefix.Neg (num P (at 3 13) (pos 1)))) ∷ (txt P (at 3 16) (codes " ")) ∷ (binary P (at 3 21) op.Rem (name P (at 3 21) (codes "m")) (prefixed P (at 3 25) prefix.Neg (num P (at 3 26) (pos 1)))) ∷ (txt P (at 3 29) (codes " ")) ∷ (binary P (at 3 34) op.Sub (name P (at 3 34) (codes "m")) (num P (at 3 38) (pos 1))) ∷ (txt P (at 3 41) (codes " ")) ∷ (call P (at 3 46) (name P (at 3 46) (codes "abs")) ((name P (at 3 50) (codes "m")) ∷ [])) ∷ []))
          ∷ [])
          ∷ [];
    }
    ∷ []

-- func _init():
--     print("b" in "abc", 2 in [1, 2], "1" in [1], "k" in {"k": 0}, 3 not in [3], 0 not in {})
abbrev pub names_within : Project
names_within = plain_names (codes "_init" ∷ [])

abbrev pub code_within : Project → List ClassMeans
code_within P =
    record {
      class = class_at 0 0;
      starts = [];
      functions =
          func P (class_at 0 0) false (identifier (at 1 6) (codes "_init")) []
          (does P (at 2 2) (call P (at 2 2) (name P (at 2 2) (codes "print")) ((binary P (at 2 8) op.Within (txt P (at 2 8) (codes "b")) (txt P (at 2 15) (codes "abc"))) ∷ (binary P (at 2 22) op.Within (num P (at 2 22) (pos 2)) (array P (at 2 27) ((num P (at 2 28) (pos 1)) ∷ (num P (at 2 31) (pos 2)) ∷ []))) ∷ (binary P (at 2 35) op.Within (txt P (at 2 35) (codes "1")) (array P (at 2 42) ((num P (at 2 43) (pos 1)) ∷ []))) ∷ (binary P (at 2 47) op.Within (txt P (at 2 47) (codes "k")) (dictionary P (at 2 54) (((txt P (at 2 55) (codes "k")), (num P (at 2 60) (pos 0))) ∷ []))) ∷ (negated P (at 2 64) (binary P (at 2 64) op.Within (num P (at 2 64) (pos 3)) (array P (at 2 73) ((num P (at 2 74) (pos 3)) ∷ [])))) ∷ (negated P (at 2 78) (binary P (at 2 78) op.Within (num P (at 2 78) (pos 0)) (dictionary P (at 2 87) []))) ∷ []))
          ∷ [])
          ∷ [];
    }
    ∷ []

-- func f(x):
--     print(x)
--     return x
-- func _init():
--     print(f(0) and f(1), f(2) or f(3), not [], not {"a": 1}, !"")
abbrev pub names_truth : Project
names_truth = plain_names (codes "f" ∷ codes "_init" ∷ [])

abbrev pub code_truth : Project → List ClassMeans
code_truth P =
    record {
      class = class_at 0 0;
      starts = [];
      functions =
          func P (class_at 0 0) false (identifier (at 1 6) (codes "f")) (param P (class_at 0 0) (identifier (at 1 8) (codes "x")) None ∷ [])
          (does P (at 2 2) (call P (at 2 2) (name P (at 2 2) (codes "print")) ((name P (at 2 8) (codes "x")) ∷ []))
          ∷ returns P (at 3 2) (Some (name P (at 3 9) (codes "x")))
          ∷ [])
          ∷ func P (class_at 0 0) false (identifier (at 4 6) (codes "_init")) []
          (does P (at 5 2) (call P (at 5 2) (name P (at 5 2) (codes "print")) ((binary P (at 5 8) op.And (call P (at 5 8) (name P (at 5 8) (codes "f")) ((num P (at 5 10) (pos 0)) ∷ [])) (call P (at 5 17) (name P (at 5 17) (codes "f")) ((num P (at 5 19) (pos 1)) ∷ []))) ∷ (binary P (at 5 23) op.Or (call P (at 5 23) (name P (at 5 23) (codes "f")) ((num P (at 5 25) (pos 2)) ∷ [])) (call P (at 5 31) (name P (at 5 31) (codes "f")) ((num P (at 5 33) (pos 3)) ∷ []))) ∷ (negated P (at 5 37) (array P (at 5 41) [])) ∷ (negated P (at 5 45) (dictionary P (at 5 49) (((txt P (at 5 50) (codes "a")), (num P (at 5 55) (pos 1))) ∷ []))) ∷ (negated P (at 5 59) (txt P (at 5 60) (codes ""))) ∷ []))
          ∷ [])
          ∷ [];
    }
    ∷ []

-- func _init():
--     print(1 if false else 2 if 0 else 3, "y" if [0] else 1 / 0)
abbrev pub names_ternary : Project
names_ternary = plain_names (codes "_init" ∷ [])

abbrev pub code_ternary : Project → List ClassMeans
code_ternary P =
    record {
      class = class_at 0 0;
      starts = [];
      functions =
          func P (class_at 0 0) false (identifier (at 1 6) (codes "_init")) []
          (does P (at 2 2) (call P (at 2 2) (name P (at 2 2) (codes "print")) ((ternary P (at 2 8) (num P (at 2 8) (pos 1)) (lit P (at 2 13) (literal.Bool false)) (ternary P (at 2 24) (num P (at 2 24) (pos 2)) (num P (at 2 29) (pos 0)) (num P (at 2 36) (pos 3)))) ∷ (ternary P (at 2 39) (txt P (at 2 39) (codes "y")) (array P (at 2 46) ((num P (at 2 47) (pos 0)) ∷ [])) (binary P (at 2 55) op.Div (num P (at 2 55) (pos 1)) (num P (at 2 59) (pos 0)))) ∷ []))
          ∷ [])
          ∷ [];
    }
    ∷ []

-- func _init():
--     print({1: "a", true: 2, "k": [1], 1: "b"})
--     print({a = 1, b = {}})
abbrev pub names_dictionaries : Project
names_dictionaries = plain_names (codes "_init" ∷ [])

abbrev pub code_dictionaries : Project → List ClassMeans
code_dictionaries P =
    record {
      class = class_at 0 0;
      starts = [];
      functions =
          func P (class_at 0 0) false (identifier (at 1 6) (codes "_init")) []
          (does P (at 2 2) (call P (at 2 2) (name P (at 2 2) (codes "print")) ((dictionary P (at 2 8) (((num P (at 2 9) (pos 1)), (txt P (at 2 12) (codes "a"))) ∷ ((lit P (at 2 17) (literal.Bool true)), (num P (at 2 23) (pos 2))) ∷ ((txt P (at 2 26) (codes "k")), (array P (at 2 31) ((num P (at 2 32) (pos 1)) ∷ []))) ∷ ((num P (at 2 36) (pos 1)), (txt P (at 2 39) (codes "b"))) ∷ [])) ∷ []))
          ∷ does P (at 3 2) (call P (at 3 2) (name P (at 3 2) (codes "print")) ((table P (at 3 8) ((identifier (at 3 9) (codes "a"), (num P (at 3 13) (pos 1))) ∷ (identifier (at 3 16) (codes "b"), (dictionary P (at 3 20) [])) ∷ [])) ∷ []))
          ∷ [])
          ∷ [];
    }
    ∷ []

-- func f():
--     print("f")
--     return 1
-- func _init():
--     print({null: 1, "k": f()})
abbrev pub names_bad_key : Project
names_bad_key = plain_names (codes "f" ∷ codes "_init" ∷ [])

abbrev pub code_bad_key : Project → List ClassMeans
code_bad_key P =
    record {
      class = class_at 0 0;
      starts = [];
      functions =
          func P (class_at 0 0) false (identifier (at 1 6) (codes "f")) []
          (does P (at 2 2) (call P (at 2 2) (name P (at 2 2) (codes "print")) ((txt P (at 2 8) (codes "f")) ∷ []))
          ∷ returns P (at 3 2) (Some (num P (at 3 9) (pos 1)))
          ∷ [])
          ∷ func P (class_at 0 0) false (identifier (at 4 6) (codes "_init")) []
          (does P (at 5 2) (call P (at 5 2) (name P (at 5 2) (codes "print")) ((dictionary P (at 5 8) (((lit P (at 5 9) literal.Null), (num P (at 5 15) (pos 1))) ∷ ((txt P (at 5 18) (codes "k")), (call P (at 5 23) (name P (at 5 23) (codes "f")) [])) ∷ [])) ∷ []))
          ∷ [])
          ∷ [];
    }
    ∷ []

-- func _init():
--     var a = [10, 20]
--     var d = {"k": 1, 2: "z"}
--     print(a[0], a[-1], "xyz"[1], "xyz"[-1], d["k"], d[2], d.k)
--     print(a[2])
abbrev pub names_indexes : Project
names_indexes = plain_names (codes "_init" ∷ [])

abbrev pub code_indexes : Project → List ClassMeans
code_indexes P =
    record {
      class = class_at 0 0;
      starts = [];
      functions =
          func P (class_at 0 0) false (identifier (at 1 6) (codes "_init")) []
          (local P (at 2 2) (identifier (at 2 6) (codes "a")) (Some (array P (at 2 10) ((num P (at 2 11) (pos 10)) ∷ (num P (at 2 15) (pos 20)) ∷ [])))
          ∷ local P (at 3 2) (identifier (at 3 6) (codes "d")) (Some (dictionary P (at 3 10) (((txt P (at 3 11) (codes "k")), (num P (at 3 16) (pos 1))) ∷ ((num P (at 3 19) (pos 2)), (txt P (at 3 22) (codes "z"))) ∷ [])))
          ∷ does P (at 4 2) (call P (at 4 2) (name P (at 4 2) (codes "print")) ((index P (at 4 8) (name P (at 4 8) (codes "a")) (num P (at 4 10) (pos 0))) ∷ (index P (at 4 14) (name P (at 4 14) (codes "a")) (prefixed P (at 4 16) prefix.Neg (num P (at 4 17) (pos 1)))) ∷ (index P (at 4 21) (txt P (at 4 21) (codes "xyz")) (num P (at 4 27) (pos 1))) ∷ (index P (at 4 31) (txt P (at 4 31) (codes "xyz")) (prefixed P (at 4 37) prefix.Neg (num P (at 4 38) (pos 1)))) ∷ (index P (at 4 42) (name P (at 4 42) (codes "d")) (txt P (at 4 44) (codes "k"))) ∷ (index P (at 4 50) (name P (at 4 50) (codes "d")) (num P (at 4 52) (pos 2))) ∷ (member P (at 4 56) (name P (at 4 56) (codes "d")) (codes "k")) ∷ []))
          ∷ does P (at 5 2) (call P (at 5 2) (name P (at 5 2) (codes "print")) ((index P (at 5 8) (name P (at 5 8) (codes "a")) (num P (at 5 10) (pos 2))) ∷ []))
          ∷ [])
          ∷ [];
    }
    ∷ []

-- func _init():
--     var d = {}
--     print(d.x)
abbrev pub names_no_key : Project
names_no_key = plain_names (codes "_init" ∷ [])

abbrev pub code_no_key : Project → List ClassMeans
code_no_key P =
    record {
      class = class_at 0 0;
      starts = [];
      functions =
          func P (class_at 0 0) false (identifier (at 1 6) (codes "_init")) []
          (local P (at 2 2) (identifier (at 2 6) (codes "d")) (Some (dictionary P (at 2 10) []))
          ∷ does P (at 3 2) (call P (at 3 2) (name P (at 3 2) (codes "print")) ((member P (at 3 8) (name P (at 3 8) (codes "d")) (codes "x")) ∷ []))
          ∷ [])
          ∷ [];
    }
    ∷ []

-- func _init():
--     var a = [1]
--     print(a["0"])
abbrev pub names_bad_operands : Project
names_bad_operands = plain_names (codes "_init" ∷ [])

abbrev pub code_bad_operands : Project → List ClassMeans
code_bad_operands P =
    record {
      class = class_at 0 0;
      starts = [];
      functions =
          func P (class_at 0 0) false (identifier (at 1 6) (codes "_init")) []
          (local P (at 2 2) (identifier (at 2 6) (codes "a")) (Some (array P (at 2 10) ((num P (at 2 11) (pos 1)) ∷ [])))
          ∷ does P (at 3 2) (call P (at 3 2) (name P (at 3 2) (codes "print")) ((index P (at 3 8) (name P (at 3 8) (codes "a")) (txt P (at 3 10) (codes "0"))) ∷ []))
          ∷ [])
          ∷ [];
    }
    ∷ []

-- func _init():
--     var a = 1
--     print([1, {"a": [2]}] == [1, {"a": [2]}], {"a": 1, "b": 2} == {"b": 2, "a": 1}, [1] == [1, 2])
--     print(a == "a")
abbrev pub names_kinds : Project
names_kinds = plain_names (codes "_init" ∷ [])

abbrev pub code_kinds : Project → List ClassMeans
code_kinds P =
    record {
      class = class_at 0 0;
      starts = [];
      functions =
          func P (class_at 0 0) false (identifier (at 1 6) (codes "_init")) []
          (local P (at 2 2) (identifier (at 2 6) (codes "a")) (Some (num P (at 2 10) (pos 1)))
          ∷ does P (at 3 2) (call P (at 3 2) (name P (at 3 2) (codes "print")) ((binary P (at 3 8) op.Eq (array P (at 3 8) ((num P (at 3 9) (pos 1)) ∷ (dictionary P (at 3 12) (((txt P (at 3 13) (codes "a")), (array P (at 3 18) ((num P (at 3 19) (pos 2)) ∷ []))) ∷ [])) ∷ [])) (array P (at 3 27) ((num P (at 3 28) (pos 1)) ∷ (dictionary P (at 3 31) (((txt P (at 3 32) (codes "a")), (array P (at 3 37) ((num P (at 3 38) (pos 2)) ∷ []))) ∷ [])) ∷ []))) ∷ (binary P (at 3 44) op.Eq (dictionary P (at 3 44) (((txt P (at 3 45) (codes "a")), (num P (at 3 50) (pos 1))) ∷ ((txt P (at 3 53) (codes "b")), (num P (at 3 58) (pos 2))) ∷ [])) (dictionary P (at 3 64) (((txt P (at 3 65) (codes "b")), (num P (at 3 70) (pos 2))) ∷ ((txt P (at 3 73) (codes "a")), (num P (at 3 78) (pos 1))) ∷ []))) ∷ (binary P (at 3 82) op.Eq (array P (at 3 82) ((num P (at 3 83) (pos 1)) ∷ [])) (array P (at 3 89) ((num P (at 3 90) (pos 1)) ∷ (num P (at 3 93) (pos 2)) ∷ []))) ∷ []))
          ∷ does P (at 4 2) (call P (at 4 2) (name P (at 4 2) (codes "print")) ((binary P (at 4 8) op.Eq (name P (at 4 8) (codes "a")) (txt P (at 4 13) (codes "a"))) ∷ []))
          ∷ [])
          ∷ [];
    }
    ∷ []

-- func _init():
--     print(1 << 64)
abbrev pub names_bad_shift : Project
names_bad_shift = plain_names (codes "_init" ∷ [])

abbrev pub code_bad_shift : Project → List ClassMeans
code_bad_shift P =
    record {
      class = class_at 0 0;
      starts = [];
      functions =
          func P (class_at 0 0) false (identifier (at 1 6) (codes "_init")) []
          (does P (at 2 2) (call P (at 2 2) (name P (at 2 2) (codes "print")) ((binary P (at 2 8) op.Shl (num P (at 2 8) (pos 1)) (num P (at 2 13) (pos 64))) ∷ []))
          ∷ [])
          ∷ [];
    }
    ∷ []

-- func _init():
--     var s = "a"
--     print(s.length)
abbrev pub names_no_member : Project
names_no_member = plain_names (codes "_init" ∷ [])

abbrev pub code_no_member : Project → List ClassMeans
code_no_member P =
    record {
      class = class_at 0 0;
      starts = [];
      functions =
          func P (class_at 0 0) false (identifier (at 1 6) (codes "_init")) []
          (local P (at 2 2) (identifier (at 2 6) (codes "s")) (Some (txt P (at 2 10) (codes "a")))
          ∷ does P (at 3 2) (call P (at 3 2) (name P (at 3 2) (codes "print")) ((member P (at 3 8) (name P (at 3 8) (codes "s")) (codes "length")) ∷ []))
          ∷ [])
          ∷ [];
    }
    ∷ []

-- func _init():
--     var n
--     print(n.x)
abbrev pub names_null_member : Project
names_null_member = plain_names (codes "_init" ∷ [])

abbrev pub code_null_member : Project → List ClassMeans
code_null_member P =
    record {
      class = class_at 0 0;
      starts = [];
      functions =
          func P (class_at 0 0) false (identifier (at 1 6) (codes "_init")) []
          (local P (at 2 2) (identifier (at 2 6) (codes "n")) None
          ∷ does P (at 3 2) (call P (at 3 2) (name P (at 3 2) (codes "print")) ((member P (at 3 8) (name P (at 3 8) (codes "n")) (codes "x")) ∷ []))
          ∷ [])
          ∷ [];
    }
    ∷ []

-- func _init():
--     print("%s-%d|%5d|%-3d|%x|%c%%" % ["a", 7, 42, 5, 255, "z"])
--     print("%d" % "a")
abbrev pub names_formats : Project
names_formats = plain_names (codes "_init" ∷ [])

abbrev pub code_formats : Project → List ClassMeans
code_formats P =
    record {
      class = class_at 0 0;
      starts = [];
      functions =
          func P (class_at 0 0) false (identifier (at 1 6) (codes "_init")) []
          (does P (at 2 2) (call P (at 2 2) (name P (at 2 2) (codes "print")) ((binary P (at 2 8) op.Rem (txt P (at 2 8) (codes "%s-%d|%5d|%-3d|%x|%c%%")) (array P (at 2 35) ((txt P (at 2 36) (codes "a")) ∷ (num P (at 2 41) (pos 7)) ∷ (num P (at 2 44) (pos 42)) ∷ (num P (at 2 48) (pos 5)) ∷ (num P (at 2 51) (pos 255)) ∷ (txt P (at 2 56) (codes "z")) ∷ []))) ∷ []))
          ∷ does P (at 3 2) (call P (at 3 2) (name P (at 3 2) (codes "print")) ((binary P (at 3 8) op.Rem (txt P (at 3 8) (codes "%d")) (txt P (at 3 15) (codes "a"))) ∷ []))
          ∷ [])
          ∷ [];
    }
    ∷ []

-- func _init():
--     var a = []
--     a.append(a)
--     print(a)
abbrev pub names_too_deep : Project
names_too_deep = plain_names (codes "_init" ∷ [])

abbrev pub code_too_deep : Project → List ClassMeans
code_too_deep P =
    record {
      class = class_at 0 0;
      starts = [];
      functions =
          func P (class_at 0 0) false (identifier (at 1 6) (codes "_init")) []
          (local P (at 2 2) (identifier (at 2 6) (codes "a")) (Some (array P (at 2 10) []))
          ∷ does P (at 3 2) (call P (at 3 2) (member P (at 3 2) (name P (at 3 2) (codes "a")) (codes "append")) ((name P (at 3 11) (codes "a")) ∷ []))
          ∷ does P (at 4 2) (call P (at 4 2) (name P (at 4 2) (codes "print")) ((name P (at 4 8) (codes "a")) ∷ []))
          ∷ [])
          ∷ [];
    }
    ∷ []

-- func _init():
--     print({[]: print("x")})
abbrev pub names_keys_behind_parts : Project
names_keys_behind_parts = plain_names (codes "_init" ∷ [])

abbrev pub code_keys_behind_parts : Project → List ClassMeans
code_keys_behind_parts P =
    record {
      class = class_at 0 0;
      starts = [];
      functions =
          func P (class_at 0 0) false (identifier (at 1 6) (codes "_init")) []
          (does P (at 2 2) (call P (at 2 2) (name P (at 2 2) (codes "print")) ((dictionary P (at 2 8) (((array P (at 2 9) []), (call P (at 2 13) (name P (at 2 13) (codes "print")) ((txt P (at 2 19) (codes "x")) ∷ []))) ∷ [])) ∷ []))
          ∷ [])
          ∷ [];
    }
    ∷ []

-- func _init():
--     print({self: 1}, {self: 1}.has(self))
abbrev pub names_object_key : Project
names_object_key = plain_names (codes "_init" ∷ [])

abbrev pub code_object_key : Project → List ClassMeans
code_object_key P =
    record {
      class = class_at 0 0;
      starts = [];
      functions =
          func P (class_at 0 0) false (identifier (at 1 6) (codes "_init")) []
          (does P (at 2 2) (call P (at 2 2) (name P (at 2 2) (codes "print")) ((dictionary P (at 2 8) (((this P (at 2 9)), (num P (at 2 15) (pos 1))) ∷ [])) ∷ (call P (at 2 19) (member P (at 2 19) (dictionary P (at 2 19) (((this P (at 2 20)), (num P (at 2 26) (pos 1))) ∷ [])) (codes "has")) ((this P (at 2 33)) ∷ [])) ∷ []))
          ∷ [])
          ∷ [];
    }
    ∷ []

-- func _init():
--     print(1,
--         1 / 0)
abbrev pub names_first_line : Project
names_first_line = plain_names (codes "_init" ∷ [])

abbrev pub code_first_line : Project → List ClassMeans
code_first_line P =
    record {
      class = class_at 0 0;
      starts = [];
      functions =
          func P (class_at 0 0) false (identifier (at 1 6) (codes "_init")) []
          (does P (at 2 2) (call P (at 2 2) (name P (at 2 2) (codes "print")) ((num P (at 2 8) (pos 1)) ∷ (binary P (at 3 3) op.Div (num P (at 3 3) (pos 1)) (num P (at 3 7) (pos 0))) ∷ []))
          ∷ [])
          ∷ [];
    }
    ∷ []

-- what these scripts write, each in so many steps at most
pub record ExpressionRows : Type 0 where
  pub row_literals : writes names_literals code_literals 100 ≡ codes "<null>truefalse7a\"b\n\ndone steps 3 left 0\n"
  pub row_parens : writes names_parens code_parens 100 ≡ codes "97-4-669\ndone steps 2 left 0\n"
  pub row_operators : writes names_operators code_operators 100 ≡ codes "3 -1 16 -4 2 5 7\nab[1, 2]truefalsetruefalsefalsetruefalse\ndone steps 3 left 0\n"
  pub row_least : writes names_least code_least 100 ≡ codes "-9223372036854775808 0 9223372036854775807 -9223372036854775808\ndone steps 3 left 0\n"
  pub row_within : writes names_within code_within 100 ≡ codes "truetruefalsetruefalsetrue\ndone steps 2 left 0\n"
  pub row_truth : writes names_truth code_truth 100 ≡ codes "0\n2\nfalsetruetruefalsetrue\ndone steps 8 left 0\n"
  pub row_ternary : writes names_ternary code_ternary 100 ≡ codes "3y\ndone steps 2 left 0\n"
  pub row_dictionaries : writes names_dictionaries code_dictionaries 100 ≡ codes "{ 1: \"b\", true: 2, \"k\": [1] }\n{ \"a\": 1, \"b\": {} }\ndone steps 3 left 0\n"
  pub row_bad_key : writes names_bad_key code_bad_key 100 ≡ codes "f\nfault BadKey res://m.gd:5 steps 5\n"
  pub row_indexes : writes names_indexes code_indexes 100 ≡ codes "1020yz1z1\nfault BadIndex res://m.gd:5 steps 5\n"
  pub row_no_key : writes names_no_key code_no_key 100 ≡ codes "fault NoKey res://m.gd:3 steps 3\n"
  pub row_bad_operands : writes names_bad_operands code_bad_operands 100 ≡ codes "fault BadOperands res://m.gd:3 steps 3\n"
  pub row_kinds : writes names_kinds code_kinds 100 ≡ codes "truetruefalse\nfault BadOperands res://m.gd:4 steps 4\n"
  pub row_bad_shift : writes names_bad_shift code_bad_shift 100 ≡ codes "fault BadShift res://m.gd:2 steps 2\n"
  pub row_no_member : writes names_no_member code_no_member 100 ≡ codes "fault NoMember res://m.gd:3 steps 3\n"
  pub row_null_member : writes names_null_member code_null_member 100 ≡ codes "fault NullAccess res://m.gd:3 steps 3\n"
  pub row_formats : writes names_formats code_formats 100 ≡ codes "a-7|   42|5  |ff|z%\nfault BadFormat res://m.gd:3 steps 3\n"
  pub row_too_deep : writes names_too_deep code_too_deep 100 ≡ codes "fault TooDeep res://m.gd:4 steps 4\n"
  pub row_keys_behind_parts : writes names_keys_behind_parts code_keys_behind_parts 9 ≡ codes "x\nfault BadKey res://m.gd:2 steps 2\n"
  pub row_object_key : writes names_object_key code_object_key 100 ≡ codes "{ <res://m.gd#1>: 1 }true\ndone steps 2 left 0\n"
  pub row_first_line : writes names_first_line code_first_line 100 ≡ codes "fault DivisionByZero res://m.gd:2 steps 2\n"
