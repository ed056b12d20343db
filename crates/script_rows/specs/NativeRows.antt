-- Worked runs on native calls.
use Rattle.std.specs.Prelude.{◌≡◌, pos, true, false, List, [], ◌∷◌, codes, Some, None}
use Rattle.gd_syntax.specs.declared.tree.expr.Literal.TheVariants as literal
use Rattle.gd_syntax.specs.declared.tree.expr.TreeOp.TheVariants as op
use Rattle.gd_syntax.specs.declared.tree.expr.TreePrefix.TheVariants as prefix
use Rattle.script_meaning.specs.Projects.{Project}
use Rattle.script_meaning.specs.Tables.{ClassMeans}
use Rattle.script_rows.specs.Scripts.{at, identifier, lit, num, txt, name, this, array, dictionary, index, member, call, prefixed, binary, local, does, func, class_at, plain_names, writes}

-- func _init():
--     print(str(1, "a", null), len("abc"), len([1, 2]), len({}))
--     print(abs(-3), min(3, 1, 2), max(3, 1, 2), clamp(5, 1, 3), absi(-2), mini(2, 1), maxi(2, 1), clampi(0, 1, 3))
--     print(posmod(-7, 3), posmod(7, -3), range(3), range(1, 3), range(5, 0, -2))
--     print(is_instance_valid(self), is_instance_valid(null), weakref(self).get_ref() == self, weakref(self))
abbrev pub names_globals : Project
names_globals = plain_names (codes "_init" ∷ [])

abbrev pub code_globals : Project → List ClassMeans
code_globals P =
    record {
      class = class_at 0 0;
      starts = [];
      functions =
          func P (class_at 0 0) false (identifier (at 1 6) (codes "_init")) []
          (does P (at 2 2) (call P (at 2 2) (name P (at 2 2) (codes "print")) ((call P (at 2 8) (name P (at 2 8) (codes "str")) ((num P (at 2 12) (pos 1)) ∷ (txt P (at 2 15) (codes "a")) ∷ (lit P (at 2 20) literal.Null) ∷ [])) ∷ (call P (at 2 27) (name P (at 2 27) (codes "len")) ((txt P (at 2 31) (codes "abc")) ∷ [])) ∷ (call P (at 2 39) (name P (at 2 39) (codes "len")) ((array P (at 2 43) ((num P (at 2 44) (pos 1)) ∷ (num P (at 2 47) (pos 2)) ∷ [])) ∷ [])) ∷ (call P (at 2 52) (name P (at 2 52) (codes "len")) ((dictionary P (at 2 56) []) ∷ [])) ∷ []))
          ∷ does P (at 3 2) (call P (at 3 2) (name P (at 3 2) (codes "print")) ((call P (at 3 8) (name P (at 3 8) (codes "abs")) ((prefixed P (at 3 12) prefix.Neg (num P (at 3 13) (pos 3))) ∷ [])) ∷ (call P (at 3 17) (name P (at 3 17) (codes "min")) ((num P (at 3 21) (pos 3)) ∷ (num P (at 3 24) (pos 1)) ∷ (num P (at 3 27) (pos 2)) ∷ [])) ∷ (call P (at 3 31) (name P (at 3 31) (codes "max")) ((num P (at 3 35) (pos 3)) ∷ (num P (at 3 38) (pos 1)) ∷ (num P (at 3 41) (pos 2)) ∷ [])) ∷ (call P (at 3 45) (name P (at 3 45) (codes "clamp")) ((num P (at 3 51) (pos 5)) ∷ (num P (at 3 54) (pos 1)) ∷ (num P (at 3 57) (pos 3)) ∷ [])) ∷ (call P (at 3 61) (name P (at 3 61) (codes "absi")) ((prefixed P (at 3 66) prefix.Neg (num P (at 3 67) (pos 2))) ∷ [])) ∷ (call P (at 3 71) (name P (at 3 71) (codes "mini")) ((num P (at 3 76) (pos 2)) ∷ (num P (at 3 79) (pos 1)) ∷ [])) ∷ (call P (at 3 83) (name P (at 3 83) (codes "maxi")) ((num P (at 3 88) (pos 2)) ∷ (num P (at 3 91) (pos 1)) ∷ [])) ∷ (call P (at 3 95) (name P (at 3 95) (codes "clampi")) ((num P (at 3 102) (pos 0)) ∷ (num P (at 3 105) (pos 1)) ∷ (num P (at 3 108) (pos 3)) ∷ [])) ∷ []))
          ∷ does P (at 4 2) (call P (at 4 2) (name P (at 4 2) (codes "print")) ((call P (at 4 8) (name P (at 4 8) (codes "posmod")) ((prefixed P (at 4 15) prefix.Neg (num P (at 4 16) (pos 7))) ∷ (num P (at 4 19) (pos 3)) ∷ [])) ∷ (call P (at 4 23) (name P (at 4 23) (codes "posmod")) ((num P (at 4 30) (pos 7)) ∷ (prefixed P (at 4 33) prefix.Neg (num P (at 4 34) (pos 3))) ∷ [])) ∷ (call P (at 4 38) (name P (at 4 38) (codes "range")) ((num P (at 4 44) (pos 3)) ∷ [])) ∷ (call P (at 4 48) (name P (at 4 48) (codes "range")) ((num P (at 4 54) (pos 1)) ∷ (num P (at 4 57) (pos 3)) ∷ [])) ∷ (call P (at 4 61) (name P (at 4 61) (codes "range")) ((num P (at 4 67) (pos 5)) ∷ (num P (at 4 70) (pos 0)) ∷ (prefixed P (at 4 73) prefix.Neg (num P (at 4 74) (pos 2))) ∷ [])) ∷ []))
          ∷ does P (at 5 2) (call P (at 5 2) (name P (at 5 2) (codes "print")) ((call P (at 5 8) (name P (at 5 8) (codes "is_instance_valid")) ((this P (at 5 26)) ∷ [])) ∷ (call P (at 5 33) (name P (at 5 33) (codes "is_instance_valid")) ((lit P (at 5 51) literal.Null) ∷ [])) ∷ (binary P (at 5 58) op.Eq (call P (at 5 58) (member P (at 5 58) (call P (at 5 58) (name P (at 5 58) (codes "weakref")) ((this P (at 5 66)) ∷ [])) (codes "get_ref")) []) (this P (at 5 85))) ∷ (call P (at 5 91) (name P (at 5 91) (codes "weakref")) ((this P (at 5 99)) ∷ [])) ∷ []))
          ∷ [])
          ∷ [];
    }
    ∷ []

-- func _init():
--     print(range(1, 2, 0))
abbrev pub names_bad_range : Project
names_bad_range = plain_names (codes "_init" ∷ [])

abbrev pub code_bad_range : Project → List ClassMeans
code_bad_range P =
    record {
      class = class_at 0 0;
      starts = [];
      functions =
          func P (class_at 0 0) false (identifier (at 1 6) (codes "_init")) []
          (does P (at 2 2) (call P (at 2 2) (name P (at 2 2) (codes "print")) ((call P (at 2 8) (name P (at 2 8) (codes "range")) ((num P (at 2 14) (pos 1)) ∷ (num P (at 2 17) (pos 2)) ∷ (num P (at 2 20) (pos 0)) ∷ [])) ∷ []))
          ∷ [])
          ∷ [];
    }
    ∷ []

-- func _init():
--     print(posmod(1, 0))
abbrev pub names_pos_mod : Project
names_pos_mod = plain_names (codes "_init" ∷ [])

abbrev pub code_pos_mod : Project → List ClassMeans
code_pos_mod P =
    record {
      class = class_at 0 0;
      starts = [];
      functions =
          func P (class_at 0 0) false (identifier (at 1 6) (codes "_init")) []
          (does P (at 2 2) (call P (at 2 2) (name P (at 2 2) (codes "print")) ((call P (at 2 8) (name P (at 2 8) (codes "posmod")) ((num P (at 2 15) (pos 1)) ∷ (num P (at 2 18) (pos 0)) ∷ [])) ∷ []))
          ∷ [])
          ∷ [];
    }
    ∷ []

-- func _init():
--     var s = "Hello"
--     print(s.length(), s.is_empty(), s.substr(1, 3), s.substr(3), s.left(2), s.right(2), s.find("l"), s.find("l", 3), s.find("z"))
--     print(s.contains("ell"), s.begins_with("He"), s.ends_with("o"), s.replace("l", "L"), "a,b".split(","), "-".join(["x", "y"]), "ab".repeat(2))
--     print(s.to_upper(), s.to_lower(), "  t ".strip_edges(), "-12".is_valid_int(), "-12".to_int() + 1, "A".unicode_at(0))
abbrev pub names_strings : Project
names_strings = plain_names (codes "_init" ∷ [])

abbrev pub code_strings : Project → List ClassMeans
code_strings P =
    record {
      class = class_at 0 0;
      starts = [];
      functions =
          func P (class_at 0 0) false (identifier (at 1 6) (codes "_init")) []
          (local P (at 2 2) (identifier (at 2 6) (codes "s")) (Some (txt P (at 2 10) (codes "Hello")))
          ∷ does P (at 3 2) (call P (at 3 2) (name P (at 3 2) (codes "print")) ((call P (at 3 8) (member P (at 3 8) (name P (at 3 8) (codes "s")) (codes "length")) []) ∷ (call P (at 3 20) (member P (at 3 20) (name P (at 3 20) (codes "s")) (codes "is_empty")) []) ∷ (call P (at 3 34) (member P (at 3 34) (name P (at 3 34) (codes "s")) (codes "substr")) ((num P (at 3 43) (pos 1)) ∷ (num P (at 3 46) (pos 3)) ∷ [])) ∷ (call P (at 3 50) (member P (at 3 50) (name P (at 3 50) (codes "s")) (codes "substr")) ((num P (at 3 59) (pos 3)) ∷ [])) ∷ (call P (at 3 63) (member P (at 3 63) (name P (at 3 63) (codes "s")) (codes "left")) ((num P (at 3 70) (pos 2)) ∷ [])) ∷ (call P (at 3 74) (member P (at 3 74) (name P (at 3 74) (codes "s")) (codes "right")) ((num P (at 3 82) (pos 2)) ∷ [])) ∷ (call P (at 3 86) (member P (at 3 86) (name P (at 3 86) (codes "s")) (codes "find")) ((txt P (at 3 93) (codes "l")) ∷ [])) ∷ (call P (at 3 99) (member P (at 3 99) (name P (at 3 99) (codes "s")) (codes "find")) ((txt P (at 3 106) (codes "l")) ∷ (num P (at 3 111) (pos 3)) ∷ [])) ∷ (call P (at 3 115) (member P (at 3 115) (name P (at 3 115) (codes "s")) (codes "find")) ((txt P (at 3 122) (codes "z")) ∷ [])) ∷ []))
          ∷ does P (at 4 2) (call P (at 4 2) (name P (at 4 2) (codes "print")) ((call P (at 4 8) (member P (at 4 8) (name P (at 4 8) (codes "s")) (codes "contains")) ((txt P (at 4 19) (codes "ell")) ∷ [])) ∷ (call P (at 4 27) (member P (at 4 27) (name P (at 4 27) (codes "s")) (codes "begins_with")) ((txt P (at 4 41) (codes "He")) ∷ [])) ∷ (call P (at 4 48) (member P (at 4 48) (name P (at 4 48) (codes "s")) (codes "ends_with")) ((txt P (at 4 60) (codes "o")) ∷ [])) ∷ (call P (at 4 66) (member P (at 4 66) (name P (at 4 66) (codes "s")) (codes "replace")) ((txt P (at 4 76) (codes "l")) ∷ (txt P (at 4 81) (codes "L")) ∷ [])) ∷ (call P (at 4 87) (member P (at 4 87) (txt P (at 4 87) (codes "a,b")) (codes "split")) ((txt P (at 4 99) (codes ",")) ∷ [])) ∷ (call P (at 4 105) (member P (at 4 105) (txt P (at 4 105) (codes "-")) (codes "join")) ((array P (at 4 114) ((txt P (at 4 115) (codes "x")) ∷ (txt P (at 4 120) (codes "y")) ∷ [])) ∷ [])) ∷ (call P (at 4 127) (member P (at 4 127) (txt P (at 4 127) (codes "ab")) (codes "repeat")) ((num P (at 4 139) (pos 2)) ∷ [])) ∷ []))
          ∷ does P (at 5 2) (call P (at 5 2) (name P (at 5 2) (codes "print")) ((call P (at 5 8) (member P (at 5 8) (name P (at 5 8) (codes "s")) (codes "to_upper")) []) ∷ (call P (at 5 22) (member P (at 5 22) (name P (at 5 22) (codes "s")) (codes "to_lower")) []) ∷ (call P (at 5 36) (member P (at 5 36) (txt P (at 5 36) (codes "  t ")) (codes "strip_edges")) []) ∷ (call P (at 5 58) (member P (at 5 58) (txt P (at 5 58) (codes "-12")) (codes "is_valid_int")) []) ∷ (binary P (at 5 80) op.Add (call P (at 5 80) (member P (at 5 80) (txt P (at 5 80) (codes "-12")) (codes "to_int")) []) (num P (at 5 97) (pos 1))) ∷ (call P (at 5 100) (member P (at 5 100) (txt P (at 5 100) (codes "A")) (codes "unicode_at")) ((num P (at 5 115) (pos 0)) ∷ [])) ∷ []))
          ∷ [])
          ∷ [];
    }
    ∷ []

-- func _init():
--     var a = [3, 1]
--     a.append(2)
--     a.push_front(9)
--     a.insert(1, 5)
--     a.sort()
--     print(a, a.size(), a.has(5), a.find(9), a.count(1), a.front(), a.back())
--     a.erase(5)
--     a.remove_at(-1)
--     a.reverse()
--     print(a, a.slice(0, 2), a.pop_back(), a.pop_front(), a)
--     a.append_array([7, 7])
--     a.resize(4)
--     print(a, a.duplicate(), a.is_empty())
--     a.fill(0)
--     print(a)
--     a.clear()
--     print(a)
-- (_init: 1; seventeen statements)
abbrev pub names_arrays : Project
names_arrays = plain_names (codes "_init" ∷ [])

abbrev pub code_arrays : Project → List ClassMeans
code_arrays P =
    record {
      class = class_at 0 0;
      starts = [];
      functions =
          func P (class_at 0 0) false (identifier (at 1 6) (codes "_init")) []
          (local P (at 2 2) (identifier (at 2 6) (codes "a")) (Some (array P (at 2 10) ((num P (at 2 11) (pos 3)) ∷ (num P (at 2 14) (pos 1)) ∷ [])))
          ∷ does P (at 3 2) (call P (at 3 2) (member P (at 3 2) (name P (at 3 2) (codes "a")) (codes "append")) ((num P (at 3 11) (pos 2)) ∷ []))
          ∷ does P (at 4 2) (call P (at 4 2) (member P (at 4 2) (name P (at 4 2) (codes "a")) (codes "push_front")) ((num P (at 4 15) (pos 9)) ∷ []))
          ∷ does P (at 5 2) (call P (at 5 2) (member P (at 5 2) (name P (at 5 2) (codes "a")) (codes "insert")) ((num P (at 5 11) (pos 1)) ∷ (num P (at 5 14) (pos 5)) ∷ []))
          ∷ does P (at 6 2) (call P (at 6 2) (member P (at 6 2) (name P (at 6 2) (codes "a")) (codes "sort")) [])
          ∷ does P (at 7 2) (call P (at 7 2) (name P (at 7 2) (codes "print")) ((name P (at 7 8) (codes "a")) ∷ (call P (at 7 11) (member P (at 7 11) (name P (at 7 11) (codes "a")) (codes "size")) []) ∷ (call P (at 7 21) (member P (at 7 21) (name P (at 7 21) (codes "a")) (codes "has")) ((num P (at 7 27) (pos 5)) ∷ [])) ∷ (call P (at 7 31) (member P (at 7 31) (name P (at 7 31) (codes "a")) (codes "find")) ((num P (at 7 38) (pos 9)) ∷ [])) ∷ (call P (at 7 42) (member P (at 7 42) (name P (at 7 42) (codes "a")) (codes "count")) ((num P (at 7 50) (pos 1)) ∷ [])) ∷ (call P (at 7 54) (member P (at 7 54) (name P (at 7 54) (codes "a")) (codes "front")) []) ∷ (call P (at 7 65) (member P (at 7 65) (name P (at 7 65) (codes "a")) (codes "back")) []) ∷ []))
          ∷ does P (at 8 2) (call P (at 8 2) (member P (at 8 2) (name P (at 8 2) (codes "a")) (codes "erase")) ((num P (at 8 10) (pos 5)) ∷ []))
          ∷ does P (at 9 2) (call P (at 9 2) (member P (at 9 2) (name P (at 9 2) (codes "a")) (codes "remove_at")) ((prefixed P (at 9 14) prefix.Neg (num P (at 9 15) (pos 1))) ∷ []))
          ∷ does P (at 10 2) (call P (at 10 2) (member P (at 10 2) (name P (at 10 2) (codes "a")) (codes "reverse")) [])
          ∷ does P (at 11 2) (call P (at 11 2) (name P (at 11 2) (codes "print")) ((name P (at 11 8) (codes "a")) ∷ (call P (at 11 11) (member P (at 11 11) (name P (at 11 11) (codes "a")) (codes "slice")) ((num P (at 11 19) (pos 0)) ∷ (num P (at 11 22) (pos 2)) ∷ [])) ∷ (call P (at 11 26) (member P (at 11 26) (name P (at 11 26) (codes "a")) (codes "pop_back")) []) ∷ (call P (at 11 40) (member P (at 11 40) (name P (at 11 40) (codes "a")) (codes "pop_front")) []) ∷ (name P (at 11 55) (codes "a")) ∷ []))
          ∷ does P (at 12 2) (call P (at 12 2) (member P (at 12 2) (name P (at 12 2) (codes "a")) (codes "append_array")) ((array P (at 12 17) ((num P (at 12 18) (pos 7)) ∷ (num P (at 12 21) (pos 7)) ∷ [])) ∷ []))
          ∷ does P (at 13 2) (call P (at 13 2) (member P (at 13 2) (name P (at 13 2) (codes "a")) (codes "resize")) ((num P (at 13 11) (pos 4)) ∷ []))
          ∷ does P (at 14 2) (call P (at 14 2) (name P (at 14 2) (codes "print")) ((name P (at 14 8) (codes "a")) ∷ (call P (at 14 11) (member P (at 14 11) (name P (at 14 11) (codes "a")) (codes "duplicate")) []) ∷ (call P (at 14 26) (member P (at 14 26) (name P (at 14 26) (codes "a")) (codes "is_empty")) []) ∷ []))
          ∷ does P (at 15 2) (call P (at 15 2) (member P (at 15 2) (name P (at 15 2) (codes "a")) (codes "fill")) ((num P (at 15 9) (pos 0)) ∷ []))
          ∷ does P (at 16 2) (call P (at 16 2) (name P (at 16 2) (codes "print")) ((name P (at 16 8) (codes "a")) ∷ []))
          ∷ does P (at 17 2) (call P (at 17 2) (member P (at 17 2) (name P (at 17 2) (codes "a")) (codes "clear")) [])
          ∷ does P (at 18 2) (call P (at 18 2) (name P (at 18 2) (codes "print")) ((name P (at 18 8) (codes "a")) ∷ []))
          ∷ [])
          ∷ [];
    }
    ∷ []

-- func _init():
--     var d = {"b": 1, "a": 2}
--     print(d.size(), d.has("a"), d.get("z"), d.get("z", 5), d.keys(), d.values(), d.is_empty())
--     print(d.erase("b"), d.erase("b"))
--     d.merge({"a": 9, "c": 3})
--     d.merge({"a": 9}, true)
--     print(d, d.duplicate())
--     d.clear()
--     print(d)
abbrev pub names_dictionary_methods : Project
names_dictionary_methods = plain_names (codes "_init" ∷ [])

abbrev pub code_dictionary_methods : Project → List ClassMeans
code_dictionary_methods P =
    record {
      class = class_at 0 0;
      starts = [];
      functions =
          func P (class_at 0 0) false (identifier (at 1 6) (codes "_init")) []
          (local P (at 2 2) (identifier (at 2 6) (codes "d")) (Some (dictionary P (at 2 10) (((txt P (at 2 11) (codes "b")), (num P (at 2 16) (pos 1))) ∷ ((txt P (at 2 19) (codes "a")), (num P (at 2 24) (pos 2))) ∷ [])))
          ∷ does P (at 3 2) (call P (at 3 2) (name P (at 3 2) (codes "print")) ((call P (at 3 8) (member P (at 3 8) (name P (at 3 8) (codes "d")) (codes "size")) []) ∷ (call P (at 3 18) (member P (at 3 18) (name P (at 3 18) (codes "d")) (codes "has")) ((txt P (at 3 24) (codes "a")) ∷ [])) ∷ (call P (at 3 30) (member P (at 3 30) (name P (at 3 30) (codes "d")) (codes "get")) ((txt P (at 3 36) (codes "z")) ∷ [])) ∷ (call P (at 3 42) (member P (at 3 42) (name P (at 3 42) (codes "d")) (codes "get")) ((txt P (at 3 48) (codes "z")) ∷ (num P (at 3 53) (pos 5)) ∷ [])) ∷ (call P (at 3 57) (member P (at 3 57) (name P (at 3 57) (codes "d")) (codes "keys")) []) ∷ (call P (at 3 67) (member P (at 3 67) (name P (at 3 67) (codes "d")) (codes "values")) []) ∷ (call P (at 3 79) (member P (at 3 79) (name P (at 3 79) (codes "d")) (codes "is_empty")) []) ∷ []))
          ∷ does P (at 4 2) (call P (at 4 2) (name P (at 4 2) (codes "print")) ((call P (at 4 8) (member P (at 4 8) (name P (at 4 8) (codes "d")) (codes "erase")) ((txt P (at 4 16) (codes "b")) ∷ [])) ∷ (call P (at 4 22) (member P (at 4 22) (name P (at 4 22) (codes "d")) (codes "erase")) ((txt P (at 4 30) (codes "b")) ∷ [])) ∷ []))
          ∷ does P (at 5 2) (call P (at 5 2) (member P (at 5 2) (name P (at 5 2) (codes "d")) (codes "merge")) ((dictionary P (at 5 10) (((txt P (at 5 11) (codes "a")), (num P (at 5 16) (pos 9))) ∷ ((txt P (at 5 19) (codes "c")), (num P (at 5 24) (pos 3))) ∷ [])) ∷ []))
          ∷ does P (at 6 2) (call P (at 6 2) (member P (at 6 2) (name P (at 6 2) (codes "d")) (codes "merge")) ((dictionary P (at 6 10) (((txt P (at 6 11) (codes "a")), (num P (at 6 16) (pos 9))) ∷ [])) ∷ (lit P (at 6 20) (literal.Bool true)) ∷ []))
          ∷ does P (at 7 2) (call P (at 7 2) (name P (at 7 2) (codes "print")) ((name P (at 7 8) (codes "d")) ∷ (call P (at 7 11) (member P (at 7 11) (name P (at 7 11) (codes "d")) (codes "duplicate")) []) ∷ []))
          ∷ does P (at 8 2) (call P (at 8 2) (member P (at 8 2) (name P (at 8 2) (codes "d")) (codes "clear")) [])
          ∷ does P (at 9 2) (call P (at 9 2) (name P (at 9 2) (codes "print")) ((name P (at 9 8) (codes "d")) ∷ []))
          ∷ [])
          ∷ [];
    }
    ∷ []

-- func _init():
--     var a = [[1]]
--     var b = a.duplicate()
--     var c = a.duplicate(true)
--     a[0].append(2)
--     a.push_back(3)
--     print(a, b, c)
abbrev pub names_copies : Project
names_copies = plain_names (codes "_init" ∷ [])

abbrev pub code_copies : Project → List ClassMeans
code_copies P =
    record {
      class = class_at 0 0;
      starts = [];
      functions =
          func P (class_at 0 0) false (identifier (at 1 6) (codes "_init")) []
          (local P (at 2 2) (identifier (at 2 6) (codes "a")) (Some (array P (at 2 10) ((array P (at 2 11) ((num P (at 2 12) (pos 1)) ∷ [])) ∷ [])))
          ∷ local P (at 3 2) (identifier (at 3 6) (codes "b")) (Some (call P (at 3 10) (member P (at 3 10) (name P (at 3 10) (codes "a")) (codes "duplicate")) []))
          ∷ local P (at 4 2) (identifier (at 4 6) (codes "c")) (Some (call P (at 4 10) (member P (at 4 10) (name P (at 4 10) (codes "a")) (codes "duplicate")) ((lit P (at 4 22) (literal.Bool true)) ∷ [])))
          ∷ does P (at 5 2) (call P (at 5 2) (member P (at 5 2) (index P (at 5 2) (name P (at 5 2) (codes "a")) (num P (at 5 4) (pos 0))) (codes "append")) ((num P (at 5 14) (pos 2)) ∷ []))
          ∷ does P (at 6 2) (call P (at 6 2) (member P (at 6 2) (name P (at 6 2) (codes "a")) (codes "push_back")) ((num P (at 6 14) (pos 3)) ∷ []))
          ∷ does P (at 7 2) (call P (at 7 2) (name P (at 7 2) (codes "print")) ((name P (at 7 8) (codes "a")) ∷ (name P (at 7 11) (codes "b")) ∷ (name P (at 7 14) (codes "c")) ∷ []))
          ∷ [])
          ∷ [];
    }
    ∷ []

-- func _init():
--     var d = {"size": 5}
--     print(d.size, d.size())
abbrev pub names_size_key : Project
names_size_key = plain_names (codes "_init" ∷ [])

abbrev pub code_size_key : Project → List ClassMeans
code_size_key P =
    record {
      class = class_at 0 0;
      starts = [];
      functions =
          func P (class_at 0 0) false (identifier (at 1 6) (codes "_init")) []
          (local P (at 2 2) (identifier (at 2 6) (codes "d")) (Some (dictionary P (at 2 10) (((txt P (at 2 11) (codes "size")), (num P (at 2 19) (pos 5))) ∷ [])))
          ∷ does P (at 3 2) (call P (at 3 2) (name P (at 3 2) (codes "print")) ((member P (at 3 8) (name P (at 3 8) (codes "d")) (codes "size")) ∷ (call P (at 3 16) (member P (at 3 16) (name P (at 3 16) (codes "d")) (codes "size")) []) ∷ []))
          ∷ [])
          ∷ [];
    }
    ∷ []

-- func f():
--     print("x")
-- func _init():
--     var a = [1]
--     a.nope(f())
abbrev pub names_no_method : Project
names_no_method = plain_names (codes "f" ∷ codes "_init" ∷ [])

abbrev pub code_no_method : Project → List ClassMeans
code_no_method P =
    record {
      class = class_at 0 0;
      starts = [];
      functions =
          func P (class_at 0 0) false (identifier (at 1 6) (codes "f")) []
          (does P (at 2 2) (call P (at 2 2) (name P (at 2 2) (codes "print")) ((txt P (at 2 8) (codes "x")) ∷ []))
          ∷ [])
          ∷ func P (class_at 0 0) false (identifier (at 3 6) (codes "_init")) []
          (local P (at 4 2) (identifier (at 4 6) (codes "a")) (Some (array P (at 4 10) ((num P (at 4 11) (pos 1)) ∷ [])))
          ∷ does P (at 5 2) (call P (at 5 2) (member P (at 5 2) (name P (at 5 2) (codes "a")) (codes "nope")) ((call P (at 5 9) (name P (at 5 9) (codes "f")) []) ∷ []))
          ∷ [])
          ∷ [];
    }
    ∷ []

-- func _init():
--     var c = free
--     print(c, c.is_valid())
--     c.call()
abbrev pub names_native_callable : Project
names_native_callable = plain_names (codes "_init" ∷ [])

abbrev pub code_native_callable : Project → List ClassMeans
code_native_callable P =
    record {
      class = class_at 0 0;
      starts = [];
      functions =
          func P (class_at 0 0) false (identifier (at 1 6) (codes "_init")) []
          (local P (at 2 2) (identifier (at 2 6) (codes "c")) (Some (name P (at 2 10) (codes "free")))
          ∷ does P (at 3 2) (call P (at 3 2) (name P (at 3 2) (codes "print")) ((name P (at 3 8) (codes "c")) ∷ (call P (at 3 11) (member P (at 3 11) (name P (at 3 11) (codes "c")) (codes "is_valid")) []) ∷ []))
          ∷ does P (at 4 2) (call P (at 4 2) (member P (at 4 2) (name P (at 4 2) (codes "c")) (codes "call")) [])
          ∷ [])
          ∷ [];
    }
    ∷ []

-- func _init():
--     var n
--     n.size()
abbrev pub names_null_method : Project
names_null_method = plain_names (codes "_init" ∷ [])

abbrev pub code_null_method : Project → List ClassMeans
code_null_method P =
    record {
      class = class_at 0 0;
      starts = [];
      functions =
          func P (class_at 0 0) false (identifier (at 1 6) (codes "_init")) []
          (local P (at 2 2) (identifier (at 2 6) (codes "n")) None
          ∷ does P (at 3 2) (call P (at 3 2) (member P (at 3 2) (name P (at 3 2) (codes "n")) (codes "size")) [])
          ∷ [])
          ∷ [];
    }
    ∷ []

-- what these scripts write, each in so many steps at most
pub record NativeRows : Type 0 where
  pub row_globals : writes names_globals code_globals 100 ≡ codes "1a<null>320\n31332121\n2-2[0, 1, 2][1, 2][5, 3, 1]\ntruefalsetrue<WeakRef>\ndone steps 5 left 0\n"
  pub row_bad_range : writes names_bad_range code_bad_range 100 ≡ codes "fault BadArgs res://m.gd:2 steps 2\n"
  pub row_pos_mod : writes names_pos_mod code_pos_mod 100 ≡ codes "fault DivisionByZero res://m.gd:2 steps 2\n"
  pub row_strings : writes names_strings code_strings 100 ≡ codes "5falseellloHelo23-1\ntruetruetrueHeLLo[\"a\", \"b\"]x-yabab\nHELLOhellottrue-1165\ndone steps 5 left 0\n"
  pub row_arrays : writes names_arrays code_arrays 100 ≡ codes "[1, 2, 3, 5, 9]5true4119\n[2][3, 2]13[2]\n[2, 7, 7, <null>][2, 7, 7, <null>]false\n[0, 0, 0, 0]\n[]\ndone steps 18 left 0\n"
  pub row_dictionary_methods : writes names_dictionary_methods code_dictionary_methods 100 ≡ codes "2true<null>5[\"b\", \"a\"][1, 2]false\ntruefalse\n{ \"a\": 9, \"c\": 3 }{ \"a\": 9, \"c\": 3 }\n{}\ndone steps 9 left 0\n"
  pub row_copies : writes names_copies code_copies 100 ≡ codes "[[1, 2], 3][[1, 2]][[1]]\ndone steps 7 left 0\n"
  pub row_size_key : writes names_size_key code_size_key 100 ≡ codes "51\ndone steps 3 left 0\n"
  pub row_no_method : writes names_no_method code_no_method 100 ≡ codes "x\nfault NoMethod res://m.gd:5 steps 5\n"
  pub row_native_callable : writes names_native_callable code_native_callable 100 ≡ codes "<Callable free>true\nfault BadArgs res://m.gd:4 steps 4\n"
  pub row_null_method : writes names_null_method code_null_method 100 ≡ codes "fault NullAccess res://m.gd:3 steps 3\n"
