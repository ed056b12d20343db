-- What each row of the table refuses.
use Rattle.std.proofs.Common.{◌≡◌, ℕ, Bool, true, false, List, [], ◌∷◌, refl, ap, Option, Some, None, Result, Err}
use Rattle.std.specs.Prelude.{◌||◌, if◌then◌else◌, is_some}
use Rattle.std.specs.List.{list_any}
use Rattle.variant_values.specs.declared.cells.Cell.{Cell}
use Rattle.variant_values.specs.declared.faults.RunFault.{RunFault}
use Rattle.variant_values.specs.declared.faults.RunFault.TheVariants.{BadArgs, NoMethod}
use Rattle.variant_values.specs.declared.values.Serial.{Serial}
use Rattle.variant_values.specs.declared.values.Value.{Value}
use Rattle.variant_values.specs.declared.values.Value.TheVariants.{Str, Array, Dict, Object, Callable, Signal, Class, Scene, Weak}
use Rattle.variant_values.specs.Changes.{Given}
use Rattle.variant_values.specs.Classes.{is_node_class, is_ref_counted}
use Rattle.variant_values.specs.ContainerCalls.{any_in, truth_in, dict_in, end_in}
use Rattle.variant_values.specs.ElementTypes.{lineage_of}
use Rattle.variant_values.specs.Heaps.{Heap, cell_at}
use Rattle.variant_values.specs.Operators.{Outcome}
use Rattle.variant_values.specs.StringMethods.{string_in, int_in, array_in, count_in, span_in, with_given, is_none_given}
use Rattle.variant_values.specs.ValueTexts.{Names}
use Rattle.native_calls.specs.Table.{GlobalFunctions, AnyValue, ABool, AnInt, AString, AnArray, ADictionary, Sized, AnObject, Row, rows_of, row_in, row_named, no_params, any_values, admitted, NativeCall, global_rows, string_rows, array_rows, dict_rows, callable_rows, signal_rows, weak_ref_rows, scene_rows, class_rows, object_rows, node_rows}
use Rattle.native_calls.specs.Globals.{length_of, object_in, smaller, larger}
use Rattle.native_calls.specs.Natives.{Native, from_given, from_look, HasFunction, call_given, free_refusal, global_call, method_native, global_native, access_fault, row_of, row_among, first_row, object_kinds}
use Rattle.native_calls.proofs.Rows.{Each, row_found, first_only}
use Rattle.native_calls.proofs.Refusals.{none_refused, one_out, two_out, one_or_two_out, none_or_one_out, three_out, range_out, most_out, any_out, truth_out, int_out, count_out, length_out, end_out, string_out, array_out, dict_out, sized_out, object_out, given_out}

-- a row whose call is told refuses arguments that are not admitted
abbrev IsRefused : List (Option Cell) → (List Value → Option NativeCall → Option Native) → Row → Type 0
IsRefused cells given row = (args : List Value) → admitted cells row.params args ≡ false → is_some row.call ≡ true → given args row.call ≡ Some (Err BadArgs)

answered : {g : Given} → g ≡ Err BadArgs → Some (from_given g) ≡ Some (Err BadArgs)
answered h = ap (λ g. Some (from_given g)) h

looked_at : (h : Heap) {o : Outcome} → o ≡ Err BadArgs → Some (from_look h o) ≡ Some (Err BadArgs)
looked_at h is = ap (λ o. Some (from_look h o)) is

refused : {A : Type 0} {o : Option A} (f : A → Result (Value × Heap) RunFault) → o ≡ None → Some (from_given (with_given o f)) ≡ Some (Err BadArgs)
refused f is = answered (given_out _ f is)

refused_look : (h : Heap) {A : Type 0} {o : Option A} (f : A → Outcome) → o ≡ None → Some (from_look h (with_given o f)) ≡ Some (Err BadArgs)
refused_look h f is = looked_at h (given_out _ f is)

strings : (has : HasFunction) (h : Heap) (s : List ℕ) → Each (IsRefused h.cells (λ args call. call_given has h (Str s) args call)) string_rows
strings has h s = (
  λ args out told. looked_at h (none_refused h.cells args _ out),
  (
    λ args out told. looked_at h (none_refused h.cells args _ out),
    (
      λ args out told. refused_look h _ (one_or_two_out h.cells AnInt AnInt count_in span_in _ args (count_out h.cells) (length_out h.cells) out),
      (
        λ args out told. refused_look h _ (one_out h.cells AnInt count_in args (count_out h.cells) out),
        (
          λ args out told. refused_look h _ (one_out h.cells AnInt count_in args (count_out h.cells) out),
          (
            λ args out told. refused_look h _ (one_or_two_out h.cells AString AnInt string_in count_in _ args (string_out h.cells) (count_out h.cells) out),
            (
              λ args out told. refused_look h _ (one_out h.cells AString string_in args (string_out h.cells) out),
              (
                λ args out told. refused_look h _ (one_out h.cells AString string_in args (string_out h.cells) out),
                (
                  λ args out told. refused_look h _ (one_out h.cells AString string_in args (string_out h.cells) out),
                  (
                    λ args out told. refused_look h _ (two_out h.cells AString AString string_in string_in args (string_out h.cells) (string_out h.cells) out),
                    (
                      λ args out told. refused _ (one_out h.cells AString string_in args (string_out h.cells) out),
                      (
                        λ args out told. refused_look h _ (one_out h.cells AnArray array_in args (array_out h.cells) out),
                        (
                          λ args out told. refused_look h _ (one_out h.cells AnInt count_in args (count_out h.cells) out),
                          (
                            λ args out told. looked_at h (none_refused h.cells args _ out),
                            (
                              λ args out told. looked_at h (none_refused h.cells args _ out),
                              (
                                λ args out told. looked_at h (none_refused h.cells args _ out),
                                (
                                  λ args out told. looked_at h (none_refused h.cells args _ out),
                                  (
                                    λ args out told. looked_at h (none_refused h.cells args _ out),
                                    (
                                      λ args out told. refused_look h _ (one_out h.cells AnInt int_in args (int_out h.cells) out),
                                      tt,
                                    ),
                                  ),
                                ),
                              ),
                            ),
                          ),
                        ),
                      ),
                    ),
                  ),
                ),
              ),
            ),
          ),
        ),
      ),
    ),
  ),
)

arrays : (has : HasFunction) (h : Heap) (s : Serial) → Each (IsRefused h.cells (λ args call. call_given has h (Array s) args call)) array_rows
arrays has h s = (
  λ args out told. answered (none_refused h.cells args _ out),
  (
    λ args out told. answered (none_refused h.cells args _ out),
    (
      λ args out told. refused _ (one_out h.cells AnyValue any_in args (any_out h.cells) out),
      (
        λ args out told. refused _ (one_out h.cells AnyValue any_in args (any_out h.cells) out),
        (
          λ args out told. refused _ (one_out h.cells AnyValue any_in args (any_out h.cells) out),
          (
            λ args out told. answered (none_refused h.cells args _ out),
            (
              λ args out told. answered (none_refused h.cells args _ out),
              (
                λ args out told. answered (none_refused h.cells args _ out),
                (
                  λ args out told. answered (none_refused h.cells args _ out),
                  (
                    λ args out told. refused _ (two_out h.cells AnInt AnyValue int_in any_in args (int_out h.cells) (any_out h.cells) out),
                    (
                      λ args out told. refused _ (one_out h.cells AnInt int_in args (int_out h.cells) out),
                      (
                        λ args out told. refused _ (one_out h.cells AnyValue any_in args (any_out h.cells) out),
                        (
                          λ args out told. answered (none_refused h.cells args _ out),
                          (
                            λ args out told. refused _ (one_out h.cells AnyValue any_in args (any_out h.cells) out),
                            (
                              λ args out told. refused _ (one_out h.cells AnyValue any_in args (any_out h.cells) out),
                              (
                                λ args out told. refused _ (one_out h.cells AnyValue any_in args (any_out h.cells) out),
                                (
                                  λ args out told. refused _ (one_or_two_out h.cells AnInt AnInt int_in end_in _ args (int_out h.cells) (end_out h.cells) out),
                                  (
                                    λ args out told. answered (none_refused h.cells args _ out),
                                    (
                                      λ args out told. answered (none_refused h.cells args _ out),
                                      (
                                        λ args out told. refused _ (none_or_one_out h.cells ABool truth_in _ args (truth_out h.cells) out),
                                        (
                                          λ args out told. refused _ (one_out h.cells AnArray array_in args (array_out h.cells) out),
                                          (
                                            λ args out told. refused _ (one_out h.cells AnInt int_in args (int_out h.cells) out),
                                            (
                                              λ args out told. refused _ (one_out h.cells AnyValue any_in args (any_out h.cells) out),
                                              tt,
                                            ),
                                          ),
                                        ),
                                      ),
                                    ),
                                  ),
                                ),
                              ),
                            ),
                          ),
                        ),
                      ),
                    ),
                  ),
                ),
              ),
            ),
          ),
        ),
      ),
    ),
  ),
)

dicts : (has : HasFunction) (h : Heap) (s : Serial) → Each (IsRefused h.cells (λ args call. call_given has h (Dict s) args call)) dict_rows
dicts has h s = (
  λ args out told. answered (none_refused h.cells args _ out),
  (
    λ args out told. answered (none_refused h.cells args _ out),
    (
      λ args out told. refused _ (one_out h.cells AnyValue any_in args (any_out h.cells) out),
      (
        λ args out told. refused _ (one_or_two_out h.cells AnyValue AnyValue any_in any_in _ args (any_out h.cells) (any_out h.cells) out),
        (
          λ args out told. answered (none_refused h.cells args _ out),
          (
            λ args out told. answered (none_refused h.cells args _ out),
            (
              λ args out told. refused _ (one_out h.cells AnyValue any_in args (any_out h.cells) out),
              (
                λ args out told. answered (none_refused h.cells args _ out),
                (
                  λ args out told. refused _ (none_or_one_out h.cells ABool truth_in _ args (truth_out h.cells) out),
                  (
                    λ args out told. refused _ (one_or_two_out h.cells ADictionary ABool dict_in truth_in _ args (dict_out h.cells) (truth_out h.cells) out),
                    tt,
                  ),
                ),
              ),
            ),
          ),
        ),
      ),
    ),
  ),
)

any_admitted : (cells : List (Option Cell)) (args : List Value) → admitted cells any_values args ≡ true
any_admitted cells [] = refl
any_admitted cells (v ∷ vs) = any_admitted cells vs

any_refused : {A : Type 0} (h : Heap) (args : List Value) → admitted h.cells any_values args ≡ false → A
any_refused h args out = impossible (any_admitted h.cells args) out where
  impossible : {A : Type 0} {b : Bool} → b ≡ true → b ≡ false → A
  impossible is isnt = cc

globals : (names : Names) (h : Heap) → Each (IsRefused h.cells (λ args call. global_call names h args call)) global_rows
globals names h = (
  λ args out told. any_refused h args out,
  (
    λ args out told. any_refused h args out,
    (
      λ args out told. refused_look h _ (one_out h.cells Sized (length_of h.cells) args (sized_out h.cells) out),
      (
        λ args out told. refused _ (range_out h.cells args out),
        (
          λ args out told. refused_look h _ (one_out h.cells AnInt int_in args (int_out h.cells) out),
          (
            λ args out told. refused_look h _ (most_out h.cells smaller args out),
            (
              λ args out told. refused_look h _ (most_out h.cells larger args out),
              (
                λ args out told. refused_look h _ (three_out h.cells args out),
                (
                  λ args out told. refused_look h _ (one_out h.cells AnInt int_in args (int_out h.cells) out),
                  (
                    λ args out told. refused_look h _ (two_out h.cells AnInt AnInt int_in int_in args (int_out h.cells) (int_out h.cells) out),
                    (
                      λ args out told. refused_look h _ (two_out h.cells AnInt AnInt int_in int_in args (int_out h.cells) (int_out h.cells) out),
                      (
                        λ args out told. refused_look h _ (three_out h.cells args out),
                        (
                          λ args out told. refused_look h _ (two_out h.cells AnInt AnInt int_in int_in args (int_out h.cells) (int_out h.cells) out),
                          (
                            λ args out told. refused_look h _ (one_out h.cells AnObject object_in args (object_out h.cells) out),
                            (
                              λ args out told. refused_look h _ (one_out h.cells AnyValue any_in args (any_out h.cells) out),
                              tt,
                            ),
                          ),
                        ),
                      ),
                    ),
                  ),
                ),
              ),
            ),
          ),
        ),
      ),
    ),
  ),
)

callables : (has : HasFunction) (h : Heap) (s : Serial) (m : List ℕ) → Each (IsRefused h.cells (λ args call. call_given has h (Callable s m) args call)) callable_rows
callables has h s m = (
  λ args out told. any_refused h args out,
  (
    λ args out told. looked_at h (none_refused h.cells args _ out),
    tt,
  ),
)

weak_refs : (has : HasFunction) (h : Heap) (s : Serial) → Each (IsRefused h.cells (λ args call. call_given has h (Weak s) args call)) weak_ref_rows
weak_refs has h s = ((λ args out told. looked_at h (none_refused h.cells args _ out)), tt)

-- what is refused of a call that takes no arguments
not_none : (b : Bool) (args : List Value) (cells : List (Option Cell)) → admitted cells no_params args ≡ false → (b || (if is_none_given args then false else true)) ≡ true
not_none true args cells out = refl
not_none false [] cells out = cc
not_none false (v ∷ vs) cells out = refl

freed : (h : Heap) (s : Serial) (args : List Value) → admitted h.cells no_params args ≡ false → free_refusal h.cells s args ≡ Some (Err BadArgs)
freed h s args out = rw (not_none (list_any is_ref_counted (lineage_of (cell_at h.cells s.0))) args h.cells out) refl

objects : (has : HasFunction) (h : Heap) (s : Serial) → Each (IsRefused h.cells (λ args call. call_given has h (Object s) args call)) object_rows
objects has h s = ((λ args out told. freed h s args out), tt)

-- rows whose calls are not told
nodes : (has : HasFunction) (h : Heap) (v : Value) → Each (IsRefused h.cells (λ args call. call_given has h v args call)) node_rows
nodes has h v = (
  λ args out told. cc,
  (
    λ args out told. cc,
    (
      λ args out told. cc,
      (
        λ args out told. cc,
        (
          λ args out told. cc,
          (
            λ args out told. cc,
            tt,
          ),
        ),
      ),
    ),
  ),
)

signals : (has : HasFunction) (h : Heap) (v : Value) → Each (IsRefused h.cells (λ args call. call_given has h v args call)) signal_rows
signals has h v = (
  λ args out told. cc,
  (
    λ args out told. cc,
    (
      λ args out told. cc,
      (
        λ args out told. any_refused h args out,
        tt,
      ),
    ),
  ),
)

scenes : (has : HasFunction) (h : Heap) (v : Value) → Each (IsRefused h.cells (λ args call. call_given has h v args call)) scene_rows
scenes has h v = ((λ args out told. cc), tt)

classes : (has : HasFunction) (h : Heap) (v : Value) → Each (IsRefused h.cells (λ args call. call_given has h v args call)) class_rows
classes has h v = ((λ args out told. cc), tt)

-- ---- by names

abbrev IsRefusing : HasFunction → Heap → Value → Row → Type 0
IsRefusing has h v row = IsRefused h.cells (λ args call. call_given has h v args call) row

found_in : (has : HasFunction) (h : Heap) (v : Value) (rows : List Row) (name : List ℕ) (row : Row) → Each (IsRefusing has h v) rows → first_row (row_named rows name) None ≡ Some row → IsRefusing has h v row
found_in has h v rows name row all is = row_found (IsRefusing has h v) rows name row all (first_is (first_only (row_named rows name)) is) where
  first_is : {A : Type 0} {x y z : A} → x ≡ y → x ≡ z → y ≡ z
  first_is p q = rw p at q

in_either : (has : HasFunction) (h : Heap) (v : Value) (first other : Option Row) (row : Row) → (first ≡ Some row → IsRefusing has h v row) → (other ≡ Some row → IsRefusing has h v row) → first_row first other ≡ Some row → IsRefusing has h v row
in_either has h v (Some one) other row f g is = f is
in_either has h v None other row f g is = g is

object_found : (has : HasFunction) (h : Heap) (s : Serial) (name : List ℕ) (row : Row) (is_node : Bool) → row_among (object_kinds is_node) name ≡ Some row → IsRefusing has h (Object s) row
unfolding rows_of
object_found has h s name row true is =
    in_either has h (Object s) (row_named node_rows name) (first_row (row_named object_rows name) None) row (row_found (IsRefusing has h (Object s)) node_rows name row (nodes has h (Object s)))
    (found_in has h (Object s) object_rows name row (objects has h s)) is
object_found has h s name row false is = found_in has h (Object s) object_rows name row (objects has h s) is

value_found : (has : HasFunction) (h : Heap) (v : Value) (name : List ℕ) (row : Row) → row_of h.cells v name ≡ Some row → IsRefusing has h v row
unfolding rows_of
value_found has h (Str s) name row is = found_in has h (Str s) string_rows name row (strings has h s) is
value_found has h (Array s) name row is = found_in has h (Array s) array_rows name row (arrays has h s) is
value_found has h (Dict s) name row is = found_in has h (Dict s) dict_rows name row (dicts has h s) is
value_found has h (Callable s m) name row is = found_in has h (Callable s m) callable_rows name row (callables has h s m) is
value_found has h (Weak s) name row is = found_in has h (Weak s) weak_ref_rows name row (weak_refs has h s) is
value_found has h (Signal s m) name row is = found_in has h (Signal s m) signal_rows name row (signals has h (Signal s m)) is
value_found has h (Scene f p) name row is = found_in has h (Scene f p) scene_rows name row (scenes has h (Scene f p)) is
value_found has h (Class c) name row is = found_in has h (Class c) class_rows name row (classes has h (Class c)) is
value_found has h (Object s) name row is = object_found has h s name row (list_any is_node_class (lineage_of (cell_at h.cells s.0))) is
value_found has h v name row is = cc

pub method_refused : (has : HasFunction) (h : Heap) (v : Value) (name : List ℕ) (row : Row) (args : List Value) → access_fault h.cells v ≡ None → row_of h.cells v name ≡ Some row → is_some row.call ≡ true → admitted h.cells row.params args ≡ false → method_native has h v name args ≡ Some (Err BadArgs)
method_refused has h v name row args accessed is told out = rw accessed (rw is (value_found has h v name row is args out told))

pub global_refused : (names : Names) (h : Heap) (name : List ℕ) (row : Row) (args : List Value) → row_in GlobalFunctions name ≡ Some row → is_some row.call ≡ true → admitted h.cells row.params args ≡ false → global_native names h name args ≡ Some (Err BadArgs)
unfolding rows_of
global_refused names h name row args is told out = rw is (row_found (IsRefused h.cells (λ args call. global_call names h args call)) global_rows name row (globals names h) is args out told)

-- ---- no row, no method

pub method_missing : (has : HasFunction) (h : Heap) (v : Value) (name : List ℕ) (args : List Value) → access_fault h.cells v ≡ None → row_of h.cells v name ≡ None → method_native has h v name args ≡ Some (Err NoMethod)
method_missing has h v name args accessed is = rw accessed (rw is refl)

pub global_missing : (names : Names) (h : Heap) (name : List ℕ) (args : List Value) → row_in GlobalFunctions name ≡ None → global_native names h name args ≡ Some (Err NoMethod)
global_missing names h name args is = rw is refl
