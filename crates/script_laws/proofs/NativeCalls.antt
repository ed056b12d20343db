-- Native calls give what is known.
use Rattle.std.proofs.Common.{◌≡◌, ℕ, zero, suc, ℤ, ◌+ℤ◌, Bool, true, false, cond, List, [], ◌∷◌, map, refl, Option, Some, None, Result, Ok, Err}
use Rattle.std.specs.Prelude.{All, chars, if◌then◌else◌}
use Rattle.std.specs.List.{AllByRecursion}
use Rattle.std.proofs.lemmas.List.Elements.{All-nil, All-cons, All-head, All-tail}
use Rattle.variant_values.specs.declared.cells.Cell.{Cell}
use Rattle.variant_values.specs.declared.cells.Cell.TheVariants.{Array as ArrayCell, Dict as DictCell, Object as ObjectCell}
use Rattle.variant_values.specs.declared.cells.Connection.{Connection}
use Rattle.variant_values.specs.declared.faults.RunFault.{RunFault}
use Rattle.variant_values.specs.declared.faults.RunFault.TheVariants.{BadArgs, FreedAccess, TooLong}
use Rattle.variant_values.specs.declared.values.Serial.{Serial}
use Rattle.variant_values.specs.declared.values.Value.{Value}
use Rattle.variant_values.specs.declared.values.Value.TheVariants.{Null, Bool as Truth, Int, Str, Array, Dict, Object, Callable, Signal, Weak}
use Rattle.variant_values.specs.Changes.{Given, looked}
use Rattle.variant_values.specs.ContainerCalls.{array_call_of, dict_call_of}
use Rattle.variant_values.specs.Heaps.{Heap, cell_at, is_living, knows, knows_object, KnowsAll, KnowsSlot}
use Rattle.variant_values.specs.Links.{connections_of, targets_of}
use Rattle.variant_values.specs.Operators.{Outcome, same_text}
use Rattle.variant_values.specs.StringMethods.{string_call_of, with_given}
use Rattle.variant_values.specs.ValueTexts.{Names}
use Rattle.native_calls.specs.Globals.{joined_text, numbers_from, object_in, printed_line, range_array, range_value, span_in, texts_of, weak_value, Span}
use Rattle.native_calls.specs.Natives.{Gives, Prints, GoesOn, Emits, Enters, Instantiates, Native, HasFunction, access_fault, call_given, from_given, from_look, from_text, global_call, global_given, global_native, global_row_given, method_given, method_native, referred, row_given, row_of, unless_refused}
use Rattle.native_calls.specs.Table.{GlobalFunctions, GlobalFunction, Print, Text, Range, WeakRef, NativeCall, CallsGlobal, CallsString, CallsArray, CallsDict, CallsCallable, AsksValid, EmitsSignal, GetsRef, FreesObject, Row, row_in}
use Rattle.script_laws.specs.Cells.{AreKnown, Fits, IsGrown, Knows, Tells}
use Rattle.script_laws.specs.Knowing.{Stays}
use Rattle.script_laws.proofs.CallRules.{fits_array, fits_counted, fits_given, fits_looked, tells, tells_err, tells_if, tells_ok}
use Rattle.script_laws.proofs.ValueCalls.{array_fits, dict_fits, string_fits}

-- a target of a signal, which stays known whatever is held
abbrev pub IsTarget : List (Option Cell) → Value → Type 0
IsTarget cells t = Knows cells t × ((held : List Value) → Stays held t)

-- What a native call gives from a heap, where its arguments have a property: those that are passed on have it too.
abbrev pub IsKnownAnswer : (Value → Type 0) → Heap → Option Native → Type 0
IsKnownAnswer Has h None = Unit {0}
IsKnownAnswer Has h (Some (Err kind)) = Unit {0}
IsKnownAnswer Has h (Some (Ok (Gives v g))) = IsGrown h.cells g.cells × AreKnown g.cells × Knows g.cells v
IsKnownAnswer Has h (Some (Ok (Prints text))) = Unit {0}
IsKnownAnswer Has h (Some (Ok (GoesOn of name vs))) = Knows h.cells of × AllByRecursion Has vs
IsKnownAnswer Has h (Some (Ok (Emits targets vs))) = AllByRecursion (IsTarget h.cells) targets × AllByRecursion Has vs
IsKnownAnswer Has h (Some (Ok (Enters node g))) = Unit {0}
IsKnownAnswer Has h (Some (Ok (Instantiates file))) = Unit {0}

module _ (Has : Value → Type 0) (h : Heap) (k : AreKnown h.cells) where
  from : (given : Given) → Fits Knows h given → IsKnownAnswer Has h (Some (from_given given))
  from (Ok (v, g)) s = s.fits
  from (Err fault) s = tt

  look : (o : Outcome) → Tells h.cells o → IsKnownAnswer Has h (Some (from_look h o))
  look o t = from (looked h o) (fits_looked h o k t)

  -- ---- methods

  on_if : (b : Bool) (s : Serial) (m : List ℕ) (args : List Value) → knows h.cells (Object s) ≡ true → AllByRecursion Has args → IsKnownAnswer Has h (Some (if b then Ok (GoesOn (Object s) (chars m) args) else Err FreedAccess))
  on_if true s m args n has = (n, has)
  on_if false s m args n has = tt

  refused_if : (b : Bool) → IsKnownAnswer Has h (if b then Some (Err BadArgs) else None)
  refused_if true = tt
  refused_if false = tt

  referred_if : (b : Bool) (s : Serial) → knows h.cells (Object s) ≡ true → knows h.cells (if b then Object s else Null) ≡ true
  referred_if true s n = n
  referred_if false s n = refl

  links_known : (s : Option Cell) → KnowsSlot h.cells s → All (λ c. knows_object h.cells c.target ≡ true) (connections_of s)
  links_known None n = All-nil (λ c. knows_object h.cells c.target ≡ true)
  links_known (Some (ArrayCell vs of)) n = All-nil (λ c. knows_object h.cells c.target ≡ true)
  links_known (Some (DictCell es)) n = All-nil (λ c. knows_object h.cells c.target ≡ true)
  links_known (Some (ObjectCell o)) n = n.1

  target_if : (b : Bool) (c : Connection) (ts : List (Serial × List ℕ)) → knows_object h.cells c.target ≡ true → AllByRecursion (IsTarget h.cells) (map (λ t. Callable t.0 t.1) ts) → AllByRecursion (IsTarget h.cells) (map (λ t. Callable t.0 t.1) (cond b ((c.target, c.method) ∷ ts) ts))
  target_if true c ts n r = ((n, λ held. tt), r)
  target_if false c ts n r = r

  targets : (signal : List ℕ) (cs : List Connection) → All (λ c. knows_object h.cells c.target ≡ true) cs → AllByRecursion (IsTarget h.cells) (map (λ t. Callable t.0 t.1) (targets_of signal cs))
  targets signal [] n = tt
  targets signal (c ∷ cs) n = target_if (same_text c.signal signal) c (targets_of signal cs) (All-head (λ c. knows_object h.cells c.target ≡ true) c cs n) (targets signal cs (All-tail (λ c. knows_object h.cells c.target ≡ true) c cs n))

  module _ (has : HasFunction) (args : List Value) (a : KnowsAll h.cells args) (passed : AllByRecursion Has args) where
    method_answers : (v : Value) (call : NativeCall) → knows h.cells v ≡ true → IsKnownAnswer Has h (method_given has h v call args)
    method_answers (Str s) (CallsString m) n = from (string_call_of h m s args) (string_fits h k m s args)
    method_answers (Array s) (CallsArray m) n = from (array_call_of h m s args) (array_fits h k m s args n a)
    method_answers (Dict s) (CallsDict m) n = from (dict_call_of h m s args) (dict_fits h k m s args n a)
    method_answers (Callable s m) CallsCallable n = on_if (is_living h.cells s.0) s m args n passed
    method_answers (Callable s m) AsksValid n = look _ (tells_if h.cells _ _ _ (tells_ok h.cells (Truth _) refl) (tells_err h.cells BadArgs))
    method_answers (Signal s name) EmitsSignal n = (targets name (connections_of (cell_at h.cells s.0)) (links_known (cell_at h.cells s.0) (k.each s.0)), passed)
    method_answers (Weak s) GetsRef n = look _ (tells_if h.cells _ _ _ (tells_ok h.cells (referred h.cells s) (referred_if (is_living h.cells s.0) s n)) (tells_err h.cells BadArgs))
    method_answers (Object s) FreesObject n = refused_if _
    method_answers v call n = tt

    call_answers : (v : Value) (call : Option NativeCall) → knows h.cells v ≡ true → IsKnownAnswer Has h (call_given has h v args call)
    call_answers v None n = tt
    call_answers v (Some call) n = method_answers v call n

    row_answers : (v : Value) (row : Option Row) → knows h.cells v ≡ true → IsKnownAnswer Has h (row_given has h v args row)
    row_answers v None n = tt
    row_answers v (Some row) n = call_answers v row.call n

    unless : (o : Option RunFault) (given : Option Native) → IsKnownAnswer Has h given → IsKnownAnswer Has h (unless_refused o given)
    unless None given g = g
    unless (Some fault) given g = tt

    pub method_known : (v : Value) (name : List ℕ) → knows h.cells v ≡ true → IsKnownAnswer Has h (method_native has h v name args)
    method_known v name n = unless (access_fault h.cells v) (row_given has h v args (row_of h.cells v name)) (row_answers v (row_of h.cells v name) n)

  -- ---- global functions

  printed : (r : Result (List ℕ) RunFault) → IsKnownAnswer Has h (Some (from_text (printed_line r)))
  printed (Ok text) = tt
  printed (Err fault) = tt

  tells_joined : (r : Result (List ℕ) RunFault) → Tells h.cells (joined_text r)
  tells_joined (Ok text) = tells_if h.cells _ _ _ (tells_ok h.cells (Str text) refl) (tells_err h.cells TooLong)
  tells_joined (Err fault) = tells_err h.cells fault

  numbers_known : (n by : ℤ) (count : ℕ) → KnowsAll h.cells (numbers_from n by count)
  numbers_known n by zero = All-nil (Knows h.cells)
  numbers_known n by (suc count) = All-cons (Knows h.cells) (Int n) (numbers_from (n +ℤ by) by count) refl (numbers_known (n +ℤ by) by count)

  range_fits : (s : Span) → Fits Knows h (range_array h s)
  range_fits s = fits_counted Knows h s.count _ (fits_array h k (numbers_from s.first s.by s.count) None (numbers_known s.first s.by s.count))

  weak_by : (v : Value) → knows h.cells v ≡ true → Tells h.cells (with_given (object_in v) (λ s. Ok (Weak s)))
  weak_by (Object s) n = tells_ok h.cells (Weak s) n
  weak_by v n = tells_err h.cells BadArgs

  tells_weak : (args : List Value) → KnowsAll h.cells args → Tells h.cells (weak_value args)
  tells_weak [] a = tells_err h.cells BadArgs
  tells_weak (v ∷ []) a = weak_by v (All-head (Knows h.cells) v [] a)
  tells_weak (v ∷ w ∷ vs) a = tells_err h.cells BadArgs

  module _ (names : Names) (args : List Value) (a : KnowsAll h.cells args) where
    global_answers : (f : GlobalFunction) → IsKnownAnswer Has h (Some (global_given names h f args))
    global_answers Print = printed (texts_of h.cells names args)
    global_answers Text = look _ (tells_joined (texts_of h.cells names args))
    global_answers Range = from (range_value h args) (fits_given Knows h (span_in args) (range_array h) range_fits)
    global_answers WeakRef = look (weak_value args) (tells_weak args a)
    global_answers f = look _ (search tells)

    call_of : (call : Option NativeCall) → IsKnownAnswer Has h (global_call names h args call)
    call_of (Some (CallsGlobal f)) = global_answers f
    call_of call = tt

    row_of_global : (row : Option Row) → IsKnownAnswer Has h (global_row_given names h args row)
    row_of_global None = tt
    row_of_global (Some row) = call_of row.call

    pub global_known : (name : List ℕ) → IsKnownAnswer Has h (global_native names h name args)
    global_known name = row_of_global (row_in GlobalFunctions name)
