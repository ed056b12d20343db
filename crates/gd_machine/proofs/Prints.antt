-- Statements one after the other.
use Rattle.std.proofs.Common.{◌≡◌, ℕ, ◌+◌, ◌-◌, ◌<◌, ◌≤◌, List, [], ◌∷◌, ◌++◌, map, take, drop, drop-cons, length, get_or, refl, sym, ap, ◌∙◌, arith, append_assoc, suc, zero}
use Rattle.std.proofs.lemmas.List.{map-append, take_more, take-append-drop, take-take, take-map}
use Rattle.host_io.specs.Sink.{SinkState}
use Rattle.host_io.specs.Pieces.{WroteAll}
use Rattle.host_io.proofs.Pieces.{wrote_then, failed_then, failed_more, first_then, first_more}
use Rattle.gd_syntax.specs.declared.first.FirstPrint.{FirstPrint}
use Rattle.gd_syntax.specs.FirstScript.{print_of}
use Rattle.gd_syntax.specs.FirstRun.{print_text, end_before, spent}
use Rattle.gd_machine.specs.Pieces.{printed_pieces, HasStopped}
use Rattle.gd_machine.specs.declared.machine.Stop.{Stop}
use Rattle.gd_machine.specs.declared.machine.Stop.TheVariants.{SinkFault, NoMemory}

drop-map : (n : ℕ) (prints : List FirstPrint) → drop n (map print_of prints) ≡ map print_of (drop n prints)
drop-map zero prints = refl
drop-map (suc n) [] = refl
drop-map (suc n) (print ∷ prints) = drop-map n prints

-- the pieces of these statements
abbrev pub pieces_of : List FirstPrint → List (List ℕ)
pieces_of prints = map print_text (map print_of prints)

module _ (prints : List FirstPrint) (i : ℕ) where
  -- the statements so far are those that have steps
  pub so_far : (steps : ℕ) → i + 1 ≡ steps → pieces_of (take i prints) ≡ printed_pieces (map print_of prints) steps
  so_far steps count =
      let same : steps - 1 ≡ i = omega arith in
      rw same (ap (map print_text) (sym (take-map print_of i prints)))

  module _ (print : FirstPrint) (within : i < length prints) (is : print ≡ get_or prints i print) where
    -- the next statement finds no step
    pub spent_at : (steps : ℕ) → i + 1 ≡ steps → end_before (1 + length (map print_of prints)) steps (drop (steps - 1) (map print_of prints)) ≡ spent print.line steps
    spent_at steps count =
        let same : steps - 1 ≡ i = omega arith in
        rw (same, drop-map i prints, drop-cons prints i print, ← is) refl

    -- one statement more
    more : pieces_of (take (i + 1) prints) ≡ pieces_of (take i prints) ++ print_text (print_of print) ∷ []
    more =
        let step : take (i + 1) prints ≡ take i prints ++ print ∷ [] = rw (take_more prints i print within, ← is) refl in
        ap pieces_of step ∙ ap (map print_text) (map-append print_of (take i prints) (print ∷ [])) ∙ map-append print_text (map print_of (take i prints)) (print_of print ∷ [])

    pub wrote_more : (old mid new : SinkState) → WroteAll old mid (pieces_of (take i prints)) → WroteAll mid new (print_text (print_of print) ∷ []) → WroteAll old new (pieces_of (take (i + 1) prints))
    wrote_more old mid new before one = rw more (wrote_then old mid new _ _ before one)

    -- the next statement's piece, and those after it
    parts : (n : ℕ) → i + 1 ≤ n → map print_text (take n (map print_of prints)) ≡ pieces_of (take i prints) ++ (print_text (print_of print) ∷ map print_text (drop (i + 1) (take n (map print_of prints))))
    parts n enough =
        let all = map print_of prints in
        let front : take (i + 1) (take n all) ≡ map print_of (take i prints) ++ print_of print ∷ [] =
        take-take (i + 1) n all enough ∙ take-map print_of (i + 1) prints ∙ ap (map print_of) (take_more prints i print within) ∙ map-append print_of (take i prints) (get_or prints i print ∷ []) ∙ ap (λ p. map print_of (take i prints) ++ print_of p ∷ []) (sym is) in
        let whole = sym (take-append-drop (i + 1) (take n all)) in
        let back = map print_text (drop (i + 1) (take n all)) in
        ap (map print_text) whole ∙ map-append print_text (take (i + 1) (take n all)) (drop (i + 1) (take n all))
        ∙ ap (λ xs. map print_text xs ++ back) front
        ∙ ap (λ xs. xs ++ back) (map-append print_text (map print_of (take i prints)) (print_of print ∷ []))
        ∙ simp append_assoc

    -- the next statement was not run to its end
    pub print_cut : (steps : ℕ) → i + 1 < steps → (old mid new : SinkState) (stop : Stop) → WroteAll old mid (pieces_of (take i prints)) → HasStopped mid new (print_text (print_of print) ∷ []) stop → HasStopped old new (printed_pieces (map print_of prints) steps) stop
    print_cut steps enough old mid new SinkFault before put =
        rw (parts (steps - 1) (omega arith)) (failed_then old mid new (pieces_of (take i prints)) _ before (failed_more mid new (print_text (print_of print) ∷ []) _ put))
    print_cut steps enough old mid new NoMemory before put =
        rw (parts (steps - 1) (omega arith)) (first_then old mid new (pieces_of (take i prints)) _ before (first_more mid new (print_text (print_of print) ∷ []) _ put))
