-- Where no bad instruction is found, each one is well.
use Rattle.std.proofs.Common.{◌≡◌, ℕ, zero, suc, ◌+◌, Bool, true, false, not, List, [], ◌∷◌, ◌++◌, refl, sym, ap, ◌∙◌, arith}
use Rattle.std.specs.Prelude.{Some, None, slice_get}
use Rattle.std.proofs.lemmas.Option.{none-some}
use Rattle.std.specs.List.{position_from}
use Rattle.gd_bytecode.specs.declared.file_code.Code.{Code}
use Rattle.gd_bytecode.specs.declared.file_code.FunctionCode.{FunctionCode}
use Rattle.gd_bytecode.specs.declared.instructions.Op.{Op}
use Rattle.gd_bytecode.specs.Checks.{first_bad, is_truth, is_well, judged, judged_all}
use Rattle.gd_bytecode.specs.CodeLaws.{EachIsWell}

none_in_front : (i : ℕ) (xs ys : List Bool) → position_from is_truth i (xs ++ ys) ≡ None → position_from is_truth i xs ≡ None
none_in_front i [] ys h = refl
none_in_front i (true ∷ xs) ys h = absurd (none-some i (sym h))
none_in_front i (false ∷ xs) ys h = none_in_front (i + 1) xs ys h

none_behind : (i : ℕ) (xs ys : List Bool) → position_from is_truth i (xs ++ ys) ≡ None → (j : ℕ) × (position_from is_truth j ys ≡ None)
none_behind i [] ys h = (i, h)
none_behind i (true ∷ xs) ys h = absurd (none-some i (sym h))
none_behind i (false ∷ xs) ys h = none_behind (i + 1) xs ys h

some_same : {A : Type 0} {x y : A} → Some x ≡ Some y → x ≡ y
some_same {A} {x} {y} h = ap (λ o. elim o [ Some z ↦ z | None ↦ x ]) h

well_by : (b : Bool) (i : ℕ) (rest : List Bool) → position_from is_truth i (not b ∷ rest) ≡ None → (b ≡ true) × (position_from is_truth (i + 1) rest ≡ None)
well_by true i rest h = (refl, h)
well_by false i rest h = absurd (none-some i (sym h))

well_in : (code : Code) (f : FunctionCode) (i from at : ℕ) (ops : List Op) (op : Op) → position_from is_truth i (judged code f from ops) ≡ None → slice_get ops at ≡ Some op → is_well code f (from + at) op.instr ≡ true
well_in code f i from at [] op h here = absurd (none-some op here)
well_in code f i from zero (o ∷ ops) op h here =
    let same : from + 0 ≡ from = omega arith in
    ap (λ n. is_well code f n op.instr) same ∙ ap (λ (x : Op). is_well code f from x.instr) (sym (some_same here)) ∙ (well_by (is_well code f from o.instr) i (judged code f (from + 1) ops) h).0
well_in code f i from (suc at) (o ∷ ops) op h here =
    let same : from + suc at ≡ from + 1 + at = omega arith in
    ap (λ n. is_well code f n op.instr) same ∙ well_in code f (i + 1) (from + 1) at ops op (well_by (is_well code f from o.instr) i (judged code f (from + 1) ops) h).1 here

well_at : (code : Code) (i at : ℕ) (fs : List FunctionCode) (f : FunctionCode) (op : Op) (j : ℕ) → position_from is_truth j (judged_all code fs) ≡ None → slice_get fs i ≡ Some f → slice_get f.ops at ≡ Some op → is_well code f at op.instr ≡ true
well_at code i at [] f op j h here there = absurd (none-some f here)
well_at code zero at (g ∷ fs) f op j h here there =
    let same : at ≡ 0 + at = omega arith in
    ap (λ (x : FunctionCode). is_well code x at op.instr) (sym (some_same here)) ∙ ap (λ n. is_well code g n op.instr) same
    ∙ well_in code g j 0 at g.ops op (none_in_front j (judged code g 0 g.ops) (judged_all code fs) h) (ap (λ (x : FunctionCode). slice_get x.ops at) (some_same here) ∙ there)
well_at code (suc i) at (g ∷ fs) f op j h here there = well_at code i at fs f op (none_behind j (judged code g 0 g.ops) (judged_all code fs) h).0 (none_behind j (judged code g 0 g.ops) (judged_all code fs) h).1 here there

pub each_is_well : (code : Code) → first_bad code ≡ None → EachIsWell code
each_is_well code h i at f op here there = well_at code i at code.functions f op 0 h here there
