use Rattle.std.proofs.Common.{◌≡◌, ◌<◌, ◌≤◌, ◌-◌, ℕ, List, length, get_or, take, ap, sym, subst, ◌∙◌, arith}
use Rattle.std.specs.Str.{IsUtf8}
use Rattle.std.proofs.lemmas.Str.{IsUtf8-take, IsCharBoundary-before_ascii}
use Rattle.variant_values.specs.StringMethods.{without_back}
use Rattle.string_calls.proofs.Numerals.{back_step, back_end}
use Rattle.string_calls.proofs.edges.without_back.Goals as goal

pub loop-rest-preserved : goal.loop-rest-preserved
loop-rest-preserved c =
    let rest : List ℕ = c.loop-rest.rest.now in
    let last : ℕ = length rest - 1 in
    let some : 0 < length rest = omega arith in
    let low : get_or rest last 0 ≤ 32 = omega (arith, ap (λ t. get_or t last 0) c.as_bytes.ensures.value) in
    record {
      utf8 = subst IsUtf8 (sym c.split_at.ensures.front) (IsUtf8-take rest last c.loop-rest.invariant.utf8 (IsCharBoundary-before_ascii rest last (omega arith) (omega arith)));
      same = ap without_back c.split_at.ensures.front ∙ back_step rest some low ∙ c.loop-rest.invariant.same;
    }

pub returns-else-as_bytes-rest-le32 : goal.returns-else-as_bytes-rest-le32
returns-else-as_bytes-rest-le32 c =
    let rest : List ℕ = c.loop-rest.rest.now in
    let last : ℕ = length rest - 1 in
    let some : 0 < length rest = omega arith in
    let high : 32 < get_or rest last 0 = omega (arith, ap (λ t. get_or t last 0) c.as_bytes.ensures.value) in
    back_end rest some high ∙ c.loop-rest.invariant.same
