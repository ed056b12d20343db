use Rattle.std.proofs.Common.{◌≡◌, ap, subst, sym, ◌∙◌, take, chars}
use Rattle.variant_values.specs.Operators.{Answers}
use Rattle.variant_values.specs.StringMethods.{made, spelled, span_at}
use Rattle.string_calls.proofs.Cuts.{chars_behind}
use Rattle.string_calls.proofs.methods.span_at.Goals as goal

pub returns-in-Some : goal.returns-in-Some
returns-in-Some c =
    let cut : c.split_chars-in-Some.result.0.now ≡ spelled (span_at c.args.from c.args.span (chars c.args.text.now)) =
    c.split_chars-in-Some.ensures.front
    ∙ ap (λ cs. spelled (take c.in-Some.n cs)) (chars_behind c.args.text.now c.split_chars.result.1.now c.args.from c.utf8.text c.split_chars.ensures.back)
    ∙ sym (ap (λ span. spelled (span_at c.args.from span (chars c.args.text.now))) c.in-Some.is) in
    subst (λ t. Answers c.made-in-Some.result (made t)) cut c.made-in-Some.ensures
