use Rattle.std.proofs.Common.{◌∙◌}
use Rattle.string_calls.proofs.Cuts.{cut_at}
use Rattle.string_calls.proofs.searches.split_chars.Goals as goal

pub overflow_sub-text : goal.overflow_sub-text
overflow_sub-text c = (cut_at c.args.text.now c.rest_after-rest.result.now c.args.n c.utf8.text c.rest_after-rest.utf8 c.rest_after-rest.ensures).short

pub split_at-requires : goal.split_at-requires
split_at-requires c = (cut_at c.args.text.now c.rest_after-rest.result.now c.args.n c.utf8.text c.rest_after-rest.utf8 c.rest_after-rest.ensures).boundary

pub returns-clause-front : goal.returns-clause-front
returns-clause-front c = c.split_at.ensures.front ∙ (cut_at c.args.text.now c.rest_after-rest.result.now c.args.n c.utf8.text c.rest_after-rest.utf8 c.rest_after-rest.ensures).front

pub returns-clause-back : goal.returns-clause-back
returns-clause-back c = c.split_at.ensures.back ∙ (cut_at c.args.text.now c.rest_after-rest.result.now c.args.n c.utf8.text c.rest_after-rest.utf8 c.rest_after-rest.ensures).back
