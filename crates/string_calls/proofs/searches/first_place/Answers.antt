use Rattle.std.proofs.Common.{◌≡◌, ℕ, List, Option, subst}
use Rattle.memchr.specs.Find.{FindsNeedle}
use Rattle.string_calls.proofs.Needles.{needle_is_place, needle_starts, needle_ends, needle_within}
use Rattle.string_calls.proofs.searches.first_place.Goals as goal

-- what the search of bytes says of the texts
finds : (text other what needle : List ℕ) (r : Option ℕ) → other ≡ text → needle ≡ what → FindsNeedle other needle 0 r → FindsNeedle text what 0 r
finds text other what needle r same alike h = subst (λ t. FindsNeedle t what 0 r) same (subst (λ w. FindsNeedle other w 0 r) alike h)

pub returns-clause-place : goal.returns-clause-place
returns-clause-place c = needle_is_place c.args.text.now c.args.what.now c.find.result (finds _ _ _ _ c.find.result c.as_bytes.ensures.value c.as_bytes-2.ensures.value c.find.ensures)

pub returns-clause-start : goal.returns-clause-start
returns-clause-start c = needle_starts c.args.text.now c.args.what.now c.find.result c.utf8.text c.utf8.what (finds _ _ _ _ c.find.result c.as_bytes.ensures.value c.as_bytes-2.ensures.value c.find.ensures)

pub returns-clause-end : goal.returns-clause-end
returns-clause-end c = needle_ends c.args.text.now c.args.what.now c.find.result c.utf8.text c.utf8.what (finds _ _ _ _ c.find.result c.as_bytes.ensures.value c.as_bytes-2.ensures.value c.find.ensures)

pub returns-clause-within : goal.returns-clause-within
returns-clause-within c = needle_within c.args.text.now c.args.what.now c.find.result (finds _ _ _ _ c.find.result c.as_bytes.ensures.value c.as_bytes-2.ensures.value c.find.ensures)
