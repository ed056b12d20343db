use Rattle.std.proofs.Common.{ap}
use Rattle.native_calls.specs.Table.{StringMethods, rows_of}
use Rattle.machine_calls.specs.Answers.{call_named}
use Rattle.machine_calls.proofs.Rows.{not_named}
use Rattle.machine_calls.proofs.names.string_method.Goals as goal

pub returns-in-length : goal.returns-in-length
unfolding rows_of
returns-in-length c = ap (call_named StringMethods) c.in-length.is

pub returns-in-is_empty : goal.returns-in-is_empty
unfolding rows_of
returns-in-is_empty c = ap (call_named StringMethods) c.in-is_empty.is

pub returns-in-substr : goal.returns-in-substr
unfolding rows_of
returns-in-substr c = ap (call_named StringMethods) c.in-substr.is

pub returns-in-left : goal.returns-in-left
unfolding rows_of
returns-in-left c = ap (call_named StringMethods) c.in-left.is

pub returns-in-right : goal.returns-in-right
unfolding rows_of
returns-in-right c = ap (call_named StringMethods) c.in-right.is

pub returns-in-find : goal.returns-in-find
unfolding rows_of
returns-in-find c = ap (call_named StringMethods) c.in-find.is

pub returns-in-contains : goal.returns-in-contains
unfolding rows_of
returns-in-contains c = ap (call_named StringMethods) c.in-contains.is

pub returns-in-begins_with : goal.returns-in-begins_with
unfolding rows_of
returns-in-begins_with c = ap (call_named StringMethods) c.in-begins_with.is

pub returns-in-ends_with : goal.returns-in-ends_with
unfolding rows_of
returns-in-ends_with c = ap (call_named StringMethods) c.in-ends_with.is

pub returns-in-replace : goal.returns-in-replace
unfolding rows_of
returns-in-replace c = ap (call_named StringMethods) c.in-replace.is

pub returns-in-split : goal.returns-in-split
unfolding rows_of
returns-in-split c = ap (call_named StringMethods) c.in-split.is

pub returns-in-join : goal.returns-in-join
unfolding rows_of
returns-in-join c = ap (call_named StringMethods) c.in-join.is

pub returns-in-repeat : goal.returns-in-repeat
unfolding rows_of
returns-in-repeat c = ap (call_named StringMethods) c.in-repeat.is

pub returns-in-to_upper : goal.returns-in-to_upper
unfolding rows_of
returns-in-to_upper c = ap (call_named StringMethods) c.in-to_upper.is

pub returns-in-to_lower : goal.returns-in-to_lower
unfolding rows_of
returns-in-to_lower c = ap (call_named StringMethods) c.in-to_lower.is

pub returns-in-strip_edges : goal.returns-in-strip_edges
unfolding rows_of
returns-in-strip_edges c = ap (call_named StringMethods) c.in-strip_edges.is

pub returns-in-is_valid_int : goal.returns-in-is_valid_int
unfolding rows_of
returns-in-is_valid_int c = ap (call_named StringMethods) c.in-is_valid_int.is

pub returns-in-to_int : goal.returns-in-to_int
unfolding rows_of
returns-in-to_int c = ap (call_named StringMethods) c.in-to_int.is

pub returns-in-unicode_at : goal.returns-in-unicode_at
unfolding rows_of
returns-in-unicode_at c = ap (call_named StringMethods) c.in-unicode_at.is

pub returns-in_default : goal.returns-in_default
unfolding rows_of
returns-in_default c = not_named StringMethods c.args.name.now (c.in_default.not-length, (c.in_default.not-is_empty, (c.in_default.not-substr, (c.in_default.not-left, (c.in_default.not-right, (c.in_default.not-find, (c.in_default.not-contains, (c.in_default.not-begins_with, (c.in_default.not-ends_with, (c.in_default.not-replace, (c.in_default.not-split, (c.in_default.not-join, (c.in_default.not-repeat, (c.in_default.not-to_upper, (c.in_default.not-to_lower, (c.in_default.not-strip_edges, (c.in_default.not-is_valid_int, (c.in_default.not-to_int, (c.in_default.not-unicode_at, record {})))))))))))))))))))
