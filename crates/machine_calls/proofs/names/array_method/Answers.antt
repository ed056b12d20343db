use Rattle.std.proofs.Common.{ap}
use Rattle.native_calls.specs.Table.{ArrayMethods, rows_of}
use Rattle.machine_calls.specs.Answers.{call_named}
use Rattle.machine_calls.proofs.Rows.{not_named}
use Rattle.machine_calls.proofs.names.array_method.Goals as goal

pub returns-in-size : goal.returns-in-size
unfolding rows_of
returns-in-size c = ap (call_named ArrayMethods) c.in-size.is

pub returns-in-is_empty : goal.returns-in-is_empty
unfolding rows_of
returns-in-is_empty c = ap (call_named ArrayMethods) c.in-is_empty.is

pub returns-in-append : goal.returns-in-append
unfolding rows_of
returns-in-append c = ap (call_named ArrayMethods) c.in-append.is

pub returns-in-push_back : goal.returns-in-push_back
unfolding rows_of
returns-in-push_back c = ap (call_named ArrayMethods) c.in-push_back.is

pub returns-in-push_front : goal.returns-in-push_front
unfolding rows_of
returns-in-push_front c = ap (call_named ArrayMethods) c.in-push_front.is

pub returns-in-pop_back : goal.returns-in-pop_back
unfolding rows_of
returns-in-pop_back c = ap (call_named ArrayMethods) c.in-pop_back.is

pub returns-in-pop_front : goal.returns-in-pop_front
unfolding rows_of
returns-in-pop_front c = ap (call_named ArrayMethods) c.in-pop_front.is

pub returns-in-front : goal.returns-in-front
unfolding rows_of
returns-in-front c = ap (call_named ArrayMethods) c.in-front.is

pub returns-in-back : goal.returns-in-back
unfolding rows_of
returns-in-back c = ap (call_named ArrayMethods) c.in-back.is

pub returns-in-insert : goal.returns-in-insert
unfolding rows_of
returns-in-insert c = ap (call_named ArrayMethods) c.in-insert.is

pub returns-in-remove_at : goal.returns-in-remove_at
unfolding rows_of
returns-in-remove_at c = ap (call_named ArrayMethods) c.in-remove_at.is

pub returns-in-erase : goal.returns-in-erase
unfolding rows_of
returns-in-erase c = ap (call_named ArrayMethods) c.in-erase.is

pub returns-in-clear : goal.returns-in-clear
unfolding rows_of
returns-in-clear c = ap (call_named ArrayMethods) c.in-clear.is

pub returns-in-has : goal.returns-in-has
unfolding rows_of
returns-in-has c = ap (call_named ArrayMethods) c.in-has.is

pub returns-in-find : goal.returns-in-find
unfolding rows_of
returns-in-find c = ap (call_named ArrayMethods) c.in-find.is

pub returns-in-count : goal.returns-in-count
unfolding rows_of
returns-in-count c = ap (call_named ArrayMethods) c.in-count.is

pub returns-in-slice : goal.returns-in-slice
unfolding rows_of
returns-in-slice c = ap (call_named ArrayMethods) c.in-slice.is

pub returns-in-reverse : goal.returns-in-reverse
unfolding rows_of
returns-in-reverse c = ap (call_named ArrayMethods) c.in-reverse.is

pub returns-in-sort : goal.returns-in-sort
unfolding rows_of
returns-in-sort c = ap (call_named ArrayMethods) c.in-sort.is

pub returns-in-duplicate : goal.returns-in-duplicate
unfolding rows_of
returns-in-duplicate c = ap (call_named ArrayMethods) c.in-duplicate.is

pub returns-in-append_array : goal.returns-in-append_array
unfolding rows_of
returns-in-append_array c = ap (call_named ArrayMethods) c.in-append_array.is

pub returns-in-resize : goal.returns-in-resize
unfolding rows_of
returns-in-resize c = ap (call_named ArrayMethods) c.in-resize.is

pub returns-in-fill : goal.returns-in-fill
unfolding rows_of
returns-in-fill c = ap (call_named ArrayMethods) c.in-fill.is

pub returns-in_default : goal.returns-in_default
unfolding rows_of
returns-in_default c = not_named ArrayMethods c.args.name.now (c.in_default.not-size, (c.in_default.not-is_empty, (c.in_default.not-append, (c.in_default.not-push_back, (c.in_default.not-push_front, (c.in_default.not-pop_back, (c.in_default.not-pop_front, (c.in_default.not-front, (c.in_default.not-back, (c.in_default.not-insert, (c.in_default.not-remove_at, (c.in_default.not-erase, (c.in_default.not-clear, (c.in_default.not-has, (c.in_default.not-find, (c.in_default.not-count, (c.in_default.not-slice, (c.in_default.not-reverse, (c.in_default.not-sort, (c.in_default.not-duplicate, (c.in_default.not-append_array, (c.in_default.not-resize, (c.in_default.not-fill, record {})))))))))))))))))))))))
