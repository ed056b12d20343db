use Rattle.std.proofs.Common.{ap}
use Rattle.native_calls.specs.Table.{DictionaryMethods, rows_of}
use Rattle.machine_calls.specs.Answers.{call_named}
use Rattle.machine_calls.proofs.Rows.{not_named}
use Rattle.machine_calls.proofs.names.dict_method.Goals as goal

pub returns-in-size : goal.returns-in-size
unfolding rows_of
returns-in-size c = ap (call_named DictionaryMethods) c.in-size.is

pub returns-in-is_empty : goal.returns-in-is_empty
unfolding rows_of
returns-in-is_empty c = ap (call_named DictionaryMethods) c.in-is_empty.is

pub returns-in-has : goal.returns-in-has
unfolding rows_of
returns-in-has c = ap (call_named DictionaryMethods) c.in-has.is

pub returns-in-get : goal.returns-in-get
unfolding rows_of
returns-in-get c = ap (call_named DictionaryMethods) c.in-get.is

pub returns-in-keys : goal.returns-in-keys
unfolding rows_of
returns-in-keys c = ap (call_named DictionaryMethods) c.in-keys.is

pub returns-in-values : goal.returns-in-values
unfolding rows_of
returns-in-values c = ap (call_named DictionaryMethods) c.in-values.is

pub returns-in-erase : goal.returns-in-erase
unfolding rows_of
returns-in-erase c = ap (call_named DictionaryMethods) c.in-erase.is

pub returns-in-clear : goal.returns-in-clear
unfolding rows_of
returns-in-clear c = ap (call_named DictionaryMethods) c.in-clear.is

pub returns-in-duplicate : goal.returns-in-duplicate
unfolding rows_of
returns-in-duplicate c = ap (call_named DictionaryMethods) c.in-duplicate.is

pub returns-in-merge : goal.returns-in-merge
unfolding rows_of
returns-in-merge c = ap (call_named DictionaryMethods) c.in-merge.is

pub returns-in_default : goal.returns-in_default
unfolding rows_of
returns-in_default c = not_named DictionaryMethods c.args.name.now (c.in_default.not-size, (c.in_default.not-is_empty, (c.in_default.not-has, (c.in_default.not-get, (c.in_default.not-keys, (c.in_default.not-values, (c.in_default.not-erase, (c.in_default.not-clear, (c.in_default.not-duplicate, (c.in_default.not-merge, record {}))))))))))
