use Rattle.gd_parser.proofs.functions.param_type.Goals as goal

pub returns-in-Signal-clause-reads : goal.returns-in-Signal-clause-reads
returns-in-Signal-clause-reads c = rw (c.in-Signal.is) c.signal_param.ensures.reads

pub returns-in-Func-clause-reads : goal.returns-in-Func-clause-reads
returns-in-Func-clause-reads c = rw (c.in-Func.is) c.func_param.ensures.reads
