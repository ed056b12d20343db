use Rattle.std.proofs.Common.{refl}
use Rattle.host_io.specs.MemoryFolder.{files_in, calls_of}
use Rattle.host_io.specs.MemorySink.{writes_of}
use Rattle.gdrun.proofs.Whole.{in_memory, memory_ran_out}
use Rattle.gdrun.proofs.top.run_in_memory.Goals as goal

pub returns-clause-told : goal.returns-clause-told
returns-clause-told c = λ outcome means memory. in_memory _ _ (writes_of c.args.out.now) refl outcome _ (c.gd_main_alone.ensures.told (files_in c.args.folder.now) (calls_of c.args.folder.now) refl refl outcome means) memory

pub returns-clause-memory : goal.returns-clause-memory
returns-clause-memory c = λ outcome means is. memory_ran_out _ _ outcome _ (c.gd_main_alone.ensures.told (files_in c.args.folder.now) (calls_of c.args.folder.now) refl refl outcome means) is
