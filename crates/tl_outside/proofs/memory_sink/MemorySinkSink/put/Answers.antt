use Rattle.std.proofs.Common.{rules}
use Rattle.tl_outside.proofs.memory_sink.MemorySinkSink.put.Goals as goal

pub returns-clause-count : goal.returns-clause-count
returns-clause-count c = search rules
