use Rattle.std.proofs.Common.{arith}
use Rattle.std.proofs.lemmas.Grind.{common_steps}
use Rattle.tl_outside.proofs.memory_store.MemoryStoreStore.take.Goals as goal

pub bytes-whole-requires : goal.bytes-whole-requires
bytes-whole-requires c = (c.args.self.now.within c.unwrap.result c.unwrap.ensures).0

pub returns-clause-bytes : goal.returns-clause-bytes
returns-clause-bytes c = grind (arith, common_steps)
