use Rattle.std.proofs.Common.{rules}
use Rattle.tl_outside.proofs.memory_store.MemoryStoreStore.begin.Goals as goal

pub returns-clause-exact : goal.returns-clause-exact
returns-clause-exact c = search rules
