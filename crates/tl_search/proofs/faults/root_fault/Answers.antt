use Rattle.std.proofs.Common.{refl, sym, subst}
use Rattle.tl_search.specs.Calls.{AreNamedIn}
use Rattle.tl_search.proofs.faults.root_fault.Goals as goal

pub returns-in-RangeHere-clause-fault : goal.returns-in-RangeHere-clause-fault
returns-in-RangeHere-clause-fault c = rw c.in-RangeHere.is (c.new-path.ensures, refl)

pub returns-in-RangeHere-clause-named : goal.returns-in-RangeHere-clause-named
returns-in-RangeHere-clause-named c = λ task. subst (AreNamedIn task) (sym c.new-path.ensures) tt

pub unreachable-requires : goal.unreachable-requires
unreachable-requires c = rw c.in-RangeAfter.is at c.requires

pub returns-in-NoMemory-clause-fault : goal.returns-in-NoMemory-clause-fault
returns-in-NoMemory-clause-fault c = rw c.in-NoMemory.is tt

pub returns-in-NoMemory-clause-named : goal.returns-in-NoMemory-clause-named
returns-in-NoMemory-clause-named c = λ task. tt
