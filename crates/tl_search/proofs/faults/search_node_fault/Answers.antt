use Rattle.tl_search.proofs.faults.search_node_fault.Goals as goal

pub returns-in-RangeHere-clause-fault : goal.returns-in-RangeHere-clause-fault
returns-in-RangeHere-clause-fault g c = rw c.in-RangeHere.is c.fault_at.ensures.fault

pub returns-in-NoMemory-clause-fault : goal.returns-in-NoMemory-clause-fault
returns-in-NoMemory-clause-fault g c = rw c.in-NoMemory.is (λ x e. tt)

pub unreachable-requires : goal.unreachable-requires
unreachable-requires g c = rw c.in-RangeAfter.is at c.requires.here
