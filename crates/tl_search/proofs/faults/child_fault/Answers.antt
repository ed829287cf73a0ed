use Rattle.tl_search.proofs.faults.child_fault.Goals as goal

pub returns-in-RangeHere-clause-fault : goal.returns-in-RangeHere-clause-fault
returns-in-RangeHere-clause-fault g c = rw c.in-RangeHere.is c.fault_at.ensures.fault

pub returns-in-RangeAfter-clause-fault : goal.returns-in-RangeAfter-clause-fault
returns-in-RangeAfter-clause-fault g c = rw c.in-RangeAfter.is c.fault_after.ensures.fault

pub returns-in-NoMemory-clause-fault : goal.returns-in-NoMemory-clause-fault
returns-in-NoMemory-clause-fault g c = rw c.in-NoMemory.is (λ x e. tt)
