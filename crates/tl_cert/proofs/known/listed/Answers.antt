use Rattle.std.proofs.Common.{◌≡◌, slice_get, Some, sym, subst}
use Rattle.tl_search.specs.NamedAnswers.{FaultIsNamed}
use Rattle.tl_search.proofs.FaultLaws.{actions-of-pair}
use Rattle.tl_search.proofs.ListLaws.{get-inside}
use Rattle.tl_cert.proofs.FaultLaws.{listing-told}
use Rattle.tl_cert.proofs.known.listed.Goals as goal

pub search_node_fault-requires-clause-here : goal.search_node_fault-requires-clause-here
search_node_fault-requires-clause-here g c =
    let x = get-inside (g.S.SearchSpace.kept c.args.space.now) c.args.at c.requires.at in
    actions-of-pair _ x.0.node c.in-Err.fault (c.in-Err.ensures.cause x.0 x.1)

pub returns-in-Err-clause-fault : goal.returns-in-Err-clause-fault
returns-in-Err-clause-fault g c = λ x e.
    listing-told _ x c.in-Err.fault c.search_node_fault.result
    (c.search_node_fault.ensures.fault x (subst (λ xs. slice_get xs c.args.at ≡ Some x) (sym c.actions.ensures.kept) e))
    (c.in-Err.ensures.cause x e)

pub returns-in-Err-clause-named : goal.returns-in-Err-clause-named
returns-in-Err-clause-named g c = subst (λ t. FaultIsNamed t c.search_node_fault.result) c.actions.ensures.same.task
    c.search_node_fault.ensures.named
