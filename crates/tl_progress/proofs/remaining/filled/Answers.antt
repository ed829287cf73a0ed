use Rattle.std.proofs.Common.{sym, ◌∙◌, eqb-true}
use Rattle.tl_nodes.specs.Numbers.{trees}
use Rattle.tl_progress.proofs.Gathering.{nothing-put}
use Rattle.tl_progress.proofs.remaining.filled.Goals as goal

pub returns-then-is_empty-clause-number : goal.returns-then-is_empty-clause-number
returns-then-is_empty-clause-number c =
    nothing-put c.args.bindings.now (eqb-true _ 0 (sym c.is_empty.ensures ∙ c.if-is_empty.true))
    (trees c.args.nodes.now) c.args.at c.requires
