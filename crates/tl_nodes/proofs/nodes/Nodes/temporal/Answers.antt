use Rattle.std.proofs.Common.{◌≡◌, ◌↔◌, false, get_or, subst, sym, ap, ◌∙◌}
use Rattle.tl_syntax.specs.StateFormulas.{IsState}
use Rattle.tl_nodes.specs.NodeTrees.{tree_at}
use Rattle.tl_nodes.specs.Numbers.{trees}
use Rattle.tl_nodes.specs.Temporal.{has_temporal}
use Rattle.tl_nodes.proofs.TemporalFlags.{plain-exactly, read-flag}
use Rattle.tl_nodes.proofs.nodes.Nodes.temporal.Goals as goal

pub returns-clause-state : goal.returns-clause-state
returns-clause-state c =
    let ts = trees c.args.self.now in
    let b = c.index.result.now in
    let e : b ≡ has_temporal (tree_at ts c.args.id) = c.index.ensures ∙
    (ap (λ fs. get_or fs c.args.id b) c.args.self.now.flags ∙ read-flag ts c.args.id b c.requires) in
    subst (λ a. (a ≡ false) ↔ IsState (tree_at ts c.args.id)) (sym e) (plain-exactly (tree_at ts c.args.id))
