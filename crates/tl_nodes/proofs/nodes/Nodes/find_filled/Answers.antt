use Rattle.std.proofs.Common.{Some, ◌∙◌, arith}
use Rattle.tl_nodes.specs.NodeTrees.{tree_at}
use Rattle.tl_nodes.specs.Numbers.{trees}
use Rattle.tl_syntax.specs.Bindings.{assignment_of}
use Rattle.tl_syntax.specs.Substitution.{substituted}
use Rattle.tl_nodes.proofs.FilledTrees.{filled-at, bindings-are}
use Rattle.tl_nodes.proofs.nodes.Nodes.find_filled.Goals as goal

pub is_of-requires : goal.is_of-requires
is_of-requires c =
    let s = c.args.self.now in
    let f = filled-at (trees s) s.filled.items c.home_of-home.result c.index-entry.result.now
    (omega (arith, c.home_of-home.ensures, s.places)) c.index-entry.ensures s.filled_is in
    f.few

pub returns-then-is_of : goal.returns-then-is_of
returns-then-is_of c =
    let s = c.args.self.now in
    let e = c.index-entry.result.now in
    let f = filled-at (trees s) s.filled.items c.home_of-home.result e
    (omega (arith, c.home_of-home.ensures, s.places)) c.index-entry.ensures s.filled_is in
    let at = c.is_of.ensures.at c.if-is_of.true in
    let same = bindings-are _ _ (c.is_of.ensures.bindings c.if-is_of.true) in
    f.is ∙ (λ i. Some (substituted (assignment_of (same i)) (tree_at (trees s) (at i))))
