use Rattle.std.proofs.Common.{◌≡◌, Some, slice_get, sym, subst}
use Rattle.tl_nodes.specs.Numbers.{trees}
use Rattle.tl_syntax.specs.Bindings.{assignment_of}
use Rattle.tl_syntax.specs.Substitution.{substituted}
use Rattle.tl_syntax.specs.Trees.{FormulaTree}
use Rattle.tl_progress.proofs.PutLayers.{stays, longer}
use Rattle.tl_progress.proofs.remaining.put_in_anew.Goals as goal

pub keep_filled-requires-clause-at : goal.keep_filled-requires-clause-at
keep_filled-requires-clause-at c = longer (trees c.args.nodes.now) (trees c.put_in.new.nodes) c.in_ok-number.ensures.kept c.args.at
    c.requires

pub keep_filled-requires-clause-number : goal.keep_filled-requires-clause-number
keep_filled-requires-clause-number c =
    subst (λ (f : FormulaTree). slice_get (trees c.put_in.new.nodes) c.in_ok-number.number ≡
    Some (substituted (assignment_of c.args.bindings.now) f)) (sym
    (stays (trees c.args.nodes.now) (trees c.put_in.new.nodes) c.in_ok-number.ensures.kept c.args.at c.requires))
    c.in_ok-number.ensures.number
