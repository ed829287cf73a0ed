use Rattle.std.proofs.Common.{◌≡◌, List, Bool, Option, IfSome, sym, subst}
use Rattle.tl_check.specs.AlongStates.{bound_along}
use Rattle.tl_syntax.specs.declared.bound.Bound.{Bound}
use Rattle.tl_check.proofs.atoms.bound_labels.Goals as goal

pub returns-in-Some-clause-labels : goal.returns-in-Some-clause-labels
returns-in-Some-clause-labels c =
    let found = subst (λ (o : Option (List Bool)). IfSome o (λ labels. labels ≡
    bound_along c.args.along.now c.args.span c.args.env.now (Bound.Fact c.in-Fact.pred c.in-Fact.args))) c.in-Some.is
    c.in_ok-labels-in-Fact.ensures in
    subst (λ (b : Bound). c.in-Some.labels ≡ bound_along c.args.along.now c.args.span c.args.env.now b) (sym c.in-Fact.is) found
