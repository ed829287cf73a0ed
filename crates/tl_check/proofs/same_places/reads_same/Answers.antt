use Rattle.std.proofs.Common.{sym, subst}
use Rattle.tl_check.proofs.SamePlaces.{place-same}
use Rattle.tl_check.specs.Gathered.{ReadSame}
use Rattle.tl_syntax.specs.declared.bound.Bound.{Bound}
use Rattle.tl_check.proofs.same_places.reads_same.Goals as goal

pub returns-in-Place : goal.returns-in-Place
returns-in-Place c = λ h. subst (λ (b : Bound). ReadSame b c.args.left.now c.args.right.now) (sym c.in-Place.is)
    (place-same c.in-Place.fun c.in-Place.field-1 c.in-Place.field-2 c.args.left.now c.args.right.now (c.have_same_places.ensures h))
