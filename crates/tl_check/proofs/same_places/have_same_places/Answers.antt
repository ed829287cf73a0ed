use Rattle.tl_check.proofs.SamePlaces.{places-same}
use Rattle.tl_check.proofs.same_places.have_same_places.Goals as goal

pub returns-in-Some-Some : goal.returns-in-Some-Some
returns-in-Some-Some c = λ h. places-same c.args.fun c.args.left.now c.args.right.now c.in-Some-Some.x.now c.in-Some-Some.y.now
    c.in-Some-Some.ensures.places c.in-Some-Some.ensures'.places (c.are_same_places.ensures h)
