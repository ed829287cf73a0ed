use Rattle.std.proofs.Common.{◌≡◌, ℕ, ◌<◌, true, map, ap, sym, ◌∙◌, rules}
use Rattle.tl_match.specs.Fits.{occurs}
use Rattle.tl_match.specs.Patterns.{parts_of, filled, is_true_of}
use Rattle.tl_rows.specs.Tables.{whole_row}
use Rattle.tl_world.proofs.Gathering.{all-of-rows}
use Rattle.tl_match.proofs.Truths.{place-truth, occurs-among}
use Rattle.tl_world.proofs.gathered.tuples_with_values.Goals as goal

pub tuples_of_places-requires-clause-each : goal.tuples_of_places-requires-clause-each
tuples_of_places-requires-clause-each c n p = (occurs-among n (parts_of c.args.pattern.now)).0 ((c.requires.pattern.each n).1 p)

pub returns : goal.returns
returns c =
    let w = c.args.world.now in
    let p = c.args.pattern.now in
    let parts = parts_of p in
    let rows = c.in-Some.rows.now in
    let slots : (n : ℕ) → occurs n parts ≡ true → n < p.free = λ n o. (c.requires.pattern.each n).0 ((occurs-among n parts).1 o) in
    all-of-rows w p (map whole_row rows) c.in_ok-tuples.tuples.items
    (λ t size. place-truth w p.name rows c.in-Some.ensures.places parts t p.free slots (search rules) size
    ∙ ap (λ b. is_true_of w b p.name (filled parts t)) (sym c.requires.place))
    c.in_ok-tuples.ensures
