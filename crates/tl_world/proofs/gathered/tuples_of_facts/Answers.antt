use Rattle.std.proofs.Common.{◌≡◌, ℕ, ◌<◌, true, ap, sym, ◌∙◌}
use Rattle.tl_match.specs.Fits.{occurs}
use Rattle.tl_match.specs.Least.{fits_some}
use Rattle.tl_match.specs.Patterns.{parts_of, filled, is_true_of}
use Rattle.tl_world.proofs.Gathering.{all-of-rows}
use Rattle.tl_match.proofs.Truths.{fact-truth, occurs-among}
use Rattle.tl_world.proofs.gathered.tuples_of_facts.Goals as goal

pub tuples_of_rows-requires-clause-each : goal.tuples_of_rows-requires-clause-each
tuples_of_rows-requires-clause-each c n p = (occurs-among n (parts_of c.args.pattern.now)).0 ((c.requires.pattern.each n).1 p)

pub returns : goal.returns
returns c =
    let w = c.args.world.now in
    let p = c.args.pattern.now in
    let parts = parts_of p in
    let slots : (n : ℕ) → occurs n parts ≡ true → n < p.free = λ n o. (c.requires.pattern.each n).0 ((occurs-among n parts).1 o) in
    all-of-rows w p c.runs-runs.result.now c.in_ok-tuples.tuples.items
    (λ t size. ap (λ rs. fits_some parts rs t) c.runs-runs.ensures
    ∙ (fact-truth w p.name c.in-Some.rows.now c.in-Some.ensures.facts parts t p.free slots size
    ∙ ap (λ b. is_true_of w b p.name (filled parts t)) (sym c.requires.fact)))
    c.in_ok-tuples.ensures
