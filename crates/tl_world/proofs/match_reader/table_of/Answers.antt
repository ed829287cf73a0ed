use Rattle.std.proofs.Common.{◌≡◌, ℕ, ◌<◌, true, false, length-take-le, take, arith, sym, ap, ◌∙◌, subst, rules}
use Rattle.tl_match.specs.Fits.{occurs}
use Rattle.tl_match.specs.Front.{are_in_turn}
use Rattle.tl_match.specs.Patterns.{parts_of, filled, is_true_of}
use Rattle.tl_rows.specs.Plain.{row_cmp}
use Rattle.tl_match.proofs.Truths.{fact-truth, occurs-among}
use Rattle.tl_match.proofs.Turns.{only-later}
use Rattle.tl_world.proofs.match_reader.table_of.Goals as goal

pub returns : goal.returns
returns c =
    let w = c.args.world.now in
    let p = c.args.pattern.now in
    let parts = parts_of p in
    let rows = c.in-Some.rows.now in
    let runs = c.runs-runs.result.now in
    let place = c.first_place-place.result in
    let turn : are_in_turn 0 parts ≡ true = search rules in
    let slots : (n : ℕ) → occurs n parts ≡ true → n < p.free = λ n o. (c.requires.each n).0 ((occurs-among n parts).1 o) in
    let each : (n : ℕ) → n < p.free → occurs n parts ≡ true = λ n l. (occurs-among n parts).0 ((c.requires.each n).1 l) in
    record {
      turn = turn;
      order = subst (λ rs. Rattle.tl_syntax.specs.Lists.Rises row_cmp rs) (sym c.runs-runs.ensures) c.in-Some.ensures.order;
      table = λ t size. ap (λ rs. Rattle.tl_match.specs.Least.fits_some parts rs t) c.runs-runs.ensures
          ∙ (fact-truth w p.name rows c.in-Some.ensures.facts parts t p.free slots size
          ∙ ap (λ b. is_true_of w b p.name (filled parts t)) (sym c.if-pattern.false));
      bound = c.first_place-place.ensures.bound;
      later = only-later parts p.free turn each slots false (take p.free c.args.tuple.now.values)
          (length-take-le p.free c.args.tuple.now.values (omega (arith, c.requires.variables, c.room.ensures.nine, c.room.ensures.values)))
          runs place c.first_place-place.ensures;
    }
