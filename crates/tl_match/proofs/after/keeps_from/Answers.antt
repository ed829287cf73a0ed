use Rattle.std.proofs.Common.{◌≡◌, ◌<◌, Bool, true, false, not, true≢false, length, refl, sym, ap, ◌∙◌, arith}
use Rattle.tl_match.specs.Front.{front, is_passed}
use Rattle.tl_match.proofs.Halves.{kept-from}
use Rattle.tl_match.proofs.after.keeps_from.Goals as goal

not-so : (b : Bool) → not b ≡ true → b ≡ false
not-so true h = absurd (true≢false (sym h))
not-so false h = refl

pub returns-else-at-len : goal.returns-else-at-len
returns-else-at-len c h =
    let inside : c.args.at < length c.args.rows.now = omega (arith, c.if-at-len.false, c.len.ensures, c.requires.bound) in
    kept-from c.args.ties (front 0 c.args.lead.now c.args.known.now) c.args.rows.now c.args.at c.row.result.now inside c.row.ensures
    c.requires.order (ap (is_passed c.args.ties) (sym c.order_of_front.ensures) ∙
    (sym c.is_passed.ensures ∙ not-so c.is_passed.result h))
