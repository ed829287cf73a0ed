use Rattle.std.proofs.Common.{◌≡◌, ◌<◌, ◌+◌, ◌-◌, length, sym, ap, ◌∙◌, arith}
use Rattle.tl_match.specs.Front.{front, is_passed}
use Rattle.tl_match.proofs.Halves.{passed-up-to}
use Rattle.tl_match.proofs.after.passes_before.Goals as goal

pub returns-else-at-eq0 : goal.returns-else-at-eq0
returns-else-at-eq0 c h =
    let inside : c.args.at - 1 < length c.args.rows.now = omega (arith, c.if-at-eq0.false, c.requires.bound) in
    let next : c.args.at ≡ c.args.at - 1 + 1 = omega (arith, c.if-at-eq0.false) in
    passed-up-to c.args.ties (front 0 c.args.lead.now c.args.known.now) c.args.rows.now
    (c.args.at - 1) c.args.at c.row.result.now next inside c.row.ensures c.requires.order
    (ap (is_passed c.args.ties) (sym c.order_of_front.ensures) ∙ (sym c.is_passed.ensures ∙ h))
