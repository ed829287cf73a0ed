use Rattle.std.proofs.Common.{◌≡◌, [], true, get_or, sym, ap, ◌∙◌, subst, arith}
use Rattle.std.proofs.lemmas.List.{get_or_default}
use Rattle.tl_match.specs.Fits.{fits_all}
use Rattle.tl_match.proofs.Snoc.{of-some}
use Rattle.tl_match.proofs.after.is_after_row.Goals as goal

pub returns-then-k-len-clause-row : goal.returns-then-k-len-clause-row
returns-then-k-len-clause-row c h =
    let rows = c.args.rows.now in
    let is = c.row.ensures ∙ (get_or_default rows c.in-Some.k _ [] (omega (arith, c.if-k-len.true, c.len.ensures)) ∙
    ap (λ i. get_or rows i []) c.in-Some.ensures.1) in
    subst (λ r. fits_all c.args.parts.now r c.args.tuple.now ≡ true) is
    (of-some c.fits_in_turn.result _ (sym c.is_some.ensures ∙ h) c.fits_in_turn.ensures.fits)
