use Rattle.std.proofs.Common.{◌≡◌, true, sym, ap, ◌∙◌, subst}
use Rattle.tl_syntax.proofs.Plain.{with_both}
use Rattle.tl_match.specs.Fits.{fits_at, fits_all}
use Rattle.tl_match.specs.Front.{is_in_turn}
use Rattle.tl_match.proofs.Snoc.{fits-snoc, turn-snoc, of-some}
use Rattle.tl_match.proofs.first_place.fits_place.Goals as goal

pub returns-in-Some-clause-fits : goal.returns-in-Some-clause-fits
returns-in-Some-clause-fits c h =
    let row = c.args.row.now in
    let tuple = c.args.tuple.now in
    let here = subst (λ vs. fits_all c.args.lead.now vs tuple ≡ true) c.place_args.ensures c.in-Some.ensures.fits in
    fits-snoc c.args.lead.now row.args c.args.last row.value tuple ∙ with_both here
    (ap (λ v. fits_at c.args.last v tuple) (sym c.place_value.ensures) ∙
    of-some c.after_part.result _ (sym c.is_some.ensures ∙ h) c.after_part.ensures.fits)

pub returns-in-Some-clause-turn : goal.returns-in-Some-clause-turn
returns-in-Some-clause-turn c h =
    turn-snoc 0 c.args.lead.now c.args.last
    ∙ with_both c.in-Some.ensures.turn (ap (λ n. is_in_turn n c.args.last) (sym c.in-Some.ensures.seen) ∙
    of-some c.after_part.result _ (sym c.is_some.ensures ∙ h) c.after_part.ensures.turn)
