use Rattle.std.proofs.Common.{◌≡◌, true, false, ◌&&◌, take, refl, sym, ap, ◌∙◌, subst, arith}
use Rattle.tl_syntax.proofs.Plain.{both, with_both}
use Rattle.tl_match.specs.Fits.{fits_at, fits_all}
use Rattle.tl_match.specs.Front.{seen_after, seen_in, is_in_turn, are_in_turn}
use Rattle.tl_match.proofs.Putting.{begins-taken, begins-before}
use Rattle.tl_match.proofs.Snoc.{fits-snoc, turn-snoc, occurs-snoc, seen-last, of-some}
use Rattle.tl_rows.proofs.Going.{of-none}
use Rattle.tl_match.proofs.first_place.put_place.Goals as goal

pub put_values-requires-clause-slots : goal.put_values-requires-clause-slots
put_values-requires-clause-slots c n o = c.requires.slots n (occurs-snoc n c.args.lead.now c.args.last o)

pub put_values-requires-clause-turn : goal.put_values-requires-clause-turn
put_values-requires-clause-turn c = (both _ _ (sym (turn-snoc 0 c.args.lead.now c.args.last) ∙ c.requires.turn)).0

pub put_value-requires-clause-turn : goal.put_value-requires-clause-turn
put_value-requires-clause-turn c = ap (λ n. is_in_turn n c.args.last) c.in-Some.ensures.seen ∙
    (both (are_in_turn 0 c.args.lead.now) (is_in_turn (seen_in 0 c.args.lead.now) c.args.last)
    (sym (turn-snoc 0 c.args.lead.now c.args.last) ∙ c.requires.turn)).1

pub put_value-requires-clause-room : goal.put_value-requires-clause-room
put_value-requires-clause-room c = let q = seen-last c.args.lead.now c.args.last c.in-Some.seen c.args.free c.requires.slots
    c.in-Some.ensures.bound in omega (arith, q, c.requires.few)

pub returns-in-Some-clause-fits : goal.returns-in-Some-clause-fits
returns-in-Some-clause-fits c h =
    let row = c.args.row.now in
    let seen = c.in-Some.seen in
    let new = c.put_value.new.values in
    let t = take c.args.free new in
    let begins = begins-taken new (seen_after seen c.args.last) c.args.free
    (seen-last c.args.lead.now c.args.last seen c.args.free c.requires.slots c.in-Some.ensures.bound) in
    let lead = c.in-Some.ensures.fits t (begins-before seen c.args.last c.put_values.new.values new t c.put_value.ensures.kept begins) in
    fits-snoc c.args.lead.now row.args c.args.last row.value t
    ∙ with_both (subst (λ vs. fits_all c.args.lead.now vs t ≡ true) c.place_args.ensures lead)
    (ap (λ v. fits_at c.args.last v t) (sym c.place_value.ensures) ∙
    of-some c.put_value.result _ (sym c.is_some.ensures ∙ h) c.put_value.ensures.fits t begins)

pub returns-in-Some-clause-none : goal.returns-in-Some-clause-none
returns-in-Some-clause-none c h t =
    let row = c.args.row.now in
    let lead = c.args.lead.now in
    fits-snoc lead row.args c.args.last row.value t
    ∙ (elim (fits_all lead row.args t) as (λ b. fits_all lead row.args t ≡ b → (b && fits_at c.args.last row.value t) ≡ false) [
      | false ↦ λ _. refl
      | true ↦ λ e. ap (λ v. fits_at c.args.last v t) (sym c.place_value.ensures) ∙
          of-none c.put_value.result _ (sym c.is_some.ensures ∙ h) c.put_value.ensures.none t
          (c.in-Some.ensures.known t (subst (λ vs. fits_all lead vs t ≡ true) (sym c.place_args.ensures) e))
    ]) refl

pub returns-in-None-clause-none : goal.returns-in-None-clause-none
returns-in-None-clause-none c _ t =
    let row = c.args.row.now in
    fits-snoc c.args.lead.now row.args c.args.last row.value t
    ∙ ap (λ b. b && fits_at c.args.last row.value t) (subst (λ vs. fits_all c.args.lead.now vs t ≡ false) c.place_args.ensures
    (c.in-None.ensures.none t))
