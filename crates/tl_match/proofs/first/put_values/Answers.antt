use Rattle.std.proofs.Common.{◌≡◌, ◌≤◌, ◌+◌, length, drop, true, false, true≢false, refl, sym, ap, ◌∙◌, subst, arith}
use Rattle.tl_match.specs.Fits.{fits_all, BeginsAs}
use Rattle.tl_match.specs.Front.{seen_in, are_in_turn}
use Rattle.tl_match.proofs.Matching.{never-short}
use Rattle.tl_match.proofs.Putting.{fits-here, fits-next, fits-whole, turn-at, seen-at, seen-within, room, begins-before}
use Rattle.tl_match.proofs.first.put_values.Goals as goal

pub returns-then-parts-row-clause-none : goal.returns-then-parts-row-clause-none
returns-then-parts-row-clause-none c t = never-short c.args.parts.now c.args.row.now t c.if-parts-row.true

pub put_value-requires-clause-room : goal.put_value-requires-clause-room
put_value-requires-clause-room c = room c.args.parts.now c.loop-k.k c.loop-k.seen c.args.free _ c.loop-k-test.true c.requires.slots
    c.loop-k.invariant.seen_within c.requires.few

pub returns-in-None-clause-none : goal.returns-in-None-clause-none
returns-in-None-clause-none c t =
    let parts = c.args.parts.now in
    let row = c.args.row.now in
    (elim (fits_all parts row t) as (λ b. fits_all parts row t ≡ b → b ≡ false) [
      | false ↦ λ _. refl
      | true ↦ λ h. absurd (true≢false (sym (fits-here parts row t c.loop-k.k _ _ _ _ c.loop-k-test.true c.if-parts-row.false refl refl h) ∙
          c.in-None.ensures.none t (c.loop-k.invariant.known t h)))
    ]) refl

pub loop-k-preserved : goal.loop-k-preserved
loop-k-preserved c =
    let parts = c.args.parts.now in
    let row = c.args.row.now in
    let k = c.loop-k.k in
    let seen = c.loop-k.seen in
    let new = c.put_value.new.values in
    let is = c.in-Some.ensures.seen in
    let turn = turn-at parts k seen _ c.loop-k-test.true c.loop-k.invariant.turn in
    record {
      within = omega (arith, c.loop-k-test.true);
      seen_within = subst (λ n. n ≤ c.args.free) (sym is) (seen-within parts k seen c.args.free _ _ c.loop-k-test.true c.requires.slots
          c.loop-k.invariant.seen_within refl);
      size = c.put_value.array_long;
      count = c.loop-k.invariant.count ∙ (seen-at parts k seen _ c.loop-k-test.true ∙ ap (λ n. seen_in n (drop (k + 1) parts)) (sym is));
      turn = ap (λ n. are_in_turn n (drop (k + 1) parts)) is ∙ turn.1;
      sound = λ t begins.
          let more = subst (λ n. BeginsAs n new t) is begins in
          fits-next parts row t k (k + 1) _ _ _ _ refl c.loop-k-test.true c.if-parts-row.false refl refl (c.in-Some.ensures.fits t more)
          (c.loop-k.invariant.sound t (begins-before seen _ c.loop-k.values new t c.put_value.ensures.kept more));
      known = λ t h.
          subst (λ n. BeginsAs n new t) (sym is) (c.in-Some.ensures.known t (c.loop-k.invariant.known t h)
          (fits-here parts row t k _ _ _ _ c.loop-k-test.true c.if-parts-row.false refl refl h));
    }

pub returns-clause-fits : goal.returns-clause-fits
returns-clause-fits c t begins =
    let past : length c.args.parts.now ≤ c.loop-k.k = omega (arith, c.loop-k-test.false) in
    fits-whole c.args.parts.now c.args.row.now t c.loop-k.k c.if-parts-row.false past (c.loop-k.invariant.sound t begins)
