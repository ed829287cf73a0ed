use Rattle.std.proofs.Common.{◌≡◌, true, true≢false, Less, Equal, Greater, Ordering, refl, sym, ◌∙◌, arith}
use Rattle.std.specs.Ordering.{is_lt}
use Rattle.tl_rows.specs.Plain.{row_cmp}
use Rattle.tl_rows.proofs.second_made.is_in_turn.Goals as goal

less-is : (o : Ordering) → is_lt o ≡ true → o ≡ Less
less-is Less h = refl
less-is Equal h = absurd (true≢false (sym h))
less-is Greater h = absurd (true≢false (sym h))

pub returns-then-k-eq0 : goal.returns-then-k-eq0
returns-then-k-eq0 c h p d = absurd (omega (arith, c.if-k-eq0.true, p))

pub returns-else-k-eq0 : goal.returns-else-k-eq0
returns-else-k-eq0 c h p d =
    let before = sym (c.row_at.ensures d) in
    let here = sym (c.row_at-else-k-eq0.ensures d) in
    (λ i. row_cmp (before i) (here i)) ∙ less-is (row_cmp c.row_at.result.now c.row_at-else-k-eq0.result.now) (sym c.is_before.ensures ∙ h)
