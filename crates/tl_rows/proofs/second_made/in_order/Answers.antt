use Rattle.std.proofs.Common.{◌≡◌, ◌<◌, ◌-◌, ◌++◌, ℕ, zero, suc, List, [], ◌∷◌, length, get_or, refl, sym, ◌∙◌, arith}
use Rattle.std.proofs.lemmas.List.{take_more}
use Rattle.tl_syntax.specs.declared.value.Value.{Value}
use Rattle.tl_rows.proofs.Exchanged.{rises-more}
use Rattle.tl_rows.proofs.second_made.in_order.Goals as goal

-- a row of the list, whatever else would stand there
row-itself : (xs : List (List Value)) (i : ℕ) (d e : List Value) → i < length xs → get_or xs i d ≡ get_or xs i e
row-itself [] i d e h = absurd (omega arith)
row-itself (x ∷ xs) zero d e h = refl
row-itself (x ∷ xs) (suc i) d e h = row-itself xs i d e (omega arith)

pub loop-k-preserved : goal.loop-k-preserved
loop-k-preserved c =
    let rows = c.args.rows.now in
    let k = c.loop-k.k in
    let none : List Value = [] in
    let below : k < length rows = c.loop-k-test.true in
    let x = get_or rows k none in
    let y = get_or rows (k - 1) none in
    record {
      within = omega (arith, below);
      rows = c.in_ok-push.ensures ∙ ((λ i. c.loop-k.invariant.rows i ++ c.row_at.ensures none i ∷ []) ∙ sym (take_more rows k none below));
      order = rises-more rows k x y below (row-itself rows k none x below) (λ p. row-itself rows (k - 1) none y (omega (arith, below)))
          (λ p. c.is_in_turn.ensures c.if-not-is_in_turn.false p none) c.loop-k.invariant.order;
    }
