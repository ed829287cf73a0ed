-- The positions of a run with a loop.
use Rattle.std.proofs.Common.{◌≡◌, ◌≤◌, ◌<◌, ◌+◌, ◌-◌, ℕ, suc, List, ◌∷◌, take, drop, length, get_or, cond, Bool, sym, ap, ◌∙◌, arith}
use Rattle.std.proofs.Common.{drop-cons, add-one, length-drop}
use Rattle.std.specs.Prelude.{◌%◌, nat_lt, slice_index_or}
use Rattle.std.proofs.Math.Nat.{mod-eq_of_lt}
use Rattle.std.proofs.lemmas.List.{get_or-take, get_or-drop, get_or_default, length-take}
use borrow.Author.Tests.{le-ltb, lt-ltb}
use native.Mathlib.Decide.{dec_lt}
use Rattle.tl_check.proofs.RoundLaws.{Repeats}
use Rattle.tl_check.specs.Rounds.{lasso_run, situations_round}
use Rattle.tl_syntax.specs.Assignment.{Assignment}
use Rattle.tl_syntax.specs.Trees.{FormulaTree}
use Rattle.tl_terms.proofs.Lasso.{repeats}
use Rattle.tl_terms.proofs.RunLaws.{state-again}
use Rattle.tl_terms.specs.Definitions.{situation_of}
use Rattle.tl_terms.specs.Problem.{PlainProblem}
use Rattle.tl_terms.specs.Run.{Holds, state_at}
use Rattle.tl_terms.specs.World.{World}

module _ (p : PlainProblem) (n : ℕ) (ws : List World) (loops : n < length ws) where
  stem-length : length (take n ws) ≡ n
  stem-length = omega (arith, length-take n ws)

  -- the length of the loop
  pub period-is : n + suc (length (drop (n + 1) ws)) ≡ length ws
  period-is = omega (arith, length-drop (n + 1) ws)

  whole-loop : slice_index_or ws n p.first ∷ drop (n + 1) ws ≡ drop n ws
  whole-loop = sym (drop-cons ws n p.first loops ∙ ap (λ (k : ℕ). get_or ws n p.first ∷ drop k ws) (sym (add-one n)))

  -- the world at each position up to the end of the loop
  pub state-there : (i : ℕ) → i < length ws → state_at (lasso_run p n ws) i ≡ get_or ws i p.first
  unfolding state_at
  state-there i h = by (dec_lt i n)
    where
      stem : World
      stem = slice_index_or (take n ws) i (slice_index_or ws n p.first)

      loop : ℕ → World
      loop k = slice_index_or (slice_index_or ws n p.first ∷ drop (n + 1) ws) (k % suc (length (drop (n + 1) ws)))
          (slice_index_or ws n p.first)

      by : Dec (i < n) → cond (nat_lt i (length (take n ws))) stem (loop (i - length (take n ws))) ≡ get_or ws i p.first
      by (yes l) =
          ap (λ (b : Bool). cond b stem (loop (i - length (take n ws)))) (lt-ltb i (length (take n ws)) (omega (arith, stem-length)))
          ∙ (get_or-take n ws i (slice_index_or ws n p.first) l ∙ get_or_default ws i (slice_index_or ws n p.first) p.first h)
      by (no l) =
          ap (λ (b : Bool). cond b stem (loop (i - length (take n ws)))) (le-ltb i (length (take n ws)) (omega (arith, stem-length)))
          ∙ (ap (λ (k : ℕ). loop (i - k)) stem-length
          ∙ (ap (λ (k : ℕ). get_or (slice_index_or ws n p.first ∷ drop (n + 1) ws) k (slice_index_or ws n p.first))
          (mod-eq_of_lt {n = i - n} {m = suc (length (drop (n + 1) ws))} (omega (arith, period-is)))
          ∙ (ap (λ (us : List World). get_or us (i - n) (slice_index_or ws n p.first)) whole-loop
          ∙ (get_or-drop n ws (i - n) (slice_index_or ws n p.first) ∙ (ap (λ (k : ℕ). get_or ws k (slice_index_or ws n p.first))
          (let e : n + (i - n) ≡ i = omega arith in e) ∙ get_or_default ws i (slice_index_or ws n p.first) p.first h)))))

  -- the situation at a position, by the world that is read there
  pub situation-there : (i : ℕ) (w : World) → i < length ws → w ≡ get_or ws i w → situations_round p n ws i ≡ situation_of p w
  situation-there i w h q = ap (situation_of p) (state-there i h ∙ (get_or_default ws i p.first w h ∙ sym q))

  pub again : (j : ℕ) → n ≤ j → situations_round p n ws (j + suc (length (drop (n + 1) ws))) ≡ situations_round p n ws j
  again j h = ap (situation_of p) (state-again (lasso_run p n ws) j (omega (arith, stem-length)))

  -- past the stem a formula holds at a position where it holds one round later
  pub holds-again : (e : Assignment) (f : FormulaTree) → Repeats n (suc (length (drop (n + 1) ws))) (omega arith)
      (Holds (situations_round p n ws) e f)
  holds-again e f j h = repeats (situations_round p n ws) n (suc (length (drop (n + 1) ws))) (omega arith) again e f j h
