-- Frames within a longer list of values.
use Rattle.std.proofs.Common.{◌≡◌, ◌<◌, ℕ, zero, suc, List, take, length, replicate, cond, ◌==◌, Option, None, refl, sym, ap, ◌∙◌, true}
use Rattle.std.proofs.Common.{false, arith, eqb-true}
use borrow.Author.Tests.{eqb-false}
use Rattle.tl_match.proofs.Matching.{set-at, set-other}
use Rattle.std.specs.Prelude.{slice_get, slice_set}
use Rattle.std.proofs.lemmas.List.{length-take}
use Rattle.std.proofs.Math.Seq.{take-set-lt}
use Rattle.tl_eval.specs.Frames.{slot_value, assignment_in}
use Rattle.tl_syntax.specs.declared.value.Value.{Value}

pub length-frame : (values : List (Option Value)) → length values ≡ 32 → length (take 32 values) ≡ 32
length-frame values h = omega (arith, length-take 32 values)

-- a slot of the frame that is set
pub set-in_frame : (values : List (Option Value)) (slot : ℕ) (v : Option Value) → slot < 32 → take 32 (slice_set values slot v) ≡
    slice_set (take 32 values) slot v
set-in_frame values slot v h = take-set-lt 32 values slot v h

-- what a frame gives after a slot is set
pub assignment-set : (frame : List (Option Value)) (slot : ℕ) (v : Option Value) (q : ℕ) → slot < length frame →
    assignment_in (slice_set frame slot v) q ≡ cond (q == slot) v (assignment_in frame q)
assignment-set frame slot v q h = (elim (q == slot) as (λ b. (q == slot) ≡ b → assignment_in (slice_set frame slot v) q ≡
    cond b v (assignment_in frame q)) [
      | true ↦ λ e. ap (λ (k : ℕ). assignment_in (slice_set frame slot v) k) (eqb-true q slot e) ∙ ap slot_value (set-at frame slot v h)
      | false ↦ λ e. ap slot_value (set-other frame slot q v (λ k. eqb-false q slot e (sym k)))
    ]) refl

-- a list of nothing gives nothing
pub nothing-at : (n m q : ℕ) → slot_value (slice_get (take m (replicate n (let none : Option Value = None in none))) q) ≡ None
nothing-at zero zero q = refl
nothing-at zero (suc m) q = refl
nothing-at (suc n) zero q = refl
nothing-at (suc n) (suc m) zero = refl
nothing-at (suc n) (suc m) (suc q) = nothing-at n m q
