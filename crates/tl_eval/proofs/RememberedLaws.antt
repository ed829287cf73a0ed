-- What is remembered stays right.
use Rattle.std.proofs.Common.{ℕ, List, [], ◌∷◌, Bool, Result, sym, subst, inl, inr}
use Rattle.tl_eval.specs.Notes.{Evaluates}
use Rattle.tl_eval.specs.Reading.{situation_read, looked_read}
use Rattle.tl_eval.specs.Remembered.{Remembered, AreFrom, IsRight, AreTruths}
use Rattle.tl_eval.specs.declared.range.RangeNote.{RangeNote}
use Rattle.tl_eval.proofs.ReadingLaws.{AtLevel}
use Rattle.tl_syntax.specs.declared.value.Value.{Value}
use Rattle.tl_syntax.specs.Lists.{Among}
use Rattle.tl_terms.specs.Operations.{Operation}
use Rattle.tl_terms.specs.Problem.{PlainProblem}
use Rattle.tl_terms.specs.World.{World}

module _ (p : PlainProblem) (w : World) where
  -- what is remembered is right
  pub right-among : (r : Remembered) (rs : List Remembered) → AreTruths p w rs → Among r rs → IsRight p w r
  right-among r [] a h = absurd h
  right-among r (x ∷ rs) a h = elim h [ inl q ↦ subst (IsRight p w) q a.0 | inr more ↦ right-among r rs a.1 more ]

  -- so is it with one more that is right
  pub truths-from : (r : Remembered) (others rs : List Remembered) → AreTruths p w others → IsRight p w r → AreFrom r others rs →
      AreTruths p w rs
  truths-from r others [] a h f = tt
  truths-from r others (x ∷ rs) a h f = (
    elim f.0 [ inl q ↦ subst (IsRight p w) (sym q) h | inr among ↦ right-among x others a among ],
    truths-from r others rs a h f.1,
  )

  -- an answer for the definition at the level is one for its atom, wherever that is read at the level
  pub answer-at : (n k i l : ℕ) (vs : List Value) (r : Result Bool RangeNote) → AtLevel p w n k i l vs →
      Evaluates ((situation_read p w i l).table i vs) (looked_read p w i l i vs) r →
      Evaluates ((situation_read p w n k).table i vs) (looked_read p w n k i vs) r
  answer-at n k i l vs r at h =
      subst (λ (b : Bool). Evaluates b (looked_read p w n k i vs) r) (sym at.truth)
      (subst (λ (o : List Operation). Evaluates ((situation_read p w i l).table i vs) o r) (sym at.looked) h)
