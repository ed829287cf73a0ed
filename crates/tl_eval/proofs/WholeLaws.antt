-- What a formula outside of definitions needs and answers.
use Rattle.std.proofs.Common.{◌≡◌, ◌≤◌, ◌+◌, ℕ, List, [], ◌∷◌, ◌++◌, append-nil, refl, take, drop, length, Bool, Result, Ok, Err, IfOk}
use Rattle.std.proofs.Common.{IfErr, sym, ap, ◌∙◌, subst, arith}
use Rattle.tl_eval.specs.Notes.{AreInRange, Tells, Evaluates}
use Rattle.tl_eval.specs.Reading.{looked_read}
use Rattle.tl_eval.specs.StateTruth.{IsTruth, FitsAt}
use Rattle.tl_eval.specs.declared.range.RangeNote.{RangeNote}
use Rattle.tl_eval.proofs.ReadingLaws.{take-past, situation-whole, looked-whole}
use Rattle.tl_syntax.specs.Assignment.{Assignment}
use Rattle.tl_syntax.specs.Fits.{Fits}
use Rattle.tl_syntax.specs.Signature.{Signature, with_definitions_below}
use Rattle.tl_syntax.specs.Trees.{FormulaTree}
use Rattle.tl_terms.specs.Definitions.{situation_of}
use Rattle.tl_terms.specs.Looked.{LookedTable, looked_in_state, looks_of}
use Rattle.tl_terms.specs.Operations.{Operation}
use Rattle.tl_terms.specs.Problem.{PlainProblem}
use Rattle.tl_terms.specs.Situation.{Situation}
use Rattle.tl_terms.specs.Truth.{state_true}
use Rattle.tl_terms.specs.World.{World}

pub whole-fits : (g : Signature) (n : ℕ) (f : FormulaTree) → length g.definitions ≤ n → Fits g [] f → FitsAt g n f
whole-fits g n f h k =
    let all : take (n + 1) g.definitions ≡ g.definitions = take-past (n + 1) g.definitions (omega arith) in
    let same : with_definitions_below (n + 1) g ≡ g = ap (λ (ds : List ℕ). let x : Signature =
    record { predicates = g.predicates; functions = g.functions; definitions = ds } in x) all in
    record { around = []; fits = subst (λ (s : Signature). Fits s [] f) (sym same) k }

-- outside of definitions the answer is that of the problem
pub whole-is : (p : PlainProblem) (w : World) (n k : ℕ) (e : Assignment) (f : FormulaTree) (r : Result Bool RangeNote) →
    length p.definitions ≤ n → IsTruth p w n k e f r
    → Evaluates (state_true (situation_of p w) e f) (looked_in_state (looks_of p w) (situation_of p w) e f) r
whole-is p w n k e f r h t =
    subst (λ (d : LookedTable). Evaluates (state_true (situation_of p w) e f) (looked_in_state d (situation_of p w) e f) r)
    (sym (looked-whole p w n k h))
    (subst (λ (s : Situation). Evaluates (state_true s e f) (looked_in_state (looked_read p w n k) s e f) r)
    (sym (situation-whole p w n k h)) t)

module _ {A : Type 0} (meant : A) (looked : List Operation) where
  pub the-value : (r : Result A RangeNote) → Evaluates meant looked r → IfOk r (λ b. b ≡ meant)
  the-value (Ok b) h = h.0
  the-value (Err n) h = tt

  pub the-range : (r : Result A RangeNote) → Evaluates meant looked r → IfOk r (λ b. AreInRange looked)
  the-range (Ok b) h = h.1
  the-range (Err n) h = tt

  pub the-note : (r : Result A RangeNote) → Evaluates meant looked r → IfErr r (λ n. Tells looked n)
  the-note (Ok b) h = tt
  the-note (Err n) h = h

-- the frames of an environment after a call that keeps their number
pub same-frames : {A : Type 0} (n count : ℕ) (old new : List A) → length new ≡ length old → count ≡ length old →
    take n (take count (new ++ drop (length new) old)) ≡ take n new
same-frames {A = A} n count old new h k =
    let none : drop (length new) old ≡ [] = ap (λ (m : ℕ). drop m old) h ∙ dropped old in
    ap (take n) (ap (λ (xs : List A). take count (new ++ xs)) none ∙ (ap (take count) (append-nil new) ∙ take-past count new (omega arith)))
  where
    dropped : (xs : List A) → drop (length xs) xs ≡ []
    dropped [] = refl
    dropped (x ∷ xs) = dropped xs
