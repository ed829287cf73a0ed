-- The labels of formulas without temporal words.
use Rattle.std.proofs.Common.{◌≡◌, ◌≤◌, ◌<◌, ℕ, List, ◌∷◌, length, get_or, Bool, sym, ap, ◌∙◌, subst, inl}
use Rattle.std.proofs.lemmas.Option.{slice_get_read}
use Rattle.std.proofs.Common.{refl}
use Rattle.tl_check.proofs.StateTruth.{ahead-state}
use Rattle.tl_check.proofs.LookedLaws.{state-looked}
use Rattle.tl_check.specs.Ahead.{Course, true_ahead}
use Rattle.tl_check.specs.Labelled.{ComesAt, looked_at}
use Rattle.tl_eval.specs.Notes.{Tells, operation_of}
use Rattle.tl_eval.specs.declared.range.RangeNote.{RangeNote}
use Rattle.tl_syntax.specs.Assignment.{Assignment}
use Rattle.tl_syntax.specs.StateFormulas.{IsState}
use Rattle.tl_syntax.specs.Trees.{FormulaTree}
use Rattle.tl_terms.specs.Definitions.{situation_of}
use Rattle.tl_terms.specs.Looked.{looked_in_state, looks_of}
use Rattle.tl_terms.specs.Truth.{state_true}
use Rattle.tl_terms.specs.World.{World}

pub state-noted : (p : Course) (ws : List World) (from k : ℕ) (e d : Assignment) (f : FormulaTree) (w : World) (n : RangeNote) → from ≤ k →
    k < length ws → w ≡ get_or ws k w → d ≡ e
    → Tells (looked_in_state (looks_of p.problem w) (situation_of p.problem w) d f) n → ComesAt p ws from k × Tells (looked_at p ws k e f) n
state-noted p ws from k e d f w n l h q r t = (
  inl l,
  (
    state-looked p ws (operation_of n) e f k w (slice_get_read ws (length ws) k w refl h q)
        (subst (λ (x : Assignment). Tells (looked_in_state (looks_of p.problem w) (situation_of p.problem w) x f) n) r t).0,
    t.1,
  ),
)

pub state-told : (p : Course) (e d : Assignment) (f : FormulaTree) (w : World) (ws : List World) (b : Bool) → IsState f → d ≡ e → b ≡
    state_true (situation_of p.problem w) d f → b ≡ true_ahead p e f (w ∷ ws)
state-told p e d f w ws b s r q = q ∙ (ap (λ (x : Assignment). state_true (situation_of p.problem w) x f) r ∙
    sym (ahead-state p e f w ws s))
