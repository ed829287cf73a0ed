-- How far a plan is followed: its states so far, and the residual after them.
use Rattle.std.proofs.Common.{◌≡◌, ◌<◌, ◌+◌, ℕ, zero, suc, List, [], ◌∷◌, ◌++◌, take, drop, length, get_or, Some, refl, sym, ap, ◌∙◌, subst}
use Rattle.std.proofs.Common.{arith, length-take}
use Rattle.tl_check.proofs.ExecutionLaws.{last-is, states-begun, states-count, states-on, past-here}
use Rattle.tl_check.specs.Verdicts.{IsPastInAction}
use Rattle.tl_eval.specs.Notes.{Tells}
use Rattle.tl_eval.specs.declared.range.RangeNote.{RangeNote}
use Rattle.tl_syntax.specs.declared.action.Action.{Action}
use Rattle.tl_syntax.specs.Assignment.{no_values}
use Rattle.tl_syntax.specs.Trees.{FormulaTree}
use Rattle.tl_terms.specs.Acceptance.{all_but_last, last_of, states}
use Rattle.tl_terms.specs.Definitions.{situation_of}
use Rattle.tl_terms.specs.Looked.{looked_by_action, looked_by_progressing}
use Rattle.tl_terms.specs.Pairs.{residual}
use Rattle.tl_terms.specs.Problem.{PlainProblem}
use Rattle.tl_terms.specs.Progression.{progressed}
use Rattle.tl_terms.specs.Step.{step}
use Rattle.tl_terms.specs.World.{World}
use Rattle.tl_explain.specs.Causes.{IsPastInProgression}

last-new : (w v : World) (ws : List World) → last_of w (ws ++ v ∷ []) ≡ v
last-new w v [] = refl
last-new w v (u ∷ ws) = last-new u v ws

front-old : (w v : World) (ws : List World) → all_but_last w (ws ++ v ∷ []) ≡ w ∷ ws
front-old w v [] = refl
front-old w v (u ∷ ws) = ap (λ us. w ∷ us) (front-old u v ws)

-- the residual after one world more
residual-snoc : (p : PlainProblem) (ws : List World) (v : World) (f : FormulaTree) → residual p (ws ++ v ∷ []) f ≡
    progressed (situation_of p v) no_values (residual p ws f)
unfolding residual
residual-snoc p [] v f = refl
residual-snoc p (w ∷ ws) v f = residual-snoc p ws v (progressed (situation_of p w) no_values f)

-- a plan in two parts
parts : (plan : List Action) (k : ℕ) → plan ≡ take k plan ++ drop k plan
parts plan zero = refl
parts [] (suc k) = refl
parts (a ∷ plan) (suc k) = ap (λ us. a ∷ us) (parts plan k)

module _ (p : PlainProblem) (plan : List Action) where
  -- the first k actions execute and lead to the world, and the formula is the residual after them
  pub record Reached (k : ℕ) (w : World) (f : FormulaTree) : Type 0 where
    pub from : World
    pub after : List World
    pub executes : states p (take k plan) ≡ Some (from ∷ after)
    pub world : last_of from after ≡ w
    pub formula : residual p (from ∷ after) p.control ≡ f

  pub reached-first : (w : World) (f : FormulaTree) → w ≡ p.first → f ≡ progressed (situation_of p p.first) no_values p.control →
      Reached 0 w f
  unfolding residual
  reached-first w f a b = record {
    from = p.first;
    after = [];
    executes = states-begun p plan (p.first ∷ []) refl;
    world = sym a;
    formula =
        sym b;
  }

  module _ (k : ℕ) (w : World) (f : FormulaTree) (r : Reached k w f) (a : Action) (l : k < length plan) (e : a ≡ get_or plan k a) where
    count : length r.after ≡ k
    count = omega (arith, states-count p (take k plan) (r.from ∷ r.after) r.executes, length-take k plan)

    last : w ≡ get_or (r.from ∷ r.after) k w
    last = sym r.world ∙ (last-is r.from r.after w ∙ ap (λ i. get_or (r.from ∷ r.after) i w) count)

    onward : (v : World) → step p w a ≡ Some v → states p (take (k + 1) plan) ≡ Some (r.from ∷ (r.after ++ v ∷ []))
    onward v s = states-on p plan k (r.from ∷ r.after) a w r.executes l e last v (r.from ∷ (r.after ++ v ∷ [])) s refl

    pub reached-on : (v : World) (g : FormulaTree) → step p w a ≡ Some v → g ≡ progressed (situation_of p v) no_values f →
        Reached (k + 1) v g
    reached-on v g s q = record {
      from = r.from;
      after = r.after ++ v ∷ [];
      executes = onward v s;
      world = last-new r.from v r.after;
      formula = residual-snoc p (r.from ∷ r.after) v p.control ∙ (ap (progressed (situation_of p v) no_values) r.formula ∙ sym q);
    }

    -- the action looks at an operation past range
    pub action-past : (note : RangeNote) → Tells (looked_by_action p w a) note → IsPastInAction p plan k note
    action-past note told = past-here p plan k (r.from ∷ r.after) a w r.executes l e last note told

    -- progressing the residual in the world after the action does
    pub progression-past : (v : World) (note : RangeNote) → step p w a ≡ Some v → Tells (looked_by_progressing p v f) note →
        IsPastInProgression p plan (k + 1) note
    progression-past v note s told =
        let front = sym (ap (λ us. residual p us p.control) (front-old r.from v r.after) ∙ r.formula) in
        record {
          front = take (k + 1) plan;
          rest = drop (k + 1) plan;
          whole = parts plan (k + 1);
          place = omega (arith, length-take (k + 1) plan);
          from = r.from;
          after = r.after ++ v ∷ [];
          executes = onward v s;
          told = subst (λ u. Tells (looked_by_progressing p u (residual p (all_but_last r.from (r.after ++ v ∷ [])) p.control)) note)
              (sym (last-new r.from v r.after)) (subst (λ g. Tells (looked_by_progressing p v g) note) front told);
        }

  -- progressing the control formula in the first world looks at one
  pub first-past : (note : RangeNote) → Tells (looked_by_progressing p p.first p.control) note → IsPastInProgression p plan 0 note
  unfolding residual
  first-past note told = record {
    front = [];
    rest = plan;
    whole = refl;
    place = refl;
    from = p.first;
    after = [];
    executes = states-begun p plan (p.first ∷ []) refl;
    told = told;
  }
