-- The verdict on a plan with a repeated part, by its states.
use Rattle.std.proofs.Common.{◌≡◌, ◌<◌, ◌+◌, ◌-◌, ℕ, zero, suc, List, [], ◌∷◌, ◌++◌, take, drop, length, get_or, Bool, true, false}
use Rattle.std.proofs.Common.{true≢false, Option, Some, None, Result, Ok, Err, IsErrAnd, refl, sym, ap, ◌∙◌, subst, inr, arith, drop-cons}
use Rattle.std.proofs.Common.{add-one, append_assoc, length-append, length-take}
use Rattle.std.specs.Prelude.{slice_get, slice_index_or}
use Rattle.std.proofs.lemmas.List.{get_or-take, get_or_default}
use Rattle.std.proofs.lemmas.Option.{slice_get_within}
use Rattle.tl_action.specs.declared.check_fault.CheckFault.{CheckFault}
use Rattle.tl_action.specs.declared.check_fault.CheckFault.TheVariants as fault
use Rattle.tl_check.proofs.ExecutionLaws.{states-count}
use Rattle.tl_eval.specs.Notes.{Tells, operation_of}
use Rattle.tl_check.specs.Judged.{ObeysOn}
use Rattle.tl_lasso.specs.Judged.{IsJudgementOn}
use Rattle.tl_check.specs.Rounds.{lasso_run}
use Rattle.tl_lasso.specs.Verdicts.{LoopStates, IsAcceptedForEver, StaysOpen, LoopMissesGoal, LoopBreaksControl, IsLoopCause, looked_round}
use Rattle.tl_lasso.specs.declared.verdict.LoopVerdict.{LoopVerdict}
use Rattle.tl_lasso.specs.declared.verdict.LoopVerdict.TheVariants as verdict
use Rattle.tl_syntax.specs.declared.action.Action.{Action}
use Rattle.tl_syntax.specs.Lists.{Among}
use Rattle.tl_terms.specs.Acceptance.{states, meets_goal}
use Rattle.tl_terms.specs.Looked.{looked_after}
use Rattle.tl_terms.specs.Problem.{PlainProblem}
use Rattle.tl_terms.specs.Run.{Satisfies}
use Rattle.tl_terms.specs.World.{World}

-- ---- the states of a plan

-- what is read twice at a position is the same
pub read-twice : (ws : List World) (i : ℕ) (u v : World) → i < length ws → u ≡ get_or ws i u → v ≡ get_or ws i v → u ≡ v
read-twice ws i u v h q r = q ∙ (get_or_default ws i u v h ∙ sym r)

-- a list with its last element
last-apart : (xs : List World) (d : World) → 0 < length xs → take (length xs - 1) xs ++ get_or xs (length xs - 1) d ∷ [] ≡ xs
last-apart xs d h = by xs (length xs - 1) (let e : length xs ≡ suc (length xs - 1) = omega arith in e)
  where
    by : (ys : List World) (k : ℕ) → length ys ≡ suc k → take k ys ++ get_or ys k d ∷ [] ≡ ys
    by [] k e = absurd (omega arith)
    by (y ∷ []) zero e = refl
    by (y ∷ z ∷ ys) zero e = absurd (omega arith)
    by (y ∷ ys) (suc k) e = ap (λ (zs : List World). y ∷ zs) (by ys k (omega arith))

take-drop : (k : ℕ) (xs : List World) → take k xs ++ drop k xs ≡ xs
take-drop zero xs = refl
take-drop (suc k) [] = refl
take-drop (suc k) (x ∷ xs) = ap (λ (zs : List World). x ∷ zs) (take-drop k xs)

module _ (p : PlainProblem) (ws : List World) (n : ℕ) (loops : n + 1 < length ws) where
  -- all states but the last
  abbrev pub once : List World
  once = take (length ws - 1) ws

  pub once-length : length once ≡ length ws - 1
  once-length = omega (arith, length-take (length ws - 1) ws)

  first-is : slice_index_or once n p.first ≡ get_or ws n p.first
  first-is = get_or-take (length ws - 1) ws n p.first (omega arith)

  around : take n once ++ (slice_index_or once n p.first ∷ drop (n + 1) once) ≡ once
  around =
      ap (λ (us : List World). take n once ++ us) (ap (λ (k : ℕ). slice_index_or once n p.first ∷ drop k once) (add-one n) ∙
      sym (drop-cons once n p.first (omega (arith, once-length)))) ∙ take-drop n once

  whole : take n once ++ (slice_index_or once n p.first ∷ (drop (n + 1) once ++ get_or ws (length ws - 1) p.first ∷ [])) ≡ ws
  whole =
      sym (append_assoc (take n once) (slice_index_or once n p.first ∷ drop (n + 1) once) (get_or ws (length ws - 1) p.first ∷ []))
      ∙ (ap (λ (us : List World). us ++ get_or ws (length ws - 1) p.first ∷ []) around ∙ last-apart ws p.first (omega arith))

  module _ (stem cycle : List Action) (count : length stem ≡ n) (executes : states p (stem ++ cycle) ≡ Some ws) where
    abbrev loop_states : LoopStates p stem cycle
    loop_states = record {
      before = take n once;
      first = slice_index_or once n p.first;
      between = drop (n + 1) once;
      last = get_or ws (length ws - 1) p.first;
      count = omega (arith, length-take n once, once-length);
      executes = executes ∙ ap (λ (us : List World). Some us) (sym whole);
    }

    module _ (u v : World) (first : u ≡ get_or ws n u) (last : v ≡ get_or ws (length ws - 1) v) where
      first-there : loop_states.first ≡ u
      first-there = first-is ∙ (get_or_default ws n p.first u (omega arith) ∙ sym first)

      last-there : loop_states.last ≡ v
      last-there = get_or_default ws (length ws - 1) p.first v (omega arith) ∙ sym last

      stays-open : (v ≡ u → ⊥) → StaysOpen p stem cycle
      stays-open h = record { states = loop_states; opens = λ q. h (sym last-there ∙ (q ∙ first-there)) }

      module _ (closed : v ≡ u) where
        closes : loop_states.last ≡ loop_states.first
        closes = last-there ∙ (closed ∙ sym first-there)

        misses-goal : meets_goal u p.goal p.avoid ≡ false → LoopMissesGoal p stem cycle
        misses-goal h = record {
          states = loop_states;
          closes = closes;
          misses =
              ap (λ (w : World). meets_goal w p.goal p.avoid) first-there ∙ h;
        }

        module _ (met : meets_goal u p.goal p.avoid ≡ true) where
          reaches : meets_goal loop_states.first p.goal p.avoid ≡ true
          reaches = ap (λ (w : World). meets_goal w p.goal p.avoid) first-there ∙ met

          accepts : Satisfies p (lasso_run p n once) 0 p.control → IsAcceptedForEver p stem cycle
          accepts h = record { states = loop_states; closes = closes; reaches = reaches; obeys = h }

          breaks-control : (Satisfies p (lasso_run p n once) 0 p.control → ⊥) → LoopBreaksControl p stem cycle
          breaks-control h = record { states = loop_states; closes = closes; reaches = reaches; breaks = h }

          past-in-loop : (x : CheckFault) → ObeysOn p n once (Err x) → IsLoopCause p stem cycle x
          past-in-loop fault.NoMemory h = tt
          past-in-loop (fault.Range k note) h = inr (record {
            states = loop_states;
            closes = closes;
            reaches = reaches;
            within = within (slice_get once k) refl h.0;
            told = subst (λ (us : List World). Tells (looked_round p us k p.control) note) (sym around) h;
          })
            where
              within : (o : Option World) → slice_get once k ≡ o → Among (operation_of note) (looked_after p once o p.control) →
                  k < length stem + length cycle
              within None q m = absurd m
              within (Some w) q m = omega (
                arith,
                slice_get_within once k w q,
                once-length,
                states-count p (stem ++ cycle) ws executes,
                length-append stem cycle,
              )

  -- ---- the verdicts

  module _ (u v : World) (first : u ≡ get_or ws n u) (last : v ≡ get_or ws (length ws - 1) v) where
    pub judged-open : (v ≡ u → ⊥) → IsJudgementOn p ws n (Ok verdict.NotClosed)
    judged-open h = record { verdict = λ stem cycle c e. stays-open stem cycle c e u v first last h; cause = λ stem cycle c e. tt }

    module _ (closed : v ≡ u) where
      pub judged-missing : meets_goal u p.goal p.avoid ≡ false → IsJudgementOn p ws n (Ok verdict.GoalUnmet)
      judged-missing h = record {
        verdict = λ stem cycle c e. misses-goal stem cycle c e u v first last closed h;
        cause = λ stem cycle c e.
            tt;
      }

      module _ (met : meets_goal u p.goal p.avoid ≡ true) (us : List World) (all : us ≡ once) where
        pub judged-valid : (b : Bool) → b ≡ true → ObeysOn p n us (Ok b) → IsJudgementOn p ws n (Ok verdict.Valid)
        judged-valid b h o = record {
          verdict = λ stem cycle c e. accepts stem cycle c e u v first last closed met
              ((subst (λ (vs : List World). ObeysOn p n vs (Ok b)) all o).1 h);
          cause = λ stem cycle c e. tt;
        }

        pub judged-breaking : (b : Bool) → b ≡ false → ObeysOn p n us (Ok b) → IsJudgementOn p ws n (Ok verdict.Disobeys)
        judged-breaking b h o = record {
          verdict = λ stem cycle c e. breaks-control stem cycle c e u v first last closed met
              (λ s. true≢false (sym ((subst (λ (vs : List World). ObeysOn p n vs (Ok b)) all o).0 s) ∙ h));
          cause = λ stem cycle c e. tt;
        }

        pub judged-past : (r : Result LoopVerdict CheckFault) (x : CheckFault) → IsErrAnd r (λ y. y ≡ x) → ObeysOn p n us (Err x) →
            IsJudgementOn p ws n r
        judged-past (Ok a) x same o = absurd same
        judged-past (Err y) x same o = subst (λ (z : CheckFault). IsJudgementOn p ws n (Err z)) (sym same) (record {
          verdict = λ stem cycle c e. tt;
          cause = λ stem cycle c e. past-in-loop stem cycle c e u v first last closed met x
              (subst (λ (vs : List World). ObeysOn p n vs (Err x)) all o);
        })
