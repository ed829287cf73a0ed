-- The verdict on a plan whose states are known.
use Rattle.std.proofs.Common.{◌≡◌, ◌≤◌, ◌<◌, ◌-◌, ◌↔◌, ℕ, suc, List, [], ◌∷◌, length, get_or, Bool, true, false, true≢false, Option, Some}
use Rattle.std.proofs.Common.{None, Result, Ok, Err, IfOk, refl, sym, ap, ap₂, ◌∙◌, subst, inr, arith}
use mathlib.Core.Path.{fun_ext}
use Rattle.std.specs.Prelude.{slice_get}
use Rattle.std.proofs.lemmas.Option.{slice_get_within}
use Rattle.tl_check.proofs.AheadLaws.{satisfies-end, satisfies-round}
use Rattle.tl_check.proofs.ExecutionLaws.{last-is, states-count}
use Rattle.tl_check.proofs.LookedLaws.{along-looked, round-looked}
use Rattle.tl_check.proofs.SpanLaws.{marks_in-at}
use Rattle.tl_check.specs.Ahead.{Course, true_ahead}
use Rattle.tl_check.specs.Judged.{Obeys, ObeysOn}
use Rattle.tl_check.specs.Labelled.{AreLabels, worlds_up_to, looked_at, looked_there}
use Rattle.tl_check.specs.Rounds.{course_from}
use Rattle.tl_check.specs.Spans.{IsWithin, marks_in}
use Rattle.tl_check.specs.Verdicts.{MissesGoal, BreaksControl, IsVerdict, IsCause}
use Rattle.tl_action.specs.declared.check_fault.CheckFault.{CheckFault}
use Rattle.tl_action.specs.declared.check_fault.CheckFault.TheVariants as fault
use Rattle.tl_check.specs.declared.span.Span.{Span}
use Rattle.tl_check.specs.declared.verdict.Verdict.{Verdict}
use Rattle.tl_check.specs.declared.verdict.Verdict.TheVariants as verdict
use Rattle.tl_check.proofs.VerdictLaws.{one-verdict}
use Rattle.tl_syntax.proofs.ListLaws.{iff-trans, iff-path}
use Rattle.tl_eval.specs.Notes.{operation_of}
use Rattle.tl_syntax.specs.declared.action.Action.{Action}
use Rattle.tl_syntax.specs.declared.problem.Problem.{Problem}
use Rattle.tl_syntax.specs.Assignment.{Assignment, no_values}
use Rattle.tl_syntax.specs.Lists.{Among}
use Rattle.tl_syntax.specs.TreeOfFormula.{tree_of_formula}
use Rattle.tl_syntax.specs.Trees.{FormulaTree}
use Rattle.tl_terms.specs.Acceptance.{IsAccepted, states, meets_goal, last_of}
use Rattle.tl_terms.specs.Operations.{Operation}
use Rattle.tl_terms.specs.Problem.{PlainProblem}
use Rattle.tl_terms.specs.ProblemMeaning.{plain_problem}
use Rattle.tl_terms.specs.World.{World}

-- the first position alone
abbrev pub first : Span
first = record { from = 0; to = 1 }

-- a frame in which nothing has a value
pub nothing-given : (e : Assignment) → ((q : ℕ) → e q ≡ None) → e ≡ no_values
nothing-given e h = fun_ext h

-- the control formula of a problem
pub control-is : (q : Problem) → tree_of_formula q.domain.control ≡ (plain_problem q).control
unfolding plain_problem
control-is q = refl

-- a verdict that is right tells whether the plan is accepted
pub valid-tells : (p : PlainProblem) (plan : List Action) (v : Verdict) → IsVerdict p plan v → (v ≡ verdict.Valid) ↔ IsAccepted p plan
valid-tells p plan v h = (λ q. subst (IsVerdict p plan) q h, λ a. one-verdict p plan v verdict.Valid h a)

-- the label of the first position tells whether the control formula is true ahead
module _ (c : Course) (ws : List World) (some : 0 < length ws) (d : Assignment) (f : FormulaTree) (nothing : d ≡ no_values)
    (control : f ≡ c.problem.control) where
  pub first-within : IsWithin first (length ws)
  first-within = record { order = omega arith; within = omega arith }

  pub obeys-told : (bs : List Bool) (b : Bool) → bs ≡ marks_in (true_ahead c d f) ws first → b ≡ get_or bs 0 false → Obeys c ws (Ok b)
  obeys-told bs b q r =
      r ∙ (ap (λ (cs : List Bool). get_or cs 0 false) q
      ∙ (marks_in-at (true_ahead c d f) ws first first-within 0 false (omega arith)
      ∙ ap₂ (λ (x : Assignment) (g : FormulaTree). true_ahead c x g ws) nothing control))

  pub obeys-noted : (y : CheckFault) → AreLabels c ws first d f (Err y) → Obeys c ws (Err y)
  obeys-noted fault.NoMemory h = tt
  obeys-noted (fault.Range k n) h = (
    subst (λ (g : FormulaTree). Among (operation_of n) (looked_at c ws k no_values g)) control
        (subst (λ (x : Assignment). Among (operation_of n) (looked_at c ws k x f)) nothing h.1.0),
    h.1.1,
  )

module _ (p : PlainProblem) (plan : List Action) (ws : List World) (u : World) (some : 0 < length ws) (s : u ≡ get_or ws (length ws - 1) u)
    (e : states p plan ≡ Some ws) where
  pub record HasLast : Type 0 where
    pub from : World
    pub after : List World
    pub all : ws ≡ from ∷ after
    pub last : last_of from after ≡ u

  known : HasLast
  known = by ws some s refl
    where
      by : (vs : List World) → 0 < length vs → u ≡ get_or vs (length vs - 1) u → ws ≡ vs → HasLast
      by [] l r q = absurd (omega arith)
      by (v ∷ vs) l r q = record {
        from = v;
        after = vs;
        all = q;
        last = last-is v vs u ∙
            (ap (λ (i : ℕ). get_or (v ∷ vs) i u) (let m : length vs ≡ suc (length vs) - 1 = omega arith in m) ∙ sym r);
      }

  pub misses : meets_goal u p.goal p.avoid ≡ false → MissesGoal p plan
  misses h = record {
    from = known.from;
    after = known.after;
    executes = e ∙ ap (λ (vs : List World). Some vs) known.all;
    misses = ap (λ (w : World). meets_goal w p.goal p.avoid) known.last ∙ h;
  }

  size-after : length plan ≡ length known.after
  size-after = omega (arith, ap length known.all, states-count p plan ws e)

  -- what is true ahead of the states
  ahead-is : true_ahead (course_from p (length plan) ws) no_values p.control ws ≡
      true_ahead (course_from p (length known.after) (known.from ∷ known.after)) no_values p.control (known.from ∷ known.after)
  ahead-is =
      ap (λ (vs : List World). true_ahead (course_from p (length plan) vs) no_values p.control vs) known.all
      ∙ ap (λ (n : ℕ). true_ahead (course_from p n (known.from ∷ known.after)) no_values p.control (known.from ∷ known.after)) size-after

  module _ (met : meets_goal u p.goal p.avoid ≡ true) where
    met-last : meets_goal (last_of known.from known.after) p.goal p.avoid ≡ true
    met-last = ap (λ (w : World). meets_goal w p.goal p.avoid) known.last ∙ met

    pub accepts : (b : Bool) → Obeys (course_from p (length plan) ws) ws (Ok b) → b ≡ true → IsAccepted p plan
    accepts b o h = record {
      from = known.from;
      after = known.after;
      executes = e ∙ ap (λ (vs : List World). Some vs) known.all;
      reaches = met-last;
      obeys = (satisfies-end p known.from known.after p.control).1 (sym (o ∙ ahead-is) ∙ h);
    }

    pub breaks : (b : Bool) → Obeys (course_from p (length plan) ws) ws (Ok b) → b ≡ false → BreaksControl p plan
    breaks b o h = record {
      from = known.from;
      after = known.after;
      executes = e ∙ ap (λ (vs : List World). Some vs) known.all;
      reaches = met-last;
      breaks = λ k. true≢false (sym ((satisfies-end p known.from known.after p.control).0 k) ∙ (sym (o ∙ ahead-is) ∙ h));
    }

    within-plan : (k : ℕ) (o : Operation) → Among o (looked_at (course_from p (length plan) ws) ws k no_values p.control) → k ≤ length plan
    within-plan k o h = by (slice_get ws k) refl h
      where
        by : (x : Option World) → slice_get ws k ≡ x → Among o (looked_there p
            (worlds_up_to (course_from p (length plan) ws) ws k) x no_values p.control) → k ≤ length plan
        by None q m = absurd m
        by (Some w) q m = let a = slice_get_within ws k w q in let b = states-count p plan ws e in omega arith

    pub past : (y : CheckFault) → Obeys (course_from p (length plan) ws) ws (Err y) → IsCause p plan y
    past fault.NoMemory h = tt
    past (fault.Range k n) h = inr (record {
      from = known.from;
      after = known.after;
      executes = e ∙ ap (λ (vs : List World). Some vs) known.all;
      reaches = met-last;
      within = within-plan k (operation_of n) h.0;
      told = (
        along-looked p known.from known.after (length plan) (operation_of n) p.control k size-after
            (subst (λ (vs : List World). Among (operation_of n) (looked_at (course_from p (length plan) vs) vs k no_values p.control))
            known.all h.0),
        h.1,
      );
    })

pub valid-of : (p : PlainProblem) (plan : List Action) (r : Result Verdict CheckFault) → IfOk r (IsVerdict p plan) →
    IfOk r (λ v. (v ≡ verdict.Valid) ↔ IsAccepted p plan)
valid-of p plan (Ok v) h = valid-tells p plan v h
valid-of p plan (Err x) h = tt

-- ---- a plan that goes round

module _ (p : PlainProblem) (n : ℕ) (ws : List World) (loops : n < length ws) where
  pub obeys-round : (r : Result Bool CheckFault) → Obeys (course_from p n ws) ws r → ObeysOn p n ws r
  obeys-round (Ok b) h = iff-trans (satisfies-round p n ws loops p.control) (iff-path (λ (x : Bool). x ≡ true) (sym h))
  obeys-round (Err fault.NoMemory) h = tt
  obeys-round (Err (fault.Range k note)) h = (round-looked (course_from p n ws) ws (operation_of note) p.control k h.0, h.1)
