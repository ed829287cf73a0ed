use Rattle.std.proofs.Common.{◌≡◌, ◌<◌, ◌+◌, ◌-◌, ℕ, List, true≢false, length, get_or, refl, sym, ap, ◌∙◌, arith}
use Rattle.tl_check.proofs.ExecutionLaws.{states-count}
use Rattle.tl_check.specs.Judged.{IsKept, front_states}
use Rattle.tl_check.specs.StatesAlong.{states_of}
use Rattle.tl_check.specs.declared.trail.Trail.{Trail}
use Rattle.tl_lasso.proofs.JudgeLaws.{judged-open, judged-missing, judged-valid, judged-breaking, judged-past}
use Rattle.tl_syntax.specs.declared.action.Action.{Action}
use Rattle.tl_terms.specs.Problem.{PlainProblem}
use Rattle.tl_terms.specs.ProblemMeaning.{plain_problem}
use Rattle.tl_terms.specs.World.{World}
use Rattle.tl_lasso.proofs.check.verdict_of.Goals as goal

-- the states that are kept, and the places of the two that are compared
module _ (p : PlainProblem) (plan : List Action) (trail : Trail) (kept : IsKept p plan trail) (n : ℕ) (some : n < length plan)
    (worlds : List World) (all : worlds ≡ states_of p plan) where
  abbrev ws : List World
  ws = states_of p plan

  many : length ws ≡ length plan + 1
  many = omega (arith, states-count p plan ws kept.0)

  loops : n + 1 < length ws
  loops = omega (arith, many)

  begins : (u : World) → u ≡ get_or worlds n u → u ≡ get_or ws n u
  begins u q = q ∙ ap (λ (us : List World). get_or us n u) all

  ends : (v : World) → v ≡ get_or worlds (length plan) v → v ≡ get_or ws (length ws - 1) v
  ends v q = q ∙ (ap (λ (us : List World). get_or us (length plan) v) all ∙
      ap (λ (i : ℕ). get_or ws i v) (let e : length plan ≡ length ws - 1 = omega (arith, many) in e))

pub bounds-worlds-begins : goal.bounds-worlds-begins
bounds-worlds-begins c =
    let p = plain_problem c.args.task.now.problem in
    let plan = c.args.round.now.plan.now in
    let n = c.args.round.now.again in
    omega (
      arith,
      c.requires.some,
      many p plan c.args.trail c.requires.kept n c.requires.some c.worlds-worlds.result.now
          (c.worlds-worlds.ensures (states_of p plan) c.requires.kept.1),
      ap length (c.worlds-worlds.ensures (states_of p plan) c.requires.kept.1),
    )

pub bounds-worlds-ends : goal.bounds-worlds-ends
bounds-worlds-ends c =
    let p = plain_problem c.args.task.now.problem in
    let plan = c.args.round.now.plan.now in
    let n = c.args.round.now.again in
    omega (
      arith,
      many p plan c.args.trail c.requires.kept n c.requires.some c.worlds-worlds.result.now
          (c.worlds-worlds.ensures (states_of p plan) c.requires.kept.1),
      ap length (c.worlds-worlds.ensures (states_of p plan) c.requires.kept.1),
    )

pub returns-then-not-are_same : goal.returns-then-not-are_same
returns-then-not-are_same c =
    let p = plain_problem c.args.task.now.problem in
    let plan = c.args.round.now.plan.now in
    let n = c.args.round.now.again in
    let t = c.args.trail in
    let u = c.index-worlds-begins.result in
    let v = c.index-worlds-ends.result in
    let worlds = c.worlds-worlds.result.now in
    judged-open p (states_of p plan) n (loops p plan t c.requires.kept n c.requires.some worlds
    (c.worlds-worlds.ensures (states_of p plan) c.requires.kept.1)) u v
    (begins p plan t c.requires.kept n c.requires.some worlds (c.worlds-worlds.ensures (states_of p plan) c.requires.kept.1) u
    c.index-worlds-begins.is)
    (ends p plan t c.requires.kept n c.requires.some worlds (c.worlds-worlds.ensures (states_of p plan) c.requires.kept.1) v
    c.index-worlds-ends.is)
    (λ q. true≢false (sym (c.are_same.ensures.1 q) ∙ c.if-not-are_same.true))

pub returns-then-not-met : goal.returns-then-not-met
returns-then-not-met c =
    let p = plain_problem c.args.task.now.problem in
    let plan = c.args.round.now.plan.now in
    let n = c.args.round.now.again in
    let t = c.args.trail in
    let u = c.index-worlds-begins.result in
    let v = c.index-worlds-ends.result in
    let worlds = c.worlds-worlds.result.now in
    judged-missing p (states_of p plan) n (loops p plan t c.requires.kept n c.requires.some worlds
    (c.worlds-worlds.ensures (states_of p plan) c.requires.kept.1)) u v
    (begins p plan t c.requires.kept n c.requires.some worlds (c.worlds-worlds.ensures (states_of p plan) c.requires.kept.1) u
    c.index-worlds-begins.is)
    (ends p plan t c.requires.kept n c.requires.some worlds (c.worlds-worlds.ensures (states_of p plan) c.requires.kept.1) v
    c.index-worlds-ends.is)
    (c.are_same.ensures.0 c.if-not-are_same.false) (sym c.met.ensures ∙ c.if-not-met.true)

pub returns-in_err-obeys_round : goal.returns-in_err-obeys_round
returns-in_err-obeys_round c =
    let p = plain_problem c.args.task.now.problem in
    let plan = c.args.round.now.plan.now in
    let n = c.args.round.now.again in
    let t = c.args.trail in
    let u = c.index-worlds-begins.result in
    let v = c.index-worlds-ends.result in
    let worlds = c.worlds-worlds.result.now in
    judged-past p (states_of p plan) n (loops p plan t c.requires.kept n c.requires.some worlds
    (c.worlds-worlds.ensures (states_of p plan) c.requires.kept.1)) u v
    (begins p plan t c.requires.kept n c.requires.some worlds (c.worlds-worlds.ensures (states_of p plan) c.requires.kept.1) u
    c.index-worlds-begins.is)
    (ends p plan t c.requires.kept n c.requires.some worlds (c.worlds-worlds.ensures (states_of p plan) c.requires.kept.1) v
    c.index-worlds-ends.is)
    (c.are_same.ensures.0 c.if-not-are_same.false) (sym c.met.ensures ∙ c.if-not-met.false)
    (front_states p plan) refl c.from_residual.result c.in_err-obeys_round.field-0.0 c.from_residual.ensures.1
    c.in_err-obeys_round.ensures

pub returns-then-branch : goal.returns-then-branch
returns-then-branch c =
    let p = plain_problem c.args.task.now.problem in
    let plan = c.args.round.now.plan.now in
    let n = c.args.round.now.again in
    let t = c.args.trail in
    let u = c.index-worlds-begins.result in
    let v = c.index-worlds-ends.result in
    let worlds = c.worlds-worlds.result.now in
    judged-valid p (states_of p plan) n (loops p plan t c.requires.kept n c.requires.some worlds
    (c.worlds-worlds.ensures (states_of p plan) c.requires.kept.1)) u v
    (begins p plan t c.requires.kept n c.requires.some worlds (c.worlds-worlds.ensures (states_of p plan) c.requires.kept.1) u
    c.index-worlds-begins.is)
    (ends p plan t c.requires.kept n c.requires.some worlds (c.worlds-worlds.ensures (states_of p plan) c.requires.kept.1) v
    c.index-worlds-ends.is)
    (c.are_same.ensures.0 c.if-not-are_same.false) (sym c.met.ensures ∙ c.if-not-met.false)
    (front_states p plan) refl c.in_ok-obeys_round.field-0 c.if-branch.true c.in_ok-obeys_round.ensures

pub returns-else-branch : goal.returns-else-branch
returns-else-branch c =
    let p = plain_problem c.args.task.now.problem in
    let plan = c.args.round.now.plan.now in
    let n = c.args.round.now.again in
    let t = c.args.trail in
    let u = c.index-worlds-begins.result in
    let v = c.index-worlds-ends.result in
    let worlds = c.worlds-worlds.result.now in
    judged-breaking p (states_of p plan) n (loops p plan t c.requires.kept n c.requires.some worlds
    (c.worlds-worlds.ensures (states_of p plan) c.requires.kept.1)) u v
    (begins p plan t c.requires.kept n c.requires.some worlds (c.worlds-worlds.ensures (states_of p plan) c.requires.kept.1) u
    c.index-worlds-begins.is)
    (ends p plan t c.requires.kept n c.requires.some worlds (c.worlds-worlds.ensures (states_of p plan) c.requires.kept.1) v
    c.index-worlds-ends.is)
    (c.are_same.ensures.0 c.if-not-are_same.false) (sym c.met.ensures ∙ c.if-not-met.false)
    (front_states p plan) refl c.in_ok-obeys_round.field-0 c.if-branch.false c.in_ok-obeys_round.ensures
