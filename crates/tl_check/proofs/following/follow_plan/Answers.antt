use Rattle.std.proofs.Common.{◌+◌, ◌++◌, ◌∷◌, ◌∙◌, [], ℕ, List, ap, sym, refl, subst, Err}
use Rattle.tl_action.specs.Actions.{HasOperator}
use Rattle.tl_action.specs.ChangedWorlds.{AreChangesOf, world_after}
use Rattle.tl_action.specs.declared.check_fault.CheckFault.{CheckFault}
use Rattle.tl_check.proofs.ExecutionLaws.{action-at, states-begun, states-on, stops-here, states-end}
use Rattle.tl_check.proofs.TrailLaws.{last-at, all-seen, one-more, fault-told}
use Rattle.tl_check.proofs.StatesLaws.{states-are, states-here}
use Rattle.tl_check.specs.Trails.{Follows, IsFollowed}
use Rattle.tl_terms.specs.ProblemMeaning.{plain_problem}
use Rattle.tl_terms.specs.World.{World}
use Rattle.tl_check.proofs.following.follow_plan.Goals as goal

pub loop-k-init : goal.loop-k-init
loop-k-init g c = record {
  ws = c.args.follow.now.task.now.first ∷ [];
  executes = states-begun (plain_problem c.args.follow.now.task.now.problem) c.args.plan.now (c.args.follow.now.task.now.first ∷ [])
      (ap (λ (w : World). w ∷ []) c.args.follow.now.task.now.first_is);
  size = refl;
  follows = c.in_ok-trail.ensures;
}

pub changes_if_executable-requires : goal.changes_if_executable-requires
changes_if_executable-requires g c = record {
  operator = action-at (HasOperator (plain_problem c.args.follow.now.task.now.problem))
      c.args.plan.now c.loop-k.k c.index-plan-k.result c.requires.operators c.loop-k-test.true c.index-plan-k.is;
}

pub go_on-requires : goal.go_on-requires
go_on-requires g c = all-seen c.loop-k.invariant.ws c.loop-k.trail.tracks.items c.loop-k.invariant.follows.tracks

pub loop-k-preserved : goal.loop-k-preserved
loop-k-preserved g c =
    let p = plain_problem c.args.follow.now.task.now.problem in
    let so = c.loop-k.invariant in
    let w = c.loop-k.trail.world in
    let changes = c.in-Ok-Some.changes in
    let next = world_after w changes in
    record {
      ws = so.ws ++ next ∷ [];
      executes = states-on p c.args.plan.now c.loop-k.k so.ws c.index-plan-k.result w so.executes c.loop-k-test.true c.index-plan-k.is
          (last-at so.ws w c.loop-k.k so.follows.last so.size)
          next (so.ws ++ next ∷ []) (sym (subst (AreChangesOf p w c.index-plan-k.result) c.in-Ok-Some.field-0-is
          c.in-Ok-Some.ensures.changes)) refl;
      size = one-more so.ws next ∙ ap (λ (n : ℕ). n + 1) so.size;
      follows = c.in_ok-go_on-in-Ok-Some.ensures so.ws so.size so.follows;
    }

pub returns-in-Ok-None : goal.returns-in-Ok-None
returns-in-Ok-None g c =
    let so = c.loop-k.invariant in
    let w = c.loop-k.trail.world in
    stops-here (plain_problem c.args.follow.now.task.now.problem) c.args.plan.now c.loop-k.k so.ws c.index-plan-k.result w so.executes
    c.loop-k-test.true c.index-plan-k.is (last-at so.ws w c.loop-k.k so.follows.last so.size)
    (c.loop-k.k + 1) refl (subst (AreChangesOf (plain_problem c.args.follow.now.task.now.problem) w c.index-plan-k.result)
    c.in-Ok-None.field-0-is c.in-Ok-None.ensures.changes)

pub returns-in-Err : goal.returns-in-Err
returns-in-Err g c =
    let so = c.loop-k.invariant in
    let w = c.loop-k.trail.world in
    subst (λ (x : CheckFault). IsFollowed (plain_problem c.args.follow.now.task.now.problem) c.args.follow.now.keeps c.args.plan.now
    (Err x)) (sym c.fault_after.ensures)
    (fault-told (plain_problem c.args.follow.now.task.now.problem) c.args.follow.now.keeps c.args.plan.now c.loop-k.k so.ws
    c.index-plan-k.result w so.executes c.loop-k-test.true c.index-plan-k.is (last-at so.ws w c.loop-k.k so.follows.last so.size)
    c.in-Err.fault c.in-Err.ensures.cause)

pub returns : goal.returns
returns g c =
    let p = plain_problem c.args.follow.now.task.now.problem in
    let so = c.loop-k.invariant in
    let whole = states-end p c.args.plan.now c.loop-k.k so.ws c.loop-k-test.false so.executes in (
      states-here p c.args.plan.now so.ws whole,
      subst (λ (vs : List World). Follows c.args.follow.now.keeps vs c.loop-k.trail)
          (states-are p c.args.plan.now so.ws whole) so.follows,
    )
