use Rattle.std.proofs.Common.{Some, sym, ap, ◌∙◌, subst}
use Rattle.tl_action.specs.StepsHere.{AreChangesHere, LeaveNamedHere}
use Rattle.tl_action.specs.Actions.{StaysNamed, name_count}
use Rattle.tl_terms.specs.World.{World}
use Rattle.tl_action.proofs.step.apply.Goals as goal

pub returns-in_ok-next-in-Ok-Some-clause-world : goal.returns-in_ok-next-in-Ok-Some-clause-world
returns-in_ok-next-in-Ok-Some-clause-world g c =
    ap (λ (v : World). Some v) c.in_ok-next-in-Ok-Some.ensures
    ∙ subst (AreChangesHere c.args.here.now c.args.a.now) c.in-Ok-Some.field-0-is c.in-Ok-Some.ensures.changes

pub returns-in_ok-next-in-Ok-Some-clause-named : goal.returns-in_ok-next-in-Ok-Some-clause-named
returns-in_ok-next-in-Ok-Some-clause-named g c =
    subst (StaysNamed (name_count c.args.here.now.task.now) c.args.here.now.world.now c.args.a.now) (sym c.in_ok-next-in-Ok-Some.ensures)
    (subst (LeaveNamedHere c.args.here.now c.args.a.now) c.in-Ok-Some.field-0-is c.in-Ok-Some.ensures.named)

pub returns-in-Ok-None-clause-world : goal.returns-in-Ok-None-clause-world
returns-in-Ok-None-clause-world g c = sym (subst (AreChangesHere c.args.here.now c.args.a.now) c.in-Ok-None.field-0-is
    c.in-Ok-None.ensures.changes)
