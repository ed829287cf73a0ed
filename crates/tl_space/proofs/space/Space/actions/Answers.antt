use Rattle.std.proofs.Common.{sym, subst}
use Rattle.tl_syntax.specs.declared.action.Action.{Action}
use Rattle.tl_eval.specs.Notes.{Tells}
use Rattle.tl_terms.specs.Looked.{looked_by_action}
use Rattle.tl_terms.specs.World.{World}
use Rattle.tl_search.specs.ListedActions.{ListsActions}
use Rattle.tl_space.specs.Spaces.{problem_of}
use Rattle.tl_space.proofs.Judging.{world-named}
use Rattle.tl_space.proofs.SpaceLaws.{world-of}
use Rattle.tl_space.proofs.space.Space.actions.Goals as goal

pub returns-in-Ok-clause-actions : goal.returns-in-Ok-clause-actions
returns-in-Ok-clause-actions c = λ x e.
    subst (λ (w : World). ListsActions (problem_of c.args.self.now) w c.in-Ok.listed)
    (sym (world-of c.args.self.now c.numbers-numbers.result c.get-world.result.now c.get-world.ensures x.node
    (c.numbers-numbers.ensures.node x e)))
    (record { exact = c.in-Ok.ensures.actions; rises = c.in-Ok.ensures.order })

pub returns-in-Ok-clause-named : goal.returns-in-Ok-clause-named
returns-in-Ok-clause-named c = c.in-Ok.ensures.named (world-named c.args.self.now c.numbers-numbers.result.world c.get-world.result.now
    c.get-world.ensures)

pub returns-in-Err-Range-clause-cause : goal.returns-in-Err-Range-clause-cause
returns-in-Err-Range-clause-cause c = λ x e.
    subst (λ (w : World). (a : Action) × Tells (looked_by_action (problem_of c.args.self.now) w a) c.in-Err-Range.note)
    (sym (world-of c.args.self.now c.numbers-numbers.result c.get-world.result.now c.get-world.ensures x.node
    (c.numbers-numbers.ensures.node x e)))
    (rw c.in-Err-Range.field-0-is at c.in-Err-Range.ensures.cause)
