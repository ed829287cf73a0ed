use Rattle.std.proofs.Common.{sym, subst, true≢false, ◌↔◌, IsTrue}
use Rattle.tl_eval.specs.Notes.{Tells}
use Rattle.tl_terms.specs.Looked.{looked_by_idling}
use Rattle.tl_terms.specs.Pairs.{Pair, IsPairAccepted}
use Rattle.tl_space.specs.Spaces.{problem_of}
use Rattle.tl_space.proofs.Judging.{pair-is, not-accepted, accepted-is}
use Rattle.tl_space.proofs.space.Space.accepted.Goals as goal

pub returns-then-not-met_from-clause-accepted : goal.returns-then-not-met_from-clause-accepted
returns-then-not-met_from-clause-accepted c = λ x e. (
  λ h. absurd (true≢false (sym h)),
  λ h. absurd (not-accepted (problem_of c.args.self.now) c.get-world.result.now _ c.met_from.result c.met_from.ensures
      c.if-not-met_from.true (subst (IsPairAccepted (problem_of c.args.self.now))
      (pair-is c.args.self.now c.numbers-numbers.result c.get-world.result.now c.get-world.ensures x.node
      (c.numbers-numbers.ensures.node x e)) h)),
)

pub returns-in-Ok-clause-accepted : goal.returns-in-Ok-clause-accepted
returns-in-Ok-clause-accepted c = λ x e.
    subst (λ (y : Pair). IsTrue c.in-Ok.holds ↔ IsPairAccepted (problem_of c.args.self.now) y)
    (sym (pair-is c.args.self.now c.numbers-numbers.result c.get-world.result.now c.get-world.ensures x.node
    (c.numbers-numbers.ensures.node x e)))
    (accepted-is (problem_of c.args.self.now) c.get-world.result.now _ c.met_from.result c.in-Ok.holds c.met_from.ensures
    c.if-not-met_from.false c.in-Ok.ensures.truth)

pub returns-in-Err-Range-clause-cause : goal.returns-in-Err-Range-clause-cause
returns-in-Err-Range-clause-cause c = λ x e.
    subst (λ (y : Pair). Tells (looked_by_idling (problem_of c.args.self.now) y.world y.formula) c.in-Err-Range.note)
    (sym (pair-is c.args.self.now c.numbers-numbers.result c.get-world.result.now c.get-world.ensures x.node
    (c.numbers-numbers.ensures.node x e)))
    (rw c.in-Err-Range.field-0-is at c.in-Err-Range.ensures.cause)
