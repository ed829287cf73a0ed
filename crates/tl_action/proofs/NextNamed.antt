-- The world after a named action in a named world is named.
use Rattle.std.proofs.Common.{◌≡◌, ℕ, List, [], ◌∷◌, length, Option, Some, None, IfSome, Result, Ok, Err, IfOk, sym}
use Rattle.tl_action.specs.Actions.{StaysNamed}
use Rattle.tl_action.specs.ChangedWorlds.{AreChangesOf, LeaveNamed, world_after}
use Rattle.tl_action.specs.declared.changes.Changes.{Changes}
use Rattle.tl_eval.specs.declared.fault.EvalFault.{EvalFault}
use Rattle.tl_syntax.specs.declared.action.Action.{Action}
use Rattle.tl_syntax.specs.declared.operator.Operator.{Operator}
use Rattle.tl_syntax.specs.declared.problem.Problem.{Problem}
use Rattle.tl_syntax.specs.Kept.{OperatorKeeps}
use Rattle.tl_syntax.specs.Lists.{Each}
use Rattle.tl_syntax.specs.Named.{EffectsAreNamed}
use Rattle.tl_syntax.specs.Signature.{Signature, signature_of}
use Rattle.tl_syntax.specs.TreeOfEffect.{tree_of_effects}
use Rattle.tl_syntax.proofs.ListLaws.{Each-over}
use Rattle.tl_terms.specs.Problem.{PlainOperator}
use Rattle.tl_terms.specs.ProblemMeaning.{plain_operator, plain_problem}
use Rattle.tl_terms.specs.Step.{step}
use Rattle.tl_terms.specs.World.{World}
use Rattle.tl_terms.proofs.NamedSteps.{step-named}
use Rattle.tl_terms.proofs.NamedWorlds.{goal-named, avoid-named}

kept : (g : Signature) (n : ℕ) (os : List Operator) → Each (OperatorKeeps g n) os →
    Each (λ (o : Operator). EffectsAreNamed n (tree_of_effects o.effects)) os
kept g n [] h = tt
kept g n (o ∷ os) h = (h.0.effects_named, kept g n os h.1)

effects-named : (p : Problem) → Each (λ (o : PlainOperator). EffectsAreNamed (length p.names) o.effects) (plain_problem p).operators
unfolding plain_problem
effects-named p =
    (Each-over (λ (o : PlainOperator). EffectsAreNamed (length p.names) o.effects) plain_operator p.domain.operators).1
    (kept (signature_of p.domain) (length p.names) p.domain.operators p.domain_keeps.operators)

pub next-named : (p : Problem) (w : World) (a : Action) (next : World) → Some next ≡ step (plain_problem p) w a →
    StaysNamed (length p.names) w a next
next-named p w a next h = λ world args. step-named (length p.names) (plain_problem p) (goal-named p) (avoid-named p) w world a next
    (effects-named p) args (sym h)

pub answer-named : (p : Problem) (w : World) (a : Action) (r : Result (Option Changes) EvalFault) →
    IfOk r (AreChangesOf (plain_problem p) w a) → IfOk r (λ o. IfSome o (LeaveNamed (length p.names) w a))
answer-named p w a (Ok (Some c)) h = next-named p w a (world_after w c) h
answer-named p w a (Ok None) h = tt
answer-named p w a (Err x) h = tt
