use Rattle.std.proofs.Common.{subst}
use Rattle.std.specs.Prelude.{IfOk, IfErr}
use Rattle.tl_sexpr.specs.Tree.{trees_of}
use Rattle.tl_run.specs.declared.turn.Input.{Input as Held}
use Rattle.tl_run.specs.declared.turn.Input.TheVariants as held
use Rattle.tl_run.specs.declared.words.Role.TheVariants as role
use Rattle.tl_run.specs.Held.{HoldsForms, IsHeld, KeepsBounds}
use Rattle.tl_run.specs.Inputs.{Input, breaks_of}
use Rattle.tl_run.specs.Stops.{IsFormsStop}
use Rattle.tl_run.proofs.Standing.{domain_held, nothing_before, problem_held}
use Rattle.tl_run.proofs.turn.forms_in.Goals as goal

pub returns-in-Domain-clause-held : goal.returns-in-Domain-clause-held
returns-in-Domain-clause-held c = λ x is.
    rw c.in-Domain.is (nothing_before (λ (y : Input). IfOk c.domain_in.result (HoldsForms role.Domain y (trees_of c.args.forms)))
    c.args.before x (rw c.in-Domain.is at c.requires.in_order) is c.domain_in.ensures.held)

pub returns-in-Domain-clause-stop : goal.returns-in-Domain-clause-stop
returns-in-Domain-clause-stop c = λ x is.
    rw c.in-Domain.is (nothing_before (λ (y : Input). IfErr c.domain_in.result
    (IsFormsStop c.args.number (breaks_of role.Domain y (trees_of c.args.forms)))) c.args.before x
    (rw c.in-Domain.is at c.requires.in_order) is c.domain_in.ensures.stop)

pub problem_in-requires : goal.problem_in-requires
problem_in-requires c =
    let k : KeepsBounds (held.Domain c.into_domain.result) = subst KeepsBounds c.into_domain.ensures c.requires.keeps in
    record { as_read = c.requires.as_read; few = c.requires.few; lawful = k.0; few_first = k.1 }

pub returns-in-Problem-clause-held : goal.returns-in-Problem-clause-held
returns-in-Problem-clause-held c = λ x is.
    rw c.in-Problem.is (domain_held (λ (y : Input). IfOk c.problem_in.result (HoldsForms role.Problem y (trees_of c.args.forms)))
    c.into_domain.result x
    (subst (λ (h : Held). IsHeld h x) c.into_domain.ensures is) c.problem_in.ensures.held)

pub returns-in-Problem-clause-stop : goal.returns-in-Problem-clause-stop
returns-in-Problem-clause-stop c = λ x is.
    rw c.in-Problem.is (domain_held (λ (y : Input). IfErr c.problem_in.result
    (IsFormsStop c.args.number (breaks_of role.Problem y (trees_of c.args.forms)))) c.into_domain.result x
    (subst (λ (h : Held). IsHeld h x) c.into_domain.ensures is) c.problem_in.ensures.stop)

pub returns-in-Plan-clause-held : goal.returns-in-Plan-clause-held
returns-in-Plan-clause-held c = λ x is.
    rw c.in-Plan.is (problem_held (λ (y : Input). IfOk c.plan_in.result (HoldsForms role.Plan y (trees_of c.args.forms)))
    c.into_problem.result x
    (subst (λ (h : Held). IsHeld h x) c.into_problem.ensures is) c.plan_in.ensures.held)

pub returns-in-Plan-clause-stop : goal.returns-in-Plan-clause-stop
returns-in-Plan-clause-stop c = λ x is.
    rw c.in-Plan.is (problem_held (λ (y : Input). IfErr c.plan_in.result
    (IsFormsStop c.args.number (breaks_of role.Plan y (trees_of c.args.forms)))) c.into_problem.result x
    (subst (λ (h : Held). IsHeld h x) c.into_problem.ensures is) c.plan_in.ensures.stop)

pub returns-in-Proof-clause-held : goal.returns-in-Proof-clause-held
returns-in-Proof-clause-held c = λ x is.
    rw c.in-Proof.is (problem_held (λ (y : Input). IfOk c.proof_in.result (HoldsForms role.Proof y (trees_of c.args.forms)))
    c.into_problem-in-Proof.result x
    (subst (λ (h : Held). IsHeld h x) c.into_problem-in-Proof.ensures is) c.proof_in.ensures.held)

pub returns-in-Proof-clause-stop : goal.returns-in-Proof-clause-stop
returns-in-Proof-clause-stop c = λ x is.
    rw c.in-Proof.is (problem_held (λ (y : Input). IfErr c.proof_in.result
    (IsFormsStop c.args.number (breaks_of role.Proof y (trees_of c.args.forms)))) c.into_problem-in-Proof.result x
    (subst (λ (h : Held). IsHeld h x) c.into_problem-in-Proof.ensures is) c.proof_in.ensures.stop)

pub returns-in-Costs-clause-held : goal.returns-in-Costs-clause-held
returns-in-Costs-clause-held c = λ x is.
    rw c.in-Costs.is (problem_held (λ (y : Input). IfOk c.costs_in.result (HoldsForms role.Costs y (trees_of c.args.forms)))
    c.into_problem-in-Costs.result x
    (subst (λ (h : Held). IsHeld h x) c.into_problem-in-Costs.ensures is) c.costs_in.ensures.held)

pub returns-in-Costs-clause-stop : goal.returns-in-Costs-clause-stop
returns-in-Costs-clause-stop c = λ x is.
    rw c.in-Costs.is (problem_held (λ (y : Input). IfErr c.costs_in.result
    (IsFormsStop c.args.number (breaks_of role.Costs y (trees_of c.args.forms)))) c.into_problem-in-Costs.result x
    (subst (λ (h : Held). IsHeld h x) c.into_problem-in-Costs.ensures is) c.costs_in.ensures.stop)

pub returns-in-Loop-clause-held : goal.returns-in-Loop-clause-held
returns-in-Loop-clause-held c = λ x is.
    rw c.in-Loop.is (problem_held (λ (y : Input). IfOk c.loop_in.result (HoldsForms role.Loop y (trees_of c.args.forms)))
    c.into_problem-in-Loop.result x
    (subst (λ (h : Held). IsHeld h x) c.into_problem-in-Loop.ensures is) c.loop_in.ensures.held)

pub returns-in-Loop-clause-stop : goal.returns-in-Loop-clause-stop
returns-in-Loop-clause-stop c = λ x is.
    rw c.in-Loop.is (problem_held (λ (y : Input). IfErr c.loop_in.result
    (IsFormsStop c.args.number (breaks_of role.Loop y (trees_of c.args.forms)))) c.into_problem-in-Loop.result x
    (subst (λ (h : Held). IsHeld h x) c.into_problem-in-Loop.ensures is) c.loop_in.ensures.stop)
