use Rattle.std.proofs.Common.{◌≡◌, List, [], length, Option, Some, None, true, false, true≢false, refl, sym, ap, ◌∙◌, subst}
use Rattle.tl_action.specs.Agreement.{Agree}
use Rattle.tl_eval.specs.Faults.{IsCausedBy}
use Rattle.tl_action.specs.Join.{arranged, variables, IsFound}
use Rattle.tl_action.specs.Prepared.{HaveValues, is_prepared, looked_prepared}
use Rattle.tl_action.proofs.BoundOrders.{arranged-keeps}
use Rattle.tl_action.proofs.EffectParts.{agree-self}
use Rattle.tl_action.proofs.Operators.{counted-differ}
use Rattle.tl_action.proofs.Rows.{row-found, found-row, row-fault, one-row, no-row}
use Rattle.tl_action.proofs.SureEffects.{row-valued}
use Rattle.tl_eval.specs.Frames.{assignment_in}
use Rattle.tl_syntax.specs.declared.value.Value.{Value}
use Rattle.tl_syntax.specs.declared.variable.Var.{Var}
use Rattle.tl_syntax.specs.FreeVariables.{slots_of}
use Rattle.tl_syntax.specs.Signature.{signature_of}
use Rattle.tl_terms.specs.ProblemMeaning.{plain_operator, plain_problem}
use Rattle.tl_terms.specs.Terms.{term_values}
use Rattle.tl_terms.specs.World.{World}
use Rattle.tl_action.proofs.join.find_row.Goals as goal

same-row : (o : Option (List Value)) (t u : List Value) → o ≡ Some t → o ≡ Some u → t ≡ u
same-row o t u p q = let e : Some t ≡ Some u = sym p ∙ q in cc

not-some : (o : Option (List Value)) (t : List Value) → o ≡ None → o ≡ Some t → ⊥
not-some o t p q = let e : None ≡ Some t = sym p ∙ q in cc

-- what was read of the parameters
read-row : (w : World) (frame : List (Option Value)) (ss ps : List Var) (o : Option (List Value)) → ss ≡ ps →
    term_values w (assignment_in frame) (variables ss) ≡ o → term_values w (assignment_in frame) (variables ps) ≡ o
read-row w frame ss ps o q h = subst (λ (vs : List Var). term_values w (assignment_in frame) (variables vs) ≡ o) q h

pub is_prepared-requires-clause-values : goal.is_prepared-requires-clause-values
is_prepared-requires-clause-values c =
    let row : term_values c.args.here.now.world.now (assignment_in c.args.env.now) (variables c.args.order.now.bounds.operator.now.params) ≡
    Some c.in-Some.row = read-row c.args.here.now.world.now c.args.env.now c.as_slice-params.result.now
    c.args.order.now.bounds.operator.now.params (Some c.in-Some.row) c.as_slice-params.ensures
    (sym c.in_ok-found.ensures ∙ c.in-Some.is) in
    subst (λ env. HaveValues (slots_of c.args.order.now.bounds.operator.now.params) (assignment_in env)) (sym refl)
    (row-valued c.args.here.now.world.now (assignment_in c.args.env.now) c.args.order.now.bounds.operator.now.params c.in-Some.row row)

pub returns-in_ok-push-in-Ok-true-clause-rows : goal.returns-in_ok-push-in-Ok-true-clause-rows
returns-in_ok-push-in-Ok-true-clause-rows c =
    let row : term_values c.args.here.now.world.now (assignment_in c.args.env.now) (variables c.args.order.now.bounds.operator.now.params) ≡
    Some c.in-Some.row = read-row c.args.here.now.world.now c.args.env.now c.as_slice-params.result.now
    c.args.order.now.bounds.operator.now.params (Some c.in-Some.row) c.as_slice-params.ensures
    (sym c.in_ok-found.ensures ∙ c.in-Some.is) in
    let ready : is_prepared (plain_problem c.args.here.now.task.now.problem) c.args.here.now.world.now (assignment_in c.args.env.now)
    (plain_operator (arranged c.args.order.now.bounds)) ≡ true =
    ap (λ env. is_prepared (plain_problem c.args.here.now.task.now.problem) c.args.here.now.world.now (assignment_in env)
    (plain_operator (arranged c.args.order.now.bounds))) (sym refl) ∙
    sym (sym c.in-Ok-true.field-0-test ∙ c.in-Ok-true.ensures.answer) in
    one-row (IsFound (plain_problem c.args.here.now.task.now.problem) c.args.here.now.world.now
    (plain_operator (arranged c.args.order.now.bounds)) (arranged c.args.order.now.bounds).bounds [] (assignment_in c.args.env.now))
    c.args.rows.now.items c.push.new.self.items c.in-Some.row c.in_ok-push-in-Ok-true.ensures.items
    (row-found (signature_of c.args.here.now.task.now.problem.domain) (length c.args.here.now.task.now.problem.names)
    (plain_problem c.args.here.now.task.now.problem) c.args.here.now.world.now (arranged c.args.order.now.bounds)
    (arranged-keeps (signature_of c.args.here.now.task.now.problem.domain)
    (length c.args.here.now.task.now.problem.names) c.args.order.now.bounds c.requires)
    (counted-differ c.args.order.now.bounds.operator.now.params c.requires.params.counted)
    (assignment_in c.args.env.now) c.in-Some.row row ready)
    (λ t h. same-row (term_values c.args.here.now.world.now (assignment_in c.args.env.now)
    (variables c.args.order.now.bounds.operator.now.params)) t c.in-Some.row
    (found-row (signature_of c.args.here.now.task.now.problem.domain) (length c.args.here.now.task.now.problem.names)
    (plain_problem c.args.here.now.task.now.problem) c.args.here.now.world.now (arranged c.args.order.now.bounds)
    (arranged-keeps (signature_of c.args.here.now.task.now.problem.domain)
    (length c.args.here.now.task.now.problem.names) c.args.order.now.bounds c.requires)
    (counted-differ c.args.order.now.bounds.operator.now.params c.requires.params.counted) (assignment_in c.args.env.now) t h).0 row)

pub returns-in-Ok-false-clause-rows : goal.returns-in-Ok-false-clause-rows
returns-in-Ok-false-clause-rows c =
    let blocked : is_prepared (plain_problem c.args.here.now.task.now.problem) c.args.here.now.world.now (assignment_in c.args.env.now)
    (plain_operator (arranged c.args.order.now.bounds)) ≡ false =
    ap (λ env. is_prepared (plain_problem c.args.here.now.task.now.problem) c.args.here.now.world.now (assignment_in env)
    (plain_operator (arranged c.args.order.now.bounds))) (sym refl) ∙
    sym (sym c.in-Ok-false.field-0-test ∙ c.in-Ok-false.ensures.answer) in
    no-row (IsFound (plain_problem c.args.here.now.task.now.problem) c.args.here.now.world.now
    (plain_operator (arranged c.args.order.now.bounds)) (arranged c.args.order.now.bounds).bounds [] (assignment_in c.args.env.now))
    c.args.rows.now.items (λ t h. true≢false (sym (found-row (signature_of c.args.here.now.task.now.problem.domain)
    (length c.args.here.now.task.now.problem.names) (plain_problem c.args.here.now.task.now.problem) c.args.here.now.world.now
    (arranged c.args.order.now.bounds) (arranged-keeps (signature_of c.args.here.now.task.now.problem.domain)
    (length c.args.here.now.task.now.problem.names) c.args.order.now.bounds c.requires)
    (counted-differ c.args.order.now.bounds.operator.now.params c.requires.params.counted) (assignment_in c.args.env.now) t h).1 ∙
    blocked))

pub returns-in-Err-clause-rows : goal.returns-in-Err-clause-rows
returns-in-Err-clause-rows c =
    let row : term_values c.args.here.now.world.now (assignment_in c.args.env.now) (variables c.args.order.now.bounds.operator.now.params) ≡
    Some c.in-Some.row = read-row c.args.here.now.world.now c.args.env.now c.as_slice-params.result.now
    c.args.order.now.bounds.operator.now.params (Some c.in-Some.row) c.as_slice-params.ensures
    (sym c.in_ok-found.ensures ∙ c.in-Some.is) in
    row-fault (signature_of c.args.here.now.task.now.problem.domain) (length c.args.here.now.task.now.problem.names)
    (plain_problem c.args.here.now.task.now.problem) c.args.here.now.world.now (arranged c.args.order.now.bounds)
    (arranged-keeps (signature_of c.args.here.now.task.now.problem.domain)
    (length c.args.here.now.task.now.problem.names) c.args.order.now.bounds c.requires)
    (counted-differ c.args.order.now.bounds.operator.now.params c.requires.params.counted)
    (assignment_in c.args.env.now) c.in-Some.row c.in-Err.fault row
    (subst (λ env. IsCausedBy (looked_prepared (plain_problem c.args.here.now.task.now.problem) c.args.here.now.world.now
    (assignment_in env) (plain_operator (arranged c.args.order.now.bounds))) c.in-Err.fault) refl c.in-Err.ensures.answer)

pub returns-in-None-clause-rows : goal.returns-in-None-clause-rows
returns-in-None-clause-rows c =
    let none : term_values c.args.here.now.world.now (assignment_in c.args.env.now)
    (variables c.args.order.now.bounds.operator.now.params) ≡ None =
    read-row c.args.here.now.world.now c.args.env.now c.as_slice-params.result.now c.args.order.now.bounds.operator.now.params None
    c.as_slice-params.ensures (sym c.in_ok-found.ensures ∙ c.in-None.is) in
    no-row (IsFound (plain_problem c.args.here.now.task.now.problem) c.args.here.now.world.now
    (plain_operator (arranged c.args.order.now.bounds)) (arranged c.args.order.now.bounds).bounds [] (assignment_in c.args.env.now))
    c.args.rows.now.items (λ t h. not-some (term_values c.args.here.now.world.now (assignment_in c.args.env.now)
    (variables c.args.order.now.bounds.operator.now.params)) t none
    (found-row (signature_of c.args.here.now.task.now.problem.domain) (length c.args.here.now.task.now.problem.names)
    (plain_problem c.args.here.now.task.now.problem) c.args.here.now.world.now (arranged c.args.order.now.bounds)
    (arranged-keeps (signature_of c.args.here.now.task.now.problem.domain)
    (length c.args.here.now.task.now.problem.names) c.args.order.now.bounds c.requires)
    (counted-differ c.args.order.now.bounds.operator.now.params c.requires.params.counted) (assignment_in c.args.env.now) t h).0)

pub returns-in-None-clause-frame : goal.returns-in-None-clause-frame
returns-in-None-clause-frame c = subst (λ env. Agree (slots_of c.args.order.now.bounds.operator.now.params) (assignment_in env)
    (assignment_in c.args.env.now)) (sym refl) (agree-self (slots_of c.args.order.now.bounds.operator.now.params)
    (assignment_in c.args.env.now))
