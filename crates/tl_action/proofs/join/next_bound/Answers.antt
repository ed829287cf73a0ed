use Rattle.std.proofs.Common.{◌≡◌, ◌<◌, suc, List, [], ◌∷◌, length, get_or, true, ◌==◌, refl, sym, ap, ◌∙◌, arith, eqb-true}
use Rattle.tl_action.specs.Join.{arranged, bound_count}
use Rattle.tl_action.proofs.JoinNodes.{Node, new_parameters-count, node-at, node-past, node-none}
use Rattle.tl_eval.specs.Frames.{assignment_in}
use Rattle.tl_eval.proofs.ArityLaws.{declared-few}
use Rattle.tl_syntax.specs.declared.variable.Var.{Var}
use Rattle.tl_syntax.specs.Signature.{signature_of}
use Rattle.tl_terms.specs.ProblemMeaning.{plain_problem}
use Rattle.tl_action.proofs.join.next_bound.Goals as goal

is-empty : (xs : List Var) → (length xs == 0) ≡ true → xs ≡ []
is-empty [] h = refl
is-empty (x ∷ xs) h = let none : suc (length xs) ≡ 0 = eqb-true (suc (length xs)) 0 h in absurd (omega (arith, none))

pub bound-requires : goal.bound-requires
bound-requires c =
    let many = ap (λ (ls : List (List Var)). length ls) c.as_slice-new_parameters.ensures.value ∙
    new_parameters-count c.args.order.now.bounds c.args.order.now.new_parameters.items c.args.order.now.new_parameters_are in
    omega (arith, c.loop-k-test.true, many)

pub bound_holds-requires : goal.bound_holds-requires
bound_holds-requires c =
    let keep = c.args.here.now.task.now.problem.domain_keeps in
    let many = ap (λ (ls : List (List Var)). length ls) c.as_slice-new_parameters.ensures.value ∙
    new_parameters-count c.args.order.now.bounds c.args.order.now.new_parameters.items c.args.order.now.new_parameters_are in
    let below : c.loop-k.k < bound_count c.args.order.now.bounds = omega (arith, c.loop-k-test.true, many) in
    let b-is = c.bound.ensures in
    let vars-is = c.index-new_parameters-k.is ∙ ap (λ (ls : List (List Var)). get_or ls c.loop-k.k c.index-new_parameters-k.result)
    c.as_slice-new_parameters.ensures.value in
    let node : Node (signature_of c.args.here.now.task.now.problem.domain)
    (arranged c.args.order.now.bounds) c.loop-k.k c.bound.result.now c.index-new_parameters-k.result =
    node-at (signature_of c.args.here.now.task.now.problem.domain)
    (length c.args.here.now.task.now.problem.names) c.args.order.now.bounds c.args.order.now.new_parameters.items c.loop-k.k
    c.bound.result.now c.index-new_parameters-k.result (declared-few _ _ keep.predicates)
    (declared-few _ _ keep.functions) c.requires.keeps c.args.order.now.new_parameters_are below b-is vars-is in
    node.fits

pub returns-then-not-bound_holds-clause-none : goal.returns-then-not-bound_holds-clause-none
returns-then-not-bound_holds-clause-none c =
    let keep = c.args.here.now.task.now.problem.domain_keeps in
    let many = ap (λ (ls : List (List Var)). length ls) c.as_slice-new_parameters.ensures.value ∙
    new_parameters-count c.args.order.now.bounds c.args.order.now.new_parameters.items c.args.order.now.new_parameters_are in
    let below : c.loop-k.k < bound_count c.args.order.now.bounds = omega (arith, c.loop-k-test.true, many) in
    let b-is = c.bound.ensures in
    let vars-is = c.index-new_parameters-k.is ∙ ap (λ (ls : List (List Var)). get_or ls c.loop-k.k c.index-new_parameters-k.result)
    c.as_slice-new_parameters.ensures.value in
    let node : Node (signature_of c.args.here.now.task.now.problem.domain)
    (arranged c.args.order.now.bounds) c.loop-k.k c.bound.result.now c.index-new_parameters-k.result =
    node-at (signature_of c.args.here.now.task.now.problem.domain)
    (length c.args.here.now.task.now.problem.names) c.args.order.now.bounds c.args.order.now.new_parameters.items c.loop-k.k
    c.bound.result.now c.index-new_parameters-k.result (declared-few _ _ keep.predicates)
    (declared-few _ _ keep.functions) c.requires.keeps c.args.order.now.new_parameters_are below b-is vars-is in
    let none = is-empty c.index-new_parameters-k.result (sym c.is_empty.ensures ∙ c.if-is_empty.true) in
    let is = sym c.bound_holds.ensures ∙ c.if-not-bound_holds.true in
    node-none (signature_of c.args.here.now.task.now.problem.domain) (plain_problem c.args.here.now.task.now.problem)
    c.args.here.now.world.now (arranged c.args.order.now.bounds) c.loop-k.k c.bound.result.now c.index-new_parameters-k.result below
    b-is node (assignment_in c.args.env.now) none is c.args.j c.loop-k.invariant.passed

pub loop-k-preserved : goal.loop-k-preserved
loop-k-preserved c =
    let keep = c.args.here.now.task.now.problem.domain_keeps in
    let many = ap (λ (ls : List (List Var)). length ls) c.as_slice-new_parameters.ensures.value ∙
    new_parameters-count c.args.order.now.bounds c.args.order.now.new_parameters.items c.args.order.now.new_parameters_are in
    let below : c.loop-k.k < bound_count c.args.order.now.bounds = omega (arith, c.loop-k-test.true, many) in
    let b-is = c.bound.ensures in
    let vars-is = c.index-new_parameters-k.is ∙ ap (λ (ls : List (List Var)). get_or ls c.loop-k.k c.index-new_parameters-k.result)
    c.as_slice-new_parameters.ensures.value in
    let node : Node (signature_of c.args.here.now.task.now.problem.domain)
    (arranged c.args.order.now.bounds) c.loop-k.k c.bound.result.now c.index-new_parameters-k.result =
    node-at (signature_of c.args.here.now.task.now.problem.domain)
    (length c.args.here.now.task.now.problem.names) c.args.order.now.bounds c.args.order.now.new_parameters.items c.loop-k.k
    c.bound.result.now c.index-new_parameters-k.result (declared-few _ _ keep.predicates)
    (declared-few _ _ keep.functions) c.requires.keeps c.args.order.now.new_parameters_are below b-is vars-is in
    let none = is-empty c.index-new_parameters-k.result (sym c.is_empty.ensures ∙ c.if-is_empty.true) in
    let is = sym c.bound_holds.ensures ∙ c.if-not-bound_holds.false in
    record {
      passed = node-past (signature_of c.args.here.now.task.now.problem.domain)
          (plain_problem c.args.here.now.task.now.problem) c.args.here.now.world.now
          (arranged c.args.order.now.bounds) c.loop-k.k c.bound.result.now c.index-new_parameters-k.result below b-is node
          (assignment_in c.args.env.now) none is c.args.j c.loop-k.invariant.passed;
    }
