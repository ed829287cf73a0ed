use Rattle.std.proofs.Common.{rules, ◌≡◌, ◌<◌, ◌≤◌, ◌+◌, List, take, drop, length, get_or, sym, ap, ◌∙◌, subst, arith}
use Rattle.tl_action.specs.Join.{arranged, AddsRows, IsFound}
use Rattle.tl_action.proofs.EffectParts.{agree-self}
use Rattle.tl_action.proofs.JoinNodes.{Node, new_parameters-count, node-at, node-frame, joins-past}
use Rattle.tl_action.proofs.JoinReads.{read-begun, read-on, read-fault, read-end, read-smaller}
use Rattle.tl_action.proofs.Rows.{known-agree, no-row}
use Rattle.tl_action.proofs.Walks.{take-past, drop-past}
use Rattle.tl_eval.specs.Frames.{assignment_in}
use Rattle.tl_eval.proofs.ArityLaws.{declared-few}
use Rattle.tl_syntax.specs.declared.bound.Bound.{Bound}
use Rattle.tl_syntax.specs.declared.variable.Var.{Var}
use Rattle.tl_syntax.specs.Assignment.{bind}
use Rattle.tl_syntax.specs.FreeVariables.{slots_of}
use Rattle.tl_syntax.specs.Lists.{Each}
use Rattle.tl_syntax.specs.Signature.{signature_of}
use Rattle.tl_terms.specs.ProblemMeaning.{plain_operator, plain_problem}
use Rattle.tl_action.proofs.join.+joined.Goals as goal

pub join_bound-returns-then-is_ruled_out-clause-rows : goal.join_bound-returns-then-is_ruled_out-clause-rows
join_bound-returns-then-is_ruled_out-clause-rows t c = no-row (IsFound (plain_problem c.args.here.now.task.now.problem)
    c.args.here.now.world.now (plain_operator (arranged c.args.order.now.bounds)) (take c.args.j (arranged c.args.order.now.bounds).bounds)
    (drop c.args.j (arranged c.args.order.now.bounds).bounds) (assignment_in c.args.env.now)) c.args.rows.now.items
    (c.is_ruled_out.ensures c.if-is_ruled_out.true)

pub join_bound-returns-then-is_ruled_out-clause-frame : goal.join_bound-returns-then-is_ruled_out-clause-frame
join_bound-returns-then-is_ruled_out-clause-frame t c = known-agree (take c.args.j (arranged c.args.order.now.bounds).bounds)
    c.args.order.now.bounds.operator.now.params (assignment_in c.args.env.now) (assignment_in c.args.env.now)
    (agree-self (slots_of c.args.order.now.bounds.operator.now.params) (assignment_in c.args.env.now))

pub join_bound-bounds-new_parameters-j : goal.join_bound-bounds-new_parameters-j
join_bound-bounds-new_parameters-j t c =
    let many = ap (λ (ls : List (List Var)). length ls) c.as_slice-new_parameters.ensures.value ∙
    new_parameters-count c.args.order.now.bounds c.args.order.now.new_parameters.items c.args.order.now.new_parameters_are in
    omega (arith, c.requires.within, many)

pub join_bound-offset_bounds-new_parameters-j : goal.join_bound-offset_bounds-new_parameters-j
join_bound-offset_bounds-new_parameters-j t c =
    let many = ap (λ (ls : List (List Var)). length ls) c.as_slice-new_parameters.ensures.value ∙
    new_parameters-count c.args.order.now.bounds c.args.order.now.new_parameters.items c.args.order.now.new_parameters_are in
    let below : c.args.j < length c.as_slice-new_parameters.result.now = omega (arith, c.requires.within, many) in
    search rules

pub join_bound-overflow_add-j : goal.join_bound-overflow_add-j
join_bound-overflow_add-j t c =
    let many = ap (λ (ls : List (List Var)). length ls) c.as_slice-new_parameters.ensures.value ∙
    new_parameters-count c.args.order.now.bounds c.args.order.now.new_parameters.items c.args.order.now.new_parameters_are in
    let below : c.args.j < length c.as_slice-new_parameters.result.now = omega (arith, c.requires.within, many) in
    search rules

pub join_bound-open_in_place-requires-clause-differ : goal.join_bound-open_in_place-requires-clause-differ
join_bound-open_in_place-requires-clause-differ t c =
    let keep = c.args.here.now.task.now.problem.domain_keeps in
    let below = c.requires.within in
    let b-is = c.bound-bound.ensures in
    let vars-is = c.index-new_parameters-j.is ∙ ap (λ (ls : List (List Var)). get_or ls c.args.j c.index-new_parameters-j.result)
    c.as_slice-new_parameters.ensures.value in
    let node : Node (signature_of c.args.here.now.task.now.problem.domain)
    (arranged c.args.order.now.bounds) c.args.j c.bound-bound.result.now c.index-new_parameters-j.result =
    node-at (signature_of c.args.here.now.task.now.problem.domain)
    (length c.args.here.now.task.now.problem.names) c.args.order.now.bounds c.args.order.now.new_parameters.items c.args.j
    c.bound-bound.result.now c.index-new_parameters-j.result (declared-few _ _ keep.predicates)
    (declared-few _ _ keep.functions) c.requires.keeps c.args.order.now.new_parameters_are below b-is vars-is in
    node.differ

pub join_bound-open_in_place-requires-clause-occur : goal.join_bound-open_in_place-requires-clause-occur
join_bound-open_in_place-requires-clause-occur t c =
    let keep = c.args.here.now.task.now.problem.domain_keeps in
    let below = c.requires.within in
    let b-is = c.bound-bound.ensures in
    let vars-is = c.index-new_parameters-j.is ∙ ap (λ (ls : List (List Var)). get_or ls c.args.j c.index-new_parameters-j.result)
    c.as_slice-new_parameters.ensures.value in
    let node : Node (signature_of c.args.here.now.task.now.problem.domain)
    (arranged c.args.order.now.bounds) c.args.j c.bound-bound.result.now c.index-new_parameters-j.result =
    node-at (signature_of c.args.here.now.task.now.problem.domain)
    (length c.args.here.now.task.now.problem.names) c.args.order.now.bounds c.args.order.now.new_parameters.items c.args.j
    c.bound-bound.result.now c.index-new_parameters-j.result (declared-few _ _ keep.predicates)
    (declared-few _ _ keep.functions) c.requires.keeps c.args.order.now.new_parameters_are below b-is vars-is in
    node.occur

pub join_bound-open_in_place-requires-clause-fits : goal.join_bound-open_in_place-requires-clause-fits
join_bound-open_in_place-requires-clause-fits t c =
    let keep = c.args.here.now.task.now.problem.domain_keeps in
    let below = c.requires.within in
    let b-is = c.bound-bound.ensures in
    let vars-is = c.index-new_parameters-j.is ∙ ap (λ (ls : List (List Var)). get_or ls c.args.j c.index-new_parameters-j.result)
    c.as_slice-new_parameters.ensures.value in
    let node : Node (signature_of c.args.here.now.task.now.problem.domain)
    (arranged c.args.order.now.bounds) c.args.j c.bound-bound.result.now c.index-new_parameters-j.result =
    node-at (signature_of c.args.here.now.task.now.problem.domain)
    (length c.args.here.now.task.now.problem.names) c.args.order.now.bounds c.args.order.now.new_parameters.items c.args.j
    c.bound-bound.result.now c.index-new_parameters-j.result (declared-few _ _ keep.predicates)
    (declared-few _ _ keep.functions) c.requires.keeps c.args.order.now.new_parameters_are below b-is vars-is in
    node.fits

pub join_bound-loop-vars-init : goal.join_bound-loop-vars-init
join_bound-loop-vars-init t c = record {
  reads = c.tuples-tuples.ensures.reads c.index-new_parameters-j.result (assignment_in c.args.env.now) c.open_in_place.ensures.stands;
  frame = known-agree (take c.args.j (arranged c.args.order.now.bounds).bounds) c.args.order.now.bounds.operator.now.params
      (assignment_in c.args.env.now) (assignment_in c.args.env.now) (agree-self (slots_of c.args.order.now.bounds.operator.now.params)
      (assignment_in c.args.env.now));
  found = read-begun (plain_problem c.args.here.now.task.now.problem) c.args.here.now.world.now
      (plain_operator (arranged c.args.order.now.bounds)) (take (c.args.j + 1) (arranged c.args.order.now.bounds).bounds)
      (drop (c.args.j + 1) (arranged c.args.order.now.bounds).bounds) (assignment_in c.args.env.now) c.index-new_parameters-j.result
      c.bound-bound.result.now c.tuples-tuples.result.tuple c.args.rows.now.items c.tuples-tuples.ensures.before;
}

pub join_bound-put_values-requires-clause-slots : goal.join_bound-put_values-requires-clause-slots
join_bound-put_values-requires-clause-slots t c =
    let keep = c.args.here.now.task.now.problem.domain_keeps in
    let below = c.requires.within in
    let b-is = c.bound-bound.ensures in
    let vars-is = c.index-new_parameters-j.is ∙ ap (λ (ls : List (List Var)). get_or ls c.args.j c.index-new_parameters-j.result)
    c.as_slice-new_parameters.ensures.value in
    let node : Node (signature_of c.args.here.now.task.now.problem.domain)
    (arranged c.args.order.now.bounds) c.args.j c.bound-bound.result.now c.index-new_parameters-j.result =
    node-at (signature_of c.args.here.now.task.now.problem.domain)
    (length c.args.here.now.task.now.problem.names) c.args.order.now.bounds c.args.order.now.new_parameters.items c.args.j
    c.bound-bound.result.now c.index-new_parameters-j.result (declared-few _ _ keep.predicates)
    (declared-few _ _ keep.functions) c.requires.keeps c.args.order.now.new_parameters_are below b-is vars-is in
    subst (Each (λ (s : Var). s.slot < 32)) (sym c.as_slice.ensures) node.frame

pub join_bound-put_values-requires-clause-same : goal.join_bound-put_values-requires-clause-same
join_bound-put_values-requires-clause-same t c =
    ap (λ (ss : List Var). length ss) c.as_slice.ensures ∙ sym (c.values.ensures.count _ c.index-new_parameters-j.result
    (assignment_in c.args.env.now) c.bound-bound.result.now (c.next.ensures.reads _ _ c.index-new_parameters-j.result
    (assignment_in c.args.env.now) c.loop-vars.invariant.reads))

pub join_bound-returns-in-Err-clause-rows : goal.join_bound-returns-in-Err-clause-rows
join_bound-returns-in-Err-clause-rows t c =
    let keep = c.args.here.now.task.now.problem.domain_keeps in
    let below = c.requires.within in
    let b-is = c.bound-bound.ensures in
    let vars-is = c.index-new_parameters-j.is ∙ ap (λ (ls : List (List Var)). get_or ls c.args.j c.index-new_parameters-j.result)
    c.as_slice-new_parameters.ensures.value in
    let node : Node (signature_of c.args.here.now.task.now.problem.domain)
    (arranged c.args.order.now.bounds) c.args.j c.bound-bound.result.now c.index-new_parameters-j.result =
    node-at (signature_of c.args.here.now.task.now.problem.domain)
    (length c.args.here.now.task.now.problem.names) c.args.order.now.bounds c.args.order.now.new_parameters.items c.args.j
    c.bound-bound.result.now c.index-new_parameters-j.result (declared-few _ _ keep.predicates)
    (declared-few _ _ keep.functions) c.requires.keeps c.args.order.now.new_parameters_are below b-is vars-is in
    let e = assignment_in c.args.env.now in
    let next = c.next.ensures.next _ _ c.index-new_parameters-j.result e c.loop-vars.invariant.reads in
    let d = assignment_in c.put_values.new.self in
    let put : d ≡ bind c.index-new_parameters-j.result c.values.result.now (assignment_in c.loop-vars.env) = c.put_values.ensures.values ∙
    ap (λ (ss : List Var). bind ss c.values.result.now (assignment_in c.loop-vars.env)) c.as_slice.ensures in
    read-fault (signature_of c.args.here.now.task.now.problem.domain) (plain_problem c.args.here.now.task.now.problem)
    c.args.here.now.world.now (arranged c.args.order.now.bounds) c.args.j c.bound-bound.result.now c.index-new_parameters-j.result below
    b-is node e c.loop-vars.tuples.tuple c.next.new.self.tuple next c.args.rows.now.items c.loop-vars.rows.items
    c.loop-vars.invariant.found (assignment_in c.loop-vars.env) d c.values.result.now c.values.ensures.values put
    c.loop-vars.invariant.frame c.in-Err.fault c.in-Err.ensures.rows

pub join_bound-returns-in-Err-clause-frame : goal.join_bound-returns-in-Err-clause-frame
join_bound-returns-in-Err-clause-frame t c =
    let keep = c.args.here.now.task.now.problem.domain_keeps in
    let below = c.requires.within in
    let b-is = c.bound-bound.ensures in
    let vars-is = c.index-new_parameters-j.is ∙ ap (λ (ls : List (List Var)). get_or ls c.args.j c.index-new_parameters-j.result)
    c.as_slice-new_parameters.ensures.value in
    let node : Node (signature_of c.args.here.now.task.now.problem.domain)
    (arranged c.args.order.now.bounds) c.args.j c.bound-bound.result.now c.index-new_parameters-j.result =
    node-at (signature_of c.args.here.now.task.now.problem.domain)
    (length c.args.here.now.task.now.problem.names) c.args.order.now.bounds c.args.order.now.new_parameters.items c.args.j
    c.bound-bound.result.now c.index-new_parameters-j.result (declared-few _ _ keep.predicates)
    (declared-few _ _ keep.functions) c.requires.keeps c.args.order.now.new_parameters_are below b-is vars-is in
    let d = assignment_in c.put_values.new.self in
    let put : d ≡ bind c.index-new_parameters-j.result c.values.result.now (assignment_in c.loop-vars.env) = c.put_values.ensures.values ∙
    ap (λ (ss : List Var). bind ss c.values.result.now (assignment_in c.loop-vars.env)) c.as_slice.ensures in
    node-frame (signature_of c.args.here.now.task.now.problem.domain) (plain_problem c.args.here.now.task.now.problem)
    c.args.here.now.world.now (arranged c.args.order.now.bounds) c.args.j c.bound-bound.result.now c.index-new_parameters-j.result below
    b-is node (assignment_in c.args.env.now) (assignment_in c.loop-vars.env) d
    (assignment_in c.join.new.env) c.values.result.now put c.loop-vars.invariant.frame c.join.ensures.frame

pub join_bound-loop-vars-preserved : goal.join_bound-loop-vars-preserved
join_bound-loop-vars-preserved t c =
    let keep = c.args.here.now.task.now.problem.domain_keeps in
    let below = c.requires.within in
    let b-is = c.bound-bound.ensures in
    let vars-is = c.index-new_parameters-j.is ∙ ap (λ (ls : List (List Var)). get_or ls c.args.j c.index-new_parameters-j.result)
    c.as_slice-new_parameters.ensures.value in
    let node : Node (signature_of c.args.here.now.task.now.problem.domain)
    (arranged c.args.order.now.bounds) c.args.j c.bound-bound.result.now c.index-new_parameters-j.result =
    node-at (signature_of c.args.here.now.task.now.problem.domain)
    (length c.args.here.now.task.now.problem.names) c.args.order.now.bounds c.args.order.now.new_parameters.items c.args.j
    c.bound-bound.result.now c.index-new_parameters-j.result (declared-few _ _ keep.predicates)
    (declared-few _ _ keep.functions) c.requires.keeps c.args.order.now.new_parameters_are below b-is vars-is in
    let e = assignment_in c.args.env.now in
    let next = c.next.ensures.next _ _ c.index-new_parameters-j.result e c.loop-vars.invariant.reads in
    let d = assignment_in c.put_values.new.self in
    let put : d ≡ bind c.index-new_parameters-j.result c.values.result.now (assignment_in c.loop-vars.env) = c.put_values.ensures.values ∙
    ap (λ (ss : List Var). bind ss c.values.result.now (assignment_in c.loop-vars.env)) c.as_slice.ensures in
    record {
      reads = c.next.ensures.reads _ _ c.index-new_parameters-j.result e c.loop-vars.invariant.reads;
      frame = node-frame (signature_of c.args.here.now.task.now.problem.domain)
          (plain_problem c.args.here.now.task.now.problem) c.args.here.now.world.now
          (arranged c.args.order.now.bounds) c.args.j c.bound-bound.result.now c.index-new_parameters-j.result below b-is node e
          (assignment_in c.loop-vars.env) d (assignment_in c.join.new.env) c.values.result.now put c.loop-vars.invariant.frame
          c.join.ensures.frame;
      found = read-on (signature_of c.args.here.now.task.now.problem.domain)
          (plain_problem c.args.here.now.task.now.problem) c.args.here.now.world.now
          (arranged c.args.order.now.bounds) c.args.j c.bound-bound.result.now c.index-new_parameters-j.result below b-is node e
          c.loop-vars.tuples.tuple c.next.new.self.tuple next c.args.rows.now.items c.loop-vars.rows.items c.loop-vars.invariant.found
          (assignment_in c.loop-vars.env) d c.values.result.now c.join.new.rows.items c.values.ensures.values put
          c.loop-vars.invariant.frame c.in-Ok.ensures.rows;
    }

pub join_bound-loop-vars-smaller : goal.join_bound-loop-vars-smaller
join_bound-loop-vars-smaller t c =
    let keep = c.args.here.now.task.now.problem.domain_keeps in
    let below = c.requires.within in
    let b-is = c.bound-bound.ensures in
    let vars-is = c.index-new_parameters-j.is ∙ ap (λ (ls : List (List Var)). get_or ls c.args.j c.index-new_parameters-j.result)
    c.as_slice-new_parameters.ensures.value in
    let node : Node (signature_of c.args.here.now.task.now.problem.domain)
    (arranged c.args.order.now.bounds) c.args.j c.bound-bound.result.now c.index-new_parameters-j.result =
    node-at (signature_of c.args.here.now.task.now.problem.domain)
    (length c.args.here.now.task.now.problem.names) c.args.order.now.bounds c.args.order.now.new_parameters.items c.args.j
    c.bound-bound.result.now c.index-new_parameters-j.result (declared-few _ _ keep.predicates)
    (declared-few _ _ keep.functions) c.requires.keeps c.args.order.now.new_parameters_are below b-is vars-is in
    let e = assignment_in c.args.env.now in
    let next = c.next.ensures.next _ _ c.index-new_parameters-j.result e c.loop-vars.invariant.reads in
    read-smaller (signature_of c.args.here.now.task.now.problem.domain)
    (plain_problem c.args.here.now.task.now.problem) c.args.here.now.world.now
    (arranged c.args.order.now.bounds) c.args.j c.bound-bound.result.now c.index-new_parameters-j.result below b-is node e
    c.loop-vars.tuples.tuple c.next.new.self.tuple next c.args.rows.now.items c.loop-vars.rows.items c.loop-vars.invariant.found
    c.values.result.now c.values.ensures.values

pub join_bound-returns-clause-rows : goal.join_bound-returns-clause-rows
join_bound-returns-clause-rows t c =
    let keep = c.args.here.now.task.now.problem.domain_keeps in
    let below = c.requires.within in
    let b-is = c.bound-bound.ensures in
    let vars-is = c.index-new_parameters-j.is ∙ ap (λ (ls : List (List Var)). get_or ls c.args.j c.index-new_parameters-j.result)
    c.as_slice-new_parameters.ensures.value in
    let node : Node (signature_of c.args.here.now.task.now.problem.domain)
    (arranged c.args.order.now.bounds) c.args.j c.bound-bound.result.now c.index-new_parameters-j.result =
    node-at (signature_of c.args.here.now.task.now.problem.domain)
    (length c.args.here.now.task.now.problem.names) c.args.order.now.bounds c.args.order.now.new_parameters.items c.args.j
    c.bound-bound.result.now c.index-new_parameters-j.result (declared-few _ _ keep.predicates)
    (declared-few _ _ keep.functions) c.requires.keeps c.args.order.now.new_parameters_are below b-is vars-is in
    let e = assignment_in c.args.env.now in
    let next = c.next.ensures.next _ _ c.index-new_parameters-j.result e c.loop-vars.invariant.reads in
    read-end (signature_of c.args.here.now.task.now.problem.domain) (plain_problem c.args.here.now.task.now.problem)
    c.args.here.now.world.now (arranged c.args.order.now.bounds) c.args.j c.bound-bound.result.now c.index-new_parameters-j.result below
    b-is node e c.loop-vars.tuples.tuple c.next.new.self.tuple next c.args.rows.now.items c.loop-vars.rows.items
    c.loop-vars.invariant.found (c.next.ensures.end c.loop-vars-test.false)

pub join-join_bound-requires : goal.join-join_bound-requires
join-join_bound-requires t c =
    let many = c.len.ensures in
    let count = new_parameters-count c.args.order.now.bounds c.args.order.now.new_parameters.items c.args.order.now.new_parameters_are in
    (omega (arith, c.in-Some.ensures.passed.later, c.decreases), (c.requires.keeps, omega (arith, c.if-k-len.true, many, count)))

pub join-returns-then-k-len-clause-rows : goal.join-returns-then-k-len-clause-rows
join-returns-then-k-len-clause-rows t c =
    joins-past (plain_problem c.args.here.now.task.now.problem) c.args.here.now.world.now (arranged c.args.order.now.bounds)
    (assignment_in c.args.env.now) c.args.j c.in-Some.k c.in-Some.ensures.passed c.args.rows.now.items c.join_bound.new.rows.items
    c.join_bound.result c.join_bound.ensures.rows

pub join-returns-then-k-len-clause-frame : goal.join-returns-then-k-len-clause-frame
join-returns-then-k-len-clause-frame t c = c.in-Some.ensures.passed.known (assignment_in c.join_bound.new.env)
    (assignment_in c.args.env.now) c.join_bound.ensures.frame

pub join-returns-else-k-len-clause-rows : goal.join-returns-else-k-len-clause-rows
join-returns-else-k-len-clause-rows t c =
    let past : length (arranged c.args.order.now.bounds).bounds ≤ c.in-Some.k = let many = c.len.ensures in let count =
    new_parameters-count c.args.order.now.bounds c.args.order.now.new_parameters.items c.args.order.now.new_parameters_are in
    omega (arith, c.if-k-len.false, many, count) in
    joins-past (plain_problem c.args.here.now.task.now.problem) c.args.here.now.world.now (arranged c.args.order.now.bounds)
    (assignment_in c.args.env.now) c.args.j c.in-Some.k c.in-Some.ensures.passed c.args.rows.now.items c.find_row.new.rows.items
    c.find_row.result
    (subst (λ (bs : List Bound). AddsRows (plain_problem c.args.here.now.task.now.problem) c.args.here.now.world.now
    (plain_operator (arranged c.args.order.now.bounds)) bs (drop c.in-Some.k (arranged c.args.order.now.bounds).bounds)
    (assignment_in c.args.env.now) c.args.rows.now.items c.find_row.new.rows.items c.find_row.result)
    (sym (take-past (arranged c.args.order.now.bounds).bounds c.in-Some.k past))
    (subst (λ (bs : List Bound). AddsRows (plain_problem c.args.here.now.task.now.problem) c.args.here.now.world.now
    (plain_operator (arranged c.args.order.now.bounds)) (arranged c.args.order.now.bounds).bounds bs
    (assignment_in c.args.env.now) c.args.rows.now.items c.find_row.new.rows.items c.find_row.result)
    (sym (drop-past (arranged c.args.order.now.bounds).bounds c.in-Some.k past)) c.find_row.ensures.rows))

pub join-returns-else-k-len-clause-frame : goal.join-returns-else-k-len-clause-frame
join-returns-else-k-len-clause-frame t c = known-agree (take c.args.j (arranged c.args.order.now.bounds).bounds)
    c.args.order.now.bounds.operator.now.params (assignment_in c.find_row.new.env) (assignment_in c.args.env.now) c.find_row.ensures.frame

pub join-returns-in-None-clause-frame : goal.join-returns-in-None-clause-frame
join-returns-in-None-clause-frame t c = known-agree (take c.args.j (arranged c.args.order.now.bounds).bounds)
    c.args.order.now.bounds.operator.now.params (assignment_in c.args.env.now) (assignment_in c.args.env.now)
    (agree-self (slots_of c.args.order.now.bounds.operator.now.params) (assignment_in c.args.env.now))
