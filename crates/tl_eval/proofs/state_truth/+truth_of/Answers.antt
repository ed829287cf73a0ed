use Rattle.std.proofs.Common.{◌≡◌, ◌<◌, ◌+◌, ◌-◌, List, length, take, Option, Some, None, Result, Ok, Err, Bool, true, false, refl, sym, ap}
use Rattle.std.proofs.Common.{◌∙◌, subst, suc, arith}
use Rattle.std.proofs.lemmas.List.{length-take}
use Rattle.tl_eval.specs.Frames.{assignment_in}
use Rattle.tl_eval.specs.PatternOf.{IsPatternOf}
use Rattle.tl_eval.specs.Remembered.{remembered}
use Rattle.tl_eval.specs.StateTruth.{IsTruth}
use Rattle.tl_eval.specs.declared.range.RangeNote.{RangeNote}
use Rattle.tl_eval.proofs.ArityLaws.{AreFew, declared-few}
use Rattle.tl_eval.proofs.BindLaws.{bind-through}
use Rattle.tl_eval.proofs.BodyLaws.{at_definition, at_own, at_own_level, body-is, defined-few, few-visible}
use Rattle.tl_eval.proofs.DecidedLaws.{same-truth, other-truth}
use Rattle.tl_eval.proofs.FormulaParts.{arguments-Atom, arguments-Defined, takes-Defined, sides-Compare, few-GoalFact, few-GoalNot}
use Rattle.tl_eval.proofs.FormulaParts.{few-GoalPlace, part-Defined, part-Not, part-And, part-Or, part-ForAll, part-Exists, item-fits}
use Rattle.tl_eval.proofs.FormulaParts.{tuples-fit}
use Rattle.tl_eval.proofs.FormulaSizes.{formula_nodes, formulas_nodes, lighter, body-lighter, level-lighter}
use Rattle.tl_eval.proofs.KeptLaws.{all-back, same-frame}
use Rattle.tl_eval.proofs.ReadingLaws.{read-at, read-closed, read-opened}
use Rattle.tl_eval.proofs.RememberedLaws.{right-among, truths-from, answer-at}
use Rattle.tl_eval.proofs.StateLaws.{TuplesPassed, tuples_read, at-True, at-False, at-Next, at-Always, at-Eventually, at-Until, at-Within}
use Rattle.tl_eval.proofs.StateLaws.{at-During, at-Atom, at-Compare, at-GoalFact, at-GoalNot, at-GoalPlace, at-Not, at-Not-Err, at-Defined}
use Rattle.tl_eval.proofs.StateLaws.{at-And, at-Or, at-ForAll, at-Exists, defined-values, defined-None, defined-Err, parts-begun, parts-on}
use Rattle.tl_eval.proofs.StateLaws.{parts-stop, parts-noted, parts-end, closed-is, opened-is, count-values, tuples-begun, tuples-end}
use Rattle.tl_eval.proofs.StateLaws.{fewer-left, tuples-on, tuples-stop, tuples-noted}
use Rattle.tl_eval.proofs.TermLaws.{all-found}
use Rattle.tl_eval.proofs.TupleRest.{rest_after}
use Rattle.tl_syntax.specs.declared.value.Value.{Value}
use Rattle.tl_syntax.specs.declared.problem.Problem.{Problem}
use Rattle.tl_syntax.specs.Assignment.{Assignment}
use Rattle.tl_syntax.specs.Signature.{signature_of}
use Rattle.tl_syntax.specs.TreeOfFormula.{tree_of_formula, tree_of_formulas}
use Rattle.tl_syntax.specs.TreeOfTerm.{tree_of_terms}
use Rattle.tl_syntax.specs.Trees.{defined}
use Rattle.tl_terms.specs.ProblemMeaning.{plain_definition, plain_problem}
use Rattle.tl_terms.specs.Looked.{looked_in_terms}
use Rattle.tl_terms.specs.Terms.{term_values}
use Rattle.tl_eval.proofs.state_truth.+truth_of.Goals as goal

-- ---- the body of a definition

pub opened_true-keep-requires-clause-few : goal.opened_true-keep-requires-clause-few
opened_true-keep-requires-clause-few t c =
    let d = c.index-as_slice-reading.result in
    let at = at_own c.args.here.now.task.now.problem c.args.reading.level c.args.reading.number
    (length c.args.values.now) c.as_slice.result.now d c.as_slice.ensures c.requires.takes c.index-as_slice-reading.is in
    let lower : c.args.reading.level ≡ suc (c.args.reading.level - 1) = omega (arith, c.requires.level) in
    let body = body-is c.args.here.now.task.now.problem c.args.reading.number c.args.reading.level c.args.reading.number
    (c.args.reading.level - 1) d at.listed at.below (at.level ∙ lower) in
    rw c.as_slice-params.ensures body.few

pub opened_true-put_in_scope-requires-clause-slots : goal.opened_true-put_in_scope-requires-clause-slots
opened_true-put_in_scope-requires-clause-slots t c =
    let d = c.index-as_slice-reading.result in
    let at = at_own c.args.here.now.task.now.problem c.args.reading.level c.args.reading.number
    (length c.args.values.now) c.as_slice.result.now d c.as_slice.ensures c.requires.takes c.index-as_slice-reading.is in
    let lower : c.args.reading.level ≡ suc (c.args.reading.level - 1) = omega (arith, c.requires.level) in
    let body = body-is c.args.here.now.task.now.problem c.args.reading.number c.args.reading.level c.args.reading.number
    (c.args.reading.level - 1) d at.listed at.below (at.level ∙ lower) in
    rw c.as_slice-params.ensures body.in_frame

pub opened_true-put_in_scope-requires-clause-same : goal.opened_true-put_in_scope-requires-clause-same
opened_true-put_in_scope-requires-clause-same t c =
    let d = c.index-as_slice-reading.result in
    let at = at_own c.args.here.now.task.now.problem c.args.reading.level c.args.reading.number
    (length c.args.values.now) c.as_slice.result.now d c.as_slice.ensures c.requires.takes c.index-as_slice-reading.is in
    rw c.as_slice-params.ensures at.params

pub opened_true-truth_of-truth-requires : goal.opened_true-truth_of-truth-requires
opened_true-truth_of-truth-requires t c =
    let p = plain_problem c.args.here.now.task.now.problem in
    let d = c.index-as_slice-reading.result in
    let at = at_own c.args.here.now.task.now.problem c.args.reading.level c.args.reading.number
    (length c.args.values.now) c.as_slice.result.now d c.as_slice.ensures c.requires.takes c.index-as_slice-reading.is in
    let lower : c.args.reading.level ≡ suc (c.args.reading.level - 1) = omega (arith, c.requires.level) in
    let body = body-is c.args.here.now.task.now.problem c.args.reading.number c.args.reading.level c.args.reading.number
    (c.args.reading.level - 1) d at.listed at.below (at.level ∙ lower) in
    let less = body-lighter p c.args.reading.number c.args.reading.level c.args.reading.number (c.args.reading.level - 1)
    (formula_nodes (tree_of_formula d.body)) body.falls body.smaller in
    (omega (arith, less, c.decreases), (body.fits, (omega (arith, c.put_in_scope.auto.frames, c.requires.room), c.requires.truths)))

pub opened_true-give_back-requires-clause-slots : goal.opened_true-give_back-requires-clause-slots
opened_true-give_back-requires-clause-slots t c =
    let d = c.index-as_slice-reading.result in
    let at = at_own c.args.here.now.task.now.problem c.args.reading.level c.args.reading.number
    (length c.args.values.now) c.as_slice.result.now d c.as_slice.ensures c.requires.takes c.index-as_slice-reading.is in
    let lower : c.args.reading.level ≡ suc (c.args.reading.level - 1) = omega (arith, c.requires.level) in
    let body = body-is c.args.here.now.task.now.problem c.args.reading.number c.args.reading.level c.args.reading.number
    (c.args.reading.level - 1) d at.listed at.below (at.level ∙ lower) in
    rw c.as_slice-params.ensures body.in_frame

pub opened_true-give_back-requires-clause-few : goal.opened_true-give_back-requires-clause-few
opened_true-give_back-requires-clause-few t c =
    let d = c.index-as_slice-reading.result in
    let at = at_own c.args.here.now.task.now.problem c.args.reading.level c.args.reading.number
    (length c.args.values.now) c.as_slice.result.now d c.as_slice.ensures c.requires.takes c.index-as_slice-reading.is in
    let lower : c.args.reading.level ≡ suc (c.args.reading.level - 1) = omega (arith, c.requires.level) in
    let body = body-is c.args.here.now.task.now.problem c.args.reading.number c.args.reading.level c.args.reading.number
    (c.args.reading.level - 1) d at.listed at.below (at.level ∙ lower) in
    rw c.as_slice-params.ensures body.few

pub opened_true-returns-clause-truth : goal.opened_true-returns-clause-truth
opened_true-returns-clause-truth t c =
    let p = plain_problem c.args.here.now.task.now.problem in
    let d = c.index-as_slice-reading.result in
    let at = at_own c.args.here.now.task.now.problem c.args.reading.level c.args.reading.number
    (length c.args.values.now) c.as_slice.result.now d c.as_slice.ensures c.requires.takes c.index-as_slice-reading.is in
    let lower : c.args.reading.level ≡ suc (c.args.reading.level - 1) = omega (arith, c.requires.level) in
    opened-is p c.args.here.now.world.now c.args.reading.number c.args.reading.level c.args.reading.number (c.args.reading.level - 1)
    (plain_definition d) c.args.values.now (assignment_in (take 32 c.put_in_scope.new.frames)) _ c.truth_of-truth.result
    (read-opened p c.args.here.now.world.now c.args.reading.number c.args.reading.level c.args.reading.number (c.args.reading.level - 1)
    (plain_definition d) c.args.values.now at.there at.below (at.level ∙ lower))
    (c.args.here.now.task.now.problem.domain_keeps.definitions c.args.reading.number d at.listed).scope
    (rw c.as_slice-params.ensures at c.put_in_scope.ensures)
    c.truth_of-truth.ensures.truth

pub opened_true-returns-clause-frame : goal.opened_true-returns-clause-frame
opened_true-returns-clause-frame t c =
    let size : length (take 32 c.give_back.new.frames) ≡ length (take 32 c.args.frames.now) =
    omega (
      arith,
      length-take 32 c.give_back.new.frames,
      length-take 32 c.args.frames.now,
      c.give_back.auto.frames,
      c.truth_of-truth.auto.frames,
      c.put_in_scope.auto.frames,
    ) in
    same-frame (take 32 c.give_back.new.frames) (take 32 c.args.frames.now) size
    (c.give_back.ensures ∙ all-back c.as_slice-params.result.now c.keep.new.values (assignment_in (take 32 c.truth_of-truth.new.frames))
    (assignment_in (take 32 c.args.frames.now))
    (λ u. bind-through c.as_slice-params.result.now u c.args.values.now (assignment_in (take 32 c.truth_of-truth.new.frames))
    (assignment_in (take 32 c.args.frames.now)) (ap assignment_in c.truth_of-truth.ensures.frame ∙ c.put_in_scope.ensures))
    c.keep.ensures)

-- ---- a definition of values, as it is remembered or else by its body

pub body_true-returns-then-level-eq0-clause-truth : goal.body_true-returns-then-level-eq0-clause-truth
body_true-returns-then-level-eq0-clause-truth t c =
    let p = plain_problem c.args.here.now.task.now.problem in
    let d = c.index-as_slice-number.result in
    let at = at_definition c.args.here.now.task.now.problem c.args.here.now.reading.number c.args.here.now.reading.level c.args.number
    (length c.args.values.now) c.level_of-level.result c.as_slice.result.now d c.as_slice.ensures c.requires.takes
    c.index-as_slice-number.is c.level_of-level.ensures in
    closed-is p c.args.here.now.world.now c.args.here.now.reading.number c.args.here.now.reading.level c.args.number c.args.values.now
    (read-closed p c.args.here.now.world.now c.args.here.now.reading.number c.args.here.now.reading.level c.args.number
    (plain_definition d) c.args.values.now at.there at.below (at.level ∙ c.if-level-eq0.true))

pub body_true-find-requires : goal.body_true-find-requires
body_true-find-requires t c = few-visible (signature_of c.args.here.now.task.now.problem.domain).definitions
    (c.args.here.now.reading.number + 1) (defined-few _ _ c.args.here.now.task.now.problem.domain.definitions
    c.args.here.now.task.now.problem.domain_keeps.definitions) c.args.number (length c.args.values.now) c.requires.takes

pub body_true-returns-in-Some-clause-truth : goal.body_true-returns-in-Some-clause-truth
body_true-returns-in-Some-clause-truth t c =
    let q = c.args.here.now.task.now.problem in
    let p = plain_problem q in
    let d = c.index-as_slice-number.result in
    let at = at_definition q c.args.here.now.reading.number c.args.here.now.reading.level c.args.number
    (length c.args.values.now) c.level_of-level.result c.as_slice.result.now d c.as_slice.ensures c.requires.takes
    c.index-as_slice-number.is c.level_of-level.ensures in
    let there = read-at p c.args.here.now.world.now c.args.here.now.reading.number c.args.here.now.reading.level c.args.number
    c.level_of-level.result (plain_definition d) c.args.values.now at.there at.below at.level in
    let r : Result Bool RangeNote = Ok c.in-Some.truth in
    answer-at p c.args.here.now.world.now c.args.here.now.reading.number c.args.here.now.reading.level c.args.number c.level_of-level.result
    c.args.values.now r there
    (right-among p c.args.here.now.world.now (remembered c.args.number c.level_of-level.result c.args.values.now c.in-Some.truth)
    c.args.memory.now c.requires.truths c.in-Some.ensures)

pub body_true-opened_true-requires : goal.body_true-opened_true-requires
body_true-opened_true-requires t c =
    let q = c.args.here.now.task.now.problem in
    let p = plain_problem q in
    let d = c.index-as_slice-number.result in
    let at = at_definition q c.args.here.now.reading.number c.args.here.now.reading.level c.args.number
    (length c.args.values.now) c.level_of-level.result c.as_slice.result.now d c.as_slice.ensures c.requires.takes
    c.index-as_slice-number.is c.level_of-level.ensures in
    let above : 0 < c.level_of-level.result = omega (arith, c.if-level-eq0.false) in
    let own = at_own_level q c.args.here.now.reading.number c.args.here.now.reading.level c.args.number
    (length c.args.values.now) c.level_of-level.result d at c.requires.takes above in
    let less = level-lighter p c.args.here.now.reading.number c.args.here.now.reading.level c.args.number c.level_of-level.result own.rank
    in
    (omega (arith, less, c.decreases), (own.takes, (above, (c.requires.room, c.requires.truths))))

pub body_true-put-requires : goal.body_true-put-requires
body_true-put-requires t c = few-visible (signature_of c.args.here.now.task.now.problem.domain).definitions
    (c.args.here.now.reading.number + 1) (defined-few _ _ c.args.here.now.task.now.problem.domain.definitions
    c.args.here.now.task.now.problem.domain_keeps.definitions) c.args.number (length c.args.values.now) c.requires.takes

pub body_true-returns-in-Ok-clause-truth : goal.body_true-returns-in-Ok-clause-truth
body_true-returns-in-Ok-clause-truth t c =
    let q = c.args.here.now.task.now.problem in
    let p = plain_problem q in
    let d = c.index-as_slice-number.result in
    let at = at_definition q c.args.here.now.reading.number c.args.here.now.reading.level c.args.number
    (length c.args.values.now) c.level_of-level.result c.as_slice.result.now d c.as_slice.ensures c.requires.takes
    c.index-as_slice-number.is c.level_of-level.ensures in
    let there = read-at p c.args.here.now.world.now c.args.here.now.reading.number c.args.here.now.reading.level c.args.number
    c.level_of-level.result (plain_definition d) c.args.values.now at.there at.below at.level in
    let r : Result Bool RangeNote = Ok c.in-Ok.truth in
    answer-at p c.args.here.now.world.now c.args.here.now.reading.number c.args.here.now.reading.level c.args.number c.level_of-level.result
    c.args.values.now r there c.in-Ok.ensures.truth

pub body_true-returns-in-Ok-clause-truths : goal.body_true-returns-in-Ok-clause-truths
body_true-returns-in-Ok-clause-truths t c =
    truths-from (plain_problem c.args.here.now.task.now.problem) c.args.here.now.world.now
    (remembered c.args.number c.level_of-level.result c.args.values.now c.in-Ok.truth) c.opened_true.new.memory c.put.new.self
    c.opened_true.ensures.truths c.in-Ok.ensures.truth c.put.ensures

pub body_true-returns-in-Err-clause-truth : goal.body_true-returns-in-Err-clause-truth
body_true-returns-in-Err-clause-truth t c =
    let q = c.args.here.now.task.now.problem in
    let p = plain_problem q in
    let d = c.index-as_slice-number.result in
    let at = at_definition q c.args.here.now.reading.number c.args.here.now.reading.level c.args.number
    (length c.args.values.now) c.level_of-level.result c.as_slice.result.now d c.as_slice.ensures c.requires.takes
    c.index-as_slice-number.is c.level_of-level.ensures in
    let there = read-at p c.args.here.now.world.now c.args.here.now.reading.number c.args.here.now.reading.level c.args.number
    c.level_of-level.result (plain_definition d) c.args.values.now at.there at.below at.level in
    let r : Result Bool RangeNote = Err c.in-Err.note in
    answer-at p c.args.here.now.world.now c.args.here.now.reading.number c.args.here.now.reading.level c.args.number c.level_of-level.result
    c.args.values.now r there c.in-Err.ensures.truth

-- ---- an atom of a definition

pub defined_true-put_values_of_terms-requires-clause-small : goal.defined_true-put_values_of_terms-requires-clause-small
defined_true-put_values_of_terms-requires-clause-small t c =
    let domain = c.args.here.now.task.now.problem.domain in
    let keeps = c.args.here.now.task.now.problem.domain_keeps in
    let arguments = arguments-Defined (signature_of domain) c.args.here.now.reading.number c.args.number (tree_of_terms c.args.args.now)
    (few-visible (signature_of domain).definitions (c.args.here.now.reading.number + 1)
    (defined-few _ _ domain.definitions keeps.definitions)) (declared-few _ domain.functions keeps.functions) c.requires.fits in
    arguments.small

pub defined_true-put_values_of_terms-requires-clause-few : goal.defined_true-put_values_of_terms-requires-clause-few
defined_true-put_values_of_terms-requires-clause-few t c =
    let domain = c.args.here.now.task.now.problem.domain in
    let keeps = c.args.here.now.task.now.problem.domain_keeps in
    let arguments = arguments-Defined (signature_of domain) c.args.here.now.reading.number c.args.number (tree_of_terms c.args.args.now)
    (few-visible (signature_of domain).definitions (c.args.here.now.reading.number + 1)
    (defined-few _ _ domain.definitions keeps.definitions)) (declared-few _ domain.functions keeps.functions) c.requires.fits in
    arguments.few

pub defined_true-body_true-requires : goal.defined_true-body_true-requires
defined_true-body_true-requires t c =
    let p = plain_problem c.args.here.now.task.now.problem in
    let less = lighter p c.args.here.now.reading.number c.args.here.now.reading.level 1 2 (omega arith) in
    let found = all-found (term_values c.args.here.now.world.now (assignment_in c.current.result.now) (tree_of_terms c.args.args.now))
    (looked_in_terms c.args.here.now.world.now (assignment_in c.current.result.now) (tree_of_terms c.args.args.now))
    c.put_values_of_terms.new.row c.in-Ok.all true c.if-all.true c.in-Ok.ensures in
    let are : term_values c.args.here.now.world.now (assignment_in c.current.result.now) (tree_of_terms c.args.args.now) ≡
    Some c.put_values_of_terms.new.row = sym found.0 in
    let count = ap (λ (row : List Value). length row) c.as_slice.ensures ∙
    count-values c.args.here.now.world.now (assignment_in c.current.result.now)
    (tree_of_terms c.args.args.now) c.put_values_of_terms.new.row are in (
      omega (arith, less, c.decreases),
      (
        takes-Defined (signature_of c.args.here.now.task.now.problem.domain) c.args.here.now.reading.number
            c.args.number (length c.as_slice.result.now) (tree_of_terms c.args.args.now) count c.requires.fits,
        (c.requires.room, c.requires.truths),
      ),
    )

pub defined_true-returns-then-all-clause-truth : goal.defined_true-returns-then-all-clause-truth
defined_true-returns-then-all-clause-truth t c =
    let found = all-found (term_values c.args.here.now.world.now (assignment_in c.current.result.now) (tree_of_terms c.args.args.now))
    (looked_in_terms c.args.here.now.world.now (assignment_in c.current.result.now) (tree_of_terms c.args.args.now))
    c.put_values_of_terms.new.row c.in-Ok.all true c.if-all.true c.in-Ok.ensures in
    subst (λ (x : List (Option Value)). IsTruth (plain_problem c.args.here.now.task.now.problem) c.args.here.now.world.now
    c.args.here.now.reading.number c.args.here.now.reading.level (assignment_in x)
    (defined c.args.number (tree_of_terms c.args.args.now)) c.body_true.result) c.current.ensures
    (defined-values (plain_problem c.args.here.now.task.now.problem) c.args.here.now.world.now c.args.here.now.reading.number
    c.args.here.now.reading.level (assignment_in c.current.result.now) c.args.number c.args.args.now
    (Some c.put_values_of_terms.new.row) c.put_values_of_terms.new.row c.as_slice.result.now c.body_true.result
    found refl c.as_slice.ensures c.body_true.ensures.truth)

pub defined_true-returns-else-all-clause-truth : goal.defined_true-returns-else-all-clause-truth
defined_true-returns-else-all-clause-truth t c =
    let r : Result Bool RangeNote = Ok false in
    let found = all-found (term_values c.args.here.now.world.now (assignment_in c.current.result.now) (tree_of_terms c.args.args.now))
    (looked_in_terms c.args.here.now.world.now (assignment_in c.current.result.now) (tree_of_terms c.args.args.now))
    c.put_values_of_terms.new.row c.in-Ok.all false c.if-all.false c.in-Ok.ensures in
    subst (λ (x : List (Option Value)). IsTruth (plain_problem c.args.here.now.task.now.problem) c.args.here.now.world.now
    c.args.here.now.reading.number c.args.here.now.reading.level (assignment_in x)
    (defined c.args.number (tree_of_terms c.args.args.now)) r) c.current.ensures
    (defined-None (plain_problem c.args.here.now.task.now.problem) c.args.here.now.world.now c.args.here.now.reading.number
    c.args.here.now.reading.level (assignment_in c.current.result.now) c.args.number c.args.args.now None found refl)

pub defined_true-returns-in-Err-clause-truth : goal.defined_true-returns-in-Err-clause-truth
defined_true-returns-in-Err-clause-truth t c =
    let r : Result Bool RangeNote = Err c.in-Err.note in
    subst (λ (x : List (Option Value)). IsTruth (plain_problem c.args.here.now.task.now.problem) c.args.here.now.world.now
    c.args.here.now.reading.number c.args.here.now.reading.level (assignment_in x)
    (defined c.args.number (tree_of_terms c.args.args.now)) r) c.current.ensures
    (defined-Err (plain_problem c.args.here.now.task.now.problem) c.args.here.now.world.now c.args.here.now.reading.number
    c.args.here.now.reading.level (assignment_in c.current.result.now) c.args.number c.args.args.now c.in-Err.note c.in-Err.ensures)

-- ---- the parts of a conjunction or a disjunction

pub parts_true-loop-part-init : goal.parts_true-loop-part-init
parts_true-loop-part-init t c = record {
  frame = refl;
  truths = c.requires.truths;
  passed = parts-begun (plain_problem c.args.here.now.task.now.problem) c.args.here.now.world.now c.args.here.now.reading.number
      c.args.here.now.reading.level (assignment_in (take 32 c.args.frames.now)) c.deciding_truth-stop.result
      c.as_slice-part-items.result.now;
}

pub parts_true-truth_of-requires : goal.parts_true-truth_of-requires
parts_true-truth_of-requires t c =
    let p = plain_problem c.args.here.now.task.now.problem in
    let item = item-fits (signature_of c.args.here.now.task.now.problem.domain) c.args.here.now.reading.number c.args.junction
    c.args.parts.now c.as_slice-part-items.result.now c.loop-part.part-index c.part-item.result c.as_slice-part-items.ensures
    c.loop-part-test.true c.part-item.is c.requires.fits in
    let less = lighter p c.args.here.now.reading.number c.args.here.now.reading.level (formula_nodes (tree_of_formula c.part-item.result))
    (formulas_nodes (tree_of_formulas c.args.parts.now)) item.smaller in
    (omega (arith, less, c.decreases), (item.fits, (omega (arith, c.requires.room, c.loop-part.auto.frames), c.loop-part.invariant.truths)))

pub parts_true-returns-then-truth-stop-clause-truth : goal.parts_true-returns-then-truth-stop-clause-truth
parts_true-returns-then-truth-stop-clause-truth t c =
    let r : Result Bool RangeNote = Ok c.in-Ok.truth in
    parts-stop (plain_problem c.args.here.now.task.now.problem) c.args.here.now.world.now c.args.here.now.reading.number
    c.args.here.now.reading.level (assignment_in (take 32 c.args.frames.now)) c.args.junction c.deciding_truth-stop.result
    c.deciding_truth-stop.ensures c.args.parts.now c.as_slice-part-items.result.now c.loop-part.part-index c.part-item.result
    c.in-Ok.truth c.as_slice-part-items.ensures c.loop-part-test.true c.part-item.is c.loop-part.invariant.passed
    (subst (λ (x : List (Option Value)). IsTruth (plain_problem c.args.here.now.task.now.problem) c.args.here.now.world.now
    c.args.here.now.reading.number c.args.here.now.reading.level (assignment_in x) (tree_of_formula c.part-item.result) r)
    c.loop-part.invariant.frame c.in-Ok.ensures.truth) (same-truth c.in-Ok.truth c.deciding_truth-stop.result c.if-truth-stop.true)

pub parts_true-returns-in-Err-clause-truth : goal.parts_true-returns-in-Err-clause-truth
parts_true-returns-in-Err-clause-truth t c =
    let r : Result Bool RangeNote = Err c.in-Err.note in
    parts-noted (plain_problem c.args.here.now.task.now.problem) c.args.here.now.world.now c.args.here.now.reading.number
    c.args.here.now.reading.level (assignment_in (take 32 c.args.frames.now)) c.args.junction c.deciding_truth-stop.result
    c.deciding_truth-stop.ensures c.args.parts.now c.as_slice-part-items.result.now c.loop-part.part-index c.part-item.result
    c.in-Err.note c.as_slice-part-items.ensures c.loop-part-test.true c.part-item.is c.loop-part.invariant.passed
    (subst (λ (x : List (Option Value)). IsTruth (plain_problem c.args.here.now.task.now.problem) c.args.here.now.world.now
    c.args.here.now.reading.number c.args.here.now.reading.level (assignment_in x) (tree_of_formula c.part-item.result) r)
    c.loop-part.invariant.frame c.in-Err.ensures.truth)

pub parts_true-loop-part-preserved : goal.parts_true-loop-part-preserved
parts_true-loop-part-preserved t c =
    let r : Result Bool RangeNote = Ok c.in-Ok.truth in
    record {
      frame = c.truth_of.ensures.frame ∙ c.loop-part.invariant.frame;
      truths = c.truth_of.ensures.truths;
      passed = parts-on (plain_problem c.args.here.now.task.now.problem) c.args.here.now.world.now c.args.here.now.reading.number
          c.args.here.now.reading.level (assignment_in (take 32 c.args.frames.now)) c.deciding_truth-stop.result
          c.as_slice-part-items.result.now c.loop-part.part-index c.part-item.result c.in-Ok.truth c.loop-part-test.true c.part-item.is
          c.loop-part.invariant.passed
          (subst (λ (x : List (Option Value)). IsTruth (plain_problem c.args.here.now.task.now.problem) c.args.here.now.world.now
          c.args.here.now.reading.number c.args.here.now.reading.level (assignment_in x) (tree_of_formula c.part-item.result) r)
          c.loop-part.invariant.frame c.in-Ok.ensures.truth) (other-truth c.in-Ok.truth c.deciding_truth-stop.result
          c.if-truth-stop.false);
    }

pub parts_true-returns-clause-truth : goal.parts_true-returns-clause-truth
parts_true-returns-clause-truth t c =
    parts-end (plain_problem c.args.here.now.task.now.problem) c.args.here.now.world.now c.args.here.now.reading.number
    c.args.here.now.reading.level (assignment_in (take 32 c.args.frames.now)) c.args.junction c.deciding_truth-stop.result
    c.deciding_truth-stop.ensures c.args.parts.now c.as_slice-part-items.result.now c.loop-part.part-index c.as_slice-part-items.ensures
    c.loop-part-test.false c.loop-part.invariant.passed

-- ---- formulas by their forms

predicates-few : (q : Problem) → AreFew (signature_of q.domain).predicates
predicates-few q = declared-few _ q.domain.predicates q.domain_keeps.predicates

functions-few : (q : Problem) → AreFew (signature_of q.domain).functions
functions-few q = declared-few _ q.domain.functions q.domain_keeps.functions

pub truth_of-atom_true-requires-clause-small : goal.truth_of-atom_true-requires-clause-small
truth_of-atom_true-requires-clause-small t c =
    let arguments = arguments-Atom (signature_of c.args.here.now.task.now.problem.domain) c.args.here.now.reading.number c.args.f.now
    c.in-Atom.pred c.in-Atom.args (predicates-few c.args.here.now.task.now.problem)
    (functions-few c.args.here.now.task.now.problem) c.in-Atom.is c.requires.fits in
    arguments.small

pub truth_of-atom_true-requires-clause-few : goal.truth_of-atom_true-requires-clause-few
truth_of-atom_true-requires-clause-few t c =
    let arguments = arguments-Atom (signature_of c.args.here.now.task.now.problem.domain) c.args.here.now.reading.number c.args.f.now
    c.in-Atom.pred c.in-Atom.args (predicates-few c.args.here.now.task.now.problem)
    (functions-few c.args.here.now.task.now.problem) c.in-Atom.is c.requires.fits in
    arguments.few

pub truth_of-compare_true-requires-clause-left : goal.truth_of-compare_true-requires-clause-left
truth_of-compare_true-requires-clause-left t c =
    let sides = sides-Compare (signature_of c.args.here.now.task.now.problem.domain) c.args.here.now.reading.number c.args.f.now
    c.in-Compare.cmp c.in-Compare.left c.in-Compare.right (functions-few c.args.here.now.task.now.problem) c.in-Compare.is
    c.requires.fits in
    sides.left

pub truth_of-compare_true-requires-clause-right : goal.truth_of-compare_true-requires-clause-right
truth_of-compare_true-requires-clause-right t c =
    let sides = sides-Compare (signature_of c.args.here.now.task.now.problem.domain) c.args.here.now.reading.number c.args.f.now
    c.in-Compare.cmp c.in-Compare.left c.in-Compare.right (functions-few c.args.here.now.task.now.problem) c.in-Compare.is
    c.requires.fits in
    sides.right

pub truth_of-fact_true-requires : goal.truth_of-fact_true-requires
truth_of-fact_true-requires t c =
    rw c.as_slice.ensures (few-GoalFact (signature_of c.args.here.now.task.now.problem.domain) c.args.here.now.reading.number c.args.f.now
    c.in-GoalFact.pred c.in-GoalFact.args (predicates-few c.args.here.now.task.now.problem) c.in-GoalFact.is c.requires.fits)

pub truth_of-place_true-requires : goal.truth_of-place_true-requires
truth_of-place_true-requires t c =
    rw c.as_slice-in-GoalPlace.ensures (few-GoalPlace (signature_of c.args.here.now.task.now.problem.domain) c.args.here.now.reading.number
    c.args.f.now c.in-GoalPlace.fun c.in-GoalPlace.args c.in-GoalPlace.value
    (functions-few c.args.here.now.task.now.problem) c.in-GoalPlace.is c.requires.fits)

pub truth_of-fact_true-requires-in-GoalNot : goal.truth_of-fact_true-requires-in-GoalNot
truth_of-fact_true-requires-in-GoalNot t c =
    rw c.as_slice-in-GoalNot.ensures (few-GoalNot (signature_of c.args.here.now.task.now.problem.domain) c.args.here.now.reading.number
    c.args.f.now c.in-GoalNot.pred c.in-GoalNot.args (predicates-few c.args.here.now.task.now.problem) c.in-GoalNot.is c.requires.fits)

pub truth_of-defined_true-requires : goal.truth_of-defined_true-requires
truth_of-defined_true-requires t c =
    let part = part-Defined (signature_of c.args.here.now.task.now.problem.domain) c.args.here.now.reading.number c.args.f.now
    c.in-Defined.number c.in-Defined.args c.in-Defined.is c.requires.fits in
    let less = lighter (plain_problem c.args.here.now.task.now.problem) c.args.here.now.reading.number c.args.here.now.reading.level 2
    (formula_nodes (tree_of_formula c.args.f.now)) part.smaller in
    (omega (arith, less, c.decreases), (part.fits, (c.requires.room, c.requires.truths)))

pub truth_of-parts_true-requires : goal.truth_of-parts_true-requires
truth_of-parts_true-requires t c =
    let part = part-And (signature_of c.args.here.now.task.now.problem.domain) c.args.here.now.reading.number c.args.f.now c.in-And.parts
    c.in-And.is c.requires.fits in
    let less = lighter (plain_problem c.args.here.now.task.now.problem) c.args.here.now.reading.number c.args.here.now.reading.level
    (formulas_nodes (tree_of_formulas c.in-And.parts)) (formula_nodes (tree_of_formula c.args.f.now)) part.smaller in
    (omega (arith, less, c.decreases), (part.fits, (c.requires.room, c.requires.truths)))

pub truth_of-parts_true-requires-in-Or : goal.truth_of-parts_true-requires-in-Or
truth_of-parts_true-requires-in-Or t c =
    let part = part-Or (signature_of c.args.here.now.task.now.problem.domain) c.args.here.now.reading.number c.args.f.now c.in-Or.parts
    c.in-Or.is c.requires.fits in
    let less = lighter (plain_problem c.args.here.now.task.now.problem) c.args.here.now.reading.number c.args.here.now.reading.level
    (formulas_nodes (tree_of_formulas c.in-Or.parts)) (formula_nodes (tree_of_formula c.args.f.now)) part.smaller in
    (omega (arith, less, c.decreases), (part.fits, (c.requires.room, c.requires.truths)))

pub truth_of-truth_of-requires : goal.truth_of-truth_of-requires
truth_of-truth_of-requires t c =
    let part = part-Not (signature_of c.args.here.now.task.now.problem.domain) c.args.here.now.reading.number c.args.f.now c.in-Not.part
    c.in-Not.is c.requires.fits in
    let less = lighter (plain_problem c.args.here.now.task.now.problem) c.args.here.now.reading.number c.args.here.now.reading.level
    (formula_nodes (tree_of_formula c.in-Not.part.value)) (formula_nodes (tree_of_formula c.args.f.now)) part.smaller in
    rw c.deref.ensures (omega (arith, less, c.decreases), (part.fits, (c.requires.room, c.requires.truths)))

pub truth_of-quantified_true-requires : goal.truth_of-quantified_true-requires
truth_of-quantified_true-requires t c =
    let part = part-ForAll (signature_of c.args.here.now.task.now.problem.domain) c.args.here.now.reading.number c.args.f.now
    c.in-ForAll.vars c.in-ForAll.bound c.in-ForAll.part c.in-ForAll.is c.requires.fits in
    let less = lighter (plain_problem c.args.here.now.task.now.problem) c.args.here.now.reading.number c.args.here.now.reading.level
    (2 + formula_nodes (tree_of_formula c.in-ForAll.part.value)) (formula_nodes (tree_of_formula c.args.f.now)) part.smaller in
    rw c.deref-in-ForAll.ensures (rw c.as_slice-in-ForAll.ensures (
      omega (arith, less, c.decreases),
      (part.fits, (c.requires.room, c.requires.truths)),
    ))

pub truth_of-quantified_true-requires-in-Exists : goal.truth_of-quantified_true-requires-in-Exists
truth_of-quantified_true-requires-in-Exists t c =
    let part = part-Exists (signature_of c.args.here.now.task.now.problem.domain) c.args.here.now.reading.number c.args.f.now
    c.in-Exists.vars c.in-Exists.bound c.in-Exists.part c.in-Exists.is c.requires.fits in
    let less = lighter (plain_problem c.args.here.now.task.now.problem) c.args.here.now.reading.number c.args.here.now.reading.level
    (2 + formula_nodes (tree_of_formula c.in-Exists.part.value)) (formula_nodes (tree_of_formula c.args.f.now)) part.smaller in
    rw c.deref-in-Exists.ensures (rw c.as_slice-in-Exists.ensures (
      omega (arith, less, c.decreases),
      (part.fits, (c.requires.room, c.requires.truths)),
    ))

pub truth_of-returns-in-True-clause-truth : goal.truth_of-returns-in-True-clause-truth
truth_of-returns-in-True-clause-truth t c =
    at-True (plain_problem c.args.here.now.task.now.problem) c.args.here.now.world.now c.args.here.now.reading.number
    c.args.here.now.reading.level (assignment_in (take 32 c.args.frames.now)) c.args.f.now c.in-True.is

pub truth_of-returns-in-False-clause-truth : goal.truth_of-returns-in-False-clause-truth
truth_of-returns-in-False-clause-truth t c =
    at-False (plain_problem c.args.here.now.task.now.problem) c.args.here.now.world.now c.args.here.now.reading.number
    c.args.here.now.reading.level (assignment_in (take 32 c.args.frames.now)) c.args.f.now c.in-False.is

pub truth_of-returns-in-Atom-clause-truth : goal.truth_of-returns-in-Atom-clause-truth
truth_of-returns-in-Atom-clause-truth t c =
    subst (λ (x : List (Option Value)). IsTruth (plain_problem c.args.here.now.task.now.problem) c.args.here.now.world.now
    c.args.here.now.reading.number c.args.here.now.reading.level (assignment_in x) (tree_of_formula c.args.f.now) c.atom_true.result)
    c.current.ensures
    (at-Atom (plain_problem c.args.here.now.task.now.problem) c.args.here.now.world.now c.args.here.now.reading.number
    c.args.here.now.reading.level (assignment_in c.current.result.now) c.args.f.now c.in-Atom.pred c.in-Atom.args c.atom_true.result
    c.in-Atom.is c.atom_true.ensures)

pub truth_of-returns-in-Defined-clause-truth : goal.truth_of-returns-in-Defined-clause-truth
truth_of-returns-in-Defined-clause-truth t c =
    at-Defined (plain_problem c.args.here.now.task.now.problem) c.args.here.now.world.now c.args.here.now.reading.number
    c.args.here.now.reading.level (assignment_in (take 32 c.args.frames.now)) c.args.f.now c.in-Defined.number c.in-Defined.args
    c.defined_true.result c.in-Defined.is c.defined_true.ensures.truth

pub truth_of-returns-in-Compare-clause-truth : goal.truth_of-returns-in-Compare-clause-truth
truth_of-returns-in-Compare-clause-truth t c =
    subst (λ (x : List (Option Value)). IsTruth (plain_problem c.args.here.now.task.now.problem) c.args.here.now.world.now
    c.args.here.now.reading.number c.args.here.now.reading.level (assignment_in x) (tree_of_formula c.args.f.now) c.compare_true.result)
    c.current-in-Compare.ensures
    (at-Compare (plain_problem c.args.here.now.task.now.problem) c.args.here.now.world.now c.args.here.now.reading.number
    c.args.here.now.reading.level (assignment_in c.current-in-Compare.result.now) c.args.f.now c.in-Compare.cmp c.in-Compare.left
    c.in-Compare.right c.compare_true.result c.in-Compare.is c.compare_true.ensures)

-- what a goal formula answers, where its frame and its arguments were read before

pub truth_of-returns-in-GoalFact-clause-truth : goal.truth_of-returns-in-GoalFact-clause-truth
truth_of-returns-in-GoalFact-clause-truth t c =
    let r : Result Bool RangeNote = Ok c.fact_true.result in
    subst (λ (x : List (Option Value)). IsTruth (plain_problem c.args.here.now.task.now.problem) c.args.here.now.world.now
    c.args.here.now.reading.number c.args.here.now.reading.level (assignment_in x) (tree_of_formula c.args.f.now) r)
    c.current-in-GoalFact.ensures
    (at-GoalFact (plain_problem c.args.here.now.task.now.problem) c.args.here.now.world.now c.args.here.now.reading.number
    c.args.here.now.reading.level (assignment_in c.current-in-GoalFact.result.now) c.args.f.now c.in-GoalFact.pred c.in-GoalFact.args
    c.args.here.now.task.now.goal c.fact_true.result c.in-GoalFact.is c.args.here.now.task.now.goal_is
    (rw c.as_slice.ensures at c.fact_true.ensures))

pub truth_of-returns-in-GoalPlace-clause-truth : goal.truth_of-returns-in-GoalPlace-clause-truth
truth_of-returns-in-GoalPlace-clause-truth t c =
    let r : Result Bool RangeNote = Ok c.place_true.result in
    subst (λ (x : List (Option Value)). IsTruth (plain_problem c.args.here.now.task.now.problem) c.args.here.now.world.now
    c.args.here.now.reading.number c.args.here.now.reading.level (assignment_in x) (tree_of_formula c.args.f.now) r)
    c.current-in-GoalPlace.ensures
    (at-GoalPlace (plain_problem c.args.here.now.task.now.problem) c.args.here.now.world.now c.args.here.now.reading.number
    c.args.here.now.reading.level (assignment_in c.current-in-GoalPlace.result.now) c.args.f.now c.in-GoalPlace.fun c.in-GoalPlace.args
    c.in-GoalPlace.value c.args.here.now.task.now.goal c.place_true.result c.in-GoalPlace.is c.args.here.now.task.now.goal_is
    (rw c.as_slice-in-GoalPlace.ensures at c.place_true.ensures))

pub truth_of-returns-in-GoalNot-clause-truth : goal.truth_of-returns-in-GoalNot-clause-truth
truth_of-returns-in-GoalNot-clause-truth t c =
    let r : Result Bool RangeNote = Ok c.fact_true-in-GoalNot.result in
    subst (λ (x : List (Option Value)). IsTruth (plain_problem c.args.here.now.task.now.problem) c.args.here.now.world.now
    c.args.here.now.reading.number c.args.here.now.reading.level (assignment_in x) (tree_of_formula c.args.f.now) r)
    c.current-in-GoalNot.ensures
    (at-GoalNot (plain_problem c.args.here.now.task.now.problem) c.args.here.now.world.now c.args.here.now.reading.number
    c.args.here.now.reading.level (assignment_in c.current-in-GoalNot.result.now) c.args.f.now c.in-GoalNot.pred c.in-GoalNot.args
    c.args.here.now.task.now.avoid c.fact_true-in-GoalNot.result c.in-GoalNot.is c.args.here.now.task.now.avoid_is
    (rw c.as_slice-in-GoalNot.ensures at c.fact_true-in-GoalNot.ensures))

pub truth_of-returns-in-Ok-clause-truth : goal.truth_of-returns-in-Ok-clause-truth
truth_of-returns-in-Ok-clause-truth t c =
    at-Not (plain_problem c.args.here.now.task.now.problem) c.args.here.now.world.now c.args.here.now.reading.number
    c.args.here.now.reading.level (assignment_in (take 32 c.args.frames.now)) c.args.f.now c.in-Not.part c.deref.result.now
    c.in-Ok.truth c.in-Not.is c.deref.ensures c.in-Ok.ensures.truth

pub truth_of-returns-in-Err-clause-truth : goal.truth_of-returns-in-Err-clause-truth
truth_of-returns-in-Err-clause-truth t c =
    at-Not-Err (plain_problem c.args.here.now.task.now.problem) c.args.here.now.world.now c.args.here.now.reading.number
    c.args.here.now.reading.level (assignment_in (take 32 c.args.frames.now)) c.args.f.now c.in-Not.part c.deref.result.now
    c.in-Err.note c.in-Not.is c.deref.ensures c.in-Err.ensures.truth

pub truth_of-returns-in-And-clause-truth : goal.truth_of-returns-in-And-clause-truth
truth_of-returns-in-And-clause-truth t c =
    at-And (plain_problem c.args.here.now.task.now.problem) c.args.here.now.world.now c.args.here.now.reading.number
    c.args.here.now.reading.level (assignment_in (take 32 c.args.frames.now)) c.args.f.now c.in-And.parts c.parts_true.result
    c.in-And.is c.parts_true.ensures.truth

pub truth_of-returns-in-Or-clause-truth : goal.truth_of-returns-in-Or-clause-truth
truth_of-returns-in-Or-clause-truth t c =
    at-Or (plain_problem c.args.here.now.task.now.problem) c.args.here.now.world.now c.args.here.now.reading.number
    c.args.here.now.reading.level (assignment_in (take 32 c.args.frames.now)) c.args.f.now c.in-Or.parts c.parts_true-in-Or.result
    c.in-Or.is c.parts_true-in-Or.ensures.truth

pub truth_of-returns-in-ForAll-clause-truth : goal.truth_of-returns-in-ForAll-clause-truth
truth_of-returns-in-ForAll-clause-truth t c =
    at-ForAll (plain_problem c.args.here.now.task.now.problem) c.args.here.now.world.now c.args.here.now.reading.number
    c.args.here.now.reading.level (assignment_in (take 32 c.args.frames.now)) c.args.f.now c.in-ForAll.vars c.in-ForAll.bound
    c.in-ForAll.part c.deref-in-ForAll.result.now c.quantified_true.result c.in-ForAll.is c.deref-in-ForAll.ensures
    (rw c.as_slice-in-ForAll.ensures at c.quantified_true.ensures.truth)

pub truth_of-returns-in-Exists-clause-truth : goal.truth_of-returns-in-Exists-clause-truth
truth_of-returns-in-Exists-clause-truth t c =
    at-Exists (plain_problem c.args.here.now.task.now.problem) c.args.here.now.world.now c.args.here.now.reading.number
    c.args.here.now.reading.level (assignment_in (take 32 c.args.frames.now)) c.args.f.now c.in-Exists.vars c.in-Exists.bound
    c.in-Exists.part c.deref-in-Exists.result.now c.quantified_true-in-Exists.result c.in-Exists.is c.deref-in-Exists.ensures
    (rw c.as_slice-in-Exists.ensures at c.quantified_true-in-Exists.ensures.truth)

pub truth_of-returns-in-Next-clause-truth : goal.truth_of-returns-in-Next-clause-truth
truth_of-returns-in-Next-clause-truth t c =
    at-Next (plain_problem c.args.here.now.task.now.problem) c.args.here.now.world.now c.args.here.now.reading.number
    c.args.here.now.reading.level (assignment_in (take 32 c.args.frames.now)) c.args.f.now c.in-Next.field-0 c.in-Next.is

pub truth_of-returns-in-Always-clause-truth : goal.truth_of-returns-in-Always-clause-truth
truth_of-returns-in-Always-clause-truth t c =
    at-Always (plain_problem c.args.here.now.task.now.problem) c.args.here.now.world.now c.args.here.now.reading.number
    c.args.here.now.reading.level (assignment_in (take 32 c.args.frames.now)) c.args.f.now c.in-Always.field-0 c.in-Always.is

pub truth_of-returns-in-Eventually-clause-truth : goal.truth_of-returns-in-Eventually-clause-truth
truth_of-returns-in-Eventually-clause-truth t c =
    at-Eventually (plain_problem c.args.here.now.task.now.problem) c.args.here.now.world.now c.args.here.now.reading.number
    c.args.here.now.reading.level (assignment_in (take 32 c.args.frames.now)) c.args.f.now c.in-Eventually.field-0 c.in-Eventually.is

pub truth_of-returns-in-Until-clause-truth : goal.truth_of-returns-in-Until-clause-truth
truth_of-returns-in-Until-clause-truth t c =
    at-Until (plain_problem c.args.here.now.task.now.problem) c.args.here.now.world.now c.args.here.now.reading.number
    c.args.here.now.reading.level (assignment_in (take 32 c.args.frames.now)) c.args.f.now c.in-Until.field-0 c.in-Until.field-1
    c.in-Until.is

pub truth_of-returns-in-Within-clause-truth : goal.truth_of-returns-in-Within-clause-truth
truth_of-returns-in-Within-clause-truth t c =
    at-Within (plain_problem c.args.here.now.task.now.problem) c.args.here.now.world.now c.args.here.now.reading.number
    c.args.here.now.reading.level (assignment_in (take 32 c.args.frames.now)) c.args.f.now c.in-Within.field-0 c.in-Within.field-1
    c.in-Within.is

pub truth_of-returns-in-During-clause-truth : goal.truth_of-returns-in-During-clause-truth
truth_of-returns-in-During-clause-truth t c =
    at-During (plain_problem c.args.here.now.task.now.problem) c.args.here.now.world.now c.args.here.now.reading.number
    c.args.here.now.reading.level (assignment_in (take 32 c.args.frames.now)) c.args.f.now c.in-During.field-0 c.in-During.field-1
    c.in-During.is

-- ---- quantifiers

pub quantified_true-keep-requires-clause-few : goal.quantified_true-keep-requires-clause-few
quantified_true-keep-requires-clause-few t c =
    let q = c.args.here.now.task.now.problem in
    let fit = tuples-fit (signature_of q.domain) c.args.here.now.reading.number c.args.quantified.now.junction
    c.args.quantified.now.vars.now c.args.quantified.now.bound.now (tree_of_formula c.args.quantified.now.part.now) (predicates-few q)
    (functions-few q) c.requires.fits in
    fit.few

pub quantified_true-tuples_true-truth-requires : goal.quantified_true-tuples_true-truth-requires
quantified_true-tuples_true-truth-requires t c =
    let less = lighter (plain_problem c.args.here.now.task.now.problem) c.args.here.now.reading.number c.args.here.now.reading.level
    (1 + formula_nodes (tree_of_formula c.args.quantified.now.part.now))
    (2 + formula_nodes (tree_of_formula c.args.quantified.now.part.now)) (omega arith) in
    (omega (arith, less, c.decreases), (c.requires.fits, (c.requires.room, c.requires.truths)))

pub quantified_true-give_back-requires-clause-slots : goal.quantified_true-give_back-requires-clause-slots
quantified_true-give_back-requires-clause-slots t c =
    let q = c.args.here.now.task.now.problem in
    let fit = tuples-fit (signature_of q.domain) c.args.here.now.reading.number c.args.quantified.now.junction
    c.args.quantified.now.vars.now c.args.quantified.now.bound.now (tree_of_formula c.args.quantified.now.part.now) (predicates-few q)
    (functions-few q) c.requires.fits in
    fit.in_frame

pub quantified_true-give_back-requires-clause-few : goal.quantified_true-give_back-requires-clause-few
quantified_true-give_back-requires-clause-few t c =
    let q = c.args.here.now.task.now.problem in
    let fit = tuples-fit (signature_of q.domain) c.args.here.now.reading.number c.args.quantified.now.junction
    c.args.quantified.now.vars.now c.args.quantified.now.bound.now (tree_of_formula c.args.quantified.now.part.now) (predicates-few q)
    (functions-few q) c.requires.fits in
    fit.few

pub quantified_true-returns-clause-frame : goal.quantified_true-returns-clause-frame
quantified_true-returns-clause-frame t c =
    let size : length (take 32 c.give_back.new.frames) ≡ length (take 32 c.args.frames.now) =
    omega (
      arith,
      length-take 32 c.give_back.new.frames,
      length-take 32 c.args.frames.now,
      c.give_back.auto.frames,
      c.tuples_true-truth.auto.frames,
    ) in
    same-frame (take 32 c.give_back.new.frames) (take 32 c.args.frames.now) size
    (c.give_back.ensures ∙ all-back c.args.quantified.now.vars.now c.keep.new.values
    (assignment_in (take 32 c.tuples_true-truth.new.frames)) (assignment_in (take 32 c.args.frames.now))
    c.tuples_true-truth.ensures.others c.keep.ensures)

-- ---- the tuples of a quantifier

pub tuples_true-open_at-requires-clause-differ : goal.tuples_true-open_at-requires-clause-differ
tuples_true-open_at-requires-clause-differ t c =
    let q = c.args.here.now.task.now.problem in
    let fit = tuples-fit (signature_of q.domain) c.args.here.now.reading.number c.args.quantified.now.junction
    c.args.quantified.now.vars.now c.args.quantified.now.bound.now (tree_of_formula c.args.quantified.now.part.now) (predicates-few q)
    (functions-few q) c.requires.fits in
    fit.differ

pub tuples_true-open_at-requires-clause-occur : goal.tuples_true-open_at-requires-clause-occur
tuples_true-open_at-requires-clause-occur t c =
    let q = c.args.here.now.task.now.problem in
    let fit = tuples-fit (signature_of q.domain) c.args.here.now.reading.number c.args.quantified.now.junction
    c.args.quantified.now.vars.now c.args.quantified.now.bound.now (tree_of_formula c.args.quantified.now.part.now) (predicates-few q)
    (functions-few q) c.requires.fits in
    fit.occur

pub tuples_true-open_at-requires-clause-fits : goal.tuples_true-open_at-requires-clause-fits
tuples_true-open_at-requires-clause-fits t c =
    let q = c.args.here.now.task.now.problem in
    let fit = tuples-fit (signature_of q.domain) c.args.here.now.reading.number c.args.quantified.now.junction
    c.args.quantified.now.vars.now c.args.quantified.now.bound.now (tree_of_formula c.args.quantified.now.part.now) (predicates-few q)
    (functions-few q) c.requires.fits in
    fit.bound

pub tuples_true-tuples-init : goal.tuples_true-tuples-init
tuples_true-tuples-init t c =
    let same : assignment_in c.current.result.now ≡ assignment_in (take 32 c.args.frames.now) = ap assignment_in c.current.ensures in
    record {
      reads = c.tuples-tuples.ensures.reads c.args.quantified.now.vars.now (assignment_in (take 32 c.args.frames.now))
          (subst (λ (x : Assignment). IsPatternOf c.args.quantified.now.vars.now x c.args.quantified.now.bound.now c.open_at.new.self) same
          c.open_at.ensures.stands);
      scope = λ u. refl;
      truths = c.requires.truths;
      passed = subst (TuplesPassed (plain_problem c.args.here.now.task.now.problem) c.args.here.now.world.now c.args.here.now.reading.number
          c.args.here.now.reading.level (assignment_in (take 32 c.args.frames.now)) c.args.quantified.now.vars.now
          c.args.quantified.now.bound.now (tree_of_formula c.args.quantified.now.part.now) c.deciding_truth-stop.result)
          (sym c.tuples-tuples.ensures.before)
          (tuples-begun (plain_problem c.args.here.now.task.now.problem) c.args.here.now.world.now c.args.here.now.reading.number
          c.args.here.now.reading.level (assignment_in (take 32 c.args.frames.now)) c.args.quantified.now.vars.now
          c.args.quantified.now.bound.now (tree_of_formula c.args.quantified.now.part.now) c.deciding_truth-stop.result);
    }

pub tuples_true-put_in_scope-requires-clause-slots : goal.tuples_true-put_in_scope-requires-clause-slots
tuples_true-put_in_scope-requires-clause-slots t c =
    let q = c.args.here.now.task.now.problem in
    let fit = tuples-fit (signature_of q.domain) c.args.here.now.reading.number c.args.quantified.now.junction
    c.args.quantified.now.vars.now c.args.quantified.now.bound.now (tree_of_formula c.args.quantified.now.part.now) (predicates-few q)
    (functions-few q) c.requires.fits in
    fit.in_frame

pub tuples_true-put_in_scope-requires-clause-same : goal.tuples_true-put_in_scope-requires-clause-same
tuples_true-put_in_scope-requires-clause-same t c =
    sym (c.values.ensures.count _ c.args.quantified.now.vars.now (assignment_in (take 32 c.args.frames.now)) c.args.quantified.now.bound.now
    (c.next.ensures.reads _ _ c.args.quantified.now.vars.now (assignment_in (take 32 c.args.frames.now)) c.tuples.invariant.reads))

pub tuples_true-truth_of-requires : goal.tuples_true-truth_of-requires
tuples_true-truth_of-requires t c =
    let q = c.args.here.now.task.now.problem in
    let fit = tuples-fit (signature_of q.domain) c.args.here.now.reading.number c.args.quantified.now.junction
    c.args.quantified.now.vars.now c.args.quantified.now.bound.now (tree_of_formula c.args.quantified.now.part.now) (predicates-few q)
    (functions-few q) c.requires.fits in
    let less = lighter (plain_problem c.args.here.now.task.now.problem) c.args.here.now.reading.number c.args.here.now.reading.level
    (formula_nodes (tree_of_formula c.args.quantified.now.part.now))
    (1 + formula_nodes (tree_of_formula c.args.quantified.now.part.now)) (omega arith) in (
      omega (arith, less, c.decreases),
      (
        fit.body,
        (
          omega (arith, c.requires.room, c.tuples.auto.frames, c.put_in_scope.auto.frames),
          c.tuples.invariant.truths,
        ),
      ),
    )

pub tuples_true-returns-then-truth-stop-clause-truth : goal.tuples_true-returns-then-truth-stop-clause-truth
tuples_true-returns-then-truth-stop-clause-truth t c =
    let q = c.args.here.now.task.now.problem in
    let fit = tuples-fit (signature_of q.domain) c.args.here.now.reading.number c.args.quantified.now.junction
    c.args.quantified.now.vars.now c.args.quantified.now.bound.now (tree_of_formula c.args.quantified.now.part.now) (predicates-few q)
    (functions-few q) c.requires.fits in
    let next = c.next.ensures.next _ _ c.args.quantified.now.vars.now (assignment_in (take 32 c.args.frames.now)) c.tuples.invariant.reads
    in
    let here = c.put_in_scope.ensures ∙ c.tuples.invariant.scope c.values.result.now in
    let r : Result Bool RangeNote = Ok c.in-Ok.truth in
    tuples-stop (plain_problem c.args.here.now.task.now.problem) c.args.here.now.world.now c.args.here.now.reading.number
    c.args.here.now.reading.level (assignment_in (take 32 c.args.frames.now)) c.args.quantified.now.vars.now
    c.args.quantified.now.bound.now (tree_of_formula c.args.quantified.now.part.now) fit.differ fit.occur c.args.quantified.now.junction
    c.deciding_truth-stop.result c.deciding_truth-stop.ensures c.tuples.tuples.tuple c.tuples.invariant.passed c.next.new.self.tuple
    c.values.result.now next c.values.ensures.values c.in-Ok.truth
    (subst (λ (x : Assignment). IsTruth (plain_problem c.args.here.now.task.now.problem) c.args.here.now.world.now
    c.args.here.now.reading.number c.args.here.now.reading.level x (tree_of_formula c.args.quantified.now.part.now) r) here
    c.in-Ok.ensures.truth) (same-truth c.in-Ok.truth c.deciding_truth-stop.result c.if-truth-stop.true)

pub tuples_true-returns-then-truth-stop-clause-others : goal.tuples_true-returns-then-truth-stop-clause-others
tuples_true-returns-then-truth-stop-clause-others t c =
    let here = c.put_in_scope.ensures ∙ c.tuples.invariant.scope c.values.result.now in
    λ u. bind-through c.args.quantified.now.vars.now u c.values.result.now (assignment_in (take 32 c.truth_of.new.frames))
    (assignment_in (take 32 c.args.frames.now)) (ap assignment_in c.truth_of.ensures.frame ∙ here)

pub tuples_true-returns-in-Err-clause-truth : goal.tuples_true-returns-in-Err-clause-truth
tuples_true-returns-in-Err-clause-truth t c =
    let q = c.args.here.now.task.now.problem in
    let fit = tuples-fit (signature_of q.domain) c.args.here.now.reading.number c.args.quantified.now.junction
    c.args.quantified.now.vars.now c.args.quantified.now.bound.now (tree_of_formula c.args.quantified.now.part.now) (predicates-few q)
    (functions-few q) c.requires.fits in
    let next = c.next.ensures.next _ _ c.args.quantified.now.vars.now (assignment_in (take 32 c.args.frames.now)) c.tuples.invariant.reads
    in
    let here = c.put_in_scope.ensures ∙ c.tuples.invariant.scope c.values.result.now in
    let r : Result Bool RangeNote = Err c.in-Err.note in
    tuples-noted (plain_problem c.args.here.now.task.now.problem) c.args.here.now.world.now c.args.here.now.reading.number
    c.args.here.now.reading.level (assignment_in (take 32 c.args.frames.now)) c.args.quantified.now.vars.now
    c.args.quantified.now.bound.now (tree_of_formula c.args.quantified.now.part.now) fit.differ fit.occur c.args.quantified.now.junction
    c.deciding_truth-stop.result c.deciding_truth-stop.ensures c.tuples.tuples.tuple c.tuples.invariant.passed c.next.new.self.tuple
    c.values.result.now next c.values.ensures.values c.in-Err.note
    (subst (λ (x : Assignment). IsTruth (plain_problem c.args.here.now.task.now.problem) c.args.here.now.world.now
    c.args.here.now.reading.number c.args.here.now.reading.level x (tree_of_formula c.args.quantified.now.part.now) r) here
    c.in-Err.ensures.truth)

pub tuples_true-returns-in-Err-clause-others : goal.tuples_true-returns-in-Err-clause-others
tuples_true-returns-in-Err-clause-others t c =
    let here = c.put_in_scope.ensures ∙ c.tuples.invariant.scope c.values.result.now in
    λ u. bind-through c.args.quantified.now.vars.now u c.values.result.now (assignment_in (take 32 c.truth_of.new.frames))
    (assignment_in (take 32 c.args.frames.now)) (ap assignment_in c.truth_of.ensures.frame ∙ here)

pub tuples_true-tuples-preserved : goal.tuples_true-tuples-preserved
tuples_true-tuples-preserved t c =
    let q = c.args.here.now.task.now.problem in
    let fit = tuples-fit (signature_of q.domain) c.args.here.now.reading.number c.args.quantified.now.junction
    c.args.quantified.now.vars.now c.args.quantified.now.bound.now (tree_of_formula c.args.quantified.now.part.now) (predicates-few q)
    (functions-few q) c.requires.fits in
    let next = c.next.ensures.next _ _ c.args.quantified.now.vars.now (assignment_in (take 32 c.args.frames.now)) c.tuples.invariant.reads
    in
    let here = c.put_in_scope.ensures ∙ c.tuples.invariant.scope c.values.result.now in
    let r : Result Bool RangeNote = Ok c.in-Ok.truth in
    record {
      reads = c.next.ensures.reads _ _ c.args.quantified.now.vars.now (assignment_in (take 32 c.args.frames.now)) c.tuples.invariant.reads;
      scope = λ u. bind-through c.args.quantified.now.vars.now u c.values.result.now (assignment_in (take 32 c.truth_of.new.frames))
          (assignment_in (take 32 c.args.frames.now)) (ap assignment_in c.truth_of.ensures.frame ∙ here);
      truths = c.truth_of.ensures.truths;
      passed = subst (TuplesPassed (plain_problem c.args.here.now.task.now.problem) c.args.here.now.world.now c.args.here.now.reading.number
          c.args.here.now.reading.level (assignment_in (take 32 c.args.frames.now)) c.args.quantified.now.vars.now
          c.args.quantified.now.bound.now (tree_of_formula c.args.quantified.now.part.now) c.deciding_truth-stop.result)
          (sym c.values.ensures.values)
          (tuples-on (plain_problem c.args.here.now.task.now.problem) c.args.here.now.world.now c.args.here.now.reading.number
          c.args.here.now.reading.level (assignment_in (take 32 c.args.frames.now)) c.args.quantified.now.vars.now
          c.args.quantified.now.bound.now (tree_of_formula c.args.quantified.now.part.now) fit.differ fit.occur
          c.args.quantified.now.junction c.deciding_truth-stop.result c.deciding_truth-stop.ensures c.tuples.tuples.tuple
          c.tuples.invariant.passed c.next.new.self.tuple c.values.result.now next c.values.ensures.values c.in-Ok.truth
          (subst (λ (x : Assignment). IsTruth (plain_problem c.args.here.now.task.now.problem) c.args.here.now.world.now
          c.args.here.now.reading.number c.args.here.now.reading.level x (tree_of_formula c.args.quantified.now.part.now) r) here
          c.in-Ok.ensures.truth) (other-truth c.in-Ok.truth c.deciding_truth-stop.result c.if-truth-stop.false));
    }

pub tuples_true-tuples-smaller : goal.tuples_true-tuples-smaller
tuples_true-tuples-smaller t c =
    let q = c.args.here.now.task.now.problem in
    let fit = tuples-fit (signature_of q.domain) c.args.here.now.reading.number c.args.quantified.now.junction
    c.args.quantified.now.vars.now c.args.quantified.now.bound.now (tree_of_formula c.args.quantified.now.part.now) (predicates-few q)
    (functions-few q) c.requires.fits in
    let next = c.next.ensures.next _ _ c.args.quantified.now.vars.now (assignment_in (take 32 c.args.frames.now)) c.tuples.invariant.reads
    in
    let all = tuples_read (plain_problem c.args.here.now.task.now.problem) c.args.here.now.world.now c.args.here.now.reading.number
    c.args.here.now.reading.level (assignment_in (take 32 c.args.frames.now)) c.args.quantified.now.vars.now
    c.args.quantified.now.bound.now (tree_of_formula c.args.quantified.now.part.now) in
    subst (λ (o : Option (List Value)). length (rest_after o all) < length (rest_after c.tuples.tuples.tuple all))
    (sym c.values.ensures.values)
    (fewer-left (plain_problem c.args.here.now.task.now.problem) c.args.here.now.world.now c.args.here.now.reading.number
    c.args.here.now.reading.level (assignment_in (take 32 c.args.frames.now)) c.args.quantified.now.vars.now
    c.args.quantified.now.bound.now (tree_of_formula c.args.quantified.now.part.now) fit.differ fit.occur c.args.quantified.now.junction
    c.deciding_truth-stop.result c.deciding_truth-stop.ensures c.tuples.tuples.tuple c.tuples.invariant.passed c.next.new.self.tuple
    c.values.result.now next c.values.ensures.values)

pub tuples_true-returns-clause-truth : goal.tuples_true-returns-clause-truth
tuples_true-returns-clause-truth t c =
    let q = c.args.here.now.task.now.problem in
    let fit = tuples-fit (signature_of q.domain) c.args.here.now.reading.number c.args.quantified.now.junction
    c.args.quantified.now.vars.now c.args.quantified.now.bound.now (tree_of_formula c.args.quantified.now.part.now) (predicates-few q)
    (functions-few q) c.requires.fits in
    let next = c.next.ensures.next _ _ c.args.quantified.now.vars.now (assignment_in (take 32 c.args.frames.now)) c.tuples.invariant.reads
    in
    tuples-end (plain_problem c.args.here.now.task.now.problem) c.args.here.now.world.now c.args.here.now.reading.number
    c.args.here.now.reading.level (assignment_in (take 32 c.args.frames.now)) c.args.quantified.now.vars.now
    c.args.quantified.now.bound.now (tree_of_formula c.args.quantified.now.part.now) fit.differ fit.occur c.args.quantified.now.junction
    c.deciding_truth-stop.result c.deciding_truth-stop.ensures c.tuples.tuples.tuple c.tuples.invariant.passed c.next.new.self.tuple
    next (c.next.ensures.end c.tuples-test.false)
