use Rattle.std.proofs.Common.{◌≡◌, ◌<◌, ◌-◌, ◌++◌, get_or, ℕ, [], List, drop, length, length-append, length-drop, replicate, Bool, false}
use Rattle.std.proofs.Common.{not, Ok, Err, Option, Some, IfSome, refl, sym, ap, ◌∙◌, subst, arith}
use Rattle.tl_check.proofs.FitLaws.{Parts, quantified-parts, item-fits}
use Rattle.tl_check.proofs.FormulaLabels.{state-True, state-False, state-Atom, state-Defined, state-Compare, state-GoalFact}
use Rattle.tl_check.proofs.FormulaLabels.{state-GoalPlace, state-GoalNot, one-Not, one-Next, one-Always, one-Eventually, one-Within}
use Rattle.tl_check.proofs.FormulaLabels.{one-During, not-made, not-noted, shifted, shifted-within, next-handed, later-made, later-noted}
use Rattle.tl_check.proofs.FormulaLabels.{until-parts, until-made, until-first-noted, until-second-noted, same-length, fits-not, fits-next}
use Rattle.tl_check.proofs.FormulaLabels.{fits-word, two-Until, all-And, all-Or, item-noted, body-ForAll, body-Exists}
use Rattle.tl_check.proofs.HistoryLaws.{each-among, among-item}
use Rattle.tl_check.proofs.InstanceLaws.{joining-begun, joining-on, joining-noted, joining-end, hull-within, instance-nowhere}
use Rattle.tl_check.proofs.InstanceLaws.{instance-joined, instance-noted}
use Rattle.tl_check.proofs.OpenLaws.{part-noted, inner-within, inner-room, open-joined, decided-part}
use Rattle.tl_check.proofs.PartLabels.{parts-begun, parts-on, parts-end}
use Rattle.tl_check.proofs.Sizes.{size-at}
use Rattle.tl_check.proofs.SpanLaws.{marks_in-length}
use Rattle.tl_check.proofs.StatesLaws.{by-cases, passed-on}
use Rattle.tl_check.specs.Ahead.{true_ahead}
use Rattle.tl_check.specs.AlongStates.{AreLabelsAlong, BoundFitsAlong, FitsAlong, bound_along}
use Rattle.tl_check.specs.PartTrees.{quantified_tree}
use Rattle.tl_check.specs.Quantifiers.{Quantifier, quantifier_of}
use Rattle.tl_check.specs.Facts.{IsAlong, IsAheadOf, bound_ahead}
use Rattle.tl_check.specs.Gathered.{IsTuple}
use Rattle.tl_check.specs.Instances.{JoinsInstance}
use Rattle.tl_check.specs.Labelled.{AreLabels, JoinsPart}
use Rattle.tl_check.specs.Later.{later_tree}
use Rattle.tl_check.specs.Passes.{joined_labels}
use Rattle.tl_check.specs.Picked.{placed_labels}
use Rattle.tl_check.specs.Spans.{IsWithin, marks_in}
use Rattle.tl_check.specs.StatesAlong.{states_along, course_along, UnlessFew}
use Rattle.tl_check.specs.declared.along.Along.{Along}
use Rattle.tl_check.specs.declared.binder.Binder.{Binder}
use Rattle.tl_check.specs.declared.span.Span.{Span}
use Rattle.tl_check.specs.Tuples.{AreTuples}
use Rattle.tl_check.specs.declared.tuples.Tuples.{Tuples}
use Rattle.tl_syntax.specs.declared.fact.Fact.{Fact}
use Rattle.tl_eval.proofs.BindLaws.{bind-through}
use Rattle.tl_eval.specs.Frames.{assignment_in}
use Rattle.tl_syntax.proofs.FormulaTrees.{tree-Atom}
use Rattle.tl_syntax.specs.declared.value.Value.{Value}
use Rattle.tl_syntax.specs.declared.variable.Var.{Var}
use Rattle.tl_syntax.specs.Assignment.{Assignment, bind}
use Rattle.tl_syntax.specs.Fits.{Fits}
use Rattle.tl_syntax.specs.Junctions.{deciding_truth, joined, quantified}
use Rattle.tl_syntax.specs.Lists.{Each}
use Rattle.tl_syntax.specs.Signature.{signature_of}
use Rattle.tl_syntax.specs.TreeOfFormula.{tree_of_formula, tree_of_formulas}
use Rattle.tl_syntax.specs.TreeOfTerm.{tree_of_terms}
use Rattle.tl_syntax.specs.Trees.{FormulaTree, atom, negation, next, until}
use Rattle.tl_terms.specs.Bounds.{tuples}
use Rattle.tl_terms.specs.ProblemMeaning.{plain_problem}
use Rattle.tl_check.proofs.formula_labels.+labels_of.Goals as goal

-- the positions that come again are some of them
loops-in : (a : Along) → IsAlong a → a.again < length (states_along a)
loops-in a is = omega (arith, is.again, is.count)

ahead-in : (a : Along) (span : Span) → IsAlong a → IsWithin span (length (states_along a)) → (ahead : Span) → IsAheadOf a span.from ahead →
    IsWithin ahead (length (states_along a))
ahead-in a span is within ahead k = record { order = omega (arith, is.again, k.again, k.to); within = omega (arith, is.count, k.to) }

-- labels that go round stay equally many
same-round : (k : ℕ) (bs cs bs2 cs2 : List Bool) → length bs ≡ length cs → bs2 ≡ bs ++ drop k bs → cs2 ≡ cs ++ drop k cs → length bs2 ≡
    length cs2
same-round k bs cs bs2 cs2 same q r = omega (
  arith,
  same,
  ap length q,
  ap length r,
  length-append bs (drop k bs),
  length-append cs (drop k cs),
  length-drop k bs,
  length-drop k cs,
)

tuples-known : (a : Along) (e : Assignment) (b : Binder) (span : Span) (o : Option Tuples) (t : Tuples) → o ≡ Some t →
    IfSome o (AreTuples a e b span) → AreTuples a e b span t
tuples-known a e b span o t q h = subst (λ (x : Option Tuples). IfSome x (AreTuples a e b span)) q h

labels-known : (a : Along) (span : Span) (frame : List (Option Value)) (b : Binder) (o : Option (List Bool)) (bs : List Bool) → o ≡
    Some bs → IfSome o (λ labels. labels ≡ bound_along a span frame b.bound.now) → bs ≡ bound_along a span frame b.bound.now
labels-known a span frame b o bs q h = subst (λ (x : Option (List Bool)).
    IfSome x (λ labels. labels ≡ bound_along a span frame b.bound.now)) q h

-- what a quantified formula gives
parts-of : (a : Along) (b : Binder) → FitsAlong a (quantified_tree b) →
    Parts (signature_of a.task.now.problem.domain) b.vars.now b.bound.now (tree_of_formula b.part.now)
parts-of a b fits = quantified-parts a.task.now.problem b.junction b.vars.now b.bound.now (tree_of_formula b.part.now) fits

-- a fact of the list
tuple-at : (n : ℕ) (items : List Fact) → Each (IsTuple n) items → (i : ℕ) (f : Fact) → i < length items → f ≡ get_or items i f → IsTuple n f
tuple-at n items counts i f h is = each-among (IsTuple n) items f counts (among-item items i f h is)

-- the values of a tuple in a frame in which only those of the variables are others
put-here : (vars : List Var) (args : List Value) (old e : Assignment) → ((u : List Value) → bind vars u old ≡ bind vars u e) →
    (ss : List Var) → ss ≡ vars → (u : List Value) → u ≡ args → (new : Assignment) → new ≡ bind ss u old → new ≡ bind vars args e
put-here vars args old e scope ss q u r new is = is ∙ (ap (λ (xs : List Var). bind xs u old) q ∙
    (ap (λ (x : List Value). bind vars x old) r ∙ scope args))

pub labels_of-state_labels-requires-in-True-clause-state : goal.labels_of-state_labels-requires-in-True-clause-state
labels_of-state_labels-requires-in-True-clause-state t c =
    state-True c.args.f.now c.in-True.is

pub labels_of-state_labels-requires-in-False-clause-state : goal.labels_of-state_labels-requires-in-False-clause-state
labels_of-state_labels-requires-in-False-clause-state t c =
    state-False c.args.f.now c.in-False.is

pub labels_of-state_labels-requires-in-Compare-clause-state : goal.labels_of-state_labels-requires-in-Compare-clause-state
labels_of-state_labels-requires-in-Compare-clause-state t c =
    state-Compare c.args.f.now c.in-Compare.field-0 c.in-Compare.field-1 c.in-Compare.field-2 c.in-Compare.is

pub labels_of-state_labels-requires-in-Defined-clause-state : goal.labels_of-state_labels-requires-in-Defined-clause-state
labels_of-state_labels-requires-in-Defined-clause-state t c =
    state-Defined c.args.f.now c.in-Defined.field-0 c.in-Defined.field-1 c.in-Defined.is

pub labels_of-state_labels-requires-in-GoalFact-clause-state : goal.labels_of-state_labels-requires-in-GoalFact-clause-state
labels_of-state_labels-requires-in-GoalFact-clause-state t c =
    state-GoalFact c.args.f.now c.in-GoalFact.field-0 c.in-GoalFact.field-1 c.in-GoalFact.is

pub labels_of-state_labels-requires-in-GoalPlace-clause-state : goal.labels_of-state_labels-requires-in-GoalPlace-clause-state
labels_of-state_labels-requires-in-GoalPlace-clause-state t c =
    state-GoalPlace c.args.f.now c.in-GoalPlace.field-0 c.in-GoalPlace.field-1 c.in-GoalPlace.field-2 c.in-GoalPlace.is

pub labels_of-state_labels-requires-in-GoalNot-clause-state : goal.labels_of-state_labels-requires-in-GoalNot-clause-state
labels_of-state_labels-requires-in-GoalNot-clause-state t c =
    state-GoalNot c.args.f.now c.in-GoalNot.field-0 c.in-GoalNot.field-1 c.in-GoalNot.is

pub labels_of-state_labels-requires-in-None-clause-state : goal.labels_of-state_labels-requires-in-None-clause-state
labels_of-state_labels-requires-in-None-clause-state t c =
    state-Atom c.args.f.now c.in-Atom.pred c.in-Atom.terms c.in-Atom.is

pub labels_of-returns-in-Some-clause-labels : goal.labels_of-returns-in-Some-clause-labels
labels_of-returns-in-Some-clause-labels t c =
    let found = subst (λ (o : Option (List Bool)). IfSome o (λ labels. labels ≡
    marks_in (true_ahead (course_along c.args.along.now) (assignment_in c.args.env.now)
    (atom c.in-Atom.pred (tree_of_terms c.in-Atom.terms))) (states_along c.args.along.now) c.args.span)) c.in-Some.is
    c.in_ok-labels-in-Atom.ensures in
    subst (λ (x : FormulaTree). c.in-Some.labels ≡ marks_in (true_ahead (course_along c.args.along.now) (assignment_in c.args.env.now) x)
    (states_along c.args.along.now) c.args.span) (sym (ap tree_of_formula c.in-Atom.is ∙ tree-Atom c.in-Atom.pred c.in-Atom.terms))
    found

pub labels_of-negated_labels-requires : goal.labels_of-negated_labels-requires
labels_of-negated_labels-requires t c =
    let one = one-Not c.args.f.now c.deref.result.now c.in-Not.part c.in-Not.is c.deref.ensures in (
      omega (arith, one.smaller, c.decreases),
      (
        c.requires.along,
        (
          c.requires.span,
          (c.requires.frame, subst (Fits (signature_of c.args.along.now.task.now.problem.domain) []) one.tree c.requires.fits),
        ),
      ),
    )

pub labels_of-returns-in-Not-clause-labels : goal.labels_of-returns-in-Not-clause-labels
labels_of-returns-in-Not-clause-labels t c =
    let one = one-Not c.args.f.now c.deref.result.now c.in-Not.part c.in-Not.is c.deref.ensures in
    subst (λ (x : FormulaTree). AreLabelsAlong c.args.along.now c.args.span c.args.env.now x c.negated_labels.result)
    (sym one.tree) c.negated_labels.ensures.labels

pub labels_of-parts_labels-requires : goal.labels_of-parts_labels-requires
labels_of-parts_labels-requires t c =
    let one = all-And c.args.f.now c.in-And.parts c.in-And.is in (
      omega (arith, one.smaller, c.decreases),
      (
        c.requires.along,
        (
          c.requires.span,
          (c.requires.frame, subst (Fits (signature_of c.args.along.now.task.now.problem.domain) []) one.tree c.requires.fits),
        ),
      ),
    )

pub labels_of-returns-in-And-clause-labels : goal.labels_of-returns-in-And-clause-labels
labels_of-returns-in-And-clause-labels t c =
    let one = all-And c.args.f.now c.in-And.parts c.in-And.is in
    subst (λ (x : FormulaTree). AreLabelsAlong c.args.along.now c.args.span c.args.env.now x c.parts_labels.result)
    (sym one.tree) c.parts_labels.ensures.labels

pub labels_of-parts_labels-requires-in-Or : goal.labels_of-parts_labels-requires-in-Or
labels_of-parts_labels-requires-in-Or t c =
    let one = all-Or c.args.f.now c.in-Or.parts c.in-Or.is in (
      omega (arith, one.smaller, c.decreases),
      (
        c.requires.along,
        (
          c.requires.span,
          (c.requires.frame, subst (Fits (signature_of c.args.along.now.task.now.problem.domain) []) one.tree c.requires.fits),
        ),
      ),
    )

pub labels_of-returns-in-Or-clause-labels : goal.labels_of-returns-in-Or-clause-labels
labels_of-returns-in-Or-clause-labels t c =
    let one = all-Or c.args.f.now c.in-Or.parts c.in-Or.is in
    subst (λ (x : FormulaTree). AreLabelsAlong c.args.along.now c.args.span c.args.env.now x c.parts_labels-in-Or.result)
    (sym one.tree) c.parts_labels-in-Or.ensures.labels

pub labels_of-quantified_labels-requires : goal.labels_of-quantified_labels-requires
labels_of-quantified_labels-requires t c =
    let one = body-ForAll c.args.f.now c.deref-in-ForAll.result.now c.in-ForAll.vars c.in-ForAll.bound c.in-ForAll.part c.in-ForAll.is
    c.deref-in-ForAll.ensures in (
      omega (arith, one.smaller, c.decreases),
      (
        c.requires.along,
        (
          c.requires.span,
          (c.requires.frame, subst (Fits (signature_of c.args.along.now.task.now.problem.domain) []) one.tree c.requires.fits),
        ),
      ),
    )

pub labels_of-returns-in-ForAll-clause-labels : goal.labels_of-returns-in-ForAll-clause-labels
labels_of-returns-in-ForAll-clause-labels t c =
    let one = body-ForAll c.args.f.now c.deref-in-ForAll.result.now c.in-ForAll.vars c.in-ForAll.bound c.in-ForAll.part c.in-ForAll.is
    c.deref-in-ForAll.ensures in
    subst (λ (x : FormulaTree). AreLabelsAlong c.args.along.now c.args.span c.args.env.now x c.quantified_labels.result)
    (sym one.tree) c.quantified_labels.ensures.labels

pub labels_of-quantified_labels-requires-in-Exists : goal.labels_of-quantified_labels-requires-in-Exists
labels_of-quantified_labels-requires-in-Exists t c =
    let one = body-Exists c.args.f.now c.deref-in-Exists.result.now c.in-Exists.vars c.in-Exists.bound c.in-Exists.part c.in-Exists.is
    c.deref-in-Exists.ensures in (
      omega (arith, one.smaller, c.decreases),
      (
        c.requires.along,
        (
          c.requires.span,
          (c.requires.frame, subst (Fits (signature_of c.args.along.now.task.now.problem.domain) []) one.tree c.requires.fits),
        ),
      ),
    )

pub labels_of-returns-in-Exists-clause-labels : goal.labels_of-returns-in-Exists-clause-labels
labels_of-returns-in-Exists-clause-labels t c =
    let one = body-Exists c.args.f.now c.deref-in-Exists.result.now c.in-Exists.vars c.in-Exists.bound c.in-Exists.part c.in-Exists.is
    c.deref-in-Exists.ensures in
    subst (λ (x : FormulaTree). AreLabelsAlong c.args.along.now c.args.span c.args.env.now x c.quantified_labels-in-Exists.result)
    (sym one.tree) c.quantified_labels-in-Exists.ensures.labels

pub labels_of-next_labels-requires : goal.labels_of-next_labels-requires
labels_of-next_labels-requires t c =
    let one = one-Next c.args.f.now c.deref-in-Next.result.now c.in-Next.part c.in-Next.is c.deref-in-Next.ensures in (
      omega (arith, one.smaller, c.decreases),
      (
        c.requires.along,
        (
          c.requires.span,
          (c.requires.frame, subst (Fits (signature_of c.args.along.now.task.now.problem.domain) []) one.tree c.requires.fits),
        ),
      ),
    )

pub labels_of-returns-in-Next-clause-labels : goal.labels_of-returns-in-Next-clause-labels
labels_of-returns-in-Next-clause-labels t c =
    let one = one-Next c.args.f.now c.deref-in-Next.result.now c.in-Next.part c.in-Next.is c.deref-in-Next.ensures in
    subst (λ (x : FormulaTree). AreLabelsAlong c.args.along.now c.args.span c.args.env.now x c.next_labels.result)
    (sym one.tree) c.next_labels.ensures.labels

pub labels_of-later_labels-requires : goal.labels_of-later_labels-requires
labels_of-later_labels-requires t c =
    let one = one-Always c.args.f.now c.deref-in-Always.result.now c.in-Always.part c.in-Always.is c.deref-in-Always.ensures in (
      omega (arith, one.smaller, c.decreases),
      (
        c.requires.along,
        (
          c.requires.span,
          (c.requires.frame, subst (Fits (signature_of c.args.along.now.task.now.problem.domain) []) one.tree c.requires.fits),
        ),
      ),
    )

pub labels_of-returns-in-Always-clause-labels : goal.labels_of-returns-in-Always-clause-labels
labels_of-returns-in-Always-clause-labels t c =
    let one = one-Always c.args.f.now c.deref-in-Always.result.now c.in-Always.part c.in-Always.is c.deref-in-Always.ensures in
    subst (λ (x : FormulaTree). AreLabelsAlong c.args.along.now c.args.span c.args.env.now x c.later_labels.result)
    (sym one.tree) c.later_labels.ensures.labels

pub labels_of-later_labels-requires-in-Eventually : goal.labels_of-later_labels-requires-in-Eventually
labels_of-later_labels-requires-in-Eventually t c =
    let one = one-Eventually c.args.f.now c.deref-in-Eventually.result.now c.in-Eventually.part c.in-Eventually.is
    c.deref-in-Eventually.ensures in (
      omega (arith, one.smaller, c.decreases),
      (
        c.requires.along,
        (
          c.requires.span,
          (c.requires.frame, subst (Fits (signature_of c.args.along.now.task.now.problem.domain) []) one.tree c.requires.fits),
        ),
      ),
    )

pub labels_of-returns-in-Eventually-clause-labels : goal.labels_of-returns-in-Eventually-clause-labels
labels_of-returns-in-Eventually-clause-labels t c =
    let one = one-Eventually c.args.f.now c.deref-in-Eventually.result.now c.in-Eventually.part c.in-Eventually.is
    c.deref-in-Eventually.ensures in
    subst (λ (x : FormulaTree). AreLabelsAlong c.args.along.now c.args.span c.args.env.now x c.later_labels-in-Eventually.result)
    (sym one.tree) c.later_labels-in-Eventually.ensures.labels

pub labels_of-until_labels-requires : goal.labels_of-until_labels-requires
labels_of-until_labels-requires t c =
    let one = two-Until c.args.f.now c.deref-in-Until.result.now c.deref-in-Until-2.result.now c.in-Until.first c.in-Until.second
    c.in-Until.is c.deref-in-Until.ensures c.deref-in-Until-2.ensures in (
      omega (arith, one.smaller, c.decreases),
      (
        c.requires.along,
        (
          c.requires.span,
          (c.requires.frame, subst (Fits (signature_of c.args.along.now.task.now.problem.domain) []) one.tree c.requires.fits),
        ),
      ),
    )

pub labels_of-returns-in-Until-clause-labels : goal.labels_of-returns-in-Until-clause-labels
labels_of-returns-in-Until-clause-labels t c =
    let one = two-Until c.args.f.now c.deref-in-Until.result.now c.deref-in-Until-2.result.now c.in-Until.first c.in-Until.second
    c.in-Until.is c.deref-in-Until.ensures c.deref-in-Until-2.ensures in
    subst (λ (x : FormulaTree). AreLabelsAlong c.args.along.now c.args.span c.args.env.now x c.until_labels.result)
    (sym one.tree) c.until_labels.ensures.labels

pub labels_of-later_labels-requires-in-Within : goal.labels_of-later_labels-requires-in-Within
labels_of-later_labels-requires-in-Within t c =
    let one = one-Within c.args.f.now c.deref-in-Within.result.now c.in-Within.steps c.in-Within.part c.in-Within.is
    c.deref-in-Within.ensures in (
      omega (arith, one.smaller, c.decreases),
      (
        c.requires.along,
        (
          c.requires.span,
          (c.requires.frame, subst (Fits (signature_of c.args.along.now.task.now.problem.domain) []) one.tree c.requires.fits),
        ),
      ),
    )

pub labels_of-returns-in-Within-clause-labels : goal.labels_of-returns-in-Within-clause-labels
labels_of-returns-in-Within-clause-labels t c =
    let one = one-Within c.args.f.now c.deref-in-Within.result.now c.in-Within.steps c.in-Within.part c.in-Within.is
    c.deref-in-Within.ensures in
    subst (λ (x : FormulaTree). AreLabelsAlong c.args.along.now c.args.span c.args.env.now x c.later_labels-in-Within.result)
    (sym one.tree) c.later_labels-in-Within.ensures.labels

pub labels_of-later_labels-requires-in-During : goal.labels_of-later_labels-requires-in-During
labels_of-later_labels-requires-in-During t c =
    let one = one-During c.args.f.now c.deref-in-During.result.now c.in-During.steps c.in-During.part c.in-During.is
    c.deref-in-During.ensures in (
      omega (arith, one.smaller, c.decreases),
      (
        c.requires.along,
        (
          c.requires.span,
          (c.requires.frame, subst (Fits (signature_of c.args.along.now.task.now.problem.domain) []) one.tree c.requires.fits),
        ),
      ),
    )

pub labels_of-returns-in-During-clause-labels : goal.labels_of-returns-in-During-clause-labels
labels_of-returns-in-During-clause-labels t c =
    let one = one-During c.args.f.now c.deref-in-During.result.now c.in-During.steps c.in-During.part c.in-During.is
    c.deref-in-During.ensures in
    subst (λ (x : FormulaTree). AreLabelsAlong c.args.along.now c.args.span c.args.env.now x c.later_labels-in-During.result)
    (sym one.tree) c.later_labels-in-During.ensures.labels

pub negated_labels-labels_of-requires : goal.negated_labels-labels_of-requires
negated_labels-labels_of-requires t c = (
  omega (arith, c.decreases),
  (
    c.requires.along,
    (
      c.requires.span,
      (
        c.requires.frame,
        fits-not (signature_of c.args.along.now.task.now.problem.domain) (tree_of_formula c.args.part.now) c.requires.fits,
      ),
    ),
  ),
)

pub negated_labels-returns-clause-labels : goal.negated_labels-returns-clause-labels
negated_labels-returns-clause-labels t c =
    not-made (course_along c.args.along.now) (states_along c.args.along.now) c.args.span c.requires.span (assignment_in c.args.env.now)
    (tree_of_formula c.args.part.now) c.in_ok-found.found c.negate.new.self c.in_ok-found.ensures.labels c.negate.ensures

pub negated_labels-returns-in_err-found-clause-labels : goal.negated_labels-returns-in_err-found-clause-labels
negated_labels-returns-in_err-found-clause-labels t c =
    let a = c.args.along.now in
    let p = course_along a in
    let ws = states_along a in
    let e = assignment_in c.args.env.now in
    let f = tree_of_formula c.args.part.now in
    passed-on a (AreLabels p ws c.args.span e f) (AreLabels p ws c.args.span e (negation f))
    (λ y h. not-noted p ws c.args.span c.requires.span e f y h) c.from_residual.result c.in_err-found.field-0.0
    c.from_residual.ensures.1 c.in_err-found.ensures.labels

pub next_labels-labels_of-requires : goal.next_labels-labels_of-requires
next_labels-labels_of-requires t c =
    let a = c.args.along.now in
    let p = course_along a in
    let ws = states_along a in
    let e = assignment_in c.args.env.now in
    let f = tree_of_formula c.args.part.now in (
      omega (arith, c.decreases),
      (
        c.requires.along,
        (
          shifted-within p ws c.args.span c.requires.span e f
              (omega (arith, c.requires.along.count, c.if-span-along.true)),
          (c.requires.frame, fits-next (signature_of a.task.now.problem.domain) f c.requires.fits),
        ),
      ),
    )

pub next_labels-later_labels-requires : goal.next_labels-later_labels-requires
next_labels-later_labels-requires t c =
    (omega (arith, c.decreases), (c.requires.along, (c.requires.span, (c.requires.frame, c.requires.fits))))

pub next_labels-returns-then-span-along-clause-labels : goal.next_labels-returns-then-span-along-clause-labels
next_labels-returns-then-span-along-clause-labels t c =
    let a = c.args.along.now in
    let p = course_along a in
    let ws = states_along a in
    let e = assignment_in c.args.env.now in
    let f = tree_of_formula c.args.part.now in
    let shift = shifted p ws c.args.span c.requires.span e f in
    by-cases a (AreLabels p ws shift e f) (AreLabels p ws c.args.span e (next f))
    (λ r h. next-handed p ws c.args.span c.requires.span e f (omega (arith, c.requires.along.count, c.if-span-along.true)) r h)
    c.labels_of.result c.labels_of.ensures.labels

pub later_labels-labels_of-requires : goal.later_labels-labels_of-requires
later_labels-labels_of-requires t c =
    let a = c.args.along.now in
    let f = tree_of_formula c.args.part.now in (
      omega (arith, c.decreases),
      (
        c.requires.along,
        (
          ahead-in a c.args.span c.requires.along c.requires.span c.ahead-ahead.result
              c.ahead-ahead.ensures,
          (c.requires.frame, fits-word (signature_of a.task.now.problem.domain) f c.args.word c.requires.fits),
        ),
      ),
    )

pub later_labels-returns-clause-labels : goal.later_labels-returns-clause-labels
later_labels-returns-clause-labels t c =
    let a = c.args.along.now in
    let p = course_along a in
    let ws = states_along a in
    let e = assignment_in c.args.env.now in
    let f = tree_of_formula c.args.part.now in
    let k = c.ahead-ahead.ensures in
    later-made p ws c.args.span c.requires.span e f a.again refl (loops-in a c.requires.along) c.ahead-ahead.result k.here k.again k.one
    (k.to ∙ c.requires.along.count)
    c.args.word c.in_ok-found.found c.repeat_from.new.self c.later.new.self c.narrow.new.self c.in_ok-found.ensures.labels
    c.in_ok-repeat_from.ensures.repeated c.in_ok-later.ensures.later c.in_ok-narrow.ensures

pub later_labels-returns-in_err-found-clause-labels : goal.later_labels-returns-in_err-found-clause-labels
later_labels-returns-in_err-found-clause-labels t c =
    let a = c.args.along.now in
    let p = course_along a in
    let ws = states_along a in
    let e = assignment_in c.args.env.now in
    let f = tree_of_formula c.args.part.now in
    let k = c.ahead-ahead.ensures in
    passed-on a (AreLabels p ws c.ahead-ahead.result e f) (AreLabels p ws c.args.span e (later_tree c.args.word f))
    (λ y h. later-noted p ws c.args.span c.requires.span e f a.again refl
    (loops-in a c.requires.along) c.ahead-ahead.result k.here k.again k.one (k.to ∙ c.requires.along.count) c.args.word y h)
    c.from_residual.result c.in_err-found.field-0.0 c.from_residual.ensures.1 c.in_err-found.ensures.labels

pub until_labels-labels_of-requires : goal.until_labels-labels_of-requires
until_labels-labels_of-requires t c =
    let a = c.args.along.now in
    let parts = until-parts (signature_of a.task.now.problem.domain) (tree_of_formula c.args.first.now)
    (tree_of_formula c.args.second.now) c.requires.fits in (
      omega (arith, c.decreases),
      (
        c.requires.along,
        (
          ahead-in a c.args.span c.requires.along c.requires.span c.ahead-ahead.result
              c.ahead-ahead.ensures,
          (c.requires.frame, parts.0),
        ),
      ),
    )

pub until_labels-labels_of-requires-2 : goal.until_labels-labels_of-requires-2
until_labels-labels_of-requires-2 t c =
    let a = c.args.along.now in
    let parts = until-parts (signature_of a.task.now.problem.domain) (tree_of_formula c.args.first.now)
    (tree_of_formula c.args.second.now) c.requires.fits in (
      omega (arith, c.decreases),
      (
        c.requires.along,
        (
          ahead-in a c.args.span c.requires.along c.requires.span c.ahead-ahead.result
              c.ahead-ahead.ensures,
          (ap length c.in_ok-found.ensures.frame ∙ c.requires.frame, parts.1),
        ),
      ),
    )

pub until_labels-until-requires : goal.until_labels-until-requires
until_labels-until-requires t c =
    let a = c.args.along.now in
    let p = course_along a in
    let ws = states_along a in
    let e = assignment_in c.args.env.now in
    let f = tree_of_formula c.args.first.now in
    let g = tree_of_formula c.args.second.now in
    let d = assignment_in c.labels_of.new.env in
    let same = same-length ws c.ahead-ahead.result (ahead-in a c.args.span c.requires.along c.requires.span c.ahead-ahead.result
    c.ahead-ahead.ensures) (true_ahead p e f) (true_ahead p d g) c.in_ok-found.found c.in_ok-other.other c.in_ok-found.ensures.labels
    c.in_ok-other.ensures.labels in
    same-round (a.again - c.ahead-ahead.result.from) c.in_ok-found.found c.in_ok-other.other c.repeat_from.new.self c.repeat_from-2.new.self
    same c.in_ok-repeat_from.ensures.repeated c.in_ok-repeat_from-2.ensures.repeated

pub until_labels-returns-clause-labels : goal.until_labels-returns-clause-labels
until_labels-returns-clause-labels t c =
    let a = c.args.along.now in
    let p = course_along a in
    let ws = states_along a in
    let e = assignment_in c.args.env.now in
    let f = tree_of_formula c.args.first.now in
    let g = tree_of_formula c.args.second.now in
    let d = assignment_in c.labels_of.new.env in
    let k = c.ahead-ahead.ensures in
    until-made p ws c.args.span c.requires.span e f a.again refl (loops-in a c.requires.along) c.ahead-ahead.result k.here k.again k.one
    (k.to ∙ c.requires.along.count) d g
    c.in_ok-found.found c.in_ok-other.other c.repeat_from.new.self c.repeat_from-2.new.self c.until.new.self c.narrow.new.self
    (ap assignment_in c.in_ok-found.ensures.frame)
    c.in_ok-found.ensures.labels c.in_ok-other.ensures.labels c.in_ok-repeat_from.ensures.repeated c.in_ok-repeat_from-2.ensures.repeated
    c.in_ok-until.ensures.until c.in_ok-narrow.ensures

pub until_labels-returns-in_err-found-clause-labels : goal.until_labels-returns-in_err-found-clause-labels
until_labels-returns-in_err-found-clause-labels t c =
    let a = c.args.along.now in
    let p = course_along a in
    let ws = states_along a in
    let e = assignment_in c.args.env.now in
    let f = tree_of_formula c.args.first.now in
    let g = tree_of_formula c.args.second.now in
    let k = c.ahead-ahead.ensures in
    passed-on a (AreLabels p ws c.ahead-ahead.result e f) (AreLabels p ws c.args.span e (until f g))
    (λ y h. until-first-noted p ws c.args.span c.requires.span e f a.again refl
    (loops-in a c.requires.along) c.ahead-ahead.result k.here k.again k.one (k.to ∙ c.requires.along.count) e g y h)
    c.from_residual.result c.in_err-found.field-0.0 c.from_residual.ensures.1 c.in_err-found.ensures.labels

pub until_labels-returns-in_err-other-clause-labels : goal.until_labels-returns-in_err-other-clause-labels
until_labels-returns-in_err-other-clause-labels t c =
    let a = c.args.along.now in
    let p = course_along a in
    let ws = states_along a in
    let e = assignment_in c.args.env.now in
    let f = tree_of_formula c.args.first.now in
    let g = tree_of_formula c.args.second.now in
    let d = assignment_in c.labels_of.new.env in
    let k = c.ahead-ahead.ensures in
    passed-on a (AreLabels p ws c.ahead-ahead.result d g) (AreLabels p ws c.args.span e (until f g))
    (λ y h. until-second-noted p ws c.args.span c.requires.span e f a.again refl
    (loops-in a c.requires.along) c.ahead-ahead.result k.here k.again k.one (k.to ∙ c.requires.along.count) d g y
    (ap assignment_in c.in_ok-found.ensures.frame) h) c.from_residual-in_err-other.result c.in_err-other.field-0.0
    c.from_residual-in_err-other.ensures.1 c.in_err-other.ensures.labels

pub parts_labels-loop-part-init : goal.parts_labels-loop-part-init
parts_labels-loop-part-init t c =
    record {
      frame = refl;
      so_far = parts-begun (course_along c.args.along.now) (assignment_in c.args.env.now)
          (states_along c.args.along.now) c.args.span c.requires.span c.args.junction c.as_slice-part-items.result.now c.in_ok-all.all
          (c.in_ok-all.ensures.same ∙ ap (λ (b : Bool). replicate (c.args.span.to - c.args.span.from) (not b)) c.deciding_truth.ensures);
    }

pub parts_labels-join_part-requires : goal.parts_labels-join_part-requires
parts_labels-join_part-requires t c =
    let less = size-at c.as_slice-part-items.result.now c.args.parts.now c.loop-part.part-index c.part-item.result
    c.as_slice-part-items.ensures c.loop-part-test.true c.part-item.is in
    let so = c.loop-part.invariant.so_far in
    let many : length c.loop-part.all ≡ c.args.span.to - c.args.span.from = ap length so.labels ∙
    marks_in-length so.so_far (states_along c.args.along.now) c.args.span c.requires.span in (
      omega (arith, less, c.decreases),
      (
        c.requires.along,
        (
          c.requires.span,
          (
            ap length c.loop-part.invariant.frame ∙ c.requires.frame,
            (
              item-fits
                  (signature_of c.args.along.now.task.now.problem.domain) c.args.junction c.args.parts.now c.as_slice-part-items.result.now
                  c.loop-part.part-index c.part-item.result c.as_slice-part-items.ensures c.loop-part-test.true c.part-item.is
                  c.requires.fits,
              (let order = c.requires.span.order in omega (arith, many)),
            ),
          ),
        ),
      ),
    )

pub parts_labels-loop-part-preserved : goal.parts_labels-loop-part-preserved
parts_labels-loop-part-preserved t c =
    let p = course_along c.args.along.now in
    let ws = states_along c.args.along.now in
    let e = assignment_in c.args.env.now in
    let f = tree_of_formula c.part-item.result in
    record {
      frame = c.in_ok-join_part.ensures.frame ∙ c.loop-part.invariant.frame;
      so_far = parts-on p e ws c.args.span c.requires.span c.args.junction c.as_slice-part-items.result.now c.loop-part.all
          (marks_in (true_ahead p e f) ws c.args.span) c.join_part.new.all c.loop-part.part-index c.part-item.result c.loop-part-test.true
          c.part-item.is c.loop-part.invariant.so_far refl
          (c.in_ok-join_part.ensures.joined ∙ ap (λ (x : Assignment). joined_labels c.args.junction c.loop-part.all
          (marks_in (true_ahead p x f) ws c.args.span)) (ap assignment_in c.loop-part.invariant.frame));
    }

pub parts_labels-returns-clause-labels : goal.parts_labels-returns-clause-labels
parts_labels-returns-clause-labels t c =
    parts-end (course_along c.args.along.now) (assignment_in c.args.env.now)
    (states_along c.args.along.now) c.args.span c.requires.span c.args.junction c.as_slice-part-items.result.now c.args.parts.now
    c.loop-part.all c.loop-part.part-index c.as_slice-part-items.ensures c.loop-part-test.false c.loop-part.invariant.so_far

pub parts_labels-returns-in_err-join_part-clause-labels : goal.parts_labels-returns-in_err-join_part-clause-labels
parts_labels-returns-in_err-join_part-clause-labels t c =
    let a = c.args.along.now in
    let p = course_along a in
    let ws = states_along a in
    let e = assignment_in c.args.env.now in
    let d = assignment_in c.loop-part.env in
    let f = tree_of_formula c.part-item.result in
    passed-on a (JoinsPart p ws c.args.span d c.args.junction f c.loop-part.all c.join_part.new.all)
    (AreLabels p ws c.args.span e (joined c.args.junction (tree_of_formulas c.args.parts.now)))
    (λ y h. item-noted p ws c.args.span e d c.args.junction c.args.parts.now c.as_slice-part-items.result.now c.loop-part.part-index
    c.part-item.result c.as_slice-part-items.ensures c.loop-part-test.true c.part-item.is
    (ap assignment_in c.loop-part.invariant.frame) y (part-noted p ws c.args.span d c.args.junction f c.loop-part.all
    c.join_part.new.all y h)) c.from_residual-in_err-join_part.result c.in_err-join_part.field-0.0
    c.from_residual-in_err-join_part.ensures.1 c.in_err-join_part.ensures.joined

pub join_part-labels_of-requires : goal.join_part-labels_of-requires
join_part-labels_of-requires t c =
    let within = inner-within c.args.part.now.junction c.args.all.now (true_ahead (course_along c.args.along.now)
    (assignment_in c.args.env.now) (tree_of_formula c.args.part.now.formula.now))
    (states_along c.args.along.now) c.args.span c.in-Some.inner c.requires.span c.requires.size c.in-Some.ensures.inner in
    (omega (arith, c.decreases), (c.requires.along, (within, (c.requires.frame, c.requires.fits))))

pub join_part-join_at-requires : goal.join_part-join_at-requires
join_part-join_at-requires t c =
    let test = true_ahead (course_along c.args.along.now) (assignment_in c.args.env.now) (tree_of_formula c.args.part.now.formula.now) in
    let room = inner-room c.args.part.now.junction c.args.all.now test
    (states_along c.args.along.now) c.args.span c.in-Some.inner c.requires.span c.requires.size c.in-Some.ensures.inner in
    omega (arith, room, ap length c.in_ok-found-in-Some.ensures.labels, ap length c.in-Some.ensures.same)

pub join_part-returns-in_ok-join_at-in-Some-clause-joined : goal.join_part-returns-in_ok-join_at-in-Some-clause-joined
join_part-returns-in_ok-join_at-in-Some-clause-joined t c =
    let test = true_ahead (course_along c.args.along.now) (assignment_in c.args.env.now) (tree_of_formula c.args.part.now.formula.now) in
    let j = c.args.part.now.junction in
    let at = c.in-Some.inner.from - c.args.span.from in
    let fill = not (deciding_truth j) in
    c.in_ok-join_at-in-Some.ensures.joined
    ∙ (ap (λ (bs : List Bool). joined_labels j bs (placed_labels c.in_ok-found-in-Some.found at (length bs) fill)) c.in-Some.ensures.same
    ∙ (ap (λ (bs : List Bool). joined_labels j c.args.all.now (placed_labels bs at (length c.args.all.now) fill))
    c.in_ok-found-in-Some.ensures.labels
    ∙ open-joined j c.args.all.now test (states_along c.args.along.now) c.args.span c.in-Some.inner c.requires.span c.requires.size
    c.in-Some.ensures.inner))

pub join_part-returns-in-None-clause-joined : goal.join_part-returns-in-None-clause-joined
join_part-returns-in-None-clause-joined t c =
    let test = true_ahead (course_along c.args.along.now) (assignment_in c.args.env.now) (tree_of_formula c.args.part.now.formula.now) in
    c.in-None.ensures.same ∙ decided-part c.args.part.now.junction c.args.all.now test
    (states_along c.args.along.now) c.args.span c.args.span c.requires.span c.requires.size c.in-None.ensures.none

pub quantified_labels-tuples_of-requires-clause-differ : goal.quantified_labels-tuples_of-requires-clause-differ
quantified_labels-tuples_of-requires-clause-differ t c =
    (parts-of c.args.along.now c.args.binder.now c.requires.fits).differ

pub quantified_labels-tuples_of-requires-clause-occur : goal.quantified_labels-tuples_of-requires-clause-occur
quantified_labels-tuples_of-requires-clause-occur t c =
    (parts-of c.args.along.now c.args.binder.now c.requires.fits).occur

pub quantified_labels-tuples_of-requires-clause-fits : goal.quantified_labels-tuples_of-requires-clause-fits
quantified_labels-tuples_of-requires-clause-fits t c =
    (parts-of c.args.along.now c.args.binder.now c.requires.fits).bound

pub quantified_labels-kept-outer-requires : goal.quantified_labels-kept-outer-requires
quantified_labels-kept-outer-requires t c =
    let parts = parts-of c.args.along.now c.args.binder.now c.requires.fits in
    record { few = omega (arith, ap length c.as_slice-vars.ensures, parts.few) }

pub quantified_labels-loop-tuple-init : goal.quantified_labels-loop-tuple-init
quantified_labels-loop-tuple-init t c =
    let a = c.args.along.now in
    let b = c.args.binder.now in
    let e = assignment_in c.args.env.now in
    let parts = parts-of a b c.requires.fits in
    let such = tuples-known a e b c.args.span c.in_ok-tuples.field-0 c.in-Some.tuples c.in-Some.is c.in_ok-tuples.ensures.tuples in
    record {
      counts = subst (Each (IsTuple (length b.vars.now))) (sym c.deref-tuple-items.ensures.value) such.have.counts;
      scope = λ u. refl;
      slots = c.requires.frame;
      so_far = joining-begun (course_along a) (states_along a) e (quantifier_of b) parts.differ parts.occur c.args.span c.requires.span
          c.in-Some.tuples.facts.items such.have c.in_ok-all.all c.deref-tuple-items.result.now c.deref-tuple-items.ensures.value
          (c.in_ok-all.ensures.same ∙ ap (λ (x : Bool). replicate (c.args.span.to - c.args.span.from) (not x)) c.deciding_truth.ensures);
    }

pub quantified_labels-put_values-requires-clause-slots : goal.quantified_labels-put_values-requires-clause-slots
quantified_labels-put_values-requires-clause-slots t c =
    let parts = parts-of c.args.along.now c.args.binder.now c.requires.fits in
    subst (Each (λ (s : Var). s.slot < 32)) (sym c.as_slice-vars.ensures) parts.in_frame

pub quantified_labels-put_values-requires-clause-same : goal.quantified_labels-put_values-requires-clause-same
quantified_labels-put_values-requires-clause-same t c =
    let known = tuple-at (length c.args.binder.now.vars.now) c.deref-tuple-items.result.now c.loop-tuple.invariant.counts
    c.loop-tuple.tuple-index c.tuple-item.result c.loop-tuple-test.true c.tuple-item.is in
    ap length c.as_slice-vars.ensures ∙ sym (ap length c.as_slice.ensures ∙ known.1)

pub quantified_labels-there-requires-clause-fits : goal.quantified_labels-there-requires-clause-fits
quantified_labels-there-requires-clause-fits t c =
    let such = tuples-known c.args.along.now (assignment_in c.args.env.now) c.args.binder.now c.args.span c.in_ok-tuples.field-0
    c.in-Some.tuples c.in-Some.is c.in_ok-tuples.ensures.tuples in
    subst (BoundFitsAlong c.args.along.now) (sym such.bound) (parts-of c.args.along.now c.args.binder.now c.requires.fits).bound

pub quantified_labels-join_instance-requires : goal.quantified_labels-join_instance-requires
quantified_labels-join_instance-requires t c =
    let a = c.args.along.now in
    let b = c.args.binder.now in
    let e = assignment_in c.args.env.now in
    let f = c.tuple-item.result in
    let parts = parts-of a b c.requires.fits in
    let such = tuples-known a e b c.args.span c.in_ok-tuples.field-0 c.in-Some.tuples c.in-Some.is c.in_ok-tuples.ensures.tuples in
    let known = tuple-at (length b.vars.now) c.deref-tuple-items.result.now c.loop-tuple.invariant.counts c.loop-tuple.tuple-index f
    c.loop-tuple-test.true c.tuple-item.is in
    let here = put-here b.vars.now f.args (assignment_in c.loop-tuple.env) e c.loop-tuple.invariant.scope c.as_slice-vars.result.now
    c.as_slice-vars.ensures c.as_slice.result.now c.as_slice.ensures
    (assignment_in c.put_values.new.self) c.put_values.ensures.values in
    let there = labels-known a c.args.span c.put_values.new.self b c.in_ok-there.field-0 c.in-Some-2.there c.in-Some-2.is
    (c.in_ok-there.ensures.there e b such parts.differ parts.occur known here) in (
      omega (arith, c.decreases),
      (
        c.requires.along,
        (
          c.requires.span,
          (
            c.put_values.ensures.slots ∙ c.loop-tuple.invariant.slots,
            (c.requires.fits, (there, omega (arith, c.loop-tuple.invariant.so_far.size, c.requires.span.order))),
          ),
        ),
      ),
    )

pub quantified_labels-loop-tuple-preserved : goal.quantified_labels-loop-tuple-preserved
quantified_labels-loop-tuple-preserved t c =
    let a = c.args.along.now in
    let b = c.args.binder.now in
    let q : Quantifier = quantifier_of b in
    let e = assignment_in c.args.env.now in
    let f = c.tuple-item.result in
    let parts = parts-of a b c.requires.fits in
    let such = tuples-known a e b c.args.span c.in_ok-tuples.field-0 c.in-Some.tuples c.in-Some.is c.in_ok-tuples.ensures.tuples in
    let here = put-here b.vars.now f.args (assignment_in c.loop-tuple.env) e c.loop-tuple.invariant.scope c.as_slice-vars.result.now
    c.as_slice-vars.ensures c.as_slice.result.now c.as_slice.ensures
    (assignment_in c.put_values.new.self) c.put_values.ensures.values in
    record {
      counts = c.loop-tuple.invariant.counts;
      scope = λ u. bind-through q.vars u f.args (assignment_in c.join_instance.new.env) e
          (ap assignment_in c.in_ok-join_instance-in-Some-2.ensures.frame ∙ here);
      slots = ap length c.in_ok-join_instance-in-Some-2.ensures.frame ∙ (c.put_values.ensures.slots ∙ c.loop-tuple.invariant.slots);
      so_far = joining-on (course_along a) (states_along a) e q parts.differ parts.occur c.args.span c.requires.span
          c.in-Some.tuples.facts.items such.have c.loop-tuple.all c.deref-tuple-items.result.now c.loop-tuple.tuple-index f
          c.loop-tuple.invariant.so_far c.loop-tuple-test.true c.tuple-item.is c.join_instance.new.all
          c.in_ok-join_instance-in-Some-2.field-0
          (subst (λ (x : Assignment). JoinsInstance (course_along a) (states_along a) c.args.span x q c.loop-tuple.all
          c.join_instance.new.all (Ok c.in_ok-join_instance-in-Some-2.field-0)) here c.in_ok-join_instance-in-Some-2.ensures.joined);
    }

pub quantified_labels-give_back-requires-clause-slots : goal.quantified_labels-give_back-requires-clause-slots
quantified_labels-give_back-requires-clause-slots t c =
    let parts = parts-of c.args.along.now c.args.binder.now c.requires.fits in
    subst (Each (λ (s : Var). s.slot < 32)) (sym c.as_slice-vars.ensures) parts.in_frame

pub quantified_labels-returns-clause-labels : goal.quantified_labels-returns-clause-labels
quantified_labels-returns-clause-labels t c =
    let a = c.args.along.now in
    let b = c.args.binder.now in
    let e = assignment_in c.args.env.now in
    let parts = parts-of a b c.requires.fits in
    let such = tuples-known a e b c.args.span c.in_ok-tuples.field-0 c.in-Some.tuples c.in-Some.is c.in_ok-tuples.ensures.tuples in
    joining-end (course_along a) (states_along a) e (quantifier_of b) parts.differ parts.occur c.args.span c.requires.span
    c.in-Some.tuples.facts.items such.have c.loop-tuple.all c.deref-tuple-items.result.now c.loop-tuple.tuple-index
    c.loop-tuple-test.false c.loop-tuple.invariant.so_far

pub quantified_labels-returns-in_err-join_instance-in-Some-2-clause-labels :
    goal.quantified_labels-returns-in_err-join_instance-in-Some-2-clause-labels
quantified_labels-returns-in_err-join_instance-in-Some-2-clause-labels t c =
    let a = c.args.along.now in
    let b = c.args.binder.now in
    let p = course_along a in
    let ws = states_along a in
    let q : Quantifier = quantifier_of b in
    let e = assignment_in c.args.env.now in
    let f = c.tuple-item.result in
    let parts = parts-of a b c.requires.fits in
    let such = tuples-known a e b c.args.span c.in_ok-tuples.field-0 c.in-Some.tuples c.in-Some.is c.in_ok-tuples.ensures.tuples in
    let known = tuple-at (length b.vars.now) c.deref-tuple-items.result.now c.loop-tuple.invariant.counts c.loop-tuple.tuple-index f
    c.loop-tuple-test.true c.tuple-item.is in
    let here = put-here b.vars.now f.args (assignment_in c.loop-tuple.env) e c.loop-tuple.invariant.scope c.as_slice-vars.result.now
    c.as_slice-vars.ensures c.as_slice.result.now c.as_slice.ensures
    (assignment_in c.put_values.new.self) c.put_values.ensures.values in
    let x = c.in_err-join_instance-in-Some-2.field-0.0 in
    let old = c.loop-tuple.all in
    let new = c.join_instance.new.all in
    passed-on a (JoinsInstance p ws c.args.span (bind q.vars f.args e) q old new)
    (AreLabels p ws c.args.span e (quantified q.junction q.vars q.bound q.part))
    (λ y h. joining-noted p ws e q parts.differ parts.occur c.args.span c.requires.span c.in-Some.tuples.facts.items such.have f known.1 old
    new y h)
    c.from_residual-in_err-join_instance-in-Some-2.result x c.from_residual-in_err-join_instance-in-Some-2.ensures.1
    (subst (λ (d : Assignment). UnlessFew a (JoinsInstance p ws c.args.span d q old new) (Err x)) here
    c.in_err-join_instance-in-Some-2.ensures.joined)

pub join_instance-hull-requires : goal.join_instance-hull-requires
join_instance-hull-requires t c =
    omega (
      arith,
      ap length c.requires.there,
      marks_in-length (bound_ahead (plain_problem c.args.along.now.task.now.problem)
          (assignment_in c.args.env.now) c.args.instance.now.binder.bound.now) (states_along c.args.along.now) c.args.span c.requires.span,
      c.requires.span.order,
    )

pub join_instance-labels_of-requires : goal.join_instance-labels_of-requires
join_instance-labels_of-requires t c =
    let parts = parts-of c.args.along.now c.args.instance.now.binder c.requires.fits in (
      omega (arith, c.decreases),
      (
        c.requires.along,
        (
          hull-within (course_along c.args.along.now) (states_along c.args.along.now) c.args.span
              (assignment_in c.args.env.now) (quantifier_of c.args.instance.now.binder) c.requires.span c.args.instance.now.there
              c.requires.there
              c.in-Some.hull c.in-Some.ensures.hull,
          (c.requires.frame, parts.body),
        ),
      ),
    )

pub join_instance-overflow_sub-hull : goal.join_instance-overflow_sub-hull
join_instance-overflow_sub-hull t c =
    c.in-Some.ensures.hull.from

pub join_instance-join_where-requires-clause-size : goal.join_instance-join_where-requires-clause-size
join_instance-join_where-requires-clause-size t c =
    omega (
      arith,
      ap length c.requires.there,
      marks_in-length (bound_ahead (plain_problem c.args.along.now.task.now.problem)
          (assignment_in c.args.env.now) c.args.instance.now.binder.bound.now) (states_along c.args.along.now) c.args.span c.requires.span,
      c.requires.span.order,
      c.requires.size,
    )

pub join_instance-join_where-requires-clause-within : goal.join_instance-join_where-requires-clause-within
join_instance-join_where-requires-clause-within t c =
    let hull = c.in-Some.ensures.hull in
    omega (
      arith,
      ap length c.requires.there,
      marks_in-length (bound_ahead (plain_problem c.args.along.now.task.now.problem)
          (assignment_in c.args.env.now) c.args.instance.now.binder.bound.now) (states_along c.args.along.now) c.args.span c.requires.span,
      c.requires.span.order,
      ap length c.in_ok-found-in-Some.ensures.labels,
      marks_in-length (true_ahead (course_along c.args.along.now) (assignment_in c.args.env.now)
          (tree_of_formula c.args.instance.now.binder.part.now)) (states_along c.args.along.now) c.in-Some.hull
          (hull-within (course_along c.args.along.now) (states_along c.args.along.now) c.args.span (assignment_in c.args.env.now)
          (quantifier_of c.args.instance.now.binder) c.requires.span c.args.instance.now.there c.requires.there c.in-Some.hull hull),
      hull.from,
      hull.order,
      hull.to,
    )

pub join_instance-returns-in-None-clause-joined : goal.join_instance-returns-in-None-clause-joined
join_instance-returns-in-None-clause-joined t c =
    instance-nowhere (course_along c.args.along.now) (states_along c.args.along.now) c.args.span (assignment_in c.args.env.now)
    (quantifier_of c.args.instance.now.binder) c.requires.span c.args.instance.now.there c.requires.there c.args.all.now tt
    (omega (arith, c.requires.size)) c.in-None.ensures.none

pub join_instance-returns-in_ok-join_where-in-Some-clause-joined : goal.join_instance-returns-in_ok-join_where-in-Some-clause-joined
join_instance-returns-in_ok-join_where-in-Some-clause-joined t c =
    instance-joined (course_along c.args.along.now) (states_along c.args.along.now) c.args.span (assignment_in c.args.env.now)
    (quantifier_of c.args.instance.now.binder) c.requires.span c.args.instance.now.there c.requires.there c.in-Some.hull
    c.in-Some.ensures.hull c.args.all.now c.join_where.new.self c.in_ok-found-in-Some.found tt
    (omega (arith, c.requires.size)) c.in_ok-found-in-Some.ensures.labels c.in_ok-join_where-in-Some.ensures.size
    c.in_ok-join_where-in-Some.ensures.joined

pub join_instance-returns-in_err-found-in-Some-clause-joined : goal.join_instance-returns-in_err-found-in-Some-clause-joined
join_instance-returns-in_err-found-in-Some-clause-joined t c =
    let a = c.args.along.now in
    let p = course_along a in
    let ws = states_along a in
    let e = assignment_in c.args.env.now in
    let f = tree_of_formula c.args.instance.now.binder.part.now in
    let q : Quantifier = quantifier_of c.args.instance.now.binder in
    let all = c.args.all.now in
    passed-on a (AreLabels p ws c.in-Some.hull e f) (JoinsInstance p ws c.args.span e q all all)
    (λ y h. instance-noted p ws c.args.span e q c.requires.span c.args.instance.now.there c.requires.there c.in-Some.hull
    c.in-Some.ensures.hull all all y h)
    c.from_residual.result c.in_err-found-in-Some.field-0.0 c.from_residual.ensures.1 c.in_err-found-in-Some.ensures.labels
