use Rattle.std.proofs.Common.{[], length, List, Option, subst, arith}
use Rattle.std.proofs.lemmas.List.{length-map}
use Rattle.tl_eval.specs.Frames.{assignment_in}
use Rattle.tl_eval.specs.StateTruth.{FitsAt, IsTruth}
use Rattle.tl_eval.proofs.ArityLaws.{declared-few}
use Rattle.tl_eval.proofs.BodyLaws.{count-plain}
use Rattle.tl_eval.proofs.FormulaParts.{arguments-Atom, sides-Compare}
use Rattle.tl_eval.proofs.StateLaws.{at-Atom, at-Compare}
use Rattle.tl_eval.proofs.WholeLaws.{whole-fits, whole-is, the-value, the-range, the-note}
use Rattle.tl_syntax.specs.declared.definition.Definition.{Definition}
use Rattle.tl_syntax.specs.declared.problem.Problem.{Problem}
use Rattle.tl_syntax.specs.declared.value.Value.{Value}
use Rattle.tl_syntax.specs.Fits.{Fits}
use Rattle.tl_syntax.specs.Signature.{signature_of}
use Rattle.tl_syntax.specs.TreeOfFormula.{tree_of_formula}
use Rattle.tl_syntax.specs.Trees.{FormulaTree}
use Rattle.tl_terms.specs.Definitions.{situation_of}
use Rattle.tl_terms.specs.Looked.{looked_in_state, looks_of}
use Rattle.tl_terms.specs.Truth.{state_true}
use Rattle.tl_terms.specs.ProblemMeaning.{plain_problem}
use Rattle.tl_eval.proofs.state_truth.state_in.Goals as goal

-- the formula fits where all definitions are read whole
fits-whole : (q : Problem) (f : FormulaTree) → Fits (signature_of q.domain) [] f →
    FitsAt (signature_of q.domain) (length q.domain.definitions) f
fits-whole q f h = whole-fits (signature_of q.domain) (length q.domain.definitions) f
    (omega (arith, length-map q.domain.definitions (λ (x : Definition). length x.params))) h

pub atom_true-requires-clause-small : goal.atom_true-requires-clause-small
atom_true-requires-clause-small c =
    let q = c.args.task.now.problem in
    let fits = fits-whole q (tree_of_formula c.args.f.now) c.requires.fits in
    (arguments-Atom (signature_of q.domain) (length q.domain.definitions) c.args.f.now c.in-Atom.pred c.in-Atom.args
    (declared-few _ q.domain.predicates q.domain_keeps.predicates)
    (declared-few _ q.domain.functions q.domain_keeps.functions) c.in-Atom.is fits).small

pub atom_true-requires-clause-few : goal.atom_true-requires-clause-few
atom_true-requires-clause-few c =
    let q = c.args.task.now.problem in
    let fits = fits-whole q (tree_of_formula c.args.f.now) c.requires.fits in
    (arguments-Atom (signature_of q.domain) (length q.domain.definitions) c.args.f.now c.in-Atom.pred c.in-Atom.args
    (declared-few _ q.domain.predicates q.domain_keeps.predicates)
    (declared-few _ q.domain.functions q.domain_keeps.functions) c.in-Atom.is fits).few

pub compare_true-requires-clause-left : goal.compare_true-requires-clause-left
compare_true-requires-clause-left c =
    let q = c.args.task.now.problem in
    let fits = fits-whole q (tree_of_formula c.args.f.now) c.requires.fits in
    (sides-Compare (signature_of q.domain) (length q.domain.definitions) c.args.f.now c.in-Compare.cmp c.in-Compare.left c.in-Compare.right
    (declared-few _ q.domain.functions q.domain_keeps.functions) c.in-Compare.is fits).left

pub compare_true-requires-clause-right : goal.compare_true-requires-clause-right
compare_true-requires-clause-right c =
    let q = c.args.task.now.problem in
    let fits = fits-whole q (tree_of_formula c.args.f.now) c.requires.fits in
    (sides-Compare (signature_of q.domain) (length q.domain.definitions) c.args.f.now c.in-Compare.cmp c.in-Compare.left c.in-Compare.right
    (declared-few _ q.domain.functions q.domain_keeps.functions) c.in-Compare.is fits).right

pub returns-in-Atom-clause-value : goal.returns-in-Atom-clause-value
returns-in-Atom-clause-value c =
    let q = c.args.task.now.problem in
    let p = plain_problem q in
    let here = at-Atom p c.args.w.now (length q.domain.definitions) 0 (assignment_in c.frame.result.now) c.args.f.now c.in-Atom.pred
    c.in-Atom.args c.atom_true.result c.in-Atom.is c.atom_true.ensures in
    let there = subst (λ (x : List (Option Value)). IsTruth p c.args.w.now (length q.domain.definitions) 0 (assignment_in x)
    (tree_of_formula c.args.f.now) c.atom_true.result) c.frame.ensures here in
    let whole = whole-is p c.args.w.now (length q.domain.definitions) 0 (assignment_in c.args.env.now)
    (tree_of_formula c.args.f.now) c.atom_true.result (omega (arith, count-plain q)) there in
    the-value (state_true (situation_of (plain_problem c.args.task.now.problem) c.args.w.now) (assignment_in c.args.env.now)
    (tree_of_formula c.args.f.now)) (looked_in_state (looks_of (plain_problem c.args.task.now.problem) c.args.w.now)
    (situation_of (plain_problem c.args.task.now.problem) c.args.w.now) (assignment_in c.args.env.now) (tree_of_formula c.args.f.now))
    c.atom_true.result whole

pub returns-in-Atom-clause-in_range : goal.returns-in-Atom-clause-in_range
returns-in-Atom-clause-in_range c =
    let q = c.args.task.now.problem in
    let p = plain_problem q in
    let here = at-Atom p c.args.w.now (length q.domain.definitions) 0 (assignment_in c.frame.result.now) c.args.f.now c.in-Atom.pred
    c.in-Atom.args c.atom_true.result c.in-Atom.is c.atom_true.ensures in
    let there = subst (λ (x : List (Option Value)). IsTruth p c.args.w.now (length q.domain.definitions) 0 (assignment_in x)
    (tree_of_formula c.args.f.now) c.atom_true.result) c.frame.ensures here in
    let whole = whole-is p c.args.w.now (length q.domain.definitions) 0 (assignment_in c.args.env.now)
    (tree_of_formula c.args.f.now) c.atom_true.result (omega (arith, count-plain q)) there in
    the-range (state_true (situation_of (plain_problem c.args.task.now.problem) c.args.w.now) (assignment_in c.args.env.now)
    (tree_of_formula c.args.f.now)) (looked_in_state (looks_of (plain_problem c.args.task.now.problem) c.args.w.now)
    (situation_of (plain_problem c.args.task.now.problem) c.args.w.now) (assignment_in c.args.env.now) (tree_of_formula c.args.f.now))
    c.atom_true.result whole

pub returns-in-Atom-clause-note : goal.returns-in-Atom-clause-note
returns-in-Atom-clause-note c =
    let q = c.args.task.now.problem in
    let p = plain_problem q in
    let here = at-Atom p c.args.w.now (length q.domain.definitions) 0 (assignment_in c.frame.result.now) c.args.f.now c.in-Atom.pred
    c.in-Atom.args c.atom_true.result c.in-Atom.is c.atom_true.ensures in
    let there = subst (λ (x : List (Option Value)). IsTruth p c.args.w.now (length q.domain.definitions) 0 (assignment_in x)
    (tree_of_formula c.args.f.now) c.atom_true.result) c.frame.ensures here in
    let whole = whole-is p c.args.w.now (length q.domain.definitions) 0 (assignment_in c.args.env.now)
    (tree_of_formula c.args.f.now) c.atom_true.result (omega (arith, count-plain q)) there in
    the-note (state_true (situation_of (plain_problem c.args.task.now.problem) c.args.w.now) (assignment_in c.args.env.now)
    (tree_of_formula c.args.f.now)) (looked_in_state (looks_of (plain_problem c.args.task.now.problem) c.args.w.now)
    (situation_of (plain_problem c.args.task.now.problem) c.args.w.now) (assignment_in c.args.env.now) (tree_of_formula c.args.f.now))
    c.atom_true.result whole

pub returns-in-Compare-clause-value : goal.returns-in-Compare-clause-value
returns-in-Compare-clause-value c =
    let q = c.args.task.now.problem in
    let p = plain_problem q in
    let here = at-Compare p c.args.w.now (length q.domain.definitions) 0
    (assignment_in c.frame-in-Compare.result.now) c.args.f.now c.in-Compare.cmp c.in-Compare.left c.in-Compare.right
    c.compare_true.result c.in-Compare.is c.compare_true.ensures in
    let there = subst (λ (x : List (Option Value)). IsTruth p c.args.w.now (length q.domain.definitions) 0 (assignment_in x)
    (tree_of_formula c.args.f.now) c.compare_true.result) c.frame-in-Compare.ensures here in
    let whole = whole-is p c.args.w.now (length q.domain.definitions) 0 (assignment_in c.args.env.now)
    (tree_of_formula c.args.f.now) c.compare_true.result (omega (arith, count-plain q)) there in
    the-value (state_true (situation_of (plain_problem c.args.task.now.problem) c.args.w.now) (assignment_in c.args.env.now)
    (tree_of_formula c.args.f.now)) (looked_in_state (looks_of (plain_problem c.args.task.now.problem) c.args.w.now)
    (situation_of (plain_problem c.args.task.now.problem) c.args.w.now) (assignment_in c.args.env.now) (tree_of_formula c.args.f.now))
    c.compare_true.result whole

pub returns-in-Compare-clause-in_range : goal.returns-in-Compare-clause-in_range
returns-in-Compare-clause-in_range c =
    let q = c.args.task.now.problem in
    let p = plain_problem q in
    let here = at-Compare p c.args.w.now (length q.domain.definitions) 0
    (assignment_in c.frame-in-Compare.result.now) c.args.f.now c.in-Compare.cmp c.in-Compare.left c.in-Compare.right
    c.compare_true.result c.in-Compare.is c.compare_true.ensures in
    let there = subst (λ (x : List (Option Value)). IsTruth p c.args.w.now (length q.domain.definitions) 0 (assignment_in x)
    (tree_of_formula c.args.f.now) c.compare_true.result) c.frame-in-Compare.ensures here in
    let whole = whole-is p c.args.w.now (length q.domain.definitions) 0 (assignment_in c.args.env.now)
    (tree_of_formula c.args.f.now) c.compare_true.result (omega (arith, count-plain q)) there in
    the-range (state_true (situation_of (plain_problem c.args.task.now.problem) c.args.w.now) (assignment_in c.args.env.now)
    (tree_of_formula c.args.f.now)) (looked_in_state (looks_of (plain_problem c.args.task.now.problem) c.args.w.now)
    (situation_of (plain_problem c.args.task.now.problem) c.args.w.now) (assignment_in c.args.env.now) (tree_of_formula c.args.f.now))
    c.compare_true.result whole

pub returns-in-Compare-clause-note : goal.returns-in-Compare-clause-note
returns-in-Compare-clause-note c =
    let q = c.args.task.now.problem in
    let p = plain_problem q in
    let here = at-Compare p c.args.w.now (length q.domain.definitions) 0
    (assignment_in c.frame-in-Compare.result.now) c.args.f.now c.in-Compare.cmp c.in-Compare.left c.in-Compare.right
    c.compare_true.result c.in-Compare.is c.compare_true.ensures in
    let there = subst (λ (x : List (Option Value)). IsTruth p c.args.w.now (length q.domain.definitions) 0 (assignment_in x)
    (tree_of_formula c.args.f.now) c.compare_true.result) c.frame-in-Compare.ensures here in
    let whole = whole-is p c.args.w.now (length q.domain.definitions) 0 (assignment_in c.args.env.now)
    (tree_of_formula c.args.f.now) c.compare_true.result (omega (arith, count-plain q)) there in
    the-note (state_true (situation_of (plain_problem c.args.task.now.problem) c.args.w.now) (assignment_in c.args.env.now)
    (tree_of_formula c.args.f.now)) (looked_in_state (looks_of (plain_problem c.args.task.now.problem) c.args.w.now)
    (situation_of (plain_problem c.args.task.now.problem) c.args.w.now) (assignment_in c.args.env.now) (tree_of_formula c.args.f.now))
    c.compare_true.result whole

pub returns-in_default-clause-value : goal.returns-in_default-clause-value
returns-in_default-clause-value c = the-value (state_true (situation_of (plain_problem c.args.task.now.problem) c.args.w.now)
    (assignment_in c.args.env.now) (tree_of_formula c.args.f.now)) (looked_in_state
    (looks_of (plain_problem c.args.task.now.problem) c.args.w.now) (situation_of (plain_problem c.args.task.now.problem) c.args.w.now)
    (assignment_in c.args.env.now) (tree_of_formula c.args.f.now)) c.whole_true.result c.whole_true.ensures.truth

pub returns-in_default-clause-in_range : goal.returns-in_default-clause-in_range
returns-in_default-clause-in_range c = the-range (state_true (situation_of (plain_problem c.args.task.now.problem) c.args.w.now)
    (assignment_in c.args.env.now) (tree_of_formula c.args.f.now)) (looked_in_state
    (looks_of (plain_problem c.args.task.now.problem) c.args.w.now) (situation_of (plain_problem c.args.task.now.problem) c.args.w.now)
    (assignment_in c.args.env.now) (tree_of_formula c.args.f.now)) c.whole_true.result c.whole_true.ensures.truth

pub returns-in_default-clause-note : goal.returns-in_default-clause-note
returns-in_default-clause-note c = the-note (state_true (situation_of (plain_problem c.args.task.now.problem) c.args.w.now)
    (assignment_in c.args.env.now) (tree_of_formula c.args.f.now)) (looked_in_state
    (looks_of (plain_problem c.args.task.now.problem) c.args.w.now) (situation_of (plain_problem c.args.task.now.problem) c.args.w.now)
    (assignment_in c.args.env.now) (tree_of_formula c.args.f.now)) c.whole_true.result c.whole_true.ensures.truth
