use Rattle.std.proofs.Common.{◌≡◌, ◌↔◌, length, ℕ, suc, IfOk, Result, Ok, Err, slice_get, Some, List, sym, ap, ◌∙◌, subst, IfErr}
use Rattle.tl_nodes.specs.declared.nodes.Nodes.{Nodes}
use Rattle.tl_nodes.specs.NodeTrees.{tree_at}
use Rattle.tl_nodes.specs.Numbers.{trees}
use Rattle.tl_nodes.proofs.TreesOfNodes.{at-is}
use Rattle.tl_syntax.specs.Assignment.{no_values, Assignment}
use Rattle.tl_syntax.specs.declared.problem.Problem.{Problem}
use Rattle.tl_syntax.specs.Named.{IsNamed}
use Rattle.tl_syntax.specs.Signature.{Signature, signature_of}
use Rattle.tl_syntax.specs.Trees.{FormulaTree}
use Rattle.tl_terms.specs.Definitions.{situation_of}
use Rattle.tl_terms.specs.Problem.{PlainProblem}
use Rattle.tl_terms.specs.NamedWorlds.{WorldIsNamed}
use Rattle.tl_terms.specs.ProblemMeaning.{plain_problem}
use Rattle.tl_terms.specs.Progression.{progressed}
use Rattle.tl_terms.specs.Run.{Satisfies, SatisfiesAlong, state_at}
use Rattle.tl_terms.specs.World.{World}
use Rattle.tl_terms.proofs.RunLaws.{progression-Satisfies, progression-along}
use Rattle.tl_world.specs.declared.task.Task.{Task}
use Rattle.tl_eval.specs.declared.fault.EvalFault.{EvalFault}
use Rattle.tl_eval.specs.Faults.{IsCausedBy}
use Rattle.tl_progress.specs.Answers.{residual, looked_for_residual}
use Rattle.tl_progress.specs.Calls.{IsProgression}
use Rattle.tl_progress.specs.Sentences.{IsSentence}
use Rattle.tl_progress.proofs.NamedResiduals.{residual-named}
use Rattle.tl_progress.proofs.Sentences.{sentence-next}
use Rattle.tl_eval.specs.Frames.{assignment_in}
use Rattle.tl_terms.specs.Looked.{looked_by_progressing}
use Rattle.tl_progress.proofs.progression.progress_kept.Goals as goal

by_number : (p : PlainProblem) (w : World) (f : FormulaTree) (us : List FormulaTree) (e : Assignment) (r : Result ℕ EvalFault) → e ≡
    no_values → IfOk r (λ i. slice_get us i ≡ Some (residual p w e f)) → IfOk r (λ i. slice_get us i ≡ Some (residual p w no_values f))
by_number p w f us e r n h = subst (λ (d : Assignment). IfOk r (λ i. slice_get us i ≡ Some (residual p w d f))) n h

by_cause : (p : PlainProblem) (w : World) (f : FormulaTree) (e : Assignment) (r : Result ℕ EvalFault) → e ≡ no_values →
    IfErr r (IsCausedBy (looked_for_residual p w e f)) → IfErr r (IsCausedBy (looked_by_progressing p w f))
unfolding looked_by_progressing
by_cause p w f e r n h = subst (λ (d : Assignment). IfErr r (IsCausedBy (looked_for_residual p w d f))) n h

-- where the world stands at a position, the tree of the number is what the lemma speaks of there
next-is : (p : PlainProblem) (v w : World) (f : FormulaTree) (us : List FormulaTree) (i : ℕ) → v ≡ w
    → slice_get us i ≡ Some (residual p w no_values f) → progressed (situation_of p v) no_values f ≡ tree_at us i
next-is p v w f us i e h = ap (λ (v : World). progressed (situation_of p v) no_values f) e ∙ sym (at-is us i _ h)

is-progression : (task : Task) (w : World) (old : Nodes) (j : ℕ) (new : Nodes) (r : Result ℕ EvalFault)
    → IfOk r (λ i. slice_get (trees new) i ≡ Some (residual (plain_problem task.problem) w no_values (tree_at (trees old) j)))
    → IfOk r (λ i. IsProgression task w old j new i)
is-progression task w old j new (Ok i) h =
    let p : PlainProblem = plain_problem task.problem in
    let f : FormulaTree = tree_at (trees old) j in
    record {
      holds =
          λ n k e. subst (λ (t : FormulaTree). Satisfies p n k f ↔ Satisfies p n (suc k) t) (next-is p (state_at n k) w f (trees new) i e h)
          (progression-Satisfies p n k f);
      fails =
          λ s k e. subst (λ (t : FormulaTree). (SatisfiesAlong p s k f → ⊥) ↔ (SatisfiesAlong p s (suc k) t → ⊥))
          (next-is p (s k) w f (trees new) i e h) (progression-along p s k f);
    }
is-progression task w old j new (Err x) h = tt

stands-alone : (g : Signature) (p : PlainProblem) (w : World) (f : FormulaTree) (us : List FormulaTree) (r : Result ℕ EvalFault) →
    IsSentence g f → IfOk r (λ i. slice_get us i ≡ Some (residual p w no_values f)) → IfOk r (λ i. IsSentence g (tree_at us i))
stands-alone g p w f us (Ok i) s h = subst (IsSentence g) (sym (at-is us i _ h)) (sentence-next g (situation_of p w) no_values f s)
stands-alone g p w f us (Err x) s h = tt

stays-named : (p : Problem) (w : World) (f : FormulaTree) (us : List FormulaTree) (r : Result ℕ EvalFault) →
    IfOk r (λ i. slice_get us i ≡ Some (residual (plain_problem p) w no_values f))
    → IfOk r (λ i. WorldIsNamed (length p.names) w → IsNamed (length p.names) f → IsNamed (length p.names) (tree_at us i))
stays-named p w f us (Ok i) h = λ world formula. subst (IsNamed (length p.names)) (sym (at-is us i _ h))
    (residual-named p w f world formula)
stays-named p w f us (Err x) h = tt

pub returns-then-is_empty_frame-clause-number : goal.returns-then-is_empty_frame-clause-number
returns-then-is_empty_frame-clause-number c =
    by_number (plain_problem c.args.task.now.problem) c.args.w.now (tree_at (trees c.args.nodes.now) c.args.incoming.formula)
    (trees c.sentence_residual.new.nodes) (assignment_in c.args.env.now) c.sentence_residual.result
    (sym (ap assignment_in c.slots.ensures.values) ∙ c.is_empty_frame.ensures c.if-is_empty_frame.true) c.sentence_residual.ensures.number

pub returns-then-is_empty_frame-clause-lemma : goal.returns-then-is_empty_frame-clause-lemma
returns-then-is_empty_frame-clause-lemma c =
    is-progression c.args.task.now c.args.w.now c.args.nodes.now c.args.incoming.formula c.sentence_residual.new.nodes
    c.sentence_residual.result
    (by_number (plain_problem c.args.task.now.problem) c.args.w.now (tree_at (trees c.args.nodes.now) c.args.incoming.formula)
    (trees c.sentence_residual.new.nodes) (assignment_in c.args.env.now) c.sentence_residual.result
    (sym (ap assignment_in c.slots.ensures.values) ∙ c.is_empty_frame.ensures c.if-is_empty_frame.true) c.sentence_residual.ensures.number)

pub returns-then-is_empty_frame-clause-sentence : goal.returns-then-is_empty_frame-clause-sentence
returns-then-is_empty_frame-clause-sentence c =
    stands-alone (signature_of c.args.task.now.problem.domain) (plain_problem c.args.task.now.problem) c.args.w.now
    (tree_at (trees c.args.nodes.now) c.args.incoming.formula)
    (trees c.sentence_residual.new.nodes) c.sentence_residual.result c.requires.sentence
    (by_number (plain_problem c.args.task.now.problem) c.args.w.now (tree_at (trees c.args.nodes.now) c.args.incoming.formula)
    (trees c.sentence_residual.new.nodes) (assignment_in c.args.env.now) c.sentence_residual.result
    (sym (ap assignment_in c.slots.ensures.values) ∙ c.is_empty_frame.ensures c.if-is_empty_frame.true) c.sentence_residual.ensures.number)

pub returns-then-is_empty_frame-clause-named : goal.returns-then-is_empty_frame-clause-named
returns-then-is_empty_frame-clause-named c =
    stays-named c.args.task.now.problem c.args.w.now (tree_at (trees c.args.nodes.now) c.args.incoming.formula)
    (trees c.sentence_residual.new.nodes) c.sentence_residual.result
    (by_number (plain_problem c.args.task.now.problem) c.args.w.now (tree_at (trees c.args.nodes.now) c.args.incoming.formula)
    (trees c.sentence_residual.new.nodes) (assignment_in c.args.env.now) c.sentence_residual.result
    (sym (ap assignment_in c.slots.ensures.values) ∙ c.is_empty_frame.ensures c.if-is_empty_frame.true) c.sentence_residual.ensures.number)

pub returns-then-is_empty_frame-clause-cause : goal.returns-then-is_empty_frame-clause-cause
returns-then-is_empty_frame-clause-cause c =
    by_cause (plain_problem c.args.task.now.problem) c.args.w.now (tree_at (trees c.args.nodes.now) c.args.incoming.formula)
    (assignment_in c.args.env.now) c.sentence_residual.result
    (sym (ap assignment_in c.slots.ensures.values) ∙ c.is_empty_frame.ensures c.if-is_empty_frame.true) c.sentence_residual.ensures.cause

pub returns-clause-number : goal.returns-clause-number
returns-clause-number c =
    by_number (plain_problem c.args.task.now.problem) c.args.w.now (tree_at (trees c.args.nodes.now) c.args.incoming.formula)
    (trees c.sentence_residual-answer.new.nodes) (assignment_in c.restore.new.self) c.sentence_residual-answer.result
    (ap assignment_in c.restore.ensures ∙ c.empty_frame-empty.ensures) c.sentence_residual-answer.ensures.number

pub returns-clause-lemma : goal.returns-clause-lemma
returns-clause-lemma c =
    is-progression c.args.task.now c.args.w.now c.args.nodes.now c.args.incoming.formula c.sentence_residual-answer.new.nodes
    c.sentence_residual-answer.result
    (by_number (plain_problem c.args.task.now.problem) c.args.w.now (tree_at (trees c.args.nodes.now) c.args.incoming.formula)
    (trees c.sentence_residual-answer.new.nodes) (assignment_in c.restore.new.self) c.sentence_residual-answer.result
    (ap assignment_in c.restore.ensures ∙ c.empty_frame-empty.ensures) c.sentence_residual-answer.ensures.number)

pub returns-clause-sentence : goal.returns-clause-sentence
returns-clause-sentence c =
    stands-alone (signature_of c.args.task.now.problem.domain) (plain_problem c.args.task.now.problem) c.args.w.now
    (tree_at (trees c.args.nodes.now) c.args.incoming.formula)
    (trees c.sentence_residual-answer.new.nodes) c.sentence_residual-answer.result c.requires.sentence
    (by_number (plain_problem c.args.task.now.problem) c.args.w.now (tree_at (trees c.args.nodes.now) c.args.incoming.formula)
    (trees c.sentence_residual-answer.new.nodes) (assignment_in c.restore.new.self) c.sentence_residual-answer.result
    (ap assignment_in c.restore.ensures ∙ c.empty_frame-empty.ensures) c.sentence_residual-answer.ensures.number)

pub returns-clause-named : goal.returns-clause-named
returns-clause-named c =
    stays-named c.args.task.now.problem c.args.w.now (tree_at (trees c.args.nodes.now) c.args.incoming.formula)
    (trees c.sentence_residual-answer.new.nodes) c.sentence_residual-answer.result
    (by_number (plain_problem c.args.task.now.problem) c.args.w.now (tree_at (trees c.args.nodes.now) c.args.incoming.formula)
    (trees c.sentence_residual-answer.new.nodes) (assignment_in c.restore.new.self) c.sentence_residual-answer.result
    (ap assignment_in c.restore.ensures ∙ c.empty_frame-empty.ensures) c.sentence_residual-answer.ensures.number)

pub returns-clause-cause : goal.returns-clause-cause
returns-clause-cause c =
    by_cause (plain_problem c.args.task.now.problem) c.args.w.now (tree_at (trees c.args.nodes.now) c.args.incoming.formula)
    (assignment_in c.restore.new.self) c.sentence_residual-answer.result
    (ap assignment_in c.restore.ensures ∙ c.empty_frame-empty.ensures) c.sentence_residual-answer.ensures.cause
