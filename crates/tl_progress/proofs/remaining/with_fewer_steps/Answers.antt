use Rattle.std.proofs.Common.{◌≡◌, ◌-◌, suc, IfOk, subst, arith}
use Rattle.std.proofs.lemmas.Option.{slice_get_within}
use Rattle.tl_eval.specs.Frames.{assignment_in}
use Rattle.tl_nodes.specs.Numbers.{trees, Denotes}
use Rattle.tl_nodes.proofs.TreesOfNodes.{at-is}
use Rattle.tl_syntax.specs.Trees.{FormulaTree}
use Rattle.tl_progress.proofs.PutLayers.{stays, longer}
use Rattle.tl_progress.proofs.StepNodes.{step-node-fits, none-left, fewer-left}
use Rattle.tl_progress.proofs.remaining.with_fewer_steps.Goals as goal

pub returns-then-counted-eq0-clause-number : goal.returns-then-counted-eq0-clause-number
returns-then-counted-eq0-clause-number c = none-left c.args.counted.junction (assignment_in c.args.env.now)
    (trees c.args.nodes.now) c.args.counted.steps c.args.counted.answer c.args.counted.part c.if-counted-eq0.true c.requires.answer

pub intern-requires : goal.intern-requires
intern-requires c = step-node-fits c.args.counted.junction (trees c.args.nodes.now)
    (c.args.counted.steps - 1) c.args.counted.part _ c.step_node-node.ensures c.requires.part

pub with_remaining-requires-clause-part : goal.with_remaining-requires-clause-part
with_remaining-requires-clause-part c = longer (trees c.args.nodes.now)
    (trees c.intern.new.self) c.in_ok-fewer.ensures.kept c.args.counted.answer c.requires.answer

pub with_remaining-requires-clause-at : goal.with_remaining-requires-clause-at
with_remaining-requires-clause-at c = slice_get_within (trees c.intern.new.self) c.in_ok-fewer.fewer _ c.in_ok-fewer.ensures.number

pub returns-clause-kept : goal.returns-clause-kept
returns-clause-kept c = λ i f h. c.with_remaining.ensures.kept i f (c.in_ok-fewer.ensures.kept i f h)

pub returns-clause-number : goal.returns-clause-number
returns-clause-number c =
    let more : c.args.counted.steps ≡ suc (c.args.counted.steps - 1) = omega (arith, c.if-counted-eq0.false) in
    subst (λ (f : FormulaTree). IfOk c.with_remaining.result (λ i. Denotes c.with_remaining.new.nodes i f))
    (fewer-left c.args.counted.junction (assignment_in c.args.env.now) (trees c.args.nodes.now)
    (trees c.intern.new.self) c.args.counted.steps c.args.counted.answer c.args.counted.part c.in_ok-fewer.fewer _
    c.step_node-node.ensures more
    (stays (trees c.args.nodes.now) (trees c.intern.new.self) c.in_ok-fewer.ensures.kept c.args.counted.answer c.requires.answer)
    (at-is (trees c.intern.new.self) c.in_ok-fewer.fewer _ c.in_ok-fewer.ensures.number))
    c.with_remaining.ensures.number
