use Rattle.std.proofs.Common.{sym, subst}
use Rattle.std.proofs.lemmas.Option.{slice_get_within}
use Rattle.tl_nodes.specs.Numbers.{trees}
use Rattle.tl_nodes.proofs.TreesOfNodes.{at-is}
use Rattle.tl_progress.specs.Sentences.{IsSentence}
use Rattle.tl_syntax.specs.Signature.{signature_of}
use Rattle.tl_task_cases.proofs.progression.part_number.Goals as goal

pub part_of-requires : goal.part_of-requires
part_of-requires c = slice_get_within (trees c.of_tree.new.self) c.in_ok-whole.whole _ c.in_ok-whole.ensures.number

pub returns-clause-sentence : goal.returns-clause-sentence
returns-clause-sentence c =
    c.in_ok-number.ensures.sentence (signature_of c.args.task.now.problem.domain)
    (subst (IsSentence (signature_of c.args.task.now.problem.domain)) (sym
    (at-is (trees c.of_tree.new.self) c.in_ok-whole.whole _ c.in_ok-whole.ensures.number))
    (record { fits = c.args.task.now.problem.domain_keeps.control_fits; closed = c.args.task.now.problem.domain_keeps.control_closed }))
