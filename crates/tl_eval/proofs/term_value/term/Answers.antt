use Rattle.tl_eval.proofs.ArityLaws.{declared-few, term-few}
use Rattle.tl_eval.proofs.term_value.term.Goals as goal

pub value_of_term-requires : goal.value_of_term-requires
value_of_term-requires c = term-few _ (declared-few _ _ c.args.task.now.problem.domain_keeps.functions) _ c.requires.fits
