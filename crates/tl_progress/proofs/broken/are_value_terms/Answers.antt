use Rattle.tl_progress.proofs.BrokenLaws.{values-short}
use Rattle.tl_progress.proofs.broken.are_value_terms.Goals as goal

pub returns-then-terms-values : goal.returns-then-terms-values
returns-then-terms-values c = values-short c.args.terms.now c.args.values.now c.if-terms-values.true
