use Rattle.tl_terms.proofs.RunLaws.{progressed-state}
use Rattle.tl_terms.proofs.laws.progression.state_formula_progresses_to_its_truth.Goals as goal

pub returns : goal.returns
returns c = progressed-state
