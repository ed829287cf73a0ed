use Rattle.tl_terms.proofs.RunLaws.{Satisfies-state}
use Rattle.tl_terms.proofs.laws.progression.state_formula_holds_where_true.Goals as goal

pub returns : goal.returns
returns c = Satisfies-state
