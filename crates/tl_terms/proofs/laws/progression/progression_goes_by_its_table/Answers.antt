use Rattle.tl_terms.proofs.SubstitutionLaws.{progression-table}
use Rattle.tl_terms.proofs.laws.progression.progression_goes_by_its_table.Goals as goal

pub returns : goal.returns
returns c = progression-table
