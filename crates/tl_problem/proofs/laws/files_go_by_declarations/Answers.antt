use Rattle.tl_problem.proofs.GoByDeclarations.{go_by_declarations}
use Rattle.tl_problem.proofs.laws.files_go_by_declarations.Goals as goal

pub returns : goal.returns
returns c = go_by_declarations
