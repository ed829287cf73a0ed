use Rattle.tl_space.proofs.SpaceLaws.{keeps-same}
use Rattle.tl_space.proofs.space.Space.find.Goals as goal

pub returns-in-Some-clause-keeps : goal.returns-in-Some-clause-keeps
returns-in-Some-clause-keeps c = keeps-same c.args.self.now
