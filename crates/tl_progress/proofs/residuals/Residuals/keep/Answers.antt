use Rattle.tl_progress.proofs.KeptByWorld.{same-found, put-here, put-elsewhere}
use Rattle.tl_progress.proofs.residuals.Residuals.keep.Goals as goal

pub returns-in-Ok-clause-kept : goal.returns-in-Ok-clause-kept
returns-in-Ok-clause-kept c = put-here c.args.self.now (record c.args.self.now { table = c.keep.new.self }) c.args.incoming c.args.number
    c.in-Ok.ensures.kept

pub returns-in-Ok-clause-elsewhere : goal.returns-in-Ok-clause-elsewhere
returns-in-Ok-clause-elsewhere c = put-elsewhere c.args.self.now (record c.args.self.now { table = c.keep.new.self }) c.args.incoming
    c.args.number c.in-Ok.ensures.kept

pub returns-in-Err-clause-refused : goal.returns-in-Err-clause-refused
returns-in-Err-clause-refused c = λ k. same-found c.args.self.now (record c.args.self.now { table = c.keep.new.self })
    c.in-Err.ensures.refused c.args.incoming.world k

pub returns-in-Err-clause-elsewhere : goal.returns-in-Err-clause-elsewhere
returns-in-Err-clause-elsewhere c = λ m k other. same-found c.args.self.now
    (record c.args.self.now { table = c.keep.new.self }) c.in-Err.ensures.refused m k
