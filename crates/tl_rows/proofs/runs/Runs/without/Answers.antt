use Rattle.tl_rows.proofs.Parts.{taken-out}
use Rattle.tl_rows.proofs.runs.Runs.without.Goals as goal

pub returns : goal.returns
returns c = taken-out c.args.self.now c.in_ok-out.out c.push_rows.new.self c.push_rows-2.new.self c.args.k c.len-count.result
    c.len-count.ensures c.in_ok-out.ensures c.in_ok-push_rows.ensures c.in_ok-push_rows-2.ensures
