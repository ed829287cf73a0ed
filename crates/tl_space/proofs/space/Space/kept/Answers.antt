use Rattle.std.proofs.Common.{sym, ◌∙◌}
use Rattle.tl_space.proofs.SpaceLaws.{count, all-kept}
use Rattle.tl_space.proofs.space.Space.kept.Goals as goal

pub returns-clause-count : goal.returns-clause-count
returns-clause-count c = c.len.ensures.len ∙ sym (count c.args.self.now)

pub returns-clause-kept : goal.returns-clause-kept
returns-clause-kept c = all-kept c.args.self.now
