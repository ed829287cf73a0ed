use Rattle.std.proofs.Common.{◌<◌, sym, ap, subst, ◌∙◌}
use Rattle.std.specs.Prelude.{option_copied}
use Rattle.tl_space.proofs.SpaceLaws.{count, node-of}
use Rattle.tl_space.proofs.space.Space.numbers.Goals as goal

pub unwrap-requires : goal.unwrap-requires
unwrap-requires c = c.get_index.ensures.found.1 (subst (λ n. c.args.at < n) (count c.args.self.now) c.requires)

pub returns-clause-numbers : goal.returns-clause-numbers
returns-clause-numbers c = c.args.self.now.kept.numbers c.args.at _ (sym c.get_index.ensures.key ∙ ap option_copied c.unwrap.ensures)

pub returns-clause-node : goal.returns-clause-node
returns-clause-node c = node-of c.args.self.now c.args.at _ (sym c.get_index.ensures.key ∙ ap option_copied c.unwrap.ensures)
