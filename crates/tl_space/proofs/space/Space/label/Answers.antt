use Rattle.tl_space.proofs.SpaceLaws.{tree-of, label-of}
use Rattle.tl_space.proofs.space.Space.label.Goals as goal

pub returns-clause-label : goal.returns-clause-label
returns-clause-label c = label-of c.args.self.now c.args.at c.numbers.result c.numbers.ensures.there

pub returns-clause-residual : goal.returns-clause-residual
returns-clause-residual c = λ x e. tree-of c.args.self.now c.numbers.result c.numbers.ensures.numbers.label.inside x.node
    (c.numbers.ensures.node x e)

pub returns-clause-named : goal.returns-clause-named
returns-clause-named c = c.numbers.ensures.numbers.label.named
