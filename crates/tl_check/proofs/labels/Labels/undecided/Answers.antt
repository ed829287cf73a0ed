use Rattle.std.proofs.Common.{◌∙◌, List, Bool, map, not, ap}
use Rattle.tl_check.proofs.OpenLaws.{not-twice, open-none, open-some}
use Rattle.tl_check.proofs.labels.Labels.undecided.Goals as goal

pub returns-in-Any-clause-none : goal.returns-in-Any-clause-none
returns-in-Any-clause-none c =
    open-none c.args.junction c.args.self.now c.negate.new.self c.hull-found.result c.in-Any.is c.negate.ensures c.hull-found.ensures.none

pub returns-in-Any-clause-inner : goal.returns-in-Any-clause-inner
returns-in-Any-clause-inner c =
    open-some c.args.junction c.args.self.now c.negate.new.self c.args.span c.hull-found.result c.in-Any.is c.negate.ensures
    c.hull-found.ensures.hull

pub returns-in-Any-clause-same : goal.returns-in-Any-clause-same
returns-in-Any-clause-same c =
    c.negate-in-Any.ensures ∙ (ap (λ (bs : List Bool). map not bs) c.negate.ensures ∙ not-twice c.args.self.now)
