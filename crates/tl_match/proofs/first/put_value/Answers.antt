use Rattle.std.proofs.Common.{sym, ◌∙◌, rules}
use Rattle.tl_match.proofs.Putting.{known-fits, known-differs}
use Rattle.tl_match.proofs.first.put_value.Goals as goal

pub returns-then-eq-2-clause-fits : goal.returns-then-eq-2-clause-fits
returns-then-eq-2-clause-fits c t begins =
    known-fits c.args.part c.in-Free.n c.args.seen c.args.values.now t c.args.v _ c.in-Free.is c.requires.turn c.if-n-seen.false
    (search rules) (sym c.eq-else-n-seen.ensures ∙ c.if-eq-2.true) begins

pub returns-else-eq-2-clause-none : goal.returns-else-eq-2-clause-none
returns-else-eq-2-clause-none c t begins =
    known-differs c.args.part c.in-Free.n c.args.seen c.args.values.now t c.args.v _ c.in-Free.is c.requires.turn c.if-n-seen.false
    (search rules) (sym c.eq-else-n-seen.ensures ∙ c.if-eq-2.false) begins
