use Rattle.std.proofs.Common.{◌*◌}
use Rattle.tl_rules.specs.Parts.{offset_of}
use Rattle.tl_rules.proofs.Order.{first-least}
use Rattle.tl_line.proofs.ActionOrder.{action-order}
use Rattle.tl_line.proofs.laws.first_break_is_least.Goals as goal

pub returns : goal.returns
returns c = λ names operators f low next b rises is. first-least (64 * offset_of f) (64 * next) _ b
    (action-order names operators f low next rises) is
