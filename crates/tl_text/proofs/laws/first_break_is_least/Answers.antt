use Rattle.std.proofs.Common.{◌*◌}
use Rattle.tl_rules.proofs.Order.{first-least}
use Rattle.tl_line.proofs.ListOrder.{actions-order}
use Rattle.tl_text.proofs.laws.first_break_is_least.Goals as goal

pub returns : goal.returns
returns c = λ names operators forms low next b rise is. first-least (64 * low) (64 * next) _ b
    (actions-order names operators 0 forms low next rise) is
