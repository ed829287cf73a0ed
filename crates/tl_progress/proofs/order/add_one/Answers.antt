use Rattle.std.proofs.Common.{inl}
use Rattle.tl_progress.proofs.Orders.{adds-one}
use Rattle.tl_progress.proofs.order.add_one.Goals as goal

pub returns-then-is_plain : goal.returns-then-is_plain
returns-then-is_plain c = λ q m. inl m

pub returns : goal.returns
returns c = adds-one _ _ c.args.id c.in_ok-insert.ensures.keys
