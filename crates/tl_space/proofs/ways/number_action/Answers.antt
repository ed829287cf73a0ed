use Rattle.tl_syntax.proofs.PartsSame.{action-tells}
use Rattle.tl_syntax.specs.contracts.action.ActionPartialEq.TheImpl as action_impl
use Rattle.tl_known.proofs.Numbering.{stored, added, stay-added}
use Rattle.tl_space.proofs.ways.number_action.Goals as goal

pub returns-clause-stay : goal.returns-clause-stay
returns-clause-stay c = stay-added _ _ c.args.action (added (action_impl.ghosts).eq action-tells _ _ _ c.in_ok-number.ensures.keys)

pub returns-clause-number : goal.returns-clause-number
returns-clause-number c = let s = c.in_ok-number.ensures.stored in stored
    (action_impl.ghosts).eq action-tells c.args.action s.0 _ c.in_ok-number.number s.1 s.2
