use Rattle.std.proofs.Common.{◌∙◌, sym, ap, subst, ◌≤◌}
use Rattle.tl_label.specs.Heads.{head_text}
use Rattle.tl_label.specs.Lines.{Written, room}
use Rattle.tl_label.specs.Rests.{with_rests}
use Rattle.tl_label.proofs.Begun.{begun-open, begun-closed}
use Rattle.tl_label.proofs.Lines.{room-falls}
use Rattle.tl_label.proofs.NodeTexts.{has-basic}
use Rattle.tl_label.proofs.rests.begin.Goals as goal

pub put_head-requires : goal.put_head-requires
put_head-requires c = has-basic c.args.id c.get-node.result.now c.get-node.ensures.parts

pub returns-in_ok-push-clause-text : goal.returns-in_ok-push-clause-text
returns-in_ok-push-clause-text c =
    let p = c.args.problem.now in
    let s = c.args.nodes.now in
    ap (λ rs. with_rests p s c.put_head.new.line rs) c.in_ok-push.ensures.items
    ∙ begun-open p s c.args.id c.get-node.result.now c.args.line.now c.put_head.new.line c.args.rests.now.items c.get-node.ensures.tree
    (sym c.is_open.ensures ∙ c.if-is_open.true) c.in_ok-put_head.ensures

pub returns-in_ok-push-clause-room : goal.returns-in_ok-push-clause-room
returns-in_ok-push-clause-room c =
    subst (λ (k : Written). room k ≤ room c.args.line.now) (sym c.in_ok-put_head.ensures)
    (room-falls c.args.line.now (head_text c.args.problem.now.names c.args.problem.now.domain c.get-node.result.now))

pub returns-else-is_open-clause-text : goal.returns-else-is_open-clause-text
returns-else-is_open-clause-text c =
    begun-closed c.args.problem.now c.args.nodes.now c.args.id c.get-node.result.now c.args.line.now c.put_head.new.line
    c.args.rests.now.items c.get-node.ensures.tree (sym c.is_open.ensures ∙ c.if-is_open.false) c.in_ok-put_head.ensures

pub returns-else-is_open-clause-room : goal.returns-else-is_open-clause-room
returns-else-is_open-clause-room c =
    subst (λ (k : Written). room k ≤ room c.args.line.now) (sym c.in_ok-put_head.ensures)
    (room-falls c.args.line.now (head_text c.args.problem.now.names c.args.problem.now.domain c.get-node.result.now))
