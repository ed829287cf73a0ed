use Rattle.std.proofs.Common.{◌≡◌, ◌<◌, ◌≤◌, [], sym, subst, codes, arith}
use Rattle.tl_label.specs.Lines.{Written, after, room}
use Rattle.tl_label.proofs.Begun.{gone-on, ended}
use Rattle.tl_label.proofs.Lines.{room-less, where_ok}
use Rattle.tl_label.proofs.NodeTexts.{has-basic, part-below}
use Rattle.tl_label.proofs.rests.go_on.Goals as goal

pub overflow_add-rest : goal.overflow_add-rest
overflow_add-rest c = let few = c.in-Some.ensures.few in omega (arith, few)

pub begin-requires-clause-id : goal.begin-requires-clause-id
begin-requires-clause-id c =
    let smaller : c.in-Some.part < c.args.rest.id = part-below c.args.rest.id c.get.result.now c.args.rest.part c.in-Some.part
    c.get.ensures.parts (sym c.in-Some.ensures.part) in
    omega (arith, smaller, c.requires.id)

pub returns-in_ok-put-in-Some-clause-text : goal.returns-in_ok-put-in-Some-clause-text
returns-in_ok-put-in-Some-clause-text c =
    where_ok c.begin.result
    (gone-on c.args.problem.now c.args.nodes.now c.args.rest c.get.result.now c.in-Some.part c.args.line.now c.put.new.self _
    c.args.rests.now.items c.push.new.self.items c.get.ensures.tree
    (has-basic c.args.rest.id c.get.result.now c.get.ensures.parts) (sym c.in-Some.ensures.part) c.in_ok-put-in-Some.ensures
    c.in_ok-push-in-Some.ensures.items)
    c.begin.ensures.text

pub returns-in_ok-put-in-Some-clause-room : goal.returns-in_ok-put-in-Some-clause-room
returns-in_ok-put-in-Some-clause-room c =
    let less : room c.put.new.self < room c.args.line.now =
    subst (λ (k : Written). room k < room c.args.line.now) (sym c.in_ok-put-in-Some.ensures)
    (room-less c.args.line.now 32 [] c.requires.room) in
    where_ok c.begin.result (λ (h : room c.begin.new.line ≤ room c.put.new.self). omega (arith, h, less)) c.begin.ensures.room

pub returns-in-None-clause-text : goal.returns-in-None-clause-text
returns-in-None-clause-text c =
    where_ok c.put-in-None.result
    (ended c.args.problem.now c.args.nodes.now c.args.rest c.get.result.now c.args.line.now c.put-in-None.new.self c.args.rests.now.items
    c.get.ensures.tree (has-basic c.args.rest.id c.get.result.now c.get.ensures.parts) (sym c.in-None.ensures.part))
    c.put-in-None.ensures

pub returns-in-None-clause-room : goal.returns-in-None-clause-room
returns-in-None-clause-room c =
    where_ok c.put-in-None.result
    (λ (h : c.put-in-None.new.self ≡ after c.args.line.now (codes ")")).
    subst (λ (k : Written). room k < room c.args.line.now) (sym h) (room-less c.args.line.now 41 [] c.requires.room))
    c.put-in-None.ensures
