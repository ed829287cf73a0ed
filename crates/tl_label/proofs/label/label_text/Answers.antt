use Rattle.std.proofs.Common.{◌≡◌, ℕ, List, IfOk, subst}
use Rattle.tl_label.specs.Rests.{text_at}
use Rattle.tl_label.proofs.Begun.{begun-all, stepped, finished, popped}
use Rattle.tl_label.proofs.label.label_text.Goals as goal

pub loop-rest-init : goal.loop-rest-init
loop-rest-init c = record {
  text = begun-all c.args.problem.now c.args.nodes.now c.args.id c.new-line.result c.begin.new.line c.new-rests.result.items
      c.begin.new.rests.items c.new-line.ensures c.new-rests.ensures.items c.in_ok-begin.ensures.text;
  there = c.in_ok-begin.ensures.rests;
}

pub go_on-requires-clause-id : goal.go_on-requires-clause-id
go_on-requires-clause-id c = (popped c.args.nodes.now c.loop-rest.rests.items c.next_rest.new.rests.items c.in-Some.rest
    c.in-Some.ensures.last c.loop-rest.invariant.there).1

pub go_on-requires-clause-rests : goal.go_on-requires-clause-rests
go_on-requires-clause-rests c = (popped c.args.nodes.now c.loop-rest.rests.items c.next_rest.new.rests.items c.in-Some.rest
    c.in-Some.ensures.last c.loop-rest.invariant.there).0

pub loop-rest-preserved : goal.loop-rest-preserved
loop-rest-preserved c = record {
  text = stepped c.args.problem.now c.args.nodes.now c.loop-rest.line c.go_on.new.line c.loop-rest.rests.items c.next_rest.new.rests.items
      c.go_on.new.rests.items c.in-Some.rest _ c.in-Some.ensures.last c.loop-rest.invariant.text c.in_ok-go_on.ensures.text;
  there = c.in_ok-go_on.ensures.rests;
}

pub returns : goal.returns
returns c =
    let whole = text_at c.args.problem.now c.args.nodes.now c.args.id in
    let label = finished c.args.problem.now c.args.nodes.now c.loop-rest.line c.loop-rest.rests.items whole c.in_default.ensures.last
    c.loop-rest.invariant.text in
    subst (λ (t : List ℕ). IfOk c.finish.result (λ text. text ≡ t)) label c.finish.ensures
