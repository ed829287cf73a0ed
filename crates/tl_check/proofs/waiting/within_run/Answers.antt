use Rattle.std.proofs.Common.{arith}
use Rattle.tl_check.proofs.WaitLaws.{within-came, within-all_wait, within-some_wait}
use Rattle.tl_check.specs.Runs.{spread}
use Rattle.tl_check.proofs.waiting.within_run.Goals as goal

pub returns-then-run-clause-on : goal.returns-then-run-clause-on
returns-then-run-clause-on c = λ bs. within-came c.args.most c.args.waiting c.args.run.count c.args.run.truth bs
    (spread c.args.made.now.items) (spread c.add.new.runs.items) (spread c.add-then-run.new.runs.items) c.if-run.true c.requires
    c.args.run.some c.in_ok-add.ensures.added c.in_ok-add-2.ensures.added

pub returns-then-run-room-clause-on : goal.returns-then-run-room-clause-on
returns-then-run-room-clause-on c = λ bs. within-all_wait c.args.most c.args.waiting c.args.run.count c.args.run.truth bs
    (spread c.args.made.now.items) c.if-run.false

pub returns-clause-on : goal.returns-clause-on
returns-clause-on c = λ bs. within-some_wait c.args.most c.args.waiting c.args.run.count c.args.run.truth bs (spread c.args.made.now.items)
    (spread c.add-2.new.runs.items) c.if-run.false c.requires (omega arith) c.in_ok-add-3.ensures.added
