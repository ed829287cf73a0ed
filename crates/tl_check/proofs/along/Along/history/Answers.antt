use Rattle.tl_check.proofs.HistoryLaws.{among-item}
use Rattle.tl_check.proofs.along.Along.history.Goals as goal

pub returns-then-history-pred : goal.returns-then-history-pred
returns-then-history-pred c = (
  c.if-history-pred.true,
  among-item c.args.self.now.histories.now c.loop-history.history-index
      c.history-item.result c.loop-history-test.true c.history-item.is,
)
