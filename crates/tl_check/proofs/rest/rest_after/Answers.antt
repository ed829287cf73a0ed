use Rattle.std.proofs.Common.{◌∙◌, sym, ap, arith, drop, Option}
use Rattle.tl_check.proofs.CutLaws.{drop-run}
use Rattle.tl_check.specs.Rests.{labels_from}
use Rattle.tl_check.specs.Runs.{spread}
use Rattle.tl_check.specs.declared.run.Run.{Run}
use Rattle.tl_check.proofs.rest.rest_after.Goals as goal

pub returns-then-count-run : goal.returns-then-count-run
returns-then-count-run c =
    sym (ap (λ (o : Option Run). drop c.args.count (labels_from o c.args.rest.now.later.now)) c.in-Some.is ∙
    drop-run c.in-Some.run'.count c.args.count c.in-Some.run'.truth (spread c.args.rest.now.later.now) (omega arith))
