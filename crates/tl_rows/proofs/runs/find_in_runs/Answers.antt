use Rattle.std.proofs.Common.{◌+◌, refl}
use Rattle.tl_rows.proofs.PartSearch.{found-in-part, absent-in-part}
use Rattle.tl_rows.proofs.runs.find_in_runs.Goals as goal

pub returns-in-Ok-clause-place : goal.returns-in-Ok-clause-place
returns-in-Ok-clause-place c = found-in-part c.args.args.now c.args.rows.now c.part_for-from.result.0.now c.part_for-from.result.1
    c.part_for-from.ensures.part c.in-Ok.k (c.part_for-from.result.1 + c.in-Ok.k) refl c.in-Ok.ensures.range c.in-Ok.ensures.place

pub returns-in-Err-clause-place : goal.returns-in-Err-clause-place
returns-in-Err-clause-place c = absent-in-part c.args.args.now c.args.rows.now c.part_for-from.result.0.now c.part_for-from.result.1
    c.part_for-from.ensures.part c.in-Err.k (c.part_for-from.result.1 + c.in-Err.k) refl c.in-Err.ensures.range c.in-Err.ensures.place
