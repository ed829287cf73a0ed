use Rattle.std.proofs.Common.{◌≤◌, arith}
use Rattle.tl_rows.proofs.Parts.{grown-between, nothing-between}
use Rattle.tl_rows.proofs.runs.Runs.push_rows.Goals as goal

pub loop-k-init : goal.loop-k-init
loop-k-init c = record {
  low = (let m : c.args.from ≤ c.args.from = omega arith in m);
  high = c.requires.range;
  rows = nothing-between c.args.self.now c.args.other.now c.args.from;
}

pub loop-k-preserved : goal.loop-k-preserved
loop-k-preserved c = record {
  low = let p = c.in_ok-k.ensures.0 in omega (arith, c.loop-k.invariant.low, p);
  high = c.in_ok-k.ensures.1;
  rows = grown-between c.args.self.now c.loop-k.self c.push_more.new.self c.args.other.now c.args.from c.loop-k.k c.in_ok-k.k
      c.loop-k.invariant.low (let p = c.in_ok-k.ensures.0 in omega (arith, p)) c.loop-k.invariant.rows c.in_ok-k.ensures.2;
}
