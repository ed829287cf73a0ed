use Rattle.std.proofs.Common.{arith}
use Rattle.tl_rows.proofs.Parts.{grown-between}
use Rattle.tl_rows.proofs.runs.Runs.push_more.Goals as goal

pub returns-then-next-to : goal.returns-then-next-to
returns-then-next-to c = (
  omega (arith, c.requires.some, c.if-next-to.true),
  c.in_ok-next.ensures.1,
  c.in_ok-next.ensures.2,
)

pub returns : goal.returns
returns c =
    let low = c.in_ok-next.ensures.0 in
    let up = c.in_ok-after.ensures.0 in (
      omega (arith, low, up),
      c.in_ok-after.ensures.1,
      grown-between c.args.self.now c.push_whole.new.self c.push_some.new.self c.args.other.now c.args.k c.in_ok-next.next
          c.in_ok-after.after low (omega (arith, up)) c.in_ok-next.ensures.2 c.in_ok-after.ensures.2,
    )
