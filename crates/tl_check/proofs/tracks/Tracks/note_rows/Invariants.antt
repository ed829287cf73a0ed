use Rattle.std.proofs.Common.{take, true}
use Rattle.tl_check.specs.Told.{AreNoted}
use Rattle.tl_check.specs.Tracks.{line_in, HaveSeenAll}
use Rattle.tl_syntax.specs.Lists.{Among}
use Rattle.tl_check.proofs.tracks.Tracks.note_rows.Given as goal

abbrev pub invariant-loop-k : goal.invariant-loop-k
invariant-loop-k l = record {
  covered : HaveSeenAll l.self;
  noted : AreNoted l.pred 0 (λ a. true) (λ a. Among a (take l.k l.rows)) (line_in l.fn.self.lines) (line_in l.self.lines);
}
