use Rattle.std.proofs.Common.{◌<◌, ◌≤◌, ◌+◌, List, length, take, true, refl, subst, arith}
use Rattle.tl_check.specs.Told.{AreNoted}
use Rattle.tl_check.specs.Tracks.{line_in, TellsTruth}
use Rattle.tl_check.proofs.ToldLaws.{noted-none, noted-more, taken-more, taken-all}
use Rattle.tl_syntax.specs.declared.fact.Fact.{Fact}
use Rattle.tl_syntax.specs.declared.value.Value.{Value}
use Rattle.tl_syntax.specs.Lists.{Among}
use Rattle.tl_check.proofs.tracks.Tracks.note_rows.Goals as goal

pub loop-k-init : goal.loop-k-init
loop-k-init c = record {
  covered = c.requires;
  noted = noted-none c.args.pred 0 (λ a. true) (line_in c.args.self.now.lines) (λ a. Among a (take 0 c.args.rows.now)) (λ a m. m);
}

pub loop-k-preserved : goal.loop-k-preserved
loop-k-preserved c =
    let rows = c.args.rows.now in
    let k = c.loop-k.k in
    let room : k < length rows = omega arith in
    record {
      covered = c.in_ok-note.ensures.covered;
      noted = noted-more c.args.pred 0 (λ a. true) (line_in c.args.self.now.lines) (λ a. Among a (take k rows))
          (λ a. Among a (take (k + 1) rows)) (line_in c.loop-k.self.lines) (line_in c.note.new.self.lines) c.row.result.now
          (record { at = 0; truth = true }) refl refl
          (λ a. taken-more rows k c.row.result.now a room c.row.ensures) c.loop-k.invariant.noted
          (subst (λ (f : Fact). TellsTruth f (record { at = 0; truth = true }) (line_in c.loop-k.self.lines)
          (line_in c.note.new.self.lines)) c.in_ok-fact.ensures c.in_ok-note.ensures.told);
    }

pub returns-clause-noted : goal.returns-clause-noted
returns-clause-noted c =
    let rows = c.args.rows.now in
    let k = c.loop-k.k in
    let done : length rows ≤ k = omega arith in
    subst (λ (rs : List (List Value)). AreNoted c.args.pred 0 (λ a. true) (λ a. Among a rs) (line_in c.args.self.now.lines)
    (line_in c.loop-k.self.lines)) (taken-all rows k done) c.loop-k.invariant.noted
