use Rattle.std.proofs.Common.{take}
use Rattle.tl_check.specs.Trails.{HasSeenAll, NotesFacts}
use Rattle.tl_check.proofs.predicate_tracks.PredicateTracks.note_facts.Given as goal

abbrev pub invariant-loop-fact : goal.invariant-loop-fact
invariant-loop-fact l = record {
  covered : HasSeenAll l.self;
  noted : NotesFacts (take l.fact-index l.facts) l.w l.at l.fn.self l.self;
}
