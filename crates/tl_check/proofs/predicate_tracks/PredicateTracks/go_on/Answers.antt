use Rattle.std.proofs.Common.{List, subst}
use Rattle.tl_check.proofs.TrailLaws.{notes-next}
use Rattle.tl_check.specs.Trails.{NotesFacts}
use Rattle.tl_syntax.specs.declared.fact.Fact.{Fact}
use Rattle.tl_check.proofs.predicate_tracks.PredicateTracks.go_on.Goals as goal

pub returns : goal.returns
returns c =
    notes-next c.args.changes.now c.args.next.now c.args.at c.args.self.now c.note_facts.new.self c.note_facts-2.new.self
    (subst (λ (fs : List Fact). NotesFacts fs c.args.next.now c.args.at c.args.self.now c.note_facts.new.self) c.as_slice.ensures
    c.in_ok-note_facts.ensures.noted)
    (subst (λ (fs : List Fact). NotesFacts fs c.args.next.now c.args.at c.note_facts.new.self c.note_facts-2.new.self) c.as_slice-2.ensures
    c.in_ok-note_facts-2.ensures.noted)
    c.in_ok-note_facts-2.ensures.covered
