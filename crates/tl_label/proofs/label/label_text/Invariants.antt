use Rattle.std.proofs.Common.{◌≡◌, [], Some}
use Rattle.tl_label.specs.Labels.{most_bytes}
use Rattle.tl_label.specs.Lines.{after, room}
use Rattle.tl_label.specs.Rests.{text_at, with_rests, AreThere}
use Rattle.tl_label.proofs.label.label_text.Given as goal

-- the text becomes with all that is left what it becomes with the whole formula
abbrev pub invariant-loop-rest : goal.invariant-loop-rest
invariant-loop-rest l = record {
  text : with_rests l.problem l.nodes l.line l.rests.items ≡ after (Some ([], most_bytes)) (text_at l.problem l.nodes l.id);
  there : AreThere l.nodes l.rests.items;
}

abbrev pub decreases-loop-rest : goal.decreases-loop-rest
decreases-loop-rest l = room l.line
