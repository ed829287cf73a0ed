use Rattle.std.proofs.Common.{◌≡◌, ap, ◌∙◌, length, arith}
use Rattle.std.proofs.lemmas.List.{length-take}
use Rattle.tl_eval.specs.Frames.{assignment_in}
use Rattle.tl_eval.proofs.ScopeLaws.{front-is}
use Rattle.tl_eval.proofs.kept.give_back.Goals as goal

pub returns : goal.returns
returns c =
    let size : length c.give_values.new.frame ≡ 32 = omega (
      arith,
      length-take 32 c.args.frames.now,
      c.requires.room,
      c.give_values.auto.frame,
    ) in
    ap assignment_in (front-is 32 c.give_values.new.frame _ size) ∙ c.give_values.ensures
