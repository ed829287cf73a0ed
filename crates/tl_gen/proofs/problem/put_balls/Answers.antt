use Rattle.std.proofs.Common.{◌≡◌, ◌++◌}
use Rattle.tl_gen.specs.Samples.{ball_lines, text_of_lines}
use Rattle.tl_gen.proofs.Lines.{one_more_ball}
use Rattle.tl_gen.proofs.problem.put_balls.Goals as goal

pub loop-before-preserved : goal.loop-before-preserved
loop-before-preserved c =
    let room = c.args.room.now in
    let before = c.loop-before.before in
    let so_far : c.loop-before.text ≡ c.args.text.now ++ text_of_lines (ball_lines room before) = c.loop-before.invariant in
    rw (c.in_ok-extend-2.ensures, c.in_ok-extend.ensures, c.as_bytes.ensures.value, c.in_ok-line.ensures, so_far)
    (one_more_ball c.args.text.now room before)
