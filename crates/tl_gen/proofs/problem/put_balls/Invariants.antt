use Rattle.std.proofs.Common.{◌≡◌, ◌++◌}
use Rattle.tl_gen.specs.Samples.{ball_lines, text_of_lines}
use Rattle.tl_gen.proofs.problem.put_balls.Given as goal

-- the lines of the balls so far
abbrev pub invariant-loop-before : goal.invariant-loop-before
invariant-loop-before l = l.text ≡ l.initial.text ++ text_of_lines (ball_lines l.room l.before)
