use Rattle.std.proofs.Common.{◌≡◌, take}
use Rattle.tl_depth.specs.Levels.{path_of}
use Rattle.tl_depth.proofs.stack.path.Given as goal

abbrev pub invariant-loop-level : goal.invariant-loop-level
invariant-loop-level l = l.found ≡ path_of (take l.level-index l.levels)
