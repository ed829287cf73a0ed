use Rattle.std.proofs.Common.{take}
use Rattle.tl_syntax.specs.Lists.{Among}
use Rattle.tl_cert.proofs.known.is_among.Given as goal

-- it is none of those so far
abbrev pub invariant-loop-other : goal.invariant-loop-other
invariant-loop-other l = Among l.a (take l.other-index l.actions) → ⊥
