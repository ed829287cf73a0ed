use Rattle.std.proofs.Common.{◌≡◌, map, drop}
use Rattle.tl_label.specs.Lines.{after}
use Rattle.tl_label.specs.Parts.{after_spaces}
use Rattle.tl_label.specs.Terms.{arg_text}
use Rattle.tl_label.proofs.bounds.put_args.Given as goal

-- the arguments so far, and after them those that are left
abbrev pub invariant-loop-arg : goal.invariant-loop-arg
invariant-loop-arg l =
    after l.initial.line (after_spaces (map (arg_text l.names) l.args)) ≡
    after l.line (after_spaces (map (arg_text l.names) (drop l.arg-index l.args)))
