use Rattle.std.proofs.Common.{◌≡◌, map, drop}
use Rattle.tl_label.specs.Lines.{after}
use Rattle.tl_label.specs.Parts.{after_spaces}
use Rattle.tl_label.specs.Terms.{variable_text}
use Rattle.tl_label.proofs.bounds.put_names.Given as goal

-- the variables so far, and after them those that are left
abbrev pub invariant-loop-var : goal.invariant-loop-var
invariant-loop-var l =
    after l.initial.line (after_spaces (map (variable_text l.names) l.vars)) ≡
    after l.line (after_spaces (map (variable_text l.names) (drop l.var-index l.vars)))
