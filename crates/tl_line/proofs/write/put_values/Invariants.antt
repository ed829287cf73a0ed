use Rattle.std.proofs.Common.{◌≡◌, ◌++◌, length, drop}
use Rattle.tl_syntax.specs.Lists.{Each}
use Rattle.tl_syntax.specs.Named.{ValueIsNamed}
use Rattle.tl_line.specs.ActionTexts.{values_text}
use Rattle.tl_line.specs.Puts.{ContinuesTo}
use Rattle.tl_line.specs.WritableActions.{ValueFits}
use Rattle.tl_line.proofs.write.put_values.Given as goal

-- the texts so far, and after them those of the values that are left
abbrev pub invariant-loop-value : goal.invariant-loop-value
invariant-loop-value l = record {
  text : l.initial.out ++ values_text l.names l.values ≡ l.out ++ values_text l.names (drop l.value-index l.values);
  named : Each (ValueIsNamed (length l.names)) (drop l.value-index l.values);
  begins : ContinuesTo l.initial.out l.out;
  fits : Each ValueFits (drop l.value-index l.values) → Each ValueFits l.values;
}
