-- Refused files.
use Rattle.std.specs.Prelude.{ℕ, List}
use Rattle.tl_rules.specs.Rules as forms
use Rattle.tl_text.specs.Refusals.{refused_text}
use Rattle.tl_run.specs.declared.stop.Broken.{Broken}
use Rattle.tl_run.specs.declared.stop.Broken.TheVariants.{BadByte, StrayClose, Unclosed, TooDeep, BigInteger, TooLong, Form}

-- the number of a rule
abbrev pub refusal_rule : Broken → ℕ
refusal_rule (BadByte at) = 1
refusal_rule (StrayClose at) = 2
refusal_rule (Unclosed at) = 3
refusal_rule (TooDeep at) = 4
refusal_rule (BigInteger at) = 5
refusal_rule TooLong = 6
refusal_rule (Form rule at) = forms.rule_number rule

-- the offset that is reported with a rule
abbrev pub refusal_offset : Broken → ℕ
refusal_offset (BadByte at) = at
refusal_offset (StrayClose at) = at
refusal_offset (Unclosed at) = at
refusal_offset (TooDeep at) = at
refusal_offset (BigInteger at) = at
refusal_offset TooLong = 4194304
refusal_offset (Form rule at) = at

-- the line of a refusal
abbrev pub refusal_text : ℕ → Broken → List ℕ
refusal_text number broken = refused_text number (refusal_rule broken) (refusal_offset broken)
