-- The two texts of a sample, which are read in turn as files are, and stand in no store.
use Rattle.std.specs.Prelude.{◌≡◌, ◌⊎◌, ℕ}
use Rattle.tl_gen.specs.Samples.{domain_text, problem_text}
use Rattle.tl_run.specs.declared.stop.Broken.{Broken}
use Rattle.tl_run.specs.declared.words.Role.TheVariants as role
use Rattle.tl_run.specs.Inputs.{Input, nothing, StandsFor, IsBroken}

-- both texts of the sample of so many balls pass, and together they stand for this
abbrev pub SampleStandsFor : ℕ → Input → Type 0
SampleStandsFor balls input = (domain : Input) × StandsFor role.Domain nothing domain_text domain ×
    StandsFor role.Problem domain (problem_text balls) input

-- the second text has its turn, after the first has passed, and breaks this rule
abbrev pub BreaksSecond : ℕ → Broken → Type 0
BreaksSecond balls b = (domain : Input) × StandsFor role.Domain nothing domain_text domain ×
    IsBroken role.Problem domain (problem_text balls) b

-- the text of this number has its turn and breaks this rule
abbrev pub BreaksSample : ℕ → ℕ → Broken → Type 0
BreaksSample balls number b = ((number ≡ 1) × IsBroken role.Domain nothing domain_text b) ⊎ ((number ≡ 2) × BreaksSecond balls b)
