-- A truth of a definition that is remembered, and when it is right.
use Rattle.std.specs.Prelude.{◌≡◌, ◌⊎◌, ℕ, List, Bool, Ok, refl}
use Rattle.std.specs.Coded.{Coded, code_by, coded×, coded_ℕ, coded_bool, coded_list}
use Rattle.tl_eval.specs.Notes.{Evaluates}
use Rattle.tl_eval.specs.Reading.{situation_read, looked_read}
use Rattle.tl_syntax.specs.declared.value.Value.{Value}
use Rattle.tl_syntax.specs.Lists.{Each, Among}
use Rattle.tl_terms.specs.Problem.{PlainProblem}
use Rattle.tl_terms.specs.World.{World}
use Rattle.tl_world.specs.View.{coded_value}

-- a definition by its number, the level at which it is read, the values of its parameters, and
-- whether it holds of them
pub record Remembered : Type 0 where
  pub number : ℕ
  pub level : ℕ
  pub values : List Value
  pub truth : Bool

-- the same as a tuple, which gives it back
abbrev pub coded_remembered : Coded Remembered
coded_remembered =
    code_by (ℕ × (ℕ × (List Value × Bool))) (coded× coded_ℕ (coded× coded_ℕ (coded× (coded_list coded_value) coded_bool)))
    (λ r. (r.number, (r.level, (r.values, r.truth)))) (λ p. record { number = p.0; level = p.1.0; values = p.1.1.0; truth = p.1.1.1 })
    (λ r. refl)

-- the definition at the level has this truth of the values
abbrev pub remembered : ℕ → ℕ → List Value → Bool → Remembered
remembered n k vs b = record { number = n; level = k; values = vs; truth = b }

-- each of these is the one, or among the others
abbrev pub AreFrom : Remembered → List Remembered → List Remembered → Type 0
AreFrom r others rs = Each (λ x. (x ≡ r) ⊎ Among x others) rs

-- it is the truth of the definition in a world of the problem, and no operation that is looked at
-- is past range
abbrev pub IsRight : PlainProblem → World → Remembered → Type 0
IsRight p w r = Evaluates ((situation_read p w r.number r.level).table r.number r.values)
    (looked_read p w r.number r.level r.number r.values) (Ok r.truth)

-- each that is remembered is the truth in this world
abbrev pub AreTruths : PlainProblem → World → List Remembered → Type 0
AreTruths p w rs = Each (IsRight p w) rs
