-- What substitution keeps, as laws.
use Rattle.std.specs.Prelude.{◌≡◌, ℕ, List, filter, Some, is_none}
use Rattle.tl_syntax.specs.declared.bound.Bound.{Bound}
use Rattle.tl_syntax.specs.declared.value.Value.{Value}
use Rattle.tl_syntax.specs.Assignment.{Assignment}
use Rattle.tl_syntax.specs.Fits.{BoundFits, Fits}
use Rattle.tl_syntax.specs.FreeVariables.{bound_slots, free_slots}
use Rattle.tl_syntax.specs.Named.{ValueIsNamed, BoundIsNamed, IsNamed}
use Rattle.tl_syntax.specs.Signature.{Signature}
use Rattle.tl_syntax.specs.StateFormulas.{IsState}
use Rattle.tl_syntax.specs.Substitution.{substituted_bound, substituted}
use Rattle.tl_syntax.specs.Trees.{FormulaTree}

-- each value that is put in is named
abbrev pub GivesNamed : ℕ → Assignment → Type 0
GivesNamed n e = (q : ℕ) (v : Value) → e q ≡ Some v → ValueIsNamed n v

-- a formula that fits a domain fits it with values put in
abbrev pub SubstitutedFits : Type 0
SubstitutedFits = (g : Signature) (around : List ℕ) (e : Assignment) (f : FormulaTree) → Fits g around f → Fits g around (substituted e f)

-- and so does a bound
abbrev pub SubstitutedBoundFits : Type 0
SubstitutedBoundFits = (g : Signature) (e : Assignment) (b : Bound) → BoundFits g b → BoundFits g (substituted_bound e b)

-- a formula of named things is one with named values put in
abbrev pub SubstitutedIsNamed : Type 0
SubstitutedIsNamed = (n : ℕ) (e : Assignment) (f : FormulaTree) → GivesNamed n e → IsNamed n f → IsNamed n (substituted e f)

-- and so is a bound
abbrev pub SubstitutedBoundIsNamed : Type 0
SubstitutedBoundIsNamed = (n : ℕ) (e : Assignment) (b : Bound) → GivesNamed n e → BoundIsNamed n b → BoundIsNamed n (substituted_bound e b)

-- a formula without temporal words has none with values put in
abbrev pub SubstitutedIsState : Type 0
SubstitutedIsState = (e : Assignment) (f : FormulaTree) → IsState f → IsState (substituted e f)

-- the free variables that are left are those without a value
abbrev pub SubstitutedLeaves : Type 0
SubstitutedLeaves = (e : Assignment) (f : FormulaTree) → free_slots (substituted e f) ≡ filter (λ q. is_none (e q)) (free_slots f)

-- and so in a bound
abbrev pub SubstitutedBoundLeaves : Type 0
SubstitutedBoundLeaves = (e : Assignment) (b : Bound) → bound_slots (substituted_bound e b) ≡ filter (λ q. is_none (e q)) (bound_slots b)
