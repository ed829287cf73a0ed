-- Bindings of slots that have values.
use Rattle.std.specs.Prelude.{◌≡◌, ◌<◌, ◌≤◌, ◌+◌, ℕ, List, [], ◌∷◌, ◌++◌, Option, Some, None, is_some, true}
use Rattle.tl_eval.specs.Frames.{assignment_in}
use Rattle.tl_syntax.specs.Bindings.{assignment_of}
use Rattle.tl_syntax.specs.declared.substitution.Binding.{Binding}
use Rattle.tl_syntax.specs.declared.value.Value.{Value}
use Rattle.tl_syntax.specs.Lists.{Each}

-- one binding more, where the slot has a value
abbrev pub with_slot : List Binding → ℕ → Option Value → List Binding
with_slot bs q (Some v) = bs ++ (record { slot = q; value = Some v }) ∷ []
with_slot bs q None = bs

-- the bindings have values, which are those of the slots before n
pub record BindsBefore (n : ℕ) (frame : List (Option Value)) (bs : List Binding) : Type 0 where
  pub set : Each (λ b. is_some b.value ≡ true) bs
  pub values : (q : ℕ) → q < n → assignment_of bs q ≡ assignment_in frame q
  pub rest : (q : ℕ) → n ≤ q → assignment_of bs q ≡ None

-- none of the four slots from this one on has a value
abbrev pub HaveNoValue : ℕ → List (Option Value) → Type 0
HaveNoValue n frame = (assignment_in frame n ≡ None) × ((assignment_in frame (n + 1) ≡ None) ×
    ((assignment_in frame (n + 2) ≡ None) × (assignment_in frame (n + 3) ≡ None)))
