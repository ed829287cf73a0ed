-- What an operation on two integers answers.
use Rattle.std.specs.Prelude.{◌≡◌, ℕ, ℤ, Option, Some, Result, Ok, Err}
use Rattle.tl_syntax.specs.declared.value.Op.{Op}
use Rattle.tl_syntax.specs.declared.value.Value.{Value}
use Rattle.tl_syntax.specs.declared.value.Value.TheVariants.{Int}
use Rattle.tl_terms.specs.Operations.{Operation, IsPastRange}
use Rattle.tl_terms.specs.Terms.{exact}
use Rattle.tl_eval.specs.Notes.{operation_of}
use Rattle.tl_eval.specs.declared.range.RangeNote.{RangeNote}

-- the operation on two integers
abbrev pub done : ℕ → Op → ℤ → ℤ → Operation
done at op a b = record { at = at; op = op; left = a; right = b }

-- its exact result, where it is not past range, and else a note of it
abbrev pub Operates : ℕ → Op → ℤ → ℤ → Result (Option Value) RangeNote → Type 0
Operates at op a b (Ok v) = (v ≡ Some (Int (exact op a b))) × (IsPastRange (done at op a b) → ⊥)
Operates at op a b (Err note) = (operation_of note ≡ done at op a b) × IsPastRange (done at op a b)
