-- What an evaluation answers: the value of the definition, where no operation that is looked at is
-- past range, and else one that is.
use Rattle.std.specs.Prelude.{◌≡◌, ◌++◌, List, Bool, true, false, Option, Some, None, Result, Ok, Err, ℤ}
use Rattle.tl_syntax.specs.declared.value.Value.{Value}
use Rattle.tl_syntax.specs.declared.value.Value.TheVariants.{Int, Sym}
use Rattle.tl_syntax.specs.Lists.{Each, Among}
use Rattle.tl_terms.specs.Operations.{Operation, IsPastRange}
use Rattle.tl_eval.specs.declared.range.RangeNote.{RangeNote}

-- the operation that a note tells
abbrev pub operation_of : RangeNote → Operation
operation_of note = record { at = note.at; op = note.op; left = note.left; right = note.right }

-- no operation of the list is past range
abbrev pub AreInRange : List Operation → Type 0
AreInRange looked = Each (λ o. IsPastRange o → ⊥) looked

-- the note tells an operation of the list that is past range
abbrev pub Tells : List Operation → RangeNote → Type 0
Tells looked note = Among (operation_of note) looked × IsPastRange (operation_of note)

-- the value, where none of the operations is past range, and else a note of one that is
abbrev pub Evaluates : {A : Type 0} → A → List Operation → Result A RangeNote → Type 0
Evaluates meant looked (Ok found) = (found ≡ meant) × AreInRange looked
Evaluates meant looked (Err note) = Tells looked note

-- the values, before the others, where there are some
abbrev pub prefixed : List Value → Option (List Value) → Option (List Value)
prefixed vs None = None
prefixed vs (Some us) = Some (vs ++ us)

-- the values of the row, where all were found
abbrev pub row_found : List Value → Result Bool RangeNote → Result (Option (List Value)) RangeNote
row_found vs (Ok true) = Ok (Some vs)
row_found vs (Ok false) = Ok None
row_found vs (Err note) = Err note

-- the integer that was found, where there is one
abbrev pub integer_found : Result (Option Value) RangeNote → Result (Option ℤ) RangeNote
integer_found (Ok (Some (Int z))) = Ok (Some z)
integer_found (Ok (Some (Sym k))) = Ok None
integer_found (Ok None) = Ok None
integer_found (Err note) = Err note

-- what is known of all operations once the rest is: they are in range where the rest is, and those
-- of the rest are among them
pub record Carries (all rest : List Operation) : Type 0 where
  pub in_range : AreInRange rest → AreInRange all
  pub among : (o : Operation) → Among o rest → Among o all
