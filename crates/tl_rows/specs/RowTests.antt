-- When two lists of rows, or of places with their values, are the same.
use Rattle.std.specs.Prelude.{List, Bool, ◌&&◌}
use Rattle.std.proofs.Common.{ap}
use lib.Pointwise.{pointwise}
use Rattle.tl_syntax.specs.declared.value.Value.{Value}
use Rattle.tl_syntax.proofs.Plain.{Tells, list-tells, value-tells, both, with_both}
use Rattle.tl_rows.specs.Codes.{values_eq}
use Rattle.tl_rows.specs.declared.table.PlaceRow.{PlaceRow}
use Rattle.tl_syntax.specs.DerivedTests.{value_eq}

-- the same rows in the same order
abbrev pub rows_eq : List (List Value) → List (List Value) → Bool
rows_eq = pointwise values_eq

-- the test holds exactly where the rows are the same
pub rows-tell : Tells rows_eq
rows-tell = list-tells values_eq (list-tells value_eq value-tells)

-- the same arguments with the same value
abbrev pub place_row_eq : PlaceRow → PlaceRow → Bool
place_row_eq x y = values_eq x.args y.args && value_eq x.value y.value

-- the same places with the same values in the same order
abbrev pub place_rows_eq : List PlaceRow → List PlaceRow → Bool
place_rows_eq = pointwise place_row_eq

pub place_row-tells : Tells place_row_eq
place_row-tells x y = (
  λ h. let k = both (values_eq x.args y.args) (value_eq x.value y.value) h in
      let p = (list-tells value_eq value-tells x.args y.args).0 k.0 in let q = (value-tells x.value y.value).0 k.1 in λ i.
      record { args = p i; value = q i },
  λ e. with_both ((list-tells value_eq value-tells x.args y.args).1 (ap (λ (r : PlaceRow). r.args) e))
      ((value-tells x.value y.value).1 (ap (λ (r : PlaceRow). r.value) e)),
)

-- the test holds exactly where they are the same
pub place_rows-tell : Tells place_rows_eq
place_rows-tell = list-tells place_row_eq place_row-tells
