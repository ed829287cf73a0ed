-- Labels of the positions of a span.
use Rattle.std.specs.Prelude.{◌≡◌, ◌<◌, ◌≤◌, ◌+◌, ◌-◌, ◌&&◌, ◌⊎◌, ℕ, List, length, take, drop, Bool, true, false, cond, Result, OnOk}
use Rattle.std.specs.Prelude.{nat_le, nat_lt, slice_index_or}
use Rattle.tl_check.specs.Ahead.{Ahead, marks}
use Rattle.tl_check.specs.Passes.{joins}
use Rattle.tl_check.specs.declared.span.Span.{Span}
use Rattle.tl_syntax.specs.declared.junction.Junction.{Junction}
use Rattle.tl_syntax.specs.Junctions.{deciding_truth}
use Rattle.tl_terms.specs.World.{World}

-- it begins before it ends, among so many positions
pub record IsWithin (span : Span) (count : ℕ) : Type 0 where
  pub order : span.from ≤ span.to
  pub within : span.to ≤ count

-- the test at each position of the span
abbrev pub marks_in : Ahead → List World → Span → List Bool
marks_in t ws span = take (span.to - span.from) (marks t (drop span.from ws))

-- the span, of labels of another span, begins where the label is true and has all positions where
-- it is
pub record IsHull (bs : List Bool) (span hull : Span) : Type 0 where
  pub from : span.from ≤ hull.from
  pub order : hull.from < hull.to
  pub to : hull.to ≤ span.to
  pub first : slice_index_or bs (hull.from - span.from) false ≡ true
  pub all : (k : ℕ) → slice_index_or bs k false ≡ true → (hull.from ≤ span.from + k) × (span.from + k < hull.to)

-- each of the labels decides the junction
abbrev pub AreDecided : Junction → List Bool → Type 0
AreDecided j bs = (k : ℕ) → k < length bs → slice_index_or bs k false ≡ deciding_truth j

-- each of the labels of the span that stands outside of the inner span decides the junction
pub record IsOpen (j : Junction) (bs : List Bool) (span inner : Span) : Type 0 where
  pub from : span.from ≤ inner.from
  pub order : inner.from < inner.to
  pub to : inner.to ≤ span.to
  pub decided : (k : ℕ) → k < length bs → (span.from + k < inner.from) ⊎ (inner.to ≤ span.from + k) → slice_index_or bs k false ≡
      deciding_truth j

-- the label together with the one of the other list, where that has one and `there` is true
abbrev pub joined_where : Junction → List Bool → List Bool → ℕ → ℕ → Bool → Bool
joined_where j there other at k b = cond ((nat_le at k && nat_lt k (at + length other)) && slice_index_or there k false)
    (joins j b (slice_index_or other (k - at) false)) b

-- each label is joined in this way
abbrev pub JoinsWhere : Junction → List Bool → List Bool → ℕ → List Bool → List Bool → Type 0
JoinsWhere j there other at old new = (k : ℕ) → k < length old → slice_index_or new k false ≡
    joined_where j there other at k (slice_index_or old k false)

-- so it is where nothing is refused
abbrev pub AreJoinedWhere : {A E : Type 0} → Junction → List Bool → List Bool → ℕ → List Bool → List Bool → Result A E → Type 0
AreJoinedWhere j there other at old new r = OnOk r (JoinsWhere j there other at old new)
