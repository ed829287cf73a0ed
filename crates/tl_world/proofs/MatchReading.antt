-- Readers of matches go through the rows of a table.
use Rattle.std.proofs.Common.{◌≡◌, ◌≤◌, ℕ, List, length, take, Bool, true, false, true≢false, ◌&&◌, Option, Some, None, refl, sym, ap, ◌∙◌}
use Rattle.std.proofs.Common.{subst}
use Rattle.tl_syntax.specs.declared.value.Value.{Value}
use Rattle.tl_terms.specs.World.{World}
use Rattle.tl_match.specs.declared.pattern.Match.{Match}
use Rattle.tl_match.specs.declared.pattern.Pattern.{Pattern}
use Rattle.tl_match.specs.Least.{HasLater, PutsNext, fits_some, above, match_in_place}
use Rattle.tl_world.specs.MatchReading.{pattern_if, IsNextBy, GoesThrough, CanReadOn}
use Rattle.tl_match.specs.Patterns.{IsLawful, makes_true, parts_of, tuple_in_place}
use Rattle.tl_match.proofs.Chains.{next-in-place, size-of-next}
use Rattle.tl_match.proofs.Least.{least-same}

-- what a reader that has rows keeps
pub record HasRows (w : World) (has : Bool) (p : Pattern) (begun : Bool) (m : Match) (place : ℕ) (rows : List (List Value)) : Type 0 where
  pub counts : has ≡ true
  pub lawful : IsLawful p
  pub size : begun ≡ true → m.len ≡ p.free
  pub through : GoesThrough w p begun m place rows

pub with-rows : (w : World) (has : Bool) (p : Pattern) (begun : Bool) (m : Match) (place : ℕ) (o : Option (List (List Value)))
    (rows : List (List Value)) → o ≡ Some rows → CanReadOn w (pattern_if has p) begun m place o → HasRows w has p begun m place rows
with-rows w true p begun m place o rows e k =
    let h = subst (CanReadOn w (Some p) begun m place) e k in
    record { counts = refl; lawful = h.0; size = h.1; through = h.2 }
with-rows w false p begun m place o rows e k = let d : Some rows ≡ None = sym e ∙ k.1 in cc

-- the next tuple of the rows is that of the world
pub next-through : (w : World) (has : Bool) (p : Pattern) (begun : Bool) (m : Match) (place : ℕ) (rows : List (List Value)) (found : Bool)
    (after : Match) → HasRows w has p begun m place rows
    → PutsNext p.free (parts_of p) rows begun m found after → IsNextBy w (pattern_if has p) (tuple_in_place begun m)
    (tuple_in_place found after)
next-through w has p begun m place rows found after h puts =
    subst (λ b. IsNextBy w (pattern_if b p) (tuple_in_place begun m) (tuple_in_place found after)) (sym h.counts)
    (next-in-place p.free (makes_true w p) begun m found after h.size
    (least-same p.free (match_in_place found after) (λ t. fits_some (parts_of p) rows t && above (match_in_place begun m) p.free t)
    (λ t. makes_true w p t && above (match_in_place begun m) p.free t)
    (λ t st. ap (λ b. b && above (match_in_place begun m) p.free t) (h.through.table t st)) puts))

-- and the reader goes on through them
pub goes-on : (w : World) (has : Bool) (p : Pattern) (begun : Bool) (m : Match) (place : ℕ) (rows : List (List Value)) (after : Match)
    (next : ℕ) → HasRows w has p begun m place rows
    → PutsNext p.free (parts_of p) rows begun m true after → next ≤ length rows →
    HasLater (parts_of p) true (take p.free after.values) rows next → CanReadOn w (pattern_if has p) true after next (Some rows)
goes-on w has p begun m place rows after next h puts bound later =
    subst (λ b. CanReadOn w (pattern_if b p) true after next (Some rows)) (sym h.counts) (
      h.lawful,
      λ _. size-of-next p.free _ true after puts refl,
      record
          { turn = h.through.turn; order = h.through.order; table = h.through.table; bound = bound; later = later },
    )

-- where no match has come, it can go on from the first place of the table
pub begins-table : (w : World) (has : Bool) (p : Pattern) (begun : Bool) (m : Match) (before place : ℕ) (o : Option (List (List Value)))
    (rows : List (List Value)) → has ≡ true → begun ≡ false → CanReadOn w (pattern_if has p) begun m before o
    → GoesThrough w p false m place rows → CanReadOn w (pattern_if has p) begun m place (Some rows)
begins-table w false p begun m before place o rows h n k b = absurd (true≢false (sym h))
begins-table w true p true m before place o rows h n k b = absurd (true≢false n)
begins-table w true p false m before place o rows h n k b = (k.0, k.1, b)
