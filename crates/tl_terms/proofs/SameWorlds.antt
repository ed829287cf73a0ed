-- The test of two worlds holds exactly where they are the same.
use Rattle.std.specs.Prelude.{◌≡◌, Bool, true, false, refl}
use Rattle.std.specs.Bool.{Decides}
use Rattle.std.specs.List.{list_any}
use Rattle.std.specs.Ordering.{eq_by_cmp}
use Rattle.std.proofs.Common.{sym, ap, ◌∙◌, true≢false}
use mathlib.Core.HLevel.{hedberg}
use lib.Pointwise.{pointwise}
use Rattle.std.specs.FinSet as set
use Rattle.std.specs.FinMap as dict
use Rattle.tl_syntax.specs.declared.value.Value.{Value}
use Rattle.tl_syntax.specs.Keys.{Key, key_cmp, value_cmp}
use Rattle.tl_syntax.proofs.TotalOrders.{key_total, value_total, key_ties, value_ties}
use Rattle.tl_syntax.proofs.Plain.{Tells, both, with_both, list-tells}
use Rattle.tl_syntax.proofs.Telling.{order-tells}
use Rattle.tl_terms.specs.SameWorlds.{entry_eq, world_eq}
use Rattle.tl_terms.specs.World.{World}

entry-tells : Tells entry_eq
entry-tells a b = (
  λ h. let k = both (eq_by_cmp key_cmp a.0 b.0) (eq_by_cmp value_cmp a.1 b.1) h in
      let p = (order-tells key_total key_ties a.0 b.0).0 k.0 in let q = (order-tells value_total value_ties a.1 b.1).0 k.1 in λ i.
      (p i, q i),
  λ e. with_both ((order-tells key_total key_ties a.0 b.0).1 (ap (λ (u : Key × Value). u.0) e))
      ((order-tells value_total value_ties a.1 b.1).1 (ap (λ (u : Key × Value). u.1) e)),
)

-- sets of the same items are the same
same_items : (s t : set.FinSet key_cmp) → set.items s ≡ set.items t → s ≡ t
same_items s t e = set.same_set key_total key_ties s t (λ q. set.contains-items s q ∙
    (ap (λ ks. list_any (eq_by_cmp key_cmp q) ks) e ∙ sym (set.contains-items t q)))

-- the test holds exactly where the worlds are the same
pub world-tells : Tells world_eq
world-tells v w = (
  λ h. let k = both (pointwise (eq_by_cmp key_cmp) (set.items v.facts) (set.items w.facts))
      (pointwise entry_eq (dict.entries v.places) (dict.entries w.places)) h in
      let p = same_items v.facts w.facts ((list-tells (eq_by_cmp key_cmp) (order-tells key_total key_ties) _ _).0 k.0) in
      let q = dict.same_entries_map v.places w.places ((list-tells entry_eq entry-tells _ _).0 k.1) in
      λ i. record { facts = p i; places = q i },
  λ e. with_both ((list-tells (eq_by_cmp key_cmp) (order-tells key_total key_ties) _ _).1 (ap (λ (u : World). set.items u.facts) e))
      ((list-tells entry_eq entry-tells _ _).1 (ap (λ (u : World). dict.entries u.places) e)),
)

-- two worlds are the same in at most one way, since sameness is decided
pub world_paths : (v w : World) → IsProp (v ≡ w)
world_paths = hedberg (λ x y. decided (world_eq x y) (world-tells x y))
  where
    decided : {P : Type 0} (b : Bool) → Decides b P → Dec P
    decided true d = yes (d.0 refl)
    decided false d = no (λ p. true≢false (sym (d.1 p)))
