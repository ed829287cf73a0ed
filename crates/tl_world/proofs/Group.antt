-- The tables of a world can be got back from its facts and places.
use Rattle.std.proofs.Common.{◌≡◌, ℕ, true, false, cond, T, List, [], ◌∷◌, ◌++◌, map, Option, Some, None, refl, sym, ap, ◌∙◌, Less, is_some}
use Rattle.std.proofs.Common.{eq-eqb}
use Rattle.std.specs.Prelude.{nat_eq}
use Rattle.std.specs.Ordering.{is_eq, nat_cmp, eq_by_cmp}
use Rattle.std.specs.Cmp.{unsigned_tied}
use Rattle.std.specs.List.{list_any}
use Rattle.std.specs.FinSet as set
use Rattle.std.specs.FinMap as dict
use Rattle.std.specs.FinMap.Entries.{below_all, is_some-find}
use Rattle.tl_syntax.specs.declared.value.Value.{Value}
use Rattle.tl_syntax.specs.Keys.{Key, key_cmp}
use Rattle.tl_syntax.proofs.TotalOrders.{key_total, key_ties}
use Rattle.tl_terms.specs.World.{World}
use Rattle.tl_rows.specs.Plain.{PlainRows, PlainTables, keyed, entries_of, InOrder, HasItem, set_of, map_of}
use Rattle.tl_world.specs.WorldCode.{push_row, group, marked, ordered}
use Rattle.tl_rows.proofs.Search.{first_true, second_true, is_less}
use Rattle.tl_rows.proofs.Lookup.{contains-set_of, entries-rise}

same_number : (n : ℕ) → nat_eq n n ≡ true
same_number n = eq-eqb n n refl

other_number : (n m : ℕ) → nat_cmp n m ≡ Less → nat_eq n m ≡ false
other_number n m e = sym (unsigned_tied n m) ∙ ap is_eq e

module _ {X : Type 0} where
  push-apart : (n : ℕ) (r : List Value × X) (ts : PlainTables X) → T (below_all nat_cmp n ts) → push_row ((n, r.0), r.1) ts ≡ (n, r ∷ []) ∷
      ts
  push-apart n r [] h = refl
  push-apart n r (t ∷ ts) h = ap (λ b. cond b ((t.0, r ∷ t.1) ∷ ts) ((n, r ∷ []) ∷ t ∷ ts))
      (other_number n t.0 (is_less _ (first_true _ _ h)))

  push-same : (n : ℕ) (r : List Value × X) (rs : PlainRows X) (ts : PlainTables X) → push_row ((n, r.0), r.1) ((n, rs) ∷ ts) ≡ (n, r ∷ rs) ∷
      ts
  push-same n r rs ts = ap (λ b. cond b ((n, r ∷ rs) ∷ ts) ((n, r ∷ []) ∷ (n, rs) ∷ ts)) (same_number n)

  group-keyed : (n : ℕ) (rs : PlainRows X) (fs : List (Key × X)) (ts : PlainTables X) → HasItem rs → group fs ≡ ts →
      T (below_all nat_cmp n ts) → group (keyed n rs ++ fs) ≡ (n, rs) ∷ ts
  group-keyed n [] fs ts filled e h = absurd filled
  group-keyed n (r ∷ []) fs ts filled e h = ap (push_row ((n, r.0), r.1)) e ∙ push-apart n r ts h
  group-keyed n (r ∷ s ∷ rs) fs ts filled e h = ap (push_row ((n, r.0), r.1)) (group-keyed n (s ∷ rs) fs ts tt e h) ∙
      push-same n r (s ∷ rs) ts

  pub group-entries : (ts : PlainTables X) → InOrder ts → group (entries_of ts) ≡ ts
  group-entries [] h = refl
  group-entries (t ∷ ts) h = group-keyed t.0 t.1 (entries_of ts) ts h.1.0.0 (group-entries ts (second_true _ _ h.0, h.1.1))
      (first_true _ _ h.0)

unit_told : (x y : Option (Unit {0})) → is_some x ≡ is_some y → x ≡ y
unit_told None None e = refl
unit_told None (Some u) e = absurd (Rattle.std.proofs.Common.true≢false (sym e))
unit_told (Some u) None e = absurd (Rattle.std.proofs.Common.true≢false e)
unit_told (Some u) (Some v) e = refl

marked-keys : (ks : List Key) → map (λ (e : Key × Unit {0}). e.0) (marked ks) ≡ ks
marked-keys [] = refl
marked-keys (k ∷ ks) = ap (λ xs. k ∷ xs) (marked-keys ks)

ordered-get : (ts : PlainTables (Unit {0})) (q : Key) → InOrder ts → dict.get (ordered (set_of ts)) q ≡ dict.find key_cmp q (entries_of ts)
ordered-get ts q h = dict.get-from_entries key_total (marked (set.items (set_of ts))) q ∙ unit_told _ _ (
    is_some-find key_cmp q (marked (set.items (set_of ts)))
    ∙ (ap (list_any (eq_by_cmp key_cmp q)) (marked-keys (set.items (set_of ts)))
    ∙ (sym (set.contains-items (set_of ts) q) ∙ contains-set_of ts q))
    )

pub facts-entries : (ts : PlainTables (Unit {0})) → InOrder ts → dict.entries (ordered (set_of ts)) ≡ entries_of ts
facts-entries ts h =
    ap dict.entries (dict.same_map key_total key_ties (ordered (set_of ts)) (dict.from_sorted (entries_of ts))
    (λ q. ordered-get ts q h ∙ sym (dict.get-from_sorted key_cmp (entries_of ts) q (entries-rise ts h))))
    ∙ dict.entries-from_sorted key_cmp (entries_of ts) (entries-rise ts h)

pub facts-back : (ts : PlainTables (Unit {0})) → InOrder ts → group (dict.entries (ordered (set_of ts))) ≡ ts
facts-back ts h = ap group (facts-entries ts h) ∙ group-entries ts h

pub places-back : (ts : PlainTables Value) → InOrder ts → group (dict.entries (map_of ts)) ≡ ts
places-back ts h = ap group (dict.entries-from_sorted key_cmp (entries_of ts) (entries-rise ts h)) ∙ group-entries ts h

abbrev pub whole : PlainTables (Unit {0}) → PlainTables Value → World
whole ts us = record { facts = set_of ts; places = map_of us }

-- worlds are the same just where their tables are
pub same-facts : (ts us : PlainTables (Unit {0})) → InOrder ts → InOrder us → set_of ts ≡ set_of us → ts ≡ us
same-facts ts us h k e = sym (facts-back ts h) ∙ (ap (λ s. group (dict.entries (ordered s))) e ∙ facts-back us k)

pub same-places : (ts us : PlainTables Value) → InOrder ts → InOrder us → map_of ts ≡ map_of us → ts ≡ us
same-places ts us h k e = sym (places-back ts h) ∙ (ap (λ m. group (dict.entries m)) e ∙ places-back us k)
