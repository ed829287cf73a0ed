-- A kept pair is met again.
use Rattle.std.proofs.Common.{◌≡◌, ℕ, ◌+◌, Bool, true, false, List, slice_get, Some, refl, sym, ap, ◌∙◌, subst, inl, inr}
use Rattle.std.specs.List.{slice_set}
use Rattle.tl_syntax.specs.declared.action.Action.{Action}
use Rattle.tl_search.proofs.ListLaws.{get-one}
use Rattle.tl_cost.specs.PlanCosts.{action_cost}
use Rattle.tl_cost.specs.Ways.{ComesNoLater, GoesOn, IsMet, Meets, Moves, TellsOrder, entry_of, is_listed, listed_len}
use Rattle.tl_cost.specs.declared.open_list.Entry.{Entry}
use Rattle.tl_cost.specs.declared.ways.Way.{Way}
use Rattle.tl_cost.specs.declared.ways.Found.{Found}
use Rattle.tl_cost.proofs.CostOrder.{upto-refl, upto-from, upto-same}

module _ (costs : List ℕ) (found : Found) (at k : ℕ) (a : Action) (w u : Way) (eu : slice_get found.ways.items k ≡ Some u)
    (m : IsMet costs found w a k) (cost : ℕ) (is : cost ≡ w.cost + action_cost costs a) (t : Bool)
    (o : TellsOrder t cost (w.length + 1) u) where
  met-is : m.way ≡ u
  met-is = get-one found.ways.items k m.way u m.its_way eu

  -- where the new way comes before, the pair is open
  pub met-open : t ≡ true → is_listed found.open_list (entry_of u k) ≡ true
  met-open h = subst (λ (v : Way). is_listed found.open_list (entry_of v k) ≡ true) met-is
      (m.opened (subst (λ (v : Way). ComesNoLater (w.cost + action_cost costs a) (w.length + 1) v.cost v.length) (sym met-is)
      (upto-from (w.cost + action_cost costs a) (w.length + 1) cost (w.length + 1) u.cost u.length (sym is) refl (o.upto h))))

  -- and the new one is not listed
  pub met-fresh : t ≡ true → (n : Way) → n.cost ≡ cost → n.length ≡ w.length + 1 → is_listed found.open_list (entry_of n k) ≡ false
  met-fresh h n p q = by_list (is_listed found.open_list (entry_of n k)) refl
    where
      by_list : (l : Bool) → is_listed found.open_list (entry_of n k) ≡ l → is_listed found.open_list (entry_of n k) ≡ false
      by_list false e = e
      by_list true e =
          let d : entry_of n k ≡ entry_of u k = m.exact (entry_of n k) e refl ∙ ap (λ (v : Way). entry_of v k) met-is in
          absurd (o.falls h (upto-from u.cost u.length n.cost n.length cost (w.length + 1) (sym (ap (λ (r : Entry). r.cost) d))
          (sym (ap (λ (r : Entry). r.length) d)) (upto-same n.cost n.length n.cost n.length cost (w.length + 1) p q
          (upto-refl n.cost n.length))))

  -- the pair keeps its way
  pub met-kept : t ≡ false → Meets costs found found w at a k u
  met-kept h = inl (refl, upto-same u.cost u.length cost (w.length + 1) (w.cost + action_cost costs a) (w.length + 1) is refl (o.stays h))

  -- or has the new one
  pub met-replaced : t ≡ true → (after : Found) (n : Way) → GoesOn costs w at a n → after.ways.items ≡ slice_set found.ways.items k n →
      Moves (is_listed found.open_list) (is_listed after.open_list) (entry_of u k) (entry_of n k) → listed_len after.open_list ≡
      listed_len found.open_list → Meets costs found after w at a k u
  met-replaced h after n g e v l = inr (record {
    way = n;
    goes_on = g;
    upto =
        upto-from n.cost n.length cost (w.length + 1) u.cost u.length (g.cost ∙ sym is) g.longer (o.upto h);
    ways = e;
    moves = v;
    len = l;
  })
