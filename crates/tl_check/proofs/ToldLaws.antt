-- What the changes of the facts of a predicate tell of one state more.
use Rattle.std.proofs.Common.{◌≡◌, ◌≤◌, ◌<◌, ◌+◌, ◌↔◌, ◌⊎◌, ◌||◌, ◌&&◌, ℕ, zero, suc, List, [], ◌∷◌, length, take, get_or, not, Bool, true}
use Rattle.std.proofs.Common.{false, true≢false, refl, sym, ap, ◌∙◌, subst, inl, inr, arith, add-one}
use Rattle.std.specs.Cmp.{Equal-is, tied_itself}
use Rattle.std.specs.Ordering.{eq_by_cmp}
use Rattle.tl_action.specs.declared.changes.Changes.{Changes}
use Rattle.tl_action.specs.ChangedWorlds.{world_after}
use Rattle.tl_check.specs.Lines.{truth_from, AreBefore}
use Rattle.tl_check.specs.Told.{AreNoted, TellsNext}
use Rattle.tl_check.specs.Tracks.{TellsTruth, fact_with}
use Rattle.tl_check.specs.declared.line.Change.{Change}
use Rattle.tl_syntax.specs.declared.fact.Fact.{Fact}
use Rattle.tl_syntax.specs.declared.value.Value.{Value}
use Rattle.tl_syntax.specs.DerivedTests.{fact_eq}
use Rattle.tl_syntax.specs.Keys.{Key, key_cmp, fact_key}
use Rattle.tl_syntax.specs.Lists.{Among}
use Rattle.tl_syntax.proofs.Plain.{fact-tells}
use Rattle.tl_syntax.proofs.TotalOrders.{key_total}
use Rattle.tl_terms.specs.World.{World, has_fact}
use Rattle.tl_world.specs.Edits.{lists_fact}
use Rattle.tl_world.proofs.Orders.{contains-all, contains-without, key-is}

-- ---- items of a list that are passed

-- one more item
pub taken-more : {A : Type 0} (xs : List A) (i : ℕ) (x a : A) → i < length xs → x ≡ get_or xs i x → Among a (take (i + 1) xs) ↔
    (Among a (take i xs) ⊎ (x ≡ a))
taken-more xs i x a h q = subst (λ (k : ℕ). Among a (take k xs) ↔ (Among a (take i xs) ⊎ (x ≡ a))) (sym (add-one i)) (by xs i h q)
  where
    by : (ys : List _) (k : ℕ) → k < length ys → x ≡ get_or ys k x → Among a (take (suc k) ys) ↔ (Among a (take k ys) ⊎ (x ≡ a))
    by [] k h q = absurd (omega arith)
    by (y ∷ ys) zero h q = (
      λ m. elim m [ inl e ↦ inr (q ∙ e) | inr n ↦ absurd n ],
      λ m. elim m [ inl n ↦ absurd n | inr e ↦ inl (sym q ∙ e) ],
    )
    by (y ∷ ys) (suc k) h q = (
      λ m. elim m [ inl e ↦ inl (inl e) | inr n ↦ elim ((by ys k (omega arith) q).0 n) [ inl l ↦ inl (inr l) | inr e ↦ inr e ] ],
      λ m. elim m [
        | inl n ↦ elim n [ inl e ↦ inl e | inr l ↦ inr ((by ys k (omega arith) q).1 (inl l)) ]
        | inr e ↦ inr ((by ys k (omega arith) q).1 (inr e))
      ],
    )

-- all items
pub taken-all : {A : Type 0} (xs : List A) (n : ℕ) → length xs ≤ n → take n xs ≡ xs
taken-all [] zero h = refl
taken-all [] (suc n) h = refl
taken-all (x ∷ xs) zero h = absurd (omega arith)
taken-all (x ∷ xs) (suc n) h = ap (λ (ys : List _). x ∷ ys) (taken-all xs n (omega arith))

-- ---- facts that are noted

module _ (q at : ℕ) (is : List Value → Bool) (old : Fact → List Change) where
  pub noted-none : (is_one : List Value → Type 0) → ((a : List Value) → is_one a → ⊥) → AreNoted q at is is_one old old
  noted-none is_one none = record {
    earlier = λ a j h. refl;
    bounded = λ a h. h;
    told = λ a h m. absurd (none a m);
    others = λ a h. refl;
  }

  -- of the same rows
  pub noted-same : (is_one other : List Value → Type 0) (new : Fact → List Change) → ((a : List Value) → other a ↔ is_one a) →
      AreNoted q at is is_one old new → AreNoted q at is other old new
  noted-same is_one other new same p = record {
    earlier = p.earlier;
    bounded = p.bounded;
    told = λ a h m. p.told a h ((same a).0 m);
    others = λ a h. p.others a (λ m. h ((same a).1 m));
  }

  -- of one row more
  module _ (is_one more : List Value → Type 0) (mid new : Fact → List Change) (r : List Value) (change : Change) (place : change.at ≡ at)
      (truth : change.truth ≡ is r) (split : (a : List Value) → more a ↔ (is_one a ⊎ (r ≡ a))) (p : AreNoted q at is is_one old mid)
      (one : TellsTruth (fact_with q r) change mid new) where
    this-or-other : (a : List Value) → (r ≡ a) ⊎ (new (fact_with q a) ≡ mid (fact_with q a))
    this-or-other a = by (fact_eq (fact_with q r) (fact_with q a)) refl
      where
        by : (b : Bool) → fact_eq (fact_with q r) (fact_with q a) ≡ b → (r ≡ a) ⊎ (new (fact_with q a) ≡ mid (fact_with q a))
        by true h = inl (ap (λ (g : Fact). g.args) ((fact-tells (fact_with q r) (fact_with q a)).0 h))
        by false h = inr (one.others (fact_with q a) h)

    earlier-here : (a : List Value) → r ≡ a → (j : ℕ) → j < at → truth_from false (new (fact_with q a)) j ≡
        truth_from false (mid (fact_with q a)) j
    earlier-here a e j h = subst (λ (b : List Value). truth_from false (new (fact_with q b)) j ≡ truth_from false (mid (fact_with q b)) j) e
        (one.earlier j (omega (arith, h, place)))

    bounded-here : (a : List Value) → r ≡ a → AreBefore (at + 1) (mid (fact_with q a)) → AreBefore (at + 1) (new (fact_with q a))
    bounded-here a e = subst (λ (b : List Value). AreBefore (at + 1) (mid (fact_with q b)) → AreBefore (at + 1) (new (fact_with q b))) e
        (subst (λ (n : ℕ). AreBefore (n + 1) (mid (fact_with q r)) → AreBefore (n + 1) (new (fact_with q r))) place one.bounded)

    told-here : (a : List Value) → r ≡ a → AreBefore (at + 1) (mid (fact_with q a)) → truth_from false (new (fact_with q a)) at ≡ is a
    told-here a e = subst (λ (b : List Value). AreBefore (at + 1) (mid (fact_with q b)) → truth_from false (new (fact_with q b)) at ≡ is b)
        e
        (subst (λ (n : ℕ). AreBefore (n + 1) (mid (fact_with q r)) → truth_from false (new (fact_with q r)) n ≡ is r) place
        (λ h. one.there h ∙ truth))

    pub noted-more : AreNoted q at is more old new
    noted-more = record {
      earlier = λ a j h. elim (this-or-other a) [
        | inl e ↦ earlier-here a e j h ∙ p.earlier a j h
        | inr e ↦ ap (λ (cs : List Change). truth_from false cs j) e ∙ p.earlier a j h
      ];
      bounded = λ a h. elim (this-or-other a) [
        | inl e ↦ bounded-here a e (p.bounded a h)
        | inr e ↦ subst (AreBefore (at + 1)) (sym e) (p.bounded a h)
      ];
      told = λ a h m. elim (this-or-other a) [
        | inl e ↦ told-here a e (p.bounded a h)
        | inr f ↦ elim ((split a).0 m) [
          | inl k ↦ ap (λ (cs : List Change). truth_from false cs at) f ∙ p.told a h k
          | inr e ↦ told-here a e (p.bounded a h)
        ]
      ];
      others = λ a h. elim (this-or-other a) [
        | inl e ↦ absurd (h ((split a).1 (inr e)))
        | inr e ↦ e ∙ p.others a (λ k. h ((split a).1 (inl k)))
      ];
    }

-- ---- the first world

module _ (q : ℕ) (w : World) (old new : Fact → List Change) where
  pub first-none : ((a : List Value) → has_fact w (q, a) ≡ false) → TellsNext q 0 (λ a. false) w old old
  first-none none = record {
    earlier = λ a j h. refl;
    bounded = λ a h. h;
    told = λ a h was. was ∙ sym (none a);
  }

  pub first-told : (rows : List (List Value)) → ((a : List Value) → Among a rows ↔ (has_fact w (q, a) ≡ true)) →
      AreNoted q 0 (λ a. true) (λ a. Among a rows) old new → TellsNext q 0 (λ a. false) w old new
  first-told rows are p = record {
    earlier = p.earlier;
    bounded = p.bounded;
    told = λ a h was. by a h was (has_fact w (q, a)) refl;
  }
    where
      by : (a : List Value) → AreBefore 1 (old (fact_with q a)) → truth_from false (old (fact_with q a)) 0 ≡ false → (b : Bool) →
          has_fact w (q, a) ≡ b → truth_from false (new (fact_with q a)) 0 ≡ has_fact w (q, a)
      by a h was true is = p.told a h ((are a).1 is) ∙ sym is
      by a h was false is = ap (λ (cs : List Change). truth_from false cs 0) (p.others a (λ m. true≢false (sym ((are a).0 m) ∙ is))) ∙
          (was ∙ sym is)

-- ---- the world that changes make

pub fact-after : (v : World) (c : Changes) (k : Key) → has_fact (world_after v c) k ≡
    (lists_fact c.adds k || (not (lists_fact c.dels k) && has_fact v k))
unfolding world_after
fact-after v c k = contains-all _ c.adds k ∙ ap (λ b. lists_fact c.adds k || b) (contains-without v.facts c.dels k)

pub listed-among : (q : ℕ) (a : List Value) (fs : List Fact) → lists_fact fs (q, a) ≡ true → Among (fact_with q a) fs
listed-among q a [] h = absurd (true≢false (sym h))
listed-among q a (f ∷ fs) h =
    (elim (eq_by_cmp key_cmp (q, a) (fact_key f)) as (λ b. eq_by_cmp key_cmp (q, a) (fact_key f) ≡ b → (b || lists_fact fs (q, a)) ≡ true →
    Among (fact_with q a) (f ∷ fs)) [
      | true ↦ λ e _. inl (same (key-is (q, a) (fact_key f) e))
      | false ↦ λ e t. inr (listed-among q a fs t)
    ]) refl h
  where
    same : (q, a) ≡ fact_key f → f ≡ fact_with q a
    same e = λ i. record { pred = (sym e i).0; args = (sym e i).1 }

key-itself : (q k : Key) → q ≡ k → eq_by_cmp key_cmp q k ≡ true
key-itself q k e = (Equal-is (key_cmp q k)).1 (ap (key_cmp q) (sym e) ∙ tied_itself key_total q)

pub among-listed : (q : ℕ) (a : List Value) (fs : List Fact) → lists_fact fs (q, a) ≡ false → Among (fact_with q a) fs → ⊥
among-listed q a [] h m = m
among-listed q a (f ∷ fs) h m = elim m [
  | inl e ↦ true≢false (sym (ap (λ (b : Bool). b || lists_fact fs (q, a)) (key-itself (q, a) (fact_key f) (ap fact_key (sym e)))) ∙ h)
  | inr n ↦ among-listed q a fs (later (eq_by_cmp key_cmp (q, a) (fact_key f)) h) n
]
  where
    later : (a : Bool) {b : Bool} → (a || b) ≡ false → b ≡ false
    later true h = absurd (true≢false h)
    later false h = h

-- the deleted facts are noted, and then the added ones
module _ (q at : ℕ) (v : World) (c : Changes) (old mid new : Fact → List Change)
    (d : AreNoted q at (λ a. has_fact (world_after v c) (q, a)) (λ a. Among (fact_with q a) c.dels) old mid)
    (p : AreNoted q at (λ a. has_fact (world_after v c) (q, a)) (λ a. Among (fact_with q a) c.adds) mid new) where
  is : (a : List Value) (b e : Bool) → lists_fact c.adds (q, a) ≡ b → lists_fact c.dels (q, a) ≡ e → has_fact (world_after v c) (q, a) ≡
      (b || (not e && has_fact v (q, a)))
  is a b e f g = fact-after v c (q, a) ∙ (λ i. f i || (not (g i) && has_fact v (q, a)))

  by : (a : List Value) → AreBefore (at + 1) (old (fact_with q a)) → truth_from false (old (fact_with q a)) at ≡ has_fact v (q, a) →
      (b e : Bool) → lists_fact c.adds (q, a) ≡ b → lists_fact c.dels (q, a) ≡ e → truth_from false (new (fact_with q a)) at ≡
      has_fact (world_after v c) (q, a)
  by a h was true e f g = p.told a (d.bounded a h) (listed-among q a c.adds f)
  by a h was false true f g = ap (λ (cs : List Change). truth_from false cs at) (p.others a (among-listed q a c.adds f)) ∙
      d.told a h (listed-among q a c.dels g)
  by a h was false false f g =
      ap (λ (cs : List Change). truth_from false cs at) (p.others a (among-listed q a c.adds f) ∙ d.others a (among-listed q a c.dels g))
      ∙ (was ∙ sym (is a false false f g))

  pub next-told : TellsNext q at (λ a. has_fact v (q, a)) (world_after v c) old new
  next-told = record {
    earlier = λ a j h. p.earlier a j h ∙ d.earlier a j h;
    bounded = λ a h. p.bounded a (d.bounded a h);
    told = λ a h was. by a h was (lists_fact c.adds (q, a)) (lists_fact c.dels (q, a)) refl refl;
  }
