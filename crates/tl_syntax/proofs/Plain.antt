-- The derived tests of values and facts hold exactly where the two are the same.
use Rattle.std.proofs.Common.{◌≡◌, ℕ, ℤ, Equal, Bool, true, false, true≢false, [], ◌∷◌, ap, ap₂, sym, refl, subst, nat_eq, ◌&&◌, eqb-true}
use Rattle.std.proofs.Common.{eq-eqb, Decides}
use Rattle.std.proofs.lemmas.Bool.Decides.{same_from_decides}
use Rattle.std.specs.Cmp.{signed_Decides, Equal-is, tied_itself}
use Rattle.std.specs.Cmp.Lexicographic.{pointwise}
use Rattle.std.specs.Ordering.{eq_by_cmp}
use Rattle.tl_syntax.specs.declared.value.Value.TheVariants.{Int, Sym}
use Rattle.tl_syntax.specs.declared.fact.Fact.{Fact}
use Rattle.tl_syntax.specs.contracts.value.ValuePartialEq.TheImpl as value_impl
use Rattle.tl_syntax.specs.DerivedTests.{fact_eq}
use Rattle.tl_syntax.specs.Keys.{Key, key_cmp}
use Rattle.tl_syntax.proofs.TotalOrders.{key_total, key_ties}

-- the test holds exactly where the two are the same
abbrev pub Tells : {A : Type 0} → (A → A → Bool) → Type 0
Tells {A} e = (x y : A) → Decides (e x y) (x ≡ y)

pub both : (a b : Bool) → (a && b) ≡ true → (a ≡ true) × (b ≡ true)
both true b h = (refl, h)
both false b h = absurd (true≢false (sym h))

pub with_both : {a b : Bool} → a ≡ true → b ≡ true → (a && b) ≡ true
with_both {a} {b} h k = subst (λ c. (c && b) ≡ true) (sym h) k

pub list-tells : {A : Type 0} (e : A → A → Bool) → Tells e → Tells (pointwise e)
list-tells e t [] [] = (λ _. refl, λ _. refl)
list-tells e t (x ∷ xs) (y ∷ ys) = (
  λ h. let k = both (e x y) (pointwise e xs ys) h in ap₂ ◌∷◌ ((t x y).0 k.0) ((list-tells e t xs ys).0 k.1),
  λ h. let p : x ≡ y = cc in let q : xs ≡ ys = cc in with_both ((t x y).1 p) ((list-tells e t xs ys).1 q),
)
list-tells e t xs ys = (λ h. absurd (true≢false (sym h)), λ e. absurd (let k : ⊥ = cc in k))

pub value-tells : Tells (value_impl.ghosts).eq
value-tells (Int m) (Int n) = (λ h. ap (λ (k : ℤ). Int k) ((signed_Decides m n).0 h), λ e. (signed_Decides m n).1 (let k : m ≡ n = cc in k))
value-tells (Sym m) (Sym n) = (λ h. ap (λ (k : ℕ). Sym k) (eqb-true m n h), λ e. eq-eqb m n (let k : m ≡ n = cc in k))
value-tells u v = (λ h. absurd (true≢false (sym h)), λ e. absurd (let k : ⊥ = cc in k))

pub fact-tells : Tells fact_eq
fact-tells f g = (
  λ h. let k = both (nat_eq f.pred g.pred) (pointwise (value_impl.ghosts).eq f.args g.args) h in
      let p = eqb-true f.pred g.pred k.0 in let q = (list-tells (value_impl.ghosts).eq value-tells f.args g.args).0 k.1 in
      λ i. record { pred = p i; args = q i },
  λ e. with_both (eq-eqb f.pred g.pred (ap (λ (x : Fact). x.pred) e)) ((list-tells (value_impl.ghosts).eq value-tells f.args g.args).1
      (ap (λ (x : Fact). x.args) e)),
)

key-tells : (j k : Key) → Decides (eq_by_cmp key_cmp j k) (j ≡ k)
key-tells j k = (
  λ h. key_ties j k ((Equal-is (key_cmp j k)).0 h),
  λ e. (Equal-is (key_cmp j k)).1 (subst (λ (x : Key). key_cmp j x ≡ Equal) e (tied_itself key_total j)),
)

-- the derived test of two facts is the one by the order of keys
pub fact_eq-key : (f g : Fact) → fact_eq f g ≡ eq_by_cmp key_cmp (g.pred, g.args) (f.pred, f.args)
fact_eq-key f g =
    same_from_decides _ _ (fact-tells f g) (
      λ h. let e = (key-tells (g.pred, g.args) (f.pred, f.args)).0 h in λ i. record { pred = (sym e i).0; args = (sym e i).1 },
      λ e. (key-tells (g.pred, g.args) (f.pred, f.args)).1 (λ i. ((sym e i).pred, (sym e i).args)),
    )
