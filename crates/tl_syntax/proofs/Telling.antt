-- What follows of tests that hold exactly where the two are the same.
use Rattle.std.specs.Prelude.{◌≡◌, Bool, true, false, refl}
use Rattle.std.specs.Bool.{Decides}
use Rattle.std.specs.Cmp.{IsTotalOrder, IsEquivalence, IsPartialEquivalence, tied_itself, partial_equiv_from_equiv}
use Rattle.std.specs.FinSet as set
use Rattle.std.specs.Ordering.{eq_by_cmp, is_eq}
use Rattle.std.proofs.Common.{sym, ap, subst, true≢false, Ordering, Less, Equal, Greater}
use Rattle.tl_syntax.proofs.Plain.{Tells}

-- what ties is equal
tied : (r : Ordering) → is_eq r ≡ true → r ≡ Equal
tied Less h = absurd (true≢false (sym h))
tied Equal h = refl
tied Greater h = absurd (true≢false (sym h))

-- an order in which only the same ones tie tells the same
pub order-tells : {K : Type 0} {R : K → K → Ordering} → IsTotalOrder R → set.IsAntisymmetric R → Tells (eq_by_cmp R)
order-tells {R = R} o same x y = (λ h. same x y (tied _ h), λ e. subst (λ z. eq_by_cmp R x z ≡ true) e (ap is_eq (tied_itself o x)))

-- two tests of one claim answer alike
pub told_alike : {P : Type 0} (a b : Bool) → Decides a P → Decides b P → a ≡ b
told_alike true b d e = sym (e.1 (d.0 refl))
told_alike false true d e = d.1 (e.0 refl)
told_alike false false d e = refl

-- such a test is an equivalence
pub tells-equivalence : {A : Type 0} (e : A → A → Bool) → Tells e → IsEquivalence e
tells-equivalence e t = record {
  refl = λ x. (t x x).1 refl;
  symm = λ x y. told_alike (e x y) (e y x) (t x y) (λ h. sym ((t y x).0 h), λ p. (t y x).1 (sym p));
  congr = λ x y z h. ap (λ u. e u z) ((t x y).0 h);
}

-- and a partial one
pub tells-partial : {A : Type 0} (e : A → A → Bool) → Tells e → IsPartialEquivalence e
tells-partial e t = partial_equiv_from_equiv (tells-equivalence e t)
