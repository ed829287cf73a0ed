-- A tuple makes the parts a row just where the filled parts are that row.
use Rattle.std.proofs.Common.{◌≡◌, ℕ, ◌<◌, Bool, true, false, ◌&&◌, ◌||◌, List, [], ◌∷◌, length, refl, sym, ap, ◌∙◌, subst, Ordering, Less}
use Rattle.std.proofs.Common.{Equal, Greater, eq-eqb}
use Rattle.std.specs.List.{list_any}
use Rattle.std.specs.Ordering.{is_eq, ordering_then, eq_by_cmp}
use Rattle.std.proofs.lemmas.Option.{slice_get-get_or}
use Rattle.tl_syntax.specs.declared.value.Value.{Value}
use Rattle.tl_syntax.specs.declared.value.Value.TheVariants.{Sym}
use Rattle.tl_syntax.specs.Keys.{value_cmp}
use Rattle.tl_syntax.proofs.TotalOrders.{value_total, value_ties}
use Rattle.tl_syntax.specs.contracts.value.ValuePartialEq.TheImpl as value_impl
use Rattle.tl_syntax.proofs.Plain.{value-tells}
use Rattle.tl_match.specs.declared.pattern.Part.{Part}
use Rattle.tl_match.specs.declared.pattern.Part.TheVariants.{Fixed, Free}
use Rattle.tl_rows.specs.Plain.{row_cmp}
use Rattle.tl_syntax.proofs.Telling.{told_alike, order-tells}
use Rattle.tl_match.specs.Fits.{is_value, fits_at, fits_all, is_free, occurs}
use Rattle.tl_match.specs.Least.{fits_some}
use Rattle.tl_match.specs.Patterns.{fill, filled}

same-test : (u v : Value) → (value_impl.ghosts).eq u v ≡ eq_by_cmp value_cmp u v
same-test u v = told_alike _ _ (value-tells u v) (order-tells value_total value_ties u v)

fits-fill : (p : Part) (v : Value) (t : List Value) (k : ℕ) → ((n : ℕ) → is_free n p ≡ true → n < k) → length t ≡ k → fits_at p v t ≡
    eq_by_cmp value_cmp (fill t p) v
fits-fill (Fixed u) v t k h size = same-test u v
fits-fill (Free n) v t k h size =
    ap (λ o. is_value o v) (slice_get-get_or t n (Sym 0) (subst (λ m. n < m) (sym size) (h n (eq-eqb n n refl)))) ∙
    same-test (fill t (Free n)) v

both_equal : (o r : Ordering) → is_eq (ordering_then o r) ≡ (is_eq o && is_eq r)
both_equal Less r = refl
both_equal Equal r = refl
both_equal Greater r = refl

or_left : (a b : Bool) → a ≡ true → (a || b) ≡ true
or_left true b h = refl
or_left false b h = absurd (Rattle.std.proofs.Common.true≢false (sym h))

or_right : (a b : Bool) → b ≡ true → (a || b) ≡ true
or_right true b h = refl
or_right false b h = h

fits-filled : (ps : List Part) (vs t : List Value) (k : ℕ) → ((n : ℕ) → occurs n ps ≡ true → n < k) → length t ≡ k → fits_all ps vs t ≡
    eq_by_cmp row_cmp (filled ps t) vs
fits-filled [] [] t k h size = refl
fits-filled [] (v ∷ vs) t k h size = refl
fits-filled (p ∷ ps) [] t k h size = refl
fits-filled (p ∷ ps) (v ∷ vs) t k h size =
    (λ i. fits-fill p v t k (λ n e. h n (or_left (is_free n p) (occurs n ps) e)) size i && fits-filled ps vs t k
    (λ n e. h n (or_right (is_free n p) (occurs n ps) e)) size i)
    ∙ sym (both_equal (value_cmp (fill t p) v) (row_cmp (filled ps t) vs))

pub some-filled : (ps : List Part) (rows : List (List Value)) (t : List Value) (k : ℕ) → ((n : ℕ) → occurs n ps ≡ true → n < k) → length t ≡
    k → fits_some ps rows t ≡ list_any (eq_by_cmp row_cmp (filled ps t)) rows
some-filled ps [] t k h size = refl
some-filled ps (r ∷ rows) t k h size = λ i. fits-filled ps r t k h size i || some-filled ps rows t k h size i
