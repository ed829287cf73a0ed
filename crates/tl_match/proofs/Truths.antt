-- A pattern is true where its parts are one of the rows.
use Rattle.std.proofs.Common.{◌≡◌, ◌↔◌, ◌<◌, ◌≤◌, ◌-◌, ℕ, suc, List, [], ◌∷◌, ◌++◌, length, take, map, Bool, true, false, ◌||◌, true≢false}
use Rattle.std.proofs.Common.{eqb-true, eq-eqb, Option, Some, None, refl, sym, ap, ◌∙◌, subst, inl, inr, arith}
use Rattle.std.proofs.lemmas.List.{length-map}
use Rattle.std.proofs.lemmas.Bool.Decides.{same_from_decides}
use Rattle.std.specs.Prelude.{slice_get}
use Rattle.std.specs.Cmp.{Equal-is, tied_itself}
use Rattle.tl_syntax.specs.declared.value.Value.{Value}
use Rattle.tl_syntax.specs.Keys.{value_cmp}
use Rattle.tl_syntax.proofs.TotalOrders.{value_total, value_ties}
use Rattle.tl_syntax.specs.Lists.{Among}
use Rattle.tl_syntax.proofs.ListLaws.{iff-trans}
use Rattle.tl_terms.specs.World.{World, has_fact, value_at}
use Rattle.tl_terms.specs.Bounds.{same_value}
use Rattle.tl_match.specs.declared.pattern.Part.{Part}
use Rattle.tl_match.specs.declared.pattern.Part.TheVariants.{Fixed, Free}
use Rattle.tl_rows.specs.declared.table.PlaceRow.{PlaceRow}
use Rattle.tl_rows.specs.Tables.{place_row, whole_row}
use Rattle.tl_match.specs.Fits.{is_free, occurs}
use Rattle.tl_match.specs.Least.{fits_some}
use Rattle.tl_match.specs.Patterns.{fill, filled, is_true_of}
use Rattle.tl_match.proofs.Filled.{some-filled}
use Rattle.tl_rows.proofs.Lookup.{row_total}
use Rattle.tl_rows.proofs.Lent.{row_ties, any-among}

-- the variable is one of the parts
pub occurs-among : (n : ℕ) (ps : List Part) → Among (Free n) ps ↔ (occurs n ps ≡ true)
occurs-among n [] = (λ h. absurd h, λ h. true≢false (sym h))
occurs-among n (p ∷ ps) = (
  λ h. elim h [
    | inl e ↦ subst (λ q. (is_free n q || occurs n ps) ≡ true) (sym e)
        (ap (λ b. b || occurs n ps) (eq-eqb n n refl))
    | inr m ↦ or_right (is_free n p) (occurs n ps) ((occurs-among n ps).0 m)
  ],
  λ h. (elim (is_free n p) as (λ b. is_free n p ≡ b → (b || occurs n ps) ≡ true → Among (Free n) (p ∷ ps)) [
    | true ↦ λ q _. inl (is-free p q)
    | false ↦ λ _ k. inr ((occurs-among n ps).1 k)
  ]) refl h,
)
  where
    or_right : (a b : Bool) → b ≡ true → (a || b) ≡ true
    or_right true b h = refl
    or_right false b h = h

    is-free : (p : Part) → is_free n p ≡ true → p ≡ Free n
    is-free (Fixed v) h = absurd (true≢false (sym h))
    is-free (Free m) h = ap (λ (i : ℕ). Free i) (eqb-true m n h)

-- facts
pub fact-truth : (w : World) (pred : ℕ) (rows : List (List Value)) → ((a : List Value) → Among a rows ↔ (has_fact w (pred, a) ≡ true)) →
    (ps : List Part) (t : List Value) (k : ℕ) → ((n : ℕ) → occurs n ps ≡ true → n < k) → length t ≡ k
    → fits_some ps rows t ≡ is_true_of w false pred (filled ps t)
fact-truth w pred rows facts ps t k slots size =
    some-filled ps rows t k slots size
    ∙ same_from_decides {P = Among (filled ps t) rows} _ _ (
      (any-among row_total row_ties (filled ps t) rows).1,
      (any-among row_total row_ties (filled ps t) rows).0,
    ) ((facts (filled ps t)).1, (facts (filled ps t)).0)

-- a list that is not empty is its front and its last
front-last : (xs : List Value) → 1 ≤ length xs → (v : Value) × ((xs ≡ take (length xs - 1) xs ++ v ∷ []) ×
    (slice_get xs (length xs - 1) ≡ Some v))
front-last [] p = absurd (omega arith)
front-last (x ∷ []) p = (x, (refl, refl))
front-last (x ∷ y ∷ xs) p =
    let r = front-last (y ∷ xs) (omega arith) in
    let n : length (x ∷ y ∷ xs) - 1 ≡ suc (length (y ∷ xs) - 1) = omega arith in (
      r.0,
      (
        ap (λ zs. x ∷ zs) r.1.0 ∙ ap (λ m. take m (x ∷ y ∷ xs) ++ r.0 ∷ []) (sym n),
        ap (slice_get (x ∷ y ∷ xs)) n ∙ r.1.1,
      ),
    )

snoc-same : (a b : List Value) (u v : Value) → a ++ u ∷ [] ≡ b ++ v ∷ [] → (a ≡ b) × (u ≡ v)
snoc-same [] [] u v e = (refl, let h : u ≡ v = cc in h)
snoc-same [] (y ∷ []) u v e = absurd (let h : ⊥ = cc in h)
snoc-same [] (y ∷ z ∷ b) u v e = absurd (let h : ⊥ = cc in h)
snoc-same (x ∷ []) [] u v e = absurd (let h : ⊥ = cc in h)
snoc-same (x ∷ z ∷ a) [] u v e = absurd (let h : ⊥ = cc in h)
snoc-same (x ∷ a) (y ∷ b) u v e =
    let p : x ≡ y = cc in
    let q : a ++ u ∷ [] ≡ b ++ v ∷ [] = cc in
    let r = snoc-same a b u v q in
    (λ i. p i ∷ r.0 i, r.1)

-- a whole row is among the rows where the pair is
whole-among : (a : List Value) (v : Value) (rows : List PlaceRow) → Among (a ++ v ∷ []) (map whole_row rows) ↔
    Among (a, v) (map place_row rows)
whole-among a v [] = (λ h. h, λ h. h)
whole-among a v (r ∷ rows) = (
  λ h. elim h [ inl e ↦ let s = snoc-same r.args a r.value v e in inl (λ i. (s.0 i, s.1 i)) | inr m ↦ inr ((whole-among a v rows).0 m) ],
  λ h. elim h [ inl e ↦ inl (λ i. (e i).0 ++ (e i).1 ∷ []) | inr m ↦ inr ((whole-among a v rows).1 m) ],
)

value-same : (o : Option Value) (v : Value) → (o ≡ Some v) ↔ (same_value o (Some v) ≡ true)
value-same None v = (λ h. absurd (let k : ⊥ = cc in k), λ h. absurd (true≢false (sym h)))
value-same (Some u) v = (
  λ h. let e : u ≡ v = cc in (Equal-is (value_cmp u v)).1 (ap (λ x. value_cmp x v) e ∙ tied_itself value_total v),
  λ h. ap (λ (x : Value). Some x) (value_ties u v ((Equal-is (value_cmp u v)).0 h)),
)

-- places with their values
placed : (w : World) (fun : ℕ) (rows : List PlaceRow) → ((a : List Value) (v : Value) → Among (a, v) (map place_row rows) ↔
    (value_at w (fun, a) ≡ Some v)) → (xs : List Value) → 1 ≤ length xs → Among xs (map whole_row rows) ↔ (is_true_of w true fun xs ≡ true)
placed w fun rows places xs long =
    let last = front-last xs long in
    let args : List Value = take (length xs - 1) xs in
    subst (λ ys. Among ys (map whole_row rows) ↔ (is_true_of w true fun xs ≡ true)) (sym last.1.0)
    (iff-trans (whole-among args last.0 rows) (iff-trans (places args last.0)
    (subst (λ o. (value_at w (fun, args) ≡ Some last.0) ↔ (same_value (value_at w (fun, args)) o ≡ true)) (sym last.1.1)
    (value-same (value_at w (fun, args)) last.0))))

pub place-truth : (w : World) (fun : ℕ) (rows : List PlaceRow) → ((a : List Value) (v : Value) → Among (a, v) (map place_row rows) ↔
    (value_at w (fun, a) ≡ Some v)) → (ps : List Part) (t : List Value) (k : ℕ) → ((n : ℕ) → occurs n ps ≡ true → n < k) → 1 ≤ length ps →
    length t ≡ k
    → fits_some ps (map whole_row rows) t ≡ is_true_of w true fun (filled ps t)
place-truth w fun rows places ps t k slots some size =
    let truth = placed w fun rows places (filled ps t) (subst (λ n. 1 ≤ n) (sym (length-map ps (fill t))) some) in
    some-filled ps (map whole_row rows) t k slots size
    ∙ same_from_decides {P = Among (filled ps t) (map whole_row rows)} _ _ (
      (any-among row_total row_ties (filled ps t) (map whole_row rows)).1,
      (any-among row_total row_ties (filled ps t) (map whole_row rows)).0,
    ) (truth.1, truth.0)
