-- The arguments of a place and then its value, in a row of nine.
use Rattle.std.proofs.Common.{◌≡◌, ◌<◌, ◌≤◌, ◌-◌, ◌+◌, ℕ, zero, suc, List, [], ◌∷◌, ◌++◌, length, length-append, take, drop, refl, sym, ap}
use Rattle.std.proofs.Common.{◌∙◌, subst, arith, false, true, true≢false, Option, ◌&&◌}
use Rattle.tl_syntax.specs.declared.value.Value.{Value}
use Rattle.tl_syntax.specs.Lists.{Each}
use Rattle.tl_syntax.proofs.Plain.{both}
use Rattle.tl_rows.specs.declared.table.PlaceRow.{PlaceRow}
use Rattle.tl_match.specs.declared.pattern.Match.{Match}
use Rattle.tl_match.specs.declared.pattern.Part.{Part}
use Rattle.tl_match.specs.Fits.{fits_at, fits_all, IsMatch}
use Rattle.tl_rows.specs.Tables.{whole_row}
use Rattle.tl_match.proofs.Matching.{never-short, fits-lengths}

abbrev nine : Value → List Value
nine v = v ∷ v ∷ v ∷ v ∷ v ∷ v ∷ v ∷ v ∷ v ∷ []

one-of : (v : Value) (xs : List Value) (n : ℕ) → Each (λ x. x ≡ v) xs → n < length xs → take 1 (drop n xs) ≡ v ∷ []
one-of v [] n e p = absurd (omega arith)
one-of v (x ∷ xs) zero e p = ap (λ y. y ∷ []) e.0
one-of v (x ∷ xs) (suc n) e p = one-of v xs n e.1 (omega arith)

take-past : (us ws : List Value) → take (length us + 1) (us ++ ws) ≡ us ++ take 1 ws
take-past [] ws = refl
take-past (a ∷ us) ws =
    let e : suc (length us) + 1 ≡ suc (length us + 1) = omega arith in
    ap (λ n. take n (a ∷ (us ++ ws))) e ∙ ap (λ xs. a ∷ xs) (take-past us ws)

in-nine : (v : Value) (us ws : List Value) → length us < 9 → ws ≡ us → take (length us + 1) (ws ++ drop (length us) (nine v)) ≡ us ++ v ∷ []
in-nine v us ws p e =
    ap (λ xs. take (length us + 1) (xs ++ drop (length us) (nine v))) e
    ∙ (take-past us (drop (length us) (nine v)) ∙ ap (λ xs. us ++ xs) (one-of v (nine v) (length us)
    (refl, (refl, (refl, (refl, (refl, (refl, (refl, (refl, (refl, tt))))))))) p))

-- the row that the code makes is the place's
pub match-nine : (parts : List Part) (row : PlaceRow) (k : ℕ) (us ws : List Value) (found : Option Match) → us ≡ row.args → length us < 9 →
    ws ≡ us → IsMatch parts (take (length us + 1) (ws ++ drop (length us) (nine row.value))) k found → IsMatch parts (whole_row row) k found
match-nine parts row k us ws found is p e h = subst (λ vs. IsMatch parts vs k found)
    (in-nine row.value us ws p e ∙ ap (λ xs. xs ++ row.value ∷ []) is) h

-- no tuple makes at most nine parts a row of ten and more
pub never-long : (parts : List Part) (row : PlaceRow) (us : List Value) (t : List Value) → us ≡ row.args → 9 ≤ length us →
    length parts ≤ 9 → fits_all parts (whole_row row) t ≡ false
never-long parts row us t is p short =
    let e : length us ≡ length row.args = ap length is in
    let l : length (whole_row row) ≡ length row.args + 1 = length-append row.args (row.value ∷ []) in
    never-short parts (whole_row row) t (λ same. let d : ⊥ = omega arith in d)

-- what makes the parts the arguments and the value makes all parts but the last the arguments
pub leading-fits : (parts : List Part) (row : PlaceRow) (t : List Value) → fits_all parts (whole_row row) t ≡ true →
    fits_all (take (length parts - 1) parts) row.args t ≡ true
leading-fits parts row t h = leads parts row.args row.value t h
  where
    leads : (ps : List Part) (us : List Value) (v : Value) (t : List Value) → fits_all ps (us ++ v ∷ []) t ≡ true →
        fits_all (take (length ps - 1) ps) us t ≡ true
    leads [] us v t h = absurd (short us h)
      where
        short : (us : List Value) → fits_all [] (us ++ v ∷ []) t ≡ true → ⊥
        short [] h = true≢false (sym h)
        short (a ∷ us) h = true≢false (sym h)
    leads (p ∷ []) [] v t h = refl
    leads (p ∷ []) (a ∷ us) v t h = let e : 1 ≡ suc (length (us ++ v ∷ [])) = fits-lengths (p ∷ []) ((a ∷ us) ++ v ∷ []) t h in
        let l : length (us ++ v ∷ []) ≡ length us + 1 = length-append us (v ∷ []) in absurd (omega arith)
    leads (p ∷ q ∷ ps) [] v t h = let e : suc (suc (length ps)) ≡ 1 = fits-lengths (p ∷ q ∷ ps) (v ∷ []) t h in absurd (omega arith)
    leads (p ∷ q ∷ ps) (a ∷ us) v t h =
        let both_parts = both (fits_at p a t) (fits_all (q ∷ ps) (us ++ v ∷ []) t) h in
        let n : length (p ∷ q ∷ ps) - 1 ≡ suc (length (q ∷ ps) - 1) = omega arith in
        subst (λ m. fits_all (take m (p ∷ q ∷ ps)) (a ∷ us) t ≡ true) (sym n)
        (ap (λ b. b && fits_all (take (length (q ∷ ps) - 1) (q ∷ ps)) us t) both_parts.0 ∙ leads (q ∷ ps) us v t both_parts.1)
