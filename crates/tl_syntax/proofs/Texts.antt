-- Facts on numbered texts.
use Rattle.std.proofs.Common.{◌≡◌, ◌<◌, ◌≤◌, ◌⊎◌, inl, inr, ◌^◌, ◌-◌, ℕ, Bool, true, false, cond, not, List, [], ◌∷◌, ◌++◌, length}
use Rattle.std.proofs.Common.{length-append, Option, Some, None, refl, sym, ap, ◌∙◌, subst, arith, get_or}
use Rattle.std.specs.HashMap as hash
use Rattle.std.specs.HashMap.{HashMap}
use Rattle.std.specs.List.{list_any, position, slice_get, position_or_len}
use Rattle.std.specs.Map.{lookup, KeepsOthers, IsKeyTest, AreApart}
use Rattle.std.specs.Str.{bytes_eq}
use Rattle.std.proofs.lemmas.Grind.{common_steps}
use Rattle.std.proofs.lemmas.Option.{slice_get-get_or, gets}
use Rattle.std.proofs.lemmas.List.Quantifiers.{position-Some}
use Rattle.std.proofs.lemmas.List.Folds.{list_any_at, list_any_none, position_or_len_push}
use Rattle.std.proofs.lemmas.List.Sums.{fails_before_first, prefix_len-le-length}
use Rattle.std.proofs.lemmas.Bool.{false≢true, cond-true, cond-false}
use Rattle.std.proofs.lemmas.Bool.Decides.{nat_tests}
use Rattle.std.proofs.lemmas.Map.Keys.{any_passes_from_place}
use Rattle.std.specs.Cmp.Lexicographic.{nat_list_eq_equiv}
use Rattle.std.proofs.lemmas.Slice.Eq.{bytes_eq-Decides}
use Rattle.tl_syntax.specs.Texts.{with_text, number_of, AreDistinct, IsNumbered}

-- the text that has a number stands at that place
pub number_of-Some : (names : List (List ℕ)) (text : List ℕ) (n : ℕ) → number_of names text ≡ Some n → slice_get names n ≡ Some text
number_of-Some names text n found =
    let at = position-Some (bytes_eq text) names n [] found in
    slice_get-get_or names n [] at.0 ∙ ap (λ (t : List ℕ). Some t) (sym ((bytes_eq-Decides text (get_or names n [])).0 at.1))

-- a text that has a number is among the texts
pub list_any-from_number : (names : List (List ℕ)) (text : List ℕ) (n : ℕ) → number_of names text ≡ Some n →
    list_any (bytes_eq text) names ≡ true
list_any-from_number names text n found =
    let at = position-Some (bytes_eq text) names n [] found in
    list_any_at (bytes_eq text) names n [] at.0 at.1

-- where no place is the first to pass, all places fail
position_or_len-None : {X : Type 0} (p : X → Bool) (xs : List X) → position p xs ≡ None → length xs ≤ position_or_len p xs
position_or_len-None p xs absent = grind (arith, nat_tests)

-- a text with no number is not among the texts
pub list_any-from_no_number : (names : List (List ℕ)) (text : List ℕ) → number_of names text ≡ None → list_any (bytes_eq text) names ≡ false
list_any-from_no_number names text absent =
    let past = position_or_len-None (bytes_eq text) names absent in
    list_any_none (bytes_eq text) names (λ k d inside. fails_before_first (bytes_eq text) names k d (omega arith))

-- a new text that is put at the end has the next number
pub number_of-pushed : (names : List (List ℕ)) (text : List ℕ) → number_of names text ≡ None → number_of (names ++ text ∷ []) text ≡
    Some (length names)
number_of-pushed names text absent =
    grind (
      arith,
      common_steps,
      nat_tests,
      position_or_len-None (bytes_eq text) names absent,
      position_or_len_push (bytes_eq text) names text,
      prefix_len-le-length (λ t. not (bytes_eq text t)) names,
      nat_list_eq_equiv.refl text,
    )

-- another text keeps its number
number_of-kept : (names : List (List ℕ)) (text q : List ℕ) → bytes_eq q text ≡ false → number_of (names ++ text ∷ []) q ≡ number_of names q
number_of-kept names text q differs =
    grind (arith, common_steps, nat_tests, position_or_len_push (bytes_eq q) names text)

-- the numbers after a new text is put at the end
pub number_of-push : (names : List (List ℕ)) (text q : List ℕ) → number_of names text ≡ None → number_of (names ++ text ∷ []) q ≡
    cond (bytes_eq text q) (Some (length names)) (number_of names q)
number_of-push names text q absent = by_test (bytes_eq text q) refl
  where
    by_test : (b : Bool) → bytes_eq text q ≡ b → number_of (names ++ text ∷ []) q ≡ cond b (Some (length names)) (number_of names q)
    by_test true same = subst (λ (t : List ℕ). number_of (names ++ text ∷ []) t ≡ Some (length names)) ((bytes_eq-Decides text q).0 same)
        (number_of-pushed names text absent)
    by_test false differs = number_of-kept names text q (nat_list_eq_equiv.symm q text ∙ differs)

-- a place after a new text is put at the end
place_cases : (names : List (List ℕ)) (text t : List ℕ) (i : ℕ) → slice_get (names ++ text ∷ []) i ≡ Some t → (slice_get names i ≡ Some t) ⊎
    ((i ≡ length names) × (t ≡ text))
place_cases names text t i at = grind (arith, common_steps, gets)

-- a text with no number stands at no place
no_place : (names : List (List ℕ)) (text t : List ℕ) (i : ℕ) → number_of names text ≡ None → slice_get names i ≡ Some t → t ≡ text → ⊥
no_place names text t i absent at same =
    false≢true (sym (list_any-from_no_number names text absent) ∙ any_passes_from_place (bytes_eq text) names i t at
    ((bytes_eq-Decides text t).1 (sym same)))

-- texts that differ, after a new one is put at the end
pub AreDistinct-push : (names : List (List ℕ)) (text : List ℕ) → AreDistinct names → number_of names text ≡ None →
    AreDistinct (names ++ text ∷ [])
AreDistinct-push names text distinct absent = λ i j t at_i at_j.
    elim (place_cases names text t i at_i) [
      | inl here ↦ elim (place_cases names text t j at_j) [
        | inl there ↦ distinct i j t here there
        | inr there ↦ absurd (no_place names text t i absent here there.1)
      ]
      | inr here ↦ elim (place_cases names text t j at_j) [
        | inl there ↦ absurd (no_place names text t j absent there here.1)
        | inr there ↦ here.0 ∙ sym there.0
      ]
    ]

-- the test by which a text is looked up among keys, whose bytes `bytes` gives
abbrev pub is_text : {K : Type 0} → (K → List ℕ) → List ℕ → K → Bool
is_text bytes text key = bytes_eq text (bytes key)

-- the numbers of a map whose keys are texts
abbrev pub mapped_number : {K S : Type 0} → (K → List ℕ) → HashMap K ℕ S → List ℕ → Option ℕ
mapped_number bytes numbers text = hash.get_by (is_text bytes text) numbers

-- `KeepsOthers`, opened
other_entries : {K X : Type 0} (eq : K → K → Bool) (test other : K → Bool) (old new : List (K × X)) → KeepsOthers eq test old new →
    IsKeyTest eq other → AreApart test other → lookup other new ≡ lookup other old
unfolding KeepsOthers
other_entries eq test other old new keeps = keeps other

-- after a change at one text, a map gives every other text its old number
pub mapped_number-updated : {K S : Type 0} (bytes : K → List ℕ) (text : List ℕ) (old new : HashMap K ℕ S) (n : ℕ)
    → hash.UpdatesBy (λ x y. bytes_eq (bytes x) (bytes y)) (is_text bytes text) old new (Some n)
    → (q : List ℕ) → mapped_number bytes new q ≡ cond (bytes_eq text q) (Some n) (mapped_number bytes old q)
mapped_number-updated {K} bytes text old new n updates q = by_test (bytes_eq text q) refl
  where
    apart : bytes_eq text q ≡ false → (key : K) → bytes_eq text (bytes key) ≡ true → bytes_eq q (bytes key) ≡ false
    apart differs key same = nat_list_eq_equiv.symm q (bytes key) ∙ sym (nat_list_eq_equiv.congr text (bytes key) q same) ∙ differs

    by_test : (b : Bool) → bytes_eq text q ≡ b → mapped_number bytes new q ≡ cond b (Some n) (mapped_number bytes old q)
    by_test true same = subst (λ (t : List ℕ). mapped_number bytes new t ≡ Some n) ((bytes_eq-Decides text q).0 same) updates.1
    by_test false differs =
        other_entries _ _ _ old.entries new.entries updates.3 (λ x y. nat_list_eq_equiv.congr q (bytes x) (bytes y)) (apart differs)

-- a text that has a number stands in the list already
pub with_text-known : (names : List (List ℕ)) (text : List ℕ) (n : ℕ) → number_of names text ≡ Some n → with_text names text ≡ names
with_text-known names text n found = cond-true _ _ _ (list_any-from_number names text n found)

-- a text with no number goes to the end
pub with_text-new : (names : List (List ℕ)) (text : List ℕ) → number_of names text ≡ None → with_text names text ≡ names ++ text ∷ []
with_text-new names text absent = cond-false _ _ _ (list_any-from_no_number names text absent)

-- a text that is put at the end stands there
pub slice_get-pushed : (names : List (List ℕ)) (text : List ℕ) (n : ℕ) → n ≡ length names → slice_get (names ++ text ∷ []) n ≡ Some text
slice_get-pushed names text n last = grind (arith, common_steps, gets)

-- the texts before it keep their places
pub slice_get-before : (names : List (List ℕ)) (text : List ℕ) (n : ℕ) → n < length names → slice_get (names ++ text ∷ []) n ≡
    slice_get names n
slice_get-before names text n before = grind (arith, common_steps, gets)

-- where no text stands at two places, the text at a place has that number
pub number_of-at_place : (names : List (List ℕ)) (text : List ℕ) (n : ℕ) → AreDistinct names → slice_get names n ≡ Some text →
    number_of names text ≡ Some n
number_of-at_place names text n distinct at = by_answer (number_of names text) refl
  where
    by_answer : (answer : Option ℕ) → number_of names text ≡ answer → answer ≡ Some n
    by_answer None absent = absurd (no_place names text text n absent at refl)
    by_answer (Some m) found = ap (λ (k : ℕ). Some k) (distinct m n text (number_of-Some names text m found) at)

-- the table after a new text gets the next number
pub IsNumbered-push : {K S : Type 0} (bytes : K → List ℕ) (names : List (List ℕ)) (text : List ℕ) (old new : HashMap K ℕ S) (n : ℕ)
    → IsNumbered names (mapped_number bytes old) → number_of names text ≡ None → length names < 2 ^ 32 - 1 → n ≡ length names
    → hash.UpdatesBy (λ x y. bytes_eq (bytes x) (bytes y)) (is_text bytes text) old new (Some n)
    → IsNumbered (names ++ text ∷ []) (mapped_number bytes new)
IsNumbered-push bytes names text old new n table absent room next updates = record {
  numbered = λ q. mapped_number-updated bytes text old new n updates q ∙
      ap (λ (m : ℕ). cond (bytes_eq text q) (Some m) (mapped_number bytes old q)) next ∙
      ap (cond (bytes_eq text q) (Some (length names))) (table.numbered q) ∙ sym (number_of-push names text q absent);
  distinct = AreDistinct-push names text table.distinct absent;
  few = rw length-append (omega arith);
}
