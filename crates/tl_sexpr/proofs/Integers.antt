-- The text of an integer, as `parse` reads it and as the spelling says it.
use Rattle.std.proofs.Common.{◌≡◌, ℕ, Bool, true, false, eqb, nat_lt, List, [], ◌∷◌, length, ℤ, FitsSigned, inl, inr, refl, sym, ◌∙◌, subst}
use Rattle.std.proofs.Common.{arith, w64, ltb-true, ne_eqb, lt-ltb, ◌&&◌, ◌==◌}
use Rattle.std.proofs.lemmas.Bool.{cases_Bool, and_parts, false≢true, eqb-false}
use Rattle.std.proofs.lemmas.List.Recursion.{same_from_clauses}
use Rattle.std.specs.Char.{is_ascii_digit}
use Rattle.std.specs.List.{list_all}
use Rattle.std.proofs.lemmas.Str.Parse.{IsNumeralModel, numerals_by_value, tells_all_ascii_digits}
use Rattle.std.specs.Str.{all_ascii_digits}
use Rattle.std.specs.Str.Parse.{digits_value, signed_digits_value, without_leading_sign, IsNumeral}
use Rattle.tl_sexpr.specs.Spelling.{is_numeral, spells_integer, integer_value}
use Rattle.tl_sexpr.specs.Faults.{IsTooBig}
use Rattle.tl_sexpr.specs.Reading.{IsTokenForm}
use Rattle.tl_sexpr.specs.Tree.{integer}

own : IsNumeralModel (λ ds. all_ascii_digits ds ≡ true) (digits_value 10)
own = numerals_by_value (λ ds. all_ascii_digits ds ≡ true) tells_all_ascii_digits

numeral : (ds : List ℕ) → is_numeral ds ≡ true → IsNumeral 10 ds
numeral ds h = let p = and_parts (all_ascii_digits ds) (nat_lt 0 (length ds)) h in (ltb-true 0 (length ds) p.1, own.to ds p.0)

abbrev ReadsAsSpelled : List ℕ → Type 0
ReadsAsSpelled text = IsNumeral 10 (without_leading_sign text) × (signed_digits_value 10 text ≡ integer_value text)

with_minus : (c : ℕ) (cs : List ℕ) → eqb c 45 ≡ true → spells_integer (c ∷ cs) ≡ true → ReadsAsSpelled (c ∷ cs)
with_minus c cs e h = rw e (numeral cs (rw e at h), refl)

no_plus : (c : ℕ) (cs : List ℕ) → is_numeral (c ∷ cs) ≡ true → eqb c 43 ≡ false
no_plus c cs h = ne_eqb c 43 (λ e. false≢true (rw e at h))

without_minus : (c : ℕ) (cs : List ℕ) → eqb c 45 ≡ false → spells_integer (c ∷ cs) ≡ true → ReadsAsSpelled (c ∷ cs)
without_minus c cs e h =
    let n : is_numeral (c ∷ cs) ≡ true = rw e at h in
    rw (e, no_plus c cs n) (numeral (c ∷ cs) n, refl)

-- the text of an integer is read as the spelling says
pub reads_as_spelled : (text : List ℕ) → spells_integer text ≡ true → ReadsAsSpelled text
reads_as_spelled [] h = absurd (false≢true h)
reads_as_spelled (c ∷ cs) h = elim (cases_Bool (eqb c 45)) [ inl e ↦ with_minus c cs e h | inr e ↦ without_minus c cs e h ]

-- what `parse` asks of a text
abbrev pub IsReadable : List ℕ → Type 0
IsReadable text = IsNumeral 10 (without_leading_sign text) × FitsSigned w64 (signed_digits_value 10 text)

-- the form of an integer that was read
pub integer_form : (text : List ℕ) (at : ℕ) (z : ℤ) → spells_integer text ≡ true → IsReadable text × (z ≡ signed_digits_value 10 text) →
    IsTokenForm text at (integer z at)
integer_form text at z h p =
    let same = (reads_as_spelled text h).1 in
    (refl, h, p.1 ∙ same, subst (λ (n : ℤ). FitsSigned w64 n) (sym p.1) p.0.1)

-- an integer that was not read is too large
pub integer_too_large : (text : List ℕ) → spells_integer text ≡ true → ¬ IsReadable text → IsTooBig text
integer_too_large text h p =
    let r = reads_as_spelled text h in
    record {
      whole_number = h;
      too_big = λ fits. p (r.0, subst (λ (n : ℤ). FitsSigned w64 n) (sym r.1) fits);
    }

and_true : (b : Bool) → b ≡ (b && true)
and_true true = refl
and_true false = refl

-- the test of each byte and the test that there is one
pub numeral_by_test : (text : List ℕ) (r : Bool) → r ≡ list_all is_ascii_digit text → (length text == 0) ≡ false → r ≡ is_numeral text
numeral_by_test text r all not_empty =
    let apart = eqb-false (length text) 0 not_empty in
    let some : nat_lt 0 (length text) ≡ true = lt-ltb 0 (length text) (omega arith) in
    let same : list_all is_ascii_digit text ≡ all_ascii_digits text = same_from_clauses (list_all is_ascii_digit) all_ascii_digits
    (λ x r. is_ascii_digit x && r) refl (λ _ _. refl) (λ _ _. refl) text in
    rw some (all ∙ (same ∙ and_true (all_ascii_digits text)))
