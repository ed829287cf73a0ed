-- Numbers that are read from words.
use Rattle.std.proofs.Common.{◌≡◌, inl, inr, ℕ, ◌<◌, ◌≤◌, ◌^◌, List, [], ◌∷◌, length, Bool, true, false, Some, None, refl, sym, ap, ◌∙◌}
use Rattle.std.proofs.Common.{arith}
use Rattle.std.specs.Prelude.{Option, Result, Ok, Err, if◌then◌else◌, nat_le, ◌&&◌}
use Rattle.std.specs.Char.{is_ascii_digit}
use Rattle.std.specs.List.{list_all}
use Rattle.std.specs.Result.{OkIff}
use Rattle.std.specs.Str.{all_ascii_digits}
use Rattle.std.specs.Str.Parse.{digits_value, ParsesUnsigned}
use Rattle.std.proofs.lemmas.Bool.{cases_lt}
use Rattle.std.proofs.lemmas.Bool.Decides.{nat_tests}
use Rattle.std.proofs.lemmas.Str.Parse.{numerals_by_value, tells_all_ascii_digits, parse_digits}
use Rattle.tl_run.specs.Searches.{number_between}

pub digits_all : (bs : List ℕ) → list_all is_ascii_digit bs ≡ all_ascii_digits bs
digits_all [] = refl
digits_all (c ∷ cs) = ap (λ (b : Bool). is_ascii_digit c && b) (digits_all cs)

-- a word that has more than digits writes no number
pub no_number : (least most : ℕ) (w : List ℕ) → all_ascii_digits w ≡ false → number_between least most w ≡ None
no_number least most [] e = refl
no_number least most (c ∷ cs) e = λ i. if (e i) && (nat_le least (digits_value 10 (c ∷ cs)) && nat_le (digits_value 10 (c ∷ cs)) most) then
    Some (digits_value 10 (c ∷ cs)) else None

-- the number that was read, if it is within the bounds
abbrev within : {E : Type 0} → ℕ → ℕ → Result ℕ E → Option ℕ
within least most (Ok n) = if nat_le least n && nat_le n most then Some n else None
within least most (Err e) = None

too_large : (most v : ℕ) → most < v → nat_le v most ≡ false
too_large most v h = grind (arith, nat_tests)

and_false : (b : Bool) → b && false ≡ false
and_false true = refl
and_false false = refl

number_is : {E : Type 0} (least most : ℕ) (w : List ℕ) (r : Result ℕ E) → most < 2 ^ 32 → all_ascii_digits w ≡ true →
    OkIff r ((0 < length w) × (digits_value 10 w < 2 ^ 32)) (digits_value 10 w) → number_between least most w ≡ within least most r
number_is least most [] (Ok n) few digits h = let first = h.0 in absurd (omega (arith, first.0))
number_is least most [] (Err e) few digits h = refl
number_is least most (c ∷ cs) (Ok n) few digits h =
    λ i. if (digits i) && (nat_le least (sym h.1 i) && nat_le (sym h.1 i) most) then Some (sym h.1 i) else None
number_is least most (c ∷ cs) (Err e) few digits h =
    let v = digits_value 10 (c ∷ cs) in
    let large : most < v = elim (cases_lt v (2 ^ 32)) [ inl lt ↦ absurd (h (omega arith, lt)) | inr ge ↦ omega (arith, few, ge) ] in
    let out : nat_le least v && nat_le v most ≡ false = ap (λ (b : Bool). nat_le least v && b) (too_large most v large) ∙
    and_false (nat_le least v) in
    λ i. if (digits i) && (out i) then Some v else None

-- a word of digits writes the number that is read from it
pub number_read : {E : Type 0} (least most : ℕ) (w : List ℕ) (r : Result ℕ E) → most < 2 ^ 32 → all_ascii_digits w ≡ true →
    ParsesUnsigned 32 10 w r → number_between least most w ≡ within least most r
number_read least most w r few digits h =
    number_is least most w r few digits (parse_digits (numerals_by_value (λ ds. all_ascii_digits ds ≡ true) tells_all_ascii_digits) 32 w r h
    digits)

within_both : (least most n : ℕ) → least ≤ n → n ≤ most → (if nat_le least n && nat_le n most then Some n else None) ≡ Some n
within_both least most n low high = grind (arith, nat_tests)

below_least : (least most n : ℕ) → n < least → (if nat_le least n && nat_le n most then Some n else None) ≡ None
below_least least most n low = grind (arith, nat_tests)

above_most : (least most n : ℕ) → most < n → (if nat_le least n && nat_le n most then Some n else None) ≡ None
above_most least most n high = grind (arith, nat_tests)

module _ {E : Type 0} (least most : ℕ) (w : List ℕ) (r : Result ℕ E) (few : most < 2 ^ 32) (digits : all_ascii_digits w ≡ true)
    (parsed : ParsesUnsigned 32 10 w r) where
  pub writes_within : (n : ℕ) → r ≡ Ok n → least ≤ n → n ≤ most → Some n ≡ number_between least most w
  writes_within n is low high = sym (number_read least most w r few digits parsed ∙ ap (within least most) is ∙
      within_both least most n low high)

  pub writes_below : (n : ℕ) → r ≡ Ok n → n < least → None ≡ number_between least most w
  writes_below n is low = sym (number_read least most w r few digits parsed ∙ ap (within least most) is ∙ below_least least most n low)

  pub writes_above : (n : ℕ) → r ≡ Ok n → most < n → None ≡ number_between least most w
  writes_above n is high = sym (number_read least most w r few digits parsed ∙ ap (within least most) is ∙ above_most least most n high)

  pub writes_none : (e : E) → r ≡ Err e → None ≡ number_between least most w
  writes_none e is = sym (number_read least most w r few digits parsed ∙ ap (within least most) is)
