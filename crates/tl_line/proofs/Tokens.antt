-- The texts of values as tokens.
use Rattle.std.proofs.Common.{◌≡◌, ℕ, ◌+◌, ◌-◌, ◌^◌, ◌<◌, List, [], ◌∷◌, length, slice_index, ℤ, pos, negsuc, neg_ℤ, zero, suc, Bool, true}
use Rattle.std.proofs.Common.{false, ◌&&◌, ◌==◌, nat_lt, FitsSigned, IsTrue, w64, inl, inr, refl, sym, ap, ◌∙◌, lt-ltb, eqb-true, arith}
use Rattle.std.proofs.lemmas.Int.{ints}
use Rattle.std.proofs.lemmas.Bool.{cases_lt, false≢true, and_from, and_parts}
use Rattle.std.proofs.lemmas.Fmt.{digits_decimal, digits_value-decimal, decimal_nonempty}
use Rattle.std.proofs.lemmas.List.{get_or_past}
use Rattle.std.proofs.lemmas.List.Folds.{list_all_at}
use Rattle.std.proofs.lemmas.List.Recursion.{same_from_clauses}
use Rattle.std.proofs.lemmas.Str.Parse.{IsNumeralModel, numerals_by_value, tells_all_ascii_digits}
use Rattle.std.specs.Char.{is_ascii_digit}
use Rattle.std.specs.Fmt.{decimal, signed_decimal}
use Rattle.std.specs.List.{list_all}
use Rattle.std.specs.Str.{all_ascii_digits}
use Rattle.std.specs.Str.Parse.{digits_value}
use Rattle.tl_sexpr.specs.Bytes.{is_token_byte}
use Rattle.tl_sexpr.specs.Spelling.{IsToken, is_numeral, spells_integer, integer_value}
use Rattle.tl_sexpr.proofs.TokenBytes.{not_that_byte}
use Rattle.tl_line.specs.WritableActions.{IsSymbolText}
use Rattle.tl_line.proofs.Pieces.{Has, HasNoComment, outside, no_byte}

-- one or more bytes of tokens
pub record IsTokenText (text : List ℕ) : Type 0 where
  pub some : 0 < length text
  pub each : (k : ℕ) → k < length text → IsTrue (is_token_byte (slice_index text k))

pub symbol-token : (text : List ℕ) → IsSymbolText text → IsTokenText text
symbol-token text h = record { some = h.some; each = h.each }

pub clean-token : (text : List ℕ) → IsTokenText text → HasNoComment text
clean-token text h = λ k is.
    elim (cases_lt k (length text)) [
      | inl lt ↦ not_that_byte (slice_index text k) 59 refl (h.each k lt) is
      | inr past ↦ no_byte (slice_index text k) (get_or_past text k 0 past) is
    ]

-- such a text between bytes that are none of a token is a token
pub token : (bytes : List ℕ) (from : ℕ) (text : List ℕ) → HasNoComment bytes → IsTokenText text → Has bytes from text →
    ((k : ℕ) → k + 1 ≡ from → is_token_byte (slice_index bytes k) ≡ false) → is_token_byte (slice_index bytes (from + length text)) ≡
    false → IsToken bytes from (from + length text)
token bytes from text clean t h starts ends =
    let some = t.some in
    let within = h.within in
    record {
      some = omega arith;
      each = λ k low high.
          let place : k ≡ from + (k - from) = omega arith in
          record {
            within = omega arith;
            token_byte = ap is_token_byte (ap (slice_index bytes) place ∙ h.same (k - from) (omega arith)) ∙
                t.each (k - from) (omega arith);
            outside = outside bytes clean k;
          };
      starts = λ k next at. false≢true (sym (starts k next) ∙ at.token_byte);
      ends = λ at. false≢true (sym ends ∙ at.token_byte);
    }

own : IsNumeralModel (λ ds. all_ascii_digits ds ≡ true) (digits_value 10)
own = numerals_by_value (λ ds. all_ascii_digits ds ≡ true) tells_all_ascii_digits

digit-is-token : (c : ℕ) → is_ascii_digit c ≡ true → is_token_byte c ≡ true
digit-is-token c h = rw h refl

digits-tested : (text : List ℕ) → list_all is_ascii_digit text ≡ all_ascii_digits text
digits-tested text = same_from_clauses (list_all is_ascii_digit) all_ascii_digits (λ x r. is_ascii_digit x && r) refl (λ _ _. refl)
    (λ _ _. refl) text

each-digit : (text : List ℕ) (k : ℕ) → all_ascii_digits text ≡ true → k < length text → is_ascii_digit (slice_index text k) ≡ true
each-digit text k all lt = by_test (is_ascii_digit (slice_index text k)) refl
  where
    by_test : (b : Bool) → is_ascii_digit (slice_index text k) ≡ b → b ≡ true
    by_test true is = refl
    by_test false is = absurd (false≢true (sym (list_all_at is_ascii_digit text k 0 lt is) ∙ (digits-tested text ∙ all)))

numeral-token : (text : List ℕ) → all_ascii_digits text ≡ true → 0 < length text → IsTokenText text
numeral-token text all some = record { some = some; each = λ k lt. digit-is-token (slice_index text k) (each-digit text k all lt) }

small : (n : ℕ) → FitsSigned w64 (pos n) → n < 2 ^ 64
small n fits = omega (arith, ints, fits)

small-negative : (n : ℕ) → FitsSigned w64 (negsuc n) → suc n < 2 ^ 64
small-negative n fits = omega (arith, ints, fits)

minus-token : (text : List ℕ) → IsTokenText text → IsTokenText (45 ∷ text)
minus-token text t = record {
  some = omega arith;
  each = λ k lt. at k lt;
}
  where
    at : (k : ℕ) → k < length (45 ∷ text) → IsTrue (is_token_byte (slice_index (45 ∷ text) k))
    at zero lt = refl
    at (suc k) lt = t.each k (omega arith)

pub decimal-token : (z : ℤ) → FitsSigned w64 z → IsTokenText (signed_decimal z)
decimal-token (pos n) fits = numeral-token (decimal n) (digits_decimal own n (small n fits)) (decimal_nonempty n (small n fits))
decimal-token (negsuc n) fits = minus-token (decimal (suc n)) (numeral-token (decimal (suc n))
    (digits_decimal own (suc n) (small-negative n fits)) (decimal_nonempty (suc n) (small-negative n fits)))

is-numeral : (n : ℕ) → n < 2 ^ 64 → is_numeral (decimal n) ≡ true
is-numeral n lt = and_from (all_ascii_digits (decimal n)) (nat_lt 0 (length (decimal n))) (digits_decimal own n lt)
    (lt-ltb 0 (length (decimal n)) (decimal_nonempty n lt))

-- digits are no sign
no-sign : (text : List ℕ) → is_numeral text ≡ true → (spells_integer text ≡ true) × (integer_value text ≡ pos (digits_value 10 text))
no-sign [] h = absurd (false≢true h)
no-sign (c ∷ cs) h = by_test (c == 45) refl
  where
    all : all_ascii_digits (c ∷ cs) ≡ true
    all = (and_parts (all_ascii_digits (c ∷ cs)) (nat_lt 0 (length (c ∷ cs))) h).0

    minus-apart : c ≡ 45 → ⊥
    minus-apart e = false≢true (ap is_ascii_digit (sym e) ∙ each-digit (c ∷ cs) 0 all (omega arith))

    by_test : (b : Bool) → (c == 45) ≡ b → (spells_integer (c ∷ cs) ≡ true) × (integer_value (c ∷ cs) ≡ pos (digits_value 10 (c ∷ cs)))
    by_test true is = absurd (minus-apart (eqb-true c 45 is))
    by_test false is = (rw is h, rw is refl)

-- an integer is read from its decimal
pub decimal-read : (z : ℤ) → FitsSigned w64 z → (spells_integer (signed_decimal z) ≡ true) × (integer_value (signed_decimal z) ≡ z)
decimal-read (pos n) fits =
    let lt = small n fits in
    let read = no-sign (decimal n) (is-numeral n lt) in
    (read.0, read.1 ∙ ap (λ (m : ℕ). pos m) (digits_value-decimal own n lt))
decimal-read (negsuc n) fits =
    let lt = small-negative n fits in
    (is-numeral (suc n) lt, ap (λ (m : ℕ). neg_ℤ (pos m)) (digits_value-decimal own (suc n) lt))
