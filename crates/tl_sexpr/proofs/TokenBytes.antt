-- What the bytes of a token are not.
use Rattle.std.proofs.Common.{◌≡◌, ℕ, ◌<◌, ◌≤◌, true, false, eqb, List, [], ◌∷◌, length, inl, inr, refl, sym, ◌∙◌, ap, subst, arith, codes}
use Rattle.std.proofs.Common.{slice_index, IsTrue, eqb-true, ltb-true, ◌==◌, nat_lt, IsAscii, ◌||◌, nat_le, leb-true, eq-eqb}
use Rattle.std.proofs.lemmas.Bool.{cases_lt, or_cases, and_parts, false≢true}
use Rattle.std.specs.List.{list_any, list_all}
use Rattle.std.proofs.lemmas.List.{get_or_past}
use Rattle.std.specs.Char.{is_ascii_alphanumeric}
use Rattle.std.specs.Int.{is_in_range}
use Rattle.tl_sexpr.specs.Bytes.{is_blank, is_token_byte}

-- what is among small bytes is small
among_small : (c n : ℕ) (xs : List ℕ) → list_all (λ x. nat_lt x n) xs ≡ true → list_any (λ x. c == x) xs ≡ true → c < n
among_small c n [] small h = absurd (false≢true h)
among_small c n (x ∷ xs) small h =
    let p = and_parts (nat_lt x n) (list_all (λ x. nat_lt x n) xs) small in
    elim (or_cases (c == x) (list_any (λ x. c == x) xs) h) [
      | inl e ↦ omega (arith, eqb-true c x e, ltb-true x n p.0)
      | inr e ↦ among_small c n xs p.1 e
    ]

in_range_small : (low high c : ℕ) → is_in_range low high c ≡ true → c ≤ high
in_range_small low high c h = leb-true c high (and_parts (nat_le low c) (nat_le c high) h).1

alphanumeric_small : (c : ℕ) → is_ascii_alphanumeric c ≡ true → c < 128
alphanumeric_small c h =
    elim (or_cases (is_in_range 48 57 c || is_in_range 65 90 c) (is_in_range 97 122 c) h) [
      | inl e ↦ elim (or_cases (is_in_range 48 57 c) (is_in_range 65 90 c) e) [
        | inl d ↦ omega (arith, in_range_small 48 57 c d)
        | inr d ↦ omega (arith, in_range_small 65 90 c d)
      ]
      | inr e ↦ omega (arith, in_range_small 97 122 c e)
    ]

pub token_byte_is_ascii : (c : ℕ) → is_token_byte c ≡ true → c < 128
token_byte_is_ascii c h =
    elim (or_cases (is_ascii_alphanumeric c) (list_any (λ sign. c == sign) (codes "!#$%&*+-./:<=>?@^_~")) h) [
      | inl e ↦ alphanumeric_small c e
      | inr e ↦ among_small c 128 (codes "!#$%&*+-./:<=>?@^_~") refl e
    ]

-- a byte of a token is not one that no token holds
pub not_that_byte : (c d : ℕ) → is_token_byte d ≡ false → is_token_byte c ≡ true → c ≡ d → ⊥
not_that_byte c d fails passes e = false≢true (sym fails ∙ (ap is_token_byte (sym e) ∙ passes))

-- no token and no comment begins at such a byte
abbrev pub IsPlain : ℕ → Type 0
IsPlain c = (is_token_byte c ≡ false) × (c ≡ 59 → ⊥)

plain_at : (c d : ℕ) → IsPlain d → eqb c d ≡ true → IsPlain c
plain_at c d h e = subst IsPlain (sym (eqb-true c d e)) h

pub blank_is_plain : (c : ℕ) → is_blank c ≡ true → IsPlain c
blank_is_plain c h =
    elim (or_cases ((c == 32 || c == 9) || c == 13) (c == 10) h) [
      | inl e ↦ elim (or_cases (c == 32 || c == 9) (c == 13) e) [
        | inl d ↦ elim (or_cases (c == 32) (c == 9) d) [
          | inl b ↦ plain_at c 32 (refl, λ q. absurd (omega arith)) b
          | inr b ↦ plain_at c 9 (refl, λ q. absurd (omega arith)) b
        ]
        | inr d ↦ plain_at c 13 (refl, λ q. absurd (omega arith)) d
      ]
      | inr e ↦ plain_at c 10 (refl, λ q. absurd (omega arith)) e
    ]

pub open_is_plain : (c : ℕ) → c ≡ 40 → IsPlain c
open_is_plain c e = plain_at c 40 (refl, λ q. absurd (omega arith)) (eq-eqb c 40 e)

pub close_is_plain : (c : ℕ) → c ≡ 41 → IsPlain c
close_is_plain c e = plain_at c 41 (refl, λ q. absurd (omega arith)) (eq-eqb c 41 e)

pub token_is_ascii : (text : List ℕ) → ((k : ℕ) → k < length text → IsTrue (is_token_byte (slice_index text k))) → IsAscii text
token_is_ascii text h k =
    elim (cases_lt k (length text)) [
      | inl e ↦ token_byte_is_ascii (slice_index text k) (h k e)
      | inr e ↦ rw (get_or_past text k 0 e) (omega arith)
    ]
