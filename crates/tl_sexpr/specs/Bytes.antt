-- The bytes of a file, one by one.
use Rattle.std.specs.Prelude.{◌≡◌, ◌≢◌, ℕ, ◌<◌, ◌≤◌, List, length, Bool, ◌||◌, ◌==◌, IsTrue, slice_index, codes}
use Rattle.std.specs.List.{list_any}
use Rattle.std.specs.Char.{is_ascii_alphanumeric}

-- space, tab, carriage return and line feed
abbrev pub is_blank : ℕ → Bool
is_blank c = c == 32 || c == 9 || c == 13 || c == 10

-- a letter, a digit or one of these signs
abbrev pub is_token_byte : ℕ → Bool
is_token_byte c = is_ascii_alphanumeric c || list_any (λ sign. c == sign) (codes "!#$%&*+-./:<=>?@^_~")

-- byte k is in a comment: it is no line feed, and a `;` stands there or before it with no line feed
-- from that `;` on
pub record IsInComment (bytes : List ℕ) (k : ℕ) : Type 0 where
  pub begin : ℕ
  pub before : begin ≤ k
  pub semicolon : slice_index bytes begin ≡ 59
  pub same_line : (i : ℕ) → begin ≤ i → i ≤ k → slice_index bytes i ≢ 10

-- byte k is this one, outside comments
pub record StandsAt (bytes : List ℕ) (k c : ℕ) : Type 0 where
  pub within : k < length bytes
  pub is : slice_index bytes k ≡ c
  pub outside : ¬ IsInComment bytes k

-- byte k is one of a token, outside comments
pub record IsTokenAt (bytes : List ℕ) (k : ℕ) : Type 0 where
  pub within : k < length bytes
  pub token_byte : IsTrue (is_token_byte (slice_index bytes k))
  pub outside : ¬ IsInComment bytes k
