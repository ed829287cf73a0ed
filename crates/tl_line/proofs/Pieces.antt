-- Pieces of bytes at their places, and bytes without comments.
use Rattle.std.proofs.Common.{◌≡◌, ℕ, zero, suc, ◌+◌, ◌-◌, ◌<◌, ◌≤◌, List, [], ◌∷◌, ◌++◌, length, slice_index, slice_range, inl, inr, refl}
use Rattle.std.proofs.Common.{sym, ap, ◌∙◌, add_assoc, add-zero, zero-add, length-append, arith}
use Rattle.std.proofs.lemmas.Bool.{cases_lt}
use Rattle.std.proofs.lemmas.Grind.{same_number_lists}
use Rattle.std.proofs.lemmas.List.{get_or_append_left, get_or-append_right, get_or-append-add, get_or_past}
use Rattle.std.proofs.lemmas.List.Edits.{length-between, get_or-between}
use Rattle.tl_sexpr.specs.Bytes.{IsInComment, StandsAt}

-- the piece stands at this place of the bytes
pub record Has (bytes : List ℕ) (at : ℕ) (piece : List ℕ) : Type 0 where
  pub within : at + length piece ≤ length bytes
  pub same : (k : ℕ) → k < length piece → slice_index bytes (at + k) ≡ slice_index piece k

pub has-all : (bytes : List ℕ) → Has bytes 0 bytes
has-all bytes = record { within = omega arith; same = λ k lt. ap (slice_index bytes) (zero-add k) }

pub has-front : (bytes : List ℕ) (at : ℕ) (xs ys : List ℕ) → Has bytes at (xs ++ ys) → Has bytes at xs
has-front bytes at xs ys h =
    let long = length-append xs ys in
    let within = h.within in
    record { within = omega arith; same = λ k lt. h.same k (omega arith) ∙ get_or_append_left xs ys 0 k lt }

pub has-back : (bytes : List ℕ) (at : ℕ) (xs ys : List ℕ) → Has bytes at (xs ++ ys) → Has bytes (at + length xs) ys
has-back bytes at xs ys h =
    let long = length-append xs ys in
    let within = h.within in
    record {
      within = omega arith;
      same = λ k lt. ap (slice_index bytes) (add_assoc at (length xs) k) ∙
          (h.same (length xs + k) (omega arith) ∙ get_or-append-add xs ys k 0);
    }

-- its first byte
pub has-first : (bytes : List ℕ) (at : ℕ) (piece : List ℕ) → 0 < length piece → Has bytes at piece → slice_index bytes at ≡
    slice_index piece 0
has-first bytes at piece some h = ap (slice_index bytes) (sym (add-zero at)) ∙ h.same 0 some

-- the range of its bytes
pub has-range : (bytes : List ℕ) (at : ℕ) (piece : List ℕ) → Has bytes at piece → slice_range bytes at (at + length piece) ≡ piece
has-range bytes at piece h =
    let long : length (slice_range bytes at (at + length piece)) ≡ at + length piece - at =
    length-between bytes at (at + length piece) h.within in
    same_number_lists (slice_range bytes at (at + length piece)) piece (omega arith)
    (λ k lt. get_or-between bytes at (at + length piece) k 0 (omega arith) ∙ h.same k (omega arith))

-- no byte begins a comment
abbrev pub HasNoComment : List ℕ → Type 0
HasNoComment bytes = (k : ℕ) → slice_index bytes k ≡ 59 → ⊥

pub outside : (bytes : List ℕ) → HasNoComment bytes → (k : ℕ) → ¬ IsInComment bytes k
outside bytes clean k comment = clean comment.begin comment.semicolon

pub clean-both : (xs ys : List ℕ) → HasNoComment xs → HasNoComment ys → HasNoComment (xs ++ ys)
clean-both xs ys first second = λ k is.
    elim (cases_lt k (length xs)) [
      | inl lt ↦ first k (sym (get_or_append_left xs ys 0 k lt) ∙ is)
      | inr past ↦ second (k - length xs) (sym (get_or-append_right xs ys (length xs) k 0 refl past) ∙ is)
    ]

-- what is past the end begins no comment
pub no_byte : (n : ℕ) → n ≡ 0 → n ≡ 59 → ⊥
no_byte n none is = omega arith

pub clean-none : HasNoComment []
clean-none = λ k is. no_byte (slice_index [] k) (get_or_past [] k 0 (omega arith)) is

pub clean-more : (c : ℕ) (xs : List ℕ) → (c ≡ 59 → ⊥) → HasNoComment xs → HasNoComment (c ∷ xs)
clean-more c xs apart clean zero is = apart is
clean-more c xs apart clean (suc k) is = clean k is

-- a byte that stands outside comments
pub stands : (bytes : List ℕ) (at c : ℕ) (xs : List ℕ) → HasNoComment bytes → Has bytes at (c ∷ xs) → StandsAt bytes at c
stands bytes at c xs clean h =
    let within = h.within in
    record { within = omega arith; is = has-first bytes at (c ∷ xs) (omega arith) h; outside = outside bytes clean at }
