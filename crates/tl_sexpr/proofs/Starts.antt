-- Where reading may go on: after a blank, a comment, a token or a parenthesis.
use Rattle.std.proofs.Common.{◌≡◌, ◌≢◌, ℕ, ◌+◌, ◌-◌, ◌<◌, ◌≤◌, false, List, length, slice_index, IsTrue, inl, inr, refl, sym, ◌∙◌, ap}
use Rattle.std.proofs.Common.{arith}
use Rattle.std.proofs.lemmas.Bool.{cases_lt, cases_eq, false≢true}
use Rattle.tl_sexpr.specs.Bytes.{is_blank, is_token_byte, IsInComment, IsTokenAt}
use Rattle.tl_sexpr.specs.Spelling.{IsGap, IsToken}
use Rattle.tl_sexpr.specs.Reading.{IsStart}
use Rattle.tl_sexpr.proofs.TokenBytes.{IsPlain, not_that_byte}

-- the start of a file
pub start_of_file : (bytes : List ℕ) → IsStart bytes 0
start_of_file bytes = record {
  within = omega arith;
  comments_end = λ _ j h. absurd (omega arith);
  no_token_cut = λ k e. absurd (omega arith);
}

-- a byte that begins no comment is in none
pub outside_at_start : (bytes : List ℕ) (at : ℕ) → IsStart bytes at → at < length bytes → (slice_index bytes at ≡ 59 → ⊥) →
    ¬ IsInComment bytes at
outside_at_start bytes at s h other comment =
    elim (cases_lt comment.begin at) [
      | inl e ↦ (let ended = s.comments_end h comment.begin e comment.semicolon in
          comment.same_line ended.0 (omega arith) (omega arith) ended.3)
      | inr e ↦ (let same : comment.begin ≡ at = omega (arith, comment.before) in
          other (ap (slice_index bytes) (sym same) ∙ comment.semicolon))
    ]

-- after a byte that begins no token and no comment
pub start_after_plain : (bytes : List ℕ) (at : ℕ) → IsStart bytes at → at < length bytes → IsPlain (slice_index bytes at) →
    IsStart bytes (at + 1)
start_after_plain bytes at s h plain = record {
  within = omega arith;
  comments_end = λ _ j low semicolon. elim (cases_lt j at) [
    | inl e ↦ (let ended = s.comments_end h j e semicolon in (ended.0, ended.1, omega (arith, ended.2), ended.3))
    | inr e ↦ (let same : j ≡ at = omega arith in absurd (plain.1 (ap (slice_index bytes) (sym same) ∙ semicolon)))
  ];
  no_token_cut = λ k e token. let same : k ≡ at = omega arith in absurd
      (false≢true (sym plain.0 ∙ (ap (λ i. is_token_byte (slice_index bytes i)) (sym same) ∙ token.token_byte)));
}

-- the bytes of a run of token bytes are in no comment
token_outside : (bytes : List ℕ) (from to : ℕ) → IsStart bytes from → from < length bytes →
    ((k : ℕ) → from ≤ k → k < to → IsTrue (is_token_byte (slice_index bytes k))) → (k : ℕ) → from ≤ k → k < to → ¬ IsInComment bytes k
token_outside bytes from to s h each k low high comment =
    elim (cases_lt comment.begin from) [
      | inl e ↦ (let ended = s.comments_end h comment.begin e comment.semicolon in
          comment.same_line ended.0 (omega arith) (omega arith) ended.3)
      | inr e ↦ not_that_byte (slice_index bytes comment.begin) 59 refl
          (each comment.begin e (omega (arith, comment.before))) comment.semicolon
    ]

-- the longest run of token bytes from here is a token
pub token_here : (bytes : List ℕ) (from to : ℕ) → IsStart bytes from → from < to → to ≤ length bytes →
    ((k : ℕ) → from ≤ k → k < to → IsTrue (is_token_byte (slice_index bytes k))) →
    (to < length bytes → is_token_byte (slice_index bytes to) ≡ false) → IsToken bytes from to
token_here bytes from to s some bounded each longest =
    let at : (k : ℕ) → from ≤ k → k < to → IsTokenAt bytes k = λ k low high. record {
      within = omega arith;
      token_byte = each k low high;
      outside = token_outside bytes from to s (omega arith) each k low high;
    } in
    record {
      some = some;
      each = at;
      starts = λ k e t. s.no_token_cut k e t (at from (omega arith) some);
      ends = λ t. false≢true (sym (longest t.within) ∙ t.token_byte);
    }

pub start_after_token : (bytes : List ℕ) (from to : ℕ) → IsStart bytes from → to ≤ length bytes → IsToken bytes from to → IsStart bytes to
start_after_token bytes from to s bounded token =
    let some = token.some in
    record {
      within = bounded;
      comments_end = λ h j low semicolon. elim (cases_lt j from) [
        | inl e ↦ (let ended = s.comments_end (omega arith) j e semicolon in (ended.0, ended.1, omega (arith, ended.2), ended.3))
        | inr e ↦ absurd (not_that_byte (slice_index bytes j) 59 refl (token.each j e low).token_byte semicolon)
      ];
      no_token_cut = λ k e t u. token.ends u;
    }

-- what `comment_end` says of its answer
pub record IsCommentEnd (bytes : List ℕ) (from to : ℕ) : Type 0 where
  pub some : from < to
  pub bounded : to ≤ length bytes
  pub same_line : (k : ℕ) → from ≤ k → k + 1 < to → slice_index bytes k ≢ 10
  pub ended : to < length bytes → slice_index bytes (to - 1) ≡ 10

pub comment_is_gap : (bytes : List ℕ) (from to : ℕ) → slice_index bytes from ≡ 59 → IsCommentEnd bytes from to → IsGap bytes from to
comment_is_gap bytes from to semicolon c =
    let some = c.some in
    record {
      ordered = omega arith;
      skipped = λ k low high. elim (cases_eq (slice_index bytes k) 10) [
        | inl e ↦ inl (ap is_blank e)
        | inr e ↦ inr (record {
          begin = from;
          before = low;
          semicolon = semicolon;
          same_line = λ i after before. elim (cases_lt i k) [
            | inl l ↦ c.same_line i after (omega arith)
            | inr l ↦ (let same : i ≡ k = omega arith in λ feed. e (ap (slice_index bytes) (sym same) ∙ feed))
          ];
        })
      ];
    }

pub start_after_comment : (bytes : List ℕ) (from to : ℕ) → IsCommentEnd bytes from to → IsStart bytes to
start_after_comment bytes from to c =
    let some = c.some in
    record {
      within = c.bounded;
      comments_end = λ h j low semicolon. elim (cases_eq j (to - 1)) [
        | inl e ↦ (let feed = c.ended h in let other = ap (slice_index bytes) (sym e) ∙ semicolon in absurd (omega (arith, feed, other)))
        | inr e ↦ (to - 1, omega arith, omega arith, c.ended h)
      ];
      no_token_cut = λ k e t u. let same : k ≡ to - 1 = omega arith in
          not_that_byte (slice_index bytes k) 10 refl t.token_byte (ap (slice_index bytes) same ∙ c.ended u.within);
    }
