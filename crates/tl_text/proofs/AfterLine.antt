-- Forms that stand after a line without forms: what bytes spell, they spell there too.
use Rattle.std.proofs.Common.{◌≡◌, ◌≢◌, ℕ, zero, suc, ◌+◌, ◌-◌, ◌<◌, List, [], ◌∷◌, ◌++◌, length, slice_index, slice_range, inl, inr, sym}
use Rattle.std.proofs.Common.{ap, ◌∙◌, subst, length-append, arith}
use Rattle.std.proofs.lemmas.Bool.{cases_lt, false≢true}
use Rattle.std.proofs.lemmas.Grind.{same_number_lists}
use Rattle.std.proofs.lemmas.List.{get_or_append_left, get_or-append-add}
use Rattle.std.proofs.lemmas.List.Edits.{length-between, get_or-between}
use Rattle.tl_sexpr.specs.Bytes.{is_blank, is_token_byte, IsInComment, StandsAt, IsTokenAt}
use Rattle.tl_sexpr.specs.Spelling.{IsGap, IsToken, spells_integer, integer_value, IsItem, AreItems}
use Rattle.tl_sexpr.specs.Tree.{FormTree, FormTrees, symbol, integer, list, no_form, more_forms}

-- the forms n bytes later
abbrev mutual
  pub moved : ℕ → FormTree → FormTree
  moved n (symbol text at) = symbol text (n + at)
  moved n (integer z at) = integer z (n + at)
  moved n (list fs at) = list (moved_all n fs) (n + at)

  pub moved_all : ℕ → FormTrees → FormTrees
  moved_all n no_form = no_form
  moved_all n (more_forms f fs) = more_forms (moved n f) (moved_all n fs)

-- the bytes after a line
abbrev pub after_line : List ℕ → List ℕ → List ℕ
after_line line bytes = (line ++ 10 ∷ []) ++ bytes

-- how many bytes the line has, its end too
abbrev pub line_length : List ℕ → ℕ
line_length line = length (line ++ 10 ∷ [])

module _ (line bytes : List ℕ) where
  abbrev all : List ℕ
  all = after_line line bytes

  abbrev n : ℕ
  n = line_length line

  one_more : n ≡ length line + 1
  one_more = length-append line (10 ∷ [])

  long : length all ≡ n + length bytes
  long = length-append (line ++ 10 ∷ []) bytes

  later_byte : (k : ℕ) → slice_index all (n + k) ≡ slice_index bytes k
  later_byte k = get_or-append-add (line ++ 10 ∷ []) bytes k 0

  line_end : slice_index all (length line) ≡ 10
  line_end =
      let m = one_more in
      let same : length line ≡ length line + 0 = omega arith in
      get_or_append_left (line ++ 10 ∷ []) bytes 0 (length line) (omega arith) ∙
      (ap (slice_index (line ++ 10 ∷ [])) same ∙ get_or-append-add line (10 ∷ []) 0 0)

  -- a comment after the line began there
  comment_back : (k : ℕ) → IsInComment all (n + k) → IsInComment bytes k
  comment_back k c = elim (cases_lt c.begin n) [
    | inl early ↦
        let m = one_more in
        let before = c.before in
        absurd (c.same_line (length line) (omega arith) (omega arith) line_end)
    | inr late ↦
        let before = c.before in
        let place : n + (c.begin - n) ≡ c.begin = omega arith in
        record {
          begin = c.begin - n;
          before = omega arith;
          semicolon = sym (later_byte (c.begin - n)) ∙ (ap (slice_index all) place ∙ c.semicolon);
          same_line = λ i low high e. c.same_line (n + i) (omega arith) (omega arith) (later_byte i ∙ e);
        }
  ]

  comment_on : (k : ℕ) → IsInComment bytes k → IsInComment all (n + k)
  comment_on k c =
      let before = c.before in
      record {
        begin = n + c.begin;
        before = omega arith;
        semicolon = later_byte c.begin ∙ c.semicolon;
        same_line = λ i low high e.
            let place : n + (i - n) ≡ i = omega arith in
            c.same_line (i - n) (omega arith) (omega arith) (sym (later_byte (i - n)) ∙ (ap (slice_index all) place ∙ e));
      }

  token_at_on : (k : ℕ) → IsTokenAt bytes k → IsTokenAt all (n + k)
  token_at_on k t =
      let within = t.within in
      let m = long in
      record {
        within = omega arith;
        token_byte = ap is_token_byte (later_byte k) ∙ t.token_byte;
        outside = λ c.
            t.outside (comment_back k c);
      }

  token_at_back : (k : ℕ) → IsTokenAt all (n + k) → IsTokenAt bytes k
  token_at_back k t =
      let within = t.within in
      let m = long in
      record {
        within = omega arith;
        token_byte = sym (ap is_token_byte (later_byte k)) ∙ t.token_byte;
        outside = λ c.
            t.outside (comment_on k c);
      }

  no_token_at_end : (k : ℕ) → k + 1 ≡ n → IsTokenAt all k → ⊥
  no_token_at_end k e t =
      let m = one_more in
      let place : k ≡ length line = omega arith in
      false≢true (sym (ap is_token_byte (ap (slice_index all) place ∙ line_end)) ∙ t.token_byte)

  starts_on : (from : ℕ) → ((k : ℕ) → k + 1 ≡ from → ¬ IsTokenAt bytes k) → (k : ℕ) → k + 1 ≡ n + from → ¬ IsTokenAt all k
  starts_on zero starts k e = no_token_at_end k (omega arith)
  starts_on (suc from) starts k e = λ t.
      let place : k ≡ n + from = omega arith in
      starts from (omega arith) (token_at_back from (subst (λ (i : ℕ). IsTokenAt all i) place t))

  token_on : (from to : ℕ) → IsToken bytes from to → IsToken all (n + from) (n + to)
  token_on from to t =
      let some = t.some in
      record {
        some = omega arith;
        each = λ k low high.
            let place : n + (k - n) ≡ k = omega arith in
            subst (λ (i : ℕ). IsTokenAt all i) place (token_at_on (k - n) (t.each (k - n) (omega arith) (omega arith)));
        starts = starts_on from t.starts;
        ends = λ e. t.ends (token_at_back to e);
      }

  stands_on : (at c : ℕ) → StandsAt bytes at c → StandsAt all (n + at) c
  stands_on at c s =
      let within = s.within in
      let m = long in
      record { within = omega arith; is = later_byte at ∙ s.is; outside = λ k. s.outside (comment_back at k) }

  gap_on : (from to : ℕ) → IsGap bytes from to → IsGap all (n + from) (n + to)
  gap_on from to g =
      let ordered = g.ordered in
      record {
        ordered = omega arith;
        skipped = λ k low high.
            let place : n + (k - n) ≡ k = omega arith in
            elim (g.skipped (k - n) (omega arith) (omega arith)) [
              | inl blank ↦ inl (ap is_blank (ap (slice_index all) (sym place) ∙ later_byte (k - n)) ∙ blank)
              | inr c ↦ inr (subst (λ (i : ℕ). IsInComment all i) place (comment_on (k - n) c))
            ];
      }

  -- a token has its text
  range_on : (from to : ℕ) → IsToken bytes from to → slice_range all (n + from) (n + to) ≡ slice_range bytes from to
  range_on from to t =
      let some = t.some in
      let m = long in
      let last = t.each (to - 1) (omega arith) (omega arith) in
      let within = last.within in
      let a : length (slice_range all (n + from) (n + to)) ≡ n + to - (n + from) = length-between all (n + from) (n + to) (omega arith) in
      let b : length (slice_range bytes from to) ≡ to - from = length-between bytes from to (omega arith) in
      same_number_lists (slice_range all (n + from) (n + to)) (slice_range bytes from to) (omega arith)
      (λ k lt.
      let place : n + from + k ≡ n + (from + k) = omega arith in
      get_or-between all (n + from) (n + to) k 0 (omega arith) ∙ (ap (slice_index all) place ∙
      (later_byte (from + k) ∙ sym (get_or-between bytes from to k 0 (omega arith)))))

  mutual
    unfolding IsItem AreItems

    item_on : (around from to : ℕ) (f : FormTree) → IsItem bytes around from to f → IsItem all around (n + from) (n + to) (moved n f)
    item_on around from to (symbol text at) h =
        let range = range_on from to h.1 in
        (ap (λ (i : ℕ). n + i) h.0, token_on from to h.1, h.2 ∙ sym range, ap spells_integer range ∙ h.3)
    item_on around from to (integer z at) h =
        let range = range_on from to h.1 in
        (ap (λ (i : ℕ). n + i) h.0, token_on from to h.1, ap spells_integer range ∙ h.2, h.3 ∙ sym (ap integer_value range), h.4)
    item_on around from to (list fs at) h =
        let inner = h.3 in
        let begin : n + (from + 1) ≡ n + from + 1 = omega arith in
        let end : n + to ≡ n + inner.0 + 1 = omega (arith, inner.1) in (
          ap (λ (i : ℕ). n + i) h.0,
          h.1,
          stands_on from 40 h.2,
          (
            n + inner.0,
            end,
            stands_on inner.0 41 inner.2,
            subst (λ (i : ℕ). AreItems all (around + 1) i (n + inner.0) (moved_all n fs)) begin
                (items_on (around + 1) (from + 1) inner.0 fs inner.3),
          ),
        )

    pub items_on : (around from to : ℕ) (fs : FormTrees) → AreItems bytes around from to fs →
        AreItems all around (n + from) (n + to) (moved_all n fs)
    items_on around from to no_form h = gap_on from to h
    items_on around from to (more_forms f fs) h = (
      n + h.0,
      n + h.1,
      gap_on from h.0 h.2,
      item_on around h.0 h.1 f h.3,
      items_on around h.1 to fs h.4,
    )

  -- a line is a gap, where it begins a comment and has no line feed before its end
  pub gap_of_line : slice_index all 0 ≡ 59 → ((k : ℕ) → k < length line → slice_index all k ≢ 10) → IsGap all 0 n
  gap_of_line begins same_line =
      let m = one_more in
      record {
        ordered = omega arith;
        skipped = λ k low high. elim (cases_lt k (length line)) [
          | inl lt ↦ inr (record {
            begin = 0;
            before = omega arith;
            semicolon = begins;
            same_line = λ i from to.
                same_line i (omega arith);
          })
          | inr past ↦
              let place : k ≡ length line = omega arith in
              inl (ap is_blank (ap (slice_index all) place ∙ line_end))
        ];
      }
