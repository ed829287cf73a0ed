-- No fault stands where items with gaps around them are.
use Rattle.std.proofs.Common.{◌≡◌, ℕ, ◌+◌, ◌-◌, ◌<◌, ◌≤◌, List, [], ◌∷◌, length, slice_index, slice_range, true, false, inl, inr, refl, sym}
use Rattle.std.proofs.Common.{◌∙◌, ap, subst, arith, FitsSigned, w64}
use Rattle.std.proofs.lemmas.Bool.{cases_lt, false≢true}
use Rattle.tl_sexpr.specs.declared.reader.OpenList.{OpenList}
use Rattle.tl_sexpr.specs.Bytes.{is_blank, is_token_byte, IsInComment, StandsAt, IsTokenAt}
use Rattle.tl_sexpr.specs.Faults.{IsDepth, IsTooBig, FaultAt, bad_byte, stray_close, too_deep, big_integer}
use Rattle.tl_sexpr.specs.Reading.{Nested}
use Rattle.tl_sexpr.specs.Spelling.{IsGap, IsToken, IsItem, AreItems, spells_integer}
use Rattle.tl_sexpr.specs.Tree.{FormTree, FormTrees, symbol, integer, list, no_form, more_forms, trees_of}
use Rattle.tl_sexpr.proofs.Depths.{NoParenthesis, depth_unique, depth_same, depth_after_open, depth_after_close, not_both}
use Rattle.tl_sexpr.proofs.TokenBytes.{not_that_byte, blank_is_plain}

-- none of the faults stands in the range
abbrev pub NoFaultIn : List ℕ → ℕ → ℕ → Type 0
NoFaultIn bytes from to = (k : ℕ) → from ≤ k → k < to → ¬ FaultAt bytes k

pub no_faults_join : (bytes : List ℕ) (from mid to : ℕ) → NoFaultIn bytes from mid → NoFaultIn bytes mid to → NoFaultIn bytes from to
no_faults_join bytes from mid to p q k low high = elim (cases_lt k mid) [ inl e ↦ p k low e | inr e ↦ q k e high ]

-- a byte that stands outside comments at an offset of a gap is a blank
blank_in_gap : (bytes : List ℕ) (from to k : ℕ) → IsGap bytes from to → from ≤ k → k < to → ¬ IsInComment bytes k →
    is_blank (slice_index bytes k) ≡ true
blank_in_gap bytes from to k gap low high outside =
    elim (gap.skipped k low high) [ inl blank ↦ blank | inr comment ↦ absurd (outside comment) ]

-- a byte that is no blank stands at no offset of a gap
pub not_in_gap : (bytes : List ℕ) (from to k c : ℕ) → IsGap bytes from to → from ≤ k → k < to → is_blank c ≡ false → ¬ StandsAt bytes k c
not_in_gap bytes from to k c gap low high fails stands =
    false≢true (sym fails ∙ (ap is_blank (sym stands.is) ∙ blank_in_gap bytes from to k gap low high stands.outside))

pub no_token_in_gap : (bytes : List ℕ) (from to k : ℕ) → IsGap bytes from to → from ≤ k → k < to → ¬ IsTokenAt bytes k
no_token_in_gap bytes from to k gap low high token =
    false≢true (sym (blank_is_plain (slice_index bytes k) (blank_in_gap bytes from to k gap low high token.outside)).0 ∙ token.token_byte)

pub no_fault_in_gap : (bytes : List ℕ) (from to : ℕ) → IsGap bytes from to → NoFaultIn bytes from to
no_fault_in_gap bytes from to gap k low high (bad_byte b) = false≢true
    (sym b.no_blank ∙ blank_in_gap bytes from to k gap low high b.outside)
no_fault_in_gap bytes from to gap k low high (stray_close b) = not_in_gap bytes from to k 41 gap low high refl b.close
no_fault_in_gap bytes from to gap k low high (too_deep b) = not_in_gap bytes from to k 40 gap low high refl b.open_list
no_fault_in_gap bytes from to gap k low high (big_integer b) = no_token_in_gap bytes from to k gap low high
    (b.token.each k (omega arith) (b.token.some))

-- a byte that no token holds stands at no offset of a token
pub not_in_token : (bytes : List ℕ) (k c : ℕ) → IsTokenAt bytes k → is_token_byte c ≡ false → ¬ StandsAt bytes k c
not_in_token bytes k c token fails stands = not_that_byte (slice_index bytes k) c fails token.token_byte stands.is

-- two tokens that begin at one offset end at one offset
pub one_token_end : (bytes : List ℕ) (from to end : ℕ) → IsToken bytes from to → IsToken bytes from end → to ≡ end
one_token_end bytes from to end p q =
    let some = p.some in
    let other = q.some in
    elim (cases_lt to end) [
      | inl e ↦ absurd (p.ends (q.each to (omega arith) e))
      | inr e ↦ elim (cases_lt end to) [ inl d ↦ absurd (q.ends (p.each end (omega arith) d)) | inr d ↦ omega arith ]
    ]

-- a token begins in another only where that begins
pub one_token_start : (bytes : List ℕ) (from to k end : ℕ) → IsToken bytes from to → from ≤ k → k < to → IsToken bytes k end → k ≡ from
one_token_start bytes from to k end p low high q =
    elim (cases_lt from k) [
      | inl e ↦ (let before : (k - 1) + 1 ≡ k = omega arith in absurd (q.starts (k - 1) before
          (p.each (k - 1) (omega arith) (omega arith))))
      | inr e ↦ omega arith
    ]

no_fault_in_token : (bytes : List ℕ) (from to : ℕ) → IsToken bytes from to → ¬ IsTooBig (slice_range bytes from to) →
    NoFaultIn bytes from to
no_fault_in_token bytes from to token fits k low high (bad_byte b) = false≢true (sym b.no_token_byte ∙ (token.each k low high).token_byte)
no_fault_in_token bytes from to token fits k low high (stray_close b) = not_in_token bytes k 41 (token.each k low high) refl b.close
no_fault_in_token bytes from to token fits k low high (too_deep b) = not_in_token bytes k 40 (token.each k low high) refl b.open_list
no_fault_in_token bytes from to token fits k low high (big_integer b) =
    let start = one_token_start bytes from to k b.end token low high b.token in
    let end = one_token_end bytes from to b.end token (subst (λ n. IsToken bytes n b.end) start b.token) in
    fits (subst (λ n. IsTooBig (slice_range bytes from n)) (sym end) (subst (λ n. IsTooBig (slice_range bytes n b.end)) start b.big))

-- no fault at a `(` or a `)` inside the limits
no_fault_at_open : (bytes : List ℕ) (k d : ℕ) → StandsAt bytes k 40 → IsDepth bytes k d → d < 100 → ¬ FaultAt bytes k
no_fault_at_open bytes k d stands depth few (bad_byte b) = b.no_open stands.is
no_fault_at_open bytes k d stands depth few (stray_close b) = not_both bytes k 40 41 (λ e. absurd (omega arith)) stands b.close
no_fault_at_open bytes k d stands depth few (too_deep b) = let same = depth_unique bytes k d 100 depth b.depth in absurd (omega arith)
no_fault_at_open bytes k d stands depth few (big_integer b) = not_in_token bytes k 40
    (b.token.each k (omega arith) b.token.some) refl stands

no_fault_at_close : (bytes : List ℕ) (k d : ℕ) → StandsAt bytes k 41 → IsDepth bytes k (d + 1) → ¬ FaultAt bytes k
no_fault_at_close bytes k d stands depth (bad_byte b) = b.no_close stands.is
no_fault_at_close bytes k d stands depth (stray_close b) = let same = depth_unique bytes k (d + 1) 0 depth b.depth in absurd (omega arith)
no_fault_at_close bytes k d stands depth (too_deep b) = not_both bytes k 41 40 (λ e. absurd (omega arith)) stands b.open_list
no_fault_at_close bytes k d stands depth (big_integer b) = not_in_token bytes k 41 (b.token.each k (omega arith) b.token.some) refl stands

-- in the range no fault stands and the depth is never below the least; at its end it is this
pub record IsClean (bytes : List ℕ) (least from to depth : ℕ) : Type 0 where
  pub at_end : IsDepth bytes to depth
  pub faultless : NoFaultIn bytes from to
  pub deep : (k : ℕ) → from ≤ k → k < to → (d : ℕ) → IsDepth bytes k d → least ≤ d

pub clean_join : (bytes : List ℕ) (least from mid to d e : ℕ) → IsClean bytes least from mid d → IsClean bytes least mid to e →
    IsClean bytes least from to e
clean_join bytes least from mid to d e p q = record {
  at_end = q.at_end;
  faultless = no_faults_join bytes from mid to p.faultless q.faultless;
  deep = λ k low high. elim (cases_lt k mid) [ inl l ↦ p.deep k low l | inr l ↦ q.deep k l high ];
}

-- a range with no parenthesis
clean_flat : (bytes : List ℕ) (from to d : ℕ) → from ≤ to → IsDepth bytes from d → NoParenthesis bytes from to → NoFaultIn bytes from to →
    IsClean bytes d from to d
clean_flat bytes from to d ordered depth none faultless = record {
  at_end = depth_same bytes from to d ordered depth none;
  faultless = faultless;
  deep = λ k low high e p. let same = depth_unique bytes k d e (depth_same bytes from k d low depth
      (λ j after before. none j after (omega arith))) p in omega arith;
}

clean_gap : (bytes : List ℕ) (from to d : ℕ) → IsGap bytes from to → IsDepth bytes from d → IsClean bytes d from to d
clean_gap bytes from to d gap depth =
    clean_flat bytes from to d gap.ordered depth (λ k low high. (
      not_in_gap bytes from to k 40 gap low high refl,
      not_in_gap bytes from to k 41 gap low high refl,
    )) (no_fault_in_gap bytes from to gap)

clean_token : (bytes : List ℕ) (from to d : ℕ) → IsToken bytes from to → ¬ IsTooBig (slice_range bytes from to) → IsDepth bytes from d →
    IsClean bytes d from to d
clean_token bytes from to d token fits depth =
    let some = token.some in
    clean_flat bytes from to d (omega arith) depth (λ k low high. (
      not_in_token bytes k 40 (token.each k low high) refl,
      not_in_token bytes k 41 (token.each k low high) refl,
    )) (no_fault_in_token bytes from to token fits)

-- a `(` and what stands after it
clean_open : (bytes : List ℕ) (from to d e : ℕ) → StandsAt bytes from 40 → d < 100 → IsDepth bytes from d →
    IsClean bytes (d + 1) (from + 1) to e → IsClean bytes d from to e
clean_open bytes from to d e stands few depth inside = record {
  at_end = inside.at_end;
  faultless = λ k low high. elim (cases_lt from k) [
    | inl l ↦ inside.faultless k (omega arith) high
    | inr l ↦ (let same : from ≡ k = omega arith in subst (λ n. ¬ FaultAt bytes n) same (no_fault_at_open bytes from d stands depth few))
  ];
  deep = λ k low high n p. elim (cases_lt from k) [
    | inl l ↦ (let deeper = inside.deep k (omega arith) high n p in omega arith)
    | inr l ↦ (let here : from ≡ k = omega arith in let same = depth_unique bytes k d n (subst (λ i. IsDepth bytes i d) here depth) p in
        omega arith)
  ];
}

-- a `)` and what stands before it
clean_close : (bytes : List ℕ) (from close d : ℕ) → StandsAt bytes close 41 → IsClean bytes d from close (d + 1) →
    IsClean bytes d from (close + 1) d
clean_close bytes from close d stands inside = record {
  at_end = depth_after_close bytes close d inside.at_end stands;
  faultless = λ k low high. elim (cases_lt k close) [
    | inl l ↦ inside.faultless k low l
    | inr l ↦ (let same : close ≡ k = omega arith in subst (λ n. ¬ FaultAt bytes n) same
        (no_fault_at_close bytes close d stands inside.at_end))
  ];
  deep = λ k low high n p. elim (cases_lt k close) [
    | inl l ↦ inside.deep k low l n p
    | inr l ↦ (let here : close ≡ k = omega arith in let same = depth_unique bytes k (d + 1) n
        (subst (λ i. IsDepth bytes i (d + 1)) here inside.at_end) p in omega arith)
  ];
}

-- the form of a token says that it is not too big
fits_by_symbol : (text : List ℕ) → spells_integer text ≡ false → ¬ IsTooBig text
fits_by_symbol text fails big = false≢true (sym fails ∙ big.whole_number)

mutual
  unfolding IsItem AreItems

  pub clean_item : (bytes : List ℕ) (around from to : ℕ) (f : FormTree) → IsItem bytes around from to f → IsDepth bytes from around →
      IsClean bytes around from to around
  clean_item bytes around from to (symbol text at) h depth = clean_token bytes from to around h.1
      (fits_by_symbol (slice_range bytes from to) h.3) depth
  clean_item bytes around from to (integer z at) h depth =
      clean_token bytes from to around h.1 (λ big. big.too_big (subst (λ n. FitsSigned w64 n) h.3 h.4)) depth
  clean_item bytes around from to (list fs at) h depth =
      let close = h.3.0 in
      let inner = clean_items bytes (around + 1) (from + 1) close fs h.3.3 (depth_after_open bytes from around depth h.2) in
      subst (λ n. IsClean bytes around from n around) (sym h.3.1) (clean_close bytes from close around h.3.2
      (clean_open bytes from close around (around + 1) h.2 h.1 depth inner))

  pub clean_items : (bytes : List ℕ) (around from to : ℕ) (fs : FormTrees) → AreItems bytes around from to fs → IsDepth bytes from around →
      IsClean bytes around from to around
  clean_items bytes around from to no_form h depth = clean_gap bytes from to around h depth
  clean_items bytes around from to (more_forms f fs) h depth =
      let gap = clean_gap bytes from h.0 around h.2 depth in
      let first = clean_item bytes around h.0 h.1 f h.3 gap.at_end in
      let rest = clean_items bytes around h.1 to fs h.4 first.at_end in
      clean_join bytes around from h.0 to around around gap (clean_join bytes around h.0 h.1 to around around first rest)

pub clean_nested : (bytes : List ℕ) (around from at : ℕ) (os : List OpenList) (forms : FormTrees) → Nested bytes around from os forms at →
    IsDepth bytes from around → IsClean bytes around from at (around + length os)
unfolding Nested
clean_nested bytes around from at [] forms h depth =
    let e : around ≡ around + 0 = omega arith in
    subst (λ n. IsClean bytes around from at n) e (clean_items bytes around from at forms h depth)
clean_nested bytes around from at (o ∷ os) forms h depth =
    let before = clean_items bytes around from o.at (trees_of o.forms) h.0 depth in
    let inside = clean_nested bytes (around + 1) (o.at + 1) at os forms h.3 (depth_after_open bytes o.at around before.at_end h.2) in
    let e : around + 1 + length os ≡ around + length (o ∷ os) = omega arith in
    let all = clean_join bytes around from o.at at around (around + 1 + length os) before
    (clean_open bytes o.at at around (around + 1 + length os) h.2 h.1 before.at_end inside) in
    subst (λ n. IsClean bytes around from at n) e all
