-- Bytes spell at most one list of forms.
use Rattle.std.proofs.Common.{◌≡◌, ℕ, ◌+◌, ◌<◌, ◌≤◌, ◌⊎◌, List, length, slice_range, true, false, inl, inr, refl, sym, ◌∙◌, ap, ap₂, subst}
use Rattle.std.proofs.Common.{arith}
use Rattle.std.proofs.lemmas.Bool.{cases_lt, false≢true}
use Rattle.tl_sexpr.specs.Bytes.{StandsAt, IsTokenAt}
use Rattle.tl_sexpr.specs.Spelling.{IsGap, IsToken, IsItem, AreItems, Spells, spells_integer, integer_value}
use Rattle.tl_sexpr.specs.Tree.{FormTree, FormTrees, symbol, integer, list, no_form, more_forms}
use Rattle.tl_sexpr.proofs.Clean.{not_in_gap, no_token_in_gap, not_in_token, one_token_end}
use Rattle.tl_sexpr.proofs.Depths.{not_both}

-- where a run of items may end: at a `)` or at the end of the bytes
abbrev IsEnd : List ℕ → ℕ → Type 0
IsEnd bytes to = StandsAt bytes to 41 ⊎ (to ≡ length bytes)

end_bounded : (bytes : List ℕ) (to : ℕ) → IsEnd bytes to → to ≤ length bytes
end_bounded bytes to (inl stands) = omega (arith, stands.within)
end_bounded bytes to (inr e) = omega (arith, e)

end_not_in_gap : (bytes : List ℕ) (from to k : ℕ) → IsGap bytes from to → from ≤ k → k < to → to ≤ length bytes → IsEnd bytes k → ⊥
end_not_in_gap bytes from to k gap low high bounded (inl stands) = not_in_gap bytes from to k 41 gap low high refl stands
end_not_in_gap bytes from to k gap low high bounded (inr e) = absurd (omega (arith, e))

-- an item begins with a byte of a token or a `(`
abbrev Begins : List ℕ → ℕ → Type 0
Begins bytes k = IsTokenAt bytes k ⊎ StandsAt bytes k 40

first_of_item : (bytes : List ℕ) (around from to : ℕ) (f : FormTree) → IsItem bytes around from to f → Begins bytes from
unfolding IsItem
first_of_item bytes around from to (symbol text at) h = let some = h.1.some in inl (h.1.each from (omega arith) some)
first_of_item bytes around from to (integer z at) h = let some = h.1.some in inl (h.1.each from (omega arith) some)
first_of_item bytes around from to (list fs at) h = inr h.2

begin_not_in_gap : (bytes : List ℕ) (from to k : ℕ) → IsGap bytes from to → from ≤ k → k < to → Begins bytes k → ⊥
begin_not_in_gap bytes from to k gap low high (inl token) = no_token_in_gap bytes from to k gap low high token
begin_not_in_gap bytes from to k gap low high (inr stands) = not_in_gap bytes from to k 40 gap low high refl stands

begin_is_no_end : (bytes : List ℕ) (k : ℕ) → Begins bytes k → IsEnd bytes k → ⊥
begin_is_no_end bytes k (inl token) (inl stands) = not_in_token bytes k 41 token refl stands
begin_is_no_end bytes k (inl token) (inr e) = absurd (omega (arith, token.within, e))
begin_is_no_end bytes k (inr opening) (inl stands) = not_both bytes k 40 41 (λ e. absurd (omega arith)) opening stands
begin_is_no_end bytes k (inr opening) (inr e) = absurd (omega (arith, opening.within, e))

begin_bounded : (bytes : List ℕ) (k : ℕ) → Begins bytes k → k < length bytes
begin_bounded bytes k (inl token) = token.within
begin_bounded bytes k (inr stands) = stands.within

-- two gaps from one offset, each up to an end
one_end : (bytes : List ℕ) (from to end : ℕ) → IsGap bytes from to → IsGap bytes from end → IsEnd bytes to → IsEnd bytes end → to ≡ end
one_end bytes from to end g h e d =
    elim (cases_lt to end) [
      | inl l ↦ absurd (end_not_in_gap bytes from end to h g.ordered l (end_bounded bytes end d) e)
      | inr l ↦ elim (cases_lt end to) [
        | inl m ↦ absurd (end_not_in_gap bytes from to end g h.ordered m (end_bounded bytes to e) d)
        | inr m ↦ omega arith
      ]
    ]

-- a gap up to an end, and one up to an item
end_or_item : (bytes : List ℕ) (from to first : ℕ) → IsGap bytes from to → IsGap bytes from first → IsEnd bytes to → Begins bytes first → ⊥
end_or_item bytes from to first g h e b =
    let bounded = begin_bounded bytes first b in
    elim (cases_lt first to) [
      | inl l ↦ begin_not_in_gap bytes from to first g h.ordered l b
      | inr l ↦ elim (cases_lt to first) [
        | inl m ↦ end_not_in_gap bytes from first to h g.ordered m (omega arith) e
        | inr m ↦ (let same : to ≡ first = omega arith in begin_is_no_end bytes first b (subst (IsEnd bytes) same e))
      ]
    ]

-- two gaps from one offset, each up to an item
one_first : (bytes : List ℕ) (from first other : ℕ) → IsGap bytes from first → IsGap bytes from other → Begins bytes first →
    Begins bytes other → first ≡ other
one_first bytes from first other g h b c =
    elim (cases_lt first other) [
      | inl l ↦ absurd (begin_not_in_gap bytes from other first h g.ordered l b)
      | inr l ↦ elim (cases_lt other first) [
        | inl m ↦ absurd (begin_not_in_gap bytes from first other g h.ordered m c)
        | inr m ↦ omega arith
      ]
    ]

token_or_list : (bytes : List ℕ) (from to : ℕ) → IsToken bytes from to → StandsAt bytes from 40 → ⊥
token_or_list bytes from to token stands = let some = token.some in not_in_token bytes from 40
    (token.each from (omega arith) some) refl stands

symbol_or_integer : (bytes : List ℕ) (from to end : ℕ) → IsToken bytes from to → IsToken bytes from end →
    spells_integer (slice_range bytes from to) ≡ false → spells_integer (slice_range bytes from end) ≡ true → ⊥
symbol_or_integer bytes from to end p q fails passes =
    let same = one_token_end bytes from to end p q in
    false≢true (sym fails ∙ (ap (λ n. spells_integer (slice_range bytes from n)) same ∙ passes))

mutual
  unfolding IsItem AreItems

  one_item : (bytes : List ℕ) (around from to end : ℕ) (f g : FormTree) → IsItem bytes around from to f → IsItem bytes around from end g →
      (to ≡ end) × (f ≡ g)
  one_item bytes around from to end (symbol s i) (symbol t j) p q =
      let same = one_token_end bytes from to end p.1 q.1 in
      let texts : s ≡ t = p.2 ∙ (ap (slice_range bytes from) same ∙ sym q.2) in
      (same, ap₂ symbol texts (p.0 ∙ sym q.0))
  one_item bytes around from to end (symbol s i) (integer y j) p q = absurd (symbol_or_integer bytes from to end p.1 q.1 p.3 q.2)
  one_item bytes around from to end (symbol s i) (list gs j) p q = absurd (token_or_list bytes from to p.1 q.2)
  one_item bytes around from to end (integer z i) (symbol t j) p q = absurd (symbol_or_integer bytes from end to q.1 p.1 q.3 p.2)
  one_item bytes around from to end (integer z i) (integer y j) p q =
      let same = one_token_end bytes from to end p.1 q.1 in
      let values : z ≡ y = p.3 ∙ (ap (λ n. integer_value (slice_range bytes from n)) same ∙ sym q.3) in
      (same, ap₂ integer values (p.0 ∙ sym q.0))
  one_item bytes around from to end (integer z i) (list gs j) p q = absurd (token_or_list bytes from to p.1 q.2)
  one_item bytes around from to end (list fs i) (symbol t j) p q = absurd (token_or_list bytes from end q.1 p.2)
  one_item bytes around from to end (list fs i) (integer y j) p q = absurd (token_or_list bytes from end q.1 p.2)
  one_item bytes around from to end (list fs i) (list gs j) p q =
      let inner = one_items bytes (around + 1) (from + 1) p.3.0 q.3.0 fs gs (inl p.3.2) (inl q.3.2) p.3.3 q.3.3 in
      (p.3.1 ∙ (ap (λ n. n + 1) inner.0 ∙ sym q.3.1), ap₂ list inner.1 (p.0 ∙ sym q.0))

  one_items : (bytes : List ℕ) (around from to end : ℕ) (fs gs : FormTrees) → IsEnd bytes to → IsEnd bytes end →
      AreItems bytes around from to fs → AreItems bytes around from end gs → (to ≡ end) × (fs ≡ gs)
  one_items bytes around from to end no_form no_form e d p q = (one_end bytes from to end p q e d, refl)
  one_items bytes around from to end no_form (more_forms g gs) e d p q =
      absurd (end_or_item bytes from to q.0 p q.2 e (first_of_item bytes around q.0 q.1 g q.3))
  one_items bytes around from to end (more_forms f fs) no_form e d p q =
      absurd (end_or_item bytes from end p.0 q p.2 d (first_of_item bytes around p.0 p.1 f p.3))
  one_items bytes around from to end (more_forms f fs) (more_forms g gs) e d p q =
      let first = one_first bytes from p.0 q.0 p.2 q.2 (first_of_item bytes around p.0 p.1 f p.3)
      (first_of_item bytes around q.0 q.1 g q.3) in
      let item = one_item bytes around q.0 p.1 q.1 f g (subst (λ n. IsItem bytes around n p.1 f) first p.3) q.3 in
      let rest = one_items bytes around q.1 to end fs gs e d (subst (λ n. AreItems bytes around n to fs) item.0 p.4) q.4 in
      (rest.0, ap₂ more_forms item.1 rest.1)

pub spelled_once : (bytes : List ℕ) (fs gs : FormTrees) → Spells bytes fs → Spells bytes gs → fs ≡ gs
spelled_once bytes fs gs p q = (one_items bytes 0 0 (length bytes) (length bytes) fs gs (inr refl) (inr refl) p q).1
