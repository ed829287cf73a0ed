-- Bytes have at most one fault, and none where they spell forms.
use Rattle.std.proofs.Common.{◌≡◌, ℕ, ◌+◌, ◌<◌, ◌⊎◌, List, ◌∷◌, length, inl, inr, refl, sym, ◌∙◌, ap, subst, arith}
use Rattle.std.proofs.lemmas.Bool.{cases_lt, false≢true}
use Rattle.tl_sexpr.specs.declared.fault.TextFault.{TextFault}
use Rattle.tl_sexpr.specs.declared.fault.TextFault.TheVariants.{BadByte, StrayClose, Unclosed, TooDeep, BigInteger, NoMemory}
use Rattle.tl_sexpr.specs.declared.reader.OpenList.{OpenList}
use Rattle.tl_sexpr.specs.Bytes.{StandsAt}
use Rattle.tl_sexpr.specs.Faults.{IsBadByte, IsStrayClose, IsTooDeep, IsBigInteger, FaultAt, bad_byte, stray_close, too_deep, big_integer}
use Rattle.tl_sexpr.specs.Faults.{NoFaultBefore, IsUnclosed, IsFaultOf}
use Rattle.tl_sexpr.specs.Reading.{Nested}
use Rattle.tl_sexpr.specs.Spelling.{Spells}
use Rattle.tl_sexpr.specs.Tree.{FormTrees, trees_of}
use Rattle.tl_sexpr.proofs.Clean.{clean_items, clean_nested, not_in_token}
use Rattle.tl_sexpr.proofs.Depths.{depth_unique, depth_at_start, depth_after_open, not_both}

-- the first of the faults stands at one offset
least : (bytes : List ℕ) (j k : ℕ) → FaultAt bytes j → FaultAt bytes k → NoFaultBefore bytes j → NoFaultBefore bytes k → j ≡ k
least bytes j k p q before_j before_k =
    elim (cases_lt j k) [
      | inl l ↦ absurd (before_k j l p)
      | inr l ↦ elim (cases_lt k j) [ inl m ↦ absurd (before_j k m q) | inr m ↦ omega arith ]
    ]

first_byte : (bytes : List ℕ) (k : ℕ) (b : IsBigInteger bytes k) → (c : ℕ) → StandsAt bytes k c → (c ≡ 40) ⊎ (c ≡ 41) → ⊥
first_byte bytes k b c stands (inl e) = let some = b.token.some in not_in_token bytes k 40 (b.token.each k (omega arith) some) refl
    (subst (StandsAt bytes k) e stands)
first_byte bytes k b c stands (inr e) = let some = b.token.some in not_in_token bytes k 41 (b.token.each k (omega arith) some) refl
    (subst (StandsAt bytes k) e stands)

-- at one offset two kinds do not stand
bad_or_big : (bytes : List ℕ) (k : ℕ) → IsBadByte bytes k → IsBigInteger bytes k → ⊥
bad_or_big bytes k b c = let some = c.token.some in false≢true (sym b.no_token_byte ∙ (c.token.each k (omega arith) some).token_byte)

stray_or_deep : (bytes : List ℕ) (k : ℕ) → IsStrayClose bytes k → IsTooDeep bytes k → ⊥
stray_or_deep bytes k b c = not_both bytes k 41 40 (λ e. absurd (omega arith)) b.close c.open_list

within : (bytes : List ℕ) (k : ℕ) → FaultAt bytes k → k < length bytes
within bytes k (bad_byte b) = b.within
within bytes k (stray_close b) = b.close.within
within bytes k (too_deep b) = b.open_list.within
within bytes k (big_integer b) = let some = b.token.some in (b.token.each k (omega arith) some).within

unclosed_or : (bytes : List ℕ) (j k : ℕ) → IsUnclosed bytes j → FaultAt bytes k → ⊥
unclosed_or bytes j k p q = p.faultless k (within bytes k q) q

one_unclosed : (bytes : List ℕ) (j k : ℕ) → IsUnclosed bytes j → IsUnclosed bytes k → j ≡ k
one_unclosed bytes j k p q =
    elim (cases_lt j k) [
      | inl l ↦ absurd (p.last k l q.open_list q.outermost)
      | inr l ↦ elim (cases_lt k j) [ inl m ↦ absurd (q.last j m p.open_list p.outermost) | inr m ↦ omega arith ]
    ]

pub one_fault : (bytes : List ℕ) (f g : TextFault) → IsFaultOf bytes f → IsFaultOf bytes g → f ≡ g
one_fault bytes (BadByte j) (BadByte k) p q = ap BadByte (least bytes j k (bad_byte p.0) (bad_byte q.0) p.1 q.1)
one_fault bytes (BadByte j) (StrayClose k) p q = let e = least bytes j k (bad_byte p.0) (stray_close q.0) p.1 q.1 in
    absurd ((subst (IsBadByte bytes) e p.0).no_close q.0.close.is)
one_fault bytes (BadByte j) (TooDeep k) p q = let e = least bytes j k (bad_byte p.0) (too_deep q.0) p.1 q.1 in
    absurd ((subst (IsBadByte bytes) e p.0).no_open q.0.open_list.is)
one_fault bytes (BadByte j) (BigInteger k) p q = let e = least bytes j k (bad_byte p.0) (big_integer q.0) p.1 q.1 in
    absurd (bad_or_big bytes k (subst (IsBadByte bytes) e p.0) q.0)
one_fault bytes (BadByte j) (Unclosed k) p q = absurd (unclosed_or bytes k j q (bad_byte p.0))
one_fault bytes (StrayClose j) (BadByte k) p q = let e = least bytes k j (bad_byte q.0) (stray_close p.0) q.1 p.1 in
    absurd ((subst (IsBadByte bytes) e q.0).no_close p.0.close.is)
one_fault bytes (StrayClose j) (StrayClose k) p q = ap StrayClose (least bytes j k (stray_close p.0) (stray_close q.0) p.1 q.1)
one_fault bytes (StrayClose j) (TooDeep k) p q = let e = least bytes j k (stray_close p.0) (too_deep q.0) p.1 q.1 in
    absurd (stray_or_deep bytes k (subst (IsStrayClose bytes) e p.0) q.0)
one_fault bytes (StrayClose j) (BigInteger k) p q = let e = least bytes j k (stray_close p.0) (big_integer q.0) p.1 q.1 in
    absurd (first_byte bytes k q.0 41 (subst (IsStrayClose bytes) e p.0).close (inr refl))
one_fault bytes (StrayClose j) (Unclosed k) p q = absurd (unclosed_or bytes k j q (stray_close p.0))
one_fault bytes (TooDeep j) (BadByte k) p q = let e = least bytes k j (bad_byte q.0) (too_deep p.0) q.1 p.1 in
    absurd ((subst (IsBadByte bytes) e q.0).no_open p.0.open_list.is)
one_fault bytes (TooDeep j) (StrayClose k) p q = let e = least bytes k j (stray_close q.0) (too_deep p.0) q.1 p.1 in
    absurd (stray_or_deep bytes j (subst (IsStrayClose bytes) e q.0) p.0)
one_fault bytes (TooDeep j) (TooDeep k) p q = ap TooDeep (least bytes j k (too_deep p.0) (too_deep q.0) p.1 q.1)
one_fault bytes (TooDeep j) (BigInteger k) p q = let e = least bytes j k (too_deep p.0) (big_integer q.0) p.1 q.1 in
    absurd (first_byte bytes k q.0 40 (subst (IsTooDeep bytes) e p.0).open_list (inl refl))
one_fault bytes (TooDeep j) (Unclosed k) p q = absurd (unclosed_or bytes k j q (too_deep p.0))
one_fault bytes (BigInteger j) (BadByte k) p q = let e = least bytes k j (bad_byte q.0) (big_integer p.0) q.1 p.1 in
    absurd (bad_or_big bytes j (subst (IsBadByte bytes) e q.0) p.0)
one_fault bytes (BigInteger j) (StrayClose k) p q = let e = least bytes k j (stray_close q.0) (big_integer p.0) q.1 p.1 in
    absurd (first_byte bytes j p.0 41 (subst (IsStrayClose bytes) e q.0).close (inr refl))
one_fault bytes (BigInteger j) (TooDeep k) p q = let e = least bytes k j (too_deep q.0) (big_integer p.0) q.1 p.1 in
    absurd (first_byte bytes j p.0 40 (subst (IsTooDeep bytes) e q.0).open_list (inl refl))
one_fault bytes (BigInteger j) (BigInteger k) p q = ap BigInteger (least bytes j k (big_integer p.0) (big_integer q.0) p.1 q.1)
one_fault bytes (BigInteger j) (Unclosed k) p q = absurd (unclosed_or bytes k j q (big_integer p.0))
one_fault bytes (Unclosed j) (BadByte k) p q = absurd (unclosed_or bytes j k p (bad_byte q.0))
one_fault bytes (Unclosed j) (StrayClose k) p q = absurd (unclosed_or bytes j k p (stray_close q.0))
one_fault bytes (Unclosed j) (TooDeep k) p q = absurd (unclosed_or bytes j k p (too_deep q.0))
one_fault bytes (Unclosed j) (BigInteger k) p q = absurd (unclosed_or bytes j k p (big_integer q.0))
one_fault bytes (Unclosed j) (Unclosed k) p q = ap Unclosed (one_unclosed bytes j k p q)
one_fault bytes NoMemory g p q = absurd p
one_fault bytes f NoMemory p q = absurd q

-- bytes that spell forms have no fault
pub no_fault_if_spelled : (bytes : List ℕ) (fs : FormTrees) → Spells bytes fs → (f : TextFault) → ¬ IsFaultOf bytes f
no_fault_if_spelled bytes fs spells (BadByte k) p = (clean_items bytes 0 0 (length bytes) fs spells (depth_at_start bytes)).faultless k
    (omega arith) p.0.within (bad_byte p.0)
no_fault_if_spelled bytes fs spells (StrayClose k) p = (clean_items bytes 0 0 (length bytes) fs spells (depth_at_start bytes)).faultless k
    (omega arith) p.0.close.within (stray_close p.0)
no_fault_if_spelled bytes fs spells (TooDeep k) p = (clean_items bytes 0 0 (length bytes) fs spells (depth_at_start bytes)).faultless k
    (omega arith) p.0.open_list.within (too_deep p.0)
no_fault_if_spelled bytes fs spells (BigInteger k) p = (clean_items bytes 0 0 (length bytes) fs spells (depth_at_start bytes)).faultless k
    (omega arith) (within bytes k (big_integer p.0)) (big_integer p.0)
no_fault_if_spelled bytes fs spells (Unclosed k) p =
    let end = (clean_items bytes 0 0 (length bytes) fs spells (depth_at_start bytes)).at_end in
    let same = depth_unique bytes (length bytes) p.depth 0 p.at_end end in
    let some = p.some in
    absurd (omega arith)
no_fault_if_spelled bytes fs spells NoMemory p = p

-- lists that are open at the end
pub unclosed : (bytes : List ℕ) (o : OpenList) (os : List OpenList) (forms : FormTrees) → Nested bytes 0 0 (o ∷ os) forms (length bytes) →
    IsUnclosed bytes o.at
unfolding Nested
unclosed bytes o os forms h =
    let whole = clean_nested bytes 0 0 (length bytes) (o ∷ os) forms h (depth_at_start bytes) in
    let before = clean_items bytes 0 0 o.at (trees_of o.forms) h.0 (depth_at_start bytes) in
    let inside = clean_nested bytes 1 (o.at + 1) (length bytes) os forms h.3 (depth_after_open bytes o.at 0 before.at_end h.2) in
    record {
      faultless = λ k high. whole.faultless k (omega arith) high;
      depth = 0 + length (o ∷ os);
      at_end = whole.at_end;
      some = omega arith;
      open_list = h.2;
      outermost = before.at_end;
      last = λ j after stands p. let deep = inside.deep j (omega arith) stands.within 0 p in absurd (omega arith);
    }
