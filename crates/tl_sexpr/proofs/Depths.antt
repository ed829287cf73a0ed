-- The depth along the bytes.
use Rattle.std.proofs.Common.{◌≡◌, ℕ, zero, suc, ◌+◌, ◌-◌, ◌<◌, ◌≤◌, List, inl, inr, refl, sym, ◌∙◌, subst, arith, add-one, add-zero}
use Rattle.tl_sexpr.specs.Bytes.{StandsAt}
use Rattle.tl_sexpr.specs.Faults.{IsCount, IsDepth}

count_unique : (bytes : List ℕ) (c k x y : ℕ) → IsCount bytes c k x → IsCount bytes c k y → x ≡ y
unfolding IsCount
count_unique bytes c zero x y p q = p ∙ sym q
count_unique bytes c (suc k) x y (inl p) (inl q) = let same = count_unique bytes c k p.1.0 q.1.0 p.1.2 q.1.2 in omega (arith, p.1.1, q.1.1)
count_unique bytes c (suc k) x y (inl p) (inr q) = absurd (q.0 p.0)
count_unique bytes c (suc k) x y (inr p) (inl q) = absurd (p.0 q.0)
count_unique bytes c (suc k) x y (inr p) (inr q) = count_unique bytes c k x y p.1 q.1

count_one : (bytes : List ℕ) (c k x : ℕ) → IsCount bytes c k x → StandsAt bytes k c → IsCount bytes c (k + 1) (x + 1)
unfolding IsCount
count_one bytes c k x p stands = rw (add-one k) (inl (stands, (x, refl, p)))

count_same : (bytes : List ℕ) (c k x : ℕ) → IsCount bytes c k x → ¬ StandsAt bytes k c → IsCount bytes c (k + 1) x
unfolding IsCount
count_same bytes c k x p other = rw (add-one k) (inr (other, p))

count_along : (bytes : List ℕ) (c from x d : ℕ) → IsCount bytes c from x → ((k : ℕ) → from ≤ k → k < from + d → ¬ StandsAt bytes k c) →
    IsCount bytes c (from + d) x
count_along bytes c from x zero p other = rw (add-zero from) p
count_along bytes c from x (suc d) p other =
    let shorter = count_along bytes c from x d p (λ k low high. other k low (omega arith)) in
    let e : (from + d) + 1 ≡ from + suc d = omega arith in
    subst (λ n. IsCount bytes c n x) e (count_same bytes c (from + d) x shorter (other (from + d) (omega arith) (omega arith)))

pub depth_unique : (bytes : List ℕ) (k d e : ℕ) → IsDepth bytes k d → IsDepth bytes k e → d ≡ e
depth_unique bytes k d e p q =
    let opens = count_unique bytes 40 k p.opens q.opens p.opened q.opened in
    let closes = count_unique bytes 41 k p.closes q.closes p.closed q.closed in
    omega (arith, p.more, q.more)

pub depth_at_start : (bytes : List ℕ) → IsDepth bytes 0 0
unfolding IsCount
depth_at_start bytes = record { opens = 0; closes = 0; opened = refl; closed = refl; more = refl }

-- no parenthesis stands at an offset of the range
abbrev pub NoParenthesis : List ℕ → ℕ → ℕ → Type 0
NoParenthesis bytes from to = (k : ℕ) → from ≤ k → k < to → (¬ StandsAt bytes k 40) × (¬ StandsAt bytes k 41)

pub depth_same : (bytes : List ℕ) (from to d : ℕ) → from ≤ to → IsDepth bytes from d → NoParenthesis bytes from to → IsDepth bytes to d
depth_same bytes from to d ordered p none =
    let e : from + (to - from) ≡ to = omega arith in
    record {
      opens = p.opens;
      closes = p.closes;
      opened = subst (λ n. IsCount bytes 40 n p.opens) e (count_along bytes 40 from p.opens (to - from) p.opened
          (λ k low high. (none k low (omega arith)).0));
      closed = subst (λ n. IsCount bytes 41 n p.closes) e (count_along bytes 41 from p.closes (to - from) p.closed
          (λ k low high. (none k low (omega arith)).1));
      more = p.more;
    }

-- one byte is not two
pub not_both : (bytes : List ℕ) (k c d : ℕ) → (c ≡ d → ⊥) → StandsAt bytes k c → ¬ StandsAt bytes k d
not_both bytes k c d apart p q = apart (sym p.is ∙ q.is)

pub depth_after_open : (bytes : List ℕ) (k d : ℕ) → IsDepth bytes k d → StandsAt bytes k 40 → IsDepth bytes (k + 1) (d + 1)
depth_after_open bytes k d p stands = record {
  opens = p.opens + 1;
  closes = p.closes;
  opened = count_one bytes 40 k p.opens p.opened stands;
  closed = count_same bytes 41 k p.closes p.closed (not_both bytes k 40 41 (λ e. absurd (omega arith)) stands);
  more = omega (arith, p.more);
}

pub depth_after_close : (bytes : List ℕ) (k d : ℕ) → IsDepth bytes k (d + 1) → StandsAt bytes k 41 → IsDepth bytes (k + 1) d
depth_after_close bytes k d p stands = record {
  opens = p.opens;
  closes = p.closes + 1;
  opened = count_same bytes 40 k p.opens p.opened (not_both bytes k 41 40 (λ e. absurd (omega arith)) stands);
  closed = count_one bytes 41 k p.closes p.closed stands;
  more = omega (arith, p.more);
}
