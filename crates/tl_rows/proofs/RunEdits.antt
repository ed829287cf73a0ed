-- Runs of which one is edited, and the ends after it.
use Rattle.std.proofs.Common.{◌≡◌, ℕ, zero, suc, ◌+◌, ◌-◌, ◌<◌, ◌≤◌, ◌^◌, List, [], ◌∷◌, ◌++◌, map, length, length-append, get_or, take}
use Rattle.std.proofs.Common.{drop, refl, sym, ap, ◌∙◌, subst, arith}
use Rattle.std.proofs.Math.ListN.{set}
use Rattle.std.proofs.lemmas.List.Edits.{length-insert, length-remove}
use Rattle.std.specs.List.{insert, remove}
use Rattle.tl_syntax.specs.declared.value.Value.{Value}
use Rattle.tl_rows.specs.declared.shared.Run.{Run}
use Rattle.tl_rows.specs.Runs.{lowered, raised, rows_in, run_place, AreCounted}
use Rattle.tl_rows.proofs.Joined.{found-end, end-is-place}
use Rattle.tl_rows.proofs.Parts.{insert-back, remove-back}

module _ {X : Type 0} where
  remove-front : (s t : List X) (k : ℕ) → k < length s → remove s k ++ t ≡ remove (s ++ t) k
  remove-front [] t k p = absurd (omega (arith, p))
  remove-front (y ∷ s) t zero p = refl
  remove-front (y ∷ s) t (suc k) p = ap (λ ys. y ∷ ys) (remove-front s t k (omega (arith, p)))

  insert-front : (s t : List X) (k : ℕ) (x : X) → k ≤ length s → insert s k x ++ t ≡ insert (s ++ t) k x
  insert-front [] t zero x p = refl
  insert-front [] t (suc k) x p = absurd (omega (arith, p))
  insert-front (y ∷ s) t zero x p = refl
  insert-front (y ∷ s) t (suc k) x p = ap (λ ys. y ∷ ys) (insert-front s t k x (omega (arith, p)))

-- run i is the one in which row k stands, and begins at place b
pub record IsRunOf (rs : List Run) (i b k : ℕ) (d : Run) : Type 0 where
  pub below : i < length rs
  pub place : b ≡ run_place rs i
  pub from : b ≤ k
  pub to : k < b + length (get_or rs i d).rows.value
  pub end : (get_or rs i d).end ≡ b + length (get_or rs i d).rows.value

pub run-found : (rs s t : List Run) (i b k : ℕ) (d : Run) → s ≡ rs → t ≡ rs → AreCounted 0 rs → i < length s → run_place s i ≤ k →
    k < run_place s (i + 1) → b ≡ run_place t i → IsRunOf rs i b k d
run-found rs s t i b k d e f h p low high is =
    let below : i < length rs = subst (λ xs. i < length xs) e p in
    let start : run_place s i ≡ run_place rs i = ap (λ xs. run_place xs i) e in
    let next : run_place s (i + 1) ≡ run_place rs (i + 1) = ap (λ xs. run_place xs (i + 1)) e in
    let place : b ≡ run_place rs i = is ∙ ap (λ xs. run_place xs i) f in
    let far = found-end rs rs i b d refl h below place in
    record {
      below = below;
      place = place;
      from = omega (arith, low, start, place);
      to = omega (arith, high, next, far);
      end = end-is-place rs i d h below ∙ far;
    }

-- one more item of those from a place on
module _ {X : Type 0} (f : X → X) where
  pub one-more : (xs : List X) (j : ℕ) (d : X) → j < length xs → set (take (suc j) xs ++ map f (drop (suc j) xs)) j (f (get_or xs j d)) ≡
      take j xs ++ map f (drop j xs)
  one-more [] j d p = absurd (omega (arith, p))
  one-more (x ∷ xs) zero d p = refl
  one-more (x ∷ xs) (suc j) d p = ap (λ ys. x ∷ ys) (one-more xs j d (omega (arith, p)))

  pub not-yet : (xs : List X) (j : ℕ) (d : X) → j < length xs → get_or (take (suc j) xs ++ map f (drop (suc j) xs)) j d ≡ get_or xs j d
  not-yet [] j d p = absurd (omega (arith, p))
  not-yet (x ∷ xs) zero d p = refl
  not-yet (x ∷ xs) (suc j) d p = not-yet xs j d (omega (arith, p))

  pub same-length : (xs : List X) (j : ℕ) → length (take j xs ++ map f (drop j xs)) ≡ length xs
  same-length [] zero = refl
  same-length [] (suc j) = refl
  same-length (x ∷ xs) zero = ap suc (same-length xs zero)
  same-length (x ∷ xs) (suc j) = ap suc (same-length xs j)

lowered-counted : (m e : ℕ) (rs : List Run) → AreCounted e rs → e ≡ suc m → AreCounted m (map lowered rs)
lowered-counted m e [] h is = tt
lowered-counted m e (r ∷ rs) h is =
    let a = h.0.0 in
    let b = h.0.1 in
    let c = h.0.2 in (
      (omega (arith, a, is), omega (arith, b), omega (arith, c, is, a)),
      lowered-counted (r.end - 1) r.end rs h.1 (omega (arith, a)),
    )

raised-counted : (m e : ℕ) (rs : List Run) → AreCounted e rs → m ≡ suc e → e + length (rows_in rs) + 1 < 2 ^ 63 →
    AreCounted m (map raised rs)
raised-counted m e [] h is p = tt
raised-counted m e (r ∷ rs) h is p =
    let a = h.0.0 in
    let c = h.0.2 in
    let l = length-append r.rows.value (rows_in rs) in
    let now : (raised r).end ≡ r.end + 1 = omega (arith, c, l, p) in (
      (omega (arith, a, is, now), omega (arith, c, l, p, now), omega (arith, c, is, now)),
      raised-counted (raised r).end r.end rs h.1 (omega (arith, now)) (omega (arith, c, l, p)),
    )

module _ (r d : Run) where
  -- the run i was edited, and each end from it on is one less
  pub cut-counted : (n : ℕ) (rs : List Run) (i k : ℕ) → AreCounted n rs → i < length rs → r.end ≡ (get_or rs i d).end → r.rows.value ≡
      remove (get_or rs i d).rows.value k → k < length (get_or rs i d).rows.value → 1 < length (get_or rs i d).rows.value
      → AreCounted n (take i (set rs i r) ++ map lowered (drop i (set rs i r)))
  cut-counted n [] i k h p e is q two = absurd (omega (arith, p))
  cut-counted n (x ∷ rs) zero k h p e is q two =
      let b = h.0.1 in
      let c = h.0.2 in
      let l = length-remove x.rows.value k q in
      let s = ap length is in (
        (omega (arith, c, l, s, e, two), omega (arith, b, e), omega (arith, c, l, s, e, two)),
        lowered-counted (r.end - 1) x.end rs h.1 (omega (arith, c, e, two)),
      )
  cut-counted n (x ∷ rs) (suc i) k h p e is q two = (h.0, cut-counted x.end rs i k h.1 (omega (arith, p)) e is q two)

  -- and each is one more
  pub put-counted : (n : ℕ) (rs : List Run) (i k : ℕ) (row : List Value) → AreCounted n rs → i < length rs → r.end ≡ (get_or rs i d).end →
      r.rows.value ≡ insert (get_or rs i d).rows.value k row → k ≤ length (get_or rs i d).rows.value → n + length (rows_in rs) + 1 < 2 ^ 63
      → AreCounted n (take i (set rs i r) ++ map raised (drop i (set rs i r)))
  put-counted n [] i k row h p e is q small = absurd (omega (arith, p))
  put-counted n (x ∷ rs) zero k row h p e is q small =
      let c = h.0.2 in
      let t = length-append x.rows.value (rows_in rs) in
      let l = length-insert x.rows.value k row q in
      let s = ap length is in
      let now : (raised r).end ≡ x.end + 1 = omega (arith, c, t, e, small) in (
        (omega (arith, c, l, s, now), omega (arith, c, t, small, now), omega (arith, c, l, s, now)),
        raised-counted (raised r).end x.end rs h.1 (omega (arith, now)) (omega (arith, c, t, small)),
      )
  put-counted n (x ∷ rs) (suc i) k row h p e is q small =
      let c = h.0.2 in
      let t = length-append x.rows.value (rows_in rs) in
      (h.0, put-counted x.end rs i k row h.1 (omega (arith, p)) e is q (omega (arith, c, t, small)))

  -- it has as many rows as before
  pub same-counted : (n : ℕ) (rs : List Run) (i : ℕ) → AreCounted n rs → i < length rs → r.end ≡ (get_or rs i d).end → length r.rows.value ≡
      length (get_or rs i d).rows.value → AreCounted n (set rs i r)
  same-counted n [] i h p e s = absurd (omega (arith, p))
  same-counted n (x ∷ rs) zero h p e s =
      let a = h.0.0 in
      let b = h.0.1 in
      let c = h.0.2 in (
        (omega (arith, a, e), omega (arith, b, e), omega (arith, c, e, s)),
        subst (λ m. AreCounted m rs) (sym e) h.1,
      )
  same-counted n (x ∷ rs) (suc i) h p e s = (h.0, same-counted x.end rs i h.1 (omega (arith, p)) e s)

  -- the rows of all runs
  pub cut-rows : (rs : List Run) (i k j : ℕ) → i < length rs → r.rows.value ≡ remove (get_or rs i d).rows.value k →
      k < length (get_or rs i d).rows.value → j ≡ run_place rs i + k → rows_in (set rs i r) ≡ remove (rows_in rs) j
  cut-rows [] i k j p is q e = absurd (omega (arith, p))
  cut-rows (x ∷ rs) zero k j p is q e = ap (λ ys. ys ++ rows_in rs) is ∙
      (remove-front x.rows.value (rows_in rs) k q ∙ ap (remove (x.rows.value ++ rows_in rs)) (let m : k ≡ j = omega (arith, e) in m))
  cut-rows (x ∷ rs) (suc i) k j p is q e =
      let l = length-append x.rows.value (rows_in (take i rs)) in
      ap (λ ys. x.rows.value ++ ys) (cut-rows rs i k (run_place rs i + k) (omega (arith, p)) is q refl)
      ∙ remove-back x.rows.value (rows_in rs) (run_place rs i + k) j (omega (arith, l, e))

  pub put-rows : (rs : List Run) (i k j : ℕ) (row : List Value) → i < length rs → r.rows.value ≡ insert (get_or rs i d).rows.value k row →
      k ≤ length (get_or rs i d).rows.value → j ≡ run_place rs i + k → rows_in (set rs i r) ≡ insert (rows_in rs) j row
  put-rows [] i k j row p is q e = absurd (omega (arith, p))
  put-rows (x ∷ rs) zero k j row p is q e = ap (λ ys. ys ++ rows_in rs) is ∙
      (insert-front x.rows.value (rows_in rs) k row q ∙ ap (λ m. insert (x.rows.value ++ rows_in rs) m row)
      (let m : k ≡ j = omega (arith, e) in m))
  put-rows (x ∷ rs) (suc i) k j row p is q e =
      let l = length-append x.rows.value (rows_in (take i rs)) in
      ap (λ ys. x.rows.value ++ ys) (put-rows rs i k (run_place rs i + k) row (omega (arith, p)) is q refl)
      ∙ insert-back x.rows.value (rows_in rs) (run_place rs i + k) j row (omega (arith, l, e))

  pub same-rows : (rs : List Run) (i : ℕ) → i < length rs → r.rows.value ≡ (get_or rs i d).rows.value → rows_in (set rs i r) ≡ rows_in rs
  same-rows [] i p is = absurd (omega (arith, p))
  same-rows (x ∷ rs) zero p is = ap (λ ys. ys ++ rows_in rs) is
  same-rows (x ∷ rs) (suc i) p is = ap (λ ys. x.rows.value ++ ys) (same-rows rs i (omega (arith, p)) is)

-- other ends change no rows
pub lowered-rows : (rs : List Run) (i : ℕ) → rows_in (take i rs ++ map lowered (drop i rs)) ≡ rows_in rs
lowered-rows [] zero = refl
lowered-rows [] (suc i) = refl
lowered-rows (x ∷ rs) zero = ap (λ ys. x.rows.value ++ ys) (lowered-rows rs zero)
lowered-rows (x ∷ rs) (suc i) = ap (λ ys. x.rows.value ++ ys) (lowered-rows rs i)

pub raised-rows : (rs : List Run) (i : ℕ) → rows_in (take i rs ++ map raised (drop i rs)) ≡ rows_in rs
raised-rows [] zero = refl
raised-rows [] (suc i) = refl
raised-rows (x ∷ rs) zero = ap (λ ys. x.rows.value ++ ys) (raised-rows rs zero)
raised-rows (x ∷ rs) (suc i) = ap (λ ys. x.rows.value ++ ys) (raised-rows rs i)
