-- Rows in runs that follow one another.
use Rattle.std.proofs.Common.{◌≡◌, ℕ, zero, suc, ◌+◌, ◌-◌, ◌<◌, ◌≤◌, ◌^◌, List, [], ◌∷◌, ◌++◌, length, length-append, get_or, take, drop}
use Rattle.std.proofs.Common.{append_assoc, refl, sym, ap, ◌∙◌, subst, arith}
use Rattle.std.proofs.lemmas.List.{take_all, get_or-append-add}
use Rattle.std.proofs.Math.Seq.{take-append_seam, drop-append_seam}
use Rattle.tl_syntax.specs.declared.value.Value.{Value}
use Rattle.tl_rows.specs.declared.shared.Run.{Run}
use Rattle.std.proofs.Common.{◌≢◌, Greater, inl, inr}
use Rattle.std.proofs.lemmas.Bool.{cases_lt}
use Rattle.tl_rows.specs.Plain.{row_cmp}
use Rattle.tl_rows.specs.Runs.{between, rows_in, run_place, AreCounted, IsPart, IsPartFor}

append-none : {X : Type 0} (xs : List X) → xs ++ [] ≡ xs
append-none [] = refl
append-none (x ∷ xs) = ap (λ ys. x ∷ ys) (append-none xs)

-- what is counted of a run
pub record IsCounted (n : ℕ) (rs : List Run) (i : ℕ) (r : Run) : Type 0 where
  pub end : r.end ≡ n + run_place rs (suc i)
  pub place : run_place rs (suc i) ≡ run_place rs i + length r.rows.value
  pub some : 0 < length r.rows.value
  pub small : r.end < 2 ^ 63

pub counted-at : (n : ℕ) (rs : List Run) (i : ℕ) (d : Run) → AreCounted n rs → i < length rs → IsCounted n rs i (get_or rs i d)
counted-at n [] i d h p = absurd (omega arith)
counted-at n (r ∷ rs) zero d h p =
    let e : run_place (r ∷ rs) 1 ≡ length r.rows.value = ap length (append-none r.rows.value) in
    record {
      end = let f = h.0.2 in omega (arith, e, f);
      place = let z : run_place (r ∷ rs) 1 ≡ 0 + length r.rows.value = omega (arith, e) in z;
      some = let a = h.0.0 in let f = h.0.2 in omega (arith, a, f);
      small = h.0.1;
    }
counted-at n (r ∷ rs) (suc i) d h p =
    let c = counted-at r.end rs i d h.1 (omega arith) in
    let e0 : run_place (r ∷ rs) (suc i) ≡ length r.rows.value + run_place rs i = length-append r.rows.value (rows_in (take i rs)) in
    let e1 : run_place (r ∷ rs) (suc (suc i)) ≡ length r.rows.value + run_place rs (suc i) =
    length-append r.rows.value (rows_in (take (suc i) rs)) in
    record {
      end = let f = h.0.2 in let g = c.end in omega (arith, e1, f, g);
      place = let g = c.place in omega (arith, e0, e1, g);
      some = c.some;
      small = c.small;
    }

-- the rows before a run, its own, and those after it
pub rows_in-at : (rs : List Run) (i : ℕ) (d : Run) → i < length rs → rows_in rs ≡ rows_in (take i rs) ++
    ((get_or rs i d).rows.value ++ rows_in (drop (suc i) rs))
rows_in-at [] i d p = absurd (omega arith)
rows_in-at (r ∷ rs) zero d p = refl
rows_in-at (r ∷ rs) (suc i) d p = ap (λ ys. r.rows.value ++ ys) (rows_in-at rs i d (omega arith)) ∙
    sym (append_assoc r.rows.value (rows_in (take i rs)) ((get_or rs i d).rows.value ++ rows_in (drop (suc i) rs)))

-- all runs
pub place-of-end : (rs : List Run) (n : ℕ) → length rs ≤ n → run_place rs n ≡ length (rows_in rs)
place-of-end rs n p = ap (λ ys. length (rows_in ys)) (take_all n rs p)

-- where the last of some runs ends
pub place-before : (rs : List Run) (i : ℕ) (d : Run) → AreCounted 0 rs → 0 < i → i ≤ length rs →
    ((get_or rs (i - 1) d).end ≡ run_place rs i) × ((get_or rs (i - 1) d).end < 2 ^ 63)
place-before rs i d h p q =
    let c = counted-at 0 rs (i - 1) d h (omega (arith, p, q)) in
    let s : suc (i - 1) ≡ i = omega (arith, p) in
    (c.end ∙ ((let z : 0 + run_place rs (suc (i - 1)) ≡ run_place rs (suc (i - 1)) = omega arith in z) ∙ ap (run_place rs) s), c.small)

pub end-is-place : (rs : List Run) (i : ℕ) (d : Run) → AreCounted 0 rs → i < length rs → (get_or rs i d).end ≡ run_place rs (i + 1)
end-is-place rs i d h p =
    let c = counted-at 0 rs i d h p in
    let e = c.end in
    let s : suc i ≡ i + 1 = omega arith in
    let z : (get_or rs i d).end ≡ run_place rs (suc i) = omega (arith, e) in z ∙ ap (run_place rs) s

-- a run is a part of all rows
pub run-part : (rs : List Run) (i : ℕ) (d : Run) → i < length rs → IsPart (rows_in rs) (run_place rs i) (get_or rs i d).rows.value
run-part rs i d p =
    let front = rows_in (take i rs) in
    let run = (get_or rs i d).rows.value in
    let rest = rows_in (drop (suc i) rs) in
    let is = rows_in-at rs i d p in
    record {
      within = let l1 : length (rows_in rs) ≡ length front + length (run ++ rest) = ap length is ∙ length-append front (run ++ rest) in
          let l2 = length-append run rest in omega (arith, l1, l2);
      are = sym (ap (λ ys. between ys (length front) (length front + length run)) is
          ∙ (ap (take (length front + length run - length front)) (drop-append_seam front (run ++ rest))
          ∙ (ap (λ n. take n (run ++ rest)) (let m : length front + length run - length front ≡ length run = omega arith in m) ∙
          take-append_seam run rest)));
    }

-- the first row of a run
pub first-of-run : (rs : List Run) (i : ℕ) (d : Run) (e : List Value) → i < length rs → 0 < length (get_or rs i d).rows.value →
    get_or (rows_in rs) (run_place rs i) e ≡ get_or (get_or rs i d).rows.value 0 e
first-of-run rs i d e p q =
    let front = rows_in (take i rs) in
    let run = (get_or rs i d).rows.value in
    let rest = rows_in (drop (suc i) rs) in
    ap (λ ys. get_or ys (length front) e) (rows_in-at rs i d p)
    ∙ (ap (λ n. get_or (front ++ (run ++ rest)) n e) (let m : length front ≡ length front + 0 = omega arith in m)
    ∙ (get_or-append-add front (run ++ rest) 0 e ∙ first run rest q))
  where
    first : (xs ys : List (List Value)) → 0 < length xs → get_or (xs ++ ys) 0 e ≡ get_or xs 0 e
    first [] ys p = absurd (omega arith)
    first (x ∷ xs) ys p = refl

-- one more run at the end
pub rows_in-pushed : (rs : List Run) (r : Run) → rows_in (rs ++ r ∷ []) ≡ rows_in rs ++ r.rows.value
rows_in-pushed [] r = append-none r.rows.value
rows_in-pushed (s ∷ rs) r = ap (λ ys. s.rows.value ++ ys) (rows_in-pushed rs r) ∙ sym (append_assoc s.rows.value (rows_in rs) r.rows.value)

pub counted-pushed : (n : ℕ) (rs : List Run) (r : Run) → AreCounted n rs → 0 < length r.rows.value → r.end < 2 ^ 63 → r.end ≡
    n + (length (rows_in rs) + length r.rows.value) → AreCounted n (rs ++ r ∷ [])
counted-pushed n [] r h p q e = ((omega (arith, p, e), q, (let m : r.end ≡ n + length r.rows.value = omega (arith, e) in m)), tt)
counted-pushed n (s ∷ rs) r h p q e = (
  h.0,
  counted-pushed s.end rs r h.1 p q (let l : length (s.rows.value ++ rows_in rs) ≡ length s.rows.value + length (rows_in rs) =
      length-append s.rows.value (rows_in rs) in let f = h.0.2 in omega (arith, l, f, e)),
)

-- without rows there are no runs
pub no-runs : (n : ℕ) (rs : List Run) → AreCounted n rs → length rs ≡ 0 → length (rows_in rs) ≡ 0
no-runs n [] h e = refl
no-runs n (r ∷ rs) h e = absurd (omega arith)

pub some-runs : (rs : List Run) → 0 < length (rows_in rs) → 0 < length rs
some-runs [] p = absurd (omega arith)
some-runs (r ∷ rs) p = omega arith

-- a run that was found
pub found-run : (rs s : List Run) (w : List (List Value)) (i b : ℕ) (r : Run) → s ≡ rs → rows_in rs ≡ w → i < length s → b ≡ run_place s i →
    IsPart w b (get_or s i r).rows.value
found-run rs s w i b r e v p q =
    subst (λ z. IsPart z b (get_or s i r).rows.value) (ap rows_in e ∙ v)
    (subst (λ n. IsPart (rows_in s) n (get_or s i r).rows.value) (sym q) (run-part s i r p))

-- how far it goes
pub found-end : (rs s : List Run) (i b : ℕ) (r : Run) → s ≡ rs → AreCounted 0 rs → i < length s → b ≡ run_place s i → run_place s (i + 1) ≡
    b + length (get_or s i r).rows.value
found-end rs s i b r e h p q =
    let c = counted-at 0 s i r (subst (AreCounted 0) (sym e) h) p in
    let f = c.place in
    let n : run_place s (i + 1) ≡ run_place s (suc i) = ap (run_place s) (let m : i + 1 ≡ suc i = omega arith in m) in
    omega (arith, f, n, q)

pub found-some : (rs s : List Run) (i : ℕ) (r : Run) → s ≡ rs → AreCounted 0 rs → i < length s → 0 < length (get_or s i r).rows.value
found-some rs s i r e h p = let c = counted-at 0 s i r (subst (AreCounted 0) (sym e) h) p in c.some

-- the run for some arguments
pub found-for : (args : List Value) (rs s : List Run) (w rows : List (List Value)) (i b : ℕ) (r : Run) → s ≡ rs → rows_in rs ≡ w →
    AreCounted 0 rs → i < length s → b ≡ run_place s i → rows ≡ (get_or s i r).rows.value
    → (0 < i → row_cmp (get_or (rows_in s) (run_place s i) []) args ≢ Greater) →
    (i + 1 < length s → row_cmp (get_or (rows_in s) (run_place s (i + 1)) []) args ≡ Greater) → IsPartFor args w b rows
found-for args rs s w rows i b r e v h p q is before after =
    let whole : rows_in s ≡ w = ap rows_in e ∙ v in
    let size : length rows ≡ length (get_or s i r).rows.value = ap length is in
    let far : run_place s (i + 1) ≡ b + length rows = (let f = found-end rs s i b r e h p q in omega (arith, f, size)) in
    record {
      part = subst (IsPart w b) (sym is) (found-run rs s w i b r e v p q);
      filled = λ _. (let f = found-some rs s i r e h p in omega (arith, f, size));
      before = λ some g. elim (cases_lt 0 i) [
        | inl up ↦ before up (subst (λ x. row_cmp x args ≡ Greater) ((λ j. get_or (sym whole j) (q j) [])) g)
        | inr low ↦ let z : i ≡ 0 = omega (arith, low) in let n : run_place s i ≡ 0 = ap (run_place s) z in
            absurd (omega (arith, some, q, n))
      ];
      after = λ more. elim (cases_lt (i + 1) (length s)) [
        | inl up ↦ subst (λ x. row_cmp x args ≡ Greater) (λ j. get_or (whole j) (far j) []) (after up)
        | inr end ↦ let n : run_place s (i + 1) ≡ length (rows_in s) = place-of-end s (i + 1) end in let l : length (rows_in s) ≡ length w =
            ap length whole in absurd (omega (arith, more, far, n, l))
      ];
    }
