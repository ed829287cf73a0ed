-- Cuts, and what they say of two lists of labels.
use Rattle.std.proofs.Common.{◌≡◌, ◌≤◌, ◌<◌, ◌+◌, ◌-◌, ◌⊎◌, inl, inr, ℕ, zero, suc, List, [], ◌∷◌, ◌++◌, drop, length, replicate, get_or}
use Rattle.std.proofs.Common.{Bool, false, Option, Some, None, refl, sym, ap, ap₂, ◌∙◌, arith, drop-cons, append_assoc, append-nil}
use Rattle.std.proofs.Common.{length-append}
use Rattle.std.proofs.lemmas.List.{length-replicate, nil_from_length, drop_all, drop-drop, get_or-drop}
use Rattle.tl_check.proofs.RunLaws.{at-in}
use Rattle.tl_check.specs.Cuts.{lefts, rights}
use Rattle.tl_check.specs.Rests.{labels_from, count_of, truth_of}
use Rattle.tl_check.specs.Runs.{spread}
use Rattle.tl_check.specs.declared.run.Run.{Run}
use Rattle.tl_check.specs.declared.run.Cut.{Cut}

pub lefts-push : (cs : List Cut) (c : Cut) → lefts (cs ++ c ∷ []) ≡ lefts cs ++ replicate c.count c.left
lefts-push [] c = append-nil (replicate c.count c.left)
lefts-push (d ∷ cs) c = ap (λ (bs : List Bool). replicate d.count d.left ++ bs) (lefts-push cs c) ∙
    sym (append_assoc (replicate d.count d.left) (lefts cs) (replicate c.count c.left))

pub rights-push : (cs : List Cut) (c : Cut) → rights (cs ++ c ∷ []) ≡ rights cs ++ replicate c.count c.right
rights-push [] c = append-nil (replicate c.count c.right)
rights-push (d ∷ cs) c = ap (λ (bs : List Bool). replicate d.count d.right ++ bs) (rights-push cs c) ∙
    sym (append_assoc (replicate d.count d.right) (rights cs) (replicate c.count c.right))

pub lefts-at : (cs : List Cut) (i : ℕ) (c : Cut) → i < length cs → c ≡ get_or cs i c → lefts (drop i cs) ≡ replicate c.count c.left ++
    lefts (drop (i + 1) cs)
lefts-at cs i c h q = ap lefts (drop-cons cs i c h) ∙ ap₂ (λ (x : Cut) (k : ℕ). replicate x.count x.left ++ lefts (drop k cs)) (sym q)
    (let e : suc i ≡ i + 1 = omega arith in e)

pub rights-at : (cs : List Cut) (i : ℕ) (c : Cut) → i < length cs → c ≡ get_or cs i c → rights (drop i cs) ≡ replicate c.count c.right ++
    rights (drop (i + 1) cs)
rights-at cs i c h q = ap rights (drop-cons cs i c h) ∙ ap₂ (λ (x : Cut) (k : ℕ). replicate x.count x.right ++ rights (drop k cs)) (sym q)
    (let e : suc i ≡ i + 1 = omega arith in e)

pub lefts-end : (cs : List Cut) (i : ℕ) → length cs ≤ i → lefts (drop i cs) ≡ []
lefts-end cs i h = ap lefts (drop_all i cs h)

pub rights-end : (cs : List Cut) (i : ℕ) → length cs ≤ i → rights (drop i cs) ≡ []
rights-end cs i h = ap rights (drop_all i cs h)

same-length : (cs : List Cut) → length (lefts cs) ≡ length (rights cs)
same-length [] = refl
same-length (c ∷ cs) = omega (
  arith,
  length-append (replicate c.count c.left) (lefts cs),
  length-append (replicate c.count c.right) (rights cs),
  length-replicate c.count c.left,
  length-replicate c.count c.right,
  same-length cs,
)

-- ---- what is left of a list

pub drop-run : (n k : ℕ) (b : Bool) (bs : List Bool) → k ≤ n → drop k (replicate n b ++ bs) ≡ replicate (n - k) b ++ bs
drop-run n zero b bs h = ap (λ (i : ℕ). replicate i b ++ bs) (let e : n ≡ n - 0 = omega arith in e)
drop-run zero (suc k) b bs h = absurd (omega arith)
drop-run (suc n) (suc k) b bs h = drop-run n k b bs (omega arith) ∙ ap (λ (i : ℕ). replicate i b ++ bs)
    (let e : n - k ≡ suc n - suc k = omega arith in e)

pub drop-whole_run : (n k : ℕ) (b : Bool) (bs : List Bool) → k ≡ n → drop k (replicate n b ++ bs) ≡ bs
drop-whole_run n k b bs h = drop-run n k b bs (omega (arith, h)) ∙ ap (λ (i : ℕ). replicate i b ++ bs)
    (let e : n - k ≡ 0 = omega (arith, h) in e)

run-begins : (n k : ℕ) (b : Bool) (bs : List Bool) → k ≤ n → replicate n b ++ bs ≡ replicate k b ++ drop k (replicate n b ++ bs)
run-begins n zero b bs h = refl
run-begins zero (suc k) b bs h = absurd (omega arith)
run-begins (suc n) (suc k) b bs h = ap (λ (cs : List Bool). b ∷ cs) (run-begins n k b bs (omega arith))

pub begins : (o : Option Run) (rs : List Run) (k : ℕ) → k ≤ count_of o → labels_from o rs ≡ replicate k (truth_of o) ++
    drop k (labels_from o rs)
begins None rs zero h = refl
begins None rs (suc k) h = absurd (omega arith)
begins (Some r) rs k h = run-begins r.count k r.truth (spread rs) h

pub cut-on : (k : ℕ) (b : Bool) (old new rest later whole : List Bool) → old ++ rest ≡ whole → new ≡ old ++ replicate k b → rest ≡
    replicate k b ++ drop k rest → later ≡ drop k rest → new ++ later ≡ whole
cut-on k b old new rest later whole h p q s =
    ap₂ ◌++◌ p s ∙ (append_assoc old (replicate k b) (drop k rest) ∙ (ap (λ (bs : List Bool). old ++ bs) (sym q) ∙ h))

pub fewer : (k : ℕ) (b : Bool) (rest later : List Bool) → 0 < k → rest ≡ replicate k b ++ drop k rest → later ≡ drop k rest →
    length later < length rest
fewer k b rest later p q s = omega (arith, ap length q, length-append (replicate k b) (drop k rest), length-replicate k b, ap length s)

both-end : (cs : List Cut) (xs ys ls rs : List Bool) → lefts cs ++ xs ≡ ls → rights cs ++ ys ≡ rs → length ls ≡ length rs → (xs ≡ []) ⊎
    (ys ≡ []) → (length xs ≡ 0) × (length ys ≡ 0)
both-end cs xs ys ls rs h l q e =
    let same : length xs ≡ length ys = omega (
      arith,
      ap length h,
      ap length l,
      q,
      length-append (lefts cs) xs,
      length-append (rights cs) ys,
      same-length cs,
    ) in
    elim e [ inl p ↦ (ap length p, omega (arith, same, ap length p)) | inr p ↦ (omega (arith, same, ap length p), ap length p) ]

pub lefts-all : (cs : List Cut) (xs ys ls rs : List Bool) → lefts cs ++ xs ≡ ls → rights cs ++ ys ≡ rs → length ls ≡ length rs → (xs ≡ []) ⊎
    (ys ≡ []) → lefts cs ≡ ls
lefts-all cs xs ys ls rs h l q e = sym (append-nil (lefts cs)) ∙ (ap (λ (bs : List Bool). lefts cs ++ bs)
    (sym (nil_from_length xs (both-end cs xs ys ls rs h l q e).0)) ∙ h)

pub rights-all : (cs : List Cut) (xs ys ls rs : List Bool) → lefts cs ++ xs ≡ ls → rights cs ++ ys ≡ rs → length ls ≡ length rs →
    (xs ≡ []) ⊎ (ys ≡ []) → rights cs ≡ rs
rights-all cs xs ys ls rs h l q e = sym (append-nil (rights cs)) ∙ (ap (λ (bs : List Bool). rights cs ++ bs)
    (sym (nil_from_length ys (both-end cs xs ys ls rs h l q e).1)) ∙ l)

-- ---- labels that are read one after another

pub some-left : (o : Option Run) (rs : List Run) → 0 < length (labels_from o rs) → 1 ≤ count_of o
some-left None rs h = absurd (omega arith)
some-left (Some r) rs h = let some = r.some in omega arith

first-is : (o : Option Run) (rs : List Run) → truth_of o ≡ get_or (labels_from o rs) 0 false
first-is None rs = refl
first-is (Some r) rs = sym (at-in r.count 0 r.truth (spread rs) r.some)

pub first-read : (o : Option Run) (rs : List Run) (bs : List Bool) (n : ℕ) → labels_from o rs ≡ drop n bs → truth_of o ≡ get_or bs n false
first-read o rs bs n q =
    first-is o rs ∙ (ap (λ (us : List Bool). get_or us 0 false) q ∙ (get_or-drop n bs 0 false ∙
    ap (λ (k : ℕ). get_or bs k false) (let e : n + 0 ≡ n = omega arith in e)))

pub read-on : (bs rest later : List Bool) (i at : ℕ) → at ≤ i → rest ≡ drop (i - at) bs → later ≡ drop 1 rest → later ≡ drop (i + 1 - at) bs
read-on bs rest later i at h q s = s ∙ (ap (drop 1) q ∙ (drop-drop 1 (i - at) bs ∙
    ap (λ (k : ℕ). drop k bs) (let e : i - at + 1 ≡ i + 1 - at = omega arith in e)))
