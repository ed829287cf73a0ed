-- Labels that wait for what comes after them.
use Rattle.std.proofs.Common.{◌≡◌, ◌≤◌, ◌<◌, ◌+◌, ◌-◌, ◌||◌, ℕ, zero, suc, List, [], ◌∷◌, ◌++◌, replicate, Bool, true, false, not, refl}
use Rattle.std.proofs.Common.{sym, ap, ap₂, ◌∙◌, arith, append_assoc, append-nil}
use Rattle.std.proofs.lemmas.List.{replicate-append-replicate}
use Rattle.tl_check.specs.Passes.{first_or, one_within, within_labels, until_labels, joins, joined_labels}
use Rattle.tl_check.specs.Waiting.{within_after, until_after}
use Rattle.tl_syntax.specs.declared.junction.Junction.{Junction}

-- ---- one list after another

pub two-runs : (n m : ℕ) (b : Bool) (bs : List Bool) → replicate n b ++ (replicate m b ++ bs) ≡ replicate (n + m) b ++ bs
two-runs n m b bs = sym (append_assoc (replicate n b) (replicate m b) bs) ∙
    ap (λ (cs : List Bool). cs ++ bs) (replicate-append-replicate n m b)

moved : (a b : ℕ) (n m : ℕ) (c : Bool) (bs : List Bool) → a + b ≡ n + m → replicate a c ++ (replicate b c ++ bs) ≡ replicate n c ++
    (replicate m c ++ bs)
moved a b n m c bs h = two-runs a b c bs ∙ (ap (λ (k : ℕ). replicate k c ++ bs) h ∙ sym (two-runs n m c bs))

-- ---- within so many steps

one-true : (n : ℕ) (bs : List Bool) → one_within n (true ∷ bs) ≡ true
one-true zero bs = refl
one-true (suc n) bs = refl

one-none : (n m : ℕ) (bs : List Bool) → n < m → one_within n (replicate m false ++ bs) ≡ false
one-none n zero bs h = absurd (omega arith)
one-none zero (suc m) bs h = refl
one-none (suc n) (suc m) bs h = one-none n m bs (omega arith)

one-some : (n f : ℕ) (bs : List Bool) → f ≤ n → first_or false bs ≡ true → one_within n (replicate f false ++ bs) ≡ true
one-some n zero [] h q = absurd (let z : ⊥ = cc in z)
one-some n zero (true ∷ bs) h q = one-true n bs
one-some n zero (false ∷ bs) h q = absurd (let z : ⊥ = cc in z)
one-some zero (suc f) bs h q = absurd (omega arith)
one-some (suc n) (suc f) bs h q = one-some n f bs (omega arith) q

one-all-false : (n m : ℕ) → one_within n (replicate m false) ≡ false
one-all-false n zero = refl
one-all-false zero (suc m) = refl
one-all-false (suc n) (suc m) = one-all-false n m

within-true : (n k : ℕ) (bs : List Bool) → within_labels n (replicate k true ++ bs) ≡ replicate k true ++ within_labels n bs
within-true n zero bs = refl
within-true n (suc k) bs = ap₂ (λ (c : Bool) (cs : List Bool). c ∷ cs) (one-true n (replicate k true ++ bs)) (within-true n k bs)

within-false : (n k f : ℕ) (bs : List Bool) → n ≤ f → within_labels n (replicate k false ++ (replicate f false ++ bs)) ≡
    replicate k false ++ within_labels n (replicate f false ++ bs)
within-false n zero f bs h = refl
within-false n (suc k) f bs h = ap₂ (λ (c : Bool) (cs : List Bool). c ∷ cs)
    (ap (one_within n) (two-runs (suc k) f false bs) ∙ one-none n (suc k + f) bs (omega arith)) (within-false n k f bs h)

within-waits : (n f : ℕ) (bs : List Bool) → f ≤ n → first_or false bs ≡ true → within_labels n (replicate f false ++ bs) ≡
    replicate f true ++ within_labels n bs
within-waits n zero bs h q = refl
within-waits n (suc f) bs h q = ap₂ (λ (c : Bool) (cs : List Bool). c ∷ cs) (one-some n (suc f) bs h q)
    (within-waits n f bs (omega arith) q)

pub within-end : (n f : ℕ) → within_after n f [] ≡ replicate f false
within-end n f = ap (within_labels n) (append-nil (replicate f false)) ∙ all f
  where
    all : (m : ℕ) → within_labels n (replicate m false) ≡ replicate m false
    all zero = refl
    all (suc m) = ap₂ (λ (c : Bool) (cs : List Bool). c ∷ cs) (one-all-false n (suc m)) (all m)

-- a run of true labels comes
pub within-true_run : (n f k : ℕ) (bs : List Bool) → f ≤ n → 0 < k → within_after n f (replicate k true ++ bs) ≡
    (replicate f true ++ replicate k true) ++ within_after n 0 bs
within-true_run n f zero bs h p = absurd (omega arith)
within-true_run n f (suc k) bs h p =
    within-waits n f (replicate (suc k) true ++ bs) h refl
    ∙ (ap (λ (cs : List Bool). replicate f true ++ cs) (within-true n (suc k) bs)
    ∙ sym (append_assoc (replicate f true) (replicate (suc k) true) (within_labels n bs)))

-- a run of false labels comes, and all may wait
pub within-false_run : (n f k : ℕ) (bs : List Bool) → within_after n f (replicate k false ++ bs) ≡ within_after n (f + k) bs
within-false_run n f k bs = ap (within_labels n) (two-runs f k false bs)

-- a run of false labels comes, of which the last n may wait
pub within-long_run : (n f k m : ℕ) (bs : List Bool) → f + k ≡ m + n → within_after n f (replicate k false ++ bs) ≡ replicate m false ++
    within_after n n bs
within-long_run n f k m bs h = ap (within_labels n) (moved f k m n false bs h) ∙ within-false n m n bs (omega arith)

-- ---- until

first-of : (n : ℕ) (bs : List Bool) → first_or false (replicate n (first_or false bs) ++ bs) ≡ first_or false bs
first-of zero bs = refl
first-of (suc n) bs = refl

until-waits : (w : ℕ) (bs cs : List Bool) → until_after w bs cs ≡ replicate w (first_or false (until_labels bs cs)) ++ until_labels bs cs
until-waits zero bs cs = refl
until-waits (suc w) bs cs = ap (λ (us : List Bool). first_or false us ∷ us) (until-waits w bs cs) ∙
    ap (λ (u : Bool). u ∷ (replicate w (first_or false (until_labels bs cs)) ++ until_labels bs cs)) (first-of w (until_labels bs cs))

until-decided : (n : ℕ) (l r : Bool) (bs cs : List Bool) → (r || not l) ≡ true → until_labels (replicate n l ++ bs) (replicate n r ++ cs) ≡
    replicate n r ++ until_labels bs cs
until-decided zero l r bs cs h = refl
until-decided (suc n) l true bs cs h = ap (λ (us : List Bool). true ∷ us) (until-decided n l true bs cs h)
until-decided (suc n) true false bs cs h = absurd (let z : ⊥ = cc in z)
until-decided (suc n) false false bs cs h = ap (λ (us : List Bool). false ∷ us) (until-decided n false false bs cs h)

-- a cut comes where the second label is true or both are false
pub until-decided_cut : (w n : ℕ) (l r : Bool) (bs cs : List Bool) → 0 < n → (r || not l) ≡ true →
    until_after w (replicate n l ++ bs) (replicate n r ++ cs) ≡ (replicate w r ++ replicate n r) ++ until_after 0 bs cs
until-decided_cut w zero l r bs cs p h = absurd (omega arith)
until-decided_cut w (suc n) l r bs cs p h =
    until-waits w (replicate (suc n) l ++ bs) (replicate (suc n) r ++ cs)
    ∙ (ap (λ (us : List Bool). replicate w (first_or false us) ++ us) (until-decided (suc n) l r bs cs h)
    ∙ sym (append_assoc (replicate w r) (replicate (suc n) r) (until_labels bs cs)))

-- a cut comes where the first label alone is true
pub until-waiting_cut : (w n : ℕ) (bs cs : List Bool) → until_after w (replicate n true ++ bs) (replicate n false ++ cs) ≡
    until_after (w + n) bs cs
until-waiting_cut w n bs cs = ap₂ until_labels (two-runs w n true bs) (two-runs w n false cs)

pub until-end : (w : ℕ) → until_after w [] [] ≡ replicate w false
until-end w = until-waits w [] [] ∙ append-nil (replicate w false)

-- ---- labels that are joined

pub joined-run : (j : Junction) (n : ℕ) (a b : Bool) (bs cs : List Bool) → joined_labels j (replicate n a ++ bs) (replicate n b ++ cs) ≡
    replicate n (joins j a b) ++ joined_labels j bs cs
joined-run j zero a b bs cs = refl
joined-run j (suc n) a b bs cs = ap (λ (us : List Bool). joins j a b ∷ us) (joined-run j n a b bs cs)

-- ---- one step of a list that is made in order

pub step-on : (new add more rest rest2 whole : List Bool) → new ++ rest ≡ whole → rest ≡ add ++ rest2 → more ≡ new ++ add → more ++ rest2 ≡
    whole
step-on new add more rest rest2 whole h q s =
    ap (λ (bs : List Bool). bs ++ rest2) s ∙ (append_assoc new add rest2 ∙ (ap (λ (bs : List Bool). new ++ bs) (sym q) ∙ h))

added-twice : (old a b rest mid new : List Bool) → mid ≡ old ++ a → new ≡ mid ++ b → new ++ rest ≡ old ++ ((a ++ b) ++ rest)
added-twice old a b rest mid new p q =
    ap (λ (bs : List Bool). bs ++ rest) (q ∙ ap (λ (bs : List Bool). bs ++ b) p)
    ∙ (append_assoc (old ++ a) b rest ∙ (append_assoc old a (b ++ rest) ∙ ap (λ (bs : List Bool). old ++ bs) (sym (append_assoc a b rest))))

added-once : (old a rest new : List Bool) → new ≡ old ++ a → new ++ rest ≡ old ++ (a ++ rest)
added-once old a rest new p = ap (λ (bs : List Bool). bs ++ rest) p ∙ append_assoc old a rest

pub within-came : (n f k : ℕ) (t : Bool) (bs old mid new : List Bool) → t ≡ true → f ≤ n → 0 < k → mid ≡ old ++ replicate f true → new ≡
    mid ++ replicate k true → new ++ within_after n 0 bs ≡ old ++ within_after n f (replicate k t ++ bs)
within-came n f k t bs old mid new q h p m e =
    added-twice old (replicate f true) (replicate k true) (within_after n 0 bs) mid new m e
    ∙ (ap (λ (cs : List Bool). old ++ cs) (sym (within-true_run n f k bs h p)) ∙
    ap (λ (b : Bool). old ++ within_after n f (replicate k b ++ bs)) (sym q))

pub within-all_wait : (n f k : ℕ) (t : Bool) (bs old : List Bool) → t ≡ false → old ++ within_after n (f + k) bs ≡ old ++
    within_after n f (replicate k t ++ bs)
within-all_wait n f k t bs old q = ap (λ (cs : List Bool). old ++ cs) (sym (within-false_run n f k bs)) ∙
    ap (λ (b : Bool). old ++ within_after n f (replicate k b ++ bs)) (sym q)

pub within-some_wait : (n f k : ℕ) (t : Bool) (bs old new : List Bool) → t ≡ false → f ≤ n → n - f ≤ k → new ≡ old ++
    replicate (k - (n - f)) false → new ++ within_after n n bs ≡ old ++ within_after n f (replicate k t ++ bs)
within-some_wait n f k t bs old new q h l e =
    added-once old (replicate (k - (n - f)) false) (within_after n n bs) new e
    ∙ (ap (λ (cs : List Bool). old ++ cs) (sym (within-long_run n f k (k - (n - f)) bs (omega arith))) ∙
    ap (λ (b : Bool). old ++ within_after n f (replicate k b ++ bs)) (sym q))

pub until-came : (w n : ℕ) (l r : Bool) (bs cs old mid new : List Bool) → 0 < n → (r || not l) ≡ true → mid ≡ old ++ replicate w r → new ≡
    mid ++ replicate n r → new ++ until_after 0 bs cs ≡ old ++ until_after w (replicate n l ++ bs) (replicate n r ++ cs)
until-came w n l r bs cs old mid new p h m e =
    added-twice old (replicate w r) (replicate n r) (until_after 0 bs cs) mid new m e ∙
    ap (λ (us : List Bool). old ++ us) (sym (until-decided_cut w n l r bs cs p h))

pub until-waited : (w n : ℕ) (l r : Bool) (bs cs old : List Bool) → (r || not l) ≡ false → old ++ until_after (w + n) bs cs ≡ old ++
    until_after w (replicate n l ++ bs) (replicate n r ++ cs)
until-waited w n l true bs cs old h = absurd (let z : ⊥ = cc in z)
until-waited w n true false bs cs old h = ap (λ (us : List Bool). old ++ us) (sym (until-waiting_cut w n bs cs))
until-waited w n false false bs cs old h = absurd (let z : ⊥ = cc in z)

-- ---- what waits at the end

pub within-done : (n w : ℕ) (made new rest whole : List Bool) → new ≡ made ++ replicate w false → rest ≡ [] → made ++
    within_after n w rest ≡ whole → new ≡ whole
within-done n w made new rest whole q e so = q ∙ (ap (λ (bs : List Bool). made ++ bs)
    (sym (within-end n w) ∙ ap (within_after n w) (sym e)) ∙ so)

pub until-done : (w : ℕ) (made new bs cs whole : List Bool) → new ≡ made ++ replicate w false → bs ≡ [] → cs ≡ [] → made ++
    until_after w bs cs ≡ whole → new ≡ whole
until-done w made new bs cs whole q e f so = q ∙ (ap (λ (us : List Bool). made ++ us)
    (sym (until-end w) ∙ ap₂ (until_after w) (sym e) (sym f)) ∙ so)
