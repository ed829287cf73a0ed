-- When a fact holds, by its changes.
use Rattle.std.proofs.Common.{◌≡◌, ◌≤◌, ◌<◌, ◌+◌, ◌-◌, ℕ, zero, suc, List, [], ◌∷◌, ◌++◌, drop, length, get_or, replicate, slice_get, cond}
use Rattle.std.proofs.Common.{nat_le, Bool, true, false, Some, None, refl, sym, ap, ap₂, ◌∙◌, arith, drop-cons, add-one, append_assoc}
use Rattle.std.proofs.Common.{append-nil}
use Rattle.std.proofs.lemmas.Bool.{le-leb, lt-leb}
use Rattle.tl_check.proofs.SpanLaws.{test_from-more}
use Rattle.tl_check.specs.Lines.{truth_from, test_from, AreBefore, IsLastTruth}
use Rattle.tl_check.specs.declared.line.Change.{Change}

up-to : (at i : ℕ) → at ≤ i → nat_le at i ≡ true
up-to at i h = le-leb at i h

after : (at i : ℕ) → i < at → nat_le at i ≡ false
after at i h = lt-leb at i h

-- a change that is passed
pub change-passed : (b : Bool) (line : List Change) (j : ℕ) (c : Change) (k : ℕ) → j < length line → c ≡ get_or line j c → c.at ≤ k →
    truth_from b (drop j line) k ≡ truth_from c.truth (drop (j + 1) line) k
change-passed b line j c k h q l =
    ap (λ (cs : List Change). truth_from b cs k) (drop-cons line j c h ∙ ap (λ (x : Change). x ∷ drop (suc j) line) (sym q))
    ∙ (ap (λ (x : Bool). cond x (truth_from c.truth (drop (suc j) line) k) b) (up-to c.at k l)
    ∙ ap (λ (i : ℕ). truth_from c.truth (drop i line) k) (sym (add-one j)))

-- a change that is still to come
pub change-ahead : (b : Bool) (line : List Change) (j : ℕ) (c : Change) (k : ℕ) → j < length line → c ≡ get_or line j c → k < c.at →
    truth_from b (drop j line) k ≡ b
change-ahead b line j c k h q l =
    ap (λ (cs : List Change). truth_from b cs k) (drop-cons line j c h ∙ ap (λ (x : Change). x ∷ drop (suc j) line) (sym q))
    ∙ ap (λ (x : Bool). cond x (truth_from c.truth (drop (suc j) line) k) b) (after c.at k l)

past : (xs : List Change) (n : ℕ) → length xs ≤ n → drop n xs ≡ []
past [] zero h = refl
past [] (suc n) h = refl
past (x ∷ xs) zero h = absurd (omega arith)
past (x ∷ xs) (suc n) h = past xs n (omega arith)

-- no change is left
pub changes-done : (b : Bool) (line : List Change) (j k : ℕ) → length line ≤ j → truth_from b (drop j line) k ≡ b
changes-done b line j k h = ap (λ (cs : List Change). truth_from b cs k) (past line j h)

-- ---- one change more

pub truth-before_change : (b : Bool) (cs : List Change) (c : Change) (i : ℕ) → i < c.at → truth_from b (cs ++ c ∷ []) i ≡ truth_from b cs i
truth-before_change b [] c i h = ap (λ (x : Bool). cond x c.truth b) (after c.at i h)
truth-before_change b (d ∷ cs) c i h = ap (λ (x : Bool). cond (nat_le d.at i) x b) (truth-before_change d.truth cs c i h)

pub truth-past_change : (b : Bool) (cs : List Change) (c : Change) (i : ℕ) → AreBefore (i + 1) cs → c.at ≤ i →
    truth_from b (cs ++ c ∷ []) i ≡ c.truth
truth-past_change b [] c i h l = ap (λ (x : Bool). cond x c.truth b) (up-to c.at i l)
truth-past_change b (d ∷ cs) c i h l = let first = h.0 in
    ap (λ (x : Bool). cond x (truth_from d.truth (cs ++ c ∷ []) i) b) (up-to d.at i (omega (arith, first))) ∙
    truth-past_change d.truth cs c i h.1 l

pub truth-at_change : (b : Bool) (cs : List Change) (c : Change) (i : ℕ) → AreBefore (i + 1) cs → c.at ≡ i → truth_from b (cs ++ c ∷ []) i ≡
    c.truth
truth-at_change b cs c i h q = truth-past_change b cs c i h (omega (arith, q))

-- where no change comes after the position before, the truth stays
pub truth-stays : (b : Bool) (cs : List Change) (i : ℕ) → AreBefore (i + 1) cs → truth_from b cs (i + 1) ≡ truth_from b cs i
truth-stays b [] i h = refl
truth-stays b (d ∷ cs) i h = let first = h.0 in
    ap (λ (x : Bool). cond x (truth_from d.truth cs (i + 1)) b) (up-to d.at (i + 1) (omega (arith, first)))
    ∙ (truth-stays d.truth cs i h.1 ∙ sym (ap (λ (x : Bool). cond x (truth_from d.truth cs i) b) (up-to d.at i (omega (arith, first)))))

pub before-more : (n : ℕ) (cs : List Change) → AreBefore n cs → AreBefore (n + 1) cs
before-more n [] h = tt
before-more n (c ∷ cs) h = (let first = h.0 in omega (arith, first), before-more n cs h.1)

pub before-added : (n : ℕ) (cs : List Change) (c : Change) → AreBefore n cs → c.at < n → AreBefore n (cs ++ c ∷ [])
before-added n [] c h l = (l, tt)
before-added n (d ∷ cs) c h l = (h.0, before-added n cs c h.1 l)

-- ---- the last change

last-truth_from : (b : Bool) (cs : List Change) (c : Change) (i : ℕ) → slice_get cs (length cs - 1) ≡ Some c → AreBefore (i + 1) cs →
    truth_from b cs i ≡ c.truth
last-truth_from b [] c i s h = absurd (let z : ⊥ = cc in z)
last-truth_from b (d ∷ []) c i s h = let first = h.0 in
    ap (λ (x : Bool). cond x d.truth b) (up-to d.at i (omega (arith, first))) ∙ ap (λ (x : Change). x.truth) (let same : d ≡ c = cc in same)
last-truth_from b (d ∷ e ∷ es) c i s h = let first = h.0 in
    let place : suc (suc (length es)) - 1 ≡ suc (suc (length es) - 1) = omega arith in
    ap (λ (x : Bool). cond x (truth_from d.truth (e ∷ es) i) b) (up-to d.at i (omega (arith, first)))
    ∙ last-truth_from d.truth (e ∷ es) c i (sym (ap (slice_get (d ∷ e ∷ es)) place) ∙ s) h.1

pub last-is : (cs : List Change) (c : Change) → slice_get cs (length cs - 1) ≡ Some c → IsLastTruth cs c.truth
last-is cs c s i h = last-truth_from false cs c i s h

pub last-none : (cs : List Change) → slice_get cs (length cs - 1) ≡ None → IsLastTruth cs false
last-none [] s i h = refl
last-none (d ∷ []) s i h = absurd (let z : ⊥ = cc in z)
last-none (d ∷ e ∷ es) s i h =
    let place : suc (suc (length es)) - 1 ≡ suc (suc (length es) - 1) = omega arith in
    absurd (let z : ⊥ = none (e ∷ es) (length es) (omega arith) (ap (slice_get (e ∷ es))
    (let p : length es ≡ suc (length es) - 1 = omega arith in p) ∙ (sym (ap (slice_get (d ∷ e ∷ es)) place) ∙ s)) in z)
  where
    none : (xs : List Change) (k : ℕ) → k < length xs → slice_get xs k ≡ None → ⊥
    none [] k l s = omega arith
    none (x ∷ xs) zero l s = cc
    none (x ∷ xs) (suc k) l s = none xs k (omega arith) s

-- ---- labels from a line

pub labels-on : (t : ℕ → Bool) (whole labels new : List Bool) (i to : ℕ) (b : Bool) → i < to → b ≡ t i → new ≡ labels ++ b ∷ [] → labels ++
    test_from t i (to - i) ≡ whole → new ++ test_from t (i + 1) (to - (i + 1)) ≡ whole
labels-on t whole labels new i to b h q added so =
    ap (λ (cs : List Bool). cs ++ test_from t (i + 1) (to - (i + 1))) added
    ∙ (append_assoc labels (b ∷ []) (test_from t (i + 1) (to - (i + 1)))
    ∙ (ap (λ (cs : List Bool). labels ++ cs) (ap (λ (x : Bool). x ∷ test_from t (i + 1) (to - (i + 1))) q ∙ sym (test_from-more t i to h)) ∙
    so))

test-run : (t : ℕ → Bool) (i c m n : ℕ) (b : Bool) → c ≡ m + n → ((k : ℕ) → i ≤ k → k < i + m → t k ≡ b) → test_from t i c ≡
    replicate m b ++ test_from t (i + m) n
test-run t i c zero n b e h = ap₂ (test_from t) (let p : i ≡ i + 0 = omega arith in p) (let p : c ≡ n = omega (arith, e) in p)
test-run t i zero (suc m) n b e h = absurd (omega (arith, e))
test-run t i (suc c) (suc m) n b e h =
    ap₂ (λ (x : Bool) (xs : List Bool). x ∷ xs) (h i (omega arith) (omega arith))
    (test-run t (suc i) c m n b (omega (arith, e)) (λ k l p. h k (omega arith) (omega arith)) ∙
    ap (λ (j : ℕ). replicate m b ++ test_from t j n) (let p : suc i + m ≡ i + suc m = omega arith in p))

-- the labels up to the next place, which are all the same
pub labels-up_to : (t : ℕ → Bool) (labels new whole : List Bool) (at next to : ℕ) (b : Bool) → at ≤ next → next ≤ to →
    ((k : ℕ) → at ≤ k → k < next → t k ≡ b)
    → new ≡ labels ++ replicate (next - at) b → labels ++ test_from t at (to - at) ≡ whole → new ++ test_from t next (to - next) ≡ whole
labels-up_to t labels new whole at next to b h l same added so =
    ap (λ (cs : List Bool). cs ++ test_from t next (to - next)) added
    ∙ (append_assoc labels (replicate (next - at) b) (test_from t next (to - next))
    ∙ (ap (λ (cs : List Bool). labels ++ cs) (sym (test-run t at (to - at) (next - at) (to - next) b (omega arith)
    (λ k p q. same k p (omega arith)) ∙ ap (λ (j : ℕ). replicate (next - at) b ++ test_from t j (to - next))
    (let e : at + (next - at) ≡ next = omega arith in e))) ∙ so))

-- all labels are there
pub labels-to_end : (t : ℕ → Bool) (labels new whole : List Bool) (at to : ℕ) (b : Bool) → at ≤ to → ((k : ℕ) → at ≤ k → k < to → t k ≡ b)
    → new ≡ labels ++ replicate (to - at) b → labels ++ test_from t at (to - at) ≡ whole → new ≡ whole
labels-to_end t labels new whole at to b h same added so =
    sym (append-nil new) ∙ (ap (λ (n : ℕ). new ++ test_from t to n) (let e : 0 ≡ to - to = omega arith in e) ∙
    labels-up_to t labels new whole at to to b h (omega arith) same added so)
