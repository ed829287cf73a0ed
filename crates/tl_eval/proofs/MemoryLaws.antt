-- What the entries of a memory say, as entries are put in place and found.
use Rattle.std.proofs.Common.{◌≡◌, ◌<◌, ◌≤◌, ◌==◌, ◌⊎◌, ℕ, zero, suc, List, [], ◌∷◌, length, take, replicate, get_or, cond, Bool, true, false}
use Rattle.std.proofs.Common.{refl, sym, ap, ◌∙◌, subst, inl, inr, arith}
use borrow.Author.Tests.{eq-eqb, ne_eqb}
use Rattle.std.proofs.lemmas.Bool.{eqb-true}
use Rattle.std.specs.Prelude.{slice_set}
use Rattle.tl_eval.specs.declared.memory.Entry.{Entry}
use Rattle.tl_eval.specs.Memory.{said, said_in}
use Rattle.tl_eval.specs.Remembered.{Remembered, remembered, AreFrom}
use Rattle.tl_syntax.specs.declared.value.Value.{Value}
use Rattle.tl_syntax.specs.Lists.{Each, Among}

-- an entry of the generation comes before what the others say, and one of another generation says nothing
at-first : (g : ℕ) (e : Entry) (es : List Entry) → e.generation ≡ g → said_in g (e ∷ es) ≡ said e ∷ said_in g es
unfolding said_in
at-first g e es h = ap (λ (b : Bool). cond b (said e ∷ said_in g es) (said_in g es)) (eq-eqb e.generation g h)

skipped : (g : ℕ) (e : Entry) (es : List Entry) → (e.generation == g) ≡ false → said_in g (e ∷ es) ≡ said_in g es
unfolding said_in
skipped g e es h = ap (λ (b : Bool). cond b (said e ∷ said_in g es) (said_in g es)) h

left-out : (g : ℕ) (e : Entry) (es : List Entry) → (e.generation ≡ g → ⊥) → said_in g (e ∷ es) ≡ said_in g es
left-out g e es h = skipped g e es (ne_eqb e.generation g h)

-- entries before a generation say nothing in it
pub nothing-said : (g h : ℕ) (es : List Entry) → Each (λ e. e.generation ≤ g) es → g < h → said_in h es ≡ []
unfolding said_in
nothing-said g h [] up l = refl
nothing-said g h (e ∷ es) up l = left-out h e es (λ q. let first = up.0 in omega arith) ∙ nothing-said g h es up.1 l

-- nor do copies of an entry of generation 0
pub copies-before : (n : ℕ) (e : Entry) → e.generation ≡ 0 → Each (λ x. x.generation ≤ 0) (replicate n e)
copies-before zero e h = tt
copies-before (suc n) e h = (omega arith, copies-before n e h)

-- entries up to a generation are up to the next one too
pub before-next : (g h : ℕ) (es : List Entry) → g ≤ h → Each (λ e. e.generation ≤ g) es → Each (λ e. e.generation ≤ h) es
before-next g h [] l up = tt
before-next g h (e ∷ es) l up = (let first = up.0 in omega arith, before-next g h es l up.1)

-- one more of the generation
pub put-before : (g : ℕ) (es : List Entry) (i : ℕ) (e : Entry) → e.generation ≡ g → Each (λ x. x.generation ≤ g) es →
    Each (λ x. x.generation ≤ g) (slice_set es i e)
put-before g [] i e h up = tt
put-before g (x ∷ es) zero e h up = (omega arith, up.1)
put-before g (x ∷ es) (suc i) e h up = (up.0, put-before g es i e h up.1)

-- what is among them is among them and one more
pub more-said : (g : ℕ) (x : Entry) (es : List Entry) (r : Remembered) → Among r (said_in g es) → Among r (said_in g (x ∷ es))
unfolding said_in
more-said g x es r h = by (x.generation == g)
  where
    by : (b : Bool) → Among r (cond b (said x ∷ said_in g es) (said_in g es))
    by true = inr h
    by false = h

-- the same entry for all that matters
pub says : (e : Entry) (n k : ℕ) (vs : List Value) → e.number ≡ n → e.level ≡ k → take e.count e.values ≡ vs → said e ≡
    remembered n k vs e.truth
says e n k vs p q r = λ i. remembered (p i) (q i) (r i) e.truth

-- what an entry of the generation says is among what they say
pub among-said : (g : ℕ) (es : List Entry) (i : ℕ) (e : Entry) → i < length es → e ≡ get_or es i e → e.generation ≡ g →
    Among (said e) (said_in g es)
among-said g [] i e h q l = absurd (omega arith)
among-said g (x ∷ es) zero e h q l = subst (Among (said e)) (sym (at-first g x es (ap (λ (y : Entry). y.generation) (sym q) ∙ l)))
    (inl (ap said (sym q)))
among-said g (x ∷ es) (suc i) e h q l = more-said g x es (said e) (among-said g es i e (omega arith) q l)

-- each of a list is one of others that have them all
each-of : (r : Remembered) (xs others : List Remembered) → ((x : Remembered) → Among x xs → Among x others) → AreFrom r others xs
each-of r [] others f = tt
each-of r (x ∷ xs) others f = (inr (f x (inl refl)), each-of r xs others (λ y h. f y (inr h)))

-- those that were there are from those that were there
pub same-from : (r : Remembered) (rs : List Remembered) → AreFrom r rs rs
same-from r rs = each-of r rs rs (λ x h. h)

-- so they are with more others
widened : (r : Remembered) (xs others more : List Remembered) → ((x : Remembered) → Among x others → Among x more) → AreFrom r others xs →
    AreFrom r more xs
widened r [] others more f a = tt
widened r (x ∷ xs) others more f a = (elim a.0 [ inl q ↦ inl q | inr h ↦ inr (f x h) ], widened r xs others more f a.1)

-- those that are from the same or from none are from all that was there
pub from-fewer : (r : Remembered) (old fewer xs : List Remembered) → (fewer ≡ []) ⊎ (fewer ≡ old) → AreFrom r fewer xs → AreFrom r old xs
from-fewer r old fewer xs (inl e) a = widened r xs fewer old (λ x h. absurd (subst (Among x) e h)) a
from-fewer r old fewer xs (inr e) a = subst (λ (ys : List Remembered). AreFrom r ys xs) e a

none-said : (g : ℕ) (e : Entry) → AreFrom (said e) (said_in g []) (said_in g [])
unfolding said_in
none-said g e = tt

-- so it is with one more before them
put-later : (g : ℕ) (x : Entry) (es fs : List Entry) (e : Entry) → AreFrom (said e) (said_in g es) (said_in g fs) →
    AreFrom (said e) (said_in g (x ∷ es)) (said_in g (x ∷ fs))
put-later g x es fs e a = by (x.generation == g) refl
  where
    rest : AreFrom (said e) (said_in g (x ∷ es)) (said_in g fs)
    rest = widened (said e) (said_in g fs) (said_in g es) (said_in g (x ∷ es)) (more-said g x es) a

    by : (b : Bool) → (x.generation == g) ≡ b → AreFrom (said e) (said_in g (x ∷ es)) (said_in g (x ∷ fs))
    by true k = subst (AreFrom (said e) (said_in g (x ∷ es))) (sym (at-first g x fs (eqb-true x.generation g k)))
        (inr (subst (Among (said x)) (sym (at-first g x es (eqb-true x.generation g k))) (inl refl)), rest)
    by false k = subst (AreFrom (said e) (said_in g (x ∷ es))) (sym (skipped g x fs k)) rest

-- once an entry is put in place, they say what it says and what was said before
pub put-said : (g : ℕ) (es : List Entry) (i : ℕ) (e : Entry) → e.generation ≡ g →
    AreFrom (said e) (said_in g es) (said_in g (slice_set es i e))
put-said g [] i e h = none-said g e
put-said g (x ∷ es) zero e h = subst (AreFrom (said e) (said_in g (x ∷ es))) (sym (at-first g e es h))
    (inl refl, each-of (said e) (said_in g es) (said_in g (x ∷ es)) (more-said g x es))
put-said g (x ∷ es) (suc i) e h = put-later g x es (slice_set es i e) e (put-said g es i e h)

-- of entries that were cleared, none says anything
pub copies-say : (n g : ℕ) (e : Entry) → e.generation ≡ 0 → 0 < g → said_in g (replicate n e) ≡ []
copies-say n g e h l = nothing-said 0 g (replicate n e) (copies-before n e h) l
