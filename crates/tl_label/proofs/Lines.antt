-- Texts that grow until they are too long.
use Rattle.std.proofs.Common.{◌≡◌, ◌<◌, ◌≤◌, ◌-◌, ℕ, List, [], ◌∷◌, ◌++◌, length, Bool, Result, Ok, Err, OnOk, Some, None, true, false}
use Rattle.std.proofs.Common.{cond, refl, sym, ap, ap₂, ◌∙◌, inl, inr, arith, append_assoc, length-append}
use Rattle.std.proofs.lemmas.Bool.{le-leb}
use Rattle.std.proofs.lemmas.Bool.Decides.{leb_tells}
use Rattle.std.proofs.lemmas.List.{append-nil}
use Rattle.tl_label.specs.Lines.{Written, after, room}

-- the text has room for the bytes
pub after-fits : (w : List ℕ × ℕ) (more : List ℕ) → length more ≤ w.1 → after (Some w) more ≡ Some (w.0 ++ more, w.1 - length more)
unfolding after
after-fits w more h = rw (le-leb (length more) w.1 h) refl

-- the text has no room for them
pub after-long : (w : List ℕ × ℕ) (more : List ℕ) → w.1 < length more → after (Some w) more ≡ None
unfolding after
after-long w more h = elim (leb_tells (length more) w.1) [
  | inl p ↦ absurd (omega (arith, p.1))
  | inr p ↦ rw p.0 refl
]

pub after-none : (more : List ℕ) → after None more ≡ None
unfolding after
after-none more = refl

-- what is seen of a text
pub seen-long : (b : Bool) (w : List ℕ × ℕ) (l : Written) → cond b None (Some w) ≡ l → b ≡ true → l ≡ None
seen-long true w l e h = sym e
seen-long false w l e h = let no : ⊥ = cc in absurd no

pub seen-short : (b : Bool) (w : List ℕ × ℕ) (l : Written) → cond b None (Some w) ≡ l → b ≡ false → l ≡ Some w
seen-short true w l e h = let no : ⊥ = cc in absurd no
seen-short false w l e h = sym e

-- nothing more
pub after-nil : (l : Written) → after l [] ≡ l
after-nil None = after-none []
after-nil (Some w) = after-fits w [] (omega arith) ∙ ap₂ (λ t n. Some (t, n)) (append-nil w.0) (omega arith)

-- one after the other
pub after-append : (l : Written) (a b : List ℕ) → after l (a ++ b) ≡ after (after l a) b
after-append None a b = after-none (a ++ b) ∙ sym (ap (λ l. after l b) (after-none a) ∙ after-none b)
after-append (Some w) a b = elim (leb_tells (length a) w.1) [
  | inl p ↦ elim (leb_tells (length b) (w.1 - length a)) [
    | inl q ↦ (let both : length (a ++ b) ≤ w.1 = omega (arith, length-append a b, p.1, q.1) in
        after-fits w (a ++ b) both
        ∙ ap₂ (λ t n. Some (t, n)) (sym (append_assoc w.0 a b)) (omega (arith, length-append a b, p.1))
        ∙ sym (ap (λ l. after l b) (after-fits w a p.1) ∙ after-fits (w.0 ++ a, w.1 - length a) b q.1))
    | inr q ↦ (let both : w.1 < length (a ++ b) = omega (arith, length-append a b, p.1, q.1) in
        after-long w (a ++ b) both
        ∙ sym (ap (λ l. after l b) (after-fits w a p.1) ∙ after-long (w.0 ++ a, w.1 - length a) b q.1))
  ]
  | inr p ↦ (let both : w.1 < length (a ++ b) = omega (arith, length-append a b, p.1) in
      after-long w (a ++ b) both ∙ sym (ap (λ l. after l b) (after-long w a p.1) ∙ after-none b))
]

-- the room does not grow
pub room-falls : (l : Written) (more : List ℕ) → room (after l more) ≤ room l
room-falls None more = rw (after-none more) (omega arith)
room-falls (Some w) more = elim (leb_tells (length more) w.1) [
  | inl p ↦ rw (after-fits w more p.1) (omega arith)
  | inr p ↦ rw (after-long w more p.1) (omega arith)
]

-- and each byte takes some, where there is any
pub room-less : (l : Written) (c : ℕ) (more : List ℕ) → 0 < room l → room (after l (c ∷ more)) < room l
room-less None c more h = absurd (omega arith)
room-less (Some w) c more h = elim (leb_tells (length (c ∷ more)) w.1) [
  | inl p ↦ rw (after-fits w (c ∷ more) p.1) (omega (arith, p.1))
  | inr p ↦ rw (after-long w (c ∷ more) p.1) (omega arith)
]

-- what follows from a fact that stands after Ok stands after it too
pub where_ok : {T E P Q : Type 0} (r : Result T E) → (P → Q) → OnOk r P → OnOk r Q
where_ok (Ok x) f h = f h
where_ok (Err e) f h = tt
