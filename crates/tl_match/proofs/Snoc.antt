-- Parts of which the last is for the value of a place.
use Rattle.std.proofs.Common.{◌≡◌, ℕ, suc, ◌<◌, ◌≤◌, ◌+◌, ◌-◌, Bool, true, false, ◌&&◌, ◌||◌, true≢false, List, [], ◌∷◌, ◌++◌, length}
use Rattle.std.proofs.Common.{length-append, get_or, take, Option, Some, None, is_some, refl, sym, ap, ◌∙◌, arith}
use Rattle.std.specs.Prelude.{IfSome}
use Rattle.tl_syntax.specs.declared.value.Value.{Value}
use Rattle.tl_match.specs.declared.pattern.Part.{Part}
use Rattle.tl_match.specs.Fits.{fits_at, fits_all, is_free, occurs}
use Rattle.tl_match.specs.Front.{seen_after, seen_in, is_in_turn, are_in_turn}
use Rattle.tl_match.proofs.Putting.{seen-within}

and-true : (b : Bool) → (b && true) ≡ b
and-true true = refl
and-true false = refl

and-false : (b : Bool) → (b && false) ≡ false
and-false true = refl
and-false false = refl

and-assoc : (a b c : Bool) → (a && (b && c)) ≡ ((a && b) && c)
and-assoc true b c = refl
and-assoc false b c = refl

-- the leading parts and the last one
pub fits-snoc : (ps : List Part) (vs : List Value) (p : Part) (v : Value) (t : List Value) → fits_all (ps ++ p ∷ []) (vs ++ v ∷ []) t ≡
    (fits_all ps vs t && fits_at p v t)
fits-snoc [] [] p v t = and-true (fits_at p v t)
fits-snoc [] (u ∷ []) p v t = and-false (fits_at p u t)
fits-snoc [] (u ∷ w ∷ vs) p v t = and-false (fits_at p u t)
fits-snoc (q ∷ []) [] p v t = and-false (fits_at q v t)
fits-snoc (q ∷ r ∷ ps) [] p v t = and-false (fits_at q v t)
fits-snoc (q ∷ ps) (u ∷ vs) p v t = ap (λ b. fits_at q u t && b) (fits-snoc ps vs p v t) ∙
    and-assoc (fits_at q u t) (fits_all ps vs t) (fits_at p v t)

pub turn-snoc : (n : ℕ) (ps : List Part) (p : Part) → are_in_turn n (ps ++ p ∷ []) ≡ (are_in_turn n ps && is_in_turn (seen_in n ps) p)
turn-snoc n [] p = and-true (is_in_turn n p)
turn-snoc n (q ∷ ps) p = ap (λ b. is_in_turn n q && b) (turn-snoc (seen_after n q) ps p) ∙
    and-assoc (is_in_turn n q) (are_in_turn (seen_after n q) ps) (is_in_turn (seen_in (seen_after n q) ps) p)

pub occurs-snoc : (n : ℕ) (ps : List Part) (p : Part) → occurs n ps ≡ true → occurs n (ps ++ p ∷ []) ≡ true
occurs-snoc n [] p h = absurd (true≢false (sym h))
occurs-snoc n (q ∷ ps) p h = (elim (is_free n q) as (λ b. (b || occurs n ps) ≡ true → (b || occurs n (ps ++ p ∷ [])) ≡ true) [
  | true ↦ λ _.
      refl
  | false ↦ λ o. occurs-snoc n ps p o
]) h

last-of : (ps : List Part) (p d : Part) → get_or (ps ++ p ∷ []) (length ps) d ≡ p
last-of [] p d = refl
last-of (q ∷ ps) p d = last-of ps p d

-- the variables that were seen with the last part are among those that count
pub seen-last : (ps : List Part) (p : Part) (n free : ℕ) → ((m : ℕ) → occurs m (ps ++ p ∷ []) ≡ true → m < free) → n ≤ free →
    seen_after n p ≤ free
seen-last ps p n free slots low = seen-within (ps ++ p ∷ []) (length ps) n free p p
    (let l : length (ps ++ p ∷ []) ≡ length ps + 1 = length-append ps (p ∷ []) in omega (arith, l)) slots low (last-of ps p p)

-- a list that is not empty is what comes before its last item, and that item
pub lead-last : (ps : List Part) (d : Part) → 1 ≤ length ps → take (length ps - 1) ps ++ get_or ps (length ps - 1) d ∷ [] ≡ ps
lead-last [] d p = absurd (omega arith)
lead-last (q ∷ []) d p = refl
lead-last (q ∷ r ∷ ps) d p =
    let n : length (q ∷ r ∷ ps) - 1 ≡ suc (length (r ∷ ps) - 1) = omega arith in
    ap (λ m. take m (q ∷ r ∷ ps) ++ get_or (q ∷ r ∷ ps) m d ∷ []) n ∙ ap (λ xs. q ∷ xs) (lead-last (r ∷ ps) d (omega arith))

pub of-some : (o : Option ℕ) (P : Type 0) → is_some o ≡ true → IfSome o (λ _. P) → P
of-some None P h s = absurd (true≢false (sym h))
of-some (Some x) P h s = s
