-- Slots that are kept and given back, and frames that are the same.
use Rattle.std.proofs.Common.{◌≡◌, ◌<◌, ◌≤◌, ℕ, zero, suc, List, [], ◌∷◌, map, take, drop, length, get_or, cond, ◌==◌, true, false, Option}
use Rattle.std.proofs.Common.{refl, sym, ap, ◌∙◌, drop-cons, eqb-true, arith}
use mathlib.Core.Path.{fun_ext}
use Rattle.std.specs.Prelude.{slice_set}
use Rattle.tl_eval.specs.Frames.{assignment_in, given_back}
use Rattle.tl_eval.proofs.BindLaws.{Outside, bind-outside}
use Rattle.tl_eval.proofs.FrameLaws.{assignment-set}
use Rattle.tl_eval.proofs.ReadingLaws.{take-past}
use Rattle.tl_syntax.specs.declared.value.Value.{Value}
use Rattle.tl_syntax.specs.declared.variable.Var.{Var}
use Rattle.tl_syntax.specs.Assignment.{Assignment, bind}

-- the first n of the list are what the slots of the first n variables have
pub record LeadingSlots (e : Assignment) (ss : List Var) (n : ℕ) (os : List (Option Value)) : Type 0 where
  pub size : length os ≡ 9
  pub same : take n os ≡ map (λ s. e s.slot) (take n ss)

-- one more
pub lead-one : {A B : Type 0} (f : A → B) (xs : List A) (os : List B) (i : ℕ) (d : A) (v : B) → i < length xs → i < length os → v ≡
    f (get_or xs i d) → take i os ≡ map f (take i xs) → take (suc i) (slice_set os i v) ≡ map f (take (suc i) xs)
lead-one f [] os i d v h k q so = absurd (omega arith)
lead-one f (x ∷ xs) [] i d v h k q so = absurd (omega arith)
lead-one {B = B} f (x ∷ xs) (o ∷ os) zero d v h k q so = ap (λ (y : B). y ∷ []) q
lead-one f (x ∷ xs) (o ∷ os) (suc i) d v h k q so =
    let first : o ≡ f x = cc in
    let rest : take i os ≡ map f (take i xs) = cc in
    λ j. first j ∷ lead-one f xs os i d v (omega arith) (omega arith) q rest j

-- once all are there, they are what the slots of all variables have
pub whole-slots : (e : Assignment) (ss : List Var) (n : ℕ) (os : List (Option Value)) → length ss ≤ n → LeadingSlots e ss n os →
    n ≤ length ss → take (length ss) os ≡ map (λ s. e s.slot) ss
whole-slots e ss n os h l k =
    let same : n ≡ length ss = omega arith in
    ap (λ (m : ℕ). take m os) (sym same) ∙ (l.same ∙ (ap (λ (m : ℕ). map (λ (s : Var). e s.slot) (take m ss)) same ∙
    ap (map (λ (s : Var). e s.slot)) (take-past (length ss) ss (omega arith))))

-- at first no slot has its value back
pub back-begun : (ss : List Var) (os : List (Option Value)) (frame : List (Option Value)) → assignment_in frame ≡
    given_back (drop (length ss) ss) (drop (length ss) os) (assignment_in frame)
back-begun ss os frame = ap (λ (xs : List Var). given_back xs (drop (length ss) os) (assignment_in frame)) (sym (none ss))
  where
    none : (xs : List Var) → drop (length xs) xs ≡ []
    none [] = refl
    none (x ∷ xs) = none xs

-- one more
pub back-one : (ss : List Var) (os : List (Option Value)) (i j : ℕ) (s : Var) (o : Option Value) (frame : List (Option Value))
    (e : Assignment) → j ≡ suc i → i < length ss → i < length os → (get_or ss i s).slot < length frame
    → assignment_in frame ≡ given_back (drop j ss) (drop j os) e
    → assignment_in (slice_set frame (get_or ss i s).slot (get_or os i o)) ≡ given_back (drop i ss) (drop i os) e
back-one ss os i j s o frame e q h k room so =
    fun_ext (λ (x : ℕ).
    assignment-set frame (get_or ss i s).slot (get_or os i o) x room
    ∙ (ap (λ (f : Assignment). cond (x == (get_or ss i s).slot) (get_or os i o) (f x))
    (so ∙ ap (λ (m : ℕ). given_back (drop m ss) (drop m os) e) q)))
    ∙ sym (ap (λ (xs : List Var). given_back xs (drop i os) e) (drop-cons ss i s h)
    ∙ ap (λ (us : List (Option Value)). given_back (get_or ss i s ∷ drop (suc i) ss) us e) (drop-cons os i o k))

-- what differs from e in the slots of the variables alone is e once they have their values back
pub all-back : (ss : List Var) (os : List (Option Value)) (d e : Assignment) → ((t : List Value) → bind ss t d ≡ bind ss t e) →
    take (length ss) os ≡ map (λ s. e s.slot) ss → given_back ss os d ≡ e
all-back ss os d e same k = fun_ext (λ q. at ss os q k (λ o. sym (bind-outside ss [] d q o) ∙
    (ap (λ (f : Assignment). f q) (same []) ∙ bind-outside ss [] e q o)))
  where
    at : (ss : List Var) (os : List (Option Value)) (q : ℕ) → take (length ss) os ≡ map (λ s. e s.slot) ss → (Outside q ss → d q ≡ e q) →
        given_back ss os d q ≡ e q
    at [] os q k h = h tt
    at (s ∷ ss) [] q k h = absurd (let z : ⊥ = cc in z)
    at (s ∷ ss) (o ∷ os) q k h =
        let first : o ≡ e s.slot = cc in
        let rest : take (length ss) os ≡ map (λ (u : Var). e u.slot) ss = cc in
        (elim (q == s.slot) as (λ b. (q == s.slot) ≡ b → cond b o (given_back ss os d q) ≡ e q) [
          | true ↦ λ x. first ∙
              ap e (sym (eqb-true q s.slot x))
          | false ↦ λ x. at ss os q rest (λ o. h (x, o))
        ]) refl

-- frames of one length that give the same are the same
pub same-frame : (xs ys : List (Option Value)) → length xs ≡ length ys → assignment_in xs ≡ assignment_in ys → xs ≡ ys
same-frame [] [] h q = refl
same-frame [] (y ∷ ys) h q = absurd (let z : ⊥ = omega arith in z)
same-frame (x ∷ xs) [] h q = absurd (let z : ⊥ = omega arith in z)
same-frame (x ∷ xs) (y ∷ ys) h q = λ i. ap (λ (e : Assignment). e 0) q i ∷
    same-frame xs ys (omega arith) (fun_ext (λ n. ap (λ (e : Assignment). e (suc n)) q)) i
