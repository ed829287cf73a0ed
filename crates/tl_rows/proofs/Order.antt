-- The derived order of values is that of the definitions.
use Rattle.std.proofs.Common.{◌≡◌, ℕ, ◌+◌, ◌<◌, ◌≤◌, ◌⊎◌, List, [], ◌∷◌, length, drop, inl, inr, refl, sym, arith}
use Rattle.std.proofs.lemmas.List.{length-drop}
use Rattle.std.specs.Cmp.{nat_cmp_is}
use Rattle.std.specs.Ordering.{nat_cmp, ordering_then, MatchOrdering}
use Rattle.std.specs.Cmp.Lexicographic.{slice_cmp}
use Rattle.tl_syntax.specs.declared.value.Value.{Value}
use Rattle.tl_syntax.specs.declared.value.Value.TheVariants.{Int, Sym}
use Rattle.tl_syntax.specs.Keys.{value_cmp}
use Rattle.tl_syntax.specs.contracts.value.ValueOrd.TheImpl as value_impl

pub value_order : (a b : Value) → (value_impl.ghosts).cmp a b ≡ value_cmp a b
value_order (Int a) (Int b) = refl
value_order (Int a) (Sym b) = refl
value_order (Sym a) (Int b) = refl
value_order (Sym a) (Sym b) = refl

pub values_order : (xs ys : List Value) → slice_cmp (value_impl.ghosts).cmp xs ys ≡ slice_cmp value_cmp xs ys
values_order [] [] = refl
values_order [] (y ∷ ys) = refl
values_order (x ∷ xs) [] = refl
values_order (x ∷ xs) (y ∷ ys) = λ i. ordering_then (value_order x y i) (values_order xs ys i)

-- rows of which one has nothing stand as their lengths do
sided : (xs ys : List Value) (k n m : ℕ) → n ≡ k + length xs → m ≡ k + length ys → (length xs ≡ 0) ⊎ (length ys ≡ 0) →
    MatchOrdering (slice_cmp value_cmp xs ys) (n < m) (n ≡ m) (m < n)
sided [] [] k n m p q e = omega (arith, p, q)
sided [] (y ∷ ys) k n m p q e = omega (arith, p, q)
sided (x ∷ xs) [] k n m p q e = omega (arith, p, q)
sided (x ∷ xs) (y ∷ ys) k n m p q e = absurd (elim e [ inl a ↦ omega (arith, a) | inr b ↦ omega (arith, b) ])

-- and so do rows that are the same up to the end of one of them
pub by-length : (k : ℕ) (xs ys : List Value) → k ≤ length xs → k ≤ length ys → (length xs ≤ k) ⊎ (length ys ≤ k) →
    nat_cmp (length xs) (length ys) ≡ slice_cmp value_cmp (drop k xs) (drop k ys)
by-length k xs ys p q e =
    let a = length-drop k xs in
    let b = length-drop k ys in
    let none : (length (drop k xs) ≡ 0) ⊎ (length (drop k ys) ≡ 0) = elim
    e [ inl f ↦ inl (omega (arith, a, f)) | inr f ↦ inr (omega (arith, b, f)) ] in
    sym (nat_cmp_is (length xs) (length ys) (slice_cmp value_cmp (drop k xs) (drop k ys))
    (sided (drop k xs) (drop k ys) k (length xs) (length ys) (omega (arith, a, p)) (omega (arith, b, q)) none))

pub ruleset orders = (value_order, values_order)
