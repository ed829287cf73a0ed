-- Lists of formulas without temporal words.
use Rattle.std.proofs.Common.{◌≡◌, ◌≤◌, ◌<◌, ◌+◌, ℕ, zero, suc, List, [], ◌∷◌, ◌++◌, map, take, length, get_or, refl, sym, ap, ◌∙◌, subst}
use Rattle.std.proofs.Common.{arith}
use Rattle.std.proofs.lemmas.List.{take_more}
use Rattle.tl_syntax.specs.declared.formula.Formula.{Formula}
use Rattle.tl_syntax.specs.declared.formula.Formulas.{Formulas}
use Rattle.tl_syntax.specs.StateFormulas.{IsState, AreState}
use Rattle.tl_syntax.specs.TreeOfFormula.{tree_of_formula, tree_of_formulas}
use Rattle.tl_syntax.specs.Trees.{formulas_of_list}
use Rattle.tl_syntax.proofs.FormulaTrees.{trees-Formulas}

-- none of them has a temporal word
abbrev pub AllState : List Formula → Type 0
AllState [] = Unit {0}
AllState (x ∷ xs) = IsState (tree_of_formula x) × AllState xs

all-end : (xs : List Formula) (x : Formula) → AllState xs → IsState (tree_of_formula x) → AllState (xs ++ x ∷ [])
all-end [] x h k = (k, tt)
all-end (y ∷ xs) x h k = (h.0, all-end xs x h.1 k)

pub state-more : (xs : List Formula) (i : ℕ) (x : Formula) → i < length xs → x ≡ get_or xs i x → AllState (take i xs) →
    IsState (tree_of_formula x) → AllState (take (i + 1) xs)
state-more xs i x h q a k = subst AllState (sym (take_more xs i x h ∙ ap (λ (y : Formula). take i xs ++ y ∷ []) (sym q)))
    (all-end (take i xs) x a k)

as-trees : (xs : List Formula) → AllState xs → AreState (formulas_of_list (map tree_of_formula xs))
as-trees [] h = tt
as-trees (x ∷ xs) h = (h.0, as-trees xs h.1)

whole : (xs : List Formula) (n : ℕ) → length xs ≤ n → take n xs ≡ xs
whole [] zero h = refl
whole [] (suc n) h = refl
whole (x ∷ xs) zero h = absurd (omega arith)
whole (x ∷ xs) (suc n) h = ap (λ (ys : List Formula). x ∷ ys) (whole xs n (omega arith))

pub state-all : (fs : Formulas) (xs : List Formula) (n : ℕ) → xs ≡ fs.items.items → length xs ≤ n → AllState (take n xs) →
    AreState (tree_of_formulas fs)
state-all fs xs n q h a = subst AreState (sym (trees-Formulas fs)) (as-trees fs.items.items (subst AllState (whole xs n h ∙ q) a))
