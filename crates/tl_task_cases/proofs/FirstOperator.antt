-- What an operator keeps that is taken from the list of a problem.
use Rattle.std.proofs.Common.{◌≡◌, ◌<◌, ◌+◌, ◌||◌, ℕ, suc, List, [], ◌∷◌, length, get_or, slice_get, map, Bool, true, false, IsTrue, Some}
use Rattle.std.proofs.Common.{refl, sym, ap, ◌∙◌, subst, arith}
use Rattle.std.specs.List.{list_any}
use Rattle.tl_terms.proofs.FitsAlone.{fits-alone}
use Rattle.tl_action.proofs.Walks.{each-item}
use Rattle.tl_syntax.specs.declared.bound.Bound.{Bound}
use Rattle.tl_syntax.specs.declared.formula.Formula.TheVariants as formula
use Rattle.tl_syntax.specs.declared.operator.Operator.{Operator}
use Rattle.tl_syntax.specs.declared.problem.Problem.{Problem}
use Rattle.tl_syntax.specs.declared.term.Term.{Term}
use Rattle.tl_syntax.specs.declared.value.Cmp.{Cmp}
use Rattle.tl_syntax.specs.declared.variable.Var.{Var}
use Rattle.tl_syntax.specs.BoundVariables.{stands_in, OccurIn, DifferInSlot}
use Rattle.tl_syntax.specs.Fits.{Fits, TermFits, BoundFits}
use Rattle.tl_syntax.specs.FreeVariables.{slots_of}
use Rattle.tl_syntax.specs.Kept.{OperatorKeeps}
use Rattle.tl_syntax.specs.Lists.{Each}
use Rattle.tl_syntax.specs.Settled.{AreTheirPlaces}
use Rattle.tl_syntax.specs.Signature.{signature_of}
use Rattle.tl_syntax.specs.StateFormulas.{IsState}
use Rattle.tl_syntax.specs.Trees.{compare}
use Rattle.tl_syntax.specs.TreeOfFormula.{tree_of_formula}
use Rattle.tl_syntax.specs.TreeOfTerm.{tree_of_term}
use Rattle.tl_syntax.proofs.FormulaTrees.{tree-Compare}
use Rattle.tl_terms.specs.ProblemMeaning.{plain_operator, plain_problem}

-- ---- variables and their one bound

above : (ss : List Var) (i : ℕ) → ((k n : ℕ) → slice_get (slots_of ss) k ≡ Some n → n ≡ i + k) → (low : ℕ) → low < i →
    Each (λ u. u.slot ≡ low → ⊥) ss
above [] i h low l = tt
above (s ∷ ss) i h low l = (
  (λ e. let x = h 0 s.slot refl in omega arith),
  above ss (suc i) (λ k n q. let x = h (suc k) n q in omega arith) low (omega arith),
)

differ-from : (ss : List Var) (i : ℕ) → ((k n : ℕ) → slice_get (slots_of ss) k ≡ Some n → n ≡ i + k) → DifferInSlot ss
differ-from [] i h = tt
differ-from (s ∷ ss) i h =
    let rest : (k n : ℕ) → slice_get (slots_of ss) k ≡ Some n → n ≡ suc i + k = λ k n q. let x = h (suc k) n q in omega arith in
    (above ss (suc i) rest s.slot (let x = h 0 s.slot refl in omega arith), differ-from ss (suc i) rest)

-- counted variables differ
counted-differ : (ss : List Var) → AreTheirPlaces (slots_of ss) → DifferInSlot ss
counted-differ ss h = differ-from ss 0 (λ k n q. let x = h k n q in omega arith)

or-nothing : (b : Bool) → IsTrue (b || false) → IsTrue b
or-nothing true h = h
or-nothing false h = h

in-one : (ss : List Var) (b : Bound) → Each (λ s. IsTrue (list_any (stands_in s) (b ∷ []))) ss → OccurIn ss b
in-one [] b h = tt
in-one (s ∷ ss) b h = (or-nothing (stands_in s b) h.0, in-one ss b h.1)

in-only : (ss : List Var) (bs : List Bound) (b : Bound) → length bs ≡ 1 → b ≡ get_or bs 0 b →
    Each (λ s. IsTrue (list_any (stands_in s) bs)) ss → OccurIn ss b
in-only ss [] b n q h = absurd (omega arith)
in-only ss (x ∷ []) b n q h = subst (OccurIn ss) (sym q) (in-one ss x h)
in-only ss (x ∷ y ∷ bs) b n q h = absurd (omega arith)

-- ---- an operator of a problem

no-parameters : (os : List Operator) (o : Operator) → 0 < length os → o ≡ get_or os 0 o → length o.params ≡ 0 →
    slice_get (map (λ x. length x.params) (map plain_operator os)) 0 ≡ Some 0
no-parameters [] o h k n = absurd (omega arith)
no-parameters (x ∷ os) o h k n = ap (λ (m : ℕ). Some m) (ap (λ (y : Operator). length y.params) (sym k) ∙ n)

module _ (p : Problem) (os : List Operator) (o : Operator) (is : os ≡ p.domain.operators) (some : 0 < length os)
    (at : o ≡ get_or os 0 o) where
  pub first-kept : OperatorKeeps (signature_of p.domain) (length p.names) o
  first-kept = each-item (OperatorKeeps (signature_of p.domain) (length p.names)) os 0 o
      (subst (λ (xs : List Operator). Each (OperatorKeeps (signature_of p.domain) (length p.names)) xs) (sym is) p.domain_keeps.operators)
      some at

  pub condition-fits : Fits (signature_of p.domain) [] (tree_of_formula o.pre)
  condition-fits = fits-alone (signature_of p.domain) (slots_of o.params) (tree_of_formula o.pre) first-kept.fits

  pub condition-state : IsState (tree_of_formula o.pre)
  condition-state = first-kept.state

  pub side-fits : (c : Cmp) (s t : Term) → o.pre ≡ formula.Compare c s t → TermFits (signature_of p.domain) (tree_of_term s)
  unfolding Fits
  side-fits c s t q =
      let whole : Fits (signature_of p.domain) [] (compare c (tree_of_term s) (tree_of_term t)) =
      subst (Fits (signature_of p.domain) []) (ap tree_of_formula q ∙ tree-Compare c s t) condition-fits in
      whole.0

  pub parameters-differ : DifferInSlot o.params
  parameters-differ = counted-differ o.params first-kept.params.counted

  pub parameters-occur : (bs : List Bound) (b : Bound) → bs ≡ o.bounds → length bs ≡ 1 → b ≡ get_or bs 0 b → OccurIn o.params b
  parameters-occur bs b q n k = in-only o.params bs b n k (subst (λ (xs : List Bound).
      Each (λ s. IsTrue (list_any (stands_in s) xs)) o.params) (sym q) first-kept.bounded)

  pub bound-fits : (bs : List Bound) (b : Bound) → bs ≡ o.bounds → length bs ≡ 1 → b ≡ get_or bs 0 b → BoundFits (signature_of p.domain) b
  bound-fits bs b q n k = each-item (BoundFits (signature_of p.domain)) bs 0 b
      (subst (λ (xs : List Bound). Each (BoundFits (signature_of p.domain)) xs) (sym q) first-kept.bounds_fit) (omega arith) k

  pub first-takes : length o.params ≡ 0 → (n : ℕ) → n ≡ 0 → slice_get (map (λ x. length x.params) (plain_problem p).operators) 0 ≡ Some n
  unfolding plain_problem
  first-takes none n q =
      subst (λ (m : ℕ). slice_get (map (λ x. length x.params) (map plain_operator p.domain.operators)) 0 ≡ Some m) (sym q)
      (subst (λ (xs : List Operator). slice_get (map (λ x. length x.params) (map plain_operator xs)) 0 ≡ Some 0) is
      (no-parameters os o some at none))
