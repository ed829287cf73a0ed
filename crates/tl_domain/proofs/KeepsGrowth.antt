-- Declarations that grow, and what fits them.
use Rattle.std.proofs.Common.{◌≡◌, ◌<◌, ◌≤◌, ◌+◌, ℕ, zero, suc, List, [], ◌∷◌, ◌++◌, length, take, Some, sym, subst, arith, inl, inr}
use Rattle.std.specs.Prelude.{slice_get, ◌⊎◌}
use Rattle.std.proofs.lemmas.List.{take_all}
use Rattle.std.proofs.lemmas.Option.{none-some}
use Rattle.tl_syntax.specs.Trees.{FormulaTree}
use Rattle.tl_syntax.specs.Fits.{BoundFits, Fits}
use Rattle.tl_syntax.specs.FreeVariables.{slots_of, free_slots, InScope}
use Rattle.tl_syntax.specs.Kept.{ParametersKeep}
use Rattle.tl_syntax.specs.Named.{IsNamed}
use Rattle.tl_syntax.specs.Signature.{Signature, Takes, with_definitions_below}
use Rattle.tl_syntax.specs.StateFormulas.{IsState}
use Rattle.tl_formulas.proofs.KeepsLists.{Each-implies}
use Rattle.tl_formulas.proofs.KeepsFormulas.{FormulaKeeps}
use Rattle.tl_formulas.proofs.KeepsMore.{IsPartOf, bound-fits, formula-fits, effects-fit}
use Rattle.tl_domain.specs.DomainTrees.{DefinitionTree, OperatorTree}
use Rattle.tl_domain.proofs.KeepsOperators.{OperatorTreeKeeps}

-- the second signature has more after the first
pub record Grows (g h : Signature) : Type 0 where
  pub more_predicates : List ℕ
  pub more_functions : List ℕ
  pub more_definitions : List ℕ
  pub predicates : h.predicates ≡ g.predicates ++ more_predicates
  pub functions : h.functions ≡ g.functions ++ more_functions
  pub definitions : h.definitions ≡ g.definitions ++ more_definitions

takes-more : (xs ys : List ℕ) (p n : ℕ) → Takes xs p n → Takes (xs ++ ys) p n
takes-more [] ys p n h = absurd (none-some n h)
takes-more (x ∷ xs) ys zero n h = h
takes-more (x ∷ xs) ys (suc p) n h = takes-more xs ys p n h

takes-more-below : (m : ℕ) (xs ys : List ℕ) (p n : ℕ) → Takes (take m xs) p n → Takes (take m (xs ++ ys)) p n
takes-more-below zero xs ys p n h = absurd (none-some n h)
takes-more-below (suc m) [] ys p n h = absurd (none-some n h)
takes-more-below (suc m) (x ∷ xs) ys zero n h = h
takes-more-below (suc m) (x ∷ xs) ys (suc p) n h = takes-more-below m xs ys p n h

pub part-of-grown : (g h : Signature) → Grows g h → IsPartOf g h
part-of-grown g h grown = record {
  predicates = λ p n takes. subst (λ (l : List ℕ). Takes l p n) (sym grown.predicates)
      (takes-more g.predicates grown.more_predicates p n takes);
  functions = λ p n takes. subst (λ (l : List ℕ). Takes l p n) (sym grown.functions)
      (takes-more g.functions grown.more_functions p n takes);
  definitions = λ p n takes. subst (λ (l : List ℕ). Takes l p n) (sym grown.definitions)
      (takes-more g.definitions grown.more_definitions p n takes);
}

part-below : (m : ℕ) (g h : Signature) → Grows g h → IsPartOf (with_definitions_below m g) (with_definitions_below m h)
part-below m g h grown = record {
  predicates = λ p n takes. subst (λ (l : List ℕ). Takes l p n) (sym grown.predicates)
      (takes-more g.predicates grown.more_predicates p n takes);
  functions = λ p n takes. subst (λ (l : List ℕ). Takes l p n) (sym grown.functions)
      (takes-more g.functions grown.more_functions p n takes);
  definitions = λ p n takes. subst (λ (l : List ℕ). Takes (take m l) p n) (sym grown.definitions)
      (takes-more-below m g.definitions grown.more_definitions p n takes);
}

-- all definitions are those below their number
pub part-of-all : (m : ℕ) (g : Signature) → length g.definitions ≤ m → IsPartOf g (with_definitions_below m g)
part-of-all m g le = record {
  predicates = λ p n takes. takes;
  functions = λ p n takes. takes;
  definitions = λ p n takes. rw (take_all m g.definitions le) takes;
}

-- what a definition of a problem keeps, of its plain tree
pub record DefinitionTreeKeeps (g : Signature) (n i : ℕ) (d : DefinitionTree) : Type 0 where
  pub name : d.name < n
  pub params : ParametersKeep n 8 d.params
  pub state : IsState d.body
  pub scope : InScope (slots_of d.params) (free_slots d.body)
  pub fits : Fits (with_definitions_below (i + 1) g) (slots_of d.params) d.body
  pub named : IsNamed n d.body
  pub levels : 1 ≤ d.levels

-- all this is kept while declarations are added
pub definition-grows : (g h : Signature) (n i : ℕ) (d : DefinitionTree) → Grows g h → DefinitionTreeKeeps g n i d →
    DefinitionTreeKeeps h n i d
definition-grows g h n i d grown k = record {
  name = k.name;
  params = k.params;
  state = k.state;
  scope = k.scope;
  fits = formula-fits (with_definitions_below (i + 1) g) (with_definitions_below (i + 1) h) (part-below (i + 1) g h grown)
      (slots_of d.params) d.body k.fits;
  named = k.named;
  levels = k.levels;
}

pub operator-grows : (g h : Signature) (n : ℕ) (o : OperatorTree) → Grows g h → OperatorTreeKeeps g n o → OperatorTreeKeeps h n o
operator-grows g h n o grown k = record {
  name = k.name;
  params = k.params;
  bounded = k.bounded;
  bounds_scope = k.bounds_scope;
  bounds_fit = Each-implies (BoundFits g) (BoundFits h) (λ b fits. bound-fits g h (part-of-grown g h grown) b fits) o.bounds k.bounds_fit;
  bounds_named = k.bounds_named;
  state = k.state;
  scope = k.scope;
  fits = formula-fits g h (part-of-grown g h grown) (slots_of o.params) o.pre k.fits;
  named = k.named;
  effects_state = k.effects_state;
  effects_scope = k.effects_scope;
  effects_fit = effects-fit g h (part-of-grown g h grown) (slots_of o.params) o.effects k.effects_fit;
  effects_named = k.effects_named;
}

pub formula-grows : (g h : Signature) (n : ℕ) (around : List ℕ) (k : ℕ) (f : FormulaTree) → Grows g h → FormulaKeeps g n around k f →
    FormulaKeeps h n around k f
formula-grows g h n around k f grown kept = record {
  fits = formula-fits g h (part-of-grown g h grown) around f kept.fits;
  below =
      kept.below;
  named = kept.named;
}

-- a place of two lists one after the other is one of the first, or one of the second
pub place-of-both : {A : Type 0} (xs ys : List A) (i : ℕ) (x : A) → slice_get (xs ++ ys) i ≡ Some x → (slice_get xs i ≡ Some x) ⊎
    ((j : ℕ) × (i ≡ length xs + j) × (slice_get ys j ≡ Some x))
place-of-both [] ys i x at = inr (i, omega arith, at)
place-of-both (y ∷ xs) ys zero x at = inl at
place-of-both (y ∷ xs) ys (suc i) x at = elim (place-of-both xs ys i x at) [
  | inl here ↦ inl here
  | inr later ↦ inr (later.0, omega (arith, later.1), later.2)
]
