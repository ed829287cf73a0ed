-- A formula that fits below some quantifiers fits alone.
use Rattle.std.proofs.Common.{◌≡◌, ℕ, List, [], ◌∷◌, ◌++◌, false, ◌==◌, ◌||◌, refl, true}
use Rattle.tl_syntax.specs.declared.bound.Bound.{Bound}
use Rattle.tl_syntax.specs.declared.variable.Var.{Var}
use Rattle.tl_syntax.specs.Fits.{VariablesFit, Fits, AllFit}
use Rattle.tl_syntax.specs.FreeVariables.{is_slot_in, slots_of}
use Rattle.tl_syntax.specs.Lists.{Each}
use Rattle.tl_syntax.specs.Signature.{Signature}
use Rattle.tl_syntax.specs.Trees.{FormulaTree, FormulaTrees, verum, falsum, atom, defined, compare, goal_fact, goal_place, goal_not}
use Rattle.tl_syntax.specs.Trees.{negation, conjunction, disjunction, for_all, for_some, next, always, eventually, until, within, during}
use Rattle.tl_syntax.specs.Trees.{no_formula, more_formulas}

-- what is none of the first slots is none of the second
abbrev Fewer : List ℕ → List ℕ → Type 0
Fewer around less = (q : ℕ) → is_slot_in around q ≡ false → is_slot_in less q ≡ false

fewer-below : (xs around less : List ℕ) → Fewer around less → Fewer (xs ++ around) (xs ++ less)
fewer-below [] around less f q h = f q h
fewer-below (x ∷ xs) around less f q h = (elim (q == x) as (λ b. (b || is_slot_in (xs ++ around) q) ≡ false →
    (b || is_slot_in (xs ++ less) q) ≡ false) [ true ↦ λ k. k | false ↦ λ k. fewer-below xs around less f q k ]) h

fresh-fewer : (ss : List Var) (around less : List ℕ) → Fewer around less → Each (λ s. is_slot_in around s.slot ≡ false) ss →
    Each (λ s. is_slot_in less s.slot ≡ false) ss
fresh-fewer [] around less f h = tt
fresh-fewer (s ∷ ss) around less f h = (f s.slot h.0, fresh-fewer ss around less f h.1)

variables-fewer : (g : Signature) (around less : List ℕ) (ss : List Var) (b : Bound) → Fewer around less → VariablesFit g around ss b →
    VariablesFit g less ss b
variables-fewer g around less ss b f v = record {
  frame = v.frame;
  fresh = fresh-fewer ss around less f v.fresh;
  differ = v.differ;
  occur =
      v.occur;
  bound = v.bound;
}

mutual
  unfolding Fits

  fits-fewer : (g : Signature) (around less : List ℕ) (f : FormulaTree) → Fewer around less → Fits g around f → Fits g less f
  fits-fewer g around less verum k h = h
  fits-fewer g around less falsum k h = h
  fits-fewer g around less (atom p ts) k h = h
  fits-fewer g around less (defined p ts) k h = h
  fits-fewer g around less (compare c s t) k h = h
  fits-fewer g around less (goal_fact p xs) k h = h
  fits-fewer g around less (goal_place f xs x) k h = h
  fits-fewer g around less (goal_not p xs) k h = h
  fits-fewer g around less (negation f) k h = fits-fewer g around less f k h
  fits-fewer g around less (conjunction fs) k h = all-fewer g around less fs k h
  fits-fewer g around less (disjunction fs) k h = all-fewer g around less fs k h
  fits-fewer g around less (for_all ss b f) k h = (
    variables-fewer g around less ss b k h.0,
    fits-fewer g (slots_of ss ++ around) (slots_of ss ++ less) f (fewer-below (slots_of ss) around less k) h.1,
  )
  fits-fewer g around less (for_some ss b f) k h = (
    variables-fewer g around less ss b k h.0,
    fits-fewer g (slots_of ss ++ around) (slots_of ss ++ less) f (fewer-below (slots_of ss) around less k) h.1,
  )
  fits-fewer g around less (next f) k h = fits-fewer g around less f k h
  fits-fewer g around less (always f) k h = fits-fewer g around less f k h
  fits-fewer g around less (eventually f) k h = fits-fewer g around less f k h
  fits-fewer g around less (until f e) k h = (fits-fewer g around less f k h.0, fits-fewer g around less e k h.1)
  fits-fewer g around less (within n f) k h = fits-fewer g around less f k h
  fits-fewer g around less (during n f) k h = fits-fewer g around less f k h

  all-fewer : (g : Signature) (around less : List ℕ) (fs : FormulaTrees) → Fewer around less → AllFit g around fs → AllFit g less fs
  all-fewer g around less no_formula k h = tt
  all-fewer g around less (more_formulas f fs) k h = (fits-fewer g around less f k h.0, all-fewer g around less fs k h.1)

pub fits-alone : (g : Signature) (around : List ℕ) (f : FormulaTree) → Fits g around f → Fits g [] f
fits-alone g around f h = fits-fewer g around [] f (λ q k. refl) h
