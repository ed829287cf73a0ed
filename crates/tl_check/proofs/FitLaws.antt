-- Formulas that fit below quantifiers fit by themselves.
use Rattle.std.proofs.Common.{◌≡◌, ◌≤◌, ◌<◌, ℕ, zero, suc, List, [], ◌∷◌, ◌++◌, map, length, get_or, Bool, true, false, ◌||◌, ◌==◌, refl}
use Rattle.std.proofs.Common.{sym, ap, ◌∙◌, subst, arith}
use Rattle.tl_eval.proofs.ArityLaws.{declared-few}
use Rattle.tl_eval.proofs.PatternLaws.{few-variables, bound-few}
use Rattle.tl_syntax.specs.declared.junction.Junction.{Junction}
use Rattle.tl_syntax.specs.declared.junction.Junction.TheVariants.{All, Any}
use Rattle.tl_syntax.specs.Junctions.{joined, quantified}
use Rattle.tl_syntax.proofs.FormulaTrees.{trees-Formulas}
use Rattle.tl_syntax.specs.declared.bound.Bound.{Bound}
use Rattle.tl_syntax.specs.declared.formula.Formula.{Formula}
use Rattle.tl_syntax.specs.declared.formula.Formulas.{Formulas}
use Rattle.tl_syntax.specs.declared.problem.Problem.{Problem}
use Rattle.tl_syntax.specs.declared.variable.Var.{Var}
use Rattle.tl_syntax.specs.BoundVariables.{DifferInSlot, OccurIn}
use Rattle.tl_syntax.specs.Fits.{BoundFits, Fits, AllFit, VariablesFit}
use Rattle.tl_syntax.specs.FreeVariables.{slots_of, is_slot_in}
use Rattle.tl_syntax.specs.Lists.{Each}
use Rattle.tl_syntax.specs.Signature.{Signature, signature_of}
use Rattle.tl_syntax.specs.TreeOfFormula.{tree_of_formula, tree_of_formulas}
use Rattle.tl_syntax.specs.Trees.{FormulaTree, FormulaTrees, verum, falsum, atom, defined, compare, goal_fact, goal_place, goal_not}
use Rattle.tl_syntax.specs.Trees.{negation, conjunction, disjunction, for_all, for_some, next, always, eventually, until, within, during}
use Rattle.tl_syntax.specs.Trees.{no_formula, more_formulas, formulas_of_list}

-- a slot that is not around is not inside
abbrev pub Less : List ℕ → List ℕ → Type 0
Less around inner = (q : ℕ) → is_slot_in around q ≡ false → is_slot_in inner q ≡ false

less-below : (slots around inner : List ℕ) → Less around inner → Less (slots ++ around) (slots ++ inner)
less-below [] around inner h = h
less-below (k ∷ slots) around inner h = λ q z. by (q == k) (is_slot_in (slots ++ around) q) (is_slot_in (slots ++ inner) q)
    (less-below slots around inner h q) z
  where
    by : (b x y : Bool) → (x ≡ false → y ≡ false) → (b || x) ≡ false → (b || y) ≡ false
    by true x y m z = z
    by false x y m z = m z

each-less : (around inner : List ℕ) → Less around inner → (ss : List Var) → Each (λ s. is_slot_in around s.slot ≡ false) ss →
    Each (λ s. is_slot_in inner s.slot ≡ false) ss
each-less around inner h [] k = tt
each-less around inner h (s ∷ ss) k = (h s.slot k.0, each-less around inner h ss k.1)

variables-less : (g : Signature) (around inner : List ℕ) → Less around inner → (ss : List Var) (b : Bound) → VariablesFit g around ss b →
    VariablesFit g inner ss b
variables-less g around inner h ss b v = record {
  frame = v.frame;
  fresh = each-less around inner h ss v.fresh;
  differ = v.differ;
  occur =
      v.occur;
  bound = v.bound;
}

mutual
  unfolding Fits

  pub fits-less : (g : Signature) (around inner : List ℕ) → Less around inner → (f : FormulaTree) → Fits g around f → Fits g inner f
  fits-less g around inner h verum k = k
  fits-less g around inner h falsum k = k
  fits-less g around inner h (atom p ts) k = k
  fits-less g around inner h (defined p ts) k = k
  fits-less g around inner h (compare c x y) k = k
  fits-less g around inner h (goal_fact p xs) k = k
  fits-less g around inner h (goal_place m xs x) k = k
  fits-less g around inner h (goal_not p xs) k = k
  fits-less g around inner h (negation f) k = fits-less g around inner h f k
  fits-less g around inner h (conjunction fs) k = all-less g around inner h fs k
  fits-less g around inner h (disjunction fs) k = all-less g around inner h fs k
  fits-less g around inner h (for_all ss b f) k = (
    variables-less g around inner h ss b k.0,
    fits-less g (slots_of ss ++ around) (slots_of ss ++ inner) (less-below (slots_of ss) around inner h) f k.1,
  )
  fits-less g around inner h (for_some ss b f) k = (
    variables-less g around inner h ss b k.0,
    fits-less g (slots_of ss ++ around) (slots_of ss ++ inner) (less-below (slots_of ss) around inner h) f k.1,
  )
  fits-less g around inner h (next f) k = fits-less g around inner h f k
  fits-less g around inner h (always f) k = fits-less g around inner h f k
  fits-less g around inner h (eventually f) k = fits-less g around inner h f k
  fits-less g around inner h (until f m) k = (fits-less g around inner h f k.0, fits-less g around inner h m k.1)
  fits-less g around inner h (within n f) k = fits-less g around inner h f k
  fits-less g around inner h (during n f) k = fits-less g around inner h f k

  all-less : (g : Signature) (around inner : List ℕ) → Less around inner → (fs : FormulaTrees) → AllFit g around fs → AllFit g inner fs
  all-less g around inner h no_formula k = k
  all-less g around inner h (more_formulas f fs) k = (fits-less g around inner h f k.0, all-less g around inner h fs k.1)

-- what a quantified formula that fits gives
pub record Parts (g : Signature) (ss : List Var) (b : Bound) (f : FormulaTree) : Type 0 where
  pub differ : DifferInSlot ss
  pub occur : OccurIn ss b
  pub bound : BoundFits g b
  pub few : length ss ≤ 9
  pub in_frame : Each (λ s. s.slot < 32) ss
  pub body : Fits g [] f

pub quantified-parts : (q : Problem) (junction : Junction) (ss : List Var) (b : Bound) (f : FormulaTree) →
    Fits (signature_of q.domain) [] (quantified junction ss b f) → Parts (signature_of q.domain) ss b f
unfolding Fits
quantified-parts q junction ss b f h = by (parts junction h)
  where
    parts : (junction : Junction) → Fits (signature_of q.domain) [] (quantified junction ss b f) →
        VariablesFit (signature_of q.domain) [] ss b × Fits (signature_of q.domain) (slots_of ss ++ []) f
    parts Any k = k
    parts All k = k

    by : VariablesFit (signature_of q.domain) [] ss b × Fits (signature_of q.domain) (slots_of ss ++ []) f →
        Parts (signature_of q.domain) ss b f
    by k = record {
      differ = k.0.differ;
      occur = k.0.occur;
      bound = k.0.bound;
      few = few-variables ss b k.0.differ k.0.occur (bound-few (signature_of q.domain)
          (declared-few _ q.domain.predicates q.domain_keeps.predicates)
          (declared-few _ q.domain.functions q.domain_keeps.functions) b k.0.bound);
      in_frame = k.0.frame;
      body = fits-less (signature_of q.domain) (slots_of ss ++ []) [] (λ s z. refl) f k.1;
    }

-- a part of a conjunction or disjunction
pub item-fits : (g : Signature) (junction : Junction) (fs : Formulas) (xs : List Formula) (i : ℕ) (x : Formula) → xs ≡ fs.items.items →
    i < length xs → x ≡ get_or xs i x → Fits g [] (joined junction (tree_of_formulas fs)) → Fits g [] (tree_of_formula x)
unfolding Fits
item-fits g junction fs xs i x q h r k = by xs i h r (subst (AllFit g [])
    (trees-Formulas fs ∙ ap (λ (ys : List Formula). formulas_of_list (map tree_of_formula ys)) (sym q)) (all junction k))
  where
    all : (junction : Junction) → Fits g [] (joined junction (tree_of_formulas fs)) → AllFit g [] (tree_of_formulas fs)
    all Any m = m
    all All m = m

    by : (ys : List Formula) (j : ℕ) → j < length ys → x ≡ get_or ys j x → AllFit g [] (formulas_of_list (map tree_of_formula ys)) →
        Fits g [] (tree_of_formula x)
    by [] j l s m = absurd (omega arith)
    by (y ∷ ys) zero l s m = subst (λ (z : Formula). Fits g [] (tree_of_formula z)) (sym s) m.0
    by (y ∷ ys) (suc j) l s m = by ys j (omega arith) s m.1
