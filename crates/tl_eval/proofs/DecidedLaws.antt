-- Parts that are looked at one after another, until one of them decides.
use Rattle.std.proofs.Common.{◌≡◌, List, [], ◌∷◌, ◌++◌, cond, Bool, true, false, not, ◌&&◌, ◌||◌, Ok, refl, sym, ap, ◌∙◌, subst}
use mathlib.Core.Bool.{beq}
use Rattle.std.specs.List.{list_any, list_all}
use Rattle.tl_eval.specs.Notes.{AreInRange, Tells, Evaluates, operation_of, Carries}
use Rattle.tl_eval.specs.declared.range.RangeNote.{RangeNote}
use Rattle.tl_eval.proofs.TermLaws.{in_range-append, among-left, among-right}
use Rattle.tl_syntax.specs.declared.bound.Bound.{Bound}
use Rattle.tl_syntax.specs.declared.junction.Junction.{Junction}
use Rattle.tl_syntax.specs.declared.junction.Junction.TheVariants.{All, Any}
use Rattle.tl_syntax.specs.declared.value.Value.{Value}
use Rattle.tl_syntax.specs.declared.variable.Var.{Var}
use Rattle.tl_syntax.specs.Assignment.{Assignment, bind}
use Rattle.tl_syntax.specs.Junctions.{deciding_truth, joined, quantified}
use Rattle.tl_syntax.specs.Trees.{FormulaTree, formulas_of_list}
use Rattle.tl_terms.specs.Bounds.{tuples}
use Rattle.tl_terms.specs.Looked.{LookedTable, followed_if, looked_in_state, looked_in_and, looked_in_or, looked_in_turn}
use Rattle.tl_terms.specs.Operations.{Operation}
use Rattle.tl_terms.specs.Situation.{Situation}
use Rattle.tl_terms.specs.Truth.{state_true, all_true, one_true}

-- the truth of a part leaves the whole open
abbrev pub goes_past : Bool → Bool → Bool
goes_past true b = not b
goes_past false b = b

-- the truth that decides, where a part has it, and else the other one
abbrev pub decided : {A : Type 0} → Bool → (A → Bool) → List A → Bool
decided stop truth [] = not stop
decided stop truth (x ∷ xs) = cond (goes_past stop (truth x)) (decided stop truth xs) stop

-- what is looked at until then
abbrev pub looked_until : {A : Type 0} → Bool → (A → Bool) → (A → List Operation) → List A → List Operation
looked_until stop truth looked [] = []
looked_until stop truth looked (x ∷ xs) = followed_if (goes_past stop (truth x)) (looked x) (looked_until stop truth looked xs)

-- the parts so far leave the whole open, and the rest is left
pub record Through {A : Type 0} (stop : Bool) (truth : A → Bool) (looked : A → List Operation) (all rest : List A) : Type 0 where
  pub values : decided stop truth all ≡ decided stop truth rest
  pub carried : Carries (looked_until stop truth looked all) (looked_until stop truth looked rest)

stays-open : (stop b : Bool) → (b ≡ stop → ⊥) → goes_past stop b ≡ true
stays-open true true h = absurd (h refl)
stays-open true false h = refl
stays-open false true h = refl
stays-open false false h = absurd (h refl)

is-decided : (stop b : Bool) → b ≡ stop → goes_past stop b ≡ false
is-decided true b q = ap not q
is-decided false b q = q

module _ {A : Type 0} (stop : Bool) (truth : A → Bool) (looked : A → List Operation) where
  pub through-begun : (all : List A) → Through stop truth looked all all
  through-begun all = record { values = refl; carried = record { in_range = λ a. a; among = λ o a. a } }

  pub through-on : (all : List A) (x : A) (rest : List A) (b : Bool) → Through stop truth looked all (x ∷ rest) →
      Evaluates (truth x) (looked x) (Ok b) → (b ≡ stop → ⊥) → Through stop truth looked all rest
  through-on all x rest b t found open_still =
      let past : goes_past stop (truth x) ≡ true = ap (goes_past stop) (sym found.0) ∙ stays-open stop b open_still in
      let looks : looked_until stop truth looked (x ∷ rest) ≡ looked x ++ looked_until stop truth looked rest =
      ap (λ (g : Bool). followed_if g (looked x) (looked_until stop truth looked rest)) past in
      let carried : Carries (looked_until stop truth looked all) (looked x ++ looked_until stop truth looked rest) =
      subst (Carries (looked_until stop truth looked all)) looks t.carried in
      record {
        values = t.values ∙ ap (λ (g : Bool). cond g (decided stop truth rest) stop) past;
        carried = record {
          in_range = λ a. carried.in_range (in_range-append (looked x) (looked_until stop truth looked rest) found.1 a);
          among = λ o a. carried.among o (among-right o (looked x) (looked_until stop truth looked rest) a);
        };
      }

  pub through-stop : (all : List A) (x : A) (rest : List A) (b : Bool) → Through stop truth looked all (x ∷ rest) →
      Evaluates (truth x) (looked x) (Ok b) → b ≡ stop → Evaluates (decided stop truth all) (looked_until stop truth looked all) (Ok stop)
  through-stop all x rest b t found q =
      let past : goes_past stop (truth x) ≡ false = ap (goes_past stop) (sym found.0) ∙ is-decided stop b q in
      let looks : looked_until stop truth looked (x ∷ rest) ≡ looked x ++ [] =
      ap (λ (g : Bool). followed_if g (looked x) (looked_until stop truth looked rest)) past in (
        sym (t.values ∙ ap (λ (g : Bool). cond g (decided stop truth rest) stop) past),
        t.carried.in_range (subst AreInRange (sym looks) (in_range-append (looked x) [] found.1 tt)),
      )

  pub through-noted : (all : List A) (x : A) (rest : List A) (n : RangeNote) → Through stop truth looked all (x ∷ rest) →
      Tells (looked x) n → Tells (looked_until stop truth looked all) n
  through-noted all x rest n t found = (t.carried.among (operation_of n) (among-left (operation_of n) (looked x) _ found.0), found.1)

  pub through-end : (all : List A) → Through stop truth looked all [] →
      Evaluates (decided stop truth all) (looked_until stop truth looked all) (Ok (not stop))
  through-end all t = (sym t.values, t.carried.in_range tt)

-- ---- conjunctions, disjunctions and quantifiers are decided in this way

or-cond : (a b : Bool) → a || b ≡ cond (not a) b true
or-cond true b = refl
or-cond false b = refl

and-cond : (a b : Bool) → a && b ≡ cond a b false
and-cond true b = refl
and-cond false b = refl

module _ (d : LookedTable) (s : Situation) (e : Assignment) where
  pub joined-truth : (j : Junction) (stop : Bool) → stop ≡ deciding_truth j → (fs : List FormulaTree) →
      state_true s e (joined j (formulas_of_list fs)) ≡ decided stop (state_true s e) fs
  unfolding state_true
  joined-truth Any stop q fs = some fs ∙ ap (λ (b : Bool). decided b (state_true s e) fs) (sym q)
    where
      some : (fs : List FormulaTree) → one_true s e (formulas_of_list fs) ≡ decided true (state_true s e) fs
      some [] = refl
      some (f ∷ fs) = or-cond (state_true s e f) (one_true s e (formulas_of_list fs)) ∙
          ap (λ (b : Bool). cond (not (state_true s e f)) b true) (some fs)
  joined-truth All stop q fs = all fs ∙ ap (λ (b : Bool). decided b (state_true s e) fs) (sym q)
    where
      all : (fs : List FormulaTree) → all_true s e (formulas_of_list fs) ≡ decided false (state_true s e) fs
      all [] = refl
      all (f ∷ fs) = and-cond (state_true s e f) (all_true s e (formulas_of_list fs)) ∙
          ap (λ (b : Bool). cond (state_true s e f) b false) (all fs)

  pub joined-looks : (j : Junction) (stop : Bool) → stop ≡ deciding_truth j → (fs : List FormulaTree) →
      looked_in_state d s e (joined j (formulas_of_list fs)) ≡ looked_until stop (state_true s e) (looked_in_state d s e) fs
  unfolding looked_in_state
  joined-looks Any stop q fs = some fs ∙ ap (λ (b : Bool). looked_until b (state_true s e) (looked_in_state d s e) fs) (sym q)
    where
      some : (fs : List FormulaTree) → looked_in_or d s e (formulas_of_list fs) ≡
          looked_until true (state_true s e) (looked_in_state d s e) fs
      some [] = refl
      some (f ∷ fs) = ap (followed_if (not (state_true s e f)) (looked_in_state d s e f)) (some fs)
  joined-looks All stop q fs = all fs ∙ ap (λ (b : Bool). looked_until b (state_true s e) (looked_in_state d s e) fs) (sym q)
    where
      all : (fs : List FormulaTree) → looked_in_and d s e (formulas_of_list fs) ≡
          looked_until false (state_true s e) (looked_in_state d s e) fs
      all [] = refl
      all (f ∷ fs) = ap (followed_if (state_true s e f) (looked_in_state d s e f)) (all fs)

-- the truth of an instance
abbrev pub instance_truth : Situation → Assignment → List Var → FormulaTree → List Value → Bool
instance_truth s e ss f = λ t. state_true s (bind ss t e) f

-- what is looked at in it
abbrev pub instance_looks : LookedTable → Situation → Assignment → List Var → FormulaTree → List Value → List Operation
instance_looks d s e ss f = λ t. looked_in_state d s (bind ss t e) f

any-decided : (truth : List Value → Bool) (ts : List (List Value)) → list_any truth ts ≡ decided true truth ts
any-decided truth [] = refl
any-decided truth (t ∷ ts) = or-cond (truth t) (list_any truth ts) ∙ ap (λ (b : Bool). cond (not (truth t)) b true) (any-decided truth ts)

all-decided : (truth : List Value → Bool) (ts : List (List Value)) → list_all truth ts ≡ decided false truth ts
all-decided truth [] = refl
all-decided truth (t ∷ ts) = and-cond (truth t) (list_all truth ts) ∙ ap (λ (b : Bool). cond (truth t) b false) (all-decided truth ts)

turn-until : (stop : Bool) (truth : List Value → Bool) (looked : List Value → List Operation) (ts : List (List Value)) →
    looked_in_turn looked (λ t. goes_past stop (truth t)) ts ≡ looked_until stop truth looked ts
turn-until stop truth looked [] = refl
turn-until stop truth looked (t ∷ ts) = ap (followed_if (goes_past stop (truth t)) (looked t)) (turn-until stop truth looked ts)

module _ (d : LookedTable) (s : Situation) (e : Assignment) (ss : List Var) (b : Bound) (f : FormulaTree) where
  pub quantified-truth : (j : Junction) (stop : Bool) → stop ≡ deciding_truth j → state_true s e (quantified j ss b f) ≡
      decided stop (instance_truth s e ss f) (tuples s e ss b)
  unfolding state_true
  quantified-truth Any stop q = any-decided (instance_truth s e ss f) (tuples s e ss b) ∙
      ap (λ (x : Bool). decided x (instance_truth s e ss f) (tuples s e ss b)) (sym q)
  quantified-truth All stop q = all-decided (instance_truth s e ss f) (tuples s e ss b) ∙
      ap (λ (x : Bool). decided x (instance_truth s e ss f) (tuples s e ss b)) (sym q)

  pub quantified-looks : (j : Junction) (stop : Bool) → stop ≡ deciding_truth j → looked_in_state d s e (quantified j ss b f) ≡
      looked_until stop (instance_truth s e ss f) (instance_looks d s e ss f) (tuples s e ss b)
  unfolding looked_in_state
  quantified-looks Any stop q = turn-until true (instance_truth s e ss f) (instance_looks d s e ss f) (tuples s e ss b) ∙
      ap (λ (x : Bool). looked_until x (instance_truth s e ss f) (instance_looks d s e ss f) (tuples s e ss b)) (sym q)
  quantified-looks All stop q = turn-until false (instance_truth s e ss f) (instance_looks d s e ss f) (tuples s e ss b) ∙
      ap (λ (x : Bool). looked_until x (instance_truth s e ss f) (instance_looks d s e ss f) (tuples s e ss b)) (sym q)

-- ---- what a test of two truths and a match that fails say

pub same-truth : (a b : Bool) → beq a b ≡ true → a ≡ b
same-truth true true h = refl
same-truth true false h = absurd (let z : ⊥ = cc in z)
same-truth false true h = absurd (let z : ⊥ = cc in z)
same-truth false false h = refl

pub other-truth : (a b : Bool) → beq a b ≡ false → a ≡ b → ⊥
other-truth true true h q = let z : ⊥ = cc in z
other-truth true false h q = let z : ⊥ = cc in z
other-truth false true h q = let z : ⊥ = cc in z
other-truth false false h q = let z : ⊥ = cc in z
