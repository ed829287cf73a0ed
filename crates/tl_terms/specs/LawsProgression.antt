-- Progression, residuals and accepted plans.
use Rattle.std.specs.Prelude.{◌≡◌, ◌≢◌, ◌↔◌, ℕ, suc, List, [], ◌∷◌, ◌++◌, length, Some, IsTrue}
use Rattle.tl_syntax.specs.declared.action.Action.{Action}
use Rattle.tl_syntax.specs.Trees.{FormulaTree, falsum, negation, conjunction, disjunction, next, always, eventually, until, within, during}
use Rattle.tl_syntax.specs.Trees.{formulas_of_list}
use Rattle.tl_terms.specs.World.{World}
use Rattle.tl_terms.specs.Problem.{PlainProblem}
use Rattle.tl_terms.specs.Situation.{Situation}
use Rattle.tl_syntax.specs.Assignment.{Assignment, no_values}
use Rattle.tl_syntax.specs.StateFormulas.{IsState}
use Rattle.tl_terms.specs.Truth.{state_true}
use Rattle.tl_terms.specs.Definitions.{situation_of}
use Rattle.tl_terms.specs.Run.{Run, Worlds, state_at, Begins, Satisfies, SatisfiesAlong}
use Rattle.tl_terms.specs.Acceptance.{IsAccepted}
use Rattle.tl_terms.specs.Simplification.{simplified_not, simplified_and, simplified_or}
use Rattle.tl_terms.specs.Progression.{constant, progressed}
use Rattle.tl_terms.specs.Pairs.{residual, Pair, pair_of, IsOpen, IsPairAccepted}

-- the progression lemma (Bacchus and Kabanza 2000): a formula holds at a position exactly where its
-- progression through the world there holds at the next
abbrev pub ProgressionLemma : Type 0
ProgressionLemma = (p : PlainProblem) (r : Run) (i : ℕ) (f : FormulaTree) → Satisfies p r i f ↔
    Satisfies p r (suc i) (progressed (situation_of p (state_at r i)) no_values f)

-- the same over any infinite sequence of worlds: a formula fails at a position exactly where its
-- progression through the world there fails at the next
abbrev pub ProgressionLemmaAlong : Type 0
ProgressionLemmaAlong = (p : PlainProblem) (s : Worlds) (i : ℕ) (f : FormulaTree)
    → (SatisfiesAlong p s i f → ⊥) ↔ (SatisfiesAlong p s (suc i) (progressed (situation_of p (s i)) no_values f) → ⊥)

-- the simplified negation holds exactly where the negation does
abbrev pub NotKeepsTruth : Type 0
NotKeepsTruth = (p : PlainProblem) (r : Run) (i : ℕ) (f : FormulaTree) → Satisfies p r i (simplified_not f) ↔ Satisfies p r i (negation f)

-- the simplified conjunction holds exactly where the conjunction does
abbrev pub AndKeepsTruth : Type 0
AndKeepsTruth = (p : PlainProblem) (r : Run) (i : ℕ) (fs : List FormulaTree) → Satisfies p r i (simplified_and fs) ↔
    Satisfies p r i (conjunction (formulas_of_list fs))

-- the simplified disjunction holds exactly where the disjunction does
abbrev pub OrKeepsTruth : Type 0
OrKeepsTruth = (p : PlainProblem) (r : Run) (i : ℕ) (fs : List FormulaTree) → Satisfies p r i (simplified_or fs) ↔
    Satisfies p r i (disjunction (formulas_of_list fs))

-- a formula without temporal words progresses to the constant of its truth
abbrev pub StateFormulaProgressesToItsTruth : Type 0
StateFormulaProgressesToItsTruth = (s : Situation) (e : Assignment) (f : FormulaTree) → IsState f → progressed s e f ≡
    constant (state_true s e f)

-- a formula without temporal words holds at a position exactly where it is true in the world there
abbrev pub StateFormulaHoldsWhereTrue : Type 0
StateFormulaHoldsWhereTrue = (p : PlainProblem) (r : Run) (i : ℕ) (f : FormulaTree) → IsState f → Satisfies p r i f ↔
    IsTrue (state_true (situation_of p (state_at r i)) no_values f)

-- a formula holds on a run that begins with the worlds exactly where its residual holds after them
abbrev pub ResidualLaw : Type 0
ResidualLaw = (p : PlainProblem) (r : Run) (ws : List World) (f : FormulaTree)
    → Begins (state_at r) 0 ws → Satisfies p r 0 f ↔ Satisfies p r (length ws) (residual p ws f)

-- worlds with the residual FALSE begin no infinite sequence of worlds that satisfies the formula
abbrev pub FalseResidualBeginsNoRun : Type 0
FalseResidualBeginsNoRun = (p : PlainProblem) (s : Worlds) (ws : List World) (f : FormulaTree)
    → residual p ws f ≡ falsum → Begins s 0 ws → SatisfiesAlong p s 0 f → ⊥

-- a plan is accepted exactly where it executes and its pair is accepted
abbrev pub AcceptedWhereItsPairIs : Type 0
AcceptedWhereItsPairIs = (p : PlainProblem) (plan : List Action) → IsAccepted p plan ↔
    ((x : Pair) × (pair_of p plan ≡ Some x) × IsPairAccepted p x)

-- of two plans with one pair both are accepted or none
abbrev pub AcceptanceDependsOnThePair : Type 0
AcceptanceDependsOnThePair = (p : PlainProblem) (plan other : List Action) → pair_of p plan ≡ pair_of p other → IsAccepted p plan ↔
    IsAccepted p other

-- of two paths with one pair, the same further actions lead to one pair
abbrev pub FutureDependsOnThePair : Type 0
FutureDependsOnThePair = (p : PlainProblem) (path other rest : List Action) (x : Pair) → pair_of p path ≡ Some x → pair_of p other ≡
    Some x → pair_of p (path ++ rest) ≡ pair_of p (other ++ rest)

-- the rows of temporal words, for a formula in which no value is still to be put in
pub record ProgressesByTheTable (s : Situation) (f g : FormulaTree) (n : ℕ) : Type 0 where
  pub of_next : progressed s no_values (next f) ≡ f
  pub of_always : progressed s no_values (always f) ≡ simplified_and (progressed s no_values f ∷ always f ∷ [])
  pub of_eventually : progressed s no_values (eventually f) ≡ simplified_or (progressed s no_values f ∷ eventually f ∷ [])
  pub of_until : progressed s no_values (until f g) ≡ simplified_or (progressed s no_values g ∷
      simplified_and (progressed s no_values f ∷ until f g ∷ []) ∷ [])
  pub of_within_none : progressed s no_values (within 0 f) ≡ progressed s no_values f
  pub of_within_more : progressed s no_values (within (suc n) f) ≡ simplified_or (progressed s no_values f ∷ within n f ∷ [])
  pub of_during_none : progressed s no_values (during 0 f) ≡ progressed s no_values f
  pub of_during_more : progressed s no_values (during (suc n) f) ≡ simplified_and (progressed s no_values f ∷ during n f ∷ [])

-- progression goes by its table
abbrev pub ProgressionTable : Type 0
ProgressionTable = (s : Situation) (f g : FormulaTree) (n : ℕ) → ProgressesByTheTable s f g n

-- a path is open exactly where it executes and its own residual is not FALSE: what is FALSE stays
-- so
abbrev pub OpenByItsResidual : Type 0
OpenByItsResidual = (p : PlainProblem) (path : List Action) → IsOpen p path ↔
    ((x : Pair) × (pair_of p path ≡ Some x) × (x.formula ≢ falsum))
