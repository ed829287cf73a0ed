-- The rows of values that an operator's bounds allow, bound by bound.
use Rattle.std.specs.Prelude.{◌≡◌, ◌↔◌, ◌⊎◌, ◌≤◌, ◌&&◌, ℕ, zero, suc, List, [], ◌∷◌, ◌++◌, drop, filter, length, take, Bool, true, not}
use Rattle.std.specs.Prelude.{Result, Ok, Err}
use Rattle.std.specs.List.{list_any}
use Rattle.tl_eval.specs.declared.fault.EvalFault.{EvalFault}
use Rattle.tl_eval.specs.declared.fault.EvalFault.TheVariants as fault
use Rattle.tl_action.specs.declared.arranged.Arranged.{Arranged}
use Rattle.tl_action.specs.Prepared.{is_prepared, looked_prepared}
use Rattle.tl_eval.specs.Notes.{Tells}
use Rattle.tl_syntax.specs.declared.bound.Bound.{Bound}
use Rattle.tl_syntax.specs.declared.operator.Operator.{Operator}
use Rattle.tl_syntax.specs.declared.value.Value.{Value}
use Rattle.tl_syntax.specs.declared.variable.Var.{Var}
use Rattle.tl_syntax.specs.Assignment.{Assignment, bind, no_values}
use Rattle.tl_syntax.specs.BoundVariables.{stands_in}
use Rattle.tl_syntax.specs.Lists.{Each, Among}
use Rattle.tl_syntax.specs.Trees.{TermTrees, variable, no_term, more_terms}
use Rattle.tl_terms.specs.Bounds.{bound_true}
use Rattle.tl_terms.specs.Definitions.{situation_of}
use Rattle.tl_terms.specs.Problem.{PlainOperator, PlainProblem}
use Rattle.tl_terms.specs.ProblemMeaning.{plain_operator}
use Rattle.tl_terms.specs.World.{World}

-- the variable stands in one of the bounds
abbrev pub stands_in_one : List Bound → Var → Bool
stands_in_one seen s = list_any (stands_in s) seen

-- the variable stands in the bound and in none of those that were seen before
abbrev pub is_new : List Bound → Bound → Var → Bool
is_new seen b s = stands_in s b && not (stands_in_one seen s)

-- the new variables of each bound, after those that were seen
abbrev pub new_from : List Var → List Bound → List Bound → List (List Var)
new_from ss seen [] = []
new_from ss seen (b ∷ bs) = filter (is_new seen b) ss ∷ new_from ss (seen ++ b ∷ []) bs

-- variables as terms
abbrev pub variables : List Var → TermTrees
variables [] = no_term
variables (s ∷ ss) = more_terms (variable s) (variables ss)

-- a bound behind the first of the others
abbrev pub behind_first : Bound → List Bound → List Bound
behind_first b [] = b ∷ []
behind_first b (c ∷ cs) = c ∷ b ∷ cs

-- the bounds with the k-th of them before the others
abbrev pub moved_first : List Bound → ℕ → List Bound
moved_first [] k = []
moved_first (b ∷ bs) zero = b ∷ bs
moved_first (b ∷ bs) (suc k) = behind_first b (moved_first bs k)

-- the same bounds, whatever their order
abbrev pub HaveSame : List Bound → List Bound → Type 0
HaveSame bs cs = (b : Bound) → Among b cs ↔ Among b bs

-- the operator with other bounds
abbrev pub with_bounds : Operator → List Bound → Operator
with_bounds o bs = record { name = o.name; params = o.params; bounds = bs; pre = o.pre; effects = o.effects }

-- the operator with its bounds in the order in which they are joined
abbrev pub arranged : Arranged → Operator
arranged a = with_bounds a.operator.now (moved_first a.operator.now.bounds a.first)

-- the new parameters of each bound, in this order
abbrev pub new_parameters_in : Arranged → List (List Var)
new_parameters_in a = new_from a.operator.now.params [] (arranged a).bounds

-- the parameters that stand in the bound and in none of the first j that are joined
abbrev pub new_at : Arranged → ℕ → Bound → List Var
new_at a j b = filter (is_new (take j (arranged a).bounds) b) a.operator.now.params

-- how many bounds there are
abbrev pub bound_count : Arranged → ℕ
bound_count a = length (arranged a).bounds

-- the two give the variables that stand in a bound of those seen the same values
abbrev pub AgreeOnSeen : List Bound → List Var → Assignment → Assignment → Type 0
AgreeOnSeen seen ss d e = Each (λ s. stands_in_one seen s ≡ true → d s.slot ≡ e s.slot) ss

-- the operator's parameters with these values
abbrev pub row_assignment : PlainOperator → List Value → Assignment
row_assignment o t = bind o.params t no_values

-- the row has a value for each parameter, agrees with the frame on those that stand in a bound that
-- was seen, and makes the other bounds true
pub record IsCompletion (p : PlainProblem) (w : World) (o : PlainOperator) (seen rest : List Bound) (e : Assignment)
    (t : List Value) : Type 0 where
  pub arity : length t ≡ length o.params
  pub agrees : AgreeOnSeen seen o.params (row_assignment o t) e
  pub bounds : Each (λ b. bound_true (situation_of p w) (row_assignment o t) b ≡ true) rest

-- whether a row completes the frame from the k-th bound on
abbrev pub CompletesFrom : PlainProblem → World → Operator → Assignment → ℕ → List Value → Type 0
CompletesFrom p w o e k t = IsCompletion p w (plain_operator o) (take k o.bounds) (drop k o.bounds) e t

-- no row completes the frame from the j-th bound on
abbrev pub HasNoCompletion : PlainProblem → World → Operator → Assignment → ℕ → Type 0
HasNoCompletion p w o e j = (t : List Value) → ¬ CompletesFrom p w o e j t

-- the bounds from the j-th to the k-th have no new parameter and are true, so from either on the
-- same rows complete the frame, and what is known after the k-th was known before the j-th
pub record IsPassed (p : PlainProblem) (w : World) (o : Operator) (e : Assignment) (j k : ℕ) : Type 0 where
  pub later : j ≤ k
  pub inside : k ≤ length o.bounds
  pub same : (t : List Value) → CompletesFrom p w o e j t ↔ CompletesFrom p w o e k t
  pub known : (d a : Assignment) → AgreeOnSeen (take k o.bounds) o.params d a → AgreeOnSeen (take j o.bounds) o.params d a

-- and the operator can be applied with these values
pub record IsFound (p : PlainProblem) (w : World) (o : PlainOperator) (seen rest : List Bound) (e : Assignment)
    (t : List Value) : Type 0 where
  pub completes : IsCompletion p w o seen rest e t
  pub prepared : is_prepared p w (row_assignment o t) o ≡ true

-- a range fault tells an operation that is looked at with the values of such a row
abbrev pub IsRowFault : PlainProblem → World → PlainOperator → List Bound → List Bound → Assignment → EvalFault → Type 0
IsRowFault p w o seen rest e (fault.Range note) = (t : List Value) × IsCompletion p w o seen rest e t ×
    Tells (looked_prepared p w (row_assignment o t) o) note
IsRowFault p w o seen rest e fault.NoMemory = Unit {0}

-- the rows that were found are added; or a fault with its cause
abbrev pub AddsRows : PlainProblem → World → PlainOperator → List Bound → List Bound → Assignment → List (List Value) → List (List Value) →
    Result (Unit {0}) EvalFault → Type 0
AddsRows p w o seen rest e before after (Ok done) = (t : List Value) → Among t after ↔ (Among t before ⊎ IsFound p w o seen rest e t)
AddsRows p w o seen rest e before after (Err x) = IsRowFault p w o seen rest e x

-- and so from the j-th bound of the operator on
abbrev pub JoinsFrom : PlainProblem → World → Operator → ℕ → Assignment → List (List Value) → List (List Value) →
    Result (Unit {0}) EvalFault → Type 0
JoinsFrom p w o j e before after r = AddsRows p w (plain_operator o) (take j o.bounds) (drop j o.bounds) e before after r

-- and so after all of its bounds: the one row that may be found has the values of the frame
abbrev pub JoinsRow : PlainProblem → World → Operator → Assignment → List (List Value) → List (List Value) → Result (Unit {0}) EvalFault →
    Type 0
JoinsRow p w o e before after r = AddsRows p w (plain_operator o) o.bounds [] e before after r
