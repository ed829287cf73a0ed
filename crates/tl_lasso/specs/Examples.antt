-- Worked examples of runs with a loop, of labels that go round it, and of what the forms of a plan
-- file with a repeated part break and stand for.
use Rattle.std.proofs.Common.{◌≡◌, ℕ, List, [], ◌∷◌, ◌++◌, drop, take, true, false, Some, refl}
use Rattle.std.specs.Prelude.{codes}
use Rattle.tl_sexpr.specs.Tree.{FormTree, symbol, list, no_form, more_forms}
use Rattle.tl_syntax.specs.declared.operator.Operator.{Operator}
use Rattle.tl_rules.specs.declared.rule.Rule.TheVariants.{Shape}
use Rattle.tl_check.specs.Passes.{next_labels, until_labels, within_labels}
use Rattle.tl_terms.specs.Problem.{PlainProblem}
use Rattle.tl_terms.specs.Run.{state_at}
use Rattle.tl_terms.specs.World.{World}
use Rattle.tl_check.specs.Rounds.{lasso_run}
use Rattle.tl_lasso.specs.LoopFiles.{front_of, last_form, loop_breaks, repeated}

-- ---- the positions of a run

-- a stem of one state and a loop of two
stem_comes_once : (p : PlainProblem) (u v w : World) → state_at (lasso_run p 1 (u ∷ v ∷ w ∷ [])) 0 ≡ u
unfolding state_at
stem_comes_once p u v w = refl

loop_begins_after_the_stem : (p : PlainProblem) (u v w : World) → state_at (lasso_run p 1 (u ∷ v ∷ w ∷ [])) 1 ≡ v
unfolding state_at
loop_begins_after_the_stem p u v w = refl

loop_comes_again : (p : PlainProblem) (u v w : World) → state_at (lasso_run p 1 (u ∷ v ∷ w ∷ [])) 3 ≡ v
unfolding state_at
loop_comes_again p u v w = refl

loop_comes_for_ever : (p : PlainProblem) (u v w : World) → state_at (lasso_run p 1 (u ∷ v ∷ w ∷ [])) 1002 ≡ w
unfolding state_at
loop_comes_for_ever p u v w = refl

-- a loop of one state, with no stem
one_state_stays : (p : PlainProblem) (w : World) → state_at (lasso_run p 0 (w ∷ [])) 7 ≡ w
unfolding state_at
one_state_stays p w = refl

-- ---- labels that go round the loop once more

-- after the last position comes the first one of the loop
next_goes_round : take 3 (next_labels ((false ∷ true ∷ false ∷ []) ++ drop 1 (false ∷ true ∷ false ∷ []))) ≡ true ∷ false ∷ true ∷ []
next_goes_round = refl

-- an until that is pending at the end of the loop is settled by the loop's first states
until_is_settled_round_the_loop : take 3 (until_labels (true ∷ true ∷ true ∷ true ∷ true ∷ []) (false ∷ true ∷ false ∷ true ∷ false ∷ [])) ≡
    true ∷ true ∷ true ∷ []
until_is_settled_round_the_loop = refl

-- and is false where the second formula never comes
until_is_pending_for_ever : take 2 (until_labels (true ∷ true ∷ true ∷ true ∷ []) (false ∷ false ∷ false ∷ false ∷ [])) ≡ false ∷ false ∷ []
until_is_pending_for_ever = refl

-- from the last position of a loop of three the first one's label is two steps away where the
-- second one has it
within_counts_round_the_loop : take 3 (within_labels 1 (false ∷ true ∷ false ∷ false ∷ true ∷ false ∷ [])) ≡ true ∷ true ∷ false ∷ []
within_counts_round_the_loop = refl

within_more_than_a_round : take 3 (within_labels 9 (false ∷ true ∷ false ∷ false ∷ true ∷ false ∷ [])) ≡ true ∷ true ∷ true ∷ []
within_more_than_a_round = refl

-- ---- plan files

module _ (names : List (List ℕ)) (operators : List Operator) where
  no_form_breaks_the_shape : loop_breaks names operators no_form ≡ (Shape, 0) ∷ []
  no_form_breaks_the_shape = refl

  -- `(repeat)`
  nothing_is_repeated : loop_breaks names operators (more_forms (list (more_forms (symbol (codes "repeat") 1) no_form) 0) no_form) ≡
      (Shape, 0) ∷ []
  nothing_is_repeated = refl

  -- `repeat`
  the_word_alone : loop_breaks names operators (more_forms (symbol (codes "repeat") 0) no_form) ≡ (Shape, 0) ∷ []
  the_word_alone = refl

  -- `(wait)`
  another_word : loop_breaks names operators (more_forms (list (more_forms (symbol (codes "wait") 1) no_form) 0) no_form) ≡ (Shape, 0) ∷ []
  another_word = refl

-- `(repeat F)`
one_form_is_repeated : (f : FormTree) → repeated (list (more_forms (symbol (codes "repeat") 1) (more_forms f no_form)) 0) ≡
    Some (more_forms f no_form)
one_form_is_repeated f = refl

-- the last of three forms, and those before it
last_of_three : (f g h : FormTree) → last_form (more_forms f (more_forms g (more_forms h no_form))) ≡ Some h
last_of_three f g h = refl

front_of_three : (f g h : FormTree) → front_of (more_forms f (more_forms g (more_forms h no_form))) ≡ more_forms f (more_forms g no_form)
front_of_three f g h = refl
