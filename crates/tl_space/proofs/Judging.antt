-- What the calls on one pair answer.
use Rattle.std.proofs.Common.{◌≡◌, ◌<◌, ◌==◌, ◌↔◌, ℕ, Bool, true, false, cond, length, slice_get, Option, Some, None, IsTrue, is_some, refl}
use Rattle.std.proofs.Common.{sym, ap, subst, ◌∙◌, true≢false, eqb-true}
use Rattle.std.specs.Option.{option_map}
use Rattle.std.proofs.lemmas.Option.{slice_get-map}
use Rattle.tl_syntax.proofs.Plain.{both}
use Rattle.tl_syntax.proofs.ListLaws.{Each-Among}
use Rattle.tl_syntax.specs.declared.action.Action.{Action}
use Rattle.tl_syntax.specs.Trees.{FormulaTree}
use Rattle.tl_terms.specs.Acceptance.{meets_goal}
use Rattle.tl_terms.specs.NamedWorlds.{WorldIsNamed}
use Rattle.tl_terms.specs.Pairs.{Pair, IsPairAccepted}
use Rattle.tl_terms.specs.Problem.{PlainProblem, PlainOperator}
use Rattle.tl_terms.specs.Run.{Satisfies, idle_run}
use Rattle.tl_terms.specs.Step.{step, applied, applied_if}
use Rattle.tl_terms.specs.World.{World}
use Rattle.tl_action.specs.Actions.{HasOperator, ArgumentsAreNamed}
use Rattle.tl_action.proofs.NamedActions.{action-named}
use Rattle.tl_nodes.specs.NodeTrees.{tree_at}
use Rattle.tl_nodes.specs.Numbers.{trees}
use Rattle.tl_search.specs.Calls.{ForPair, IsExecutableAt}
use Rattle.tl_search.proofs.ListLaws.{get-inside, among-at}
use Rattle.tl_space.specs.declared.numbers.Numbers.{Numbers}
use Rattle.tl_space.specs.declared.space.Space.{Space}
use Rattle.tl_space.specs.Inner.{node_in, KeepsPairs}
use Rattle.tl_space.specs.Kept.{world_at, node_at, paths_of}
use Rattle.tl_space.proofs.Growing.{kept-get}
use Rattle.tl_space.specs.Spaces.{problem_of, name_count, kept_of}
use Rattle.tl_known.specs.WorldNumbers.{worlds_in}
use Rattle.tl_space.proofs.SpaceLaws.{world-at, world-of, keeps-names}

-- the pair of numbers of which the world was read
pub pair-is : (s : Space) (n : Numbers) (w : World) → slice_get (worlds_in s.worlds) n.world ≡ Some w → (x : Pair) → x ≡ node_in s n → x ≡
    record { world = w; formula = tree_at (trees s.nodes) n.label }
unfolding node_at
pair-is s n w e x f = f ∙ (let d : world_at (worlds_in s.worlds) n.world ≡ w = world-at (worlds_in s.worlds) n.world w e in λ i.
    record { world = d i; formula = tree_at (trees s.nodes) n.label })

-- a world that has a number is named
pub world-named : (s : Space) (i : ℕ) (w : World) → slice_get (worlds_in s.worlds) i ≡ Some w → WorldIsNamed (name_count s) w
world-named s i w e = (Each-Among (WorldIsNamed (name_count s)) (worlds_in s.worlds)).0 s.named_worlds w
    (among-at (worlds_in s.worlds) i w e)

-- ---- acceptance

pub not-accepted : (p : PlainProblem) (w : World) (f : FormulaTree) (b : Bool) → b ≡ meets_goal w p.goal p.avoid → b ≡ false →
    IsPairAccepted p (record { world = w; formula = f }) → ⊥
not-accepted p w f b e h k = true≢false (sym (e ∙ k.reaches) ∙ h)

pub accepted-is : (p : PlainProblem) (w : World) (f : FormulaTree) (b r : Bool) → b ≡ meets_goal w p.goal p.avoid → b ≡ true →
    (IsTrue r ↔ Satisfies p (idle_run w) 0 f) → IsTrue r ↔ IsPairAccepted p (record { world = w; formula = f })
accepted-is p w f b r e h i = (λ k. record { reaches = sym e ∙ h; idles = i.0 k }, λ k. i.1 k.idles)

-- ---- executable actions

some-if : {A : Type 0} (b : Bool) (x : A) → IsTrue (is_some (cond b (Some x) None)) → b ≡ true
some-if true x h = refl
some-if false x h = absurd (true≢false (sym h))

-- an action with a step has its operator, with as many parameters as it has arguments
pub has-operator : (p : PlainProblem) (w : World) (a : Action) → IsTrue (is_some (step p w a)) → HasOperator p a
unfolding step applied
has-operator p w a h = slice_get-map (λ (o : PlainOperator). length o.params) p.operators a.op ∙ by_operator (slice_get p.operators a.op) h
  where
    by_operator : (o : Option PlainOperator) → IsTrue (is_some (applied_if p w a.args o)) →
        option_map (λ (o : PlainOperator). length o.params) o ≡ Some (length a.args)
    by_operator None h = absurd (true≢false (sym h))
    by_operator (Some o) h = ap (λ n. Some n) (sym (eqb-true (length a.args) (length o.params)
        (both (length a.args == length o.params) _ (some-if _ _ h)).0))

-- the action is executable in the world that was read for the pair
pub executable-here : (s : Space) (at : ℕ) (n : Numbers) (w : World) (a : Action) → at < length (kept_of s) →
    ForPair (kept_of s) at (λ x. x.node ≡ node_in s n)
    → slice_get (worlds_in s.worlds) n.world ≡ Some w → IsExecutableAt (problem_of s) (kept_of s) at a →
    IsTrue (is_some (step (problem_of s) w a))
executable-here s at n w a h node e exec =
    let x = get-inside (kept_of s) at h in
    subst (λ (v : World). IsTrue (is_some (step (problem_of s) v a))) (world-of s n w e x.0.node (node x.0 x.1)) (exec x.0 x.1)

-- an action that is executable in a named world has named arguments
pub executable-named : (s : Space) (w : World) (a : Action) → WorldIsNamed (name_count s) w → IsTrue (is_some (step (problem_of s) w a)) →
    ArgumentsAreNamed (name_count s) a
executable-named s w a named exec = action-named s.task.problem w named a exec

-- so has one that is executable in the world of a kept pair
pub arguments-named : (s t : Space) (at : ℕ) (a : Action) → KeepsPairs s t → at < length (kept_of s) →
    IsExecutableAt (problem_of s) (kept_of s) at a → ArgumentsAreNamed (name_count t) a
arguments-named s t at a k h exec =
    let x = get-inside (kept_of s) at h in
    let there = kept-get (worlds_in s.worlds) (trees s.nodes) s.pairs.keys (paths_of s.from) at x.0 x.1 in
    let w = get-inside (worlds_in s.worlds) there.numbers.world (s.kept.numbers at there.numbers there.is_there).world in
    let here = subst (λ (v : World). IsTrue (is_some (step (problem_of s) v a))) (world-of s there.numbers w.0 w.1 x.0.node there.is_node)
    (exec x.0 x.1) in
    subst (λ c. ArgumentsAreNamed c a) (sym (keeps-names s t k)) (executable-named s w.0 a (world-named s there.numbers.world w.0 w.1) here)
