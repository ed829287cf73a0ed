-- What a plan's explanation begins with, and what an action of the problem is.
use Rattle.std.proofs.Common.{◌≡◌, ℕ, List, [], ◌∷◌, length, map, refl, sym, ap, ◌∙◌, subst}
use Rattle.std.proofs.lemmas.Option.{slice_get_within, get_or_from_slice_get}
use Rattle.tl_action.specs.Actions.{HasOperator}
use Rattle.tl_line.specs.NamedActions.{ActionIsNamed}
use Rattle.tl_nodes.specs.Numbers.{trees, Denotes}
use Rattle.tl_progress.specs.Sentences.{IsSentence}
use Rattle.tl_syntax.specs.declared.action.Action.{Action}
use Rattle.tl_syntax.specs.declared.operator.Operator.{Operator}
use Rattle.tl_syntax.specs.declared.problem.Problem.{Problem}
use Rattle.tl_syntax.specs.Named.{IsNamed}
use Rattle.tl_syntax.specs.Signature.{Takes, signature_of}
use Rattle.tl_syntax.specs.TreeOfFormula.{tree_of_formula}
use Rattle.tl_syntax.specs.Trees.{verum}
use Rattle.tl_terms.specs.NamedWorlds.{WorldIsNamed}
use Rattle.tl_terms.specs.Problem.{PlainOperator}
use Rattle.tl_terms.specs.ProblemMeaning.{plain_operator, plain_problem}
use Rattle.tl_world.specs.declared.task.Task.{Task}
use Rattle.tl_explain.specs.declared.explanation.Explanation.{Explanation}
use Rattle.tl_explain.specs.Explanations.{formula_in, AwaitsFirst}

-- how many parameters each operator has, by its plain form
counts : (os : List Operator) → map (λ (o : PlainOperator). length o.params) (map plain_operator os) ≡
    map (λ (o : Operator). length o.params) os
counts [] = refl
counts (o ∷ os) = ap (λ (ns : List ℕ). length o.params ∷ ns) (counts os)

-- an action that names only what a problem has is of an operator of it
pub of-operator : (p : Problem) (a : Action) → ActionIsNamed p.names p.domain.operators a → HasOperator (plain_problem p) a
unfolding plain_problem
of-operator p a named = subst (λ (ns : List ℕ). Takes ns a.op (length a.args)) (sym (counts p.domain.operators)) named.takes

-- the control formula comes in to the first world
pub awaits-first : (task : Task) (x : Explanation) → x.world ≡ (plain_problem task.problem).first →
    Denotes x.nodes x.label (tree_of_formula task.problem.domain.control) → x.text ≡ [] → AwaitsFirst task.problem x
unfolding plain_problem
awaits-first task x world label text =
    let keeps = task.problem.domain_keeps in
    let control = tree_of_formula task.problem.domain.control in
    let is : control ≡ formula_in x = sym (get_or_from_slice_get (trees x.nodes) x.label control verum label) in
    record {
      fit = record {
        inside = slice_get_within (trees x.nodes) x.label control label;
        sentence = subst (IsSentence (signature_of task.problem.domain)) is
            (record { fits = keeps.control_fits; closed = keeps.control_closed });
        named = subst (IsNamed (length task.problem.names)) is keeps.control_named;
        world_named = subst (WorldIsNamed (length task.problem.names)) (task.first_is ∙ sym world) task.first_named;
      };
      world = world;
      formula = sym is;
      text = text;
    }
