-- The walks of the graph of pairs are the open paths.
use Rattle.std.specs.Prelude.{IsSome, is_some}
use Rattle.std.proofs.Common.{◌≡◌, ◌≢◌, ◌↔◌, ◌≤◌, ℕ, List, [], ◌∷◌, ◌++◌, length, true, Option, Some, None, true≢false, refl, sym, ap, ◌∙◌}
use Rattle.std.proofs.Common.{subst}
use Rattle.std.specs.Option.{option_map}
use Rattle.tl_syntax.specs.declared.action.Action.{Action}
use Rattle.tl_syntax.specs.Trees.{FormulaTree, falsum, verum}
use Rattle.tl_terms.specs.Acceptance.{IsAccepted}
use Rattle.tl_terms.specs.Pairs.{Pair, pair_of, IsOpen, IsPairAccepted}
use Rattle.tl_terms.specs.Paths.{IsDistance, IsSimple, IsLeading}
use Rattle.tl_terms.specs.Problem.{PlainProblem}
use Rattle.tl_terms.specs.Run.{Holds, Satisfies, SatisfiesAlong, idle_run}
use Rattle.tl_terms.specs.Simplification.{is_falsum}
use Rattle.tl_terms.specs.Step.{step}
use Rattle.tl_terms.specs.World.{World}
use Rattle.tl_terms.proofs.PathLaws.{open-by-residual}
use Rattle.tl_terms.proofs.PlanLaws.{accepted-exactly}
use Rattle.tl_search.specs.Graphs as search
use Rattle.tl_search.specs.Graphs.{walk_from}
use Rattle.tl_search.specs.PairGraph.{pair_graph}
use Rattle.tl_search.proofs.PathLaws.{pair-first, unless-pruned, walk-pair, walk-open, prefix-open}
use Rattle.tl_depth.specs.ActionGraphs.{IsLawful, AreActionsOf, walked, node_after, IsSimpleWalk, IsGoalWalk, IsSimpleGoalWalk}
use Rattle.tl_depth.specs.ActionGraphs.{IsLeadingWalk, IsWalkDistance}
use Rattle.tl_search.specs.PairGraph.{pair_in, next_pair, unless_pruned}
use Rattle.tl_depth.specs.PairGraph.{first_pair, graph_of}
use Rattle.tl_search.specs.ListedActions.{ListsActions}

pub by_falsum : (f : FormulaTree) → (is_falsum f ≡ true → f ≡ falsum)
by_falsum falsum e = refl
by_falsum verum e = cc
by_falsum _ e = cc

-- ---- walks and open paths

same-from : (p : PlainProblem) (o : Option Pair) (path : List Action) → walked (graph_of p) o path ≡ walk_from (pair_graph p) o path
unfolding walked walk_from graph_of pair_graph
same-from p None [] = refl
same-from p None (a ∷ path) = same-from p None path
same-from p (Some x) [] = refl
same-from p (Some x) (a ∷ path) = same-from p (unless_pruned (next_pair p x a)) path

module _ (p : PlainProblem) where
  module _ (unpruned : (first_pair p).formula ≢ falsum) where
    -- where the first pair is not pruned, the walks are those of the pairs' search graph
    same-walk : (path : List Action) → node_after (graph_of p) path ≡ search.walk (pair_graph p) path
    unfolding graph_of pair_graph
    same-walk path = same-from p (Some (first_pair p)) path ∙ ap (λ o. walk_from (pair_graph p) o path)
        (sym ((unless-pruned (pair_of p []) (first_pair p)).1 (pair-first p, unpruned)))

    -- a walk leads to a pair exactly where it is an open path with that pair
    pub walks-open : (path : List Action) (y : Pair) → node_after (graph_of p) path ≡ Some y ↔ (IsOpen p path × (pair_of p path ≡ Some y))
    walks-open path y = (
      λ e. (let w = sym (same-walk path) ∙ e in ((walk-open p path).1 (y, w), ((walk-pair p path y).0 w).0)),
      λ h. (let k = (walk-open p path).0 h.0 in same-walk path ∙ (k.1 ∙ (sym ((walk-pair p path k.0).0 k.1).0 ∙ h.1))),
    )

    -- and leads nowhere else
    pub open-walks : (path : List Action) → IsOpen p path → node_after (graph_of p) path ≡ pair_of p path
    open-walks path o = let w = (open-by-residual p path).0 o in (walks-open path w.0).1 (o, w.1) ∙ sym w.1

    open-from-walk : (path : List Action) (y : Pair) → node_after (graph_of p) path ≡ Some y → IsOpen p path
    open-from-walk path y e = ((walks-open path y).0 e).0

    -- each prefix of an open path is open
    pub open-front : (front rest : List Action) → IsOpen p (front ++ rest) → IsOpen p front
    open-front front rest o = prefix-open p front rest o

    never : (x : Pair) → IsPairAccepted p x → x.formula ≢ falsum
    unfolding SatisfiesAlong Holds
    never x a e = subst (λ f. Satisfies p (idle_run x.world) 0 f) e a.idles

    -- an accepted plan is open
    pub accepted-open : (plan : List Action) → IsAccepted p plan → IsOpen p plan
    accepted-open plan a = let w = (accepted-exactly p plan).0 a in (open-by-residual p plan).1 (w.0, w.1, never w.0 w.2)

    -- the walks to accepted pairs are the accepted plans
    pub goal-walks : (n : ℕ) (path : List Action) → IsGoalWalk (graph_of p) n path ↔ ((length path ≤ n) × IsAccepted p path)
    unfolding graph_of
    goal-walks n path = (
      λ w. (w.short, (accepted-exactly p path).1 (w.last, ((walks-open path w.last).0 w.ends).1, w.accepted)),
      λ h. (let a = (accepted-exactly p path).0 h.1 in record {
        short = h.0;
        last = a.0;
        ends =
            (walks-open path a.0).1 (accepted-open path h.1, a.1);
        accepted = a.2;
      }),
    )

    -- the simple walks are the open paths that repeat no pair
    pub simple-walks : (path : List Action) → IsSimpleWalk (graph_of p) path ↔ (IsOpen p path × IsSimple p path)
    simple-walks path = (
      λ s. (let o = open-of (node_after (graph_of p) path) refl s.walks in (
        o,
        record {
          executes = o.executes;
          differ = λ front rest other left e f q. s.differ front rest other left e f
              (open-walks front (open-front front rest (subst (IsOpen p) (sym e) o)) ∙
              (q ∙ sym (open-walks other (open-front other left (subst (IsOpen p) (sym f) o)))));
        },
      )),
      λ h. record {
        walks = ap is_some (open-walks path h.0) ∙ h.1.executes;
        differ = λ front rest other left e f q. h.1.differ front rest other left e f
            (sym (open-walks front (open-front front rest (subst (IsOpen p) (sym e) h.0))) ∙
            (q ∙ open-walks other (open-front other left (subst (IsOpen p) (sym f) h.0))));
      },
    )
      where
        open-of : (u : Option Pair) → node_after (graph_of p) path ≡ u → IsSome (node_after (graph_of p) path) → IsOpen p path
        open-of None e s = absurd (true≢false (sym (ap is_some (sym e) ∙ s)))
        open-of (Some x) e s = open-from-walk path x e

    -- a simple accepted plan is a simple walk to an accepted pair
    pub simple-goal-walks : (n : ℕ) (path : List Action) → length path ≤ n → IsSimple p path → IsAccepted p path →
        IsSimpleGoalWalk (graph_of p) n path
    simple-goal-walks n path l s a = record {
      reaches = (goal-walks n path).1 (l, a);
      simple =
          (simple-walks path).1 (accepted-open path a, s);
    }

    -- a leading walk is a leading path
    pub leading-walks : (n : ℕ) (path : List Action) → IsLeadingWalk (graph_of p) n path → IsLeading p n path
    leading-walks n path w = record {
      short = w.short;
      simple = ((simple-walks path).0 w.simple).1;
      first = λ other l s a. w.first other (simple-goal-walks n other l s a);
    }

    -- distances of pairs are those of walks
    pub walk-distances : (x : Pair) (d : ℕ) → IsWalkDistance (graph_of p) x d ↔ IsDistance p x d
    walk-distances x d = (
      λ w. (let o = (walks-open w.path x).0 w.ends in record {
        path = w.path;
        open_path = o.0;
        its_pair = o.1;
        its_length = w.long;
        least =
            λ other m e. w.least other ((walks-open other x).1 (m, e));
      }),
      λ h. record {
        path = h.path;
        ends = (walks-open h.path x).1 (h.open_path, h.its_pair);
        long = h.its_length;
        least = λ other e.
            (let o = (walks-open other x).0 e in h.least other o.0 o.1);
      },
    )

-- an action with a successor is executable
pub pairs-lawful : (p : PlainProblem) → IsLawful (graph_of p)
unfolding graph_of
pairs-lawful p = record { executes = λ x y a e. by_step x (step p x.world a) e }
  where
    by_step : (x : Pair) (o : Option World) {y : Pair} → unless_pruned (option_map (pair_in p x.formula) o) ≡ Some y → is_some o ≡ true
    by_step x None e = cc
    by_step x (Some w) e = refl

-- a list of a pair's executable actions is one of the graph
pub pairs-actions : (p : PlainProblem) (x : Pair) (listed : List Action) → ListsActions p x.world listed →
    AreActionsOf (graph_of p) x listed
unfolding graph_of
pairs-actions p x listed l = record { all = l.exact; order = l.rises }

-- where it is FALSE, no path is open
pub none-open : (p : PlainProblem) → (first_pair p).formula ≡ falsum → (path : List Action) → IsOpen p path → ⊥
none-open p f path o = o.unpruned [] path (first_pair p) refl (pair-first p) f

pub accepted-not-false : (p : PlainProblem) (x : Pair) → IsPairAccepted p x → x.formula ≢ falsum
unfolding SatisfiesAlong Holds
accepted-not-false p x a e = subst (λ f. Satisfies p (idle_run x.world) 0 f) e a.idles

pub none-accepted : (p : PlainProblem) → (first_pair p).formula ≡ falsum → (plan : List Action) → IsAccepted p plan → ⊥
none-accepted p f plan a = let w = (accepted-exactly p plan).0 a in none-open p f plan
    ((open-by-residual p plan).1 (w.0, w.1, accepted-not-false p w.0 w.2))
