-- What a space keeps is kept in one way: each of these facts has at most one proof.
use Rattle.std.specs.Prelude.{◌≡◌, ℕ, List, [], slice_get, Some}
use Rattle.std.specs.Coded.{Π_prop}
use Rattle.std.proofs.Props.{props}
use mathlib.Core.HLevel.{hedberg}
use Rattle.tl_syntax.specs.Assignment.{Assignment}
use Rattle.tl_syntax.specs.FreeVariables.{free_slots}
use Rattle.tl_syntax.specs.KeptOnce.{Each-prop, scope-prop, fits-prop, named-prop, values-prop}
use Rattle.tl_syntax.proofs.Same.{formula_discrete, option_discrete}
use Rattle.tl_syntax.specs.Signature.{Signature}
use Rattle.tl_syntax.specs.Trees.{FormulaTree, falsum}
use Rattle.tl_terms.specs.Pairs.{Pair}
use Rattle.tl_terms.specs.Problem.{PlainProblem}
use Rattle.tl_terms.specs.World.{World}
use Rattle.tl_terms.proofs.SamePairs.{pair_discrete}
use Rattle.tl_nodes.specs.NodeTrees.{tree_at}
use Rattle.tl_progress.specs.declared.residuals.Residuals.{Residuals}
use Rattle.tl_progress.specs.Answers.{residual}
use Rattle.tl_progress.specs.Sentences.{IsSentence}
use Rattle.tl_search.specs.KeptPairs.{KeptPair}
use Rattle.tl_search.specs.Graphs.{walk}
use Rattle.tl_search.specs.PairGraph.{pair_graph}
use Rattle.tl_search.specs.declared.arrival.Arrival.{Arrival}
use Rattle.tl_search.specs.declared.arrival.Arrival.TheVariants as arrival
use Rattle.tl_space.specs.declared.numbers.Numbers.{Numbers}
use Rattle.tl_space.specs.declared.numbers.Met.{Met}
use Rattle.tl_space.specs.declared.numbers.Met.TheVariants as met
use Rattle.tl_space.specs.Kept.{world_at, kept_over, nodes_at, paths_of, IsLabel, AreNumbers, AreWalks, IsNamedMet, AreKeptBy}
use Rattle.tl_space.specs.Remembered.{pair_in_at, IsKnown, IsRemembered, AreRemembered, AreFound}

-- ---- the facts of numbers

sentence-prop : (g : Signature) (f : FormulaTree) → IsProp (IsSentence g f)
sentence-prop g f = hlevel (fits-prop g [] f, scope-prop [] (free_slots f))

label-prop : (g : Signature) (c : ℕ) (ts : List FormulaTree) (l : ℕ) → IsProp (IsLabel g c ts l)
label-prop g c ts l = hlevel (props, sentence-prop g (tree_at ts l), named-prop c (tree_at ts l))

numbers-prop : (g : Signature) (c : ℕ) (ws : List World) (ts : List FormulaTree) (n : Numbers) → IsProp (AreNumbers g c ws ts n)
numbers-prop g c ws ts n = hlevel (props, label-prop g c ts n.label)

met-prop : (c : ℕ) (m : Met) → IsProp (IsNamedMet c m)
met-prop c met.First = hlevel
met-prop c (met.After j a) = values-prop c a.args

walks-prop : (p : PlainProblem) (kept : List KeptPair) → IsProp (AreWalks p kept)
walks-prop p kept = Π_prop (λ i. Π_prop (λ x. Π_prop (λ e. hedberg (option_discrete pair_discrete) (walk (pair_graph p) x.path)
    (Some x.node))))

all_numbers-prop : (g : Signature) (c : ℕ) (ws : List World) (ts : List FormulaTree) (ns : List Numbers) →
    IsProp ((i : ℕ) (n : Numbers) → slice_get ns i ≡ Some n → AreNumbers g c ws ts n)
all_numbers-prop g c ws ts ns = Π_prop (λ i. Π_prop (λ n. Π_prop (λ e. numbers-prop g c ws ts n)))

pub kept-prop : (g : Signature) (c : ℕ) (p : PlainProblem) (ws : List World) (ts : List FormulaTree) (ns : List Numbers) (ms : List Met) →
    IsProp (AreKeptBy g c p ws ts ns ms)
kept-prop g c p ws ts ns ms = hlevel (
  props,
  all_numbers-prop g c ws ts ns,
  walks-prop p (kept_over ws ts ns (paths_of ms)),
  Each-prop (IsNamedMet c) (met-prop c) ms,
)

-- ---- what is remembered

known-prop : (xs : List Pair) (x : Pair) (r : Arrival) → IsProp (IsKnown xs x r)
known-prop xs x arrival.Pruned = hedberg formula_discrete x.formula falsum
known-prop xs x (arrival.Seen k) = hedberg (option_discrete pair_discrete) (slice_get xs k) (Some x)
known-prop xs x (arrival.Fresh k) = hlevel

remembered-prop : (p : PlainProblem) (ws : List World) (ts : List FormulaTree) (ns : List Numbers) (e : Numbers × Arrival) →
    IsProp (IsRemembered p ws ts ns e)
remembered-prop p ws ts ns e = hlevel (props, known-prop (nodes_at ws ts ns) (pair_in_at p ws ts e.0) e.1)

pub all-remembered-prop : (p : PlainProblem) (ws : List World) (ts : List FormulaTree) (ns : List Numbers) (es : List (Numbers × Arrival)) →
    IsProp (AreRemembered p ws ts ns es)
all-remembered-prop p ws ts ns es = Each-prop (IsRemembered p ws ts ns) (remembered-prop p ws ts ns) es

next-prop : (p : PlainProblem) (w : World) (ts : List FormulaTree) (i : ℕ) (f : FormulaTree) →
    IsProp ((e : Assignment) → slice_get ts i ≡ Some (residual p w e f))
next-prop p w ts i f = Π_prop (λ e. hedberg (option_discrete formula_discrete) (slice_get ts i) (Some (residual p w e f)))

pub found-prop : (p : PlainProblem) (ws : List World) (ts : List FormulaTree) (r : Residuals) → IsProp (AreFound p ws ts r)
found-prop p ws ts r = Π_prop (λ n. Π_prop (λ k. Π_prop (λ i. Π_prop (λ h.
    hlevel (props, next-prop p (world_at ws n) ts i (tree_at ts k))))))
