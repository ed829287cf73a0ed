-- Walks through pairs are open paths, the accepted plans are the walks to accepted pairs, and prefixes of open and of leading paths.
use Rattle.std.proofs.Common.{◌≡◌, ◌≢◌, ◌≤◌, ◌↔◌, ℕ, List, [], ◌∷◌, ◌++◌, length, Bool, true, false, cond, true≢false, Option, Some, None}
use Rattle.std.proofs.Common.{IsSome, is_some, Ordering, Less, Equal, Greater, refl, sym, ap, ◌∙◌, subst, append-nil, append_assoc}
use Rattle.std.proofs.Common.{length-append, arith}
use Rattle.std.specs.Ordering.{ordering_then}
use Rattle.std.specs.Option.{option_map, option_and_then}
use Rattle.tl_syntax.specs.declared.action.Action.{Action}
use Rattle.tl_syntax.specs.Assignment.{no_values}
use Rattle.tl_syntax.specs.Trees.{FormulaTree, falsum}
use Rattle.tl_terms.specs.Acceptance.{then_states, states_from, states, last_of, IsAccepted}
use Rattle.tl_terms.specs.Definitions.{situation_of}
use Rattle.tl_terms.specs.Orders.{action_cmp, plan_cmp}
use Rattle.tl_terms.specs.Paths.{IsDistance, IsLeading}
use Rattle.tl_terms.specs.Pairs.{residual, Pair, pair_after, pair_of, IsOpen, IsPairAccepted}
use Rattle.tl_terms.specs.Problem.{PlainProblem}
use Rattle.tl_terms.specs.Progression.{progressed}
use Rattle.tl_terms.specs.Run.{Satisfies, SatisfiesAlong, Holds, idle_run}
use Rattle.tl_terms.specs.Simplification.{is_falsum}
use Rattle.tl_terms.specs.Step.{step}
use Rattle.tl_terms.specs.World.{World}
use Rattle.tl_terms.proofs.PlanLaws.{accepted-exactly}
use Rattle.tl_terms.proofs.PathLaws.{open-by-residual}
use Rattle.tl_search.specs.Graphs.{walk_from, walk}
use Rattle.tl_search.specs.PairGraph.{pair_in, next_pair, unless_pruned, pair_graph}
use Rattle.tl_search.proofs.WalkLaws.{by_last, walk-onward, walk-back}

-- ---- the pair of a path with one more action

-- the pair that comes of a world, where there is one, with what comes in
abbrev go : PlainProblem → FormulaTree → Option World → List Action → Option Pair
go p f None plan = None
go p f (Some w) [] = Some (record { world = w; formula = progressed (situation_of p w) no_values f })
go p f (Some w) (a ∷ plan) = go p (progressed (situation_of p w) no_values f) (step p w a) plan

-- the pair of states, the formula coming in
abbrev pair_from : PlainProblem → FormulaTree → Option (List World) → Option Pair
pair_from p f (Some (w ∷ ws)) = Some (record { world = last_of w ws; formula = residual p (w ∷ ws) f })
pair_from p f _ = None

pub not_empty : (p : PlainProblem) (o : Option World) (plan : List Action) → states_from p o plan ≡ Some [] → ⊥
unfolding states_from
not_empty p None plan e = cc
not_empty p (Some w) [] e = cc
not_empty p (Some w) (a ∷ plan) e = by_rest (states_from p (step p w a) plan) e
  where
    by_rest : (o : Option (List World)) → then_states w o ≡ Some [] → ⊥
    by_rest None q = cc
    by_rest (Some ws) q = cc

goes : (p : PlainProblem) (f : FormulaTree) (o : Option World) (plan : List Action) → pair_from p f (states_from p o plan) ≡ go p f o plan
unfolding states_from residual
goes p f None plan = refl
goes p f (Some w) [] = refl
goes p f (Some w) (a ∷ plan) = by_rest (states_from p (step p w a) plan) (not_empty p (step p w a) plan) ∙
    goes p (progressed (situation_of p w) no_values f) (step p w a) plan
  where
    by_rest : (o : Option (List World)) → (o ≡ Some [] → ⊥) → pair_from p f (then_states w o) ≡
        pair_from p (progressed (situation_of p w) no_values f) o
    by_rest None n = refl
    by_rest (Some []) n = absurd (n refl)
    by_rest (Some (v ∷ ws)) n = refl

pair-goes : (p : PlainProblem) (path : List Action) → pair_of p path ≡ go p p.control (Some p.first) path
pair-goes p path = same_form (states p path) ∙ goes p p.control (Some p.first) path
  where
    same_form : (o : Option (List World)) → pair_after p o ≡ pair_from p p.control o
    same_form None = refl
    same_form (Some []) = refl
    same_form (Some (w ∷ ws)) = refl

-- the pair of the empty path
pub pair-first : (p : PlainProblem) → pair_of p [] ≡ Some (pair_in p p.control p.first)
unfolding pair_in
pair-first p = pair-goes p []

go-snoc : (p : PlainProblem) (f : FormulaTree) (o : Option World) (path : List Action) (a : Action) → go p f o (path ++ a ∷ []) ≡
    option_and_then (λ x. next_pair p x a) (go p f o path)
unfolding pair_in
go-snoc p f None path a = refl
go-snoc p f (Some w) [] a = at_end (step p w a)
  where
    at_end : (o : Option World) → go p (progressed (situation_of p w) no_values f) o [] ≡
        option_map (pair_in p (progressed (situation_of p w) no_values f)) o
    at_end None = refl
    at_end (Some v) = refl
go-snoc p f (Some w) (b ∷ path) a = go-snoc p (progressed (situation_of p w) no_values f) (step p w b) path a

-- the pair of a path with one more action is the pair after that action
pub pair-snoc : (p : PlainProblem) (path : List Action) (a : Action) → pair_of p (path ++ a ∷ []) ≡
    option_and_then (λ x. next_pair p x a) (pair_of p path)
pair-snoc p path a = pair-goes p (path ++ a ∷ []) ∙ (go-snoc p p.control (Some p.first) path a ∙
    ap (option_and_then (λ x. next_pair p x a)) (sym (pair-goes p path)))

pub pair-onward : (p : PlainProblem) (path : List Action) (a : Action) (x : Pair) → pair_of p path ≡ Some x → pair_of p (path ++ a ∷ []) ≡
    next_pair p x a
pair-onward p path a x e = pair-snoc p path a ∙ ap (option_and_then (λ y. next_pair p y a)) e

-- ---- pruned pairs

is-falsum : (f : FormulaTree) → is_falsum f ≡ true → f ≡ falsum
is-falsum falsum e = refl
is-falsum f e = absurd (true≢false (sym e))

pub unless-pruned : (o : Option Pair) (x : Pair) → (unless_pruned o ≡ Some x) ↔ ((o ≡ Some x) × (x.formula ≢ falsum))
unless-pruned None x = (λ e. absurd (let b : ⊥ = cc in b), λ h. absurd (let e : None ≡ Some x = h.0 in let b : ⊥ = cc in b))
unless-pruned (Some y) x = by_test (is_falsum y.formula) refl
  where
    by_test : (b : Bool) → is_falsum y.formula ≡ b → (cond b None (Some y) ≡ Some x) ↔ ((Some y ≡ Some x) × (x.formula ≢ falsum))
    by_test true q = (
      λ e. absurd (let b : ⊥ = cc in b),
      λ h. absurd (h.1
          (let d : y ≡ x = (let e : Some y ≡ Some x = h.0 in cc) in ap (λ (z : Pair). z.formula) (sym d) ∙ is-falsum y.formula q)),
    )
    by_test false q = (
      λ e. (
        e,
        λ f. (let d : y ≡ x = cc in true≢false
            (ap is_falsum (sym f) ∙ (ap (λ (z : Pair). is_falsum z.formula) (sym d) ∙ q))),
      ),
      λ h. h.0,
    )

-- what is FALSE stays so
false-next : (p : PlainProblem) (x y : Pair) (a : Action) → x.formula ≡ falsum → next_pair p x a ≡ Some y → y.formula ≡ falsum
unfolding pair_in progressed
false-next p x y a f e = by_step (step p x.world a) e
  where
    by_step : (o : Option World) → option_map (pair_in p x.formula) o ≡ Some y → y.formula ≡ falsum
    by_step None q = cc
    by_step (Some w) q = let d : pair_in p x.formula w ≡ y = cc in ap (λ (z : Pair). z.formula) (sym d) ∙
        ap (progressed (situation_of p w) no_values) f

-- ---- walks

walk-empty : (p : PlainProblem) → walk (pair_graph p) [] ≡ unless_pruned (pair_of p [])
unfolding pair_graph walk_from
walk-empty p = at_root (unless_pruned (pair_of p []))
  where
    at_root : (o : Option Pair) → walk_from (pair_graph p) o [] ≡ o
    at_root None = refl
    at_root (Some x) = refl

-- a walk leads to a pair exactly where it is a path with that pair, whose formula is not FALSE
pub walk-pair : (p : PlainProblem) (path : List Action) (x : Pair) → (walk (pair_graph p) path ≡ Some x) ↔
    ((pair_of p path ≡ Some x) × (x.formula ≢ falsum))
unfolding pair_graph
walk-pair p = by_last (λ path. (x : Pair) → (walk (pair_graph p) path ≡ Some x) ↔ ((pair_of p path ≡ Some x) × (x.formula ≢ falsum)))
    at_root further
  where
    at_root : (x : Pair) → (walk (pair_graph p) [] ≡ Some x) ↔ ((pair_of p [] ≡ Some x) × (x.formula ≢ falsum))
    at_root x = (λ e. (unless-pruned (pair_of p []) x).0 (sym (walk-empty p) ∙ e), λ h. walk-empty p ∙ (unless-pruned (pair_of p []) x).1 h)

    further : (front : List Action) (a : Action) → ((x : Pair) → (walk (pair_graph p) front ≡ Some x) ↔
        ((pair_of p front ≡ Some x) × (x.formula ≢ falsum))) → (x : Pair) → (walk (pair_graph p) (front ++ a ∷ []) ≡ Some x) ↔
        ((pair_of p (front ++ a ∷ []) ≡ Some x) × (x.formula ≢ falsum))
    further front a earlier x = (there, back)
      where
        there : walk (pair_graph p) (front ++ a ∷ []) ≡ Some x → (pair_of p (front ++ a ∷ []) ≡ Some x) × (x.formula ≢ falsum)
        there e =
            let b = walk-back (pair_graph p) front a x e in
            let h = (unless-pruned (next_pair p b.0 a) x).0 b.2 in
            (pair-onward p front a b.0 ((earlier b.0).0 b.1).0 ∙ h.0, h.1)

        by_front : (o : Option Pair) → pair_of p front ≡ o → option_and_then (λ y. next_pair p y a) o ≡ Some x → x.formula ≢ falsum →
            walk (pair_graph p) (front ++ a ∷ []) ≡ Some x
        by_front None q e n = cc
        by_front (Some y) q e n = walk-onward (pair_graph p) front a y x ((earlier y).1 (q, λ f. n (false-next p y x a f e)))
            ((unless-pruned (next_pair p y a) x).1 (e, n))

        back : (pair_of p (front ++ a ∷ []) ≡ Some x) × (x.formula ≢ falsum) → walk (pair_graph p) (front ++ a ∷ []) ≡ Some x
        back h = by_front (pair_of p front) refl (sym (pair-snoc p front a) ∙ h.0) h.1

-- the open paths are the walks
pub walk-open : (p : PlainProblem) (path : List Action) → IsOpen p path ↔ ((x : Pair) × (walk (pair_graph p) path ≡ Some x))
walk-open p path = (
  λ h. let k = (open-by-residual p path).0 h in (k.0, (walk-pair p path k.0).1 (k.1, k.2)),
  λ h. let k = (walk-pair p path h.0).0 h.1 in (open-by-residual p path).1 (h.0, k.0, k.1),
)

never : (p : PlainProblem) (x : Pair) → IsPairAccepted p x → x.formula ≢ falsum
unfolding SatisfiesAlong Holds
never p x h e = subst (λ f. Satisfies p (idle_run x.world) 0 f) e h.idles

-- the accepted plans are the walks to accepted pairs
pub walk-accepted : (p : PlainProblem) (plan : List Action) → IsAccepted p plan ↔
    ((x : Pair) × (walk (pair_graph p) plan ≡ Some x) × IsPairAccepted p x)
walk-accepted p plan = (
  λ h. let k = (accepted-exactly p plan).0 h in (k.0, (walk-pair p plan k.0).1 (k.1, never p k.0 k.2), k.2),
  λ h. (accepted-exactly p plan).1 (h.0, ((walk-pair p plan h.0).0 h.1).0, h.2),
)

-- a prefix of a path that executes does so too
pub prefix-executes : (p : PlainProblem) (front rest : List Action) → IsSome (pair_of p (front ++ rest)) → IsSome (pair_of p front)
prefix-executes p front rest h = by_pair (pair_of p front) refl
  where
    shorter : (us : List Action) → pair_of p front ≡ None → pair_of p (front ++ us) ≡ None
    shorter = by_last (λ us. pair_of p front ≡ None → pair_of p (front ++ us) ≡ None) (λ e. ap (pair_of p) (append-nil front) ∙ e)
        (λ us a earlier e. ap (pair_of p) (sym (append_assoc front us (a ∷ []))) ∙
        (pair-snoc p (front ++ us) a ∙ ap (option_and_then (λ x. next_pair p x a)) (earlier e)))

    by_pair : (o : Option Pair) → pair_of p front ≡ o → IsSome (pair_of p front)
    by_pair None e = absurd (true≢false (sym h ∙ ap is_some (shorter rest e)))
    by_pair (Some x) e = ap is_some e

-- a prefix of an open path is open
pub prefix-open : (p : PlainProblem) (front rest : List Action) → IsOpen p (front ++ rest) → IsOpen p front
prefix-open p front rest h = record {
  executes = prefix-executes p front rest h.executes;
  unpruned = λ f r x e q. h.unpruned f (r ++ rest) x (sym (append_assoc f r rest) ∙ ap (λ us. us ++ rest) e) q;
}

-- each prefix of an accepted plan is open
pub prefix-of-accepted : (p : PlainProblem) (front rest : List Action) → IsAccepted p (front ++ rest) → IsOpen p front
prefix-of-accepted p front rest h = let k = (walk-accepted p (front ++ rest)).0 h in
    prefix-open p front rest ((walk-open p (front ++ rest)).1 (k.0, k.1))

-- the length of a walk to a pair to which no walk is shorter is the pair's distance
pub walk-distance : (p : PlainProblem) (path : List Action) (x : Pair) → walk (pair_graph p) path ≡ Some x →
    ((other : List Action) → walk (pair_graph p) other ≡ Some x → length path ≤ length other) → IsDistance p x (length path)
walk-distance p path x e least = record {
  path = path;
  open_path = (walk-open p path).1 (x, e);
  its_pair = ((walk-pair p path x).0 e).0;
  its_length = refl;
  least = λ other h q. least other ((walk-pair p other x).1 (q, ((walk-pair p path x).0 e).1));
}

-- two distances of one pair are the same
pub distance-one : (p : PlainProblem) (x : Pair) (m n : ℕ) → IsDistance p x m → IsDistance p x n → m ≡ n
distance-one p x m n h k =
    let a : m ≤ length k.path = h.least k.path k.open_path k.its_pair in
    let b : n ≤ length h.path = k.least h.path h.open_path h.its_pair in
    omega (arith, h.its_length, k.its_length)

-- ---- leading paths

-- what comes before a plan comes before every longer plan that begins with it
less-longer : (other front rest : List Action) → plan_cmp other front ≡ Less → plan_cmp other (front ++ rest) ≡ Less
less-longer [] [] rest e = cc
less-longer [] (b ∷ front) rest e = refl
less-longer (a ∷ other) [] rest e = cc
less-longer (a ∷ other) (b ∷ front) rest e = by_first (action_cmp a b) e (less-longer other front rest)
  where
    by_first : (r : Ordering) → ordering_then r (plan_cmp other front) ≡ Less →
        (plan_cmp other front ≡ Less → plan_cmp other (front ++ rest) ≡ Less) → ordering_then r (plan_cmp other (front ++ rest)) ≡ Less
    by_first Less q m = refl
    by_first Equal q m = m q
    by_first Greater q m = cc

-- a prefix of a leading path is leading
pub prefix-leading : (p : PlainProblem) (n : ℕ) (front rest : List Action) → IsLeading p n (front ++ rest) → IsLeading p n front
prefix-leading p n front rest h = record {
  short = let s : length (front ++ rest) ≤ n = h.short in omega (arith, length-append front rest);
  simple = record {
    executes = prefix-executes p front rest h.simple.executes;
    differ = λ f r o l e q d. h.simple.differ f (r ++ rest) o (l ++ rest) (sym (append_assoc f r rest) ∙ ap (λ us. us ++ rest) e)
        (sym (append_assoc o l rest) ∙ ap (λ us. us ++ rest) q) d;
  };
  first = λ other s k a less. h.first other s k a (less-longer other front rest less);
}
