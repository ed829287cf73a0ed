-- Bounds by their kinds: they have few arguments, and what a look-up answers is their truth.
use Rattle.std.proofs.Common.{◌≡◌, ◌≤◌, ℕ, List, length, Bool, ap, sym, ◌∙◌, subst}
use Rattle.tl_eval.proofs.ArityLaws.{AreFew, declared-few}
use Rattle.tl_syntax.specs.declared.bound.Bound.{Bound}
use Rattle.tl_syntax.specs.declared.bound.Bound.TheVariants as bound
use Rattle.tl_syntax.specs.declared.problem.Problem.{Problem}
use Rattle.tl_syntax.specs.declared.variable.Arg.{Arg}
use Rattle.tl_syntax.specs.Assignment.{Assignment}
use Rattle.tl_syntax.specs.Fits.{BoundFits}
use Rattle.tl_syntax.specs.Signature.{Signature, signature_of}
use Rattle.tl_terms.specs.Bounds.{arg_value, arg_values, bound_true, fact_in, same_value}
use Rattle.tl_terms.specs.Situation.{Situation}
use Rattle.tl_terms.specs.Terms.{place_value}
use Rattle.tl_terms.specs.World.{World}

pub predicates-few : (q : Problem) → AreFew (signature_of q.domain).predicates
predicates-few q = declared-few _ q.domain.predicates q.domain_keeps.predicates

pub functions-few : (q : Problem) → AreFew (signature_of q.domain).functions
functions-few q = declared-few _ q.domain.functions q.domain_keeps.functions

pub few-Fact : (g : Signature) (b : Bound) (p : ℕ) (xs : List Arg) → AreFew g.predicates → b ≡ bound.Fact p xs → BoundFits g b →
    length xs ≤ 8
few-Fact g b p xs few q h = let whole : BoundFits g (bound.Fact p xs) = subst (BoundFits g) q h in few p (length xs) whole.0

pub few-GoalFact : (g : Signature) (b : Bound) (p : ℕ) (xs : List Arg) → AreFew g.predicates → b ≡ bound.GoalFact p xs → BoundFits g b →
    length xs ≤ 8
few-GoalFact g b p xs few q h = let whole : BoundFits g (bound.GoalFact p xs) = subst (BoundFits g) q h in few p (length xs) whole.0

pub few-GoalNot : (g : Signature) (b : Bound) (p : ℕ) (xs : List Arg) → AreFew g.predicates → b ≡ bound.GoalNot p xs → BoundFits g b →
    length xs ≤ 8
few-GoalNot g b p xs few q h = let whole : BoundFits g (bound.GoalNot p xs) = subst (BoundFits g) q h in few p (length xs) whole.0

pub few-Place : (g : Signature) (b : Bound) (f : ℕ) (xs : List Arg) (x : Arg) → AreFew g.functions → b ≡ bound.Place f xs x →
    BoundFits g b → length xs ≤ 8
few-Place g b f xs x few q h = let whole : BoundFits g (bound.Place f xs x) = subst (BoundFits g) q h in few f (length xs) whole.0.0

pub few-GoalPlace : (g : Signature) (b : Bound) (f : ℕ) (xs : List Arg) (x : Arg) → AreFew g.functions → b ≡ bound.GoalPlace f xs x →
    BoundFits g b → length xs ≤ 8
few-GoalPlace g b f xs x few q h = let whole : BoundFits g (bound.GoalPlace f xs x) = subst (BoundFits g) q h in few f (length xs) whole.0.0

pub truth-Fact : (s : Situation) (e : Assignment) (b : Bound) (p : ℕ) (xs : List Arg) (r : Bool) → b ≡ bound.Fact p xs → r ≡
    fact_in s.world p (arg_values e xs) → r ≡ bound_true s e b
unfolding bound_true
truth-Fact s e b p xs r q h = h ∙ sym (ap (bound_true s e) q)

pub truth-GoalFact : (s : Situation) (e : Assignment) (b : Bound) (p : ℕ) (xs : List Arg) (w : World) (r : Bool) → b ≡ bound.GoalFact p xs →
    w ≡ s.goal → r ≡ fact_in w p (arg_values e xs) → r ≡ bound_true s e b
unfolding bound_true
truth-GoalFact s e b p xs w r q same h = h ∙ ap (λ (v : World). fact_in v p (arg_values e xs)) same ∙ sym (ap (bound_true s e) q)

pub truth-GoalNot : (s : Situation) (e : Assignment) (b : Bound) (p : ℕ) (xs : List Arg) (w : World) (r : Bool) → b ≡ bound.GoalNot p xs →
    w ≡ s.avoid → r ≡ fact_in w p (arg_values e xs) → r ≡ bound_true s e b
unfolding bound_true
truth-GoalNot s e b p xs w r q same h = h ∙ ap (λ (v : World). fact_in v p (arg_values e xs)) same ∙ sym (ap (bound_true s e) q)

pub truth-Place : (s : Situation) (e : Assignment) (b : Bound) (f : ℕ) (xs : List Arg) (x : Arg) (r : Bool) → b ≡ bound.Place f xs x → r ≡
    same_value (place_value s.world f (arg_values e xs)) (arg_value e x) → r ≡ bound_true s e b
unfolding bound_true
truth-Place s e b f xs x r q h = h ∙ sym (ap (bound_true s e) q)

pub truth-GoalPlace : (s : Situation) (e : Assignment) (b : Bound) (f : ℕ) (xs : List Arg) (x : Arg) (w : World) (r : Bool) → b ≡
    bound.GoalPlace f xs x → w ≡ s.goal → r ≡ same_value (place_value w f (arg_values e xs)) (arg_value e x) → r ≡ bound_true s e b
unfolding bound_true
truth-GoalPlace s e b f xs x w r q same h = h ∙ ap (λ (v : World). same_value (place_value v f (arg_values e xs)) (arg_value e x)) same ∙
    sym (ap (bound_true s e) q)
