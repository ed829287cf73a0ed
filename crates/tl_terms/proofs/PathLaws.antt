-- The pair of a path goes on by itself.
use Rattle.std.specs.Prelude.{IsSome, is_some}
use Rattle.std.proofs.Common.{◌≢◌, ◌↔◌, true≢false, subst, ◌≡◌, List, [], ◌∷◌, ◌++◌, Option, Some, None, refl, sym, ap, ◌∙◌}
use Rattle.tl_terms.specs.Acceptance.{then_states, states_from, states, last_of}
use Rattle.tl_syntax.specs.Assignment.{no_values}
use Rattle.tl_terms.specs.Definitions.{situation_of}
use Rattle.tl_terms.specs.Pairs.{residual, Pair, pair_after, pair_of, IsOpen}
use Rattle.tl_terms.specs.Problem.{PlainProblem}
use Rattle.tl_terms.specs.Progression.{progressed}
use Rattle.tl_terms.specs.Step.{step}
use Rattle.tl_syntax.specs.Trees.{FormulaTree, falsum}
use Rattle.tl_terms.specs.World.{World}
use Rattle.tl_syntax.specs.declared.action.Action.{Action}

-- the pair that comes of a world, where there is one, with what comes in
abbrev go : PlainProblem → FormulaTree → Option World → List Action → Option Pair
go p f None plan = None
go p f (Some w) [] = Some (record { world = w; formula = progressed (situation_of p w) no_values f })
go p f (Some w) (a ∷ plan) = go p (progressed (situation_of p w) no_values f) (step p w a) plan

-- the pair of states, the formula coming in
abbrev pair_from : PlainProblem → FormulaTree → Option (List World) → Option Pair
pair_from p f (Some (w ∷ ws)) = Some (record { world = last_of w ws; formula = residual p (w ∷ ws) f })
pair_from p f _ = None

not_empty : (p : PlainProblem) (o : Option World) (plan : List Action) → states_from p o plan ≡ Some [] → ⊥
unfolding states_from
not_empty p None plan e = cc
not_empty p (Some w) [] e = cc
not_empty p (Some w) (a ∷ plan) e = by_rest (states_from p (step p w a) plan) e
  where
    by_rest : (o : Option (List World)) → then_states w o ≡ Some [] → ⊥
    by_rest None q = cc
    by_rest (Some ws) q = cc

goes : (p : PlainProblem) (f : FormulaTree) (o : Option World) (plan : List Action) → pair_from p f (states_from p o plan) ≡ go p f o plan
unfolding states_from residual
goes p f None plan = refl
goes p f (Some w) [] = refl
goes p f (Some w) (a ∷ plan) = by_rest (states_from p (step p w a) plan) (not_empty p (step p w a) plan) ∙
    goes p (progressed (situation_of p w) no_values f) (step p w a) plan
  where
    by_rest : (o : Option (List World)) → (o ≡ Some [] → ⊥) → pair_from p f (then_states w o) ≡
        pair_from p (progressed (situation_of p w) no_values f) o
    by_rest None n = refl
    by_rest (Some []) n = absurd (n refl)
    by_rest (Some (v ∷ ws)) n = refl

abbrev go_on : PlainProblem → Pair → List Action → Option Pair
go_on p x [] = Some x
go_on p x (a ∷ rest) = go p x.formula (step p x.world a) rest

goes-on : (p : PlainProblem) (f : FormulaTree) (o : Option World) (path rest : List Action) (x : Pair) → go p f o path ≡ Some x →
    go p f o (path ++ rest) ≡ go_on p x rest
goes-on p f None path rest x e = cc
goes-on p f (Some w) [] rest x e = at_once rest ∙ ap (λ y. go_on p y rest)
    (let q : record { world = w; formula = progressed (situation_of p w) no_values f } ≡ x = cc in q)
  where
    at_once : (us : List Action) → go p f (Some w) us ≡ go_on p (record { world = w; formula = progressed (situation_of p w) no_values f })
        us
    at_once [] = refl
    at_once (u ∷ us) = refl
goes-on p f (Some w) (a ∷ path) rest x e = goes-on p (progressed (situation_of p w) no_values f) (step p w a) path rest x e

pair-goes : (p : PlainProblem) (path : List Action) → pair_of p path ≡ go p p.control (Some p.first) path
pair-goes p path = same_form (states p path) ∙ goes p p.control (Some p.first) path
  where
    same_form : (o : Option (List World)) → pair_after p o ≡ pair_from p p.control o
    same_form None = refl
    same_form (Some []) = refl
    same_form (Some (w ∷ ws)) = refl

-- of two paths with one pair, the same further actions lead to one pair
pub future-by-pair : (p : PlainProblem) (path other rest : List Action) (x : Pair) → pair_of p path ≡ Some x → pair_of p other ≡ Some x →
    pair_of p (path ++ rest) ≡ pair_of p (other ++ rest)
future-by-pair p path other rest x d e =
    pair-goes p (path ++ rest)
    ∙ (goes-on p p.control (Some p.first) path rest x (sym (pair-goes p path) ∙ d)
    ∙ (sym (goes-on p p.control (Some p.first) other rest x (sym (pair-goes p other) ∙ e)) ∙ sym (pair-goes p (other ++ rest))))

-- ---- what is FALSE stays so

stays-false : (p : PlainProblem) (o : Option World) (plan : List Action) (x : Pair) → go p falsum o plan ≡ Some x → x.formula ≡ falsum
unfolding progressed
stays-false p None plan x e = let q : ⊥ = cc in absurd q
stays-false p (Some w) [] x e = let q : record { world = w; formula = falsum } ≡ x = cc in ap (λ (y : Pair). y.formula) (sym q)
stays-false p (Some w) (a ∷ plan) x e = stays-false p (step p w a) plan x e

false-goes-on : (p : PlainProblem) (x : Pair) (rest : List Action) (y : Pair) → x.formula ≡ falsum → go_on p x rest ≡ Some y → y.formula ≡
    falsum
false-goes-on p x [] y e h = let q : x ≡ y = cc in ap (λ (z : Pair). z.formula) (sym q) ∙ e
false-goes-on p x (a ∷ rest) y e h = stays-false p (step p x.world a) rest y (ap (λ f. go p f (step p x.world a) rest) (sym e) ∙ h)

append_nil : (us : List Action) → us ++ [] ≡ us
append_nil [] = refl
append_nil (u ∷ us) = ap (λ (vs : List Action). u ∷ vs) (append_nil us)

-- a path is open exactly where it executes and its own residual is not FALSE
pub open-by-residual : (p : PlainProblem) (path : List Action) → IsOpen p path ↔
    ((x : Pair) × (pair_of p path ≡ Some x) × (x.formula ≢ falsum))
open-by-residual p path = (
  λ o. of_pair (pair_of p path) refl o,
  λ h. record {
    executes = ap is_some h.1;
    unpruned = λ front rest x e q f. h.2 (false-goes-on p x rest h.0 f
        (sym (goes-on p p.control (Some p.first) front rest x (sym (pair-goes p front) ∙ q)) ∙
        (sym (pair-goes p (front ++ rest)) ∙ (ap (pair_of p) e ∙ h.1))));
  },
)
  where
    of_pair : (o : Option Pair) → pair_of p path ≡ o → IsOpen p path → (x : Pair) × (pair_of p path ≡ Some x) × (x.formula ≢ falsum)
    of_pair None e h = absurd (true≢false (sym (subst (λ (o : Option Pair). IsSome o) e h.executes)))
    of_pair (Some x) e h = (x, e, h.unpruned path [] x (append_nil path) e)
