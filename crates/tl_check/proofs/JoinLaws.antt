-- The truths of instances together.
use Rattle.std.proofs.Common.{◌≡◌, ◌&&◌, ◌||◌, List, [], ◌∷◌, Bool, true, false, not, refl, ap}
use Rattle.std.specs.List.{list_any, list_all}
use Rattle.tl_check.specs.Ahead.{Course, true_ahead}
use Rattle.tl_check.specs.Passes.{joins}
use Rattle.tl_check.specs.Quantifiers.{joined_truths}
use Rattle.tl_syntax.specs.declared.junction.Junction.{Junction}
use Rattle.tl_syntax.specs.declared.junction.Junction.TheVariants.{All, Any}
use Rattle.tl_syntax.specs.Junctions.{deciding_truth, quantified}
use Rattle.tl_syntax.specs.declared.bound.Bound.{Bound}
use Rattle.tl_syntax.specs.declared.variable.Var.{Var}
use Rattle.tl_syntax.specs.Assignment.{Assignment, bind}
use Rattle.tl_syntax.specs.Trees.{FormulaTree}
use Rattle.tl_terms.specs.Bounds.{tuples}
use Rattle.tl_terms.specs.Definitions.{situation_of}
use Rattle.tl_terms.specs.World.{World}

pub joins-idle : (junction : Junction) (b : Bool) → joins junction (not (deciding_truth junction)) b ≡ b
joins-idle Any b = refl
joins-idle All b = refl

pub joins-idle_right : (junction : Junction) (b : Bool) → joins junction b (not (deciding_truth junction)) ≡ b
joins-idle_right Any true = refl
joins-idle_right Any false = refl
joins-idle_right All true = refl
joins-idle_right All false = refl

pub joins-assoc : (junction : Junction) (a b c : Bool) → joins junction a (joins junction b c) ≡ joins junction (joins junction a b) c
joins-assoc Any true b c = refl
joins-assoc Any false b c = refl
joins-assoc All true b c = refl
joins-assoc All false b c = refl

any-joined : {A : Type 0} (truth : A → Bool) (xs : List A) → list_any truth xs ≡ joined_truths Any truth xs
any-joined truth [] = refl
any-joined truth (x ∷ xs) = ap (λ (b : Bool). truth x || b) (any-joined truth xs)

all-joined : {A : Type 0} (truth : A → Bool) (xs : List A) → list_all truth xs ≡ joined_truths All truth xs
all-joined truth [] = refl
all-joined truth (x ∷ xs) = ap (λ (b : Bool). truth x && b) (all-joined truth xs)

pub quantified-joined : (p : Course) (e : Assignment) (junction : Junction) (ss : List Var) (b : Bound) (f : FormulaTree) (w : World)
    (ws : List World)
    → true_ahead p e (quantified junction ss b f) (w ∷ ws) ≡ joined_truths junction (λ t. true_ahead p (bind ss t e) f (w ∷ ws))
    (tuples (situation_of p.problem w) e ss b)
unfolding true_ahead
quantified-joined p e Any ss b f w ws = any-joined (λ t. true_ahead p (bind ss t e) f (w ∷ ws)) (tuples (situation_of p.problem w) e ss b)
quantified-joined p e All ss b f w ws = all-joined (λ t. true_ahead p (bind ss t e) f (w ∷ ws)) (tuples (situation_of p.problem w) e ss b)
