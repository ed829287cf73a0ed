-- What a slot stands for by a list of bindings.
use Rattle.std.proofs.Common.{◌≡◌, ℕ, zero, suc, ◌+◌, ◌<◌, ◌≤◌, List, [], ◌∷◌, ◌++◌, map, take, drop, length, get_or, cond, ◌==◌, Some}
use Rattle.std.proofs.Common.{None, refl, sym, ap, ap₂, ◌∙◌, take_all, arith}
use Rattle.tl_syntax.specs.declared.value.Value.{Value}
use Rattle.tl_syntax.specs.declared.variable.Var.{Var}
use Rattle.tl_syntax.specs.declared.variable.Arg.{Arg}
use Rattle.tl_syntax.specs.declared.term.Terms.{Terms}
use Rattle.tl_syntax.specs.declared.formula.Formulas.{Formulas}
use Rattle.tl_syntax.specs.declared.substitution.Binding.{Binding}
use Rattle.tl_syntax.specs.Assignment.{Assignment, no_values, bind}
use Rattle.tl_syntax.specs.Bindings.{assignment_of, binding_to, without_value}
use Rattle.tl_syntax.specs.Substitution.{without, substituted_arg, substituted_args, substituted_term, substituted_terms, substituted}
use Rattle.tl_syntax.specs.Substitution.{substituted_all}
use Rattle.tl_syntax.specs.Trees.{TermTree, FormulaTree, more_terms, more_formulas, formulas_of_list}
use Rattle.tl_syntax.specs.TreeOfTerm.{tree_of_term, tree_of_terms, terms_of_list}
use Rattle.tl_syntax.specs.TreeOfFormula.{tree_of_formula, tree_of_formulas}
use Rattle.tl_syntax.proofs.TermTrees.{trees-Terms}
use Rattle.tl_syntax.proofs.FormulaTrees.{trees-Formulas}

-- at a binding, the rest is that binding and what follows
pub value-step : (bs : List Binding) (i q : ℕ) (d : Binding) → i < length bs → assignment_of (drop i bs) q ≡
    cond (q == (get_or bs i d).slot) (get_or bs i d).value (assignment_of (drop (i + 1) bs) q)
value-step [] i q d h = absurd (omega arith)
value-step (b ∷ bs) zero q d h = refl
value-step (b ∷ bs) (suc i) q d h =
    let e : suc (i + 1) ≡ suc i + 1 = omega arith in
    value-step bs i q d (omega arith) ∙ ap (λ (k : ℕ). cond (q == (get_or bs i d).slot) (get_or bs i d).value
    (assignment_of (drop k (b ∷ bs)) q)) e

-- after the last binding there is no value
pub value-done : (bs : List Binding) (i q : ℕ) → length bs ≤ i → assignment_of (drop i bs) q ≡ None
value-done [] zero q h = refl
value-done [] (suc i) q h = refl
value-done (b ∷ bs) zero q h = absurd (omega arith)
value-done (b ∷ bs) (suc i) q h = value-done bs i q (omega arith)

-- the bindings of variables to the values at their positions
unfoldable pub paired : List Var → List Value → List Binding
paired (s ∷ ss) (v ∷ vs) = binding_to s v ∷ paired ss vs
paired ss vs = []

pub paired-step : (ss : List Var) (vs : List Value) (i : ℕ) (s : Var) (v : Value) → i < length ss → i < length vs →
    paired (take (i + 1) ss) (take (i + 1) vs) ≡ paired (take i ss) (take i vs) ++ binding_to (get_or ss i s) (get_or vs i v) ∷ []
unfolding paired
paired-step [] vs i s v h k = absurd (omega arith)
paired-step (x ∷ ss) [] i s v h k = absurd (omega arith)
paired-step (x ∷ ss) (y ∷ vs) zero s v h k = refl
paired-step (x ∷ ss) (y ∷ vs) (suc i) s v h k =
    let e : suc i + 1 ≡ suc (i + 1) = omega arith in
    ap (λ (n : ℕ). paired (take n (x ∷ ss)) (take n (y ∷ vs))) e ∙ ap (λ (r : List Binding). binding_to x y ∷ r)
    (paired-step ss vs i s v (omega arith) (omega arith))

pub paired-none : [] ≡ paired [] []
unfolding paired
paired-none = refl

-- one more binding is that of the next variable to the next value
pub paired-pushed : (ss : List Var) (vs : List Value) (ts : List Var) (i : ℕ) (s : Var) (v : Value) (old new : List Binding) (b : Binding) →
    ss ≡ ts → length ts ≡ length vs → i < length ss → old ≡ paired (take i ss) (take i vs) → new ≡ old ++ b ∷ [] → b ≡
    binding_to (get_or ss i s) (get_or vs i v) → new ≡ paired (take (i + 1) ss) (take (i + 1) vs)
paired-pushed ss vs ts i s v old new b e h l p q r =
    let k : length ss ≡ length ts = ap length e in
    q ∙ (ap₂ (λ (xs : List Binding) (x : Binding). xs ++ x ∷ []) p r ∙ sym (paired-step ss vs i s v l (omega arith)))

pub paired-bind : (ss : List Var) (vs : List Value) → length ss ≡ length vs → assignment_of (paired ss vs) ≡ bind ss vs no_values
unfolding paired
paired-bind [] [] h = refl
paired-bind [] (v ∷ vs) h = absurd (omega arith)
paired-bind (s ∷ ss) [] h = absurd (omega arith)
paired-bind (s ∷ ss) (v ∷ vs) h = ap {B = Assignment} (λ (e : Assignment) q. cond (q == s.slot) (Some v) (e q))
    (paired-bind ss vs (omega arith))

-- all of both lists
pub paired-all : (ss : List Var) (vs : List Value) (ts : List Var) (i : ℕ) → ss ≡ ts → length ts ≡ length vs → length ss ≤ i →
    assignment_of (paired (take i ss) (take i vs)) ≡ bind ts vs no_values
paired-all ss vs ts i e h l =
    let k : length ss ≡ length ts = ap length e in
    let m : length vs ≤ i = omega arith in
    ap₂ (λ (a : List Var) (b : List Value). assignment_of (paired a b)) (take_all i ss l ∙ e) (take_all i vs m) ∙ paired-bind ts vs h

-- below a quantifier its variables have no value
pub assignment_below : (ss : List Var) (bs : List Binding) → assignment_of (map without_value ss ++ bs) ≡ without ss (assignment_of bs)
assignment_below [] bs = refl
assignment_below (s ∷ ss) bs = ap {B = Assignment} (λ (e : Assignment) q. cond (q == s.slot) None (e q)) (assignment_below ss bs)

pub args-mapped : (e : Assignment) (xs : List Arg) → substituted_args e xs ≡ map (substituted_arg e) xs
args-mapped e [] = refl
args-mapped e (x ∷ xs) = ap (λ (r : List Arg). substituted_arg e x ∷ r) (args-mapped e xs)

terms-mapped : (e : Assignment) (ts : List TermTree) → terms_of_list (map (substituted_term e) ts) ≡ substituted_terms e (terms_of_list ts)
unfolding substituted_term substituted_terms
terms-mapped e [] = refl
terms-mapped e (t ∷ ts) = ap (more_terms (substituted_term e t)) (terms-mapped e ts)

formulas-mapped : (e : Assignment) (fs : List FormulaTree) → formulas_of_list (map (substituted e) fs) ≡
    substituted_all e (formulas_of_list fs)
unfolding substituted substituted_all
formulas-mapped e [] = refl
formulas-mapped e (f ∷ fs) = ap (more_formulas (substituted e f)) (formulas-mapped e fs)

map-map : {A B C : Type 0} (g : B → C) (f : A → B) (xs : List A) → map (λ x. g (f x)) xs ≡ map g (map f xs)
map-map g f [] = refl
map-map g f (x ∷ xs) = ap (λ r. g (f x) ∷ r) (map-map g f xs)

-- a list of terms whose trees are the substituted ones
pub substituted-Terms : (e : Assignment) (ts us : Terms) → map tree_of_term us.items.items ≡
    map (λ t. substituted_term e (tree_of_term t)) ts.items.items → tree_of_terms us ≡ substituted_terms e (tree_of_terms ts)
substituted-Terms e ts us h =
    trees-Terms us ∙ (ap terms_of_list (h ∙ map-map (substituted_term e) tree_of_term ts.items.items)
    ∙ (terms-mapped e (map tree_of_term ts.items.items) ∙ ap (substituted_terms e) (sym (trees-Terms ts))))

-- a list of formulas whose trees are the substituted ones
pub substituted-Formulas : (e : Assignment) (fs gs : Formulas) → map tree_of_formula gs.items.items ≡
    map (λ f. substituted e (tree_of_formula f)) fs.items.items → tree_of_formulas gs ≡ substituted_all e (tree_of_formulas fs)
substituted-Formulas e fs gs h =
    trees-Formulas gs ∙ (ap formulas_of_list (h ∙ map-map (substituted e) tree_of_formula fs.items.items)
    ∙ (formulas-mapped e (map tree_of_formula fs.items.items) ∙ ap (substituted_all e) (sym (trees-Formulas fs))))
