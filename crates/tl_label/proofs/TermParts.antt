-- The text of a term by the way it is made.
use Rattle.std.proofs.Common.{◌≡◌, ℕ, List, [], ◌∷◌, map, refl, ap, ◌∙◌, Box, Global}
use Rattle.tl_syntax.specs.declared.domain.Domain.{Domain}
use Rattle.tl_syntax.specs.declared.term.Term.{Term}
use Rattle.tl_syntax.specs.declared.term.Term.TheVariants as variant
use Rattle.tl_syntax.specs.declared.term.Terms.{Terms}
use Rattle.tl_syntax.specs.declared.value.Op.{Op}
use Rattle.tl_syntax.specs.declared.value.Value.{Value}
use Rattle.tl_syntax.specs.declared.variable.Var.{Var}
use Rattle.tl_syntax.specs.TreeOfTerm.{tree_of_term, tree_of_terms, terms_in, terms_of_list}
use Rattle.tl_syntax.proofs.TermTrees.{tree-Var, tree-Val, tree-Place, tree-Arith, trees-Terms}
use Rattle.tl_line.specs.ActionTexts.{value_text}
use Rattle.tl_label.specs.Parts.{in_parentheses}
use Rattle.tl_label.specs.Terms.{declared_text, operation_text, variable_text, term_text, term_texts}

-- ---- lists of terms

texts-of-list : (names : List (List ℕ)) (d : Domain) (ts : List Term) → term_texts names d (terms_of_list (map tree_of_term ts)) ≡
    map (λ t. term_text names d (tree_of_term t)) ts
unfolding term_text
texts-of-list names d [] = refl
texts-of-list names d (t ∷ ts) = ap (λ xs. term_text names d (tree_of_term t) ∷ xs) (texts-of-list names d ts)

pub texts-in : (names : List (List ℕ)) (d : Domain) (ts : Terms) → term_texts names d (tree_of_terms ts) ≡
    map (λ t. term_text names d (tree_of_term t)) (terms_in ts)
texts-in names d ts = ap (term_texts names d) (trees-Terms ts) ∙ texts-of-list names d (terms_in ts)

-- ---- the text of each kind of term

pub text-Var : (names : List (List ℕ)) (d : Domain) (t : Term) (x : Var) → t ≡ variant.Var x → term_text names d (tree_of_term t) ≡
    variable_text names x
unfolding term_text
text-Var names d t x e = ap (λ u. term_text names d (tree_of_term u)) e ∙ ap (term_text names d) (tree-Var x)

pub text-Val : (names : List (List ℕ)) (d : Domain) (t : Term) (v : Value) → t ≡ variant.Val v → term_text names d (tree_of_term t) ≡
    value_text names v
unfolding term_text
text-Val names d t v e = ap (λ u. term_text names d (tree_of_term u)) e ∙ ap (term_text names d) (tree-Val v)

pub text-Place : (names : List (List ℕ)) (d : Domain) (t : Term) (f : ℕ) (ts : Terms) → t ≡ variant.Place f ts →
    term_text names d (tree_of_term t) ≡ in_parentheses (declared_text names d.functions f ∷ term_texts names d (tree_of_terms ts))
unfolding term_text
text-Place names d t f ts e = ap (λ u. term_text names d (tree_of_term u)) e ∙ ap (term_text names d) (tree-Place f ts)

pub text-Arith : (names : List (List ℕ)) (d : Domain) (t : Term) (op : Op) (a b : Box Term Global) (at : ℕ) → t ≡ variant.Arith op a b at →
    term_text names d (tree_of_term t) ≡ in_parentheses (operation_text op ∷ term_text names d (tree_of_term a.value) ∷
    term_text names d (tree_of_term b.value) ∷ [])
unfolding term_text
text-Arith names d t op a b at e = ap (λ u. term_text names d (tree_of_term u)) e ∙ ap (term_text names d) (tree-Arith op a b at)
