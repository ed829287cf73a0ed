-- The plain trees of terms, part by part.
use Rattle.std.proofs.Common.{◌≡◌, List, [], ◌∷◌, ◌++◌, map, refl, ap, sym, ◌∙◌}
use Rattle.tl_syntax.specs.Trees.{TermTree, TermTrees, no_term, more_terms}
use Rattle.tl_syntax.specs.TreeOfTerm.{tree_of_term, tree_of_terms, terms_of_list}
use Rattle.tl_syntax.specs.declared.term.Term.{Term}
use Rattle.tl_syntax.specs.declared.term.Terms.{Terms}
use Rattle.tl_syntax.proofs.TermTrees.{tree-Var, tree-Val, tree-Place, tree-Arith, trees-Terms}

-- these terms, and after them the others
abbrev pub after_terms : List TermTree → TermTrees → TermTrees
after_terms [] us = us
after_terms (t ∷ ts) us = more_terms t (after_terms ts us)

pub after_terms-push : (ts : List TermTree) (t : TermTree) (us : TermTrees) → after_terms (ts ++ t ∷ []) us ≡
    after_terms ts (more_terms t us)
after_terms-push [] t us = refl
after_terms-push (s ∷ ts) t us = ap (more_terms s) (after_terms-push ts t us)

pub after_terms-end : (ts : List TermTree) → after_terms ts no_term ≡ terms_of_list ts
after_terms-end [] = refl
after_terms-end (t ∷ ts) = ap (more_terms t) (after_terms-end ts)

pub ruleset term_trees = (tree-Var, tree-Val, tree-Place, tree-Arith, trees-Terms)

pub ruleset term_steps = (trees-Terms, after_terms-push, after_terms-end)

-- a term more
pub terms-more : (ts us : List Term) (t : Term) (rest : TermTrees) → us ≡ ts ++ t ∷ [] → after_terms (map tree_of_term us) rest ≡
    after_terms (map tree_of_term ts) (more_terms (tree_of_term t) rest)
terms-more ts us t rest e = ap (λ xs. after_terms (map tree_of_term xs) rest) e ∙ pushed ts
  where
    pushed : (xs : List Term) → after_terms (map tree_of_term (xs ++ t ∷ [])) rest ≡
        after_terms (map tree_of_term xs) (more_terms (tree_of_term t) rest)
    pushed [] = refl
    pushed (x ∷ xs) = ap (more_terms (tree_of_term x)) (pushed xs)

-- all terms
pub terms-whole : (ts : Terms) → tree_of_terms ts ≡ after_terms (map tree_of_term ts.items.items) no_term
terms-whole ts = trees-Terms ts ∙ sym (after_terms-end (map tree_of_term ts.items.items))
