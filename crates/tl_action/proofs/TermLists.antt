-- The values of a list of terms in turn.
use Rattle.std.proofs.Common.{◌≡◌, ◌<◌, ◌≤◌, ◌+◌, ℕ, List, [], ◌∷◌, ◌++◌, map, drop, append_assoc, append-nil, length, get_or, Option, Some}
use Rattle.std.proofs.Common.{None, refl, sym, ap, ◌∙◌, subst}
use Rattle.tl_action.proofs.Walks.{drop-past}
use Rattle.tl_eval.specs.Notes.{Tells, operation_of, prefixed}
use Rattle.tl_eval.specs.declared.range.RangeNote.{RangeNote}
use Rattle.tl_eval.proofs.TermLaws.{rest-is, among-left, among-right}
use Rattle.tl_syntax.specs.declared.term.Term.{Term}
use Rattle.tl_syntax.specs.declared.term.Terms.{Terms}
use Rattle.tl_syntax.specs.declared.value.Value.{Value}
use Rattle.tl_syntax.specs.Assignment.{Assignment}
use Rattle.tl_syntax.specs.Fits.{TermFits, TermsFit}
use Rattle.tl_syntax.specs.Lists.{Among}
use Rattle.tl_syntax.specs.Signature.{Signature}
use Rattle.tl_syntax.specs.TreeOfTerm.{tree_of_term, tree_of_terms, terms_of_list}
use Rattle.tl_syntax.specs.Trees.{TermTree, TermTrees, no_term, more_terms}
use Rattle.tl_syntax.proofs.TermTrees.{trees-Terms}
use Rattle.tl_terms.specs.Looked.{looked_in_term, looked_in_each}
use Rattle.tl_terms.specs.Operations.{Operation}
use Rattle.tl_terms.specs.Terms.{prepend, term_value, term_values}
use Rattle.tl_terms.specs.World.{World}

-- the values so far, of all terms but the rest
pub record ValuesPassed (g : Signature) (w : World) (e : Assignment) (all rest : TermTrees) (values : List Value) : Type 0 where
  pub fits : TermsFit g rest
  pub meant : term_values w e all ≡ prefixed values (term_values w e rest)
  pub looked : (o : Operation) → Among o (looked_in_each w e rest) → Among o (looked_in_each w e all)

pub prefixed-nothing : (o : Option (List Value)) → o ≡ prefixed [] o
prefixed-nothing (Some vs) = refl
prefixed-nothing None = refl

pub prefixed-more : (vs : List Value) (v : Value) (o : Option (List Value)) → prefixed vs (prepend (Some v) o) ≡ prefixed (vs ++ v ∷ []) o
prefixed-more vs v (Some us) = ap (λ (x : List Value). Some x) (sym (append_assoc vs (v ∷ []) us))
prefixed-more vs v None = refl

prefixed-none : (vs : List Value) (o : Option (List Value)) → prefixed vs (prepend None o) ≡ None
prefixed-none vs o = refl

pub values-begun : (g : Signature) (w : World) (e : Assignment) (ts : Terms) (items : List Term) (values : List Value) → items ≡
    ts.items.items → values ≡ [] → TermsFit g (tree_of_terms ts)
    → ValuesPassed g w e (tree_of_terms ts) (terms_of_list (map tree_of_term items)) values
values-begun g w e ts items values q z h =
    let same : tree_of_terms ts ≡ terms_of_list (map tree_of_term items) = trees-Terms ts ∙
    ap (λ (xs : List Term). terms_of_list (map tree_of_term xs)) (sym q) in
    record {
      fits = subst (TermsFit g) same h;
      meant = ap (term_values w e) same ∙ (prefixed-nothing (term_values w e (terms_of_list (map tree_of_term items))) ∙
          ap (λ (vs : List Value). prefixed vs (term_values w e (terms_of_list (map tree_of_term items)))) (sym z));
      looked = λ o. subst (λ (us : TermTrees). Among o (looked_in_each w e us) → Among o (looked_in_each w e (tree_of_terms ts))) same
          (λ m. m);
    }

-- the rest as its first term and the others
module _ (g : Signature) (w : World) (e : Assignment) (all : TermTrees) (items : List Term) (i : ℕ) (x : Term) (values : List Value)
    (k : i < length items) (n : x ≡ get_or items i x) (h : ValuesPassed g w e all (terms_of_list (map tree_of_term (drop i items))) values)
  where
    abbrev pub others : TermTrees
    others = terms_of_list (map tree_of_term (drop (i + 1) items))

    opened : ValuesPassed g w e all (more_terms (tree_of_term x) others) values
    opened = subst (λ (xs : List TermTree). ValuesPassed g w e all (terms_of_list xs) values) (rest-is items i x k n) h

    pub value-fits : TermFits g (tree_of_term x)
    unfolding TermFits
    value-fits = opened.fits.0

    pub values-on : (more : List Value) (v : Value) → Some v ≡ term_value w e (tree_of_term x) → more ≡ values ++ v ∷ [] →
        ValuesPassed g w e all others more
    unfolding TermFits term_values looked_in_each
    values-on more v m z = record {
      fits = opened.fits.1;
      meant = opened.meant ∙ (ap (λ (o : Option Value). prefixed values (prepend o (term_values w e others))) (sym m) ∙
          (prefixed-more values v (term_values w e others) ∙ ap (λ (vs : List Value). prefixed vs (term_values w e others)) (sym z)));
      looked = λ o a. opened.looked o (among-right o (looked_in_term w e (tree_of_term x)) (looked_in_each w e others) a);
    }

    pub values-undefined : let none : Option Value = None in none ≡ term_value w e (tree_of_term x) → let no : Option (List Value) = None in
        no ≡ term_values w e all
    unfolding term_values
    values-undefined m = sym (opened.meant ∙ ap (λ (o : Option Value). prefixed values (prepend o (term_values w e others))) (sym m))

    pub values-noted : (note : RangeNote) → Tells (looked_in_term w e (tree_of_term x)) note → Tells (looked_in_each w e all) note
    unfolding looked_in_each
    values-noted note t = (
      opened.looked (operation_of note) (among-left (operation_of note) (looked_in_term w e (tree_of_term x))
          (looked_in_each w e others) t.0),
      t.1,
    )

pub values-ended : (g : Signature) (w : World) (e : Assignment) (all : TermTrees) (items : List Term) (i : ℕ) (values : List Value) →
    length items ≤ i → ValuesPassed g w e all (terms_of_list (map tree_of_term (drop i items))) values → Some values ≡ term_values w e all
unfolding term_values
values-ended g w e all items i values k h =
    let ended : ValuesPassed g w e all no_term values = subst (λ (xs : List Term).
    ValuesPassed g w e all (terms_of_list (map tree_of_term xs)) values) (drop-past items i k) h in
    sym (ended.meant ∙ ap (λ (x : List Value). Some x) (append-nil values))
