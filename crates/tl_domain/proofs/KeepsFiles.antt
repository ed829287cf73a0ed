-- The domain of a file that breaks nothing keeps what the domain of every problem keeps.
use Rattle.std.proofs.Common.{◌≡◌, ◌<◌, ◌≤◌, ◌+◌, ℕ, zero, suc, List, [], ◌∷◌, ◌++◌, true, false, not, length, map, Some, refl, sym, ap}
use Rattle.std.proofs.Common.{◌∙◌, subst, arith, inl, inr, length-append}
use Rattle.std.specs.Prelude.{sum, sum_by, slice_get, codes}
use Rattle.std.proofs.lemmas.Bool.{and_parts}
use Rattle.std.proofs.lemmas.List.{map-append, length-map}
use Rattle.std.proofs.lemmas.List.Sums.{sum_by-append, sum-map}
use Rattle.std.proofs.lemmas.Option.{none-some, same_Some}
use Rattle.std.proofs.lemmas.Simd.{map-map}
use Rattle.tl_sexpr.specs.Tree.{FormTree, FormTrees, symbol, integer, list, no_form, more_forms}
use Rattle.tl_syntax.specs.declared.definition.Definition.{Definition}
use Rattle.tl_syntax.specs.declared.domain.Domain.{Domain}
use Rattle.tl_syntax.specs.declared.operator.Operator.{Operator}
use Rattle.tl_syntax.specs.FreeVariables.{is_slot_in, InScope}
use Rattle.tl_syntax.specs.Kept.{DeclarationKeeps, DefinitionKeeps, OperatorKeeps, DomainKeeps}
use Rattle.tl_syntax.specs.Lists.{Each}
use Rattle.tl_syntax.specs.Signature as domain
use Rattle.tl_syntax.specs.Signature.{signature_of}
use Rattle.tl_syntax.proofs.ListLaws.{Each-over}
use Rattle.tl_syntax.proofs.Places.{image_at}
use Rattle.tl_rules.specs.declared.rule.Rule.TheVariants.{Shape}
use Rattle.tl_rules.specs.Named.{HasNames, HaveNames}
use Rattle.tl_rules.specs.Parts.{is_word, elements_of}
use Rattle.tl_rules.specs.Symbols.{number_in, names_with_all}
use Rattle.tl_syntax.specs.TreeOfFormula.{tree_of_formula}
use Rattle.tl_rules.specs.Rules.{breaks_if}
use Rattle.tl_rules.proofs.NamesHave.{number-below, forms-grow, forms-have, forms-keep}
use Rattle.tl_formulas.proofs.KeepsLists.{none-parts, test-passes, Each-implies, Each-both}
use Rattle.tl_formulas.proofs.KeepsCalls.{arities, seen}
use Rattle.tl_formulas.proofs.KeepsFormulas.{FormulaKeeps, constant-keeps}
use Rattle.tl_domain.specs.Declarations.{Declarations, nothing_declared}
use Rattle.tl_domain.specs.DomainFiles.{has_domain_shape, domain_items_breaks, domain_form_breaks, domain_file_breaks}
use Rattle.tl_rules.specs.OneForm.{second_form_breaks}
use Rattle.tl_domain.specs.DomainTrees.{DefinitionTree, DomainTree, definition_tree, operator_tree, domain_tree}
use Rattle.tl_domain.specs.Items.{item_breaks, signature_after, declared_with, declared_after, items_breaks}
use Rattle.tl_domain.specs.LawsKeeps.{DomainIsKept}
use Rattle.tl_domain.specs.MeaningOfItems.{predicates_of_item, functions_of_item, definitions_of_item, operators_of_item, with_item}
use Rattle.tl_domain.specs.MeaningOfItems.{with_item_form, with_items, empty_domain, domain_meant, domain_file_meant}
use Rattle.tl_domain.specs.Words.{ItemWord, item_word}
use Rattle.tl_domain.proofs.KeepsDeclarations.{IsLawful, is-lawful, HasNoVariables, names-only, predicates-keep, functions-keep}
use Rattle.tl_domain.proofs.KeepsDeclarations.{predicates-plain, functions-plain}
use Rattle.tl_domain.proofs.KeepsOperators.{OperatorTreeKeeps}
use Rattle.tl_domain.proofs.KeepsGrowth.{Grows, DefinitionTreeKeeps, definition-grows, operator-grows, formula-grows, place-of-both}
use Rattle.tl_domain.proofs.KeepsItems.{AddsDefinitions, predicates-grow, functions-grow, predicates-few, functions-few, operators-few}
use Rattle.tl_domain.proofs.KeepsItems.{operators-grow, definitions-keep, operators-keep, control-keeps}

-- what a domain keeps after items that declare all this
record Stands (names : List (List ℕ)) (k : Declarations) (d : DomainTree) : Type 0 where
  pub name : d.name < length names
  pub predicates : Each (DeclarationKeeps (length names)) d.predicates
  pub functions : Each (DeclarationKeeps (length names)) d.functions
  pub definitions : (i : ℕ) (x : DefinitionTree) → slice_get d.definitions i ≡ Some x →
      DefinitionTreeKeeps (seen k.signature) (length names) i x
  pub operators : Each (OperatorTreeKeeps (seen k.signature) (length names)) d.operators
  pub control : FormulaKeeps (seen k.signature) (length names) [] 0 d.control
  pub predicate_arities : arities k.signature.predicates ≡ map (λ x. x.arity) d.predicates
  pub function_arities : arities k.signature.functions ≡ map (λ x. x.arity) d.functions
  pub definition_arities : arities k.signature.definitions ≡ map (λ x. length x.params) d.definitions
  pub plain_predicates : HasNoVariables k.signature.predicates
  pub plain_functions : HasNoVariables k.signature.functions
  pub operator_names : length k.operators ≡ length d.operators
  pub few_predicates : length d.predicates ≤ 256
  pub few_functions : length d.functions ≤ 256
  pub few_operators : length d.operators ≤ 256
  pub few_definitions : length d.definitions ≤ 64
  pub few_levels : k.levels ≤ 64
  pub counted : sum_by (λ x. x.levels) d.definitions ≤ k.levels + length d.definitions

-- definitions with one more, or with none
definitions-stand : (names : List (List ℕ)) (k : Declarations) (d : DomainTree) (w : ItemWord) (rest : FormTrees) → Stands names k d →
    Grows (seen k.signature) (seen (signature_after k.signature w rest)) → AddsDefinitions names k w rest
    → (i : ℕ) (x : DefinitionTree) → slice_get (d.definitions ++ definitions_of_item names k.signature w rest) i ≡ Some x →
    DefinitionTreeKeeps (seen (signature_after k.signature w rest)) (length names) i x
definitions-stand names k d w rest s grown adds i x at = elim (place-of-both d.definitions
    (definitions_of_item names k.signature w rest) i x at) [
      | inl before ↦ definition-grows (seen k.signature) (seen (signature_after k.signature w rest)) (length names) i x grown
          (s.definitions i x before)
      | inr after ↦ elim adds.adds [
        | inl nothing ↦ let there : slice_get [] after.0 ≡ Some x = subst
            (λ (l : List DefinitionTree). slice_get l after.0 ≡ Some x) nothing
            after.2 in absurd (none-some x there)
        | inr one ↦ last one.0 one.2 after.0 after.1 (subst (λ (l : List DefinitionTree). slice_get l after.0 ≡ Some x) one.1 after.2)
      ]
    ]
  where
    last : (y : DefinitionTree) → DefinitionTreeKeeps (seen (signature_after k.signature w rest)) (length names)
        (length k.signature.definitions) y → (j : ℕ) → i ≡ length d.definitions + j → slice_get (y ∷ []) j ≡ Some x →
        DefinitionTreeKeeps (seen (signature_after k.signature w rest)) (length names) i x
    last y keeps zero place there =
        let many : length k.signature.definitions ≡ length d.definitions = sym (length-map k.signature.definitions (λ e. e.1)) ∙
        ap (λ (l : List ℕ). length l) s.definition_arities ∙ length-map d.definitions (λ z. length z.params) in
        let same : y ≡ x = same_Some y x there in
        let number : length k.signature.definitions ≡ i = omega arith in
        subst (λ (z : DefinitionTree). DefinitionTreeKeeps (seen (signature_after k.signature w rest)) (length names) i z) same
        (subst (λ (n : ℕ). DefinitionTreeKeeps (seen (signature_after k.signature w rest)) (length names) n y) number keeps)
    last y keeps (suc j) place there = absurd (none-some x there)

-- the number of definitions with those of an item
few-stand : (names : List (List ℕ)) (k : Declarations) (d : DomainTree) (w : ItemWord) (rest : FormTrees) → Stands names k d →
    AddsDefinitions names k w rest → length (d.definitions ++ definitions_of_item names k.signature w rest) ≤ 64
few-stand names k d w rest s adds =
    let many : length k.signature.definitions ≡ length d.definitions = sym (length-map k.signature.definitions (λ e. e.1)) ∙
    ap (λ (l : List ℕ). length l) s.definition_arities ∙ length-map d.definitions (λ z. length z.params) in
    let both = length-append d.definitions (definitions_of_item names k.signature w rest) in
    elim adds.adds [
      | inl nothing ↦ let none = ap (λ (l : List DefinitionTree). length l) nothing in omega (arith, s.few_definitions)
      | inr one ↦ let single = ap (λ (l : List DefinitionTree). length l) one.1 in omega (arith, one.3)
    ]

-- the number of predicates, of functions and of operators with those of an item
predicates-stand : (names : List (List ℕ)) (k : Declarations) (d : DomainTree) (w : ItemWord) (rest : FormTrees) → Stands names k d →
    IsLawful names k w rest → length (d.predicates ++ predicates_of_item names w rest) ≤ 256
predicates-stand names k d w rest s h =
    let many : length k.signature.predicates ≡ length d.predicates = sym (length-map k.signature.predicates (λ e. e.1)) ∙
    ap (λ (l : List ℕ). length l) s.predicate_arities ∙ length-map d.predicates (λ x. x.arity) in
    omega (
      arith,
      length-append d.predicates (predicates_of_item names w rest),
      predicates-few names k w rest h (omega (arith, s.few_predicates)),
    )

functions-stand : (names : List (List ℕ)) (k : Declarations) (d : DomainTree) (w : ItemWord) (rest : FormTrees) → Stands names k d →
    IsLawful names k w rest → length (d.functions ++ functions_of_item names w rest) ≤ 256
functions-stand names k d w rest s h =
    let many : length k.signature.functions ≡ length d.functions = sym (length-map k.signature.functions (λ e. e.1)) ∙
    ap (λ (l : List ℕ). length l) s.function_arities ∙ length-map d.functions (λ x. x.arity) in
    omega (
      arith,
      length-append d.functions (functions_of_item names w rest),
      functions-few names k w rest h (omega (arith, s.few_functions)),
    )

operators-stand : (names : List (List ℕ)) (k : Declarations) (d : DomainTree) (w : ItemWord) (rest : FormTrees) → Stands names k d →
    IsLawful names k w rest → length (d.operators ++ operators_of_item names k.signature w rest) ≤ 256
operators-stand names k d w rest s h =
    omega (
      arith,
      length-append d.operators (operators_of_item names k.signature w rest),
      s.operator_names,
      operators-few names k w rest h (omega (arith, s.operator_names, s.few_operators)),
    )

-- lists of numbers of arguments that grow in the same way
both-arities : {A : Type 0} (f : A → ℕ) (xs ys : List A) (old new : List ℕ) → new ≡ old ++ map f ys → old ≡ map f xs → new ≡
    map f (xs ++ ys)
both-arities f xs ys old new grown same = grown ∙ ap (λ (l : List ℕ). l ++ map f ys) same ∙ sym (map-append f xs ys)

item-stands : (names : List (List ℕ)) (k : Declarations) (d : DomainTree) (w : ItemWord) (rest : FormTrees) → Stands names k d →
    IsLawful names k w rest → Stands names (declared_with k w rest) (with_item names k.signature d w rest)
item-stands names k d w rest s h =
    let only = names-only k.signature s.plain_predicates s.plain_functions in
    let adds = definitions-keep names k w rest only h in
    let after = signature_after k.signature w rest in
    let grown : Grows (seen k.signature) (seen after) = record {
      more_predicates = map (λ x. x.arity) (predicates_of_item names w rest);
      more_functions = map (λ x. x.arity) (functions_of_item names w rest);
      more_definitions = map (λ x. length x.params) (definitions_of_item names k.signature w rest);
      predicates = predicates-grow names k.signature w rest;
      functions = functions-grow names k.signature w rest;
      definitions = adds.grows;
    } in
    let operators = Each-both (OperatorTreeKeeps (seen k.signature) (length names)) d.operators
    (operators_of_item names k.signature w rest) s.operators (operators-keep names k w rest only h) in
    record {
      name = s.name;
      predicates = Each-both (DeclarationKeeps (length names)) d.predicates (predicates_of_item names w rest) s.predicates
          (predicates-keep names k w rest h);
      functions = Each-both (DeclarationKeeps (length names)) d.functions (functions_of_item names w rest) s.functions
          (functions-keep names k w rest h);
      definitions = definitions-stand names k d w rest s grown adds;
      operators = Each-implies (OperatorTreeKeeps (seen k.signature) (length names)) (OperatorTreeKeeps (seen after) (length names))
          (λ o keeps. operator-grows (seen k.signature) (seen after) (length names) o grown keeps) _ operators;
      control = formula-grows (seen k.signature) (seen after) (length names) [] 0 _ grown
          (control-keeps names k d.control w rest only h s.control);
      predicate_arities = both-arities (λ x. x.arity) d.predicates (predicates_of_item names w rest) (arities k.signature.predicates)
          (arities after.predicates) (predicates-grow names k.signature w rest) s.predicate_arities;
      function_arities = both-arities (λ x. x.arity) d.functions (functions_of_item names w rest) (arities k.signature.functions)
          (arities after.functions) (functions-grow names k.signature w rest) s.function_arities;
      definition_arities = both-arities (λ x. length x.params) d.definitions (definitions_of_item names k.signature w rest)
          (arities k.signature.definitions) (arities after.definitions) adds.grows s.definition_arities;
      plain_predicates = predicates-plain names k w rest h s.plain_predicates;
      plain_functions = functions-plain names k w rest h s.plain_functions;
      operator_names = omega (
        arith,
        s.operator_names,
        operators-grow names k w rest,
        length-append d.operators (operators_of_item names k.signature w rest),
      );
      few_predicates = predicates-stand names k d w rest s h;
      few_functions = functions-stand names k d w rest s h;
      few_operators = operators-stand names k d w rest s h;
      few_definitions = few-stand names k d w rest s adds;
      few_levels = adds.few s.few_levels;
      counted = omega (
        arith,
        s.counted,
        adds.counted,
        sum_by-append (λ (x : DefinitionTree). x.levels) d.definitions
            (definitions_of_item names k.signature w rest),
        length-append d.definitions (definitions_of_item names k.signature w rest),
      );
    }

-- a domain with items that break nothing, whatever they declare together
record StandsAfter (names : List (List ℕ)) (d : DomainTree) : Type 0 where
  pub known : Declarations
  pub stands : Stands names known d

items-stand : (names : List (List ℕ)) (k : Declarations) (d : DomainTree) (fs : FormTrees) → Stands names k d → HaveNames names fs →
    items_breaks k fs ≡ [] → StandsAfter names (with_items names k d fs)
items-stand names k d no_form s has none = record { known = k; stands = s }
items-stand names k d (more_forms f fs) s has none =
    let parts = none-parts (item_breaks k f) (items_breaks (declared_after k f) fs) none in
    items-stand names (declared_after k f) (with_item_form names k.signature d f) fs (form-stands f has.0 parts.0) has.1 parts.1
  where
    form-stands : (form : FormTree) → HasNames names form → item_breaks k form ≡ [] →
        Stands names (declared_after k form) (with_item_form names k.signature d form)
    form-stands (symbol text at) own wrong = cc
    form-stands (integer z at) own wrong = cc
    form-stands (list no_form at) own wrong = cc
    form-stands (list (more_forms (symbol text t) rest) at) own right =
        item-stands names k d (item_word text) rest s (is-lawful names k (item_word text) rest at own.1 right)
    form-stands (list (more_forms (integer z t) rest) at) own wrong = cc
    form-stands (list (more_forms (list gs t) rest) at) own wrong = cc

nothing-stands : (names : List (List ℕ)) (name : ℕ) → name < length names → Stands names nothing_declared (empty_domain name)
nothing-stands names name lt = record {
  name = lt;
  predicates = tt;
  functions = tt;
  definitions = λ i x at. absurd (none-some x at);
  operators = tt;
  control = constant-keeps (seen nothing_declared.signature) (length names) [] 0;
  predicate_arities = refl;
  function_arities = refl;
  definition_arities = refl;
  plain_predicates = record { absent = λ text variable. refl };
  plain_functions = record { absent = λ text variable. refl };
  operator_names = refl;
  few_predicates = omega arith;
  few_functions = omega arith;
  few_operators = omega arith;
  few_definitions = omega arith;
  few_levels = omega arith;
  counted = omega arith;
}

elements-stand : (names : List (List ℕ)) (fs : FormTrees) → HaveNames names fs → has_domain_shape fs ≡ true → domain_items_breaks fs ≡ [] →
    StandsAfter names (domain_meant names fs)
elements-stand names no_form has shape none = cc
elements-stand names (more_forms word no_form) has shape none = cc
elements-stand names (more_forms word (more_forms (symbol text t) items)) has shape none =
    items-stand names nothing_declared (empty_domain (number_in names text)) items
    (nothing-stands names (number_in names text) (number-below names text has.1.0)) has.1.1 none
elements-stand names (more_forms word (more_forms (integer z t) items)) has shape none = let parts =
    and_parts (is_word (codes "domain") word) false shape in cc
elements-stand names (more_forms word (more_forms (list gs t) items)) has shape none = let parts =
    and_parts (is_word (codes "domain") word) false shape in cc

file-stands : (names : List (List ℕ)) (fs : FormTrees) → HaveNames names fs → domain_file_breaks fs ≡ [] →
    StandsAfter names (domain_file_meant names fs)
file-stands names no_form has none = cc
file-stands names (more_forms f fs) has none = form-stands f has.0 (none-parts (domain_form_breaks f) (second_form_breaks fs) none).0
  where
    form-stands : (form : FormTree) → HasNames names form → domain_form_breaks form ≡ [] →
        StandsAfter names (domain_meant names (elements_of form))
    form-stands (symbol text at) own wrong = cc
    form-stands (integer z at) own wrong = cc
    form-stands (list es at) own right =
        let parts = none-parts (breaks_if (not (has_domain_shape es)) Shape at) (domain_items_breaks es) right in
        elements-stand names es own (test-passes (has_domain_shape es) Shape at parts.0) parts.1

-- what a definition and an operator keep by their plain trees
definition-of-tree : (g : domain.Signature) (n i : ℕ) (x : Definition) → DefinitionTreeKeeps g n i (definition_tree x) →
    DefinitionKeeps g n i x
definition-of-tree g n i x h = record {
  name = h.name;
  params = h.params;
  state = h.state;
  scope = h.scope;
  fits = h.fits;
  named =
      h.named;
  levels = h.levels;
}

operator-of-tree : (g : domain.Signature) (n : ℕ) (o : Operator) → OperatorTreeKeeps g n (operator_tree o) → OperatorKeeps g n o
operator-of-tree g n o h = record {
  name = h.name;
  params = h.params;
  bounded = h.bounded;
  bounds_scope = h.bounds_scope;
  bounds_fit = h.bounds_fit;
  bounds_named = h.bounds_named;
  state = h.state;
  scope = h.scope;
  fits = h.fits;
  named = h.named;
  effects_state = h.effects_state;
  effects_scope = h.effects_scope;
  effects_fit = h.effects_fit;
  effects_named = h.effects_named;
}

-- the numbers of arguments of a domain are those of the items that it comes from
same-signature : (names : List (List ℕ)) (k : Declarations) (d : Domain) → Stands names k (domain_tree d) → seen k.signature ≡
    signature_of d
same-signature names k d s = parts s.predicate_arities s.function_arities
    (s.definition_arities ∙ map-map (λ x. length x.params) definition_tree d.definitions)
  where
    parts : {p q r s t u : List ℕ} → p ≡ q → r ≡ s → t ≡ u → ◌≡◌ {A = domain.Signature}
        (record { predicates = p; functions = r; definitions = t }) (record { predicates = q; functions = s; definitions = u })
    parts a b c = cc

nowhere : (qs : List ℕ) → Each (λ q. q < 0) qs → InScope [] qs
nowhere qs h = Each-implies (λ q. q < 0) (λ q. is_slot_in [] q ≡ true) (λ q lt. absurd (omega arith)) qs h

levels-of-trees : (ds : List Definition) → sum_by (λ x. x.levels) (map definition_tree ds) ≡ sum_by (λ x. x.levels) ds
levels-of-trees ds = sym (sum-map (λ (x : DefinitionTree). x.levels) (map definition_tree ds)) ∙
    ap (λ (l : List ℕ). sum l) (map-map (λ (x : DefinitionTree). x.levels) definition_tree ds) ∙ sum-map (λ (x : Definition). x.levels) ds

tree-keeps : (names : List (List ℕ)) (k : Declarations) (d : Domain) → Stands names k (domain_tree d) → DomainKeeps (length names) d
tree-keeps names k d s =
    let same = same-signature names k d s in
    let definitions : (i : ℕ) (x : Definition) → slice_get d.definitions i ≡ Some x → DefinitionKeeps (signature_of d) (length names) i x =
    λ i x at.
    definition-of-tree (signature_of d) (length names) i x (subst (λ (g : domain.Signature).
    DefinitionTreeKeeps g (length names) i (definition_tree x)) same
    (s.definitions i (definition_tree x) (image_at definition_tree d.definitions i x at))) in
    let operators = (Each-over (OperatorTreeKeeps (seen k.signature) (length names)) operator_tree d.operators).0 s.operators in
    record {
      name = s.name;
      predicates = s.predicates;
      functions = s.functions;
      few_predicates = s.few_predicates;
      few_functions = s.few_functions;
      definitions = definitions;
      few_definitions = omega (arith, s.few_definitions, length-map d.definitions definition_tree);
      few_levels = omega (arith, s.counted, s.few_levels, s.few_definitions, levels-of-trees d.definitions);
      few_operators = omega (arith, s.few_operators, length-map d.operators operator_tree);
      operators = Each-implies (λ o. OperatorTreeKeeps (seen k.signature) (length names) (operator_tree o))
          (OperatorKeeps (signature_of d) (length names)) (λ o h. operator-of-tree (signature_of d) (length names) o
          (subst (λ (g : domain.Signature). OperatorTreeKeeps g (length names) (operator_tree o)) same h)) d.operators operators;
      control_closed = nowhere _ s.control.below;
      control_fits = (subst (λ (g : domain.Signature). FormulaKeeps g (length names) [] 0 (tree_of_formula d.control)) same s.control).fits;
      control_named = s.control.named;
    }

pub domain-is-kept : DomainIsKept
domain-is-kept names forms d none has is =
    let after = file-stands names forms has none in
    tree-keeps names after.known d (subst (λ (t : DomainTree). Stands names after.known t) (sym is) after.stands)
