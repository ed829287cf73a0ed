-- What an item that breaks nothing adds to a domain.
use Rattle.std.proofs.Common.{◌≡◌, ◌<◌, ◌≤◌, ◌+◌, ℕ, List, [], ◌∷◌, ◌++◌, Bool, true, not, length, map, refl, sym, ap, ◌∙◌, arith, inl, inr}
use Rattle.std.proofs.Common.{length-append}
use Rattle.std.specs.Prelude.{ℤ, ◌⊎◌, ◌||◌, nat_lt, sum_by}
use Rattle.std.proofs.lemmas.Bool.{and_parts, or_parts, not-false, ltb-true, ltb-false}
use Rattle.std.proofs.lemmas.List.{map-append, append-nil, length-map}
use Rattle.tl_sexpr.specs.Tree.{FormTree, FormTrees, symbol, integer, list, no_form, more_forms}
use Rattle.tl_syntax.specs.FreeVariables.{slots_of}
use Rattle.tl_syntax.specs.Lists.{Each}
use Rattle.tl_syntax.specs.Fits.{Fits}
use Rattle.tl_syntax.specs.Signature.{with_definitions_below}
use Rattle.tl_syntax.specs.Trees.{FormulaTree}
use Rattle.tl_rules.specs.declared.rule.Rule.TheVariants.{Limit}
use Rattle.tl_rules.specs.Named.{HasNames}
use Rattle.tl_rules.specs.Parts.{count, is_list, natural, is_within, rest_of}
use Rattle.tl_rules.proofs.NamesHave.{number-below}
use Rattle.tl_formulas.specs.declared.roles.FormulaRole.TheVariants as role
use Rattle.tl_formulas.specs.declared.signature.NameSignature.{NameSignature}
use Rattle.tl_formulas.specs.Signatures.{Table, is_taken}
use Rattle.tl_formulas.specs.Formulas.{formula_breaks}
use Rattle.tl_formulas.specs.MeaningOfFormulas.{variables_from}
use Rattle.tl_formulas.proofs.KeepsLists.{none-parts, test-fails}
use Rattle.tl_formulas.proofs.KeepsCalls.{arities, seen, NamesOnly}
use Rattle.tl_formulas.proofs.KeepsVariables.{length-variables, texts-count}
use Rattle.tl_formulas.proofs.KeepsFormulas.{FormulaKeeps, formula-keeps}
use Rattle.tl_formulas.proofs.KeepsState.{formula-state}
use Rattle.tl_formulas.proofs.KeepsMore.{formula-fits}
use Rattle.tl_domain.specs.Declarations.{Declarations}
use Rattle.tl_domain.specs.Words.{ItemWord}
use Rattle.tl_domain.specs.Words as item
use Rattle.tl_domain.specs.DomainTrees.{DefinitionTree}
use Rattle.tl_domain.specs.Operators.{head_breaks, parameters_of, name_in_head, are_clauses}
use Rattle.tl_domain.specs.Items.{levels_breaks, declaration_of, with_head, signature_after, operators_after, levels_after}
use Rattle.tl_domain.specs.MeaningOfItems.{definition_meant, predicates_of_item, functions_of_item, definitions_of_item, operators_of_item}
use Rattle.tl_domain.specs.MeaningOfItems.{control_with}
use Rattle.tl_domain.proofs.KeepsDeclarations.{IsLawful, within}
use Rattle.tl_domain.proofs.KeepsHeads.{HeadKeeps, head-keeps, parameters-keep, head-place, in-scope}
use Rattle.tl_domain.proofs.KeepsOperators.{OperatorTreeKeeps, operator-keeps}
use Rattle.tl_domain.proofs.KeepsGrowth.{Grows, part-of-grown, part-of-all, DefinitionTreeKeeps}

-- a lawful definition has a parameter for each variable of its head
count-parameters : (names : List (List ℕ)) (most : ℕ) (is_old occurs : List ℕ → Bool) (head : FormTree) →
    HeadKeeps names most is_old occurs head → length (variables_from names 0 (parameters_of head)) ≡ count (rest_of head)
count-parameters names most is_old occurs head h = length-variables names (parameters_of head) 0 ∙ texts-count (rest_of head) h.variables

-- the numbers of arguments of a table with one more
arities-pushed : (table : Table) (text : List ℕ) (n : ℕ) → arities (table ++ (text, n) ∷ []) ≡ arities table ++ n ∷ []
arities-pushed table text n = map-append (λ e. e.1) table ((text, n) ∷ [])

pub predicates-grow : (names : List (List ℕ)) (g : NameSignature) (w : ItemWord) (rest : FormTrees) →
    arities (signature_after g w rest).predicates ≡ arities g.predicates ++ map (λ x. x.arity) (predicates_of_item names w rest)
predicates-grow names g item.Predicate rest = arities-pushed g.predicates (declaration_of rest).0 (declaration_of rest).1
predicates-grow names g item.Function rest = sym (append-nil (arities g.predicates))
predicates-grow names g item.Define no_form = sym (append-nil (arities g.predicates))
predicates-grow names g item.Define (more_forms head rest) = sym (append-nil (arities g.predicates))
predicates-grow names g item.Defined no_form = sym (append-nil (arities g.predicates))
predicates-grow names g item.Defined (more_forms n no_form) = sym (append-nil (arities g.predicates))
predicates-grow names g item.Defined (more_forms n (more_forms head rest)) = sym (append-nil (arities g.predicates))
predicates-grow names g item.Operator rest = sym (append-nil (arities g.predicates))
predicates-grow names g item.Control rest = sym (append-nil (arities g.predicates))
predicates-grow names g item.Other rest = sym (append-nil (arities g.predicates))

pub functions-grow : (names : List (List ℕ)) (g : NameSignature) (w : ItemWord) (rest : FormTrees) →
    arities (signature_after g w rest).functions ≡ arities g.functions ++ map (λ x. x.arity) (functions_of_item names w rest)
functions-grow names g item.Predicate rest = sym (append-nil (arities g.functions))
functions-grow names g item.Function rest = arities-pushed g.functions (declaration_of rest).0 (declaration_of rest).1
functions-grow names g item.Define no_form = sym (append-nil (arities g.functions))
functions-grow names g item.Define (more_forms head rest) = sym (append-nil (arities g.functions))
functions-grow names g item.Defined no_form = sym (append-nil (arities g.functions))
functions-grow names g item.Defined (more_forms n no_form) = sym (append-nil (arities g.functions))
functions-grow names g item.Defined (more_forms n (more_forms head rest)) = sym (append-nil (arities g.functions))
functions-grow names g item.Operator rest = sym (append-nil (arities g.functions))
functions-grow names g item.Control rest = sym (append-nil (arities g.functions))
functions-grow names g item.Other rest = sym (append-nil (arities g.functions))

-- ---- how many predicates, functions and operators there are: an item adds one only where there is room

pub predicates-few : (names : List (List ℕ)) (k : Declarations) (w : ItemWord) (rest : FormTrees) → IsLawful names k w rest →
    length k.signature.predicates ≤ 256 → length k.signature.predicates + length (predicates_of_item names w rest) ≤ 256
predicates-few names k item.Predicate rest h few = let room = ltb-true (length k.signature.predicates) 256
    (not-false (nat_lt (length k.signature.predicates) 256) h.room) in omega arith
predicates-few names k _ rest h few = omega arith

pub functions-few : (names : List (List ℕ)) (k : Declarations) (w : ItemWord) (rest : FormTrees) → IsLawful names k w rest →
    length k.signature.functions ≤ 256 → length k.signature.functions + length (functions_of_item names w rest) ≤ 256
functions-few names k item.Function rest h few = let room = ltb-true (length k.signature.functions) 256
    (not-false (nat_lt (length k.signature.functions) 256) h.room) in omega arith
functions-few names k _ rest h few = omega arith

pub operators-few : (names : List (List ℕ)) (k : Declarations) (w : ItemWord) (rest : FormTrees) → IsLawful names k w rest →
    length k.operators ≤ 256 → length k.operators + length (operators_of_item names k.signature w rest) ≤ 256
operators-few names k item.Operator no_form h few = omega arith
operators-few names k item.Operator (more_forms head clauses) h few = let room =
    ltb-true (length k.operators) 256 (not-false (nat_lt (length k.operators) 256) h.room) in omega arith
operators-few names k _ rest h few = omega arith

-- an operator joins the domain where its name joins the names of operators
pub operators-grow : (names : List (List ℕ)) (k : Declarations) (w : ItemWord) (rest : FormTrees) →
    length (operators_after k.operators w rest) ≡ length k.operators + length (operators_of_item names k.signature w rest)
operators-grow names k item.Operator no_form = omega arith
operators-grow names k item.Operator (more_forms head clauses) = length-append k.operators (name_in_head head ∷ [])
operators-grow names k _ rest = omega arith

-- ---- definitions

-- what an item adds to the definitions: nothing, or one that keeps what definitions keep, where there is room
pub record AddsDefinitions (names : List (List ℕ)) (k : Declarations) (w : ItemWord) (rest : FormTrees) : Type 0 where
  pub adds : (definitions_of_item names k.signature w rest ≡ []) ⊎ ((d : DefinitionTree) ×
      (definitions_of_item names k.signature w rest ≡ d ∷ []) × DefinitionTreeKeeps (seen (signature_after k.signature w rest))
      (length names) (length k.signature.definitions) d × (length k.signature.definitions < 64))
  pub grows : arities (signature_after k.signature w rest).definitions ≡ arities k.signature.definitions ++
      map (λ x. length x.params) (definitions_of_item names k.signature w rest)
  pub counted : k.levels + sum_by (λ x. x.levels) (definitions_of_item names k.signature w rest) ≤ levels_after k.levels w rest + length
      (definitions_of_item names k.signature w rest)
  pub few : k.levels ≤ 64 → levels_after k.levels w rest ≤ 64

-- the definition of a head and a body that break nothing, read where these things are declared
definition-keeps : (names : List (List ℕ)) (g h : NameSignature) (levels : ℕ) (is_old occurs : List ℕ → Bool) (head body : FormTree) →
    NamesOnly g → HasNames names body → HeadKeeps names 8 is_old occurs head → 1 ≤ levels →
    formula_breaks role.Body g (parameters_of head) body ≡ []
    → ((f : FormulaTree) → Fits (seen g) (slots_of (variables_from names 0 (parameters_of head))) f →
    Fits (with_definitions_below (length h.definitions + 1) (seen (with_head h head)))
    (slots_of (variables_from names 0 (parameters_of head))) f)
    → DefinitionTreeKeeps (seen (with_head h head)) (length names) (length h.definitions) (definition_meant names g levels head body)
definition-keeps names g h levels is_old occurs head body only has kept positive none more =
    let place = head-place names 8 is_old occurs g head (omega arith) only kept in
    let formula = formula-keeps names role.Body g (slots_of (variables_from names 0 (parameters_of head)))
    (parameters_of head) body place has none in
    record {
      name = number-below names (name_in_head head) kept.name;
      params = parameters-keep names 8 is_old occurs head kept;
      state = formula-state names role.Body g (parameters_of head) body refl none;
      scope = in-scope names (parameters_of head) _ formula.below;
      fits = more _ formula.fits;
      named = formula.named;
      levels = positive;
    }

-- the signature with a definition, and its definitions up to this one
head-grows : (g : NameSignature) (head : FormTree) → Grows (seen g) (seen (with_head g head))
head-grows g head = record {
  more_predicates = [];
  more_functions = [];
  more_definitions = count (rest_of head) ∷ [];
  predicates = sym (append-nil (arities g.predicates));
  functions = sym (append-nil (arities g.functions));
  definitions = arities-pushed g.definitions (name_in_head head) (count (rest_of head));
}

head-length : (g : NameSignature) (head : FormTree) → length (arities (with_head g head).definitions) ≤ length g.definitions + 1
head-length g head = omega (
  arith,
  length-map (with_head g head).definitions (λ (e : List ℕ × ℕ). e.1),
  length-append g.definitions ((name_in_head head, count (rest_of head)) ∷ []),
)

none-added : (names : List (List ℕ)) (k : Declarations) (w : ItemWord) (rest : FormTrees) →
    definitions_of_item names k.signature w rest ≡ [] → arities (signature_after k.signature w rest).definitions ≡
    arities k.signature.definitions → levels_after k.levels w rest ≡ k.levels → AddsDefinitions names k w rest
none-added names k w rest none same levels = record {
  adds = inl none;
  grows = same ∙ sym (append-nil (arities k.signature.definitions)) ∙ ap
      (λ (ds : List DefinitionTree). arities k.signature.definitions ++ map (λ x. length x.params) ds) (sym none);
  counted = rw (none, levels) (omega arith);
  few = λ le. omega (arith, levels);
}

define-adds : (names : List (List ℕ)) (k : Declarations) (head body : FormTree) → NamesOnly k.signature →
    IsLawful names k item.Define (more_forms head (more_forms body no_form)) →
    AddsDefinitions names k item.Define (more_forms head (more_forms body no_form))
define-adds names k head body only h =
    let old = is_taken k.signature in
    let everywhere = λ (text : List ℕ). true in
    let parts = none-parts (head_breaks 8 old everywhere head) (formula_breaks role.Body k.signature (parameters_of head) body) h.parts in
    let kept = head-keeps names 8 old everywhere head h.shape h.has.0 parts.0 in
    let room = ltb-true (length k.signature.definitions) 64 (not-false (nat_lt (length k.signature.definitions) 64) h.room) in
    let after = with_head k.signature head in
    let scope = slots_of (variables_from names 0 (parameters_of head)) in
    record {
      adds = inr (
        definition_meant names k.signature 1 head body,
        refl,
        definition-keeps names k.signature k.signature 1 old everywhere head body only h.has.1.0 kept (omega arith) parts.1
            (λ f fits. formula-fits (seen after) (with_definitions_below (length k.signature.definitions + 1) (seen after))
            (part-of-all (length k.signature.definitions + 1) (seen after) (head-length k.signature head)) scope f
            (formula-fits (seen k.signature) (seen after) (part-of-grown (seen k.signature) (seen after) (head-grows k.signature head))
            scope f fits)),
        room,
      );
      grows = arities-pushed k.signature.definitions (name_in_head head) (count (rest_of head)) ∙
          ap (λ (n : ℕ). arities k.signature.definitions ++ n ∷ []) (sym (count-parameters names 8 old everywhere head kept));
      counted = omega arith;
      few = λ le. le;
    }

lawful-levels : (before : ℕ) (z : ℤ) (at : ℕ) → levels_breaks before (integer z at) ≡ [] → (1 ≤ natural z) × (before + natural z ≤ 64)
lawful-levels before z at none =
    let tests = or_parts (not (is_within 1 64 z)) (nat_lt 64 (before + natural z))
    (test-fails (not (is_within 1 64 z) || nat_lt 64 (before + natural z)) Limit at none) in
    ((within 1 64 z (not-false (is_within 1 64 z) tests.0)).0, ltb-false 64 (before + natural z) tests.1)

defined-adds : (names : List (List ℕ)) (k : Declarations) (z : ℤ) (at : ℕ) (head body : FormTree) → NamesOnly k.signature →
    IsLawful names k item.Defined (more_forms (integer z at) (more_forms head (more_forms body no_form))) →
    AddsDefinitions names k item.Defined (more_forms (integer z at) (more_forms head (more_forms body no_form)))
defined-adds names k z at head body only h =
    let old = is_taken k.signature in
    let everywhere = λ (text : List ℕ). true in
    let after = with_head k.signature head in
    let parts = none-parts (levels_breaks k.levels (integer z at)) _ h.parts in
    let later = none-parts (head_breaks 8 old everywhere head) (formula_breaks role.Body after (parameters_of head) body) parts.1 in
    let levels = lawful-levels k.levels z at parts.0 in
    let kept = head-keeps names 8 old everywhere head h.shape h.has.1.0 later.0 in
    let room = ltb-true (length k.signature.definitions) 64 (not-false (nat_lt (length k.signature.definitions) 64) h.room) in
    let scope = slots_of (variables_from names 0 (parameters_of head)) in
    record {
      adds = inr (
        definition_meant names after (natural z) head body,
        refl,
        definition-keeps names after k.signature (natural z) old everywhere head body
            (record { predicates = only.predicates; functions = only.functions }) h.has.1.1.0 kept levels.0 later.1
            (λ f fits. formula-fits (seen after) (with_definitions_below (length k.signature.definitions + 1) (seen after))
            (part-of-all (length k.signature.definitions + 1) (seen after) (head-length k.signature head)) scope f fits),
        room,
      );
      grows = arities-pushed k.signature.definitions (name_in_head head) (count (rest_of head)) ∙
          ap (λ (n : ℕ). arities k.signature.definitions ++ n ∷ []) (sym (count-parameters names 8 old everywhere head kept));
      counted = omega arith;
      few = λ le. levels.1;
    }

pub definitions-keep : (names : List (List ℕ)) (k : Declarations) (w : ItemWord) (rest : FormTrees) → NamesOnly k.signature →
    IsLawful names k w rest → AddsDefinitions names k w rest
definitions-keep names k item.Define no_form only h = let shape = h.shape in cc
definitions-keep names k item.Define (more_forms head no_form) only h = let shape = h.shape in cc
definitions-keep names k item.Define (more_forms head (more_forms body no_form)) only h = define-adds names k head body only h
definitions-keep names k item.Define (more_forms head (more_forms body (more_forms f fs))) only h = let shape = h.shape in cc
definitions-keep names k item.Defined no_form only h = let shape = h.shape in cc
definitions-keep names k item.Defined (more_forms n no_form) only h = let shape = h.shape in cc
definitions-keep names k item.Defined (more_forms n (more_forms head no_form)) only h = let shape = h.shape in cc
definitions-keep names k item.Defined (more_forms (symbol text at) (more_forms head (more_forms body no_form))) only h = let shape =
    h.shape in cc
definitions-keep names k item.Defined (more_forms (integer z at) (more_forms head (more_forms body no_form))) only h =
    defined-adds names k z at head body only h
definitions-keep names k item.Defined (more_forms (list gs at) (more_forms head (more_forms body no_form))) only h = let shape = h.shape in
    cc
definitions-keep names k item.Defined (more_forms n (more_forms head (more_forms body (more_forms f fs)))) only h = let shape = h.shape in
    cc
definitions-keep names k item.Predicate rest only h = none-added names k item.Predicate rest refl refl refl
definitions-keep names k item.Function rest only h = none-added names k item.Function rest refl refl refl
definitions-keep names k item.Operator rest only h = none-added names k item.Operator rest refl refl refl
definitions-keep names k item.Control rest only h = none-added names k item.Control rest refl refl refl
definitions-keep names k item.Other rest only h = none-added names k item.Other rest refl refl refl

-- ---- operators and control

pub operators-keep : (names : List (List ℕ)) (k : Declarations) (w : ItemWord) (rest : FormTrees) → NamesOnly k.signature →
    IsLawful names k w rest → Each (OperatorTreeKeeps (seen k.signature) (length names)) (operators_of_item names k.signature w rest)
operators-keep names k item.Operator no_form only h = tt
operators-keep names k item.Operator (more_forms head clauses) only h = (
  operator-keeps names k.signature k.operators head clauses only (and_parts (is_list head) (are_clauses clauses) h.shape).0 h.has.0
      h.has.1 h.parts,
  tt,
)
operators-keep names k _ rest only h = tt

pub control-keeps : (names : List (List ℕ)) (k : Declarations) (control : FormulaTree) (w : ItemWord) (rest : FormTrees) →
    NamesOnly k.signature → IsLawful names k w rest → FormulaKeeps (seen k.signature) (length names) [] 0 control →
    FormulaKeeps (seen k.signature) (length names) [] 0 (control_with names k.signature control w rest)
control-keeps names k control item.Control no_form only h before = before
control-keeps names k control item.Control (more_forms f no_form) only h before =
    formula-keeps names role.Control k.signature [] [] f (record { few = omega arith; inside = tt; only = only }) h.has.0 h.parts
control-keeps names k control item.Control (more_forms f (more_forms i fs)) only h before = before
control-keeps names k control _ rest only h before = before
