-- Items and domain files mean something exactly where they break no rule.
use Rattle.std.proofs.Common.{◌≡◌, ◌+◌, ℕ, List, [], ◌∷◌, ◌++◌, refl, sym, ap, ◌∙◌}
use Rattle.std.proofs.lemmas.List.{append-nil}
use Rattle.std.specs.Prelude.{Bool, true, false, ◌&&◌, ◌||◌, not, nat_lt, Option, Some, None, option_and_then, if◌then◌else◌, codes}
use Rattle.std.specs.Option.{option_map}
use Rattle.tl_sexpr.specs.Tree.{FormTree, FormTrees, symbol, integer, list, no_form, more_forms}
use Rattle.tl_syntax.specs.Trees.{FormulaTree}
use Rattle.tl_rules.specs.declared.rule.Rule.TheVariants.{Shape, Twice, Limit}
use Rattle.tl_rules.specs.OneForm.{second_form_breaks}
use Rattle.tl_rules.specs.Parts.{count, is_list, is_variable, is_within, is_word, natural, offset_of}
use Rattle.tl_rules.specs.Rules.{Break, breaks_if}
use Rattle.tl_rules.specs.Symbols.{number_in}
use Rattle.tl_rules.specs.Unbroken.{where_unbroken}
use Rattle.tl_rules.proofs.Unbroken.{map-unbroken, next-unbroken, end-unbroken}
use Rattle.tl_formulas.specs.declared.roles.FormulaRole.TheVariants as role
use Rattle.tl_formulas.specs.declared.signature.NameSignature.{NameSignature}
use Rattle.tl_formulas.specs.Formulas.{formula_breaks}
use Rattle.tl_formulas.specs.MeaningOfFormulas.{formula_meant}
use Rattle.tl_formulas.proofs.MeanFormulas.{formula-mean}
use Rattle.tl_formulas.proofs.MeanTerms.{more-one}
use Rattle.tl_domain.specs.Declarations.{Declarations, nothing_declared}
use Rattle.tl_domain.specs.DomainFiles.{domain_file_breaks}
use Rattle.tl_domain.specs.DomainTrees.{DefinitionTree, OperatorTree, DomainTree}
use Rattle.tl_domain.specs.Items.{has_declaration_shape, has_item_shape, is_full, is_second_control, declaration_breaks, definition_breaks}
use Rattle.tl_domain.specs.Items.{declaration_of, with_head}
use Rattle.tl_domain.specs.Items.{item_parts_breaks, item_breaks, declared_after, items_breaks}
use Rattle.tl_domain.specs.MeaningOfItems.{declared_meant, definition_meant, operator_meant, with_item, with_item_form, with_items}
use Rattle.tl_domain.specs.MeaningOfItems.{empty_domain, domain_file_meant}
use Rattle.tl_domain.specs.PartialItems.{ItemTree, a_predicate, a_function, a_definition, an_operator, a_control}
use Rattle.tl_domain.specs.PartialItems.{definition_meaning}
use Rattle.tl_domain.specs.PartialItems.{word_meaning, item_meaning, domain_with, plus_item, items_meaning, domain_file_meaning}
use Rattle.tl_domain.specs.Words as item
use Rattle.tl_domain.specs.Words.{ItemWord, item_word}
use Rattle.tl_domain.proofs.MeanHeads.{declaration-mean, definition-mean}
use Rattle.tl_domain.proofs.MeanOperators.{operator-mean}

-- an item of a kind, in a domain
kind-mean : {A : Type 0} (d e : DomainTree) (make : A → ItemTree) (xs : List Break) (m : Option A) (a : A) → m ≡ where_unbroken xs a →
    plus_item d (make a) ≡ e → option_map (plus_item d) (option_map make m) ≡ where_unbroken xs e
kind-mean d e make xs m a h is =
    ap (λ o. option_map (plus_item d) (option_map make o)) h
    ∙ ap (option_map (plus_item d)) (map-unbroken make xs a)
    ∙ map-unbroken (plus_item d) xs (make a)
    ∙ ap (where_unbroken xs) is

predicate-is : (names : List (List ℕ)) (g : NameSignature) (d : DomainTree) (fs : FormTrees) →
    plus_item d (a_predicate (record { name = number_in names (declaration_of fs).0; arity = (declaration_of fs).1 })) ≡
    with_item names g d item.Predicate fs
predicate-is names g d fs = λ i. domain_with d.name (d.predicates ++ declared_meant names fs) (sym (append-nil d.functions) i)
    (sym (append-nil d.definitions) i) (sym (append-nil d.operators) i) d.control

function-is : (names : List (List ℕ)) (g : NameSignature) (d : DomainTree) (fs : FormTrees) →
    plus_item d (a_function (record { name = number_in names (declaration_of fs).0; arity = (declaration_of fs).1 })) ≡
    with_item names g d item.Function fs
function-is names g d fs = λ i. domain_with d.name (sym (append-nil d.predicates) i) (d.functions ++ declared_meant names fs)
    (sym (append-nil d.definitions) i) (sym (append-nil d.operators) i) d.control

definition-is : (d : DomainTree) (x : DefinitionTree) → plus_item d (a_definition x) ≡
    domain_with d.name (d.predicates ++ []) (d.functions ++ []) (d.definitions ++ x ∷ []) (d.operators ++ []) d.control
definition-is d x = λ i. domain_with d.name (sym (append-nil d.predicates) i) (sym (append-nil d.functions) i) (d.definitions ++ x ∷ [])
    (sym (append-nil d.operators) i) d.control

operator-is : (d : DomainTree) (o : OperatorTree) → plus_item d (an_operator o) ≡
    domain_with d.name (d.predicates ++ []) (d.functions ++ []) (d.definitions ++ []) (d.operators ++ o ∷ []) d.control
operator-is d o = λ i. domain_with d.name (sym (append-nil d.predicates) i) (sym (append-nil d.functions) i)
    (sym (append-nil d.definitions) i)
    (d.operators ++ o ∷ []) d.control

control-is : (d : DomainTree) (c : FormulaTree) → plus_item d (a_control c) ≡
    domain_with d.name (d.predicates ++ []) (d.functions ++ []) (d.definitions ++ []) (d.operators ++ []) c
control-is d c = λ i. domain_with d.name (sym (append-nil d.predicates) i) (sym (append-nil d.functions) i)
    (sym (append-nil d.definitions) i)
    (sym (append-nil d.operators) i) c

-- with levels that a `defined` item may have
levels-mean : {A : Type 0} (s w n : Bool) (at start : ℕ) (xs : List Break) (m : Option A) (a : A) → m ≡
    where_unbroken (breaks_if (not s) Shape at ++ xs) a → (if w && not n then m else None) ≡
    where_unbroken (breaks_if (not s) Shape at ++ (breaks_if (not w || n) Limit start ++ xs)) a
levels-mean true true true at start xs m a h = refl
levels-mean true true false at start xs m a h = h
levels-mean true false n at start xs m a h = refl
levels-mean false true true at start xs m a h = refl
levels-mean false true false at start xs m a h = h
levels-mean false false n at start xs m a h = refl

-- an item that follows no other control item
first-mean : {A : Type 0} (c : Bool) (at : ℕ) (xs : List Break) (m : Option A) (f : A → DomainTree) (e : DomainTree) →
    option_map f m ≡ where_unbroken xs e → option_map f (if c then None else m) ≡ where_unbroken (breaks_if c Twice at ++ xs) e
first-mean true at xs m f e h = refl
first-mean false at xs m f e h = h

-- a list of a wrong shape
wrong-shape : {A : Type 0} (b : Bool) (at : ℕ) (xs : List Break) (a : A) → b ≡ false → None ≡
    where_unbroken (breaks_if (not b) Shape at ++ xs) a
wrong-shape b at xs a h = ap (λ c. where_unbroken (breaks_if (not c) Shape at ++ xs) a) (sym h)

word-mean : (names : List (List ℕ)) (k : Declarations) (d : DomainTree) (w : ItemWord) (fs : FormTrees) (at : ℕ) →
    option_map (plus_item d) (word_meaning names k w fs) ≡ where_unbroken
    (breaks_if (not (has_item_shape w fs)) Shape at ++ (breaks_if (is_second_control k w) Twice at ++ item_parts_breaks k w fs))
    (with_item names k.signature d w fs)
word-mean names k d item.Predicate fs at =
    kind-mean d _ a_predicate (breaks_if (not (has_declaration_shape fs)) Shape at ++ declaration_breaks k.signature fs) _ _
    (declaration-mean names k.signature fs at) (predicate-is names k.signature d fs)
word-mean names k d item.Function fs at =
    kind-mean d _ a_function (breaks_if (not (has_declaration_shape fs)) Shape at ++ declaration_breaks k.signature fs) _ _
    (declaration-mean names k.signature fs at) (function-is names k.signature d fs)
word-mean names k d item.Define no_form at = refl
word-mean names k d item.Define (more_forms head no_form) at = refl
word-mean names k d item.Define (more_forms head (more_forms body no_form)) at =
    kind-mean d _ a_definition (breaks_if (not (is_list head)) Shape at ++ definition_breaks k.signature k.signature head body) _ _
    (definition-mean names k.signature k.signature 1 head body at) (definition-is d (definition_meant names k.signature 1 head body))
word-mean names k d item.Define (more_forms head (more_forms body (more_forms f fs))) at = refl
word-mean names k d item.Defined no_form at = refl
word-mean names k d item.Defined (more_forms n no_form) at = refl
word-mean names k d item.Defined (more_forms n (more_forms head no_form)) at = refl
word-mean names k d item.Defined (more_forms (symbol text _) (more_forms head (more_forms body no_form))) at = refl
word-mean names k d item.Defined (more_forms (list gs _) (more_forms head (more_forms body no_form))) at = refl
word-mean names k d item.Defined (more_forms (integer z a) (more_forms head (more_forms body no_form))) at =
    let h : NameSignature = with_head k.signature head in
    ap (option_map (plus_item d)) (inside (is_within 1 64 z && not (nat_lt 64 (k.levels + natural z))))
    ∙ kind-mean d _ a_definition _ _ _
    (levels-mean (is_list head) (is_within 1 64 z) (nat_lt 64 (k.levels + natural z)) at a (definition_breaks k.signature h head body) _ _
    (definition-mean names k.signature h (natural z) head body at)) (definition-is d (definition_meant names h (natural z) head body))
  where
    make : ℕ → Option DefinitionTree
    make levels = definition_meaning names k.signature (with_head k.signature head) levels head body

    inside : (b : Bool) → option_and_then (λ levels. option_map a_definition (make levels)) (if b then Some (natural z) else None) ≡
        option_map a_definition (if b then make (natural z) else None)
    inside true = refl
    inside false = refl
word-mean names k d item.Defined (more_forms n (more_forms head (more_forms body (more_forms f fs)))) at = refl
word-mean names k d item.Operator no_form at = refl
word-mean names k d item.Operator (more_forms head clauses) at =
    kind-mean d _ an_operator _ _ _ (operator-mean names k.signature k.operators head clauses at)
    (operator-is d (operator_meant names k.signature head clauses))
word-mean names k d item.Control no_form at = refl
word-mean names k d item.Control (more_forms f no_form) at =
    first-mean k.controlled at (formula_breaks role.Control k.signature [] f) _ (plus_item d) _
    (kind-mean d _ a_control (formula_breaks role.Control k.signature [] f) _ _ (formula-mean role.Control names k.signature [] f)
    (control-is d (formula_meant names k.signature [] f)))
word-mean names k d item.Control (more_forms f (more_forms h fs)) at = wrong-shape _ at _ _ (more-one (count fs))
word-mean names k d item.Other fs at = refl

-- an item for which there is room
room-mean : {A : Type 0} (f : A → DomainTree) (s c l : Bool) (at : ℕ) (ps : List Break) (m : Option A) (e : DomainTree) → option_map f m ≡
    where_unbroken (breaks_if (not s) Shape at ++ (breaks_if c Twice at ++ ps)) e → option_map f (if l then None else m) ≡
    where_unbroken ((breaks_if (not s) Shape at ++ (breaks_if c Twice at ++ breaks_if l Limit at)) ++ ps) e
room-mean f true true true at ps m e h = refl
room-mean f true true false at ps m e h = h
room-mean f true false true at ps m e h = refl
room-mean f true false false at ps m e h = h
room-mean f false c true at ps m e h = refl
room-mean f false c false at ps m e h = h

item-mean : (names : List (List ℕ)) (k : Declarations) (d : DomainTree) (f : FormTree) → option_map (plus_item d) (item_meaning names k f) ≡
    where_unbroken (item_breaks k f) (with_item_form names k.signature d f)
item-mean names k d (symbol text at) = refl
item-mean names k d (integer z at) = refl
item-mean names k d (list no_form at) = refl
item-mean names k d (list (more_forms (integer z _) rest) at) = refl
item-mean names k d (list (more_forms (list gs _) rest) at) = refl
item-mean names k d (list (more_forms (symbol text _) rest) at) =
    let w : ItemWord = item_word text in
    room-mean (plus_item d) (has_item_shape w rest) (is_second_control k w) (is_full k w) at (item_parts_breaks k w rest) _ _
    (word-mean names k d w rest at)

items-mean : (names : List (List ℕ)) (k : Declarations) (d : DomainTree) (fs : FormTrees) → items_meaning names k d fs ≡
    where_unbroken (items_breaks k fs) (with_items names k d fs)
items-mean names k d no_form = refl
items-mean names k d (more_forms f fs) =
    mapped (item_meaning names k f)
    ∙ ap (option_and_then (λ e. items_meaning names (declared_after k f) e fs)) (item-mean names k d f)
    ∙ next-unbroken (λ e. items_meaning names (declared_after k f) e fs) (item_breaks k f) (items_breaks (declared_after k f) fs)
    (with_item_form names k.signature d f) _
    (items-mean names (declared_after k f) (with_item_form names k.signature d f) fs)
  where
    mapped : (m : Option ItemTree) → option_and_then (λ i. items_meaning names (declared_after k f) (plus_item d i) fs) m ≡
        option_and_then (λ e. items_meaning names (declared_after k f) e fs) (option_map (plus_item d) m)
    mapped None = refl
    mapped (Some i) = refl

-- more than one form of a file means nothing
lost : {A : Type 0} (xs : List Break) (b : Break) (bs : List Break) (a : A) → None ≡ where_unbroken (xs ++ b ∷ bs) a
lost [] b bs a = refl
lost (x ∷ xs) b bs a = refl

-- nor does a form without a name
unnamed : {A : Type 0} (b : Bool) (at : ℕ) (xs ys : List Break) (a : A) → None ≡
    where_unbroken ((breaks_if (not (b && false)) Shape at ++ xs) ++ ys) a
unnamed true at xs ys a = refl
unnamed false at xs ys a = refl

pub domain-file-mean : (names : List (List ℕ)) (forms : FormTrees) → domain_file_meaning names forms ≡
    where_unbroken (domain_file_breaks forms) (domain_file_meant names forms)
domain-file-mean names no_form = refl
domain-file-mean names (more_forms (symbol text _) fs) = refl
domain-file-mean names (more_forms (integer z _) fs) = refl
domain-file-mean names (more_forms (list no_form at) fs) = refl
domain-file-mean names (more_forms (list (more_forms w no_form) at) fs) = refl
domain-file-mean names (more_forms (list (more_forms w (more_forms (integer z _) items)) at) fs) =
    unnamed (is_word (codes "domain") w) at (items_breaks nothing_declared items) (second_form_breaks fs) _
domain-file-mean names (more_forms (list (more_forms w (more_forms (list gs _) items)) at) fs) =
    unnamed (is_word (codes "domain") w) at (items_breaks nothing_declared items) (second_form_breaks fs) _
domain-file-mean names (more_forms (list (more_forms w (more_forms (symbol text _) items)) at) no_form) =
    begun (is_word (codes "domain") w && not (is_variable text))
    ∙ sym (end-unbroken (breaks_if (not (is_word (codes "domain") w && not (is_variable text))) Shape at ++
    items_breaks nothing_declared items) _)
  where
    d : DomainTree
    d = empty_domain (number_in names text)

    begun : (b : Bool) → (if b then items_meaning names nothing_declared d items else None) ≡
        where_unbroken (breaks_if (not b) Shape at ++ items_breaks nothing_declared items) (with_items names nothing_declared d items)
    begun true = items-mean names nothing_declared d items
    begun false = refl
domain-file-mean names (more_forms (list (more_forms w (more_forms (symbol text _) items)) at) (more_forms f fs)) =
    lost (breaks_if (not (is_word (codes "domain") w && not (is_variable text))) Shape at ++ items_breaks nothing_declared items)
    (Shape, offset_of f) [] _
