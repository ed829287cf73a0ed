-- What items of definitions break, and what they give.
use Rattle.std.proofs.Common.{◌≡◌, ◌+◌, ◌++◌, ℕ, List, [], ◌∷◌, Bool, true, false, map, sym, ap, ◌∙◌}
use Rattle.std.specs.Prelude.{ℤ}
use Rattle.std.proofs.lemmas.List.{append-nil, map-append}
use Rattle.tl_sexpr.specs.Tree.{FormTree, FormTrees, integer, list, no_form, more_forms}
use Rattle.tl_syntax.specs.declared.definition.Definition.{Definition}
use Rattle.tl_syntax.specs.declared.domain.Domain.{Domain}
use Rattle.tl_rules.specs.declared.rule.Rule.TheVariants.{Limit}
use Rattle.tl_rules.specs.Parts.{count, rest_of, texts_of}
use Rattle.tl_rules.specs.Rules.{breaks_if}
use Rattle.tl_rules.proofs.Composed.{none-both}
use Rattle.tl_formulas.specs.Formulas.{formula_breaks}
use Rattle.tl_formulas.specs.Signatures.{Table, is_taken}
use Rattle.tl_formulas.specs.declared.roles.FormulaRole.TheVariants as role
use Rattle.tl_formulas.specs.declared.signature.NameSignature.{NameSignature}
use Rattle.tl_domain.specs.DomainTrees.{DefinitionTree, DomainTree, definition_tree, domain_tree}
use Rattle.tl_domain.specs.Items.{levels_breaks, natural_of, with_head, is_full, item_list_breaks, item_parts_breaks, declared_with}
use Rattle.tl_domain.specs.MeaningOfItems.{definition_named, definition_meant, with_item}
use Rattle.tl_domain.specs.Operators.{head_breaks, name_in_head}
use Rattle.tl_domain.specs.Declarations.{Declarations}
use Rattle.tl_domain.specs.Words as item

-- the name and the variables that were read are those of the head
pub record AreOf (head : FormTree) (name : List ℕ) (variables : FormTrees) : Type 0 where
  pub named : name ≡ name_in_head head
  pub rest : variables ≡ rest_of head

-- with more definitions alone
only-definitions : (d : DomainTree) (ds : List DefinitionTree) → record d { definitions = ds } ≡
    record {
      name = d.name;
      predicates = d.predicates ++ [];
      functions = d.functions ++ [];
      definitions = ds;
      operators =
          d.operators ++ [];
      control = d.control;
    }
only-definitions d ds = sym (simp append-nil)

more-definitions : (ds : List Definition) (d : Definition) (t : DefinitionTree) → definition_tree d ≡ t →
    map definition_tree (ds ++ d ∷ []) ≡ map definition_tree ds ++ t ∷ []
more-definitions ds d t e = map-append definition_tree ds (d ∷ []) ∙ ap (λ u. map definition_tree ds ++ u ∷ []) e

-- the definition that was read is the one that is meant
same-definition : (names : List (List ℕ)) (g : NameSignature) (levels : ℕ) (head body : FormTree) (name : List ℕ) (variables : FormTrees) →
    AreOf head name variables → definition_named names g levels name (texts_of variables) body ≡ definition_meant names g levels head body
same-definition names g levels head body name variables of =
    ap (λ text. definition_named names g levels text (texts_of variables) body) of.named ∙
    ap (λ fs. definition_named names g levels (name_in_head head) (texts_of fs) body) of.rest

same-entry : (table : Table) (head : FormTree) (name : List ℕ) (variables : FormTrees) (n : ℕ) → AreOf head name variables → n ≡
    count variables → table ++ (name, n) ∷ [] ≡ table ++ (name_in_head head, count (rest_of head)) ∷ []
same-entry table head name variables n of e =
    ap (λ text. table ++ (text, n) ∷ []) of.named ∙ ap (λ m. table ++ (name_in_head head, m) ∷ []) (e ∙ ap count of.rest)

-- the list of an item that has its shape breaks nothing itself where there is room
pub define-listed : (k : Declarations) (fs hs : FormTrees) (a : ℕ) (body : FormTree) (at : ℕ) → fs ≡
    more_forms (list hs a) (more_forms body no_form) → is_full k item.Define ≡ false → item_list_breaks k item.Define fs at ≡ []
define-listed k fs hs a body at shape room = rw shape (ap (λ (b : Bool). breaks_if b Limit at) room)

pub defined-listed : (k : Declarations) (fs hs : FormTrees) (z : ℤ) (n a : ℕ) (body : FormTree) (at : ℕ) → fs ≡
    more_forms (integer z n) (more_forms (list hs a) (more_forms body no_form)) → is_full k item.Defined ≡ false →
    item_list_breaks k item.Defined fs at ≡ []
defined-listed k fs hs z n a body at shape room = rw shape (ap (λ (b : Bool). breaks_if b Limit at) room)

pub define-none : (k : Declarations) (fs : FormTrees) (head body : FormTree) (name : List ℕ) (variables : FormTrees) → fs ≡
    more_forms head (more_forms body no_form) → AreOf head name variables → head_breaks 8 (is_taken k.signature) (λ _. true) head ≡ [] →
    formula_breaks role.Body k.signature (texts_of variables) body ≡ [] → item_parts_breaks k item.Define fs ≡ []
define-none k fs head body name variables shape of none h =
    rw shape (none-both _ _ none (ap (λ fs. formula_breaks role.Body k.signature (texts_of fs) body) (sym of.rest) ∙ h))

pub define-gives : (names : List (List ℕ)) (k : Declarations) (d : Domain) (fs : FormTrees) (head body : FormTree) (name : List ℕ)
    (variables : FormTrees) (n : ℕ) (table : Table) (definition : Definition) (definitions : List Definition) → fs ≡
    more_forms head (more_forms body no_form) → AreOf head name variables → n ≡ count variables → table ≡ k.signature.definitions ++
    (name, n) ∷ [] → definition_tree definition ≡ definition_named names k.signature 1 name (texts_of variables) body → definitions ≡
    d.definitions ++ definition ∷ [] → ◌≡◌ {A = Declarations × DomainTree}
    (record k { signature = record k.signature { definitions = table } }, domain_tree (record d { definitions = definitions }))
    (declared_with k item.Define fs, with_item names k.signature (domain_tree d) item.Define fs)
define-gives names k d fs head body name variables n table definition definitions shape of counted added tree more =
    let entry : table ≡ k.signature.definitions ++ (name_in_head head, count (rest_of head)) ∷ [] = added ∙
    same-entry k.signature.definitions head name variables n of counted in
    let trees : map definition_tree definitions ≡ map definition_tree d.definitions ++ definition_meant names k.signature 1 head body ∷ [] =
    ap (map definition_tree) more ∙ more-definitions d.definitions definition _
    (tree ∙ same-definition names k.signature 1 head body name variables of) in
    rw shape
    (ap (λ (t : Table). (
      record k { signature = record k.signature { definitions = t } },
      domain_tree (record d { definitions = definitions }),
    )) entry
    ∙ ap (λ (ts : List DefinitionTree). (
      declared_with k item.Define (more_forms head (more_forms body no_form)),
      record (domain_tree d) { definitions = ts },
    )) trees
    ∙ ap (λ (t : DomainTree). (declared_with k item.Define (more_forms head (more_forms body no_form)), t))
    (only-definitions (domain_tree d) _))

pub defined-none : (k : Declarations) (fs : FormTrees) (number head body : FormTree) (name : List ℕ) (variables : FormTrees)
    (g : NameSignature) → fs ≡ more_forms number (more_forms head (more_forms body no_form)) → AreOf head name variables → g ≡
    with_head k.signature head → levels_breaks k.levels number ≡ [] → head_breaks 8 (is_taken k.signature) (λ _. true) head ≡ [] →
    formula_breaks role.Body g (texts_of variables) body ≡ [] → item_parts_breaks k item.Defined fs ≡ []
defined-none k fs number head body name variables g shape of later levels none h =
    rw shape (none-both _ _ levels (none-both _ _ none
    (ap (λ fs. formula_breaks role.Body (with_head k.signature head) (texts_of fs) body) (sym of.rest) ∙
    (ap (λ g. formula_breaks role.Body g (texts_of variables) body) (sym later) ∙ h))))

-- the signature with a definition
pub head-known : (g : NameSignature) (head : FormTree) (name : List ℕ) (variables : FormTrees) (n : ℕ) (table : Table) →
    AreOf head name variables → n ≡ count variables → table ≡ g.definitions ++ (name, n) ∷ [] → record g { definitions = table } ≡
    with_head g head
head-known g head name variables n table of counted added =
    ap (λ (t : Table). record g { definitions = t }) (added ∙ same-entry g.definitions head name variables n of counted)

pub defined-gives : (names : List (List ℕ)) (k : Declarations) (d : Domain) (fs : FormTrees) (number head body : FormTree) (name : List ℕ)
    (variables : FormTrees) (levels : ℕ) (g : NameSignature) (definition : Definition) (definitions : List Definition) → fs ≡
    more_forms number (more_forms head (more_forms body no_form)) → AreOf head name variables → g ≡ with_head k.signature head → levels ≡
    natural_of number → definition_tree definition ≡ definition_named names g levels name (texts_of variables) body → definitions ≡
    d.definitions ++ definition ∷ [] → ◌≡◌ {A = Declarations × DomainTree}
    (record k { signature = g; levels = k.levels + levels }, domain_tree (record d { definitions = definitions }))
    (declared_with k item.Defined fs, with_item names k.signature (domain_tree d) item.Defined fs)
defined-gives names k d fs number head body name variables levels g definition definitions shape of later is tree more =
    let meant : definition_tree definition ≡ definition_meant names (with_head k.signature head) (natural_of number) head body =
    tree ∙ same-definition names g levels head body name variables of ∙ ap (λ g. definition_meant names g levels head body) later ∙
    ap (λ n. definition_meant names (with_head k.signature head) n head body) is in
    let trees : map definition_tree definitions ≡ map definition_tree d.definitions ++
    definition_meant names (with_head k.signature head) (natural_of number) head body ∷ [] =
    ap (map definition_tree) more ∙ more-definitions d.definitions definition _ meant in
    rw shape
    (ap (λ (h : NameSignature). (
      record k { signature = h; levels = k.levels + levels },
      domain_tree (record d { definitions = definitions }),
    )) later
    ∙ ap (λ n. (
      record k { signature = with_head k.signature head; levels = k.levels + n },
      domain_tree (record d { definitions = definitions }),
    )) is
    ∙ ap (λ (ts : List DefinitionTree). (
      declared_with k item.Defined (more_forms number (more_forms head (more_forms body no_form))),
      record (domain_tree d) { definitions = ts },
    )) trees
    ∙ ap (λ (t : DomainTree). (declared_with k item.Defined (more_forms number (more_forms head (more_forms body no_form))), t))
    (only-definitions (domain_tree d) _))
