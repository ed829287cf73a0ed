-- The names of lawful files can be written, and the values in their problem are no variables.
use Rattle.std.proofs.Common.{◌≡◌, ℕ, List, map, true, inl, inr, sym, ap, ◌∙◌, subst}
use Rattle.std.specs.List.{list_any}
use Rattle.std.specs.Str.{bytes_eq}
use Rattle.std.proofs.lemmas.Simd.{map-map}
use Rattle.tl_sexpr.specs.Symbols.{IsSymbolText, HasSymbolTexts, HaveSymbolTexts}
use Rattle.tl_sexpr.specs.Tree.{FormTree, FormTrees, symbol, integer, list, no_form, more_forms}
use Rattle.tl_syntax.specs.declared.operator.Operator.{Operator}
use Rattle.tl_syntax.specs.Lists.{Each}
use Rattle.tl_syntax.specs.Settled.{Differ}
use Rattle.tl_syntax.specs.ValueTests.{EffectsPass}
use Rattle.tl_syntax.proofs.ListLaws.{Each-Among, Each-over}
use Rattle.tl_rules.specs.Named.{HasNames, HaveNames, HasSymbol, HaveSymbol}
use Rattle.tl_rules.specs.Symbols.{number_in}
use Rattle.tl_rules.proofs.SymbolsJoin.{among-any}
use Rattle.tl_problem.specs.Sections.{Sections, sections_of}
use Rattle.tl_domain.specs.DomainTrees.{OperatorTree, DomainTree, operator_tree, domain_tree}
use Rattle.tl_domain.specs.Files.{AreNamesOf, names_of, declared_in}
use Rattle.tl_domain.specs.LawsNames.{is_constant, LawfulNamesAreWritable}
use Rattle.tl_domain.specs.MeaningOfItems.{domain_file_meant}
use Rattle.tl_domain.proofs.ConstantFacts.{SectionsPass, problem-passes}
use Rattle.tl_domain.proofs.OperatorsDiffer.{numbers-differ, file-stands}

mutual
  symbol-text : (f : FormTree) (text : List ℕ) → HasSymbolTexts f → HasSymbol f text → IsSymbolText text
  symbol-text (symbol other at) text texts is = subst IsSymbolText is texts
  symbol-text (integer z at) text texts is = absurd is
  symbol-text (list fs at) text texts is = symbols-text fs text texts is

  symbols-text : (fs : FormTrees) (text : List ℕ) → HaveSymbolTexts fs → HaveSymbol fs text → IsSymbolText text
  symbols-text no_form text texts is = absurd is
  symbols-text (more_forms f fs) text texts is = elim is [
    | inl first ↦ symbol-text f text texts.0 first
    | inr later ↦ symbols-text fs text texts.1 later
  ]

mutual
  form-named : (names : List (List ℕ)) (f : FormTree) → ((text : List ℕ) → HasSymbol f text → list_any (bytes_eq text) names ≡ true) →
      HasNames names f
  form-named names (symbol text at) h = h text (λ i. text)
  form-named names (integer z at) h = tt
  form-named names (list fs at) h = forms-named names fs h

  forms-named : (names : List (List ℕ)) (fs : FormTrees) → ((text : List ℕ) → HaveSymbol fs text → list_any (bytes_eq text) names ≡ true) →
      HaveNames names fs
  forms-named names no_form h = tt
  forms-named names (more_forms f fs) h = (
    form-named names f (λ text is. h text (inl is)),
    forms-named names fs (λ text is. h text (inr is)),
  )

-- the names of files have their symbols
names-have : (first second : FormTrees) (names : List (List ℕ)) → AreNamesOf first second names → HaveNames names first ×
    HaveNames names second
names-have first second names are = (
  forms-named names first (λ text is. among-any text names ((are.are_texts text).1 (inl is))),
  forms-named names second (λ text is. among-any text names ((are.are_texts text).1 (inr is))),
)

names-texts : (first second : FormTrees) (names : List (List ℕ)) → HaveSymbolTexts first → HaveSymbolTexts second →
    AreNamesOf first second names → Each IsSymbolText names
names-texts first second names a b are = (Each-Among IsSymbolText names).1 (λ text m. elim ((are.are_texts text).0 m) [
  | inl is ↦ symbols-text first text a is
  | inr is ↦ symbols-text second text b is
])

pub lawful-names-writable : LawfulNamesAreWritable
lawful-names-writable first second p a b files =
    let have = names-have first second p.names files.names in
    let after = file-stands p.names first have.0 files.domain_lawful in
    let same : (domain_tree p.domain).operators ≡ (domain_file_meant p.names first).operators =
    ap (λ (d : DomainTree). d.operators) files.domain in
    let effects : Each (λ o. EffectsPass (is_constant p.names) o.effects) (map operator_tree p.domain.operators) =
    subst (Each (λ (o : OperatorTree). EffectsPass (is_constant p.names) o.effects)) (sym same) after.stands.effects in
    let said : SectionsPass p.names (sections_of p) = subst (λ (s : Sections). SectionsPass p.names s) (sym files.said)
    (problem-passes (names_of first second) (declared_in (domain_file_meant (names_of first second) first)) p.names p.domain second
    files.problem_lawful have.1) in
    let numbers : map (number_in p.names) after.known.operators ≡ map (λ (o : Operator). o.name) p.domain.operators =
    sym after.stands.numbered ∙ ap (map (λ (o : OperatorTree). o.name)) (sym same) ∙
    map-map (λ (o : OperatorTree). o.name) operator_tree p.domain.operators in
    record {
      names = names-texts first second p.names a b files.names;
      values = record {
        init_facts = said.init.facts;
        init_values = said.init.values;
        goal_facts = said.goal.facts;
        goal_values = said.goal.values;
        goal_nots = said.goal.nots;
        effects = (Each-over (λ (o : OperatorTree). EffectsPass (is_constant p.names) o.effects) operator_tree p.domain.operators).0
            effects;
      };
      operators = subst (λ (ns : List ℕ). Differ ns) numbers (numbers-differ p.names after.known.operators after.stands.distinct
          after.stands.have);
    }
