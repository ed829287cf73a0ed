-- The operators of a lawful domain file have different names, and add and set no variables.
use Rattle.std.proofs.Common.{◌≡◌, ℕ, zero, suc, List, [], ◌∷◌, ◌++◌, map, Bool, true, false, not, Option, Some, None, refl, sym, ap, ◌∙◌}
use Rattle.std.proofs.Common.{subst}
use Rattle.std.specs.Prelude.{slice_get, codes}
use Rattle.std.specs.List.{list_any}
use Rattle.std.specs.Str.{bytes_eq}
use Rattle.std.proofs.lemmas.Bool.{true≢false, and_parts}
use Rattle.std.proofs.lemmas.List.{map-append, append-nil}
use Rattle.std.proofs.lemmas.Option.{none-some, same_Some}
use Rattle.tl_sexpr.specs.Tree.{FormTree, FormTrees, symbol, integer, list, no_form, more_forms}
use Rattle.tl_syntax.specs.Lists.{Each}
use Rattle.tl_syntax.specs.Settled.{Differ}
use Rattle.tl_syntax.specs.Texts.{AreDistinct, number_of}
use Rattle.tl_syntax.specs.ValueTests.{EffectsPass}
use Rattle.tl_syntax.proofs.Texts.{AreDistinct-push, list_any-from_number}
use Rattle.tl_rules.specs.declared.rule.Rule.TheVariants.{Shape, Twice}
use Rattle.tl_rules.specs.Named.{HasNames, HaveNames}
use Rattle.tl_rules.specs.Parts.{is_list, elements_of, rest_of}
use Rattle.tl_rules.specs.Rules.{breaks_if}
use Rattle.tl_rules.specs.Symbols.{number_in}
use Rattle.tl_formulas.specs.declared.signature.NameSignature.{NameSignature}
use Rattle.tl_formulas.specs.Signatures.{Scope}
use Rattle.tl_formulas.proofs.KeepsGoals.{rest-has}
use Rattle.tl_formulas.proofs.KeepsLists.{none-parts, test-fails, test-passes, Each-both}
use Rattle.tl_domain.specs.Declarations.{Declarations, nothing_declared}
use Rattle.tl_domain.specs.DomainFiles.{has_domain_shape, domain_items_breaks, domain_form_breaks, domain_file_breaks}
use Rattle.tl_domain.specs.DomainTrees.{OperatorTree, DomainTree}
use Rattle.tl_domain.specs.Items.{item_breaks, items_breaks, declared_with, declared_after}
use Rattle.tl_domain.specs.LawsNames.{is_constant}
use Rattle.tl_domain.specs.MeaningOfItems.{effects_clause_meant, operator_meant, with_item, with_item_form, with_items, empty_domain}
use Rattle.tl_domain.specs.MeaningOfItems.{domain_meant, domain_file_meant}
use Rattle.tl_domain.specs.Operators.{has_head_shape, head_list_breaks, head_parts_breaks, head_name_breaks, parameters_breaks, head_breaks}
use Rattle.tl_domain.specs.Operators.{name_in_head, parameters_of, are_clauses, effects_clause, occurs_in_bounds, clauses_breaks}
use Rattle.tl_domain.specs.Words.{ItemWord, item_word}
use Rattle.tl_domain.specs.Words as item
use Rattle.tl_domain.proofs.ConstantEffects.{name-at, effects-pass}
use Rattle.tl_domain.proofs.KeepsDeclarations.{IsLawful, is-lawful}
use Rattle.tl_domain.proofs.KeepsHeads.{head-keeps}
use Rattle.tl_domain.proofs.KeepsOperators.{ClauseHas, leading-has, after-has}

-- ---- texts that differ have different numbers

got-text : (f : List ℕ → ℕ) (texts : List (List ℕ)) (i x : ℕ) → slice_get (map f texts) i ≡ Some x → (text : List ℕ) ×
    (slice_get texts i ≡ Some text) × (f text ≡ x)
got-text f [] i x q = absurd (none-some x q)
got-text f (t ∷ texts) zero x q = (t, refl, same_Some (f t) x q)
got-text f (t ∷ texts) (suc i) x q = got-text f texts i x q

each-got : (P : List ℕ → Type 0) (texts : List (List ℕ)) (i : ℕ) (text : List ℕ) → Each P texts → slice_get texts i ≡ Some text → P text
each-got P [] i text h q = absurd (none-some text q)
each-got P (t ∷ texts) zero text h q = subst P (same_Some t text q) h.0
each-got P (t ∷ texts) (suc i) text h q = each-got P texts i text h.1 q

-- the text is one of the names
abbrev IsNamed : List (List ℕ) → List ℕ → Type 0
IsNamed names text = list_any (bytes_eq text) names ≡ true

pub numbers-differ : (names texts : List (List ℕ)) → AreDistinct texts → Each (IsNamed names) texts → Differ (map (number_in names) texts)
numbers-differ names texts distinct have = λ i j x at_i at_j.
    let a = got-text (number_in names) texts i x at_i in
    let b = got-text (number_in names) texts j x at_j in
    let first = name-at names a.0 (each-got (IsNamed names) texts i a.0 have a.1) in
    let second = name-at names b.0 (each-got (IsNamed names) texts j b.0 have b.1) in
    let same : a.0 ≡ b.0 = same_Some a.0 b.0 (sym first ∙ ap (slice_get names) (a.2 ∙ sym b.2) ∙ second) in
    distinct i j b.0 (a.1 ∙ ap (λ (t : List ℕ). Some t) same) b.1

-- ---- operators, item by item

-- the operators have the numbers of different names, and what they add and set passes
pub record OperatorsStand (names : List (List ℕ)) (k : Declarations) (d : DomainTree) : Type 0 where
  pub numbered : map (λ o. o.name) d.operators ≡ map (number_in names) k.operators
  pub distinct : AreDistinct k.operators
  pub have : Each (IsNamed names) k.operators
  pub effects : Each (λ o. EffectsPass (is_constant names) o.effects) d.operators

-- the name of a head is new
head-new : (most : ℕ) (is_old occurs : List ℕ → Bool) (head : FormTree) → is_list head ≡ true → head_breaks most is_old occurs head ≡ [] →
    is_old (name_in_head head) ≡ false
head-new most is_old occurs (symbol text at) shape none = cc
head-new most is_old occurs (integer z at) shape none = cc
head-new most is_old occurs (list fs at) shape none =
    let parts = none-parts (head_list_breaks most (list fs at)) (head_parts_breaks is_old occurs fs) none in
    elements fs (test-passes (has_head_shape fs) Shape at (none-parts (breaks_if (not (has_head_shape fs)) Shape at) _ parts.0).0) parts.1
  where
    elements : (es : FormTrees) → has_head_shape es ≡ true → head_parts_breaks is_old occurs es ≡ [] → is_old (name_in_head (list es at)) ≡
        false
    elements no_form right later = cc
    elements (more_forms (integer z s) variables) right later = cc
    elements (more_forms (list gs s) variables) right later = cc
    elements (more_forms (symbol text s) variables) right later = test-fails (is_old text) Twice s
        (none-parts (head_name_breaks is_old (symbol text s)) (parameters_breaks occurs [] variables) later).0

clause-passes : (names : List (List ℕ)) (g : NameSignature) (scope : Scope) (clause : Option FormTree) → ClauseHas names clause →
    EffectsPass (is_constant names) (effects_clause_meant names g scope clause)
unfolding EffectsPass
clause-passes names g scope None has = tt
clause-passes names g scope (Some clause) has = effects-pass names g scope (rest_of clause) (rest-has names clause has)

operator-passes : (names : List (List ℕ)) (g : NameSignature) (head : FormTree) (clauses : FormTrees) → HaveNames names clauses →
    EffectsPass (is_constant names) (operator_meant names g head clauses).effects
operator-passes names g head clauses has =
    clause-passes names g (parameters_of head) (effects_clause clauses)
    (leading-has names (codes "effects") _ (after-has names (codes "pre") _ (after-has names (codes "bounds") clauses has)))

-- a text that is none of a list has no number there
no-number : (texts : List (List ℕ)) (text : List ℕ) → list_any (bytes_eq text) texts ≡ false → number_of texts text ≡ None
no-number texts text none = by_answer (number_of texts text) refl
  where
    by_answer : (answer : Option ℕ) → number_of texts text ≡ answer → number_of texts text ≡ None
    by_answer None is = is
    by_answer (Some n) is = absurd (true≢false (sym (list_any-from_number texts text n is) ∙ none))

module _ (names : List (List ℕ)) where
  operator-stands : (k : Declarations) (d : DomainTree) (head : FormTree) (clauses : FormTrees) → OperatorsStand names k d →
      IsLawful names k item.Operator (more_forms head clauses) → OperatorsStand names
      (declared_with k item.Operator (more_forms head clauses)) (with_item names k.signature d item.Operator (more_forms head clauses))
  operator-stands k d head clauses s h =
      let old = λ (text : List ℕ). list_any (bytes_eq text) k.operators in
      let shape = (and_parts (is_list head) (are_clauses clauses) h.shape).0 in
      let parts = none-parts (head_breaks 16 old (occurs_in_bounds clauses) head)
      (clauses_breaks k.signature (parameters_of head) clauses) h.parts in
      let kept = head-keeps names 16 old (occurs_in_bounds clauses) head shape h.has.0 parts.0 in
      let new = operator_meant names k.signature head clauses in
      let name = name_in_head head in
      record {
        numbered = map-append (λ (o : OperatorTree). o.name) d.operators (new ∷ []) ∙
            ap (λ (ns : List ℕ). ns ++ number_in names name ∷ []) s.numbered ∙ sym (map-append (number_in names) k.operators (name ∷ []));
        distinct = AreDistinct-push k.operators name s.distinct (no-number k.operators name
            (head-new 16 old (occurs_in_bounds clauses) head shape parts.0));
        have = Each-both (IsNamed names) k.operators (name ∷ []) s.have (kept.name, tt);
        effects = Each-both (λ o. EffectsPass (is_constant names) o.effects) d.operators (new ∷ []) s.effects
            (operator-passes names k.signature head clauses h.has.1, tt);
      }

  -- an item of another word changes no operator
  unchanged : (k l : Declarations) (d e : DomainTree) → OperatorsStand names k d → l.operators ≡ k.operators → e.operators ≡ d.operators →
      OperatorsStand names l e
  unchanged k l d e s same kept = record {
    numbered = ap (map (λ (o : OperatorTree). o.name)) kept ∙ s.numbered ∙ ap (map (number_in names)) (sym same);
    distinct = subst AreDistinct (sym same) s.distinct;
    have = subst (Each (IsNamed names)) (sym same) s.have;
    effects = subst (Each (λ (o : OperatorTree). EffectsPass (is_constant names) o.effects)) (sym kept) s.effects;
  }

  item-stands : (k : Declarations) (d : DomainTree) (w : ItemWord) (rest : FormTrees) → OperatorsStand names k d → IsLawful names k w rest →
      OperatorsStand names (declared_with k w rest) (with_item names k.signature d w rest)
  item-stands k d item.Operator no_form s h = let shape = h.shape in cc
  item-stands k d item.Operator (more_forms head clauses) s h = operator-stands k d head clauses s h
  item-stands k d item.Predicate rest s h = unchanged k _ d _ s refl (append-nil d.operators)
  item-stands k d item.Function rest s h = unchanged k _ d _ s refl (append-nil d.operators)
  item-stands k d item.Define rest s h = unchanged k _ d _ s refl (append-nil d.operators)
  item-stands k d item.Defined rest s h = unchanged k _ d _ s refl (append-nil d.operators)
  item-stands k d item.Control rest s h = unchanged k _ d _ s refl (append-nil d.operators)
  item-stands k d item.Other rest s h = unchanged k _ d _ s refl (append-nil d.operators)

  -- a domain with items that break nothing, whatever they declare together
  pub record StandsAfter (d : DomainTree) : Type 0 where
    pub known : Declarations
    pub stands : OperatorsStand names known d

  items-stand : (k : Declarations) (d : DomainTree) (fs : FormTrees) → OperatorsStand names k d → HaveNames names fs →
      items_breaks k fs ≡ [] → StandsAfter (with_items names k d fs)
  items-stand k d no_form s has none = record { known = k; stands = s }
  items-stand k d (more_forms f fs) s has none =
      let parts = none-parts (item_breaks k f) (items_breaks (declared_after k f) fs) none in
      items-stand (declared_after k f) (with_item_form names k.signature d f) fs (form-stands f has.0 parts.0) has.1 parts.1
    where
      form-stands : (form : FormTree) → HasNames names form → item_breaks k form ≡ [] →
          OperatorsStand names (declared_after k form) (with_item_form names k.signature d form)
      form-stands (symbol text at) own wrong = cc
      form-stands (integer z at) own wrong = cc
      form-stands (list no_form at) own wrong = cc
      form-stands (list (more_forms (symbol text t) rest) at) own right =
          item-stands k d (item_word text) rest s (is-lawful names k (item_word text) rest at own.1 right)
      form-stands (list (more_forms (integer z t) rest) at) own wrong = cc
      form-stands (list (more_forms (list gs t) rest) at) own wrong = cc

  nothing-stands : (name : ℕ) → OperatorsStand names nothing_declared (empty_domain name)
  nothing-stands name = record { numbered = refl; distinct = λ i j text at_i at_j. absurd (none-some text at_i); have = tt; effects = tt }

  elements-stand : (fs : FormTrees) → HaveNames names fs → has_domain_shape fs ≡ true → domain_items_breaks fs ≡ [] →
      StandsAfter (domain_meant names fs)
  elements-stand no_form has shape none = cc
  elements-stand (more_forms first no_form) has shape none = cc
  elements-stand (more_forms first (more_forms (symbol text t) items)) has shape none =
      items-stand nothing_declared (empty_domain (number_in names text)) items (nothing-stands (number_in names text)) has.1.1 none
  elements-stand (more_forms first (more_forms (integer z t) items)) has shape none =
      record { known = nothing_declared; stands = nothing-stands 0 }
  elements-stand (more_forms first (more_forms (list gs t) items)) has shape none =
      record { known = nothing_declared; stands = nothing-stands 0 }

  -- the operators of a lawful domain file
  pub file-stands : (fs : FormTrees) → HaveNames names fs → domain_file_breaks fs ≡ [] → StandsAfter (domain_file_meant names fs)
  file-stands no_form has none = cc
  file-stands (more_forms f fs) has none = form-stands f has.0 (none-parts (domain_form_breaks f) _ none).0
    where
      form-stands : (form : FormTree) → HasNames names form → domain_form_breaks form ≡ [] →
          StandsAfter (domain_meant names (elements_of form))
      form-stands (symbol text at) own wrong = cc
      form-stands (integer z at) own wrong = cc
      form-stands (list es at) own right =
          let parts = none-parts (breaks_if (not (has_domain_shape es)) Shape at) (domain_items_breaks es) right in
          elements-stand es own (test-passes (has_domain_shape es) Shape at parts.0) parts.1
