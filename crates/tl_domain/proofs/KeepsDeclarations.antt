-- Items that break nothing, and the predicates and functions that they declare.
use Rattle.std.proofs.Common.{◌≡◌, ◌≤◌, ℕ, List, [], ◌∷◌, ◌++◌, true, false, not, length, refl, sym, ap, ◌∙◌, Some, None}
use Rattle.std.specs.Prelude.{ℤ, pos, negsuc, Option, is_some, nat_lt}
use Rattle.std.specs.List.{list_any}
use Rattle.std.specs.Str.{bytes_eq}
use Rattle.std.proofs.lemmas.Bool.{true≢false, false_from_ne_true, and_parts, or_parts, or_from, not-true, ltb-false}
use Rattle.std.proofs.lemmas.List.Quantifiers.{position-Some}
use Rattle.std.proofs.lemmas.List.Folds.{list_any_at}
use Rattle.std.proofs.lemmas.Slice.Eq.{bytes_eq-Decides}
use Rattle.tl_sexpr.specs.Tree.{FormTrees, symbol, integer, list, no_form, more_forms}
use Rattle.tl_syntax.specs.Kept.{DeclarationKeeps}
use Rattle.tl_syntax.specs.Lists.{Each}
use Rattle.tl_rules.specs.declared.rule.Rule.TheVariants.{Shape, Twice, Limit}
use Rattle.tl_rules.specs.Named.{HaveNames}
use Rattle.tl_rules.specs.Parts.{is_variable, is_name, natural, is_within}
use Rattle.tl_rules.specs.Rules.{breaks_if}
use Rattle.tl_rules.proofs.NamesHave.{number-below}
use Rattle.tl_formulas.specs.declared.signature.NameSignature.{NameSignature}
use Rattle.tl_formulas.specs.Signatures.{Table, place_of, is_in, is_taken}
use Rattle.tl_formulas.proofs.KeepsLists.{none-parts, test-fails, test-passes}
use Rattle.tl_formulas.proofs.KeepsCalls.{NamesOnly}
use Rattle.tl_domain.specs.Declarations.{Declarations}
use Rattle.tl_domain.specs.Words.{ItemWord}
use Rattle.tl_domain.specs.Words as item
use Rattle.tl_domain.specs.Operators.{head_name_breaks}
use Rattle.tl_domain.specs.Items.{has_declaration_shape, has_item_shape, is_full, is_second_control, arity_breaks, declaration_breaks}
use Rattle.tl_domain.specs.Items.{declaration_of, item_list_breaks, item_parts_breaks, signature_after}
use Rattle.tl_domain.specs.MeaningOfItems.{declared_meant, predicates_of_item, functions_of_item}

-- an item that breaks nothing, by its first word and the elements after it
pub record IsLawful (names : List (List ℕ)) (k : Declarations) (w : ItemWord) (rest : FormTrees) : Type 0 where
  pub has : HaveNames names rest
  pub shape : has_item_shape w rest ≡ true
  pub room : is_full k w ≡ false
  pub parts : item_parts_breaks k w rest ≡ []

pub is-lawful : (names : List (List ℕ)) (k : Declarations) (w : ItemWord) (rest : FormTrees) (at : ℕ) → HaveNames names rest →
    item_list_breaks k w rest at ++ item_parts_breaks k w rest ≡ [] → IsLawful names k w rest
is-lawful names k w rest at has none =
    let parts = none-parts (item_list_breaks k w rest at) (item_parts_breaks k w rest) none in
    let own = none-parts (breaks_if (not (has_item_shape w rest)) Shape at) _ parts.0 in
    let later = none-parts (breaks_if (is_second_control k w) Twice at) (breaks_if (is_full k w) Limit at) own.1 in
    record {
      has = has;
      shape = test-passes (has_item_shape w rest) Shape at own.0;
      room =
          test-fails (is_full k w) Limit at later.1;
      parts = parts.1;
    }

-- a lawful count is at least the first and at most the second number
pub within : (least most : ℕ) (z : ℤ) → is_within least most z ≡ true → (least ≤ natural z) × (natural z ≤ most)
within least most (pos n) h =
    let parts = and_parts (not (nat_lt n least)) (not (nat_lt most n)) h in
    (ltb-false n least (not-true (nat_lt n least) parts.0), ltb-false most n (not-true (nat_lt most n) parts.1))
within least most (negsuc n) h = cc

-- a declaration
pub record DeclaredKeeps (names : List (List ℕ)) (rest : FormTrees) : Type 0 where
  pub keeps : Each (DeclarationKeeps (length names)) (declared_meant names rest)
  pub plain : is_variable (declaration_of rest).0 ≡ false

declaration-keeps : (names : List (List ℕ)) (g : NameSignature) (rest : FormTrees) → HaveNames names rest → has_declaration_shape rest ≡
    true → declaration_breaks g rest ≡ [] → DeclaredKeeps names rest
declaration-keeps names g no_form has shape none = cc
declaration-keeps names g (more_forms f no_form) has shape none = cc
declaration-keeps names g (more_forms f (more_forms n (more_forms i fs))) has shape none = cc
declaration-keeps names g (more_forms (integer z s) (more_forms n no_form)) has shape none = cc
declaration-keeps names g (more_forms (list gs s) (more_forms n no_form)) has shape none = cc
declaration-keeps names g (more_forms (symbol text s) (more_forms (symbol other t) no_form)) has shape none = let parts =
    and_parts (is_name (symbol text s)) false shape in cc
declaration-keeps names g (more_forms (symbol text s) (more_forms (list gs t) no_form)) has shape none = let parts =
    and_parts (is_name (symbol text s)) false shape in cc
declaration-keeps names g (more_forms (symbol text s) (more_forms (integer z t) no_form)) has shape none =
    let shapes = and_parts (is_name (symbol text s)) true shape in
    let parts = none-parts (head_name_breaks (is_taken g) (symbol text s)) (arity_breaks (integer z t)) none in
    let arity = within 0 8 z (test-passes (is_within 0 8 z) Limit t parts.1) in
    record { keeps = (record { named = number-below names text has.0; few = arity.1 }, tt); plain = not-true (is_variable text) shapes.0 }

pub predicates-keep : (names : List (List ℕ)) (k : Declarations) (w : ItemWord) (rest : FormTrees) → IsLawful names k w rest →
    Each (DeclarationKeeps (length names)) (predicates_of_item names w rest)
predicates-keep names k item.Predicate rest h = (declaration-keeps names k.signature rest h.has h.shape h.parts).keeps
predicates-keep names k _ rest h = tt

pub functions-keep : (names : List (List ℕ)) (k : Declarations) (w : ItemWord) (rest : FormTrees) → IsLawful names k w rest →
    Each (DeclarationKeeps (length names)) (functions_of_item names w rest)
functions-keep names k item.Function rest h = (declaration-keeps names k.signature rest h.has h.shape h.parts).keeps
functions-keep names k _ rest h = tt

-- no variable is a name of the table
pub record HasNoVariables (table : Table) : Type 0 where
  pub absent : (text : List ℕ) → is_variable text ≡ true → list_any (λ e. bytes_eq text e.0) table ≡ false

not-in : (table : Table) (text : List ℕ) → list_any (λ e. bytes_eq text e.0) table ≡ false → is_in table text ≡ false
not-in table text none = by_place (place_of table text) refl
  where
    by_place : (found : Option ℕ) → place_of table text ≡ found → is_some found ≡ false
    by_place None is = refl
    by_place (Some n) is =
        let at = position-Some (λ (e : List ℕ × ℕ). bytes_eq text e.0) table n ([], 0) is in
        absurd (true≢false (sym (list_any_at (λ (e : List ℕ × ℕ). bytes_eq text e.0) table n ([], 0) at.0 at.1) ∙ none))

pub names-only : (g : NameSignature) → HasNoVariables g.predicates → HasNoVariables g.functions → NamesOnly g
names-only g p f = record {
  predicates = λ text variable. not-in g.predicates text (p.absent text variable);
  functions = λ text variable.
      not-in g.functions text (f.absent text variable);
}

pushed : (table : Table) (text : List ℕ) (n : ℕ) → is_variable text ≡ false → HasNoVariables table →
    HasNoVariables (table ++ (text, n) ∷ [])
pushed table text n plain h = record { absent = λ other variable. later other variable table (h.absent other variable) }
  where
    differs : (other : List ℕ) → is_variable other ≡ true → bytes_eq other text ≡ false
    differs other variable = false_from_ne_true (bytes_eq other text) (λ same.
        true≢false (sym variable ∙ ap is_variable ((bytes_eq-Decides other text).0 same) ∙ plain))

    later : (other : List ℕ) → is_variable other ≡ true → (es : Table) → list_any (λ e. bytes_eq other e.0) es ≡ false →
        list_any (λ e. bytes_eq other e.0) (es ++ (text, n) ∷ []) ≡ false
    later other variable [] none = or_from (bytes_eq other text) false (differs other variable) refl
    later other variable (e ∷ es) none = let parts = or_parts (bytes_eq other e.0) (list_any (λ d. bytes_eq other d.0) es) none in
        or_from (bytes_eq other e.0) _ parts.0 (later other variable es parts.1)

pub predicates-plain : (names : List (List ℕ)) (k : Declarations) (w : ItemWord) (rest : FormTrees) → IsLawful names k w rest →
    HasNoVariables k.signature.predicates → HasNoVariables (signature_after k.signature w rest).predicates
predicates-plain names k item.Predicate rest h before = pushed k.signature.predicates (declaration_of rest).0 (declaration_of rest).1
    (declaration-keeps names k.signature rest h.has h.shape h.parts).plain before
predicates-plain names k item.Function rest h before = before
predicates-plain names k item.Define no_form h before = before
predicates-plain names k item.Define (more_forms head rest) h before = before
predicates-plain names k item.Defined no_form h before = before
predicates-plain names k item.Defined (more_forms n no_form) h before = before
predicates-plain names k item.Defined (more_forms n (more_forms head rest)) h before = before
predicates-plain names k item.Operator rest h before = before
predicates-plain names k item.Control rest h before = before
predicates-plain names k item.Other rest h before = before

pub functions-plain : (names : List (List ℕ)) (k : Declarations) (w : ItemWord) (rest : FormTrees) → IsLawful names k w rest →
    HasNoVariables k.signature.functions → HasNoVariables (signature_after k.signature w rest).functions
functions-plain names k item.Function rest h before = pushed k.signature.functions (declaration_of rest).0 (declaration_of rest).1
    (declaration-keeps names k.signature rest h.has h.shape h.parts).plain before
functions-plain names k item.Predicate rest h before = before
functions-plain names k item.Define no_form h before = before
functions-plain names k item.Define (more_forms head rest) h before = before
functions-plain names k item.Defined no_form h before = before
functions-plain names k item.Defined (more_forms n no_form) h before = before
functions-plain names k item.Defined (more_forms n (more_forms head rest)) h before = before
functions-plain names k item.Operator rest h before = before
functions-plain names k item.Control rest h before = before
functions-plain names k item.Other rest h before = before
