-- Terms and arguments mean something exactly where they break no rule.
use Rattle.std.proofs.Common.{◌≡◌, ◌==◌, ◌+◌, ℕ, List, [], ◌∷◌, ◌++◌, refl, sym, ap, ◌∙◌, arith}
use Rattle.std.proofs.lemmas.Bool.Decides.{nat_tests}
use Rattle.std.specs.Prelude.{Bool, true, false, ◌&&◌, ◌||◌, not, Option, Some, None, option_and_then, if◌then◌else◌, is_some, unwrap_or}
use Rattle.std.specs.Option.{option_map}
use Rattle.tl_sexpr.specs.Tree.{FormTree, FormTrees, symbol, integer, list, no_form, more_forms}
use Rattle.tl_syntax.specs.declared.value.Op.{Op}
use Rattle.tl_syntax.specs.declared.value.Value.TheVariants.{Sym}
use Rattle.tl_syntax.specs.declared.variable.Arg.{Arg}
use Rattle.tl_syntax.specs.declared.variable.Arg.TheVariants as arg
use Rattle.tl_syntax.specs.Trees.{TermTree, TermTrees, place, more_terms}
use Rattle.tl_rules.specs.declared.rule.Rule.TheVariants.{Shape, Arity, Unbound}
use Rattle.tl_rules.specs.Both.{option_both}
use Rattle.tl_rules.specs.Parts.{count, is_variable, is_list, any_list}
use Rattle.tl_rules.specs.Rules.{Break, breaks_if}
use Rattle.tl_rules.specs.Symbols.{number_in}
use Rattle.tl_rules.specs.Unbroken.{where_unbroken}
use Rattle.tl_rules.proofs.Unbroken.{map-unbroken, both-unbroken, then-unbroken}
use Rattle.tl_formulas.specs.Goals.{arguments_breaks}
use Rattle.tl_formulas.specs.MeaningOfTerms.{symbol_meant, argument_meant, arguments_meant, term_of_argument, call_meant, term_meant}
use Rattle.tl_formulas.specs.MeaningOfTerms.{terms_meant}
use Rattle.tl_formulas.specs.PartialTerms.{symbol_meaning, argument_meaning, arguments_meaning, place_for, call_meaning, term_meaning}
use Rattle.tl_formulas.specs.PartialTerms.{terms_meaning}
use Rattle.tl_formulas.specs.Signatures.{Table, Scope, place_of, has_arity, slot_of, call_breaks, call_breaks_at, unbound_breaks}
use Rattle.tl_formulas.specs.Terms.{term_call_breaks, term_breaks, terms_breaks}
use Rattle.tl_formulas.specs.Words.{operation_named}

-- there are more than one, and more than two
pub more-one : (n : ℕ) → (1 + (1 + n) == 1) ≡ false
more-one n = grind (arith, nat_tests)

pub more-two : (n : ℕ) → (1 + (1 + (1 + n)) == 2) ≡ false
more-two n = grind (arith, nat_tests)

-- a list of another length has no shape
pub other-shape : {A : Type 0} (b : Bool) (at : ℕ) (a : A) → b ≡ false → None ≡ where_unbroken (breaks_if (not b) Shape at) a
other-shape b at a h = ap (λ c. where_unbroken (breaks_if (not c) Shape at) a) (sym h)

symbol-mean : (names : List (List ℕ)) (scope : Scope) (text : List ℕ) (at : ℕ) → symbol_meaning names scope text ≡
    where_unbroken (unbound_breaks scope (symbol text at)) (symbol_meant names scope text)
symbol-mean names scope text at = cases (is_variable text) (slot_of scope text)
  where
    n : ℕ
    n = number_in names text

    cases : (v : Bool) (slot : Option ℕ) → (if v then option_map (λ s. arg.Var (record { slot = s; name = n })) slot else Some
        (arg.Val (Sym n))) ≡ where_unbroken (breaks_if (v && not (is_some slot)) Unbound at)
        (if v then arg.Var (record { slot = unwrap_or slot 0; name = n }) else arg.Val (Sym n))
    cases true None = refl
    cases true (Some s) = refl
    cases false slot = refl

-- of an argument, a list has no shape
pub argument-mean : (names : List (List ℕ)) (scope : Scope) (f : FormTree) (at : ℕ) → argument_meaning names scope f ≡
    where_unbroken (breaks_if (is_list f) Shape at ++ unbound_breaks scope f) (argument_meant names scope f)
argument-mean names scope (symbol text _) at = symbol-mean names scope text _
argument-mean names scope (integer z _) at = refl
argument-mean names scope (list fs _) at = refl

pub arguments-mean : (names : List (List ℕ)) (scope : Scope) (fs : FormTrees) (at : ℕ) → arguments_meaning names scope fs ≡
    where_unbroken (breaks_if (any_list fs) Shape at ++ arguments_breaks scope fs) (arguments_meant names scope fs)
arguments-mean names scope no_form at = refl
arguments-mean names scope (more_forms f fs) at =
    (λ i. option_both (λ x xs. x ∷ xs) (argument-mean names scope f at i) (arguments-mean names scope fs at i))
    ∙ cases (is_list f) (any_list fs) (unbound_breaks scope f) (arguments_breaks scope fs)
  where
    x : Arg
    x = argument_meant names scope f

    ys : List Arg
    ys = arguments_meant names scope fs

    cases : (a b : Bool) (us vs : List Break) → option_both (λ y zs. y ∷ zs) (where_unbroken (breaks_if a Shape at ++ us) x)
        (where_unbroken (breaks_if b Shape at ++ vs) ys) ≡ where_unbroken (breaks_if (a || b) Shape at ++ (us ++ vs)) (x ∷ ys)
    cases true b us vs = refl
    cases false true [] vs = refl
    cases false true (u ∷ us) vs = refl
    cases false false us vs = both-unbroken (λ y zs. y ∷ zs) us vs x ys

pub place-mean : (table : Table) (text : List ℕ) (n at : ℕ) → place_for table text n ≡
    where_unbroken (call_breaks table text n at) (unwrap_or (place_of table text) 0)
place-mean table text n at = cases (place_of table text)
  where
    tested : (b : Bool) (i : ℕ) → (if b then Some i else None) ≡ where_unbroken (breaks_if (not b) Arity at) i
    tested true i = refl
    tested false i = refl

    cases : (found : Option ℕ) → option_and_then (λ i. if has_arity table i n then Some i else None) found ≡
        where_unbroken (call_breaks_at table found n at) (unwrap_or found 0)
    cases None = refl
    cases (Some i) = tested (has_arity table i n) i

call-mean : (names : List (List ℕ)) (functions : Table) (scope : Scope) (op : Option Op) (text : List ℕ) (rest : FormTrees) (at : ℕ) →
    call_meaning op (place_for functions text (count rest)) at (terms_meant names functions scope rest) ≡
    where_unbroken (term_call_breaks functions op text rest at) (call_meant op (place_of functions text)
    (terms_meant names functions scope rest) at)
unfolding term_meant
call-mean names functions scope None text rest at =
    let k : ℕ → TermTree = λ i. place i (terms_meant names functions scope rest) in
    ap (option_map k) (place-mean functions text (count rest) at) ∙ map-unbroken k (call_breaks functions text (count rest) at) _
call-mean names functions scope (Some op) text no_form at = refl
call-mean names functions scope (Some op) text (more_forms a no_form) at = refl
call-mean names functions scope (Some op) text (more_forms a (more_forms b no_form)) at = refl
call-mean names functions scope (Some op) text (more_forms a (more_forms b (more_forms c fs))) at = other-shape _ at _ (more-two (count fs))

mutual
  unfolding term_breaks term_meant term_meaning

  pub term-mean : (names : List (List ℕ)) (functions : Table) (scope : Scope) (f : FormTree) → term_meaning names functions scope f ≡
      where_unbroken (term_breaks functions scope f) (term_meant names functions scope f)
  term-mean names functions scope (symbol text at) =
      ap (option_map term_of_argument) (symbol-mean names scope text at) ∙
      map-unbroken term_of_argument (unbound_breaks scope (symbol text at)) (symbol_meant names scope text)
  term-mean names functions scope (integer z at) = refl
  term-mean names functions scope (list no_form at) = refl
  term-mean names functions scope (list (more_forms (symbol text _) rest) at) =
      let k : TermTrees → Option TermTree = call_meaning (operation_named text) (place_for functions text (count rest)) at in
      ap (option_and_then k) (terms-mean names functions scope rest)
      ∙ then-unbroken k (term_call_breaks functions (operation_named text) text rest at) (terms_breaks functions scope rest) _ _
      (call-mean names functions scope (operation_named text) text rest at)
  term-mean names functions scope (list (more_forms (integer z _) rest) at) = refl
  term-mean names functions scope (list (more_forms (list fs _) rest) at) = refl

  pub terms-mean : (names : List (List ℕ)) (functions : Table) (scope : Scope) (fs : FormTrees) → terms_meaning names functions scope fs ≡
      where_unbroken (terms_breaks functions scope fs) (terms_meant names functions scope fs)
  terms-mean names functions scope no_form = refl
  terms-mean names functions scope (more_forms f fs) =
      (λ i. option_both more_terms (term-mean names functions scope f i) (terms-mean names functions scope fs i))
      ∙ both-unbroken more_terms (term_breaks functions scope f) (terms_breaks functions scope fs) (term_meant names functions scope f)
      (terms_meant names functions scope fs)
