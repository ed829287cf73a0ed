-- A term that breaks nothing fits what is declared, has the slots of its scope, and is named.
use Rattle.std.proofs.Common.{◌≡◌, ◌<◌, ◌≤◌, ℕ, List, [], length, Some, None, refl, sym, arith as linear, subst}
use Rattle.std.specs.Prelude.{Option, ℤ, pos, unwrap_or}
use Rattle.tl_sexpr.specs.Tree.{FormTree, FormTrees, symbol, integer, list, no_form, more_forms}
use Rattle.tl_syntax.specs.declared.value.Op.{Op}
use Rattle.tl_syntax.specs.declared.value.Value.TheVariants.{Int}
use Rattle.tl_syntax.specs.declared.variable.Arg.{Arg}
use Rattle.tl_syntax.specs.declared.variable.Arg.TheVariants as arg
use Rattle.tl_syntax.specs.Fits.{term_count, TermFits, TermsFit}
use Rattle.tl_syntax.specs.FreeVariables.{term_slots, terms_slots}
use Rattle.tl_syntax.specs.Lists.{Each}
use Rattle.tl_syntax.specs.Named.{TermIsNamed, TermsAreNamed}
use Rattle.tl_syntax.specs.Signature as domain
use Rattle.tl_syntax.specs.Signature.{Takes}
use Rattle.tl_syntax.specs.Trees.{TermTree, TermTrees, value, no_term, more_terms}
use Rattle.tl_rules.specs.Named.{HasNames, HaveNames}
use Rattle.tl_rules.specs.Parts.{count}
use Rattle.tl_formulas.specs.declared.signature.NameSignature.{NameSignature}
use Rattle.tl_formulas.specs.Words.{operation_named}
use Rattle.tl_formulas.specs.Signatures.{Table, Scope, place_of}
use Rattle.tl_formulas.specs.Terms.{term_call_breaks, term_breaks, term_list_breaks, terms_breaks}
use Rattle.tl_formulas.specs.MeaningOfTerms.{term_of_argument, first_term, second_term, call_meant, term_meant, term_list_meant}
use Rattle.tl_formulas.specs.MeaningOfTerms.{terms_meant}
use Rattle.tl_formulas.proofs.KeepsLists.{none-parts, Each-both, Each-parts}
use Rattle.tl_formulas.proofs.KeepsCalls.{seen, called-takes, ArgKeeps, symbol-keeps, arities}

-- a term, and terms: they fit, their slots are of the first k, and their names of the first n
pub record TermKeeps (g : domain.Signature) (n k : ℕ) (t : TermTree) : Type 0 where
  pub fits : TermFits g t
  pub below : Each (λ q. q < k) (term_slots t)
  pub named : TermIsNamed n t

pub record TermsKeep (g : domain.Signature) (n k : ℕ) (ts : TermTrees) : Type 0 where
  pub fits : TermsFit g ts
  pub below : Each (λ q. q < k) (terms_slots ts)
  pub named : TermsAreNamed n ts

argument-term : (g : domain.Signature) (n k : ℕ) (x : Arg) → ArgKeeps n k x → TermKeeps g n k (term_of_argument x)
unfolding TermFits term_slots TermIsNamed
argument-term g n k (arg.Var v) h = record { fits = h.fits; below = h.below; named = h.named }
argument-term g n k (arg.Val v) h = record { fits = tt; below = tt; named = h.named }

number-keeps : (g : domain.Signature) (n k : ℕ) (z : ℤ) → TermKeeps g n k (value (Int z))
unfolding TermFits term_slots TermIsNamed
number-keeps g n k z = record { fits = tt; below = tt; named = tt }

pub first-keeps : (g : domain.Signature) (n k : ℕ) (ts : TermTrees) → TermsKeep g n k ts → TermKeeps g n k (first_term ts)
unfolding TermFits term_slots TermIsNamed
first-keeps g n k no_term h = number-keeps g n k (pos 0)
first-keeps g n k (more_terms t ts) h = record { fits = h.fits.0; below = (Each-parts (λ q. q < k) _ _ h.below).0; named = h.named.0 }

pub later-keep : (g : domain.Signature) (n k : ℕ) (t : TermTree) (ts : TermTrees) → TermsKeep g n k (more_terms t ts) → TermsKeep g n k ts
unfolding TermFits term_slots TermIsNamed
later-keep g n k t ts h = record { fits = h.fits.1; below = (Each-parts (λ q. q < k) _ _ h.below).1; named = h.named.1 }

pub second-keeps : (g : domain.Signature) (n k : ℕ) (ts : TermTrees) → TermsKeep g n k ts → TermKeeps g n k (second_term ts)
second-keeps g n k no_term h = number-keeps g n k (pos 0)
second-keeps g n k (more_terms t ts) h = first-keeps g n k ts (later-keep g n k t ts h)

-- the term of a list that breaks nothing itself and whose terms keep all this
call-keeps : (g : NameSignature) (n k : ℕ) (op : Option Op) (text : List ℕ) (rest : FormTrees) (at : ℕ) (ts : TermTrees) →
    term_call_breaks g.functions op text rest at ≡ [] → term_count ts ≡ count rest → TermsKeep (seen g) n k ts →
    TermKeeps (seen g) n k (call_meant op (place_of g.functions text) ts at)
unfolding TermFits term_slots TermIsNamed
call-keeps g n k (Some op) text rest at ts none many h =
    let first = first-keeps (seen g) n k ts h in
    let second = second-keeps (seen g) n k ts h in
    record { fits = (first.fits, second.fits); below = Each-both _ _ _ first.below second.below; named = (first.named, second.named) }
call-keeps g n k None text rest at ts none many h = record {
  fits = (
    subst (λ (m : ℕ). Takes (arities g.functions) (unwrap_or (place_of g.functions text) 0) m) (sym many)
        (called-takes g.functions text (count rest) at none),
    h.fits,
  );
  below = h.below;
  named = h.named;
}

pub terms-count : (names : List (List ℕ)) (functions : Table) (scope : Scope) (fs : FormTrees) →
    term_count (terms_meant names functions scope fs) ≡ count fs
unfolding term_count terms_meant
terms-count names functions scope no_form = refl
terms-count names functions scope (more_forms f fs) = omega (linear, terms-count names functions scope fs)

mutual
  unfolding term_breaks term_meant TermFits term_slots TermIsNamed

  pub term-keeps : (names : List (List ℕ)) (g : NameSignature) (scope : Scope) (f : FormTree) → length scope ≤ 32 → HasNames names f →
      term_breaks g.functions scope f ≡ [] → TermKeeps (seen g) (length names) (length scope) (term_meant names g.functions scope f)
  term-keeps names g scope (symbol text at) few has none = argument-term (seen g) _ _ _ (symbol-keeps names scope text at few has none)
  term-keeps names g scope (integer z at) few has none = number-keeps (seen g) _ _ z
  term-keeps names g scope (list fs at) few has none = term_list-keeps names g scope fs at few has none

  term_list-keeps : (names : List (List ℕ)) (g : NameSignature) (scope : Scope) (fs : FormTrees) (at : ℕ) → length scope ≤ 32 →
      HaveNames names fs → term_list_breaks g.functions scope fs at ≡ [] →
      TermKeeps (seen g) (length names) (length scope) (term_list_meant names g.functions scope fs at)
  term_list-keeps names g scope no_form at few has none = cc
  term_list-keeps names g scope (more_forms (symbol text s) rest) at few has none =
      let parts = none-parts (term_call_breaks g.functions (operation_named text) text rest at)
      (terms_breaks g.functions scope rest) none in
      call-keeps g _ _ (operation_named text) text rest at (terms_meant names g.functions scope rest) parts.0
      (terms-count names g.functions scope rest) (terms-keep names g scope rest few has.1 parts.1)
  term_list-keeps names g scope (more_forms (integer z s) rest) at few has none = cc
  term_list-keeps names g scope (more_forms (list fs s) rest) at few has none = cc

  pub terms-keep : (names : List (List ℕ)) (g : NameSignature) (scope : Scope) (fs : FormTrees) → length scope ≤ 32 → HaveNames names fs →
      terms_breaks g.functions scope fs ≡ [] → TermsKeep (seen g) (length names) (length scope) (terms_meant names g.functions scope fs)
  terms-keep names g scope no_form few has none = record { fits = tt; below = tt; named = tt }
  terms-keep names g scope (more_forms f fs) few has none =
      let parts = none-parts (term_breaks g.functions scope f) (terms_breaks g.functions scope fs) none in
      let first = term-keeps names g scope f few has.0 parts.0 in
      let later = terms-keep names g scope fs few has.1 parts.1 in
      record { fits = (first.fits, later.fits); below = Each-both _ _ _ first.below later.below; named = (first.named, later.named) }
