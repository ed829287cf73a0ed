-- Calls, variables and arguments that break nothing: what is called takes its arguments, and a variable has a slot of its scope.
use Rattle.std.proofs.Common.{◌≡◌, ◌<◌, ◌≤◌, ℕ, List, [], Bool, true, false, not, length, map, Some, None, refl, sym, ap, ◌∙◌, arith, ◌==◌}
use Rattle.std.proofs.Common.{subst}
use Rattle.std.specs.Prelude.{Option, ◌&&◌, is_some, unwrap_or, if◌then◌else◌, flat_map}
use Rattle.tl_syntax.specs.declared.value.Value.TheVariants.{Sym}
use Rattle.std.specs.List.{slice_get, list_any}
use Rattle.std.specs.Option.{option_map, option_map_or}
use Rattle.std.specs.Str.{bytes_eq}
use Rattle.std.proofs.lemmas.Bool.{eqb-true}
use Rattle.std.proofs.lemmas.Option.{slice_get-map}
use Rattle.std.proofs.lemmas.List.Quantifiers.{position-Some}
use Rattle.tl_sexpr.specs.Tree.{FormTree, FormTrees, symbol, integer, list, no_form, more_forms}
use Rattle.tl_syntax.specs.declared.variable.Arg.{Arg}
use Rattle.tl_syntax.specs.declared.variable.Arg.TheVariants as arg
use Rattle.tl_syntax.specs.Fits.{ArgFits, ArgsFit}
use Rattle.tl_syntax.specs.FreeVariables.{arg_slots}
use Rattle.tl_syntax.specs.Lists.{Each}
use Rattle.tl_syntax.specs.Named.{ArgIsNamed}
use Rattle.tl_syntax.specs.Signature as domain
use Rattle.tl_syntax.specs.Signature.{Takes}
use Rattle.tl_rules.specs.declared.rule.Rule.TheVariants.{Arity, Unbound}
use Rattle.tl_rules.specs.Named.{HasNames, HaveNames}
use Rattle.tl_rules.specs.Parts.{is_variable, count}
use Rattle.tl_rules.specs.Rules.{breaks_if}
use Rattle.tl_rules.specs.Symbols.{number_in}
use Rattle.tl_rules.proofs.NamesHave.{number-below}
use Rattle.tl_formulas.specs.declared.signature.NameSignature.{NameSignature}
use Rattle.tl_formulas.specs.Signatures.{Table, Scope, place_of, has_arity, is_in, slot_of, call_breaks_at, call_breaks, unbound_breaks}
use Rattle.tl_formulas.specs.Goals.{arguments_breaks}
use Rattle.tl_formulas.specs.MeaningOfTerms.{symbol_meant, argument_meant, arguments_meant}
use Rattle.tl_formulas.proofs.KeepsLists.{none-parts, test-passes, Each-implies, Each-flat}

-- the numbers of arguments of a table, and of what is declared
abbrev pub arities : Table → List ℕ
arities table = map (λ e. e.1) table

abbrev pub seen : NameSignature → domain.Signature
seen g = record { predicates = arities g.predicates; functions = arities g.functions; definitions = arities g.definitions }

-- no variable is the name of a predicate or of a function
pub record NamesOnly (g : NameSignature) : Type 0 where
  pub predicates : (text : List ℕ) → is_variable text ≡ true → is_in g.predicates text ≡ false
  pub functions : (text : List ℕ) → is_variable text ≡ true → is_in g.functions text ≡ false

-- what stands at a place takes as many arguments as the test says
pub arity-takes : (table : Table) (i n : ℕ) → has_arity table i n ≡ true → Takes (arities table) i n
arity-takes table i n h = slice_get-map (λ e. e.1) table i ∙ by_item (slice_get table i) h
  where
    by_item : (item : Option (List ℕ × ℕ)) → option_map_or (λ e. e.1 == n) item false ≡ true → option_map (λ e. e.1) item ≡ Some n
    by_item None test = cc
    by_item (Some e) test = ap (λ (k : ℕ). Some k) (eqb-true e.1 n test)

pub called-at-takes : (table : Table) (found : Option ℕ) (n at : ℕ) → call_breaks_at table found n at ≡ [] →
    Takes (arities table) (unwrap_or found 0) n
called-at-takes table None n at none = cc
called-at-takes table (Some i) n at none = arity-takes table i n (test-passes (has_arity table i n) Arity at none)

pub called-takes : (table : Table) (text : List ℕ) (n at : ℕ) → call_breaks table text n at ≡ [] →
    Takes (arities table) (unwrap_or (place_of table text) 0) n
called-takes table text n at none = called-at-takes table (place_of table text) n at none

-- what is called is in the table
pub called-is-in : (table : Table) (text : List ℕ) (n at : ℕ) → call_breaks table text n at ≡ [] → is_in table text ≡ true
called-is-in table text n at none = by_place (place_of table text) none
  where
    by_place : (found : Option ℕ) → call_breaks_at table found n at ≡ [] → is_some found ≡ true
    by_place None h = cc
    by_place (Some i) h = refl

-- a variable in scope has a slot of the scope
pub slot-below : (scope : Scope) (text : List ℕ) (k : ℕ) → slot_of scope text ≡ Some k → k < length scope
slot-below scope text k is = (position-Some (bytes_eq text) scope k [] is).0

-- an argument: a slot of the first k, and a name of the first n
pub record ArgKeeps (n k : ℕ) (x : Arg) : Type 0 where
  pub fits : ArgFits x
  pub below : Each (λ q. q < k) (arg_slots x)
  pub named : ArgIsNamed n x

pub symbol-keeps : (names : List (List ℕ)) (scope : Scope) (text : List ℕ) (at : ℕ) → length scope ≤ 32 → list_any (bytes_eq text) names ≡
    true → unbound_breaks scope (symbol text at) ≡ [] → ArgKeeps (length names) (length scope) (symbol_meant names scope text)
symbol-keeps names scope text at few has none = by_test (is_variable text) (slot_of scope text) refl none
  where
    by_test : (b : Bool) (found : Option ℕ) → slot_of scope text ≡ found → breaks_if (b && not (is_some found)) Unbound at ≡ [] →
        ArgKeeps (length names) (length scope) (if b then arg.Var (record { slot = unwrap_or found 0; name = number_in names text }) else
        arg.Val (Sym (number_in names text)))
    by_test true None is h = cc
    by_test true (Some k) is h = record {
      fits = omega (arith, slot-below scope text k is);
      below =
          (slot-below scope text k is, tt);
      named = number-below names text has;
    }
    by_test false found is h = record { fits = tt; below = tt; named = number-below names text has }

pub argument-keeps : (names : List (List ℕ)) (scope : Scope) (f : FormTree) → length scope ≤ 32 → HasNames names f →
    unbound_breaks scope f ≡ [] → ArgKeeps (length names) (length scope) (argument_meant names scope f)
argument-keeps names scope (symbol text at) few has none = symbol-keeps names scope text at few has none
argument-keeps names scope (integer z at) few has none = record { fits = tt; below = tt; named = tt }
argument-keeps names scope (list fs at) few has none = record { fits = tt; below = tt; named = tt }

pub arguments-keep : (names : List (List ℕ)) (scope : Scope) (fs : FormTrees) → length scope ≤ 32 → HaveNames names fs →
    arguments_breaks scope fs ≡ [] → Each (ArgKeeps (length names) (length scope)) (arguments_meant names scope fs)
arguments-keep names scope no_form few has none = tt
arguments-keep names scope (more_forms f fs) few has none =
    let parts = none-parts (unbound_breaks scope f) (arguments_breaks scope fs) none in
    (argument-keeps names scope f few has.0 parts.0, arguments-keep names scope fs few has.1 parts.1)

pub arguments-count : (names : List (List ℕ)) (scope : Scope) (fs : FormTrees) → length (arguments_meant names scope fs) ≡ count fs
arguments-count names scope no_form = refl
arguments-count names scope (more_forms f fs) = omega (arith, arguments-count names scope fs)

-- the three facts of arguments one by one
pub args-fit : (n k : ℕ) (xs : List Arg) → Each (ArgKeeps n k) xs → Each ArgFits xs
args-fit n k xs h = Each-implies (ArgKeeps n k) ArgFits (λ x r. r.fits) xs h

pub args-named : (n k : ℕ) (xs : List Arg) → Each (ArgKeeps n k) xs → Each (ArgIsNamed n) xs
args-named n k xs h = Each-implies (ArgKeeps n k) (ArgIsNamed n) (λ x r. r.named) xs h

pub args-below : (n k : ℕ) (xs : List Arg) → Each (ArgKeeps n k) xs → Each (λ q. q < k) (flat_map arg_slots xs)
args-below n k xs h = Each-flat (λ q. q < k) arg_slots xs (Each-implies (ArgKeeps n k) (λ x. Each (λ q. q < k) (arg_slots x))
    (λ x r. r.below) xs h)

-- the arguments that forms stand for fit where their number is taken
pub arguments-fit : (names : List (List ℕ)) (scope : Scope) (fs : FormTrees) (taken : List ℕ) (p : ℕ) → Takes taken p (count fs) →
    Each (ArgKeeps (length names) (length scope)) (arguments_meant names scope fs) → ArgsFit taken p (arguments_meant names scope fs)
arguments-fit names scope fs taken p takes h = (
  subst (λ (n : ℕ). Takes taken p n) (sym (arguments-count names scope fs)) takes,
  args-fit _ _ _ h,
)
