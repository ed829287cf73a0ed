-- How many arguments things of a domain take, which is all that its trees depend on.
use Rattle.std.specs.Prelude.{◌≡◌, ℕ, List, length, map, take, slice_get, Some}
use Rattle.tl_syntax.specs.declared.domain.Domain.{Domain}

-- the number of arguments of each predicate, function and definition, by their positions
pub record Signature : Type 0 where
  pub predicates : List ℕ
  pub functions : List ℕ
  pub definitions : List ℕ

-- those of a domain; a definition takes as many arguments as it has parameters
abbrev pub signature_of : Domain → Signature
signature_of d = record {
  predicates = map (λ x. x.arity) d.predicates;
  functions = map (λ x. x.arity) d.functions;
  definitions = map (λ x. length x.params) d.definitions;
}

-- the same with the first n definitions alone
abbrev pub with_definitions_below : ℕ → Signature → Signature
with_definitions_below n g = record g { definitions = take n g.definitions }

-- the position is one of the list, and the thing there takes n arguments
abbrev pub Takes : List ℕ → ℕ → ℕ → Type 0
Takes arities p n = slice_get arities p ≡ Some n
