-- Bytes that grow.
use Rattle.std.proofs.Common.{◌≡◌, ℕ, ◌<◌, List, [], ◌++◌, length, map, sym, append_assoc, arith}
use Rattle.std.proofs.lemmas.List.{append-nil, length-map}
use Rattle.std.proofs.lemmas.Option.{slice_get_within}
use Rattle.tl_syntax.specs.declared.action.Action.{Action}
use Rattle.tl_syntax.specs.declared.operator.Operator.{Operator}
use Rattle.tl_line.specs.NamedActions.{ActionIsNamed}
use Rattle.tl_line.specs.Puts.{ContinuesTo}

pub begins-same : (old : List ℕ) → ContinuesTo old old
begins-same old = record { more = []; is = sym (append-nil old) }

pub begins-grown : (old new text : List ℕ) → new ≡ old ++ text → ContinuesTo old new
begins-grown old new text is = record { more = text; is = is }

-- what begins with bytes that begin with others begins with these
pub begins-on : (old middle new : List ℕ) → ContinuesTo old middle → ContinuesTo middle new → ContinuesTo old new
begins-on old middle new first second = record {
  more = first.more ++ second.more;
  is =
      rw (second.is, first.is) (append_assoc old first.more second.more);
}

-- the operator of a named action is there
pub operator-there : (names : List (List ℕ)) (operators : List Operator) (a : Action) → ActionIsNamed names operators a →
    a.op < length operators
operator-there names operators a h =
    let within = slice_get_within (map (λ o. length o.params) operators) a.op (length a.args) h.takes in
    omega (arith, length-map {A = Operator} operators (λ o. length o.params))

pub ruleset growth = (begins-same, begins-grown, begins-on)

-- bytes that grow by named actions
pub ruleset lines = (begins-same, begins-grown, begins-on, operator-there)
