-- Faults that a reader hands on.
use Rattle.std.proofs.Common.{◌≡◌, List, Result, Ok, Err, sym, subst}
use Rattle.std.specs.Prelude.{IsErrAnd}
use Rattle.tl_rules.specs.Reads.{IsFirst, Reads}
use Rattle.tl_rules.specs.Rules.{Break}
use Rattle.tl_rules.specs.declared.rule.FormFault.{FormFault}

-- the fault that is handed on is the first of the breaks
pub handed-on : {X Y : Type 0} (view : X → Y) (result : Result X FormFault) (breaks : List Break) (meant : Y) (fault : FormFault) →
    IsErrAnd result (λ told. told ≡ fault) → IsFirst breaks fault → Reads view result breaks meant
handed-on view (Ok x) breaks meant fault same h = absurd same
handed-on view (Err told) breaks meant fault same h = subst (IsFirst breaks) (sym same) h
