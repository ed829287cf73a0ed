-- What follows where a call went well, or did not, or found nothing.
use Rattle.std.proofs.Common.{◌≡◌, false, true≢false, Ok, Err, Option, Some, None, is_some}
use Rattle.std.specs.Prelude.{IfNone, OnOk, OnErr}
use Rattle.std.specs.declared.result.Result.{Result}

pub on-ok : {A E P Q : Type 0} (r : Result A E) → (P → Q) → OnOk r P → OnOk r Q
on-ok (Ok x) f h = f h
on-ok (Err e) f h = h

pub on-err : {A E P : Type 0} (r : Result A E) → P → OnErr r P
on-err (Ok x) h = tt
on-err (Err e) h = h

pub of-none : {A : Type 0} (o : Option A) (P : Type 0) → is_some o ≡ false → IfNone o P → P
of-none None P h s = s
of-none (Some x) P h s = absurd (true≢false h)
