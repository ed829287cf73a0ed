-- The labels of the instances of a quantifier.
use Rattle.std.specs.Prelude.{◌≡◌, ◌<◌, ◌≤◌, ◌+◌, ℕ, List, drop, length, Bool, true, false, not, cond, Result, Ok, Err, slice_index_or}
use Rattle.tl_check.specs.Ahead.{Ahead, Course, true_ahead}
use Rattle.tl_check.specs.Quantifiers.{Quantifier}
use Rattle.tl_check.specs.Facts.{bound_ahead}
use Rattle.tl_check.specs.Labelled.{ComesAt, looked_at}
use Rattle.tl_check.specs.Passes.{joins}
use Rattle.tl_action.specs.declared.check_fault.CheckFault.{CheckFault}
use Rattle.tl_action.specs.declared.check_fault.CheckFault.TheVariants as fault
use Rattle.tl_check.specs.declared.span.Span.{Span}
use Rattle.tl_eval.specs.Notes.{Tells}
use Rattle.tl_syntax.specs.Assignment.{Assignment}
use Rattle.tl_syntax.specs.Junctions.{deciding_truth}
use Rattle.tl_terms.specs.World.{World}

-- the instance under these values, where they make the bound true; elsewhere it decides nothing
abbrev pub instance_ahead : Course → Quantifier → Assignment → Ahead
instance_ahead c q e ws = cond (bound_ahead c.problem e q.bound ws) (true_ahead c e q.part ws) (not (deciding_truth q.junction))

-- the labels are joined with those of the instance under these values, or an operation of it is
-- noted, which is looked at where the bound was true before
abbrev pub JoinsInstance : Course → List World → Span → Assignment → Quantifier → List Bool → List Bool → Result (Unit {0}) CheckFault →
    Type 0
JoinsInstance c ws span e q old new (Ok u) = (length new ≡ length old) ×
    ((k : ℕ) → k < length old → slice_index_or new k false ≡ joins q.junction (slice_index_or old k false)
    (instance_ahead c q e (drop (span.from + k) ws)))
JoinsInstance c ws span e q old new (Err (fault.Range k note)) = (j : ℕ) × (span.from ≤ j) × ComesAt c ws j k ×
    (bound_ahead c.problem e q.bound (drop j ws) ≡ true) × Tells (looked_at c ws k e q.part) note
JoinsInstance c ws span e q old new (Err fault.NoMemory) = Unit {0}
