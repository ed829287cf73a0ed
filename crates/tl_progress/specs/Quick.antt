-- Truths that are quick to read where a world is repeated for ever.
use Rattle.std.specs.Prelude.{◌≡◌, ℕ, List, Bool, Option}
use Rattle.tl_progress.specs.declared.here.FormulasHere.{FormulasHere}
use Rattle.tl_progress.specs.declared.layers.Join.{Join}
use Rattle.tl_progress.specs.Calls.{idly_true_at, idly_true_join}
use Rattle.tl_syntax.specs.declared.value.Value.{Value}

-- this is the truth of a number's tree, under the values of the frame
abbrev pub IsIdleTruth : FormulasHere → List (Option Value) → ℕ → Bool → Type 0
IsIdleTruth formulas frame i b = b ≡ idly_true_at formulas.here.now.task.now formulas.here.now.world.now frame formulas.nodes.now i

-- this is the truth of a join
abbrev pub IsIdleTruthOfJoin : FormulasHere → List (Option Value) → Join → Bool → Type 0
IsIdleTruthOfJoin formulas frame join b = b ≡ idly_true_join formulas.here.now.task.now formulas.here.now.world.now frame formulas.nodes.now
    join.junction join.parts.now
