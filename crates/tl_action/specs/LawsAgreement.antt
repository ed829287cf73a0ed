-- What a formula means depends only on the values of its free variables.
use Rattle.std.specs.Prelude.{◌≡◌}
use Rattle.tl_action.specs.Agreement.{Agree}
use Rattle.tl_syntax.specs.Assignment.{Assignment}
use Rattle.tl_syntax.specs.FreeVariables.{free_slots, effects_slots}
use Rattle.tl_syntax.specs.Effects.{EffectTrees}
use Rattle.tl_syntax.specs.Trees.{FormulaTree}
use Rattle.tl_terms.specs.Looked.{LookedTable, looked_in_state}
use Rattle.tl_terms.specs.Situation.{Situation}
use Rattle.tl_terms.specs.Step.{all_instances}
use Rattle.tl_terms.specs.Truth.{state_true}

-- its truth in a world
abbrev pub TruthGoesByFreeSlots : Type 0
TruthGoesByFreeSlots = (s : Situation) (d e : Assignment) (f : FormulaTree) → Agree (free_slots f) d e → state_true s d f ≡ state_true s e f

-- what it looks at
abbrev pub LookedGoesByFreeSlots : Type 0
LookedGoesByFreeSlots = (l : LookedTable) (s : Situation) (d e : Assignment) (f : FormulaTree) → Agree (free_slots f) d e →
    looked_in_state l s d f ≡ looked_in_state l s e f

-- the instances of effects
abbrev pub InstancesGoByFreeSlots : Type 0
InstancesGoByFreeSlots = (s : Situation) (d e : Assignment) (xs : EffectTrees) → Agree (effects_slots xs) d e → all_instances s d xs ≡
    all_instances s e xs
