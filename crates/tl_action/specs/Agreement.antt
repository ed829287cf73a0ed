-- Assignments that agree, and what a call leaves of a frame.
use Rattle.std.specs.Prelude.{◌≡◌, ◌<◌, ℕ, List, ◌++◌, false}
use Rattle.tl_syntax.specs.declared.variable.Var.{Var}
use Rattle.tl_syntax.specs.Assignment.{Assignment}
use Rattle.tl_syntax.specs.Effects.{EffectTree, EffectTrees}
use Rattle.tl_syntax.specs.Fits.{EffectFits, EffectsFit}
use Rattle.tl_syntax.specs.FreeVariables.{is_slot_in, slots_of, effect_slots, effects_slots, InScope}
use Rattle.tl_syntax.specs.Lists.{Each}
use Rattle.tl_syntax.specs.Signature.{Signature}
use Rattle.tl_syntax.specs.StateFormulas.{EffectIsState, EffectsAreState}

-- the two give these slots the same values
abbrev pub Agree : List ℕ → Assignment → Assignment → Type 0
Agree qs d e = Each (λ q. d q ≡ e q) qs

-- an effect that is read below variables of some slots: it fits there, speaks of them alone, and
-- has no temporal word
pub record EffectReads (g : Signature) (x : EffectTree) : Type 0 where
  pub around : List ℕ
  pub fits : EffectFits g around x
  pub scope : InScope around (effect_slots x)
  pub state : EffectIsState x

-- and a list of effects
pub record EffectsRead (g : Signature) (xs : EffectTrees) : Type 0 where
  pub around : List ℕ
  pub fits : EffectsFit g around xs
  pub scope : InScope around (effects_slots xs)
  pub state : EffectsAreState xs

-- effects below further variables, which are of a frame and differ from those around
pub record EachReads (g : Signature) (ss : List Var) (xs : EffectTrees) : Type 0 where
  pub around : List ℕ
  pub frame : Each (λ s. s.slot < 32) ss
  pub fresh : Each (λ s. is_slot_in around s.slot ≡ false) ss
  pub fits : EffectsFit g (slots_of ss ++ around) xs
  pub scope : InScope (slots_of ss ++ around) (effects_slots xs)
  pub state : EffectsAreState xs

-- only slots of variables that an effect quantifies got other values: those around it have theirs
abbrev pub EffectLeaves : Signature → EffectTree → Assignment → Assignment → Type 0
EffectLeaves g x old new = (around : List ℕ) → EffectFits g around x → Agree around new old

-- and so for a list of effects
abbrev pub EffectsLeave : Signature → EffectTrees → Assignment → Assignment → Type 0
EffectsLeave g xs old new = (around : List ℕ) → EffectsFit g around xs → Agree around new old

-- and for effects below further variables
abbrev pub EachLeaves : Signature → List Var → EffectTrees → Assignment → Assignment → Type 0
EachLeaves g ss xs old new = (around : List ℕ) → Each (λ s. is_slot_in around s.slot ≡ false) ss → EffectsFit g (slots_of ss ++ around) xs →
    Agree around new old
