-- Actions by numbers, and what these stand for.
use Rattle.std.specs.Prelude.{◌≡◌, ◌<◌, ◌≤◌, ◌+◌, ◌-◌, ◌^◌, ℕ, List, [], ◌∷◌, ◌++◌, map, length, take, drop, cond, nat_le, slice_index_or}
use Rattle.tl_syntax.specs.declared.action.Action.{Action}
use Rattle.tl_syntax.specs.declared.value.Value.{Value}
use Rattle.tl_syntax.specs.declared.value.Value.TheVariants.{Sym}
use Rattle.tl_syntax.specs.Lists.{Each}
use Rattle.tl_depth.specs.declared.packed.Head.{Head}

-- the value of a code: the symbol of that number, or else one of the other values
abbrev pub value_of : List Value → ℕ → Value
value_of others c = cond (nat_le (2 ^ 31) c) (slice_index_or others (c - 2 ^ 31) (Sym c)) (Sym c)

-- the code is that of a symbol, or of one of the other values
abbrev pub IsCode : List Value → ℕ → Type 0
IsCode others c = c < 2 ^ 31 + length others

-- the code is that of the value
abbrev pub IsCodeOf : List Value → Value → ℕ → Type 0
IsCodeOf others v c = IsCode others c × (value_of others c ≡ v)

-- the action of a head, whose arguments have the codes that stand there
abbrev pub action_of : List ℕ → List Value → Head → Action
action_of codes others h = record { op = h.op; args = map (value_of others) (take h.count (drop h.from codes)) }

-- the codes of the head's arguments stand there
abbrev pub IsHead : List ℕ → Head → Type 0
IsHead codes h = h.from + h.count ≤ length codes

-- these are codes, and the heads' arguments have codes that stand there
pub record ArePacked (codes : List ℕ) (others : List Value) (heads : List Head) : Type 0 where
  pub codes_are : Each (IsCode others) codes
  pub heads_are : Each (IsHead codes) heads

-- the new list is the old one and more
abbrev pub Lengthens : {A : Type 0} → List A → List A → Type 0
Lengthens {A} old new = (more : List A) × (new ≡ old ++ more)

-- to the codes came those of the values, and to the other values those that they need
pub record AddsCodes (codes : List ℕ) (others values : List Value) (new_codes : List ℕ) (new_others : List Value) : Type 0 where
  pub more : List ℕ
  pub same_codes : new_codes ≡ codes ++ more
  pub same_others : Lengthens others new_others
  pub codes_are : Each (IsCode new_others) more
  pub values_are : map (value_of new_others) more ≡ values

-- the actions of some heads are as before, and the action is that of one head more
abbrev pub PacksOneMore : List ℕ → List Value → Head → Action → List ℕ → List Value → Type 0
PacksOneMore codes others h a new_codes new_others = (heads : List Head) → ArePacked codes others heads
    → ArePacked new_codes new_others (heads ++ h ∷ []) × (map (action_of new_codes new_others) (heads ++ h ∷ []) ≡
    map (action_of codes others) heads ++ a ∷ [])
