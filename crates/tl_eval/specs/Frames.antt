-- A frame of variable values as an assignment.
use Rattle.std.specs.Prelude.{◌≡◌, ◌==◌, ℕ, List, [], ◌∷◌, map, cond, Option, Some, None, slice_get, take, length}
use Rattle.tl_syntax.specs.declared.value.Value.{Value}
use Rattle.tl_syntax.specs.declared.variable.Var.{Var}
use Rattle.tl_syntax.specs.Assignment.{Assignment, bind}

-- the value of a slot that is there
abbrev pub slot_value : Option (Option Value) → Option Value
slot_value None = None
slot_value (Some v) = v

-- each slot of the frame has the value that stands there, and no other slot has one
abbrev pub assignment_in : List (Option Value) → Assignment
assignment_in frame = λ q. slot_value (slice_get frame q)

-- the assignment of the current scope, whose frame of 32 slots stands first
abbrev pub current_assignment : List (Option Value) → Assignment
current_assignment frames = assignment_in (take 32 frames)

-- the slots of the variables have these values or none, and the other slots what they have in e
abbrev pub given_back : List Var → List (Option Value) → Assignment → Assignment
given_back [] os e = e
given_back (s ∷ ss) [] e = e
given_back (s ∷ ss) (o ∷ os) e = λ q. cond (q == s.slot) o (given_back ss os e q)

-- the new frame gives the slot the value, and each other slot what the old one gives it
abbrev pub GivesSlot : ℕ → Value → List (Option Value) → List (Option Value) → Type 0
GivesSlot slot v old new = (q : ℕ) → assignment_in new q ≡ cond (q == slot) (Some v) (assignment_in old q)

-- the new frame gives the variables the values, and the other slots what the old one gives them
abbrev pub Binds : List Var → List Value → List (Option Value) → List (Option Value) → Type 0
Binds ss vs old new = assignment_in new ≡ bind ss vs (assignment_in old)

-- so it is of the frame of the current scope
abbrev pub BindsInScope : List Var → List Value → List (Option Value) → List (Option Value) → Type 0
BindsInScope ss vs old new = Binds ss vs (take 32 old) (take 32 new)

-- the new frame gives the variables these values or none, and the other slots what the old one
-- gives them
abbrev pub PutsBack : List Var → List (Option Value) → List (Option Value) → List (Option Value) → Type 0
PutsBack ss os old new = assignment_in new ≡ given_back ss os (assignment_in old)

-- so it is of the frame of the current scope
abbrev pub PutsBackInScope : List Var → List (Option Value) → List (Option Value) → List (Option Value) → Type 0
PutsBackInScope ss os old new = PutsBack ss os (take 32 old) (take 32 new)

-- the two give each slot that is of none of the variables the same: they are the same once these
-- have values
abbrev pub AgreeElsewhere : List Var → Assignment → Assignment → Type 0
AgreeElsewhere ss d e = (t : List Value) → bind ss t d ≡ bind ss t e

-- but for the variables, the two frames give all slots the same
abbrev pub ChangesOnly : List Var → List (Option Value) → List (Option Value) → Type 0
ChangesOnly ss old new = AgreeElsewhere ss (assignment_in new) (assignment_in old)

-- so it is of the frame of the current scope
abbrev pub ChangesOnlyInScope : List Var → List (Option Value) → List (Option Value) → Type 0
ChangesOnlyInScope ss old new = ChangesOnly ss (take 32 old) (take 32 new)

-- the first values are what the slots of the variables have in the frame
abbrev pub AreSlotValues : List Var → List (Option Value) → List (Option Value) → Type 0
AreSlotValues ss frame values = take (length ss) values ≡ map (λ s. assignment_in frame s.slot) ss

-- and the frame has 32 slots
pub record AreKept (ss : List Var) (frame values : List (Option Value)) : Type 0 where
  pub slots : length frame ≡ 32
  pub same : AreSlotValues ss frame values

-- where the values were kept of a frame with which the old one agrees elsewhere, the new frame is
-- that one
abbrev pub GivesBack : List Var → List (Option Value) → List (Option Value) → List (Option Value) → Type 0
GivesBack ss values old new = (frame : List (Option Value)) → AreKept ss frame values →
    AgreeElsewhere ss (assignment_in old) (assignment_in frame) → new ≡ frame
