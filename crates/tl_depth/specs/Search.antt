-- Depth-first search with a memory of remaining depths: its state, and what is true of it at every
-- moment.
use Rattle.std.specs.Prelude.{◌≡◌, ◌≢◌, ◌≤◌, ◌<◌, ◌+◌, ◌⊎◌, ℕ, zero, suc, List, [], ◌∷◌, ◌++◌, length, Option, Some, IsTrue}
use Rattle.tl_syntax.specs.declared.action.Action.{Action}
use Rattle.tl_syntax.specs.Lists.{Each, AtLeastOne}
use Rattle.tl_depth.specs.ActionGraphs.{ActionGraph, AreActionsOf, node_after, IsSimpleGoalWalk, IsLeadingWalk}

-- the greatest number of remaining actions with which a kept node was met
abbrev pub Memory : Type 0 → Type 0
Memory Node = Node → Option ℕ

-- a relation of nodes and actions, as that an arrival was reported
abbrev pub Reports : Type 0 → Type 1
Reports Node = Node → Action → Type 0

-- a node that is being expanded: with how many remaining actions, which of its actions are done
-- with, and the others, of which the first may be under way
pub record Frame (Node : Type 0) : Type 0 where
  pub node : Node
  pub left : ℕ
  pub tried : List Action
  pub rest : List Action

-- the first, where there is one
abbrev pub at_hand : List Action → List Action
at_hand [] = []
at_hand (a ∷ rest) = a ∷ []

-- the actions that frames are at, the last frame of the list being the root's
abbrev pub gone : {Node : Type 0} → List (Frame Node) → List Action
gone [] = []
gone (f ∷ below) = gone below ++ at_hand f.rest

-- the frame with its first action done with
abbrev pub advanced : {Node : Type 0} → Frame Node → Action → List Action → Frame Node
advanced f a later = record { node = f.node; left = f.left; tried = f.tried ++ a ∷ []; rest = later }

-- the frame of a node that is entered with these actions
abbrev pub entered : {Node : Type 0} → Node → ℕ → List Action → Frame Node
entered x m actions = record { node = x; left = m; tried = []; rest = actions }

-- a node is explored to a depth: it was met with at least so many remaining actions, or with some,
-- and each successor of it is explored to one less; to a depth of 0 it is only kept
unfoldable pub IsExplored : {Node : Type 0} → ActionGraph Node → Memory Node → ℕ → Node → Type 0
IsExplored {Node} g met zero y = (k : ℕ) × (met y ≡ Some k)
IsExplored {Node} g met (suc l) y = (k : ℕ) × (met y ≡ Some k) × ((suc l ≤ k) ⊎
    ((0 < k) × ((a : Action) (z : Node) → g.next y a ≡ Some z → IsExplored g met l z)))

-- where the action has a successor, that is explored to each depth below m
abbrev pub IsCovered : {Node : Type 0} → ActionGraph Node → Memory Node → Node → ℕ → Action → Type 0
IsCovered {Node} g met x m a = (y : Node) → g.next x a ≡ Some y → (l : ℕ) → l < m → IsExplored g met l y

-- no simple walk of at most n actions to an accepted node begins with the path and then the action
abbrev pub IsFruitless : {Node : Type 0} → ActionGraph Node → ℕ → List Action → Action → Type 0
IsFruitless g n path a = (rest : List Action) → IsSimpleGoalWalk g n (path ++ a ∷ rest) → ⊥

-- a frame after a path: all that was done with
pub record IsFrame {Node : Type 0} (g : ActionGraph Node) (n : ℕ) (reported : Reports Node) (met : Memory Node) (path : List Action)
    (f : Frame Node) : Type 0 where
  pub ends : node_after g path ≡ Some f.node
  pub budget : length path + f.left ≡ n
  pub some : 0 < f.left
  pub all : AreActionsOf g f.node (f.tried ++ f.rest)
  pub most : met f.node ≡ Some f.left
  pub covered : Each (IsCovered g met f.node f.left) f.tried
  pub fruitless : Each (IsFruitless g n path) f.tried
  pub told : Each (reported f.node) f.tried

-- a frame below another: it is at some action, which was reported
pub record IsUnderWay {Node : Type 0} (reported : Reports Node) (f : Frame Node) : Type 0 where
  pub action : Action
  pub later : List Action
  pub is : f.rest ≡ action ∷ later
  pub told : reported f.node action

-- the frames of a stack, the top first: their nodes differ, and those below the top are under way
abbrev pub AreFrames : {Node : Type 0} → ActionGraph Node → ℕ → Reports Node → Memory Node → List (Frame Node) → Type 0
AreFrames g n reported met [] = Unit {0}
AreFrames g n reported met (f ∷ below) =
    IsFrame g n reported met (gone below) f × Each (λ h. h.node ≢ f.node) below × Each (IsUnderWay reported) below ×
    AreFrames g n reported met below

-- the node is being expanded
abbrev pub IsOnStack : {Node : Type 0} → List (Frame Node) → Node → Type 0
IsOnStack stack x = AtLeastOne (λ f. f.node ≡ x) stack

-- a node is kept, met with at most m remaining actions: it is not accepted, and some leading walk
-- with m remaining actions leads to it
pub record IsKept {Node : Type 0} (g : ActionGraph Node) (n : ℕ) (x : Node) (m : ℕ) : Type 0 where
  pub refused : g.Accepts x → ⊥
  pub path : List Action
  pub ends : node_after g path ≡ Some x
  pub budget : length path + m ≡ n
  pub leading : IsLeadingWalk g n path

-- each executable action of the node was reported, and its successor is explored to each depth
-- below m
abbrev pub IsDone : {Node : Type 0} → ActionGraph Node → Reports Node → Memory Node → Node → ℕ → Type 0
IsDone g reported met x m = (a : Action) → IsTrue (g.executable x a) → IsCovered g met x m a × reported x a

-- what is true at every moment
pub record IsDepthFirst {Node : Type 0} (g : ActionGraph Node) (n : ℕ) (reported : Reports Node) (met : Memory Node)
    (stack : List (Frame Node)) : Type 0 where
  pub frames : AreFrames g n reported met stack
  pub kept : (x : Node) (m : ℕ) → met x ≡ Some m → IsKept g n x m
  pub done : (x : Node) (m : ℕ) → met x ≡ Some m → 0 < m → IsOnStack stack x ⊎ IsDone g reported met x m
  pub begun : met g.root ≡ Some n

-- the memory afterwards: the node was met with m remaining actions, and of the others nothing
-- changed
pub record IsMet {Node : Type 0} (x : Node) (m : ℕ) (before after : Memory Node) : Type 0 where
  pub this : after x ≡ Some m
  pub others : (y : Node) → y ≢ x → after y ≡ before y

-- the node was never met with so many remaining actions: it is fresh, or was met with fewer
abbrev pub IsDeeper : {Node : Type 0} → Memory Node → Node → ℕ → Type 0
IsDeeper before x m = (k : ℕ) → before x ≡ Some k → k < m

-- what was reported stays so, and one more arrival was
pub record ReportsOneMore {Node : Type 0} (x : Node) (a : Action) (before after : Reports Node) : Type 0 where
  pub this : after x a
  pub others : (y : Node) (b : Action) → before y b → after y b
