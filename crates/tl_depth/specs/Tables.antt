-- The tables of the search: what each kept node was met with, how much work that allows, and what
-- is left to do.
use Rattle.std.specs.Prelude.{◌≡◌, ◌≢◌, ◌≤◌, ◌<◌, ◌+◌, ◌-◌, ◌*◌, ◌⊎◌, ℕ, suc, List, [], ◌∷◌, length, slice_get, Some, None}
use Rattle.tl_syntax.specs.declared.action.Action.{Action}
use Rattle.tl_syntax.specs.Lists.{Each}
use Rattle.tl_depth.specs.ActionGraphs.{ActionGraph, AreActionsOf, node_after}
use Rattle.tl_depth.specs.Search.{Memory, Frame}

-- the first where the test is passed
abbrev pub where_same : {A B : Type 0} → Dec A → B → B → B
where_same (yes h) x y = x
where_same (no h) x y = y

-- with how many remaining actions a node was met: its number in the second list stands where the
-- node stands in the first
unfoldable pub met_in : {Node : Type 0} → Discrete Node → List Node → List ℕ → Memory Node
met_in same [] most y = None
met_in same (x ∷ kept) [] y = None
met_in same (x ∷ kept) (m ∷ most) y = where_same (same x y) (Some m) (met_in same kept most y)

-- no node was met with no remaining action
abbrev pub IsUncut : List ℕ → Type 0
IsUncut most = (k : ℕ) → slice_get most k ≡ Some 0 → ⊥

-- the nodes differ
abbrev pub AllDiffer : {Node : Type 0} → List Node → Type 0
AllDiffer [] = Unit {0}
AllDiffer (x ∷ kept) = Each (λ y. y ≢ x) kept × AllDiffer kept

-- the sum over the kept nodes of the number of executable actions, each times the number of
-- remaining actions with which the node was met
unfoldable pub IsWork : {Node : Type 0} → ActionGraph Node → List Node → List ℕ → ℕ → Type 0
IsWork g [] most t = t ≡ 0
IsWork g (x ∷ kept) [] t = ⊥
IsWork g (x ∷ kept) (m ∷ most) t = (actions : List Action) × (rest : ℕ) × (0 < m → AreActionsOf g x actions) ×
    (t ≡ m * length actions + rest) × IsWork g kept most rest

-- some walk of fewer than n actions leads to the node
pub record IsNearNode {Node : Type 0} (g : ActionGraph Node) (n : ℕ) (x : Node) : Type 0 where
  pub path : List Action
  pub ends : node_after g path ≡ Some x
  pub short : length path < n

-- the sum of the numbers of executable actions over some of the nodes, to each of which a walk of
-- fewer than n actions leads
unfoldable pub IsNearSum : {Node : Type 0} → ActionGraph Node → ℕ → List Node → ℕ → Type 0
IsNearSum g n [] s = s ≡ 0
IsNearSum g n (x ∷ kept) s =
    IsNearSum g n kept s
    ⊎ ((actions : List Action) × (rest : ℕ) × IsNearNode g n x × AreActionsOf g x actions × (s ≡ length actions + rest) ×
    IsNearSum g n kept rest)

-- how many actions of frames are not begun, those below the top frame being at their first
abbrev pub unbegun_below : {Node : Type 0} → List (Frame Node) → ℕ
unbegun_below [] = 0
unbegun_below (h ∷ below) = (length h.rest - 1) + unbegun_below below

abbrev pub unbegun : {Node : Type 0} → List (Frame Node) → ℕ
unbegun [] = 0
unbegun (f ∷ below) = length f.rest + unbegun_below below

-- the calls so far, and those that the stack will make for certain, are no more than the work
pub record IsCounted {Node : Type 0} (g : ActionGraph Node) (kept : List Node) (most : List ℕ) (stack : List (Frame Node))
    (calls : ℕ) : Type 0 where
  pub total : ℕ
  pub work : IsWork g kept most total
  pub enough : calls + unbegun stack ≤ total

-- how far the numbers are from n in all
abbrev pub lacking : ℕ → List ℕ → ℕ
lacking n [] = 0
lacking n (m ∷ most) = (n - m) + lacking n most

-- how often a node may still be entered, at most: each of a number of nodes that may be kept, each
-- of those that are kept
abbrev pub entries_left : ℕ → ℕ → List ℕ → ℕ
entries_left nodes n most = (suc nodes - length most) * suc n + lacking n most

-- how many steps the stack makes until a node is entered, at most
abbrev pub height : {Node : Type 0} → List (Frame Node) → ℕ
height [] = 0
height (f ∷ below) = suc (length f.rest) + height below
