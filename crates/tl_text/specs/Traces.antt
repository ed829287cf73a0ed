-- The lines of what a search reports.
use Rattle.std.specs.Prelude.{ℕ, ◌<◌, List, [], ◌++◌, length, flat_map, slice_get, option_map, unwrap_or, codes}
use Rattle.std.specs.Fmt.{decimal}
use Rattle.tl_syntax.specs.declared.action.Action.{Action}
use Rattle.tl_syntax.specs.declared.domain.Domain.{Domain}
use Rattle.tl_syntax.specs.Lists.{Each}
use Rattle.tl_line.specs.ActionTexts.{action_text}
use Rattle.tl_line.specs.NamedActions.{ActionIsNamed}
use Rattle.tl_label.specs.Labels.{label_text}
use Rattle.tl_search.specs.KeptPairs.{KeptPair}
use Rattle.tl_search.specs.declared.event.Event.{Event}
use Rattle.tl_search.specs.declared.event.Event.TheVariants as event
use Rattle.tl_space.specs.declared.space.Space.{Space}
use Rattle.tl_space.specs.Spaces.{task_of, kept_of}

-- the line of the label of the residual of the pair of a number
abbrev pub label_line : List (List ℕ) → Domain → List KeptPair → ℕ → List ℕ
label_line names domain kept k = codes "; label " ++ (unwrap_or (option_map (λ x. label_text names domain x.node.formula)
    (slice_get kept k)) [] ++ codes "\n")

-- a space, an action and the end of the line
abbrev pub action_end : List (List ℕ) → Domain → Action → List ℕ
action_end names domain a = codes " " ++ (action_text names domain.operators a ++ codes "\n")

-- the lines of an event: what came of the pair, and where it is kept the label of its residual
abbrev pub event_text : List (List ℕ) → Domain → List KeptPair → Event → List ℕ
event_text names domain kept event.RootKept = codes "; kept 0\n" ++ label_line names domain kept 0
event_text names domain kept event.RootPruned = codes "; pruned\n"
event_text names domain kept (event.Kept j a k) = codes "; kept " ++ (decimal k ++
    (codes " " ++ (decimal j ++ (action_end names domain a ++ label_line names domain kept k))))
event_text names domain kept (event.Seen j a k) = codes "; seen " ++ (decimal k ++ (codes " " ++ (decimal j ++ action_end names domain a)))
event_text names domain kept (event.Pruned j a) = codes "; pruned " ++ (decimal j ++ action_end names domain a)

-- the lines of all events, in their order
abbrev pub trace_text : List (List ℕ) → Domain → List KeptPair → List Event → List ℕ
trace_text names domain kept events = flat_map (event_text names domain kept) events

-- the action of the event is of the domain's operators and names only these names, and the numbers
-- of its pairs are below n
abbrev pub EventIsWritable : List (List ℕ) → Domain → ℕ → Event → Type 0
EventIsWritable names domain n event.RootKept = 0 < n
EventIsWritable names domain n event.RootPruned = Unit {0}
EventIsWritable names domain n (event.Kept j a k) = (j < n) × (k < n) × ActionIsNamed names domain.operators a
EventIsWritable names domain n (event.Seen j a k) = (j < n) × (k < n) × ActionIsNamed names domain.operators a
EventIsWritable names domain n (event.Pruned j a) = (j < n) × ActionIsNamed names domain.operators a

-- each event is
abbrev pub AreWritable : List (List ℕ) → Domain → ℕ → List Event → Type 0
AreWritable names domain n events = Each (EventIsWritable names domain n) events

-- the line of the label of a pair that the space has kept
abbrev pub label_line_in : Space → ℕ → List ℕ
label_line_in s k = label_line (task_of s).problem.names (task_of s).problem.domain (kept_of s) k

-- the lines of an event of a search through the space
abbrev pub event_text_in : Space → Event → List ℕ
event_text_in s e = event_text (task_of s).problem.names (task_of s).problem.domain (kept_of s) e

-- the lines of all events
abbrev pub trace_text_in : Space → List Event → List ℕ
trace_text_in s events = trace_text (task_of s).problem.names (task_of s).problem.domain (kept_of s) events

-- the event is of the problem of the space and of the pairs that it has kept
abbrev pub IsWritableIn : Space → Event → Type 0
IsWritableIn s e = EventIsWritable (task_of s).problem.names (task_of s).problem.domain (length (kept_of s)) e

-- each event is
abbrev pub AreWritableIn : Space → List Event → Type 0
AreWritableIn s events = AreWritable (task_of s).problem.names (task_of s).problem.domain (length (kept_of s)) events
