-- What a search holds is named in the problem of its task.
use Rattle.std.specs.Prelude.{List}
use Rattle.tl_syntax.specs.Lists.{Each}
use Rattle.tl_world.specs.declared.task.Task.{Task}
use Rattle.tl_search.specs.Calls.{AreNamedIn}
use Rattle.tl_search.specs.NamedAnswers.{EventsAreNamed, OutcomeIsNamed}
use Rattle.tl_search.specs.declared.outcome.Outcome.{Outcome}
use Rattle.tl_depth.specs.declared.level.Level.{Level}
use Rattle.tl_depth.specs.declared.stack.DepthFirst.{DepthFirst}

-- the actions of all levels are
abbrev pub StackIsNamed : Task → List Level → Type 0
StackIsNamed task levels = Each (λ (c : Level). AreNamedIn task c.actions) levels

-- the answer gives out no action
abbrev pub EndsUnnamed : Outcome → Type 0
EndsUnnamed o = (task : Task) → OutcomeIsNamed task o

-- those of the stack are, and those of the events
pub record SearchIsNamed (task : Task) (w : DepthFirst) : Type 0 where
  pub stack : StackIsNamed task w.stack.items
  pub events : EventsAreNamed task w.events
