use Rattle.std.proofs.Common.{◌≡◌, ◌++◌, length, drop}
use Rattle.tl_space.specs.Spaces.{task_of, kept_of}
use Rattle.tl_text.specs.Traces.{AreWritable, trace_text}
use Rattle.tl_text.proofs.traces.trace_text.Given as goal

-- the lines so far, and after them those of the events that are left
abbrev pub invariant-loop-event : goal.invariant-loop-event
invariant-loop-event l = record {
  text : trace_text (task_of l.space).problem.names (task_of l.space).problem.domain (kept_of l.space) l.events ≡ l.text ++
      trace_text (task_of l.space).problem.names (task_of l.space).problem.domain (kept_of l.space) (drop l.event-index l.events);
  writable : AreWritable (task_of l.space).problem.names (task_of l.space).problem.domain (length (kept_of l.space))
      (drop l.event-index l.events);
}
