-- What the changes of the facts of a predicate tell of one state more.
use Rattle.std.specs.Prelude.{◌≡◌, ◌+◌, ◌<◌, ℕ, List, Bool, true, false}
use Rattle.tl_check.specs.Lines.{truth_from, AreBefore}
use Rattle.tl_check.specs.Tracks.{Lines, line_in, fact_with}
use Rattle.tl_check.specs.declared.line.Change.{Change}
use Rattle.tl_syntax.specs.declared.fact.Fact.{Fact}
use Rattle.tl_syntax.specs.declared.value.Value.{Value}
use Rattle.tl_syntax.specs.Lists.{Among}
use Rattle.tl_terms.specs.World.{World, has_fact}

-- of the facts of the predicate those with some rows are told at the position, which no change
-- comes after, to be what they are there, and what was told of earlier positions stays; the others
-- have the changes that they had
pub record AreNoted (q at : ℕ) (is : List Value → Bool) (is_one : List Value → Type 0) (old new : Fact → List Change) : Type 0 where
  pub earlier : (a : List Value) (j : ℕ) → j < at → truth_from false (new (fact_with q a)) j ≡ truth_from false (old (fact_with q a)) j
  pub bounded : (a : List Value) → AreBefore (at + 1) (old (fact_with q a)) → AreBefore (at + 1) (new (fact_with q a))
  pub told : (a : List Value) → AreBefore (at + 1) (old (fact_with q a)) → is_one a → truth_from false (new (fact_with q a)) at ≡ is a
  pub others : (a : List Value) → (is_one a → ⊥) → new (fact_with q a) ≡ old (fact_with q a)

-- what was told of earlier positions stays, and the facts of the predicate are told at this one to
-- be what they are in the world, where they were told to be what they were before
pub record TellsNext (q at : ℕ) (before : List Value → Bool) (w : World) (old new : Fact → List Change) : Type 0 where
  pub earlier : (a : List Value) (j : ℕ) → j < at → truth_from false (new (fact_with q a)) j ≡ truth_from false (old (fact_with q a)) j
  pub bounded : (a : List Value) → AreBefore (at + 1) (old (fact_with q a)) → AreBefore (at + 1) (new (fact_with q a))
  pub told : (a : List Value) → AreBefore (at + 1) (old (fact_with q a)) → truth_from false (old (fact_with q a)) at ≡ before a →
      truth_from false (new (fact_with q a)) at ≡ has_fact w (q, a)

-- the facts with these rows are told to hold at the first position
abbrev pub NotesRows : ℕ → List (List Value) → Lines → Lines → Type 0
NotesRows q rows old new = AreNoted q 0 (λ a. true) (λ a. Among a rows) (line_in old) (line_in new)

-- the facts of the predicate are told to be at the first position what they are in the first world
abbrev pub TellsFirst : ℕ → World → Lines → Lines → Type 0
TellsFirst q w old new = TellsNext q 0 (λ a. false) w (line_in old) (line_in new)
