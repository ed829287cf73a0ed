-- The changes of facts, as they are found.
use Rattle.std.specs.Prelude.{◌≡◌, ◌⊎◌, ◌+◌, ◌<◌, ℕ, List, [], ◌∷◌, ◌++◌, false, cond, Option, Some, None, IsSome}
use Rattle.std.specs.HashMap.{HashMap, get}
use Rattle.std.specs.Global.{Vec}
use Rattle.std.specs.declared.hash.FoldHasher.{FoldHasher}
use Rattle.std.specs.declared.hash.BuildHasherDefault.{BuildHasherDefault}
use Rattle.tl_check.specs.Lines.{truth_from, AreBefore}
use Rattle.tl_check.specs.declared.line.Change.{Change}
use Rattle.tl_check.specs.declared.tracks.Tracks.{Tracks}
use Rattle.tl_syntax.specs.declared.fact.Fact.{Fact}
use Rattle.tl_syntax.specs.declared.value.Value.{Value}
use Rattle.tl_syntax.specs.DerivedTests.{fact_eq}
use Rattle.tl_syntax.specs.Lists.{Among}

-- the changes of each fact that has some
abbrev pub Lines : Type 0
Lines = HashMap Fact (Vec Change) (BuildHasherDefault FoldHasher)

-- the changes, where there are some
abbrev pub changes_in : Option (Vec Change) → List Change
changes_in None = []
changes_in (Some v) = v.items

-- the changes of a fact
abbrev pub line_in : Lines → Fact → List Change
line_in lines g = changes_in (get fact_eq lines g)

-- every fact that has changes was seen
abbrev pub HaveSeenAll : Tracks → Type 0
HaveSeenAll t = (g : Fact) → IsSome (get fact_eq t.lines g) → Among g t.seen.items

-- the changes of the fact are taken out, and those of the others stay
abbrev pub TakesLine : Fact → Lines → Lines → Type 0
TakesLine fact old new = (g : Fact) → get fact_eq new g ≡ cond (fact_eq fact g) None (get fact_eq old g)

-- the changes of the other facts stay
abbrev pub OthersStay : Fact → Lines → Lines → Type 0
OthersStay fact old new = (g : Fact) → fact_eq fact g ≡ false → line_in new g ≡ line_in old g

-- the fact of a predicate with these arguments
abbrev pub fact_with : ℕ → List Value → Fact
fact_with q a = record { pred = q; args = a }

-- the fact has the change's truth at its position, where no change comes after that, and before it
-- the truths that it had; other facts have the changes that they had
pub record TellsTruth (fact : Fact) (change : Change) (old new : Fact → List Change) : Type 0 where
  pub others : (g : Fact) → fact_eq fact g ≡ false → new g ≡ old g
  pub earlier : (j : ℕ) → j < change.at → truth_from false (new fact) j ≡ truth_from false (old fact) j
  pub bounded : AreBefore (change.at + 1) (old fact) → AreBefore (change.at + 1) (new fact)
  pub there : AreBefore (change.at + 1) (old fact) → truth_from false (new fact) change.at ≡ change.truth

-- so the changes tell it of the fact
abbrev pub TellsOf : Fact → Change → Lines → Lines → Type 0
TellsOf fact change old new = TellsTruth fact change (line_in old) (line_in new)

-- each fact that was seen still is
abbrev pub StaySeen : Tracks → Tracks → Type 0
StaySeen old new = (g : Fact) → Among g old.seen.items → Among g new.seen.items

-- those that were seen are as before, or this one is new among them
abbrev pub SeesOne : Fact → List Fact → List Fact → Type 0
SeesOne fact old new = (new ≡ old) ⊎ (new ≡ old ++ fact ∷ [])
