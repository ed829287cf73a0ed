-- What is kept of the states of a plan, as it is followed.
use Rattle.std.specs.Prelude.{◌≡◌, ◌⊎◌, ℕ, List, [], ◌∷◌, ◌++◌, length, Bool, cond, Some, Result, Ok, Err}
use Rattle.tl_action.specs.declared.check_fault.CheckFault.{CheckFault}
use Rattle.tl_action.specs.declared.check_fault.CheckFault.TheVariants as fault
use Rattle.tl_action.specs.declared.changes.Changes.{Changes}
use Rattle.tl_action.specs.ChangedWorlds.{world_after}
use Rattle.tl_check.specs.Histories.{AreTracks, IsFactHistory}
use Rattle.tl_check.specs.StatesAlong.{states_of}
use Rattle.tl_check.specs.Told.{AreNoted}
use Rattle.tl_check.specs.Tracks.{fact_with, line_in, HaveSeenAll, TellsOf}
use Rattle.tl_check.specs.Verdicts.{StopsAt, IsPastInAction}
use Rattle.tl_check.specs.declared.following.Follow.{Follow}
use Rattle.tl_check.specs.declared.following.Followed.{Followed}
use Rattle.tl_check.specs.declared.following.Followed.TheVariants as followed
use Rattle.tl_check.specs.declared.history.History.{History}
use Rattle.tl_check.specs.declared.predicate_tracks.PredicateTracks.{PredicateTracks}
use Rattle.tl_check.specs.declared.trail.Trail.{Trail}
use Rattle.tl_syntax.specs.declared.action.Action.{Action}
use Rattle.tl_syntax.specs.declared.fact.Fact.{Fact}
use Rattle.tl_syntax.specs.Keys.{fact_key}
use Rattle.tl_syntax.specs.Lists.{Among, Each}
use Rattle.tl_terms.specs.Acceptance.{states}
use Rattle.tl_terms.specs.Problem.{PlainProblem}
use Rattle.tl_terms.specs.ProblemMeaning.{plain_problem}
use Rattle.tl_terms.specs.World.{World, has_fact}

-- the changes tell which facts of the predicate hold in each of the worlds
abbrev pub IsTracked : List World → PredicateTracks → Type 0
IsTracked ws t = AreTracks t.pred ws t.tracks

-- whatever worlds the changes are of, the history is theirs
abbrev pub IsHistoryOf : PredicateTracks → History → Type 0
IsHistoryOf t h = (ws : List World) → IsTracked ws t → IsFactHistory ws h

-- and so of more predicates
abbrev pub AreHistoriesOf : List PredicateTracks → List History → Type 0
AreHistoriesOf ts hs = (ws : List World) → Each (IsTracked ws) ts → Each (IsFactHistory ws) hs

-- every fact that has changes was seen
abbrev pub HasSeenAll : PredicateTracks → Type 0
HasSeenAll t = HaveSeenAll t.tracks

abbrev pub HaveAllSeen : List PredicateTracks → Type 0
HaveAllSeen ts = Each HasSeenAll ts

-- the last of the worlds is this one
abbrev pub EndsIn : List World → World → Type 0
EndsIn ws w = (front : List World) × (ws ≡ front ++ w ∷ [])

-- the fact is of another predicate and nothing is noted, or it is told at the position to be what
-- it is in the world
abbrev pub NotesFact : Fact → World → ℕ → PredicateTracks → PredicateTracks → Type 0
NotesFact fact w at old new = ((fact.pred ≡ old.pred → ⊥) × (new ≡ old))
    ⊎ ((fact.pred ≡ old.pred) × (new.pred ≡ old.pred) × TellsOf fact (record { at = at; truth = has_fact w (fact_key fact) })
    old.tracks.lines new.tracks.lines)

-- those of the facts that are of the predicate are noted at the position with what they are in the
-- world
abbrev pub NotesFacts : List Fact → World → ℕ → PredicateTracks → PredicateTracks → Type 0
NotesFacts facts w at old new = (new.pred ≡ old.pred) × AreNoted old.pred at (λ a. has_fact w (old.pred, a))
    (λ a. Among (fact_with old.pred a) facts) (line_in old.tracks.lines) (line_in new.tracks.lines)

-- the next world is the one that the changes make of the last of these, of which there are so many
pub record MakeNext (changes : Changes) (next : World) (at : ℕ) (ws : List World) : Type 0 where
  pub last : World
  pub size : length ws ≡ at
  pub ends : EndsIn ws last
  pub is : next ≡ world_after last changes

-- what told of so many worlds, of the last of which the changes make the next one, tells of these
-- and the next one
abbrev pub TracksOn : Changes → World → ℕ → PredicateTracks → PredicateTracks → Type 0
TracksOn changes next at old new = (ws : List World) → MakeNext changes next at ws → IsTracked ws old → IsTracked (ws ++ next ∷ []) new

abbrev pub TrackAllOn : Changes → World → ℕ → List PredicateTracks → List PredicateTracks → Type 0
TrackAllOn changes next at old new = (ws : List World) → MakeNext changes next at ws → Each (IsTracked ws) old →
    Each (IsTracked (ws ++ next ∷ [])) new

-- the world is kept after the others, where worlds are kept
abbrev pub KeepsOne : Bool → World → List World → List World → Type 0
KeepsOne keeps w old new = new ≡ cond keeps (old ++ w ∷ []) old

-- what is kept of these worlds: the last one, all or none, and the changes along them
pub record Follows (keeps : Bool) (ws : List World) (t : Trail) : Type 0 where
  pub last : EndsIn ws t.world
  pub kept : t.kept.items ≡ cond keeps ws []
  pub tracks : Each (IsTracked ws) t.tracks.items

-- so it is of these and the one that the changes make of the last one, where it was of so many
abbrev pub FollowsOn : Bool → Changes → ℕ → Trail → Trail → Type 0
FollowsOn keeps changes at old new = (ws : List World) → length ws ≡ at → Follows keeps ws old →
    Follows keeps (ws ++ world_after old.world changes ∷ []) new

-- all actions of the plan execute
abbrev pub HasStates : PlainProblem → List Action → Type 0
HasStates p plan = states p plan ≡ Some (states_of p plan)

-- the first action that has no step, or what is kept of the states, or an operation that an action
-- looks at
abbrev pub IsFollowed : PlainProblem → Bool → List Action → Result Followed CheckFault → Type 0
IsFollowed p keeps plan (Ok (followed.Stopped k)) = StopsAt p plan k
IsFollowed p keeps plan (Ok (followed.Ended trail)) = HasStates p plan × Follows keeps (states_of p plan) trail
IsFollowed p keeps plan (Err (fault.Range k note)) = IsPastInAction p plan k note
IsFollowed p keeps plan (Err fault.NoMemory) = Unit {0}

-- so it is where the plan is followed in this way
abbrev pub IsFollowedBy : Follow → List Action → Result Followed CheckFault → Type 0
IsFollowedBy follow plan r = IsFollowed (plain_problem follow.task.now.problem) follow.keeps plan r
