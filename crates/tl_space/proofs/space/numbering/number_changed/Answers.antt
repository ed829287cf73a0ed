use Rattle.std.proofs.Common.{◌≡◌, ◌<◌, ℕ, List, [], length, slice_get, Some, IfOk, ◌∙◌, subst}
use Rattle.std.proofs.lemmas.Option.{slice_get-get_or}
use Rattle.std.specs.Prelude.{Result, Ok, Err}
use Rattle.tl_action.specs.declared.changes.Changes.{Changes}
use Rattle.tl_action.specs.ChangedWorlds.{world_after}
use Rattle.tl_syntax.specs.declared.fact.Fact.{Fact}
use Rattle.tl_syntax.specs.declared.memory.NoMemory.{NoMemory}
use Rattle.tl_syntax.specs.declared.place_value.PlaceValue.{PlaceValue}
use Rattle.tl_terms.specs.ProblemMeaning.{world_of}
use Rattle.tl_terms.specs.World.{World}
use Rattle.tl_space.specs.Kept.{world_at}
use Rattle.tl_known.specs.NumberedLists.{IsAdded, Stay}
use Rattle.tl_known.specs.Unchanged.{changed_world, IsNumberAfter}
use Rattle.tl_known.specs.WorldNumbers.{worlds_in}
use Rattle.tl_space.proofs.space.numbering.number_changed.Goals as goal

module _ (ws vs : List World) (from : ℕ) (c : Changes) (dels adds : List Fact) (sets : List PlaceValue) (below : from < length ws)
    (d : dels ≡ c.dels) (a : adds ≡ c.adds) (s : sets ≡ c.sets) where
  after-is : changed_world (world_at ws from) dels adds sets ≡ world_after (world_at ws from) c
  unfolding world_after
  after-is = λ i. changed_world (world_at ws from) (d i) (a i) (s i)

  at : slice_get ws from ≡ Some (world_at ws from)
  at = slice_get-get_or ws from (world_of [] []) below

  numbered : (r : Result ℕ NoMemory) → Stay ws vs → IfOk r (IsNumberAfter vs from dels adds sets) →
      IfOk r (λ n. slice_get vs n ≡ Some (world_after (world_at ws from) c))
  numbered (Err e) stay h = tt
  numbered (Ok n) stay h = h (world_at ws from) (stay from (world_at ws from) at) ∙ λ i. Some (after-is i)

pub returns-clause-number : goal.returns-clause-number
returns-clause-number c = numbered (worlds_in c.args.worlds.now) (worlds_in c.number_after.new.self) c.args.from c.args.changes.now
    c.as_slice.result.now c.as_slice-2.result.now c.as_slice-3.result.now c.requires c.as_slice.ensures c.as_slice-2.ensures
    c.as_slice-3.ensures c.number_after.result c.number_after.ensures.stay c.number_after.ensures.number

pub returns-clause-kept : goal.returns-clause-kept
returns-clause-kept c =
    let ws = worlds_in c.args.worlds.now in
    subst (λ w. IsAdded ws w (worlds_in c.number_after.new.self))
    (after-is ws (worlds_in c.number_after.new.self) c.args.from c.args.changes.now c.as_slice.result.now c.as_slice-2.result.now
    c.as_slice-3.result.now c.requires c.as_slice.ensures c.as_slice-2.ensures c.as_slice-3.ensures)
    (c.number_after.ensures.kept (world_at ws c.args.from) (slice_get-get_or ws c.args.from (world_of [] []) c.requires))
