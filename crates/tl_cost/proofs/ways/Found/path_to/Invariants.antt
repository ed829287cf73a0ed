use Rattle.std.proofs.Common.{◌≡◌, ◌<◌, ◌++◌, List, length, vec_len, reverse}
use Rattle.tl_syntax.specs.declared.action.Action.{Action}
use Rattle.tl_cost.specs.Ways.{Follows}
use Rattle.tl_cost.proofs.Followed.{length_at}
use Rattle.tl_cost.proofs.ways.Found.path_to.Given as goal

-- a path to the pair here goes on by the gathered actions to the pair that is asked for
abbrev pub invariant-loop-last : goal.invariant-loop-last
invariant-loop-last l = record {
  inside : l.here < length l.self.ways.items;
  follows : (front : List Action) → Follows l.self.ways.items l.here front → Follows l.self.ways.items l.at (front ++ reverse l.back.items);
}

abbrev pub decreases-loop-last : goal.decreases-loop-last
decreases-loop-last l = length_at l.self.ways.items l.here

-- the path so far, and after it the actions that are left
abbrev pub invariant-loop-action : goal.invariant-loop-action
invariant-loop-action l = l.path ++ reverse l.back.items ≡ reverse l.initial.back.items

abbrev pub decreases-loop-action : goal.decreases-loop-action
decreases-loop-action l = vec_len l.back
