use Rattle.std.proofs.Common.{false, Option, Some, None}
use Rattle.std.specs.Prelude.{IfSome}
use Rattle.std.specs.BTreeSet.{IsLowerBound, Updates}
use Rattle.tl_cost.specs.Ways.{Drops, IsFirstOf, entry_cmp, is_listed}
use Rattle.tl_cost.specs.declared.open_list.Entry.{Entry}
use Rattle.tl_cost.specs.declared.open_list.OpenList.{OpenList}
use Rattle.tl_cost.proofs.Entries.{first-one, drops-one}
use Rattle.tl_cost.proofs.open_list.OpenList.take_first.Goals as goal

first-if : (old : OpenList) (o : Option Entry) → IfSome o (IsLowerBound entry_cmp old.entries) → IfSome o (IsFirstOf (is_listed old))
first-if old None h = tt
first-if old (Some e) h = first-one old e h

drops-if : (old new : OpenList) (o : Option Entry) → IfSome o (λ e. Updates entry_cmp old.entries new.entries e false) →
    IfSome o (Drops (is_listed old) (is_listed new))
drops-if old new None h = tt
drops-if old new (Some e) h = drops-one old new e h

pub returns-clause-first : goal.returns-clause-first
returns-clause-first c = first-if c.args.self.now c.pop_first.result c.pop_first.ensures.least

pub returns-clause-drops : goal.returns-clause-drops
returns-clause-drops c = drops-if c.args.self.now (record { entries = c.pop_first.new.self }) c.pop_first.result c.pop_first.ensures.updates
