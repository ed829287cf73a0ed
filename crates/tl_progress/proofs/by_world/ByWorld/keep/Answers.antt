use Rattle.std.proofs.Common.{◌≤◌, ℕ, sym, subst, arith}
use Rattle.tl_progress.specs.WorldsKept.{NewestEnds}
use Rattle.tl_progress.specs.declared.by_world.ByWorld.TheInside.{Inside}
use Rattle.tl_progress.proofs.EntryLaws.{newer-ends, one-more-ends}
use Rattle.tl_progress.proofs.by_world.ByWorld.keep.Goals as goal
use Rattle.tl_progress.proofs.by_world.ByWorld.keep.Goals.{then-self-incoming, else-self-incoming, in-Ok, in-Err}

pub invariant_of-self : goal.invariant_of-self
invariant_of-self c = elim c.match-insert.branch [
  | in-Ok w ↦ subst (NewestEnds c.if-self-incoming.self-inside.newest c.if-self-incoming.self-inside.begins) (sym w.in-Ok.ensures.entries)
      (one-more-ends c.if-self-incoming.self-inside.newest c.if-self-incoming.self-inside.begins
      c.if-self-incoming.self-inside.table.entries c.args.incoming c.args.number ends.0 ends.1)
  | in-Err w ↦ subst (NewestEnds c.if-self-incoming.self-inside.newest c.if-self-incoming.self-inside.begins)
      (sym w.in-Err.ensures.err) ends.1
]
  where
    Ends : Inside → Type 0
    Ends b = (c.args.incoming.world ≤ b.newest) × NewestEnds b.newest b.begins b.table.entries

    ends : Ends c.if-self-incoming.self-inside
    ends = elim c.if-self-incoming.branch [
      | then-self-incoming w ↦ subst Ends (sym w.self-inside-is) (
        omega arith,
        subst (λ (n : ℕ). NewestEnds c.args.incoming.world n c.self.inside.table.entries) (sym w.len-self-inside.ensures.len)
            (newer-ends c.self.inside.newest c.self.inside.begins c.args.incoming.world c.self.inside.table.entries w.if-self-incoming.true
            c.self.invariant),
      )
      | else-self-incoming w ↦ subst Ends (sym w.self-inside-is) (omega (arith, w.if-self-incoming.false), c.self.invariant)
    ]
