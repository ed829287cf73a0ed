use Rattle.std.proofs.Common.{refl, arith}
use Rattle.tl_known.specs.WorldNumbers.{worlds_in}
use Rattle.tl_space.proofs.Forgetting.{one-fewer, still-named, still-kept, still-remembered, still-found, kept-as-before, kept-stay}
use Rattle.tl_space.proofs.space.Space.forget_world.Goals as goal

pub forget_last-requires : goal.forget_last-requires
forget_last-requires c = let l = c.requires.last in omega (arith, l)

pub invariant_of-self : goal.invariant_of-self
invariant_of-self c =
    let s = c.args.self.now in
    let vs = worlds_in c.forget_last.new.self in
    let made = one-fewer (worlds_in s.worlds) vs c.args.world c.requires.last c.forget_last.ensures in
    record {
      lists = s.lists;
      named_worlds = still-named s vs c.args.world c.requires made;
      kept = still-kept s vs c.args.world c.requires made;
      remembered = still-remembered s vs c.args.world c.requires made;
      found = still-found s vs c.args.world c.requires made c.forget.new.self c.forget.ensures.none c.forget.ensures.fewer;
    }

pub returns-clause-grows : goal.returns-clause-grows
returns-clause-grows c =
    let s = c.args.self.now in
    let vs = worlds_in c.forget_last.new.self in
    record {
      task = refl;
      kept = kept-stay s vs c.args.world c.requires (one-fewer (worlds_in s.worlds) vs c.args.world c.requires.last c.forget_last.ensures);
      labels = λ i x e. e;
      trees = λ i x e. e;
    }

pub returns-clause-kept : goal.returns-clause-kept
returns-clause-kept c =
    let s = c.args.self.now in
    let vs = worlds_in c.forget_last.new.self in
    kept-as-before s vs c.args.world c.requires (one-fewer (worlds_in s.worlds) vs c.args.world c.requires.last c.forget_last.ensures)
