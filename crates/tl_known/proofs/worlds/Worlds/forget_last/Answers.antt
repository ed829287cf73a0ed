use Rattle.std.proofs.Common.{subst, sym}
use Rattle.tl_terms.proofs.SameWorlds.{world-tells}
use Rattle.tl_terms.specs.SameWorlds.{world_eq}
use Rattle.tl_known.proofs.Numbering.{once}
use Rattle.tl_known.specs.TableNumbers.{AreNumbered}
use Rattle.tl_known.proofs.worlds.Worlds.forget_last.Goals as goal

pub invariant_of-self : goal.invariant_of-self
invariant_of-self c =
    let numbers = c.keep_first.new.self in
    record {
      one_to_one = once world_eq world-tells _ c.truncate.ensures.unique;
      numbered = subst (λ ws. AreNumbered ws numbers.starts.items numbers.all.items) (sym c.truncate.ensures.keys)
          (c.keep_first.ensures _ c.args.self.now.numbered);
    }
