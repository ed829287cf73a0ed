use Rattle.std.proofs.Common.{◌+◌, ◌∷◌, [], ap, ◌∙◌, length, length-append, subst, sym}
use Rattle.tl_known.specs.TableNumbers.{AreNumbered}
use Rattle.tl_known.proofs.TableNumbers.{numbers-next}
use Rattle.tl_known.proofs.table_numbers.TableNumbers.numbers_of.Goals as goal

pub loop-i-preserved : goal.loop-i-preserved
loop-i-preserved c =
    let ks = c.loop-i.numbers.items in
    let one = c.number_of-one.result in
    record {
      starts = c.number_of-one.ensures.starts ∙ c.loop-i.invariant.starts;
      all = c.number_of-one.ensures.all ∙ c.loop-i.invariant.all;
      many = ap length c.in_ok-push.ensures.items ∙ (length-append ks (one ∷ []) ∙ ap (λ n. n + 1) c.loop-i.invariant.many);
      are = λ w e from. numbers-next c.args.worlds.now.keys c.args.number c.world_at-world.result.now w ks c.push.new.self.items c.loop-i.i
          c.table_at.result one
          c.world_at-world.ensures e c.loop-i.invariant.many c.table_at.ensures c.in_ok-push.ensures.items (c.loop-i.invariant.are w e from)
          (c.number_of-one.ensures.number w e from);
    }

pub number_of-one-requires-clause-numbered : goal.number_of-one-requires-clause-numbered
number_of-one-requires-clause-numbered c =
    let ws = c.args.worlds.now.keys in
    subst (λ starts. AreNumbered ws starts c.loop-i.self.all.items) (sym c.loop-i.invariant.starts)
    (subst (AreNumbered ws c.args.self.now.starts.items) (sym c.loop-i.invariant.all) c.requires.numbered)
