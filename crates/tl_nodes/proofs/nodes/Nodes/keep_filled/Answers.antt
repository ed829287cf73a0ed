use Rattle.std.proofs.Common.{◌∙◌}
use Rattle.tl_nodes.specs.Numbers.{trees}
use Rattle.tl_nodes.proofs.FilledTrees.{filled-set, set-length, is-filled}
use Rattle.tl_nodes.proofs.nodes.Nodes.keep_filled.Goals as goal

pub invariant_of-self : goal.invariant_of-self
invariant_of-self c =
    let s = c.args.self.now in
    let e = c.of-entry.result in
    record {
      below = s.below;
      one_to_one = s.one_to_one;
      constants = s.constants;
      flags = s.flags;
      places = set-length s.filled.items c.home_of-home.result e ∙ s.places;
      filled_is = filled-set (trees s) s.filled.items c.home_of-home.result e s.filled_is
          (is-filled (trees s) e c.args.at c.args.bindings.now c.args.number c.of-entry.ensures.at c.of-entry.ensures.few
          c.of-entry.ensures.bindings c.of-entry.ensures.number c.requires.at c.requires.number);
    }
