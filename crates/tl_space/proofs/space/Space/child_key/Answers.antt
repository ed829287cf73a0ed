use Rattle.std.proofs.Common.{◌≡◌, Some, refl, sym, ap, subst, ◌∙◌, arith}
use Rattle.std.proofs.lemmas.Option.{slice_get_within}
use Rattle.tl_action.specs.ChangedWorlds.{world_after}
use Rattle.tl_eval.specs.Notes.{Tells}
use Rattle.tl_nodes.specs.NodeTrees.{tree_at}
use Rattle.tl_nodes.specs.Numbers.{trees}
use Rattle.tl_terms.specs.Looked.{looked_by_action}
use Rattle.tl_terms.specs.NamedWorlds.{WorldIsNamed}
use Rattle.tl_terms.specs.Step.{step}
use Rattle.tl_terms.specs.World.{World}
use Rattle.tl_space.specs.Kept.{world_at}
use Rattle.tl_space.specs.Spaces.{problem_of, name_count}
use Rattle.tl_known.specs.WorldNumbers.{worlds_in}
use Rattle.tl_space.proofs.Judging.{executable-here, executable-named, world-named}
use Rattle.tl_space.proofs.PrunedChildren.{pruned-after}
use Rattle.tl_space.proofs.SpaceLaws.{label-later, tree-is, tree-of, world-at, world-of}
use Rattle.tl_space.proofs.space.Space.child_key.Goals as goal

pub put_those_of-requires : goal.put_those_of-requires
put_those_of-requires g c = record {
  executable = executable-here c.args.self.now c.args.at c.numbers-from.result c.get-world.result.now
      c.args.a.now c.requires.at c.numbers-from.ensures.node c.get-world.ensures c.requires.executable;
}

pub returns-in-Err-Range-clause-keeps : goal.returns-in-Err-Range-clause-keeps
returns-in-Err-Range-clause-keeps g c = record { task = refl; worlds = λ i x e. e; trees = λ i x e. e; pairs = refl; from = refl }

pub returns-in-Err-Range-clause-met : goal.returns-in-Err-Range-clause-met
returns-in-Err-Range-clause-met g c = record { worlds = omega arith; arrivals = refl }

pub returns-in-Err-NoMemory-clause-keeps : goal.returns-in-Err-NoMemory-clause-keeps
returns-in-Err-NoMemory-clause-keeps g c = record { task = refl; worlds = λ i x e. e; trees = λ i x e. e; pairs = refl; from = refl }

pub returns-in-Err-NoMemory-clause-met : goal.returns-in-Err-NoMemory-clause-met
returns-in-Err-NoMemory-clause-met g c = record { worlds = omega arith; arrivals = refl }

pub returns-in-Err-Range-clause-cause : goal.returns-in-Err-Range-clause-cause
returns-in-Err-Range-clause-cause g c = λ x e. rw c.in-Err-Range.field-0-is
    (subst (λ (w : World). Tells (looked_by_action (problem_of c.args.self.now) w c.args.a.now) c.in-Err-Range.note)
    (sym (world-of c.args.self.now c.numbers-from.result c.get-world.result.now c.get-world.ensures x.node
    (c.numbers-from.ensures.node x e)))
    (rw c.in-Err-Range.field-0-is at c.in-Err-Range.ensures.cause))

pub returns-then-is_broken_by-clause-keeps : goal.returns-then-is_broken_by-clause-keeps
returns-then-is_broken_by-clause-keeps g c = record { task = refl; worlds = λ i x e. e; trees = λ i x e. e; pairs = refl; from = refl }

pub returns-then-is_broken_by-clause-met : goal.returns-then-is_broken_by-clause-met
returns-then-is_broken_by-clause-met g c = record { worlds = omega arith; arrivals = refl }

pub returns-then-is_broken_by-clause-pruned : goal.returns-then-is_broken_by-clause-pruned
returns-then-is_broken_by-clause-pruned g c = λ x e.
    let s = c.args.self.now in
    let n = c.numbers-from.result in
    let w = c.get-world.result.now in
    let is = c.numbers-from.ensures.node x e in
    pruned-after (problem_of s) x.node c.args.a.now w (tree_at (trees s.nodes) n.label) c.put_those_of.new.self c.as_slice-dels.result.now
    c.as_slice-adds.result.now (world-of s n w c.get-world.ensures x.node is)
    (sym (tree-is (trees s.nodes) n.label x.node.formula (tree-of s n c.numbers-from.ensures.numbers.label.inside x.node is)))
    c.as_slice-dels.ensures c.as_slice-adds.ensures c.in-Ok.ensures.world (c.is_broken_by.ensures c.if-is_broken_by.true)

pub number_after-requires-clause-named : goal.number_after-requires-clause-named
number_after-requires-clause-named g c =
    let s = c.args.self.now in
    let w = c.get-world.result.now in
    let named = world-named s c.numbers-from.result.world w c.get-world.ensures in
    subst (λ (v : World). WorldIsNamed (name_count s) (world_after v c.put_those_of.new.self))
    (sym (world-at (worlds_in s.worlds) c.numbers-from.result.world w c.get-world.ensures))
    (c.in-Ok.ensures.named named (executable-named s w c.args.a.now named
    (executable-here s c.args.at c.numbers-from.result w c.args.a.now c.requires.at c.numbers-from.ensures.node c.get-world.ensures
    c.requires.executable)))

pub returns-in-Ok-number_after-clause-keeps : goal.returns-in-Ok-number_after-clause-keeps
returns-in-Ok-number_after-clause-keeps g c = let k = c.number_after.ensures.keeps in
    record { task = k.task; worlds = k.worlds; trees = k.trees; pairs = k.pairs; from = k.from }

pub returns-in-Ok-number_after-clause-met : goal.returns-in-Ok-number_after-clause-met
returns-in-Ok-number_after-clause-met g c = let k = c.number_after.ensures.met in record { worlds = k.worlds; arrivals = k.arrivals }

pub returns-in-Ok-number_after-clause-numbers : goal.returns-in-Ok-number_after-clause-numbers
returns-in-Ok-number_after-clause-numbers g c =
    let k = c.number_after.ensures.keeps in
    record {
      world = slice_get_within (worlds_in c.number_after.new.self.worlds) c.in-Ok-number_after.world _ c.in-Ok-number_after.ensures.number;
      label = label-later c.args.self.now c.number_after.new.self c.numbers-from.result.label
          (record { task = k.task; worlds = k.worlds; trees = k.trees; pairs = k.pairs; from = k.from })
          c.numbers-from.ensures.numbers.label;
    }

pub returns-in-Ok-number_after-clause-key : goal.returns-in-Ok-number_after-clause-key
returns-in-Ok-number_after-clause-key g c = λ x e.
    let s = c.args.self.now in
    let n = c.numbers-from.result in
    let w = c.get-world.result.now in
    let is = c.numbers-from.ensures.node x e in
    let v = world_after (world_at (worlds_in s.worlds) n.world) c.put_those_of.new.self in
    let here : world_at (worlds_in s.worlds) n.world ≡ w = world-at (worlds_in s.worlds) n.world w c.get-world.ensures in
    record {
      world = v;
      steps = ap (λ (u : World). step (problem_of s) u c.args.a.now) (world-of s n w c.get-world.ensures x.node is) ∙
          (sym c.in-Ok.ensures.world ∙ ap (λ (u : World). Some (world_after u c.put_those_of.new.self)) (sym here));
      number = c.in-Ok-number_after.ensures.number;
      label = c.number_after.ensures.keeps.trees n.label x.node.formula (tree-of s n c.numbers-from.ensures.numbers.label.inside x.node is);
    }
