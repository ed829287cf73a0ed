use Rattle.tl_depth.specs.NamedStacks.{StackIsNamed}
use Rattle.tl_depth.proofs.NamedStacks.{stack-more}
use Rattle.std.proofs.Common.{[], ◌∷◌, ◌++◌, refl, sym, subst, ap, ◌∙◌, arith}
use Rattle.tl_depth.specs.declared.level.Level.{Level}
use Rattle.tl_depth.specs.declared.stack.DepthFirst.{DepthFirst}
use Rattle.tl_depth.proofs.Ends.{pushed}
use Rattle.tl_depth.proofs.Replaying.{listed-pair}
use Rattle.tl_search.specs.NamedAnswers.{EventsAreNamed}
use Rattle.tl_depth.proofs.stack.DepthFirst.enter.Goals as goal

pub returns-clause-entered : goal.returns-clause-entered
returns-clause-entered g c =
    let level : Level = record { at = c.args.at; left = c.args.left; actions = c.in_ok-actions.actions; tried = 0 } in
    record {
      level = level;
      is = pushed _ _ c.actions_of.new.self.stack.items _ level c.push.ensures.items c.is_err.ensures.negation c.if-is_err.false ∙
          ap (λ (w : DepthFirst). w.stack.items ++ level ∷ []) c.actions_of.ensures.rest;
      its_pair = refl;
      its_left = refl;
      its_tried = refl;
      its_actions = listed-pair _ (g.S.SearchSpace.task c.args.space.now) _ c.args.at _ c.in_ok-actions.ensures.listed;
      sized = omega (arith, c.len-count.ensures);
    }

pub returns-clause-named : goal.returns-clause-named
returns-clause-named g c =
    let level : Level = record { at = c.args.at; left = c.args.left; actions = c.in_ok-actions.actions; tried = 0 } in
    record {
      stack = subst (StackIsNamed (g.S.SearchSpace.task c.args.space.now))
          (sym (pushed _ _ c.actions_of.new.self.stack.items _ level c.push.ensures.items c.is_err.ensures.negation c.if-is_err.false ∙
          ap (λ (w : DepthFirst). w.stack.items ++ level ∷ []) c.actions_of.ensures.rest))
          (stack-more (g.S.SearchSpace.task c.args.space.now) c.args.self.now.stack.items level c.requires.named.stack
          c.in_ok-actions.ensures.listed.3);
      events = subst (λ (w : DepthFirst). EventsAreNamed (g.S.SearchSpace.task c.args.space.now) w.events)
          (sym c.actions_of.ensures.rest) c.requires.named.events;
    }
