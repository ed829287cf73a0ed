use Rattle.std.proofs.Common.{◌≡◌, ◌++◌, ◌∷◌, [], List, length, reverse, sym, ap, subst, ◌∙◌, arith}
use Rattle.tl_syntax.specs.declared.action.Action.{Action}
use Rattle.tl_space.specs.Kept.{path_at, paths_of}
use Rattle.tl_space.proofs.Growing.{empty-length}
use Rattle.tl_space.proofs.Keeping.{met-before}
use Rattle.tl_space.proofs.Arriving.{path-of}
use Rattle.tl_space.proofs.Walked.{path-begins, path-before, path-first, path-end, earlier-inside}
use Rattle.tl_syntax.specs.Lists.{Each}
use Rattle.tl_action.specs.Actions.{ArgumentsAreNamed}
use Rattle.tl_search.proofs.ListLaws.{get-inside}
use Rattle.tl_space.specs.Spaces.{name_count, kept_of}
use Rattle.tl_space.proofs.PathNames.{path-named}
use Rattle.tl_space.proofs.space.Space.path.Goals as goal

pub loop-j-init : goal.loop-j-init
loop-j-init c = record {
  inside = met-before c.args.self.now c.args.at c.requires;
  so_far =
      path-begins (path_at (paths_of c.args.self.now.from) c.args.at) c.new-back.result.items c.new-back.ensures.items;
}

pub loop-j-smaller : goal.loop-j-smaller
loop-j-smaller c = c.args.self.now.kept.earlier c.loop-j.i c.in-Some.j c.in-Some.action.now c.in-Some.ensures.some

pub loop-j-preserved : goal.loop-j-preserved
loop-j-preserved c =
    let ms = c.args.self.now.from in
    let step = c.in-Some.ensures.some in
    record {
      inside = earlier-inside ms c.args.self.now.kept.earlier c.loop-j.i c.loop-j.invariant.inside c.in-Some.j c.in-Some.action.now step;
      so_far = path-before ms c.args.self.now.kept.earlier c.args.at c.loop-j.i c.loop-j.back.items c.loop-j.invariant.so_far c.in-Some.j
          c.in-Some.action.now step
          ∙ ap (λ (u : List Action). path_at (paths_of ms) c.in-Some.j ++ reverse u)
          (sym (c.in_ok-push.ensures.items ∙ ap (λ (a : Action). c.loop-j.back.items ++ a ∷ []) c.in_ok-copy.ensures.same));
    }

pub loop-action-init : goal.loop-action-init
loop-action-init c =
    let ms = c.args.self.now.from in
    path-first ms c.args.self.now.kept.earlier c.args.at c.loop-j.i c.loop-j.back.items c.loop-j.invariant.so_far c.in_default.ensures.none
    ∙ sym (ap (λ (u : List Action). u ++ reverse c.loop-j.back.items) c.new-path.ensures)

pub returns-clause-path : goal.returns-clause-path
returns-clause-path c =
    let none = c.in_default-pop.ensures.cases.0 in
    let bare : length c.loop-action.back.items ≡ 0 = omega (arith, c.loop-action.back.ok, none) in
    λ x e. path-end (path_at (paths_of c.args.self.now.from) c.args.at) c.loop-action.path c.loop-action.back.items c.loop-action.invariant
    (empty-length c.loop-action.back.items bare) ∙ path-of c.args.self.now c.args.at x e

pub returns-clause-named : goal.returns-clause-named
returns-clause-named c =
    let s = c.args.self.now in
    let x = get-inside (kept_of s) c.args.at c.requires in
    subst (Each (ArgumentsAreNamed (name_count s))) (sym (returns-clause-path c x.0 x.1)) (path-named s c.args.at x.0 x.1)
