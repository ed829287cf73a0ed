use Rattle.std.proofs.Common.{◌≡◌, ◌++◌, ◌∷◌, [], slice_get, Some, refl, sym, ap, ◌∙◌, subst, append-nil, reverse, arith, List, length}
use Rattle.std.proofs.lemmas.Option.{slice_get_read}
use Rattle.tl_syntax.specs.declared.action.Action.{Action}
use Rattle.tl_cost.specs.Ways.{Follows}
use Rattle.tl_cost.proofs.Followed.{back-inside, back-shorter, back-follows, back-at-root}
use Rattle.tl_cost.proofs.ways.Found.path_to.Goals as goal

-- a list without items is empty
empty-by : (xs : List Action) → length xs ≡ 0 → xs ≡ []
empty-by [] e = refl
empty-by (x ∷ xs) e = absurd (omega arith)

pub loop-last-smaller : goal.loop-last-smaller
loop-last-smaller c = back-shorter c.args.self.now.ways.items c.requires.linked c.loop-last.here c.index.result.now c.in-Some.last
    (slice_get_read _ _ c.loop-last.here c.index.result.now refl c.loop-last.invariant.inside c.index.ensures) c.in-Some.is

pub loop-last-preserved : goal.loop-last-preserved
loop-last-preserved c =
    let ways = c.args.self.now.ways.items in
    let e : slice_get ways c.loop-last.here ≡ Some c.index.result.now =
    slice_get_read _ _ c.loop-last.here c.index.result.now refl c.loop-last.invariant.inside c.index.ensures in
    record {
      inside = back-inside ways c.requires.linked c.loop-last.here c.index.result.now c.in-Some.last e c.in-Some.is;
      follows = back-follows ways c.requires.linked c.loop-last.here c.index.result.now c.in-Some.last e c.in-Some.is c.args.at
          c.loop-last.back.items c.push.new.self.items (c.in_ok-push.ensures.items ∙
          ap (λ a. c.loop-last.back.items ++ a ∷ []) c.in_ok-action.ensures.same) c.loop-last.invariant.follows;
    }

pub returns : goal.returns
returns c =
    let ways = c.args.self.now.ways.items in
    let e : slice_get ways c.loop-last.here ≡ Some c.index.result.now =
    slice_get_read _ _ c.loop-last.here c.index.result.now refl c.loop-last.invariant.inside c.index.ensures in
    let whole = back-at-root ways c.loop-last.here c.args.at c.index.result.now c.loop-last.back.items e c.in_default.is
    c.loop-last.invariant.follows in
    let none : c.loop-action.back.items ≡ [] = empty-by c.loop-action.back.items
    (omega (arith, c.loop-action.back.ok, c.in_default-pop.ensures.cases.0)) in
    let path : c.loop-action.path ≡ reverse c.loop-last.back.items = sym (append-nil c.loop-action.path) ∙
    (ap (λ us. c.loop-action.path ++ reverse us) (sym none) ∙ c.loop-action.invariant) in
    subst (Follows ways c.args.at) (sym path) whole
