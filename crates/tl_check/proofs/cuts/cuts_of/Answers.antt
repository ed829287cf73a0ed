use Rattle.std.proofs.Common.{◌≡◌, ◌∙◌, ◌++◌, sym, ap, drop, replicate, Bool, Option, None, IfNone, subst}
use Rattle.tl_check.proofs.CutLaws.{cut-on, begins, lefts-push, rights-push, lefts-all, rights-all}
use Rattle.tl_check.proofs.NoValue.{none-left}
use Rattle.tl_check.specs.Cuts.{lefts, rights}
use Rattle.tl_check.specs.Rests.{rest_labels}
use Rattle.tl_check.specs.Runs.{spread}
use Rattle.tl_check.specs.declared.run.Cut.{Cut}
use Rattle.tl_check.proofs.cuts.cuts_of.Goals as goal

ends : (o : Option Cut) (P : Type 0) → o ≡ None → IfNone o P → P
ends o P q h = subst (λ (x : Option Cut). IfNone x P) q h

pub loop-cut-preserved : goal.loop-cut-preserved
loop-cut-preserved c =
    let k = c.in-Some.cut.count in
    let xs = rest_labels c.loop-cut.x in
    let ys = rest_labels c.loop-cut.y in
    record {
      left = cut-on k c.in-Some.cut.left (lefts c.loop-cut.cuts.items) (lefts c.push.new.self.items) xs (rest_labels c.rest_after-x.result)
          (spread c.args.left.now) c.loop-cut.invariant.left
          (ap lefts c.in_ok-push.ensures.items ∙ lefts-push c.loop-cut.cuts.items c.in-Some.cut)
          (begins c.loop-cut.x.first c.loop-cut.x.later.now k c.in-Some.ensures.left.1 ∙
          ap (λ (b : Bool). replicate k b ++ drop k xs) (sym c.in-Some.ensures.left.0)) c.rest_after-x.ensures;
      right = cut-on k c.in-Some.cut.right (rights c.loop-cut.cuts.items) (rights c.push.new.self.items) ys
          (rest_labels c.rest_after-y.result) (spread c.args.right.now) c.loop-cut.invariant.right
          (ap rights c.in_ok-push.ensures.items ∙ rights-push c.loop-cut.cuts.items c.in-Some.cut)
          (begins c.loop-cut.y.first c.loop-cut.y.later.now k c.in-Some.ensures.right.1 ∙
          ap (λ (b : Bool). replicate k b ++ drop k ys) (sym c.in-Some.ensures.right.0)) c.rest_after-y.ensures;
    }

pub returns-clause-left : goal.returns-clause-left
returns-clause-left c = lefts-all c.loop-cut.cuts.items (rest_labels c.loop-cut.x) (rest_labels c.loop-cut.y) (spread c.args.left.now)
    (spread c.args.right.now) c.loop-cut.invariant.left c.loop-cut.invariant.right c.requires
    (ends c.next_cut.result _ (none-left c.next_cut.result c.in_default.not-Some) c.next_cut.ensures.none)

pub returns-clause-right : goal.returns-clause-right
returns-clause-right c = rights-all c.loop-cut.cuts.items (rest_labels c.loop-cut.x) (rest_labels c.loop-cut.y) (spread c.args.left.now)
    (spread c.args.right.now) c.loop-cut.invariant.left c.loop-cut.invariant.right c.requires
    (ends c.next_cut.result _ (none-left c.next_cut.result c.in_default.not-Some) c.next_cut.ensures.none)
