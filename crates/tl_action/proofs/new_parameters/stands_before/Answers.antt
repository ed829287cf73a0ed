use Rattle.std.proofs.Common.{◌≡◌, ◌||◌, ◌<◌, ◌≤◌, ◌+◌, ℕ, List, drop, take, length, get_or, Bool, sym, ap, ◌∙◌}
use Rattle.tl_action.specs.Join.{arranged, stands_in_one}
use Rattle.tl_action.proofs.Walks.{taken-opened, taken-past}
use Rattle.tl_syntax.specs.declared.bound.Bound.{Bound}
use Rattle.tl_syntax.specs.declared.variable.Var.{Var}
use Rattle.tl_syntax.specs.BoundVariables.{stands_in}
use Rattle.tl_action.proofs.new_parameters.stands_before.Goals as goal

-- of the first bounds, the next and those after it
opened : (s : Var) (bs : List Bound) (j k : ℕ) (b : Bound) → j ≤ length bs → k < j → b ≡ get_or bs k b →
    stands_in_one (drop k (take j bs)) s ≡ (stands_in s b || stands_in_one (drop (k + 1) (take j bs)) s)
opened s bs j k b h l q = ap (λ (cs : List Bound). stands_in_one cs s) (taken-opened bs j k b h l q)

pub returns-then-stands_in : goal.returns-then-stands_in
returns-then-stands_in c =
    let bs = (arranged c.args.bounds.now).bounds in
    let more = stands_in_one (drop (c.loop-k.k + 1) (take c.args.j bs)) c.args.var.now in
    sym (c.loop-k.invariant ∙ (opened c.args.var.now bs c.args.j c.loop-k.k c.bound.result.now c.requires c.loop-k-test.true c.bound.ensures
    ∙ ap (λ (x : Bool). x || more) (sym c.stands_in.ensures ∙ c.if-stands_in.true)))

pub loop-k-preserved : goal.loop-k-preserved
loop-k-preserved c =
    let bs = (arranged c.args.bounds.now).bounds in
    let more = stands_in_one (drop (c.loop-k.k + 1) (take c.args.j bs)) c.args.var.now in
    c.loop-k.invariant ∙ (opened c.args.var.now bs c.args.j c.loop-k.k c.bound.result.now c.requires c.loop-k-test.true c.bound.ensures ∙
    ap (λ (x : Bool). x || more) (sym c.stands_in.ensures ∙ c.if-stands_in.false))

pub returns : goal.returns
returns c =
    let bs = (arranged c.args.bounds.now).bounds in
    sym (c.loop-k.invariant ∙ ap (λ (cs : List Bound). stands_in_one cs c.args.var.now)
    (taken-past bs c.args.j c.loop-k.k c.requires c.loop-k-test.false))
