use Rattle.std.proofs.Common.{◌≡◌, ℕ, List, true, length, sym, subst}
use Rattle.tl_nodes.specs.Fits.{all_below}
use Rattle.tl_nodes.specs.Left.{IsLeft}
use Rattle.tl_nodes.specs.Numbers.{trees}
use Rattle.tl_nodes.proofs.LeftNumbers.{below-left, left-opened}
use Rattle.tl_nodes.proofs.nodes.Nodes.join_in.Goals as goal

pub join_left-requires : goal.join_left-requires
join_left-requires c =
    let ts = trees c.args.self.now in
    let parts = c.args.parts.now in
    let few = c.put_few_left.new.few in
    subst (λ (is : List ℕ). all_below (length ts) is ≡ true) (sym c.as_slice.ensures)
    (below-left ts c.args.junction parts few (left-opened ts c.args.junction parts few (c.put_few_left.ensures c.if-put_few_left.true)))

pub join_left-requires-2 : goal.join_left-requires-2
join_left-requires-2 c =
    let ts = trees c.args.self.now in
    let parts = c.args.parts.now in
    subst (λ (is : List ℕ). all_below (length ts) is ≡ true) (sym c.as_slice-2.ensures.keys)
    (below-left ts c.args.junction parts c.in_ok-left.left.keys c.in_ok-left.ensures)

pub returns-then-put_few_left-clause-number : goal.returns-then-put_few_left-clause-number
returns-then-put_few_left-clause-number c =
    let ts = trees c.args.self.now in
    let parts = c.args.parts.now in
    let few = c.put_few_left.new.few in
    c.join_left.ensures.number parts (subst (λ (is : List ℕ). IsLeft ts c.args.junction parts is) (sym c.as_slice.ensures)
    (left-opened ts c.args.junction parts few (c.put_few_left.ensures c.if-put_few_left.true)))

pub returns-then-put_few_left-clause-known : goal.returns-then-put_few_left-clause-known
returns-then-put_few_left-clause-known c =
    let ts = trees c.args.self.now in
    let parts = c.args.parts.now in
    let few = c.put_few_left.new.few in
    λ i h. c.join_left.ensures.known parts i (subst (λ (is : List ℕ). IsLeft ts c.args.junction parts is) (sym c.as_slice.ensures)
    (left-opened ts c.args.junction parts few (c.put_few_left.ensures c.if-put_few_left.true))) h
