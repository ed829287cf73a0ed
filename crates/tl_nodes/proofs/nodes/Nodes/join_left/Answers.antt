use Rattle.std.proofs.Common.{◌≡◌, ℕ, true, false, refl, sym, ◌∙◌, subst, IfOk, Some, slice_get}
use Rattle.tl_nodes.proofs.nodes.Nodes.join_left.Goals as goal
use Rattle.tl_nodes.specs.Joins.{simplified_join, decides}
use Rattle.tl_nodes.specs.NodeTrees.{trees_at}
use Rattle.tl_nodes.specs.Numbers.{trees, Denotes}
use Rattle.tl_nodes.proofs.Constants.{truth, falsehood}
use Rattle.tl_nodes.proofs.JoinedNumbers.{decided, none-left, one-left, many-left, asked}
use Rattle.tl_nodes.proofs.LeftNumbers.{any-zero}

pub returns-then-contains-clause-number : goal.returns-then-contains-clause-number
returns-then-contains-clause-number c = λ parts w.
    let s = c.args.self.now in
    let j = c.args.junction in
    let h = asked _ (decides j) _ c.args.left.now _ true c.contains.ensures.value c.zero_of-zero.ensures refl c.if-contains.true in
    let d = decided (trees s) s.one_to_one (truth _ s.constants) (falsehood _ s.constants) j w.flat
    (trees_at (trees s) parts) w.below w.same (sym (any-zero j c.args.left.now w.flat w.left) ∙ h) in
    subst (λ (i : ℕ). slice_get (trees s) i ≡ Some (simplified_join j (trees_at (trees s) parts))) (sym c.zero_of-zero.ensures) d

pub returns-then-left-eq0-clause-number : goal.returns-then-left-eq0-clause-number
returns-then-left-eq0-clause-number c = λ parts w.
    let s = c.args.self.now in
    let j = c.args.junction in
    let h = asked _ (decides j) _ c.args.left.now _ false c.contains.ensures.value c.zero_of-zero.ensures refl c.if-contains.false in
    let d = none-left (trees s) s.one_to_one (truth _ s.constants) (falsehood _ s.constants) j w.flat
    (trees_at (trees s) parts) w.below w.same (sym (any-zero j c.args.left.now w.flat w.left) ∙ h) c.args.left.now w.left
    c.if-left-eq0.true in
    subst (λ (i : ℕ). slice_get (trees s) i ≡ Some (simplified_join j (trees_at (trees s) parts))) (sym c.unit_of.ensures) d

pub returns-then-left-eq1-clause-number : goal.returns-then-left-eq1-clause-number
returns-then-left-eq1-clause-number c = λ parts w.
    let s = c.args.self.now in
    let j = c.args.junction in
    let h = asked _ (decides j) _ c.args.left.now _ false c.contains.ensures.value c.zero_of-zero.ensures refl c.if-contains.false in
    one-left (trees s) s.one_to_one (truth _ s.constants) (falsehood _ s.constants) j w.flat (trees_at (trees s) parts) w.below w.same
    (sym (any-zero j c.args.left.now w.flat w.left) ∙ h) c.args.left.now w.left c.if-left-eq1.true

pub returns-in-Some-clause-number : goal.returns-in-Some-clause-number
returns-in-Some-clause-number c = λ parts w.
    let s = c.args.self.now in
    let j = c.args.junction in
    let h = asked _ (decides j) _ c.args.left.now _ false c.contains.ensures.value c.zero_of-zero.ensures refl c.if-contains.false in
    let d = many-left (trees s) s.one_to_one (truth _ s.constants) (falsehood _ s.constants) j w.flat
    (trees_at (trees s) parts) w.below w.same (sym (any-zero j c.args.left.now w.flat w.left) ∙ h) c.args.left.now w.left
    c.if-left-eq0.false c.if-left-eq1.false in
    subst (λ t. Denotes s c.in-Some.number t) d c.in-Some.ensures

pub returns-in-None-clause-number : goal.returns-in-None-clause-number
returns-in-None-clause-number c = λ parts w.
    let s = c.args.self.now in
    let j = c.args.junction in
    let h = asked _ (decides j) _ c.args.left.now _ false c.contains.ensures.value c.zero_of-zero.ensures refl c.if-contains.false in
    let d = many-left (trees s) s.one_to_one (truth _ s.constants) (falsehood _ s.constants) j w.flat
    (trees_at (trees s) parts) w.below w.same (sym (any-zero j c.args.left.now w.flat w.left) ∙ h) c.args.left.now w.left
    c.if-left-eq0.false c.if-left-eq1.false in
    subst (λ t. IfOk c.join_anew.result (λ i. Denotes c.join_anew.new.self i t)) d c.join_anew.ensures.number

pub returns-in-None-clause-known : goal.returns-in-None-clause-known
returns-in-None-clause-known c = λ parts k w.
    let s = c.args.self.now in
    let j = c.args.junction in
    let h = asked _ (decides j) _ c.args.left.now _ false c.contains.ensures.value c.zero_of-zero.ensures refl c.if-contains.false in
    let d = many-left (trees s) s.one_to_one (truth _ s.constants) (falsehood _ s.constants) j w.flat
    (trees_at (trees s) parts) w.below w.same (sym (any-zero j c.args.left.now w.flat w.left) ∙ h) c.args.left.now w.left
    c.if-left-eq0.false c.if-left-eq1.false in
    subst (λ t. (i : ℕ) → Denotes s i t → trees c.join_anew.new.self ≡ trees s) d c.join_anew.ensures.known k
