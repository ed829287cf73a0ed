use Rattle.std.proofs.Common.{◌≡◌, ℕ, subst, IfOk, Some, sym, ap, ◌∙◌}
use Rattle.tl_nodes.proofs.nodes.Nodes.not.Goals as goal
use Rattle.tl_nodes.specs.Numbers.{trees, Denotes}
use Rattle.tl_nodes.proofs.Constants.{truth, falsehood}
use Rattle.tl_nodes.proofs.Negations.{not-true-node, not-false-node, not-not-node, fits-not, other-not}

pub intern-requires : goal.intern-requires
intern-requires c = fits-not _ c.args.part c.requires

pub returns-in-True-clause-number : goal.returns-in-True-clause-number
returns-in-True-clause-number c = falsehood _ c.args.self.now.constants ∙
    ap Some (sym (not-true-node _ c.args.part _ c.get.ensures.tree c.in-True.is))

pub returns-in-False-clause-number : goal.returns-in-False-clause-number
returns-in-False-clause-number c = truth _ c.args.self.now.constants ∙
    ap Some (sym (not-false-node _ c.args.part _ c.get.ensures.tree c.in-False.is))

pub returns-in-Not-clause-number : goal.returns-in-Not-clause-number
returns-in-Not-clause-number c = not-not-node _ c.args.part _ c.get.ensures.tree c.in-Not.inner c.in-Not.is c.get.ensures.parts

pub returns-in_default : goal.returns-in_default
returns-in_default c =
    let h = c.in_default in
    let e = other-not _ c.args.part _ c.get.ensures.tree c.get.ensures.parts h.not-True h.not-False h.not-Not in
    record {
      kept = c.intern.ensures.kept;
      refused = c.intern.ensures.refused;
      known = subst (λ t. (i : ℕ) → Denotes c.args.self.now i t → trees c.intern.new.self ≡ trees c.args.self.now) e c.intern.ensures.known;
      number = subst (λ t. IfOk c.intern.result (λ i. Denotes c.intern.new.self i t)) e c.intern.ensures.number;
    }
