use Rattle.std.proofs.Common.{◌≤◌, List, length, refl, sym, ◌∙◌, subst}
use Rattle.tl_eval.specs.Frames.{AreKept}
use Rattle.tl_nodes.specs.Numbers.{trees}
use Rattle.tl_syntax.specs.declared.variable.Var.{Var}
use Rattle.tl_progress.proofs.QuantifierNodes.{vars-ForAll, vars-Exists, no-quantifier}
use Rattle.tl_progress.proofs.quantifier.Quantifier.keep.Goals as goal

pub keep-requires : goal.keep-requires
keep-requires c = record {
  few = subst (λ (ss : List Var). length ss ≤ 9)
      ((vars-ForAll (trees c.args.nodes.now) c.args.self.at c.get.result.now c.get.ensures.tree c.in-ForAll.vars c.in-ForAll.field-1
      c.in-ForAll.field-2 c.in-ForAll.is) ∙ sym c.as_slice.ensures) c.requires.few;
}

pub returns-in-ForAll : goal.returns-in-ForAll
returns-in-ForAll c = subst (λ (ss : List Var). AreKept ss c.args.env.now c.keep.new.values)
    (sym ((vars-ForAll (trees c.args.nodes.now) c.args.self.at c.get.result.now c.get.ensures.tree c.in-ForAll.vars c.in-ForAll.field-1
    c.in-ForAll.field-2 c.in-ForAll.is) ∙ sym c.as_slice.ensures)) c.keep.ensures

pub keep-requires-in-Exists : goal.keep-requires-in-Exists
keep-requires-in-Exists c = record {
  few = subst (λ (ss : List Var). length ss ≤ 9)
      ((vars-Exists (trees c.args.nodes.now) c.args.self.at c.get.result.now c.get.ensures.tree c.in-Exists.vars c.in-Exists.field-1
      c.in-Exists.field-2 c.in-Exists.is) ∙ sym c.as_slice-in-Exists.ensures) c.requires.few;
}

pub returns-in-Exists : goal.returns-in-Exists
returns-in-Exists c = subst (λ (ss : List Var). AreKept ss c.args.env.now c.keep-in-Exists.new.values)
    (sym ((vars-Exists (trees c.args.nodes.now) c.args.self.at c.get.result.now c.get.ensures.tree c.in-Exists.vars c.in-Exists.field-1
    c.in-Exists.field-2 c.in-Exists.is) ∙ sym c.as_slice-in-Exists.ensures)) c.keep-in-Exists.ensures

pub unreachable-requires : goal.unreachable-requires
unreachable-requires c = no-quantifier (trees c.args.nodes.now) c.args.self.at c.get.result.now c.get.ensures.tree c.get.ensures.parts
    c.in_default.not-ForAll c.in_default.not-Exists c.args.self refl c.requires.stands
