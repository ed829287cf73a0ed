use Rattle.std.proofs.Common.{◌<◌, List, refl, sym, subst}
use Rattle.tl_nodes.specs.Numbers.{trees}
use Rattle.tl_syntax.specs.declared.variable.Var.{Var}
use Rattle.tl_syntax.specs.Lists.{Each}
use Rattle.tl_progress.specs.Quantifiers.{HasSteppedOver, IsReader}
use Rattle.tl_progress.proofs.QuantifierNodes.{vars-ForAll, vars-Exists, no-quantifier}
use Rattle.tl_progress.proofs.quantifier.Quantifier.put_next.Goals as goal

pub put_instance-requires-clause-slots : goal.put_instance-requires-clause-slots
put_instance-requires-clause-slots c = subst (λ (ss : List Var). Each (λ s. s.slot < 32) ss)
    (vars-ForAll (trees c.args.nodes.now) c.args.self.at c.get.result.now c.get.ensures.tree c.in-ForAll.vars c.in-ForAll.field-1
    c.in-ForAll.field-2 c.in-ForAll.is) c.requires.slots

pub put_instance-requires-clause-reads : goal.put_instance-requires-clause-reads
put_instance-requires-clause-reads c = subst (λ (ss : List Var). IsReader ss c.args.tuples.now)
    (vars-ForAll (trees c.args.nodes.now) c.args.self.at c.get.result.now c.get.ensures.tree c.in-ForAll.vars c.in-ForAll.field-1
    c.in-ForAll.field-2 c.in-ForAll.is) c.requires.reads

pub returns-in-ForAll : goal.returns-in-ForAll
returns-in-ForAll c =
    subst (λ (ss : List Var). HasSteppedOver ss c.args.tuples.now c.put_instance.new.tuples c.args.env.now c.put_instance.new.env
    c.put_instance.result) (sym (vars-ForAll (trees c.args.nodes.now) c.args.self.at c.get.result.now c.get.ensures.tree
    c.in-ForAll.vars c.in-ForAll.field-1 c.in-ForAll.field-2 c.in-ForAll.is)) c.put_instance.ensures

pub put_instance-requires-in-Exists-clause-slots : goal.put_instance-requires-in-Exists-clause-slots
put_instance-requires-in-Exists-clause-slots c = subst (λ (ss : List Var). Each (λ s. s.slot < 32) ss)
    (vars-Exists (trees c.args.nodes.now) c.args.self.at c.get.result.now c.get.ensures.tree c.in-Exists.vars c.in-Exists.field-1
    c.in-Exists.field-2 c.in-Exists.is) c.requires.slots

pub put_instance-requires-in-Exists-clause-reads : goal.put_instance-requires-in-Exists-clause-reads
put_instance-requires-in-Exists-clause-reads c = subst (λ (ss : List Var). IsReader ss c.args.tuples.now)
    (vars-Exists (trees c.args.nodes.now) c.args.self.at c.get.result.now c.get.ensures.tree c.in-Exists.vars c.in-Exists.field-1
    c.in-Exists.field-2 c.in-Exists.is) c.requires.reads

pub returns-in-Exists : goal.returns-in-Exists
returns-in-Exists c =
    subst (λ (ss : List Var). HasSteppedOver ss c.args.tuples.now c.put_instance-in-Exists.new.tuples c.args.env.now
    c.put_instance-in-Exists.new.env c.put_instance-in-Exists.result)
    (sym (vars-Exists (trees c.args.nodes.now) c.args.self.at c.get.result.now c.get.ensures.tree c.in-Exists.vars c.in-Exists.field-1
    c.in-Exists.field-2 c.in-Exists.is)) c.put_instance-in-Exists.ensures

pub returns-in_default : goal.returns-in_default
returns-in_default c = absurd (no-quantifier (trees c.args.nodes.now) c.args.self.at c.get.result.now c.get.ensures.tree c.get.ensures.parts
    c.in_default.not-ForAll c.in_default.not-Exists c.args.self refl c.requires.stands)
