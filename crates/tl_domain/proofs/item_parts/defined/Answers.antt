use Rattle.std.proofs.Common.{ℕ, not, ap, sym, lt-ltb, ◌∙◌}
use Rattle.std.specs.Prelude.{nat_lt}
use Rattle.tl_rules.specs.Reads.{trees_in}
use Rattle.tl_rules.proofs.Composed.{count-trees, none-both}
use Rattle.tl_sexpr.specs.Tree.{FormTree}
use Rattle.tl_domain.specs.Parts.{list_tree}
use Rattle.tl_domain.specs.Readers.{declared_by}
use Rattle.tl_domain.proofs.DefinitionItems.{AreOf, head-known, defined-listed, defined-none, defined-gives}
use Rattle.tl_domain.proofs.item_parts.defined.Goals as goal

pub returns-clause-read : goal.returns-clause-read
returns-clause-read c =
    let k = declared_by c.args.draft.now in
    let head = c.in_ok-head.head in
    let form : FormTree = list_tree c.in-Some.parts.head in
    let shape = c.in-Some.ensures in
    let room = ap not (ap (λ (n : ℕ). nat_lt n 64) (sym c.len.ensures.count) ∙ lt-ltb c.len.result 64 c.if-len-ge64.false) in
    let of : AreOf form head.name.text.now (trees_in head.variables.now) =
    record { named = ap (λ p. p.0) c.in_ok-head.ensures.read.1; rest = ap (λ p. p.1) c.in_ok-head.ensures.read.1 } in
    let later = head-known c.args.draft.now.signature _ _ _ _ _ of (sym (count-trees head.variables.now)) c.in_ok-push.ensures in (
      none-both _ _ (defined-listed k _ _ _ _ _ _ _ shape room)
          (defined-none k _ _ _ _ _ _ _ shape of later c.in_ok-levels.ensures.read.0 c.in_ok-head.ensures.read.0
          c.in_ok-definition.ensures.0),
      defined-gives c.args.names.now k c.args.draft.now.domain _ _ _ _ _ _ _ _ _ _ shape of later c.in_ok-levels.ensures.read.1
          c.in_ok-definition.ensures.1 c.in_ok-push-2.ensures,
    )
