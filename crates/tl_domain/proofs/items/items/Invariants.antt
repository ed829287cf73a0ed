use Rattle.std.proofs.Common.{◌≡◌, ◌≤◌, drop}
use Rattle.tl_rules.specs.Reads.{trees_in}
use Rattle.tl_domain.specs.DomainTrees.{domain_tree}
use Rattle.tl_domain.specs.Items.{items_breaks}
use Rattle.tl_domain.specs.MeaningOfItems.{with_items}
use Rattle.tl_domain.specs.Readers.{declared_by}
use Rattle.tl_domain.proofs.items.items.Given as goal

-- the items that are left stand after those so far, which break nothing
abbrev pub invariant-loop-form : goal.invariant-loop-form
invariant-loop-form l =
    let left = trees_in (drop l.form-index l.forms) in
    let first = declared_by l.initial.draft in
    let now = declared_by l.draft in
    record {
      breaks : items_breaks first (trees_in l.forms) ≡ items_breaks now left;
      meant : with_items l.names first (domain_tree l.initial.draft.domain) (trees_in l.forms) ≡
          with_items l.names now (domain_tree l.draft.domain) left;
      few : l.draft.levels ≤ 64;
    }
