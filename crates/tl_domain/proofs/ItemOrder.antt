-- Items one after the other.
use Rattle.std.proofs.Common.{◌≡◌, ◌≤◌, List, Result, Ok, Err, OnOk, sym, ap, subst}
use Rattle.tl_sexpr.specs.Tree.{FormTree, FormTrees, more_forms}
use Rattle.tl_rules.specs.Reads.{IsFirst, Reads}
use Rattle.tl_rules.proofs.Composed.{first-front}
use Rattle.tl_domain.specs.Items.{item_breaks, items_breaks}
use Rattle.tl_rules.specs.Rules.{Break}
use Rattle.tl_rules.specs.declared.rule.FormFault.{FormFault}
use Rattle.tl_domain.specs.DomainTrees.{DomainTree}
use Rattle.tl_domain.specs.Declarations.{Declarations}

-- where an item was read, the levels are those that are meant
pub few-levels : (result : Result (Unit {0}) FormFault) (known meant : Declarations) (domain tree : DomainTree) (breaks : List Break) →
    Reads {Y = Declarations × DomainTree} (λ _. (known, domain)) result breaks (meant, tree) → meant.levels ≤ 64 →
    OnOk result (known.levels ≤ 64)
few-levels (Ok x) known meant domain tree breaks h few = let same : known ≡ meant = ap (λ p. p.0) h.1 in
    subst (λ (k : Declarations). k.levels ≤ 64) (sym same) few
few-levels (Err fault) known meant domain tree breaks h few = tt

pub ruleset few_levels = (few-levels)

-- the first break of the next item is the first of all where those before break nothing
pub first-item : (start k : Declarations) (all left : FormTrees) (f : FormTree) (fs : FormTrees) (e : FormFault) → items_breaks start all ≡
    items_breaks k left → left ≡ more_forms f fs → IsFirst (item_breaks k f) e → IsFirst (items_breaks start all) e
first-item start k all left f fs e same next h = rw (same, next) (first-front _ _ e h)
