use Rattle.std.proofs.Common.{◌≡◌, ◌+◌, true, false, Bool, length, ap, subst, ◌∙◌}
use Rattle.std.specs.Prelude.{not, if◌then◌else◌}
use Rattle.tl_cost.specs.Ways.{is_listed}
use Rattle.tl_cost.proofs.Entries.{adds-one}
use Rattle.tl_cost.proofs.open_list.OpenList.add.Goals as goal

pub returns-clause-adds : goal.returns-clause-adds
returns-clause-adds c = adds-one c.args.self.now (record { entries = c.insert.new.self }) c.args.entry c.in_ok-insert.ensures.updates

pub returns-clause-len : goal.returns-clause-len
returns-clause-len c =
    let new : c.in_ok-insert.field-0 ≡ true = c.in_ok-insert.ensures.added ∙
    (let f : is_listed c.args.self.now c.args.entry ≡ false = c.requires in ap not f) in
    let P : Bool → Type 0 = λ b. length c.insert.new.self.keys ≡ length c.args.self.now.entries.keys + (if b then 1 else 0) in
    subst P new c.in_ok-insert.ensures.len
