use Rattle.std.proofs.Common.{◌≡◌, ◌+◌, true, Bool, length, subst, ◌∙◌}
use Rattle.std.specs.Prelude.{if◌then◌else◌}
use Rattle.tl_cost.specs.Ways.{is_listed}
use Rattle.tl_cost.proofs.Entries.{drops-one}
use Rattle.tl_cost.proofs.open_list.OpenList.remove.Goals as goal

pub returns-clause-drops : goal.returns-clause-drops
returns-clause-drops c = drops-one c.args.self.now (record { entries = c.remove.new.self }) c.args.entry c.remove.ensures.updates

pub returns-clause-len : goal.returns-clause-len
returns-clause-len c =
    let there : c.remove.result ≡ true = c.remove.ensures.test ∙ (let f : is_listed c.args.self.now c.args.entry ≡ true = c.requires in f)
    in
    let P : Bool → Type 0 = λ b. length c.remove.new.self.keys + (if b then 1 else 0) ≡ length c.args.self.now.entries.keys in
    subst P there c.remove.ensures.len
