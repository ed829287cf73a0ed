use Rattle.std.proofs.Common.{◌≡◌, Some, arith}
use Rattle.std.proofs.lemmas.Grind.{common_steps}
use Rattle.std.proofs.lemmas.Option.{gets}
use Rattle.std.specs.List.{slice_get}
use Rattle.tl_syntax.specs.Texts.{AreDistinct}
use Rattle.tl_syntax.proofs.Texts.{number_of-at_place}
use Rattle.tl_syntax.proofs.names.Names.text.Goals as goal

-- the texts differ, so the text that stands at the number has no other
pub returns-clause-number : goal.returns-clause-number
returns-clause-number c =
    let distinct : AreDistinct c.args.self.now = rw (← c.self.view_is) c.self.invariant.distinct in
    let at : slice_get c.args.self.now c.args.number ≡ Some c.as_str.result.now = grind (arith, common_steps, gets) in
    number_of-at_place c.args.self.now c.as_str.result.now c.args.number distinct at
