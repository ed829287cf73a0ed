use Rattle.std.proofs.Common.{◌≡◌, List, length, Some, ap, sym, ◌∙◌, subst, arith}
use Rattle.std.specs.Option.{IfSome}
use Rattle.std.specs.Prelude.{slice_get}
use Rattle.tl_syntax.specs.declared.value.Value.{Value}
use Rattle.tl_world.proofs.Gathering.{row-there, written}
use Rattle.tl_world.proofs.gathered.put_tuple.Goals as goal

pub copy_from_slice-requires : goal.copy_from_slice-requires
copy_from_slice-requires c =
    let rows = c.args.tuples.now in
    let place = c.args.place.now in
    let there : slice_get rows place ≡ Some c.row.result.now = row-there rows place c.row.result.now
    (omega (arith, c.len.ensures)) c.row.ensures in
    let size : length c.row.result.now ≡ c.args.free = subst (λ o. IfSome o (λ t. length t ≡ c.args.free)) there c.requires.size in
    omega (arith, size, c.requires.few)

pub returns-clause-tuple : goal.returns-clause-tuple
returns-clause-tuple c =
    let rows = c.args.tuples.now in
    let place = c.args.place.now in
    let row = c.row.result.now in
    let there : slice_get rows place ≡ Some row = row-there rows place row (omega (arith, c.len.ensures)) c.row.ensures in
    let size : length row ≡ c.args.free = subst (λ o. IfSome o (λ t. length t ≡ c.args.free)) there c.requires.size in
    ap (λ (vs : List Value). Some vs) (written row c.copy_from_slice.new.self _ c.args.free c.copy_from_slice.ensures.after size) ∙
    sym there
