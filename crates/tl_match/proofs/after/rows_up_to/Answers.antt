use Rattle.std.proofs.Common.{◌≡◌, ◌<◌, ◌+◌, ◌-◌, [], length, get_or, refl, sym, subst, arith}
use Rattle.std.proofs.lemmas.List.{get_or_default}
use Rattle.tl_match.specs.Least.{HasLater}
use Rattle.tl_match.proofs.Later.{after-row}
use Rattle.tl_match.proofs.RowsAlike.{alike-rows}
use Rattle.tl_match.proofs.after.rows_up_to.Goals as goal

pub returns-then-is_after_row-clause-later : goal.returns-then-is_after_row-clause-later
returns-then-is_after_row-clause-later c =
    let parts = c.args.parts.now in
    let rows = c.args.rows.now in
    let tuple = c.args.tuple.now in
    let near = c.args.near in
    let found = c.if-is_after_row.true in
    let low = c.is_after_row.ensures.some found in
    let high = c.is_after_row.ensures.bound found in
    let inside : near - 1 < length rows = omega (arith, low, high) in
    let next : near ≡ near - 1 + 1 = omega (arith, low) in
    subst (λ b. HasLater parts b tuple rows near) (sym c.if-begun.true)
    (after-row parts (length tuple) (c.is_after_row.ensures.turn found) c.requires.each c.requires.slots tuple refl
    (get_or rows (near - 1) []) (c.is_after_row.ensures.row found) rows (near - 1) near next inside
    (get_or_default rows (near - 1) [] _ inside) (alike-rows rows c.requires.order))
