use Rattle.std.proofs.Common.{◌≡◌, ◌<◌, ◌+◌, ◌-◌, List, [], length, map, take, get_or, refl, sym, subst, arith}
use Rattle.std.proofs.lemmas.List.{get_or-map, length-map}
use Rattle.tl_syntax.specs.declared.value.Value.{Value}
use Rattle.tl_syntax.specs.declared.value.Value.TheVariants.{Sym}
use Rattle.tl_rows.specs.declared.table.PlaceRow.{PlaceRow}
use Rattle.tl_match.specs.Least.{HasLater}
use Rattle.tl_rows.specs.Tables.{whole_row}
use Rattle.tl_match.proofs.Later.{after-row}
use Rattle.tl_match.proofs.RowsAlike.{alike-whole}
use Rattle.tl_match.proofs.Skipping.{all-kept}
use Rattle.tl_match.proofs.WholeRows.{leading-fits}
use Rattle.tl_match.proofs.first_place.places_up_to.Goals as goal

pub returns-then-is_after_place-clause-later : goal.returns-then-is_after_place-clause-later
returns-then-is_after_place-clause-later c =
    let parts = c.args.parts.now in
    let rows = c.args.rows.now in
    let tuple = c.args.tuple.now in
    let near = c.args.near in
    let found = c.if-is_after_place.true in
    let low = c.is_after_place.ensures.some found in
    let high = c.is_after_place.ensures.bound found in
    let inside : near - 1 < length rows = omega (arith, low, high) in
    let next : near ≡ near - 1 + 1 = omega (arith, low) in
    let other : PlaceRow = record { args = []; value = Sym 0 } in
    let row : PlaceRow = get_or rows (near - 1) other in
    subst (λ b. HasLater parts b tuple (map whole_row rows) near) (sym c.if-begun.true)
    (after-row parts (length tuple) (c.is_after_place.ensures.turn found) c.requires.each c.requires.slots tuple refl (whole_row row)
    (c.is_after_place.ensures.row found other)
    (map whole_row rows) (near - 1) near next (subst (λ n. near - 1 < n) (sym (length-map rows whole_row)) inside)
    (sym (get_or-map whole_row rows (near - 1) other (whole_row row) inside)) (alike-whole rows c.requires.order))

pub returns-then-are_in_turn-clause-later : goal.returns-then-are_in_turn-clause-later
returns-then-are_in_turn-clause-later c =
    let key : PlaceRow → List Value = λ r. r.args in
    let parts = c.args.parts.now in
    let rows = c.args.rows.now in
    subst (λ b. HasLater parts b c.args.tuple.now (map whole_row rows) c.places_before.result) (sym c.if-begun.false)
    (λ t st. all-kept key whole_row (take (length parts - 1) parts) parts
    (leading-fits parts) rows c.places_before.result c.places_before.ensures.before t)
