use Rattle.std.proofs.Common.{◌≡◌, ◌+◌, ◌-◌, ◌<◌, List, [], length, map, take, true, None, ap, refl, sym, ◌∙◌, subst, arith}
use Rattle.std.proofs.lemmas.List.{drop_all, get_or-map, length-map}
use Rattle.std.specs.Ordering.{is_lt}
use Rattle.tl_syntax.specs.declared.value.Value.{Value}
use Rattle.tl_rows.specs.declared.table.PlaceRow.{PlaceRow}
use Rattle.tl_match.specs.Front.{front, front_cmp}
use Rattle.tl_world.specs.Gathered.{AreTuplesOf}
use Rattle.tl_match.specs.Least.{fits_some}
use Rattle.tl_rows.specs.Tables.{whole_row}
use Rattle.tl_world.proofs.Gathering.{none-yet, no-more, one-more, few-matched}
use Rattle.tl_match.proofs.Skipping.{least-skipped, none-past}
use Rattle.tl_match.proofs.WholeRows.{leading-fits}
use Rattle.tl_world.proofs.gathered.tuples_of_places.Goals as goal

pub loop-k-init : goal.loop-k-init
loop-k-init c =
    let key : PlaceRow → List Value = λ r. r.args in
    let parts = c.args.parts.now in
    let rows = c.args.rows.now in
    let from = c.places_before-k.result in
    record {
      within = c.places_before-k.ensures.bound;
      leading = refl;
      tuples = subst (AreTuplesOf c.args.free parts (take from (map whole_row rows))) (sym c.new-tuples.ensures.items)
          (none-yet c.args.free parts (take from (map whole_row rows))
          (least-skipped key whole_row (take (length parts - 1) parts) parts
          (leading-fits parts) None c.args.free rows from c.places_before-k.ensures.before));
    }

pub push_match-requires : goal.push_match-requires
push_match-requires c = few-matched c.args.free c.args.parts.now (whole_row c.place-row.result) c.match_place.result c.requires.few
    c.match_place.ensures

pub returns-then-is_lt : goal.returns-then-is_lt
returns-then-is_lt c =
    let key : PlaceRow → List Value = λ r. r.args in
    let parts = c.args.parts.now in
    let rows = c.args.rows.now in
    let k = c.loop-k.k in
    let row = c.place-row.result in
    let lead = take (length parts - 1) parts in
    let inside : k < length rows = omega (arith, c.loop-k-test.true, c.len.ensures) in
    let less : is_lt (front_cmp (front 0 lead []) row.args) ≡ true = ap (λ r. is_lt (front_cmp (front 0 lead []) r))
    (sym c.place_args.ensures) ∙ (ap is_lt (sym c.order_of_front.ensures) ∙ (sym c.is_lt.ensures ∙ c.if-is_lt.true)) in
    no-more c.args.free parts (map whole_row rows) k c.loop-k.tuples.items
    (none-past key whole_row lead parts (leading-fits parts) rows k row inside c.requires.order
    (subst (λ (r : PlaceRow). is_lt (front_cmp (front 0 lead []) r.args) ≡ true) (c.place-row.ensures _) less))
    c.loop-k.invariant.tuples

pub loop-k-preserved : goal.loop-k-preserved
loop-k-preserved c =
    let parts = c.args.parts.now in
    let rows = c.args.rows.now in
    let k = c.loop-k.k in
    let row = c.place-row.result in
    let inside : k < length rows = omega (arith, c.loop-k-test.true, c.len.ensures) in
    let below = subst (λ n. k < n) (sym (length-map rows whole_row)) inside in
    let here = get_or-map whole_row rows k row (whole_row row) inside ∙ ap whole_row (sym (c.place-row.ensures _)) in
    record {
      within = omega (arith, inside);
      leading = refl;
      tuples = subst (AreTuplesOf c.args.free parts (take (k + 1) (map whole_row rows))) (sym c.in_ok-push_match.ensures)
          (one-more c.args.free parts (map whole_row rows) k below (whole_row row) here c.loop-k.tuples.items c.match_place.result
          c.match_place.ensures c.loop-k.invariant.tuples);
    }

pub returns : goal.returns
returns c =
    let parts = c.args.parts.now in
    let rows = c.args.rows.now in
    let k = c.loop-k.k in
    let l = length-map rows whole_row in
    no-more c.args.free parts (map whole_row rows) k c.loop-k.tuples.items
    (λ t. ap (λ ws. fits_some parts ws t) (drop_all k (map whole_row rows) (omega (arith, c.loop-k-test.false, c.len.ensures, l))))
    c.loop-k.invariant.tuples
