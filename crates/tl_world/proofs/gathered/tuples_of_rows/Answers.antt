use Rattle.std.proofs.Common.{◌≡◌, ◌+◌, ◌<◌, List, [], length, take, drop, true, ◌&&◌, None, ap, sym, ◌∙◌, subst, arith}
use Rattle.std.proofs.lemmas.List.{map-id, drop_all}
use Rattle.std.specs.Ordering.{is_lt}
use Rattle.tl_syntax.specs.declared.value.Value.{Value}
use Rattle.tl_syntax.specs.Lists.{Rises}
use Rattle.tl_match.specs.Front.{front, front_cmp}
use Rattle.tl_world.specs.Gathered.{AreTuplesOf}
use Rattle.tl_match.specs.Least.{IsLeast, fits_some}
use Rattle.tl_rows.specs.Plain.{row_cmp}
use Rattle.tl_world.proofs.Gathering.{none-yet, no-more, one-more, few-matched}
use Rattle.tl_match.proofs.Halves.{passed-greater}
use Rattle.tl_match.proofs.Skipping.{least-skipped, none-past}
use Rattle.tl_world.proofs.gathered.tuples_of_rows.Goals as goal

pub loop-k-init : goal.loop-k-init
loop-k-init c =
    let same : List Value → List Value = λ r. r in
    let parts = c.args.parts.now in
    let rows = c.args.rows.now in
    let from = c.rows_before-k.result in
    let before = passed-greater (front 0 parts []) (take from rows) c.rows_before-k.ensures.before in
    record {
      within = c.rows_before-k.ensures.bound;
      tuples = subst (AreTuplesOf c.args.free parts (take from rows)) (sym c.new-tuples.ensures.items)
          (none-yet c.args.free parts (take from rows)
          (subst (λ ws. IsLeast c.args.free (λ t. fits_some parts (take from ws) t && true) None) (map-id rows)
          (least-skipped same same parts parts (λ a t h. h) None c.args.free rows from before)));
    }

pub push_match-requires : goal.push_match-requires
push_match-requires c = few-matched c.args.free c.args.parts.now c.row-row.result.now c.match_row.result c.requires.few c.match_row.ensures

pub returns-then-is_lt : goal.returns-then-is_lt
returns-then-is_lt c =
    let same : List Value → List Value = λ r. r in
    let parts = c.args.parts.now in
    let rows = c.args.rows.now in
    let k = c.loop-k.k in
    let row = c.row-row.result.now in
    let inside : k < length rows = omega (arith, c.loop-k-test.true, c.len.ensures) in
    let less : is_lt (front_cmp (front 0 parts []) row) ≡ true = ap is_lt (sym c.order_of_front.ensures) ∙
    (sym c.is_lt.ensures ∙ c.if-is_lt.true) in
    let past = none-past same same parts parts (λ a t h. h) rows k row inside (subst (Rises row_cmp) (sym (map-id rows)) c.requires.order)
    (subst (λ r. is_lt (front_cmp (front 0 parts []) r) ≡ true) c.row-row.ensures less) in
    no-more c.args.free parts rows k c.loop-k.tuples.items (λ t. ap (λ ws. fits_some parts (drop k ws) t) (sym (map-id rows)) ∙ past t)
    c.loop-k.invariant.tuples

pub loop-k-preserved : goal.loop-k-preserved
loop-k-preserved c =
    let parts = c.args.parts.now in
    let rows = c.args.rows.now in
    let k = c.loop-k.k in
    let inside : k < length rows = omega (arith, c.loop-k-test.true, c.len.ensures) in
    record {
      within = omega (arith, inside);
      tuples = subst (AreTuplesOf c.args.free parts (take (k + 1) rows)) (sym c.in_ok-push_match.ensures)
          (one-more c.args.free parts rows k inside c.row-row.result.now
          (sym c.row-row.ensures) c.loop-k.tuples.items c.match_row.result c.match_row.ensures c.loop-k.invariant.tuples);
    }

pub returns : goal.returns
returns c =
    let parts = c.args.parts.now in
    let rows = c.args.rows.now in
    let k = c.loop-k.k in
    no-more c.args.free parts rows k c.loop-k.tuples.items (λ t. ap (λ ws. fits_some parts ws t)
    (drop_all k rows (omega (arith, c.loop-k-test.false, c.len.ensures)))) c.loop-k.invariant.tuples
