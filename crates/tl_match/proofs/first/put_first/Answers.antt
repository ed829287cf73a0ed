use Rattle.std.proofs.Common.{◌≡◌, ◌+◌, length-take-le, take, drop, [], Some, true, refl, sym, ap, ◌∙◌, arith}
use Rattle.std.proofs.lemmas.List.{drop_all}
use Rattle.std.specs.Ordering.{is_lt}
use Rattle.tl_match.specs.declared.pattern.Match.{Match}
use Rattle.tl_match.specs.Front.{front, front_cmp}
use Rattle.tl_match.specs.Least.{IsLeast, fits_some}
use Rattle.tl_match.proofs.Later.{after-row}
use Rattle.tl_match.proofs.Least.{least-same}
use Rattle.tl_match.proofs.Putting.{begins-taken}
use Rattle.tl_match.proofs.RowsAlike.{alike-rows}
use Rattle.tl_match.proofs.Turns.{least-first, past-none}
use Rattle.tl_match.proofs.first.put_first.Goals as goal

pub returns-in-Some-clause-least : goal.returns-in-Some-clause-least
returns-in-Some-clause-least c =
    let parts = c.args.parts.now in
    let rows = c.args.rows.now in
    let k = c.loop-k.k in
    let m : Match = record { values = c.put_values.new.values; len = c.args.free } in
    let size = length-take-le c.args.free c.put_values.new.values (omega (arith, c.put_values.array_long, c.requires.few)) in
    least-same c.args.free (Some m) (λ t. fits_some parts (drop k rows) t) (λ t. fits_some parts (drop c.args.from rows) t)
    (λ t st. sym (c.loop-k.invariant.same t))
    (least-first parts c.args.free c.requires.turn c.requires.each c.requires.slots m rows k c.row-row.result.now
    (omega (arith, c.loop-k-test.true, c.len.ensures)) c.row-row.ensures (alike-rows rows c.requires.order) refl size
    (c.in-Some.ensures.fits (take c.args.free c.put_values.new.values)
    (begins-taken c.put_values.new.values c.in-Some.field-0 c.args.free c.in-Some.ensures.bound)))

pub returns-then-is_lt-clause-least : goal.returns-then-is_lt-clause-least
unfolding IsLeast
returns-then-is_lt-clause-least c t size =
    let parts = c.args.parts.now in
    let rows = c.args.rows.now in
    let less : is_lt (front_cmp (front 0 parts []) c.row-row.result.now) ≡ true = ap is_lt (sym c.order_of_front.ensures) ∙
    (sym c.is_lt.ensures ∙ c.if-is_lt.true) in
    c.loop-k.invariant.same t
    ∙ past-none parts c.args.free c.requires.turn c.requires.each c.requires.slots rows c.loop-k.k c.row-row.result.now
    (omega (arith, c.loop-k-test.true, c.len.ensures)) c.row-row.ensures c.requires.order less t

pub returns-clause-least : goal.returns-clause-least
unfolding IsLeast
returns-clause-least c t size = c.loop-k.invariant.same t ∙ ap (λ rows. fits_some c.args.parts.now rows t)
    (drop_all c.loop-k.k c.args.rows.now (omega (arith, c.loop-k-test.false, c.len.ensures)))

pub returns-in-Some-clause-later : goal.returns-in-Some-clause-later
returns-in-Some-clause-later c =
    let parts = c.args.parts.now in
    let rows = c.args.rows.now in
    let k = c.loop-k.k in
    let tuple = take c.args.free c.put_values.new.values in
    let size = length-take-le c.args.free c.put_values.new.values (omega (arith, c.put_values.array_long, c.requires.few)) in
    after-row parts c.args.free c.requires.turn c.requires.each c.requires.slots tuple size c.row-row.result.now
    (c.in-Some.ensures.fits tuple (begins-taken c.put_values.new.values c.in-Some.field-0 c.args.free c.in-Some.ensures.bound))
    rows k (k + 1) refl (omega (arith, c.loop-k-test.true, c.len.ensures)) c.row-row.ensures (alike-rows rows c.requires.order)
