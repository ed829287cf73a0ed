use Rattle.std.proofs.Common.{length, true, false, refl, sym, subst}
use Rattle.tl_match.specs.Least.{HasLater}
use Rattle.tl_match.proofs.Turns.{only-later}
use Rattle.tl_match.proofs.after.look_up_to.Goals as goal

pub returns-then-begun-clause-later : goal.returns-then-begun-clause-later
returns-then-begun-clause-later c =
    let parts = c.args.parts.now in
    let tuple = c.args.tuple.now in
    subst (λ b. HasLater parts b tuple c.args.rows.now c.rows_before.result) (sym c.if-begun.true)
    (only-later parts (length tuple) c.requires.turn c.requires.each c.requires.slots true tuple refl c.args.rows.now c.rows_before.result
    c.rows_before.ensures)

pub returns-else-begun-clause-later : goal.returns-else-begun-clause-later
returns-else-begun-clause-later c =
    let parts = c.args.parts.now in
    let tuple = c.args.tuple.now in
    subst (λ b. HasLater parts b tuple c.args.rows.now c.rows_before_near.result) (sym c.if-begun.false)
    (only-later parts (length tuple) c.requires.turn c.requires.each c.requires.slots false tuple refl c.args.rows.now
    c.rows_before_near.result c.rows_before_near.ensures)
