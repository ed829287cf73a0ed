use Rattle.std.proofs.Common.{◌≡◌, Some, sym, ◌∙◌, ap, ◌++◌, ◌∷◌, List, []}
use Rattle.std.specs.List.{slice_get}
use Rattle.std.specs.Rc.{rc_str_bytes}
use Rattle.tl_syntax.specs.Settled.{texts_in}
use Rattle.tl_syntax.proofs.Places.{read_at, take-next}
use Rattle.tl_syntax.proofs.SettledTexts.{number_of-later}
use Rattle.tl_syntax.proofs.names.settled.table_of.Goals as goal

pub append_shared-requires-clause-new : goal.append_shared-requires-clause-new
append_shared-requires-clause-new c =
    let text = rc_str_bytes c.in_ok-clone.field-0 in
    let at : slice_get (texts_in c.args.entries.now) c.loop-entry.entry-index ≡ Some text =
    read_at (λ e. rc_str_bytes e.0) c.args.entries.now c.loop-entry.entry-index c.entry-item.result text c.loop-entry-test.true
    c.entry-item.is c.in_ok-clone.ensures.cases in
    rw c.loop-entry.invariant (number_of-later (texts_in c.args.entries.now) c.loop-entry.entry-index text c.requires.distinct at)

pub loop-entry-preserved : goal.loop-entry-preserved
loop-entry-preserved c =
    let text = rc_str_bytes c.in_ok-clone.field-0 in
    let at : slice_get (texts_in c.args.entries.now) c.loop-entry.entry-index ≡ Some text =
    read_at (λ e. rc_str_bytes e.0) c.args.entries.now c.loop-entry.entry-index c.entry-item.result text c.loop-entry-test.true
    c.entry-item.is c.in_ok-clone.ensures.cases in
    c.in_ok-append_shared.ensures.added ∙ ap (λ (l : List _). l ++ text ∷ []) c.loop-entry.invariant ∙
    sym (take-next (texts_in c.args.entries.now) c.loop-entry.entry-index text at)
