use Rattle.std.proofs.Common.{Some, refl, sym, ap, ◌∙◌}
use Rattle.std.specs.List.{insert}
use Rattle.std.specs.Option.{option_map}
use Rattle.tl_rows.proofs.Exchanged.{keeps-with}
use Rattle.tl_rows.proofs.second.Second.put_row.Goals as goal

pub returns-in_ok-put_row-in-Err : goal.returns-in_ok-put_row-in-Err
returns-in_ok-put_row-in-Err c rows k h =
    let second = c.as_ref.result.now in
    let boxed = sym (ap (λ b. b.value) c.in-Some.rows-is) ∙ sym c.as_ref.ensures in
    let kept = sym c.self.view_is ∙ (ap (option_map (λ b. b.value)) c.in-Some.is ∙ ap Some boxed) in
    keeps-with c.args.self second kept c.args.row.now c.as_slice.result.now c.as_slice-in-Err.result.now c.put_row.new.self c.in-Err.k _
    (c.as_slice.ensures ∙ c.in_ok-other.ensures) (c.as_slice-in-Err.ensures ∙ c.in_ok-other.ensures) c.in-Err.ensures.range
    c.in-Err.ensures.place (c.in_ok-put_row-in-Err.ensures.all ∙ ap (λ xs. insert xs c.in-Err.k c.as_slice-in-Err.result.now)
    (c.deref_mut.ensures.value ∙ sym c.as_ref.ensures)) refl rows k h
