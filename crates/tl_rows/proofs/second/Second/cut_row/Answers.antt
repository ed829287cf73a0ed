use Rattle.std.proofs.Common.{Some, refl, sym, ap, ◌∙◌}
use Rattle.std.specs.List.{remove}
use Rattle.std.specs.Option.{option_map}
use Rattle.tl_rows.proofs.Exchanged.{keeps-without}
use Rattle.tl_rows.proofs.second.Second.cut_row.Goals as goal

pub returns-in_ok-cut_row-in-Ok : goal.returns-in_ok-cut_row-in-Ok
returns-in_ok-cut_row-in-Ok c rows k p q h =
    let second = c.as_ref.result.now in
    let boxed = sym (ap (λ b. b.value) c.in-Some.rows-is) ∙ sym c.as_ref.ensures in
    let kept = sym c.self.view_is ∙ (ap (option_map (λ b. b.value)) c.in-Some.is ∙ ap Some boxed) in
    keeps-without c.args.self second kept c.args.gone.now c.as_slice.result.now c.cut_row.new.self c.in-Ok.k _
    (c.as_slice.ensures ∙ c.in_ok-other.ensures) c.in-Ok.ensures.range c.in-Ok.ensures.place
    (c.in_ok-cut_row-in-Ok.ensures.all ∙ ap (λ xs. remove xs c.in-Ok.k) (c.deref_mut.ensures.value ∙ sym c.as_ref.ensures)) refl rows k
    p q h
