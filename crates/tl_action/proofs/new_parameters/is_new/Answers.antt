use Rattle.std.proofs.Common.{◌&&◌, Bool, take, not, sym, ap, ◌∙◌}
use Rattle.tl_action.specs.Join.{arranged, stands_in_one}
use Rattle.tl_action.proofs.new_parameters.is_new.Goals as goal

pub returns-then-stands_in : goal.returns-then-stands_in
returns-then-stands_in c =
    let before = stands_in_one (take c.args.j (arranged c.args.bounds.now).bounds) c.args.var.now in
    ap (λ (x : Bool). not x) c.stands_before.ensures ∙ ap (λ (y : Bool). y && not before) (sym c.if-stands_in.true ∙ c.stands_in.ensures)
