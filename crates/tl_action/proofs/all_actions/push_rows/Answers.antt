use Rattle.std.proofs.Common.{◌++◌, List, [], ◌∷◌, map, append_assoc, sym, ap, ◌∙◌}
use Rattle.std.proofs.lemmas.List.{map-append}
use Rattle.tl_action.specs.Actions.{action_of}
use Rattle.tl_syntax.specs.declared.action.Action.{Action}
use Rattle.tl_action.proofs.all_actions.push_rows.Goals as goal

pub loop-args-preserved : goal.loop-args-preserved
loop-args-preserved c =
    let action = action_of c.args.op in
    let before = map action c.loop-args.yielded in
    let more : List Action = action c.in-Some.args ∷ [] in
    c.in_ok-push.ensures
    ∙ (ap (λ (found : List Action). found ++ more) c.loop-args.invariant
    ∙ (append_assoc c.args.found.now before more
    ∙ ap (λ (new : List Action). c.args.found.now ++ new) (sym (map-append action c.loop-args.yielded (c.in-Some.args ∷ [])))))
