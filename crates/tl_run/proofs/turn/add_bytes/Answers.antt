use Rattle.std.proofs.lemmas.Result.{IfErr-weaker, on_ok_weaker}
use Rattle.tl_sexpr.specs.Tree.{trees_of}
use Rattle.tl_run.specs.Files.{SpellShortly}
use Rattle.tl_run.specs.Inputs.{Input, breaks_of, IsBroken, StandsFor}
use Rattle.tl_run.specs.Held.{HoldsForms, IsHeld}
use Rattle.tl_run.specs.Stops.{IsFileStop, IsFormsStop}
use Rattle.tl_run.proofs.Standing.{file_stop, handed_on}
use Rattle.tl_run.proofs.turn.add_bytes.Goals as goal

pub returns-clause-held : goal.returns-clause-held
returns-clause-held c = λ x is.
    let bytes = c.args.bytes.now in
    let forms = trees_of c.in_ok-forms.forms in
    let after = c.add_forms.new.input in
    let spelled : SpellShortly bytes forms = record { short = c.requires.short; spelled = c.in_ok-forms.ensures.spelled } in
    on_ok_weaker {P = HoldsForms c.args.role x forms after} {Q = (y : Input) × StandsFor c.args.role x bytes y × IsHeld after y}
    c.add_forms.result
    (λ h. (h.input, record { forms = forms; spelled = spelled; lawful = h.lawful; meant = h.meant }, h.is_held))
    (c.add_forms.ensures.held x is)

pub returns-clause-stop : goal.returns-clause-stop
returns-clause-stop c = λ x is.
    let bytes = c.args.bytes.now in
    let forms = trees_of c.in_ok-forms.forms in
    let spelled : SpellShortly bytes forms = record { short = c.requires.short; spelled = c.in_ok-forms.ensures.spelled } in
    IfErr-weaker c.add_forms.result (IsFormsStop c.args.number (breaks_of c.args.role x forms))
    (IsFileStop c.args.number (IsBroken c.args.role x bytes))
    (λ stop h. file_stop c.args.number c.args.role x bytes forms stop spelled h)
    (c.add_forms.ensures.stop x is)

pub returns-in_err-forms-clause-stop : goal.returns-in_err-forms-clause-stop
returns-in_err-forms-clause-stop c = λ x is.
    handed_on c.from_residual.result c.in_err-forms.field-0.0 (IsFileStop c.args.number (IsBroken c.args.role x c.args.bytes.now))
    c.from_residual.ensures.1 (c.in_err-forms.ensures.stop c.args.role x)
