use Rattle.std.proofs.Common.{inl, inr, ℕ}
use Rattle.tl_gen.specs.Samples.{domain_text, problem_text}
use Rattle.tl_run.specs.declared.stop.Stop.{Stop}
use Rattle.tl_run.specs.declared.stop.Stop.TheVariants.{ReadFault, NoMemory, Refused}
use Rattle.tl_run.specs.declared.words.Role.TheVariants as role
use Rattle.tl_run.specs.Inputs.{Input, nothing, StandsFor, IsBroken}
use Rattle.tl_run.specs.Stops.{IsFileStop, IsSampleStop}
use Rattle.tl_run.proofs.Standing.{handed_on}
use Rattle.tl_run.proofs.texts.read_texts.Goals as goal

first_stops : (balls : ℕ) (stop : Stop) → IsFileStop 1 (IsBroken role.Domain nothing domain_text) stop → IsSampleStop balls stop
first_stops balls ReadFault h = absurd h
first_stops balls NoMemory h = tt
first_stops balls (Refused k b) h = inl (h.0, h.1)

second_stops : (balls : ℕ) (domain : Input) (stop : Stop) → StandsFor role.Domain nothing domain_text domain →
    IsFileStop 2 (IsBroken role.Problem domain (problem_text balls)) stop → IsSampleStop balls stop
second_stops balls domain ReadFault stands h = absurd h
second_stops balls domain NoMemory stands h = tt
second_stops balls domain (Refused k b) stands h = inr (h.0, (domain, stands, h.1))

pub returns-in_err-add_bytes-clause-stop : goal.returns-in_err-add_bytes-clause-stop
returns-in_err-add_bytes-clause-stop c =
    let stop = c.in_err-add_bytes.field-0.0 in
    handed_on c.from_residual.result stop (IsSampleStop c.args.balls) c.from_residual.ensures.1
    (first_stops c.args.balls stop (rw c.requires.domain at (c.in_err-add_bytes.ensures.stop nothing tt)))

pub returns-in_err-add_bytes-2-clause-stop : goal.returns-in_err-add_bytes-2-clause-stop
returns-in_err-add_bytes-2-clause-stop c =
    let stop = c.in_err-add_bytes-2.field-0.0 in
    let first = c.in_ok-add_bytes.ensures.held nothing tt in
    handed_on c.from_residual-in_err-add_bytes-2.result stop (IsSampleStop c.args.balls) c.from_residual-in_err-add_bytes-2.ensures.1
    (second_stops c.args.balls first.0 stop (rw c.requires.domain at first.1)
    (rw c.requires.problem at (c.in_err-add_bytes-2.ensures.stop first.0 first.2)))

pub returns-clause-held : goal.returns-clause-held
returns-clause-held c =
    let first = c.in_ok-add_bytes.ensures.held nothing tt in
    let second = c.in_ok-add_bytes-2.ensures.held first.0 first.2 in
    (second.0, (first.0, rw c.requires.domain at first.1, rw c.requires.problem at second.1), second.2)
