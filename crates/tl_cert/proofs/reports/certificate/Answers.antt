use Rattle.std.proofs.Common.{◌≡◌, ◌++◌, ◌∷◌, [], List, length, slice_get, Some, refl, sym, ap, ◌∙◌, subst, take_all, arith}
use Rattle.std.proofs.lemmas.Option.{slice_get_read}
use Rattle.tl_cert.specs.Reports.{links_of}
use Rattle.tl_cert.specs.LawsReadBack.{StartBefore}
use Rattle.tl_cert.specs.declared.proof.Link.{Link}
use Rattle.tl_cert.proofs.Certified.{certified, events-few, events-small, events-start, links-more}
use Rattle.tl_cert.proofs.reports.certificate.Goals as goal

pub add_event-requires : goal.add_event-requires
add_event-requires g c =
    let at = slice_get_read _ _ c.loop-event.event-index c.event-item.result refl c.loop-event-test.true c.event-item.is in
    events-small (g.S.SearchSpace.problem c.args.space.now) [] c.args.report.now.events
    (g.S.SearchSpace.kept c.args.space.now) c.loop-event.event-index c.event-item.result c.requires.none.told
    (subst (λ es. slice_get es c.loop-event.event-index ≡ Some c.event-item.result) c.loop-event.invariant.items at) c.requires.few

pub loop-event-preserved : goal.loop-event-preserved
loop-event-preserved g c =
    let at = slice_get_read _ _ c.loop-event.event-index c.event-item.result refl c.loop-event-test.true c.event-item.is in
    record {
      links = c.in_ok-add_event.ensures ∙ (ap (λ ls. ls ++ links_of (c.event-item.result ∷ [])) c.loop-event.invariant.links ∙
          sym (links-more c.as_slice-event-items.result.now c.loop-event.event-index c.event-item.result at));
      items = c.loop-event.invariant.items;
    }

pub returns-clause-covers : goal.returns-clause-covers
returns-clause-covers g c =
    let i = c.loop-event.invariant in
    certified (g.S.SearchSpace.problem c.args.space.now) c.args.within
    (g.S.SearchSpace.kept c.args.space.now) c.args.report.now c.requires.none
    (record { bound = c.bound_of-bound.result; links = c.loop-event.links }) c.bound_of-bound.ensures
    (i.links ∙ ap links_of (take_all c.loop-event.event-index c.as_slice-event-items.result.now c.loop-event-test.false ∙ i.items))

pub returns-clause-order : goal.returns-clause-order
returns-clause-order g c =
    let i = c.loop-event.invariant in
    let links = i.links ∙ ap links_of (take_all c.loop-event.event-index c.as_slice-event-items.result.now c.loop-event-test.false ∙
    i.items) in
    subst (λ (ls : List Link). StartBefore 0 ls) (sym links) (events-start
    (g.S.SearchSpace.problem c.args.space.now) [] c.args.report.now.events
    (g.S.SearchSpace.kept c.args.space.now) 0 c.requires.none.told (omega arith))

pub returns-clause-many : goal.returns-clause-many
returns-clause-many g c =
    let i = c.loop-event.invariant in
    let links = i.links ∙ ap links_of (take_all c.loop-event.event-index c.as_slice-event-items.result.now c.loop-event-test.false ∙
    i.items) in
    let few = events-few (g.S.SearchSpace.problem c.args.space.now) [] c.args.report.now.events
    (g.S.SearchSpace.kept c.args.space.now) c.requires.none.told in
    let m : length c.loop-event.links ≡ length (links_of c.args.report.now.events) = ap length links in
    omega (arith, m, few)
