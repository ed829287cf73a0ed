use Rattle.std.proofs.Common.{◌≡◌, take}
use Rattle.tl_cert.specs.Reports.{links_of}
use Rattle.tl_cert.proofs.reports.certificate.Given as goal

-- the links of the events so far
abbrev pub invariant-loop-event : goal.invariant-loop-event
invariant-loop-event g l = record {
  links : l.links ≡ links_of (take l.event-index l.event-items);
  items : l.event-items ≡ l.report.events;
}
