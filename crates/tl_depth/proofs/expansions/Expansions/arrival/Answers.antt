use Rattle.std.proofs.Common.{◌≡◌, slice_index_or, arith, sym, ap, ◌∙◌, length}
use Rattle.tl_search.specs.declared.arrival.Arrival.TheVariants as arrival
use Rattle.tl_depth.specs.declared.expansions.Expansion.{Expansion}
use Rattle.tl_depth.proofs.Remembering.{right-at, right-arrival}
use Rattle.tl_depth.proofs.expansions.Expansions.arrival.Goals as goal

pub returns : goal.returns
returns c p task kept right =
    let entry : Expansion = c.index-entries-at.result in
    let here : entry ≡ slice_index_or c.args.self.now.entries.items c.args.at entry = c.index-entries-at.is ∙
    ap (λ es. slice_index_or es c.args.at entry) c.as_slice-entries.ensures.value in
    right-arrival p task kept c.args.at c.args.tried entry c.as_slice-arrivals.result.now arrival.Pruned
    (right-at p task kept c.args.self.now.entries.items c.args.at entry
    (omega (arith, ap length c.as_slice-entries.ensures.value, c.if-entries-at.false)) here right)
    (c.as_slice-arrivals.ensures.value ∙ ap (λ (e : Expansion). e.arrivals.items) (sym c.index-entries-at.is)) c.if-arrivals-tried.false
