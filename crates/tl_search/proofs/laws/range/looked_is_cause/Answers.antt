use Rattle.tl_search.proofs.RangeLaws.{range-at-root, range-by-idling, range-by-action, range-after}
use Rattle.tl_search.proofs.laws.range.looked_is_cause.Goals as goal

pub returns : goal.returns
returns c = λ p n o past. record {
  at_root = range-at-root p n o past;
  by_idling = range-by-idling p n o past;
  by_action =
      range-by-action p n o past;
  after_action = range-after p n o past;
}
