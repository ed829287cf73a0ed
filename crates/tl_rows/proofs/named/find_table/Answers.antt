use Rattle.std.proofs.Common.{rules}
use Rattle.std.proofs.lemmas.Fn.{always_returns_same}
use Rattle.tl_rows.proofs.named.find_table.Goals as goal

pub returns-clause-place : goal.returns-clause-place
returns-clause-place g c = c.binary_search_by_key.ensures.position (λ t. t.name) (always_returns_same _ _ _ (λ x r f' k. search rules))
