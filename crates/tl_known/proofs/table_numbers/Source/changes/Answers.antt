use Rattle.std.proofs.Common.{◌||◌, sym, ap, ◌∙◌}
use Rattle.tl_known.specs.TableNumbers.{changes_table, lists_pred}
use Rattle.tl_known.proofs.table_numbers.Source.changes.Goals as goal

pub returns-else-has_pred : goal.returns-else-has_pred
returns-else-has_pred c =
    let s = c.args.self.now in
    c.has_pred-else-has_pred.ensures
    ∙ sym (ap (changes_table s.dels.now s.adds.now s.sets.now) c.in-Pred.is ∙
    ap (λ b. b || lists_pred s.adds.now c.in-Pred.pred) (sym c.has_pred.ensures ∙ c.if-has_pred.false))

pub returns-in-Fun : goal.returns-in-Fun
returns-in-Fun c = let s = c.args.self.now in c.has_fun.ensures ∙ ap (changes_table s.dels.now s.adds.now s.sets.now) (sym c.in-Fun.is)
