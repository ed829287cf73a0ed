use Rattle.std.proofs.Common.{◌≡◌, [], ◌∷◌, ◌++◌, sym, ap, ◌∙◌, subst}
use Rattle.std.specs.Option.{option_to_list}
use Rattle.tl_depth.specs.Expansions.{GainsActions}
use Rattle.tl_depth.specs.declared.level.Level.{Level}
use Rattle.tl_depth.proofs.Ends.{last-same}
use Rattle.tl_depth.proofs.stack.DepthFirst.remember_top.Goals as goal

pub returns-in-Some-clause-remembered : goal.returns-in-Some-clause-remembered
returns-in-Some-clause-remembered c front d e =
    let popped : c.args.self.now.stack.items ≡ c.pop.new.self.items ++ c.in-Some.level ∷ [] = c.pop.ensures.items ∙
    ap (λ o. c.pop.new.self.items ++ option_to_list o) c.in-Some.is in
    let same : c.in-Some.level ≡ d = (last-same c.pop.new.self.items front c.in-Some.level d (sym popped ∙ e)).1 in
    subst (λ (l : Level). GainsActions c.args.self.now.expansions c.give_back.new.self l.at l.actions) same c.give_back.ensures
