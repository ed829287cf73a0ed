use Rattle.std.proofs.Common.{sym, subst}
use Rattle.tl_known.specs.TableNumbers.{AreAlikeOf}
use Rattle.tl_known.proofs.world_tables.is_alike.Goals as goal

pub returns-in-Pred : goal.returns-in-Pred
returns-in-Pred c = λ t. subst (λ n. AreAlikeOf n c.args.world.now c.args.other.now) (sym c.in-Pred.is) (c.has_same_facts.ensures t)

pub returns-in-Fun : goal.returns-in-Fun
returns-in-Fun c = λ t. subst (λ n. AreAlikeOf n c.args.world.now c.args.other.now) (sym c.in-Fun.is) (c.has_same_values.ensures t)
