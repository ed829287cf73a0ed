-- The plain trees of forms, for this crate's functions.
use Rattle.tl_sexpr.proofs.TreeOf.{trees-Forms}

pub ruleset form_trees = (trees-Forms)
