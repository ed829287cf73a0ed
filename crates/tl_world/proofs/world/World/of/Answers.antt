use Rattle.std.proofs.Common.{◌≡◌, ℕ, List, sym, subst}
use Rattle.std.specs.Prelude.{Result, Ok, Err, IfOk}
use Rattle.tl_syntax.specs.declared.fact.Fact.{Fact}
use Rattle.tl_syntax.specs.declared.memory.NoMemory.{NoMemory}
use Rattle.tl_syntax.specs.declared.place_value.PlaceValue.{PlaceValue}
use Rattle.tl_syntax.specs.Lists.{Each}
use Rattle.tl_syntax.specs.Named.{FactIsNamed, PlaceIsNamed}
use Rattle.tl_terms.specs.NamedWorlds.{WorldIsNamed}
use Rattle.tl_terms.specs.ProblemMeaning.{world_of}
use Rattle.tl_terms.specs.World.{World}
use Rattle.tl_terms.proofs.NamedWorlds.{world_of-named}
use Rattle.tl_world.proofs.Contents.{made-of}
use Rattle.tl_world.proofs.world.World.of.Goals as goal

named : (facts : List Fact) (places : List PlaceValue) (r : Result World NoMemory) → IfOk r (λ w. w ≡ world_of facts places)
    → IfOk r (λ w. (n : ℕ) → Each (FactIsNamed n) facts → Each (PlaceIsNamed n) places → WorldIsNamed n w)
named facts places (Ok w) h = λ n f p. subst (WorldIsNamed n) (sym h) (world_of-named n facts places f p)
named facts places (Err e) h = tt

pub returns-clause-same : goal.returns-clause-same
returns-clause-same c = made-of c.args.facts.now c.args.places.now c.new.result c.changed-2.result c.new.ensures c.changed-2.ensures.facts
    c.changed-2.ensures.places

pub returns-clause-named : goal.returns-clause-named
returns-clause-named c = named c.args.facts.now c.args.places.now c.changed-2.result (returns-clause-same c)
