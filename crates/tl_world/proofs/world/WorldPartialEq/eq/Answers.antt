use Rattle.std.proofs.Common.{ap, sym, ◌∙◌, ◌&&◌}
use Rattle.tl_world.proofs.Alike.{eq_whole, eq_first, eq_codes}
use Rattle.tl_world.proofs.world.WorldPartialEq.eq.Goals as goal

pub returns-then-eq : goal.returns-then-eq
returns-then-eq c =
    sym (ap (λ a. a && c.eq-then-eq.result) c.if-eq.true)
    ∙ eq_whole c.self.inside.facts.items c.other.inside.facts.items c.self.inside.places.items c.other.inside.places.items _ _ _ _
    c.self.invariant.0 c.other.invariant.0 c.eq.ensures c.eq-then-eq.ensures c.self.view_is c.other.view_is

pub returns-else-eq : goal.returns-else-eq
returns-else-eq c = eq_first c.self.inside.facts.items c.other.inside.facts.items c.self.inside.places.items c.other.inside.places.items _ _
    _ c.self.invariant.0 c.other.invariant.0 c.eq.ensures c.if-eq.false c.self.view_is c.other.view_is

pub returns-then-self-other : goal.returns-then-self-other
returns-then-self-other c = eq_codes c.self.inside.facts.items c.other.inside.facts.items c.self.inside.places.items
    c.other.inside.places.items c.self.inside.code c.other.inside.code _ _ c.self.invariant c.other.invariant c.self.view_is c.other.view_is
    c.if-self-other.true
