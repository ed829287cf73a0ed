use Rattle.std.proofs.Common.{Some, sym, subst}
use Rattle.std.specs.Option.{option_map, IfSome}
use Rattle.tl_world.specs.Gathered.{HasRest}
use Rattle.tl_world.specs.MatchReading.{pattern_if}
use Rattle.tl_world.proofs.MatchReading.{begins-table}
use Rattle.tl_world.proofs.match_reader.MatchReader.find_first_place.Goals as goal

pub invariant_of-self : goal.invariant_of-self
invariant_of-self c =
    let s = c.self.inside in
    let table = c.in-Some.table in (
      begins-table s.world.now s.has_pattern s.pattern.now s.begun s.tuple s.place table.place
          (option_map (λ r. r.now) s.rows) table.rows.now c.if-self.true c.if-not-self.true c.self.invariant.0 c.in-Some.ensures,
      subst (λ o. IfSome o (HasRest s.world.now (pattern_if s.has_pattern s.pattern.now) s.begun s.tuple table.place (Some table.rows.now)))
          (sym c.none.ensures) tt,
    )
