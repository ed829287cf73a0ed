use Rattle.std.proofs.Common.{◌≡◌, None, true, false, refl, sym, ap, ◌∙◌, subst}
use Rattle.std.specs.Option.{option_map, IfSome}
use Rattle.std.specs.Prelude.{slice_get}
use Rattle.tl_world.specs.Gathered.{HasRest}
use Rattle.tl_world.specs.MatchReading.{Reading, ReadsOn, CanReadOn, pattern_if}
use Rattle.tl_match.specs.Least.{PutsNext}
use Rattle.tl_match.specs.Patterns.{parts_of, tuple_in_place}
use Rattle.tl_world.proofs.MatchReading.{with-rows, next-through, goes-on}
use Rattle.tl_world.proofs.TupleReading.{with-tuples, size-there, next-there, goes-behind, no-tuples}
use Rattle.tl_world.proofs.match_reader.MatchReader.next.Goals as goal

pub invariant_of-self : goal.invariant_of-self
invariant_of-self c =
    let s = c.self.inside in
    let has = with-rows s.world.now s.has_pattern s.pattern.now s.begun s.tuple s.place (option_map (λ r. r.now) s.rows) c.in-Some.rows.now
    (ap (option_map (λ r. r.now)) c.in-Some.is) c.self.invariant.0 in (
      subst (λ o. CanReadOn s.world.now (pattern_if s.has_pattern s.pattern.now) true c.put_next_from.new.tuple c.put_next_from.new.place
          (option_map (λ r. r.now) o)) (sym c.in-Some.is)
          (goes-on s.world.now s.has_pattern s.pattern.now s.begun s.tuple s.place c.in-Some.rows.now c.put_next_from.new.tuple
          c.put_next_from.new.place has
          (subst (λ b. PutsNext s.pattern.now.free (parts_of s.pattern.now) c.in-Some.rows.now s.begun s.tuple b c.put_next_from.new.tuple)
          c.if-put_next_from.true c.put_next_from.ensures.puts)
          (c.put_next_from.ensures.bound c.if-put_next_from.true) (c.put_next_from.ensures.later c.if-put_next_from.true)),
      subst (λ o. IfSome o (HasRest s.world.now (pattern_if s.has_pattern s.pattern.now) true c.put_next_from.new.tuple
          c.put_next_from.new.place (option_map (λ r. r.now) s.rows)))
          (sym (no-tuples s.world.now (pattern_if s.has_pattern s.pattern.now) s.begun s.tuple s.place
          (option_map (λ r. r.now) s.rows) s.gathered c.in-Some.rows.now
          (ap (option_map (λ r. r.now)) c.in-Some.is) c.self.invariant.1)) tt,
    )

pub returns-then-put_next_from-clause-next : goal.returns-then-put_next_from-clause-next
returns-then-put_next_from-clause-next c =
    let s = c.self.inside in
    let has = with-rows s.world.now s.has_pattern s.pattern.now s.begun s.tuple s.place (option_map (λ r. r.now) s.rows) c.in-Some.rows.now
    (ap (option_map (λ r. r.now)) c.in-Some.is) c.self.invariant.0 in
    let new : Reading = record {
      world = s.world.now;
      pattern = pattern_if s.has_pattern s.pattern.now;
      tuple =
          tuple_in_place true c.put_next_from.new.tuple;
    } in
    subst (λ (old : Reading). ReadsOn old new) (c.self.view_is ∙ c.find_place.ensures) (record {
      world = refl;
      pattern = refl;
      next = next-through s.world.now s.has_pattern s.pattern.now s.begun s.tuple s.place c.in-Some.rows.now true c.put_next_from.new.tuple
          has
          (subst (λ b. PutsNext s.pattern.now.free (parts_of s.pattern.now) c.in-Some.rows.now s.begun s.tuple b c.put_next_from.new.tuple)
          c.if-put_next_from.true c.put_next_from.ensures.puts);
    })

pub returns-else-put_next_from-clause-next : goal.returns-else-put_next_from-clause-next
returns-else-put_next_from-clause-next c =
    let s = c.self.inside in
    let has = with-rows s.world.now s.has_pattern s.pattern.now s.begun s.tuple s.place (option_map (λ r. r.now) s.rows) c.in-Some.rows.now
    (ap (option_map (λ r. r.now)) c.in-Some.is) c.self.invariant.0 in
    let new : Reading = record { world = s.world.now; pattern = pattern_if s.has_pattern s.pattern.now; tuple = None } in
    subst (λ (old : Reading). ReadsOn old new) (c.self.view_is ∙ c.find_place.ensures) (record {
      world = refl;
      pattern = refl;
      next = next-through s.world.now s.has_pattern s.pattern.now s.begun s.tuple s.place c.in-Some.rows.now false c.put_next_from.new.tuple
          has
          (subst (λ b. PutsNext s.pattern.now.free (parts_of s.pattern.now) c.in-Some.rows.now s.begun s.tuple b c.put_next_from.new.tuple)
          c.if-put_next_from.false c.put_next_from.ensures.puts);
    })

pub put_tuple-requires-clause-size : goal.put_tuple-requires-clause-size
put_tuple-requires-clause-size c =
    let s = c.self.inside in
    let rows = option_map (λ r. r.now) s.rows in
    let ts = c.in-Some-rows.tuples.now in
    let own = with-tuples s.world.now s.has_pattern s.pattern.now s.begun s.tuple s.place rows s.gathered ts c.in-Some-rows.ensures.some
    c.self.invariant.0 c.self.invariant.1 in
    size-there s.world.now s.has_pattern s.pattern.now s.begun s.tuple s.place rows ts own

pub invariant_of-self-then-put_tuple : goal.invariant_of-self-then-put_tuple
invariant_of-self-then-put_tuple c =
    let s = c.self.inside in
    let rows = option_map (λ r. r.now) s.rows in
    let ts = c.in-Some-rows.tuples.now in
    let new = c.put_tuple.new in
    let own = with-tuples s.world.now s.has_pattern s.pattern.now s.begun s.tuple s.place rows s.gathered ts c.in-Some-rows.ensures.some
    c.self.invariant.0 c.self.invariant.1 in
    let there = subst (λ b. tuple_in_place b new.tuple ≡ slice_get ts s.place) c.if-put_tuple.true c.put_tuple.ensures.tuple in
    let on = goes-behind s.world.now s.has_pattern s.pattern.now s.begun s.tuple s.place rows ts own new.tuple new.place there
    (c.put_tuple.ensures.len c.if-put_tuple.true) (c.put_tuple.ensures.place c.if-put_tuple.true) in (
      on.0,
      subst (λ o. IfSome o (HasRest s.world.now (pattern_if s.has_pattern s.pattern.now) true new.tuple new.place rows))
          (sym c.in-Some-rows.ensures.some) on.1,
    )

pub returns-then-put_tuple-clause-next : goal.returns-then-put_tuple-clause-next
returns-then-put_tuple-clause-next c =
    let s = c.self.inside in
    let rows = option_map (λ r. r.now) s.rows in
    let ts = c.in-Some-rows.tuples.now in
    let after = c.put_tuple.new.tuple in
    let own = with-tuples s.world.now s.has_pattern s.pattern.now s.begun s.tuple s.place rows s.gathered ts c.in-Some-rows.ensures.some
    c.self.invariant.0 c.self.invariant.1 in
    let there = subst (λ b. tuple_in_place b after ≡ slice_get ts s.place) c.if-put_tuple.true c.put_tuple.ensures.tuple in
    let new : Reading = record { world = s.world.now; pattern = pattern_if s.has_pattern s.pattern.now; tuple = tuple_in_place true after }
    in
    subst (λ (old : Reading). ReadsOn old new) (c.self.view_is ∙ c.find_place.ensures)
    (record {
      world = refl;
      pattern = refl;
      next = next-there s.world.now s.has_pattern s.pattern.now s.begun s.tuple s.place rows ts
          own true after there;
    })

pub returns-else-put_tuple-clause-next : goal.returns-else-put_tuple-clause-next
returns-else-put_tuple-clause-next c =
    let s = c.self.inside in
    let rows = option_map (λ r. r.now) s.rows in
    let ts = c.in-Some-rows.tuples.now in
    let after = c.put_tuple.new.tuple in
    let own = with-tuples s.world.now s.has_pattern s.pattern.now s.begun s.tuple s.place rows s.gathered ts c.in-Some-rows.ensures.some
    c.self.invariant.0 c.self.invariant.1 in
    let there = subst (λ b. tuple_in_place b after ≡ slice_get ts s.place) c.if-put_tuple.false c.put_tuple.ensures.tuple in
    let new : Reading = record { world = s.world.now; pattern = pattern_if s.has_pattern s.pattern.now; tuple = None } in
    subst (λ (old : Reading). ReadsOn old new) (c.self.view_is ∙ c.find_place.ensures)
    (record {
      world = refl;
      pattern = refl;
      next = next-there s.world.now s.has_pattern s.pattern.now s.begun s.tuple s.place rows ts
          own false after there;
    })
