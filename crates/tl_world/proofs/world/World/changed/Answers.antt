use Rattle.std.proofs.Common.{◌≡◌, ℕ, List, [], ◌∷◌, map, sym, ap, ◌∙◌, subst, refl}
use Rattle.tl_syntax.specs.declared.value.Value.{Value}
use Rattle.tl_terms.specs.World.{World}
use Rattle.tl_terms.specs.Step.{with_all, without_all, overwritten}
use Rattle.tl_rows.specs.declared.named.Named.{Named}
use Rattle.tl_rows.specs.declared.table.PlaceRow.{PlaceRow}
use Rattle.tl_rows.specs.Plain.{PlainRows}
use Rattle.tl_rows.specs.Tables.{InOrder, plain_of, fact_row, place_row, fact_tables, place_tables, set_of, map_of}
use Rattle.tl_syntax.specs.Keys.{fact_key, place_entry}
use Rattle.tl_terms.proofs.NamedWorlds.{keys-named, entries-named, world-changed}
use Rattle.tl_world.proofs.world.World.changed.Goals as goal

-- shared tables stand for the same
module _ {R X : Type 0} (g : R → List Value × X) where
  rowed : ℕ × List R → ℕ × PlainRows X
  rowed t = (t.0, map g t.1)

  through : (ts : List (Named (List R))) → map (λ (t : Named (List R)). (t.name, map g t.rows.value)) ts ≡ map rowed (map plain_of ts)
  unfolding rowed
  through [] = refl
  through (t ∷ ts) = ap (λ us. (t.name, map g t.rows.value) ∷ us) (through ts)

same-facts : (ts us vs : List (Named (List (List Value)))) → map plain_of ts ≡ map plain_of us → us ≡ vs → fact_tables ts ≡ fact_tables vs
same-facts ts us vs e d = through fact_row ts ∙ (ap (map (rowed fact_row)) (e ∙ ap (map plain_of) d) ∙ sym (through fact_row vs))

same-places : (ts us vs : List (Named (List PlaceRow))) → map plain_of ts ≡ map plain_of us → us ≡ vs → place_tables ts ≡ place_tables vs
same-places ts us vs e d = through place_row ts ∙ (ap (map (rowed place_row)) (e ∙ ap (map plain_of) d) ∙ sym (through place_row vs))

pub change_facts-requires : goal.change_facts-requires
change_facts-requires c = subst InOrder (sym (same-facts _ _ _ c.in_ok-facts.ensures.same c.as_slice.ensures.value)) c.self.invariant.0.0

pub change_places-requires : goal.change_places-requires
change_places-requires c = subst InOrder (sym (same-places _ _ _ c.in_ok-places.ensures.same c.as_slice-2.ensures.value))
    c.self.invariant.0.1

pub returns-clause-facts : goal.returns-clause-facts
returns-clause-facts c =
    c.whole.ensures.facts
    ∙ (c.in_ok-change_facts.ensures.facts
    ∙ ap (λ s. with_all (without_all s (map fact_key c.args.dels.now)) (map fact_key c.args.adds.now))
    (ap set_of (same-facts _ _ _ c.in_ok-facts.ensures.same c.as_slice.ensures.value) ∙ ap (λ (w : World). w.facts) c.self.view_is))

pub returns-clause-places : goal.returns-clause-places
returns-clause-places c =
    c.whole.ensures.places
    ∙ (c.in_ok-change_places.ensures.places
    ∙ ap (λ m. overwritten m (map place_entry c.args.sets.now)) (ap map_of
    (same-places _ _ _ c.in_ok-places.ensures.same c.as_slice-2.ensures.value) ∙ ap (λ (w : World). w.places) c.self.view_is))

pub returns-clause-named : goal.returns-clause-named
returns-clause-named c = λ n h a s.
    world-changed n _ _ (map fact_key c.args.dels.now) (map fact_key c.args.adds.now) (map place_entry c.args.sets.now)
    (returns-clause-facts c) (returns-clause-places c) h
    (keys-named n c.args.adds.now a) (entries-named n c.args.sets.now s)
