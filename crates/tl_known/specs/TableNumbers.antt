-- Numbers of the tables of worlds: where two tables of one name have one number, they say the same.
use Rattle.std.specs.Prelude.{◌≡◌, ◌+◌, ◌<◌, ◌≤◌, ◌||◌, ◌⊎◌, ◌++◌, ℕ, suc, Bool, false, List, [], ◌∷◌, map, length, take, drop, slice_get}
use Rattle.std.specs.Prelude.{nat_eq, Option, Some, None}
use Rattle.std.specs.List.{list_any}
use Rattle.tl_syntax.specs.declared.fact.Fact.{Fact}
use Rattle.tl_syntax.specs.declared.place_value.PlaceValue.{PlaceValue}
use Rattle.tl_syntax.specs.declared.value.Value.{Value}
use Rattle.tl_terms.specs.Acceptance.{is_value}
use Rattle.tl_terms.specs.World.{World, has_fact, value_at}
use Rattle.tl_known.specs.declared.is_after.Numbered.{Numbered}
use Rattle.tl_known.specs.declared.table_name.TableName.{TableName}
use Rattle.tl_known.specs.declared.table_name.TableName.TheVariants.{Pred, Fun}
use Rattle.tl_known.specs.declared.table_numbers.Source.{Source}
use Rattle.tl_known.specs.declared.table_numbers.TableNumbers.{TableNumbers}
use Rattle.tl_world.specs.WorldCode.{facts_in, places_in}

-- the predicates that have facts in the world, in order, and then the functions that have places
-- with a value: one for each of its tables
abbrev pub tables_in : World → List TableName
tables_in w = map (λ t. Pred t.0) (facts_in w) ++ map (λ t. Fun t.0) (places_in w)

-- whether the fact of the predicate with these arguments is in the world, or the place of the
-- function has the value there
abbrev pub says : TableName → World → List Value → Value → Bool
says (Pred p) w a u = has_fact w (p, a)
says (Fun f) w a u = is_value (value_at w (f, a)) u

-- the worlds have the same facts of the predicate, or the same values at the places of the function
abbrev pub AreAlikeOf : TableName → World → World → Type 0
AreAlikeOf t v w = (a : List Value) (u : Value) → says t v a u ≡ says t w a u

-- the number of a table is that of a world with the same table
abbrev pub IsTableNumber : List World → TableName → World → ℕ → Type 0
IsTableNumber ws t w k = (k < length ws) × ((v : World) → slice_get ws k ≡ Some v → AreAlikeOf t v w)

-- numbers of the tables of a world, from the first one on
abbrev pub AreTableNumbers : List World → World → List ℕ → Type 0
AreTableNumbers ws w ks = (i : ℕ) (t : TableName) (k : ℕ) → slice_get (tables_in w) i ≡ Some t → slice_get ks i ≡ Some k →
    IsTableNumber ws t w k

-- they stand in one list, from a place on
abbrev pub StandFrom : List World → List ℕ → ℕ → World → Type 0
StandFrom ws all s w = (s + length (tables_in w) ≤ length all) × AreTableNumbers ws w (drop s all)

-- those of later worlds stand from this place on
abbrev pub LaterStandFrom : List ℕ → ℕ → ℕ → Type 0
LaterStandFrom starts n end = (m t : ℕ) → n < m → slice_get starts m ≡ Some t → end ≤ t

-- those of the first worlds do, each from its own place on, one world's after another's, and none
-- is that of a later world
abbrev pub AreNumbered : List World → List ℕ → List ℕ → Type 0
AreNumbered ws starts all = (length starts ≤ length ws) × ((n s : ℕ) (w : World) → slice_get ws n ≡ Some w → slice_get starts n ≡ Some s →
    StandFrom (take (suc n) ws) all s w × LaterStandFrom starts n (s + length (tables_in w)))

-- what stands from the place on, where there is one
abbrev pub standing : List ℕ → Option ℕ → List ℕ
standing all None = []
standing all (Some s) = drop s all

-- the numbers that stand from the place of the world of a number on
abbrev pub numbers_at : List ℕ → List ℕ → ℕ → List ℕ
numbers_at starts all n = standing all (slice_get starts n)

-- where tables of one name in two worlds have one number, the worlds are alike in them
abbrev pub TellAlike : World → List ℕ → World → List ℕ → Type 0
TellAlike w ks v ls = (i j : ℕ) (t : TableName) (k : ℕ) → slice_get (tables_in w) i ≡ Some t → slice_get (tables_in v) j ≡ Some t →
    slice_get ks i ≡ Some k → slice_get ls j ≡ Some k → AreAlikeOf t w v

-- there is one for each table of the world of the number
abbrev pub AreOneEach : List World → ℕ → List ℕ → Type 0
AreOneEach ws n ks = (w : World) → slice_get ws n ≡ Some w → length ks ≡ length (tables_in w)

-- and so for worlds with their numbers
abbrev pub AreToldAlike : Numbered → Numbered → Type 0
AreToldAlike v w = TellAlike v.world.now v.numbers.now w.world.now w.numbers.now

-- whether one of the facts is of the predicate
abbrev pub lists_pred : List Fact → ℕ → Bool
lists_pred facts p = list_any (λ f. nat_eq f.pred p) facts

-- whether one of the places that are set is of the function
abbrev pub sets_fun : List PlaceValue → ℕ → Bool
sets_fun sets f = list_any (λ p. nat_eq p.fun f) sets

-- whether changes name a fact of the predicate, or a place of the function
abbrev pub changes_table : List Fact → List Fact → List PlaceValue → TableName → Bool
changes_table dels adds sets (Pred p) = lists_pred dels p || lists_pred adds p
changes_table dels adds sets (Fun f) = sets_fun sets f

-- but for the tables that changes name, the world is alike to the world of the number `from`
abbrev pub ComesFrom : List World → ℕ → List Fact → List Fact → List PlaceValue → World → Type 0
ComesFrom ws from dels adds sets w = (v : World) (t : TableName) → slice_get ws from ≡ Some v → changes_table dels adds sets t ≡ false →
    AreAlikeOf t v w

-- the numbers stand for the tables of the world of the number, where that comes from the source
abbrev pub StandFor : List World → Source → ℕ → List ℕ → Type 0
StandFor ws s n ks = (w : World) → slice_get ws n ≡ Some w → ComesFrom ws s.from s.dels.now s.adds.now s.sets.now w →
    AreTableNumbers ws w ks

-- the numbers that come next stand after the others
abbrev pub GainsStart : TableNumbers → TableNumbers → Type 0
GainsStart old new = new.starts.items ≡ old.starts.items ++ length old.all.items ∷ []

-- all of the numbers came after the others, or none did
abbrev pub AllOrNone : List ℕ → List ℕ → List ℕ → Type 0
AllOrNone old more new = (new ≡ old) ⊎ (new ≡ old ++ more)
