-- The calls of a store, and how a file is read by them.
use Rattle.std.specs.Prelude.{◌≡◌, ℕ, ◌+◌, ◌≤◌, Bool, true, false, List, [], ◌∷◌, ◌++◌, Option, option_map, Result, Ok, Err}
use Rattle.tl_outside.specs.declared.reading.ReadFault.{ReadFault}
use Rattle.tl_outside.specs.declared.reading.ReadFault.TheVariants.{Failed}

-- a call of a store: the file of this name was chosen, or was not; so many bytes of it came, or the
-- call failed
pub data Call : Type 0 where
  begins : List ℕ → Call
  begin_fails : List ℕ → Call
  takes : ℕ → Call
  take_fails : Call

-- the call of `begin` with this name, by its answer
abbrev pub begin_of : {T E : Type 0} → List ℕ → Result T E → Call
begin_of name (Ok t) = begins name
begin_of name (Err e) = begin_fails name

-- the call of `take`, by its answer
abbrev pub take_of : {E : Type 0} → Result ℕ E → Call
take_of (Ok n) = takes n
take_of (Err e) = take_fails

-- the calls with these after them, where they are told
abbrev pub with_calls : Option (List Call) → List Call → Option (List Call)
with_calls told calls = option_map (λ all. all ++ calls) told

-- bytes of a file are taken, of which so many have come: until none comes, more came than the limit
-- says, or a call fails
abbrev pub IsTaken : ℕ → ℕ → List Call → Bool → Type 0
IsTaken limit count [] failed = failed ≡ false
IsTaken limit count (takes n ∷ calls) failed = (count ≤ limit) × (n ≡ 0 → calls ≡ []) × IsTaken limit (count + n) calls failed
IsTaken limit count (take_fails ∷ calls) failed = (count ≤ limit) × (calls ≡ []) × (failed ≡ true)
IsTaken limit count (begins name ∷ calls) failed = ⊥
IsTaken limit count (begin_fails name ∷ calls) failed = ⊥

-- the file of this name is begun, and then taken; a failed call is the last
abbrev pub IsRead : List ℕ → ℕ → List Call → Bool → Type 0
IsRead name limit (begins begun ∷ calls) failed = (begun ≡ name) × IsTaken limit 0 calls failed
IsRead name limit (begin_fails begun ∷ calls) failed = (begun ≡ name) × (calls ≡ []) × (failed ≡ true)
IsRead name limit calls failed = ⊥

-- where they are told, the calls that came read the file of this name so
abbrev pub ReadsBy : Option (List Call) → Option (List Call) → List ℕ → ℕ → Bool → Type 0
ReadsBy old new name limit failed = (calls : List Call) × IsRead name limit calls failed × (new ≡ with_calls old calls)

-- whether a file was not read because a call failed
abbrev pub has_failed : {T : Type 0} → Result T ReadFault → Bool
has_failed (Err Failed) = true
has_failed result = false

-- the names of the files that calls begin, also where that fails
abbrev pub begun_names : List Call → List (List ℕ)
begun_names [] = []
begun_names (begins name ∷ calls) = name ∷ begun_names calls
begun_names (begin_fails name ∷ calls) = name ∷ begun_names calls
begun_names (takes n ∷ calls) = begun_names calls
begun_names (take_fails ∷ calls) = begun_names calls

-- whether a call failed, which is then the last one
abbrev pub EndsByFault : List Call → Bool → Type 0
EndsByFault [] failed = failed ≡ false
EndsByFault (begins name ∷ calls) failed = EndsByFault calls failed
EndsByFault (takes n ∷ calls) failed = EndsByFault calls failed
EndsByFault (begin_fails name ∷ calls) failed = (calls ≡ []) × (failed ≡ true)
EndsByFault (take_fails ∷ calls) failed = (calls ≡ []) × (failed ≡ true)
