-- A file that is read call by call.
use Rattle.std.proofs.Common.{◌≡◌, ℕ, ◌+◌, ◌<◌, ◌≤◌, List, [], ◌∷◌, ◌++◌, Bool, true, false, refl, sym, ap, subst, ◌∙◌, append_assoc}
use Rattle.std.specs.Prelude.{None, Some, Option}
use Rattle.std.proofs.lemmas.List.{append-nil}
use Rattle.tl_outside.specs.Calls.{Call, begins, begin_fails, takes, take_fails, with_calls, IsTaken, IsRead, ReadsBy}

-- calls, and then others
with_calls_more : (told : Option (List Call)) (calls more : List Call) → with_calls (with_calls told calls) more ≡
    with_calls told (calls ++ more)
with_calls_more None calls more = refl
with_calls_more (Some all) calls more = ap Some (append_assoc all calls more)

-- after these calls so many bytes have come: whatever takes on from there reads the file with them
abbrev pub Leaves : List ℕ → ℕ → List Call → ℕ → Type 0
Leaves name limit calls count = (more : List Call) (failed : Bool) → IsTaken limit count more failed →
    IsRead name limit (calls ++ more) failed

-- where they are told, the calls that came have taken so many bytes of the file
abbrev pub TakesSo : Option (List Call) → Option (List Call) → List ℕ → ℕ → ℕ → Type 0
TakesSo old new name limit count = (calls : List Call) × Leaves name limit calls count × (new ≡ with_calls old calls)

-- the file was begun
pub takes_first : (old new : Option (List Call)) (name : List ℕ) (limit : ℕ) → new ≡ with_calls old (begins name ∷ []) →
    TakesSo old new name limit 0
takes_first old new name limit e = (begins name ∷ [], (λ more failed h. (refl, h)), e)

-- it could not be begun
pub begin_failed : (old new : Option (List Call)) (name : List ℕ) (limit : ℕ) → new ≡ with_calls old (begin_fails name ∷ []) →
    ReadsBy old new name limit true
begin_failed old new name limit e = (begin_fails name ∷ [], (refl, refl, refl), e)

-- the calls with one more
told_more : (old new newer : Option (List Call)) (calls : List Call) (call : Call) → new ≡ with_calls old calls → newer ≡
    with_calls new (call ∷ []) → newer ≡ with_calls old (calls ++ call ∷ [])
told_more old new newer calls call is e = e ∙ ap (λ told. with_calls told (call ∷ [])) is ∙ with_calls_more old calls (call ∷ [])

-- some bytes came
pub takes_more : (old new newer : Option (List Call)) (name : List ℕ) (limit count n : ℕ) → count ≤ limit → (n ≡ 0 → ⊥) →
    TakesSo old new name limit count → newer ≡ with_calls new (takes n ∷ []) → TakesSo old newer name limit (count + n)
takes_more old new newer name limit count n few some (calls, leaves, is) e = (
  calls ++ takes n ∷ [],
  (λ more failed h. subst (λ (all : List Call). IsRead name limit all failed) (sym (append_assoc calls (takes n ∷ []) more))
      (leaves (takes n ∷ more) failed (few, (λ none. absurd (some none)), h))),
  told_more old new newer calls (takes n) is e,
)

-- no byte came: the file is read
pub takes_none : (old new newer : Option (List Call)) (name : List ℕ) (limit count n : ℕ) → count ≤ limit → n ≡ 0 →
    TakesSo old new name limit count → newer ≡ with_calls new (takes n ∷ []) → ReadsBy old newer name limit false
takes_none old new newer name limit count n few none (calls, leaves, is) e =
    (calls ++ takes n ∷ [], leaves (takes n ∷ []) false (few, (λ z. refl), refl), told_more old new newer calls (takes n) is e)

-- a call failed
pub take_failed : (old new newer : Option (List Call)) (name : List ℕ) (limit count : ℕ) → count ≤ limit →
    TakesSo old new name limit count → newer ≡ with_calls new (take_fails ∷ []) → ReadsBy old newer name limit true
take_failed old new newer name limit count few (calls, leaves, is) e =
    (calls ++ take_fails ∷ [], leaves (take_fails ∷ []) true (few, refl, refl), told_more old new newer calls take_fails is e)

-- no more is taken
pub takes_end : (old new : Option (List Call)) (name : List ℕ) (limit count : ℕ) → TakesSo old new name limit count →
    ReadsBy old new name limit false
takes_end old new name limit count (calls, leaves, is) =
    (calls, subst (λ (all : List Call). IsRead name limit all false) (append-nil calls) (leaves [] false refl), is)
