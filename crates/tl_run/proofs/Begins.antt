-- The calls of a store by which the files of a command are read in turn.
use Rattle.std.proofs.Common.{◌≡◌, ℕ, zero, suc, ◌+◌, List, [], ◌∷◌, ◌++◌, map, take, Bool, true, false, refl, sym, ap, ◌∙◌, subst, arith}
use Rattle.std.proofs.Common.{append_assoc}
use Rattle.std.specs.Prelude.{None, Some, Option, slice_get}
use Rattle.std.proofs.lemmas.List.{append-nil, map-append}
use Rattle.tl_outside.specs.Calls.{Call, begins, begin_fails, takes, take_fails, with_calls, begun_names, EndsByFault, IsTaken, IsRead}
use Rattle.tl_outside.specs.Calls.{ReadsBy}
use Rattle.tl_run.specs.declared.words.Role.{Role}
use Rattle.tl_run.specs.Commands.{Command, files_of}
use Rattle.tl_run.specs.Turns.{BeginsFirst, CallsTold, first_names}
use Rattle.tl_run.proofs.Reading.{next_taken}

-- no call at all
with_no_calls : (told : Option (List Call)) → with_calls told [] ≡ told
with_no_calls None = refl
with_no_calls (Some all) = ap Some (append-nil all)

-- calls, and then others
with_calls_more : (told : Option (List Call)) (calls more : List Call) → with_calls (with_calls told calls) more ≡
    with_calls told (calls ++ more)
with_calls_more None calls more = refl
with_calls_more (Some all) calls more = ap Some (append_assoc all calls more)

-- the names of calls, and of others after them
names_append : (calls more : List Call) → begun_names (calls ++ more) ≡ begun_names calls ++ begun_names more
names_append [] more = refl
names_append (begins name ∷ calls) more = ap (λ (names : List (List ℕ)). name ∷ names) (names_append calls more)
names_append (begin_fails name ∷ calls) more = ap (λ (names : List (List ℕ)). name ∷ names) (names_append calls more)
names_append (takes n ∷ calls) more = names_append calls more
names_append (take_fails ∷ calls) more = names_append calls more

-- after calls of which none failed, others
ends_append : (calls more : List Call) (failed : Bool) → EndsByFault calls false → EndsByFault more failed →
    EndsByFault (calls ++ more) failed
ends_append [] more failed none ends = ends
ends_append (begins name ∷ calls) more failed none ends = ends_append calls more failed none ends
ends_append (takes n ∷ calls) more failed none ends = ends_append calls more failed none ends
ends_append (begin_fails name ∷ calls) more failed none ends = absurd (let e = none.1 in let k : ⊥ = cc in k)
ends_append (take_fails ∷ calls) more failed none ends = absurd (let e = none.1 in let k : ⊥ = cc in k)

-- taking begins no file
taken_names : (limit count : ℕ) (calls : List Call) (failed : Bool) → IsTaken limit count calls failed → begun_names calls ≡ []
taken_names limit count [] failed h = refl
taken_names limit count (takes n ∷ calls) failed h = taken_names limit (count + n) calls failed h.2
taken_names limit count (take_fails ∷ calls) failed h = ap begun_names h.1
taken_names limit count (begins name ∷ calls) failed h = absurd h
taken_names limit count (begin_fails name ∷ calls) failed h = absurd h

taken_ends : (limit count : ℕ) (calls : List Call) (failed : Bool) → IsTaken limit count calls failed → EndsByFault calls failed
taken_ends limit count [] failed h = h
taken_ends limit count (takes n ∷ calls) failed h = taken_ends limit (count + n) calls failed h.2
taken_ends limit count (take_fails ∷ calls) failed h = (h.1, h.2)
taken_ends limit count (begins name ∷ calls) failed h = absurd h
taken_ends limit count (begin_fails name ∷ calls) failed h = absurd h

-- reading a file begins it alone
read_names : (name : List ℕ) (limit : ℕ) (calls : List Call) (failed : Bool) → IsRead name limit calls failed → begun_names calls ≡
    name ∷ []
read_names name limit [] failed h = absurd h
read_names name limit (begins begun ∷ calls) failed h =
    ap (λ (n : List ℕ). n ∷ begun_names calls) h.0 ∙ ap (λ (names : List (List ℕ)). name ∷ names) (taken_names limit 0 calls failed h.1)
read_names name limit (begin_fails begun ∷ calls) failed h =
    ap (λ (n : List ℕ). n ∷ begun_names calls) h.0 ∙ ap (λ (more : List Call). name ∷ begun_names more) h.1
read_names name limit (takes n ∷ calls) failed h = absurd h
read_names name limit (take_fails ∷ calls) failed h = absurd h

read_ends : (name : List ℕ) (limit : ℕ) (calls : List Call) (failed : Bool) → IsRead name limit calls failed → EndsByFault calls failed
read_ends name limit [] failed h = absurd h
read_ends name limit (begins begun ∷ calls) failed h = taken_ends limit 0 calls failed h.1
read_ends name limit (begin_fails begun ∷ calls) failed h = (h.1, h.2)
read_ends name limit (takes n ∷ calls) failed h = absurd h
read_ends name limit (take_fails ∷ calls) failed h = absurd h

-- before the first file
pub begins_none : (c : Command) (told : Option (List Call)) → BeginsFirst c (record { before = told; after = told }) 0 false
begins_none c told = record { calls = []; came = sym (with_no_calls told); begun = refl; ends = refl }

-- a command without files begins none
pub begins_no_file : (c : Command) (told : Option (List Call)) (count : ℕ) → files_of c ≡ [] →
    BeginsFirst c (record { before = told; after = told }) count false
begins_no_file c told count none = record {
  calls = [];
  came = sym (with_no_calls told);
  begun = sym (ap (λ (fs : List (Role × List ℕ)). map (λ (f : Role × List ℕ). f.1) (take count fs)) none ∙ no_names count);
  ends = refl;
}
  where
    no_names : (count : ℕ) → map (λ (f : Role × List ℕ). f.1) (take count []) ≡ []
    no_names zero = refl
    no_names (suc count) = refl

-- one file more
pub begins_more : (c : Command) (before mid after : Option (List Call)) (i : ℕ) (f : Role × List ℕ) (limit : ℕ) (failed : Bool) →
    slice_get (files_of c) i ≡ Some f → BeginsFirst c (record { before = before; after = mid }) i false →
    ReadsBy mid after f.1 limit failed → BeginsFirst c (record { before = before; after = after }) (i + 1) failed
begins_more c before mid after i f limit failed at known (calls, read, came) =
    let e : suc i ≡ i + 1 = omega arith in
    let names : first_names c (i + 1) ≡ first_names c i ++ f.1 ∷ [] =
    ap (first_names c) (sym e) ∙ ap (map (λ (g : Role × List ℕ). g.1)) (next_taken (files_of c) i f at) ∙
    map-append (λ (g : Role × List ℕ). g.1) (take i (files_of c)) (f ∷ []) in
    record {
      calls = known.calls ++ calls;
      came = came ∙ ap (λ (told : Option (List Call)). with_calls told calls) known.came ∙ with_calls_more before known.calls calls;
      begun = names_append known.calls calls ∙ ap (λ (ns : List (List ℕ)). ns ++ begun_names calls) known.begun ∙
          ap (λ (ns : List (List ℕ)). first_names c i ++ ns) (read_names f.1 limit calls failed read) ∙ sym names;
      ends = ends_append known.calls calls failed known.ends (read_ends f.1 limit calls failed read);
    }
