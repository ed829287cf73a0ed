-- The front of a file that is read piece by piece, and of bytes that are written so.
use Rattle.std.proofs.Common.{◌≡◌, ℕ, ◌+◌, ◌-◌, ◌<◌, ◌≤◌, List, ◌++◌, length, take, drop, refl, sym, ap, ◌∙◌, arith, length-append}
use Rattle.std.specs.Prelude.{⊤, None, Some, Option}
use Rattle.std.proofs.Math.Seq.{take-add}
use Rattle.std.proofs.lemmas.List.{append_assoc, take_rest}
use Rattle.std.proofs.lemmas.Grind.{common_steps}
use Rattle.std.specs.Io.KnownBytes.{append_known}
use Rattle.std.specs.FinMap as dict
use Rattle.tl_outside.specs.Told.{Files, told_file, Lacks, IsContent, GivesFrom, IsLonger}

-- the first d bytes, and then the next n
append_known_parts : (old : Option (List ℕ)) (bs : List ℕ) (d n : ℕ) → append_known (append_known old (take d bs)) (take n (drop d bs)) ≡
    append_known old (take (d + n) bs)
append_known_parts None bs d n = refl
append_known_parts (Some xs) bs d n =
    ap Some (append_assoc xs (take d bs) (take n (drop d bs)) ∙ ap (λ t. xs ++ t) (sym (take-add d n bs)))

-- the same, where the rest is spelled as `&bs[d..]` is
pub append_known_more : (old : Option (List ℕ)) (bs : List ℕ) (d n : ℕ) →
    append_known (append_known old (take d bs)) (take n (take (length bs - d) (drop d bs))) ≡ append_known old (take (d + n) bs)
append_known_more old bs d n =
    ap (λ t. append_known (append_known old (take d bs)) (take n t)) (take_rest bs d) ∙ append_known_parts old bs d n

-- where the file's bytes are told, these are the first of them
abbrev pub IsFront : Option (List ℕ) → List ℕ → Type 0
IsFront None bytes = ⊤
IsFront (Some file) bytes = (length bytes ≤ length file) × (bytes ≡ take (length bytes) file)

-- a front of a file, and the piece that follows it there, are a longer front
front_piece : (file bytes piece : List ℕ) (n : ℕ) → length piece ≡ n → bytes ≡ take (length bytes) file → piece ≡
    take n (drop (length bytes) file) → bytes ++ piece ≡ take (length (bytes ++ piece)) file
front_piece file bytes piece n len e f =
    let l : length (bytes ++ piece) ≡ length bytes + n = length-append bytes piece ∙ ap (λ k. length bytes + k) len in
    ap (λ t. bytes ++ t) f ∙ ap (λ t. t ++ take n (drop (length bytes) file)) e ∙ sym (take-add (length bytes) n file) ∙
    ap (λ k. take k file) (sym l)

-- the front with the next piece
pub front_more : (whole : Option (List ℕ)) (bytes room : List ℕ) (n : ℕ) → n ≤ length room → IsFront whole bytes →
    GivesFrom whole (length bytes) n room → IsFront whole (bytes ++ take n room)
front_more None bytes room n le front gives = tt
front_more (Some file) bytes room n le front gives =
    let len : length (take n room) ≡ n = grind (arith, common_steps) in
    (omega (arith, length-append bytes (take n room), len, gives.0), front_piece file bytes (take n room) n len front.1 gives.1)

-- at the end of the file the front is all of it
pub front_whole : (files : Option Files) (name bytes room : List ℕ) → IsFront (told_file files name) bytes →
    GivesFrom (told_file files name) (length bytes) 0 room → 0 < length room → (Lacks files name → ⊥) → IsContent files name bytes
front_whole None name bytes room front gives some has = tt
front_whole (Some files) name bytes room front gives some has = at_end (dict.get files name) bytes room front gives some has
  where
    at_end : (file : Option (List ℕ)) (bytes room : List ℕ) → IsFront file bytes → GivesFrom file (length bytes) 0 room → 0 < length room →
        (file ≡ None → ⊥) → file ≡ Some bytes
    at_end None bytes room front gives some has = absurd (has refl)
    at_end (Some file) bytes room front gives some has =
        let len : length bytes ≡ length file = gives.2 refl some in
        ap Some (sym (front.1 ∙ grind (arith, common_steps, len)))

-- no more is taken than asked for
pub length_take_le : (n : ℕ) (xs : List ℕ) → length (take n xs) ≤ n
length_take_le n xs = grind (arith, common_steps)

-- a front that is longer than the limit is that of such a file
pub front_longer : (files : Option Files) (name bytes : List ℕ) (limit : ℕ) → IsFront (told_file files name) bytes → limit < length bytes →
    (Lacks files name → ⊥) → IsLonger files name limit
front_longer None name bytes limit front more has = (bytes, tt, more)
front_longer (Some files) name bytes limit front more has = longer (dict.get files name) bytes limit front more has
  where
    longer : (file : Option (List ℕ)) (bytes : List ℕ) (limit : ℕ) → IsFront file bytes → limit < length bytes → (file ≡ None → ⊥) →
        (all : List ℕ) × (file ≡ Some all) × (limit < length all)
    longer None bytes limit front more has = absurd (has refl)
    longer (Some file) bytes limit front more has = (file, refl, omega (arith, front.0))
