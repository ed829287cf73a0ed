-- The place of a name in a list of files.
use Rattle.std.proofs.Common.{◌≡◌, ℕ, suc, ◌+◌, ◌<◌, ◌≤◌, List, [], length, get_or, drop, true, false, cond, sym, ap, ◌∙◌, arith, add-one}
use Rattle.std.proofs.Common.{drop-cons}
use Rattle.std.specs.Prelude.{Some, None}
use Rattle.std.specs.FinMap as dict
use Rattle.std.specs.FinMap.{find}
use Rattle.std.specs.Cmp.Lexicographic.{slice_cmp, nat_list_cmp_total}
use Rattle.std.specs.Ordering.{nat_cmp}
use Rattle.std.proofs.lemmas.List.{drop_all}
use Rattle.std.specs.Str.{bytes_eq}
use Rattle.std.proofs.lemmas.Map.Text.{is_eq-slice_cmp}
use Rattle.std.proofs.lemmas.Grind.{common_steps}
use Rattle.tl_outside.specs.FileList.{listed_files, bytes_at}

-- what is found from a place on is decided by the file there, or comes from the next place on
find_at : (files : List (List ℕ × List ℕ)) (q : List ℕ) (i : ℕ) (file : List ℕ × List ℕ) → i < length files → get_or files i file ≡ file →
    find (slice_cmp nat_cmp) q (drop i files) ≡ cond (bytes_eq q file.0) (Some file.1) (find (slice_cmp nat_cmp) q (drop (i + 1) files))
find_at files q i file lt is =
    rw (add-one, drop-cons files i file, is) (ap (λ b. cond b (Some file.1) (find (slice_cmp nat_cmp) q (drop (suc i) files)))
    (is_eq-slice_cmp q file.0))

-- a file of another name is passed
pub passed : (files : List (List ℕ × List ℕ)) (q : List ℕ) (i : ℕ) (file : List ℕ × List ℕ) → i < length files → get_or files i file ≡
    file → bytes_eq q file.0 ≡ false → find (slice_cmp nat_cmp) q files ≡ find (slice_cmp nat_cmp) q (drop i files) →
    find (slice_cmp nat_cmp) q files ≡ find (slice_cmp nat_cmp) q (drop (i + 1) files)
passed files q i file lt is other so_far =
    so_far ∙ find_at files q i file lt is ∙ ap (λ b. cond b (Some file.1) (find (slice_cmp nat_cmp) q (drop (i + 1) files))) other

-- the first file of the name is what the map has
pub found : (files : List (List ℕ × List ℕ)) (q : List ℕ) (i : ℕ) (file : List ℕ × List ℕ) → i < length files → get_or files i file ≡ file →
    bytes_eq q file.0 ≡ true → find (slice_cmp nat_cmp) q files ≡ find (slice_cmp nat_cmp) q (drop i files) →
    dict.get (listed_files files) q ≡ Some (bytes_at files i)
found files q i file lt is same so_far =
    let at : bytes_at files i ≡ file.1 = ap (λ (e : List ℕ × List ℕ). e.1) (get_or_any files i ([], []) file lt ∙ is) in
    dict.get-from_entries nat_list_cmp_total files q ∙ so_far ∙ find_at files q i file lt is ∙
    ap (λ b. cond b (Some file.1) (find (slice_cmp nat_cmp) q (drop (i + 1) files))) same ∙ ap Some (sym at)
  where
    get_or_any : (xs : List (List ℕ × List ℕ)) (i : ℕ) (d e : List ℕ × List ℕ) → i < length xs → get_or xs i d ≡ get_or xs i e
    get_or_any xs i d e lt = grind (arith, common_steps)

-- past the last file, the map has none
pub absent : (files : List (List ℕ × List ℕ)) (q : List ℕ) (i : ℕ) → length files ≤ i → find (slice_cmp nat_cmp) q files ≡
    find (slice_cmp nat_cmp) q (drop i files) → dict.get (listed_files files) q ≡ None
absent files q i end so_far =
    dict.get-from_entries nat_list_cmp_total files q ∙ so_far ∙ ap (find (slice_cmp nat_cmp) q) (drop_all i files end)
