-- The code of rows with one more, and without one of them.
use Rattle.std.proofs.Common.{◌≡◌, ℕ, ◌+◌, ◌-◌, ◌^◌, ◌<◌, ◌≤◌, ◌%◌, List, length, get_or, sym, ap, ◌∙◌, arith}
use Rattle.std.proofs.Math.Nat.{mod-add-mod, add-mod_right}
use Rattle.std.proofs.lemmas.List.Sums.{sum_by-insert, sum_by-remove}
use Rattle.std.specs.List.{insert, remove, sum_by}
use Rattle.tl_syntax.specs.declared.value.Value.{Value}
use Rattle.tl_rows.specs.Codes.{row_code, rows_code}

-- the code of rows with one more
pub code-added : (code a at : ℕ) (rows after : List (List Value)) (row : List Value) → code ≡ rows_code rows → a ≡ row_code row → after ≡
    insert rows at row → (code + a) % 2 ^ 64 ≡ rows_code after
code-added code a at rows after row e is_a made =
    let more = sum_by-insert row_code rows at row in
    ap (λ c. (c + a) % 2 ^ 64) e
    ∙ (mod-add-mod (sum_by row_code rows) (2 ^ 64) a
    ∙ (ap (λ u. u % 2 ^ 64) (let q : sum_by row_code rows + a ≡ sum_by row_code (insert rows at row) = omega (arith, more, is_a) in q) ∙
    ap rows_code (sym made)))

-- the code of rows without one
pub code-removed : (code b cut : ℕ) (rows after : List (List Value)) (gone : List Value) → code ≡ rows_code rows → b ≡ row_code gone →
    b ≤ 2 ^ 64 → gone ≡ get_or rows cut gone → cut < length rows → after ≡ remove rows cut → (code + (2 ^ 64 - b)) % 2 ^ 64 ≡
    rows_code after
code-removed code b cut rows after gone e is_b fits is_gone p made =
    let s = sum_by row_code rows in
    let t = sum_by row_code (remove rows cut) in
    let less = sum_by-remove row_code rows cut gone p in
    let out : row_code (get_or rows cut gone) ≡ b = ap row_code (sym is_gone) ∙ sym is_b in
    ap (λ c. (c + (2 ^ 64 - b)) % 2 ^ 64) e
    ∙ (mod-add-mod s (2 ^ 64) (2 ^ 64 - b)
    ∙ (ap (λ u. u % 2 ^ 64) (let q : s + (2 ^ 64 - b) ≡ t + 2 ^ 64 = omega (arith, less, out, fits) in q)
    ∙ (add-mod_right t (2 ^ 64) ∙ ap rows_code (sym made))))
