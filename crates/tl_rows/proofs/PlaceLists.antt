-- The places of a function, as the list of their arguments and the list of their values.
use Rattle.std.proofs.Common.{◌≡◌, ℕ, zero, suc, ◌+◌, ◌-◌, ◌%◌, ◌^◌, ◌<◌, ◌≤◌, Bool, false, true≢false, List, [], ◌∷◌, ◌++◌, take, drop}
use Rattle.std.proofs.Common.{length, map, get_or, refl, sym, ap, ◌∙◌, subst, arith, Ok, Err, Less, Equal, Greater}
use Rattle.std.proofs.Math.Nat.{mod-add-mod, add-mod_right}
use Rattle.std.proofs.lemmas.List.{get_or_default, length-map}
use Rattle.std.specs.declared.result.Result.{Result}
use Rattle.std.specs.List.Sorted.{IsBinarySearchResult, IsNonDecreasingBy, IsSearchInRange}
use Rattle.std.specs.Ordering.{ordering_index}
use Rattle.std.proofs.lemmas.List.Sums.{sum_by-insert, sum_by-remove}
use Rattle.std.specs.List.{insert, remove, sum_by}
use Rattle.std.specs.Prelude.{slice_set}
use Rattle.tl_syntax.specs.declared.value.Value.{Value}
use Rattle.tl_rows.specs.declared.table.PlaceRow.{PlaceRow}
use Rattle.tl_syntax.specs.DerivedTests.{value_eq}
use Rattle.tl_syntax.proofs.Plain.{list-tells, value-tells}
use Rattle.tl_syntax.proofs.Telling.{told_alike}
use Rattle.tl_rows.specs.Codes.{place_code, places_code, values_eq}
use Rattle.tl_rows.specs.Places.{place_rows, place_set}
use Rattle.tl_rows.specs.Plain.{row_cmp}
use Rattle.tl_rows.specs.RowTests.{place_rows_eq, place_rows-tell}

pub count : (us : List (List Value)) (vs : List Value) → length us ≡ length vs → length (place_rows us vs) ≡ length vs
count [] [] e = refl
count [] (v ∷ vs) e = e
count (a ∷ us) [] e = absurd (omega (arith, e))
count (a ∷ us) (v ∷ vs) e = ap suc (count us vs (omega (arith, e)))

pub all-args : (us : List (List Value)) (vs : List Value) → length us ≡ length vs → us ≡ map (λ (r : PlaceRow). r.args) (place_rows us vs)
all-args [] vs e = refl
all-args (a ∷ us) [] e = absurd (omega (arith, e))
all-args (a ∷ us) (v ∷ vs) e = ap (λ bs. a ∷ bs) (all-args us vs (omega (arith, e)))

pub args-at : (us : List (List Value)) (vs : List Value) (k : ℕ) (a : List Value) (d : PlaceRow) → length us ≡ length vs → k < length vs →
    get_or us k a ≡ (get_or (place_rows us vs) k d).args
args-at [] [] k a d e p = absurd (omega (arith, p))
args-at [] (v ∷ vs) k a d e p = absurd (omega (arith, e))
args-at (b ∷ us) [] k a d e p = absurd (omega (arith, p))
args-at (b ∷ us) (v ∷ vs) zero a d e p = refl
args-at (b ∷ us) (v ∷ vs) (suc k) a d e p = args-at us vs k a d (omega (arith, e)) (omega (arith, p))

pub value-at : (us : List (List Value)) (vs : List Value) (k : ℕ) (x : Value) (d : PlaceRow) → length us ≡ length vs → k < length vs →
    get_or vs k x ≡ (get_or (place_rows us vs) k d).value
value-at [] [] k x d e p = absurd (omega (arith, p))
value-at [] (v ∷ vs) k x d e p = absurd (omega (arith, e))
value-at (b ∷ us) [] k x d e p = absurd (omega (arith, p))
value-at (b ∷ us) (v ∷ vs) zero x d e p = refl
value-at (b ∷ us) (v ∷ vs) (suc k) x d e p = value-at us vs k x d (omega (arith, e)) (omega (arith, p))

pub set-at : (us : List (List Value)) (vs : List Value) (k : ℕ) (x : Value) → length us ≡ length vs → k < length vs →
    place_rows us (slice_set vs k x) ≡ place_set (place_rows us vs) k x
set-at [] [] k x e p = absurd (omega (arith, p))
set-at [] (v ∷ vs) k x e p = absurd (omega (arith, e))
set-at (b ∷ us) [] k x e p = absurd (omega (arith, p))
set-at (b ∷ us) (v ∷ vs) zero x e p = refl
set-at (b ∷ us) (v ∷ vs) (suc k) x e p = ap (λ rs. record { args = b; value = v } ∷ rs)
    (set-at us vs k x (omega (arith, e)) (omega (arith, p)))

pub insert-at : (us : List (List Value)) (vs : List Value) (k : ℕ) (a : List Value) (x : Value) → length us ≡ length vs → k ≤ length vs →
    place_rows (insert us k a) (insert vs k x) ≡ insert (place_rows us vs) k (record { args = a; value = x })
insert-at [] [] zero a x e p = refl
insert-at [] [] (suc k) a x e p = absurd (omega (arith, p))
insert-at [] (v ∷ vs) k a x e p = absurd (omega (arith, e))
insert-at (b ∷ us) [] k a x e p = absurd (omega (arith, e))
insert-at (b ∷ us) (v ∷ vs) zero a x e p = refl
insert-at (b ∷ us) (v ∷ vs) (suc k) a x e p = ap (λ rs. record { args = b; value = v } ∷ rs)
    (insert-at us vs k a x (omega (arith, e)) (omega (arith, p)))

-- another value is a removal and an insertion
pub set-edit : (rows : List PlaceRow) (k : ℕ) (x : Value) (d : PlaceRow) → k < length rows → place_set rows k x ≡
    insert (remove rows k) k (record { args = (get_or rows k d).args; value = x })
set-edit [] k x d p = absurd (omega (arith, p))
set-edit (r ∷ rows) zero x d p = refl
set-edit (r ∷ rows) (suc k) x d p = ap (λ rs. r ∷ rs) (set-edit rows k x d (omega (arith, p)))

pub all-values : (us : List (List Value)) (vs : List Value) → length us ≡ length vs → vs ≡
    map (λ (r : PlaceRow). r.value) (place_rows us vs)
all-values [] [] e = refl
all-values [] (v ∷ vs) e = absurd (omega (arith, e))
all-values (a ∷ us) [] e = absurd (omega (arith, e))
all-values (a ∷ us) (v ∷ vs) e = ap (λ ws. v ∷ ws) (all-values us vs (omega (arith, e)))

-- the code of places with one more
pub code-added : (code b k : ℕ) (rows after : List PlaceRow) (row : PlaceRow) → code ≡ places_code rows → b ≡ place_code row → after ≡
    insert rows k row → (code + b) % 2 ^ 64 ≡ places_code after
code-added code b k rows after row e is_b made =
    let more = sum_by-insert place_code rows k row in
    ap (λ c. (c + b) % 2 ^ 64) e
    ∙ (mod-add-mod (sum_by place_code rows) (2 ^ 64) b
    ∙ (ap (λ u. u % 2 ^ 64) (let q : sum_by place_code rows + b ≡ sum_by place_code (insert rows k row) = omega (arith, more, is_b) in q) ∙
    ap places_code (sym made)))

-- and without one
pub code-removed : (code b k : ℕ) (rows after : List PlaceRow) (gone : PlaceRow) → code ≡ places_code rows → b ≡ place_code gone →
    b ≤ 2 ^ 64 → gone ≡ get_or rows k gone → k < length rows → after ≡ remove rows k → (code + (2 ^ 64 - b)) % 2 ^ 64 ≡ places_code after
code-removed code b k rows after gone e is_b fits is_gone p made =
    let s = sum_by place_code rows in
    let t = sum_by place_code (remove rows k) in
    let less = sum_by-remove place_code rows k gone p in
    let out : place_code (get_or rows k gone) ≡ b = ap place_code (sym is_gone) ∙ sym is_b in
    ap (λ c. (c + (2 ^ 64 - b)) % 2 ^ 64) e
    ∙ (mod-add-mod s (2 ^ 64) (2 ^ 64 - b)
    ∙ (ap (λ u. u % 2 ^ 64) (let q : s + (2 ^ 64 - b) ≡ t + 2 ^ 64 = omega (arith, less, out, fits) in q)
    ∙ (add-mod_right t (2 ^ 64) ∙ ap places_code (sym made))))

-- and with another value
pub code-set : (code b c k : ℕ) (rows : List PlaceRow) (args : List Value) (old new : Value) (d : PlaceRow) → code ≡ places_code rows → b ≡
    place_code (record { args = args; value = old }) → c ≡ place_code (record { args = args; value = new }) → b ≤ 2 ^ 64
    → args ≡ (get_or rows k d).args → old ≡ (get_or rows k d).value → k < length rows → ((code + (2 ^ 64 - b)) % 2 ^ 64 + c) % 2 ^ 64 ≡
    places_code (place_set rows k new)
code-set code b c k rows args old new d e is_b is_c fits a v p =
    let gone : PlaceRow = record { args = args; value = old } in
    let here : gone ≡ get_or rows k gone = (λ i. record { args = a i; value = v i }) ∙ get_or_default rows k d gone p in
    code-added ((code + (2 ^ 64 - b)) % 2 ^ 64) c k (remove rows k) (place_set rows k new) (record { args = args; value = new })
    (code-removed code b k rows (remove rows k) gone e is_b fits here p refl) is_c
    (set-edit rows k new d p ∙ ap (λ x. insert (remove rows k) k (record { args = x; value = new })) (sym a))

-- places of other codes, or of other arguments
pub differ : (rows others : List PlaceRow) → (rows ≡ others → ⊥) → false ≡ place_rows_eq rows others
differ rows others other = told_alike {P = rows ≡ others} false (place_rows_eq rows others)
    (λ h. absurd (true≢false (sym h)), λ e. absurd (other e)) (place_rows-tell rows others)

-- places of the same arguments are the same where their values are
pub same-values : (us ys : List (List Value)) (vs ws : List Value) (rows others : List PlaceRow) (b : Bool) → length us ≡ length vs →
    length ys ≡ length ws → place_rows us vs ≡ rows → place_rows ys ws ≡ others → us ≡ ys → b ≡ values_eq vs ws → b ≡
    place_rows_eq rows others
same-values us ys vs ws rows others b p q v w e is =
    let tell = list-tells value_eq value-tells vs ws in
    told_alike {P = rows ≡ others} b (place_rows_eq rows others) (
      λ t. sym v ∙ ((λ i. place_rows (e i) ((tell.0 (sym is ∙ t)) i)) ∙ w),
      λ h. is ∙
          tell.1 (all-values us vs p ∙ (ap (map (λ (r : PlaceRow). r.value)) (v ∙ (h ∙ sym w)) ∙ sym (all-values ys ws q))),
    )
    (place_rows-tell rows others)

-- one more value, as the values before it, it, and those after it
pub with-is : (vs : List Value) (k : ℕ) (x : Value) → k ≤ length vs → take k vs ++ (x ∷ [] ++ drop k vs) ≡ insert vs k x
with-is [] zero x p = refl
with-is [] (suc k) x p = absurd (omega (arith, p))
with-is (v ∷ vs) zero x p = refl
with-is (v ∷ vs) (suc k) x p = ap (λ ws. v ∷ ws) (with-is vs k x (omega (arith, p)))

-- what a search by the arguments found is what a search of the arguments found
get-mapped : {R : Type 0} (f : R → List Value) (xs : List R) (k : ℕ) (d : R) → get_or (map f xs) k (f d) ≡ f (get_or xs k d)
get-mapped f [] k d = refl
get-mapped f (x ∷ xs) zero d = refl
get-mapped f (x ∷ xs) (suc k) d = get-mapped f xs k d

rises-mapped : {R : Type 0} (f : R → List Value) (o : List Value → ℕ) (xs : List R) → IsNonDecreasingBy (λ x. o (f x)) xs →
    IsNonDecreasingBy o (map f xs)
rises-mapped f o [] rise i j d p q = absurd (omega (arith, q))
rises-mapped f o (x ∷ xs) rise i j d p q =
    let l = length-map (x ∷ xs) f in
    let low : i < length (map f (x ∷ xs)) = omega (arith, p, q) in
    let a : get_or (map f (x ∷ xs)) i d ≡ f (get_or (x ∷ xs) i x) = get_or_default (map f (x ∷ xs)) i d (f x) low ∙
    get-mapped f (x ∷ xs) i x in
    let b : get_or (map f (x ∷ xs)) j d ≡ f (get_or (x ∷ xs) j x) = get_or_default (map f (x ∷ xs)) j d (f x) q ∙
    get-mapped f (x ∷ xs) j x in
    let r = rise i j x p (omega (arith, l, q)) in
    let u : o (get_or (map f (x ∷ xs)) i d) ≡ o (f (get_or (x ∷ xs) i x)) = ap o a in
    let v : o (get_or (map f (x ∷ xs)) j d) ≡ o (f (get_or (x ∷ xs) j x)) = ap o b in
    omega (arith, r, u, v)

pub search-mapped : {R : Type 0} (f : R → List Value) (args : List Value) (xs : List R) (r : Result ℕ ℕ) →
    IsBinarySearchResult (λ (y : List Value). row_cmp y args) (map f xs) r → IsBinarySearchResult (λ x. row_cmp (f x) args) xs r
search-mapped f args xs (Ok k) h = λ d. subst (λ y. row_cmp y args ≡ Equal) (get-mapped f xs k d) (h (f d))
search-mapped f args xs (Err k) h = λ rise.
    let parts = h (rises-mapped f (λ y. ordering_index (row_cmp y args)) xs rise) in
    let l = length-map xs f in (
      λ j d p q. subst (λ y. row_cmp y args ≡ Less) (get-mapped f xs j d) (parts.0 j (f d) p q),
      λ j d p q. subst (λ y. row_cmp y args ≡ Greater) (get-mapped f xs j d) (parts.1 j (f d) p (omega (arith, l, q))),
    )

pub range-mapped : {R : Type 0} (f : R → List Value) (xs : List R) (r : Result ℕ ℕ) → IsSearchInRange r (length (map f xs)) →
    IsSearchInRange r (length xs)
range-mapped f xs (Ok k) h = let l = length-map xs f in omega (arith, l, h)
range-mapped f xs (Err k) h = let l = length-map xs f in omega (arith, l, h)
