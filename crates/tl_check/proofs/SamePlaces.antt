-- Bounds that read the same in two worlds.
use Rattle.std.proofs.Common.{◌≡◌, ◌≤◌, ◌<◌, ◌+◌, ◌↔◌, ℕ, zero, suc, List, [], ◌∷◌, map, take, length, get_or, Option, Some, None, refl}
use Rattle.std.proofs.Common.{sym, ap, ap₂, ◌∙◌, subst, arith, add-one}
use Rattle.std.specs.Prelude.{slice_get}
use native.Mathlib.Decide.{dec_lt}
use Rattle.tl_check.specs.Gathered.{HaveSamePlaces, ReadSame, ReadSameUpTo}
use Rattle.tl_syntax.specs.declared.bound.Bound.{Bound}
use Rattle.tl_syntax.specs.declared.bound.Bound.TheVariants as bound
use Rattle.tl_syntax.specs.declared.value.Value.{Value}
use Rattle.tl_syntax.specs.declared.variable.Arg.{Arg}
use Rattle.tl_syntax.specs.declared.variable.Var.{Var}
use Rattle.tl_syntax.specs.Assignment.{Assignment, bind}
use Rattle.tl_syntax.specs.BoundVariables.{DifferInSlot, OccurIn}
use Rattle.tl_syntax.specs.Lists.{Among}
use Rattle.tl_terms.proofs.Tuples.{all-tuples}
use Rattle.tl_terms.specs.Bounds.{arg_value, arg_values, bound_true, same_value, tuples}
use Rattle.tl_terms.specs.Definitions.{situation_of}
use Rattle.tl_terms.specs.Problem.{PlainProblem}
use Rattle.tl_terms.specs.Terms.{place_value}
use Rattle.tl_terms.specs.World.{World, value_at}
use Rattle.tl_world.specs.Calls.{ArePlacesOf}
use Rattle.tl_rows.specs.Tables.{place_row}
use Rattle.tl_rows.specs.declared.table.PlaceRow.{PlaceRow}

-- ---- tables of places

-- the rows are the same, row by row
pub rows-more : (xs ys : List PlaceRow) (k : ℕ) → k < length xs → k < length ys → take k xs ≡ take k ys →
    ((d : PlaceRow) → (get_or xs k d).args ≡ (get_or ys k d).args) → ((d : PlaceRow) → (get_or xs k d).value ≡ (get_or ys k d).value) →
    take (k + 1) xs ≡ take (k + 1) ys
rows-more xs ys k l m so args value = ap (λ (n : ℕ). take n xs) (add-one k) ∙
    (by xs ys k l m so args value ∙ ap (λ (n : ℕ). take n ys) (sym (add-one k)))
  where
    by : (us vs : List PlaceRow) (n : ℕ) → n < length us → n < length vs → take n us ≡ take n vs →
        ((d : PlaceRow) → (get_or us n d).args ≡ (get_or vs n d).args) → ((d : PlaceRow) → (get_or us n d).value ≡ (get_or vs n d).value) →
        take (suc n) us ≡ take (suc n) vs
    by [] vs n l m so args value = absurd (omega arith)
    by (u ∷ us) [] n l m so args value = absurd (omega arith)
    by (u ∷ us) (v ∷ vs) zero l m so args value = ap₂ (λ (a : List Value) (x : Value).
        (let r : PlaceRow = record { args = a; value = x } in r) ∷ []) (args u) (value u)
    by (u ∷ us) (v ∷ vs) (suc n) l m so args value =
        let head : u ≡ v = cc in
        let rest : take n us ≡ take n vs = cc in
        ap₂ (λ (x : PlaceRow) (xs : List PlaceRow). x ∷ xs) head (by us vs n (omega arith) (omega arith) rest args value)

pub rows-all : (xs ys : List PlaceRow) (k : ℕ) → length xs ≤ k → length ys ≤ k → take k xs ≡ take k ys → xs ≡ ys
rows-all xs ys k l m so = sym (whole xs k l) ∙ (so ∙ whole ys k m)
  where
    whole : (zs : List PlaceRow) (n : ℕ) → length zs ≤ n → take n zs ≡ zs
    whole [] zero h = refl
    whole [] (suc n) h = refl
    whole (z ∷ zs) zero h = absurd (omega arith)
    whole (z ∷ zs) (suc n) h = ap (λ (us : List PlaceRow). z ∷ us) (whole zs n (omega arith))

same-option : (o r : Option Value) → ((v : Value) → (o ≡ Some v) ↔ (r ≡ Some v)) → o ≡ r
same-option None None h = refl
same-option None (Some v) h = (h v).1 refl
same-option (Some v) r h = sym ((h v).0 refl)

pub places-same : (f : ℕ) (v w : World) (xs ys : List PlaceRow) → ArePlacesOf v f xs → ArePlacesOf w f ys → xs ≡ ys → HaveSamePlaces f v w
places-same f v w xs ys h k q = λ a. same-option (value_at v (f, a)) (value_at w (f, a)) (λ x. (
  (λ e. (k a x).0 (subst (λ (rs : List PlaceRow). Among (a, x) (map place_row rs)) q ((h a x).1 e))),
  (λ e. (h a x).0 (subst (λ (rs : List PlaceRow). Among (a, x) (map place_row rs)) (sym q) ((k a x).1 e))),
))

pub places-none : (f : ℕ) (v w : World) → ((a : List Value) → value_at v (f, a) ≡ None) → ((a : List Value) → value_at w (f, a) ≡ None) →
    HaveSamePlaces f v w
places-none f v w h k = λ a. h a ∙ sym (k a)

-- ---- bounds

pub place-same : (f : ℕ) (xs : List Arg) (x : Arg) (v w : World) → HaveSamePlaces f v w → ReadSame (bound.Place f xs x) v w
unfolding bound_true situation_of
place-same f xs x v w h p e = ap (λ (o : Option Value). same_value o (arg_value e x)) (by (arg_values e xs))
  where
    by : (o : Option (List Value)) → place_value v f o ≡ place_value w f o
    by None = refl
    by (Some a) = h a

pub same-begun : (b : Bound) (ws : List World) (from i : ℕ) → i ≡ from + 1 → ReadSameUpTo b ws from i
same-begun b ws from i q k v w l h s t p e =
    let here : k ≡ from = omega arith in
    let both : Some v ≡ Some w = sym s ∙ (ap (slice_get ws) (sym here) ∙ t) in
    let one : v ≡ w = cc in
    ap (λ (u : World). bound_true (situation_of p u) e b) one

pub same-more : (b : Bound) (ws : List World) (from i : ℕ) (v w : World) → slice_get ws from ≡ Some v → slice_get ws i ≡ Some w →
    ReadSame b v w → ReadSameUpTo b ws from i → ReadSameUpTo b ws from (i + 1)
same-more b ws from i v w s t same so k x y l h a c = elim (dec_lt k i) [
  | yes past ↦ so k x y l past a c
  | no now ↦ (
      let here : k ≡ i = omega arith in
      let left : Some v ≡ Some x = sym s ∙ a in
      let right : Some w ≡ Some y = sym t ∙ (ap (slice_get ws) (sym here) ∙ c) in
      let one : v ≡ x = cc in
      let two : w ≡ y = cc in
      λ p e. ap (λ (u : World). bound_true (situation_of p u) e b) (sym one) ∙
      (same p e ∙ ap (λ (u : World). bound_true (situation_of p u) e b) two)
      )
]

-- the tuples are the same
pub same-tuples : (p : PlainProblem) (e : Assignment) (ss : List Var) (b : Bound) (d : DifferInSlot ss) (o : OccurIn ss b) (v w : World) →
    ReadSame b v w → (a : List Value) → Among a (tuples (situation_of p v) e ss b) ↔ Among a (tuples (situation_of p w) e ss b)
same-tuples p e ss b d o v w h a =
    let x = all-tuples (situation_of p v) e ss b d o a in
    let y = all-tuples (situation_of p w) e ss b d o a in
    (λ m. (let k = x.0 m in y.1 (k.0, sym (h p (bind ss a e)) ∙ k.1)), λ m. (let k = y.0 m in x.1 (k.0, h p (bind ss a e) ∙ k.1)))
