-- Actions by numbers stay what they are where more codes and more values come.
use Rattle.std.proofs.Common.{◌≡◌, ◌≤◌, ◌+◌, ◌-◌, ◌^◌, ℕ, zero, suc, List, [], ◌∷◌, ◌++◌, map, length, take, drop, cond, refl, sym, ap, ◌∙◌}
use Rattle.std.proofs.Common.{subst, arith, append_assoc, length-append, length-drop, Bool, true, false}
use Rattle.std.proofs.lemmas.Bool.Decides.{nat_tests}
use Rattle.std.proofs.lemmas.List.{map-append, get_or_append_left, take-append-le, drop-append-le, drop_at, take_all}
use Rattle.std.specs.Prelude.{nat_le, slice_index_or}
use Rattle.tl_syntax.specs.declared.action.Action.{Action}
use Rattle.tl_syntax.specs.declared.value.Value.{Value}
use Rattle.tl_syntax.specs.declared.value.Value.TheVariants.{Sym}
use Rattle.tl_syntax.specs.Lists.{Each}
use Rattle.tl_syntax.proofs.ListLaws.{Each-append}
use Rattle.tl_depth.specs.declared.packed.Head.{Head}
use Rattle.tl_depth.specs.Packed.{value_of, IsCode, action_of, IsHead, Lengthens, AddsCodes, PacksOneMore}

-- ---- values

value-stays : (others more : List Value) (c : ℕ) → IsCode others c → value_of (others ++ more) c ≡ value_of others c
value-stays others more c is = by (nat_le (2 ^ 31) c) refl
  where
    by : (b : Bool) → nat_le (2 ^ 31) c ≡ b → value_of (others ++ more) c ≡ value_of others c
    by true e = let over : 2 ^ 31 ≤ c = grind (arith, nat_tests) in ap (λ v. cond (nat_le (2 ^ 31) c) v (Sym c))
        (get_or_append_left others more (Sym c) (c - 2 ^ 31) (omega (arith, over, is)))
    by false e = ap (λ b. cond b (slice_index_or (others ++ more) (c - 2 ^ 31) (Sym c)) (Sym c)) e ∙
        sym (ap (λ b. cond b (slice_index_or others (c - 2 ^ 31) (Sym c)) (Sym c)) e)

pub values-stay : (others more : List Value) (cs : List ℕ) → Each (IsCode others) cs → map (value_of (others ++ more)) cs ≡
    map (value_of others) cs
values-stay others more [] h = refl
values-stay others more (c ∷ cs) h = λ i. value-stays others more c h.0 i ∷ values-stay others more cs h.1 i

pub codes-stay : (others more : List Value) (cs : List ℕ) → Each (IsCode others) cs → Each (IsCode (others ++ more)) cs
codes-stay others more [] h = tt
codes-stay others more (c ∷ cs) h = (
  let is : IsCode others c = h.0 in omega (arith, is, length-append others more),
  codes-stay others more cs h.1,
)

-- ---- parts of lists

each-take : {A : Type 0} (P : A → Type 0) (n : ℕ) (xs : List A) → Each P xs → Each P (take n xs)
each-take P zero xs h = tt
each-take P (suc n) [] h = tt
each-take P (suc n) (x ∷ xs) h = (h.0, each-take P n xs h.1)

each-drop : {A : Type 0} (P : A → Type 0) (n : ℕ) (xs : List A) → Each P xs → Each P (drop n xs)
each-drop P zero xs h = h
each-drop P (suc n) [] h = tt
each-drop P (suc n) (x ∷ xs) h = each-drop P n xs h.1

part-stays : (from count : ℕ) (codes more : List ℕ) → from + count ≤ length codes → take count (drop from (codes ++ more)) ≡
    take count (drop from codes)
part-stays from count codes more in_it =
    ap (take count) (drop-append-le from codes more (omega (arith, in_it)))
    ∙ take-append-le count (drop from codes) more (omega (arith, in_it, length-drop from codes))

-- ---- heads

module _ (codes more : List ℕ) (others extra : List Value) (are : Each (IsCode others) codes) where
  action-stays : (h : Head) → IsHead codes h → action_of (codes ++ more) (others ++ extra) h ≡ action_of codes others h
  action-stays h is =
      let part = part-stays h.from h.count codes more is in
      let args = ap (map (value_of (others ++ extra))) part ∙ values-stay others extra (take h.count (drop h.from codes))
      (each-take (IsCode others) h.count (drop h.from codes) (each-drop (IsCode others) h.from codes are)) in
      λ i. record { op = h.op; args = args i }

  actions-stay : (hs : List Head) → Each (IsHead codes) hs → map (action_of (codes ++ more) (others ++ extra)) hs ≡
      map (action_of codes others) hs
  actions-stay [] h = refl
  actions-stay (x ∷ hs) h = λ i. action-stays x h.0 i ∷ actions-stay hs h.1 i

  heads-stay : (hs : List Head) → Each (IsHead codes) hs → Each (IsHead (codes ++ more)) hs
  heads-stay [] h = tt
  heads-stay (x ∷ hs) h = (let is : x.from + x.count ≤ length codes = h.0 in omega (arith, is, length-append codes more), heads-stay hs h.1)

-- the codes that came last are those of the head that begins there
last-part : (codes more : List ℕ) → take (length more) (drop (length codes) (codes ++ more)) ≡ more
last-part codes more = ap (take (length more)) (drop_at codes more (length codes) refl) ∙ take_all (length more) more (omega arith)

packs : (codes : List ℕ) (others extra : List Value) (more : List ℕ) (h : Head) (a : Action) → h.op ≡ a.op → h.from ≡ length codes →
    h.count ≡ length more → Each (IsCode (others ++ extra)) more → map (value_of (others ++ extra)) more ≡ a.args
    → PacksOneMore codes others h a (codes ++ more) (others ++ extra)
packs codes others extra more h a op from count are values heads p = (
  record {
    codes_are = (Each-append (IsCode (others ++ extra)) codes more).1 (codes-stay others extra codes p.codes_are, are);
    heads_are = (Each-append (IsHead (codes ++ more)) heads (h ∷ [])).1
        (heads-stay codes more others extra p.codes_are heads p.heads_are, (omega (arith, from, count, length-append codes more), tt));
  },
  map-append (action_of (codes ++ more) (others ++ extra)) heads (h ∷ [])
      ∙ λ i. actions-stay codes more others extra p.codes_are heads p.heads_are i ++ last i ∷ [],
)
  where
    args : map (value_of (others ++ extra)) (take h.count (drop h.from (codes ++ more))) ≡ a.args
    args = ap (λ n. map (value_of (others ++ extra)) (take n (drop h.from (codes ++ more)))) count
        ∙ (ap (λ n. map (value_of (others ++ extra)) (take (length more) (drop n (codes ++ more)))) from
        ∙ (ap (map (value_of (others ++ extra))) (last-part codes more) ∙ values))

    last : action_of (codes ++ more) (others ++ extra) h ≡ a
    last = λ i. record { op = op i; args = args i }

-- a head whose codes were added is packed
pub head-packs : (codes : List ℕ) (others : List Value) (h : Head) (a : Action) (new_codes : List ℕ) (new_others : List Value) → h.op ≡
    a.op → h.from ≡ length codes → h.count ≡ length a.args → AddsCodes codes others a.args new_codes new_others
    → PacksOneMore codes others h a new_codes new_others
head-packs codes others h a new_codes new_others op from count adds =
    subst (λ cs. PacksOneMore codes others h a cs new_others) (sym adds.same_codes)
    (subst (λ vs. PacksOneMore codes others h a (codes ++ adds.more) vs) (sym adds.same_others.1)
    (packs codes others adds.same_others.0 adds.more h a op from (count ∙ sym many)
    (subst (λ vs. Each (IsCode vs) adds.more) adds.same_others.1 adds.codes_are)
    (ap (λ vs. map (value_of vs) adds.more) (sym adds.same_others.1) ∙ adds.values_are)))
  where
    many : length adds.more ≡ length a.args
    many = sym (length-of adds.more) ∙ ap length adds.values_are
      where
        length-of : (cs : List ℕ) → length (map (value_of new_others) cs) ≡ length cs
        length-of [] = refl
        length-of (c ∷ cs) = ap suc (length-of cs)

-- ---- one code more

pub adds-none : (codes : List ℕ) (others : List Value) → AddsCodes codes others [] codes others
adds-none codes others = record {
  more = [];
  same_codes = sym (nil codes);
  same_others = ([], sym (nil others));
  codes_are =
      tt;
  values_are = refl;
}
  where
    nil : {A : Type 0} (xs : List A) → xs ++ [] ≡ xs
    nil [] = refl
    nil (x ∷ xs) = ap (λ ys. x ∷ ys) (nil xs)

pub adds-one : (codes : List ℕ) (others values : List Value) (mid : List ℕ) (some : List Value) (v : Value) (c : ℕ) (new_codes : List ℕ)
    (new_others : List Value)
    → AddsCodes codes others values mid some → Lengthens some new_others → IsCode new_others c → value_of new_others c ≡ v → new_codes ≡
    mid ++ c ∷ []
    → AddsCodes codes others (values ++ v ∷ []) new_codes new_others
adds-one codes others values mid some v c new_codes new_others before longer is value e = record {
  more = before.more ++ c ∷ [];
  same_codes = e ∙ (ap (λ cs. cs ++ c ∷ []) before.same_codes ∙ append_assoc codes before.more (c ∷ []));
  same_others = (
    before.same_others.0 ++ longer.0,
    longer.1 ∙ (ap (λ vs. vs ++ longer.0) before.same_others.1 ∙
        append_assoc others before.same_others.0 longer.0),
  );
  codes_are = (Each-append (IsCode new_others) before.more (c ∷ [])).1
      (subst (λ vs. Each (IsCode vs) before.more) (sym longer.1) (codes-stay some longer.0 before.more before.codes_are), (is, tt));
  values_are = map-append (value_of new_others) before.more (c ∷ [])
      ∙ λ i. (ap (λ vs. map (value_of vs) before.more) longer.1 ∙ (values-stay some longer.0 before.more before.codes_are ∙
      before.values_are)) i ++ value i ∷ [];
}
