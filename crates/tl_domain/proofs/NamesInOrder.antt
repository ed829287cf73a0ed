-- Names in the order of their bytes: lists of the same texts are the same list.
use Rattle.std.proofs.Common.{◌≡◌, ◌<◌, ◌+◌, ◌^◌, ◌⊎◌, inl, inr, ℕ, zero, suc, List, [], ◌∷◌, true, length, Ordering, Less, Equal, Greater}
use Rattle.std.proofs.Common.{Some, refl, sym, ap, ◌∙◌, subst, arith}
use Rattle.std.specs.Prelude.{◌↔◌, IsPermutation}
use Rattle.std.specs.List.{slice_get, list_any}
use Rattle.std.specs.Cmp.Lexicographic.{slice_cmp, nat_list_cmp_total}
use Rattle.std.specs.BTreeSet.{insert_key}
use Rattle.std.specs.FinMap as finite
use Rattle.std.specs.Ordering.{nat_cmp, ordering_reverse, match_ordering}
use Rattle.std.specs.Str.{bytes_eq}
use Rattle.std.proofs.lemmas.List.Sorted.{list_any-IsPermutation}
use Rattle.std.proofs.lemmas.Option.{same_Some, none-some}
use Rattle.tl_sexpr.specs.Spelling.{symbols_in_all}
use Rattle.tl_sexpr.specs.Tree.{FormTrees}
use Rattle.tl_syntax.specs.Lists.{Among}
use Rattle.tl_syntax.specs.Settled.{IsInOrder}
use Rattle.tl_rules.specs.Named.{HaveNames, HaveSymbol}
use Rattle.tl_rules.specs.Symbols.{names_with_all}
use Rattle.tl_rules.proofs.NamesHave.{Grow, forms-have, forms-grow, forms-keep}
use Rattle.tl_rules.proofs.NamesWith.{length-names_with_all}
use Rattle.tl_rules.proofs.SymbolsJoin.{among-any, any-among, symbols-join, symbols-named}
use Rattle.tl_domain.specs.Files.{in_order, names_of, AreNamesOf, HaveRoomTogether}
use Rattle.tl_domain.specs.LawsFiles.{NamesAreTexts}

-- the first text is below the second
abbrev Below : List ℕ → List ℕ → Type 0
Below x y = slice_cmp nat_cmp x y ≡ Less

less-greater : Less ≡ Greater → ⊥
less-greater e = cc

-- of two texts at most one is below the other
not-both : (x y : List ℕ) → Below x y → Below y x → ⊥
not-both x y less more = less-greater (sym less ∙ nat_list_cmp_total.antisymm x y ∙ ap ordering_reverse more)

-- the text stands somewhere in the list
abbrev Has : List (List ℕ) → List ℕ → Type 0
Has xs t = (k : ℕ) × (slice_get xs k ≡ Some t)

-- the list has each text of the other
abbrev HasAll : List (List ℕ) → List (List ℕ) → Type 0
HasAll xs ys = (t : List ℕ) → Has ys t → Has xs t

rest-in-order : (x : List ℕ) (xs : List (List ℕ)) → IsInOrder (x ∷ xs) → IsInOrder xs
rest-in-order x xs h = λ i j y z less at_i at_j. h (suc i) (suc j) y z (omega (arith, less)) at_i at_j

below-rest : (x : List ℕ) (xs : List (List ℕ)) (t : List ℕ) (k : ℕ) → IsInOrder (x ∷ xs) → slice_get xs k ≡ Some t → Below x t
below-rest x xs t k h at = h 0 (suc k) x t (omega arith) refl at

same-first : (x y : List ℕ) (xs ys : List (List ℕ)) → IsInOrder (x ∷ xs) → IsInOrder (y ∷ ys) → (j k : ℕ) → slice_get (y ∷ ys) j ≡ Some x →
    slice_get (x ∷ xs) k ≡ Some y → x ≡ y
same-first x y xs ys h g zero k at_j at_k = sym (same_Some y x at_j)
same-first x y xs ys h g (suc j) zero at_j at_k = same_Some x y at_k
same-first x y xs ys h g (suc j) (suc k) at_j at_k = absurd (not-both x y (below-rest x xs y k h at_k) (below-rest y ys x j g at_j))

rest-has : (x : List ℕ) (xs ys : List (List ℕ)) (t : List ℕ) (j k : ℕ) → IsInOrder (x ∷ xs) → slice_get xs j ≡ Some t →
    slice_get (x ∷ ys) k ≡ Some t → Has ys t
rest-has x xs ys t j zero h at_j at_k = absurd (not-both x t (below-rest x xs t j h at_j)
    (subst (λ (u : List ℕ). Below u x) (same_Some x t at_k) (subst (λ (u : List ℕ). Below x u) (sym (same_Some x t at_k))
    (below-rest x xs t j h at_j))))
rest-has x xs ys t j (suc k) h at_j at_k = (k, at_k)

rest-has-all : (x : List ℕ) (xs ys : List (List ℕ)) → IsInOrder (x ∷ xs) → HasAll (x ∷ ys) (x ∷ xs) → HasAll ys xs
rest-has-all x xs ys h all = λ t stands.
    let found = all t (suc stands.0, stands.1) in
    rest-has x xs ys t stands.0 found.0 h stands.1 found.1

-- lists in order that have the same texts are the same
one-order : (xs ys : List (List ℕ)) → IsInOrder xs → IsInOrder ys → HasAll ys xs → HasAll xs ys → xs ≡ ys
one-order [] [] h g f b = refl
one-order [] (y ∷ ys) h g f b = absurd (none-some y (b y (0, refl)).1)
one-order (x ∷ xs) [] h g f b = absurd (none-some x (f x (0, refl)).1)
one-order (x ∷ xs) (y ∷ ys) h g f b =
    let in_ys = f x (0, refl) in
    let in_xs = b y (0, refl) in
    let same : x ≡ y = same-first x y xs ys h g in_ys.0 in_xs.0 in_ys.1 in_xs.1 in
    let all : HasAll (x ∷ ys) (x ∷ xs) = subst (λ (u : List ℕ). HasAll (u ∷ ys) (x ∷ xs)) (sym same) f in
    let back : HasAll (y ∷ xs) (y ∷ ys) = subst (λ (u : List ℕ). HasAll (u ∷ xs) (y ∷ ys)) same b in
    let rest = one-order xs ys (rest-in-order x xs h) (rest-in-order y ys g) (rest-has-all x xs ys h all) (rest-has-all y ys xs g back) in
    λ i. same i ∷ rest i

place-among : (t : List ℕ) (xs : List (List ℕ)) (k : ℕ) → slice_get xs k ≡ Some t → Among t xs
place-among t [] k at = absurd (none-some t at)
place-among t (x ∷ xs) zero at = inl (same_Some x t at)
place-among t (x ∷ xs) (suc k) at = inr (place-among t xs k at)

among-place : (t : List ℕ) (xs : List (List ℕ)) → Among t xs → Has xs t
among-place t [] h = absurd h
among-place t (x ∷ xs) h = elim h [
  | inl here ↦ (0, ap Some here)
  | inr later ↦ let found = among-place t xs later in (suc found.0, found.1)
]

has-all : (first second : FormTrees) (m n : List (List ℕ)) → AreNamesOf first second m → AreNamesOf first second n → HasAll n m
has-all first second m n a b = λ t stands. among-place t n ((b.are_texts t).1 ((a.are_texts t).0 (place-among t m stands.0 stands.1)))

-- two files have one list of names
pub one-list : (first second : FormTrees) (m n : List (List ℕ)) → AreNamesOf first second m → AreNamesOf first second n → m ≡ n
one-list first second m n a b = one-order m n a.in_order b.in_order (has-all first second m n a b) (has-all first second n m b a)

-- ---- texts that are put in their order

-- the texts with one more, at its place
abbrev with_key : List (List ℕ) → List ℕ → List (List ℕ)
with_key ys x = insert_key (slice_cmp nat_cmp) ys x

same-text : (x y : List ℕ) → slice_cmp nat_cmp x y ≡ Equal → x ≡ y
same-text x y e = finite.slice_cmp-IsAntisymmetric finite.nat_cmp-IsAntisymmetric x y e

-- the text that is put in is there, and each other that was
key-among : (x : List ℕ) (ys : List (List ℕ)) (t : List ℕ) → (x ≡ t) ⊎ Among t ys → Among t (with_key ys x)
key-among x [] t h = h
key-among x (y ∷ ys) t h = by_answer (key-among x ys t) (slice_cmp nat_cmp x y) refl
  where
    after : (x ≡ t) ⊎ Among t (y ∷ ys) → (y ≡ t) ⊎ ((x ≡ t) ⊎ Among t ys)
    after g = elim g [ inl same ↦ inr (inl same) | inr there ↦ elim there [ inl here ↦ inl here | inr later ↦ inr (inr later) ] ]

    by_answer : ((x ≡ t) ⊎ Among t ys → Among t (with_key ys x)) → (o : Ordering) → slice_cmp nat_cmp x y ≡ o →
        Among t (match_ordering o (x ∷ y ∷ ys) (y ∷ ys) (y ∷ with_key ys x))
    by_answer deeper Less e = h
    by_answer deeper Equal e = elim h [ inl same ↦ inl (sym (same-text x y e) ∙ same) | inr there ↦ there ]
    by_answer deeper Greater e = elim (after h) [ inl here ↦ inl here | inr later ↦ inr (deeper later) ]

-- and no other is
among-key : (x : List ℕ) (ys : List (List ℕ)) (t : List ℕ) → Among t (with_key ys x) → (x ≡ t) ⊎ Among t ys
among-key x [] t h = h
among-key x (y ∷ ys) t h = by_answer (among-key x ys t) (slice_cmp nat_cmp x y) h
  where
    by_answer : (Among t (with_key ys x) → (x ≡ t) ⊎ Among t ys) → (o : Ordering) →
        Among t (match_ordering o (x ∷ y ∷ ys) (y ∷ ys) (y ∷ with_key ys x)) → (x ≡ t) ⊎ Among t (y ∷ ys)
    by_answer deeper Less g = g
    by_answer deeper Equal g = inr g
    by_answer deeper Greater g = elim g [
      | inl here ↦ inr (inl here)
      | inr later ↦ elim (deeper later) [ inl same ↦ inl same | inr there ↦ inr (inr there) ]
    ]

-- each of the texts is above this one
abbrev Above : List ℕ → List (List ℕ) → Type 0
Above x ys = (t : List ℕ) → Among t ys → Below x t

first-in-order : (x : List ℕ) (ys : List (List ℕ)) → IsInOrder ys → Above x ys → IsInOrder (x ∷ ys)
first-in-order x ys h above zero zero y z less at_i at_j = absurd (omega (arith, less))
first-in-order x ys h above zero (suc j) y z less at_i at_j = subst (λ (u : List ℕ). Below u z) (same_Some x y at_i)
    (above z (place-among z ys j at_j))
first-in-order x ys h above (suc i) zero y z less at_i at_j = absurd (omega (arith, less))
first-in-order x ys h above (suc i) (suc j) y z less at_i at_j = h i j y z (omega (arith, less)) at_i at_j

rest-above : (y : List ℕ) (ys : List (List ℕ)) → IsInOrder (y ∷ ys) → Above y ys
rest-above y ys h t is = let found = among-place t ys is in below-rest y ys t found.0 h found.1

key-in-order : (x : List ℕ) (ys : List (List ℕ)) → IsInOrder ys → IsInOrder (with_key ys x)
key-in-order x [] h = first-in-order x [] h (λ t is. absurd is)
key-in-order x (y ∷ ys) h = by_answer (key-in-order x ys (rest-in-order y ys h)) (slice_cmp nat_cmp x y) refl
  where
    lower : Below x y → Above x (y ∷ ys)
    lower below t is = elim is [
      | inl here ↦ subst (λ (u : List ℕ). Below x u) here below
      | inr later ↦ nat_list_cmp_total.trans x y t below (rest-above y ys h t later)
    ]

    higher : Below y x → Above y (with_key ys x)
    higher below t is = elim (among-key x ys t is) [
      | inl same ↦ subst (λ (u : List ℕ). Below y u) same below
      | inr later ↦ rest-above y ys h t later
    ]

    by_answer : IsInOrder (with_key ys x) → (o : Ordering) → slice_cmp nat_cmp x y ≡ o →
        IsInOrder (match_ordering o (x ∷ y ∷ ys) (y ∷ ys) (y ∷ with_key ys x))
    by_answer rest Less e = first-in-order x (y ∷ ys) h (lower e)
    by_answer rest Equal e = h
    by_answer rest Greater e = first-in-order y (with_key ys x) rest (higher (nat_list_cmp_total.antisymm y x ∙ ap ordering_reverse e))

are-in-order : (xs : List (List ℕ)) → IsInOrder (in_order xs)
are-in-order [] = λ i j y z less at_i at_j. absurd (none-some y at_i)
are-in-order (x ∷ xs) = key-in-order x (in_order xs) (are-in-order xs)

among-order : (xs : List (List ℕ)) (t : List ℕ) → Among t xs ↔ Among t (in_order xs)
among-order [] t = ((λ h. h), (λ h. h))
among-order (x ∷ xs) t = (
  (λ h. elim h [
    | inl here ↦ key-among x (in_order xs) t (inl here)
    | inr later ↦ key-among x (in_order xs) t
        (inr ((among-order xs t).0 later))
  ]),
  (λ h. elim (among-key x (in_order xs) t h) [ inl here ↦ inl here | inr later ↦ inr ((among-order xs t).1 later) ]),
)

-- ---- the names of two files

-- the names of both in reading order
abbrev read_names : FormTrees → FormTrees → List (List ℕ)
read_names first second = names_with_all (names_with_all [] first) second

texts-read : (first second : FormTrees) (text : List ℕ) → (list_any (bytes_eq text) (read_names first second) ≡ true) ↔
    (HaveSymbol first text ⊎ HaveSymbol second text)
texts-read first second text = (there, back)
  where
    there : list_any (bytes_eq text) (read_names first second) ≡ true → HaveSymbol first text ⊎ HaveSymbol second text
    there h = elim (symbols-join (names_with_all [] first) second text h) [
      | inr later ↦ inr later
      | inl before ↦ elim (symbols-join [] first text before) [ inr here ↦ inl here | inl none ↦ cc ]
    ]

    back : HaveSymbol first text ⊎ HaveSymbol second text → list_any (bytes_eq text) (read_names first second) ≡ true
    back h = elim h [
      | inl here ↦ (forms-grow (names_with_all [] first) second).has text
          (symbols-named (names_with_all [] first) first text (forms-have [] first) here)
      | inr later ↦ symbols-named (read_names first second) second text (forms-have (names_with_all [] first) second) later
    ]

-- they are the texts of the symbols of both
pub names-are-texts : NamesAreTexts
names-are-texts first second = record {
  in_order = are-in-order (read_names first second);
  are_texts = λ text. (
    (λ h. (texts-read first second text).0 (among-any text (read_names first second) ((among-order (read_names first second) text).1 h))),
    (λ h. (among-order (read_names first second) text).0 (any-among text (read_names first second) ((texts-read first second text).1 h))),
  );
}

-- and so are the same names in another list, where this one is in order
names-stand : (first second : FormTrees) (new : List (List ℕ)) → IsPermutation (read_names first second) new → IsInOrder new →
    AreNamesOf first second new
names-stand first second new moved order = record {
  in_order = order;
  are_texts = λ text.
      let same = list_any-IsPermutation (bytes_eq text) (read_names first second) new moved in
      let read = texts-read first second text in
      ((λ h. read.0 (same ∙ among-any text new h)), (λ h. any-among text new (sym same ∙ read.1 h)));
}

pub settled-names : (first second fs gs : FormTrees) (none one two new : List (List ℕ)) → fs ≡ first → gs ≡ second → none ≡ [] → one ≡
    names_with_all none fs → two ≡ names_with_all one gs → IsPermutation two new → IsInOrder new → new ≡ names_of first second
settled-names first second fs gs none one two new is_first is_second is_none is_one is_two moved order =
    let here : one ≡ names_with_all [] first = is_one ∙ ap (λ (ns : List (List ℕ)). names_with_all ns fs) is_none ∙
    ap (names_with_all []) is_first in
    let is : two ≡ read_names first second = is_two ∙ ap (names_with_all one) is_second ∙
    ap (λ (ns : List (List ℕ)). names_with_all ns second) here in
    one-list first second new (names_of first second) (names-stand first second new
    (subst (λ (ns : List (List ℕ)). IsPermutation ns new) is moved) order) (names-are-texts first second)

-- both files have names for all their symbols
grows : (first second : FormTrees) → Grow (read_names first second) (names_of first second)
grows first second = record {
  has = λ text h. among-any text (names_of first second) ((among-order (read_names first second) text).0
      (any-among text (read_names first second) h));
}

pub names-have : (first second : FormTrees) → HaveNames (names_of first second) first × HaveNames (names_of first second) second
names-have first second = (
  forms-keep _ _ first (grows first second) (forms-keep _ _ first (forms-grow (names_with_all [] first) second) (forms-have [] first)),
  forms-keep _ _ second (grows first second) (forms-have (names_with_all [] first) second),
)

-- there is room for the symbols of the first file, and then for those of the second
pub room-first : (first second fs : FormTrees) (none : List (List ℕ)) → HaveRoomTogether first second → fs ≡ first → none ≡ [] →
    length none + symbols_in_all fs < 2 ^ 32
room-first first second fs none room is_first is_none = rw (is_first, is_none) (omega (arith, room))

pub room-after : (first second fs gs : FormTrees) (none one : List (List ℕ)) → HaveRoomTogether first second → fs ≡ first → gs ≡ second →
    none ≡ [] → one ≡ names_with_all none fs → length one + symbols_in_all gs < 2 ^ 32
room-after first second fs gs none one room is_first is_second is_none is_one =
    rw (is_one, is_none, is_first, is_second) (omega (arith, room, length-names_with_all [] first))
