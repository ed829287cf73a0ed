-- What a term evaluates to, by what its parts evaluate to.
use Rattle.std.proofs.Common.{◌≡◌, ◌≤◌, ◌<◌, ◌+◌, ℕ, ℤ, zero, suc, List, [], ◌∷◌, ◌++◌, map, drop, length, get_or, Bool, Option, Some, None}
use Rattle.std.proofs.Common.{Result, Ok, Err, Box, Global, refl, sym, ap, ◌∙◌, subst, inl, inr, append_assoc, append-nil, drop-cons}
use Rattle.std.proofs.Common.{add-one}
use Rattle.std.proofs.Common.{arith as numbers}
use Rattle.std.specs.Prelude.{is_some}
use Rattle.tl_eval.specs.Notes.{AreInRange, Tells, Evaluates, operation_of, prefixed, row_found, integer_found, Carries}
use Rattle.tl_eval.specs.Operates.{done, Operates}
use Rattle.tl_eval.specs.Small.{HasFewArguments, HaveFewArguments}
use Rattle.tl_eval.proofs.Sizes.{term_nodes, terms_nodes}
use Rattle.tl_eval.specs.declared.range.RangeNote.{RangeNote}
use Rattle.tl_syntax.specs.declared.term.Term.{Term}
use Rattle.tl_syntax.specs.declared.term.Term.TheVariants as term
use Rattle.tl_syntax.specs.declared.term.Terms.{Terms}
use Rattle.tl_syntax.specs.declared.value.Op.{Op}
use Rattle.tl_syntax.specs.declared.value.Value.{Value}
use Rattle.tl_syntax.specs.declared.value.Value.TheVariants.{Int, Sym}
use Rattle.tl_syntax.specs.declared.variable.Var.{Var}
use Rattle.tl_syntax.specs.Assignment.{Assignment}
use Rattle.tl_syntax.specs.Fits.{term_count}
use Rattle.tl_syntax.specs.Lists.{Among}
use Rattle.tl_syntax.specs.Trees.{TermTree, TermTrees, variable, value, place, arith}
use Rattle.tl_syntax.specs.TreeOfTerm.{tree_of_term, tree_of_terms, terms_of_list}
use Rattle.tl_syntax.proofs.TermTrees.{tree-Var, tree-Val, tree-Place, tree-Arith, trees-Terms}
use Rattle.tl_terms.specs.Looked.{is_defined_integer, operation_on, followed_if, looked_in_term, looked_in_terms}
use Rattle.tl_terms.specs.Operations.{Operation, IsPastRange}
use Rattle.tl_terms.specs.Terms.{apply_op, prepend, place_value, term_value, term_values}
use Rattle.tl_terms.specs.World.{World}

-- ---- operations in two lists

pub in_range-append : (xs ys : List Operation) → AreInRange xs → AreInRange ys → AreInRange (xs ++ ys)
in_range-append [] ys h k = k
in_range-append (x ∷ xs) ys h k = (h.0, in_range-append xs ys h.1 k)

pub among-left : (o : Operation) (xs ys : List Operation) → Among o xs → Among o (xs ++ ys)
among-left o [] ys h = absurd h
among-left o (x ∷ xs) ys h = elim h [ inl e ↦ inl e | inr k ↦ inr (among-left o xs ys k) ]

pub among-right : (o : Operation) (xs ys : List Operation) → Among o ys → Among o (xs ++ ys)
among-right o [] ys h = h
among-right o (x ∷ xs) ys h = inr (among-right o xs ys h)

-- an answer for a term is one for a term of the same tree
by_tree : (w : World) (e : Assignment) (t : Term) (u : TermTree) (r : Result (Option Value) RangeNote) → tree_of_term t ≡ u
    → Evaluates (term_value w e u) (looked_in_term w e u) r → Evaluates (term_value w e (tree_of_term t))
    (looked_in_term w e (tree_of_term t)) r
by_tree w e t u r q h = subst (λ (x : TermTree). Evaluates (term_value w e x) (looked_in_term w e x) r) (sym q) h

-- the arguments of a place are few, have few arguments themselves, and are smaller
pub record Parts (t : TermTree) (ts : TermTrees) : Type 0 where
  pub few : term_count ts ≤ 8
  pub small : HaveFewArguments ts
  pub smaller : 1 + terms_nodes ts < term_nodes t

pub few-Place : (t : Term) (f : ℕ) (ts : Terms) → t ≡ term.Place f ts → HasFewArguments (tree_of_term t) →
    Parts (tree_of_term t) (tree_of_terms ts)
unfolding HasFewArguments term_nodes
few-Place t f ts q h =
    let same : tree_of_term t ≡ place f (tree_of_terms ts) = ap tree_of_term q ∙ tree-Place f ts in
    let small : HasFewArguments (place f (tree_of_terms ts)) = subst HasFewArguments same h in
    let nodes : term_nodes (tree_of_term t) ≡ 2 + terms_nodes (tree_of_terms ts) = ap term_nodes same in
    record { few = small.0; small = small.1; smaller = omega numbers }

-- the operands of an operation have few arguments, and are smaller together
pub record Operands (t a b : TermTree) : Type 0 where
  pub first : HasFewArguments a
  pub second : HasFewArguments b
  pub smaller : term_nodes a + term_nodes b < term_nodes t

few-boxed : (t : Term) (op : Op) (a b : Box Term Global) (at : ℕ) → t ≡ term.Arith op a b at → HasFewArguments (tree_of_term t) →
    Operands (tree_of_term t) (tree_of_term a.value) (tree_of_term b.value)
unfolding HasFewArguments term_nodes
few-boxed t op a b at q h =
    let same : tree_of_term t ≡ arith op (tree_of_term a.value) (tree_of_term b.value) at = ap tree_of_term q ∙ tree-Arith op a b at in
    let small : HasFewArguments (arith op (tree_of_term a.value) (tree_of_term b.value) at) = subst HasFewArguments same h in
    let nodes : term_nodes (tree_of_term t) ≡ 1 + (term_nodes (tree_of_term a.value) + term_nodes (tree_of_term b.value)) =
    ap term_nodes same in
    record { first = small.0; second = small.1; smaller = omega numbers }

pub few-Arith : (t : Term) (op : Op) (a b : Box Term Global) (at : ℕ) (x y : Term) → t ≡ term.Arith op a b at → x ≡ a.value → y ≡ b.value →
    HasFewArguments (tree_of_term t) → Operands (tree_of_term t) (tree_of_term x) (tree_of_term y)
few-Arith t op a b at x y q m n h = subst (λ u. Operands (tree_of_term t) (tree_of_term u) (tree_of_term y)) (sym m)
    (subst (λ u. Operands (tree_of_term t) (tree_of_term a.value) (tree_of_term u)) (sym n) (few-boxed t op a b at q h))

-- each term has a node
pub some-nodes : (t : TermTree) → 1 ≤ term_nodes t
unfolding term_nodes
some-nodes (variable s) = omega numbers
some-nodes (value v) = omega numbers
some-nodes (place f ts) = omega numbers
some-nodes (arith op s t at) = omega numbers

-- the terms so far have these values, and the rest is left
pub record Passed (w : World) (e : Assignment) (all : TermTrees) (rest : List TermTree) (count : ℕ) (row : List Value) : Type 0 where
  pub values : term_values w e all ≡ prefixed row (term_values w e (terms_of_list rest))
  pub looked : Carries (looked_in_terms w e all) (looked_in_terms w e (terms_of_list rest))
  pub counted : length row ≡ count
  pub small : HaveFewArguments (terms_of_list rest)
  pub few : count + length rest ≤ 8
  pub smaller : terms_nodes (terms_of_list rest) ≤ terms_nodes all

-- ---- a variable, a value and a place

pub at-Var : (w : World) (e : Assignment) (t : Term) (v : Var) (r : Option Value) → t ≡ term.Var v → r ≡ e v.slot →
    Evaluates (term_value w e (tree_of_term t)) (looked_in_term w e (tree_of_term t)) (Ok r)
unfolding term_value looked_in_term
at-Var w e t v r q h = by_tree w e t (variable v) (Ok r) (ap tree_of_term q ∙ tree-Var v) (h, tt)

pub at-Val : (w : World) (e : Assignment) (t : Term) (v : Value) → t ≡ term.Val v →
    Evaluates (term_value w e (tree_of_term t)) (looked_in_term w e (tree_of_term t)) (Ok (Some v))
unfolding term_value looked_in_term
at-Val w e t v q = by_tree w e t (value v) (Ok (Some v)) (ap tree_of_term q ∙ tree-Val v) (refl, tt)

pub at-Place : (w : World) (e : Assignment) (t : Term) (f : ℕ) (ts : Terms) (r : Result (Option Value) RangeNote) → t ≡ term.Place f ts
    → Evaluates (place_value w f (term_values w e (tree_of_terms ts))) (looked_in_terms w e (tree_of_terms ts)) r →
    Evaluates (term_value w e (tree_of_term t)) (looked_in_term w e (tree_of_term t)) r
unfolding term_value looked_in_term
at-Place w e t f ts r q h = by_tree w e t (place f (tree_of_terms ts)) r (ap tree_of_term q ∙ tree-Place f ts) h

-- the values that were found, all or not
pub all-found : (meant : Option (List Value)) (looked : List Operation) (row : List Value) (all b : Bool) → all ≡ b →
    Evaluates meant looked (row_found row (Ok all)) → Evaluates meant looked (row_found row (Ok b))
all-found meant looked row all b q h = subst (λ (x : Bool). Evaluates meant looked (row_found row (Ok x))) q h

-- ---- an operation, by the values m and n of its operands and what they look at

-- what the operation looks at
abbrev looked_on : ℕ → Op → Option Value → Option Value → List Operation → List Operation → List Operation
looked_on at op m n left right = followed_if (is_defined_integer m) left (right ++ operation_on at op m n)

-- a first operand that is no integer decides
first-None : (at : ℕ) (op : Op) (m n : Option Value) (left right : List Operation) (r : Result (Option Value) RangeNote) →
    Evaluates m left r → integer_found r ≡ Ok None → Evaluates {A = Option Value} (apply_op op m n) (looked_on at op m n left right)
    (Ok None)
first-None at op m n left right (Ok (Some (Int z))) h k = absurd (let q : ⊥ = cc in q)
first-None at op m n left right (Ok (Some (Sym z))) h k = subst (λ (x : Option Value).
    Evaluates {A = Option Value} (apply_op op x n) (looked_on at op x n left right) (Ok None)) h.0 (refl, in_range-append left [] h.1 tt)
first-None at op m n left right (Ok None) h k = subst (λ (x : Option Value).
    Evaluates {A = Option Value} (apply_op op x n) (looked_on at op x n left right) (Ok None)) h.0 (refl, in_range-append left [] h.1 tt)
first-None at op m n left right (Err e) h k = absurd (let q : ⊥ = cc in q)

-- and so does a note of the first operand
note-of : (m : Option Value) (left : List Operation) (r : Result (Option Value) RangeNote) (e : RangeNote) → Evaluates m left r →
    integer_found r ≡ Err e → Tells left e
note-of m left (Ok (Some (Int z))) e h k = absurd (let q : ⊥ = cc in q)
note-of m left (Ok (Some (Sym z))) e h k = absurd (let q : ⊥ = cc in q)
note-of m left (Ok None) e h k = absurd (let q : ⊥ = cc in q)
note-of m left (Err d) e h k = let q : d ≡ e = cc in subst (Tells left) q h

integer-is : (m : Option Value) (left : List Operation) (r : Result (Option Value) RangeNote) (z : ℤ) → Evaluates m left r →
    integer_found r ≡ Ok (Some z) → (Some (Int z) ≡ m) × AreInRange left
integer-is m left (Ok (Some (Int y))) z h k = let q : y ≡ z = cc in (ap (λ (x : ℤ). Some (Int x)) (sym q) ∙ h.0, h.1)
integer-is m left (Ok (Some (Sym y))) z h k = absurd (let q : ⊥ = cc in q)
integer-is m left (Ok None) z h k = absurd (let q : ⊥ = cc in q)
integer-is m left (Err e) z h k = absurd (let q : ⊥ = cc in q)

second-None : (at : ℕ) (op : Op) (m n : Option Value) (left right : List Operation) (z : ℤ) (r : Result (Option Value) RangeNote) →
    Some (Int z) ≡ m → AreInRange left → Evaluates n right r → integer_found r ≡ Ok None →
    Evaluates {A = Option Value} (apply_op op m n) (looked_on at op m n left right) (Ok None)
second-None at op m n left right z r p a h k = subst (λ (x : Option Value).
    Evaluates {A = Option Value} (apply_op op x n) (looked_on at op x n left right) (Ok None)) p (by r h k)
  where
    by : (s : Result (Option Value) RangeNote) → Evaluates n right s → integer_found s ≡ Ok None →
        Evaluates {A = Option Value} (apply_op op (Some (Int z)) n) (looked_on at op (Some (Int z)) n left right) (Ok None)
    by (Ok (Some (Int y))) u v = absurd (let q : ⊥ = cc in q)
    by (Ok (Some (Sym y))) u v = subst (λ (x : Option Value). Evaluates {A = Option Value} (apply_op op (Some (Int z)) x)
        (looked_on at op (Some (Int z)) x left right) (Ok None)) u.0 (
          refl,
          in_range-append left (right ++ []) a (in_range-append right [] u.1 tt),
        )
    by (Ok None) u v = subst (λ (x : Option Value). Evaluates {A = Option Value} (apply_op op (Some (Int z)) x)
        (looked_on at op (Some (Int z)) x left right) (Ok None)) u.0 (
          refl,
          in_range-append left (right ++ []) a (in_range-append right [] u.1 tt),
        )
    by (Err e) u v = absurd (let q : ⊥ = cc in q)

second-Err : (at : ℕ) (op : Op) (m n : Option Value) (left right : List Operation) (z : ℤ) (e : RangeNote) → Some (Int z) ≡ m →
    Tells right e → Tells (looked_on at op m n left right) e
second-Err at op m n left right z e p h =
    subst (λ (x : Option Value). Tells (looked_on at op x n left right) e) p (
      among-right (operation_of e) left (right ++ operation_on at op (Some (Int z)) n)
          (among-left (operation_of e) right (operation_on at op (Some (Int z)) n) h.0),
      h.1,
    )

operated : (at : ℕ) (op : Op) (m n : Option Value) (left right : List Operation) (a b : ℤ) (r : Result (Option Value) RangeNote) →
    Some (Int a) ≡ m → AreInRange left → Some (Int b) ≡ n → AreInRange right
    → Operates at op a b r → Evaluates (apply_op op m n) (looked_on at op m n left right) r
operated at op m n left right a b r p u q v h =
    subst (λ (x : Option Value). Evaluates (apply_op op x n) (looked_on at op x n left right) r) p
    (subst (λ (y : Option Value). Evaluates (apply_op op (Some (Int a)) y) (looked_on at op (Some (Int a)) y left right) r) q (by r h))
  where
    one : List Operation
    one = done at op a b ∷ []

    by : (s : Result (Option Value) RangeNote) → Operates at op a b s →
        Evaluates (apply_op op (Some (Int a)) (Some (Int b))) (looked_on at op (Some (Int a)) (Some (Int b)) left right) s
    by (Ok x) f = (f.0, in_range-append left (right ++ one) u (in_range-append right one v (f.1, tt)))
    by (Err e) f = (
      among-right (operation_of e) left (right ++ one) (among-right (operation_of e) right one (inl (sym f.0))),
      subst IsPastRange (sym f.0) f.1,
    )

-- ---- the same of an operation on two terms

-- what an operand evaluates to
abbrev pub Operand : World → Assignment → Term → Result (Option Value) RangeNote → Type 0
Operand w e u r = Evaluates (term_value w e (tree_of_term u)) (looked_in_term w e (tree_of_term u)) r

-- what the operation on two terms evaluates to
abbrev pub Operation-on : World → Assignment → Op → Term → Term → ℕ → Result (Option Value) RangeNote → Type 0
Operation-on w e op a b at r = Evaluates (term_value w e (arith op (tree_of_term a) (tree_of_term b) at))
    (looked_in_term w e (arith op (tree_of_term a) (tree_of_term b) at)) r

-- a term that is an operation
pub at-Arith : (w : World) (e : Assignment) (t : Term) (op : Op) (a b : Box Term Global) (at : ℕ) (x y : Term)
    (r : Result (Option Value) RangeNote) → t ≡ term.Arith op a b at → x ≡ a.value → y ≡ b.value → Operation-on w e op x y at r →
    Operand w e t r
at-Arith w e t op a b at x y r q m n h =
    by_tree w e t (arith op (tree_of_term a.value) (tree_of_term b.value) at) r (ap tree_of_term q ∙ tree-Arith op a b at)
    (subst (λ (u : Term). Operation-on w e op u b.value at r) m (subst (λ (u : Term). Operation-on w e op x u at r) n h))

pub on-None : (w : World) (e : Assignment) (op : Op) (a b : Term) (at : ℕ) (r : Result (Option Value) RangeNote)
    (i : Result (Option ℤ) RangeNote) (o : Option ℤ) → Operand w e a r → i ≡ integer_found r → i ≡ Ok o → o ≡ None →
    Operation-on w e op a b at (Ok None)
unfolding term_value looked_in_term
on-None w e op a b at r i o h k l m =
    first-None at op (term_value w e (tree_of_term a)) (term_value w e (tree_of_term b)) (looked_in_term w e (tree_of_term a))
    (looked_in_term w e (tree_of_term b)) r h (sym k ∙ (l ∙ ap (λ (x : Option ℤ). Ok x) m))

pub on-Err : (w : World) (e : Assignment) (op : Op) (a b : Term) (at : ℕ) (r : Result (Option Value) RangeNote)
    (i : Result (Option ℤ) RangeNote) (n : RangeNote) → Operand w e a r → i ≡ integer_found r → i ≡ Err n →
    Operation-on w e op a b at (Err n)
unfolding term_value looked_in_term
on-Err w e op a b at r i n h k l =
    let told = note-of (term_value w e (tree_of_term a)) (looked_in_term w e (tree_of_term a)) r n h (sym k ∙ l) in
    (among-left (operation_of n) (looked_in_term w e (tree_of_term a)) _ told.0, told.1)

-- the operand is an integer z
pub record IsInteger (w : World) (e : Assignment) (a : Term) (z : ℤ) : Type 0 where
  pub meant : Some (Int z) ≡ term_value w e (tree_of_term a)
  pub in_range : AreInRange (looked_in_term w e (tree_of_term a))

pub operand-is : (w : World) (e : Assignment) (a : Term) (r : Result (Option Value) RangeNote) (i : Result (Option ℤ) RangeNote)
    (o : Option ℤ) (z : ℤ) → Operand w e a r → i ≡ integer_found r → i ≡ Ok o → o ≡ Some z → IsInteger w e a z
operand-is w e a r i o z h k l m =
    let is = integer-is (term_value w e (tree_of_term a)) (looked_in_term w e (tree_of_term a)) r z h
    (sym k ∙ (l ∙ ap (λ (x : Option ℤ). Ok x) m)) in
    record { meant = is.0; in_range = is.1 }

pub on-second-None : (w : World) (e : Assignment) (op : Op) (a b : Term) (at : ℕ) (z : ℤ) (r : Result (Option Value) RangeNote)
    (i : Result (Option ℤ) RangeNote) (o : Option ℤ)
    → IsInteger w e a z → Operand w e b r → i ≡ integer_found r → i ≡ Ok o → o ≡ None → Operation-on w e op a b at (Ok None)
unfolding term_value looked_in_term
on-second-None w e op a b at z r i o f h k l m =
    second-None at op (term_value w e (tree_of_term a)) (term_value w e (tree_of_term b)) (looked_in_term w e (tree_of_term a))
    (looked_in_term w e (tree_of_term b)) z r f.meant f.in_range h (sym k ∙ (l ∙ ap (λ (x : Option ℤ). Ok x) m))

pub on-second-Err : (w : World) (e : Assignment) (op : Op) (a b : Term) (at : ℕ) (z : ℤ) (r : Result (Option Value) RangeNote)
    (i : Result (Option ℤ) RangeNote) (n : RangeNote)
    → IsInteger w e a z → Operand w e b r → i ≡ integer_found r → i ≡ Err n → Operation-on w e op a b at (Err n)
unfolding term_value looked_in_term
on-second-Err w e op a b at z r i n f h k l =
    second-Err at op (term_value w e (tree_of_term a)) (term_value w e (tree_of_term b)) (looked_in_term w e (tree_of_term a))
    (looked_in_term w e (tree_of_term b)) z n f.meant
    (note-of (term_value w e (tree_of_term b)) (looked_in_term w e (tree_of_term b)) r n h (sym k ∙ l))

pub on-both : (w : World) (e : Assignment) (op : Op) (a b : Term) (at : ℕ) (y z : ℤ) (r : Result (Option Value) RangeNote) →
    IsInteger w e a y → IsInteger w e b z → Operates at op y z r → Operation-on w e op a b at r
unfolding term_value looked_in_term
on-both w e op a b at y z r f g h =
    operated at op (term_value w e (tree_of_term a)) (term_value w e (tree_of_term b)) (looked_in_term w e (tree_of_term a))
    (looked_in_term w e (tree_of_term b)) y z r f.meant f.in_range g.meant g.in_range h

-- ---- a list of terms

drop-past : {A : Type 0} (xs : List A) (n : ℕ) → length xs ≤ n → drop n xs ≡ []
drop-past [] zero h = refl
drop-past [] (suc n) h = refl
drop-past (x ∷ xs) zero h = absurd (omega numbers)
drop-past (x ∷ xs) (suc n) h = drop-past xs n (omega numbers)

count-list : (ts : List TermTree) → term_count (terms_of_list ts) ≡ length ts
unfolding term_count
count-list [] = refl
count-list (t ∷ ts) = ap (λ (n : ℕ). suc n) (count-list ts)

prefixed-none : (o : Option (List Value)) → o ≡ prefixed [] o
prefixed-none None = refl
prefixed-none (Some vs) = refl

prefixed-one : (row : List Value) (v : Value) (o : Option (List Value)) → prefixed row (prepend (Some v) o) ≡ prefixed (row ++ v ∷ []) o
prefixed-one row v None = refl
prefixed-one row v (Some vs) = ap (λ (x : List Value). Some x) (sym (append_assoc row (v ∷ []) vs))

length-more : (row : List Value) (v : Value) → length (row ++ v ∷ []) ≡ length row + 1
length-more [] v = refl
length-more (x ∷ row) v = let h : length (row ++ v ∷ []) ≡ length row + 1 = length-more row v in omega numbers

pub begun : (w : World) (e : Assignment) (ts : Terms) (items : List Term) (row : List Value) → items ≡ ts.items.items → row ≡ [] →
    HaveFewArguments (tree_of_terms ts) → term_count (tree_of_terms ts) ≤ 8 → Passed w e (tree_of_terms ts) (map tree_of_term items) 0 row
begun w e ts items row q p h k =
    let same : tree_of_terms ts ≡ terms_of_list (map tree_of_term items) = trees-Terms ts ∙
    ap (λ (x : List Term). terms_of_list (map tree_of_term x)) (sym q) in
    let known : length (map tree_of_term items) ≤ 8 = subst (λ (n : ℕ). n ≤ 8)
    (ap term_count same ∙ count-list (map tree_of_term items)) k in
    let nodes : terms_nodes (tree_of_terms ts) ≡ terms_nodes (terms_of_list (map tree_of_term items)) = ap terms_nodes same in
    record {
      values = ap (term_values w e) same ∙ (prefixed-none (term_values w e (terms_of_list (map tree_of_term items))) ∙
          ap (λ (x : List Value). prefixed x (term_values w e (terms_of_list (map tree_of_term items)))) (sym p));
      looked = subst (λ (x : TermTrees). Carries (looked_in_terms w e (tree_of_terms ts)) (looked_in_terms w e x)) same
          (record { in_range = λ a. a; among = λ o a. a });
      counted = ap length p;
      small = subst HaveFewArguments same h;
      few = omega numbers;
      smaller = omega numbers;
    }

-- at an item, the rest is its tree and what follows
pub rest-is : (items : List Term) (i : ℕ) (x : Term) → i < length items → x ≡ get_or items i x → map tree_of_term (drop i items) ≡
    tree_of_term x ∷ map tree_of_term (drop (i + 1) items)
rest-is items i x h q =
    ap (map tree_of_term) (drop-cons items i x h) ∙ (ap (λ (y : Term). tree_of_term y ∷ map tree_of_term (drop (suc i) items)) (sym q)
    ∙ ap (λ (k : ℕ). tree_of_term x ∷ map tree_of_term (drop k items)) (sym (add-one i)))

pub record Item (all : TermTrees) (x : TermTree) : Type 0 where
  pub small : HasFewArguments x
  pub smaller : term_nodes x < terms_nodes all

pub item-few : (w : World) (e : Assignment) (all : TermTrees) (items : List Term) (i : ℕ) (x : Term) (row : List Value) → i < length items →
    x ≡ get_or items i x → Passed w e all (map tree_of_term (drop i items)) i row → Item all (tree_of_term x)
unfolding HasFewArguments term_nodes
item-few w e all items i x row h q p =
    let at : Passed w e all (tree_of_term x ∷ map tree_of_term (drop (i + 1) items)) i row =
    subst (λ (r : List TermTree). Passed w e all r i row) (rest-is items i x h q) p in
    let nodes = at.smaller in
    record { small = at.small.0; smaller = omega numbers }

pub row-room : (w : World) (e : Assignment) (all : TermTrees) (items : List Term) (i : ℕ) (x : Term) (row : List Value) → i < length items →
    x ≡ get_or items i x → Passed w e all (map tree_of_term (drop i items)) i row → length row < 8
row-room w e all items i x row h q p =
    let few : i + length (tree_of_term x ∷ map tree_of_term (drop (i + 1) items)) ≤ 8 =
    subst (λ (r : List TermTree). i + length r ≤ 8) (rest-is items i x h q) p.few in
    let counted = p.counted in omega numbers

pub pushed : (w : World) (e : Assignment) (all : TermTrees) (items : List Term) (i : ℕ) (x : Term) (row next : List Value)
    (o : Option Value) (v : Value) → i < length items → x ≡ get_or items i x → Passed w e all (map tree_of_term (drop i items)) i row
    → Operand w e x (Ok o) → o ≡ Some v → next ≡ row ++ v ∷ [] → Passed w e all (map tree_of_term (drop (i + 1) items)) (i + 1) next
unfolding HasFewArguments term_values looked_in_terms term_nodes
pushed w e all items i x row next o v h q p found k n =
    let rest : List TermTree = map tree_of_term (drop (i + 1) items) in
    let at : Passed w e all (tree_of_term x ∷ rest) i row = subst (λ (r : List TermTree). Passed w e all r i row)
    (rest-is items i x h q) p in
    let is : term_value w e (tree_of_term x) ≡ Some v = sym found.0 ∙ k in
    let looks : looked_in_terms w e (terms_of_list (tree_of_term x ∷ rest)) ≡ looked_in_term w e (tree_of_term x) ++
    looked_in_terms w e (terms_of_list rest) =
    ap (λ (b : Option Value). followed_if (is_some b) (looked_in_term w e (tree_of_term x)) (looked_in_terms w e (terms_of_list rest))) is
    in
    let carries : Carries (looked_in_terms w e all) (looked_in_term w e (tree_of_term x) ++ looked_in_terms w e (terms_of_list rest)) =
    subst (λ (l : List Operation). Carries (looked_in_terms w e all) l) looks at.looked in
    let counted = at.counted in
    let few = at.few in
    let more : length next ≡ length row + 1 = ap length n ∙ length-more row v in
    record {
      values = at.values ∙ (ap (λ (b : Option Value). prefixed row (prepend b (term_values w e (terms_of_list rest)))) is ∙
          (prefixed-one row v (term_values w e (terms_of_list rest)) ∙
          ap (λ (r : List Value). prefixed r (term_values w e (terms_of_list rest))) (sym n)));
      looked = record {
        in_range = λ a. carries.in_range (in_range-append (looked_in_term w e (tree_of_term x))
            (looked_in_terms w e (terms_of_list rest)) found.1 a);
        among = λ y a. carries.among y (among-right y (looked_in_term w e (tree_of_term x)) (looked_in_terms w e (terms_of_list rest)) a);
      };
      counted = omega numbers;
      small = at.small.1;
      few = omega numbers;
      smaller = let nodes = at.smaller in omega numbers;
    }

pub undefined : (w : World) (e : Assignment) (all : TermTrees) (items : List Term) (i : ℕ) (x : Term) (row : List Value)
    (o : Option Value) → i < length items → x ≡ get_or items i x → Passed w e all (map tree_of_term (drop i items)) i row
    → Operand w e x (Ok o) → o ≡ None → Evaluates {A = Option (List Value)} (term_values w e all) (looked_in_terms w e all) (Ok None)
unfolding term_values looked_in_terms
undefined w e all items i x row o h q p found k =
    let rest : List TermTree = map tree_of_term (drop (i + 1) items) in
    let at : Passed w e all (tree_of_term x ∷ rest) i row = subst (λ (r : List TermTree). Passed w e all r i row)
    (rest-is items i x h q) p in
    let is : term_value w e (tree_of_term x) ≡ None = sym found.0 ∙ k in
    let looks : looked_in_terms w e (terms_of_list (tree_of_term x ∷ rest)) ≡ looked_in_term w e (tree_of_term x) ++ [] =
    ap (λ (b : Option Value). followed_if (is_some b) (looked_in_term w e (tree_of_term x)) (looked_in_terms w e (terms_of_list rest))) is
    in (
      sym (at.values ∙ ap (λ (b : Option Value). prefixed row (prepend b (term_values w e (terms_of_list rest)))) is),
      at.looked.in_range (subst AreInRange (sym looks) (in_range-append (looked_in_term w e (tree_of_term x)) [] found.1 tt)),
    )

pub noted : (w : World) (e : Assignment) (all : TermTrees) (items : List Term) (i : ℕ) (x : Term) (row : List Value) (n : RangeNote) →
    i < length items → x ≡ get_or items i x → Passed w e all (map tree_of_term (drop i items)) i row
    → Operand w e x (Err n) → Evaluates {A = Option (List Value)} (term_values w e all) (looked_in_terms w e all) (Err n)
unfolding looked_in_terms
noted w e all items i x row n h q p found =
    let rest : List TermTree = map tree_of_term (drop (i + 1) items) in
    let at : Passed w e all (tree_of_term x ∷ rest) i row = subst (λ (r : List TermTree). Passed w e all r i row)
    (rest-is items i x h q) p in
    (at.looked.among (operation_of n) (among-left (operation_of n) (looked_in_term w e (tree_of_term x)) _ found.0), found.1)

pub ended : (w : World) (e : Assignment) (all : TermTrees) (items : List Term) (i : ℕ) (row : List Value) → length items ≤ i →
    Passed w e all (map tree_of_term (drop i items)) i row → Evaluates (term_values w e all) (looked_in_terms w e all) (Ok (Some row))
unfolding term_values looked_in_terms
ended w e all items i row h p =
    let at : Passed w e all [] i row = subst (λ (r : List TermTree). Passed w e all r i row)
    (ap (map tree_of_term) (drop-past items i h)) p in
    (ap (λ (x : List Value). Some x) (sym (append-nil row)) ∙ sym at.values, at.looked.in_range tt)
