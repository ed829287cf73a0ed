-- What formulas without a formula below them evaluate to, by what their parts do.
use Rattle.std.proofs.Common.{◌≡◌, ◌≤◌, ◌<◌, ◌+◌, ℕ, zero, suc, List, [], ◌∷◌, ◌++◌, map, drop, length, get_or, Bool, true, false, Option}
use Rattle.std.proofs.Common.{Some, None, Ok, refl, sym, ap, ap₂, ◌∙◌, subst, append_assoc, append-nil, drop-cons, add-one, arith}
use Rattle.std.specs.Prelude.{is_some}
use Rattle.tl_eval.specs.Notes.{AreInRange, Tells, operation_of, prefixed}
use Rattle.tl_eval.specs.TermValues.{value_under, looked_under, IsPlainValue, IsAtomTruth, IsComparison}
use Rattle.tl_eval.specs.declared.range.RangeNote.{RangeNote}
use Rattle.tl_eval.proofs.TermLaws.{among-right, in_range-append}
use Rattle.tl_syntax.specs.declared.term.Term.{Term}
use Rattle.tl_syntax.specs.declared.term.Terms.{Terms}
use Rattle.tl_syntax.specs.declared.value.Cmp.{Cmp}
use Rattle.tl_syntax.specs.declared.value.Value.{Value}
use Rattle.tl_syntax.specs.declared.variable.Arg.{Arg}
use Rattle.tl_syntax.specs.Assignment.{Assignment}
use Rattle.tl_syntax.specs.TreeOfTerm.{tree_of_term, tree_of_terms, terms_of_list}
use Rattle.tl_syntax.specs.Trees.{TermTree, TermTrees}
use Rattle.tl_syntax.proofs.TermTrees.{trees-Terms}
use Rattle.tl_terms.specs.Bounds.{arg_value, arg_values, fact_in}
use Rattle.tl_terms.specs.Looked.{followed_if, leaves_open, looked_in_terms}
use Rattle.tl_terms.specs.Operations.{Operation}
use Rattle.tl_terms.specs.Terms.{prepend, term_values}
use Rattle.tl_terms.specs.Truth.{compared}
use Rattle.tl_terms.specs.World.{World}

-- a note of what follows
pub second-noted : (goes : Bool) (first others : List Operation) (n : RangeNote) → goes ≡ true → Tells others n →
    Tells (followed_if goes first others) n
second-noted goes first others n q h = subst (λ (b : Bool). Tells (followed_if b first others) n) (sym q)
    (among-right (operation_of n) first others h.0, h.1)

-- ---- terms that are variables or values

at-last : (goes : Bool) (first others : List Operation) → AreInRange first → AreInRange others → AreInRange (followed_if goes first others)
at-last true first others h k = in_range-append first others h k
at-last false first others h k = in_range-append first [] h tt

-- two such sides stand in the comparison as their values do
pub sides-plain : (w : World) (frame : List (Option Value)) (cmp : Cmp) (s t : TermTree) (a b : Option Value) (r : Bool) →
    IsPlainValue frame s a → IsPlainValue frame t b → r ≡ compared cmp a b → IsComparison w frame cmp s t (Ok r)
sides-plain w frame cmp s t a b r p q h = (
  h ∙ ap₂ (compared cmp) (p w).0 (q w).0,
  at-last (leaves_open cmp (value_under w frame s)) (looked_under w frame s)
      (looked_under w frame t) (p w).1 (q w).1,
)

-- a list of one, and of two, by what is read of it
pub one-item : {A : Type 0} (xs : List A) (x : A) → length xs ≡ 1 → x ≡ get_or xs 0 x → xs ≡ x ∷ []
one-item [] x h q = absurd (omega arith)
one-item (y ∷ []) x h q = ap (λ z. z ∷ []) (sym q)
one-item (y ∷ z ∷ ys) x h q = absurd (omega arith)

pub two-items : {A : Type 0} (xs : List A) (x y : A) → length xs ≡ 2 → x ≡ get_or xs 0 x → y ≡ get_or xs 1 y → xs ≡ x ∷ y ∷ []
two-items [] x y h q k = absurd (omega arith)
two-items (u ∷ []) x y h q k = absurd (omega arith)
two-items (u ∷ v ∷ []) x y h q k = ap₂ (λ a b. a ∷ b ∷ []) (sym q) (sym k)
two-items (u ∷ v ∷ z ∷ zs) x y h q k = absurd (omega arith)

terms-are : (ts : Terms) (items xs : List Term) → items ≡ ts.items.items → items ≡ xs → tree_of_terms ts ≡
    terms_of_list (map tree_of_term xs)
terms-are ts items xs q h = trees-Terms ts ∙ ap (λ (x : List Term). terms_of_list (map tree_of_term x)) (sym q ∙ h)

module _ (w : World) (frame : List (Option Value)) (p : ℕ) (ts : Terms) (items : List Term) (is : items ≡ ts.items.items) where
  -- one such argument
  pub one-plain : (x : Term) (a : Option Value) (r : Bool) → items ≡ x ∷ [] → IsPlainValue frame (tree_of_term x) a → r ≡
      fact_in w p (prepend a (Some [])) → IsAtomTruth w frame p (tree_of_terms ts) (Ok r)
  unfolding term_values looked_in_terms
  one-plain x a r q one h =
      subst (λ (u : TermTrees). IsAtomTruth w frame p u (Ok r)) (sym (terms-are ts items (x ∷ []) is q)) (
        h ∙ ap (λ v. fact_in w p (prepend v (Some []))) (one w).0,
        at-last (is_some (value_under w frame (tree_of_term x)))
            (looked_under w frame (tree_of_term x)) [] (one w).1 tt,
      )

  -- two of them
  pub two-plain : (x y : Term) (a b : Option Value) (r : Bool) → items ≡ x ∷ y ∷ [] → IsPlainValue frame (tree_of_term x) a →
      IsPlainValue frame (tree_of_term y) b → r ≡ fact_in w p (prepend a (prepend b (Some []))) →
      IsAtomTruth w frame p (tree_of_terms ts) (Ok r)
  unfolding term_values looked_in_terms
  two-plain x y a b r q one two h =
      let rest = at-last (is_some (value_under w frame (tree_of_term y))) (looked_under w frame (tree_of_term y)) [] (two w).1 tt in
      subst (λ (u : TermTrees). IsAtomTruth w frame p u (Ok r)) (sym (terms-are ts items (x ∷ y ∷ []) is q)) (
        h ∙ ap₂ (λ u v. fact_in w p (prepend u (prepend v (Some [])))) (one w).0 (two w).0,
        at-last (is_some (value_under w frame (tree_of_term x))) (looked_under w frame (tree_of_term x)) _ (one w).1 rest,
      )

-- ---- the values of arguments

-- the arguments so far have these values, and the rest is left
pub record ArgsPassed (e : Assignment) (all rest : List Arg) (count : ℕ) (row : List Value) : Type 0 where
  pub values : arg_values e all ≡ prefixed row (arg_values e rest)
  pub counted : length row ≡ count
  pub few : count + length rest ≤ 8

args-none : (o : Option (List Value)) → o ≡ prefixed [] o
args-none None = refl
args-none (Some vs) = refl

args-one : (row : List Value) (v : Value) (o : Option (List Value)) → prefixed row (prepend (Some v) o) ≡ prefixed (row ++ v ∷ []) o
args-one row v None = refl
args-one row v (Some vs) = ap (λ (x : List Value). Some x) (sym (append_assoc row (v ∷ []) vs))

row-more : (row : List Value) (v : Value) → length (row ++ v ∷ []) ≡ length row + 1
row-more [] v = refl
row-more (x ∷ row) v = let h : length (row ++ v ∷ []) ≡ length row + 1 = row-more row v in omega arith

pub args-begun : (e : Assignment) (args : List Arg) (row : List Value) → row ≡ [] → length args ≤ 8 → ArgsPassed e args args 0 row
args-begun e args row q h = record {
  values = args-none (arg_values e args) ∙ ap (λ (x : List Value). prefixed x (arg_values e args)) (sym q);
  counted = ap length q;
  few = omega arith;
}

at-arg : (args : List Arg) (i : ℕ) (d : Arg) → i < length args → drop i args ≡ get_or args i d ∷ drop (i + 1) args
at-arg args i d h = drop-cons args i d h ∙ ap (λ (k : ℕ). get_or args i d ∷ drop k args) (sym (add-one i))

pub args-room : (e : Assignment) (args : List Arg) (i : ℕ) (d : Arg) (row : List Value) → i < length args →
    ArgsPassed e args (drop i args) i row → length row < 8
args-room e args i d row h p =
    let few : i + length (get_or args i d ∷ drop (i + 1) args) ≤ 8 = subst (λ (r : List Arg). i + length r ≤ 8) (at-arg args i d h) p.few in
    let counted = p.counted in omega arith

pub args-pushed : (e : Assignment) (args : List Arg) (i : ℕ) (d : Arg) (row next : List Value) (o : Option Value) (v : Value) →
    i < length args → ArgsPassed e args (drop i args) i row
    → o ≡ arg_value e (get_or args i d) → o ≡ Some v → next ≡ row ++ v ∷ [] → ArgsPassed e args (drop (i + 1) args) (i + 1) next
args-pushed e args i d row next o v h p k m n =
    let at : ArgsPassed e args (get_or args i d ∷ drop (i + 1) args) i row =
    subst (λ (r : List Arg). ArgsPassed e args r i row) (at-arg args i d h) p in
    let is : arg_value e (get_or args i d) ≡ Some v = sym k ∙ m in
    let more : length next ≡ length row + 1 = ap length n ∙ row-more row v in
    let counted = at.counted in
    let few = at.few in
    record {
      values = at.values ∙ (ap (λ (b : Option Value). prefixed row (prepend b (arg_values e (drop (i + 1) args)))) is ∙
          (args-one row v (arg_values e (drop (i + 1) args)) ∙ ap (λ (r : List Value). prefixed r (arg_values e (drop (i + 1) args)))
          (sym n)));
      counted = omega arith;
      few = omega arith;
    }

pub args-undefined : (e : Assignment) (args : List Arg) (i : ℕ) (d : Arg) (row : List Value) (o : Option Value) → i < length args →
    ArgsPassed e args (drop i args) i row
    → o ≡ arg_value e (get_or args i d) → o ≡ None → None ≡ arg_values e args
args-undefined e args i d row o h p k m =
    let at : ArgsPassed e args (get_or args i d ∷ drop (i + 1) args) i row =
    subst (λ (r : List Arg). ArgsPassed e args r i row) (at-arg args i d h) p in
    sym (at.values ∙ ap (λ (b : Option Value). prefixed row (prepend b (arg_values e (drop (i + 1) args)))) (sym k ∙ m))

drop-all : {A : Type 0} (xs : List A) (n : ℕ) → length xs ≤ n → drop n xs ≡ []
drop-all [] zero h = refl
drop-all [] (suc n) h = refl
drop-all (x ∷ xs) zero h = absurd (omega arith)
drop-all (x ∷ xs) (suc n) h = drop-all xs n (omega arith)

pub args-ended : (e : Assignment) (args : List Arg) (i : ℕ) (row : List Value) → length args ≤ i → ArgsPassed e args (drop i args) i row →
    Some row ≡ arg_values e args
args-ended e args i row h p =
    let at : ArgsPassed e args [] i row = subst (λ (r : List Arg). ArgsPassed e args r i row) (drop-all args i h) p in
    ap (λ (x : List Value). Some x) (sym (append-nil row)) ∙ sym at.values

-- the fact of one argument, and of two
pub one-argument : (w : World) (e : Assignment) (p : ℕ) (xs : List Arg) (d : Arg) (a : Option Value) (r : Bool) → length xs ≡ 1 → a ≡
    arg_value e (get_or xs 0 d) → r ≡ fact_in w p (prepend a (Some [])) → r ≡ fact_in w p (arg_values e xs)
one-argument w e p [] d a r n h k = absurd (omega arith)
one-argument w e p (x ∷ []) d a r n h k = k ∙ ap (λ v. fact_in w p (prepend v (Some []))) h
one-argument w e p (x ∷ y ∷ xs) d a r n h k = absurd (omega arith)

pub two-arguments : (w : World) (e : Assignment) (p : ℕ) (xs : List Arg) (c d : Arg) (a b : Option Value) (r : Bool) → length xs ≡ 2 → a ≡
    arg_value e (get_or xs 0 c) → b ≡ arg_value e (get_or xs 1 d) → r ≡ fact_in w p (prepend a (prepend b (Some []))) → r ≡
    fact_in w p (arg_values e xs)
two-arguments w e p [] c d a b r n h l k = absurd (omega arith)
two-arguments w e p (x ∷ []) c d a b r n h l k = absurd (omega arith)
two-arguments w e p (x ∷ y ∷ []) c d a b r n h l k = k ∙ ap₂ (λ u v. fact_in w p (prepend u (prepend v (Some [])))) h l
two-arguments w e p (x ∷ y ∷ z ∷ xs) c d a b r n h l k = absurd (omega arith)
