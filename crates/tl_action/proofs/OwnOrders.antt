-- What is worked out of operators whose bounds are joined in their own order.
use Rattle.std.proofs.Common.{◌≡◌, ◌<◌, ◌≤◌, ◌+◌, ℕ, zero, suc, List, [], ◌∷◌, ◌++◌, map, take, length, get_or, Bool, refl, sym, ap, ◌∙◌}
use Rattle.std.proofs.Common.{arith}
use Rattle.std.specs.Prelude.{slice_set}
use Rattle.std.proofs.lemmas.List.{map-append}
use Rattle.tl_action.specs.declared.arranged.Arranged.{Arranged}
use Rattle.tl_action.specs.Join.{moved_first, new_from, new_parameters_in}
use Rattle.tl_action.specs.OwnOrders.{own_order}
use Rattle.tl_action.specs.Sure.{are_sure}
use Rattle.tl_action.proofs.Walks.{take-opened, take-past}
use Rattle.tl_syntax.specs.declared.bound.Bound.{Bound}
use Rattle.tl_syntax.specs.declared.operator.Operator.{Operator}
use Rattle.tl_syntax.specs.declared.variable.Var.{Var}
use Rattle.tl_syntax.specs.TreeOfEffect.{tree_of_effects}

-- the first bound before the others leaves their order
pub first-first : (bs : List Bound) → moved_first bs 0 ≡ bs
first-first [] = refl
first-first (b ∷ bs) = refl

-- the parameters of a join order whose first bound comes first
pub own-parameters : (a : Arranged) (o : Operator) → a.operator.now ≡ o → a.first ≡ 0 → new_parameters_in a ≡ new_from o.params [] o.bounds
own-parameters a o p q =
    ap (λ k. new_from a.operator.now.params [] (moved_first a.operator.now.bounds k)) q
    ∙ (ap (λ bs. new_from a.operator.now.params [] bs) (first-first a.operator.now.bounds)
    ∙ ap (λ (x : Operator). new_from x.params [] x.bounds) p)

-- such a join order has what is worked out of its operator
pub own-is : (a : Arranged) (o : Operator) (ps : List (List Var)) (s : Bool) → a.operator.now ≡ o → a.first ≡ 0 → ps ≡ new_parameters_in a →
    s ≡ are_sure (tree_of_effects a.operator.now.effects) → (ps, s) ≡ own_order o
own-is a o ps s p q n e =
    let parameters = n ∙ own-parameters a o p q in
    let sure = e ∙ ap (λ (x : Operator). are_sure (tree_of_effects x.effects)) p in
    λ i. (parameters i, sure i)

-- one operator more
pub orders-on : (os : List Operator) (i : ℕ) (o : Operator) (before after : List (List (List Var) × Bool)) (own : List (List Var) × Bool) →
    i < length os → o ≡ get_or os i o → own ≡ own_order o → after ≡ before ++ own ∷ []
    → before ≡ map own_order (take i os) → after ≡ map own_order (take (i + 1) os)
orders-on os i o before after own h k e q so =
    q ∙ (ap (λ xs. xs ++ own ∷ []) so
    ∙ (ap (λ x. map own_order (take i os) ++ x ∷ []) e
    ∙ sym (ap (map own_order) (take-opened os i o h k) ∙ map-append own_order (take i os) (o ∷ []))))

-- all operators
pub orders-ended : (os : List Operator) (i : ℕ) (orders : List (List (List Var) × Bool)) → length os ≤ i → orders ≡
    map own_order (take i os) → orders ≡ map own_order os
orders-ended os i orders h so = so ∙ ap (map own_order) (take-past os i h)

-- how many there are
pub orders-count : (os : List Operator) → length (map own_order os) ≡ length os
orders-count [] = refl
orders-count (o ∷ os) = ap suc (orders-count os)

-- that of an operator
pub order-at : (os : List Operator) (i : ℕ) (o : Operator) (own : List (List Var) × Bool) → i < length os → o ≡ get_or os i o → own ≡
    get_or (map own_order os) i own → own ≡ own_order o
order-at [] i o own h k q = absurd (omega arith)
order-at (x ∷ os) zero o own h k q = q ∙ ap own_order (sym k)
order-at (x ∷ os) (suc i) o own h k q = order-at os i o own (omega arith) k q

-- what stands at a place is put there again
pub put-again : (os : List Operator) (i : ℕ) (o : Operator) (own : List (List Var) × Bool) → i < length os → o ≡ get_or os i o → own ≡
    own_order o → slice_set (map own_order os) i own ≡ map own_order os
put-again [] i o own h k q = refl
put-again (x ∷ os) zero o own h k q = ap (λ y. y ∷ map own_order os) (q ∙ ap own_order k)
put-again (x ∷ os) (suc i) o own h k q = ap (λ ys. own_order x ∷ ys) (put-again os i o own (omega arith) k q)
