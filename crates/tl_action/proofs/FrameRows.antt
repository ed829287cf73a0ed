-- The values of variables in a frame in turn.
use Rattle.std.proofs.Common.{◌≡◌, ◌<◌, ◌≤◌, ◌+◌, ℕ, List, [], ◌∷◌, ◌++◌, drop, append-nil, length, get_or, Option, Some, None, sym, ap}
use Rattle.std.proofs.Common.{◌∙◌, subst}
use Rattle.tl_action.specs.Join.{variables}
use Rattle.tl_action.proofs.TermLists.{prefixed-nothing, prefixed-more}
use Rattle.tl_action.proofs.Walks.{drop-opened, drop-past}
use Rattle.tl_eval.specs.Notes.{prefixed}
use Rattle.tl_syntax.specs.declared.value.Value.{Value}
use Rattle.tl_syntax.specs.declared.variable.Var.{Var}
use Rattle.tl_syntax.specs.Assignment.{Assignment}
use Rattle.tl_terms.specs.Terms.{prepend, term_values}
use Rattle.tl_terms.specs.World.{World}

-- the values so far, of all variables but the rest
abbrev pub RowPassed : World → Assignment → List Var → List Var → List Value → Type 0
RowPassed w e all rest row = term_values w e (variables all) ≡ prefixed row (term_values w e (variables rest))

pub row-begun : (w : World) (e : Assignment) (ss : List Var) (row : List Value) → row ≡ [] → RowPassed w e ss ss row
row-begun w e ss row z =
    let all = term_values w e (variables ss) in prefixed-nothing all ∙ ap (λ (vs : List Value). prefixed vs all) (sym z)

module _ (w : World) (e : Assignment) (all ss : List Var) (i : ℕ) (s : Var) (row : List Value) (k : i < length ss) (n : s ≡ get_or ss i s)
    (h : RowPassed w e all (drop i ss) row) where
  abbrev pub others : Option (List Value)
  others = term_values w e (variables (drop (i + 1) ss))

  opened : term_values w e (variables all) ≡ prefixed row (prepend (e s.slot) others)
  unfolding term_values
  opened = h ∙ ap (λ (us : List Var). prefixed row (term_values w e (variables us))) (drop-opened ss i s k n)

  pub row-on : (more : List Value) (v : Value) → Some v ≡ e s.slot → more ≡ row ++ v ∷ [] → RowPassed w e all (drop (i + 1) ss) more
  row-on more v m z =
      opened ∙ (ap (λ (o : Option Value). prefixed row (prepend o others)) (sym m) ∙
      (prefixed-more row v others ∙ ap (λ (vs : List Value). prefixed vs others) (sym z)))

  pub row-undefined : let none : Option Value = None in none ≡ e s.slot → let no : Option (List Value) = None in no ≡
      term_values w e (variables all)
  row-undefined m = sym (opened ∙ ap (λ (o : Option Value). prefixed row (prepend o others)) (sym m))

pub row-ended : (w : World) (e : Assignment) (all ss : List Var) (i : ℕ) (row : List Value) → length ss ≤ i →
    RowPassed w e all (drop i ss) row → Some row ≡ term_values w e (variables all)
unfolding term_values
row-ended w e all ss i row k h =
    let ended : RowPassed w e all [] row = subst (λ (us : List Var). RowPassed w e all us row) (drop-past ss i k) h in
    sym (ended ∙ ap (λ (x : List Value). Some x) (append-nil row))
