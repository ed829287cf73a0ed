-- The tuples of a bound's new variables, read one after another.
use Rattle.std.proofs.Common.{◌≡◌, ◌↔◌, ◌⊎◌, ◌<◌, ◌+◌, ℕ, List, [], ◌∷◌, ◌++◌, take, drop, length, get_or, Option, Some, None, inl, inr}
use Rattle.std.proofs.Common.{sym, subst}
use Rattle.tl_eval.specs.declared.fault.EvalFault.{EvalFault}
use Rattle.tl_action.specs.Join.{AgreeOnSeen, IsFound, IsRowFault}
use Rattle.tl_action.proofs.BoundTuples.{left, none-done, done-on, done-all, next-among, fewer-left}
use Rattle.tl_action.proofs.JoinNodes.{Node, node-on, node-end, node-fault}
use Rattle.tl_action.proofs.Rows.{RowsSoFar}
use Rattle.tl_syntax.specs.declared.bound.Bound.{Bound}
use Rattle.tl_syntax.specs.declared.operator.Operator.{Operator}
use Rattle.tl_syntax.specs.declared.value.Value.{Value}
use Rattle.tl_syntax.specs.declared.variable.Var.{Var}
use Rattle.tl_syntax.specs.Assignment.{Assignment, bind}
use Rattle.tl_syntax.specs.Lists.{Among}
use Rattle.tl_syntax.specs.Signature.{Signature}
use Rattle.tl_terms.specs.Bounds.{bound_true, tuples}
use Rattle.tl_terms.specs.Definitions.{situation_of}
use Rattle.tl_terms.specs.Problem.{PlainOperator, PlainProblem}
use Rattle.tl_terms.specs.ProblemMeaning.{plain_operator}
use Rattle.tl_terms.specs.World.{World}
use Rattle.tl_match.specs.Next.{IsNext}

-- the rows so far are those of the tuples that are done, and the others come after the one that the reader has come to
pub record RowsRead (p : PlainProblem) (w : World) (o : PlainOperator) (seen rest : List Bound) (e : Assignment) (vars : List Var)
    (b : Bound) (after : Option (List Value)) (before now : List (List Value)) : Type 0 where
  pub done : List (List Value)
  pub all : done ++ left (situation_of p w) e vars b after ≡ tuples (situation_of p w) e vars b
  pub rows : RowsSoFar p w o seen rest e vars done before now

pub read-begun : (p : PlainProblem) (w : World) (o : PlainOperator) (seen rest : List Bound) (e : Assignment) (vars : List Var) (b : Bound)
    (after : Option (List Value)) (before : List (List Value)) → after ≡ None → RowsRead p w o seen rest e vars b after before before
read-begun p w o seen rest e vars b after before q = subst (λ (x : Option (List Value)). RowsRead p w o seen rest e vars b x before before)
    (sym q) (record {
      done = [];
      all = none-done (situation_of p w) e vars b;
      rows = λ t. (λ m. inl m, λ m. elim m [ inl k ↦ k | inr z ↦ absurd z ]);
    })

module _ (g : Signature) (p : PlainProblem) (w : World) (o : Operator) (j : ℕ) (b : Bound) (vars : List Var) (k : j < length o.bounds)
    (q : b ≡ get_or o.bounds j b) (node : Node g o j b vars)
    (e : Assignment) (after next : Option (List Value)) (n : IsNext (length vars)
    (λ t. bound_true (situation_of p w) (bind vars t e) b) after next) (before now : List (List Value))
    (h : RowsRead p w (plain_operator o) (take (j + 1) o.bounds) (drop (j + 1) o.bounds) e vars b after before now) where
  pub read-on : (c d : Assignment) (u : List Value) (then : List (List Value)) → next ≡ Some u → d ≡ bind vars u c →
      AgreeOnSeen (take j o.bounds) o.params c e
      → ((t : List Value) → Among t then ↔ (Among t now ⊎ IsFound p w (plain_operator o) (take (j + 1) o.bounds)
      (drop (j + 1) o.bounds) d t)) → RowsRead p w (plain_operator o) (take (j + 1) o.bounds)
      (drop (j + 1) o.bounds) e vars b next before then
  read-on c d u then z put l f = subst (λ (x : Option (List Value)). RowsRead p w (plain_operator o) (take (j + 1) o.bounds)
      (drop (j + 1) o.bounds) e vars b x before then) (sym z) (record {
        done = h.done ++ u ∷ [];
        all = done-on (situation_of p w) e vars b node.differ node.occur after next n h.done h.all u z;
        rows = node-on g p w o j b vars k q node e c d u h.done before now then put l h.rows f;
      })

  pub read-fault : (c d : Assignment) (u : List Value) → next ≡ Some u → d ≡ bind vars u c → AgreeOnSeen (take j o.bounds) o.params c e →
      (x : EvalFault) → IsRowFault p w (plain_operator o) (take (j + 1) o.bounds) (drop (j + 1) o.bounds) d x
      → IsRowFault p w (plain_operator o) (take j o.bounds) (drop j o.bounds) e x
  read-fault c d u z put l x f = node-fault g p w o j b vars k q node e c d u put l
      (next-among (situation_of p w) e vars b node.differ node.occur after next n h.done h.all u z) x f

  pub read-end : next ≡ None → (t : List Value) → Among t now ↔ (Among t before ⊎
      IsFound p w (plain_operator o) (take j o.bounds) (drop j o.bounds) e t)
  read-end z = node-end g p w o j b vars k q node e h.done before now (done-all
      (situation_of p w) e vars b node.differ node.occur after next n h.done h.all z) h.rows

  pub read-smaller : (u : List Value) → next ≡ Some u → length (left (situation_of p w) e vars b next) < length
      (left (situation_of p w) e vars b after)
  read-smaller u z = subst (λ (x : Option (List Value)). length (left (situation_of p w) e vars b x) < length
      (left (situation_of p w) e vars b after)) (sym z) (fewer-left (situation_of p w) e vars b node.differ node.occur after next n u z)
