-- A bound of an operator with its new variables.
use Rattle.std.proofs.Common.{◌≡◌, ◌↔◌, ◌⊎◌, ◌<◌, ◌≤◌, ◌+◌, ℕ, List, [], ◌∷◌, ◌++◌, filter, take, drop, length, get_or, Bool, true, false}
use Rattle.std.proofs.Common.{cond, ◌&&◌, not, Result, Ok, Err, inl, inr, refl, sym, ap, ◌∙◌, subst, arith}
use Rattle.tl_action.specs.declared.arranged.Arranged.{Arranged}
use Rattle.tl_eval.specs.declared.fault.EvalFault.{EvalFault}
use Rattle.tl_eval.specs.declared.fault.EvalFault.TheVariants as fault
use Rattle.tl_action.specs.Join.{arranged, bound_count, new_parameters_in, stands_in_one, is_new, new_from, AgreeOnSeen, HasNoCompletion}
use Rattle.tl_action.specs.Join.{IsCompletion, IsFound, IsPassed, IsRowFault, AddsRows}
use Rattle.tl_action.proofs.BoundOrders.{arranged-keeps}
use Rattle.tl_action.proofs.Completions.{known-before, known-kept, completion-past, completion-none}
use Rattle.tl_action.proofs.NewVariables.{new_parameters-are, new_parameters-length}
use Rattle.tl_action.proofs.Operators.{counted-differ, counted-slots}
use Rattle.tl_action.proofs.Rows.{RowsSoFar, rows-on, rows-end, rows-fault}
use Rattle.tl_action.proofs.Walks.{drop-opened, take-opened, each-item}
use Rattle.tl_eval.proofs.ArityLaws.{AreFew}
use Rattle.tl_eval.proofs.PatternLaws.{few-variables, bound-few}
use Rattle.tl_syntax.specs.declared.bound.Bound.{Bound}
use Rattle.tl_syntax.specs.declared.operator.Operator.{Operator}
use Rattle.tl_syntax.specs.declared.value.Value.{Value}
use Rattle.tl_syntax.specs.declared.variable.Var.{Var}
use Rattle.tl_syntax.specs.Assignment.{Assignment, bind}
use Rattle.tl_syntax.specs.BoundVariables.{stands_in, DifferInSlot, OccurIn}
use Rattle.tl_syntax.specs.Fits.{BoundFits}
use Rattle.tl_syntax.specs.FreeVariables.{slots_of, bound_slots, InScope}
use Rattle.tl_syntax.specs.Kept.{OperatorKeeps}
use Rattle.tl_syntax.specs.Lists.{Each, Among}
use Rattle.tl_syntax.specs.Signature.{Signature}
use Rattle.tl_terms.specs.Bounds.{bound_true, tuples}
use Rattle.tl_terms.specs.Definitions.{situation_of}
use Rattle.tl_terms.specs.Problem.{PlainProblem}
use Rattle.tl_terms.specs.ProblemMeaning.{plain_operator}
use Rattle.tl_terms.specs.World.{World}

-- the new variables of a bound, and what they and the bound keep
pub record Node (g : Signature) (o : Operator) (j : ℕ) (b : Bound) (vars : List Var) : Type 0 where
  pub is : vars ≡ filter (is_new (take j o.bounds) b) o.params
  pub scope : InScope (slots_of o.params) (bound_slots b)
  pub fits : BoundFits g b
  pub differ : DifferInSlot vars
  pub occur : OccurIn vars b
  pub few : length vars ≤ 9
  pub frame : Each (λ s. s.slot < 32) vars

kept-each : (P : Var → Type 0) (p : Var → Bool) (ss : List Var) → Each P ss → Each P (filter p ss)
kept-each P p [] h = tt
kept-each P p (s ∷ ss) h = (elim (p s) as (λ x. Each P (cond x (s ∷ filter p ss) (filter p ss))) [
  | true ↦
      (h.0, kept-each P p ss h.1)
  | false ↦ kept-each P p ss h.1
])

kept-differ : (p : Var → Bool) (ss : List Var) → DifferInSlot ss → DifferInSlot (filter p ss)
kept-differ p [] h = tt
kept-differ p (s ∷ ss) h = (elim (p s) as (λ x. DifferInSlot (cond x (s ∷ filter p ss) (filter p ss))) [
  | true ↦
      (kept-each (λ u. u.slot ≡ s.slot → ⊥) p ss h.0, kept-differ p ss h.1)
  | false ↦ kept-differ p ss h.1
])

first-true : (x y : Bool) → (x && y) ≡ true → x ≡ true
first-true true y h = refl
first-true false y h = h

new-occur : (seen : List Bound) (b : Bound) (ss : List Var) → OccurIn (filter (is_new seen b) ss) b
new-occur seen b [] = tt
new-occur seen b (s ∷ ss) = (elim (is_new seen b s) as (λ x. is_new seen b s ≡ x →
    OccurIn (cond x (s ∷ filter (is_new seen b) ss) (filter (is_new seen b) ss)) b) [
      | true ↦ λ q. (first-true (stands_in s b) (not (stands_in_one seen s)) q, new-occur seen b ss)
      | false ↦ λ q. new-occur seen b ss
    ]) refl

bound-node : (g : Signature) (n : ℕ) (o : Operator) (new_parameters : List (List Var)) (j : ℕ) (b : Bound) (vars : List Var) →
    AreFew g.predicates → AreFew g.functions → OperatorKeeps g n o → new_parameters ≡ new_from o.params [] o.bounds → j < length o.bounds →
    b ≡ get_or o.bounds j b → vars ≡ get_or new_parameters j vars → Node g o j b vars
bound-node g n o new_parameters j b vars fp ff keeps h k q r =
    let new = filter (is_new (take j o.bounds) b) o.params in
    let is : vars ≡ new =
    r ∙ (ap (λ (ls : List (List Var)). get_or ls j vars) h
    ∙ (new_parameters-are o.params [] o.bounds j b vars k ∙ ap (λ (x : Bound). filter (is_new (take j o.bounds) x) o.params) (sym q))) in
    let differ = subst DifferInSlot (sym is) (kept-differ (is_new (take j o.bounds) b) o.params
    (counted-differ o.params keeps.params.counted)) in
    let occur = subst (λ (ss : List Var). OccurIn ss b) (sym is) (new-occur (take j o.bounds) b o.params) in
    let fits = each-item (BoundFits g) o.bounds j b keeps.bounds_fit k q in
    record {
      is = is;
      scope = each-item (λ (x : Bound). InScope (slots_of o.params) (bound_slots x)) o.bounds j b keeps.bounds_scope k q;
      fits = fits;
      differ = differ;
      occur = occur;
      few = few-variables vars b differ occur (bound-few g fp ff b fits);
      frame = subst (Each (λ (s : Var). s.slot < 32)) (sym is) (kept-each (λ (s : Var). s.slot < 32) (is_new (take j o.bounds) b) o.params
          (counted-slots o.params keeps.params.counted keeps.params.few));
    }

-- there are as many lists of new variables as bounds
pub new_parameters-count : (a : Arranged) (new_parameters : List (List Var)) → new_parameters ≡ new_parameters_in a →
    length new_parameters ≡ bound_count a
new_parameters-count a new_parameters h = ap (λ (ls : List (List Var)). length ls) h ∙
    new_parameters-length a.operator.now.params [] (arranged a).bounds

-- a bound of an operator, in the order in which they are joined
pub node-at : (g : Signature) (n : ℕ) (a : Arranged) (new_parameters : List (List Var)) (j : ℕ) (b : Bound) (vars : List Var) →
    AreFew g.predicates → AreFew g.functions → OperatorKeeps g n a.operator.now → new_parameters ≡ new_parameters_in a
    → j < bound_count a → b ≡ get_or (arranged a).bounds j b → vars ≡ get_or new_parameters j vars → Node g (arranged a) j b vars
node-at g n a new_parameters j b vars fp ff keeps h k q r = bound-node g n (arranged a) new_parameters j b vars fp ff
    (arranged-keeps g n a keeps) h k q r

module _ (g : Signature) (p : PlainProblem) (w : World) (o : Operator) (j : ℕ) (b : Bound) (vars : List Var) (k : j < length o.bounds)
    (q : b ≡ get_or o.bounds j b) (node : Node g o j b vars) where
  abbrev pub seen : List Bound
  seen = take j o.bounds

  abbrev pub rest : List Bound
  rest = drop (j + 1) o.bounds

  abbrev pub SoFar : List Bound → Assignment → List Var → List (List Value) → List (List Value) → List (List Value) → Type 0
  SoFar bs e ss us before now = RowsSoFar p w (plain_operator o) bs rest e ss us before now

  known-trans : (bs : List Bound) (ss : List Var) (a d e : Assignment) → AgreeOnSeen bs ss a d → AgreeOnSeen bs ss d e →
      AgreeOnSeen bs ss a e
  known-trans bs [] a d e h l = tt
  known-trans bs (s ∷ ss) a d e h l = (λ z. h.0 z ∙ l.0 z, known-trans bs ss a d e h.1 l.1)

  -- the frame after a tuple
  pub node-frame : (e c d a : Assignment) (u : List Value) → d ≡ bind vars u c → AgreeOnSeen seen o.params c e →
      AgreeOnSeen (take (j + 1) o.bounds) o.params a d → AgreeOnSeen seen o.params a e
  node-frame e c d a u z l m =
      let ends = take-opened o.bounds j b k q in
      let before = known-before p w (plain_operator o) seen b rest node.scope a d
      (subst (λ (bs : List Bound). AgreeOnSeen bs o.params a d) ends m) in
      let put = subst (λ (x : Assignment). AgreeOnSeen seen o.params x c) (sym (z ∙ ap (λ (ss : List Var). bind ss u c) node.is))
      (known-kept p w (plain_operator o) seen b rest node.scope u c) in
      known-trans seen o.params a d e before (known-trans seen o.params d c e put l)

  pub node-on : (e c d : Assignment) (u : List Value) (us before now then : List (List Value)) → d ≡ bind vars u c →
      AgreeOnSeen seen o.params c e → SoFar (take (j + 1) o.bounds) e vars us before now
      → ((t : List Value) → Among t then ↔ (Among t now ⊎ IsFound p w (plain_operator o) (take (j + 1) o.bounds) rest d t)) →
      SoFar (take (j + 1) o.bounds) e vars (us ++ u ∷ []) before then
  node-on e c d u us before now then z l r f =
      let ends = take-opened o.bounds j b k q in
      subst (λ (bs : List Bound). SoFar bs e vars (us ++ u ∷ []) before then) (sym ends)
      (subst (λ (ss : List Var). SoFar (seen ++ b ∷ []) e ss (us ++ u ∷ []) before then) (sym node.is)
      (rows-on p w (plain_operator o) seen b rest node.scope e c d u us before now then (z ∙ ap (λ (ss : List Var). bind ss u c) node.is) l
      (subst (λ (ss : List Var). SoFar (seen ++ b ∷ []) e ss us before now) node.is
      (subst (λ (bs : List Bound). SoFar bs e vars us before now) ends r))
      (subst (λ (bs : List Bound). (t : List Value) → Among t then ↔ (Among t now ⊎ IsFound p w (plain_operator o) bs rest d t)) ends f)))

  pub node-end : (e : Assignment) (us before now : List (List Value)) → us ≡ tuples (situation_of p w) e vars b →
      SoFar (take (j + 1) o.bounds) e vars us before now
      → (t : List Value) → Among t now ↔ (Among t before ⊎ IsFound p w (plain_operator o) seen (drop j o.bounds) e t)
  node-end e us before now z r =
      let ends = take-opened o.bounds j b k q in
      subst (λ (bs : List Bound). (t : List Value) → Among t now ↔ (Among t before ⊎ IsFound p w (plain_operator o) seen bs e t))
      (sym (drop-opened o.bounds j b k q))
      (rows-end p w (plain_operator o) seen b rest node.scope (subst DifferInSlot node.is node.differ)
      (subst (λ (ss : List Var). OccurIn ss b) node.is node.occur) e before now
      (subst (λ (vs : List (List Value)). SoFar (seen ++ b ∷ []) e (filter (is_new seen b) o.params) vs before now)
      (z ∙ ap (λ (ss : List Var). tuples (situation_of p w) e ss b) node.is)
      (subst (λ (ss : List Var). SoFar (seen ++ b ∷ []) e ss us before now) node.is
      (subst (λ (bs : List Bound). SoFar bs e vars us before now) ends r))))

  pub node-fault : (e c d : Assignment) (u : List Value) → d ≡ bind vars u c → AgreeOnSeen seen o.params c e →
      Among u (tuples (situation_of p w) e vars b) → (x : EvalFault) → IsRowFault p w (plain_operator o) (take (j + 1) o.bounds) rest d x
      → IsRowFault p w (plain_operator o) seen (drop j o.bounds) e x
  node-fault e c d u z l m x f =
      let ends = take-opened o.bounds j b k q in
      subst (λ (bs : List Bound). IsRowFault p w (plain_operator o) seen bs e x) (sym (drop-opened o.bounds j b k q))
      (rows-fault p w (plain_operator o) seen b rest node.scope (subst DifferInSlot node.is node.differ)
      (subst (λ (ss : List Var). OccurIn ss b) node.is node.occur) e c d u
      (z ∙ ap (λ (ss : List Var). bind ss u c) node.is) l (subst (λ (ss : List Var). Among u (tuples (situation_of p w) e ss b)) node.is m)
      x (subst (λ (bs : List Bound). IsRowFault p w (plain_operator o) bs rest d x) ends f))

  -- a bound without new variables that is true of the frame is passed
  pub node-past : (e : Assignment) → vars ≡ [] → bound_true (situation_of p w) e b ≡ true → (i : ℕ) → IsPassed p w o e i j →
      IsPassed p w o e i (j + 1)
  node-past e z is i h =
      let ends = take-opened o.bounds j b k q in
      let opens = drop-opened o.bounds j b k q in
      let past = completion-past p w (plain_operator o) seen b rest node.scope (sym node.is ∙ z) e is in
      record {
        later = omega (arith, h.later);
        inside = omega (arith, k);
        same = λ t. (
          λ c. subst (λ (bs : List Bound). IsCompletion p w (plain_operator o) bs rest e t) (sym ends)
              ((past t).0 (subst (λ (bs : List Bound). IsCompletion p w (plain_operator o) seen bs e t) opens ((h.same t).0 c))),
          λ c. (h.same t).1 (subst (λ (bs : List Bound). IsCompletion p w (plain_operator o) seen bs e t) (sym opens)
              ((past t).1 (subst (λ (bs : List Bound). IsCompletion p w (plain_operator o) bs rest e t) ends c))),
        );
        known = λ d a m. h.known d a (known-before p w (plain_operator o) seen b rest node.scope d a
            (subst (λ (bs : List Bound). AgreeOnSeen bs o.params d a) ends m));
      }

  -- and one that is false of it by no row
  pub node-none : (e : Assignment) → vars ≡ [] → bound_true (situation_of p w) e b ≡ false → (i : ℕ) → IsPassed p w o e i j →
      HasNoCompletion p w o e i
  node-none e z is i h t c =
      completion-none p w (plain_operator o) seen b rest node.scope (sym node.is ∙ z) e is t
      (subst (λ (bs : List Bound). IsCompletion p w (plain_operator o) seen bs e t) (drop-opened o.bounds j b k q) ((h.same t).0 c))

-- rows and faults from the k-th bound on are those from the j-th on
pub joins-past : (p : PlainProblem) (w : World) (o : Operator) (e : Assignment) (j k : ℕ) → IsPassed p w o e j k →
    (before after : List (List Value)) (r : Result (Unit {0}) EvalFault)
    → AddsRows p w (plain_operator o) (take k o.bounds) (drop k o.bounds) e before after r →
    AddsRows p w (plain_operator o) (take j o.bounds) (drop j o.bounds) e before after r
joins-past p w o e j k h before after (Ok done) f = λ t. (
  λ m. elim ((f t).0 m) [ inl a ↦ inl a | inr x ↦ inr (record { completes = (h.same t).1 x.completes; prepared = x.prepared }) ],
  λ m. (f t).1 (elim m [ inl a ↦ inl a | inr x ↦ inr (record { completes = (h.same t).0 x.completes; prepared = x.prepared }) ]),
)
joins-past p w o e j k h before after (Err (fault.Range note)) f = (f.0, (h.same f.0).1 f.1, f.2)
joins-past p w o e j k h before after (Err fault.NoMemory) f = tt
