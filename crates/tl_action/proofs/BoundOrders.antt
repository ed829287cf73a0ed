-- An operator with its bounds in another order.
use Rattle.std.proofs.Common.{◌≡◌, ◌↔◌, ◌<◌, ◌≤◌, ◌-◌, ℕ, zero, suc, List, [], ◌∷◌, length, get_or, Bool, true, false, true≢false, ◌||◌}
use Rattle.std.proofs.Common.{IsTrue, inl, inr, refl, sym, ap, ◌∙◌, arith}
use Rattle.std.specs.List.{list_any}
use Rattle.tl_action.specs.declared.arranged.Arranged.{Arranged}
use Rattle.tl_eval.specs.declared.fault.EvalFault.{EvalFault}
use Rattle.tl_eval.specs.declared.fault.EvalFault.TheVariants as fault
use Rattle.tl_action.specs.Join.{arranged, bound_count, behind_first, moved_first, HaveSame, with_bounds, row_assignment, IsCompletion}
use Rattle.tl_action.specs.Join.{IsRowFault}
use Rattle.tl_action.specs.RowLists.{AreRowsOf}
use Rattle.tl_syntax.specs.declared.bound.Bound.{Bound}
use Rattle.tl_syntax.specs.declared.operator.Operator.{Operator}
use Rattle.tl_syntax.specs.declared.value.Value.{Value}
use Rattle.tl_syntax.specs.declared.variable.Var.{Var}
use Rattle.tl_syntax.specs.Assignment.{Assignment}
use Rattle.tl_syntax.specs.BoundVariables.{stands_in}
use Rattle.tl_syntax.specs.Fits.{BoundFits}
use Rattle.tl_syntax.specs.FreeVariables.{slots_of, bound_slots, InScope}
use Rattle.tl_syntax.specs.Kept.{OperatorKeeps}
use Rattle.tl_syntax.specs.Lists.{Each, Among}
use Rattle.tl_syntax.specs.Named.{BoundIsNamed}
use Rattle.tl_syntax.specs.Signature.{Signature}
use Rattle.tl_syntax.proofs.ListLaws.{Each-Among}
use Rattle.tl_terms.specs.Bounds.{bound_true}
use Rattle.tl_terms.specs.Definitions.{situation_of}
use Rattle.tl_terms.specs.Problem.{PlainProblem}
use Rattle.tl_terms.specs.ProblemMeaning.{plain_operator}
use Rattle.tl_terms.specs.World.{World}

-- ---- one of the bounds before the others

among-behind : (b y : Bound) (cs : List Bound) → Among y (behind_first b cs) ↔ Among y (b ∷ cs)
among-behind b y [] = (λ m. m, λ m. m)
among-behind b y (c ∷ cs) = (
  λ m. elim m [ inl p ↦ inr (inl p) | inr n ↦ elim n [ inl p ↦ inl p | inr p ↦ inr (inr p) ] ],
  λ m. elim m [ inl p ↦ inr (inl p) | inr n ↦ elim n [ inl p ↦ inl p | inr p ↦ inr (inr p) ] ],
)

have-same : (bs : List Bound) (k : ℕ) → HaveSame bs (moved_first bs k)
have-same [] k y = (λ m. m, λ m. m)
have-same (b ∷ bs) zero y = (λ m. m, λ m. m)
have-same (b ∷ bs) (suc k) y =
    let behind = among-behind b y (moved_first bs k) in
    let others = have-same bs k y in (
      λ m. elim (behind.0 m) [ inl p ↦ inl p | inr n ↦ inr (others.0 n) ],
      λ m. behind.1 (elim m [ inl p ↦ inl p | inr n ↦ inr (others.1 n) ]),
    )

length-behind : (b : Bound) (cs : List Bound) → length (behind_first b cs) ≡ suc (length cs)
length-behind b [] = refl
length-behind b (c ∷ cs) = refl

pub moved-length : (bs : List Bound) (k : ℕ) → length (moved_first bs k) ≡ length bs
moved-length [] k = refl
moved-length (b ∷ bs) zero = refl
moved-length (b ∷ bs) (suc k) = length-behind b (moved_first bs k) ∙ ap suc (moved-length bs k)

first-behind : (b x : Bound) (cs : List Bound) → 0 < length cs → get_or (behind_first b cs) 0 x ≡ get_or cs 0 x
first-behind b x [] h = absurd (omega arith)
first-behind b x (c ∷ cs) h = refl

second-behind : (b x : Bound) (cs : List Bound) → 0 < length cs → get_or (behind_first b cs) 1 x ≡ b
second-behind b x [] h = absurd (omega arith)
second-behind b x (c ∷ cs) h = refl

later-behind : (b x : Bound) (cs : List Bound) (i : ℕ) → get_or (behind_first b cs) (suc (suc i)) x ≡ get_or cs (suc i) x
later-behind b x [] i = refl
later-behind b x (c ∷ cs) i = refl

-- the first of them is the one that was moved
pub moved-it : (bs : List Bound) (k : ℕ) (x : Bound) → k < length bs → get_or (moved_first bs k) 0 x ≡ get_or bs k x
moved-it [] k x h = absurd (omega arith)
moved-it (b ∷ bs) zero x h = refl
moved-it (b ∷ bs) (suc k) x h =
    let many = moved-length bs k in
    first-behind b x (moved_first bs k) (omega (arith, many)) ∙ moved-it bs k x (omega arith)

-- those before it stand one place later
pub moved-before : (bs : List Bound) (k i : ℕ) (x : Bound) → k < length bs → i < k → get_or (moved_first bs k) (suc i) x ≡ get_or bs i x
moved-before [] k i x h l = absurd (omega arith)
moved-before (b ∷ bs) zero i x h l = absurd (omega arith)
moved-before (b ∷ bs) (suc k) zero x h l = let many = moved-length bs k in second-behind b x (moved_first bs k) (omega (arith, many))
moved-before (b ∷ bs) (suc k) (suc i) x h l = later-behind b x (moved_first bs k) i ∙ moved-before bs k i x (omega arith) (omega arith)

-- those after it where they stood
pub moved-after : (bs : List Bound) (k i : ℕ) (x : Bound) → k ≤ i → get_or (moved_first bs k) (suc i) x ≡ get_or bs (suc i) x
moved-after [] k i x l = refl
moved-after (b ∷ bs) zero i x l = refl
moved-after (b ∷ bs) (suc k) zero x l = absurd (omega arith)
moved-after (b ∷ bs) (suc k) (suc i) x l = later-behind b x (moved_first bs k) i ∙ moved-after bs k i x (omega arith)

-- ---- the bound at a place of this order, where it stands among the operator's

module _ (a : Arranged) (bs : List Bound) (same : bs ≡ a.operator.now.bounds) (j : ℕ) (b : Bound) (h : j < bound_count a) where
  inside : a.first < length a.operator.now.bounds
  inside = let many = moved-length a.operator.now.bounds a.first in a.within (omega (arith, many, h))

  pub at-first : j ≡ 0 → b ≡ get_or bs a.first b → b ≡ get_or (arranged a).bounds j b
  at-first z q = q ∙ (ap (λ (xs : List Bound). get_or xs a.first b) same ∙
      (sym (moved-it a.operator.now.bounds a.first b inside) ∙ ap (λ (i : ℕ). get_or (arranged a).bounds i b) (sym z)))

  pub at-before : 0 < j → j ≤ a.first → b ≡ get_or bs (j - 1) b → b ≡ get_or (arranged a).bounds j b
  at-before p l q =
      let next : suc (j - 1) ≡ j = omega (arith, p) in
      q ∙ (ap (λ (xs : List Bound). get_or xs (j - 1) b) same ∙ (sym (moved-before a.operator.now.bounds a.first (j - 1) b inside
      (omega (arith, p, l))) ∙ ap (λ (i : ℕ). get_or (arranged a).bounds i b) next))

  pub at-after : a.first < j → b ≡ get_or bs j b → b ≡ get_or (arranged a).bounds j b
  at-after l q =
      let next : suc (j - 1) ≡ j = omega (arith, l) in
      q ∙ (ap (λ (xs : List Bound). get_or xs j b) same ∙ (ap (λ (i : ℕ). get_or a.operator.now.bounds i b) (sym next) ∙
      (sym (moved-after a.operator.now.bounds a.first (j - 1) b (omega (arith, l))) ∙
      ap (λ (i : ℕ). get_or (arranged a).bounds i b) next)))

pub arranged-same : (a : Arranged) → HaveSame a.operator.now.bounds (arranged a).bounds
arranged-same a = have-same a.operator.now.bounds a.first

-- ---- what an operator keeps

any-in : (s : Var) (bs : List Bound) (b : Bound) → Among b bs → stands_in s b ≡ true → list_any (stands_in s) bs ≡ true
any-in s [] b m h = absurd m
any-in s (c ∷ bs) b m h = elim m [
  | inl e ↦ ap (λ x. x || list_any (stands_in s) bs) (ap (stands_in s) e ∙ h)
  | inr n ↦ ap (λ x. stands_in s c || x) (any-in s bs b n h) ∙ or-true (stands_in s c)
]
  where
    or-true : (x : Bool) → (x || true) ≡ true
    or-true true = refl
    or-true false = refl

any-out : (s : Var) (bs : List Bound) → list_any (stands_in s) bs ≡ true → (b : Bound) × Among b bs × (stands_in s b ≡ true)
any-out s [] h = absurd (true≢false (sym h))
any-out s (c ∷ bs) h = (elim (stands_in s c) as (λ x. stands_in s c ≡ x → (x || list_any (stands_in s) bs) ≡ true → (b : Bound) ×
    Among b (c ∷ bs) × (stands_in s b ≡ true)) [
      | true ↦ λ e k. (c, inl refl, e)
      | false ↦ λ e k. let w = any-out s bs k in (w.0, inr w.1, w.2)
    ]) refl h

any-with : (s : Var) (bs cs : List Bound) → HaveSame bs cs → list_any (stands_in s) bs ≡ true → list_any (stands_in s) cs ≡ true
any-with s bs cs same h = let w = any-out s bs h in any-in s cs w.0 ((same w.0).1 w.1) w.2

bounded-with : (bs cs : List Bound) (ss : List Var) → HaveSame bs cs → Each (λ s. IsTrue (list_any (stands_in s) bs)) ss →
    Each (λ s. IsTrue (list_any (stands_in s) cs)) ss
bounded-with bs cs [] same h = tt
bounded-with bs cs (s ∷ ss) same h = (any-with s bs cs same h.0, bounded-with bs cs ss same h.1)

each-with : (P : Bound → Type 0) (bs cs : List Bound) → HaveSame bs cs → Each P bs → Each P cs
each-with P bs cs same h = (Each-Among P cs).1 (λ b m. (Each-Among P bs).0 h b ((same b).0 m))

pub keeps-with : (g : Signature) (n : ℕ) (o : Operator) (bs : List Bound) → HaveSame o.bounds bs → OperatorKeeps g n o →
    OperatorKeeps g n (with_bounds o bs)
keeps-with g n o bs same k = record {
  name = k.name;
  params = k.params;
  bounded = bounded-with o.bounds bs o.params same k.bounded;
  bounds_scope = each-with (λ b. InScope (slots_of o.params) (bound_slots b)) o.bounds bs same k.bounds_scope;
  bounds_fit = each-with (BoundFits g) o.bounds bs same k.bounds_fit;
  bounds_named = each-with (BoundIsNamed n) o.bounds bs same k.bounds_named;
  state = k.state;
  scope = k.scope;
  fits = k.fits;
  named = k.named;
  effects_state = k.effects_state;
  effects_scope = k.effects_scope;
  effects_fit = k.effects_fit;
  effects_named = k.effects_named;
}

-- what it keeps in the order in which its bounds are joined
pub arranged-keeps : (g : Signature) (n : ℕ) (a : Arranged) → OperatorKeeps g n a.operator.now → OperatorKeeps g n (arranged a)
arranged-keeps g n a k = keeps-with g n a.operator.now (arranged a).bounds (arranged-same a) k

-- ---- its rows

module _ (p : PlainProblem) (w : World) (o : Operator) (bs : List Bound) (same : HaveSame o.bounds bs) (e : Assignment) where
  back : (t : List Value) → IsCompletion p w (plain_operator (with_bounds o bs)) [] bs e t →
      IsCompletion p w (plain_operator o) [] o.bounds e t
  back t h = record {
    arity = h.arity;
    agrees = h.agrees;
    bounds = each-with (λ b. bound_true (situation_of p w) (row_assignment (plain_operator o) t) b ≡ true) bs o.bounds
        (λ b. ((same b).1, (same b).0)) h.bounds;
  }

  there : (t : List Value) → IsCompletion p w (plain_operator o) [] o.bounds e t →
      IsCompletion p w (plain_operator (with_bounds o bs)) [] bs e t
  there t h = record {
    arity = h.arity;
    agrees = h.agrees;
    bounds = each-with (λ b. bound_true (situation_of p w) (row_assignment (plain_operator o) t) b ≡ true) o.bounds bs same h.bounds;
  }

  pub rows-with : (rows : List (List Value)) → AreRowsOf p w (plain_operator (with_bounds o bs)) e rows →
      AreRowsOf p w (plain_operator o) e rows
  rows-with rows h = record {
    all = λ t. (
      λ m. let f = (h.all t).0 m in record { completes = back t f.completes; prepared = f.prepared },
      λ f. (h.all t).1 (record { completes = there t f.completes; prepared = f.prepared }),
    );
    order = h.order;
  }

  pub fault-with : (x : EvalFault) → IsRowFault p w (plain_operator (with_bounds o bs)) [] bs e x →
      IsRowFault p w (plain_operator o) [] o.bounds e x
  fault-with (fault.Range note) h = (h.0, back h.0 h.1, h.2)
  fault-with fault.NoMemory h = tt
