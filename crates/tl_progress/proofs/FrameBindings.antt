-- The values of a frame as bindings.
use Rattle.std.proofs.Common.{◌≡◌, ◌<◌, ◌≤◌, ◌+◌, ℕ, List, [], ◌∷◌, ◌++◌, true, false, cond, ◌==◌, get_or, length, Option, Some, None}
use Rattle.std.proofs.Common.{is_some, refl, sym, ap, ◌∙◌, subst, arith}
use mathlib.Core.Path.{fun_ext}
use native.Mathlib.Decide.{dec_lt}
use borrow.Author.Tests.{eq-eqb, ne_eqb}
use Rattle.std.proofs.lemmas.Option.{slice_get_past, slice_get-get_or}
use Rattle.tl_eval.specs.Frames.{slot_value, assignment_in}
use Rattle.tl_progress.specs.FrameValues.{with_slot, BindsBefore}
use Rattle.tl_syntax.specs.declared.substitution.Binding.{Binding}
use Rattle.tl_syntax.specs.declared.value.Value.{Value}
use Rattle.tl_syntax.specs.Bindings.{assignment_of}
use Rattle.tl_syntax.specs.Lists.{Each}
use Rattle.tl_syntax.specs.Substitution.{or_else}
use Rattle.tl_syntax.proofs.ListLaws.{Each-append}

appended : (bs : List Binding) (b : Binding) (q : ℕ) → Each (λ x. is_some x.value ≡ true) bs → assignment_of (bs ++ b ∷ []) q ≡
    or_else (assignment_of bs q) (cond (q == b.slot) b.value None)
appended [] b q h = refl
appended (x ∷ bs) b q h = (elim (q == x.slot) as (λ t. cond t x.value (assignment_of (bs ++ b ∷ []) q) ≡
    or_else (cond t x.value (assignment_of bs q)) (cond (q == b.slot) b.value None)) [
      | true ↦ known x.value h.0
      | false ↦ appended bs b q h.1
    ])
  where
    known : (o : Option Value) → is_some o ≡ true → o ≡ or_else o (cond (q == b.slot) b.value None)
    known (Some v) k = refl
    known None k = absurd (let z : ⊥ = cc in z)

pub binds-none : (frame : List (Option Value)) (bs : List Binding) → bs ≡ [] → BindsBefore 0 frame bs
binds-none frame bs e = subst (BindsBefore 0 frame) (sym e) (record { set = tt; values = λ q h. absurd (omega arith); rest = λ q h. refl })

or-none : (o : Option Value) → or_else o None ≡ o
or-none (Some v) = refl
or-none None = refl

module _ (n : ℕ) (frame : List (Option Value)) (bs : List Binding) (was : BindsBefore n frame bs) where
  -- the next slot has no value
  pub binds-past : assignment_in frame n ≡ None → BindsBefore (n + 1) frame bs
  binds-past none = record {
    set = was.set;
    values = λ q h. elim (dec_lt q n) [
      | yes l ↦ was.values q l
      | no l ↦ let same : n ≡ q = omega arith in was.rest q (omega arith) ∙ subst (λ k. None ≡ assignment_in frame k) same (sym none)
    ];
    rest = λ q h. was.rest q (omega arith);
  }

  -- the next slot has this value
  pub binds-more : (v : Value) → assignment_in frame n ≡ Some v → (b : Binding) → b.slot ≡ n → b.value ≡ Some v → (cs : List Binding) → cs ≡
      bs ++ b ∷ [] → BindsBefore (n + 1) frame cs
  binds-more v is b slot value cs e = subst (BindsBefore (n + 1) frame) (sym e) (record {
    set = (Each-append (λ x. is_some x.value ≡ true) bs (b ∷ [])).1 (was.set, (ap is_some value, tt));
    values = λ q h. elim (dec_lt q n) [
      | yes l ↦ other q (λ k. absurd (omega arith)) ∙ was.values q l
      | no l ↦ let same : q ≡ n = omega arith in subst (λ k. assignment_of (bs ++ b ∷ []) k ≡ assignment_in frame k) (sym same) here
    ];
    rest = λ q h. other q (λ k. absurd (omega arith)) ∙ was.rest q (omega arith);
  })
    where
      other : (q : ℕ) → (q ≡ n → ⊥) → assignment_of (bs ++ b ∷ []) q ≡ assignment_of bs q
      other q h =
          let not_here : (q == b.slot) ≡ false = ne_eqb q b.slot (λ k. h (k ∙ slot)) in
          appended bs b q was.set ∙ (ap (λ t. or_else (assignment_of bs q) (cond t b.value None)) not_here ∙ or-none (assignment_of bs q))

      here : assignment_of (bs ++ b ∷ []) n ≡ assignment_in frame n
      here =
          appended bs b n was.set ∙ (ap (λ o. or_else o (cond (n == b.slot) b.value None)) (was.rest n (omega arith))
          ∙ (ap (λ t. cond t b.value None) (eq-eqb n b.slot (sym slot)) ∙ (value ∙ sym is)))

-- the next slot has this value, or none
pub binds-next : (n : ℕ) (frame : List (Option Value)) (bs : List Binding) → BindsBefore n frame bs → (o : Option Value) →
    assignment_in frame n ≡ o → (cs : List Binding) → cs ≡ with_slot bs n o → BindsBefore (n + 1) frame cs
binds-next n frame bs was (Some v) is cs e = binds-more n frame bs was v is (record { slot = n; value = Some v }) refl refl cs e
binds-next n frame bs was None is cs e = subst (BindsBefore (n + 1) frame) (sym e) (binds-past n frame bs was is)

pub slot-is : (frame : List (Option Value)) (n : ℕ) (d o : Option Value) → n < length frame → get_or frame n d ≡ o → assignment_in frame n ≡
    o
slot-is frame n d o h e = ap slot_value (slice_get-get_or frame n d h) ∙ e

pub binds-all : (n : ℕ) (frame : List (Option Value)) (bs : List Binding) → BindsBefore n frame bs → length frame ≤ n → assignment_of bs ≡
    assignment_in frame
binds-all n frame bs was h = fun_ext (λ q. elim (dec_lt q n) [
  | yes l ↦ was.values q l
  | no l ↦ was.rest q (omega arith) ∙ sym (ap slot_value (slice_get_past frame q (omega arith)))
])
