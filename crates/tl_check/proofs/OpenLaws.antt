-- The labels of a part that is asked for where the parts before it leave the whole part.
use Rattle.std.proofs.Common.{◌≡◌, ◌≤◌, ◌<◌, ◌+◌, ◌-◌, inl, inr, ℕ, zero, suc, List, [], ◌∷◌, map, length, get_or, Bool, true, false, not}
use Rattle.std.proofs.Common.{Err, Option, Some, None, IfSome, IfNone, refl, sym, ap, ◌∙◌, ◌⊎◌, arith, drop, subst}
use Rattle.std.proofs.lemmas.Bool.{cases_lt}
use Rattle.std.proofs.lemmas.List.{ext_get_or}
use Rattle.tl_check.proofs.PickedLaws.{joined-length, joined-at, placed-length, placed-in}
use Rattle.tl_check.proofs.SpanLaws.{marks_in-length, marks_in-at}
use Rattle.tl_action.specs.declared.check_fault.CheckFault.{CheckFault}
use Rattle.tl_action.specs.declared.check_fault.CheckFault.TheVariants as fault
use Rattle.tl_check.specs.Ahead.{Ahead, Course}
use Rattle.tl_check.specs.Labelled.{AreLabels, JoinsPart}
use Rattle.tl_check.specs.Passes.{joins, joined_labels}
use Rattle.tl_check.specs.Picked.{placed_labels}
use Rattle.tl_check.specs.Spans.{AreDecided, IsHull, IsOpen, IsWithin, marks_in}
use Rattle.tl_check.specs.declared.span.Span.{Span}
use Rattle.tl_syntax.specs.declared.junction.Junction.{Junction}
use Rattle.tl_syntax.specs.declared.junction.Junction.TheVariants.{All, Any}
use Rattle.tl_syntax.specs.Junctions.{deciding_truth}
use Rattle.tl_syntax.specs.Assignment.{Assignment}
use Rattle.tl_syntax.specs.Trees.{FormulaTree}
use Rattle.tl_terms.specs.World.{World}

joins-decided : (j : Junction) (b c : Bool) → b ≡ deciding_truth j → joins j b c ≡ b
joins-decided All b c q = ap (λ (x : Bool). joins All x c) q ∙ sym q
joins-decided Any b c q = ap (λ (x : Bool). joins Any x c) q ∙ sym q

-- what is noted of the part
pub part-noted : (p : Course) (ws : List World) (span : Span) (e : Assignment) (j : Junction) (f : FormulaTree) (old new : List Bool)
    (y : CheckFault) → JoinsPart p ws span e j f old new (Err y) → AreLabels p ws span e f (Err y)
part-noted p ws span e j f old new (fault.Range k n) h = h
part-noted p ws span e j f old new fault.NoMemory h = tt

-- where all is decided, nothing is added
pub decided-joined : (j : Junction) (bs cs : List Bool) → length bs ≡ length cs → AreDecided j bs → bs ≡ joined_labels j bs cs
decided-joined j bs cs size all =
    ext_get_or false bs (joined_labels j bs cs) (sym (joined-length j bs cs size))
    (λ k h. sym (joined-at j bs cs k size h ∙ joins-decided j (get_or bs k false) (get_or cs k false) (all k h)))

module _ (j : Junction) (bs : List Bool) (t : Ahead) (ws : List World) (span inner : Span) (within : IsWithin span (length ws))
    (size : span.from + length bs ≡ span.to) where
  pub whole-length : length bs ≡ length (marks_in t ws span)
  whole-length = let order = within.order in omega (arith, size, marks_in-length t ws span within)

  pub decided-part : AreDecided j bs → bs ≡ joined_labels j bs (marks_in t ws span)
  decided-part = decided-joined j bs (marks_in t ws span) whole-length

  module _ (part : IsOpen j bs span inner) where
    pub inner-within : IsWithin inner (length ws)
    inner-within = record {
      order = (let order = part.order in omega arith);
      within = (let to = part.to in let room = within.within in omega arith);
    }

    abbrev at : ℕ
    at = inner.from - span.from

    inner-length : length (marks_in t ws inner) ≡ inner.to - inner.from
    inner-length = marks_in-length t ws inner inner-within

    pub inner-room : at + length (marks_in t ws inner) ≤ length bs
    inner-room = let from = part.from in let order = part.order in let to = part.to in omega (arith, size, inner-length)

    abbrev fill : Bool
    fill = not (deciding_truth j)

    abbrev placed : List Bool
    placed = placed_labels (marks_in t ws inner) at (length bs) fill

    placed-size : length bs ≡ length placed
    placed-size = sym (placed-length (marks_in t ws inner) at (length bs) fill inner-room)

    same-at : (k : ℕ) → k < length bs → get_or bs k false ≡ deciding_truth j → get_or (joined_labels j bs placed) k false ≡
        get_or (joined_labels j bs (marks_in t ws span)) k false
    same-at k h q =
        (joined-at j bs placed k placed-size h ∙ joins-decided j (get_or bs k false) (get_or placed k false) q)
        ∙ sym (joined-at j bs (marks_in t ws span) k whole-length h ∙ joins-decided j (get_or bs k false)
        (get_or (marks_in t ws span) k false) q)

    inside-at : (k : ℕ) → k < length bs → at ≤ k → k < at + length (marks_in t ws inner) → get_or (joined_labels j bs placed) k false ≡
        get_or (joined_labels j bs (marks_in t ws span)) k false
    inside-at k h l m =
        let from = part.from in
        let here : get_or placed k false ≡ get_or (marks_in t ws inner) (k - at) false =
        placed-in (marks_in t ws inner) at (length bs) k fill l m in
        let place : inner.from + (k - at) ≡ span.from + k = omega arith in
        let same : get_or placed k false ≡ get_or (marks_in t ws span) k false =
        here ∙ (marks_in-at t ws inner inner-within (k - at) false (omega (arith, inner-length))
        ∙ (ap (λ (i : ℕ). t (drop i ws)) place ∙ sym (marks_in-at t ws span within k false (omega (arith, size))))) in
        joined-at j bs placed k placed-size h
        ∙ (ap (joins j (get_or bs k false)) same ∙ sym (joined-at j bs (marks_in t ws span) k whole-length h))

    pub open-joined : joined_labels j bs placed ≡ joined_labels j bs (marks_in t ws span)
    open-joined =
        ext_get_or false (joined_labels j bs placed) (joined_labels j bs (marks_in t ws span))
        (joined-length j bs placed placed-size ∙ sym (joined-length j bs (marks_in t ws span) whole-length))
        (λ k g. let h : k < length bs = omega (arith, g, joined-length j bs placed placed-size) in
        elim (cases_lt k at) [
          | inl l ↦ same-at k h (part.decided k h (inl (let from = part.from in omega arith)))
          | inr l ↦ elim (cases_lt k (at + length (marks_in t ws inner))) [
            | inl m ↦ inside-at k h l m
            | inr m ↦ same-at k h (part.decided k h (inr (let from = part.from in let order = part.order in omega (arith, inner-length))))
          ]
        ])

-- ---- what is open by the labels of the negation

not-at : (bs : List Bool) (k : ℕ) → k < length bs → get_or (map not bs) k false ≡ not (get_or bs k false)
not-at [] k h = absurd (omega arith)
not-at (b ∷ bs) zero h = refl
not-at (b ∷ bs) (suc k) h = not-at bs k (omega arith)

pub not-twice : (bs : List Bool) → map not (map not bs) ≡ bs
not-twice [] = refl
not-twice (true ∷ bs) = ap (λ (us : List Bool). true ∷ us) (not-twice bs)
not-twice (false ∷ bs) = ap (λ (us : List Bool). false ∷ us) (not-twice bs)

true-by : (b : Bool) → not b ≡ false → b ≡ true
true-by true q = refl
true-by false q = sym q

none-decided : (bs cs : List Bool) → cs ≡ map not bs → ((k : ℕ) → get_or cs k false ≡ false) → AreDecided Any bs
none-decided bs cs q none k h = true-by (get_or bs k false) (sym (not-at bs k h) ∙
    (ap (λ (us : List Bool). get_or us k false) (sym q) ∙ none k))

hull-open : (bs cs : List Bool) (span hull : Span) → cs ≡ map not bs → IsHull cs span hull → IsOpen Any bs span hull
hull-open bs cs span hull q h = record {
  from = h.from;
  order = h.order;
  to = h.to;
  decided = λ k l out. by k l out (get_or bs k false) refl;
}
  where
    by : (k : ℕ) → k < length bs → (span.from + k < hull.from) ⊎ (hull.to ≤ span.from + k) → (b : Bool) → get_or bs k false ≡ b →
        get_or bs k false ≡ true
    by k l out true r = r
    by k l out false r =
        let there : get_or cs k false ≡ true = ap (λ (us : List Bool). get_or us k false) q ∙ (not-at bs k l ∙ ap not r) in
        let inside = h.all k there in
        elim out [
          | inl m ↦ absurd (let low = inside.0 in omega arith)
          | inr m ↦ absurd (let high = inside.1 in omega arith)
        ]

pub open-none : (j : Junction) (bs cs : List Bool) (r : Option Span) → j ≡ Any → cs ≡ map not bs →
    IfNone r ((k : ℕ) → get_or cs k false ≡ false) → IfNone r (AreDecided j bs)
open-none j bs cs None e q none = subst (λ (i : Junction). AreDecided i bs) (sym e) (none-decided bs cs q none)
open-none j bs cs (Some x) e q none = none

pub open-some : (j : Junction) (bs cs : List Bool) (span : Span) (r : Option Span) → j ≡ Any → cs ≡ map not bs → IfSome r (IsHull cs span) →
    IfSome r (IsOpen j bs span)
open-some j bs cs span None e q some = some
open-some j bs cs span (Some x) e q some = subst (λ (i : Junction). IsOpen i bs span x) (sym e) (hull-open bs cs span x q some)
