-- The last item of a list.
use Rattle.std.proofs.Common.{Result, Ok, Err, OnOk, IfOk, IfErr, Bool, true, false, not, cond, ◌≡◌, ◌<◌, ◌+◌, ℕ, zero, suc, List, [], ◌∷◌}
use Rattle.std.proofs.Common.{◌++◌, length, take, slice_index_or, slice_set, Some, refl, sym, ap, ◌∙◌, subst, arith, length-append}
use Rattle.std.specs.List.{slice_get}
use Rattle.tl_syntax.specs.Lists.{Each}
use Rattle.tl_syntax.specs.declared.action.Action.{Action}
use Rattle.tl_search.specs.declared.arrival.Arrival.{Arrival}
use Rattle.tl_search.specs.declared.arrival.Arrival.TheVariants as arrival
use Rattle.tl_search.specs.Events.{event_of, events_after}
use Rattle.tl_search.specs.declared.event.Event.{Event}
use Rattle.tl_eval.specs.declared.range.RangeNote.{RangeNote}
use Rattle.tl_search.specs.declared.fault.SearchFault.{SearchFault}
use Rattle.tl_search.specs.declared.fault.SearchFault.TheVariants as fault
use Rattle.tl_search.specs.Faults.{IsFaultAfter}
use Rattle.tl_depth.specs.Stacks.{IsEventOf, IsToldOf}
use Rattle.tl_depth.specs.Levels.{stepped}
use Rattle.tl_depth.specs.declared.level.Level.{Level}

pub set-last : {A : Type 0} (xs : List A) (x y : A) (i : ℕ) → i ≡ length xs → slice_set (xs ++ x ∷ []) i y ≡ xs ++ y ∷ []
set-last [] x y zero e = refl
set-last [] x y (suc i) e = absurd (omega arith)
set-last (z ∷ xs) x y zero e = absurd (omega arith)
set-last (z ∷ xs) x y (suc i) e = ap (λ us. z ∷ us) (set-last xs x y i (omega arith))

pub index-last : {A : Type 0} (xs : List A) (x d : A) (i : ℕ) → i ≡ length xs → slice_index_or (xs ++ x ∷ []) i d ≡ x
index-last [] x d zero e = refl
index-last [] x d (suc i) e = absurd (omega arith)
index-last (z ∷ xs) x d zero e = absurd (omega arith)
index-last (z ∷ xs) x d (suc i) e = index-last xs x d i (omega arith)

pub last-same : {A : Type 0} (us vs : List A) (u v : A) → us ++ u ∷ [] ≡ vs ++ v ∷ [] → (us ≡ vs) × (u ≡ v)
last-same [] [] u v q = (refl, let h : u ≡ v = cc in h)
last-same [] (y ∷ []) u v q = cc
last-same [] (y ∷ z ∷ vs) u v q = cc
last-same (y ∷ []) [] u v q = cc
last-same (y ∷ z ∷ us) [] u v q = cc
last-same {A = A} (y ∷ us) (z ∷ vs) u v q = let h : y ≡ z = cc in let k =
    last-same us vs u v (let m : us ++ u ∷ [] ≡ vs ++ v ∷ [] = cc in m) in (cc (h, k.0), k.1)

pub each-last : {A : Type 0} (P : A → Type 0) (xs : List A) (y : A) → Each P (xs ++ y ∷ []) → P y
each-last P [] y h = h.0
each-last P (x ∷ xs) y h = each-last P xs y h.1

pub get-at : {A : Type 0} (xs : List A) (i : ℕ) (d : A) → i < length xs → slice_get xs i ≡ Some (slice_index_or xs i d)
get-at [] i d l = absurd (omega arith)
get-at (x ∷ xs) zero d l = refl
get-at (x ∷ xs) (suc i) d l = get-at xs i d (omega arith)

pub take-front : {A : Type 0} (xs : List A) (x : A) (i : ℕ) → i ≡ length xs → take i (xs ++ x ∷ []) ≡ xs
take-front [] x zero e = refl
take-front [] x (suc i) e = absurd (omega arith)
take-front (y ∷ xs) x zero e = absurd (omega arith)
take-front (y ∷ xs) x (suc i) e = ap (λ us. y ∷ us) (take-front xs x i (omega arith))

-- what is read at the last place is the last level
pub at-end : (levels front : List Level) (d now : Level) (i : ℕ) → levels ≡ front ++ d ∷ [] → suc i ≡ length levels → now ≡
    slice_index_or levels i now → now ≡ d
at-end levels front d now i e l n = n ∙ (ap (λ us. slice_index_or us i now) e ∙
    index-last front d now i (omega (arith, l, ap length e, length-append front (d ∷ []))))

-- and what is written there stands in its place
pub bumped : (levels front : List Level) (d now : Level) (i : ℕ) → levels ≡ front ++ d ∷ [] → suc i ≡ length levels → now ≡
    slice_index_or levels i now
    → slice_set levels i (record { at = now.at; left = now.left; actions = now.actions; tried = now.tried + 1 }) ≡ front ++ stepped d ∷ []
bumped levels front d now i e l n =
    ap (λ us. slice_set us i (stepped now)) e
    ∙ (set-last front d (stepped now) i (omega (arith, l, ap length e, length-append front (d ∷ [])))
    ∙ ap (λ c. front ++ stepped c ∷ []) (at-end levels front d now i e l n))

-- the front of levels of which the last was taken
pub left-front : (levels front rest : List Level) (d : Level) (i : ℕ) → levels ≡ front ++ d ∷ [] → suc i ≡ length levels → rest ≡
    take i levels → rest ≡ front
left-front levels front rest d i e l r = r ∙ (ap (λ us. take i us) e ∙
    take-front front d i (omega (arith, l, ap length e, length-append front (d ∷ []))))

-- the last of a list that has an item
pub last-of : {A : Type 0} (xs : List A) → 0 < length xs → (front : List A) × (x : A) × (xs ≡ front ++ x ∷ [])
last-of [] l = absurd (omega arith)
last-of (x ∷ []) l = ([], x, refl)
last-of (x ∷ y ∷ xs) l = let w = last-of (y ∷ xs) (omega arith) in (x ∷ w.0, w.1, ap (λ us. x ∷ us) w.2)

pub some-length : {A : Type 0} (xs front : List A) (x : A) → xs ≡ front ++ x ∷ [] → length xs ≡ suc (length front)
some-length xs front x e = omega (arith, ap length e, length-append front (x ∷ []))

-- the event of an arrival is of its action
pub event-is : (at : ℕ) (a : Action) (r : Arrival) → IsEventOf at a (event_of at a r)
event-is at a arrival.Pruned = (refl, refl)
event-is at a (arrival.Seen k) = (refl, refl)
event-is at a (arrival.Fresh k) = (refl, refl)

-- an event is told of the last level's next action
pub told-of : (watch : Bool) (before after : List Event) (c : Level) (a : Action) (r : Arrival) → slice_get c.actions c.tried ≡ Some a →
    after ≡ events_after watch before (event_of c.at a r) → IsToldOf watch before after c
told-of false before after c a r q e = e
told-of true before after c a r q e = (
  event_of c.at a r,
  e,
  λ b h. (let m : Some a ≡ Some b = sym q ∙ h in let k : a ≡ b = cc in
      subst (λ u. IsEventOf c.at u (event_of c.at a r)) k (event-is c.at a r)),
)

pub report_arrival-is : (watch : Bool) (before after : List Event) (d now : Level) (u a : Action) (r : Arrival) → now ≡ d →
    slice_get d.actions d.tried ≡ Some u → slice_get d.actions d.tried ≡ Some a → after ≡ events_after watch before (event_of now.at u r) →
    after ≡ events_after watch before (event_of d.at a r)
report_arrival-is watch before after d now u a r n p q e =
    let m : Some u ≡ Some a = sym p ∙ q in
    let k : u ≡ a = cc in
    e ∙ (ap (λ (l : Level). events_after watch before (event_of l.at u r)) n ∙ ap (λ v. events_after watch before (event_of d.at v r)) k)

-- ---- results

pub on-ok : {A E : Type 0} (r : Result A E) (P Q : Type 0) → OnOk r P → (P → Q) → OnOk r Q
on-ok (Ok x) P Q h f = f h
on-ok (Err e) P Q h f = tt

pub on-ok-any : {A E : Type 0} (r : Result A E) (Q : Type 0) → Q → OnOk r Q
on-ok-any (Ok x) Q q = q
on-ok-any (Err e) Q q = tt

pub if-err : {A E : Type 0} (r : Result A E) (P Q : E → Type 0) → IfErr r P → ((e : E) → P e → Q e) → IfErr r Q
if-err (Ok x) P Q h f = tt
if-err (Err e) P Q h f = f e h

-- what was added, where it was
pub pushed : {A : Type 0} (ok err : Bool) (old new : List A) (x : A) → new ≡ cond ok (old ++ x ∷ []) old → ok ≡ not err → err ≡ false →
    new ≡ old ++ x ∷ []
pushed ok err old new x e h f = e ∙ ap (λ b. cond b (old ++ x ∷ []) old) (h ∙ ap not f)

-- what holds of want of memory, and of past range after the path, holds of the fault
pub range-holds : (P : SearchFault → Type 0) (at : List Action) (note : RangeNote) (f : SearchFault) → IsFaultAfter at note f →
    P fault.NoMemory → ((path : List Action) → path ≡ at → P (fault.Range path note)) → P f
range-holds P at note (fault.Range path told) h none k = subst (λ z. P (fault.Range path z)) (sym h.1) (k path h.0)
range-holds P at note fault.NoMemory h none k = none

-- ---- the top level and its next action

pub top-is : (levels read front : List Level) (c now : Level) (i : ℕ) → levels ≡ front ++ c ∷ [] → read ≡ levels → suc i ≡ length levels →
    now ≡ slice_index_or read i now → now ≡ c
top-is levels read front c now i e r l n = at-end levels front c now i e l (n ∙ ap (λ us. slice_index_or us i now) r)

pub action-is : (c now : Level) (us : List Action) (a : Action) → now ≡ c → us ≡ now.actions → a ≡ slice_index_or us now.tried a →
    c.tried < length c.actions → slice_get c.actions c.tried ≡ Some a
action-is c now us a e f n l =
    get-at c.actions c.tried a l
    ∙ ap Some (sym (n ∙ (ap (λ vs. slice_index_or vs now.tried a) f ∙ ap (λ (d : Level). slice_index_or d.actions d.tried a) e)))

pub before-top : (levels read front : List Level) (c : Level) (i : ℕ) → levels ≡ front ++ c ∷ [] → read ≡ levels → suc i ≡ length levels →
    take i read ≡ front
before-top levels read front c i e r l = ap (λ us. take i us) (r ∙ e) ∙
    take-front front c i (omega (arith, l, ap length e, length-append front (c ∷ [])))

pub if-ok : {A E : Type 0} (r : Result A E) (P Q : A → Type 0) → IfOk r P → ((x : A) → P x → Q x) → IfOk r Q
if-ok (Ok x) P Q h f = f x h
if-ok (Err e) P Q h f = tt

pub on-ok-if : {A E : Type 0} (r : Result A E) (P : A → Type 0) (Q : Type 0) → IfOk r P → ((x : A) → P x → Q) → OnOk r Q
on-ok-if (Ok x) P Q h f = f x h
on-ok-if (Err e) P Q h f = tt
