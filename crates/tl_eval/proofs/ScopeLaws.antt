-- Variables that are given values in a frame.
use Rattle.std.proofs.Common.{◌≡◌, ◌<◌, ℕ, zero, suc, List, [], ◌∷◌, ◌++◌, take, drop, length, get_or, cond, ◌==◌, Option, Some, refl, sym}
use Rattle.std.proofs.Common.{ap, ◌∙◌, drop-cons, arith}
use mathlib.Core.Path.{fun_ext}
use Rattle.std.specs.Prelude.{slice_set}
use Rattle.std.proofs.Math.Seq.{take-append_seam}
use Rattle.tl_eval.specs.Frames.{assignment_in}
use Rattle.tl_eval.proofs.FrameLaws.{assignment-set}
use Rattle.tl_syntax.specs.declared.value.Value.{Value}
use Rattle.tl_syntax.specs.declared.variable.Var.{Var}
use Rattle.tl_syntax.specs.Assignment.{Assignment, bind}
use Rattle.tl_syntax.specs.Lists.{Each}

pub front-is : {A : Type 0} (n : ℕ) (xs ys : List A) → length xs ≡ n → take n (xs ++ ys) ≡ xs
front-is n xs ys h = ap (λ (k : ℕ). take k (xs ++ ys)) (sym h) ∙ take-append_seam xs ys

-- what holds of each holds of the one at a position
pub each-at : {A : Type 0} (P : A → Type 0) (xs : List A) (i : ℕ) (d : A) → Each P xs → i < length xs → P (get_or xs i d)
each-at P [] i d h k = absurd (omega arith)
each-at P (x ∷ xs) zero d h k = h.0
each-at P (x ∷ xs) (suc i) d h k = each-at P xs i d h.1 (omega arith)

drop-past-end : {A : Type 0} (xs : List A) → drop (length xs) xs ≡ []
drop-past-end [] = refl
drop-past-end (x ∷ xs) = drop-past-end xs

-- at first no variable has its value
pub put-begun : (vars : List Var) (values : List Value) (frame : List (Option Value)) → assignment_in frame ≡
    bind (drop (length vars) vars) (drop (length vars) values) (assignment_in frame)
put-begun vars values frame = ap (λ (ss : List Var). bind ss (drop (length vars) values) (assignment_in frame)) (sym (drop-past-end vars))

-- one more
pub put-one : (vars : List Var) (values : List Value) (i j : ℕ) (s : Var) (v : Value) (frame : List (Option Value)) (e : Assignment) → j ≡
    suc i → i < length vars → i < length values → (get_or vars i s).slot < length frame
    → assignment_in frame ≡ bind (drop j vars) (drop j values) e
    → assignment_in (slice_set frame (get_or vars i s).slot (Some (get_or values i v))) ≡ bind (drop i vars) (drop i values) e
put-one vars values i j s v frame e q h k room so =
    fun_ext (λ (x : ℕ).
    assignment-set frame (get_or vars i s).slot (Some (get_or values i v)) x room
    ∙ (ap (λ (f : Assignment). cond (x == (get_or vars i s).slot) (Some (get_or values i v)) (f x))
    (so ∙ ap (λ (m : ℕ). bind (drop m vars) (drop m values) e) q)))
    ∙ sym (ap (λ (ss : List Var). bind ss (drop i values) e) (drop-cons vars i s h)
    ∙ ap (λ (vs : List Value). bind (get_or vars i s ∷ drop (suc i) vars) vs e) (drop-cons values i v k))

pub restored : (frames frame new : List (Option Value)) → new ≡ frame → length frame ≡ 32 → take 32 (new ++ drop 32 frames) ≡ frame
restored frames frame new q h = ap (λ (f : List (Option Value)). take 32 (f ++ drop 32 frames)) q ∙ front-is 32 frame (drop 32 frames) h
