-- The lines of a printed plan as a plan file.
use Rattle.std.proofs.Common.{◌≡◌, ◌≢◌, ℕ, ◌+◌, ◌-◌, ◌<◌, ◌≤◌, List, [], ◌∷◌, ◌++◌, length, map, slice_index, Bool, true, ◌==◌, not}
use Rattle.std.proofs.Common.{FitsSigned, w64, pos, inl, inr, refl, sym, ap, ◌∙◌, subst, append_assoc, length-append, arith}
use Rattle.std.specs.List.{list_all}
use Rattle.std.specs.Prelude.{codes}
use Rattle.std.specs.Fmt.{decimal}
use Rattle.std.proofs.lemmas.Bool.{cases_lt, false≢true}
use Rattle.std.proofs.lemmas.Int.{ints}
use Rattle.std.proofs.lemmas.List.{get_or_append_left, get_or-append_right}
use Rattle.std.proofs.lemmas.List.Folds.{list_all_at}
use Rattle.tl_sexpr.proofs.TokenBytes.{not_that_byte}
use Rattle.tl_sexpr.specs.Spelling.{IsGap, AreItems, Spells}
use Rattle.tl_sexpr.specs.Tree.{FormTrees, symbol, list, more_forms}
use Rattle.tl_syntax.specs.declared.action.Action.{Action}
use Rattle.tl_syntax.specs.declared.operator.Operator.{Operator}
use Rattle.tl_syntax.specs.declared.value.Value.{Value}
use Rattle.tl_syntax.specs.declared.value.Value.TheVariants.{Int, Sym}
use Rattle.tl_syntax.specs.Lists.{Each}
use Rattle.tl_syntax.specs.Settled.{Differ}
use Rattle.tl_syntax.specs.Texts.{AreDistinct}
use Rattle.tl_line.specs.ActionTexts.{operator_text, value_text, action_text}
use Rattle.tl_line.specs.WritableActions.{IsWritable}
use Rattle.tl_line.proofs.Tokens.{IsTokenText, decimal-token}
use Rattle.tl_line.proofs.WrittenForms.{value_form, values_forms, action_form}
use Rattle.tl_text.specs.LawsReadBack.{AreReadAsPlan}
use Rattle.tl_text.specs.Outcomes.{plan_line, plan_text}
use Rattle.tl_line.specs.AnswerLines.{action_lines}
use Rattle.tl_text.proofs.AfterLine.{moved, moved_all, after_line, line_length, items_on, gap_of_line}
use Rattle.tl_text.proofs.LinesReadBack.{items-later, lines_forms, lines-breaks, lines-meant, lines-spelled}

-- the forms of actions some bytes later

moved-value : (n : ℕ) (names : List (List ℕ)) (v : Value) (at : ℕ) → moved n (value_form names v at) ≡ value_form names v (n + at)
moved-value n names (Int z) at = refl
moved-value n names (Sym k) at = refl

moved-values : (n : ℕ) (names : List (List ℕ)) (vs : List Value) (at : ℕ) → moved_all n (values_forms names vs at) ≡
    values_forms names vs (n + at)
moved-values n names [] at = refl
moved-values n names (v ∷ vs) at =
    let long = length (value_text names v) in
    let here : n + (at + 1) ≡ n + at + 1 = omega arith in
    let next : n + (at + 1 + long) ≡ n + at + 1 + long = omega arith in
    let first = moved-value n names v (at + 1) ∙ ap (value_form names v) here in
    let others = moved-values n names vs (at + 1 + long) ∙ ap (values_forms names vs) next in
    λ i. more_forms (first i) (others i)

moved-action : (n : ℕ) (names : List (List ℕ)) (operators : List Operator) (a : Action) (at : ℕ) →
    moved n (action_form names operators a at) ≡ action_form names operators a (n + at)
moved-action n names operators a at =
    let name = operator_text names operators a.op in
    let here : n + (at + 1) ≡ n + at + 1 = omega arith in
    let next : n + (at + 1 + length name) ≡ n + at + 1 + length name = omega arith in
    let args = moved-values n names a.args (at + 1 + length name) ∙ ap (values_forms names a.args) next in
    λ i. list (more_forms (symbol name (here i)) (args i)) (n + at)

moved-lines : (n : ℕ) (names : List (List ℕ)) (operators : List Operator) (plan : List Action) (at : ℕ) →
    moved_all n (lines_forms names operators plan at) ≡ lines_forms names operators plan (n + at)
moved-lines n names operators [] at = refl
moved-lines n names operators (a ∷ plan) at =
    let long = length (action_text names operators a) in
    let next : n + (at + long + 1) ≡ n + at + long + 1 = omega arith in
    let first = moved-action n names operators a at in
    let others = moved-lines n names operators plan (at + long + 1) ∙ ap (lines_forms names operators plan) next in
    λ i. more_forms (first i) (others i)

-- no byte is a line feed
abbrev IsOneLine : List ℕ → Type 0
IsOneLine bytes = (k : ℕ) → k < length bytes → slice_index bytes k ≢ 10

one-line-both : (xs ys : List ℕ) → IsOneLine xs → IsOneLine ys → IsOneLine (xs ++ ys)
one-line-both xs ys first second = λ k lt is.
    elim (cases_lt k (length xs)) [
      | inl early ↦ first k early (sym (get_or_append_left xs ys 0 k early) ∙ is)
      | inr late ↦
          let long = length-append xs ys in
          second (k - length xs) (omega arith) (sym (get_or-append_right xs ys (length xs) k 0 refl late) ∙ is)
    ]

one-line-token : (text : List ℕ) → IsTokenText text → IsOneLine text
one-line-token text t = λ k lt is. not_that_byte (slice_index text k) 10 refl (t.each k lt) is

-- the byte is no line feed
abbrev is_other : ℕ → Bool
is_other c = not (c == 10)

one-line-tested : (bytes : List ℕ) → list_all is_other bytes ≡ true → IsOneLine bytes
one-line-tested bytes all = λ k lt is. false≢true (sym (list_all_at is_other bytes k 0 lt (ap is_other is)) ∙ all)

-- the line that says of how many actions a plan is, without its end
abbrev line_of : ℕ → List ℕ
line_of m = codes "; plan of " ++ (decimal m ++ codes " actions")

line-is : (m : ℕ) → plan_line m ≡ line_of m ++ 10 ∷ []
line-is m = sym (ap (λ (xs : List ℕ). codes "; plan of " ++ xs) (append_assoc (decimal m) (codes " actions") (10 ∷ [])))

one-line : (m : ℕ) → m ≤ 100000 → IsOneLine (line_of m)
one-line m few =
    let fits : FitsSigned w64 (pos m) = omega (arith, ints, few) in
    one-line-both (codes "; plan of ") (decimal m ++ codes " actions") (one-line-tested (codes "; plan of ") refl)
    (one-line-both (decimal m) (codes " actions") (one-line-token (decimal m) (decimal-token (pos m) fits))
    (one-line-tested (codes " actions") refl))

line-gap : (m : ℕ) (bytes : List ℕ) → m ≤ 100000 → IsGap (after_line (line_of m) bytes) 0 (line_length (line_of m))
line-gap m bytes few =
    let long = length-append (line_of m) (10 ∷ []) in
    gap_of_line (line_of m) bytes refl
    (λ k lt is. one-line m few k lt (sym (get_or_append_left (line_of m ++ 10 ∷ []) bytes 0 k (omega arith) ∙
    get_or_append_left (line_of m) (10 ∷ []) 0 k lt) ∙ is))

plan-spelled : (names : List (List ℕ)) (operators : List Operator) (plan : List Action) → Each (IsWritable names operators) plan →
    length plan ≤ 100000 → Spells (after_line (line_of (length plan)) (action_lines names operators plan))
    (lines_forms names operators plan (line_length (line_of (length plan))))
plan-spelled names operators plan w few =
    let line = line_of (length plan) in
    let lines = action_lines names operators plan in
    let all = after_line line lines in
    let n = line_length line in
    let begin : n + 0 ≡ n = omega arith in
    let end : n + length lines ≡ length all = sym (length-append (line ++ 10 ∷ []) lines) in
    let there = items_on line lines 0 0 (length lines) (lines_forms names operators plan 0) (lines-spelled names operators plan w) in
    let forms = moved-lines n names operators plan 0 ∙ ap (lines_forms names operators plan) begin in
    let A : FormTrees → Type 0 = λ fs. AreItems all 0 (n + 0) (n + length lines) fs in
    let B : ℕ → Type 0 = λ from. AreItems all 0 from (n + length lines) (lines_forms names operators plan n) in
    let C : ℕ → Type 0 = λ to. AreItems all 0 n to (lines_forms names operators plan n) in
    items-later all 0 0 n (length all) (lines_forms names operators plan n) (line-gap (length plan) lines few)
    (subst C end (subst B begin (subst A forms there)))

pub plan-read-back : (names : List (List ℕ)) (operators : List Operator) (plan : List Action) → AreDistinct names →
    Differ (map (λ o. o.name) operators) → Each (IsWritable names operators) plan → length plan ≤ 100000 →
    AreReadAsPlan names operators (plan_text names operators plan) plan
plan-read-back names operators plan distinct differ w few =
    let line = line_of (length plan) in
    let lines = action_lines names operators plan in
    let n = line_length line in
    let T : List ℕ → Type 0 = λ bytes. Spells bytes (lines_forms names operators plan n) in
    record {
      forms = lines_forms names operators plan n;
      spelled = subst T (sym (ap (λ (xs : List ℕ). xs ++ lines) (line-is (length plan)))) (plan-spelled names operators plan w few);
      unbroken = lines-breaks names operators 0 plan n distinct differ w (omega arith);
      meant = lines-meant names operators plan n distinct differ w;
    }
