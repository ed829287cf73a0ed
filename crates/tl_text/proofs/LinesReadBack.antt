-- The lines of actions as the forms of a plan file.
use Rattle.std.proofs.Common.{◌≡◌, ℕ, ◌+◌, ◌≤◌, List, [], ◌∷◌, length, map, refl, sym, subst, add-zero, length-append, lt-ltb, arith}
use Rattle.tl_sexpr.specs.Spelling.{IsGap, IsItem, AreItems, Spells}
use Rattle.tl_sexpr.specs.Tree.{FormTrees, no_form, more_forms}
use Rattle.tl_sexpr.proofs.Spelled.{no_gap, gap_of_blank, gaps_join}
use Rattle.tl_syntax.specs.declared.action.Action.{Action}
use Rattle.tl_syntax.specs.declared.operator.Operator.{Operator}
use Rattle.tl_syntax.specs.Lists.{Each}
use Rattle.tl_syntax.specs.Settled.{Differ}
use Rattle.tl_syntax.specs.Texts.{AreDistinct}
use Rattle.tl_line.specs.ActionTexts.{action_text}
use Rattle.tl_line.specs.WritableActions.{IsWritable}
use Rattle.tl_line.proofs.Pieces.{Has, has-all, has-front, has-back, has-first, HasNoComment, clean-both, clean-none, clean-more}
use Rattle.tl_line.proofs.WrittenForms.{action_form, apart}
use Rattle.tl_line.proofs.ReadBack.{form-item, form-breaks, form-meant, clean-text}
use Rattle.tl_line.specs.ActionLists.{actions_breaks}
use Rattle.tl_text.specs.MeaningOfPlans.{plan_meant}
use Rattle.tl_line.specs.AnswerLines.{action_lines}
use Rattle.tl_text.specs.LawsReadBack.{AreReadAsPlan}

-- the forms of actions on lines of their own, from this offset on
abbrev pub lines_forms : List (List ℕ) → List Operator → List Action → ℕ → FormTrees
lines_forms names operators [] at = no_form
lines_forms names operators (a ∷ plan) at = more_forms (action_form names operators a at)
    (lines_forms names operators plan (at + length (action_text names operators a) + 1))

-- items with a longer gap before them
pub items-later : (bytes : List ℕ) (around from mid to : ℕ) (fs : FormTrees) → IsGap bytes from mid → AreItems bytes around mid to fs →
    AreItems bytes around from to fs
unfolding IsItem AreItems
items-later bytes around from mid to no_form gap h = gaps_join bytes from mid to gap h
items-later bytes around from mid to (more_forms f fs) gap h = (h.0, h.1, gaps_join bytes from mid h.0 gap h.2, h.3, h.4)

lines-items : (names : List (List ℕ)) (operators : List Operator) (bytes : List ℕ) (from : ℕ) (plan : List Action) → HasNoComment bytes →
    Each (IsWritable names operators) plan → Has bytes from (action_lines names operators plan) →
    AreItems bytes 0 from (from + length (action_lines names operators plan)) (lines_forms names operators plan from)
unfolding IsItem AreItems
lines-items names operators bytes from [] clean w h = let G : ℕ → Type 0 = λ to. IsGap bytes from to in
    subst G (sym (add-zero from)) (no_gap bytes from)
lines-items names operators bytes from (a ∷ plan) clean w h =
    let text = action_text names operators a in
    let rest = action_lines names operators plan in
    let end = from + length text in
    let after : Has bytes end (10 ∷ rest) = has-back bytes from text (10 ∷ rest) h in
    let later : Has bytes (end + 1) rest = has-back bytes end (10 ∷ []) rest after in
    let blank = has-first bytes end (10 ∷ rest) (omega arith) after in
    let long = length-append text (10 ∷ rest) in
    let last : end + 1 + length rest ≡ from + length (action_lines names operators (a ∷ plan)) = omega arith in
    let I : ℕ → Type 0 = λ to. AreItems bytes 0 (end + 1) to (lines_forms names operators plan (end + 1)) in (
      from,
      end,
      no_gap bytes from,
      form-item names operators bytes from a clean w.0 (has-front bytes from text (10 ∷ rest) h),
      items-later bytes 0 end (end + 1) (from + length (action_lines names operators (a ∷ plan)))
          (lines_forms names operators plan (end + 1)) (gap_of_blank bytes end (rw blank refl))
          (subst I last (lines-items names operators bytes (end + 1) plan clean w.1 later)),
    )

clean-lines : (names : List (List ℕ)) (operators : List Operator) (plan : List Action) → Each (IsWritable names operators) plan →
    HasNoComment (action_lines names operators plan)
clean-lines names operators [] w = clean-none
clean-lines names operators (a ∷ plan) w =
    let rest = action_lines names operators plan in
    clean-both (action_text names operators a) (10 ∷ rest) (clean-text names operators a w.0)
    (clean-more 10 rest (λ e. apart 10 e refl) (clean-lines names operators plan w.1))

pub lines-breaks : (names : List (List ℕ)) (operators : List Operator) (before : ℕ) (plan : List Action) (at : ℕ) → AreDistinct names →
    Differ (map (λ o. o.name) operators) → Each (IsWritable names operators) plan → before + length plan ≤ 100000 →
    actions_breaks names operators before (lines_forms names operators plan at) ≡ []
lines-breaks names operators before [] at distinct differ w few = refl
lines-breaks names operators before (a ∷ plan) at distinct differ w few =
    let within = lt-ltb before 100000 (omega arith) in
    rw (
      within,
      form-breaks names operators a at distinct differ w.0,
      lines-breaks names operators (before + 1) plan
          (at + length (action_text names operators a) + 1) distinct differ w.1 (omega arith),
    ) refl

pub lines-meant : (names : List (List ℕ)) (operators : List Operator) (plan : List Action) (at : ℕ) → AreDistinct names →
    Differ (map (λ o. o.name) operators) → Each (IsWritable names operators) plan →
    plan_meant names operators (lines_forms names operators plan at) ≡ plan
lines-meant names operators [] at distinct differ w = refl
lines-meant names operators (a ∷ plan) at distinct differ w =
    rw (
      form-meant names operators a at distinct differ w.0,
      lines-meant names operators plan
          (at + length (action_text names operators a) + 1) distinct differ w.1,
    ) refl

pub lines-spelled : (names : List (List ℕ)) (operators : List Operator) (plan : List Action) → Each (IsWritable names operators) plan →
    Spells (action_lines names operators plan) (lines_forms names operators plan 0)
lines-spelled names operators plan w =
    let lines = action_lines names operators plan in
    let last : 0 + length lines ≡ length lines = omega arith in
    let I : ℕ → Type 0 = λ to. AreItems lines 0 0 to (lines_forms names operators plan 0) in
    subst I last (lines-items names operators lines 0 plan (clean-lines names operators plan w) w (has-all lines))

pub lines-read-back : (names : List (List ℕ)) (operators : List Operator) (plan : List Action) → AreDistinct names →
    Differ (map (λ o. o.name) operators) → Each (IsWritable names operators) plan → length plan ≤ 100000 →
    AreReadAsPlan names operators (action_lines names operators plan) plan
lines-read-back names operators plan distinct differ w few =
    record {
      forms = lines_forms names operators plan 0;
      spelled = lines-spelled names operators plan w;
      unbroken = lines-breaks names operators 0 plan 0 distinct differ w (omega arith);
      meant = lines-meant names operators plan 0 distinct differ w;
    }
