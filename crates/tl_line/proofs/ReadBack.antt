-- The forms that the texts of actions spell stand for these actions and break nothing.
use Rattle.std.proofs.Common.{◌≡◌, ℕ, ◌+◌, ◌≤◌, List, [], ◌∷◌, Bool, length, map, true, refl, sym, ap, ◌∙◌, subst, Some, None, arith}
use Rattle.std.proofs.Common.{get_or}
use Rattle.std.specs.Prelude.{Option, ◌==◌, slice_get, unwrap_or}
use Rattle.std.specs.List.{position, position_or_len}
use Rattle.std.proofs.lemmas.Bool.{eqb-true, eq-eqb, false≢true}
use Rattle.std.proofs.lemmas.Bool.Decides.{nat_tests}
use Rattle.std.proofs.lemmas.List.Sums.{fails_before_first}
use Rattle.std.proofs.lemmas.List.Quantifiers.{position-Some}
use Rattle.std.proofs.lemmas.Option.{slice_get-map, slice_get-get_or, slice_get_within, get_or_from_slice_get}
use Rattle.tl_sexpr.specs.Spelling.{IsGap, IsItem, AreItems}
use Rattle.tl_sexpr.proofs.Spelled.{no_gap}
use Rattle.tl_syntax.specs.declared.action.Action.{Action}
use Rattle.tl_syntax.specs.declared.operator.Operator.{Operator}
use Rattle.tl_syntax.specs.declared.value.Value.{Value}
use Rattle.tl_syntax.specs.declared.value.Value.TheVariants.{Int, Sym}
use Rattle.tl_syntax.specs.Lists.{Each}
use Rattle.tl_syntax.specs.Settled.{Differ}
use Rattle.tl_syntax.specs.Texts.{number_of, AreDistinct}
use Rattle.tl_syntax.proofs.Texts.{number_of-at_place}
use Rattle.tl_rules.specs.Parts.{count}
use Rattle.tl_line.specs.Actions.{operator_at, has_parameters, named_value_breaks, named_values_breaks, action_breaks}
use Rattle.tl_rules.specs.Values.{value_meant, values_meant}
use Rattle.tl_line.specs.MeaningOfActions.{action_meant}
use Rattle.tl_line.specs.ActionTexts.{name_text, value_text, operator_text, action_text}
use Rattle.tl_line.specs.WritableActions.{IsSymbolText, IsWritableName, IsWritableValue, IsWritable}
use Rattle.tl_line.specs.LawsReadBack.{IsReadAs}
use Rattle.tl_line.proofs.Pieces.{Has, has-all, HasNoComment}
use Rattle.tl_line.proofs.WrittenForms.{value_form, values_forms, action_form, action-item, clean-action}

-- a name has the number of its text
name-number : (names : List (List ℕ)) (n : ℕ) → AreDistinct names → IsWritableName names n → number_of names (name_text names n) ≡ Some n
name-number names n distinct w = number_of-at_place names (name_text names n) n distinct (there (slice_get names n) refl)
  where
    there : (found : Option (List ℕ)) → slice_get names n ≡ found → found ≡ Some (unwrap_or found [])
    there None is = absurd (cc (slice_get-get_or names n [] w.within))
    there (Some text) is = refl

value-breaks : (names : List (List ℕ)) (v : Value) (at : ℕ) → AreDistinct names → IsWritableValue names v →
    named_value_breaks names (value_form names v at) ≡ []
value-breaks names (Int z) at distinct w = refl
value-breaks names (Sym n) at distinct w = rw (w.1, name-number names n distinct w.0) refl

value-meant : (names : List (List ℕ)) (v : Value) (at : ℕ) → AreDistinct names → IsWritableValue names v →
    value_meant names (value_form names v at) ≡ v
value-meant names (Int z) at distinct w = refl
value-meant names (Sym n) at distinct w = rw (name-number names n distinct w.0) refl

values-breaks : (names : List (List ℕ)) (vs : List Value) (at : ℕ) → AreDistinct names → Each (IsWritableValue names) vs →
    named_values_breaks names (values_forms names vs at) ≡ []
values-breaks names [] at distinct w = refl
values-breaks names (v ∷ vs) at distinct w = rw (
  value-breaks names v (at + 1) distinct w.0,
  values-breaks names vs (at + 1 + length (value_text names v)) distinct w.1,
) refl

values-meant : (names : List (List ℕ)) (vs : List Value) (at : ℕ) → AreDistinct names → Each (IsWritableValue names) vs →
    values_meant names (values_forms names vs at) ≡ vs
values-meant names [] at distinct w = refl
values-meant names (v ∷ vs) at distinct w = rw (
  value-meant names v (at + 1) distinct w.0,
  values-meant names vs (at + 1 + length (value_text names v)) distinct w.1,
) refl

count-forms : (names : List (List ℕ)) (vs : List Value) (at : ℕ) → count (values_forms names vs at) ≡ length vs
count-forms names [] at = refl
count-forms names (v ∷ vs) at = omega (arith, count-forms names vs (at + 1 + length (value_text names v)))

-- the text of the operator's name
operator-name : (names : List (List ℕ)) (operators : List Operator) (op : ℕ) (o : Operator) → slice_get operators op ≡ Some o →
    operator_text names operators op ≡ name_text names o.name
operator-name names operators op o is = rw is refl

-- a test that some item passes finds a place
passes-somewhere : {X : Type 0} (p : X → Bool) (xs : List X) (i : ℕ) (x : X) → slice_get xs i ≡ Some x → p x ≡ true → position p xs ≡ None →
    ⊥
passes-somewhere p xs i x is passes none =
    let inside = slice_get_within xs i x is in
    let past : length xs ≤ position_or_len p xs = grind (arith, nat_tests) in
    let fails = fails_before_first p xs i x (omega arith) in
    false≢true (sym fails ∙ (ap p (get_or_from_slice_get xs i x x is) ∙ passes))

-- where operators have different names, the first of this name is the one at this place
place-of : (operators : List Operator) (op : ℕ) (o : Operator) → Differ (map (λ o. o.name) operators) → slice_get operators op ≡ Some o →
    position (λ p. p.name == o.name) operators ≡ Some op
place-of operators op o differ is = by_answer (position (λ p. p.name == o.name) operators) refl
  where
    by_answer : (answer : Option ℕ) → position (λ p. p.name == o.name) operators ≡ answer → answer ≡ Some op
    by_answer None none = absurd (passes-somewhere (λ (p : Operator). p.name == o.name) operators op o is (eq-eqb o.name o.name refl) none)
    by_answer (Some m) found =
        let at = position-Some (λ p. p.name == o.name) operators m o found in
        ap (λ (k : ℕ). Some k) (differ m op o.name
        (rw (slice_get-map (λ (p : Operator). p.name) operators m, slice_get-get_or operators m o at.0)
        (ap (λ (n : ℕ). Some n) (eqb-true (get_or operators m o).name o.name at.1)))
        (rw (slice_get-map (λ (p : Operator). p.name) operators op, is) refl))

operator-found : (names : List (List ℕ)) (operators : List Operator) (a : Action) → AreDistinct names →
    Differ (map (λ o. o.name) operators) → (w : IsWritable names operators a) →
    operator_at names operators (operator_text names operators a.op) ≡ Some a.op
operator-found names operators a distinct differ w =
    rw (operator-name names operators a.op w.operator w.is, name-number names w.operator.name distinct w.name)
    (place-of operators a.op w.operator differ w.is)

operator-symbol : (names : List (List ℕ)) (operators : List Operator) (a : Action) → (w : IsWritable names operators a) →
    IsSymbolText (operator_text names operators a.op)
operator-symbol names operators a w =
    let name = w.name in
    subst IsSymbolText (sym (operator-name names operators a.op w.operator w.is)) name.symbol

takes-values : (names : List (List ℕ)) (operators : List Operator) (a : Action) (at : ℕ) → (w : IsWritable names operators a) →
    has_parameters operators a.op (count (values_forms names a.args at)) ≡ true
takes-values names operators a at w = rw (w.is, count-forms names a.args at, w.counted)
    (eq-eqb (length w.operator.params) (length w.operator.params) refl)

pub form-breaks : (names : List (List ℕ)) (operators : List Operator) (a : Action) (at : ℕ) → AreDistinct names →
    Differ (map (λ o. o.name) operators) → IsWritable names operators a →
    action_breaks names operators (action_form names operators a at) ≡ []
unfolding action_breaks
form-breaks names operators a at distinct differ w =
    let args = at + 1 + length (operator_text names operators a.op) in
    rw (
      operator-found names operators a distinct differ w,
      takes-values names operators a args w,
      values-breaks names a.args args distinct w.args,
    ) refl

pub form-meant : (names : List (List ℕ)) (operators : List Operator) (a : Action) (at : ℕ) → AreDistinct names →
    Differ (map (λ o. o.name) operators) → IsWritable names operators a → action_meant names operators (action_form names operators a at) ≡
    a
unfolding action_meant
form-meant names operators a at distinct differ w =
    let args = at + 1 + length (operator_text names operators a.op) in
    rw (operator-found names operators a distinct differ w, values-meant names a.args args distinct w.args) refl

pub form-item : (names : List (List ℕ)) (operators : List Operator) (bytes : List ℕ) (from : ℕ) (a : Action) → HasNoComment bytes →
    IsWritable names operators a → Has bytes from (action_text names operators a) →
    IsItem bytes 0 from (from + length (action_text names operators a)) (action_form names operators a from)
form-item names operators bytes from a clean w h = action-item names operators bytes 0 from a (omega arith) clean
    (operator-symbol names operators a w) w.args h

pub clean-text : (names : List (List ℕ)) (operators : List Operator) (a : Action) → IsWritable names operators a →
    HasNoComment (action_text names operators a)
clean-text names operators a w = clean-action names operators a (operator-symbol names operators a w) w.args

pub read-back : (names : List (List ℕ)) (operators : List Operator) (a : Action) → AreDistinct names →
    Differ (map (λ o. o.name) operators) → IsWritable names operators a → IsReadAs names operators (action_text names operators a) a
unfolding AreItems
read-back names operators a distinct differ w =
    let text = action_text names operators a in
    let last : 0 + length text ≡ length text = omega arith in
    let G : ℕ → Type 0 = λ n. IsGap text (0 + length text) n in
    record {
      form = action_form names operators a 0;
      spelled = (
        0,
        0 + length text,
        no_gap text 0,
        form-item names operators text 0 a (clean-text names operators a w) w (has-all text),
        subst G last (no_gap text (0 + length text)),
      );
      unbroken = form-breaks names operators a 0 distinct differ w;
      meant = form-meant names operators a 0 distinct differ w;
    }
