-- The forms that the texts of values and of actions spell.
use Rattle.std.proofs.Common.{◌≡◌, ℕ, ◌+◌, ◌<◌, List, [], ◌∷◌, ◌++◌, length, slice_index, false, ◌==◌, refl, sym, ap, ◌∙◌, subst, add-zero}
use Rattle.std.proofs.Common.{append_assoc, length-append, arith}
use Rattle.std.proofs.lemmas.Bool.{false≢true, eq-eqb}
use Rattle.tl_sexpr.specs.Bytes.{is_token_byte}
use Rattle.tl_sexpr.specs.Spelling.{IsGap, IsItem, AreItems, spells_integer, integer_value}
use Rattle.tl_sexpr.specs.Tree.{FormTree, FormTrees, symbol, integer, list, no_form, more_forms}
use Rattle.tl_sexpr.proofs.Spelled.{no_gap, gap_of_blank}
use Rattle.tl_syntax.specs.declared.action.Action.{Action}
use Rattle.tl_syntax.specs.declared.operator.Operator.{Operator}
use Rattle.tl_syntax.specs.declared.value.Value.{Value}
use Rattle.tl_syntax.specs.declared.value.Value.TheVariants.{Int, Sym}
use Rattle.tl_syntax.specs.Lists.{Each}
use Rattle.tl_line.specs.ActionTexts.{name_text, value_text, values_text, operator_text, action_text}
use Rattle.tl_line.specs.WritableActions.{IsSymbolText, IsWritableValue}
use Rattle.tl_line.proofs.Pieces.{Has, has-front, has-back, has-first, has-range, HasNoComment, clean-both, clean-none, clean-more, stands}
use Rattle.tl_line.proofs.Tokens.{IsTokenText, symbol-token, clean-token, token, decimal-token, decimal-read}

-- the form of a value, and those of values each after a space, from this offset on
abbrev pub value_form : List (List ℕ) → Value → ℕ → FormTree
value_form names (Int z) at = integer z at
value_form names (Sym n) at = symbol (name_text names n) at

abbrev pub values_forms : List (List ℕ) → List Value → ℕ → FormTrees
values_forms names [] at = no_form
values_forms names (v ∷ vs) at = more_forms (value_form names v (at + 1)) (values_forms names vs (at + 1 + length (value_text names v)))

-- the form of an action
abbrev pub action_form : List (List ℕ) → List Operator → Action → ℕ → FormTree
action_form names operators a at =
    let name = operator_text names operators a.op in
    list (more_forms (symbol name (at + 1)) (values_forms names a.args (at + 1 + length name))) at

value-token : (names : List (List ℕ)) (v : Value) → IsWritableValue names v → IsTokenText (value_text names v)
value-token names (Int z) h = decimal-token z h
value-token names (Sym n) h = let name = h.0 in symbol-token (name_text names n) name.symbol

symbol-item : (bytes : List ℕ) (around from : ℕ) (text : List ℕ) → HasNoComment bytes → IsSymbolText text → Has bytes from text →
    ((k : ℕ) → k + 1 ≡ from → is_token_byte (slice_index bytes k) ≡ false) → is_token_byte (slice_index bytes (from + length text)) ≡
    false → IsItem bytes around from (from + length text) (symbol text from)
unfolding IsItem AreItems
symbol-item bytes around from text clean s h starts ends =
    let range = has-range bytes from text h in
    (refl, token bytes from text clean (symbol-token text s) h starts ends, sym range, ap spells_integer range ∙ s.no_integer)

value-item : (names : List (List ℕ)) (bytes : List ℕ) (around from : ℕ) (v : Value) → HasNoComment bytes → IsWritableValue names v →
    Has bytes from (value_text names v) → ((k : ℕ) → k + 1 ≡ from → is_token_byte (slice_index bytes k) ≡ false) →
    is_token_byte (slice_index bytes (from + length (value_text names v))) ≡ false →
    IsItem bytes around from (from + length (value_text names v)) (value_form names v from)
unfolding IsItem AreItems
value-item names bytes around from (Sym n) clean w h starts ends = let name = w.0 in
    symbol-item bytes around from (name_text names n) clean name.symbol h starts ends
value-item names bytes around from (Int z) clean w h starts ends =
    let text = value_text names (Int z) in
    let range = has-range bytes from text h in
    let read = decimal-read z w in (
      refl,
      token bytes from text clean (decimal-token z w) h starts ends,
      ap spells_integer range ∙ read.0,
      sym (ap integer_value range ∙ read.1),
      w,
    )

-- after values a space or the end of the list stands
next-byte : (names : List (List ℕ)) (vs : List Value) → is_token_byte (slice_index (values_text names vs ++ 41 ∷ []) 0) ≡ false
next-byte names [] = refl
next-byte names (v ∷ vs) = refl

ends-before : (names : List (List ℕ)) (bytes : List ℕ) (at : ℕ) (vs : List Value) → Has bytes at (values_text names vs ++ 41 ∷ []) →
    is_token_byte (slice_index bytes at) ≡ false
ends-before names bytes at vs h =
    let long = length-append (values_text names vs) (41 ∷ []) in
    ap is_token_byte (has-first bytes at (values_text names vs ++ 41 ∷ []) (omega arith) h) ∙ next-byte names vs

-- after this byte a token may begin
starts-after : (bytes : List ℕ) (at c : ℕ) (xs : List ℕ) → is_token_byte c ≡ false → Has bytes at (c ∷ xs) → (k : ℕ) → k + 1 ≡ at + 1 →
    is_token_byte (slice_index bytes k) ≡ false
starts-after bytes at c xs apart h k next =
    let same : k ≡ at = omega arith in
    ap is_token_byte (ap (slice_index bytes) same ∙ has-first bytes at (c ∷ xs) (omega arith) h) ∙ apart

values-items : (names : List (List ℕ)) (bytes : List ℕ) (around from : ℕ) (vs : List Value) → HasNoComment bytes →
    Each (IsWritableValue names) vs → Has bytes from (values_text names vs ++ 41 ∷ []) →
    AreItems bytes around from (from + length (values_text names vs)) (values_forms names vs from)
unfolding IsItem AreItems
values-items names bytes around from [] clean w h = let T : ℕ → Type 0 = λ to. IsGap bytes from to in
    subst T (sym (add-zero from)) (no_gap bytes from)
values-items names bytes around from (v ∷ vs) clean w h =
    let text = value_text names v in
    let rest = values_text names vs in
    let P : List ℕ → Type 0 = λ piece. Has bytes from (32 ∷ piece) in
    let opened : Has bytes from (32 ∷ (text ++ (rest ++ 41 ∷ []))) = subst P (append_assoc text rest (41 ∷ [])) h in
    let after : Has bytes (from + 1) (text ++ (rest ++ 41 ∷ [])) = has-back bytes from (32 ∷ []) (text ++ (rest ++ 41 ∷ [])) opened in
    let later : Has bytes (from + 1 + length text) (rest ++ 41 ∷ []) = has-back bytes (from + 1) text (rest ++ 41 ∷ []) after in
    let blank = has-first bytes from (32 ∷ (text ++ (rest ++ 41 ∷ []))) (omega arith) opened in
    let long = length-append text rest in
    let end : from + 1 + length text + length rest ≡ from + length (values_text names (v ∷ vs)) = omega arith in
    let Q : ℕ → Type 0 = λ to. AreItems bytes around (from + 1 + length text) to (values_forms names vs (from + 1 + length text)) in (
      from + 1,
      from + 1 + length text,
      gap_of_blank bytes from (rw blank refl),
      value-item names bytes around (from + 1) v clean w.0 (has-front bytes (from + 1) text (rest ++ 41 ∷ []) after)
          (starts-after bytes from 32 (text ++ (rest ++ 41 ∷ [])) refl opened) (ends-before names bytes (from + 1 + length text) vs later),
      subst Q end (values-items names bytes around (from + 1 + length text) vs clean w.1 later),
    )

pub action-item : (names : List (List ℕ)) (operators : List Operator) (bytes : List ℕ) (around from : ℕ) (a : Action) → around < 100 →
    HasNoComment bytes → IsSymbolText (operator_text names operators a.op) → Each (IsWritableValue names) a.args →
    Has bytes from (action_text names operators a) → IsItem bytes around from (from + length (action_text names operators a))
    (action_form names operators a from)
unfolding IsItem AreItems
action-item names operators bytes around from a few clean named w h =
    let name = operator_text names operators a.op in
    let rest = values_text names a.args in
    let after : Has bytes (from + 1) (name ++ (rest ++ 41 ∷ [])) = has-back bytes from (40 ∷ []) (name ++ (rest ++ 41 ∷ [])) h in
    let later : Has bytes (from + 1 + length name) (rest ++ 41 ∷ []) = has-back bytes (from + 1) name (rest ++ 41 ∷ []) after in
    let last : Has bytes (from + 1 + length name + length rest) (41 ∷ []) = has-back bytes (from + 1 + length name) rest (41 ∷ []) later in
    let inner = length-append rest (41 ∷ []) in
    let outer = length-append name (rest ++ 41 ∷ []) in (
      refl,
      few,
      stands bytes from 40 (name ++ (rest ++ 41 ∷ [])) clean h,
      (
        from + 1 + length name + length rest,
        omega arith,
        stands bytes (from + 1 + length name + length rest) 41 [] clean last,
        (
          from + 1,
          from + 1 + length name,
          no_gap bytes (from + 1),
          symbol-item bytes (around + 1) (from + 1) name clean named (has-front bytes (from + 1) name (rest ++ 41 ∷ []) after)
              (starts-after bytes from 40 (name ++ (rest ++ 41 ∷ [])) refl h)
              (ends-before names bytes (from + 1 + length name) a.args later),
          values-items names bytes (around + 1) (from + 1 + length name) a.args clean w later,
        ),
      ),
    )

-- a byte other than `;`
pub apart : (c : ℕ) → c ≡ 59 → (c == 59) ≡ false → ⊥
apart c e is = false≢true (sym is ∙ eq-eqb c 59 e)

clean-values : (names : List (List ℕ)) (vs : List Value) → Each (IsWritableValue names) vs → HasNoComment (values_text names vs)
clean-values names [] w = clean-none
clean-values names (v ∷ vs) w =
    clean-more 32 (value_text names v ++ values_text names vs) (λ e. apart 32 e refl)
    (clean-both (value_text names v) (values_text names vs) (clean-token (value_text names v) (value-token names v w.0))
    (clean-values names vs w.1))

pub clean-action : (names : List (List ℕ)) (operators : List Operator) (a : Action) → IsSymbolText (operator_text names operators a.op) →
    Each (IsWritableValue names) a.args → HasNoComment (action_text names operators a)
clean-action names operators a named w =
    let name = operator_text names operators a.op in
    let rest = values_text names a.args in
    clean-more 40 (name ++ (rest ++ 41 ∷ [])) (λ e. apart 40 e refl) (clean-both name (rest ++ 41 ∷ [])
    (clean-token name (symbol-token name named)) (clean-both rest (41 ∷ []) (clean-values names a.args w)
    (clean-more 41 [] (λ e. apart 41 e refl) clean-none)))
