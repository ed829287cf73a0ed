-- The text of a proof as the forms of a proof file.
use Rattle.std.proofs.Common.{◌≡◌, ℕ, ◌+◌, ◌<◌, ◌≤◌, List, [], ◌∷◌, ◌++◌, length, map, slice_index, Bool, true, false, Option, Some, None}
use Rattle.std.proofs.Common.{FitsSigned, w64, pos, refl, sym, ap, ◌∙◌, subst, add-zero, length-append, lt-ltb, arith}
use Rattle.std.specs.Prelude.{codes}
use Rattle.std.specs.Fmt.{decimal}
use Rattle.std.specs.List.{list_all}
use Rattle.std.proofs.lemmas.Bool.{false≢true}
use Rattle.std.proofs.lemmas.Bool.Decides.{nat_tests}
use Rattle.std.proofs.lemmas.Int.{ints}
use Rattle.std.proofs.lemmas.List.Folds.{list_all_at}
use Rattle.tl_sexpr.specs.Bytes.{is_token_byte}
use Rattle.tl_sexpr.specs.Spelling.{IsGap, IsItem, AreItems, Spells, spells_integer, integer_value}
use Rattle.tl_sexpr.specs.Tree.{FormTree, FormTrees, symbol, integer, list, no_form, more_forms}
use Rattle.tl_sexpr.proofs.Spelled.{no_gap, gap_of_blank, gaps_join}
use Rattle.tl_syntax.specs.declared.action.Action.{Action}
use Rattle.tl_syntax.specs.declared.operator.Operator.{Operator}
use Rattle.tl_syntax.specs.Settled.{Differ}
use Rattle.tl_syntax.specs.Texts.{AreDistinct}
use Rattle.tl_rules.specs.Parts.{is_within}
use Rattle.tl_line.specs.ActionTexts.{action_text, name_text, operator_text}
use Rattle.tl_line.specs.WritableActions.{IsSymbolText, IsWritable}
use Rattle.tl_line.proofs.Pieces.{Has, has-all, has-front, has-back, has-first, has-range, HasNoComment, clean-both, clean-none, clean-more}
use Rattle.tl_line.proofs.Pieces.{stands}
use Rattle.tl_line.proofs.ReadBack.{form-breaks, form-meant, clean-text}
use Rattle.tl_line.proofs.Tokens.{clean-token, decimal-read, decimal-token, symbol-token, token}
use Rattle.tl_line.proofs.WrittenForms.{action_form, action-item, apart}
use Rattle.tl_cert.specs.LawsReadBack.{AreReadAsProof, AreWritable, IsBoundWritable, StartBefore}
use Rattle.tl_cert.specs.MeaningOfProofs.{length_bound_meant, links_meant}
use Rattle.tl_cert.specs.ProofFiles.{proof_head_breaks, links_breaks}
use Rattle.tl_cert.specs.ProofTexts.{head_line, link_line, link_lines, proof_text}
use Rattle.tl_cert.specs.declared.proof.Link.{Link}
use Rattle.tl_cert.specs.declared.proof.Proof.{Proof}

-- ---- the forms, from an offset on

abbrev pub head_form : Option ℕ → ℕ → FormTree
head_form None at = list (more_forms (symbol (codes "none") (at + 1)) no_form) at
head_form (Some n) at = list (more_forms (symbol (codes "none-within") (at + 1)) (more_forms (integer (pos n) (at + 1 + 11 + 1)) no_form))
    at

abbrev pub link_form : List (List ℕ) → List Operator → Link → ℕ → FormTree
link_form names operators l at =
    list (more_forms (symbol (codes "pair") (at + 1)) (more_forms (integer (pos l.from) (at + 1 + 4 + 1))
    (more_forms (action_form names operators l.action (at + 1 + 4 + 1 + length (decimal l.from) + 1)) no_form))) at

abbrev pub links_forms : List (List ℕ) → List Operator → List Link → ℕ → FormTrees
links_forms names operators [] at = no_form
links_forms names operators (l ∷ ls) at = more_forms (link_form names operators l at)
    (links_forms names operators ls (at + length (link_line names operators l)))

abbrev pub proof_forms : List (List ℕ) → List Operator → Proof → FormTrees
proof_forms names operators proof = more_forms (head_form proof.bound 0)
    (links_forms names operators proof.links (length (head_line proof.bound)))

-- ---- words and numbers

each-token : (text : List ℕ) (k : ℕ) → list_all is_token_byte text ≡ true → k < length text → is_token_byte (slice_index text k) ≡ true
each-token text k all lt = by_test (is_token_byte (slice_index text k)) refl
  where
    by_test : (b : Bool) → is_token_byte (slice_index text k) ≡ b → b ≡ true
    by_test true is = refl
    by_test false is = absurd (false≢true (sym (list_all_at is_token_byte text k 0 lt is) ∙ all))

word-text : (text : List ℕ) → 0 < length text → list_all is_token_byte text ≡ true → spells_integer text ≡ false → IsSymbolText text
word-text text some all other = record { some = some; each = λ k lt. each-token text k all lt; no_integer = other }

none-word : IsSymbolText (codes "none")
none-word = word-text (codes "none") (omega arith) refl refl

within-word : IsSymbolText (codes "none-within")
within-word = word-text (codes "none-within") (omega arith) refl refl

pair-word : IsSymbolText (codes "pair")
pair-word = word-text (codes "pair") (omega arith) refl refl

word-item : (bytes : List ℕ) (around from : ℕ) (text : List ℕ) → HasNoComment bytes → IsSymbolText text → Has bytes from text →
    ((k : ℕ) → k + 1 ≡ from → is_token_byte (slice_index bytes k) ≡ false) → is_token_byte (slice_index bytes (from + length text)) ≡
    false → IsItem bytes around from (from + length text) (symbol text from)
unfolding IsItem AreItems
word-item bytes around from text clean s h starts ends =
    let range = has-range bytes from text h in
    (refl, token bytes from text clean (symbol-token text s) h starts ends, sym range, ap spells_integer range ∙ s.no_integer)

number-item : (bytes : List ℕ) (around from n : ℕ) → HasNoComment bytes → FitsSigned w64 (pos n) → Has bytes from (decimal n) →
    ((k : ℕ) → k + 1 ≡ from → is_token_byte (slice_index bytes k) ≡ false) → is_token_byte (slice_index bytes (from + length (decimal n))) ≡
    false → IsItem bytes around from (from + length (decimal n)) (integer (pos n) from)
unfolding IsItem AreItems
number-item bytes around from n clean fits h starts ends =
    let range = has-range bytes from (decimal n) h in
    let read = decimal-read (pos n) fits in (
      refl,
      token bytes from (decimal n) clean (decimal-token (pos n) fits) h starts ends,
      ap spells_integer range ∙ read.0,
      sym (ap integer_value range ∙ read.1),
      fits,
    )

-- after this byte a token may begin
starts-after : (bytes : List ℕ) (at c : ℕ) (xs : List ℕ) → is_token_byte c ≡ false → Has bytes at (c ∷ xs) → (k : ℕ) → k + 1 ≡ at + 1 →
    is_token_byte (slice_index bytes k) ≡ false
starts-after bytes at c xs other h k next =
    let same : k ≡ at = omega arith in
    ap is_token_byte (ap (slice_index bytes) same ∙ has-first bytes at (c ∷ xs) (omega arith) h) ∙ other

-- and at it one ends
ends-at : (bytes : List ℕ) (at c : ℕ) (xs : List ℕ) → is_token_byte c ≡ false → Has bytes at (c ∷ xs) →
    is_token_byte (slice_index bytes at) ≡ false
ends-at bytes at c xs other h = ap is_token_byte (has-first bytes at (c ∷ xs) (omega arith) h) ∙ other

-- a space is a gap, and so is the end of a line
space-gap : (bytes : List ℕ) (at : ℕ) (xs : List ℕ) → Has bytes at (32 ∷ xs) → IsGap bytes at (at + 1)
space-gap bytes at xs h = let blank = has-first bytes at (32 ∷ xs) (omega arith) h in gap_of_blank bytes at (rw blank refl)

line-gap : (bytes : List ℕ) (at : ℕ) (xs : List ℕ) → Has bytes at (10 ∷ xs) → IsGap bytes at (at + 1)
line-gap bytes at xs h = let blank = has-first bytes at (10 ∷ xs) (omega arith) h in gap_of_blank bytes at (rw blank refl)

items-later : (bytes : List ℕ) (around from mid to : ℕ) (fs : FormTrees) → IsGap bytes from mid → AreItems bytes around mid to fs →
    AreItems bytes around from to fs
unfolding IsItem AreItems
items-later bytes around from mid to no_form gap h = gaps_join bytes from mid to gap h
items-later bytes around from mid to (more_forms f fs) gap h = (h.0, h.1, gaps_join bytes from mid h.0 gap h.2, h.3, h.4)

operator-symbol : (names : List (List ℕ)) (operators : List Operator) (a : Action) → IsWritable names operators a →
    IsSymbolText (operator_text names operators a.op)
operator-symbol names operators a w =
    let name = w.name in
    let o = w.operator in
    let same : operator_text names operators a.op ≡ name_text names o.name = rw w.is refl in
    subst IsSymbolText (sym same) name.symbol

-- ---- a link and its line

module _ (names : List (List ℕ)) (operators : List Operator) (bytes : List ℕ) (clean : HasNoComment bytes) where
  -- the link, with the end of its line
  link-items : (from : ℕ) (l : Link) (to : ℕ) (fs : FormTrees) → FitsSigned w64 (pos l.from) → IsWritable names operators l.action →
      Has bytes from (link_line names operators l) → AreItems bytes 0 (from + length (link_line names operators l)) to fs →
      AreItems bytes 0 from to (more_forms (link_form names operators l from) fs)
  unfolding IsItem AreItems
  link-items from l to fs fits w h rest =
      let digits = decimal l.from in
      let text = action_text names operators l.action in
      let closed : List ℕ = 41 ∷ (10 ∷ []) in
      let third : List ℕ = text ++ closed in
      let second : List ℕ = digits ++ (32 ∷ third) in
      let word : List ℕ = codes "pair" in
      let opened : Has bytes from (40 ∷ (word ++ (32 ∷ second))) = h in
      let after : Has bytes (from + 1) (word ++ (32 ∷ second)) = has-back bytes from (40 ∷ []) (word ++ (32 ∷ second)) opened in
      let space : Has bytes (from + 1 + 4) (32 ∷ second) = has-back bytes (from + 1) word (32 ∷ second) after in
      let number : Has bytes (from + 1 + 4 + 1) second = has-back bytes (from + 1 + 4) (32 ∷ []) second space in
      let at = from + 1 + 4 + 1 in
      let gap : Has bytes (at + length digits) (32 ∷ third) = has-back bytes at digits (32 ∷ third) number in
      let action : Has bytes (at + length digits + 1) third = has-back bytes (at + length digits) (32 ∷ []) third gap in
      let end = at + length digits + 1 + length text in
      let close : Has bytes end closed = has-back bytes (at + length digits + 1) text closed action in
      let line : Has bytes (end + 1) (10 ∷ []) = has-back bytes end (41 ∷ []) (10 ∷ []) close in
      let long = length-append digits (32 ∷ third) in
      let longer = length-append text closed in
      let last : end + 1 + 1 ≡ from + length (link_line names operators l) = omega arith in
      let G : ℕ → Type 0 = λ mid. IsGap bytes (end + 1) mid in (
        from,
        end + 1,
        no_gap bytes from,
        (
          refl,
          omega arith,
          stands bytes from 40 (word ++ (32 ∷ second)) clean opened,
          (
            end,
            refl,
            stands bytes end 41 (10 ∷ []) clean close,
            (
              from + 1,
              from + 1 + 4,
              no_gap bytes (from + 1),
              word-item bytes 1 (from + 1) word clean pair-word (has-front bytes (from + 1) word (32 ∷ second) after)
                  (starts-after bytes from 40 (word ++ (32 ∷ second)) refl opened) (ends-at bytes (from + 1 + 4) 32 second refl space),
              (
                at,
                at + length digits,
                space-gap bytes (from + 1 + 4) second space,
                number-item bytes 1 at l.from clean fits (has-front bytes at digits (32 ∷ third) number)
                    (starts-after bytes (from + 1 + 4) 32 second refl space) (ends-at bytes (at + length digits) 32 third refl gap),
                (
                  at + length digits + 1,
                  end,
                  space-gap bytes (at + length digits) third gap,
                  action-item names operators bytes 1 (at + length digits + 1) l.action (omega arith) clean
                      (operator-symbol names operators l.action w) w.args (has-front bytes (at + length digits + 1) text closed action),
                  no_gap bytes end,
                ),
              ),
            ),
          ),
        ),
        items-later bytes 0 (end + 1) (from + length (link_line names operators l)) to fs
            (subst G last (line-gap bytes (end + 1) [] line)) rest,
      )

  lines-items : (from : ℕ) (links : List Link) (before : ℕ) → AreWritable names operators links → StartBefore before links →
      before + length links ≤ 100000 → Has bytes from (link_lines names operators links) →
      AreItems bytes 0 from (from + length (link_lines names operators links)) (links_forms names operators links from)
  unfolding IsItem AreItems
  lines-items from [] before w low few h = let G : ℕ → Type 0 = λ to. IsGap bytes from to in
      subst G (sym (add-zero from)) (no_gap bytes from)
  lines-items from (l ∷ ls) before w low few h =
      let line = link_line names operators l in
      let rest = link_lines names operators ls in
      let small = low.0 in
      let fits : FitsSigned w64 (pos l.from) = omega (arith, ints, small, few) in
      let long = length-append line rest in
      let last : from + length line + length rest ≡ from + length (link_lines names operators (l ∷ ls)) = omega arith in
      let I : ℕ → Type 0 = λ to. AreItems bytes 0 (from + length line) to (links_forms names operators ls (from + length line)) in
      link-items from l (from + length (link_lines names operators (l ∷ ls))) (links_forms names operators ls (from + length line)) fits w.0
      (has-front bytes from line rest h)
      (subst I last (lines-items (from + length line) ls (before + 1) w.1 low.1 (omega arith) (has-back bytes from line rest h)))

  -- the head, with the end of its line
  none-items : (from to : ℕ) (fs : FormTrees) → Has bytes from (head_line None) → AreItems bytes 0 (from + length (head_line None)) to fs →
      AreItems bytes 0 from to (more_forms (head_form None from) fs)
  unfolding IsItem AreItems
  none-items from to fs h rest =
      let word : List ℕ = codes "none" in
      let closed : List ℕ = 41 ∷ (10 ∷ []) in
      let opened : Has bytes from (40 ∷ (word ++ closed)) = h in
      let after : Has bytes (from + 1) (word ++ closed) = has-back bytes from (40 ∷ []) (word ++ closed) opened in
      let close : Has bytes (from + 1 + 4) closed = has-back bytes (from + 1) word closed after in
      let line : Has bytes (from + 1 + 4 + 1) (10 ∷ []) = has-back bytes (from + 1 + 4) (41 ∷ []) (10 ∷ []) close in
      let last : from + 1 + 4 + 1 + 1 ≡ from + length (head_line None) = omega arith in
      let G : ℕ → Type 0 = λ mid. IsGap bytes (from + 1 + 4 + 1) mid in (
        from,
        from + 1 + 4 + 1,
        no_gap bytes from,
        (
          refl,
          omega arith,
          stands bytes from 40 (word ++ closed) clean opened,
          (
            from + 1 + 4,
            refl,
            stands bytes (from + 1 + 4) 41 (10 ∷ []) clean close,
            (
              from + 1,
              from + 1 + 4,
              no_gap bytes (from + 1),
              word-item bytes 1 (from + 1) word clean none-word (has-front bytes (from + 1) word closed after)
                  (starts-after bytes from 40 (word ++ closed) refl opened) (ends-at bytes (from + 1 + 4) 41 (10 ∷ []) refl close),
              no_gap bytes (from + 1 + 4),
            ),
          ),
        ),
        items-later bytes 0 (from + 1 + 4 + 1) (from + length (head_line None)) to fs
            (subst G last (line-gap bytes (from + 1 + 4 + 1) [] line)) rest,
      )

  within-items : (from n to : ℕ) (fs : FormTrees) → FitsSigned w64 (pos n) → Has bytes from (head_line (Some n)) →
      AreItems bytes 0 (from + length (head_line (Some n))) to fs → AreItems bytes 0 from to (more_forms (head_form (Some n) from) fs)
  unfolding IsItem AreItems
  within-items from n to fs fits h rest =
      let word : List ℕ = codes "none-within" in
      let digits = decimal n in
      let closed : List ℕ = 41 ∷ (10 ∷ []) in
      let second : List ℕ = digits ++ closed in
      let opened : Has bytes from (40 ∷ (word ++ (32 ∷ second))) = h in
      let after : Has bytes (from + 1) (word ++ (32 ∷ second)) = has-back bytes from (40 ∷ []) (word ++ (32 ∷ second)) opened in
      let space : Has bytes (from + 1 + 11) (32 ∷ second) = has-back bytes (from + 1) word (32 ∷ second) after in
      let at = from + 1 + 11 + 1 in
      let number : Has bytes at second = has-back bytes (from + 1 + 11) (32 ∷ []) second space in
      let end = at + length digits in
      let close : Has bytes end closed = has-back bytes at digits closed number in
      let line : Has bytes (end + 1) (10 ∷ []) = has-back bytes end (41 ∷ []) (10 ∷ []) close in
      let long = length-append digits closed in
      let last : end + 1 + 1 ≡ from + length (head_line (Some n)) = omega arith in
      let G : ℕ → Type 0 = λ mid. IsGap bytes (end + 1) mid in (
        from,
        end + 1,
        no_gap bytes from,
        (
          refl,
          omega arith,
          stands bytes from 40 (word ++ (32 ∷ second)) clean opened,
          (
            end,
            refl,
            stands bytes end 41 (10 ∷ []) clean close,
            (
              from + 1,
              from + 1 + 11,
              no_gap bytes (from + 1),
              word-item bytes 1 (from + 1) word clean within-word (has-front bytes (from + 1) word (32 ∷ second) after)
                  (starts-after bytes from 40 (word ++ (32 ∷ second)) refl opened) (ends-at bytes (from + 1 + 11) 32 second refl space),
              (
                at,
                end,
                space-gap bytes (from + 1 + 11) second space,
                number-item bytes 1 at n clean fits (has-front bytes at digits closed number)
                    (starts-after bytes (from + 1 + 11) 32 second refl space) (ends-at bytes end 41 (10 ∷ []) refl close),
                no_gap bytes end,
              ),
            ),
          ),
        ),
        items-later bytes 0 (end + 1) (from + length (head_line (Some n))) to fs (subst G last (line-gap bytes (end + 1) [] line)) rest,
      )

-- ---- no comments

clean-known : (text : List ℕ) → IsSymbolText text → HasNoComment text
clean-known text s = clean-token text (symbol-token text s)

clean-end : HasNoComment (41 ∷ (10 ∷ []))
clean-end = clean-more 41 (10 ∷ []) (λ e. apart 41 e refl) (clean-more 10 [] (λ e. apart 10 e refl) clean-none)

clean-link : (names : List (List ℕ)) (operators : List Operator) (l : Link) → FitsSigned w64 (pos l.from) →
    IsWritable names operators l.action → HasNoComment (link_line names operators l)
clean-link names operators l fits w =
    let digits = decimal l.from in
    let text = action_text names operators l.action in
    let third : List ℕ = text ++ (41 ∷ (10 ∷ [])) in
    let second : List ℕ = digits ++ (32 ∷ third) in
    clean-more 40 (codes "pair" ++ (32 ∷ second)) (λ e. apart 40 e refl)
    (clean-both (codes "pair") (32 ∷ second) (clean-known (codes "pair") pair-word)
    (clean-more 32 second (λ e. apart 32 e refl)
    (clean-both digits (32 ∷ third) (clean-token digits (decimal-token (pos l.from) fits))
    (clean-more 32 third (λ e. apart 32 e refl) (clean-both text (41 ∷ (10 ∷ [])) (clean-text names operators l.action w) clean-end)))))

clean-links : (names : List (List ℕ)) (operators : List Operator) (links : List Link) (before : ℕ) → AreWritable names operators links →
    StartBefore before links → before + length links ≤ 100000 → HasNoComment (link_lines names operators links)
clean-links names operators [] before w low few = clean-none
clean-links names operators (l ∷ ls) before w low few =
    let small = low.0 in
    let fits : FitsSigned w64 (pos l.from) = omega (arith, ints, small, few) in
    clean-both (link_line names operators l) (link_lines names operators ls) (clean-link names operators l fits w.0)
    (clean-links names operators ls (before + 1) w.1 low.1 (omega arith))

clean-head : (bound : Option ℕ) → IsBoundWritable bound → HasNoComment (head_line bound)
clean-head None few = clean-more 40 (codes "none" ++ (41 ∷ (10 ∷ []))) (λ e. apart 40 e refl)
    (clean-both (codes "none") (41 ∷ (10 ∷ [])) (clean-known (codes "none") none-word) clean-end)
clean-head (Some n) few =
    let fits : FitsSigned w64 (pos n) = omega (arith, ints, few) in
    let second : List ℕ = decimal n ++ (41 ∷ (10 ∷ [])) in
    clean-more 40 (codes "none-within" ++ (32 ∷ second)) (λ e. apart 40 e refl)
    (clean-both (codes "none-within") (32 ∷ second) (clean-known (codes "none-within") within-word)
    (clean-more 32 second (λ e. apart 32 e refl) (clean-both (decimal n) (41 ∷ (10 ∷ []))
    (clean-token (decimal n) (decimal-token (pos n) fits)) clean-end)))

-- ---- what the forms break and mean

inside : (n most : ℕ) → n ≤ most → is_within 0 most (pos n) ≡ true
inside n most few = grind (arith, nat_tests)

links-break-nothing : (names : List (List ℕ)) (operators : List Operator) (before : ℕ) (links : List Link) (at : ℕ) → AreDistinct names →
    Differ (map (λ o. o.name) operators) → AreWritable names operators links → StartBefore before links → before + length links ≤ 100000 →
    links_breaks names operators before (links_forms names operators links at) ≡ []
links-break-nothing names operators before [] at distinct differ w low few = refl
links-break-nothing names operators before (l ∷ ls) at distinct differ w low few =
    let within = lt-ltb before 100000 (omega arith) in
    rw (
      within,
      inside l.from before low.0,
      form-breaks names operators l.action
          (at + 1 + 4 + 1 + length (decimal l.from) + 1) distinct differ w.0,
      links-break-nothing names operators (before + 1) ls (at + length (link_line names operators l)) distinct differ w.1 low.1
          (omega arith),
    ) refl

links-mean : (names : List (List ℕ)) (operators : List Operator) (links : List Link) (at : ℕ) → AreDistinct names →
    Differ (map (λ o. o.name) operators) → AreWritable names operators links →
    links_meant names operators (links_forms names operators links at) ≡ links
links-mean names operators [] at distinct differ w = refl
links-mean names operators (l ∷ ls) at distinct differ w =
    rw (
      form-meant names operators l.action (at + 1 + 4 + 1 + length (decimal l.from) + 1) distinct differ w.0,
      links-mean names operators ls (at + length (link_line names operators l)) distinct differ w.1,
    ) refl

head-breaks-nothing : (bound : Option ℕ) → IsBoundWritable bound → proof_head_breaks (head_form bound 0) ≡ []
head-breaks-nothing None few = refl
head-breaks-nothing (Some n) few = rw (inside n 100000 few) refl

head-means : (bound : Option ℕ) → length_bound_meant (head_form bound 0) ≡ bound
head-means None = refl
head-means (Some n) = refl

-- ---- the whole text

head-spelled : (bytes : List ℕ) (bound : Option ℕ) (to : ℕ) (fs : FormTrees) → HasNoComment bytes → IsBoundWritable bound →
    Has bytes 0 (head_line bound) → AreItems bytes 0 (0 + length (head_line bound)) to fs →
    AreItems bytes 0 0 to (more_forms (head_form bound 0) fs)
head-spelled bytes None to fs clean few h rest = none-items [] [] bytes clean 0 to fs h rest
head-spelled bytes (Some n) to fs clean few h rest = let fits : FitsSigned w64 (pos n) = omega (arith, ints, few) in
    within-items [] [] bytes clean 0 n to fs fits h rest

proof-spelled : (names : List (List ℕ)) (operators : List Operator) (proof : Proof) → AreWritable names operators proof.links →
    StartBefore 0 proof.links → length proof.links ≤ 100000 → IsBoundWritable proof.bound →
    Spells (proof_text names operators proof) (proof_forms names operators proof)
proof-spelled names operators proof w low few bounded =
    let head = head_line proof.bound in
    let lines = link_lines names operators proof.links in
    let text = proof_text names operators proof in
    let clean : HasNoComment text = clean-both head lines (clean-head proof.bound bounded)
    (clean-links names operators proof.links 0 w low (omega arith)) in
    let all : Has text 0 (head ++ lines) = has-all text in
    let long = length-append head lines in
    let last : length head + length lines ≡ length text = omega arith in
    let start : 0 + length head ≡ length head = omega arith in
    let after : Has text (length head) lines = subst (λ (at : ℕ). Has text at lines) start (has-back text 0 head lines all) in
    let I : ℕ → Type 0 = λ to. AreItems text 0 (length head) to (links_forms names operators proof.links (length head)) in
    let B : ℕ → Type 0 = λ from. AreItems text 0 from (length text) (links_forms names operators proof.links (length head)) in
    head-spelled text proof.bound (length text) (links_forms names operators proof.links (length head)) clean bounded
    (has-front text 0 head lines all)
    (subst B (sym start) (subst I last (lines-items names operators text clean (length head) proof.links 0 w low (omega arith) after)))

pub proof-read-back : (names : List (List ℕ)) (operators : List Operator) (proof : Proof) → AreDistinct names →
    Differ (map (λ o. o.name) operators) → AreWritable names operators proof.links → StartBefore 0 proof.links →
    length proof.links ≤ 100000 → IsBoundWritable proof.bound → AreReadAsProof names operators (proof_text names operators proof) proof
proof-read-back names operators proof distinct differ w low few bounded =
    let at = length (head_line proof.bound) in
    let head = head-means proof.bound in
    let links = links-mean names operators proof.links at distinct differ w in
    record {
      forms = proof_forms names operators proof;
      spelled = proof-spelled names operators proof w low few bounded;
      unbroken = rw (
        head-breaks-nothing proof.bound bounded,
        links-break-nothing names operators 0 proof.links at distinct differ w low
            (omega arith),
      ) refl;
      meant = λ i. record { bound = head i; links = links i };
    }
