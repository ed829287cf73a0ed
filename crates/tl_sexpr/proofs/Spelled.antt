-- Longer ranges that are gaps, or items with gaps around them.
use Rattle.std.proofs.Common.{◌≡◌, ℕ, ◌+◌, List, [], ◌∷◌, ◌++◌, slice_index, slice_range, true, inl, inr, sym, ◌∙◌, ap, arith}
use Rattle.std.proofs.lemmas.Bool.{cases_lt}
use Rattle.tl_sexpr.specs.Bytes.{is_blank}
use Rattle.tl_sexpr.specs.Spelling.{IsGap, IsToken, IsItem, AreItems}
use Rattle.tl_sexpr.specs.Reading.{IsTokenForm}
use Rattle.tl_sexpr.specs.Tree.{FormTree, FormTrees, symbol, integer, list, no_form, more_forms, trees_of_list}

pub no_gap : (bytes : List ℕ) (at : ℕ) → IsGap bytes at at
no_gap bytes at = record { ordered = omega arith; skipped = λ k low high. absurd (omega arith) }

pub gap_of_blank : (bytes : List ℕ) (at : ℕ) → is_blank (slice_index bytes at) ≡ true → IsGap bytes at (at + 1)
gap_of_blank bytes at blank = record {
  ordered = omega arith;
  skipped = λ k low high. let same : at ≡ k = omega arith in inl (ap (λ i. is_blank (slice_index bytes i)) (sym same) ∙ blank);
}

pub gaps_join : (bytes : List ℕ) (from mid to : ℕ) → IsGap bytes from mid → IsGap bytes mid to → IsGap bytes from to
gaps_join bytes from mid to g h =
    let first = g.ordered in
    let second = h.ordered in
    record {
      ordered = omega arith;
      skipped = λ k low high. elim (cases_lt k mid) [ inl e ↦ g.skipped k low e | inr e ↦ h.skipped k e high ];
    }

-- items with a longer gap after them
pub items_longer : (bytes : List ℕ) (around from to end : ℕ) (fs : FormTrees) → AreItems bytes around from to fs → IsGap bytes to end →
    AreItems bytes around from end fs
unfolding IsItem AreItems
items_longer bytes around from to end no_form h gap = gaps_join bytes from to end h gap
items_longer bytes around from to end (more_forms f fs) h gap = (h.0, h.1, h.2, h.3, items_longer bytes around h.1 to end fs h.4 gap)

-- items with one more after them
pub items_more : (bytes : List ℕ) (around from to end : ℕ) (fs : List FormTree) (f : FormTree) →
    AreItems bytes around from to (trees_of_list fs) → IsItem bytes around to end f →
    AreItems bytes around from end (trees_of_list (fs ++ f ∷ []))
unfolding IsItem AreItems
items_more bytes around from to end [] f h item = (to, end, h, item, no_gap bytes end)
items_more bytes around from to end (g ∷ gs) f h item = (h.0, h.1, h.2, h.3, items_more bytes around h.1 to end gs f h.4 item)

-- a token's form is an item
pub item_of_token : (bytes : List ℕ) (around from to : ℕ) (f : FormTree) → IsToken bytes from to →
    IsTokenForm (slice_range bytes from to) from f → IsItem bytes around from to f
unfolding IsItem AreItems
item_of_token bytes around from to (symbol text at) token form = (form.0, token, form.1, form.2)
item_of_token bytes around from to (integer z at) token form = (form.0, token, form.1, form.2, form.3)
item_of_token bytes around from to (list fs at) token form = absurd form
