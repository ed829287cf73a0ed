-- The symbols of the forms that bytes spell have texts of symbols.
use Rattle.std.proofs.Common.{◌≡◌, ℕ, ◌+◌, ◌-◌, ◌<◌, ◌≤◌, List, length, slice_range, false, IsTrue, sym, subst, arith}
use Rattle.std.proofs.lemmas.List.Edits.{length-between}
use Rattle.tl_sexpr.specs.Bytes.{is_token_byte}
use Rattle.tl_sexpr.specs.Spelling.{IsToken, IsItem, AreItems, Spells, spells_integer}
use Rattle.tl_sexpr.specs.Symbols.{IsSymbolText, HasSymbolTexts, HaveSymbolTexts}
use Rattle.tl_sexpr.specs.Tree.{FormTree, FormTrees, symbol, integer, list, no_form, more_forms}
use Rattle.tl_sexpr.proofs.Ranges.{each_of_part}

token_text : (bytes : List ℕ) (from to : ℕ) → IsToken bytes from to → spells_integer (slice_range bytes from to) ≡ false →
    IsSymbolText (slice_range bytes from to)
token_text bytes from to t none =
    let some : from < to = t.some in
    let last : to - 1 < length bytes = (t.each (to - 1) (omega arith) (omega arith)).within in
    let bounded : to ≤ length bytes = omega arith in
    let long : length (slice_range bytes from to) ≡ to - from = length-between bytes from to bounded in
    record {
      some = omega arith;
      each = each_of_part (λ c. IsTrue (is_token_byte c)) bytes from to bounded (λ k low high. (t.each k low high).token_byte);
      no_integer = none;
    }

mutual
  unfolding IsItem AreItems

  item_texts : (bytes : List ℕ) (around from to : ℕ) (f : FormTree) → IsItem bytes around from to f → HasSymbolTexts f
  item_texts bytes around from to (symbol text at) h = subst IsSymbolText (sym h.2) (token_text bytes from to h.1 h.3)
  item_texts bytes around from to (integer z at) h = tt
  item_texts bytes around from to (list fs at) h = items_texts bytes (around + 1) (from + 1) h.3.0 fs h.3.3

  items_texts : (bytes : List ℕ) (around from to : ℕ) (fs : FormTrees) → AreItems bytes around from to fs → HaveSymbolTexts fs
  items_texts bytes around from to no_form h = tt
  items_texts bytes around from to (more_forms f fs) h = (item_texts bytes around h.0 h.1 f h.3, items_texts bytes around h.1 to fs h.4)

pub spelled_texts : (bytes : List ℕ) (fs : FormTrees) → Spells bytes fs → HaveSymbolTexts fs
spelled_texts bytes fs h = items_texts bytes 0 0 (length bytes) fs h
