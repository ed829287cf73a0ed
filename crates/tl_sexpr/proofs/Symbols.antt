-- Each symbol takes a byte at least.
use Rattle.std.proofs.Common.{◌≡◌, ℕ, ◌+◌, ◌≤◌, List, arith}
use Rattle.tl_sexpr.specs.Spelling.{IsItem, AreItems, symbols_in, symbols_in_all}
use Rattle.tl_sexpr.specs.Tree.{FormTree, FormTrees, symbol, integer, list, no_form, more_forms}

mutual
  unfolding IsItem AreItems

  pub symbols_of_item : (bytes : List ℕ) (around from to : ℕ) (f : FormTree) → IsItem bytes around from to f → symbols_in f + from ≤ to
  symbols_of_item bytes around from to (symbol text at) h = let some = h.1.some in omega arith
  symbols_of_item bytes around from to (integer z at) h = let some = h.1.some in omega arith
  symbols_of_item bytes around from to (list fs at) h =
      let close = h.3.0 in
      let end : to ≡ close + 1 = h.3.1 in
      let inner = symbols_of_items bytes (around + 1) (from + 1) close fs h.3.3 in
      omega arith

  pub symbols_of_items : (bytes : List ℕ) (around from to : ℕ) (fs : FormTrees) → AreItems bytes around from to fs →
      symbols_in_all fs + from ≤ to
  symbols_of_items bytes around from to no_form h = let ordered = h.ordered in omega arith
  symbols_of_items bytes around from to (more_forms f fs) h =
      let gap = h.2.ordered in
      let first = symbols_of_item bytes around h.0 h.1 f h.3 in
      let rest = symbols_of_items bytes around h.1 to fs h.4 in
      omega arith
