-- The offsets of the forms that bytes spell rise.
use Rattle.std.proofs.Common.{◌≡◌, ℕ, ◌+◌, ◌≤◌, List, length, arith}
use Rattle.tl_sexpr.specs.Offsets.{RisesFrom, RiseFrom}
use Rattle.tl_sexpr.specs.Spelling.{IsItem, AreItems, Spells}
use Rattle.tl_sexpr.specs.Tree.{FormTree, FormTrees, symbol, integer, list, no_form, more_forms}

mutual
  unfolding IsItem AreItems

  pub item_rises : (bytes : List ℕ) (around from to least next : ℕ) (f : FormTree) → IsItem bytes around from to f → least ≤ from →
      to ≤ next → RisesFrom least f next
  item_rises bytes around from to least next (symbol text at) h low high = let some = h.1.some in let here : at ≡ from = h.0 in
      (omega arith, omega arith)
  item_rises bytes around from to least next (integer z at) h low high = let some = h.1.some in let here : at ≡ from = h.0 in
      (omega arith, omega arith)
  item_rises bytes around from to least next (list fs at) h low high =
      let here : at ≡ from = h.0 in
      let close = h.3.0 in
      let end : to ≡ close + 1 = h.3.1 in
      (omega arith, items_rise bytes (around + 1) (from + 1) close (at + 1) next fs h.3.3 (omega arith) (omega arith))

  pub items_rise : (bytes : List ℕ) (around from to least next : ℕ) (fs : FormTrees) → AreItems bytes around from to fs → least ≤ from →
      to ≤ next → RiseFrom least fs next
  items_rise bytes around from to least next no_form h low high = let ordered = h.ordered in omega arith
  items_rise bytes around from to least next (more_forms f fs) h low high =
      let gap = h.2.ordered in
      let first : least ≤ h.0 = omega arith in (
        h.1,
        item_rises bytes around h.0 h.1 least h.1 f h.3 first (omega arith),
        items_rise bytes around h.1 to h.1 next fs h.4 (omega arith) high,
      )

pub spelled_rise : (bytes : List ℕ) (fs : FormTrees) (size : ℕ) → length bytes ≤ size → Spells bytes fs → RiseFrom 0 fs size
spelled_rise bytes fs size small h = items_rise bytes 0 0 (length bytes) 0 size fs h (omega arith) small
