use Rattle.std.proofs.Common.{◌≡◌, ◌∙◌, ◌++◌, List, ℕ, ap, IsPermutation}
use Rattle.std.specs.Rc.{rc_str_bytes}
use Rattle.std.proofs.lemmas.List.Sorted.{IsPermutation-map}
use Rattle.tl_syntax.specs.Settled.{IsInOrder, Renumbers, texts_in}
use Rattle.tl_syntax.specs.Texts.{AreDistinct}
use Rattle.tl_syntax.proofs.SettledTexts.{AreBelow-moved, Differ-moved, AreDistinct-moved, Renumbers-moved}
use Rattle.tl_syntax.proofs.InOrder.{IsInOrder-sorted}
use Rattle.tl_syntax.proofs.names.Names.settled.Goals as goal

pub places_of-requires-clause-below : goal.places_of-requires-clause-below
places_of-requires-clause-below c =
    rw c.as_slice.ensures.value (AreBelow-moved (λ e. rc_str_bytes e.0)
    (λ e. e.1) c.in_ok-numbered.numbered.items c.sorted-entries.result.items c.sorted-entries.ensures.permutation
    c.in_ok-numbered.ensures.numbers)

pub places_of-requires-clause-differ : goal.places_of-requires-clause-differ
places_of-requires-clause-differ c =
    rw c.as_slice.ensures.value (Differ-moved (λ e. rc_str_bytes e.0) (λ e. e.1) c.in_ok-numbered.numbered.items
    c.sorted-entries.result.items c.sorted-entries.ensures.permutation c.in_ok-numbered.ensures.numbers)

pub table_of-requires-clause-distinct : goal.table_of-requires-clause-distinct
table_of-requires-clause-distinct c =
    let distinct : AreDistinct (texts_in c.in_ok-numbered.numbered.items) =
    rw c.in_ok-numbered.ensures.texts c.in_ok-numbered.ensures.distinct in
    rw c.as_slice-3.ensures.value (AreDistinct-moved (λ e. rc_str_bytes e.0)
    (λ e. e.1) c.in_ok-numbered.numbered.items c.sorted-entries.result.items c.sorted-entries.ensures.permutation distinct)

pub returns-clause-permutation : goal.returns-clause-permutation
returns-clause-permutation c =
    let moved : IsPermutation (texts_in c.in_ok-numbered.numbered.items) (texts_in c.sorted-entries.result.items) =
    IsPermutation-map (λ e. rc_str_bytes e.0) c.in_ok-numbered.numbered.items c.sorted-entries.result.items
    c.sorted-entries.ensures.permutation in
    let names : c.in_ok-names.names ≡ texts_in c.sorted-entries.result.items =
    rw (← c.as_slice-3.ensures.value) c.in_ok-names.ensures.texts in
    rw (names, ← c.in_ok-numbered.ensures.texts) moved

-- the texts differ before the sort, so they differ after it, and no two tie
pub returns-clause-order : goal.returns-clause-order
returns-clause-order c =
    let distinct : AreDistinct (texts_in c.in_ok-numbered.numbered.items) =
    rw c.in_ok-numbered.ensures.texts c.in_ok-numbered.ensures.distinct in
    let still_distinct : AreDistinct (texts_in c.sorted-entries.result.items) =
    AreDistinct-moved (λ e. rc_str_bytes e.0) (λ e. e.1) c.in_ok-numbered.numbered.items c.sorted-entries.result.items
    c.sorted-entries.ensures.permutation distinct in
    let names : c.in_ok-names.names ≡ texts_in c.sorted-entries.result.items =
    rw (← c.as_slice-3.ensures.value) c.in_ok-names.ensures.texts in
    let in_order : IsInOrder (texts_in c.sorted-entries.result.items) =
    IsInOrder-sorted (λ e. rc_str_bytes e.0) (λ e. e.1) c.sorted-entries.result.items still_distinct c.sorted-entries.ensures.sorted in
    rw names in_order

pub returns-clause-renumbered : goal.returns-clause-renumbered
returns-clause-renumbered c =
    let entries = c.sorted-entries.result.items in
    let names : c.in_ok-names.names ≡ texts_in entries = rw (← c.as_slice-3.ensures.value) c.in_ok-names.ensures.texts in
    let numbers : c.extend.new.self ≡ c.in_ok-places.places.items = c.in_ok-extend.ensures ∙
    ap (λ (l : List ℕ). l ++ c.as_slice-2.result.now) c.new-numbers.ensures ∙ c.as_slice-2.ensures.value in
    let renumbered : Renumbers c.in_ok-places.places.items (texts_in c.in_ok-numbered.numbered.items) (texts_in entries) =
    Renumbers-moved (λ e. rc_str_bytes e.0) (λ e. e.1) c.in_ok-numbered.numbered.items entries c.sorted-entries.ensures.permutation
    c.in_ok-places.places.items c.in_ok-numbered.ensures.numbers (rw (← c.as_slice.ensures.value) c.in_ok-places.ensures.places) in
    rw (numbers, names, ← c.in_ok-numbered.ensures.texts) renumbered
