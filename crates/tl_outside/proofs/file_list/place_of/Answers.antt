use Rattle.std.proofs.Common.{◌≡◌, ◌<◌, ◌≤◌, length, get_or, map, true, false, sym, ap, ◌∙◌, arith}
use Rattle.std.proofs.lemmas.List.{length-map}
use Rattle.std.proofs.Math.ListN.{get_or-map}
use Rattle.std.specs.Str.{bytes_eq}
use Rattle.std.specs.String.{string_bytes}
use Rattle.tl_outside.specs.NamedFile.{name_and_bytes}
use Rattle.tl_outside.proofs.Place.{passed, found, absent}
use Rattle.tl_outside.proofs.file_list.place_of.Goals as goal

pub returns-then-eq : goal.returns-then-eq
returns-then-eq c =
    let fs = c.args.files.now in
    let r = c.index-files-index.result in
    let i = c.loop-index.index in
    let lt : i < length (map name_and_bytes fs) = rw length-map (omega arith) in
    let is : get_or (map name_and_bytes fs) i (name_and_bytes r) ≡ name_and_bytes r = get_or-map name_and_bytes fs i r ∙
    ap name_and_bytes (sym c.index-files-index.is) in
    let same : bytes_eq c.args.name.now (string_bytes r.name) ≡ true = rw (← c.as_str.ensures.value) (sym c.eq.ensures ∙ c.if-eq.true) in
    (omega arith, found (map name_and_bytes fs) c.args.name.now i (name_and_bytes r) lt is same c.loop-index.invariant)

pub loop-index-preserved : goal.loop-index-preserved
loop-index-preserved c =
    let fs = c.args.files.now in
    let r = c.index-files-index.result in
    let i = c.loop-index.index in
    let lt : i < length (map name_and_bytes fs) = rw length-map (omega arith) in
    let is : get_or (map name_and_bytes fs) i (name_and_bytes r) ≡ name_and_bytes r = get_or-map name_and_bytes fs i r ∙
    ap name_and_bytes (sym c.index-files-index.is) in
    let other : bytes_eq c.args.name.now (string_bytes r.name) ≡ false = rw (← c.as_str.ensures.value) (sym c.eq.ensures ∙ c.if-eq.false) in
    passed (map name_and_bytes fs) c.args.name.now i (name_and_bytes r) lt is other c.loop-index.invariant

pub returns : goal.returns
returns c =
    let fs = c.args.files.now in
    let end : length (map name_and_bytes fs) ≤ c.loop-index.index = rw length-map (omega arith) in
    absent (map name_and_bytes fs) c.args.name.now c.loop-index.index end c.loop-index.invariant
