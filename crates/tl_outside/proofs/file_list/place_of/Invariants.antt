use Rattle.std.proofs.Common.{◌≡◌, drop, map}
use Rattle.std.specs.FinMap.{find}
use Rattle.std.specs.Cmp.Lexicographic.{slice_cmp}
use Rattle.std.specs.Ordering.{nat_cmp}
use Rattle.tl_outside.specs.NamedFile.{name_and_bytes}
use Rattle.tl_outside.proofs.file_list.place_of.Given as goal

-- no file so far has the name
abbrev pub invariant-loop-index : goal.invariant-loop-index
invariant-loop-index l = find (slice_cmp nat_cmp) l.name (map name_and_bytes l.files) ≡
    find (slice_cmp nat_cmp) l.name (drop l.index (map name_and_bytes l.files))
