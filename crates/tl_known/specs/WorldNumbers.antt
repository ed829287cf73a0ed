-- What a caller sees of numbered worlds: the world of each number.
use Rattle.std.specs.Prelude.{List}
use Rattle.tl_terms.specs.World.{World}
use Rattle.tl_known.specs.declared.worlds.Worlds.{Worlds}

-- the worlds of the numbers 0, 1 and on
abbrev pub worlds_in : Worlds → List World
worlds_in s = s.table.keys
