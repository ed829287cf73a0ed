use Rattle.std.proofs.Common.{◌≡◌, length, map, take}
use Rattle.std.specs.Rc.{rc_str_bytes}
use Rattle.tl_syntax.specs.Settled.{AreTheirPlaces, texts_in, numbers_in}
use Rattle.tl_syntax.proofs.names.Names.entries.Given as goal

abbrev pub invariant-loop-number : goal.invariant-loop-number
invariant-loop-number l = record {
  count : length l.entries.items ≡ l.number;
  texts : texts_in l.entries.items ≡ take l.number (map rc_str_bytes l.text-items);
  numbers : AreTheirPlaces (numbers_in l.entries.items);
}
