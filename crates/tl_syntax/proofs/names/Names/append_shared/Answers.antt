use Rattle.std.proofs.Common.{◌≡◌, ◌<◌, ◌-◌, ◌^◌, ◌++◌, ◌∷◌, [], None, length, map, arith}
use Rattle.std.proofs.lemmas.Grind.{common_steps}
use Rattle.std.specs.Rc.{rc_str_bytes}
use Rattle.tl_syntax.specs.Texts.{number_of}
use Rattle.tl_syntax.proofs.Texts.{IsNumbered-push}
use Rattle.tl_syntax.proofs.names.Names.append_shared.Goals as goal

-- the text is new, and both the list and the map have it at the next number
pub invariant_of-self-2 : goal.invariant_of-self-2
invariant_of-self-2 c =
    let names = map rc_str_bytes c.self.inside.texts.items in
    let text = rc_str_bytes c.args.text in
    let pushed : map rc_str_bytes c.push_reserved.new.self.items ≡ names ++ text ∷ [] = grind (arith, common_steps) in
    let absent : number_of names text ≡ None = rw c.self.view_is c.requires.new in
    let room : length names < 2 ^ 32 - 1 = rw c.self.view_is c.requires.room in
    let next : c.len-number.result ≡ length names = grind (arith, common_steps) in
    rw pushed (IsNumbered-push rc_str_bytes names text c.self.inside.numbers c.insert.new.self c.len-number.result c.self.invariant absent
    room next c.in_ok-insert.ensures.updates)
