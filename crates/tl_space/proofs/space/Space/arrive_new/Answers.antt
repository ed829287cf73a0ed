use Rattle.std.proofs.Common.{◌<◌, List, length, Some, sym, ap, subst, ◌∙◌}
use Rattle.tl_action.specs.Actions.{ArgumentsAreNamed}
use Rattle.tl_search.specs.Arrivals.{Arrives}
use Rattle.tl_search.specs.Graphs.{walk}
use Rattle.tl_search.specs.KeptPairs.{KeptPair}
use Rattle.tl_search.specs.PairGraph.{pair_graph}
use Rattle.tl_space.specs.Inner.{arriving_in, way_after}
use Rattle.tl_space.specs.Spaces.{problem_of, kept_of}
use Rattle.tl_space.proofs.Arriving.{known-comes, walk-later, fresh-comes, way-later}
use Rattle.tl_space.proofs.Forgetting.{unmet-later}
use Rattle.tl_space.proofs.SpaceLaws.{keeps-kept, keeps-names, keeps-grows, grows-behind, numbers-later}
use Rattle.tl_space.proofs.space.Space.arrive_new.Goals as goal

pub forget_world-requires : goal.forget_world-requires
forget_world-requires c = unmet-later c.args.self.now c.find_in_new.new.self c.args.key.world c.find_in_new.ensures.keeps
    c.find_in_new.ensures.met c.requires.unmet

pub returns-in-Ok-Known-clause-grows : goal.returns-in-Ok-Known-clause-grows
returns-in-Ok-Known-clause-grows c = grows-behind c.args.self.now c.find_in_new.new.self c.forget_world.new.self c.find_in_new.ensures.keeps
    c.forget_world.ensures.grows

pub returns-in-Ok-Known-clause-arrival : goal.returns-in-Ok-Known-clause-arrival
returns-in-Ok-Known-clause-arrival c =
    let s = c.args.self.now in
    let path = way_after s c.args.at c.args.a.now in
    subst (λ (xs : List KeptPair). Arrives (kept_of s) xs (Some (arriving_in s c.args.key)) path c.in-Ok-Known.arrival)
    (sym c.forget_world.ensures.kept)
    (known-comes s c.find_in_new.new.self c.args.key c.find_in_new.ensures.keeps c.requires.key c.in-Ok-Known.arrival path
    (rw c.in-Ok-Known.field-0-is at c.in-Ok-Known.ensures.found))

pub keep_after-requires-clause-key : goal.keep_after-requires-clause-key
keep_after-requires-clause-key c = numbers-later c.args.self.now c.find_in_new.new.self c.args.key c.find_in_new.ensures.keeps
    c.requires.key

pub keep_after-requires-clause-new : goal.keep_after-requires-clause-new
keep_after-requires-clause-new c = rw c.in-Ok-New.field-0-is at c.in-Ok-New.ensures.found

pub keep_after-requires-clause-at : goal.keep_after-requires-clause-at
keep_after-requires-clause-at c = subst (λ xs. c.args.at < length xs) (sym
    (keeps-kept c.args.self.now c.find_in_new.new.self c.find_in_new.ensures.keeps)) c.requires.at

pub keep_after-requires-clause-named : goal.keep_after-requires-clause-named
keep_after-requires-clause-named c = subst (λ n. ArgumentsAreNamed n c.args.a.now)
    (sym (keeps-names c.args.self.now c.find_in_new.new.self c.find_in_new.ensures.keeps)) c.requires.named

pub keep_after-requires-clause-walk : goal.keep_after-requires-clause-walk
keep_after-requires-clause-walk c =
    let s = c.args.self.now in
    let t = c.find_in_new.new.self in
    ap (walk (pair_graph (problem_of t))) (way-later s t c.args.at c.args.a.now c.find_in_new.ensures.keeps)
    ∙ walk-later s t c.args.key c.find_in_new.ensures.keeps c.requires.key c.in-Ok-New.numbers
    (rw c.in-Ok-New.field-0-is at c.in-Ok-New.ensures.found) (way_after s c.args.at c.args.a.now) c.requires.walk

pub returns-in-Ok-clause-grows : goal.returns-in-Ok-clause-grows
returns-in-Ok-clause-grows c = grows-behind c.args.self.now c.find_in_new.new.self c.keep_after.new.self c.find_in_new.ensures.keeps
    c.keep_after.ensures.grows

pub returns-in-Ok-clause-arrival : goal.returns-in-Ok-clause-arrival
returns-in-Ok-clause-arrival c =
    let t = c.find_in_new.new.self in
    fresh-comes c.args.self.now t c.args.key c.find_in_new.ensures.keeps c.requires.key c.in-Ok-New.numbers
    (rw c.in-Ok-New.field-0-is at c.in-Ok-New.ensures.found) c.in-Ok.k (kept_of c.keep_after.new.self)
    (way_after t c.args.at c.args.a.now) (way_after c.args.self.now c.args.at c.args.a.now) c.in-Ok.ensures.number c.in-Ok.ensures.kept
    (way-later c.args.self.now t c.args.at c.args.a.now c.find_in_new.ensures.keeps)

pub returns-in-Err-keep_after-clause-grows : goal.returns-in-Err-keep_after-clause-grows
returns-in-Err-keep_after-clause-grows c = grows-behind c.args.self.now c.find_in_new.new.self c.keep_after.new.self
    c.find_in_new.ensures.keeps c.keep_after.ensures.grows

pub returns-in-Err-keep_after-clause-refused : goal.returns-in-Err-keep_after-clause-refused
returns-in-Err-keep_after-clause-refused c = c.in-Err-keep_after.ensures.refused ∙
    keeps-kept c.args.self.now c.find_in_new.new.self c.find_in_new.ensures.keeps

pub returns-in-Err-clause-grows : goal.returns-in-Err-clause-grows
returns-in-Err-clause-grows c = keeps-grows c.args.self.now c.find_in_new.new.self c.find_in_new.ensures.keeps

pub returns-in-Err-clause-refused : goal.returns-in-Err-clause-refused
returns-in-Err-clause-refused c = keeps-kept c.args.self.now c.find_in_new.new.self c.find_in_new.ensures.keeps
