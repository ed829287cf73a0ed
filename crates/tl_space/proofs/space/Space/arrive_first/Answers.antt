use Rattle.std.proofs.Common.{[], ap, ◌∙◌}
use Rattle.tl_search.specs.Graphs.{walk}
use Rattle.tl_search.specs.PairGraph.{pair_graph}
use Rattle.tl_space.specs.Inner.{way_in}
use Rattle.tl_space.specs.Kept.{paths_of}
use Rattle.tl_space.specs.Spaces.{problem_of, kept_of}
use Rattle.tl_space.specs.declared.numbers.Met.TheVariants as met
use Rattle.tl_space.proofs.Arriving.{known-comes, walk-later, fresh-comes}
use Rattle.tl_space.proofs.Keeping.{first-path, none-met}
use Rattle.tl_space.proofs.SpaceLaws.{keeps-kept, keeps-grows, grows-behind, numbers-later}
use Rattle.tl_space.proofs.space.Space.arrive_first.Goals as goal

pub returns-in-Ok-Known-clause-grows : goal.returns-in-Ok-Known-clause-grows
returns-in-Ok-Known-clause-grows c = keeps-grows c.args.self.now c.find.new.self c.find.ensures.keeps

pub returns-in-Ok-Known-clause-arrival : goal.returns-in-Ok-Known-clause-arrival
returns-in-Ok-Known-clause-arrival c = known-comes c.args.self.now c.find.new.self c.args.key c.find.ensures.keeps c.requires.key
    c.in-Ok-Known.arrival [] (rw c.in-Ok-Known.field-0-is at c.in-Ok-Known.ensures.found)

pub keep-requires-clause-key : goal.keep-requires-clause-key
keep-requires-clause-key c = numbers-later c.args.self.now c.find.new.self c.args.key c.find.ensures.keeps c.requires.key

pub keep-requires-clause-new : goal.keep-requires-clause-new
keep-requires-clause-new c = rw c.in-Ok-New.field-0-is at c.in-Ok-New.ensures.found

pub keep-requires-clause-met : goal.keep-requires-clause-met
keep-requires-clause-met c = none-met c.find.new.self (keeps-kept c.args.self.now c.find.new.self c.find.ensures.keeps ∙ c.requires.empty)

pub keep-requires-clause-walk : goal.keep-requires-clause-walk
keep-requires-clause-walk c =
    let t = c.find.new.self in
    ap (walk (pair_graph (problem_of t))) (first-path (paths_of t.from))
    ∙ walk-later c.args.self.now t c.args.key c.find.ensures.keeps c.requires.key c.in-Ok-New.numbers
    (rw c.in-Ok-New.field-0-is at c.in-Ok-New.ensures.found) [] c.requires.walk

pub returns-in-Ok-clause-grows : goal.returns-in-Ok-clause-grows
returns-in-Ok-clause-grows c = grows-behind c.args.self.now c.find.new.self c.keep.new.self c.find.ensures.keeps c.keep.ensures.grows

pub returns-in-Ok-clause-arrival : goal.returns-in-Ok-clause-arrival
returns-in-Ok-clause-arrival c =
    let t = c.find.new.self in
    fresh-comes c.args.self.now t c.args.key c.find.ensures.keeps c.requires.key c.in-Ok-New.numbers
    (rw c.in-Ok-New.field-0-is at c.in-Ok-New.ensures.found) c.in-Ok.k (kept_of c.keep.new.self)
    (way_in t met.First) [] c.in-Ok.ensures.number c.in-Ok.ensures.kept (first-path (paths_of t.from))

pub returns-in-Err-keep-clause-grows : goal.returns-in-Err-keep-clause-grows
returns-in-Err-keep-clause-grows c = grows-behind c.args.self.now c.find.new.self c.keep.new.self c.find.ensures.keeps c.keep.ensures.grows

pub returns-in-Err-keep-clause-refused : goal.returns-in-Err-keep-clause-refused
returns-in-Err-keep-clause-refused c = c.in-Err-keep.ensures.refused ∙ keeps-kept c.args.self.now c.find.new.self c.find.ensures.keeps

pub returns-in-Err-clause-grows : goal.returns-in-Err-clause-grows
returns-in-Err-clause-grows c = keeps-grows c.args.self.now c.find.new.self c.find.ensures.keeps

pub returns-in-Err-clause-refused : goal.returns-in-Err-clause-refused
returns-in-Err-clause-refused c = keeps-kept c.args.self.now c.find.new.self c.find.ensures.keeps
