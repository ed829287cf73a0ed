use Rattle.std.proofs.Common.{◌<◌, ◌++◌, ◌∷◌, List, length, [], sym, ap, subst, ◌∙◌, eqb-true}
use Rattle.tl_syntax.specs.declared.action.Action.{Action}
use Rattle.tl_search.specs.PairGraph.{next_pair}
use Rattle.tl_space.specs.Inner.{arriving_in, way_after}
use Rattle.tl_space.specs.Spaces.{problem_of, kept_of}
use Rattle.tl_space.proofs.SpaceLaws.{all-kept, keeps-kept, keeps-problem, keeps-grows, grows-behind}
use Rattle.tl_space.proofs.Arriving.{child-walk, child-pair, child-told, arrives-as, path-later}
use Rattle.tl_space.proofs.Forgetting.{new-is-unmet}
use Rattle.tl_space.proofs.Judging.{arguments-named}
use Rattle.tl_space.proofs.PrunedChildren.{pruned-arrives}
use Rattle.tl_space.proofs.space.Space.child.Goals as goal

pub returns-in-Err-clause-grows : goal.returns-in-Err-clause-grows
returns-in-Err-clause-grows g c = keeps-grows c.args.self.now c.child_key.new.self c.child_key.ensures.keeps

pub returns-in-Err-clause-kept : goal.returns-in-Err-clause-kept
returns-in-Err-clause-kept g c = all-kept c.child_key.new.self

pub returns-in-Err-clause-refused : goal.returns-in-Err-clause-refused
returns-in-Err-clause-refused g c = keeps-kept c.args.self.now c.child_key.new.self c.child_key.ensures.keeps

pub returns-in-Ok-None-clause-grows : goal.returns-in-Ok-None-clause-grows
returns-in-Ok-None-clause-grows g c = keeps-grows c.args.self.now c.child_key.new.self c.child_key.ensures.keeps

pub returns-in-Ok-None-clause-arrival : goal.returns-in-Ok-None-clause-arrival
returns-in-Ok-None-clause-arrival g c = λ x e.
    let s = c.args.self.now in
    let t = c.child_key.new.self in
    pruned-arrives (problem_of s) x c.args.a.now (kept_of s) (kept_of t) (x.path ++ c.args.a.now ∷ [])
    (keeps-kept s t c.child_key.ensures.keeps) ((rw c.in-Ok-None.field-0-is at c.in-Ok-None.ensures.pruned) x e)

pub returns-in-Ok-None-clause-kept : goal.returns-in-Ok-None-clause-kept
returns-in-Ok-None-clause-kept g c = all-kept c.child_key.new.self

pub arrive_after-requires-clause-key : goal.arrive_after-requires-clause-key
arrive_after-requires-clause-key g c = rw c.in-Ok-Some.field-0-is at c.in-Ok-Some.ensures.numbers

pub arrive_after-requires-clause-unmet : goal.arrive_after-requires-clause-unmet
arrive_after-requires-clause-unmet g c = λ t.
    new-is-unmet c.args.self.now c.child_key.new.self c.in-Ok-Some.key c.child_key.ensures.keeps c.child_key.ensures.met
    (rw c.in-Ok-Some.field-0-is at c.in-Ok-Some.ensures.numbers)
    (eqb-true c.in-Ok-Some.key.world c.len-before.result t ∙ c.len-before.ensures.len)

pub arrive_after-requires-clause-at : goal.arrive_after-requires-clause-at
arrive_after-requires-clause-at g c = subst (λ xs. c.args.at < length xs)
    (sym (keeps-kept c.args.self.now c.child_key.new.self c.child_key.ensures.keeps)) c.requires.at

pub arrive_after-requires-clause-named : goal.arrive_after-requires-clause-named
arrive_after-requires-clause-named g c = arguments-named c.args.self.now c.child_key.new.self c.args.at c.args.a.now
    c.child_key.ensures.keeps c.requires.at c.requires.executable

pub arrive_after-requires-clause-walk : goal.arrive_after-requires-clause-walk
arrive_after-requires-clause-walk g c = child-walk c.args.self.now c.child_key.new.self c.child_key.ensures.keeps c.args.at c.args.a.now
    c.in-Ok-Some.key c.requires.at (rw c.in-Ok-Some.field-0-is at c.in-Ok-Some.ensures.key)

pub returns-in-Ok-clause-grows : goal.returns-in-Ok-clause-grows
returns-in-Ok-clause-grows g c = grows-behind c.args.self.now c.child_key.new.self c.arrive_after.new.self c.child_key.ensures.keeps
    c.arrive_after.ensures.grows

pub returns-in-Ok-clause-arrival : goal.returns-in-Ok-clause-arrival
returns-in-Ok-clause-arrival g c = λ x e.
    let s = c.args.self.now in
    let t = c.child_key.new.self in
    let k = c.child_key.ensures.keeps in
    let a = c.args.a.now in
    arrives-as s t (kept_of c.arrive_after.new.self) (arriving_in t c.in-Ok-Some.key) (next_pair (problem_of s) x.node a)
    (way_after t c.args.at a) (x.path ++ a ∷ []) c.in-Ok.arrival
    (keeps-kept s t k) (child-pair (problem_of s) x.node a t c.in-Ok-Some.key (keeps-problem s t k)
    ((rw c.in-Ok-Some.field-0-is at c.in-Ok-Some.ensures.key) x e))
    (ap (λ (q : List Action). q ++ a ∷ []) (path-later s t k c.args.at x e)) c.in-Ok.ensures.arrival

pub returns-in-Ok-clause-kept : goal.returns-in-Ok-clause-kept
returns-in-Ok-clause-kept g c = all-kept c.arrive_after.new.self

pub returns-in-Err-Range-clause-grows : goal.returns-in-Err-Range-clause-grows
returns-in-Err-Range-clause-grows g c = grows-behind c.args.self.now c.child_key.new.self c.arrive_after.new.self c.child_key.ensures.keeps
    c.arrive_after.ensures.grows

pub returns-in-Err-Range-clause-kept : goal.returns-in-Err-Range-clause-kept
returns-in-Err-Range-clause-kept g c = all-kept c.arrive_after.new.self

pub returns-in-Err-Range-clause-refused : goal.returns-in-Err-Range-clause-refused
returns-in-Err-Range-clause-refused g c = c.in-Err-Range.ensures.refused ∙
    keeps-kept c.args.self.now c.child_key.new.self c.child_key.ensures.keeps

pub returns-in-Err-Range-clause-cause : goal.returns-in-Err-Range-clause-cause
returns-in-Err-Range-clause-cause g c = λ x e.
    let s = c.args.self.now in
    let t = c.child_key.new.self in
    child-told (problem_of s) x.node c.args.a.now t c.in-Ok-Some.key c.in-Err-Range.note (keeps-problem s t c.child_key.ensures.keeps)
    ((rw c.in-Ok-Some.field-0-is at c.in-Ok-Some.ensures.key) x e) (rw c.in-Err-Range.field-0-is at c.in-Err-Range.ensures.cause)

pub returns-in-Err-NoMemory-clause-grows : goal.returns-in-Err-NoMemory-clause-grows
returns-in-Err-NoMemory-clause-grows g c = grows-behind c.args.self.now c.child_key.new.self c.arrive_after.new.self
    c.child_key.ensures.keeps c.arrive_after.ensures.grows

pub returns-in-Err-NoMemory-clause-kept : goal.returns-in-Err-NoMemory-clause-kept
returns-in-Err-NoMemory-clause-kept g c = all-kept c.arrive_after.new.self

pub returns-in-Err-NoMemory-clause-refused : goal.returns-in-Err-NoMemory-clause-refused
returns-in-Err-NoMemory-clause-refused g c = c.in-Err-NoMemory.ensures.refused ∙
    keeps-kept c.args.self.now c.child_key.new.self c.child_key.ensures.keeps
