use Rattle.std.proofs.Common.{[], refl, sym, ap, ◌∙◌}
use Rattle.tl_terms.specs.Pairs.{pair_of}
use Rattle.tl_terms.specs.Problem.{PlainProblem}
use Rattle.tl_space.specs.Inner.{arriving_in}
use Rattle.tl_space.specs.Spaces.{problem_of, kept_of}
use Rattle.tl_space.proofs.SpaceLaws.{all-kept, keeps-kept, keeps-problem, keeps-grows, grows-behind}
use Rattle.tl_space.proofs.Arriving.{arrives-as, root-pair, root-walk, root-told}
use Rattle.tl_space.proofs.space.Space.root.Goals as goal

pub returns-in-Err-clause-grows : goal.returns-in-Err-clause-grows
returns-in-Err-clause-grows c = keeps-grows c.args.self.now c.root_key.new.self c.root_key.ensures.keeps

pub returns-in-Err-clause-kept : goal.returns-in-Err-clause-kept
returns-in-Err-clause-kept c = all-kept c.root_key.new.self

pub returns-in-Err-clause-refused : goal.returns-in-Err-clause-refused
returns-in-Err-clause-refused c = keeps-kept c.args.self.now c.root_key.new.self c.root_key.ensures.keeps

pub arrive_first-requires-clause-empty : goal.arrive_first-requires-clause-empty
arrive_first-requires-clause-empty c = keeps-kept c.args.self.now c.root_key.new.self c.root_key.ensures.keeps ∙ c.requires.empty

pub arrive_first-requires-clause-walk : goal.arrive_first-requires-clause-walk
arrive_first-requires-clause-walk c = root-walk c.root_key.new.self c.in-Ok.key c.in-Ok.ensures.key

pub returns-in-Ok-arrive_first-clause-grows : goal.returns-in-Ok-arrive_first-clause-grows
returns-in-Ok-arrive_first-clause-grows c = grows-behind c.args.self.now c.root_key.new.self c.arrive_first.new.self
    c.root_key.ensures.keeps c.arrive_first.ensures.grows

pub returns-in-Ok-arrive_first-clause-arrival : goal.returns-in-Ok-arrive_first-clause-arrival
returns-in-Ok-arrive_first-clause-arrival c =
    let s = c.args.self.now in
    let t = c.root_key.new.self in
    let k = c.root_key.ensures.keeps in
    arrives-as s t (kept_of c.arrive_first.new.self) (arriving_in t c.in-Ok.key)
    (pair_of (problem_of s) []) [] [] c.in-Ok-arrive_first.arrival
    (keeps-kept s t k) (ap (λ (p : PlainProblem). pair_of p []) (sym (keeps-problem s t k)) ∙ root-pair t c.in-Ok.key c.in-Ok.ensures.key)
    refl c.in-Ok-arrive_first.ensures.arrival

pub returns-in-Ok-arrive_first-clause-kept : goal.returns-in-Ok-arrive_first-clause-kept
returns-in-Ok-arrive_first-clause-kept c = all-kept c.arrive_first.new.self

pub returns-in-Err-Range-clause-grows : goal.returns-in-Err-Range-clause-grows
returns-in-Err-Range-clause-grows c = grows-behind c.args.self.now c.root_key.new.self c.arrive_first.new.self c.root_key.ensures.keeps
    c.arrive_first.ensures.grows

pub returns-in-Err-Range-clause-kept : goal.returns-in-Err-Range-clause-kept
returns-in-Err-Range-clause-kept c = all-kept c.arrive_first.new.self

pub returns-in-Err-Range-clause-refused : goal.returns-in-Err-Range-clause-refused
returns-in-Err-Range-clause-refused c = c.in-Err-Range.ensures.refused ∙
    keeps-kept c.args.self.now c.root_key.new.self c.root_key.ensures.keeps

pub returns-in-Err-Range-clause-cause : goal.returns-in-Err-Range-clause-cause
returns-in-Err-Range-clause-cause c =
    let s = c.args.self.now in
    let t = c.root_key.new.self in
    root-told t c.in-Ok.key (problem_of s) c.in-Err-Range.note (keeps-problem s t c.root_key.ensures.keeps) c.in-Ok.ensures.key
    (rw c.in-Err-Range.field-0-is at c.in-Err-Range.ensures.cause)

pub returns-in-Err-NoMemory-clause-grows : goal.returns-in-Err-NoMemory-clause-grows
returns-in-Err-NoMemory-clause-grows c = grows-behind c.args.self.now c.root_key.new.self c.arrive_first.new.self c.root_key.ensures.keeps
    c.arrive_first.ensures.grows

pub returns-in-Err-NoMemory-clause-kept : goal.returns-in-Err-NoMemory-clause-kept
returns-in-Err-NoMemory-clause-kept c = all-kept c.arrive_first.new.self

pub returns-in-Err-NoMemory-clause-refused : goal.returns-in-Err-NoMemory-clause-refused
returns-in-Err-NoMemory-clause-refused c = c.in-Err-NoMemory.ensures.refused ∙
    keeps-kept c.args.self.now c.root_key.new.self c.root_key.ensures.keeps
