use Rattle.std.proofs.Common.{ap, inl, subst, sym}
use Rattle.std.specs.Prelude.{Ok}
use Rattle.tl_terms.proofs.SameWorlds.{world-tells}
use Rattle.tl_terms.specs.SameWorlds.{world_eq}
use Rattle.tl_known.proofs.Numbering.{once, stored, added, absent, stay-added}
use Rattle.tl_known.proofs.TableNumbers.{numbered-later, later-of}
use Rattle.tl_known.specs.TableNumbers.{AreNumbered}
use Rattle.tl_known.specs.WorldNumbers.{worlds_in}
use Rattle.tl_known.proofs.worlds.Worlds.keep.Goals as goal

pub invariant_of-self : goal.invariant_of-self
invariant_of-self c =
    let numbers = c.args.self.now.numbers in
    record {
      one_to_one = once world_eq world-tells _ c.insert_full.ensures.unique;
      numbered = subst (λ ws. AreNumbered ws numbers.starts.items numbers.all.items)
          (sym c.in_err-number.ensures.err) c.args.self.now.numbered;
    }

pub add-requires-clause-numbered : goal.add-requires-clause-numbered
add-requires-clause-numbered c = numbered-later _ _ c.args.world _ _ (added world_eq world-tells _ _ _ c.in_ok-number.ensures.keys)
    c.args.self.now.numbered

pub add-requires-clause-source : goal.add-requires-clause-source
add-requires-clause-source c w e =
    let s = c.in_ok-number.ensures.stored in
    let at = stored world_eq world-tells c.args.world s.0 c.insert_full.new.self.keys c.in_ok-number.number s.1 s.2 in
    let source = c.args.source.now in
    later-of (worlds_in c.args.self.now) c.insert_full.new.self.keys c.in_ok-number.number source.from source.dels.now source.adds.now
    source.sets.now c.args.world w (added world_eq world-tells _ _ _ c.in_ok-number.ensures.keys) at e c.requires

pub returns-in_err-number-clause-kept : goal.returns-in_err-number-clause-kept
returns-in_err-number-clause-kept c = inl c.in_err-number.ensures.err

pub returns-in_err-number-clause-known : goal.returns-in_err-number-clause-known
returns-in_err-number-clause-known c n e = absurd (absent world_eq world-tells c.args.world _ c.in_err-number.ensures.absent n e)

pub returns-clause-number : goal.returns-clause-number
returns-clause-number c = let s = c.in_ok-number.ensures.stored in stored world_eq world-tells c.args.world s.0 c.insert_full.new.self.keys
    c.in_ok-number.number s.1 s.2

pub returns-clause-kept : goal.returns-clause-kept
returns-clause-kept c = added world_eq world-tells _ _ _ c.in_ok-number.ensures.keys

pub returns-clause-stay : goal.returns-clause-stay
returns-clause-stay c = stay-added _ _ c.args.world (added world_eq world-tells _ _ _ c.in_ok-number.ensures.keys)

pub returns-clause-known : goal.returns-clause-known
returns-clause-known c n e =
    let s = c.in_ok-number.ensures.stored in
    let at = stored world_eq world-tells c.args.world s.0 c.insert_full.new.self.keys c.in_ok-number.number s.1 s.2 in
    let still = stay-added _ _ c.args.world (added world_eq world-tells _ _ _ c.in_ok-number.ensures.keys) n c.args.world e in
    ap (λ i. Ok i) (once world_eq world-tells _ c.insert_full.ensures.unique c.in_ok-number.number n c.args.world at still)

pub invariant_of-self-2 : goal.invariant_of-self-2
invariant_of-self-2 c = record { one_to_one = once world_eq world-tells _ c.insert_full.ensures.unique; numbered = c.add.ensures }
