use Rattle.std.proofs.Common.{take, refl, sym, ap₂, ◌∙◌}
use Rattle.tl_known.proofs.Numbering.{stored}
use Rattle.tl_space.proofs.Inserting.{pushed, not-found, new-place}
use Rattle.tl_space.proofs.MetWays.{taken-before, still-inside, on-error}
use Rattle.tl_space.proofs.SpaceLaws.{count}
use Rattle.tl_space.proofs.Keeping.{numbers_eq, numbers-tells, kept-after, still-kept, labels-still, kept-by-with, remembered-after}
use Rattle.tl_space.proofs.Keeping.{kept-by-same, remembered-same, kept-same, kept-stays-same, labels-stay-same}
use Rattle.tl_space.proofs.space.Space.keep.Goals as goal

pub invariant_of-self : goal.invariant_of-self
invariant_of-self c =
    let s = c.args.self.now in
    record {
      lists = s.lists;
      named_worlds = s.named_worlds;
      kept = kept-by-same s s.pairs.keys _ refl c.in_err-push.ensures.refused;
      remembered = s.remembered;
      found = s.found;
    }

pub invariant_of-self-in-Ok : goal.invariant_of-self-in-Ok
invariant_of-self-in-Ok c =
    let s = c.args.self.now in
    let n = c.args.numbers in
    let m = c.args.met in
    let new = c.requires.new in
    let e = pushed numbers_eq numbers-tells s.pairs.keys _ n c.in-Ok.ensures.keys
    (not-found numbers_eq numbers-tells n s.pairs.keys new.new.absent) in
    let f = c.in_ok-push.ensures.done in
    let k = c.in-Ok.ensures.stored in
    let at = new-place numbers_eq numbers-tells n s.pairs.keys c.insert_full.new.self.keys c.in-Ok.at e new.new.absent
    (stored numbers_eq numbers-tells n k.0 c.insert_full.new.self.keys c.in-Ok.at k.1 k.2) in
    record {
      lists = s.lists;
      named_worlds = s.named_worlds;
      kept = kept-by-with s n m _ _ e f new.numbers new.new.absent c.requires.met c.requires.named c.requires.walk;
      remembered = remembered-after s n m _ _ e f c.args.key c.in-Ok.at _ c.requires.key at new.arrives c.remember.ensures;
      found = s.found;
    }

pub truncate-requires : goal.truncate-requires
truncate-requires c = still-inside c.args.self.now.from c.push.new.self c.args.met c.len-before.result c.len-before.ensures
    c.in_ok-push.ensures.done

pub invariant_of-self-in-Err : goal.invariant_of-self-in-Err
invariant_of-self-in-Err c =
    let s = c.args.self.now in
    let e = c.in-Err.ensures.err in
    let f = c.truncate.ensures ∙ (ap₂ take c.len-before.ensures c.in_ok-push.ensures.done ∙ taken-before s.from c.args.met) in
    record {
      lists = s.lists;
      named_worlds = s.named_worlds;
      kept = kept-by-same s _ _ e f;
      remembered = remembered-same s _ _ e f;
      found = s.found;
    }

pub returns-in-Err-clause-grows : goal.returns-in-Err-clause-grows
returns-in-Err-clause-grows c =
    let s = c.args.self.now in
    let e = c.in-Err.ensures.err in
    let f = c.truncate.ensures ∙ (ap₂ take c.len-before.ensures c.in_ok-push.ensures.done ∙ taken-before s.from c.args.met) in
    record {
      task = refl;
      kept = kept-stays-same s _ _ e f;
      labels = labels-stay-same s _ _ e f;
      trees = λ i x h. h;
    }

pub returns-in-Err-clause-refused : goal.returns-in-Err-clause-refused
returns-in-Err-clause-refused c =
    let s = c.args.self.now in
    let f = c.truncate.ensures ∙ (ap₂ take c.len-before.ensures c.in_ok-push.ensures.done ∙ taken-before s.from c.args.met) in
    kept-same s _ _ c.in-Err.ensures.err f

pub returns-in_err-push-clause-grows : goal.returns-in_err-push-clause-grows
returns-in_err-push-clause-grows c =
    let s = c.args.self.now in
    let f = c.in_err-push.ensures.refused in
    record {
      task = refl;
      kept = kept-stays-same s s.pairs.keys _ refl f;
      labels = labels-stay-same s s.pairs.keys _ refl f;
      trees = λ i x h. h;
    }

pub returns-in_err-push-clause-refused : goal.returns-in_err-push-clause-refused
returns-in_err-push-clause-refused c = on-error c.from_residual.result
    (kept-same c.args.self.now c.args.self.now.pairs.keys _ refl c.in_err-push.ensures.refused)

pub returns-in-Ok-clause-grows : goal.returns-in-Ok-clause-grows
returns-in-Ok-clause-grows c =
    let s = c.args.self.now in
    let n = c.args.numbers in
    let m = c.args.met in
    let new = c.requires.new in
    let e = pushed numbers_eq numbers-tells s.pairs.keys _ n c.in-Ok.ensures.keys
    (not-found numbers_eq numbers-tells n s.pairs.keys new.new.absent) in
    let f = c.in_ok-push.ensures.done in
    record {
      task = refl;
      kept = still-kept s n m _ _ e f;
      labels = labels-still s n m _ _ e f;
      trees = λ i x h. h;
    }

pub returns-in-Ok-clause-number : goal.returns-in-Ok-clause-number
returns-in-Ok-clause-number c =
    let s = c.args.self.now in
    let n = c.args.numbers in
    let new = c.requires.new in
    let e = pushed numbers_eq numbers-tells s.pairs.keys _ n c.in-Ok.ensures.keys
    (not-found numbers_eq numbers-tells n s.pairs.keys new.new.absent) in
    let k = c.in-Ok.ensures.stored in
    new-place numbers_eq numbers-tells n s.pairs.keys c.insert_full.new.self.keys c.in-Ok.at e new.new.absent
    (stored numbers_eq numbers-tells n k.0 c.insert_full.new.self.keys c.in-Ok.at k.1 k.2)
    ∙ sym (count s)

pub returns-in-Ok-clause-kept : goal.returns-in-Ok-clause-kept
returns-in-Ok-clause-kept c =
    let s = c.args.self.now in
    let n = c.args.numbers in
    let m = c.args.met in
    let new = c.requires.new in
    let e = pushed numbers_eq numbers-tells s.pairs.keys _ n c.in-Ok.ensures.keys
    (not-found numbers_eq numbers-tells n s.pairs.keys new.new.absent) in
    let f = c.in_ok-push.ensures.done in
    kept-after s n m _ _ e f
