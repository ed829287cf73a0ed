use Rattle.std.proofs.Common.{◌<◌, ◌≤◌, length, take, refl, subst, sym, arith}
use Rattle.std.proofs.lemmas.Option.{slice_get_read}
use Rattle.tl_known.specs.TableNumbers.{AreNumbered}
use Rattle.tl_known.proofs.TableNumbers.{numbered-first, numbered-still}
use Rattle.tl_known.proofs.table_numbers.TableNumbers.keep_first.Goals as goal

pub returns-then-worlds-len : goal.returns-then-worlds-len
returns-then-worlds-len c ws h =
    let s = c.args.self.now in
    let k = c.args.worlds in
    let start = c.index-start.result.now in
    let below : k < length s.starts.items = omega (arith, c.if-worlds-len.true, c.len.ensures, s.starts.ok.0) in
    let first = numbered-first ws s.starts.items s.all.items k h start
    (slice_get_read s.starts.items (length s.starts.items) k start refl below c.index-start.ensures) in
    subst (λ starts. AreNumbered (take k ws) starts c.truncate-then-worlds-len.new.self.items) (sym c.truncate.ensures.items)
    (subst (AreNumbered (take k ws) (take k s.starts.items)) (sym c.truncate-then-worlds-len.ensures.items) first)

pub returns-else-worlds-len : goal.returns-else-worlds-len
returns-else-worlds-len c ws h =
    let s = c.args.self.now in
    let few : length s.starts.items ≤ c.args.worlds = omega (arith, c.if-worlds-len.false, c.len.ensures, s.starts.ok.0) in
    numbered-still ws s.starts.items s.all.items c.args.worlds h few
