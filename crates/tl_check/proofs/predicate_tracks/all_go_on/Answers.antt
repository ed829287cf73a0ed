use Rattle.std.proofs.Common.{◌≡◌, ◌≢◌, ◌<◌, ◌≤◌, ◌+◌, ℕ, length, slice_set, refl, sym, subst, arith, length-set, get_or-set_other}
use Rattle.std.proofs.lemmas.List.{take_more_set}
use Rattle.tl_check.proofs.TrailLaws.{so-far-on, so-far-end}
use Rattle.tl_check.specs.Trails.{TracksOn}
use Rattle.tl_check.specs.declared.predicate_tracks.PredicateTracks.{PredicateTracks}
use Rattle.tl_check.proofs.predicate_tracks.all_go_on.Goals as goal

pub loop-i-preserved : goal.loop-i-preserved
loop-i-preserved c =
    let now = c.loop-i.all in
    let i = c.loop-i.i in
    let next = c.go_on.new.self in
    let room : i < length now = omega arith in
    let size : length (slice_set now i next) ≡ length now = simp length-set in
    so-far-on c.args.changes.now c.args.next.now c.args.at c.args.all.now i now c.index-all-i.result next room c.index-all-i.is
    c.loop-i.invariant
    (slice_set now i next) size (take_more_set now i next room)
    (λ (k : ℕ) (d : PredicateTracks) (h : i + 1 ≤ k). let ne : k ≢ i = omega arith in rw get_or-set_other refl)
    (subst (λ (t : PredicateTracks). TracksOn c.args.changes.now c.args.next.now c.args.at t next)
    (sym c.index-all-i.is) c.in_ok-go_on.ensures)

pub returns : goal.returns
returns c =
    let done : length c.loop-i.all ≤ c.loop-i.i = omega arith in
    so-far-end c.args.changes.now c.args.next.now c.args.at c.args.all.now c.loop-i.i c.loop-i.all done c.loop-i.invariant
