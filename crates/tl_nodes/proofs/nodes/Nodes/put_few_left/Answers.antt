use Rattle.std.proofs.Common.{◌≡◌, ℕ, List, [], ◌∷◌, ◌++◌, true, length, take, slice_index_or, sym, ap, ◌∙◌, subst}
use Rattle.tl_nodes.specs.Fits.{all_below}
use Rattle.tl_nodes.specs.Left.{IsOpened}
use Rattle.tl_nodes.specs.Numbers.{trees}
use Rattle.tl_nodes.proofs.LeftNumbers.{opened-one, opened-join, opened-next, each-below}
use Rattle.tl_nodes.proofs.OpenedJoins.{leaves, all-trans}
use Rattle.tl_nodes.proofs.nodes.Nodes.put_few_left.Goals as goal
use Rattle.tl_nodes.proofs.nodes.Nodes.put_few_left.Goals.{in-Some, in-None}

pub keep_all-goes_on-requires : goal.keep_all-goes_on-requires
keep_all-goes_on-requires c =
    let ts = trees c.args.self.now in
    let part = slice_index_or c.args.parts.now c.loop-part.part-index 0 in
    subst (λ (is : List ℕ). all_below (length ts) is ≡ true) (sym c.as_slice.ensures)
    (all-trans part (length ts) (each-below (length ts) c.args.parts.now c.loop-part.part-index c.loop-part-test.true c.requires.below)
    c.in-Some.ids.now c.in-Some.ensures.below)

pub loop-part-preserved : goal.loop-part-preserved
loop-part-preserved c =
    let ts = trees c.args.self.now in
    let xs = c.args.parts.now in
    let j = c.loop-part.part-index in
    let part = slice_index_or xs j 0 in
    let before = take j xs in
    opened-next ts c.args.junction xs j c.match-nested.few c.loop-part-test.true (elim c.match-nested.branch [
      | in-Some w ↦ subst (λ (l : List ℕ). IsOpened ts c.args.junction (before ++ part ∷ []) l) (sym w.few-is)
          (opened-join ts c.args.junction before w.keep_all-goes_on.new.few w.as_slice.result.now part
          (w.in-Some.ensures.parts ∙ ap (leaves ts c.args.junction) (sym w.as_slice.ensures))
          (w.keep_all-goes_on.ensures (sym w.goes_on-is ∙ c.if-not-goes_on.false) before c.loop-part.invariant))
      | in-None w ↦ subst (λ (l : List ℕ). IsOpened ts c.args.junction (before ++ part ∷ []) l) (sym w.few-is)
          (opened-one ts c.args.junction before c.loop-part.few w.keep_one-goes_on.new.few part
          (each-below (length ts) xs j c.loop-part-test.true c.requires.below) w.in-None.ensures.parts
          (w.keep_one-goes_on.ensures (sym w.goes_on-is ∙ c.if-not-goes_on.false)) c.loop-part.invariant)
    ])
