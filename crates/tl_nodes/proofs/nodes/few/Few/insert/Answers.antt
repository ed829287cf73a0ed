use Rattle.std.proofs.Common.{◌≡◌, ◌%◌, ◌++◌, ◌∷◌, [], slice_index_or, ℕ, Bool, true, false, List, nat_eq, sym, ap, ap₂, ◌∙◌}
use Rattle.std.specs.List.{list_any}
use Rattle.tl_nodes.specs.Seen.{all_seen}
use Rattle.tl_nodes.proofs.LeftNumbers.{put-last}
use Rattle.tl_nodes.proofs.SeenNumbers.{more-seen, unseen}
use Rattle.tl_nodes.proofs.nodes.few.Few.insert.Goals as goal
use Rattle.tl_nodes.proofs.nodes.few.Few.insert.Goals.{then-is_seen+else-len-gt-MOST+else-contains, else-is_seen}

pub invariant_of-self-2 : goal.invariant_of-self-2
invariant_of-self-2 c =
    ap₂ (λ (s : List Bool) (ids : List ℕ). all_seen s ids) c.put_seen.ensures c.in-Ok.ensures.items ∙
    more-seen c.self.inside.seen.items c.self.inside.ids.items c.args.id c.self.invariant

pub returns : goal.returns
returns c = λ h. put-last c.args.self.now c.push.new.self.items c.args.id there
    (c.in-Ok.ensures.items ∙ ap (λ (ids : List ℕ). ids ++ c.args.id ∷ []) c.self.view_is)
  where
    there : list_any (λ y. nat_eq y c.args.id) c.args.self.now ≡ false
    there = elim c.if-is_seen.branch [
      | then-is_seen+else-len-gt-MOST+else-contains w ↦ sym (ap (λ (ids : List ℕ). list_any (λ y. nat_eq y c.args.id) ids)
          w.as_slice-then-is_seen.ensures) ∙ (sym w.contains.ensures.value ∙ w.if-contains.false)
      | else-is_seen w ↦ ap (λ (ids : List ℕ). list_any (λ y. nat_eq y c.args.id) ids) (sym c.self.view_is) ∙
          unseen c.self.inside.seen.items c.self.inside.ids.items c.args.id c.self.invariant
          (sym (ap (λ (s : List Bool). slice_index_or s (c.args.id % 4096) true) c.as_slice.ensures.value) ∙
          (sym c.is_seen.ensures ∙ w.if-is_seen.false))
    ]
