-- What is left to be written, when a formula is begun and when a part more of it is.
use Rattle.std.proofs.Common.{◌≡◌, ◌<◌, ◌+◌, ℕ, List, [], ◌∷◌, ◌++◌, true, false, cond, map, flat_map, length, drop, slice_get, Some, None}
use Rattle.std.proofs.Common.{refl, sym, ap, ◌∙◌, subst, codes, append_assoc, add-one, arith, zero, suc, drop-cons, option_map, unwrap_or}
use Rattle.std.proofs.Common.{◌⊎◌, inl, inr}
use Rattle.std.proofs.lemmas.Bool.Decides.{leb_tells}
use Rattle.std.proofs.lemmas.List.{append-nil, drop_all, reverse-append}
use Rattle.std.proofs.lemmas.Option.{slice_get-map, slice_get_within, get_or_from_slice_get}
use Rattle.tl_syntax.specs.declared.problem.Problem.{Problem}
use Rattle.tl_syntax.proofs.ListLaws.{Each-append}
use Rattle.tl_nodes.specs.declared.node.Node.{Node}
use Rattle.tl_nodes.specs.declared.nodes.Nodes.{Nodes}
use Rattle.tl_nodes.specs.NodeTrees.{tree_at, tree_of_node}
use Rattle.tl_nodes.specs.Numbers.{trees, Denotes}
use Rattle.tl_nodes.proofs.TreesOfNodes.{at-is}
use Rattle.tl_label.specs.declared.rests.Rest.{Rest}
use Rattle.tl_label.specs.Heads.{part_ids, is_open, head_text, HasBasic, subformulas}
use Rattle.tl_label.specs.Labels.{formula_text, most_bytes, label_of}
use Rattle.tl_label.specs.Lines.{Written, after}
use Rattle.tl_label.specs.Parts.{after_spaces}
use Rattle.tl_label.specs.Rests.{text_at, rest_from, rest_text, left_text, AreThere}
use Rattle.tl_label.proofs.Lines.{after-append, after-nil, after-none, after-fits, after-long}
use Rattle.tl_label.proofs.NodeTexts.{parts-at, node-text, tail_text}

-- ---- lists that are known by their numbers

drop-at : {A : Type 0} (xs : List A) (k : ℕ) (x : A) → slice_get xs k ≡ Some x → drop k xs ≡ x ∷ drop (k + 1) xs
drop-at xs k x h = rw add-one (drop-cons xs k x (slice_get_within xs k x h)) ∙
    ap (λ y. y ∷ drop (k + 1) xs) (get_or_from_slice_get xs k x x h)

drop-none : {A : Type 0} (xs : List A) (k : ℕ) → slice_get xs k ≡ None → drop k xs ≡ []
drop-none [] k h = drop_all k [] (omega arith)
drop-none (x ∷ xs) zero h = let no_item : ⊥ = cc in absurd no_item
drop-none (x ∷ xs) (suc k) h = drop-none xs k h

module _ (p : Problem) (s : Nodes) where
  -- ---- the stack

  pub left-none : left_text p s [] ≡ []
  unfolding left_text
  left-none = refl

  pub left-more : (rests : List Rest) (r : Rest) → left_text p s (rests ++ r ∷ []) ≡ rest_text p s r ++ left_text p s rests
  unfolding left_text
  left-more rests r = ap (flat_map (rest_text p s)) (reverse-append rests (r ∷ []))

  -- ---- a formula is begun

  text-of : (id : ℕ) (n : Node) → Denotes s id (tree_of_node (trees s) n) → text_at p s id ≡ head_text p.names p.domain n ++
      tail_text p (trees s) n
  text-of id n h = ap (formula_text p.names p.domain) (at-is (trees s) id (tree_of_node (trees s) n) h) ∙ node-text p (trees s) n

  pub begun-open : (id : ℕ) (n : Node) (l m : Written) (rests : List Rest) → Denotes s id (tree_of_node (trees s) n) → is_open n ≡ true →
      m ≡ after l (head_text p.names p.domain n) → after m (left_text p s (rests ++ record { id = id; part = 0 } ∷ [])) ≡
      after l (text_at p s id ++ left_text p s rests)
  begun-open id n l m rests h o e =
      let head = head_text p.names p.domain n in
      let rest = rest_text p s (record { id = id; part = 0 }) in
      let whole : text_at p s id ≡ head ++ rest = text-of id n h ∙ ap (λ b. head ++ cond b (rest_from p (tree_of_node (trees s) n) 0) []) o
      ∙ ap (λ t. head ++ rest_from p t 0) (sym (at-is (trees s) id (tree_of_node (trees s) n) h)) in
      ap (λ k. after k (left_text p s (rests ++ record { id = id; part = 0 } ∷ []))) e
      ∙ ap (after (after l head)) (left-more rests (record { id = id; part = 0 }))
      ∙ sym (ap (λ t. after l (t ++ left_text p s rests)) whole
      ∙ ap (after l) (append_assoc head rest (left_text p s rests))
      ∙ after-append l head (rest ++ left_text p s rests))

  pub begun-closed : (id : ℕ) (n : Node) (l m : Written) (rests : List Rest) → Denotes s id (tree_of_node (trees s) n) → is_open n ≡ false →
      m ≡ after l (head_text p.names p.domain n) → after m (left_text p s rests) ≡ after l (text_at p s id ++ left_text p s rests)
  begun-closed id n l m rests h o e =
      let head = head_text p.names p.domain n in
      let whole : text_at p s id ≡ head = text-of id n h ∙ ap (λ b. head ++ cond b (rest_from p (tree_of_node (trees s) n) 0) []) o ∙
      append-nil head in
      ap (λ k. after k (left_text p s rests)) e
      ∙ sym (ap (λ t. after l (t ++ left_text p s rests)) whole ∙ after-append l head (left_text p s rests))

  -- ---- a part more

  parts-of-node : (id k : ℕ) (n : Node) → Denotes s id (tree_of_node (trees s) n) → HasBasic n → subformulas (tree_at (trees s) id) ≡
      map (tree_at (trees s)) (part_ids n)
  parts-of-node id k n h b = ap subformulas (at-is (trees s) id (tree_of_node (trees s) n) h) ∙ parts-at (trees s) n b

  pub rest-more : (r : Rest) (n : Node) (q : ℕ) → Denotes s r.id (tree_of_node (trees s) n) → HasBasic n → slice_get (part_ids n) r.part ≡
      Some q → rest_text p s r ≡ codes " " ++ (text_at p s q ++ rest_text p s (record { id = r.id; part = r.part + 1 }))
  unfolding rest_from after_spaces
  rest-more r n q h b e =
      let at = parts-of-node r.id r.part n h b in
      let f = formula_text p.names p.domain in
      let there : slice_get (subformulas (tree_at (trees s) r.id)) r.part ≡ Some (tree_at (trees s) q) =
      ap (λ fs. slice_get fs r.part) at ∙ slice_get-map (tree_at (trees s)) (part_ids n) r.part ∙
      ap (λ o. option_map (tree_at (trees s)) o) e in
      ap (λ fs. after_spaces (map f fs) ++ codes ")") (drop-at (subformulas (tree_at (trees s) r.id)) r.part (tree_at (trees s) q) there)
      ∙ ap (λ t. codes " " ++ t) (append_assoc (f (tree_at (trees s) q))
      (after_spaces (map f (drop (r.part + 1) (subformulas (tree_at (trees s) r.id))))) (codes ")"))

  pub rest-none : (r : Rest) (n : Node) → Denotes s r.id (tree_of_node (trees s) n) → HasBasic n → slice_get (part_ids n) r.part ≡ None →
      rest_text p s r ≡ codes ")"
  unfolding rest_from after_spaces
  rest-none r n h b e =
      let at = parts-of-node r.id r.part n h b in
      let f = formula_text p.names p.domain in
      let there : slice_get (subformulas (tree_at (trees s) r.id)) r.part ≡ None =
      ap (λ fs. slice_get fs r.part) at ∙ slice_get-map (tree_at (trees s)) (part_ids n) r.part ∙
      ap (λ o. option_map (tree_at (trees s)) o) e in
      ap (λ fs. after_spaces (map f fs) ++ codes ")") (drop-none (subformulas (tree_at (trees s) r.id)) r.part there)

  pub gone-on : (r : Rest) (n : Node) (q : ℕ) (l m k : Written) (rests more : List Rest) → Denotes s r.id (tree_of_node (trees s) n) →
      HasBasic n → slice_get (part_ids n) r.part ≡ Some q → m ≡ after l (codes " ") → more ≡ rests ++
      record { id = r.id; part = r.part + 1 } ∷ [] → k ≡ after m (text_at p s q ++ left_text p s more) → k ≡
      after l (rest_text p s r ++ left_text p s rests)
  gone-on r n q l m k rests more h b e sp at begun =
      let next = rest_text p s (record { id = r.id; part = r.part + 1 }) in
      let old = left_text p s rests in
      let x = text_at p s q in
      begun
      ∙ ap (λ y. after y (x ++ left_text p s more)) sp
      ∙ ap (λ ys. after (after l (codes " ")) (x ++ left_text p s ys)) at
      ∙ ap (λ t. after (after l (codes " ")) (x ++ t)) (left-more rests (record { id = r.id; part = r.part + 1 }))
      ∙ sym (ap (λ t. after l (t ++ old)) (rest-more r n q h b e)
      ∙ ap (λ t. after l (codes " " ++ t)) (append_assoc x next old)
      ∙ after-append l (codes " ") (x ++ (next ++ old)))

  pub ended : (r : Rest) (n : Node) (l m : Written) (rests : List Rest) → Denotes s r.id (tree_of_node (trees s) n) → HasBasic n →
      slice_get (part_ids n) r.part ≡ None → m ≡ after l (codes ")") → after m (left_text p s rests) ≡
      after l (rest_text p s r ++ left_text p s rests)
  ended r n l m rests h b e at =
      ap (λ y. after y (left_text p s rests)) at
      ∙ sym (ap (λ t. after l (t ++ left_text p s rests)) (rest-none r n h b e) ∙ after-append l (codes ")") (left_text p s rests))

  -- ---- all of it

  pub begun-all : (id : ℕ) (l m : Written) (rests more : List Rest) → l ≡ Some ([], most_bytes) → rests ≡ [] →
      after m (left_text p s more) ≡ after l (text_at p s id ++ left_text p s rests) → after m (left_text p s more) ≡
      after (Some ([], most_bytes)) (text_at p s id)
  begun-all id l m rests more first none e =
      e
      ∙ ap (λ k. after k (text_at p s id ++ left_text p s rests)) first
      ∙ ap (λ rs. after (Some ([], most_bytes)) (text_at p s id ++ rs)) (ap (left_text p s) none ∙ left-none)
      ∙ ap (after (Some ([], most_bytes))) (append-nil (text_at p s id))

  pub stepped : (l m : Written) (rests less more : List Rest) (r : Rest) (whole : Written) → rests ≡ less ++ r ∷ [] →
      after l (left_text p s rests) ≡ whole → after m (left_text p s more) ≡ after l (rest_text p s r ++ left_text p s less) →
      after m (left_text p s more) ≡ whole
  stepped l m rests less more r whole at was e = e ∙ ap (after l) (sym (left-more less r)) ∙
      ap (λ rs. after l (left_text p s rs)) (sym at) ∙ was

  label-is : (whole : List ℕ) → unwrap_or (option_map (λ w. w.0) (after (Some ([], most_bytes)) whole)) (codes "long") ≡ label_of whole
  label-is whole = elim (leb_tells (length whole) most_bytes) [
    | inl q ↦ ap (λ k. unwrap_or (option_map (λ w. w.0) k) (codes "long")) (after-fits ([], most_bytes) whole q.1) ∙ rw q.0 refl
    | inr q ↦ ap (λ k. unwrap_or (option_map (λ w. w.0) k) (codes "long")) (after-long ([], most_bytes) whole q.1) ∙ rw q.0 refl
  ]

  pub finished : (l : Written) (rests : List Rest) (whole : List ℕ) → (l ≡ None) ⊎ (rests ≡ []) → after l (left_text p s rests) ≡
      after (Some ([], most_bytes)) whole → unwrap_or (option_map (λ w. w.0) l) (codes "long") ≡ label_of whole
  finished l rests whole end e = ap (λ k. unwrap_or (option_map (λ w. w.0) k) (codes "long")) (same end ∙ e) ∙ label-is whole
    where
      same : (l ≡ None) ⊎ (rests ≡ []) → l ≡ after l (left_text p s rests)
      same (inl n) = n ∙ sym (ap (λ k. after k (left_text p s rests)) n ∙ after-none (left_text p s rests))
      same (inr n) = sym (ap (λ rs. after l rs) (ap (left_text p s) n ∙ left-none) ∙ after-nil l)

-- the formula that was begun last, and those before it
pub popped : (s : Nodes) (rests less : List Rest) (r : Rest) → rests ≡ less ++ r ∷ [] → AreThere s rests → AreThere s less ×
    (r.id < length (trees s))
popped s rests less r at h =
    let both = (Each-append (λ (x : Rest). x.id < length (trees s)) less (r ∷ [])).0 (subst (AreThere s) at h) in
    (both.0, both.1.0)
