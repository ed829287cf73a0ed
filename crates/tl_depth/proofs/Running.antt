-- Each step of the search's loop keeps what is true at every moment.
use Rattle.std.proofs.Common.{◌≡◌, ◌≢◌, ◌≤◌, ◌<◌, ◌+◌, ℕ, zero, suc, List, [], ◌∷◌, ◌++◌, length, take, drop, set, slice_index_or, Some}
use Rattle.std.proofs.Common.{None, refl, sym, ap, ◌∙◌, subst, arith, length-append}
use Rattle.std.specs.List.{slice_get}
use Rattle.tl_syntax.specs.declared.action.Action.{Action}
use Rattle.tl_syntax.specs.Lists.{Each}
use Rattle.tl_depth.specs.ActionGraphs.{ActionGraph, IsLawful, AreActionsOf}
use Rattle.tl_depth.specs.Search.{Reports, Frame, advanced, entered, IsCovered, IsUnderWay, IsDepthFirst, IsDeeper, ReportsOneMore}
use Rattle.tl_depth.specs.Tables.{met_in, IsUncut, AllDiffer, IsCounted}
use Rattle.tl_depth.specs.Levels.{level_node, frame_of, frames_of, stepped, IsRunning}
use Rattle.tl_depth.specs.declared.level.Level.{Level}
use Rattle.tl_depth.proofs.ListFacts.{each_last}
use Rattle.tl_depth.proofs.Exploring.{met-explored, some-left}
use Rattle.tl_depth.proofs.Tables.{met_in-at, met_in-fresh, met_in-pushed, met_in-set, met_in-kept}
use Rattle.tl_depth.proofs.Work.{count-begun, count-begun-last, count-advanced, count-last, count-fresh, count-deeper, count-kept}
use Rattle.tl_depth.proofs.Work.{count-left, count-climbed}
use Rattle.tl_depth.proofs.LevelFacts.{get-rest, rest-get, rest-none, get-index, get-within, frames-last, frame-more, frames-more}
use Rattle.tl_depth.proofs.LevelFacts.{frame-stepped}
use Rattle.tl_depth.proofs.SearchSteps.{advance, leave, climb, reporting}
use Rattle.tl_depth.proofs.Meeting.{meet-last, meet-kept, meet-entered, begin-last, begin-entered}

each_first : {A : Type 0} (P : A → Type 0) (xs ys : List A) → Each P (xs ++ ys) → Each P xs
each_first P [] ys h = tt
each_first P (x ∷ xs) ys h = (h.0, each_first P xs ys h.1)

each_end : {A : Type 0} (P : A → Type 0) (xs : List A) (y : A) → Each P (xs ++ y ∷ []) → P y
each_end P [] y h = h.0
each_end P (x ∷ xs) y h = each_end P xs y h.1

pub differ-last : {Node : Type 0} (kept : List Node) (q : Node) → AllDiffer kept → Each (λ y. y ≢ q) kept → AllDiffer (kept ++ q ∷ [])
differ-last [] q d f = (tt, tt)
differ-last {Node = Node} (x ∷ kept) q d f = (each_last (λ y. y ≢ x) kept q d.0 (λ e. f.0 (sym e)), differ-last kept q d.1 f.1)

set-length : (most : List ℕ) (k r : ℕ) → length (set most k r) ≡ length most
set-length [] k r = refl
set-length (m ∷ most) zero r = refl
set-length (m ∷ most) (suc k) r = omega (arith, set-length most k r)

placed-more : {Node : Type 0} (kept : List Node) (q : Node) (levels : List Level) → Each (λ (c : Level). c.at < length kept) levels →
    Each (λ (c : Level). c.at < length (kept ++ q ∷ [])) levels
placed-more kept q [] p = tt
placed-more kept q (c ∷ levels) p = (omega (arith, p.0, length-append kept (q ∷ [])), placed-more kept q levels p.1)

module _ {Node : Type 0} (same : Discrete Node) (g : ActionGraph Node) (n : ℕ) (lawful : IsLawful g) where
  -- ---- the search begins

  pub begins-last : (reported : Reports Node) → n ≡ 0 → (g.Accepts g.root → ⊥) → IsRunning same g n reported (g.root ∷ []) (n ∷ []) [] 0
  unfolding frames_of met_in
  begins-last reported z refused = record {
    differ = (tt, tt);
    sized = refl;
    placed = tt;
    searching = begin-last same g n lawful reported (met_in same (g.root ∷ []) (n ∷ []))
        (met_in-at same (g.root ∷ []) (n ∷ []) 0 g.root n (tt, tt) refl refl)
        (λ x d. met_in-fresh same (g.root ∷ []) (n ∷ []) x ((λ e. d (sym e)), tt)) refused z;
    counted = subst (λ m. IsCounted g (g.root ∷ []) (m ∷ []) [] 0) (sym z) (count-begun-last g g.root);
  }

  pub begins : (reported : Reports Node) (c : Level) → 0 < n → (g.Accepts g.root → ⊥) → c.at ≡ 0 → c.left ≡ n → c.tried ≡ 0 →
      AreActionsOf g g.root c.actions → IsRunning same g n reported (g.root ∷ []) (n ∷ []) (c ∷ []) 0
  unfolding frames_of met_in
  begins reported c p refused at left tried all = record {
    differ = (tt, tt);
    sized = refl;
    placed = (omega (arith, at), tt);
    searching = subst (λ f. IsDepthFirst g n reported (met_in same (g.root ∷ []) (n ∷ [])) (f ∷ [])) is
        (begin-entered same g n lawful reported (met_in same (g.root ∷ []) (n ∷ []))
        (met_in-at same (g.root ∷ []) (n ∷ []) 0 g.root n (tt, tt) refl refl)
        (λ x d. met_in-fresh same (g.root ∷ []) (n ∷ []) x ((λ e. d (sym e)), tt)) refused p c.actions all);
    counted = subst (λ f. IsCounted g (g.root ∷ []) (n ∷ []) (f ∷ []) 0) is (count-begun g g.root n c.actions p all);
  }
    where
      is : entered g.root n c.actions ≡ frame_of (g.root ∷ []) g.root c
      is = ap (λ i. at_place i n 0) (sym at) ∙ (ap (λ l. at_place c.at l 0) (sym left) ∙ ap (λ t. at_place c.at c.left t) (sym tried))
        where
          at_place : ℕ → ℕ → ℕ → Frame Node
          at_place i l t = record {
            node = slice_index_or (g.root ∷ []) i g.root;
            left = l;
            tried = take t c.actions;
            rest =
                drop t c.actions;
          }

  -- ---- the top level takes its next action

  module _ (before after : Reports Node) (kept : List Node) (most : List ℕ) (front : List Level) (c : Level) (calls : ℕ) (a : Action)
      (x : Node)
      (s : IsRunning same g n before kept most (front ++ c ∷ []) calls) (at-action : slice_get c.actions c.tried ≡ Some a)
      (at-node : slice_get kept c.at ≡ Some x) (told : ReportsOneMore x a before after) where
    rest-here : (frame_of kept g.root c).rest ≡ a ∷ drop (c.tried + 1) c.actions
    rest-here = get-rest c.actions c.tried a at-action

    node-here : level_node kept g.root c ≡ x
    node-here = get-index kept c.at x g.root at-node

    -- the state, with the arrival reported
    now : IsDepthFirst g n after (met_in same kept most) (frame_of kept g.root c ∷ frames_of kept g.root front [])
    now = reporting g n lawful before after (met_in same kept most) (frame_of kept g.root c ∷ frames_of kept g.root front []) told.others
        (subst (IsDepthFirst g n before (met_in same kept most)) (frames-last kept g.root front c []) s.searching)

    told-here : after (level_node kept g.root c) a
    told-here = subst (λ y. after y a) (sym node-here) told.this

    counted-here : IsCounted g kept most (frame_of kept g.root c ∷ frames_of kept g.root front []) calls
    counted-here = subst (λ k. IsCounted g kept most k calls) (frames-last kept g.root front c []) s.counted

    stepped-here : (more : List Node) → frame_of more g.root c ≡ frame_of kept g.root c → frames_of more g.root front [] ≡
        frames_of kept g.root front []
        → advanced (frame_of kept g.root c) a (drop (c.tried + 1) c.actions) ∷ frames_of kept g.root front [] ≡
        frames_of more g.root (front ++ stepped c ∷ []) []
    stepped-here more e f =
        ap (λ k. advanced k a (drop (c.tried + 1) c.actions) ∷ frames_of kept g.root front []) (sym e)
        ∙ (ap (λ k. k ∷ frames_of kept g.root front []) (sym (frame-stepped more g.root c a at-action))
        ∙ (ap (λ k. frame_of more g.root (stepped c) ∷ k) (sym f)
        ∙ sym (frames-last more g.root front (stepped c) [])))

    placed-stepped : Each (λ (d : Level). d.at < length kept) (front ++ stepped c ∷ [])
    placed-stepped = each_last (λ (d : Level). d.at < length kept) front (stepped c)
        (each_first (λ (d : Level). d.at < length kept) front (c ∷ []) s.placed)
        (each_end (λ (d : Level). d.at < length kept) front c s.placed)

    -- and is done with it: the arrival was pruned, or its node is explored deep enough
    pub passes : IsCovered g (met_in same kept most) x c.left a → IsRunning same g n after kept most (front ++ stepped c ∷ []) (suc calls)
    passes covered = record {
      differ = s.differ;
      sized = s.sized;
      placed = placed-stepped;
      searching = subst (IsDepthFirst g n after (met_in same kept most)) (stepped-here kept refl refl)
          (advance g n lawful after (met_in same kept most) (frame_of kept g.root c) (frames_of kept g.root front []) a
          (drop (c.tried + 1) c.actions) now rest-here (subst (λ y. IsCovered g (met_in same kept most) y c.left a)
          (sym node-here) covered) told-here);
      counted = subst (λ k. IsCounted g kept most k (suc calls)) (stepped-here kept refl refl)
          (count-advanced g kept most (frame_of kept g.root c) (frames_of kept g.root front []) calls a
          (drop (c.tried + 1) c.actions) rest-here counted-here);
    }

    pub passes-pruned : g.next x a ≡ None → IsRunning same g n after kept most (front ++ stepped c ∷ []) (suc calls)
    passes-pruned e = passes (λ y f. cc)

    pub passes-seen : (k : ℕ) (q : Node) (m : ℕ) → g.next x a ≡ Some q → slice_get kept k ≡ Some q → slice_get most k ≡ Some m →
        c.left ≤ suc m → IsRunning same g n after kept most (front ++ stepped c ∷ []) (suc calls)
    passes-seen k q m e i j l = passes (λ y f d b. met-explored g (met_in same kept most) d y m
        (ap (met_in same kept most) (let u : Some q ≡ Some y = sym e ∙ f in let h : y ≡ q = cc in h) ∙
        met_in-at same kept most k q m s.differ i j) (omega arith))

    -- a node is met with more remaining actions than ever before
    module _ (q : Node) (r : ℕ) (leads : g.next x a ≡ Some q) (fewer : suc r ≡ c.left) (refused : g.Accepts q → ⊥) where
      leads-here : g.next (level_node kept g.root c) a ≡ Some q
      leads-here = ap (λ y. g.next y a) node-here ∙ leads

      deeper-fresh : Each (λ y. y ≢ q) kept → IsDeeper (met_in same kept most) q r
      deeper-fresh f k e = let d = met_in-fresh same kept most q f in absurd (let h : Some k ≡ None = sym e ∙ d in cc)

      more-here : Each (λ y. y ≢ q) kept → (frame_of (kept ++ q ∷ []) g.root c ≡ frame_of kept g.root c)
      more-here f = frame-more kept g.root q c (each_end (λ (d : Level). d.at < length kept) front c s.placed)

      front-more : frames_of (kept ++ q ∷ []) g.root front [] ≡ frames_of kept g.root front []
      front-more = frames-more kept g.root q front [] (each_first (λ (d : Level). d.at < length kept) front (c ∷ []) s.placed)

      -- a fresh one, with none: the top level is done with the action
      pub passes-fresh : Each (λ y. y ≢ q) kept → r ≡ 0 → IsRunning same g n after (kept ++ q ∷ []) (most ++ r ∷ [])
          (front ++ stepped c ∷ []) (suc calls)
      passes-fresh f z = record {
        differ = differ-last kept q s.differ f;
        sized = omega (arith, s.sized, length-append most (r ∷ []), length-append kept (q ∷ []));
        placed = placed-more kept q (front ++ stepped c ∷ []) placed-stepped;
        searching = subst (IsDepthFirst g n after (met_in same (kept ++ q ∷ []) (most ++ r ∷ [])))
            (stepped-here (kept ++ q ∷ []) (more-here f) front-more)
            (meet-last same g n lawful after (met_in same kept most) (met_in same (kept ++ q ∷ []) (most ++ r ∷ [])) q r (deeper-fresh f)
            (met_in-pushed same kept most q r s.sized f)
            (frame_of kept g.root c) (frames_of kept g.root front []) a
            (drop (c.tried + 1) c.actions) now rest-here leads-here fewer refused z told-here);
        counted = subst (λ k. IsCounted g (kept ++ q ∷ []) (most ++ r ∷ []) k (suc calls))
            (stepped-here (kept ++ q ∷ []) (more-here f) front-more)
            (subst (λ m. IsCounted g (kept ++ q ∷ []) (most ++ m ∷ [])
            (advanced (frame_of kept g.root c) a (drop (c.tried + 1) c.actions) ∷ frames_of kept g.root front []) (suc calls)) (sym z)
            (count-last g kept most (frame_of kept g.root c) (frames_of kept g.root front []) calls a
            (drop (c.tried + 1) c.actions) q s.sized rest-here counted-here));
      }

      entered-is : (more : List Node) (d : Level) → slice_get more d.at ≡ Some q → d.left ≡ r → d.tried ≡ 0 → entered q r d.actions ≡
          frame_of more g.root d
      entered-is more d e l t =
          ap (λ y. record { node = y; left = r; tried = []; rest = d.actions }) (sym (get-index more d.at q g.root e))
          ∙ (ap (λ k. at_place k 0) (sym l) ∙ ap (λ k. at_place d.left k) (sym t))
        where
          at_place : ℕ → ℕ → Frame Node
          at_place k j = record { node = slice_index_or more d.at g.root; left = k; tried = take j d.actions; rest = drop j d.actions }

      entered-here : (more : List Node) (d : Level) → frame_of more g.root c ≡ frame_of kept g.root c → frames_of more g.root front [] ≡
          frames_of kept g.root front []
          → slice_get more d.at ≡ Some q → d.left ≡ r → d.tried ≡ 0
          → entered q r d.actions ∷ frame_of kept g.root c ∷ frames_of kept g.root front [] ≡
          frames_of more g.root ((front ++ c ∷ []) ++ d ∷ []) []
      entered-here more d e f i l t =
          ap (λ k. k ∷ frame_of kept g.root c ∷ frames_of kept g.root front []) (entered-is more d i l t)
          ∙ (ap (λ k. frame_of more g.root d ∷ k ∷ frames_of kept g.root front []) (sym e)
          ∙ (ap (λ k. frame_of more g.root d ∷ frame_of more g.root c ∷ k) (sym f)
          ∙ (ap (λ k. frame_of more g.root d ∷ k) (sym (frames-last more g.root front c []))
          ∙ sym (frames-last more g.root (front ++ c ∷ []) d []))))

      -- with some: it is entered, a fresh one under the next number
      pub enters-fresh : (d : Level) → Each (λ y. y ≢ q) kept → 0 < r → d.at ≡ length kept → d.left ≡ r → d.tried ≡ 0 →
          AreActionsOf g q d.actions
          → IsRunning same g n after (kept ++ q ∷ []) (most ++ r ∷ []) ((front ++ c ∷ []) ++ d ∷ []) (suc calls)
      enters-fresh d f p at left tried all = record {
        differ = differ-last kept q s.differ f;
        sized = omega (arith, s.sized, length-append most (r ∷ []), length-append kept (q ∷ []));
        placed = each_last (λ (e : Level). e.at < length (kept ++ q ∷ [])) (front ++ c ∷ []) d
            (placed-more kept q (front ++ c ∷ []) s.placed) (omega (arith, at, length-append kept (q ∷ [])));
        searching = subst (IsDepthFirst g n after (met_in same (kept ++ q ∷ []) (most ++ r ∷ []))) there
            (meet-entered same g n lawful after (met_in same kept most) (met_in same (kept ++ q ∷ []) (most ++ r ∷ [])) q r (deeper-fresh f)
            (met_in-pushed same kept most q r s.sized f)
            (frame_of kept g.root c) (frames_of kept g.root front []) a
            (drop (c.tried + 1) c.actions) now rest-here leads-here fewer refused p told-here d.actions all);
        counted = subst (λ k. IsCounted g (kept ++ q ∷ []) (most ++ r ∷ []) k (suc calls)) there
            (count-fresh g kept most (frame_of kept g.root c) (frames_of kept g.root front []) calls a
            (drop (c.tried + 1) c.actions) q r d.actions s.sized rest-here p all counted-here);
      }
        where
          pushed : (us : List Node) → slice_get (us ++ q ∷ []) (length us) ≡ Some q
          pushed [] = refl
          pushed (u ∷ us) = pushed us

          there : entered q r d.actions ∷ frame_of kept g.root c ∷ frames_of kept g.root front [] ≡
              frames_of (kept ++ q ∷ []) g.root ((front ++ c ∷ []) ++ d ∷ []) []
          there = entered-here (kept ++ q ∷ []) d (more-here f) front-more (ap (slice_get (kept ++ q ∷ [])) at ∙ pushed kept) left tried

      deeper-kept : (k m : ℕ) → slice_get kept k ≡ Some q → slice_get most k ≡ Some m → m < r → IsDeeper (met_in same kept most) q r
      deeper-kept k m i j l z e = let d : Some m ≡ Some z = sym (met_in-at same kept most k q m s.differ i j) ∙ e in let h : m ≡ z = cc in
          omega (arith, h)

      -- a kept one is passed, where no node was met with none
      pub passes-kept : (k m : ℕ) → slice_get kept k ≡ Some q → slice_get most k ≡ Some m → m < r → IsUncut most
          → IsRunning same g n after kept (set most k r) (front ++ stepped c ∷ []) (suc calls)
      passes-kept k m i j l uncut = record {
        differ = s.differ;
        sized = set-length most k r ∙ s.sized;
        placed = placed-stepped;
        searching = subst (IsDepthFirst g n after (met_in same kept (set most k r))) (stepped-here kept refl refl)
            (meet-kept same g n lawful after (met_in same kept most) (met_in same kept (set most k r)) q r (deeper-kept k m i j l)
            (met_in-set same kept most k q r s.differ i (get-within most k m j))
            (frame_of kept g.root c) (frames_of kept g.root front []) a
            (drop (c.tried + 1) c.actions) now rest-here leads-here fewer refused m at none told-here);
        counted = subst (λ z. IsCounted g kept (set most k r) z (suc calls)) (stepped-here kept refl refl)
            (count-kept g kept most (frame_of kept g.root c) (frames_of kept g.root front []) calls a
            (drop (c.tried + 1) c.actions) k q m r rest-here i j (some-left g (met_in same kept most) none q m at) l counted-here);
      }
        where
          at : met_in same kept most q ≡ Some m
          at = met_in-at same kept most k q m s.differ i j

          none : (y : Node) → met_in same kept most y ≡ Some 0 → ⊥
          none y e = let w = met_in-kept same kept most y 0 e in uncut w.0 w.2

      -- and else entered again
      pub enters-again : (d : Level) (k m : ℕ) → slice_get kept k ≡ Some q → slice_get most k ≡ Some m → m < r → d.at ≡ k → d.left ≡ r →
          d.tried ≡ 0 → AreActionsOf g q d.actions
          → IsRunning same g n after kept (set most k r) ((front ++ c ∷ []) ++ d ∷ []) (suc calls)
      enters-again d k m i j l at left tried all = record {
        differ = s.differ;
        sized = set-length most k r ∙ s.sized;
        placed = each_last (λ (e : Level). e.at < length kept) (front ++ c ∷ []) d s.placed (omega (arith, at, get-within kept k q i));
        searching = subst (IsDepthFirst g n after (met_in same kept (set most k r))) there
            (meet-entered same g n lawful after (met_in same kept most) (met_in same kept (set most k r)) q r (deeper-kept k m i j l)
            (met_in-set same kept most k q r s.differ i (get-within most k m j))
            (frame_of kept g.root c) (frames_of kept g.root front []) a
            (drop (c.tried + 1) c.actions) now rest-here leads-here fewer refused (omega arith) told-here d.actions all);
        counted = subst (λ z. IsCounted g kept (set most k r) z (suc calls)) there
            (count-deeper g kept most (frame_of kept g.root c) (frames_of kept g.root front []) calls a
            (drop (c.tried + 1) c.actions) k q m r d.actions rest-here i j l all counted-here);
      }
        where
          there : entered q r d.actions ∷ frame_of kept g.root c ∷ frames_of kept g.root front [] ≡
              frames_of kept g.root ((front ++ c ∷ []) ++ d ∷ []) []
          there = entered-here kept d refl refl (ap (slice_get kept) at ∙ i) left tried

  -- ---- the top level is done with

  module _ (reported : Reports Node) (kept : List Node) (most : List ℕ) (c : Level) (calls : ℕ) (over : length c.actions ≤ c.tried) where
    pub leaves-root : IsRunning same g n reported kept most (c ∷ []) calls → IsRunning same g n reported kept most [] calls
    unfolding frames_of
    leaves-root s = record {
      differ = s.differ;
      sized = s.sized;
      placed = tt;
      searching = leave g n lawful reported (met_in same kept most) (frame_of kept g.root c) [] s.searching
          (rest-none c.actions c.tried over);
      counted = count-left g kept most (frame_of kept g.root c) calls s.counted;
    }

    pub leaves : (front : List Level) (h : Level) → IsRunning same g n reported kept most ((front ++ h ∷ []) ++ c ∷ []) calls →
        IsRunning same g n reported kept most (front ++ stepped h ∷ []) calls
    leaves front h s = record {
      differ = s.differ;
      sized = s.sized;
      placed = each_last (λ (d : Level). d.at < length kept) front (stepped h)
          (each_first (λ (d : Level). d.at < length kept) front (h ∷ []) lower)
          (each_end (λ (d : Level). d.at < length kept) front h lower);
      searching = subst (IsDepthFirst g n reported (met_in same kept most)) there
          (climb g n lawful reported (met_in same kept most) (frame_of kept g.root c) (frame_of kept g.root h)
          (frames_of kept g.root front []) under.action under.later searching (rest-none c.actions c.tried over) under.is);
      counted = subst (λ k. IsCounted g kept most k calls) there
          (count-climbed g kept most (frame_of kept g.root c) (frame_of kept g.root h)
          (frames_of kept g.root front []) calls under.action under.later under.is
          (subst (λ k. IsCounted g kept most k calls) two s.counted));
    }
      where
        lower : Each (λ (d : Level). d.at < length kept) (front ++ h ∷ [])
        lower = each_first (λ (d : Level). d.at < length kept) (front ++ h ∷ []) (c ∷ []) s.placed

        two : frames_of kept g.root ((front ++ h ∷ []) ++ c ∷ []) [] ≡ frame_of kept g.root c ∷ frame_of kept g.root h ∷
            frames_of kept g.root front []
        two = frames-last kept g.root (front ++ h ∷ []) c [] ∙ ap (λ k. frame_of kept g.root c ∷ k) (frames-last kept g.root front h [])

        searching : IsDepthFirst g n reported (met_in same kept most) (frame_of kept g.root c ∷ frame_of kept g.root h ∷
            frames_of kept g.root front [])
        searching = subst (IsDepthFirst g n reported (met_in same kept most)) two s.searching

        under : IsUnderWay reported (frame_of kept g.root h)
        under = searching.frames.2.0

        at-action : slice_get h.actions h.tried ≡ Some under.action
        at-action = rest-get h.actions h.tried under.action under.later under.is

        later-is : under.later ≡ drop (h.tried + 1) h.actions
        later-is = let e : under.action ∷ under.later ≡ under.action ∷ drop (h.tried + 1) h.actions = sym under.is ∙
            get-rest h.actions h.tried under.action at-action in cc

        there : advanced (frame_of kept g.root h) under.action under.later ∷ frames_of kept g.root front [] ≡
            frames_of kept g.root (front ++ stepped h ∷ []) []
        there =
            ap (λ us. advanced (frame_of kept g.root h) under.action us ∷ frames_of kept g.root front []) later-is
            ∙ (ap (λ k. k ∷ frames_of kept g.root front []) (sym (frame-stepped kept g.root h under.action at-action))
            ∙ sym (frames-last kept g.root front (stepped h) []))
