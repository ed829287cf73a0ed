-- A node is met with more remaining actions than ever before.
use Rattle.std.specs.Prelude.{IsTrue}
use Rattle.std.proofs.Common.{◌≡◌, ◌≢◌, ◌≤◌, ◌<◌, ◌+◌, ℕ, zero, suc, List, [], ◌∷◌, ◌++◌, length, Some, None, sym, ap, ◌∙◌, subst, inl, inr}
use Rattle.std.proofs.Common.{length-append, arith}
use Rattle.tl_syntax.specs.declared.action.Action.{Action}
use Rattle.tl_syntax.specs.Lists.{Each}
use Rattle.tl_depth.specs.ActionGraphs.{ActionGraph, IsLawful, AreActionsOf, node_after}
use Rattle.tl_depth.specs.Search.{Memory, Reports, Frame, at_hand, gone, advanced, entered, IsExplored, IsCovered, IsDone, AreFrames}
use Rattle.tl_depth.specs.Search.{IsOnStack, IsKept, IsDepthFirst, IsMet, IsDeeper}
use Rattle.tl_depth.proofs.ListFacts.{each_map}
use Rattle.tl_depth.proofs.WalkLaws.{walk-last, walk-nothing, simple-empty}
use Rattle.tl_depth.proofs.OrderFacts.{none-before}
use Rattle.tl_depth.proofs.Exploring.{explored-kept, met-explored, successors-explored, some-left, explored-on}
use Rattle.tl_depth.proofs.StackLaws.{gone-under}
use Rattle.tl_depth.proofs.SearchSteps.{leading-next, advance}

module _ {Node : Type 0} (same : Discrete Node) (g : ActionGraph Node) (n : ℕ) (lawful : IsLawful g) (reported : Reports Node) where
  -- each node on the stack was met with at least as many remaining actions as the top frame has
  pub lefts : (met : Memory Node) (f : Frame Node) (below : List (Frame Node)) → AreFrames g n reported met (f ∷ below) → (x : Node) →
      IsOnStack (f ∷ below) x → (m : ℕ) × (met x ≡ Some m) × (f.left ≤ m)
  lefts met f [] s x o = elim o [ inl e ↦ (f.left, ap met (sym e) ∙ s.0.most, omega arith) | inr b ↦ absurd b ]
  lefts met f (h ∷ below) s x o = elim o [
    | inl e ↦ (f.left, ap met (sym e) ∙ s.0.most, omega arith)
    | inr k ↦ more (lefts met h below s.3 x k)
  ]
    where
      more : ((m : ℕ) × (met x ≡ Some m) × (h.left ≤ m)) → (m : ℕ) × (met x ≡ Some m) × (f.left ≤ m)
      more w =
          let longer : length (gone (h ∷ below)) ≡ length (gone below) + 1 = ap length (gone-under g n reported met h below s.2.0) ∙
          length-append (gone below) (s.2.0.action ∷ []) in
          (w.0, w.1, omega (arith, s.0.budget, s.3.0.budget, w.2))

  -- while no node was met with no remaining action, each kept one is explored as deep as the top frame has remaining actions: its
  -- successors are kept, and what is on the stack was met with as many
  pub uncut-explored : (met : Memory Node) (f : Frame Node) (below : List (Frame Node)) → IsDepthFirst g n reported met (f ∷ below) →
      ((x : Node) → met x ≡ Some 0 → ⊥)
      → (l : ℕ) → l ≤ f.left → (x : Node) (m : ℕ) → met x ≡ Some m → IsExplored g met l x
  uncut-explored met f below s uncut zero b x m e = met-explored g met zero x m e (omega arith)
  uncut-explored met f below s uncut (suc l) b x m e =
      let p = some-left g met uncut x m e in
      elim (s.done x m e p) [
        | inl o ↦ let w = lefts met f below s.frames x o in met-explored g met (suc l) x w.0 w.1 (omega (arith, w.2))
        | inr c ↦ successors-explored g met l x m e p (λ a z i.
            let k = explored-kept g met 0 z ((c a (lawful.executes x z a i)).0 z i 0 p) in
            uncut-explored met f below s uncut l (omega arith) z k.0 k.1)
      ]

  module _ (before after : Memory Node) (q : Node) (r : ℕ) (deeper : IsDeeper before q r) (news : IsMet q r before after) where
    -- no node is met with fewer remaining actions
    grows : (y : Node) (k : ℕ) → before y ≡ Some k → (j : ℕ) × (after y ≡ Some j) × (k ≤ j)
    grows y k e = elim (same y q) [
      | yes i ↦ let d : k < r = deeper k (ap before (sym i) ∙ e) in (r, ap after i ∙ news.this, omega arith)
      | no d ↦ (k, news.others y d ∙ e, omega arith)
    ]

    covered-on : (x : Node) (m : ℕ) (a : Action) → IsCovered g before x m a → IsCovered g after x m a
    covered-on x m a c y e l b = explored-on g before after grows l y (c y e l b)

    frames-on : (stack : List (Frame Node)) → (IsOnStack stack q → ⊥) → AreFrames g n reported before stack →
        AreFrames g n reported after stack
    frames-on [] off s = tt
    frames-on (f ∷ below) off s = (
      record {
        ends = s.0.ends;
        budget = s.0.budget;
        some = s.0.some;
        all = s.0.all;
        most = news.others f.node (λ e. off (inl e)) ∙ s.0.most;
        covered = each_map (λ a c. covered-on f.node f.left a c) f.tried s.0.covered;
        fruitless = s.0.fruitless;
        told = s.0.told;
      },
      s.1,
      s.2,
      frames-on below (λ o. off (inr o)) s.3,
    )

    module _ (f : Frame Node) (below : List (Frame Node)) (a : Action) (later : List Action)
        (s : IsDepthFirst g n reported before (f ∷ below)) (r-rest : f.rest ≡ a ∷ later) (leads : g.next f.node a ≡ Some q)
        (fewer : suc r ≡ f.left) (refused : g.Accepts q → ⊥) where
      -- the node is not on the stack
      pub off-stack : IsOnStack (f ∷ below) q → ⊥
      off-stack o = let w = lefts before f below s.frames q o in let d : w.0 < r = deeper w.0 w.1 in omega (arith, w.2)

      kept-on : (x : Node) (m : ℕ) → after x ≡ Some m → IsKept g n x m
      kept-on x m e = elim (same x q) [
        | no d ↦ s.kept x m (sym (news.others x d) ∙ e)
        | yes i ↦ subst (λ y. IsKept g n y m) (sym i) (subst (IsKept g n q)
            (let d : Some r ≡ Some m = sym news.this ∙ (ap after (sym i) ∙ e) in let j : r ≡ m = cc in j) (record {
              refused = refused;
              path = gone below ++ a ∷ [];
              ends = walk-last g (gone below) a f.node s.frames.0.ends ∙ leads;
              budget = omega (arith, length-append (gone below) (a ∷ []), s.frames.0.budget);
              leading = leading-next g n lawful reported before f below a later q s r-rest leads off-stack;
            }))
      ]

      begun-on : after g.root ≡ Some n
      begun-on = elim (same g.root q) [
        | no d ↦ news.others g.root d ∙ s.begun
        | yes i ↦ let d : n < r = deeper n (ap before (sym i) ∙ s.begun) in absurd (omega (arith, s.frames.0.budget))
      ]

      -- it is done with, and the frame goes on
      meet-done : (0 < r → IsDone g reported after q r) → reported f.node a → IsDepthFirst g n reported after (advanced f a later ∷ below)
      meet-done own t = advance g n lawful reported after f below a later met-now r-rest
          (λ y e l b. met-explored g after l y r (ap after (let d : Some q ≡ Some y = sym leads ∙ e in let i : y ≡ q = cc in i) ∙ news.this)
          (omega arith)) t
        where
          this : (x : Node) (m : ℕ) → x ≡ q → after x ≡ Some m → 0 < m → IsDone g reported after x m
          this x m i e p =
              let d : Some r ≡ Some m = sym news.this ∙ (ap after (sym i) ∙ e) in
              let j : r ≡ m = cc in
              subst (λ y. IsDone g reported after y m) (sym i) (subst (IsDone g reported after q) j (own (omega (arith, j))))

          met-now : IsDepthFirst g n reported after (f ∷ below)
          met-now = record {
            frames = frames-on (f ∷ below) off-stack s.frames;
            kept = kept-on;
            done = λ x m e p. elim (same x q) [
              | yes i ↦ inr (this x m i e p)
              | no d ↦ elim (s.done x m (sym (news.others x d) ∙ e) p) [
                | inl o ↦ inl o
                | inr c ↦ inr
                    (λ b t. (covered-on x m b (c b t).0, (c b t).1))
              ]
            ];
            begun = begun-on;
          }

      -- it is met with no remaining action
      pub meet-last : r ≡ 0 → reported f.node a → IsDepthFirst g n reported after (advanced f a later ∷ below)
      meet-last z t = meet-done (λ p. absurd (omega arith)) t

      -- it is kept, and no node was met with none: all that it leads to within r actions is explored already
      pub meet-kept : (k : ℕ) → before q ≡ Some k → ((x : Node) → before x ≡ Some 0 → ⊥) → reported f.node a →
          IsDepthFirst g n reported after (advanced f a later ∷ below)
      meet-kept k at uncut t = meet-done (λ p. own) t
        where
          some : 0 < k
          some = some-left g before uncut q k at

          deep : ((b : Action) → IsTrue (g.executable q b) → IsCovered g before q k b × reported q b) → IsDone g reported after q r
          deep c b t' = (
            λ z i l d.
                let w = explored-kept g before 0 z ((c b t').0 z i 0 some) in
                explored-on g before after grows l z (uncut-explored before f below s uncut l (omega (arith, fewer)) z w.0 w.1),
            (c b t').1,
          )

          own : IsDone g reported after q r
          own = elim (s.done q k at some) [ inl o ↦ absurd (off-stack o) | inr c ↦ deep c ]

      -- it is met with some remaining action, and entered
      pub meet-entered : 0 < r → reported f.node a → (actions : List Action) → AreActionsOf g q actions →
          IsDepthFirst g n reported after (entered q r actions ∷ f ∷ below)
      meet-entered p t actions all = record {
        frames = (
          record {
            ends = ap (λ us. node_after g (gone below ++ at_hand us)) r-rest ∙ (walk-last g (gone below) a f.node s.frames.0.ends ∙ leads);
            budget = omega (
              arith,
              ap (λ us. length (gone below ++ at_hand us)) r-rest,
              length-append (gone below) (a ∷ []),
              s.frames.0.budget,
            );
            some = p;
            all = all;
            most = news.this;
            covered = tt;
            fruitless = tt;
            told = tt;
          },
          differ (f ∷ below) off-stack,
          (record { action = a; later = later; is = r-rest; told = t }, s.frames.2),
          frames-on (f ∷ below) off-stack s.frames,
        );
        kept = kept-on;
        done = λ x m e z. elim (same x q) [
          | yes i ↦ inl (inl (sym i))
          | no d ↦ elim (s.done x m (sym (news.others x d) ∙ e) z) [
            | inl o ↦ inl (inr o)
            | inr c ↦ inr
                (λ b t. (covered-on x m b (c b t).0, (c b t).1))
          ]
        ];
        begun = begun-on;
      }
        where
          differ : (stack : List (Frame Node)) → (IsOnStack stack q → ⊥) → Each (λ h. h.node ≢ q) stack
          differ [] off = tt
          differ (h ∷ stack) off = (λ e. off (inl e), differ stack (λ o. off (inr o)))

  -- ---- the first node

  module _ (met : Memory Node) (this : met g.root ≡ Some n) (others : (x : Node) → x ≢ g.root → met x ≡ None)
      (refused : g.Accepts g.root → ⊥) where
    root-kept : (x : Node) (m : ℕ) → met x ≡ Some m → IsKept g n x m
    root-kept x m e = elim (same x g.root) [
      | no d ↦ absurd (let o = others x d in cc)
      | yes i ↦ subst (λ y. IsKept g n y m) (sym i) (subst (IsKept g n g.root)
          (let d : Some n ≡ Some m = sym this ∙ (ap met (sym i) ∙ e) in let j : n ≡ m = cc in j) (record {
            refused = refused;
            path = [];
            ends = walk-nothing g (Some g.root);
            budget = omega arith;
            leading = record { short = omega arith; simple = simple-empty g; first = λ other w l. none-before other l };
          }))
    ]

    -- with no action to take, all is done
    pub begin-last : n ≡ 0 → IsDepthFirst g n reported met []
    begin-last z = record {
      frames = tt;
      kept = root-kept;
      done = λ x m e p. absurd (let k = (root-kept x m e).budget in omega (arith, k));
      begun = this;
    }

    -- and else the first node is entered
    pub begin-entered : 0 < n → (actions : List Action) → AreActionsOf g g.root actions →
        IsDepthFirst g n reported met (entered g.root n actions ∷ [])
    begin-entered p actions all = record {
      frames = (
        record {
          ends = walk-nothing g (Some g.root);
          budget = omega arith;
          some = p;
          all = all;
          most = this;
          covered = tt;
          fruitless =
              tt;
          told = tt;
        },
        tt,
        tt,
        tt,
      );
      kept = root-kept;
      done = λ x m e z. elim (same x g.root) [
        | no d ↦ absurd (let o = others x d in cc)
        | yes i ↦ inl (inl (sym i))
      ];
      begun = this;
    }
