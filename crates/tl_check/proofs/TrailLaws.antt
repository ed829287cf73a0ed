-- What is kept of the states of a plan, as it is followed.
use Rattle.std.proofs.Common.{◌≡◌, ◌≤◌, ◌<◌, ◌+◌, ◌-◌, ◌↔◌, ◌⊎◌, ℕ, zero, suc, List, [], ◌∷◌, ◌++◌, take, length, get_or, Bool, true, false}
use Rattle.std.proofs.Common.{cond, Some, Err, refl, sym, ap, ◌∙◌, subst, inl, inr, arith, length-append}
use Rattle.std.specs.Prelude.{slice_get}
use Rattle.std.proofs.lemmas.Option.{get_or_from_slice_get}
use Rattle.tl_eval.specs.Faults.{IsCausedBy}
use Rattle.tl_action.specs.ChangedWorlds.{world_after}
use Rattle.tl_action.specs.declared.changes.Changes.{Changes}
use Rattle.tl_eval.specs.declared.fault.EvalFault.{EvalFault}
use Rattle.tl_eval.specs.declared.fault.EvalFault.TheVariants as act
use Rattle.tl_check.proofs.ExecutionLaws.{past-here}
use Rattle.tl_check.proofs.HistoryLaws.{AreBeforeIn, tracks-on, each-added, each-among, among-item}
use Rattle.tl_check.specs.Executions.{told_after}
use Rattle.tl_check.specs.Histories.{AreTracksUpTo}
use Rattle.tl_check.proofs.ToldLaws.{noted-none, noted-same, noted-more, taken-more, taken-all, next-told}
use Rattle.tl_check.specs.Told.{AreNoted, TellsNext}
use Rattle.tl_check.specs.Tracks.{fact_with, line_in, HaveSeenAll, TellsOf}
use Rattle.tl_check.specs.Trails.{EndsIn, Follows, FollowsOn, HasSeenAll, HaveAllSeen, IsFollowed, IsTracked, KeepsOne, MakeNext, NotesFact}
use Rattle.tl_check.specs.Trails.{NotesFacts, TracksOn, TrackAllOn}
use Rattle.tl_check.specs.declared.line.Change.{Change}
use Rattle.tl_check.specs.declared.predicate_tracks.PredicateTracks.{PredicateTracks}
use Rattle.tl_check.specs.declared.tracks.Tracks.{Tracks}
use Rattle.tl_check.specs.declared.trail.Trail.{Trail}
use Rattle.tl_syntax.specs.declared.action.Action.{Action}
use Rattle.tl_syntax.specs.declared.fact.Fact.{Fact}
use Rattle.tl_syntax.specs.declared.value.Value.{Value}
use Rattle.tl_syntax.specs.Keys.{fact_key}
use Rattle.tl_syntax.specs.Lists.{Each, Among}
use Rattle.tl_terms.specs.Acceptance.{states}
use Rattle.tl_terms.specs.Looked.{looked_by_action}
use Rattle.tl_terms.specs.Problem.{PlainProblem}
use Rattle.tl_terms.specs.World.{World, has_fact}

-- ---- one more world

slice-front : (ws vs : List World) (j : ℕ) → j < length ws → slice_get (ws ++ vs) j ≡ slice_get ws j
slice-front [] vs j h = absurd (omega arith)
slice-front (w ∷ ws) vs zero h = refl
slice-front (w ∷ ws) vs (suc j) h = slice-front ws vs j (omega arith)

slice-seam : (ws : List World) (v : World) (vs : List World) → slice_get (ws ++ v ∷ vs) (length ws) ≡ Some v
slice-seam [] v vs = refl
slice-seam (w ∷ ws) v vs = slice-seam ws v vs

pub one-more : (ws : List World) (v : World) → length (ws ++ v ∷ []) ≡ length ws + 1
one-more ws v = length-append ws (v ∷ [])

-- the last world by its position
pub last-there : (ws : List World) (w : World) (k : ℕ) → EndsIn ws w → length ws ≡ k + 1 → slice_get ws k ≡ Some w
last-there ws w k ends size =
    let long : length ws ≡ length ends.0 + 1 = ap length ends.1 ∙ one-more ends.0 w in
    let place : length ends.0 ≡ k = omega (arith, long, size) in
    ap (λ (vs : List World). slice_get vs k) ends.1 ∙ subst (λ (n : ℕ). slice_get (ends.0 ++ w ∷ []) n ≡ Some w) place
    (slice-seam ends.0 w [])

pub last-at : (ws : List World) (w : World) (k : ℕ) → EndsIn ws w → length ws ≡ k + 1 → w ≡ get_or ws k w
last-at ws w k ends size = sym (get_or_from_slice_get ws k w w (last-there ws w k ends size))

pub last-some : (ws : List World) (w : World) → EndsIn ws w → 0 < length ws
last-some ws w ends = let long : length ws ≡ length ends.0 + 1 = ap length ends.1 ∙ one-more ends.0 w in omega arith

-- ---- the changes of one predicate

tracks-more : (n q : ℕ) (ws vs : List World) (t : Tracks) → n ≤ length ws → AreTracksUpTo n q ws t → AreTracksUpTo n q (ws ++ vs) t
tracks-more n q ws vs t l so = record {
  tell = λ a j w h s. so.tell a j w h (sym (slice-front ws vs j (omega arith)) ∙ s);
  bounded = so.bounded;
  covered = so.covered;
}

pub tracked-first : (w : World) (q : ℕ) (none some : Tracks) → AreTracksUpTo 0 q (w ∷ []) none →
    TellsNext q 0 (λ a. false) w (line_in none.lines) (line_in some.lines) → HaveSeenAll some → AreTracksUpTo 1 q (w ∷ []) some
tracked-first w q none some so tells covered =
    tracks-on q (w ∷ []) 0 w (λ a. false) none some refl (record { none = λ z a. refl; some = λ v h s a. absurd (omega arith) }) so tells
    covered

pub tracked-on : (changes : Changes) (next : World) (at : ℕ) (old new : PredicateTracks) → new.pred ≡ old.pred →
    ((v : World) → next ≡ world_after v changes → TellsNext old.pred at (λ a. has_fact v (old.pred, a)) next (line_in old.tracks.lines)
    (line_in new.tracks.lines)) → HaveSeenAll new.tracks → TracksOn changes next at old new
tracked-on changes next at old new same tells covered ws makes so =
    let all = ws ++ next ∷ [] in
    let before = makes.last in
    let size = makes.size in
    let some = last-some ws before makes.ends in
    let last : slice_get all (at - 1) ≡ Some before = slice-front ws (next ∷ []) (at - 1) (omega arith) ∙
    last-there ws before (at - 1) makes.ends (omega arith) in
    let here : slice_get all at ≡ Some next = subst (λ (n : ℕ). slice_get all n ≡ Some next) size (slice-seam ws next []) in
    let known : AreBeforeIn old.pred all at (λ a. has_fact before (old.pred, a)) = record {
      none = λ z. absurd (omega arith);
      some = λ w h s a. (
          let both : Some before ≡ Some w = sym last ∙ s in
          let one : before ≡ w = cc in
          ap (λ (v : World). has_fact v (old.pred, a)) one
          );
    } in
    let was = tracks-more at old.pred ws (next ∷ []) old.tracks (omega arith)
    (subst (λ (n : ℕ). AreTracksUpTo n old.pred ws old.tracks) size so) in
    let done : AreTracksUpTo (at + 1) old.pred all new.tracks = tracks-on old.pred all at next
    (λ a. has_fact before (old.pred, a)) old.tracks new.tracks here known was (tells before makes.is) covered in
    let long : at + 1 ≡ length all = sym (one-more ws next ∙ ap (λ (n : ℕ). n + 1) size) in
    subst (λ (q : ℕ). AreTracksUpTo (length all) q all new.tracks) (sym same)
    (subst (λ (n : ℕ). AreTracksUpTo n old.pred all new.tracks) long done)

-- ---- the facts that an action names

-- none of them
pub facts-none : (fs : List Fact) (w : World) (at : ℕ) (t : PredicateTracks) → NotesFacts (take 0 fs) w at t t
facts-none fs w at t = (
  refl,
  noted-none t.pred at (λ a. has_fact w (t.pred, a)) (line_in t.tracks.lines)
      (λ a. Among (fact_with t.pred a) (take 0 fs)) (λ a m. m),
)

-- one more
module _ (fs : List Fact) (w : World) (at i : ℕ) (f : Fact) (old mid new : PredicateTracks) (room : i < length fs)
    (here : f ≡ get_or fs i f) (p : NotesFacts (take i fs) w at old mid) where
  abbrev lines : Fact → List Change
  lines = line_in old.tracks.lines

  abbrev is : List Value → Bool
  is a = has_fact w (old.pred, a)

  abbrev fewer : List Value → Type 0
  fewer a = Among (fact_with old.pred a) (take i fs)

  abbrev more : List Value → Type 0
  more a = Among (fact_with old.pred a) (take (i + 1) fs)

  abbrev change : Change
  change = record { at = at; truth = has_fact w (fact_key f) }

  split : (a : List Value) → more a ↔ (fewer a ⊎ (f ≡ fact_with old.pred a))
  split a = taken-more fs i f (fact_with old.pred a) room here

  facts-other : (f.pred ≡ mid.pred → ⊥) → new ≡ mid → NotesFacts (take (i + 1) fs) w at old new
  facts-other other stays = (
    ap (λ (t : PredicateTracks). t.pred) stays ∙ p.0,
    subst (λ (t : PredicateTracks). AreNoted old.pred at is more lines (line_in t.tracks.lines)) (sym stays)
        (noted-same old.pred at is lines fewer more (line_in mid.tracks.lines) (λ a. (
          λ m. elim ((split a).0 m) [ inl n ↦ n | inr e ↦ absurd (other (ap (λ (g : Fact). g.pred) e ∙ sym p.0)) ],
          λ n. (split a).1 (inl n),
        )) p.1),
  )

  facts-same : f.pred ≡ mid.pred → new.pred ≡ mid.pred → TellsOf f change mid.tracks.lines new.tracks.lines →
      NotesFacts (take (i + 1) fs) w at old new
  facts-same is_one stays tells =
      let q : f.pred ≡ old.pred = is_one ∙ p.0 in
      let named : f ≡ fact_with old.pred f.args = λ j. record { pred = q j; args = f.args } in (
        stays ∙ p.0,
        noted-more old.pred at is lines fewer more (line_in mid.tracks.lines) (line_in new.tracks.lines) f.args change refl
            (ap (λ (k : ℕ). has_fact w (k, f.args)) q)
            (λ a. (
              λ m. elim ((split a).0 m) [ inl n ↦ inl n | inr e ↦ inr (ap (λ (g : Fact). g.args) e) ],
              λ m. elim m [ inl n ↦ (split a).1 (inl n) | inr e ↦ (split a).1 (inr (named ∙ ap (fact_with old.pred) e)) ],
            ))
            p.1 (subst (λ (g : Fact). TellsOf g change mid.tracks.lines new.tracks.lines) named tells),
      )

  pub facts-more : NotesFact f w at mid new → NotesFacts (take (i + 1) fs) w at old new
  facts-more one = elim one [ inl other ↦ facts-other other.0 other.1 | inr same ↦ facts-same same.0 same.1 same.2 ]

-- all of them
pub facts-all : (fs : List Fact) (w : World) (at i : ℕ) (old new : PredicateTracks) → length fs ≤ i → NotesFacts (take i fs) w at old new →
    NotesFacts fs w at old new
facts-all fs w at i old new h p = subst (λ (gs : List Fact). NotesFacts gs w at old new) (taken-all fs i h) p

-- the deleted ones, and then the added ones
pub notes-next : (changes : Changes) (next : World) (at : ℕ) (old mid new : PredicateTracks) → NotesFacts changes.dels next at old mid →
    NotesFacts changes.adds next at mid new → HasSeenAll new → TracksOn changes next at old new
notes-next changes next at old mid new d p covered = tracked-on changes next at old new (p.0 ∙ d.0) tells covered
  where
    tells : (v : World) → next ≡ world_after v changes → TellsNext old.pred at (λ a. has_fact v (old.pred, a)) next
        (line_in old.tracks.lines) (line_in new.tracks.lines)
    tells v e =
        let adds = subst (λ (q : ℕ). AreNoted q at (λ a. has_fact next (q, a)) (λ a. Among (fact_with q a) changes.adds)
        (line_in mid.tracks.lines) (line_in new.tracks.lines)) d.0 p.1 in
        subst (λ (w : World). TellsNext old.pred at (λ a. has_fact v (old.pred, a)) w (line_in old.tracks.lines) (line_in new.tracks.lines))
        (sym e)
        (next-told old.pred at v changes (line_in old.tracks.lines) (line_in mid.tracks.lines) (line_in new.tracks.lines)
        (subst (λ (w : World). AreNoted old.pred at (λ a. has_fact w (old.pred, a)) (λ a. Among (fact_with old.pred a) changes.dels)
        (line_in old.tracks.lines) (line_in mid.tracks.lines)) e d.1)
        (subst (λ (w : World). AreNoted old.pred at (λ a. has_fact w (old.pred, a)) (λ a. Among (fact_with old.pred a) changes.adds)
        (line_in mid.tracks.lines) (line_in new.tracks.lines)) e adds))

-- ---- the changes of all predicates

pub each-at : (P : PredicateTracks → Type 0) (ts : List PredicateTracks) (i : ℕ) (t : PredicateTracks) → Each P ts → i < length ts → t ≡
    get_or ts i t → P t
each-at P ts i t h l q = each-among P ts t h (among-item ts i t l q)

pub all-seen : (ws : List World) (ts : List PredicateTracks) → Each (IsTracked ws) ts → HaveAllSeen ts
all-seen ws [] h = tt
all-seen ws (t ∷ ts) h = (h.0.covered, all-seen ws ts h.1)

pub each-front : (P : PredicateTracks → Type 0) (ts : List PredicateTracks) (t : PredicateTracks) → Each P (ts ++ t ∷ []) → Each P ts × P t
each-front P [] t h = (tt, h.0)
each-front P (u ∷ ts) t h = let rest = each-front P ts t h.1 in ((h.0, rest.0), rest.1)

-- those before a position have the next state, and the others are as they were
pub record SoFar (changes : Changes) (next : World) (at i : ℕ) (old new : List PredicateTracks) : Type 0 where
  pub size : length new ≡ length old
  pub left : (k : ℕ) (d : PredicateTracks) → i ≤ k → get_or new k d ≡ get_or old k d
  pub told : (ws : List World) → MakeNext changes next at ws → Each (IsTracked ws) old → Each (IsTracked (ws ++ next ∷ [])) (take i new)

module _ (changes : Changes) (next : World) (at : ℕ) (old : List PredicateTracks) where
  pub so-far-begun : SoFar changes next at 0 old old
  so-far-begun = record { size = refl; left = λ k d h. refl; told = λ ws makes h. tt }

  module _ (i : ℕ) (now : List PredicateTracks) (x y : PredicateTracks) (room : i < length now) (here : x ≡ get_or now i x)
      (so : SoFar changes next at i old now) where
    was : x ≡ get_or old i x
    was = here ∙ so.left i x (omega arith)

    pub seen-here : HaveAllSeen old → HasSeenAll x
    seen-here h = let size = so.size in each-at HasSeenAll old i x h (omega arith) was

    pub so-far-on : (new : List PredicateTracks) → length new ≡ length now → take (i + 1) new ≡ take i now ++ y ∷ [] →
        ((k : ℕ) (d : PredicateTracks) → i + 1 ≤ k → get_or new k d ≡ get_or now k d) → TracksOn changes next at x y →
        SoFar changes next at (i + 1) old new
    so-far-on new size front left on = record {
      size = size ∙ so.size;
      left = λ k d h. left k d h ∙ so.left k d (omega arith);
      told = λ ws makes h. (
          let many = so.size in
          each-added (IsTracked (ws ++ next ∷ [])) (take i now) (take (i + 1) new) y front (so.told ws makes h)
          (on ws makes (each-at (IsTracked ws) old i x h (omega arith) was))
          );
    }

  taken : (ts : List PredicateTracks) (n : ℕ) → length ts ≤ n → take n ts ≡ ts
  taken [] zero h = refl
  taken [] (suc n) h = refl
  taken (t ∷ ts) zero h = absurd (omega arith)
  taken (t ∷ ts) (suc n) h = ap (λ (us : List PredicateTracks). t ∷ us) (taken ts n (omega arith))

  pub so-far-end : (i : ℕ) (now : List PredicateTracks) → length now ≤ i → SoFar changes next at i old now →
      TrackAllOn changes next at old now
  so-far-end i now h so ws makes k = subst (Each (IsTracked (ws ++ next ∷ []))) (taken now i h) (so.told ws makes k)

-- ---- what is kept

pub kept-on : (keeps : Bool) (w : World) (ws old new : List World) → old ≡ cond keeps ws [] → KeepsOne keeps w old new → new ≡
    cond keeps (ws ++ w ∷ []) []
kept-on true w ws old new q h = h ∙ ap (λ (vs : List World). vs ++ w ∷ []) q
kept-on false w ws old new q h = h ∙ q

pub kept-first : (keeps : Bool) (w : World) (old new : List World) → old ≡ [] → KeepsOne keeps w old new → new ≡ cond keeps (w ∷ []) []
kept-first true w old new q h = h ∙ ap (λ (vs : List World). vs ++ w ∷ []) q
kept-first false w old new q h = h ∙ q

pub follows-on : (keeps : Bool) (changes : Changes) (at : ℕ) (old new : Trail) → new.world ≡ world_after old.world changes →
    KeepsOne keeps (world_after old.world changes) old.kept.items new.kept.items
    → TrackAllOn changes (world_after old.world changes) at old.tracks.items new.tracks.items → FollowsOn keeps changes at old new
follows-on keeps changes at old new world kept tracks ws size so = record {
  last = (ws, ap (λ (v : World). ws ++ v ∷ []) (sym world));
  kept = kept-on keeps (world_after old.world changes) ws old.kept.items new.kept.items so.kept kept;
  tracks = tracks ws (record { last = old.world; size = size; ends = so.last; is = refl }) so.tracks;
}

-- the plan is followed up to a position
pub record Following (p : PlainProblem) (keeps : Bool) (plan : List Action) (k : ℕ) (t : Trail) : Type 0 where
  pub ws : List World
  pub executes : states p (take k plan) ≡ Some ws
  pub size : length ws ≡ k + 1
  pub follows : Follows keeps ws t

module _ (p : PlainProblem) (keeps : Bool) (plan : List Action) (k : ℕ) (ws : List World) (a : Action) (w : World)
    (so_far : states p (take k plan) ≡ Some ws) (l : k < length plan) (r : a ≡ get_or plan k a) (s : w ≡ get_or ws k w) where
  pub fault-told : (x : EvalFault) → IsCausedBy (looked_by_action p w a) x → IsFollowed p keeps plan (Err (told_after k x))
  fault-told (act.Range note) h = past-here p plan k ws a w so_far l r s note h
  fault-told act.NoMemory h = tt
