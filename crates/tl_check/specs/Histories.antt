-- When the facts of a predicate hold along some worlds.
use Rattle.std.specs.Prelude.{◌≡◌, ◌<◌, ℕ, List, length, true, false, Some, slice_get}
use Rattle.tl_check.specs.Lines.{truth_from, AreBefore}
use Rattle.tl_check.specs.Tracks.{Lines, line_in, fact_with, HaveSeenAll}
use Rattle.tl_check.specs.declared.history.History.{History}
use Rattle.tl_check.specs.declared.tracks.Tracks.{Tracks}
use Rattle.tl_syntax.specs.declared.value.Value.{Value}
use Rattle.tl_syntax.specs.Lists.{Among}
use Rattle.tl_terms.specs.World.{World, has_fact}

-- the changes tell at the first n positions which facts of the predicate hold
abbrev pub TellUpTo : ℕ → ℕ → List World → Lines → Type 0
TellUpTo n q ws lines = (a : List Value) (j : ℕ) (w : World) → j < n → slice_get ws j ≡ Some w →
    truth_from false (line_in lines (fact_with q a)) j ≡ has_fact w (q, a)

-- the same, and every fact that has changes was seen
pub record AreTracksUpTo (n q : ℕ) (ws : List World) (t : Tracks) : Type 0 where
  pub tell : TellUpTo n q ws t.lines
  pub bounded : (a : List Value) → AreBefore n (line_in t.lines (fact_with q a))
  pub covered : HaveSeenAll t

abbrev pub AreTracks : ℕ → List World → Tracks → Type 0
AreTracks q ws t = AreTracksUpTo (length ws) q ws t

-- the changes tell which facts of the predicate hold in each world, and each of these facts holds
-- in the world `ever`
pub record IsFactHistory (ws : List World) (h : History) : Type 0 where
  pub tell : TellUpTo (length ws) h.pred ws h.lines
  pub ever : (a : List Value) (w : World) → Among w ws → has_fact w (h.pred, a) ≡ true → has_fact h.ever (h.pred, a) ≡ true
