-- Answers that agree with the one that is given.
use Rattle.std.proofs.Common.{◌≡◌, inl, inr, ℕ, List, sym, ap, ◌∙◌, subst}
use Rattle.tl_run.specs.declared.status.Status.{Status}
use Rattle.tl_run.specs.declared.status.Status.TheVariants.{Yes, No, Spent, Range}
use Rattle.tl_run.specs.Answers.{Gives}
use Rattle.tl_run.specs.Commands.{Command}
use Rattle.tl_run.specs.Promises.{Agrees, GivesWay}

-- the statuses of what is right over all files
abbrev pub IsDone : Status → Type 0
IsDone Yes = Unit {0}
IsDone No = Unit {0}
IsDone Spent = Unit {0}
IsDone Range = Unit {0}
IsDone status = ⊥

way_to_range : (status : Status) → IsDone status → GivesWay status Range
way_to_range Yes done = tt
way_to_range No done = tt
way_to_range Spent done = tt
way_to_range Range done = tt
way_to_range status done = absurd done

way_from_range : (given : Status) → IsDone given → GivesWay Range given
way_from_range Yes done = tt
way_from_range No done = tt
way_from_range Spent done = tt
way_from_range Range done = tt
way_from_range given done = absurd done

-- each gives way to an operation past range, and this to each
pub to_range : (c : Command) (status given : Status) (text lines : List ℕ) → IsDone status → given ≡ Range →
    Agrees c status text given lines
to_range c status given text lines done is = inr (subst (GivesWay status) (sym is) (way_to_range status done))

pub from_range : (c : Command) (status given : Status) (text lines : List ℕ) → status ≡ Range → IsDone given →
    Agrees c status text given lines
from_range c status given text lines is done = inr (subst (λ (s : Status). GivesWay s given) (sym is) (way_from_range given done))

-- statuses give way as those that they are
pub gives_way : (c : Command) (status given a b : Status) (text lines : List ℕ) → status ≡ a → given ≡ b → GivesWay a b →
    Agrees c status text given lines
gives_way c status given a b text lines e f way =
    inr (subst (λ (s : Status). GivesWay s given) (sym e) (subst (GivesWay a) (sym f) way))

-- the same thing is given, with the same lines
pub same_given : {A : Type 0} (c : Command) (P Q : A → Type 0) (status_of : A → Status) (f g : A → List ℕ) (status given : Status)
    (text lines : List ℕ)
    (h : Gives P status_of f status text) (k : Gives Q status_of g given lines) → k.what ≡ h.what → g h.what ≡ f h.what →
    Agrees c status text given lines
same_given c P Q status_of f g status given text lines h k is same =
    inl (k.status_is ∙ ap status_of is ∙ sym h.status_is, inl (k.text_is ∙ ap g is ∙ same ∙ sym h.text_is))
