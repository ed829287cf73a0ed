-- Files of a command as they are read in turn.
use Rattle.std.proofs.Common.{◌≡◌, inl, inr, ℕ, zero, suc, ◌+◌, ◌-◌, ◌<◌, ◌≤◌, List, [], ◌∷◌, ◌++◌, length, map, take, drop, get_or, Some}
use Rattle.std.proofs.Common.{None, refl, sym, ap, ◌∙◌, subst, arith}
use Rattle.std.specs.Option.{option_map}
use Rattle.std.specs.Prelude.{Option, slice_get, false}
use Rattle.std.proofs.lemmas.Option.{slice_get-get_or, slice_get-map}
use Rattle.tl_outside.specs.Told.{Files, IsContent, Lacks}
use Rattle.tl_run.specs.declared.stop.Broken.{Broken}
use Rattle.tl_run.specs.declared.stop.Stop.{Stop}
use Rattle.tl_run.specs.declared.stop.Stop.TheVariants.{ReadFault, NoMemory, Refused}
use Rattle.tl_run.specs.declared.turn.Input.{Input as Held}
use Rattle.tl_run.specs.declared.turn.Input.TheVariants as held
use Rattle.tl_run.specs.declared.words.File.{File as HeldFile}
use Rattle.tl_run.specs.declared.words.Role.{Role}
use Rattle.tl_run.specs.Commands.{Command, check, search, trace, files_of, explain, prove_none, check_none, sample, cheapest, check_loop}
use Rattle.tl_run.specs.Held.{AreInOrder, HoldsFile, IsHeld, KeepsBounds, last_role, role_before}
use Rattle.tl_run.specs.Inputs.{Input, nothing, StandsFor, IsBroken}
use Rattle.tl_run.specs.Stops.{IsSampleStop, IsStop, IsTurnStop, ReadsFiles, is_fault}
use Rattle.tl_run.specs.Turns.{StandTogether, Reaches, ReachesFile, HoldInput, IsRefused, BegunInTurn, BeginsFirst, CallsTold}
use Rattle.tl_run.specs.Words.{file_meant}

-- a file of a command
abbrev File : Type 0
File = Role × List ℕ

-- the place of a file among others

pub file_at : (held : List HeldFile) (fs : List File) (i : ℕ) (d : HeldFile) → map file_meant held ≡ fs → i < length held → slice_get fs i ≡
    Some (file_meant (get_or held i d))
file_at held fs i d alike here =
    subst (λ (xs : List File). slice_get xs i ≡ Some (file_meant (get_or held i d))) alike
    (slice_get-map file_meant held i ∙ ap (option_map file_meant) (slice_get-get_or held i d here))

pub next_taken : (fs : List File) (i : ℕ) (f : File) → slice_get fs i ≡ Some f → take (suc i) fs ≡ take i fs ++ f ∷ []
next_taken [] i f at = absurd (let k : ⊥ = cc in k)
next_taken (g ∷ fs) zero f at = let e : g ≡ f = cc in ap (λ (x : File). x ∷ []) e
next_taken (g ∷ fs) (suc i) f at = ap (λ (xs : List File). g ∷ xs) (next_taken fs i f at)

split_at : (fs : List File) (i : ℕ) (f : File) → slice_get fs i ≡ Some f → fs ≡ take i fs ++ f ∷ drop (suc i) fs
split_at [] i f at = absurd (let k : ⊥ = cc in k)
split_at (g ∷ fs) zero f at = let e : g ≡ f = cc in ap (λ (x : File). x ∷ fs) e
split_at (g ∷ fs) (suc i) f at = ap (λ (xs : List File). g ∷ xs) (split_at fs i f at)

length_taken : (fs : List File) (i : ℕ) (f : File) → slice_get fs i ≡ Some f → length (take i fs) ≡ i
length_taken [] i f at = absurd (let k : ⊥ = cc in k)
length_taken (g ∷ fs) zero f at = refl
length_taken (g ∷ fs) (suc i) f at = let e = length_taken fs i f at in omega (arith, e)

-- one more file passes
stand_more : (files : Option Files) (fs : List File) (f : File) (a x y : Input) (bytes : List ℕ) → StandTogether files fs a x →
    IsContent files f.1 bytes → StandsFor f.0 x bytes y → StandTogether files (fs ++ f ∷ []) a y
stand_more files [] f a x y bytes h content stands = (
  bytes,
  y,
  content,
  subst (λ (u : Input). StandsFor f.0 u bytes y) (sym h) stands,
  refl,
)
stand_more files (g ∷ fs) f a x y bytes h content stands = (h.0, h.1, h.2, h.3, stand_more files fs f h.1 x y bytes h.4 content stands)

-- after those that pass the next one is reached
reach : (P : ℕ → Role → List ℕ → Input → Type 0) (files : Option Files) (fs gs : List File) (f : File) (k : ℕ) (a x : Input) →
    StandTogether files fs a x → P (k + length fs) f.0 f.1 x → Reaches P files (fs ++ f ∷ gs) k a
reach P files [] gs f k a x h p =
    let e : k + 0 ≡ k = omega arith in
    inl (subst (λ (u : Input). P k f.0 f.1 u) (sym h) (subst (λ (n : ℕ). P n f.0 f.1 x) e p))
reach P files (g ∷ fs) gs f k a x h p =
    let e : k + length (g ∷ fs) ≡ k + 1 + length fs = omega arith in
    inr (h.0, h.1, h.2, h.3, reach P files fs gs f (k + 1) h.1 x h.4 (subst (λ (n : ℕ). P n f.0 f.1 x) e p))

-- i files of a command passed, and this is the next
pub record IsNext (files : Option Files) (c : Command) (i : ℕ) (f : File) (x : Input) : Type 0 where
  pub at : slice_get (files_of c) i ≡ Some f
  pub stand : StandTogether files (take i (files_of c)) nothing x

-- the next one is reached
reaches_next : (P : ℕ → Role → List ℕ → Input → Type 0) (files : Option Files) (c : Command) (i : ℕ) (f : File) (x : Input) →
    IsNext files c i f x → P (i + 1) f.0 f.1 x → ReachesFile P files c
reaches_next P files c i f x next p =
    let fs = files_of c in
    let count = length_taken fs i f next.at in
    let e : i + 1 ≡ 1 + length (take i fs) = omega (arith, count) in
    subst (λ (xs : List File). Reaches P files xs 1 nothing) (sym (split_at fs i f next.at))
    (reach P files (take i fs) (drop (suc i) fs) f 1 nothing x next.stand (subst (λ (n : ℕ). P n f.0 f.1 x) e p))

-- the next one passes
pub next_passes : (files : Option Files) (c : Command) (i : ℕ) (f : File) (x y : Input) (bytes : List ℕ) → IsNext files c i f x →
    IsContent files f.1 bytes → StandsFor f.0 x bytes y → StandTogether files (take (i + 1) (files_of c)) nothing y
next_passes files c i f x y bytes next content stands =
    let fs = files_of c in
    let e : i + 1 ≡ suc i = omega arith in
    subst (λ (n : ℕ). StandTogether files (take n fs) nothing y) (sym e)
    (subst (λ (xs : List File). StandTogether files xs nothing y) (sym (next_taken fs i f next.at))
    (stand_more files (take i fs) f nothing x y bytes next.stand content stands))

-- no more files were begun than are reached
pub begun_next : (files : Option Files) (c : Command) (i : ℕ) (f : File) (x : Input) → IsNext files c i f x → BegunInTurn files c (i + 1)
begun_next files c i f x next =
    let le : i + 1 ≤ i + 1 = omega arith in
    inr (reaches_next (λ k r name before. i + 1 ≤ k) files c i f x next le)

-- a command that reads files is refused where one of them is
files_refused : (files : Option Files) (c : Command) (number : ℕ) (m : Broken) → ReadsFiles c →
    ReachesFile (λ k r name before. (k ≡ number) × ((bs : List ℕ) × IsContent files name bs × IsBroken r before bs m)) files c →
    IsRefused files c number m
files_refused files (sample balls) number m reads h = absurd reads
files_refused files c number m reads h = h

refused_next : (files : Option Files) (c : Command) (i : ℕ) (f : File) (x : Input) (bytes : List ℕ) (m : Broken) → ReadsFiles c →
    IsNext files c i f x → IsContent files f.1 bytes → IsBroken f.0 x bytes m → IsRefused files c (i + 1) m
refused_next files c i f x bytes m reads next content broken =
    let reached = reaches_next (λ k r name before. (k ≡ i + 1) × ((bs : List ℕ) × IsContent files name bs × IsBroken r before bs m)) files c
    i f x next (refl, (bytes, content, broken)) in
    files_refused files c (i + 1) m reads reached

-- why the next file adds nothing
pub next_stops : (files : Option Files) (c : Command) (i : ℕ) (f : File) (x : Input) (told : CallsTold) (start mid now : ℕ) (stop : Stop) →
    ReadsFiles c → IsNext files c i f x → start ≤ mid → BeginsFirst c told (i + 1) (is_fault stop) →
    IsTurnStop files f.0 f.1 x (i + 1) mid now stop → IsStop files c told start now stop
next_stops files c i f x told start mid now ReadFault reads next later begins (inl lacks) =
    inl (reaches_next (λ k r name before. Lacks files name) files c i f x next lacks)
next_stops files c i f x told start mid now ReadFault reads next later begins (inr rose) = inr (omega (arith, later, rose))
next_stops files c i f x told start mid now NoMemory reads next later begins h = tt
next_stops files c i f x told start mid now (Refused number m) reads next later begins h =
    let broken = h.1 in
    subst (λ (n : ℕ). IsRefused files c n m × BeginsFirst c told n false) (sym h.0)
    (refused_next files c i f x broken.0 m reads next broken.1 broken.2, begins)

-- the files of each command come in the order of their roles
pub in_order : (c : Command) → AreInOrder None (files_of c)
in_order (check d p q) = (refl, (refl, (refl, tt)))
in_order (search s d p) = (refl, (refl, tt))
in_order (trace s d p) = (refl, (refl, tt))
in_order (explain d p q) = (refl, (refl, (refl, tt)))
in_order (prove_none s d p) = (refl, (refl, tt))
in_order (check_none d p q) = (refl, (refl, (refl, tt)))
in_order (sample balls) = tt
in_order (cheapest b d p k) = (refl, (refl, (refl, tt)))
in_order (check_loop d p q) = (refl, (refl, (refl, tt)))

-- what is known after i files of a command have passed
pub record HasRead (files : Option Files) (c : Command) (i : ℕ) (h : Held) : Type 0 where
  pub input : Input
  pub is_held : IsHeld h input
  pub keeps : KeepsBounds h
  pub stand : StandTogether files (take i (files_of c)) nothing input
  pub order : AreInOrder (last_role h) (drop i (files_of c))

-- before the first one
pub has_read_none : (files : Option Files) (c : Command) → HasRead files c 0 held.Nothing
has_read_none files c = record { input = nothing; is_held = tt; keeps = tt; stand = refl; order = in_order c }

order_here : (last : Option Role) (fs : List File) (i : ℕ) (f : File) → slice_get fs i ≡ Some f → AreInOrder last (drop i fs) →
    (role_before f.0 ≡ last) × AreInOrder (Some f.0) (drop (suc i) fs)
order_here last [] i f at order = absurd (let k : ⊥ = cc in k)
order_here last (g ∷ fs) zero f at order =
    let e : g ≡ f = cc in
    subst (λ (x : File). (role_before x.0 ≡ last) × AreInOrder (Some x.0) fs) e order
order_here last (g ∷ fs) (suc i) f at order = order_here last fs i f at order

-- the next file comes after one of the role that it needs
pub next_in_order : (files : Option Files) (c : Command) (i : ℕ) (f : File) (h : Held) → slice_get (files_of c) i ≡ Some f →
    HasRead files c i h → role_before f.0 ≡ last_role h
next_in_order files c i f h at read = (order_here (last_role h) (files_of c) i f at read.order).0

pub next_of : (files : Option Files) (c : Command) (i : ℕ) (f : File) (h : Held) → slice_get (files_of c) i ≡ Some f →
    (read : HasRead files c i h) → IsNext files c i f read.input
next_of files c i f h at read = record { at = at; stand = read.stand }

-- and after it has passed
pub has_read_more : (files : Option Files) (c : Command) (i : ℕ) (f : File) (h after : Held) → slice_get (files_of c) i ≡ Some f →
    (read : HasRead files c i h) → HoldsFile files f.0 f.1 read.input after → KeepsBounds after → last_role after ≡ Some f.0 →
    HasRead files c (i + 1) after
has_read_more files c i f h after at read passes keeps last =
    let e : i + 1 ≡ suc i = omega arith in
    record {
      input = passes.input;
      is_held = passes.is_held;
      keeps = keeps;
      stand = next_passes files c i f read.input passes.input passes.bytes (next_of files c i f h at read) passes.content passes.stands;
      order = subst (λ (o : Option Role). AreInOrder o (drop (i + 1) (files_of c))) (sym last)
          (subst (λ (n : ℕ). AreInOrder (Some f.0) (drop n (files_of c))) (sym e)
          (order_here (last_role h) (files_of c) i f at read.order).1);
    }

taken_all : (fs : List File) (i : ℕ) → length fs ≤ i → take i fs ≡ fs
taken_all [] zero h = refl
taken_all [] (suc i) h = refl
taken_all (f ∷ fs) zero h = absurd (omega (arith, h))
taken_all (f ∷ fs) (suc i) h = let le : length fs ≤ i = omega (arith, h) in ap (λ (xs : List File). f ∷ xs) (taken_all fs i le)

-- a command that reads files is over what they stand for
files_hold : (files : Option Files) (c : Command) (x : Input) → ReadsFiles c → StandTogether files (files_of c) nothing x →
    HoldInput files c x
files_hold files (sample balls) x reads h = absurd reads
files_hold files c x reads h = h

-- all files have passed
pub has_read_all : (files : Option Files) (c : Command) (i : ℕ) (h : Held) → ReadsFiles c → length (files_of c) ≤ i → HasRead files c i h →
    (x : Input) × HoldInput files c x × IsHeld h x
has_read_all files c i h reads all read = (
  read.input,
  files_hold files c read.input reads
      (subst (λ (xs : List File). StandTogether files xs nothing read.input) (taken_all (files_of c) i all) read.stand),
  read.is_held,
)

-- why a text of a sample adds nothing, where no file was begun
pub sample_stops : (files : Option Files) (balls : ℕ) (told : CallsTold) (before now : ℕ) (stop : Stop) →
    ((number : ℕ) → BeginsFirst (sample balls) told number false) → IsSampleStop balls stop →
    IsStop files (sample balls) told before now stop
sample_stops files balls told before now ReadFault none h = absurd h
sample_stops files balls told before now NoMemory none h = tt
sample_stops files balls told before now (Refused number m) none h = (h, none number)
