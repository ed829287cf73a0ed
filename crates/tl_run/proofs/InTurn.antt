-- Files in turn that are told: they stand for one thing, or one of them is refused by one rule.
use Rattle.std.proofs.Common.{◌≡◌, ℕ, ◌+◌, List, [], ◌∷◌, sym, ◌∙◌, subst, inl, inr}
use Rattle.std.specs.Prelude.{Option, Some}
use Rattle.tl_domain.specs.LawsFiles.{FilesStandForOneProblem}
use Rattle.tl_outside.specs.Told.{Files, IsContent}
use Rattle.tl_run.specs.declared.stop.Broken.{Broken}
use Rattle.tl_gen.specs.Samples.{domain_text, problem_text}
use Rattle.tl_run.specs.declared.words.Role.{Role}
use Rattle.tl_run.specs.declared.words.Role.TheVariants as role
use Rattle.tl_run.specs.Commands.{Command, sample, files_of}
use Rattle.tl_run.specs.Inputs.{Input, nothing, StandsFor, IsBroken}
use Rattle.tl_run.specs.SampleTexts.{SampleStandsFor, BreaksSample}
use Rattle.tl_run.specs.Turns.{StandTogether, Reaches, HoldInput, IsRefused}
use Rattle.tl_run.proofs.Exclusive.{broken_one, passes_or_breaks}
use Rattle.tl_run.proofs.SameInputs.{SameInput, same_back, stands_one}

-- the content of a told file is one
content_one : (files : Files) (name x y : List ℕ) → IsContent (Some files) name x → IsContent (Some files) name y → x ≡ y
content_one files name x y p q = let e : Some x ≡ Some y = sym p ∙ q in cc

-- the file of this number breaks this rule, where it has its turn
abbrev BreaksAt : Option Files → ℕ → Broken → ℕ → Role → List ℕ → Input → Type 0
BreaksAt files number m k r name before = (k ≡ number) × ((bytes : List ℕ) × IsContent files name bytes × IsBroken r before bytes m)

module _ (law : FilesStandForOneProblem) (files : Files) where
  next_same : (r : Role) (name : List ℕ) (a b x y : Input) (m n : List ℕ) → SameInput a b → IsContent (Some files) name m →
      StandsFor r a m x → IsContent (Some files) name n → StandsFor r b n y → SameInput x y
  next_same r name a b x y m n same p h q k = stands_one law r a b x y n same
      (subst (λ (u : List ℕ). StandsFor r a u x) (content_one files name m n p q) h) k

  pub stand_same : (fs : List (Role × List ℕ)) (a b x y : Input) → SameInput a b → StandTogether (Some files) fs a x →
      StandTogether (Some files) fs b y → SameInput x y
  stand_same [] a b x y same h k = subst (λ (u : Input). SameInput u y) h (subst (λ (u : Input). SameInput a u) k same)
  stand_same (f ∷ fs) a b x y same h k = stand_same fs h.1 k.1 x y (next_same f.0 f.1 a b h.1 k.1 h.0 k.0 same h.2 h.3 k.2 k.3) h.4 k.4

  no_pass : (fs : List (Role × List ℕ)) (k : ℕ) (a b x : Input) (number : ℕ) (m : Broken) → SameInput a b →
      StandTogether (Some files) fs a x → Reaches (BreaksAt (Some files) number m) (Some files) fs k b → ⊥
  no_pass [] k a b x number m same h t = t
  no_pass (f ∷ fs) k a b x number m same h (inl t) =
      let broken = t.1 in
      passes_or_breaks f.0 a b h.1 h.0 m same h.3 (subst (λ (u : List ℕ). IsBroken f.0 b u m)
      (content_one files f.1 broken.0 h.0 broken.1 h.2) broken.2)
  no_pass (f ∷ fs) k a b x number m same h (inr t) = no_pass fs (k + 1) h.1 t.1 x number m
      (next_same f.0 f.1 a b h.1 t.1 h.0 t.0 same h.2 h.3 t.2 t.3) h.4 t.4

  passed_here : (r : Role) (name : List ℕ) (a b y : Input) (k number : ℕ) (m : Broken) (n : List ℕ) → SameInput a b →
      BreaksAt (Some files) number m k r name a → IsContent (Some files) name n → StandsFor r b n y → ⊥
  passed_here r name a b y k number m n same t q h =
      let broken = t.1 in
      passes_or_breaks r b a y n m (same_back a b same) h (subst (λ (u : List ℕ). IsBroken r a u m)
      (content_one files name broken.0 n broken.1 q) broken.2)

  one_place : (fs : List (Role × List ℕ)) (k : ℕ) (a b : Input) (i j : ℕ) (m n : Broken) → SameInput a b →
      Reaches (BreaksAt (Some files) i m) (Some files) fs k a → Reaches (BreaksAt (Some files) j n) (Some files) fs k b → (i ≡ j) × (m ≡ n)
  one_place [] k a b i j m n same s t = absurd s
  one_place (f ∷ fs) k a b i j m n same (inl s) (inl t) =
      let x = s.1 in
      let y = t.1 in (
        sym s.0 ∙ t.0,
        broken_one f.0 a b y.0 m n same (subst (λ (u : List ℕ). IsBroken f.0 a u m)
            (content_one files f.1 x.0 y.0 x.1 y.1) x.2) y.2,
      )
  one_place (f ∷ fs) k a b i j m n same (inl s) (inr t) = absurd (passed_here f.0 f.1 a b t.1 k i m t.0 same s t.2 t.3)
  one_place (f ∷ fs) k a b i j m n same (inr s) (inl t) = absurd (passed_here f.0 f.1 b a s.1 k j n s.0 (same_back a b same) t s.2 s.3)
  one_place (f ∷ fs) k a b i j m n same (inr s) (inr t) = one_place fs (k + 1) s.1 t.1 i j m n
      (next_same f.0 f.1 a b s.1 t.1 s.0 t.0 same s.2 s.3 t.2 t.3) s.4 t.4

-- the same of the two texts of a sample

module _ (law : FilesStandForOneProblem) (balls : ℕ) where
  pub sample_one : (x y : Input) → SampleStandsFor balls x → SampleStandsFor balls y → SameInput x y
  sample_one x y h k = stands_one law role.Problem h.0 k.0 x y (problem_text balls)
      (stands_one law role.Domain nothing nothing h.0 k.0 domain_text tt h.1 k.1) h.2 k.2

  no_broken_text : (x : Input) (number : ℕ) (b : Broken) → SampleStandsFor balls x → BreaksSample balls number b → ⊥
  no_broken_text x number b h (inl t) = passes_or_breaks role.Domain nothing nothing h.0 domain_text b tt h.1 t.1
  no_broken_text x number b h (inr t) =
      let second = t.1 in
      passes_or_breaks role.Problem h.0 second.0 x (problem_text balls) b
      (stands_one law role.Domain nothing nothing h.0 second.0 domain_text tt h.1 second.1) h.2 second.2

  one_broken_text : (i j : ℕ) (a b : Broken) → BreaksSample balls i a → BreaksSample balls j b → (i ≡ j) × (a ≡ b)
  one_broken_text i j a b (inl s) (inl t) = (s.0 ∙ sym t.0, broken_one role.Domain nothing nothing domain_text a b tt s.1 t.1)
  one_broken_text i j a b (inl s) (inr t) = let second = t.1 in absurd
      (passes_or_breaks role.Domain nothing nothing second.0 domain_text a tt second.1 s.1)
  one_broken_text i j a b (inr s) (inl t) = let second = s.1 in absurd
      (passes_or_breaks role.Domain nothing nothing second.0 domain_text b tt second.1 t.1)
  one_broken_text i j a b (inr s) (inr t) =
      let first = s.1 in
      let second = t.1 in (
        s.0 ∙ sym t.0,
        broken_one role.Problem first.0 second.0 (problem_text balls) a b
            (stands_one law role.Domain nothing nothing first.0 second.0 domain_text tt first.1 second.1) first.2 second.2,
      )

-- told files that stand for something are not refused
pub no_refusal : FilesStandForOneProblem → (files : Files) (c : Command) (x : Input) (number : ℕ) (m : Broken) →
    HoldInput (Some files) c x → IsRefused (Some files) c number m → ⊥
no_refusal law files (sample balls) x number m h t = no_broken_text law balls x number m h t
no_refusal law files c x number m h t = no_pass law files (files_of c) 1 nothing nothing x number m tt h t

-- one of them at most is refused, by one rule
pub one_refusal : FilesStandForOneProblem → (files : Files) (c : Command) (i j : ℕ) (m n : Broken) → IsRefused (Some files) c i m →
    IsRefused (Some files) c j n → (i ≡ j) × (m ≡ n)
one_refusal law files (sample balls) i j m n s t = one_broken_text law balls i j m n s t
one_refusal law files c i j m n s t = one_place law files (files_of c) 1 nothing nothing i j m n tt s t
