use Rattle.std.proofs.Common.{◌≡◌, ◌≤◌, ◌++◌, List, [], ◌∷◌, length, refl, sym, ap, ◌∙◌, arith}
use Rattle.std.proofs.Common.{ℕ, Ok, Err}
use Rattle.std.specs.Prelude.{IfOk}
use Rattle.std.specs.declared.result.Result.{Result}
use Rattle.tl_rows.specs.Runs.{between}
use Rattle.tl_rows.proofs.Parts.{between-front, nothing-between}
use Rattle.tl_rows.proofs.runs.Runs.push_whole.Goals as goal

-- what follows the first rows, where there are no last ones
before-none : {X : Type 0} (s t x : List X) → length t ≡ 0 → (s ++ x) ++ t ≡ (s ++ t) ++ x
before-none s [] x e = end (s ++ x) ∙ ap (λ ys. ys ++ x) (sym (end s))
  where
    end : {X : Type 0} (ys : List X) → ys ++ [] ≡ ys
    end [] = refl
    end (y ∷ ys) = ap (λ zs. y ∷ zs) (end ys)
before-none s (y ∷ t) x e = absurd (omega (arith, e))

-- the rows with whole runs of others
whole : {E X : Type 0} (r : Result ℕ E) (k to : ℕ) (s new t os ot self other : List X) →
    IfOk r (λ n. (k ≤ n) × (n ≤ to) × (n ≤ length os)) → IfOk r (λ n. new ≡ s ++ between os k n) → length t ≡ 0 → s ++ t ≡ self → os ++ ot ≡
    other
    → IfOk r (λ n. (k ≤ n) × (n ≤ to) × (new ++ t ≡ self ++ between other k n))
whole (Ok n) k to s new t os ot self other range rows none is are = (
  range.0,
  range.1,
  ap (λ x. x ++ t) rows
      ∙ (before-none s t (between os k n) none ∙ (λ i. is i ++ (sym (between-front os ot k n range.0 range.2) ∙
      ap (λ xs. between xs k n) are) i)),
)
whole (Err e) k to s new t os ot self other range rows none is are = range

pub returns-then-count-gt0 : goal.returns-then-count-gt0
returns-then-count-gt0 c = (
  (let m : c.args.k ≤ c.args.k = omega arith in m),
  omega (arith, c.requires),
  nothing-between c.args.self.now c.args.other.now c.args.k,
)

pub returns-then-k-full : goal.returns-then-k-full
returns-then-k-full c = (
  (let m : c.args.k ≤ c.args.k = omega arith in m),
  omega (arith, c.requires),
  nothing-between c.args.self.now c.args.other.now c.args.k,
)

pub returns : goal.returns
returns c =
    let none : length c.self.inside.last ≡ 0 = let size : c.len-count.result ≡ length c.self.inside.last = c.len-count.ensures.len in
    omega (arith, size, c.if-count-gt0.false) in
    whole c.push_runs.result c.args.k c.args.to c.self.inside.shared c.push_runs.new.self c.self.inside.last c.other.inside.shared
    c.other.inside.last c.args.self.now c.args.other.now c.push_runs.ensures.range c.push_runs.ensures.rows none c.self.view_is
    c.other.view_is
