-- Bytes that are handed over call by call.
use Rattle.std.proofs.Common.{◌≡◌, ℕ, ◌+◌, ◌-◌, ◌<◌, ◌≤◌, List, [], ◌∷◌, ◌++◌, length, take, drop, Bool, true, false, refl, sym, ap, subst}
use Rattle.std.proofs.Common.{◌∙◌, arith, append_assoc}
use Rattle.std.specs.Prelude.{None, Some, Option}
use Rattle.std.proofs.lemmas.List.{append-nil, take_rest, drop_all}
use Rattle.std.proofs.lemmas.Grind.{common_steps}
use Rattle.tl_outside.specs.Puts.{Put, takes_over, fails, with_puts, HandsOver, WritesBy}

-- no call at all
with_no_puts : (told : Option (List Put)) → with_puts told [] ≡ told
with_no_puts None = refl
with_no_puts (Some all) = ap Some (append-nil all)

-- calls, and then others
with_puts_more : (told : Option (List Put)) (puts more : List Put) → with_puts (with_puts told puts) more ≡ with_puts told (puts ++ more)
with_puts_more None puts more = refl
with_puts_more (Some all) puts more = ap Some (append_assoc all puts more)

-- after these calls the rest is left: whatever hands the rest over hands all over with them
abbrev pub Leaves : List ℕ → List Put → List ℕ → Type 0
Leaves bytes puts rest = (more : List Put) (all : Bool) → HandsOver rest more all → HandsOver bytes (puts ++ more) all

-- where they are told, the calls that came leave so many bytes' rest
abbrev pub Leads : Option (List Put) → Option (List Put) → List ℕ → ℕ → Type 0
Leads old new bytes done = (puts : List Put) × Leaves bytes puts (drop done bytes) × (new ≡ with_puts old puts)

-- before the first call
pub leads_first : (old : Option (List Put)) (bytes : List ℕ) → Leads old old bytes 0
leads_first old bytes = ([], (λ more all h. h), sym (with_no_puts old))

-- after one more
pub leads_more : (old new newer : Option (List Put)) (bytes : List ℕ) (d n : ℕ) → d < length bytes → Leads old new bytes d → newer ≡
    with_puts new (takes_over (take (length bytes - d) (drop d bytes)) n ∷ []) → Leads old newer bytes (d + n)
leads_more old new newer bytes d n lt (puts, leaves, is) e =
    let put : Put = takes_over (take (length bytes - d) (drop d bytes)) n in
    let some : 0 < length (drop d bytes) = grind (arith, common_steps, lt) in
    let rest : drop n (drop d bytes) ≡ drop (d + n) bytes = grind (arith, common_steps) in (
      puts ++ put ∷ [],
      (λ more all h. subst (λ (ps : List Put). HandsOver bytes ps all) (sym (append_assoc puts (put ∷ []) more))
          (leaves (put ∷ more) all (some, take_rest bytes d, subst (λ (left : List ℕ). HandsOver left more all) (sym rest) h))),
      e ∙ ap (λ told. with_puts told (put ∷ [])) is ∙ with_puts_more old puts (put ∷ []),
    )

-- nothing is left
pub leads_to_all : (old new : Option (List Put)) (bytes : List ℕ) (d : ℕ) → length bytes ≤ d → Leads old new bytes d →
    WritesBy old new bytes true
leads_to_all old new bytes d end (puts, leaves, is) =
    (puts, subst (λ (ps : List Put). HandsOver bytes ps true) (append-nil puts) (leaves [] true (drop_all d bytes end, refl)), is)

-- a call failed
pub leads_to_fault : (old new newer : Option (List Put)) (bytes : List ℕ) (d : ℕ) → d < length bytes → Leads old new bytes d → newer ≡
    with_puts new (fails (take (length bytes - d) (drop d bytes)) ∷ []) → WritesBy old newer bytes false
leads_to_fault old new newer bytes d lt (puts, leaves, is) e =
    let put : Put = fails (take (length bytes - d) (drop d bytes)) in
    let some : 0 < length (drop d bytes) = grind (arith, common_steps, lt) in (
      puts ++ put ∷ [],
      leaves (put ∷ []) false (some, take_rest bytes d, refl, refl),
      e ∙ ap (λ told. with_puts told (put ∷ [])) is ∙
          with_puts_more old puts (put ∷ []),
    )
