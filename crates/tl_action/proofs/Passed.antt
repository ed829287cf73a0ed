-- Changes that are collected in turn.
use Rattle.std.proofs.Common.{◌≡◌, List, [], ◌∷◌, ◌++◌, map, flat_map, append_assoc, append-nil, Bool, true, false, ◌&&◌, refl, sym, ap}
use Rattle.std.proofs.Common.{ap₂, ◌∙◌, subst}
use Rattle.std.specs.List.{list_all}
use Rattle.tl_action.specs.declared.changes.Changes.{Changes}
use Rattle.tl_eval.specs.declared.fault.EvalFault.{EvalFault}
use Rattle.tl_eval.specs.declared.fault.EvalFault.TheVariants as fault
use Rattle.tl_eval.specs.Faults.{IsCausedBy}
use Rattle.tl_action.specs.Collected.{HasMore}
use Rattle.tl_eval.specs.Notes.{operation_of}
use Rattle.tl_eval.proofs.TermLaws.{among-left, among-right}
use Rattle.tl_syntax.specs.Keys.{fact_key, place_entry}
use Rattle.tl_syntax.specs.Lists.{Among}
use Rattle.tl_terms.specs.Operations.{Operation}
use Rattle.tl_terms.specs.Step.{EffectInstance, is_defined, added, deleted, given}

pub flat-two : {A B : Type 0} (f : A → List B) (xs ys : List A) → flat_map f (xs ++ ys) ≡ flat_map f xs ++ flat_map f ys
flat-two f [] ys = refl
flat-two f (x ∷ xs) ys = ap (λ zs. f x ++ zs) (flat-two f xs ys) ∙ sym (append_assoc (f x) (flat_map f xs) (flat_map f ys))

pub all-two : {A : Type 0} (p : A → Bool) (xs ys : List A) → list_all p (xs ++ ys) ≡ (list_all p xs && list_all p ys)
all-two p [] ys = refl
all-two p (x ∷ xs) ys = (elim (p x) as (λ b. (b && list_all p (xs ++ ys)) ≡
    ((b && list_all p xs) && list_all p ys)) [ true ↦ all-two p xs ys | false ↦ refl ])

-- a cause is one of more operations too
pub caused-more : (ls ms : List Operation) (x : EvalFault) → ((o : Operation) → Among o ls → Among o ms) → IsCausedBy ls x → IsCausedBy ms x
caused-more ls ms (fault.Range note) more h = (more (operation_of note) h.0, h.1)
caused-more ls ms fault.NoMemory more h = tt

pub nothing-more : (x : Changes) → HasMore [] x x
nothing-more x = record {
  defined = refl;
  dels = sym (append-nil (map fact_key x.dels));
  adds = sym (append-nil (map fact_key x.adds));
  sets = sym (append-nil (map place_entry x.sets));
}

regrouped : {A : Type 0} (x y z : List A) (f : EffectInstance → List A) (cs ds : List EffectInstance) → y ≡ x ++ flat_map f cs → z ≡ y ++
    flat_map f ds → z ≡ x ++ flat_map f (cs ++ ds)
regrouped x y z f cs ds q r = r ∙ (ap (λ u. u ++ flat_map f ds) q ∙ (append_assoc x (flat_map f cs) (flat_map f ds) ∙
    ap (λ u. x ++ u) (sym (flat-two f cs ds))))

pub more-both : (cs ds : List EffectInstance) (x y z : Changes) → HasMore cs x y → HasMore ds y z → HasMore (cs ++ ds) x z
more-both cs ds x y z h k = record {
  defined = all-two is_defined cs ds ∙ ap₂ ◌&&◌ h.defined k.defined;
  dels = regrouped (map fact_key x.dels) (map fact_key y.dels) (map fact_key z.dels) deleted cs ds h.dels k.dels;
  adds = regrouped (map fact_key x.adds) (map fact_key y.adds) (map fact_key z.adds) added cs ds h.adds k.adds;
  sets = regrouped (map place_entry x.sets) (map place_entry y.sets) (map place_entry z.sets) given cs ds h.sets k.sets;
}

-- the changes so far are those of all instances but the rest, and what the rest looks at is looked at
pub record Passed (all : List EffectInstance) (looked : List Operation) (rest : List EffectInstance) (looked_rest : List Operation)
    (before now : Changes) : Type 0 where
  pub done : List EffectInstance
  pub instances : all ≡ done ++ rest
  pub more : HasMore done before now
  pub operations : (o : Operation) → Among o looked_rest → Among o looked

pub passed-begun : (all rest : List EffectInstance) (looked looked_rest : List Operation) (x : Changes) → all ≡ rest → looked ≡
    looked_rest → Passed all looked rest looked_rest x x
passed-begun all rest looked looked_rest x q r = record {
  done = [];
  instances = q;
  more = nothing-more x;
  operations = λ o.
      subst (λ ls. Among o ls) (sym r);
}

module _ (all rest xs others : List EffectInstance) (looked looked_rest ls looked_others : List Operation) (before now : Changes)
    (q : rest ≡ xs ++ others) (r : looked_rest ≡ ls ++ looked_others) (h : Passed all looked rest looked_rest before now) where
  pub passed-on : (then : Changes) → HasMore xs now then → Passed all looked others looked_others before then
  passed-on then k = record {
    done = h.done ++ xs;
    instances = h.instances ∙ (ap (λ u. h.done ++ u) q ∙ sym (append_assoc h.done xs others));
    more = more-both h.done xs before now then h.more k;
    operations = λ o m. h.operations o (subst (λ u. Among o u) (sym r) (among-right o ls looked_others m));
  }

  pub passed-undefined : list_all is_defined xs ≡ false → list_all is_defined all ≡ false
  passed-undefined k =
      ap (list_all is_defined) (h.instances ∙ ap (λ u. h.done ++ u) q) ∙
      (all-two is_defined h.done (xs ++ others) ∙ (ap (λ (b : Bool). b && list_all is_defined (xs ++ others)) h.more.defined ∙
      (all-two is_defined xs others ∙ ap (λ (b : Bool). b && list_all is_defined others) k)))

  pub passed-fault : (x : EvalFault) → IsCausedBy ls x → IsCausedBy looked x
  passed-fault x k = caused-more ls looked x (λ o m. h.operations o (subst (λ u. Among o u) (sym r) (among-left o ls looked_others m))) k

pub passed-end : (all rest : List EffectInstance) (looked looked_rest : List Operation) (before now : Changes) → rest ≡ [] →
    Passed all looked rest looked_rest before now → HasMore all before now
passed-end all rest looked looked_rest before now q h = subst (λ cs. HasMore cs before now)
    (sym (h.instances ∙ (ap (λ u. h.done ++ u) q ∙ append-nil h.done))) h.more
