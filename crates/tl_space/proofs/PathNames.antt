-- The actions of the paths of kept pairs have named arguments.
use Rattle.std.proofs.Common.{◌≡◌, ℕ, zero, suc, List, [], ◌∷◌, ◌++◌, slice_get, slice_index_or, Some, sym, subst}
use Rattle.tl_syntax.proofs.ListLaws.{Each-append, Each-Among}
use Rattle.tl_syntax.specs.declared.action.Action.{Action}
use Rattle.tl_syntax.specs.Lists.{Each}
use Rattle.tl_nodes.specs.Numbers.{trees}
use Rattle.tl_action.specs.Actions.{ArgumentsAreNamed}
use Rattle.tl_search.specs.KeptPairs.{KeptPair}
use Rattle.tl_search.proofs.ListLaws.{among-at}
use Rattle.tl_search.proofs.WalkLaws.{by_last}
use Rattle.tl_space.specs.declared.numbers.Met.{Met}
use Rattle.tl_space.specs.declared.numbers.Met.TheVariants as met
use Rattle.tl_space.specs.declared.space.Space.{Space}
use Rattle.tl_space.specs.Kept.{path_at, path_by, paths_of, IsNamedMet}
use Rattle.tl_space.specs.Spaces.{name_count, kept_of}
use Rattle.tl_known.specs.WorldNumbers.{worlds_in}
use Rattle.tl_space.proofs.Growing.{kept-get, paths-snoc, each-more}

each-at : {A : Type 0} (P : A → Type 0) (xs : List A) (i : ℕ) (d : A) → Each P xs → P d → P (slice_index_or xs i d)
each-at P [] i d h k = k
each-at P (x ∷ xs) zero d h k = h.0
each-at P (x ∷ xs) (suc i) d h k = each-at P xs i d h.1 k

paths-named : (c : ℕ) (ms : List Met) → Each (IsNamedMet c) ms → Each (Each (ArgumentsAreNamed c)) (paths_of ms)
unfolding paths_of path_by
paths-named c = by_last (λ ms. Each (IsNamedMet c) ms → Each (Each (ArgumentsAreNamed c)) (paths_of ms)) (λ h. tt) more
  where
    by_way : (ps : List (List Action)) (m : Met) → Each (Each (ArgumentsAreNamed c)) ps → IsNamedMet c m →
        Each (ArgumentsAreNamed c) (path_by ps m)
    by_way ps met.First h k = tt
    by_way ps (met.After j a) h k = each-more (ArgumentsAreNamed c) (path_at ps j) a (each-at (Each (ArgumentsAreNamed c)) ps j [] h tt) k

    more : (ms : List Met) (m : Met) → (Each (IsNamedMet c) ms → Each (Each (ArgumentsAreNamed c)) (paths_of ms)) →
        Each (IsNamedMet c) (ms ++ m ∷ []) → Each (Each (ArgumentsAreNamed c)) (paths_of (ms ++ m ∷ []))
    more ms m earlier h =
        let k = (Each-append (IsNamedMet c) ms (m ∷ [])).0 h in
        subst (Each (Each (ArgumentsAreNamed c))) (sym (paths-snoc ms m))
        (each-more (Each (ArgumentsAreNamed c)) (paths_of ms) (path_by (paths_of ms) m) (earlier k.0)
        (by_way (paths_of ms) m (earlier k.0) k.1.0))

-- so those of one pair
pub path-named : (s : Space) (at : ℕ) (x : KeptPair) → slice_get (kept_of s) at ≡ Some x → Each (ArgumentsAreNamed (name_count s)) x.path
path-named s at x e =
    let k = kept-get (worlds_in s.worlds) (trees s.nodes) s.pairs.keys (paths_of s.from) at x e in
    (Each-Among (Each (ArgumentsAreNamed (name_count s))) (paths_of s.from)).0 (paths-named (name_count s) s.from s.kept.named) x.path
    (among-at (paths_of s.from) at x.path k.is_path)
