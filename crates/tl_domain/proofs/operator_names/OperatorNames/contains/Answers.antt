use Rattle.std.proofs.Common.{◌≡◌, ℕ, List, [], ◌∷◌, Bool, map, refl, sym, ap, ◌∙◌, Bor}
use Rattle.std.specs.Prelude.{◌||◌}
use Rattle.std.specs.List.{list_any}
use Rattle.std.specs.Str.{bytes_eq}
use Rattle.tl_domain.proofs.operator_names.OperatorNames.contains.Goals as goal

any-mapped : {A B : Type 0} (f : A → B) (p : B → Bool) (xs : List A) → list_any p (map f xs) ≡ list_any (λ x. p (f x)) xs
any-mapped f p [] = refl
any-mapped f p (x ∷ xs) = ap (λ b. p (f x) || b) (any-mapped f p xs)

seen : (text : List ℕ) (r : Bool) (found items : List (Bor (List ℕ))) (texts : List (List ℕ)) → r ≡
    list_any (λ one. bytes_eq text one.now) found → found ≡ items → map (λ one. one.now) items ≡ texts → r ≡ list_any (bytes_eq text) texts
seen text r found items texts e f v =
    e ∙ ap (list_any (λ one. bytes_eq text one.now)) f ∙ sym (any-mapped (λ one. one.now) (bytes_eq text) items) ∙
    ap (list_any (bytes_eq text)) v

pub returns : goal.returns
returns c = seen c.args.text.now c.is_among.result c.as_slice.result.now c.self.inside.names.items c.args.self.now c.is_among.ensures
    c.as_slice.ensures.value c.self.view_is
