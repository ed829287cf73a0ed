use Rattle.std.proofs.Common.{◌≡◌, ℕ, List, map, sym, ap, ◌∙◌, Bor}
use Rattle.std.specs.Prelude.{Option, Some, None}
use Rattle.std.specs.List.{position}
use Rattle.std.specs.Str.{bytes_eq}
use Rattle.tl_formulas.proofs.Positions.{position-mapped}
use Rattle.tl_formulas.proofs.scope.Scope.slot.Goals as goal

seen : (text : List ℕ) (r : Option ℕ) (found items : List (Bor (List ℕ))) (texts : List (List ℕ)) → r ≡
    position (λ one. bytes_eq text one.now) found → found ≡ items → map (λ one. one.now) items ≡ texts → r ≡ position (bytes_eq text) texts
seen text r found items texts e f v =
    e ∙ ap (position (λ one. bytes_eq text one.now)) f ∙ sym (position-mapped (λ one. one.now) (bytes_eq text) items) ∙
    ap (position (bytes_eq text)) v

pub returns-in-Some : goal.returns-in-Some
returns-in-Some c = seen c.args.text.now (Some c.in-Some.slot) c.as_slice.result.now c.self.inside.variables.items c.args.self.now
    c.in-Some.ensures.place c.as_slice.ensures.value c.self.view_is

pub returns-in-None : goal.returns-in-None
returns-in-None c = seen c.args.text.now None c.as_slice.result.now c.self.inside.variables.items c.args.self.now c.in-None.ensures.place
    c.as_slice.ensures.value c.self.view_is
