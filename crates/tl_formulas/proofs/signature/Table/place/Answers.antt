use Rattle.std.proofs.Common.{◌≡◌, ℕ, List, map, sym, ap, ◌∙◌}
use Rattle.std.specs.Prelude.{Option, Some, None}
use Rattle.std.specs.List.{position}
use Rattle.std.specs.Str.{bytes_eq}
use Rattle.tl_formulas.specs.declared.signature.Entry.{Entry}
use Rattle.tl_formulas.proofs.Positions.{position-mapped}
use Rattle.tl_formulas.proofs.signature.Table.place.Goals as goal

seen : (text : List ℕ) (r : Option ℕ) (found items : List Entry) (pairs : List (List ℕ × ℕ)) → r ≡
    position (λ entry. bytes_eq text entry.text.now) found → found ≡ items → map (λ entry. (entry.text.now, entry.arity)) items ≡ pairs →
    r ≡ position (λ pair. bytes_eq text pair.0) pairs
seen text r found items pairs e f v =
    e ∙ ap (position (λ entry. bytes_eq text entry.text.now)) f ∙ sym (position-mapped (λ entry. (entry.text.now, entry.arity))
    (λ pair. bytes_eq text pair.0) items) ∙ ap (position (λ pair. bytes_eq text pair.0)) v

pub returns-in-Some : goal.returns-in-Some
returns-in-Some c = seen c.args.text.now (Some c.in-Some.place) c.as_slice.result.now c.self.inside.entries.items c.args.self.now
    c.in-Some.ensures.place c.as_slice.ensures.value c.self.view_is

pub returns-in-None : goal.returns-in-None
returns-in-None c = seen c.args.text.now None c.as_slice.result.now c.self.inside.entries.items c.args.self.now c.in-None.ensures.place
    c.as_slice.ensures.value c.self.view_is
