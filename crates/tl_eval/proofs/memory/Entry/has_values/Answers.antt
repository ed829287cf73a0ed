use Rattle.std.proofs.Common.{take, length, ℕ, ap, ◌∙◌, sym}
use Rattle.tl_syntax.proofs.Plain.{list-tells, value-tells}
use Rattle.tl_eval.proofs.memory.Entry.has_values.Goals as goal

pub returns : goal.returns
returns c = λ h.
    ap (λ (n : ℕ). take n c.args.self.now.values) c.if-self-values.false
    ∙ (list-tells _ value-tells (take (length c.args.values.now) c.args.self.now.values) c.args.values.now).0 (sym c.eq.ensures ∙ h)
