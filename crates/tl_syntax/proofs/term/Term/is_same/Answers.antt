use Rattle.std.proofs.Common.{◌∙◌, sym}
use Rattle.tl_syntax.proofs.TermSame.{term-same, term_eq}
use Rattle.tl_syntax.proofs.term.Term.is_same.Goals as goal

pub returns : goal.returns
unfolding term_eq
returns c =
    let same = term-same c.args.self.now c.args.other.now in record {
      same =
          (λ h. same.0 (sym c.eq.ensures ∙ h), λ e. c.eq.ensures ∙ same.1 e);
    }
