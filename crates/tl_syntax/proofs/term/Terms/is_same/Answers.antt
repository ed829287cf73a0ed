use Rattle.std.proofs.Common.{◌∙◌, sym}
use Rattle.tl_syntax.proofs.TermSame.{terms-same, terms_eq}
use Rattle.tl_syntax.proofs.term.Terms.is_same.Goals as goal

pub returns : goal.returns
unfolding terms_eq
returns c =
    let same = terms-same c.args.self.now c.args.list.now in record {
      same =
          (λ h. same.0 (sym c.eq.ensures ∙ h), λ e. c.eq.ensures ∙ same.1 e);
    }
