use Rattle.tl_sexpr.proofs.SymbolTexts.{spelled_texts}
use Rattle.tl_sexpr.proofs.laws.symbols_are_tokens.Goals as goal

pub returns : goal.returns
returns c = spelled_texts
