use Rattle.tl_known.proofs.table_numbers.TableNumbers.number_of.Goals as goal

pub returns-in-None-clause-number : goal.returns-in-None-clause-number
returns-in-None-clause-number c = λ w e _. c.number_anew.ensures w e
