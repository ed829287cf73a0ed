use Rattle.std.proofs.Common.{sym, arith, inr, IsTrue}
use Rattle.tl_sexpr.specs.Bytes.{is_token_byte}
use Rattle.tl_sexpr.proofs.Ranges.{each_of_part}
use Rattle.tl_sexpr.proofs.Refusals.{IsTold, refuses_byte, refused_close, refuses_open, refused_integer, handed_on}
use Rattle.tl_sexpr.proofs.Steps.{read_blank, read_comment, read_open, read_close, read_token}
use Rattle.tl_sexpr.proofs.read.read_next.Goals as goal

pub returns-then-is_blank-clause-read : goal.returns-then-is_blank-clause-read
returns-then-is_blank-clause-read c =
    read_blank c.args.bytes.now c.args.reader.now c.args.at c.requires.read c.requires.within (sym c.if-is_blank.ensures)

pub returns-in-59-clause-read : goal.returns-in-59-clause-read
returns-in-59-clause-read c =
    read_comment c.args.bytes.now c.args.reader.now c.args.at c.comment_end.result c.requires.read c.in-59.is (record {
      some = c.comment_end.ensures.some;
      bounded = c.comment_end.ensures.bounded;
      same_line = c.comment_end.ensures.same_line;
      ended = c.comment_end.ensures.ended;
    })

pub returns-in_ok-open_list-in-40-clause-read : goal.returns-in_ok-open_list-in-40-clause-read
returns-in_ok-open_list-in-40-clause-read c =
    read_open c.args.bytes.now c.args.reader.now c.open_list.new.self c.args.at c.requires.read c.requires.within c.in-40.is
    (omega (arith, c.depth.ensures, c.if-depth-ge-MOST_LISTS.false)) c.in_ok-open_list-in-40.ensures

pub returns-in_ok-close_list-in-41-clause-read : goal.returns-in_ok-close_list-in-41-clause-read
returns-in_ok-close_list-in-41-clause-read c =
    read_close c.args.bytes.now c.args.reader.now c.close_list.new.self c.args.at c.requires.read c.requires.within c.in-41.is
    c.in_ok-close_list-in-41.ensures.closed

pub returns-in_ok-add-in_default-2-clause-read : goal.returns-in_ok-add-in_default-2-clause-read
returns-in_ok-add-in_default-2-clause-read c =
    let end = c.token_end-end in
    read_token c.args.bytes.now c.args.reader.now c.add.new.self c.in_ok-form_of_token-in_default-2.field-0 c.args.at end.result
    c.requires.read end.ensures.some end.ensures.bounded end.ensures.each end.ensures.longest
    c.in_ok-form_of_token-in_default-2.ensures.form c.in_ok-add-in_default-2.ensures.stack c.in_ok-add-in_default-2.ensures.added

pub form_of_token-requires : goal.form_of_token-requires
form_of_token-requires c =
    let end = c.token_end-end in
    record {
      token = each_of_part (λ byte. IsTrue (is_token_byte byte)) c.args.bytes.now c.args.at end.result end.ensures.bounded
          end.ensures.each;
    }

pub returns-then-depth-ge-MOST_LISTS-clause-fault : goal.returns-then-depth-ge-MOST_LISTS-clause-fault
returns-then-depth-ge-MOST_LISTS-clause-fault c =
    inr (refuses_open c.args.bytes.now c.args.reader.now c.args.at c.requires.read c.requires.within c.in-40.is
    (omega (arith, c.depth.ensures, c.if-depth-ge-MOST_LISTS.true)))

pub returns-in_err-close_list-in-41-clause-fault : goal.returns-in_err-close_list-in-41-clause-fault
returns-in_err-close_list-in-41-clause-fault c =
    let bytes = c.args.bytes.now in
    let refused = refused_close bytes c.args.reader.now c.args.at c.in_err-close_list-in-41.field-0.0 c.requires.read c.requires.within
    c.in-41.is c.in_err-close_list-in-41.ensures.stray in
    handed_on c.from_residual-in_err-close_list-in-41.result c.in_err-close_list-in-41.field-0.0
    (IsTold bytes) c.from_residual-in_err-close_list-in-41.ensures.1 refused

pub returns-in_err-form_of_token-in_default-2-clause-fault : goal.returns-in_err-form_of_token-in_default-2-clause-fault
returns-in_err-form_of_token-in_default-2-clause-fault c =
    let bytes = c.args.bytes.now in
    let end = c.token_end-end in
    let fault = c.in_err-form_of_token-in_default-2.field-0.0 in
    let refused = refused_integer bytes c.args.reader.now c.args.at end.result fault c.requires.read end.ensures.some end.ensures.bounded
    end.ensures.each end.ensures.longest c.in_err-form_of_token-in_default-2.ensures.fault in
    handed_on c.from_residual-in_err-form_of_token-in_default-2.result fault
    (IsTold bytes) c.from_residual-in_err-form_of_token-in_default-2.ensures.1 refused

pub returns-in_default-3-clause-fault : goal.returns-in_default-3-clause-fault
returns-in_default-3-clause-fault c =
    inr (refuses_byte c.args.bytes.now c.args.reader.now c.args.at c.requires.read c.requires.within (sym c.if-is_blank.ensures)
    (sym c.if-is_token_byte.ensures) (λ e. omega (arith, e)) (λ e. omega (arith, e)) (λ e. omega (arith, e)))
