-- One step of the reader: what was read before it and what it reads were read after it.
use Rattle.std.proofs.Common.{◌≡◌, ℕ, ◌+◌, ◌<◌, ◌≤◌, List, [], ◌∷◌, ◌++◌, length, slice_index, slice_range, IsTrue, true, false, refl, sym}
use Rattle.std.proofs.Common.{◌∙◌, ap, subst, arith, length-append, Result, Ok, Err, IfOk, OnOk}
use Rattle.tl_sexpr.specs.declared.form.Form.{Form}
use Rattle.tl_sexpr.specs.declared.form.Forms.{Forms}
use Rattle.tl_sexpr.specs.declared.fault.TextFault.{TextFault}
use Rattle.tl_sexpr.specs.declared.reader.OpenList.{OpenList}
use Rattle.tl_sexpr.specs.declared.reader.Reader.{Reader}
use Rattle.tl_sexpr.specs.Bytes.{is_blank, is_token_byte, StandsAt}
use Rattle.tl_sexpr.specs.Spelling.{IsGap, AreItems, Spells, symbols_in_all}
use Rattle.tl_sexpr.specs.Reading.{IsStart, IsRead, IsTokenForm, Nested, Opens, Closes}
use Rattle.tl_sexpr.specs.Tree.{tree_of, trees_of, items_of}
use Rattle.tl_sexpr.proofs.TokenBytes.{IsPlain, blank_is_plain, open_is_plain, close_is_plain}
use Rattle.tl_sexpr.proofs.Starts.{start_of_file, outside_at_start, start_after_plain, token_here, start_after_token, IsCommentEnd}
use Rattle.tl_sexpr.proofs.Starts.{comment_is_gap, start_after_comment}
use Rattle.tl_sexpr.proofs.Spelled.{no_gap, gap_of_blank, item_of_token}
use Rattle.tl_sexpr.proofs.Nesting.{trees_empty, nested_longer, nested_more, nested_open, nested_close}
use Rattle.tl_sexpr.proofs.Symbols.{symbols_of_items}

pub read_nothing : (bytes : List ℕ) (r : Reader) → r.open.items ≡ [] → items_of r.forms ≡ [] → IsRead bytes r 0
unfolding Nested AreItems
read_nothing bytes r none_open no_forms = record {
  start = start_of_file bytes;
  few = rw none_open (omega arith);
  nested = rw (none_open, trees_empty r.forms no_forms) (no_gap bytes 0);
}

read_gap : (bytes : List ℕ) (r : Reader) (at end : ℕ) → IsRead bytes r at → IsGap bytes at end → IsStart bytes end → IsRead bytes r end
read_gap bytes r at end read gap start = record {
  start = start;
  few = read.few;
  nested = nested_longer bytes 0 0 at end r.open.items (trees_of r.forms) read.nested gap;
}

pub read_blank : (bytes : List ℕ) (r : Reader) (at : ℕ) → IsRead bytes r at → at < length bytes → is_blank (slice_index bytes at) ≡ true →
    IsRead bytes r (at + 1)
read_blank bytes r at read within blank =
    read_gap bytes r at (at + 1) read (gap_of_blank bytes at blank) (start_after_plain bytes at read.start within
    (blank_is_plain (slice_index bytes at) blank))

pub read_comment : (bytes : List ℕ) (r : Reader) (at end : ℕ) → IsRead bytes r at → slice_index bytes at ≡ 59 → IsCommentEnd bytes at end →
    IsRead bytes r end
read_comment bytes r at end read semicolon comment =
    read_gap bytes r at end read (comment_is_gap bytes at end semicolon comment) (start_after_comment bytes at end comment)

-- a parenthesis where reading goes on
pub stands_here : (bytes : List ℕ) (at c : ℕ) → IsStart bytes at → at < length bytes → slice_index bytes at ≡ c → IsPlain c →
    StandsAt bytes at c
stands_here bytes at c start within is plain = record {
  within = within;
  is = is;
  outside = outside_at_start bytes at start within (λ e. plain.1 (sym is ∙ e));
}

pub read_open : (bytes : List ℕ) (r s : Reader) (at : ℕ) → IsRead bytes r at → at < length bytes → slice_index bytes at ≡ 40 →
    length r.open.items < 100 → Opens r s at → IsRead bytes s (at + 1)
read_open bytes r s at read within is few opens =
    let plain : IsPlain 40 = open_is_plain 40 refl in
    let o : OpenList = record { at = at; forms = r.forms } in
    record {
      start = start_after_plain bytes at read.start within (open_is_plain (slice_index bytes at) is);
      few = rw (opens.stack, length-append r.open.items (o ∷ [])) (omega arith);
      nested = rw opens.stack (nested_open bytes 0 0 r.open.items o s.forms opens.forms (omega arith)
          (stands_here bytes at 40 read.start within is plain) read.nested);
    }

pub read_close : (bytes : List ℕ) (r s : Reader) (at : ℕ) → IsRead bytes r at → at < length bytes → slice_index bytes at ≡ 41 → Closes r s →
    IsRead bytes s (at + 1)
read_close bytes r s at read within is closes =
    let plain : IsPlain 41 = close_is_plain 41 refl in
    let few = rw (closes.stack, length-append s.open.items (closes.closed ∷ [])) at read.few in
    record {
      start = start_after_plain bytes at read.start within (close_is_plain (slice_index bytes at) is);
      few = omega arith;
      nested = nested_close bytes 0 0 at s.open.items closes.closed r.forms s.forms closes.forms
          (stands_here bytes at 41 read.start within is plain) (rw closes.stack at read.nested);
    }

pub read_token : (bytes : List ℕ) (r s : Reader) (f : Form) (at end : ℕ) → IsRead bytes r at → at < end → end ≤ length bytes →
    ((k : ℕ) → at ≤ k → k < end → IsTrue (is_token_byte (slice_index bytes k))) →
    (end < length bytes → is_token_byte (slice_index bytes end) ≡ false) → IsTokenForm (slice_range bytes at end) at (tree_of f) → s.open ≡
    r.open → items_of s.forms ≡ items_of r.forms ++ f ∷ [] → IsRead bytes s end
read_token bytes r s f at end read some bounded each longest form stack added =
    let token = token_here bytes at end read.start some bounded each longest in
    let open_lists = ap (λ v. v.items) stack in
    record {
      start = start_after_token bytes at end read.start bounded token;
      few = rw open_lists read.few;
      nested = rw open_lists (nested_more bytes 0 0 at end r.open.items r.forms s.forms f (length r.open.items)
          (omega arith) added read.nested (item_of_token bytes (length r.open.items) at end (tree_of f) token form));
    }

-- at the end of the file with no list open
pub read_whole : (bytes : List ℕ) (r : Reader) (at : ℕ) → IsRead bytes r at → length bytes ≤ at → r.open.items ≡ [] →
    Spells bytes (trees_of r.forms)
unfolding Nested
read_whole bytes r at read end none_open =
    let same : at ≡ length bytes = omega (arith, read.start.within) in
    subst (λ n. AreItems bytes 0 0 n (trees_of r.forms)) same (rw none_open at read.nested)

pub finished : (bytes : List ℕ) (r : Reader) (at : ℕ) (result : Result Forms TextFault) → IsRead bytes r at → length bytes ≤ at →
    OnOk result (r.open.items ≡ []) → IfOk result (λ forms. forms ≡ r.forms) → IfOk result (λ forms. Spells bytes (trees_of forms))
finished bytes r at (Ok forms) read end none_open same = rw same (read_whole bytes r at read end none_open)
finished bytes r at (Err fault) read end none_open same = tt

pub few_symbols : (bytes : List ℕ) (result : Result Forms TextFault) → IfOk result (λ forms. Spells bytes (trees_of forms)) →
    IfOk result (λ forms. symbols_in_all (trees_of forms) ≤ length bytes)
few_symbols bytes (Ok forms) spells = omega (arith, symbols_of_items bytes 0 0 (length bytes) (trees_of forms) spells)
few_symbols bytes (Err fault) spells = tt
