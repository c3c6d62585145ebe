use Rattle.std.proofs.Common.{◌≡◌, ℕ, List, None, Option, sym, ap, ◌∙◌}
use Rattle.strip.specs.Strip.{or_else, first_wrong, head_fields, end_fields, trailing, fault}
use Rattle.strip.specs.Parts.{nothing_first, something_first, rows_wrong, fault_parts}
use Rattle.strip.proofs.Passing.{passed_on}
use Rattle.strip.proofs.fields.inspect.Goals as goal

-- what is left to look at after the head, after the records and after the end
module _ (bs : List ℕ) where
  abbrev head : Option ℕ
  head = first_wrong bs (head_fields bs)

  abbrev end : Option ℕ
  end = first_wrong bs (end_fields bs)

  past_head : head ≡ None → fault bs ≡ or_else (rows_wrong bs 0) (or_else end (trailing bs))
  past_head e = fault_parts bs ∙ nothing_first head (or_else (rows_wrong bs 0) (or_else end (trailing bs))) (sym e)

  past_rows : head ≡ None → None ≡ rows_wrong bs 0 → fault bs ≡ or_else end (trailing bs)
  past_rows e f = past_head e ∙ nothing_first (rows_wrong bs 0) (or_else end (trailing bs)) f

  past_end : head ≡ None → None ≡ rows_wrong bs 0 → None ≡ end → fault bs ≡ trailing bs
  past_end e f g = past_rows e f ∙ nothing_first end (trailing bs) g

pub returns-in_err-records : goal.returns-in_err-records
returns-in_err-records c =
    let bs = c.args.bytes.now in
    let h = c.in_ok-strip.ensures in
    let it = c.in_err-records.field-0.0 in
    let found = c.in_err-records.ensures ∙ ap (λ b. rows_wrong b 0) h.0 in
    passed_on c.from_residual-in_err-records.result it c.from_residual-in_err-records.ensures.1
    ∙ sym (past_head bs h.1 ∙ something_first (rows_wrong bs 0) (or_else (end bs) (trailing bs)) it.place found)

pub returns-in_err-end : goal.returns-in_err-end
returns-in_err-end c =
    let bs = c.args.bytes.now in
    let h = c.in_ok-strip.ensures in
    let it = c.in_err-end.field-0.0 in
    let rows = c.in_ok-records.ensures ∙ ap (λ b. rows_wrong b 0) h.0 in
    let found = c.in_err-end.ensures ∙ ap end h.0 in
    passed_on c.from_residual-in_err-end.result it c.from_residual-in_err-end.ensures.1
    ∙ sym (past_rows bs h.1 rows ∙ something_first (end bs) (trailing bs) it.place found)

pub returns : goal.returns
returns c =
    let bs = c.args.bytes.now in
    let h = c.in_ok-strip.ensures in
    let rows = c.in_ok-records.ensures ∙ ap (λ b. rows_wrong b 0) h.0 in
    c.ended.ensures ∙ ap trailing h.0 ∙ sym (past_end bs h.1 rows (c.in_ok-end.ensures ∙ ap end h.0))
