use Rattle.std.proofs.Common.{not, eqb, length, sym}
use Rattle.std.proofs.lemmas.Bool.{and_left, ne_eqb}
use Rattle.arena.specs.Sets.{holds}
use Rattle.arena.proofs.Within.{within_false}
use Rattle.strip.specs.Strip.{first_wrong, record_fields, row_from}
use Rattle.strip.proofs.records.read_row.Goals as goal

pub returns-then-bytes-ne-RECORD_BYTES : goal.returns-then-bytes-ne-RECORD_BYTES
returns-then-bytes-ne-RECORD_BYTES c =
    let bs = c.args.bytes.now in
    sym (within_false _ (row_from bs 0) (and_left (eqb (length bs) 38) (not (holds (first_wrong bs (record_fields bs 65536 8 0)))) (ne_eqb (length bs) 38 c.if-bytes-ne-RECORD_BYTES.true)))
