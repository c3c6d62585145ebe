use Rattle.std.proofs.Common.{◌≡◌, ◌+◌, ◌*◌, ◌∷◌, length, take}
use Rattle.arena.specs.Owners.{owner_number}
use Rattle.row.specs.Records.{pairs}
use Rattle.row.proofs.row.Row.record_bytes.Given as goal

abbrev pub invariant-loop-j : goal.invariant-loop-j
invariant-loop-j l = record {
  long : length l.bytes ≡ 38;
  done : take (6 + 2 * l.j) l.bytes ≡ 0x47 ∷ 0x50 ∷ owner_number l.self.owner ∷ l.self.marks ∷ 0 ∷ l.self.count ∷ pairs (take l.j l.self.moves);
}
