-- The clauses of the code by their numbers. Read after what check accepts.
use Rattle.std.specs.Prelude.{ℕ}
use Rattle.control.specs.declared.clauses.Clause.{Clause}
use Rattle.control.specs.declared.clauses.Clause.TheVariants.{Head, End, Shape, Ranks, Steered, Carried, Avoided, Held, Kept}

abbrev pub clause_number : Clause → ℕ
clause_number Head = 1
clause_number End = 2
clause_number Shape = 3
clause_number Ranks = 4
clause_number Steered = 5
clause_number Carried = 6
clause_number Avoided = 7
clause_number Held = 8
clause_number Kept = 9
