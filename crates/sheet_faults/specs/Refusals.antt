-- The refusals of the sheet's calls: for each case its number and the values that it names.
use Rattle.std.specs.Prelude.{[], ◌∷◌}
use Rattle.arena.specs.Refusals.{Outcome, refused}
use Rattle.strip.specs.Refusals.{strip_refusal}
use Rattle.sheet_faults.specs.declared.faults.ShapeFault.{ShapeFault}
use Rattle.sheet_faults.specs.declared.faults.ShapeFault.TheVariants as shape
use Rattle.sheet_faults.specs.declared.faults.TakeFault.{TakeFault}
use Rattle.sheet_faults.specs.declared.faults.TakeFault.TheVariants as take
use Rattle.sheet_faults.specs.declared.faults.PutFault.{PutFault}
use Rattle.sheet_faults.specs.declared.faults.PutFault.TheVariants as put
use Rattle.sheet_faults.specs.declared.faults.LetGoFault.{LetGoFault}
use Rattle.sheet_faults.specs.declared.faults.LetGoFault.TheVariants as let_go
use Rattle.sheet_faults.specs.declared.faults.CloseFault.{CloseFault}
use Rattle.sheet_faults.specs.declared.faults.CloseFault.TheVariants as close
use Rattle.sheet_faults.specs.declared.faults.LoadFault.{LoadFault}
use Rattle.sheet_faults.specs.declared.faults.LoadFault.TheVariants as load
use Rattle.sheet_faults.specs.declared.faults.WriteFault.{WriteFault}
use Rattle.sheet_faults.specs.declared.faults.WriteFault.TheVariants as write

abbrev pub shape_refusal : {A : Type 0} → ShapeFault → Outcome A
shape_refusal (shape.RowOut position) = refused 10 (position ∷ [])
shape_refusal shape.Positions = refused 1 []
shape_refusal shape.Goals = refused 2 []

abbrev pub take_refusal : {A : Type 0} → TakeFault → Outcome A
take_refusal take.NoSuchSeat = refused 5 []
take_refusal take.NoSuchPosition = refused 4 []
take_refusal take.RowOut = refused 6 []

abbrev pub put_refusal : {A : Type 0} → PutFault → Outcome A
put_refusal put.NotOut = refused 7 []
put_refusal put.NoSuchMove = refused 8 []
put_refusal put.NoSuchGoal = refused 9 []

abbrev pub let_go_refusal : {A : Type 0} → LetGoFault → Outcome A
let_go_refusal let_go.NotOut = refused 7 []

abbrev pub close_refusal : {A : Type 0} → CloseFault → Outcome A
close_refusal (close.RowOut position) = refused 10 (position ∷ [])
close_refusal (close.NoMoves position) = refused 11 (position ∷ [])

-- a strip's fault is there whole, and told as its own
abbrev pub load_refusal : {A : Type 0} → LoadFault → Outcome A
load_refusal (load.RowOut position) = refused 10 (position ∷ [])
load_refusal (load.Strip f) = strip_refusal f

abbrev pub write_refusal : {A : Type 0} → WriteFault → Outcome A
write_refusal write.Short = refused 3 []
