-- An accepted certificate keeps its promise.
use Rattle.std.proofs.Common.{ℕ, List}
use Rattle.arena.specs.Arena.{Meaning, Lawful}
use Rattle.control.specs.Promise.{Accepted, Promise}
use Rattle.control.proofs.Runs.{runs_visit_all}
use Rattle.control.proofs.Stretch.{traffic_holds}
use Rattle.control.proofs.Win.{sides_win}

pub kept : (m : Meaning) → Lawful m → (bs : List ℕ) → Accepted m bs → Promise m bs
kept m law bs acc = record { runs = runs_visit_all m law bs acc; traffic = traffic_holds m law bs acc; sides = sides_win m law bs acc }
