-- The whole promise, from its parts.
use Rattle.control.proofs.Runs.{runs_visit_all}
use Rattle.control.proofs.Stretch.{traffic_holds}
use Rattle.control.proofs.Win.{sides_win}
use Rattle.solver.proofs.Accepting.{solved_is_accepted}
use Rattle.planner.specs.Promise.{Promise}
use Rattle.planner.proofs.Keeping.{sheets_keep}

pub promised : Promise
promised =
    record {
      tables = λ m law bs ok. (runs_visit_all m law bs ok, traffic_holds m law bs ok);
      certificates = (solved_is_accepted, sides_win);
      sheets = sheets_keep;
    }
