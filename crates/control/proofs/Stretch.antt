-- In a play that obeys the traffic's table, stretches without overlap that each contain every goal are fewer than n.
-- Each of them visits the goal that is avoided, so the depth falls from one to the next, and it begins below n.
use Rattle.std.proofs.Common.{◌≡◌, ℕ, zero, suc, ◌+◌, ◌<◌, ◌≤◌, List, refl, inl, inr, arith}
use Rattle.arena.specs.Arena.{Meaning, Lawful}
use Rattle.arena.specs.Play.{Play, Contains, Stretches}
use Rattle.arena.specs.Certificate.{side_of, goal_of, stage_of, approach_of, move_of}
use Rattle.control.specs.Promise.{Accepted, TrafficHolds}
use Rattle.control.proofs.Judge.{holds}
use Rattle.arena.proofs.Laws.{owners}
use Rattle.control.proofs.Table.{Good, Holds}
use Rattle.control.proofs.Fall.{depth, depth_top}
use Rattle.control.proofs.Sink.{side_later, has_depth, sinks}

module _ (m : Meaning) (law : Lawful m) (side goal stage approach move : ℕ → ℕ) (table : Holds m side goal stage approach move)
    (π : ℕ → ℕ) (len : ℕ) (play : Play m π len) (begun : 0 < len) (start : side (π 0) ≡ 1)
    (obeyed : (i : ℕ) → i + 1 < len → side (π i) ≡ 1 → m.owner (π i) ≡ 1 → π (i + 1) ≡ move (π i))
    (st : Stretches m π len m.size) where
  steps : (i : ℕ) → i + 1 < len → side (π i) ≡ 1 → Good side goal stage approach (π i) (π (i + 1))
  steps i lim s =
      let below : π i < m.size = play.inside i (omega arith) in
      elim (owners m law (π i) below) [
        | inl o ↦ table.other (π i) below s o (π (i + 1)) (play.moves i lim)
        | inr o ↦ rw (obeyed i lim s o) (table.own (π i) below s o).1
      ]

  -- a stretch holds the goal that is avoided at its first position
  seen : (j i : ℕ) → j < m.size → i ≡ st.begins j → π i < m.size → side (π i) ≡ 1 → Contains m π (st.begins j) (st.lasts j) (goal (π i))
  seen j i lt e below s = st.full j lt (goal (π i)) (table.aimed (π i) below s)

  -- a stretch begins inside the play
  begins_inside : (j : ℕ) → j < m.size → st.begins j < len
  begins_inside j lt =
      let below : π 0 < m.size = play.inside 0 begun in
      let c : Contains m π (st.begins j) (st.lasts j) (goal (π 0)) = st.full j lt (goal (π 0)) (table.aimed (π 0) below start) in
      let lo : st.begins j ≤ c.0 = c.1 in
      let hi : c.0 < st.begins j + st.lasts j = c.2 in
      let end : st.begins j + st.lasts j ≤ len = st.inside j lt in
      omega arith

  deep : (c j : ℕ) → j + suc c ≡ m.size → suc c ≤ depth stage approach m.size (π (st.begins j))
  deep zero j e =
      let lt : j < m.size = omega arith in
      let b = begins_inside j lt in
      let s : side (π (st.begins j)) ≡ 1 = side_later m law side goal stage approach move table π len play.inside steps 0 (st.begins j) (omega arith) b start in
      let x : Contains m π (st.begins j) (st.lasts j) (goal (π (st.begins j))) = seen j (st.begins j) lt refl (play.inside (st.begins j) b) s in
      let hi : x.0 < st.begins j + st.lasts j = x.2 in
      let end : st.begins j + st.lasts j ≤ len = st.inside j lt in
      has_depth m law side goal stage approach move table π len play.inside steps (st.begins j) x.0 x.1 (omega arith) s x.3
  deep (suc c) j e =
      let lt : j < m.size = omega arith in
      let lt' : j + 1 < m.size = omega arith in
      let b = begins_inside j lt in
      let b' = begins_inside (j + 1) lt' in
      let s : side (π (st.begins j)) ≡ 1 = side_later m law side goal stage approach move table π len play.inside steps 0 (st.begins j) (omega arith) b start in
      let x : Contains m π (st.begins j) (st.lasts j) (goal (π (st.begins j))) = seen j (st.begins j) lt refl (play.inside (st.begins j) b) s in
      let hi : x.0 < st.begins j + st.lasts j = x.2 in
      let gap : st.begins j + st.lasts j ≤ st.begins (j + 1) = st.apart j lt' in
      let down : depth stage approach m.size (π (st.begins (j + 1))) < depth stage approach m.size (π (st.begins j)) =
      sinks m law side goal stage approach move table π len play.inside steps (st.begins j) x.0 (st.begins (j + 1)) x.1 (omega arith) b' s x.3 in
      let rest : suc c ≤ depth stage approach m.size (π (st.begins (j + 1))) = deep c (j + 1) (omega arith) in
      omega arith

  too_many : ⊥
  too_many =
      let below : π 0 < m.size = play.inside 0 begun in
      go m.size refl below
    where
      go : (n : ℕ) → m.size ≡ n → π 0 < m.size → ⊥
      go zero e below = omega arith
      go (suc c) e below =
          let h : suc c ≤ depth stage approach m.size (π (st.begins 0)) = deep c 0 (omega arith) in
          let t : depth stage approach m.size (π (st.begins 0)) < m.size = depth_top stage approach m.size (π (st.begins 0)) (play.inside (st.begins 0) (begins_inside 0 (omega arith))) in
          omega arith

pub traffic_holds : (m : Meaning) → Lawful m → (bs : List ℕ) → Accepted m bs → TrafficHolds m bs
traffic_holds m law bs acc =
    too_many m law (side_of m bs) (goal_of m bs) (stage_of m bs) (approach_of m bs) (move_of m bs) (holds m bs acc)
