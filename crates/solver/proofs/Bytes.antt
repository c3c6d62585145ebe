-- The certificate's fields, read back from its bytes, are those of the solution: each stands at a fixed place of its record,
-- and the records are laid out one after another.
use Rattle.std.proofs.Common.{◌≡◌, ℕ, suc, ◌+◌, ◌*◌, ◌/◌, ◌%◌, ◌<◌, Bool, true, false, cond, List, [], ◌∷◌, ◌++◌, length, get_or, refl, ap, ◌∙◌, arith}
use Rattle.std.proofs.lemmas.List.{get_or-append-add}
use Rattle.arena.specs.Arena.{Meaning}
use Rattle.arena.specs.Sets.{upto, concat}
use Rattle.solver.specs.Solution.{final, given_up, stage, approach, traffic_move, goal_rank, goal_move}
use Rattle.arena.specs.Bytes.{two, byte, number}
use Rattle.arena.specs.Certificate.{record_bytes, certificate_bytes, at, side_of, goal_of, stage_of, approach_of, move_of, rank_of, goal_move_of}
use Rattle.solver.specs.Certificate.{goal_entry, traffic_record, controller_record, entry, head, end, certificate}
use Rattle.std.proofs.lemmas.Bool.{cond-true, cond-false}
use Rattle.arena.proofs.Basics.{Yes, No}
use Rattle.solver.proofs.Records.{two_back, number_from, length_concat, concat_at, whole_length, whole_end, whole_at}

-- what a list of bytes has to hold to be read as the certificate
pub record Reads (m : Meaning) (bs : List ℕ) : Type 0 where
  pub long : length bs ≡ certificate_bytes m
  pub head : (byte bs 0 ≡ 0x43) × (byte bs 1 ≡ 0x48) × (number bs 2 ≡ m.size) × (number bs 4 ≡ m.goals)
  pub end : (byte bs (at m bs m.size) ≡ 0x43) × (byte bs (at m bs m.size + 1) ≡ 0x45) × (number bs (at m bs m.size + 2) ≡ m.size)
  pub rows : (p o : ℕ) → p < m.size → o < record_bytes m → byte bs (at m bs p + o) ≡ get_or (entry m p) o 0

module _ (m : Meaning) where
  abbrev zeros : ℕ → List ℕ
  zeros g = 0 ∷ 0 ∷ 0 ∷ 0 ∷ []

  pub length_controller : (p : ℕ) → length (controller_record m p) ≡ record_bytes m
  length_controller p = let e = length_concat (goal_entry m p) 4 (λ g. refl) 0 m.goals in omega arith

  pub length_traffic : (p : ℕ) → length (traffic_record m p) ≡ record_bytes m
  length_traffic p = let e = length_concat zeros 4 (λ g. refl) 0 m.goals in omega arith

  pub length_entry : (p : ℕ) → length (entry m p) ≡ record_bytes m
  length_entry p = go (final m p)
    where
      go : (b : Bool) → length (cond b (controller_record m p) (traffic_record m p)) ≡ record_bytes m
      go true = length_controller p
      go false = length_traffic p

  pub reads : Reads m (certificate m)
  reads = record {
    long = let e = whole_length (entry m) k length_entry (head m) (end m) n in omega arith;
    head = (refl, refl, two_back n, two_back m.goals);
    end = (at_end 0 (6 + n * k) (omega arith), at_end 1 (6 + n * k + 1) (omega arith), number_end);
    rows = λ p o h l. ap (λ x. byte bs x) (shift p o) ∙ whole_at (entry m) k length_entry (head m) (end m) n p o h l;
  }
    where
      k : ℕ
      k = record_bytes m

      n : ℕ
      n = m.size

      bs : List ℕ
      bs = certificate m

      shift : (p o : ℕ) → 6 + p * k + o ≡ 6 + (p * k + o)
      shift p o = omega arith

      at_end : (o i : ℕ) → i ≡ 6 + (n * k + o) → byte bs i ≡ get_or (end m) o 0
      at_end o i e = ap (λ x. byte bs x) e ∙ whole_end (entry m) k length_entry (head m) (end m) n o

      number_end : number bs (6 + n * k + 2) ≡ n
      number_end = number_from bs (6 + n * k + 2) n (at_end 2 (6 + n * k + 2) (omega arith)) (at_end 3 (6 + n * k + 2 + 1) (omega arith))

-- the fields of a row, as read
pub record Controllers (m : Meaning) (bs : List ℕ) (p : ℕ) : Type 0 where
  pub side : side_of m bs p ≡ 0
  pub goal : goal_of m bs p ≡ 0
  pub stage : stage_of m bs p ≡ 0
  pub approach : approach_of m bs p ≡ 0
  pub move : move_of m bs p ≡ 0
  pub rank : (g : ℕ) → g < m.goals → rank_of m bs g p ≡ goal_rank m g p
  pub goal_moves : (g : ℕ) → g < m.goals → goal_move_of m bs g p ≡ goal_move m g p

pub record Traffics (m : Meaning) (bs : List ℕ) (p : ℕ) : Type 0 where
  pub side : side_of m bs p ≡ 1
  pub goal : goal_of m bs p ≡ given_up m p
  pub stage_is : stage_of m bs p ≡ stage m p
  pub approach_is : approach_of m bs p ≡ approach m p
  pub move : move_of m bs p ≡ traffic_move m p
  pub rank : (g : ℕ) → g < m.goals → rank_of m bs g p ≡ 0
  pub goal_moves : (g : ℕ) → g < m.goals → goal_move_of m bs g p ≡ 0

pub record Fields (m : Meaning) (bs : List ℕ) (p : ℕ) : Type 0 where
  pub mark : (byte bs (at m bs p) ≡ 0x43) × (byte bs (at m bs p + 1) ≡ 0x50)
  pub controllers : Yes (final m) p → Controllers m bs p
  pub traffics : No (final m) p → Traffics m bs p

module _ (m : Meaning) (bs : List ℕ) (r : Reads m bs) (p : ℕ) (h : p < m.size) (row : List ℕ) (is : entry m p ≡ row) where
  pub row_byte : (o : ℕ) → o < record_bytes m → byte bs (at m bs p + o) ≡ get_or row o 0
  row_byte o l = r.rows p o h l ∙ ap (λ (xs : List ℕ). get_or xs o 0) is

  pub row_number : (o x : ℕ) → suc o < record_bytes m → get_or row o 0 ≡ x / 256 → get_or row (suc o) 0 ≡ x % 256 → number bs (at m bs p + o) ≡ x
  row_number o x l a b =
      let e : at m bs p + o + 1 ≡ at m bs p + suc o = omega arith in
      number_from bs (at m bs p + o) x (row_byte o (omega arith) ∙ a) (ap (λ i. byte bs i) e ∙ row_byte (suc o) l ∙ b)

-- the four bytes of a goal in a row
module _ (front : List ℕ) (ten : length front ≡ 10) (f : ℕ → List ℕ) (each : (g : ℕ) → length (f g) ≡ 4) (k : ℕ) where
  pub goal_byte : (g o : ℕ) → g < k → o < 4 → (i : ℕ) → i ≡ 10 + 4 * g + o → get_or (front ++ concat f (upto k)) i 0 ≡ get_or (f g) o 0
  goal_byte g o h l i e =
      let a : i ≡ length front + (g * 4 + o) = omega arith in
      let z : 0 + g ≡ g = omega arith in
      ap (λ x. get_or (front ++ concat f (upto k)) x 0) a ∙ get_or-append-add front (concat f (upto k)) (g * 4 + o) 0 ∙ concat_at f 4 each 0 k g o h l ∙ ap (λ x. get_or (f x) o 0) z

module _ (m : Meaning) (bs : List ℕ) (r : Reads m bs) (p : ℕ) (h : p < m.size) where
  pub read_controllers : Yes (final m) p → Controllers m bs p
  read_controllers y = record {
    side = a 2 (omega arith);
    goal = a 3 (omega arith);
    stage = b 4 0 (omega arith) refl refl;
    approach = b 6 0 (omega arith) refl refl;
    move = b 8 0 (omega arith) refl refl;
    rank = λ g l. b (10 + 4 * g) (goal_rank m g p) (omega arith) (c g 0 l (omega arith) (10 + 4 * g) (omega arith)) (c g 1 l (omega arith) (suc (10 + 4 * g)) (omega arith));
    goal_moves = λ g l. b (12 + 4 * g) (goal_move m g p) (omega arith) (c g 2 l (omega arith) (12 + 4 * g) (omega arith)) (c g 3 l (omega arith) (suc (12 + 4 * g)) (omega arith));
  }
    where
      front : List ℕ
      front = 0x43 ∷ 0x50 ∷ 0 ∷ 0 ∷ 0 ∷ 0 ∷ 0 ∷ 0 ∷ 0 ∷ 0 ∷ []

      row : List ℕ
      row = front ++ concat (goal_entry m p) (upto m.goals)

      is : entry m p ≡ row
      is = cond-true (final m p) (controller_record m p) (traffic_record m p) y

      a : (o : ℕ) → o < record_bytes m → byte bs (at m bs p + o) ≡ get_or row o 0
      a = row_byte m bs r p h row is

      b : (o x : ℕ) → suc o < record_bytes m → get_or row o 0 ≡ x / 256 → get_or row (suc o) 0 ≡ x % 256 → number bs (at m bs p + o) ≡ x
      b = row_number m bs r p h row is

      c : (g o : ℕ) → g < m.goals → o < 4 → (i : ℕ) → i ≡ 10 + 4 * g + o → get_or row i 0 ≡ get_or (goal_entry m p g) o 0
      c = goal_byte front refl (goal_entry m p) (λ g. refl) m.goals

  pub read_traffics : No (final m) p → Traffics m bs p
  read_traffics y = record {
    side = a 2 (omega arith);
    goal = a 3 (omega arith);
    stage_is = b 4 (stage m p) (omega arith) refl refl;
    approach_is = b 6 (approach m p) (omega arith) refl refl;
    move = b 8 (traffic_move m p) (omega arith) refl refl;
    rank = λ g l. b (10 + 4 * g) 0 (omega arith) (c g 0 l (omega arith) (10 + 4 * g) (omega arith)) (c g 1 l (omega arith) (suc (10 + 4 * g)) (omega arith));
    goal_moves = λ g l. b (12 + 4 * g) 0 (omega arith) (c g 2 l (omega arith) (12 + 4 * g) (omega arith)) (c g 3 l (omega arith) (suc (12 + 4 * g)) (omega arith));
  }
    where
      front : List ℕ
      front = 0x43 ∷ 0x50 ∷ 1 ∷ given_up m p ∷ (two (stage m p) ++ (two (approach m p) ++ two (traffic_move m p)))

      row : List ℕ
      row = front ++ concat (zeros m) (upto m.goals)

      is : entry m p ≡ row
      is = cond-false (final m p) (controller_record m p) (traffic_record m p) y

      a : (o : ℕ) → o < record_bytes m → byte bs (at m bs p + o) ≡ get_or row o 0
      a = row_byte m bs r p h row is

      b : (o x : ℕ) → suc o < record_bytes m → get_or row o 0 ≡ x / 256 → get_or row (suc o) 0 ≡ x % 256 → number bs (at m bs p + o) ≡ x
      b = row_number m bs r p h row is

      c : (g o : ℕ) → g < m.goals → o < 4 → (i : ℕ) → i ≡ 10 + 4 * g + o → get_or row i 0 ≡ get_or (zeros m g) o 0
      c = goal_byte front refl (zeros m) (λ g. refl) m.goals

  pub fields : Fields m bs p
  fields = record {
    mark = (ap (λ i. byte bs i) zero-add ∙ r.rows p 0 h (omega arith) ∙ at_zero (final m p), r.rows p 1 h (omega arith) ∙ at_one (final m p));
    controllers = read_controllers;
    traffics = read_traffics;
  }
    where
      zero-add : at m bs p ≡ at m bs p + 0
      zero-add = omega arith

      at_zero : (b : Bool) → get_or (cond b (controller_record m p) (traffic_record m p)) 0 0 ≡ 0x43
      at_zero true = refl
      at_zero false = refl

      at_one : (b : Bool) → get_or (cond b (controller_record m p) (traffic_record m p)) 1 0 ≡ 0x50
      at_one true = refl
      at_one false = refl
