-- The iterations of the loop over the colours of a row, with the buffers that they are written to.
--     PutTo, put-start, put_next        the first c of a row are in the buffer
--     Taking, take-start, take-turn     the loop's state: before the first colour, and after one more
--     take_done                         after all of them
use Prim.Native.Nat.{ℕ, ◌+◌, ◌^◌, ◌≤◌, ◌<◌}
use mathlib.Core.Path.{◌≡◌, refl, sym, ap, ◌∙◌}
use mathlib.Core.List.{List}
use native.Mathlib.Omega.{arith}
use native.Mathlib.Decide.{ℕ_discrete}
use lib.ListN.{length, get_or, take, set}
use lib.Seq.{get_or-take, get_or-set_same, get_or-set_other}
use Rattle.colours.specs.Colouring.{takes, recolour}
use Rattle.colours.proofs.TurnLaws.{recolour-all}
use Rattle.colour_tables.specs.forests.Rows.{next_row, row_cells, put_colour, ColourArgs}
use Rattle.colour_tables.specs.rows.Turns.{TakeArgs, TakenTo}
use Rattle.colour_tables.proofs.forests.ColourLoop.{ColouredTo, coloured-start, coloured-turn, args-same}
use Rattle.colour_tables.proofs.rows.TurnLoop.{Turns, turns-start, turns-turn}

pub record PutTo (row : List ℕ) (at k : ℕ) (before after : List ℕ) : Type 0 where
  pub cells : (c : ℕ) → c < k → get_or after (at + c) 0 ≡ get_or row c 0
  pub kept : (j : ℕ) → ((c : ℕ) → c < k → j ≡ at + c → ⊥) → get_or after j 0 ≡ get_or before j 0

put-start : (row : List ℕ) (at : ℕ) (b : List ℕ) → PutTo row at 0 b b
put-start row at b = record { cells = λ c h. absurd (omega arith); kept = λ j h. refl }

put_next : (row : List ℕ) (at c x : ℕ) (e b : List ℕ) → PutTo row at c e b → at + c < length b → c < length row
    → PutTo (set row c x) at (c + 1) e (set b (at + c) x)
put_next row at c x e b P h l = record {
  cells = λ j i. elim (ℕ_discrete j c) [
    | yes q ↦ rw q (get_or-set_same b (at + c) x 0 h ∙ sym (get_or-set_same row c x 0 l))
    | no q ↦ get_or-set_other b (at + c) (at + j) x 0 (λ z. q (omega arith)) ∙ P.cells j (omega arith)
        ∙ sym (get_or-set_other row c j x 0 q)
  ];
  kept = λ j n. get_or-set_other b (at + c) j x 0 (n c (omega arith)) ∙ P.kept j (λ i k. n i (omega arith));
}

pub record Taking (successors e m : List ℕ) (n at v : ℕ) (bytes numbers owners : List ℕ) (t c : ℕ) : Type 0 where
  pub row : List ℕ
  pub landed : List ℕ
  pub turns : Turns successors row landed owners t c
  pub put : PutTo row at c e bytes
  pub coloured : ColouredTo landed n v c m numbers

module _ (successors e m : List ℕ) (n at v : ℕ) (h : v < n) where
  pub take-start : (owners : List ℕ) → length owners ≡ 16 → Taking successors e m n at v e m owners 0 0
  take-start owners l = record {
    row = owners;
    landed = owners;
    turns = turns-start successors owners owners owners l l l;
    put = put-start owners at e;
    coloured = coloured-start n v h owners m;
  }

  module _ (A : TakeArgs successors e m n at v) (bytes numbers owners : List ℕ) (t c : ℕ)
      (T : Taking successors e m n at v bytes numbers owners t c) (l : c < length successors)
      (lb : length bytes ≡ length e) (lm : length numbers ≡ length m) where
    pub take-args : ColourArgs numbers n c v
    take-args p = args-same n v h T.landed c m numbers T.coloured lm (A.next c p l)

    pub take-turn : (x b : ℕ) (m' : List ℕ) → b ≡ 2 ^ takes (take c T.row) (get_or successors c 0)
        → x ≡ takes (take c T.row) (get_or successors c 0)
        → m' ≡ put_colour numbers n c v (get_or (set owners x c) (get_or successors c 0) 0)
        → Taking successors e m n at v (set bytes (at + c) x) m' (set owners x c) (t + b) (c + 1)
    take-turn x b m' d f q = record {
      row = set T.row c x;
      landed = set T.landed c (get_or (set owners x c) (get_or successors c 0) 0);
      turns = turns-turn successors T.row T.landed owners t c T.turns A.turns l x b d f;
      put = put_next T.row at c x e bytes T.put (omega (arith, A.room, lb))
          (omega (arith, T.turns.long-row, A.turns.few));
      coloured = rw q (coloured-turn n v h T.landed c m numbers T.coloured lm
          (get_or (set owners x c) (get_or successors c 0) 0) (omega (arith, T.turns.long-lands, A.turns.few))
          (λ p. A.next c p l));
    }

  pub take_done : (bytes numbers owners : List ℕ) (t c : ℕ) → Taking successors e m n at v bytes numbers owners t c
      → length successors ≤ c → TakenTo successors n at (length successors) v e m bytes numbers
  take_done bytes numbers owners t c T l =
      let k : ℕ = length successors in
      let q : c ≡ k = omega (arith, T.turns.within) in
      let all : take k T.row ≡ recolour (λ q. q) successors =
      ap (λ (j : ℕ). take j T.row) (sym q) ∙ T.turns.so_far
      ∙ ap (λ (j : ℕ). recolour (λ q. q) (take j successors)) q ∙ recolour-all (λ q. q) successors in
      record {
        row = λ d i. T.put.cells d (omega arith) ∙ sym (get_or-take k T.row d 0 i)
            ∙ ap (λ (xs : List ℕ). get_or xs d 0) all;
        cells = λ d i p j r. T.coloured.cells d i p (omega arith) r
            ∙ ap (λ (y : ℕ). get_or (row_cells (next_row m n d v) y) i 0) (T.turns.lands-so d (omega arith));
        bytes_kept = λ j f. T.put.kept j (λ d i. f d (omega arith));
        numbers_kept = λ j f. T.coloured.kept j (λ d i p r w. f d i p (omega arith) w);
      }
