-- Both children's maps, written in their parent's iteration.
--     pair-rowed .. pair-ext          two rows written one after the other
--     near-pair-args, far-pair-args   what the writers of both rows need; near-values, far-values: what they write
use Prim.Native.Nat.{ℕ, ◌+◌, ◌-◌, ◌*◌, ◌<◌}
use mathlib.Core.Path.{◌≡◌, ◌∙◌}
use mathlib.Core.List.{List}
use native.Mathlib.Omega.{arith}
use borrow.Author.Tests.{eq-eqb, ne_eqb}
use lib.ListN.{length, get_or}
use Rattle.list_laws.proofs.RowLaws.{stride}
use Rattle.formats.proofs.RuleLaws.{rule-in}
use Rattle.tables.specs.node_tables.Cells.{jump_cell}
use Rattle.tables.specs.node_tables.inner.UpPass.{left_of}
use Rattle.tables.specs.StateCells.{state_cell}
use Rattle.tables.specs.inner.Rows.{Rowed, RowIn, FarArgs, far_cell}
use Rattle.tables.specs.inner.MapPairs.{PairRowed, row_of, col_of, right_value, left_value, NearPairArgs}
use Rattle.tables.specs.inner.MapPairs.{FarPairArgs, PairArgs}
use Rattle.tables.proofs.MapRowLaws.{row_other}

pub pair-rowed : (s : ℕ) (f g : ℕ → ℕ) (r l : ℕ) (b₀ b₁ b₂ : List ℕ) → (r ≡ l → ⊥) → Rowed s f r b₀ b₁
    → Rowed s g l b₁ b₂ → PairRowed s f g r l b₀ b₂
pair-rowed s f g r l b₀ b₁ b₂ ne R L = record {
  right = λ q h. row_other s g l s b₁ b₂ L r q ne (omega arith) h ∙ R.cells q h;
  left = L.cells;
  kept = λ j a c. L.kept j c ∙ R.kept j a;
}

pub pair-ext : (s : ℕ) (f f' g g' : ℕ → ℕ) (r l : ℕ) (b₀ b : List ℕ) → ((q : ℕ) → q < s → f q ≡ f' q)
    → ((q : ℕ) → q < s → g q ≡ g' q) → PairRowed s f g r l b₀ b → PairRowed s f' g' r l b₀ b
pair-ext s f f' g g' r l b₀ b e d P = record {
  right = λ q h. P.right q h ∙ e q h;
  left = λ q h. P.left q h ∙ d q h;
  kept = P.kept;
}

-- ---- what the writers need, and what they write

module _ (ls b inn : List ℕ) (s k : ℕ) (st : List ℕ) (v : ℕ) (A : PairArgs ls b inn s k st v) where
  row_in : (u : ℕ) → u < length ls → RowIn (length st) s u
  row_in u h = omega (arith, stride (s + 1) u (length ls) h, A.room)

  pub left_below : left_of b v < v
  left_below = omega (arith, A.pos)

  pub right_inside : (q : ℕ) → q < s → row_of ls b st s k v + q * 1 < length inn
  right_inside q h =
      let x : ℕ = state_cell s st (left_of b v) in
      omega (
        arith,
        rule-in s k x (get_or ls v 0) q (A.state_below (left_of b v) (omega (arith, left_below, A.inside)))
            (A.below v) h,
        A.inner_count,
      )

  pub left_inside : (q : ℕ) → q < s → col_of ls st s v + q * (k * s) < length inn
  left_inside q h =
      let y : ℕ = state_cell s st (v - 1) in
      omega (
        arith,
        rule-in s k q (get_or ls v 0) y h (A.below v) (A.state_below (v - 1) (omega (arith, A.inside))),
        A.inner_count,
      )

  pub pair-apart : v - 1 ≡ left_of b v → ⊥
  pair-apart e = omega (arith, A.right_some, A.right_in, A.pos)

  pub near-pair-args : NearPairArgs (length st) s (v - 1) (left_of b v) (length inn) (row_of ls b st s k v)
      (col_of ls st s v) (k * s)
  near-pair-args = record {
    right = record { room = row_in (v - 1) (omega (arith, A.inside)); inside = right_inside };
    left = record { room = row_in (left_of b v) (omega (arith, left_below, A.inside)); inside = left_inside };
    apart = pair-apart;
  }

  far-args : (u base step : ℕ) → u < v → ((q : ℕ) → q < s → base + q * step < length inn)
      → FarArgs st s u v (jump_cell b v) inn base step
  far-args u base step h inside = record {
    room = row_in u (omega (arith, A.inside));
    near_room = row_in v A.inside;
    far_room = row_in (jump_cell b v) A.jump_inside;
    near_other = λ e. omega arith;
    far_other = λ e. omega (arith, A.jump_above);
    inside = inside;
    here_below = λ q l. A.inner_below _;
    near_below = A.map_below;
  }

  pub far-pair-args : FarPairArgs st s v (jump_cell b v) (v - 1) (left_of b v) inn (row_of ls b st s k v)
      (col_of ls st s v) (k * s)
  far-pair-args = record {
    right = far-args (v - 1) (row_of ls b st s k v) 1 (omega (arith, A.pos)) right_inside;
    left = far-args (left_of b v) (col_of ls st s v) (k * s) left_below left_inside;
    apart = pair-apart;
  }

module _ (ls b inn : List ℕ) (s k : ℕ) (st : List ℕ) (v : ℕ) (after : List ℕ) where
  pub near-values : jump_cell b (v - 1) ≡ v
      → PairRowed s (λ q. get_or inn (row_of ls b st s k v + q * 1) 0)
      (λ q. get_or inn (col_of ls st s v + q * (k * s)) 0)
      (v - 1) (left_of b v) st after
      → PairRowed s (right_value ls b inn s k st v) (left_value ls b inn s k st v) (v - 1) (left_of b v) st after
  unfolding right_value left_value
  near-values c =
      pair-ext s _ _ _ _ (v - 1) (left_of b v) st after (λ q h. rw (eq-eqb (jump_cell b (v - 1)) v c))
      (λ q h. rw (eq-eqb (jump_cell b (v - 1)) v c))

  pub far-values : (jump_cell b (v - 1) ≡ v → ⊥)
      → PairRowed s (far_cell s st v (jump_cell b v) inn (row_of ls b st s k v) 1)
      (far_cell s st v (jump_cell b v) inn (col_of ls st s v) (k * s)) (v - 1) (left_of b v) st after
      → PairRowed s (right_value ls b inn s k st v) (left_value ls b inn s k st v) (v - 1) (left_of b v) st after
  unfolding right_value left_value
  far-values c =
      pair-ext s _ _ _ _ (v - 1) (left_of b v) st after (λ q h. rw (ne_eqb (jump_cell b (v - 1)) v c))
      (λ q h. rw (ne_eqb (jump_cell b (v - 1)) v c))
