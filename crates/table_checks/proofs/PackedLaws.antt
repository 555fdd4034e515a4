-- The numbers of a node's two children compared as one.
--     packed-same                    three packed numbers are the same exactly where each is
--     pair-jump-less                 the jump by pairs is a 16-bit number where all entries are
--     pair-packed                    the differences, or-ed, are 0 exactly where the test of the pair holds
use Prim.Native.Nat.{ℕ, ◌+◌, ◌-◌, ◌*◌, ◌%◌, ◌<◌}
use mathlib.Core.Path.{◌≡◌, refl, sym}
use mathlib.Core.Bool.{Bool, true, false, cond}
use mathlib.Core.List.{List}
use native.Mathlib.Omega.{arith}
use lib.Arith.{digits_mod}
use lib.Dec.{eqb, ltb}
use lib.ListN.{get_or}
use lib.Bits.{bit_or, bit_xor}
use borrow.Author.Tests.{eq-eqb, eqb-true}
use Rattle.tables.specs.node_tables.Cells.{parent_cell, jump_cell, depth_cell, size_cell}
use Rattle.tables.specs.node_tables.JumpLengths.{jump_lengths}
use Rattle.tables.specs.node_tables.inner.UpPass.{left_of, inner_size}
use Rattle.table_checks.specs.inner.PairNodes.{within, pair_by_distances, pair_by_length, pair_jump, pair_nodes}
use Rattle.table_checks.specs.inner.PairNodes.{packed, links_cell, numbers_cell}
use Rattle.table_checks.proofs.DifferenceLaws.{or-none, or_left, or_right, xor-zero, xor-none}
use Rattle.table_checks.proofs.PairNodeLaws.{Pair, pair-told, tells-pair}

-- a number below 2 ^ 16 at each position but the last
pub packed-same : (p j d x y z : ℕ) → p < 65536 → j < 65536 → x < 65536 → y < 65536 → packed p j d ≡ packed x y z
    → (p ≡ x) × (j ≡ y) × (d ≡ z)
packed-same p j d x y z hp hj hx hy e = (omega arith, omega arith, omega arith)

-- the same truth is the same test
same_truth : (a b : Bool) → (a ≡ true → b ≡ true) → (b ≡ true → a ≡ true) → a ≡ b
same_truth true b f g = sym (f refl)
same_truth false true f g = g refl
same_truth false false f g = refl

either_less : (c : Bool) (x y : ℕ) → x < 65536 → y < 65536 → cond c x y < 65536
either_less true x y h i = h
either_less false x y h i = i

module _ (n : ℕ) (b : List ℕ) (v : ℕ) (small : (i : ℕ) → get_or b i 0 < 65536) (hv : v < 65536) where
  pub pair-jump-less : pair_jump n b v < 65536
  pair-jump-less =
      let far = jump_cell b (within n (jump_cell b v)) in
      let h : far < 65536 = small (within n (jump_cell b v) * 4 + 1) in
      either_less (ltb (depth_cell b v + 1) 1024) (pair_by_length n b v) (pair_by_distances n b v)
      (either_less (eqb (get_or jump_lengths (depth_cell b v + 1) 0) 1) v far hv h)
      (either_less
      (eqb (depth_cell b v + depth_cell b (within n far))
      (depth_cell b (within n (jump_cell b v)) + depth_cell b (within n (jump_cell b v))))
      far v h hv)

  want : ℕ
  want = packed v (pair_jump n b v) (depth_cell b v + 1)

  differences : ℕ
  differences =
      bit_or (bit_xor (size_cell b v) (inner_size b v))
      (bit_or (bit_xor (links_cell b (v - 1)) want) (bit_xor (links_cell b (left_of b v)) want))

  child : (u : ℕ) → links_cell b u ≡ want → (parent_cell b u ≡ v) × (jump_cell b u ≡ pair_jump n b v)
      × (depth_cell b u ≡ depth_cell b v + 1)
  unfolding want
  child u e =
      packed-same (parent_cell b u) (jump_cell b u) (depth_cell b u) v (pair_jump n b v) (depth_cell b v + 1)
      (small (u * 4)) (small (u * 4 + 1)) hv pair-jump-less e

  told : differences ≡ 0 → Pair n b v
  unfolding differences
  told e =
      let s = xor-zero (size_cell b v) (inner_size b v) (or_left _ _ e) in
      let m = or_right (bit_xor (size_cell b v) (inner_size b v)) _ e in
      let r = child (v - 1) (xor-zero (links_cell b (v - 1)) want (or_left _ _ m)) in
      let l = child (left_of b v)
      (xor-zero (links_cell b (left_of b v)) want (or_right (bit_xor (links_cell b (v - 1)) want) _ m)) in
      record {
        size_is = s;
        right-parent = r.0;
        left-parent = l.0;
        right-depth = r.2;
        left-depth = l.2;
        right-jump = r.1;
        left-jump = l.1;
      }

  child-same : (u : ℕ) → parent_cell b u ≡ v → jump_cell b u ≡ pair_jump n b v → depth_cell b u ≡ depth_cell b v + 1
      → bit_xor (links_cell b u) want ≡ 0
  unfolding want
  child-same u p j d = xor-none (links_cell b u) (packed v (pair_jump n b v) (depth_cell b v + 1)) (rw (p, j, d))

  tells : Pair n b v → differences ≡ 0
  unfolding differences
  tells P =
      or-none (bit_xor (size_cell b v) (inner_size b v)) _ (xor-none (size_cell b v) (inner_size b v) P.size_is)
      (or-none (bit_xor (links_cell b (v - 1)) want) (bit_xor (links_cell b (left_of b v)) want)
      (child-same (v - 1) P.right-parent P.right-jump P.right-depth)
      (child-same (left_of b v) P.left-parent P.left-jump P.left-depth))

  differ-test : eqb differences 0 ≡ pair_nodes n b v
  differ-test =
      same_truth (eqb differences 0) (pair_nodes n b v) (λ e. tells-pair n b v (told (eqb-true differences 0 e)))
      (λ e. eq-eqb differences 0 (tells (pair-told n b v e)))

  -- the size taken off
  links-of : (u : ℕ) → numbers_cell b u % 281474976710656 ≡ links_cell b u
  links-of u =
      digits_mod (size_cell b u) {m = 281474976710656} {r = links_cell b u}
      (omega (arith, small (u * 4), small (u * 4 + 1), small (u * 4 + 2)))

  -- as the code has them
  pub pair-packed : (l to x y : ℕ) → l ≡ left_of b v → to ≡ pair_jump n b v → x ≡ numbers_cell b (v - 1)
      → y ≡ numbers_cell b l
      → eqb
      (bit_or (bit_xor (size_cell b v) (size_cell b l + size_cell b (v - 1) + 1))
      (bit_or (bit_xor (x % 281474976710656) (packed v to (depth_cell b v + 1)))
      (bit_xor (y % 281474976710656) (packed v to (depth_cell b v + 1))))) 0
      ≡ pair_nodes n b v
  unfolding differences want
  pair-packed l to x y e f g h =
      rw (h, g, links-of (v - 1), links-of l, f, e) differ-test
