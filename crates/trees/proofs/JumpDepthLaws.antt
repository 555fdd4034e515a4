-- The laws of the depths to which jumps lead.
--     jump_depth-zero, jump_depth-suc   the two-distances rule by depths
--     jump_depth-le                    a jump leads to no greater depth
use Prim.Native.Nat.{ℕ, zero, suc, ◌-◌, ◌≤◌}
use mathlib.Core.Path.{◌≡◌, refl}
use mathlib.Core.Bool.{Bool, true, false, cond}
use native.Mathlib.Omega.{arith}
use lib.Dec.{eqb}
use Rattle.trees.specs.Jumps.{two_distances, jump_depth_in, jump_depth}

pub two_distances-le : (m d j k far near : ℕ) → far ≤ m → near ≤ m → two_distances d j k far near ≤ m
two_distances-le m d j k far near a b = go (eqb (d - j) (j - k))
  where
    go : (c : Bool) → cond c far near ≤ m
    go true = a
    go false = b

to_le : (f d : ℕ) → jump_depth_in f d ≤ d
unfolding jump_depth_in
to_le zero d = omega arith
to_le (suc f) zero = omega arith
to_le (suc f) (suc d) =
    two_distances-le (suc d) d (jump_depth_in f d) (jump_depth_in f (jump_depth_in f d)) (jump_depth_in f (jump_depth_in f d)) d
    (omega (arith, to_le f (jump_depth_in f d), to_le f d)) (omega arith)

-- any count that is large enough gives the same
same : (f g d : ℕ) → d ≤ f → d ≤ g → jump_depth_in f d ≡ jump_depth_in g d
unfolding jump_depth_in
same zero zero d hf hg = refl
same zero (suc g) zero hf hg = refl
same zero (suc g) (suc d) hf hg = absurd (omega arith)
same (suc f) zero zero hf hg = refl
same (suc f) zero (suc d) hf hg = absurd (omega arith)
same (suc f) (suc g) zero hf hg = refl
same (suc f) (suc g) (suc d) hf hg =
    let a : jump_depth_in f d ≡ jump_depth_in g d = same f g d (omega arith) (omega arith) in
    let b : jump_depth_in f (jump_depth_in g d) ≡ jump_depth_in g (jump_depth_in g d) = same f g (jump_depth_in g d)
    (omega (arith, to_le g d)) (omega (arith, to_le g d)) in
    rw (a, b)

pub jump_depth-le : (d : ℕ) → jump_depth d ≤ d
unfolding jump_depth
jump_depth-le d = to_le d d

pub jump_depth-zero : jump_depth 0 ≡ 0
unfolding jump_depth jump_depth_in
jump_depth-zero = refl

pub jump_depth-suc : (d : ℕ)
    → jump_depth (suc d) ≡ two_distances d (jump_depth d) (jump_depth (jump_depth d)) (jump_depth (jump_depth d)) d
unfolding jump_depth jump_depth_in
jump_depth-suc d =
    let b : jump_depth_in d (jump_depth_in d d) ≡ jump_depth_in (jump_depth_in d d) (jump_depth_in d d) = same d (jump_depth_in d d)
    (jump_depth_in d d) (to_le d d) (omega arith) in
    rw b

-- depths 1 to 7 jump to 0, 1, 0, 3, 4, 3, 0
sample : (jump_depth 1 ≡ 0) × (jump_depth 2 ≡ 1) × (jump_depth 3 ≡ 0) × (jump_depth 4 ≡ 3) × (jump_depth 5 ≡ 4)
    × (jump_depth 6 ≡ 3) × (jump_depth 7 ≡ 0)
unfolding jump_depth jump_depth_in
sample = (refl, refl, refl, refl, refl, refl, refl)
