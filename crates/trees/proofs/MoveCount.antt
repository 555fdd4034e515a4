-- The number of moves of a climb, by depths alone.
--     next_depth-jump, -parent   where the next move leads
--     next_depth-lt, -ge         it rises, and not past the target
--     move_count-done, -move     the equations without a count
--     move_count-bound           at most three moves for each binary digit of the greatest depth
use Prim.Native.Nat.{ℕ, zero, suc, pred, ◌+◌, ◌-◌, ◌*◌, ◌≤◌, ◌<◌}
use mathlib.Core.Path.{◌≡◌, refl, sym, ap}
use mathlib.Core.List.{List, [], ◌∷◌}
use native.Mathlib.Omega.{arith}
use native.Mathlib.Nat.{le_refl}
use Rattle.trees.specs.Jumps.{jump_depth}
use Rattle.trees.specs.Climb.{next_depth, move_count_in, move_count, digits}
use Rattle.list_laws.proofs.Choice.{by_le, by-lt, le-or}
use Rattle.trees.proofs.SkewBinary.{jump_depth-lt, weight, value, rep, value-rep}
use Rattle.trees.proofs.SkewBinary.{Block, Blocks, blocks, jump_depth-block, Rising, Canon, canon}
use Rattle.trees.proofs.Digits.{weight-digits}

-- ---- one move

pub next_depth-jump : (d t : ℕ) → t ≤ jump_depth d → next_depth d t ≡ jump_depth d
unfolding next_depth
next_depth-jump d t h = by_le (λ r. r ≡ jump_depth d) t (jump_depth d) (λ _. refl) (λ q. absurd (omega arith))

pub next_depth-parent : (d t : ℕ) → jump_depth d < t → next_depth d t ≡ d - 1
unfolding next_depth
next_depth-parent d t h = by_le (λ r. r ≡ d - 1) t (jump_depth d) (λ q. absurd (omega arith)) (λ _. refl)

pub next_depth-lt : (d t : ℕ) → t < d → next_depth d t < d
unfolding next_depth
next_depth-lt d t h = by_le (λ r. r < d) t (jump_depth d) (λ _. jump_depth-lt d (omega arith)) (λ _. omega arith)

pub next_depth-ge : (d t : ℕ) → t < d → t ≤ next_depth d t
unfolding next_depth
next_depth-ge d t h = by_le (λ r. t ≤ r) t (jump_depth d) (λ p. p) (λ _. omega arith)

-- ---- the equations without a count

in-done : (f d t : ℕ) → d ≤ t → move_count_in f d t ≡ 0
unfolding move_count_in
in-done zero d t h = refl
in-done (suc f) d t h = by-lt (λ r. r ≡ 0) t d (λ p. absurd (omega arith)) (λ _. refl)

-- any count that is large enough gives the same
same : (f g d t : ℕ) → d ≤ f → d ≤ g → move_count_in f d t ≡ move_count_in g d t
unfolding move_count_in
same zero g d t h l = sym (in-done g d t (omega arith))
same (suc f) zero d t h l = in-done (suc f) d t (omega arith)
same (suc f) (suc g) d t h l =
    by-lt (λ r. r ≡ move_count_in (suc g) d t) t d
    (λ p. by-lt (λ r. suc (move_count_in f (next_depth d t) t) ≡ r) t d
    (λ _. ap suc (same f g (next_depth d t) t (omega (arith, next_depth-lt d t p)) (omega (arith, next_depth-lt d t p))))
    (λ q. absurd (omega arith)))
    (λ p. sym (in-done (suc g) d t p))

pub move_count-done : (d t : ℕ) → d ≤ t → move_count d t ≡ 0
unfolding move_count
move_count-done d t h = in-done d d t h

pub move_count-move : (d t : ℕ) → t < d → move_count d t ≡ suc (move_count (next_depth d t) t)
unfolding move_count
move_count-move zero t h = absurd (omega arith)
move_count-move (suc d) t h =
    let p : next_depth (suc d) t < suc d = next_depth-lt (suc d) t h in
    unfold move_count_in in
    by-lt (λ r. r ≡ suc (move_count_in (next_depth (suc d) t) (next_depth (suc d) t) t)) t (suc d)
    (λ _. ap suc (same d (next_depth (suc d) t) (next_depth (suc d) t) t (omega arith) (le_refl _)))
    (λ q. absurd (omega arith))

-- ---- one move, as a bound, for any count

in_step : (f d t : ℕ) → move_count_in f d t ≤ suc (move_count_in (pred f) (next_depth d t) t)
unfolding move_count_in
in_step zero d t = omega arith
in_step (suc f) d t = by-lt (λ r. r ≤ suc (move_count_in f (next_depth d t) t)) t d (λ _. le_refl _) (λ _. omega arith)

in-jump : (f d t a : ℕ) → jump_depth d ≡ a → t ≤ a → move_count_in f d t ≤ suc (move_count_in (pred f) a t)
in-jump f d t a e h = rw (next_depth-jump d t (omega arith), e) at (in_step f d t)

in-parent : (f d t a : ℕ) → jump_depth d ≡ a → a < t → move_count_in f d t ≤ suc (move_count_in (pred f) (d - 1) t)
in-parent f d t a e h = rw (next_depth-parent d t (omega arith)) at (in_step f d t)

-- ---- inside one block of exponent k: at most 2 k - 1 moves

in_block : (k : ℕ) (ks : List ℕ) → Block k ks → (f t : ℕ) → value ks ≤ t
    → suc (move_count_in f (weight k + value ks) t) ≤ 2 * k
in_block zero ks b f t h = absurd (unfold Block in b)
in_block (suc zero) ks b f t h =
    le-or t (value ks)
    (λ l. omega (
      arith,
      in-jump f (weight 1 + value ks) t (value ks) (jump_depth-block 1 ks b) l,
      in-done (pred f) (value ks) t h,
    ))
    (λ l. omega (arith, in-done f (weight 1 + value ks) t (unfold weight in omega arith)))
in_block (suc (suc k)) ks b f t h =
    let c : Block (suc k) (suc k ∷ ks) = unfold Block in b.1 in
    let c' : Block (suc k) ks = unfold Block in b.2 in
    let e : weight (suc (suc k)) + value ks - 1 ≡ weight (suc k) + value (suc k ∷ ks) =
    unfold weight value in omega arith in
    let v : value (suc k ∷ ks) ≡ weight (suc k) + value ks = unfold value in refl in
    let j : jump_depth (weight (suc (suc k)) + value ks) ≡ value ks = jump_depth-block (suc (suc k)) ks b in
    le-or t (value ks)
    (λ l. omega (arith, in-jump f (weight (suc (suc k)) + value ks) t (value ks) j l, in-done (pred f) (value ks) t h))
    (λ l.
    let up : move_count_in f (weight (suc (suc k)) + value ks) t
    ≤ suc (move_count_in (pred f) (weight (suc k) + value (suc k ∷ ks)) t)
    = rw e at (in-parent f (weight (suc (suc k)) + value ks) t (value ks) j l) in
    le-or (value (suc k ∷ ks)) t
    (λ p. omega (arith, up, in_block (suc k) (suc k ∷ ks) c (pred f) t p))
    (λ p. omega (
      arith,
      up,
      in-jump (pred f) (weight (suc k) + value (suc k ∷ ks)) t (value (suc k ∷ ks))
          (jump_depth-block (suc k) (suc k ∷ ks) c) (omega arith),
      rw (← v) at (in_block (suc k) ks c' (pred (pred f)) t h),
    )))

-- ---- over blocks that rise strictly above c

over-rising : (l : List ℕ) (c : ℕ) → Blocks l → Rising c l → (f t D : ℕ) → t ≤ value l → value l ≤ D → 1 ≤ digits D
    → c ≤ digits D → suc (move_count_in f (value l) t + c) ≤ 3 * digits D
unfolding Blocks Rising value
over-rising [] c a u f t D h l p q = omega (arith, in-done f 0 t (omega arith))
over-rising (k ∷ ks) c a u f t D h l p q =
    let kd : k ≤ digits D = weight-digits k D (omega arith) in
    le-or t (value ks)
    (λ g. omega (
      arith,
      in-jump f (weight k + value ks) t (value ks) (jump_depth-block k ks a.0) g,
      over-rising ks k a.1 u.1 (pred f) t D g (omega arith) p kd,
    ))
    (λ g. omega (arith, in_block k ks a.0 f t (omega arith)))

over-canon : (l : List ℕ) → Blocks l → Canon l → (f t D : ℕ) → t ≤ value l → value l ≤ D
    → move_count_in f (value l) t ≤ 3 * digits D
unfolding Blocks Canon value
over-canon [] a c f t D h l = omega (arith, in-done f 0 t (omega arith))
over-canon (k ∷ []) a c f t D h l =
    let kd : k ≤ digits D = weight-digits k D (omega arith) in
    omega (arith, over-rising (k ∷ []) 0 a (unfold Rising in (c, tt)) f t D h l (omega arith) (omega arith))
over-canon (k ∷ j ∷ js) a c f t D h l =
    let kd : k ≤ digits D = weight-digits k D (omega arith) in
    le-or t (value (j ∷ js))
    (λ g. omega (
      arith,
      in-jump f (weight k + value (j ∷ js)) t (value (j ∷ js)) (jump_depth-block k (j ∷ js) a.0) g,
      over-rising (j ∷ js) 0 a.1 (unfold Rising in (omega arith, c.2)) (pred f) t D g (omega arith) (omega arith)
          (omega arith),
    ))
    (λ g. omega (arith, in_block k (j ∷ js) a.0 f t (omega arith)))

pub move_count-bound : (d t D : ℕ) → t ≤ d → d ≤ D → move_count d t ≤ 3 * digits D
unfolding move_count
move_count-bound d t D h l =
    rw (value-rep d) at (over-canon (rep d) (blocks d) (canon d) d t D (rw (value-rep d) h) (rw (value-rep d) l))
