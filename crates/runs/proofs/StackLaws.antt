-- The states that wait, in an array, and the stack reading node by node.
--     stack_push, stack-two, stack-join   a tree more, the two on top, and one in their place
--     waiting-most            no more trees wait than can still be joined
--     read-leaf, read-inner   the reading of Postorder at a leaf and at an inner node
use Prim.Native.Nat.{ℕ, zero, suc, ◌+◌, ◌≤◌, ◌<◌}
use mathlib.Core.Path.{◌≡◌, refl, ap, ap₂}
use mathlib.Core.List.{List, [], ◌∷◌}
use mathlib.Core.Option.{some}
use native.Mathlib.Numerals.{add-one}
use native.Mathlib.Omega.{arith}
use lib.ListN.{length, get_or, set, drop}
use lib.Seq.{drop-cons, get_or-set_same, get_or-set_other}
use Rattle.trees.specs.Postorder.{waiting, read}
use Rattle.trees.proofs.MoveLaws.{none-some}
use Rattle.runs.specs.inner.Pass.{lower_of, stack_of}

-- ---- the states that wait

-- a store above them does not touch them
lower-set : (st : List ℕ) (w i x : ℕ) → w < i → lower_of (set st i x) w ≡ lower_of st w
unfolding lower_of
lower-set st zero i x h = refl
lower-set st (suc w) i x h =
    ap₂ (λ (y : ℕ) (l : List ℕ). y ∷ l) (get_or-set_other st i (suc w) x 0 (λ e. omega arith)) (lower-set st w i x (omega arith))

-- the last completed is stored in its cell, and y is on top
pub stack_push : (st : List ℕ) (w x y : ℕ) → w < length st → stack_of (set st w x) (w + 1) y ≡ y ∷ stack_of st w x
unfolding stack_of lower_of
stack_push st zero x y h = refl
stack_push st (suc w) x y h =
    rw add-one
    (ap₂ (λ (z : ℕ) (l : List ℕ). y ∷ z ∷ l) (get_or-set_same st (suc w) x 0 h) (lower-set st w (suc w) x (omega arith)))

-- the two on top
pub stack-two : (st : List ℕ) (w top x : ℕ) → top ≡ w + 2 → stack_of st top x ≡ x ∷ get_or st (w + 1) 0 ∷ lower_of st w
unfolding stack_of lower_of
stack-two st w top x e = let f : top ≡ suc (suc w) = omega arith in rw (f, add-one)

-- one on top of those below: the cell above does not matter
pub stack-join : (st : List ℕ) (w i x y : ℕ) → w < i → stack_of (set st i x) (w + 1) y ≡ y ∷ lower_of st w
unfolding stack_of
stack-join st w i x y h = rw add-one (ap (λ (l : List ℕ). y ∷ l) (lower-set st w i x h))

-- ---- the machine, node by node

pub some-some : {x y : ℕ} → some x ≡ some y → x ≡ y
some-some h = cc

-- no more trees wait than can still be joined
pub waiting-most : (ks : List ℕ) (w : ℕ) → waiting ks w ≡ some 1 → w ≤ length ks + 1
waiting-most [] w h = omega (arith, some-some h)
waiting-most (zero ∷ ks) w h = omega (arith, waiting-most ks (suc w) h)
waiting-most (suc zero ∷ ks) zero h = omega arith
waiting-most (suc zero ∷ ks) (suc zero) h = omega arith
waiting-most (suc zero ∷ ks) (suc (suc w)) h = omega (arith, waiting-most ks (suc w) h)
waiting-most (suc (suc k) ∷ ks) w h = absurd (none-some h)

module _ {X : Type 0} (lf : ℕ → X) (nd : X → ℕ → X → X) where
  step-leaf : (k a : ℕ) (ks ls : List ℕ) (st : List X) → k ≡ 0
      → read lf nd (k ∷ ks) (a ∷ ls) st ≡ read lf nd ks ls (lf a ∷ st)
  step-leaf zero a ks ls st e = refl
  step-leaf (suc k) a ks ls st e = absurd (omega arith)

  step-inner : (k a : ℕ) (ks ls : List ℕ) (l r : X) (st : List X) → k ≡ 1
      → read lf nd (k ∷ ks) (a ∷ ls) (r ∷ l ∷ st) ≡ read lf nd ks ls (nd l a r ∷ st)
  step-inner zero a ks ls l r st e = absurd (omega arith)
  step-inner (suc zero) a ks ls l r st e = refl
  step-inner (suc (suc k)) a ks ls l r st e = absurd (omega arith)

  module _ (ks ls : List ℕ) (i : ℕ) (hk : i < length ks) (hl : i < length ls) where
    pub read-leaf : (st : List X) → get_or ks i 0 ≡ 0
        → read lf nd (drop i ks) (drop i ls) st ≡ read lf nd (drop (i + 1) ks) (drop (i + 1) ls) (lf (get_or ls i 0) ∷ st)
    read-leaf st e =
        rw (add-one, drop-cons ks i 0, drop-cons ls i 0)
        (step-leaf (get_or ks i 0) (get_or ls i 0) (drop (suc i) ks) (drop (suc i) ls) st e)

    pub read-inner : (l r : X) (st : List X) → get_or ks i 0 ≡ 1
        → read lf nd (drop i ks) (drop i ls) (r ∷ l ∷ st)
        ≡ read lf nd (drop (i + 1) ks) (drop (i + 1) ls) (nd l (get_or ls i 0) r ∷ st)
    read-inner l r st e =
        rw (add-one, drop-cons ks i 0, drop-cons ls i 0)
        (step-inner (get_or ks i 0) (get_or ls i 0) (drop (suc i) ks) (drop (suc i) ls) l r st e)
