-- Skew-binary numbers, and that jump depths follow them.
--     jump_depth-lt     a jump leads to a smaller depth
--     weight, value    a block of exponent k weighs 2 ^ k - 1; the value of a list of exponents is the sum
--     inc, rep         the list one higher, and the list of a number
--     Block, blocks    the history of a block: at depth weight k + value ks the list is k ∷ ks, and so for the two
--                      blocks that it was merged from; every block of rep n has one
--     jump_depth-block  from the end of a block the jump leads to its start
--     Canon, canon     the exponents of rep n rise strictly, save that the first two may be equal
-- Not here: the number of moves (MoveCount).
use Prim.Native.Nat.{ℕ, zero, suc, ◌+◌, ◌-◌, ◌^◌, ◌≤◌, ◌<◌}
use mathlib.Core.Path.{◌≡◌, refl, sym, ap, ◌∙◌}
use mathlib.Core.Bool.{cond}
use mathlib.Core.List.{List, [], ◌∷◌}
use native.Mathlib.Omega.{arith}
use native.Mathlib.Nat.{le_refl}
use lib.Dec.{eqb}
use Rattle.trees.specs.Jumps.{two_distances, jump_depth}
use Rattle.list_laws.proofs.Choice.{by-eq}
use Rattle.trees.proofs.JumpDepthLaws.{two_distances-le, jump_depth-le, jump_depth-zero, jump_depth-suc}

pub jump_depth-lt : (d : ℕ) → 0 < d → jump_depth d < d
jump_depth-lt zero h = absurd (omega arith)
jump_depth-lt (suc d) h =
    rw (jump_depth-suc d)
    (omega (
      arith,
      two_distances-le d d (jump_depth d) (jump_depth (jump_depth d)) (jump_depth (jump_depth d)) d
          (omega (arith, jump_depth-le (jump_depth d), jump_depth-le d)) (omega arith),
    ))

-- ---- lists of exponents

unfoldable pub weight : ℕ → ℕ
weight zero = 0
weight (suc k) = suc (weight k + weight k)

unfoldable pub value : List ℕ → ℕ
value [] = 0
value (k ∷ ks) = weight k + value ks

unfoldable tail : List ℕ → List ℕ
tail [] = []
tail (k ∷ ks) = ks

unfoldable pub inc : List ℕ → List ℕ
inc [] = 1 ∷ []
inc (k ∷ []) = 1 ∷ k ∷ []
inc (k ∷ j ∷ js) = cond (eqb k j) (suc k ∷ js) (1 ∷ k ∷ j ∷ js)

unfoldable pub rep : ℕ → List ℕ
rep zero = []
rep (suc n) = inc (rep n)

inc-value : (l : List ℕ) → value (inc l) ≡ suc (value l)
unfolding inc value weight
inc-value [] = refl
inc-value (k ∷ []) = omega arith
inc-value (k ∷ j ∷ js) =
    by-eq (λ l. value l ≡ suc (weight k + (weight j + value js))) k j
    (λ e. omega (arith, ap weight e)) (λ _. omega arith)

pub value-rep : (n : ℕ) → value (rep n) ≡ n
unfolding rep
value-rep zero = unfold value in refl
value-rep (suc n) = inc-value (rep n) ∙ ap suc (value-rep n)

pub weight-pow : (k : ℕ) → suc (weight k) ≡ 2 ^ k
unfolding weight
weight-pow zero = refl
weight-pow (suc k) = omega (arith, weight-pow k)

pub weight-pos : (k : ℕ) → 1 ≤ k → 1 ≤ weight k
unfolding weight
weight-pos zero h = h
weight-pos (suc k) h = omega arith

weight-inj : (j k : ℕ) → weight j ≡ weight k → j ≡ k
unfolding weight
weight-inj zero zero e = refl
weight-inj zero (suc k) e = absurd (omega arith)
weight-inj (suc j) zero e = absurd (omega arith)
weight-inj (suc j) (suc k) e = ap suc (weight-inj j k (omega arith))

-- ---- the history of a block

unfoldable pub Block : ℕ → List ℕ → Type 0
Block zero ks = ⊥
Block (suc zero) ks = rep (weight 1 + value ks) ≡ 1 ∷ ks
Block (suc (suc k)) ks =
    (rep (weight (suc (suc k)) + value ks) ≡ suc (suc k) ∷ ks) × Block (suc k) (suc k ∷ ks) × Block (suc k) ks

unfoldable pub Blocks : List ℕ → Type 0
Blocks [] = Unit
Blocks (k ∷ ks) = Block k ks × Blocks ks

block-rep : (k : ℕ) (ks : List ℕ) → Block k ks → rep (weight k + value ks) ≡ k ∷ ks
unfolding Block
block-rep zero ks b = absurd b
block-rep (suc zero) ks b = b
block-rep (suc (suc k)) ks b = b.0

block-pos : (k : ℕ) (ks : List ℕ) → Block k ks → 1 ≤ k
unfolding Block
block-pos zero ks b = absurd b
block-pos (suc k) ks b = omega arith

merge : (k : ℕ) (ks : List ℕ) → rep (weight (suc k) + value ks) ≡ suc k ∷ ks → Block k (k ∷ ks) → Block k ks
    → Block (suc k) ks
unfolding Block
merge zero ks e b c = absurd b
merge (suc k) ks e b c = (e, b, c)

blocks-inc : (l : List ℕ) → rep (value (inc l)) ≡ inc l → Blocks l → Blocks (inc l)
unfolding inc value Blocks Block
blocks-inc [] e a = (e, tt)
blocks-inc (k ∷ []) e a = (e, a)
blocks-inc (k ∷ j ∷ js) e a =
    by-eq (λ l. rep (value l) ≡ l → Blocks l) k j
    (λ q f. (merge k js f (rw q (rw q at a.0)) (rw (← q) at a.1.0), a.1.1))
    (λ _ f. (f, a)) e

pub blocks : (n : ℕ) → Blocks (rep n)
unfolding rep
blocks zero = unfold Blocks in tt
blocks (suc n) = blocks-inc (rep n) (ap rep (inc-value (rep n) ∙ ap suc (value-rep n))) (blocks n)

-- ---- the rest of the list is where the jump leads

unfoldable rest : ℕ → ℕ
rest d = value (tail (rep d))

rest-block : (k : ℕ) (ks : List ℕ) → Block k ks → rest (weight k + value ks) ≡ value ks
unfolding rest
rest-block k ks b = rw (block-rep k ks b) (unfold tail in refl)

rest-suc : (l : List ℕ) → rep (value l) ≡ l → rest (suc (value l)) ≡ value (tail (inc l))
unfolding rest rep
rest-suc l e = rw e refl

abbrev ruled : ℕ → ℕ
ruled d = two_distances d (rest d) (rest (rest d)) (rest (rest d)) d

ruled-at : (d a b : ℕ) → rest d ≡ a → rest a ≡ b → ruled d ≡ cond (eqb (d - a) (a - b)) b d
ruled-at d a b p q = rw (p, q) refl

ruled-list : (l : List ℕ) → rep (value l) ≡ l → Blocks l → value (tail (inc l)) ≡ ruled (value l)
ruled-list [] e a = unfold tail inc value rest rep weight in refl
ruled-list (k ∷ []) e a =
    unfold Blocks tail inc value in
    sym (ruled-at (weight k + 0) 0 0 (rest-block k [] a.0) (unfold rest rep tail in refl)
    ∙ by-eq (λ r. r ≡ weight k + 0) (weight k + 0 - 0) (0 - 0)
    (λ q. absurd (omega (arith, weight-pos k (block-pos k [] a.0)))) (λ _. refl))
ruled-list (k ∷ j ∷ js) e a =
    unfold Blocks tail inc value in
    sym (ruled-at (weight k + (weight j + value js)) (weight j + value js) (value js)
    (rest-block k (j ∷ js) a.0) (rest-block j js a.1.0)
    ∙ by-eq (λ r. r ≡ value (tail (cond (eqb k j) (suc k ∷ js) (1 ∷ k ∷ j ∷ js))))
    (weight k + (weight j + value js) - (weight j + value js)) (weight j + value js - value js)
    (λ q. by-eq (λ l. value js ≡ value (tail l)) k j (λ _. refl) (λ ne. absurd (ne (weight-inj k j (omega arith)))))
    (λ q. by-eq (λ l. weight k + (weight j + value js) ≡ value (tail l)) k j
    (λ p. absurd (q (omega (arith, ap weight p)))) (λ _. refl)))

rest-rule : (d : ℕ) → rest (suc d) ≡ ruled d
rest-rule d =
    rw (value-rep d) at (rest-suc (rep d) (ap rep (value-rep d)) ∙ ruled-list (rep d) (ap rep (value-rep d)) (blocks d))

rest-zero : rest 0 ≡ 0
unfolding rest rep tail value
rest-zero = refl

-- the two-distances rule has one solution
same : (n d : ℕ) → d ≤ n → jump_depth d ≡ rest d
same zero zero h = jump_depth-zero ∙ sym rest-zero
same zero (suc d) h = absurd (omega arith)
same (suc n) zero h = jump_depth-zero ∙ sym rest-zero
same (suc n) (suc d) h =
    let one : jump_depth d ≡ rest d = same n d (omega arith) in
    let two : jump_depth (rest d) ≡ rest (rest d) = same n (rest d) (omega (arith, jump_depth-le d)) in
    jump_depth-suc d ∙ rw (one, two) refl ∙ sym (rest-rule d)

pub jump_depth-block : (k : ℕ) (ks : List ℕ) → Block k ks → jump_depth (weight k + value ks) ≡ value ks
jump_depth-block k ks b = same (weight k + value ks) (weight k + value ks) (le_refl _) ∙ rest-block k ks b

-- ---- canonical form: exponents strictly rising above c; the first two may be equal

unfoldable pub Rising : ℕ → List ℕ → Type 0
Rising c [] = Unit
Rising c (k ∷ ks) = (c < k) × Rising k ks

unfoldable pub Canon : List ℕ → Type 0
Canon [] = Unit
Canon (k ∷ []) = 1 ≤ k
Canon (k ∷ j ∷ js) = (1 ≤ k) × (k ≤ j) × Rising j js

canon-inc : (l : List ℕ) → Canon l → Canon (inc l)
unfolding inc Canon Rising
canon-inc [] c = omega arith
canon-inc (k ∷ []) c = (omega arith, c, tt)
canon-inc (k ∷ j ∷ js) c =
    by-eq Canon k j (λ e. after js (rw (← e) at c.2)) (λ ne. (omega arith, c.0, (omega arith, c.2)))
  where
    after : (is : List ℕ) → Rising k is → Canon (suc k ∷ is)
    after [] u = omega arith
    after (i ∷ is) u = (omega arith, u.0, u.1)

pub canon : (n : ℕ) → Canon (rep n)
unfolding rep
canon zero = unfold Canon in tt
canon (suc n) = canon-inc (rep n) (canon n)
