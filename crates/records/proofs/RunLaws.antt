-- Runs of bytes in lists in a row, bytes one by one, and the bytes of the state and of the yes or no.
--     behind, first_run       a run behind a list, and a run that is the list
--     run-then                a run, and what follows it
--     firsts-then             the bytes from an index on, one by one, and what follows them
--     head-same, last-same    a record's first bytes, and its last 16, field by field
--     run_at                  a byte of a run
--     firsts-all              all bytes, one by one
--     cons-fits, append-fits, run_fits, le32-fit
--                             lists of bytes below 256
--     phase-again, yes-again  the state of its number, the yes or no of its number; phase-number, yes-number: and back
use Prim.Native.Nat.{ℕ, zero, suc, ◌+◌, ◌≤◌, ◌<◌}
use mathlib.Core.Path.{◌≡◌, refl, sym, ap, ◌∙◌}
use mathlib.Core.Bool.{Bool, true, false}
use mathlib.Core.List.{List, [], ◌∷◌, ◌++◌, append-nil}
use native.Mathlib.Nat.{add-zero, add-suc, suc-add}
use native.Mathlib.Omega.{arith}
use lib.Dec.{eqb}
use lib.ListN.{length, get_or, take, drop, take-append-drop, drop_of_length-le}
use lib.Seq.{take_at, drop-append-add, drop-drop, get_or-drop, get_or-take, drop-cons}
use Rattle.formats.specs.Bytes.{le32_bytes}
use Rattle.session.specs.declared.state.Phase.{Phase}
use Rattle.session.specs.declared.state.Phase.TheVariants.{Empty, Loaded, Running, Answered}
use Rattle.records.specs.Layout.{phase_byte, phase_at, yes_byte, run, Bytes}

-- ---- runs

-- a run behind p, and a run that is p
pub behind : (p q : List ℕ) (a b n : ℕ) → length p ≡ a → run (a + b) n (p ++ q) ≡ run b n q
behind p q a b n e = ap (take n) (rw (← e) (drop-append-add p q b))

pub first_run : (p q : List ℕ) (n : ℕ) → length p ≡ n → run 0 n (p ++ q) ≡ p
first_run p q n e = take_at p q n e

-- a run, and what follows it
pub run-then : (b : List ℕ) (a n : ℕ) → run a n b ++ drop (a + n) b ≡ drop a b
run-then b a n = ap (λ (t : List ℕ). run a n b ++ t) (sym (drop-drop n a b)) ∙ take-append-drop n (drop a b)

-- n bytes from index i on, one by one
unfoldable pub firsts : ℕ → ℕ → List ℕ → List ℕ
firsts zero i b = []
firsts (suc n) i b = get_or b i 0 ∷ firsts n (suc i) b

pub firsts-then : (b : List ℕ) (n i : ℕ) → i + n ≤ length b → drop i b ≡ firsts n i b ++ drop (i + n) b
unfolding firsts
firsts-then b zero i h = rw add-zero
firsts-then b (suc n) i h =
    drop-cons b i 0 (omega arith)
    ∙ ap (λ (t : List ℕ). get_or b i 0 ∷ t) (firsts-then b n (suc i) (omega arith) ∙ rw (add-suc, suc-add))

pub head-same : (a b m q h : ℕ) (p y p' y' : ℕ) (u v u' v' : List ℕ) → p ≡ p' → y ≡ y' → u ≡ u' → v ≡ v'
    → p ∷ y ∷ a ∷ b ∷ (u ++ (m ∷ q ∷ h ∷ v)) ≡ p' ∷ y' ∷ a ∷ b ∷ (u' ++ (m ∷ q ∷ h ∷ v'))
head-same a b m q h p y p' y' u v u' v' e f g i = cc

pub last-same : (s p : ℕ) (f y f' y' : ℕ) (v w x v' w' x' : List ℕ) → f ≡ f' → y ≡ y' → v ≡ v' → w ≡ w' → x ≡ x'
    → f ∷ s ∷ y ∷ p ∷ (v ++ (w ++ x)) ≡ f' ∷ s ∷ y' ∷ p ∷ (v' ++ (w' ++ x'))
last-same s p f y f' y' v w x v' w' x' e g h i j = cc

pub run_at : (b : List ℕ) (a n i : ℕ) → i < n → get_or (run a n b) i 0 ≡ get_or b (a + i) 0
run_at b a n i h = get_or-take n (drop a b) i 0 h ∙ get_or-drop a b i 0

pub firsts-all : (b : List ℕ) (n : ℕ) → length b ≡ n → b ≡ firsts n 0 b
firsts-all b n e =
    firsts-then b n 0 (omega arith)
    ∙ (ap (λ (t : List ℕ). firsts n 0 b ++ t) (drop_of_length-le b {i = 0 + n} (omega arith)) ∙ append-nil (firsts n 0 b))

pub cons-fits : (x : ℕ) (l : List ℕ) → x < 256 → Bytes l → Bytes (x ∷ l)
cons-fits x l h f zero = h
cons-fits x l h f (suc i) = f i

pub append-fits : (p q : List ℕ) → Bytes p → Bytes q → Bytes (p ++ q)
append-fits [] q f g i = g i
append-fits (x ∷ p) q f g zero = f 0
append-fits (x ∷ p) q f g (suc i) = append-fits p q (λ j. f (suc j)) g i

take-fits : (n : ℕ) (l : List ℕ) → Bytes l → Bytes (take n l)
take-fits zero l f i = omega arith
take-fits (suc n) [] f i = omega arith
take-fits (suc n) (x ∷ l) f zero = f 0
take-fits (suc n) (x ∷ l) f (suc i) = take-fits n l (λ j. f (suc j)) i

pub run_fits : (b : List ℕ) (a n : ℕ) → Bytes b → Bytes (run a n b)
run_fits b a n f = take-fits n (drop a b) (λ i. rw get_or-drop (f (a + i)))

pub le32-fit : (n : ℕ) → Bytes (le32_bytes n)
le32-fit n zero = omega arith
le32-fit n (suc zero) = omega arith
le32-fit n (suc (suc zero)) = omega arith
le32-fit n (suc (suc (suc zero))) = omega arith
le32-fit n (suc (suc (suc (suc i)))) = omega arith

pub phase-again : (p : Phase) → phase_at (phase_byte p) ≡ p
phase-again Empty = refl
phase-again Loaded = refl
phase-again Running = refl
phase-again Answered = refl

pub yes-again : (b : Bool) → eqb (yes_byte b) 1 ≡ b
yes-again true = refl
yes-again false = refl

pub phase-most : (p : Phase) → phase_byte p ≤ 3
phase-most Empty = omega arith
phase-most Loaded = omega arith
phase-most Running = omega arith
phase-most Answered = omega arith

pub yes-most : (b : Bool) → yes_byte b ≤ 1
yes-most true = omega arith
yes-most false = omega arith

pub phase-number : (n : ℕ) → n ≤ 3 → phase_byte (phase_at n) ≡ n
phase-number zero h = refl
phase-number (suc zero) h = refl
phase-number (suc (suc zero)) h = refl
phase-number (suc (suc (suc zero))) h = refl
phase-number (suc (suc (suc (suc n)))) h = absurd (omega arith)

pub yes-number : (n : ℕ) → n ≤ 1 → yes_byte (eqb n 1) ≡ n
yes-number zero h = refl
yes-number (suc zero) h = refl
yes-number (suc (suc n)) h = absurd (omega arith)
