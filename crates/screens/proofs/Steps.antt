-- Steps from the number to try first to a screen, round from 7 to 0.
--     Steps k i d        d steps lead from number k to screen i
--     steps, one_way     there is one way from a number to a screen, of less than eight steps
--     onward, between    two ways one after the other; the rest of a way
--     next-first         the next running screen is no farther than one that runs
--     Nearing k lo D l   the screens l lie on the way from k, each farther than the one before, all nearer than D
--     nearing-few, nearing-distinct    so they are few, and no one is among them twice
--     until-holds        a list of n screens or more, fewer than n before the first i, has i among its first n
use Prim.Native.Nat.{ℕ, zero, suc, ◌+◌, ◌-◌, ◌≤◌, ◌<◌}
use mathlib.Core.Path.{◌≡◌, refl, sym, ap, ◌∙◌, subst}
use mathlib.Core.Bool.{Bool, true, false, cond, ◌||◌}
use mathlib.Core.List.{List, [], ◌∷◌}
use mathlib.Core.Logic.{◌⊎◌, inl, inr}
use mathlib.Core.Option.{Option, some}
use native.Mathlib.Decide.{ℕ_discrete, dec_lt}
use native.Mathlib.Omega.{arith}
use lib.Dec.{ltb, eqb}
use lib.ListN.{length, take}
use borrow.Author.Tests.{ltb-true, ltb-false, ne_eqb}
use Rattle.list_laws.specs.Tests.{holds, distinct}
use Rattle.list_laws.proofs.BoolLaws.{true-false}
use Rattle.screens.specs.ScreenCalls.{Running, one_past, served_by, next_running_in}
use Rattle.screens.specs.Turns.{until}

pub record Steps (k i d : ℕ) : Type 0 where
  pub from : k < 8
  pub to : i < 8
  pub few : d < 8
  pub are : (k + d ≡ i) ⊎ (k + d ≡ i + 8)

pub steps : (k i : ℕ) → k < 8 → i < 8 → (d : ℕ) × Steps k i d
steps k i a b = elim (dec_lt i k) [
  | yes h ↦ (i + 8 - k, record { from = a; to = b; few = omega arith; are = inr (omega arith) })
  | no h ↦ (i - k, record { from = a; to = b; few = omega arith; are = inl (omega arith) })
]

pub at_first : (k : ℕ) → k < 8 → Steps k k 0
at_first k h = record { from = h; to = h; few = omega arith; are = inl (omega arith) }

pub one_way : (k i d e : ℕ) → Steps k i d → Steps k i e → d ≡ e
one_way k i d e S T = go S.are T.are
  where
    go : (k + d ≡ i) ⊎ (k + d ≡ i + 8) → (k + e ≡ i) ⊎ (k + e ≡ i + 8) → d ≡ e
    go (inl p) (inl q) = omega arith
    go (inl p) (inr q) = absurd (omega (arith, S.few, T.few, S.from, S.to))
    go (inr p) (inl q) = absurd (omega (arith, S.few, T.few, S.from, S.to))
    go (inr p) (inr q) = omega arith

pub one_end : (o i j d : ℕ) → Steps o i d → Steps o j d → i ≡ j
one_end o i j d S T = go S.are T.are
  where
    go : (o + d ≡ i) ⊎ (o + d ≡ i + 8) → (o + d ≡ j) ⊎ (o + d ≡ j + 8) → i ≡ j
    go (inl p) (inl q) = omega arith
    go (inl p) (inr q) = absurd (omega (arith, S.to, T.to))
    go (inr p) (inl q) = absurd (omega (arith, S.to, T.to))
    go (inr p) (inr q) = omega arith

pub onward : (k j i d e : ℕ) → Steps k j d → Steps j i e → d + e < 8 → Steps k i (d + e)
onward k j i d e S T h = record { from = S.from; to = T.to; few = h; are = go S.are T.are }
  where
    go : (k + d ≡ j) ⊎ (k + d ≡ j + 8) → (j + e ≡ i) ⊎ (j + e ≡ i + 8) → (k + (d + e) ≡ i) ⊎ (k + (d + e) ≡ i + 8)
    go (inl p) (inl q) = inl (omega arith)
    go (inl p) (inr q) = inr (omega arith)
    go (inr p) (inl q) = inr (omega arith)
    go (inr p) (inr q) = absurd (omega (arith, S.from, T.to))

pub between : (o k i lo D : ℕ) → Steps o k lo → Steps o i D → lo ≤ D → Steps k i (D - lo)
between o k i lo D S T h = record { from = S.to; to = T.to; few = omega (arith, T.few); are = go S.are T.are }
  where
    go : (o + lo ≡ k) ⊎ (o + lo ≡ k + 8) → (o + D ≡ i) ⊎ (o + D ≡ i + 8) → (k + (D - lo) ≡ i) ⊎ (k + (D - lo) ≡ i + 8)
    go (inl p) (inl q) = inl (omega arith)
    go (inl p) (inr q) = inr (omega arith)
    go (inr p) (inl q) = absurd (omega (arith, T.to))
    go (inr p) (inr q) = inl (omega arith)

-- ---- one step

pub past_one : (k : ℕ) → k < 8 → Steps k (one_past k) 1
past_one k h = go (ltb k 7) refl
  where
    go : (b : Bool) → ltb k 7 ≡ b → Steps k (cond b (suc k) 0) 1
    go true e = record { from = h; to = omega (arith, ltb-true k 7 e); few = omega arith; are = inl (omega arith) }
    go false e = record { from = h; to = omega arith; few = omega arith; are = inr (omega (arith, ltb-false k 7 e)) }

-- the screen served is known from the number returned
pub served-past : (s : ℕ) → s < 8 → served_by (one_past s) ≡ s
served-past s h = go (ltb s 7) refl
  where
    go : (b : Bool) → ltb s 7 ≡ b → served_by (cond b (suc s) 0) ≡ s
    go true e = let z : suc s ≡ 0 → ⊥ = λ q. omega (arith, q) in rw (ne_eqb (suc s) 0 z) (omega arith)
    go false e = omega (arith, ltb-false s 7 e)

-- the rest of a way after its first step
rest : (k i d : ℕ) → Steps k i (suc d) → Steps (one_past k) i d
rest k i d S = subst (Steps (one_past k) i) (omega arith)
    (between k (one_past k) i 1 (suc d) (past_one k S.from) S (omega arith))

-- ---- the next running screen

pub record First (k d : ℕ) (o : Option ℕ) : Type 0 where
  pub screen : ℕ
  pub way : ℕ
  pub found : o ≡ some screen
  pub steps-to : Steps k screen way
  pub before : way ≤ d

pub next-first : (f : ℕ) (run : Running) (k i d : ℕ) → Steps k i d → d < f → run i ≡ true
    → First k d (next_running_in f run k)
unfolding next_running_in
next-first zero run k i d S h r = absurd (omega arith)
next-first (suc f) run k i d S h r = go (λ T l. next-first f run (one_past k) i (d - 1) T l r) (run k) refl
  where
    at_once : (k + d ≡ i) ⊎ (k + d ≡ i + 8) → d ≡ 0 → i ≡ k
    at_once (inl p) z = omega arith
    at_once (inr p) z = absurd (omega (arith, S.from))

    further : First (one_past k) (d - 1) (next_running_in f run (one_past k)) → (d ≡ 0 → ⊥)
        → First k d (next_running_in f run (one_past k))
    further F z = record {
      screen = F.screen;
      way = 1 + F.way;
      found = F.found;
      steps-to = onward k (one_past k) F.screen 1 F.way (past_one k S.from) F.steps-to
          (omega (arith, F.before, S.few, z));
      before = omega (arith, F.before, z);
    }

    go : (Steps (one_past k) i (d - 1) → d - 1 < f → First (one_past k) (d - 1) (next_running_in f run (one_past k)))
        → (b : Bool) → run k ≡ b → First k d (cond b (some k) (next_running_in f run (one_past k)))
    go later true e = record {
      screen = k;
      way = 0;
      found = refl;
      steps-to = at_first k
          S.from;
      before = omega arith;
    }
    go later false e = elim (ℕ_discrete d 0) [
      | yes z ↦ absurd (true-false (sym r ∙ ap run (at_once S.are z) ∙ e))
      | no z ↦ (let q : d ≡ suc (d - 1) = omega (arith, z) in
          further (later (rest k i (d - 1) (subst (Steps k i) q S)) (omega (arith, z))) z)
    ]

-- ---- lists of turns

abbrev pub Nearing : ℕ → ℕ → ℕ → List ℕ → Type 0
Nearing o lo D [] = Unit {0}
Nearing o lo D (j ∷ l) = (e : ℕ) × (lo ≤ e) × (e < D) × Steps o j e × Nearing o (suc e) D l

pub nearing-few : (o lo D : ℕ) (l : List ℕ) → lo ≤ D → Nearing o lo D l → lo + length l ≤ D
nearing-few o lo D [] h n = omega arith
nearing-few o lo D (j ∷ l) h (e, a, b, s, n) = omega (arith, nearing-few o (suc e) D l (omega arith) n)

nearing-not : (o lo D : ℕ) (l : List ℕ) (j e : ℕ) → Nearing o lo D l → Steps o j e → e < lo → holds j l ≡ false
unfolding holds
nearing-not o lo D [] j e n s h = refl
nearing-not o lo D (i ∷ l) j e (f, a, b, t, n) s h = elim (ℕ_discrete j i) [
  | yes q ↦ absurd (omega (arith, one_way o i f e t (subst (λ (m : ℕ). Steps o m e) q s)))
  | no q ↦ rw (ne_eqb j i q) (nearing-not o (suc f) D l j e n s (omega arith))
]

pub nearing-distinct : (o lo D : ℕ) (l : List ℕ) → Nearing o lo D l → distinct l ≡ true
unfolding distinct
nearing-distinct o lo D [] n = refl
nearing-distinct o lo D (j ∷ l) (e, a, b, s, n) =
    rw (nearing-not o (suc e) D l j e n s (omega arith)) (nearing-distinct o (suc e) D l n)

pub until-holds : (i n : ℕ) (l : List ℕ) → length (until i l) < n → n ≤ length l → holds i (take n l) ≡ true
unfolding until holds
until-holds i zero l h g = absurd (omega arith)
until-holds i (suc n) [] h g = absurd (omega arith)
until-holds i (suc n) (j ∷ l) h g = go (until-holds i n l) (eqb i j) refl h
  where
    go : (length (until i l) < n → n ≤ length l → holds i (take n l) ≡ true) → (b : Bool) → eqb i j ≡ b
        → length (cond b [] (j ∷ until i l)) < suc n → (b || holds i (take n l)) ≡ true
    go later true e k = refl
    go later false e k = later (omega arith) (omega arith)
