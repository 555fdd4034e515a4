-- One move, in any forest.
--     chosen                  the link that the rule names: the jump unless it leads above the target depth, else
--                             the parent
--     Accepted, accepted      what an accepted move is: the named link, which stays inside the forest and rises
--     next-inside, next-rises, next-starts, next_start   the same, fact by fact
--     next-jump, next-parent  when the jump is taken, and when the parent
--     next-outside, next-jump-flat, next-parent-outside, next-parent-flat   when there is no move
--     none-some, cond-some, both   what a result and a test of two say, for all who read such
use Prim.Native.Nat.{ℕ, ◌≤◌, ◌<◌}
use mathlib.Core.Path.{◌≡◌, refl, sym, ap, subst}
use mathlib.Core.Bool.{Bool, true, false, cond, ◌&&◌}
use mathlib.Core.Logic.{◌⊎◌, inl, inr}
use mathlib.Core.Option.{Option, none, some, some-injective}
use native.Mathlib.Omega.{arith}
use lib.Dec.{leb, ltb}
use borrow.Author.Tests.{ltb-true, lt-ltb, le-ltb, le-leb, lt-leb}
use Rattle.trees.specs.Climb.{Forest, Move, via_jump, to_parent, target, rising, next_move}
use Rattle.list_laws.proofs.Choice.{by_le}

pub none-some : {X : Type 0} {x : X} → none ≡ some x → ⊥
none-some h = let z : ◌≡◌ {A = ℕ} 0 1 = cc in omega arith

pub cond-some : {X : Type 0} {x : X} (b : Bool) (o : Option X) → cond b o none ≡ some x → (b ≡ true) × (o ≡ some x)
cond-some true o h = (refl, h)
cond-some false o h = absurd (none-some h)

pub both : (a b : Bool) → (a && b) ≡ true → (a ≡ true) × (b ≡ true)
both true b h = (refl, h)
both false b h = let z : ◌≡◌ {A = ℕ} 0 1 = cc in absurd (omega arith)

not-inside : {X : Type 0} (a b c : Bool) (x : X) → b ≡ false → cond a (cond (b && c) (some x) none) none ≡ none
not-inside true true c x h = absurd (let z : ◌≡◌ {A = ℕ} 0 1 = cc in omega arith)
not-inside true false c x h = refl
not-inside false b c x h = refl

not-rising : {X : Type 0} (a b c : Bool) (x : X) → c ≡ false → cond a (cond (b && c) (some x) none) none ≡ none
not-rising true true c x h = rw h
not-rising true false c x h = refl
not-rising false b c x h = refl

abbrev pub chosen : Forest → ℕ → ℕ → Move
chosen F v t = cond (leb t (F.depth (F.jump v))) (via_jump v) (to_parent v)

-- the node that a move starts at
abbrev pub start : Move → ℕ
start (via_jump v) = v
start (to_parent v) = v

module _ (F : Forest) (v t : ℕ) where
  -- ---- what an accepted move is

  pub record Accepted (m : Move) : Type 0 where
    pub jump_inside : F.jump v < F.nodes
    pub is-chosen : m ≡ chosen F v t
    pub inside : target F m < F.nodes
    pub rises : F.depth (target F m) < F.depth v

  pub accepted : (m : Move) → next_move F v t ≡ some m → Accepted m
  unfolding next_move
  accepted m h =
      let c : Move = chosen F v t in
      let one = cond-some (ltb (F.jump v) F.nodes) (rising F v (chosen F v t)) h in
      let two = cond-some (ltb (target F c) F.nodes && ltb (F.depth (target F c)) (F.depth v)) (some c) one.1 in
      let e : c ≡ m = some-injective c m two.1 in
      let three = both (ltb (target F c) F.nodes) (ltb (F.depth (target F c)) (F.depth v)) two.0 in
      record {
        jump_inside = ltb-true (F.jump v) F.nodes one.0;
        is-chosen = sym e;
        inside = subst (λ (x : Move). target F x < F.nodes) e (ltb-true (target F c) F.nodes three.0);
        rises = subst (λ (x : Move). F.depth (target F x) < F.depth v) e
            (ltb-true (F.depth (target F c)) (F.depth v) three.1);
      }

  pub next-inside : (m : Move) → next_move F v t ≡ some m → target F m < F.nodes
  next-inside m h = (accepted m h).inside

  pub next-rises : (m : Move) → next_move F v t ≡ some m → F.depth (target F m) < F.depth v
  next-rises m h = (accepted m h).rises

  pub next-starts : (m : Move) → next_move F v t ≡ some m → (m ≡ via_jump v) ⊎ (m ≡ to_parent v)
  next-starts m h =
      by_le (λ (c : Move). m ≡ c → (m ≡ via_jump v) ⊎ (m ≡ to_parent v)) t (F.depth (F.jump v))
      (λ _ e. inl e) (λ _ e. inr e) (accepted m h).is-chosen

  pub next_start : (m : Move) → next_move F v t ≡ some m → start m ≡ v
  next_start m h = elim (next-starts m h) [ inl e ↦ ap start e | inr e ↦ ap start e ]

  -- ---- when the jump is taken, and when the parent

  pub next-jump : F.jump v < F.nodes → t ≤ F.depth (F.jump v) → F.depth (F.jump v) < F.depth v
      → next_move F v t ≡ some (via_jump v)
  unfolding next_move
  next-jump i l r =
      let a : ltb (F.jump v) F.nodes ≡ true = lt-ltb (F.jump v) F.nodes i in
      rw (a, le-leb t (F.depth (F.jump v)) l, a, lt-ltb (F.depth (F.jump v)) (F.depth v) r)

  pub next-parent : F.jump v < F.nodes → F.depth (F.jump v) < t → F.parent v < F.nodes
      → F.depth (F.parent v) < F.depth v → next_move F v t ≡ some (to_parent v)
  unfolding next_move
  next-parent i l p r =
      let a : ltb (F.jump v) F.nodes ≡ true = lt-ltb (F.jump v) F.nodes i in
      let b : ltb (F.parent v) F.nodes ≡ true = lt-ltb (F.parent v) F.nodes p in
      rw (a, lt-leb t (F.depth (F.jump v)) l, b, lt-ltb (F.depth (F.parent v)) (F.depth v) r)

  -- ---- when there is no move

  pub next-outside : F.nodes ≤ F.jump v → next_move F v t ≡ none
  unfolding next_move
  next-outside i = rw (le-ltb (F.jump v) F.nodes i)

  pub next-jump-flat : t ≤ F.depth (F.jump v) → F.depth v ≤ F.depth (F.jump v) → next_move F v t ≡ none
  unfolding next_move
  next-jump-flat l r =
      rw (le-leb t (F.depth (F.jump v)) l)
      (not-rising (ltb (F.jump v) F.nodes) (ltb (F.jump v) F.nodes) (ltb (F.depth (F.jump v)) (F.depth v))
      (via_jump v) (le-ltb (F.depth (F.jump v)) (F.depth v) r))

  pub next-parent-outside : F.depth (F.jump v) < t → F.nodes ≤ F.parent v → next_move F v t ≡ none
  unfolding next_move
  next-parent-outside l p =
      rw (lt-leb t (F.depth (F.jump v)) l)
      (not-inside (ltb (F.jump v) F.nodes) (ltb (F.parent v) F.nodes)
      (ltb (F.depth (F.parent v)) (F.depth v)) (to_parent v) (le-ltb (F.parent v) F.nodes p))

  pub next-parent-flat : F.depth (F.jump v) < t → F.depth v ≤ F.depth (F.parent v) → next_move F v t ≡ none
  unfolding next_move
  next-parent-flat l r =
      rw (lt-leb t (F.depth (F.jump v)) l)
      (not-rising (ltb (F.jump v) F.nodes) (ltb (F.parent v) F.nodes)
      (ltb (F.depth (F.parent v)) (F.depth v)) (to_parent v) (le-ltb (F.depth (F.parent v)) (F.depth v) r))
