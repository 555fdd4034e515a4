-- The ready set grows with W (document 02, S-5).
--     member-mono     a node that is a member for W is one for every larger set
--     ready-mono      so no larger set has a shorter list
--     roots-mono      the same of lists
--     roots-same      the roots depend only on which nodes are listed
-- Nothing is said of links: they may go either way.
use Rattle.std.proofs.Common.{◌≡◌, ℕ, zero, suc, ◌+◌, ◌-◌, ◌≤◌, Bool, true, false, cond, ◌&&◌, ◌||◌, eqb, List, [], ◌∷◌, length, sym, refl, ap, inl, inr, arith, length-append}
use mathlib.Core.Path.{fun_ext}
use Rattle.trees.specs.Tree.{Tree, size, kind_at}
use Rattle.trees.specs.Numbering.{sub, parent}
use Rattle.list_laws.specs.Tests.{holds}
use Rattle.list_laws.proofs.BoolLaws.{true-false, and_both, and_left, and_right, or_cases, or-first, or-second}
use Rattle.questions.specs.ready.Ready.{left_child, right_child}
use Rattle.questions.specs.ready.Members.{some_within, some_below, forks_at, has_member, keep, ready_list, roots}

or_mono : (a b c d : Bool) → (a ≡ true → c ≡ true) → (b ≡ true → d ≡ true) → (a || b) ≡ true → (c || d) ≡ true
or_mono a b c d f g e = elim (or_cases a b e) [ inl h ↦ or-first c d (f h) | inr h ↦ or-second c d (g h) ]

and_mono : (a b c d : Bool) → (a ≡ true → c ≡ true) → (b ≡ true → d ≡ true) → (a && b) ≡ true → (c && d) ≡ true
and_mono a b c d f g e = and_both c d (f (and_left a b e)) (g (and_right a b e))

-- ---- the tests

module _ (w u : ℕ → Bool) (more : (v : ℕ) → w v ≡ true → u v ≡ true) where
  some_mono : (n lo : ℕ) → some_within w lo n ≡ true → some_within u lo n ≡ true
  unfolding some_within
  some_mono zero lo e = e
  some_mono (suc n) lo e =
      or_mono (w lo) (some_within w (suc lo) n) (u lo) (some_within u (suc lo) n) (more lo) (some_mono n (suc lo)) e

  forks-mono : (t : Tree) (v : ℕ) → forks_at w t v ≡ true → forks_at u t v ≡ true
  unfolding forks_at some_below
  forks-mono t v e =
      and_mono (eqb (kind_at t v) 1) (some_below w t (left_child t v) && some_below w t (right_child v)) (eqb (kind_at t v) 1)
      (some_below u t (left_child t v) && some_below u t (right_child v)) (λ h. h)
      (and_mono (some_below w t (left_child t v)) (some_below w t (right_child v)) (some_below u t (left_child t v))
      (some_below u t (right_child v))
      (some_mono (size (sub t (left_child t v))) (left_child t v + 1 - size (sub t (left_child t v))))
      (some_mono (size (sub t (right_child v))) (right_child v + 1 - size (sub t (right_child v))))) e

  pub member-mono : (t : Tree) (v : ℕ) → has_member w t v ≡ true → has_member u t v ≡ true
  unfolding has_member
  member-mono t v e =
      or_mono (w v) _ (u v) _ (more v)
      (or_mono (eqb (v + 1) (size t)) _ (eqb (v + 1) (size t)) _ (λ h. h)
      (or_mono (forks_at w t v) (forks_at w t (parent t v)) (forks_at u t v) (forks_at u t (parent t v))
      (forks-mono t v) (forks-mono t (parent t v)))) e

-- ---- the lists

keep-mono : (p q : ℕ → Bool) → ((v : ℕ) → p v ≡ true → q v ≡ true) → (n : ℕ) → length (keep p n) ≤ length (keep q n)
unfolding keep
keep-mono p q f zero = omega arith
keep-mono p q f (suc n) =
    omega (
      arith,
      keep-mono p q f n,
      length-append (keep p n) (cond (p n) (n ∷ []) []),
      length-append (keep q n) (cond (q n) (n ∷ []) []),
      one (p n) (q n) (f n),
    )
  where
    one : (a b : Bool) → (a ≡ true → b ≡ true) → length (cond a (n ∷ []) []) ≤ length (cond b (n ∷ []) [])
    one true true g = omega arith
    one true false g = absurd (true-false (sym (g refl)))
    one false b g = omega arith

-- "parts and advances needed never rise"
pub ready-mono : (w u : ℕ → Bool) (t : Tree) → ((v : ℕ) → w v ≡ true → u v ≡ true)
    → length (ready_list w t) ≤ length (ready_list u t)
unfolding ready_list
ready-mono w u t f = keep-mono (has_member w t) (has_member u t) (member-mono w u f t) (size t)

pub roots-mono : (t : Tree) (vs us : List ℕ) → ((v : ℕ) → holds v vs ≡ true → holds v us ≡ true)
    → length (roots t vs) ≤ length (roots t us)
unfolding roots
roots-mono t vs us f = ready-mono (λ v. holds v vs) (λ v. holds v us) t f

pub roots-same : (t : Tree) (vs us : List ℕ) → ((v : ℕ) → holds v vs ≡ holds v us) → roots t vs ≡ roots t us
unfolding roots
roots-same t vs us f = ap (λ (w : ℕ → Bool). ready_list w t) (fun_ext f)
