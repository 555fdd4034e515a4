-- The members of a rising list below a node: what any_below and highest_below return.
--     under-yes, under-no      the test is_in_subtree
--     none_below               where any_below says no, no member is below
--     some_below               where it says yes, highest_below is the highest member below
use Rattle.std.proofs.Common.{◌≡◌, ℕ, suc, ◌+◌, ◌≤◌, Bool, true, false, cond, ◌&&◌, ◌||◌, ltb, leb, ◌⊎◌, List, [], ◌∷◌, sym, refl, subst, inl, inr, arith, ltb-false, ltb-true, leb-false, leb-true}
use mathlib.Core.List.Memᴰ
use mathlib.Core.List.{Memᴰ}
use Rattle.trees.specs.Tree.{Tree, size}
use Rattle.trees.specs.Numbering.{sub, InSubtree, is_in_subtree}
use Rattle.trees.proofs.MoveLaws.{both}
use Rattle.questions.specs.ready.Members.{Rising}
use Rattle.questions.specs.ready.Parts.{any_below, last_below, highest_below}
use Rattle.questions.proofs.ready.HighestLaws.{Highest}

pub true-false : (b : Bool) → b ≡ true → b ≡ false → ⊥
true-false b p q = let z : ◌≡◌ {A = ℕ} 0 1 = cc in omega arith

pub rising-above : (l : List ℕ) (lo u : ℕ) → Rising lo l → Memᴰ u l → lo ≤ u
rising-above [] lo u r m = absurd (Memᴰ.not-nil m)
rising-above (x ∷ l) lo u r m = elim (Memᴰ.cases_cons m) [
  | inl e ↦ omega (arith, r.0)
  | inr k ↦ omega (arith, r.0, rising-above l (suc x) u r.1 k)
]

module _ (t : Tree) (c : ℕ) where
  pub under-yes : (v : ℕ) → is_in_subtree c (size (sub t c)) v ≡ true → InSubtree t c v
  unfolding is_in_subtree
  under-yes v e =
      let a : (leb v c ≡ true) × (ltb c (v + size (sub t c)) ≡ true) = both (leb v c) (ltb c (v + size (sub t c))) e in
      (leb-true v c a.0, ltb-true c (v + size (sub t c)) a.1)

  pub under-no : (v : ℕ) → is_in_subtree c (size (sub t c)) v ≡ false → InSubtree t c v → ⊥
  unfolding is_in_subtree
  under-no v e p = go (leb v c) (ltb c (v + size (sub t c))) refl refl e
    where
      go : (a b : Bool) → leb v c ≡ a → ltb c (v + size (sub t c)) ≡ b → (a && b) ≡ false → ⊥
      go true true x y z = true-false true refl z
      go true false x y z = omega (arith, ltb-false c (v + size (sub t c)) y)
      go false b x y z = omega (arith, leb-false v c x)

  abbrev Found : List ℕ → ℕ → ℕ → Type 0
  Found ms d h = ((h ≡ d) × ((u : ℕ) → Memᴰ u ms → InSubtree t c u → ⊥)) ⊎ Highest t (λ v. Memᴰ v ms) c h

  more-answer : (v : ℕ) (ms : List ℕ) (lo d h : ℕ) → Rising lo (v ∷ ms) → (InSubtree t c v → ⊥) → Found ms d h → Found (v ∷ ms) d h
  more-answer v ms lo d h r n (inl e) = inl (
    e.0,
    λ u m p. elim (Memᴰ.cases_cons m) [
      | inl q ↦ n (subst (λ (x : ℕ). InSubtree t c x) q p)
      | inr k ↦ e.1 u k p
    ],
  )
  more-answer v ms lo d h r n (inr H) = inr (record {
    member = Memᴰ.tail H.member;
    below = H.below;
    greatest = λ u m p. elim (Memᴰ.cases_cons m) [
      | inl q ↦ absurd (n (subst (λ (x : ℕ). InSubtree t c x) q p))
      | inr k ↦ H.greatest u k p
    ];
  })

  first-answer : (v : ℕ) (ms : List ℕ) (lo h : ℕ) → Rising lo (v ∷ ms) → InSubtree t c v → Found ms v h
      → Highest t (λ x. Memᴰ x (v ∷ ms)) c h
  first-answer v ms lo h r y (inl e) = record {
    member = Memᴰ.head e.0;
    below = subst (λ (x : ℕ). InSubtree t c x) (sym e.0) y;
    greatest = λ u m p. elim (Memᴰ.cases_cons m) [
      | inl q ↦ (let z : v ≡ h = sym e.0 in omega arith)
      | inr k ↦ absurd (e.1 u k p)
    ];
  }
  first-answer v ms lo h r y (inr H) = record {
    member = Memᴰ.tail H.member;
    below = H.below;
    greatest = λ u m p. elim (Memᴰ.cases_cons m) [
      | inl q ↦ omega (arith, rising-above ms (suc v) h r.1 H.member)
      | inr k ↦ H.greatest u k p
    ];
  }

  last-answer : (ms : List ℕ) (lo d : ℕ) → Rising lo ms → Found ms d (last_below ms t c d)
  unfolding last_below
  last-answer [] lo d r = inl (refl, λ u m p. Memᴰ.not-nil m)
  last-answer (v ∷ ms) lo d r = go (is_in_subtree c (size (sub t c)) v) refl (last-answer ms (suc v) v r.1) (last-answer ms (suc v) d r.1)
    where
      go : (b : Bool) → is_in_subtree c (size (sub t c)) v ≡ b → Found ms v (last_below ms t c v) → Found ms d (last_below ms t c d)
          → Found (v ∷ ms) d (last_below ms t c (cond b v d))
      go true e x y = inr (first-answer v ms lo (last_below ms t c v) r (under-yes v e) x)
      go false e x y = more-answer v ms lo d (last_below ms t c d) r (under-no v e) y

  pub none_below : (ms : List ℕ) → any_below ms t c ≡ false → (u : ℕ) → Memᴰ u ms → InSubtree t c u → ⊥
  unfolding any_below
  none_below [] e u m p = Memᴰ.not-nil m
  none_below (v ∷ ms) e u m p = go (is_in_subtree c (size (sub t c)) v) refl e (λ f. none_below ms f)
    where
      go : (b : Bool) → is_in_subtree c (size (sub t c)) v ≡ b → (b || any_below ms t c) ≡ false
          → (any_below ms t c ≡ false → (x : ℕ) → Memᴰ x ms → InSubtree t c x → ⊥) → ⊥
      go true q f ih = true-false true refl f
      go false q f ih = elim (Memᴰ.cases_cons m) [
        | inl z ↦ under-no v q (subst (λ (x : ℕ). InSubtree t c x) z p)
        | inr k ↦ ih f u k p
      ]

  none-answer : (ms : List ℕ) → any_below ms t c ≡ true → ((u : ℕ) → Memᴰ u ms → InSubtree t c u → ⊥) → ⊥
  unfolding any_below
  none-answer [] e n = true-false true refl (sym e)
  none-answer (v ∷ ms) e n = go (is_in_subtree c (size (sub t c)) v) refl e (λ f. none-answer ms f)
    where
      go : (b : Bool) → is_in_subtree c (size (sub t c)) v ≡ b → (b || any_below ms t c) ≡ true
          → (any_below ms t c ≡ true → ((u : ℕ) → Memᴰ u ms → InSubtree t c u → ⊥) → ⊥) → ⊥
      go true q f ih = n v (Memᴰ.head refl) (under-yes v q)
      go false q f ih = ih f (λ u m p. n u (Memᴰ.tail m) p)

  pub some_below : (ms : List ℕ) → Rising 0 ms → any_below ms t c ≡ true → Highest t (λ v. Memᴰ v ms) c (highest_below ms t c)
  some_below ms r e = go (last-answer ms 0 c r)
    where
      go : Found ms c (last_below ms t c c) → Highest t (λ v. Memᴰ v ms) c (last_below ms t c c)
      go (inl n) = absurd (none-answer ms e n.1)
      go (inr H) = H
