-- Jumps by the two-distances rule lead to the depths that document 01's rule gives, over any parents that ascend.
--     rise-in, rise-depth, rise-add   where k parents lead
--     depth-jump_by                    a jump leads to depth jump_depth
--     jump_by-is                       to which node
--     jump_by-in                       among the nodes
--     jump_by-top, jump_by-rule         the rule as document 01 has it, without a count: what a build writes
use Prim.Native.Nat.{ℕ, zero, suc, ◌+◌, ◌-◌, ◌≤◌, ◌<◌}
use mathlib.Core.Path.{◌≡◌, refl, sym, ap, ap₂, ◌∙◌}
use mathlib.Core.Bool.{Bool, true, false, cond}
use native.Mathlib.Omega.{arith}
use native.Mathlib.Nat.{le_refl}
use native.Mathlib.Numerals.{add-one}
use lib.Dec.{eqb}
use Rattle.trees.specs.Jumps.{two_distances, jump_depth}
use Rattle.list_laws.proofs.Choice.{le-or}
use Rattle.trees.proofs.JumpDepthLaws.{jump_depth-le, jump_depth-zero, jump_depth-suc}
use Rattle.trees.specs.Ascents.{rise, jump_within, jump_by, Ascends}

module _ (n : ℕ) (up deep : ℕ → ℕ) (A : Ascends n up deep) where
  -- ---- rising

  pub rise-in : (v k : ℕ) → v < n → rise up v k < n
  unfolding rise
  rise-in v zero h = h
  rise-in v (suc k) h = A.inside (rise up v k) (rise-in v k h)

  pub rise-depth : (v k : ℕ) → v < n → k ≤ deep v → deep (rise up v k) + k ≡ deep v
  unfolding rise
  rise-depth v zero h l = omega arith
  rise-depth v (suc k) h l =
      let e : deep (rise up v k) + k ≡ deep v = rise-depth v k h (omega arith) in
      omega (arith, A.rises (rise up v k) (rise-in v k h) (omega arith))

  pub rise-add : (v k j : ℕ) → rise up (rise up v k) j ≡ rise up v (j + k)
  unfolding rise
  rise-add v k zero = let e : k ≡ 0 + k = omega arith in ap (rise up v) e
  rise-add v k (suc j) = let e : suc (j + k) ≡ suc j + k = omega arith in ap up (rise-add v k j) ∙ ap (rise up v) e

  -- ---- the node at depth jump_depth above v: what the jump turns out to be

  unfoldable leap : ℕ → ℕ
  leap v = rise up v (deep v - jump_depth (deep v))

  leap-in : (v : ℕ) → v < n → leap v < n
  unfolding leap
  leap-in v h = rise-in v _ h

  depth-leap : (v : ℕ) → v < n → deep (leap v) ≡ jump_depth (deep v)
  unfolding leap
  depth-leap v h =
      omega (arith, rise-depth v (deep v - jump_depth (deep v)) h (omega arith), jump_depth-le (deep v))

  leap-is : (v d : ℕ) → jump_depth (deep v) ≡ d → leap v ≡ rise up v (deep v - d)
  unfolding leap
  leap-is v d e = rw e

  leap-top : (v : ℕ) → deep v ≡ 0 → leap v ≡ v
  unfolding leap rise
  leap-top v e = rw (e, jump_depth-zero)

  -- the two-distances rule holds of it
  leap-rule : (v : ℕ) → v < n → 0 < deep v
      → leap v ≡ two_distances (deep (up v)) (deep (leap (up v))) (deep (leap (leap (up v)))) (leap (leap (up v))) (up v)
  unfolding rise
  leap-rule v h l =
      let p : ℕ = up v in
      let hp : p < n = A.inside v h in
      rw (depth-leap (leap p) (leap-in p hp), depth-leap p hp)
      (go p hp (sym (A.rises v h l)) refl
      (eqb (deep p - jump_depth (deep p)) (jump_depth (deep p) - jump_depth (jump_depth (deep p)))) refl)
    where
      go : (p : ℕ) → p < n → deep v ≡ deep p + 1 → up v ≡ p → (c : Bool)
          → eqb (deep p - jump_depth (deep p)) (jump_depth (deep p) - jump_depth (jump_depth (deep p))) ≡ c
          → leap v ≡ cond c (leap (leap p)) p
      go p hp e q true c =
          let m : ℕ = jump_depth (deep p) in
          let l : jump_depth (deep v) ≡ jump_depth m =
          ap jump_depth (e ∙ add-one (deep p)) ∙ jump_depth-suc (deep p) ∙ rw c in
          let far : leap p ≡ rise up v (deep p - m + 1) =
          leap-is p m refl ∙ ap (λ (u : ℕ). rise up u (deep p - m)) (sym q) ∙ rise-add v 1 (deep p - m) in
          let dj : deep (leap p) ≡ m = depth-leap p hp in
          let two : leap (leap p) ≡ rise up v (m - jump_depth m + (deep p - m + 1)) =
          leap-is (leap p) (jump_depth m) (ap jump_depth dj)
          ∙ ap₂ (λ (u k : ℕ). rise up u (k - jump_depth m)) far dj
          ∙ rise-add v (deep p - m + 1) (m - jump_depth m) in
          let s : deep v - jump_depth m ≡ m - jump_depth m + (deep p - m + 1) =
          omega (arith, jump_depth-le (deep p), jump_depth-le m) in
          leap-is v (jump_depth m) l ∙ ap (rise up v) s ∙ sym two
      go p hp e q false c =
          let l : jump_depth (deep v) ≡ deep p = ap jump_depth (e ∙ add-one (deep p)) ∙ jump_depth-suc (deep p) ∙ rw c in
          let s : deep v - deep p ≡ 1 = omega arith in
          leap-is v (deep p) l ∙ ap (rise up v) s ∙ q

  -- ---- any count that is large enough gives it

  same-choice : (c : Bool) (u : ℕ) → cond c u u ≡ u
  same-choice true u = refl
  same-choice false u = refl

  counted-more : (f : ℕ) → ((u : ℕ) → u < n → deep u ≤ f → jump_within f up deep u ≡ leap u) → (v : ℕ) → v < n
      → deep v ≤ suc f → jump_within (suc f) up deep v ≡ leap v
  unfolding jump_within
  counted-more f all v h l =
      le-or (deep v) 0
      (λ e.
      let z : deep v ≡ 0 = omega arith in
      let here : jump_within f up deep v ≡ v = all v h (omega arith) ∙ leap-top v z in
      rw (A.top v h z, here, here) (same-choice (eqb (deep v - deep v) (deep v - deep v)) v ∙ sym (leap-top v z)))
      (λ e.
      let p : ℕ = up v in
      let hp : p < n = A.inside v h in
      let d : deep p + 1 ≡ deep v = A.rises v h e in
      let one : jump_within f up deep p ≡ leap p = all p hp (omega arith) in
      let two : jump_within f up deep (leap p) ≡ leap (leap p) =
      all (leap p) (leap-in p hp) (omega (arith, depth-leap p hp, jump_depth-le (deep p))) in
      rw (one, two) (sym (leap-rule v h e)))

  counted : (f v : ℕ) → v < n → deep v ≤ f → jump_within f up deep v ≡ leap v
  unfolding jump_within
  counted zero v h l = let e : deep v ≡ 0 = omega arith in sym (leap-top v e)
  counted (suc f) v h l = counted-more f (λ u. counted f u) v h l

  jump_by-leap : (v : ℕ) → v < n → jump_by up deep v ≡ leap v
  unfolding jump_by
  jump_by-leap v h = counted (deep v) v h (le_refl _)

  -- ---- the laws of the jump

  pub jump_by-is : (v d : ℕ) → v < n → jump_depth (deep v) ≡ d → jump_by up deep v ≡ rise up v (deep v - d)
  jump_by-is v d h e = jump_by-leap v h ∙ leap-is v d e

  pub jump_by-in : (v : ℕ) → v < n → jump_by up deep v < n
  jump_by-in v h = rw (jump_by-leap v h) (leap-in v h)

  pub depth-jump_by : (v : ℕ) → v < n → deep (jump_by up deep v) ≡ jump_depth (deep v)
  depth-jump_by v h = rw (jump_by-leap v h) (depth-leap v h)

  pub jump_by-top : (v : ℕ) → v < n → deep v ≡ 0 → jump_by up deep v ≡ v
  jump_by-top v h e = jump_by-leap v h ∙ leap-top v e

  pub jump_by-rule : (v : ℕ) → v < n → 0 < deep v
      → jump_by up deep v
      ≡ two_distances (deep (up v)) (deep (jump_by up deep (up v))) (deep (jump_by up deep (jump_by up deep (up v))))
      (jump_by up deep (jump_by up deep (up v))) (up v)
  jump_by-rule v h l =
      let p : ℕ = up v in
      let hp : p < n = A.inside v h in
      let two : jump_by up deep (leap p) ≡ leap (leap p) = jump_by-leap (leap p) (leap-in p hp) in
      rw (jump_by-leap p hp, two) (jump_by-leap v h ∙ leap-rule v h l)
