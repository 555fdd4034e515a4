-- Searches in a list, by its entries.
--     covers-yes, covers-above, covers-under    whether a run covers a number
--     covers-by-distance, any-of-none           the same by one test; a run of no numbers covers none
--     last-hit, last-miss                       the last entry is covered, or the place found is that of the others
--     last-nowhere, last-cut                    no entry is covered; none of some entries at the end
--     any_step, any-end                         one entry more of the test whether any is covered; none is left
--     last-ind, last-bound, last-covers         the place found is inside the list, and its entry not above c
--     found-scan                                the last root below c is the one at the place found
--     label-scan                                the label as changed is the one at the place found
use Rattle.std.proofs.Common.{◌≡◌, ℕ, suc, ◌+◌, ◌-◌, ◌%◌, ◌^◌, ◌<◌, ◌≤◌, Bool, true, false, cond, ◌||◌, ltb, leb, List, [], ◌∷◌, ◌++◌, length, get_or, take, drop, set, sym, refl, ap, ◌∙◌, subst, add-one, arith, length-set, drop_of_length-le, length-take-le, get_or-drop, drop-cons, get_or-set_other, take-suc, get_or-set_same, drop-drop, take-add, ltb-true, le-ltb, lt-ltb, le-leb, leb-true}
use mathlib.Core.Option.{some}
use borrow.Author.Tests.{lt-leb}
use Rattle.trees.specs.Numbering.{is_in_subtree}
use Rattle.trees.specs.Changes.{changed}
use Rattle.list_laws.proofs.Choice.{by-test, le-or}
use Rattle.trees.proofs.MoveLaws.{both}
use Rattle.list_laws.proofs.BoolLaws.{true-false, or_assoc, or_no}
use Rattle.tables.specs.node_tables.Cells.{size_cell}
use Rattle.questions.specs.Part.{found, last_found, found_below}
use Rattle.questions.specs.inner.Scans.{last_from, last_in, any_in, found_of, label_of}

-- the first entry of a rest, and the rest after it
at_head : (e i : ℕ) (es l : List ℕ) → e ∷ es ≡ drop i l → e ≡ get_or l i 0
at_head e i es l a =
    let z : i + 0 ≡ i = omega arith in
    ap (λ (x : List ℕ). get_or x 0 0) a ∙ get_or-drop i l 0 0 ∙ ap (λ (j : ℕ). get_or l j 0) z

at_tail : (e i : ℕ) (es l : List ℕ) → e ∷ es ≡ drop i l → es ≡ drop (i + 1) l
at_tail e i es l a = ap (drop 1) a ∙ drop-drop 1 i l

-- ---- runs

module _ (c z e : ℕ) where
  pub covers-yes : e ≤ c → c < e + z → is_in_subtree c z e ≡ true
  unfolding is_in_subtree
  covers-yes h i = rw (le-leb e c h, lt-ltb c (e + z) i)

  pub covers-above : c < e → is_in_subtree c z e ≡ false
  unfolding is_in_subtree
  covers-above h = rw (lt-leb e c h)

  pub covers-under : e ≤ c → e + z ≤ c → is_in_subtree c z e ≡ false
  unfolding is_in_subtree
  covers-under h i = rw (le-leb e c h, le-ltb c (e + z) i)

  pub covers-is : is_in_subtree c z e ≡ true → (e ≤ c) × (c < e + z)
  unfolding is_in_subtree
  covers-is h =
      let t = both (leb e c) (ltb c (e + z)) h in
      (leb-true e c t.0, ltb-true c (e + z) t.1)

  -- by the distance w from the first number of the run, in numbers of 16 bits
  pub covers-by-distance : (w first : ℕ) → 1 ≤ z → first ≡ c + 1 - z → (w + first) % 2 ^ 16 ≡ e → w < 65536 → c < 65536
      → leb w (c - first) ≡ is_in_subtree c z e
  covers-by-distance w first o f d i j =
      le-or w (c - first)
      (λ l. le-leb w (c - first) l ∙ sym (covers-yes (omega arith) (omega arith)))
      (λ l. lt-leb w (c - first) l
      ∙ sym (le-or e c (λ k. covers-under k (omega arith)) (λ k. covers-above k)))

-- a run of no numbers
pub covers-none : (c e : ℕ) → is_in_subtree c 0 e ≡ false
covers-none c e = le-or e c (λ k. covers-under c 0 e k (omega arith)) (λ k. covers-above c 0 e k)

pub any-of-none : (c : ℕ) (es : List ℕ) → any_in c 0 es ≡ false
unfolding any_in
any-of-none c [] = refl
any-of-none c (e ∷ es) = ap (λ (b : Bool). b || any_in c 0 es) (covers-none c e) ∙ any-of-none c es

-- ---- one entry more, or fewer

module _ (c z : ℕ) where
  last-append : (xs ys : List ℕ) (i at : ℕ)
      → last_from c z (xs ++ ys) i at ≡ last_from c z ys (i + length xs) (last_from c z xs i at)
  unfolding last_from
  last-append [] ys i at =
      let e : i ≡ i + 0 = omega arith in
      ap (λ (n : ℕ). last_from c z ys n at) e
  last-append (x ∷ xs) ys i at =
      let e : i + 1 + length xs ≡ i + suc (length xs) = omega arith in
      let b = cond (is_in_subtree c z x) (i + 1) at in
      last-append xs ys (i + 1) b ∙ ap (λ (n : ℕ). last_from c z ys n (last_from c z xs (i + 1) b)) e

  -- one entry more
  pub last_snoc : (es : List ℕ) (i : ℕ) → i < length es
      → last_in c z (take (i + 1) es) ≡ cond (is_in_subtree c z (get_or es i 0)) (i + 1) (last_in c z (take i es))
  unfolding last_from
  last_snoc es i h =
      let e : 0 + length (take i es) + 1 ≡ i + 1 = omega (arith, length-take-le i es (omega arith)) in
      ap (last_in c z) (ap (λ (n : ℕ). take n es) (add-one i) ∙ take-suc es i 0 h)
      ∙ last-append (take i es) (get_or es i 0 ∷ []) 0 0
      ∙ ap (λ (n : ℕ). cond (is_in_subtree c z (get_or es i 0)) n (last_in c z (take i es))) e

  -- the last entry is in the run, or it is not
  pub last-hit : (es : List ℕ) (i : ℕ) → 0 < i → i ≤ length es → is_in_subtree c z (get_or es (i - 1) 0) ≡ true
      → i ≡ last_in c z (take i es)
  last-hit es i o h t =
      let e : i - 1 + 1 ≡ i = omega arith in
      sym (ap (λ (n : ℕ). last_in c z (take n es)) (sym e) ∙ last_snoc es (i - 1) (omega arith)
      ∙ ap (λ (b : Bool). cond b (i - 1 + 1) (last_in c z (take (i - 1) es))) t ∙ e)

  pub last-miss : (es : List ℕ) (i : ℕ) → 0 < i → i ≤ length es → is_in_subtree c z (get_or es (i - 1) 0) ≡ false
      → last_in c z (take (i - 1) es) ≡ last_in c z (take i es)
  last-miss es i o h t =
      let e : i - 1 + 1 ≡ i = omega arith in
      sym (ap (λ (n : ℕ). last_in c z (take n es)) (sym e) ∙ last_snoc es (i - 1) (omega arith)
      ∙ ap (λ (b : Bool). cond b (i - 1 + 1) (last_in c z (take (i - 1) es))) t)

  -- ---- no entry in the run

  any_none : (a b : Bool) → (a || b) ≡ false → (a ≡ false) × (b ≡ false)
  any_none true b h = absurd (true-false h)
  any_none false b h = (refl, h)

  last_none : (es : List ℕ) (i at : ℕ) → any_in c z es ≡ false → last_from c z es i at ≡ at
  unfolding last_from any_in
  last_none [] i at h = refl
  last_none (e ∷ es) i at h =
      let n = any_none (is_in_subtree c z e) (any_in c z es) h in
      last_none es (i + 1) (cond (is_in_subtree c z e) (i + 1) at) n.1 ∙ ap (λ (b : Bool). cond b (i + 1) at) n.0

  pub last-nowhere : (es : List ℕ) → any_in c z es ≡ false → 0 ≡ last_in c z es
  last-nowhere es h = sym (last_none es 0 0 h)

  -- entries at the end, none of them in the run
  pub last-cut : (es : List ℕ) (i n : ℕ) → any_in c z (take n (drop i es)) ≡ false
      → last_in c z (take i es) ≡ last_in c z (take (i + n) es)
  last-cut es i n h =
      sym (ap (last_in c z) (take-add i n es) ∙ last-append (take i es) (take n (drop i es)) 0 0
      ∙ last_none (take n (drop i es)) (0 + length (take i es)) (last_in c z (take i es)) h)

  pub any_step : (b : Bool) (es : List ℕ) (i : ℕ) → i < length es
      → (b || is_in_subtree c z (get_or es i 0) || any_in c z (drop (i + 1) es)) ≡ (b || any_in c z (drop i es))
  unfolding any_in
  any_step b es i h =
      let e : drop i es ≡ get_or es i 0 ∷ drop (i + 1) es = rw add-one (drop-cons es i 0 h) in
      or_assoc b (is_in_subtree c z (get_or es i 0)) (any_in c z (drop (i + 1) es))
      ∙ sym (ap (λ (l : List ℕ). b || any_in c z l) e)

  pub any-end : (b : Bool) (es : List ℕ) (i : ℕ) → length es ≤ i → (b || any_in c z (drop i es)) ≡ b
  unfolding any_in
  any-end b es i h = ap (λ (l : List ℕ). b || any_in c z l) (drop_of_length-le es h) ∙ or_no b

  -- ---- the place found

  last-ind : (P : ℕ → Type 0) (es : List ℕ) (i at : ℕ) → P at
      → ((j : ℕ) → j < length es → is_in_subtree c z (get_or es j 0) ≡ true → P (i + j + 1)) → P (last_from c z es i at)
  unfolding last_from
  last-ind P [] i at p f = p
  last-ind P (e ∷ es) i at p f =
      last-ind P es (i + 1) (cond (is_in_subtree c z e) (i + 1) at)
      (by-test P {x = i + 1} {y = at} (is_in_subtree c z e)
      (λ t. let q : i + 0 + 1 ≡ i + 1 = omega arith in subst P q (f 0 (omega arith) t)) (λ t. p))
      (λ j h t. let q : i + suc j + 1 ≡ i + 1 + j + 1 = omega arith in subst P q (f (suc j) (omega arith) t))

  pub last-bound : (es : List ℕ) → last_in c z es ≤ length es
  last-bound es = last-ind (λ r. r ≤ length es) es 0 0 (omega arith) (λ j h t. omega arith)

  pub last-covers : (es : List ℕ) (j : ℕ) → last_in c z es ≡ j + 1 → get_or es j 0 ≤ c
  last-covers es j e =
      last-ind (λ r. (j : ℕ) → r ≡ j + 1 → get_or es j 0 ≤ c) es 0 0
      (λ j q. absurd (omega arith))
      (λ i h t j q. let k : i ≡ j = omega arith in rw (← k) (covers-is c z (get_or es i 0) t).0)
      j e

-- ---- the last root below c

module _ (node_table : List ℕ) (c : ℕ) (E Q : List ℕ) where
  found-pick : (b : Bool) (e q i at : ℕ) → e ≡ get_or E i 0 → q ≡ get_or Q i 0
      → cond b (some (found e q)) (found_of E Q at) ≡ found_of E Q (cond b (i + 1) at)
  unfolding found_of
  found-pick true e q i at f g = rw (add-one i, f, g)
  found-pick false e q i at f g = refl

  found_from : (es qs : List ℕ) (i at : ℕ) → es ≡ drop i E → qs ≡ drop i Q → length es ≡ length qs
      → last_found node_table c es qs (found_of E Q at) ≡ found_of E Q (last_from c (size_cell node_table c) es i at)
  unfolding last_found last_from is_in_subtree found_of
  found_from [] qs i at a b l = refl
  found_from (e ∷ es) [] i at a b l = absurd (omega arith)
  found_from (e ∷ es) (q ∷ qs) i at a b l =
      ap (last_found node_table c es qs) (found-pick (is_in_subtree c (size_cell node_table c) e) e q i at (at_head e i es E a)
      (at_head q i qs Q b))
      ∙ found_from es qs (i + 1) (cond (is_in_subtree c (size_cell node_table c) e) (i + 1) at) (at_tail e i es E a)
      (at_tail q i qs Q b)
      (omega arith)

pub found-scan : (node_table : List ℕ) (c : ℕ) (es qs : List ℕ) → length es ≡ length qs
    → found_below node_table c es qs ≡ found_of es qs (last_in c (size_cell node_table c) es)
unfolding found_of
found-scan node_table c es qs l = found_from node_table c es qs es qs 0 0 refl refl l

-- ---- the label as changed

module _ (v : ℕ) (L B : List ℕ) where
  label-pick : (ls : List ℕ) (u x i at : ℕ) → v < length ls → get_or ls v 0 ≡ label_of L B v at → x ≡ get_or B i 0
      → get_or (set ls u x) v 0 ≡ label_of L B v (cond (is_in_subtree v 1 u) (i + 1) at)
  unfolding label_of
  label-pick ls u x i at h e f =
      by-test (λ (j : ℕ). get_or (set ls u x) v 0 ≡ label_of L B v j) {x = i + 1} {y = at} (is_in_subtree v 1 u)
      (λ t.
      let w : u ≡ v = omega (arith, covers-is v 1 u t) in
      rw (w, add-one i) (get_or-set_same ls v x 0 h ∙ f))
      (λ t. get_or-set_other ls u v x 0 (λ w. true-false (sym (covers-yes v 1 u (omega arith) (omega arith)) ∙ t)) ∙ e)

  label-from : (ls vs bs : List ℕ) (i at : ℕ) → v < length ls → get_or ls v 0 ≡ label_of L B v at → bs ≡ drop i B
      → length vs ≡ length bs
      → get_or (changed ls vs bs) v 0 ≡ label_of L B v (last_from v 1 vs i at)
  unfolding changed last_from
  label-from ls [] bs i at h e b l = e
  label-from ls (u ∷ vs) [] i at h e b l = absurd (omega arith)
  label-from ls (u ∷ vs) (x ∷ bs) i at h e b l =
      label-from (set ls u x) vs bs (i + 1) (cond (is_in_subtree v 1 u) (i + 1) at) (simp length-set h)
      (label-pick ls u x i at h e (at_head x i bs B b)) (at_tail x i bs B b) (omega arith)

pub label-scan : (v : ℕ) (ls vs bs : List ℕ) → v < length ls → length vs ≡ length bs
    → get_or (changed ls vs bs) v 0 ≡ label_of ls bs v (last_in v 1 vs)
unfolding label_of
label-scan v ls vs bs h l = label-from v ls bs ls vs bs 0 0 h refl refl l
