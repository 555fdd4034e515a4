-- Where 18 is returned: a value leads outside the plan, the states or the labels, or a climb does not rise.
--     part_none, parts_none    a part, and all of them
--     states-none              a leaf or inner state of the rules
--     count_none               the whole count
use Prim.Native.Nat.{ℕ, zero, suc, ◌+◌, ◌-◌, ◌*◌, ◌≤◌, ◌<◌}
use mathlib.Core.Path.{◌≡◌, refl, sym, ap, ◌∙◌, subst}
use mathlib.Core.Bool.{Bool, true, false, cond, ◌&&◌}
use mathlib.Core.List.{List, [], ◌∷◌, ◌++◌}
use mathlib.Core.Option.{Option, none, some}
use native.Mathlib.Omega.{arith}
use lib.Dec.{leb, eqb}
use lib.ListN.{length, get_or}
use borrow.Author.Tests.{ltb-false, leb-false, eqb-false}
use Rattle.list_laws.specs.Tests.{all_below}
use Rattle.list_laws.proofs.BoolLaws.{true-false}
use Rattle.list_laws.proofs.TestLaws.{all_below-not}
use Rattle.list_laws.proofs.RowLaws.{Cell, cell-split}
use Rattle.tables.specs.node_tables.Cells.{depth_cell, size_cell}
use Rattle.tables.specs.StateCells.{state_cell}
use Rattle.tables.specs.declared.answers.Reached.{Reached}
use Rattle.tables.specs.Climbs.{View, climb_on}
use Rattle.questions.specs.RootsAnswers.{roots_fit}
use Rattle.questions.specs.OutOfRange.{PartOutOfRange, links, children, run, leaf, rule, label}
use Rattle.questions.proofs.ScanLaws.{last-covers}
use Rattle.questions.proofs.FitLaws.{Fit, fit-facts, given_yes, given-are}
use Rattle.questions.proofs.PlaceLaws.{to_below, below-entry}
use Rattle.questions.proofs.RootsRange.{fork-test, roots-out-of-range}
use Rattle.questions.proofs.PartRange.{climb-none}
use Rattle.choices.specs.part_steps.Carry.{is_reached, all_arrive}
use Rattle.choices.specs.part_steps.Side.{side_ok}
use Rattle.choices.specs.part_steps.Fork.{fork_ok}
use Rattle.choices.specs.question_counts.PartOn.{end_label, left_on, children_on, place_on, part_ok_on}
use Rattle.choices.specs.question_counts.PartsOn.{parts_ok}
use Rattle.choices.specs.question_counts.CountOn.{open_in, roots_in, states_inside, all_ok, is_countable}

module _ (X : View) where
  abbrev Lost : Type 0
  Lost = PartOutOfRange X [] [] []

  -- ---- a climb from every state

  arrive_none : (h t m : ℕ) → h < X.n → m ≤ X.s → all_arrive X h t m ≡ false → Lost
  unfolding all_arrive
  arrive_none h t zero hh hm e = absurd (true-false e)
  arrive_none h t (suc m) hh hm e =
      go (all_arrive X h t m) refl (climb_on X h t m) refl e (λ q. arrive_none h t m hh (omega arith) q)
    where
      go : (b : Bool) → all_arrive X h t m ≡ b → (o : Option Reached) → climb_on X h t m ≡ o → (b && is_reached o) ≡ false
          → (all_arrive X h t m ≡ false → Lost) → Lost
      go false p o q i f = f p
      go true p none q i f = climb-none X [] [] [] h t m hh (omega arith) q
      go true p (some x) q i f = absurd (true-false i)

  -- ---- at a child

  side-none : (es : List ℕ) (t c i j : ℕ) → c < X.n → ((a : ℕ) → i ≡ a + 1 → get_or es a 0 < X.n)
      → side_ok X es t c i j ≡ false → Lost
  unfolding side_ok
  side-none es t c zero j h f e = run c h (ltb-false (state_cell X.s X.state_table c) X.s e)
  side-none es t c (suc i) zero h f e =
      arrive_none (get_or es i 0) t X.s (f i (omega arith)) (omega arith) e
  side-none es t c (suc i) (suc j) h f e = absurd (true-false e)

  found_in : (es : List ℕ) (c : ℕ) → c < X.n → (a : ℕ) → place_on X es c ≡ a + 1 → get_or es a 0 < X.n
  found_in es c h a e = omega (arith, last-covers c (size_cell X.node_table c) es a e)

  fork-none : (es : List ℕ) (t l v : ℕ) → l < X.n → v < X.n
      → fork_ok X es t l v (place_on X es l) (place_on X es v) ≡ false → Lost
  unfolding fork_ok
  fork-none es t l v hl hv =
      go (side_ok X es t l (place_on X es l) (place_on X es v)) refl
      (side_ok X es t v (place_on X es v) (place_on X es l)) refl
    where
      go : (a : Bool) → side_ok X es t l (place_on X es l) (place_on X es v) ≡ a
          → (b : Bool) → side_ok X es t v (place_on X es v) (place_on X es l) ≡ b → (a && b) ≡ false → Lost
      go false p b q e = side-none es t l (place_on X es l) (place_on X es v) hl (found_in es l hl) p
      go true p false q e = side-none es t v (place_on X es v) (place_on X es l) hv (found_in es v hv) q
      go true p true q e = absurd (true-false e)

  -- ---- a part

  label-none : (w : ℕ → Bool) (v : ℕ) → v < X.n → leb (end_label X w v) X.k ≡ false → Lost
  unfolding end_label
  label-none w v h = go (w v)
    where
      go : (b : Bool) → leb (cond b X.k (get_or X.labels v 0 + 1)) X.k ≡ false → Lost
      go true e = absurd (let z = leb-false X.k X.k e in omega arith)
      go false e = label v h (let z = leb-false (get_or X.labels v 0 + 1) X.k e in omega arith)

  pub part_none : (w : ℕ → Bool) (es : List ℕ) (v : ℕ) → v < X.n → part_ok_on X w es v ≡ false → Lost
  unfolding part_ok_on
  part_none w es v h =
      go (leb (end_label X w v) X.k) refl (eqb (get_or X.kinds v 0) 0) refl (children_on X v) refl
      (fork_ok X es t (left_on X v) (v - 1) (place_on X es (left_on X v)) (place_on X es (v - 1))) refl
    where
      t : ℕ
      t = depth_cell X.node_table v + 1

      go : (a : Bool) → leb (end_label X w v) X.k ≡ a → (b : Bool) → eqb (get_or X.kinds v 0) 0 ≡ b
          → (c : Bool) → children_on X v ≡ c → (d : Bool)
          → fork_ok X es t (left_on X v) (v - 1) (place_on X es (left_on X v)) (place_on X es (v - 1)) ≡ d
          → (a && cond b true (c && d)) ≡ false → Lost
      go false p b q c r d s e = label-none w v h p
      go true p true q c r d s e = absurd (true-false e)
      go true p false q false r d s e =
          children v h (eqb-false (get_or X.kinds v 0) 0 q) (fork-test X.node_table v r)
      go true p false q true r false s e = fork-none es t (left_on X v) (v - 1) (omega arith) (omega arith) s
      go true p false q true r true s e = absurd (true-false e)

  pub parts_none : (w : ℕ → Bool) (ms es : List ℕ) → ((i : ℕ) → i < length ms → get_or ms i 0 < X.n)
      → parts_ok X w es ms ≡ false → Lost
  unfolding parts_ok
  parts_none w [] es f e = absurd (true-false e)
  parts_none w (v ∷ ms) es f e =
      go (part_ok_on X w es v) refl e
      (λ q. parts_none w ms (es ++ (v ∷ [])) (λ i h. f (suc i) (omega arith)) q)
    where
      go : (b : Bool) → part_ok_on X w es v ≡ b → (b && parts_ok X w (es ++ (v ∷ [])) ms) ≡ false
          → (parts_ok X w (es ++ (v ∷ [])) ms ≡ false → Lost) → Lost
      go false p i g = part_none w es v (f 0 (omega arith)) p
      go true p i g = g i

  -- ---- the rules

  rule-at : (j : ℕ) → j < X.s * X.k * X.s → X.s ≤ get_or X.inner j 0 → Lost
  rule-at j h e =
      let c : Cell X.s (X.s * X.k) j = cell-split X.s (X.s * X.k) j h in
      let d : Cell X.k X.s c.row = cell-split X.k X.s c.row c.row_in in
      let z : j ≡ (d.row * X.k + d.column) * X.s + c.column =
      c.is ∙ ap (λ (i : ℕ). i * X.s + c.column) d.is in
      rule d.row d.column c.column d.row_in d.column-in c.column-in
      (subst (λ (i : ℕ). X.s ≤ get_or X.inner i 0) z e)

  module _ (lv : length X.leaves ≤ X.k) (inn : length X.inner ≤ X.s * X.k * X.s) where
    pub states-none : states_inside X ≡ false → Lost
    unfolding states_inside
    states-none = go (all_below X.s X.leaves) refl (all_below X.s X.inner) refl
      where
        go : (a : Bool) → all_below X.s X.leaves ≡ a → (b : Bool) → all_below X.s X.inner ≡ b
            → (a && b) ≡ false → Lost
        go false p b q e =
            let x = all_below-not X.s X.leaves p in
            leaf x.0 (omega (arith, x.1)) x.2
        go true p false q e =
            let x = all_below-not X.s X.inner q in
            rule-at x.0 (omega (arith, x.1)) x.2
        go true p true q e = absurd (true-false e)

    pub count_none : (vs : List ℕ) → roots_fit X.n (length X.node_table) vs ≡ true → is_countable X vs ≡ false → Lost
    unfolding is_countable
    count_none vs f = go (states_inside X) refl (roots_in X vs) refl
      where
        F : Fit X.n (length X.node_table) vs
        F = fit-facts X.n (length X.node_table) vs f

        go : (a : Bool) → states_inside X ≡ a → (o : Option (List ℕ)) → roots_in X vs ≡ o → (a && all_ok X vs o) ≡ false
            → Lost
        go false p o q e = states-none p
        go true p none q e =
            links (roots-out-of-range X.n X.node_table vs F.least F.below
            (sym (given_yes X.n X.node_table vs f) ∙ q))
        go true p (some ms) q e =
            let R = given-are X.n X.node_table vs ms q in
            parts_none (open_in vs) ms []
            (λ i h. omega (arith, below-entry (X.n - 1 + 1) ms (to_below (X.n - 1) ms R.to) i h, F.least)) e
