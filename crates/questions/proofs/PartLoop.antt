-- A part by the tests of the code.
--     side-args, join-few, fork-answer              an inner node: its searches, its two sides, its rule
--     part-leaf, part-first, part-outside, part-fork   by the root's kind and children
use Rattle.std.proofs.Common.{◌≡◌, ℕ, ◌+◌, ◌-◌, ◌<◌, ◌≤◌, List, length, get_or, sym, ap, ◌∙◌, ap₂, arith, le-ltb, lt-ltb, eq-eqb, ne_eqb, le-leb}
use mathlib.Core.Option.{Option, some}
use borrow.Author.Tests.{lt-leb}
use Rattle.trees.specs.Changes.{changed}
use Rattle.tables.specs.node_tables.Cells.{depth_cell, size_cell}
use Rattle.tables.specs.declared.answers.Climbed.{Climbed}
use Rattle.tables.specs.declared.answers.Climbed.TheVariants.{OutOfRange}
use Rattle.tables.specs.declared.answers.Reached.{Reached}
use Rattle.tables.specs.Climbs.{View, rule_on, climbed_of}
use Rattle.tables.specs.inner.PathViews.{rules_view, PathArgs}
use Rattle.tables.proofs.ClimbBounds.{Bounded}
use Rattle.questions.specs.Part.{Found, join_on, leaf_on, fork_on, part_on, found_below, label_on}
use Rattle.questions.specs.inner.Scans.{last_in, found_of, side_on}
use Rattle.questions.specs.inner.PartArgs.{path_of, leaves_view, reached_in, Few, SideArgs}
use Rattle.questions.proofs.ScanLaws.{last-bound, last-covers, found-scan}
use Rattle.questions.proofs.PartBounds.{side-bounded, inner-sides}
use Rattle.questions.proofs.PartLaws.{reached-answer}
use Rattle.questions.proofs.PartViews.{fork-same}

-- ---- an inner node

-- the place found for child c serves its side
pub side-args : (n s k : ℕ) (ls inn node_table state_table es qs : List ℕ) (c own : ℕ) → PathArgs n s k ls inn node_table state_table → c < n
    → length es ≡ length qs → own ≡ last_in c (size_cell node_table c) es → SideArgs n s k ls inn node_table state_table es qs c own
side-args n s k ls inn node_table state_table es qs c own P h e f = record {
  path = P;
  at = h;
  same = e;
  place = omega (arith, last-bound c (size_cell node_table c) es);
  inside = λ i z. omega (arith, last-covers c (size_cell node_table c) es i (sym f ∙ z));
}

-- what a side returns is a state, by few links that passed over few nodes
pub side-few : (X : View) (t c : ℕ) (f g : Option Found) (r : Climbed) → X.n ≤ 65535
    → ((v : ℕ) → depth_cell X.node_table v ≤ 65535) → r ≡ climbed_of (side_on X t c f g)
    → (x : Reached) → reached_in r ≡ some x → Few X.s x
side-few X t c f g r m d e x h =
    let b : Bounded X x = side-bounded X t c f g x (sym (ap reached_in e ∙ reached-answer (side_on X t c f g)) ∙ h) in
    record { state = b.state; links = omega (arith, b.links); passed = b.passed 65535 d }

module _ (X : View) (es qs : List ℕ) (v l a i j to : ℕ) (same : length es ≡ length qs)
    (is-to : to ≡ depth_cell X.node_table v + 1)
    (is-i : i ≡ last_in l (size_cell X.node_table l) es) (is-j : j ≡ last_in (v - 1) (size_cell X.node_table (v - 1)) es) where
  abbrev f : Option Found
  f = found_of es qs i

  abbrev g : Option Found
  g = found_of es qs j

  fork_by : fork_on X es qs v l a ≡ join_on X a (side_on X to l f g) (side_on X to (v - 1) g f)
  unfolding fork_on
  fork_by =
      let p : found_below X.node_table l es qs ≡ f = found-scan X.node_table l es qs same ∙ ap (found_of es qs) (sym is-i) in
      let q : found_below X.node_table (v - 1) es qs ≡ g = found-scan X.node_table (v - 1) es qs same
      ∙ ap (found_of es qs) (sym is-j) in
      rw (p, q, sym is-to) (inner-sides X to l (v - 1) a f g)

  pub fork-answer : (left right r : Climbed) → left ≡ climbed_of (side_on X to l f g)
      → right ≡ climbed_of (side_on X to (v - 1) g f)
      → r ≡ climbed_of (join_on (rules_view X.s X.k X.inner) a (reached_in left) (reached_in right))
      → r ≡ climbed_of (fork_on X es qs v l a)
  unfolding join_on rule_on
  fork-answer left right r p q e =
      e
      ∙ ap₂ (λ (x y : Option Reached). climbed_of (join_on X a x y))
      (ap reached_in p ∙ reached-answer (side_on X to l f g)) (ap reached_in q ∙ reached-answer (side_on X to (v - 1) g f))
      ∙ ap climbed_of (sym fork_by)

-- ---- by the root's kind and children

module _ (X : View) (es qs vs bs : List ℕ) (v a : ℕ) (is-a : a ≡ get_or (changed X.labels vs bs) v 0) where
  pub part-leaf : (r : Climbed) → get_or X.kinds v 0 ≡ 0
      → r ≡ climbed_of (leaf_on (leaves_view X.s X.k X.leaves) a)
      → r ≡ climbed_of (part_on X es qs vs bs v)
  unfolding part_on leaf_on label_on
  part-leaf r h e = rw (eq-eqb (get_or X.kinds v 0) 0 h, sym is-a) e

  module _ (h : ¬ (get_or X.kinds v 0 ≡ 0)) where
    pub part-first : v ≡ 0 → OutOfRange ≡ climbed_of (part_on X es qs vs bs v)
    unfolding part_on climbed_of
    part-first z = rw (ne_eqb (get_or X.kinds v 0) 0 h, le-ltb 0 v (omega arith))

    module _ (i : ¬ (v ≡ 0)) where
      pub part-outside : v - 1 < size_cell X.node_table (v - 1) → OutOfRange ≡ climbed_of (part_on X es qs vs bs v)
      unfolding part_on climbed_of
      part-outside l =
          rw (ne_eqb (get_or X.kinds v 0) 0 h, lt-ltb 0 v (omega arith), lt-leb (size_cell X.node_table (v - 1)) (v - 1) l)

      pub part-fork : (z : ℕ) (r : Climbed) → z ≡ size_cell X.node_table (v - 1) → z ≤ v - 1
          → r ≡ climbed_of (fork_on (path_of X) es qs v (v - 1 - z) a) → r ≡ climbed_of (part_on X es qs vs bs v)
      unfolding part_on label_on
      part-fork z r e l w =
          rw (
            ne_eqb (get_or X.kinds v 0) 0 h,
            lt-ltb 0 v (omega arith),
            le-leb (size_cell X.node_table (v - 1)) (v - 1) (omega arith),
            sym is-a,
            sym e,
          )
          (w ∙ ap climbed_of (sym (fork-same X es qs v (v - 1 - z) a)))
