-- A climb reads only some of the inputs: the parts of a question on these alone are those on all.
--     climb-same, side_same, fork-same    on labels, inner states and tables alone
use Rattle.std.proofs.Common.{◌≡◌, ℕ, ◌+◌, ◌-◌, List, [], ◌∷◌, length, sym, refl, ap, ◌∙◌, ap₂}
use mathlib.Core.Option.{Option, none, some}
use Rattle.trees.specs.Climb.{Move, via_jump, to_parent, and_then, climb, carry}
use Rattle.trees.specs.Passed.{passed_by}
use Rattle.tables.specs.node_tables.Cells.{depth_cell, cell_forest}
use Rattle.tables.specs.Climbs.{View, below, run_on, rule_on, sibling_on}
use Rattle.tables.specs.declared.answers.Reached.{Reached}
use Rattle.tables.specs.Climbs.{parent_on, move_on, reached, climb_on}
use Rattle.questions.specs.Part.{Found, climb_from, run_reached, own_reached, join_on, fork_on, found_below}
use Rattle.questions.specs.inner.Scans.{side_on}
use Rattle.questions.specs.inner.PartArgs.{path_of}
use Rattle.questions.proofs.PartBounds.{inner-sides}

module _ (X : View) where
  move_same : (m : Move) (q : ℕ) → move_on X m q ≡ move_on (path_of X) m q
  unfolding move_on parent_on sibling_on run_on rule_on
  move_same (via_jump v) q = refl
  move_same (to_parent v) q = refl

  carry_same : (ms : List Move) (q : ℕ) → carry (move_on X) ms q ≡ carry (move_on (path_of X)) ms q
  carry_same [] q = refl
  carry_same (m ∷ ms) q = rw (move_same m q) (go (move_on (path_of X) m q) (λ x. carry_same ms x))
    where
      go : (o : Option ℕ) → ((x : ℕ) → carry (move_on X) ms x ≡ carry (move_on (path_of X)) ms x)
          → and_then o (carry (move_on X) ms) ≡ and_then o (carry (move_on (path_of X)) ms)
      go none h = refl
      go (some x) h = h x

  pub climb-same : (h t q : ℕ) → climb_on X h t q ≡ climb_on (path_of X) h t q
  unfolding climb_on
  climb-same h t q = go (climb (cell_forest X.n X.node_table) h t)
    where
      go : (o : Option (List Move))
          → and_then o (λ ms.
          and_then (carry (move_on X) ms q) (λ x. some (reached x (length ms) (passed_by (cell_forest X.n X.node_table) h ms))))
          ≡ and_then o (λ ms.
          and_then (carry (move_on (path_of X)) ms q) (λ x.
          some (reached x (length ms) (passed_by (cell_forest X.n X.node_table) h ms))))
      go none = refl
      go (some ms) =
          ap (λ (o : Option ℕ).
          and_then o (λ x. some (reached x (length ms) (passed_by (cell_forest X.n X.node_table) h ms)))) (carry_same ms q)

  from-same : (t : ℕ) (f : Found) → climb_from X t f ≡ climb_from (path_of X) t f
  unfolding climb_from
  from-same t f = go (below X.s f.state)
    where
      go : (o : Option ℕ) → and_then o (λ q. climb_on X f.node t q) ≡ and_then o (λ q. climb_on (path_of X) f.node t q)
      go none = refl
      go (some q) = climb-same f.node t q

  pub side_same : (t c : ℕ) (f g : Option Found) → side_on X t c f g ≡ side_on (path_of X) t c f g
  unfolding side_on run_reached own_reached run_on
  side_same t c none g = refl
  side_same t c (some f) none = from-same t f
  side_same t c (some f) (some g) = refl

  join-same : (a : ℕ) (x y : Option Reached) → join_on X a x y ≡ join_on (path_of X) a x y
  unfolding join_on rule_on
  join-same a x y = refl

  pub fork-same : (es qs : List ℕ) (v l a : ℕ) → fork_on X es qs v l a ≡ fork_on (path_of X) es qs v l a
  unfolding fork_on
  fork-same es qs v l a =
      let t : ℕ = depth_cell X.node_table v + 1 in
      let f : Option Found = found_below X.node_table l es qs in
      let g : Option Found = found_below X.node_table (v - 1) es qs in
      inner-sides X t l (v - 1) a f g
      ∙ ap₂ (join_on X a) (side_same t l f g) (side_same t (v - 1) g f)
      ∙ join-same a (side_on (path_of X) t l f g) (side_on (path_of X) t (v - 1) g f)
      ∙ sym (inner-sides (path_of X) t l (v - 1) a f g)
