-- One move of a climb on any inputs, by what its lookups returned.
--     parent-alone, parent-lost, parent-right, parent-left   what a move to the parent makes of a state
--     step-jump, step-parent, step-stuck                     the node that the move leads to, with the state there
--     Went, step-on, step-lost                               a step that was made, and one that was not
use Prim.Native.Nat.{ℕ, ◌+◌, ◌≤◌, ◌<◌}
use mathlib.Core.Path.{◌≡◌, refl, sym, ap, ◌∙◌}
use mathlib.Core.Bool.{cond}
use mathlib.Core.Logic.{◌⊎◌, inl, inr}
use mathlib.Core.Option.{Option, none, some, some-injective}
use native.Mathlib.Nat.{le_refl}
use lib.Dec.{ltb}
use lib.ListN.{get_or}
use borrow.Author.Tests.{lt-ltb, le-ltb, eq-eqb, ne_eqb}
use Rattle.trees.specs.Climb.{Forest, Move, via_jump, to_parent, target, next_move, and_then}
use Rattle.list_laws.proofs.Choice.{le-or}
use Rattle.trees.proofs.MoveLaws.{none-some}
use Rattle.tables.specs.node_tables.Cells.{cell_forest}
use Rattle.tables.specs.declared.node_tables.moves.NextMove.TheVariants.{Jump, Parent, Stuck}
use Rattle.tables.specs.node_tables.inner.MoveAnswers.{next_move_of}
use Rattle.tables.proofs.node_tables.MoveAnswerLaws.{answer-jump, answer-parent, answer-stuck}
use Rattle.tables.specs.StateCells.{map_cell}
use Rattle.tables.specs.declared.climb.Landed.{Landed}
use Rattle.tables.specs.Climbs.{View, below, run_on, rule_on, sibling_on, parent_on, move_on}
use Rattle.tables.specs.inner.PathViews.{rules_view, states_view, nodes_view}
use Rattle.tables.specs.inner.Steps.{land_on, step_on, landed}
use Rattle.tables.proofs.LookupLaws.{below-yes, below-no}

-- ---- a move to the parent

module _ (X : View) (v p q : ℕ) (u : ℕ) (e : below X.n u ≡ sibling_on (nodes_view X.n X.node_table) v p) where
  pub parent-alone : X.n ≤ u → parent_on X v p q ≡ none
  unfolding parent_on sibling_on
  parent-alone h = rw (sym e ∙ below-no X.n u h)

  module _ (i : u < X.n) (x : ℕ) (f : below X.s x ≡ run_on (states_view X.s X.state_table) u) where
    pub parent-lost : X.s ≤ x → parent_on X v p q ≡ none
    unfolding parent_on sibling_on run_on
    parent-lost h = rw (sym e ∙ below-yes X.n u i, sym f ∙ below-no X.s x h)

    pub parent-right : x < X.s → v + 1 ≡ p
        → parent_on X v p q ≡ rule_on (rules_view X.s X.k X.inner) x (get_or X.labels p 0) q
    unfolding parent_on sibling_on run_on rule_on
    parent-right h z = rw (sym e ∙ below-yes X.n u i, sym f ∙ below-yes X.s x h, eq-eqb (v + 1) p z)

    pub parent-left : x < X.s → ¬ (v + 1 ≡ p)
        → parent_on X v p q ≡ rule_on (rules_view X.s X.k X.inner) q (get_or X.labels p 0) x
    unfolding parent_on sibling_on run_on rule_on
    parent-left h z = rw (sym e ∙ below-yes X.n u i, sym f ∙ below-yes X.s x h, ne_eqb (v + 1) p z)

-- ---- one step

abbrev place : ℕ → ℕ → Landed
place u y = record { node = u; state = y }

module _ (X : View) (v to q : ℕ) where
  abbrev forest : Forest
  forest = cell_forest X.n X.node_table

  land-answer : (m : Move) (u y : ℕ) → u ≡ target forest m → below X.s y ≡ move_on X m q
      → landed X.s (place u y) ≡ land_on X q m
  unfolding landed land_on
  land-answer m u y e h =
      le-or X.s y
      (λ l. rw (le-ltb y X.s l, sym h ∙ below-no X.s y l))
      (λ l. rw (lt-ltb y X.s l, sym h ∙ below-yes X.s y l, e))

  step-answer : (m : Move) (u y : ℕ) → next_move forest v to ≡ some m → u ≡ target forest m → below X.s y ≡ move_on X m q
      → landed X.s (place u y) ≡ step_on X v to q
  unfolding step_on
  step-answer m u y n e h = rw n (land-answer m u y e h)

  pub step-jump : (j y : ℕ) → Jump j ≡ next_move_of forest (next_move forest v to) → y ≡ map_cell X.s X.state_table v q
      → landed X.s (place j y) ≡ step_on X v to q
  unfolding move_on
  step-jump j y e h = let t = answer-jump forest v to j e in step-answer (via_jump v) j y t.0 t.1 (ap (below X.s) h)

  pub step-parent : (p y : ℕ) → Parent p ≡ next_move_of forest (next_move forest v to) → below X.s y ≡ parent_on X v p q
      → landed X.s (place p y) ≡ step_on X v to q
  unfolding move_on
  step-parent p y e h =
      let t = answer-parent forest v to p e in
      step-answer (to_parent v) p y t.0 t.1 (h ∙ ap (λ (u : ℕ). parent_on X v u q) t.1)

  pub step-stuck : Stuck ≡ next_move_of forest (next_move forest v to) → landed X.s (place v X.s) ≡ step_on X v to q
  unfolding step_on landed
  step-stuck e = rw (answer-stuck forest v to e, le-ltb X.s X.s (le_refl _))

  -- ---- a step that was made, or not

  pub record Went (x : Landed) : Type 0 where
    pub move : Move
    pub next : next_move forest v to ≡ some move
    pub made : move_on X move q ≡ some x.state
    pub node : x.node ≡ target forest move

  pub step-on : (x : Landed) → landed X.s x ≡ step_on X v to q → x.state < X.s → Went x
  unfolding step_on land_on landed
  step-on x e h = go (next_move forest v to) refl e
    where
      made_of : (m : Move) → next_move forest v to ≡ some m → (o : Option ℕ) → move_on X m q ≡ o
          → some x ≡ and_then o (λ y. some (place (target forest m) y)) → Went x
      made_of m n none a z = absurd (none-some (sym z))
      made_of m n (some y) a z =
          let i : x ≡ place (target forest m) y = some-injective x (place (target forest m) y) z in
          record {
            move = m;
            next = n;
            made = a ∙ ap some (sym (ap (λ (w : Landed). w.state) i));
            node = ap (λ (w : Landed). w.node) i;
          }

      go : (o : Option Move) → next_move forest v to ≡ o
          → cond (ltb x.state X.s) (some x) none ≡ and_then o (land_on X q)
          → Went x
      go none n z = absurd (none-some (sym (rw (lt-ltb x.state X.s h) at z)))
      go (some m) n z = made_of m n (move_on X m q) refl (rw (lt-ltb x.state X.s h) at z)

  pub step-lost : (x : Landed) → landed X.s x ≡ step_on X v to q → X.s ≤ x.state
      → (next_move forest v to ≡ none) ⊎ ((m : Move) × (next_move forest v to ≡ some m) × (move_on X m q ≡ none))
  unfolding step_on land_on landed
  step-lost x e h = go (next_move forest v to) refl (rw (le-ltb x.state X.s h) at e)
    where
      lost-of : (m : Move) → next_move forest v to ≡ some m → (o : Option ℕ) → move_on X m q ≡ o
          → none ≡ and_then o (λ y. some (place (target forest m) y))
          → (next_move forest v to ≡ none) ⊎ ((m : Move) × (next_move forest v to ≡ some m) × (move_on X m q ≡ none))
      lost-of m n none a z = inr (m, n, a)
      lost-of m n (some y) a z = absurd (none-some z)

      go : (o : Option Move) → next_move forest v to ≡ o → none ≡ and_then o (land_on X q)
          → (next_move forest v to ≡ none) ⊎ ((m : Move) × (next_move forest v to ≡ some m) × (move_on X m q ≡ none))
      go none n z = inl n
      go (some m) n z = lost-of m n (move_on X m q) refl z
