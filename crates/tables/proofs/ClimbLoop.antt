-- The iterations of the loop that climbs with a state.
--     counted_move                        a move on a state that counts its links, and what they pass over from a start
--     climb-carried                      the climb is what its counted moves make of the state
--     Climbing                           the loop's state: that of the moves so far, and the same answer from here
--     climbing-start, climbing-iteration      before the first move, and after one more
--     climbing-done, climbing-lost       the answer where the climb has arrived, and where a move was not made
use Prim.Native.Nat.{ℕ, ◌+◌, ◌-◌, ◌≤◌, ◌<◌}
use mathlib.Core.Path.{◌≡◌, refl, sym, ap, ◌∙◌}
use mathlib.Core.Logic.{inl, inr}
use mathlib.Core.Option.{Option, none, some}
use native.Mathlib.Omega.{arith}
use Rattle.trees.specs.Climb.{Forest, Move, target, and_then}
use Rattle.trees.proofs.MoveLaws.{next-inside, next-rises}
use Rattle.trees.proofs.CarryLaws.{carried, carried-done, carried-move, carried-lost, carried-stuck}
use Rattle.trees.proofs.PassedLaws.{ended-climb}
use Rattle.tables.specs.node_tables.Cells.{cell_forest}
use Rattle.tables.specs.declared.answers.Climbed.TheVariants.{Reached as To, OutOfRange}
use Rattle.tables.specs.declared.climb.Landed.{Landed}
use Rattle.tables.specs.declared.answers.Reached.{Reached}
use Rattle.tables.specs.Climbs.{View, move_on, reached, climb_on, climbed_of}
use Rattle.tables.specs.inner.Steps.{step_on, landed}
use Rattle.tables.proofs.StepLaws.{Went, step-on, step-lost}

-- ---- moves that count

abbrev pub counted_move : Forest → ℕ → (Move → ℕ → Option ℕ) → Move → Reached → Option Reached
counted_move F from act m x =
    and_then (act m x.state) (λ y. some (reached y (x.links + 1) (F.depth from - F.depth (target F m))))

-- ---- the loop

module _ (X : View) (from to q₀ : ℕ) where
  abbrev forest : Forest
  forest = cell_forest X.n X.node_table

  abbrev act : Move → Reached → Option Reached
  act = counted_move forest from (move_on X)

  -- state q after c moves that led to node v
  abbrev told : ℕ → ℕ → ℕ → Reached
  told q c v = reached q c (forest.depth from - forest.depth v)

  -- the answer from node v on, with the state and the links of the moves before
  abbrev onward : ℕ → ℕ → ℕ → Option Reached
  onward v q c = carried forest act v to (told q c v)

  pub climb-carried : climb_on X from to q₀ ≡ onward from q₀ 0
  unfolding climb_on
  climb-carried = ended-climb forest told (move_on X) act (λ m x c v. refl) from to q₀

  pub record Climbing (v q c : ℕ) : Type 0 where
    pub inside : v < X.n
    pub state : q < X.s
    pub few : c + forest.depth v ≤ forest.depth from
    pub same : onward v q c ≡ climb_on X from to q₀

  pub climbing-start : from < X.n → q₀ < X.s → Climbing from q₀ 0
  climbing-start h i = record { inside = h; state = i; few = omega arith; same = sym climb-carried }

  module _ (v q c : ℕ) (C : Climbing v q c) where
    pub climbing-done : forest.depth v ≤ to → (d : ℕ) → d ≡ forest.depth from - forest.depth v
        → To (reached q c d) ≡ climbed_of (climb_on X from to q₀)
    unfolding climbed_of
    climbing-done h d e =
        ap (λ (p : ℕ). To (reached q c p)) e ∙ ap climbed_of (sym (carried-done forest act v to (told q c v) h) ∙ C.same)

    module _ (deeper : to < forest.depth v) (x : Landed) (e : landed X.s x ≡ step_on X v to q) where
      pub climbing-rises : x.state < X.s → forest.depth x.node < forest.depth v
      climbing-rises h =
          let w : Went X v to q x = step-on X v to q x e h in
          rw w.node (next-rises forest v to w.move w.next)

      pub climbing-iteration : x.state < X.s → Climbing x.node x.state (c + 1)
      climbing-iteration h =
          let w : Went X v to q x = step-on X v to q x e h in
          let step : act w.move (told q c v) ≡ some (told x.state (c + 1) (target forest w.move)) =
          ap (λ (o : Option ℕ). and_then o (λ y. some (told y (c + 1) (target forest w.move)))) w.made in
          record {
            inside = rw w.node (next-inside forest v to w.move w.next);
            state = h;
            few = omega (arith, C.few, climbing-rises h);
            same = ap (λ (u : ℕ). onward u x.state (c + 1)) w.node
                ∙ sym (carried-move forest act v to (told q c v) w.move deeper w.next
                (told x.state (c + 1) (target forest w.move)) step)
                ∙ C.same;
          }

      nothing : X.s ≤ x.state → climb_on X from to q₀ ≡ none
      nothing h = sym C.same ∙ elim (step-lost X v to q x e h) [
        | inl n ↦ carried-stuck forest act v to (told q c v) deeper n
        | inr n ↦ carried-lost forest act v to (told q c v) n.0 deeper n.1
            (ap (λ (o : Option ℕ). and_then o (λ y. some (told y (c + 1) (target forest n.0)))) n.2)
      ]

      pub climbing-lost : X.s ≤ x.state → OutOfRange ≡ climbed_of (climb_on X from to q₀)
      unfolding climbed_of
      climbing-lost h = ap climbed_of (sym (nothing h))
