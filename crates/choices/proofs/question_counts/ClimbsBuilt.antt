-- On numbers as built and bytes below S every state climbs to what the rule gives, by the same links.
--     arrives        the state that a climb ends in
--     all-arrive     no climb leads outside
--     climb-links    its links
use Prim.Native.Nat.{ℕ, zero, suc, ◌-◌, ◌≤◌, ◌<◌}
use mathlib.Core.Path.{◌≡◌, refl, ap, ap₂, ◌∙◌}
use mathlib.Core.Bool.{Bool, true, ◌&&◌}
use mathlib.Core.Option.{some}
use native.Mathlib.Omega.{arith}
use lib.ListN.{length}
use Rattle.trees.specs.Tree.{size}
use Rattle.trees.specs.Numbering.{depth}
use Rattle.tables.specs.Climbs.{View, climb_on, reached}
use Rattle.questions.specs.ready.Parts.{Given, move_states, climb_moves}
use Rattle.questions.specs.Promises.{Reads}
use Rattle.questions.proofs.ClimbBuilt.{climb-built}
use Rattle.choices.specs.part_steps.Carry.{state_in, links_in, is_reached, arrives_at, all_arrive}

module _ (X : View) (G : Given) (R : Reads X G) (h c T : ℕ) (hh : h < size G.tree) (e : T ≡ depth G.tree c)
    (d : depth G.tree c ≤ depth G.tree h) where
  climbs : (q : ℕ) → q < X.s → climb_on X h T q
      ≡ some (reached (move_states G (climb_moves G.tree h c) q) (length (climb_moves G.tree h c))
      (depth G.tree h - depth G.tree c))
  climbs q l = ap (λ (t : ℕ). climb_on X h t q) e ∙ (climb-built X G R h c q hh d l).0

  pub arrives : (q : ℕ) → q < X.s → arrives_at X h T q ≡ move_states G (climb_moves G.tree h c) q
  unfolding arrives_at
  arrives q l = ap state_in (climbs q l)

  pub arrives-below : (q : ℕ) → q < X.s → arrives_at X h T q < X.s
  arrives-below q l = omega (arith, arrives q l, (climb-built X G R h c q hh d l).1)

  pub all-arrive : (m : ℕ) → m ≤ X.s → all_arrive X h T m ≡ true
  unfolding all_arrive
  all-arrive zero l = refl
  all-arrive (suc m) l =
      ap₂ (λ (a b : Bool). a && b) (all-arrive m (omega arith)) (ap is_reached (climbs m (omega arith)))

  pub climb-links : links_in (climb_on X h T (X.s - 1)) ≡ length (climb_moves G.tree h c)
  climb-links = ap links_in (climbs (X.s - 1) (omega (arith, R.leaf_below 0)))
