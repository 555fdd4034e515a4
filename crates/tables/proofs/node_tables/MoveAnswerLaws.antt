-- Which move was meant, from what next_move returns.
--     answer-jump, answer-parent, answer-stuck     the move
--     answer-inside                            a parent that is returned is one of the nodes
use Prim.Native.Nat.{ℕ, ◌<◌}
use mathlib.Core.Path.{◌≡◌, refl, ap, ◌∙◌}
use mathlib.Core.Option.{Option, none, some}
use native.Mathlib.Omega.{arith}
use Rattle.trees.specs.Climb.{Forest, Move, via_jump, to_parent, next_move}
use Rattle.trees.proofs.MoveLaws.{next_start, next-inside}
use Rattle.tables.specs.declared.node_tables.moves.NextMove.{NextMove}
use Rattle.tables.specs.declared.node_tables.moves.NextMove.TheVariants.{Jump, Parent, Stuck}
use Rattle.tables.specs.node_tables.inner.MoveAnswers.{next_move_of}

abbrev kind : NextMove → ℕ
kind (Jump j) = 0
kind (Parent p) = 1
kind Stuck = 2

abbrev node : NextMove → ℕ
node (Jump j) = j
node (Parent p) = p
node Stuck = 0

module _ (F : Forest) (v to : ℕ) where
  pub answer-jump : (j : ℕ) → Jump j ≡ next_move_of F (next_move F v to)
      → (next_move F v to ≡ some (via_jump v)) × (j ≡ F.jump v)
  unfolding next_move_of
  answer-jump j e = go (next_move F v to) refl e
    where
      go : (o : Option Move) → next_move F v to ≡ o → Jump j ≡ next_move_of F o
          → (next_move F v to ≡ some (via_jump v)) × (j ≡ F.jump v)
      go none q h = absurd (let z : ◌≡◌ {A = ℕ} 0 2 = ap kind h in omega arith)
      go (some (via_jump u)) q h =
          let z : u ≡ v = next_start F v to (via_jump u) q in
          (q ∙ ap (λ (x : ℕ). some (via_jump x)) z, ap node h ∙ ap F.jump z)
      go (some (to_parent u)) q h = absurd (let z : ◌≡◌ {A = ℕ} 0 1 = ap kind h in omega arith)

  pub answer-parent : (p : ℕ) → Parent p ≡ next_move_of F (next_move F v to)
      → (next_move F v to ≡ some (to_parent v)) × (p ≡ F.parent v)
  unfolding next_move_of
  answer-parent p e = go (next_move F v to) refl e
    where
      go : (o : Option Move) → next_move F v to ≡ o → Parent p ≡ next_move_of F o
          → (next_move F v to ≡ some (to_parent v)) × (p ≡ F.parent v)
      go none q h = absurd (let z : ◌≡◌ {A = ℕ} 1 2 = ap kind h in omega arith)
      go (some (via_jump u)) q h = absurd (let z : ◌≡◌ {A = ℕ} 1 0 = ap kind h in omega arith)
      go (some (to_parent u)) q h =
          let z : u ≡ v = next_start F v to (to_parent u) q in
          (q ∙ ap (λ (x : ℕ). some (to_parent x)) z, ap node h ∙ ap F.parent z)

  -- a parent that is returned is one of the nodes
  pub answer-inside : (p : ℕ) → Parent p ≡ next_move_of F (next_move F v to) → p < F.nodes
  answer-inside p e =
      let t = answer-parent p e in
      omega (arith, next-inside F v to (to_parent v) t.0, t.1)

  pub answer-stuck : Stuck ≡ next_move_of F (next_move F v to) → next_move F v to ≡ none
  unfolding next_move_of
  answer-stuck e = go (next_move F v to) refl e
    where
      go : (o : Option Move) → next_move F v to ≡ o → Stuck ≡ next_move_of F o → next_move F v to ≡ none
      go none q h = q
      go (some (via_jump u)) q h = absurd (let z : ◌≡◌ {A = ℕ} 2 0 = ap kind h in omega arith)
      go (some (to_parent u)) q h = absurd (let z : ◌≡◌ {A = ℕ} 2 1 = ap kind h in omega arith)
