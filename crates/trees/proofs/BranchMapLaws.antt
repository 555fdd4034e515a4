-- The laws of branch tables' states and maps: words from above down to a node.
--     word_run-append                     a word in two parts
--     labels_down-add                     the labels down to a node, in two parts
--     branch_state-root, branch_state-down a node's state from its parent's
--     branch_map-root, -near, -far        document 01's map as Load composes it: the upper part is read first
--     branch_state-below, branch_map-below
use Prim.Native.Nat.{ℕ, zero, suc, ◌+◌, ◌<◌}
use mathlib.Core.Path.{◌≡◌, refl, sym, ap, ◌∙◌}
use mathlib.Core.List.{List, [], ◌∷◌, ◌++◌, append_assoc, append-nil}
use native.Mathlib.Nat.{zero-add, suc-add}
use native.Mathlib.Numerals.{add-one}
use native.Mathlib.Omega.{arith}
use Rattle.trees.specs.Tree.{Tree, size, label_at}
use Rattle.trees.specs.Automaton.{WordAutomaton, word_run}
use Rattle.trees.specs.Numbering.{parent, depth, ancestor, labels_down}
use Rattle.trees.specs.Jumps.{jump}
use Rattle.trees.specs.Tables.{jump_length, branch_state, branch_map}
use Rattle.trees.proofs.NodeLaws.{up, depth-root}
use Rattle.trees.proofs.MapLaws.{ancestor-parent, jump-ancestor}
use Rattle.trees.proofs.MapLaws.{jump_length-root, jump_length-near, jump_length-far}

-- ---- words

pub word_run-append : (B : WordAutomaton) (q : ℕ) (u w : List ℕ) → word_run B q (u ++ w) ≡ word_run B (word_run B q u) w
word_run-append B q [] w = refl
word_run-append B q (a ∷ u) w = word_run-append B (B.step q a) u w

pub word_run-below : (B : WordAutomaton) → ((q a : ℕ) → B.step q a < B.states) → (q : ℕ) (w : List ℕ) → q < B.states
    → word_run B q w < B.states
word_run-below B below q [] h = h
word_run-below B below q (a ∷ w) h = word_run-below B below (B.step q a) w (below q a)

module _ (t : Tree) where
  pub labels_down-one : (v : ℕ) → labels_down t v 1 ≡ label_at t v ∷ []
  unfolding labels_down
  labels_down-one v = refl

  pub labels_down-suc : (v n : ℕ) → labels_down t v (suc n) ≡ labels_down t (parent t v) n ++ (label_at t v ∷ [])
  unfolding labels_down
  labels_down-suc v n = refl

  pub labels_down-add : (v m n : ℕ) → labels_down t v (m + n) ≡ labels_down t (ancestor t v m) n ++ labels_down t v m
  unfolding labels_down ancestor
  labels_down-add v zero n = ap (labels_down t v) (zero-add n) ∙ sym (append-nil (labels_down t v n))
  labels_down-add v (suc m) n =
      ap (labels_down t v) (suc-add m n)
      ∙ ap (λ (w : List ℕ). w ++ (label_at t v ∷ [])) (labels_down-add (parent t v) m n)
      ∙ append_assoc (labels_down t (ancestor t (parent t v) m) n) (labels_down t (parent t v) m) (label_at t v ∷ [])
      ∙ ap (λ (u : ℕ). labels_down t u n ++ (labels_down t (parent t v) m ++ (label_at t v ∷ []))) (ancestor-parent t v m)

-- ---- states and maps

module _ (B : WordAutomaton) (t : Tree) where
  -- a word's last letter is the node's label
  last_letter : (v n q : ℕ)
      → word_run B q (labels_down t v (suc n)) ≡ B.step (word_run B q (labels_down t (parent t v) n)) (label_at t v)
  last_letter v n q =
      ap (word_run B q) (labels_down-suc t v n) ∙ word_run-append B q (labels_down t (parent t v) n) (label_at t v ∷ [])

  pub branch_state-root : (v : ℕ) → v + 1 ≡ size t → branch_state B t v ≡ B.step 0 (label_at t v)
  unfolding branch_state
  branch_state-root v e =
      let z : depth t v + 1 ≡ 1 = omega (arith, depth-root t v e) in
      ap (λ (k : ℕ). word_run B 0 (labels_down t v k)) z ∙ ap (word_run B 0) (labels_down-one t v)

  pub branch_state-down : (v : ℕ) → v + 1 < size t
      → branch_state B t v ≡ B.step (branch_state B t (parent t v)) (label_at t v)
  unfolding branch_state
  branch_state-down v h =
      let z : depth t v + 1 ≡ suc (depth t (parent t v) + 1) = omega (arith, (up t v h).deeper) in
      ap (λ (k : ℕ). word_run B 0 (labels_down t v k)) z ∙ last_letter v (depth t (parent t v) + 1) 0

  pub branch_map-root : (v q : ℕ) → v + 1 ≡ size t → branch_map B t v q ≡ q
  unfolding branch_map labels_down
  branch_map-root v q e = ap (λ (k : ℕ). word_run B q (labels_down t v k)) (jump_length-root t v e)

  pub branch_map-near : (v q : ℕ) → v + 1 < size t → jump t v ≡ parent t v → branch_map B t v q ≡ B.step q (label_at t v)
  unfolding branch_map
  branch_map-near v q h e =
      ap (λ (k : ℕ). word_run B q (labels_down t v k)) (jump_length-near t v h e) ∙ ap (word_run B q) (labels_down-one t v)

  pub branch_map-far : (v q : ℕ) → v + 1 < size t → (jump t v ≡ parent t v → ⊥)
      → branch_map B t v q ≡ B.step (branch_map B t (parent t v) (branch_map B t (jump t (parent t v)) q)) (label_at t v)
  unfolding branch_map
  branch_map-far v q h ne =
      let p : ℕ = parent t v in
      let j : ℕ = jump t p in
      ap (λ (k : ℕ). word_run B q (labels_down t v k)) (jump_length-far t v h ne)
      ∙ last_letter v (jump_length t p + jump_length t j) q
      ∙ ap (λ (w : List ℕ). B.step (word_run B q w) (label_at t v))
      (labels_down-add t p (jump_length t p) (jump_length t j)
      ∙ ap (λ (u : ℕ). labels_down t u (jump_length t j) ++ labels_down t p (jump_length t p))
      (sym (jump-ancestor t p (up t v h).below)))
      ∙ ap (λ (x : ℕ). B.step x (label_at t v))
      (word_run-append B q (labels_down t j (jump_length t j)) (labels_down t p (jump_length t p)))

  pub branch_state-below : ((q a : ℕ) → B.step q a < B.states) → (v : ℕ) → branch_state B t v < B.states
  unfolding branch_state
  branch_state-below below v = rw (add-one (depth t v), last_letter v (depth t v) 0) (below _ (label_at t v))

  pub branch_map-below : ((q a : ℕ) → B.step q a < B.states) → (v q : ℕ) → q < B.states
      → branch_map B t v q < B.states
  unfolding branch_map
  branch_map-below below v q h = word_run-below B below q (labels_down t v (jump_length t v)) h
