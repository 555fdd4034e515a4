-- Branch questions by colours answer as the word automaton does, for either reading of the word.
--     state_down-word   the steps down a path read its word
--     upper-answer     with the upper node: the run on the word from u down to l
--     below-answer     without it: the run on the labels below u
--     upper-drops, below-drops   their drops are the places on the path where the colour falls
use Prim.Native.Nat.{ℕ, zero, suc, ◌+◌, ◌-◌, ◌≤◌, ◌<◌}
use mathlib.Core.Path.{◌≡◌, refl, sym, ap, ap₂, ◌∙◌}
use mathlib.Core.Bool.{true}
use mathlib.Core.List.{List, [], ◌∷◌}
use mathlib.Core.Option.{some}
use native.Mathlib.Omega.{arith}
use native.Mathlib.Nat.{le_refl}
use native.Mathlib.Numerals.{add-one}
use native.Mathlib.Decide.{ℕ_discrete}
use lib.ListN.{get_or}
use borrow.Author.Tests.{eq-eqb, ne_eqb}
use Rattle.list_laws.specs.Tests.{holds}
use Rattle.trees.specs.Tree.{Tree, size, label_at}
use Rattle.trees.specs.Automaton.{WordAutomaton, word_run}
use Rattle.trees.specs.Numbering.{parent, depth, ancestor, labels_down, word, lower_word, AtOrBelow}
use Rattle.trees.proofs.NodeLaws.{up, depth-root}
use Rattle.trees.proofs.IntervalLaws.{above_at}
use Rattle.trees.proofs.BranchMapLaws.{word_run-append}
use Rattle.trees.proofs.JumpLaws.{ancestor-in}
use Rattle.colours.specs.Colouring.{place_of, Colouring}
use Rattle.colours.specs.Copies.{copy_in, copy, copy_above, state_down, colour_down, drops_down}
use Rattle.colours.specs.Descents.{Place, Descent, descent, drops, descend, colour_table_of}
use Rattle.colours.specs.Words.{word_step, above_of, colour_above, colour_here, with_upper, below_upper}
use Rattle.colours.proofs.ColouringLaws.{place-lt, place_at, has-colour}
use Rattle.colours.proofs.CopyLaws.{copy-colouring, copy_above-colouring}
use Rattle.colours.proofs.PathLaws.{follow-state}
use Rattle.colours.proofs.DescentLaws.{Left, left-top, left-node, Descended, descend-tree, descent-drops}
use Rattle.colours.specs.Answers.{WordAnswer}

pub state_down-word : (B : WordAutomaton) (t : Tree) (l k q : ℕ)
    → state_down (word_step B t) t l k q ≡ word_run B q (labels_down t l k)
unfolding state_down labels_down
state_down-word B t l zero q = refl
state_down-word B t l (suc k) q =
    ap (λ (x : ℕ). B.step x (label_at t l)) (state_down-word B t (parent t l) k q)
    ∙ sym (word_run-append B q (labels_down t (parent t l) k) (label_at t l ∷ []))

module _ (B : WordAutomaton) (t : Tree) (below : (q a : ℕ) → B.step q a < B.states) where
  abbrev n : ℕ
  n = B.states

  some_state : 0 < n
  some_state = omega (arith, below 0 0)

  keeps : (v q : ℕ) → q < n → word_step B t v q < n
  keeps v q h = below q (label_at t v)

  -- from state 0 in the copy of the k-th node above, which is `from`
  answered : (z : Place) (l k c : ℕ) (from : List ℕ) → l < size t → k ≤ suc (depth t l) → c < n → Left t z l k
      → copy_in n (word_step B t) t (ancestor t l k) (suc (depth t l) - k) ≡ from → get_or from c 0 ≡ 0
      → WordAnswer B t l (labels_down t l k) (descend (colour_table_of n (word_step B t) t) c z l c)
  answered z l k c from h w b left e s =
      let D : Descended n (word_step B t) t c z l k c =
      descend-tree n (word_step B t) t keeps c z l k c h b (le_refl _) left in
      record {
        way = descent (colour_down n (word_step B t) t l k c) D.searches;
        found = D.found;
        state = follow-state n (word_step B t) t keeps l k c h w b
            ∙ ap (state_down (word_step B t) t l k) (ap (λ (x : List ℕ). get_or x c 0) e ∙ s)
            ∙ state_down-word B t l k 0;
        falls = descent-drops n (word_step B t) t keeps c z l k c D b;
        few = D.few;
      }

  -- the number of drops is that of the places on those k where the colour falls
  drops_are : (z : Place) (l k c : ℕ) → l < size t → c < n → Left t z l k → (d : Descent)
      → descend (colour_table_of n (word_step B t) t) c z l c ≡ some d → drops d ≡ drops_down n (word_step B t) t l k c
  drops_are z l k c h b left d e =
      let D : Descended n (word_step B t) t c z l k c =
      descend-tree n (word_step B t) t keeps c z l k c h b (le_refl _) left in
      let i : d ≡ descent (colour_down n (word_step B t) t l k c) D.searches = cc (e, D.found) in
      ap drops i ∙ D.falls

  -- the colour of state 0 in a copy
  start : (from : List ℕ) → Colouring n from → (place_of 0 from < n) × (get_or from (place_of 0 from) 0 ≡ 0)
  start from C =
      let e : holds 0 from ≡ true = has-colour n from C 0 some_state in
      (omega (arith, place-lt 0 from e, C.count), place_at 0 from e)

  module _ (u l : ℕ) (hl : l < size t) (A : AtOrBelow t u l) where
    at : (depth t u ≤ depth t l) × (ancestor t l (depth t l - depth t u) ≡ u)
    at = above_at t u l hl A

    upper_in : u < size t
    upper_in = rw (← at.1) (ancestor-in t l (depth t l - depth t u) hl)

    -- ---- without the upper node

    pub below-answer : WordAnswer B t l (lower_word t u l) (below_upper B t u l)
    unfolding below_upper colour_here copy lower_word
    below-answer =
        let k : ℕ = depth t l - depth t u in
        let from : List ℕ = copy n (word_step B t) t u in
        let s = start from (copy-colouring n (word_step B t) t keeps u) in
        let d : suc (depth t l) - k ≡ suc (depth t u) = omega (arith, at.0) in
        answered (some u) l k (place_of 0 from) from hl (omega arith) s.0 (left-node t l k u hl (omega arith) at.1)
        (ap₂ (λ (v j : ℕ). copy_in n (word_step B t) t v j) at.1 d) s.1

    -- ---- with it

    -- the copy above u is one place higher
    left-above : Left t (above_of t u) l (suc (depth t l - depth t u))
    unfolding above_of
    left-above = elim (ℕ_discrete (u + 1) (size t)) [
      | yes e ↦ (let k : suc (depth t l) ≡ suc (depth t l - depth t u) = omega (arith, depth-root t u e) in
          rw (eq-eqb (u + 1) (size t) e, ← k) (left-top t l))
      | no e ↦ (let d : depth t u ≡ depth t (parent t u) + 1 = (up t u (omega (arith, upper_in))).deeper in
          let p : ancestor t l (suc (depth t l - depth t u)) ≡ parent t u = unfold ancestor in ap (parent t) at.1 in
          rw (ne_eqb (u + 1) (size t) e)
          (left-node t l (suc (depth t l - depth t u)) (parent t u) hl (omega (arith, at.0)) p))
    ]

    pub upper-answer : WordAnswer B t l (word t u l) (with_upper B t u l)
    unfolding with_upper colour_above copy_above word ancestor
    upper-answer =
        let k : ℕ = depth t l - depth t u in
        let from : List ℕ = copy_above n (word_step B t) t u in
        let s = start from (copy_above-colouring n (word_step B t) t keeps u) in
        let d : suc (depth t l) - suc k ≡ depth t u = omega (arith, at.0) in
        let p : ancestor t l (suc k) ≡ parent t u = ap (parent t) at.1 in
        rw (add-one k)
        (answered (above_of t u) l (suc k) (place_of 0 from) from hl (omega arith) s.0 left-above
        (ap₂ (λ (v j : ℕ). copy_in n (word_step B t) t v j) p d) s.1)

    -- ---- drops

    pub below-drops : (d : Descent) → below_upper B t u l ≡ some d
        → drops d ≡ drops_down B.states (word_step B t) t l (depth t l - depth t u) (colour_here B t u)
    unfolding below_upper colour_here
    below-drops d e =
        let k : ℕ = depth t l - depth t u in
        let from : List ℕ = copy n (word_step B t) t u in
        drops_are (some u) l k (place_of 0 from) hl (start from (copy-colouring n (word_step B t) t keeps u)).0
        (left-node t l k u hl (omega arith) at.1) d e

    pub upper-drops : (d : Descent) → with_upper B t u l ≡ some d
        → drops d ≡ drops_down B.states (word_step B t) t l (suc (depth t l - depth t u)) (colour_above B t u)
    unfolding with_upper colour_above
    upper-drops d e =
        let from : List ℕ = copy_above n (word_step B t) t u in
        drops_are (above_of t u) l (suc (depth t l - depth t u)) (place_of 0 from) hl
        (start from (copy_above-colouring n (word_step B t) t keeps u)).0 left-above d e
