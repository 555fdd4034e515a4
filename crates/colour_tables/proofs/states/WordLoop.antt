-- One node of the pass for words, and what its functions need.
--     words-start, words-next   before the root, and one node more, for every tree that was given
--     words-above, words-successors, words-place   what the functions of one node need
use Prim.Native.Nat.{ℕ, ◌+◌, ◌*◌, ◌≤◌, ◌<◌}
use mathlib.Core.Path.{◌≡◌, sym, ap, ap₂, ◌∙◌, subst}
use mathlib.Core.List.{List}
use native.Mathlib.Omega.{arith}
use lib.ListN.{length, get_or}
use Rattle.list_laws.proofs.RowLaws.{stride}
use Rattle.trees.specs.Tree.{Tree, size, label_at}
use Rattle.trees.proofs.NodeLaws.{length-labels}
use Rattle.colour_tables.specs.states.inner.Rows.{RowOf, above_cell, AboveArgs, TurnArgs, Recoloured}
use Rattle.colour_tables.specs.states.inner.WordPass.{LedArgs, step_by, WordGiven, WordsFrom, WordArgs}
use Rattle.colour_tables.proofs.states.CopyLoop.{copies-start, copies-next, above-is, above-below, above_in, place_in}
use Rattle.colour_tables.proofs.states.CopyLoop.{successors-is}

-- the nodes from v on are done, for every tree that was given
abbrev pub Words : List ℕ → List ℕ → ℕ → ℕ → List ℕ → List ℕ → ℕ → List ℕ → List ℕ → Type 0
Words ls st s k e₀ m₀ v b m = (t : Tree) → WordGiven ls m₀ t → WordsFrom s k st t v e₀ m₀ b m

module _ (ls st : List ℕ) (s k : ℕ) (e₀ m₀ : List ℕ) (A : WordArgs ls st s k m₀ e₀) where
  keeps : (t : Tree) (v q : ℕ) → q < s → step_by st k t v q < s
  keeps t v q h = A.step_below (q * k + label_at t v)

  some : 0 < s
  some = omega (arith, A.step_below 0)

  count : (t : Tree) → WordGiven ls m₀ t → size t ≡ length ls
  count t G = sym (length-labels t) ∙ ap length G.labels

  pub words-start : (n : ℕ) → n ≡ length ls → Words ls st s k e₀ m₀ n e₀ m₀
  words-start n q t G = rw (q ∙ sym (count t G)) (copies-start s (step_by st k t) t 0 (keeps t) e₀ m₀)

  -- after the nodes from w on comes node v
  module _ (n w v : ℕ) (b m : List ℕ) (q : n ≡ length ls) (e : w ≡ v + 1) (h : v < n)
      (lb : length b ≡ length e₀) (lm : length m ≡ length m₀) (W : Words ls st s k e₀ m₀ w b m) where
    from : (t : Tree) → WordGiven ls m₀ t → WordsFrom s k st t (v + 1) e₀ m₀ b m
    from t G = subst (λ (x : ℕ). WordsFrom s k st t x e₀ m₀ b m) e (W t G)

    abbrev t₀ : Tree
    t₀ = A.tree

    is₀ : size t₀ ≡ n
    is₀ = count t₀ A.given ∙ sym q

    room : size t₀ * s ≤ length b
    room = rw (count t₀ A.given, lb) A.byte_room

    space : s * (size t₀ * 4) ≤ length m
    space = rw (count t₀ A.given, lm) A.number_room

    pub words-above : AboveArgs b m n 0 s v
    words-above =
        rw (← is₀) (above_in s (step_by st k t₀) t₀ 0 (keeps t₀) e₀ m₀ A.given.parents v b m (from t₀ A.given)
        (omega (arith, is₀)) some A.few (omega (arith, is₀, A.most)) (omega (arith, room)) space)

    module _ (row : List ℕ) (R : RowOf s (above_cell b m n 0 s v) row) where
      row_of : (t : Tree) → WordGiven ls m₀ t → RowOf s (above_cell b m (size t) 0 s v) row
      row_of t G = rw (count t G ∙ sym q) R

      pub words-successors : (a : ℕ) → a < k → LedArgs row st s k a
      words-successors a l = record {
        few = A.few;
        labels = A.label_most;
        label = l;
        inside = λ c i.
            (let x : get_or row c 0 < s = above-below s (step_by st k t₀) t₀ 0 (keeps t₀) e₀ m₀ A.given.parents v b m
            (from t₀ A.given) (omega (arith, is₀)) row (row_of t₀ A.given) c i in
            omega (arith, stride k (get_or row c 0) s x, A.steps_room));
      }

      module _ (successors : List ℕ) (a : ℕ) (L : RowOf s (λ c. get_or st (get_or row c 0 * k + a) 0) successors) where
        pub words-place : TurnArgs successors b m n 0 s v
        words-place =
            rw (← is₀) (place_in s (step_by st k t₀) t₀ 0 (keeps t₀) e₀ m₀ A.given.parents v b m (from t₀ A.given)
            (omega (arith, is₀)) successors L.long (λ c i. rw (L.cells c i) (A.step_below (get_or row c 0 * k + a)))
            A.few (omega (arith, is₀, A.most)) (omega (arith, room)) space)

        pub words-next : (b' m' : List ℕ) → a ≡ get_or ls v 0 → Recoloured successors n 0 s v b m b' m'
            → Words ls st s k e₀ m₀ v b' m'
        words-next b' m' z T t G =
            let d : size t ≡ n = count t G ∙ sym q in
            let T' : Recoloured successors (size t) 0 s v b m b' m' = rw d T in
            let label : a ≡ label_at t v = z ∙ ap (λ (x : List ℕ). get_or x v 0) (sym G.labels) in
            copies-next s (step_by st k t) t 0 (keeps t) e₀ m₀ G.parents v b m (from t G)
            (omega (arith, d)) (rw (d ∙ sym is₀) space) successors b' m' T'
            (successors-is s (step_by st k t) t 0 (keeps t) v successors L.long A.few
            (λ c i. L.cells c i
            ∙ ap₂ (λ (x y : ℕ). get_or st (x * k + y) 0)
            (above-is s (step_by st k t) t 0 (keeps t) e₀ m₀ G.parents v b m (from t G) (omega (arith, d)) row
            (row_of t G) c i)
            label))
