-- The turns of the loop that lists the changes.
--     list-start, list-next, entry_in    before the first node, one node more, and that its entry has room
--     nodes-whole, labels-whole          at the end: the changes between two lists
use Prim.Native.Nat.{ℕ, zero, suc, ◌+◌, ◌-◌, ◌≤◌, ◌<◌}
use mathlib.Core.Path.{◌≡◌, refl, sym, ap, ap₂, ◌∙◌}
use mathlib.Core.Bool.{Bool, true, false, cond}
use mathlib.Core.List.{List, [], ◌∷◌, ◌++◌, append_assoc, append-nil}
use native.Mathlib.Decide.{ℕ_discrete}
use native.Mathlib.Numerals.{add-one}
use native.Mathlib.Omega.{arith}
use lib.Dec.{eqb}
use lib.ListN.{length, get_or, set, drop, length-append}
use lib.Seq.{drop-cons, set_at}
use borrow.Author.Tests.{eq-eqb, ne_eqb}
use Rattle.list_laws.specs.Rows.{tabulate}
use Rattle.list_laws.proofs.RowLaws.{length-tabulate, tabulate-of}
use Rattle.fewest.specs.Relabelling.{changed_nodes, changed_labels}
use Rattle.fewest.proofs.costs.ListLaws.{changes-paired}
use Rattle.fewest.specs.inner.list.Lists.{nodes_to, labels_to, ChangePut, Listed}

-- ---- the changes of lists in a row

nodes-append : (v : ℕ) (ls bs ms cs : List ℕ) → length ls ≡ length bs
    → changed_nodes v (ls ++ ms) (bs ++ cs) ≡ changed_nodes v ls bs ++ changed_nodes (v + length ls) ms cs
unfolding changed_nodes
nodes-append v [] [] ms cs e = let z : v ≡ v + 0 = omega arith in ap (λ (x : ℕ). changed_nodes x ms cs) z
nodes-append v [] (b ∷ bs) ms cs e = absurd (omega arith)
nodes-append v (a ∷ ls) [] ms cs e = absurd (omega arith)
nodes-append v (a ∷ ls) (b ∷ bs) ms cs e = go (eqb a b) (nodes-append (v + 1) ls bs ms cs (omega arith))
  where
    z : v + 1 + length ls ≡ v + length (a ∷ ls)
    z = omega arith

    go : (c : Bool) → changed_nodes (v + 1) (ls ++ ms) (bs ++ cs) ≡ changed_nodes (v + 1) ls bs ++ changed_nodes (v + 1 + length ls) ms cs
        → cond c (changed_nodes (v + 1) (ls ++ ms) (bs ++ cs)) (v ∷ changed_nodes (v + 1) (ls ++ ms) (bs ++ cs))
        ≡ cond c (changed_nodes (v + 1) ls bs) (v ∷ changed_nodes (v + 1) ls bs) ++ changed_nodes (v + length (a ∷ ls)) ms cs
    go true ih = ih ∙ ap (λ (x : ℕ). changed_nodes (v + 1) ls bs ++ changed_nodes x ms cs) z
    go false ih = ap (λ (x : List ℕ). v ∷ x) (ih ∙ ap (λ (x : ℕ). changed_nodes (v + 1) ls bs ++ changed_nodes x ms cs) z)

labels_append : (ls bs ms cs : List ℕ) → length ls ≡ length bs
    → changed_labels (ls ++ ms) (bs ++ cs) ≡ changed_labels ls bs ++ changed_labels ms cs
unfolding changed_labels
labels_append [] [] ms cs e = refl
labels_append [] (b ∷ bs) ms cs e = absurd (omega arith)
labels_append (a ∷ ls) [] ms cs e = absurd (omega arith)
labels_append (a ∷ ls) (b ∷ bs) ms cs e = go (eqb a b) (labels_append ls bs ms cs (omega arith))
  where
    go : (c : Bool) → changed_labels (ls ++ ms) (bs ++ cs) ≡ changed_labels ls bs ++ changed_labels ms cs
        → cond c (changed_labels (ls ++ ms) (bs ++ cs)) (b ∷ changed_labels (ls ++ ms) (bs ++ cs))
        ≡ cond c (changed_labels ls bs) (b ∷ changed_labels ls bs) ++ changed_labels ms cs
    go true ih = ih
    go false ih = ap (λ (x : List ℕ). b ∷ x) ih

-- a store past a list
put-past : (xs d : List ℕ) (c y : ℕ) → length xs ≡ c → c < length d → set (xs ++ drop c d) c y ≡ (xs ++ (y ∷ [])) ++ drop (c + 1) d
put-past xs d c y e h =
    ap (λ (r : List ℕ). set (xs ++ r) c y) (drop-cons d c 0 h) ∙ set_at xs (get_or d c 0) (drop (suc c) d) y c e
    ∙ sym (append_assoc xs (y ∷ []) (drop (c + 1) d) ∙ ap (λ (r : ℕ). xs ++ (y ∷ drop r d)) (add-one c))

module _ (f g : ℕ → ℕ) where
  pub list-start : (nodes out : List ℕ) → Listed f g 0 nodes out 0 nodes out
  unfolding nodes_to labels_to tabulate changed_nodes changed_labels
  list-start nodes out = record { count = refl; nodes_are = refl; labels_are = refl }

  -- one node more
  nodes-next : (v : ℕ) → nodes_to f g (v + 1) ≡ nodes_to f g v ++ cond (eqb (f v) (g v)) [] (v ∷ [])
  unfolding nodes_to tabulate changed_nodes
  nodes-next v =
      let z : 0 + length (tabulate v f) ≡ v = omega (arith, length-tabulate v f) in
      rw (add-one v) (nodes-append 0 (tabulate v f) (tabulate v g) (f v ∷ []) (g v ∷ []) (length-tabulate v f ∙ sym (length-tabulate v g))
      ∙ ap (λ (x : ℕ). changed_nodes 0 (tabulate v f) (tabulate v g) ++ cond (eqb (f v) (g v)) [] (x ∷ [])) z)

  labels_next : (v : ℕ) → labels_to f g (v + 1) ≡ labels_to f g v ++ cond (eqb (f v) (g v)) [] (g v ∷ [])
  unfolding labels_to tabulate changed_labels
  labels_next v =
      rw (add-one v) (labels_append (tabulate v f) (tabulate v g) (f v ∷ []) (g v ∷ []) (length-tabulate v f ∙ sym (length-tabulate v g)))

  labels-as-nodes : (v : ℕ) → length (labels_to f g v) ≡ length (nodes_to f g v)
  unfolding nodes_to labels_to
  labels-as-nodes v = changes-paired 0 (tabulate v f) (tabulate v g)

  more : (v : ℕ) → (f v ≡ g v → ⊥) → length (nodes_to f g (v + 1)) ≡ length (nodes_to f g v) + 1
  more v ne =
      ap length (nodes-next v ∙ ap (λ (c : Bool). nodes_to f g v ++ cond c [] (v ∷ [])) (ne_eqb (f v) (g v) ne))
      ∙ length-append (nodes_to f g v) (v ∷ [])

  grows : (v : ℕ) → length (nodes_to f g v) ≤ length (nodes_to f g (v + 1))
  grows v = omega (arith, ap length (nodes-next v), length-append (nodes_to f g v) (cond (eqb (f v) (g v)) [] (v ∷ [])))

  grown : (d v : ℕ) → length (nodes_to f g v) ≤ length (nodes_to f g (v + d))
  grown zero v = let z : v ≡ v + 0 = omega arith in omega (arith, ap (λ (x : ℕ). length (nodes_to f g x)) z)
  grown (suc d) v =
      let z : v + d + 1 ≡ v + suc d = omega arith in
      omega (arith, grown d v, grows (v + d), ap (λ (x : ℕ). length (nodes_to f g x)) z)

  pub entry_in : (v n m : ℕ) → v < n → length (nodes_to f g n) ≤ m → (f v ≡ g v → ⊥) → length (nodes_to f g v) < m
  entry_in v n m h l ne =
      let z : v + 1 + (n - (v + 1)) ≡ n = omega arith in
      omega (arith, more v ne, grown (n - (v + 1)) (v + 1), ap (λ (x : ℕ). length (nodes_to f g x)) z)

  pub list-next : (v : ℕ) (nodes out : List ℕ) (c : ℕ) (nodes' out' : List ℕ) (r : ℕ) (nodes'' out'' : List ℕ)
      → Listed f g v nodes out c nodes' out' → ((f v ≡ g v → ⊥) → c < length nodes) → ((f v ≡ g v → ⊥) → c < length out)
      → ChangePut (f v) (g v) c v nodes' out' r nodes'' out'' → Listed f g (v + 1) nodes out r nodes'' out''
  list-next v nodes out c nodes' out' r nodes'' out'' L hn ho C = elim (ℕ_discrete (f v) (g v)) [
    | yes e ↦ (let S = C.same e in
        let kn : nodes_to f g (v + 1) ≡ nodes_to f g v = nodes-next v
        ∙ ap (λ (x : Bool). nodes_to f g v ++ cond x [] (v ∷ [])) (eq-eqb (f v) (g v) e) ∙ append-nil (nodes_to f g v) in
        let kl : labels_to f g (v + 1) ≡ labels_to f g v = labels_next v
        ∙ ap (λ (x : Bool). labels_to f g v ++ cond x [] (g v ∷ [])) (eq-eqb (f v) (g v) e) ∙ append-nil (labels_to f g v) in
        record {
          count = S.0 ∙ L.count ∙ ap length (sym kn);
          nodes_are = S.1 ∙ L.nodes_are ∙ ap₂ (λ (x : List ℕ) (y : ℕ). x ++ drop y nodes) (sym kn) (sym S.0);
          labels_are = S.2 ∙ L.labels_are ∙ ap₂ (λ (x : List ℕ) (y : ℕ). x ++ drop y out) (sym kl) (sym S.0);
        })
    | no e ↦ (let S = C.other e in
        let kn : nodes_to f g (v + 1) ≡ nodes_to f g v ++ (v ∷ []) = nodes-next v
        ∙ ap (λ (x : Bool). nodes_to f g v ++ cond x [] (v ∷ [])) (ne_eqb (f v) (g v) e) in
        let kl : labels_to f g (v + 1) ≡ labels_to f g v ++ (g v ∷ []) = labels_next v
        ∙ ap (λ (x : Bool). labels_to f g v ++ cond x [] (g v ∷ [])) (ne_eqb (f v) (g v) e) in
        record {
          count = S.0 ∙ omega (arith, L.count, more v e);
          nodes_are = S.1 ∙ ap (λ (x : List ℕ). set x c v) L.nodes_are ∙ put-past (nodes_to f g v) nodes c v (sym L.count) (hn e)
              ∙ ap₂ (λ (x : List ℕ) (y : ℕ). x ++ drop y nodes) (sym kn) (sym S.0);
          labels_are = S.2 ∙ ap (λ (x : List ℕ). set x c (g v)) L.labels_are
              ∙ put-past (labels_to f g v) out c (g v) (labels-as-nodes v ∙ sym L.count) (ho e)
              ∙ ap₂ (λ (x : List ℕ) (y : ℕ). x ++ drop y out) (sym kl) (sym S.0);
        })
  ]

  -- at the end
  module _ (n : ℕ) (ls bs : List ℕ) (el : length ls ≡ n) (eb : length bs ≡ n) (fl : (j : ℕ) → j < n → get_or ls j 0 ≡ f j)
      (gb : (j : ℕ) → j < n → get_or bs j 0 ≡ g j) where
    pub nodes-whole : nodes_to f g n ≡ changed_nodes 0 ls bs
    unfolding nodes_to
    nodes-whole = ap₂ (λ (x y : List ℕ). changed_nodes 0 x y) (sym (tabulate-of n f ls el fl)) (sym (tabulate-of n g bs eb gb))

    pub labels-whole : labels_to f g n ≡ changed_labels ls bs
    unfolding labels_to
    labels-whole = ap₂ (λ (x y : List ℕ). changed_labels x y) (sym (tabulate-of n f ls el fl)) (sym (tabulate-of n g bs eb gb))
