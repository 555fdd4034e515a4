-- Laws of lists of parts.
--     length-nodes, length-states, nodes-more, states-more, last_more, links-more    one more part
--     below_more            one more state
--     from_more             the parts of one more root
--     from-nodes, from-links    parts worked out one after the other: their roots, and their links in all
use Rattle.std.proofs.Common.{◌≡◌, ℕ, suc, ◌+◌, ◌<◌, true, ltb, List, [], ◌∷◌, ◌++◌, length, refl, ap, ◌∙◌, append_assoc, arith, lt-ltb}
use Rattle.list_laws.specs.Tests.{all_below}
use Rattle.list_laws.proofs.BoolLaws.{and_both, and_left, and_right}
use Rattle.questions.specs.ready.Parts.{Given, Part, part_of, part_links, sum_of, parts_from, last_state, all_links}
use Rattle.questions.proofs.ready.PartsRun.{nodes-more}
use Rattle.questions.specs.ready.Parts.{nodes_of, states_of}

pub length-nodes : (ps : List Part) → length (nodes_of ps) ≡ length ps
length-nodes [] = refl
length-nodes (p ∷ ps) = ap suc (length-nodes ps)

pub length-states : (ps : List Part) → length (states_of ps) ≡ length ps
length-states [] = refl
length-states (p ∷ ps) = ap suc (length-states ps)

pub states-more : (ps : List Part) (p : Part) → states_of (ps ++ (p ∷ [])) ≡ states_of ps ++ (p.state ∷ [])
states-more [] p = refl
states-more (x ∷ ps) p = ap (λ (l : List ℕ). x.state ∷ l) (states-more ps p)

pub length_more : {X : Type 0} (l : List X) (x : X) → length (l ++ (x ∷ [])) ≡ suc (length l)
length_more [] x = refl
length_more (y ∷ l) x = ap suc (length_more l x)

pub last_more : (ps : List Part) (p : Part) (q : ℕ) → last_state (ps ++ (p ∷ [])) q ≡ p.state
unfolding last_state
last_more [] p q = refl
last_more (x ∷ ps) p q = last_more ps p x.state

pub links-more : (ps : List Part) (p : Part) → all_links (ps ++ (p ∷ [])) ≡ all_links ps + p.links
unfolding all_links
links-more [] p = omega arith
links-more (x ∷ ps) p = omega (arith, links-more ps p)

pub below_more : (n : ℕ) (l : List ℕ) (x : ℕ) → all_below n l ≡ true → x < n → all_below n (l ++ (x ∷ [])) ≡ true
unfolding all_below
below_more n [] x e h = and_both (ltb x n) true (lt-ltb x n h) refl
below_more n (y ∷ l) x e h =
    and_both (ltb y n) (all_below n (l ++ (x ∷ []))) (and_left (ltb y n) (all_below n l) e)
    (below_more n l x (and_right (ltb y n) (all_below n l) e) h)

-- ---- parts worked out one after the other

module _ (G : Given) (ms : List ℕ) where
  pub from_more : (ps : List Part) (vs : List ℕ) (v : ℕ)
      → parts_from G ms ps (vs ++ (v ∷ [])) ≡ parts_from G ms ps vs ++ (part_of G ms (parts_from G ms ps vs) v ∷ [])
  unfolding parts_from
  from_more ps [] v = refl
  from_more ps (u ∷ vs) v = from_more (ps ++ (part_of G ms ps u ∷ [])) vs v

  pub from-nodes : (ps : List Part) (vs : List ℕ) → nodes_of (parts_from G ms ps vs) ≡ nodes_of ps ++ vs
  unfolding parts_from part_of
  from-nodes ps [] = append-end (nodes_of ps)
    where
      append-end : (l : List ℕ) → l ≡ l ++ []
      append-end [] = refl
      append-end (x ∷ l) = ap (λ (m : List ℕ). x ∷ m) (append-end l)
  from-nodes ps (v ∷ vs) =
      from-nodes (ps ++ (part_of G ms ps v ∷ [])) vs
      ∙ ap (λ (l : List ℕ). l ++ vs) (nodes-more ps (part_of G ms ps v))
      ∙ append_assoc (nodes_of ps) (v ∷ []) vs

  pub from-links : (ps : List Part) (vs : List ℕ)
      → all_links (parts_from G ms ps vs) ≡ all_links ps + sum_of (part_links G.tree ms) vs
  unfolding parts_from part_of sum_of
  from-links ps [] = omega arith
  from-links ps (v ∷ vs) =
      omega (arith, from-links (ps ++ (part_of G ms ps v ∷ [])) vs, links-more ps (part_of G ms ps v))
