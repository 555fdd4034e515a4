-- For any inputs, a part's state is a state.
--     part-state      of one part
--     handled-state   of the last of all
use Prim.Native.Nat.{ℕ, ◌-◌, ◌<◌}
use mathlib.Core.Path.{◌≡◌, refl, ap, subst}
use mathlib.Core.Bool.{Bool, true, false, cond, ◌&&◌}
use mathlib.Core.List.{List, [], ◌∷◌, ◌++◌}
use mathlib.Core.Option.{Option, none, some, some-injective}
use native.Mathlib.Omega.{arith}
use lib.Dec.{leb, ltb, eqb}
use lib.ListN.{length, get_or}
use Rattle.trees.specs.Climb.{and_then}
use Rattle.trees.proofs.MoveLaws.{none-some, cond-some}
use Rattle.tables.specs.node_tables.Cells.{size_cell}
use Rattle.tables.specs.Climbs.{View, below, rule_on}
use Rattle.tables.specs.inner.PathViews.{rules_view}
use Rattle.tables.proofs.LookupLaws.{below-state}
use Rattle.tables.proofs.ClimbBounds.{rule-state}
use Rattle.questions.specs.Part.{label_on}
use Rattle.colours.specs.StateSets.{Tried, tried}
use Rattle.colour_questions.specs.parts.Part.{ColourView, sides_in, untried, join_tried, fork_tried, leaf_tried, part_tried}
use Rattle.colour_questions.specs.parts.Part.{handled_from}

pub untried-state : (s q : ℕ) (x : Tried) → untried (below s q) ≡ some x → x.state < s
untried-state s q x e = go (below s q) refl e
  where
    go : (o : Option ℕ) → below s q ≡ o → untried o ≡ some x → x.state < s
    go none b i = absurd (none-some i)
    go (some y) b i =
        let w = below-state s q y b in
        let z : y ≡ x.state = ap (λ (t : Tried). t.state) (some-injective (tried y []) x i) in
        omega (arith, w.0, w.1)

join-state : (X : View) (a : ℕ) (l r : Option Tried) (x : Tried) → join_tried X a l r ≡ some x → x.state < X.s
unfolding join_tried
join-state X a none r x e = absurd (none-some e)
join-state X a (some l) none x e = absurd (none-some e)
join-state X a (some l) (some r) x e = go (rule_on X l.state a r.state) refl e
  where
    go : (o : Option ℕ) → rule_on X l.state a r.state ≡ o
        → and_then o (λ q. some (tried q (l.searches ++ r.searches))) ≡ some x → x.state < X.s
    go none b i = absurd (none-some i)
    go (some q) b i =
        let z : q ≡ x.state = ap (λ (t : Tried). t.state) (some-injective (tried q (l.searches ++ r.searches)) x i) in
        subst (λ (y : ℕ). y < X.s) z (rule-state X l.state a r.state q b)

module _ (L : ColourView) where
  abbrev X : View
  X = L.view

  leaf-state : (a : ℕ) (x : Tried) → leaf_tried X.s X.k X.leaves a ≡ some x → x.state < X.s
  unfolding leaf_tried
  leaf-state a x e =
      untried-state X.s (get_or X.leaves a 0) x
      (cond-some (ltb a X.k) (untried (below X.s (get_or X.leaves a 0))) e).1

  fork-state : (k : ℕ) (inn node_table es qs : List ℕ) (v l a : ℕ) (x : Tried)
      → fork_tried (sides_in L) k inn node_table es qs v l a ≡ some x → x.state < X.s
  unfolding fork_tried
  fork-state k inn node_table es qs v l a x e = join-state (rules_view X.s k inn) a _ _ x e

  pub part-state : (es qs vs bs : List ℕ) (v : ℕ) (x : Tried) → part_tried L es qs vs bs v ≡ some x → x.state < X.s
  unfolding part_tried
  part-state es qs vs bs v x e = go (eqb (get_or X.kinds v 0) 0) e
    where
      l : ℕ
      l = v - 1 - size_cell X.node_table (v - 1)

      a : ℕ
      a = label_on X vs bs v

      go : (b : Bool) → cond b (leaf_tried X.s X.k X.leaves (label_on X vs bs v))
          (cond (ltb 0 v && leb (size_cell X.node_table (v - 1)) (v - 1))
          (fork_tried (sides_in L) X.k X.inner X.node_table es qs v (v - 1 - size_cell X.node_table (v - 1))
          (label_on X vs bs v)) none) ≡ some x → x.state < X.s
      go true i = leaf-state a x i
      go false i =
          fork-state X.k X.inner X.node_table es qs v l a x
          (cond-some (ltb 0 v && leb (size_cell X.node_table (v - 1)) (v - 1))
          (fork_tried (sides_in L) X.k X.inner X.node_table es qs v l a) i).1

  -- where there is a part, or there was one before
  pub handled-state : (vs bs es qs : List ℕ) (r : Tried) (ms : List ℕ) (x : Tried)
      → ((length ms ≡ 0) → r.state < X.s) → handled_from L vs bs es qs r ms ≡ some x → x.state < X.s
  unfolding handled_from
  handled-state vs bs es qs r [] x h e =
      subst (λ (t : Tried). t.state < X.s) (some-injective r x e) (h refl)
  handled-state vs bs es qs r (v ∷ ms) x h e =
      go (part_tried L es qs vs bs v) refl e (λ a b c d. handled-state vs bs a b c ms x d)
    where
      go : (o : Option Tried) → part_tried L es qs vs bs v ≡ o
          → and_then o (λ p. handled_from L vs bs (es ++ (v ∷ [])) (qs ++ (p.state ∷ []))
          (tried p.state (r.searches ++ p.searches)) ms) ≡ some x
          → ((a b : List ℕ) (c : Tried) → ((length ms ≡ 0) → c.state < X.s) → handled_from L vs bs a b c ms ≡ some x
          → x.state < X.s)
          → x.state < X.s
      go none q i ih = absurd (none-some i)
      go (some p) q i ih = ih (es ++ (v ∷ [])) (qs ++ (p.state ∷ [])) (tried p.state (r.searches ++ p.searches))
          (λ _. part-state es qs vs bs v p q) i
