-- The whole count on numbers as built and bytes below S: what the rule gives on those bytes, never 18.
--     rule-roots       the roots are the ready set's
--     rule-countable   18 is not given
--     rule-links       the links are the question's
--     rule-counts      the counts are those of choices/assignments, part by part, cut off at the limit
use Prim.Native.Nat.{ℕ, ◌+◌, ◌-◌, ◌*◌, ◌≤◌, ◌<◌}
use mathlib.Core.Path.{◌≡◌, refl, ap, ap₂, ◌∙◌}
use mathlib.Core.Bool.{Bool, true, ◌&&◌}
use mathlib.Core.List.{List, [], ◌∷◌, ◌++◌}
use mathlib.Core.Option.{Option, some}
use native.Mathlib.Omega.{arith}
use lib.ListN.{length, get_or, length-append}
use lib.Seq.{get_or-append_seam}
use Rattle.trees.specs.Tree.{size, labels_of}
use Rattle.trees.proofs.NodeLaws.{size-pos}
use Rattle.list_laws.proofs.TestLaws.{at-all_below}
use Rattle.tables.specs.Climbs.{View}
use Rattle.questions.specs.ready.Members.{ready_list, roots}
use Rattle.questions.specs.ready.Parts.{Given, question_links}
use Rattle.questions.proofs.ready.PartsRun.{Members}
use Rattle.questions.proofs.ready.ListLaws.{list-members, list-last}
use Rattle.questions.specs.Roots.{roots_on}
use Rattle.questions.specs.RootsAnswers.{roots_fit}
use Rattle.questions.specs.Promises.{Reads}
use Rattle.questions.proofs.FitLaws.{fit-facts, given_yes}
use Rattle.questions.proofs.Promised.{all_small}
use Rattle.questions.proofs.RootsBuilt.{roots-built}
use Rattle.choices.specs.assignments.PartCounts.{count_for, tallies}
use Rattle.choices.specs.node_counts.Capped.{capped}
use Rattle.choices.specs.question_counts.CountOn.{open_in, roots_in, states_inside, all_ok, is_countable, count_of, links_of}
use Rattle.choices.proofs.question_counts.RowsBuilt.{all-ok, all-links, all-rows}

module _ (X : View) (G : Given) (R : Reads X G) (plain : G.labels ≡ labels_of G.tree) (few : X.s ≤ 16) (vs : List ℕ)
    (fits : roots_fit X.n (length X.node_table) vs ≡ true) where
  abbrev ms : List ℕ
  ms = roots G.tree vs

  members : Members (open_in vs) G.tree ms
  unfolding roots
  members = list-members (open_in vs) G.tree

  pub rule-roots : roots_in X vs ≡ some (roots G.tree vs)
  rule-roots =
      given_yes X.n X.node_table vs fits
      ∙ ap (λ (m : ℕ). roots_on m X.node_table vs) R.count
      ∙ roots-built G.tree X.node_table R.cells vs
      (λ v m.
      omega (arith, R.count, all_small X.n vs (fit-facts X.n (length X.node_table) vs fits).below v m))

  inside : states_inside X ≡ true
  unfolding states_inside
  inside =
      ap₂ (λ (a b : Bool). a && b)
      (at-all_below X.s X.leaves (λ j h. omega (arith, R.leaf j, R.leaf_below j)))
      (at-all_below X.s X.inner (λ j h.
      let i : (0 * X.k + 0) * X.s + j ≡ j = omega arith in
      omega (arith, ap (λ (z : ℕ). get_or X.inner z 0) i, R.inner 0 0 j, R.inner_below 0 0 j)))

  pub rule-countable : is_countable X vs ≡ true
  unfolding is_countable
  rule-countable =
      ap₂ (λ (a b : Bool). a && b) inside
      (ap (λ (o : Option (List ℕ)). all_ok X vs o) rule-roots
      ∙ all-ok X G R plain few (open_in vs) ms members [] ms refl)

  pub rule-links : links_of X (roots G.tree vs) ≡ question_links G.tree (roots G.tree vs)
  unfolding question_links
  rule-links = all-links X G R plain few (open_in vs) ms members [] ms refl

  abbrev top : ℕ
  top = size G.tree - 1

  -- the plan's root is the last of the roots
  last-is : get_or (roots G.tree vs) (length (roots G.tree vs) - 1) 0 ≡ size G.tree - 1
  unfolding roots
  last-is =
      let L : (l : List ℕ) × (ready_list (open_in vs) G.tree ≡ l ++ (top ∷ [])) =
      list-last (open_in vs) G.tree top (omega (arith, size-pos G.tree)) in
      let n : length (ready_list (open_in vs) G.tree) - 1 ≡ length L.0 =
      omega (arith, ap length L.1, length-append L.0 (top ∷ [])) in
      ap₂ (λ (l : List ℕ) (i : ℕ). get_or l i 0) L.1 n ∙ get_or-append_seam L.0 top [] 0

  some_root : 0 < length (roots G.tree vs)
  unfolding roots
  some_root =
      let L : (l : List ℕ) × (ready_list (open_in vs) G.tree ≡ l ++ (top ∷ [])) =
      list-last (open_in vs) G.tree top (omega (arith, size-pos G.tree)) in
      omega (arith, ap length L.1, length-append L.0 (top ∷ []))

  pub rule-counts : (c : ℕ) → c < 16 → count_of X vs (roots G.tree vs) c
      ≡ capped (count_for (tallies G X.k (open_in vs) (roots G.tree vs)) (size G.tree - 1) c)
  unfolding count_of tallies
  rule-counts c h =
      all-rows X G R plain few (open_in vs) ms members [] ms [] [] refl refl refl (λ i l. absurd (omega arith))
      (length ms - 1) (omega (arith, some_root)) c h
      ∙ ap (λ (v : ℕ). capped (count_for (tallies G X.k (open_in vs) (roots G.tree vs)) v c)) last-is
