-- Two rule tables (document 02, S-6 and S-13), over the promises of whatif_merge and whatif_agree.
--     merge-passes, merge-state, merge-run, merge-clears   the bytes written are a rule table, its states are the
--                            pairs, its run is the pair of runs, and it clears exactly the plans that both clear
--     merge-excess           what was behind it is still there
--     agree-exactly          the reply is agreement exactly where every plan gets the same answer from both
--     agree-or-lines         else 0, and at least one line
--     agree-separates        the lines, as the numbers that were written, are a separating plan
--     agree-named, agree-writes   which one: the plan that the definition names; its numbers, and the excess untouched
-- The numbers, and that a refused call alters nothing: Calls.
use Prim.Native.Nat.{ℕ, ◌+◌, ◌*◌, ◌≤◌, ◌<◌}
use mathlib.Core.Path.{◌≡◌, refl, sym, ap, ap₂, ◌∙◌, subst}
use mathlib.Core.Bool.{Bool, cond, ◌&&◌}
use mathlib.Core.List.{List, ◌++◌}
use mathlib.Core.Logic.{◌↔◌}
use native.Mathlib.Decide.{ℕ_discrete}
use native.Mathlib.Omega.{arith}
use lib.Dec.{eqb}
use lib.ListN.{length, get_or, drop, get_or-append}
use lib.Seq.{take_at}
use borrow.Author.Tests.{ne_eqb}
use Rattle.list_laws.proofs.RowLaws.{length-rows, get_d_rows}
use Rattle.trees.specs.Tree.{Tree}
use Rattle.trees.specs.Automaton.{root_label, run, state, accepts}
use Rattle.formats.specs.Rules.{state_count, label_count, rule_length, rule_automaton}
use Rattle.formats.specs.Checks.{first_no, rule_checks}
use Rattle.formats.proofs.RuleLaws.{RulesPass, pass-rules}
use Rattle.products.specs.Product.{pair_tree}
use Rattle.products.specs.Plans.{PlanOf}
use Rattle.products.specs.merging.Merged.{merged_bytes}
use Rattle.products.specs.agreement.Agreement.{Agree, Separates}
use Rattle.products.specs.agreement.Reply as reply
use Rattle.products.specs.agreement.Reply.{shown_reply}
use Rattle.products.specs.declared.agreement.Agreement.{Agreement}
use Rattle.products.proofs.merging.Theorems.{Mergeable, accepted-mergeable, merged-table-passes, merged-table-run}
use Rattle.products.proofs.merging.Theorems.{merged-table-clears}
use Rattle.products.proofs.agreement.ReplyLaws.{lines-reply}
use Rattle.capi.specs.product_calls.Exported.{MergeExported, line_row, lines_for, shown, AgreeExported}
use Rattle.capi.proofs.product_calls.Theorems as calls
use Rattle.claims.specs.ProductBuffers.{merged_in, lines_in, numbers_of_lines}
use Rattle.claims.proofs.ProductLaws.{lines-read, length-lines, row-numbers}

-- ---- merged

module _ (first second out : List ℕ) (n : ℕ) (out' : List ℕ) (E : MergeExported first second out n out')
    (accepted : n ≡ 0) where
  M : Mergeable first second
  M = accepted-mergeable first second (length out) (sym E.number ∙ accepted)

  passes : RulesPass (merged_bytes first second) × (state_count (merged_bytes first second)
      ≡ state_count first * state_count second) × (label_count (merged_bytes first second) ≡ label_count first)
  passes = merged-table-passes first second M.first_passes M.second_passes M.few-states

  long : length (merged_bytes first second) ≡ rule_length (state_count first * state_count second) (label_count first)
  long = passes.0.exact ∙ ap₂ rule_length passes.1 passes.2

  read : merged_in first second out' ≡ merged_bytes first second
  read =
      ap (merged_in first second) (E.merged accepted)
      ∙ take_at (merged_bytes first second) (drop (length (merged_bytes first second)) out) _ long

  -- "one table": it passes 6 to 9, with S1 × S2 states and the common K
  merge-passes : (first_no (rule_checks (merged_in first second out')) ≡ 0)
      × (state_count (merged_in first second out') ≡ state_count first * state_count second)
      × (label_count (merged_in first second out') ≡ label_count first)
  merge-passes = (
    ap (λ (b : List ℕ). first_no (rule_checks b)) read ∙ pass-rules (merged_bytes first second) passes.0,
    ap state_count read ∙ passes.1,
    ap label_count read ∙ passes.2,
  )

  -- "the run of the merged table is the pair of runs on every plan"
  merge-run : (t : Tree) → PlanOf (label_count first) t
      → run (rule_automaton (merged_in first second out')) t
      ≡ pair_tree (state_count second) (run (rule_automaton first) t) (run (rule_automaton second) t)
  merge-run t h =
      ap (λ (b : List ℕ). run (rule_automaton b) t) read
      ∙ merged-table-run first second M.first_passes M.second_passes M.few-states t h

  -- "State p of the first and q of the second become p×S2+q, where S2 is the second's count of states"
  merge-state : (t : Tree) → PlanOf (label_count first) t
      → state (rule_automaton (merged_in first second out')) t
      ≡ state (rule_automaton first) t * state_count second + state (rule_automaton second) t
  merge-state t h = ap root_label (merge-run t h) ∙ root (run (rule_automaton first) t) (run (rule_automaton second) t)
    where
      root : (u v : Tree) → root_label (pair_tree (state_count second) u v)
          ≡ root_label u * state_count second + root_label v
      root (Tree.leaf x) v = refl
      root (Tree.node l x r) v = refl

  -- "They want one table that clears exactly the plans that both clear."
  merge-clears : (t : Tree) → PlanOf (label_count first) t
      → accepts (rule_automaton (merged_in first second out')) t
      ≡ (accepts (rule_automaton first) t && accepts (rule_automaton second) t)
  merge-clears t h =
      ap (λ (b : List ℕ). accepts (rule_automaton b) t) read
      ∙ merged-table-clears first second M.first_passes M.second_passes M.few-states t h

  merge-excess : out' ≡ merged_in first second out'
      ++ drop (rule_length (state_count first * state_count second) (label_count first)) out
  merge-excess =
      E.merged accepted ∙ ap₂ (λ (b : List ℕ) (i : ℕ). b ++ drop i out) (sym read) long

-- ---- agreement

module _ (first second lines : List ℕ) (agreed count n : ℕ) (lines' : List ℕ) (agreed' count' : ℕ)
    (E : AgreeExported first second lines agreed count n lines' agreed' count') (accepted : n ≡ 0) where
  -- "Two tables agree when every plan, of any size, gets yes from both or no from both. The reply is agreement, exactly
  -- when that holds"
  agree-exactly : (agreed' ≡ 1) ↔ Agree (rule_automaton first) (rule_automaton second) (label_count first)
  agree-exactly = calls.agree-exactly first second lines agreed count n lines' agreed' count' E accepted

  -- "or else .. a separating plan": 0 is answered for no, and lines are shown
  agree-or-lines : (Agree (rule_automaton first) (rule_automaton second) (label_count first) → ⊥)
      → (agreed' ≡ 0) × (0 < count')
  agree-or-lines h = elim (ℕ_discrete (shown first second).count 0) [
    | yes z ↦ absurd (h (agree-exactly.0 (E.agreed_is accepted ∙ ap (λ (c : ℕ). cond (eqb c 0) 1 0) z)))
    | no z ↦ (
      E.agreed_is accepted ∙ ap (λ (b : Bool). cond b 1 0) (ne_eqb (shown first second).count 0 z),
      omega (arith, E.count_is accepted),
    )
  ]

  lines_are : lines_in lines' count' ≡ reply.lines_in (shown first second)
  lines_are =
      let R : Agreement = shown first second in
      let row : ℕ → List ℕ = line_row R.kinds R.labels R.lefts R.rights in
      ap (lines_in lines') (E.count_is accepted)
      ∙ lines-read R.kinds R.labels R.lefts R.rights lines' R.count (λ i k h l.
      ap (λ (b : List ℕ). get_or b (i * 4 + k) 0) (E.written accepted)
      ∙ get_or-append (lines_for R) (drop (length (lines_for R)) lines) 0 (i * 4 + k)
      (omega (arith, length-rows R.count 4 row (λ v q. refl)))
      ∙ get_d_rows R.count 4 row (λ v q. refl) i k h l)

  -- "a separating plan as at most 256 lines, each a leaf's label or a label with two earlier lines as left and right;
  -- the last line is the root": the numbers that were written, read line by line
  agree-separates : 0 < count'
      → Separates (rule_automaton first) (rule_automaton second) (label_count first) (lines_in lines' count')
  agree-separates h =
      subst (Separates (rule_automaton first) (rule_automaton second) (label_count first)) (sym lines_are)
      (calls.agree-separates first second lines agreed count n lines' agreed' count' E accepted h)

  shown-few : length (shown_reply first second) ≤ 256
  shown-few =
      let c : count' ≡ length (shown_reply first second) = E.count_is accepted in
      elim (ℕ_discrete count' 0) [
        | yes z ↦ omega (arith, c)
        | no z ↦ omega (arith, c, length-lines lines' count', (agree-separates (omega arith)).at_most)
      ]

  -- "Which separating plan is shown may be left to the program; its name and its properties then stand in the
  -- contract."
  agree-named : lines_in lines' count' ≡ shown_reply first second
  agree-named = lines_are ∙ lines-reply (shown_reply first second) shown-few

  -- the numbers themselves, four for each line, and behind them what was there
  agree-writes : (count' ≡ length (shown_reply first second))
      × (lines' ≡ numbers_of_lines (shown_reply first second) ++ drop (count' * 4) lines)
  agree-writes =
      let c : count' ≡ length (shown_reply first second) = E.count_is accepted in
      let R : Agreement = shown first second in
      let x : lines_for R ≡ numbers_of_lines (shown_reply first second) =
      row-numbers (shown_reply first second) shown-few in
      let row : ℕ → List ℕ = line_row R.kinds R.labels R.lefts R.rights in
      let z : length (lines_for R) ≡ count' * 4 =
      length-rows R.count 4 row (λ v q. refl) ∙ ap (λ (i : ℕ). i * 4) (sym (E.count_is accepted)) in
      (c, E.written accepted ∙ ap₂ (λ (l : List ℕ) (i : ℕ). l ++ drop i lines) x z)

  -- where the tables agree no line is written
  agree-untouched : agreed' ≡ 1 → lines' ≡ lines
  agree-untouched = calls.agree-untouched first second lines agreed count n lines' agreed' count' E accepted
