-- What the contract of the exported count claims, as the prover itself reads it off the source (`Reads.Post`), is what
-- the theorems take (`CountExported`). A contract that promises less is refused here.
--     count-tied      the contract is CountExported
--     count-number    the first check that fails: 17, 12, 13, 15, 26, 18, then 11
--     count_kept      refused: the buffer and both output parameters are unchanged
--     count-promised    the named result that is returned has the by-value promise (`CountDone`): its cause of 18, its
--                       properties for any inputs
--     count-none-open   accepted with no open node, on tables as built: one part, no links, the run's own state has
--                       count 1
use Prim.Native.Nat.{ℕ, ◌+◌, ◌-◌, ◌<◌}
use mathlib.Core.Path.{◌≡◌, refl, sym, ap, ◌∙◌, subst}
use mathlib.Core.Bool.{Bool, true, false, cond, ◌&&◌, ◌||◌}
use mathlib.Core.List.{List, [], ◌∷◌, ◌++◌}
use mathlib.Core.Option.{some}
use native.Mathlib.Omega.{arith}
use lib.Dec.{eqb, leb, ltb}
use lib.ListN.{length, get_or, drop, get_or-append}
use borrow.Author.Tests.{lt-leb}
use contract.Lifetimes.{Lfts}
use borrow.Fn.World.{ArgsD, ResD}
use borrow.Fn.Kinds.{ended_of}
use denote.Triple.Clauses.{AtExit}
use Rattle.list_laws.specs.Tests.{holds}
use Rattle.list_laws.specs.Rows.{tabulate}
use Rattle.list_laws.proofs.BoolLaws.{true-false}
use Rattle.list_laws.proofs.RowLaws.{length-tabulate, get_d_tabulate}
use Rattle.trees.specs.Tree.{Tree, leaf, node, size, kind_at}
use Rattle.trees.specs.Automaton.{state}
use Rattle.trees.specs.Numbering.{sub, is_in_subtree}
use Rattle.trees.proofs.NodeLaws.{size-pos}
use Rattle.formats.specs.Plan.{plan_tree}
use Rattle.formats.specs.Rules.{state_count, label_count, rule_automaton}
use Rattle.formats.specs.Checks.{check, first_no}
use Rattle.formats.specs.Built.{AsBuilt}
use Rattle.formats.specs.Refusals.{told_as}
use Rattle.formats.proofs.CheckLaws.{first_no-append-left}
use Rattle.questions.specs.ready.Ready.{left_child, right_child}
use Rattle.questions.specs.ready.Members.{roots}
use Rattle.questions.specs.ready.Parts.{any_below, climbed_links, inner_links, part_links, sum_of, question_links}
use Rattle.questions.proofs.ready.ListLaws.{list-last}
use Rattle.choices.specs.assignments.Sums.{one}
use Rattle.choices.specs.assignments.Assignments.{counted}
use Rattle.choices.proofs.assignments.Theorems.{none_open}
use Rattle.choices.specs.question_counts.CountOn.{count_checks, count_number}
use Rattle.choices.specs.declared.count.Counted.{Counted}
use Rattle.choices.specs.Promise.{count_value, count_result, CountDone}
use Rattle.choices.proofs.Theorems as choices
use Rattle.capi.specs.choice_calls.CountExported.{exported_checks, CountExported}
use Rattle.capi.proofs.choice_calls.ExportCases.{checks-numbered}
use Rattle.capi.proofs.choice_calls.Theorems.{count-tried}
use Rattle.capi.specs.contracts.choice_calls.whatif_count as count-fn
use Rattle.capi.proofs.choice_calls.whatif_count.Kinds as count-kinds
use Rattle.capi.proofs.choice_calls.whatif_count.Reads as count-reads

pub count-tied : (κs : Lfts 8) (a : ArgsD count-fn.signature κs) (r : ResD count-fn.signature κs)
    (s : AtExit (ended_of 8 count-kinds.ps count-kinds.r) κs) → count-reads.Post κs a r s
    → CountExported a.0.now a.1.0.now a.1.1.0.now a.1.1.1.0.now a.1.1.1.1.0.now
    a.1.1.1.1.1.0.now a.1.1.1.1.1.1.0.now a.1.1.1.1.1.1.1.0.now r
    s.1.1.1.1.1.0.now s.1.1.1.1.1.1.0.now s.1.1.1.1.1.1.1.0.now
count-tied κs a r s p = p

module _ (p r node_table state_table vs counts : List ℕ) (parts links n : ℕ) (counts' : List ℕ) (parts' links' : ℕ)
    (E : CountExported p r node_table state_table vs counts parts links n counts' parts' links') where
  pub count-number : n ≡ first_no (exported_checks p r node_table state_table vs (length counts))
  count-number = E.number

  pub count_kept : (n ≡ 0 → ⊥) → (counts' ≡ counts) × (parts' ≡ parts) × (links' ≡ links)
  count_kept h = (E.counts_kept h, E.parts_kept h, E.links_kept h)

  -- the named result has the properties of the call below, on any tables: "its name and its properties stand in the
  -- contract"
  pub count-promised : CountDone p r node_table state_table vs (count_result p r node_table state_table vs)
  count-promised = E.done

-- ---- no open node

not_below : (t : Tree) (v c : ℕ) → c < v → any_below (v ∷ []) t c ≡ false
unfolding any_below is_in_subtree
not_below t v c h = ap (λ (b : Bool). (b && ltb c (v + size (sub t c))) || false) (lt-leb v c h)

neither : (k b c : Bool) (m n : ℕ) → b ≡ false → c ≡ false → cond k 0 (cond b (cond c 0 m) (cond c n 0)) + 0 ≡ 0
neither true b c m n f g = refl
neither false true c m n f g = absurd (true-false f)
neither false false true m n f g = absurd (true-false g)
neither false false false m n f g = refl

-- the root alone has no member below a child, so no climb
root-links : (t : Tree) (v : ℕ) → v + 1 ≡ size t → question_links t (v ∷ []) ≡ 0
unfolding question_links sum_of part_links inner_links
root-links (leaf a) v e =
    let z : 0 ≡ v = omega arith in
    subst (λ (x : ℕ). question_links (leaf a) (x ∷ []) ≡ 0) z refl
root-links (node l a r) v e =
    neither (eqb (kind_at (node l a r) v) 0) _ _ (climbed_links (node l a r) (v ∷ []) (left_child (node l a r) v))
    (climbed_links (node l a r) (v ∷ []) (right_child v))
    (not_below (node l a r) v (left_child (node l a r) v) (omega (arith, size-pos l)))
    (not_below (node l a r) v (right_child v) (omega (arith, size-pos l)))

root-alone : (t : Tree) (v : ℕ) → v + 1 ≡ size t → length (roots t []) ≡ 1 → roots t [] ≡ v ∷ []
unfolding roots
root-alone t v e n =
    let L = list-last (λ x. holds x []) t v e in
    L.1 ∙ front L.0 (sym (ap length L.1) ∙ n)
  where
    front : (l : List ℕ) → length (l ++ (v ∷ [])) ≡ 1 → l ++ (v ∷ []) ≡ v ∷ []
    front [] h = refl
    front (x ∷ []) h = absurd (omega arith)
    front (x ∷ (y ∷ l)) h = absurd (omega arith)

module _ (p r node_table state_table counts : List ℕ) (parts links : ℕ) (counts' : List ℕ) (parts' links' : ℕ)
    (E : CountExported p r node_table state_table [] counts parts links 0 counts' parts' links')
    (B : AsBuilt p r node_table state_table) where
  D : CountDone p r node_table state_table [] (count_result p r node_table state_table [])
  D = E.done

  abbrev value : Counted
  value = count_value p r node_table state_table []

  passed : count_number p r node_table state_table [] ≡ 0
  unfolding exported_checks count_number
  passed =
      first_no-append-left (count_checks p r node_table state_table [])
      (check 11 (leb (state_count r) (length counts)) ∷ []) (checks-numbered p r node_table state_table [])
      (sym E.number)

  accepted : count_result p r node_table state_table [] ≡ (0, some value)
  unfolding count_result
  accepted = ap (λ (n : ℕ). told_as n value) passed

  -- "With no open node the run's own state has count 1"
  pub count-none-open : (parts' ≡ 1) × (links' ≡ 0)
      × ((c : ℕ) → c < state_count r → get_or counts' c 0 ≡ one c (state (rule_automaton r) (plan_tree p)))
  count-none-open =
      let single = (choices.count-none-open p r node_table state_table _ D B value accepted).0 in
      let asked = choices.count-parts p r node_table state_table [] _ D B value accepted in
      let top : size (plan_tree p) - 1 + 1 ≡ size (plan_tree p) = omega (arith, size-pos (plan_tree p)) in (
        E.parts_are refl ∙ single,
        E.links_are refl ∙ asked.1
            ∙ ap (question_links (plan_tree p))
            (root-alone (plan_tree p) (size (plan_tree p) - 1) top (sym asked.0 ∙ single))
            ∙ root-links (plan_tree p) (size (plan_tree p) - 1) top,
        λ c h. ap (λ (l : List ℕ). get_or l c 0)
            (count-tried p r node_table state_table [] counts parts links counts' parts' links' E B)
            ∙ get_or-append (tabulate (state_count r) (counted (rule_automaton r) (label_count r) (plan_tree p) []))
            (drop (state_count r) counts) 0 c
            (omega (
              arith,
              length-tabulate (state_count r) (counted (rule_automaton r) (label_count r) (plan_tree p) []),
            ))
            ∙ get_d_tabulate (state_count r) (counted (rule_automaton r) (label_count r) (plan_tree p) []) c h
            ∙ none_open (rule_automaton r) (label_count r) (plan_tree p) c,
      )
