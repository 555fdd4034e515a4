-- "It may lend what Load wrote": for any inputs that Load accepts, what it leaves in the buffers is sound for that
-- plan's N, S and K, longer buffers and their excess included. So every plan and rule table passes Start's 18 after its
-- Load.
--     loaded x          the inputs after an accepted Load
--     written-sound, written-fits     they are sound, and long enough
--     start-written     so a Start on them is accepted with any list that passes 12 to 14
use Prim.Native.Nat.{ℕ, ◌≤◌}
use mathlib.Core.Path.{◌≡◌, refl, ap, ◌∙◌}
use mathlib.Core.Bool.{true, ◌&&◌}
use mathlib.Core.List.{List, [], ◌∷◌, ◌++◌}
use mathlib.Core.Option.{Option}
use native.Mathlib.Omega.{arith}
use lib.Dec.{leb, eqb}
use lib.ListN.{length, drop, length-append}
use lib.Seq.{take_at}
use borrow.Author.Tests.{eq-eqb, le-leb}
use Rattle.trees.specs.Tree.{size}
use Rattle.formats.specs.Plan.{node_count, plan_length, plan_tree}
use Rattle.formats.specs.Rules.{state_count, label_count, rule_length, rule_automaton}
use Rattle.formats.specs.Checks.{check, first_no, rule_table_checks, build_checks, list_checks, node_table_length, state_table_length}
use Rattle.formats.specs.Built.{built_node_table, built_state_table}
use Rattle.list_laws.proofs.BoolLaws.{and_both}
use Rattle.formats.proofs.CheckLaws.{first_no-none, first_no-yes, first_no-tail, first_no-append-zero}
use Rattle.list_laws.proofs.TestLaws.{same_list-is}
use Rattle.formats.proofs.PlanLaws.{size-plan_tree}
use Rattle.formats.proofs.InputLaws.{rule-table-passes, build-table}
use Rattle.tables.specs.Answers.{written}
use Rattle.tables.proofs.node_tables.CellLaws.{length-node_table_of}
use Rattle.formats.specs.Inputs.{Inputs, sizes_in, fits, used_node_table, used_state_table, node_table_built, state_table_built}
use Rattle.formats.specs.Inputs.{sound}
use Rattle.model.specs.Calls.{load, start, parts, may_load, may_start, is_some}
use Rattle.model.specs.Refusals.{Stage, stage, checks_before18, refusal}
use Rattle.model.proofs.ModelLaws.{before-numbered}
use Rattle.reference.specs.Reference.{Question, State, settled, phase, in_state, step}
use Rattle.reference.specs.Reference.{decided, proceed, part_count, asked, starting}
use Rattle.formats.proofs.InputsLaws.{built-node-table}
use Rattle.tables.proofs.TableLoop.{length-state_table_of}
use Rattle.reference.proofs.Simulation.{reference_of}

-- plan and rules as they were, and what Load leaves in the two buffers
unfoldable pub loaded : Inputs → Inputs
loaded x = record {
  plan = x.plan;
  rules = x.rules;
  node_table = written 0 (built_node_table x.plan) x.node_table;
  state_table = written 0 (built_state_table x.plan x.rules) x.state_table;
}

load-passes : (t : Stage) (x : Inputs) → refusal t (load x) ≡ 0
    → first_no (rule_table_checks x.plan x.rules) ≡ 0
unfolding refusal
load-passes t x e =
    build-table x.plan x.rules (length x.node_table) (length x.state_table)
    (first_no-tail 1 (may_load t.phase) (build_checks x.plan x.rules (length x.node_table) (length x.state_table))
    (omega arith) e)

fits_all : (a b c d e f g h : ℕ) → a ≡ b → c ≡ d → e ≤ f → g ≤ h → (eqb a b && (eqb c d && (leb e f && leb g h))) ≡ true
fits_all a b c d e f g h i j k l =
    and_both (eqb a b) (eqb c d && (leb e f && leb g h)) (eq-eqb a b i)
    (and_both (eqb c d) (leb e f && leb g h) (eq-eqb c d j)
    (and_both (leb e f) (leb g h) (le-leb e f k) (le-leb g h l)))

module _ (x : Inputs) (passed : first_no (rule_table_checks x.plan x.rules) ≡ 0) where
  count : size (plan_tree x.plan) ≡ node_count x.plan
  count = size-plan_tree x.plan (rule-table-passes x.plan x.rules passed).0

  state-table-length : length (built_state_table x.plan x.rules) ≡ state_table_length (node_count x.plan) (state_count x.rules)
  state-table-length =
      length-state_table_of (rule_automaton x.rules) (plan_tree x.plan)
      ∙ ap (λ (n : ℕ). state_table_length n (state_count x.rules)) count

  node_table_written : used_node_table (sizes_in x) (loaded x) ≡ built_node_table x.plan
  unfolding loaded written
  node_table_written =
      take_at (built_node_table x.plan) (drop (length (built_node_table x.plan)) x.node_table) (node_table_length (node_count x.plan))
      (length-node_table_of (plan_tree x.plan) ∙ ap node_table_length count)

  state_table_written : used_state_table (sizes_in x) (loaded x) ≡ built_state_table x.plan x.rules
  unfolding loaded written
  state_table_written =
      take_at (built_state_table x.plan x.rules) (drop (length (built_state_table x.plan x.rules)) x.state_table)
      (state_table_length (node_count x.plan) (state_count x.rules))
      state-table-length

  pub written-links : node_table_built (sizes_in x) (loaded x) ≡ true
  unfolding loaded
  written-links =
      built-node-table (sizes_in x) (loaded x)
      (record { passed = passed; n_is = refl; s_is = refl; k_is = refl; node_table = node_table_written })

  written-state-table : state_table_built (sizes_in x) (loaded x) ≡ true
  unfolding state_table_built loaded
  written-state-table = same_list-is (used_state_table (sizes_in x) (loaded x)) (built_state_table x.plan x.rules) state_table_written

  pub passed-sound : sound (sizes_in x) (loaded x) ≡ true
  unfolding sound
  passed-sound = and_both (node_table_built (sizes_in x) (loaded x)) (state_table_built (sizes_in x) (loaded x)) written-links
      written-state-table

  -- and they are long enough: check 17
  pub passed_fits : fits (sizes_in x) (loaded x) ≡ true
  unfolding fits loaded written
  passed_fits =
      fits_all (length x.plan) (plan_length (node_count x.plan)) (length x.rules)
      (rule_length (state_count x.rules) (label_count x.rules))
      (node_table_length (node_count x.plan)) (length node_table') (state_table_length (node_count x.plan) (state_count x.rules))
      (length state_table')
      (rule-table-passes x.plan x.rules passed).0.exact
      (rule-table-passes x.plan x.rules passed).1.exact
      (omega (
        arith,
        length-node_table_of (plan_tree x.plan),
        ap node_table_length count,
        length-append (built_node_table x.plan)
            (drop (length (built_node_table x.plan)) x.node_table),
      ))
      (omega (
        arith,
        state-table-length,
        length-append (built_state_table x.plan x.rules)
            (drop (length (built_state_table x.plan x.rules)) x.state_table),
      ))
    where
      node_table' : List ℕ
      node_table' = built_node_table x.plan ++ drop (length (built_node_table x.plan)) x.node_table

      state_table' : List ℕ
      state_table' = built_state_table x.plan x.rules ++ drop (length (built_state_table x.plan x.rules)) x.state_table

-- for any contents and any lengths of the buffers
pub written-sound : (t : Stage) (x : Inputs) → refusal t (load x) ≡ 0 → sound (sizes_in x) (loaded x) ≡ true
written-sound t x e = passed-sound x (load-passes t x e)

pub written-fits : (t : Stage) (x : Inputs) → refusal t (load x) ≡ 0 → fits (sizes_in x) (loaded x) ≡ true
written-fits t x e = passed_fits x (load-passes t x e)

-- so a Start on what an accepted Load left is accepted with any list that passes 12 to 14, and returns its number of
-- parts
pub start-written : (t : Stage) (x : Inputs) (s : State) (o : Option Question) (vs bs : List ℕ) → refusal t (load x) ≡ 0
    → may_start (phase s) ≡ true
    → first_no (list_checks (sizes_in x).n (sizes_in x).k vs bs) ≡ 0
    → step (reference_of s (sizes_in x) o) (start (loaded x) vs bs)
    ≡ settled (parts (part_count (asked (loaded x) vs bs)))
    (reference_of (State.running (asked (loaded x) vs bs)) (sizes_in x) o)
unfolding step decided refusal proceed starting in_state
start-written t x s o vs bs e m l =
    ap (λ (n : ℕ). decided n (reference_of s (sizes_in x) o) (start (loaded x) vs bs))
    (first_no-append-zero (checks_before18 (stage (phase s) (sizes_in x) (is_some o)) (loaded x) vs bs) (check 18 (sound (sizes_in x) (loaded x)) ∷ [])
    (before-numbered (stage (phase s) (sizes_in x) (is_some o)) (loaded x) vs bs)
    (first_no-yes 1 (may_start (phase s))
    (check 17 (fits (sizes_in x) (loaded x)) ∷ list_checks (sizes_in x).n (sizes_in x).k vs bs) m
    ∙ first_no-yes 17 (fits (sizes_in x) (loaded x)) (list_checks (sizes_in x).n (sizes_in x).k vs bs)
    (written-fits t x e) ∙ l)
    ∙ first_no-yes 18 (sound (sizes_in x) (loaded x)) [] (written-sound t x e) ∙ first_no-none)
