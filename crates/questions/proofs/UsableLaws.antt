-- Plan and rules that pass, and a node table as built, beside a state table that is long enough: what a question outside
-- the session reads of them.
--     plan-passes, rules-pass, size_is   the plan and the rules pass 2 to 9
--     node_table_room, lengths, heads    the tables and the headers pass 17
--     made, settled                      the inputs are as at a build, and settle the parts of a list that passes 12 to 14
--     left_is, roots-are                 what such a list leaves in W, and the roots of its parts
use Rattle.std.proofs.Common.{◌≡◌, ℕ, ◌*◌, ◌≤◌, Bool, true, cond, eqb, leb, List, [], length, take, sym, refl, ap, ◌∙◌, arith, length-take-le, eq-eqb, le-leb}
use mathlib.Core.Option.{some}
use Rattle.list_laws.specs.Tests.{all_below}
use Rattle.list_laws.proofs.BoolLaws.{and_both}
use Rattle.trees.specs.Tree.{size}
use Rattle.formats.specs.Limits.{change_limit}
use Rattle.formats.specs.Plan.{node_count, plan_tree, labels_within}
use Rattle.formats.specs.Rules.{state_count, label_count, rule_length}
use Rattle.formats.specs.Checks.{first_no, list_checks, rule_table_checks, node_table_length, state_table_length}
use Rattle.formats.specs.Buffers.{buffers_fit, headers_fit}
use Rattle.formats.specs.Inputs.{inputs_of, sizes_in, fits, states_below}
use Rattle.formats.specs.Passing.{PlanPasses, Built}
use Rattle.formats.specs.Built.{node_table_part, built_node_table}
use Rattle.formats.proofs.PlanLaws.{size-plan_tree}
use Rattle.formats.proofs.RuleLaws.{RulesPass}
use Rattle.formats.proofs.InputLaws.{rule-table-passes, ListPasses, list-passes}
use Rattle.formats.proofs.BufferLaws.{are-limits, are-lengths}
use Rattle.formats.proofs.InputsLaws.{built-node-table, node-inputs-same}
use Rattle.tables.proofs.CheckAnswers.{begins-room}
use Rattle.tables.proofs.node_tables.CellLaws.{length-node_table_of}
use Rattle.changes.specs.Differing.{differing}
use Rattle.changes.specs.inner.LastDiffering.{last_differing, given_differing}
use Rattle.changes.proofs.LastDifferingLaws.{last-same, last-most, last_below}
use Rattle.questions.specs.ready.Members.{roots}
use Rattle.questions.proofs.ready.MonotoneLaws.{roots-same}
use Rattle.questions.specs.Roots.{roots_on}
use Rattle.questions.specs.RootsAnswers.{roots_given}
use Rattle.questions.specs.PartInputs.{SettledInputs}
use Rattle.questions.proofs.FitLaws.{fit_all, given_yes}
use Rattle.questions.proofs.Promised.{all_small}
use Rattle.questions.proofs.RootsBuilt.{roots-built}
use Rattle.questions.proofs.PartInputsLaws.{cells}

module _ (p r node_table state_table : List ℕ) (accepted : first_no (rule_table_checks p r) ≡ 0)
    (links : node_table_part (node_count p) node_table ≡ built_node_table p) where
  abbrev n : ℕ
  n = node_count p

  pub plan-passes : PlanPasses p
  plan-passes = (rule-table-passes p r accepted).0

  pub rules-pass : RulesPass r
  rules-pass = (rule-table-passes p r accepted).1

  pub size_is : size (plan_tree p) ≡ node_count p
  size_is = size-plan_tree p plan-passes

  -- ---- 17

  pub node_table_room : node_count p * 4 ≤ length node_table
  node_table_room = begins-room (n * 4) node_table _ links (length-node_table_of (plan_tree p) ∙ ap (λ (m : ℕ). m * 4) size_is)

  pub lengths : state_table_length (node_count p) (state_count r) ≤ length state_table
      → buffers_fit (node_count p) (state_count r) (rule_length (state_count r) (label_count r)) (length p) (length r)
      (length node_table) (length state_table) ≡ true
  lengths room =
      are-lengths n (state_count r) (rule_length (state_count r) (label_count r)) (length p) (length r) (length node_table)
      (length state_table)
      (record {
        plan_is = plan-passes.exact;
        table_is = rules-pass.exact;
        node_table_room = node_table_room;
        state_table_room = room;
      })

  pub heads : headers_fit 20 p r ≡ true
  unfolding headers_fit
  heads =
      rw (
        le-leb 12 (length p) plan-passes.long,
        le-leb 20 (length r) rules-pass.long,
        are-limits (node_count p) (state_count r) (label_count r) (record {
          nodes = plan-passes.least;
          most = plan-passes.most;
          states = rules-pass.states-least;
          few = rules-pass.states_most;
          labels = rules-pass.labels_least;
          labels_most = rules-pass.labels_most;
        }),
      )

  -- ---- the inputs

  pub made : Built (sizes_in (inputs_of p r node_table state_table)) (inputs_of p r node_table state_table)
  made = record { passed = accepted; n_is = refl; s_is = refl; k_is = refl; node_table = links }

  module _ (vs bs : List ℕ) (ok : first_no (list_checks (node_count p) (label_count r) vs bs) ≡ 0) where
    pub settled : state_table_length (node_count p) (state_count r) ≤ length state_table
        → states_below (sizes_in (inputs_of p r node_table state_table)) (inputs_of p r node_table state_table) ≡ true
        → SettledInputs (sizes_in (inputs_of p r node_table state_table)) (inputs_of p r node_table state_table) vs bs
        (inputs_of p r node_table state_table)
    unfolding fits buffers_fit
    settled room below =
        let x = inputs_of p r node_table state_table in
        record {
          built = built-node-table (sizes_in x) x made;
          same = node-inputs-same (sizes_in x) x x (record { plan = refl; rules = refl; node_table = refl });
          below = below;
          room = lengths room;
          listed = ok;
        }

    -- ---- the roots

    listed : ListPasses (node_count p) (label_count r) vs bs
    listed = list-passes (node_count p) (label_count r) vs bs ok

    abbrev left : List ℕ
    left = given_differing (labels_within p) vs bs

    pub left_is : given_differing (labels_within p) vs bs ≡ last_differing (labels_within p) vs bs
    left_is =
        ap (λ (b : Bool). cond b (last_differing (labels_within p) vs bs) [])
        (and_both (eqb (length vs) (length bs)) (leb (length vs) change_limit)
        (eq-eqb (length vs) (length bs) listed.lengths) (le-leb (length vs) change_limit listed.most))

    left_few : length left ≤ 64
    left_few = omega (arith, ap length left_is, last-most (labels_within p) vs bs, listed.most)

    left_inside : all_below (node_count p) left ≡ true
    left_inside = ap (all_below n) left_is ∙ last_below n (labels_within p) vs bs listed.nodes-below

    pub roots-are : roots_given (node_count p) (take (node_table_length (node_count p)) node_table)
        (given_differing (labels_within p) vs bs) ≡ some (roots (plan_tree p) (differing (labels_within p) vs bs))
    roots-are =
        let part : List ℕ = take (node_table_length n) node_table in
        given_yes n part left
        (sym (fit_all n (length part) left plan-passes.least plan-passes.most
        (omega (arith, length-take-le (node_table_length n) node_table node_table_room)) left_few) ∙ left_inside)
        ∙ ap (λ (i : ℕ). roots_on i part left) (sym size_is)
        ∙ roots-built (plan_tree p) part (cells _ _ made) left
        (λ v m. omega (arith, size_is, all_small n left left_inside v m))
        ∙ ap some (ap (roots (plan_tree p)) left_is
        ∙ roots-same (plan_tree p) (last_differing (labels_within p) vs bs) (differing (labels_within p) vs bs)
        (λ v. last-same (labels_within p) vs bs v listed.lengths))
