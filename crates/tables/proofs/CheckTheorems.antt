-- What the answer of the full check of a rule table means.
--     check-yes, yes-check   it is yes exactly where plan and rules pass and the buffers begin with what the build
--         writes
--     check-no, no-check     it is no exactly where 2 to 11 pass and a buffer begins otherwise
--     build-then-check       what an accepted build leaves is answered with yes
-- Not here: that the equations between neighbouring nodes leave one table only (table_checks/proofs/LocalLaws).
use Prim.Native.Nat.{ℕ}
use mathlib.Core.Path.{◌≡◌, sym, ap, ◌∙◌}
use mathlib.Core.List.{List}
use lib.ListN.{length, take}
use Rattle.formats.specs.Plan.{node_count}
use Rattle.formats.specs.Rules.{state_count}
use Rattle.formats.specs.Checks.{first_no, rule_table_checks, build_checks, node_table_length, state_table_length}
use Rattle.formats.specs.Built.{built_node_table, built_state_table, AsBuilt}
use Rattle.formats.proofs.InputLaws.{rule-table-passes, build-table, passes-build}
use Rattle.std.specs.Prelude.{Bool, true, false, Result, Ok}
use Rattle.formats.specs.declared.refusals.Refusal.{Refusal}
use Rattle.formats.specs.Refusals.{answer_number}
use Rattle.tables.specs.Answers.{BuildDone, CheckDone}
use Rattle.tables.proofs.BuildLaws.{length-built_node_table, length-built_states, built-as-built}
use Rattle.tables.proofs.CheckAnswers.{Begins, begins-room, done-yes, yes-done, done-no, no-done}

-- the number of the first check of 2 to 11 that fails
abbrev pub build_number : List ℕ → List ℕ → List ℕ → List ℕ → ℕ
build_number p r node_table state_table = first_no (build_checks p r (length node_table) (length state_table))

module _ (p r node_table state_table : List ℕ) where
  links-length : first_no (rule_table_checks p r) ≡ 0 → length (built_node_table p) ≡ node_table_length (node_count p)
  links-length pass = length-built_node_table p (rule-table-passes p r pass).0

  states_length : first_no (rule_table_checks p r) ≡ 0
      → length (built_state_table p r) ≡ state_table_length (node_count p) (state_count r)
  states_length pass = length-built_states p (rule-table-passes p r pass).0 r

  -- plan and rules pass and the buffers begin with what the build writes
  begins-built : first_no (rule_table_checks p r) ≡ 0 → Begins (built_node_table p) (built_state_table p r) node_table state_table
      → AsBuilt p r node_table state_table
  begins-built pass b = record {
    accepted = pass;
    links = ap (λ (n : ℕ). take n node_table) (sym (links-length pass)) ∙ b.0;
    states = ap (λ (n : ℕ). take n state_table) (sym (states_length pass)) ∙ b.1;
  }

  built-begins : AsBuilt p r node_table state_table → Begins (built_node_table p) (built_state_table p r) node_table state_table
  built-begins B = (
    ap (λ (n : ℕ). take n node_table) (links-length B.accepted) ∙ B.links,
    ap (λ (n : ℕ). take n state_table) (states_length B.accepted) ∙ B.states,
  )

  -- tables as built have room
  pub built-passes : AsBuilt p r node_table state_table → build_number p r node_table state_table ≡ 0
  built-passes B =
      let s : ℕ = state_table_length (node_count p) (state_count r) in
      passes-build p r (length node_table) (length state_table) B.accepted
      (begins-room (node_table_length (node_count p)) node_table (built_node_table p) B.links (links-length B.accepted))
      (begins-room s state_table (built_state_table p r) B.states (states_length B.accepted))

  module _ (answer : Result Bool Refusal)
      (done : CheckDone (build_number p r node_table state_table) (built_node_table p) (built_state_table p r) node_table state_table answer) where
    pub check-yes : answer ≡ Ok true → AsBuilt p r node_table state_table
    check-yes e =
        let q : (build_number p r node_table state_table ≡ 0) × Begins (built_node_table p) (built_state_table p r) node_table state_table =
        done-yes (build_number p r node_table state_table) (built_node_table p) (built_state_table p r) node_table state_table answer done e in
        begins-built (build-table p r (length node_table) (length state_table) q.0) q.1

    pub yes-check : AsBuilt p r node_table state_table → answer ≡ Ok true
    yes-check B =
        yes-done (build_number p r node_table state_table) (built_node_table p) (built_state_table p r) node_table state_table answer done (built-passes B)
        (built-begins B)

    pub check-no : answer ≡ Ok false → (build_number p r node_table state_table ≡ 0) × (AsBuilt p r node_table state_table → ⊥)
    check-no e =
        let q : (build_number p r node_table state_table ≡ 0) × (Begins (built_node_table p) (built_state_table p r) node_table state_table → ⊥) =
        done-no (build_number p r node_table state_table) (built_node_table p) (built_state_table p r) node_table state_table answer done e in
        (q.0, λ B. q.1 (built-begins B))

    pub no-check : build_number p r node_table state_table ≡ 0 → (AsBuilt p r node_table state_table → ⊥) → answer ≡ Ok false
    no-check pass not-built =
        no-done (build_number p r node_table state_table) (built_node_table p) (built_state_table p r) node_table state_table answer done pass
        (λ b. not-built (begins-built (build-table p r (length node_table) (length state_table) pass) b))

-- node_table and bytes before an accepted build, node_table' and bytes' after it
pub build-then-check : (p r node_table state_table node_table' state_table' : List ℕ) (built : Result Unit Refusal) (checked : Result Bool Refusal)
    → BuildDone (build_number p r node_table state_table) (built_node_table p) (built_state_table p r) node_table state_table built node_table' state_table'
    → answer_number built ≡ 0
    → CheckDone (build_number p r node_table' state_table') (built_node_table p) (built_state_table p r) node_table' state_table' checked → checked ≡ Ok true
build-then-check p r node_table state_table node_table' state_table' built checked B e C =
    yes-check p r node_table' state_table' checked C (built-as-built p r node_table state_table node_table' state_table' built B e)
