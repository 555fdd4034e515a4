-- What the answers of the build and of the full check for a branch table mean.
--     written-branch-built, built-branch-built   an accepted build leaves both buffers as built, for any excess
--     check-yes, yes-check   the check's answer is yes exactly where plan and branch table pass and the tables are as
--         built
--     check-no, no-check     it is no exactly where 2 to 11 pass and the tables are not as built
--     build-then-check       what an accepted build leaves is answered with yes
use Prim.Native.Nat.{ℕ}
use mathlib.Core.Path.{◌≡◌, sym, ap, ◌∙◌}
use mathlib.Core.List.{List, ◌++◌}
use Rattle.std.specs.Prelude.{Bool, true, false, Result, Ok}
use lib.ListN.{length, take, drop}
use lib.Seq.{take_at}
use Rattle.formats.specs.Plan.{node_count}
use Rattle.formats.specs.Rules.{state_count}
use Rattle.formats.specs.Checks.{first_no, branch_table_checks, branch_build_checks, node_table_length, state_table_length}
use Rattle.formats.specs.Built.{built_node_table, built_branch_table, BranchBuilt}
use Rattle.formats.proofs.InputLaws.{branch-table-passes, branch-build-table, passes-branch-build}
use Rattle.formats.specs.Refusals.{answer_number}
use Rattle.formats.specs.declared.refusals.Refusal.{Refusal}
use Rattle.tables.specs.Answers.{BuildDone, CheckDone}
use Rattle.tables.proofs.BuildLaws.{length-built_node_table, built-lists}
use Rattle.tables.proofs.CheckAnswers.{Begins, begins-room, done-yes, yes-done, done-no, no-done}
use Rattle.branches.proofs.BranchInputs.{length-built_steps}

-- the number of the first check of 2 to 11 that fails
abbrev pub branch_build_number : List ℕ → List ℕ → List ℕ → List ℕ → ℕ
branch_build_number p r node_table state_table = first_no (branch_build_checks p r (length node_table) (length state_table))

module _ (p r : List ℕ) (pass : first_no (branch_table_checks p r) ≡ 0) where
  links-length : length (built_node_table p) ≡ node_table_length (node_count p)
  links-length = length-built_node_table p (branch-table-passes p r pass).0

  steps-length : length (built_branch_table p r) ≡ state_table_length (node_count p) (state_count r)
  steps-length = length-built_steps p r (branch-table-passes p r pass).0

  -- any excess
  pub written-branch-built : (x y : List ℕ) → BranchBuilt p r (built_node_table p ++ x) (built_branch_table p r ++ y)
  written-branch-built x y = record {
    accepted = pass;
    links = take_at (built_node_table p) x (node_table_length (node_count p)) links-length;
    states = take_at (built_branch_table p r) y (state_table_length (node_count p) (state_count r)) steps-length;
  }

-- for any buffers, an accepted build leaves them as built
pub built-branch-built : (p r node_table state_table node_table' state_table' : List ℕ) (answer : Result Unit Refusal)
    → BuildDone (branch_build_number p r node_table state_table) (built_node_table p) (built_branch_table p r) node_table state_table answer node_table' state_table'
    → answer_number answer ≡ 0 → BranchBuilt p r node_table' state_table'
built-branch-built p r node_table state_table node_table' state_table' answer D e =
    let q = built-lists _ (built_node_table p) (built_branch_table p r) node_table state_table answer node_table' state_table' D e in
    rw (q.1, q.2) (written-branch-built p r (branch-build-table p r (length node_table) (length state_table) q.0)
    (drop (length (built_node_table p)) node_table) (drop (length (built_branch_table p r)) state_table))

-- ---- yes and no

module _ (p r node_table state_table : List ℕ) where
  begins-built : first_no (branch_table_checks p r) ≡ 0 → Begins (built_node_table p) (built_branch_table p r) node_table state_table
      → BranchBuilt p r node_table state_table
  begins-built pass b = record {
    accepted = pass;
    links = ap (λ (n : ℕ). take n node_table) (sym (links-length p r pass)) ∙ b.0;
    states = ap (λ (n : ℕ). take n state_table) (sym (steps-length p r pass)) ∙ b.1;
  }

  built-begins : BranchBuilt p r node_table state_table → Begins (built_node_table p) (built_branch_table p r) node_table state_table
  built-begins B = (
    ap (λ (n : ℕ). take n node_table) (links-length p r B.accepted) ∙ B.links,
    ap (λ (n : ℕ). take n state_table) (steps-length p r B.accepted) ∙ B.states,
  )

  -- tables as built have room
  pub branch-built-passes : BranchBuilt p r node_table state_table → branch_build_number p r node_table state_table ≡ 0
  branch-built-passes B =
      passes-branch-build p r (length node_table) (length state_table) B.accepted
      (begins-room (node_table_length (node_count p)) node_table (built_node_table p) B.links (links-length p r B.accepted))
      (begins-room (state_table_length (node_count p) (state_count r)) state_table (built_branch_table p r) B.states
      (steps-length p r B.accepted))

  module _ (answer : Result Bool Refusal)
      (done : CheckDone (branch_build_number p r node_table state_table) (built_node_table p) (built_branch_table p r) node_table state_table answer) where
    pub check-yes : answer ≡ Ok true → BranchBuilt p r node_table state_table
    check-yes e =
        let q = done-yes (branch_build_number p r node_table state_table) (built_node_table p) (built_branch_table p r) node_table state_table answer done e in
        begins-built (branch-build-table p r (length node_table) (length state_table) q.0) q.1

    pub yes-check : BranchBuilt p r node_table state_table → answer ≡ Ok true
    yes-check B =
        yes-done (branch_build_number p r node_table state_table) (built_node_table p) (built_branch_table p r) node_table state_table answer done
        (branch-built-passes B)
        (built-begins B)

    pub check-no : answer ≡ Ok false → (branch_build_number p r node_table state_table ≡ 0) × (BranchBuilt p r node_table state_table → ⊥)
    check-no e =
        let q = done-no (branch_build_number p r node_table state_table) (built_node_table p) (built_branch_table p r) node_table state_table answer done e in
        (q.0, λ B. q.1 (built-begins B))

    pub no-check : branch_build_number p r node_table state_table ≡ 0 → (BranchBuilt p r node_table state_table → ⊥) → answer ≡ Ok false
    no-check pass not-built =
        no-done (branch_build_number p r node_table state_table) (built_node_table p) (built_branch_table p r) node_table state_table answer done pass
        (λ b. not-built (begins-built (branch-build-table p r (length node_table) (length state_table) pass) b))

-- node_table and bytes before an accepted build, node_table' and bytes' after it
pub build-then-check : (p r node_table state_table node_table' state_table' : List ℕ) (built : Result Unit Refusal) (checked : Result Bool Refusal)
    → BuildDone (branch_build_number p r node_table state_table) (built_node_table p) (built_branch_table p r) node_table state_table built node_table' state_table'
    → answer_number built ≡ 0
    → CheckDone (branch_build_number p r node_table' state_table') (built_node_table p) (built_branch_table p r) node_table' state_table' checked
    → checked ≡ Ok true
build-then-check p r node_table state_table node_table' state_table' built checked B e C =
    yes-check p r node_table' state_table' checked C (built-branch-built p r node_table state_table node_table' state_table' built B e)
