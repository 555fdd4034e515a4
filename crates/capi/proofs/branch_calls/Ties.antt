-- What the contracts of the three exported calls of the branches claim, as the prover itself reads them off the source
-- (`Reads.Post`), is what the statements below take (`BuildExported`, `CheckExported`, `AskExported`). A contract that
-- promises less is refused here.
--     branch-build-tied, branch-check-tied, branch-tied   the contracts are BuildExported and CheckExported, of the
--                         checks 2 to 11 and the tables of the definitions, and AskExported from below the upper node
--     branch-build-number, branch-check-number   the first check of 2 to 11 that fails
--     branch-build-kept, branch-check-kept       refused: both buffers, or the output parameter, are unchanged
--     branch-build-as-built   accepted: both buffers are as built, for any excess
--     branch-check-exactly    accepted with yes exactly where the tables passed in are what the build writes
-- and for either reading of the question, so of `whatif_branch_with_upper` too:
--     branch-number, branch_kept    the first check of 17, 13, 16, 18 that fails; refused: the four output parameters
--                         are unchanged
--     branch-told, branch-apart     on tables as built: the word automaton's state and mark, the links of the climb
--                         from the lower node to the upper's depth, the nodes passed over; 16 where it is not at or
--                         below
use Prim.Native.Nat.{ℕ, ◌-◌, ◌<◌}
use mathlib.Core.Path.{◌≡◌, refl, sym, ap, ◌∙◌, subst}
use mathlib.Core.Bool.{Bool}
use mathlib.Core.List.{List}
use mathlib.Core.Logic.{◌↔◌}
use mathlib.Core.Option.{some}
use lib.ListN.{length}
use Rattle.std.specs.Prelude.{Result, Ok, Err}
use contract.Lifetimes.{Lfts}
use borrow.Fn.World.{ArgsD, ResD}
use borrow.Fn.Kinds.{ended_of}
use denote.Triple.Clauses.{AtExit}
use Rattle.trees.specs.Tree.{size}
use Rattle.trees.specs.Automaton.{word_run}
use Rattle.trees.specs.Numbering.{depth, AtOrBelow}
use Rattle.trees.specs.Climb.{Move, forest_of, climb}
use Rattle.trees.proofs.IntervalLaws.{above_at}
use Rattle.trees.proofs.TreeClimbs.{Climbed, climb-tree}
use Rattle.formats.specs.Plan.{node_count, plan_tree}
use Rattle.formats.specs.Rules.{branch_automaton}
use Rattle.formats.specs.Checks.{first_no, branch_build_checks}
use Rattle.formats.specs.Built.{built_node_table, built_branch_table, BranchBuilt}
use Rattle.formats.specs.Refusals.{answer_number}
use Rattle.formats.specs.declared.refusals.Refusal.{Refusal}
use Rattle.branches.specs.declared.answers.Reading.{Reading}
use Rattle.branches.specs.declared.answers.Reading.TheVariants.{BelowUpper}
use Rattle.branches.specs.declared.answers.Branched.{Branched}
use Rattle.branches.specs.Question.{ask_checks, ask_number}
use Rattle.branches.specs.Promise.{word_of, word_answer}
use Rattle.branches.proofs.AskBuilt.{size_is}
use Rattle.branches.proofs.BranchTheorems as branch-theorems
use Rattle.capi.specs.numbers.Numbers.{bit_of, yes_of, BuildExported, CheckExported}
use Rattle.capi.proofs.numbers.BuildExportedLaws.{exported-number, exported-kept}
use Rattle.capi.proofs.numbers.CheckExportedLaws.{checked-number, checked-yes, checked-kept}
use Rattle.capi.specs.branch_calls.BranchExported.{end_of, accepted_of, links_of, passed_of, AskExported}
use Rattle.capi.specs.contracts.branch_calls.whatif_branch_build as build-fn
use Rattle.capi.proofs.branch_calls.whatif_branch_build.Kinds as build-kinds
use Rattle.capi.proofs.branch_calls.whatif_branch_build.Reads as build-reads
use Rattle.capi.specs.contracts.branch_calls.whatif_branch_check as check-fn
use Rattle.capi.proofs.branch_calls.whatif_branch_check.Kinds as check-kinds
use Rattle.capi.proofs.branch_calls.whatif_branch_check.Reads as check-reads
use Rattle.capi.specs.contracts.branch_calls.whatif_branch as ask-fn
use Rattle.capi.proofs.branch_calls.whatif_branch.Kinds as ask-kinds
use Rattle.capi.proofs.branch_calls.whatif_branch.Reads as ask-reads

-- ---- the build

pub branch-build-tied : (κs : Lfts 4) (a : ArgsD build-fn.signature κs) (r : ResD build-fn.signature κs)
    (s : AtExit (ended_of 4 build-kinds.ps build-kinds.r) κs) → build-reads.Post κs a r s
    → BuildExported
    (first_no (branch_build_checks a.0.now a.1.0.now (length a.1.1.0.now)
    (length a.1.1.1.0.now)))
    (built_node_table a.0.now) (built_branch_table a.0.now a.1.0.now) a.1.1.0.now
    a.1.1.1.0.now r s.1.1.0.now s.1.1.1.0.now
branch-build-tied κs a r s p = p

module _ (p r node_table state_table : List ℕ) (n : ℕ) (node_table' state_table' : List ℕ)
    (E : BuildExported (first_no (branch_build_checks p r (length node_table) (length state_table))) (built_node_table p)
    (built_branch_table p r) node_table state_table n node_table' state_table') where
  pub branch-build-number : n ≡ first_no (branch_build_checks p r (length node_table) (length state_table))
  branch-build-number =
      exported-number _ (built_node_table p) (built_branch_table p r) node_table state_table n node_table' state_table' E

  pub branch-build-as-built : n ≡ 0 → BranchBuilt p r node_table' state_table'
  branch-build-as-built e =
      branch-theorems.built-branch-built p r node_table state_table node_table' state_table' E.answer E.done
      (sym E.result ∙ e)

  pub branch-build-kept : (n ≡ 0 → ⊥) → (node_table' ≡ node_table) × (state_table' ≡ state_table)
  branch-build-kept =
      exported-kept _ (built_node_table p) (built_branch_table p r) node_table state_table n node_table' state_table' E

-- ---- the full check

pub branch-check-tied : (κs : Lfts 5) (a : ArgsD check-fn.signature κs) (r : ResD check-fn.signature κs)
    (s : AtExit (ended_of 5 check-kinds.ps check-kinds.r) κs) → check-reads.Post κs a r s
    → CheckExported
    (first_no (branch_build_checks a.0.now a.1.0.now (length a.1.1.0.now)
    (length a.1.1.1.0.now)))
    (built_node_table a.0.now) (built_branch_table a.0.now a.1.0.now) a.1.1.0.now
    a.1.1.1.0.now r a.1.1.1.1.0.now s.1.1.1.1.0.now
branch-check-tied κs a r s p = p

module _ (p r node_table state_table : List ℕ) (n yes₀ yes₁ : ℕ)
    (E : CheckExported (first_no (branch_build_checks p r (length node_table) (length state_table))) (built_node_table p)
    (built_branch_table p r) node_table state_table n yes₀ yes₁) where
  pub branch-check-number : n ≡ first_no (branch_build_checks p r (length node_table) (length state_table))
  branch-check-number =
      checked-number _ (built_node_table p) (built_branch_table p r) node_table state_table n yes₀ yes₁ E

  -- "a full check of lent tables, whose yes holds exactly when they are what the build writes"
  pub branch-check-exactly : ((n ≡ 0) × (yes₁ ≡ 1)) ↔ BranchBuilt p r node_table state_table
  branch-check-exactly = (
    λ z. branch-theorems.check-yes p r node_table state_table E.answer E.done
        (checked-yes _ (built_node_table p) (built_branch_table p r) node_table state_table n yes₀ yes₁ E z.0 z.1),
    λ B. (
      branch-check-number ∙ branch-theorems.branch-built-passes p r node_table state_table B,
      E.number.yes_answer ∙ ap (λ (a : Result Bool Refusal). yes_of a yes₀)
          (branch-theorems.yes-check p r node_table state_table E.answer E.done B),
    ),
  )

  pub branch-check-kept : (n ≡ 0 → ⊥) → yes₁ ≡ yes₀
  branch-check-kept =
      checked-kept _ (built_node_table p) (built_branch_table p r) node_table state_table n yes₀ yes₁ E

-- ---- the question

pub branch-tied : (κs : Lfts 8) (a : ArgsD ask-fn.signature κs) (r : ResD ask-fn.signature κs)
    (s : AtExit (ended_of 8 ask-kinds.ps ask-kinds.r) κs) → ask-reads.Post κs a r s
    → AskExported BelowUpper a.0.now a.1.0.now a.1.1.0.now a.1.1.1.0.now
    a.1.1.1.1.0 a.1.1.1.1.1.0 r
    a.1.1.1.1.1.1.0.now a.1.1.1.1.1.1.1.0.now a.1.1.1.1.1.1.1.1.0.now
    a.1.1.1.1.1.1.1.1.1.0.now
    s.1.1.1.1.1.1.0.now s.1.1.1.1.1.1.1.0.now s.1.1.1.1.1.1.1.1.0.now
    s.1.1.1.1.1.1.1.1.1.0.now
branch-tied κs a r s p = p

module _ (reading : Reading) (p r node_table state_table : List ℕ)
    (u l n state₀ yes₀ links₀ passed₀ state₁ yes₁ links₁ passed₁ : ℕ)
    (E : AskExported reading p r node_table state_table u l n state₀ yes₀ links₀ passed₀ state₁ yes₁ links₁ passed₁)
  where
    pub branch-number : n ≡ first_no (ask_checks reading p r node_table state_table u l)
    unfolding ask_number
    branch-number = E.number.result ∙ E.done.number

    pub branch_kept : (n ≡ 0 → ⊥)
        → (state₁ ≡ state₀) × (yes₁ ≡ yes₀) × (links₁ ≡ links₀) × (passed₁ ≡ passed₀)
    branch_kept h =
        let N = E.number in
        let w = not-answered E.answer (λ e. h (N.result ∙ e)) in
        (N.state_answer ∙ w.0, N.yes_answer ∙ w.1, N.links_answer ∙ w.2, N.passed_answer ∙ w.3)
      where
        not-answered : (a : Result Branched Refusal) → (answer_number a ≡ 0 → ⊥)
            → (end_of a state₀ ≡ state₀) × (accepted_of a yes₀ ≡ yes₀) × (links_of a links₀ ≡ links₀)
            × (passed_of a passed₀ ≡ passed₀)
        not-answered (Ok b) z = absurd (z refl)
        not-answered (Err e) z = (refl, refl, refl, refl)

    -- "It tells state, yes or no, and the links of the climb from the lower node to the upper's depth"
    pub record WordTold : Type 0 where
      pub accepted : n ≡ 0
      pub state : state₁ ≡ word_run (branch_automaton r) 0 (word_of reading (plan_tree p) u l)
      pub yes : yes₁ ≡ bit_of ((branch_automaton r).accepting state₁)
      pub moves : List Move
      pub climbed : climb (forest_of (plan_tree p)) l (depth (plan_tree p) u) ≡ some moves
      pub links_are : links₁ ≡ length moves
      pub passed_are : passed₁ ≡ depth (plan_tree p) l - depth (plan_tree p) u

    module _ (B : BranchBuilt p r node_table state_table) (hu : u < node_count p) (hl : l < node_count p) where
      pub branch-told : AtOrBelow (plan_tree p) u l → WordTold
      unfolding word_answer
      branch-told A =
          let i : E.answer ≡ word_answer reading p r u l = E.done.built B hu hl A in
          let h : l < size (plan_tree p) =
          subst (λ (x : ℕ). l < x) (sym (size_is p r node_table state_table B)) hl in
          let c : Climbed (plan_tree p) l (depth (plan_tree p) u) =
          climb-tree (plan_tree p) l (depth (plan_tree p) u) h (above_at (plan_tree p) u l h A).0 in
          let s = E.number.state_answer ∙ ap (λ (x : Result Branched Refusal). end_of x state₀) i in
          record {
            accepted = E.number.result ∙ ap answer_number i;
            state = s;
            yes = E.number.yes_answer ∙ ap (λ (x : Result Branched Refusal). accepted_of x yes₀) i
                ∙ ap (λ (q : ℕ). bit_of ((branch_automaton r).accepting q)) (sym s);
            moves = c.moves;
            climbed = c.found;
            links_are = E.number.links_answer ∙ ap (λ (x : Result Branched Refusal). links_of x links₀) i ∙ sym c.count;
            passed_are = E.number.passed_answer ∙ ap (λ (x : Result Branched Refusal). passed_of x passed₀) i;
          }

      -- "lower node at or below upper? 16"
      pub branch-apart : (AtOrBelow (plan_tree p) u l → ⊥) → n ≡ 16
      branch-apart h = E.number.result ∙ ap answer_number (E.done.apart B hu hl h)
