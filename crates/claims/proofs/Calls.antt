-- Demand 1 for every exported call outside the session, in one form: "Malformed input, short buffers, table values that
-- lead outside and calls that the session's state forbids are refused first, by number, in a fixed order; a refusal
-- alters nothing; everything else is accepted".
--     build, full-check, fresh-run                whatif_build, whatif_check, whatif_fresh_run
--     branch-build, branch-full-check             whatif_branch_build, whatif_branch_check
--     branch, branch-with-upper                   whatif_branch, whatif_branch_with_upper
--     merge, agree                                whatif_merge, whatif_agree
--     plan-of-planner, planner-of-plan            whatif_plan_of_planner, whatif_planner_of_plan
--     lay-over, count                             whatif_lay_over, whatif_count
--     ask                                         whatif_ask
--     allowed, clearing, fewest                   whatif_allowed, whatif_clearing, whatif_fewest
--     colour-branch-build, colour-branch, colour-branch-with-upper, colour-build, colour-ask   those by colours
--     ..-order                                    the fixed order: the numbers of each call's checks
-- That each promise is the function's own contract: Contracts, and whatif_version there, which refuses nothing. The
-- session's calls: Main. What an accepted call answers: Tables, Branches, Planner, Products, Choices, Ask, Allowed,
-- Fewest, Lists, Colours, ColourSets. That every call ends is part of each function's proof.
use Prim.Native.Nat.{ℕ}
use mathlib.Core.Path.{◌≡◌, refl, ◌∙◌}
use mathlib.Core.List.{List, [], ◌∷◌}
use lib.ListN.{length}
use Rattle.formats.specs.Checks.{Check, first_no}
use Rattle.formats.specs.Checks.{plan_checks, rule_checks, branch_checks, list_checks, rule_table_checks, branch_table_checks}
use Rattle.formats.specs.Checks.{build_checks, branch_build_checks, fresh_run_checks}
use Rattle.changes.specs.LayOver.{lay_checks}
use Rattle.branches.specs.declared.answers.Reading.{Reading}
use Rattle.branches.specs.declared.answers.Reading.TheVariants.{WithUpper, BelowUpper}
use Rattle.branches.specs.Question.{ask_checks}
use Rattle.products.specs.merging.Merged.{merge_checks}
use Rattle.products.specs.agreement.Answer.{agree_checks}
use Rattle.planner.specs.File.{out_checks, home_checks}
use Rattle.planner.specs.out.Out.{OutDone}
use Rattle.planner.specs.home.Home.{HomeDone}
use Rattle.choices.specs.question_counts.CountOn.{listed_checks, count_checks}
use Rattle.allowed.specs.Answers.{node_room_checks, AllowedDone, ClearingDone}
use Rattle.fewest.specs.Answers.{fewest_checks, FewestTold}
use Rattle.colour_tables.specs.branch.Build.{branch_colour_checks}
use Rattle.colour_tables.specs.rule.Build.{rule_colour_checks}
use Rattle.colour_questions.specs.branch.Question.{colour_checks}
use Rattle.colour_questions.specs.rule.Question.{asked_checks, rule_ask_checks}
use Rattle.capi.specs.table_calls.RunExported.{RunExported}
use Rattle.capi.specs.branch_calls.BranchExported.{AskExported}
use Rattle.capi.specs.product_calls.Exported.{MergeExported, AgreeExported, agree_room_checks}
use Rattle.capi.specs.list_calls.ListsExported as lists
use Rattle.capi.specs.list_calls.ListsExported.{LayExported}
use Rattle.capi.specs.choice_calls.CountExported as choices
use Rattle.capi.specs.choice_calls.CountExported.{CountExported}
use Rattle.capi.proofs.table_calls.Theorems.{build-number, build-kept, check-number, check-kept, run-number, run-kept}
use Rattle.capi.proofs.branch_calls.Ties.{branch-build-number, branch-build-kept, branch-check-number}
use Rattle.capi.proofs.branch_calls.Ties.{branch-check-kept}
use Rattle.capi.proofs.branch_calls.Ties.{branch-number, branch_kept}
use Rattle.capi.proofs.product_calls.Ties.{merge-number, merge-kept, agree-number, agree-kept}
use Rattle.capi.proofs.planner_calls.Ties.{out-number, out_kept, home-number, home-kept}
use Rattle.capi.proofs.list_calls.Ties.{refused-keeps}
use Rattle.capi.proofs.choice_calls.Ties.{count-number, count_kept}
use Rattle.capi.proofs.allowed_calls.Ties.{allowed-number, allowed-kept, clearing-number}
use Rattle.capi.proofs.allowed_calls.Ties.{clearing-kept}
use Rattle.capi_branch_upper.proofs.Ties.{branch-upper-number, branch-upper-kept}
use Rattle.whole_questions.specs.Question as whole
use Rattle.capi_ask.specs.WholeExported.{WholeExported}
use Rattle.capi_ask.proofs.Ties as ask-ties
use Rattle.capi_fewest.proofs.Ties.{fewest-number, fewest-kept}
use Rattle.capi_colours.specs.branch_calls.DescentExported.{DescentExported}
use Rattle.capi_colours.specs.rule_calls.RuleExported.{RuleExported}
use Rattle.capi_colours.proofs.branch_calls.Ties.{colour-branch-build-number, colour-branch-build-kept}
use Rattle.capi_colours.proofs.branch_calls.Ties.{colour-branch-number, colour-branch-kept}
use Rattle.capi_colours.proofs.rule_calls.Ties.{colour-build-number, colour-build-kept, colour-ask-number}
use Rattle.capi_colours.proofs.rule_calls.Ties.{colour-ask-kept}
use Rattle.claims.specs.CallAnswers.{AllPass, Answers, numbers_of, BuildCall, CheckCall}
use Rattle.claims.specs.CallAnswers.{BranchBuildCall}
use Rattle.claims.specs.CallAnswers.{BranchCheckCall, ColourBranchBuildCall, ColourBuildCall}

-- what "everything else is accepted" adds: where every check passes, none is the first that fails
none-fails : (cs : List Check) → AllPass cs → first_no cs ≡ 0
unfolding first_no
none-fails [] h = refl
none-fails (c ∷ cs) h = rw h.0 (none-fails cs h.1)

answers : (n : ℕ) (checks : List Check) (kept : Type 0) → n ≡ first_no checks → ((n ≡ 0 → ⊥) → kept)
    → Answers n checks kept
answers n checks kept e k =
    record { number = e; unaltered = k; else_accepted = λ h. e ∙ none-fails checks h }

-- ---- tables and fresh runs

build : (p r node_table state_table : List ℕ) (n : ℕ) (node_table' state_table' : List ℕ)
    → BuildCall p r node_table state_table n node_table' state_table'
    → Answers n (build_checks p r (length node_table) (length state_table))
    ((node_table' ≡ node_table) × (state_table' ≡ state_table))
build p r a b n a' b' E = answers _ _ _ (build-number p r a b n a' b' E)
    (build-kept p r a b n a' b' E)

full-check : (p r node_table state_table : List ℕ) (n yes₀ yes₁ : ℕ) → CheckCall p r node_table state_table n yes₀ yes₁
    → Answers n (build_checks p r (length node_table) (length state_table)) (yes₁ ≡ yes₀)
full-check p r a b n y z E = answers _ _ _ (check-number p r a b n y z E)
    (check-kept p r a b n y z E)

fresh-run : (p r vs bs : List ℕ) (n state₀ yes₀ state₁ yes₁ : ℕ) → RunExported p r vs bs n state₀ yes₀ state₁ yes₁
    → Answers n (fresh_run_checks p r vs bs) ((state₁ ≡ state₀) × (yes₁ ≡ yes₀))
fresh-run p r vs bs n s y s' y' E =
    answers _ _ _ (run-number p r vs bs n s y s' y' E)
    (run-kept p r vs bs n s y s' y' E)

-- "both table buffers long enough? 11": the builds, and "The full check has 2 to 11"
build-order : (p r : List ℕ) (node_table state_table : ℕ)
    → numbers_of (build_checks p r node_table state_table) ≡ 2 ∷ 3 ∷ 4 ∷ 5 ∷ 6 ∷ 7 ∷ 8 ∷ 9 ∷ 10 ∷ 11 ∷ []
unfolding build_checks rule_table_checks plan_checks rule_checks
build-order p r node_table state_table = refl

-- "the fresh run 2 to 10, then 12 to 15", of which document 02, S-4 takes the last: "Number 15 no longer occurs"
fresh-run-order : (p r vs bs : List ℕ)
    → numbers_of (fresh_run_checks p r vs bs)
    ≡ 2 ∷ 3 ∷ 4 ∷ 5 ∷ 6 ∷ 7 ∷ 8 ∷ 9 ∷ 10 ∷ 12 ∷ 13 ∷ 14 ∷ []
unfolding fresh_run_checks rule_table_checks plan_checks rule_checks list_checks
fresh-run-order p r vs bs = refl

-- ---- branch tables and branch questions

branch-build : (p r node_table state_table : List ℕ) (n : ℕ) (node_table' state_table' : List ℕ)
    → BranchBuildCall p r node_table state_table n node_table' state_table'
    → Answers n (branch_build_checks p r (length node_table) (length state_table))
    ((node_table' ≡ node_table) × (state_table' ≡ state_table))
branch-build p r a b n a' b' E =
    answers _ _ _ (branch-build-number p r a b n a' b' E)
    (branch-build-kept p r a b n a' b' E)

branch-full-check : (p r node_table state_table : List ℕ) (n yes₀ yes₁ : ℕ)
    → BranchCheckCall p r node_table state_table n yes₀ yes₁
    → Answers n (branch_build_checks p r (length node_table) (length state_table)) (yes₁ ≡ yes₀)
branch-full-check p r a b n y z E =
    answers _ _ _ (branch-check-number p r a b n y z E)
    (branch-check-kept p r a b n y z E)

branch : (p r node_table state_table : List ℕ) (u l n s₀ y₀ k₀ d₀ s₁ y₁ k₁ d₁ : ℕ)
    → AskExported BelowUpper p r node_table state_table u l n s₀ y₀ k₀ d₀ s₁ y₁ k₁ d₁
    → Answers n (ask_checks BelowUpper p r node_table state_table u l)
    ((s₁ ≡ s₀) × (y₁ ≡ y₀) × (k₁ ≡ k₀) × (d₁ ≡ d₀))
branch p r a b u l n s y k d s' y' k' d' E =
    answers _ _ _ (branch-number BelowUpper p r a b u l n s y k d s' y' k' d' E)
    (branch_kept BelowUpper p r a b u l n s y k d s' y' k' d' E)

branch-with-upper : (p r node_table state_table : List ℕ) (u l n s₀ y₀ k₀ d₀ s₁ y₁ k₁ d₁ : ℕ)
    → AskExported WithUpper p r node_table state_table u l n s₀ y₀ k₀ d₀ s₁ y₁ k₁ d₁
    → Answers n (ask_checks WithUpper p r node_table state_table u l)
    ((s₁ ≡ s₀) × (y₁ ≡ y₀) × (k₁ ≡ k₀) × (d₁ ≡ d₀))
branch-with-upper p r a b u l n s y k d s' y' k' d' E =
    answers _ _ _ (branch-upper-number p r a b u l n s y k d s' y' k' d' E)
    (branch-upper-kept p r a b u l n s y k d s' y' k' d' E)

branch-build-order : (p r : List ℕ) (node_table state_table : ℕ)
    → numbers_of (branch_build_checks p r node_table state_table) ≡ 2 ∷ 3 ∷ 4 ∷ 5 ∷ 6 ∷ 7 ∷ 8 ∷ 9 ∷ 10 ∷ 11 ∷ []
unfolding branch_build_checks branch_table_checks plan_checks branch_checks
branch-build-order p r node_table state_table = refl

-- "A branch question takes N, S and K from the lent headers: 17, also for a header cut short or a number outside its
-- limits; 13; lower node at or below upper? 16; 18."
branch-order : (reading : Reading) (p r node_table state_table : List ℕ) (u l : ℕ)
    → numbers_of (ask_checks reading p r node_table state_table u l) ≡ 17 ∷ 13 ∷ 16 ∷ 18 ∷ []
unfolding ask_checks
branch-order reading p r node_table state_table u l = refl

-- ---- two rule tables

merge : (first second out : List ℕ) (n : ℕ) (out' : List ℕ) → MergeExported first second out n out'
    → Answers n (merge_checks first second (length out)) (out' ≡ out)
merge first second out n out' E =
    answers _ _ _ (merge-number first second out n out' E)
    (merge-kept first second out n out' E)

agree : (first second lines : List ℕ) (agreed count n : ℕ) (lines' : List ℕ) (agreed' count' : ℕ)
    → AgreeExported first second lines agreed count n lines' agreed' count'
    → Answers n (agree_room_checks first second (length lines))
    ((lines' ≡ lines) × (agreed' ≡ agreed) × (count' ≡ count))
agree first second l a c n l' a' c' E = answers _ _ _ (agree-number first second l a c n l' a' c' E)
    (agree-kept first second l a c n l' a' c' E)

-- "The order of checks is 6 to 9 for the first table, 6 to 9 for the second, then 23 for unequal K, 24 when the product
-- of the state counts exceeds 16, and 11 for a short output."
merge-order : (first second : List ℕ) (out : ℕ)
    → numbers_of (merge_checks first second out) ≡ 6 ∷ 7 ∷ 8 ∷ 9 ∷ 6 ∷ 7 ∷ 8 ∷ 9 ∷ 23 ∷ 24 ∷ 11 ∷ []
unfolding merge_checks rule_checks
merge-order first second out = refl

-- "The tables pass 6 to 9 in turn, then 23."
agree-order : (first second : List ℕ) (room : ℕ)
    → numbers_of (agree_room_checks first second room) ≡ 6 ∷ 7 ∷ 8 ∷ 9 ∷ 6 ∷ 7 ∷ 8 ∷ 9 ∷ 23 ∷ 11 ∷ []
unfolding agree_checks rule_checks
agree-order first second room = refl

-- ---- the planner's files

plan-of-planner : (b plan places : List ℕ) (n : ℕ) (plan' places' : List ℕ) → OutDone b plan places n plan' places'
    → Answers n (out_checks b (length plan) (length places)) ((plan' ≡ plan) × (places' ≡ places))
plan-of-planner b p ps n q qs D =
    answers _ _ _ (out-number b p ps n q qs D)
    (out_kept b p ps n q qs D)

planner-of-plan : (p file : List ℕ) (n : ℕ) (file' : List ℕ) → HomeDone p file n file'
    → Answers n (home_checks p (length file)) (file' ≡ file)
planner-of-plan p b n c D = answers _ _ _ (home-number p b n c D)
    (home-kept p b n c D)

-- "Refused are a malformed file, n of 0 included, or bytes that are no such image with 19, a label of 63 or more in a
-- planner's file with 20, and n above 32,767 or a short output with 21, in that order."
planner-order : (b p : List ℕ) (plan places file : ℕ)
    → (numbers_of (out_checks b plan places) ≡ 19 ∷ 20 ∷ 21 ∷ []) × (numbers_of (home_checks p file) ≡ 19 ∷ 21 ∷ [])
unfolding out_checks home_checks
planner-order b p plan places file = (refl, refl)

-- ---- laying over, and the count

lay-over : (lvs lbs uvs ubs nodes labels : List ℕ) (count n : ℕ) (nodes' labels' : List ℕ) (count' : ℕ)
    → LayExported lvs lbs uvs ubs nodes labels count n nodes' labels' count'
    → Answers n (lists.exported_checks lvs lbs uvs ubs (length nodes) (length labels))
    ((nodes' ≡ nodes) × (labels' ≡ labels) × (count' ≡ count))
lay-over lvs lbs uvs ubs x y c n x' y' c' E =
    answers _ _ _ E.number
    (refused-keeps lvs lbs uvs ubs x y c n x' y' c' E)

count : (p r node_table state_table vs counts : List ℕ) (parts links n : ℕ) (counts' : List ℕ) (parts' links' : ℕ)
    → CountExported p r node_table state_table vs counts parts links n counts' parts' links'
    → Answers n (choices.exported_checks p r node_table state_table vs (length counts))
    ((counts' ≡ counts) × (parts' ≡ parts) × (links' ≡ links))
count p r a b vs c m k n c' m' k' E =
    answers _ _ _ (count-number p r a b vs c m k n c' m' k' E)
    (count_kept p r a b vs c m k n c' m' k' E)

-- "laying over gives 22 when more than 64 nodes would remain, after 12 for either list"; then 11 for a short buffer
lay-over-order : (lvs lbs uvs ubs : List ℕ) (nodes labels : ℕ)
    → numbers_of (lists.exported_checks lvs lbs uvs ubs nodes labels) ≡ 12 ∷ 12 ∷ 22 ∷ 11 ∷ []
unfolding lists.exported_checks lay_checks
lay-over-order lvs lbs uvs ubs nodes labels = refl

-- "17, then 12, 13 and 15 (which is met here) for the node list, then 26 for more than 1,000,000,000,000,000,000
-- assignments, then 18"; then 11 for a short buffer
count-order : (p r node_table state_table vs : List ℕ) (room : ℕ)
    → numbers_of (choices.exported_checks p r node_table state_table vs room)
    ≡ 17 ∷ 12 ∷ 13 ∷ 15 ∷ 26 ∷ 18 ∷ 11 ∷ []
unfolding choices.exported_checks count_checks listed_checks
count-order p r node_table state_table vs room = refl

-- ---- whole questions

ask : (p r node_table state_table vs bs : List ℕ) (n s₀ y₀ m₀ k₀ d₀ s₁ y₁ m₁ k₁ d₁ : ℕ)
    → WholeExported p r node_table state_table vs bs n s₀ y₀ m₀ k₀ d₀ s₁ y₁ m₁ k₁ d₁
    → Answers n (whole.ask_checks p r node_table state_table vs bs)
    ((s₁ ≡ s₀) × (y₁ ≡ y₀) × (m₁ ≡ m₀) × (k₁ ≡ k₀) × (d₁ ≡ d₀))
ask p r a b vs bs n s₀ y₀ m₀ k₀ d₀ s₁ y₁ m₁ k₁ d₁ E =
    answers _ _ _ (ask-ties.ask-number p r a b vs bs n s₀ y₀ m₀ k₀ d₀ s₁ y₁ m₁ k₁ d₁ E)
    (ask-ties.ask-kept p r a b vs bs n s₀ y₀ m₀ k₀ d₀ s₁ y₁ m₁ k₁ d₁ E)

-- 17 as a branch question has it, then Start's checks of the list and an advance's 18: "17; .. 12; nodes below N? 13;
-- labels below K? 14", without 15 (document 02, S-4)
ask-order : (p r node_table state_table vs bs : List ℕ)
    → numbers_of (whole.ask_checks p r node_table state_table vs bs) ≡ 17 ∷ 12 ∷ 13 ∷ 14 ∷ 18 ∷ []
unfolding whole.ask_checks whole.listed_checks list_checks
ask-order p r node_table state_table vs bs = refl

-- ---- what each node may take

allowed : (p r masks : List ℕ) (n : ℕ) (masks' : List ℕ) → AllowedDone p r masks n masks'
    → Answers n (node_room_checks p r (length masks)) (masks' ≡ masks)
allowed p r m n m' D = answers _ _ _ (allowed-number p r m n m' D) (allowed-kept p r m n m' D)

clearing : (p r sets : List ℕ) (n : ℕ) (sets' : List ℕ) → ClearingDone p r sets n sets'
    → Answers n (node_room_checks p r (length sets)) (sets' ≡ sets)
clearing p r b n b' D = answers _ _ _ (clearing-number p r b n b' D) (clearing-kept p r b n b' D)

-- of both: "Refused with the first of 2 to 10, then 11"
node-room-order : (p r : List ℕ) (room : ℕ)
    → numbers_of (node_room_checks p r room) ≡ 2 ∷ 3 ∷ 4 ∷ 5 ∷ 6 ∷ 7 ∷ 8 ∷ 9 ∷ 10 ∷ 11 ∷ []
unfolding node_room_checks rule_table_checks plan_checks rule_checks
node-room-order p r room = refl

-- ---- the fewest changes

fewest : (p r may : List ℕ) (want : ℕ) (work nodes labels : List ℕ) (least count n : ℕ)
    (work' nodes' labels' : List ℕ) (least' count' : ℕ)
    → FewestTold p r may want work nodes labels least count n work' nodes' labels' least' count'
    → Answers n (fewest_checks p r (length may) (length work) (length nodes) (length labels))
    ((work' ≡ work) × (nodes' ≡ nodes) × (labels' ≡ labels) × (least' ≡ least) × (count' ≡ count))
fewest p r may want w ns ls m c n w' ns' ls' m' c' T =
    answers _ _ _ (fewest-number p r may want w ns ls m c n w' ns' ls' m' c' T)
    (fewest-kept p r may want w ns ls m c n w' ns' ls' m' c' T)

-- "Refused with the first of 2 to 10, 17 (may_len neither 0 nor N), 11 (work, nodes or labels too short)"
fewest-order : (p r : List ℕ) (may work nodes labels : ℕ)
    → numbers_of (fewest_checks p r may work nodes labels) ≡ 2 ∷ 3 ∷ 4 ∷ 5 ∷ 6 ∷ 7 ∷ 8 ∷ 9 ∷ 10 ∷ 17 ∷ 11 ∷ []
unfolding fewest_checks rule_table_checks plan_checks rule_checks
fewest-order p r may work nodes labels = refl

-- ---- questions by colours

colour-branch-build : (p r numbers bytes : List ℕ) (n : ℕ) (numbers' bytes' : List ℕ)
    → ColourBranchBuildCall p r numbers bytes n numbers' bytes'
    → Answers n (branch_colour_checks p r (length numbers) (length bytes))
    ((numbers' ≡ numbers) × (bytes' ≡ bytes))
colour-branch-build p r a b n a' b' E = answers _ _ _ (colour-branch-build-number p r a b n a' b' E)
    (colour-branch-build-kept p r a b n a' b' E)

-- of either reading: BelowUpper is whatif_colour_branch, WithUpper whatif_colour_branch_with_upper
colour-branches : (reading : Reading) (p r node_table numbers bytes : List ℕ) (u l n s₀ y₀ d₀ k₀ s₁ y₁ d₁ k₁ : ℕ)
    → DescentExported reading p r node_table numbers bytes u l n s₀ y₀ d₀ k₀ s₁ y₁ d₁ k₁
    → Answers n (colour_checks reading p r node_table numbers bytes u l)
    ((s₁ ≡ s₀) × (y₁ ≡ y₀) × (d₁ ≡ d₀) × (k₁ ≡ k₀))
colour-branches reading p r a x b u l n s y d k s' y' d' k' E =
    answers _ _ _ (colour-branch-number reading p r a x b u l n s y d k s' y' d' k' E)
    (colour-branch-kept reading p r a x b u l n s y d k s' y' d' k' E)

colour-branch : (p r node_table numbers bytes : List ℕ) (u l n s₀ y₀ d₀ k₀ s₁ y₁ d₁ k₁ : ℕ)
    → DescentExported BelowUpper p r node_table numbers bytes u l n s₀ y₀ d₀ k₀ s₁ y₁ d₁ k₁
    → Answers n (colour_checks BelowUpper p r node_table numbers bytes u l)
    ((s₁ ≡ s₀) × (y₁ ≡ y₀) × (d₁ ≡ d₀) × (k₁ ≡ k₀))
colour-branch = colour-branches BelowUpper

colour-branch-with-upper : (p r node_table numbers bytes : List ℕ) (u l n s₀ y₀ d₀ k₀ s₁ y₁ d₁ k₁ : ℕ)
    → DescentExported WithUpper p r node_table numbers bytes u l n s₀ y₀ d₀ k₀ s₁ y₁ d₁ k₁
    → Answers n (colour_checks WithUpper p r node_table numbers bytes u l)
    ((s₁ ≡ s₀) × (y₁ ≡ y₀) × (d₁ ≡ d₀) × (k₁ ≡ k₀))
colour-branch-with-upper = colour-branches WithUpper

colour-build : (p r numbers bytes : List ℕ) (n : ℕ) (numbers' bytes' : List ℕ)
    → ColourBuildCall p r numbers bytes n numbers' bytes'
    → Answers n (rule_colour_checks p r (length numbers) (length bytes)) ((numbers' ≡ numbers) × (bytes' ≡ bytes))
colour-build p r a b n a' b' E =
    answers _ _ _ (colour-build-number p r a b n a' b' E)
    (colour-build-kept p r a b n a' b' E)

colour-ask : (p r node_table state_table numbers bytes vs bs : List ℕ) (n s₀ y₀ d₀ k₀ m₀ s₁ y₁ d₁ k₁ m₁ : ℕ)
    → RuleExported p r node_table state_table numbers bytes vs bs n s₀ y₀ d₀ k₀ m₀ s₁ y₁ d₁ k₁ m₁
    → Answers n (rule_ask_checks p r node_table state_table numbers bytes vs bs)
    ((s₁ ≡ s₀) × (y₁ ≡ y₀) × (d₁ ≡ d₀) × (k₁ ≡ k₀) × (m₁ ≡ m₀))
colour-ask p r a b x y vs bs n s₀ y₀ d₀ k₀ m₀ s₁ y₁ d₁ k₁ m₁ E =
    answers _ _ _ (colour-ask-number p r a b x y vs bs n s₀ y₀ d₀ k₀ m₀ s₁ y₁ d₁ k₁ m₁ E)
    (colour-ask-kept p r a b x y vs bs n s₀ y₀ d₀ k₀ m₀ s₁ y₁ d₁ k₁ m₁ E)

-- "a short one gives 11 in the build and 17 in a question"
colour-branch-order : (reading : Reading) (p r node_table numbers bytes : List ℕ) (u l : ℕ) (x y : ℕ)
    → (numbers_of (branch_colour_checks p r x y) ≡ 2 ∷ 3 ∷ 4 ∷ 5 ∷ 6 ∷ 7 ∷ 8 ∷ 9 ∷ 10 ∷ 11 ∷ [])
    × (numbers_of (colour_checks reading p r node_table numbers bytes u l) ≡ 17 ∷ 13 ∷ 16 ∷ 18 ∷ [])
unfolding branch_colour_checks branch_table_checks plan_checks branch_checks colour_checks
colour-branch-order reading p r node_table numbers bytes u l x y = (refl, refl)

-- "A rule table with S above 4 gives 27, after 9 in the build and after 17 in a question, which goes on with 12 to 14
-- and 18."
colour-order : (p r node_table state_table numbers bytes vs bs : List ℕ) (x y : ℕ)
    → (numbers_of (rule_colour_checks p r x y) ≡ 2 ∷ 3 ∷ 4 ∷ 5 ∷ 6 ∷ 7 ∷ 8 ∷ 9 ∷ 27 ∷ 10 ∷ 11 ∷ [])
    × (numbers_of (rule_ask_checks p r node_table state_table numbers bytes vs bs)
    ≡ 17 ∷ 27 ∷ 12 ∷ 13 ∷ 14 ∷ 18 ∷ [])
unfolding rule_colour_checks plan_checks rule_checks rule_ask_checks asked_checks list_checks
colour-order p r node_table state_table numbers bytes vs bs x y = (refl, refl)
