-- Each promise that Calls and the files beside it take is the function's own contract, as the prover itself reads it
-- off the source (`Reads.Post`): κs are lifetimes, a the parameters in their order, r the result, and s what the
-- references hold at the end (parameter i is `.1` i times, then `.0`). A contract that promises less is refused here,
-- and so is one about another buffer, in another order or of the other reading.
--     build .. colour-ask    one for each exported call outside the session, by the names of Calls
--     version                whatif_version takes nothing and refuses nothing: it returns the version's number
-- The session's calls and the screens': the Ties of capi_session and capi_screens.
use mathlib.Core.Path.{◌≡◌}
use contract.Lifetimes.{Lfts}
use borrow.Fn.World.{ArgsD, ResD}
use borrow.Fn.Kinds.{ended_of}
use denote.Triple.Clauses.{AtExit}
use Rattle.branches.specs.declared.answers.Reading.TheVariants.{WithUpper, BelowUpper}
use Rattle.planner.specs.out.Out.{OutDone}
use Rattle.planner.specs.home.Home.{HomeDone}
use Rattle.allowed.specs.Answers.{AllowedDone, ClearingDone}
use Rattle.fewest.specs.Answers.{FewestTold}
use Rattle.capi.specs.table_calls.RunExported.{RunExported}
use Rattle.capi.specs.branch_calls.BranchExported.{AskExported}
use Rattle.capi.specs.product_calls.Exported.{MergeExported, AgreeExported}
use Rattle.capi.specs.list_calls.ListsExported.{LayExported}
use Rattle.capi.specs.choice_calls.CountExported.{CountExported}
use Rattle.capi.specs.version.Version.{version_number}
use Rattle.capi.proofs.table_calls.Ties.{build-tied, check-tied, run-tied, version-tied}
use Rattle.capi.proofs.branch_calls.Ties.{branch-build-tied, branch-check-tied, branch-tied}
use Rattle.capi.proofs.product_calls.Ties.{merge-tied, agree-tied}
use Rattle.capi.proofs.planner_calls.Ties.{out-tied, home-tied}
use Rattle.capi.proofs.list_calls.Ties.{lay-tied}
use Rattle.capi.proofs.choice_calls.Ties.{count-tied}
use Rattle.capi.proofs.allowed_calls.Ties.{allowed-tied, clearing-tied}
use Rattle.capi_fewest.proofs.Ties.{fewest-tied}
use Rattle.capi_branch_upper.proofs.Ties.{branch-upper-tied}
use Rattle.capi_ask.specs.WholeExported.{WholeExported}
use Rattle.capi_ask.proofs.Ties.{ask-tied}
use Rattle.capi_colours.specs.branch_calls.DescentExported.{DescentExported}
use Rattle.capi_colours.specs.rule_calls.RuleExported.{RuleExported}
use Rattle.capi_colours.proofs.branch_calls.Ties.{colour-branch-build-tied, colour-branch-tied}
use Rattle.capi_colours.proofs.branch_calls.Ties.{colour-branch-upper-tied}
use Rattle.capi_colours.proofs.rule_calls.Ties.{colour-build-tied, colour-ask-tied}
use Rattle.capi.specs.contracts.table_calls.whatif_build as build-fn
use Rattle.capi.proofs.table_calls.whatif_build.Kinds as build-kinds
use Rattle.capi.proofs.table_calls.whatif_build.Reads as build-reads
use Rattle.capi.specs.contracts.table_calls.whatif_check as full-check-fn
use Rattle.capi.proofs.table_calls.whatif_check.Kinds as full-check-kinds
use Rattle.capi.proofs.table_calls.whatif_check.Reads as full-check-reads
use Rattle.capi.specs.contracts.table_calls.whatif_fresh_run as fresh-run-fn
use Rattle.capi.proofs.table_calls.whatif_fresh_run.Kinds as fresh-run-kinds
use Rattle.capi.proofs.table_calls.whatif_fresh_run.Reads as fresh-run-reads
use Rattle.capi.specs.contracts.branch_calls.whatif_branch_build as branch-build-fn
use Rattle.capi.proofs.branch_calls.whatif_branch_build.Kinds as branch-build-kinds
use Rattle.capi.proofs.branch_calls.whatif_branch_build.Reads as branch-build-reads
use Rattle.capi.specs.contracts.branch_calls.whatif_branch_check as branch-check-fn
use Rattle.capi.proofs.branch_calls.whatif_branch_check.Kinds as branch-check-kinds
use Rattle.capi.proofs.branch_calls.whatif_branch_check.Reads as branch-check-reads
use Rattle.capi.specs.contracts.branch_calls.whatif_branch as branch-fn
use Rattle.capi.proofs.branch_calls.whatif_branch.Kinds as branch-kinds
use Rattle.capi.proofs.branch_calls.whatif_branch.Reads as branch-reads
use Rattle.capi_branch_upper.specs.contracts.whatif_branch_with_upper as branch-upper-fn
use Rattle.capi_branch_upper.proofs.whatif_branch_with_upper.Kinds as branch-upper-kinds
use Rattle.capi_branch_upper.proofs.whatif_branch_with_upper.Reads as branch-upper-reads
use Rattle.capi.specs.contracts.product_calls.whatif_merge as merge-fn
use Rattle.capi.proofs.product_calls.whatif_merge.Kinds as merge-kinds
use Rattle.capi.proofs.product_calls.whatif_merge.Reads as merge-reads
use Rattle.capi.specs.contracts.product_calls.whatif_agree as agree-fn
use Rattle.capi.proofs.product_calls.whatif_agree.Kinds as agree-kinds
use Rattle.capi.proofs.product_calls.whatif_agree.Reads as agree-reads
use Rattle.capi.specs.contracts.planner_calls.whatif_plan_of_planner as plan-of-planner-fn
use Rattle.capi.proofs.planner_calls.whatif_plan_of_planner.Kinds as plan-of-planner-kinds
use Rattle.capi.proofs.planner_calls.whatif_plan_of_planner.Reads as plan-of-planner-reads
use Rattle.capi.specs.contracts.planner_calls.whatif_planner_of_plan as planner-of-plan-fn
use Rattle.capi.proofs.planner_calls.whatif_planner_of_plan.Kinds as planner-of-plan-kinds
use Rattle.capi.proofs.planner_calls.whatif_planner_of_plan.Reads as planner-of-plan-reads
use Rattle.capi.specs.contracts.list_calls.whatif_lay_over as lay-over-fn
use Rattle.capi.proofs.list_calls.whatif_lay_over.Kinds as lay-over-kinds
use Rattle.capi.proofs.list_calls.whatif_lay_over.Reads as lay-over-reads
use Rattle.capi.specs.contracts.choice_calls.whatif_count as count-fn
use Rattle.capi.proofs.choice_calls.whatif_count.Kinds as count-kinds
use Rattle.capi.proofs.choice_calls.whatif_count.Reads as count-reads
use Rattle.capi_ask.specs.contracts.whatif_ask as ask-fn
use Rattle.capi_ask.proofs.whatif_ask.Kinds as ask-kinds
use Rattle.capi_ask.proofs.whatif_ask.Reads as ask-reads
use Rattle.capi.specs.contracts.allowed_calls.whatif_allowed as allowed-fn
use Rattle.capi.proofs.allowed_calls.whatif_allowed.Kinds as allowed-kinds
use Rattle.capi.proofs.allowed_calls.whatif_allowed.Reads as allowed-reads
use Rattle.capi.specs.contracts.allowed_calls.whatif_clearing as clearing-fn
use Rattle.capi.proofs.allowed_calls.whatif_clearing.Kinds as clearing-kinds
use Rattle.capi.proofs.allowed_calls.whatif_clearing.Reads as clearing-reads
use Rattle.capi_fewest.specs.contracts.whatif_fewest as fewest-fn
use Rattle.capi_fewest.proofs.whatif_fewest.Kinds as fewest-kinds
use Rattle.capi_fewest.proofs.whatif_fewest.Reads as fewest-reads
use Rattle.capi_colours.specs.contracts.branch_calls.whatif_colour_branch_build as words-build-fn
use Rattle.capi_colours.proofs.branch_calls.whatif_colour_branch_build.Kinds as words-build-kinds
use Rattle.capi_colours.proofs.branch_calls.whatif_colour_branch_build.Reads as words-build-reads
use Rattle.capi_colours.specs.contracts.branch_calls.whatif_colour_branch as colour-branch-fn
use Rattle.capi_colours.proofs.branch_calls.whatif_colour_branch.Kinds as colour-branch-kinds
use Rattle.capi_colours.proofs.branch_calls.whatif_colour_branch.Reads as colour-branch-reads
use Rattle.capi_colours.specs.contracts.branch_calls.whatif_colour_branch_with_upper as colour-upper-fn
use Rattle.capi_colours.proofs.branch_calls.whatif_colour_branch_with_upper.Kinds as colour-upper-kinds
use Rattle.capi_colours.proofs.branch_calls.whatif_colour_branch_with_upper.Reads as colour-upper-reads
use Rattle.capi_colours.specs.contracts.rule_calls.build.whatif_colour_build as colour-build-fn
use Rattle.capi_colours.proofs.rule_calls.build.whatif_colour_build.Kinds as colour-build-kinds
use Rattle.capi_colours.proofs.rule_calls.build.whatif_colour_build.Reads as colour-build-reads
use Rattle.capi_colours.specs.contracts.rule_calls.ask.whatif_colour_ask as colour-ask-fn
use Rattle.capi_colours.proofs.rule_calls.ask.whatif_colour_ask.Kinds as colour-ask-kinds
use Rattle.capi_colours.proofs.rule_calls.ask.whatif_colour_ask.Reads as colour-ask-reads
use Rattle.capi.specs.contracts.version.whatif_version as version-fn
use Rattle.capi.proofs.version.whatif_version.Kinds as version-kinds
use Rattle.capi.proofs.version.whatif_version.Reads as version-reads
use Rattle.claims.specs.CallAnswers.{BuildCall, CheckCall, BranchBuildCall, BranchCheckCall}
use Rattle.claims.specs.CallAnswers.{ColourBranchBuildCall, ColourBuildCall}

-- ---- tables and fresh runs

build : (κs : Lfts 4) (a : ArgsD build-fn.signature κs) (r : ResD build-fn.signature κs)
    (s : AtExit (ended_of 4 build-kinds.ps build-kinds.r) κs) → build-reads.Post κs a r s
    → BuildCall a.0.now a.1.0.now a.1.1.0.now a.1.1.1.0.now r s.1.1.0.now
    s.1.1.1.0.now
build = build-tied

full-check : (κs : Lfts 5) (a : ArgsD full-check-fn.signature κs) (r : ResD full-check-fn.signature κs)
    (s : AtExit (ended_of 5 full-check-kinds.ps full-check-kinds.r) κs) → full-check-reads.Post κs a r s
    → CheckCall a.0.now a.1.0.now a.1.1.0.now a.1.1.1.0.now r a.1.1.1.1.0.now
    s.1.1.1.1.0.now
full-check = check-tied

fresh-run : (κs : Lfts 6) (a : ArgsD fresh-run-fn.signature κs) (r : ResD fresh-run-fn.signature κs)
    (s : AtExit (ended_of 6 fresh-run-kinds.ps fresh-run-kinds.r) κs) → fresh-run-reads.Post κs a r s
    → RunExported a.0.now a.1.0.now a.1.1.0.now a.1.1.1.0.now r a.1.1.1.1.0.now
    a.1.1.1.1.1.0.now s.1.1.1.1.0.now s.1.1.1.1.1.0.now
fresh-run = run-tied

-- ---- branch tables and branch questions

branch-build : (κs : Lfts 4) (a : ArgsD branch-build-fn.signature κs) (r : ResD branch-build-fn.signature κs)
    (s : AtExit (ended_of 4 branch-build-kinds.ps branch-build-kinds.r) κs) → branch-build-reads.Post κs a r s
    → BranchBuildCall a.0.now a.1.0.now a.1.1.0.now a.1.1.1.0.now r s.1.1.0.now
    s.1.1.1.0.now
branch-build = branch-build-tied

branch-full-check : (κs : Lfts 5) (a : ArgsD branch-check-fn.signature κs) (r : ResD branch-check-fn.signature κs)
    (s : AtExit (ended_of 5 branch-check-kinds.ps branch-check-kinds.r) κs) → branch-check-reads.Post κs a r s
    → BranchCheckCall a.0.now a.1.0.now a.1.1.0.now a.1.1.1.0.now r a.1.1.1.1.0.now
    s.1.1.1.1.0.now
branch-full-check = branch-check-tied

branch : (κs : Lfts 8) (a : ArgsD branch-fn.signature κs) (r : ResD branch-fn.signature κs)
    (s : AtExit (ended_of 8 branch-kinds.ps branch-kinds.r) κs) → branch-reads.Post κs a r s
    → AskExported BelowUpper a.0.now a.1.0.now a.1.1.0.now a.1.1.1.0.now a.1.1.1.1.0
    a.1.1.1.1.1.0 r a.1.1.1.1.1.1.0.now a.1.1.1.1.1.1.1.0.now
    a.1.1.1.1.1.1.1.1.0.now a.1.1.1.1.1.1.1.1.1.0.now s.1.1.1.1.1.1.0.now
    s.1.1.1.1.1.1.1.0.now s.1.1.1.1.1.1.1.1.0.now s.1.1.1.1.1.1.1.1.1.0.now
branch = branch-tied

branch-with-upper : (κs : Lfts 8) (a : ArgsD branch-upper-fn.signature κs) (r : ResD branch-upper-fn.signature κs)
    (s : AtExit (ended_of 8 branch-upper-kinds.ps branch-upper-kinds.r) κs) → branch-upper-reads.Post κs a r s
    → AskExported WithUpper a.0.now a.1.0.now a.1.1.0.now a.1.1.1.0.now a.1.1.1.1.0
    a.1.1.1.1.1.0 r a.1.1.1.1.1.1.0.now a.1.1.1.1.1.1.1.0.now
    a.1.1.1.1.1.1.1.1.0.now a.1.1.1.1.1.1.1.1.1.0.now s.1.1.1.1.1.1.0.now
    s.1.1.1.1.1.1.1.0.now s.1.1.1.1.1.1.1.1.0.now s.1.1.1.1.1.1.1.1.1.0.now
branch-with-upper = branch-upper-tied

-- ---- two rule tables, the planner's files, lists and counts

merge : (κs : Lfts 3) (a : ArgsD merge-fn.signature κs) (r : ResD merge-fn.signature κs)
    (s : AtExit (ended_of 3 merge-kinds.ps merge-kinds.r) κs) → merge-reads.Post κs a r s
    → MergeExported a.0.now a.1.0.now a.1.1.0.now r s.1.1.0.now
merge = merge-tied

agree : (κs : Lfts 5) (a : ArgsD agree-fn.signature κs) (r : ResD agree-fn.signature κs)
    (s : AtExit (ended_of 5 agree-kinds.ps agree-kinds.r) κs) → agree-reads.Post κs a r s
    → AgreeExported a.0.now a.1.0.now a.1.1.0.now a.1.1.1.0.now a.1.1.1.1.0.now r
    s.1.1.0.now s.1.1.1.0.now s.1.1.1.1.0.now
agree = agree-tied

plan-of-planner : (κs : Lfts 3) (a : ArgsD plan-of-planner-fn.signature κs) (r : ResD plan-of-planner-fn.signature κs)
    (s : AtExit (ended_of 3 plan-of-planner-kinds.ps plan-of-planner-kinds.r) κs) → plan-of-planner-reads.Post κs a r s
    → OutDone a.0.now a.1.0.now a.1.1.0.now r s.1.0.now s.1.1.0.now
plan-of-planner = out-tied

planner-of-plan : (κs : Lfts 2) (a : ArgsD planner-of-plan-fn.signature κs) (r : ResD planner-of-plan-fn.signature κs)
    (s : AtExit (ended_of 2 planner-of-plan-kinds.ps planner-of-plan-kinds.r) κs) → planner-of-plan-reads.Post κs a r s
    → HomeDone a.0.now a.1.0.now r s.1.0.now
planner-of-plan = home-tied

lay-over : (κs : Lfts 7) (a : ArgsD lay-over-fn.signature κs) (r : ResD lay-over-fn.signature κs)
    (s : AtExit (ended_of 7 lay-over-kinds.ps lay-over-kinds.r) κs) → lay-over-reads.Post κs a r s
    → LayExported a.0.now a.1.0.now a.1.1.0.now a.1.1.1.0.now a.1.1.1.1.0.now
    a.1.1.1.1.1.0.now a.1.1.1.1.1.1.0.now r s.1.1.1.1.0.now s.1.1.1.1.1.0.now
    s.1.1.1.1.1.1.0.now
lay-over = lay-tied

count : (κs : Lfts 8) (a : ArgsD count-fn.signature κs) (r : ResD count-fn.signature κs)
    (s : AtExit (ended_of 8 count-kinds.ps count-kinds.r) κs) → count-reads.Post κs a r s
    → CountExported a.0.now a.1.0.now a.1.1.0.now a.1.1.1.0.now a.1.1.1.1.0.now
    a.1.1.1.1.1.0.now a.1.1.1.1.1.1.0.now a.1.1.1.1.1.1.1.0.now r
    s.1.1.1.1.1.0.now s.1.1.1.1.1.1.0.now s.1.1.1.1.1.1.1.0.now
count = count-tied

-- ---- whole questions

ask : (κs : Lfts 11) (a : ArgsD ask-fn.signature κs) (r : ResD ask-fn.signature κs)
    (s : AtExit (ended_of 11 ask-kinds.ps ask-kinds.r) κs) → ask-reads.Post κs a r s
    → WholeExported a.0.now a.1.0.now a.1.1.0.now a.1.1.1.0.now a.1.1.1.1.0.now
    a.1.1.1.1.1.0.now r a.1.1.1.1.1.1.0.now a.1.1.1.1.1.1.1.0.now
    a.1.1.1.1.1.1.1.1.0.now a.1.1.1.1.1.1.1.1.1.0.now
    a.1.1.1.1.1.1.1.1.1.1.0.now s.1.1.1.1.1.1.0.now s.1.1.1.1.1.1.1.0.now
    s.1.1.1.1.1.1.1.1.0.now s.1.1.1.1.1.1.1.1.1.0.now
    s.1.1.1.1.1.1.1.1.1.1.0.now
ask = ask-tied

-- ---- what each node may take

allowed : (κs : Lfts 3) (a : ArgsD allowed-fn.signature κs) (r : ResD allowed-fn.signature κs)
    (s : AtExit (ended_of 3 allowed-kinds.ps allowed-kinds.r) κs) → allowed-reads.Post κs a r s
    → AllowedDone a.0.now a.1.0.now a.1.1.0.now r s.1.1.0.now
allowed = allowed-tied

clearing : (κs : Lfts 3) (a : ArgsD clearing-fn.signature κs) (r : ResD clearing-fn.signature κs)
    (s : AtExit (ended_of 3 clearing-kinds.ps clearing-kinds.r) κs) → clearing-reads.Post κs a r s
    → ClearingDone a.0.now a.1.0.now a.1.1.0.now r s.1.1.0.now
clearing = clearing-tied

-- ---- the fewest changes

fewest : (κs : Lfts 8) (a : ArgsD fewest-fn.signature κs) (r : ResD fewest-fn.signature κs)
    (s : AtExit (ended_of 8 fewest-kinds.ps fewest-kinds.r) κs) → fewest-reads.Post κs a r s
    → FewestTold a.0.now a.1.0.now a.1.1.0.now a.1.1.1.0 a.1.1.1.1.0.now
    a.1.1.1.1.1.0.now a.1.1.1.1.1.1.0.now a.1.1.1.1.1.1.1.0.now
    a.1.1.1.1.1.1.1.1.0.now r s.1.1.1.1.0.now s.1.1.1.1.1.0.now
    s.1.1.1.1.1.1.0.now s.1.1.1.1.1.1.1.0.now s.1.1.1.1.1.1.1.1.0.now
fewest = fewest-tied

-- ---- questions by colours

colour-branch-build : (κs : Lfts 4) (a : ArgsD words-build-fn.signature κs) (r : ResD words-build-fn.signature κs)
    (s : AtExit (ended_of 4 words-build-kinds.ps words-build-kinds.r) κs) → words-build-reads.Post κs a r s
    → ColourBranchBuildCall a.0.now a.1.0.now a.1.1.0.now a.1.1.1.0.now r s.1.1.0.now
    s.1.1.1.0.now
colour-branch-build = colour-branch-build-tied

colour-branch : (κs : Lfts 9) (a : ArgsD colour-branch-fn.signature κs) (r : ResD colour-branch-fn.signature κs)
    (s : AtExit (ended_of 9 colour-branch-kinds.ps colour-branch-kinds.r) κs) → colour-branch-reads.Post κs a r s
    → DescentExported BelowUpper a.0.now a.1.0.now a.1.1.0.now a.1.1.1.0.now
    a.1.1.1.1.0.now a.1.1.1.1.1.0 a.1.1.1.1.1.1.0 r a.1.1.1.1.1.1.1.0.now
    a.1.1.1.1.1.1.1.1.0.now a.1.1.1.1.1.1.1.1.1.0.now
    a.1.1.1.1.1.1.1.1.1.1.0.now s.1.1.1.1.1.1.1.0.now s.1.1.1.1.1.1.1.1.0.now
    s.1.1.1.1.1.1.1.1.1.0.now s.1.1.1.1.1.1.1.1.1.1.0.now
colour-branch = colour-branch-tied

colour-branch-with-upper : (κs : Lfts 9) (a : ArgsD colour-upper-fn.signature κs)
    (r : ResD colour-upper-fn.signature κs)
    (s : AtExit (ended_of 9 colour-upper-kinds.ps colour-upper-kinds.r) κs) → colour-upper-reads.Post κs a r s
    → DescentExported WithUpper a.0.now a.1.0.now a.1.1.0.now a.1.1.1.0.now
    a.1.1.1.1.0.now a.1.1.1.1.1.0 a.1.1.1.1.1.1.0 r a.1.1.1.1.1.1.1.0.now
    a.1.1.1.1.1.1.1.1.0.now a.1.1.1.1.1.1.1.1.1.0.now
    a.1.1.1.1.1.1.1.1.1.1.0.now s.1.1.1.1.1.1.1.0.now s.1.1.1.1.1.1.1.1.0.now
    s.1.1.1.1.1.1.1.1.1.0.now s.1.1.1.1.1.1.1.1.1.1.0.now
colour-branch-with-upper = colour-branch-upper-tied

colour-build : (κs : Lfts 4) (a : ArgsD colour-build-fn.signature κs) (r : ResD colour-build-fn.signature κs)
    (s : AtExit (ended_of 4 colour-build-kinds.ps colour-build-kinds.r) κs) → colour-build-reads.Post κs a r s
    → ColourBuildCall a.0.now a.1.0.now a.1.1.0.now a.1.1.1.0.now r s.1.1.0.now
    s.1.1.1.0.now
colour-build = colour-build-tied

colour-ask : (κs : Lfts 13) (a : ArgsD colour-ask-fn.signature κs) (r : ResD colour-ask-fn.signature κs)
    (s : AtExit (ended_of 13 colour-ask-kinds.ps colour-ask-kinds.r) κs) → colour-ask-reads.Post κs a r s
    → RuleExported a.0.now a.1.0.now a.1.1.0.now a.1.1.1.0.now a.1.1.1.1.0.now
    a.1.1.1.1.1.0.now a.1.1.1.1.1.1.0.now a.1.1.1.1.1.1.1.0.now r
    a.1.1.1.1.1.1.1.1.0.now a.1.1.1.1.1.1.1.1.1.0.now
    a.1.1.1.1.1.1.1.1.1.1.0.now a.1.1.1.1.1.1.1.1.1.1.1.0.now
    a.1.1.1.1.1.1.1.1.1.1.1.1.0.now s.1.1.1.1.1.1.1.1.0.now
    s.1.1.1.1.1.1.1.1.1.0.now s.1.1.1.1.1.1.1.1.1.1.0.now
    s.1.1.1.1.1.1.1.1.1.1.1.0.now s.1.1.1.1.1.1.1.1.1.1.1.1.0.now
colour-ask = colour-ask-tied

-- ---- the version

version : (κs : Lfts 0) (a : ArgsD version-fn.signature κs) (r : ResD version-fn.signature κs)
    (s : AtExit (ended_of 0 version-kinds.ps version-kinds.r) κs) → version-reads.Post κs a r s
    → r ≡ version_number
version = version-tied
