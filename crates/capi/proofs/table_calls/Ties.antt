-- What the contracts of the exported calls of the tables claim, as the prover itself reads them off the sources
-- (`Reads.Post`), is what the theorems take (`BuildExported`, `CheckExported`, `RunExported`). A contract that promises
-- less is refused here.
--     build-tied, check-tied, run-tied    the contracts are BuildExported and CheckExported, of the checks 2 to 11 and
--                                         the tables of the definitions, and RunExported
--     version-tied                        the version is the release's
-- Numbers and what a refusal leaves: Theorems.
use mathlib.Core.Path.{◌≡◌}
use lib.ListN.{length}
use contract.Lifetimes.{Lfts}
use borrow.Fn.World.{ArgsD, ResD}
use borrow.Fn.Kinds.{ended_of}
use denote.Triple.Clauses.{AtExit}
use Rattle.formats.specs.Checks.{first_no, build_checks}
use Rattle.formats.specs.Built.{built_node_table, built_state_table}
use Rattle.capi.specs.numbers.Numbers.{BuildExported, CheckExported}
use Rattle.capi.specs.table_calls.RunExported.{RunExported}
use Rattle.capi.specs.version.Version.{version_number}
use Rattle.capi.specs.contracts.table_calls.whatif_build as build-fn
use Rattle.capi.proofs.table_calls.whatif_build.Kinds as build-kinds
use Rattle.capi.proofs.table_calls.whatif_build.Reads as build-reads
use Rattle.capi.specs.contracts.table_calls.whatif_check as check-fn
use Rattle.capi.proofs.table_calls.whatif_check.Kinds as check-kinds
use Rattle.capi.proofs.table_calls.whatif_check.Reads as check-reads
use Rattle.capi.specs.contracts.table_calls.whatif_fresh_run as run-fn
use Rattle.capi.proofs.table_calls.whatif_fresh_run.Kinds as run-kinds
use Rattle.capi.proofs.table_calls.whatif_fresh_run.Reads as run-reads
use Rattle.capi.specs.contracts.version.whatif_version as version-fn
use Rattle.capi.proofs.version.whatif_version.Kinds as version-kinds
use Rattle.capi.proofs.version.whatif_version.Reads as version-reads

pub build-tied : (κs : Lfts 4) (a : ArgsD build-fn.signature κs) (r : ResD build-fn.signature κs)
    (s : AtExit (ended_of 4 build-kinds.ps build-kinds.r) κs) → build-reads.Post κs a r s
    → BuildExported
    (first_no (build_checks a.0.now a.1.0.now (length a.1.1.0.now) (length a.1.1.1.0.now)))
    (built_node_table a.0.now) (built_state_table a.0.now a.1.0.now) a.1.1.0.now
    a.1.1.1.0.now r s.1.1.0.now s.1.1.1.0.now
build-tied κs a r s p = p

pub check-tied : (κs : Lfts 5) (a : ArgsD check-fn.signature κs) (r : ResD check-fn.signature κs)
    (s : AtExit (ended_of 5 check-kinds.ps check-kinds.r) κs) → check-reads.Post κs a r s
    → CheckExported
    (first_no (build_checks a.0.now a.1.0.now (length a.1.1.0.now) (length a.1.1.1.0.now)))
    (built_node_table a.0.now) (built_state_table a.0.now a.1.0.now) a.1.1.0.now
    a.1.1.1.0.now r a.1.1.1.1.0.now s.1.1.1.1.0.now
check-tied κs a r s p = p

pub run-tied : (κs : Lfts 6) (a : ArgsD run-fn.signature κs) (r : ResD run-fn.signature κs)
    (s : AtExit (ended_of 6 run-kinds.ps run-kinds.r) κs) → run-reads.Post κs a r s
    → RunExported a.0.now a.1.0.now a.1.1.0.now a.1.1.1.0.now r a.1.1.1.1.0.now
    a.1.1.1.1.1.0.now s.1.1.1.1.0.now s.1.1.1.1.1.0.now
run-tied κs a r s p = p

-- it takes no arguments, and refuses nothing
pub version-tied : (κs : Lfts 0) (a : ArgsD version-fn.signature κs) (r : ResD version-fn.signature κs)
    (s : AtExit (ended_of 0 version-kinds.ps version-kinds.r) κs) → version-reads.Post κs a r s
    → r ≡ version_number
version-tied κs a r s p = p
