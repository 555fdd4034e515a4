-- What document 01 wants proved beside its demands, of every tree and of the calls, and source document 002's
-- partition.
--     climb-to                              where a climb ends, how many moves it makes, and its ceiling
--     climb-six-to-one, climb-six-to-zero   "a climb from depth 6 to 1 takes 3 links, to 0 takes 2"
--     one-node-accepted, two-nodes-refused  "N=1 is accepted with 14 bytes; N=2 gets 5", of the build with any rules
--     empty-word                            document 02, S-9: the same node twice, from below the upper node, as the
--                                           result that the promise names; as the exported call answers it: Branches
--     roots-are-ready                       the roots that are computed are the ready set
--     parts-partition                       each node is in exactly one part; what each part looks like: crate
--                                           questions, proofs/ready/PartitionLaws
--     answered-by-value, answered-in-place, answered-on-bytes   a question that Start accepted is answered to its end:
--                                           nothing is refused
--     part-links                            the ceiling for each part: an advance adds at most 3 links for each digit
--                                           of the plan's height
--     broken-bytes                          "bytes that break it get 1", and stay
use Prim.Native.Nat.{ℕ, ◌+◌, ◌-◌, ◌*◌, ◌≤◌, ◌<◌}
use mathlib.Core.Path.{◌≡◌, refl, ap, ◌∙◌}
use mathlib.Core.Bool.{Bool, true, false}
use mathlib.Core.List.{List, [], ◌∷◌, Memᴰ}
use mathlib.Core.Option.{some}
use native.Mathlib.Omega.{arith}
use lib.Dec.{ltb}
use lib.ListN.{length, replicate}
use borrow.Author.Tests.{lt-ltb}
use Rattle.std.specs.Prelude.{Ok}
use Rattle.list_laws.specs.Tests.{holds, all_below}
use Rattle.list_laws.proofs.BoolLaws.{and_both}
use Rattle.trees.specs.Tree.{Tree, leaf, size, height}
use Rattle.trees.specs.Numbering.{depth}
use Rattle.trees.specs.Climb.{move_count, digits}
use Rattle.trees.proofs.NodeLaws.{size-pos}
use Rattle.trees.proofs.TreeClimbs.{climb-tree, climb-bound}
use Rattle.trees.proofs.Samples.{move_count-samples}
use Rattle.formats.specs.Bytes.{le32}
use Rattle.formats.specs.Plan.{node_count, plan_tree, plan_bytes}
use Rattle.formats.specs.Inputs.{Inputs}
use Rattle.formats.specs.Rules.{state_count, label_count, branch_automaton}
use Rattle.formats.specs.Built.{BranchBuilt}
use Rattle.formats.specs.Checks.{first_no, plan_checks, rule_checks, rule_table_checks, room_check, build_checks}
use Rattle.formats.proofs.CheckLaws.{first_no-append-suc}
use Rattle.formats.proofs.RuleLaws.{rules-pass}
use Rattle.formats.proofs.InputLaws.{passes-rule-table, passes-build}
use Rattle.formats.proofs.PlanTrees.{plan_bytes-passes, labels_within-plan_bytes, count-plan_bytes, length-plan_bytes}
use Rattle.formats.proofs.PlanTheorems.{two-nodes}
use Rattle.tables.specs.node_tables.NodeCells.{NodeCells}
use Rattle.branches.specs.declared.answers.Reading.TheVariants.{BelowUpper}
use Rattle.branches.specs.Question.{branched, ask_answer}
use Rattle.branches.proofs.AskTheorem as ask-theorem
use Rattle.questions.specs.ready.Members.{roots}
use Rattle.questions.specs.ready.Parts.{Part}
use Rattle.questions.proofs.ready.ListLaws.{list-ready, ready-list, list-rising, list-last}
use Rattle.questions.proofs.ready.PartitionLaws.{part-unique, part-exists}
use Rattle.questions.specs.Roots.{roots_on}
use Rattle.questions.proofs.RootsBuilt.{roots-built}
use Rattle.model.specs.Calls.{Call, advance, Answer, refused}
use Rattle.model.specs.Refusals.{refusal}
use Rattle.model.specs.Model.{stage_of}
use Rattle.model.specs.LeftOpen.{Usable}
use Rattle.reference.specs.Finished.{QuestionsFinish}
use Rattle.session.specs.declared.state.Session.{Session}
use Rattle.session.specs.Records.{record_of, valid, fresh_session}
use Rattle.session.specs.CallsByValue.{CallByValue}
use Rattle.session.specs.in_place.CallsInPlace.{CallInPlace}
use Rattle.records.specs.Layout.{valid_bytes}
use Rattle.capi_session.specs.DecodedAnswers.{Exports}
use Rattle.claims.proofs.QuestionForms.{finishes-by-value, finishes-in-place, finishes-on-bytes, part-ceiling}
use Rattle.claims.proofs.BrokenBytes.{broken-refused}
use Rattle.claims.specs.FurtherStatements.{ClimbTo, ClimbTakes, RootsReady, PartOf}

-- ---- climbs, in every tree

climb-to : (t : Tree) (w to : ℕ) → w < size t → to ≤ depth t w → ClimbTo t w to
climb-to t w to h l =
    let c = climb-tree t w to h l in
    record {
      moves = c.moves;
      found = c.found;
      ends = c.ends;
      count = c.count;
      few = climb-bound t w to c.moves h l c.found;
    }

climb-six-to-one : (t : Tree) (w : ℕ) → w < size t → depth t w ≡ 6 → ClimbTakes t w 1 3
climb-six-to-one t w h e =
    let c = climb-tree t w 1 h (omega arith) in
    (c.moves, c.found, c.count ∙ ap (λ (d : ℕ). move_count d 1) e ∙ move_count-samples.0)

climb-six-to-zero : (t : Tree) (w : ℕ) → w < size t → depth t w ≡ 6 → ClimbTakes t w 0 2
climb-six-to-zero t w h e =
    let c = climb-tree t w 0 h (omega arith) in
    (c.moves, c.found, c.count ∙ ap (λ (d : ℕ). move_count d 0) e ∙ move_count-samples.1)

-- ---- plans of one and of two nodes, by the build's checks

one-node-accepted : (a : ℕ) (r : List ℕ) → first_no (rule_checks r) ≡ 0 → a < label_count r → (node_table state_table : ℕ)
    → 4 ≤ node_table → state_count r + 1 ≤ state_table
    → (length (plan_bytes (leaf a)) ≡ 14) × (first_no (build_checks (plan_bytes (leaf a)) r node_table state_table) ≡ 0)
one-node-accepted a r e h node_table state_table n b =
    let c : node_count (plan_bytes (leaf a)) ≡ 1 = count-plan_bytes (leaf a) (omega arith) in (
      length-plan_bytes (leaf a),
      passes-build (plan_bytes (leaf a)) r node_table state_table
          (passes-rule-table (plan_bytes (leaf a)) r (plan_bytes-passes (leaf a) (omega arith)) (rules-pass r e)
          (rw (labels_within-plan_bytes (leaf a) (omega arith))
          (unfold all_below in and_both (ltb a (label_count r)) true (lt-ltb a (label_count r) h) refl)))
          (rw c n) (rw c (omega arith)),
    )

two-nodes-refused : (p r : List ℕ) (node_table state_table : ℕ) → length p ≡ 16 → node_count p ≡ 2 → le32 p 4 ≡ 12
    → le32 p 8 ≡ 14
    → first_no (build_checks p r node_table state_table) ≡ 5
unfolding build_checks rule_table_checks
two-nodes-refused p r node_table state_table h n a b =
    first_no-append-suc _ (room_check (node_count p) (state_count r) node_table state_table ∷ []) 4
    (first_no-append-suc (plan_checks p) _ 4 (two-nodes p h n a b))

-- ---- branch questions from below the upper node

-- "the same node twice is the empty word, and the mark of state 0 decides"
empty-word : (p r node_table state_table : List ℕ) → BranchBuilt p r node_table state_table → (u : ℕ) → u < node_count p
    → ask_answer BelowUpper p r node_table state_table u u ≡ Ok (branched (branch_automaton r) 0 0 0)
empty-word = ask-theorem.empty-word

-- ---- "Let W be the listed nodes and the root. The ready set is the least set that ..": on numbers as built the roots
-- are that set

roots-are-ready : (t : Tree) (node_table : List ℕ) → NodeCells t node_table → (vs : List ℕ)
    → ((v : ℕ) → Memᴰ v vs → v < size t)
    → (l : List ℕ) × (roots_on (size t) node_table vs ≡ some l) × RootsReady t vs l
roots-are-ready t node_table c vs h = (
  roots t vs,
  roots-built t node_table c vs h,
  unfold roots in record {
    members = λ v. (list-ready (λ x. holds x vs) t, ready-list (λ x. holds x vs) t);
    rising = list-rising (λ x. holds x vs) t;
    last = list-last (λ x. holds x vs) t (size t - 1) (omega (arith, size-pos t));
  },
)

-- ---- "The partition will assign each vertex of T to a unique part"

parts-partition : (w : ℕ → Bool) (t : Tree) (x : ℕ) → x < size t → PartOf w t x
parts-partition w t x h =
    let p = part-exists w t x h in
    record {
      member = p.0;
      has = p.1;
      only = λ u q. part-unique w t u p.0 x q p.1;
    }

-- ---- after an accepted Start that returned n parts, n advances given the same and a Read answer more .., finished and
-- the fresh run's answer

answered-by-value : QuestionsFinish fresh_session CallByValue
answered-by-value = finishes-by-value

answered-in-place : QuestionsFinish fresh_session CallInPlace
answered-in-place = finishes-in-place

answered-on-bytes : QuestionsFinish (replicate 983 0) Exports
answered-on-bytes = finishes-on-bytes

-- at most three links for each binary digit of the plan's height, of the call that handles the part; on usable tables
part-links : (s s' : Session) (x : Inputs) (a : Answer) (ps : List Part) → CallByValue s (advance x) a s'
    → valid s ≡ true
    → refusal (stage_of (record_of s)) (advance x) ≡ 0 → Usable (record_of s) x ps
    → s'.head.links ≤ s.head.links + 3 * digits (height (plan_tree x.plan))
part-links = part-ceiling

-- ---- "the record crosses as bytes, whose layout stands in docs/, and bytes that break it get 1"

broken-bytes : (b b' : List ℕ) (c : Call) (a : Answer) → Exports b c a b' → valid_bytes b ≡ false
    → (a ≡ refused 1) × (b' ≡ b)
broken-bytes = broken-refused
