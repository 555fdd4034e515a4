-- What holds of an advance for any inputs: the properties of what document 01 leaves to the program.
--
-- Usable r x ps == "plan and rules name the record's N, S and K and, like the 16-bit numbers, are .. as built, but run states and maps
--   are any bytes below S"; the record's roots are the plan's for some W, and ps the parts handled so far
-- rule_gives r x ps == the state, links and nodes passed over that the rule of document 01 gives for the next part
-- AdvanceProperties r x a r' == those of an advance: one more state, below S; the links of one climb, and no fewer
--   nodes passed over, at most the greatest depth in the node table; 18 only where a value is out of range; on usable
--   tables what the rule gives, never 18
-- LeftOpen r c a r' == those of a call; the calls other than advance leave nothing to the program
use Rattle.std.specs.Prelude.{ℕ, ◌+◌, ◌≤◌, ◌<◌, ◌≡◌, true, false, List, [], ◌∷◌, ◌++◌, length, get_or, take}
use Rattle.std.proofs.Math.Option.{some}
use Rattle.list_laws.specs.Tests.{all_below}
use Rattle.formats.specs.Plan.{plan_tree}
use Rattle.formats.specs.Checks.{first_no, list_checks}
use Rattle.questions.specs.ready.Parts.{Part, nodes_of, states_of, part_state, part_links, part_passed}
use Rattle.tables.specs.declared.answers.Reached.{Reached}
use Rattle.tables.specs.Climbs.{reached}
use Rattle.questions.specs.OutOfRange.{PartOutOfRange}
use Rattle.tables.specs.node_tables.Cells.{depth_cell}
use Rattle.formats.specs.Inputs.{Inputs, used_node_table, node_table_built, states_below}
use Rattle.model.specs.Calls.{Call, load, start, advance, cancel, read, Answer, refused, is_refused}
use Rattle.model.specs.Refusals.{refusal}
use Rattle.model.specs.Model.{Record, stage_of, roots_in, advance_with}
use Rattle.questions.specs.PartInputs.{view_by, given_of}

pub record Usable (r : Record) (x : Inputs) (ps : List Part) : Type 0 where
  pub node_table : node_table_built r.sizes x ≡ true
  pub state_table : states_below r.sizes x ≡ true
  pub listed : first_no (list_checks r.sizes.n r.sizes.k r.nodes r.labels) ≡ 0
  pub left : List ℕ
  pub ready : r.roots ≡ roots_in x left
  pub before : nodes_of ps ≡ take (length r.states) r.roots
  pub states : states_of ps ≡ r.states
  pub below : all_below r.sizes.s r.states ≡ true
  pub next : length r.states < length r.roots

-- "an advance goes on as always and stores and counts what this rule gives on those bytes"
abbrev pub rule_gives : Record → Inputs → List Part → Reached
rule_gives r x ps =
    reached (part_state (given_of r.sizes x x r.nodes r.labels) r.roots ps (get_or r.roots (length r.states) 0))
    (part_links (plan_tree x.plan) r.roots (get_or r.roots (length r.states) 0))
    (part_passed (plan_tree x.plan) r.roots (get_or r.roots (length r.states) 0))

pub record AdvanceProperties (r : Record) (x : Inputs) (a : Answer) (r' : Record) : Type 0 where
  pub stored : is_refused a ≡ false → (q : ℕ) × (r'.states ≡ r.states ++ (q ∷ [])) × (q < r.sizes.s)
  pub counted : is_refused a ≡ false → r'.links ≤ r.links + r.sizes.n
  pub links_passed : is_refused a ≡ false → r'.links + r.passed ≤ r'.passed + r.links
  pub passed_most : is_refused a ≡ false → (m : ℕ)
      → ((v : ℕ) → depth_cell (used_node_table r.sizes x) v ≤ m) → r'.passed ≤ r.passed + m
  pub out_of_range : a ≡ refused 18 → PartOutOfRange (view_by r.sizes x) r.states r.nodes r.labels
  pub rule : (ps : List Part) → refusal (stage_of r) (advance x) ≡ 0 → Usable r x ps
      → (a ≡ (advance_with r x (some (rule_gives r x ps))).answer) × (r' ≡ (advance_with r x (some (rule_gives r x ps))).record')

abbrev pub LeftOpen : Record → Call → Answer → Record → Type 0
LeftOpen r (load x) a r' = Unit {0}
LeftOpen r (start x vs bs) a r' = Unit {0}
LeftOpen r (advance x) a r' = AdvanceProperties r x a r'
LeftOpen r cancel a r' = Unit {0}
LeftOpen r read a r' = Unit {0}
