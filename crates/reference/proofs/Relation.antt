-- What ties the session's record to the reference model.
--     Parted r z q ps    Start's node table is as built; the record has the question's list and the ready set, and the
--                        states of parts ps, all below S
--     Counted r q        its states, links and nodes passed over are the reference model's results, one for each count
--     Cleanly z q        the state table of Start is as built, and the results were worked out on it
--     SettledAs r z q k  what holds of a question of settlement k
--     Unended            a running question has a part left
--     Told o q k         outcome o is that of a finished question of settlement k, as far as it is settled
--     Lasts o l          the last finished answer is the last finished question's
--     Rel r b            record and reference model agree
-- Of a question left to the program SettledAs has only that some parts are handled: enough to show that 18 is never
-- given on other bytes, and only with a cause.
use Prim.Native.Nat.{◌<◌}
use mathlib.Core.Path.{◌≡◌}
use mathlib.Core.Bool.{true}
use mathlib.Core.List.{List, []}
use mathlib.Core.Option.{Option, none, some}
use lib.ListN.{length, take}
use Rattle.formats.specs.Checks.{first_no, list_checks}
use Rattle.questions.specs.ready.Parts.{Part, parts_from, all_links, all_passed}
use Rattle.formats.specs.Inputs.{Sizes, node_table_built, state_table_built}
use Rattle.model.specs.Calls.{Outcome, outcome}
use Rattle.reference.specs.Reference.{Settlement, clean, by_rule, by_program, Question, State, Reference, phase}
use Rattle.reference.specs.Reference.{roots_of, part_count, given_by, fresh_answer, rule_answer}
use Rattle.model.specs.Model.{Record}
use Rattle.questions.specs.ready.Parts.{states_of}
use Rattle.model.proofs.Facts.{Handled}

pub record Parted (r : Record) (z : Sizes) (q : Question) (ps : List Part) : Type 0 where
  pub built : node_table_built z q.inputs ≡ true
  pub nodes : r.nodes ≡ q.nodes
  pub labels : r.labels ≡ q.labels
  pub roots : r.roots ≡ roots_of q
  pub states : r.states ≡ states_of ps
  pub listed : first_no (list_checks z.n z.k q.nodes q.labels) ≡ 0
  pub handled : Handled z.s (roots_of q) ps

pub record Counted (r : Record) (z : Sizes) (q : Question) : Type 0 where
  pub parted : Parted r z q q.results
  pub links : r.links ≡ all_links q.results
  pub passed : r.passed ≡ all_passed q.results
  pub count : q.count ≡ length q.results

pub record Cleanly (z : Sizes) (q : Question) : Type 0 where
  pub state_table : state_table_built z q.inputs ≡ true
  pub replayed : q.results ≡ parts_from (given_by z q q.inputs) (roots_of q) [] (take (length q.results) (roots_of q))

-- some parts were handled, with any states
abbrev pub SomeParted : Record → Sizes → Question → Type 0
SomeParted r z q = (ps : List Part) × Parted r z q ps

abbrev pub SettledAs : Record → Sizes → Question → Settlement → Type 0
SettledAs r z q clean = Counted r z q × Cleanly z q
SettledAs r z q by_rule = Counted r z q
SettledAs r z q by_program = SomeParted r z q

abbrev pub Unended : Record → Question → Type 0
Unended r q = length r.states < part_count q

-- proved once, at the finish
abbrev pub Told : Outcome → Question → Settlement → Type 0
Told o q clean = outcome o ≡ fresh_answer q
Told o q by_rule = outcome o ≡ rule_answer q
Told o q by_program = Unit {0}

abbrev pub Lasts : Option Outcome → Option Question → Type 0
Lasts none none = Unit {0}
Lasts none (some q) = ⊥
Lasts (some o) none = ⊥
Lasts (some o) (some q) = Told o q q.settlement

abbrev pub Holds : Record → Sizes → State → Type 0
Holds r z State.empty = Unit {0}
Holds r z State.loaded = Unit {0}
Holds r z (State.running q) = SettledAs r z q q.settlement × Unended r q
Holds r z State.answered = Unit {0}

pub record Rel (r : Record) (b : Reference) : Type 0 where
  pub phases : r.phase ≡ phase b.state
  pub sizes : r.sizes ≡ b.sizes
  pub holds : Holds r b.sizes b.state
  pub lasts : Lasts r.last b.last
