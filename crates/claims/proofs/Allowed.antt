-- Which labels may each pass take, and which of its states clear the plan? Over the promises of whatif_allowed and
-- whatif_clearing.
--     mask-is-the-run   bit a of a node's mask: whether a fresh run of the plan with that label there clears it
--     no-other-bit      bits from K on are 0
--     own-label         the bit of a node's own label is the verdict of the plan as it is
--     masks-written, masks-beyond   the whole buffer: a number a node, and behind them what was there
--     masks-refused     the first of 2 to 11 that fails, and the buffer as it was
--     set-of-state      bit q of a node's set: whether the plan is cleared with state q put in there
--     set-is-the-run    the same of any subtree with that state: whether its run in that place clears the plan
--     no-other-state, own-state, sets-written, sets-beyond, sets-refused   as above
--     mask-by-set       bit a of a node's mask is the bit, in its set, of the state that it gets with label a
-- The order of the numbers, and both calls in the form of all others: Calls.
use Prim.Native.Nat.{ℕ, ◌^◌, ◌≤◌, ◌<◌}
use mathlib.Core.Path.{◌≡◌, refl}
use mathlib.Core.List.{List, [], ◌∷◌, ◌++◌}
use lib.ListN.{length, get_or, drop}
use Rattle.trees.specs.Tree.{Tree}
use Rattle.trees.specs.Automaton.{state, accepts}
use Rattle.trees.specs.Numbering.{sub}
use Rattle.formats.specs.Plan.{node_count, labels_within, plan_tree}
use Rattle.formats.specs.Rules.{state_count, label_count, rule_automaton}
use Rattle.formats.specs.Checks.{first_no}
use Rattle.state_sets.specs.StateSets.{member}
use Rattle.runs.specs.FreshRun.{root_accepted}
use Rattle.allowed.specs.Allowed.{allowed_sets}
use Rattle.allowed.specs.Clearing.{state_given, clearing_sets, replaced, state_with}
use Rattle.allowed.specs.Answers.{node_room_checks, AllowedDone, ClearingDone}
use Rattle.capi.proofs.allowed_calls.Theorems as calls

-- ---- the labels that each node may take

module _ (p r masks masks' : List ℕ) (D : AllowedDone p r masks 0 masks') where
  -- "bit a of masks[v] is 1 exactly where the plan with node v alone relabelled to a is cleared": what whatif_fresh_run
  -- answers for that list of one change
  mask-is-the-run : (v a : ℕ) → v < node_count p → a < label_count r
      → member (get_or masks' v 0) a ≡ root_accepted p r (v ∷ []) (a ∷ [])
  mask-is-the-run = calls.mask-is-the-run p r masks masks' D

  -- "bits from K on are 0"
  no-other-bit : (v : ℕ) → v < node_count p → get_or masks' v 0 < 2 ^ label_count r
  no-other-bit = calls.no-other-bit p r masks masks' D

  -- "The bit of a node's own label is the verdict of the plan as it is."
  own-label : (v : ℕ) → v < node_count p
      → member (get_or masks' v 0) (get_or (labels_within p) v 0) ≡ accepts (rule_automaton r) (plan_tree p)
  own-label = calls.own-label p r masks masks' D

  -- "The rest of a longer buffer is untouched."
  masks-written : masks' ≡ allowed_sets (rule_automaton r) (label_count r) (plan_tree p) ++ drop (node_count p) masks
  masks-written = D.written refl

  masks-beyond : (j : ℕ) → node_count p ≤ j → get_or masks' j 0 ≡ get_or masks j 0
  masks-beyond = calls.masks-beyond p r masks masks' D

-- "Refused, masks is as it was."
masks-refused : (p r masks : List ℕ) (n : ℕ) (masks' : List ℕ) → AllowedDone p r masks n masks'
    → (n ≡ first_no (node_room_checks p r (length masks))) × ((n ≡ 0 → ⊥) → masks' ≡ masks)
masks-refused p r masks n masks' D = (D.number, D.kept)

-- ---- the states with which the plan is cleared

module _ (p r sets sets' : List ℕ) (D : ClearingDone p r sets 0 sets') where
  -- "for each node v the set of states q such that the plan is cleared if node v's subtree had state q and all else is
  -- as it is"
  set-of-state : (v q : ℕ) → v < node_count p → q < state_count r
      → member (get_or sets' v 0) q ≡ (rule_automaton r).accepting (state_given (rule_automaton r) (plan_tree p) v q)
  set-of-state = calls.set-of-state p r sets sets' D

  -- in particular of every tree u in place of node v's subtree: source document 002's run of that plan
  set-is-the-run : (v : ℕ) (u : Tree) → v < node_count p
      → member (get_or sets' v 0) (state (rule_automaton r) u) ≡ accepts (rule_automaton r) (replaced (plan_tree p) v u)
  set-is-the-run = calls.set-is-the-run p r sets sets' D

  -- bits from S on are 0
  no-other-state : (v : ℕ) → v < node_count p → get_or sets' v 0 < 2 ^ state_count r
  no-other-state = calls.no-other-state p r sets sets' D

  -- the bit of a node's own state is the verdict of the plan as it is
  own-state : (v : ℕ) → v < node_count p
      → member (get_or sets' v 0) (state (rule_automaton r) (sub (plan_tree p) v)) ≡ accepts (rule_automaton r) (plan_tree p)
  own-state = calls.own-state p r sets sets' D

  -- "rest of a longer buffer untouched"
  sets-written : sets' ≡ clearing_sets (rule_automaton r) (plan_tree p) ++ drop (node_count p) sets
  sets-written = D.written refl

  sets-beyond : (j : ℕ) → node_count p ≤ j → get_or sets' j 0 ≡ get_or sets j 0
  sets-beyond = calls.sets-beyond p r sets sets' D

-- "refused: unchanged"
sets-refused : (p r sets : List ℕ) (n : ℕ) (sets' : List ℕ) → ClearingDone p r sets n sets'
    → (n ≡ first_no (node_room_checks p r (length sets))) × ((n ≡ 0 → ⊥) → sets' ≡ sets)
sets-refused p r sets n sets' D = (D.number, D.kept)

-- ---- both

-- "bit a of masks[v] is 1 exactly where the state that v gets with label a is in v's clearing set"
mask-by-set : (p r masks masks' sets sets' : List ℕ) → AllowedDone p r masks 0 masks' → ClearingDone p r sets 0 sets'
    → (v a : ℕ) → v < node_count p → a < label_count r
    → member (get_or masks' v 0) a ≡ member (get_or sets' v 0) (state_with (rule_automaton r) (plan_tree p) v a)
mask-by-set = calls.mask-by-set
