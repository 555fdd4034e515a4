-- A clean question: its parts, worked out on the state table that Load writes, give the fresh run.
--     table_below      every byte that Load writes is below S
--     sound-below      so sound inputs have bytes below S
--     part-below       for any bytes, the state of a part is below S
--     given-same       the rule reads no more of the inputs than the state table in use
--     whole-state      the last part has the root state of a fresh run on Start's plan with the listed labels changed
--     whole_before     so had the last of the parts of all listed nodes: "On tables as built the answer is as before"
--                      (document 02, S-5)
--     whole-links      the links in all are the moves of the parts' climbs
--     whole-over       the nodes passed over in all are those of the parts' climbs
use Rattle.std.proofs.Common.{◌≡◌, ℕ, zero, suc, ◌+◌, ◌-◌, ◌*◌, ◌<◌, Bool, true, false, cond, eqb, List, [], ◌∷◌, ◌++◌, length, get_or, take, sym, refl, ap, ◌∙◌, subst, arith, take_all}
use mathlib.Core.List.{Memᴰ}
use Rattle.trees.specs.Tree.{Tree, size, kinds_of, kind_at, labels_of, label_at}
use Rattle.trees.specs.Automaton.{Automaton, state}
use Rattle.trees.specs.Numbering.{sub}
use Rattle.trees.specs.Changes.{changed}
use Rattle.trees.specs.Postorder.{tree_of}
use Rattle.list_laws.specs.Rows.{rows}
use Rattle.trees.specs.Tables.{state_map, state_row, state_table_of}
use Rattle.trees.proofs.NodeLaws.{size-pos, sub-root}
use Rattle.trees.proofs.PostorderLaws.{tree_of-kinds, tree_of-labels}
use Rattle.list_laws.proofs.RowLaws.{Cell, cell-split, get_d_tabulate, get_d_rows}
use Rattle.trees.proofs.TableRows.{length-state_row, state_table_of-state, state_table_of-map}
use Rattle.trees.proofs.MapLaws.{state_map-below}
use Rattle.trees.proofs.RunLaws.{state_below, changed-length}
use Rattle.list_laws.specs.Tests.{all_below, holds}
use Rattle.formats.specs.Plan.{plan_tree, labels_within, kinds_in}
use Rattle.formats.specs.Rules.{rule_automaton}
use Rattle.list_laws.proofs.BoolLaws.{true-false}
use Rattle.list_laws.proofs.TestLaws.{at-all_below, same_list-true}
use Rattle.formats.proofs.PlanLaws.{labels-as-kinds, kinds-plan_tree, labels-plan_tree}
use Rattle.formats.proofs.RuleLaws.{RulesPass, leaf-state-below, inner-state-below}
use Rattle.changes.specs.Differing.{differing}
use Rattle.changes.proofs.DifferingLaws.{unlisted-same, differing-listed}
use Rattle.questions.specs.ready.Ready.{left_child, right_child}
use Rattle.questions.specs.ready.Members.{ready_list, roots, Rising}
use Rattle.questions.specs.ready.Parts.{Given, Part, any_below, state_of, climbed_state, inner_state, part_state, part_of, parts_from}
use Rattle.questions.specs.ready.Parts.{parts_of, last_state, all_links, question_links, all_passed, question_passed}
use Rattle.questions.proofs.ready.ChangedRun.{Changes}
use Rattle.questions.specs.ready.StaysInside.{StaysInside}
use Rattle.questions.proofs.ready.PartsRun.{parts-right, rising-not, state-new}
use Rattle.questions.specs.ready.RunGiven.{RunGiven}
use Rattle.questions.proofs.ready.SameTrees.{same_count}
use Rattle.questions.proofs.ready.ListLaws.{list-members, list-last, list-rising}
use Rattle.formats.specs.Inputs.{Inputs, Sizes, used_state_table, state_table_built, states_below}
use Rattle.questions.specs.PartInputs.{given_of}
use Rattle.questions.specs.ready.Parts.{nodes_of}
use Rattle.questions.proofs.ready.PassedLaws.{whole-passed}
use Rattle.questions.proofs.PartListLaws.{last_more, from_more, from-nodes, from-links}
use Rattle.tables.proofs.TableLoop.{length-state_table_of}
use Rattle.formats.proofs.InputsLaws.{plan-of, rules-of}
use Rattle.formats.specs.Passing.{Built}

-- ---- the state table that Load writes

module _ (A : Automaton) (S : StaysInside A) (t : Tree) where
  row_below : (v k : ℕ) → k < A.states + 1 → get_or (state_row A t v) k 0 < A.states
  row_below v zero h = state_below A S.init S.next (sub t v)
  row_below v (suc q) h =
      rw (get_d_tabulate A.states (state_map A t v) q (omega arith))
      (state_map-below A t S.next v q (omega arith))

  pub table_below : all_below A.states (state_table_of A t) ≡ true
  unfolding state_table_of
  table_below = at-all_below A.states (rows (size t) (state_row A t))
      (λ j h. each j (omega (arith, length-state_table_of A t)))
    where
      each : (j : ℕ) → j < size t * (A.states + 1) → get_or (rows (size t) (state_row A t)) j 0 < A.states
      each j h =
          let c : Cell (A.states + 1) (size t) j = cell-split (A.states + 1) (size t) j h in
          rw c.is
          (rw (get_d_rows (size t) (A.states + 1) (state_row A t) (λ v l. length-state_row A t v) c.row c.column
          c.row_in c.column-in)
          (row_below c.row c.column c.column-in))

-- ---- the state of a part

choice : (n : ℕ) (b : Bool) (x y : ℕ) → x < n → y < n → cond b x y < n
choice n true x y p q = p
choice n false x y p q = q

-- the automaton of rules that pass 6 to 9
pub rules-inside : (r : List ℕ) → RulesPass r → StaysInside (rule_automaton r)
rules-inside r h = record { init = λ a. leaf-state-below r h a; next = λ p a q. inner-state-below r h _ }

module _ (G : Given) (ms : List ℕ) (ps : List Part) (v : ℕ) (S : StaysInside G.automaton) where
  inner_below : (l r : ℕ) → inner_state G ms ps v l r < G.automaton.states
  unfolding inner_state
  inner_below l r = go (any_below ms G.tree l) (any_below ms G.tree r)
    where
      a : ℕ
      a = get_or G.labels v 0

      go : (b c : Bool) → cond b
          (cond c (G.automaton.δ (state_of ps l) a (state_of ps r))
          (G.automaton.δ (climbed_state G ms ps l) a (G.run_state r)))
          (cond c (G.automaton.δ (G.run_state l) a (climbed_state G ms ps r))
          (G.automaton.δ (G.run_state l) a (G.run_state r)))
          < G.automaton.states
      go true true = S.next _ _ _
      go true false = S.next _ _ _
      go false true = S.next _ _ _
      go false false = S.next _ _ _

  pub part-below : (part_of G ms ps v).state < G.automaton.states
  unfolding part_of part_state
  part-below =
      choice G.automaton.states (eqb (kind_at G.tree v) 0) (G.automaton.ι (get_or G.labels v 0))
      (inner_state G ms ps v (left_child G.tree v) (right_child v)) (S.init _)
      (inner_below (left_child G.tree v) (right_child v))

-- the rule reads the state table in use alone
pub given-same : (z : Sizes) (y : Inputs) (vs bs : List ℕ) (x x' : Inputs) → used_state_table z x ≡ used_state_table z x'
    → given_of z y x vs bs ≡ given_of z y x' vs bs
unfolding given_of
given-same z y vs bs x x' e = rw e

-- ---- a clean question

module _ (z : Sizes) (y : Inputs) (vs bs : List ℕ) (B : Built z y) where
  abbrev A : Automaton
  A = rule_automaton y.rules

  abbrev t : Tree
  t = plan_tree y.plan

  -- Start's plan with the listed labels changed
  abbrev u : Tree
  u = tree_of (kinds_in y.plan) (changed (labels_within y.plan) vs bs)

  -- the nodes that are left in W
  abbrev left : List ℕ
  left = differing (labels_within y.plan) vs bs

  inside-rules : StaysInside A
  inside-rules = rules-inside y.rules (rules-of z y B)

  pub part-state : (x : Inputs) (ps : List Part) (v : ℕ) → (part_of (given_of z y x vs bs) (roots t left) ps v).state < z.s
  unfolding given_of
  part-state x ps v =
      subst (λ (s : ℕ). (part_of (given_of z y x vs bs) (roots t left) ps v).state < s) B.s_is
      (part-below (given_of z y x vs bs) (roots t left) ps v inside-rules)

  -- ---- the changed tree

  labels_length : length (changed (labels_within y.plan) vs bs) ≡ length (kinds_in y.plan)
  labels_length =
      changed-length (labels_within y.plan) vs bs
      ∙ labels-as-kinds y.plan (plan-of z y B)

  u-kinds : kinds_of u ≡ kinds_in y.plan
  u-kinds = tree_of-kinds (kinds_in y.plan) _ labels_length (plan-of z y B).postorder

  u-labels : labels_of u ≡ changed (labels_within y.plan) vs bs
  u-labels = tree_of-labels (kinds_in y.plan) _ labels_length (plan-of z y B).postorder

  -- a node that is not left in W keeps its label
  pub left-same : (v : ℕ) → holds v left ≡ false → label_at t v ≡ label_at u v
  left-same v e =
      ap (λ (l : List ℕ). get_or l v 0) (labels-plan_tree y.plan (plan-of z y B))
      ∙ sym (ap (λ (l : List ℕ). get_or l v 0) u-labels ∙ unlisted-same (labels_within y.plan) vs bs v e)

  -- so does one that is not listed
  listed_same : (v : ℕ) → holds v vs ≡ false → label_at t v ≡ label_at u v
  listed_same v e = left-same v (go (holds v left) refl)
    where
      go : (b : Bool) → holds v left ≡ b → b ≡ false
      go true h = absurd (true-false (sym (differing-listed (labels_within y.plan) vs bs v h) ∙ e))
      go false h = refl

  pub changes : (w : ℕ → Bool) → ((v : ℕ) → w v ≡ false → label_at t v ≡ label_at u v) → Changes w t u
  changes w same = record { kinds = kinds-plan_tree y.plan (plan-of z y B) ∙ sym u-kinds; labels = same }

  -- ---- on the state table that Load writes

  module _ (e : state_table_built z y ≡ true) where
    state_table : used_state_table z y ≡ state_table_of A t
    unfolding state_table_built
    state_table = same_list-true (used_state_table z y) (state_table_of A t) e

    table : take (size t * (A.states + 1)) (used_state_table z y) ≡ state_table_of A t
    table = rw state_table (take_all (size t * (A.states + 1)) (state_table_of A t)
        (omega (arith, length-state_table_of A t)))

    pub sound-below : states_below z y ≡ true
    unfolding states_below
    sound-below = rw (state_table, ← B.s_is) (table_below A inside-rules t)

    pub given-run : RunGiven (given_of z y y vs bs) u
    unfolding given_of
    given-run = record {
      labels = sym u-labels;
      states = λ v h.
          ap (λ (s : ℕ). get_or (used_state_table z y) (v * (s + 1)) 0) (sym B.s_is)
          ∙ state_table_of-state A t (used_state_table z y) table v h;
      maps = λ v x h l.
          let i : v * (z.s + 1) + (1 + x) ≡ v * (A.states + 1) + 1 + x =
          omega (arith, ap (λ (s : ℕ). v * (s + 1)) B.s_is) in
          ap (λ (j : ℕ). get_or (used_state_table z y) j 0) i ∙ state_table_of-map A t (used_state_table z y) table v h x l;
    }

    abbrev G : Given
    G = given_of z y y vs bs

    -- over the ready set of any W that lacks no node whose label is another
    module _ (w : ℕ → Bool) (same : (v : ℕ) → w v ≡ false → label_at t v ≡ label_at u v) where
      abbrev ms : List ℕ
      ms = ready_list w t

      all_right : (x : ℕ) → Memᴰ x ms → state_of (parts_of G ms) x ≡ state A (sub u x)
      unfolding given_of
      all_right x m = parts-right G u given-run inside-rules w (changes w same) ms (list-members w t) x m

      whole : last_state (parts_of G ms) 0 ≡ state A u
      unfolding parts_of part_of
      whole =
          let v : ℕ = size t - 1 in
          let top : v + 1 ≡ size t = omega (arith, size-pos t) in
          let L : (l : List ℕ) × (ms ≡ l ++ (v ∷ [])) = list-last w t v top in
          let ps : List Part = parts_from G ms [] L.0 in
          let p : Part = part_of G ms ps v in
          let split : parts_of G ms ≡ ps ++ (p ∷ []) = ap (parts_from G ms []) L.1 ∙ from_more G ms [] L.0 v in
          let away : Memᴰ v (nodes_of ps) → ⊥ = λ m.
          rising-not L.0 v [] 0 (subst (λ (k : List ℕ). Rising 0 k) L.1 (list-rising w t))
          (subst (λ (k : List ℕ). Memᴰ v k) (from-nodes G ms [] L.0) m) in
          let member : Memᴰ v ms = subst (λ (k : List ℕ). Memᴰ v k) (sym L.1)
          (mathlib.Core.List.Memᴰ.append_right L.0 (mathlib.Core.List.Memᴰ.head refl)) in
          let end : v + 1 ≡ size u = top ∙ same_count t u (changes w same).kinds in
          ap (λ (k : List Part). last_state k 0) split
          ∙ last_more ps p 0
          ∙ sym (ap (λ (k : List Part). state_of k v) split ∙ state-new ps p v refl away)
          ∙ all_right v member
          ∙ ap (state A) (sub-root u v end)

    pub whole-state : last_state (parts_of G (roots t left)) 0 ≡ state A u
    unfolding roots
    whole-state = whole (λ v. holds v left) left-same

    pub whole_before : last_state (parts_of G (roots t vs)) 0 ≡ state A u
    unfolding roots
    whole_before = whole (λ v. holds v vs) listed_same

  pub whole-links : (x : Inputs) → all_links (parts_of (given_of z y x vs bs) (roots t left)) ≡ question_links t (roots t left)
  unfolding parts_of question_links given_of all_links
  whole-links x = from-links (given_of z y x vs bs) (roots t left) [] (roots t left) ∙ (omega arith)

  pub whole-over : (x : Inputs) → all_passed (parts_of (given_of z y x vs bs) (roots t left)) ≡ question_passed t (roots t left)
  unfolding given_of
  whole-over x = whole-passed (given_of z y x vs bs) (roots t left)
