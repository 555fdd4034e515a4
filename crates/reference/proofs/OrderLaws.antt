-- The order of a list of changes does not matter to the reference model.
--     roots-order      the roots of the parts depend on the nodes alone
--     last-order, left-order    where no node is listed twice, each has the same last label, and the same nodes are
--                               left in W
--     start-order      nor does the refusal of a Start
--     parts-order, fresh-order    the number of parts, and the answer of a clean question
-- A permutation is mathlib's `List.Permᴰ`, of the list of entries (node, label).
use Prim.Native.Nat.{ℕ, zero, suc, ◌<◌}
use mathlib.Core.Path.{◌≡◌, refl, sym, ap, ap₂, ◌∙◌, fun_ext}
use mathlib.Core.Bool.{Bool, true, cond}
use mathlib.Core.List.{List, [], ◌∷◌, ◌++◌, zip, Permᴰ}
use mathlib.Core.Option.{Option, none, some}
use native.Mathlib.Omega.{arith}
use lib.ListN.{length, get_or, replicate, length-replicate}
use Rattle.trees.specs.Tree.{Tree}
use Rattle.trees.specs.Changes.{changed}
use Rattle.trees.specs.Postorder.{tree_of}
use Rattle.trees.specs.Automaton.{state, accepts}
use Rattle.list_laws.specs.Tests.{holds, distinct}
use Rattle.formats.specs.Plan.{plan_tree, labels_within, kinds_in}
use Rattle.formats.specs.Rules.{rule_automaton}
use Rattle.formats.specs.Checks.{Check, check, first_no, list_checks}
use Rattle.formats.proofs.CheckLaws.{Numbered, first_no-append-zero, first_no-append-suc}
use Rattle.formats.proofs.InputLaws.{list-numbered}
use Rattle.runs.proofs.OrderLaws.{keys_zip, keys-perm, holds-perm, changed-order, list-order}
use Rattle.list_laws.proofs.BoolLaws.{true-false}
use Rattle.changes.specs.Entries.{entries, last_label}
use Rattle.changes.specs.Differing.{differing}
use Rattle.changes.proofs.EntryLaws.{nodes-entries, listed-holds, is_some}
use Rattle.changes.proofs.ChangedLaws.{label_or, changed-label}
use Rattle.changes.proofs.DifferingLaws.{differing-same}
use Rattle.questions.specs.ready.Members.{ready_list, roots}
use Rattle.questions.specs.ready.Parts.{question_links, question_passed}
use Rattle.formats.specs.Inputs.{Inputs, fits, sound}
use Rattle.model.specs.Calls.{outcome_answer, start, may_start}
use Rattle.model.specs.Refusals.{Stage, refusal}
use Rattle.reference.specs.Reference.{Question, roots_of, part_count, changed_tree, fresh_answer}

-- two lists of checks with one first no, and the same checks after them
pub same-append : (xs ys zs : List Check) → Numbered xs → Numbered ys → first_no xs ≡ first_no ys → first_no (xs ++ zs) ≡ first_no (ys ++ zs)
same-append xs ys zs p q e = go (first_no ys) refl
  where
    go : (n : ℕ) → first_no ys ≡ n → first_no (xs ++ zs) ≡ first_no (ys ++ zs)
    go zero f = first_no-append-zero xs zs p (e ∙ f) ∙ sym (first_no-append-zero ys zs q f)
    go (suc n) f = first_no-append-suc xs zs n (e ∙ f) ∙ sym (first_no-append-suc ys zs n f)

-- two optional labels are equal: both are there or neither is, and they are the same with one default
same-option : (o p : Option ℕ) (d : ℕ) → is_some o ≡ is_some p → label_or o d ≡ label_or p d → o ≡ p
same-option none none d i e = refl
same-option none (some y) d i e = absurd (true-false (sym i))
same-option (some x) none d i e = absurd (true-false i)
same-option (some x) (some y) d i e = ap some e

module _ (vs bs ws cs : List ℕ) (g : length vs ≡ length bs) (h : length ws ≡ length cs)
    (d : Permᴰ (zip vs bs) (zip ws cs)) where
  same_nodes : (v : ℕ) → holds v vs ≡ holds v ws
  same_nodes v = sym (ap (holds v) (keys_zip vs bs g)) ∙ holds-perm v (keys-perm d) ∙ ap (holds v) (keys_zip ws cs h)

  -- the last labels, by the labels that the two lists make of zeros
  pub last-order : distinct vs ≡ true → (v : ℕ) → last_label v (entries vs bs) ≡ last_label v (entries ws cs)
  last-order u v =
      let zeros : List ℕ = replicate (suc v) 0 in
      let long : v < length zeros = omega (arith, length-replicate {A = ℕ} (suc v) 0) in
      same-option (last_label v (entries vs bs)) (last_label v (entries ws cs)) (get_or zeros v 0)
      (sym (listed-holds v (entries vs bs)) ∙ ap (holds v) (nodes-entries vs bs g) ∙ same_nodes v
      ∙ sym (ap (holds v) (nodes-entries ws cs h)) ∙ listed-holds v (entries ws cs))
      (sym (changed-label zeros vs bs v long) ∙ ap (λ (l : List ℕ). get_or l v 0) (changed-order vs bs ws cs g h d u zeros)
      ∙ changed-label zeros ws cs v long)

  -- the nodes that are left in W
  pub left-order : distinct vs ≡ true → (ls : List ℕ) → differing ls vs bs ≡ differing ls ws cs
  left-order u ls = differing-same ls vs bs ws cs (last-order u)

  pub roots-order : (t : Tree) → roots t vs ≡ roots t ws
  unfolding roots
  roots-order t = ap (λ (w : ℕ → Bool). ready_list w t) (fun_ext same_nodes)

  pub start-order : (t : Stage) (x : Inputs) → refusal t (start x vs bs) ≡ refusal t (start x ws cs)
  unfolding refusal first_no
  start-order t x =
      ap (λ (n : ℕ). cond (may_start t.phase) (cond (fits t.sizes x) n 17) 1)
      (same-append (list_checks t.sizes.n t.sizes.k vs bs) (list_checks t.sizes.n t.sizes.k ws cs) (check 18 (sound t.sizes x) ∷ [])
      (list-numbered t.sizes.n t.sizes.k vs bs) (list-numbered t.sizes.n t.sizes.k ws cs)
      (list-order vs bs ws cs g h d t.sizes.n t.sizes.k))

  -- two questions on the same inputs
  module _ (q k : Question) (same : q.inputs ≡ k.inputs) (qv : q.nodes ≡ vs) (qb : q.labels ≡ bs) (kv : k.nodes ≡ ws)
      (kb : k.labels ≡ cs) where
    roots-same : distinct vs ≡ true → roots_of q ≡ roots_of k
    roots-same u =
        ap₂ (λ (l m : List ℕ). roots (plan_tree q.inputs.plan) (differing (labels_within q.inputs.plan) l m)) qv qb
        ∙ ap (roots (plan_tree q.inputs.plan)) (left-order u (labels_within q.inputs.plan))
        ∙ ap (λ (x : Inputs). roots (plan_tree x.plan) (differing (labels_within x.plan) ws cs)) same
        ∙ sym (ap₂ (λ (l m : List ℕ). roots (plan_tree k.inputs.plan) (differing (labels_within k.inputs.plan) l m)) kv kb)

    pub parts-order : distinct vs ≡ true → part_count q ≡ part_count k
    parts-order u = ap length (roots-same u)

    labels-same : distinct vs ≡ true
        → changed (labels_within q.inputs.plan) q.nodes q.labels ≡ changed (labels_within k.inputs.plan) k.nodes
        k.labels
    labels-same u =
        ap₂ (λ (l m : List ℕ). changed (labels_within q.inputs.plan) l m) qv qb
        ∙ changed-order vs bs ws cs g h d u (labels_within q.inputs.plan)
        ∙ ap (λ (x : Inputs). changed (labels_within x.plan) ws cs) same
        ∙ sym (ap₂ (λ (l m : List ℕ). changed (labels_within k.inputs.plan) l m) kv kb)

    tree-same : distinct vs ≡ true → changed_tree q ≡ changed_tree k
    tree-same u = ap₂ (λ (x : Inputs) (l : List ℕ). tree_of (kinds_in x.plan) l) same (labels-same u)

    pub fresh-order : distinct vs ≡ true → fresh_answer q ≡ fresh_answer k
    unfolding fresh_answer
    fresh-order u =
        ap₂ (λ (x : Inputs) (t : Tree). outcome_answer (state (rule_automaton x.rules) t) (accepts (rule_automaton x.rules) t)
        (part_count q) (question_links (plan_tree q.inputs.plan) (roots_of q))
        (question_passed (plan_tree q.inputs.plan) (roots_of q))) same (tree-same u)
        ∙ ap₂ (λ (x : Inputs) (ms : List ℕ). outcome_answer (state (rule_automaton k.inputs.rules) (changed_tree k))
        (accepts (rule_automaton k.inputs.rules) (changed_tree k))
        (length ms) (question_links (plan_tree x.plan) ms) (question_passed (plan_tree x.plan) ms)) same (roots-same u)
