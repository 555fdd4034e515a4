-- Plans as bytes, changed by lists (document 02, S-12).
--     count-changed, labels-changed, kinds-changed    header, labels and kinds of a changed plan
--     plan-over      changing a plan by one list and then by another is changing it by the second laid over the first
--     plan-passes    the changed plan passes 2 to 10 where the plan does and the list passes 12 to 14
--     laid-list      of lists that pass 12 to 14 and meet no 22 the laid list passes 12 to 14
use Prim.Native.Nat.{ℕ, zero, suc, ◌+◌, ◌≤◌, ◌<◌}
use mathlib.Core.Path.{◌≡◌, refl, sym, ap, ap₂, ◌∙◌}
use mathlib.Core.Bool.{true}
use mathlib.Core.List.{List, [], ◌∷◌, ◌++◌}
use native.Mathlib.Omega.{arith}
use lib.Dec.{ltb}
use lib.ListN.{length, get_or, take, drop, set, length-append, get_or-append}
use lib.Seq.{take_at, drop_at, take_all, drop-drop, get_or-take, length-take-le}
use Rattle.trees.specs.Changes.{changed}
use Rattle.trees.specs.Postorder.{is_postorder}
use Rattle.trees.proofs.RunLaws.{changed-length}
use Rattle.list_laws.specs.Tests.{all_below}
use Rattle.list_laws.proofs.BoolLaws.{and_both, and_left, and_right}
use Rattle.formats.specs.Bytes.{le32}
use Rattle.formats.specs.Plan.{node_count, plan_length, labels_within, kinds_in}
use Rattle.formats.specs.Rules.{label_count}
use Rattle.formats.specs.Checks.{first_no, list_checks, rule_table_checks}
use Rattle.formats.proofs.PlanLaws.{length-labels_within, length-kinds_in}
use Rattle.formats.specs.Passing.{PlanPasses}
use Rattle.formats.proofs.InputLaws.{ListPasses, list-passes, passes-list, rule-table-passes, passes-rule-table}
use Rattle.changes.specs.Entries.{entries, nodes_listed, labels_listed, laid_over}
use Rattle.changes.specs.ChangedPlan.{changed_plan}
use Rattle.changes.proofs.EntryLaws.{nodes-entries, labels-entries, length-nodes, length-labels}
use Rattle.changes.proofs.ChangedLaws.{changed-over, nodes-pass, labels-pass, laid-passes}

-- ---- the parts of a changed plan

module _ (p vs bs : List ℕ) (P : PlanPasses p) where
  ls : List ℕ
  ls = changed (labels_within p) vs bs

  length-ls : length ls ≡ node_count p
  unfolding ls
  length-ls = changed-length (labels_within p) vs bs ∙ length-labels_within p P

  head-long : length (take 12 p) ≡ 12
  head-long = length-take-le 12 p P.long

  head-same : take 12 (changed_plan p vs bs) ≡ take 12 p
  unfolding changed_plan
  head-same = take_at (take 12 p) (changed (labels_within p) vs bs ++ kinds_in p) 12 head-long

  rest-is : drop 12 (changed_plan p vs bs) ≡ ls ++ kinds_in p
  unfolding changed_plan ls
  rest-is = drop_at (take 12 p) (changed (labels_within p) vs bs ++ kinds_in p) 12 head-long

  byte-same : (j : ℕ) → j < 12 → get_or (changed_plan p vs bs) j 0 ≡ get_or p j 0
  unfolding changed_plan
  byte-same j h =
      get_or-append (take 12 p) (changed (labels_within p) vs bs ++ kinds_in p) 0 j (omega (arith, head-long))
      ∙ get_or-take 12 p j 0 h

  word_same : (at : ℕ) → at + 3 < 12 → le32 (changed_plan p vs bs) at ≡ le32 p at
  word_same at h =
      let a = byte-same at (omega arith) in
      let b = byte-same (at + 1) (omega arith) in
      let c = byte-same (at + 2) (omega arith) in
      let d = byte-same (at + 3) (omega arith) in
      rw (a, b, c, d)

  pub count-changed : node_count (changed_plan p vs bs) ≡ node_count p
  count-changed = word_same 0 (omega arith)

  pub labels-changed : labels_within (changed_plan p vs bs) ≡ changed (labels_within p) vs bs
  unfolding ls
  labels-changed =
      ap (λ (n : ℕ). take n (drop 12 (changed_plan p vs bs))) count-changed
      ∙ ap (take (node_count p)) rest-is ∙ take_at ls (kinds_in p) (node_count p) length-ls

  pub kinds-changed : kinds_in (changed_plan p vs bs) ≡ kinds_in p
  kinds-changed =
      ap (λ (n : ℕ). take n (drop (12 + n) (changed_plan p vs bs))) count-changed
      ∙ ap (take (node_count p)) (sym (drop-drop (node_count p) 12 (changed_plan p vs bs)) ∙ ap (drop (node_count p)) rest-is
      ∙ drop_at ls (kinds_in p) (node_count p) length-ls)
      ∙ take_all (node_count p) (kinds_in p) (omega (arith, length-kinds_in p P))

  changed-exact : length (changed_plan p vs bs) ≡ plan_length (node_count (changed_plan p vs bs))
  unfolding changed_plan
  changed-exact =
      let n : node_count (changed_plan p vs bs) ≡ node_count p = count-changed in
      length-append (take 12 p) (changed (labels_within p) vs bs ++ kinds_in p)
      ∙ omega (
        arith,
        head-long,
        length-append (changed (labels_within p) vs bs) (kinds_in p),
        changed-length (labels_within p) vs bs,
        length-labels_within p P,
        length-kinds_in p P,
        n,
      )

  pub changed-passes : PlanPasses (changed_plan p vs bs)
  changed-passes = record {
    long = omega (arith, changed-exact);
    least = omega (arith, count-changed, P.least);
    most = omega (arith, count-changed, P.most);
    labels_at = word_same 4 (omega arith) ∙ P.labels_at;
    kinds_at = word_same 8 (omega arith) ∙ P.kinds_at ∙ ap (λ (n : ℕ). 12 + n) (sym count-changed);
    exact = changed-exact;
    postorder = ap is_postorder kinds-changed ∙ P.postorder;
  }

-- ---- two lists

plan-parts : (p vs bs : List ℕ) → changed_plan p vs bs ≡ take 12 p ++ (changed (labels_within p) vs bs ++ kinds_in p)
unfolding changed_plan
plan-parts p vs bs = refl

-- "changing a plan by one and then by another gives the plan changed by the second laid over the first": header and kinds included
pub plan-over : (p vs bs us cs : List ℕ) → PlanPasses p
    → changed_plan (changed_plan p vs bs) us cs
    ≡ changed_plan p (nodes_listed (laid_over (entries vs bs) (entries us cs))) (labels_listed (laid_over (entries vs bs) (entries us cs)))
plan-over p vs bs us cs P =
    let l = laid_over (entries vs bs) (entries us cs) in
    plan-parts (changed_plan p vs bs) us cs
    ∙ ap (λ (h : List ℕ). h ++ (changed (labels_within (changed_plan p vs bs)) us cs ++ kinds_in (changed_plan p vs bs))) (head-same p vs bs P)
    ∙ ap₂ (λ (a b : List ℕ). take 12 p ++ (changed a us cs ++ b)) (labels-changed p vs bs P) (kinds-changed p vs bs P)
    ∙ ap (λ (a : List ℕ). take 12 p ++ (a ++ kinds_in p)) (changed-over (labels_within p) vs bs us cs)
    ∙ sym (plan-parts p (nodes_listed l) (labels_listed l))

-- ---- 2 to 10, and 12 to 14

set_below : (k : ℕ) (ls : List ℕ) (v b : ℕ) → ltb b k ≡ true → all_below k ls ≡ true → all_below k (set ls v b) ≡ true
unfolding all_below
set_below k [] v b h a = a
set_below k (x ∷ ls) zero b h a = and_both (ltb b k) (all_below k ls) h (and_right (ltb x k) (all_below k ls) a)
set_below k (x ∷ ls) (suc v) b h a =
    and_both (ltb x k) (all_below k (set ls v b)) (and_left (ltb x k) (all_below k ls) a)
    (set_below k ls v b h (and_right (ltb x k) (all_below k ls) a))

changed_below : (k : ℕ) (ls vs bs : List ℕ) → all_below k bs ≡ true → all_below k ls ≡ true → all_below k (changed ls vs bs) ≡ true
unfolding changed all_below
changed_below k ls [] bs h a = a
changed_below k ls (v ∷ vs) [] h a = a
changed_below k ls (v ∷ vs) (b ∷ bs) h a =
    changed_below k (set ls v b) vs bs (and_right (ltb b k) (all_below k bs) h)
    (set_below k ls v b (and_left (ltb b k) (all_below k bs) h) a)

-- the changed plan passes 2 to 10 where the plan does
pub plan-passes : (p r vs bs : List ℕ) → first_no (rule_table_checks p r) ≡ 0
    → first_no (list_checks (node_count p) (label_count r) vs bs) ≡ 0 → first_no (rule_table_checks (changed_plan p vs bs) r) ≡ 0
plan-passes p r vs bs e l =
    let T = rule-table-passes p r e in
    let L : ListPasses (node_count p) (label_count r) vs bs = list-passes (node_count p) (label_count r) vs bs l in
    passes-rule-table (changed_plan p vs bs) r (changed-passes p vs bs T.0) T.1
    (ap (all_below (label_count r)) (labels-changed p vs bs T.0)
    ∙ changed_below (label_count r) (labels_within p) vs bs L.labels_below T.2)

-- of lists that pass 12 to 14 and meet no 22, the laid list passes 12 to 14
pub laid-list : (n k : ℕ) (vs bs us cs : List ℕ) → first_no (list_checks n k vs bs) ≡ 0 → first_no (list_checks n k us cs) ≡ 0
    → length (laid_over (entries vs bs) (entries us cs)) ≤ 64
    → first_no (list_checks n k (nodes_listed (laid_over (entries vs bs) (entries us cs)))
    (labels_listed (laid_over (entries vs bs) (entries us cs)))) ≡ 0
laid-list n k vs bs us cs e f few =
    let l = laid_over (entries vs bs) (entries us cs) in
    let P : ListPasses n k vs bs = list-passes n k vs bs e in
    let Q : ListPasses n k us cs = list-passes n k us cs f in
    passes-list n k (nodes_listed l) (labels_listed l) (record {
      lengths = length-nodes l ∙ sym (length-labels l);
      most = omega (arith, length-nodes l);
      nodes-below = nodes-pass n l ∙ laid-passes (λ x. ltb x.node n) (entries vs bs) (entries us cs)
          (sym (nodes-pass n (entries vs bs)) ∙ ap (all_below n) (nodes-entries vs bs P.lengths) ∙ P.nodes-below)
          (sym (nodes-pass n (entries us cs)) ∙ ap (all_below n) (nodes-entries us cs Q.lengths) ∙ Q.nodes-below);
      labels_below = labels-pass k l ∙ laid-passes (λ x. ltb x.label k) (entries vs bs) (entries us cs)
          (sym (labels-pass k (entries vs bs)) ∙ ap (all_below k) (labels-entries vs bs P.lengths) ∙ P.labels_below)
          (sym (labels-pass k (entries us cs)) ∙ ap (all_below k) (labels-entries us cs Q.lengths) ∙ Q.labels_below);
    })
