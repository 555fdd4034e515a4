-- From a planner's file to its tree and back.
--     file-tree       a well-formed file is the file of the tree that is read from it, which is one tree
--     tree-file       the file of an acceptable tree is well formed, and that tree is read from it
-- Not here: the theorems (Theorems).
use Prim.Native.Nat.{ℕ, ◌+◌, ◌≤◌, ◌<◌}
use mathlib.Core.Path.{◌≡◌, refl, sym, ap, ap₂, ◌∙◌}
use mathlib.Core.Bool.{true}
use mathlib.Core.List.{List, [], ◌++◌, append-nil}
use mathlib.Core.Option.{Option, none, some}
use native.Mathlib.Omega.{arith}
use lib.Dec.{eqb, leb}
use lib.ListN.{length, get_or, take, drop, length-append}
use lib.Seq.{take_all, take_at, drop_at, drop-drop}
use borrow.Author.Tests.{eqb-true, eq-eqb, leb-true, le-leb}
use Rattle.formats.specs.Bytes.{le32, le32_bytes}
use Rattle.list_laws.specs.Tests.{all_below}
use Rattle.formats.proofs.ByteLaws.{bytes-number, read-bytes}
use Rattle.list_laws.proofs.BoolLaws.{and_both, and_left, and_right}
use Rattle.list_laws.proofs.TestLaws.{all_below-all}
use Rattle.list_laws.proofs.SliceLaws.{length_part, append-both}
use Rattle.formats.proofs.PlanTrees.{five-runs}
use Rattle.planner.specs.Siblings.{Siblings, empty, sibling, count, width, pre_labels, pre_counts}
use Rattle.planner.specs.File.{file_count, file_length, label_run, count_run, file_bytes, pending, nothing_left}
use Rattle.planner.specs.File.{is_preorder, siblings_of, file_tree, well_formed}
use Rattle.planner.specs.Conversion.{Acceptable}
use Rattle.planner.proofs.PreorderLaws.{length-pre_labels, length-pre_counts, pending-siblings, Read, siblings-of}
use Rattle.planner.proofs.PreorderLaws.{siblings-unique}

pub record WellFormed (b : List ℕ) : Type 0 where
  pub long : 12 ≤ length b
  pub some-nodes : 1 ≤ file_count b
  pub labels_at : le32 b 4 ≡ 12
  pub counts-at : le32 b 8 ≡ 12 + file_count b
  pub exact : length b ≡ file_length (file_count b)
  pub preorder : is_preorder (count_run b) ≡ true

pub well-formed : (b : List ℕ) → well_formed b ≡ true → WellFormed b
unfolding well_formed
well-formed b e =
    let e1 = and_right (leb 12 (length b)) _ e in
    let e2 = and_right (leb 1 (file_count b)) _ e1 in
    let e3 = and_right (eqb (le32 b 4) 12) _ e2 in
    let e4 = and_right (eqb (le32 b 8) (12 + file_count b)) _ e3 in
    record {
      long = leb-true 12 (length b) (and_left (leb 12 (length b)) _ e);
      some-nodes = leb-true 1 (file_count b) (and_left (leb 1 (file_count b)) _ e1);
      labels_at = eqb-true (le32 b 4) 12 (and_left (eqb (le32 b 4) 12) _ e2);
      counts-at = eqb-true (le32 b 8) (12 + file_count b) (and_left (eqb (le32 b 8) (12 + file_count b)) _ e3);
      exact = eqb-true (length b) (file_length (file_count b))
          (and_left (eqb (length b) (file_length (file_count b))) _ e4);
      preorder = and_right (eqb (length b) (file_length (file_count b))) _ e4;
    }

pub formed-well : (b : List ℕ) → WellFormed b → well_formed b ≡ true
unfolding well_formed
formed-well b W =
    and_both (leb 12 (length b)) _ (le-leb 12 (length b) W.long)
    (and_both (leb 1 (file_count b)) _ (le-leb 1 (file_count b) W.some-nodes)
    (and_both (eqb (le32 b 4) 12) _ (eq-eqb (le32 b 4) 12 W.labels_at)
    (and_both (eqb (le32 b 8) (12 + file_count b)) _ (eq-eqb (le32 b 8) (12 + file_count b) W.counts-at)
    (and_both (eqb (length b) (file_length (file_count b))) _ (eq-eqb (length b) (file_length (file_count b)) W.exact)
    W.preorder))))

none_left : (o : Option ℕ) → nothing_left o ≡ true → o ≡ some 0
none_left none e = let z : ◌≡◌ {A = ℕ} 0 1 = cc in absurd (omega arith)
none_left (some w) e = ap some (eqb-true w 0 e)

-- ---- from a file to its tree

pub record Decoded (b : List ℕ) : Type 0 where
  pub bytes : file_bytes (file_tree b) ≡ b
  pub one_tree : width (file_tree b) ≡ 1
  pub nodes : count (file_tree b) ≡ file_count b
  pub labels : pre_labels (file_tree b) ≡ label_run b
  pub counts : pre_counts (file_tree b) ≡ count_run b

module _ (b : List ℕ) (W : WellFormed b) where
  labels_length : length (label_run b) ≡ file_count b
  labels_length = length_part b 12 (file_count b) (omega (arith, W.exact))

  counts-length : length (count_run b) ≡ file_count b
  counts-length = length_part b (12 + file_count b) (file_count b) (omega (arith, W.exact))

  pub read-file : Read (count_run b) (label_run b) 1
  unfolding is_preorder
  read-file = siblings-of (count_run b) (label_run b) 1 (labels_length ∙ sym counts-length)
      (none_left (pending (count_run b) 1) W.preorder)

  pub file-tree : all_below 256 b ≡ true → Decoded b
  unfolding file_tree file_bytes
  file-tree bytes =
      let below : (i : ℕ) → get_or b i 0 < 256 = λ i. all_below-all 256 b bytes (omega arith) i in
      let n : count (siblings_of (count_run b) (label_run b)) ≡ file_count b =
      sym (length-pre_labels (siblings_of (count_run b) (label_run b))) ∙ ap length read-file.labels ∙ labels_length in
      record {
        bytes =
            append-both (ap le32_bytes n ∙ read-bytes b below 0 (omega (arith, W.long)))
            (append-both (ap le32_bytes (sym W.labels_at) ∙ read-bytes b below 4 (omega (arith, W.long)))
            (append-both (ap (λ (i : ℕ). le32_bytes (12 + i)) n ∙ ap le32_bytes (sym W.counts-at)
            ∙ read-bytes b below 8 (omega (arith, W.long)))
            (append-both read-file.labels read-file.counts)))
            ∙ sym (five-runs b (file_count b) W.exact);
        one_tree = read-file.wide;
        nodes = n;
        labels = read-file.labels;
        counts = read-file.counts;
      }

-- ---- from a tree to its file

module _ (f : Siblings) (A : Acceptable f) where
  count-file : file_count (file_bytes f) ≡ count f
  unfolding file_bytes
  count-file = bytes-number (count f) (omega (arith, A.nodes))

  counts-file : le32 (file_bytes f) 8 ≡ 12 + count f
  unfolding file_bytes
  counts-file = bytes-number (12 + count f) (omega (arith, A.nodes))

  behind : drop 12 (file_bytes f) ≡ pre_labels f ++ pre_counts f
  unfolding file_bytes
  behind = refl

  offset : le32 (file_bytes f) 4 ≡ 12
  unfolding file_bytes
  offset = refl

  pub length-file : length (file_bytes f) ≡ file_length (count f)
  unfolding file_bytes
  length-file = omega (arith, length-append (pre_labels f) (pre_counts f), length-pre_labels f, length-pre_counts f)

  labels-file : label_run (file_bytes f) ≡ pre_labels f
  labels-file =
      ap₂ (λ (i : ℕ) (l : List ℕ). take i l) count-file behind
      ∙ take_at (pre_labels f) (pre_counts f) (count f) (length-pre_labels f)

  counts-run : count_run (file_bytes f) ≡ pre_counts f
  counts-run =
      ap (λ (i : ℕ). take i (drop (12 + i) (file_bytes f))) count-file
      ∙ ap (take (count f)) (sym (drop-drop (count f) 12 (file_bytes f)) ∙ ap (drop (count f)) behind
      ∙ drop_at (pre_labels f) (pre_counts f) (count f) (length-pre_labels f))
      ∙ take_all (count f) (pre_counts f) (omega (arith, length-pre_counts f))

  one-preorder : is_preorder (pre_counts f) ≡ true
  unfolding is_preorder
  one-preorder =
      let e : pending (pre_counts f) 1 ≡ some 0 =
      ap₂ pending (sym (append-nil (pre_counts f))) (let q : 1 ≡ width f + 0 = omega (arith, A.one_tree) in q)
      ∙ pending-siblings f [] 0 in
      ap nothing_left e

  some-nodes : (g : Siblings) → width g ≡ 1 → 1 ≤ count g
  some-nodes empty e = absurd (omega arith)
  some-nodes (sibling a c r) e = omega arith

  pub tree-file : WellFormed (file_bytes f) × (file_tree (file_bytes f) ≡ f)
  unfolding file_tree
  tree-file = (
    record {
      long = omega (arith, length-file);
      some-nodes = omega (arith, count-file, some-nodes f A.one_tree);
      labels_at = offset;
      counts-at = omega (arith, counts-file, count-file);
      exact = omega (arith, length-file, count-file);
      preorder = ap is_preorder counts-run ∙ one-preorder;
    },
    ap₂ siblings_of counts-run labels-file ∙ siblings-unique f,
  )
