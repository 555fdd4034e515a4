-- One node read, and one iteration and the end of the loop over all nodes.
--     node-push, node-count, node-release      an inner node; a leaf after inner nodes; a leaf after a leaf
--     Reading                                  the same is still to be written
--     reading-start, reading-args, reading-iteration, reading-end
use Prim.Native.Nat.{ℕ, zero, suc, ◌+◌, ◌-◌, ◌≤◌, ◌<◌}
use mathlib.Core.Path.{◌≡◌, refl, sym, ap, ap₂, ◌∙◌}
use mathlib.Core.Bool.{true}
use mathlib.Core.List.{List, [], ◌∷◌, ◌++◌}
use mathlib.Core.Option.{Option, none, some}
use native.Mathlib.Decide.{ℕ_discrete}
use native.Mathlib.Omega.{arith}
use lib.Dec.{ltb}
use lib.ListN.{length, get_or}
use borrow.Author.Tests.{ltb-true}
use Rattle.list_laws.proofs.BoolLaws.{and_left, and_right}
use Rattle.trees.specs.Tree.{labels_of, kinds_of}
use Rattle.trees.proofs.NodeLaws.{length-labels, length-kinds}
use Rattle.planner.specs.Siblings.{Siblings, empty, sibling, count, width, pre_labels, pre_counts, image, empty_label}
use Rattle.planner.specs.inner.HomeMachine.{HomeState, home_state, homeward, node_item, read_back}
use Rattle.planner.specs.inner.ImageTests.{label_fits, labels_fit, all_runs_fit}
use Rattle.planner.proofs.HomeMachine.{from_right, homeward-tree}
use Rattle.planner.proofs.ItemLaws.{read_back-image}
use Rattle.planner.specs.home.inner.Cells.{stack_of, cells_from, home_now, Kept, PushArgs, CountArgs}
use Rattle.planner.specs.home.inner.Cells.{ReleaseArgs, PushDone, CountDone, ReleaseDone, NodeArgs, NodeDone}
use Rattle.planner.specs.home.inner.Cells.{ReadArgs, ReadDone}
use Rattle.planner.proofs.home.CellLaws.{cells-end}

-- ---- one node

inner-item : (a k : ℕ) → (k ≡ 0 → ⊥) → node_item a k ≡ some a
inner-item a zero h = absurd (h refl)
inner-item a (suc k) h = refl

leaf-item : (a k : ℕ) → k ≡ 0 → node_item a k ≡ none
leaf-item a k e = ap (node_item a) e

module _ (p : List ℕ) (n a k d left run : ℕ) (A : NodeArgs p n a k d left run) where
  pub push-args : (k ≡ 0 → ⊥) → PushArgs p n a d left
  push-args h = record { fits = A.fits; inside = A.inside; some_left = A.some_left h; small = A.small h }

  pub count-args : (run ≡ 0 → ⊥) → CountArgs p n d left run
  count-args h = record { fits = A.fits; inside = A.inside; some_read = positive run h; small = A.short }
    where
      positive : (r : ℕ) → (r ≡ 0 → ⊥) → 0 < r
      positive zero h = absurd (h refl)
      positive (suc r) h = omega arith

  pub release-args : ReleaseArgs p n d left
  release-args = record { fits = A.fits; inside = A.inside }

  pub node-push : (q : List ℕ) → (k ≡ 0 → ⊥) → PushDone n a d left run p q
      → NodeDone n a k d left run p (d + 1) (left - 1) (run + 1) q
  node-push q h P = record {
    rest = λ xs. P.rest xs ∙ ap (λ (x : Option ℕ). home_now (x ∷ xs) run p n d left) (sym (inner-item a k h));
    inner = λ i. (omega (arith, A.some_left h), refl);
    leaf = λ e. absurd (h e);
    inside = omega (arith, A.inside, A.some_left h);
    kept = P.kept;
  }

  pub node-count : (q : List ℕ) → k ≡ 0 → CountDone n d left run p q → NodeDone n a k d left run p d left 0 q
  node-count q e C = record {
    rest = λ xs. C.rest xs ∙ ap (λ (x : Option ℕ). home_now (x ∷ xs) run p n d left) (sym (leaf-item a k e));
    inner = λ i. absurd (i e);
    leaf = λ i. (refl, refl);
    inside = A.inside;
    kept = C.kept;
  }

  pub node-release : (d₁ : ℕ) (q : List ℕ) → k ≡ 0 → run ≡ 0 → ReleaseDone n d left p d₁ q
      → NodeDone n a k d left run p d₁ left 0 q
  node-release d₁ q e z R = record {
    rest = λ xs. R.rest xs
        ∙ ap₂ (λ (x : Option ℕ) (r : ℕ). home_now (x ∷ xs) r p n d left) (sym (leaf-item a k e)) (sym z);
    inner = λ i. absurd (i e);
    leaf = λ i. (refl, refl);
    inside = omega (arith, A.inside, R.lower);
    kept = R.kept;
  }

-- ---- what the tests say of the nodes

labels_at : (ls ks : List ℕ) (v : ℕ) → labels_fit ls ks ≡ true → v < length ls → length ls ≡ length ks
    → label_fits (get_or ls v 0) (get_or ks v 0) ≡ true
labels_at [] ks v e h z = absurd (omega arith)
labels_at (a ∷ ls) [] v e h z = absurd (omega arith)
labels_at (a ∷ ls) (k ∷ ks) zero e h z = and_left (label_fits a k) (labels_fit ls ks) e
labels_at (a ∷ ls) (k ∷ ks) (suc v) e h z =
    labels_at ls ks v (and_right (label_fits a k) (labels_fit ls ks) e) (omega arith) (omega arith)

label_small : (a k : ℕ) → label_fits a k ≡ true → (k ≡ 0 → ⊥) → a < 64
label_small a zero e h = absurd (h refl)
label_small a (suc k) e h = omega (arith, ltb-true a empty_label e)

-- r inner nodes in a row, after w others in a row
run-first : (m : ℕ) (ks : List ℕ) (w r : ℕ) → all_runs_fit m ks w ≡ true → w < m → r ≤ length ks
    → ((j : ℕ) → j < r → get_or ks j 0 ≡ 0 → ⊥) → w + r < m
run-first m ks w zero e h l f = omega arith
run-first m [] w (suc r) e h l f = absurd (omega arith)
run-first m (zero ∷ ks) w (suc r) e h l f = absurd (f 0 (omega arith) refl)
run-first m (suc k ∷ ks) w (suc r) e h l f =
    let i : suc w + r < m =
    run-first m ks (suc w) r (and_right (ltb (suc w) m) _ e) (ltb-true (suc w) m (and_left (ltb (suc w) m) _ e))
    (omega arith)
    (λ j q. f (suc j) (omega arith)) in
    omega arith

run_short : (m : ℕ) (ks : List ℕ) (w v r : ℕ) → all_runs_fit m ks w ≡ true → w < m → 0 < m → v + r ≤ length ks
    → ((j : ℕ) → j < r → get_or ks (v + j) 0 ≡ 0 → ⊥) → r < m
run_short m ks w zero r e h z l f =
    let i : w + r < m = run-first m ks w r e h (omega arith)
    (λ j q g. f j q (let c : 0 + j ≡ j = omega arith in ap (λ (i : ℕ). get_or ks i 0) c ∙ g)) in
    omega arith
run_short m [] w (suc v) r e h z l f = absurd (omega arith)
run_short m (zero ∷ ks) w (suc v) r e h z l f =
    run_short m ks 0 v r e z z (omega arith)
    (λ j q g. f j q (let c : suc v + j ≡ suc (v + j) = omega arith in ap (λ (i : ℕ). get_or (zero ∷ ks) i 0) c ∙ g))
run_short m (suc k ∷ ks) w (suc v) r e h z l f =
    run_short m ks (suc w) v r (and_right (ltb (suc w) m) _ e) (ltb-true (suc w) m (and_left (ltb (suc w) m) _ e)) z
    (omega arith)
    (λ j q g. f j q (let c : suc v + j ≡ suc (v + j) = omega arith in ap (λ (i : ℕ). get_or (suc k ∷ ks) i 0) c ∙ g))

-- ---- how many inner nodes are still to be read

abbrev somes : List (Option ℕ) → ℕ
somes [] = 0
somes (none ∷ xs) = somes xs
somes (some a ∷ xs) = suc (somes xs)

somes-append : (xs ys : List (Option ℕ)) → somes (xs ++ ys) ≡ somes xs + somes ys
somes-append [] ys = omega arith
somes-append (none ∷ xs) ys = somes-append xs ys
somes-append (some a ∷ xs) ys = omega (arith, somes-append xs ys)

somes-image : (f : Siblings) → somes (from_right f) ≡ count f
somes-image empty = refl
somes-image (sibling a c r) = omega (arith, somes-append (from_right r) (from_right c), somes-image c, somes-image r)

somes-inner : (a k : ℕ) (xs : List (Option ℕ)) → (k ≡ 0 → ⊥) → somes (node_item a k ∷ xs) ≡ somes xs + 1
somes-inner a zero xs h = absurd (h refl)
somes-inner a (suc k) xs h = omega arith

somes-leaf : (a k : ℕ) (xs : List (Option ℕ)) → k ≡ 0 → somes (node_item a k ∷ xs) ≡ somes xs
somes-leaf a k xs e = ap (λ (i : ℕ). somes (node_item a i ∷ xs)) e

-- ---- all nodes

home-tree : (f : Siblings) → width f ≡ 1 → homeward (from_right f) 0 [] [] [] ≡ home_state [] (pre_labels f) (pre_counts f)
home-tree empty e = absurd (omega arith)
home-tree (sibling a c empty) e = homeward-tree a c
home-tree (sibling a c (sibling b d r)) e = absurd (omega arith)

empty-stack : (q : List ℕ) (n d : ℕ) → stack_of q n d ≡ [] → d ≡ 0
unfolding stack_of
empty-stack q n zero e = refl
empty-stack q n (suc d) e = absurd (omega (arith, ap length e))

pub record Reading (f : Siblings) (ls ks : List ℕ) (n : ℕ) (p : List ℕ) (v d left run : ℕ) (q : List ℕ) : Type 0 where
  pub rest : home_now (read_back ls ks v) run q n d left ≡ home_state [] (pre_labels f) (pre_counts f)
  pub left_is : left ≡ somes (read_back ls ks v)
  pub inside : d + left ≤ n
  pub run-inner : (j : ℕ) → j < run → get_or ks (v + j) 0 ≡ 0 → ⊥
  pub run_in : v + run ≤ length ks
  pub kept : Kept n p q

module _ (f : Siblings) (ls ks p : List ℕ) (n : ℕ) (A : ReadArgs f ls ks p n) where
  pub lengths : length ls ≡ length ks
  lengths = ap length (sym A.labels) ∙ length-labels (image f) ∙ sym (length-kinds (image f)) ∙ ap length A.kinds

  all_read : read_back ls ks (length ls) ≡ from_right f
  all_read =
      ap₂ (λ (l k : List ℕ). read_back l k (length l)) (sym A.labels) (sym A.kinds)
      ∙ ap (read_back (labels_of (image f)) (kinds_of (image f))) (length-labels (image f))
      ∙ read_back-image f

  pub reading-start : Reading f ls ks n p (length ls) 0 n 0 p
  unfolding stack_of
  reading-start =
      let z : 0 + n ≡ n = omega arith in
      record {
        rest = ap (λ (xs : List (Option ℕ)). home_now xs 0 p n 0 n) all_read
            ∙ ap₂ (λ (l k : List ℕ). homeward (from_right f) 0 [] l k) (ap (cells_from p 12 n) z ∙ cells-end p 12 n)
            (ap (cells_from p (12 + n) n) z ∙ cells-end p (12 + n) n)
            ∙ home-tree f A.one_tree;
        left_is = A.count_is ∙ sym (ap somes all_read ∙ somes-image f);
        inside = omega arith;
        run-inner = λ j h. absurd (omega arith);
        run_in = omega (arith, lengths);
        kept = record { same = refl; excess = λ j h. refl };
      }

  module _ (v d left run : ℕ) (q : List ℕ) (R : Reading f ls ks n p v d left run q) where
    module _ (h : 0 < v) where
      next-item : read_back ls ks v ≡ node_item (get_or ls (v - 1) 0) (get_or ks (v - 1) 0) ∷ read_back ls ks (v - 1)
      next-item = let e : v ≡ suc (v - 1) = omega arith in ap (read_back ls ks) e

      pub reading-args : v ≤ length ls → NodeArgs q n (get_or ls (v - 1) 0) (get_or ks (v - 1) 0) d left run
      reading-args w = record {
        fits = record { room = omega (arith, R.kept.same, A.fits.room); few = A.fits.few };
        inside = R.inside;
        some_left = λ i. omega (
          arith,
          R.left_is,
          ap somes next-item,
          somes-inner (get_or ls (v - 1) 0) (get_or ks (v - 1) 0) (read_back ls ks (v - 1)) i,
        );
        small = λ i. label_small (get_or ls (v - 1) 0) (get_or ks (v - 1) 0)
            (labels_at ls ks (v - 1) A.labels_fit (omega arith) lengths) i;
        short = run_short 256 ks 0 v run A.runs_fit (omega arith) (omega arith) R.run_in R.run-inner;
      }

      pub reading-iteration : (d₁ left₁ run₁ : ℕ) (q₁ : List ℕ)
          → NodeDone n (get_or ls (v - 1) 0) (get_or ks (v - 1) 0) d left run q d₁ left₁ run₁ q₁
          → Reading f ls ks n p (v - 1) d₁ left₁ run₁ q₁
      reading-iteration d₁ left₁ run₁ q₁ N = record {
        rest = N.rest (read_back ls ks (v - 1))
            ∙ ap (λ (xs : List (Option ℕ)). home_now xs run q n d left) (sym next-item) ∙ R.rest;
        left_is = elim (ℕ_discrete (get_or ks (v - 1) 0) 0) [
          | yes e ↦ omega (
            arith,
            (N.leaf e).0,
            R.left_is,
            ap somes next-item,
            somes-leaf (get_or ls (v - 1) 0) (get_or ks (v - 1) 0) (read_back ls ks (v - 1)) e,
          )
          | no e ↦ omega (
            arith,
            (N.inner e).0,
            R.left_is,
            ap somes next-item,
            somes-inner (get_or ls (v - 1) 0) (get_or ks (v - 1) 0) (read_back ls ks (v - 1)) e,
          )
        ];
        inside = N.inside;
        run-inner = elim (ℕ_discrete (get_or ks (v - 1) 0) 0) [
          | yes e ↦ (λ j l. absurd (omega (arith, (N.leaf e).1)))
          | no e ↦ (λ j l. inner-run j e (omega (arith, (N.inner e).1)))
        ];
        run_in = elim (ℕ_discrete (get_or ks (v - 1) 0) 0) [
          | yes e ↦ omega (arith, (N.leaf e).1, R.run_in)
          | no e ↦ omega (arith, (N.inner e).1, R.run_in)
        ];
        kept = record {
          same = N.kept.same ∙ R.kept.same;
          excess = λ j l. N.kept.excess j l ∙ R.kept.excess j l;
        };
      }
        where
          inner-run : (j : ℕ) → (get_or ks (v - 1) 0 ≡ 0 → ⊥) → j < run + 1 → get_or ks (v - 1 + j) 0 ≡ 0 → ⊥
          inner-run zero e l g = e ((let c : v - 1 ≡ v - 1 + 0 = omega arith in ap (λ (i : ℕ). get_or ks i 0) c) ∙ g)
          inner-run (suc j) e l g =
              R.run-inner j (omega arith)
              ((let c : v + j ≡ v - 1 + suc j = omega arith in ap (λ (i : ℕ). get_or ks i 0) c) ∙ g)

    pub reading-end : v ≡ 0 → ReadDone f n p q
    reading-end z =
        let e : home_state (stack_of q n d) (cells_from q 12 n (d + left)) (cells_from q (12 + n) n (d + left))
        ≡ home_state [] (pre_labels f) (pre_counts f) =
        ap (λ (i : ℕ). home_now (read_back ls ks i) run q n d left) (sym z) ∙ R.rest in
        let l : left ≡ 0 = R.left_is ∙ ap (λ (i : ℕ). somes (read_back ls ks i)) z in
        let s : d ≡ 0 = empty-stack q n d (ap (λ (T : HomeState). T.stack) e) in
        let w : d + left ≡ 0 = omega arith in
        record {
          labels = ap (cells_from q 12 n) (sym w) ∙ ap (λ (T : HomeState). T.labels) e;
          counts = ap (cells_from q (12 + n) n) (sym w) ∙ ap (λ (T : HomeState). T.counts) e;
          kept = R.kept;
        }
