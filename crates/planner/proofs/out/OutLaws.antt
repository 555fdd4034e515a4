-- Going out as a whole: the file's tree, its places and its plan.
--     place-args, places-written     the pass over the counts
--     write-args, plan-is            the plan
--     out-done, out-refused          the answers of the call
use Prim.Native.Nat.{ℕ, ◌+◌, ◌-◌, ◌*◌, ◌≤◌}
use mathlib.Core.Path.{◌≡◌, refl, sym, ap, ◌∙◌}
use mathlib.Core.Bool.{true}
use mathlib.Core.List.{List, [], ◌++◌}
use native.Mathlib.Omega.{arith}
use lib.ListN.{length, get_or, take, drop, length-append, get_or-append}
use Rattle.list_laws.proofs.SliceLaws.{length_part, run-part}
use Rattle.std.specs.Prelude.{Result, IsErrAnd}
use Rattle.trees.specs.Tree.{size}
use Rattle.formats.specs.Plan.{plan_length}
use Rattle.formats.specs.Checks.{first_no}
use Rattle.formats.specs.Refusals.{refusal_number, answer_number}
use Rattle.formats.specs.declared.refusals.Refusal.{Refusal}
use Rattle.formats.proofs.RefusalLaws.{handed-on, number-not-0}
use Rattle.planner.specs.Siblings.{count, width, pre_labels, pre_counts, image, items, places}
use Rattle.planner.specs.File.{file_count, label_run, count_run, file_tree, out_checks}
use Rattle.planner.specs.Conversion.{plan_of, places_of}
use Rattle.planner.specs.inner.OutMachine.{outward, placed}
use Rattle.planner.proofs.PreorderLaws.{length-pre_counts}
use Rattle.planner.proofs.FileTrees.{read-file}
use Rattle.planner.proofs.ImageLaws.{size-image, length-items, length-places}
use Rattle.planner.proofs.OutMachine.{outward-tree, placed-items, placed-tree}
use Rattle.planner.proofs.CheckAnswers.{OutPasses, out-passes}
use Rattle.planner.specs.out.inner.Stack.{PlaceArgs, NodesPlaced}
use Rattle.planner.specs.out.inner.Laid.{WriteArgs, PlanWritten}
use Rattle.planner.specs.out.Out.{OutArgs, OutWritten, OutDone}
use Rattle.planner.proofs.out.CheckLoop.{count-part}
use Rattle.planner.proofs.out.PlanLaws.{rest-is}

module _ (b : List ℕ) (n : ℕ) (p ps : List ℕ) (A : OutArgs b n p ps) where
  pub P : OutPasses b (length p) (length ps)
  P = out-passes b (length p) (length ps) A.passes

  tree-counts : pre_counts (file_tree b) ≡ count_run b
  unfolding file_tree
  tree-counts = (read-file b P.file).counts

  tree-labels : pre_labels (file_tree b) ≡ label_run b
  unfolding file_tree
  tree-labels = (read-file b P.file).labels

  tree-width : width (file_tree b) ≡ 1
  unfolding file_tree
  tree-width = (read-file b P.file).wide

  pub tree-count : count (file_tree b) ≡ file_count b
  tree-count =
      sym (length-pre_counts (file_tree b)) ∙ ap length tree-counts
      ∙ length_part b (12 + file_count b) (file_count b) (omega (arith, P.file.exact))

  pub out-size : (n ≤ 32767) × (length b ≡ 12 + 2 * n)
  out-size = (omega (arith, A.count, P.nodes), omega (arith, A.count, P.file.exact))

  -- the two parts that are handed on
  pub counts-are : take (length b - (12 + n)) (drop (12 + n) b) ≡ pre_counts (file_tree b)
  counts-are = count-part b n A.count (omega (arith, P.file.exact, A.count)) ∙ sym tree-counts

  pub labels-are : take (12 + n - 12) (drop 12 b) ≡ pre_labels (file_tree b)
  labels-are = run-part b 12 n ∙ ap (λ (i : ℕ). take i (drop 12 b)) A.count ∙ sym tree-labels

  module _ (cs : List ℕ) (ec : cs ≡ pre_counts (file_tree b)) where
    items-are : outward cs 0 1 true [] ≡ items (file_tree b) 0
    items-are = ap (λ (l : List ℕ). outward l 0 1 true []) ec ∙ outward-tree (file_tree b) tree-width

    length-counts : length cs ≡ file_count b
    length-counts = ap length ec ∙ length-pre_counts (file_tree b) ∙ tree-count

    pub place-args : PlaceArgs cs p ps
    place-args = record {
      small = omega (arith, length-counts, P.nodes);
      room = omega (arith, length-counts, P.plan-room);
      fits =
          let e : (placed (outward cs 0 1 true []) 0 ps).items ≡ size (image (file_tree b)) =
          placed-items (outward cs 0 1 true []) 0 ps
          ∙ omega (arith, ap length items-are, length-items (file_tree b) 0) in
          omega (arith, e, size-image (file_tree b), tree-count, P.nodes);
    }

    module _ (q qs : List ℕ) (N : NodesPlaced cs p ps q qs) where
      pub places-written : qs ≡ places_of b ++ drop (file_count b) ps
      places-written =
          N.places
          ∙ ap (λ (l : List _). (placed l 0 ps).places) items-are
          ∙ placed-tree (file_tree b) ps (omega (arith, tree-count, P.places-room))
          ∙ ap (λ (i : ℕ). places (file_tree b) 0 ++ drop i ps) tree-count

      module _ (ls : List ℕ) (el : ls ≡ pre_labels (file_tree b)) where
        pub write-args : WriteArgs (file_tree b) ls qs q
        write-args = record {
          nodes = record {
            labels = sym el;
            places_are = λ v h. ap (λ (l : List ℕ). get_or l v 0) places-written
                ∙ get_or-append (places_of b) (drop (file_count b) ps) 0 v
                (omega (arith, length-places (file_tree b) 0));
            longer = omega (
              arith,
              ap length places-written,
              length-append (places_of b) (drop (file_count b) ps),
              length-places (file_tree b) 0,
            );
            few = omega (arith, tree-count, P.nodes);
          };
          room = omega (arith, N.same, P.plan-room, tree-count);
        }

        pub plan-is : (r : List ℕ) → PlanWritten (file_tree b) q r → OutWritten b p ps r qs
        plan-is r W = record {
          plan = W ∙ ap (λ (l : List ℕ). plan_of b ++ l)
              (rest-is q p (plan_length (2 * count (file_tree b) + 1)) N.same
              (λ j h. N.kept j (omega (arith, length-counts, tree-count)))
              ∙ ap (λ (i : ℕ). drop (plan_length (2 * i + 1)) p) tree-count);
          places = places-written;
        }

-- ---- the answers

pub out-done : (b p ps q qs : List ℕ) → first_no (out_checks b (length p) (length ps)) ≡ 0 → OutWritten b p ps q qs
    → OutDone b p ps 0 q qs
out-done b p ps q qs e W = record {
  number = sym e;
  written = λ h. W;
  plan_kept = λ h. absurd (h refl);
  places_kept = λ h. absurd (h refl);
}

-- a is what `?` hands on of the refusal r
pub out-refused : (b p ps : List ℕ) (r : Refusal) (a : Result Unit Refusal) → IsErrAnd a (λ e. e ≡ r)
    → refusal_number r ≡ first_no (out_checks b (length p) (length ps)) → OutDone b p ps (answer_number a) p ps
out-refused b p ps r a h e = record {
  number = handed-on r a h ∙ e;
  written = λ z. absurd (number-not-0 r (sym (handed-on r a h) ∙ z));
  plan_kept = λ z. refl;
  places_kept = λ z. refl;
}
