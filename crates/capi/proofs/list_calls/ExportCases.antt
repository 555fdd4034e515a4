-- The ways out of `whatif_lay_over`.
--     accepted-is, count_most   what an accepted reply holds
--     refused-exported, nodes-short, labels-short, laid-exported   one for each way out
use Prim.Native.Nat.{ℕ, ◌≤◌, ◌<◌}
use mathlib.Core.Path.{◌≡◌, refl, sym, ap, ◌∙◌}
use mathlib.Core.Bool.{Bool, false, ◌&&◌}
use mathlib.Core.List.{List, [], ◌∷◌, ◌++◌}
use native.Mathlib.Omega.{arith}
use lib.Dec.{leb}
use lib.ListN.{length, take, drop}
use Rattle.std.specs.Prelude.{Ok, Err}
use borrow.Author.Tests.{le-leb, lt-leb}
use Rattle.list_laws.proofs.BoolLaws.{and_both, and-no-left, and-no-right}
use Rattle.formats.specs.Checks.{check, first_no}
use Rattle.formats.specs.Refusals.{refusal_number}
use Rattle.formats.specs.declared.refusals.Refusal.{Refusal}
use Rattle.formats.proofs.RefusalLaws.{number-not-0, value-told}
use Rattle.formats.proofs.CheckLaws.{Numbered, first_no-append-zero, first_no-append-no, first_no-yes, first_no-no, first_no-none}
use Rattle.changes.specs.Entries.{nodes_listed, labels_listed}
use Rattle.changes.specs.LayOver.{padded, laid, lay_checks, lay_number, laid_list, LayDone}
use Rattle.changes.specs.declared.ChangeList.{ChangeList}
use Rattle.changes.proofs.EntryLaws.{length-nodes, length-labels}
use Rattle.changes.proofs.StoredLaws.{take-padded}
use Rattle.changes.proofs.Theorems.{lay-zero}
use Rattle.list_laws.specs.Copying.{over_buffer}
use Rattle.capi.specs.list_calls.ListsExported.{exported_checks, LayExported}

checks-numbered : (lvs lbs uvs ubs : List ℕ) → Numbered (lay_checks lvs lbs uvs ubs)
unfolding lay_checks
checks-numbered lvs lbs uvs ubs = (omega arith, (omega arith, (omega arith, tt)))

module _ (lvs lbs uvs ubs : List ℕ) where
  -- whether buffers of these lengths are long enough
  abbrev room : ℕ → ℕ → Bool
  room nodes labels = leb (length (laid lvs lbs uvs ubs)) nodes && leb (length (laid lvs lbs uvs ubs)) labels

  -- a number that is not 0, and all as it was
  kept : (nodes labels : List ℕ) (count n : ℕ) → (n ≡ 0 → ⊥)
      → n ≡ first_no (exported_checks lvs lbs uvs ubs (length nodes) (length labels))
      → LayExported lvs lbs uvs ubs nodes labels count n nodes labels count
  kept nodes labels count n z e = record {
    number = e;
    nodes_are = λ q. absurd (z q);
    labels_are = λ q. absurd (z q);
    count_is = λ q. absurd (z q);
    nodes_kept = λ _. refl;
    labels_kept = λ _. refl;
    count_kept = λ _. refl;
  }

  -- ---- a refused call, whose refusal r is told as m

  pub refused-exported : (r : Refusal) → LayDone lvs lbs uvs ubs (Err r) → (nodes labels : List ℕ) (count m : ℕ)
      → m ≡ refusal_number r → LayExported lvs lbs uvs ubs nodes labels count m nodes labels count
  unfolding exported_checks
  refused-exported r D nodes labels count m is =
      kept nodes labels count m (λ q. number-not-0 r (sym is ∙ q))
      (is ∙ D.number
      ∙ sym (first_no-append-no (lay_checks lvs lbs uvs ubs) (check 11 (room (length nodes) (length labels)) ∷ [])
      (λ q. number-not-0 r (D.number ∙ q))))

  -- ---- the list t of an accepted one

  module _ (t : ChangeList) (D : LayDone lvs lbs uvs ubs (Ok t)) where
    passed : lay_number lvs lbs uvs ubs ≡ 0
    passed = sym D.number

    pub accepted-is : t ≡ laid_list (laid lvs lbs uvs ubs)
    accepted-is = sym (value-told t (lay_number lvs lbs uvs ubs) (laid_list (laid lvs lbs uvs ubs)) D.reply).1

    count-length : t.count ≡ length (laid lvs lbs uvs ubs)
    count-length = ap (λ (x : ChangeList). x.count) accepted-is

    pub count_most : t.count ≤ 64
    count_most = omega (arith, count-length, (lay-zero lvs lbs uvs ubs passed).remain)

    nodes-over : (d : List ℕ)
        → over_buffer t.count t.nodes d ≡ nodes_listed (laid lvs lbs uvs ubs) ++ drop (length (laid lvs lbs uvs ubs)) d
    nodes-over d =
        ap (λ (x : ChangeList). over_buffer x.count x.nodes d) accepted-is
        ∙ ap (λ (x : List ℕ). x ++ drop (length (laid lvs lbs uvs ubs)) d)
        (ap (λ (n : ℕ). take n (padded (nodes_listed (laid lvs lbs uvs ubs)))) (sym (length-nodes (laid lvs lbs uvs ubs)))
        ∙ take-padded (nodes_listed (laid lvs lbs uvs ubs)))

    labels-over : (d : List ℕ)
        → over_buffer t.count t.labels d ≡ labels_listed (laid lvs lbs uvs ubs) ++ drop (length (laid lvs lbs uvs ubs)) d
    labels-over d =
        ap (λ (x : ChangeList). over_buffer x.count x.labels d) accepted-is
        ∙ ap (λ (x : List ℕ). x ++ drop (length (laid lvs lbs uvs ubs)) d)
        (ap (λ (n : ℕ). take n (padded (labels_listed (laid lvs lbs uvs ubs)))) (sym (length-labels (laid lvs lbs uvs ubs)))
        ∙ take-padded (labels_listed (laid lvs lbs uvs ubs)))

    module _ (nodes labels : List ℕ) (count : ℕ) where
      last : first_no (exported_checks lvs lbs uvs ubs (length nodes) (length labels))
          ≡ first_no (check 11 (room (length nodes) (length labels)) ∷ [])
      unfolding exported_checks
      last =
          first_no-append-zero (lay_checks lvs lbs uvs ubs) (check 11 (room (length nodes) (length labels)) ∷ [])
          (checks-numbered lvs lbs uvs ubs) passed

      -- m is 11
      short : (m : ℕ) → m ≡ 11 → room (length nodes) (length labels) ≡ false
          → LayExported lvs lbs uvs ubs nodes labels count m nodes labels count
      short m is e =
          kept nodes labels count m (λ q. omega arith)
          (is ∙ sym (last ∙ first_no-no 11 (room (length nodes) (length labels)) [] e))

      pub nodes-short : (m : ℕ) → m ≡ 11 → length nodes < t.count
          → LayExported lvs lbs uvs ubs nodes labels count m nodes labels count
      nodes-short m is h =
          short m is (and-no-left (leb (length (laid lvs lbs uvs ubs)) (length nodes))
          (leb (length (laid lvs lbs uvs ubs)) (length labels))
          (lt-leb (length (laid lvs lbs uvs ubs)) (length nodes) (omega (arith, count-length))))

      pub labels-short : (m : ℕ) → m ≡ 11 → length labels < t.count
          → LayExported lvs lbs uvs ubs nodes labels count m nodes labels count
      labels-short m is h =
          short m is (and-no-right (leb (length (laid lvs lbs uvs ubs)) (length nodes))
          (leb (length (laid lvs lbs uvs ubs)) (length labels))
          (lt-leb (length (laid lvs lbs uvs ubs)) (length labels) (omega (arith, count-length))))

      pub laid-exported : t.count ≤ length nodes → t.count ≤ length labels → (nodes' labels' : List ℕ) (count' : ℕ)
          → nodes' ≡ over_buffer t.count t.nodes nodes → labels' ≡ over_buffer t.count t.labels labels
          → count' ≡ t.count → LayExported lvs lbs uvs ubs nodes labels count 0 nodes' labels' count'
      laid-exported h k nodes' labels' count' a b c = record {
        number = sym (last ∙ first_no-yes 11 (room (length nodes) (length labels)) []
            (and_both (leb (length (laid lvs lbs uvs ubs)) (length nodes))
            (leb (length (laid lvs lbs uvs ubs)) (length labels))
            (le-leb (length (laid lvs lbs uvs ubs)) (length nodes) (omega (arith, count-length)))
            (le-leb (length (laid lvs lbs uvs ubs)) (length labels) (omega (arith, count-length)))) ∙ first_no-none);
        nodes_are = λ _. a ∙ nodes-over nodes;
        labels_are = λ _. b ∙ labels-over labels;
        count_is = λ _. c ∙ count-length;
        nodes_kept = λ q. absurd (q refl);
        labels_kept = λ q. absurd (q refl);
        count_kept = λ q. absurd (q refl);
      }
