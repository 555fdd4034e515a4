-- The laws of laying over, of what accepted calls of whatif_lay_over hand back.
--     lay-number       with room for 64 entries its number is that of laying over: 12, 12, 22
--     empty-below, empty-above, over-itself   the superseded form
--     swapped          two lists that share no node
use Prim.Native.Nat.{ℕ, zero, suc, ◌≤◌}
use mathlib.Core.Path.{◌≡◌, refl, sym, ap, ◌∙◌}
use mathlib.Core.Bool.{true, ◌&&◌}
use mathlib.Core.List.{List, [], ◌∷◌, ◌++◌}
use native.Mathlib.Omega.{arith}
use lib.Dec.{leb}
use lib.ListN.{length, take}
use borrow.Author.Tests.{le-leb}
use Rattle.list_laws.proofs.BoolLaws.{and_both}
use Rattle.formats.specs.Checks.{Check, check, first_no}
use Rattle.formats.proofs.CheckLaws.{Numbered, first_no-none, first_no-yes, first_no-append-zero, first_no-append-suc}
use Rattle.changes.specs.Entries.{Entry, entries, nodes_listed, labels_listed, superseded}
use Rattle.changes.specs.LayOver.{laid, lay_checks, lay_number}
use Rattle.changes.proofs.LaidLaws.{over-empty, over-self, over-swap}
use Rattle.changes.specs.Entries.{Apart}
use Rattle.changes.proofs.Theorems.{lay-zero}
use Rattle.capi.specs.list_calls.ListsExported.{exported_checks, LayExported}
use Rattle.capi.proofs.list_calls.Ties.{told-lists}
use Rattle.claims.specs.Lent.{HandsBack}

-- ---- the number

checks-numbered : (lvs lbs uvs ubs : List ℕ) → Numbered (lay_checks lvs lbs uvs ubs)
unfolding lay_checks
checks-numbered lvs lbs uvs ubs = (omega arith, (omega arith, (omega arith, tt)))

module _ (lvs lbs uvs ubs : List ℕ) (nodes labels : ℕ) (room-nodes : 64 ≤ nodes) (room-labels : 64 ≤ labels) where
  enough : lay_number lvs lbs uvs ubs ≡ 0
      → (leb (length (laid lvs lbs uvs ubs)) nodes && leb (length (laid lvs lbs uvs ubs)) labels) ≡ true
  enough e =
      let A = lay-zero lvs lbs uvs ubs e in
      let n : ℕ = length (laid lvs lbs uvs ubs) in
      and_both (leb n nodes) (leb n labels) (le-leb n nodes (omega (arith, A.remain, room-nodes)))
      (le-leb n labels (omega (arith, A.remain, room-labels)))

  abbrev room : Check
  room = check 11 (leb (length (laid lvs lbs uvs ubs)) nodes && leb (length (laid lvs lbs uvs ubs)) labels)

  room-number : first_no (exported_checks lvs lbs uvs ubs nodes labels) ≡ lay_number lvs lbs uvs ubs
  unfolding exported_checks
  room-number = go (lay_number lvs lbs uvs ubs) refl
    where
      go : (n : ℕ) → lay_number lvs lbs uvs ubs ≡ n
          → first_no (lay_checks lvs lbs uvs ubs ++ (room ∷ [])) ≡ lay_number lvs lbs uvs ubs
      go zero e =
          first_no-append-zero (lay_checks lvs lbs uvs ubs) (room ∷ []) (checks-numbered lvs lbs uvs ubs) e
          ∙ first_no-yes 11 _ [] (enough e) ∙ first_no-none ∙ sym e
      go (suc n) e = first_no-append-suc (lay_checks lvs lbs uvs ubs) (room ∷ []) n e ∙ sym e

pub lay-number : (lvs lbs uvs ubs nodes labels : List ℕ) (count r : ℕ) (nodes' labels' : List ℕ) (count' : ℕ)
    → LayExported lvs lbs uvs ubs nodes labels count r nodes' labels' count' → 64 ≤ length nodes → 64 ≤ length labels
    → r ≡ lay_number lvs lbs uvs ubs
lay-number lvs lbs uvs ubs nodes labels count r nodes' labels' count' E h g =
    E.number ∙ room-number lvs lbs uvs ubs (length nodes) (length labels) h g

-- ---- what is handed back

-- l is equal to the list that the accepted call lays
handed : (lvs lbs uvs ubs nodes labels : List ℕ) (count : ℕ) (nodes' labels' : List ℕ) (count' : ℕ) (l : List Entry)
    → laid lvs lbs uvs ubs ≡ l → LayExported lvs lbs uvs ubs nodes labels count 0 nodes' labels' count'
    → HandsBack l nodes' labels' count'
handed lvs lbs uvs ubs nodes labels count nodes' labels' count' l e E =
    let t = told-lists lvs lbs uvs ubs nodes labels count 0 nodes' labels' count' E refl in
    (t.0 ∙ ap nodes_listed e, t.1 ∙ ap labels_listed e)

module _ (vs bs nodes labels : List ℕ) (count : ℕ) (nodes' labels' : List ℕ) (count' : ℕ) where
  pub empty-below : LayExported [] [] vs bs nodes labels count 0 nodes' labels' count'
      → HandsBack (superseded (entries vs bs)) nodes' labels' count'
  unfolding entries
  empty-below E = handed [] [] vs bs nodes labels count nodes' labels' count' _ (over-empty (entries vs bs)).0 E

  pub empty-above : LayExported vs bs [] [] nodes labels count 0 nodes' labels' count'
      → HandsBack (superseded (entries vs bs)) nodes' labels' count'
  unfolding entries
  empty-above E = handed vs bs [] [] nodes labels count nodes' labels' count' _ (over-empty (entries vs bs)).1 E

  pub over-itself : LayExported vs bs vs bs nodes labels count 0 nodes' labels' count'
      → HandsBack (superseded (entries vs bs)) nodes' labels' count'
  over-itself E = handed vs bs vs bs nodes labels count nodes' labels' count' _ (over-self (entries vs bs)) E

pub swapped-lists : (avs abs bvs bbs n₁ l₁ n₂ l₂ : List ℕ) (c₁ c₂ : ℕ) (n₁' l₁' n₂' l₂' : List ℕ) (c₁' c₂' : ℕ)
    → Apart (entries avs abs) (entries bvs bbs)
    → LayExported avs abs bvs bbs n₁ l₁ c₁ 0 n₁' l₁' c₁' → LayExported bvs bbs avs abs n₂ l₂ c₂ 0 n₂' l₂' c₂'
    → (take c₁' n₁' ≡ take c₂' n₂') × (take c₁' l₁' ≡ take c₂' l₂')
swapped-lists avs abs bvs bbs n₁ l₁ n₂ l₂ c₁ c₂ n₁' l₁' n₂' l₂' c₁' c₂' d E F =
    let e : laid avs abs bvs bbs ≡ laid bvs bbs avs abs = over-swap (entries avs abs) (entries bvs bbs) d in
    let a = handed avs abs bvs bbs n₁ l₁ c₁ n₁' l₁' c₁' (laid bvs bbs avs abs) e E in
    let b = handed bvs bbs avs abs n₂ l₂ c₂ n₂' l₂' c₂' (laid bvs bbs avs abs) refl F in
    (a.0 ∙ sym b.0, a.1 ∙ sym b.1)
