-- The laws of laying over for the call, with its numbers (document 02, S-12): "Where neither 12 nor 22 occurs".
--     lay-zero, zero-lay      a call is not refused exactly where both lists pass 12 and at most 64 nodes remain
--     lay-assoc               associative; neither bracketing is refused where the other is not
--     lay-empty, lay-self     the empty list on either side, and a list over itself: the superseded form, and no 22
--     lay-swap                lists that share no node may be swapped, refused or not
-- The same of lists of entries, with no number, is in LaidLaws: over-assoc, over-empty, over-self, over-swap.
use Prim.Native.Nat.{ℕ, ◌≤◌}
use mathlib.Core.Path.{◌≡◌, refl, sym, ap, ◌∙◌, subst}
use mathlib.Core.Bool.{Bool, true, false}
use mathlib.Core.List.{List, [], ◌∷◌}
use mathlib.Core.Logic.{◌↔◌}
use native.Mathlib.Omega.{arith}
use lib.Dec.{eqb, leb}
use lib.ListN.{length}
use borrow.Author.Tests.{eqb-true, leb-true, eq-eqb, le-leb}
use Rattle.list_laws.proofs.BoolLaws.{and_both, and_left, and_right}
use Rattle.formats.specs.Checks.{check, first_no}
use Rattle.formats.specs.inner.InnerChecks.{lists_fit}
use Rattle.formats.proofs.CheckLaws.{first_no-yes, first_no-head, first_no-tail, first_no-none}
use Rattle.changes.specs.Entries.{Entry, entries, nodes_listed, labels_listed, superseded, laid_over}
use Rattle.changes.specs.LayOver.{laid, lay_checks, lay_number, LeftFirst, RightFirst}
use Rattle.changes.proofs.EntryLaws.{entries-listed, length-entries, length-nodes, length-labels}
use Rattle.changes.proofs.RisingLaws.{superseded-most}
use Rattle.changes.proofs.LaidLaws.{laid-rises, laid-upper, laid-lower, rising-superseded, over-assoc, over-empty, over-self, over-swap}
use Rattle.changes.specs.Entries.{Apart}

-- ---- the number of a call

pub record Accepted (lvs lbs uvs ubs : List ℕ) : Type 0 where
  pub lower-fits : lists_fit lvs lbs ≡ true
  pub upper_fits : lists_fit uvs ubs ≡ true
  pub remain : length (laid lvs lbs uvs ubs) ≤ 64

module _ (lvs lbs uvs ubs : List ℕ) where
  pub lay-zero : lay_number lvs lbs uvs ubs ≡ 0 → Accepted lvs lbs uvs ubs
  unfolding lay_checks
  lay-zero e =
      let b = first_no-tail 12 (lists_fit lvs lbs) (check 12 (lists_fit uvs ubs)
      ∷ check 22 (leb (length (laid lvs lbs uvs ubs)) 64) ∷ []) (omega arith) e in
      let c = first_no-tail 12 (lists_fit uvs ubs) (check 22 (leb (length (laid lvs lbs uvs ubs)) 64) ∷ []) (omega arith) b in
      record {
        lower-fits = first_no-head 12 (lists_fit lvs lbs) (check 12 (lists_fit uvs ubs)
            ∷ check 22 (leb (length (laid lvs lbs uvs ubs)) 64) ∷ []) (omega arith) e;
        upper_fits = first_no-head 12 (lists_fit uvs ubs) (check 22 (leb (length (laid lvs lbs uvs ubs)) 64) ∷ []) (omega arith) b;
        remain = leb-true (length (laid lvs lbs uvs ubs)) 64
            (first_no-head 22 (leb (length (laid lvs lbs uvs ubs)) 64) [] (omega arith) c);
      }

  pub zero-lay : Accepted lvs lbs uvs ubs → lay_number lvs lbs uvs ubs ≡ 0
  unfolding lay_checks
  zero-lay A =
      first_no-yes 12 (lists_fit lvs lbs) (check 12 (lists_fit uvs ubs) ∷ check 22 (leb (length (laid lvs lbs uvs ubs)) 64) ∷ [])
      A.lower-fits
      ∙ first_no-yes 12 (lists_fit uvs ubs) (check 22 (leb (length (laid lvs lbs uvs ubs)) 64) ∷ []) A.upper_fits
      ∙ first_no-yes 22 (leb (length (laid lvs lbs uvs ubs)) 64) [] (le-leb (length (laid lvs lbs uvs ubs)) 64 A.remain)
      ∙ first_no-none

fits-length : (vs bs : List ℕ) → lists_fit vs bs ≡ true → length vs ≡ length bs
fits-length vs bs e = eqb-true (length vs) (length bs) (and_left (eqb (length vs) (length bs)) (leb (length vs) 64) e)

fits-most : (vs bs : List ℕ) → lists_fit vs bs ≡ true → length vs ≤ 64
fits-most vs bs e = leb-true (length vs) 64 (and_right (eqb (length vs) (length bs)) (leb (length vs) 64) e)

-- a list that was handed back passes 12
pub handed-fits : (l : List Entry) → length l ≤ 64 → lists_fit (nodes_listed l) (labels_listed l) ≡ true
handed-fits l h =
    and_both (eqb (length (nodes_listed l)) (length (labels_listed l))) (leb (length (nodes_listed l)) 64)
    (eq-eqb (length (nodes_listed l)) (length (labels_listed l)) (length-nodes l ∙ sym (length-labels l)))
    (le-leb (length (nodes_listed l)) 64 (omega (arith, length-nodes l)))

-- ---- associative

module _ (avs abs bvs bbs cvs cbs : List ℕ) where
  abbrev lower_two : List Entry
  lower_two = laid avs abs bvs bbs

  abbrev upper_two : List Entry
  upper_two = laid bvs bbs cvs cbs

  pub one-result : laid (nodes_listed lower_two) (labels_listed lower_two) cvs cbs ≡ laid avs abs (nodes_listed upper_two) (labels_listed upper_two)
  one-result =
      ap (λ (l : List Entry). laid_over l (entries cvs cbs)) (entries-listed lower_two)
      ∙ over-assoc (entries avs abs) (entries bvs bbs) (entries cvs cbs)
      ∙ ap (laid_over (entries avs abs)) (sym (entries-listed upper_two))

  to-right : LeftFirst avs abs bvs bbs cvs cbs → RightFirst avs abs bvs bbs cvs cbs
  to-right p =
      let A : Accepted avs abs bvs bbs = lay-zero avs abs bvs bbs p.0 in
      let B = lay-zero (nodes_listed lower_two) (labels_listed lower_two) cvs cbs p.1 in
      let few : length upper_two ≤ 64 =
      omega (
        arith,
        B.remain,
        ap length one-result,
        ap (λ (l : List Entry). length (laid_over (entries avs abs) l)) (entries-listed upper_two),
        laid-upper (entries avs abs) upper_two,
        ap length (rising-superseded upper_two (laid-rises (entries bvs bbs) (entries cvs cbs))),
      ) in (
        zero-lay bvs bbs cvs cbs (record { lower-fits = A.upper_fits; upper_fits = B.upper_fits; remain = few }),
        zero-lay avs abs (nodes_listed upper_two) (labels_listed upper_two) (record {
          lower-fits = A.lower-fits;
          upper_fits = handed-fits upper_two few;
          remain = subst (λ (l : List Entry). length l ≤ 64) one-result B.remain;
        }),
      )

  to-left : RightFirst avs abs bvs bbs cvs cbs → LeftFirst avs abs bvs bbs cvs cbs
  to-left p =
      let B : Accepted bvs bbs cvs cbs = lay-zero bvs bbs cvs cbs p.0 in
      let A = lay-zero avs abs (nodes_listed upper_two) (labels_listed upper_two) p.1 in
      let few : length lower_two ≤ 64 =
      omega (
        arith,
        A.remain,
        ap length one-result,
        ap (λ (l : List Entry). length (laid_over l (entries cvs cbs))) (entries-listed lower_two),
        laid-lower lower_two (entries cvs cbs),
        ap length (rising-superseded lower_two (laid-rises (entries avs abs) (entries bvs bbs))),
      ) in (
        zero-lay avs abs bvs bbs (record { lower-fits = A.lower-fits; upper_fits = B.lower-fits; remain = few }),
        zero-lay (nodes_listed lower_two) (labels_listed lower_two) cvs cbs (record {
          lower-fits = handed-fits lower_two few;
          upper_fits = B.upper_fits;
          remain = subst (λ (l : List Entry). length l ≤ 64) (sym one-result) A.remain;
        }),
      )

  -- "laying over is associative": where one bracketing meets neither 12 nor 22 the other meets none, and they hand back one list
  pub lay-assoc : (LeftFirst avs abs bvs bbs cvs cbs ↔ RightFirst avs abs bvs bbs cvs cbs)
      × (laid (nodes_listed lower_two) (labels_listed lower_two) cvs cbs ≡ laid avs abs (nodes_listed upper_two) (labels_listed upper_two))
  lay-assoc = ((to-right, to-left), one-result)

-- ---- the empty list, and a list over itself

module _ (vs bs : List ℕ) (fits : lists_fit vs bs ≡ true) where
  superseded-fits : length (superseded (entries vs bs)) ≤ 64
  superseded-fits =
      omega (arith, superseded-most (entries vs bs), length-entries vs bs (fits-length vs bs fits), fits-most vs bs fits)

  none-fits : lists_fit [] [] ≡ true
  none-fits = and_both (eqb 0 0) (leb 0 64) (eq-eqb 0 0 refl) (le-leb 0 64 (omega arith))

  -- "the empty list on either side gives the other's superseded form in rising node number"
  pub lay-empty : (lay_number [] [] vs bs ≡ 0) × (laid [] [] vs bs ≡ superseded (entries vs bs))
      × (lay_number vs bs [] [] ≡ 0) × (laid vs bs [] [] ≡ superseded (entries vs bs))
  unfolding entries
  lay-empty =
      let u : laid [] [] vs bs ≡ superseded (entries vs bs) = (over-empty (entries vs bs)).0 in
      let l : laid vs bs [] [] ≡ superseded (entries vs bs) = (over-empty (entries vs bs)).1 in (
        zero-lay [] [] vs bs (record {
          lower-fits = none-fits;
          upper_fits = fits;
          remain = subst (λ (m : List Entry). length m ≤ 64) (sym u) superseded-fits;
        }),
        u,
        zero-lay vs bs [] [] (record {
          lower-fits = fits;
          upper_fits = none-fits;
          remain = subst (λ (m : List Entry). length m ≤ 64) (sym l) superseded-fits;
        }),
        l,
      )

  -- "and so does a list over itself"
  pub lay-self : (lay_number vs bs vs bs ≡ 0) × (laid vs bs vs bs ≡ superseded (entries vs bs))
  lay-self =
      let u : laid vs bs vs bs ≡ superseded (entries vs bs) = over-self (entries vs bs) in (
        zero-lay vs bs vs bs (record {
          lower-fits = fits;
          upper_fits = fits;
          remain = subst (λ (m : List Entry). length m ≤ 64) (sym u) superseded-fits;
        }),
        u,
      )

-- ---- lists that share no node

two-twelves : (a b c : Bool) → first_no (check 12 a ∷ check 12 b ∷ check 22 c ∷ []) ≡ first_no (check 12 b ∷ check 12 a ∷ check 22 c ∷ [])
unfolding first_no
two-twelves true true c = refl
two-twelves true false c = refl
two-twelves false true c = refl
two-twelves false false c = refl

-- "two lists that share no node may be swapped"
pub lay-swap : (lvs lbs uvs ubs : List ℕ) → Apart (entries lvs lbs) (entries uvs ubs)
    → (lay_number lvs lbs uvs ubs ≡ lay_number uvs ubs lvs lbs) × (laid lvs lbs uvs ubs ≡ laid uvs ubs lvs lbs)
unfolding lay_checks
lay-swap lvs lbs uvs ubs d =
    let e : laid lvs lbs uvs ubs ≡ laid uvs ubs lvs lbs = over-swap (entries lvs lbs) (entries uvs ubs) d in (
      ap (λ (l : List Entry). first_no (check 12 (lists_fit lvs lbs) ∷ check 12 (lists_fit uvs ubs) ∷ check 22 (leb (length l) 64) ∷ [])) e
          ∙ two-twelves (lists_fit lvs lbs) (lists_fit uvs ubs) (leb (length (laid uvs ubs lvs lbs)) 64),
      e,
    )
