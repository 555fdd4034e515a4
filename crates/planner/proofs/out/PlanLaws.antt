-- The plan that is written is the image's: header, labels, kinds, and the excess as it was.
--     filled          a part of a list, filled with one number
--     lay-args        what the loop over the nodes needs
--     plan-written    the four steps together
use Prim.Native.Nat.{ℕ, ◌+◌, ◌-◌, ◌*◌, ◌≤◌, ◌<◌}
use mathlib.Core.Path.{◌≡◌, refl, sym, ap, ◌∙◌}
use mathlib.Core.List.{List, ◌++◌, append_assoc}
use native.Mathlib.Omega.{arith}
use lib.ListN.{length, get_or, take, drop, replicate, length-drop, length-append, length-replicate, get_or-append, get_or-replicate}
use lib.Seq.{sets, length-sets, sets-eq, ext_get_or, get_or-take, get_or-drop, length-take-le}
use borrow.Rule.Slice.PartMut.{put_mid}
use Rattle.std.proofs.lemmas.List.{get_or-append_right}
use Rattle.trees.specs.Tree.{Tree, size, labels_of, kinds_of}
use Rattle.trees.proofs.NodeLaws.{length-labels, length-kinds}
use Rattle.list_laws.proofs.AppendLaws.{get_d_past}
use Rattle.list_laws.proofs.SliceLaws.{length_part, rest-cut, append-both}
use Rattle.formats.specs.Plan.{plan_bytes}
use Rattle.planner.specs.Siblings.{Siblings, count, image, empty_label}
use Rattle.planner.proofs.ImageLaws.{size-image}
use Rattle.planner.proofs.out.LayLoop.{length-labels-is}
use Rattle.planner.specs.out.inner.Laid.{plan_header, Filled, LayArgs, Laid, WriteArgs, PlanWritten}

-- ---- a list in its runs

pub run_is : (l : List ℕ) (a n : ℕ) (m : List ℕ) → length m ≡ n → a + n ≤ length l
    → ((j : ℕ) → j < n → get_or l (a + j) 0 ≡ get_or m j 0)
    → take n (drop a l) ≡ m
run_is l a n m e room same =
    ext_get_or 0 (take n (drop a l)) m (length_part l a n room ∙ sym e) (λ j h. (
    let k : j < n = omega (arith, length_part l a n room) in
    get_or-take n (drop a l) j 0 k ∙ get_or-drop a l j 0 ∙ same j k))

pub rest-is : (l m : List ℕ) (a : ℕ) → length l ≡ length m → ((j : ℕ) → a ≤ j → get_or l j 0 ≡ get_or m j 0)
    → drop a l ≡ drop a m
rest-is l m a e same =
    ext_get_or 0 (drop a l) (drop a m) (length-drop a l ∙ ap (λ (n : ℕ). n - a) e ∙ sym (length-drop a m)) (λ j h. (
    get_or-drop a l j 0 ∙ same (a + j) (omega arith) ∙ sym (get_or-drop a m j 0)))

pub in-runs : (l : List ℕ) (n : ℕ)
    → l ≡ take 12 l ++ (take n (drop 12 l) ++ (take n (drop (12 + n) l) ++ drop (12 + 2 * n) l))
in-runs l n =
    rest-cut l 0 12 12 refl
    ∙ ap (λ (t : List ℕ). take 12 l ++ t)
    (rest-cut l 12 n (12 + n) refl
    ∙ ap (λ (t : List ℕ). take n (drop 12 l) ++ t) (rest-cut l (12 + n) n (12 + 2 * n) (omega arith)))

-- ---- a plan and what is behind it

plan-header : (t : Tree) (rest : List ℕ)
    → plan_header (size t) ++ (labels_of t ++ (kinds_of t ++ rest)) ≡ plan_bytes t ++ rest
unfolding plan_bytes
plan-header t rest = ap (λ (l : List ℕ). plan_header (size t) ++ l) (sym (append_assoc (labels_of t) (kinds_of t) rest))

module _ (p : List ℕ) (n : ℕ) (room : 12 ≤ length p) where
  pub headed : sets p 0 (plan_header n) ≡ plan_header n ++ drop 12 p
  headed = sets-eq (plan_header n) p 0 (omega arith)

  pub headed-length : length (sets p 0 (plan_header n)) ≡ length p
  headed-length = length-sets p 0 (plan_header n)

  pub headed-at : (j : ℕ) → j < 12 → get_or (sets p 0 (plan_header n)) j 0 ≡ get_or (plan_header n) j 0
  headed-at j h = ap (λ (l : List ℕ). get_or l j 0) headed ∙ get_or-append (plan_header n) (drop 12 p) 0 j h

  pub headed-behind : (j : ℕ) → 12 ≤ j → get_or (sets p 0 (plan_header n)) j 0 ≡ get_or p j 0
  headed-behind j h = ap (λ (l : List ℕ). get_or l j 0) headed ∙ get_d_past (plan_header n) p 12 j refl h

-- a part of a list, filled with x
pub filled : (from to x : ℕ) (p w : List ℕ) → from ≤ to → to ≤ length p
    → w ≡ replicate (length (take (to - from) (drop from p))) x → Filled from to x p (put_mid from (to - from) p w)
filled from to x p w h room e =
    let a : length (take from p) ≡ from = length-take-le from p (omega arith) in
    let n : length (take (to - from) (drop from p)) ≡ to - from = length_part p from (to - from) (omega arith) in
    let b : length w ≡ to - from = ap length e ∙ length-replicate _ x ∙ n in
    let rest : List ℕ = drop (to - from) (drop from p) in
    let c : length rest ≡ length p - to = simp length-drop (omega arith) in
    record {
      inside = λ j l m. get_or-append_right (take from p) (w ++ rest) from j 0 a l
          ∙ get_or-append w rest 0 (j - from) (omega arith)
          ∙ ap (λ (y : List ℕ). get_or y (j - from) 0) e
          ∙ get_or-replicate (length (take (to - from) (drop from p))) (j - from) x 0 (omega arith);
      before = λ j l. get_or-append (take from p) (w ++ rest) 0 j (omega arith) ∙ get_or-take from p j 0 l;
      after = λ j l. get_or-append_right (take from p) (w ++ rest) from j 0 a (omega arith)
          ∙ get_or-append_right w rest (to - from) (j - from) 0 b (omega arith)
          ∙ get_or-drop (to - from) (drop from p) (j - from - (to - from)) 0
          ∙ get_or-drop from p (to - from + (j - from - (to - from))) 0
          ∙ (let i : from + (to - from + (j - from - (to - from))) ≡ j = omega arith in ap (λ (i : ℕ). get_or p i 0) i);
      same = length-append (take from p) (w ++ rest) ∙ omega (arith, length-append w rest);
    }

-- how long plan and labels are
pub record Room (ls p : List ℕ) : Type 0 where
  pub few : length ls ≤ 32767
  pub room : 12 + 2 * (2 * length ls + 1) ≤ length p

pub write-room : (f : Siblings) (ls ps p : List ℕ) → WriteArgs f ls ps p → Room ls p
write-room f ls ps p A = record {
  few = omega (arith, A.nodes.few, length-labels-is f ls ps A.nodes);
  room = omega (arith, A.room, length-labels-is f ls ps A.nodes);
}

-- the plan p with a header, with the labels w₁ and with the kinds w₂
module _ {f : Siblings} {ls ps p : List ℕ} (A : WriteArgs f ls ps p) (n : ℕ) (en : n ≡ 2 * length ls + 1)
    {p₁ w₁ w₂ : List ℕ}
    (H : p₁ ≡ sets p 0 (plan_header n)) (W₁ : w₁ ≡ replicate (length (take (12 + n - 12) (drop 12 p₁))) empty_label)
    (W₂ : w₂ ≡ replicate (length (take (12 + 2 * n - (12 + n)) (drop (12 + n) (put_mid 12 (12 + n - 12) p₁ w₁)))) 0) where
  abbrev p₂ : List ℕ
  p₂ = put_mid 12 (12 + n - 12) p₁ w₁

  abbrev p₃ : List ℕ
  p₃ = put_mid (12 + n) (12 + 2 * n - (12 + n)) p₂ w₂

  e : n ≡ 2 * count f + 1
  e = omega (arith, length-labels-is f ls ps A.nodes)

  long : 12 ≤ length p
  long = omega (arith, A.room)

  same_head : length p₁ ≡ length p
  same_head = ap length H ∙ headed-length p n long

  F : Filled 12 (12 + n) empty_label p₁ p₂
  F = filled 12 (12 + n) empty_label p₁ w₁ (omega arith) (omega (arith, A.room, e, same_head)) W₁

  G : Filled (12 + n) (12 + 2 * n) 0 p₂ p₃
  G = filled (12 + n) (12 + 2 * n) 0 p₂ w₂ (omega arith) (omega (arith, A.room, e, same_head, F.same)) W₂

  same_length : length p₃ ≡ length p
  same_length = G.same ∙ F.same ∙ same_head

  size_is : n ≡ size (image f)
  size_is = omega (arith, e, size-image f)

  pub lay-args : LayArgs f ls ps p₃ n
  lay-args = record {
    nodes = A.nodes;
    size_is = size_is;
    room = omega (arith, A.room, same_length, e);
    labels_empty = λ j h. G.before (12 + j) (omega arith) ∙ F.inside (12 + j) (omega arith) (omega arith);
    kinds_empty = λ j h. G.inside (12 + n + j) (omega arith) (omega arith);
  }

  pub plan-written : {q : List ℕ} → Laid f n p₃ q → PlanWritten f p q
  plan-written {q} L =
      let t : Tree = image f in
      let z : length q ≡ length p = L.same ∙ same_length in
      let head : take 12 q ≡ plan_header (size t) =
      run_is q 0 12 (plan_header (size t)) refl (omega arith) (λ j h. (let w : 0 + j ≡ j = omega arith in
      ap (λ (i : ℕ). get_or q i 0) w ∙ L.head j h ∙ G.before j (omega arith) ∙ F.before j h
      ∙ ap (λ (l : List ℕ). get_or l j 0) H ∙ headed-at p n long j h
      ∙ ap (λ (i : ℕ). get_or (plan_header i) j 0) size_is)) in
      let labels : take n (drop 12 q) ≡ labels_of t =
      run_is q 12 n (labels_of t) (length-labels t ∙ sym size_is) (omega (arith, A.room, e)) L.labels in
      let kinds : take n (drop (12 + n) q) ≡ kinds_of t =
      run_is q (12 + n) n (kinds_of t) (length-kinds t ∙ sym size_is) (omega (arith, A.room, e)) L.kinds in
      let rest : drop (12 + 2 * n) q ≡ drop (12 + 2 * n) p =
      rest-is q p (12 + 2 * n) z (λ j h. L.excess j h ∙ G.after j h ∙ F.after j (omega arith)
      ∙ ap (λ (l : List ℕ). get_or l j 0) H ∙ headed-behind p n long j (omega arith)) in
      in-runs q n
      ∙ append-both head (append-both labels (append-both kinds (rest ∙ ap (λ (i : ℕ). drop (12 + 2 * i) p) e)))
      ∙ plan-header t (drop (12 + 2 * (2 * count f + 1)) p)
