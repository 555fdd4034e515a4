-- The loop that tests the child counts, and the answers of the tests of a file.
--     Waiting, waiting-start, waiting_none, waiting-many    the invariant, its start, and where it is refused
--     file-not, file-counts         the answers of the test of a file
--     room-many .. room-rest        and of the test of the outputs
use Prim.Native.Nat.{ℕ, zero, suc, ◌+◌, ◌-◌, ◌*◌, ◌≤◌, ◌<◌}
use mathlib.Core.Path.{◌≡◌, refl, sym, ap, ◌∙◌}
use mathlib.Core.Bool.{Bool, true, false}
use mathlib.Core.List.{List, [], ◌∷◌}
use native.Mathlib.Omega.{arith}
use lib.Dec.{leb}
use lib.ListN.{length, drop, take, length-drop}
use borrow.Author.Tests.{eq-eqb, ne_eqb, le-leb, lt-leb}
use Rattle.list_laws.proofs.BoolLaws.{and-no-left, and-next}
use Rattle.list_laws.proofs.SliceLaws.{end-part}
use Rattle.formats.specs.Bytes.{le32}
use Rattle.planner.proofs.FileTrees.{WellFormed, well-formed}
use Rattle.planner.specs.File.{file_count, count_run, pending, nothing_left, is_preorder, well_formed, out_room}

-- ---- the counts

pub record Waiting (cs : List ℕ) (w i : ℕ) : Type 0 where
  pub answer : nothing_left (pending (drop i cs) w) ≡ is_preorder cs
  pub few : w ≤ length cs + 256

pub waiting-start : (cs : List ℕ) → Waiting cs 1 0
unfolding is_preorder
waiting-start cs = record { answer = refl; few = omega arith }

pending-none : (cs : List ℕ) (w : ℕ) → w ≡ 0 → 0 < length cs → nothing_left (pending cs w) ≡ false
pending-none [] w e h = absurd (omega arith)
pending-none (c ∷ cs) zero e h = refl
pending-none (c ∷ cs) (suc w) e h = absurd (omega arith)

pending-many : (cs : List ℕ) (w : ℕ) → length cs < w → nothing_left (pending cs w) ≡ false
pending-many [] w h = ne_eqb w 0 (λ e. omega arith)
pending-many (c ∷ cs) zero h = refl
pending-many (c ∷ cs) (suc w) h = pending-many cs (c + w) (omega arith)

module _ {cs : List ℕ} {w i : ℕ} (W : Waiting cs w i) where
  pub waiting_none : i < length cs → w < 1 → is_preorder cs ≡ false
  waiting_none h l = sym W.answer ∙ pending-none (drop i cs) w (omega arith) (simp length-drop (omega arith))

  pub waiting-many : length cs - i < w → is_preorder cs ≡ false
  waiting-many h = sym W.answer ∙ pending-many (drop i cs) w (simp length-drop (omega arith))

-- ---- the file

pub file-not : (b : List ℕ) → (WellFormed b → ⊥) → well_formed b ≡ false
file-not b h = go (well_formed b) refl
  where
    go : (x : Bool) → well_formed b ≡ x → x ≡ false
    go true e = absurd (h (well-formed b e))
    go false e = refl

-- where header and length are right, the counts decide
pub file-counts : (b : List ℕ) → 12 ≤ length b → 1 ≤ file_count b → le32 b 4 ≡ 12 → le32 b 8 ≡ 12 + file_count b
    → length b ≡ 12 + 2 * file_count b → well_formed b ≡ is_preorder (count_run b)
unfolding well_formed
file-counts b long least labels_at counts-at exact =
    and-next _ _ (le-leb 12 (length b) long) ∙ and-next _ _ (le-leb 1 (file_count b) least)
    ∙ and-next _ _ (eq-eqb (le32 b 4) 12 labels_at) ∙ and-next _ _ (eq-eqb (le32 b 8) (12 + file_count b) counts-at)
    ∙ and-next _ _ (eq-eqb (length b) (12 + 2 * file_count b) exact)

pub count-part : (b : List ℕ) (n : ℕ) → n ≡ file_count b → length b ≡ 12 + 2 * n
    → take (length b - (12 + n)) (drop (12 + n) b) ≡ count_run b
count-part b n e h = end-part b (12 + n) n (omega arith) ∙ ap (λ (i : ℕ). take i (drop (12 + i) b)) e

-- ---- the outputs

module _ (n plan places : ℕ) where
  pub room-many : 32767 < n → out_room n plan places ≡ false
  unfolding out_room
  room-many h = and-no-left _ _ (lt-leb n 32767 h)

  pub room-plan : n ≤ 32767 → plan < 12 + 2 * (2 * n + 1) → out_room n plan places ≡ false
  unfolding out_room
  room-plan h l = and-next _ _ (le-leb n 32767 h) ∙ and-no-left _ _ (lt-leb (12 + 2 * (2 * n + 1)) plan l)

  pub room-rest : n ≤ 32767 → 12 + 2 * (2 * n + 1) ≤ plan → leb n places ≡ out_room n plan places
  unfolding out_room
  room-rest h l = sym (and-next _ _ (le-leb n 32767 h) ∙ and-next _ _ (le-leb (12 + 2 * (2 * n + 1)) plan l))
