-- The steps of a branch question by colours, by the way each test went.
--     place-root, place-outside, place-parent   the copy above the upper node; place_here: its own
--     colour-top, colour-node                   the colour of state 0
--     way-top, way-node                         the way down
--     finish-outside, finish-answer             the end
use Prim.Native.Nat.{ℕ, ◌+◌, ◌-◌, ◌*◌, ◌≤◌, ◌<◌}
use mathlib.Core.Path.{◌≡◌, refl, sym, ap, ◌∙◌}
use mathlib.Core.List.{List}
use mathlib.Core.Option.{none, some}
use native.Mathlib.Omega.{arith}
use lib.Dec.{eqb}
use lib.ListN.{length, get_or, take, drop}
use borrow.Author.Tests.{lt-ltb, le-ltb, eq-eqb, ne_eqb}
use Rattle.list_laws.proofs.SliceLaws.{run-part}
use Rattle.list_laws.proofs.RowLaws.{stride}
use Rattle.tables.specs.node_tables.Cells.{parent_cell}
use Rattle.tables.specs.Climbs.{below}
use Rattle.branches.specs.declared.answers.Reading.TheVariants.{WithUpper, BelowUpper}
use Rattle.colours.specs.Colouring.{place_of}
use Rattle.colour_questions.specs.branch.Question.{start_on, colour_in, asked}
use Rattle.colour_questions.specs.branch.inner.Steps.{place_at, numbered_place, finish_on, RowArgs}

module _ (n : ℕ) (T : List ℕ) (u : ℕ) where
  pub place-root : u + 1 ≡ n → start_on WithUpper n T u ≡ numbered_place n n
  unfolding start_on
  place-root e = rw (eq-eqb (u + 1) n e, le-ltb n n (omega arith), eq-eqb n n refl)

  pub place-outside : (p : ℕ) → p ≡ parent_cell T u → (u + 1 ≡ n → ⊥) → n ≤ p
      → start_on WithUpper n T u ≡ numbered_place n (n + 1)
  unfolding start_on
  place-outside p q e h =
      rw (ne_eqb (u + 1) n e, le-ltb (parent_cell T u) n (omega arith), lt-ltb n (n + 1) (omega arith))

  pub place-parent : (p : ℕ) → p ≡ parent_cell T u → (u + 1 ≡ n → ⊥) → p < n
      → start_on WithUpper n T u ≡ numbered_place n p
  unfolding start_on
  place-parent p q e h =
      rw (ne_eqb (u + 1) n e, ← q, lt-ltb p n h, le-ltb n p (omega arith), ne_eqb p n (λ z. omega arith))

  pub place_here : u < n → start_on BelowUpper n T u ≡ numbered_place n u
  unfolding start_on
  place_here h = rw (le-ltb n u (omega arith), ne_eqb u n (λ z. omega arith))

module _ (s : ℕ) (bytes : List ℕ) (n z : ℕ) where
  pub colour-top : z ≡ n → colour_in s bytes (place_at n z) ≡ below s 0
  unfolding colour_in
  colour-top e = rw (eq-eqb z n e)

  pub colour-node : (r : ℕ) → (z ≡ n → ⊥) → r ≡ place_of 0 (take (z * s + s - z * s) (drop (z * s) bytes))
      → colour_in s bytes (place_at n z) ≡ below s r
  unfolding colour_in
  colour-node r e q = rw (ne_eqb z n e) (ap (below s) (sym (q ∙ ap (place_of 0) (run-part bytes (z * s) s))))

pub row_in : (bytes : List ℕ) (n s z : ℕ) → RowArgs bytes n s z → (z ≡ n → ⊥) → z * s + s ≤ length bytes
row_in bytes n s z A e = let w : z ≤ n = A.within in omega (arith, stride s z n (omega arith), A.room)

pub place-top : (n z : ℕ) → z ≡ n → none ≡ place_at n z
place-top n z e = rw (eq-eqb z n e)

pub place-node : (n z : ℕ) → (z ≡ n → ⊥) → some z ≡ place_at n z
place-node n z e = rw (ne_eqb z n e)

module _ (s : ℕ) (mk bytes : List ℕ) (l c d n : ℕ) where
  pub finish-outside : s ≤ get_or bytes (l * s + c) 0 → (18, none) ≡ finish_on s mk bytes l c d n
  unfolding finish_on
  finish-outside h = rw (le-ltb (get_or bytes (l * s + c) 0) s h)

  pub finish-answer : get_or bytes (l * s + c) 0 < s
      → (0, some (asked (get_or bytes (l * s + c) 0) (eqb (get_or mk (get_or bytes (l * s + c) 0) 0) 1) d n))
      ≡ finish_on s mk bytes l c d n
  unfolding finish_on
  finish-answer h = rw (lt-ltb (get_or bytes (l * s + c) 0) s h)
