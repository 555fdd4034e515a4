-- Moves remembered on a climb, and one state carried down through them.
--     down-append                          two runs of moves: the upper first
--     move-below, down-below               what a move, or moves, make of a state is a state
--     note-jump, note-parent, note-stuck   one move as it is remembered
--     move-by-jump .. move-by-label        what a remembered move makes of a state
--     Replaying, replaying-iteration .. -done   the loop that carries a state down
use Prim.Native.Nat.{ℕ, zero, suc, ◌+◌, ◌-◌, ◌*◌, ◌/◌, ◌%◌, ◌≤◌, ◌<◌}
use mathlib.Core.Path.{◌≡◌, refl, sym, ap, ◌∙◌}
use mathlib.Core.Bool.{Bool, true, false, cond}
use mathlib.Core.List.{List, [], ◌∷◌, ◌++◌}
use mathlib.Core.Option.{Option, none, some}
use native.Mathlib.Omega.{arith}
use native.Mathlib.Nat.{le_refl}
use lib.Dec.{ltb}
use lib.ListN.{get_or}
use borrow.Author.Tests.{lt-ltb, le-ltb, eq-eqb, ne_eqb}
use Rattle.trees.specs.Climb.{Forest, Move, via_jump, to_parent, target, next_move, and_then}
use Rattle.trees.proofs.MoveLaws.{none-some}
use Rattle.list_laws.proofs.BoolLaws.{true-false}
use Rattle.tables.specs.declared.node_tables.moves.NextMove.TheVariants.{Jump, Parent, Stuck}
use Rattle.tables.specs.node_tables.inner.MoveAnswers.{next_move_of}
use Rattle.tables.proofs.node_tables.MoveAnswerLaws.{answer-jump, answer-parent, answer-stuck}
use Rattle.tables.specs.StateCells.{map_cell}
use Rattle.tables.specs.Climbs.{below}
use Rattle.tables.specs.Replays.{state_move, carry_down}
use Rattle.tables.specs.inner.Remembered.{move_of, remembered, Noted}
use Rattle.tables.proofs.LookupLaws.{below-yes, below-no, below-state}

-- ---- two runs of moves

then_some : (o : Option ℕ) → and_then o (λ x. some x) ≡ o
then_some none = refl
then_some (some x) = refl

then-then : (o : Option ℕ) (f g : ℕ → Option ℕ) → and_then (and_then o f) g ≡ and_then o (λ x. and_then (f x) g)
then-then none f g = refl
then-then (some x) f g = refl

module _ (act : Move → ℕ → Option ℕ) where
  pub down-append : (ms ns : List Move) (q : ℕ)
      → carry_down act (ms ++ ns) q ≡ and_then (carry_down act ns q) (λ x. carry_down act ms x)
  down-append [] ns q = sym (then_some (carry_down act ns q))
  down-append (m ∷ ms) ns q =
      ap (λ (o : Option ℕ). and_then o (act m)) (down-append ms ns q)
      ∙ then-then (carry_down act ns q) (λ x. carry_down act ms x) (act m)

-- ---- states

module _ (s k : ℕ) (ls st state_table : List ℕ) where
  abbrev act : Move → ℕ → Option ℕ
  act = state_move s k ls st state_table

  pub move-below : (m : Move) (q x : ℕ) → state_move s k ls st state_table m q ≡ some x → x < s
  unfolding state_move
  move-below (via_jump v) q x e = let b = below-state s (map_cell s state_table v q) x e in omega (arith, b.0, b.1)
  move-below (to_parent v) q x e = go (ltb (get_or ls v 0) k) e
    where
      go : (b : Bool) → cond b (below s (get_or st (q * k + get_or ls v 0) 0)) none ≡ some x → x < s
      go true i = let b = below-state s (get_or st (q * k + get_or ls v 0) 0) x i in omega (arith, b.0, b.1)
      go false i = absurd (none-some i)

  pub down-below : (ms : List Move) (q x : ℕ) → q < s → carry_down (state_move s k ls st state_table) ms q ≡ some x
      → x < s
  down-below [] q x h e = let b = below-state s q x (below-yes s q h ∙ e) in omega (arith, b.1)
  down-below (m ∷ ms) q x h e = go (carry_down act ms q) e
    where
      go : (o : Option ℕ) → and_then o (act m) ≡ some x → x < s
      go none i = absurd (none-some i)
      go (some y) i = move-below m y x i

  -- ---- what a remembered move makes of a state

  pub move-by-jump : (c q : ℕ) → c % 2 ≡ 1
      → below s (map_cell s state_table (c / 2) q) ≡ state_move s k ls st state_table (move_of c) q
  unfolding state_move move_of
  move-by-jump c q h = rw (eq-eqb (c % 2) 1 h)

  pub move-no-label : (c q : ℕ) → ¬ (c % 2 ≡ 1) → k ≤ get_or ls (c / 2) 0
      → below s s ≡ state_move s k ls st state_table (move_of c) q
  unfolding state_move move_of
  move-no-label c q h i = rw (ne_eqb (c % 2) 1 h, le-ltb (get_or ls (c / 2) 0) k i) (below-no s s (le_refl _))

  pub move-by-label : (c q : ℕ) → ¬ (c % 2 ≡ 1) → get_or ls (c / 2) 0 < k
      → below s (get_or st (q * k + get_or ls (c / 2) 0) 0) ≡ state_move s k ls st state_table (move_of c) q
  unfolding state_move move_of
  move-by-label c q h i = rw (ne_eqb (c % 2) 1 h, lt-ltb (get_or ls (c / 2) 0) k i)

  -- ---- the loop that carries a state down

  module _ (codes : List ℕ) (count q : ℕ) where
    pub record Replaying (i x : ℕ) : Type 0 where
      pub most : i ≤ count
      pub state : x < s
      pub same : carry_down (state_move s k ls st state_table) (remembered codes i) x
          ≡ carry_down (state_move s k ls st state_table) (remembered codes count) q

    last-move : (i : ℕ) → 0 < i → remembered codes i ≡ remembered codes (i - 1) ++ (move_of (get_or codes (i - 1) 0) ∷ [])
    unfolding remembered
    last-move zero h = absurd (omega arith)
    last-move (suc j) h =
        let e : j ≡ suc j - 1 = omega arith in
        ap (λ (x : ℕ). remembered codes x ++ (move_of (get_or codes x 0) ∷ [])) e

    module _ (i x : ℕ) (R : Replaying i x) (h : 0 < i) (y : ℕ)
        (e : below s y ≡ state_move s k ls st state_table (move_of (get_or codes (i - 1) 0)) x) where
      one_down : carry_down act (remembered codes count) q
          ≡ and_then (below s y) (λ z. carry_down act (remembered codes (i - 1)) z)
      one_down =
          sym R.same ∙ ap (λ (ms : List Move). carry_down act ms x) (last-move i h)
          ∙ down-append act (remembered codes (i - 1)) (move_of (get_or codes (i - 1) 0) ∷ []) x
          ∙ ap (λ (o : Option ℕ). and_then o (λ z. carry_down act (remembered codes (i - 1)) z)) (sym e)

      pub replaying-iteration : y < s → Replaying (i - 1) y
      replaying-iteration l = record {
        most = omega (arith, R.most);
        state = l;
        same = sym (one_down ∙ ap (λ (o : Option ℕ). and_then o (λ z. carry_down act (remembered codes (i - 1)) z))
            (below-yes s y l));
      }

      pub replaying-lost : s ≤ y → below s s ≡ carry_down (state_move s k ls st state_table) (remembered codes count) q
      replaying-lost l =
          below-no s s (le_refl _)
          ∙ sym (one_down ∙ ap (λ (o : Option ℕ). and_then o (λ z. carry_down act (remembered codes (i - 1)) z))
          (below-no s y l))

    pub replaying-done : (i x : ℕ) → Replaying i x → i ≤ 0
        → below s x ≡ carry_down (state_move s k ls st state_table) (remembered codes count) q
    unfolding remembered
    replaying-done i x R h =
        let e : i ≡ 0 = omega arith in
        below-yes s x R.state ∙ ap (λ (j : ℕ). carry_down act (remembered codes j) x) (sym e) ∙ R.same

-- ---- one move as it is remembered

of-jump : (v : ℕ) → move_of (v * 2 + 1) ≡ via_jump v
unfolding move_of
of-jump v =
    let e : (v * 2 + 1) / 2 ≡ v = omega arith in
    rw (eq-eqb ((v * 2 + 1) % 2) 1 (omega arith), e)

of-parent : (v : ℕ) → move_of (v * 2) ≡ to_parent v
unfolding move_of
of-parent v =
    let e : v * 2 / 2 ≡ v = omega arith in
    rw (ne_eqb (v * 2 % 2) 1 (λ z. omega arith), e)

module _ (F : Forest) (v to : ℕ) where
  pub note-jump : (j : ℕ) → Jump j ≡ next_move_of F (next_move F v to)
      → Noted F v to (record { ok = true; code = v * 2 + 1; node = j })
  note-jump j e =
      let t = answer-jump F v to j e in
      record {
        next = ap some (of-jump v) ∙ sym t.0;
        leads = λ _. t.1 ∙ sym (ap (target F) (of-jump v));
        from = λ _. omega arith;
      }

  pub note-parent : (p : ℕ) → Parent p ≡ next_move_of F (next_move F v to)
      → Noted F v to (record { ok = true; code = v * 2; node = p })
  note-parent p e =
      let t = answer-parent F v to p e in
      record {
        next = ap some (of-parent v) ∙ sym t.0;
        leads = λ _. t.1 ∙ sym (ap (target F) (of-parent v));
        from = λ _. omega arith;
      }

  pub note-stuck : Stuck ≡ next_move_of F (next_move F v to) → Noted F v to (record { ok = false; code = 0; node = 0 })
  note-stuck e = record {
    next = sym (answer-stuck F v to e);
    leads = λ h. absurd (true-false (sym h));
    from = λ h. absurd (true-false (sym h));
  }
