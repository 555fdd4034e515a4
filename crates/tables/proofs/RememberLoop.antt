-- The loop that remembers the moves of a climb, and the climb by parts.
--     Noting, noting-start .. noting-iteration    the loop's state, and one move more
--     Joined, joined-start .. joined-iteration    the loop over parts
--     part-done, part-lost, part_none         a climb that is one part
use Prim.Native.Nat.{ℕ, zero, suc, ◌+◌, ◌-◌, ◌/◌, ◌≤◌, ◌<◌}
use mathlib.Core.Path.{◌≡◌, refl, sym, ap, ap₂, ◌∙◌}
use mathlib.Core.Bool.{Bool, true, false, cond}
use mathlib.Core.List.{List, [], ◌∷◌, ◌++◌, append_assoc, append-nil}
use mathlib.Core.Option.{Option, none, some}
use native.Mathlib.Omega.{arith}
use native.Mathlib.Nat.{le_refl}
use native.Mathlib.Numerals.{add-one}
use native.Mathlib.Decide.{ℕ_discrete}
use lib.ListN.{length, get_or, set, length-set, length-append}
use lib.Seq.{get_or-set_same, get_or-set_other}
use Rattle.trees.specs.Climb.{Forest, Move, target, next_move, and_then, before, climb, climb_end}
use Rattle.trees.specs.Passed.{passed_by}
use Rattle.trees.proofs.MoveLaws.{next-inside, next-rises}
use Rattle.trees.proofs.ClimbLaws.{climb-done, climb-move, climb-stuck}
use Rattle.list_laws.proofs.BoolLaws.{true-false}
use Rattle.tables.specs.node_tables.Cells.{depth_cell, cell_forest}
use Rattle.tables.specs.declared.answers.Climbed.TheVariants.{Reached as To, OutOfRange}
use Rattle.tables.specs.declared.answers.Reached.{Reached}
use Rattle.tables.specs.declared.replays.Note.{Note}
use Rattle.tables.specs.declared.replays.Part.{Part}
use Rattle.tables.specs.Climbs.{below, reached, climbed_of}
use Rattle.tables.specs.Replays.{state_move, carry_down, replay_on}
use Rattle.tables.specs.inner.Remembered.{move_of, remembered, prefixed, Noted, Noticed, Folded}
use Rattle.tables.proofs.LookupLaws.{below-yes, below-no}
use Rattle.tables.proofs.ReplayLaws.{down-append, down-below}

-- ---- lists of moves

prefixed-nil : (o : Option (List Move)) → o ≡ prefixed [] o
prefixed-nil none = refl
prefixed-nil (some ms) = refl

prefixed-before : (ms : List Move) (m : Move) (o : Option (List Move)) → prefixed ms (before m o) ≡ prefixed
    (ms ++ (m ∷ [])) o
prefixed-before ms m none = refl
prefixed-before ms m (some ns) = ap some (sym (append_assoc ms (m ∷ []) ns))

prefixed-prefixed : (ms ns : List Move) (o : Option (List Move)) → prefixed ms (prefixed ns o) ≡ prefixed (ms ++ ns) o
prefixed-prefixed ms ns none = refl
prefixed-prefixed ms ns (some l) = ap some (sym (append_assoc ms ns l))

end-append : (F : Forest) (w : ℕ) (ms ns : List Move) → climb_end F w (ms ++ ns) ≡ climb_end F (climb_end F w ms) ns
end-append F w [] ns = refl
end-append F w (m ∷ ms) ns = end-append F (target F m) ms ns

remembered-length : (codes : List ℕ) (c : ℕ) → length (remembered codes c) ≡ c
unfolding remembered
remembered-length codes zero = refl
remembered-length codes (suc c) =
    length-append (remembered codes c) (move_of (get_or codes c 0) ∷ [])
    ∙ (let e = remembered-length codes c in omega (arith, e))

kept : (codes : List ℕ) (c x i : ℕ) → i ≤ c → remembered (set codes c x) i ≡ remembered codes i
unfolding remembered
kept codes c x zero h = refl
kept codes c x (suc i) h =
    ap₂ (λ (ms : List Move) (y : ℕ). ms ++ (move_of y ∷ [])) (kept codes c x i (omega arith))
    (get_or-set_other codes c i x 0 (λ e. omega arith))

one_more : (codes : List ℕ) (c x : ℕ) → c < length codes
    → remembered (set codes c x) (c + 1) ≡ remembered codes c ++ (move_of x ∷ [])
unfolding remembered
one_more codes c x h =
    ap (remembered (set codes c x)) (add-one c)
    ∙ ap₂ (λ (ms : List Move) (y : ℕ). ms ++ (move_of y ∷ [])) (kept codes c x c (le_refl _))
    (get_or-set_same codes c x 0 h)

-- ---- the loop

module _ (n : ℕ) (node_table : List ℕ) (from to : ℕ) where
  abbrev F : Forest
  F = cell_forest n node_table

  pub record Noting (codes : List ℕ) (v c : ℕ) : Type 0 where
    pub long : length codes ≡ 48
    pub most : c ≤ 48
    pub inside : v < n
    pub nodes : (i : ℕ) → i < c → get_or codes i 0 / 2 < n
    pub falls : c + depth_cell node_table v ≤ depth_cell node_table from
    pub ends : climb_end (cell_forest n node_table) from (remembered codes c) ≡ v
    pub onward : climb (cell_forest n node_table) from to
        ≡ prefixed (remembered codes c) (climb (cell_forest n node_table) v to)

  pub noting-start : (codes : List ℕ) → length codes ≡ 48 → from < n → Noting codes from 0
  unfolding remembered
  noting-start codes l h = record {
    long = l;
    most = omega arith;
    inside = h;
    nodes = λ i z. absurd (omega arith);
    falls = omega arith;
    ends = refl;
    onward = prefixed-nil (climb F from to);
  }

  module _ (codes : List ℕ) (v c : ℕ) (N : Noting codes v c) where
    module _ (deeper : to < depth_cell node_table v) (x : Note) (X : Noted (cell_forest n node_table) v to x) where
      pub noting-lost : from < n → x.ok ≡ false → Noticed n node_table from to codes
          (record { ok = false; count = 0; node = from })
      unfolding remembered
      noting-lost h e = record {
        long = N.long;
        count = omega arith;
        inside = h;
        nodes = λ i z. absurd (omega arith);
        falls = omega arith;
        ends = refl;
        onward = N.onward ∙ ap (prefixed (remembered codes c)) (climb-stuck F v to deeper
            (sym X.next ∙ ap (λ (b : Bool). cond b (some (move_of x.code)) none) e));
        far = λ z. absurd (true-false (sym z));
      }

      next-is : x.ok ≡ true → next_move F v to ≡ some (move_of x.code)
      next-is e = sym X.next ∙ ap (λ (b : Bool). cond b (some (move_of x.code)) none) e

      pub noting-rises : x.ok ≡ true → depth_cell node_table x.node < depth_cell node_table v
      noting-rises e = rw (X.leads e) (next-rises F v to (move_of x.code) (next-is e))

      pub noting-iteration : c < 48 → x.ok ≡ true → Noting (set codes c x.code) x.node (c + 1)
      noting-iteration l e =
          let more = one_more codes c x.code (omega (arith, N.long)) in
          let m : Move = move_of x.code in
          record {
            long = length-set codes c x.code ∙ N.long;
            most = omega arith;
            inside = rw (X.leads e) (next-inside F v to m (next-is e));
            nodes = λ i z. elim (ℕ_discrete i c) [
              | yes q ↦ omega (
                arith,
                ap (λ (j : ℕ). get_or (set codes c x.code) j 0) q,
                get_or-set_same codes c x.code 0
                    (omega (arith, N.long)),
                X.from e,
                N.inside,
              )
              | no q ↦ omega (arith, get_or-set_other codes c i x.code 0 q, N.nodes i (omega arith))
            ];
            falls = omega (arith, N.falls, noting-rises e);
            ends = ap (climb_end F from) more ∙ end-append F from (remembered codes c) (m ∷ []) ∙ ap
                (λ (w : ℕ). target F m) N.ends
                ∙ sym (X.leads e);
            onward = N.onward ∙ ap (prefixed (remembered codes c)) (climb-move F v to m deeper (next-is e))
                ∙ prefixed-before (remembered codes c) m (climb F (target F m) to)
                ∙ ap₂ (λ (ms : List Move) (w : ℕ). prefixed ms (climb F w to)) (sym more) (sym (X.leads e));
          }

-- ---- the climb by parts

module _ (n s k : ℕ) (ls st node_table state_table : List ℕ) (from to : ℕ) where
  abbrev forest : Forest
  forest = cell_forest n node_table

  abbrev act : Move → ℕ → Option ℕ
  act = state_move s k ls st state_table

  abbrev told : List Move → ℕ → Option Reached
  told ms x = some (reached x (length ms) (passed_by forest from ms))

  -- a climb that is found
  found : (ms : List Move) (q : ℕ) → climb forest from to ≡ some ms
      → replay_on n s k ls st node_table state_table from to q ≡ and_then (carry_down act ms q) (told ms)
  unfolding replay_on
  found ms q e = ap (λ (o : Option (List Move)). and_then o (λ ms. and_then (carry_down act ms q) (told ms))) e

  pub replay-none : (q : ℕ) → climb (cell_forest n node_table) from to ≡ none
      → OutOfRange ≡ climbed_of (replay_on n s k ls st node_table state_table from to q)
  unfolding replay_on climbed_of
  replay-none q e = sym (ap (λ (o : Option (List Move)). climbed_of
      (and_then o (λ ms. and_then (carry_down act ms q) (told ms)))) e)

  module _ (ms : List Move) (q x : ℕ) (e : climb (cell_forest n node_table) from to ≡ some ms)
      (d : below s x ≡ carry_down (state_move s k ls st state_table) ms q) where
    pub replay-lost : s ≤ x → OutOfRange ≡ climbed_of (replay_on n s k ls st node_table state_table from to q)
    unfolding climbed_of
    replay-lost h =
        sym (ap climbed_of (found ms q e ∙ ap (λ (o : Option ℕ). and_then o (told ms)) (sym d ∙ below-no s x h)))

    pub replay-done : x < s → (c p : ℕ) → c ≡ length ms → p ≡ passed_by (cell_forest n node_table) from ms
        → To (reached x c p) ≡ climbed_of (replay_on n s k ls st node_table state_table from to q)
    unfolding climbed_of
    replay-done h c p i j =
        ap₂ (λ (c p : ℕ). To (reached x c p)) i j
        ∙ sym (ap climbed_of (found ms q e ∙ ap (λ (o : Option ℕ). and_then o (told ms)) (sym d ∙ below-yes s x h)))

  -- a climb that is one part
  pub part-whole : (codes : List ℕ) (x : Part) → Noticed n node_table from to codes x → x.ok ≡ true
      → depth_cell node_table x.node ≤ to → climb (cell_forest n node_table) from to ≡ some
      (remembered codes x.count)
  part-whole codes x N e h =
      N.onward ∙ ap (λ (b : Bool). cond b (prefixed (remembered codes x.count) (climb forest x.node to)) none) e
      ∙ ap (prefixed (remembered codes x.count)) (climb-done forest x.node to h)
      ∙ ap some (append-nil (remembered codes x.count))

  pub part_none : (codes : List ℕ) (x : Part) (v : ℕ) → Noticed n node_table v to codes x → x.ok ≡ false
      → climb (cell_forest n node_table) v to ≡ none
  part_none codes x v N e =
      N.onward ∙ ap (λ (b : Bool). cond b (prefixed (remembered codes x.count) (climb forest x.node to)) none) e

  pub part-passed : (codes : List ℕ) (x : Part) → Noticed n node_table from to codes x
      → depth_cell node_table from - depth_cell node_table x.node
      ≡ passed_by (cell_forest n node_table) from (remembered codes x.count)
  part-passed codes x N = ap (λ (v : ℕ). depth_cell node_table from - depth_cell node_table v) (sym N.ends)

  pub part-links : (codes : List ℕ) (c : ℕ) → c ≡ length (remembered codes c)
  part-links codes c = sym (remembered-length codes c)

  -- ---- parts joined

  pub record Joined (map : List ℕ) (v c : ℕ) : Type 0 where
    pub long : length map ≡ 16
    pub inside : v < n
    pub falls : c + depth_cell node_table v ≤ depth_cell node_table from
    pub moves : List Move
    pub count : c ≡ length moves
    pub ends : climb_end (cell_forest n node_table) from moves ≡ v
    pub onward : climb (cell_forest n node_table) from to ≡ prefixed moves (climb (cell_forest n node_table) v to)
    pub down : (q : ℕ) → q < s → below s (get_or map q 0) ≡ carry_down (state_move s k ls st state_table) moves q

  pub joined-start : (map : List ℕ) → length map ≡ 16 → ((q : ℕ) → q < s → get_or map q 0 ≡ q) → from < n
      → Joined map from 0
  joined-start map l same h = record {
    long = l;
    inside = h;
    falls = omega arith;
    moves = [];
    count = refl;
    ends = refl;
    onward = prefixed-nil (climb forest from to);
    down = λ q i. ap (below s) (same q i) ∙ below-yes s q i;
  }

  module _ (map : List ℕ) (v c : ℕ) (J : Joined map v c) where
    pub joined-lost : (codes : List ℕ) (x : Part) (q : ℕ) → Noticed n node_table v to codes x → x.ok ≡ false
        → OutOfRange ≡ climbed_of (replay_on n s k ls st node_table state_table from to q)
    joined-lost codes x q N e =
        replay-none q (J.onward ∙ ap (prefixed J.moves) (part_none codes x v N e))

    pub joined-whole : depth_cell node_table v ≤ to → climb (cell_forest n node_table) from to ≡ some J.moves
    joined-whole h =
        J.onward ∙ ap (prefixed J.moves) (climb-done forest v to h) ∙ ap some (append-nil J.moves)

    pub joined-passed : depth_cell node_table from - depth_cell node_table v ≡ passed_by (cell_forest n node_table) from
        J.moves
    joined-passed = ap (λ (w : ℕ). depth_cell node_table from - depth_cell node_table w) (sym J.ends)

    module _ (codes : List ℕ) (x : Part) (N : Noticed n node_table v to codes x) (e : x.ok ≡ true) where
      abbrev part : List Move
      part = remembered codes x.count

      -- the map is that of the moves before, at every state that the part leads to
      through : (o : Option ℕ) → ((y : ℕ) → o ≡ some y → y < s)
          → and_then o (λ y. below s (get_or map y 0)) ≡ and_then o (λ y. carry_down act J.moves y)
      through none h = refl
      through (some y) h = J.down y (h y refl)

      pub joined-iteration : (out : List ℕ)
          → Folded s map (carry_down (state_move s k ls st state_table) (remembered codes x.count)) s out
          → Joined out x.node (c + x.count)
      joined-iteration out W = record {
        long = W.long;
        inside = N.inside;
        falls = omega (arith, N.falls, J.falls);
        moves = J.moves ++ part;
        count = ap₂ (λ (i j : ℕ). i + j) J.count (part-links codes x.count) ∙ sym
            (length-append J.moves part);
        ends = end-append forest from J.moves part ∙ ap (λ (w : ℕ). climb_end forest w part) J.ends ∙ N.ends;
        onward = J.onward ∙ ap (prefixed J.moves)
            (N.onward ∙ ap (λ (b : Bool). cond b (prefixed part (climb forest x.node to)) none) e)
            ∙ prefixed-prefixed J.moves part (climb forest x.node to);
        down = λ q h. W.entries q h
            ∙ through (carry_down act part q) (λ y i. down-below s k ls st state_table part q y h i)
            ∙ sym (down-append act J.moves part q);
      }

-- the map that a climb by parts starts with
pub sixteen : (q : ℕ) → q < 16
    → get_or (0 ∷ 1 ∷ 2 ∷ 3 ∷ 4 ∷ 5 ∷ 6 ∷ 7 ∷ 8 ∷ 9 ∷ 10 ∷ 11 ∷ 12 ∷ 13 ∷ 14 ∷ 15 ∷ []) q 0 ≡ q
sixteen zero h = refl
sixteen (suc zero) h = refl
sixteen (suc (suc zero)) h = refl
sixteen (suc (suc (suc zero))) h = refl
sixteen (suc (suc (suc (suc zero)))) h = refl
sixteen (suc (suc (suc (suc (suc zero))))) h = refl
sixteen (suc (suc (suc (suc (suc (suc zero)))))) h = refl
sixteen (suc (suc (suc (suc (suc (suc (suc zero))))))) h = refl
sixteen (suc (suc (suc (suc (suc (suc (suc (suc zero)))))))) h = refl
sixteen (suc (suc (suc (suc (suc (suc (suc (suc (suc zero))))))))) h = refl
sixteen (suc (suc (suc (suc (suc (suc (suc (suc (suc (suc zero)))))))))) h = refl
sixteen (suc (suc (suc (suc (suc (suc (suc (suc (suc (suc (suc zero))))))))))) h = refl
sixteen (suc (suc (suc (suc (suc (suc (suc (suc (suc (suc (suc (suc zero)))))))))))) h = refl
sixteen (suc (suc (suc (suc (suc (suc (suc (suc (suc (suc (suc (suc (suc zero))))))))))))) h = refl
sixteen (suc (suc (suc (suc (suc (suc (suc (suc (suc (suc (suc (suc (suc (suc zero)))))))))))))) h = refl
sixteen (suc (suc (suc (suc (suc (suc (suc (suc (suc (suc (suc (suc (suc (suc (suc zero))))))))))))))) h = refl
sixteen (suc (suc (suc (suc (suc (suc (suc (suc (suc (suc (suc (suc (suc (suc (suc (suc q)))))))))))))))) h = absurd
    (omega arith)
