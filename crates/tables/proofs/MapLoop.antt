-- The iterations of the loop that writes the maps, from the root down: each inner node writes both children's maps.
--     right_is, left_is       the values written are the children's maps
--     pairs_start, pairs-turn, pairs-lower, pairs-all   the root's map, one more inner node, leaves passed by, all of
--   them
--     pair-args               what one node's writer needs
--     listed-pair-args, listed-pairs   the same of a listed inner node, before the one after it
use Prim.Native.Nat.{ℕ, ◌+◌, ◌-◌, ◌*◌, ◌≤◌, ◌<◌}
use mathlib.Core.Path.{◌≡◌, sym, ap, ap₂, ◌∙◌, subst}
use mathlib.Core.List.{List, []}
use mathlib.Core.Logic.{inl, inr}
use native.Mathlib.Decide.{ℕ_discrete}
use native.Mathlib.Omega.{arith}
use borrow.Author.Tests.{eq-eqb, ne_eqb}
use lib.ListN.{length, get_or}
use Rattle.trees.specs.Tree.{Tree, kinds_of, size, label_at}
use Rattle.trees.specs.Automaton.{Automaton, state}
use Rattle.trees.specs.Numbering.{sub, parent, depth}
use Rattle.trees.specs.Jumps.{jump, two_distances}
use Rattle.trees.specs.Tables.{step_up, state_map}
use Rattle.trees.proofs.NodeLaws.{Inner, inner, Up, up, length-labels, size-pos}
use Rattle.trees.proofs.JumpLaws.{jump_in, jump_above, jump-rule}
use Rattle.trees.proofs.MapLaws.{step_up-right, step_up-left, step_up-below, state_map-root, state_map-near, state_map-far}
use Rattle.trees.proofs.MapLaws.{state_map-below}
use Rattle.trees.proofs.PostorderLaws.{size_of, kind-of}
use Rattle.list_laws.proofs.Choice.{le-or}
use Rattle.list_laws.proofs.RowLaws.{stride, cells-apart}
use Rattle.formats.specs.Rules.{tree_automaton}
use Rattle.tables.specs.node_tables.Cells.{jump_cell, size_cell}
use Rattle.tables.specs.node_tables.inner.UpPass.{left_of}
use Rattle.tables.specs.node_tables.inner.InnerNodes.{from, Listed, ListArgs}
use Rattle.tables.proofs.node_tables.UpLoop.{child-is, inner-kind}
use Rattle.tables.proofs.node_tables.InnerNodeLaws.{from_next}
use Rattle.tables.specs.StateCells.{state_cell, map_cell}
use Rattle.tables.specs.inner.Rows.{Rowed, SameArgs}
use Rattle.tables.specs.inner.Maps.{Prepared, MapArgs, Maps}
use Rattle.tables.specs.inner.MapPairs.{PairRowed, taken_on, row_of, col_of, right_value, left_value, PairArgs}
use Rattle.tables.specs.inner.MapPairs.{PairsWritten, Pairs}
use Rattle.tables.proofs.MapTableLaws.{state-no-map}
use Rattle.tables.proofs.StateLoop.{rules-below}

-- ---- passing leaves by: a leaf is nobody's parent

pub pairs-lower : (s : ℕ) (t : Tree) (f : ℕ → ℕ → ℕ) (lo hi : ℕ) (e st : List ℕ)
    → ((p : ℕ) → lo ≤ p → p < hi → get_or (kinds_of t) p 0 ≡ 0) → PairsWritten s t f hi e st → PairsWritten s t f lo e st
pairs-lower s t f lo hi e st leaves W = record {
  maps = λ u q l g m. W.maps u q l (λ n. le-or hi (parent t u) (λ h. h)
      (λ h. absurd (omega (arith, leaves (parent t u) (g n) h, (up t u n).inside)))) m;
  kept = W.kept;
}

module _ (s k : ℕ) (lv inn mk : List ℕ) (t : Tree) (ks ls b e : List ℕ) (P : Prepared s k lv inn mk t ks ls b e) where
  pub count : size t ≡ length ls
  count = sym (length-labels t) ∙ ap length P.labels

  -- ---- the iteration of an inner node, after those of the later ones
  module _ (st : List ℕ) (v : ℕ) (h : v < size t) (kind : get_or ks v 0 ≡ 0 → ⊥)
      (W : PairsWritten s t (state_map (tree_automaton s k lv inn mk) t) (v + 1) e st) where
    I : Inner t v
    I = inner t v h (λ z. kind (sym (kind-of t ks v P.kinds) ∙ z))

    pub right-size : size_cell b (v - 1) ≡ size (sub t (v - 1))
    right-size = P.sizes (v - 1) (omega arith)

    pub pos : 0 < v
    pos = omega (arith, I.at)

    pub right_in : size_cell b (v - 1) < v
    right_in = omega (arith, right-size, I.at)

    pub right_some : 0 < size_cell b (v - 1)
    right_some = omega (arith, right-size, size-pos (sub t (v - 1)))

    at_left : left_of b v ≡ I.left
    at_left = omega (arith, right-size, I.at)

    left_up : parent t (left_of b v) ≡ v
    left_up = ap (parent t) at_left ∙ I.left_up

    left-more : left_of b v + 1 < v
    left-more = omega (arith, right-size, I.at, size-pos (sub t (v - 1)))

    pub maps-from : (u q : ℕ) → v ≤ u → u < size t → q < s → map_cell s st u q ≡ state_map
        (tree_automaton s k lv inn mk) t u q
    maps-from u q g l m = W.maps u q l (λ n. omega (arith, (up t u n).above)) m

    pub state_is : (u : ℕ) → u < size t → state_cell s st u ≡ state (tree_automaton s k lv inn mk) (sub t u)
    state_is u l = W.kept (u * (s + 1)) (state-no-map s (size t) u) ∙ P.states u l

    right-label : label_at t (parent t (v - 1)) ≡ get_or ls v 0
    right-label = ap₂ (λ (l : List ℕ) (n : ℕ). get_or l n 0) P.labels I.right-up

    left-label : label_at t (parent t (left_of b v)) ≡ get_or ls v 0
    left-label = ap₂ (λ (l : List ℕ) (n : ℕ). get_or l n 0) P.labels left_up

    right-step : (q : ℕ) → get_or inn (row_of ls b st s k v + q * 1) 0 ≡ step_up (tree_automaton s k lv inn mk) t
        (v - 1) q
    right-step q =
        let u : ℕ = v - 1 - size (sub t (v - 1)) in
        let x : ℕ = state (tree_automaton s k lv inn mk) (sub t u) in
        let a : ℕ = label_at t (parent t (v - 1)) in
        let l : left_of b v ≡ u = omega (arith, right-size) in
        let p : state_cell s st (left_of b v) ≡ x = ap (state_cell s st) l ∙ state_is u (omega arith) in
        let i : (x * k + a) * s + q * 1 ≡ (x * k + a) * s + q = omega arith in
        let up : v - 1 + 1 ≡ parent t (v - 1) = omega (arith, pos, I.right-up) in
        ap₂ (λ (x a : ℕ). get_or inn ((x * k + a) * s + q * 1) 0) p (sym right-label) ∙ ap (λ (j : ℕ). get_or inn j 0) i
        ∙ sym (step_up-right (tree_automaton s k lv inn mk) t (v - 1) (omega (arith, pos)) q up)

    left_step : (q : ℕ) → get_or inn (col_of ls st s v + q * (k * s)) 0 ≡ step_up (tree_automaton s k lv inn mk) t
        (left_of b v) q
    left_step q =
        let u : ℕ = left_of b v in
        let x : ℕ = state (tree_automaton s k lv inn mk) (sub t (parent t u - 1)) in
        let a : ℕ = label_at t (parent t u) in
        let r : v - 1 ≡ parent t u - 1 = omega (arith, left_up) in
        let p : state_cell s st (v - 1) ≡ x =
        state_is (v - 1) (omega arith) ∙ ap (λ (n : ℕ). state (tree_automaton s k lv inn mk) (sub t n)) r in
        let i : a * s + x + q * (k * s) ≡ (q * k + a) * s + x = omega arith in
        ap₂ (λ (x a : ℕ). get_or inn (a * s + x + q * (k * s)) 0) p (sym left-label) ∙ ap (λ (j : ℕ). get_or inn j 0) i
        ∙ sym (step_up-left (tree_automaton s k lv inn mk) t u (omega (arith, left-more)) q
        (λ z. omega (arith, left_up, left-more)))

    -- both children's jumps depend on their parent alone
    same-jump : jump_cell b (v - 1) ≡ jump t (left_of b v)
    same-jump =
        let F : ℕ → ℕ = λ p. two_distances (depth t p) (depth t (jump t p)) (depth t (jump t (jump t p)))
        (jump t (jump t p)) p in
        P.jumps (v - 1) (omega arith) ∙ jump-rule t (v - 1) (omega (arith, pos)) ∙ ap F (I.right-up ∙ sym left_up)
        ∙ sym (jump-rule t (left_of b v) (omega (arith, left-more)))

    module _ (below : (j : ℕ) → get_or inn j 0 < s) where
      taken_is : (u q x : ℕ) → u + 1 < size t → parent t u ≡ v → jump_cell b (v - 1) ≡ jump t u → q < s
          → x ≡ step_up (tree_automaton s k lv inn mk) t u q
          → taken_on b s st (jump_cell b (v - 1)) v x ≡ state_map (tree_automaton s k lv inn mk) t u q
      taken_is u q x hu ep ew l ex =
          let A : Automaton = tree_automaton s k lv inn mk in
          let hx : x < s = rw ex (step_up-below A t (λ p a q. below _) u q l) in
          elim (ℕ_discrete (jump_cell b (v - 1)) v) [
            | yes c ↦ rw (eq-eqb (jump_cell b (v - 1)) v c) (ex ∙ sym (state_map-near A t u q hu (sym ew ∙ c ∙ sym ep)))
            | no c ↦ rw (ne_eqb (jump_cell b (v - 1)) v c, P.jumps v h) (
                ap (map_cell s st (jump t v)) (maps-from v x (omega arith) h hx)
                ∙ maps-from (jump t v) (state_map A t v x) (jump_above t v h) (jump_in t v h)
                (state_map-below A t (λ p a q. below _) v x hx)
                ∙ ap₂ (λ (p z : ℕ). state_map A t (jump t p) (state_map A t p z)) (sym ep) ex
                ∙ sym (state_map-far A t u q hu (λ z. c (ew ∙ z ∙ ep))))
          ]

      right_is : (q : ℕ) → q < s → right_value ls b inn s k st v q ≡ state_map (tree_automaton s k lv inn mk) t (v - 1) q
      unfolding right_value
      right_is q l =
          taken_is (v - 1) q (get_or inn (row_of ls b st s k v + q * 1) 0) (omega (arith, pos)) I.right-up
          (P.jumps (v - 1) (omega arith)) l (right-step q)

      left_is : (q : ℕ) → q < s → left_value ls b inn s k st v q ≡ state_map (tree_automaton s k lv inn mk) t
          (left_of b v) q
      unfolding left_value
      left_is q l =
          taken_is (left_of b v) q (get_or inn (col_of ls st s v + q * (k * s)) 0) (omega (arith, left-more)) left_up
          same-jump l (left_step q)

      other-parent : (u : ℕ) → (u ≡ v - 1 → ⊥) → (u ≡ left_of b v → ⊥) → u + 1 < size t → v ≤ parent t u
          → v + 1 ≤ parent t u
      other-parent u z y n g = elim (ℕ_discrete (parent t u) v) [
        | yes c ↦ absurd (elim (child-is t v I u (subst (Up t u) c (up t u n))) [
          | inl a ↦ z a
          | inr a ↦ y
              (a ∙ sym at_left)
        ])
        | no c ↦ omega arith
      ]

      pub pair_turn : (after : List ℕ)
          → PairRowed s (right_value ls b inn s k st v) (left_value ls b inn s k st v) (v - 1) (left_of b v) st after
          → PairsWritten s t (state_map (tree_automaton s k lv inn mk) t) v e after
      pair_turn after R = record {
        maps = λ u q l g m. elim (ℕ_discrete u (v - 1)) [
          | yes z ↦ rw z (R.right q m ∙ right_is q m)
          | no z ↦ elim (ℕ_discrete u (left_of b v)) [
            | yes y ↦ rw y (R.left q m ∙ left_is q m)
            | no y ↦ R.kept (u * (s + 1) + (1 + q))
                (λ x n. cells-apart (s + 1) u (v - 1) (1 + q) (1 + x) (omega arith) (omega arith) z)
                (λ x n. cells-apart (s + 1) u (left_of b v) (1 + q) (1 + x) (omega arith) (omega arith) y)
                ∙ W.maps u q l (λ n. other-parent u z y n (g n)) m
          ]
        ];
        kept = λ j a. R.kept j (λ q m. a (v - 1) q (omega arith) m)
            (λ q m. a (left_of b v) q (omega (arith, left-more)) m)
            ∙ W.kept j a;
      }

  -- ---- the root alone
  root-written : (st : List ℕ) (v : ℕ) → v + 1 ≡ size t → Rowed s (λ q. q) v e st
      → PairsWritten s t (state_map (tree_automaton s k lv inn mk) t) (size t) e st
  root-written st v h r = record {
    maps = λ u q l g m. elim (ℕ_discrete u v) [
      | yes z ↦ rw z (r.cells q m ∙ sym (state_map-root (tree_automaton s k lv inn mk) t v q h))
      | no z ↦ (let n : u + 1 < size t = omega arith in absurd (omega (arith, g n, (up t u n).below)))
    ];
    kept = λ j a. r.kept j (λ q m. a v q (omega arith) m);
  }

-- ---- the same, of every tree and rule table that the buffer at entry is prepared for
module _ (ks ls b inn : List ℕ) (s k : ℕ) (e st : List ℕ) where
  pub pairs_start : (v : ℕ) → v + 1 ≡ length ks → Rowed s (λ q. q) v e st → Pairs ks ls b inn s k (length ks) e st
  pairs_start v h r lv mk t P =
      let z : length ks ≡ size t = size_of t ks P.kinds in
      subst (λ (n : ℕ). PairsWritten s t (state_map (tree_automaton s k lv inn mk) t) n e st) (sym z)
      (root-written s k lv inn mk t ks ls b e P st v (omega arith) r)

  pub pairs-turn : (v : ℕ) (after : List ℕ) → ((j : ℕ) → get_or inn j 0 < s) → v < length ks → (get_or ks v 0 ≡ 0 → ⊥)
      → Pairs ks ls b inn s k (v + 1) e st
      → PairRowed s (right_value ls b inn s k st v) (left_value ls b inn s k st v) (v - 1) (left_of b v) st after
      → Pairs ks ls b inn s k v e after
  pairs-turn v after below h kind W R lv mk t P =
      pair_turn s k lv inn mk t ks ls b e P st v (omega (arith, size_of t ks P.kinds)) kind
      (W lv mk t P) below after R

  pub pairs-down : (lo hi : ℕ) → ((p : ℕ) → lo ≤ p → p < hi → get_or ks p 0 ≡ 0) → Pairs ks ls b inn s k hi e st
      → Pairs ks ls b inn s k lo e st
  pairs-down lo hi leaves W lv mk t P =
      pairs-lower s t (state_map (tree_automaton s k lv inn mk) t) lo hi e st
      (λ p g h. kind-of t ks p P.kinds ∙ leaves p g h) (W lv mk t P)

  pub pairs-all : Pairs ks ls b inn s k 0 e st → Maps ks ls b inn s k 0 e st
  pairs-all W lv mk t P = record {
    maps = λ u q l h m. (W lv mk t P).maps u q h (λ n. omega arith) m;
    kept = (W lv mk t P).kept;
  }

-- ---- what the writers need
module _ (ks ls b inn : List ℕ) (s k : ℕ) (e : List ℕ) (args : MapArgs ks ls b inn s k e) where
  pub as-labelled : length ks ≡ length ls
  as-labelled =
      size_of args.tree ks args.prepared.kinds
      ∙ count s k args.leaves inn [] args.tree ks ls b e args.prepared

  pub map-some : 0 < length ks
  map-some = omega (arith, size-pos args.tree, size_of args.tree ks args.prepared.kinds)

  pub root-args : SameArgs (length e) s (length ks - 1)
  root-args = record {
    room = omega (arith, stride (s + 1) (length ks - 1) (length ls) (omega (arith, map-some, as-labelled)), args.room);
    few = omega (arith, args.rules.few);
  }

  pub pair-args : (st : List ℕ) (v : ℕ) → length st ≡ length e → v < length ks → (get_or ks v 0 ≡ 0 → ⊥)
      → Pairs ks ls b inn s k (v + 1) e st → PairArgs ls b inn s k st v
  pair-args st v same h kind W =
      let t : Tree = args.tree in
      let lv : List ℕ = args.leaves in
      let P : Prepared s k lv inn [] t ks ls b e = args.prepared in
      let z : size t ≡ length ls = count s k lv inn [] t ks ls b e P in
      let l : v < size t = omega (arith, as-labelled) in
      let w : PairsWritten s t (state_map (tree_automaton s k lv inn []) t) (v + 1) e st = W lv [] t P in
      record {
        few = args.rules.few;
        labels = args.rules.labels;
        below = args.below;
        inner_count = args.rules.inner_count;
        inner_below = args.rules.inner_below;
        link_room = args.link_room;
        room = omega (arith, args.room);
        pos = pos s k lv inn [] t ks ls b e P st v l kind w;
        inside = omega (arith, as-labelled);
        right_in = right_in s k lv inn [] t ks ls b e P st v l kind w;
        right_some = right_some s k lv inn [] t ks ls b e P st v l kind w;
        jump_above = rw (P.jumps v l) (jump_above t v l);
        jump_inside = rw (P.jumps v l) (omega (arith, jump_in t v l));
        state_below = λ u m. rw (state_is s k lv inn [] t ks ls b e P st v l kind w u (omega arith))
            (rules-below s k lv inn [] args.rules (sub t u));
        map_below = λ q m. rw (maps-from s k lv inn [] t ks ls b e P st v l kind w v q (omega arith) l m)
            (state_map-below (tree_automaton s k lv inn []) t (λ x a y. args.rules.inner_below _) v q m);
      }

  -- and listing the inner nodes of a block
  pub list-args : (from to m : ℕ) → from ≤ to → to ≤ length ks → to ≤ from + m → ListArgs ks from to m
  list-args from to m order inside fits = record {
    order = order;
    inside = inside;
    most = args.most;
    fits = fits;
    kinds = λ j l.
        let t : Tree = args.tree in
        let e : get_or (kinds_of t) j 0 ≡ get_or ks j 0 = kind-of t ks j args.prepared.kinds in
        let z : length ks ≡ size t = size_of t ks args.prepared.kinds in
        elim (ℕ_discrete (get_or ks j 0) 0) [
          | yes y ↦ omega arith
          | no y ↦ omega (arith, e, inner-kind t j (omega arith) (λ x. y (sym e ∙ x)))
        ];
  }

-- ---- a listed inner node of a block: the node that follows the first n - 1 listed ones

module _ (ks ls b inn : List ℕ) (s k : ℕ) (first st : List ℕ) (start e : ℕ) (l : List ℕ) (c n : ℕ)
    (L : Listed ks start e c l) (some : 0 < n) (h : n ≤ c) (inside : e ≤ length ks)
    (all : Pairs ks ls b inn s k (from start l n) first st) where
  after-last : Pairs ks ls b inn s k (get_or l (n - 1) 0 + 1) first st
  after-last =
      let z : n ≡ n - 1 + 1 = omega arith in
      subst (λ (x : ℕ). Pairs ks ls b inn s k x first st) (ap (from start l) z ∙ from_next start l (n - 1)) all

  pub listed-pair-args : MapArgs ks ls b inn s k first → length st ≡ length first
      → PairArgs ls b inn s k st (get_or l (n - 1) 0)
  listed-pair-args args same =
      pair-args ks ls b inn s k first args st (get_or l (n - 1) 0) same (omega (arith, L.ends (n - 1) (omega arith)))
      (L.inner (n - 1) (omega arith)) after-last

  pub listed-pairs : ((j : ℕ) → get_or inn j 0 < s) → (after : List ℕ)
      → PairRowed s (right_value ls b inn s k st (get_or l (n - 1) 0)) (left_value ls b inn s k st (get_or l (n - 1) 0))
      (get_or l (n - 1) 0 - 1) (left_of b (get_or l (n - 1) 0)) st after
      → Pairs ks ls b inn s k (from start l (n - 1)) first after
  listed-pairs below after R =
      pairs-down ks ls b inn s k first after (from start l (n - 1)) (get_or l (n - 1) 0)
      (λ p. L.gaps (n - 1) p (omega arith))
      (pairs-turn ks ls b inn s k first st (get_or l (n - 1) 0) after below
      (omega (arith, L.ends (n - 1) (omega arith))) (L.inner (n - 1) (omega arith)) after-last R)
