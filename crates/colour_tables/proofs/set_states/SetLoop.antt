-- One node of the pass for sets of states, and what its functions need.
--     sets-start, sets-next                before the root, and one node more, for every tree and rule table given
--     sets-above, sets_down, sets-place    what the functions of one node need
use Prim.Native.Nat.{ℕ, ◌+◌, ◌*◌, ◌^◌, ◌≤◌, ◌<◌}
use mathlib.Core.Path.{◌≡◌, sym, ap, ◌∙◌, subst}
use mathlib.Core.List.{List}
use native.Mathlib.Omega.{arith}
use lib.ListN.{length, get_or}
use lib.Pow.{pow_mono}
use Rattle.list_laws.proofs.RowLaws.{stride}
use Rattle.trees.specs.Tree.{Tree, kinds_of, size}
use Rattle.trees.specs.Automaton.{state}
use Rattle.trees.specs.Numbering.{sub, parent}
use Rattle.trees.proofs.NodeLaws.{Up, up, length-labels}
use Rattle.trees.proofs.MapLaws.{right-child-size}
use Rattle.formats.specs.Rules.{tree_automaton}
use Rattle.tables.specs.node_tables.Cells.{parent_cell, size_cell}
use Rattle.tables.specs.StateCells.{state_cell}
use Rattle.tables.specs.inner.Maps.{Prepared}
use Rattle.tables.proofs.StateLoop.{rules-below}
use Rattle.colours.specs.StateSets.{set_step}
use Rattle.colours.proofs.SetLaws.{set_step-below}
use Rattle.colour_tables.specs.states.inner.Rows.{RowOf, above_cell, AboveArgs, TurnArgs, Recoloured}
use Rattle.colour_tables.proofs.states.CopyLoop.{first-elsewhere, copies-start, copies-next, above-is, above_in, place_in}
use Rattle.colour_tables.proofs.states.CopyLoop.{above-below, successors-is}
use Rattle.colour_tables.specs.set_states.StatesAbove.{UpArgs}
use Rattle.colour_tables.specs.set_states.Down.{down_set, DownArgs}
use Rattle.colour_tables.specs.set_states.SetPass.{SetsFrom, SetArgs}
use Rattle.colour_tables.proofs.set_states.StepLaws.{down_is}

-- the nodes from v on are done, for every tree and rule table that was given
abbrev pub Sets : List ℕ → List ℕ → ℕ → ℕ → ℕ → ℕ → List ℕ → List ℕ → ℕ → List ℕ → List ℕ → Type 0
Sets ls inn s k count base e₀ m₀ v b m =
    (lv mk : List ℕ) (t : Tree) → Prepared s k lv inn mk t (kinds_of t) ls m₀ e₀
    → SetsFrom s k lv inn mk count base t v e₀ m₀ b m

module _ (ls inn : List ℕ) (s k count base : ℕ) (e₀ m₀ : List ℕ) (A : SetArgs ls inn s k count base m₀ e₀) where
  keeps : (lv mk : List ℕ) (t : Tree) (v q : ℕ) → q < count → set_step (tree_automaton s k lv inn mk) t v q < count
  keeps lv mk t v q h =
      let i : q < 2 ^ s = omega (arith, A.count_is) in
      let l : set_step (tree_automaton s k lv inn mk) t v q < 2 ^ s = set_step-below (tree_automaton s k lv inn mk) t v q
      i in
      omega (arith, A.count_is)

  pub count-few : (0 < count) × (count ≤ 16)
  count-few =
      let low : 2 ^ 0 ≤ 2 ^ s = pow_mono {i = 0} {j = s} (omega arith) in
      let top : 2 ^ s ≤ 2 ^ 4 = pow_mono {i = s} {j = 4} A.few in
      (omega (arith, A.count_is), omega (arith, A.count_is))

  nodes : (lv mk : List ℕ) (t : Tree) → Prepared s k lv inn mk t (kinds_of t) ls m₀ e₀ → size t ≡ length ls
  nodes lv mk t P = sym (length-labels t) ∙ ap length P.labels

  pub sets-start : (n : ℕ) → n ≡ length ls → Sets ls inn s k count base e₀ m₀ n e₀ m₀
  sets-start n q lv mk t P =
      rw (q ∙ sym (nodes lv mk t P))
      (copies-start count (set_step (tree_automaton s k lv inn mk) t) t base (keeps lv mk t) e₀ m₀)

  -- after the nodes from w on comes node v
  module _ (n w v : ℕ) (b m : List ℕ) (q : n ≡ length ls) (e : w ≡ v + 1) (h : v < n)
      (lb : length b ≡ length e₀) (lm : length m ≡ length m₀) (W : Sets ls inn s k count base e₀ m₀ w b m) where
    module _ (lv mk : List ℕ) (t : Tree) (P : Prepared s k lv inn mk t (kinds_of t) ls m₀ e₀) where
      from : SetsFrom s k lv inn mk count base t (v + 1) e₀ m₀ b m
      from = subst (λ (x : ℕ). SetsFrom s k lv inn mk count base t x e₀ m₀ b m) e (W lv mk t P)

      is : size t ≡ n
      is = nodes lv mk t P ∙ sym q

      parents : (u : ℕ) → u + 1 < size t → parent_cell m₀ u ≡ parent t u
      parents u l = P.parents u (omega arith)

      parent_is : v + 1 < size t → parent_cell m v ≡ parent t v
      parent_is l = from.kept (v * 4) (first-elsewhere (size t) count (v * 4) (omega arith)) ∙ parents v l

      size_is : v < size t → size_cell m v ≡ size (sub t v)
      size_is l = from.kept (v * 4 + 3) (first-elsewhere (size t) count (v * 4 + 3) (omega arith)) ∙ P.sizes v l

      state_is : (u : ℕ) → u < size t → state_cell s b u ≡ state (tree_automaton s k lv inn mk) (sub t u)
      state_is u l =
          from.front (u * (s + 1))
          (omega (arith, stride (s + 1) u (length ls) (omega (arith, nodes lv mk t P)), A.base_is))
          ∙ P.states u l

    abbrev lv₀ : List ℕ
    lv₀ = A.leaves

    abbrev mk₀ : List ℕ
    mk₀ = A.marks

    abbrev t₀ : Tree
    t₀ = A.tree

    is₀ : size t₀ ≡ n
    is₀ = is lv₀ mk₀ t₀ A.given

    room : base + size t₀ * count ≤ length b
    room = rw (nodes lv₀ mk₀ t₀ A.given, lb) A.byte_room

    space : count * (size t₀ * 4) ≤ length m
    space = rw (nodes lv₀ mk₀ t₀ A.given, lm) A.number_room

    pub sets-above : AboveArgs b m n base count v
    sets-above =
        rw (← is₀) (above_in count (set_step (tree_automaton s k lv₀ inn mk₀) t₀) t₀ base (keeps lv₀ mk₀ t₀) e₀ m₀
        (parents lv₀ mk₀ t₀ A.given) v b m (from lv₀ mk₀ t₀ A.given) (omega (arith, is₀)) count-few.0
        count-few.1
        (omega (arith, is₀, q, A.most)) room space)

    -- below the root
    above : (v + 1 ≡ n → ⊥) → UpArgs ls m inn b s k v
    above c =
        let l : v + 1 < size t₀ = omega (arith, is₀) in
        let U : Up t₀ v (parent t₀ v) = up t₀ v l in
        let p : parent_cell m v ≡ parent t₀ v = parent_is lv₀ mk₀ t₀ A.given l in
        let z : size_cell m v ≡ size (sub t₀ v) = size_is lv₀ mk₀ t₀ A.given (omega arith) in
        record {
          few = A.few;
          labels = A.rules.labels;
          most = A.most;
          place = omega (arith, space, is₀, stride (size t₀ * 4) 0 count count-few.0);
          above = omega (arith, U.above);
          inside = omega (arith, U.below, is₀, q);
          label = A.below _;
          size_in = λ i. omega (arith, right-child-size t₀ v l (i ∙ p));
          room = rw p (omega (
            arith,
            room,
            A.base_is,
            stride (s + 1) (parent t₀ v) (length ls)
                (omega (arith, U.below, is₀, q)),
          ));
          state_below = λ u i. rw (state_is lv₀ mk₀ t₀ A.given u (omega (arith, U.below)))
              (rules-below s k lv₀ inn mk₀ A.rules (sub t₀ u));
          inner_room = omega (arith, A.rules.inner_count);
        }

    module _ (row : List ℕ) (R : RowOf count (above_cell b m n base count v) row) where
      pub sets_down : DownArgs row ls m inn b n s k count v
      sets_down = record {
        long = R.long;
        few = count-few.1;
        small = omega (arith, q, A.most);
        inner_below = A.rules.inner_below;
        above = above;
      }

      module _ (successors : List ℕ) (L : RowOf count (λ c. down_set ls m inn b n s k v (get_or row c 0)) successors) where
        module _ (lv mk : List ℕ) (t : Tree) (P : Prepared s k lv inn mk t (kinds_of t) ls m₀ e₀) where
          abbrev step : ℕ → ℕ → ℕ
          step = set_step (tree_automaton s k lv inn mk) t

          here : v < size t
          here = omega (arith, is lv mk t P)

          row_of : RowOf count (above_cell b m (size t) base count v) row
          row_of = rw (is lv mk t P) R

          pub successors-here : (c : ℕ) → c < count → get_or successors c 0 ≡ step v (get_or row c 0)
          successors-here c i =
              L.cells c i
              ∙ ap (λ (x : ℕ). down_set ls m inn b x s k v (get_or row c 0)) (sym (is lv mk t P))
              ∙ down_is s k lv inn mk t ls m b v P.labels (parent_is lv mk t P) (size_is lv mk t P)
              (state_is lv mk t P) here
              (get_or row c 0)

        -- a set led to is one of the sets
        successors-below : (c : ℕ) → c < count → get_or successors c 0 < count
        successors-below c i =
            rw (successors-here lv₀ mk₀ t₀ A.given c i) (keeps lv₀ mk₀ t₀ v (get_or row c 0)
            (above-below count (set_step (tree_automaton s k lv₀ inn mk₀) t₀) t₀ base (keeps lv₀ mk₀ t₀) e₀ m₀
            (parents lv₀ mk₀ t₀ A.given) v b m (from lv₀ mk₀ t₀ A.given) (omega (arith, is₀)) row
            (row_of lv₀ mk₀ t₀ A.given) c i))

        pub sets-place : TurnArgs successors b m n base count v
        sets-place =
            rw (← is₀) (place_in count (set_step (tree_automaton s k lv₀ inn mk₀) t₀) t₀ base (keeps lv₀ mk₀ t₀) e₀ m₀
            (parents lv₀ mk₀ t₀ A.given) v b m (from lv₀ mk₀ t₀ A.given) (omega (arith, is₀)) successors L.long
            successors-below count-few.1
            (omega (arith, is₀, q, A.most)) room space)

        pub sets-next : (b' m' : List ℕ) → Recoloured successors n base count v b m b' m'
            → Sets ls inn s k count base e₀ m₀ v b' m'
        sets-next b' m' T lv mk t P =
            let f : ℕ → ℕ → ℕ = set_step (tree_automaton s k lv inn mk) t in
            let d : size t ≡ n = is lv mk t P in
            let T' : Recoloured successors (size t) base count v b m b' m' = rw d T in
            copies-next count f t base (keeps lv mk t) e₀ m₀ (parents lv mk t P) v b m (from lv mk t P)
            (here lv mk t P) (rw (d ∙ sym is₀) space) successors b' m'
            T'
            (successors-is count f t base (keeps lv mk t) v successors L.long count-few.1
            (λ c i. successors-here lv mk t P c i
            ∙ ap (f v) (above-is count f t base (keeps lv mk t) e₀ m₀ (parents lv mk t P) v b m (from lv mk t P)
            (here lv mk t P) row (row_of lv mk t P) c i)))
