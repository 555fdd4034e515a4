-- From the rows of costs to the list that is shown.
--     least_is                  the root's least cost is `fewest`
--     state_is, ready           the state that the root is told is that of the tree that is shown, and where the pass
--                               down begins
--     list-args, list-shown     what the list needs, and what it is
--     written-short, written-long   the list, and none where it would be longer than 64
use Prim.Native.Nat.{ℕ, zero, suc, ◌+◌, ◌-◌, ◌*◌, ◌≤◌, ◌<◌}
use mathlib.Core.Path.{◌≡◌, refl, sym, ap, ap₂, ◌∙◌, subst}
use mathlib.Core.Bool.{Bool, true, false, cond, ◌||◌}
use mathlib.Core.List.{List, [], ◌∷◌, ◌++◌}
use native.Mathlib.Decide.{ℕ_discrete}
use native.Mathlib.Omega.{arith}
use lib.Dec.{eqb, ltb, leb}
use lib.ListN.{length, get_or, set, drop}
use borrow.Author.Tests.{ltb-true, le-leb, lt-leb}
use Rattle.list_laws.proofs.BoolLaws.{and_left, and_right}
use Rattle.list_laws.proofs.RowLaws.{stride}
use Rattle.trees.specs.Tree.{Tree, kinds_of, labels_of, size, label_at}
use Rattle.trees.proofs.NodeLaws.{sub-root, size-pos, length-labels, up}
use Rattle.trees.proofs.PostorderLaws.{postorder-tree, size_of}
use Rattle.questions.specs.ready.StaysInside.{StaysInside}
use Rattle.fewest.specs.Least.{place_of_least}
use Rattle.fewest.specs.Relabelling.{may_take, permitted, changed_nodes, changed_labels}
use Rattle.fewest.specs.Fewest.{clearing_cost, fewest, cleared_tree}
use Rattle.fewest.specs.inner.Cost.{Problem, cost, witness}
use Rattle.fewest.proofs.costs.LeastLaws.{least-ext, Found, least-found}
use Rattle.fewest.proofs.costs.CostLaws.{cost-attained}
use Rattle.fewest.proofs.costs.ListLaws.{changes-paired}
use Rattle.fewest.proofs.costs.Theorems.{shown-clears}
use Rattle.fewest.specs.inner.Problems.{cost_at}
use Rattle.fewest.specs.inner.passes.Cells.{size_cell}
use Rattle.allowed.specs.inner.Inputs.{PassArgs}
use Rattle.fewest.specs.inner.passes.Up.{CostsUp, Up}
use Rattle.fewest.specs.inner.down.Search.{First}
use Rattle.fewest.specs.inner.down.Root.{root_cost}
use Rattle.fewest.specs.inner.down.Down.{Told, Down, DownGiven}
use Rattle.fewest.proofs.down.AnyLaws.{first-place}
use Rattle.fewest.proofs.down.ColumnLaws.{col-same, col-other, col-cost, col-past}
use Rattle.fewest.proofs.down.WitnessLaws.{root-state, witness-size}
use Rattle.fewest.specs.inner.list.Shown.{shown_nodes, shown_labels, over}
use Rattle.fewest.specs.inner.list.Lists.{nodes_to, labels_to, Listed, ListArgs}
use Rattle.fewest.specs.inner.list.Written.{marked_problem, root_least, RootTold, ShowGiven, ListShown, ShowDone}
use Rattle.fewest.specs.inner.list.Written.{FewestShown}
use Rattle.fewest.proofs.list.ListLoop.{nodes-whole, labels-whole}

-- the costs of the root are those of the whole tree
cost-root : (P : Problem) (t : Tree) (v j : ℕ) → v + 1 ≡ size t → cost_at P t v j ≡ cost P t 0 j
unfolding cost_at
cost-root P t v j e =
    let z : v + 1 - size t ≡ 0 = omega arith in
    ap (λ (u : Tree). cost P u (v + 1 - size u) j) (sub-root t v e) ∙ ap (λ (x : ℕ). cost P t x j) z

-- permitted labels are below k
permitted-below : (k : ℕ) (may : ℕ → ℕ → Bool) (v : ℕ) (ls bs : List ℕ) → permitted k may v ls bs ≡ true → length ls ≡ length bs
    → (i : ℕ) → i < length bs → get_or bs i 0 < k
unfolding permitted
permitted-below k may v [] [] h e i l = absurd (omega arith)
permitted-below k may v [] (b ∷ bs) h e i l = absurd (omega arith)
permitted-below k may v (a ∷ ls) [] h e i l = absurd (omega arith)
permitted-below k may v (a ∷ ls) (b ∷ bs) h e zero l =
    ltb-true b k (and_left (ltb b k) (eqb a b || may v b) (and_left (may_take k may v a b) (permitted k may (v + 1) ls bs) h))
permitted-below k may v (a ∷ ls) (b ∷ bs) h e (suc i) l =
    permitted-below k may (v + 1) ls bs (and_right (may_take k may v a b) (permitted k may (v + 1) ls bs) h) (omega arith) i (omega arith)

module _ (ks ls lv inn mk may : List ℕ) (s k mark : ℕ) (G : PassArgs ks ls lv inn s k) (W first : List ℕ)
    (room : length ks * (s + 1) ≤ length W) (all : Up ks ls lv inn may s k (length ks) first W)
    (t : Tree) (x : kinds_of t ≡ ks) (y : labels_of t ≡ ls) where
  abbrev P : Problem
  P = marked_problem lv inn mk may s k mark

  abbrev root : ℕ
  root = length ks - 1

  n_is : length ks ≡ size t
  n_is = size_of t ks x

  U : CostsUp P t s (length ks) first W
  U = all (λ q. eqb (get_or mk q 0) mark) t x y

  root-at : root + 1 ≡ size t
  root-at = omega (arith, n_is, size-pos t)

  stays : StaysInside P.automaton
  stays = record { init = G.leaf_below; next = λ p a q. G.inner_below ((p * k + a) * s + q) }

  root-cost : (j : ℕ) → j < s → root_cost W mk (root * (s + 1) + 1) mark j ≡ clearing_cost P t j
  unfolding root_cost clearing_cost
  root-cost j h = ap (λ (c : ℕ). cond (eqb (get_or mk j 0) mark) c 65536)
      (U.costs root j (omega (arith, n_is, size-pos t)) h ∙ cost-root P t root j root-at)

  pub least_is : root_least ks mk W s mark ≡ fewest P t
  unfolding fewest
  least_is = least-ext 65536 s _ _ root-cost

  module _ (m : ℕ) (em : m ≡ root_least ks mk W s mark) (few : m ≤ 64) where
    m-is : fewest P t ≡ m
    m-is = sym (em ∙ least_is)

    below : fewest P t < 65536
    below = omega (arith, m-is)

    abbrev g₀ : ℕ
    g₀ = place_of_least 65536 s (clearing_cost P t)

    low : cost P t 0 g₀ < 65536
    unfolding fewest clearing_cost
    low = let F : Found 65536 s (clearing_cost P t) g₀ = least-found 65536 s (clearing_cost P t) below in
        go (P.automaton.accepting g₀) (cost P t 0 g₀) (omega (arith, F.is, below))
      where
        go : (c : Bool) (z : ℕ) → cond c z 65536 < 65536 → z < 65536
        go true z h = h
        go false z h = absurd (omega arith)

    module _ (g : ℕ) (F : First s (λ j. eqb (root_cost W mk (root * (s + 1) + 1) mark j) m) g) where
      pub state_is : g ≡ g₀
      unfolding fewest
      state_is = first-place 65536 s (clearing_cost P t) m g (λ j. eqb (root_cost W mk (root * (s + 1) + 1) mark j) m) (omega arith) m-is
          (λ j h. ap (λ (c : ℕ). eqb c m) (root-cost j h)) F

      pub state-low : cost P t 0 g < 65536
      state-low = omega (arith, low, ap (cost P t 0) state_is)

      pub ready : Told P t g s (length ks) first (set W (root * (s + 1)) g)
      ready = record {
        costs = λ v j l h. col-cost s W root g v j h ∙ U.costs v j (omega (arith, n_is)) h;
        done = λ v l h. absurd (omega (arith, n_is));
        told = λ v l h. elim (ℕ_discrete v root) [
          | yes q ↦ rw q (col-same s W root g (omega (arith, stride (s + 1) root (length ks) (omega (arith, root-at, n_is))))
              ∙ sym (root-state P t g state-low root root-at))
          | no q ↦ absurd (let r : v + 1 < size t = omega (arith, root-at, n_is) in omega (arith, h r, (up t v r).below, n_is))
        ];
        plain = λ v l r h. col-other s W root g v (omega (arith, root-at)) ∙ U.sizes v l;
        kept = λ j l. (let e : size t * (s + 1) ≡ length ks * (s + 1) = ap (λ (z : ℕ). z * (s + 1)) (sym n_is) in
            col-past s W root g j (omega (arith, stride (s + 1) root (length ks) (omega (arith, root-at, n_is))))
            ∙ U.kept j (omega arith));
      }

      -- ---- after the pass down

      module _ (W' : List ℕ) (T : Told P t g s 0 first W') (room' : length ks * (s + 1) ≤ length W') where
        abbrev u : Tree
        u = cleared_tree P t

        shown-size : size (cleared_tree P t) ≡ size t
        unfolding cleared_tree
        shown-size = witness-size P t 0 (place_of_least 65536 s (clearing_cost P t))

        cell : (v : ℕ) → v < size t → size_cell s W' v ≡ label_at (cleared_tree P t) v
        unfolding cleared_tree
        cell v h = T.done v (omega arith) h ∙ ap (λ (z : ℕ). label_at (witness P t 0 z) v) state_is

        ls-length : length ls ≡ size t
        ls-length = ap length (sym y) ∙ length-labels t

        nodes_are : nodes_to (λ v. get_or ls v 0) (size_cell s W') (length ls) ≡ changed_nodes 0 (labels_of t) (labels_of (cleared_tree P t))
        nodes_are =
            nodes-whole (λ v. get_or ls v 0) (size_cell s W') (length ls) ls (labels_of (cleared_tree P t)) refl
            (length-labels (cleared_tree P t) ∙ shown-size ∙ sym ls-length) (λ j h. refl)
            (λ j h. sym (cell j (omega (arith, ls-length))))
            ∙ ap (λ (l : List ℕ). changed_nodes 0 l (labels_of (cleared_tree P t))) (sym y)

        labels_are : labels_to (λ v. get_or ls v 0) (size_cell s W') (length ls) ≡ changed_labels (labels_of t) (labels_of (cleared_tree P t))
        labels_are =
            labels-whole (λ v. get_or ls v 0) (size_cell s W') (length ls) ls (labels_of (cleared_tree P t)) refl
            (length-labels (cleared_tree P t) ∙ shown-size ∙ sym ls-length) (λ j h. refl)
            (λ j h. sym (cell j (omega (arith, ls-length))))
            ∙ ap (λ (l : List ℕ). changed_labels l (labels_of (cleared_tree P t))) (sym y)

        number : length (changed_nodes 0 (labels_of t) (labels_of (cleared_tree P t))) ≡ fewest P t
        number = (shown-clears P stays t below).nodes_number

        label_low : (v : ℕ) → v < size t → label_at (cleared_tree P t) v < k
        unfolding cleared_tree
        label_low v h =
            permitted-below k P.may 0 (labels_of t) (labels_of (cleared_tree P t)) (cost-attained P t 0 g₀ low).allowed
            (length-labels t ∙ sym shown-size ∙ sym (length-labels (cleared_tree P t))) v
            (omega (arith, length-labels (cleared_tree P t), shown-size))

        pub list-args : (nodes out : ℕ) → 64 ≤ nodes → 64 ≤ out → ListArgs ls W' s nodes out
        list-args nodes out hn ho = record {
          few = G.few;
          most = omega (arith, G.most, G.count);
          room = (let e : length ls * (s + 1) ≡ length ks * (s + 1) = ap (λ (z : ℕ). z * (s + 1)) G.count in omega arith);
          labels_low = λ v h. omega (arith, cell v (omega (arith, ls-length)), label_low v (omega (arith, ls-length)), G.labels);
          nodes_room = omega (arith, ap length nodes_are, number, m-is);
          labels_room = omega (arith, ap length nodes_are, number, m-is);
        }

        pub list-shown : (nodes out : List ℕ) (r : ℕ) (nodes' out' : List ℕ)
            → Listed (λ v. get_or ls v 0) (size_cell s W') (length ls) nodes out r nodes' out'
            → ListShown P t s first nodes out r W' nodes' out'
        list-shown nodes out r nodes' out' L =
            let c : r ≡ length (changed_nodes 0 (labels_of t) (labels_of (cleared_tree P t))) = L.count ∙ ap length nodes_are in
            let d : r ≡ length (changed_labels (labels_of t) (labels_of (cleared_tree P t))) =
            c ∙ sym (changes-paired 0 (labels_of t) (labels_of (cleared_tree P t))) in
            record {
              count = c;
              nodes_are = L.nodes_are ∙ ap₂ (λ (z : List ℕ) (i : ℕ). z ++ drop i nodes) nodes_are c;
              labels_are = L.labels_are ∙ ap₂ (λ (z : List ℕ) (i : ℕ). z ++ drop i out) labels_are d;
              kept = T.kept;
            }

    -- the list is shown
    pub written-short : (nodes out : List ℕ) (r : ℕ) (W' nodes' out' : List ℕ) → ListShown P t s first nodes out r W' nodes' out'
        → FewestShown P t s first nodes out r W' nodes' out' m
    unfolding shown_nodes shown_labels
    written-short nodes out r W' nodes' out' L =
        let c : leb (fewest P t) 64 ≡ true = le-leb (fewest P t) 64 (omega (arith, m-is)) in
        record {
          least_is = sym m-is;
          count = L.count ∙ sym (ap (λ (b : Bool). length (cond b (changed_nodes 0 (labels_of t) (labels_of (cleared_tree P t))) [])) c);
          nodes_are = L.nodes_are
              ∙ sym (ap (λ (b : Bool). over (cond b (changed_nodes 0 (labels_of t) (labels_of (cleared_tree P t))) []) nodes) c);
          labels_are = L.labels_are
              ∙ sym (ap (λ (b : Bool). over (cond b (changed_labels (labels_of t) (labels_of (cleared_tree P t))) []) out) c);
          kept = L.kept;
        }

  -- it would be longer than 64
  pub written-long : (m : ℕ) → m ≡ root_least ks mk W s mark → 64 < m → (nodes out : List ℕ) → FewestShown P t s first nodes out 0 W nodes out m
  unfolding shown_nodes shown_labels
  written-long m em h nodes out =
      let c : leb (fewest P t) 64 ≡ false = lt-leb (fewest P t) 64 (omega (arith, em, least_is)) in
      record {
        least_is = em ∙ least_is;
        count = sym (ap (λ (b : Bool). length (cond b (changed_nodes 0 (labels_of t) (labels_of (cleared_tree P t))) [])) c);
        nodes_are = sym (ap (λ (b : Bool). over (cond b (changed_nodes 0 (labels_of t) (labels_of (cleared_tree P t))) []) nodes) c);
        labels_are = sym (ap (λ (b : Bool). over (cond b (changed_labels (labels_of t) (labels_of (cleared_tree P t))) []) out) c);
        kept = λ j l. (let e : size t * (s + 1) ≡ length ks * (s + 1) = ap (λ (z : ℕ). z * (s + 1)) (sym n_is) in U.kept j (omega arith));
      }

-- ---- the same of what the code has in hand

module _ (ks ls lv inn mk may : List ℕ) (s k mark m : ℕ) (W : List ℕ) (a b : ℕ) (S : ShowGiven ks ls lv inn mk may s k mark m W a b)
    (W1 : List ℕ) (R : RootTold W mk s (length ks - 1) mark m W1) (e1 : length W1 ≡ length W) where
  root-ready : (first : List ℕ) (t : Tree) (x : kinds_of t ≡ ks) (y : labels_of t ≡ ls) → Up ks ls lv inn may s k (length ks) first W
      → Told (marked_problem lv inn mk may s k mark) t R.target s (length ks) first W1
  root-ready first t x y all =
      subst (Told (marked_problem lv inn mk may s k mark) t R.target s (length ks) first) (sym R.is)
      (ready ks ls lv inn mk may s k mark S.given.up.runs W first S.given.up.room all t x y m S.least S.few R.target R.first)

  root-low : (t : Tree) (x : kinds_of t ≡ ks) (y : labels_of t ≡ ls) → cost (marked_problem lv inn mk may s k mark) t 0 R.target < 65536
  root-low t x y =
      state-low ks ls lv inn mk may s k mark S.given.up.runs W S.first S.given.up.room S.up t x y m S.least S.few
      R.target R.first

  pub down-given : DownGiven ks ls lv inn may s k W1
  down-given = record {
    runs = S.given.up.runs;
    stocks = S.given.up.stocks;
    room = omega (arith, S.given.up.room);
    acc = λ q. eqb (get_or mk q 0) mark;
    target = R.target;
    first = S.first;
    low = root-low;
    ready = λ t x y. root-ready S.first t x y S.up;
  }

  module _ (W2 : List ℕ) (D : Down ks ls lv inn may s k 0 W1 W2) (e2 : length W2 ≡ length W1) where
    told : (first : List ℕ) (t : Tree) (x : kinds_of t ≡ ks) (y : labels_of t ≡ ls) → Up ks ls lv inn may s k (length ks) first W
        → Told (marked_problem lv inn mk may s k mark) t R.target s 0 first W2
    told first t x y all = D (λ q. eqb (get_or mk q 0) mark) t R.target first x y (root-low t x y) (root-ready first t x y all)

    pub show-list-args : ListArgs ls W2 s a b
    show-list-args =
        let T : (t : Tree) × (kinds_of t ≡ ks) × (labels_of t ≡ ls) =
        postorder-tree ks ls S.given.up.runs.count S.given.up.runs.postorder in
        list-args ks ls lv inn mk may s k mark S.given.up.runs W S.first S.given.up.room S.up T.0 T.1 T.2 m
        S.least S.few R.target R.first W2 (told S.first T.0 T.1 T.2 S.up) (omega (arith, S.given.up.room))
        a b S.nodes_room S.labels_room

    -- no more than 64 are listed
    pub show-few : length (nodes_to (λ v. get_or ls v 0) (size_cell s W2) (length ls)) ≤ 64
    show-few =
        let T : (t : Tree) × (kinds_of t ≡ ks) × (labels_of t ≡ ls) =
        postorder-tree ks ls S.given.up.runs.count S.given.up.runs.postorder in
        (list-args ks ls lv inn mk may s k mark S.given.up.runs W S.first S.given.up.room S.up T.0 T.1 T.2 m
        S.least S.few R.target R.first W2 (told S.first T.0 T.1 T.2 S.up) (omega (arith, S.given.up.room))
        64 64 (omega arith) (omega arith)).nodes_room

    pub show-done : (nodes out : List ℕ) (r : ℕ) (nodes' out' : List ℕ)
        → Listed (λ v. get_or ls v 0) (size_cell s W2) (length ls) nodes out r nodes' out'
        → ShowDone ks ls lv inn mk may s k mark W nodes out r W2 nodes' out'
    show-done nodes out r nodes' out' L first t x y all =
        list-shown ks ls lv inn mk may s k mark S.given.up.runs W first S.given.up.room all t x y m
        S.least S.few R.target R.first W2 (told first t x y all) (omega (arith, S.given.up.room)) nodes out r nodes' out' L
