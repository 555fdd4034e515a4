-- The laws of the rows of Load's tables, and of the tables' cells. Tables of rows in general: crate list_laws, RowLaws.
--     length-node_row ..         the widths and cells of the rows that Load writes
--     node_row-cells, map_row-cells  such a row, from its cells by name
--     node_table_of-parent ..       what a buffer that begins with one of Load's tables has at a node
use Prim.Native.Nat.{ℕ, zero, suc, ◌+◌, ◌-◌, ◌*◌, ◌≤◌, ◌<◌}
use mathlib.Core.Path.{◌≡◌, refl, sym, ap, ◌∙◌}
use mathlib.Core.List.{List, [], ◌∷◌, ◌++◌}
use native.Mathlib.Numerals.{one-add}
use native.Mathlib.Omega.{arith}
use lib.ListN.{length, get_or, take}
use Rattle.trees.specs.Tree.{Tree, size}
use Rattle.trees.specs.Automaton.{Automaton, state, WordAutomaton}
use Rattle.trees.specs.Numbering.{sub, parent, depth}
use Rattle.trees.specs.Jumps.{jump}
use Rattle.trees.specs.Tables.{node_row, state_map, state_row, branch_state, branch_map, branch_row}
use Rattle.list_laws.specs.Rows.{tabulate, rows}
use Rattle.list_laws.proofs.RowLaws.{length-tabulate, get_d_tabulate}
use Rattle.list_laws.proofs.RowLaws.{cells-of-rows}
use Rattle.trees.specs.Tables.{node_table_of, state_table_of, branch_table_of}

-- ---- the rows that Load writes

module _ (t : Tree) (v : ℕ) where
  pub length-node_row : length (node_row t v) ≡ 4
  length-node_row = refl

  pub node_row-parent : get_or (node_row t v) 0 0 ≡ parent t v
  node_row-parent = refl

  pub node_row-jump : get_or (node_row t v) 1 0 ≡ jump t v
  node_row-jump = refl

  pub node_row-depth : get_or (node_row t v) 2 0 ≡ depth t v
  node_row-depth = refl

  pub node_row-size : get_or (node_row t v) 3 0 ≡ size (sub t v)
  node_row-size = refl

-- the entry of a map behind its state
behind : (x n : ℕ) (f : ℕ → ℕ) (q : ℕ) → q < n → get_or (x ∷ tabulate n f) (1 + q) 0 ≡ f q
behind x n f q h = rw (one-add q) (get_d_tabulate n f q h)

length-behind : (x n : ℕ) (f : ℕ → ℕ) → length (x ∷ tabulate n f) ≡ n + 1
length-behind x n f = omega (arith, length-tabulate n f)

module _ (A : Automaton) (t : Tree) (v : ℕ) where
  pub length-state_row : length (state_row A t v) ≡ A.states + 1
  length-state_row = length-behind (state A (sub t v)) A.states (state_map A t v)

  pub state_row-state : get_or (state_row A t v) 0 0 ≡ state A (sub t v)
  state_row-state = refl

  pub state_row-map : (q : ℕ) → q < A.states → get_or (state_row A t v) (1 + q) 0 ≡ state_map A t v q
  state_row-map q h = behind (state A (sub t v)) A.states (state_map A t v) q h

module _ (B : WordAutomaton) (t : Tree) (v : ℕ) where
  pub length-branch_row : length (branch_row B t v) ≡ B.states + 1
  length-branch_row = length-behind (branch_state B t v) B.states (branch_map B t v)

  pub branch_row-state : get_or (branch_row B t v) 0 0 ≡ branch_state B t v
  branch_row-state = refl

  pub branch_row-map : (q : ℕ) → q < B.states → get_or (branch_row B t v) (1 + q) 0 ≡ branch_map B t v q
  branch_row-map q h = behind (branch_state B t v) B.states (branch_map B t v) q h

-- ---- a row from its cells by name

pub node_row-cells : (t : Tree) (v : ℕ) (b : List ℕ) → get_or b (v * 4) 0 ≡ parent t v → get_or b (v * 4 + 1) 0 ≡ jump t v
    → get_or b (v * 4 + 2) 0 ≡ depth t v → get_or b (v * 4 + 3) 0 ≡ size (sub t v)
    → (k : ℕ) → k < 4 → get_or b (v * 4 + k) 0 ≡ get_or (node_row t v) k 0
node_row-cells t v b p j d s zero h = let e : v * 4 + 0 ≡ v * 4 = omega arith in rw e p
node_row-cells t v b p j d s (suc zero) h = j
node_row-cells t v b p j d s (suc (suc zero)) h = d
node_row-cells t v b p j d s (suc (suc (suc zero))) h = s
node_row-cells t v b p j d s (suc (suc (suc (suc k)))) h = absurd (omega arith)

-- a state x and a map f behind it: a row of a rule table or of a branch table
pub map_row-cells : (n x : ℕ) (f : ℕ → ℕ) (v : ℕ) (b : List ℕ) → get_or b (v * (n + 1)) 0 ≡ x
    → ((q : ℕ) → q < n → get_or b (v * (n + 1) + 1 + q) 0 ≡ f q)
    → (k : ℕ) → k < n + 1 → get_or b (v * (n + 1) + k) 0 ≡ get_or (x ∷ tabulate n f) k 0
map_row-cells n x f v b e m zero h = let z : v * (n + 1) + 0 ≡ v * (n + 1) = omega arith in rw z e
map_row-cells n x f v b e m (suc q) h =
    let z : v * (n + 1) + suc q ≡ v * (n + 1) + 1 + q = omega arith in
    let l : q < n = omega arith in
    ap (λ (i : ℕ). get_or b i 0) z ∙ m q l ∙ sym (get_d_tabulate n f q l)

-- ---- what a table has at a node

module _ (t : Tree) (b : List ℕ) (e : take (size t * 4) b ≡ node_table_of t) (v : ℕ) (h : v < size t) where
  link : (k : ℕ) → k < 4 → get_or b (v * 4 + k) 0 ≡ get_or (node_row t v) k 0
  unfolding node_table_of
  link k l = cells-of-rows (size t) 4 (node_row t) (λ u q. length-node_row t u) b e v k h l

  pub node_table_of-parent : get_or b (v * 4) 0 ≡ parent t v
  node_table_of-parent = let z : v * 4 ≡ v * 4 + 0 = omega arith in ap (λ (i : ℕ). get_or b i 0) z ∙ link 0 (omega arith)

  pub node_table_of-jump : get_or b (v * 4 + 1) 0 ≡ jump t v
  node_table_of-jump = link 1 (omega arith)

  pub node_table_of-depth : get_or b (v * 4 + 2) 0 ≡ depth t v
  node_table_of-depth = link 2 (omega arith)

  pub node_table_of-size : get_or b (v * 4 + 3) 0 ≡ size (sub t v)
  node_table_of-size = link 3 (omega arith)

-- a table of states and maps
module _ (m n : ℕ) (g : ℕ → ℕ) (f : ℕ → ℕ → ℕ) (b : List ℕ)
    (e : take (m * (n + 1)) b ≡ rows m (λ v. g v ∷ tabulate n (f v))) (v : ℕ) (h : v < m) where
  mapped : (k : ℕ) → k < n + 1 → get_or b (v * (n + 1) + k) 0 ≡ get_or (g v ∷ tabulate n (f v)) k 0
  mapped k l =
      cells-of-rows m (n + 1) (λ u. g u ∷ tabulate n (f u)) (λ u q. length-behind (g u) n (f u)) b e v k h l

  table-state : get_or b (v * (n + 1)) 0 ≡ g v
  table-state =
      let z : v * (n + 1) ≡ v * (n + 1) + 0 = omega arith in ap (λ (i : ℕ). get_or b i 0) z ∙ mapped 0 (omega arith)

  table-map : (q : ℕ) → q < n → get_or b (v * (n + 1) + 1 + q) 0 ≡ f v q
  table-map q l =
      let z : v * (n + 1) + 1 + q ≡ v * (n + 1) + (1 + q) = omega arith in
      ap (λ (i : ℕ). get_or b i 0) z ∙ mapped (1 + q) (omega arith) ∙ behind (g v) n (f v) q l

module _ (A : Automaton) (t : Tree) (b : List ℕ) (e : take (size t * (A.states + 1)) b ≡ state_table_of A t) (v : ℕ)
    (h : v < size t) where
  pub state_table_of-state : get_or b (v * (A.states + 1)) 0 ≡ state A (sub t v)
  unfolding state_table_of
  state_table_of-state = table-state (size t) A.states (λ u. state A (sub t u)) (state_map A t) b e v h

  pub state_table_of-map : (q : ℕ) → q < A.states → get_or b (v * (A.states + 1) + 1 + q) 0 ≡ state_map A t v q
  unfolding state_table_of
  state_table_of-map q l = table-map (size t) A.states (λ u. state A (sub t u)) (state_map A t) b e v h q l

module _ (B : WordAutomaton) (t : Tree) (b : List ℕ) (e : take (size t * (B.states + 1)) b ≡ branch_table_of B t) (v : ℕ)
    (h : v < size t) where
  pub branch_table-state : get_or b (v * (B.states + 1)) 0 ≡ branch_state B t v
  unfolding branch_table_of
  branch_table-state = table-state (size t) B.states (branch_state B t) (branch_map B t) b e v h

  pub branch_table-map : (q : ℕ) → q < B.states → get_or b (v * (B.states + 1) + 1 + q) 0 ≡ branch_map B t v q
  unfolding branch_table_of
  branch_table-map q l = table-map (size t) B.states (branch_state B t) (branch_map B t) b e v h q l
