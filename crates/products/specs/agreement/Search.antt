-- The search for the states that an automaton reaches: what the program does, by name.
--
-- Found == the lines found so far, the state of each line's tree, and for each of 256 states whether it was found (1) or not (0)
-- nothing == none found yet
-- with_line x c F == F with line x of state c; added x c F == so, unless state c was found already
-- state_at F i == the state of line i; 0 where there is no such line
-- over_leaves ι a r F == added for each leaf label from a on, r of them
-- over_labels δ i j p q a r F == added for each label from a on, r of them, over lines i and j, of states p and q
-- both_orders δ k n j F == every label with line n at the left and line j at the right, and the other way round
-- over_found δ k n j r F == so for lines j on, r of them
-- searched δ k f n F == so for line n and each line up to it, then for the next line, while lines are left; f is fuel, 256 suffice
-- reached A k == all that is found
-- marks l == how many cells of the list are not 0
-- first_accepted A cs i == i and how many of the states cs, up to and with the first that A accepts; none where it accepts none
--
-- Line n is joined with the lines up to n only: a later line is joined with it when it is handled itself. So each pair
-- of lines is tried once in each order, and at most 256 × 257 × K states are looked up; and the lines are in order of
-- rising height, for what line n adds has one more than line n's height (proofs/FoundLaws).
use Rattle.std.specs.Prelude.{ℕ, zero, suc, cond, List, [], ◌∷◌, ◌++◌, eqb, ltb, length, get_or, set, replicate}
use Rattle.std.proofs.Math.Option.{Option, none, some}
use Rattle.trees.specs.Automaton.{Automaton}
use Rattle.products.specs.agreement.Lines.{pair_limit, Line, leaf_line, inner_line}

pub record Found : Type 0 where
  pub lines : List Line
  pub states : List ℕ
  pub seen : List ℕ

abbrev pub nothing : Found
nothing = record { lines = []; states = []; seen = replicate pair_limit 0 }

abbrev pub with_line : Line → ℕ → Found → Found
with_line x c F = record { lines = F.lines ++ (x ∷ []); states = F.states ++ (c ∷ []); seen = set F.seen c 1 }

unfoldable pub added : Line → ℕ → Found → Found
added x c F = cond (eqb (get_or F.seen c 0) 0) (with_line x c F) F

abbrev pub state_at : Found → ℕ → ℕ
state_at F i = get_or F.states i 0

unfoldable pub over_leaves : (ℕ → ℕ) → ℕ → ℕ → Found → Found
over_leaves ι a zero F = F
over_leaves ι a (suc r) F = over_leaves ι (suc a) r (added (leaf_line a) (ι a) F)

unfoldable pub over_labels : (ℕ → ℕ → ℕ → ℕ) → ℕ → ℕ → ℕ → ℕ → ℕ → ℕ → Found → Found
over_labels δ i j p q a zero F = F
over_labels δ i j p q a (suc r) F = over_labels δ i j p q (suc a) r (added (inner_line a i j) (δ p a q) F)

unfoldable pub both_orders : (ℕ → ℕ → ℕ → ℕ) → ℕ → ℕ → ℕ → Found → Found
both_orders δ k n j F =
    over_labels δ j n (state_at F j) (state_at F n) 0 k (over_labels δ n j (state_at F n) (state_at F j) 0 k F)

unfoldable pub over_found : (ℕ → ℕ → ℕ → ℕ) → ℕ → ℕ → ℕ → ℕ → Found → Found
over_found δ k n j zero F = F
over_found δ k n j (suc r) F = over_found δ k n (suc j) r (both_orders δ k n j F)

unfoldable pub searched : (ℕ → ℕ → ℕ → ℕ) → ℕ → ℕ → ℕ → Found → Found
searched δ k zero n F = F
searched δ k (suc f) n F =
    let onward = searched δ k f (suc n) (over_found δ k n 0 (suc n) F) in
    cond (ltb n (length F.lines)) onward F

unfoldable pub reached : Automaton → ℕ → Found
reached A k = searched A.δ k pair_limit 0 (over_leaves A.ι 0 k nothing)

unfoldable pub first_accepted : Automaton → List ℕ → ℕ → Option ℕ
first_accepted A [] i = none
first_accepted A (c ∷ cs) i = cond (A.accepting c) (some (suc i)) (first_accepted A cs (suc i))

unfoldable pub marks : List ℕ → ℕ
marks [] = 0
marks (zero ∷ l) = marks l
marks (suc x ∷ l) = suc (marks l)
