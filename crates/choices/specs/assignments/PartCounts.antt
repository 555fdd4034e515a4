-- Counts worked out part by part, on given bytes (document 02, S-10).
--
-- Tally == a part's root and, for each state, how many assignments below it end there
-- counts_of ts v == the counts of the part of root v among ts; none where there is none
-- applied_count G k w v s p q == how many of v's labels lead from p at the left and q at the right to state s
-- part_count G k w ms ts v s == how many assignments below v end in state s, where ms are the roots and ts the parts
--   before
-- tallies G k w ms == all parts, in rising node number
--
-- w holds of the open nodes, ms are the roots of a question whose W is these nodes and the root, G.labels are the
-- plan's own labels.
-- "They are reckoned part by part, and the parts and links by-part are those of a question": `roots` and
-- `question_links` of ready's specs.
use Rattle.std.specs.Prelude.{ℕ, ◌*◌, Bool, cond, List, [], ◌∷◌, ◌++◌, eqb, get_or}
use Rattle.trees.specs.Tree.{kind_at}
use Rattle.list_laws.specs.Rows.{tabulate}
use Rattle.questions.specs.ready.Ready.{left_child, right_child}
use Rattle.questions.specs.ready.Parts.{Given, any_below, highest_below, move_states, climb_moves}
use Rattle.choices.specs.assignments.Sums.{sum_to, open_sum, one}

pub record Tally : Type 0 where
  pub node : ℕ
  pub counts : List ℕ

abbrev pub tally : ℕ → List ℕ → Tally
tally v cs = record { node = v; counts = cs }

abbrev pub tallied : List Tally → List ℕ
tallied [] = []
tallied (p ∷ ts) = p.node ∷ tallied ts

unfoldable pub counts_of : List Tally → ℕ → List ℕ
counts_of [] v = []
counts_of (p ∷ ts) v = cond (eqb p.node v) p.counts (counts_of ts v)

abbrev pub count_for : List Tally → ℕ → ℕ → ℕ
count_for ts v s = get_or (counts_of ts v) s 0

abbrev pub climbed_to : Given → List ℕ → ℕ → ℕ → ℕ
climbed_to G ms c q = move_states G (climb_moves G.tree (highest_below ms G.tree c) c) q

unfoldable pub applied_count : Given → ℕ → (ℕ → Bool) → ℕ → ℕ → ℕ → ℕ → ℕ
applied_count G k w v s p q = open_sum k w G.labels v (λ b. one s (G.automaton.δ p b q))

-- members below both children, below the left or the right one only, below none
unfoldable pub inner_count : Given → ℕ → (ℕ → Bool) → List ℕ → List Tally → ℕ → ℕ → ℕ → ℕ → ℕ
inner_count G k w ms ts v l r s =
    cond (any_below ms G.tree l)
    (cond (any_below ms G.tree r)
    (sum_to G.automaton.states
    (λ p. count_for ts l p * sum_to G.automaton.states (λ q. count_for ts r q * applied_count G k w v s p q)))
    (sum_to G.automaton.states
    (λ q. count_for ts (highest_below ms G.tree l) q * applied_count G k w v s (climbed_to G ms l q) (G.run_state r))))
    (cond (any_below ms G.tree r)
    (sum_to G.automaton.states
    (λ q. count_for ts (highest_below ms G.tree r) q * applied_count G k w v s (G.run_state l) (climbed_to G ms r q)))
    (applied_count G k w v s (G.run_state l) (G.run_state r)))

unfoldable pub part_count : Given → ℕ → (ℕ → Bool) → List ℕ → List Tally → ℕ → ℕ → ℕ
part_count G k w ms ts v s =
    cond (eqb (kind_at G.tree v) 0)
    (open_sum k w G.labels v (λ b. one s (G.automaton.ι b)))
    (inner_count G k w ms ts v (left_child G.tree v) (right_child v) s)

unfoldable pub part_tally : Given → ℕ → (ℕ → Bool) → List ℕ → List Tally → ℕ → Tally
part_tally G k w ms ts v = tally v (tabulate G.automaton.states (part_count G k w ms ts v))

unfoldable pub tallies_from : Given → ℕ → (ℕ → Bool) → List ℕ → List Tally → List ℕ → List Tally
tallies_from G k w ms ts [] = ts
tallies_from G k w ms ts (v ∷ vs) = tallies_from G k w ms (ts ++ (part_tally G k w ms ts v ∷ [])) vs

unfoldable pub tallies : Given → ℕ → (ℕ → Bool) → List ℕ → List Tally
tallies G k w ms = tallies_from G k w ms [] ms
