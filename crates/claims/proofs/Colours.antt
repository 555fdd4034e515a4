-- Document 02, S-14: questions whose cost forgets the depth, by colours.
--     top-for-words, top-for-sets, top-colours   the top copy: above the root for words, the root's own for sets
--     in-turn, lowest-state       at each node colours take states in turn
--     one_each, only-fall, drops-fewer   any count of states and any steps: each state has one colour, a colour lands
--                                 on itself or a lower one, a way down has fewer drops than there are colours
--     word-with-upper, word-without   of the tree's own colours: the word automaton's answer, few drops, few links
--     word-answers                so the exported calls on tables as built: drops counted on the tree, at most S-1, the
--                                 links of the tree's own descent, at most 45 for each drop
--     words-13, words-16, never-18   the other numbers on tables as built
--     as-the-climb                number, state and yes are those of the climb, of any two numbers and either reading
--     words-on-copies             on any copies: what the descent by the tree's own colours reads there
--     words-named, words-state, words-lent-16, words-cause-of-18   what holds on any tables
--     next-drop, next-drop-links, links-few   a next drop is found by 01's jumps and climb; its links are at most 45
--     words-built, words-refused, words-short   what the build for a branch table writes; 11 where it is too short
--     words-short-asked           17 where it is too short for a question
--     words-sample                a plan and a branch table that the build accepts
--     words-from-builds, words-answered   what the two builds leave is as built, and questions on it are answered
-- Sets of states and rule questions: ColourSets. The promises of the calls themselves, on every input, are their
-- contracts (crate capi_colours).
use Prim.Native.Nat.{ℕ, suc, ◌+◌, ◌-◌, ◌*◌, ◌≤◌, ◌<◌}
use mathlib.Core.Path.{◌≡◌, refl, sym, ap, ◌∙◌, subst}
use mathlib.Core.Bool.{Bool, true, false}
use mathlib.Core.List.{List, [], ◌∷◌, ◌++◌}
use mathlib.Core.Logic.{◌↔◌}
use mathlib.Core.Option.{Option}
use native.Mathlib.Omega.{arith}
use lib.ListN.{length, get_or, take, drop}
use Rattle.std.specs.Prelude.{Result, Ok}
use Rattle.list_laws.specs.Tests.{all_below}
use Rattle.list_laws.proofs.Choice.{le-or}
use Rattle.trees.specs.Tree.{Tree, size, height}
use Rattle.trees.specs.Automaton.{Automaton, WordAutomaton}
use Rattle.trees.specs.Numbering.{sub, word, lower_word, AtOrBelow}
use Rattle.trees.specs.Climb.{digits}
use Rattle.trees.specs.Postorder.{is_postorder}
use Rattle.trees.proofs.IntervalLaws.{interval-ancestor}
use Rattle.formats.specs.Plan.{node_count, plan_tree}
use Rattle.formats.specs.Rules.{state_count, label_count, branch_automaton}
use Rattle.formats.specs.Checks.{first_no, plan_checks, branch_checks, branch_table_checks}
use Rattle.formats.specs.Built.{BranchBuilt}
use Rattle.formats.specs.Refusals.{answer_number}
use Rattle.formats.specs.declared.refusals.Refusal.{Refusal}
use Rattle.formats.proofs.PlanLaws.{size-plan_tree}
use Rattle.formats.proofs.BranchLaws.{step_below}
use Rattle.formats.proofs.InputLaws.{branch-table-passes}
use Rattle.formats.proofs.RefusalLaws.{told-value}
use Rattle.tables.specs.node_tables.Cells.{is_in_subtree_on}
use Rattle.branches.specs.declared.answers.Reading.{Reading}
use Rattle.branches.proofs.FinishLaws.{in-subtree-is}
use Rattle.branches.proofs.AskBuilt as climb-asks
use Rattle.colours.specs.marks.Marks.{marks_in, marks_at}
use Rattle.colours.proofs.marks.NextMark.{next-mark, next-mark-limit}
use Rattle.colours.specs.marks.NextMarks.{NextMark}
use Rattle.colours.specs.Colouring.{lowest_free, takes, recolour, place_of, Colouring, Free}
use Rattle.colours.specs.Copies.{top_copy, copy, copy_above, lands_at, drops_down}
use Rattle.colours.specs.Descents.{Descent, AllLe}
use Rattle.colours.specs.Words.{with_upper, below_upper}
use Rattle.colours.specs.StateSets.{set_step, set_count}
use Rattle.colours.proofs.ColouringLaws.{lowest-free}
use Rattle.colours.proofs.TurnLaws.{recolour-turn}
use Rattle.colours.proofs.CopyLaws.{top-colour, copy_above-root}
use Rattle.colours.proofs.RootLaws.{set-root}
use Rattle.colours.specs.Answers.{WordAnswer}
use Rattle.colours.proofs.Theorems.{colours-one-each, colours-only-fall, drops-below-colours, word-upper, word_below}
use Rattle.colours.proofs.Theorems.{links-limit}
use Rattle.colour_tables.specs.branch.Build.{colours_fit, branch_colour_checks, built_colour_numbers, built_copies}
use Rattle.colour_tables.specs.branch.Build.{BranchColoured}
use Rattle.colour_tables.proofs.branch.BuildLaws.{room-no}
use Rattle.colour_questions.specs.declared.branch.answers.ColourAsked.{ColourAsked}
use Rattle.colour_questions.specs.branch.OutOfRange.{BranchColoursOutOfRange}
use Rattle.colour_questions.specs.branch.Question.{colour_buffers_fit, colour_ask_answer}
use Rattle.colour_questions.specs.branch.Promise.{BranchColoursBuilt, BranchColoursUsable, state_kept, OnCopies}
use Rattle.colour_questions.proofs.branch.AskBuilt as colour-asks
use Rattle.colour_questions.proofs.branch.AskChecks.{ask-17, ask-13-upper, ask-13-lower}
use Rattle.colour_questions.proofs.branch.OnCopies.{on-copies}
use Rattle.reference.specs.Sample.{plan_a}
use Rattle.capi.specs.numbers.Numbers.{bit_of, on_answer}
use Rattle.capi.specs.branch_calls.BranchExported.{AskExported}
use Rattle.capi.proofs.branch_calls.Ties.{branch-build-as-built}
use Rattle.capi_colours.specs.branch_calls.DescentExported.{DescentExported, end_of, accepted_of, drops_of, links_of}
use Rattle.capi_colours.specs.branch_calls.DescentExported.{WordAnswered}
use Rattle.capi_colours.proofs.branch_calls.Theorems.{branch-build-number, branch-build-writes, branch-build-refused}
use Rattle.capi_colours.proofs.branch_calls.Theorems.{branch-build-coloured, branch-descent-answers}
use Rattle.capi_colours.proofs.branch_calls.Theorems.{branch-descent-apart, branch-descent-built}
use Rattle.claims.specs.CallAnswers.{BranchBuildCall, ColourBranchBuildCall}
use Rattle.claims.specs.BranchAnswers.{branch_table_a}
use Rattle.claims.specs.ColourAnswers.{WordColourAnswer, WordCopiesAnswer}
use Rattle.claims.proofs.ColourLaws.{word-few}
use Rattle.claims.proofs.laws.ToldLaws.{number-told, value-there}
use Rattle.claims.proofs.Branches as branches

-- ---- colours

-- "In the top copy, which is above the root for words and the root's own for sets, state s has colour s+1."
top-colours : (n s : ℕ) → s < n → place_of s (top_copy n) ≡ s
top-colours = top-colour

top-for-words : (n : ℕ) (step : ℕ → ℕ → ℕ) (t : Tree) (v : ℕ) → v + 1 ≡ size t → copy_above n step t v ≡ top_copy n
top-for-words = copy_above-root

top-for-sets : (A : Automaton) (t : Tree) (v : ℕ) → v + 1 ≡ size t
    → copy (set_count A) (set_step A t) t v ≡ top_copy (set_count A)
top-for-sets = set-root

-- "At each node colours take states in turn: the state that the colour's state above leads to, or, if a lower colour
-- has it, the lowest state that no lower colour has."
in-turn : (f : ℕ → ℕ) (above : List ℕ) (c : ℕ) → c < length above
    → recolour f (take (suc c) above)
    ≡ recolour f (take c above) ++ (takes (recolour f (take c above)) (f (get_or above c 0)) ∷ [])
in-turn = recolour-turn

lowest-state : (lower : List ℕ) → Free lower (lowest_free lower)
lowest-state = lowest-free

-- "What is established about colours holds for any count of states and serves words and sets."
one_each : (n : ℕ) (step : ℕ → ℕ → ℕ) (t : Tree) → ((v q : ℕ) → q < n → step v q < n) → (v : ℕ)
    → Colouring n (copy n step t v)
one_each = colours-one-each

only-fall : (n : ℕ) (step : ℕ → ℕ → ℕ) (t : Tree) → ((v q : ℕ) → q < n → step v q < n) → (c v : ℕ) → c < n
    → (lands_at n step t c v ≤ c)
    × (get_or (copy n step t v) (lands_at n step t c v) 0 ≡ step v (get_or (copy_above n step t v) c 0))
only-fall = colours-only-fall

drops-fewer : (n : ℕ) (step : ℕ → ℕ → ℕ) (t : Tree) → ((v q : ℕ) → q < n → step v q < n) → (l k c : ℕ) → c < n
    → drops_down n step t l k c ≤ n - 1
drops-fewer = drops-below-colours

-- ---- words

-- of the tree's own colours
word-with-upper : (B : WordAutomaton) (t : Tree) → ((q a : ℕ) → B.step q a < B.states) → (u l : ℕ) → l < size t
    → AtOrBelow t u l → WordAnswer B t l (word t u l) (with_upper B t u l)
word-with-upper = word-upper

word-without : (B : WordAutomaton) (t : Tree) → ((q a : ℕ) → B.step q a < B.states) → (u l : ℕ) → l < size t
    → AtOrBelow t u l → WordAnswer B t l (lower_word t u l) (below_upper B t u l)
word-without = word_below

-- ---- branch questions: BelowUpper is whatif_colour_branch, WithUpper whatif_colour_branch_with_upper

module _ (reading : Reading) (p r node_table numbers bytes : List ℕ) (u l n s₀ y₀ d₀ k₀ s₁ y₁ d₁ k₁ : ℕ)
    (E : DescentExported reading p r node_table numbers bytes u l n s₀ y₀ d₀ k₀ s₁ y₁ d₁ k₁) where
  -- ---- on any tables

  -- "For anything left to the program, its name and its properties stand in the contract": the name is
  -- `colour_ask_answer`
  words-named : (n ≡ (colour_ask_answer reading p r node_table numbers bytes u l).0)
      × (s₁ ≡ on_answer (colour_ask_answer reading p r node_table numbers bytes u l).1 (λ a. a.state) s₀)
      × (y₁ ≡ on_answer (colour_ask_answer reading p r node_table numbers bytes u l).1 (λ a. bit_of a.marked) y₀)
      × (d₁ ≡ on_answer (colour_ask_answer reading p r node_table numbers bytes u l).1 (λ a. a.drops) d₀)
      × (k₁ ≡ on_answer (colour_ask_answer reading p r node_table numbers bytes u l).1 (λ a. a.links) k₀)
  words-named =
      let i = E.done.result in (
        E.number.result ∙ number-told E.answer ∙ ap (λ (t : ℕ × Option ColourAsked). t.0) i,
        E.number.state_answer ∙ ap (λ (t : ℕ × Option ColourAsked). on_answer t.1 (λ a. a.state) s₀) i,
        E.number.yes_answer ∙ ap (λ (t : ℕ × Option ColourAsked). on_answer t.1 (λ a. bit_of a.marked) y₀) i,
        E.number.drops_answer ∙ ap (λ (t : ℕ × Option ColourAsked). on_answer t.1 (λ a. a.drops) d₀) i,
        E.number.links_answer ∙ ap (λ (t : ℕ × Option ColourAsked). on_answer t.1 (λ a. a.links) k₀) i,
      )

  -- an accepted answer's state is a state, and yes is its mark
  words-state : n ≡ 0 → (s₁ < state_count r) × (y₁ ≡ bit_of ((branch_automaton r).accepting s₁))
  words-state z =
      let w = value-there E.answer (sym E.number.result ∙ z) in
      let a : ColourAsked = w.0 in
      let K : state_kept r (Ok a) = subst (state_kept r) w.1 E.done.properties in
      let s : s₁ ≡ a.state = E.number.state_answer ∙ ap (λ (x : Result ColourAsked Refusal). end_of x s₀) w.1 in (
        rw s K.0,
        E.number.yes_answer ∙ ap (λ (x : Result ColourAsked Refusal). accepted_of x y₀) w.1 ∙ ap bit_of K.1
            ∙ ap (λ (q : ℕ). bit_of ((branch_automaton r).accepting q)) (sym s),
      )

  -- "lower node at or below upper? 16", by the size that was passed in
  words-lent-16 : colour_buffers_fit p r (length node_table) (length numbers) (length bytes) ≡ true → u < node_count p
      → l < node_count p → (n ≡ 16) ↔ (is_in_subtree_on node_table u l ≡ false)
  words-lent-16 f hu hl =
      let w = E.done.not_below f hu hl in
      (λ e. w.0 (sym E.number.result ∙ e), λ e. E.number.result ∙ w.1 e)

  -- "18 means that a value read leads outside the plan, the states or the labels, or a climb doesn't rise.": or that a
  -- search ends where the colour does not fall
  words-cause-of-18 : n ≡ 18 → BranchColoursOutOfRange p r node_table numbers bytes
  words-cause-of-18 e = E.done.out_of_range (sym E.number.result ∙ e)

  -- the copies are read, as the maps are (document 01: "stores and counts what this rule gives on those bytes"):
  -- where plan, table, node table and the colours' numbers are as built and the copies are any bytes below S with
  -- state 0 in each, the state is the byte of the colour that the tree's own descent ends with, and its drops and
  -- links are the descent's
  words-on-copies : BranchColoursUsable p r node_table numbers bytes
      → colour_buffers_fit p r (length node_table) (length numbers) (length bytes) ≡ true → u < node_count p
      → l < node_count p → AtOrBelow (plan_tree p) u l → WordCopiesAnswer reading p r bytes u l n s₁ y₁ d₁ k₁
  words-on-copies U f hu hl A =
      let O : OnCopies reading p r bytes u l (colour_ask_answer reading p r node_table numbers bytes u l) =
      on-copies reading p r node_table numbers bytes U f u l hu hl A in
      let i = told-value E.answer 0 _ (E.done.result ∙ O.is) refl in
      let s = E.number.state_answer ∙ ap (λ (x : Result ColourAsked Refusal). end_of x s₀) i in
      record {
        accepted = E.number.result ∙ ap answer_number i;
        colour = O.colour;
        starts = O.starts;
        way = O.way;
        found = O.found;
        state_is = s;
        yes_is = E.number.yes_answer ∙ ap (λ (x : Result ColourAsked Refusal). accepted_of x y₀) i
            ∙ ap (λ (q : ℕ). bit_of ((branch_automaton r).accepting q)) (sym s);
        drops_are = E.number.drops_answer ∙ ap (λ (x : Result ColourAsked Refusal). drops_of x d₀) i;
        links_are = E.number.links_answer ∙ ap (λ (x : Result ColourAsked Refusal). links_of x k₀) i;
      }

  -- ---- on tables as built

  module _ (D : BranchColoursBuilt p r node_table numbers bytes) where
    never-18 : n ≡ 18 → ⊥
    never-18 = branch-descent-built reading p r node_table numbers bytes u l n s₀ y₀ d₀ k₀ s₁ y₁ d₁ k₁ E D

    -- "nodes below N? 13"
    words-13 : (node_count p ≤ u → n ≡ 13) × (node_count p ≤ l → n ≡ 13)
    words-13 =
        let f = colour-asks.fits-built p r node_table numbers bytes D in (
          λ h. E.number.result ∙ number-told E.answer ∙ ap (λ (t : ℕ × Option ColourAsked). t.0)
              (E.done.result ∙ sym (ask-13-upper reading p r node_table numbers bytes u l f h)),
          λ h. E.number.result ∙ number-told E.answer ∙ ap (λ (t : ℕ × Option ColourAsked). t.0)
              (E.done.result ∙ sym (ask-13-lower reading p r node_table numbers bytes u l f h)),
        )

    module _ (hu : u < node_count p) (hl : l < node_count p) where
      -- "its drops, the places on the path where the colour falls, are at most S-1", "the moves are the links, at
      -- most 45"
      pub word-answers : AtOrBelow (plan_tree p) u l → WordColourAnswer reading p r u l n s₁ y₁ d₁ k₁
      word-answers A =
          let W : WordAnswered reading p r u l n s₁ y₁ d₁ k₁ =
          branch-descent-answers reading p r node_table numbers bytes u l n s₀ y₀ d₀ k₀ s₁ y₁ d₁ k₁ E D hu hl A in
          let Z = E.done.built D hu hl A in
          let same : W.way ≡ Z.way = cc (W.found, Z.found) in
          let passes = branch-table-passes p r D.coloured.accepted in
          let z : size (plan_tree p) ≡ node_count p = size-plan_tree p passes.0 in
          record {
            accepted = W.accepted;
            state_is = W.state;
            yes_is = W.yes;
            drops_are = W.drops_are;
            drops_most = W.falls;
            way = W.way;
            found = W.found;
            searched = W.drops_are ∙ sym Z.drops_are ∙ ap (λ (x : Descent). length x.searches) (sym same);
            links_are = W.links_are;
            few = word-few reading (branch_automaton r) (plan_tree p)
                (λ q a. step_below r passes.1 (q * label_count r + a)) (omega (arith, z, passes.0.most)) u l
                (omega (arith, z)) A W.way W.found;
          }

      words-16 : (AtOrBelow (plan_tree p) u l → ⊥) → n ≡ 16
      words-16 = branch-descent-apart reading p r node_table numbers bytes u l n s₀ y₀ d₀ k₀ s₁ y₁ d₁ k₁ E D hu hl

  -- ---- beside the climb

  module _ (state_table : List ℕ) (B : BranchBuilt p r node_table state_table) (C : BranchColoured p r numbers bytes)
      (m q₀ a₀ b₀ c₀ q₁ a₁ b₁ c₁ : ℕ) (F : AskExported reading p r node_table state_table u l m q₀ a₀ b₀ c₀ q₁ a₁ b₁ c₁)
    where
      built : BranchColoursBuilt p r node_table numbers bytes
      built = record { coloured = C; links = B.links }

      apart : (k : ℕ) → (k ≡ 0 → ⊥) → n ≡ k → m ≡ k → (n ≡ m) × (n ≡ 0 → (s₁ ≡ q₁) × (y₁ ≡ a₁))
      apart k z e f = (e ∙ sym f, λ i. absurd (z (sym e ∙ i)))

      below : u < node_count p → l < node_count p → is_in_subtree_on node_table u l ≡ true → AtOrBelow (plan_tree p) u l
      below hu hl e =
          let z : size (plan_tree p) ≡ node_count p = climb-asks.size_is p r node_table state_table B in
          let w = in-subtree-is node_table u l e in
          let i : u < l + size (sub (plan_tree p) u) =
          rw (← (climb-asks.built-links p r node_table state_table B).sizes u (omega (arith, z))) w.1 in
          interval-ancestor (plan_tree p) u l (omega (arith, z)) (omega (arith, z)) (w.0, i)

      both : u < node_count p → l < node_count p → (b : Bool) → is_in_subtree_on node_table u l ≡ b
          → (n ≡ m) × (n ≡ 0 → (s₁ ≡ q₁) × (y₁ ≡ a₁))
      both hu hl true e =
          let A = below hu hl e in
          let Z = word-answers built hu hl A in
          let W = branches.answers reading p r node_table state_table u l m q₀ a₀ b₀ c₀ q₁ a₁ b₁ c₁ F B hu hl A in
          let s : s₁ ≡ q₁ = Z.state_is ∙ sym W.state_is in (
            Z.accepted ∙ sym W.accepted,
            λ _. (
              s,
              Z.yes_is ∙ ap (λ (q : ℕ). bit_of ((branch_automaton r).accepting q)) s ∙ sym W.yes_is,
            ),
          )
      both hu hl false e =
          apart 16 (λ z. omega arith)
          ((words-lent-16 (colour-asks.fits-built p r node_table numbers bytes built) hu hl).1 e)
          ((branches.lent-16 reading p r node_table state_table u l m q₀ a₀ b₀ c₀ q₁ a₁ b₁ c₁ F
          (climb-asks.fits-built p r node_table state_table B) hu hl).1 e)

      -- "On tables as built from what is lent, a branch answer by colours is that of the climb, for either reading of
      -- the word": of any two numbers, 13 and 16 included
      as-the-climb : (n ≡ m) × (n ≡ 0 → (s₁ ≡ q₁) × (y₁ ≡ a₁))
      as-the-climb =
          let no = branches.not-in-plan reading p r node_table state_table u l m q₀ a₀ b₀ c₀ q₁ a₁ b₁ c₁ F B in
          le-or (node_count p) u
          (λ h. apart 13 (λ z. omega arith) ((words-13 built).0 h) (no.0 h))
          (λ hu. le-or (node_count p) l
          (λ h. apart 13 (λ z. omega arith) ((words-13 built).1 h) (no.1 h))
          (λ hl. both hu hl (is_in_subtree_on node_table u l) refl))

-- ---- the next drop

-- "A next drop is found by 01's jumps and climb among the nodes where that colour falls, depth being their number
-- above, from the lowest left on the path to the highest": for any set m of nodes, of which k on the path end at l
next-drop : (t : Tree) (m : ℕ → Bool) (l k to : ℕ) → l < size t → marks_at t m l ≡ marks_in t m l k + to
    → 0 < marks_in t m l k → NextMark t m l k to
next-drop = next-mark

-- "the moves are the links, at most 45"
next-drop-links : (t : Tree) (m : ℕ → Bool) (l k to : ℕ) (h : l < size t) (e : marks_at t m l ≡ marks_in t m l k + to)
    (p : 0 < marks_in t m l k) → size t ≤ 65535 → length (next-mark t m l k to h e p).moves ≤ 45
next-drop-links = next-mark-limit

links-few : (t : Tree) (searches : List ℕ) → size t ≤ 65535 → AllLe (3 * digits (height t)) searches → AllLe 45 searches
links-few = links-limit

-- ---- the build for a branch table

words-built : (p r numbers bytes : List ℕ) (n : ℕ) (numbers' bytes' : List ℕ)
    → ColourBranchBuildCall p r numbers bytes n numbers' bytes' → n ≡ 0
    → (numbers' ≡ built_colour_numbers p r ++ drop (length (built_colour_numbers p r)) numbers)
    × (bytes' ≡ built_copies p r ++ drop (length (built_copies p r)) bytes)
words-built = branch-build-writes

words-refused : (p r numbers bytes : List ℕ) (n : ℕ) (numbers' bytes' : List ℕ)
    → ColourBranchBuildCall p r numbers bytes n numbers' bytes' → (n ≡ 0 → ⊥) → (numbers' ≡ numbers) × (bytes' ≡ bytes)
words-refused = branch-build-refused

-- "a short one gives 11 in the build and 17 in a question"
words-short : (p r numbers bytes : List ℕ) (n : ℕ) (numbers' bytes' : List ℕ)
    → ColourBranchBuildCall p r numbers bytes n numbers' bytes' → first_no (branch_table_checks p r) ≡ 0
    → colours_fit (node_count p) (state_count r) (length numbers) (length bytes) ≡ false → n ≡ 11
words-short p r numbers bytes n numbers' bytes' E passed short =
    branch-build-number p r numbers bytes n numbers' bytes' E
    ∙ sym (room-no p r (length numbers) (length bytes) passed (node_count p) (state_count r) refl refl false (sym short)
    refl)

words-short-asked : (reading : Reading) (p r node_table numbers bytes : List ℕ)
    (u l n state₀ yes₀ drops₀ links₀ state₁ yes₁ drops₁ links₁ : ℕ)
    → DescentExported reading p r node_table numbers bytes u l n state₀ yes₀ drops₀ links₀ state₁ yes₁ drops₁ links₁
    → colour_buffers_fit p r (length node_table) (length numbers) (length bytes) ≡ false → n ≡ 17
words-short-asked reading p r node_table numbers bytes u l n state₀ yes₀ drops₀ links₀ state₁ yes₁ drops₁ links₁ E
    short =
    E.number.result ∙ number-told E.answer
    ∙ ap (λ (t : ℕ × Option ColourAsked). t.0)
    (E.done.result ∙ sym (ask-17 reading p r node_table numbers bytes u l short))

-- the sample's plan (document 01) with a branch table is accepted with 56 numbers and 14 bytes, and with no fewer
words-sample : (first_no (branch_colour_checks plan_a branch_table_a 56 14) ≡ 0)
    × (first_no (branch_colour_checks plan_a branch_table_a 55 14) ≡ 11)
    × (first_no (branch_colour_checks plan_a branch_table_a 56 13) ≡ 11)
unfolding plan_a branch_table_a branch_colour_checks branch_table_checks plan_checks branch_checks first_no all_below is_postorder
words-sample = (refl, refl, refl)

-- what the two builds leave is as built, so that a question on it is answered: every pair of a node and one at or
-- below it
words-from-builds : (p r x y x' y' numbers bytes numbers' bytes' : List ℕ) → BranchBuildCall p r x y 0 x' y'
    → ColourBranchBuildCall p r numbers bytes 0 numbers' bytes' → BranchColoursBuilt p r x' numbers' bytes'
words-from-builds p r x y x' y' numbers bytes numbers' bytes' E F = record {
  coloured = branch-build-coloured p r numbers bytes 0 numbers' bytes' F refl;
  links = (branch-build-as-built p r x y 0 x' y' E refl).links;
}

words-answered : (p r x y x' y' numbers bytes numbers' bytes' : List ℕ) → BranchBuildCall p r x y 0 x' y'
    → ColourBranchBuildCall p r numbers bytes 0 numbers' bytes'
    → (reading : Reading) (u l n s₀ y₀ d₀ k₀ s₁ y₁ d₁ k₁ : ℕ)
    → DescentExported reading p r x' numbers' bytes' u l n s₀ y₀ d₀ k₀ s₁ y₁ d₁ k₁
    → u < node_count p → l < node_count p → AtOrBelow (plan_tree p) u l
    → WordColourAnswer reading p r u l n s₁ y₁ d₁ k₁
words-answered p r x y x' y' numbers bytes numbers' bytes' B C reading u l n s₀ y₀ d₀ k₀ s₁ y₁ d₁ k₁ E =
    word-answers reading p r x' numbers' bytes' u l n s₀ y₀ d₀ k₀ s₁ y₁ d₁ k₁ E
    (words-from-builds p r x y x' y' numbers bytes numbers' bytes' B C)
