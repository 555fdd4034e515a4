-- The answer of a branch question from what its functions hand on.
--     first-args, replay-args, state_in    what is handed on is long enough
--     answer-first                         no first state: 18
--     answer-told                          the answer from the end of the climb
use Prim.Native.Nat.{ℕ, ◌+◌, ◌*◌, ◌≤◌, ◌<◌}
use mathlib.Core.Path.{◌≡◌, refl, sym, ap, ◌∙◌}
use mathlib.Core.Bool.{Bool, cond}
use mathlib.Core.List.{List}
use mathlib.Core.Option.{Option, none, some}
use native.Mathlib.Omega.{arith}
use lib.ListN.{length}
use borrow.Author.Tests.{lt-ltb, le-ltb}
use mathlib.Core.Path.{subst}
use Rattle.trees.specs.Climb.{and_then}
use Rattle.formats.specs.Plan.{node_count}
use Rattle.formats.specs.Rules.{state_count, label_count}
use Rattle.std.specs.Prelude.{Result, Err}
use Rattle.formats.specs.Buffers.{branch_tables}
use Rattle.formats.specs.declared.refusals.Refusal.{Refusal}
use Rattle.formats.specs.declared.refusals.Refusal.TheVariants.{LentValue}
use Rattle.list_laws.proofs.SliceLaws.{length_part}
use Rattle.formats.proofs.BufferLaws.{Headed, headed-are}
use Rattle.branches.specs.declared.answers.Reading.{Reading}
use Rattle.branches.specs.declared.answers.Branched.{Branched}
use Rattle.branches.specs.Question.{branched, branch_on, branch_answer}
use Rattle.formats.specs.Plan.{labels_within}
use Rattle.formats.specs.Rules.{branch_steps, branch_marks, branch_automaton}
use Rattle.tables.specs.node_tables.Cells.{depth_cell}
use Rattle.branches.specs.inner.Finish.{first_of, numbered, told_of, StateIn, FirstArgs, AnswerArgs}
use Rattle.tables.specs.declared.answers.Reached.{Reached}
use Rattle.tables.specs.declared.answers.Climbed.{Climbed}
use Rattle.tables.specs.Climbs.{climbed_of}
use Rattle.tables.specs.Replays.{replay_on}
use Rattle.tables.specs.inner.Remembered.{ReplayArgs}
use Rattle.branches.proofs.AskParts.{Handed, replay-is, first-is, replay-state}

module _ (reading : Reading) (p r node_table state_table : List ℕ) (u l n s k to : ℕ) (ls st mk : List ℕ)
    (A : AnswerArgs p r node_table state_table u l) (H : Handed p r node_table u n s k to ls st mk) where
  fit : Headed branch_tables p r (length node_table) (length state_table)
  fit = headed-are branch_tables p r (length node_table) (length state_table) A.fits

  labels-long : length ls ≡ n
  labels-long =
      ap length H.label-run ∙ length_part p 12 (node_count p) (omega (arith, fit.plan_exact)) ∙ sym H.nodes

  steps-long : length st ≡ state_count r * label_count r
  steps-long =
      ap length H.step_run ∙ length_part r 16 (state_count r * label_count r) (omega (arith, fit.table-exact))

  steps-product : state_count r * label_count r ≡ s * k
  steps-product = rw (H.states, H.labels)

  marks-long : length mk ≡ s
  marks-long =
      ap length H.mark-run
      ∙ length_part r (16 + state_count r * label_count r) (state_count r) (omega (arith, fit.table-exact))
      ∙ sym H.states

  few : s ≤ 16
  few = omega (arith, fit.headers.in-limits.few, H.states)

  pub first-args : FirstArgs s k ls st u
  first-args = record {
    least = omega (arith, fit.headers.in-limits.states, H.states);
    upper = omega (arith, labels-long, A.upper, H.nodes);
    steps_room = omega (arith, steps-long, steps-product);
  }

  pub replay-args : (q : ℕ) → q < s → ReplayArgs n s k ls st node_table state_table l q
  replay-args q h = record {
    at = omega (arith, A.lower, H.nodes);
    state = h;
    most = omega (arith, fit.headers.in-limits.most, H.nodes);
    few = few;
    labels_room = omega (arith, labels-long);
    steps_room = omega (arith, steps-long, steps-product);
    node_table_room = omega (arith, fit.node_table_room, H.nodes);
    state_table_room = rw (H.nodes, H.states) fit.state_table_room;
  }

  pub state_in : (q : ℕ) → q < s → (x : Climbed) → x ≡ climbed_of (replay_on n s k ls st node_table state_table l to q)
      → StateIn (length mk) x
  unfolding climbed_of
  state_in q h x e = subst (StateIn (length mk)) (sym e) (go (replay_on n s k ls st node_table state_table l to q) refl)
    where
      go : (o : Option Reached) → replay_on n s k ls st node_table state_table l to q ≡ o → StateIn (length mk) (climbed_of o)
      go none i = tt
      go (some y) i = omega (arith, marks-long, replay-state n s k ls st node_table state_table l to q h y i)

  -- as branch_on has it
  abbrev replays : ℕ → Option Reached
  replays q = replay_on (node_count p) (state_count r) (label_count r) (labels_within p) (branch_steps r) node_table state_table l
      (depth_cell node_table u) q

  abbrev told : Option ℕ → Option Branched
  told o = and_then o (λ q. and_then (replays q) (λ x. some (branched (branch_automaton r) x.state x.links x.passed)))

  module _ (q : ℕ) (f : first_of reading s k ls st u ≡ numbered s q) where
    pub answer-first : s ≤ q → Err LentValue ≡ branch_answer 0 (branch_on reading p r node_table state_table u l)
    unfolding branch_on branch_answer
    answer-first h =
        ap (λ (o : Option ℕ). branch_answer 0 (told o))
        (ap (λ (b : Bool). cond b (some q) none) (sym (le-ltb q s h)) ∙ sym f ∙ first-is reading p r node_table state_table u l n s k to ls st mk H)

    pub answer-told : q < s → (x : Climbed) → x ≡ climbed_of (replay_on n s k ls st node_table state_table l to q) → (y : Result Branched Refusal)
        → y ≡ told_of mk x → y ≡ branch_answer 0 (branch_on reading p r node_table state_table u l)
    unfolding branch_on branch_answer climbed_of
    answer-told h x e y d =
        d ∙ ap (told_of mk) (e ∙ ap climbed_of (replay-is reading p r node_table state_table u l n s k to ls st mk H q))
        ∙ ap (λ (m : List ℕ). told_of m (climbed_of (replays q))) H.mark-run ∙ go (replays q)
        ∙ ap (λ (o : Option ℕ). branch_answer 0 (told o))
        (ap (λ (b : Bool). cond b (some q) none) (sym (lt-ltb q s h)) ∙ sym f ∙ first-is reading p r node_table state_table u l n s k to ls st mk H)
      where
        go : (o : Option Reached) → told_of (branch_marks r) (climbed_of o)
            ≡ branch_answer 0 (and_then o (λ x. some (branched (branch_automaton r) x.state x.links x.passed)))
        go none = refl
        go (some x) = refl
