-- Controls against a reference model that allows too much: what it allows is the call's own kind of answer.
--     own-answers      of every state, call and answer
--     read-outcome     a Read once a question has finished is answered with an outcome, and no refusal, in any state
--     wrong-kinds      on plan A, computed: more for a Start, parts for an advance, a refused Read are turned down
use Prim.Native.Nat.{ℕ, zero, suc}
use mathlib.Core.Path.{◌≡◌, refl, sym, subst}
use mathlib.Core.Bool.{Bool, true, false, cond}
use mathlib.Core.List.{[], ◌∷◌}
use mathlib.Core.Option.{Option, none, some}
use lib.Dec.{eqb}
use Rattle.list_laws.proofs.BoolLaws.{true-false}
use Rattle.formats.specs.Checks.{first_no}
use Rattle.formats.specs.Inputs.{Inputs, Sizes, same_inputs}
use Rattle.model.specs.Calls.{Call, load, start, advance, cancel, read, Answer, refused, parts, more, finished, Outcome, outcome}
use Rattle.model.specs.Calls.{outcome_answer}
use Rattle.model.specs.Refusals.{refusal}
use Rattle.reference.specs.Reference.{Settlement, clean, by_rule, by_program, Question, State, Reference, Reply, settled, stage_of}
use Rattle.reference.specs.Reference.{in_state, goes_further, longer, advanced, other_states, may_advance_with, advancing_by_program}
use Rattle.reference.specs.Reference.{advancing_by_rule, advancing, part_count, asked, starting}
use Rattle.reference.specs.Reference.{reading_last, finished_with, proceed, decided, step}
use Rattle.reference.specs.Demand3.{Conforms}
use Rattle.reference.specs.OwnAnswers.{OwnAnswer, refuses, loads, starts, goes_on, finishes, cancels, reads}
use Rattle.reference.proofs.ReadingLaws.{reading-outcome}
use Rattle.reference.proofs.Simulation.{reference_of}
use Rattle.reference.specs.Sample.{inputs_a}
use Rattle.reference.proofs.Controls.{other_label, judged_start, judged_advance, judged_unsettled}

-- ---- a Read: in every state, once an answer is there

pub read-outcome : (s : State) (z : Sizes) (q : Question) (a : Answer) → Conforms (step (reference_of s z (some q)) read) a
    → (o : Outcome) × (a ≡ outcome o)
unfolding step decided proceed refusal first_no reading_last
read-outcome s z q a e = reading-outcome (reference_of s z (some q)) q q.settlement a e

-- ---- an advance

pub advance-only : (x : Inputs) (usable caused : Bool) (a : Answer) → may_advance_with usable caused a ≡ true → OwnAnswer (advance x) a
unfolding may_advance_with
advance-only x u c (refused n) e = refuses n
advance-only x u c Answer.accepted e = absurd (true-false (sym e))
advance-only x u c (parts p) e = absurd (true-false (sym e))
advance-only x u c more e = goes_on
advance-only x u c finished e = finishes
advance-only x u c (outcome o) e = absurd (true-false (sym e))

-- a settled answer
is : (c : Call) (a d : Answer) → a ≡ d → OwnAnswer c d → OwnAnswer c a
is c a d e o = subst (OwnAnswer c) (sym e) o

either : (c : Call) (a : Answer) (b : Bool) (r s : Reply) → (Conforms r a → OwnAnswer c a) → (Conforms s a → OwnAnswer c a)
    → Conforms (cond b r s) a → OwnAnswer c a
either c a true r s f g e = f e
either c a false r s f g e = g e

module _ (b : Reference) (x : Inputs) (q : Question) (a : Answer) where
  onward : (k : Question) → Conforms (goes_further b k) a → OwnAnswer (advance x) a
  unfolding goes_further
  onward k = either (advance x) a (eqb k.count (part_count k)) (settled finished (finished_with b k)) (settled more (in_state b (State.running k)))
      (λ e. is (advance x) a finished e finishes) (λ e. is (advance x) a more e goes_on)

  by-program : Conforms (advancing_by_program b x q) a → OwnAnswer (advance x) a
  unfolding advancing_by_program
  by-program e = advance-only x _ _ a e

  by-rule : Conforms (advancing_by_rule b x q) a → OwnAnswer (advance x) a
  unfolding advancing_by_rule
  by-rule = either (advance x) a (other_states b.sizes q x) (goes_further b (advanced q by_rule (longer b.sizes q x))) (advancing_by_program b x q)
      (onward _) by-program

  advance-own : (k : Settlement) → Conforms (advancing b x q k) a → OwnAnswer (advance x) a
  unfolding advancing
  advance-own clean = either (advance x) a (same_inputs b.sizes q.inputs x) (goes_further b (advanced q clean (longer b.sizes q x)))
      (advancing_by_rule b x q) (onward _) by-rule
  advance-own by_rule = by-rule
  advance-own by_program = by-program

-- ---- every call

module _ (b : Reference) (a : Answer) where
  no : (c : Call) (n : ℕ) → a ≡ refused n → OwnAnswer c a
  no c n e = is c a (refused n) e (refuses n)

  last-own : (l : Option Question) → Conforms (reading_last b l) a → OwnAnswer read a
  unfolding reading_last
  last-own none e = no read 1 e
  last-own (some q) e = let o = reading-outcome b q q.settlement a e in is read a (outcome o.0) o.1 (reads o.0)

  proceed-own : (s : State) (c : Call) → Conforms (proceed b s c) a → OwnAnswer c a
  unfolding proceed starting
  proceed-own s (load x) e = is (load x) a Answer.accepted e loads
  proceed-own s (start x vs bs) e = is (start x vs bs) a (parts (part_count (asked x vs bs))) e (starts _)
  proceed-own State.empty (advance x) e = no (advance x) 1 e
  proceed-own State.loaded (advance x) e = no (advance x) 1 e
  proceed-own (State.running q) (advance x) e = advance-own b x q a q.settlement e
  proceed-own State.answered (advance x) e = no (advance x) 1 e
  proceed-own s cancel e = is cancel a Answer.accepted e cancels
  proceed-own s read e = last-own b.last e

  pub own-answers : (c : Call) → Conforms (step b c) a → OwnAnswer c a
  unfolding step decided
  own-answers c = go (refusal (stage_of b) c)
    where
      go : (n : ℕ) → Conforms (decided n b c) a → OwnAnswer c a
      go zero e = proceed-own b.state c e
      go (suc n) e = no c (suc n) e

-- ---- on plan A

pub wrong-kinds :
    judged_start inputs_a more ∷ judged_start inputs_a Answer.accepted ∷ judged_advance other_label (parts 2)
    ∷ judged_advance other_label Answer.accepted ∷ judged_advance inputs_a (parts 2)
    ∷ judged_unsettled (finished ∷ refused 1 ∷ []) ∷ judged_unsettled (finished ∷ refused 18 ∷ []) ∷ judged_unsettled (finished ∷ finished ∷ [])
    ∷ judged_unsettled (finished ∷ outcome_answer 1 true 2 1 1 ∷ []) ∷ []
    ≡ false ∷ false ∷ false ∷ false ∷ false ∷ false ∷ false ∷ false ∷ true ∷ []
unfolding judged_start judged_advance judged_unsettled other_label inputs_a
wrong-kinds = refl
