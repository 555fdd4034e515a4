-- The program's calls return the definition's answer.
--     load-cleared        a fresh session that accepted a Load is cleared
--     load-number         a refusal of its Load is that of the first check that fails
--     cleared-answer      on the session and the tables that an accepted Load left, a question's answer is answer_to
-- From the theorem over every list of calls: each call is answered as the reference model says, and that of a clean
-- question says this.
use Prim.Native.Nat.{ℕ, zero, suc, ◌+◌, ◌≤◌, ◌<◌}
use mathlib.Core.Path.{◌≡◌, refl, sym, ap, ◌∙◌, subst}
use mathlib.Core.Bool.{Bool, true, false, cond}
use mathlib.Core.List.{List, [], ◌∷◌, ◌++◌}
use mathlib.Core.Option.{none}
use native.Mathlib.Omega.{arith}
use lib.Dec.{eqb}
use lib.ListN.{length}
use borrow.Author.Tests.{eqb-false}
use Rattle.formats.specs.Checks.{Check, check, first_no, list_checks}
use Rattle.formats.proofs.CheckLaws.{Numbered, first_no-yes, first_no-none, first_no-append-zero, first_no-append-suc}
use Rattle.list_laws.proofs.BoolLaws.{and_both, and_left, true-false}
use Rattle.list_laws.proofs.TestLaws.{same_list-is}
use Rattle.formats.proofs.InputLaws.{list-numbered}
use Rattle.formats.specs.Built.{built_node_table, built_state_table}
use Rattle.tables.specs.Answers.{written}
use Rattle.questions.specs.ready.Parts.{Part}
use Rattle.formats.specs.Inputs.{Inputs, Sizes, sizes_in, fits, used_node_table, used_state_table, same_node_inputs}
use Rattle.formats.specs.Inputs.{same_inputs, node_table_built, state_table_built, sound, inputs_of}
use Rattle.model.specs.Calls.{Call, load, start, advance, read, Answer, refused, accepted, more, finished, Phase}
use Rattle.model.specs.Calls.{is_running, may_start, is_refused, on_refused}
use Rattle.model.specs.Refusals.{refusal, stage}
use Rattle.model.specs.Model.{stage_of, Record, left_within, idle, fresh_record, act}
use Rattle.model.proofs.ModelLaws.{left_below, left-most}
use Rattle.reference.specs.Reference.{Question, State, Reference, settled, phase, new_reference, in_state, step, decided}
use Rattle.reference.specs.Reference.{proceed, reading, part_count, fresh_answer, asked, longer, advanced, goes_further}
use Rattle.reference.specs.Reference.{advancing_by_rule, advancing, reading_last, finished_with, stage_of as reference_stage}
use Rattle.reference.specs.Demand3.{Conforms, after}
use Rattle.reference.proofs.Relation.{Rel}
use Rattle.reference.proofs.Demand3Theorem.{simulates, at_first}
use Rattle.model.proofs.LayersHold.{layers}
use Rattle.reference.proofs.Simulation.{reference_of}
use Rattle.reference.proofs.UndisturbedLaws.{at, going, over}
use Rattle.reference.proofs.Ceilings.{ready-count}
use Rattle.reference.specs.Outcomes.{Few}
use Rattle.reference.proofs.StartSimulation.{some-part}
use Rattle.reference.proofs.WrittenSound.{loaded, written-sound, written-fits, start-written}
use Rattle.session.specs.declared.state.Session.{Session}
use Rattle.session.specs.Records.{fresh_session}
use Rattle.formats.specs.Inputs.{inputs_of}
use Rattle.std.specs.Prelude.{Result, Ok}
use Rattle.formats.specs.declared.refusals.Refusal.{Refusal}
use Rattle.session.specs.Answers.{call_answer}
use Rattle.session.specs.Promises.{LoadDone, answer_on, record_on, refusal_on}
use Rattle.session.proofs.ActLaws.{Narrow}
use Rattle.session.proofs.NarrowLaws.{built-narrow}
use Rattle.session.proofs.Refine.{Represents, fresh-seen, seen-answer, narrow-seen}
use Rattle.whatif.specs.Asked.{after_advance, finished_in, most_parts, after_start, asked_on}
use Rattle.whatif.specs.Cleared.{answer_by, answer_to, Cleared}

-- the session holds a record that the reference model follows
record Follows (s : Session) (b : Reference) : Type 0 where
  pub holds : Record
  pub seen : Represents s holds
  pub related : Rel holds b

fresh-follows : Follows fresh_session new_reference
fresh-follows = record { holds = fresh_record; seen = fresh-seen; related = at_first }

module _ (s : Session) (b : Reference) (F : Follows s b) (c : Call) where
  simulated : Conforms (step b c) (answer_on s c) × Rel (act F.holds c).record' (after (step b c) (answer_on s c))
  simulated =
      simulates layers c F.holds (act F.holds c).record' b (answer_on s c) F.related
      (record { tells = seen-answer s F.holds F.seen c; leaves = refl })

  conforms : Conforms (step b c) (answer_on s c)
  conforms = simulated.0

  follows : Narrow F.holds c → Follows (record_on s c) (after (step b c) (answer_on s c))
  follows w = record {
    holds = (act F.holds c).record';
    seen = narrow-seen s F.holds F.seen c w;
    related = simulated.1;
  }

-- a settled call: its answer, and the reference model then
module _ (s : Session) (b : Reference) (F : Follows s b) (c : Call) (a : Answer) (b' : Reference) (e : step b c ≡ settled a b') where
  settled-answer : answer_on s c ≡ a
  settled-answer =
      let g : Conforms (settled a b') (answer_on s c) = subst (λ n. Conforms n (answer_on s c)) e (conforms s b F c) in g

  settled-follows : Narrow F.holds c → Follows (record_on s c) b'
  settled-follows w = subst (λ n. Follows (record_on s c) (after n (answer_on s c))) e (follows s b F c w)

-- ---- a clean question

module _ (z : Sizes) (x : Inputs) (long : fits z x ≡ true) (as_built : node_table_built z x ≡ true) where
  same : same_inputs z x x ≡ true
  unfolding same_inputs same_node_inputs
  same =
      and_both _ _ (and_both _ _ (same_list-is x.plan x.plan refl) (and_both _ _ (same_list-is x.rules x.rules refl)
      (same_list-is (used_node_table z x) (used_node_table z x) refl))) (same_list-is (used_state_table z x) (used_state_table z x) refl)

  advance-allowed : refusal (stage Phase.running z false) (advance x) ≡ 0
  unfolding refusal is_running first_no
  advance-allowed = first_no-yes 17 (fits z x) [] long

  -- an advance goes on
  advance-step : (q : Question) (c : ℕ) (tr : List Part) → q.inputs ≡ x
      → step (going z none q c tr) (advance x) ≡ goes_further (going z none q c tr) (at q (suc c) (longer z (at q c tr) x))
  unfolding step decided phase proceed advancing advanced
  advance-step q c tr e =
      ap (λ (n : ℕ). decided n (going z none q c tr) (advance x)) advance-allowed
      ∙ ap (λ (b : Bool). cond b (goes_further (going z none q c tr) (at q (suc c) (longer z (at q c tr) x))) (advancing_by_rule (going z none q c tr) x (at q c tr)))
      (subst (λ (y : Inputs). same_inputs z y x ≡ true) (sym e) same)

  -- a Read returns the fresh run's answer
  read_step : (q : Question) (c : ℕ) (tr : List Part) → step (over z q c tr) read ≡ settled (fresh_answer q) (over z q c tr)
  unfolding step decided phase proceed reading reading_last refusal first_no fresh_answer
  read_step q c tr = refl

  finish-clean : (f : ℕ) (s : Session) (q : Question) (c : ℕ) (tr : List Part) → q.inputs ≡ x → Follows s (going z none q c tr)
      → c < part_count q → part_count q ≤ c + f → finished_in f s x ≡ fresh_answer q
  unfolding goes_further in_state finished_with finished_in after_advance
  finish-clean zero s q c tr e F l m = absurd (omega arith)
  finish-clean (suc f) s q c tr e F l m =
      go (λ G. finish-clean f (record_on s (advance x)) q (suc c) (longer z (at q c tr) x) e G)
      (eqb (suc c) (part_count q)) refl
    where
      ps : List Part
      ps = longer z (at q c tr) x

      goal : Answer → Type 0
      goal a = after_advance a (answer_on (record_on s (advance x)) read) (finished_in f (record_on s (advance x)) x) ≡ fresh_answer q

      onward : (b : Bool) → eqb (suc c) (part_count q) ≡ b
          → step (going z none q c tr) (advance x)
          ≡ cond b (settled finished (over z q (suc c) ps)) (settled more (going z none q (suc c) ps))
      onward b h = advance-step q c tr e ∙ ap (λ (t : Bool). cond t (settled finished (over z q (suc c) ps))
          (settled more (going z none q (suc c) ps))) h

      go : (Follows (record_on s (advance x)) (going z none q (suc c) ps) → suc c < part_count q → part_count q ≤ suc c + f
          → finished_in f (record_on s (advance x)) x ≡ fresh_answer q)
          → (b : Bool) → eqb (suc c) (part_count q) ≡ b → finished_in (suc f) s x ≡ fresh_answer q
      go later true h =
          let G = settled-follows s (going z none q c tr) F (advance x) finished _ (onward true h)
          (built-narrow z x as_built F.holds F.related.sizes) in
          subst goal (sym (settled-answer s (going z none q c tr) F (advance x) finished _ (onward true h)))
          (settled-answer (record_on s (advance x)) (over z q (suc c) ps) G read (fresh_answer q) _ (read_step q (suc c) ps))
      go later false h =
          let G = settled-follows s (going z none q c tr) F (advance x) more _ (onward false h)
          (built-narrow z x as_built F.holds F.related.sizes) in
          let n : suc c ≡ part_count q → ⊥ = eqb-false (suc c) (part_count q) h in
          subst goal (sym (settled-answer s (going z none q c tr) F (advance x) more _ (onward false h)))
          (later G (omega (arith, n)) (omega arith))

-- ---- from the Load on

last-passes : (xs ys : List Check) → Numbered xs → first_no ys ≡ 0 → first_no (xs ++ ys) ≡ first_no xs
last-passes xs ys p e = go (first_no xs) refl
  where
    go : (n : ℕ) → first_no xs ≡ n → first_no (xs ++ ys) ≡ first_no xs
    go zero f = first_no-append-zero xs ys p f ∙ e ∙ sym f
    go (suc n) f = first_no-append-suc xs ys n f ∙ sym f

few_parts : (m p : ℕ) → Few m p → m ≤ 64 → p ≤ 254
few_parts zero p h l = omega (arith, h.one refl)
few_parts (suc m) p h l = omega (arith, h.few (omega arith))

module _ (y : Inputs) (passed : refusal (reference_stage new_reference) (load y) ≡ 0) (s : Session)
    (F : Follows s (reference_of State.loaded (sizes_in y) none)) (vs bs : List ℕ) where
  start-number : refusal (stage Phase.loaded (sizes_in y) false) (start (loaded y) vs bs) ≡ first_no (list_checks (sizes_in y).n (sizes_in y).k vs bs)
  unfolding refusal may_start
  start-number =
      let list = list_checks (sizes_in y).n (sizes_in y).k vs bs in
      let last = check 18 (sound (sizes_in y) (loaded y)) ∷ [] in
      first_no-yes 1 true (check 17 (fits (sizes_in y) (loaded y)) ∷ (list ++ last)) refl
      ∙ first_no-yes 17 (fits (sizes_in y) (loaded y)) (list ++ last)
      (written-fits (reference_stage new_reference) y passed)
      ∙ last-passes list last (list-numbered (sizes_in y).n (sizes_in y).k vs bs)
      (first_no-yes 18 (sound (sizes_in y) (loaded y)) [] (written-sound (reference_stage new_reference) y passed)
      ∙ first_no-none)

  answer-refused : (n : ℕ) → first_no (list_checks (sizes_in y).n (sizes_in y).k vs bs) ≡ suc n
      → asked_on s (loaded y) vs bs ≡ refused (suc n)
  unfolding asked_on after_start step decided phase
  answer-refused n e =
      ap (λ (a : Answer). after_start a (finished_in most_parts (record_on s (start (loaded y) vs bs)) (loaded y)))
      (settled-answer s (reference_of State.loaded (sizes_in y) none) F (start (loaded y) vs bs) (refused (suc n)) (reference_of State.loaded (sizes_in y) none)
      (ap (λ (k : ℕ). decided k (reference_of State.loaded (sizes_in y) none) (start (loaded y) vs bs)) (start-number ∙ e)))

  answer-clean : first_no (list_checks (sizes_in y).n (sizes_in y).k vs bs) ≡ 0
      → asked_on s (loaded y) vs bs ≡ fresh_answer (asked (loaded y) vs bs)
  unfolding asked_on after_start sound phase may_start
  answer-clean e =
      let q = asked (loaded y) vs bs in
      let w = start-written (reference_stage new_reference) y State.loaded none vs bs passed refl e in
      let a = settled-answer s (reference_of State.loaded (sizes_in y) none) F (start (loaded y) vs bs) _ _ w in
      let G = settled-follows s (reference_of State.loaded (sizes_in y) none) F (start (loaded y) vs bs) _ _ w tt in
      let l = and_left (node_table_built (sizes_in y) (loaded y)) (state_table_built (sizes_in y) (loaded y))
      (written-sound (reference_stage new_reference) y passed) in
      let left = left_within (loaded y) vs bs in
      let few : part_count q ≤ 254 = few_parts (length left) (part_count q)
      (ready-count layers (sizes_in y) (loaded y) left l (left_below (loaded y) (sizes_in y).n (sizes_in y).k vs bs e))
      (left-most (loaded y) (sizes_in y).n (sizes_in y).k vs bs e) in
      ap (λ (t : Answer). after_start t (finished_in most_parts (record_on s (start (loaded y) vs bs)) (loaded y))) a
      ∙ finish-clean (sizes_in y) (loaded y) (written-fits (reference_stage new_reference) y passed) l most_parts
      (record_on s (start (loaded y) vs bs)) q 0 [] refl G (some-part q) (omega arith)

  result : asked_on s (loaded y) vs bs ≡ answer_to y.plan y.rules vs bs
  unfolding answer_by loaded fresh_answer
  result = go (first_no (list_checks (sizes_in y).n (sizes_in y).k vs bs)) refl
    where
      go : (n : ℕ) → first_no (list_checks (sizes_in y).n (sizes_in y).k vs bs) ≡ n
          → asked_on s (loaded y) vs bs ≡ answer_by n y.plan y.rules vs bs
      go zero e = answer-clean e
      go (suc n) e = answer-refused n e

-- ---- the theorem

-- an accepted Load passed its checks, and leaves the session and the reference model loaded
pub load-passed : (y : Inputs) → answer_on fresh_session (load y) ≡ accepted → refusal (reference_stage new_reference) (load y) ≡ 0
unfolding step decided
load-passed y e =
    go (refusal (reference_stage new_reference) (load y))
    (subst (λ (a : Answer). Conforms (step new_reference (load y)) a) e (conforms fresh_session new_reference fresh-follows (load y)))
  where
    go : (n : ℕ) → Conforms (decided n new_reference (load y)) accepted → n ≡ 0
    go zero h = refl
    go (suc n) h = absurd (true-false (sym (ap is_refused h)))

-- a refused one failed the check of that number
pub load-number : (y : Inputs) (n : ℕ) → answer_on fresh_session (load y) ≡ refused n
    → (n ≡ refusal (reference_stage new_reference) (load y)) × (n ≡ 0 → ⊥)
unfolding step decided proceed
load-number y n e =
    go (refusal (reference_stage new_reference) (load y))
    (subst (λ (a : Answer). Conforms (step new_reference (load y)) a) e (conforms fresh_session new_reference fresh-follows (load y)))
  where
    go : (k : ℕ) → Conforms (decided k new_reference (load y)) (refused n) → (n ≡ k) × (n ≡ 0 → ⊥)
    go zero h = absurd (true-false (ap is_refused h))
    go (suc k) h = let i : n ≡ suc k = ap (on_refused (λ (m : ℕ). m) 0) h in (i, λ z. omega arith)

load-follows : (y : Inputs) → refusal (reference_stage new_reference) (load y) ≡ 0
    → Follows (record_on fresh_session (load y)) (reference_of State.loaded (sizes_in y) none)
unfolding step decided proceed
load-follows y e =
    settled-follows fresh_session new_reference fresh-follows (load y) accepted (reference_of State.loaded (sizes_in y) none)
    (ap (λ (n : ℕ). decided n new_reference (load y)) e) tt

same-given : (p p' r r' n n' b b' : List ℕ) → p' ≡ p → r' ≡ r → n' ≡ n → b' ≡ b → inputs_of p r n b ≡ inputs_of p' r' n' b'
same-given p p' r r' n n' b b' e f g h = rw (e, f, g, h) refl

given_is : (s : Session) (x : Inputs) (C : Cleared s x) → loaded C.lent ≡ x
unfolding loaded
given_is s x C = same-given _ x.plan _ x.rules _ x.node_table _ x.state_table C.plan C.rules C.node_table C.state_table

pub cleared-answer : (s : Session) (x : Inputs) (vs bs : List ℕ) → Cleared s x → asked_on s x vs bs ≡ answer_to x.plan x.rules vs bs
unfolding loaded
cleared-answer s x vs bs C =
    let y = C.lent in
    let passed = load-passed y C.taken in
    let F = subst (λ (t : Session). Follows t (reference_of State.loaded (sizes_in y) none)) (sym C.session) (load-follows y passed) in
    subst (λ (t : Inputs). asked_on s t vs bs ≡ answer_to t.plan t.rules vs bs) (given_is s x C) (result y passed s F vs bs)

-- ---- an accepted Load of a fresh session clears it

fresh-refusal : (y : Inputs) → answer_on fresh_session (load y) ≡ accepted → refusal_on fresh_session (load y) ≡ 0
unfolding refusal_on fresh_record idle new_reference phase
fresh-refusal y e =
    rw fresh-seen.passes
    (ap (λ (r : Record). refusal (stage_of r) (load y)) fresh-seen.holds ∙ load-passed y e)

fresh-cleared : (s : Session) (p r n b n' b' : List ℕ) (t : Result Unit Refusal) (u : Unit) → t ≡ Ok u
    → LoadDone fresh_session (inputs_of p r n b) (call_answer t) s n' b' → Cleared s (inputs_of p r n' b')
unfolding call_answer
fresh-cleared s p r n b n' b' t u e L =
    let y = inputs_of p r n b in
    let a : answer_on fresh_session (load y) ≡ accepted = sym L.call.tells ∙ ap call_answer e in
    let z = fresh-refusal y a in
    record {
      lent = y;
      taken = a;
      session = L.call.leaves;
      plan = refl;
      rules = refl;
      node_table = L.node_table_written ∙ ap (λ (k : ℕ). written k (built_node_table p) n) z;
      state_table = L.state_table_written ∙ ap (λ (k : ℕ). written k (built_state_table p r) b) z;
    }

pub load-cleared : (f s : Session) (p r n b n' b' : List ℕ) (t : Result Unit Refusal) (u : Unit) → f ≡ fresh_session → t ≡ Ok u
    → LoadDone f (inputs_of p r n b) (call_answer t) s n' b' → Cleared s (inputs_of p r n' b')
load-cleared f s p r n b n' b' t u d e L =
    fresh-cleared s p r n b n' b' t u e (subst (λ (g : Session). LoadDone g (inputs_of p r n b) (call_answer t) s n' b') d L)
