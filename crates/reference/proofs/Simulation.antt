-- One call on record and reference model: the refusals, and the calls that look at no tables.
--     Sim n k          answer and record of k against the reference model's reply n
--     by-refusal       the refusals are one definition, so what is left is a call that no check refuses
--     on-load, on-cancel, on_read     these three
--     outcome-same, rule-fresh        what a question's outcome is at its finish
-- Not here: Start (StartSimulation) and advance (AdvanceSimulation).
use Prim.Native.Nat.{ℕ, zero, suc}
use mathlib.Core.Path.{◌≡◌, refl, sym, ap, ap₂, ◌∙◌}
use mathlib.Core.Bool.{Bool}
use mathlib.Core.List.{List, []}
use mathlib.Core.Option.{Option, none, some}
use native.Mathlib.Omega.{arith}
use lib.ListN.{length}
use lib.Seq.{take_all}
use Rattle.trees.specs.Automaton.{state}
use Rattle.formats.specs.Rules.{rule_automaton}
use Rattle.questions.specs.ready.Parts.{Part, parts_from, parts_of, last_state, all_links, all_passed}
use Rattle.formats.specs.Inputs.{Inputs, Sizes}
use Rattle.model.specs.Calls.{Call, load, cancel, read, Answer, refused, Outcome, outcome, outcome_answer, Phase, is_some}
use Rattle.model.specs.Refusals.{stage, refusal}
use Rattle.reference.specs.Reference.{Settlement, clean, by_rule, by_program, Question, State, Reference, Reply}
use Rattle.reference.specs.Reference.{phase, in_state, stage_of, step, decided, proceed, roots_of, part_count}
use Rattle.reference.specs.Reference.{changed_tree, given_by, fresh_answer, rule_answer, reading, reading_last, is_outcome}
use Rattle.reference.specs.Demand3.{Conforms, after}
use Rattle.model.specs.Model.{Record, stage_of as record_stage, Acted, acted, idle, act, unless, proceeds, Does}
use Rattle.model.specs.Model.{last_answer}
use Rattle.formats.proofs.InputsLaws.{node-table-built}
use Rattle.questions.proofs.FreshLaws.{whole-state, whole-links, whole-over}
use Rattle.reference.proofs.Relation.{Counted, Cleanly, Told, Lasts, Rel}

abbrev pub Sim : Reply → Acted → Type 0
Sim n k = Conforms n k.answer × Rel k.record' (after n k.answer)

abbrev pub reference_of : State → Sizes → Option Question → Reference
reference_of s z l = record { state = s; sizes = z; last = l }

-- a call conforms, and record and reference model stay related
abbrev pub Simulates : Call → Type 0
Simulates c = (r r' : Record) (b : Reference) (a : Answer) → Rel r b → Does r c a r'
    → Conforms (step b c) a × Rel r' (after (step b c) a)

pub some_number : {n : ℕ} → suc n ≡ 0 → ⊥
some_number e = omega arith

-- an answer is there in both or in neither
some-lasts : (o : Option Outcome) (l : Option Question) → Lasts o l → is_some o ≡ is_some l
some-lasts none none h = refl
some-lasts none (some q) h = absurd h
some-lasts (some o) none h = absurd h
some-lasts (some o) (some q) h = refl

pub by-refusal : (r : Record) (b : Reference) (c : Call) → Rel r b
    → (refusal (stage_of b) c ≡ 0 → Sim (proceed b b.state c) (proceeds r c)) → Sim (step b c) (act r c)
unfolding step act decided unless
by-refusal r b c i f =
    go (refusal (record_stage r) c) (refusal (stage_of b) c)
    (ap₂ (λ (p : Phase) (y : Sizes). refusal (stage p y (is_some r.last)) c) i.phases i.sizes
    ∙ ap (λ (l : Bool). refusal (stage (phase b.state) b.sizes l) c) (some-lasts r.last b.last i.lasts)) refl
  where
    go : (m n : ℕ) → m ≡ n → refusal (stage_of b) c ≡ n → Sim (decided n b c) (unless m r c)
    go zero zero e h = f h
    go zero (suc n) e h = absurd (some_number (sym e))
    go (suc m) zero e h = absurd (some_number e)
    go (suc m) (suc n) e h = (ap refused e, i)

pub does : (r r' : Record) (b : Reference) (c : Call) (a : Answer) → Does r c a r' → Sim (step b c) (act r c)
    → Conforms (step b c) a × Rel r' (after (step b c) a)
does r r' b c a d h = rw (d.tells, d.leaves) h

-- ---- Load and Cancel

pub on-load : (x : Inputs) → Simulates (load x)
unfolding proceed proceeds phase idle
on-load x r r' b a i d = does r r' b (load x) a d (by-refusal r b (load x) i ok)
  where
    ok : refusal (stage_of b) (load x) ≡ 0 → Sim (proceed b b.state (load x)) (proceeds r (load x))
    ok h = (refl, record { phases = refl; sizes = refl; holds = tt; lasts = tt })

-- "it equals it in all but that answer": the last finished answer is kept
pub on-cancel : Simulates cancel
unfolding proceed proceeds in_state phase idle
on-cancel r r' b a i d = does r r' b cancel a d (by-refusal r b cancel i ok)
  where
    ok : refusal (stage_of b) cancel ≡ 0 → Sim (proceed b b.state cancel) (proceeds r cancel)
    ok h = (refl, record { phases = refl; sizes = i.sizes; holds = tt; lasts = i.lasts })

-- ---- the outcome of a question, at its finish

pub outcome-same : (q q' : ℕ) (y y' : Bool) (p p' l l' d d' : ℕ) → q ≡ q' → y ≡ y' → p ≡ p' → l ≡ l' → d ≡ d'
    → outcome_answer q y p l d ≡ outcome_answer q' y' p' l' d'
outcome-same q q' y y' p p' l l' d d' e f g h i = cc

-- a clean one: all parts on the state table that Load writes
pub rule-fresh : (r : Record) (z : Sizes) (q : Question) → Counted r z q → Cleanly z q → q.count ≡ part_count q
    → rule_answer q ≡ fresh_answer q
unfolding rule_answer fresh_answer parts_of
rule-fresh r z q c k e =
    outcome-same _ _ _ _ _ _ _ _ _ _ s (ap (rule_automaton q.inputs.rules).accepting s) refl
    (ap all_links whole ∙ whole-links z q.inputs q.nodes q.labels (node-table-built z q.inputs c.parted.built) q.inputs)
    (ap all_passed whole ∙ whole-over z q.inputs q.nodes q.labels (node-table-built z q.inputs c.parted.built) q.inputs)
  where
    whole : q.results ≡ parts_of (given_by z q q.inputs) (roots_of q)
    whole =
        k.replayed
        ∙ ap (parts_from (given_by z q q.inputs) (roots_of q) [])
        (take_all (length q.results) (roots_of q) (omega (arith, e, c.count)))

    s : last_state q.results 0 ≡ state (rule_automaton q.inputs.rules) (changed_tree q)
    s = ap (λ (l : List Part). last_state l 0) whole ∙ whole-state z q.inputs q.nodes q.labels (node-table-built z q.inputs c.parted.built) k.state_table

-- ---- Read: the last finished answer

module _ (r : Record) (b : Reference) (i : Rel r b) where
  read_as : (o : Outcome) (q : Question) (k : Settlement) → Told o q k → Sim (reading b q k) (acted (outcome o) r)
  unfolding reading is_outcome
  read_as o q clean e = (e, i)
  read_as o q by_rule e = (e, i)
  read_as o q by_program e = (refl, i)

  read-last : (o : Option Outcome) (l : Option Question) → Lasts o l → Sim (reading_last b l) (acted (last_answer o) r)
  unfolding reading_last
  read-last none none e = (refl, i)
  read-last none (some q) e = absurd e
  read-last (some o) none e = absurd e
  read-last (some o) (some q) e = read_as o q q.settlement e

pub on_read : Simulates read
unfolding proceed proceeds
on_read r r' b a i d = does r r' b read a d (by-refusal r b read i (λ h. read-last r b i r.last b.last i.lasts))
