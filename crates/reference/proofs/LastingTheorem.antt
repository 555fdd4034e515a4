-- The last finished answer: how long Reads return it.
--     last-kept         a call leaves the last finished question as it is, unless it replaces it
--     lasting           so until then every Read returns the answer that settles it
--     answer-lasts      the answer of a question that was undisturbed to its finish lasts
--     no-answer-yet     before the first finish every Read is refused with 1, and after every accepted Load again
--     lasts-of, none_of both pass on to every form of the calls
use Prim.Native.Nat.{ℕ, zero, suc, ◌<◌}
use mathlib.Core.Path.{◌≡◌, refl, sym, ap, ◌∙◌, subst}
use mathlib.Core.Bool.{Bool, true, false, cond, not}
use mathlib.Core.List.{List, [], ◌∷◌, ◌++◌}
use mathlib.Core.Option.{Option, none, some}
use native.Mathlib.Omega.{arith}
use lib.Dec.{eqb}
use lib.ListN.{length}
use Rattle.list_laws.proofs.BoolLaws.{true-false}
use Rattle.formats.specs.Checks.{first_no}
use Rattle.formats.specs.Inputs.{Inputs, Sizes, same_inputs}
use Rattle.questions.specs.ready.Parts.{Part}
use Rattle.model.specs.Calls.{Call, load, start, advance, cancel, read, Answer, refused, parts, more, finished, outcome}
use Rattle.model.specs.Calls.{on_advance, on_outcome, is_refused}
use Rattle.model.specs.Refusals.{refusal}
use Rattle.model.specs.Model.{fresh_record, Does}
use Rattle.model.proofs.Facts.{Layers}
use Rattle.model.proofs.Refinement.{Refines, refines}
use Rattle.reference.specs.Reference.{Settlement, clean, by_rule, by_program, Question, State, Reference, settled, stage_of}
use Rattle.reference.specs.Reference.{new_reference, in_state, finished_with, part_count, fresh_answer, asked, starting, longer, advanced}
use Rattle.reference.specs.Reference.{goes_further, other_states, by_answer, advancing_by_program, advancing_by_rule, advancing, reading}
use Rattle.reference.specs.Reference.{reading_last, proceed, decided, step}
use Rattle.reference.specs.Demand3.{Conforms, after, Agrees}
use Rattle.reference.specs.Undisturbed.{reference_at, Undisturbed}
use Rattle.reference.specs.Lasting.{ReadTells, finishes, replaces, AnswerLasts, NoAnswerYet, AnswersLast, NoAnswersYet}
use Rattle.reference.proofs.Simulation.{reference_of}
use Rattle.reference.proofs.StartSimulation.{some-part}
use Rattle.reference.proofs.ReadingLaws.{reading-stays}
use Rattle.reference.proofs.Demand3Theorem.{demand_3}
use Rattle.reference.proofs.UndisturbedLaws.{at, going, over, Iteration, waits, looks, goes, ends, iteration, Rest, rests, reads, rest}
use Rattle.reference.proofs.UndisturbedLaws.{agrees-split}
use Rattle.reference.proofs.QuestionTheorem.{begun}

-- ---- one call

module _ (b : Reference) (z : Answer) where
  -- not finished
  abbrev on : Answer → Bool
  on a = on_advance false true false a

  onward-kept : (k : Question) → Conforms (goes_further b k) z → on z ≡ false → (after (goes_further b k) z).last ≡ b.last
  unfolding goes_further in_state
  onward-kept k e f = go (eqb k.count (part_count k)) e
    where
      go : (t : Bool) → Conforms (cond t (settled finished (finished_with b k)) (settled more (in_state b (State.running k)))) z
          → (after (cond t (settled finished (finished_with b k)) (settled more (in_state b (State.running k)))) z).last ≡ b.last
      go true e = absurd (true-false (sym (ap on e) ∙ f))
      go false e = refl

  program-kept : (x : Inputs) (q : Question) → on z ≡ false → (after (advancing_by_program b x q) z).last ≡ b.last
  unfolding advancing_by_program by_answer in_state
  program-kept x q f = go z f
    where
      k : Question
      k = advanced q by_program []

      go : (a : Answer) → on a ≡ false → (on_advance (in_state b (State.running k)) (finished_with b k) b a).last ≡ b.last
      go (refused n) f = refl
      go Answer.accepted f = refl
      go (parts p) f = refl
      go more f = refl
      go finished f = absurd (true-false f)
      go (outcome o) f = refl

  rule-kept : (x : Inputs) (q : Question) → Conforms (advancing_by_rule b x q) z → on z ≡ false → (after (advancing_by_rule b x q) z).last ≡ b.last
  unfolding advancing_by_rule
  rule-kept x q e f = go (other_states b.sizes q x) e
    where
      go : (t : Bool) → Conforms (cond t (goes_further b (advanced q by_rule (longer b.sizes q x))) (advancing_by_program b x q)) z
          → (after (cond t (goes_further b (advanced q by_rule (longer b.sizes q x))) (advancing_by_program b x q)) z).last ≡ b.last
      go true e = onward-kept (advanced q by_rule (longer b.sizes q x)) e f
      go false e = program-kept x q f

  advance-kept : (x : Inputs) (q : Question) (k : Settlement) → Conforms (advancing b x q k) z → on z ≡ false
      → (after (advancing b x q k) z).last ≡ b.last
  unfolding advancing
  advance-kept x q clean e f = go (same_inputs b.sizes q.inputs x) e
    where
      go : (t : Bool) → Conforms (cond t (goes_further b (advanced q clean (longer b.sizes q x))) (advancing_by_rule b x q)) z
          → (after (cond t (goes_further b (advanced q clean (longer b.sizes q x))) (advancing_by_rule b x q)) z).last ≡ b.last
      go true e = onward-kept (advanced q clean (longer b.sizes q x)) e f
      go false e = rule-kept x q e f
  advance-kept x q by_rule e f = rule-kept x q e f
  advance-kept x q by_program e f = program-kept x q f

  read_kept : (l : Option Question) → (after (reading_last b l) z).last ≡ b.last
  unfolding reading_last
  read_kept none = refl
  read_kept (some q) = ap (λ (c : Reference). c.last) (reading-stays b q q.settlement z)

  proceed-kept : (s : State) (c : Call) → Conforms (proceed b s c) z → replaces c z ≡ false → (after (proceed b s c) z).last ≡ b.last
  unfolding proceed starting in_state
  proceed-kept s (load x) e f = absurd (true-false (sym (ap (λ (a : Answer). not (is_refused a)) e) ∙ f))
  proceed-kept s (start x vs bs) e f = refl
  proceed-kept State.empty (advance x) e f = refl
  proceed-kept State.loaded (advance x) e f = refl
  proceed-kept (State.running q) (advance x) e f = advance-kept x q q.settlement e f
  proceed-kept State.answered (advance x) e f = refl
  proceed-kept s cancel e f = refl
  proceed-kept s read e f = read_kept b.last

  pub last-kept : (c : Call) → Conforms (step b c) z → replaces c z ≡ false → (after (step b c) z).last ≡ b.last
  unfolding step decided
  last-kept c e f = go (refusal (stage_of b) c) e
    where
      go : (n : ℕ) → Conforms (decided n b c) z → (after (decided n b c) z).last ≡ b.last
      go zero e = proceed-kept b.state c e f
      go (suc n) e = refl

  -- an accepted Load empties it
  load-empties : (x : Inputs) → b.last ≡ none → (after (step b (load x)) z).last ≡ none
  unfolding step decided proceed
  load-empties x e = go (refusal (stage_of b) (load x))
    where
      go : (n : ℕ) → (after (decided n b (load x)) z).last ≡ none
      go zero = refl
      go (suc n) = e

  none_kept : (c : Call) → b.last ≡ none → Conforms (step b c) z → finishes c z ≡ false → (after (step b c) z).last ≡ none
  none_kept (load x) n e f = load-empties x n
  none_kept (start x vs bs) n e f = last-kept (start x vs bs) e f ∙ n
  none_kept (advance x) n e f = last-kept (advance x) e f ∙ n
  none_kept cancel n e f = last-kept cancel e f ∙ n
  none_kept read n e f = last-kept read e f ∙ n

  -- a Read, by the last finished question
  read_some : (q : Question) → b.last ≡ some q → Conforms (step b read) z
      → Conforms (reading (reference_of b.state b.sizes (some q)) q q.settlement) z
  unfolding step decided proceed refusal first_no reading_last
  read_some q l e = subst (λ (o : Option Question). Conforms (step (reference_of b.state b.sizes o) read) z) l e

  read_none : b.last ≡ none → Conforms (step b read) z → z ≡ refused 1
  unfolding step decided refusal first_no
  read_none l e = subst (λ (o : Option Question). Conforms (step (reference_of b.state b.sizes o) read) z) l e

-- ---- lists of calls

-- a is what settles Reads of question q
pub lasting : (q : Question) (a : Answer) → ((b : Reference) (z : Answer) → Conforms (reading b q q.settlement) z → z ≡ a)
    → (b : Reference) → b.last ≡ some q → (cs : List Call) (zs : List Answer) → Agrees b cs zs → AnswerLasts a cs zs
lasting q a tells b l [] zs h = tt
lasting q a tells b l (c ∷ cs) [] h = tt
lasting q a tells b l (c ∷ cs) (z ∷ zs) h = (
  one c h.0,
  λ f. lasting q a tells (after (step b c) z) (last-kept b z c h.0 f ∙ l) cs zs h.1,
)
  where
    one : (c : Call) → Conforms (step b c) z → ReadTells a c z
    one (load x) e = tt
    one (start x vs bs) e = tt
    one (advance x) e = tt
    one cancel e = tt
    one read e = tells _ z (read_some b z q l e)

none_yet : (b : Reference) → b.last ≡ none → (cs : List Call) (zs : List Answer) → Agrees b cs zs → NoAnswerYet cs zs
none_yet b l [] zs h = tt
none_yet b l (c ∷ cs) [] h = tt
none_yet b l (c ∷ cs) (z ∷ zs) h =
    (one c h.0, λ f. none_yet (after (step b c) z) (none_kept b z c l h.0 f) cs zs h.1)
  where
    one : (c : Call) → Conforms (step b c) z → ReadTells (refused 1) c z
    one (load x) e = tt
    one (start x vs bs) e = tt
    one (advance x) e = tt
    one cancel e = tt
    one read e = read_none b z l e

-- ---- a question that is undisturbed to its finish

clean-tells : (q : Question) (c : ℕ) (tr : List Part) (b : Reference) (z : Answer) → Conforms (reading b (at q c tr) clean) z → z ≡ fresh_answer q
unfolding reading fresh_answer
clean-tells q c tr b z e = e

not-refused : (n : ℕ) → finished ≡ refused n → ⊥
not-refused n e = true-false (sym (ap is_refused e))

not-outcome : (a : Answer) → on_outcome (λ o. true) false a ≡ true → finished ≡ a → ⊥
not-outcome a h e = true-false (sym h ∙ sym (ap (on_outcome (λ o. true) false) e))

is-outcome : (q : Question) → on_outcome (λ o. true) false (fresh_answer q) ≡ true
unfolding fresh_answer
is-outcome q = refl

not_more : finished ≡ more → ⊥
not_more e = true-false (sym (ap (on_advance true false false) e))

module _ (z : Sizes) (q : Question) (w : Inputs) (es : List Call) (zs : List Answer) where
  -- once it is answered no advance finishes again
  over-no-finish : (c : ℕ) (tr : List Part) (ds : List Call) (ys : List Answer) → length ds ≡ length ys
      → Agrees (over z q c tr) (ds ++ (advance w ∷ es)) (ys ++ (finished ∷ zs))
      → Undisturbed z q.inputs (ds ++ (advance w ∷ [])) (ys ++ (finished ∷ [])) → ⊥
  over-no-finish c tr [] [] n h f = last (rest z q c tr (advance w) finished h.0 f.0)
    where
      last : Rest z q c tr finished (after (step (over z q c tr) (advance w)) finished) → ⊥
      last (rests n e d) = not-refused n e
      last (reads e d) = not-outcome (fresh_answer q) (is-outcome q) e
  over-no-finish c tr [] (a ∷ ys) n h f = omega arith
  over-no-finish c tr (k ∷ ds) [] n h f = omega arith
  over-no-finish c tr (k ∷ ds) (a ∷ ys) n h f =
      one (λ g. over-no-finish c tr ds ys (omega arith) g f.1) (rest z q c tr k a h.0 f.0)
    where
      one : (Agrees (over z q c tr) (ds ++ (advance w ∷ es)) (ys ++ (finished ∷ zs)) → ⊥)
          → Rest z q c tr a (after (step (over z q c tr) k) a) → ⊥
      one later (rests m e d) = later (subst (λ (b : Reference). Agrees b (ds ++ (advance w ∷ es)) (ys ++ (finished ∷ zs))) d h.1)
      one later (reads e d) = later (subst (λ (b : Reference). Agrees b (ds ++ (advance w ∷ es)) (ys ++ (finished ∷ zs))) d h.1)

  lasts-from : (o : Option Question) (c : ℕ) (tr : List Part) → c < part_count q → (ds : List Call) (ys : List Answer) → length ds ≡ length ys
      → Agrees (going z o q c tr) (ds ++ (advance w ∷ es)) (ys ++ (finished ∷ zs))
      → Undisturbed z q.inputs (ds ++ (advance w ∷ [])) (ys ++ (finished ∷ [])) → AnswerLasts (fresh_answer q) es zs
  lasts-from o c tr l [] [] n h f = last (iteration z o q c tr l (advance w) finished h.0 f.0)
    where
      last : Iteration z o q c tr finished (after (step (going z o q c tr) (advance w)) finished) → AnswerLasts (fresh_answer q) es zs
      last (waits m e d) = absurd (not-refused m e)
      last (looks m e d) = absurd (not-outcome (outcome m) refl e)
      last (goes ps e m d) = absurd (not_more e)
      last (ends ps e m d) =
          lasting (at q (suc c) ps) (fresh_answer q) (clean-tells q (suc c) ps) (over z q (suc c) ps) refl es zs
          (subst (λ (b : Reference). Agrees b es zs) d h.1)
  lasts-from o c tr l [] (a ∷ ys) n h f = absurd (omega arith)
  lasts-from o c tr l (k ∷ ds) [] n h f = absurd (omega arith)
  lasts-from o c tr l (k ∷ ds) (a ∷ ys) n h f =
      one (λ i ps m g. lasts-from o i ps m ds ys (omega arith) g f.1) (iteration z o q c tr l k a h.0 f.0)
    where
      one : ((i : ℕ) (ps : List Part) → i < part_count q
          → Agrees (going z o q i ps) (ds ++ (advance w ∷ es)) (ys ++ (finished ∷ zs))
          → AnswerLasts (fresh_answer q) es zs)
          → Iteration z o q c tr a (after (step (going z o q c tr) k) a) → AnswerLasts (fresh_answer q) es zs
      one later (waits m e d) = later c tr l (subst (λ (b : Reference). Agrees b (ds ++ (advance w ∷ es)) (ys ++ (finished ∷ zs))) d h.1)
      one later (looks m e d) = later c tr l (subst (λ (b : Reference). Agrees b (ds ++ (advance w ∷ es)) (ys ++ (finished ∷ zs))) d h.1)
      one later (goes ps e m d) = later (suc c) ps m (subst (λ (b : Reference). Agrees b (ds ++ (advance w ∷ es)) (ys ++ (finished ∷ zs))) d h.1)
      one later (ends ps e m d) =
          absurd (over-no-finish (suc c) ps ds ys (omega arith)
          (subst (λ (b : Reference). Agrees b (ds ++ (advance w ∷ es)) (ys ++ (finished ∷ zs))) d h.1) f.1)

-- ---- the statements

pub answer-lasts : Layers → AnswersLast fresh_record Does
answer-lasts L cs xs x vs bs n ds ys w es zs same count alone h =
    let b : Reference = reference_at new_reference cs xs in
    let A = agrees-split new_reference cs (start x vs bs ∷ (ds ++ (advance w ∷ es))) xs (parts n ∷ (ys ++ (finished ∷ zs))) same (demand_3 L _ _ h) in
    let B = begun b x vs bs n A.0 in
    lasts-from b.sizes (asked x vs bs) w es zs b.last 0 [] (some-part (asked x vs bs)) ds ys count
    (subst (λ (c : Reference). Agrees c (ds ++ (advance w ∷ es)) (ys ++ (finished ∷ zs))) B.1 A.1) alone

-- an accepted Load leaves none
loaded-none : (b : Reference) (x : Inputs) → Conforms (step b (load x)) Answer.accepted → (after (step b (load x)) Answer.accepted).last ≡ none
unfolding step decided proceed
loaded-none b x e = go (refusal (stage_of b) (load x)) e
  where
    go : (n : ℕ) → Conforms (decided n b (load x)) Answer.accepted → (after (decided n b (load x)) Answer.accepted).last ≡ none
    go zero e = refl
    go (suc n) e = absurd (true-false (sym (ap is_refused e)))

new_none : new_reference.last ≡ none
unfolding new_reference
new_none = refl

pub no-answer-yet : Layers → NoAnswersYet fresh_record Does
no-answer-yet L = (
  λ cs xs h. none_yet new_reference new_none cs xs (demand_3 L _ _ h),
  λ cs xs x ds ys same h.
      let b : Reference = reference_at new_reference cs xs in
      let A = agrees-split new_reference cs (load x ∷ ds) xs (Answer.accepted ∷ ys) same (demand_3 L _ _ h) in
      none_yet (after (step b (load x)) Answer.accepted) (loaded-none b x A.0) ds ys A.1,
)

-- they pass on to every form of the calls that refines this one
module _ {A B : Type 0} (StepA : A → Call → Answer → A → Type 0) (StepB : B → Call → Answer → B → Type 0) (SampleRun : A → B → Type 0) where
  pub lasts-of : Refines StepA StepB SampleRun → (a : A) (b : B) → SampleRun a b → AnswersLast b StepB → AnswersLast a StepA
  lasts-of f a b i q cs xs x vs bs n ds ys w es zs l c u h =
      q cs xs x vs bs n ds ys w es zs l c u (refines StepA StepB SampleRun f a b _ _ i h)

  pub none_of : Refines StepA StepB SampleRun → (a : A) (b : B) → SampleRun a b → NoAnswersYet b StepB → NoAnswersYet a StepA
  none_of f a b i q = (
    λ cs xs h. q.0 cs xs (refines StepA StepB SampleRun f a b _ _ i h),
    λ cs xs x ds ys l h. q.1 cs xs x ds ys l (refines StepA StepB SampleRun f a b _ _ i h),
  )
