-- A question that Start accepted is answered to its end: no advance given the same is refused, and the Read after the
-- last is answered.
--     same-fits           what is the same as inputs that are long enough is long enough: check 17
--     to_the_end          of a question that runs: what its advances and its Read answer
--     questions-finish    so a question's advances and Read answer more .., finished and the fresh run's answer
--     finish-of           and passes on to every form of the calls
use Prim.Native.Nat.{ℕ, zero, suc, ◌+◌, ◌-◌, ◌<◌}
use mathlib.Core.Path.{◌≡◌, refl, sym, ap, ap₂, ◌∙◌, subst}
use mathlib.Core.Bool.{Bool, true, false, cond}
use mathlib.Core.List.{List, [], ◌∷◌, ◌++◌}
use mathlib.Core.Option.{Option}
use native.Mathlib.Omega.{arith}
use lib.Dec.{eqb, leb}
use lib.ListN.{length, take, replicate, length-take}
use borrow.Author.Tests.{le-leb, leb-true}
use Rattle.list_laws.proofs.BoolLaws.{true-false, and_left, and_right, and_both}
use Rattle.questions.specs.ready.Parts.{Part}
use Rattle.formats.specs.Plan.{plan_length}
use Rattle.formats.specs.Rules.{rule_length}
use Rattle.formats.specs.Checks.{check, first_no, list_checks, node_table_length, state_table_length}
use Rattle.formats.specs.Inputs.{Inputs, Sizes, fits, same_inputs}
use Rattle.formats.proofs.CheckLaws.{first_no-head, first_no-tail}
use Rattle.formats.proofs.InputsLaws.{Same, same-node-inputs, same-inputs-nodes, same-state-table}
use Rattle.model.specs.Calls.{Call, start, advance, read, Answer, parts, more, finished, on_advance, is_running, may_start}
use Rattle.model.specs.Calls.{is_some}
use Rattle.model.specs.Refusals.{Stage, stage, refusal}
use Rattle.model.specs.Model.{fresh_record, Does}
use Rattle.model.proofs.Facts.{Layers}
use Rattle.model.proofs.ModelLaws.{start-before}
use Rattle.model.proofs.Refinement.{Refines, refines}
use Rattle.reference.specs.Reference.{clean, Question, State, Reference, settled, stage_of, phase, in_state, new_reference, step, decided, proceed}
use Rattle.reference.specs.Reference.{longer, advanced, goes_further, advancing_by_rule, advancing, reading, reading_last, finished_with, part_count}
use Rattle.reference.specs.Reference.{fresh_answer, asked}
use Rattle.reference.specs.Demand3.{Conforms, after, Agrees}
use Rattle.reference.specs.Undisturbed.{reference_at}
use Rattle.reference.specs.Finished.{advances_of, AllSame, until_the_end, QuestionsFinish}
use Rattle.reference.proofs.StartSimulation.{some-part}
use Rattle.reference.proofs.Demand3Theorem.{demand_3}
use Rattle.reference.proofs.QuestionTheorem.{passed, begun}
use Rattle.reference.proofs.UndisturbedLaws.{at, going, over, Iteration, waits, looks, goes, ends, iteration, agrees-split}

-- ---- check 17

long-enough : (n : ℕ) (l m : List ℕ) → take n l ≡ take n m → leb n (length l) ≡ true → leb n (length m) ≡ true
long-enough n l m e h = le-leb n (length m)
    (omega (arith, length-take n l, length-take n m, ap length e, leb-true n (length l) h))

pub same-fits : (z : Sizes) (x y : Inputs) → fits z x ≡ true → same_inputs z x y ≡ true → fits z y ≡ true
unfolding fits
same-fits z x y f e =
    let S : Same z x y = same-node-inputs z x y (same-inputs-nodes z x y e) in
    let p = and_left (eqb (length x.plan) (plan_length z.n)) _ f in
    let f₁ = and_right (eqb (length x.plan) (plan_length z.n)) _ f in
    let r = and_left (eqb (length x.rules) (rule_length z.s z.k)) _ f₁ in
    let f₂ = and_right (eqb (length x.rules) (rule_length z.s z.k)) _ f₁ in
    let t = and_left (leb (node_table_length z.n) (length x.node_table)) _ f₂ in
    let u = and_right (leb (node_table_length z.n) (length x.node_table)) _ f₂ in
    and_both (eqb (length y.plan) (plan_length z.n)) _
    (subst (λ (l : List ℕ). eqb (length l) (plan_length z.n) ≡ true) S.plan p)
    (and_both (eqb (length y.rules) (rule_length z.s z.k)) _
    (subst (λ (l : List ℕ). eqb (length l) (rule_length z.s z.k) ≡ true) S.rules r)
    (and_both (leb (node_table_length z.n) (length y.node_table)) (leb (state_table_length z.n z.s) (length y.state_table))
    (long-enough (node_table_length z.n) x.node_table y.node_table S.node_table t)
    (long-enough (state_table_length z.n z.s) x.state_table y.state_table (same-state-table z x y e) u)))

start_fits : (t : Stage) (x : Inputs) (vs bs : List ℕ) → refusal t (start x vs bs) ≡ 0 → fits t.sizes x ≡ true
start_fits t x vs bs e =
    let list = list_checks t.sizes.n t.sizes.k vs bs in
    first_no-head 17 (fits t.sizes x) list (omega arith)
    (first_no-tail 1 (may_start t.phase) (check 17 (fits t.sizes x) ∷ list) (omega arith) (start-before t x vs bs e))

-- ---- one advance, one Read

module _ (z : Sizes) (o : Option Question) (q : Question) (c : ℕ) (tr : List Part) where
  no-refusal : (x : Inputs) → fits z x ≡ true → refusal (stage (phase (State.running (at q c tr))) z (is_some o)) (advance x) ≡ 0
  unfolding refusal first_no phase is_running
  no-refusal x f = rw f

  -- more or finished
  abbrev on : Answer → Bool
  on a = on_advance true true false a

  -- a question that goes on has no other answer
  not_on : (k : Question) (a : Answer) → on a ≡ false → Conforms (goes_further (going z o q c tr) k) a → ⊥
  unfolding goes_further
  not_on k a h e = go (eqb k.count (part_count k)) e
    where
      go : (b : Bool) → Conforms (cond b (settled finished (finished_with (going z o q c tr) k))
          (settled more (in_state (going z o q c tr) (State.running k)))) a → ⊥
      go true e = true-false (sym (ap on e) ∙ h)
      go false e = true-false (sym (ap on e) ∙ h)

  told-on : (x : Inputs) (a : Answer) → on a ≡ false → fits z x ≡ true → same_inputs z q.inputs x ≡ true
      → Conforms (step (going z o q c tr) (advance x)) a → ⊥
  unfolding step decided proceed advancing
  told-on x a i f s e = go (refusal (stage (phase (State.running (at q c tr))) z (is_some o)) (advance x)) (no-refusal x f) e
    where
      both : (b : Bool) → b ≡ true
          → Conforms (cond b (goes_further (going z o q c tr) (advanced (at q c tr) clean (longer z (at q c tr) x)))
          (advancing_by_rule (going z o q c tr) x (at q c tr))) a → ⊥
      both true h e = not_on (advanced (at q c tr) clean (longer z (at q c tr) x)) a i e
      both false h e = true-false (sym h)

      go : (m : ℕ) → m ≡ 0 → Conforms (decided m (going z o q c tr) (advance x)) a → ⊥
      go zero h e = both (same_inputs z q.inputs x) s e
      go (suc m) h e = absurd (omega arith)

-- the Read after the last
module _ (z : Sizes) (q : Question) (c : ℕ) (tr : List Part) where
  read_told : (a : Answer) → Conforms (step (over z q c tr) read) a → a ≡ fresh_answer q
  unfolding step decided proceed refusal phase first_no reading reading_last fresh_answer
  read_told a e = e

-- ---- to the end

module _ (z : Sizes) (o : Option Question) (q : Question) (f : fits z q.inputs ≡ true) where
  read-last : (c : ℕ) (tr : List Part) (ys : List Answer) → Agrees (over z q c tr) (read ∷ []) ys → ys ≡ fresh_answer q ∷ []
  read-last c tr [] h = absurd h
  read-last c tr (a ∷ []) h = ap (λ (x : Answer). x ∷ []) (read_told z q c tr a h.0)
  read-last c tr (a ∷ b ∷ ys) h = absurd h.1

  one_more : (n : ℕ) (a : Answer) → 0 < n → more ∷ until_the_end n a ≡ until_the_end (suc n) a
  one_more zero a h = absurd (omega arith)
  one_more (suc n) a h =
      let rest : List Answer = finished ∷ a ∷ [] in
      let e : suc n - 1 ≡ n = omega arith in
      let g : suc n ≡ suc (suc n) - 1 = omega arith in
      ap (λ (k : ℕ). more ∷ (replicate k more ++ rest)) e ∙ ap (λ (k : ℕ). replicate k more ++ rest) g

  the_last : (n : ℕ) (a : Answer) → n ≡ 0 → finished ∷ a ∷ [] ≡ until_the_end (suc n) a
  the_last zero a h = refl
  the_last (suc n) a h = absurd (omega arith)

  ended : (ws : List Inputs) (c : ℕ) (tr : List Part) (ys : List Answer) → length ws ≡ 0
      → Agrees (over z q c tr) (advances_of ws ++ (read ∷ [])) ys → ys ≡ fresh_answer q ∷ []
  ended [] c tr ys e h = read-last c tr ys h
  ended (w ∷ ws) c tr ys e h = absurd (omega arith)

  pub to_the_end : (ws : List Inputs) (c : ℕ) (tr : List Part) → c < part_count q → c + length ws ≡ part_count q → AllSame z q.inputs ws
      → (ys : List Answer) → Agrees (going z o q c tr) (advances_of ws ++ (read ∷ [])) ys → ys ≡ until_the_end (length ws) (fresh_answer q)
  to_the_end [] c tr l n s ys h = absurd (omega arith)
  to_the_end (w ∷ ws) c tr l n s [] h = absurd h
  to_the_end (w ∷ ws) c tr l n s (a ∷ ys) h =
      turn (λ d ps i j g. to_the_end ws d ps i j s.1 ys g) (iteration z o q c tr l (advance w) a h.0 (λ e. s.0))
    where
      turn : ((d : ℕ) (ps : List Part) → d < part_count q → d + length ws ≡ part_count q
          → Agrees (going z o q d ps) (advances_of ws ++ (read ∷ [])) ys → ys ≡ until_the_end (length ws) (fresh_answer q))
          → Iteration z o q c tr a (after (step (going z o q c tr) (advance w)) a)
          → (a ∷ ys) ≡ until_the_end (suc (length ws)) (fresh_answer q)
      turn later (waits m e d) = absurd (told-on z o q c tr w a (ap (on z o q c tr) e) (same-fits z q.inputs w f s.0) s.0 h.0)
      turn later (looks m e d) = absurd (told-on z o q c tr w a (ap (on z o q c tr) e) (same-fits z q.inputs w f s.0) s.0 h.0)
      turn later (goes ps e m d) =
          ap₂ (λ (x : Answer) (l : List Answer). x ∷ l) e (later (suc c) ps m (omega (arith, n))
          (subst (λ (b : Reference). Agrees b (advances_of ws ++ (read ∷ [])) ys) d h.1))
          ∙ one_more (length ws) (fresh_answer q) (omega (arith, n, m))
      turn later (ends ps e m d) =
          ap₂ (λ (x : Answer) (l : List Answer). x ∷ l) e (ended ws (suc c) ps ys (omega (arith, n, m))
          (subst (λ (b : Reference). Agrees b (advances_of ws ++ (read ∷ [])) ys) d h.1))
          ∙ the_last (length ws) (fresh_answer q) (omega (arith, n, m))

-- ---- the statement

pub questions-finish : Layers → QuestionsFinish fresh_record Does
questions-finish L cs xs x vs bs n ws ys same count alike h =
    let b : Reference = reference_at new_reference cs xs in
    let z : Sizes = b.sizes in
    let A = agrees-split new_reference cs (start x vs bs ∷ (advances_of ws ++ (read ∷ []))) xs (parts n ∷ ys) same (demand_3 L _ _ h) in
    let p = passed b x vs bs n A.0 in
    let B = begun b x vs bs n A.0 in
    let f : fits z x ≡ true = start_fits (stage_of b) x vs bs p in
    to_the_end z b.last (asked x vs bs) f ws 0 [] (some-part (asked x vs bs)) (omega (arith, count, B.0)) alike ys
    (subst (λ (b : Reference). Agrees b (advances_of ws ++ (read ∷ [])) ys) B.1 A.1)
    ∙ ap (λ (m : ℕ). until_the_end m (fresh_answer (asked x vs bs))) count

-- it passes on to every form of the calls that refines this one
module _ {A B : Type 0} (StepA : A → Call → Answer → A → Type 0) (StepB : B → Call → Answer → B → Type 0) (SampleRun : A → B → Type 0) where
  pub finish-of : Refines StepA StepB SampleRun → (a : A) (b : B) → SampleRun a b → QuestionsFinish b StepB → QuestionsFinish a StepA
  finish-of f a b i q cs xs x vs bs n ws ys l c s h = q cs xs x vs bs n ws ys l c s (refines StepA StepB SampleRun f a b _ _ i h)
