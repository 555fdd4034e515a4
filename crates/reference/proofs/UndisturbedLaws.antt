-- A clean question that is undisturbed, call by call and for whole lists.
--     at q c tr            question q, clean, with c accepted advances counted
--     Iteration, iteration      one call while it runs: refused, a Read of an earlier answer, or an advance; finished
--                               exactly at the number of parts
--     Rest, rest           one call once it is answered: refused, or a Read that returns the fresh run's answer
--     agrees-split         a list of calls in two parts
--     UndisturbedFrom, undisturbed    a whole list: the advances it takes to finish, and what Reads return after that
--     every_map, after_map      what holds of every outcome
use Prim.Native.Nat.{ℕ, zero, suc, ◌+◌, ◌≤◌, ◌<◌}
use mathlib.Core.Path.{◌≡◌, refl, sym, ap, ◌∙◌, subst}
use mathlib.Core.Bool.{Bool, true, false, cond}
use mathlib.Core.List.{List, [], ◌∷◌, ◌++◌}
use mathlib.Core.Option.{Option, none, some, some-injective}
use native.Mathlib.Omega.{arith}
use lib.Dec.{eqb}
use lib.ListN.{length}
use borrow.Author.Tests.{eqb-true, eqb-false}
use Rattle.formats.specs.Checks.{first_no}
use Rattle.list_laws.proofs.BoolLaws.{true-false}
use Rattle.questions.specs.ready.Parts.{Part}
use Rattle.trees.proofs.MoveLaws.{none-some}
use Rattle.formats.specs.Inputs.{Inputs, Sizes, same_inputs}
use Rattle.model.specs.Calls.{Call, load, start, advance, cancel, read, Answer, refused, parts, more, finished, Outcome, outcome}
use Rattle.model.specs.Calls.{Phase, may_load, may_start, is_running, is_refused, is_some}
use Rattle.model.specs.Refusals.{stage, refusal}
use Rattle.reference.specs.Reference.{clean, by_rule, Question, State, Reference, settled}
use Rattle.reference.specs.Reference.{phase, in_state, step, decided, proceed, part_count, fresh_answer}
use Rattle.reference.specs.Reference.{starting, longer, advanced, goes_further}
use Rattle.reference.specs.Reference.{other_states, by_answer, advancing_by_program, advancing_by_rule, advancing}
use Rattle.reference.specs.Reference.{reading, reading_last, finished_with}
use Rattle.reference.specs.Demand3.{Conforms, after, Agrees}
use Rattle.reference.specs.Undisturbed.{advances, one_more, finished_after, reference_at, UndisturbedBy, Undisturbed}
use Rattle.reference.specs.Undisturbed.{OutcomeHas, EveryOutcome, EveryOutcomeAfter, OnlyOutcome, OnlyOutcomeAfter}
use Rattle.reference.proofs.ReadingLaws.{reading-outcome, reading-stays}
use Rattle.reference.proofs.Simulation.{reference_of}

abbrev pub at : Question → ℕ → List Part → Question
at q c tr = record { nodes = q.nodes; labels = q.labels; inputs = q.inputs; count = c; settlement = clean; results = tr }

-- ---- while it runs; o is the last question that finished before

module _ (z : Sizes) (o : Option Question) (q : Question) (c : ℕ) (tr : List Part) where
  abbrev pub going : Reference
  going = reference_of (State.running (at q c tr)) z o

  pub data Iteration (a : Answer) (b : Reference) : Type 0 where
    waits : (n : ℕ) → a ≡ refused n → b ≡ going → Iteration a b
    looks : (e : Outcome) → a ≡ outcome e → b ≡ going → Iteration a b
    goes : (ps : List Part) → a ≡ more → suc c < part_count q → b ≡ reference_of (State.running (at q (suc c) ps)) z o → Iteration a b
    ends : (ps : List Part) → a ≡ finished → suc c ≡ part_count q → b ≡ reference_of State.answered z (some (at q (suc c) ps))
        → Iteration a b

  abbrev Iterated : Call → Answer → Type 0
  Iterated k a = Conforms (step going k) a → UndisturbedBy z q.inputs k a → Iteration a (after (step going k) a)

  iteration-goes-on : c < part_count q → (ps : List Part) (a : Answer) → Conforms (goes_further going (at q (suc c) ps)) a
      → Iteration a (after (goes_further going (at q (suc c) ps)) a)
  unfolding goes_further in_state finished_with
  iteration-goes-on l ps a e = go (eqb (suc c) (part_count q)) refl e
    where
      go : (b : Bool) → eqb (suc c) (part_count q) ≡ b
          → Conforms (cond b (settled finished (reference_of State.answered z (some (at q (suc c) ps))))
          (settled more (reference_of (State.running (at q (suc c) ps)) z o))) a
          → Iteration a (after (cond b (settled finished (reference_of State.answered z (some (at q (suc c) ps))))
          (settled more (reference_of (State.running (at q (suc c) ps)) z o))) a)
      go true h e = ends ps e (eqb-true (suc c) (part_count q) h) refl
      go false h e = goes ps e (let n : suc c ≡ part_count q → ⊥ = eqb-false (suc c) (part_count q) h in
          omega (arith, n, l)) refl

  -- an answer more or finished is no refusal
  not_on : (k : Question) (n : ℕ) → Conforms (goes_further going k) (refused n) → ⊥
  unfolding goes_further in_state finished_with
  not_on k n e = go (eqb k.count (part_count k)) e
    where
      go : (b : Bool) → Conforms (cond b (settled finished (reference_of State.answered z (some k)))
          (settled more (reference_of (State.running k) z o))) (refused n) → ⊥
      go true e = true-false (ap is_refused e)
      go false e = true-false (ap is_refused e)

  other-waits : (x : Inputs) (n : ℕ) → Conforms (advancing_by_rule going x (at q c tr)) (refused n)
      → after (advancing_by_rule going x (at q c tr)) (refused n) ≡ going
  unfolding advancing_by_rule advancing_by_program by_answer
  other-waits x n e = go (other_states z (at q c tr) x) e
    where
      onward : Question
      onward = advanced (at q c tr) by_rule (longer z (at q c tr) x)

      go : (b : Bool) → Conforms (cond b (goes_further going onward) (advancing_by_program going x (at q c tr))) (refused n)
          → after (cond b (goes_further going onward) (advancing_by_program going x (at q c tr))) (refused n) ≡ going
      go true e = absurd (not_on onward n e)
      go false e = refl

  iteration-other : (x : Inputs) (a : Answer) → same_inputs z q.inputs x ≡ false → Conforms (advancing_by_rule going x (at q c tr)) a
      → (is_refused a ≡ false → same_inputs z q.inputs x ≡ true) → Iteration a (after (advancing_by_rule going x (at q c tr)) a)
  iteration-other x (refused n) h e f = waits n refl (other-waits x n e)
  iteration-other x Answer.accepted h e f = absurd (true-false (sym (f refl) ∙ h))
  iteration-other x (parts p) h e f = absurd (true-false (sym (f refl) ∙ h))
  iteration-other x more h e f = absurd (true-false (sym (f refl) ∙ h))
  iteration-other x finished h e f = absurd (true-false (sym (f refl) ∙ h))
  iteration-other x (outcome w) h e f = absurd (true-false (sym (f refl) ∙ h))

  iteration-advance : c < part_count q → (x : Inputs) (a : Answer) → Iterated (advance x) a
  unfolding step decided proceed advancing advanced
  iteration-advance l x a e f = go (refusal (stage (phase (State.running (at q c tr))) z (is_some o)) (advance x)) e
    where
      both : (b : Bool) → same_inputs z q.inputs x ≡ b
          → Conforms (cond b (goes_further going (at q (suc c) (longer z (at q c tr) x))) (advancing_by_rule going x (at q c tr))) a
          → Iteration a (after (cond b (goes_further going (at q (suc c) (longer z (at q c tr) x)))
          (advancing_by_rule going x (at q c tr))) a)
      both true h e = iteration-goes-on l (longer z (at q c tr) x) a e
      both false h e = iteration-other x a h e f

      go : (n : ℕ) → Conforms (decided n going (advance x)) a → Iteration a (after (decided n going (advance x)) a)
      go zero e = both (same_inputs z q.inputs x) refl e
      go (suc n) e = waits (suc n) e refl

  -- a Read returns the answer of the question before, or is refused
  iteration-read : (w : Option Question) (a : Answer) → Conforms (reading_last going w) a → Iteration a (after (reading_last going w) a)
  unfolding reading_last
  iteration-read none a e = waits 1 e refl
  iteration-read (some k) a e =
      let w = reading-outcome going k k.settlement a e in looks w.0 w.1 (reading-stays going k k.settlement a)

  -- one call while the question runs
  pub iteration : c < part_count q → (k : Call) (a : Answer) → Iterated k a
  unfolding step decided proceed refusal phase first_no may_load may_start is_running in_state
  iteration l (load x) a e f = waits 1 e refl
  iteration l (start x vs bs) a e f = waits 1 e refl
  iteration l (advance x) a e f = iteration-advance l x a e f
  iteration l cancel a e f = absurd (true-false (sym f ∙ ap is_refused e))
  iteration l read a e f = go (refusal (stage Phase.running z (is_some o)) read) e
    where
      go : (n : ℕ) → Conforms (decided n going read) a → Iteration a (after (decided n going read) a)
      go zero e = iteration-read o a e
      go (suc n) e = waits (suc n) e refl

-- ---- once it is answered

module _ (z : Sizes) (q : Question) (c : ℕ) (tr : List Part) where
  abbrev pub over : Reference
  over = reference_of State.answered z (some (at q c tr))

  pub data Rest (a : Answer) (b : Reference) : Type 0 where
    rests : (n : ℕ) → a ≡ refused n → b ≡ over → Rest a b
    reads : a ≡ fresh_answer q → b ≡ over → Rest a b

  abbrev Rested : Call → Answer → Type 0
  Rested k a = Conforms (step over k) a → UndisturbedBy z q.inputs k a → Rest a (after (step over k) a)

  pub rest : (k : Call) (a : Answer) → Rested k a
  unfolding step decided proceed starting refusal phase first_no is_running reading reading_last fresh_answer
  rest (load x) a e f = go (refusal (stage Phase.answered z true) (load x)) e
    where
      go : (n : ℕ) → Conforms (decided n over (load x)) a → Rest a (after (decided n over (load x)) a)
      go zero e = absurd (true-false (sym f ∙ ap is_refused e))
      go (suc n) e = rests (suc n) e refl
  rest (start x vs bs) a e f = go (refusal (stage Phase.answered z true) (start x vs bs)) e
    where
      go : (n : ℕ) → Conforms (decided n over (start x vs bs)) a → Rest a (after (decided n over (start x vs bs)) a)
      go zero e = absurd (true-false (sym f ∙ ap is_refused e))
      go (suc n) e = rests (suc n) e refl
  rest (advance x) a e f = rests 1 e refl
  rest cancel a e f = rests 1 e refl
  rest read a e f = reads e refl

-- ---- whole lists

pub agrees-split : (b : Reference) (cs ds : List Call) (xs ys : List Answer) → length cs ≡ length xs
    → Agrees b (cs ++ ds) (xs ++ ys)
    → Agrees (reference_at b cs xs) ds ys
agrees-split b [] ds [] ys e h = h
agrees-split b [] ds (a ∷ xs) ys e h = absurd (omega arith)
agrees-split b (c ∷ cs) ds [] ys e h = absurd (omega arith)
agrees-split b (c ∷ cs) ds (a ∷ xs) ys e h = agrees-split (after (step b c) a) cs ds xs ys (omega arith) h.1

-- from c accepted advances on
pub record UndisturbedFrom (q : Question) (c : ℕ) (xs : List Answer) : Type 0 where
  pub exact : (m : ℕ) → finished_after xs ≡ some m → c + m ≡ part_count q
  pub unfinished : finished_after xs ≡ none → c + advances xs < part_count q
  pub most : c + advances xs ≤ part_count q
  pub only : OnlyOutcomeAfter (fresh_answer q) xs

more-after : (o : Option ℕ) (m : ℕ) → one_more o ≡ some m → (n : ℕ) × (o ≡ some n) × (suc n ≡ m)
more-after none m e = absurd (none-some e)
more-after (some n) m e = (n, refl, some-injective (suc n) m e)

more-none : (o : Option ℕ) → one_more o ≡ none → o ≡ none
more-none none e = refl
more-none (some n) e = absurd (none-some (sym e))

-- no accepted advance once it is answered
pub resting : (z : Sizes) (q : Question) (c : ℕ) (tr : List Part) (cs : List Call) (xs : List Answer)
    → Agrees (over z q c tr) cs xs
    → Undisturbed z q.inputs cs xs → (advances xs ≡ 0) × OnlyOutcome (fresh_answer q) xs
unfolding fresh_answer
resting z q c tr [] [] h f = (refl, tt)
resting z q c tr [] (a ∷ xs) h f = absurd h
resting z q c tr (k ∷ cs) [] h f = absurd h
resting z q c tr (k ∷ cs) (a ∷ xs) h f =
    go (λ g. resting z q c tr cs xs g f.1) (rest z q c tr k a h.0 f.0)
  where
    go : (Agrees (over z q c tr) cs xs → (advances xs ≡ 0) × OnlyOutcome (fresh_answer q) xs)
        → Rest z q c tr a (after (step (over z q c tr) k) a)
        → (advances (a ∷ xs) ≡ 0) × OnlyOutcome (fresh_answer q) (a ∷ xs)
    go later (rests n e d) =
        let r = later (subst (λ (b : Reference). Agrees b cs xs) d h.1) in rw e (r.0, (tt, r.1))
    go later (reads e d) =
        let r = later (subst (λ (b : Reference). Agrees b cs xs) d h.1) in
        subst (λ (x : Answer). (advances (x ∷ xs) ≡ 0) × OnlyOutcome (fresh_answer q) (x ∷ xs)) (sym e) (r.0, (refl, r.1))

pub undisturbed : (z : Sizes) (o : Option Question) (q : Question) (c : ℕ) (tr : List Part) → c < part_count q
    → (cs : List Call) (xs : List Answer)
    → Agrees (going z o q c tr) cs xs → Undisturbed z q.inputs cs xs → UndisturbedFrom q c xs
undisturbed z o q c tr l [] [] h f =
    record { exact = λ m e. absurd (none-some e); unfinished = λ e. omega arith; most = omega arith; only = tt }
undisturbed z o q c tr l [] (a ∷ xs) h f = absurd h
undisturbed z o q c tr l (k ∷ cs) [] h f = absurd h
undisturbed z o q c tr l (k ∷ cs) (a ∷ xs) h f =
    go (λ i ps m g. undisturbed z o q i ps m cs xs g f.1) (iteration z o q c tr l k a h.0 f.0)
  where
    go : ((i : ℕ) (ps : List Part) → i < part_count q → Agrees (going z o q i ps) cs xs → UndisturbedFrom q i xs)
        → Iteration z o q c tr a (after (step (going z o q c tr) k) a) → UndisturbedFrom q c (a ∷ xs)
    go later (waits n e d) =
        let A : UndisturbedFrom q c xs = later c tr l (subst (λ (b : Reference). Agrees b cs xs) d h.1) in
        subst (λ (x : Answer). UndisturbedFrom q c (x ∷ xs)) (sym e)
        (record { exact = A.exact; unfinished = A.unfinished; most = A.most; only = A.only })
    go later (looks w e d) =
        let A : UndisturbedFrom q c xs = later c tr l (subst (λ (b : Reference). Agrees b cs xs) d h.1) in
        subst (λ (x : Answer). UndisturbedFrom q c (x ∷ xs)) (sym e)
        (record { exact = A.exact; unfinished = A.unfinished; most = A.most; only = A.only })
    go later (goes ps e m d) =
        let A : UndisturbedFrom q (suc c) xs = later (suc c) ps m (subst (λ (b : Reference). Agrees b cs xs) d h.1) in
        subst (λ (x : Answer). UndisturbedFrom q c (x ∷ xs)) (sym e)
        (record {
          exact = λ j i. let n = more-after (finished_after xs) j i in omega (arith, A.exact n.0 n.1, n.2);
          unfinished = λ i. omega (arith, A.unfinished (more-none (finished_after xs) i));
          most = omega (arith, A.most);
          only = A.only;
        })
    go later (ends ps e m d) =
        let r = resting z q (suc c) ps cs xs (subst (λ (b : Reference). Agrees b cs xs) d h.1) f.1 in
        subst (λ (x : Answer). UndisturbedFrom q c (x ∷ xs)) (sym e)
        (record {
          exact = λ j i. omega (arith, some-injective 1 j i, m);
          unfinished = λ i. absurd (none-some (sym i));
          most = omega (arith, r.0, m);
          only = r.1;
        })

-- ---- what holds of every outcome

module _ (P Q : Outcome → Type 0) (f : (o : Outcome) → P o → Q o) where
  has-map : (y : Answer) → OutcomeHas P y → OutcomeHas Q y
  has-map (refused n) e = tt
  has-map Answer.accepted e = tt
  has-map (parts p) e = tt
  has-map more e = tt
  has-map finished e = tt
  has-map (outcome o) e = f o e

  pub every_map : (ys : List Answer) → EveryOutcome P ys → EveryOutcome Q ys
  every_map [] h = tt
  every_map (y ∷ ys) h = (has-map y h.0, every_map ys h.1)

  pub after_map : (ys : List Answer) → EveryOutcomeAfter P ys → EveryOutcomeAfter Q ys
  after_map [] h = tt
  after_map (refused n ∷ ys) h = after_map ys h
  after_map (Answer.accepted ∷ ys) h = after_map ys h
  after_map (parts p ∷ ys) h = after_map ys h
  after_map (more ∷ ys) h = after_map ys h
  after_map (finished ∷ ys) h = every_map ys h
  after_map (outcome o ∷ ys) h = after_map ys h
