-- What an answer in a known case holds, a session that is advanced once more, and a question from its calls' promises.
use Prim.Native.Nat.{ℕ, suc, ◌≤◌}
use mathlib.Core.Path.{◌≡◌, refl, sym, ap, ap₂, ◌∙◌, subst}
use mathlib.Core.List.{List}
use native.Mathlib.Omega.{arith}
use Rattle.tables.specs.declared.answers.Reached.{Reached}
use Rattle.tables.specs.declared.answers.Climbed.{Climbed}
use Rattle.tables.specs.declared.answers.Climbed.TheVariants.{Reached as To, OutOfRange}
use Rattle.questions.specs.declared.roots.Rooted.{Rooted}
use Rattle.formats.specs.Inputs.{Inputs}
use Rattle.model.specs.Calls.{load, start, advance, cancel, read, parts}
use Rattle.std.specs.Prelude.{Result, Ok, Err}
use Rattle.formats.specs.Refusals.{refusal_number}
use Rattle.formats.specs.declared.refusals.Refusal.{Refusal}
use Rattle.session.specs.declared.answers.Called.{Called}
use Rattle.session.specs.declared.answers.Started.{Started}
use Rattle.session.specs.declared.answers.Outcome.{Outcome}
use Rattle.session.specs.declared.state.Session.{Session}
use Rattle.session.specs.Answers.{call_answer, start_answer, read_answer}
use Rattle.session.specs.Records.{fresh_session}
use Rattle.session.specs.Promises.{answer_on, record_on, CallDone, LoadDone}
use Rattle.probes.specs.declared.layers.Part.{Part}
use Rattle.probes.specs.declared.whole.Life.{Life}
use Rattle.probes.specs.declared.whole.Question.{Question}
use Rattle.probes.specs.declared.whole.Steps.{Steps}
use Rattle.probes.specs.Probed.{RootsProbed, part_in, advanced, answer_by, accepted_in, outcome_in, parts_in, after, start_parts, steps_in}
use Rattle.probes.specs.Probed.{nothing_in, read_in, question_in, call_number, once_loaded, once_started, life_in}

pub roots-probed : (x y : Rooted) → x ≡ y → RootsProbed y x.count x.nodes
roots-probed x y e = record { count = ap (λ (z : Rooted). z.count) e; roots = ap (λ (z : Rooted). z.nodes) e }

pub part-reached : (x y : Climbed) (z : Reached) → x ≡ To z → x ≡ y
    → ◌≡◌ {A = Part} (record { state = z.state; links = z.links }) (part_in y)
part-reached x y z e f = ap part_in (sym e ∙ f)

pub part-outside : (x y : Climbed) → x ≡ OutOfRange → x ≡ y → ◌≡◌ {A = Part} (record { state = 16; links = 0 }) (part_in y)
part-outside x y e f = ap part_in (sym e ∙ f)

-- of an answer that is refused by E, f being the number of such a refusal
module _ {E : Type 0} (f : E → ℕ) where
  pub parts-some-by : (t : Result ℕ E) (p : ℕ) → t ≡ Ok p → p ≡ parts_in (answer_by f parts t)
  unfolding parts_in
  parts-some-by t p e = sym (ap (λ (x : Result ℕ E). parts_in (answer_by f parts x)) e)

  pub parts_none-by : (t : Result ℕ E) (n : E) → t ≡ Err n → 0 ≡ parts_in (answer_by f parts t)
  unfolding parts_in
  parts_none-by t n e = sym (ap (λ (x : Result ℕ E). parts_in (answer_by f parts x)) e)

  pub read_some-by : (a : Result Outcome E) (o : Outcome) → a ≡ Ok o
      → ◌≡◌ {A = Question} (record { state = o.state; yes = o.yes; parts = o.parts; links = o.links }) (read_in (answer_by f outcome_in a))
  unfolding read_in
  read_some-by a o e = sym (ap (λ (x : Result Outcome E). read_in (answer_by f outcome_in x)) e)

  pub read_none-by : (a : Result Outcome E) (n : E) → a ≡ Err n → nothing_in ≡ read_in (answer_by f outcome_in a)
  unfolding read_in
  read_none-by a n e = sym (ap (λ (x : Result Outcome E). read_in (answer_by f outcome_in x)) e)

  pub number-none-by : (a : Result Unit E) (u : Unit) → a ≡ Ok u → 0 ≡ call_number (answer_by f accepted_in a)
  unfolding call_number
  number-none-by a u e = sym (ap (λ (x : Result Unit E). call_number (answer_by f accepted_in x)) e)

  pub number-some-by : (a : Result Unit E) (r : E) (n : ℕ) → a ≡ Err r → n ≡ f r → n ≡ call_number (answer_by f accepted_in a)
  unfolding call_number
  number-some-by a r n e g = g ∙ sym (ap (λ (x : Result Unit E). call_number (answer_by f accepted_in x)) e)

-- the answers of Start, Read, Load and Cancel
by-start : (a : Result ℕ Refusal) → answer_by refusal_number parts a ≡ start_answer a
unfolding start_answer
by-start (Ok p) = refl
by-start (Err r) = refl

by-read : (a : Result Outcome Refusal) → answer_by refusal_number outcome_in a ≡ read_answer a
unfolding read_answer
by-read (Ok o) = refl
by-read (Err r) = refl

by-call : (a : Result Unit Refusal) → answer_by refusal_number accepted_in a ≡ call_answer a
unfolding call_answer
by-call (Ok u) = refl
by-call (Err r) = refl

pub parts-of : (a : Result ℕ Refusal) (p : ℕ) → p ≡ parts_in (answer_by refusal_number parts a) → p ≡ parts_in (start_answer a)
parts-of a p e = e ∙ ap parts_in (by-start a)

pub read-of : (a : Result Outcome Refusal) (q : Question) → q ≡ read_in (answer_by refusal_number outcome_in a)
    → q ≡ read_in (read_answer a)
read-of a q e = e ∙ ap read_in (by-read a)

pub number-of : (a : Result Unit Refusal) (n : ℕ) → n ≡ call_number (answer_by refusal_number accepted_in a)
    → n ≡ call_number (call_answer a)
number-of a n e = e ∙ ap call_number (by-call a)

-- the same of the session's answers, which a Refusal refuses
pub parts-some : (t : Result ℕ Refusal) (p : ℕ) → t ≡ Ok p → p ≡ parts_in (start_answer t)
parts-some t p e = parts-of t p (parts-some-by refusal_number t p e)

pub parts_none : (t : Result ℕ Refusal) (n : Refusal) → t ≡ Err n → 0 ≡ parts_in (start_answer t)
parts_none t n e = parts-of t 0 (parts_none-by refusal_number t n e)

pub read_some : (a : Result Outcome Refusal) (o : Outcome) → a ≡ Ok o
    → ◌≡◌ {A = Question} (record { state = o.state; yes = o.yes; parts = o.parts; links = o.links }) (read_in (read_answer a))
read_some a o e = read-of a _ (read_some-by refusal_number a o e)

pub read_none : (a : Result Outcome Refusal) (n : Refusal) → a ≡ Err n → nothing_in ≡ read_in (read_answer a)
read_none a n e = read-of a nothing_in (read_none-by refusal_number a n e)

pub number-none : (a : Result Unit Refusal) (u : Unit) → a ≡ Ok u → 0 ≡ call_number (call_answer a)
number-none a u e = number-of a 0 (number-none-by refusal_number a u e)

pub number-some : (a : Result Unit Refusal) (r : Refusal) (n : ℕ) → a ≡ Err r → n ≡ refusal_number r → n ≡ call_number (call_answer a)
number-some a r n e f = number-of a n (number-some-by refusal_number a r n e f)

module _ (x : Inputs) (u end : Session) (left : ℕ) (o : advanced left x u ≡ end) where
  pub once_more : (r : Session) (next : ℕ) → suc next ≡ left → r ≡ record_on u (advance x) → advanced next x r ≡ end
  unfolding advanced
  once_more r next s e = ap (advanced next x) e ∙ (ap (λ (i : ℕ). advanced i x u) s ∙ o)

  pub all_done : left ≤ 0 → u ≡ end
  unfolding advanced
  all_done h =
      let s : 0 ≡ left = omega arith in
      ap (λ (i : ℕ). advanced i x u) s ∙ o

abbrev steps_of : ℕ → ℕ → Steps
steps_of p l = record { parts = p; links = l }

-- Start on a session, and advances after it
module _ (x : Inputs) (vs bs : List ℕ) (s before : Session) (o : Started) (is : before ≡ s)
    (D : CallDone before (start x vs bs) (start_answer o.answer) o.session) where
  started : CallDone s (start x vs bs) (start_answer o.answer) o.session
  started = subst (λ (z : Session). CallDone z (start x vs bs) (start_answer o.answer) o.session) is D

  parts_are : (p : ℕ) → p ≡ parts_in (start_answer o.answer) → p ≡ start_parts x vs bs s
  unfolding start_parts
  parts_are p e = e ∙ ap parts_in started.tells

  ends_at : (i : ℕ) (end : Session) → end ≡ advanced i x o.session → end ≡ after x vs bs i s
  unfolding after
  ends_at i end e = e ∙ ap (advanced i x) started.leaves

  pub steps-answer : (i p : ℕ) (end : Session) → p ≡ parts_in (start_answer o.answer) → end ≡ advanced i x o.session
      → ◌≡◌ {A = Steps} (record { parts = p; links = end.head.links }) (steps_in x vs bs i s)
  unfolding steps_in
  steps-answer i p end e f = ap₂ steps_of (parts_are p e) (ap (λ (z : Session). z.head.links) (ends_at i end f))

  pub question-answer : (p : ℕ) (end : Session) (a : Result Outcome Refusal) (r : Question) → p ≡ parts_in (start_answer o.answer)
      → end ≡ advanced p x o.session
      → read_answer a ≡ answer_on end read → r ≡ read_in (read_answer a) → r ≡ question_in x vs bs s
  unfolding question_in
  question-answer p end a r e f g h =
      h ∙ ap read_in (g ∙ ap (λ (z : Session). answer_on z read)
      (ends_at p end f ∙ ap (λ (i : ℕ). after x vs bs i s) (parts_are p e)))

-- ---- a life

module _ (x y : Inputs) (vs bs : List ℕ) (f : Session) (is : f ≡ fresh_session)
    (o : Called) (node_table' state_table' : List ℕ) (L : LoadDone f x (call_answer o.answer) o.session node_table' state_table')
    (p : Started) (S : CallDone o.session (start y vs bs) (start_answer p.answer) p.session)
    (q : Called) (C : CallDone p.session cancel (call_answer q.answer) q.session) where
  loaded-is : o.session ≡ once_loaded x
  unfolding once_loaded
  loaded-is = L.call.leaves ∙ ap (λ (s : Session). record_on s (load x)) is

  started-is : p.session ≡ once_started x y vs bs
  unfolding once_started
  started-is = S.leaves ∙ ap (λ (s : Session). record_on s (start y vs bs)) loaded-is

  ended_is : q.session ≡ record_on (once_started x y vs bs) cancel
  ended_is = C.leaves ∙ ap (λ (s : Session). record_on s cancel) started-is

  pub life-answer : (i j k : ℕ) (r : Question) → i ≡ call_number (call_answer o.answer) → j ≡ parts_in (start_answer p.answer)
      → k ≡ call_number (call_answer q.answer) → r ≡ question_in y vs bs q.session
      → ◌≡◌ {A = Life} (record { load = i; parts = j; cancel = k; again = r }) (life_in x y vs bs)
  unfolding life_in start_parts
  life-answer i j k r e g h w =
      rw (
        e ∙ ap call_number (L.call.tells ∙ ap (λ (s : Session). answer_on s (load x)) is),
        g ∙ ap parts_in (S.tells ∙ ap (λ (s : Session). answer_on s (start y vs bs)) loaded-is),
        h ∙ ap call_number (C.tells ∙ ap (λ (s : Session). answer_on s cancel) started-is),
        w ∙ ap (question_in y vs bs) ended_is,
      )
