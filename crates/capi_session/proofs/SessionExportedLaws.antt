-- An answer of a known case, as its number, values and record bytes; and the exported calls from the promises of the
-- session's.
--     done-stored .. read-refused    what is stored and reported of each answer
--     not-laid, laid ..              the exported calls: bytes that are no record, and bytes that are laid out as one
use Prim.Native.Nat.{ℕ}
use mathlib.Core.Path.{◌≡◌, sym, ap, ap₂, ◌∙◌, subst}
use mathlib.Core.Bool.{Bool, true, false, not, cond}
use mathlib.Core.List.{List}
use lib.Dec.{eqb}
use lib.ListN.{length}
use borrow.Author.Tests.{eq-eqb, eqb-true, not-true, not-false}
use Rattle.formats.specs.Built.{built_node_table, built_state_table}
use Rattle.list_laws.proofs.BoolLaws.{true-false, and_left, and_right}
use Rattle.tables.specs.Answers.{written}
use Rattle.formats.specs.Inputs.{Inputs}
use Rattle.model.specs.Calls.{Call, load, read, Answer, refused}
use Rattle.session.specs.declared.answers.Called.{Called}
use Rattle.session.specs.declared.answers.Started.{Started}
use Rattle.session.specs.declared.answers.AdvanceStep.{AdvanceStep}
use Rattle.std.specs.Prelude.{Result, Ok, Err}
use Rattle.formats.specs.Refusals.{refusal_number}
use Rattle.formats.specs.declared.refusals.Refusal.{Refusal}
use Rattle.session.specs.declared.answers.Progress.TheVariants.{More, Finished}
use Rattle.session.specs.declared.answers.Outcome.{Outcome}
use Rattle.session.specs.declared.state.Session.{Session}
use Rattle.model.specs.Model.{act}
use Rattle.model.specs.LeftOpen.{LeftOpen}
use Rattle.session.specs.Records.{record_of, valid}
use Rattle.session.specs.Answers.{call_answer, start_answer, advance_answer, read_answer}
use Rattle.session.specs.Promises.{answer_on, record_on, refusal_on, CallDone, LoadDone}
use Rattle.records.specs.Layout.{record_length, step_bytes, encoded, decoded, laid_out, valid_bytes}
use Rattle.capi.specs.numbers.Numbers.{bit_of}
use Rattle.capi_session.specs.SessionExported.{answer_for, answer_number, unless_refused, record_for, CallExported, load_number, LoadExported, parts_of}
use Rattle.capi_session.specs.SessionExported.{StartExported, finished_of, AdvanceExported, Places, answered_places, ReadExported}
use Rattle.capi_session.specs.Stored.{places, Stored, DoneStored, StartStored, AdvanceStored, ReadStored}

-- an accepted answer's bytes, from what encode ensures
accepted-bytes : (new b b' : List ℕ) → length b ≡ record_length → b' ≡ cond (eqb (length b) record_length) new b → b' ≡ new
accepted-bytes new b b' h e = e ∙ rw (eq-eqb (length b) record_length h)

stored-new : (a : Answer) (new b b' : List ℕ) → answer_number a ≡ 0 → unless_refused a new b ≡ new → b' ≡ new → Stored a new b 0 b'
stored-new a new b b' n u e = record { number = sym n; left = e ∙ sym u }

pub done-stored : (o : Called) (b b' : List ℕ) (u : Unit) → length b ≡ record_length → o.answer ≡ Ok u
    → b' ≡ cond (eqb (length b) record_length) (encoded o.session) b → DoneStored o b 0 b'
unfolding call_answer answer_number unless_refused
done-stored o b b' u h e q =
    stored-new (call_answer o.answer) (encoded o.session) b b' (ap (λ (x : _). answer_number (call_answer x)) e)
    (ap (λ (x : _). unless_refused (call_answer x) (encoded o.session) b) e) (accepted-bytes (encoded o.session) b b' h q)

pub done_refused : (o : Called) (b : List ℕ) (r : Refusal) (n : ℕ) → o.answer ≡ Err r → n ≡ refusal_number r → DoneStored o b n b
unfolding call_answer answer_number unless_refused
done_refused o b r n e f = record {
  number = f ∙ sym (ap (λ (x : _). answer_number (call_answer x)) e);
  left = sym (ap (λ (x : _). unless_refused (call_answer x) (encoded o.session) b) e);
}

pub start-stored : (o : Started) (b b' : List ℕ) (p k : ℕ) → length b ≡ record_length → o.answer ≡ Ok k
    → b' ≡ cond (eqb (length b) record_length) (encoded o.session) b → StartStored o b p 0 b' k
unfolding start_answer answer_number unless_refused parts_of
start-stored o b b' p k h e q = record {
  stored = stored-new (start_answer o.answer) (encoded o.session) b b' (ap (λ (x : _). answer_number (start_answer x)) e)
      (ap (λ (x : _). unless_refused (start_answer x) (encoded o.session) b) e) (accepted-bytes (encoded o.session) b b' h q);
  parts_after = sym (ap (λ (x : _). parts_of (start_answer x) p) e);
}

pub start-refused : (o : Started) (b : List ℕ) (p : ℕ) (r : Refusal) (n : ℕ) → o.answer ≡ Err r → n ≡ refusal_number r
    → StartStored o b p n b p
unfolding start_answer answer_number unless_refused parts_of
start-refused o b p r n e f = record {
  stored = record {
    number = f ∙ sym (ap (λ (x : _). answer_number (start_answer x)) e);
    left = sym (ap (λ (x : _). unless_refused (start_answer x) (encoded o.session) b) e);
  };
  parts_after = sym (ap (λ (x : _). parts_of (start_answer x) p) e);
}

module _ (t : AdvanceStep) (i : ℕ) (b : List ℕ) (f : ℕ) where
  abbrev new : List ℕ
  new = step_bytes t.head i t.state b

  step-new : (b' : List ℕ) → length b ≡ record_length → answer_number (advance_answer t.answer) ≡ 0
      → unless_refused (advance_answer t.answer) new b ≡ new
      → b' ≡ cond (eqb (length b) record_length) new b → Stored (advance_answer t.answer) new b 0 b'
  step-new b' h n u q = stored-new (advance_answer t.answer) new b b' n u (accepted-bytes new b b' h q)

  pub more-stored : (b' : List ℕ) → length b ≡ record_length → t.answer ≡ Ok More
      → b' ≡ cond (eqb (length b) record_length) new b → AdvanceStored t i b f 0 b' 0
  unfolding advance_answer answer_number unless_refused finished_of
  more-stored b' h e q = record {
    stored = step-new b' h (ap (λ (x : _). answer_number (advance_answer x)) e) (ap (λ (x : _). unless_refused (advance_answer x) new b) e) q;
    finished_after = sym (ap (λ (x : _). finished_of (advance_answer x) f) e);
  }

  pub finished-stored : (b' : List ℕ) → length b ≡ record_length → t.answer ≡ Ok Finished
      → b' ≡ cond (eqb (length b) record_length) new b → AdvanceStored t i b f 0 b' 1
  unfolding advance_answer answer_number unless_refused finished_of
  finished-stored b' h e q = record {
    stored = step-new b' h (ap (λ (x : _). answer_number (advance_answer x)) e) (ap (λ (x : _). unless_refused (advance_answer x) new b) e) q;
    finished_after = sym (ap (λ (x : _). finished_of (advance_answer x) f) e);
  }

  pub advance-refused : (r : Refusal) (n : ℕ) → t.answer ≡ Err r → n ≡ refusal_number r → AdvanceStored t i b f n b f
  unfolding advance_answer answer_number unless_refused finished_of
  advance-refused r n e h = record {
    stored = record {
      number = h ∙ sym (ap (λ (x : _). answer_number (advance_answer x)) e);
      left = sym (ap (λ (x : _). unless_refused (advance_answer x) new b) e);
    };
    finished_after = sym (ap (λ (x : _). finished_of (advance_answer x) f) e);
  }

pub read-in : (a : Result Outcome Refusal) (old : Places) (y : ℕ) (o : Outcome) → a ≡ Ok o → y ≡ bit_of o.yes
    → ReadStored a old 0 (places o.state y o.parts o.links o.passed)
unfolding read_answer answer_number answered_places
read-in a old y o e b = record {
  number = sym (ap (λ (x : Result Outcome Refusal). answer_number (read_answer x)) e);
  values_are = ap (λ (z : ℕ). places o.state z o.parts o.links o.passed) b
      ∙ sym (ap (λ (x : Result Outcome Refusal). answered_places (read_answer x) old) e);
}

pub read-refused : (a : Result Outcome Refusal) (old : Places) (r : Refusal) (n : ℕ) → a ≡ Err r → n ≡ refusal_number r
    → ReadStored a old n old
unfolding read_answer answer_number answered_places
read-refused a old r n e f = record {
  number = f ∙ sym (ap (λ (x : Result Outcome Refusal). answer_number (read_answer x)) e);
  values_are = sym (ap (λ (x : Result Outcome Refusal). answered_places (read_answer x) old) e);
}

-- ---- the exported calls

module _ (b : List ℕ) (c : Call) where
  answer-laid : laid_out b ≡ true → answer_for b c ≡ answer_on (decoded b) c
  unfolding answer_for
  answer-laid h = rw h

  answer-not : laid_out b ≡ false → answer_for b c ≡ refused 1
  unfolding answer_for
  answer-not h = rw h

  pub not-laid : laid_out b ≡ false → CallExported b c 1 b
  unfolding record_for answer_number unless_refused valid_bytes
  not-laid h = record {
    number = sym (ap answer_number (answer-not h));
    left = sym (ap (λ (a : Answer). unless_refused a (encoded (record_on (decoded b) c)) b) (answer-not h));
    stays = λ v. absurd (true-false (sym (and_left (laid_out b) (valid (decoded b)) v) ∙ h));
    properties = λ v. absurd (true-false (sym (and_left (laid_out b) (valid (decoded b)) v) ∙ h));
  }

  pub laid : laid_out b ≡ true → (a : Answer) (s : Session) (r : ℕ) (b' : List ℕ) → CallDone (decoded b) c a s → Stored a (encoded s) b r b'
      → CallExported b c r b'
  unfolding record_for valid_bytes
  laid h a s r b' D S =
      let e : answer_for b c ≡ a = answer-laid h ∙ sym D.tells in
      record {
        number = S.number ∙ sym (ap answer_number e);
        left = S.left ∙ ap₂ (λ (x : Answer) (y : Session). unless_refused x (encoded y) b) (sym e) D.leaves;
        stays = λ v. subst (λ (t : Session). valid t ≡ true) D.leaves (D.stays (and_right (laid_out b) (valid (decoded b)) v));
        properties = λ v. subst (λ (x : Answer). LeftOpen (record_of (decoded b)) c x (act (record_of (decoded b)) c).record') (sym e)
            (D.properties (and_right (laid_out b) (valid (decoded b)) v));
      }

  pub answer-by : laid_out b ≡ true → (a : Answer) → a ≡ answer_on (decoded b) c → answer_for b c ≡ a
  answer-by h a e = answer-laid h ∙ sym e

  pub not-answered : laid_out b ≡ false → answer_for b c ≡ refused 1
  not-answered h = answer-not h

-- bytes laid out as a record have the length of a record
pub laid-length : (b : List ℕ) → laid_out b ≡ true → length b ≡ record_length
unfolding laid_out
laid-length b h = eqb-true (length b) record_length (and_left (eqb (length b) record_length) _ h)

module _ (b : List ℕ) (r : Bool) (e : r ≡ laid_out b) where
  pub refused-laid : not r ≡ true → laid_out b ≡ false
  refused-laid h = sym e ∙ not-true r h

  pub passed-laid : not r ≡ false → laid_out b ≡ true
  passed-laid h = sym e ∙ not-false r h

  pub passed_length : not r ≡ false → length b ≡ record_length
  passed_length h = laid-length b (passed-laid h)

-- ---- Load, Start, advance and Read

module _ (b : List ℕ) where
  pub load-not : (x : Inputs) → laid_out b ≡ false → LoadExported b x 1 b x.node_table x.state_table
  unfolding load_number written
  load-not x h = record {
    call = not-laid b (load x) h;
    node_table_written = sym (ap (λ (t : Bool). written (cond t (refusal_on (decoded b) (load x)) 1) (built_node_table x.plan) x.node_table) h);
    state_table_written =
        sym (ap (λ (t : Bool). written (cond t (refusal_on (decoded b) (load x)) 1) (built_state_table x.plan x.rules) x.state_table) h);
  }

  pub load-laid : (x : Inputs) → laid_out b ≡ true → (o : Called) (r : ℕ) (b' node_table' state_table' : List ℕ)
      → LoadDone (decoded b) x (call_answer o.answer) o.session node_table' state_table'
      → DoneStored o b r b' → LoadExported b x r b' node_table' state_table'
  unfolding load_number
  load-laid x h o r b' node_table' state_table' D S = record {
    call = laid b (load x) h (call_answer o.answer) o.session r b' D.call S;
    node_table_written =
        D.node_table_written
        ∙ sym (ap (λ (t : Bool). written (cond t (refusal_on (decoded b) (load x)) 1) (built_node_table x.plan) x.node_table) h);
    state_table_written = D.state_table_written
        ∙ sym (ap (λ (t : Bool). written (cond t (refusal_on (decoded b) (load x)) 1) (built_state_table x.plan x.rules) x.state_table) h);
  }

  module _ (c : Call) where
    pub start-not : (p : ℕ) → laid_out b ≡ false → StartExported b c 1 b p p
    unfolding parts_of
    start-not p h = record { call = not-laid b c h; parts_after = sym (ap (λ (a : Answer). parts_of a p) (not-answered b c h)) }

    pub start-laid : laid_out b ≡ true → (o : Started) (r : ℕ) (b' : List ℕ) (p p' : ℕ)
        → CallDone (decoded b) c (start_answer o.answer) o.session → StartStored o b p r b' p' → StartExported b c r b' p p'
    start-laid h o r b' p p' D S = record {
      call = laid b c h (start_answer o.answer) o.session r b' D S.stored;
      parts_after = S.parts_after ∙ sym (ap (λ (a : Answer). parts_of a p) (answer-by b c h (start_answer o.answer) D.tells));
    }

    pub advance-not : (f : ℕ) → laid_out b ≡ false → AdvanceExported b c 1 b f f
    unfolding finished_of
    advance-not f h = record { call = not-laid b c h; finished_after = sym (ap (λ (a : Answer). finished_of a f) (not-answered b c h)) }

    pub advance-laid : laid_out b ≡ true → (a : Answer) (s : Session) (r : ℕ) (b' : List ℕ) (f f' : ℕ) → CallDone (decoded b) c a s
        → Stored a (encoded s) b r b' → f' ≡ finished_of a f → AdvanceExported b c r b' f f'
    advance-laid h a s r b' f f' D S e = record {
      call = laid b c h a s r b' D S;
      finished_after = e ∙ sym (ap (λ (x : Answer). finished_of x f) (answer-by b c h a D.tells));
    }

  pub read-not : (old : Places) → laid_out b ≡ false → ReadExported b 1 old old
  unfolding answer_number answered_places
  read-not old h = record {
    number = sym (ap answer_number (not-answered b read h));
    values_are = sym (ap (λ (a : Answer). answered_places a old) (not-answered b read h));
  }

  pub read-laid : laid_out b ≡ true → (a : Result Outcome Refusal) (old new : Places) (r : ℕ) → read_answer a ≡ answer_on (decoded b) read → ReadStored a old r new
      → ReadExported b r old new
  read-laid h a old _ r D S =
      let e : answer_for b read ≡ read_answer a = answer-by b read h (read_answer a) D in
      record { number = S.number ∙ sym (ap answer_number e); values_are = S.values_are ∙ sym (ap (λ (x : Answer). answered_places x old) e) }

-- a promise on the struct that was decoded
pub of-decoded : (b : List ℕ) (s : Session) (c : Call) (a : Answer) (s' : Session) → s ≡ decoded b
    → CallDone s c a s' → CallDone (decoded b) c a s'
of-decoded b s c a s' e D = subst (λ (z : Session). CallDone z c a s') e D

pub load-decoded : (b : List ℕ) (s : Session) (x : Inputs) (a : Answer) (s' : Session) (n y : List ℕ) → s ≡ decoded b → LoadDone s x a s' n y
    → LoadDone (decoded b) x a s' n y
load-decoded b s x a s' n y e D = subst (λ (z : Session). LoadDone z x a s' n y) e D

pub read-decoded : (b : List ℕ) (s : Session) (a : Answer) → s ≡ decoded b → a ≡ answer_on s read → a ≡ answer_on (decoded b) read
read-decoded b s a e q = q ∙ ap (λ (z : Session). answer_on z read) e
