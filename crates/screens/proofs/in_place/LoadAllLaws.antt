-- What a Load over eight structs ends in.
--     load-busy        a screen runs or is no record: 1, and nothing is altered
--     load-cleared     none does, and the first one's own Load is accepted: all eight are as it is then
--     load-refused     none does, and the first one's own Load is refused: nothing is altered
--     one-busy, cleared, turned_down    the same as the code has them
use Prim.Native.Nat.{ℕ, zero, suc, ◌<◌}
use mathlib.Core.Path.{◌≡◌, refl, sym, ◌∙◌, ap, subst}
use mathlib.Core.Bool.{Bool, true, false, cond, not, ◌||◌}
use mathlib.Core.List.{List}
use native.Mathlib.Omega.{arith}
use lib.ListN.{length, get_or, replicate, get_or-replicate}
use borrow.Author.Tests.{not-false}
use Rattle.list_laws.proofs.BoolLaws.{true-false}
use Rattle.formats.specs.Built.{built_node_table, built_state_table}
use Rattle.formats.specs.Checks.{Check, first_no, build_checks}
use Rattle.formats.specs.Inputs.{Inputs, sizes_in}
use Rattle.formats.proofs.CheckLaws.{first_no-yes, first_no-no}
use Rattle.tables.specs.Answers.{written}
use Rattle.model.specs.Calls.{load, Answer, refused, is_refused, is_running}
use Rattle.model.specs.Refusals.{refusal}
use Rattle.model.specs.Model.{fresh_record, stage_of, loaded_record, proceeds, unless, act}
use Rattle.screens.specs.ScreenCalls.{load_all, one, loads, answer_in, any_runs, Target, every_screen}
use Rattle.screens.specs.ScreenCalls.{load_target, target, Another}
use Rattle.screens.proofs.RecordLaws.{load-refusal}
use Rattle.screens.proofs.TargetLaws.{any-no, or-no-left, or-no-right}
use Rattle.session.specs.declared.state.Session.{Session}
use Rattle.session.specs.Records.{phase_of, fresh_session, record_of, session_of, valid}
use Rattle.session.specs.Promises.{CallDone, LoadDone, answer_on, record_on, refusal_on}
use Rattle.screens.specs.in_place.OnStructs.{at, is_busy, busy, target_in, answer_of, structs_of, OwnDone, ScreenDone}
use Rattle.session.specs.Answers.{call_answer}
use Rattle.session.proofs.Refine.{fresh-seen, narrow-seen}
use Rattle.std.specs.Prelude.{Result, Ok, Err}
use Rattle.formats.specs.Refusals.{refusal_number}
use Rattle.formats.specs.declared.refusals.Refusal.{Refusal}
use Rattle.formats.specs.declared.refusals.Refusal.TheVariants.{SessionState}
use Rattle.screens.specs.in_place.LoadAll.{load_answer, load_number, LoadAllDone}
use Rattle.screens.proofs.in_place.BusyLaws.{at-any}
use Rattle.screens.proofs.in_place.DoneLaws.{nobody-done, answer-by, structs-by}

abbrev checks_of : Inputs → List Check
checks_of x = build_checks x.plan x.rules (length x.node_table) (length x.state_table)

load-to : (ss : List Session) (x : Inputs) (n : ℕ) → load_number ss x ≡ n → target_in ss (load_all x) ≡ load_target n x
unfolding target_in target
load-to ss x n e = ap (λ (m : ℕ). load_target m x) e

-- ---- a struct at rest

module _ (s : Session) (x : Inputs) (rest : is_busy s ≡ false) where
  passes : valid s ≡ true
  passes = not-false (valid s) (or-no-left (not (valid s)) (is_running (phase_of s.head.phase)) rest)

  number_is : refusal (stage_of (record_of s)) (load x) ≡ first_no (checks_of x)
  unfolding record_of
  number_is =
      load-refusal (record_of s) x (or-no-right (not (valid s)) (is_running (phase_of s.head.phase)) rest)

  refusal_is : refusal_on s (load x) ≡ first_no (checks_of x)
  unfolding refusal_on
  refusal_is = ap (λ (b : Bool). cond b (refusal (stage_of (record_of s)) (load x)) 1) passes ∙ number_is

  answer-is : answer_on s (load x) ≡ (unless (first_no (checks_of x)) (record_of s) (load x)).answer
  unfolding answer_on act
  answer-is =
      ap (λ (b : Bool). cond b (act (record_of s) (load x)).answer (refused 1)) passes
      ∙ ap (λ (n : ℕ). (unless n (record_of s) (load x)).answer) number_is

  record_is : record_on s (load x) ≡ session_of (unless (first_no (checks_of x)) (record_of s) (load x)).record'
  unfolding record_on act
  record_is =
      ap (λ (b : Bool). cond b (session_of (act (record_of s) (load x)).record') s) passes
      ∙ ap (λ (n : ℕ). session_of (unless n (record_of s) (load x)).record') number_is

  left_is : first_no (checks_of x) ≡ 0 → record_on s (load x) ≡ session_of (loaded_record (sizes_in x))
  unfolding unless proceeds
  left_is e = record_is ∙ ap (λ (n : ℕ). session_of (unless n (record_of s) (load x)).record') e

-- a fresh struct is at rest, so a Load that nothing refuses leaves a record
fresh-rest : is_busy fresh_session ≡ false
unfolding is_running phase_of
fresh-rest = ap (λ (b : Bool). not b || is_running (phase_of fresh_session.head.phase)) fresh-seen.passes

loaded-valid : (x : Inputs) → first_no (checks_of x) ≡ 0 → valid (session_of (loaded_record (sizes_in x))) ≡ true
loaded-valid x e =
    subst (λ (t : Session). valid t ≡ true) (left_is fresh_session x fresh-rest e)
    (narrow-seen fresh_session fresh_record fresh-seen (load x) tt).passes

module _ (s : Session) (x : Inputs) (rest : is_busy s ≡ false) where
  -- where nothing fails
  taken : first_no (checks_of x) ≡ 0 → CallDone s (load x) Answer.accepted (session_of (loaded_record (sizes_in x)))
  unfolding unless proceeds
  taken e = record {
    tells = sym (answer-is s x rest ∙ ap (λ (n : ℕ). (unless n (record_of s) (load x)).answer) e);
    leaves = sym (left_is s x rest e);
    unchanged = λ n q. absurd (true-false (sym (ap is_refused q)));
    stays = λ _. loaded-valid x e;
    properties = λ _. tt;
  }

-- ---- eight of them

module _ (ss : List Session) (x : Inputs) (l : length ss ≡ 8) where
  pub load-busy : any_runs 8 (busy ss) ≡ true → LoadAllDone ss x (one (refused 1)) ss x.node_table x.state_table
  unfolding load_target written
  load-busy e =
      let n : load_number ss x ≡ 1 = first_no-no 1 (not (any_runs 8 (busy ss))) (checks_of x) (ap not e) in record {
        call = nobody-done ss (load_all x) l 1 (load-to ss x 1 n);
        node_table_written = sym (ap (λ (m : ℕ). written m (built_node_table x.plan) x.node_table) n);
        state_table_written = sym (ap (λ (m : ℕ). written m (built_state_table x.plan x.rules) x.state_table) n);
      }

  module _ (rest : any_runs 8 (busy ss) ≡ false) where
    resting : (i : ℕ) → i < 8 → is_busy (at ss i) ≡ false
    resting i h = any-no 8 (busy ss) rest i h

    all-number : load_number ss x ≡ first_no (checks_of x)
    all-number = first_no-yes 1 (not (any_runs 8 (busy ss))) (checks_of x) (ap not rest)

    same_number : refusal_on (at ss 0) (load x) ≡ load_number ss x
    same_number = refusal_is (at ss 0) x (resting 0 (omega arith)) ∙ sym all-number

    module _ (a : Answer) (s' : Session) (nt st : List ℕ) (D : LoadDone (at ss 0) x a s' nt st) where
      told : a ≡ (unless (load_number ss x) (record_of (at ss 0)) (load x)).answer
      told = D.call.tells ∙ answer-is (at ss 0) x (resting 0 (omega arith))
          ∙ ap (λ (n : ℕ). (unless n (record_of (at ss 0)) (load x)).answer) (sym all-number)

      nodes : nt ≡ written (load_number ss x) (built_node_table x.plan) x.node_table
      nodes = D.node_table_written ∙ ap (λ (n : ℕ). written n (built_node_table x.plan) x.node_table) same_number

      states : st ≡ written (load_number ss x) (built_state_table x.plan x.rules) x.state_table
      states = D.state_table_written
          ∙ ap (λ (n : ℕ). written n (built_state_table x.plan x.rules) x.state_table) same_number

      pub load-refused : (n : ℕ) → a ≡ refused n → LoadAllDone ss x (one (refused n)) ss nt st
      unfolding load_target unless proceeds
      load-refused n e = record {
        call = go (load_number ss x) refl (sym e ∙ told);
        node_table_written = nodes;
        state_table_written = states;
      }
        where
          number_of : Answer → ℕ
          number_of (Answer.refused k) = k
          number_of Answer.accepted = 0
          number_of (Answer.parts k) = 0
          number_of Answer.more = 0
          number_of Answer.finished = 0
          number_of (Answer.outcome o) = 0

          go : (m : ℕ) → load_number ss x ≡ m → refused n ≡ (unless m (record_of (at ss 0)) (load x)).answer
              → ScreenDone ss (load_all x) (one (refused n)) ss
          go zero q z = absurd (true-false (ap is_refused z))
          go (suc m) q z =
              subst (λ (k : ℕ). ScreenDone ss (load_all x) (one (refused k)) ss) (sym (ap number_of z))
              (nobody-done ss (load_all x) l (suc m) (load-to ss x (suc m) q))

      pub load-cleared : a ≡ Answer.accepted → LoadAllDone ss x (loads 0) (replicate 8 s') nt st
      unfolding load_target unless proceeds answer_in answer_of structs_of
      load-cleared e = record {
        call = go (load_number ss x) refl (sym e ∙ told);
        node_table_written = nodes;
        state_table_written = states;
      }
        where
          go : (m : ℕ) → load_number ss x ≡ m → Answer.accepted ≡ (unless m (record_of (at ss 0)) (load x)).answer
              → ScreenDone ss (load_all x) (loads 0) (replicate 8 s')
          go (suc m) q z = absurd (true-false (sym (ap is_refused z)))
          go zero q z =
              let t : target_in ss (load_all x) ≡ every_screen x = load-to ss x 0 q in
              let f : first_no (checks_of x) ≡ 0 = sym all-number ∙ q in
              let S : Session = session_of (loaded_record (sizes_in x)) in
              let w : s' ≡ S = D.call.leaves ∙ sym (taken (at ss 0) x (resting 0 (omega arith)) f).leaves in
              record {
                tells = sym (answer-by ss (load_all x) l (every_screen x) t);
                leaves = ap (λ (s : Session). replicate 8 s) w ∙ sym (structs-by ss (load_all x) l (every_screen x) t);
                unchanged = λ y. absurd (true-false (sym y));
                own = λ _. subst (λ (u : Target). OwnDone ss (replicate 8 s') u Answer.accepted) (sym t)
                    (λ i h. subst (λ (s : Session). CallDone (at ss i) (load x) Answer.accepted s)
                    (sym (get_or-replicate 8 i s' fresh_session h ∙ w)) (taken (at ss i) x (resting i h) f));
                others = λ _ j y. absurd (subst (λ (u : Target). Another u j) t y);
              }

-- ---- as the code has them

module _ (ss : List Session) (x : Inputs) (d : Session) (l : length ss ≡ 8) (rest : any_runs 8 (busy ss) ≡ false)
    (r : Result Unit Refusal)
    (s' : Session) (nt st : List ℕ) (D : LoadDone (get_or ss 0 d) x (call_answer r) s' nt st) where
  of-first : LoadDone (at ss 0) x (call_answer r) s' nt st
  of-first = subst (λ (s : Session). LoadDone s x (call_answer r) s' nt st) (at-any ss 0 d (omega arith)) D

  pub cleared : (u : Unit) → r ≡ Ok u → LoadAllDone ss x (load_answer (Ok tt)) (replicate 8 s') nt st
  unfolding load_answer call_answer
  cleared u e = load-cleared ss x l rest (call_answer r) s' nt st of-first (ap call_answer e)

  pub turned_down : (y : Refusal) → r ≡ Err y → LoadAllDone ss x (load_answer (Err y)) ss nt st
  unfolding load_answer call_answer
  turned_down y e = load-refused ss x l rest (call_answer r) s' nt st of-first (refusal_number y) (ap call_answer e)

pub one-busy : (ss : List Session) (x : Inputs) → length ss ≡ 8 → any_runs 8 (busy ss) ≡ true
    → LoadAllDone ss x (load_answer (Err SessionState)) ss x.node_table x.state_table
unfolding load_answer
one-busy ss x l e = load-busy ss x l e
