-- Load, by what the code has found.
--     load-1           check 1 says no
--     load-built       the tables were built; load-headers: then both headers are whole
--     load-refused     the build refused
use Prim.Native.Nat.{ℕ, zero, suc}
use mathlib.Core.Path.{◌≡◌, refl, sym, ap, ◌∙◌}
use mathlib.Core.Bool.{Bool, true, false, not, cond, ◌&&◌}
use mathlib.Core.List.{List, ◌∷◌}
use native.Mathlib.Omega.{arith}
use lib.ListN.{length}
use borrow.Author.Tests.{not-true, not-false}
use Rattle.formats.specs.Plan.{node_count}
use Rattle.formats.specs.Rules.{state_count, label_count}
use Rattle.formats.specs.Checks.{Check, check, first_no, build_checks}
use Rattle.formats.specs.Built.{built_node_table, built_state_table}
use Rattle.list_laws.proofs.BoolLaws.{and_left, and_right}
use Rattle.formats.proofs.CheckLaws.{first_no-yes, first_no-no}
use Rattle.formats.proofs.InputLaws.{build-passes}
use Rattle.tables.specs.Answers.{written, BuildDone}
use Rattle.formats.specs.Refusals.{refusal_number, answer_number}
use Rattle.formats.proofs.RefusalLaws.{number-not-0}
use Rattle.formats.specs.Inputs.{Inputs}
use Rattle.model.specs.Calls as calls
use Rattle.model.specs.Calls.{load, may_load}
use Rattle.model.specs.Refusals.{refusal}
use Rattle.model.specs.Model.{idle, proceeds}
use Rattle.std.specs.Prelude.{Result, Ok, Err}
use Rattle.formats.specs.declared.refusals.Refusal.{Refusal}
use Rattle.formats.specs.declared.refusals.Refusal.TheVariants.{SessionState}
use Rattle.session.specs.declared.state.Phase.TheVariants.{Loaded}
use Rattle.session.specs.declared.state.Last.{Last}
use Rattle.session.specs.declared.state.Session.{Session}
use Rattle.session.specs.Records.{phase_of, phase_to, stage_in, record_of, session_of, idle_session, no_last, valid}
use Rattle.session.specs.Answers.{call_answer}
use Rattle.session.specs.Promises.{CallDone, LoadDone, refusal_on}
use Rattle.session.specs.inner.Shapes.{Shaped, Headers, loaded_from}
use Rattle.session.proofs.CallLaws.{unless-done, refused-done, proceeds-done}

-- N, S and K as they were read
abbrev loaded_of : ℕ → ℕ → ℕ → Last → Session
loaded_of n s k o = idle_session Loaded (record { n = n; s = s; k = k }) o

pub loaded-same : (plan rules : List ℕ) (n s k : ℕ) (o : Last) (t : Session) → t ≡ loaded_of n s k o → o ≡ no_last
    → n ≡ node_count plan → s ≡ state_count rules → k ≡ label_count rules → t ≡ session_of (loaded_from plan rules)
unfolding session_of idle phase_to
loaded-same plan rules n s k o t e f a b c =
    e ∙ ap (loaded_of n s k) f ∙ ap (λ (i : ℕ). loaded_of i s k no_last) a ∙ ap (λ (i : ℕ). loaded_of (node_count plan) i k no_last) b
    ∙ ap (λ (i : ℕ). loaded_of (node_count plan) (state_count rules) i no_last) c

module _ (s : Session) (h : Shaped s) (x : Inputs) (b : Bool) (may : b ≡ (valid s && may_load (phase_of s.head.phase))) where
  abbrev checks : List Check
  checks = build_checks x.plan x.rules (length x.node_table) (length x.state_table)

  -- the number that a refusal gives
  no_number : (valid s && may_load (phase_of s.head.phase)) ≡ false → refusal_on s (load x) ≡ 1
  unfolding refusal_on refusal record_of
  no_number e = go (valid s) refl e
    where
      go : (a : Bool) → valid s ≡ a → (a && may_load (phase_of s.head.phase)) ≡ false
          → cond a (first_no (check 1 (may_load (phase_of s.head.phase)) ∷ checks)) 1 ≡ 1
      go true v f = first_no-no 1 (may_load (phase_of s.head.phase)) checks f
      go false v f = refl

  pub load-1 : not b ≡ true → LoadDone s x (call_answer (Err SessionState)) s x.node_table x.state_table
  unfolding call_answer refusal written
  load-1 f =
      let n : refusal_on s (load x) ≡ 1 = no_number (sym may ∙ not-true b f) in
      record {
        call = unless-done s (load x) h (may_load (phase_of s.head.phase)) checks refl (sym may ∙ not-true b f);
        node_table_written = rw n;
        state_table_written = rw n;
      }

  module _ (now : not b ≡ false) where
    passes : (valid s && may_load (phase_of s.head.phase)) ≡ true
    passes = sym may ∙ not-false b now

    v : valid s ≡ true
    v = and_left (valid s) (may_load (phase_of s.head.phase)) passes

    on : refusal (stage_in s) (load x) ≡ first_no checks
    unfolding refusal
    on = first_no-yes 1 (may_load (phase_of s.head.phase)) checks (and_right (valid s) (may_load (phase_of s.head.phase)) passes)

    number : refusal_on s (load x) ≡ first_no checks
    unfolding refusal_on record_of
    number = rw v on

    module _ (a : Result Unit Refusal) (node_table' state_table' : List ℕ)
        (D : BuildDone (first_no checks) (built_node_table x.plan) (built_state_table x.plan x.rules) x.node_table
        x.state_table a node_table' state_table') where
      done : (k : calls.Answer) (t : Session) → CallDone s (load x) k t → LoadDone s x k t node_table' state_table'
      done k t c = record {
        call = c;
        node_table_written = D.node_table_written ∙ ap (λ (i : ℕ). written i (built_node_table x.plan) x.node_table) (sym number);
        state_table_written = D.state_table_written ∙ ap (λ (i : ℕ). written i (built_state_table x.plan x.rules) x.state_table)
            (sym number);
      }

      module _ (u : Unit) (e : a ≡ Ok u) where
        none-fails : first_no checks ≡ 0
        none-fails = sym D.number ∙ ap answer_number e

        pub load-headers : Headers x.plan x.rules
        load-headers =
            let p = build-passes x.plan x.rules (length x.node_table) (length x.state_table) none-fails in
            record {
              plan_head = p.0.long;
              rules_head = p.1.long;
              nodes_most = p.0.most;
              states_most = p.1.states_most;
              labels_most = p.1.labels_most;
            }

        pub load-built : (t : Session) → t ≡ session_of (loaded_from x.plan x.rules)
            → LoadDone s x (call_answer (Ok tt)) t node_table' state_table'
        unfolding call_answer proceeds
        load-built t f =
            done calls.Answer.accepted t (proceeds-done s (load x) h v tt (on ∙ none-fails) calls.Answer.accepted t refl f)

      pub load-refused : (r : Refusal) → a ≡ Err r → LoadDone s x (call_answer (Err r)) s node_table' state_table'
      unfolding call_answer
      load-refused r e = go (refusal_number r) (sym D.number ∙ ap answer_number e) (number-not-0 r)
        where
          go : (n : ℕ) → first_no checks ≡ n → (n ≡ 0 → ⊥) → LoadDone s x (calls.Answer.refused n) s node_table' state_table'
          go zero f i = absurd (i refl)
          go (suc n) f i = done (calls.Answer.refused (suc n)) s (refused-done s (load x) h v n (on ∙ f))
