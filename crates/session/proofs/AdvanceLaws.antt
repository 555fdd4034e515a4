-- Advance, by what the code has found: one law for each answer.
--     advance-1, advance-17, advance-18, step-found
--     advance-limits, next-args, handle-args       what the calls below ask
use Prim.Native.Nat.{ℕ, suc, ◌+◌, ◌-◌, ◌≤◌, ◌<◌}
use mathlib.Core.Path.{◌≡◌, refl, sym, ap, ◌∙◌}
use mathlib.Core.Bool.{Bool, true, false, not, cond, ◌&&◌}
use mathlib.Core.List.{[], ◌∷◌}
use mathlib.Core.Option.{Option, none, some}
use native.Mathlib.Omega.{arith}
use native.Mathlib.Numerals.{add-one}
use lib.Dec.{eqb}
use lib.ListN.{length, get_or, take, set}
use lib.Seq.{length-take-le}
use borrow.Author.Tests.{not-true, not-false, le-leb, lt-ltb, eq-eqb}
use Rattle.formats.specs.Checks.{check, first_no}
use Rattle.formats.specs.Rules.{rule_length}
use Rattle.formats.specs.Buffers.{limits_fit, buffers_fit, LimitArgs}
use Rattle.list_laws.proofs.BoolLaws.{and_both, and_left, and_right}
use Rattle.formats.proofs.CheckLaws.{first_no-yes, first_no-no}
use Rattle.formats.proofs.BufferLaws.{Lengths, lengths-are}
use Rattle.tables.specs.declared.answers.Climbed.{Climbed}
use Rattle.tables.specs.declared.answers.Climbed.TheVariants.{Reached as To, OutOfRange}
use Rattle.tables.specs.declared.answers.Reached.{Reached}
use Rattle.tables.specs.Climbs.{climbed_of, reached}
use Rattle.tables.proofs.ClimbBounds.{Bounded}
use Rattle.questions.specs.PartAnswers.{asked_fits, part_given}
use Rattle.questions.proofs.PartFits.{given_yes}
use Rattle.questions.proofs.PartBounds.{part-bounded}
use Rattle.formats.specs.Inputs.{Inputs, fits}
use Rattle.model.specs.Calls as calls
use Rattle.model.specs.Calls.{Call, advance, is_running}
use Rattle.model.specs.Refusals.{refusal}
use Rattle.model.specs.Model.{Acted, acted, last_then, stepped, advance_with, part_next, proceeds}
use Rattle.questions.specs.PartInputs.{view_by}
use Rattle.std.specs.Prelude.{Result, Ok, Err}
use Rattle.formats.specs.declared.refusals.Refusal.{Refusal}
use Rattle.formats.specs.declared.refusals.Refusal.TheVariants.{SessionState, LentLength, LentValue}
use Rattle.session.specs.declared.answers.Progress.{Progress}
use Rattle.session.specs.declared.answers.Progress.TheVariants.{More, Finished}
use Rattle.session.specs.declared.state.Phase.TheVariants.{Running}
use Rattle.session.specs.declared.state.Last.{Last}
use Rattle.session.specs.declared.state.Session.{Session}
use Rattle.session.specs.declared.answers.AdvanceStep.{AdvanceStep}
use Rattle.session.specs.Records.{phase_of, phase_to, sizes_of, stage_in, last_in, last_to, record_of, session_of, whole, valid}
use Rattle.session.specs.Answers.{advance_answer}
use Rattle.session.specs.Promises.{CallDone}
use Rattle.session.specs.inner.Shapes.{Shaped}
use Rattle.session.specs.inner.Steps.{NextArgs, HandleArgs, marked_in, stepped_head, answer_of, finished_head, step_by, step_on, StepFound}
use Rattle.session.proofs.PadLaws.{padded-take, padded-more}
use Rattle.session.proofs.RecordLaws.{Tails}
use Rattle.session.proofs.Holds.{Sized, Going, holds_of, tails-of, struct_is}
use Rattle.session.proofs.ActLaws.{Narrow, rises-below, running-is}
use Rattle.session.proofs.CallLaws.{unless-done, refused-done, proceeds-done}
use Rattle.session.proofs.StepLaws.{step-stores}

-- ---- the struct of a record with one more part

module _ (s : Session) (h : Shaped s) (T : Tails s) where
  lengths : (length (take s.head.m s.nodes) ≡ s.head.m) × (length (take s.head.m s.labels) ≡ s.head.m)
      × (length (take s.head.parts s.roots) ≡ s.head.parts) × (length (take s.head.handled s.states) ≡ s.head.handled)
  lengths = (
    length-take-le s.head.m s.nodes (omega (arith, h.nodes, T.few)),
    length-take-le s.head.m s.labels (omega (arith, h.labels, T.few)),
    length-take-le s.head.parts s.roots (omega (arith, h.roots, T.few_parts)),
    length-take-le s.head.handled s.states (omega (arith, h.states, T.few_handled)),
  )

  -- o is the last finished answer then
  stepped-struct : s.head.handled < 254 → (p : calls.Phase) (y : Reached) (b : Bool) (o : Last)
      → last_to (last_then p
      (record {
        state = y.state;
        yes = b;
        parts = s.head.parts;
        links = s.head.links + y.links;
        passed = s.head.passed + y.passed;
      })
      (last_in s.head.last)) ≡ o
      → session_of (stepped (record_of s) p y b)
      ≡ whole (stepped_head s.head (phase_to p) y.links y.passed b o) s.nodes s.labels s.roots
      (set s.states s.head.handled y.state)
  unfolding session_of stepped record_of
  stepped-struct k p y b o e =
      let more = padded-more 254 s.head.handled s.states y.state h.states k T.states-end in
      rw (
        more.1,
        more.0,
        lengths.0,
        lengths.1,
        lengths.2,
        padded-take 64 s.head.m s.nodes h.nodes T.nodes-end,
        padded-take 64 s.head.m s.labels h.labels T.labels-end,
        padded-take 254 s.head.parts s.roots h.roots T.roots-end,
        e,
      )

module _ (s : Session) (h : Shaped s) (x : Inputs) (b : Bool) (may : b ≡ (valid s && is_running (phase_of s.head.phase))) where
  abbrev C : Call
  C = advance x

  pub advance-1 : not b ≡ true → CallDone s C (advance_answer (Err SessionState)) s
  unfolding advance_answer refusal
  advance-1 f =
      unless-done s C h (is_running (phase_of s.head.phase)) (check 17 (fits (sizes_of s) x) ∷ []) refl (sym may ∙ not-true b f)

  module _ (now : not b ≡ false) where
    passes : (valid s && is_running (phase_of s.head.phase)) ≡ true
    passes = sym may ∙ not-false b now

    v : valid s ≡ true
    v = and_left (valid s) (is_running (phase_of s.head.phase)) passes

    r : is_running (phase_of s.head.phase) ≡ true
    r = and_right (valid s) (is_running (phase_of s.head.phase)) passes

    G : Going (record_of s)
    unfolding record_of
    G = running-is (phase_of s.head.phase) (record_of s) r (holds_of s h v)

    T : Tails s
    T = tails-of s v

    L : (length (take s.head.m s.nodes) ≡ s.head.m) × (length (take s.head.m s.labels) ≡ s.head.m)
        × (length (take s.head.parts s.roots) ≡ s.head.parts) × (length (take s.head.handled s.states) ≡ s.head.handled)
    L = lengths s h T

    Z : Sized (sizes_of s)
    unfolding record_of
    Z = G.sizes

    pub advance-limits : LimitArgs s.head.sizes.n s.head.sizes.s s.head.sizes.k
    advance-limits = record { most = Z.nodes_most; few = Z.states_most; labels = Z.labels_most }

    pub next-args : NextArgs s
    next-args = record {
      few = omega (arith, h.nodes, T.few);
      few_labels = omega (arith, h.labels, T.few);
      few_parts = omega (arith, h.roots, T.few_parts);
      few_handled = omega (arith, h.states, T.few_handled);
    }

    few_handled : s.head.handled < 254
    unfolding record_of
    few_handled = omega (arith, G.handled, L.2, L.3, T.few_parts)

    -- what the code and the model do with a part, by whether it is the last
    abbrev by_code : Reached → Bool → AdvanceStep
    by_code y d =
        let h = s.head in
        cond d
        (record {
          answer = Ok Finished;
          head = finished_head h y.state y.links y.passed (marked_in h.sizes.s h.sizes.k x.rules y.state);
          stored = true;
          state = y.state;
        })
        (record { answer = Ok More; head = stepped_head h Running y.links y.passed false h.last; stored = true; state = y.state })

    abbrev by_model : Reached → Bool → Acted
    by_model y d =
        cond d
        (acted calls.Answer.finished (stepped (record_of s) calls.Phase.answered y (marked_in s.head.sizes.s s.head.sizes.k x.rules y.state)))
        (acted calls.Answer.more (stepped (record_of s) calls.Phase.running y false))

    same_step : (y : Reached) (d : Bool) → (advance_answer (by_code y d).answer ≡ (by_model y d).answer)
        × (step_on s (by_code y d) ≡ session_of (by_model y d).record')
    unfolding advance_answer phase_to
    same_step y true = (
      refl,
      sym (stepped-struct s h T few_handled calls.Phase.answered y (marked_in s.head.sizes.s s.head.sizes.k x.rules y.state)
          (answer_of s.head y.state y.links y.passed (marked_in s.head.sizes.s s.head.sizes.k x.rules y.state)) refl),
    )
    same_step y false = (refl, sym (stepped-struct s h T few_handled calls.Phase.running y false s.head.last T.last_end))

    last-same : eqb (suc (length (record_of s).states)) (length (record_of s).roots) ≡ eqb (s.head.handled + 1) s.head.parts
    unfolding record_of
    last-same = rw (L.2, L.3, add-one s.head.handled)

    on : refusal (stage_in s) C ≡ first_no (check 17 (fits (sizes_of s) x) ∷ [])
    unfolding refusal
    on = first_no-yes 1 (is_running (phase_of s.head.phase)) (check 17 (fits (sizes_of s) x) ∷ []) r

    module _ (f : Bool)
        (fit : f ≡ buffers_fit s.head.sizes.n s.head.sizes.s (rule_length s.head.sizes.s s.head.sizes.k)
        (length x.plan) (length x.rules) (length x.node_table) (length x.state_table)) where
      fits-is : fits (sizes_of s) x ≡ f
      unfolding fits buffers_fit
      fits-is = sym fit

      pub advance-17 : not f ≡ true → CallDone s C (advance_answer (Err LentLength)) s
      unfolding advance_answer
      advance-17 g = refused-done s C h v 16 (on ∙ first_no-no 17 (fits (sizes_of s) x) [] (fits-is ∙ not-true f g))

      module _ (yes : not f ≡ false) where
        no-refusal : refusal (stage_in s) C ≡ 0
        unfolding first_no
        no-refusal = on ∙ first_no-yes 17 (fits (sizes_of s) x) [] (fits-is ∙ not-false f yes)

        long : Lengths s.head.sizes.n s.head.sizes.s (rule_length s.head.sizes.s s.head.sizes.k)
            (length x.plan) (length x.rules) (length x.node_table) (length x.state_table)
        long =
            lengths-are s.head.sizes.n s.head.sizes.s (rule_length s.head.sizes.s s.head.sizes.k)
            (length x.plan) (length x.rules) (length x.node_table) (length x.state_table)
            (sym fit ∙ not-false f yes)

        limits-yes : limits_fit s.head.sizes.n s.head.sizes.s s.head.sizes.k ≡ true
        unfolding limits_fit
        limits-yes =
            and_both _ _ (and_both _ _ (le-leb 1 s.head.sizes.n Z.nodes-least) (le-leb s.head.sizes.n 65535 Z.nodes_most))
            (and_both _ _ (and_both _ _ (le-leb 1 s.head.sizes.s Z.states-least) (le-leb s.head.sizes.s 16 Z.states_most))
            (and_both _ _ (le-leb 1 s.head.sizes.k Z.labels_least) (le-leb s.head.sizes.k 64 Z.labels_most)))

        asked-yes : asked_fits s.head.sizes.n (take s.head.parts s.roots) (take s.head.handled s.states)
            (take s.head.m s.nodes) (take s.head.m s.labels)
            ≡ true
        unfolding asked_fits record_of
        asked-yes =
            let A = G.asked in
            let below = rises-below (s.head.sizes.n - 1) (take s.head.parts s.roots) (length (take s.head.handled s.states))
            A.rises G.handled in
            and_both _ _ (lt-ltb (length (take s.head.handled s.states)) (length (take s.head.parts s.roots)) G.handled)
            (and_both _ _ (le-leb (length (take s.head.parts s.roots)) 65535 (omega (arith, A.few_parts)))
            (and_both _ _
            (lt-ltb (get_or (take s.head.parts s.roots) (length (take s.head.handled s.states)) 0) s.head.sizes.n
            (omega (arith, below, Z.nodes-least)))
            (and_both _ _ (eq-eqb (length (take s.head.m s.nodes)) (length (take s.head.m s.labels)) (sym A.same))
            (le-leb (length (take s.head.m s.nodes)) 65535 (omega (arith, A.few))))))

        given : part_given s.head.sizes.n s.head.sizes.s s.head.sizes.k x.plan x.rules x.node_table x.state_table
            (take s.head.parts s.roots)
            (take s.head.handled s.states)
            (take s.head.m s.nodes) (take s.head.m s.labels) ≡ part_next (record_of s) x
        unfolding record_of
        given =
            given_yes s.head.sizes.n s.head.sizes.s s.head.sizes.k x.plan x.rules x.node_table x.state_table
            (take s.head.parts s.roots)
            (take s.head.handled s.states)
            (take s.head.m s.nodes) (take s.head.m s.labels) limits-yes
            (sym fit ∙ not-false f yes) asked-yes

        acts : Narrow (record_of s) C → (o : Option Reached) → part_next (record_of s) x ≡ o → (a : calls.Answer) (t : Session)
            → a ≡ (advance_with (record_of s) x o).answer → t ≡ session_of (advance_with (record_of s) x o).record'
            → CallDone s C a t
        unfolding proceeds
        acts w o e a t i j =
            proceeds-done s C h v w no-refusal a t
            (i ∙ ap (λ (z : Option Reached). (advance_with (record_of s) x z).answer) (sym e))
            (j ∙ ap (λ (z : Option Reached). session_of (advance_with (record_of s) x z).record') (sym e))

        module _ (K : Climbed)
            (found : K ≡ climbed_of (part_given s.head.sizes.n s.head.sizes.s s.head.sizes.k x.plan x.rules x.node_table x.state_table
            (take s.head.parts s.roots) (take s.head.handled s.states) (take s.head.m s.nodes)
            (take s.head.m s.labels)))
            (few : (y : Reached)
            → part_given s.head.sizes.n s.head.sizes.s s.head.sizes.k x.plan x.rules x.node_table x.state_table
            (take s.head.parts s.roots) (take s.head.handled s.states) (take s.head.m s.nodes)
            (take s.head.m s.labels) ≡ some y → y.passed ≤ 65535) where
          narrow : Narrow (record_of s) C
          narrow y e = few y (given ∙ e)

          pub advance-18 : K ≡ OutOfRange → CallDone s C (advance_answer (Err LentValue)) s
          unfolding advance_answer advance_with climbed_of
          advance-18 e = go (part_next (record_of s) x) refl (found ∙ ap climbed_of given)
            where
              go : (o : Option Reached) → part_next (record_of s) x ≡ o → K ≡ climbed_of (part_next (record_of s) x)
                  → CallDone s C (calls.Answer.refused 18) s
              go none i j = acts narrow none i (calls.Answer.refused 18) s refl (sym (struct_is s h v))
              go (some y) i j =
                  let k : K ≡ To y = j ∙ ap climbed_of i in
                  let z : ◌≡◌ {A = ℕ} 0 1 = cc in
                  absurd (omega arith)

          module _ (q l p : ℕ) (result : K ≡ To (reached q l p)) where
            one : (y : Reached) × (part_next (record_of s) x ≡ some y) × (y.state ≡ q) × (y.links ≡ l) × (y.passed ≡ p)
            unfolding climbed_of
            one = go (part_next (record_of s) x) refl (found ∙ ap climbed_of given)
              where
                go : (o : Option Reached) → part_next (record_of s) x ≡ o → K ≡ climbed_of (part_next (record_of s) x)
                    → (y : Reached) × (part_next (record_of s) x ≡ some y) × (y.state ≡ q) × (y.links ≡ l) × (y.passed ≡ p)
                go none i j =
                    let k : K ≡ OutOfRange = j ∙ ap climbed_of i in
                    let z : ◌≡◌ {A = ℕ} 0 1 = cc in
                    absurd (omega arith)
                go (some y) i j =
                    let k : To y ≡ To (reached q l p) = sym (j ∙ ap climbed_of i) ∙ result in
                    let e : y ≡ reached q l p = cc in
                    (y, i, ap (λ (w : Reached). w.state) e, ap (λ (w : Reached). w.links) e, ap (λ (w : Reached). w.passed) e)

            bounded : Bounded (view_by (sizes_of s) x) one.0
            unfolding record_of
            bounded = part-bounded (view_by (sizes_of s) x) _ _ _ _ _ one.0 one.1

            pub handle-args : HandleArgs s.head x.rules q l p
            unfolding record_of
            handle-args = record {
              marks = record {
                exact = long.table_is;
                states_most = Z.states_most;
                labels_most = Z.labels_most;
                state = omega (arith, bounded.state, one.2);
              };
              step = record {
                room = few_handled;
                links_fit = omega (arith, few_handled, G.asked.links_passed, G.asked.few-passed, L.3, bounded.links, one.3, Z.nodes_most);
                passed_fit = omega (arith, few_handled, G.asked.few-passed, L.3, narrow one.0 one.1, one.4);
              };
            }

            advance-yes : (t : AdvanceStep) → t ≡ step_by s.head x.rules q l p
                → CallDone s C (advance_answer t.answer) (step_on s t)
            unfolding step_by advance_with record_of
            advance-yes t e =
                let y = one.0 in
                let d = eqb (s.head.handled + 1) s.head.parts in
                let f : t ≡ by_code y d = rw (one.2, one.3, one.4) e in
                let m : advance_with (record_of s) x (some y) ≡ by_model y d = ap (by_model y) last-same in
                acts narrow (some y) one.1 (advance_answer t.answer) (step_on s t)
                (ap (λ (w : AdvanceStep). advance_answer w.answer) f ∙ (same_step y d).0 ∙ ap (λ (w : Acted). w.answer) (sym m))
                (ap (step_on s) f ∙ (same_step y d).1 ∙ ap (λ (w : Acted). session_of w.record') (sym m))

            pub step-found : (t : AdvanceStep) → t ≡ step_by s.head x.rules q l p → StepFound s C t
            step-found t e =
                record { done = advance-yes t e; stores = step-stores s.head x.rules q l p t e; room = λ f. handle-args.step.room }
