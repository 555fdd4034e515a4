-- What a Load of eight screens ends in.
--     no-run-load      a run of another length: 25
--     busy-load        a screen runs or its bytes are no record: 1
--     refused-load     none does, and the first one's own Load is refused: nothing is altered
--     cleared-load     none does, and the first one's own Load is accepted: all eight are as it is then
use Prim.Native.Nat.{ℕ, zero, suc, ◌<◌}
use mathlib.Core.Path.{◌≡◌, refl, sym, ◌∙◌, ap, subst}
use mathlib.Core.Bool.{Bool, true, false, cond, not}
use mathlib.Core.List.{List, ◌++◌}
use native.Mathlib.Omega.{arith}
use lib.ListN.{length, take, drop, take-append-drop}
use lib.Seq.{length-take-le, take_at}
use borrow.Author.Tests.{eq-eqb, ne_eqb}
use Rattle.list_laws.specs.Rows.{rows}
use Rattle.list_laws.proofs.RowLaws.{rows_ext}
use Rattle.formats.specs.Built.{built_node_table, built_state_table}
use Rattle.formats.specs.Checks.{first_no}
use Rattle.formats.specs.Inputs.{Inputs, sizes_in}
use Rattle.formats.proofs.CheckLaws.{first_no-yes, first_no-no}
use Rattle.tables.specs.Answers.{written}
use Rattle.model.specs.Calls.{load}
use Rattle.model.specs.Model.{loaded_record}
use Rattle.screens.specs.ScreenCalls.{load_all, ScreenAnswer, answer_in, any_runs, Target, nobody, every_screen}
use Rattle.screens.specs.ScreenCalls.{load_all_checks, load_target, target, Another}
use Rattle.screens.specs.Turns.{number_after}
use Rattle.screens.proofs.TargetLaws.{any-no}
use Rattle.session.specs.declared.state.Session.{Session}
use Rattle.session.specs.Records.{session_of, valid}
use Rattle.session.specs.Promises.{record_on}
use Rattle.records.specs.Layout.{encoded, decoded}
use Rattle.capi_session.specs.SessionExported as one-record
use Rattle.capi_session.specs.SessionExported.{answer_for, answer_number, record_for, CallExported}
use Rattle.capi_session.specs.SessionExported.{LoadExported}
use Rattle.capi_screens.specs.RunLayout.{run_length, record_at, busy}
use Rattle.capi_screens.specs.ScreensExported.{target_in, answer_of, bytes_of, OwnExported, load_number}
use Rattle.capi_screens.specs.ScreensExported.{ScreensLoadExported}
use Rattle.capi_screens.proofs.PartLaws.{part-row}
use Rattle.capi_screens.proofs.ExportedLaws.{not-run, not-run-answer, nobody-exported, answer-by, bytes-by}
use Rattle.capi_screens.proofs.ExportedLaws.{refused-number}
use Rattle.capi_screens.proofs.RestLaws.{is_busy, checks_of, valid-is, number-told, load-number}
use Rattle.capi_screens.proofs.RestLaws.{struct-after, bytes_after, one-loaded}

module _ (b : List ℕ) (x : Inputs) (k : ℕ) where
  pub no-run-load : (length b ≡ run_length → ⊥) → ScreensLoadExported b x 25 b x.node_table x.state_table k k
  unfolding load_number written
  no-run-load h =
      let n : load_number b x ≡ 25 =
      ap (λ (t : Bool). cond t (first_no (load_all_checks (busy b) x)) 25) (ne_eqb (length b) run_length h) in
      record {
        call = not-run b (load_all x) h;
        next_after = sym (ap (number_after k) (not-run-answer b (load_all x) h));
        node_table_written = sym (ap (λ (n : ℕ). written n (built_node_table x.plan) x.node_table) n);
        state_table_written = sym (ap (λ (n : ℕ). written n (built_state_table x.plan x.rules) x.state_table) n);
      }

  module _ (l : length b ≡ run_length) where
    number_by : (n : ℕ) → first_no (load_all_checks (busy b) x) ≡ n → load_number b x ≡ n
    unfolding load_number
    number_by n e =
        ap (λ (t : Bool). cond t (first_no (load_all_checks (busy b) x)) 25) (eq-eqb (length b) run_length l) ∙ e

    load-to : (n : ℕ) → first_no (load_all_checks (busy b) x) ≡ n → target_in b (load_all x) ≡ load_target n x
    unfolding target_in target
    load-to n e = ap (λ (m : ℕ). load_target m x) e

    no-load : (n : ℕ) → first_no (load_all_checks (busy b) x) ≡ suc n
        → ScreensLoadExported b x (suc n) b x.node_table x.state_table k k
    unfolding load_target answer_of written
    no-load n e = record {
      call = nobody-exported b (load_all x) l (suc n) (load-to (suc n) e);
      next_after = sym (ap (number_after k) (answer-by b (load_all x) l (nobody (suc n)) (load-to (suc n) e)));
      node_table_written =
          sym (ap (λ (m : ℕ). written m (built_node_table x.plan) x.node_table) (number_by (suc n) e));
      state_table_written =
          sym (ap (λ (m : ℕ). written m (built_state_table x.plan x.rules) x.state_table) (number_by (suc n) e));
    }

    pub busy-load : any_runs 8 (busy b) ≡ true → ScreensLoadExported b x 1 b x.node_table x.state_table k k
    busy-load e = no-load 0 (first_no-no 1 (not (any_runs 8 (busy b))) (checks_of x) (ap not e))

    module _ (rest : any_runs 8 (busy b) ≡ false) where
      resting : (i : ℕ) → i < 8 → is_busy (record_at b i) ≡ false
      resting i h = any-no 8 (busy b) rest i h

      all-number : first_no (load_all_checks (busy b) x) ≡ first_no (checks_of x)
      all-number = first_no-yes 1 (not (any_runs 8 (busy b))) (checks_of x) (ap not rest)

      module _ (r : ℕ) (p nt st : List ℕ) (E : LoadExported (take 983 b) x r p nt st) where
        first_rest : is_busy (take 983 b) ≡ false
        first_rest = resting 0 (omega arith)

        told : r ≡ first_no (load_all_checks (busy b) x)
        told = E.call.number ∙ number-told (take 983 b) x first_rest ∙ sym all-number

        same_number : one-record.load_number (take 983 b) x ≡ load_number b x
        same_number = load-number (take 983 b) x first_rest ∙ sym all-number ∙ sym (number_by _ refl)

        nodes : nt ≡ written (load_number b x) (built_node_table x.plan) x.node_table
        nodes = E.node_table_written ∙ ap (λ (n : ℕ). written n (built_node_table x.plan) x.node_table) same_number

        states : st ≡ written (load_number b x) (built_state_table x.plan x.rules) x.state_table
        states = E.state_table_written
            ∙ ap (λ (n : ℕ). written n (built_state_table x.plan x.rules) x.state_table) same_number

        pub refused-load : (r ≡ 0 → ⊥) → ScreensLoadExported b x r (p ++ drop 983 b) nt st k k
        unfolding record_for
        refused-load z =
            subst (λ (t : List ℕ). ScreensLoadExported b x r t nt st k k) (sym whole) (go r told z)
          where
            whole : p ++ drop 983 b ≡ b
            whole =
                ap (λ (t : List ℕ). t ++ drop 983 b)
                (E.call.left ∙ refused-number (answer_for (take 983 b) (load x))
                (encoded (record_on (decoded (take 983 b)) (load x))) (take 983 b) (λ e. z (E.call.number ∙ e)))
                ∙ take-append-drop 983 b

            go : (n : ℕ) → n ≡ first_no (load_all_checks (busy b) x) → (n ≡ 0 → ⊥) → ScreensLoadExported b x n b nt st k k
            go zero e y = absurd (y refl)
            go (suc n) e y =
                let N = no-load n (sym e) in
                record {
                  call = N.call;
                  next_after = N.next_after;
                  node_table_written = nodes;
                  state_table_written = states;
                }

        pub cleared-load : r ≡ 0 → length p ≡ length (take 983 b) → (b' : List ℕ)
            → b' ≡ rows 8 (λ i. take 983 (p ++ drop 983 b)) → ScreensLoadExported b x 0 b' nt st k 0
        unfolding load_target answer_of bytes_of answer_in answer_number
        cleared-load z same b' c = record {
          call = record {
            number =
                sym (ap (λ (a : ScreenAnswer). answer_number (answer_in a))
                (answer-by b (load_all x) l (every_screen x) t));
            left = left ∙ sym (bytes-by b (load_all x) l (every_screen x) t);
            unchanged = λ y. absurd (y refl);
            own = λ _. subst (λ (u : Target). OwnExported b b' u 0) (sym t)
                (λ i h. subst (λ (q : List ℕ). CallExported (record_at b i) (load x) 0 q) (sym (own-record i h))
                (one-loaded (record_at b i) x (resting i h) none loaded-valid));
            others = λ _ j h y. absurd (subst (λ (u : Target). Another u j) t y);
          };
          next_after = sym (ap (number_after k) (answer-by b (load_all x) l (every_screen x) t));
          node_table_written = nodes;
          state_table_written = states;
        }
          where
            w : length p ≡ 983
            w = same ∙ length-take-le 983 b (omega (arith, l))

            L : Session
            L = session_of (loaded_record (sizes_in x))

            all_none : first_no (load_all_checks (busy b) x) ≡ 0
            all_none = sym told ∙ z

            none : first_no (checks_of x) ≡ 0
            none = sym all-number ∙ all_none

            t : target_in b (load_all x) ≡ every_screen x
            t = load-to 0 all_none

            loaded-valid : valid L ≡ true
            loaded-valid =
                subst (λ (u : Session). valid u ≡ true) (struct-after (take 983 b) x first_rest none)
                (E.call.stays (valid-is (take 983 b) x first_rest))

            p-is : p ≡ encoded L
            p-is = E.call.left ∙ bytes_after (take 983 b) x first_rest none

            left : b' ≡ rows 8 (λ i. encoded L)
            left =
                c ∙ rows_ext 8 (λ i. take 983 (p ++ drop 983 b)) (λ i. encoded L)
                (λ i h. take_at p (drop 983 b) 983 w ∙ p-is)

            own-record : (i : ℕ) → i < 8 → record_at b' i ≡ encoded L
            own-record i h =
                ap (λ (q : List ℕ). record_at q i) left
                ∙ part-row 983 8 (λ j. encoded L) (λ j m. ap length (sym p-is) ∙ w) i h
