-- Start, by what the code has found: one law for each answer.
--     start-1, start-17, start-list, start-18, start-yes
--     start-limits, start-headers, start-room, start-listed, start-count     what the calls below ask
use Prim.Native.Nat.{ℕ, zero, suc, ◌*◌, ◌≤◌}
use mathlib.Core.Path.{◌≡◌, refl, sym, ap, ◌∙◌}
use mathlib.Core.Bool.{Bool, true, false, cond, not, ◌&&◌}
use mathlib.Core.List.{List, [], ◌∷◌, ◌++◌}
use mathlib.Core.Option.{some}
use native.Mathlib.Omega.{arith}
use lib.Dec.{eqb, leb}
use lib.ListN.{length, take, drop}
use lib.Seq.{length-take-le}
use borrow.Author.Tests.{not-true, not-false, eq-eqb, le-leb}
use Rattle.list_laws.specs.Tests.{all_below}
use Rattle.formats.specs.Plan.{plan_tree, labels_within}
use Rattle.formats.specs.Checks.{Check, check, first_no, list_checks}
use Rattle.formats.specs.Rules.{rule_length}
use Rattle.formats.specs.Buffers.{buffers_fit, LimitArgs}
use Rattle.list_laws.proofs.BoolLaws.{and_both, and_left, and_right}
use Rattle.formats.proofs.CheckLaws.{first_no-yes, first_no-no, first_no-none, first_no-append-zero, first_no-append-no}
use Rattle.formats.proofs.InputLaws.{ListPasses, list-passes, list-numbered}
use Rattle.formats.proofs.InputsLaws.{node-table-built}
use Rattle.formats.specs.Passing.{Built}
use Rattle.changes.specs.inner.LastDiffering.{last_differing, given_differing}
use Rattle.changes.proofs.LastDifferingLaws.{last-same, last-most, last_below}
use Rattle.questions.specs.ready.Members.{roots}
use Rattle.questions.proofs.ready.MonotoneLaws.{roots-same}
use Rattle.formats.proofs.BufferLaws.{Lengths, lengths-are}
use Rattle.questions.specs.declared.roots.Rooted.{Rooted}
use Rattle.questions.specs.RootsAnswers.{rooted_of}
use Rattle.questions.specs.Promises.{RootsDone}
use Rattle.questions.proofs.FitLaws.{fit_all}
use Rattle.formats.specs.Inputs.{Inputs, fits, node_table_built, sound}
use Rattle.model.specs.Calls as calls
use Rattle.model.specs.Calls.{Call, start, may_start}
use Rattle.model.specs.Refusals.{refusal}
use Rattle.model.specs.Model.{left_within, roots_in, started, proceeds}
use Rattle.model.proofs.ModelLaws.{start-built, left_below, left-most}
use Rattle.model.proofs.LayersHold.{layers}
use Rattle.questions.proofs.PartInputsLaws.{tree-size, cells}
use Rattle.std.specs.Prelude.{Result, Ok, Err}
use Rattle.formats.specs.Refusals.{refusal_number}
use Rattle.formats.proofs.RefusalLaws.{number-not-0}
use Rattle.formats.specs.declared.refusals.Refusal.{Refusal}
use Rattle.formats.specs.declared.refusals.Refusal.TheVariants.{SessionState, LentLength, LentValue}
use Rattle.session.specs.declared.state.Last.{Last}
use Rattle.session.specs.declared.state.Session.{Session}
use Rattle.session.specs.Records.{phase_of, phase_to, sizes_of, stage_in, record_of, session_of, padded, valid}
use Rattle.session.specs.Answers.{start_answer}
use Rattle.session.specs.Promises.{CallDone}
use Rattle.session.specs.inner.Shapes.{Shaped, HeaderArgs}
use Rattle.questions.specs.changed_roots.Args.{RootsArgs}
use Rattle.session.specs.inner.Steps.{ListArgs, started_of}
use Rattle.session.proofs.Holds.{Sized, holds_of, tails-of}
use Rattle.session.proofs.ActLaws.{few-roots, start-sized}
use Rattle.session.proofs.CallLaws.{unless-done, refused-done, proceeds-done}

module _ (s : Session) (h : Shaped s) (x : Inputs) (vs bs : List ℕ) (b : Bool)
    (may : b ≡ (valid s && may_start (phase_of s.head.phase))) where
  abbrev C : Call
  C = start x vs bs

  -- the checks of the list, and the last one
  abbrev list-checks : List Check
  list-checks = list_checks s.head.sizes.n s.head.sizes.k vs bs

  abbrev last : List Check
  last = check 18 (sound (sizes_of s) x) ∷ []

  pub start-1 : not b ≡ true → CallDone s C (start_answer (Err SessionState)) s
  unfolding start_answer refusal
  start-1 f =
      unless-done s C h (may_start (phase_of s.head.phase)) (check 17 (fits (sizes_of s) x) ∷ (list-checks ++ last)) refl
      (sym may ∙ not-true b f)

  module _ (now : not b ≡ false) where
    passes : (valid s && may_start (phase_of s.head.phase)) ≡ true
    passes = sym may ∙ not-false b now

    v : valid s ≡ true
    v = and_left (valid s) (may_start (phase_of s.head.phase)) passes

    m : may_start (phase_of s.head.phase) ≡ true
    m = and_right (valid s) (may_start (phase_of s.head.phase)) passes

    sized : Sized (sizes_of s)
    unfolding record_of
    sized = start-sized (phase_of s.head.phase) (record_of s) m (holds_of s h v)

    pub start-limits : LimitArgs s.head.sizes.n s.head.sizes.s s.head.sizes.k
    start-limits = record { most = sized.nodes_most; few = sized.states_most; labels = sized.labels_most }

    -- past check 1
    on : refusal (stage_in s) C ≡ first_no (check 17 (fits (sizes_of s) x) ∷ (list-checks ++ last))
    unfolding refusal
    on = first_no-yes 1 (may_start (phase_of s.head.phase)) (check 17 (fits (sizes_of s) x) ∷ (list-checks ++ last)) m

    module _ (f : Bool)
        (fit : f ≡ buffers_fit s.head.sizes.n s.head.sizes.s
        (rule_length s.head.sizes.s s.head.sizes.k) (length x.plan) (length x.rules)
        (length x.node_table) (length x.state_table)) where
      fits-is : fits (sizes_of s) x ≡ f
      unfolding fits buffers_fit
      fits-is = sym fit

      pub start-17 : not f ≡ true → CallDone s C (start_answer (Err LentLength)) s
      unfolding start_answer
      start-17 g =
          refused-done s C h v 16
          (on ∙ first_no-no 17 (fits (sizes_of s) x) (list-checks ++ last) (fits-is ∙ not-true f g))

      module _ (yes : not f ≡ false) where
        lengths : Lengths s.head.sizes.n s.head.sizes.s (rule_length s.head.sizes.s s.head.sizes.k)
            (length x.plan) (length x.rules) (length x.node_table) (length x.state_table)
        lengths =
            lengths-are s.head.sizes.n s.head.sizes.s (rule_length s.head.sizes.s s.head.sizes.k)
            (length x.plan) (length x.rules) (length x.node_table) (length x.state_table)
            (sym fit ∙ not-false f yes)

        pub start-room : RootsArgs s.head.sizes.n x.plan x.node_table
        start-room = record { most = sized.nodes_most; labels = omega (arith, lengths.plan_is); numbers = lengths.node_table_room }

        pub start-headers : HeaderArgs x.plan x.rules
        start-headers = record { plan_head = omega (arith, lengths.plan_is); rules_head = omega (arith, lengths.table_is) }

        onward : refusal (stage_in s) C ≡ first_no (list-checks ++ last)
        onward = on ∙ first_no-yes 17 (fits (sizes_of s) x) (list-checks ++ last) (fits-is ∙ not-false f yes)

        module _ (q : ℕ) (list : q ≡ first_no list-checks) where
          pub start-list : (r : Refusal) → refusal_number r ≡ q → CallDone s C (start_answer (Err r)) s
          unfolding start_answer
          start-list r is =
              let g : q ≡ 0 → ⊥ = λ z. number-not-0 r (is ∙ z) in
              go (refusal_number r) (onward ∙ first_no-append-no list-checks last (λ z. g (list ∙ z)) ∙ sym list ∙ sym is) (number-not-0 r)
            where
              go : (n : ℕ) → refusal (stage_in s) C ≡ n → (n ≡ 0 → ⊥)
                  → CallDone s C (calls.Answer.refused n) s
              go zero e i = absurd (i refl)
              go (suc n) e i = refused-done s C h v n e

          module _ (none-fails : q ≡ 0) where
            list-is : ListPasses s.head.sizes.n s.head.sizes.k vs bs
            list-is = list-passes s.head.sizes.n s.head.sizes.k vs bs (sym list ∙ none-fails)

            pub start-listed : ListArgs vs bs
            start-listed = record { few = list-is.most; few_labels = omega (arith, list-is.most, list-is.lengths) }

            at_last : refusal (stage_in s) C ≡ first_no last
            at_last =
                onward
                ∙ first_no-append-zero list-checks last (list-numbered s.head.sizes.n s.head.sizes.k vs bs) (sym list ∙ none-fails)

            module _ (w : Bool) (full : w ≡ sound (sizes_of s) x) where
              pub start-18 : not w ≡ true → CallDone s C (start_answer (Err LentValue)) s
              unfolding start_answer
              start-18 g = refused-done s C h v 17 (at_last ∙ first_no-no 18 (sound (sizes_of s) x) [] (sym full ∙ not-true w g))

              module _ (checked : not w ≡ false) where
                no-refusal : refusal (stage_in s) C ≡ 0
                no-refusal = at_last ∙ first_no-yes 18 (sound (sizes_of s) x) [] (sym full ∙ not-false w checked) ∙ first_no-none

                node-table : node_table_built (sizes_of s) x ≡ true
                node-table = start-built (stage_in s) x vs bs no-refusal

                cut : length (take (s.head.sizes.n * 4) x.node_table) ≡ s.head.sizes.n * 4
                cut = length-take-le (s.head.sizes.n * 4) x.node_table start-room.numbers

                B : Built (sizes_of s) x
                B = node-table-built (sizes_of s) x node-table

                -- the nodes that the code leaves in W: those of the definition, in the order of their last entries
                abbrev ws : List ℕ
                ws = given_differing (take s.head.sizes.n (drop 12 x.plan)) vs bs

                left_is : ws ≡ last_differing (labels_within x.plan) vs bs
                left_is =
                    ap (λ (b : Bool). cond b (last_differing (take s.head.sizes.n (drop 12 x.plan)) vs bs) [])
                    (and_both (eqb (length vs) (length bs)) (leb (length vs) 64) (eq-eqb (length vs) (length bs) list-is.lengths)
                    (le-leb (length vs) 64 list-is.most))
                    ∙ ap (λ (n : ℕ). last_differing (take n (drop 12 x.plan)) vs bs) (sym B.n_is)

                left_few : length ws ≤ 64
                left_few = omega (arith, ap length left_is, last-most (labels_within x.plan) vs bs, list-is.most)

                left_inside : all_below s.head.sizes.n ws ≡ true
                left_inside =
                    ap (all_below s.head.sizes.n) left_is
                    ∙ last_below s.head.sizes.n (labels_within x.plan) vs bs list-is.nodes-below

                same-roots : roots (plan_tree x.plan) ws ≡ roots_in x (left_within x vs bs)
                same-roots =
                    ap (roots (plan_tree x.plan)) left_is
                    ∙ roots-same (plan_tree x.plan) (last_differing (labels_within x.plan) vs bs) (left_within x vs bs)
                    (λ u. last-same (labels_within x.plan) vs bs u list-is.lengths)

                module _ (R : Rooted) (D : RootsDone s.head.sizes.n (take (s.head.sizes.n * 4) x.node_table) ws R) where
                  -- on a node table as built the roots are found, and are the ready set's
                  found : R ≡ rooted_of (some (roots_in x (left_within x vs bs)))
                  found =
                      D.built (plan_tree x.plan) (cells (sizes_of s) x B) (tree-size (sizes_of s) x B)
                      (sym (fit_all s.head.sizes.n (length (take (s.head.sizes.n * 4) x.node_table)) ws sized.nodes-least
                      sized.nodes_most (omega (arith, cut)) left_few)
                      ∙ left_inside)
                      ∙ ap (λ (l : List ℕ). rooted_of (some l)) same-roots

                  count_is : R.count ≡ length (roots_in x (left_within x vs bs))
                  count_is = ap (λ (z : Rooted). z.count) found

                  pub start-count : R.count ≤ 254
                  start-count =
                      omega (
                        arith,
                        count_is,
                        few-roots s.head.sizes.n (length (left_within x vs bs)) (roots_in x (left_within x vs bs))
                            (layers.roots-are (sizes_of s) x (left_within x vs bs) node-table
                            (left_below x s.head.sizes.n s.head.sizes.k vs bs (sym list ∙ none-fails)))
                            (left-most x s.head.sizes.n s.head.sizes.k vs bs (sym list ∙ none-fails)),
                      )

                  pub start-yes : (t : Session) → t ≡ started_of s.head.sizes s.head.last vs bs R.count R.nodes
                      → CallDone s C (start_answer (Ok R.count)) t
                  unfolding start_answer proceeds started session_of phase_to record_of
                  start-yes t e =
                      let l : R.nodes ≡ padded 254 (roots_in x (left_within x vs bs)) = ap (λ (z : Rooted). z.nodes) found in
                      proceeds-done s C h v tt no-refusal (calls.Answer.parts R.count) t (ap calls.Answer.parts count_is)
                      (e ∙ ap (λ (i : ℕ). started_of s.head.sizes s.head.last vs bs i R.nodes) count_is
                      ∙ ap (λ (z : List ℕ). started_of s.head.sizes s.head.last vs bs (length (roots_in x (left_within x vs bs))) z) l
                      ∙ ap (λ (o : Last). started_of s.head.sizes o vs bs (length (roots_in x (left_within x vs bs)))
                      (padded 254 (roots_in x (left_within x vs bs)))) (sym (tails-of s v).last_end))
