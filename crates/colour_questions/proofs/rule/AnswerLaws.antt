-- The answer of a rule question by colours where the checks before 18 pass, step by step.
--     Runs, runs_by, all-args   the runs of plan and rules, and the tables without their excess, are handed on
--     roots-lost, roots_few, roots-answer   the answer for the roots: a part without a result, and the state of the last
--     rooted-room, lent-lost, root-args, lent-answer   the roots: none, and those that were found
use Prim.Native.Nat.{ℕ, ◌+◌, ◌-◌, ◌*◌, ◌^◌, ◌≤◌, ◌<◌}
use mathlib.Core.Path.{◌≡◌, sym, ap, ap₂, ◌∙◌, subst}
use mathlib.Core.Bool.{Bool, true, false}
use mathlib.Core.List.{List, []}
use mathlib.Core.Option.{Option, none, some}
use native.Mathlib.Omega.{arith}
use lib.Dec.{eqb}
use lib.ListN.{length, get_or, take, drop, length-take, length-drop}
use lib.Seq.{get_or-take, get_or-drop}
use Rattle.std.specs.Prelude.{Option as Given, Some, None}
use Rattle.list_laws.proofs.SliceLaws.{rest_part}
use Rattle.trees.specs.Climb.{and_then}
use Rattle.formats.specs.Plan.{node_count}
use Rattle.formats.specs.Rules.{state_count, label_count, rule_length, rule_automaton}
use Rattle.formats.specs.Checks.{node_table_length}
use Rattle.formats.proofs.PlanLaws.{product-most}
use Rattle.formats.proofs.BufferLaws.{Limits, limits-are, Lengths, lengths-are, are-limits, are-lengths}
use Rattle.changes.specs.inner.LastDiffering.{given_differing}
use Rattle.questions.specs.declared.roots.Rooted.{Rooted}
use Rattle.questions.specs.RootsAnswers.{roots_given}
use Rattle.questions.specs.Promises.{RootsAre, RootsDone}
use Rattle.questions.proofs.PlaceLaws.{to_below, to_some, below-entry}
use Rattle.questions.proofs.RootedLaws.{rooted_none, RootedIs, rooted-some, roots-most, left-most}
use Rattle.colours.specs.StateSets.{Tried, tried}
use Rattle.colour_questions.specs.declared.target_states.trials.Trial.{Trial}
use Rattle.colour_questions.specs.target_states.Trials.{trial, Few, FewIn}
use Rattle.colour_questions.specs.parts.Part.{ColourView, handled_from}
use Rattle.colour_questions.specs.parts.inner.Args.{colour_view}
use Rattle.colour_questions.proofs.parts.TrialLaws.{trial-none, Is, trial-some}
use Rattle.colour_questions.specs.declared.rule.answers.RuleAsked.{RuleAsked}
use Rattle.colour_questions.specs.rule.Question.{handled, handled_on, left_within, lent_colours, rule_answer}
use Rattle.colour_questions.specs.rule.inner.Args.{AllArgs, AllDone, RootArgs, LentArgs, lent_as, answered_for, answered_on}
use Rattle.colour_questions.proofs.rule.AskChecks.{Passed, passed_are}

-- ---- for given roots

module _ (n s k : ℕ) (p r node_table state_table numbers bytes vs bs ms : List ℕ)
    (A : RootArgs n s k p r node_table state_table numbers bytes vs bs ms) where
  pub record Runs : Type 0 where
    pub limits : Limits n s k
    pub lengths : Lengths n s (rule_length s k) (length p) (length r) (length node_table) (length state_table)
    pub rows : s * k ≤ 1024
    pub rules-few : s * k * s ≤ 16384
    pub cells : n * (s + 1) ≤ 1114095
    pub copies : n * (s + 1) ≤ length bytes

  pub runs_by : Runs
  runs_by =
      let l = limits-are n s k A.limits in
      let x = product-most s k 16 64 l.few l.labels_most in
      record {
        limits = l;
        lengths = lengths-are n s (rule_length s k) (length p) (length r) (length node_table) (length state_table) A.lengths;
        rows = x;
        rules-few = product-most (s * k) s 1024 16 x l.few;
        cells = product-most n (s + 1) 65535 17 l.most (omega (arith, l.few));
        copies = omega (arith, A.bytes_room);
      }

  -- what is handed on
  abbrev given : ColourView
  given =
      colour_view n s k (take (12 + n - 12) (drop 12 p)) (take (length p - (12 + n)) (drop (12 + n) p))
      (take (20 + k - 20) (drop 20 r)) (take (20 + k + s * k * s - (20 + k)) (drop (20 + k) r))
      (take (n * 4) node_table) (take (n * (s + 1)) state_table) numbers
      (take (length bytes - n * (s + 1)) (drop (n * (s + 1)) bytes))

  pub all-args : (m : ℕ) → m ≡ 2 ^ s → m ≤ 16
      → AllArgs n s k m (take (12 + n - 12) (drop 12 p)) (take (length p - (12 + n)) (drop (12 + n) p))
      (take (20 + k - 20) (drop 20 r)) (take (20 + k + s * k * s - (20 + k)) (drop (20 + k) r))
      (take (n * 4) node_table) (take (n * (s + 1)) state_table) numbers
      (take (length bytes - n * (s + 1)) (drop (n * (s + 1)) bytes)) vs bs ms
  all-args m e l =
      let F = runs_by in
      let a = F.lengths.plan_is in
      let b = F.lengths.table_is in
      let room : m * (n * 4) ≤ length numbers = subst (λ (x : ℕ). x * (n * 4) ≤ length numbers) (sym e) A.numbers_room in
      let all : n * (s + 1) + n * m ≤ length bytes =
      subst (λ (x : ℕ). n * (s + 1) + n * x ≤ length bytes) (sym e) A.bytes_room in
      record {
        reads = record {
          reads = record {
            most = F.limits.most;
            states = A.states;
            few = l;
            state_table_room = simp length-take (omega (arith, F.lengths.state_table_room));
            room = room;
            copies_room = rw (rest_part bytes (n * (s + 1))) (omega (arith, all, length-drop (n * (s + 1)) bytes));
          };
          sets = e;
          labels = F.limits.labels_most;
          labels_room = simp (length-take, length-drop) (omega arith);
          kinds_room = simp (length-take, length-drop) (omega arith);
          leaves_room = simp (length-take, length-drop) (omega arith);
          inner_room = simp (length-take, length-drop) (omega arith);
          node_table_room = simp length-take (omega (arith, F.lengths.node_table_room));
          same_list = A.same_list;
          many_list = omega (arith, A.many_list);
        };
        few = A.few;
        nodes = A.nodes;
      }

  given_is : handled_from given vs bs [] [] (tried 0 []) ms
      ≡ handled_from (lent_as n s k p r node_table state_table numbers bytes) vs bs [] [] (tried 0 []) ms
  given_is =
      let F = runs_by in
      let a₁ : n ≡ 12 + n - 12 = omega arith in
      let a₂ : n ≡ length p - (12 + n) = omega (arith, F.lengths.plan_is) in
      let a₃ : k ≡ 20 + k - 20 = omega arith in
      let a₄ : s * k * s ≡ 20 + k + s * k * s - (20 + k) = omega arith in
      let on : ℕ → ℕ → ℕ → ℕ → List ℕ → Option Tried =
      λ i j x y l. handled_from (colour_view n s k (take i (drop 12 p)) (take j (drop (12 + n) p)) (take x (drop 20 r))
      (take y (drop (20 + k) r)) (take (n * 4) node_table) (take (n * (s + 1)) state_table) numbers l) vs bs [] []
      (tried 0 []) ms in
      let rest : List ℕ = take (length bytes - n * (s + 1)) (drop (n * (s + 1)) bytes) in
      sym (ap (λ (i : ℕ). on i n k (s * k * s) (drop (n * (s + 1)) bytes)) a₁
      ∙ ap (λ (j : ℕ). on (12 + n - 12) j k (s * k * s) (drop (n * (s + 1)) bytes)) a₂
      ∙ ap (λ (x : ℕ). on (12 + n - 12) (length p - (12 + n)) x (s * k * s) (drop (n * (s + 1)) bytes)) a₃
      ∙ ap (λ (y : ℕ). on (12 + n - 12) (length p - (12 + n)) (20 + k - 20) y (drop (n * (s + 1)) bytes)) a₄
      ∙ ap (λ (l : List ℕ). on (12 + n - 12) (length p - (12 + n)) (20 + k - 20) (20 + k + s * k * s - (20 + k)) l)
      (sym (rest_part bytes (n * (s + 1)))))

  module _ (t : Given Trial) (D : AllDone given vs bs ms t) where
    pub roots-lost : t ≡ None → (18, none) ≡ answered_for n s k p r node_table state_table numbers bytes vs bs ms
    unfolding rule_answer
    roots-lost f =
        let e : handled_from (lent_as n s k p r node_table state_table numbers bytes) vs bs [] [] (tried 0 []) ms ≡ none =
        sym given_is ∙ trial-none _ (sym f ∙ D.result) in
        ap (λ (o : Option Tried). rule_answer r 0 (and_then o (λ x. some (handled x (length ms))))) (sym e)

    module _ (q d l : ℕ) (f : t ≡ Some (trial q d l)) where
      pub roots_few : Few s (length ms * 60) q d l
      roots_few = subst (FewIn s (length ms * 60)) f (D.bounds A.some_root)

      marked : eqb (get_or r (20 + k + s * k * s + q) 0) 1 ≡ (rule_automaton r).accepting q
      marked =
          ap (λ (x : ℕ). eqb x 1)
          (sym (ap₂ (λ (i j : ℕ). get_or (take i (drop (20 + j + i * j * i) r)) q 0) (sym A.s_is) (sym A.k_is)
          ∙ get_or-take s (drop (20 + k + s * k * s) r) q 0 roots_few.state
          ∙ get_or-drop (20 + k + s * k * s) r q 0))

      abbrev answered-as : ℕ → Bool → ℕ → ℕ → ℕ × Option RuleAsked
      answered-as q b d l = (0, some (record { state = q; marked = b; drops = d; links = l; parts = length ms }))

      pub roots-answer : answered-as q (eqb (get_or r (20 + k + s * k * s + q) 0) 1) d l
          ≡ answered_for n s k p r node_table state_table numbers bytes vs bs ms
      unfolding rule_answer
      roots-answer =
          let I : Is (handled_from given vs bs [] [] (tried 0 []) ms) q d l = trial-some _ q d l (sym f ∙ D.result) in
          let e : handled_from (lent_as n s k p r node_table state_table numbers bytes) vs bs [] [] (tried 0 []) ms
          ≡ some I.found =
          sym given_is ∙ I.is in
          ap (λ (b : Bool). answered-as q b d l) marked
          ∙ ap (λ (x : ℕ). answered-as x ((rule_automaton r).accepting x) d l) I.state
          ∙ ap₂ (λ (d l : ℕ). answered-as I.found.state ((rule_automaton r).accepting I.found.state) d l)
          I.number I.total
          ∙ ap (λ (o : Option Tried). rule_answer r 0 (and_then o (λ x. some (handled x (length ms))))) (sym e)

-- ---- the roots that were found

module _ (p r node_table state_table numbers bytes vs bs : List ℕ) (A : LentArgs p r node_table state_table numbers bytes
    vs bs)
    (n s k : ℕ) (n_is : n ≡ node_count p) (s_is : s ≡ state_count r) (k_is : k ≡ label_count r) where
  pub lent-passed : Passed p r (length node_table) (length state_table) (length numbers) (length bytes) vs bs
  lent-passed = passed_are p r (length node_table) (length state_table) (length numbers) (length bytes) vs bs A.passed

  abbrev left : List ℕ
  left = given_differing (take n (drop 12 p)) vs bs

  left_is : left ≡ left_within p vs bs
  left_is = ap (λ (i : ℕ). given_differing (take i (drop 12 p)) vs bs) n_is

  -- the roots as the named result has them
  roots-are : (o : Option (List ℕ)) → roots_given n (take (n * 4) node_table) left ≡ o
      → roots_given (node_count p) (take (node_table_length (node_count p)) node_table) (left_within p vs bs) ≡ o
  roots-are o e =
      sym (ap₂ (λ (i : ℕ) (l : List ℕ). roots_given i (take (node_table_length i) node_table) l) n_is left_is) ∙ e

  module _ (q : Rooted) (R : RootsDone n (take (n * 4) node_table) (given_differing (take n (drop 12 p)) vs bs) q) where
    pub lent-lost : q.ok ≡ false → (18, none) ≡ answered_on p r node_table state_table numbers bytes vs bs
    unfolding rule_answer handled_on
    lent-lost f = rw (roots-are none (rooted_none q _ R.result f))

    module _ (f : q.ok ≡ true) where
      found : RootedIs q (roots_given n (take (n * 4) node_table) left)
      found = rooted-some q _ R.result f

      pub rooted-room : q.count ≤ length q.nodes
      rooted-room = found.room

      are : RootsAre n (length left) found.list
      are = R.few found.list found.is

      pub root-args : RootArgs n s k p r node_table state_table numbers bytes vs bs (take q.count q.nodes)
      root-args =
          let P = lent-passed in
          let H = P.fits.headed in
          let l = H.headers.in-limits in
          let some : 0 < n = omega (arith, l.nodes, n_is) in
          subst (λ (ms : List ℕ). RootArgs n s k p r node_table state_table numbers bytes vs bs ms) (sym found.taken)
          (record {
            limits = rw (n_is, s_is, k_is) (are-limits (node_count p) (state_count r) (label_count r) l);
            lengths = rw (n_is, s_is, k_is) (are-lengths (node_count p) (state_count r)
                (rule_length (state_count r) (label_count r)) (length p) (length r) (length node_table) (length state_table)
                (record {
                  plan_is = H.plan_exact;
                  table_is = H.table-exact;
                  node_table_room = H.node_table_room;
                  state_table_room = H.state_table_room;
                }));
            n_is = n_is;
            s_is = s_is;
            k_is = k_is;
            states = omega (arith, P.states, s_is);
            numbers_room = rw (n_is, s_is) P.numbers_room;
            bytes_room = rw (n_is, s_is) P.bytes_room;
            some_root = to_some (n - 1) found.list are.to;
            few = roots-most n (length left) found.list (left-most (take n (drop 12 p)) vs bs P.few-list) are;
            nodes = λ i h. omega (
              arith,
              below-entry (n - 1 + 1) found.list (to_below (n - 1) found.list are.to) i h,
              some,
            );
            same_list = P.same_list;
            many_list = P.few-list;
          })

      pub lent-answer : (a : ℕ × Option RuleAsked)
          → a ≡ answered_for n s k p r node_table state_table numbers bytes vs bs (take q.count q.nodes)
          → a ≡ answered_on p r node_table state_table numbers bytes vs bs
      unfolding handled_on
      lent-answer a e =
          e
          ∙ ap (λ (ms : List ℕ). answered_for n s k p r node_table state_table numbers bytes vs bs ms) found.taken
          ∙ ap (λ (i : ℕ). answered_for i s k p r node_table state_table numbers bytes vs bs found.list) n_is
          ∙ ap (λ (i : ℕ). answered_for (node_count p) i k p r node_table state_table numbers bytes vs bs found.list)
          s_is
          ∙ ap (λ (i : ℕ). answered_for (node_count p) (state_count r) i p r node_table state_table numbers bytes vs bs
          found.list) k_is
          ∙ ap (λ (o : Option (List ℕ)). rule_answer r 0 (and_then o (λ ms.
          and_then (handled_from (lent_colours p r node_table state_table numbers bytes) vs bs [] [] (tried 0 []) ms)
          (λ x. some (handled x (length ms)))))) (sym (roots-are (some found.list) found.is))
