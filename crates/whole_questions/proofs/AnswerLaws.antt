-- The answer of a whole question where the checks before 18 pass, step by step.
--     climbed-state, marked-at, roots-lost, roots-answer   for given roots: the last state is one, its mark, and the answer
--     lent-lost, root-args, lent-answer                    the roots: none, and those that were found
use Prim.Native.Nat.{ℕ, ◌+◌, ◌-◌, ◌*◌, ◌<◌}
use mathlib.Core.Path.{◌≡◌, sym, ap, ap₂, ◌∙◌, subst}
use mathlib.Core.Bool.{Bool, true, false}
use mathlib.Core.List.{List, []}
use mathlib.Core.Option.{Option, none, some}
use native.Mathlib.Omega.{arith}
use lib.Dec.{eqb}
use lib.ListN.{length, get_or, take, drop}
use lib.Seq.{get_or-take, get_or-drop}
use Rattle.trees.specs.Climb.{and_then}
use Rattle.formats.specs.Plan.{node_count}
use Rattle.formats.specs.Rules.{state_count, label_count, rule_length, rule_automaton}
use Rattle.formats.specs.Checks.{node_table_length}
use Rattle.formats.proofs.BufferLaws.{are-limits, are-lengths}
use Rattle.changes.specs.inner.LastDiffering.{given_differing}
use Rattle.tables.specs.declared.answers.Climbed.{Climbed}
use Rattle.tables.specs.declared.answers.Climbed.TheVariants.{Reached as To, OutOfRange}
use Rattle.tables.specs.declared.answers.Reached.{Reached}
use Rattle.tables.specs.Climbs.{View, reached, climbed_of}
use Rattle.questions.specs.declared.roots.Rooted.{Rooted}
use Rattle.questions.specs.PartAnswers.{view_in}
use Rattle.questions.specs.RootsAnswers.{roots_given}
use Rattle.questions.specs.Promises.{RootsAre, RootsDone}
use Rattle.questions.proofs.PlaceLaws.{to_below, to_some, below-entry}
use Rattle.questions.proofs.RootedLaws.{rooted_none, RootedIs, rooted-some, roots-most, left-most}
use Rattle.whole_questions.specs.declared.answers.Asked.{Asked}
use Rattle.whole_questions.specs.Question.{handled_from, whole_with, whole_on, left_lent, view_lent, answer_for}
use Rattle.whole_questions.specs.inner.Args.{RootArgs, LentArgs, answered_for, answered_on}
use Rattle.whole_questions.proofs.AskChecks.{Passed, passed_are}
use Rattle.whole_questions.proofs.PartsLoop.{climbed-none, climbed-some}
use Rattle.whole_questions.proofs.TotalLaws.{bounds-none, handled-bounds}

-- ---- for given roots

module _ (n s k : ℕ) (p r node_table state_table ms vs bs : List ℕ)
    (A : RootArgs n s k p r node_table state_table ms vs bs) where
  abbrev X : View
  X = view_in n s k p r node_table state_table

  abbrev on : Option Reached
  on = handled_from X vs bs [] [] (reached 0 0 0) ms

  module _ (t : Climbed)
      (D : t ≡ climbed_of (handled_from (view_in n s k p r node_table state_table) vs bs [] [] (reached 0 0 0) ms)) where
    pub roots-lost : t ≡ OutOfRange → ◌≡◌ {A = ℕ × Option Asked} (18, none) (answered_for n s k p r node_table state_table ms vs bs)
    unfolding answer_for
    roots-lost e =
        ap (λ (o : Option Reached). answer_for r 0 (and_then o (λ x. some (whole_with x (length ms)))))
        (sym (climbed-none on (sym e ∙ D)))

    module _ (x : Reached) (e : t ≡ To x) where
      is_found : on ≡ some x
      is_found = climbed-some on x (sym e ∙ D)

      pub climbed-state : x.state < s
      climbed-state =
          (handled-bounds X vs bs ms [] [] 0 (reached 0 0 0) x (bounds-none X) is_found).state
          (omega (arith, A.some_root))

      marked : (c : ℕ) → c ≡ s * k * s
          → eqb (get_or r (20 + k + c + x.state) 0) 1 ≡ (rule_automaton r).accepting x.state
      marked c f =
          ap (λ (j : ℕ). eqb (get_or r (20 + k + j + x.state) 0) 1) f
          ∙ ap (λ (y : ℕ). eqb y 1)
          (sym (ap₂ (λ (i j : ℕ). get_or (take i (drop (20 + j + i * j * i) r)) x.state 0) (sym A.s_is)
          (sym A.k_is)
          ∙ get_or-take s (drop (20 + k + s * k * s) r) x.state 0 climbed-state
          ∙ get_or-drop (20 + k + s * k * s) r x.state 0))

      abbrev pub answered-as : Bool → Asked
      answered-as b = record { state = x.state; marked = b; parts = length ms; links = x.links; passed = x.passed }

      pub roots-answer : (c : ℕ) → c ≡ s * k * s
          → (0, some (answered-as (eqb (get_or r (20 + k + c + x.state) 0) 1)))
          ≡ answered_for n s k p r node_table state_table ms vs bs
      unfolding answer_for
      roots-answer c f =
          ap (λ (b : Bool). (0, some (answered-as b))) (marked c f)
          ∙ ap (λ (o : Option Reached). answer_for r 0 (and_then o (λ y. some (whole_with y (length ms))))) (sym is_found)

-- ---- the roots that were found

module _ (p r node_table state_table vs bs : List ℕ) (A : LentArgs p r node_table state_table vs bs) (n s k : ℕ)
    (n_is : n ≡ node_count p) (s_is : s ≡ state_count r) (k_is : k ≡ label_count r) where
  pub lent-passed : Passed p r (length node_table) (length state_table) vs bs
  lent-passed = passed_are p r (length node_table) (length state_table) vs bs A.passed

  abbrev left : List ℕ
  left = given_differing (take n (drop 12 p)) vs bs

  left_is : left ≡ left_lent p vs bs
  left_is = ap (λ (i : ℕ). given_differing (take i (drop 12 p)) vs bs) n_is

  -- the roots as the named result has them
  roots-are : (o : Option (List ℕ)) → roots_given n (take (n * 4) node_table) left ≡ o
      → roots_given (node_count p) (take (node_table_length (node_count p)) node_table) (left_lent p vs bs) ≡ o
  roots-are o e =
      sym (ap₂ (λ (i : ℕ) (l : List ℕ). roots_given i (take (node_table_length i) node_table) l) n_is left_is) ∙ e

  module _ (q : Rooted) (R : RootsDone n (take (n * 4) node_table) (given_differing (take n (drop 12 p)) vs bs) q) where
    pub lent-lost : q.ok ≡ false → ◌≡◌ {A = ℕ × Option Asked} (18, none) (answered_on p r node_table state_table vs bs)
    unfolding answer_for whole_on
    lent-lost f = rw (roots-are none (rooted_none q _ R.result f))

    module _ (f : q.ok ≡ true) where
      found : RootedIs q (roots_given n (take (n * 4) node_table) left)
      found = rooted-some q _ R.result f

      are : RootsAre n (length left) found.list
      are = R.few found.list found.is

      pub root-args : RootArgs n s k p r node_table state_table (take q.count q.nodes) vs bs
      root-args =
          let P = lent-passed in
          let H = P.headed in
          let l = H.headers.in-limits in
          let some : 0 < n = omega (arith, l.nodes, n_is) in
          subst (λ (ms : List ℕ). RootArgs n s k p r node_table state_table ms vs bs) (sym found.taken)
          (record {
            all = record {
              limits = rw (n_is, s_is, k_is) (are-limits (node_count p) (state_count r) (label_count r) l);
              lengths = rw (n_is, s_is, k_is) (are-lengths (node_count p) (state_count r)
                  (rule_length (state_count r) (label_count r)) (length p) (length r) (length node_table)
                  (length state_table)
                  (record {
                    plan_is = H.plan_exact;
                    table_is = H.table-exact;
                    node_table_room = H.node_table_room;
                    state_table_room = H.state_table_room;
                  }));
              few = roots-most n (length left) found.list (left-most (take n (drop 12 p)) vs bs P.few-list) are;
              nodes = λ i h. omega (
                arith,
                below-entry (n - 1 + 1) found.list (to_below (n - 1) found.list are.to) i h,
                some,
              );
              same_list = P.same_list;
              many_list = P.few-list;
            };
            s_is = s_is;
            k_is = k_is;
            some_root = to_some (n - 1) found.list are.to;
          })

      pub lent-answer : (a : ℕ × Option Asked)
          → a ≡ answered_for n s k p r node_table state_table (take q.count q.nodes) vs bs
          → a ≡ answered_on p r node_table state_table vs bs
      unfolding whole_on
      lent-answer a e =
          e
          ∙ ap (λ (ms : List ℕ). answered_for n s k p r node_table state_table ms vs bs) found.taken
          ∙ ap (λ (i : ℕ). answered_for i s k p r node_table state_table found.list vs bs) n_is
          ∙ ap (λ (i : ℕ). answered_for (node_count p) i k p r node_table state_table found.list vs bs) s_is
          ∙ ap (λ (i : ℕ). answered_for (node_count p) (state_count r) i p r node_table state_table found.list vs bs) k_is
          ∙ ap (λ (o : Option (List ℕ)). answer_for r 0 (and_then o (λ ms.
          and_then (handled_from (view_lent p r node_table state_table) vs bs [] [] (reached 0 0 0) ms)
          (λ x. some (whole_with x (length ms)))))) (sym (roots-are (some found.list) found.is))
