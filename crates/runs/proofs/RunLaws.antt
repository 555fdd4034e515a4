-- The fresh run of what passes its checks, and the promise of the call.
--     pass-args        what the pass asks, from the checks
--     root_below       the root's state is below S
--     mark-at          a mark by its index in the rules
--     fresh_run-passed  the answer where every check passes
--     run-args         the counts of the headers, with bounds of their products
--     parts-args, root_is, root_in, result-is   of the parts handed on: what the pass asks, and what its answer is
--     done-answer, done_refused   the promise of an answer, and of a refusal
use Prim.Native.Nat.{ℕ, zero, suc, ◌+◌, ◌-◌, ◌*◌, ◌≤◌, ◌<◌}
use mathlib.Core.Path.{◌≡◌, refl, sym, ap, ap₂, ◌∙◌}
use mathlib.Core.Bool.{Bool, true}
use mathlib.Core.List.{List}
use native.Mathlib.Nat.{mul-le-mul_right}
use native.Mathlib.Omega.{arith}
use lib.Dec.{eqb}
use lib.ListN.{length, get_or, take, drop}
use lib.Seq.{get_or-take, get_or-drop}
use Rattle.trees.specs.Tree.{Tree, leaf, node}
use Rattle.trees.specs.Automaton.{Automaton, state}
use Rattle.formats.specs.Plan.{node_count, labels_within, kinds_in}
use Rattle.formats.specs.Rules.{state_count, label_count, leaf_states, inner_states, rule_marks, rule_automaton}
use Rattle.list_laws.specs.Tests.{all_below}
use Rattle.formats.specs.Checks.{first_no, fresh_run_checks}
use Rattle.list_laws.proofs.TestLaws.{all_below-all}
use Rattle.formats.proofs.PlanLaws.{length-kinds_in, labels-as-kinds, labels-part, kinds-part}
use Rattle.formats.specs.Passing.{PlanPasses}
use Rattle.formats.proofs.RuleLaws.{RulesPass, length-leaf_states, length-inner_states, leaf-state-below}
use Rattle.formats.proofs.RuleLaws.{inner-state-below, leaves-part, inner-part}
use Rattle.formats.proofs.InputLaws.{ListPasses, fresh-run-passes, label_below}
use Rattle.std.specs.Prelude.{Result, Ok, Err, IsErrAnd}
use Rattle.formats.specs.declared.refusals.Refusal.{Refusal}
use Rattle.formats.specs.Refusals.{refusal_number, told}
use Rattle.formats.proofs.RefusalLaws.{told-number, told-refused, told-answered}
use Rattle.runs.specs.declared.answer.Verdict.{Verdict}
use Rattle.runs.specs.inner.Pass.{PassArgs, PassDone, RunArgs}
use Rattle.runs.specs.FreshRun.{changed_tree, root_state, root_accepted, verdict, fresh_run, FreshRunDone}

abbrev Passes : List ℕ → List ℕ → List ℕ → List ℕ → Type 0
Passes p r vs bs =
    PlanPasses p × RulesPass r × (all_below (label_count r) (labels_within p) ≡ true)
    × ListPasses (node_count p) (label_count r) vs bs

pub state_below : (A : Automaton) (s : ℕ) → ((a : ℕ) → A.ι a < s) → ((p a q : ℕ) → A.δ p a q < s)
    → (t : Tree) → state A t < s
state_below A s lf nd (leaf a) = lf a
state_below A s lf nd (node l a r) = nd _ a _

-- ---- where every check passes

module _ (p r vs bs : List ℕ) (e : first_no (fresh_run_checks p r vs bs) ≡ 0) where
  passes : Passes p r vs bs
  passes = fresh-run-passes p r vs bs e

  pub pass-args : PassArgs (kinds_in p) (labels_within p) vs bs (leaf_states r) (inner_states r) (state_count r) (label_count r)
  pass-args =
      let f : Passes p r vs bs = passes in
      record {
        postorder = f.0.postorder;
        most = omega (arith, length-kinds_in p f.0, f.0.most);
        labelled = labels-as-kinds p f.0;
        labels_below = label_below p r f.1.labels_least f.2;
        paired = f.3.lengths;
        changes_below = all_below-all (label_count r) bs f.3.labels_below f.1.labels_least;
        leaf_count = length-leaf_states r f.1;
        leaf_below = leaf-state-below r f.1;
        inner_count = length-inner_states r f.1;
        inner_below = inner-state-below r f.1;
        states = f.1.states_most;
        letters = f.1.labels_most;
      }

  pub root_below : root_state p r vs bs < state_count r
  root_below =
      state_below (rule_automaton r) (state_count r) pass-args.leaf_below (λ u a q. pass-args.inner_below _)
      (changed_tree p vs bs)

  pub run-args : RunArgs p r vs bs (node_count p) (state_count r) (label_count r)
  run-args =
      let f : Passes p r vs bs = passes in
      let row : state_count r * label_count r ≤ 1024 =
      omega (arith, mul-le-mul_right (label_count r) f.1.states_most, f.1.labels_most) in
      record {
        passed = e;
        nodes_are = refl;
        states_are = refl;
        labels_are = refl;
        plan_length = f.0.exact;
        rules_length = f.1.exact;
        nodes_most = f.0.most;
        states_most = f.1.states_most;
        labels_most = f.1.labels_most;
        row_most = row;
        inner_most = omega (arith, mul-le-mul_right (state_count r) row, f.1.states_most);
      }

pub mark-at : (r : List ℕ) (q : ℕ) → q < state_count r
    → get_or r (20 + label_count r + state_count r * label_count r * state_count r + q) 0 ≡ get_or (rule_marks r) q 0
mark-at r q h =
    let at : ℕ = 20 + label_count r + state_count r * label_count r * state_count r in
    sym (get_or-take (state_count r) (drop at r) q 0 h ∙ get_or-drop at r q 0)

-- ---- the parts that are handed on

abbrev kinds_part : List ℕ → ℕ → List ℕ
kinds_part p n = take (length p - (12 + n)) (drop (12 + n) p)

abbrev labels_part : List ℕ → ℕ → List ℕ
labels_part p n = take (12 + n - 12) (drop 12 p)

abbrev leaves_part : List ℕ → ℕ → List ℕ
leaves_part r k = take (20 + k - 20) (drop 20 r)

abbrev inner_part : List ℕ → ℕ → ℕ → List ℕ
inner_part r s k = take (20 + k + s * k * s - (20 + k)) (drop (20 + k) r)

module _ {p r vs bs : List ℕ} {n s k : ℕ} (a : RunArgs p r vs bs n s k) where
  kinds-is : kinds_part p n ≡ kinds_in p
  kinds-is = kinds-part p n (passes p r vs bs a.passed).0 a.nodes_are

  labels-is : labels_part p n ≡ labels_within p
  labels-is = labels-part p n a.nodes_are

  leaves-is : leaves_part r k ≡ leaf_states r
  leaves-is = leaves-part r k a.labels_are

  inner-is : inner_part r s k ≡ inner_states r
  inner-is = inner-part r s k a.states_are a.labels_are

  pub parts-args : PassArgs (kinds_part p n) (labels_part p n) vs bs (leaves_part r k) (inner_part r s k) s k
  parts-args =
      rw (kinds-is, labels-is, leaves-is, inner-is, a.states_are, a.labels_are) (pass-args p r vs bs a.passed)

  module _ {q : ℕ} (f : PassDone (kinds_part p n) (labels_part p n) vs bs (leaves_part r k) (inner_part r s k) s k q) where
    pub root_is : q ≡ root_state p r vs bs
    root_is =
        let g : PassDone (kinds_in p) (labels_within p) vs bs (leaf_states r) (inner_states r) (state_count r) (label_count r) q =
        rw (← kinds-is, ← labels-is, ← leaves-is, ← inner-is, ← a.states_are, ← a.labels_are) f in
        g (rule_marks r)

    pub root_in : q < s
    root_in = rw (root_is, a.states_are) (root_below p r vs bs a.passed)

    pub result-is : ◌≡◌ {A = Verdict} (record { state = q; accepted = eqb (get_or r (20 + k + s * k * s + q) 0) 1 }) (verdict p r vs bs)
    result-is =
        let l : q < state_count r = omega (arith, root_in, a.states_are) in
        let at : 20 + k + s * k * s + q ≡ 20 + label_count r + state_count r * label_count r * state_count r + q =
        ap₂ (λ (i j : ℕ). 20 + j + i * j * i + q) a.states_are a.labels_are in
        ap (λ (x : ℕ). record { state = q; accepted = eqb x 1 }) (ap (λ (i : ℕ). get_or r i 0) at ∙ mark-at r q l)
        ∙ ap (λ (x : ℕ). record { state = x; accepted = eqb (get_or (rule_marks r) x 0) 1 }) root_is

-- ---- the promise

module _ (p r vs bs : List ℕ) where
  done : (a : Result Verdict Refusal) → told a ≡ fresh_run p r vs bs → FreshRunDone p r vs bs a
  unfolding fresh_run
  done a e = record { result = e; number = told-number a _ _ e }

  pub done-answer : (v : Verdict) → 0 ≡ first_no (fresh_run_checks p r vs bs) → v ≡ verdict p r vs bs → FreshRunDone p r vs bs (Ok v)
  unfolding fresh_run
  done-answer v z e = done (Ok v) (rw e (told-answered _ _ (sym z)))

  -- a is what `?` hands on of a check's refusal x
  pub done-refused : (x : Refusal) (a : Result Verdict Refusal) → IsErrAnd a (λ e. e ≡ x)
      → refusal_number x ≡ first_no (fresh_run_checks p r vs bs) → FreshRunDone p r vs bs a
  unfolding fresh_run
  done-refused x (Ok v) h e = absurd h
  done-refused x (Err y) h e = done (Err y) (told-refused y _ _ (ap refusal_number h ∙ e))
