-- Advance on record and reference model.
--     parted-more      one more part, with any state below S
--     on-advance       advance's answer conforms, and record and reference model stay related
use Prim.Native.Nat.{ℕ, suc, ◌+◌, ◌-◌, ◌<◌}
use mathlib.Core.Path.{◌≡◌, refl, sym, ap, ap₂, ◌∙◌, subst}
use mathlib.Core.Bool.{Bool, true, false, cond, not}
use mathlib.Core.List.{List, [], ◌∷◌, ◌++◌}
use mathlib.Core.Option.{Option, none, some}
use native.Mathlib.Omega.{arith}
use lib.Dec.{eqb}
use lib.ListN.{length, get_or, take}
use lib.Seq.{take-suc}
use borrow.Author.Tests.{eqb-true, eqb-false}
use Rattle.trees.proofs.MoveLaws.{none-some}
use Rattle.list_laws.specs.Tests.{all_below}
use Rattle.formats.specs.Rules.{rule_automaton}
use Rattle.formats.specs.Checks.{first_no}
use Rattle.list_laws.proofs.BoolLaws.{true-false, and_both, and_left, and_right}
use Rattle.tables.specs.declared.answers.Reached.{Reached}
use Rattle.questions.specs.ready.Parts.{Given, Part, part, part_of, parts_from, states_of, last_state}
use Rattle.questions.proofs.ready.PartsRun.{nodes-more}
use Rattle.questions.specs.Part.{part_on}
use Rattle.questions.specs.OutOfRange.{PartOutOfRange}
use Rattle.questions.specs.Rising.{AllBelow}
use Rattle.questions.proofs.PlaceLaws.{to_below, below-entry}
use Rattle.questions.proofs.PartRange.{part-out-of-range}
use Rattle.questions.proofs.PartBounds.{part-bounded}
use Rattle.formats.specs.Inputs.{Inputs, Sizes, fits, same_node_inputs, same_inputs, states_below}
use Rattle.model.specs.Calls.{advance, more, finished, Outcome, outcome, outcome_answer, Phase, is_running, is_some}
use Rattle.model.specs.Refusals.{stage, refusal}
use Rattle.questions.specs.PartInputs.{given_of, view_by, reached_by}
use Rattle.reference.specs.Reference.{Settlement, clean, by_rule, by_program, Question, State, settled, phase}
use Rattle.reference.specs.Reference.{in_state, left_of, roots_of, part_count, given_by, longer, advanced, goes_further, other_states}
use Rattle.reference.specs.Reference.{may_advance_with, by_answer, advancing_by_program, advancing_by_rule, advancing}
use Rattle.reference.specs.Reference.{proceed, finished_with, rule_answer}
use Rattle.model.specs.Model.{Record, acted, marks_by, stepped, advance_with, part_next, proceeds}
use Rattle.model.proofs.ModelLaws.{advance-fits, left_below, marks-built}
use Rattle.model.proofs.Facts.{next_root, Layers}
use Rattle.questions.proofs.ready.PassedLaws.{passed-more}
use Rattle.questions.proofs.PartListLaws.{length-states, states-more, length_more, last_more, links-more, below_more}
use Rattle.questions.proofs.PartListLaws.{from_more}
use Rattle.formats.proofs.InputsLaws.{Same, plan-of, node-table-built, same-node-inputs, same-inputs-nodes}
use Rattle.formats.specs.Passing.{Built}
use Rattle.formats.proofs.InputsLaws.{same-state-table}
use Rattle.questions.proofs.FreshLaws.{part-state, given-same, sound-below}
use Rattle.reference.proofs.CauseLaws.{advance-cause}
use Rattle.reference.proofs.Relation.{Parted, Counted, Cleanly, SomeParted, SettledAs, Unended, Told, Rel}
use Rattle.reference.proofs.Simulation.{Sim, reference_of, Simulates, some_number, by-refusal, does, outcome-same, rule-fresh}

-- ---- other bytes

module _ (z : Sizes) (q : Question) (x : Inputs) where
  other-same : other_states z q x ≡ true → same_node_inputs z q.inputs x ≡ true
  unfolding other_states
  other-same e = and_left (same_node_inputs z q.inputs x) (states_below z x) e

  other-below : other_states z q x ≡ true → states_below z x ≡ true
  unfolding other_states
  other-below e = and_right (same_node_inputs z q.inputs x) (states_below z x) e

  is-other : same_node_inputs z q.inputs x ≡ true → states_below z x ≡ true → other_states z q x ≡ true
  unfolding other_states
  is-other b c = and_both (same_node_inputs z q.inputs x) (states_below z x) b c

-- ---- the next part

-- the part that an advance works out, by what it reads
abbrev part_at : Sizes → Inputs → List ℕ → List ℕ → List ℕ → List ℕ → Option Reached
part_at z x rs ss vs bs = part_on (view_by z x) (take (length ss) rs) ss vs bs (get_or rs (length ss) 0)

part_same : (y z : Sizes) (x : Inputs) (rs rs' ss ss' vs vs' bs bs' : List ℕ) → y ≡ z → rs ≡ rs' → ss ≡ ss'
    → vs ≡ vs' → bs ≡ bs' → part_at y x rs ss vs bs ≡ part_at z x rs' ss' vs' bs'
part_same y z x rs rs' ss ss' vs vs' bs bs' e f g h i = rw (e, f, g, h, i)

module _ (r : Record) (z : Sizes) (q : Question) (x : Inputs) (sizes : r.sizes ≡ z) where
  -- the part that the rule of document 01 gives after ps, on the state table given
  abbrev ruled : List Part → Part
  ruled ps = part_of (given_by z q x) (roots_of q) ps (next_root (roots_of q) ps)

  part-next : Layers → (ps : List Part) → Parted r z q ps → length ps < part_count q → other_states z q x ≡ true
      → fits z x ≡ true → part_next r x ≡ some (reached_by (ruled ps))
  part-next L ps p l o f =
      part_same r.sizes z x r.roots (roots_of q) r.states (states_of ps) r.nodes q.nodes
      r.labels q.labels sizes p.roots p.states p.nodes p.labels
      ∙ ap (λ (n : ℕ). part_on (view_by z x) (take n (roots_of q)) (states_of ps) q.nodes q.labels
      (get_or (roots_of q) n 0)) (length-states ps)
      ∙ L.part-built z q.inputs q.nodes q.labels x (left_of q) ps
      (record {
        built = p.built;
        same = other-same z q x o;
        below = other-below z q x o;
        room = f;
        listed = p.listed;
      })
      p.handled l

  part_low : (y : Reached) → part_next r x ≡ some y → y.state < z.s
  part_low y e =
      subst (λ (s : Sizes). y.state < s.s) sizes
      (part-bounded (view_by r.sizes x) (take (length r.states) r.roots) r.states r.nodes r.labels
      (get_or r.roots (length r.states) 0) y e).state

-- one more part, with any state below S
pub parted-more : (r : Record) (z : Sizes) (q : Question) (ps : List Part) → Parted r z q ps → length ps < part_count q
    → (y : Reached) → y.state < z.s → (f : Phase) (m : Bool) (k : Settlement) (tr : List Part)
    → Parted (stepped r f y m) z (advanced q k tr) (ps ++ (part (next_root (roots_of q) ps) y.state y.links y.passed ∷ []))
unfolding stepped advanced
parted-more r z q ps p l y b f m k tr = record {
  built = p.built;
  nodes = p.nodes;
  labels = p.labels;
  roots = p.roots;
  states = ap (λ (ss : List ℕ). ss ++ (y.state ∷ [])) p.states ∙ sym (states-more ps new);
  listed = p.listed;
  handled = record {
    nodes =
        nodes-more ps new
        ∙ ap (λ (vs : List ℕ). vs ++ (next_root (roots_of q) ps ∷ [])) p.handled.nodes
        ∙ sym (take-suc (roots_of q) (length ps) 0 l)
        ∙ ap (λ (n : ℕ). take n (roots_of q)) (sym (length_more ps new));
    states =
        ap (all_below z.s) (states-more ps new) ∙ below_more z.s (states_of ps) y.state p.handled.states b;
  };
}
  where
    new : Part
    new = part (next_root (roots_of q) ps) y.state y.links y.passed

-- ---- one advance

module _ (L : Layers) (r : Record) (z : Sizes) (l : Option Question) (q : Question) (x : Inputs)
    (i : Rel r (reference_of (State.running q) z l))
    (room : fits z x ≡ true) where
  abbrev rule : Part
  rule = ruled r z q x i.sizes q.results

  -- the question after an advance that the rule settles
  abbrev onward : Settlement → Question
  onward k = advanced q k (longer z q x)

  counted_next : (c : Counted r z q) → length q.results < part_count q → (f : Phase) (m : Bool) (k : Settlement)
      → Counted (stepped r f (reached_by rule) m) z (onward k)
  unfolding stepped advanced longer part_of
  counted_next c l f m k = record {
    parted =
        parted-more r z q q.results c.parted l (reached_by rule)
        (part-state z q.inputs q.nodes q.labels (node-table-built z q.inputs c.parted.built) x q.results (next_root (roots_of q) q.results))
        f m k (longer z q x);
    links = ap (λ (n : ℕ). n + rule.links) c.links ∙ sym (links-more q.results rule);
    passed = ap (λ (n : ℕ). n + rule.passed) c.passed ∙ sym (passed-more q.results rule);
    count = ap suc c.count ∙ sym (length_more q.results rule);
  }

  -- a part is left unless this was the last
  unended-next : (y : Reached) (f : Phase) (m : Bool) (k : Settlement) (tr : List Part)
      → eqb (suc (length r.states)) (length r.roots) ≡ false → r.roots ≡ roots_of q
      → Unended (stepped r f y m) (advanced q k tr)
  unfolding stepped advanced
  unended-next y f m k tr e roots =
      let n : suc (length r.states) ≡ length r.roots
      → ⊥ = eqb-false (suc (length r.states)) (length r.roots) e in
      let d : length r.roots ≡ part_count q = ap length roots in
      rw (length_more r.states y.state) (let b : length r.states < part_count q = i.holds.1 in
      omega (arith, n, d, b))

  -- the roots of the parts are nodes
  root-inside : (ps : List Part) → Parted r z q ps → get_or r.roots (length r.states) 0 < z.n
  root-inside ps p =
      let B : Built z q.inputs = node-table-built z q.inputs p.built in
      let least : z.n - 1 + 1 ≡ z.n = omega (arith, B.n_is, (plan-of z q.inputs B).least) in
      let R = L.roots-are z q.inputs (left_of q) p.built (left_below q.inputs z.n z.k q.nodes q.labels p.listed) in
      rw p.roots
      (below-entry z.n (roots_of q)
      (subst (λ (n : ℕ). AllBelow n (roots_of q)) least (to_below (z.n - 1) (roots_of q) R.to)) (length r.states) i.holds.1)

  states-low : (ps : List Part) → Parted r z q ps → all_below z.s r.states ≡ true
  states-low ps p = ap (all_below z.s) p.states ∙ p.handled.states

  -- 18 has a cause
  cause-of : (ps : List Part) → Parted r z q ps → part_next r x ≡ none → PartOutOfRange (view_by z x) r.states q.nodes q.labels
  cause-of ps p e =
      let v : ℕ = get_or r.roots (length r.states) 0 in
      let inside : v < r.sizes.n = subst (λ (y : Sizes). v < y.n) (sym i.sizes) (root-inside ps p) in
      subst (λ (y : Sizes). PartOutOfRange (view_by y x) r.states q.nodes q.labels) i.sizes
      (subst (λ (l : List ℕ). PartOutOfRange (view_by r.sizes x) r.states l q.labels) p.nodes
      (subst (λ (l : List ℕ). PartOutOfRange (view_by r.sizes x) r.states r.nodes l) p.labels
      (part-out-of-range (view_by r.sizes x) r.states r.nodes r.labels (take (length r.states) r.roots) v inside e)))

  -- an advance that goes on as always, to settlement k
  goes_on : (k : Settlement) → Counted r z q → other_states z q x ≡ true
      → ((s : Record) → Counted s z (onward k) → SettledAs s z (onward k) k)
      → ((s : Record) (e : Outcome) → Counted s z (onward k) → outcome e ≡ rule_answer (onward k) → suc q.count ≡ part_count q
      → Told e (onward k) k)
      → Sim (goes_further (reference_of (State.running q) z l) (onward k)) (advance_with r x (part_next r x))
  unfolding goes_further advance_with in_state finished_with phase advanced stepped longer rule_answer
  goes_on k c o stands ends =
      subst (λ (y : Option Reached). Sim (goes_further (reference_of (State.running q) z l) (onward k)) (advance_with r x y))
      (sym (part-next r z q x i.sizes L q.results c.parted left_over o room))
      (go (eqb (suc q.count) (part_count q)) (eqb (suc (length r.states)) (length r.roots))
      (ap₂ (λ (m n : ℕ). eqb (suc m) n) (ap length c.parted.states ∙ length-states q.results
      ∙ sym c.count) (ap length c.parted.roots)) refl refl)
    where
      left_over : length q.results < part_count q
      left_over =
          let b : length r.states < part_count q = i.holds.1 in
          let n : length r.states ≡ length q.results = ap length c.parted.states ∙ length-states q.results in
          omega (arith, b, n)

      yes : Bool
      yes = eqb (get_or (marks_by r.sizes x) rule.state 0) 1

      marked : yes ≡ (rule_automaton q.inputs.rules).accepting (last_state (longer z q x) 0)
      marked =
          let same : Same z q.inputs x = same-node-inputs z q.inputs x (other-same z q x o) in
          let B : Built z q.inputs = node-table-built z q.inputs c.parted.built in
          ap (λ (w : List ℕ). eqb (get_or w rule.state 0) 1)
          (ap (λ (y : Sizes). marks_by y x) i.sizes ∙ marks-built z q.inputs x B same.rules)
          ∙ ap (rule_automaton q.inputs.rules).accepting (sym (last_more q.results rule 0))

      -- the outcome that is kept: what the rule gave
      by-the-rule : outcome_answer rule.state yes (length r.roots) (r.links + rule.links) (r.passed + rule.passed)
          ≡ rule_answer (onward k)
      by-the-rule =
          outcome-same _ _ _ _ _ _ _ _ _ _ (sym (last_more q.results rule 0)) marked (ap length c.parted.roots)
          (ap (λ (n : ℕ). n + rule.links) c.links ∙ sym (links-more q.results rule))
          (ap (λ (n : ℕ). n + rule.passed) c.passed ∙ sym (passed-more q.results rule))

      go : (b d : Bool) → d ≡ b → eqb (suc q.count) (part_count q) ≡ b
          → eqb (suc (length r.states)) (length r.roots) ≡ d
          → Sim (cond b (settled finished (reference_of State.answered z (some (onward k))))
          (settled more (reference_of (State.running (onward k)) z l)))
          (cond d (acted finished (stepped r Phase.answered (reached_by rule) yes))
          (acted more (stepped r Phase.running (reached_by rule) false)))
      go true true e g h = (
        refl,
        record {
          phases = refl;
          sizes = i.sizes;
          holds = tt;
          lasts = ends _ _ (counted_next c left_over Phase.answered yes k) by-the-rule (eqb-true (suc q.count) (part_count q) g);
        },
      )
      go false false e g h = (
        refl,
        record {
          phases = refl;
          sizes = i.sizes;
          holds = (
            stands _ (counted_next c left_over Phase.running false k),
            unended-next (reached_by rule) Phase.running false k (longer z q x) h c.parted.roots,
          );
          lasts = i.lasts;
        },
      )
      go true false e g h = absurd (true-false (sym e))
      go false true e g h = absurd (true-false e)

  -- left to the program, save that other bytes never get 18
  advance-by-program : SomeParted r z q → Sim (advancing_by_program (reference_of (State.running q) z l) x q) (advance_with r x (part_next r x))
  unfolding advancing_by_program advance_with may_advance_with by_answer advanced in_state finished_with phase stepped
  advance-by-program (ps, p) = go (part_next r x) refl
    where
      unended : length ps < part_count q
      unended =
          let b : length r.states < part_count q = i.holds.1 in
          let n : length r.states ≡ length ps = ap length p.states ∙ length-states ps in
          omega (arith, b, n)

      not-other : part_next r x ≡ none → (b : Bool) → other_states z q x ≡ b → not b ≡ true
      not-other e true o = absurd (none-some (sym e ∙ part-next r z q x i.sizes L ps p unended o room))
      not-other e false o = refl

      parted : (y : Reached) (f : Phase) (m : Bool) → part_next r x ≡ some y
          → SomeParted (stepped r f y m) z (advanced q by_program [])
      parted y f m e = (
        ps ++ (part (next_root (roots_of q) ps) y.state y.links y.passed ∷ []),
        parted-more r z q ps p unended y (part_low r z q x i.sizes y e) f m by_program [],
      )

      go : (y : Option Reached) → part_next r x ≡ y → Sim (advancing_by_program (reference_of (State.running q) z l) x q) (advance_with r x y)
      go none e = (
        advance-cause z x q.nodes q.labels r.states (other_states z q x) (not-other e (other_states z q x) refl) (states-low ps p)
            (cause-of ps p e),
        i,
      )
      go (some y) e = then (eqb (suc (length r.states)) (length r.roots)) refl
        where
          then : (b : Bool) → eqb (suc (length r.states)) (length r.roots) ≡ b
              → Sim (advancing_by_program (reference_of (State.running q) z l) x q)
              (cond b (acted finished (stepped r Phase.answered y (eqb (get_or (marks_by r.sizes x) y.state 0) 1)))
              (acted more (stepped r Phase.running y false)))
          then true g = (refl, record { phases = refl; sizes = i.sizes; holds = tt; lasts = tt })
          then false g = (
            refl,
            record {
              phases = refl;
              sizes = i.sizes;
              holds = (parted y Phase.running false e, unended-next y Phase.running false by_program [] g p.roots);
              lasts = i.lasts;
            },
          )

  counted-some : Counted r z q → SomeParted r z q
  counted-some c = (q.results, c.parted)

  advance-by-rule : Counted r z q → Sim (advancing_by_rule (reference_of (State.running q) z l) x q) (advance_with r x (part_next r x))
  unfolding advancing_by_rule
  advance-by-rule c = go (other_states z q x) refl
    where
      go : (b : Bool) → other_states z q x ≡ b
          → Sim (cond b (goes_further (reference_of (State.running q) z l) (onward by_rule)) (advancing_by_program (reference_of (State.running q) z l) x q))
          (advance_with r x (part_next r x))
      go true o = goes_on by_rule c o (λ s d. d) (λ s e d m n. m)
      go false o = advance-by-program (counted-some c)

  -- given as at Start: the results go on with the same state table
  cleanly-next : Counted r z q → Cleanly z q → same_inputs z q.inputs x ≡ true → length q.results < part_count q
      → Cleanly z (onward clean)
  unfolding advanced longer given_of
  cleanly-next c k e l = record {
    state_table = k.state_table;
    replayed =
        ap (λ (G : Given). q.results ++ (part_of G (roots_of q) q.results v ∷ []))
        (given-same z q.inputs q.nodes q.labels x q.inputs (sym (same-state-table z q.inputs x e)))
        ∙ ap (λ (ps : List Part). ps ++ (part_of (given_by z q q.inputs) (roots_of q) ps v ∷ [])) k.replayed
        ∙ sym (from_more (given_by z q q.inputs) (roots_of q) [] (take (length q.results) (roots_of q)) v)
        ∙ ap (parts_from (given_by z q q.inputs) (roots_of q) [])
        (sym (take-suc (roots_of q) (length q.results) 0 l)
        ∙ ap (λ (n : ℕ). take n (roots_of q)) (sym (length_more q.results rule)));
  }
    where
      v : ℕ
      v = next_root (roots_of q) q.results

  advance-as : (k : Settlement) → SettledAs r z q k
      → Sim (advancing (reference_of (State.running q) z l) x q k) (advance_with r x (part_next r x))
  unfolding advancing states_below advanced
  advance-as clean s = go (same_inputs z q.inputs x) refl
    where
      left_over : length q.results < part_count q
      left_over =
          let b : length r.states < part_count q = i.holds.1 in
          let n : length r.states ≡ length q.results = ap length s.0.parted.states
          ∙ length-states q.results in
          omega (arith, b, n)

      go : (b : Bool) → same_inputs z q.inputs x ≡ b
          → Sim (cond b (goes_further (reference_of (State.running q) z l) (onward clean)) (advancing_by_rule (reference_of (State.running q) z l) x q))
          (advance_with r x (part_next r x))
      go true e =
          let low : states_below z x ≡ true =
          ap (all_below z.s) (sym (same-state-table z q.inputs x e))
          ∙ sound-below z q.inputs q.nodes q.labels (node-table-built z q.inputs s.0.parted.built) s.1.state_table in
          goes_on clean s.0 (is-other z q x (same-inputs-nodes z q.inputs x e) low)
          (λ y d. (d, cleanly-next s.0 s.1 e left_over))
          (λ y o d m n. m ∙ rule-fresh y z (onward clean) d (cleanly-next s.0 s.1 e left_over) n)
      go false e = advance-by-rule s.0
  advance-as by_rule s = advance-by-rule s
  advance-as by_program s = advance-by-program s

advance-at : (L : Layers) (r : Record) (s : State) (z : Sizes) (l : Option Question) (x : Inputs) → Rel r (reference_of s z l)
    → refusal (stage (phase s) z (is_some l)) (advance x) ≡ 0
    → Sim (proceed (reference_of s z l) s (advance x)) (proceeds r (advance x))
unfolding refusal phase first_no is_running proceed proceeds
advance-at L r State.empty z l x i h = absurd (some_number h)
advance-at L r State.loaded z l x i h = absurd (some_number h)
advance-at L r (State.running q) z l x i h =
    advance-as L r z l q x i (advance-fits (stage Phase.running z (is_some l)) x h) q.settlement i.holds.0
advance-at L r State.answered z l x i h = absurd (some_number h)

pub on-advance : Layers → (x : Inputs) → Simulates (advance x)
on-advance L x r r' b a i d =
    does r r' b (advance x) a d (by-refusal r b (advance x) i (advance-at L r b.state b.sizes b.last x i))
