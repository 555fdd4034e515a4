-- What the program says, from the bytes that came.
--     le32-head          the stated lengths are in the first twelve bytes
--     said-too-large     what is said to an input that is too large, by its lengths alone
--     too-large-said, in-limits-said      what is said to the parts of one
--     asked-none, asked-stated, asked-all      how many bytes of the plan and the rules are asked for
--     said-parts         what is said to an input, by the parts of it that came
--     parts-of-whole     the parts of an input that comes whole
--     room-enough        the program's tables are long enough for all that it takes: Load's refusal is one of 2 to 10
--     loaded-said, refused-said      what is said where Load accepts, and where it refuses
--     lines-over         the lines of one chunk after another are those of all at once
use Prim.Native.Nat.{ℕ, zero, suc, ◌+◌, ◌≤◌, min}
use mathlib.Core.Path.{◌≡◌, refl, ap, sym, ◌∙◌}
use mathlib.Core.Bool.{Bool, true, false, cond, ◌||◌}
use mathlib.Core.List.{List, [], ◌∷◌, ◌++◌}
use native.Mathlib.Omega.{arith}
use lib.Dec.{ltb}
use lib.ListN.{length, take, drop}
use lib.Seq.{get_or-take, take_at, drop_at, drop-drop, take_all}
use borrow.Author.Tests.{ltb-false}
use Rattle.list_laws.proofs.BoolLaws.{true-false}
use Rattle.formats.specs.Bytes.{le32}
use Rattle.formats.specs.Plan.{node_count}
use Rattle.formats.specs.Rules.{state_count}
use Rattle.formats.specs.Checks.{first_no, rule_table_checks, build_checks, room_check}
use Rattle.formats.specs.Inputs.{inputs_of}
use Rattle.formats.proofs.CheckLaws.{first_no-yes, first_no-append-no}
use Rattle.formats.proofs.PlanLaws.{product-most}
use Rattle.formats.proofs.InputLaws.{rule-table-passes, passes-build, build-table}
use Rattle.model.specs.Calls.{load, may_load}
use Rattle.model.specs.Refusals.{refusal}
use Rattle.reference.specs.Reference.{phase, new_reference, stage_of as reference_stage}
use Rattle.session.specs.declared.state.Session.{Session}
use Rattle.std.specs.Prelude.{Result, Ok, Err}
use Rattle.formats.specs.Refusals.{refusal_number}
use Rattle.formats.specs.declared.refusals.Refusal.{Refusal}
use Rattle.session.specs.Records.{fresh_session}
use Rattle.session.specs.Answers.{call_answer}
use Rattle.session.specs.Promises.{LoadDone, answer_on}
use Rattle.whatif.specs.Input.{too_large}
use Rattle.whatif.specs.Line.{refused_line}
use Rattle.whatif.specs.Stream.{question_line, open_by, lines_by}
use Rattle.whatif.specs.Said.{stated_plan, stated_rules, plan_of, rules_of, questions_of}
use Rattle.whatif.specs.Said.{too_large_line, said_by, said_on, said_to, said}
use Rattle.whatif.specs.Turns.{Came, AskedFor, joined, lines_over}
use Rattle.whatif.proofs.ClearedLaws.{load-passed, load-number}
use Rattle.whatif.proofs.StreamLaws.{lines-chunks}

-- ---- the parts of an input

pub le32-head : (w h : List ℕ) (at : ℕ) → take 12 w ≡ h → at ≤ 8 → le32 w at ≡ le32 h at
le32-head w h at e l =
    rw (
      ← e,
      get_or-take 12 w at 0 (omega arith),
      get_or-take 12 w (at + 1) 0 (omega arith),
      get_or-take 12 w (at + 2) 0 (omega arith),
      get_or-take 12 w (at + 3) 0 (omega arith),
    ) refl

too-large-head : (w h : List ℕ) → take 12 w ≡ h
    → too_large (stated_plan w) (stated_rules w) ≡ too_large (le32 h 0) (le32 h 4)
too-large-head w h e =
    ap (λ (n : ℕ). too_large n (stated_rules w)) (le32-head w h 0 e (omega arith))
    ∙ ap (λ (n : ℕ). too_large (le32 h 0) n) (le32-head w h 4 e (omega arith))

-- the test as the program makes it
pub too-large-by : (h : List ℕ) (p r : ℕ) (b t : Bool) → p ≡ le32 h 0 → r ≡ le32 h 4 → b ≡ too_large p r → b ≡ t
    → too_large (le32 h 0) (le32 h 4) ≡ t
too-large-by h p r b t e f g i =
    ap (λ (n : ℕ). too_large n (le32 h 4)) (sym e) ∙ (ap (λ (n : ℕ). too_large p n) (sym f) ∙ (sym g ∙ i))

pub said-too-large : (h : List ℕ) → too_large (le32 h 0) (le32 h 4) ≡ true → (w : List ℕ) → take 12 w ≡ h
    → said w ≡ too_large_line
unfolding said_to
said-too-large h t w e =
    ap (λ (b : Bool). cond b too_large_line (said_on (plan_of w) (rules_of w) (questions_of w))) (too-large-head w h e ∙ t)

pub too-large-said : (h p r qs : List ℕ) → too_large (le32 h 0) (le32 h 4) ≡ true → said_to h p r qs ≡ too_large_line
unfolding said_to
too-large-said h p r qs t = ap (λ (b : Bool). cond b too_large_line (said_on p r qs)) t

pub in-limits-said : (h p r qs : List ℕ) → too_large (le32 h 0) (le32 h 4) ≡ false → said_to h p r qs ≡ said_on p r qs
unfolding said_to
in-limits-said h p r qs t = ap (λ (b : Bool). cond b too_large_line (said_on p r qs)) t

pub asked-none : (h : List ℕ) → too_large (le32 h 0) (le32 h 4) ≡ true → AskedFor h 0 0
asked-none h t = record {
  plan = sym (ap (λ (b : Bool). cond b 0 (le32 h 0)) t);
  rules = sym (ap (λ (b : Bool). cond b 0 (le32 h 4)) t);
}

-- what is asked for where there is room for the most that is taken
pub asked-stated : (h : List ℕ) (n a l m b k : ℕ) → too_large (le32 h 0) (le32 h 4) ≡ false → n ≡ min a l
    → a ≡ le32 h 0 → l ≡ 2014 → m ≡ min b k → b ≡ le32 h 4 → k ≡ 16484 → AskedFor h n m
asked-stated h n a l m b k t e f g i j o =
    let u = ltb 2014 (le32 h 0) in
    let v = ltb 16484 (le32 h 4) in
    let c : le32 h 0 ≤ 2014 = ltb-false 2014 (le32 h 0) (neither_left u v t) in
    let d : le32 h 4 ≤ 16484 = ltb-false 16484 (le32 h 4) (neither_right u v t) in
    let x : n ≡ le32 h 0 = omega arith in
    let y : m ≡ le32 h 4 = omega arith in
    record {
      plan = x ∙ sym (ap (λ (b : Bool). cond b 0 (le32 h 0)) t);
      rules = y ∙ sym (ap (λ (b : Bool). cond b 0 (le32 h 4)) t);
    }
  where
    neither_left : (u v : Bool) → u || v ≡ false → u ≡ false
    neither_left true v e = e
    neither_left false v e = refl

    neither_right : (u v : Bool) → u || v ≡ false → v ≡ false
    neither_right true v e = absurd (true-false e)
    neither_right false v e = e

pub asked-all : (h : List ℕ) (n m : ℕ) → too_large (le32 h 0) (le32 h 4) ≡ false → AskedFor h n m → (n ≡ le32 h 0) × (m ≡ le32 h 4)
asked-all h n m t A = (A.plan ∙ ap (λ (b : Bool). cond b 0 (le32 h 0)) t, A.rules ∙ ap (λ (b : Bool). cond b 0 (le32 h 4)) t)

pub said-parts : (w h p r qs : List ℕ) → Came w h p r → questions_of w ≡ qs → said w ≡ said_to h p r qs
unfolding said_to
said-parts w h p r qs C q =
    ap (λ (b : Bool). cond b too_large_line (said_on (plan_of w) (rules_of w) (questions_of w)))
    (too-large-head w h C.head)
    ∙ (ap (λ (l : List ℕ). said_to h l (rules_of w) (questions_of w)) C.plan
    ∙ (ap (λ (l : List ℕ). said_to h p l (questions_of w)) C.rules ∙ ap (said_to h p r) q))

module _ (h p r qs : List ℕ) (l : length h ≡ 12) (m : length p ≡ le32 h 0) (n : length r ≡ le32 h 4)
    (k : length qs ≤ le32 h 8) where
  stated-in : (at : ℕ) → at ≤ 8 → le32 (h ++ (p ++ (r ++ qs))) at ≡ le32 h at
  stated-in at i = le32-head (h ++ (p ++ (r ++ qs))) h at (take_at h (p ++ (r ++ qs)) 12 l) i

  after-plan : drop (12 + le32 (h ++ (p ++ (r ++ qs))) 0) (h ++ (p ++ (r ++ qs))) ≡ r ++ qs
  after-plan =
      sym (drop-drop (le32 (h ++ (p ++ (r ++ qs))) 0) 12 (h ++ (p ++ (r ++ qs))))
      ∙ (ap (drop (le32 (h ++ (p ++ (r ++ qs))) 0)) (drop_at h (p ++ (r ++ qs)) 12 l)
      ∙ drop_at p (r ++ qs) (le32 (h ++ (p ++ (r ++ qs))) 0) (m ∙ sym (stated-in 0 (omega arith))))

  pub parts-of-whole : Came (h ++ (p ++ (r ++ qs))) h p r × (questions_of (h ++ (p ++ (r ++ qs))) ≡ qs)
  parts-of-whole =
      let w = h ++ (p ++ (r ++ qs)) in (
        record {
          head = take_at h (p ++ (r ++ qs)) 12 l;
          plan = ap (take (le32 w 0)) (drop_at h (p ++ (r ++ qs)) 12 l)
              ∙ take_at p (r ++ qs) (le32 w 0) (m ∙ sym (stated-in 0 (omega arith)));
          rules = ap (take (le32 w 4)) after-plan ∙ take_at r qs (le32 w 4) (n ∙ sym (stated-in 4 (omega arith)));
        },
        ap (take (le32 w 8))
            (sym (drop-drop (le32 w 4) (12 + le32 w 0) w)
            ∙ (ap (drop (le32 w 4)) after-plan ∙ drop_at r qs (le32 w 4) (n ∙ sym (stated-in 4 (omega arith)))))
            ∙ take_all (le32 w 8) qs (omega (arith, stated-in 8 (omega arith), k)),
      )

-- ---- Load

pub room-enough : (p r : List ℕ) → length p ≤ 2014
    → first_no (build_checks p r 4004 17017) ≡ first_no (rule_table_checks p r)
unfolding build_checks
room-enough p r h = go (first_no (rule_table_checks p r)) refl
  where
    go : (n : ℕ) → first_no (rule_table_checks p r) ≡ n
        → first_no (build_checks p r 4004 17017) ≡ first_no (rule_table_checks p r)
    go zero e =
        let t = rule-table-passes p r e in
        let n : node_count p ≤ 1001 = omega (arith, t.0.exact) in
        let s : state_count r + 1 ≤ 17 = omega (arith, t.1.states_most) in
        passes-build p r 4004 17017 e (omega arith) (product-most (node_count p) (state_count r + 1) 1001 17 n s) ∙ sym e
    go (suc n) e =
        first_no-append-no (rule_table_checks p r) (room_check (node_count p) (state_count r) 4004 17017 ∷ [])
        (λ z. omega (arith, e, z))

module _ (p r n b : List ℕ) where
  load-refusal : refusal (reference_stage new_reference) (load (inputs_of p r n b))
      ≡ first_no (build_checks p r (length n) (length b))
  unfolding refusal phase new_reference may_load
  load-refusal = first_no-yes 1 true (build_checks p r (length n) (length b)) refl

  module _ (f s : Session) (n' b' : List ℕ) (t : Result Unit Refusal) (d : f ≡ fresh_session)
      (L : LoadDone f (inputs_of p r n b) (call_answer t) s n' b') where
    told : call_answer t ≡ answer_on fresh_session (load (inputs_of p r n b))
    told = L.call.tells ∙ ap (λ (g : Session). answer_on g (load (inputs_of p r n b))) d

    pub loaded-said : (u : Unit) → t ≡ Ok u → (qs : List ℕ) → said_on p r qs ≡ lines_by (question_line p r) [] qs
    unfolding call_answer said_by
    loaded-said u e qs =
        let a = load-passed (inputs_of p r n b) (sym told ∙ ap call_answer e) in
        ap (λ (k : ℕ). said_by k p r qs) (build-table p r (length n) (length b) (sym load-refusal ∙ a))

    pub refused-said : (y : Refusal) → t ≡ Err y → length p ≤ 2014 → length n ≡ 4004 → length b ≡ 17017 → (qs : List ℕ)
        → said_on p r qs ≡ refused_line (refusal_number y)
    unfolding call_answer said_by
    refused-said y e h i j qs =
        let k = refusal_number y in
        let a = load-number (inputs_of p r n b) k (sym told ∙ ap call_answer e) in
        let c : k ≡ first_no (rule_table_checks p r) =
        a.0 ∙ (load-refusal ∙ (ap (λ (x : ℕ). first_no (build_checks p r x (length b))) i
        ∙ (ap (λ (x : ℕ). first_no (build_checks p r 4004 x)) j ∙ room-enough p r h))) in
        ap (λ (x : ℕ). said_by x p r qs) (sym c) ∙ by_number k a.1
      where
        by_number : (x : ℕ) → (x ≡ 0 → ⊥) → said_by x p r qs ≡ refused_line x
        by_number zero z = absurd (z refl)
        by_number (suc x) z = refl

-- ---- chunks

pub lines-over : (f : List ℕ → List ℕ) (q : List ℕ) (cs : List (List ℕ)) → lines_over f q cs ≡ lines_by f q (joined cs)
unfolding lines_over lines_by joined
lines-over f q [] = refl
lines-over f q (c ∷ cs) =
    ap (λ (t : List ℕ). lines_by f q c ++ t) (lines-over f (open_by q c) cs)
    ∙ sym (lines-chunks f q c (joined cs))
