-- The iterations of the pass over a plan's nodes.
--     top-most, inner-two, rule-args, left-state     what the machine asks in an iteration
--     leaf-step, inner-step   the iteration of a node
--     stretch-start, stretch-step     the nodes up to the next mark: what holds at first, and an iteration keeps it
--     stretch-inside, stretch-before  no mark is passed
--     Passed, span-start, span-step, span-end   the nodes whose changes are marked
--     pass-start, pass-end   the whole pass: what holds before its first node, and what its last one returns
-- Not here: the marks (ChangeLaws).
use Prim.Native.Nat.{ℕ, ◌+◌, ◌-◌, ◌*◌, ◌≤◌, ◌<◌}
use mathlib.Core.Path.{◌≡◌, refl, sym, ap, ap₂, ◌∙◌}
use mathlib.Core.Bool.{true}
use mathlib.Core.List.{List, [], ◌∷◌}
use mathlib.Core.Option.{Option, none, some}
use native.Mathlib.Decide.{dec_lt, ℕ_discrete}
use native.Mathlib.Nat.{mul-le-mul_right}
use native.Mathlib.Omega.{arith}
use borrow.Author.Tests.{eqb-true}
use lib.ListN.{length, get_or, set, drop, length-set, length-drop, drop_of_length-le}
use lib.Seq.{get_or-set_same, get_or-set_other}
use Rattle.trees.specs.Automaton.{Automaton, state}
use Rattle.trees.specs.Postorder.{waiting, is_single, is_postorder, tree_of}
use Rattle.trees.proofs.PostorderLaws.{state-fold, read_whole, tree_of-kinds, tree_of-labels}
use Rattle.trees.proofs.PostorderLaws.{leaf-at, inner-at, short-at, other_at, end-at}
use Rattle.trees.proofs.MoveLaws.{none-some}
use Rattle.list_laws.proofs.RowLaws.{stride}
use Rattle.formats.specs.inner.InnerChecks.{RuleArgs}
use Rattle.formats.specs.Rules.{tree_automaton}
use Rattle.runs.specs.declared.pass.Waiting.{Waiting}
use Rattle.runs.specs.inner.Listed.{marked}
use Rattle.runs.specs.inner.Pass.{leaf_of, inner_of, reads, stack_of, stack_with, lower_of, read_on, RuleStates, Stacked}
use Rattle.runs.specs.inner.Pass.{StepDone, StretchArgs, StretchDone, SpanArgs, SpanDone}
use Rattle.runs.proofs.ChangeLaws.{marked-none}
use Rattle.runs.proofs.StackLaws.{stack_push, stack-two, stack-join, some-some, waiting-most}
use Rattle.runs.proofs.StackLaws.{read-leaf, read-inner}

abbrev pub trees : ℕ → ℕ → ℕ → Waiting
trees v top x = record { node = v; count = top; last = x }

-- ---- bounds

-- the rule of states below s is in the table
pub rule-args : {inn : List ℕ} {s k p a q : ℕ} → p < s → a < k → q < s → s ≤ 16 → k ≤ 64 → length inn ≡ s * k * s
    → RuleArgs inn s k p a q
rule-args {s = s} {k = k} {p = p} {a = a} hp ha hq hs hk e =
    record {
      small = omega (arith, stride k p s hp, mul-le-mul_right k hs);
      inside = omega (arith, stride s (p * k + a) (s * k) (omega (arith, stride k p s hp)));
    }

-- no more trees wait than half the nodes, rounded up
pub top-most : {ks : List ℕ} {s : ℕ} {st : List ℕ} {w : Waiting} → Stacked ks s st w → w.count < length st
top-most {ks = ks} {w = w} p =
    omega (arith, waiting-most (drop w.node ks) w.count p.one, length-drop w.node ks, p.few, p.here, p.room)

-- ---- the iteration of a node

module _ {ks : List ℕ} {s : ℕ} {st : List ℕ} {w : Waiting} (p : Stacked ks s st w) (h : w.node < length ks) where
  -- a leaf is one more tree that waits
  leaf-stacked : get_or ks w.node 0 ≡ 0 → (y : ℕ) → y < s → s ≤ 16
      → Stacked ks s (set st w.count w.last) (trees (w.node + 1) (w.count + 1) y)
  leaf-stacked e y l most = record {
    here = omega arith;
    room = rw length-set p.room;
    few = omega (arith, p.few);
    one = sym (leaf-at ks w.node h w.count e) ∙ p.one;
    last_below = omega arith;
    last_state = λ z. l;
    below = λ i a b. elim (ℕ_discrete i w.count) [
      | yes q ↦ rw (q, get_or-set_same st w.count w.last 0 (top-most p)) (p.last_state (omega arith))
      | no q ↦ rw (get_or-set_other st w.count i w.last 0 q) (p.below i a (omega arith))
    ];
  }

  module _ (ne : get_or ks w.node 0 ≡ 0 → ⊥) where
    pub inner-kind : get_or ks w.node 0 ≡ 1
    inner-kind =
        elim (ℕ_discrete (get_or ks w.node 0) 1) [
          | yes e ↦ e
          | no e ↦ absurd (none-some (sym (other_at ks w.node h w.count ne e) ∙ p.one))
        ]

    -- an inner node finds two trees
    pub inner-two : 2 ≤ w.count
    inner-two =
        elim (dec_lt w.count 2) [
          | yes l ↦ absurd (none-some (sym (short-at ks w.node h w.count inner-kind l) ∙ p.one))
          | no l ↦ omega arith
        ]

    -- the left child's state is in its cell
    pub left-state : get_or (set st w.count w.last) (w.count - 1) 0 ≡ get_or st (w.count - 1) 0
    left-state = get_or-set_other st w.count (w.count - 1) w.last 0 (λ e. omega (arith, inner-two))

    pub left_below : get_or (set st w.count w.last) (w.count - 1) 0 < s
    left_below = rw left-state (p.below (w.count - 1) (omega (arith, inner-two)) (omega (arith, inner-two)))

    inner-stacked : (y : ℕ) → y < s → s ≤ 16
        → Stacked ks s (set st w.count w.last) (trees (w.node + 1) (w.count - 1) y)
    inner-stacked y l most = record {
      here = omega arith;
      room = rw length-set p.room;
      few = omega (arith, p.few);
      one = sym (inner-at ks w.node h w.count inner-kind inner-two) ∙ p.one;
      last_below = omega arith;
      last_state = λ z. l;
      below = λ i a b. rw (get_or-set_other st w.count i w.last 0 (λ e. omega arith)) (p.below i a (omega arith));
    }

module _ {ks lv inn : List ℕ} {s k a : ℕ} {st : List ℕ} {w : Waiting} (r : RuleStates ks lv inn s k) (p : Stacked ks s st w)
    (h : w.node < length ks) where
  pub leaf-step : get_or ks w.node 0 ≡ 0
      → StepDone ks lv inn s k a st w (set st w.count w.last) (trees (w.node + 1) (w.count + 1) (leaf_of lv a))
  leaf-step e = record {
    next = refl;
    stacked = leaf-stacked p h e (leaf_of lv a) (r.leaf_below a) r.states;
    size = length-set st w.count w.last;
    same = λ bs l m.
        ap (reads s k lv inn (drop (w.node + 1) ks) (drop (w.node + 1) bs))
        (stack_push st w.count w.last (leaf_of lv a) (top-most p) ∙ ap (λ (b : ℕ). leaf_of lv b ∷ stack_with st w) m)
        ∙ sym (read-leaf (leaf_of lv) (inner_of s k inn) ks bs w.node h (omega (arith, l)) (stack_with st w) e);
  }

  pub inner-step : (get_or ks w.node 0 ≡ 0 → ⊥)
      → StepDone ks lv inn s k a st w (set st w.count w.last)
      (trees (w.node + 1) (w.count - 1) (inner_of s k inn (get_or (set st w.count w.last) (w.count - 1) 0) a w.last))
  inner-step ne =
      let top : ℕ = w.count in
      let x : ℕ = w.last in
      let q : ℕ = get_or (set st w.count w.last) (w.count - 1) 0 in
      let y : ℕ = inner_of s k inn q a x in
      let two : 2 ≤ w.count = inner-two p h ne in
      let i : ℕ = w.count - 2 in
      let f : w.count ≡ i + 2 = omega arith in
      let g : w.count - 1 ≡ i + 1 = omega arith in
      let left : q ≡ get_or st (i + 1) 0 = left-state p h ne ∙ ap (λ (j : ℕ). get_or st j 0) g in
      record {
        next = refl;
        stacked = inner-stacked p h ne y (r.inner_below ((q * k + a) * s + x)) r.states;
        size = length-set st w.count w.last;
        same = λ bs l m.
            ap (reads s k lv inn (drop (w.node + 1) ks) (drop (w.node + 1) bs))
            (ap (λ (j : ℕ). stack_of (set st top x) j y) g
            ∙ stack-join st i top x y (omega arith)
            ∙ ap₂ (λ (t b : ℕ). inner_of s k inn t b x ∷ lower_of st i) left m)
            ∙ sym (read-inner (leaf_of lv) (inner_of s k inn) ks bs w.node h (omega (arith, l)) (get_or st (i + 1) 0) x (lower_of st i)
            (inner-kind p h ne))
            ∙ ap (reads s k lv inn (drop w.node ks) (drop w.node bs)) (sym (stack-two st i top x f));
      }

-- ---- the nodes up to the next mark

pub stretch-start : {ks ls cs : List ℕ} {from : ℕ} {lv inn : List ℕ} {s k : ℕ} {st : List ℕ} {w : Waiting} → Stacked ks s st w
    → StretchDone ks ls cs from lv inn s k st w st w
stretch-start p = record {
  rising = omega arith;
  unlisted = λ u g h. absurd (omega arith);
  stacked = p;
  size = refl;
  same = λ bs l m. refl;
}

-- no mark is passed
pub stretch-inside : {ks ls cs : List ℕ} {from : ℕ} {lv inn : List ℕ} {s k : ℕ} {st st' : List ℕ} {w w' : Waiting}
    → (a : StretchArgs ks ls cs from k w) → StretchDone ks ls cs from lv inn s k st w st' w' → w'.node ≤ a.end
stretch-inside {w' = w'} a d =
    elim (dec_lt a.end w'.node) [
      | yes l ↦ absurd (omega (arith, d.unlisted a.end a.ahead l, a.stop))
      | no l ↦ omega arith
    ]

-- nor is there one at a node that is not listed
pub stretch-before : {ks ls cs : List ℕ} {from : ℕ} {lv inn : List ℕ} {s k : ℕ} {st st' : List ℕ} {w w' : Waiting}
    → (a : StretchArgs ks ls cs from k w) → StretchDone ks ls cs from lv inn s k st w st' w' → get_or cs (w'.node - from) 0 ≡ 255
    → w'.node < a.end
stretch-before {cs = cs} {from = from} {w' = w'} a d e =
    elim (ℕ_discrete w'.node a.end) [
      | yes q ↦ (
          let z : get_or cs (w'.node - from) 0 ≡ 0 = ap (λ (u : ℕ). get_or cs (u - from) 0) q ∙ a.stop in
          absurd (omega arith))
      | no q ↦ omega (arith, stretch-inside a d)
    ]

pub stretch-step : {ks ls cs : List ℕ} {from : ℕ} {lv inn : List ℕ} {s k a : ℕ} {st₀ st st' : List ℕ} {w₀ w w' : Waiting}
    → StretchDone ks ls cs from lv inn s k st₀ w₀ st w → get_or cs (w.node - from) 0 ≡ 255 → a ≡ get_or ls w.node 0
    → StepDone ks lv inn s k a st w st' w' → StretchDone ks ls cs from lv inn s k st₀ w₀ st' w'
stretch-step {cs = cs} {from = from} {w = w} d e f n = record {
  rising = omega (arith, d.rising, n.next);
  unlisted = λ u g h. elim (ℕ_discrete u w.node) [
    | yes q ↦ ap (λ (x : ℕ). get_or cs (x - from) 0) q ∙ e
    | no q ↦ d.unlisted u g (omega (arith, n.next))
  ];
  stacked = n.stacked;
  size = n.size ∙ d.size;
  same = λ bs l m.
      n.same bs l (f ∙ m w.node d.rising (omega (arith, n.next)))
      ∙ d.same bs l (λ u g h. m u g (omega (arith, n.next)));
}

-- ---- the nodes whose changes are marked

-- before the iteration of w's node
pub record Passed (ks ls cs : List ℕ) (to : ℕ) (lv inn : List ℕ) (s k : ℕ) (st₀ : List ℕ) (w₀ : Waiting) (st : List ℕ) (w : Waiting)
    : Type 0 where
  pub rising : w₀.node ≤ w.node
  pub inside : w.node ≤ to
  pub stacked : Stacked ks s st w
  pub size : length st ≡ length st₀
  pub same : (bs : List ℕ) → length bs ≡ length ks
      → ((u : ℕ) → w₀.node ≤ u → u < to → marked (get_or ls u 0) (get_or cs (u - w₀.node) 0) ≡ get_or bs u 0)
      → read_on s k lv inn ks bs st w ≡ read_on s k lv inn ks bs st₀ w₀

pub span-start : {ks ls cs : List ℕ} {to : ℕ} {lv inn : List ℕ} {s k : ℕ} {st : List ℕ} {w : Waiting} → w.node ≤ to
    → Stacked ks s st w → Passed ks ls cs to lv inn s k st w st w
span-start h p = record { rising = omega arith; inside = h; stacked = p; size = refl; same = λ bs l m. refl }

pub span-end : {ks ls cs : List ℕ} {to : ℕ} {lv inn : List ℕ} {s k : ℕ} {st₀ st : List ℕ} {w₀ w : Waiting}
    → Passed ks ls cs to lv inn s k st₀ w₀ st w → to ≤ w.node → SpanDone ks ls cs to lv inn s k st₀ w₀ st w
span-end p h = record { reached = omega (arith, p.inside); stacked = p.stacked; size = p.size; same = p.same }

module _ {ks ls cs : List ℕ} {to : ℕ} {lv inn : List ℕ} {s k : ℕ} {st₀ st : List ℕ} {w₀ w t : Waiting}
    (a : SpanArgs ks ls cs to k w₀) (p : Passed ks ls cs to lv inn s k st₀ w₀ st w) (h : w.node < to) where
  -- after the iteration of one node
  pub stretch-args : t.node ≡ w.node + 1 → StretchArgs ks ls cs w₀.node k t
  stretch-args n = record {
    labelled = a.labelled;
    labels_below = a.labels_below;
    first = omega (arith, p.rising);
    end = to;
    ahead = omega arith;
    inside = a.inside;
    room = a.room;
    stop = a.stop;
  }

  pub span-step : {b : ℕ} {st₁ st' : List ℕ} {w' : Waiting} → b ≡ marked (get_or ls w.node 0) (get_or cs (w.node - w₀.node) 0)
      → StepDone ks lv inn s k b st w st₁ t → StretchDone ks ls cs w₀.node lv inn s k st₁ t st' w'
      → Passed ks ls cs to lv inn s k st₀ w₀ st' w'
  unfolding stretch-args
  span-step {w' = w'} e n d =
      let far : w'.node ≤ to = stretch-inside (stretch-args n.next) d in
      record {
        rising = omega (arith, p.rising, n.next, d.rising);
        inside = far;
        stacked = d.stacked;
        size = d.size ∙ n.size ∙ p.size;
        same = λ bs l m.
            d.same bs l (λ u g z. sym (marked-none (get_or ls u 0) (get_or cs (u - w₀.node) 0) (d.unlisted u g z))
            ∙ m u (omega (arith, p.rising, n.next)) (omega arith))
            ∙ n.same bs l (e ∙ m w.node p.rising h)
            ∙ p.same bs l m;
      }

-- ---- the whole pass

is_one : (o : Option ℕ) → is_single o ≡ true → o ≡ some 1
is_one none q = let z : ◌≡◌ {A = ℕ} 0 1 = cc in absurd (omega arith)
is_one (some w) q = ap some (eqb-true w 1 q)

pub no-trees : (st : List ℕ) → stack_of st 0 0 ≡ []
unfolding stack_of
no-trees st = refl

pub pass-start : {ks : List ℕ} {s : ℕ} {st : List ℕ} → length ks + 1 < 2 * length st → is_postorder ks ≡ true
    → Stacked ks s st (trees 0 0 0)
unfolding is_postorder
pass-start {ks = ks} e p = record {
  here = omega arith;
  room = e;
  few = omega arith;
  one = is_one (waiting ks 0) p;
  last_below = omega arith;
  last_state = λ h. absurd (omega arith);
  below = λ i a b. absurd (omega arith);
}

-- at the end one tree is left, the root's
pub pass-end : {ks : List ℕ} (ls lv inn : List ℕ) {s : ℕ} (k : ℕ) {st : List ℕ} {w : Waiting} → Stacked ks s st w
    → read_on s k lv inn ks ls st w ≡ reads s k lv inn ks ls []
    → length ks ≤ w.node → length ls ≡ length ks → is_postorder ks ≡ true → (marks : List ℕ)
    → w.last ≡ state (tree_automaton s k lv inn marks) (tree_of ks ls)
unfolding stack_of lower_of
pass-end {ks = ks} ls lv inn {s = s} k {st = st} {w = w} p same h e ok marks =
    let A : Automaton = tree_automaton s k lv inn marks in
    let whole : reads s k lv inn ks ls [] ≡ some (state A (tree_of ks ls) ∷ []) =
    ap₂ (λ (a b : List ℕ). reads s k lv inn a b []) (sym (tree_of-kinds ks ls e ok)) (sym (tree_of-labels ks ls e ok))
    ∙ read_whole A.ι A.δ (tree_of ks ls)
    ∙ ap (λ (q : ℕ). some (q ∷ [])) (state-fold A (tree_of ks ls)) in
    let last : read_on s k lv inn ks ls st w ≡ some (stack_with st w) = rw (drop_of_length-le ks {i = w.node} h) in
    let alone : w.count ≡ 1 = some-some (sym (end-at ks w.node w.count h) ∙ p.one) in
    let f : stack_with st w ≡ w.last ∷ [] = ap (λ (c : ℕ). stack_of st c w.last) alone in
    cc same
