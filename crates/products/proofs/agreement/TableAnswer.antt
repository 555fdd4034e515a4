-- From the two tables' bytes to the named lines: what each part of the answer asks is there, and what it promises is the answer's.
--     shown_number      how many lines are shown; 0 where none are
--     leaf-args-at, whole-args-at, mark-args-at, cut-args-at    what each part asks
--     answered-at      the lines in the record are the named lines
use Prim.Native.Nat.{ℕ, zero, suc, ◌+◌, ◌*◌, ◌/◌, ◌%◌, ◌-◌, ◌≤◌, ◌<◌}
use mathlib.Core.Path.{◌≡◌, refl, sym, ap, ap₂, ◌∙◌, subst, fun_ext}
use mathlib.Core.Bool.{Bool, true, false, cond, not}
use mathlib.Core.List.{List, [], ◌∷◌, ◌++◌}
use mathlib.Core.Option.{Option, none, some}
use native.Mathlib.Decide.{ℕ_discrete}
use native.Mathlib.Omega.{arith}
use lib.Dec.{eqb}
use lib.ListN.{length, get_or, take, drop, length-take, drop_of_length-le, length-append}
use lib.Seq.{drop-cons, get_or-take, take_all, take-append-le}
use Rattle.trees.specs.Automaton.{Automaton}
use Rattle.formats.specs.Rules.{state_count, label_count, rule_length, leaf_states, inner_states, rule_marks}
use Rattle.formats.specs.Checks.{first_no, rule_checks}
use Rattle.formats.proofs.RuleLaws.{RulesPass, rules-pass, leaf-state-below, inner-state-below, mark-below}
use Rattle.formats.proofs.RuleLaws.{length-leaf_states, length-inner_states, length-rule_marks}
use Rattle.formats.proofs.RuleLaws.{leaves-part, inner-part, marks-part}
use Rattle.formats.proofs.PlanLaws.{product-most}
use Rattle.products.specs.Product.{differ}
use Rattle.products.proofs.RulePairs.{pair-count}
use Rattle.products.specs.agreement.Search.{Found, nothing, over_leaves, searched, reached, first_accepted}
use Rattle.products.specs.agreement.Answer.{differing, shown_count, shown_lines}
use Rattle.products.specs.declared.agreement.reachable.Search.{Search}
use Rattle.products.specs.agreement.reachable.SearchRecord.{empty_search, lines_from, lines_to, line_at, found_in, pair_leaf, step_of}
use Rattle.products.specs.agreement.reachable.SearchRecord.{Fits, Pair, Front}
use Rattle.products.specs.agreement.reachable.SearchRecord.{LeavesArgs, LeavesDone, SearchArgs, SearchDone, MarksArgs, differing_from}
use Rattle.products.proofs.agreement.reachable.RecordLaws.{count_most, length-lines, empty-fits, empty-found}
use Rattle.products.specs.agreement.Reply.{shown_by, shown_reply, AnswerArgs, CutArgs}

abbrev pub shown_number : Option ℕ → ℕ
shown_number none = 0
shown_number (some n) = n

marks-differ : (x y : ℕ) → x < 2 → y < 2 → differ (eqb x 1) (eqb y 1) ≡ not (eqb x y)
marks-differ zero zero h i = refl
marks-differ zero (suc zero) h i = refl
marks-differ zero (suc (suc y)) h i = absurd (omega arith)
marks-differ (suc zero) zero h i = refl
marks-differ (suc zero) (suc zero) h i = refl
marks-differ (suc zero) (suc (suc y)) h i = absurd (omega arith)
marks-differ (suc (suc x)) y h i = absurd (omega arith)

lines-front : (t : Search) (c n : ℕ) → n ≤ c → take n (lines_to t c) ≡ lines_to t n
unfolding lines_from
lines-front t zero n h = let e : n ≡ 0 = omega arith in rw e
lines-front t (suc c) n h = elim (ℕ_discrete n (suc c)) [
  | yes e ↦ take_all n (lines_to t c ++ (line_at t c ∷ []))
      (omega (arith, length-append (lines_to t c) (line_at t c ∷ []), length-lines t.kinds t.labels t.lefts t.rights c))
      ∙ ap (lines_to t) (sym e)
  | no e ↦ take-append-le n (lines_to t c) (line_at t c ∷ [])
      (omega (arith, length-lines t.kinds t.labels t.lefts t.rights c))
      ∙ lines-front t c n (omega arith)
]

-- what is accepted first stays so where more follows
accepted-front : (A : Automaton) (ys xs : List ℕ) (i n : ℕ) → first_accepted A xs i ≡ some n → first_accepted A (xs ++ ys) i ≡ some n
unfolding first_accepted
accepted-front A ys [] i n e = let z : ◌≡◌ {A = ℕ} 0 1 = cc in absurd (omega arith)
accepted-front A ys (c ∷ cs) i n e = go (A.accepting c) e (accepted-front A ys cs (suc i) n)
  where
    go : (b : Bool) → cond b (some (suc i)) (first_accepted A cs (suc i)) ≡ some n
        → (first_accepted A cs (suc i) ≡ some n → first_accepted A (cs ++ ys) (suc i) ≡ some n)
        → cond b (some (suc i)) (first_accepted A (cs ++ ys) (suc i)) ≡ some n
    go true h f = h
    go false h f = f h

differing-most : (f g : List ℕ) (s2 : ℕ) (t : Search) (n i : ℕ) → differing_from f g s2 t i n ≤ i + n
unfolding differing_from
differing-most f g s2 t zero i = omega arith
differing-most f g s2 t (suc n) i = go (eqb (get_or f (get_or t.codes i 0 / s2) 0) (get_or g (get_or t.codes i 0 % s2) 0))
    (differing-most f g s2 t n (suc i))
  where
    go : (b : Bool) → differing_from f g s2 t (suc i) n ≤ suc i + n
        → cond b (differing_from f g s2 t (suc i) n) (suc i) ≤ i + suc n
    go true h = omega arith
    go false h = omega arith

module _ {first second : List ℕ} {s1 s2 k : ℕ} (A : AnswerArgs first second s1 s2 k) where
  P : RulesPass first
  P = rules-pass first A.first_passes

  Q : RulesPass second
  Q = rules-pass second A.second_passes

  some-states : 1 ≤ s1 * s2
  some-states = subst (λ (x : ℕ). 1 ≤ x) (sym (ap₂ (λ (x y : ℕ). x * y) A.first_states A.second_states))
      (pair-count first second P Q)

  pub leaf-args : LeavesArgs (leaf_states first) (leaf_states second) s1 s2 k empty_search
  leaf-args = record {
    first_most = omega (arith, P.states_most, A.first_states);
    second_most = omega (arith, Q.states_most, A.second_states);
    labels_most = omega (arith, P.labels_most, A.first_labels);
    first_length = length-leaf_states first P ∙ sym A.first_labels;
    second_length = length-leaf_states second Q ∙ sym A.second_labels;
    first_below = λ j. omega (arith, leaf-state-below first P j, A.first_states);
    second_below = λ j. omega (arith, leaf-state-below second Q j, A.second_states);
    fits = empty-fits s1 s2 some-states;
  }

  pub pair-args : Pair (inner_states first) (inner_states second) s1 s2 k
  pair-args = record {
    first_least = omega (arith, P.states-least, A.first_states);
    first_most = omega (arith, P.states_most, A.first_states);
    second_least = omega (arith, Q.states-least, A.second_states);
    second_most = omega (arith, Q.states_most, A.second_states);
    labels_most = omega (arith, P.labels_most, A.first_labels);
    first_length = length-inner_states first P ∙ sym (ap₂ (λ (x y : ℕ). x * y * x) A.first_states A.first_labels);
    second_length = length-inner_states second Q ∙ sym (ap₂ (λ (x y : ℕ). x * y * x) A.second_states A.second_labels);
    first_below = λ j. omega (arith, inner-state-below first P j, A.first_states);
    second_below = λ j. omega (arith, inner-state-below second Q j, A.second_states);
  }

  pub mark-args : (t : Search) → Fits s1 s2 t → MarksArgs (rule_marks first) (rule_marks second) s2 t
  mark-args t F = record {
    second_least = omega (arith, Q.states-least, A.second_states);
    few = count_most s1 s2 t F;
    second_length = length-rule_marks second Q ∙ sym A.second_states;
    below = λ i. let e : length (rule_marks first) ≡ s1 = length-rule_marks first P ∙ sym A.first_states in
        subst (λ (x : ℕ). get_or t.codes i 0 < x * s2) (sym e) (F.below i);
    small = λ i. omega (arith, F.below i, product-most s1 s2 16 16 leaf-args.first_most leaf-args.second_most);
  }

  step_is : step_of (inner_states first) (inner_states second) s1 s2 k ≡ (differing first second).δ
  unfolding step_of
  step_is = fun_ext λ p. fun_ext λ a. fun_ext λ q.
      cc (A.first_states, A.second_states, A.first_labels, A.second_labels)

  leaf-is : pair_leaf (leaf_states first) (leaf_states second) s2 ≡ (differing first second).ι
  leaf-is = fun_ext λ a. ap (λ (x : ℕ). get_or (leaf_states first) a 0 * x + get_or (leaf_states second) a 0) A.second_states

  pub found_all : (l : Search)
      → found_in l ≡ over_leaves (pair_leaf (leaf_states first) (leaf_states second) s2) 0 k (found_in empty_search)
      → searched (step_of (inner_states first) (inner_states second) s1 s2 k) k 256 0 (found_in l)
      ≡ reached (differing first second) (label_count first)
  unfolding reached
  found_all l e =
      ap (searched (step_of (inner_states first) (inner_states second) s1 s2 k) k 256 0) (e ∙ ap (over_leaves (pair_leaf
      (leaf_states first) (leaf_states second) s2) 0 k) empty-found)
      ∙ ap₂ (λ (d : ℕ → ℕ → ℕ → ℕ) (i : ℕ → ℕ). searched d k 256 0 (over_leaves i 0 k nothing)) step_is leaf-is
      ∙ ap (λ (n : ℕ). searched (differing first second).δ n 256 0 (over_leaves (differing first second).ι 0 n nothing))
      A.first_labels

  accepting-is : (c : ℕ)
      → (differing first second).accepting c ≡ not (eqb (get_or (rule_marks first) (c / s2) 0) (get_or (rule_marks second)
      (c % s2) 0))
  accepting-is c =
      ap (λ (x : ℕ). differ (eqb (get_or (rule_marks first) (c / x) 0) 1) (eqb (get_or (rule_marks second) (c % x) 0) 1)) (sym
      A.second_states)
      ∙ marks-differ (get_or (rule_marks first) (c / s2) 0) (get_or (rule_marks second) (c % s2) 0) (mark-below first P (c / s2))
      (mark-below second Q (c % s2))

  same_in : (t : Search) → length t.codes ≡ 256 → t.count ≤ 256 → (n i : ℕ) → i + n ≡ t.count
      → differing_from (rule_marks first) (rule_marks second) s2 t i n ≡ shown_number (first_accepted (differing first second)
      (drop i (take t.count t.codes)) i)
  unfolding differing_from first_accepted
  same_in t h m zero i e =
      let q : length (take t.count t.codes) ≤ i = omega (arith, length-take t.count t.codes) in
      ap (λ (l : List ℕ). shown_number (first_accepted (differing first second) l i)) (sym (drop_of_length-le (take t.count
      t.codes) {i = i} q))
  same_in t h m (suc n) i e =
      let q : i < length (take t.count t.codes) = omega (arith, length-take t.count t.codes) in
      let g : get_or (take t.count t.codes) i 0 ≡ get_or t.codes i 0 = get_or-take t.count t.codes i 0
      (omega arith) in
      go (eqb (get_or (rule_marks first) (get_or t.codes i 0 / s2) 0) (get_or (rule_marks second) (get_or
      t.codes i 0 % s2) 0)) refl (same_in t h m n (suc i) (omega arith))
      ∙ ap (λ (l : List ℕ). shown_number (first_accepted (differing first second) l i))
      (ap (λ (x : ℕ). x ∷ drop (suc i) (take t.count t.codes)) (sym g) ∙ sym (drop-cons (take t.count
      t.codes) i 0 q))
    where
      go : (b : Bool)
          → eqb (get_or (rule_marks first) (get_or t.codes i 0 / s2) 0) (get_or (rule_marks second) (get_or
          t.codes i 0 % s2) 0) ≡ b
          → differing_from (rule_marks first) (rule_marks second) s2 t (suc i) n
          ≡ shown_number (first_accepted (differing first second) (drop (suc i) (take t.count t.codes)) (suc i))
          → cond (eqb (get_or (rule_marks first) (get_or t.codes i 0 / s2) 0) (get_or (rule_marks second) (get_or
          t.codes i 0 % s2) 0))
          (differing_from (rule_marks first) (rule_marks second) s2 t (suc i) n) (suc i)
          ≡ shown_number (first_accepted (differing first second) (get_or t.codes i 0 ∷ drop (suc i) (take t.count
          t.codes)) i)
      go true e r =
          let n : (differing first second).accepting (get_or t.codes i 0) ≡ false = accepting-is (get_or
          t.codes i 0) ∙ ap not e in
          rw (e, n) r
      go false e r =
          let y : (differing first second).accepting (get_or t.codes i 0) ≡ true = accepting-is (get_or
          t.codes i 0) ∙ ap not e in
          rw (e, y)

  -- ---- the parts that are handed on

  pub leaf-args-at : (x y : List ℕ) (e : Search) → x ≡ leaf_states first → y ≡ leaf_states second → e ≡ empty_search
      → LeavesArgs x y s1 s2 k e
  leaf-args-at x y e p q z = rw (p, q, z) leaf-args

  pub inner_first : (m : ℕ) → m ≡ s1 * k * s1 → take (20 + k + m - (20 + k)) (drop (20 + k) first) ≡ inner_states first
  inner_first m e = rw e (inner-part first s1 k A.first_states A.first_labels)

  pub inner-second : (m : ℕ) → m ≡ s2 * k * s2 → take (20 + k + m - (20 + k)) (drop (20 + k) second) ≡ inner_states second
  inner-second m e = rw e (inner-part second s2 k A.second_states A.second_labels)

  pub marks-first : (m : ℕ) → m ≡ s1 * k * s1 → take (length first - (20 + k + m)) (drop (20 + k + m) first) ≡ rule_marks first
  marks-first m e = rw e (marks-part first s1 k P A.first_states A.first_labels)

  pub marks-second : (m : ℕ) → m ≡ s2 * k * s2
      → take (length second - (20 + k + m)) (drop (20 + k + m) second) ≡ rule_marks second
  marks-second m e = rw e (marks-part second s2 k Q A.second_states A.second_labels)

  pub leaves-first : take (20 + k - 20) (drop 20 first) ≡ leaf_states first
  leaves-first = leaves-part first k A.first_labels

  pub leaves-second : take (20 + k - 20) (drop 20 second) ≡ leaf_states second
  leaves-second = leaves-part second k A.second_labels

  pub whole-args-at : (x y z w : List ℕ) (l : Search) → x ≡ inner_states first → y ≡ inner_states second → z ≡ rule_marks first
      → w ≡ rule_marks second → Fits s1 s2 l
      → SearchArgs x y z w s1 s2 k l
  whole-args-at x y z w l p q u v F = rw (p, q, u, v) (record {
    pair = pair-args;
    first_marks = length-rule_marks first P ∙ sym A.first_states;
    second_marks = length-rule_marks second Q ∙ sym A.second_states;
    fits = F;
  })

  pub mark-args-at : (x y : List ℕ) (t : Search) → x ≡ rule_marks first → y ≡ rule_marks second → Fits s1 s2 t
      → MarksArgs x y s2 t
  mark-args-at x y t p q F = rw (p, q) (mark-args t F)

  pub cut-args : (t : Search) (n : ℕ) → Fits s1 s2 t
      → n ≡ differing_from (rule_marks first) (rule_marks second) s2 t 0 t.count → CutArgs s1 s2 t n
  cut-args t n F e = record {
    fits = F;
    few = omega (arith, e, differing-most (rule_marks first) (rule_marks second) s2 t t.count 0, count_most s1 s2 t F);
  }

  -- what the record shows is what is named
  shown-lines : (t : Search) (n : ℕ) (o : Option ℕ) → n ≡ shown_number o → lines_to t n ≡ shown_lines first second n
      → lines_to t n ≡ shown_by first second o
  unfolding lines_from
  shown-lines t n none e l = ap (lines_to t) e
  shown-lines t n (some m) e l = l ∙ ap (shown_lines first second) e

  module _ (e l t : Search) (n : ℕ) (empty : e ≡ empty_search) (L : LeavesDone (leaf_states first)
      (leaf_states second) s1 s2 k e l)
      (W : SearchDone (inner_states first) (inner_states second) (rule_marks first) (rule_marks second) s1 s2 k l t)
      (N : n ≡ differing_from (rule_marks first) (rule_marks second) s2 t 0 t.count) where
    whole : searched (step_of (inner_states first) (inner_states second) s1 s2 k) k 256 0 (found_in l)
        ≡ reached (differing first second) (label_count first)
    whole = found_all l (L.found ∙ ap (λ (s : Search). over_leaves (pair_leaf (leaf_states first) (leaf_states second) s2) 0 k
        (found_in s)) empty)

    front : Front (found_in t) (reached (differing first second) (label_count first))
    front = subst (Front (found_in t)) whole W.front

    all_found : n ≡ 0 → found_in t ≡ reached (differing first second) (label_count first)
    all_found z =
        let h : t.count - 0 ≡ t.count = omega arith in
        W.found (ap (differing_from (rule_marks first) (rule_marks second) s2 t 0) h ∙ sym N ∙ z) ∙ whole

    number-found : n ≡ shown_number (first_accepted (differing first second) (found_in t).states 0)
    unfolding found_in
    number-found = N ∙ same_in t W.fits.codes (count_most s1 s2 t W.fits) t.count 0 (omega arith)

    -- the first line found is the first of all: it stays so where more follows, and where there is none all was found
    number_by : (o : Option ℕ) → first_accepted (differing first second) (found_in t).states 0 ≡ o → n ≡ shown_number o
        → shown_count first second ≡ o
    unfolding shown_count
    number_by none q z =
        ap (λ (F : Found). first_accepted (differing first second) F.states 0) (sym (all_found z)) ∙ q
    number_by (some m) q z =
        ap (λ (l : List ℕ). first_accepted (differing first second) l 0) front.states
        ∙ accepted-front (differing first second) front.later_states (found_in t).states 0 m q

    number-shown : n ≡ shown_number (shown_count first second)
    number-shown = number-found ∙ ap shown_number (sym (number_by (first_accepted (differing first second)
        (found_in t).states 0) refl number-found))

    lines-shown : lines_to t n ≡ shown_lines first second n
    unfolding shown_lines found_in
    lines-shown =
        let h : n ≤ t.count = omega (arith, N, differing-most (rule_marks first) (rule_marks second) s2 t t.count 0) in
        sym (lines-front t t.count n h)
        ∙ sym (take-append-le n (lines_to t t.count) front.later_lines
        (omega (arith, length-lines t.kinds t.labels t.lefts t.rights t.count)))
        ∙ ap (take n) (sym front.lines)

    pub named-lines : lines_to t n ≡ shown_reply first second
    unfolding shown_reply
    named-lines = shown-lines t n (shown_count first second) number-shown lines-shown

  -- all lines, as the call counts them
  number_at : (z w : List ℕ) (t : Search) (n : ℕ) → z ≡ rule_marks first → w ≡ rule_marks second
      → n ≡ differing_from z w s2 t 0 (t.count - 0)
      → n ≡ differing_from (rule_marks first) (rule_marks second) s2 t 0 t.count
  number_at z w t n pz pw N =
      let h : t.count - 0 ≡ t.count = omega arith in
      N ∙ ap (differing_from z w s2 t 0) h ∙ ap₂ (λ (f g : List ℕ). differing_from f g s2 t 0 t.count) pz pw

  pub answered-at : (u v x y z w : List ℕ) (e l t : Search) (n : ℕ) → u ≡ leaf_states first → v ≡ leaf_states second
      → x ≡ inner_states first → y ≡ inner_states second → z ≡ rule_marks first → w ≡ rule_marks second → e ≡ empty_search
      → LeavesDone u v s1 s2 k e l → SearchDone x y z w s1 s2 k l t → n ≡ differing_from z w s2 t 0 (t.count - 0)
      → lines_to t n ≡ shown_reply first second
  answered-at u v x y z w e l t n pu pv px py pz pw pe L W N =
      named-lines e l t n pe (subst (λ (g : List ℕ). LeavesDone (leaf_states first) g s1 s2 k e l) pv (subst
      (λ (f : List ℕ). LeavesDone f v s1 s2 k e l) pu L))
      (subst (λ (b : List ℕ). SearchDone (inner_states first) (inner_states second) (rule_marks first) b s1 s2 k l t) pw
      (subst (λ (a : List ℕ). SearchDone (inner_states first) (inner_states second) a w s1 s2 k l t) pz
      (subst (λ (g : List ℕ). SearchDone (inner_states first) g z w s1 s2 k l t) py
      (subst (λ (f : List ℕ). SearchDone f y z w s1 s2 k l t) px W))))
      (number_at z w t n pz pw N)

  pub cut-args-at : (z w : List ℕ) (t : Search) (n : ℕ) → z ≡ rule_marks first → w ≡ rule_marks second → Fits s1 s2 t
      → n ≡ differing_from z w s2 t 0 (t.count - 0) → CutArgs s1 s2 t n
  cut-args-at z w t n pz pw F N = cut-args t n F (number_at z w t n pz pw N)

-- ---- the counts as the call reads them

pub answer-args : (first second : List ℕ) (a b x : ℕ) → first_no (rule_checks first) ≡ 0 → first_no (rule_checks second) ≡ 0
    → a ≡ state_count first → b ≡ state_count second → x ≡ label_count first
    → x ≡ label_count second → AnswerArgs first second a b x
answer-args first second a b x p q e f g h =
    let P : RulesPass first = rules-pass first p in
    let Q : RulesPass second = rules-pass second q in
    record {
      first_passes = p;
      second_passes = q;
      first_states = e;
      second_states = f;
      first_labels = g;
      second_labels = h;
      first_most = omega (arith, P.states_most);
      second_most = omega (arith, Q.states_most);
      labels_most = omega (arith, P.labels_most);
      first_exact = P.exact ∙ sym (ap₂ rule_length e g);
      second_exact = Q.exact ∙ sym (ap₂ rule_length f h);
    }
