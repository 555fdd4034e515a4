-- On colours as built and any run states below S a part by colours has the state of its trials.
--     PartIs       so, with at most 60 drops where it is one-sided, none elsewhere, each found by few links
--     tried-side   the state of a one-sided child is the climb's
--     part-built   of every part
use Prim.Native.Nat.{ℕ, ◌+◌, ◌-◌, ◌*◌, ◌≤◌, ◌<◌}
use mathlib.Core.Path.{◌≡◌, refl, sym, ap, ap₂, ◌∙◌, subst}
use mathlib.Core.Bool.{Bool, true, false, cond, not}
use mathlib.Core.List.{List, [], ◌∷◌, ◌++◌, Memᴰ}
use mathlib.Core.Option.{Option, none, some}
use native.Mathlib.Decide.{ℕ_discrete}
use native.Mathlib.Omega.{arith}
use lib.ListN.{length, get_or, length-append}
use borrow.Author.Tests.{lt-ltb, le-leb, eq-eqb, ne_eqb}
use Rattle.trees.specs.Tree.{Tree, size, height, kind_at, labels_of}
use Rattle.trees.specs.Changes.{changed}
use Rattle.trees.specs.Climb.{and_then, digits, walk}
use Rattle.trees.specs.Numbering.{sub, depth}
use Rattle.trees.proofs.NodeLaws.{Inner, inner}
use Rattle.tables.specs.node_tables.Cells.{size_cell}
use Rattle.tables.specs.Climbs.{View, run_on, rule_on}
use Rattle.tables.specs.inner.PathViews.{rules_view}
use Rattle.questions.specs.ready.Ready.{left_child, right_child}
use Rattle.questions.specs.ready.StaysInside.{StaysInside}
use Rattle.questions.specs.ready.Parts.{Given, Part, any_below, highest_below, nodes_of, states_of, state_of}
use Rattle.questions.proofs.ready.BelowLaws.{some_below}
use Rattle.questions.proofs.ready.ClosedForm.{kind-one}
use Rattle.questions.proofs.ready.HighestLaws.{Highest}
use Rattle.questions.proofs.ready.PartsRun.{Members}
use Rattle.questions.proofs.ready.UnderLaws.{under-self, left_in, right_in}
use Rattle.colours.specs.marks.Marks.{bit}
use Rattle.questions.specs.Part.{Found, found, found_below, label_on}
use Rattle.questions.specs.Promises.{Reads}
use Rattle.questions.proofs.ClimbBuilt.{is_below, rule-built, run-built}
use Rattle.questions.proofs.PartBuilt.{found_none, found-built}
use Rattle.colours.specs.StateSets.{Tried, tried, try_from, try_targets}
use Rattle.colour_tables.specs.ColourCells.{cell_table}
use Rattle.colours.proofs.DescentLaws.{all_append}
use Rattle.colours.specs.Descents.{AllLe}
use Rattle.colour_questions.specs.parts.Searches.{found_searches}
use Rattle.colour_questions.specs.parts.Trials.{tried_state, inner_by_trials, part_by_trials, side_trials, part_trials}
use Rattle.colours.proofs.Theorems.{set-targets}
use Rattle.colours.specs.Answers.{SetAnswer}
use Rattle.trees.proofs.IntervalLaws.{interval-ancestor, above_at}
use Rattle.trees.specs.Tables.{step_up}
use Rattle.colour_questions.specs.parts.Part.{ColourView, sides_in, untried, colour_from, side_tried, join_tried, fork_tried}
use Rattle.colour_questions.specs.parts.Part.{leaf_tried, part_tried}
use Rattle.colour_questions.specs.parts.OneSided.{is_one_sided}
use Rattle.colour_questions.proofs.parts.TriesBuilt.{SidesBuilt, tries-built}

pub record PartIs (t : Tree) (o : Option Tried) (q : ℕ) (searches : List ℕ) (drops : ℕ) : Type 0 where
  pub found : o ≡ some (tried q searches)
  pub falls : length searches ≤ drops
  pub few : AllLe (3 * digits (height t)) searches

module _ (L : ColourView) (G : Given) (R : Reads L.view G)
    (S : StaysInside G.automaton) (four : G.automaton.states ≤ 4)
    (B : SidesBuilt G.automaton G.tree L.numbers (sides_in L).copies)
    (w : ℕ → Bool) (ms : List ℕ) (M : Members w G.tree ms) (ps : List Part) (v : ℕ) (rest : List ℕ)
    (cut : nodes_of ps ++ (v ∷ rest) ≡ ms) (small : (x : ℕ) → state_of ps x < L.view.s) where
  abbrev X : View
  X = L.view

  abbrev t : Tree
  t = G.tree

  v-member : Memᴰ v ms
  v-member = subst (λ (l : List ℕ). Memᴰ v l) cut (mathlib.Core.List.Memᴰ.append_right (nodes_of ps) (mathlib.Core.List.Memᴰ.head refl))

  hv : v < size G.tree
  hv = M.inside v v-member

  -- ---- a child c of v

  module _ (c : ℕ) (l : c < v) where
    run-side : (g : Option Found) → side_tried (sides_in L) c none g ≡ some (tried (G.run_state c) [])
    unfolding side_tried run_on
    run-side g = ap untried (unfold run_on in run-built X G R c (omega (arith, hv)))

    own-side : (h : ℕ) (g : Found) → side_tried (sides_in L) c (some (found h (state_of ps h))) (some g)
        ≡ some (tried (state_of ps h) [])
    unfolding side_tried
    own-side h g = ap untried (is_below X.s (state_of ps h) (small h))

    -- "the state its climb gives is found by trying target states in rising order up to it"
    pub tried-side : any_below ms G.tree c ≡ true
        → PartIs G.tree
        (side_tried (sides_in L) c (some (found (highest_below ms G.tree c) (state_of ps (highest_below ms G.tree
        c)))) none)
        (tried_state G ms ps c) (side_trials G ms ps c) 60
    unfolding side_tried colour_from tried_state side_trials
    tried-side a =
        let h : ℕ = highest_below ms t c in
        let H : Highest t (λ x. Memᴰ x ms) c h = some_below t c ms M.rising a in
        let hh : h < size t = M.inside h H.member in
        let hc : c < size t = omega (arith, hv) in
        let k : ℕ = depth t h - depth t c in
        let a = above_at t c h hh (interval-ancestor t c h hc hh H.below) in
        let F : SetAnswer G.automaton t c h k (state_of ps h) =
        set-targets G.automaton t S.next four c h k (state_of ps h) hh (omega arith) a.1
        (omega (arith, small h, R.states)) in
        let own : found_searches (try_targets G.automaton t c h (state_of ps h)) ≡ F.searches =
        ap found_searches F.found in
        record {
          found =
              ap (λ (o : Option ℕ). and_then o (λ q. try_from (sides_in L).table (sides_in L).copies c h q X.s 0))
              (is_below X.s (state_of ps h) (small h))
              ∙ by-tree c h (state_of ps h) hc hh
              ∙ F.found
              ∙ ap (λ (ls : List ℕ). some (tried (walk (step_up G.automaton t) t h k (state_of ps h)) ls)) (sym own);
          falls = rw own F.falls;
          few = rw own F.few;
        }
      where
        by-tree : (c h q : ℕ) → c < size G.tree → h < size G.tree
            → try_from (sides_in L).table (sides_in L).copies c h q X.s 0
            ≡ try_targets G.automaton G.tree c h q
        by-tree c h q hc hh =
            ap₂ (λ (n s : ℕ). try_from (cell_table n L.numbers) (sides_in L).copies c h q s 0) R.count (sym R.states)
            ∙ tries-built G.automaton t L.numbers (sides_in L).copies B c h q hc hh

    -- a child that is a member is the highest below itself
    self-highest : Memᴰ c ms → any_below ms G.tree c ≡ true → highest_below ms G.tree c ≡ c
    self-highest m a =
        let H : Highest t (λ x. Memᴰ x ms) c (highest_below ms t c) = some_below t c ms M.rising a in
        omega (arith, H.below, H.greatest c m (under-self t c))

  joined : (a x y : ℕ) (ls ks : List ℕ) → a < X.k
      → join_tried (rules_view X.s X.k X.inner) a (some (tried x ls)) (some (tried y ks))
      ≡ some (tried (G.automaton.δ x a y) (ls ++ ks))
  unfolding join_tried rule_on
  joined a x y ls ks h =
      ap (λ (o : Option ℕ). and_then o (λ q. some (tried q (ls ++ ks)))) (unfold rule_on in rule-built X G R x a y h)

  -- ---- an inner root

  module _ (k : kind_at G.tree v ≡ 1) where
    abbrev l : ℕ
    l = left_child G.tree v

    abbrev r : ℕ
    r = right_child v

    hl : left_child G.tree v < v
    hl = left_in t v hv k

    hr : right_child v < v
    hr = right_in t v hv k

    abbrev b : ℕ
    b = get_or G.labels v 0

    own : any_below ms G.tree (left_child G.tree v) ≡ true → any_below ms G.tree (right_child v) ≡ true
        → Memᴰ (left_child G.tree v) ms × Memᴰ (right_child v) ms
    own p q =
        let N = some_below t l ms M.rising p in
        let O = some_below t r ms M.rising q in
        M.closed.has_children v _ _ v-member N.member O.member (record {
          inside = hv;
          inner = k;
          left = N.below;
          right = O.below;
        })

    joined-sides : (x y : Option Tried) (p q : ℕ) (ls ks : List ℕ) (m n : ℕ) → PartIs G.tree x p ls m
        → PartIs G.tree y q ks n
        → PartIs G.tree (join_tried (rules_view X.s X.k X.inner) (get_or G.labels v 0) x y)
        (G.automaton.δ p (get_or G.labels v 0) q) (ls ++ ks) (m + n)
    joined-sides x y p q ls ks m n P Q = record {
      found = ap₂ (λ (a c : Option Tried). join_tried (rules_view X.s X.k X.inner) b a c) P.found Q.found
          ∙ joined b p q ls ks (R.changed_below v);
      falls = omega (arith, length-append ls ks, P.falls, Q.falls);
      few = all_append (3 * digits (height t)) ls ks P.few Q.few;
    }

    still : (o : Option Tried) (q : ℕ) → o ≡ some (tried q []) → PartIs G.tree o q [] 0
    still o q e = record { found = e; falls = omega arith; few = tt }

    fork-is : (c d : Bool) → any_below ms G.tree (left_child G.tree v) ≡ c → any_below ms G.tree (right_child v)
        ≡ d
        → PartIs G.tree
        (join_tried (rules_view X.s X.k X.inner) (get_or G.labels v 0)
        (side_tried (sides_in L) (left_child G.tree v) (found_below X.node_table (left_child G.tree v) (nodes_of ps)
        (states_of ps))
        (found_below X.node_table (v - 1) (nodes_of ps) (states_of ps)))
        (side_tried (sides_in L) (v - 1) (found_below X.node_table (v - 1) (nodes_of ps) (states_of ps))
        (found_below X.node_table (left_child G.tree v) (nodes_of ps) (states_of ps))))
        (cond c (cond d (G.automaton.δ (state_of ps l) b (state_of ps r)) (G.automaton.δ (tried_state G ms ps l) b
        (G.run_state r)))
        (cond d (G.automaton.δ (G.run_state l) b (tried_state G ms ps r)) (G.automaton.δ (G.run_state l) b (G.run_state r))))
        (cond c (cond d [] (side_trials G ms ps (left_child G.tree v))) []
        ++ cond d (cond c [] (side_trials G ms ps (right_child v))) [])
        (60 * bit (cond c (not d) d))
    fork-is true true p q =
        let m = own p q in
        rw (
          found-built X G R w ms M ps v rest cut small l hl p,
          found-built X G R w ms M ps v rest cut small r hr q,
          self-highest l hl m.0 p,
          self-highest r hr m.1 q,
        )
        (joined-sides _ _ _ _ _ _ 0 0 (still _ _ (own-side l hl l (found r (state_of ps r))))
        (still _ _ (own-side r hr r (found l (state_of ps l)))))
    fork-is true false p q =
        rw (found-built X G R w ms M ps v rest cut small l hl p, found_none X G R w ms M ps v rest cut small r hr q)
        (joined-sides _ _ _ _ _ _ 60 0 (tried-side l hl p) (still _ _ (run-side r hr _)))
    fork-is false true p q =
        rw (found_none X G R w ms M ps v rest cut small l hl p, found-built X G R w ms M ps v rest cut small r hr q)
        (joined-sides _ _ _ _ _ _ 0 60 (still _ _ (run-side l hl _)) (tried-side r hr q))
    fork-is false false p q =
        rw (found_none X G R w ms M ps v rest cut small l hl p, found_none X G R w ms M ps v rest cut small r hr q)
        (joined-sides _ _ _ _ _ _ 0 0 (still _ _ (run-side l hl none)) (still _ _ (run-side r hr none)))

  -- ---- any root

  pub part-usable : (vs bs : List ℕ) → G.labels ≡ changed (labels_of G.tree) vs bs
      → PartIs G.tree (part_tried L (nodes_of ps) (states_of ps) vs bs v) (part_by_trials G ms ps v)
      (part_trials G ms ps v)
      (60 * bit (is_one_sided G.tree ms v))
  unfolding part_tried part_by_trials label_on leaf_tried is_one_sided fork_tried inner_by_trials part_trials
  part-usable vs bs e =
      let kind : get_or X.kinds v 0 ≡ kind_at t v = ap (λ (z : List ℕ). get_or z v 0) R.kinds in
      let lab : get_or (changed X.labels vs bs) v 0 ≡ get_or G.labels v 0 =
      ap (λ (z : List ℕ). get_or (changed z vs bs) v 0) R.labels ∙ ap (λ (z : List ℕ). get_or z v 0) (sym e) in
      elim (ℕ_discrete (kind_at t v) 0) [
        | yes z ↦ rw (
          kind,
          eq-eqb (kind_at t v) 0 z,
          lab,
          lt-ltb (get_or G.labels v 0) X.k (R.changed_below v),
          ← R.leaf (get_or G.labels v 0),
          is_below X.s (G.automaton.ι (get_or G.labels v 0)) (R.leaf_below (get_or G.labels v 0)),
        )
            (record { found = refl; falls = omega arith; few = tt })
        | no n ↦ (let i : Inner t v = inner t v hv n in
            let s : size_cell X.node_table (v - 1) ≡ size (sub t (v - 1)) = R.cells.sizes (v - 1) (omega (
              arith,
              hv,
            )) in
            rw (
              kind,
              ne_eqb (kind_at t v) 0 n,
              s,
              lt-ltb 0 v (omega (arith, i.at)),
              le-leb (size (sub t (v - 1))) (v - 1) (omega (arith, i.at)),
              lab,
            )
            (fork-is (kind-one t v hv n) (any_below ms t (left_child t v)) (any_below ms t (right_child v)) refl refl))
      ]
