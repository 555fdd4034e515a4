-- On tables as built the trials of a rule question start from the states of the changed run.
--     part-state      a part's state by its trials is that of "Parts of a question"
--     part-searches   its searches are those of the tree's own colours
--     all-trials      so of all parts, one after the other
use Prim.Native.Nat.{ℕ, ◌≤◌, ◌<◌}
use mathlib.Core.Path.{◌≡◌, refl, sym, ap, ap₂, ◌∙◌, subst}
use mathlib.Core.Bool.{Bool, true, false, cond}
use mathlib.Core.List.Memᴰ
use mathlib.Core.List.{List, [], ◌∷◌, ◌++◌, append_assoc, Memᴰ}
use mathlib.Core.Logic.{◌⊎◌, inl, inr}
use native.Mathlib.Omega.{arith}
use lib.Dec.{eqb}
use lib.ListN.{get_or}
use borrow.Author.Tests.{eqb-false}
use Rattle.trees.specs.Tree.{Tree, size, kind_at}
use Rattle.trees.specs.Automaton.{state}
use Rattle.trees.specs.Numbering.{sub, depth}
use Rattle.trees.proofs.RunLaws.{state_below}
use Rattle.trees.proofs.IntervalLaws.{interval-ancestor, above_at}
use Rattle.questions.specs.ready.Ready.{left_child, right_child}
use Rattle.questions.specs.ready.Members.{Rising}
use Rattle.questions.specs.ready.StaysInside.{StaysInside}
use Rattle.questions.specs.ready.Parts.{Given, Part, any_below, highest_below, nodes_of, state_of, climbed_state, inner_state}
use Rattle.questions.specs.ready.Parts.{part_state, part_of, parts_from, last_state}
use Rattle.questions.proofs.ready.BelowLaws.{some_below}
use Rattle.questions.proofs.ready.ChangedRun.{Changes}
use Rattle.questions.proofs.ready.ClosedForm.{kind-one}
use Rattle.questions.proofs.ready.HighestLaws.{Highest}
use Rattle.questions.proofs.ready.PartsRun.{Members, nodes-more, state-kept, state-new, rising-first, rising-not}
use Rattle.questions.specs.ready.RunGiven.{RunGiven}
use Rattle.questions.proofs.ready.PartsRun.{climb-walk, part_right}
use Rattle.questions.proofs.ready.UnderLaws.{left_in, right_in}
use Rattle.questions.proofs.PartListLaws.{last_more}
use Rattle.colours.specs.StateSets.{try_targets}
use Rattle.colour_questions.specs.parts.Searches.{found_searches, climb_searches, side_searches, part_searches, gathered}
use Rattle.colour_questions.specs.parts.Trials.{tried_state, inner_by_trials, part_by_trials, side_trials, part_trials, tried_part}
use Rattle.colour_questions.specs.parts.Trials.{tried_parts, trials_from}

-- two choices by one test
cond_same : {X : Type 0} (b : Bool) (x y x' y' : X) → (b ≡ true → x ≡ x') → (b ≡ false → y ≡ y') → cond b x y ≡ cond b x' y'
cond_same true x y x' y' f g = f refl
cond_same false x y x' y' f g = g refl

module _ (G : Given) (u : Tree) (RG : RunGiven G u) (S : StaysInside G.automaton) (w : ℕ → Bool)
    (ch : Changes w G.tree u) (ms : List ℕ) (M : Members w G.tree ms) where
  abbrev t : Tree
  t = G.tree

  abbrev right : ℕ → ℕ
  right x = state G.automaton (sub u x)

  -- ---- one part

  module _ (ps : List Part) (v : ℕ) (mv : Memᴰ v ms)
      (before : (x : ℕ) → Memᴰ x ms → x < v → state_of ps x ≡ state G.automaton (sub u x)) where
    abbrev l : ℕ
    l = left_child G.tree v

    abbrev r : ℕ
    r = right_child v

    abbrev a : ℕ
    a = get_or G.labels v 0

    hv : v < size G.tree
    hv = M.inside v mv

    module _ (c : ℕ) (hc : c < v) (e : any_below ms G.tree c ≡ true) where
      highest : Highest G.tree (λ x. Memᴰ x ms) c (highest_below ms G.tree c)
      highest = some_below t c ms M.rising e

      own : state_of ps (highest_below ms G.tree c) ≡ state G.automaton (sub u (highest_below ms G.tree c))
      own = before (highest_below ms t c) highest.member (omega (arith, highest.below))

      side-state : tried_state G ms ps c ≡ climbed_state G ms ps c
      unfolding tried_state climbed_state
      side-state =
          let h : ℕ = highest_below ms t c in
          let hh : h < size t = M.inside h highest.member in
          let d : depth t c ≤ depth t h =
          (above_at t c h hh (interval-ancestor t c h (omega (arith, hv)) hh highest.below)).0 in
          sym (climb-walk G u RG S h c (state_of ps h) hh d
          (subst (λ (q : ℕ). q < G.automaton.states) (sym own) (state_below G.automaton S.init S.next (sub u h))))

      side-searches : side_trials G ms ps c ≡ climb_searches G.automaton G.tree u ms c
      unfolding side_trials climb_searches
      side-searches = ap (λ (q : ℕ). found_searches (try_targets G.automaton t c (highest_below ms t c) q)) own

    -- the children of an inner node are before it
    children : eqb (kind_at G.tree v) 0 ≡ false → (left_child G.tree v < v) × (right_child v < v)
    children e =
        let k : kind_at t v ≡ 1 = kind-one t v hv (eqb-false (kind_at t v) 0 e) in
        (left_in t v hv k, right_in t v hv k)

    pub part-state : part_by_trials G ms ps v ≡ part_state G ms ps v
    unfolding part_by_trials part_state inner_by_trials inner_state
    part-state = cond_same (eqb (kind_at t v) 0) _ _ _ _ (λ e. refl) (λ e.
        cond_same (any_below ms t l) _ _ _ _
        (λ i. cond_same (any_below ms t r) _ _ _ _ (λ j. refl)
        (λ j. ap (λ (q : ℕ). G.automaton.δ q a (G.run_state r)) (side-state l (children e).0 i)))
        (λ i. cond_same (any_below ms t r) _ _ _ _
        (λ j. ap (λ (q : ℕ). G.automaton.δ (G.run_state l) a q) (side-state r (children e).1 j)) (λ j. refl)))

    pub part-searches : part_trials G ms ps v ≡ part_searches G.automaton G.tree u ms v
    unfolding part_trials part_searches side_searches
    part-searches = cond_same (eqb (kind_at t v) 0) _ _ _ _ (λ e. refl) (λ e.
        ap₂ (λ (x y : List ℕ). x ++ y)
        (cond_same (any_below ms t l) _ _ _ _
        (λ i. cond_same (any_below ms t r) _ _ _ _ (λ j. refl) (λ j. side-searches l (children e).0 i)) (λ i. refl))
        (cond_same (any_below ms t r) _ _ _ _
        (λ i. cond_same (any_below ms t l) _ _ _ _ (λ j. refl) (λ j. side-searches r (children e).1 i)) (λ i. refl)))

    pub tried-right : part_by_trials G ms ps v ≡ state G.automaton (sub u v)
    tried-right = part-state ∙ part_right G u RG S w ch ms M ps v mv before

  -- ---- all parts

  abbrev AllRight : List Part → Type 0
  AllRight ps = (x : ℕ) → Memᴰ x (nodes_of ps) → state_of ps x ≡ state G.automaton (sub u x)

  -- one more part with the changed run's state
  right-more : (ps : List Part) (p : Part) (rest : List ℕ) → nodes_of ps ++ (p.node ∷ rest) ≡ ms
      → p.state ≡ state G.automaton (sub u p.node) → AllRight ps → AllRight (ps ++ (p ∷ []))
  right-more ps p rest cut e f x m = go (Memᴰ.append_cases (nodes_of ps)
      (subst (λ (z : List ℕ). Memᴰ x z) (nodes-more ps p) m))
    where
      go : Memᴰ x (nodes_of ps) ⊎ Memᴰ x (p.node ∷ []) → state_of (ps ++ (p ∷ [])) x ≡ state G.automaton (sub u x)
      go (inl k) = state-kept ps p x k ∙ f x k
      go (inr k) =
          let q : x ≡ p.node = Memᴰ.eq_of_singleton k in
          rw q (state-new ps p p.node refl
          (rising-not (nodes_of ps) p.node rest 0 (subst (λ (z : List ℕ). Rising 0 z) (sym cut) M.rising)) ∙ e)

  -- so the parts before v have it
  before_of : (ps : List Part) (v : ℕ) (rest : List ℕ) → nodes_of ps ++ (v ∷ rest) ≡ ms → AllRight ps
      → (x : ℕ) → Memᴰ x ms → x < v → state_of ps x ≡ state G.automaton (sub u x)
  before_of ps v rest cut f x m h =
      f x (rising-first (nodes_of ps) v rest 0 x (subst (λ (z : List ℕ). Rising 0 z) (sym cut) M.rising)
      (subst (λ (z : List ℕ). Memᴰ x z) (sym cut) m) h)

  pub record AllTrials (rest : List ℕ) (ps qs : List Part) : Type 0 where
    pub searches : trials_from G ms ps rest ≡ gathered (part_searches G.automaton G.tree u ms) rest
    pub last : last_state (tried_parts G ms ps rest) 0 ≡ last_state (parts_from G ms qs rest) 0

  -- by their trials after ps, by the rule after qs
  pub all-trials : (rest : List ℕ) (ps qs : List Part) → nodes_of ps ++ rest ≡ ms → nodes_of qs ++ rest ≡ ms
      → ((x : ℕ) → Memᴰ x (nodes_of ps) → state_of ps x ≡ state G.automaton (sub u x))
      → ((x : ℕ) → Memᴰ x (nodes_of qs) → state_of qs x ≡ state G.automaton (sub u x))
      → last_state ps 0 ≡ last_state qs 0 → AllTrials rest ps qs
  unfolding trials_from tried_parts parts_from part_of gathered
  all-trials [] ps qs cut cut' f g e = record { searches = refl; last = e }
  all-trials (v ∷ rest) ps qs cut cut' f g e = step (all-trials rest (ps ++ (tried_part G ms ps v ∷ []))
      (qs ++ (part_of G ms qs v ∷ [])))
    where
      member : Memᴰ v ms
      member = subst (λ (z : List ℕ). Memᴰ v z) cut (Memᴰ.append_right (nodes_of ps) (Memᴰ.head refl))

      by-trials : part_by_trials G ms ps v ≡ state G.automaton (sub u v)
      by-trials = tried-right ps v member (before_of ps v rest cut f)

      by-rule : part_state G ms qs v ≡ state G.automaton (sub u v)
      by-rule = part_right G u RG S w ch ms M qs v member (before_of qs v rest cut' g)

      step : (nodes_of (ps ++ (tried_part G ms ps v ∷ [])) ++ rest ≡ ms → nodes_of (qs ++ (part_of G ms qs v ∷ [])) ++ rest ≡ ms
          → AllRight (ps ++ (tried_part G ms ps v ∷ [])) → AllRight (qs ++ (part_of G ms qs v ∷ []))
          → last_state (ps ++ (tried_part G ms ps v ∷ [])) 0 ≡ last_state (qs ++ (part_of G ms qs v ∷ [])) 0
          → AllTrials rest (ps ++ (tried_part G ms ps v ∷ [])) (qs ++ (part_of G ms qs v ∷ [])))
          → AllTrials (v ∷ rest) ps qs
      step ih =
          let N = ih
          (ap (λ (z : List ℕ). z ++ rest) (nodes-more ps (tried_part G ms ps v)) ∙ append_assoc (nodes_of ps) (v ∷ []) rest ∙ cut)
          (ap (λ (z : List ℕ). z ++ rest) (nodes-more qs (part_of G ms qs v)) ∙ append_assoc (nodes_of qs) (v ∷ []) rest ∙ cut')
          (right-more ps (tried_part G ms ps v) rest cut by-trials f)
          (right-more qs (part_of G ms qs v) rest cut' by-rule g)
          (last_more ps (tried_part G ms ps v) 0 ∙ by-trials ∙ sym by-rule ∙ sym (last_more qs (part_of G ms qs v) 0)) in
          record {
            searches = ap₂ (λ (x y : List ℕ). x ++ y) (part-searches ps v member (before_of ps v rest cut f)) N.searches;
            last = N.last;
          }
