-- On colours as built and any run states below S all parts by colours have the states of their trials.
--     handled-usable   so, with at most 60 drops for each one-sided part, each found by few links
use Prim.Native.Nat.{ℕ, ◌*◌, ◌≤◌, ◌<◌}
use mathlib.Core.Path.{◌≡◌, refl, sym, ap, ap₂, ◌∙◌}
use mathlib.Core.Bool.{Bool, true, false, cond}
use mathlib.Core.List.{List, [], ◌∷◌, ◌++◌, append_assoc, append-nil}
use mathlib.Core.Option.{Option, some}
use native.Mathlib.Omega.{arith}
use lib.ListN.{length, get_or, length-append}
use Rattle.list_laws.specs.Tests.{all_below}
use Rattle.trees.specs.Tree.{height, labels_of, kind_at}
use Rattle.trees.specs.Changes.{changed}
use Rattle.trees.specs.Climb.{and_then, digits}
use Rattle.questions.specs.ready.StaysInside.{StaysInside}
use Rattle.questions.specs.ready.Parts.{Given, Part, nodes_of, states_of, state_of, any_below, last_state, sum_of}
use Rattle.questions.specs.ready.Ready.{left_child, right_child}
use Rattle.colour_questions.specs.parts.Trials.{tried_state, inner_by_trials, part_by_trials, part_trials, tried_part, tried_parts, trials_from}
use native.Mathlib.Decide.{ℕ_discrete}
use borrow.Author.Tests.{eq-eqb, ne_eqb}
use Rattle.questions.proofs.ready.PartsRun.{Members, nodes-more}
use Rattle.colours.specs.marks.Marks.{bit}
use Rattle.questions.specs.Promises.{Reads}
use Rattle.questions.proofs.PartListLaws.{states-more, last_more, below_more}
use Rattle.questions.proofs.PartInputsLaws.{states-small}
use Rattle.colours.specs.StateSets.{Tried, tried}
use Rattle.colours.proofs.DescentLaws.{all_append}
use Rattle.colours.specs.Descents.{AllLe}
use Rattle.colour_questions.specs.parts.Part.{ColourView, sides_in, part_tried, handled_from}
use Rattle.colour_questions.specs.parts.OneSided.{is_one_sided, one_sided}
use Rattle.colour_questions.proofs.parts.TriesBuilt.{SidesBuilt}
use Rattle.colour_questions.proofs.parts.PartUsable.{PartIs, part-usable}

module _ (L : ColourView) (G : Given) (R : Reads L.view G)
    (S : StaysInside G.automaton) (four : G.automaton.states ≤ 4)
    (B : SidesBuilt G.automaton G.tree L.numbers (sides_in L).copies)
    (w : ℕ → Bool) (ms : List ℕ) (M : Members w G.tree ms) (vs bs : List ℕ)
    (lab : G.labels ≡ changed (labels_of G.tree) vs bs) (pos : 0 < L.view.s) where
  pub record AllIs (rest : List ℕ) (ps : List Part) (r : Tried) : Type 0 where
    pub found : handled_from L vs bs (nodes_of ps) (states_of ps) r rest
        ≡ some (tried (last_state (tried_parts G ms ps rest) 0) (r.searches ++ trials_from G ms ps rest))
    pub falls : length (trials_from G ms ps rest) ≤ 60 * one_sided G.tree ms rest
    pub few : AllLe (3 * digits (height G.tree)) (trials_from G ms ps rest)

  pub handled-usable : (rest : List ℕ) (ps : List Part) (r : Tried) → nodes_of ps ++ rest ≡ ms
      → all_below L.view.s (states_of ps) ≡ true → r.state ≡ last_state ps 0 → AllIs rest ps r
  unfolding handled_from tried_parts trials_from sum_of part_by_trials inner_by_trials
  handled-usable [] ps r cut b e = record {
    found = ap₂ (λ (q : ℕ) (l : List ℕ). some (tried q l)) e (sym (append-nil r.searches));
    falls = omega arith;
    few = tt;
  }
  handled-usable (v ∷ rest) ps r cut b e =
      step (part-usable L G R S four B w ms M ps v rest cut (states-small L.view.s ps pos b) vs bs lab)
      (handled-usable rest (ps ++ (tried_part G ms ps v ∷ [])))
    where
      p : Part
      p = tried_part G ms ps v

      q : ℕ
      q = part_by_trials G ms ps v

      state_is : (tried_part G ms ps v).state ≡ part_by_trials G ms ps v
      state_is = refl

      node-is : (tried_part G ms ps v).node ≡ v
      node-is = refl

      by-trials-below : part_by_trials G ms ps v < G.automaton.states
      by-trials-below = elim (ℕ_discrete (kind_at G.tree v) 0) [
        | yes z ↦ rw (eq-eqb (kind_at G.tree v) 0 z) (S.init _)
        | no n ↦ rw (ne_eqb (kind_at G.tree v) 0 n) (cases (any_below ms G.tree (left_child G.tree v))
            (any_below ms G.tree (right_child v)))
      ]
        where
          cases : (c d : Bool)
              → cond c (cond d (G.automaton.δ (state_of ps (left_child G.tree v)) (get_or G.labels v 0) (state_of ps
              (right_child v))) (G.automaton.δ (tried_state G ms ps (left_child G.tree v)) (get_or G.labels v 0)
              (G.run_state (right_child v))))
              (cond d (G.automaton.δ (G.run_state (left_child G.tree v)) (get_or G.labels v 0) (tried_state G ms ps
              (right_child v))) (G.automaton.δ (G.run_state (left_child G.tree v)) (get_or G.labels v 0)
              (G.run_state (right_child v)))) < G.automaton.states
          cases true true = S.next _ _ _
          cases true false = S.next _ _ _
          cases false true = S.next _ _ _
          cases false false = S.next _ _ _

      below : part_by_trials G ms ps v < L.view.s
      below = omega (arith, by-trials-below, R.states)

      nodes : nodes_of (ps ++ (tried_part G ms ps v ∷ [])) ≡ nodes_of ps ++ (v ∷ [])
      nodes = nodes-more ps (tried_part G ms ps v) ∙ ap (λ (x : ℕ). nodes_of ps ++ (x ∷ [])) node-is

      states : states_of (ps ++ (tried_part G ms ps v ∷ [])) ≡ states_of ps ++ (part_by_trials G ms ps v ∷ [])
      states = states-more ps (tried_part G ms ps v) ∙ ap (λ (x : ℕ). states_of ps ++ (x ∷ [])) state_is

      step : PartIs G.tree (part_tried L (nodes_of ps) (states_of ps) vs bs v) (part_by_trials G ms ps v)
          (part_trials G ms ps v) (60 * bit (is_one_sided G.tree ms v))
          → ((r : Tried) → nodes_of (ps ++ (tried_part G ms ps v ∷ [])) ++ rest ≡ ms
          → all_below L.view.s (states_of (ps ++ (tried_part G ms ps v ∷ []))) ≡ true
          → r.state ≡ last_state (ps ++ (tried_part G ms ps v ∷ [])) 0 → AllIs rest (ps ++ (tried_part G ms ps v ∷ [])) r)
          → AllIs (v ∷ rest) ps r
      step P ih =
          let mine : List ℕ = part_trials G ms ps v in
          let after : List ℕ = trials_from G ms (ps ++ (tried_part G ms ps v ∷ [])) rest in
          let next : Tried = tried q (r.searches ++ mine) in
          let N : AllIs rest (ps ++ (tried_part G ms ps v ∷ [])) next = ih next
          (ap (λ (l : List ℕ). l ++ rest) nodes ∙ append_assoc (nodes_of ps) (v ∷ []) rest ∙ cut)
          (ap (all_below L.view.s) states ∙ below_more L.view.s (states_of ps) q b below)
          (sym (last_more ps (tried_part G ms ps v) 0 ∙ state_is)) in
          record {
            found =
                ap (λ (o : Option Tried). and_then o (λ x.
                handled_from L vs bs (nodes_of ps ++ (v ∷ [])) (states_of ps ++ (x.state ∷ []))
                (tried x.state (r.searches ++ x.searches)) rest)) P.found
                ∙ ap₂ (λ (a c : List ℕ). handled_from L vs bs a c next rest) (sym nodes) (sym states)
                ∙ N.found
                ∙ ap (λ (l : List ℕ). some (tried (last_state (tried_parts G ms (ps ++ (tried_part G ms ps v ∷ [])) rest) 0)
                l))
                (append_assoc r.searches mine after);
            falls = omega (arith, length-append mine after, P.falls, N.falls);
            few = all_append (3 * digits (height G.tree)) mine after P.few N.few;
          }
