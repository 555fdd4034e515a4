-- All parts where the inputs are as the rule of document 01 reads them.
--     handled-ruled   what comes of them is what comes of the parts by the rule
use Prim.Native.Nat.{ℕ, ◌+◌, ◌<◌}
use mathlib.Core.Path.{◌≡◌, refl, sym, ap, ap₂, ◌∙◌, subst}
use mathlib.Core.Bool.{Bool, true}
use mathlib.Core.List.{List, [], ◌∷◌, ◌++◌, append_assoc}
use mathlib.Core.Option.{Option, some}
use Rattle.list_laws.specs.Tests.{all_below}
use Rattle.trees.specs.Tree.{labels_of}
use Rattle.trees.specs.Changes.{changed}
use Rattle.trees.specs.Climb.{and_then}
use Rattle.tables.specs.declared.answers.Reached.{Reached}
use Rattle.tables.specs.Climbs.{View, reached}
use Rattle.questions.specs.ready.StaysInside.{StaysInside}
use Rattle.questions.specs.ready.Parts.{Given, Part, nodes_of, states_of, part_of, parts_from, last_state, all_links, all_passed}
use Rattle.questions.specs.Part.{part_on}
use Rattle.questions.specs.Promises.{Reads}
use Rattle.questions.proofs.ready.PartsRun.{Members, nodes-more}
use Rattle.questions.proofs.ready.PassedLaws.{passed-more}
use Rattle.questions.proofs.PartBuilt.{part-built}
use Rattle.questions.specs.PartInputs.{reached_by}
use Rattle.questions.proofs.PartInputsLaws.{states-small}
use Rattle.questions.proofs.PartListLaws.{states-more, last_more, links-more, below_more}
use Rattle.questions.proofs.FreshLaws.{part-below}
use Rattle.whole_questions.specs.Question.{totalled, handled_from}
use Rattle.whole_questions.specs.Promise.{total_of}

-- one more part
total-more : (ps : List Part) (p : Part) → totalled (total_of ps) (reached_by p) ≡ total_of (ps ++ (p ∷ []))
total-more ps p =
    ap (λ (q : ℕ). reached q (all_links ps + p.links) (all_passed ps + p.passed)) (sym (last_more ps p 0))
    ∙ ap₂ (λ (l d : ℕ). reached (last_state (ps ++ (p ∷ [])) 0) l d) (sym (links-more ps p)) (sym (passed-more ps p))

module _ (X : View) (G : Given) (R : Reads X G) (S : StaysInside G.automaton) (w : ℕ → Bool) (ms : List ℕ)
    (M : Members w G.tree ms) (vs bs : List ℕ) (e : G.labels ≡ changed (labels_of G.tree) vs bs)
    (some_state : 0 < X.s) where
  pub handled-ruled : (rest : List ℕ) (ps : List Part) → nodes_of ps ++ rest ≡ ms → all_below X.s (states_of ps) ≡ true
      → handled_from X vs bs (nodes_of ps) (states_of ps) (total_of ps) rest ≡ some (total_of (parts_from G ms ps rest))
  unfolding handled_from parts_from
  handled-ruled [] ps c b = refl
  handled-ruled (v ∷ rest) ps c b =
      let p : Part = part_of G ms ps v in
      let found : part_on X (nodes_of ps) (states_of ps) vs bs v ≡ some (reached_by p) = one in
      let next = ps ++ (p ∷ []) in
      ap (λ (o : Option Reached). and_then o (λ y.
      handled_from X vs bs (nodes_of ps ++ (v ∷ [])) (states_of ps ++ (y.state ∷ [])) (totalled (total_of ps) y) rest))
      found
      ∙ ap (λ (x : Reached). handled_from X vs bs (nodes_of ps ++ (v ∷ [])) (states_of ps ++ (p.state ∷ [])) x rest)
      (total-more ps p)
      ∙ ap₂ (λ (a d : List ℕ). handled_from X vs bs a d (total_of next) rest) (sym nodes) (sym (states-more ps p))
      ∙ handled-ruled rest next
      (ap (λ (l : List ℕ). l ++ rest) nodes ∙ append_assoc (nodes_of ps) (v ∷ []) rest ∙ c)
      (ap (all_below X.s) (states-more ps p) ∙ below_more X.s (states_of ps) p.state b low)
    where
      one : part_on X (nodes_of ps) (states_of ps) vs bs v ≡ some (reached_by (part_of G ms ps v))
      one = unfold part_of in part-built X G R w ms M ps v rest c (states-small X.s ps some_state b) vs bs e

      nodes : nodes_of (ps ++ (part_of G ms ps v ∷ [])) ≡ nodes_of ps ++ (v ∷ [])
      nodes = unfold part_of in nodes-more ps (part_of G ms ps v)

      low : (part_of G ms ps v).state < X.s
      low = subst (λ (s : ℕ). (part_of G ms ps v).state < s) R.states (part-below G ms ps v S)
