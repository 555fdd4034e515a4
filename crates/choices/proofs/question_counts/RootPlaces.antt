-- On numbers as built the place found below a child is that of the highest root below it.
--     place_none     no root is below the child: place 0
--     place-some     else the place from 1 of the highest
-- The last root found is questions' (PartBuilt), which finds it with a state: here any state serves.
use Prim.Native.Nat.{ℕ, zero, suc, ◌≤◌, ◌<◌}
use mathlib.Core.Path.{◌≡◌, refl, sym, ap, ◌∙◌, subst}
use mathlib.Core.Bool.{Bool, true, false, cond}
use mathlib.Core.List.{List, [], ◌∷◌, ◌++◌}
use mathlib.Core.Option.{Option, none, some}
use native.Mathlib.Omega.{arith}
use lib.Dec.{eqb}
use lib.ListN.{length, get_or}
use Rattle.tables.specs.node_tables.Cells.{size_cell}
use Rattle.tables.specs.Climbs.{View}
use Rattle.questions.specs.ready.Parts.{Given, any_below, highest_below, Part, part, nodes_of, states_of, state_of}
use Rattle.questions.proofs.ready.PartsRun.{Members}
use Rattle.questions.specs.Part.{Found, found, found_below}
use Rattle.questions.specs.Promises.{Reads}
use Rattle.questions.specs.inner.Scans.{last_in, found_of}
use Rattle.questions.proofs.ScanLaws.{found-scan, last-bound}
use Rattle.questions.proofs.PartBuilt.{found_none, found-built}
use Rattle.choices.specs.question_counts.PartOn.{place_on}

-- ---- roots with a state

stated : List ℕ → List Part
stated [] = []
stated (e ∷ es) = part e 0 0 0 ∷ stated es

stated-nodes : (es : List ℕ) → nodes_of (stated es) ≡ es
unfolding stated
stated-nodes [] = refl
stated-nodes (e ∷ es) = ap (λ (l : List ℕ). e ∷ l) (stated-nodes es)

stated-length : (es : List ℕ) → length (nodes_of (stated es)) ≡ length (states_of (stated es))
unfolding stated
stated-length [] = refl
stated-length (e ∷ es) = ap suc (stated-length es)

stated-state : (es : List ℕ) (x : ℕ) → state_of (stated es) x ≡ 0
unfolding stated state_of
stated-state [] x = refl
stated-state (e ∷ es) x = go (eqb e x) (stated-state es x)
  where
    go : (b : Bool) → state_of (stated es) x ≡ 0 → cond b 0 (state_of (stated es) x) ≡ 0
    go true h = refl
    go false h = h

-- ---- what was found, as a place

abbrev named : Option Found → ℕ
named none = 0
named (some f) = suc f.node

-- the place from 1 of node h in es
pub record Place (es : List ℕ) (own h : ℕ) : Type 0 where
  pub at : ℕ
  pub is : own ≡ suc at
  pub inside : at < length es
  pub node : get_or es at 0 ≡ h

at_none : (es qs : List ℕ) (i : ℕ) → found_of es qs i ≡ none → i ≡ 0
unfolding found_of
at_none es qs zero e = refl
at_none es qs (suc i) e = absurd (omega (arith, ap named e))

at_some : (es qs : List ℕ) (i h q : ℕ) → i ≤ length es → found_of es qs i ≡ some (found h q) → Place es i h
unfolding found_of
at_some es qs zero h q l e = absurd (omega (arith, ap named e))
at_some es qs (suc i) h q l e = record { at = i; is = refl; inside = omega arith; node = omega (arith, ap named e) }

module _ (X : View) (G : Given) (R : Reads X G) (w : ℕ → Bool) (ms : List ℕ) (M : Members w G.tree ms)
    (es : List ℕ) (v : ℕ) (rest : List ℕ) (cut : es ++ (v ∷ rest) ≡ ms) (c : ℕ) (l : c < v) where
  abbrev ps : List Part
  ps = stated es

  split : nodes_of ps ++ (v ∷ rest) ≡ ms
  split = ap (λ (z : List ℕ). z ++ (v ∷ rest)) (stated-nodes es) ∙ cut

  small : (x : ℕ) → state_of ps x < X.s
  small x = omega (arith, stated-state es x, R.leaf_below 0)

  abbrev place : List ℕ → ℕ
  place z = last_in c (size_cell X.node_table c) z

  scanned : found_below X.node_table c (nodes_of ps) (states_of ps)
      ≡ found_of (nodes_of ps) (states_of ps) (place (nodes_of ps))
  scanned = found-scan X.node_table c (nodes_of ps) (states_of ps) (stated-length es)

  pub place_none : any_below ms G.tree c ≡ false → place_on X es c ≡ 0
  place_none e =
      sym (ap place (stated-nodes es))
      ∙ at_none (nodes_of ps) (states_of ps) (place (nodes_of ps))
      (sym scanned ∙ found_none X G R w ms M ps v rest split small c l e)

  pub place-some : any_below ms G.tree c ≡ true → Place es (place_on X es c) (highest_below ms G.tree c)
  place-some e =
      subst (λ (z : List ℕ). Place z (place z) (highest_below ms G.tree c)) (stated-nodes es)
      (at_some (nodes_of ps) (states_of ps) (place (nodes_of ps)) (highest_below ms G.tree c) _
      (last-bound c (size_cell X.node_table c) (nodes_of ps))
      (sym scanned ∙ found-built X G R w ms M ps v rest split small c l e))
