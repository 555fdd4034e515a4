-- Whether an automaton accepts any plan: the search says.
--     first-none       none found: no state looked at is accepted
--     first_some       one found: it is accepted, and none before it is
--     none-accepted    where none is found no plan is accepted
--     shown-accepted   where one is, the lines up to it are a plan that is accepted, of least height
use Prim.Native.Nat.{ℕ, zero, suc, ◌+◌, ◌-◌, ◌≤◌, ◌<◌}
use mathlib.Core.Path.{◌≡◌, refl, sym, ap, ◌∙◌, subst}
use mathlib.Core.Bool.{Bool, true, false, cond}
use mathlib.Core.List.{List, [], ◌∷◌}
use mathlib.Core.Option.{none, some, some-injective}
use native.Mathlib.Decide.{dec_lt}
use native.Mathlib.Omega.{arith}
use lib.ListN.{length, get_or, take}
use lib.Seq.{length-take-le}
use Rattle.trees.specs.Tree.{Tree, leaf, height}
use Rattle.trees.specs.Automaton.{Automaton, state, accepts}
use Rattle.list_laws.proofs.BoolLaws.{true-false}
use Rattle.products.specs.Plans.{PlanOf}
use Rattle.products.specs.agreement.Lines.{GoodLines, trees_from, lines_tree}
use Rattle.products.specs.agreement.Search.{reached, first_accepted}
use Rattle.products.proofs.agreement.LineLaws.{good-take, trees-take}
use Rattle.products.proofs.agreement.FoundLaws.{Kept, Has, tree_at}
use Rattle.products.proofs.agreement.SearchLaws.{reached-kept, reached-most, reaches}

module _ (A : Automaton) where
  first-none : (cs : List ℕ) (i : ℕ) → first_accepted A cs i ≡ none → (j : ℕ) → j < length cs
      → A.accepting (get_or cs j 0) ≡ false
  unfolding first_accepted
  first-none [] i e j h = absurd (omega arith)
  first-none (c ∷ cs) i e j h = go (A.accepting c) refl (first-none cs (suc i)) j h e
    where
      go : (b : Bool) → A.accepting c ≡ b
          → (first_accepted A cs (suc i) ≡ none → (j : ℕ) → j < length cs → A.accepting (get_or cs j 0) ≡ false) → (j : ℕ)
          → j < length (c ∷ cs) → cond b (some (suc i)) (first_accepted A cs (suc i)) ≡ none → A.accepting (get_or
          (c ∷ cs) j 0) ≡ false
      go true q r j h e = let z : ◌≡◌ {A = ℕ} 0 1 = cc in absurd (omega arith)
      go false q r zero h e = q
      go false q r (suc j) h e = r e j (omega arith)

  -- n lines are shown: the last of them, number `place` of the states looked at, is the first that is accepted
  pub record First (cs : List ℕ) (i n : ℕ) : Type 0 where
    pub place : ℕ
    pub is : n ≡ i + place + 1
    pub inside : place < length cs
    pub accepted : A.accepting (get_or cs place 0) ≡ true
    pub before : (j : ℕ) → j < place → A.accepting (get_or cs j 0) ≡ false

  first_some : (cs : List ℕ) (i n : ℕ) → first_accepted A cs i ≡ some n → First cs i n
  unfolding first_accepted
  first_some [] i n e = let z : ◌≡◌ {A = ℕ} 0 1 = cc in absurd (omega arith)
  first_some (c ∷ cs) i n e = go (A.accepting c) refl (first_some cs (suc i) n) e
    where
      earlier : (p : ℕ) → A.accepting c ≡ false → ((j : ℕ) → j < p → A.accepting (get_or cs j 0) ≡ false) → (j : ℕ)
          → j < suc p
          → A.accepting (get_or (c ∷ cs) j 0) ≡ false
      earlier p q r zero h = q
      earlier p q r (suc j) h = r j (omega arith)

      go : (b : Bool) → A.accepting c ≡ b → (first_accepted A cs (suc i) ≡ some n → First cs (suc i) n)
          → cond b (some (suc i)) (first_accepted A cs (suc i)) ≡ some n → First (c ∷ cs) i n
      go true q r e = record {
        place = 0;
        is = omega (arith, some-injective _ _ e);
        inside = omega arith;
        accepted = q;
        before = λ j h. absurd (omega arith);
      }
      go false q r e =
          let f : First cs (suc i) n = r e in
          record {
            place = suc f.place;
            is = omega (arith, f.is);
            inside = omega (arith, f.inside);
            accepted = f.accepted;
            before = earlier f.place q f.before;
          }

  module _ (k : ℕ) (small-leaf : (a : ℕ) → A.ι a < 256) (small-step : (p a q : ℕ) → A.δ p a q < 256) where
    found : Kept A k (reached A k)
    found = reached-kept A k small-leaf small-step

    pub none-accepted : first_accepted A (reached A k).states 0 ≡ none → (t : Tree) → PlanOf k t → accepts A t ≡ false
    none-accepted e t p =
        let h : Has (reached A k) (state A t) (height t) = reaches A k small-leaf small-step t p in
        subst (λ (c : ℕ). A.accepting c ≡ false) h.is
        (first-none (reached A k).states 0 e h.line (omega (arith, h.inside, found.states_length)))

    pub record Shown (n : ℕ) : Type 0 where
      pub some_lines : 1 ≤ length (take n (reached A k).lines)
      pub at_most : length (take n (reached A k).lines) ≤ 256
      pub good : GoodLines k 0 (take n (reached A k).lines)
      pub a_plan : PlanOf k (lines_tree (take n (reached A k).lines))
      pub accepted : accepts A (lines_tree (take n (reached A k).lines)) ≡ true
      pub least : (t : Tree) → PlanOf k t → accepts A t ≡ true → height (lines_tree (take n (reached A k).lines)) ≤ height t

    -- a plan that is accepted has its state at the first accepted line or later
    no-earlier : (n : ℕ) (f : First (reached A k).states 0 n) (t : Tree) → accepts A t ≡ true
        → (h : Has (reached A k) (state A t) (height t)) → f.place ≤ h.line
    no-earlier n f t e h = elim (dec_lt h.line f.place) [
      | yes l ↦ absurd (true-false (sym e ∙ ap A.accepting (sym h.is) ∙ f.before h.line l))
      | no l ↦ omega arith
    ]

    pub shown-accepted : (n : ℕ) → first_accepted A (reached A k).states 0 ≡ some n → Shown n
    unfolding lines_tree
    shown-accepted n e =
        let f : First (reached A k).states 0 n = first_some (reached A k).states 0 n e in
        let i : f.place < length (reached A k).lines = omega (arith, f.inside, found.states_length) in
        let l : length (take n (reached A k).lines) ≡ n = length-take-le n (reached A k).lines (omega (arith, f.is)) in
        let m : length (take n (reached A k).lines) - 1 ≡ f.place = omega (arith, f.is) in
        let t : get_or (trees_from [] (take n (reached A k).lines)) f.place (leaf 0) ≡ tree_at (reached A k) f.place =
        trees-take n f.place (reached A k).lines (omega (arith, f.is)) in
        record {
          some_lines = omega (arith, f.is);
          at_most = omega (arith, reached-most A k small-leaf small-step, f.is);
          good = good-take k 0 n (reached A k).lines found.good;
          a_plan = rw (m, t) (found.plans f.place i);
          accepted = rw (m, t) (ap A.accepting (sym (found.right f.place i)) ∙ f.accepted);
          least = λ u p a.
              let h : Has (reached A k) (state A u) (height u) = reaches A k small-leaf small-step u p in
              rw (m, t) (omega (arith, found.rising f.place h.line (no-earlier n f u a h) h.inside, h.low));
        }
