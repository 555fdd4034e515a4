-- The run of the product automaton is the pair of runs.
--     product-state      at the root of every tree
--     product-run        at every node: the whole run
--     product-accepts    so its answer is the joined answers
--     product-below      and its states are below the product of the counts
use Prim.Native.Nat.{ℕ, ◌+◌, ◌*◌, ◌/◌, ◌%◌, ◌<◌}
use mathlib.Core.Path.{◌≡◌, refl, ap, ap₂, ◌∙◌}
use mathlib.Core.Bool.{Bool}
use lib.Arith.{digits_div, digits_mod, digits_lt}
use Rattle.trees.specs.Tree.{Tree, leaf, node}
use Rattle.trees.specs.Automaton.{Automaton, run, state, accepts}
use Rattle.products.specs.Product.{product, pair_tree}

module _ (f : Bool → Bool → Bool) (A B : Automaton) (below : (t : Tree) → state B t < B.states) where
  -- one step of the product is a step of each
  product-step : (p p' q q' a : ℕ) → p' < B.states → q' < B.states
      → (product f A B).δ (p * B.states + p') a (q * B.states + q') ≡ A.δ p a q * B.states + B.δ p' a q'
  product-step p p' q q' a hp hq =
      let e : (p * B.states + p') / B.states ≡ p = digits_div p hp in
      let g : (q * B.states + q') / B.states ≡ q = digits_div q hq in
      let h : (p * B.states + p') % B.states ≡ p' = digits_mod p hp in
      let i : (q * B.states + q') % B.states ≡ q' = digits_mod q hq in
      rw (e, g, h, i)

  pub product-state : (t : Tree) → state (product f A B) t ≡ state A t * B.states + state B t
  product-state (leaf a) = refl
  product-state (node l a r) =
      ap₂ (λ (x y : ℕ). (product f A B).δ x a y) (product-state l) (product-state r)
      ∙ product-step (state A l) (state B l) (state A r) (state B r) a (below l) (below r)

  -- "the run of the merged table is the pair of runs on every plan"
  pub product-run : (t : Tree) → run (product f A B) t ≡ pair_tree B.states (run A t) (run B t)
  product-run (leaf a) = refl
  product-run (node l a r) =
      let e : state (product f A B) (node l a r) ≡ state A (node l a r) * B.states + state B (node l a r) = product-state
      (node l a r) in
      ap (λ (x : ℕ). node (run (product f A B) l) x (run (product f A B) r)) e
      ∙ ap₂ (λ (x y : Tree). node x (state A (node l a r) * B.states + state B (node l a r)) y) (product-run l)
      (product-run r)

  pub product-accepts : (t : Tree) → accepts (product f A B) t ≡ f (accepts A t) (accepts B t)
  product-accepts t =
      let e : (state A t * B.states + state B t) / B.states ≡ state A t = digits_div (state A t) (below t) in
      let g : (state A t * B.states + state B t) % B.states ≡ state B t = digits_mod (state A t) (below t) in
      ap (product f A B).accepting (product-state t) ∙ ap₂ (λ (x y : ℕ). f (A.accepting x) (B.accepting y)) e g

  pub product-below : ((t : Tree) → state A t < A.states) → (t : Tree) → state (product f A B) t < A.states * B.states
  product-below h t = rw (product-state t) (digits_lt (h t) (below t))
