-- Climbs by colours over sets of states give the state of the climb.
--     set_step-root           the root's own copy is the top copy
--     set_walk               a state is in the set at w to which a set T at k places above leads exactly where the
--                            climb's walk of k steps takes it into T
--     try-uncoloured, try-lost, try-found, try-on   one trial, by what comes of it
--     targets                trying target states in rising order up to it finds the walk's state, with few drops
--     targets-sixty          at most 60 drops for up to four states
use Prim.Native.Nat.{ℕ, zero, suc, ◌+◌, ◌-◌, ◌*◌, ◌^◌, ◌≤◌, ◌<◌}
use mathlib.Core.Path.{◌≡◌, refl, sym, ap, ap₂, ◌∙◌, subst}
use mathlib.Core.Bool.{Bool, true, false, cond}
use mathlib.Core.List.{List, [], ◌∷◌, ◌++◌}
use mathlib.Core.Option.{Option, none, some}
use native.Mathlib.Omega.{arith}
use native.Mathlib.Nat.{le_refl, mul-le-mul_right}
use native.Mathlib.Decide.{ℕ_discrete}
use lib.Dec.{eqb}
use lib.ListN.{length, get_or, length-append}
use lib.Pow.{pow-lt, pow_mono}
use borrow.Author.Tests.{eq-eqb, ne_eqb, lt-ltb, le-ltb}
use Rattle.list_laws.specs.Tests.{holds}
use Rattle.trees.specs.Tree.{Tree, size, height}
use Rattle.trees.specs.Automaton.{Automaton}
use Rattle.trees.specs.Numbering.{parent, depth, ancestor}
use Rattle.trees.specs.Climb.{walk, digits}
use Rattle.trees.specs.Tables.{step_up}
use Rattle.trees.proofs.NodeLaws.{up, below_root}
use Rattle.trees.proofs.JumpLaws.{ancestor-depth}
use Rattle.trees.proofs.MapLaws.{step_up-below}
use Rattle.colours.specs.Colouring.{place_of, Colouring}
use Rattle.colours.specs.Copies.{copy_in, copy, state_down, colour_down}
use Rattle.colours.specs.Descents.{ColourTable, Descent, descent, descend}
use Rattle.colours.specs.StateSets.{set_of, member, set_step, set_count, set_table, set_copies, target_colour, set_at}
use Rattle.colours.specs.StateSets.{Tried, tried, after_trial, try_one, try_from, trial_drops, drops_from}
use Rattle.colours.proofs.ColouringLaws.{place-lt, place_at, has-colour}
use Rattle.colours.proofs.CopyLaws.{copy-colouring}
use Rattle.colours.proofs.PathLaws.{follow-state}
use Rattle.colours.proofs.DescentLaws.{all_append, left-node, Descended, descend-tree, descent-drops}
use Rattle.colours.specs.Descents.{AllLe}
use Rattle.colours.proofs.BitLaws.{set_of-below, member-set_of, member-single}

-- one trial more
more : (f m a b : ℕ) → a ≤ m → b ≤ f * m → a + b ≤ suc f * m
more f m a b h k = omega arith

once : (f m a : ℕ) → a ≤ m → a ≤ suc f * m
once f m a h = omega arith

-- ---- one trial on any table and copies

module _ (T : ColourTable) (rows : ℕ → List ℕ) (c w q x : ℕ) (later : Option Tried) where
  pub try-uncoloured : length (rows c) ≤ target_colour rows c x → try_one T rows c w q x later ≡ none
  unfolding try_one
  try-uncoloured h = rw (le-ltb (target_colour rows c x) (length (rows c)) h)

  module _ (h : target_colour rows c x < length (rows c)) where
    pub try-lost : descend T (target_colour rows c x) (some c) w (target_colour rows c x) ≡ none
        → try_one T rows c w q x later ≡ none
    unfolding try_one
    try-lost g = rw (lt-ltb (target_colour rows c x) (length (rows c)) h, g)

    module _ (d : Descent) (g : descend T (target_colour rows c x) (some c) w (target_colour rows c x) ≡ some d) where
      pub try-found : member (set_at rows w d) q ≡ true → try_one T rows c w q x later ≡ some (tried x d.searches)
      unfolding try_one
      try-found m = rw (lt-ltb (target_colour rows c x) (length (rows c)) h, g, m)

      pub try-on : member (set_at rows w d) q ≡ false → try_one T rows c w q x later ≡ after_trial d.searches later
      unfolding try_one
      try-on m = rw (lt-ltb (target_colour rows c x) (length (rows c)) h, g, m)

module _ (A : Automaton) (t : Tree) where
  pub set_step-root : (v T : ℕ) → v + 1 ≡ size t → set_step A t v T ≡ T
  unfolding set_step
  set_step-root v T e = rw (eq-eqb (v + 1) (size t) e)

  pub set_step-down : (v T : ℕ) → v + 1 < size t
      → set_step A t v T ≡ set_of A.states (λ s. member T (step_up A t v s))
  unfolding set_step
  set_step-down v T h = rw (ne_eqb (v + 1) (size t) (λ e. omega arith))

  pub set_step-below : (v T : ℕ) → T < set_count A → set_step A t v T < set_count A
  unfolding set_step
  set_step-below v T h = go (eqb (v + 1) (size t))
    where
      go : (b : Bool) → cond b T (set_of A.states (λ s. member T (step_up A t v s))) < set_count A
      go true = h
      go false = set_of-below A.states (λ s. member T (step_up A t v s))

  module _ (below : (p a q : ℕ) → A.δ p a q < A.states) where
    -- ---- sets down are states up

    pub set_walk : (w k T q : ℕ) → w < size t → k ≤ depth t w → q < A.states
        → member (state_down (set_step A t) t w k T) q ≡ member T (walk (step_up A t) t w k q)
    unfolding state_down walk
    set_walk w zero T q h l b = refl
    set_walk w (suc k) T q h l b =
        let g : w + 1 < size t = below_root t w h (omega arith) in
        let U : ℕ = state_down (set_step A t) t (parent t w) k T in
        ap (λ (x : ℕ). member x q) (set_step-down w U g)
        ∙ member-set_of A.states (λ s. member U (step_up A t w s)) q b
        ∙ set_walk (parent t w) k T (step_up A t w q) (up t w g).below (omega (arith, (up t w g).deeper))
        (step_up-below A t below w q b)

    walk-below : (w k q : ℕ) → q < A.states → walk (step_up A t) t w k q < A.states
    unfolding walk
    walk-below w zero q b = b
    walk-below w (suc k) q b = walk-below (parent t w) k (step_up A t w q) (step_up-below A t below w q b)

    -- ---- one trial

    module _ (c w k q : ℕ) (hw : w < size t) (l : k ≤ depth t w) (e : ancestor t w k ≡ c) (b : q < A.states) where
      -- the climb's state
      abbrev climbed : ℕ
      climbed = walk (step_up A t) t w k q

      pub record Trial (x : ℕ) : Type 0 where
        pub way : Descent
        pub has-it : target_colour (set_copies A t) c x < length (set_copies A t c)
        pub found : descend (set_table A t) (target_colour (set_copies A t) c x) (some c) w (target_colour (set_copies A t)
            c x) ≡ some way
        pub holds-it : member (set_at (set_copies A t) w way) q ≡ eqb (walk (step_up A t) t w k q) x
        pub drops_are : length way.searches ≡ trial_drops A t c w k x
        pub falls : length way.searches ≤ set_count A - 1
        pub few : AllLe (3 * digits (height t)) way.searches

      -- the copy k places above w is c's
      begins : copy_in (set_count A) (set_step A t) t (ancestor t w k) (suc (depth t w) - k)
          ≡ copy (set_count A) (set_step A t) t c
      unfolding copy
      begins =
          let a : depth t c + k ≡ depth t w =
          subst (λ (x : ℕ). depth t x + k ≡ depth t w) e (ancestor-depth t w k hw l) in
          let d : suc (depth t w) - k ≡ suc (depth t c) = omega arith in
          ap₂ (λ (v j : ℕ). copy_in (set_count A) (set_step A t) t v j) e d

      pub trial : (x : ℕ) → x < A.states → Trial x
      trial x hx =
          let n : ℕ = set_count A in
          let from : List ℕ = copy n (set_step A t) t c in
          let C : Colouring n from = copy-colouring n (set_step A t) t set_step-below c in
          let s : 2 ^ x < n = pow-lt hx in
          let i : holds (2 ^ x) from ≡ true = has-colour n from C (2 ^ x) s in
          let j : ℕ = place_of (2 ^ x) from in
          let hj : j < n = omega (arith, place-lt (2 ^ x) from i, C.count) in
          let D : Descended n (set_step A t) t j (some c) w k j =
          descend-tree n (set_step A t) t set_step-below j (some c) w k j hw hj (le_refl _) (left-node t w k c hw l e) in
          let f : copy_in n (set_step A t) t (ancestor t w k) (suc (depth t w) - k) ≡ from = begins in
          record {
            way = descent (colour_down n (set_step A t) t w k j) D.searches;
            has-it = place-lt (2 ^ x) from i;
            found = D.found;
            holds-it =
                ap (λ (y : ℕ). member y q)
                (follow-state n (set_step A t) t set_step-below w k j hw (omega arith) hj
                ∙ ap (state_down (set_step A t) t w k) (ap (λ (y : List ℕ). get_or y j 0) f ∙ place_at (2 ^ x) from i))
                ∙ set_walk w k (2 ^ x) q hw l b
                ∙ member-single x (walk (step_up A t) t w k q);
            drops_are = unfold trial_drops in D.falls;
            falls = descent-drops n (set_step A t) t set_step-below j (some c) w k j D hj;
            few = D.few;
          }

      -- ---- all trials up to the one that finds it

      pub record Found (f x : ℕ) : Type 0 where
        pub searches : List ℕ
        pub found : try_from (set_table A t) (set_copies A t) c w q f x ≡ some (tried (walk (step_up A t) t w k q) searches)
        pub drops_are : length searches ≡ drops_from (trial_drops A t c w k) x (suc (walk (step_up A t) t w k q) - x)
        pub falls : length searches ≤ f * (set_count A - 1)
        pub few : AllLe (3 * digits (height t)) searches

      one_left : (g : ℕ → ℕ) (x m : ℕ) → m ≡ 1 → drops_from g x m ≡ g x
      unfolding drops_from
      one_left g x m e = rw e (let z : g x + 0 ≡ g x = omega arith in z)

      one-off : (g : ℕ → ℕ) (x m i : ℕ) → m ≡ suc i → drops_from g x m ≡ g x + drops_from g (suc x) i
      unfolding drops_from
      one-off g x m i e = rw e

      tries : (f x : ℕ) → x ≤ walk (step_up A t) t w k q → walk (step_up A t) t w k q < x + f → x + f ≤ A.states
          → Found f x
      unfolding try_from
      tries zero x a g m = absurd (omega arith)
      tries (suc f) x a g m =
          let T : Trial x = trial x (omega arith) in
          elim (ℕ_discrete (walk (step_up A t) t w k q) x) [
            | yes i ↦ record {
              searches = T.way.searches;
              found = try-found (set_table A t) (set_copies A t) c w q x (try_from (set_table A t) (set_copies A t) c w q f
                  (suc x))
                  T.has-it T.way T.found (T.holds-it ∙ eq-eqb (walk (step_up A t) t w k q) x i)
                  ∙ ap (λ (y : ℕ). some (tried y T.way.searches)) (sym i);
              drops_are = T.drops_are ∙ sym (one_left (trial_drops A t c w k) x _ (omega arith));
              falls = once f (set_count A - 1) (length T.way.searches) T.falls;
              few = T.few;
            }
            | no i ↦ (let R : Found f (suc x) = tries f (suc x) (omega arith) (omega arith) (omega arith) in
                record {
                  searches = T.way.searches ++ R.searches;
                  found = try-on (set_table A t) (set_copies A t) c w q x (try_from (set_table A t) (set_copies A t) c w q f
                      (suc x))
                      T.has-it T.way T.found (T.holds-it ∙ ne_eqb (walk (step_up A t) t w k q) x i)
                      ∙ ap (after_trial T.way.searches) R.found;
                  drops_are = length-append T.way.searches R.searches
                      ∙ ap₂ (λ (a b : ℕ). a + b) T.drops_are R.drops_are
                      ∙ sym (one-off (trial_drops A t c w k) x _ (suc (walk (step_up A t) t w k q) - suc x) (omega arith));
                  falls = rw (length-append T.way.searches R.searches)
                      (more f (set_count A - 1) (length T.way.searches) (length R.searches) T.falls R.falls);
                  few = all_append (3 * digits (height t)) T.way.searches R.searches T.few R.few;
                })
          ]

      pub targets : Found A.states 0
      targets = tries A.states 0 (omega arith) (omega (arith, walk-below w k q b)) (omega arith)

      -- "the drops add up to at most 60 for each such part"
      pub targets-sixty : A.states ≤ 4 → length targets.searches ≤ 60
      targets-sixty h =
          let p : 2 ^ A.states ≤ 2 ^ 4 = pow_mono {i = A.states} {j = 4} h in
          omega (arith, targets.falls, mul-le-mul_right (set_count A - 1) h)
