-- The trials of target states, one by one.
--     test-uncoloured, test-lost, test-end   one trial, by what its look-up and its descent give
--     Trying                                 the loop's state: the searches so far, and the same answer from here
--     trying_start, -lost, -found, -on, -end before the first trial, and by what comes of each
use Prim.Native.Nat.{ℕ, zero, suc, ◌+◌, ◌-◌, ◌*◌, ◌^◌, ◌≤◌, ◌<◌}
use mathlib.Core.Path.{◌≡◌, refl, sym, ap, ap₂, ◌∙◌, subst}
use mathlib.Core.Bool.{Bool, true, false, cond}
use mathlib.Core.List.{List, [], ◌∷◌, ◌++◌, append_assoc}
use mathlib.Core.Option.{Option, none, some}
use native.Mathlib.Omega.{arith}
use native.Mathlib.Numerals.{add-one}
use lib.Dec.{eqb}
use Rattle.std.specs.Prelude.{Option as Given, Some, None}
use lib.ListN.{length, get_or, take, drop, length-append}
use lib.Seq.{get_or-take, get_or-drop}
use Rattle.list_laws.proofs.RowLaws.{stride}
use Rattle.list_laws.proofs.SliceLaws.{run-part, length_part}
use Rattle.colours.specs.marks.Marks.{bit}
use Rattle.colours.specs.Colouring.{place_of}
use Rattle.colours.specs.Descents.{ColourTable, Descent, sum, descend}
use Rattle.colours.specs.StateSets.{member, Tried, tried, target_colour, set_at, after_trial, try_one, try_from}
use Rattle.colours.proofs.DescentLaws.{sum-le}
use Rattle.colours.proofs.SetLaws.{try-uncoloured, try-lost, try-found, try-on}
use Rattle.colour_tables.specs.ColourCells.{copy_row, cell_table}
use Rattle.colour_tables.proofs.RangeLaws.{descend-low}
use Rattle.colour_questions.specs.declared.path_drops.descend.Descended.{Descended}
use Rattle.colour_questions.specs.path_drops.Descended.{descended_of}
use Rattle.colour_questions.proofs.path_drops.DescendedLaws.{descended-none, descended-some}
use Rattle.colour_questions.specs.declared.target_states.trials.Tested.{Tested}
use Rattle.colour_questions.specs.target_states.Trials.{trial, trial_of, TargetArgs, Outcome, TestDone, TargetsDone}
use Rattle.colour_questions.proofs.target_states.DescentBounds.{Short, descend-few}

-- what holds of every number holds of a part's
taken-most : (l : List ℕ) (i j b : ℕ) → ((k : ℕ) → get_or l k 0 ≤ b) → get_or (take i l) j 0 ≤ b
taken-most [] zero j b h = omega arith
taken-most [] (suc i) j b h = omega arith
taken-most (x ∷ l) zero j b h = omega arith
taken-most (x ∷ l) (suc i) zero b h = h 0
taken-most (x ∷ l) (suc i) (suc j) b h = taken-most l i j b (λ k. h (suc k))

is_one : (b : Bool) → eqb (bit b) 1 ≡ b
is_one true = refl
is_one false = refl

-- ---- one trial

module _ (n m : ℕ) (numbers copies : List ℕ) (c w q x : ℕ) (A : TargetArgs n m numbers copies c w q x) where
  abbrev T : ColourTable
  T = cell_table n numbers

  abbrev rows : ℕ → List ℕ
  rows = copy_row m copies

  pub row_in : (v : ℕ) → v < n → v * m + m ≤ length copies
  row_in v h = omega (arith, stride m v n h, A.all.copies_room)

  row-long : (v : ℕ) → v < n → length (copy_row m copies v) ≡ m
  row-long v h = length_part copies (v * m) m (row_in v h)

  module _ (k one : ℕ) (single : one ≡ 2 ^ x) (place : k ≡ place_of one (take (c * m + m - c * m) (drop (c * m)
      copies))) where
    colour-is : k ≡ target_colour (copy_row m copies) c x
    colour-is = place ∙ ap₂ place_of single (run-part copies (c * m) m)

    pub test-uncoloured : m ≤ k → TestDone (cell_table n numbers) (copy_row m copies) c w q x None
    test-uncoloured h later =
        try-uncoloured T rows c w q x later (omega (arith, colour-is, row-long c A.all.upper))

    module _ (h : k < m) (d : Given Descended) (D : d ≡ descended_of (descend (cell_table n numbers) k (some c) w k)) where
      low : target_colour (copy_row m copies) c x < length (copy_row m copies c)
      low = omega (arith, colour-is, row-long c A.all.upper)

      way-is : (o : Option Descent) → descend (cell_table n numbers) k (some c) w k ≡ o
          → descend (cell_table n numbers) (target_colour (copy_row m copies) c x) (some c) w (target_colour (copy_row m
          copies) c x) ≡ o
      way-is o e = subst (λ (y : ℕ). descend T y (some c) w y ≡ o) colour-is e

      pub test-lost : d ≡ None → TestDone (cell_table n numbers) (copy_row m copies) c w q x None
      test-lost f later =
          try-lost T rows c w q x later low (way-is none (descended-none (descend T k (some c) w k) (sym f ∙ D)))

      pub end_low : (e : Descended) → d ≡ Some e → e.colour < m
      end_low e f =
          let y = descended-some (descend T k (some c) w k) e (sym f ∙ D) in
          omega (arith, y.2, descend-low T w k (some c) k y.0 y.1)

      module _ (end : Descended) (f : d ≡ Some end)
          (wide : (i : ℕ) → get_or numbers i 0 ≤ 65535) (b : ℕ)
          (member_is : b ≡ bit (member (get_or copies (w * m + end.colour) 0) q)) where
        deep : (e v : ℕ) → ((cell_table n numbers).forest e).depth v ≤ 65535
        deep e v =
            taken-most (drop (e * (n * 4)) numbers) (n * 4) (v * 4 + 2) 65535
            (λ i. subst (λ (y : ℕ). y ≤ 65535) (sym (get_or-drop (e * (n * 4)) numbers i 0)) (wide (e * (n * 4) + i)))

        pub test-end : TestDone (cell_table n numbers) (copy_row m copies) c w q x (Some (record { holds = eqb b 1; drops = end.drops; links = end.links }))
        test-end =
            let y = descended-some (descend T k (some c) w k) end (sym f ∙ D) in
            let S : Short 65535 k y.0 = descend-few T 65535 w deep k (some c) k y.0 y.1 in
            let g = way-is (some y.0) y.1 in
            let set : get_or copies (w * m + end.colour) 0 ≡ set_at (copy_row m copies) w y.0 =
            set_is end.colour y.0.colour y.2 (omega (arith, end_low end f)) in
            let t : eqb b 1 ≡ member (set_at (copy_row m copies) w y.0) q =
            ap (λ (z : ℕ). eqb z 1) (member_is ∙ ap (λ (z : ℕ). bit (member z q)) set) ∙ is_one _ in
            record {
              searches = y.0.searches;
              number = sym y.3;
              total = sym y.4;
              falls = omega (arith, y.3, S.falls, A.all.few);
              few = omega (arith, y.3, y.4, sum-le 65535 y.0.searches S.few);
              is = λ later. by-test later y.0 g (eqb b 1) t;
            }
          where
            set_is : (i j : ℕ) → i ≡ j → i < m → get_or copies (w * m + i) 0 ≡ get_or (copy_row m copies w) j 0
            set_is i j e l =
                sym (ap (λ (z : ℕ). get_or (copy_row m copies w) z 0) (sym e)
                ∙ get_or-take m (drop (w * m) copies) i 0 l ∙ get_or-drop (w * m) copies i 0)

            by-test : (later : Option Tried) (y : Descent)
                → descend (cell_table n numbers) (target_colour (copy_row m copies) c x) (some c) w (target_colour (copy_row
                m copies) c x) ≡ some y
                → (t : Bool) → t ≡ member (set_at (copy_row m copies) w y) q
                → try_one (cell_table n numbers) (copy_row m copies) c w q x later
                ≡ cond t (some (tried x y.searches)) (after_trial y.searches later)
            by-test later y g true e = try-found T rows c w q x later low y g (sym e)
            by-test later y g false e = try-on T rows c w q x later low y g (sym e)

-- ---- all trials

none_before : (o : Option Tried) → o ≡ after_trial [] o
none_before none = refl
none_before (some r) = refl

one_more : (ls ks : List ℕ) (o : Option Tried) → after_trial ls (after_trial ks o) ≡ after_trial (ls ++ ks) o
one_more ls ks none = refl
one_more ls ks (some r) = ap (λ (l : List ℕ). some (tried r.state l)) (sym (append_assoc ls ks r.searches))

pub sum-append : (xs ys : List ℕ) → sum (xs ++ ys) ≡ sum xs + sum ys
sum-append [] ys = omega arith
sum-append (x ∷ xs) ys = omega (arith, sum-append xs ys)

module _ (s : ℕ) (T : ColourTable) (rows : ℕ → List ℕ) (c w q : ℕ) where
  pub record Trying (drops links x : ℕ) : Type 0 where
    pub searches : List ℕ
    pub number : length searches ≡ drops
    pub total : sum searches ≡ links
    pub upto : x ≤ s
    pub falls : drops ≤ x * 15
    pub few : links ≤ drops * 65535
    pub rest : try_from T rows c w q s 0 ≡ after_trial searches (try_from T rows c w q (s - x) x)

  pub trying_start : Trying 0 0 0
  trying_start = record {
    searches = [];
    number = refl;
    total = refl;
    upto = omega arith;
    falls = omega arith;
    few = omega arith;
    rest = none_before (try_from T rows c w q s 0)
        ∙ ap (λ (f : ℕ). after_trial [] (try_from T rows c w q f 0)) (let e : s ≡ s - 0 = omega arith in e);
  }

  nothing : try_from T rows c w q s 0 ≡ none → TargetsDone s T rows c w q None
  unfolding trial_of
  nothing e = record { result = ap trial_of (sym e); bounds = tt }

  module _ (drops links x : ℕ) (G : Trying drops links x) where
    pub trying-end : s ≤ x → TargetsDone s T rows c w q None
    unfolding try_from
    trying-end h =
        let e : s - x ≡ 0 = omega arith in
        nothing (G.rest ∙ ap (λ (f : ℕ). after_trial G.searches (try_from T rows c w q f x)) e)

    module _ (h : x < s) (t : Given Tested) (D : TestDone T rows c w q x t) where
      abbrev later : Option Tried
      later = try_from T rows c w q (s - (x + 1)) (x + 1)

      turn : try_from T rows c w q s 0 ≡ after_trial G.searches (try_one T rows c w q x later)
      unfolding try_from
      turn =
          let e : s - x ≡ suc (s - (x + 1)) = omega arith in
          G.rest
          ∙ ap (λ (f : ℕ). after_trial G.searches (try_from T rows c w q f x)) e
          ∙ ap (λ (y : ℕ). after_trial G.searches (try_one T rows c w q x (try_from T rows c w q (s - (x + 1)) y)))
          (sym (add-one x))

      pub trying-lost : t ≡ None → TargetsDone s T rows c w q None
      trying-lost f = nothing (turn ∙ ap (after_trial G.searches) (subst (TestDone T rows c w q x) f D later))

      module _ (one : Tested) (f : t ≡ Some one) where
        O : Outcome T rows c w q x one.holds one.drops one.links
        O = subst (TestDone T rows c w q x) f D

        pub trying-falls : drops + one.drops ≤ (x + 1) * 15
        trying-falls = omega (arith, G.falls, O.falls)

        pub trying-few : links + one.links ≤ (drops + one.drops) * 65535
        trying-few = omega (arith, G.few, O.few)

        number : length (G.searches ++ O.searches) ≡ drops + one.drops
        number = length-append G.searches O.searches ∙ ap₂ (λ (a b : ℕ). a + b) G.number O.number

        total : sum (G.searches ++ O.searches) ≡ links + one.links
        total = sum-append G.searches O.searches ∙ ap₂ (λ (a b : ℕ). a + b) G.total O.total

        after : (b : Bool) → one.holds ≡ b
            → try_from T rows c w q s 0
            ≡ after_trial G.searches (cond b (some (tried x O.searches)) (after_trial O.searches later))
        after b e =
            turn ∙ ap (after_trial G.searches) (O.is later
            ∙ ap (λ (z : Bool). cond z (some (tried x O.searches)) (after_trial O.searches later)) e)

        pub trying-found : one.holds ≡ true → TargetsDone s T rows c w q (Some (trial x (drops + one.drops) (links + one.links)))
        unfolding trial_of
        trying-found e = record {
          result = sym (ap trial_of (after true e) ∙ ap₂ (λ (a b : ℕ). Some (trial x a b)) number total);
          bounds = record { state = h; falls = omega (arith, trying-falls); few = trying-few };
        }

        pub trying-on : one.holds ≡ false → Trying (drops + one.drops) (links + one.links) (x + 1)
        trying-on e = record {
          searches = G.searches ++ O.searches;
          number = number;
          total = total;
          upto = omega arith;
          falls = trying-falls;
          few = trying-few;
          rest = after false e ∙ one_more G.searches O.searches later;
        }
