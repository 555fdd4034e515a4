-- The iterations of a descent.
--     part_gives                            what a colour's own table gives the whole gives
--     Descends                             the loop's state: the searches so far, and the same answer from here
--     descends-start, -turn                before the first drop, and after one more
--     descends-done, -lost, -lowest the answer where no drop is left, where one is lost, and with the lowest colour
use Prim.Native.Nat.{ℕ, zero, suc, ◌+◌, ◌*◌, ◌≤◌, ◌<◌}
use mathlib.Core.Path.{◌≡◌, refl, sym, ap, ◌∙◌, subst}
use mathlib.Core.Bool.{Bool, false}
use mathlib.Core.List.{List, [], ◌∷◌, ◌++◌, append_assoc, append-nil}
use mathlib.Core.Option.{Option, none, some}
use native.Mathlib.Omega.{arith}
use native.Mathlib.Nat.{le_refl}
use lib.ListN.{length, length-append}
use Rattle.colours.specs.Descents.{ColourTable, Place, Next, done, lost, fell, next_drop, seen, Descent, descent, sum}
use Rattle.colours.specs.Descents.{with_search, after_next, descend}
use Rattle.colours.proofs.DescentLaws.{descend-lowest, descend-next, descend-same, fell-lower}
use Rattle.std.specs.Prelude.{Some, None}
use Rattle.colour_questions.specs.declared.path_drops.drops.Dropping.{Dropping}
use Rattle.colour_questions.specs.declared.path_drops.drops.Dropping.TheVariants.{Done, Lost, Fell}
use Rattle.colour_questions.specs.path_drops.inner.Drops.{dropping_of, NextDone}
use Rattle.colour_tables.specs.ColourCells.{colour_part, cell_table}
use Rattle.colour_questions.specs.path_drops.Descended.{start_place, reached, descended_of}
use Rattle.colour_questions.specs.path_drops.inner.Drops.{DropDone}

-- ---- one colour's table among all

pub part_gives : (n : ℕ) (nums part : List ℕ) (c : ℕ) (z : Place) (to l : ℕ) (r : Dropping) → part ≡ colour_part n c nums
    → to ≡ seen (cell_table n nums) c z → NextDone n part c to l r → DropDone n nums c z l r
part_gives n nums part c z to l r e s N =
    let M : NextDone n (colour_part n c nums) c (seen (cell_table n nums) c z) l r = rw (← e, ← s) N in
    record { result = M.result; few = M.few }

-- ---- what is answered

gives-done : (o : Next) → Done ≡ dropping_of o → o ≡ done
unfolding dropping_of
gives-done done e = refl
gives-done lost e = let z : ◌≡◌ {A = ℕ} 0 1 = cc in absurd (omega arith)
gives-done (fell x d k) e = let z : ◌≡◌ {A = ℕ} 0 1 = cc in absurd (omega arith)

gives-lost : (o : Next) → Lost ≡ dropping_of o → o ≡ lost
unfolding dropping_of
gives-lost done e = let z : ◌≡◌ {A = ℕ} 0 1 = cc in absurd (omega arith)
gives-lost lost e = refl
gives-lost (fell x d k) e = let z : ◌≡◌ {A = ℕ} 0 1 = cc in absurd (omega arith)

gives-fell : (o : Next) (x d k : ℕ) → Fell x d k ≡ dropping_of o → o ≡ fell x d k
unfolding dropping_of
gives-fell done x d k e = let z : ◌≡◌ {A = ℕ} 0 1 = cc in absurd (omega arith)
gives-fell lost x d k e = let z : ◌≡◌ {A = ℕ} 0 1 = cc in absurd (omega arith)
gives-fell (fell y b j) x d k e =
    let p : y ≡ x = cc in
    let q : b ≡ d = cc in
    let r : j ≡ k = cc in
    rw (p, q, r)

-- ---- searches before

abbrev pub with_searches : List ℕ → Option Descent → Option Descent
with_searches ls none = none
with_searches ls (some d) = some (descent d.colour (ls ++ d.searches))

one_more : (ls : List ℕ) (k : ℕ) (o : Option Descent)
    → with_searches ls (with_search k o) ≡ with_searches (ls ++ (k ∷ [])) o
one_more ls k none = refl
one_more ls k (some d) = ap (λ (x : List ℕ). some (descent d.colour x))
    (sym (append_assoc ls (k ∷ []) d.searches))

none_before : (o : Option Descent) → o ≡ with_searches [] o
none_before none = refl
none_before (some d) = refl

sum-snoc : (ls : List ℕ) (k : ℕ) → sum (ls ++ (k ∷ [])) ≡ sum ls + k
sum-snoc [] k = omega arith
sum-snoc (x ∷ ls) k = omega (arith, sum-snoc ls k)

-- ---- the loop

module _ (n : ℕ) (nums : List ℕ) (z : Place) (l c : ℕ) where
  abbrev T : ColourTable
  T = cell_table n nums

  pub record Descends (colour : ℕ) (above : Bool) (at drops links : ℕ) : Type 0 where
    pub inside : at < n
    pub searches : List ℕ
    pub number : length searches ≡ drops
    pub total : sum searches ≡ links
    pub falls : drops + colour ≤ c
    pub few : links ≤ drops * 65535
    pub rest : descend (cell_table n nums) c z l c
        ≡ with_searches searches (descend (cell_table n nums) colour (start_place above at) l colour)

  -- what is answered where no drop is left
  ended : (ls : List ℕ) (d : ℕ) → descended_of (with_searches ls (some (descent d []))) ≡ Some (reached d (length ls) (sum ls))
  unfolding descended_of
  ended ls d = ap (λ (x : List ℕ). Some (reached d (length x) (sum x))) (append-nil ls)

  module _ (colour : ℕ) (above : Bool) (at drops links : ℕ) (S : Descends colour above at drops links) where
    finish : descend T colour (start_place above at) l colour ≡ some (descent colour [])
        → Some (reached colour drops links) ≡ descended_of (descend T c z l c)
    finish e =
        sym (ap descended_of (S.rest ∙ ap (with_searches S.searches) e)
        ∙ ended S.searches colour
        ∙ ap (λ (x : ℕ). Some (reached colour x (sum S.searches))) S.number
        ∙ ap (λ (x : ℕ). Some (reached colour drops x)) S.total)

    pub descends-lowest : colour ≡ 0
        → Some (reached colour drops links) ≡ descended_of (descend (cell_table n nums) c z l c)
    descends-lowest e =
        finish (subst (λ (x : ℕ). descend T x (start_place above at) l x ≡ some (descent x [])) (sym e)
        (descend-lowest T (start_place above at) l 0))

    -- one step of the descent, by what comes next
    step : (f : ℕ) (o : Next) → colour ≡ suc f → next_drop T colour (start_place above at) l ≡ o
        → descend T colour (start_place above at) l colour ≡ after_next o colour (λ x d. descend T f (some x) l d)
    step f o e q =
        ap (λ (x : ℕ). descend T x (start_place above at) l colour) e
        ∙ descend-next T (start_place above at) l f colour o (omega arith) q

    module _ (p : 0 < colour) (r : Dropping) (D : DropDone n nums colour (start_place above at) l r) where
      before : (f : ℕ) × (colour ≡ suc f)
      before = go colour p
        where
          go : (x : ℕ) → 0 < x → (f : ℕ) × (x ≡ suc f)
          go zero h = absurd (omega arith)
          go (suc f) h = (f, refl)

      pub descends-done : r ≡ Done → Some (reached colour drops links) ≡ descended_of (descend (cell_table n nums) c z l c)
      descends-done e =
          finish (step before.0 done before.1
          (gives-done (next_drop T colour (start_place above at) l) (sym e ∙ D.result)))

      pub descends-lost : r ≡ Lost → None ≡ descended_of (descend (cell_table n nums) c z l c)
      unfolding descended_of
      descends-lost e =
          ap descended_of (sym (S.rest ∙ ap (with_searches S.searches)
          (step before.0 lost before.1 (gives-lost (next_drop T colour (start_place above at) l)
          (sym e ∙ D.result)))))

      module _ (x d k : ℕ) (e : r ≡ Fell x d k) where
        next : next_drop T colour (start_place above at) l ≡ fell x d k
        next = gives-fell (next_drop T colour (start_place above at) l) x d k (sym e ∙ D.result)

        pub descends-lower : d < colour
        descends-lower =
            fell-lower (T.forest colour) (T.lands colour) colour (seen T colour (start_place above at)) l x d k next

        pub descends-small : (x < n) × (k ≤ 65535)
        descends-small = D.few x d k e

        pub descends-turn : Descends d false x (drops + 1) (links + k)
        descends-turn =
            let f : ℕ = before.0 in
            let b : colour ≡ suc f = before.1 in
            record {
              inside = descends-small.0;
              searches = S.searches ++ (k ∷ []);
              number = length-append S.searches (k ∷ []) ∙ ap (λ (y : ℕ). y + 1) S.number;
              total = sum-snoc S.searches k ∙ ap (λ (y : ℕ). y + k) S.total;
              falls = omega (arith, S.falls, descends-lower);
              few = omega (arith, S.few, descends-small.1);
              rest = S.rest
                  ∙ ap (with_searches S.searches) (step f (fell x d k) b next
                  ∙ ap (with_search k) (descend-same T l f d (some x) d (omega (arith, descends-lower)) (le_refl _)))
                  ∙ one_more S.searches k (descend T d (some x) l d);
            }

  pub descends-start : (above : Bool) (at : ℕ) → z ≡ start_place above at → at < n → Descends c above at 0 0
  descends-start above at e h = record {
    inside = h;
    searches = [];
    number = refl;
    total = refl;
    falls = omega arith;
    few = omega arith;
    rest = none_before (descend T c z l c)
        ∙ ap (λ (y : Place). with_searches [] (descend T c y l c)) e;
  }
