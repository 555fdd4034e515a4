-- What holds of all that is found, and that one line more keeps it.
--     tree_at, height_at   a line's tree and its height
--     Has F c h          state c is found, by a line of height at most h
--     Under F h          no line found has more height than h
--     Grows F G          what was found stays, at its place
--     Kept F             good lines, right states, heights that never fall, and what is seen is found
--     tried              a state that is tried is found, and all this is kept
use Prim.Native.Nat.{ℕ, ◌+◌, ◌≤◌, ◌<◌}
use mathlib.Core.Path.{◌≡◌, refl, sym, ap, ◌∙◌, subst}
use mathlib.Core.Bool.{Bool, true, false, cond}
use mathlib.Core.List.{List, [], ◌∷◌, ◌++◌}
use native.Mathlib.Decide.{ℕ_discrete}
use native.Mathlib.Omega.{arith}
use lib.Dec.{eqb}
use lib.ListN.{length, get_or, set, length-append, length-set, get_or-append}
use lib.Seq.{get_or_at, get_or-set_other}
use borrow.Author.Tests.{eqb-true, eqb-false}
use Rattle.trees.specs.Tree.{Tree, leaf, height}
use Rattle.trees.specs.Automaton.{Automaton, state}
use Rattle.products.specs.Plans.{PlanOf}
use Rattle.products.specs.agreement.Lines.{Line, GoodLine, GoodLines, line_tree, trees_from}
use Rattle.products.specs.agreement.Search.{Found, nothing, with_line, added, state_at, marks}
use Rattle.products.proofs.agreement.LineLaws.{trees-more, length-trees, good_more, line-plan}
use Rattle.products.proofs.agreement.Marks.{marks-most, marks-none, marks-set, zeros-at}

abbrev pub tree_at : Found → ℕ → Tree
tree_at F i = get_or (trees_from [] F.lines) i (leaf 0)

abbrev pub height_at : Found → ℕ → ℕ
height_at F i = height (tree_at F i)

pub record Has (F : Found) (c h : ℕ) : Type 0 where
  pub line : ℕ
  pub inside : line < length F.lines
  pub is : state_at F line ≡ c
  pub low : height_at F line ≤ h

abbrev pub Under : Found → ℕ → Type 0
Under F h = (i : ℕ) → i < length F.lines → height_at F i ≤ h

pub record Grows (F G : Found) : Type 0 where
  pub longer : length F.lines ≤ length G.lines
  pub stays : (i : ℕ) → i < length F.lines → state_at G i ≡ state_at F i
  pub heights : (i : ℕ) → i < length F.lines → height_at G i ≡ height_at F i

pub grows_self : (F : Found) → Grows F F
grows_self F = record { longer = omega arith; stays = λ i h. refl; heights = λ i h. refl }

pub grows-on : {F G H : Found} → Grows F G → Grows G H → Grows F H
grows-on f g = record {
  longer = omega (arith, f.longer, g.longer);
  stays = λ i h. g.stays i (omega (arith, f.longer)) ∙ f.stays i h;
  heights = λ i h. g.heights i (omega (arith, f.longer)) ∙ f.heights i h;
}

pub has_on : {F G : Found} {c h : ℕ} → Grows F G → Has F c h → Has G c h
has_on g H = record {
  line = H.line;
  inside = omega (arith, g.longer, H.inside);
  is = g.stays H.line H.inside ∙ H.is;
  low = omega (arith, g.heights H.line H.inside, H.low);
}

pub has-higher : {F : Found} {c g h : ℕ} → g ≤ h → Has F c g → Has F c h
has-higher l H = record { line = H.line; inside = H.inside; is = H.is; low = omega (arith, H.low) }

module _ (A : Automaton) (k : ℕ) where
  pub record Kept (F : Found) : Type 0 where
    pub good : GoodLines k 0 F.lines
    pub plans : (i : ℕ) → i < length F.lines → PlanOf k (tree_at F i)
    pub right : (i : ℕ) → i < length F.lines → state_at F i ≡ state A (tree_at F i)
    pub rising : (i j : ℕ) → i ≤ j → j < length F.lines → height_at F i ≤ height_at F j
    pub states_length : length F.states ≡ length F.lines
    pub seen-length : length F.seen ≡ 256
    pub seen-line : (c : ℕ) → (get_or F.seen c 0 ≡ 0 → ⊥) → (i : ℕ) × (i < length F.lines) × (state_at F i ≡ c)
    pub seen-count : marks F.seen ≡ length F.lines

  pub kept-none : Kept nothing
  kept-none = record {
    good = tt;
    plans = λ i h. absurd (omega arith);
    right = λ i h. absurd (omega arith);
    rising = λ i j l h. absurd (omega arith);
    states_length = refl;
    seen-length = refl;
    seen-line = λ c n. absurd (n (zeros-at 256 c));
    seen-count = marks-none 256;
  }

  pub most-lines : (F : Found) → Kept F → length F.lines ≤ 256
  most-lines F K = omega (arith, marks-most F.seen, K.seen-count, K.seen-length)

  -- ---- one line more

  module _ (F : Found) (K : Kept F) (x : Line) (c : ℕ) where
    count : length (with_line x c F).lines ≡ length F.lines + 1
    count = length-append F.lines (x ∷ [])

    old-state : (i : ℕ) → i < length F.lines → state_at (with_line x c F) i ≡ state_at F i
    old-state i h = get_or-append F.states (c ∷ []) 0 i (omega (arith, K.states_length))

    new-state : state_at (with_line x c F) (length F.lines) ≡ c
    new-state = get_or_at F.states c [] 0 (length F.lines) K.states_length

    trees-count : length (trees_from [] F.lines) ≡ length F.lines
    trees-count = omega (arith, length-trees F.lines [])

    old-tree : (i : ℕ) → i < length F.lines → tree_at (with_line x c F) i ≡ tree_at F i
    old-tree i h =
        ap (λ (ts : List Tree). get_or ts i (leaf 0)) (trees-more F.lines x [])
        ∙ get_or-append (trees_from [] F.lines) _ (leaf 0) i (omega (arith, trees-count))

    new-tree : tree_at (with_line x c F) (length F.lines) ≡ line_tree (trees_from [] F.lines) x
    new-tree =
        ap (λ (ts : List Tree). get_or ts (length F.lines) (leaf 0)) (trees-more F.lines x [])
        ∙ get_or_at (trees_from [] F.lines) (line_tree (trees_from [] F.lines) x) [] (leaf 0) (length F.lines) trees-count

    line-grows : Grows F (with_line x c F)
    line-grows = record { longer = omega (arith, count); stays = old-state; heights = λ i h. ap height (old-tree i h) }

    by-line : (P : ℕ → Type 0) → ((i : ℕ) → i < length F.lines → P i) → P (length F.lines) → (i : ℕ)
        → i < length (with_line x c F).lines → P i
    by-line P o e i h = elim (ℕ_discrete i (length F.lines)) [
      | yes q ↦ subst P (sym q) e
      | no q ↦ o i (omega (arith, count))
    ]

    module _ (h : ℕ) (tall : height (line_tree (trees_from [] F.lines) x) ≡ h) (U : Under F h) where
      new-height : height_at (with_line x c F) (length F.lines) ≡ h
      new-height = ap height new-tree ∙ tall

      line-under : Under (with_line x c F) h
      line-under =
          by-line (λ (i : ℕ). height_at (with_line x c F) i ≤ h)
          (λ i l. omega (arith, U i l, line-grows.heights i l)) (omega (arith, new-height))

      line-has : Has (with_line x c F) c h
      line-has = record {
        line = length F.lines;
        inside = omega (arith, count);
        is = new-state;
        low = omega
            (arith, new-height);
      }

      -- the new line is as high as any
      line-rising : (i j : ℕ) → i ≤ j → j < length (with_line x c F).lines
          → height_at (with_line x c F) i ≤ height_at (with_line x c F) j
      line-rising i j l m = elim (ℕ_discrete j (length F.lines)) [
        | yes q ↦ (let t : height_at (with_line x c F) j ≡ h = ap (height_at (with_line x c F)) q ∙ new-height in
            omega (arith, line-under i (omega arith)))
        | no q ↦ (let n : j < length F.lines = omega (arith, count) in
            omega (arith, K.rising i j l n, line-grows.heights i (omega arith), line-grows.heights j n))
      ]

      module _ (g : GoodLine k (length F.lines) x) (hc : c < 256) (is : c ≡ state A (line_tree (trees_from [] F.lines) x))
          (new : get_or F.seen c 0 ≡ 0) where
        seen_more : (d : ℕ) → (get_or (set F.seen c 1) d 0 ≡ 0 → ⊥)
            → (i : ℕ) × (i < length (with_line x c F).lines) × (state_at (with_line x c F) i ≡ d)
        seen_more d s = elim (ℕ_discrete d c) [
          | yes q ↦ (length F.lines, omega (arith, count), new-state ∙ sym q)
          | no q ↦ (let o = K.seen-line d (λ z. s (get_or-set_other F.seen c d 1 0 q ∙ z)) in
              (o.0, omega (arith, count, o.1), old-state o.0 o.1 ∙ o.2))
        ]

        line-good : GoodLines k 0 (F.lines ++ (x ∷ []))
        line-good =
            let e : 0 + length F.lines ≡ length F.lines = omega arith in
            good_more k 0 F.lines x K.good (subst (λ (m : ℕ). GoodLine k m x) (sym e) g)

        line_kept : Kept (with_line x c F)
        line_kept = record {
          good = line-good;
          plans = by-line (λ (i : ℕ). PlanOf k (tree_at (with_line x c F) i))
              (λ i h. subst (PlanOf k) (sym (old-tree i h)) (K.plans i h))
              (subst (PlanOf k) (sym new-tree) (line-plan k (length F.lines) (trees_from [] F.lines) x K.plans g));
          right = by-line (λ (i : ℕ). state_at (with_line x c F) i ≡ state A (tree_at (with_line x c F) i))
              (λ i h. old-state i h ∙ K.right i h ∙ ap (state A) (sym (old-tree i h)))
              (new-state ∙ is ∙ ap (state A) (sym new-tree));
          rising = line-rising;
          states_length = length-append F.states (c ∷ []) ∙ omega (arith, K.states_length, count);
          seen-length = length-set F.seen c 1 ∙ K.seen-length;
          seen-line = seen_more;
          seen-count = omega (arith, marks-set F.seen c (omega (arith, K.seen-length)) new, K.seen-count, count);
        }

  -- what one try leaves: more is found, the state tried is, and no line is higher than the one tried
  pub record Tried (F G : Found) (c h : ℕ) : Type 0 where
    pub kept : Kept G
    pub grows : Grows F G
    pub under : Under G h
    pub has : Has G c h

  pub tried : (F : Found) → Kept F → (x : Line) (c h : ℕ) → height (line_tree (trees_from [] F.lines) x) ≡ h → Under F h
      → GoodLine k (length F.lines) x → c < 256 → c ≡ state A (line_tree (trees_from [] F.lines) x) → Tried F
      (added x c F) c h
  unfolding added
  tried F K x c h tall U g hc is = go (eqb (get_or F.seen c 0) 0) refl
    where
      go : (b : Bool) → eqb (get_or F.seen c 0) 0 ≡ b → Tried F (cond b (with_line x c F) F) c h
      go true e = record {
        kept = line_kept F K x c h tall U g hc is (eqb-true (get_or F.seen c 0) 0 e);
        grows = line-grows F K x c;
        under = line-under F K x c h tall U;
        has = line-has F K x c h tall U;
      }
      go false e =
          let o = K.seen-line c (eqb-false (get_or F.seen c 0) 0 e) in
          record {
            kept = K;
            grows = grows_self F;
            under = U;
            has = record { line = o.0; inside = o.1; is = o.2; low = U o.0 o.1 };
          }
