-- The record and what is found: one line more.
--     count_most             there are at most 256 lines
--     room                   a state that was not seen leaves room for its line
--     found-more, fits_more  what the record says with one line more
--     added_new, added-not   the definition's step, where the state was not seen, and where it was
--     empty-fits, empty-found    the empty record
use Prim.Native.Nat.{ℕ, zero, suc, ◌+◌, ◌*◌, ◌≤◌, ◌<◌}
use mathlib.Core.Path.{◌≡◌, refl, sym, ap, ap₂, ◌∙◌, subst}
use mathlib.Core.List.{List, [], ◌∷◌, ◌++◌}
use native.Mathlib.Omega.{arith}
use native.Mathlib.Decide.{ℕ_discrete}
use native.Mathlib.Numerals.{add-one}
use lib.ListN.{length, get_or, take, set, length-append, length-set}
use lib.Seq.{take-suc-set, get_or-take, get_or-set_same, get_or-set_other}
use borrow.Author.Tests.{eq-eqb, ne_eqb}
use Rattle.products.specs.agreement.Lines.{Line}
use Rattle.products.specs.agreement.Search.{Found, nothing, with_line, added, state_at}
use Rattle.products.proofs.agreement.Marks.{marks-most, marks-none, marks-set, zeros-at}
use Rattle.products.specs.declared.agreement.reachable.Search.{Search}
use Rattle.products.specs.agreement.reachable.SearchRecord.{line_added, empty_search, line_of, line_from, lines_from, line_at, lines_to}
use Rattle.products.specs.agreement.reachable.SearchRecord.{found_in, Fits}

pub length-lines : (ks bs ls rs : List ℕ) (n : ℕ) → length (lines_from ks bs ls rs n) ≡ n
unfolding lines_from
length-lines ks bs ls rs zero = refl
length-lines ks bs ls rs (suc n) =
    length-append (lines_from ks bs ls rs n) (line_from ks bs ls rs n ∷ []) ∙ omega (arith, length-lines ks bs ls rs n)

pub length_found : (s : Search) → length (found_in s).lines ≡ s.count
unfolding found_in
length_found s = length-lines s.kinds s.labels s.lefts s.rights s.count

pub state-found : (s : Search) (i : ℕ) → i < s.count → state_at (found_in s) i ≡ get_or s.codes i 0
unfolding found_in
state-found s i h = get_or-take s.count s.codes i 0 h

module _ (s1 s2 : ℕ) (s : Search) (F : Fits s1 s2 s) where
  pub count_most : s.count ≤ 256
  count_most = omega (arith, marks-most s.seen, F.counted, F.seen)

  module _ (kind a i j c : ℕ) (hc : c < 256) (new : get_or s.seen c 0 ≡ 0) where
    pub room : s.count < 256
    room = omega (
      arith,
      marks-most (set s.seen c 1),
      length-set s.seen c 1,
      marks-set s.seen c (omega
          (arith, F.seen)) new,
      F.counted,
      F.seen,
    )

    lines-front : (n : ℕ) → n ≤ s.count → lines_to (line_added s kind a i j c) n ≡ lines_to s n
    unfolding lines_from
    lines-front zero h = refl
    lines-front (suc n) h =
        let ne : n ≡ s.count → ⊥ = λ e. omega arith in
        ap₂ (λ (l : List Line) (x : Line). l ++ (x ∷ [])) (lines-front n (omega arith))
        (cc (
          get_or-set_other s.kinds s.count n kind 0 ne,
          get_or-set_other s.labels s.count n a 0 ne,
          get_or-set_other s.lefts s.count n i 0 ne,
          get_or-set_other s.rights s.count n j 0 ne,
        ))

    last_line : line_at (line_added s kind a i j c) s.count ≡ line_of kind a i j
    last_line =
        cc (
          get_or-set_same s.kinds s.count kind 0 (omega (arith, F.kinds, room)),
          get_or-set_same s.labels s.count a 0 (omega (arith, F.labels, room)),
          get_or-set_same s.lefts s.count i 0 (omega (arith, F.lefts, room)),
          get_or-set_same s.rights s.count j 0 (omega (arith, F.rights, room)),
        )

    pub found-more : found_in (line_added s kind a i j c) ≡ with_line (line_of kind a i j) c (found_in s)
    unfolding found_in lines_from
    found-more =
        let e : s.count + 1 ≡ suc s.count = add-one s.count in
        let l : lines_to (line_added s kind a i j c) (s.count + 1) ≡ lines_to s s.count ++ (line_of kind a i j ∷ []) =
        ap (lines_to (line_added s kind a i j c)) e
        ∙ ap₂ (λ (l : List Line) (x : Line). l ++ (x ∷ [])) (lines-front s.count (omega arith)) last_line in
        let t : take (s.count + 1) (set s.codes s.count c) ≡ take s.count s.codes ++ (c ∷ []) =
        ap (λ (n : ℕ). take n (set s.codes s.count c)) e ∙ take-suc-set s.codes s.count c (omega
        (arith, F.codes, room)) in
        ap₂ (λ (x : List Line) (y : List ℕ). (let r : Found = record {
          lines = x;
          states = y;
          seen = set
              s.seen c 1;
        } in r)) l t

    -- a fact of every entry: of the old ones, and of the new one
    by-entry : (P : ℕ → Type 0) → ((x : ℕ) → (x ≡ s.count → ⊥) → P x) → P s.count → (x : ℕ) → P x
    by-entry P o e x = elim (ℕ_discrete x s.count) [
      | yes q ↦ subst P (sym q) e
      | no q ↦ o x q
    ]

    kind-same : get_or (set s.kinds s.count kind) s.count 0 ≡ kind
    kind-same = get_or-set_same s.kinds s.count kind 0 (omega (arith, F.kinds, room))

    kind-other : (x : ℕ) → (x ≡ s.count → ⊥) → get_or (set s.kinds s.count kind) x 0 ≡ get_or s.kinds x 0
    kind-other x q = get_or-set_other s.kinds s.count x kind 0 q

    leaf-more : (l : List ℕ) (y : ℕ) → length l ≡ 256 → ((x : ℕ) → get_or s.kinds x 0 ≡ 0 → get_or l x 0 ≡ 0) → (kind ≡ 0
        → y ≡ 0)
        → (x : ℕ) → get_or (set s.kinds s.count kind) x 0 ≡ 0 → get_or (set l s.count y) x 0 ≡ 0
    leaf-more l y m o e =
        by-entry (λ (x : ℕ). get_or (set s.kinds s.count kind) x 0 ≡ 0 → get_or (set l s.count y) x 0 ≡ 0)
        (λ x q z. get_or-set_other l s.count x y 0 q ∙ o x (sym (kind-other x q) ∙ z))
        (λ z. get_or-set_same l s.count y 0 (omega (arith, m, room)) ∙ e (sym kind-same ∙ z))

    pub fits_more : c < s1 * s2 → kind < 2 → (kind ≡ 0 → (i ≡ 0) × (j ≡ 0)) → Fits s1 s2 (line_added s kind a i j c)
    fits_more h b z = record {
      kinds = length-set s.kinds s.count kind ∙ F.kinds;
      labels = length-set s.labels s.count a ∙ F.labels;
      lefts = length-set s.lefts s.count i ∙ F.lefts;
      rights = length-set s.rights s.count j ∙ F.rights;
      codes = length-set s.codes s.count c ∙ F.codes;
      seen = length-set s.seen c 1 ∙ F.seen;
      counted = marks-set s.seen c (omega (arith, F.seen)) new ∙ ap (λ (n : ℕ). n + 1) F.counted;
      below = by-entry (λ (x : ℕ). get_or (set s.codes s.count c) x 0 < s1 * s2)
          (λ x q. omega (arith, get_or-set_other s.codes s.count x c 0 q, F.below x))
          (omega (arith, get_or-set_same s.codes s.count c 0 (omega (arith, F.codes, room))));
      kind_bit = by-entry (λ (x : ℕ). get_or (set s.kinds s.count kind) x 0 < 2)
          (λ x q. omega (arith, kind-other x q, F.kind_bit x)) (omega (arith, kind-same));
      leaf_left = leaf-more s.lefts i F.lefts F.leaf_left (λ e. (z e).0);
      leaf_right = leaf-more s.rights j F.rights F.leaf_right (λ e. (z e).1);
    }

  -- a state that was seen: nothing is added
  pub added-not : (x : Line) (c : ℕ) → (get_or s.seen c 0 ≡ 0 → ⊥) → added x c (found_in s) ≡ found_in s
  unfolding added found_in
  added-not x c n = rw (ne_eqb (get_or s.seen c 0) 0 n)

  pub added_new : (x : Line) (c : ℕ) → get_or s.seen c 0 ≡ 0 → added x c (found_in s) ≡ with_line x c (found_in s)
  unfolding added found_in
  added_new x c e = rw (eq-eqb (get_or s.seen c 0) 0 e)

-- ---- the empty record

pub empty-fits : (s1 s2 : ℕ) → 1 ≤ s1 * s2 → Fits s1 s2 empty_search
empty-fits s1 s2 h = record {
  kinds = refl;
  labels = refl;
  lefts = refl;
  rights = refl;
  codes = refl;
  seen = refl;
  counted = marks-none 256;
  below = λ i. subst (λ (x : ℕ). x < s1 * s2) (sym (zeros-at 256 i)) h;
  kind_bit = λ i. subst (λ (x : ℕ). x < 2) (sym (zeros-at 256 i)) (omega arith);
  leaf_left = λ i e. zeros-at 256 i;
  leaf_right = λ i e. zeros-at 256 i;
}

pub empty-found : found_in empty_search ≡ nothing
unfolding found_in lines_from
empty-found = refl
