-- Lines and the four arrays of a reply.
--     column-zero      past the last line each array is 0
--     lines-reply      a reply shows the lines it was made of
--     front-column     the front of a record's array is the column of its lines
--     front_is         the first n entries of an array with zeros behind them are its front
use Prim.Native.Nat.{ℕ, zero, suc, ◌+◌, ◌-◌, ◌≤◌, ◌<◌}
use mathlib.Core.Path.{◌≡◌, refl, sym, ap, ap₂, ◌∙◌}
use mathlib.Core.List.{List, [], ◌∷◌, ◌++◌}
use native.Mathlib.Decide.{ℕ_discrete, dec_lt}
use native.Mathlib.Omega.{arith}
use lib.ListN.{length, get_or, take, drop, replicate, length-append, length-drop, get_or-append, get_or-eq_default}
use lib.Seq.{get_or_at, get_or-take, get_or-drop, take-suc, take-length, length-take-le}
use Rattle.std.proofs.lemmas.List.{get_or-append_right}
use Rattle.list_laws.proofs.RowLaws.{length-tabulate, get_d_tabulate, tabulate-of}
use Rattle.products.specs.agreement.Lines.{Line, leaf_line, inner_line}
use Rattle.products.proofs.agreement.Marks.{zeros-at}
use Rattle.products.specs.declared.agreement.reachable.Search.{Search}
use Rattle.products.specs.agreement.reachable.SearchRecord.{line_of, line_from, lines_from, line_at, lines_to}
use Rattle.products.proofs.agreement.reachable.RecordLaws.{length-lines}
use Rattle.products.specs.declared.agreement.Agreement.{Agreement}
use Rattle.products.specs.agreement.Reply.{line_kind, line_label, line_left, line_right, column, reply_of, lines_in, FrontArgs}
use Rattle.products.specs.agreement.Reply.{Front, CutArgs}

-- ---- columns

pub column_at : (f : Line → ℕ) (xs : List Line) (i : ℕ) → i < 256 → get_or (column f xs) i 0 ≡ f (get_or xs i (leaf_line 0))
unfolding column
column_at f xs i h = get_d_tabulate 256 (λ j. f (get_or xs j (leaf_line 0))) i h

pub column-zero : (f : Line → ℕ) → f (leaf_line 0) ≡ 0 → (xs : List Line) (i : ℕ) → length xs ≤ i → get_or (column f xs) i 0 ≡ 0
unfolding column
column-zero f e xs i h = elim (dec_lt i 256) [
  | yes l ↦ column_at f xs i l ∙ ap f (get_or-eq_default xs (leaf_line 0) {n = i} h) ∙ e
  | no l ↦ get_or-eq_default (column f xs) 0 {n = i} (omega (arith, length-tabulate 256 (λ j. f (get_or xs j (leaf_line 0)))))
]

-- ---- the lines of a reply

line-again : (x : Line) → line_of (line_kind x) (line_label x) (line_left x) (line_right x) ≡ x
line-again (leaf_line a) = refl
line-again (inner_line a i j) = refl

module _ (xs : List Line) (few : length xs ≤ 256) where
  one_line : (n : ℕ) → n < length xs
      → line_from (column line_kind xs) (column line_label xs) (column line_left xs) (column line_right xs) n ≡ get_or xs n
      (leaf_line 0)
  one_line n h =
      let i : n < 256 = omega arith in
      ap₂ (λ (a b : ℕ). line_of a b (get_or (column line_left xs) n 0) (get_or (column line_right xs) n 0))
      (column_at line_kind xs n i)
      (column_at line_label xs n i)
      ∙ ap₂ (λ (a b : ℕ). line_of (line_kind (get_or xs n (leaf_line 0))) (line_label (get_or xs n (leaf_line 0))) a b)
      (column_at line_left xs n i)
      (column_at line_right xs n i)
      ∙ line-again (get_or xs n (leaf_line 0))

  lines-upto : (n : ℕ) → n ≤ length xs
      → lines_from (column line_kind xs) (column line_label xs) (column line_left xs) (column line_right xs) n ≡ take n xs
  unfolding lines_from
  lines-upto zero h = refl
  lines-upto (suc n) h =
      ap₂ (λ (l : List Line) (x : Line). l ++ (x ∷ [])) (lines-upto n (omega arith)) (one_line n (omega arith))
      ∙ sym (take-suc xs n (leaf_line 0) (omega arith))

  pub lines-reply : lines_in (reply_of xs) ≡ xs
  lines-reply = lines-upto (length xs) (omega arith) ∙ take-length xs

-- ---- from the record

line-at : (t : Search) (n j : ℕ) → j < n → get_or (lines_to t n) j (leaf_line 0) ≡ line_at t j
unfolding lines_from
line-at t zero j h = absurd (omega arith)
line-at t (suc n) j h =
    let l : length (lines_to t n) ≡ n = length-lines t.kinds t.labels t.lefts t.rights n in
    elim (ℕ_discrete j n) [
      | yes e ↦ ap (λ (m : ℕ). get_or (lines_to t n ++ (line_at t n ∷ [])) m (leaf_line 0)) e
          ∙ get_or_at (lines_to t n) (line_at t n) [] (leaf_line 0) n l
          ∙ ap (line_at t) (sym e)
      | no e ↦ get_or-append (lines_to t n) (line_at t n ∷ []) (leaf_line 0) j (omega arith) ∙ line-at t n j (omega arith)
    ]

module _ (t : Search) (n : ℕ) (few : n ≤ 256) (a : List ℕ) (f : Line → ℕ) (zero-leaf : f (leaf_line 0) ≡ 0)
    (is : (j : ℕ) → f (line_at t j) ≡ get_or a j 0) where
  pub front-column : (r : List ℕ) → Front n a r → r ≡ column f (lines_to t n)
  unfolding column
  front-column r F = tabulate-of 256 (λ i. f (get_or (lines_to t n) i (leaf_line 0))) r F.long each
    where
      l : length (lines_to t n) ≡ n
      l = length-lines t.kinds t.labels t.lefts t.rights n

      each : (j : ℕ) → j < 256 → get_or r j 0 ≡ f (get_or (lines_to t n) j (leaf_line 0))
      each j h = elim (dec_lt j n) [
        | yes m ↦ F.copied j m ∙ sym (ap f (line-at t n j m) ∙ is j)
        | no m ↦ F.zero j (omega arith) ∙ sym (ap f (get_or-eq_default (lines_to t n) (leaf_line 0) {n = j} (omega
            (arith, l))) ∙ zero-leaf)
      ]

kind-of : (k a i j : ℕ) → k < 2 → line_kind (line_of k a i j) ≡ k
kind-of zero a i j h = refl
kind-of (suc zero) a i j h = refl
kind-of (suc (suc k)) a i j h = absurd (omega arith)

label_of : (k a i j : ℕ) → line_label (line_of k a i j) ≡ a
label_of zero a i j = refl
label_of (suc k) a i j = refl

left-of : (k a i j : ℕ) → (k ≡ 0 → i ≡ 0) → line_left (line_of k a i j) ≡ i
left-of zero a i j z = sym (z refl)
left-of (suc k) a i j z = refl

right_of : (k a i j : ℕ) → (k ≡ 0 → j ≡ 0) → line_right (line_of k a i j) ≡ j
right_of zero a i j z = sym (z refl)
right_of (suc k) a i j z = refl

module _ {s1 s2 : ℕ} {t : Search} {n : ℕ} (A : CutArgs s1 s2 t n) where
  pub cut-reply : {ks bs ls rs : List ℕ} → Front n t.kinds ks → Front n t.labels bs → Front n t.lefts ls
      → Front n t.rights rs
      → ◌≡◌ {A = Agreement} (record { count = n; kinds = ks; labels = bs; lefts = ls; rights = rs }) (reply_of (lines_to t n))
  cut-reply {ks} {bs} {ls} {rs} K B L R =
      cc (
        front-column t n A.few t.kinds line_kind refl (λ j. kind-of _ _ _ _ (A.fits.kind_bit j)) ks K,
        front-column t n A.few t.labels line_label refl (λ j. label_of (get_or t.kinds j 0) _ _ _) bs B,
        front-column t n A.few t.lefts line_left refl (λ j. left-of _ _ _ _ (A.fits.leaf_left j)) ls L,
        front-column t n A.few t.rights line_right refl (λ j. right_of _ _ _ _ (A.fits.leaf_right j)) rs R,
        length-lines t.kinds t.labels t.lefts t.rights n,
      )

-- ---- the front of an array

pub front_is : (a : List ℕ) (n : ℕ) (x : List ℕ) → FrontArgs a n → x ≡ take n a → Front n a (x ++ drop n (replicate 256 0))
front_is a n x A e =
    let l : length x ≡ n = ap length e ∙ length-take-le n a (omega (arith, A.long, A.few)) in
    record {
      long = simp (length-append, length-drop) (omega (arith, A.few));
      copied = λ i h. get_or-append x (drop n (replicate 256 0)) 0 i (omega arith) ∙ ap (λ (y : List ℕ). get_or y i 0) e
          ∙ get_or-take n a i 0 h;
      zero = λ i h. get_or-append_right x (drop n (replicate 256 0)) n i 0 l h ∙ get_or-drop n (replicate 256 0) (i - n) 0
          ∙ zeros-at 256 (n + (i - n));
    }
