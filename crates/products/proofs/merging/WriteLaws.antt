-- Lists written into a list, and the loops that write them.
--     written_none, written_one, written_on    nothing written; one element more; one list behind another
--     written_next, written_behind             so, where the length is known; behind a front of n
--     length-written, written_all              the length stays; from place 0 on
--     tabulate-add                             a table in two parts
--     Fill                                     the invariant of every loop here: i entries of the table are written
--     fill_start, fill_none, fill-next, fill-block    its start, twice, one entry more, a stretch of entries more
use Prim.Native.Nat.{ℕ, zero, suc, ◌+◌, ◌*◌, ◌≤◌, ◌<◌}
use mathlib.Core.Path.{◌≡◌, refl, sym, ap, ap₂, ◌∙◌, subst}
use mathlib.Core.List.{List, [], ◌∷◌, ◌++◌, append_assoc, append-nil}
use native.Mathlib.Omega.{arith}
use lib.ListN.{length, get_or, take, drop, set, length-append, length-set, length-drop, take-append-drop}
use lib.Seq.{length-take-le, drop-cons, set_at, take_at, drop_at, drop-drop}
use Rattle.list_laws.specs.Rows.{tabulate}
use Rattle.list_laws.proofs.RowLaws.{length-tabulate, tabulate-ext}
use Rattle.products.specs.merging.Writes.{written, Room}

pub written_none : (at : ℕ) (l : List ℕ) → written at [] l ≡ l
unfolding written
written_none at l = let e : at + 0 ≡ at = omega arith in ap (λ (n : ℕ). take at l ++ drop n l) e ∙ take-append-drop at l

module _ (at : ℕ) (xs l : List ℕ) where
  pub length-written : at + length xs ≤ length l → length (written at xs l) ≡ length l
  unfolding written
  length-written h =
      length-append (take at l) (xs ++ drop (at + length xs) l)
      ∙ omega (
        arith,
        length-take-le at l (omega arith),
        length-append xs (drop (at + length xs) l),
        length-drop
            (at + length xs) l,
      )

  front_length : at + length xs ≤ length l → length (take at l ++ xs) ≡ at + length xs
  front_length h = length-append (take at l) xs ∙ omega (arith, length-take-le at l (omega arith))

  split : written at xs l ≡ (take at l ++ xs) ++ drop (at + length xs) l
  unfolding written
  split = sym (append_assoc (take at l) xs (drop (at + length xs) l))

  pub written_one : (x : ℕ) → at + length xs < length l
      → set (written at xs l) (at + length xs) x ≡ written at (xs ++ (x ∷ [])) l
  unfolding written
  written_one x h =
      let n : length (take at l ++ xs) ≡ at + length xs = front_length (omega arith) in
      let m : suc (at + length xs) ≡ at + length (xs ++ (x ∷ [])) = omega (arith, length-append xs (x ∷ [])) in
      ap (λ (y : List ℕ). set y (at + length xs) x) (split ∙ ap (λ (y : List ℕ). (take at l ++ xs) ++ y) (drop-cons l
      (at + length xs) 0 h))
      ∙ set_at (take at l ++ xs) (get_or l (at + length xs) 0) (drop (suc (at + length xs)) l) x (at + length xs) n
      ∙ append_assoc (take at l) xs (x ∷ drop (suc (at + length xs)) l)
      ∙ ap (λ (y : List ℕ). take at l ++ y) (sym (append_assoc xs (x ∷ []) (drop (suc (at + length xs)) l)))
      ∙ ap (λ (j : ℕ). take at l ++ ((xs ++ (x ∷ [])) ++ drop j l)) m

  pub written_on : (ys : List ℕ) → at + length xs ≤ length l
      → written (at + length xs) ys (written at xs l) ≡ written at (xs ++ ys) l
  unfolding written
  written_on ys h =
      let n : length (take at l ++ xs) ≡ at + length xs = front_length h in
      let rest : List ℕ = drop (at + length xs) l in
      let t : take (at + length xs) (written at xs l) ≡ take at l ++ xs =
      ap (take (at + length xs)) split ∙ take_at (take at l ++ xs) rest (at + length xs) n in
      let d : drop (at + length xs + length ys) (written at xs l) ≡ drop (at + length (xs ++ ys)) l =
      sym (drop-drop (length ys) (at + length xs) (written at xs l))
      ∙ ap (drop (length ys)) (ap (drop (at + length xs)) split ∙ drop_at (take at l ++ xs) rest (at + length xs) n)
      ∙ drop-drop (length ys) (at + length xs) l
      ∙ (let e : at + length xs + length ys ≡ at + length (xs ++ ys) = omega (arith, length-append xs ys) in ap
      (λ (j : ℕ). drop j l) e) in
      ap₂ (λ (u w : List ℕ). u ++ (ys ++ w)) t d
      ∙ append_assoc (take at l) xs (ys ++ drop (at + length (xs ++ ys)) l)
      ∙ ap (λ (y : List ℕ). take at l ++ y) (sym (append_assoc xs ys (drop (at + length (xs ++ ys)) l)))

pub written_all : (xs l : List ℕ) → written 0 xs l ≡ xs ++ drop (length xs) l
unfolding written
written_all xs l = let e : 0 + length xs ≡ length xs = omega arith in ap (λ (n : ℕ). xs ++ drop n l) e

-- where a list is known by its length
pub written_next : (at n : ℕ) (xs ys l : List ℕ) → length xs ≡ n → at + n ≤ length l
    → written (at + n) ys (written at xs l) ≡ written at (xs ++ ys) l
written_next at n xs ys l e h =
    subst (λ (m : ℕ). at + m ≤ length l → written (at + m) ys (written at xs l) ≡ written at (xs ++ ys) l) e
    (written_on at xs l ys) h

pub written_behind : (n : ℕ) (xs ys l : List ℕ) → length xs ≡ n → n ≤ length l
    → written n ys (written 0 xs l) ≡ written 0 (xs ++ ys) l
written_behind n xs ys l e h =
    let z : 0 + n ≡ n = omega arith in
    ap (λ (m : ℕ). written m ys (written 0 xs l)) (sym z) ∙ written_next 0 n xs ys l e (omega arith)

pub tabulate-add : (n m : ℕ) (f : ℕ → ℕ) → tabulate (n + m) f ≡ tabulate n f ++ tabulate m (λ j. f (n + j))
unfolding tabulate
tabulate-add n zero f =
    let e : n + 0 ≡ n = omega arith in
    ap (λ (j : ℕ). tabulate j f) e ∙ sym (append-nil (tabulate n f))
tabulate-add n (suc m) f =
    let e : n + suc m ≡ suc (n + m) = omega arith in
    ap (λ (j : ℕ). tabulate j f) e
    ∙ ap (λ (l : List ℕ). l ++ (f (n + m) ∷ [])) (tabulate-add n m f)
    ∙ append_assoc (tabulate n f) (tabulate m (λ j. f (n + j))) (f (n + m) ∷ [])

-- ---- loops

pub record Fill (at n : ℕ) (c : ℕ → ℕ) (l₀ l : List ℕ) (i : ℕ) : Type 0 where
  pub room : Room at n l₀
  pub upto : i ≤ n
  pub long : length l ≡ length l₀
  pub is : l ≡ written at (tabulate i c) l₀

pub fill_start : (at n : ℕ) (c : ℕ → ℕ) (l : List ℕ) → Room at n l → Fill at n c l l 0
unfolding tabulate
fill_start at n c l R = record { room = R; upto = omega arith; long = refl; is = sym (written_none at l) }

-- where the entries come s at a time
pub fill_none : (at n s : ℕ) (c : ℕ → ℕ) (l : List ℕ) → Room at n l → Fill at n c l l (0 * s)
fill_none at n s c l R =
    let e : 0 * s ≡ 0 = omega arith in subst (Fill at n c l l) (sym e) (fill_start at n c l R)

module _ {at n : ℕ} {c : ℕ → ℕ} {l₀ l : List ℕ} {i : ℕ} (F : Fill at n c l₀ l i) where
  pub fill-next : i < n → (x : ℕ) → x ≡ c i → Fill at n c l₀ (set l (at + i) x) (i + 1)
  unfolding tabulate
  fill-next h x e =
      let m : length (tabulate i c) ≡ i = length-tabulate i c in
      let s : suc i ≡ i + 1 = omega arith in
      record {
        room = F.room;
        upto = omega arith;
        long = length-set l (at + i) x ∙ F.long;
        is =
            ap₂ (λ (y : List ℕ) (z : ℕ). set y (at + i) z) F.is e
            ∙ subst (λ (j : ℕ). set (written at (tabulate i c) l₀) (at + j) (c i) ≡ written at (tabulate i c ++
            (c i ∷ [])) l₀) m
            (written_one at (tabulate i c) l₀ (c i) (omega (arith, F.room.inside)))
            ∙ ap (λ (j : ℕ). written at (tabulate j c) l₀) s;
      }

  -- the next m entries, written by a part
  pub fill-block : (m j : ℕ) → j ≡ i + m → j ≤ n → (d : ℕ → ℕ) → ((q : ℕ) → q < m → d q ≡ c (i + q)) → (r : List ℕ)
      → r ≡ written (at + i) (tabulate m d) l → Fill at n c l₀ r j
  fill-block m j e h d same r is =
      let w : r ≡ written at (tabulate j c) l₀ =
      is
      ∙ ap₂ (λ (x y : List ℕ). written (at + i) x y) (tabulate-ext m d (λ q. c (i + q)) same) F.is
      ∙ written_next at i (tabulate i c) (tabulate m (λ q. c (i + q))) l₀ (length-tabulate i c) (omega
      (arith, F.room.inside))
      ∙ ap (λ (x : List ℕ). written at x l₀) (sym (tabulate-add i m c) ∙ ap (λ (x : ℕ). tabulate x c) (sym e)) in
      record {
        room = F.room;
        upto = h;
        long = ap length w ∙ length-written at (tabulate j c) l₀ (omega (arith, length-tabulate j c, F.room.inside));
        is = w;
      }
