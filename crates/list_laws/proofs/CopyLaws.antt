-- A copy of w numbers at most to the front of a buffer.
--     CopyLoop, copy_start, copy-next, copy_done    its loop: i numbers are copied
use Prim.Native.Nat.{ℕ, suc, ◌+◌, ◌≤◌, ◌<◌}
use mathlib.Core.Path.{◌≡◌, refl, sym, ap, ap₂, ◌∙◌}
use mathlib.Core.List.{List, [], ◌∷◌, ◌++◌}
use native.Mathlib.Numerals.{add-one}
use native.Mathlib.Omega.{arith}
use lib.ListN.{length, get_or, take, drop, set, length-append, length-drop}
use lib.Seq.{append_snoc, drop-cons, take-suc, set_at, length-take-le}
use Rattle.list_laws.specs.Copying.{over_buffer, CopyArgs}

pub record CopyLoop (w : ℕ) (a : List ℕ) (n : ℕ) (d₀ d : List ℕ) (i : ℕ) : Type 0 where
  pub args : CopyArgs w a n d₀
  pub upto : i ≤ n
  pub long : length d ≡ length d₀
  pub is : d ≡ over_buffer i a d₀

pub copy_start : (w : ℕ) (a : List ℕ) (n : ℕ) (d : List ℕ) → CopyArgs w a n d → CopyLoop w a n d d 0
copy_start w a n d A = record { args = A; upto = omega arith; long = refl; is = refl }

one_more : (a d : List ℕ) (i : ℕ) → i < length a → i < length d
    → set (over_buffer i a d) i (get_or a i 0) ≡ over_buffer (i + 1) a d
one_more a d i h k =
    ap (λ (r : List ℕ). set (take i a ++ r) i (get_or a i 0)) (drop-cons d i 0 k)
    ∙ set_at (take i a) (get_or d i 0) (drop (suc i) d) (get_or a i 0) i (length-take-le i a (omega arith))
    ∙ sym (append_snoc (take i a) (get_or a i 0) (drop (suc i) d))
    ∙ ap (λ (r : List ℕ). r ++ drop (suc i) d) (sym (take-suc a i 0 h))
    ∙ ap (λ (j : ℕ). over_buffer j a d) (sym (add-one i))

length_over : (a d : List ℕ) (i : ℕ) → i ≤ length a → i ≤ length d → length (over_buffer i a d) ≡ length d
length_over a d i h k =
    length-append (take i a) (drop i d) ∙ omega (arith, length-take-le i a h, length-drop i d)

module _ (w : ℕ) (a : List ℕ) (n : ℕ) (d₀ d : List ℕ) (i : ℕ) (L : CopyLoop w a n d₀ d i) where
  pub copy-next : i < n → CopyLoop w a n d₀ (set d i (get_or a i 0)) (i + 1)
  copy-next h =
      let e : set d i (get_or a i 0) ≡ over_buffer (i + 1) a d₀ =
      ap (λ (x : List ℕ). set x i (get_or a i 0)) L.is
      ∙ one_more a d₀ i (omega (arith, L.args.wide, L.args.few)) (omega (arith, L.args.room)) in
      record {
        args = L.args;
        upto = omega arith;
        long = ap length e ∙ length_over a d₀ (i + 1) (omega (arith, L.args.wide, L.args.few))
            (omega (arith, L.args.room));
        is = e;
      }

  pub copy_done : n ≤ i → d ≡ over_buffer n a d₀
  copy_done h = let e : i ≡ n = omega (arith, L.upto) in L.is ∙ ap (λ (j : ℕ). over_buffer j a d₀) e
