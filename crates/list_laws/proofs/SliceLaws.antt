-- The laws of the parts of a slice: what `&s[a..]` and `&s[a..a + n]` are to a proof.
--     rest_part, end-part    the rest of the list, and the rest where n elements follow
--     run-part, length_part  n elements from index a on
--     rest-cut               the rest of the list is a run and the rest behind it; append-both: two equal runs joined
use Prim.Native.Nat.{ℕ, ◌+◌, ◌-◌, ◌≤◌}
use mathlib.Core.Path.{◌≡◌, sym, ap, ap₂, ◌∙◌}
use mathlib.Core.List.{List, ◌++◌}
use native.Mathlib.Omega.{arith}
use lib.ListN.{length, take, drop, length-take, length-drop, take-append-drop}
use lib.Seq.{take_all, drop-drop}

-- `&s[a..]` is to a callee the rest of the list
pub rest_part : (s : List ℕ) (a : ℕ) → take (length s - a) (drop a s) ≡ drop a s
rest_part s a = take_all (length s - a) (drop a s) (simp length-drop (omega arith))

-- `&s[a..]`, where n elements follow
pub end-part : (s : List ℕ) (a n : ℕ) → length s ≡ a + n → take (length s - a) (drop a s) ≡ take n (drop a s)
end-part s a n e = let q : length s - a ≡ n = omega arith in ap (λ (i : ℕ). take i (drop a s)) q

-- `&s[a..a + n]`
pub run-part : (s : List ℕ) (a n : ℕ) → take (a + n - a) (drop a s) ≡ take n (drop a s)
run-part s a n = let q : a + n - a ≡ n = omega arith in ap (λ (i : ℕ). take i (drop a s)) q

pub length_part : (s : List ℕ) (a n : ℕ) → a + n ≤ length s → length (take n (drop a s)) ≡ n
length_part s a n h = simp (length-take, length-drop) (omega arith)

-- a run of n elements from index a on, and what comes after it
pub rest-cut : (s : List ℕ) (a n b : ℕ) → b ≡ a + n → drop a s ≡ take n (drop a s) ++ drop b s
rest-cut s a n b e =
    sym (take-append-drop n (drop a s))
    ∙ ap (λ (t : List ℕ). take n (drop a s) ++ t) (drop-drop n a s ∙ ap (λ (i : ℕ). drop i s) (sym e))

pub append-both : {a b c d : List ℕ} → a ≡ c → b ≡ d → a ++ b ≡ c ++ d
append-both e f = ap₂ (λ (x y : List ℕ). x ++ y) e f
