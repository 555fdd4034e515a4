-- The first record copied over the other seven, byte by byte.
--     Copied o b n     the bytes of b below n are those of the first record of o, one time after the other
--     copied-first, copied_on, copied_all   before the first, one more, and all of them
use Prim.Native.Nat.{ℕ, ◌+◌, ◌-◌, ◌*◌, ◌%◌, ◌≤◌, ◌<◌}
use mathlib.Core.Path.{◌≡◌, sym, ◌∙◌, ap}
use mathlib.Core.List.{List}
use native.Mathlib.Decide.{ℕ_discrete}
use native.Mathlib.Omega.{arith}
use lib.ListN.{length, get_or, take, set}
use lib.Seq.{get_or-set_same, get_or-set_other, get_or-take, length-take-le, ext_get_or}
use Rattle.list_laws.specs.Rows.{rows}
use Rattle.records.specs.Layout.{record_length}
use Rattle.capi_screens.specs.RunLayout.{run_length, record_at}
use Rattle.capi_screens.proofs.PartLaws.{part_length, part_at, rows_of}

abbrev pub Copied : List ℕ → List ℕ → ℕ → Type 0
Copied o b n = (j : ℕ) → j < n → get_or b j 0 ≡ get_or o (j % 983) 0

pub copied-first : (o : List ℕ) → Copied o o 983
copied-first o j h = let e : j ≡ j % 983 = omega arith in ap (λ (i : ℕ). get_or o i 0) e

pub copied_on : (o b : List ℕ) (n : ℕ) → Copied o b n → 983 ≤ n → n < length b
    → Copied o (set b n (get_or b (n - 983) 0)) (n + 1)
copied_on o b n c h l j m = elim (ℕ_discrete j n) [
  | yes q ↦ (let e : (n - 983) % 983 ≡ j % 983 = omega arith in
      ap (λ (i : ℕ). get_or (set b n (get_or b (n - 983) 0)) i 0) q ∙ get_or-set_same b n (get_or b (n - 983) 0) 0 l
      ∙ c (n - 983) (omega arith) ∙ ap (λ (i : ℕ). get_or o i 0) e)
  | no q ↦ get_or-set_other b n j (get_or b (n - 983) 0) 0 q ∙ c j (omega arith)
]

pub copied_all : (o b : List ℕ) → length o ≡ run_length → length b ≡ run_length → Copied o b run_length
    → b ≡ rows 8 (λ i. take record_length o)
copied_all o b lo lb c = rows_of 983 8 (λ i. take 983 o) (λ i h. first) b lb each
  where
    first : length (take 983 o) ≡ 983
    first = length-take-le 983 o (omega arith)

    at : (i k : ℕ) → i < 8 → k < 983 → get_or (record_at b i) k 0 ≡ get_or (take 983 o) k 0
    at i k h m =
        let e : (983 * i + k) % 983 ≡ k = omega arith in
        part_at 983 8 b lb i k m ∙ c (983 * i + k) (omega arith) ∙ ap (λ (j : ℕ). get_or o j 0) e
        ∙ sym (get_or-take 983 o k 0 m)

    each : (i : ℕ) → i < 8 → record_at b i ≡ take 983 o
    each i h =
        ext_get_or 0 (record_at b i) (take 983 o) (part_length 983 8 b lb i h ∙ sym first)
        (λ k m. at i k h (omega (arith, part_length 983 8 b lb i h)))
