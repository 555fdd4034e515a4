-- What part_row and next_part need and promise.
--     row-needs, by-open                   one part, by whether its root is listed
--     row-args, put-args, next-done
use Prim.Native.Nat.{ℕ, ◌*◌}
use mathlib.Core.Path.{◌≡◌, refl, sym, ap, ◌∙◌, subst}
use mathlib.Core.Bool.{Bool, true, false}
use mathlib.Core.List.{List, ◌++◌}
use native.Mathlib.Omega.{arith}
use lib.ListN.{length, get_or}
use lib.Seq.{length-take-le}
use Rattle.list_laws.proofs.RowLaws.{length-tabulate}
use Rattle.tables.specs.Climbs.{View}
use Rattle.questions.specs.inner.PartArgs.{part_view}
use Rattle.choices.specs.declared.part_steps.carry.Carried.{Carried}
use Rattle.choices.specs.question_counts.PartOn.{first_label, end_label, part_ok_on, part_count_on}
use Rattle.choices.specs.question_counts.PartsOn.{row_on}
use Rattle.choices.specs.inner.Part.{PartNeeds, PartCounted}
use Rattle.choices.specs.inner.Parts.{before, PutArgs, RowPut, NextArgs, RowArgs, RowCounted, NextCounted}
use Rattle.choices.proofs.RowLoop.{put-rows}

no-yes : (A : Type 0) → false ≡ true → A
no-yes A e = absurd (let z : ◌≡◌ {A = ℕ} 0 1 = cc in omega arith)

-- only whether v itself is open decides
module _ (X : View) (w : ℕ → Bool) (es cs : List ℕ) (v : ℕ) where
  same_ok : part_ok_on X (λ u. w v) es v ≡ part_ok_on X w es v
  unfolding part_ok_on end_label
  same_ok = refl

  same_row : row_on X (λ u. w v) es cs v ≡ row_on X w es cs v
  unfolding row_on part_count_on first_label end_label
  same_row = refl

  pub by-open : (free : Bool) (a : Carried) (m : List ℕ) → free ≡ w v → PartCounted X (λ u. free) es cs v a m
      → PartCounted X w es cs v a m
  by-open free a m e P =
      let Q = subst (λ (f : Bool). PartCounted X (λ u. f) es cs v a m) e P in
      record { ok = Q.ok ∙ same_ok; links = Q.links; few = Q.few; row = λ q. Q.row q ∙ same_row }

module _ (n s k : ℕ) (ls ks lv inn node_table state_table vs es b : List ℕ) (v : ℕ)
    (A : NextArgs n s k ls ks lv inn node_table state_table vs es b v) where
  abbrev X : View
  X = part_view n s k ls ks lv inn node_table state_table

  pub row-args : (m : List ℕ) → length m ≡ 16 → ((j : ℕ) → get_or m j 0 ≡ 0)
      → RowArgs n s k ls ks lv inn node_table state_table vs es b v m
  row-args m f z = record { next = A; sixteen = f; empty = z }

  pub row-needs : (m : List ℕ) → RowArgs n s k ls ks lv inn node_table state_table vs es b v m
      → PartNeeds n s k ls ks lv inn node_table state_table es (before es b) v m
  row-needs m R = record {
    runs = A.runs;
    at = A.at;
    few = omega (arith, A.few);
    room = omega (arith, length-take-le (length es * 16) b (omega (arith, A.room)));
    most = A.most;
    sixteen = R.sixteen;
    empty = R.empty;
  }

  pub put-args : (o : List ℕ) → length o ≡ 16 → PutArgs b (length es) o
  put-args o f = record { few = omega (arith, A.few); room = A.room; sixteen = f }

  module _ (x : Carried) (o : List ℕ) (P : RowCounted X vs es b v x o) where
    pub row-sixteen : x.ok ≡ true → length o ≡ 16
    unfolding row_on
    row-sixteen f = ap length (P.row f) ∙ length-tabulate 16 _

    pub next-done : x.ok ≡ true → (m : List ℕ) → RowPut b (length es) o m
        → NextCounted X vs es b v (record { ok = true; links = x.links }) m
    next-done f m R = record {
      ok = sym f ∙ P.ok;
      links = λ _. P.links f;
      few = λ _. P.few f;
      same = R.same;
      rows = λ _. put-rows b (length es) o m R A.room (row-sixteen f)
          ∙ ap (λ (l : List ℕ). before es b ++ l) (P.row f);
    }
