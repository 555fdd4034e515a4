-- What an exported build that keeps its promise leaves.
--     exported-number   its number is that of the first check that fails
--     exported-lists    accepted: the tables, and behind them what was there
--     exported-kept     refused: both buffers as they were
use Prim.Native.Nat.{ℕ, zero, suc}
use mathlib.Core.Path.{◌≡◌, refl, sym, ◌∙◌}
use mathlib.Core.List.{List, ◌++◌}
use lib.ListN.{length, drop}
use Rattle.tables.specs.Answers.{written}
use Rattle.tables.proofs.BuildLaws.{built-lists}
use Rattle.capi.specs.numbers.Numbers.{BuildExported}

written-kept : (n : ℕ) (table entry : List ℕ) → (n ≡ 0 → ⊥) → written n table entry ≡ entry
unfolding written
written-kept zero table entry h = absurd (h refl)
written-kept (suc n) table entry h = refl

module _ (n : ℕ) (links states node_table state_table : List ℕ) (r : ℕ) (node_table' state_table' : List ℕ)
    (E : BuildExported n links states node_table state_table r node_table' state_table') where
  pub exported-number : r ≡ n
  exported-number = E.result ∙ E.done.number

  pub exported-lists : r ≡ 0
      → (node_table' ≡ links ++ drop (length links) node_table)
      × (state_table' ≡ states ++ drop (length states) state_table)
  exported-lists e =
      let w = built-lists n links states node_table state_table E.answer node_table' state_table' E.done
      (sym E.result ∙ e) in
      (w.1, w.2)

  pub exported-kept : (r ≡ 0 → ⊥) → (node_table' ≡ node_table) × (state_table' ≡ state_table)
  exported-kept h = (
    E.done.node_table_written ∙ written-kept n links node_table (λ z. h (exported-number ∙ z)),
    E.done.state_table_written ∙ written-kept n states state_table (λ z. h (exported-number ∙ z)),
  )
