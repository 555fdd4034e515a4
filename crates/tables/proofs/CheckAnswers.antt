-- The answers of a full check, of rule tables or of branch tables.
--     check-refused, check-matches          the promise from a refusal, and from yes or no
--     begins-room                            a buffer that begins with a table has room for it
--     same-begins, begins-same               the test for both tables, by the lists
--     done-yes, yes-done, done-no, no-done   what a full check's yes and no mean, by the lists
use Prim.Native.Nat.{ℕ, zero, suc, ◌≤◌}
use mathlib.Core.Path.{◌≡◌, refl, sym, ap, ◌∙◌}
use mathlib.Core.Bool.{Bool, true, false}
use mathlib.Core.List.{List}
use native.Mathlib.Omega.{arith}
use lib.ListN.{length, take, length-take}
use Rattle.list_laws.specs.Tests.{same_list}
use Rattle.list_laws.proofs.BoolLaws.{true-false, and_both, and_left, and_right}
use Rattle.list_laws.proofs.TestLaws.{same_list-is, same_list-true}
use Rattle.std.specs.Prelude.{Result, Ok, Err, IsErrAnd}
use Rattle.formats.specs.declared.refusals.Refusal.{Refusal}
use Rattle.formats.specs.Refusals.{refusal_number, told, told_as}
use Rattle.formats.proofs.RefusalLaws.{told-number, told-refused, told-answered, value-told, told-value}
use Rattle.tables.specs.Answers.{same_tables, CheckDone}

module _ (n : ℕ) (links states node_table state_table : List ℕ) where
  -- the promise from its first part
  check_done : (a : Result Bool Refusal) → told a ≡ told_as n (same_tables links states node_table state_table)
      → CheckDone n links states node_table state_table a
  check_done a e = record { result = e; number = told-number a n _ e }

  -- a is what `?` hands on of a check's refusal r
  pub check-refused : (r : Refusal) (a : Result Bool Refusal) → IsErrAnd a (λ e. e ≡ r) → refusal_number r ≡ n
      → CheckDone n links states node_table state_table a
  check-refused r (Ok b) h e = absurd h
  check-refused r (Err x) h e = check_done (Err x) (told-refused x n _ (ap refusal_number h ∙ e))

  pub check-matches : (same : Bool) → n ≡ 0 → same ≡ same_tables links states node_table state_table
      → CheckDone n links states node_table state_table (Ok same)
  check-matches same pass e = check_done (Ok same) (rw e (told-answered n _ pass))

pub begins-room : (n : ℕ) (b l : List ℕ) → take n b ≡ l → length l ≡ n → n ≤ length b
begins-room n b l e z = omega (arith, simp length-take at (ap length e))

-- ---- yes and no, by the lists

-- both buffers begin with their tables
abbrev pub Begins : List ℕ → List ℕ → List ℕ → List ℕ → Type 0
Begins links states node_table state_table = (take (length links) node_table ≡ links) × (take (length states) state_table ≡ states)

module _ (links states node_table state_table : List ℕ) where
  one : Bool
  one = same_list (take (length links) node_table) links

  two : Bool
  two = same_list (take (length states) state_table) states

  pub same-begins : same_tables links states node_table state_table ≡ true → Begins links states node_table state_table
  unfolding same_tables one two
  same-begins e = (
    same_list-true (take (length links) node_table) links (and_left one two e),
    same_list-true (take (length states) state_table) states (and_right one two e),
  )

  pub begins-same : Begins links states node_table state_table → same_tables links states node_table state_table ≡ true
  unfolding same_tables one two
  begins-same b =
      and_both one two (same_list-is (take (length links) node_table) links b.0)
      (same_list-is (take (length states) state_table) states b.1)

module _ (n : ℕ) (links states node_table state_table : List ℕ) (answer : Result Bool Refusal)
    (done : CheckDone n links states node_table state_table answer) where
  pub done-yes : answer ≡ Ok true → (n ≡ 0) × Begins links states node_table state_table
  done-yes e =
      let q : (n ≡ 0) × (same_tables links states node_table state_table ≡ true) =
      value-told true n (same_tables links states node_table state_table) (sym (ap told e) ∙ done.result) in
      (q.0, same-begins links states node_table state_table q.1)

  pub yes-done : n ≡ 0 → Begins links states node_table state_table → answer ≡ Ok true
  yes-done pass b = told-value answer n _ done.result pass ∙ ap Ok (begins-same links states node_table state_table b)

  pub done-no : answer ≡ Ok false → (n ≡ 0) × (Begins links states node_table state_table → ⊥)
  done-no e =
      let q : (n ≡ 0) × (same_tables links states node_table state_table ≡ false) =
      value-told false n (same_tables links states node_table state_table) (sym (ap told e) ∙ done.result) in
      (q.0, λ b. true-false (sym (begins-same links states node_table state_table b) ∙ q.1))

  pub no-done : n ≡ 0 → (Begins links states node_table state_table → ⊥) → answer ≡ Ok false
  no-done pass not = told-value answer n _ done.result pass ∙ ap Ok (go (same_tables links states node_table state_table) refl)
    where
      go : (same : Bool) → same_tables links states node_table state_table ≡ same → same ≡ false
      go true e = absurd (not (same-begins links states node_table state_table e))
      go false e = refl
