-- The build of the tables of colours for a rule table as C and Rust call it (document 02, S-14), from the promise of
-- the exported function.
--     rule-build-number      the first check that fails: 2 to 9, 27, 10, 11
--     rule-build-writes      what a build that answers 0 leaves is the definition's, number for number and byte for
--                            byte, and behind it what was there
--     rule-build-coloured    so the buffers are as built, with any excess
--     rule-build-refused     a build that answers another number leaves both as they were
use Prim.Native.Nat.{ℕ}
use mathlib.Core.Path.{◌≡◌, sym, ◌∙◌}
use mathlib.Core.List.{List, ◌++◌}
use lib.ListN.{length, drop}
use Rattle.formats.specs.Checks.{first_no}
use Rattle.colour_tables.specs.rule.Build.{rule_colour_checks, built_set_numbers, built_set_bytes, RuleColoured}
use Rattle.colour_tables.proofs.rule.BuildLaws.{built-coloured}
use Rattle.capi.specs.numbers.Numbers.{BuildExported}
use Rattle.capi.proofs.numbers.BuildExportedLaws.{exported-number, exported-lists, exported-kept}

module _ (p r numbers bytes : List ℕ) (n : ℕ) (numbers' bytes' : List ℕ)
    (E : BuildExported (first_no (rule_colour_checks p r (length numbers) (length bytes))) (built_set_numbers p r)
    (built_set_bytes p r) numbers bytes n numbers' bytes') where
  pub rule-build-number : n ≡ first_no (rule_colour_checks p r (length numbers) (length bytes))
  rule-build-number = exported-number _ (built_set_numbers p r) (built_set_bytes p r) numbers bytes n numbers' bytes' E

  pub rule-build-writes : n ≡ 0
      → (numbers' ≡ built_set_numbers p r ++ drop (length (built_set_numbers p r)) numbers)
      × (bytes' ≡ built_set_bytes p r ++ drop (length (built_set_bytes p r)) bytes)
  rule-build-writes = exported-lists _ (built_set_numbers p r) (built_set_bytes p r) numbers bytes n numbers' bytes' E

  pub rule-build-coloured : n ≡ 0 → RuleColoured p r numbers' bytes'
  rule-build-coloured e =
      built-coloured p r numbers bytes numbers' bytes' E.answer E.done (sym E.result ∙ e)

  pub rule-build-refused : (n ≡ 0 → ⊥) → (numbers' ≡ numbers) × (bytes' ≡ bytes)
  rule-build-refused = exported-kept _ (built_set_numbers p r) (built_set_bytes p r) numbers bytes n numbers' bytes' E
