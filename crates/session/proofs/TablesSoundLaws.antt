-- Whether tables are sound, by what the code has found.
--     other-n, other-s, other-k    a header that names another N, S or K: not sound
--     checked-yes                  the full check says yes, where the headers name N, S and K: sound
--     checked-no, checked_refused  it says no, or refuses: not sound
use Prim.Native.Nat.{ℕ}
use mathlib.Core.Path.{◌≡◌, sym, ◌∙◌}
use mathlib.Core.Bool.{Bool, true, false}
use mathlib.Core.List.{List}
use native.Mathlib.Omega.{arith}
use lib.ListN.{length}
use Rattle.formats.specs.Plan.{node_count}
use Rattle.formats.specs.Rules.{state_count, label_count}
use Rattle.formats.specs.Checks.{first_no, build_checks}
use Rattle.formats.specs.Built.{built_node_table, built_state_table}
use Rattle.formats.specs.Inputs.{inputs_of, sound}
use Rattle.std.specs.Prelude.{Result, Ok, Err}
use Rattle.formats.specs.declared.refusals.Refusal.{Refusal}
use Rattle.tables.specs.Answers.{CheckDone}
use Rattle.tables.proofs.CheckTheorems.{check-yes, yes-check}
use Rattle.model.specs.Sound.{Sound}
use Rattle.model.proofs.SoundLaws.{yes-sound, not_sound}
use Rattle.session.specs.inner.Shapes.{sizes_by}

module _ (n s k : ℕ) (plan rules node_table state_table : List ℕ) where
  abbrev sound_by : Bool
  sound_by = sound (sizes_by n s k) (inputs_of plan rules node_table state_table)

  unsound : (Sound (sizes_by n s k) (inputs_of plan rules node_table state_table) → ⊥) → false ≡ sound_by
  unsound h = sym (not_sound (sizes_by n s k) (inputs_of plan rules node_table state_table) h)

  pub other-n : (v : ℕ) → v ≡ node_count plan → (v ≡ n → ⊥) → false ≡ sound_by
  other-n v e h = unsound (λ S. h (e ∙ S.n_is))

  pub other-s : (v : ℕ) → v ≡ state_count rules → (v ≡ s → ⊥) → false ≡ sound_by
  other-s v e h = unsound (λ S. h (e ∙ S.s_is))

  pub other-k : (v : ℕ) → v ≡ label_count rules → (v ≡ k → ⊥) → false ≡ sound_by
  other-k v e h = unsound (λ S. h (e ∙ S.k_is))

  module _ (a : Result Bool Refusal)
      (D : CheckDone (first_no (build_checks plan rules (length node_table) (length state_table))) (built_node_table plan)
      (built_state_table plan rules) node_table state_table a) where
    not_yes : (a ≡ Ok true → ⊥) → false ≡ sound_by
    not_yes h = unsound (λ S. h (yes-check plan rules node_table state_table a D S.as_built))

    -- u, v and w are what the headers name
    pub checked-yes : (u v w : ℕ) → u ≡ node_count plan → u ≡ n → v ≡ state_count rules → v ≡ s → w ≡ label_count rules → w ≡ k
        → (b : Bool) → a ≡ Ok b → b ≡ sound_by
    checked-yes u v w f f' g g' h h' true e =
        sym (yes-sound (sizes_by n s k) (inputs_of plan rules node_table state_table)
        (record { as_built = check-yes plan rules node_table state_table a D e; n_is = sym f ∙ f'; s_is = sym g ∙ g'; k_is = sym h ∙ h' }))
    checked-yes u v w f f' g g' h h' false e = not_yes (λ y. let z : ◌≡◌ {A = ℕ} 0 1 = cc in omega arith)

    pub checked_refused : (r : Refusal) → a ≡ Err r → false ≡ sound_by
    checked_refused r e = not_yes (λ y. let z : ◌≡◌ {A = ℕ} 0 1 = cc in omega arith)
