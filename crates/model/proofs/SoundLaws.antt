-- Start's 18.
--     sound-yes, yes-sound, not_sound, sound-is    the test says what the statement says
--     start-18                          Start answers 18 exactly where no check before it fails and the inputs are not sound
use Prim.Native.Nat.{ℕ, zero, suc}
use mathlib.Core.Path.{◌≡◌, refl, sym, ap, ap₂, ◌∙◌}
use mathlib.Core.Bool.{Bool, true, false}
use mathlib.Core.List.{List, [], ◌∷◌}
use mathlib.Core.Logic.{◌↔◌}
use native.Mathlib.Omega.{arith}
use lib.ListN.{take}
use Rattle.list_laws.proofs.BoolLaws.{and_both, and_left, and_right, true-false}
use Rattle.list_laws.proofs.TestLaws.{same_list-true, same_list-is}
use Rattle.formats.specs.Checks.{check, first_no, list_checks, node_table_length, state_table_length}
use Rattle.formats.specs.Built.{built_state_table}
use Rattle.formats.specs.Inputs.{Inputs, Sizes, used_state_table, node_table_built, state_table_built, sound}
use Rattle.formats.proofs.CheckLaws.{first_no-yes, first_no-no, first_no-append-zero, first_no-append-no}
use Rattle.formats.proofs.InputsLaws.{node-table-built, built-node-table}
use Rattle.formats.specs.Passing.{Built}
use Rattle.model.specs.Calls.{start, refused, is_refused}
use Rattle.model.specs.Refusals.{checks_before18, refusal}
use Rattle.model.specs.Sound.{Sound}
use Rattle.model.specs.Model.{Record, stage_of, proceeds, unless, act}
use Rattle.model.proofs.ModelLaws.{before-numbered}

module _ (z : Sizes) (x : Inputs) where
  pub sound-yes : sound z x ≡ true → Sound z x
  unfolding sound state_table_built
  sound-yes e =
      let B : Built z x = node-table-built z x (and_left (node_table_built z x) (state_table_built z x) e) in
      let states : used_state_table z x ≡ built_state_table x.plan x.rules =
      same_list-true (used_state_table z x) (built_state_table x.plan x.rules)
      (and_right (node_table_built z x) (state_table_built z x) e) in
      record {
        as_built = record {
          accepted = B.passed;
          links = ap (λ (n : ℕ). take (node_table_length n) x.node_table) B.n_is ∙ B.node_table;
          states = ap₂ (λ (n s : ℕ). take (state_table_length n s) x.state_table) B.n_is B.s_is ∙ states;
        };
        n_is = B.n_is;
        s_is = B.s_is;
        k_is = B.k_is;
      }

  pub yes-sound : Sound z x → sound z x ≡ true
  unfolding sound state_table_built
  yes-sound S =
      and_both (node_table_built z x) (state_table_built z x)
      (built-node-table z x (record {
        passed = S.as_built.accepted;
        n_is = S.n_is;
        s_is = S.s_is;
        k_is = S.k_is;
        node_table = ap (λ (n : ℕ). take (node_table_length n) x.node_table) (sym S.n_is) ∙ S.as_built.links;
      }))
      (same_list-is (used_state_table z x) (built_state_table x.plan x.rules)
      (ap₂ (λ (n s : ℕ). take (state_table_length n s) x.state_table) (sym S.n_is) (sym S.s_is) ∙ S.as_built.states))

  pub not_sound : (Sound z x → ⊥) → sound z x ≡ false
  not_sound n = go (sound z x) refl
    where
      go : (b : Bool) → sound z x ≡ b → b ≡ false
      go true e = absurd (n (sound-yes e))
      go false e = refl

  pub sound-is : (sound z x ≡ true) ↔ Sound z x
  sound-is = (sound-yes, yes-sound)

-- ---- Start

-- 18 is none of the numbers of the checks before it
before-numbers : (a b c d e : Bool)
    → first_no (check 1 a ∷ check 17 b ∷ check 12 c ∷ check 13 d ∷ check 14 e ∷ []) ≡ 18 → ⊥
unfolding first_no
before-numbers false b c d e i = omega (arith, i)
before-numbers true false c d e i = omega (arith, i)
before-numbers true true false d e i = omega (arith, i)
before-numbers true true true false e i = omega (arith, i)
before-numbers true true true true false i = omega (arith, i)
before-numbers true true true true true i = omega (arith, i)

module _ (r : Record) (x : Inputs) (vs bs : List ℕ) where
  before-not-18 : first_no (checks_before18 (stage_of r) x vs bs) ≡ 18 → ⊥
  unfolding list_checks
  before-not-18 i = before-numbers _ _ _ _ _ i

  past : first_no (checks_before18 (stage_of r) x vs bs) ≡ 0
      → refusal (stage_of r) (start x vs bs) ≡ first_no (check 18 (sound r.sizes x) ∷ [])
  unfolding refusal
  past e =
      first_no-append-zero (checks_before18 (stage_of r) x vs bs) (check 18 (sound r.sizes x) ∷ [])
      (before-numbered (stage_of r) x vs bs) e

  -- the refusal, by the number m of the first check before 18 that fails
  refusal-by : (m : ℕ) → first_no (checks_before18 (stage_of r) x vs bs) ≡ m → (b : Bool) → sound r.sizes x ≡ b
      → refusal (stage_of r) (start x vs bs) ≡ 18 → (m ≡ 0) × (b ≡ false)
  unfolding refusal first_no
  refusal-by zero e true f i =
      let n : refusal (stage_of r) (start x vs bs) ≡ 0 = past e ∙ first_no-yes 18 (sound r.sizes x) [] f in
      absurd (omega (arith, n, i))
  refusal-by zero e false f i = (refl, refl)
  refusal-by (suc m) e b f i =
      absurd (before-not-18 (sym (first_no-append-no (checks_before18 (stage_of r) x vs bs) (check 18 (sound r.sizes x) ∷ [])
      (λ z. omega (arith, e, z))) ∙ i))

  refused-by : (act r (start x vs bs)).answer ≡ refused 18 → refusal (stage_of r) (start x vs bs) ≡ 18
  unfolding act unless proceeds
  refused-by = go (refusal (stage_of r) (start x vs bs))
    where
      go : (n : ℕ) → (unless n r (start x vs bs)).answer ≡ refused 18 → n ≡ 18
      go zero e = absurd (true-false (sym (ap is_refused e)))
      go (suc n) e = let z : suc n ≡ 18 = cc in z

  unsound-refused : first_no (checks_before18 (stage_of r) x vs bs) ≡ 0 → sound r.sizes x ≡ false
      → (act r (start x vs bs)).answer ≡ refused 18
  unfolding act unless refusal first_no
  unsound-refused e f =
      ap (λ (n : ℕ). (unless n r (start x vs bs)).answer) (past e ∙ first_no-no 18 (sound r.sizes x) [] f)

  -- "give 18 at its old place exactly when the tables aren't what the build writes from that plan and those rules, or when these no
  -- longer pass 2 to 10 or name another N, S or K than the record"
  pub start-18 : ((act r (start x vs bs)).answer ≡ refused 18)
      ↔ ((first_no (checks_before18 (stage_of r) x vs bs) ≡ 0) × (Sound r.sizes x → ⊥))
  start-18 = (
    λ e.
        let i = refusal-by (first_no (checks_before18 (stage_of r) x vs bs)) refl (sound r.sizes x) refl (refused-by e) in
        (i.0, λ S. true-false (sym (yes-sound r.sizes x S) ∙ i.1)),
    λ h. unsound-refused h.0 (not_sound r.sizes x h.1),
  )
