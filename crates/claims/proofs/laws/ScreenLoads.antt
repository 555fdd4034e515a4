-- "Load is refused while any screen runs and clears them all", of every run of eight structs.
--     structs-wait      a screen runs, or its struct is no record: 1, and nothing is altered
--     structs-clear     an accepted Load answers 0, and each of the eight is as after a first Load of that plan
use Prim.Native.Nat.{ℕ, zero, suc, ◌<◌}
use mathlib.Core.Path.{◌≡◌, sym, ap, ◌∙◌}
use mathlib.Core.Bool.{Bool, true, false, cond}
use mathlib.Core.List.{List}
use lib.Dec.{eqb}
use lib.ListN.{length, replicate}
use Rattle.list_laws.proofs.BoolLaws.{true-false}
use Rattle.formats.specs.Checks.{first_no}
use Rattle.formats.specs.Inputs.{Inputs, sizes_in}
use Rattle.model.specs.Calls.{refused}
use Rattle.model.specs.Model.{loaded_record}
use Rattle.session.specs.declared.state.Session.{Session}
use Rattle.session.specs.Records.{session_of}
use Rattle.screens.specs.ScreenCalls.{load_all, ScreenAnswer, one, loads, answer_in, refuses, load_all_checks, load_target}
use Rattle.screens.specs.ScreenCalls.{target}
use Rattle.screens.specs.in_place.OnStructs.{busy, target_in, answer_of, structs_of, answer_all, structs_all, ScreenDone}
use Rattle.screens.proofs.TargetLaws.{any-yes}
use Rattle.screens.proofs.in_place.LoadAllLaws.{load-busy}

module _ (ss ss' : List Session) (x : Inputs) (a : ScreenAnswer) (D : ScreenDone ss (load_all x) a ss') where
  pub structs-wait : (i : ℕ) → length ss ≡ 8 → i < 8 → busy ss i ≡ true → (a ≡ one (refused 1)) × (ss' ≡ ss)
  structs-wait i l h e =
      let W = load-busy ss x l (any-yes 8 (busy ss) i h e) in
      (D.tells ∙ sym W.call.tells, D.leaves ∙ sym W.call.leaves)

  pub structs-clear : refuses a ≡ false
      → (a ≡ loads 0) × (ss' ≡ replicate 8 (session_of (loaded_record (sizes_in x))))
  unfolding target_in target answer_all structs_all load_target answer_of structs_of answer_in
  structs-clear z = go (eqb (length ss) 8) (first_no (load_all_checks (busy ss) x)) D.tells D.leaves
    where
      go : (t : Bool) (n : ℕ) → a ≡ cond t (answer_of ss (load_target n x)) (one (refused 25))
          → ss' ≡ cond t (structs_of ss (load_target n x)) ss
          → (a ≡ loads 0) × (ss' ≡ replicate 8 (session_of (loaded_record (sizes_in x))))
      go true zero e f = (e, f)
      go true (suc n) e f = absurd (true-false (sym (ap refuses e) ∙ z))
      go false n e f = absurd (true-false (sym (ap refuses e) ∙ z))
