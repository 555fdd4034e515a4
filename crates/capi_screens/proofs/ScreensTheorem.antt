-- The exported calls of the screens, on a run of eight records as bytes, refine the model of eight records: what is
-- proved of the screens holds of them, as C decodes the answers.
--     screens-refine     a call on the run is one on the records
--     fresh-run-held     8 x 983 zeros are eight fresh records
--     bytes-hold         all statements about every list of screen calls (crate screens), from 8 x 983 zeros
use Prim.Native.Nat.{ℕ, ◌+◌, ◌*◌, ◌<◌}
use mathlib.Core.Path.{◌≡◌, refl, sym, ◌∙◌, subst}
use mathlib.Core.List.{List}
use native.Mathlib.Omega.{arith}
use lib.ListN.{length, get_or, replicate, length-replicate, get_or-replicate}
use lib.Seq.{ext_get_or}
use Rattle.model.specs.Model.{Record, fresh_record}
use Rattle.model.proofs.Refinement.{Refines}
use Rattle.screens.specs.ScreenCalls.{load_all, start_on, cancel_on, read_on, deal}
use Rattle.screens.specs.EightRecords.{act_all, DoesAll, eight_fresh}
use Rattle.screens.specs.Statements.{Screens}
use Rattle.screens.proofs.Theorems.{screens-hold, screens-hold-of}
use Rattle.records.specs.Layout.{record_length}
use Rattle.capi_session.proofs.ExportedRefines.{Encodes, fresh-held}
use Rattle.capi_screens.specs.RunLayout.{run_length}
use Rattle.capi_screens.specs.DecodedScreens.{ScreensExports, loads_all, starts_on, cancels_on, reads_on}
use Rattle.capi_screens.specs.DecodedScreens.{deals_one, fresh_run}
use Rattle.capi_screens.proofs.PartLaws.{part, part_length, part_at, part-stride}
use Rattle.capi_screens.proofs.EncodedRun.{EncodesAll, told_is, left-held, read_held}
use Rattle.capi_screens.proofs.DecodedLaws.{decoded-load-all, decoded-start-on, decoded-cancel-on}
use Rattle.capi_screens.proofs.DecodedLaws.{decoded-read-on, decoded-deal}

pub screens-refine : Refines ScreensExports DoesAll EncodesAll
screens-refine b b' rs c a Z (loads_all {x} r k₀ k₁ node_table state_table e) = (
  (act_all rs (load_all x)).records',
  record {
    tells = rw (e.call.number, e.next_after, told_is b rs Z (load_all x)) (decoded-load-all rs Z.records k₀ x);
    leaves = refl;
  },
  left-held b rs Z (load_all x) b' r e.call,
)
screens-refine b b' rs c a Z (starts_on {i} {x} {vs} {bs} r p₀ p₁ e) = (
  (act_all rs (start_on i x vs bs)).records',
  record {
    tells = rw (e.call.number, e.parts_after, told_is b rs Z (start_on i x vs bs))
        (decoded-start-on rs Z.records p₀ i x vs bs);
    leaves = refl;
  },
  left-held b rs Z (start_on i x vs bs) b' r e.call,
)
screens-refine b b' rs c a Z (cancels_on {i} r e) = (
  (act_all rs (cancel_on i)).records',
  record { tells = rw (e.number, told_is b rs Z (cancel_on i)) (decoded-cancel-on rs Z.records i); leaves = refl },
  left-held b rs Z (cancel_on i) b' r e,
)
screens-refine b b' rs c a Z (reads_on {i} r before after e) = (
  (act_all rs (read_on i)).records',
  record {
    tells = rw (e.number, e.values_are, told_is b rs Z (read_on i)) (decoded-read-on rs Z.records before i);
    leaves = refl;
  },
  read_held b rs Z i,
)
screens-refine b b' rs c a Z (deals_one {k} {x} r k₀ k₁ f₀ f₁ e) = (
  (act_all rs (deal k x)).records',
  record {
    tells = rw (e.call.number, e.next_after, e.finished_after, told_is b rs Z (deal k x))
        (decoded-deal rs Z.records k₀ f₀ k x);
    leaves = refl;
  },
  left-held b rs Z (deal k x) b' r e.call,
)

-- ---- a fresh run

abbrev zeros : ℕ → List ℕ
zeros n = replicate n 0

part-zeros : (w n i : ℕ) → i < n → part w i (zeros (w * n)) ≡ zeros w
part-zeros w n i h =
    let z : length (zeros (w * n)) ≡ w * n = length-replicate {A = ℕ} (w * n) 0 in
    let l : length (part w i (zeros (w * n))) ≡ w = part_length w n (zeros (w * n)) z i h in
    ext_get_or 0 (part w i (zeros (w * n))) (zeros w) (l ∙ sym (length-replicate {A = ℕ} w 0))
    (λ k m. each k (omega (arith, l)))
  where
    each : (k : ℕ) → k < w → get_or (part w i (zeros (w * n))) k 0 ≡ get_or (zeros w) k 0
    each k m =
        part_at w n (zeros (w * n)) (length-replicate {A = ℕ} (w * n) 0) i k m
        ∙ get_or-replicate {A = ℕ} (w * n) (w * i + k) 0 0 (omega (arith, part-stride w n i h))
        ∙ sym (get_or-replicate {A = ℕ} w k 0 0 m)

pub fresh-run-held : EncodesAll fresh_run eight_fresh
fresh-run-held = record {
  long = length-replicate {A = ℕ} run_length 0;
  records = refl;
  each = λ i h.
      subst (λ (p : List ℕ). Encodes p (get_or eight_fresh i fresh_record)) (sym (part-zeros record_length 8 i h))
      (subst (λ (r : Record). Encodes (zeros record_length) r) (sym (get_or-replicate 8 i fresh_record fresh_record h))
      fresh-held);
}

pub bytes-hold : Screens fresh_run ScreensExports
bytes-hold = screens-hold-of ScreensExports DoesAll EncodesAll screens-refine fresh_run eight_fresh fresh-run-held
    screens-hold
