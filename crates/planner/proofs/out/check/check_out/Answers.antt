-- Each refusal is that of the first check that fails, and past the checks none does.
use Rattle.std.proofs.Common.{◌≡◌, ◌∙◌, ℕ, ◌+◌, ◌-◌, List, take, drop, Bool, sym, ap, arith}
use Rattle.list_laws.specs.Tests.{all_below}
use Rattle.list_laws.proofs.SliceLaws.{run-part}
use Rattle.planner.specs.Siblings.{empty_label}
use Rattle.planner.specs.File.{file_count, label_run, out_room}
use Rattle.planner.proofs.FileTrees.{well-formed}
use Rattle.planner.proofs.CheckAnswers.{out-19, out-20, out-21, out-good}
use Rattle.planner.proofs.out.check.check_out.Goals as goal

-- what the tests of the file's labels and of the room say, by the count that was read
labels-answer : (b : List ℕ) (n : ℕ) (x : Bool) → n ≡ file_count b
    → x ≡ all_below empty_label (take (12 + n - 12) (drop 12 b))
    → all_below empty_label (label_run b) ≡ x
labels-answer b n x e h =
    sym (h ∙ ap (all_below empty_label) (run-part b 12 n ∙ ap (λ (i : ℕ). take i (drop 12 b)) e))

room-answer : (b : List ℕ) (n plan places : ℕ) (x : Bool) → n ≡ file_count b → x ≡ out_room n plan places
    → out_room (file_count b) plan places ≡ x
room-answer b n plan places x e h = sym (h ∙ ap (λ (i : ℕ). out_room i plan places) e)

pub returns-then-not-well_formed : goal.returns-then-not-well_formed
returns-then-not-well_formed c = sym (out-19 _ _ _ (sym c.well_formed-2.ensures ∙ c.if-not-well_formed.true))

pub read32-n-requires : goal.read32-n-requires
read32-n-requires c =
    omega (arith, (well-formed c.args.file.now (sym c.well_formed-2.ensures ∙ c.if-not-well_formed.false)).long)

pub overflow_add-n : goal.overflow_add-n
overflow_add-n c =
    omega (
      arith,
      (well-formed c.args.file.now (sym c.well_formed-2.ensures ∙ c.if-not-well_formed.false)).exact,
      c.read32-n.ensures,
    )

pub slice_bounds-all_below-end : goal.slice_bounds-all_below-end
slice_bounds-all_below-end c =
    omega (
      arith,
      (well-formed c.args.file.now (sym c.well_formed-2.ensures ∙ c.if-not-well_formed.false)).exact,
      c.read32-n.ensures,
    )

pub returns-then-not-all_below : goal.returns-then-not-all_below
returns-then-not-all_below c =
    sym (out-20 c.args.file.now _ _ (sym c.well_formed-2.ensures ∙ c.if-not-well_formed.false)
    (labels-answer c.args.file.now _ _ c.read32-n.ensures c.all_below.ensures ∙ c.if-not-all_below.true))

pub returns-then-not-room_fits : goal.returns-then-not-room_fits
returns-then-not-room_fits c =
    sym (out-21 c.args.file.now _ _ (sym c.well_formed-2.ensures ∙ c.if-not-well_formed.false)
    (labels-answer c.args.file.now _ _ c.read32-n.ensures c.all_below.ensures ∙ c.if-not-all_below.false)
    (room-answer c.args.file.now _ _ _ _ c.read32-n.ensures c.room_fits.ensures ∙ c.if-not-room_fits.true))

pub returns : goal.returns
returns c =
    sym (out-good c.args.file.now _ _ (sym c.well_formed-2.ensures ∙ c.if-not-well_formed.false)
    (labels-answer c.args.file.now _ _ c.read32-n.ensures c.all_below.ensures ∙ c.if-not-all_below.false)
    (room-answer c.args.file.now _ _ _ _ c.read32-n.ensures c.room_fits.ensures ∙ c.if-not-room_fits.false))
