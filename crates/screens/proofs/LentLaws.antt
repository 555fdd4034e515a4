-- A reference model that is given what a Load left, and nothing else: its question stays clean, and no advance is
-- refused.
--     Kept x b        its N, S and K are that Load's; a question that runs is clean, and was given what the Load left
--     kept-load, kept-start, kept-advance, kept-cancel, kept_read    the calls keep it
--     advance-taken   while a question runs an advance is accepted
use Prim.Native.Nat.{ℕ, zero, suc}
use mathlib.Core.Path.{◌≡◌, refl, sym, ap, ◌∙◌, subst}
use mathlib.Core.Bool.{Bool, true, false, cond}
use mathlib.Core.List.{List, [], ◌∷◌}
use mathlib.Core.Option.{Option, none, some}
use lib.Dec.{eqb}
use lib.ListN.{length}
use Rattle.list_laws.specs.Tests.{same_list}
use Rattle.list_laws.proofs.BoolLaws.{true-false, and_both}
use Rattle.list_laws.proofs.TestLaws.{same_list-is}
use Rattle.formats.specs.Checks.{check}
use Rattle.formats.specs.Inputs.{Inputs, Sizes, sizes_in, fits, used_state_table, same_node_inputs, same_inputs}
use Rattle.formats.proofs.CheckLaws.{first_no-yes, first_no-none}
use Rattle.formats.proofs.InputLaws.{build-table}
use Rattle.formats.proofs.InputsLaws.{Same, same-node-inputs, node-inputs-same, same-inputs-nodes, same-state-table}
use Rattle.model.specs.Calls.{load, start, advance, cancel, read, Answer, more, finished, is_refused, is_running}
use Rattle.model.specs.Refusals.{refusal}
use Rattle.reference.specs.Reference.{Settlement, clean, by_rule, by_program, Question, State, Reference, Reply, settled}
use Rattle.reference.specs.Reference.{phase, stage_of, in_state}
use Rattle.reference.specs.Reference.{starting, longer, advanced, goes_further, advancing_by_rule, advancing, part_count}
use Rattle.reference.specs.Reference.{finished_with, reading, reading_last, proceed}
use Rattle.reference.specs.Reference.{decided, step}
use Rattle.reference.specs.Demand3.{Conforms, after}
use Rattle.reference.proofs.FinishTheorem.{same-fits}
use Rattle.reference.proofs.WrittenSound.{loaded, passed_fits}
use Rattle.screens.specs.Statements.{left_by}
use Rattle.screens.proofs.SinceLoad.{Passes}

-- what is the same as a third
same-between : (z : Sizes) (l x y : Inputs) → same_inputs z l x ≡ true → same_inputs z l y ≡ true
    → same_inputs z x y ≡ true
unfolding same_inputs
same-between z l x y e f =
    let S : Same z l x = same-node-inputs z l x (same-inputs-nodes z l x e) in
    let T : Same z l y = same-node-inputs z l y (same-inputs-nodes z l y f) in
    and_both (same_node_inputs z x y) (same_list (used_state_table z x) (used_state_table z y))
    (node-inputs-same z x y (record {
      plan = sym S.plan ∙ T.plan;
      rules = sym S.rules ∙ T.rules;
      node_table = sym S.node_table ∙ T.node_table;
    }))
    (same_list-is (used_state_table z x) (used_state_table z y) (sym (same-state-table z l x e) ∙ same-state-table z l y f))

module _ (x : Inputs) where
  abbrev AsLent : Inputs → Type 0
  AsLent y = same_inputs (sizes_in x) (left_by x) y ≡ true

  abbrev KeptIn : State → Type 0
  KeptIn State.empty = Unit {0}
  KeptIn State.loaded = Unit {0}
  KeptIn (State.running q) = (q.settlement ≡ clean) × AsLent q.inputs
  KeptIn State.answered = Unit {0}

  pub record Kept (b : Reference) : Type 0 where
    pub sizes : b.sizes ≡ sizes_in x
    pub holds : KeptIn b.state

  pub lent_fits : Passes x → (y : Inputs) → AsLent y → fits (sizes_in x) y ≡ true
  unfolding loaded
  lent_fits p y e =
      same-fits (sizes_in x) (left_by x) y
      (passed_fits x (build-table x.plan x.rules (length x.node_table) (length x.state_table) p)) e

  -- ---- Load, Start, Cancel, Read

  pub kept-load : (b : Reference) → Conforms (step b (load x)) Answer.accepted
      → Kept (after (step b (load x)) Answer.accepted)
  unfolding step decided proceed
  kept-load b = go (refusal (stage_of b) (load x))
    where
      go : (n : ℕ) → Conforms (decided n b (load x)) Answer.accepted
          → Kept (after (decided n b (load x)) Answer.accepted)
      go zero e = record { sizes = refl; holds = tt }
      go (suc n) e = absurd (true-false (sym (ap is_refused e)))

  module _ (b : Reference) (k : Kept b) (a : Answer) where
    pub kept-start : (y : Inputs) (vs bs : List ℕ) → AsLent y → Kept (after (step b (start y vs bs)) a)
    unfolding step decided proceed starting in_state
    kept-start y vs bs e = go (refusal (stage_of b) (start y vs bs))
      where
        go : (n : ℕ) → Kept (after (decided n b (start y vs bs)) a)
        go zero = record { sizes = k.sizes; holds = (refl, e) }
        go (suc n) = k

    pub kept-cancel : Kept (after (step b cancel) a)
    unfolding step decided proceed in_state
    kept-cancel = go (refusal (stage_of b) cancel)
      where
        go : (n : ℕ) → Kept (after (decided n b cancel) a)
        go zero = record { sizes = k.sizes; holds = tt }
        go (suc n) = k

    pub kept_read : Kept (after (step b read) a)
    unfolding step decided proceed reading_last reading
    kept_read = go (refusal (stage_of b) read)
      where
        reads : (q : Question) (s : Settlement) → Kept (after (reading b q s) a)
        reads q clean = k
        reads q by_rule = k
        reads q by_program = k

        told : (o : Option Question) → Kept (after (reading_last b o) a)
        told none = k
        told (some q) = reads q q.settlement

        go : (n : ℕ) → Kept (after (decided n b read) a)
        go zero = told b.last
        go (suc n) = k

    -- ---- advance

    -- what goes on keeps it, and is no refusal
    goes_kept : (q : Question) → q.settlement ≡ clean → AsLent q.inputs → Kept (after (goes_further b q) a)
    unfolding goes_further in_state finished_with
    goes_kept q e f = go (eqb q.count (part_count q))
      where
        go : (t : Bool) → Kept (after (cond t (settled finished (finished_with b q))
            (settled more (in_state b (State.running q)))) a)
        go true = record { sizes = k.sizes; holds = tt }
        go false = record { sizes = k.sizes; holds = (e, f) }

    goes-taken : (q : Question) → Conforms (goes_further b q) a → is_refused a ≡ false
    unfolding goes_further
    goes-taken q = go (eqb q.count (part_count q))
      where
        go : (t : Bool) → Conforms (cond t (settled finished (finished_with b q))
            (settled more (in_state b (State.running q)))) a
            → is_refused a ≡ false
        go true e = ap is_refused e
        go false e = ap is_refused e

    module _ (y : Inputs) (lent : AsLent y) where
      goes_on : (q : Question) → KeptIn (State.running q)
          → advancing b y q q.settlement ≡ goes_further b (advanced q clean (longer b.sizes q y))
      unfolding advancing
      goes_on q h =
          ap (λ (s : Settlement). advancing b y q s) h.0
          ∙ ap (λ (t : Bool). cond t (goes_further b (advanced q clean (longer b.sizes q y))) (advancing_by_rule b y q))
          (ap (λ (z : Sizes). same_inputs z q.inputs y) k.sizes
          ∙ same-between (sizes_in x) (left_by x) q.inputs y h.1 lent)

      proceed-kept : (s : State) → KeptIn s → Kept (after (proceed b s (advance y)) a)
      unfolding proceed advanced
      proceed-kept State.empty h = k
      proceed-kept State.loaded h = k
      proceed-kept (State.running q) h =
          subst (λ (r : Reply). Kept (after r a)) (sym (goes_on q h))
          (goes_kept (advanced q clean (longer b.sizes q y)) refl h.1)
      proceed-kept State.answered h = k

      pub kept-advance : Kept (after (step b (advance y)) a)
      unfolding step decided
      kept-advance = go (refusal (stage_of b) (advance y))
        where
          go : (n : ℕ) → Kept (after (decided n b (advance y)) a)
          go zero = proceed-kept b.state k.holds
          go (suc n) = k

      proceed-taken : (s : State) → KeptIn s → is_running (phase s) ≡ true → Conforms (proceed b s (advance y)) a
          → is_refused a ≡ false
      unfolding proceed phase is_running
      proceed-taken State.empty h r = absurd (true-false (sym r))
      proceed-taken State.loaded h r = absurd (true-false (sym r))
      proceed-taken (State.running q) h r =
          λ c. goes-taken (advanced q clean (longer b.sizes q y))
          (subst (λ (t : Reply). Conforms t a) (goes_on q h) c)
      proceed-taken State.answered h r = absurd (true-false (sym r))

      pub advance-taken : Passes x → is_running (phase b.state) ≡ true → Conforms (step b (advance y)) a
          → is_refused a ≡ false
      unfolding step decided refusal
      advance-taken p r c =
          let f : fits b.sizes y ≡ true = ap (λ (z : Sizes). fits z y) k.sizes ∙ lent_fits p y lent in
          let n : refusal (stage_of b) (advance y) ≡ 0 =
          first_no-yes 1 (is_running (phase b.state)) (check 17 (fits b.sizes y) ∷ []) r
          ∙ first_no-yes 17 (fits b.sizes y) [] f ∙ first_no-none in
          proceed-taken b.state k.holds r (subst (λ (m : ℕ). Conforms (decided m b (advance y)) a) n c)
