-- Branch questions by colours as C and Rust call them (document 02, S-14), from the promises of the exported functions.
--     branch-build-writes    what a build that answers 0 leaves is the definition's, number for number and byte for
--                            byte, and behind it what was there
--     branch-build-coloured  so the buffers are as built, with any excess
--     branch-build-refused   a build that answers another number leaves both as they were
--     branch-descent-answers on tables as built: the word automaton's state and mark, for either reading; the drops
--                            are the places on the path where the colour falls, at most S - 1, the links at most 45
--                            for each
--     branch-descent-apart   16 where the lower node is not at or below the upper
--     branch-descent-usable, branch-descent-built  18 never comes where the numbers are as built, the states below S
--                            and state 0 in each copy; so on tables as built, for any two node numbers
--     branch-descent-kept    refused: the outputs are unchanged
use Prim.Native.Nat.{ℕ, ◌<◌}
use mathlib.Core.Path.{◌≡◌, refl, sym, ap, ◌∙◌}
use mathlib.Core.List.{List, ◌++◌}
use lib.ListN.{length, drop}
use Rattle.std.specs.Prelude.{Result, Ok, Err}
use Rattle.std.proofs.Math.Option.{none}
use Rattle.trees.specs.Numbering.{AtOrBelow}
use Rattle.formats.specs.Plan.{node_count, plan_tree}
use Rattle.formats.specs.Rules.{branch_automaton}
use Rattle.formats.specs.Checks.{first_no}
use Rattle.formats.specs.Refusals.{answer_number, told}
use Rattle.formats.specs.declared.refusals.Refusal.{Refusal}
use Rattle.branches.specs.declared.answers.Reading.{Reading}
use Rattle.colours.specs.Descents.{drops, links}
use Rattle.colour_tables.specs.branch.Build.{branch_colour_checks, built_colour_numbers, built_copies, BranchColoured}
use Rattle.colour_tables.proofs.branch.BuildLaws.{built-coloured}
use Rattle.colour_questions.specs.declared.branch.answers.ColourAsked.{ColourAsked}
use Rattle.colour_questions.specs.branch.Promise.{BranchColoursBuilt, BranchColoursUsable, DescentAnswer}
use Rattle.colour_questions.proofs.branch.AskBuilt.{built-usable}
use Rattle.capi.specs.numbers.Numbers.{bit_of, BuildExported}
use Rattle.capi.proofs.numbers.BuildExportedLaws.{exported-number, exported-lists, exported-kept}
use Rattle.capi_colours.specs.branch_calls.DescentExported.{end_of, accepted_of, drops_of, links_of, DescentExported, WordAnswered}

-- ---- the build

module _ (p r numbers bytes : List ℕ) (n : ℕ) (numbers' bytes' : List ℕ)
    (E : BuildExported (first_no (branch_colour_checks p r (length numbers) (length bytes))) (built_colour_numbers p r)
    (built_copies p r) numbers bytes n numbers' bytes') where
  pub branch-build-number : n ≡ first_no (branch_colour_checks p r (length numbers) (length bytes))
  branch-build-number = exported-number _ (built_colour_numbers p r) (built_copies p r) numbers bytes n numbers' bytes' E

  pub branch-build-writes : n ≡ 0
      → (numbers' ≡ built_colour_numbers p r ++ drop (length (built_colour_numbers p r)) numbers)
      × (bytes' ≡ built_copies p r ++ drop (length (built_copies p r)) bytes)
  branch-build-writes = exported-lists _ (built_colour_numbers p r) (built_copies p r) numbers bytes n numbers' bytes' E

  pub branch-build-coloured : n ≡ 0 → BranchColoured p r numbers' bytes'
  branch-build-coloured e =
      built-coloured p r numbers bytes numbers' bytes' E.answer E.done (sym E.result ∙ e)

  pub branch-build-refused : (n ≡ 0 → ⊥) → (numbers' ≡ numbers) × (bytes' ≡ bytes)
  branch-build-refused = exported-kept _ (built_colour_numbers p r) (built_copies p r) numbers bytes n numbers' bytes' E

-- ---- the questions

told-16 : (a : Result ColourAsked Refusal) → told a ≡ (16, none) → answer_number a ≡ 16
told-16 (Ok x) e = ap (λ t. t.0) e
told-16 (Err r) e = ap (λ t. t.0) e

module _ (reading : Reading) (p r node_table numbers bytes : List ℕ)
    (u l n state₀ yes₀ drops₀ links₀ state₁ yes₁ drops₁ links₁ : ℕ)
    (E : DescentExported reading p r node_table numbers bytes u l n state₀ yes₀ drops₀ links₀ state₁ yes₁ drops₁
    links₁) where
  module _ (D : BranchColoursBuilt p r node_table numbers bytes) (hu : u < node_count p) (hl : l < node_count p) where
    pub branch-descent-answers : AtOrBelow (plan_tree p) u l → WordAnswered reading p r u l n state₁ yes₁ drops₁ links₁
    branch-descent-answers A =
        let W : DescentAnswer reading p r u l E.answer = E.done.built D hu hl A in
        let i = W.is in
        let s = E.number.state_answer ∙ ap (λ (x : Result ColourAsked Refusal). end_of x state₀) i in
        let d : drops₁ ≡ drops W.way = E.number.drops_answer ∙ ap (λ (x : Result ColourAsked Refusal). drops_of x drops₀) i in
        let k : links₁ ≡ links W.way = E.number.links_answer ∙ ap (λ (x : Result ColourAsked Refusal). links_of x links₀) i in
        record {
          accepted = E.number.result ∙ ap answer_number i;
          state = s;
          yes = E.number.yes_answer ∙ ap (λ (x : Result ColourAsked Refusal). accepted_of x yes₀) i
              ∙ ap (λ (q : ℕ). bit_of ((branch_automaton r).accepting q)) (sym s);
          drops_are = d ∙ W.drops_are;
          way = W.way;
          found = W.found;
          links_are = k;
          falls = rw d W.falls;
          few = rw (d, k) W.few;
        }

    pub branch-descent-apart : (AtOrBelow (plan_tree p) u l → ⊥) → n ≡ 16
    branch-descent-apart h = E.number.result ∙ told-16 E.answer (E.done.apart D hu hl h)

  pub branch-descent-usable : BranchColoursUsable p r node_table numbers bytes → n ≡ 18 → ⊥
  branch-descent-usable U e = E.done.usable U (sym E.number.result ∙ e)

  pub branch-descent-built : BranchColoursBuilt p r node_table numbers bytes → n ≡ 18 → ⊥
  branch-descent-built D e = branch-descent-usable (built-usable p r node_table numbers bytes D) e

  pub branch-descent-kept : (n ≡ 0 → ⊥)
      → (state₁ ≡ state₀) × (yes₁ ≡ yes₀) × (drops₁ ≡ drops₀) × (links₁ ≡ links₀)
  branch-descent-kept h =
      let N = E.number in
      let w = not-answered E.answer (λ e. h (N.result ∙ e)) in
      (N.state_answer ∙ w.0, N.yes_answer ∙ w.1, N.drops_answer ∙ w.2, N.links_answer ∙ w.3)
    where
      not-answered : (a : Result ColourAsked Refusal) → (answer_number a ≡ 0 → ⊥)
          → (end_of a state₀ ≡ state₀) × (accepted_of a yes₀ ≡ yes₀) × (drops_of a drops₀ ≡ drops₀)
          × (links_of a links₀ ≡ links₀)
      not-answered (Ok x) z = absurd (z refl)
      not-answered (Err r) z = (refl, refl, refl, refl)
