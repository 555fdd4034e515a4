-- The ceiling for each part, of the call that handles it.
--     advance-few    an advance that no check refuses, on usable tables, counts at most three links for each binary
--                    digit of the plan's height
-- It follows from what every form of the call promises: AdvanceProperties (crate model, LeftOpen).
use Prim.Native.Nat.{ℕ, zero, suc, ◌+◌, ◌*◌, ◌≤◌, ◌<◌}
use mathlib.Core.Path.{◌≡◌, refl, sym, ap, ◌∙◌, subst}
use mathlib.Core.Bool.{Bool, true, false, cond}
use mathlib.Core.List.{List, [], ◌∷◌, Memᴰ}
use mathlib.Core.Option.{some}
use native.Mathlib.Omega.{arith}
use lib.Dec.{eqb}
use lib.ListN.{length, get_or}
use Rattle.trees.specs.Tree.{Tree, height}
use Rattle.trees.specs.Climb.{digits}
use Rattle.list_laws.specs.Tests.{holds}
use Rattle.formats.specs.Plan.{plan_tree}
use Rattle.formats.specs.Inputs.{Inputs}
use Rattle.tables.specs.declared.answers.Reached.{Reached}
use Rattle.questions.specs.ready.Members.{roots}
use Rattle.questions.specs.ready.Parts.{Part, part_links}
use Rattle.questions.proofs.ready.PartsRun.{Members}
use Rattle.questions.proofs.ready.ListLaws.{list-members}
use Rattle.model.specs.Calls.{advance, Answer, more, finished, Phase}
use Rattle.model.specs.Refusals.{refusal}
use Rattle.model.specs.Model.{Record, Acted, acted, stage_of, marks_by, stepped, advance_with}
use Rattle.model.specs.LeftOpen.{Usable, rule_gives, AdvanceProperties}
use Rattle.reference.proofs.Ceilings.{part-links}

entry_in : (l : List ℕ) (i : ℕ) → i < length l → Memᴰ (get_or l i 0) l
entry_in [] i h = absurd (omega arith)
entry_in (x ∷ l) zero h = Memᴰ.head refl
entry_in (x ∷ l) (suc i) h = Memᴰ.tail (entry_in l i (omega arith))

-- what an advance counts
counted : (r : Record) (x : Inputs) (y : Reached) → (advance_with r x (some y)).record'.links ≡ r.links + y.links
unfolding advance_with stepped
counted r x y = either (eqb (suc (length r.states)) (length r.roots))
    (acted finished (stepped r Phase.answered y (eqb (get_or (marks_by r.sizes x) y.state 0) 1)))
    (acted more (stepped r Phase.running y false)) refl refl
  where
    either : (b : Bool) (u v : Acted) → u.record'.links ≡ r.links + y.links → v.record'.links ≡ r.links + y.links
        → (cond b u v).record'.links ≡ r.links + y.links
    either true u v e f = e
    either false u v e f = f

-- the links of the part at an index of the ready set
links-at : (t : Tree) (vs ms : List ℕ) (i : ℕ) → ms ≡ roots t vs → i < length ms → part_links t ms (get_or ms i 0) ≤ 3 * digits (height t)
unfolding roots
links-at t vs ms i e h =
    let M : Members (λ v. holds v vs) t ms =
    subst (Members (λ v. holds v vs) t) (sym e) (list-members (λ v. holds v vs) t) in
    part-links (λ v. holds v vs) t ms M (get_or ms i 0) (M.inside (get_or ms i 0) (entry_in ms i h))

-- at most three links for each binary digit of the plan's height, for one part
pub advance-few : (r : Record) (x : Inputs) (a : Answer) (r' : Record) (ps : List Part) → AdvanceProperties r x a r'
    → refusal (stage_of r) (advance x) ≡ 0 → Usable r x ps → r'.links ≤ r.links + 3 * digits (height (plan_tree x.plan))
advance-few r x a r' ps A e U =
    let g : r'.links ≡ r.links + (rule_gives r x ps).links = ap (λ (q : Record). q.links) (A.rule ps e U).1 ∙ counted r x (rule_gives r x ps) in
    omega (arith, g, links-at (plan_tree x.plan) U.left r.roots (length r.states) U.ready U.next)
