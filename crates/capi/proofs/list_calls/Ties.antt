-- What the contract of the exported call claims, as the prover itself reads it off the source (`Reads.Post`), is what
-- the laws below take.
--     lay-tied           the contract is LayExported
--     told-lists         an accepted call hands back the laid list: the first `count` nodes and labels
--     refused-keeps      a refused one leaves both buffers and the count unchanged
--     told-associative   "laying over is associative", of what four accepted calls hand back
use Prim.Native.Nat.{ℕ}
use mathlib.Core.Path.{◌≡◌, refl, sym, ap, ap₂, ◌∙◌}
use mathlib.Core.List.{List}
use lib.ListN.{length, take, drop}
use lib.Seq.{take_at}
use contract.Lifetimes.{Lfts}
use borrow.Fn.World.{ArgsD, ResD}
use borrow.Fn.Kinds.{ended_of}
use denote.Triple.Clauses.{AtExit}
use Rattle.changes.specs.Entries.{nodes_listed, labels_listed}
use Rattle.changes.specs.LayOver.{laid}
use Rattle.changes.proofs.EntryLaws.{length-nodes, length-labels}
use Rattle.changes.proofs.Theorems.{one-result}
use Rattle.capi.specs.list_calls.ListsExported.{LayExported}
use Rattle.capi.specs.contracts.list_calls.whatif_lay_over as lay-fn
use Rattle.capi.proofs.list_calls.whatif_lay_over.Kinds as lay-kinds
use Rattle.capi.proofs.list_calls.whatif_lay_over.Reads as lay-reads

pub lay-tied : (κs : Lfts 7) (a : ArgsD lay-fn.signature κs) (r : ResD lay-fn.signature κs)
    (s : AtExit (ended_of 7 lay-kinds.ps lay-kinds.r) κs) → lay-reads.Post κs a r s
    → LayExported a.0.now a.1.0.now a.1.1.0.now a.1.1.1.0.now a.1.1.1.1.0.now
    a.1.1.1.1.1.0.now a.1.1.1.1.1.1.0.now r s.1.1.1.1.0.now s.1.1.1.1.1.0.now
    s.1.1.1.1.1.1.0.now
lay-tied κs a r s p = p

module _ (lvs lbs uvs ubs nodes labels : List ℕ) (count r : ℕ) (nodes' labels' : List ℕ) (count' : ℕ)
    (E : LayExported lvs lbs uvs ubs nodes labels count r nodes' labels' count') where
  pub told-lists : r ≡ 0
      → (take count' nodes' ≡ nodes_listed (laid lvs lbs uvs ubs)) × (take count' labels' ≡ labels_listed (laid lvs lbs uvs ubs))
  told-lists z = (
    ap (take count') (E.nodes_are z)
        ∙ take_at (nodes_listed (laid lvs lbs uvs ubs)) (drop (length (laid lvs lbs uvs ubs)) nodes) count'
        (length-nodes (laid lvs lbs uvs ubs) ∙ sym (E.count_is z)),
    ap (take count') (E.labels_are z)
        ∙ take_at (labels_listed (laid lvs lbs uvs ubs)) (drop (length (laid lvs lbs uvs ubs)) labels) count'
        (length-labels (laid lvs lbs uvs ubs) ∙ sym (E.count_is z)),
  )

  pub refused-keeps : (r ≡ 0 → ⊥) → (nodes' ≡ nodes) × (labels' ≡ labels) × (count' ≡ count)
  refused-keeps z = (E.nodes_kept z, E.labels_kept z, E.count_kept z)

-- the lists a, b and c; b over a is handed back as ab, c over that; c over b is handed back as bc, that over a
module _ (avs abs bvs bbs cvs cbs : List ℕ)
    (n₁ l₁ n₂ l₂ n₃ l₃ n₄ l₄ : List ℕ) (c₁ c₂ c₃ c₄ : ℕ)
    (n₁' l₁' n₂' l₂' n₃' l₃' n₄' l₄' : List ℕ) (c₁' c₂' c₃' c₄' : ℕ) where
  pub told-associative : LayExported avs abs bvs bbs n₁ l₁ c₁ 0 n₁' l₁' c₁'
      → LayExported (take c₁' n₁') (take c₁' l₁') cvs cbs n₂ l₂ c₂ 0 n₂' l₂' c₂'
      → LayExported bvs bbs cvs cbs n₃ l₃ c₃ 0 n₃' l₃' c₃'
      → LayExported avs abs (take c₃' n₃') (take c₃' l₃') n₄ l₄ c₄ 0 n₄' l₄' c₄'
      → (take c₂' n₂' ≡ take c₄' n₄') × (take c₂' l₂' ≡ take c₄' l₄')
  told-associative A B C D =
      let a = told-lists avs abs bvs bbs n₁ l₁ c₁ 0 n₁' l₁' c₁' A refl in
      let b = told-lists (take c₁' n₁') (take c₁' l₁') cvs cbs n₂ l₂ c₂ 0 n₂' l₂' c₂' B refl in
      let c = told-lists bvs bbs cvs cbs n₃ l₃ c₃ 0 n₃' l₃' c₃' C refl in
      let d = told-lists avs abs (take c₃' n₃') (take c₃' l₃') n₄ l₄ c₄ 0 n₄' l₄' c₄' D refl in
      let e : laid (take c₁' n₁') (take c₁' l₁') cvs cbs ≡ laid avs abs (take c₃' n₃') (take c₃' l₃') =
      ap₂ (λ (x y : List ℕ). laid x y cvs cbs) a.0 a.1
      ∙ one-result avs abs bvs bbs cvs cbs
      ∙ ap₂ (λ (x y : List ℕ). laid avs abs x y) (sym c.0) (sym c.1) in (
        b.0 ∙ ap nodes_listed e ∙ sym d.0,
        b.1 ∙ ap labels_listed e ∙ sym d.1,
      )
