use Rattle.std.proofs.Common.{ℕ, List, [], ◌∷◌, true, false, ◌≡◌, ◌+◌, subst, sym, ap, ◌∙◌}
use lib.Dec.{eqb}
use lib.ListN.{set}
use borrow.Author.Tests.{eq-eqb, ne_eqb}
use Rattle.whatif.specs.Question.{question_length}
use Rattle.whatif.specs.Text.{Put}
use Rattle.whatif.specs.Stream.{line_as_kept, question_line, Advances}
use Rattle.whatif.proofs.StreamLaws.{byte-kept-open, byte-answered}
use Rattle.whatif.proofs.chunk.take_byte.Goals as goal

pub returns-then-more-question_length-clause-advances : goal.returns-then-more-question_length-clause-advances
returns-then-more-question_length-clause-advances c =
    let a = c.args in
    let k = c.keep.ensures in
    let e : eqb (a.have + 1) (question_length (set a.asked.now a.have a.b)) ≡ false =
    ap (λ (l : List ℕ). eqb (a.have + 1) (question_length l)) (sym k)
    ∙ ne_eqb _ _ (λ z. c.if-more-question_length.true (z ∙ sym c.question_length.ensures)) in
    let f = question_line a.plan.now a.rules.now in
    subst (λ (l : List ℕ). Advances f (a.b ∷ []) a.asked.now a.have l (a.have + 1) a.out.now a.end a.out.now a.end)
    (sym k) (byte-kept-open f a.asked.now a.have a.b a.out.now a.end e)

pub returns-clause-advances : goal.returns-clause-advances
returns-clause-advances c =
    let a = c.args in
    let k = c.keep.ensures in
    let p = c.put_answer-next in
    let e : eqb (a.have + 1) (question_length (set a.asked.now a.have a.b)) ≡ true =
    ap (λ (l : List ℕ). eqb (a.have + 1) (question_length l)) (sym k)
    ∙ eq-eqb _ _ (c.if-more-question_length.false ∙ c.question_length.ensures) in
    let f = question_line a.plan.now a.rules.now in
    let t =
    subst (λ (l : List ℕ). Put a.out.now a.end (line_as_kept a.plan.now a.rules.now l) p.new.out p.result) k
    p.ensures.put in
    subst (λ (l : List ℕ). Advances f (a.b ∷ []) a.asked.now a.have l 0 a.out.now a.end p.new.out p.result) (sym k)
    (byte-answered a.plan.now a.rules.now a.asked.now a.have a.b a.out.now a.end _ _ e c.requires.keeps.1.room t)
