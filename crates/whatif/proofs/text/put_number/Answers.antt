use Rattle.std.proofs.Common.{ℕ, List, subst, ◌∙◌, arith}
use Rattle.whatif.specs.Text.{Put}
use Rattle.whatif.proofs.TextLaws.{decimal-is}
use Rattle.whatif.proofs.text.put_number.Goals as goal

pub returns-clause-put : goal.returns-clause-put
returns-clause-put c =
    let a = c.args in
    subst (λ (t : List ℕ). Put a.out.now a.at t c.put_word.new.out c.put_word.result)
    (c.as_bytes.ensures.value ∙ (c.format.ensures.text ∙ decimal-is a.n (omega arith))) c.put_word.ensures
