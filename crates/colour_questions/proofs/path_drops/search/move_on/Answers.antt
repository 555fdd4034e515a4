-- `move_on` meets its contract, by the move that `next_move` returns.
use mathlib.Core.Path.{sym, ◌∙◌}
use Rattle.colour_questions.proofs.path_drops.SearchLoop.{gives-jump, gives-parent, gives-stuck}
use Rattle.colour_questions.proofs.path_drops.search.move_on.Goals as goal

pub returns-in-Jump : goal.returns-in-Jump
returns-in-Jump c =
    gives-jump _ _ c.in-Jump.j (sym c.in-Jump.is ∙ c.next_move.ensures)

pub returns-in-Parent : goal.returns-in-Parent
returns-in-Parent c =
    gives-parent _ _ c.in-Parent.p (sym c.in-Parent.is ∙ c.next_move.ensures)

pub returns-in-Stuck : goal.returns-in-Stuck
returns-in-Stuck c =
    gives-stuck _ _ (sym c.in-Stuck.is ∙ c.next_move.ensures)
