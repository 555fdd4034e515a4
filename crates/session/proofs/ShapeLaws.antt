-- A struct of the code has the layout's lengths.
use denote.Laws.{Is}
use denote.Struct.Laws as S
use borrow.Author.Rules.{rules}
use Rattle.session.specs.declared.state.Session.{Session}
use Rattle.session.specs.inner.Shapes.{Shaped}
use Rattle.session.specs.contracts.state.Session as T
use Rattle.session.proofs.state.Session.TheLaws as T'

pub shaped : (s : Session) → Is T.the_row s (S.vals T.the_type T'.the_laws s) → Shaped s
shaped s g = record { nodes = search rules; labels = search rules; roots = search rules; states = search rules }
