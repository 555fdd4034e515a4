-- Histories of calls.
--
-- History Step r cs xs == records and answers linked by the calls' contracts, from record r on: the calls cs with the answers xs
--
-- The contracts come in as `Step`, over any calls and answers.
use Rattle.std.specs.Prelude.{List, [], ◌∷◌}

-- "Only the record passes from call to call, and nobody else writes it."
pub data History {Record Call Answer : Type 0} (Step : Record → Call → Answer → Record → Type 0) : Record
    → List Call → List Answer → Type 0 where
  done : {r : Record} → History Step r [] []
  call : {r r' : Record} {c : Call} {a : Answer} {cs : List Call} {xs : List Answer}
      → Step r c a r' → History Step r' cs xs → History Step r (c ∷ cs) (a ∷ xs)
