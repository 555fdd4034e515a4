-- `place_of_bit` meets its contract: the table has the place of each of sixteen bits.
use Rattle.colour_tables.proofs.rows.BitLaws.{place_found}
use Rattle.colour_tables.proofs.rows.turns.place_of_bit.Goals as goal

pub returns : goal.returns
returns c =
    λ x h e. place_found x c.args.b h e
