-- What the probe of eight screens promises, by the definitions of the screens.
--
-- next_in a k == the screen to try first after a deal from k on that answers a: k again where it is refused
-- dealt_all i x k ss, dealt_next i x k ss == eight records after i deals from k on with the inputs x, and the screen to try
--   first next
-- eight_in x vs bs i j k c s == what the life of eight screens returns, all of them s at first: Start on screens i and j,
--   c deals from k on, Cancel of j, Read of i
use Rattle.std.specs.Prelude.{ℕ, zero, suc, List, replicate}
use Rattle.formats.specs.Inputs.{Inputs}
use Rattle.screens.specs.ScreenCalls.{ScreenAnswer, one, loads, deals, answer_in, start_on, cancel_on, read_on, deal}
use Rattle.screens.specs.in_place.OnStructs.{answer_all, structs_all}
use Rattle.session.specs.declared.state.Session.{Session}
use Rattle.probes.specs.Probed.{parts_in, call_number, read_in}
use Rattle.probes.specs.declared.eight.Eight.{Eight}

unfoldable pub next_in : ScreenAnswer → ℕ → ℕ
next_in (one a) k = k
next_in (loads n) k = k
next_in (deals n a) k = n

unfoldable pub dealt_all : ℕ → Inputs → ℕ → List Session → List Session
dealt_all zero x k ss = ss
dealt_all (suc i) x k ss = dealt_all i x (next_in (answer_all ss (deal k x)) k) (structs_all ss (deal k x))

unfoldable pub dealt_next : ℕ → Inputs → ℕ → List Session → ℕ
dealt_next zero x k ss = k
dealt_next (suc i) x k ss = dealt_next i x (next_in (answer_all ss (deal k x)) k) (structs_all ss (deal k x))

-- the eight after the two Starts, and after the deals
unfoldable pub both_started : Inputs → List ℕ → List ℕ → ℕ → ℕ → List Session → List Session
both_started x vs bs i j ss = structs_all (structs_all ss (start_on i x vs bs)) (start_on j x vs bs)

unfoldable pub parts_on : Inputs → List ℕ → List ℕ → ℕ → List Session → ℕ
parts_on x vs bs i ss = parts_in (answer_in (answer_all ss (start_on i x vs bs)))

unfoldable pub eight_from : Inputs → List ℕ → List ℕ → ℕ → ℕ → ℕ → ℕ → List Session → List Session → Eight
eight_from x vs bs i j k c ss ts = record {
  parts = parts_on x vs bs i ss;
  others = parts_on x vs bs j (structs_all ss (start_on i x vs bs));
  next = dealt_next c x k (both_started x vs bs i j ss);
  cancel = call_number (answer_in (answer_all ts (cancel_on j)));
  read = read_in (answer_in (answer_all (structs_all ts (cancel_on j)) (read_on i)));
}

unfoldable pub eight_in : Inputs → List ℕ → List ℕ → ℕ → ℕ → ℕ → ℕ → Session → Eight
eight_in x vs bs i j k c s =
    eight_from x vs bs i j k c (replicate 8 s) (dealt_all c x k (both_started x vs bs i j (replicate 8 s)))
