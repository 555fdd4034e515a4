-- The run of eight records, as bytes: 8 x 983, screen i's from byte 983 x i on. A fresh run is all zero.
--
-- run_length == how many bytes it has
-- record_at b i == the bytes of screen i's record; with_record b i r == the run with the record r in its place
-- runs b == which screens run, by their records' states alone (the byte 0 of a record; 2 is running), not the rest
-- busy b == which screens may not be loaded: one that runs, or whose bytes are no record
--
-- "The sessions are handed in as a run of eight records." The record's layout: crate records, Layout.
use Rattle.std.specs.Prelude.{ℕ, ◌*◌, not, ◌||◌, List, ◌++◌, eqb, get_or, take, drop}
use Rattle.screens.specs.ScreenCalls.{Running}
use Rattle.session.specs.declared.state.Phase.TheVariants as phases
use Rattle.records.specs.Layout.{record_length, run, phase_byte, valid_bytes}

abbrev pub run_length : ℕ
run_length = 8 * record_length

abbrev pub record_at : List ℕ → ℕ → List ℕ
record_at b i = run (record_length * i) record_length b

abbrev pub with_record : List ℕ → ℕ → List ℕ → List ℕ
with_record b i r = take (record_length * i) b ++ (r ++ drop record_length (drop (record_length * i) b))

abbrev pub runs : List ℕ → Running
runs b i = eqb (get_or (record_at b i) 0 0) (phase_byte phases.Running)

abbrev pub busy : List ℕ → Running
busy b i = not (valid_bytes (record_at b i)) || runs b i
