-- Structs and records: the one from the other, and back.
--     Tails s              the counts are within the arrays, the arrays are zero from there on, and so is an answer that is not there
--     struct-of-record     the struct of the record of a struct with such arrays is that struct
--     Listed r             lists that fit the arrays
--     record-of-struct     the record of the struct of a record with such lists is that record
--     struct-shaped        and that struct has the layout's lengths
use Prim.Native.Nat.{◌≤◌}
use mathlib.Core.Path.{◌≡◌, refl}
use mathlib.Core.Bool.{true}
use native.Mathlib.Omega.{arith}
use lib.ListN.{length, take}
use lib.Seq.{length-take-le}
use Rattle.model.specs.Calls as calls
use Rattle.model.specs.Model.{Record}
use Rattle.session.specs.declared.state.Phase.{Phase}
use Rattle.session.specs.declared.state.Phase.TheVariants.{Empty, Loaded, Running, Answered}
use Rattle.session.specs.declared.state.Session.{Session}
use Rattle.session.specs.Records.{phase_of, phase_to, record_of, session_of, last_in, last_to, zero_from}
use Rattle.session.specs.inner.Shapes.{Shaped}
use Rattle.session.proofs.PadLaws.{length-padded, take-padded, take-padded-by, padded-take}
use Rattle.session.proofs.LastLaws.{last-in-to}

pub phase-to-of : (p : Phase) → phase_to (phase_of p) ≡ p
unfolding phase_to phase_of
phase-to-of Empty = refl
phase-to-of Loaded = refl
phase-to-of Running = refl
phase-to-of Answered = refl

pub phase-of-to : (p : calls.Phase) → phase_of (phase_to p) ≡ p
unfolding phase_to phase_of
phase-of-to calls.Phase.empty = refl
phase-of-to calls.Phase.loaded = refl
phase-of-to calls.Phase.running = refl
phase-of-to calls.Phase.answered = refl

pub record Tails (s : Session) : Type 0 where
  pub few : s.head.m ≤ 64
  pub few_parts : s.head.parts ≤ 254
  pub few_handled : s.head.handled ≤ 254
  pub nodes-end : zero_from s.head.m s.nodes ≡ true
  pub labels-end : zero_from s.head.m s.labels ≡ true
  pub roots-end : zero_from s.head.parts s.roots ≡ true
  pub states-end : zero_from s.head.handled s.states ≡ true
  pub last_end : last_to (last_in s.head.last) ≡ s.head.last

pub struct-of-record : (s : Session) → Shaped s → Tails s → session_of (record_of s) ≡ s
unfolding session_of record_of
struct-of-record s h t =
    let a : length (take s.head.m s.nodes) ≡ s.head.m = length-take-le s.head.m s.nodes (omega arith) in
    let b : length (take s.head.m s.labels) ≡ s.head.m = length-take-le s.head.m s.labels (omega arith) in
    let c : length (take s.head.parts s.roots) ≡ s.head.parts = length-take-le s.head.parts s.roots (omega arith) in
    let d : length (take s.head.handled s.states) ≡ s.head.handled = length-take-le s.head.handled s.states (omega arith) in
    rw (
      phase-to-of s.head.phase,
      a,
      b,
      c,
      d,
      padded-take 64 s.head.m s.nodes h.nodes t.nodes-end,
      padded-take 64 s.head.m s.labels h.labels t.labels-end,
      padded-take 254 s.head.parts s.roots h.roots t.roots-end,
      padded-take 254 s.head.handled s.states h.states t.states-end,
      t.last_end,
    )

pub record Listed (r : Record) : Type 0 where
  pub few : length r.nodes ≤ 64
  pub same : length r.labels ≡ length r.nodes
  pub few_parts : length r.roots ≤ 254
  pub few_handled : length r.states ≤ 254

module _ (r : Record) (L : Listed r) where
  pub record-of-struct : record_of (session_of r) ≡ r
  unfolding session_of record_of
  record-of-struct =
      rw (
        phase-of-to r.phase,
        take-padded 64 r.nodes,
        take-padded-by 64 r.labels (length r.nodes) L.same,
        take-padded 254 r.roots,
        take-padded 254 r.states,
        last-in-to r.last,
      )

  pub struct-shaped : Shaped (session_of r)
  unfolding session_of
  struct-shaped = record {
    nodes = length-padded 64 r.nodes L.few;
    labels = length-padded 64 r.labels (omega (arith, L.same, L.few));
    roots = length-padded 254 r.roots L.few_parts;
    states = length-padded 254 r.states L.few_handled;
  }
