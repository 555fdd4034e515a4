-- What is true of every record that a session can have, in each state.
--     Sized z              N, S and K in their limits
--     Asked r              a question's lists: as Start checks them, its roots as they are found, the states, links and nodes passed
--                          over so far
--     Holds r              in empty the fresh record, in loaded that after a first Load but for the last finished answer, in running and
--                          answered a question; in answered that answer is its own
--     last_fits            that answer, if there is one, is of some question on S states
--     holds_of             a struct that passes its conditions has such a record
--     tails-of, struct_is  and is the struct of that record
use Prim.Native.Nat.{◌-◌, ◌*◌, ◌≤◌, ◌<◌}
use mathlib.Core.Path.{◌≡◌, refl, sym, subst}
use mathlib.Core.Bool.{true, false}
use mathlib.Core.Option.{some}
use native.Mathlib.Omega.{arith}
use lib.ListN.{length, take}
use lib.Seq.{length-take-le}
use borrow.Author.Tests.{leb-true, ltb-true, eqb-true, not-true}
use Rattle.list_laws.specs.Tests.{all_below}
use Rattle.formats.proofs.PlanLaws.{within_low, within-high}
use Rattle.formats.specs.Inputs.{Sizes}
use Rattle.model.specs.Calls as calls
use Rattle.model.specs.Model.{Record, idle, fresh_record, loaded_record, with_last, outcome_of}
use Rattle.trees.proofs.MoveLaws.{both}
use Rattle.session.specs.declared.state.Phase.{Phase}
use Rattle.session.specs.declared.state.Phase.TheVariants.{Empty, Loaded, Running, Answered}
use Rattle.session.specs.declared.state.Session.{Session}
use Rattle.session.specs.Records.{phase_of, sizes_of, record_of, session_of, zero_from, rises_to}
use Rattle.session.specs.Records.{sizes_fit, no_question, list_fits, parts_fit, question_fits, valid_in, valid}
use Rattle.session.specs.Records.{last_in, last_to, is_none, last_question_fits}
use Rattle.session.specs.inner.Shapes.{Shaped}
use Rattle.session.proofs.LastLaws.{LastFits, OwnAnswer, last_below, none_is, none-back, present-back, last-of, last-back, own_of, own-last}
use Rattle.session.proofs.RecordLaws.{Tails, struct-of-record}

pub record Sized (z : Sizes) : Type 0 where
  pub nodes-least : 1 ≤ z.n
  pub nodes_most : z.n ≤ 65535
  pub states-least : 1 ≤ z.s
  pub states_most : z.s ≤ 16
  pub labels_least : 1 ≤ z.k
  pub labels_most : z.k ≤ 64

pub record Asked (r : Record) : Type 0 where
  pub few : length r.nodes ≤ 64
  pub same : length r.labels ≡ length r.nodes
  pub nodes-below : all_below r.sizes.n r.nodes ≡ true
  pub labels_below : all_below r.sizes.k r.labels ≡ true
  pub some-part : 1 ≤ length r.roots
  pub few_parts : length r.roots ≤ 254
  pub rises : rises_to (r.sizes.n - 1) r.roots ≡ true
  pub states_below : all_below r.sizes.s r.states ≡ true
  pub links_passed : r.links ≤ r.passed
  pub few-passed : r.passed ≤ 65535 * length r.states

pub record Going (r : Record) : Type 0 where
  pub sizes : Sized r.sizes
  pub asked : Asked r
  pub handled : length r.states < length r.roots
  pub no-yes : r.yes ≡ false
  pub last : LastFits r.sizes.s r.last

pub record Ended (r : Record) : Type 0 where
  pub sizes : Sized r.sizes
  pub asked : Asked r
  pub handled : length r.states ≡ length r.roots
  pub own : r.last ≡ some (outcome_of r)

abbrev pub HoldsIn : calls.Phase → Record → Type 0
HoldsIn calls.Phase.empty r = r ≡ fresh_record
HoldsIn calls.Phase.loaded r = Sized r.sizes × LastFits r.sizes.s r.last × (r ≡ with_last r.last (loaded_record r.sizes))
HoldsIn calls.Phase.running r = Going r
HoldsIn calls.Phase.answered r = Ended r

abbrev pub Holds : Record → Type 0
Holds r = HoldsIn r.phase r

-- an answered record's own is of a question on S states
ended-last : (r : Record) → Ended r → LastFits r.sizes.s r.last
ended-last r E =
    subst (LastFits r.sizes.s) (sym E.own)
    (record {
      state = last_below r.sizes.s r.states 0 E.asked.states_below (omega (arith, E.handled, E.asked.some-part));
      some-part = E.asked.some-part;
      few_parts = E.asked.few_parts;
      links_passed = E.asked.links_passed;
      few-passed = omega (arith, E.asked.few-passed, E.handled);
    })

pub last_fits : (p : calls.Phase) (r : Record) → HoldsIn p r → LastFits r.sizes.s r.last
unfolding fresh_record idle
last_fits calls.Phase.empty r H = subst (λ (t : Record). LastFits t.sizes.s t.last) (sym H) tt
last_fits calls.Phase.loaded r H = H.1
last_fits calls.Phase.running r H = H.last
last_fits calls.Phase.answered r H = ended-last r H

-- ---- what the conditions say, by name

record Nothing (s : Session) : Type 0 where
  no-yes : s.head.yes ≡ false
  m-is : s.head.m ≡ 0
  parts_is : s.head.parts ≡ 0
  handled-is : s.head.handled ≡ 0
  links-is : s.head.links ≡ 0
  passed_is : s.head.passed ≡ 0
  nodes-end : zero_from 0 s.nodes ≡ true
  labels-end : zero_from 0 s.labels ≡ true
  roots-end : zero_from 0 s.roots ≡ true
  states-end : zero_from 0 s.states ≡ true

record ListFits (s : Session) : Type 0 where
  few : s.head.m ≤ 64
  nodes-below : all_below s.head.sizes.n (take s.head.m s.nodes) ≡ true
  labels_below : all_below s.head.sizes.k (take s.head.m s.labels) ≡ true
  nodes-end : zero_from s.head.m s.nodes ≡ true
  labels-end : zero_from s.head.m s.labels ≡ true

record PartsFit (s : Session) : Type 0 where
  some-part : 1 ≤ s.head.parts
  few_parts : s.head.parts ≤ 254
  rises : rises_to (s.head.sizes.n - 1) (take s.head.parts s.roots) ≡ true
  roots-end : zero_from s.head.parts s.roots ≡ true
  states_below : all_below s.head.sizes.s (take s.head.handled s.states) ≡ true
  states-end : zero_from s.head.handled s.states ≡ true
  links_passed : s.head.links ≤ s.head.passed
  few-passed : s.head.passed ≤ 65535 * s.head.handled

module _ (s : Session) where
  pub sized_of : sizes_fit s.head.sizes ≡ true → Sized (sizes_of s)
  unfolding sizes_fit
  sized_of e =
      let p = both _ _ e in
      let q = both _ _ p.1 in
      record {
        nodes-least = within_low 1 65535 s.head.sizes.n p.0;
        nodes_most = within-high 1 65535 s.head.sizes.n p.0;
        states-least = within_low 1 16 s.head.sizes.s q.0;
        states_most = within-high 1 16 s.head.sizes.s q.0;
        labels_least = within_low 1 64 s.head.sizes.k q.1;
        labels_most = within-high 1 64 s.head.sizes.k q.1;
      }

  nothing-of : no_question s ≡ true → Nothing s
  unfolding no_question
  nothing-of e =
      let a = both _ _ e in
      let b = both _ _ a.1 in
      let c = both _ _ b.1 in
      let d = both _ _ c.1 in
      let f = both _ _ d.1 in
      let g = both _ _ f.1 in
      let h = both _ _ g.1 in
      let i = both _ _ h.1 in
      let j = both _ _ i.1 in
      record {
        no-yes = not-true s.head.yes a.0;
        m-is = eqb-true s.head.m 0 b.0;
        parts_is = eqb-true s.head.parts 0 c.0;
        handled-is = eqb-true s.head.handled 0 d.0;
        links-is = eqb-true s.head.links 0 f.0;
        passed_is = eqb-true s.head.passed 0 g.0;
        nodes-end = h.0;
        labels-end = i.0;
        roots-end = j.0;
        states-end = j.1;
      }

  list_of : list_fits s ≡ true → ListFits s
  unfolding list_fits
  list_of e =
      let a = both _ _ e in
      let b = both _ _ a.1 in
      let c = both _ _ b.1 in
      let d = both _ _ c.1 in
      record { few = leb-true s.head.m 64 a.0; nodes-below = b.0; labels_below = c.0; nodes-end = d.0; labels-end = d.1 }

  parts-of : parts_fit s ≡ true → PartsFit s
  unfolding parts_fit
  parts-of e =
      let a = both _ _ e in
      let b = both _ _ a.1 in
      let c = both _ _ b.1 in
      let d = both _ _ c.1 in
      let f = both _ _ d.1 in
      let g = both _ _ f.1 in
      record {
        some-part = within_low 1 254 s.head.parts a.0;
        few_parts = within-high 1 254 s.head.parts a.0;
        rises = b.0;
        roots-end = c.0;
        states_below = d.0;
        states-end = f.0;
        links_passed = leb-true s.head.links s.head.passed g.0;
        few-passed = leb-true s.head.passed (65535 * s.head.handled) g.1;
      }

  -- ---- the record of a struct that passes

  asked_of : Shaped s → ListFits s → PartsFit s → s.head.handled ≤ s.head.parts → Asked (record_of s)
  unfolding record_of
  asked_of h l p c =
      let a : length (take s.head.m s.nodes) ≡ s.head.m = length-take-le s.head.m s.nodes (omega arith) in
      let b : length (take s.head.m s.labels) ≡ s.head.m = length-take-le s.head.m s.labels (omega arith) in
      let f : length (take s.head.parts s.roots) ≡ s.head.parts = length-take-le s.head.parts s.roots (omega arith) in
      let d : length (take s.head.handled s.states) ≡ s.head.handled = length-take-le s.head.handled s.states (omega arith) in
      record {
        few = omega arith;
        same = omega arith;
        nodes-below = l.nodes-below;
        labels_below = l.labels_below;
        some-part = omega arith;
        few_parts = omega arith;
        rises = p.rises;
        states_below = p.states_below;
        links_passed = p.links_passed;
        few-passed = rw d p.few-passed;
      }

  handled-of : Shaped s → PartsFit s → s.head.handled ≤ s.head.parts
      → (length (take s.head.handled s.states) ≡ s.head.handled) × (length (take s.head.parts s.roots) ≡ s.head.parts)
  handled-of h p c =
      (length-take-le s.head.handled s.states (omega arith), length-take-le s.head.parts s.roots (omega arith))

  -- ---- by state

  record Empties : Type 0 where
    n_is : s.head.sizes.n ≡ 0
    s_is : s.head.sizes.s ≡ 0
    k_is : s.head.sizes.k ≡ 0
    last : is_none s.head.last ≡ true
    none : Nothing s

  record Questions : Type 0 where
    sizes : Sized (sizes_of s)
    list : ListFits s
    parts : PartsFit s

  empties-of : valid_in Empty s ≡ true → Empties
  unfolding valid_in
  empties-of e =
      let a = both _ _ e in
      let b = both _ _ a.1 in
      let c = both _ _ b.1 in
      let d = both _ _ c.1 in
      record {
        n_is = eqb-true s.head.sizes.n 0 a.0;
        s_is = eqb-true s.head.sizes.s 0 b.0;
        k_is = eqb-true s.head.sizes.k 0 c.0;
        last = d.0;
        none = nothing-of d.1;
      }

  loaded-of : valid_in Loaded s ≡ true → Sized (sizes_of s) × (last_question_fits s.head.sizes.s s.head.last ≡ true) × Nothing s
  unfolding valid_in
  loaded-of e =
      let a = both _ _ e in
      let b = both _ _ a.1 in
      (sized_of a.0, b.0, nothing-of b.1)

  questions-of : question_fits s ≡ true → Questions
  unfolding question_fits
  questions-of e =
      let a = both _ _ e in
      let b = both _ _ a.1 in
      let c = both _ _ b.1 in
      record { sizes = sized_of a.0; list = list_of b.0; parts = parts-of c.0 }

  running-of : valid_in Running s ≡ true → Questions × (s.head.handled < s.head.parts) × (s.head.yes ≡ false)
      × (last_question_fits s.head.sizes.s s.head.last ≡ true)
  unfolding valid_in
  running-of e =
      let a = both _ _ e in
      let c = both _ _ a.1 in
      let b = both _ _ c.1 in
      (questions-of a.0, ltb-true s.head.handled s.head.parts b.0, not-true s.head.yes b.1, c.0)

  answered-of : valid_in Answered s ≡ true → Questions × (s.head.handled ≡ s.head.parts) × OwnAnswer s
  unfolding valid_in
  answered-of e =
      let a = both _ _ e in
      let b = both _ _ a.1 in
      (questions-of a.0, eqb-true s.head.handled s.head.parts b.1, own_of s b.0)

  holds-in : Shaped s → (p : Phase) → s.head.phase ≡ p → valid_in p s ≡ true → HoldsIn (phase_of p) (record_of s)
  unfolding phase_of record_of fresh_record idle
  holds-in h Empty q e =
      let E = empties-of e in
      let N = E.none in
      rw (
        none_is s.head.last E.last,
        q,
        E.n_is,
        E.s_is,
        E.k_is,
        N.no-yes,
        N.m-is,
        N.parts_is,
        N.handled-is,
        N.links-is,
        N.passed_is,
      )
  holds-in h Loaded q e =
      let a = loaded-of e in
      let N = a.2 in (
        a.0,
        last-of s.head.sizes.s s.head.last a.1,
        rw (q, N.no-yes, N.m-is, N.parts_is, N.handled-is, N.links-is, N.passed_is),
      )
  holds-in h Running q e =
      let a = running-of e in
      let t = handled-of h a.0.parts (omega (arith, a.1)) in
      record {
        sizes = a.0.sizes;
        asked = asked_of h a.0.list a.0.parts (omega (arith, a.1));
        handled = omega (arith, a.1, t.0, t.1);
        no-yes = a.2;
        last = last-of s.head.sizes.s s.head.last a.3;
      }
  holds-in h Answered q e =
      let a = answered-of e in
      let t = handled-of h a.0.parts (omega (arith, a.1)) in
      record {
        sizes = a.0.sizes;
        asked = asked_of h a.0.list a.0.parts (omega (arith, a.1));
        handled = omega (arith, a.1, t.0, t.1);
        own = own-last s a.2 t.0 t.1;
      }

  pub holds_of : Shaped s → valid s ≡ true → Holds (record_of s)
  unfolding valid record_of
  holds_of h e = holds-in h s.head.phase refl e

  -- ---- and the struct again

  tails-none : Nothing s → last_to (last_in s.head.last) ≡ s.head.last → Tails s
  tails-none N e = record {
    few = omega (arith, N.m-is);
    few_parts = omega (arith, N.parts_is);
    few_handled = omega (arith, N.handled-is);
    nodes-end = rw N.m-is N.nodes-end;
    labels-end = rw N.m-is N.labels-end;
    roots-end = rw N.parts_is N.roots-end;
    states-end = rw N.handled-is N.states-end;
    last_end = e;
  }

  tails-some : ListFits s → PartsFit s → s.head.handled ≤ s.head.parts → last_to (last_in s.head.last) ≡ s.head.last → Tails s
  tails-some l p c e = record {
    few = l.few;
    few_parts = p.few_parts;
    few_handled = omega (arith, p.few_parts);
    nodes-end = l.nodes-end;
    labels-end = l.labels-end;
    roots-end = p.roots-end;
    states-end = p.states-end;
    last_end = e;
  }

  tails-in : (p : Phase) → valid_in p s ≡ true → Tails s
  tails-in Empty e = let a = empties-of e in tails-none a.none (none-back s.head.last a.last)
  tails-in Loaded e = let a = loaded-of e in tails-none a.2 (last-back s.head.sizes.s s.head.last a.1)
  tails-in Running e =
      let a = running-of e in
      tails-some a.0.list a.0.parts (omega (arith, a.1)) (last-back s.head.sizes.s s.head.last a.3)
  tails-in Answered e =
      let a = answered-of e in
      tails-some a.0.list a.0.parts (omega (arith, a.1)) (present-back s.head.last a.2.present)

  pub tails-of : valid s ≡ true → Tails s
  unfolding valid
  tails-of e = tails-in s.head.phase e

  -- the struct of the record is the struct
  pub struct_is : Shaped s → valid s ≡ true → session_of (record_of s) ≡ s
  struct_is h e = struct-of-record s h (tails-of e)
