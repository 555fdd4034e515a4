-- The calls' promises refine the model of the session (crate model, Model).
--     Represents s r         struct s passes its conditions and holds record r
--     fresh-seen       the fresh session holds the fresh record
--     seen-answer      a call on such a struct is answered as the model's
--     call-refines     and is the model's step, to again such a struct, if that keeps its conditions; every promise says so (stays)
--     narrow-seen      it does where what is found passed over few nodes
--     read_keeps       Read alters nothing
--     by-value-refines each of the five
use Prim.Native.Nat.{ℕ, zero, suc}
use mathlib.Core.Path.{◌≡◌, refl, sym, ap, ◌∙◌, subst}
use mathlib.Core.Bool.{true}
use Rattle.model.specs.Calls.{Call, read, Answer}
use Rattle.model.specs.Refusals.{refusal}
use Rattle.model.specs.Model.{stage_of, Record, fresh_record, idle, proceeds, unless, act, Does}
use Rattle.model.proofs.Refinement.{Refines}
use Rattle.session.specs.declared.state.Session.{Session}
use Rattle.session.specs.Records.{phase_to, record_of, session_of, fresh_session, valid}
use Rattle.session.specs.Promises.{CallDone, answer_on, record_on}
use Rattle.session.specs.inner.Shapes.{Shaped}
use Rattle.session.specs.CallsByValue.{CallByValue, loads, starts, advances, cancels, reads}
use Rattle.session.proofs.RecordLaws.{record-of-struct, struct-shaped}
use Rattle.session.proofs.ActLaws.{Narrow, holds-valid, listed_of, act-valid, act-shaped, act-record}

pub record Represents (s : Session) (r : Record) : Type 0 where
  pub shaped : Shaped s
  pub passes : valid s ≡ true
  pub holds : record_of s ≡ r

-- the struct of the fresh record is the fresh session
fresh-is : session_of fresh_record ≡ fresh_session
unfolding session_of fresh_record idle phase_to
fresh-is = refl

pub fresh-seen : Represents fresh_session fresh_record
unfolding fresh_record idle
fresh-seen =
    subst (λ (s : Session). Represents s fresh_record) fresh-is
    (record {
      shaped = struct-shaped fresh_record (listed_of fresh_record refl);
      passes = holds-valid fresh_record refl;
      holds = record-of-struct fresh_record (listed_of fresh_record refl);
    })

module _ (s : Session) (r : Record) (i : Represents s r) (c : Call) where
  pub seen-answer : answer_on s c ≡ (act r c).answer
  unfolding answer_on
  seen-answer = rw i.passes (ap (λ (t : Record). (act t c).answer) i.holds)

  record_is : record_on s c ≡ session_of (act (record_of s) c).record'
  unfolding record_on
  record_is = rw i.passes

  after-seen : valid (session_of (act (record_of s) c).record') ≡ true → Represents (session_of (act (record_of s) c).record') (act r c).record'
  after-seen v = record {
    shaped = act-shaped s i.shaped i.passes c;
    passes = v;
    holds = act-record s i.shaped i.passes c ∙ ap (λ (t : Record). (act t c).record') i.holds;
  }

  pub call-refines : (a : Answer) (s' : Session) → a ≡ answer_on s c → s' ≡ record_on s c → valid s' ≡ true
      → (r' : Record) × Does r c a r' × Represents s' r'
  call-refines a s' f g v = (
    (act r c).record',
    record { tells = f ∙ seen-answer; leaves = refl },
    subst (λ (t : Session). Represents t (act r c).record') (sym (g ∙ record_is))
        (after-seen (subst (λ (t : Session). valid t ≡ true) (g ∙ record_is) v)),
  )

  -- a call that finds few nodes passed over leaves such a struct, whatever form it has
  pub narrow-seen : Narrow r c → Represents (record_on s c) (act r c).record'
  narrow-seen w =
      subst (λ (t : Session). Represents t (act r c).record') (sym record_is)
      (after-seen (act-valid s i.shaped i.passes c (subst (λ (t : Record). Narrow t c) (sym i.holds) w)))

  done-refines : (a : Answer) (s' : Session) → CallDone s c a s' → (r' : Record) × Does r c a r' × Represents s' r'
  done-refines a s' d = call-refines a s' d.tells d.leaves (d.stays i.passes)

-- Read alters nothing
pub read_keeps : (r : Record) → (act r read).record' ≡ r
unfolding act unless proceeds
read_keeps r = go (refusal (stage_of r) read)
  where
    go : (n : ℕ) → (unless n r read).record' ≡ r
    go zero = refl
    go (suc n) = refl

pub by-value-refines : Refines CallByValue Does Represents
by-value-refines s s' r c a i (loads o node_table state_table d) = done-refines s r i _ _ _ d.call
by-value-refines s s' r c a i (starts o d) = done-refines s r i _ _ _ d
by-value-refines s s' r c a i (advances o d) = done-refines s r i _ _ _ d
by-value-refines s s' r c a i (cancels o d) = done-refines s r i _ _ _ d
by-value-refines s s' r c a i (reads o d) =
    (r, record { tells = d ∙ seen-answer s r i read; leaves = sym (read_keeps r) }, i)
