-- What the functions of the whole count need and promise.
--
-- counted_for X vs ms == the count for the roots ms, or refused where a value leads outside
-- counted_on X vs == the count for those of the list vs, or refused where a value leads outside
-- RootArgs, OnArgs, RunArgs == every read is inside: for given roots, for runs, and for whole plan, rules and tables
use Rattle.std.specs.Prelude.{ℕ, ◌≤◌, ◌<◌, ◌≡◌, true, cond, List, [], length, get_or, Result, Ok, Err}
use Rattle.formats.specs.Limits.{node_limit, change_limit, part_limit}
use Rattle.formats.specs.Rules.{rule_length}
use Rattle.formats.specs.Buffers.{limits_fit, buffers_fit}
use Rattle.formats.specs.declared.refusals.Refusal.{Refusal}
use Rattle.formats.specs.declared.refusals.Refusal.TheVariants.{LentValue}
use Rattle.tables.specs.Climbs.{View}
use Rattle.tables.specs.inner.PathViews.{PathArgs}
use Rattle.choices.specs.question_counts.PartsOn.{parts_ok}
use Rattle.choices.specs.question_counts.CountOn.{open_in, roots_in, list_in, is_countable}
use Rattle.choices.specs.declared.count.Counted.{Counted}
use Rattle.choices.specs.Promise.{counted_at}
use Rattle.choices.specs.inner.Part.{Runs}

abbrev pub counted_for : View → List ℕ → List ℕ → Result Counted Refusal
counted_for X vs ms = cond (parts_ok X (open_in vs) [] ms) (Ok (counted_at X vs ms)) (Err LentValue)

abbrev pub counted_on : View → List ℕ → Result Counted Refusal
counted_on X vs = cond (is_countable X vs) (Ok (counted_at X vs (list_in (roots_in X vs)))) (Err LentValue)

pub record RootArgs (n s k : ℕ) (ls ks lv inn node_table state_table vs ms : List ℕ) : Type 0 where
  pub runs : Runs n s k ls ks lv inn node_table state_table
  pub listed : length vs ≤ node_limit
  pub some_root : 0 < length ms
  pub few : length ms ≤ part_limit
  pub nodes : (i : ℕ) → i < length ms → get_or ms i 0 < n

pub record OnArgs (n s k : ℕ) (ls ks lv inn node_table state_table vs : List ℕ) : Type 0 where
  pub path : PathArgs n s k ls inn node_table state_table
  pub some_state : 0 < s
  pub some_node : 0 < n
  pub kinds_room : n ≤ length ks
  pub leaves_room : k ≤ length lv
  pub listed : length vs ≤ change_limit

pub record RunArgs (n s k : ℕ) (p r node_table state_table vs : List ℕ) : Type 0 where
  pub limits : limits_fit n s k ≡ true
  pub lengths : buffers_fit n s (rule_length s k) (length p) (length r) (length node_table) (length state_table) ≡ true
  pub listed : length vs ≤ change_limit
