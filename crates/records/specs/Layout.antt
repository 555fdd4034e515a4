-- The session's record as bytes, layout version 3. A fresh record is 983 zero bytes; later versions append.
--
--     offset  bytes   holds
--          0      1   state: 0 empty, 1 loaded, 2 running, 3 answered
--          1      1   yes or no: 1 or 0
--          2      1   S
--          3      1   K
--          4      2   N
--          6      1   m, how many changes are listed
--          7      1   how many parts there are
--          8      1   how many parts are handled
--          9      4   links so far
--         13    128   nodes as listed, 64 numbers of two bytes
--        141     64   labels as listed, 64 bytes
--        205    508   roots of the parts, 254 numbers of two bytes
--        713    254   states of the parts, 254 bytes
--        967      1   1 where a finished answer is kept, else 0
--        968      1   its state
--        969      1   its yes or no: 1 or 0
--        970      1   how many parts it has
--        971      4   its links
--        975      4   nodes passed over so far
--        979      4   nodes passed over of the finished answer that is kept
--
-- head_length, nodes_at, labels_at, roots_at, states_at, last_at, last_length, passed_at == where the runs begin, and how long
--   the first and the last are; record_length == the whole length
-- numbers16 b == the 16-bit numbers that b holds, two bytes each; an odd byte at the end is left out
-- bytes16 l == the bytes of the numbers l, two each
-- last_bytes h == the last 16 bytes: of the finished answer, or of none, and the nodes passed over so far
-- encoded s == the bytes of a struct: those of its head, head_bytes, the first 13, and rest_bytes s, whose last 16 are last_bytes
-- step_bytes h i q b == the bytes b with another head and the state q of part i: what an advance alters
-- decoded b == the struct of bytes, decoded_head b its head, each field read at its offset; a byte past the end counts 0, a state above 3 as
--   answered, and only 1 as yes, or as an answer that is kept
-- decoded_last t == the finished answer of the last 16 bytes
-- laid_out b == whether there are 983 bytes, the state is at most 3, and both yes or no and whether an answer is kept are at most 1
-- valid_bytes b == whether b is a record: laid out, and its struct is valid (crate session, Records)
-- InTypes s == what the struct's types say of its fields; Bytes b == what the type of bytes says of theirs
--
-- "the record crosses as bytes, whose layout stands in docs/, and bytes that break it get 1": the table above is that
-- of docs/LAYOUT.md, "The record".
-- Order: numbers, states, the struct's bytes, the bytes' struct, tests. The laws are in proofs/.
use Rattle.std.specs.Prelude.{ℕ, ◌+◌, ◌-◌, ◌*◌, ◌/◌, ◌%◌, ◌<◌, ◌≡◌, Bool, true, false, cond, ◌&&◌, List, [], ◌∷◌, ◌++◌, leb, eqb, length, get_or, take, drop, set}
use Rattle.formats.specs.Limits.{change_limit, part_limit}
use Rattle.formats.specs.Bytes.{le16, le16_bytes, le32, le32_bytes}
use Rattle.session.specs.declared.state.Phase.{Phase}
use Rattle.session.specs.declared.state.Phase.TheVariants.{Empty, Loaded, Running, Answered}
use Rattle.session.specs.declared.state.Head.{Head}
use Rattle.session.specs.declared.state.Last.{Last}
use Rattle.session.specs.declared.state.Session.{Session}
use Rattle.session.specs.Records.{valid}

-- ---- the runs of bytes: where each begins, and the whole length, 983

abbrev pub head_length : ℕ
head_length = 13

abbrev pub nodes_at : ℕ
nodes_at = head_length

abbrev pub labels_at : ℕ
labels_at = nodes_at + 2 * change_limit

abbrev pub roots_at : ℕ
roots_at = labels_at + change_limit

abbrev pub states_at : ℕ
states_at = roots_at + 2 * part_limit

abbrev pub last_at : ℕ
last_at = states_at + part_limit

abbrev pub last_length : ℕ
last_length = 16

abbrev pub passed_at : ℕ
passed_at = last_at + 8

abbrev pub record_length : ℕ
record_length = last_at + last_length

-- ---- numbers of two bytes

unfoldable pub numbers16 : List ℕ → List ℕ
numbers16 [] = []
numbers16 (a ∷ []) = []
numbers16 (a ∷ b ∷ l) = (a + 256 * b) ∷ numbers16 l

unfoldable pub bytes16 : List ℕ → List ℕ
bytes16 [] = []
bytes16 (n ∷ l) = n % 256 ∷ n / 256 % 256 ∷ bytes16 l

-- ---- the state, and the yes or no

abbrev pub phase_byte : Phase → ℕ
phase_byte Empty = 0
phase_byte Loaded = 1
phase_byte Running = 2
phase_byte Answered = 3

abbrev pub phase_at : ℕ → Phase
phase_at n = cond (eqb n 0) Empty (cond (eqb n 1) Loaded (cond (eqb n 2) Running Answered))

abbrev pub yes_byte : Bool → ℕ
yes_byte true = 1
yes_byte false = 0

-- ---- the struct's bytes

abbrev pub head_bytes : Head → List ℕ
head_bytes h =
    phase_byte h.phase ∷ yes_byte h.yes ∷ h.sizes.s ∷ h.sizes.k
    ∷ (le16_bytes h.sizes.n ++ (h.m ∷ h.parts ∷ h.handled ∷ le32_bytes h.links))

abbrev pub last_bytes : Head → List ℕ
last_bytes h =
    yes_byte h.last.present ∷ h.last.outcome.state ∷ yes_byte h.last.outcome.yes ∷ h.last.outcome.parts
    ∷ (le32_bytes h.last.outcome.links ++ (le32_bytes h.passed ++ le32_bytes h.last.outcome.passed))

abbrev pub rest_bytes : Session → List ℕ
rest_bytes s =
    bytes16 s.nodes ++ (s.labels ++ (bytes16 s.roots ++ (s.states ++ last_bytes s.head)))

unfoldable pub encoded : Session → List ℕ
encoded s = head_bytes s.head ++ rest_bytes s

-- ---- the bytes' struct

-- n bytes from an index on
abbrev pub run : ℕ → ℕ → List ℕ → List ℕ
run at n b = take n (drop at b)

abbrev pub step_bytes : Head → ℕ → ℕ → List ℕ → List ℕ
step_bytes h i q b =
    head_bytes h ++ (run nodes_at (states_at - nodes_at) b ++ (set (run states_at part_limit b) i q ++ last_bytes h))

abbrev pub decoded_last : List ℕ → Last
decoded_last t = record {
  present = eqb (get_or t 0 0) 1;
  outcome = record {
    state = get_or t 1 0;
    yes = eqb (get_or t 2 0) 1;
    parts = get_or t 3 0;
    links = le32 t 4;
    passed = le32 t 12;
  };
}

abbrev pub decoded_head : List ℕ → Head
decoded_head b = record {
  phase = phase_at (get_or b 0 0);
  yes = eqb (get_or b 1 0) 1;
  sizes = record { n = le16 b 4; s = get_or b 2 0; k = get_or b 3 0 };
  m = get_or b 6 0;
  parts = get_or b 7 0;
  handled = get_or b 8 0;
  links = le32 b 9;
  passed = le32 b passed_at;
  last = decoded_last (run last_at last_length b);
}

unfoldable pub decoded : List ℕ → Session
decoded b = record {
  head = decoded_head b;
  nodes = numbers16 (run nodes_at (2 * change_limit) b);
  labels = run labels_at change_limit b;
  roots = numbers16 (run roots_at (2 * part_limit) b);
  states = run states_at part_limit b;
}

-- ---- tests

abbrev pub flags_fit : List ℕ → Bool
flags_fit b = (leb (get_or b 0 0) 3 && leb (get_or b 1 0) 1) && (leb (get_or b last_at 0) 1 && leb (get_or b (last_at + 2) 0) 1)

unfoldable pub laid_out : List ℕ → Bool
laid_out b = eqb (length b) record_length && flags_fit b

unfoldable pub valid_bytes : List ℕ → Bool
valid_bytes b = laid_out b && valid (decoded b)

-- ---- what types say

pub record InTypes (s : Session) : Type 0 where
  pub n_fits : s.head.sizes.n < 65536
  pub s_fits : s.head.sizes.s < 256
  pub k_fits : s.head.sizes.k < 256
  pub m_fits : s.head.m < 256
  pub parts_fit : s.head.parts < 256
  pub handled_fits : s.head.handled < 256
  pub links_fit : s.head.links < 4294967296
  pub passed_fits : s.head.passed < 4294967296
  pub last_state_fits : s.head.last.outcome.state < 256
  pub last_parts_fit : s.head.last.outcome.parts < 256
  pub last_links_fit : s.head.last.outcome.links < 4294967296
  pub last_passed_fits : s.head.last.outcome.passed < 4294967296
  pub nodes_length : length s.nodes ≡ change_limit
  pub labels_length : length s.labels ≡ change_limit
  pub roots_length : length s.roots ≡ part_limit
  pub states_length : length s.states ≡ part_limit
  pub nodes_fit : (i : ℕ) → get_or s.nodes i 0 < 65536
  pub labels_fit : (i : ℕ) → get_or s.labels i 0 < 256
  pub roots_fit : (i : ℕ) → get_or s.roots i 0 < 65536
  pub states_fit : (i : ℕ) → get_or s.states i 0 < 256

abbrev pub Bytes : List ℕ → Type 0
Bytes b = (i : ℕ) → get_or b i 0 < 256
