-- The record's bytes and the bytes' record are each other's.
--     decode-encode       the struct of a struct's bytes is the struct, for every struct that the types allow
--     encode-decode       the bytes of the struct of a record are the record; encode-laid: of any bytes that are laid out
--     encoded-length      983 bytes, each below 256 (encoded-bytes)
--     fresh-bytes         a fresh session's bytes are 983 zeros, and fresh-valid: they are a record
--     encoded-valid       the bytes of a valid struct are a record
--     decoded-valid       the struct of a record is valid
--     decoded-types       what types say holds of the struct of bytes
use Prim.Native.Nat.{ℕ, ◌+◌, ◌*◌, ◌/◌, ◌%◌, ◌≤◌, ◌<◌}
use mathlib.Core.Path.{◌≡◌, refl, sym, ap, ◌∙◌}
use mathlib.Core.Bool.{true, ◌&&◌}
use mathlib.Core.List.{List, ◌++◌}
use native.Mathlib.Omega.{arith}
use lib.Dec.{leb, eqb}
use lib.ListN.{length, get_or, drop, replicate, length-append, length-drop}
use lib.Seq.{take_all}
use borrow.Author.Tests.{leb-true, eq-eqb, le-leb}
use Rattle.list_laws.specs.Tests.{all_below}
use Rattle.formats.specs.Bytes.{le32, le32_bytes}
use Rattle.formats.proofs.ByteLaws.{bytes-number, number-bytes}
use Rattle.list_laws.proofs.SliceLaws.{length_part}
use Rattle.list_laws.proofs.BoolLaws.{and_left, and_right, and_both}
use Rattle.session.specs.declared.state.Session.{Session}
use Rattle.session.specs.Records.{zero_from, no_question, is_none, valid_in, valid, fresh_session}
use Rattle.records.specs.Layout.{numbers16, bytes16, phase_byte, yes_byte, head_bytes, last_bytes, rest_bytes, encoded}
use Rattle.records.specs.Layout.{run, decoded_head, decoded_last, decoded, flags_fit, laid_out, valid_bytes, InTypes, Bytes}
use Rattle.records.proofs.NumberLaws.{bytes-two, two_bytes, bytes16-length, numbers16-length}
use Rattle.records.proofs.NumberLaws.{numbers-bytes, bytes-numbers, bytes16-fit, numbers16-fit}
use Rattle.records.proofs.RunLaws.{behind, first_run, run-then, run_at, firsts, firsts-then, firsts-all, head-same, last-same}
use Rattle.records.proofs.RunLaws.{cons-fits, append-fits, run_fits, le32-fit}
use Rattle.records.proofs.RunLaws.{phase-again, yes-again, phase-most, yes-most, phase-number, yes-number}
use Rattle.records.proofs.ByteTests.{laid-length, record-read}

-- ---- the struct of a struct's bytes

module _ (s : Session) (t : InTypes s) where
  nodes-long : length (bytes16 s.nodes) ≡ 128
  nodes-long = bytes16-length s.nodes ∙ ap (λ (k : ℕ). 2 * k) t.nodes_length

  roots-long : length (bytes16 s.roots) ≡ 508
  roots-long = bytes16-length s.roots ∙ ap (λ (k : ℕ). 2 * k) t.roots_length

  pub encoded-length : length (encoded s) ≡ 983
  unfolding encoded
  encoded-length =
      let e = nodes-long in
      let f = roots-long in
      let l = t.labels_length in
      let r = t.states_length in
      simp length-append (omega arith)

  -- what follows the head, the nodes, the labels and the roots
  abbrev tail : List ℕ
  tail = s.states ++ last_bytes s.head

  encoded-nodes : run 13 128 (encoded s) ≡ bytes16 s.nodes
  unfolding encoded
  encoded-nodes =
      behind (head_bytes s.head) (rest_bytes s) 13 0 128 refl
      ∙ first_run (bytes16 s.nodes) (s.labels ++ (bytes16 s.roots ++ tail)) 128 nodes-long

  encoded-labels : run 141 64 (encoded s) ≡ s.labels
  unfolding encoded
  encoded-labels =
      behind (head_bytes s.head) (rest_bytes s) 13 128 64 refl
      ∙ behind (bytes16 s.nodes) (s.labels ++ (bytes16 s.roots ++ tail)) 128 0 64 nodes-long
      ∙ first_run s.labels (bytes16 s.roots ++ tail) 64 t.labels_length

  encoded-roots : run 205 508 (encoded s) ≡ bytes16 s.roots
  unfolding encoded
  encoded-roots =
      behind (head_bytes s.head) (rest_bytes s) 13 192 508 refl
      ∙ behind (bytes16 s.nodes) (s.labels ++ (bytes16 s.roots ++ tail)) 128 64 508 nodes-long
      ∙ behind s.labels (bytes16 s.roots ++ tail) 64 0 508 t.labels_length
      ∙ first_run (bytes16 s.roots) tail 508 roots-long

  encoded-states : run 713 254 (encoded s) ≡ s.states
  unfolding encoded
  encoded-states =
      behind (head_bytes s.head) (rest_bytes s) 13 700 254 refl
      ∙ behind (bytes16 s.nodes) (s.labels ++ (bytes16 s.roots ++ tail)) 128 572 254 nodes-long
      ∙ behind s.labels (bytes16 s.roots ++ tail) 64 508 254 t.labels_length
      ∙ behind (bytes16 s.roots) tail 508 0 254 roots-long
      ∙ first_run s.states (last_bytes s.head) 254 t.states_length

  encoded-last : run 967 16 (encoded s) ≡ last_bytes s.head
  unfolding encoded
  encoded-last =
      behind (head_bytes s.head) (rest_bytes s) 13 954 16 refl
      ∙ behind (bytes16 s.nodes) (s.labels ++ (bytes16 s.roots ++ tail)) 128 826 16 nodes-long
      ∙ behind s.labels (bytes16 s.roots ++ tail) 64 762 16 t.labels_length
      ∙ behind (bytes16 s.roots) tail 508 254 16 roots-long
      ∙ behind s.states (last_bytes s.head) 254 0 16 t.states_length

  -- a byte of the last 16
  last-at : (i : ℕ) → i < 16 → get_or (encoded s) (967 + i) 0 ≡ get_or (last_bytes s.head) i 0
  last-at i h = sym (run_at (encoded s) 967 16 i h) ∙ ap (λ (l : List ℕ). get_or l i 0) encoded-last

  last-read-again : decoded_last (run 967 16 (encoded s)) ≡ s.head.last
  last-read-again =
      ap decoded_last encoded-last
      ∙ rw (
        yes-again s.head.last.present,
        yes-again s.head.last.outcome.yes,
        bytes-number s.head.last.outcome.links t.last_links_fit,
        bytes-number s.head.last.outcome.passed t.last_passed_fits,
      )

  passed-read-again : le32 (encoded s) 975 ≡ s.head.passed
  passed-read-again =
      rw (last-at 8 (omega arith), last-at 9 (omega arith), last-at 10 (omega arith), last-at 11 (omega arith))
      (bytes-number s.head.passed t.passed_fits)

  -- the numbers of the head, read where they were written
  head_read : decoded_head (encoded s) ≡ s.head
  unfolding encoded
  head_read =
      rw (
        phase-again s.head.phase,
        yes-again s.head.yes,
        bytes-two s.head.sizes.n t.n_fits,
        bytes-number s.head.links t.links_fit,
        passed-read-again,
        last-read-again,
      )

  pub decode-encode : decoded (encoded s) ≡ s
  decode-encode =
      sym (record-read (encoded s) s.head s.nodes s.labels s.roots s.states (sym head_read)
      (sym (ap numbers16 encoded-nodes ∙ numbers-bytes s.nodes t.nodes_fit))
      (sym encoded-labels)
      (sym (ap numbers16 encoded-roots ∙ numbers-bytes s.roots t.roots_fit))
      (sym encoded-states))

  encoded-laid : laid_out (encoded s) ≡ true
  unfolding laid_out encoded
  encoded-laid =
      rw (
        eq-eqb (length (encoded s)) 983 encoded-length,
        le-leb (phase_byte s.head.phase) 3 (phase-most s.head.phase),
        le-leb (yes_byte s.head.yes) 1 (yes-most s.head.yes),
        last-at 0 (omega arith),
        last-at 2 (omega arith),
        le-leb (yes_byte s.head.last.present) 1 (yes-most s.head.last.present),
      )
      (le-leb (yes_byte s.head.last.outcome.yes) 1 (yes-most s.head.last.outcome.yes))

  pub encoded-valid : valid s ≡ true → valid_bytes (encoded s) ≡ true
  unfolding valid_bytes
  encoded-valid v =
      and_both (laid_out (encoded s)) (valid (decoded (encoded s))) encoded-laid (ap valid decode-encode ∙ v)

  head-fits : Bytes (head_bytes s.head)
  head-fits =
      cons-fits (phase_byte s.head.phase) (drop 1 (head_bytes s.head)) (omega (arith, phase-most s.head.phase))
      (cons-fits (yes_byte s.head.yes) (drop 2 (head_bytes s.head)) (omega (arith, yes-most s.head.yes))
      (cons-fits s.head.sizes.s (drop 3 (head_bytes s.head)) t.s_fits
      (cons-fits s.head.sizes.k (drop 4 (head_bytes s.head)) t.k_fits
      (cons-fits (s.head.sizes.n % 256) (drop 5 (head_bytes s.head)) (omega arith)
      (cons-fits (s.head.sizes.n / 256 % 256) (drop 6 (head_bytes s.head)) (omega arith)
      (cons-fits s.head.m (drop 7 (head_bytes s.head)) t.m_fits
      (cons-fits s.head.parts (drop 8 (head_bytes s.head)) t.parts_fit
      (cons-fits s.head.handled (drop 9 (head_bytes s.head)) t.handled_fits (le32-fit s.head.links)))))))))

  last-bytes-fit : Bytes (last_bytes s.head)
  last-bytes-fit =
      let h = s.head in
      let l = s.head.last in
      cons-fits (yes_byte l.present) (drop 1 (last_bytes h)) (omega (arith, yes-most l.present))
      (cons-fits l.outcome.state (drop 2 (last_bytes h)) t.last_state_fits
      (cons-fits (yes_byte l.outcome.yes) (drop 3 (last_bytes h)) (omega (arith, yes-most l.outcome.yes))
      (cons-fits l.outcome.parts (drop 4 (last_bytes h)) t.last_parts_fit
      (append-fits (le32_bytes l.outcome.links) (le32_bytes h.passed ++ le32_bytes l.outcome.passed) (le32-fit l.outcome.links)
      (append-fits (le32_bytes h.passed) (le32_bytes l.outcome.passed) (le32-fit h.passed) (le32-fit l.outcome.passed))))))

  pub encoded-bytes : Bytes (encoded s)
  unfolding encoded
  encoded-bytes =
      append-fits (head_bytes s.head) (rest_bytes s) head-fits
      (append-fits (bytes16 s.nodes) (s.labels ++ (bytes16 s.roots ++ tail)) (bytes16-fit s.nodes)
      (append-fits s.labels (bytes16 s.roots ++ tail) t.labels_fit
      (append-fits (bytes16 s.roots) tail (bytes16-fit s.roots)
      (append-fits s.states (last_bytes s.head) t.states_fit last-bytes-fit))))

-- ---- the bytes of the struct of bytes

module _ (b : List ℕ) where
  module _ (long : length b ≡ 983) (fits : Bytes b) where
    -- the last 16 bytes
    kept-length : length (run 967 16 b) ≡ 16
    kept-length = length_part b 967 16 (omega arith)

    kept-fits : Bytes (run 967 16 b)
    kept-fits = run_fits b 967 16 fits

    pub decoded-types : InTypes (decoded b)
    unfolding decoded
    decoded-types = record {
      n_fits = omega (arith, fits 4, fits 5);
      s_fits = fits 2;
      k_fits = fits 3;
      m_fits = fits 6;
      parts_fit = fits 7;
      handled_fits = fits 8;
      links_fit = omega (arith, fits 9, fits 10, fits 11, fits 12);
      passed_fits = omega (arith, fits 975, fits 976, fits 977, fits 978);
      last_state_fits = kept-fits 1;
      last_parts_fit = kept-fits 3;
      last_links_fit = omega (arith, kept-fits 4, kept-fits 5, kept-fits 6, kept-fits 7);
      last_passed_fits = omega (arith, kept-fits 12, kept-fits 13, kept-fits 14, kept-fits 15);
      nodes_length = numbers16-length (run 13 128 b) 64 (length_part b 13 128 (omega arith));
      labels_length = length_part b 141 64 (omega arith);
      roots_length = numbers16-length (run 205 508 b) 254 (length_part b 205 508 (omega arith));
      states_length = length_part b 713 254 (omega arith);
      nodes_fit = numbers16-fit (run 13 128 b) (run_fits b 13 128 fits);
      labels_fit = run_fits b 141 64 fits;
      roots_fit = numbers16-fit (run 205 508 b) (run_fits b 205 508 fits);
      states_fit = run_fits b 713 254 fits;
    }

    head-again : get_or b 0 0 ≤ 3 → get_or b 1 0 ≤ 1 → head_bytes (decoded b).head ≡ firsts 13 0 b
    unfolding decoded firsts
    head-again p y =
        head-same _ _ _ _ _ _ _ _ _ _ _ _ _ (phase-number (get_or b 0 0) p) (yes-number (get_or b 1 0) y)
        (two_bytes (get_or b 4 0) (get_or b 5 0) (fits 4) (fits 5))
        (number-bytes (get_or b 9 0) (get_or b 10 0) (get_or b 11 0) (get_or b 12 0) (fits 9) (fits 10) (fits 11) (fits 12))

    -- the nodes passed over so far, among the last 16 bytes
    passed-run : le32 b 975 ≡ le32 (run 967 16 b) 8
    passed-run =
        rw (
          run_at b 967 16 8 (omega arith),
          run_at b 967 16 9 (omega arith),
          run_at b 967 16 10 (omega arith),
          run_at b 967 16 11 (omega arith),
        )

    last-again : get_or b 967 0 ≤ 1 → get_or b 969 0 ≤ 1 → last_bytes (decoded_head b) ≡ drop 967 b
    unfolding firsts
    last-again p y =
        let r = run 967 16 b in
        let e : get_or r 0 0 ≤ 1 = rw (run_at b 967 16 0 (omega arith)) p in
        let f : get_or r 2 0 ≤ 1 = rw (run_at b 967 16 2 (omega arith)) y in
        last-same _ _ _ _ _ _ _ _ _ _ _ _ (yes-number (get_or r 0 0) e) (yes-number (get_or r 2 0) f)
        (number-bytes (get_or r 4 0) (get_or r 5 0) (get_or r 6 0) (get_or r 7 0) (kept-fits 4) (kept-fits 5) (kept-fits 6) (kept-fits 7))
        (ap le32_bytes passed-run
        ∙ number-bytes (get_or r 8 0) (get_or r 9 0) (get_or r 10 0) (get_or r 11 0) (kept-fits 8) (kept-fits 9) (kept-fits 10) (kept-fits 11))
        (number-bytes (get_or r 12 0) (get_or r 13 0) (get_or r 14 0) (get_or r 15 0) (kept-fits 12) (kept-fits 13) (kept-fits 14) (kept-fits 15))
        ∙ sym (firsts-all r 16 kept-length)
        ∙ take_all 16 (drop 967 b) (simp length-drop (omega arith))

    rest-again : last_bytes (decoded_head b) ≡ drop 967 b → rest_bytes (decoded b) ≡ drop 13 b
    unfolding decoded
    rest-again l =
        rw (
          l,
          bytes-numbers (run 13 128 b) 64 (length_part b 13 128 (omega arith)) (run_fits b 13 128 fits),
          bytes-numbers (run 205 508 b) 254 (length_part b 205 508 (omega arith)) (run_fits b 205 508 fits),
          run-then b 713 254,
          run-then b 205 508,
          run-then b 141 64,
        )
        (run-then b 13 128)

    pub encode-laid : laid_out b ≡ true → encoded (decoded b) ≡ b
    unfolding laid_out encoded
    encode-laid e =
        let own = leb (get_or b 0 0) 3 && leb (get_or b 1 0) 1 in
        let kept = leb (get_or b 967 0) 1 && leb (get_or b 969 0) 1 in
        let q = and_right (eqb (length b) 983) (flags_fit b) e in
        let o = and_left own kept q in
        let w = and_right own kept q in
        let p = leb-true (get_or b 0 0) 3 (and_left (leb (get_or b 0 0) 3) (leb (get_or b 1 0) 1) o) in
        let y = leb-true (get_or b 1 0) 1 (and_right (leb (get_or b 0 0) 3) (leb (get_or b 1 0) 1) o) in
        let i = leb-true (get_or b 967 0) 1 (and_left (leb (get_or b 967 0) 1) (leb (get_or b 969 0) 1) w) in
        let j = leb-true (get_or b 969 0) 1 (and_right (leb (get_or b 967 0) 1) (leb (get_or b 969 0) 1) w) in
        ap (λ (h : List ℕ). h ++ rest_bytes (decoded b)) (head-again p y)
        ∙ ap (λ (r : List ℕ). firsts 13 0 b ++ r) (rest-again (last-again i j))
        ∙ sym (firsts-then b 13 0 (omega arith))

  pub encode-decode : valid_bytes b ≡ true → Bytes b → encoded (decoded b) ≡ b
  unfolding valid_bytes
  encode-decode e fits =
      let l = and_left (laid_out b) (valid (decoded b)) e in
      encode-laid (laid-length b l) fits l

  pub decoded-valid : valid_bytes b ≡ true → valid (decoded b) ≡ true
  unfolding valid_bytes
  decoded-valid e = and_right (laid_out b) (valid (decoded b)) e

-- ---- a fresh record

pub fresh-bytes : encoded fresh_session ≡ replicate 983 0
unfolding encoded bytes16
fresh-bytes = refl

pub fresh-valid : valid_bytes (replicate 983 0) ≡ true
unfolding valid_bytes laid_out decoded numbers16 valid valid_in no_question is_none zero_from all_below
fresh-valid = refl
