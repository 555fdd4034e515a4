-- Whether the inputs and the part asked for fit, test by test.
--     roots-short .. asked-end                         asked_fits by its tests; the last decides where the others pass
--     Asked, asked-are                                 what it says, by name, where it says yes
--     given-limits, given-lengths, given-asked, given_yes   part_given by the three
use Rattle.std.proofs.Common.{◌≡◌, ℕ, ◌<◌, ◌≤◌, Bool, true, false, ◌&&◌, eqb, ltb, leb, List, length, get_or, take, ◌∙◌, ltb-true, le-ltb, lt-ltb, eq-eqb, ne_eqb, eqb-true, le-leb, leb-true}
use borrow.Author.Tests.{lt-leb}
use Rattle.trees.proofs.MoveLaws.{both}
use Rattle.formats.specs.Limits.{node_limit}
use Rattle.formats.specs.Rules.{rule_length}
use Rattle.formats.specs.Buffers.{limits_fit, buffers_fit}
use Rattle.list_laws.proofs.BoolLaws.{and-no-left, and-next}
use Rattle.tables.specs.Climbs.{climbed_of}
use Rattle.tables.specs.declared.answers.Climbed.TheVariants.{OutOfRange}
use Rattle.questions.specs.Part.{part_on}
use Rattle.questions.specs.PartAnswers.{asked_fits, part_fits, view_in, part_given}

-- ---- what is asked

module _ (n : ℕ) (roots states vs bs : List ℕ) where
  abbrev after : Bool
  after = ltb (length states) (length roots)

  abbrev many : Bool
  many = leb (length roots) node_limit

  abbrev node : Bool
  node = ltb (get_or roots (length states) 0) n

  abbrev lists : Bool
  lists = eqb (length vs) (length bs)

  abbrev listed : Bool
  listed = leb (length vs) node_limit

  pub roots-short : length roots ≤ length states → asked_fits n roots states vs bs ≡ false
  unfolding asked_fits
  roots-short h = and-no-left after (many && (node && (lists && listed))) (le-ltb (length states) (length roots) h)

  module _ (a : length states < length roots) where
    from-many : asked_fits n roots states vs bs ≡ (many && (node && (lists && listed)))
    unfolding asked_fits
    from-many = and-next after (many && (node && (lists && listed))) (lt-ltb (length states) (length roots) a)

    pub roots-many : 65535 < length roots → asked_fits n roots states vs bs ≡ false
    roots-many h = from-many ∙ and-no-left many (node && (lists && listed)) (lt-leb (length roots) node_limit h)

    module _ (m : length roots ≤ 65535) where
      from-node : asked_fits n roots states vs bs ≡ (node && (lists && listed))
      from-node = from-many ∙ and-next many (node && (lists && listed)) (le-leb (length roots) node_limit m)

      pub root-outside : n ≤ get_or roots (length states) 0 → asked_fits n roots states vs bs ≡ false
      root-outside h = from-node ∙ and-no-left node (lists && listed) (le-ltb (get_or roots (length states) 0) n h)

      module _ (i : get_or roots (length states) 0 < n) where
        from-lists : asked_fits n roots states vs bs ≡ (lists && listed)
        from-lists = from-node ∙ and-next node (lists && listed) (lt-ltb (get_or roots (length states) 0) n i)

        pub lists-apart : ¬ (length vs ≡ length bs) → asked_fits n roots states vs bs ≡ false
        lists-apart h = from-lists ∙ and-no-left lists listed (ne_eqb (length vs) (length bs) h)

        pub asked-end : length vs ≡ length bs → asked_fits n roots states vs bs ≡ leb (length vs) 65535
        asked-end h = from-lists ∙ and-next lists listed (eq-eqb (length vs) (length bs) h)

  pub record Asked : Type 0 where
    pub root : length states < length roots
    pub roots-most : length roots ≤ 65535
    pub inside : get_or roots (length states) 0 < n
    pub same : length vs ≡ length bs
    pub most : length vs ≤ 65535

  pub asked-are : asked_fits n roots states vs bs ≡ true → Asked
  unfolding asked_fits
  asked-are h =
      let one = both after (many && (node && (lists && listed))) h in
      let two = both many (node && (lists && listed)) one.1 in
      let three = both node (lists && listed) two.1 in
      let four = both lists listed three.1 in
      record {
        root = ltb-true (length states) (length roots) one.0;
        roots-most = leb-true (length roots) node_limit two.0;
        inside = ltb-true (get_or roots (length states) 0) n three.0;
        same = eqb-true (length vs) (length bs) four.0;
        most = leb-true (length vs) node_limit four.1;
      }

-- ---- the part that a caller asks for

module _ (n s k : ℕ) (plan rules node_table state_table roots states vs bs : List ℕ) where
  abbrev lengths : Bool
  lengths = buffers_fit n s (rule_length s k) (length plan) (length rules) (length node_table) (length state_table)

  abbrev asked : Bool
  asked = asked_fits n roots states vs bs

  unfit : part_fits n s k plan rules node_table state_table roots states vs bs ≡ false
      → OutOfRange ≡ climbed_of (part_given n s k plan rules node_table state_table roots states vs bs)
  unfolding part_given climbed_of
  unfit h = rw h

  pub given-limits : limits_fit n s k ≡ false
      → OutOfRange ≡ climbed_of (part_given n s k plan rules node_table state_table roots states vs bs)
  unfolding part_fits
  given-limits h = unfit (and-no-left (limits_fit n s k) (lengths && asked) h)

  module _ (l : limits_fit n s k ≡ true) where
    pub given-lengths : lengths ≡ false
        → OutOfRange ≡ climbed_of (part_given n s k plan rules node_table state_table roots states vs bs)
    unfolding part_fits
    given-lengths h = unfit (and-next (limits_fit n s k) (lengths && asked) l ∙ and-no-left lengths asked h)

    module _ (m : lengths ≡ true) where
      pub given-asked : asked ≡ false → OutOfRange ≡ climbed_of (part_given n s k plan rules node_table state_table roots states vs bs)
      unfolding part_fits
      given-asked h = unfit (and-next (limits_fit n s k) (lengths && asked) l ∙ and-next lengths asked m ∙ h)

      pub given_yes : asked ≡ true
          → part_given n s k plan rules node_table state_table roots states vs bs
          ≡ part_on (view_in n s k plan rules node_table state_table) (take (length states) roots) states vs bs
          (get_or roots (length states) 0)
      unfolding part_given part_fits
      given_yes h = rw (and-next (limits_fit n s k) (lengths && asked) l ∙ and-next lengths asked m ∙ h)
