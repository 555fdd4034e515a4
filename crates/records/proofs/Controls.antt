-- Records and bytes that are none, computed: the conditions can be met in each state, and each is asked.
--     loaded, running, answered   document 01's plan A and table A, and its question 0→0, as bytes
--     again                       a question is started with that answer kept; cancelled: and cancelled
--     records                     they are records
--     layout-broken, value-broken, kept-broken, passed-broken
--                                 with one byte changed, or one byte more or less, they are none
use Prim.Native.Nat.{ℕ}
use mathlib.Core.Path.{◌≡◌, refl}
use mathlib.Core.Bool.{true, false}
use mathlib.Core.List.{List, [], ◌∷◌, ◌++◌}
use lib.ListN.{set, drop, replicate}
use Rattle.list_laws.specs.Tests.{all_below}
use Rattle.session.specs.Records.{sizes_fit, list_fits, parts_fit, question_fits, rises_to, zero_from, no_question, valid_in, valid}
use Rattle.session.specs.Records.{is_none, last_question_fits, last_is_own, same_flag}
use Rattle.records.specs.Layout.{numbers16, decoded, laid_out, valid_bytes}

abbrev loaded : List ℕ
loaded = 1 ∷ 0 ∷ 2 ∷ 2 ∷ 7 ∷ 0 ∷ replicate 977 0

-- state 0, no, two parts, one link, one node passed over; and `passed` nodes passed over by the running question
abbrev kept : ℕ → List ℕ
kept passed = 1 ∷ 0 ∷ 0 ∷ 2 ∷ 1 ∷ 0 ∷ 0 ∷ 0 ∷ passed ∷ 0 ∷ 0 ∷ 0 ∷ 1 ∷ 0 ∷ 0 ∷ 0 ∷ []

-- two parts, with the roots 0 and 6
abbrev asked : ℕ → ℕ → ℕ → List ℕ → List ℕ
asked state handled links last =
    state ∷ 0 ∷ 2 ∷ 2 ∷ 7 ∷ 0 ∷ 1 ∷ 2 ∷ handled ∷ links ∷ 0 ∷ 0 ∷ 0
    ∷ (replicate 192 0 ++ (0 ∷ 0 ∷ 6 ∷ 0 ∷ (replicate 758 0 ++ last)))

abbrev running : List ℕ
running = asked 2 0 0 (replicate 16 0)

abbrev answered : List ℕ
answered = asked 3 2 1 (kept 1)

abbrev again : List ℕ
again = asked 2 0 0 (kept 0)

abbrev cancelled : List ℕ
cancelled = 1 ∷ 0 ∷ 2 ∷ 2 ∷ 7 ∷ 0 ∷ (replicate 961 0 ++ kept 0)

abbrev Record : List ℕ → Type 0
Record b = valid_bytes b ≡ true

abbrev None : List ℕ → Type 0
None b = valid_bytes b ≡ false

records : Record loaded × Record running × Record answered × Record again × Record cancelled
unfolding valid_bytes laid_out decoded numbers16 valid valid_in sizes_fit list_fits parts_fit question_fits rises_to zero_from no_question all_below is_none last_question_fits last_is_own same_flag
records = (refl, refl, refl, refl, refl)

-- state 4, yes or no 2, 982 bytes, 984 bytes, 967 and 975 bytes as layout versions 1 and 2 have
layout-broken :
    None (set loaded 0 4) × None (set loaded 1 2) × None (drop 1 (replicate 983 0)) × None (loaded ++ (0 ∷ []))
    × None (replicate 967 0) × None (replicate 975 0)
unfolding valid_bytes laid_out decoded numbers16 valid valid_in sizes_fit list_fits parts_fit question_fits rises_to zero_from no_question all_below is_none last_question_fits last_is_own same_flag
layout-broken = (refl, refl, refl, refl, refl, refl)

-- K 65, a listed node 7, a byte behind the list, roots that do not end at the root, a state 2, a state of a part that is
-- not handled
value-broken :
    None (set loaded 3 65) × None (set running 13 7) × None (set running 15 1) × None (set running 207 5)
    × None (set answered 713 2) × None (set running 713 1)
unfolding valid_bytes laid_out decoded numbers16 valid valid_in sizes_fit list_fits parts_fit question_fits rises_to zero_from no_question all_below is_none last_question_fits last_is_own same_flag
value-broken = (refl, refl, refl, refl, refl, refl)

-- of the answer that is kept: neither there nor not, a state 2, a yes or no 2, no part, 65,536 links with one part (and
-- 65,536 nodes passed over), a value of one that is not there; in answered another than the record's own; none in
-- answered; one in empty
kept-broken :
    None (set cancelled 967 2) × None (set again 968 2) × None (set again 969 2) × None (set cancelled 970 0)
    × None (set (set (set (set (set cancelled 970 1) 971 0) 973 1) 979 0) 981 1) × None (set loaded 970 1) × None (set answered 969 1)
    × None (set answered 971 2) × None (asked 3 2 1 (replicate 16 0)) × None (replicate 967 0 ++ kept 0)
unfolding valid_bytes laid_out decoded numbers16 valid valid_in sizes_fit list_fits parts_fit question_fits rises_to zero_from no_question all_below is_none last_question_fits last_is_own same_flag
kept-broken = (refl, refl, refl, refl, refl, refl, refl, refl, refl, refl)

-- of the nodes passed over: some in loaded, some before a part is handled, fewer than the links in answered (there and in the answer that
-- is kept), 131,073 with two parts, another number in the answer than the record's own, fewer than the links in one that is kept, some in
-- one that is not there; with more than the links it is a record
passed-broken :
    None (set loaded 975 1) × None (set running 975 1) × None (set (set answered 975 0) 979 0)
    × None (set (set answered 977 2) 981 2) × None (set answered 975 2) × None (set again 979 0) × None (set cancelled 981 2)
    × None (set loaded 979 1) × Record (set (set answered 975 2) 979 2) × Record (set (set answered 977 1) 981 1)
unfolding valid_bytes laid_out decoded numbers16 valid valid_in sizes_fit list_fits parts_fit question_fits rises_to zero_from no_question all_below is_none last_question_fits last_is_own same_flag
passed-broken = (refl, refl, refl, refl, refl, refl, refl, refl, refl, refl)
