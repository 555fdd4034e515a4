-- The crate's theorems.
--     calls-tell      the calls that the program makes for a question return the definition's answer, on what an
--                     accepted Load left
--     chunks-alike    the lines do not depend on how the input is cut into chunks
--     said_of_parts   what the program says to an input is what it says to the parts that came of it
--     said-of-whole   which, where all of it came, are what it is made of
--     said-in-chunks  and that is the lines of one chunk after another, however the questions are cut
--     said-refused    or Load's refusal
--     sample-lines    document 01's nine questions, as bytes, give the nine lines, as text
--     sample-said     and so do the sample's 121 bytes
--     said-of-nothing, said-too-large, said-cut-short     inputs that end early, or state too much
use Prim.Native.Nat.{ℕ, suc, ◌≤◌}
use mathlib.Core.Path.{◌≡◌, refl, ap, sym, ◌∙◌}
use mathlib.Core.Bool.{true, false}
use mathlib.Core.List.{List, [], ◌∷◌, ◌++◌}
use lib.ListN.{length, take}
use Rattle.formats.specs.Checks.{first_no, rule_table_checks}
use Rattle.formats.specs.Inputs.{Inputs}
use Rattle.reference.specs.Sample.{computing, plan_a, table_a}
use Rattle.controls.proofs.PassedControls.{plan_gap}
use Rattle.session.specs.declared.state.Session.{Session}
use Rattle.whatif.specs.Question.{nodes_in, labels_within}
use Rattle.whatif.specs.Asked.{asked_on}
use Rattle.whatif.specs.Cleared.{answer_by, answer_to, Cleared}
use Rattle.whatif.specs.Text.{places_in, decimal}
use Rattle.whatif.specs.Input.{too_large}
use Rattle.whatif.specs.Line.{yes_or_no, refused_word, refused_line, line_of}
use Rattle.whatif.specs.Stream.{question_line, open_after, open_by, line_after, lines_by}
use Rattle.whatif.specs.Said.{stated_plan, stated_rules, stated_questions, questions_of, too_large_line, said_by, said_to, said}
use Rattle.whatif.specs.Turns.{Came, joined, lines_over}
use Rattle.whatif.proofs.ClearedLaws.{cleared-answer}
use Rattle.whatif.proofs.SaidLaws.{said-parts, parts-of-whole, in-limits-said, lines-over}
use Rattle.whatif.proofs.StreamLaws.{lines-chunks}

pub calls-tell : (s : Session) (x : Inputs) (vs bs : List ℕ) → Cleared s x → asked_on s x vs bs ≡ answer_to x.plan x.rules vs bs
calls-tell = cleared-answer

pub chunks-alike : (f : List ℕ → List ℕ) (q c d : List ℕ) → lines_by f q (c ++ d) ≡ lines_by f q c ++ lines_by f (open_by q c) d
chunks-alike = lines-chunks

-- h, p, r are the lengths, plan and rules that came of the input w, and qs what came of its questions
pub said_of_parts : (w h p r qs : List ℕ) → Came w h p r → questions_of w ≡ qs → said w ≡ said_to h p r qs
said_of_parts = said-parts

-- an input that comes whole has those parts
pub said-of-whole : (h p r qs : List ℕ) → length h ≡ 12 → length p ≡ stated_plan h → length r ≡ stated_rules h
    → length qs ≤ stated_questions h → said (h ++ (p ++ (r ++ qs))) ≡ said_to h p r qs
said-of-whole h p r qs l m n k =
    let c = parts-of-whole h p r qs l m n k in
    said-parts (h ++ (p ++ (r ++ qs))) h p r qs c.0 c.1

-- cs are chunks of any length
pub said-in-chunks : (h p r : List ℕ) (cs : List (List ℕ)) → too_large (stated_plan h) (stated_rules h) ≡ false
    → first_no (rule_table_checks p r) ≡ 0 → said_to h p r (joined cs) ≡ lines_over (question_line p r) [] cs
unfolding said_by
said-in-chunks h p r cs t e =
    in-limits-said h p r (joined cs) t
    ∙ (ap (λ (n : ℕ). said_by n p r (joined cs)) e ∙ sym (lines-over (question_line p r) [] cs))

-- "where Load refuses, that refusal only"
pub said-refused : (h p r qs : List ℕ) (n : ℕ) → too_large (stated_plan h) (stated_rules h) ≡ false
    → first_no (rule_table_checks p r) ≡ suc n → said_to h p r qs ≡ refused_line (suc n)
unfolding said_by
said-refused h p r qs n t e = in-limits-said h p r qs t ∙ ap (λ (k : ℕ). said_by k p r qs) e

-- "For the questions (none); 0→0; 0→0 2→0; 0→0 3→1; 4→0; 6→0; 7→0; 0→2; 0→0 0→1"
questions_a : List ℕ
questions_a =
    0 ∷ 0
    ∷ 1 ∷ 0 ∷ 0 ∷ 0 ∷ 0
    ∷ 2 ∷ 0 ∷ 0 ∷ 0 ∷ 0 ∷ 2 ∷ 0 ∷ 0
    ∷ 2 ∷ 0 ∷ 0 ∷ 0 ∷ 0 ∷ 3 ∷ 0 ∷ 1
    ∷ 1 ∷ 0 ∷ 4 ∷ 0 ∷ 0
    ∷ 1 ∷ 0 ∷ 6 ∷ 0 ∷ 0
    ∷ 1 ∷ 0 ∷ 7 ∷ 0 ∷ 0
    ∷ 1 ∷ 0 ∷ 0 ∷ 0 ∷ 2
    ∷ 2 ∷ 0 ∷ 0 ∷ 0 ∷ 0 ∷ 0 ∷ 0 ∷ 1
    ∷ []

-- a line of one-digit numbers, by the codes of its digits
outcome_text : ℕ → List ℕ → ℕ → ℕ → ℕ → List ℕ
outcome_text q y p l d = (q ∷ y) ++ (p ∷ 32 ∷ l ∷ 32 ∷ d ∷ 10 ∷ [])

refused_text : ℕ → List ℕ
refused_text d = refused_word ++ (49 ∷ d ∷ 10 ∷ [])

refused_text1 : ℕ → List ℕ
refused_text1 d = refused_word ++ (d ∷ 10 ∷ [])

-- "1 yes 1 0 0", "0 no 2 1 1", "1 yes 3 0 0", "0 no 5 0 0", "0 no 2 1 1", "1 yes 1 0 0", "refused 13", "refused 14", "1 yes 1 0 0"
lines_a : List ℕ
unfolding outcome_text refused_text
lines_a =
    outcome_text 49 (32 ∷ 121 ∷ 101 ∷ 115 ∷ 32 ∷ []) 49 48 48
    ++ (outcome_text 48 (32 ∷ 110 ∷ 111 ∷ 32 ∷ []) 50 49 49
    ++ (outcome_text 49 (32 ∷ 121 ∷ 101 ∷ 115 ∷ 32 ∷ []) 51 48 48
    ++ (outcome_text 48 (32 ∷ 110 ∷ 111 ∷ 32 ∷ []) 53 48 48
    ++ (outcome_text 48 (32 ∷ 110 ∷ 111 ∷ 32 ∷ []) 50 49 49
    ++ (outcome_text 49 (32 ∷ 121 ∷ 101 ∷ 115 ∷ 32 ∷ []) 49 48 48
    ++ (refused_text 51 ++ (refused_text 52 ++ outcome_text 49 (32 ∷ 121 ∷ 101 ∷ 115 ∷ 32 ∷ []) 49 48 48)))))))

sample-lines : lines_by (question_line plan_a table_a) [] questions_a ≡ lines_a
unfolding computing plan_a table_a questions_a lines_a lines_by line_after open_after question_line nodes_in labels_within answer_by line_of decimal
    places_in outcome_text refused_text
sample-lines = refl

-- "three 32-bit lengths (plan, rules, questions), then those bytes"
sample_a : List ℕ
unfolding plan_a table_a questions_a
sample_a = 26 ∷ 0 ∷ 0 ∷ 0 ∷ 32 ∷ 0 ∷ 0 ∷ 0 ∷ 51 ∷ 0 ∷ 0 ∷ 0 ∷ plan_a ++ (table_a ++ questions_a)

sample-length : length sample_a ≡ 121
unfolding sample_a plan_a table_a questions_a
sample-length = refl

-- "it prints:"
sample-said : said sample_a ≡ lines_a
unfolding computing plan_a table_a questions_a sample_a lines_a lines_by line_after open_after question_line nodes_in labels_within
    answer_by line_of decimal places_in outcome_text refused_text said_by said_to
sample-said = refl

-- no byte at all: "missing length bytes count as 0", and a plan of no bytes gets 2
said-of-nothing : said [] ≡ refused_text1 50
unfolding computing said_by said_to decimal places_in refused_text1
said-of-nothing = refl

-- a stated plan length of 2,015, and no other length byte
said-too-large : said (223 ∷ 7 ∷ []) ≡ too_large_line
unfolding said_to
said-too-large = refl

-- 76 bytes of the sample: its first question, and all but the last byte of its second, which is dropped
said-cut-short : said (take 76 sample_a) ≡ outcome_text 49 (yes_or_no true) 49 48 48
unfolding computing plan_a table_a questions_a sample_a lines_by line_after open_after question_line nodes_in labels_within answer_by
    line_of decimal places_in outcome_text said_by said_to
said-cut-short = refl

-- document 02, S-7: where the nodes passed over, 5, are not the links, 3
gap-line : question_line plan_gap table_a (2 ∷ 0 ∷ 1 ∷ 0 ∷ 0 ∷ 3 ∷ 0 ∷ 1 ∷ []) ≡ outcome_text 48 (yes_or_no false) 50 51 53
unfolding computing plan_gap table_a question_line nodes_in labels_within answer_by line_of decimal places_in outcome_text
gap-line = refl
