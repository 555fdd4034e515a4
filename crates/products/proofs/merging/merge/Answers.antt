-- Each refusal is that of the first check that fails, and past the checks the merged table is written.
use Rattle.std.proofs.Common.{◌∙◌, [], refl, sym, arith}
use Rattle.formats.proofs.RuleLaws.{rules-pass}
use Rattle.formats.proofs.RefusalLaws.{number-not-0}
use Rattle.products.proofs.merging.MergeLaws.{refused-done, first-no, second-no, labels-no, product-most, states-no}
use Rattle.products.proofs.merging.MergeLaws.{labels_most, room-no, table-args, merged-done, counted}
use Rattle.products.proofs.merging.merge.Goals as goal

pub returns-in_err-check_rule_bytes : goal.returns-in_err-check_rule_bytes
returns-in_err-check_rule_bytes c =
    refused-done _ _ _ c.in_err-check_rule_bytes.field-0.0 _ c.from_residual.ensures.1
    (first-no _ _ _ _ c.in_err-check_rule_bytes.ensures (number-not-0 _))

pub returns-in_err-check_rule_bytes-2 : goal.returns-in_err-check_rule_bytes-2
returns-in_err-check_rule_bytes-2 c =
    refused-done _ _ _ c.in_err-check_rule_bytes-2.field-0.0 _ c.from_residual-in_err-check_rule_bytes-2.ensures.1
    (second-no _ _ _ (sym c.in_ok-check_rule_bytes.ensures) _ c.in_err-check_rule_bytes-2.ensures (number-not-0 _))

pub read32-k-requires : goal.read32-k-requires
read32-k-requires c = omega (arith, (rules-pass _ (sym c.in_ok-check_rule_bytes.ensures)).long)

pub read32-requires : goal.read32-requires
read32-requires c = omega (arith, (rules-pass _ (sym c.in_ok-check_rule_bytes-2.ensures)).long)

pub returns-then-read32-k : goal.returns-then-read32-k
returns-then-read32-k c =
    refused-done _ _ _ _ _ refl
    (labels-no _ _ _ (sym c.in_ok-check_rule_bytes.ensures)
    (sym c.in_ok-check_rule_bytes-2.ensures)
    (λ e. c.if-read32-k.true (c.read32.ensures ∙ sym e ∙ sym c.read32-k.ensures)))

pub read32-s1-requires : goal.read32-s1-requires
read32-s1-requires c = omega (arith, (rules-pass _ (sym c.in_ok-check_rule_bytes.ensures)).long)

pub read32-s2-requires : goal.read32-s2-requires
read32-s2-requires c = omega (arith, (rules-pass _ (sym c.in_ok-check_rule_bytes-2.ensures)).long)

pub overflow_mul-s : goal.overflow_mul-s
overflow_mul-s c =
    let C = counted c.in_ok-check_rule_bytes.ensures c.in_ok-check_rule_bytes-2.ensures
    c.read32-k.ensures c.read32.ensures c.if-read32-k.false c.read32-s1.ensures c.read32-s2.ensures in
    omega (arith, product-most _ _ [] C.one C.two _ _ C.of_one C.of_two)

pub returns-then-s-gt-STATE_LIMIT : goal.returns-then-s-gt-STATE_LIMIT
returns-then-s-gt-STATE_LIMIT c =
    let C = counted c.in_ok-check_rule_bytes.ensures c.in_ok-check_rule_bytes-2.ensures
    c.read32-k.ensures c.read32.ensures c.if-read32-k.false c.read32-s1.ensures c.read32-s2.ensures in
    refused-done _ _ _ _ _ refl (states-no _ _ _ C.one C.two C.same _ _ _ C.of_one C.of_two C.labels c.if-s-gt-STATE_LIMIT.true)

pub overflow_add-k : goal.overflow_add-k
overflow_add-k c =
    let C = counted c.in_ok-check_rule_bytes.ensures c.in_ok-check_rule_bytes-2.ensures
    c.read32-k.ensures c.read32.ensures c.if-read32-k.false c.read32-s1.ensures c.read32-s2.ensures in
    omega (arith, labels_most _ _ [] C.one C.two C.same _ _ _ C.of_one C.of_two C.labels)

pub inner_count-requires : goal.inner_count-requires
inner_count-requires c =
    let C = counted c.in_ok-check_rule_bytes.ensures c.in_ok-check_rule_bytes-2.ensures
    c.read32-k.ensures c.read32.ensures c.if-read32-k.false c.read32-s1.ensures c.read32-s2.ensures in
    record { states = omega (arith, c.if-s-gt-STATE_LIMIT.false); labels = labels_most _ _ [] C.one C.two C.same _ _ _ C.of_one C.of_two C.labels }

pub overflow_add-k-2 : goal.overflow_add-k-2
overflow_add-k-2 c =
    let C = counted c.in_ok-check_rule_bytes.ensures c.in_ok-check_rule_bytes-2.ensures
    c.read32-k.ensures c.read32.ensures c.if-read32-k.false c.read32-s1.ensures c.read32-s2.ensures in
    omega (arith, labels_most _ _ [] C.one C.two C.same _ _ _ C.of_one C.of_two C.labels, c.inner_count.ensures.fits)

pub overflow_add-k-3 : goal.overflow_add-k-3
overflow_add-k-3 c =
    let C = counted c.in_ok-check_rule_bytes.ensures c.in_ok-check_rule_bytes-2.ensures
    c.read32-k.ensures c.read32.ensures c.if-read32-k.false c.read32-s1.ensures c.read32-s2.ensures in
    omega (arith, labels_most _ _ [] C.one C.two C.same _ _ _ C.of_one C.of_two C.labels, c.inner_count.ensures.fits, c.if-s-gt-STATE_LIMIT.false)

pub returns-then-out-k : goal.returns-then-out-k
returns-then-out-k c =
    let C = counted c.in_ok-check_rule_bytes.ensures c.in_ok-check_rule_bytes-2.ensures
    c.read32-k.ensures c.read32.ensures c.if-read32-k.false c.read32-s1.ensures c.read32-s2.ensures in
    refused-done _ _ _ _ _ refl
    (room-no _ _ _ C.one C.two C.same _ _ _ C.of_one C.of_two C.labels (omega (arith, c.if-s-gt-STATE_LIMIT.false)) _
    c.inner_count.ensures.value c.if-out-k.true)

pub put_table-requires : goal.put_table-requires
put_table-requires c =
    let C = counted c.in_ok-check_rule_bytes.ensures c.in_ok-check_rule_bytes-2.ensures
    c.read32-k.ensures c.read32.ensures c.if-read32-k.false c.read32-s1.ensures c.read32-s2.ensures in
    table-args _ _ _ C.one C.two C.same _ _ _ C.of_one C.of_two C.labels (omega (arith, c.if-s-gt-STATE_LIMIT.false)) _
    c.inner_count.ensures.value (omega (arith, c.if-out-k.false))

pub returns : goal.returns
returns c =
    let C = counted c.in_ok-check_rule_bytes.ensures c.in_ok-check_rule_bytes-2.ensures
    c.read32-k.ensures c.read32.ensures c.if-read32-k.false c.read32-s1.ensures c.read32-s2.ensures in
    merged-done _ _ _ C.one C.two C.same _ _ _ C.of_one C.of_two C.labels (omega (arith, c.if-s-gt-STATE_LIMIT.false)) _
    c.inner_count.ensures.value (omega (arith, c.if-out-k.false)) _ c.put_table.ensures
