use Rattle.std.proofs.Common.{◌≡◌, ℕ, ◌+◌, ◌*◌, ◌<◌, ◌==◌, Bool, true, false, length, List, slice_index_or, ap, ap₂, sym, ◌∙◌, arith}
use Rattle.std.proofs.lemmas.Bool.{ne_eqb}
use Rattle.tl_html_spec.specs.HtmlTokenizer.{digit_value}
use Rattle.tl_text.specs.Inner.View.{base_of, capped, is_digit_of, number_reference}
use Rattle.tl_text.proofs.Digits.{digit-read, is-digit, no-digit, no-digit-read, value-is}
use Rattle.tl_text.proofs.numbers.number_from.Goals as goal

pub returns-in-None-2-clause-row : goal.returns-in-None-2-clause-row
returns-in-None-2-clause-row c =
    let s : List ℕ = c.args.bytes.now in
    let i : ℕ = c.loop-at.at in
    let code : ℕ = c.loop-at.code in
    let lt : i < length s = omega arith in
    let g = c.if-byte-eq59.false in
    let f : (slice_index_or s i 0 == 59) ≡ false = ne_eqb (slice_index_or s i 0) 59 g in
    let zero : i + 0 ≡ i = omega arith in
    c.loop-at.invariant.read
    ∙ no-digit-read c.args.base s i code false lt (no-digit (is_digit_of c.args.base (slice_index_or s i 0)) (digit_value (slice_index_or s i 0)) (sym c.in-None.is ∙ c.digit.ensures.value)) f
    ∙ ap (number_reference code) zero
    ∙ sym c.numbered_reference-in-None-2.ensures

pub loop-at-preserved : goal.loop-at-preserved
loop-at-preserved c =
    let s : List ℕ = c.args.bytes.now in
    let i : ℕ = c.loop-at.at in
    let code : ℕ = c.loop-at.code in
    let d : ℕ = digit_value (slice_index_or s i 0) in
    let lt : i < length s = omega arith in
    let found = sym c.in-Some.is ∙ c.digit.ensures.value in
    let is : c.with_digit-code.result ≡ capped (code * base_of c.args.base + d) =
    c.with_digit-code.ensures.value
    ∙ ap₂ (λ x y. capped (code * x + y)) c.value.ensures.value (value-is (is_digit_of c.args.base (slice_index_or s i 0)) d c.in-Some.digit found) in
    record {
      read = c.loop-at.invariant.read
          ∙ digit-read c.args.base s i code c.with_digit-code.result lt (is-digit (is_digit_of c.args.base (slice_index_or s i 0)) d c.in-Some.digit found) is;
      bound = c.with_digit-code.ensures.bound;
    }
