use Rattle.std.proofs.Common.{◌∙◌, ap, encode_utf8_all, sym, true≢false}
use Rattle.std.proofs.lemmas.Slice.Eq.{bytes_eq-Decides}
use Rattle.std.specs.Str.Lossy.{utf8_lossy}
use Rattle.tl_encoding.specs.Utf8.{utf_8}
use Rattle.tl_encoding.proofs.Replaced.{of_any}
use Rattle.tl_encoding.proofs.marks.without_marks.Goals as goal

pub returns-then-eq-clause-reads : goal.returns-then-eq-clause-reads
returns-then-eq-clause-reads c =
    of_any c.in_ok-bytes.bytes.items ∙ sym (c.as_str.ensures.value ∙ c.in_ok-own.ensures.lossy ∙ ap utf8_lossy c.as_slice.ensures.value)
    ∙ (bytes_eq-Decides _ _).0 (sym c.eq.ensures ∙ c.if-eq.true)

pub returns-else-eq-clause-none : goal.returns-else-eq-clause-none
returns-else-eq-clause-none c =
    λ e same.
    let own = c.as_str.ensures.value ∙ c.in_ok-own.ensures.lossy ∙ ap utf8_lossy c.as_slice.ensures.value ∙ sym (of_any c.in_ok-bytes.bytes.items) in
    let is = (bytes_eq-Decides c.as_str.result.now c.args.read.now).1 (own ∙ ap (λ b. encode_utf8_all (utf_8 b)) c.in_ok-bytes.ensures ∙ same) in
    true≢false (sym is ∙ sym c.eq.ensures ∙ c.if-eq.false)
