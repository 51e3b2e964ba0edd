use Rattle.std.proofs.Common.{[], ap, sym, ◌∙◌}
use Rattle.std.specs.Str.{str_eq_ignore_ascii_case}
use Rattle.tl_bytes.proofs.Lent.{Lent, any_here, any_later, case_test}
use Rattle.tl_bytes.proofs.ascii_case.is_among_in_any_case.Goals as goal

abbrev unread : Lent
unread = record { ref_ptr = (0, 0); now = [] }

pub returns-then-eq_ignore_ascii_case : goal.returns-then-eq_ignore_ascii_case
returns-then-eq_ignore_ascii_case c =
    let word = c.args.word.now in
    sym (c.loop-own.invariant
    ∙ any_here (str_eq_ignore_ascii_case word) c.args.words.now c.loop-own.own-index unread c.loop-own-test.true
    (ap (str_eq_ignore_ascii_case word) (sym c.as_bytes.ensures.value) ∙ case_test c.eq_ignore_ascii_case.result word c.as_bytes.result.now c.eq_ignore_ascii_case.ensures.test ∙ c.if-eq_ignore_ascii_case.true))

pub loop-own-preserved : goal.loop-own-preserved
loop-own-preserved c =
    let word = c.args.word.now in
    c.loop-own.invariant
    ∙ any_later (str_eq_ignore_ascii_case word) c.args.words.now c.loop-own.own-index unread c.loop-own-test.true
    (ap (str_eq_ignore_ascii_case word) (sym c.as_bytes.ensures.value) ∙ case_test c.eq_ignore_ascii_case.result word c.as_bytes.result.now c.eq_ignore_ascii_case.ensures.test ∙ c.if-eq_ignore_ascii_case.false)
