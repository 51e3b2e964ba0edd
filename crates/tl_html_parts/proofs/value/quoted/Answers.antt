use Rattle.std.proofs.Common.{◌∙◌, ◌&&◌, ℕ, Bool, List, sym, take}
use Rattle.std.proofs.lemmas.Bool.{and_parts}
use Rattle.tl_html_parts.specs.Bytes.{is_kept_in_value}
use Rattle.tl_html_parts.specs.Inner.Tail.{is_other}
use Rattle.tl_html_parts.proofs.Modes.{all_of}
use Rattle.tl_html_parts.proofs.Splits.{run_to}
use Rattle.tl_html_parts.proofs.value.quoted.Goals as goal

abbrev plain : ℕ → ℕ → Bool
plain quote b = is_other quote b && is_kept_in_value b

pub returns-then-is_at-clause-run : goal.returns-then-is_at-clause-run
returns-then-is_at-clause-run c =
    let t : List ℕ = c.args.text.now in
    let q : ℕ = c.args.quote in
    let k : ℕ = c.plain_len-plain.result in
    run_to q t k
    (all_of (plain q) (is_other q) (λ b h. (and_parts (is_other q b) (is_kept_in_value b) h).0) (take k t) c.plain_len-plain.ensures.plain)
    c.plain_len-plain.ensures.within (sym c.is_at.ensures ∙ c.if-is_at.true)

pub returns-then-is_at-clause-plain : goal.returns-then-is_at-clause-plain
returns-then-is_at-clause-plain c = λ _.
    let q : ℕ = c.args.quote in
    all_of (plain q) is_kept_in_value (λ b h. (and_parts (is_other q b) (is_kept_in_value b) h).1) (take c.plain_len-plain.result c.args.text.now) c.plain_len-plain.ensures.plain
