use Rattle.std.proofs.Common.{◌<◌, ◌≤◌, ◌+◌, ℕ, List, length, length-drop, drop, arith}
use Rattle.std.proofs.lemmas.List.{take_rest}
use Rattle.tl_html_tokens.proofs.Through.{attribute}
use Rattle.tl_html_tokens.proofs.attributes.attribute_len.Goals as goal

pub returns-then-text-end-eq34-clause-attribute : goal.returns-then-text-end-eq34-clause-attribute
returns-then-text-end-eq34-clause-attribute c = λ tag some.
    let s : List ℕ = c.args.text.now in
    let k : ℕ = c.name_len-key.result in
    let v : ℕ = c.value_len.result in
    let value = rw take_rest at c.value_len.ensures.quiet in
    attribute tag s k v (let ne = c.if-key-eq0.false in omega arith) c.if-end-text.true c.name_len-key.ensures.quiet c.if-text-key-ne61.false c.if-text-key-ne34.false value c.if-text-end-eq34.true
