use Rattle.std.proofs.Common.{ap, arith, length, ◌∙◌}
use Rattle.std.proofs.lemmas.Bool.{and_from, and_parts}
use Rattle.tl_tree.proofs.ForeignTags.{attribute-put, behind, span-behind}
use Rattle.tl_tree.proofs.RunTexts.{bytes-length}
use Rattle.tl_tree.proofs.SaidTags.{span-kept}
use Rattle.tl_tree.proofs.Within.{span-bound}
use Rattle.tl_tree.specs.Inner.Store.{bytes_of, is_span, space_of}
use Rattle.tl_tree.proofs.foreign_tag.put_attribute.Goals as goal

pub overflow_add-result : goal.overflow_add-result
overflow_add-result c =
    let u = c.put_cased.new.store in
    let bound = span-bound (length u.page.now) (length u.side.items) c.in_ok-key.key c.in_ok-key.ensures.within in
    let long = ap length c.bytes.ensures ∙ bytes-length u c.in_ok-key.key c.in_ok-key.ensures.within in
    let prefix = c.prefix_of-key_space.ensures.within in
    let short = u.short in
    omega arith

pub overflow_sub-result : goal.overflow_sub-result
overflow_sub-result c =
    let long = ap length c.bytes.ensures ∙ bytes-length c.put_cased.new.store c.in_ok-key.key c.in_ok-key.ensures.within in
    let prefix = c.prefix_of-key_space.ensures.within in
    omega arith

pub returns-clause-stands : goal.returns-clause-stands
returns-clause-stands c =
    let s = c.args.store.now in
    let u = c.put_cased.new.store in
    let long = ap length c.bytes.ensures ∙ bytes-length u c.in_ok-key.key c.in_ok-key.ensures.within in
    let prefix = c.prefix_of-key_space.ensures.within in
    attribute-put s u c.put_cased.ensures.grows c.args.own c.requires (space_of c.args.space) c.in_ok-key.key
    (c.in_ok-key.ensures.stands ∙ c.key_words.ensures (bytes_of s c.args.own.key))
    c.prefix_of-key_space.result.0 c.prefix_of-key_space.result.1 (omega arith) c.bytes.result.now c.bytes.ensures c.prefix_of-key_space.ensures.stands

pub returns-clause-within : goal.returns-clause-within
returns-clause-within c =
    let s = c.args.store.now in
    let u = c.put_cased.new.store in
    let own = c.args.own in
    let long = ap length c.bytes.ensures ∙ bytes-length u c.in_ok-key.key c.in_ok-key.ensures.within in
    let prefix = c.prefix_of-key_space.ensures.within in
    let p = and_parts (is_span s own.key) (is_span s own.value) c.requires in
    and_from (is_span u (behind c.in_ok-key.key c.prefix_of-key_space.result.1)) (is_span u own.value)
    (span-behind u c.in_ok-key.key c.prefix_of-key_space.result.1 (omega arith) c.in_ok-key.ensures.within)
    (span-kept s u c.put_cased.ensures.grows own.value p.1)
