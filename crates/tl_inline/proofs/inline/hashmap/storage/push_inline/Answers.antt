use Rattle.std.proofs.Common.{◌∙◌, sym, subst}
use Rattle.std.specs.List.{IsDistinct}
use Rattle.std.specs.Map.{keys_of}
use Rattle.tl_spec.proofs.Tree.Pairs.{insert_new, distinct_insert}
use Rattle.tl_inline.proofs.inline.hashmap.storage.push_inline.Goals as goal

pub returns-clause-entries : goal.returns-clause-entries
returns-clause-entries g c =
    c.push.ensures.items ∙ sym (insert_new g.K.PartialEq.eq c.args.inline.now.items c.args.key c.args.value c.requires.new)

pub returns-clause-unique : goal.returns-clause-unique
returns-clause-unique g c =
    let e = c.push.ensures.items ∙ sym (insert_new g.K.PartialEq.eq c.args.inline.now.items c.args.key c.args.value c.requires.new) in
    λ s. subst (λ l. IsDistinct g.K.PartialEq.eq (keys_of l)) (sym e)
    (distinct_insert g.K.PartialEq.eq g.met.K.Eq.laws c.args.inline.now.items c.args.key c.args.value s)
