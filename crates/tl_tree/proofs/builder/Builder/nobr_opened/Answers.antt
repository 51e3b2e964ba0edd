use Rattle.std.proofs.Common.{ap, ◌∙◌, ◌≡◌}
use Rattle.tl_dom_spec.specs.Body.{nobr_ended}
use Rattle.tl_dom_spec.specs.Builder.{Builder}
use Rattle.tl_dom_spec.specs.Formatting.{insert_formatting_element, reconstruct_formatting}
use Rattle.tl_tree.proofs.Built.{on-ok-is}
use Rattle.tl_tree.specs.Inner.Builders.{Said, builder_of, token_of}
use Rattle.tl_tree.proofs.builder.Builder.nobr_opened.Goals as goal

inserted : (t s : Said) (a b : Builder) → t ≡ s → a ≡ b → insert_formatting_element t.tag a ≡ insert_formatting_element s.tag b
inserted t s a b said is =
    ap (λ (own : Said). insert_formatting_element own.tag a) said ∙ ap (insert_formatting_element s.tag) is

pub returns-clause-ok : goal.returns-clause-ok
returns-clause-ok c =
    let own = c.args.self.now in
    let first = c.reconstruct_formatting.new.self in
    let ended = c.nobr_ended.new.self in
    let ready = nobr_ended c.args.name.now (reconstruct_formatting (builder_of own)) in
    on-ok-is c.insert_formatting_element.result (builder_of c.insert_formatting_element.new.self)
    (insert_formatting_element (token_of ended).tag (builder_of ended)) (insert_formatting_element (token_of own).tag ready)
    (inserted (token_of ended) (token_of own) (builder_of ended) ready
    (c.nobr_ended.ensures.token ∙ c.reconstruct_formatting.ensures.token)
    (c.in_ok-nobr_ended.ensures.ok ∙ ap (nobr_ended c.args.name.now) c.in_ok-reconstruct_formatting.ensures.ok))
    c.insert_formatting_element.ensures.ok
