use Rattle.std.proofs.Common.{List, OnOk, Option, Some, ap, refl, subst, ◌∙◌, ◌≡◌, ℕ}
use Rattle.tl_dom_spec.specs.Body.{anchor_ended}
use Rattle.tl_dom_spec.specs.Builder.{Builder}
use Rattle.tl_dom_spec.specs.Formatting.{Listed}
use Rattle.tl_dom_spec.specs.Tags.{bare_tag}
use Rattle.tl_tree.specs.Inner.Active.{listed_of}
use Rattle.tl_tree.specs.Inner.Builders.{builder_of}
use Rattle.tl_tree.proofs.builder.Builder.anchor_ended.Goals as goal

-- of the tag the name alone counts
by-name : (own : Listed) (b : Builder) → anchor_ended (Some (record { number = own.number; tag = bare_tag own.tag.name })) b ≡ anchor_ended (Some own) b
by-name own b = refl

pub returns-clause-ok : goal.returns-clause-ok
returns-clause-ok c =
    let b = builder_of c.args.self.now in
    subst (λ (after : Builder). OnOk c.listed_ended.result (builder_of c.listed_ended.new.self ≡ after))
    (ap (λ (name : List ℕ). anchor_ended (Some (record { number = c.in-Some.own.number; tag = bare_tag name })) b) (c.deref.ensures.value ∙ c.in_ok-name.ensures)
    ∙ (by-name (listed_of c.args.self.now.path.store c.in-Some.own) b
    ∙ ap (λ (own : Option Listed). anchor_ended own b) c.in-Some.ensures.stands))
    c.listed_ended.ensures.ok
