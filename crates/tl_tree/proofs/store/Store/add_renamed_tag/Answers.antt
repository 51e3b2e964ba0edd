use Rattle.std.proofs.Common.{List, ap, refl, ◌∙◌, ◌≡◌, ℕ}
use Rattle.std.proofs.lemmas.Result.{IfOk-weaker}
use Rattle.tl_dom_spec.specs.Tags.{Tag}
use Rattle.tl_names.specs.declared.element_name.TheConstants.ElementName.{OTHER}
use Rattle.tl_tree.proofs.Grown.{tag-grown}
use Rattle.tl_tree.specs.Inner.Store.{bytes_of, tag_of}
use Rattle.tl_tree.specs.declared.entries.TagEntry.{TagEntry}
use Rattle.tl_tree.specs.declared.span.Span.{Span}
use Rattle.tl_tree.specs.declared.store.Store.{Store}
use Rattle.tl_tree.proofs.store.Store.add_renamed_tag.Goals as goal

abbrev renamed : Tag → List ℕ → Tag
renamed t name = record t { name = name }

renamed-tag : (s : Store) (own : TagEntry) (name : Span) → tag_of s (record own { name = name; known = OTHER }) ≡ renamed (tag_of s own) (bytes_of s name)
unfolding tag_of
renamed-tag s own name = refl

pub returns-clause-stands : goal.returns-clause-stands
returns-clause-stands c =
    let s = c.args.self.now in
    let t = c.add_bytes.new.self in
    let own = c.tag-own.result in
    IfOk-weaker c.add_tag.result _ _
    (λ n is. is ∙ (renamed-tag t own c.in_ok-name.name
    ∙ (ap (renamed (tag_of t own)) c.in_ok-name.ensures.stands
    ∙ ap (λ (like : Tag). renamed like c.args.name.now) (tag-grown s t c.add_bytes.ensures.grows own c.tag-own.ensures.within ∙ c.tag-own.ensures.stands))))
    c.add_tag.ensures.stands
