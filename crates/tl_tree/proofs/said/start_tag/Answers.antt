use Rattle.std.proofs.Common.{List, ap, ap₂, subst, sym, map, ℕ, ◌∙◌, ◌≡◌}
use Rattle.std.proofs.lemmas.Result.{IfOk-weaker}
use Rattle.tl_dom_spec.specs.Tags.{plain_attribute}
use Rattle.tl_html_parts.specs.Parts.{attributes_of, name_of}
use Rattle.tl_html_parts.specs.Places.{AreParts, pairs_in, part_in}
use Rattle.tl_tree.proofs.Grown.{bytes-grown, grows_trans}
use Rattle.tl_tree.specs.Inner.Said.{attributes_in, tag_with}
use Rattle.tl_tree.specs.Inner.Store.{bytes_of}
use Rattle.tl_tree.proofs.said.start_tag.Goals as goal

pub put_attributes-requires : goal.put_attributes-requires
put_attributes-requires c = subst (λ (p : List ℕ). AreParts p c.args.attributes.now) (sym c.put_name.ensures.grows.page) c.requires.attributes

pub returns-clause-tag : goal.returns-clause-tag
returns-clause-tag c =
    let page : List ℕ = c.args.store.now.page.now in
    let s = c.put_name.new.store in
    let t = c.put_attributes.new.store in
    let span = c.in_ok-name.name in
    let named : bytes_of t span ≡ name_of (part_in page c.args.name) =
    bytes-grown s t c.put_attributes.ensures.grows span c.in_ok-name.ensures.within ∙ c.in_ok-name.ensures.stands in
    let read : attributes_in t c.put_attributes.new.entries.items ≡ map plain_attribute (attributes_of (pairs_in page c.args.attributes.now)) =
    c.in_ok-put_attributes.ensures.read ∙ ap (λ (p : List ℕ). map plain_attribute (attributes_of (pairs_in p c.args.attributes.now))) c.put_name.ensures.grows.page in
    IfOk-weaker c.put_tag.result _ _ (λ tag e. e ∙ ap₂ tag_with named (ap (attributes_in t) c.as_slice.ensures.value ∙ read)) c.put_tag.ensures.stands

pub returns-in_err-put_attributes-clause-grows : goal.returns-in_err-put_attributes-clause-grows
returns-in_err-put_attributes-clause-grows c =
    grows_trans c.args.store.now c.put_name.new.store c.put_attributes.new.store c.put_name.ensures.grows c.put_attributes.ensures.grows

pub returns-clause-grows : goal.returns-clause-grows
returns-clause-grows c =
    let s = c.args.store.now in
    let u = c.put_attributes.new.store in
    grows_trans s u c.put_tag.new.store (grows_trans s c.put_name.new.store u c.put_name.ensures.grows c.put_attributes.ensures.grows) c.put_tag.ensures.grows
