use Rattle.std.proofs.Common.{List, ap, get_or, length, map, sym, ◌∙◌, ℕ}
use Rattle.std.proofs.lemmas.List.{length-map}
use Rattle.tl_tree.proofs.Tallies.{look-one, look-other}
use Rattle.tl_tree.specs.Inner.Looks.{look_by, look_of, read_on}
use Rattle.tl_tree.specs.Inner.Store.{attribute_of, bytes_of, entries_of, tag_of}
use Rattle.tl_tree.specs.declared.entries.AttributeEntry.{AttributeEntry}
use Rattle.tl_tree.specs.declared.entries.AttributeSpace.TheVariants.{Plain}
use Rattle.tl_tree.proofs.look.look_of.Goals as goal

pub returns-then-attributes-ne1 : goal.returns-then-attributes-ne1
unfolding look_of tag_of
returns-then-attributes-ne1 c =
    let s = c.args.store.now in
    let entries = entries_of s c.args.tag in
    c.read_on-name.ensures
    ∙ (ap (read_on 0) c.bytes.ensures
    ∙ sym (look-other (read_on 0 (bytes_of s c.args.tag.name)) (map (attribute_of s) entries)
    (λ e. c.if-attributes-ne1.true (ap length c.attributes-attributes.ensures ∙ (sym (length-map entries (attribute_of s)) ∙ e)))))

pub returns : goal.returns
unfolding look_of tag_of
returns c =
    let s = c.args.store.now in
    let xs = c.attributes-attributes.result.now in
    let d : AttributeEntry = record { space = Plain; key = record { start = 0; len = 0 }; value = record { start = 0; len = 0 } } in
    let own = get_or xs 0 d in
    let name = read_on 0 (bytes_of s c.args.tag.name) in
    c.read_on-2.ensures
    ∙ (ap (λ (v : List ℕ). read_on c.read_on.result v) c.bytes-3.ensures
    ∙ (ap (λ (n : ℕ). read_on n (bytes_of s own.value))
    (c.read_on.ensures
    ∙ (ap (λ (k : List ℕ). read_on c.read_on-name.result k) c.bytes-2.ensures
    ∙ ap (λ (n : ℕ). read_on n (bytes_of s own.key)) (c.read_on-name.ensures ∙ ap (read_on 0) c.bytes.ensures)))
    ∙ (sym (look-one s name xs d c.if-attributes-ne1.false)
    ∙ ap (λ (es : List AttributeEntry). look_by name (map (attribute_of s) es)) c.attributes-attributes.ensures)))
