use Rattle.std.proofs.Common.{arith, is_ok, length, refl}
use Rattle.tl_names.specs.ElementNames.{name_of}
use Rattle.tl_tree.proofs.Grown.{bytes-added}
use Rattle.tl_tree.proofs.KnownNames.{known-longer, placed-longer}
use Rattle.tl_tree.proofs.Listed.{all-weaker, appended-at_most, appended-longer}
use Rattle.tl_tree.proofs.Within.{attribute-more, cells-more, doctype-more, tag-more}
use Rattle.tl_tree.specs.Inner.Lists.{many_in}
use Rattle.tl_tree.specs.Inner.MetNames.{number_in}
use Rattle.tl_tree.specs.Inner.Store.{is_attribute, is_doctype, is_tag, list_in, sizes_of}
use Rattle.tl_tree.specs.Inner.Within.{attribute_is_within, doctype_is_within, known_of, number_of, tag_is_within}
use Rattle.tl_tree.proofs.store.Store.add_bytes.Goals as goal

pub invariant_of-self-clause-short : goal.invariant_of-self-clause-short
invariant_of-self-clause-short c =
    let s = c.args.self.now in
    let most = appended-at_most (is_ok c.extend_from_slice.result) s.side.items c.extend_from_slice.new.self.items c.args.bytes.now c.extend_from_slice.ensures.items in
    let own = s.side.ok.0 in
    let short = s.short in
    omega arith

pub invariant_of-self-clause-attributes_within : goal.invariant_of-self-clause-attributes_within
invariant_of-self-clause-attributes_within c list =
    let s = c.args.self.now in
    let page = length s.page.now in
    let side = length s.side.items in
    let new = length c.extend_from_slice.new.self.items in
    let longer = appended-longer (is_ok c.extend_from_slice.result) s.side.items c.extend_from_slice.new.self.items c.args.bytes.now c.extend_from_slice.ensures.items in
    all-weaker (is_attribute s) (attribute_is_within page new) (λ a h. attribute-more page side new a longer h) (list_in s list) (s.attributes_within list)

pub invariant_of-self-clause-tags_within : goal.invariant_of-self-clause-tags_within
invariant_of-self-clause-tags_within c =
    let s = c.args.self.now in
    let page = length s.page.now in
    let side = length s.side.items in
    let new = length c.extend_from_slice.new.self.items in
    let own = many_in s.attributes in
    let longer = appended-longer (is_ok c.extend_from_slice.result) s.side.items c.extend_from_slice.new.self.items c.args.bytes.now c.extend_from_slice.ensures.items in
    all-weaker (is_tag s) (tag_is_within page new own) (λ t h. tag-more page side new own own t longer (λ list. omega arith) h) s.tags.items s.tags_within

pub invariant_of-self-clause-keys_placed : goal.invariant_of-self-clause-keys_placed
invariant_of-self-clause-keys_placed c =
    let s = c.args.self.now in
    placed-longer s.page.now s.side.items c.extend_from_slice.new.self.items c.args.bytes.now (is_ok c.extend_from_slice.result) s.attributes c.extend_from_slice.ensures.items s.attributes_within s.keys_placed

pub invariant_of-self-clause-names_known : goal.invariant_of-self-clause-names_known
invariant_of-self-clause-names_known c =
    let s = c.args.self.now in
    known-longer known_of name_of s.page.now s.side.items c.extend_from_slice.new.self.items c.args.bytes.now (many_in s.attributes) (is_ok c.extend_from_slice.result) s.tags.items c.extend_from_slice.ensures.items s.tags_within s.names_known

pub invariant_of-self-clause-names_numbered : goal.invariant_of-self-clause-names_numbered
invariant_of-self-clause-names_numbered c =
    let s = c.args.self.now in
    known-longer number_of (number_in s.names) s.page.now s.side.items c.extend_from_slice.new.self.items c.args.bytes.now (many_in s.attributes) (is_ok c.extend_from_slice.result) s.tags.items c.extend_from_slice.ensures.items s.tags_within s.names_numbered

pub invariant_of-self-clause-doctypes_within : goal.invariant_of-self-clause-doctypes_within
invariant_of-self-clause-doctypes_within c =
    let s = c.args.self.now in
    let page = length s.page.now in
    let side = length s.side.items in
    let new = length c.extend_from_slice.new.self.items in
    let longer = appended-longer (is_ok c.extend_from_slice.result) s.side.items c.extend_from_slice.new.self.items c.args.bytes.now c.extend_from_slice.ensures.items in
    all-weaker (is_doctype s) (doctype_is_within page new) (λ d h. doctype-more page side new d longer h) s.doctypes.items s.doctypes_within

pub invariant_of-self-clause-cells_within : goal.invariant_of-self-clause-cells_within
invariant_of-self-clause-cells_within c =
    let s = c.args.self.now in
    let longer = appended-longer (is_ok c.extend_from_slice.result) s.side.items c.extend_from_slice.new.self.items c.args.bytes.now c.extend_from_slice.ensures.items in
    cells-more (sizes_of s) _ (record { page = refl; side = longer; tags = omega arith; doctypes = omega arith }) 0 s.cells.items s.cells_within

pub returns-clause-stands : goal.returns-clause-stands
returns-clause-stands c =
    let s = c.args.self.now in
    let own = s.side.ok.0 in
    bytes-added s _ c.args.bytes.now _ refl c.in_ok-extend_from_slice.ensures.items (omega arith) (omega arith)
