use Rattle.std.proofs.Common.{[], arith, is_ok, refl, ◌++◌, ◌∙◌, ◌∷◌}
use Rattle.tl_tree.proofs.Grown.{tag-added}
use Rattle.tl_tree.proofs.KnownNames.{known-found, known-pushed, named-same, numbered-found, numbered-kept}
use Rattle.tl_tree.proofs.Listed.{all-pushed, appended-longer, begins-of, begins-refl}
use Rattle.tl_tree.proofs.Within.{cells-more}
use Rattle.tl_tree.specs.Inner.Store.{is_tag, sizes_of}
use Rattle.tl_tree.specs.Inner.Within.{known_in, known_of, number_of, numbered_in}
use Rattle.tl_tree.specs.declared.entries.TagEntry.{TagEntry}
use Rattle.tl_tree.proofs.store.Store.add_tag.Goals as goal

pub invariant_of-self-in-Break-1 : goal.invariant_of-self-in-Break-1
invariant_of-self-in-Break-1 c =
    let s = c.args.self.now in
    record {
      short = s.short;
      attributes_within = s.attributes_within;
      keys_placed = s.keys_placed;
      tags_within = s.tags_within;
      names_known = s.names_known;
      names_numbered = numbered-kept s.names c.meet.new.self (s.page.now ++ s.side.items) c.meet.ensures.kept s.tags.items s.names_numbered;
      doctypes_within = s.doctypes_within;
      cells_within = s.cells_within;
    }

pub invariant_of-self-2-clause-tags_within : goal.invariant_of-self-2-clause-tags_within
invariant_of-self-2-clause-tags_within c =
    let s = c.args.self.now in
    let own : TagEntry = record c.args.tag { known = c.of-known.result; number = c.in_ok-meet.field-0 } in
    all-pushed (is_tag s) (is_ok c.push.result) s.tags.items c.push.new.self.items own c.push.ensures.items s.tags_within c.requires

pub invariant_of-self-2-clause-names_known : goal.invariant_of-self-2-clause-names_known
invariant_of-self-2-clause-names_known c =
    let s = c.args.self.now in
    let own : TagEntry = record c.args.tag { known = c.of-known.result; number = c.in_ok-meet.field-0 } in
    known-pushed known_of (known_in (s.page.now ++ s.side.items)) (is_ok c.push.result) s.tags.items c.push.new.self.items own c.push.ensures.items s.names_known
    (known-found s.page.now s.side.items c.deref.result.now own c.bytes_at-name.result.now c.of-known.result c.deref.ensures.value c.bytes_at-name.ensures c.of-known.ensures)

pub invariant_of-self-2-clause-names_numbered : goal.invariant_of-self-2-clause-names_numbered
invariant_of-self-2-clause-names_numbered c =
    let s = c.args.self.now in
    let names = c.meet.new.self in
    let text = s.page.now ++ s.side.items in
    let own : TagEntry = record c.args.tag { known = c.of-known.result; number = c.in_ok-meet.field-0 } in
    known-pushed number_of (numbered_in names text) (is_ok c.push.result) s.tags.items c.push.new.self.items own c.push.ensures.items
    (numbered-kept s.names names text c.meet.ensures.kept s.tags.items s.names_numbered)
    (numbered-found names s.page.now s.side.items c.deref.result.now own c.bytes_at-name.result.now c.in_ok-meet.field-0 c.deref.ensures.value c.bytes_at-name.ensures c.in_ok-meet.ensures.own)

pub invariant_of-self-2-clause-cells_within : goal.invariant_of-self-2-clause-cells_within
invariant_of-self-2-clause-cells_within c =
    let s = c.args.self.now in
    let own : TagEntry = record c.args.tag { known = c.of-known.result; number = c.in_ok-meet.field-0 } in
    let longer = appended-longer (is_ok c.push.result) s.tags.items c.push.new.self.items (own ∷ []) c.push.ensures.items in
    cells-more (sizes_of s) _ (record { page = refl; side = omega arith; tags = longer; doctypes = omega arith }) 0 s.cells.items s.cells_within

pub returns-clause-stands : goal.returns-clause-stands
returns-clause-stands c =
    let s = c.args.self.now in
    let own : TagEntry = record c.args.tag { known = c.of-known.result; number = c.in_ok-meet.field-0 } in
    let e = c.in_ok-push.ensures.items in
    tag-added s _
    (record { page = refl; side = begins-refl s.side.items; attributes = begins-refl s.attributes.tags.items; html_attributes = begins-refl s.attributes.html.items; body_attributes = begins-refl s.attributes.body.items; tags = begins-of s.tags.items c.push.new.self.items (own ∷ []) e; doctypes = begins-refl s.doctypes.items; cells = begins-refl s.cells.items })
    own e c.requires c.len-number.result (c.len-number.ensures ∙ s.tags.ok.0)
    ∙ named-same s c.args.tag c.of-known.result c.in_ok-meet.field-0
