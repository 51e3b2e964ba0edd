-- The rows of a tree, whose store has what was copied behind its text.
use Rattle.std.proofs.Common.{IsTrue, List, None, Some, [], ap, append_assoc, arith, drop, get_or, length, length-append, map, nat_le, nat_lt, refl, subst, suc, sym, take, zero, ℕ, ◌&&◌, ◌++◌, ◌+◌, ◌<◌, ◌∙◌, ◌∷◌, ◌≡◌, ◌≤◌}
use Rattle.std.proofs.lemmas.Bool.{and_from, le-leb, lt-ltb, ltb-true}
use Rattle.std.proofs.lemmas.Option.{none-some}
use Rattle.std.specs.List.{list_all}
use Rattle.std.specs.Option.{option_map}
use Rattle.tl_dom_spec.specs.HtmlForest.{HtmlForest}
use Rattle.tl_dom_spec.specs.Tags as dom
use Rattle.tl_html_spec.specs.Doctypes as doctypes
use Rattle.tl_dom_spec.specs.Marks.{marked}
use Rattle.tl_tree.proofs.Grown.{doctype-at-grown, tag-at-grown}
use Rattle.tl_tree.proofs.Listed.{all-weaker, map-same}
use Rattle.tl_tree.proofs.RowLaws.{ComesBefore, Within, rows-within}
use Rattle.tl_tree.proofs.RowLists.{EachRow}
use Rattle.tl_tree.proofs.Within.{lt-more}
use Rattle.tl_tree.specs.Inner.Lists.{in_list}
use Rattle.tl_tree.specs.Inner.RowView.{are_in_order, bytes_in, held_in, held_is_within, parent_of, row_in, row_is_within}
use Rattle.tl_tree.specs.Inner.Settling.{AreRowsOf, sizes_with, text_with}
use Rattle.tl_tree.specs.Inner.Store.{Grows, IsAlike, attribute_space_of, bytes_of, doctype_at, doctype_of, sizes_of, source_of, space_of, tag_at, tag_of, text_of}
use Rattle.tl_tree.specs.Inner.Within.{Sizes, span_is_within}
use Rattle.tl_tree.specs.Rows as rows
use Rattle.tl_tree.specs.declared.attribute_lists.AttributeLists.{AttributeLists}
use Rattle.tl_tree.specs.declared.entries.AttributeEntry.{AttributeEntry}
use Rattle.tl_tree.specs.declared.entries.DoctypeEntry.{DoctypeEntry}
use Rattle.tl_tree.specs.declared.entries.TagEntry.{TagEntry}
use Rattle.tl_tree.specs.declared.row.Held.{Held}
use Rattle.tl_tree.specs.declared.row.Held.TheVariants.{Comment, Contents, Doctype, Element, Text}
use Rattle.tl_tree.specs.declared.row.Row.{Row}
use Rattle.tl_tree.specs.declared.settling.Settled.{Settled}
use Rattle.tl_tree.specs.declared.store.Store.{Store}

-- Tags and doctypes hang on no cells

abbrev pub tag-part : List ℕ → AttributeLists → List TagEntry → ℕ → dom.Tag
tag-part text attributes tags n =
    get_or
    (map (λ (t : TagEntry). record {
      space = space_of t.space;
      name = bytes_in text t.name;
      attributes = map (λ (a : AttributeEntry). record { space = attribute_space_of a.space; key = bytes_in text a.key; value = bytes_in text a.value }) (take t.attribute_count (drop t.first_attribute (in_list attributes t.list)));
      source = source_of t.start;
    }) tags) n (dom.bare_tag [])

pub tag-parts : (s : Store) (n : ℕ) → tag_at s n ≡ tag-part (text_of s) s.attributes s.tags.items n
unfolding tag_at tag_of bytes_of
tag-parts s n = refl

abbrev pub doctype-part : List ℕ → List DoctypeEntry → ℕ → doctypes.Doctype
doctype-part text entries n =
    get_or
    (map (λ (d : DoctypeEntry). record {
      name = bytes_in text d.name;
      public_id = option_map (bytes_in text) d.public_id;
      system_id = option_map (bytes_in text) d.system_id;
      forces_quirks = d.forces_quirks;
    }) entries) n doctypes.no_doctype.own

pub doctype-parts : (s : Store) (n : ℕ) → doctype_at s n ≡ doctype-part (text_of s) s.doctypes.items n
unfolding doctype_at doctype_of bytes_of
doctype-parts s n = refl

pub text-alike : (t u : Store) → IsAlike t u → text_of u ≡ text_of t
text-alike t u a = ap (λ v. v ++ u.side.items) a.page ∙ ap (λ v. t.page.now ++ v) a.side

pub tag-alike : (t u : Store) → IsAlike t u → (n : ℕ) → tag_at u n ≡ tag_at t n
tag-alike t u a n =
    tag-parts u n
    ∙ (ap (λ v. tag-part v u.attributes u.tags.items n) (text-alike t u a)
    ∙ (ap (λ v. tag-part (text_of t) v u.tags.items n) a.attributes
    ∙ (ap (λ v. tag-part (text_of t) t.attributes v n) a.tags ∙ sym (tag-parts t n))))

pub doctype-alike : (t u : Store) → IsAlike t u → (n : ℕ) → doctype_at u n ≡ doctype_at t n
doctype-alike t u a n =
    doctype-parts u n
    ∙ (ap (λ v. doctype-part v u.doctypes.items n) (text-alike t u a)
    ∙ (ap (λ v. doctype-part (text_of t) v n) a.doctypes ∙ sym (doctype-parts t n)))

-- What is held is the same

tree-text : (s t u : Store) (copied : List ℕ) → Grows s t → t.side.items ≡ s.side.items ++ copied → IsAlike t u → text_of u ≡ text_with s copied
tree-text s t u copied g side a =
    text-alike t u a
    ∙ (ap (λ v. v ++ t.side.items) g.page
    ∙ (ap (λ v. s.page.now ++ v) side ∙ sym (append_assoc s.page.now s.side.items copied)))

tree-held : (s t u : Store) (copied : List ℕ) → Grows s t → t.side.items ≡ s.side.items ++ copied → IsAlike t u → (held : Held) → IsTrue (held_is_within (sizes_with s copied) held) → held_in u (text_of u) held ≡ held_in s (text_with s copied) held
tree-held s t u copied g side a (Element tag) h =
    ap rows.an_element (tag-alike t u a tag ∙ tag-at-grown s t g tag (ltb-true tag (length s.tags.items) h))
tree-held s t u copied g side a Contents h = refl
tree-held s t u copied g side a (Text own) h = ap (λ v. rows.a_text (marked own.source (bytes_in v own.span))) (tree-text s t u copied g side a)
tree-held s t u copied g side a (Comment own) h = ap (λ v. rows.a_comment (marked own.source (bytes_in v own.span))) (tree-text s t u copied g side a)
tree-held s t u copied g side a (Doctype n source) h =
    ap (λ v. rows.a_doctype (marked source v)) (doctype-alike t u a n ∙ doctype-at-grown s t g n (ltb-true n (length s.doctypes.items) h))

pub row-with : (node other : rows.Node) (row : Row) → node ≡ other → (let r : rows.Row = record { node = node; parent = parent_of row.parent; end = row.end } in r) ≡ (let r : rows.Row = record { node = other; parent = parent_of row.parent; end = row.end } in r)
row-with node other row e = ap (λ v. let r : rows.Row = record { node = v; parent = parent_of row.parent; end = row.end } in r) e

pub tree-rows : (t u : Store) (trees : HtmlForest) (made : Settled) → AreRowsOf trees made → Grows made.store t → t.side.items ≡ made.store.side.items ++ made.copied.items → IsAlike t u → map (row_in u (text_of u)) made.rows.items ≡ rows.rows_of trees
tree-rows t u trees made are g side a =
    let s = made.store in
    map-same (row_is_within (sizes_with s made.copied.items)) (row_in u (text_of u)) (row_in s (text_with s made.copied.items))
    (λ row h. row-with (held_in u (text_of u) row.held) (held_in s (text_with s made.copied.items) row.held) row (tree-held s t u made.copied.items g side a row.held h))
    made.rows.items are.within
    ∙ are.rows

-- In range

longer : {A : Type 0} (front all : List A) → all ≡ front ++ drop (length front) all → length front ≤ length all
longer front all e = let many = ap length e ∙ length-append front (drop (length front) all) in omega (arith, many)

held-within : (z w : Sizes) → w.page ≡ z.page → w.side ≡ z.side → z.tags ≤ w.tags → z.doctypes ≤ w.doctypes → (held : Held) → IsTrue (held_is_within z held) → IsTrue (held_is_within w held)
held-within z w page side tags entries (Element tag) h = lt-more tag z.tags w.tags h tags
held-within z w page side tags entries Contents h = h
held-within z w page side tags entries (Text own) h =
    subst (λ v. IsTrue (span_is_within v w.side own.span)) (sym page) (subst (λ v. IsTrue (span_is_within z.page v own.span)) (sym side) h)
held-within z w page side tags entries (Comment own) h =
    subst (λ v. IsTrue (span_is_within v w.side own.span)) (sym page) (subst (λ v. IsTrue (span_is_within z.page v own.span)) (sym side) h)
held-within z w page side tags entries (Doctype n source) h = lt-more n z.doctypes w.doctypes h entries

pub tree-within : (t : Store) (trees : HtmlForest) (made : Settled) → AreRowsOf trees made → Grows made.store t → t.side.items ≡ made.store.side.items ++ made.copied.items → IsTrue (list_all (row_is_within (sizes_of t)) made.rows.items)
tree-within t trees made are g side =
    let s = made.store in
    all-weaker (row_is_within (sizes_with s made.copied.items)) (row_is_within (sizes_of t))
    (λ row h. held-within (sizes_with s made.copied.items) (sizes_of t) (ap length g.page) (ap length side ∙ length-append s.side.items made.copied.items) (longer s.tags.items t.tags.items g.tags) (longer s.doctypes.items t.doctypes.items g.doctypes) row.held h)
    made.rows.items are.within

-- In order

parent-below : (parent number : ℕ) → ((p : ℕ) → parent_of parent ≡ Some p → p < number) → parent ≤ number
parent-below zero number h = omega arith
parent-below (suc p) number h = let below = h p refl in omega (arith, below)

each-order : (s : Store) (text : List ℕ) (total n : ℕ) (own : List Row) → EachRow (Within None 0 total) n (map (row_in s text) own) → IsTrue (are_in_order n own)
each-order s text total n [] h = refl
each-order s text total n (row ∷ own) h =
    let w = h.0 in
    let next : n + 1 ≡ suc n = omega arith in
    and_from (nat_le row.parent n) (nat_lt n row.end && are_in_order (suc n) own)
    (le-leb row.parent n (parent-below row.parent n w.above))
    (and_from (nat_lt n row.end) (are_in_order (suc n) own) (lt-ltb n row.end w.reaches)
    (subst (λ v. IsTrue (are_in_order v own)) next (each-order s text total (n + 1) own h.1)))

no-parent : ComesBefore None 0
no-parent p e = absurd (none-some p e)

pub tree-order : (trees : HtmlForest) (made : Settled) → AreRowsOf trees made → IsTrue (are_in_order 0 made.rows.items)
tree-order trees made are =
    let total = 0 + rows.row_count trees in
    each-order made.store (text_with made.store made.copied.items) total 0 made.rows.items
    (subst (λ v. EachRow (Within None 0 total) 0 v) (sym are.rows) (rows-within 0 None trees no-parent))
