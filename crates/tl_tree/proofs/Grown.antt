-- What is in range in a store stands for the same in each store that begins with it.
use Rattle.std.proofs.Common.{add-zero, ap, arith, sym, subst, ◌∙◌, ◌≡◌, ◌+◌, ◌≤◌, ◌<◌, ◌++◌, ◌&&◌, ◌∷◌, [], IsTrue, List, None, Option, Some, drop, get_or, length, length-append, map, nat_le, nat_lt, refl, slice_get, suc, take, zero, ℕ}
use Rattle.std.proofs.Math.ListN.{get_or-append}
use Rattle.std.proofs.Math.Seq.{drop-append_seam, get_or-append_seam}
use Rattle.std.proofs.lemmas.Bool.{and_parts, leb-true, ltb-true}
use Rattle.std.proofs.lemmas.List.{append_assoc, take_all}
use Rattle.std.proofs.lemmas.Option.{same_Some}
use Rattle.std.specs.Option.{option_map}
use Rattle.tl_dom_spec.specs.Marks.{marked}
use Rattle.tl_dom_spec.specs.Path.{Nodes, and_comment, and_doctype, and_element, and_text, joined, no_nodes}
use Rattle.tl_dom_spec.specs.Tags as dom
use Rattle.tl_html_spec.specs.Doctypes as doctypes
use Rattle.tl_tree.proofs.Listed.{all-drop, all-take, begins-longer, begins-refl, begins-trans, map-same, mapped-front, mapped-last, part-front}
use Rattle.tl_tree.proofs.Within.{node-more, span-bound}
use Rattle.tl_tree.specs.Inner.NameNumbers.{number_at}
use Rattle.tl_tree.specs.Inner.Store.{Begins, Grows, attribute_of, attribute_space_of, bytes_of, doctype_at, doctype_of, entries_of, is_attribute, is_doctype, is_node, is_span, is_tag, list_in, node_in, node_of, nodes_of, row_in, rows_from, rows_of, sizes_of, source_of, space_of, tag_at, tag_of, text_of}
use Rattle.tl_tree.specs.Inner.Within.{Sizes, cell_is_within, cells_are_within, id_is_within, node_is_within}
use Rattle.tl_tree.specs.declared.cell.Cell.{Cell}
use Rattle.tl_tree.specs.declared.cell.Node.{Node}
use Rattle.tl_tree.specs.declared.cell.Node.TheVariants.{Comment, Doctype, Element, Joined, Text}
use Rattle.tl_tree.specs.declared.entries.AttributeEntry.{AttributeEntry}
use Rattle.tl_tree.specs.declared.entries.AttributeList.{AttributeList}
use Rattle.tl_tree.specs.declared.entries.AttributeList.TheVariants.{Body, Html, Tags}
use Rattle.tl_tree.specs.declared.entries.DoctypeEntry.{DoctypeEntry}
use Rattle.tl_tree.specs.declared.entries.TagEntry.{TagEntry}
use Rattle.tl_tree.specs.declared.span.Span.{Span}
use Rattle.tl_tree.specs.declared.store.Store.{Store}

pub grows_refl : (s : Store) → Grows s s
grows_refl s = record {
  page = refl;
  side = begins-refl s.side.items;
  attributes = begins-refl s.attributes.tags.items;
  html_attributes = begins-refl s.attributes.html.items;
  body_attributes = begins-refl s.attributes.body.items;
  tags = begins-refl s.tags.items;
  doctypes = begins-refl s.doctypes.items;
  cells = begins-refl s.cells.items;
}

pub grows_trans : (s t u : Store) → Grows s t → Grows t u → Grows s u
grows_trans s t u p q = record {
  page = q.page ∙ p.page;
  side = begins-trans s.side.items t.side.items u.side.items p.side q.side;
  attributes = begins-trans s.attributes.tags.items t.attributes.tags.items u.attributes.tags.items p.attributes q.attributes;
  html_attributes = begins-trans s.attributes.html.items t.attributes.html.items u.attributes.html.items p.html_attributes q.html_attributes;
  body_attributes = begins-trans s.attributes.body.items t.attributes.body.items u.attributes.body.items p.body_attributes q.body_attributes;
  tags = begins-trans s.tags.items t.tags.items u.tags.items p.tags q.tags;
  doctypes = begins-trans s.doctypes.items t.doctypes.items u.doctypes.items p.doctypes q.doctypes;
  cells = begins-trans s.cells.items t.cells.items u.cells.items p.cells q.cells;
}

-- Bytes, attributes, tags, doctypes

text-grown : (s t : Store) → Grows s t → text_of t ≡ text_of s ++ drop (length s.side.items) t.side.items
text-grown s t g =
    ap (λ page. page ++ t.side.items) g.page
    ∙ (ap (λ side. s.page.now ++ side) g.side
    ∙ sym (append_assoc s.page.now s.side.items (drop (length s.side.items) t.side.items)))

pub bytes-grown : (s t : Store) → Grows s t → (span : Span) → IsTrue (is_span s span) → bytes_of t span ≡ bytes_of s span
unfolding bytes_of
bytes-grown s t g span h =
    let bound = span-bound (length s.page.now) (length s.side.items) span h in
    let many = length-append s.page.now s.side.items in
    ap (λ text. take span.len (drop span.start text)) (text-grown s t g)
    ∙ part-front span.len span.start (text_of s) (drop (length s.side.items) t.side.items) (omega arith)

pub attribute-grown : (s t : Store) → Grows s t → (a : AttributeEntry) → IsTrue (is_attribute s a) → attribute_of t a ≡ attribute_of s a
attribute-grown s t g a h =
    let p = and_parts (is_span s a.key) (is_span s a.value) h in
    ap (λ (key : List ℕ). record { space = attribute_space_of a.space; key = key; value = bytes_of t a.value }) (bytes-grown s t g a.key p.0)
    ∙ ap (λ (value : List ℕ). record { space = attribute_space_of a.space; key = bytes_of s a.key; value = value }) (bytes-grown s t g a.value p.1)

pub list-begins : (s t : Store) → Grows s t → (list : AttributeList) → Begins (list_in s list) (list_in t list)
list-begins s t g Tags = g.attributes
list-begins s t g Html = g.html_attributes
list-begins s t g Body = g.body_attributes

pub entries-kept : (s t : Store) → Grows s t → (tag : TagEntry) → tag.first_attribute + tag.attribute_count ≤ length (list_in s tag.list) → entries_of t tag ≡ entries_of s tag
entries-kept s t g tag h =
    let own = list_in s tag.list in
    ap (λ all. take tag.attribute_count (drop tag.first_attribute all)) (list-begins s t g tag.list)
    ∙ part-front tag.attribute_count tag.first_attribute own (drop (length own) (list_in t tag.list)) h

entries-grown : (s t : Store) → Grows s t → (tag : TagEntry) → tag.first_attribute + tag.attribute_count ≤ length (list_in s tag.list) → map (attribute_of t) (entries_of t tag) ≡ map (attribute_of s) (entries_of s tag)
entries-grown s t g tag h =
    ap (map (attribute_of t)) (entries-kept s t g tag h)
    ∙ map-same (is_attribute s) (attribute_of t) (attribute_of s) (attribute-grown s t g) (entries_of s tag)
    (all-take (is_attribute s) tag.attribute_count (drop tag.first_attribute (list_in s tag.list))
    (all-drop (is_attribute s) tag.first_attribute (list_in s tag.list) (s.attributes_within tag.list)))

pub tag-grown : (s t : Store) → Grows s t → (tag : TagEntry) → IsTrue (is_tag s tag) → tag_of t tag ≡ tag_of s tag
unfolding tag_of
tag-grown s t g tag h =
    let p = and_parts (is_span s tag.name) (nat_le (tag.first_attribute + tag.attribute_count) (length (list_in s tag.list))) h in
    ap (λ (name : List ℕ). record { space = space_of tag.space; name = name; attributes = map (attribute_of t) (entries_of t tag); source = source_of tag.start }) (bytes-grown s t g tag.name p.0)
    ∙ ap (λ (attributes : List dom.Attribute). record { space = space_of tag.space; name = bytes_of s tag.name; attributes = attributes; source = source_of tag.start })
    (entries-grown s t g tag (leb-true (tag.first_attribute + tag.attribute_count) (length (list_in s tag.list)) p.1))

pub tag-at-grown : (s t : Store) → Grows s t → (n : ℕ) → n < length s.tags.items → tag_at t n ≡ tag_at s n
unfolding tag_at
tag-at-grown s t g n h =
    mapped-front (is_tag s) (tag_of t) (tag_of s) (tag-grown s t g) s.tags.items t.tags.items n (dom.bare_tag []) g.tags s.tags_within h

-- the number of its name
pub number-at-grown : (s t : Store) → Grows s t → (n : ℕ) → n < length s.tags.items → number_at t n ≡ number_at s n
unfolding number_at
number-at-grown s t g n h =
    mapped-front (is_tag s) (λ (tag : TagEntry). tag.number) (λ (tag : TagEntry). tag.number) (λ tag own. refl) s.tags.items t.tags.items n 0 g.tags s.tags_within h

id-grown : (s t : Store) → Grows s t → (id : Option Span) → IsTrue (id_is_within (length s.page.now) (length s.side.items) id) → option_map (bytes_of t) id ≡ option_map (bytes_of s) id
id-grown s t g None h = refl
id-grown s t g (Some span) h = ap Some (bytes-grown s t g span h)

pub doctype-grown : (s t : Store) → Grows s t → (d : DoctypeEntry) → IsTrue (is_doctype s d) → doctype_of t d ≡ doctype_of s d
unfolding doctype_of
doctype-grown s t g d h =
    let page = length s.page.now in
    let side = length s.side.items in
    let p = and_parts (is_span s d.name) (id_is_within page side d.public_id && id_is_within page side d.system_id) h in
    let q = and_parts (id_is_within page side d.public_id) (id_is_within page side d.system_id) p.1 in
    ap (λ (name : List ℕ). record { name = name; public_id = option_map (bytes_of t) d.public_id; system_id = option_map (bytes_of t) d.system_id; forces_quirks = d.forces_quirks }) (bytes-grown s t g d.name p.0)
    ∙ (ap (λ (id : Option (List ℕ)). record { name = bytes_of s d.name; public_id = id; system_id = option_map (bytes_of t) d.system_id; forces_quirks = d.forces_quirks }) (id-grown s t g d.public_id q.0)
    ∙ ap (λ (id : Option (List ℕ)). record { name = bytes_of s d.name; public_id = option_map (bytes_of s) d.public_id; system_id = id; forces_quirks = d.forces_quirks }) (id-grown s t g d.system_id q.1))

pub doctype-at-grown : (s t : Store) → Grows s t → (n : ℕ) → n < length s.doctypes.items → doctype_at t n ≡ doctype_at s n
unfolding doctype_at
doctype-at-grown s t g n h =
    mapped-front (is_doctype s) (doctype_of t) (doctype_of s) (doctype-grown s t g) s.doctypes.items t.doctypes.items n doctypes.no_doctype.own g.doctypes s.doctypes_within h

-- Rows

-- what was there stays
pub rows-keep : (s : Store) (rows : List Nodes) (cells : List Cell) (n : ℕ) → n < length rows → get_or (rows_from s rows cells) n no_nodes ≡ get_or rows n no_nodes
rows-keep s rows [] n h = refl
rows-keep s rows (c ∷ cells) n h =
    let many = length-append rows (row_in s rows c ∷ []) in
    rows-keep s (rows ++ row_in s rows c ∷ []) cells n (omega arith)
    ∙ get_or-append rows (row_in s rows c ∷ []) no_nodes n h

pub rows-length : (s : Store) (rows : List Nodes) (cells : List Cell) → length (rows_from s rows cells) ≡ length rows + length cells
rows-length s rows [] = sym (add-zero (length rows))
rows-length s rows (c ∷ cells) =
    let many = length-append rows (row_in s rows c ∷ []) in
    let all = rows-length s (rows ++ row_in s rows c ∷ []) cells in
    omega arith

pub rows-append : (s : Store) (rows : List Nodes) (front cells : List Cell) → rows_from s rows (front ++ cells) ≡ rows_from s (rows_from s rows front) cells
rows-append s rows [] cells = refl
rows-append s rows (c ∷ front) cells = rows-append s (rows ++ row_in s rows c ∷ []) front cells

node-in-grown : (s t : Store) → Grows s t → (rows : List Nodes) (n : ℕ) (node : Node) → IsTrue (node_is_within (sizes_of s) n node) → node_in t rows node ≡ node_in s rows node
node-in-grown s t g rows n (Text own) h = ap (λ v. and_text no_nodes (marked own.source v)) (bytes-grown s t g own.span h)
node-in-grown s t g rows n (Comment own) h = ap (λ v. and_comment no_nodes (marked own.source v)) (bytes-grown s t g own.span h)
node-in-grown s t g rows n (Doctype k source) h =
    ap (λ v. and_doctype no_nodes (marked source v)) (doctype-at-grown s t g k (ltb-true k (length s.doctypes.items) h))
node-in-grown s t g rows n (Element tag below) h =
    let p = and_parts (nat_lt tag (length s.tags.items)) (nat_le below n) h in
    ap (λ (own : dom.Tag). and_element no_nodes own (get_or rows below no_nodes))
    (tag-at-grown s t g tag (ltb-true tag (length s.tags.items) p.0))
node-in-grown s t g rows n (Joined second) h = refl

rows-grown : (s t : Store) → Grows s t → (rows : List Nodes) (cells : List Cell) (n : ℕ) → IsTrue (cells_are_within (sizes_of s) n cells) → rows_from t rows cells ≡ rows_from s rows cells
rows-grown s t g rows [] n h = refl
rows-grown s t g rows (c ∷ cells) n h =
    let p = and_parts (cell_is_within (sizes_of s) n c) (cells_are_within (sizes_of s) (suc n) cells) h in
    let q = and_parts (nat_le c.before n) (node_is_within (sizes_of s) n c.node) p.0 in
    ap (λ (node : Nodes). rows_from t (rows ++ joined (get_or rows c.before no_nodes) node ∷ []) cells) (node-in-grown s t g rows n c.node q.1)
    ∙ rows-grown s t g (rows ++ row_in s rows c ∷ []) cells (suc n) p.1

abbrev first_rows : List Nodes
first_rows = no_nodes ∷ []

pub nodes-grown : (s t : Store) → Grows s t → (n : ℕ) → n ≤ length s.cells.items → nodes_of t n ≡ nodes_of s n
unfolding nodes_of rows_of
nodes-grown s t g n h =
    let rest = drop (length s.cells.items) t.cells.items in
    let many = rows-length t first_rows s.cells.items in
    ap (λ cells. get_or (rows_from t first_rows cells) n no_nodes) g.cells
    ∙ (ap (λ rows. get_or rows n no_nodes) (rows-append t first_rows s.cells.items rest)
    ∙ (rows-keep t (rows_from t first_rows s.cells.items) rest n (omega arith)
    ∙ ap (λ rows. get_or rows n no_nodes) (rows-grown s t g first_rows s.cells.items 0 s.cells_within)))

pub node-grown : (s t : Store) → Grows s t → (node : Node) → IsTrue (is_node s node) → node_of t node ≡ node_of s node
unfolding node_of nodes_of
node-grown s t g (Text own) h = ap (λ v. and_text no_nodes (marked own.source v)) (bytes-grown s t g own.span h)
node-grown s t g (Comment own) h = ap (λ v. and_comment no_nodes (marked own.source v)) (bytes-grown s t g own.span h)
node-grown s t g (Doctype k source) h =
    ap (λ v. and_doctype no_nodes (marked source v)) (doctype-at-grown s t g k (ltb-true k (length s.doctypes.items) h))
node-grown s t g (Element tag below) h =
    let p = and_parts (nat_lt tag (length s.tags.items)) (nat_le below (length s.cells.items)) h in
    ap (λ (own : dom.Tag). and_element no_nodes own (get_or (rows_of t) below no_nodes))
    (tag-at-grown s t g tag (ltb-true tag (length s.tags.items) p.0))
    ∙ ap (and_element no_nodes (tag_at s tag)) (nodes-grown s t g below (leb-true below (length s.cells.items) p.1))
node-grown s t g (Joined second) h = nodes-grown s t g second (leb-true second (length s.cells.items) h)

-- the row without nodes
pub nodes-none : (s : Store) → nodes_of s 0 ≡ no_nodes
unfolding nodes_of rows_of
nodes-none s = rows-keep s first_rows s.cells.items 0 (omega arith)

-- a cell more is a row more
pub row-added : (s t : Store) → Grows s t → (c : Cell) → t.cells.items ≡ s.cells.items ++ c ∷ [] → IsTrue (is_node s c.node) → (row : ℕ) → row ≡ length t.cells.items → nodes_of t row ≡ joined (nodes_of s c.before) (node_of s c.node)
unfolding nodes_of node_of rows_of
row-added s t g c e h row at =
    let own = rows_from s first_rows s.cells.items in
    let many = rows-length s first_rows s.cells.items in
    let more = ap length e ∙ length-append s.cells.items (c ∷ []) in
    let is : row ≡ length own = omega arith in
    let all : rows_from t first_rows t.cells.items ≡ own ++ row_in t own c ∷ [] =
    ap (rows_from t first_rows) e
    ∙ (rows-append t first_rows s.cells.items (c ∷ [])
    ∙ ap (λ (rows : List Nodes). rows ++ row_in t rows c ∷ []) (rows-grown s t g first_rows s.cells.items 0 s.cells_within)) in
    ap (λ (rows : List Nodes). get_or rows row no_nodes) all
    ∙ (ap (λ (n : ℕ). get_or (own ++ row_in t own c ∷ []) n no_nodes) is
    ∙ (get_or-append_seam own (row_in t own c) [] no_nodes
    ∙ ap (joined (get_or own c.before no_nodes)) (node-in-grown s t g own (length s.cells.items) c.node h)))

-- A cell at its place

node-kept : (s : Store) (z : Sizes) (rows all : List Nodes) (n : ℕ) → ((m : ℕ) → m ≤ n → get_or all m no_nodes ≡ get_or rows m no_nodes) → (node : Node) → IsTrue (node_is_within z n node) → node_in s all node ≡ node_in s rows node
node-kept s z rows all n kept (Text own) h = refl
node-kept s z rows all n kept (Comment own) h = refl
node-kept s z rows all n kept (Doctype k source) h = refl
node-kept s z rows all n kept (Element tag below) h =
    let p = and_parts (nat_lt tag z.tags) (nat_le below n) h in
    ap (and_element no_nodes (tag_at s tag)) (kept below (leb-true below n p.1))
node-kept s z rows all n kept (Joined second) h = kept second (leb-true second n h)

rows-at : (s : Store) (z : Sizes) (rows : List Nodes) (cells : List Cell) (n k : ℕ) (c : Cell) → length rows ≡ suc n → IsTrue (cells_are_within z n cells) → slice_get cells k ≡ Some c → (all : List Nodes) → all ≡ rows_from s rows cells → get_or all (length rows + k) no_nodes ≡ joined (get_or all c.before no_nodes) (node_in s all c.node)
rows-at s z rows [] n k c long h e all is = absurd (cc)
rows-at s z rows (d ∷ cells) n zero c long h e all is =
    let p = and_parts (cell_is_within z n d) (cells_are_within z (suc n) cells) h in
    let q = and_parts (nat_le d.before n) (node_is_within z n d.node) p.0 in
    let x : Nodes = row_in s rows d in
    let more : List Nodes = rows ++ x ∷ [] in
    let many : length more ≡ length rows + 1 = length-append rows (x ∷ []) in
    let kept : (m : ℕ) → m ≤ n → get_or all m no_nodes ≡ get_or rows m no_nodes = λ m le.
    ap (λ (a : List Nodes). get_or a m no_nodes) is
    ∙ (rows-keep s more cells m (omega arith) ∙ get_or-append rows (x ∷ []) no_nodes m (omega arith)) in
    let at : get_or all (length rows + 0) no_nodes ≡ x =
    ap (λ (i : ℕ). get_or all i no_nodes) (add-zero (length rows))
    ∙ (ap (λ (a : List Nodes). get_or a (length rows) no_nodes) is
    ∙ (rows-keep s more cells (length rows) (omega arith) ∙ get_or-append_seam rows x [] no_nodes)) in
    let own : get_or all (length rows + 0) no_nodes ≡ joined (get_or all d.before no_nodes) (node_in s all d.node) =
    at
    ∙ (ap (λ (a : Nodes). joined a (node_in s rows d.node)) (sym (kept d.before (leb-true d.before n q.0)))
    ∙ ap (joined (get_or all d.before no_nodes)) (sym (node-kept s z rows all n kept d.node q.1))) in
    subst (λ (other : Cell). get_or all (length rows + 0) no_nodes ≡ joined (get_or all other.before no_nodes) (node_in s all other.node)) (same_Some d c e) own
rows-at s z rows (d ∷ cells) n (suc k) c long h e all is =
    let p = and_parts (cell_is_within z n d) (cells_are_within z (suc n) cells) h in
    let x : Nodes = row_in s rows d in
    let more : List Nodes = rows ++ x ∷ [] in
    let many : length more ≡ length rows + 1 = length-append rows (x ∷ []) in
    let at : length rows + suc k ≡ length more + k = omega arith in
    ap (λ (i : ℕ). get_or all i no_nodes) at
    ∙ rows-at s z more cells (suc n) k c (omega arith) p.1 e all is

-- what a row is, for those who read it
pub nodes-at : (s : Store) (k : ℕ) (c : Cell) → slice_get s.cells.items k ≡ Some c → nodes_of s (suc k) ≡ joined (nodes_of s c.before) (node_of s c.node)
unfolding nodes_of node_of rows_of
nodes-at s k c e =
    let at : suc k ≡ length first_rows + k = omega arith in
    ap (λ (i : ℕ). get_or (rows_from s first_rows s.cells.items) i no_nodes) at
    ∙ rows-at s (sizes_of s) first_rows s.cells.items 0 k c refl s.cells_within e (rows_from s first_rows s.cells.items) refl

pub node-joined : (s : Store) (row : ℕ) → node_of s (Joined row) ≡ nodes_of s row
unfolding node_of nodes_of
node-joined s row = refl

-- What was put in

pub bytes-added : (s t : Store) (bytes : List ℕ) (span : Span) → t.page.now ≡ s.page.now → t.side.items ≡ s.side.items ++ bytes → span.start ≡ length s.page.now + length s.side.items → span.len ≡ length bytes → bytes_of t span ≡ bytes
unfolding bytes_of
bytes-added s t bytes span page side start len =
    let many = length-append s.page.now s.side.items in
    let at : span.start ≡ length (s.page.now ++ s.side.items) = omega arith in
    let text : t.page.now ++ t.side.items ≡ (s.page.now ++ s.side.items) ++ bytes =
    ap (λ own. own ++ t.side.items) page
    ∙ (ap (λ own. s.page.now ++ own) side ∙ sym (append_assoc s.page.now s.side.items bytes)) in
    ap (λ all. take span.len (drop span.start all)) text
    ∙ (ap (λ n. take span.len (drop n ((s.page.now ++ s.side.items) ++ bytes))) at
    ∙ (ap (take span.len) (drop-append_seam (s.page.now ++ s.side.items) bytes)
    ∙ take_all span.len bytes (omega arith)))

pub tag-added : (s t : Store) → Grows s t → (tag : TagEntry) → t.tags.items ≡ s.tags.items ++ tag ∷ [] → IsTrue (is_tag s tag) → (n : ℕ) → n ≡ length s.tags.items → tag_at t n ≡ tag_of s tag
unfolding tag_at
tag-added s t g tag e h n at =
    ap (λ tags. get_or (map (tag_of t) tags) n (dom.bare_tag [])) e
    ∙ (ap (λ i. get_or (map (tag_of t) (s.tags.items ++ tag ∷ [])) i (dom.bare_tag [])) at
    ∙ (mapped-last (tag_of t) s.tags.items tag (dom.bare_tag []) ∙ tag-grown s t g tag h))

pub doctype-added : (s t : Store) → Grows s t → (d : DoctypeEntry) → t.doctypes.items ≡ s.doctypes.items ++ d ∷ [] → IsTrue (is_doctype s d) → (n : ℕ) → n ≡ length s.doctypes.items → doctype_at t n ≡ doctype_of s d
unfolding doctype_at
doctype-added s t g d e h n at =
    ap (λ all. get_or (map (doctype_of t) all) n doctypes.no_doctype.own) e
    ∙ (ap (λ i. get_or (map (doctype_of t) (s.doctypes.items ++ d ∷ [])) i doctypes.no_doctype.own) at
    ∙ (mapped-last (doctype_of t) s.doctypes.items d doctypes.no_doctype.own ∙ doctype-grown s t g d h))

pub node-element : (s : Store) (tag below : ℕ) → node_of s (Element tag below) ≡ and_element no_nodes (tag_at s tag) (nodes_of s below)
unfolding node_of nodes_of
node-element s tag below = refl

pub is-node-grown : (s t : Store) → Grows s t → (node : Node) → IsTrue (is_node s node) → IsTrue (is_node t node)
is-node-grown s t g node h =
    node-more (sizes_of s) (sizes_of t)
    (record {
      page = ap length g.page;
      side = begins-longer s.side.items t.side.items g.side;
      tags = begins-longer s.tags.items t.tags.items g.tags;
      doctypes = begins-longer s.doctypes.items t.doctypes.items g.doctypes;
    })
    (length s.cells.items) (length t.cells.items) (begins-longer s.cells.items t.cells.items g.cells) node h
