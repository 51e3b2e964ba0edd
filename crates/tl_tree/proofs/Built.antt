-- What a builder stands for as its path changes.
use Rattle.std.proofs.Common.{Err, Ok, nat_le, ◌&&◌, ◌+◌, OnOk, Result, ap, arith, refl, ◌∙◌, ◌≡◌, ◌<◌, ◌≤◌, ◌∷◌, [], IsTrue, List, None, Option, Some, length, map, reverse, ℕ}
use Rattle.std.proofs.lemmas.Bool.{and_parts, le-leb, ltb-true}
use Rattle.std.specs.List.{list_all}
use Rattle.std.specs.Option.{option_map}
use Rattle.tl_dom_spec.specs.Builder as dom
use Rattle.tl_dom_spec.specs.Path as paths
use Rattle.tl_dom_spec.specs.Tags as tags
use Rattle.tl_html_spec.specs.Doctypes.{Doctype}
use Rattle.tl_names.specs.declared.element_name.TheConstants.ElementName.{OTHER}
use Rattle.tl_tree.proofs.ActiveNumbers.{active-grown}
use Rattle.tl_tree.proofs.Grown.{bytes-grown, doctype-at-grown, is-node-grown, tag-at-grown}
use Rattle.tl_tree.proofs.Listed.{begins-longer}
use Rattle.tl_tree.proofs.Tallies.{tallied-grown}
use Rattle.tl_tree.proofs.Within.{lt-more, or-left}
use Rattle.tl_tree.proofs.Written.{parts-of}
use Rattle.tl_tree.specs.Inner.Active.{active_of}
use Rattle.tl_tree.specs.Inner.Builders.{Said, builder_of, token_of}
use Rattle.tl_tree.specs.Inner.Framed.{frame_is_within}
use Rattle.tl_tree.specs.Inner.Frames.{path_of}
use Rattle.tl_tree.specs.Inner.Known.{AreKnown, context_is_known}
use Rattle.tl_tree.specs.Inner.Modes.{mode_of}
use Rattle.tl_tree.specs.Inner.Store.{Grows, bytes_of, doctype_at, sizes_of, tag_at, tag_of}
use Rattle.tl_tree.specs.Inner.Tallied.{IsTallied}
use Rattle.tl_tree.specs.declared.active.ActiveList.{ActiveList}
use Rattle.tl_tree.specs.declared.builder.Builder.{Builder}
use Rattle.tl_tree.specs.declared.cell.Node.TheVariants.{Text}
use Rattle.tl_tree.specs.declared.entries.AttributeList.TheVariants.{Tags}
use Rattle.tl_tree.specs.declared.entries.Namespace.TheVariants.{Html}
use Rattle.tl_tree.specs.declared.frame.Frame.{Frame}
use Rattle.tl_tree.specs.declared.path.FramePath.{FramePath}
use Rattle.tl_tree.specs.declared.span.Span.{Span}
use Rattle.tl_tree.specs.declared.store.Store.{Store}

context-more : (m n : ℕ) → m ≤ n → (context : Option ℕ) → IsTrue (context_is_known m context) → IsTrue (context_is_known n context)
context-more m n le None h = h
context-more m n le (Some tag) h = lt-more tag m n h le

-- what a builder refers to stays in the store, and numbers stay given out
pub known-more : (b : Builder) (q : FramePath) → Grows b.path.store q.store → b.path.next ≤ q.next → AreKnown (sizes_of q.store) q.next b.active.greatest_number b.active.greatest_tag b.context b.tag b.text b.doctype q.store b.active
known-more b q g least =
    let s = b.path.store in
    let t = q.store in
    let more = begins-longer s.tags.items t.tags.items g.tags in
    let doctypes = begins-longer s.doctypes.items t.doctypes.items g.doctypes in
    let k = b.known in
    let numbered = k.numbered in
    let listed = k.listed in
    let own = k.own in
    let typed = k.typed in
    record {
      numbered = omega arith;
      listed = omega arith;
      own = omega arith;
      around = context-more (length s.tags.items) (length t.tags.items) more b.context k.around;
      said = is-node-grown s t g (Text (record { span = b.text; source = 0 })) k.said;
      typed = omega arith;
      tallied = tallied-grown s t g b.active listed k.tallied;
    }

pub known-kept : (b : Builder) (q : FramePath) → Grows b.path.store q.store → q.next ≡ b.path.next → AreKnown (sizes_of q.store) q.next b.active.greatest_number b.active.greatest_tag b.context b.tag b.text b.doctype q.store b.active
known-kept b q g e = known-more b q g (omega (arith, e))

-- another list, of which no number and no tag is greater
pub known-listed : (b : Builder) (list : ActiveList) → list.greatest_number ≡ b.active.greatest_number → list.greatest_tag ≡ b.active.greatest_tag → IsTallied b.path.store list → AreKnown (sizes_of b.path.store) b.path.next list.greatest_number list.greatest_tag b.context b.tag b.text b.doctype b.path.store list
known-listed b list number tag tallied =
    let k = b.known in
    let numbered = k.numbered in
    let listed = k.listed in
    record {
      numbered = omega (arith, number);
      listed = omega (arith, tag);
      own = k.own;
      around = k.around;
      said = k.said;
      typed = k.typed;
      tallied = tallied;
    }

-- with another list too
pub known-both : (b : Builder) (q : FramePath) (list : ActiveList) → Grows b.path.store q.store → b.path.next ≤ q.next → list.greatest_number < q.next → list.greatest_tag < length q.store.tags.items → IsTallied q.store list → AreKnown (sizes_of q.store) q.next list.greatest_number list.greatest_tag b.context b.tag b.text b.doctype q.store list
known-both b q list g least number tag tallied =
    let k = known-more b q g least in
    record {
      numbered = number;
      listed = tag;
      own = k.own;
      around = k.around;
      said = k.said;
      typed = k.typed;
      tallied = tallied;
    }

pub context-grown : (s t : Store) → Grows s t → (context : Option ℕ) → IsTrue (context_is_known (length s.tags.items) context) → option_map (tag_at t) context ≡ option_map (tag_at s) context
context-grown s t g None h = refl
context-grown s t g (Some tag) h =
    ap (λ (own : tags.Tag). Some own) (tag-at-grown s t g tag (ltb-true tag (length s.tags.items) h))

said : ℕ → List ℕ → tags.Tag → List ℕ → Doctype → Said
said source page tag text doctype = record { page = page; tag = tag; text = text; doctype = doctype; source = source }

-- all but the path, the active formatting elements, the number and the context
with_parts : dom.Builder → paths.Path → List dom.Entry → ℕ → Option tags.Tag → dom.Builder
with_parts d path active next context =
    record d { path = path; active = active; next = next; context = context }

same-parts : (d : dom.Builder) (p p' : paths.Path) (a a' : List dom.Entry) (n n' : ℕ) (c c' : Option tags.Tag) → p ≡ p' → a ≡ a' → n ≡ n' → c ≡ c' → with_parts d p a n c ≡ with_parts d p' a' n' c'
same-parts d p p' a a' n n' c c' is-p is-a is-n is-c =
    ap (λ own. with_parts d own a n c) is-p
    ∙ (ap (λ own. with_parts d p' own n c) is-a
    ∙ (ap (λ own. with_parts d p' a' own c) is-n
    ∙ ap (λ own. with_parts d p' a' n' own) is-c))

pub path-changed : (b : Builder) (q : FramePath) (known : AreKnown (sizes_of q.store) q.next b.active.greatest_number b.active.greatest_tag b.context b.tag b.text b.doctype q.store b.active) (path : paths.Path) (next : ℕ) → Grows b.path.store q.store → q.next ≡ next → path_of q ≡ path → builder_of (record b { path = q; known = known }) ≡ record (builder_of b) { path = path; next = next }
unfolding builder_of with_parts
path-changed b q known path next g is-next is-path =
    same-parts (builder_of b) (path_of q) path (active_of q.store b.active) (active_of b.path.store b.active) q.next next
    (option_map (tag_at q.store) b.context) (option_map (tag_at b.path.store) b.context)
    is-path (active-grown b.path.store q.store g b.active b.known.listed) is-next (context-grown b.path.store q.store g b.context b.known.around)

-- with another list too
pub both-changed : (b : Builder) (q : FramePath) (list : ActiveList) (known : AreKnown (sizes_of q.store) q.next list.greatest_number list.greatest_tag b.context b.tag b.text b.doctype q.store list) (path : paths.Path) (next : ℕ) (entries : List dom.Entry) → Grows b.path.store q.store → q.next ≡ next → path_of q ≡ path → active_of q.store list ≡ entries → builder_of (record b { path = q; active = list; known = known }) ≡ record (builder_of b) { path = path; active = entries; next = next }
unfolding builder_of with_parts
both-changed b q list known path next entries g is-next is-path is-active =
    same-parts (builder_of b) (path_of q) path (active_of q.store list) entries q.next next
    (option_map (tag_at q.store) b.context) (option_map (tag_at b.path.store) b.context)
    is-path is-active is-next (context-grown b.path.store q.store g b.context b.known.around)

same-said : (n : ℕ) (p p' : List ℕ) (t t' : tags.Tag) (x x' : List ℕ) (d d' : Doctype) → p ≡ p' → t ≡ t' → x ≡ x' → d ≡ d' → said n p t x d ≡ said n p' t' x' d'
same-said n p p' t t' x x' d d' is-page is-tag is-text is-doctype =
    ap (λ own. said n own t x d) is-page
    ∙ (ap (λ own. said n p' own x d) is-tag ∙ (ap (λ own. said n p' t' own d) is-text ∙ ap (said n p' t' x') is-doctype))

pub token-kept : (b : Builder) (q : FramePath) (known : AreKnown (sizes_of q.store) q.next b.active.greatest_number b.active.greatest_tag b.context b.tag b.text b.doctype q.store b.active) → Grows b.path.store q.store → token_of (record b { path = q; known = known }) ≡ token_of b
unfolding token_of said
token-kept b q known g =
    let s = b.path.store in
    let t = q.store in
    same-said b.source t.page.now s.page.now
    (tag_at t b.tag) (tag_at s b.tag) (bytes_of t b.text) (bytes_of s b.text) (doctype_at t b.doctype) (doctype_at s b.doctype)
    g.page (tag-at-grown s t g b.tag b.known.own) (bytes-grown s t g b.text b.known.said) (doctype-at-grown s t g b.doctype b.known.typed)

pub on-ok-both : {T E : Type 0} {P Q R : Type 0} (r : Result T E) → (P → Q → R) → OnOk r P → OnOk r Q → OnOk r R
on-ok-both (Ok x) f p q = f p q
on-ok-both (Err e) f p q = p

pub on-ok-is : {T E : Type 0} (r : Result T E) (x a b : dom.Builder) → a ≡ b → OnOk r (x ≡ a) → OnOk r (x ≡ b)
on-ok-is (Ok own) x a b e is = is ∙ e
on-ok-is (Err own) x a b e is = is

-- a tag without attributes
pub bare-tag-of : (s : Store) (name : Span) → tag_of s (record { space = Html; name = name; known = OTHER; number = 0; list = Tags; first_attribute = 0; attribute_count = 0; start = 0 }) ≡ tags.bare_tag (bytes_of s name)
unfolding tag_of
bare-tag-of s name = refl

-- a store has a tag, which is that of the outermost frame
some-tag : (s : Store) (frames : List Frame) → 0 < length frames → IsTrue (list_all (frame_is_within (length s.tags.items) (length s.cells.items)) frames) → 0 < length s.tags.items
some-tag s [] some within = omega (arith, some)
some-tag s (f ∷ frames) some within =
    let own = (parts-of s f (and_parts (frame_is_within (length s.tags.items) (length s.cells.items) f) (list_all (frame_is_within (length s.tags.items) (length s.cells.items)) frames) within).0).tag in
    omega arith

-- a builder of a new path
pub known-new : (p : FramePath) (list : ActiveList) (number active doctype : ℕ) → IsTallied p.store list → number ≡ 0 → active ≡ 0 → p.next ≡ 1 → doctype < length p.store.doctypes.items → AreKnown (sizes_of p.store) p.next number active None 0 (record { start = 0; len = 0 }) doctype p.store list
known-new p list number active doctype tallied none is one within =
    let least = p.some in
    let some = some-tag p.store p.frames.items (omega arith) p.within in
    record {
      numbered = omega arith;
      listed = omega arith;
      own = some;
      around = refl;
      said = or-left (nat_le 0 (length p.store.page.now)) (nat_le (length p.store.page.now) 0 && nat_le 0 (length p.store.page.now + length p.store.side.items)) (le-leb 0 (length p.store.page.now) (omega arith));
      typed = within;
      tallied = tallied;
    }

with_start : dom.Builder → paths.Path → List dom.Entry → ℕ → List dom.Mode → List ℕ → dom.Builder
with_start d path active next templates pending =
    record d { path = path; active = active; next = next; templates = templates; pending = pending }

pub started : (b : Builder) → path_of b.path ≡ paths.document ∷ [] → active_of b.path.store b.active ≡ [] → b.path.next ≡ 1 → b.templates.items ≡ [] → b.pending.items ≡ [] → builder_of b ≡ record (builder_of b) { path = paths.document ∷ []; active = []; next = 1; templates = []; pending = [] }
unfolding builder_of with_start
started b is-path is-active is-next is-templates is-pending =
    let d = builder_of b in
    ap (λ own. with_start d own d.active d.next d.templates d.pending) is-path
    ∙ (ap (λ own. with_start d (paths.document ∷ []) own d.next d.templates d.pending) is-active
    ∙ (ap (λ own. with_start d (paths.document ∷ []) [] own d.templates d.pending) is-next
    ∙ (ap (λ own. with_start d (paths.document ∷ []) [] 1 (reverse (map mode_of own)) d.pending) is-templates
    ∙ ap (λ own. with_start d (paths.document ∷ []) [] 1 [] own) is-pending)))
