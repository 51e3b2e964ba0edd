-- What is in range stays so where there is more.
use Rattle.std.proofs.Common.{add-zero, arith, inl, inr, sym, subst, ◌≡◌, ◌+◌, ◌≤◌, ◌++◌, ◌&&◌, ◌||◌, ◌∷◌, [], Bool, false, true, IsTrue, List, None, Option, Some, cond, length, nat_le, nat_lt, refl, slice_get, suc, zero, ℕ}
use Rattle.std.proofs.lemmas.Bool.{and_from, and_parts, le-leb, leb-true, lt-ltb, ltb-true, or_cases}
use Rattle.std.proofs.lemmas.Option.{same_Some}
use Rattle.tl_tree.specs.Inner.Within.{Sizes, attribute_is_within, cell_is_within, cells_are_within, doctype_is_within, id_is_within, node_is_within, span_is_within, tag_is_within}
use Rattle.tl_tree.specs.declared.cell.Cell.{Cell}
use Rattle.tl_tree.specs.declared.cell.Node.{Node}
use Rattle.tl_tree.specs.declared.cell.Node.TheVariants.{Comment, Doctype, Element, Joined, Text}
use Rattle.tl_tree.specs.declared.entries.AttributeEntry.{AttributeEntry}
use Rattle.tl_tree.specs.declared.entries.AttributeList.{AttributeList}
use Rattle.tl_tree.specs.declared.entries.DoctypeEntry.{DoctypeEntry}
use Rattle.tl_tree.specs.declared.entries.TagEntry.{TagEntry}
use Rattle.tl_tree.specs.declared.span.Span.{Span}

-- a test of an order, with a greater bound
pub le-more : (m n k : ℕ) → IsTrue (nat_le m n) → n ≤ k → IsTrue (nat_le m k)
le-more m n k h more = let own = leb-true m n h in le-leb m k (omega arith)

pub lt-more : (m n k : ℕ) → IsTrue (nat_lt m n) → n ≤ k → IsTrue (nat_lt m k)
lt-more m n k h more = let own = ltb-true m n h in lt-ltb m k (omega arith)

-- bytes end with the text at the latest
pub span-bound : (page side : ℕ) (s : Span) → IsTrue (span_is_within page side s) → s.start + s.len ≤ page + side
span-bound page side s h =
    elim (or_cases (nat_le (s.start + s.len) page) (nat_le page s.start && nat_le (s.start + s.len) (page + side)) h) [
      | inl p ↦ (let own = leb-true (s.start + s.len) page p in omega arith)
      | inr q ↦ leb-true (s.start + s.len) (page + side) (and_parts (nat_le page s.start) (nat_le (s.start + s.len) (page + side)) q).1
    ]

pub or-left : (x y : Bool) → IsTrue x → IsTrue (x || y)
or-left x y h = rw h refl

pub or-right : (x y : Bool) → IsTrue y → IsTrue (x || y)
or-right x y h = elim x as (λ b. IsTrue (b || y)) [ true ↦ refl | false ↦ h ]

pub span-more : (page side more : ℕ) (s : Span) → side ≤ more → IsTrue (span_is_within page side s) → IsTrue (span_is_within page more s)
span-more page side more s le h =
    elim (or_cases (nat_le (s.start + s.len) page) (nat_le page s.start && nat_le (s.start + s.len) (page + side)) h) [
      | inl p ↦ or-left (nat_le (s.start + s.len) page) (nat_le page s.start && nat_le (s.start + s.len) (page + more)) p
      | inr q ↦ (let parts = and_parts (nat_le page s.start) (nat_le (s.start + s.len) (page + side)) q in
          or-right (nat_le (s.start + s.len) page) (nat_le page s.start && nat_le (s.start + s.len) (page + more))
          (and_from (nat_le page s.start) (nat_le (s.start + s.len) (page + more)) parts.0
          (le-more (s.start + s.len) (page + side) (page + more) parts.1 (omega arith))))
    ]

pub id-more : (page side more : ℕ) (id : Option Span) → side ≤ more → IsTrue (id_is_within page side id) → IsTrue (id_is_within page more id)
id-more page side more None le h = refl
id-more page side more (Some s) le h = span-more page side more s le h

pub attribute-more : (page side more : ℕ) (a : AttributeEntry) → side ≤ more → IsTrue (attribute_is_within page side a) → IsTrue (attribute_is_within page more a)
attribute-more page side more a le h =
    let p = and_parts (span_is_within page side a.key) (span_is_within page side a.value) h in
    and_from (span_is_within page more a.key) (span_is_within page more a.value)
    (span-more page side more a.key le p.0) (span-more page side more a.value le p.1)

pub tag-more : (page side more : ℕ) (own others : AttributeList → ℕ) (t : TagEntry) → side ≤ more → ((list : AttributeList) → own list ≤ others list) → IsTrue (tag_is_within page side own t) → IsTrue (tag_is_within page more others t)
tag-more page side more own others t le many h =
    let p = and_parts (span_is_within page side t.name) (nat_le (t.first_attribute + t.attribute_count) (own t.list)) h in
    and_from (span_is_within page more t.name) (nat_le (t.first_attribute + t.attribute_count) (others t.list))
    (span-more page side more t.name le p.0) (le-more (t.first_attribute + t.attribute_count) (own t.list) (others t.list) p.1 (many t.list))

pub doctype-more : (page side more : ℕ) (d : DoctypeEntry) → side ≤ more → IsTrue (doctype_is_within page side d) → IsTrue (doctype_is_within page more d)
doctype-more page side more d le h =
    let p = and_parts (span_is_within page side d.name) (id_is_within page side d.public_id && id_is_within page side d.system_id) h in
    let q = and_parts (id_is_within page side d.public_id) (id_is_within page side d.system_id) p.1 in
    and_from (span_is_within page more d.name) (id_is_within page more d.public_id && id_is_within page more d.system_id)
    (span-more page side more d.name le p.0)
    (and_from (id_is_within page more d.public_id) (id_is_within page more d.system_id)
    (id-more page side more d.public_id le q.0) (id-more page side more d.system_id le q.1))

-- there is more of each
pub record IsMore (z w : Sizes) : Type 0 where
  pub page : w.page ≡ z.page
  pub side : z.side ≤ w.side
  pub tags : z.tags ≤ w.tags
  pub doctypes : z.doctypes ≤ w.doctypes

span-of : (z w : Sizes) → IsMore z w → (s : Span) → IsTrue (span_is_within z.page z.side s) → IsTrue (span_is_within w.page w.side s)
span-of z w more s h =
    subst (λ (page : ℕ). IsTrue (span_is_within page w.side s)) (sym more.page) (span-more z.page z.side w.side s more.side h)

pub node-more : (z w : Sizes) → IsMore z w → (rows others : ℕ) → rows ≤ others → (node : Node) → IsTrue (node_is_within z rows node) → IsTrue (node_is_within w others node)
node-more z w more rows others le (Text own) h = span-of z w more own.span h
node-more z w more rows others le (Comment own) h = span-of z w more own.span h
node-more z w more rows others le (Doctype n source) h = lt-more n z.doctypes w.doctypes h more.doctypes
node-more z w more rows others le (Element tag below) h =
    let p = and_parts (nat_lt tag z.tags) (nat_le below rows) h in
    and_from (nat_lt tag w.tags) (nat_le below others)
    (lt-more tag z.tags w.tags p.0 more.tags) (le-more below rows others p.1 le)
node-more z w more rows others le (Joined second) h = le-more second rows others h le

pub cells-more : (z w : Sizes) → IsMore z w → (n : ℕ) (cells : List Cell) → IsTrue (cells_are_within z n cells) → IsTrue (cells_are_within w n cells)
cells-more z w more n [] h = refl
cells-more z w more n (c ∷ cells) h =
    let p = and_parts (cell_is_within z n c) (cells_are_within z (suc n) cells) h in
    let q = and_parts (nat_le c.before n) (node_is_within z n c.node) p.0 in
    and_from (cell_is_within w n c) (cells_are_within w (suc n) cells)
    (and_from (nat_le c.before n) (node_is_within w n c.node) q.0 (node-more z w more n n (omega arith) c.node q.1))
    (cells-more z w more (suc n) cells p.1)

-- a cell at a place
pub cell-within : (z : Sizes) (n : ℕ) (cells : List Cell) (k : ℕ) (c : Cell) → IsTrue (cells_are_within z n cells) → slice_get cells k ≡ Some c → IsTrue (cell_is_within z (n + k) c)
cell-within z n [] k c h e = absurd (cc)
cell-within z n (d ∷ cells) zero c h e =
    let p = and_parts (cell_is_within z n d) (cells_are_within z (suc n) cells) h in
    let at : n ≡ n + 0 = omega arith in
    subst (λ (m : ℕ). IsTrue (cell_is_within z m c)) at
    (subst (λ (own : Cell). IsTrue (cell_is_within z n own)) (same_Some d c e) p.0)
cell-within z n (d ∷ cells) (suc k) c h e =
    let p = and_parts (cell_is_within z n d) (cells_are_within z (suc n) cells) h in
    let at : suc n + k ≡ n + suc k = omega arith in
    subst (λ (m : ℕ). IsTrue (cell_is_within z m c)) at (cell-within z (suc n) cells k c p.1 e)

cells-push : (z : Sizes) (n : ℕ) (cells : List Cell) (c : Cell) → IsTrue (cells_are_within z n cells) → IsTrue (cell_is_within z (n + length cells) c) → IsTrue (cells_are_within z n (cells ++ c ∷ []))
cells-push z n [] c h one =
    and_from (cell_is_within z n c) true (subst (λ (m : ℕ). IsTrue (cell_is_within z m c)) (add-zero n) one) refl
cells-push z n (d ∷ cells) c h one =
    let p = and_parts (cell_is_within z n d) (cells_are_within z (suc n) cells) h in
    let at : n + suc (length cells) ≡ suc n + length cells = omega arith in
    and_from (cell_is_within z n d) (cells_are_within z (suc n) (cells ++ c ∷ [])) p.0
    (cells-push z (suc n) cells c p.1 (subst (λ (m : ℕ). IsTrue (cell_is_within z m c)) at one))

-- one cell more, or none
pub cells-pushed : (z : Sizes) (r : Bool) (cells new : List Cell) (c : Cell) → new ≡ cond r (cells ++ c ∷ []) cells → IsTrue (cells_are_within z 0 cells) → IsTrue (nat_le c.before (length cells)) → IsTrue (node_is_within z (length cells) c.node) → IsTrue (cells_are_within z 0 new)
cells-pushed z r cells new c e h before node =
    let at : length cells ≡ 0 + length cells = omega arith in
    let one = and_from (nat_le c.before (length cells)) (node_is_within z (length cells) c.node) before node in
    rw e
    (elim r as (λ b. IsTrue (cells_are_within z 0 (cond b (cells ++ c ∷ []) cells))) [
      | true ↦ cells-push z 0 cells c h (subst (λ (m : ℕ). IsTrue (cell_is_within z m c)) at one)
      | false ↦ h
    ])
