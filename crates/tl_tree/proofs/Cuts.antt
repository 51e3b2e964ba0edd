-- What is to be written stays the same once cells that nothing comes to any more are gone.
use Rattle.std.proofs.Common.{IsTrue, List, Some, [], ap, ap₂, arith, drop, get_or, length, map, nat_le, nat_lt, refl, reverse, subst, suc, sym, take, zero, ℕ, ◌+◌, ◌++◌, ◌-◌, ◌<◌, ◌∙◌, ◌≡◌, ◌≤◌, ◌∷◌}
use Rattle.std.proofs.lemmas.Bool.{and_from, and_parts, le-leb, leb-true}
use Rattle.std.proofs.lemmas.List.{length-take-le, take-append-drop}
use Rattle.std.specs.List.{list_all}
use Rattle.tl_dom_spec.specs.Marks.{marked}
use Rattle.tl_dom_spec.specs.Path.{Nodes}
use Rattle.tl_tree.proofs.CellRows.{weight-grown}
use Rattle.tl_tree.proofs.Ends.{all-reverse}
use Rattle.tl_tree.proofs.Grown.{nodes-grown}
use Rattle.tl_tree.proofs.Listed.{all-weaker, begins-of}
use Rattle.tl_tree.proofs.TreeRows.{doctype-alike, tag-alike, text-alike}
use Rattle.tl_tree.specs.Inner.Gathering.{Flat, Gathered, closed, flat, gathered}
use Rattle.tl_tree.specs.Inner.RowView.{flat_in, held_in, row_is_within}
use Rattle.tl_tree.specs.Inner.Settling.{Cuts, Sound, comes_to, flats_of, opened_is_within, pending_of, resumed, row_before, sizes_with, stack_weight, state_of, text_of_pieces, text_with, weight_of, whole_of}
use Rattle.tl_tree.specs.Inner.Store.{Begins, Grows, IsAlike, bytes_of, is_row, is_tag_number, nodes_of, tag_at, text_of}
use Rattle.tl_tree.specs.Inner.Within.{Sizes, cell_is_within, cells_are_within, span_is_within}
use Rattle.tl_tree.specs.declared.cell.Cell.{Cell}
use Rattle.tl_tree.specs.Rows as rows
use Rattle.tl_tree.specs.declared.row.Held.{Held}
use Rattle.tl_tree.specs.declared.row.Held.TheVariants as held
use Rattle.tl_tree.specs.declared.row.Row.{Row}
use Rattle.tl_tree.specs.declared.settling.Opened.{Opened}
use Rattle.tl_tree.specs.declared.settling.Opened.TheVariants as opened
use Rattle.tl_tree.specs.declared.settling.Settling.{Settling}
use Rattle.tl_tree.specs.declared.span.Span.{Span}
use Rattle.tl_tree.specs.declared.store.Store.{Store}

-- What is written hangs on no cells

bytes-alike : (t u : Store) → IsAlike t u → (span : Span) → bytes_of u span ≡ bytes_of t span
unfolding bytes_of
bytes-alike t u a span = ap (λ v. take span.len (drop span.start v)) (text-alike t u a)

pieces-alike : (t u : Store) → IsAlike t u → (pieces : List Span) → text_of_pieces u pieces ≡ text_of_pieces t pieces
pieces-alike t u a [] = refl
pieces-alike t u a (piece ∷ pieces) =
    ap (λ v. v ++ bytes_of u piece) (pieces-alike t u a pieces)
    ∙ ap (λ v. text_of_pieces t pieces ++ v) (bytes-alike t u a piece)

pending-alike : (t u : Store) → IsAlike t u → (n : ℕ) (pieces : List Span) → pending_of u n pieces ≡ pending_of t n pieces
pending-alike t u a n [] = refl
pending-alike t u a n (piece ∷ pieces) = ap (λ v. Some (marked n v)) (pieces-alike t u a (piece ∷ pieces))

held-alike : (t u : Store) → IsAlike t u → (text : List ℕ) (held : Held) → held_in u text held ≡ held_in t text held
held-alike t u a text (held.Element tag) = ap rows.an_element (tag-alike t u a tag)
held-alike t u a text held.Contents = refl
held-alike t u a text (held.Text own) = refl
held-alike t u a text (held.Comment own) = refl
held-alike t u a text (held.Doctype n source) = ap (λ v. rows.a_doctype (marked source v)) (doctype-alike t u a n)

flats-alike : (t u : Store) → IsAlike t u → (text : List ℕ) (written : List Row) → map (flat_in u text) written ≡ map (flat_in t text) written
flats-alike t u a text [] = refl
flats-alike t u a text (row ∷ written) =
    ap (λ v. v ∷ map (flat_in u text) written) (ap (λ node. flat node row.end) (held-alike t u a text row.held))
    ∙ ap (λ v. flat_in t text row ∷ v) (flats-alike t u a text written)

state-alike : (old : Settling) (u : Store) → IsAlike old.store u → state_of (record old { store = u }) ≡ state_of old
state-alike old u a =
    let new = record old { store = u } in
    let written : flats_of new ≡ flats_of old =
    ap (λ v. map (flat_in u (v ++ old.copied.items)) old.rows.items) (text-alike old.store u a)
    ∙ flats-alike old.store u a (text_with old.store old.copied.items) old.rows.items in
    ap (λ v. let g : Gathered = record { pending = v; rows = flats_of new } in g) (pending-alike old.store u a old.source old.pieces.items)
    ∙ ap (λ v. let g : Gathered = record { pending = pending_of old.store old.source old.pieces.items; rows = v } in g) written

-- What follows

resumed-alike : (t u : Store) → IsAlike t u → Grows u t → (stack : List Opened) → IsTrue (list_all (opened_is_within u) stack) → (g : Gathered) → resumed u stack g ≡ resumed t stack g
resumed-alike t u a grows [] h g = refl
resumed-alike t u a grows (opened.Element tag before behind ∷ stack) h g =
    let own = opened.Element tag before behind in
    let p = and_parts (opened_is_within u own) (list_all (opened_is_within u) stack) h in
    let q = and_parts (is_tag_number u tag) (is_row u before) p.0 in
    ap (λ v. resumed u stack (gathered (nodes_of u before) (closed v behind g))) (tag-alike t u a tag)
    ∙ (ap (λ v. resumed u stack (gathered v (closed (tag_at t tag) behind g))) (sym (nodes-grown u t grows before (leb-true before (length u.cells.items) q.1)))
    ∙ resumed-alike t u a grows stack p.1 (gathered (nodes_of t before) (closed (tag_at t tag) behind g)))
resumed-alike t u a grows (opened.Row before ∷ stack) h g =
    let p = and_parts (opened_is_within u (opened.Row before)) (list_all (opened_is_within u) stack) h in
    ap (λ v. resumed u stack (gathered v g)) (sym (nodes-grown u t grows before (leb-true before (length u.cells.items) p.0)))
    ∙ resumed-alike t u a grows stack p.1 (gathered (nodes_of t before) g)

stack-weighs : (t u : Store) → Grows u t → (stack : List Opened) → IsTrue (list_all (opened_is_within u) stack) → stack_weight u stack ≡ stack_weight t stack
stack-weighs t u grows [] h = refl
stack-weighs t u grows (opened.Element tag before behind ∷ stack) h =
    let own = opened.Element tag before behind in
    let p = and_parts (opened_is_within u own) (list_all (opened_is_within u) stack) h in
    let q = and_parts (is_tag_number u tag) (is_row u before) p.0 in
    ap₂ (λ v w. 1 + v + w) (sym (weight-grown u t grows before (leb-true before (length u.cells.items) q.1))) (stack-weighs t u grows stack p.1)
stack-weighs t u grows (opened.Row before ∷ stack) h =
    let p = and_parts (opened_is_within u (opened.Row before)) (list_all (opened_is_within u) stack) h in
    ap₂ (λ v w. 1 + v + w) (sym (weight-grown u t grows before (leb-true before (length u.cells.items) p.0))) (stack-weighs t u grows stack p.1)

abbrev sizes : ℕ → ℕ → ℕ → ℕ → Sizes
sizes page side tags doctypes = record { page = page; side = side; tags = tags; doctypes = doctypes }

sizes-alike : (t u : Store) → IsAlike t u → (copied : List ℕ) → sizes_with u copied ≡ sizes_with t copied
sizes-alike t u a copied =
    ap (λ n. sizes n (length u.side.items + length copied) (length u.tags.items) (length u.doctypes.items)) (ap length a.page)
    ∙ (ap (λ n. sizes (length t.page.now) (n + length copied) (length u.tags.items) (length u.doctypes.items)) (ap length a.side)
    ∙ (ap (λ n. sizes (length t.page.now) (length t.side.items + length copied) n (length u.doctypes.items)) (ap length a.tags)
    ∙ ap (λ n. sizes (length t.page.now) (length t.side.items + length copied) (length t.tags.items) n) (ap length a.doctypes)))

-- what is opened stays in range, where so many cells are kept
opened-kept : (t u : Store) → IsAlike t u → (count : ℕ) → count ≤ length u.cells.items → (stack : List Opened) → IsTrue (list_all (opened_is_within t) stack) → IsTrue (list_all (comes_to count) stack) → IsTrue (list_all (opened_is_within u) stack)
opened-kept t u a count many [] h k = refl
opened-kept t u a count many (opened.Element tag before behind ∷ stack) h k =
    let own = opened.Element tag before behind in
    let p = and_parts (opened_is_within t own) (list_all (opened_is_within t) stack) h in
    let q = and_parts (comes_to count own) (list_all (comes_to count) stack) k in
    let r = and_parts (is_tag_number t tag) (is_row t before) p.0 in
    let below = leb-true before count q.0 in
    and_from (opened_is_within u own) (list_all (opened_is_within u) stack)
    (and_from (is_tag_number u tag) (is_row u before) (subst (λ v. IsTrue (nat_lt tag (length v))) (sym a.tags) r.0) (le-leb before (length u.cells.items) (omega (arith, below, many))))
    (opened-kept t u a count many stack p.1 q.1)
opened-kept t u a count many (opened.Row before ∷ stack) h k =
    let own = opened.Row before in
    let p = and_parts (opened_is_within t own) (list_all (opened_is_within t) stack) h in
    let q = and_parts (comes_to count own) (list_all (comes_to count) stack) k in
    let below = leb-true before count q.0 in
    and_from (opened_is_within u own) (list_all (opened_is_within u) stack)
    (le-leb before (length u.cells.items) (omega (arith, below, many)))
    (opened-kept t u a count many stack p.1 q.1)

pub cut : (old : Settling) (u : Store) (row count : ℕ) → Sound old → IsAlike old.store u → Grows u old.store → count ≤ length u.cells.items → row ≤ count → IsTrue (list_all (comes_to count) old.stack.items) → Cuts old (record old { store = u }) row
cut old u row count sound a grows many below all =
    let t = old.store in
    let new = record old { store = u } in
    let stack = opened-kept t u a count many old.stack.items sound.stack all in
    let turned = all-reverse (opened_is_within u) old.stack.items stack in
    let within : row ≤ length u.cells.items = omega (arith, below, many) in
    let nodes : nodes_of u row ≡ nodes_of t row = sym (nodes-grown u t grows row within) in
    let first : weight_of u row ≡ weight_of t row = sym (weight-grown u t grows row within) in
    let rest = stack-weighs t u grows old.stack.items stack in
    let page = ap length a.page in
    let side = ap length a.side in
    record {
      sound = record {
        short = let h = sound.short in omega (arith, h, page, side);
        few = sound.few;
        rows = subst (λ z. IsTrue (list_all (row_is_within z) old.rows.items)) (sym (sizes-alike t u a old.copied.items)) sound.rows;
        pieces =
            subst (λ n. IsTrue (list_all (span_is_within n (length u.side.items)) old.pieces.items)) (sym page)
            (subst (λ n. IsTrue (list_all (span_is_within (length t.page.now) n) old.pieces.items)) (sym side) sound.pieces);
        stack = stack;
      };
      store = a;
      within = le-leb row (length u.cells.items) within;
      whole =
          ap (λ v. resumed u (reverse old.stack.items) (gathered v (state_of new))) nodes
          ∙ (ap (λ v. resumed u (reverse old.stack.items) (gathered (nodes_of t row) v)) (state-alike old u a)
          ∙ resumed-alike t u a grows (reverse old.stack.items) turned (gathered (nodes_of t row) (state_of old)));
      same = ap₂ (λ v w. v + w) first rest;
    }

-- The number of cells that are kept

pub needed-step : (stack : List Opened) (left now next : ℕ) (d : Opened) → 0 < left → left ≤ length stack → now ≤ next → row_before (get_or stack (left - 1) d) ≤ next → IsTrue (list_all (comes_to now) (drop left stack)) → IsTrue (list_all (comes_to next) (drop (left - 1) stack))
needed-step stack left now next d some below more own all =
    let at : suc (left - 1) ≡ left = omega (arith, some) in
    first stack (left - 1) next d (omega (arith, some, below)) own
    (subst (λ n. IsTrue (list_all (comes_to next) (drop n stack))) (sym at)
    (all-weaker (comes_to now) (comes_to next) (λ o h. let b = leb-true (row_before o) now h in le-leb (row_before o) next (omega (arith, b, more))) (drop left stack) all))
  where
    first : (stack : List Opened) (k next : ℕ) (d : Opened) → k < length stack → row_before (get_or stack k d) ≤ next → IsTrue (list_all (comes_to next) (drop (suc k) stack)) → IsTrue (list_all (comes_to next) (drop k stack))
    first [] k next d l own all = absurd (let f : ⊥ = omega (arith, l) in f)
    first (o ∷ stack) zero next d l own all = and_from (comes_to next o) (list_all (comes_to next) stack) (le-leb (row_before o) next own) all
    first (o ∷ stack) (suc k) next d l own all = first stack k next d (omega (arith, l)) own all

pub opened-row : (s : Store) (stack : List Opened) (k : ℕ) (d : Opened) → k < length stack → IsTrue (list_all (opened_is_within s) stack) → IsTrue (is_row s (row_before (get_or stack k d)))
opened-row s [] k d l h = absurd (let f : ⊥ = omega (arith, l) in f)
opened-row s (opened.Element tag before behind ∷ stack) zero d l h =
    let own = opened.Element tag before behind in
    (and_parts (is_tag_number s tag) (is_row s before) (and_parts (opened_is_within s own) (list_all (opened_is_within s) stack) h).0).1
opened-row s (opened.Row before ∷ stack) zero d l h = (and_parts (is_row s before) (list_all (opened_is_within s) stack) h).0
opened-row s (own ∷ stack) (suc k) d l h = opened-row s stack k d (omega (arith, l)) (and_parts (opened_is_within s own) (list_all (opened_is_within s) stack) h).1

-- Cells that are kept

pub taken-long : {A : Type 0} (n : ℕ) (all some : List A) → n ≤ length all → some ≡ take n all → n ≤ length some
taken-long n all some h e = let many = ap length e ∙ length-take-le n all h in omega (arith, many)

pub begins-taken : {A : Type 0} (n : ℕ) (all some : List A) → some ≡ take n all → Begins some all
begins-taken n all some e = subst (λ v. Begins v all) (sym e) (begins-of (take n all) all (drop n all) (sym (take-append-drop n all)))

pub cells-taken : (z : Sizes) (n k : ℕ) (cells some : List Cell) → some ≡ take k cells → IsTrue (cells_are_within z n cells) → IsTrue (cells_are_within z n some)
cells-taken z n k cells some e h = subst (λ v. IsTrue (cells_are_within z n v)) (sym e) (front z n k cells h)
  where
    front : (z : Sizes) (n k : ℕ) (cells : List Cell) → IsTrue (cells_are_within z n cells) → IsTrue (cells_are_within z n (take k cells))
    front z n zero cells h = refl
    front z n (suc k) [] h = refl
    front z n (suc k) (c ∷ cells) h =
        let p = and_parts (cell_is_within z n c) (cells_are_within z (suc n) cells) h in
        and_from (cell_is_within z n c) (cells_are_within z (suc n) (take k cells)) p.0 (front z (suc n) k cells p.1)
