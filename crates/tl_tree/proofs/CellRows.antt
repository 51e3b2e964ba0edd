-- A row of a store, and how much there is to be written of it, by the cell that it ends with.
use Rattle.std.proofs.Common.{IsTrue, List, Some, [], add-zero, ap, arith, drop, get_or, length, length-append, nat_le, nat_lt, refl, slice_get, subst, suc, sym, zero, ℕ, ◌+◌, ◌++◌, ◌-◌, ◌<◌, ◌∙◌, ◌≡◌, ◌≤◌, ◌∷◌}
use Rattle.std.proofs.Math.ListN.{get_or-append}
use Rattle.std.proofs.Math.Seq.{get_or-append_seam}
use Rattle.std.proofs.lemmas.Bool.{and_parts, leb-true}
use Rattle.std.proofs.lemmas.Option.{same_Some, slice_get_read, slice_get_within}
use Rattle.tl_dom_spec.specs.Path.{joined}
use Rattle.tl_tree.proofs.Within.{IsMore, cell-within, le-more, node-more}
use Rattle.tl_tree.specs.Inner.Settling.{cell_weight, held_weight, node_weight, weight_of, weights_from}
use Rattle.tl_tree.specs.Inner.Store.{Grows, is_node, is_row, node_of, nodes_of, sizes_of}
use Rattle.tl_tree.specs.Inner.Within.{Sizes, cell_is_within, cells_are_within, node_is_within}
use Rattle.tl_tree.specs.declared.cell.Cell.{Cell}
use Rattle.tl_tree.specs.declared.cell.Node.{Node}
use Rattle.tl_tree.specs.declared.cell.Node.TheVariants.{Comment, Doctype, Element, Joined, Text}
use Rattle.tl_tree.specs.declared.store.Store.{Store}
use Rattle.tl_tree.proofs.Grown.{nodes-at}

-- a list that is filled by what each cell makes of it so far
abbrev filled : {A : Type 0} → (List A → Cell → A) → List A → List Cell → List A
filled step made [] = made
filled step made (c ∷ cells) = filled step (made ++ step made c ∷ []) cells

filled-keeps : {A : Type 0} (step : List A → Cell → A) (d : A) (made : List A) (cells : List Cell) (n : ℕ) → n < length made → get_or (filled step made cells) n d ≡ get_or made n d
filled-keeps step d made [] n h = refl
filled-keeps step d made (c ∷ cells) n h =
    let many = length-append made (step made c ∷ []) in
    filled-keeps step d (made ++ step made c ∷ []) cells n (omega (arith, many, h))
    ∙ get_or-append made (step made c ∷ []) d n h

-- a step reads what is in range alone
abbrev ReadsWithin : {A : Type 0} → Sizes → (List A → Cell → A) → A → Type 0
ReadsWithin {A} z step d = (all some : List A) (n : ℕ) (c : Cell) → IsTrue (cell_is_within z n c) → ((k : ℕ) → k ≤ n → get_or all k d ≡ get_or some k d) → step all c ≡ step some c

filled-at : {A : Type 0} (z : Sizes) (step : List A → Cell → A) (d : A) → ReadsWithin z step d → (made : List A) (cells : List Cell) (n k : ℕ) (c : Cell) → length made ≡ n + 1 → IsTrue (cells_are_within z n cells) → slice_get cells k ≡ Some c → get_or (filled step made cells) (n + 1 + k) d ≡ step (filled step made cells) c
filled-at z step d reads made [] n k c long h e = absurd (let f : ⊥ = cc in f)
filled-at z step d reads made (own ∷ cells) n zero c long h e =
    let p = and_parts (cell_is_within z n own) (cells_are_within z (suc n) cells) h in
    let same : own ≡ c = same_Some own c e in
    let all = filled step made (own ∷ cells) in
    let next = made ++ step made own ∷ [] in
    let many = length-append made (step made own ∷ []) in
    let place : n + 1 + 0 ≡ length made = omega (arith, long) in
    let first : get_or all (n + 1 + 0) d ≡ step made own =
    ap (λ v. get_or all v d) place
    ∙ (filled-keeps step d next cells (length made) (omega (arith, many))
    ∙ get_or-append_seam made (step made own) [] d) in
    let kept : (j : ℕ) → j ≤ n → get_or all j d ≡ get_or made j d = λ j l. filled-keeps step d made (own ∷ cells) j (omega (arith, l, long)) in
    first ∙ (sym (reads all made n own p.0 kept) ∙ ap (step all) same)
filled-at z step d reads made (own ∷ cells) n (suc k) c long h e =
    let p = and_parts (cell_is_within z n own) (cells_are_within z (suc n) cells) h in
    let next = made ++ step made own ∷ [] in
    let many = length-append made (step made own ∷ []) in
    let after : suc n ≡ n + 1 = omega arith in
    let place : n + 1 + 1 + k ≡ n + 1 + suc k = omega arith in
    subst (λ v. get_or (filled step next cells) v d ≡ step (filled step next cells) c) place
    (filled-at z step d reads next cells (n + 1) k c (omega (arith, many, long)) (subst (λ v. IsTrue (cells_are_within z v cells)) after p.1) e)

-- Rows

-- Weights

weights-filled : (weights : List ℕ) (cells : List Cell) → weights_from weights cells ≡ filled cell_weight weights cells
weights-filled weights [] = refl
weights-filled weights (c ∷ cells) = weights-filled (weights ++ cell_weight weights c ∷ []) cells

node-weighs : (z : Sizes) (all some : List ℕ) (n : ℕ) (node : Node) → IsTrue (node_is_within z n node) → ((k : ℕ) → k ≤ n → get_or all k 0 ≡ get_or some k 0) → node_weight all node ≡ node_weight some node
node-weighs z all some n (Text own) h same = refl
node-weighs z all some n (Comment own) h same = refl
node-weighs z all some n (Doctype number source) h same = refl
node-weighs z all some n (Element tag below) h same =
    let p = and_parts (nat_lt tag z.tags) (nat_le below n) h in
    ap (λ v. 1 + v) (same below (leb-true below n p.1))
node-weighs z all some n (Joined second) h same = ap (λ v. 1 + v) (same second (leb-true second n h))

cell-weighs : (z : Sizes) → ReadsWithin z cell_weight 0
cell-weighs z all some n c h same =
    let p = and_parts (nat_le c.before n) (node_is_within z n c.node) h in
    ap (λ v. 1 + v + node_weight all c.node) (same c.before (leb-true c.before n p.0))
    ∙ ap (λ v. 1 + get_or some c.before 0 + v) (node-weighs z all some n c.node p.1 same)

held-weighs : (s : Store) (node : Node) → node_weight (weights_from (0 ∷ []) s.cells.items) node ≡ held_weight s node
unfolding weight_of
held-weighs s (Text own) = refl
held-weighs s (Comment own) = refl
held-weighs s (Doctype number source) = refl
held-weighs s (Element tag below) = refl
held-weighs s (Joined second) = refl

pub cell-weight : (s : Store) (k : ℕ) (c : Cell) → slice_get s.cells.items k ≡ Some c → weight_of s (suc k) ≡ 1 + weight_of s c.before + held_weight s c.node
unfolding weight_of
cell-weight s k c e =
    let cells = s.cells.items in
    let first : List ℕ = 0 ∷ [] in
    let place : 0 + 1 + k ≡ suc k = omega arith in
    let same = weights-filled first cells in
    subst (λ (weights : List ℕ). get_or weights (suc k) 0 ≡ cell_weight weights c) (sym same)
    (subst (λ v. get_or (filled cell_weight first cells) v 0 ≡ cell_weight (filled cell_weight first cells) c) place
    (filled-at (sizes_of s) cell_weight 0 (cell-weighs (sizes_of s)) first cells 0 k c refl s.cells_within e))
    ∙ ap (λ v. 1 + weight_of s c.before + v) (held-weighs s c.node)

pub weight-none : (s : Store) → weight_of s 0 ≡ 0
unfolding weight_of
weight-none s =
    ap (λ (weights : List ℕ). get_or weights 0 0) (weights-filled (0 ∷ []) s.cells.items)
    ∙ filled-keeps cell_weight 0 (0 ∷ []) s.cells.items 0 (omega arith)

filled-more : {A : Type 0} (step : List A → Cell → A) (made : List A) (front rest : List Cell) → filled step made (front ++ rest) ≡ filled step (filled step made front) rest
filled-more step made [] rest = refl
filled-more step made (c ∷ front) rest = filled-more step (made ++ step made c ∷ []) front rest

filled-long : {A : Type 0} (step : List A → Cell → A) (made : List A) (cells : List Cell) → length (filled step made cells) ≡ length made + length cells
filled-long step made [] = sym (add-zero (length made))
filled-long step made (c ∷ cells) =
    let many = length-append made (step made c ∷ []) in
    let all = filled-long step (made ++ step made c ∷ []) cells in
    omega (arith, many, all)

-- a row weighs the same in each store that begins with what its store was
pub weight-grown : (s t : Store) → Grows s t → (n : ℕ) → n ≤ length s.cells.items → weight_of t n ≡ weight_of s n
unfolding weight_of
weight-grown s t g n h =
    let first : List ℕ = 0 ∷ [] in
    let cells = s.cells.items in
    let rest = drop (length cells) t.cells.items in
    let many = filled-long cell_weight first cells in
    ap (λ (weights : List ℕ). get_or weights n 0) (weights-filled first t.cells.items)
    ∙ (ap (λ v. get_or (filled cell_weight first v) n 0) g.cells
    ∙ (ap (λ v. get_or v n 0) (filled-more cell_weight first cells rest)
    ∙ (filled-keeps cell_weight 0 (filled cell_weight first cells) rest n (omega (arith, many, h))
    ∙ ap (λ (weights : List ℕ). get_or weights n 0) (sym (weights-filled first cells)))))

-- The cell of a row

more-refl : (z : Sizes) → IsMore z z
more-refl z = record { page = refl; side = omega arith; tags = omega arith; doctypes = omega arith }

-- the cell that a row ends with
pub cell-got : (s : Store) (row : ℕ) (c : Cell) → (row ≡ 0 → ⊥) → IsTrue (is_row s row) → c ≡ get_or s.cells.items (row - 1) c → slice_get s.cells.items (row - 1) ≡ Some c
cell-got s row c some h e =
    let below = leb-true row (length s.cells.items) h in
    slice_get_read s.cells.items (length s.cells.items) (row - 1) c refl (omega (arith, below, some)) e

pub cell-ranges : (s : Store) (k : ℕ) (c : Cell) → slice_get s.cells.items k ≡ Some c → IsTrue (is_row s c.before) × IsTrue (is_node s c.node)
cell-ranges s k c e =
    let z = sizes_of s in
    let own = cell-within z 0 s.cells.items k c s.cells_within e in
    let p = and_parts (nat_le c.before (0 + k)) (node_is_within z (0 + k) c.node) own in
    let below = slice_get_within s.cells.items k c e in
    let less : 0 + k ≤ length s.cells.items = omega (arith, below) in
    (le-more c.before (0 + k) (length s.cells.items) p.0 less, node-more z z (more-refl z) (0 + k) (length s.cells.items) less c.node p.1)

pub row-is : (s : Store) (row : ℕ) (c : Cell) → (row ≡ 0 → ⊥) → slice_get s.cells.items (row - 1) ≡ Some c → joined (nodes_of s c.before) (node_of s c.node) ≡ nodes_of s row
row-is s row c some e =
    let next : suc (row - 1) ≡ row = omega (arith, some) in
    sym (nodes-at s (row - 1) c e) ∙ ap (nodes_of s) next

pub weight-is : (s : Store) (row : ℕ) (c : Cell) → (row ≡ 0 → ⊥) → slice_get s.cells.items (row - 1) ≡ Some c → 1 + weight_of s c.before + held_weight s c.node ≡ weight_of s row
weight-is s row c some e =
    let next : suc (row - 1) ≡ row = omega (arith, some) in
    sym (cell-weight s (row - 1) c e) ∙ ap (weight_of s) next
