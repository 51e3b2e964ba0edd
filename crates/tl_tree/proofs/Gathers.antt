-- What is gathered of nodes is the rows of their trees, the last first.
use Rattle.std.proofs.Common.{List, Option, Some, None, [], ap, append_assoc, arith, length, length-append, refl, subst, sym, ℕ, ◌+◌, ◌++◌, ◌∙◌, ◌≡◌, ◌∷◌}
use Rattle.std.specs.Prelude.{Bool, false, reverse, true, ⊤}
use Rattle.std.proofs.lemmas.List.{append-nil, reverse-append}
use Rattle.tl_dom_spec.specs.HtmlForest.{HtmlForest, before, comment, doctype, element, has_contents, no_trees, text}
use Rattle.tl_dom_spec.specs.Marks.{Marked}
use Rattle.tl_dom_spec.specs.Path.{Nodes, and_comment, and_doctype, and_element, and_text, joined, no_nodes, with_text}
use Rattle.tl_tree.specs.Rows.{Node, Row, a_comment, a_doctype, a_text, an_element, contents_count, contents_rows, row_count, rows_from, rows_of}
use Rattle.tl_tree.specs.Inner.Gathering.{Flat, Gathered, closed, contents_flat, flat, flushed, gathered, only_rows, put, text_before, with_pending, with_piece, with_row}

-- Nodes that are joined

before-twice : (a b : Marked (List ℕ)) (p : Option (Marked (List ℕ))) → text_before (record a { said = a.said ++ b.said }) p ≡ text_before a (text_before b p)
before-twice a b None = refl
before-twice a b (Some more) = ap (λ v. Some (record a { said = v })) (append_assoc a.said b.said more.said)

piece-twice : (a b : Marked (List ℕ)) (g : Gathered) → with_piece (record a { said = a.said ++ b.said }) g ≡ with_piece a (with_piece b g)
piece-twice a b g = ap (λ p. let r : Gathered = record { pending = p; rows = g.rows } in r) (before-twice a b g.pending)

pub gathered-text : (nodes : Nodes) (bytes : Marked (List ℕ)) (g : Gathered) → gathered (with_text nodes bytes) g ≡ gathered nodes (with_piece bytes g)
gathered-text no_nodes bytes g = refl
gathered-text (and_text nodes own) bytes g = ap (gathered nodes) (piece-twice own bytes g)
gathered-text (and_comment nodes own) bytes g = refl
gathered-text (and_doctype nodes own) bytes g = refl
gathered-text (and_element nodes tag children) bytes g = refl

pub gathered-joined : (nodes more : Nodes) (g : Gathered) → gathered (joined nodes more) g ≡ gathered nodes (gathered more g)
gathered-joined nodes no_nodes g = refl
gathered-joined nodes (and_text more bytes) g = gathered-text (joined nodes more) bytes g ∙ gathered-joined nodes more (with_piece bytes g)
gathered-joined nodes (and_comment more bytes) g = gathered-joined nodes more (put (a_comment bytes) g)
gathered-joined nodes (and_doctype more own) g = gathered-joined nodes more (put (a_doctype own) g)
gathered-joined nodes (and_element more tag children) g =
    gathered-joined nodes more (closed tag (length (flushed g)) (gathered children (only_rows (flushed g))))

-- Texts that stand apart

abbrev pub ends_with_text : Nodes → Bool
ends_with_text (and_text nodes bytes) = true
ends_with_text _ = false

-- no text stands right beside another one
abbrev pub StandApart : Nodes → Type 0
StandApart no_nodes = ⊤
StandApart (and_text nodes bytes) = (ends_with_text nodes ≡ false) × StandApart nodes
StandApart (and_comment nodes bytes) = StandApart nodes
StandApart (and_doctype nodes own) = StandApart nodes
StandApart (and_element nodes tag children) = StandApart nodes × StandApart children

pub apart-text : (nodes : Nodes) (bytes : Marked (List ℕ)) → StandApart nodes → StandApart (with_text nodes bytes)
apart-text no_nodes bytes h = (refl, h)
apart-text (and_text nodes own) bytes h = h
apart-text (and_comment nodes own) bytes h = (refl, h)
apart-text (and_doctype nodes own) bytes h = (refl, h)
apart-text (and_element nodes tag children) bytes h = (refl, h)

pub apart-joined : (nodes more : Nodes) → StandApart nodes → StandApart more → StandApart (joined nodes more)
apart-joined nodes no_nodes h k = h
apart-joined nodes (and_text more bytes) h k = apart-text (joined nodes more) bytes (apart-joined nodes more h k.1)
apart-joined nodes (and_comment more bytes) h k = apart-joined nodes more h k
apart-joined nodes (and_doctype more own) h k = apart-joined nodes more h k
apart-joined nodes (and_element more tag children) h k = (apart-joined nodes more h k.0, k.1)

-- each node a row of its own
abbrev pub written : Nodes → List Flat → List Flat
written no_nodes rows = rows
written (and_text nodes bytes) rows = written nodes (with_row rows (a_text bytes))
written (and_comment nodes bytes) rows = written nodes (with_row rows (a_comment bytes))
written (and_doctype nodes own) rows = written nodes (with_row rows (a_doctype own))
written (and_element nodes tag children) rows =
    written nodes (written children rows ++ (contents_flat (has_contents tag) (length rows) ++ flat (an_element tag) (length rows) ∷ []))

text-flushed : (bytes : Marked (List ℕ)) (g : Gathered) → g.pending ≡ None → flushed (with_piece bytes g) ≡ with_row (flushed g) (a_text bytes)
text-flushed bytes g none =
    subst (λ p. with_pending (text_before bytes p) g.rows ≡ with_row (with_pending p g.rows) (a_text bytes)) (sym none) refl

-- where no text waits, or none stands before it
pub gathered-written : (nodes : Nodes) (g : Gathered) → StandApart nodes → (ends_with_text nodes ≡ true → g.pending ≡ None) → flushed (gathered nodes g) ≡ written nodes (flushed g)
gathered-written no_nodes g h n = refl
gathered-written (and_text nodes bytes) g h n =
    let none : g.pending ≡ None = n refl in
    gathered-written nodes (with_piece bytes g) h.1 (λ e. absurd (let f : ⊥ = cc in f))
    ∙ ap (written nodes) (text-flushed bytes g none)
gathered-written (and_comment nodes bytes) g h n = gathered-written nodes (put (a_comment bytes) g) h (λ e. refl)
gathered-written (and_doctype nodes own) g h n = gathered-written nodes (put (a_doctype own) g) h (λ e. refl)
gathered-written (and_element nodes tag children) g h n =
    let k = length (flushed g) in
    gathered-written nodes (closed tag k (gathered children (only_rows (flushed g)))) h.0 (λ e. refl)
    ∙ ap (λ rows. written nodes (rows ++ (contents_flat (has_contents tag) k ++ flat (an_element tag) k ∷ [])))
    (gathered-written children (only_rows (flushed g)) h.1 (λ e. refl))

-- Trees

abbrev pub written_trees : HtmlForest → List Flat → List Flat
written_trees no_trees rows = rows
written_trees (text bytes more) rows = with_row (written_trees more rows) (a_text bytes)
written_trees (comment bytes more) rows = with_row (written_trees more rows) (a_comment bytes)
written_trees (doctype own more) rows = with_row (written_trees more rows) (a_doctype own)
written_trees (element tag below more) rows =
    let later = written_trees more rows in
    written_trees below later ++ (contents_flat (has_contents tag) (length later) ++ flat (an_element tag) (length later) ∷ [])

pub written-before : (nodes : Nodes) (trees : HtmlForest) (rows : List Flat) → written_trees (before nodes trees) rows ≡ written nodes (written_trees trees rows)
written-before no_nodes trees rows = refl
written-before (and_text nodes bytes) trees rows = written-before nodes (text bytes trees) rows
written-before (and_comment nodes bytes) trees rows = written-before nodes (comment bytes trees) rows
written-before (and_doctype nodes own) trees rows = written-before nodes (doctype own trees) rows
written-before (and_element nodes tag children) trees rows =
    let later = written_trees trees rows in
    written-before nodes (element tag (before children no_trees) trees) rows
    ∙ ap (λ inner. written nodes (inner ++ (contents_flat (has_contents tag) (length later) ++ flat (an_element tag) (length later) ∷ [])))
    (written-before children no_trees later)

-- rows that are written, and rows with their ends
abbrev pub Fits : ℕ → List Flat → List Row → Type 0
Fits total [] [] = ⊤
Fits total [] (row ∷ rows) = ⊥
Fits total (own ∷ flats) [] = ⊥
Fits total (own ∷ flats) (row ∷ rows) = (own.node ≡ row.node) × (row.end + own.behind ≡ total) × Fits total flats rows

contents-flats : (b : Bool) (behind : ℕ) → length (contents_flat b behind) ≡ contents_count b
contents-flats true behind = refl
contents-flats false behind = refl

pub written-length : (trees : HtmlForest) (rows : List Flat) → length (written_trees trees rows) ≡ row_count trees + length rows
written-length no_trees rows = omega arith
written-length (text bytes more) rows =
    let h = written-length more rows in
    let later = written_trees more rows in
    let k = length-append later (flat (a_text bytes) (length later) ∷ []) in
    omega (arith, h, k)
written-length (comment bytes more) rows =
    let h = written-length more rows in
    let later = written_trees more rows in
    let k = length-append later (flat (a_comment bytes) (length later) ∷ []) in
    omega (arith, h, k)
written-length (doctype own more) rows =
    let h = written-length more rows in
    let later = written_trees more rows in
    let k = length-append later (flat (a_doctype own) (length later) ∷ []) in
    omega (arith, h, k)
written-length (element tag below more) rows =
    let h = written-length more rows in
    let later = written_trees more rows in
    let n = length later in
    let b = has_contents tag in
    let own : List Flat = flat (an_element tag) n ∷ [] in
    let i = written-length below later in
    let j = length-append (written_trees below later) (contents_flat b n ++ own) in
    let k = length-append (contents_flat b n) own in
    let c = contents-flats b n in
    omega (arith, h, i, j, k, c)

-- one row more stands first once all is turned round
turned : (rows : List Flat) (node : Node) (k : ℕ) → reverse (rows ++ flat node k ∷ []) ≡ flat node k ∷ reverse rows
turned rows node k = reverse-append rows (flat node k ∷ [])

turned-element : (rows front : List Flat) (own : Flat) → reverse (rows ++ (front ++ own ∷ [])) ≡ own ∷ (reverse front ++ reverse rows)
turned-element rows front own =
    reverse-append rows (front ++ own ∷ []) ∙ ap (λ v. v ++ reverse rows) (reverse-append front (own ∷ []))

contents-fits : (b : Bool) (number end behind total : ℕ) (flats : List Flat) (rows : List Row) → end + behind ≡ total → Fits total flats rows → Fits total (reverse (contents_flat b behind) ++ flats) (contents_rows b number end ++ rows)
contents-fits true number end behind total flats rows e h = (refl, e, h)
contents-fits false number end behind total flats rows e h = h

lone-fits : (node : Node) (number total : ℕ) (parent : Option ℕ) (later : List Flat) (rows : List Row) → number + 1 + length later ≡ total → Fits total (reverse later) rows → Fits total (reverse (with_row later node)) (record { node = node; parent = parent; end = number + 1 } ∷ rows)
lone-fits node number total parent later rows e h =
    subst (λ v. Fits total v (record { node = node; parent = parent; end = number + 1 } ∷ rows)) (sym (turned later node (length later)))
    (refl, e, h)

pub trees-fit : (trees : HtmlForest) (number total : ℕ) (parent : Option ℕ) (flats : List Flat) (rows : List Row) → number + row_count trees + length flats ≡ total → Fits total (reverse flats) rows → Fits total (reverse (written_trees trees flats)) (rows_from number parent trees ++ rows)
trees-fit no_trees number total parent flats rows e h = h
trees-fit (text bytes more) number total parent flats rows e h =
    let count = written-length more flats in
    lone-fits (a_text bytes) number total parent (written_trees more flats) (rows_from (number + 1) parent more ++ rows) (omega (arith, e, count))
    (trees-fit more (number + 1) total parent flats rows (omega (arith, e)) h)
trees-fit (comment bytes more) number total parent flats rows e h =
    let count = written-length more flats in
    lone-fits (a_comment bytes) number total parent (written_trees more flats) (rows_from (number + 1) parent more ++ rows) (omega (arith, e, count))
    (trees-fit more (number + 1) total parent flats rows (omega (arith, e)) h)
trees-fit (doctype own more) number total parent flats rows e h =
    let count = written-length more flats in
    lone-fits (a_doctype own) number total parent (written_trees more flats) (rows_from (number + 1) parent more ++ rows) (omega (arith, e, count))
    (trees-fit more (number + 1) total parent flats rows (omega (arith, e)) h)
trees-fit (element tag below more) number total parent flats rows e h =
    let count = written-length more flats in
    let later = written_trees more flats in
    let k = length later in
    let b = has_contents tag in
    let inner = number + contents_count b in
    let end = inner + 1 + row_count below in
    let own : Row = record { node = an_element tag; parent = parent; end = end } in
    let back = trees-fit more end total parent flats rows (omega (arith, e)) h in
    let mid = trees-fit below (inner + 1) total (Some inner) later (rows_from end parent more ++ rows) (omega (arith, e, count)) back in
    let last : end + k ≡ total = omega (arith, e, count) in
    let front = contents-fits b number end k total (reverse (written_trees below later)) (rows_from (inner + 1) (Some inner) below ++ (rows_from end parent more ++ rows)) last mid in
    let seam : contents_rows b number end ++ (rows_from (inner + 1) (Some inner) below ++ (rows_from end parent more ++ rows)) ≡ (contents_rows b number end ++ (rows_from (inner + 1) (Some inner) below ++ rows_from end parent more)) ++ rows
    = ap (λ v. contents_rows b number end ++ v) (sym (append_assoc (rows_from (inner + 1) (Some inner) below) (rows_from end parent more) rows)) ∙ sym (append_assoc (contents_rows b number end) (rows_from (inner + 1) (Some inner) below ++ rows_from end parent more) rows) in
    subst (λ v. Fits total v (own ∷ ((contents_rows b number end ++ (rows_from (inner + 1) (Some inner) below ++ rows_from end parent more)) ++ rows))) (sym (turned-element (written_trees below later) (contents_flat b k) (flat (an_element tag) k)))
    (refl, last, subst (λ v. Fits total (reverse (contents_flat b k) ++ reverse (written_trees below later)) v) seam front)

-- What is gathered

abbrev pub nothing : Gathered
nothing = only_rows []

pub gathered_fit : (nodes : Nodes) → StandApart nodes → Fits (row_count (before nodes no_trees)) (reverse (flushed (gathered nodes nothing))) (rows_of (before nodes no_trees))
gathered_fit nodes h =
    let trees = before nodes no_trees in
    let same : flushed (gathered nodes nothing) ≡ written_trees trees [] = gathered-written nodes nothing h (λ e. refl) ∙ sym (written-before nodes no_trees []) in
    let fits = trees-fit trees 0 (row_count trees) None [] [] (omega arith) tt in
    subst (λ v. Fits (row_count trees) (reverse v) (rows_of trees)) (sym same)
    (subst (λ v. Fits (row_count trees) (reverse (written_trees trees [])) v) (append-nil (rows_of trees)) fits)
