-- The rows that are written of nodes, turned round and seated, are those of their trees.
use Rattle.std.proofs.Common.{Bool, IsTrue, List, None, Some, [], ap, arith, get_or, length, map, nat_le, refl, reverse, slice_get, subst, suc, sym, true, zero, ℕ, ◌+◌, ◌++◌, ◌<◌, ◌^◌, ◌∙◌, ◌≡◌, ◌∷◌}
use Rattle.std.proofs.lemmas.Bool.{and_from, and_parts, le-leb}
use Rattle.std.proofs.lemmas.List.{length-reverse, reverse-append}
use Rattle.std.proofs.lemmas.Option.{slice_get_within}
use Rattle.std.specs.List.{list_all}
use Rattle.tl_dom_spec.specs.HtmlForest.{before, no_trees}
use Rattle.tl_dom_spec.specs.Path.{Nodes, no_nodes}
use Rattle.tl_tree.proofs.Gathers.{Fits, StandApart, apart-joined, gathered_fit, nothing}
use Rattle.tl_tree.proofs.RowLaws.{row_numbers}
use Rattle.tl_tree.proofs.Seats.{all-get, code-get, seated_rows}
use Rattle.tl_tree.specs.Inner.Gathering.{Gathered, flushed, gathered, only_rows}
use Rattle.tl_tree.specs.Inner.RowView.{flat_in, held_is_within, row_in, row_is_within}
use Rattle.tl_tree.specs.Inner.Seating.{Seated}
use Rattle.tl_tree.specs.Inner.Settling.{Sound, Writes, flats_of, pending_of, sizes_with, state_of, text_with}
use Rattle.tl_tree.specs.Inner.Store.{node_in, nodes_of, row_in as cell_row, rows_from, rows_of}
use Rattle.tl_tree.specs.Inner.Within.{Sizes}
use Rattle.tl_tree.specs.Rows as rows
use Rattle.tl_tree.specs.declared.cell.Cell.{Cell}
use Rattle.tl_tree.specs.declared.cell.Node.{Node}
use Rattle.tl_tree.specs.declared.cell.Node.TheVariants.{Comment, Doctype, Element, Joined, Text}
use Rattle.tl_tree.specs.declared.row.Row.{Row}
use Rattle.tl_tree.specs.declared.settling.Settling.{Settling}
use Rattle.tl_tree.specs.declared.store.Store.{Store}
use Rattle.tl_tree.proofs.Changed.{map-reverse}

-- Texts of a store stand apart

abbrev AllApart : List Nodes → Type 0
AllApart all = (n : ℕ) → StandApart (get_or all n no_nodes)

none-apart : AllApart []
none-apart n = tt

apart-cons : (first : Nodes) (all : List Nodes) → StandApart first → AllApart all → AllApart (first ∷ all)
apart-cons first all h k zero = h
apart-cons first all h k (suc n) = k n

apart-last : (all : List Nodes) (last : Nodes) → AllApart all → StandApart last → AllApart (all ++ last ∷ [])
apart-last [] last h k = apart-cons last [] k none-apart
apart-last (first ∷ all) last h k = apart-cons first (all ++ last ∷ []) (h 0) (apart-last all last (λ n. h (suc n)) k)

node-apart : (s : Store) (all : List Nodes) (node : Node) → AllApart all → StandApart (node_in s all node)
node-apart s all (Text own) h = (refl, tt)
node-apart s all (Comment own) h = tt
node-apart s all (Doctype n source) h = tt
node-apart s all (Element tag below) h = (tt, h below)
node-apart s all (Joined second) h = h second

all-apart : (s : Store) (all : List Nodes) (cells : List Cell) → AllApart all → AllApart (rows_from s all cells)
all-apart s all [] h = h
all-apart s all (c ∷ cells) h =
    all-apart s (all ++ cell_row s all c ∷ []) cells
    (apart-last all (cell_row s all c) h (apart-joined (get_or all c.before no_nodes) (node_in s all c.node) (h c.before) (node-apart s all c.node h)))

pub nodes-apart : (s : Store) (n : ℕ) → StandApart (nodes_of s n)
unfolding nodes_of rows_of
nodes-apart s n = all-apart s (no_nodes ∷ []) s.cells.items (apart-cons no_nodes [] tt none-apart) n

-- Rows that are turned round

pub all-reverse : {A : Type 0} (test : A → Bool) (xs : List A) → IsTrue (list_all test xs) → IsTrue (list_all test (reverse xs))
all-reverse test [] h = refl
all-reverse test (x ∷ xs) h =
    let p = and_parts (test x) (list_all test xs) h in
    subst (λ v. IsTrue (list_all test v)) (sym (reverse-append (x ∷ []) xs))
    (pushed test (reverse xs) x (all-reverse test xs p.1) p.0)
  where
    pushed : {A : Type 0} (test : A → Bool) (xs : List A) (x : A) → IsTrue (list_all test xs) → IsTrue (test x) → IsTrue (list_all test (xs ++ x ∷ []))
    pushed test [] x h k = and_from (test x) true k refl
    pushed test (y ∷ xs) x h k =
        let p = and_parts (test y) (list_all test xs) h in
        and_from (test y) (list_all test (xs ++ x ∷ [])) p.0 (pushed test xs x p.1 k)

-- Ends

fits-ends : (s : Store) (text : List ℕ) (total : ℕ) (own : List Row) (all : List rows.Row) → Fits total (map (flat_in s text) own) all → IsTrue (list_all (λ row. nat_le row.end total) own)
fits-ends s text total [] all h = refl
fits-ends s text total (row ∷ own) [] h = absurd h
fits-ends s text total (row ∷ own) (y ∷ all) h =
    let fit = h.1 in
    and_from (nat_le row.end total) (list_all (λ row. nat_le row.end total) own) (le-leb row.end total (omega (arith, fit))) (fits-ends s text total own all h.2)

fits-long : (s : Store) (text : List ℕ) (total : ℕ) (own : List Row) (all : List rows.Row) → Fits total (map (flat_in s text) own) all → length own ≡ length all
fits-long s text total [] [] h = refl
fits-long s text total [] (y ∷ all) h = absurd h
fits-long s text total (row ∷ own) [] h = absurd h
fits-long s text total (row ∷ own) (y ∷ all) h = let n = fits-long s text total own all h.2 in omega (arith, n)

-- what is written of a row of nodes, and turned round
pub turned-fit : (s o : Store) (text : List ℕ) (n : ℕ) (written : List Row) → map (flat_in s text) written ≡ flushed (gathered (nodes_of o n) nothing) → Fits (rows.row_count (before (nodes_of o n) no_trees)) (map (flat_in s text) (reverse written)) (rows.rows_of (before (nodes_of o n) no_trees))
turned-fit s o text n written e =
    let trees = before (nodes_of o n) no_trees in
    subst (λ v. Fits (rows.row_count trees) v (rows.rows_of trees)) (sym (map-reverse (flat_in s text) written ∙ ap reverse e))
    (gathered_fit (nodes_of o n) (nodes-apart o n))

pub turned-ends : (s o : Store) (text : List ℕ) (n : ℕ) (written turned : List Row) → turned ≡ reverse written → map (flat_in s text) written ≡ flushed (gathered (nodes_of o n) nothing) → IsTrue (list_all (λ row. nat_le row.end (length turned)) turned)
turned-ends s o text n written turned is e =
    let trees = before (nodes_of o n) no_trees in
    let fits = turned-fit s o text n written e in
    let long : rows.row_count trees ≡ length (reverse written) = sym (fits-long s text (rows.row_count trees) (reverse written) (rows.rows_of trees) fits ∙ row_numbers trees) in
    subst (λ v. IsTrue (list_all (λ row. nat_le row.end (length v)) v)) (sym is)
    (subst (λ v. IsTrue (list_all (λ row. nat_le row.end v) (reverse written))) long (fits-ends s text (rows.row_count trees) (reverse written) (rows.rows_of trees) fits))

pub seated-trees : (s o : Store) (text : List ℕ) (n : ℕ) (written turned seated : List Row) → turned ≡ reverse written → map (flat_in s text) written ≡ flushed (gathered (nodes_of o n) nothing) → Seated turned seated → map (row_in s text) seated ≡ rows.rows_of (before (nodes_of o n) no_trees)
seated-trees s o text n written turned seated is e done =
    seated_rows s text (reverse written) seated (before (nodes_of o n) no_trees) (turned-fit s o text n written e) (subst (λ v. Seated v seated) is done)

-- In range

all-gets : {A : Type 0} (test : A → Bool) (xs : List A) → ((k : ℕ) (x : A) → slice_get xs k ≡ Some x → IsTrue (test x)) → IsTrue (list_all test xs)
all-gets test [] f = refl
all-gets test (x ∷ xs) f = and_from (test x) (list_all test xs) (f 0 x refl) (all-gets test xs (λ k. f (suc k)))

pub seated-within : (z : Sizes) (written turned seated : List Row) → turned ≡ reverse written → IsTrue (list_all (row_is_within z) written) → Seated turned seated → IsTrue (list_all (row_is_within z) seated)
seated-within z written turned seated is h done =
    let all : IsTrue (list_all (row_is_within z) turned) = subst (λ v. IsTrue (list_all (row_is_within z) v)) (sym is) (all-reverse (row_is_within z) written h) in
    all-gets (row_is_within z) seated (λ k own e. (
    let within = slice_get_within seated k own e in
    let long = done.long in
    let row = code-get turned k (omega (arith, within, long)) in
    let same = (done.same k row.0 own row.1 e).0 in
    subst (λ v. IsTrue (held_is_within z v)) (sym same) (all-get (row_is_within z) turned k row.0 all row.1)))

-- What settling leaves

abbrev IsWritten : Settling → Settling → ℕ → Type 0
IsWritten init final n = Writes init final (only_rows (flushed (gathered (nodes_of init.store n) (state_of init))))

final-flats : (init final : Settling) (n : ℕ) → IsWritten init final n → init.pieces.items ≡ [] → init.rows.items ≡ [] → map (flat_in final.store (text_with final.store final.copied.items)) final.rows.items ≡ flushed (gathered (nodes_of init.store n) nothing)
final-flats init final n w pieces written =
    let s = init.store in
    let nodes = nodes_of s n in
    ap (λ (g : Gathered). g.rows) w.state
    ∙ (ap (λ v. flushed (gathered nodes (record { pending = pending_of s init.source v; rows = flats_of init }))) pieces
    ∙ ap (λ v. flushed (gathered nodes (record { pending = None; rows = map (flat_in s (text_with s init.copied.items)) v }))) written)

pub final-ends : (init final : Settling) (n : ℕ) (turned : List Row) → IsWritten init final n → init.pieces.items ≡ [] → init.rows.items ≡ [] → turned ≡ reverse final.rows.items → IsTrue (list_all (λ row. nat_le row.end (length turned)) turned)
final-ends init final n turned w pieces written is =
    turned-ends final.store init.store (text_with final.store final.copied.items) n final.rows.items turned is (final-flats init final n w pieces written)

pub final-rows : (init final : Settling) (n : ℕ) (turned seated : List Row) → IsWritten init final n → init.pieces.items ≡ [] → init.rows.items ≡ [] → turned ≡ reverse final.rows.items → Seated turned seated → map (row_in final.store (text_with final.store final.copied.items)) seated ≡ rows.rows_of (before (nodes_of init.store n) no_trees)
final-rows init final n turned seated w pieces written is done =
    seated-trees final.store init.store (text_with final.store final.copied.items) n final.rows.items turned seated is (final-flats init final n w pieces written) done

pub final-within : (final : Settling) (turned seated : List Row) → Sound final → turned ≡ reverse final.rows.items → Seated turned seated → IsTrue (list_all (row_is_within (sizes_with final.store final.copied.items)) seated)
final-within final turned seated sound is done =
    seated-within (sizes_with final.store final.copied.items) final.rows.items turned seated is sound.rows done

pub final-few : (final : Settling) (turned seated : List Row) → Sound final → turned ≡ reverse final.rows.items → Seated turned seated → length seated < 2 ^ 32
final-few final turned seated sound is done =
    let long = done.long in
    let same = ap length is ∙ length-reverse final.rows.items in
    let few = sound.few in
    omega (arith, long, same, few)
