-- What a program writes into a table, as the machine sees it: nodes are items under a view, and the innermost open tag may stand last.
use Rattle.std.proofs.Common.{◌≡◌, ℕ, zero, suc, ◌+◌, ◌-◌, ◌<◌, List, [], ◌∷◌, ◌++◌, length, map, reverse, take, Some, get_or, set, refl, sym, ◌∙◌, ap, arith, rules}
use Rattle.std.specs.Prelude.{slice_get}
use Rattle.std.proofs.lemmas.List.{reverse-append, take_more, take_all}
use Rattle.std.proofs.lemmas.Option.{slice_get-get_or}
use Rattle.tl_spec.specs.Tree.Document.{Node}
use Rattle.tl_spec.specs.Tree.Builder.{State, map_at, with_child, with_raw_to, with_child_of_innermost, with_child_of_first, with_innermost_closed, with_first_closed}

-- one item written
pub map_at-map : {A B : Type 0} (view : A → B) (f : B → B) (xs : List A) (i : ℕ) (x y : A) → i < length xs → x ≡ get_or xs i x → view y ≡ f (view x) →
    map view (set xs i y) ≡ map_at f i (map view xs)
map_at-map view f [] i x y h e q = absurd (omega arith)
map_at-map view f (z ∷ xs) zero x y h e q = ap (λ v. v ∷ map view xs) (q ∙ ap (λ z. f (view z)) e)
map_at-map view f (z ∷ xs) (suc i) x y h e q = ap (λ vs. view z ∷ vs) (map_at-map view f xs i x y (omega arith) e q)

-- the last of a list is the first of it reversed
pub reverse-last : (front : List ℕ) (p : ℕ) → reverse (front ++ p ∷ []) ≡ p ∷ reverse front
reverse-last front p = reverse-append front (p ∷ [])

pub slice_get-last : (xs : List ℕ) → slice_get xs (length xs - 1) ≡ slice_get (reverse xs) 0
slice_get-last [] = refl
slice_get-last (y ∷ ys) =
    let xs : List ℕ = y ∷ ys in
    let n : ℕ = length ys in
    let whole : xs ≡ take n xs ++ get_or xs n 0 ∷ [] = sym (take_all (n + 1) xs (omega arith)) ∙ take_more xs n 0 (omega arith) in
    let back : slice_get (reverse xs) 0 ≡ Some (get_or xs n 0) = ap (λ z. slice_get z 0) (ap reverse whole ∙ reverse-last (take n xs) (get_or xs n 0)) in
    let there : slice_get xs (length xs - 1) ≡ Some (get_or xs n 0) = search (rules, slice_get-get_or) in
    there ∙ sym back

-- a number adopted by the node x, which is written again as y
pub adopted-written : {A : Type 0} (view : A → Node) (n p : ℕ) (s : State) (xs : List A) (x y : A) → s.nodes ≡ map view xs → slice_get s.open_tags 0 ≡ Some p →
    p < length xs → x ≡ get_or xs p x → view y ≡ with_child n (view x) → record s { nodes = map view (set xs p y) } ≡ with_child_of_innermost n s
adopted-written {A} view n p s xs x y is e h at q = first s.open_tags e
  where
    write : map view (set xs p y) ≡ map_at (with_child n) p s.nodes
    write = map_at-map view (with_child n) xs p x y h at q ∙ ap (map_at (with_child n) p) (sym is)

    first : (ps : List ℕ) → slice_get ps 0 ≡ Some p → record s { nodes = map view (set xs p y) } ≡ with_child_of_first n s ps
    first [] e = cc
    first (r ∷ ps) e =
        let same : p ≡ r = cc in
        ap (λ nodes. record s { nodes = nodes }) (write ∙ ap (λ r. map_at (with_child n) r s.nodes) same)

-- the tag x closed, which is written again as y
pub closed-written : {A : Type 0} (view : A → Node) (t : List ℕ) (to p : ℕ) (ps : List ℕ) (s : State) (xs : List A) (x y : A) → s.nodes ≡ map view xs → s.open_tags ≡ p ∷ ps →
    p < length xs → x ≡ get_or xs p x → view y ≡ with_raw_to t to (view x) → record s { nodes = map view (set xs p y); open_tags = ps } ≡ with_innermost_closed t to s
closed-written view t to p ps s xs x y is e h at q =
    ap (λ nodes. record s { nodes = nodes; open_tags = ps }) (map_at-map view (with_raw_to t to) xs p x y h at q ∙ ap (map_at (with_raw_to t to) p) (sym is))
    ∙ ap (with_first_closed t to s) (sym e)
