-- What one step of the machine keeps, and what many keep.
use Rattle.std.proofs.Common.{◌≡◌, ℕ, zero, suc, ◌+◌, ◌≤◌, ◌||◌, ◌⊎◌, inl, inr, Bool, true, false, List, [], ◌∷◌, ◌++◌, length, Some, refl, sym, ◌∙◌, ap, subst, arith, length-append}
use Rattle.std.specs.Prelude.{slice_get}
use Rattle.std.specs.List.{list_any}
use Rattle.std.proofs.Math.Bool.{or-false}
use Rattle.std.proofs.lemmas.List.Elements.{All-nil, All-cons, All-tail, All-weaker, All-same}
use Rattle.tl_spec.specs.Lex.ByteClass.{is_void}
use Rattle.tl_spec.specs.Lex.Token.{Token, PlacedToken, Text, End, Comment, Doctype, Start, Nothing}
use Rattle.tl_spec.specs.Tree.Forest.{closes}
use Rattle.tl_spec.specs.Tree.Document.{Node, TagNode, Tag, Raw, Comment as Remark, is_html5_doctype}
use Rattle.tl_spec.specs.Tree.Builder.{State, start, map_at, with_child, with_raw_to, enclosing_name, with_child_of_first, with_child_of_innermost, with_next_node, with_open_tag, with_first_closed, with_innermost_closed, start_node, after_start, after_end, after_token, step, run, IsOpen, AreOpen}

-- a list with one item changed

pub length-map_at : {A : Type 0} (f : A → A) (i : ℕ) (xs : List A) → length (map_at f i xs) ≡ length xs
length-map_at f i [] = refl
length-map_at f zero (x ∷ xs) = refl
length-map_at f (suc i) (x ∷ xs) = ap suc (length-map_at f i xs)

pub map_at-middle : {A : Type 0} (f : A → A) (before : List A) (x : A) (after : List A) → map_at f (length before) (before ++ x ∷ after) ≡ before ++ f x ∷ after
map_at-middle f [] x after = refl
map_at-middle f (y ∷ before) x after = ap (λ xs. y ∷ xs) (map_at-middle f before x after)

pub slice_get-middle : {A : Type 0} (before : List A) (x : A) (after : List A) → slice_get (before ++ x ∷ after) (length before) ≡ Some x
slice_get-middle [] x after = refl
slice_get-middle (y ∷ before) x after = slice_get-middle before x after

pub slice_get-append : {A : Type 0} (xs ys : List A) (i : ℕ) (x : A) → slice_get xs i ≡ Some x → slice_get (xs ++ ys) i ≡ Some x
slice_get-append [] ys i x e = absurd (cc)
slice_get-append (y ∷ xs) ys zero x e = e
slice_get-append (y ∷ xs) ys (suc i) x e = slice_get-append xs ys i x e

-- an item is changed or not
slice_get-change_at_either : {A : Type 0} (f : A → A) (i j : ℕ) (xs : List A) (x : A) → slice_get xs j ≡ Some x →
    (slice_get (map_at f i xs) j ≡ Some x) ⊎ (slice_get (map_at f i xs) j ≡ Some (f x))
slice_get-change_at_either f i j [] x e = inl e
slice_get-change_at_either f zero zero (y ∷ xs) x e = let same : y ≡ x = cc in inr (ap (λ z. Some (f z)) same)
slice_get-change_at_either f zero (suc j) (y ∷ xs) x e = inl e
slice_get-change_at_either f (suc i) zero (y ∷ xs) x e = inl e
slice_get-change_at_either f (suc i) (suc j) (y ∷ xs) x e = slice_get-change_at_either f i j xs x e

-- where a number goes, by the open tags

adopted_by-open_tags : (n : ℕ) (s : State) (ps : List ℕ) → (with_child_of_first n s ps).open_tags ≡ s.open_tags
adopted_by-open_tags n s [] = refl
adopted_by-open_tags n s (p ∷ ps) = refl

pub added-open_tags : (x : Node) (s : State) → (with_next_node x s).open_tags ≡ s.open_tags
added-open_tags x s = adopted_by-open_tags (length s.nodes) s s.open_tags

-- how many nodes

length-adopted_by : (n : ℕ) (s : State) (ps : List ℕ) → length (with_child_of_first n s ps).nodes ≡ length s.nodes
length-adopted_by n s [] = refl
length-adopted_by n s (p ∷ ps) = length-map_at (with_child n) p s.nodes

pub length-added : (x : Node) (s : State) → length (with_next_node x s).nodes ≡ length s.nodes + 1
length-added x s =
    length-append (with_child_of_innermost (length s.nodes) s).nodes (x ∷ []) ∙ ap (λ n. n + 1) (length-adopted_by (length s.nodes) s s.open_tags)

length-closed_by : (t : List ℕ) (to : ℕ) (s : State) (ps : List ℕ) → length (with_first_closed t to s ps).nodes ≡ length s.nodes
length-closed_by t to s [] = refl
length-closed_by t to s (p ∷ ps) = length-map_at (with_raw_to t to) p s.nodes

pub length-closed : (t : List ℕ) (to : ℕ) (s : State) → length (with_innermost_closed t to s).nodes ≡ length s.nodes
length-closed t to s = length-closed_by t to s s.open_tags

-- at most one more
abbrev IsGrown : State → State → Type 0
IsGrown s r = (length s.nodes ≤ length r.nodes) × (length r.nodes ≤ length s.nodes + 1)

grown-added : (x : Node) (s : State) → IsGrown s (with_next_node x s)
grown-added x s = let e = length-added x s in (omega arith, omega arith)

grown-start : (t : List ℕ) (x : Node) (s : State) (alone : Bool) → IsGrown s (after_start t x s alone)
grown-start t x s true = grown-added x s
grown-start t x s false = grown-added x s

grown-end : (t : List ℕ) (to : ℕ) (s : State) (closing : Bool) → IsGrown s (after_end t to s closing)
grown-end t to s true = let e = length-closed t to s in (omega arith, omega arith)
grown-end t to s false = (omega arith, omega arith)

grown-token : (t : List ℕ) (k : PlacedToken) (s : State) (token : Token) → IsGrown s (after_token t k s token)
grown-token t k s (Text bytes) = grown-added (Raw bytes) s
grown-token t k s (Comment bytes) = grown-added (Remark bytes) s
grown-token t k s (Start name pairs alone) = grown-start t (start_node t k name pairs) s (alone || is_void name)
grown-token t k s (End name) = grown-end t k.to s (closes name (enclosing_name s.nodes s.open_tags))
grown-token t k s (Doctype html) = (omega arith, omega arith)
grown-token t k s Nothing = (omega arith, omega arith)

pub length-step-le : (t : List ℕ) (s : State) (k : PlacedToken) → length (step t s k).nodes ≤ length s.nodes + 1
length-step-le t s k = (grown-token t k s k.token).1

-- the version

adopted_by-html5 : (n : ℕ) (s : State) (ps : List ℕ) → (with_child_of_first n s ps).is_html5 ≡ s.is_html5
adopted_by-html5 n s [] = refl
adopted_by-html5 n s (p ∷ ps) = refl

closed_by-html5 : (t : List ℕ) (to : ℕ) (s : State) (ps : List ℕ) → (with_first_closed t to s ps).is_html5 ≡ s.is_html5
closed_by-html5 t to s [] = refl
closed_by-html5 t to s (p ∷ ps) = refl

start-html5 : (t : List ℕ) (x : Node) (s : State) (alone : Bool) → (after_start t x s alone).is_html5 ≡ s.is_html5
start-html5 t x s true = adopted_by-html5 (length s.nodes) s s.open_tags
start-html5 t x s false = adopted_by-html5 (length s.nodes) s s.open_tags

end-html5 : (t : List ℕ) (to : ℕ) (s : State) (closing : Bool) → (after_end t to s closing).is_html5 ≡ s.is_html5
end-html5 t to s true = closed_by-html5 t to s s.open_tags
end-html5 t to s false = refl

token-html5 : (t : List ℕ) (k : PlacedToken) (s : State) (token : Token) → (after_token t k s token).is_html5 ≡ (s.is_html5 || is_html5_doctype token)
token-html5 t k s (Text bytes) = adopted_by-html5 (length s.nodes) s s.open_tags ∙ sym (or-false s.is_html5)
token-html5 t k s (Comment bytes) = adopted_by-html5 (length s.nodes) s s.open_tags ∙ sym (or-false s.is_html5)
token-html5 t k s (Start name pairs alone) = start-html5 t (start_node t k name pairs) s (alone || is_void name) ∙ sym (or-false s.is_html5)
token-html5 t k s (End name) = end-html5 t k.to s (closes name (enclosing_name s.nodes s.open_tags)) ∙ sym (or-false s.is_html5)
token-html5 t k s (Doctype html) = refl
token-html5 t k s Nothing = sym (or-false s.is_html5)

pub step-html5 : (t : List ℕ) (s : State) (k : PlacedToken) → (step t s k).is_html5 ≡ (s.is_html5 || is_html5_doctype k.token)
step-html5 t s k = token-html5 t k s k.token

or_assoc : (a b c : Bool) → ((a || b) || c) ≡ (a || (b || c))
or_assoc true b c = refl
or_assoc false b c = refl

pub run-html5 : (t : List ℕ) (s : State) (ks : List PlacedToken) → (run t s ks).is_html5 ≡ (s.is_html5 || list_any (λ k. is_html5_doctype k.token) ks)
run-html5 t s [] = sym (or-false s.is_html5)
run-html5 t s (k ∷ ks) =
    run-html5 t (step t s k) ks
    ∙ ap (λ v. v || list_any (λ k. is_html5_doctype k.token) ks) (step-html5 t s k)
    ∙ or_assoc s.is_html5 (is_html5_doctype k.token) (list_any (λ k. is_html5_doctype k.token) ks)

-- the open tags

pub IsOpen-later : (i j : ℕ) (xs : List Node) (p : ℕ) → i ≤ j → IsOpen i xs p → IsOpen j xs p
IsOpen-later i j xs p le h = record { own = h.own; found = h.found; begun = omega (arith, h.begun) }

pub IsOpen-append : (i : ℕ) (xs ys : List Node) (p : ℕ) → IsOpen i xs p → IsOpen i (xs ++ ys) p
IsOpen-append i xs ys p h = record { own = h.own; found = slice_get-append xs ys p (Tag h.own) h.found; begun = h.begun }

-- a change by which a tag stays one that begins there
abbrev KeepsStart : (Node → Node) → Type 0
KeepsStart f = (own : TagNode) → (new : TagNode) × (f (Tag own) ≡ Tag new) × (new.start ≡ own.start)

IsOpen-map_at : (f : Node → Node) → KeepsStart f → (i q : ℕ) (xs : List Node) (p : ℕ) → IsOpen i xs p → IsOpen i (map_at f q xs) p
IsOpen-map_at f keeps i q xs p h =
    elim (slice_get-change_at_either f q p xs (Tag h.own) h.found) [
      | inl e ↦ record { own = h.own; found = e; begun = h.begun }
      | inr e ↦ (let k = keeps h.own in record { own = k.0; found = e ∙ ap (λ (x : Node). Some x) k.1; begun = omega (arith, k.2, h.begun) })
    ]

child-keeps : (n : ℕ) → KeepsStart (with_child n)
child-keeps n own = (_, refl, refl)

raw-keeps : (t : List ℕ) (to : ℕ) → KeepsStart (with_raw_to t to)
raw-keeps t to own = (_, refl, refl)

adopted_by-IsOpen : (i n : ℕ) (s : State) (ps : List ℕ) (p : ℕ) → IsOpen i s.nodes p → IsOpen i (with_child_of_first n s ps).nodes p
adopted_by-IsOpen i n s [] p h = h
adopted_by-IsOpen i n s (q ∷ ps) p h = IsOpen-map_at (with_child n) (child-keeps n) i q s.nodes p h

added-IsOpen : (i : ℕ) (x : Node) (s : State) (p : ℕ) → IsOpen i s.nodes p → IsOpen i (with_next_node x s).nodes p
added-IsOpen i x s p h =
    IsOpen-append i (with_child_of_innermost (length s.nodes) s).nodes (x ∷ []) p (adopted_by-IsOpen i (length s.nodes) s s.open_tags p h)

pub AreOpen-start : (i : ℕ) → AreOpen i start
AreOpen-start i = All-nil (IsOpen i [])

pub AreOpen-later : (i j : ℕ) (s : State) → i ≤ j → AreOpen i s → AreOpen j s
AreOpen-later i j s le h = All-weaker (IsOpen i s.nodes) (IsOpen j s.nodes) (λ p. IsOpen-later i j s.nodes p le) s.open_tags h

pub AreOpen-added : (i : ℕ) (x : Node) (s : State) → AreOpen i s → AreOpen i (with_next_node x s)
AreOpen-added i x s h =
    let P : ℕ → Type 0 = IsOpen i (with_next_node x s).nodes in
    All-same P (with_next_node x s).open_tags s.open_tags (added-open_tags x s) (All-weaker (IsOpen i s.nodes) P (added-IsOpen i x s) s.open_tags h)

pub AreOpen-opened : (i : ℕ) (own : TagNode) (s : State) → own.start ≤ i → AreOpen i s → AreOpen i (with_open_tag (Tag own) s)
AreOpen-opened i own s le h =
    let x : Node = Tag own in
    let P : ℕ → Type 0 = IsOpen i (with_next_node x s).nodes in
    let before : List Node = (with_child_of_innermost (length s.nodes) s).nodes in
    let place : slice_get (before ++ x ∷ []) (length s.nodes) ≡ Some x =
    subst (λ n. slice_get (before ++ x ∷ []) n ≡ Some x) (length-adopted_by (length s.nodes) s s.open_tags) (slice_get-middle before x []) in
    All-cons P (length s.nodes) s.open_tags (record { own = own; found = place; begun = le }) (All-weaker (IsOpen i s.nodes) P (added-IsOpen i x s) s.open_tags h)

closed_by-AreOpen : (t : List ℕ) (i to : ℕ) (s : State) (ps : List ℕ) → s.open_tags ≡ ps → AreOpen i s → AreOpen i (with_first_closed t to s ps)
closed_by-AreOpen t i to s [] e h = h
closed_by-AreOpen t i to s (p ∷ ps) e h =
    let rest = All-tail (IsOpen i s.nodes) p ps (All-same (IsOpen i s.nodes) (p ∷ ps) s.open_tags (sym e) h) in
    All-weaker (IsOpen i s.nodes) (IsOpen i (map_at (with_raw_to t to) p s.nodes)) (IsOpen-map_at (with_raw_to t to) (raw-keeps t to) i p s.nodes) ps rest

pub AreOpen-closed : (t : List ℕ) (i to : ℕ) (s : State) → AreOpen i s → AreOpen i (with_innermost_closed t to s)
AreOpen-closed t i to s h = closed_by-AreOpen t i to s s.open_tags refl h

start-AreOpen : (t : List ℕ) (i : ℕ) (own : TagNode) (s : State) → own.start ≤ i → AreOpen i s → (alone : Bool) → AreOpen i (after_start t (Tag own) s alone)
start-AreOpen t i own s le h true = AreOpen-added i (Tag own) s h
start-AreOpen t i own s le h false = AreOpen-opened i own s le h

end-AreOpen : (t : List ℕ) (i to : ℕ) (s : State) → AreOpen i s → (closing : Bool) → AreOpen i (after_end t to s closing)
end-AreOpen t i to s h true = AreOpen-closed t i to s h
end-AreOpen t i to s h false = h

token-AreOpen : (t : List ℕ) (i : ℕ) (k : PlacedToken) (s : State) → k.from ≤ i → AreOpen i s → (token : Token) → AreOpen i (after_token t k s token)
token-AreOpen t i k s le h (Text bytes) = AreOpen-added i (Raw bytes) s h
token-AreOpen t i k s le h (Comment bytes) = AreOpen-added i (Remark bytes) s h
token-AreOpen t i k s le h (Start name pairs alone) = start-AreOpen t i _ s le h (alone || is_void name)
token-AreOpen t i k s le h (End name) = end-AreOpen t i k.to s h (closes name (enclosing_name s.nodes s.open_tags))
token-AreOpen t i k s le h (Doctype html) = h
token-AreOpen t i k s le h Nothing = h

pub AreOpen-step : (t : List ℕ) (place : ℕ) (s : State) (k : PlacedToken) → place ≤ k.from → k.from ≤ k.to → AreOpen place s → AreOpen k.to (step t s k)
AreOpen-step t place s k low high h = token-AreOpen t k.to k s high (AreOpen-later place k.to s (omega arith) h) k.token

-- tokens in order
