-- What scans see of a table that is written token by token.
use Rattle.std.proofs.Common.{◌≡◌, ℕ, zero, suc, ◌+◌, ◌||◌, ◌⊎◌, inl, inr, Bool, true, false, cond, List, [], ◌∷◌, ◌++◌, length, map, Some, refl, sym, ◌∙◌, ap, append-nil}
use Rattle.std.proofs.lemmas.List.{map-append}
use Rattle.std.specs.List.{position_from}
use Rattle.tl_spec.specs.Lex.ByteClass.{is_void}
use Rattle.tl_spec.specs.Lex.Token.{Token, PlacedToken, Text, End, Comment, Doctype, Start, Nothing}
use Rattle.tl_spec.specs.Tree.Forest.{closes}
use Rattle.tl_spec.specs.Tree.Document.{Node, Tag, Raw, Comment as Remark}
use Rattle.tl_spec.specs.Tree.Builder.{State, map_at, with_child, with_raw_to, enclosing_name, with_child_of_first, with_next_node, with_first_closed, start_node, after_start, after_end, after_token, step}
use Rattle.tl_spec.specs.Lookup.Scan.{has_id, is_in_class, places_from, id_scan, class_scan, tags_of}

abbrev itself : Bool → Bool
itself b = b

-- a scan reads how the test goes at each node, and no more
module _ {A : Type 0} (p : A → Bool) where
  first-by-tests : (n : ℕ) (xs : List A) → position_from p n xs ≡ position_from itself n (map p xs)
  first-by-tests n [] = refl
  first-by-tests n (x ∷ xs) = ap (cond (p x) (Some n)) (first-by-tests (n + 1) xs)

  places-by-tests : (n : ℕ) (xs : List A) → places_from p n xs ≡ places_from itself n (map p xs)
  places-by-tests n [] = refl
  places-by-tests n (x ∷ xs) = ap (λ ns. cond (p x) (n ∷ ns) ns) (places-by-tests (n + 1) xs)

-- a test that fails at the end is not found
first-but-end : (n : ℕ) (bs : List Bool) → position_from itself n (bs ++ false ∷ []) ≡ position_from itself n bs
first-but-end n [] = refl
first-but-end n (b ∷ bs) = ap (cond b (Some n)) (first-but-end (n + 1) bs)

places-but-end : (n : ℕ) (bs : List Bool) → places_from itself n (bs ++ false ∷ []) ≡ places_from itself n bs
places-but-end n [] = refl
places-but-end n (b ∷ bs) = ap (λ ns. cond b (n ∷ ns) ns) (places-but-end (n + 1) bs)

-- a test that looks at what a step leaves alone, and that only tags pass
record SeesTags (p : Node → Bool) : Type 0 where
  pub child : (n : ℕ) (x : Node) → p (with_child n x) ≡ p x
  pub source : (t : List ℕ) (to : ℕ) (x : Node) → p (with_raw_to t to x) ≡ p x
  pub text : (bytes : List ℕ) → p (Raw bytes) ≡ false
  pub remark : (bytes : List ℕ) → p (Remark bytes) ≡ false

module _ (p : Node → Bool) (sees : SeesTags p) (t : List ℕ) where
  changed : (f : Node → Node) → ((x : Node) → p (f x) ≡ p x) → (i : ℕ) (xs : List Node) → map p (map_at f i xs) ≡ map p xs
  changed f same i [] = refl
  changed f same zero (x ∷ xs) = ap (λ b. b ∷ map p xs) (same x)
  changed f same (suc i) (x ∷ xs) = ap (λ bs. p x ∷ bs) (changed f same i xs)

  adopting : (n : ℕ) (s : State) (ps : List ℕ) → map p (with_child_of_first n s ps).nodes ≡ map p s.nodes
  adopting n s [] = refl
  adopting n s (q ∷ ps) = changed (with_child n) (sees.child n) q s.nodes

  closing : (to : ℕ) (s : State) (ps : List ℕ) → map p (with_first_closed t to s ps).nodes ≡ map p s.nodes
  closing to s [] = refl
  closing to s (q ∷ ps) = changed (with_raw_to t to) (sees.source t to) q s.nodes

  adding : (x : Node) (s : State) → map p (with_next_node x s).nodes ≡ map p s.nodes ++ p x ∷ []
  adding x s =
      map-append p (with_child_of_first (length s.nodes) s s.open_tags).nodes (x ∷ []) ∙ ap (λ bs. bs ++ p x ∷ []) (adopting (length s.nodes) s s.open_tags)

  -- how the test goes after a step: as before and at the tag that was added, and nowhere else is there more than a failure at the end
  abbrev Grows : State → List Node → State → Type 0
  Grows s tags u = (map p u.nodes ≡ map p (s.nodes ++ tags)) ⊎ (map p u.nodes ≡ map p (s.nodes ++ tags) ++ false ∷ [])

  with_none : (s : State) → map p s.nodes ≡ map p (s.nodes ++ [])
  with_none s = ap (map p) (sym (append-nil s.nodes))

  other-added : (x : Node) (s : State) → p x ≡ false → Grows s [] (with_next_node x s)
  other-added x s f = inr (adding x s ∙ ap (λ b. map p s.nodes ++ b ∷ []) f ∙ ap (λ bs. bs ++ false ∷ []) (with_none s))

  tag-added : (x : Node) (s : State) (alone : Bool) → Grows s (x ∷ []) (after_start t x s alone)
  tag-added x s true = inl (adding x s ∙ sym (map-append p s.nodes (x ∷ [])))
  tag-added x s false = inl (adding x s ∙ sym (map-append p s.nodes (x ∷ [])))

  end-taken : (to : ℕ) (s : State) (b : Bool) → Grows s [] (after_end t to s b)
  end-taken to s true = inl (closing to s s.open_tags ∙ with_none s)
  end-taken to s false = inl (with_none s)

  token-taken : (k : PlacedToken) (s : State) (token : Token) → Grows s (tags_of t k token) (after_token t k s token)
  token-taken k s (Text bytes) = other-added (Raw bytes) s (sees.text bytes)
  token-taken k s (Comment bytes) = other-added (Remark bytes) s (sees.remark bytes)
  token-taken k s (Start name pairs alone) = tag-added (start_node t k name pairs) s (alone || is_void name)
  token-taken k s (End name) = end-taken k.to s (closes name (enclosing_name s.nodes s.open_tags))
  token-taken k s (Doctype html) = inl (with_none s)
  token-taken k s Nothing = inl (with_none s)

  -- so what is read of the tests alone, and not of a failure at the end, grows with the tag alone
  grown : {X : Type 0} (read : List Bool → X) → ((bs : List Bool) → read (bs ++ false ∷ []) ≡ read bs) → (s : State) (tags : List Node) (u : State) → Grows s tags u → read (map p u.nodes) ≡ read (map p (s.nodes ++ tags))
  grown read same s tags u (inl e) = ap read e
  grown read same s tags u (inr e) = ap read e ∙ same (map p (s.nodes ++ tags))

  first-grows : (s : State) (k : PlacedToken) → position_from p 0 (step t s k).nodes ≡ position_from p 0 (s.nodes ++ tags_of t k k.token)
  first-grows s k =
      first-by-tests p 0 (step t s k).nodes
      ∙ grown (position_from itself 0) (first-but-end 0) s (tags_of t k k.token) (step t s k) (token-taken k s k.token)
      ∙ sym (first-by-tests p 0 (s.nodes ++ tags_of t k k.token))

  places-grow : (s : State) (k : PlacedToken) → places_from p 0 (step t s k).nodes ≡ places_from p 0 (s.nodes ++ tags_of t k k.token)
  places-grow s k =
      places-by-tests p 0 (step t s k).nodes
      ∙ grown (places_from itself 0) (places-but-end 0) s (tags_of t k k.token) (step t s k) (token-taken k s k.token)
      ∙ sym (places-by-tests p 0 (s.nodes ++ tags_of t k k.token))

id-sees : (i : List ℕ) → SeesTags (has_id i)
id-sees i = record { child = child; source = source; text = λ bytes. refl; remark = λ bytes. refl }
  where
    child : (n : ℕ) (x : Node) → has_id i (with_child n x) ≡ has_id i x
    child n (Tag own) = refl
    child n (Raw bytes) = refl
    child n (Remark bytes) = refl

    source : (t : List ℕ) (to : ℕ) (x : Node) → has_id i (with_raw_to t to x) ≡ has_id i x
    source t to (Tag own) = refl
    source t to (Raw bytes) = refl
    source t to (Remark bytes) = refl

class-sees : (c : List ℕ) → SeesTags (is_in_class c)
class-sees c = record { child = child; source = source; text = λ bytes. refl; remark = λ bytes. refl }
  where
    child : (n : ℕ) (x : Node) → is_in_class c (with_child n x) ≡ is_in_class c x
    child n (Tag own) = refl
    child n (Raw bytes) = refl
    child n (Remark bytes) = refl

    source : (t : List ℕ) (to : ℕ) (x : Node) → is_in_class c (with_raw_to t to x) ≡ is_in_class c x
    source t to (Tag own) = refl
    source t to (Raw bytes) = refl
    source t to (Remark bytes) = refl

pub ids_grow : (t : List ℕ) (s : State) (k : PlacedToken) (i : List ℕ) → id_scan (step t s k).nodes i ≡ id_scan (s.nodes ++ tags_of t k k.token) i
ids_grow t s k i = first-grows (has_id i) (id-sees i) t s k

pub classes_grow : (t : List ℕ) (s : State) (k : PlacedToken) (c : List ℕ) → class_scan (step t s k).nodes c ≡ class_scan (s.nodes ++ tags_of t k k.token) c
classes_grow t s k c = places-grow (is_in_class c) (class-sees c) t s k
