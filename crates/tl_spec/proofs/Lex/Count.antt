-- Nodes and attributes are together no more than bytes.
use Rattle.std.proofs.Common.{◌≡◌, ℕ, zero, suc, ◌+◌, ◌-◌, ◌≤◌, ◌||◌, ◌==◌, Bool, true, false, not, List, [], ◌∷◌, ◌++◌, length, Option, Some, None, refl, ap, ◌∙◌, subst, arith, if◌then◌else◌, unwrap_or}
use Rattle.std.specs.Prelude.{codes, fold, sum_by, option_map}
use Rattle.std.specs.List.{take_while, starts_with}
use Rattle.std.proofs.lemmas.List.Sums.{sum_by-append}
use Rattle.std.specs.Str.{bytes_eq, str_eq_ignore_ascii_case}
use Rattle.tl_spec.specs.Lex.Attribute.{Pair, attributes, next_attribute, skip_blanks}
use Rattle.tl_spec.specs.Lex.AttributeList.{PlainAttributes, attributes_of, no_attributes, one_if_some, with_pair}
use Rattle.tl_spec.proofs.Lex.ByKey.{choose_by_key-all}
use Rattle.tl_spec.proofs.Tree.Pairs.{length-insert_entry-le}
use Rattle.tl_spec.specs.Lex.ByteClass.{bang, greater, is_blank, is_ident, is_name, is_void, less, slash}
use Rattle.tl_spec.specs.Tree.Document.{Comment as Remark, Node, Raw, Tag, document, nodes, numbers, size, tag_node, node_and_attribute_count}
use Rattle.tl_spec.specs.Tree.Forest.{Forest, SourceTag, closes, comment, forest, none, siblings_within, source_tag, tag, text, with_end, with_start, with_token}
use Rattle.tl_spec.specs.Lex.Runs.{after_needle, read_many, drop_while}
use Rattle.tl_spec.specs.Lex.Token.{Comment, Doctype, End, Nothing, PlacedToken, Start, Text, Token, token_after_attributes, comment_token, declaration, doctype, markup, next_placed, next_token, token_after_slash, start_tag, text_token, tokens, word}
use Rattle.tl_spec.proofs.Lex.Bytes.{drop-le, drop_while-le, drop_while-lt}
use Rattle.tl_spec.proofs.Lex.Many.{Shrinks, many_more}
use Rattle.tl_spec.proofs.Lex.Shrinks.{after-le, IsLe, doctype-le, if_both, next_attribute-shrinks}
use Rattle.tl_spec.proofs.Tree.Siblings.{Reading}

-- what a token may make
cost : Token → ℕ
cost (Text bytes) = 1
cost (Comment bytes) = 1
cost (Start n ps c) = 1 + length ps
cost (End n) = 0
cost (Doctype h) = 0
cost Nothing = 0

abbrev IsPaid : ℕ → Token × List ℕ → Type 0
IsPaid n r = cost r.0 + length r.1 ≤ n

many-count : {A : Type 0} (first : List ℕ → Option (A × List ℕ)) → Shrinks first → (n : ℕ) (s : List ℕ) → length (read_many first n s).0 + length (read_many first n s).1 ≤ length s
many-count first h zero s = omega arith
many-count {A} first h (suc n) s =
    let step : (r : Option (A × List ℕ)) → first s ≡ r → length (many_more first n s r).0 + length (many_more first n s r).1 ≤ length s = elim [
      | None ↦ λ _. omega arith
      | Some found ↦ λ e. let less = h s found e in let rest = many-count first h n found.1 in omega arith
    ] in
    step (first s) refl

token_after_slash-paid : (n : List ℕ) (ps : List Pair) (s : List ℕ) → IsPaid (length ps + length s) (token_after_slash n ps s)
unfolding cost
token_after_slash-paid n ps [] = omega arith
token_after_slash-paid n ps (b ∷ s) = if_both (IsPaid (length ps + length (b ∷ s))) (b == greater) _ _ (λ _. omega arith) (λ _. omega arith)

closed-paid : (n : List ℕ) (ps : List Pair) (s : List ℕ) → IsPaid (length ps + length s) (token_after_attributes n ps s)
unfolding cost
closed-paid n ps [] = omega arith
closed-paid n ps (b ∷ s) = if_both (IsPaid (length ps + length (b ∷ s))) (b == greater) _ _ (λ _. omega arith) (λ _. let le = token_after_slash-paid n ps s in omega arith)

start_tag-paid : (s : List ℕ) → IsPaid (length s) (start_tag s)
start_tag-paid s =
    let r : List ℕ = skip_blanks (drop_while is_name s) in
    let one = closed-paid (take_while is_name s) (attributes r).0 (attributes r).1 in
    let two = many-count next_attribute next_attribute-shrinks (length r) r in
    let three = drop_while-le is_blank (drop_while is_name s) in
    let four = drop_while-le is_name s in
    omega arith

comment-paid : (n : ℕ) (whole : List ℕ) (o : Option (List ℕ)) → IsLe n o → IsPaid (1 + n) (comment_token whole o)
unfolding cost
comment-paid n whole None h = omega arith
comment-paid n whole (Some s) h = omega arith

word-paid : (s : List ℕ) → IsPaid (length s) (word s)
unfolding cost
word-paid s =
    let rest : List ℕ = skip_blanks (drop_while is_ident s) in
    let two = drop_while-le is_blank (drop_while is_ident s) in let three = drop_while-le is_ident s in
    if_both (IsPaid (length s)) (str_eq_ignore_ascii_case (take_while is_ident s) (codes "doctype")) (doctype rest) (Nothing, rest) (λ _. let four = doctype-le rest in omega arith) (λ _. omega arith)

declaration-paid : (whole s : List ℕ) → IsPaid (1 + length s) (declaration whole s)
declaration-paid whole s =
    if_both (IsPaid (1 + length s)) (starts_with ◌==◌ s (codes "--")) _ _
    (λ _. comment-paid (length s) whole (after_needle (codes "-->") s) (after-le (codes "-->") s))
    (λ _. let le = word-paid s in omega arith)

markup-paid : (whole s : List ℕ) → IsPaid (1 + length s) (markup whole s)
unfolding cost
markup-paid whole [] = omega arith
markup-paid whole (b ∷ s) =
    if_both (IsPaid (1 + length (b ∷ s))) (b == slash) _ _
    (λ _. let le = drop_while-le (λ c. not (c == greater)) s in let two = drop-le 1 (drop_while (λ c. not (c == greater)) s) in omega arith)
    (λ _. if_both (IsPaid (1 + length (b ∷ s))) (b == bang) _ _ (λ _. let le = declaration-paid whole s in omega arith) (λ _. let le = start_tag-paid (b ∷ s) in omega arith))

token-paid : (b : ℕ) (s : List ℕ) → IsPaid (length (b ∷ s)) (if b == less then markup (b ∷ s) (skip_blanks s) else text_token (b ∷ s))
unfolding cost
token-paid b s = if_both (IsPaid (length (b ∷ s))) (b == less) _ _
    (λ _. let one = markup-paid (b ∷ s) (skip_blanks s) in let two = drop_while-le is_blank s in omega arith)
    (λ e. let one = drop_while-lt (λ c. not (c == less)) b s (ap not e) in omega arith)

next-paid : (s : List ℕ) (found : Token × List ℕ) → next_token s ≡ Some found → IsPaid (length s) found
next-paid [] found e = absurd (cc)
next-paid (b ∷ s) found e = subst (IsPaid (length (b ∷ s))) (ap (λ (o : Option (Token × List ℕ)). unwrap_or o found) e) (token-paid b s)

costs : List PlacedToken → ℕ
costs [] = 0
costs (k ∷ ks) = cost k.token + costs ks

many-paid : (n m : ℕ) (s : List ℕ) → costs (read_many (next_placed n) m s).0 ≤ length s
unfolding costs
many-paid n zero s = omega arith
many-paid n (suc m) s =
    let step : (r : Option (Token × List ℕ)) → next_token s ≡ r →
    costs (many_more (next_placed n) m s (option_map {U = PlacedToken × List ℕ} (λ found. (record { token = found.0; from = n - length s; to = n - length found.1 }, found.1)) r)).0 ≤ length s = elim [
      | None ↦ λ _. omega arith
      | Some found ↦ λ e. let one = next-paid s found e in let more = many-paid n m found.1 in omega arith
    ] in
    step (next_token s) refl

-- what a tag holds
held : PlainAttributes → ℕ
held a = length a.others + one_if_some a.id + one_if_some a.class

one_if_some-le : (v : Option (List ℕ)) → one_if_some v ≤ 1
one_if_some-le None = omega arith
one_if_some-le (Some v) = omega arith

pair-held : (a : PlainAttributes) (p : Pair) → held (with_pair a p) ≤ 1 + held a
unfolding held
pair-held a p =
    let one = one_if_some-le p.1 in
    let le = length-insert_entry-le bytes_eq a.others p.0 p.1 in
    let P : PlainAttributes → Type 0 = λ b. length b.others + one_if_some b.id + one_if_some b.class ≤ 1 + (length a.others + one_if_some a.id + one_if_some a.class) in
    choose_by_key-all P p.0 _ _ _ (λ _. omega arith) (λ _ _. omega arith) (λ _. omega arith)

fold-held : (ps : List Pair) (a : PlainAttributes) → held (fold with_pair a ps) ≤ held a + length ps
fold-held [] a = omega arith
fold-held (p ∷ ps) a = let one = pair-held a p in let more = fold-held ps (with_pair a p) in omega arith

held-none : held no_attributes ≡ 0
unfolding held
held-none = refl

attributes-held : (ps : List Pair) → held (attributes_of ps) ≤ length ps
attributes-held ps = let le = fold-held ps no_attributes in let zero_held = held-none in omega arith

tree_weight : Forest SourceTag → ℕ
tree_weight none = 0
tree_weight (text bytes more) = 1 + tree_weight more
tree_weight (comment bytes more) = 1 + tree_weight more
tree_weight (tag own children more) = 1 + held own.attributes + tree_weight children + tree_weight more

abbrev Weighs : Reading → Type 0
Weighs go = (o : Option (List ℕ)) (ks : List PlacedToken) → tree_weight (go o ks).trees + costs (go o ks).left ≤ costs ks

start-weighs : (go : Reading) (o : Option (List ℕ)) (own : SourceTag) (ks : List PlacedToken) → Weighs go → (v : Bool) →
    tree_weight (with_start go o own ks v).trees + costs (with_start go o own ks v).left ≤ 1 + held own.attributes + costs ks
unfolding tree_weight
start-weighs go o own ks h true = let le = h o ks in omega arith
start-weighs go o own ks h false = let inner = h (Some own.name) ks in let more = h o (go (Some own.name) ks).left in omega arith

end-weighs : (go : Reading) (o : Option (List ℕ)) (k : PlacedToken) (ks : List PlacedToken) → Weighs go → (v : Bool) →
    tree_weight (with_end go o k ks v).trees + costs (with_end go o k ks v).left ≤ costs ks
unfolding tree_weight
end-weighs go o k ks h true = omega arith
end-weighs go o k ks h false = h o ks

token-weighs : (go : Reading) (o : Option (List ℕ)) (k : PlacedToken) (ks : List PlacedToken) → Weighs go → (t : Token) →
    tree_weight (with_token go o k ks t).trees + costs (with_token go o k ks t).left ≤ cost t + costs ks
unfolding tree_weight cost
token-weighs go o k ks h (Text bytes) = let le = h o ks in omega arith
token-weighs go o k ks h (Comment bytes) = let le = h o ks in omega arith
token-weighs go o k ks h (Start n ps c) = let le = start-weighs go o (source_tag k n ps) ks h (c || is_void n) in let all = attributes-held ps in omega arith
token-weighs go o k ks h (End n) = let le = end-weighs go o k ks h (closes n o) in omega arith
token-weighs go o k ks h (Doctype html) = let le = h o ks in omega arith
token-weighs go o k ks h Nothing = let le = h o ks in omega arith

within-weighs : (n : ℕ) → Weighs (siblings_within n)
unfolding tree_weight costs
within-weighs zero o ks = omega arith
within-weighs (suc n) o [] = omega arith
within-weighs (suc n) o (k ∷ ks) = token-weighs (siblings_within n) o k ks (within-weighs n) k.token

weights-cons : (x : Node) (xs : List Node) → sum_by node_and_attribute_count (x ∷ xs) ≡ node_and_attribute_count x + sum_by node_and_attribute_count xs
weights-cons x xs = sum_by-append node_and_attribute_count (x ∷ []) xs ∙ ap (λ n. n + sum_by node_and_attribute_count xs) (omega arith)

nodes-weight : (t : List ℕ) (f : Forest SourceTag) (n : ℕ) → sum_by node_and_attribute_count (nodes t n f) ≡ tree_weight f
unfolding tree_weight held
nodes-weight t none n = refl
nodes-weight t (text bytes more) n = let e = nodes-weight t more (n + 1) in let c = weights-cons (Raw bytes) (nodes t (n + 1) more) in omega arith
nodes-weight t (comment bytes more) n = let e = nodes-weight t more (n + 1) in let c = weights-cons (Remark bytes) (nodes t (n + 1) more) in omega arith
nodes-weight t (tag own children more) n =
    let a = nodes-weight t children (n + 1) in
    let b = nodes-weight t more (n + 1 + size children) in
    let both = sum_by-append node_and_attribute_count (nodes t (n + 1) children) (nodes t (n + 1 + size children) more) in
    let c = weights-cons (Tag (tag_node t own (numbers (n + 1) children))) (nodes t (n + 1) children ++ nodes t (n + 1 + size children) more) in
    omega arith

-- no more nodes and attributes than bytes
pub document-weight : (t : List ℕ) → sum_by node_and_attribute_count (document t).nodes ≤ length t
document-weight t =
    let f = forest (tokens t) in
    let one = nodes-weight t f 0 in
    let two = within-weighs (length (tokens t)) None (tokens t) in
    let three = many-paid (length t) (length t) t in
    omega arith
