-- A normal forest, shown, is read again.
use Rattle.std.proofs.Common.{◌≡◌, ℕ, zero, suc, ◌-◌, ◌==◌, Bool, true, false, not, List, [], ◌∷◌, ◌++◌, map, length, Option, Some, None, refl, ap, ap₂, sym, subst, ◌∙◌, arith, if◌then◌else◌, inl, inr}
use Rattle.std.specs.Prelude.{⊤, option_map}
use Rattle.std.specs.List.{list_all}
use Rattle.std.proofs.lemmas.Bool.{cases_Bool, and_parts}
use Rattle.std.proofs.lemmas.Slice.Eq.{bytes_eq-Decides}
use Rattle.tl_spec.specs.Lex.Attribute.{Pair}
use Rattle.tl_spec.specs.Lex.AttributeList.{HasOwnKeys, printed_pairs}
use Rattle.tl_spec.specs.Lex.ByteClass.{is_name, is_void}
use Rattle.tl_spec.specs.Print.Clean.{AreCleanPairs, HasCommentForm, IsCleanStart, IsCleanTag, IsCleanText, IsCleanValue, IsName}
use Rattle.tl_spec.specs.Tree.Forest.{Forest, PlainTag, Siblings, SourceTag, comment, forest, with_tree, none, plain, plain_tag, siblings, source_tag, tag, text, with_end, with_start, with_token}
use Rattle.tl_spec.specs.Lex.Runs.{read_many}
use Rattle.tl_spec.specs.Lex.Token.{AreNoDoctypes, Comment, End, IsNoDoctype, PlacedToken, Start, Text, Token, next_placed, next_token, tokens}
use Rattle.tl_spec.proofs.Lex.Bytes.{Stops}
use Rattle.tl_spec.proofs.Print.Comments.{comment_again}
use Rattle.tl_spec.proofs.Lex.Many.{many-some}
use Rattle.tl_spec.proofs.Lex.Names.{name-not, name-not-slash}
use Rattle.tl_spec.proofs.Print.Own.{attributes_of-printed}
use Rattle.tl_spec.proofs.Print.Printed.{ArePairs, IsTagName, IsValue, IsWord, end_again, shown_pairs, start_again, text_again}
use Rattle.tl_spec.proofs.Lex.Shrinks.{next_token-shrinks}
use Rattle.tl_spec.proofs.Tree.Siblings.{siblings-cons}

-- text as it is printed, before r
abbrev pub print_of : Forest PlainTag → List ℕ → List ℕ
print_of none r = r
print_of (text bytes more) r = bytes ++ print_of more r
print_of (comment bytes more) r = bytes ++ print_of more r
print_of (tag own children more) r = 0x3C ∷ (own.name ++ (shown_pairs (printed_pairs own.attributes) ++ 0x3E ∷ (
    if is_void own.name then print_of more r else print_of children (0x3C ∷ 0x2F ∷ (own.name ++ 0x3E ∷ print_of more r)))))

abbrev pub IsSomeText : List ℕ → Type 0
IsSomeText [] = ⊥
IsSomeText (b ∷ w) = IsCleanText (b ∷ w)

abbrev pub IsNoText : Forest PlainTag → Type 0
IsNoText (text bytes more) = ⊥
IsNoText _ = ⊤

-- clean, with distinct keys, without empty pieces and adjacent texts
abbrev pub IsNormal : Forest PlainTag → Type 0
IsNormal none = ⊤
IsNormal (text bytes more) = IsSomeText bytes × IsNoText more × IsNormal more
IsNormal (comment bytes more) = HasCommentForm bytes × IsNormal more
IsNormal (tag own children more) =
    IsCleanTag own × HasOwnKeys own.attributes × (is_void own.name ≡ true → children ≡ none) × IsNormal children × IsNormal more

abbrev pub kinds : List ℕ → List Token
kinds s = (read_many next_token (length s) s).0

pub kinds_next : (s : List ℕ) (k : Token) (rest : List ℕ) → next_token s ≡ Some (k, rest) → kinds s ≡ k ∷ kinds rest
kinds_next s k rest e =
    ap (λ (found : List Token × List ℕ). found.0) (many-some next_token next_token-shrinks s (k, rest) e (length s) (length rest) (omega arith) (omega arith))

-- its tokens, before ks
abbrev pub tokens_before : Forest PlainTag → List Token → List Token
tokens_before none ks = ks
tokens_before (text bytes more) ks = Text bytes ∷ tokens_before more ks
tokens_before (comment bytes more) ks = Comment bytes ∷ tokens_before more ks
tokens_before (tag own children more) ks =
    Start own.name (printed_pairs own.attributes) false ∷ (if is_void own.name then tokens_before more ks else tokens_before children (End own.name ∷ tokens_before more ks))

-- what a clean start is for the lemmas on what is printed

word_is : (w : List ℕ) → IsName w → IsWord w
word_is [] h = absurd h
word_is (b ∷ w) h =
    let a = and_parts (is_name b) (list_all is_name w) h in
    (a.0, rw (name-not-slash b a.0, name-not b 0x3E a.0 refl) refl, a.1)

value_is : (v : Option (List ℕ)) → IsCleanValue v → IsValue v
value_is None h = tt
value_is (Some v) h = h

pairs_are : (ps : List Pair) → AreCleanPairs ps → ArePairs ps
pairs_are [] h = tt
pairs_are (p ∷ ps) h = (word_is p.0 h.0, value_is p.1 h.1, pairs_are ps h.2)

tag_name_is : (name : List ℕ) (ps : List Pair) → IsCleanStart name ps → IsTagName name ps
tag_name_is [] [] h = tt
tag_name_is [] (p ∷ ps) h = absurd (cc)
tag_name_is (b ∷ w) ps h = word_is (b ∷ w) h.0

start_pairs : (name : List ℕ) (ps : List Pair) → IsCleanStart name ps → ArePairs ps
start_pairs [] ps h = subst ArePairs (sym h) tt
start_pairs (b ∷ w) ps h = pairs_are ps h.1

pub name_no_gt : (w : List ℕ) → list_all is_name w ≡ true → list_all (λ c. not (c == 0x3E)) w ≡ true
name_no_gt [] h = refl
name_no_gt (b ∷ w) h = let a = and_parts (is_name b) (list_all is_name w) h in rw (name-not b 0x3E a.0 refl) (name_no_gt w a.1)

name_passes : (name : List ℕ) (ps : List Pair) → IsCleanStart name ps → list_all is_name name ≡ true
name_passes [] ps h = refl
name_passes (b ∷ w) ps h = h.0

abbrev not_lt : ℕ → Bool
not_lt c = not (c == 0x3C)

stops_shown : (f : Forest PlainTag) (r : List ℕ) → IsNoText f → IsNormal f → Stops not_lt r → Stops not_lt (print_of f r)
stops_shown none r n h stops = stops
stops_shown (text bytes more) r n h stops = absurd n
stops_shown (comment bytes more) r n h stops = subst (λ (b : List ℕ). Stops not_lt (b ++ print_of more r)) (sym h.0.whole) refl
stops_shown (tag own children more) r n h stops = refl

pub kinds_again : (f : Forest PlainTag) (r : List ℕ) → IsNormal f → Stops not_lt r → kinds (print_of f r) ≡ tokens_before f (kinds r)
kinds_again none r h stops = refl
kinds_again (text [] more) r h stops = absurd h.0
kinds_again (text (b ∷ w) more) r h stops =
    kinds_next ((b ∷ w) ++ print_of more r) (Text (b ∷ w)) (print_of more r) (text_again b w (print_of more r) h.0 (stops_shown more r h.1 h.2 stops)) ∙ ap (λ ks. Text (b ∷ w) ∷ ks) (kinds_again more r h.2 stops)
kinds_again (comment bytes more) r h stops =
    let is = h.0.whole in
    let read : next_token (bytes ++ print_of more r) ≡ Some (Comment bytes, print_of more r) =
    ap (λ b. next_token (b ++ print_of more r)) is ∙ comment_again h.0.blanks h.0.inside (print_of more r) h.0.all_blank h.0.opens h.0.ends ∙ ap (λ b. Some (Comment b, print_of more r)) (sym is) in
    kinds_next (bytes ++ print_of more r) (Comment bytes) (print_of more r) read ∙ ap (λ ks. Comment bytes ∷ ks) (kinds_again more r h.1 stops)
kinds_again (tag own children more) r h stops =
    let ps : List Pair = printed_pairs own.attributes in
    let end : List ℕ = 0x3C ∷ 0x2F ∷ (own.name ++ 0x3E ∷ print_of more r) in
    let after : (v : Bool) → kinds (if v then print_of more r else print_of children end) ≡ (if v then tokens_before more (kinds r) else tokens_before children (End own.name ∷ tokens_before more (kinds r))) = elim [
      | true ↦ kinds_again more r h.4 stops
      | false ↦ kinds_again children end h.3 refl ∙ ap (tokens_before children) (kinds_next end (End own.name) (print_of more r) (end_again own.name (print_of more r) (name_no_gt own.name (name_passes own.name ps h.0.start)))
          ∙ ap (λ ks. End own.name ∷ ks) (kinds_again more r h.4 stops))
    ] in
    kinds_next (print_of (tag own children more) r) (Start own.name ps false) (if is_void own.name then print_of more r else print_of children end)
    (start_again own.name ps _ (tag_name_is own.name ps h.0.start) (start_pairs own.name ps h.0.start))
    ∙ ap (λ ks. Start own.name ps false ∷ ks) (after (is_void own.name))

-- the trees

abbrev kind : PlacedToken → Token
kind k = k.token

-- f's trees, and then g's
abbrev joined : Forest PlainTag → Forest PlainTag → Forest PlainTag
joined none g = g
joined (text bytes more) g = text bytes (joined more g)
joined (comment bytes more) g = comment bytes (joined more g)
joined (tag own children more) g = tag own children (joined more g)

joined-none : (f : Forest PlainTag) → joined f none ≡ f
joined-none none = refl
joined-none (text bytes more) = ap (text bytes) (joined-none more)
joined-none (comment bytes more) = ap (comment bytes) (joined-none more)
joined-none (tag own children more) = ap (tag own children) (joined-none more)

-- the first of some pieces and those after it, where their tokens are known
record Split (k : Token) (ks : List Token) (ps : List PlacedToken) : Type 0 where
  first : PlacedToken
  rest : List PlacedToken
  is : ps ≡ first ∷ rest
  first_is : first.token ≡ k
  rest_is : map kind rest ≡ ks

token_or : Token → List Token → Token
token_or k [] = k
token_or k (j ∷ js) = j

rest_of : List Token → List Token
rest_of [] = []
rest_of (j ∷ js) = js

split : (k : Token) (ks : List Token) (ps : List PlacedToken) → map kind ps ≡ k ∷ ks → Split k ks ps
unfolding token_or rest_of
split k ks [] e = absurd (cc)
split k ks (p ∷ ps) e = record { first = p; rest = ps; is = refl; first_is = ap (token_or k) e; rest_is = ap rest_of e }

-- what pieces make that tell f and then ks
record Reads (f : Forest PlainTag) (o : Option (List ℕ)) (ps : List PlacedToken) (ks : List Token) : Type 0 where
  rest : List PlacedToken
  rest_is : map kind rest ≡ ks
  trees_are : plain (siblings o ps).trees ≡ joined f (plain (siblings o rest).trees)
  left_is : (siblings o ps).left ≡ (siblings o rest).left

step : (o : Option (List ℕ)) (k : Token) (ks : List Token) (ps : List PlacedToken) (s : Split k ks ps) → siblings o ps ≡ with_token siblings o s.first s.rest k
step o k ks ps s = ap (siblings o) s.is ∙ siblings-cons o s.first s.rest ∙ ap (with_token siblings o s.first s.rest) s.first_is

reads : (f : Forest PlainTag) (o : Option (List ℕ)) (ps : List PlacedToken) (ks : List Token) → IsNormal f → map kind ps ≡ tokens_before f ks → Reads f o ps ks
reads none o ps ks h e = record { rest = ps; rest_is = e; trees_are = refl; left_is = refl }
reads (text bytes more) o ps ks h e =
    let s = split (Text bytes) (tokens_before more ks) ps e in
    let m = reads more o s.rest ks h.2 s.rest_is in
    let one = step o (Text bytes) (tokens_before more ks) ps s in
    record {
      rest = m.rest;
      rest_is = m.rest_is;
      trees_are = ap (λ (x : Siblings). plain x.trees) one ∙ ap (text bytes) m.trees_are;
      left_is = ap (λ (x : Siblings). x.left) one ∙ m.left_is;
    }
reads (comment bytes more) o ps ks h e =
    let s = split (Comment bytes) (tokens_before more ks) ps e in
    let m = reads more o s.rest ks h.1 s.rest_is in
    let one = step o (Comment bytes) (tokens_before more ks) ps s in
    record {
      rest = m.rest;
      rest_is = m.rest_is;
      trees_are = ap (λ (x : Siblings). plain x.trees) one ∙ ap (comment bytes) m.trees_are;
      left_is = ap (λ (x : Siblings). x.left) one ∙ m.left_is;
    }
reads (tag own children more) o ps ks h e =
    let pairs : List Pair = printed_pairs own.attributes in
    let k : Token = Start own.name pairs false in
    let alone_ks : List Token = tokens_before more ks in
    let open_ks : List Token = tokens_before children (End own.name ∷ tokens_before more ks) in
    let after : List Token = if is_void own.name then alone_ks else open_ks in
    let s = split k after ps e in
    let begun : SourceTag = source_tag s.first own.name pairs in
    let own_is : plain_tag begun ≡ own = ap (λ a. record { name = own.name; attributes = a }) (attributes_of-printed own.attributes h.1) in
    let one : siblings o ps ≡ with_start siblings o begun s.rest (is_void own.name) = step o k after ps s in
    elim (cases_Bool (is_void own.name)) [
      | inl v ↦ (
          let m = reads more o s.rest ks h.4 (s.rest_is ∙ ap (λ b. if b then alone_ks else open_ks) v) in
          let two : siblings o ps ≡ with_tree (tag begun none) (siblings o s.rest) = one ∙ ap (with_start siblings o begun s.rest) v in
          record {
            rest = m.rest;
            rest_is = m.rest_is;
            trees_are = ap (λ (x : Siblings). plain x.trees) two ∙ ap₂ (λ t f. tag t none f) own_is m.trees_are
                ∙ ap (λ c. tag own c (joined more (plain (siblings o m.rest).trees))) (sym (h.2 v));
            left_is = ap (λ (x : Siblings). x.left) two ∙ m.left_is;
          })
      | inr v ↦ (
          let c = reads children (Some own.name) s.rest (End own.name ∷ tokens_before more ks) h.3 (s.rest_is ∙ ap (λ b. if b then alone_ks else open_ks) v) in
          let t = split (End own.name) (tokens_before more ks) c.rest c.rest_is in
          let ends : siblings (Some own.name) c.rest ≡ record { trees = none; closed_at = Some t.first.to; left = t.rest } =
          step (Some own.name) (End own.name) (tokens_before more ks) c.rest t ∙ ap (with_end siblings (Some own.name) t.first t.rest) ((bytes_eq-Decides own.name own.name).1 refl) in
          let inner : Siblings = siblings (Some own.name) s.rest in
          let inside : plain inner.trees ≡ children = c.trees_are ∙ ap (λ (x : Siblings). joined children (plain x.trees)) ends ∙ joined-none children in
          let left : inner.left ≡ t.rest = c.left_is ∙ ap (λ (x : Siblings). x.left) ends in
          let m = reads more o t.rest ks h.4 t.rest_is in
          let two = one ∙ ap (with_start siblings o begun s.rest) v in
          record {
            rest = m.rest;
            rest_is = m.rest_is;
            trees_are = ap (λ (x : Siblings). plain x.trees) two
                ∙ (λ i. tag (own_is i) (inside i) (plain (siblings o (left i)).trees))
                ∙ ap (tag own children) m.trees_are;
            left_is = ap (λ (x : Siblings). x.left) two ∙ ap (λ ks. (siblings o ks).left) left ∙ m.left_is;
          })
    ]

-- the tokens' kinds are read alike
kinds-many : (n m : ℕ) (s : List ℕ) → map kind (read_many (next_placed n) m s).0 ≡ (read_many next_token m s).0
kinds-many n zero s = refl
kinds-many n (suc m) s =
    let go : (r : Option (Token × List ℕ)) →
    map kind (elim (option_map {U = PlacedToken × List ℕ} (λ found. (record { token = found.0; from = n - length s; to = n - length found.1 }, found.1)) r) as (λ _. List PlacedToken × List ℕ) [ None ↦ ([], s) | Some found ↦ (let more = read_many (next_placed n) m found.1 in (found.0 ∷ more.0, more.1)) ]).0
    ≡ (elim r as (λ _. List Token × List ℕ) [ None ↦ ([], s) | Some found ↦ (let more = read_many next_token m found.1 in (found.0 ∷ more.0, more.1)) ]).0 = elim [
      | None ↦ refl
      | Some found ↦ ap (λ ks. found.0 ∷ ks) (kinds-many n m found.1)
    ] in
    go (next_token s)

pub kinds-tokens : (s : List ℕ) → map kind (tokens s) ≡ kinds s
kinds-tokens s = kinds-many (length s) (length s) s

tokens_before-tokens : (f : Forest PlainTag) → IsNormal f → map kind (tokens (print_of f [])) ≡ tokens_before f []
tokens_before-tokens f h = kinds-tokens (print_of f []) ∙ kinds_again f [] h tt

-- a normal forest, shown and read again, is that forest
pub forest_again : (f : Forest PlainTag) → IsNormal f → plain (forest (tokens (print_of f []))) ≡ f
forest_again f h =
    let r = reads f None (tokens (print_of f [])) [] h (tokens_before-tokens f h) in
    let nil : (ps : List PlacedToken) → map kind ps ≡ [] → plain (siblings None ps).trees ≡ none = elim [ [] ↦ λ _. refl | p ∷ ps ↦ λ e. absurd (cc) ] in
    r.trees_are ∙ ap (joined f) (nil r.rest r.rest_is) ∙ joined-none f

abbrev NoDoctypes : List Token → Type 0
NoDoctypes [] = ⊤
NoDoctypes (k ∷ ks) = IsNoDoctype k × NoDoctypes ks

tokens_before-NoDoctypes : (f : Forest PlainTag) (ks : List Token) → NoDoctypes ks → NoDoctypes (tokens_before f ks)
tokens_before-NoDoctypes none ks h = h
tokens_before-NoDoctypes (text bytes more) ks h = (tt, tokens_before-NoDoctypes more ks h)
tokens_before-NoDoctypes (comment bytes more) ks h = (tt, tokens_before-NoDoctypes more ks h)
tokens_before-NoDoctypes (tag own children more) ks h =
    let i = tokens_before-NoDoctypes more ks h in
    let j = tokens_before-NoDoctypes children (End own.name ∷ tokens_before more ks) (tt, i) in
    (tt, elim (is_void own.name) as (λ v. NoDoctypes (if v then tokens_before more ks else tokens_before children (End own.name ∷ tokens_before more ks))) [ true ↦ i | false ↦ j ])

pub all_no_doctype : (ps : List PlacedToken) → NoDoctypes (map kind ps) → AreNoDoctypes ps
all_no_doctype [] h = tt
all_no_doctype (p ∷ ps) h = (h.0, all_no_doctype ps h.1)

pub no_doctype_again : (f : Forest PlainTag) → IsNormal f → AreNoDoctypes (tokens (print_of f []))
no_doctype_again f h = all_no_doctype (tokens (print_of f [])) (subst NoDoctypes (sym (tokens_before-tokens f h)) (tokens_before-NoDoctypes f [] tt))
