-- Trees of listed words are read again as they are printed.
use Rattle.std.proofs.Common.{Bool, List, [], ap, ap₂, arith, false, if◌then◌else◌, inl, map, not, refl, subst, sym, true, true≢false, ℕ, ◌&&◌, ◌==◌, ◌++◌, ◌∙◌, ◌∷◌, ◌≡◌, ◌||◌}
use Rattle.std.specs.Prelude.{⊤}
use Rattle.std.specs.Char.{is_ascii_alphabetic, is_ascii_digit, is_ascii_lowercase, to_ascii_lowercase}
use Rattle.std.specs.List.{list_all, list_any}
use Rattle.std.specs.Str.{bytes_eq}
use Rattle.std.proofs.lemmas.Bool.{and_from, and_parts, not-true}
use Rattle.std.proofs.lemmas.Bool.Decides.{nat_tests}
use Rattle.tl_dom_spec.specs.HtmlForest.{HtmlForest, comment, doctype, element, no_trees, text}
use Rattle.tl_dom_spec.specs.Tags.{Attribute, AttributeSpace, Tag}
use Rattle.tl_html_print.proofs.BuiltAgain.{AreLow, EachIsLow, standing_is_markup}
use Rattle.tl_html_print.proofs.PageReads.{listed, markup_held}
use Rattle.tl_html_print.specs.ReadAgain.{AreReadable, CanBeReadAgain, HoldsMarkup, attribute_read, is_in_key, is_in_name, is_key, is_name, lowered}
use Rattle.tl_html_print.specs.Serialized.{serialized_name}
use Rattle.tl_html_spec.specs.Balanced.{is_raw}
use Rattle.tl_html_spec.specs.HtmlTokenizer.{HtmlAttribute}
use Rattle.tl_safe_fit.specs.Words.{is_among}
use Rattle.tl_spec.specs.Lex.ByteClass.{is_void}
use Rattle.tl_tree_safe.proofs.Own.{AreOwn, is_own_attribute, pair_of}
use Rattle.tl_tree_safe.proofs.Partial.{partial, plain_of}
use Rattle.tl_tree_safe.specs.Fitted.{Names, is_read}
use Rattle.tl_tree_safe.specs.Kept.{has_no_space, is_listed_attribute}
use Rattle.tl_tree_safe.specs.Lists.{ListedWords, is_key_byte, is_tag_byte, is_word_of, lists_words}
use Rattle.tl_tree_safe.specs.OwnKeys.{are_apart, comes_again}
use Rattle.tl_tree_safe.specs.Settled.{begins_line, is_none, is_settled_inside, settled}
use Rattle.tl_tree_spec.specs.Groups.{group}
use Rattle.tl_tree_spec.specs.Stays.{is_preformatted, may_stand}

-- Words, byte by byte

letter-low : (b : ℕ) → is_ascii_lowercase b ≡ true → to_ascii_lowercase b ≡ b
letter-low b h = grind (arith, nat_tests)

tag-low : (b : ℕ) → is_tag_byte b ≡ true → to_ascii_lowercase b ≡ b
tag-low b h = grind (arith, nat_tests)

key-low : (b : ℕ) → is_key_byte b ≡ true → to_ascii_lowercase b ≡ b
key-low b h = grind (arith, nat_tests)

letter-alphabetic : (b : ℕ) → is_ascii_lowercase b ≡ true → is_ascii_alphabetic b ≡ true
letter-alphabetic b h = grind (arith, nat_tests)

tag-in_name : (b : ℕ) → is_tag_byte b ≡ true → is_in_name b ≡ true
tag-in_name b h = grind (arith, nat_tests)

key-in_key : (b : ℕ) → is_key_byte b ≡ true → is_in_key b ≡ true
key-in_key b h = grind (arith, nat_tests)

letter-tag : (b : ℕ) → is_ascii_lowercase b ≡ true → is_tag_byte b ≡ true
letter-tag b h = ap (λ v. v || is_ascii_digit b) h

letter-key : (b : ℕ) → is_ascii_lowercase b ≡ true → is_key_byte b ≡ true
letter-key b h = ap (λ v. v || b == 45) h

all-low : (test : ℕ → Bool) → ((b : ℕ) → test b ≡ true → to_ascii_lowercase b ≡ b) → (bytes : List ℕ) → list_all test bytes ≡ true → lowered bytes ≡ bytes
all-low test f [] h = refl
all-low test f (b ∷ bytes) h =
    let q = and_parts (test b) (list_all test bytes) h in ap₂ (λ (c : ℕ) (cs : List ℕ). c ∷ cs) (f b q.0) (all-low test f bytes q.1)

all-in : (test other : ℕ → Bool) → ((b : ℕ) → test b ≡ true → other b ≡ true) → (bytes : List ℕ) → list_all test bytes ≡ true → list_all other bytes ≡ true
all-in test other f [] h = refl
all-in test other f (b ∷ bytes) h =
    let q = and_parts (test b) (list_all test bytes) h in and_from _ _ (f b q.0) (all-in test other f bytes q.1)

-- a name that is a word
pub record IsTagWord (n : List ℕ) : Type 0 where
  pub name : is_name n ≡ true
  pub low : lowered n ≡ n

tag_word : (n : List ℕ) → is_word_of is_tag_byte n ≡ true → IsTagWord n
tag_word [] h = absurd (true≢false (sym h))
tag_word (b ∷ n) h =
    let q = and_parts (is_ascii_lowercase b) (list_all is_tag_byte n) h in
    record {
      name = ap (λ v. if v then list_all is_in_name (b ∷ n) else false) (letter-alphabetic b q.0)
          ∙ and_from _ _ (tag-in_name b (letter-tag b q.0)) (all-in is_tag_byte is_in_name tag-in_name n q.1);
      low = ap₂ (λ (c : ℕ) (cs : List ℕ). c ∷ cs) (letter-low b q.0) (all-low is_tag_byte tag-low n q.1);
    }

pub record IsKeyWord (k : List ℕ) : Type 0 where
  pub key : is_key k ≡ true
  pub low : lowered k ≡ k

key_word : (k : List ℕ) → is_word_of is_key_byte k ≡ true → IsKeyWord k
key_word [] h = absurd (true≢false (sym h))
key_word (b ∷ k) h =
    let q = and_parts (is_ascii_lowercase b) (list_all is_key_byte k) h in
    record {
      key = and_from _ _ (ap (λ v. v || b == 61) (key-in_key b (letter-key b q.0))) (all-in is_key_byte is_in_key key-in_key k q.1);
      low = ap₂ (λ (c : ℕ) (cs : List ℕ). c ∷ cs) (letter-low b q.0) (all-low is_key_byte key-low k q.1);
    }

pub listed_tag : (p : ListedWords) (n : List ℕ) → lists_words p ≡ true → is_among p.tags n ≡ true → IsTagWord n
listed_tag p n l h =
    let q = and_parts (list_all (is_word_of is_tag_byte) p.tags && list_all (is_word_of is_key_byte) p.keys) _ l in
    tag_word n (listed (is_word_of is_tag_byte) p.tags n (and_parts (list_all (is_word_of is_tag_byte) p.tags) _ q.0).0 h)

pub listed_key : (p : ListedWords) (k : List ℕ) → lists_words p ≡ true → is_among p.keys k ≡ true → IsKeyWord k
listed_key p k l h =
    let q = and_parts (list_all (is_word_of is_tag_byte) p.tags && list_all (is_word_of is_key_byte) p.keys) _ l in
    key_word k (listed (is_word_of is_key_byte) p.keys k (and_parts (list_all (is_word_of is_tag_byte) p.tags) _ q.0).1 h)

-- Attributes

-- a listed attribute is one of a listed key
pub own_key : (p : ListedWords) (a : Attribute) → is_listed_attribute p a ≡ true → is_among p.keys a.key ≡ true
own_key p a h = (and_parts (has_no_space a.space) _ (and_parts (has_no_space a.space && is_among p.keys a.key) _ h).0).1

-- how it is printed and read
pub record IsReadSo (a : Attribute) : Type 0 where
  pub key : is_key (serialized_name a.space a.key) ≡ true
  pub read : attribute_read a ≡ pair_of a

pub read_so : (p : ListedWords) (a : Attribute) → lists_words p ≡ true → is_own_attribute p a ≡ true → IsReadSo a
read_so p a l h =
    let plain = plain_of p a h in
    let word = listed_key p a.key l (own_key p a plain.listed) in
    record {
      key = ap (λ (s : AttributeSpace). is_key (serialized_name s a.key)) plain.space ∙ word.key;
      read = ap (λ (s : AttributeSpace). (lowered (serialized_name s a.key), a.value)) plain.space ∙ ap (λ (k : List ℕ). (k, a.value)) word.low;
    }

pub pairs_read : (p : ListedWords) (xs : List Attribute) → lists_words p ≡ true → list_all (is_own_attribute p) xs ≡ true → map attribute_read xs ≡ map pair_of xs
pairs_read p [] l h = refl
pairs_read p (a ∷ xs) l h =
    let q = and_parts (is_own_attribute p a) (list_all (is_own_attribute p) xs) h in
    ap₂ (λ (x : HtmlAttribute) (ys : List HtmlAttribute). x ∷ ys) (read_so p a l q.0).read (pairs_read p xs l q.1)

-- none of these keys is one of those before
abbrev AreNew : List HtmlAttribute → List Attribute → Type 0
AreNew before [] = ⊤
AreNew before (a ∷ xs) = (list_any (λ (b : HtmlAttribute). bytes_eq b.0 a.key) before ≡ false) × AreNew before xs

both_false : (a b : Bool) → a || b ≡ false → (a ≡ false) × (b ≡ false)
both_false false b h = (refl, h)
both_false true b h = absurd (true≢false h)

any-append : (test : HtmlAttribute → Bool) (xs : List HtmlAttribute) (y : HtmlAttribute) → list_any test xs ≡ false → test y ≡ false → list_any test (xs ++ y ∷ []) ≡ false
any-append test [] y h k = ap (λ v. v || false) k
any-append test (x ∷ xs) y h k =
    let q = both_false (test x) (list_any test xs) h in ap₂ (λ (a b : Bool). a || b) q.0 (any-append test xs y q.1 k)

new-with : (before : List HtmlAttribute) (a : Attribute) (xs : List Attribute) → comes_again a.key xs ≡ false → AreNew before xs → AreNew (before ++ pair_of a ∷ []) xs
new-with before a [] c n = tt
new-with before a (x ∷ xs) c n =
    let q = both_false (bytes_eq a.key x.key) (comes_again a.key xs) c in
    (any-append (λ (b : HtmlAttribute). bytes_eq b.0 x.key) before (pair_of a) n.0 q.0, new-with before a xs q.1 n.1)

new-first : (xs : List Attribute) → AreNew [] xs
new-first [] = tt
new-first (a ∷ xs) = (refl, new-first xs)

readable : (p : ListedWords) (before : List HtmlAttribute) (xs : List Attribute) → lists_words p ≡ true → list_all (is_own_attribute p) xs ≡ true → are_apart xs ≡ true → AreNew before xs → AreReadable before xs
readable p before [] l h k n = tt
readable p before (a ∷ xs) l h k n =
    let q = and_parts (is_own_attribute p a) (list_all (is_own_attribute p) xs) h in
    let r = and_parts (not (comes_again a.key xs)) (are_apart xs) k in
    let so = read_so p a l q.0 in (
      so.key,
      (plain_of p a q.0).value,
      ap (λ (x : HtmlAttribute). list_any (λ (b : HtmlAttribute). bytes_eq b.0 x.0) before) so.read ∙ n.0,
      subst (λ (x : HtmlAttribute). AreReadable (before ++ x ∷ []) xs) (sym so.read)
          (readable p (before ++ pair_of a ∷ []) xs l q.1 r.1 (new-with before a xs (not-true (comes_again a.key xs) r.0) n.1)),
    )

pairs_low : (p : ListedWords) (xs : List Attribute) → lists_words p ≡ true → list_all (is_own_attribute p) xs ≡ true → EachIsLow (map pair_of xs)
pairs_low p [] l h = tt
pairs_low p (a ∷ xs) l h =
    let q = and_parts (is_own_attribute p a) (list_all (is_own_attribute p) xs) h in
    ((listed_key p a.key l (own_key p a (plain_of p a q.0).listed)).low, pairs_low p xs l q.1)

-- Trees

pub markup : (names : Names) (tag : Tag) → is_read names tag.name ≡ true → lowered tag.name ≡ tag.name → HoldsMarkup tag
markup names tag r e =
    let p = and_parts (may_stand names tag.name && _) _ r in
    markup_held tag (ap is_raw e ∙ standing_is_markup names tag.name (and_parts (may_stand names tag.name) _ p.0).0)

-- what is in an element that may stand
pub below_read : (n : List ℕ) (below : HtmlForest) (stays : Bool) → is_settled_inside n below stays ≡ true → (stays ≡ true → CanBeReadAgain below) → CanBeReadAgain below
below_read n below stays h k = here (is_void n) (is_preformatted (group n) && begins_line below) h
  where
    nothing : (f : HtmlForest) → is_none f ≡ true → CanBeReadAgain f
    nothing no_trees e = tt
    nothing (text own more) e = absurd (true≢false (sym e))
    nothing (comment own more) e = absurd (true≢false (sym e))
    nothing (doctype own more) e = absurd (true≢false (sym e))
    nothing (element tag b more) e = absurd (true≢false (sym e))

    here : (v b : Bool) → (if v then is_none below else not b && stays) ≡ true → CanBeReadAgain below
    here true b e = nothing below e
    here false b e = k (and_parts (not b) stays e).1

pub can_be : (p : ListedWords) (names : Names) (f : HtmlForest) → lists_words p ≡ true → AreOwn p f → settled names f ≡ true → CanBeReadAgain f
can_be p names no_trees l h s = tt
can_be p names (text own more) l h s = (h.0, can_be p names more l h.1 (and_parts _ (settled names more) s).1)
can_be p names (comment own more) l h s = absurd h
can_be p names (doctype own more) l h s = absurd h
can_be p names (element tag below more) l h s =
    let q = and_parts (is_read names tag.name) _ s in
    let r = and_parts (is_settled_inside tag.name below (settled (tag.name ∷ names) below)) (settled names more) q.1 in
    let word = listed_tag p tag.name l h.0.listed in (
      (word.name, readable p [] tag.attributes l h.0.pairs h.0.apart (new-first tag.attributes)),
      inl (markup names tag q.0 word.low, below_read tag.name below (settled (tag.name ∷ names) below) r.0 (can_be p (tag.name ∷ names) below l h.1)),
      can_be p names more l h.2 r.1,
    )

pub low : (p : ListedWords) (f : HtmlForest) → lists_words p ≡ true → AreOwn p f → AreLow (partial f)
low p no_trees l h = tt
low p (text own more) l h = low p more l h.1
low p (comment own more) l h = absurd h
low p (doctype own more) l h = absurd h
low p (element tag below more) l h =
    ((listed_tag p tag.name l h.0.listed).low, pairs_low p tag.attributes l h.0.pairs, low p below l h.1, low p more l h.2)
