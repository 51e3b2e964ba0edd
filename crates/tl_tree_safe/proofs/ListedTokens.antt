-- The tokens of kept trees are listed.
use Rattle.std.proofs.Common.{Bool, List, [], ap, ap₂, false, if◌then◌else◌, map, refl, true, ℕ, ◌&&◌, ◌++◌, ◌∙◌, ◌∷◌, ◌≡◌}
use Rattle.std.specs.List.{list_all}
use Rattle.std.proofs.lemmas.Bool.{and_from, and_parts}
use Rattle.std.proofs.lemmas.List.Folds.{list_all-append}
use Rattle.tl_dom_spec.specs.HtmlForest.{HtmlForest, comment, doctype, element, no_trees, text}
use Rattle.tl_dom_spec.specs.Lawful.{is_void}
use Rattle.tl_dom_spec.specs.Tags.{Attribute, Tag}
use Rattle.tl_html_print.specs.ReadAgain.{attribute_read, end_tokens, lowered, tokens_of_trees, unless_empty}
use Rattle.tl_html_spec.specs.HtmlTokenizer.{Character, EndTag, HtmlAttribute, HtmlToken, StartTag}
use Rattle.tl_safe_fit.specs.Words.{is_among}
use Rattle.tl_tree_safe.proofs.Own.{AreOwn, IsOwn, is_own_attribute, pair_of}
use Rattle.tl_tree_safe.proofs.Partial.{plain_of}
use Rattle.tl_tree_safe.proofs.Readable.{listed_tag, own_key, pairs_read}
use Rattle.tl_tree_safe.specs.Kept.{has_no_space}
use Rattle.tl_tree_safe.specs.Listed.{are_listed, is_listed, is_listed_pair}
use Rattle.tl_tree_safe.specs.Lists.{ListedWords, is_listed_value, lists_words}

characters : (p : ListedWords) (bytes : List ℕ) → are_listed p (map Character bytes) ≡ true
characters p [] = refl
characters p (b ∷ bytes) = characters p bytes

both : (p : ListedWords) (xs ys : List HtmlToken) → are_listed p xs ≡ true → are_listed p ys ≡ true → are_listed p (xs ++ ys) ≡ true
both p xs ys h k = list_all-append (is_listed p) xs ys ∙ and_from (are_listed p xs) (are_listed p ys) h k

pairs : (p : ListedWords) (xs : List Attribute) → list_all (is_own_attribute p) xs ≡ true → list_all (is_listed_pair p) (map pair_of xs) ≡ true
pairs p [] h = refl
pairs p (a ∷ xs) h =
    let q = and_parts (is_own_attribute p a) (list_all (is_own_attribute p) xs) h in
    let own = (plain_of p a q.0).listed in
    let value = (and_parts (has_no_space a.space && is_among p.keys a.key) (is_listed_value p a.key a.value) own).1 in
    and_from _ _ (and_from _ _ (own_key p a own) value) (pairs p xs q.1)

start : (p : ListedWords) (tag : Tag) → lists_words p ≡ true → IsOwn p tag → is_listed p (StartTag (lowered tag.name) (map attribute_read tag.attributes) false) ≡ true
start p tag l o =
    ap₂ (λ (n : List ℕ) (xs : List HtmlAttribute). is_listed p (StartTag n xs false)) (listed_tag p tag.name l o.listed).low (pairs_read p tag.attributes l o.pairs)
    ∙ and_from _ _ o.listed (and_from _ _ (pairs p tag.attributes o.pairs) o.marked)

unless : (p : ListedWords) (v : Bool) (tokens : List HtmlToken) → are_listed p tokens ≡ true → are_listed p (if v then [] else tokens) ≡ true
unless p true tokens h = refl
unless p false tokens h = h

end : (p : ListedWords) (tag : Tag) → lists_words p ≡ true → IsOwn p tag → are_listed p (EndTag (lowered tag.name) ∷ []) ≡ true
end p tag l o = ap (λ (n : List ℕ). is_among p.tags n && true) (listed_tag p tag.name l o.listed).low ∙ and_from _ _ o.listed refl

pub tokens_listed : (p : ListedWords) (f : HtmlForest) → lists_words p ≡ true → AreOwn p f → are_listed p (tokens_of_trees f) ≡ true
tokens_listed p no_trees l h = refl
tokens_listed p (text own more) l h = both p (map Character own.said) (tokens_of_trees more) (characters p own.said) (tokens_listed p more l h.1)
tokens_listed p (comment own more) l h = absurd h
tokens_listed p (doctype own more) l h = absurd h
tokens_listed p (element tag below more) l h =
    and_from _ _ (start p tag l h.0)
    (both p (unless_empty tag (tokens_of_trees below)) (end_tokens tag ++ tokens_of_trees more)
    (unless p (is_void tag) (tokens_of_trees below) (tokens_listed p below l h.1))
    (both p (end_tokens tag) (tokens_of_trees more) (unless p (is_void tag) (EndTag (lowered tag.name) ∷ []) (end p tag l h.0)) (tokens_listed p more l h.2)))
