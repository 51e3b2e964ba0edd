-- What holds of each tag and text that a policy keeps.
use Rattle.std.proofs.Common.{Bool, List, [], ap, ap₂, codes, cond, false, filter, if◌then◌else◌, map, not, refl, sym, true, true≢false, ℕ, ◌&&◌, ◌==◌, ◌∙◌, ◌∷◌, ◌≡◌, ◌||◌}
use Rattle.std.specs.Prelude.{⊤}
use Rattle.std.specs.List.{list_all, list_any}
use Rattle.std.specs.Str.{bytes_eq}
use Rattle.std.proofs.lemmas.Bool.{and_from, and_parts, false_from_ne_true, not-true}
use Rattle.std.proofs.lemmas.Slice.Eq.{bytes_eq-Decides}
use Rattle.tl_dom_spec.specs.HtmlForest.{HtmlForest, comment, doctype, element, no_trees, text}
use Rattle.tl_dom_spec.specs.Tags.{Attribute, Namespace, Tag, by_space, html_space, is_html, math_space, svg_space}
use Rattle.tl_html_print.specs.ReadAgain.{is_kept, is_kept_in_value}
use Rattle.tl_html_spec.specs.HtmlTokenizer.{HtmlAttribute}
use Rattle.tl_safe_fit.specs.Words.{is_among}
use Rattle.tl_spec.specs.Lex.ByteClass.{is_void}
use Rattle.tl_tree_safe.proofs.Filters.{all_also, both_all, filter_all, filter_also, filter_none, map_all}
use Rattle.tl_tree_safe.specs.Fitted.{Names, fitted, in_place, inside, is_read, past_lines, unlined}
use Rattle.tl_tree_safe.specs.Characters.{cleaned, is_said, said_byte}
use Rattle.tl_tree_safe.specs.Kept.{goes, has_key, is_beside_mark, is_listed_attribute, is_marked_link, joined, kept, kept_attribute, kept_attributes, kept_element, kept_tag, mark, marked_where, stays, unwrapped}
use Rattle.tl_tree_safe.specs.Listed.{begins_marked, is_marked, is_target}
use Rattle.tl_tree_safe.specs.Lists.{ListedWords, is_listed_link, linking_names, lists_words, may_mark, opaque_names, rel_key, rel_value}
use Rattle.tl_tree_safe.specs.OwnKeys.{HaveOwnKeys, are_apart, comes_again}
use Rattle.tl_tree_safe.specs.Values.{own_value}
use Rattle.tl_tree_spec.specs.Builder.{is_flow, mode_of}
use Rattle.tl_tree_spec.specs.Groups.{group}
use Rattle.tl_tree_spec.specs.HtmlForest.{is_empty}
use Rattle.tl_tree_spec.specs.Stays.{is_preformatted, may_be_read}

-- a key and a value, as a token has them
abbrev pub pair_of : Attribute → HtmlAttribute
pair_of a = (a.key, a.value)

-- a listed attribute, of which the value is read as it is
abbrev pub is_own_attribute : ListedWords → Attribute → Bool
is_own_attribute p a = is_listed_attribute p a && list_all is_kept_in_value a.value

pub record IsOwn (p : ListedWords) (tag : Tag) : Type 0 where
  pub space : tag.space ≡ html_space
  pub listed : is_among p.tags tag.name ≡ true
  pub pairs : list_all (is_own_attribute p) tag.attributes ≡ true
  pub apart : are_apart tag.attributes ≡ true
  pub marked : is_marked p tag.name (map pair_of tag.attributes) ≡ true

abbrev pub AreOwn : ListedWords → HtmlForest → Type 0
AreOwn p no_trees = ⊤
AreOwn p (text own more) = (list_all is_kept own.said ≡ true) × AreOwn p more
AreOwn p (comment own more) = ⊥
AreOwn p (doctype own more) = ⊥
AreOwn p (element tag below more) = IsOwn p tag × AreOwn p below × AreOwn p more

-- Characters

kept_byte : (b : ℕ) (v : Bool) → (b == 13) ≡ v → is_said (if v then 32 else b) ≡ true → is_kept_in_value (if v then 32 else b) ≡ true
kept_byte b true e s = refl
kept_byte b false e s =
    let zero = not-true (b == 0) (and_parts (not (b == 0)) (not (b == 27)) s).0 in
    ap₂ (λ (x y : Bool). not (x || y)) e zero

cleaned-kept : (bytes : List ℕ) → list_all is_kept_in_value (cleaned bytes) ≡ true
cleaned-kept [] = refl
cleaned-kept (b ∷ bytes) = here (is_said (said_byte b)) refl (cleaned-kept bytes)
  where
    here : (v : Bool) → is_said (said_byte b) ≡ v → list_all is_kept_in_value (cleaned bytes) ≡ true → list_all is_kept_in_value (cond v (said_byte b ∷ cleaned bytes) (cleaned bytes)) ≡ true
    here true e k = and_from _ _ (kept_byte b (b == 13) refl e) k
    here false e k = k

no_return : (b : ℕ) → is_kept_in_value b ≡ true → is_kept b ≡ true
no_return b h = here (b == 13) (b == 0) h
  where
    here : (x y : Bool) → not (x || y) ≡ true → not x ≡ true
    here false y e = refl
    here true y e = absurd (true≢false (sym e))

cleaned-text : (bytes : List ℕ) → list_all is_kept (cleaned bytes) ≡ true
cleaned-text bytes = all_also is_kept_in_value is_kept (cleaned bytes) no_return (cleaned-kept bytes)

-- Keys

again-kept : (p : ListedWords) (key : List ℕ) (xs : List Attribute) → comes_again key xs ≡ false → comes_again key (map (kept_attribute p) xs) ≡ false
again-kept p key [] h = refl
again-kept p key (a ∷ xs) h =
    here (bytes_eq key a.key) (comes_again key xs) h (again-kept p key xs)
  where
    here : (x y : Bool) → x || y ≡ false → (y ≡ false → comes_again key (map (kept_attribute p) xs) ≡ false) → x || comes_again key (map (kept_attribute p) xs) ≡ false
    here false y e k = k e
    here true y e k = absurd (true≢false e)

apart-kept : (p : ListedWords) (xs : List Attribute) → are_apart xs ≡ true → are_apart (map (kept_attribute p) xs) ≡ true
apart-kept p [] h = refl
apart-kept p (a ∷ xs) h =
    let q = and_parts (not (comes_again a.key xs)) (are_apart xs) h in
    and_from _ _ (ap not (again-kept p a.key xs (not-true (comes_again a.key xs) q.0))) (apart-kept p xs q.1)

apart-filter : (test : Attribute → Bool) (xs : List Attribute) → are_apart xs ≡ true → are_apart (filter test xs) ≡ true
apart-filter test [] h = refl
apart-filter test (a ∷ xs) h =
    let q = and_parts (not (comes_again a.key xs)) (are_apart xs) h in here (test a) q.0 (apart-filter test xs q.1)
  where
    here : (b : Bool) → not (comes_again a.key xs) ≡ true → are_apart (filter test xs) ≡ true → are_apart (cond b (a ∷ filter test xs) (filter test xs)) ≡ true
    here true n k = and_from _ _ (ap not (filter_none test (λ (x : Attribute). bytes_eq a.key x.key) xs (not-true (comes_again a.key xs) n))) k
    here false n k = k

-- a key that is another one is so the other way round too
other_key : (x y : List ℕ) → bytes_eq x y ≡ false → bytes_eq y x ≡ false
other_key x y h = false_from_ne_true (bytes_eq y x) (λ e. true≢false (sym ((bytes_eq-Decides x y).1 (sym ((bytes_eq-Decides y x).0 e))) ∙ h))

none_beside : (xs : List Attribute) → list_all is_beside_mark xs ≡ true → comes_again rel_key xs ≡ false
none_beside [] h = refl
none_beside (a ∷ xs) h =
    let q = and_parts (is_beside_mark a) (list_all is_beside_mark xs) h in
    ap₂ (λ (x y : Bool). x || y) (other_key a.key rel_key (not-true (has_key rel_key a) q.0)) (none_beside xs q.1)

-- Attributes

own_kept : (p : ListedWords) (attributes : List Attribute) → list_all (is_own_attribute p) (kept_attributes p attributes) ≡ true
own_kept p attributes =
    both_all (is_listed_attribute p) (λ (a : Attribute). list_all is_kept_in_value a.value) (kept_attributes p attributes)
    (filter_all (is_listed_attribute p) (map (kept_attribute p) attributes))
    (filter_also (is_listed_attribute p) (λ (a : Attribute). list_all is_kept_in_value a.value) (map (kept_attribute p) attributes)
    (map_all (kept_attribute p) (λ (a : Attribute). list_all is_kept_in_value a.value) attributes (λ a. cleaned-kept (own_value p a.key a.value))))

apart_kept : (p : ListedWords) (attributes : List Attribute) → are_apart attributes ≡ true → are_apart (kept_attributes p attributes) ≡ true
apart_kept p attributes h = apart-filter (is_listed_attribute p) (map (kept_attribute p) attributes) (apart-kept p attributes h)

-- the mark may stand where a policy marks links
mark_own : (p : ListedWords) → lists_words p ≡ true → p.nofollow_links ≡ true → is_own_attribute p mark ≡ true
mark_own p l n =
    let q = (and_parts _ (not p.nofollow_links || may_mark p) l).1 in
    let m : may_mark p ≡ true = ap (λ v. not v || may_mark p) (sym n) ∙ q in
    let r = and_parts (is_among p.keys rel_key) (not (is_among p.link_keys rel_key)) m in
    ap₂ (λ (k l : Bool). ((true && k) && ((((not l || is_listed_link p rel_value) && true) && true) && true)) && true) r.0 (not-true (is_among p.link_keys rel_key) r.1)

same_target : (xs : List Attribute) → list_any is_target (map pair_of xs) ≡ list_any (has_key (codes "href")) xs
same_target [] = refl
same_target (a ∷ xs) = ap (λ v. has_key (codes "href") a || v) (same_target xs)

or_true : (x : Bool) → x || true ≡ true
or_true true = refl
or_true false = refl

pub record MarkedOwn (p : ListedWords) (name : List ℕ) (attributes : List Attribute) : Type 0 where
  pub pairs : list_all (is_own_attribute p) attributes ≡ true
  pub apart : are_apart attributes ≡ true
  pub marked : is_marked p name (map pair_of attributes) ≡ true

marked_own : (p : ListedWords) (name : List ℕ) (xs : List Attribute) → lists_words p ≡ true → list_all (is_own_attribute p) xs ≡ true → are_apart xs ≡ true → MarkedOwn p name (marked_where (is_marked_link p name xs) xs)
marked_own p name xs l h k = here (is_marked_link p name xs) refl
  where
    here : (v : Bool) → is_marked_link p name xs ≡ v → MarkedOwn p name (marked_where v xs)
    here true e =
        let n = (and_parts p.nofollow_links (is_among linking_names name) (and_parts (p.nofollow_links && is_among linking_names name) (list_any (has_key (codes "href")) xs) e).0).0 in
        record {
          pairs = and_from _ _ (mark_own p l n) (filter_also is_beside_mark (is_own_attribute p) xs h);
          apart = and_from _ _ (ap not (none_beside (filter is_beside_mark xs) (filter_all is_beside_mark xs))) (apart-filter is_beside_mark xs k);
          marked = or_true (not (p.nofollow_links && is_among linking_names name && list_any is_target (map pair_of (mark ∷ filter is_beside_mark xs))));
        }
    here false e = record {
      pairs = h;
      apart = k;
      marked = ap (λ v. not (p.nofollow_links && is_among linking_names name && v) || begins_marked (map pair_of xs)) (same_target xs)
          ∙ ap (λ v. not v || begins_marked (map pair_of xs)) e;
    }

html_is : (s : Namespace) → by_space s true false false ≡ true → s ≡ html_space
html_is html_space h = refl
html_is math_space h = absurd (true≢false (sym h))
html_is svg_space h = absurd (true≢false (sym h))

kept_own : (p : ListedWords) (tag : Tag) → lists_words p ≡ true → is_html tag ≡ true → is_among p.tags tag.name ≡ true → are_apart tag.attributes ≡ true → IsOwn p (kept_tag p tag)
kept_own p tag l h n k =
    let own = marked_own p tag.name (kept_attributes p tag.attributes) l (own_kept p tag.attributes) (apart_kept p tag.attributes k) in
    record { space = html_is tag.space h; listed = n; pairs = own.pairs; apart = own.apart; marked = own.marked }

-- Trees

joined-own : (p : ListedWords) (f g : HtmlForest) → AreOwn p f → AreOwn p g → AreOwn p (joined f g)
joined-own p no_trees g h k = k
joined-own p (text own more) g h k = (h.0, joined-own p more g h.1 k)
joined-own p (comment own more) g h k = absurd h
joined-own p (doctype own more) g h k = absurd h
joined-own p (element tag below more) g h k = (h.0, h.1, joined-own p more g h.2 k)

none_or : (p : ListedWords) (v : Bool) (f : HtmlForest) → AreOwn p f → AreOwn p (if v then no_trees else f)
none_or p true f h = tt
none_or p false f h = h

element_own : (p : ListedWords) (tag : Tag) (below more : HtmlForest) → lists_words p ≡ true → (is_html tag ≡ true → are_apart tag.attributes ≡ true) → AreOwn p below → AreOwn p more →
    (h n o : Bool) → is_html tag ≡ h → is_among p.tags tag.name ≡ n → AreOwn p (kept_element p tag below more (if not h then goes else if n then stays else if o then goes else unwrapped))
element_own p tag below more l k b m false n o e f = m
element_own p tag below more l k b m true true o e f = (kept_own p tag l e f (k e), none_or p (is_void tag.name) below b, m)
element_own p tag below more l k b m true false true e f = m
element_own p tag below more l k b m true false false e f = joined-own p below more b m

pub kept-own : (p : ListedWords) (f : HtmlForest) → lists_words p ≡ true → HaveOwnKeys f → AreOwn p (kept p f)
kept-own p no_trees l h = tt
kept-own p (text own more) l h = (cleaned-text own.said, kept-own p more l h)
kept-own p (comment own more) l h = kept-own p more l h
kept-own p (doctype own more) l h = kept-own p more l h
kept-own p (element tag below more) l h =
    element_own p tag (kept p below) (kept p more) l h.0 (kept-own p below l h.1) (kept-own p more l h.2)
    (is_html tag) (is_among p.tags tag.name) (is_among opaque_names tag.name) refl refl

past-all : (test : ℕ → Bool) (cs : List ℕ) → list_all test cs ≡ true → list_all test (past_lines cs) ≡ true
past-all test [] h = refl
past-all test (c ∷ cs) h = here (c == 10) (past-all test cs (and_parts (test c) (list_all test cs) h).1)
  where
    here : (b : Bool) → list_all test (past_lines cs) ≡ true → list_all test (if b then past_lines cs else c ∷ cs) ≡ true
    here true k = k
    here false k = h

unlined-own : (p : ListedWords) (f : HtmlForest) → AreOwn p f → AreOwn p (unlined f)
unlined-own p no_trees h = h
unlined-own p (text own more) h = (past-all is_kept own.said h.0, rest (is_empty (past_lines own.said)) (unlined-own p more h.1))
  where
    rest : (b : Bool) → AreOwn p (unlined more) → AreOwn p (if b then unlined more else more)
    rest true k = k
    rest false k = h.1
unlined-own p (comment own more) h = h
unlined-own p (doctype own more) h = h
unlined-own p (element tag below more) h = h

inside-own : (p : ListedWords) (n : List ℕ) (f : HtmlForest) → AreOwn p f → AreOwn p (inside n f)
inside-own p n f h = none_or p (is_void n) (if is_preformatted (group n) then unlined f else f) (here (is_preformatted (group n)))
  where
    here : (v : Bool) → AreOwn p (if v then unlined f else f)
    here true = unlined-own p f h
    here false = h

pub fitted-own : (p : ListedWords) (names : Names) (f : HtmlForest) → AreOwn p f → AreOwn p (fitted names f)
fitted-own p names no_trees h = tt
fitted-own p names (text own more) h =
    (filter_also (may_be_read (is_flow (mode_of names))) is_kept own.said h.0, fitted-own p names more h.1)
fitted-own p names (comment own more) h = absurd h
fitted-own p names (doctype own more) h = absurd h
fitted-own p names (element tag below more) h =
    here (is_read names tag.name) (fitted-own p (tag.name ∷ names) below h.1) (fitted-own p names below h.1) (fitted-own p names more h.2)
  where
    here : (b : Bool) → AreOwn p (fitted (tag.name ∷ names) below) → AreOwn p (fitted names below) → AreOwn p (fitted names more) →
        AreOwn p (if b then element tag (inside tag.name (fitted (tag.name ∷ names) below)) (fitted names more) else joined (in_place tag.name (fitted names below)) (fitted names more))
    here true i u m = (h.0, inside-own p tag.name (fitted (tag.name ∷ names) below) i, m)
    here false i u m = joined-own p (in_place tag.name (fitted names below)) (fitted names more) (none_or p (is_void tag.name) (fitted names below) u) m
