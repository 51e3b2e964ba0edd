-- Settled trees as those of the partial tree builder of `tl_tree_spec`, by which they stay.
use Rattle.std.proofs.Common.{Bool, List, [], ap, ap₂, false, if◌then◌else◌, map, not, refl, sym, true, true≢false, ℕ, ◌&&◌, ◌∙◌, ◌∷◌, ◌≡◌}
use Rattle.std.specs.List.{list_all}
use Rattle.std.proofs.lemmas.Bool.{and_from, and_parts}
use Rattle.std.proofs.lemmas.List.Folds.{list_all-append}
use Rattle.tl_dom_spec.specs.HtmlForest.{HtmlForest, comment, doctype, element, no_trees, text}
use Rattle.tl_dom_spec.specs.Marks.{Marked, marked}
use Rattle.tl_dom_spec.specs.Partial.{unnumbered, whole, without_numbers}
use Rattle.tl_dom_spec.specs.Tags.{Attribute, AttributeSpace, Namespace, Tag, html_tag, no_space, plain_attribute, xlink_space, xml_space, xmlns_space}
use Rattle.tl_html_print.specs.ReadAgain.{is_kept, is_kept_in_value}
use Rattle.tl_spec.specs.Lex.ByteClass.{is_void}
use Rattle.tl_spec.specs.Tree.Forest as F
use Rattle.tl_tree_safe.proofs.Own.{AreOwn, IsOwn, is_own_attribute, pair_of}
use Rattle.tl_tree_safe.specs.Fitted.{Names, is_read}
use Rattle.tl_tree_safe.specs.Joined.{text_before, texts_joined}
use Rattle.tl_tree_safe.specs.Kept.{has_no_space, is_listed_attribute}
use Rattle.tl_tree_safe.specs.Lists.{ListedWords}
use Rattle.tl_tree_safe.specs.Settled.{begins_line, is_none, is_settled_inside, settled}
use Rattle.tl_tree_spec.specs.Builder.{is_flow, mode_of}
use Rattle.tl_tree_spec.specs.Groups.{group}
use Rattle.tl_tree_spec.specs.HtmlForest as P
use Rattle.tl_tree_spec.specs.HtmlForest.{HtmlTag, join_text, normal_form}
use Rattle.tl_tree_spec.specs.Stays as S
use Rattle.tl_tree_spec.specs.Stays.{is_alone, is_preformatted, may_be_read, may_stand, stay}

abbrev pub partial_tag : Tag → HtmlTag
partial_tag tag = record { name = tag.name; attributes = map pair_of tag.attributes }

-- these trees have no doctypes
abbrev pub partial : HtmlForest → P.HtmlForest
partial no_trees = F.none
partial (text own more) = F.text own.said (partial more)
partial (comment own more) = F.comment own.said (partial more)
partial (doctype own more) = F.comment [] (partial more)
partial (element tag below more) = F.tag (partial_tag tag) (partial below) (partial more)

-- They stay

line-said : (source : ℕ) (cs : List ℕ) (more : HtmlForest) → S.begins_line (partial more) ≡ begins_line more → S.begins_line (F.text cs (partial more)) ≡ begins_line (text (marked source cs) more)
line-said source [] more h = h
line-said source (c ∷ cs) more h = refl

pub line-same : (f : HtmlForest) → S.begins_line (partial f) ≡ begins_line f
line-same no_trees = refl
line-same (text own more) = line-said own.source own.said more (line-same more)
line-same (comment own more) = refl
line-same (doctype own more) = refl
line-same (element tag below more) = refl

none-same : (f : HtmlForest) → is_none f ≡ true → S.is_none (partial f) ≡ true
none-same no_trees h = refl
none-same (text own more) h = absurd (true≢false (sym h))
none-same (comment own more) h = absurd (true≢false (sym h))
none-same (doctype own more) h = absurd (true≢false (sym h))
none-same (element tag below more) h = absurd (true≢false (sym h))

-- an element, of what is asked of its name and of what is in it
stands-in : (names : Names) (n : List ℕ) (below : HtmlForest) → is_read names n ≡ true → is_settled_inside n below (settled (n ∷ names) below) ≡ true →
    (settled (n ∷ names) below ≡ true → stay (n ∷ names) (partial below) ≡ true) →
    (may_stand names n
    && (if is_void n then is_alone (group n) && S.is_none (partial below)
    else not (is_alone (group n)) && not (is_preformatted (group n) && S.begins_line (partial below)) && stay (n ∷ names) (partial below))) ≡ true
stands-in names n below r i k =
    let p = and_parts (may_stand names n && (if is_void n then is_alone (group n) else not (is_alone (group n)))) _ r in
    let q = and_parts (may_stand names n) (if is_void n then is_alone (group n) else not (is_alone (group n))) p.0 in
    and_from _ _ q.0 (here (is_void n) (is_alone (group n)) q.1 i)
  where
    here : (v a : Bool) → (if v then a else not a) ≡ true → (if v then is_none below else not (is_preformatted (group n) && begins_line below) && settled (n ∷ names) below) ≡ true →
        (if v then a && S.is_none (partial below) else not a && not (is_preformatted (group n) && S.begins_line (partial below)) && stay (n ∷ names) (partial below)) ≡ true
    here true a x y = and_from _ _ x (none-same below y)
    here false a x y =
        let z = and_parts (not (is_preformatted (group n) && begins_line below)) (settled (n ∷ names) below) y in
        and_from _ _ (and_from _ _ x (ap (λ b. not (is_preformatted (group n) && b)) (line-same below) ∙ z.0)) (k z.1)

pub settled-stay : (names : Names) (f : HtmlForest) → settled names f ≡ true → stay names (partial f) ≡ true
settled-stay names no_trees h = refl
settled-stay names (text own more) h =
    let p = and_parts (list_all (may_be_read (is_flow (mode_of names))) own.said) (settled names more) h in
    and_from _ _ p.0 (settled-stay names more p.1)
settled-stay names (comment own more) h = absurd (true≢false (sym h))
settled-stay names (doctype own more) h = absurd (true≢false (sym h))
settled-stay names (element tag below more) h =
    let p = and_parts (is_read names tag.name) _ h in
    let q = and_parts (is_settled_inside tag.name below (settled (tag.name ∷ names) below)) (settled names more) p.1 in
    and_from _ _ (stands-in names tag.name below p.0 q.0 (settled-stay (tag.name ∷ names) below)) (settled-stay names more q.1)

-- They are the same trees

pub plain_space : (s : AttributeSpace) → has_no_space s ≡ true → s ≡ no_space
plain_space no_space h = refl
plain_space xlink_space h = absurd (true≢false (sym h))
plain_space xml_space h = absurd (true≢false (sym h))
plain_space xmlns_space h = absurd (true≢false (sym h))

-- of an attribute that is listed
pub record IsPlain (p : ListedWords) (a : Attribute) : Type 0 where
  pub space : a.space ≡ no_space
  pub listed : is_listed_attribute p a ≡ true
  pub value : list_all is_kept_in_value a.value ≡ true

pub plain_of : (p : ListedWords) (a : Attribute) → is_own_attribute p a ≡ true → IsPlain p a
plain_of p a h =
    let q = and_parts (is_listed_attribute p a) (list_all is_kept_in_value a.value) h in
    let r = and_parts (has_no_space a.space && _) _ q.0 in
    record { space = plain_space a.space (and_parts (has_no_space a.space) _ r.0).0; listed = q.0; value = q.1 }

pairs-same : (p : ListedWords) (xs : List Attribute) → list_all (is_own_attribute p) xs ≡ true → map plain_attribute (map pair_of xs) ≡ xs
pairs-same p [] h = refl
pairs-same p (a ∷ xs) h =
    let q = and_parts (is_own_attribute p a) (list_all (is_own_attribute p) xs) h in
    ap₂ (λ (s : AttributeSpace) (ys : List Attribute). record { space = s; key = a.key; value = a.value } ∷ ys) (sym (plain_of p a q.0).space) (pairs-same p xs q.1)

tag-same : (p : ListedWords) (tag : Tag) → IsOwn p tag → html_tag (partial_tag tag).name (partial_tag tag).attributes ≡ unnumbered tag
tag-same p tag o =
    ap₂ (λ (s : Namespace) (xs : List Attribute). unnumbered (record tag { space = s; attributes = xs })) (sym o.space) (pairs-same p tag.attributes o.pairs)

pub whole-same : (p : ListedWords) (f : HtmlForest) → AreOwn p f → whole (partial f) ≡ without_numbers f
whole-same p no_trees h = refl
whole-same p (text own more) h = ap (λ m. text (marked 0 own.said) m) (whole-same p more h.1)
whole-same p (comment own more) h = absurd h
whole-same p (doctype own more) h = absurd h
whole-same p (element tag below more) h =
    ap (λ t. element t (whole (partial below)) (whole (partial more))) (tag-same p tag h.0)
    ∙ ap₂ (λ (b m : HtmlForest). element (unnumbered tag) b m) (whole-same p below h.1) (whole-same p more h.2)

-- Texts side by side

before-same : (own : Marked (List ℕ)) (bytes : List ℕ) (f : HtmlForest) → own.said ≡ bytes → partial (text_before own bytes f) ≡ join_text bytes (partial f)
before-same own [] f e = refl
before-same own (b ∷ bytes) no_trees e = ap (λ (s : List ℕ). F.text s F.none) e
before-same own (b ∷ bytes) (text other more) e = refl
before-same own (b ∷ bytes) (comment other more) e = ap (λ (s : List ℕ). F.text s (F.comment other.said (partial more))) e
before-same own (b ∷ bytes) (doctype other more) e = ap (λ (s : List ℕ). F.text s (F.comment [] (partial more))) e
before-same own (b ∷ bytes) (element tag below more) e = ap (λ (s : List ℕ). F.text s (F.tag (partial_tag tag) (partial below) (partial more))) e

pub joined-same : (f : HtmlForest) → partial (texts_joined f) ≡ normal_form (partial f)
joined-same no_trees = refl
joined-same (text own more) = before-same own own.said (texts_joined more) refl ∙ ap (join_text own.said) (joined-same more)
joined-same (comment own more) = ap (λ m. F.comment own.said m) (joined-same more)
joined-same (doctype own more) = ap (λ m. F.comment [] m) (joined-same more)
joined-same (element tag below more) = ap₂ (λ (b m : P.HtmlForest). F.tag (partial_tag tag) b m) (joined-same below) (joined-same more)

before-own : (p : ListedWords) (own : Marked (List ℕ)) (bytes : List ℕ) (f : HtmlForest) → own.said ≡ bytes → list_all is_kept bytes ≡ true → AreOwn p f → AreOwn p (text_before own bytes f)
before-own p own [] f e k h = h
before-own p own (b ∷ bytes) no_trees e k h = (ap (list_all is_kept) e ∙ k, tt)
before-own p own (b ∷ bytes) (text other more) e k h =
    (list_all-append is_kept (b ∷ bytes) other.said ∙ and_from (list_all is_kept (b ∷ bytes)) (list_all is_kept other.said) k h.0, h.1)
before-own p own (b ∷ bytes) (comment other more) e k h = absurd h
before-own p own (b ∷ bytes) (doctype other more) e k h = absurd h
before-own p own (b ∷ bytes) (element tag below more) e k h = (ap (list_all is_kept) e ∙ k, h)

pub joined-own : (p : ListedWords) (f : HtmlForest) → AreOwn p f → AreOwn p (texts_joined f)
joined-own p no_trees h = tt
joined-own p (text own more) h = before-own p own own.said (texts_joined more) refl h.0 (joined-own p more h.1)
joined-own p (comment own more) h = absurd h
joined-own p (doctype own more) h = absurd h
joined-own p (element tag below more) h = (h.0, joined-own p below h.1, joined-own p more h.2)
