-- The groups of names: which names a group has, and what follows of a name that is of another group.
use Rattle.std.proofs.Common.{Bool, List, ap, codes, false, refl, subst, sym, true, true≢false, ℕ, ◌∙◌, ◌≡◌}
use Rattle.std.specs.Str.{bytes_eq}
use Rattle.std.proofs.lemmas.Bool.{and_from, and_parts, and_right, cond_both, false_from_ne_true}
use Rattle.std.proofs.lemmas.Slice.Eq.{bytes_eq-Decides}
use Rattle.tl_names.specs.Elements.{headings, implied_ends, is_among, table_sections}
use Rattle.tl_html_spec.specs.Balanced.{is_one_of, words}
use Rattle.tl_dom_spec.specs.Tags.{Tag, is_any, is_html, is_implied, is_named}
use Rattle.tl_dom_spec.specs.Groups.{Group, a_cell, a_description, a_frameset, a_paragraph, a_ruby_base, a_ruby_text, a_table_body, a_template, an_item, an_option, an_option_group, block_names, format_names, group, head_group, inner_group, the_body, the_head, the_html}
use Rattle.tl_dom_spec.proofs.Allowed.{Each}
use Rattle.tl_dom_spec.proofs.SeatedPaths.{bar_names}
use Rattle.tl_dom_spec.proofs.SeatedBuilders.{IsFree, IsPlain, NoBar}
use Rattle.tl_dom_spec.proofs.Words.{any_word}

-- whether a name is one of these groups
abbrev pub is_name_of : Group → List ℕ → Bool
is_name_of the_html n = bytes_eq (codes "html") n
is_name_of the_head n = bytes_eq (codes "head") n
is_name_of the_body n = bytes_eq (codes "body") n
is_name_of a_frameset n = bytes_eq (codes "frameset") n
is_name_of a_template n = bytes_eq (codes "template") n
is_name_of a_table_body n = is_among table_sections n
is_name_of a_cell n = is_one_of (codes "td th") n
is_name_of _ n = true

head_group-named : (n : List ℕ) → is_name_of (head_group n) n ≡ true
head_group-named n =
    cond_both (bytes_eq (codes "base") n) _ _ (λ g. is_name_of g n ≡ true) (λ _. refl)
    (λ _. cond_both (is_one_of (codes "basefont bgsound link meta") n) _ _ (λ g. is_name_of g n ≡ true) (λ _. refl)
    (λ _. cond_both (bytes_eq (codes "title") n) _ _ (λ g. is_name_of g n ≡ true) (λ _. refl)
    (λ _. cond_both (bytes_eq (codes "noframes") n) _ _ (λ g. is_name_of g n ≡ true) (λ _. refl)
    (λ _. cond_both (bytes_eq (codes "style") n) _ _ (λ g. is_name_of g n ≡ true) (λ _. refl)
    (λ _. cond_both (bytes_eq (codes "noscript") n) _ _ (λ g. is_name_of g n ≡ true) (λ _. refl)
    (λ _. cond_both (bytes_eq (codes "script") n) _ _ (λ g. is_name_of g n ≡ true) (λ _. refl)
    (λ _. cond_both (bytes_eq (codes "template") n) _ _ (λ g. is_name_of g n ≡ true) (λ y. y)
    (λ _. cond_both (bytes_eq (codes "textarea") n) _ _ (λ g. is_name_of g n ≡ true) (λ _. refl)
    (λ _. cond_both (bytes_eq (codes "xmp") n) _ _ (λ g. is_name_of g n ≡ true) (λ _. refl)
    (λ _. cond_both (bytes_eq (codes "iframe") n) _ _ (λ g. is_name_of g n ≡ true) (λ _. refl)
    (λ _. cond_both (bytes_eq (codes "noembed") n) _ _ (λ g. is_name_of g n ≡ true) (λ _. refl)
    (λ _. cond_both (bytes_eq (codes "plaintext") n) _ _ (λ g. is_name_of g n ≡ true) (λ _. refl)
    (λ _. refl)))))))))))))

inner_group-named : (n : List ℕ) → is_name_of (inner_group n) n ≡ true
inner_group-named n =
    cond_both (bytes_eq (codes "button") n) _ _ (λ g. is_name_of g n ≡ true) (λ _. refl)
    (λ _. cond_both (bytes_eq (codes "nobr") n) _ _ (λ g. is_name_of g n ≡ true) (λ _. refl)
    (λ _. cond_both (is_one_of (codes "applet marquee object") n) _ _ (λ g. is_name_of g n ≡ true) (λ _. refl)
    (λ _. cond_both (bytes_eq (codes "br") n) _ _ (λ g. is_name_of g n ≡ true) (λ _. refl)
    (λ _. cond_both (is_one_of (codes "area embed img keygen wbr") n) _ _ (λ g. is_name_of g n ≡ true) (λ _. refl)
    (λ _. cond_both (bytes_eq (codes "image") n) _ _ (λ g. is_name_of g n ≡ true) (λ _. refl)
    (λ _. cond_both (bytes_eq (codes "input") n) _ _ (λ g. is_name_of g n ≡ true) (λ _. refl)
    (λ _. cond_both (is_one_of (codes "param source track") n) _ _ (λ g. is_name_of g n ≡ true) (λ _. refl)
    (λ _. cond_both (bytes_eq (codes "select") n) _ _ (λ g. is_name_of g n ≡ true) (λ _. refl)
    (λ _. cond_both (bytes_eq (codes "option") n) _ _ (λ g. is_name_of g n ≡ true) (λ _. refl)
    (λ _. cond_both (bytes_eq (codes "optgroup") n) _ _ (λ g. is_name_of g n ≡ true) (λ _. refl)
    (λ _. cond_both (is_one_of (codes "rb rtc") n) _ _ (λ g. is_name_of g n ≡ true) (λ _. refl)
    (λ _. cond_both (is_one_of (codes "rp rt") n) _ _ (λ g. is_name_of g n ≡ true) (λ _. refl)
    (λ _. cond_both (bytes_eq (codes "math") n) _ _ (λ g. is_name_of g n ≡ true) (λ _. refl)
    (λ _. cond_both (bytes_eq (codes "svg") n) _ _ (λ g. is_name_of g n ≡ true) (λ _. refl)
    (λ _. head_group-named n)))))))))))))))

group-named : (n : List ℕ) → is_name_of (group n) n ≡ true
group-named n =
    cond_both (bytes_eq (codes "html") n) _ _ (λ g. is_name_of g n ≡ true) (λ y. y)
    (λ _. cond_both (bytes_eq (codes "head") n) _ _ (λ g. is_name_of g n ≡ true) (λ y. y)
    (λ _. cond_both (bytes_eq (codes "body") n) _ _ (λ g. is_name_of g n ≡ true) (λ y. y)
    (λ _. cond_both (bytes_eq (codes "p") n) _ _ (λ g. is_name_of g n ≡ true) (λ _. refl)
    (λ _. cond_both (bytes_eq (codes "a") n) _ _ (λ g. is_name_of g n ≡ true) (λ _. refl)
    (λ _. cond_both (is_one_of format_names n) _ _ (λ g. is_name_of g n ≡ true) (λ _. refl)
    (λ _. cond_both (bytes_eq (codes "table") n) _ _ (λ g. is_name_of g n ≡ true) (λ _. refl)
    (λ _. cond_both (bytes_eq (codes "caption") n) _ _ (λ g. is_name_of g n ≡ true) (λ _. refl)
    (λ _. cond_both (bytes_eq (codes "colgroup") n) _ _ (λ g. is_name_of g n ≡ true) (λ _. refl)
    (λ _. cond_both (bytes_eq (codes "col") n) _ _ (λ g. is_name_of g n ≡ true) (λ _. refl)
    (λ _. cond_both (is_among table_sections n) _ _ (λ g. is_name_of g n ≡ true) (λ y. y)
    (λ _. cond_both (bytes_eq (codes "tr") n) _ _ (λ g. is_name_of g n ≡ true) (λ _. refl)
    (λ _. cond_both (is_one_of (codes "td th") n) _ _ (λ g. is_name_of g n ≡ true) (λ y. y)
    (λ _. cond_both (is_one_of block_names n) _ _ (λ g. is_name_of g n ≡ true) (λ _. refl)
    (λ _. cond_both (is_among headings n) _ _ (λ g. is_name_of g n ≡ true) (λ _. refl)
    (λ _. cond_both (is_one_of (codes "pre listing") n) _ _ (λ g. is_name_of g n ≡ true) (λ _. refl)
    (λ _. cond_both (bytes_eq (codes "form") n) _ _ (λ g. is_name_of g n ≡ true) (λ _. refl)
    (λ _. cond_both (bytes_eq (codes "li") n) _ _ (λ g. is_name_of g n ≡ true) (λ _. refl)
    (λ _. cond_both (is_one_of (codes "dd dt") n) _ _ (λ g. is_name_of g n ≡ true) (λ _. refl)
    (λ _. cond_both (bytes_eq (codes "hr") n) _ _ (λ g. is_name_of g n ≡ true) (λ _. refl)
    (λ _. cond_both (bytes_eq (codes "frameset") n) _ _ (λ g. is_name_of g n ≡ true) (λ y. y)
    (λ _. cond_both (bytes_eq (codes "frame") n) _ _ (λ g. is_name_of g n ≡ true) (λ _. refl)
    (λ _. inner_group-named n))))))))))))))))))))))

-- a tag of a token, by its group
pub record IsTiedTag (g : Group) (t : Tag) : Type 0 where
  pub named : group t.name ≡ g
  pub html : is_html t ≡ true

pub name_of : (g : Group) (name : List ℕ) → group name ≡ g → is_name_of g name ≡ true
name_of g name e = subst (λ x. is_name_of x name ≡ true) e (group-named name)

pub any_of : (text : List ℕ) (name : List ℕ) (t : Tag) → is_one_of text name ≡ true → is_html t ≡ true → bytes_eq name t.name ≡ true → is_any text t ≡ true
any_of text name t o h e = and_from (is_html t) (is_one_of text t.name) h (ap (λ x. is_one_of text x) (sym ((bytes_eq-Decides name t.name).0 e)) ∙ o)

-- a name of another group is none of these
pub other_name : (text : List ℕ) (test : Group → Bool) (g : Group) (name : List ℕ) → Each (λ word. test (group word) ≡ true) (words text) → group name ≡ g → test g ≡ false → is_one_of text name ≡ false
other_name text test g name k e n =
    false_from_ne_true (is_one_of text name) (λ y. true≢false (sym (any_word (λ word. test (group word) ≡ true) (words text) name k y) ∙ (ap test e ∙ n)))

abbrev pub is_root_group : Group → Bool
is_root_group the_html = true
is_root_group the_head = true
is_root_group the_body = true
is_root_group a_frameset = true
is_root_group a_template = true
is_root_group _ = false

abbrev pub is_bar_group : Group → Bool
is_bar_group a_cell = true
is_bar_group g = is_root_group g

pub plain_of : (g : Group) (t : Tag) → IsTiedTag g t → is_root_group g ≡ false → IsPlain t
plain_of g t k n =
    and_right (is_html t) _ (other_name (codes "html head body frameset template") is_root_group g t.name (refl, (refl, (refl, (refl, (refl, tt))))) k.named n)

pub free_of : (g : Group) (t : Tag) → IsTiedTag g t → is_bar_group g ≡ false → IsFree t
free_of g t k n =
    (and_right (is_html t) _ (other_name (codes "html head body frameset template td th") is_bar_group g t.name (refl, (refl, (refl, (refl, (refl, (refl, (refl, tt))))))) k.named n), k.html)

-- a test for a name that no element has that stays
pub no_bar_named : (g : Group) (name : List ℕ) → group name ≡ g → is_bar_group g ≡ false → NoBar (is_named name)
no_bar_named g name e n t y =
    false_from_ne_true (is_named name t) (λ x.
    let same = (bytes_eq-Decides name t.name).0 (and_parts (is_html t) (bytes_eq name t.name) x).1 in
    true≢false (sym (and_parts (is_html t) (is_one_of bar_names t.name) y).1
    ∙ (ap (λ z. is_one_of bar_names z) (sym same) ∙ other_name bar_names is_bar_group g name (refl, (refl, (refl, (refl, (refl, (refl, tt)))))) e n)))

abbrev pub is_implied_group : Group → Bool
is_implied_group a_description = true
is_implied_group an_item = true
is_implied_group an_option_group = true
is_implied_group an_option = true
is_implied_group a_paragraph = true
is_implied_group a_ruby_base = true
is_implied_group a_ruby_text = true
is_implied_group _ = false

-- no implied end tag ends an element of the name
pub named_not_implied : (g : Group) (name : List ℕ) (t : Tag) → group name ≡ g → is_implied_group g ≡ false → is_named name t ≡ true → is_implied t ≡ false
named_not_implied g name t e n x =
    and_right (is_html t) (is_among implied_ends t.name)
    (false_from_ne_true (is_among implied_ends t.name) (λ y.
    true≢false (sym (any_word (λ word. is_implied_group (group word) ≡ true) implied_ends t.name (refl, (refl, (refl, (refl, (refl, (refl, (refl, (refl, (refl, (refl, tt)))))))))) y)
    ∙ (ap (λ z. is_implied_group (group z)) (sym ((bytes_eq-Decides name t.name).0 (and_parts (is_html t) (bytes_eq name t.name) x).1)) ∙ (ap is_implied_group e ∙ n)))))
