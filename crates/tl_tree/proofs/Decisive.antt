-- Elements that decide no insertion mode: the stack is asked for it further out.
use Rattle.std.proofs.Common.{IsTrue, List, None, [], ap, arith, cond, false, length, refl, subst, suc, sym, take, true, zero, ℕ, Bool, ◌&&◌, ◌≤◌, ◌||◌, ◌∙◌, ◌∷◌, ◌≡◌}
use Rattle.std.proofs.lemmas.Bool.{and_parts, false≢true}
use Rattle.std.proofs.lemmas.Slice.Eq.{bytes_eq-Decides}
use Rattle.std.specs.List.{list_all, list_any}
use Rattle.std.specs.Prelude.{codes}
use Rattle.std.specs.Str.{bytes_eq}
use Rattle.tl_dom_spec.specs.Builder as dom
use Rattle.tl_dom_spec.specs.Groups as G
use Rattle.tl_dom_spec.specs.Path.{elements}
use Rattle.tl_dom_spec.specs.Reset as reset
use Rattle.tl_dom_spec.specs.Tags.{Tag, is_html}
use Rattle.tl_html_spec.specs.Balanced.{is_one_of, words}
use Rattle.tl_names.specs.Elements.{headings, is_among, table_sections}
use Rattle.tl_tree.proofs.Begun.{same-from}
use Rattle.tl_tree.proofs.Resets.{mode-all, mode-past}
use Rattle.tl_tree.proofs.Skipped.{none-at}
use Rattle.tl_tree.specs.Inner.Adopted.{frame_at}
use Rattle.tl_tree.specs.Inner.Builders.{builder_of}
use Rattle.tl_tree.specs.Inner.Limits.{is_of_kind, none_from}
use Rattle.tl_tree.specs.Inner.Resets.{is_open, mode_from}
use Rattle.tl_tree.specs.Inner.Roles.{is_decisive}
use Rattle.tl_tree.specs.declared.builder.Builder.{Builder}
use Rattle.tl_tree.specs.declared.role.Kind.TheVariants as kinds

-- Names

abbrev decisive : List (List ℕ)
decisive =
    words (codes "td th tr tbody thead tfoot caption colgroup table template head body frameset html")

no-word : (x n : List ℕ) → is_among decisive x ≡ true → is_among decisive n ≡ false → bytes_eq x n ≡ false
no-word x n there none = by-name (bytes_eq x n) refl
  where
    by-name : (b : Bool) → bytes_eq x n ≡ b → b ≡ false
    by-name true e =
        absurd (false≢true (sym none ∙ subst (λ name. is_among decisive name ≡ true) ((bytes_eq-Decides x n).0 e) there))
    by-name false e = refl

no-words : (xs : List (List ℕ)) (n : List ℕ) → list_all (is_among decisive) xs ≡ true → is_among decisive n ≡ false → list_any (bytes_eq n) xs ≡ false
no-words [] n there none = refl
no-words (x ∷ xs) n there none =
    let p = and_parts (is_among decisive x) (list_all (is_among decisive) xs) there in
    ap (λ b. b || list_any (bytes_eq n) xs) (by-name (bytes_eq n x) refl p.0) ∙ no-words xs n p.1 none
  where
    by-name : (b : Bool) → bytes_eq n x ≡ b → is_among decisive x ≡ true → b ≡ false
    by-name true e own =
        absurd (false≢true (sym none ∙ subst (λ name. is_among decisive name ≡ true) (sym ((bytes_eq-Decides n x).0 e)) own))
    by-name false e own = refl

-- Groups

abbrev Undecided : dom.Builder → G.Group → Type 0
Undecided d g = reset.mode_at d false g ≡ None

past : (d : dom.Builder) (b : Bool) (x y : G.Group) → b ≡ false → Undecided d y → Undecided d (cond b x y)
past d b x y none rest = ap (λ own. reset.mode_at d false (cond own x y)) none ∙ rest

either : (d : dom.Builder) (b : Bool) (x y : G.Group) → Undecided d x → Undecided d y → Undecided d (cond b x y)
either d true x y own rest = own
either d false x y own rest = rest

head-undecided : (d : dom.Builder) (n : List ℕ) → is_among decisive n ≡ false → Undecided d (G.head_group n)
head-undecided d n o =
    either d (bytes_eq (codes "base") n) G.a_base _ refl (
    either d (is_one_of (codes "basefont bgsound link meta") n) G.a_link _ refl (
    either d (bytes_eq (codes "title") n) G.a_title _ refl (
    either d (bytes_eq (codes "noframes") n) G.a_noframes _ refl (
    either d (bytes_eq (codes "style") n) G.a_style _ refl (
    either d (bytes_eq (codes "noscript") n) G.a_noscript _ refl (
    either d (bytes_eq (codes "script") n) G.a_script _ refl (
    past d (bytes_eq (codes "template") n) G.a_template _ (no-word (codes "template") n refl o) (
    either d (bytes_eq (codes "textarea") n) G.a_textarea _ refl (
    either d (bytes_eq (codes "xmp") n) G.an_example _ refl (
    either d (bytes_eq (codes "iframe") n) G.an_iframe _ refl (
    either d (bytes_eq (codes "noembed") n) G.a_noembed _ refl (
    either d (bytes_eq (codes "plaintext") n) G.a_plaintext _ refl (
    refl)))))))))))))

inner-undecided : (d : dom.Builder) (n : List ℕ) → is_among decisive n ≡ false → Undecided d (G.inner_group n)
inner-undecided d n o =
    either d (bytes_eq (codes "button") n) G.a_button _ refl (
    either d (bytes_eq (codes "nobr") n) G.a_nobr _ refl (
    either d (is_one_of (codes "applet marquee object") n) G.a_mark _ refl (
    either d (bytes_eq (codes "br") n) G.a_break _ refl (
    either d (is_one_of (codes "area embed img keygen wbr") n) G.a_void _ refl (
    either d (bytes_eq (codes "image") n) G.an_image _ refl (
    either d (bytes_eq (codes "input") n) G.an_input _ refl (
    either d (is_one_of (codes "param source track") n) G.a_detail _ refl (
    either d (bytes_eq (codes "select") n) G.a_select _ refl (
    either d (bytes_eq (codes "option") n) G.an_option _ refl (
    either d (bytes_eq (codes "optgroup") n) G.an_option_group _ refl (
    either d (is_one_of (codes "rb rtc") n) G.a_ruby_base _ refl (
    either d (is_one_of (codes "rp rt") n) G.a_ruby_text _ refl (
    either d (bytes_eq (codes "math") n) G.a_math _ refl (
    either d (bytes_eq (codes "svg") n) G.an_svg _ refl (
    head-undecided d n o)))))))))))))))

group-undecided : (d : dom.Builder) (n : List ℕ) → is_among decisive n ≡ false → Undecided d (G.group n)
group-undecided d n o =
    past d (bytes_eq (codes "html") n) G.the_html _ (no-word (codes "html") n refl o) (
    past d (bytes_eq (codes "head") n) G.the_head _ (no-word (codes "head") n refl o) (
    past d (bytes_eq (codes "body") n) G.the_body _ (no-word (codes "body") n refl o) (
    either d (bytes_eq (codes "p") n) G.a_paragraph _ refl (
    either d (bytes_eq (codes "a") n) G.an_anchor _ refl (
    either d (is_one_of G.format_names n) G.a_format _ refl (
    past d (bytes_eq (codes "table") n) G.a_table _ (no-word (codes "table") n refl o) (
    past d (bytes_eq (codes "caption") n) G.a_caption _ (no-word (codes "caption") n refl o) (
    past d (bytes_eq (codes "colgroup") n) G.a_column_group _ (no-word (codes "colgroup") n refl o) (
    either d (bytes_eq (codes "col") n) G.a_column _ refl (
    past d (is_among table_sections n) G.a_table_body _ (no-words table_sections n refl o) (
    past d (bytes_eq (codes "tr") n) G.a_row _ (no-word (codes "tr") n refl o) (
    past d (is_one_of (codes "td th") n) G.a_cell _ (no-words (words (codes "td th")) n refl o) (
    either d (is_one_of G.block_names n) G.a_block _ refl (
    either d (is_among headings n) G.a_heading _ refl (
    either d (is_one_of (codes "pre listing") n) G.a_preformatted _ refl (
    either d (bytes_eq (codes "form") n) G.a_form _ refl (
    either d (bytes_eq (codes "li") n) G.an_item _ refl (
    either d (is_one_of (codes "dd dt") n) G.a_description _ refl (
    either d (bytes_eq (codes "hr") n) G.a_rule _ refl (
    past d (bytes_eq (codes "frameset") n) G.a_frameset _ (no-word (codes "frameset") n refl o) (
    either d (bytes_eq (codes "frame") n) G.a_frame _ refl (
    inner-undecided d n o))))))))))))))))))))))

tag-undecided : (d : dom.Builder) (t : Tag) → is_decisive t ≡ false → reset.tag_mode d false t ≡ None
tag-undecided d t h = by-space (is_html t) (is_among decisive t.name) refl h
  where
    by-space : (html own : Bool) → is_among decisive t.name ≡ own → (html && own) ≡ false → cond html (reset.mode_at d false (G.group t.name)) None ≡ None
    by-space false own e none = refl
    by-space true own e none = group-undecided d t.name (e ∙ none)

-- Where the stack begins to decide

either-longer : (b x y : Bool) → (x ≡ true → y ≡ true) → (b || x) ≡ true → (b || y) ≡ true
either-longer true x y w h = refl
either-longer false x y w h = w h

any-longer : {A : Type 0} (test : A → Bool) (n m : ℕ) (xs : List A) → n ≤ m → list_any test (take n xs) ≡ true → list_any test (take m xs) ≡ true
any-longer test zero m xs le h = absurd (false≢true h)
any-longer test (suc n) zero xs le h = absurd (omega arith)
any-longer test (suc n) (suc m) [] le h = h
any-longer test (suc n) (suc m) (x ∷ xs) le h =
    either-longer (test x) (list_any test (take n xs)) (list_any test (take m xs)) (any-longer test n m xs (omega arith)) h

-- where an element stands further out than all that are gone past, none of those is the last one
pub mode-begun : (b : Builder) (n : ℕ) → n ≤ length b.path.frames.items → IsTrue (none_from (is_of_kind kinds.Decisive) b.path n) → list_any is_open (take n b.path.frames.items) ≡ true → reset.mode_of (builder_of b) (elements (builder_of b).path) ≡ mode_from b n
mode-begun b n le none outer =
    let end = length b.path.frames.items in
    mode-all b end refl
    ∙ same-from (mode_from b) n end le
    (λ i least below.
    mode-past b i below (any-longer is_open n i b.path.frames.items least outer)
    (tag-undecided (builder_of b) (frame_at b.path i).tag (none-at (is_of_kind kinds.Decisive) b.path n i none least below)))
