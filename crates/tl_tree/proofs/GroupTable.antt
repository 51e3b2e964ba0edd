-- What is none of the names of elements is of no group.
use Rattle.std.proofs.Common.{◌≡◌, ◌∙◌, ℕ, Bool, false, List, [], codes, refl, if◌then◌else◌}
use Rattle.std.proofs.lemmas.Bool.{cond-false}
use Rattle.tl_names.specs.ElementNames.{element_names}
use Rattle.tl_names.specs.Elements.{headings, is_among, table_sections}
use Rattle.tl_html_spec.specs.Balanced.{words}
use Rattle.tl_dom_spec.specs.Groups.{Group, any_other, block_names, format_names, group, head_group, inner_group}
use Rattle.tl_names.proofs.ElementNames.{not_any, not_one}

past : (b : Bool) (x y z : Group) → b ≡ false → y ≡ z → (if b then x else y) ≡ z
past b x y z h e = cond-false b x y h ∙ e

head_group_outside : (n : List ℕ) → is_among element_names n ≡ false → head_group n ≡ any_other
unfolding element_names
head_group_outside n o =
    past _ _ _ any_other (not_one (codes "base") n refl o) (
    past _ _ _ any_other (not_any (words (codes "basefont bgsound link meta")) n refl o) (
    past _ _ _ any_other (not_one (codes "title") n refl o) (
    past _ _ _ any_other (not_one (codes "noframes") n refl o) (
    past _ _ _ any_other (not_one (codes "style") n refl o) (
    past _ _ _ any_other (not_one (codes "noscript") n refl o) (
    past _ _ _ any_other (not_one (codes "script") n refl o) (
    past _ _ _ any_other (not_one (codes "template") n refl o) (
    past _ _ _ any_other (not_one (codes "textarea") n refl o) (
    past _ _ _ any_other (not_one (codes "xmp") n refl o) (
    past _ _ _ any_other (not_one (codes "iframe") n refl o) (
    past _ _ _ any_other (not_one (codes "noembed") n refl o) (
    past _ _ _ any_other (not_one (codes "plaintext") n refl o) (
    refl)))))))))))))

inner_group_outside : (n : List ℕ) → is_among element_names n ≡ false → inner_group n ≡ any_other
unfolding element_names
inner_group_outside n o =
    past _ _ _ any_other (not_one (codes "button") n refl o) (
    past _ _ _ any_other (not_one (codes "nobr") n refl o) (
    past _ _ _ any_other (not_any (words (codes "applet marquee object")) n refl o) (
    past _ _ _ any_other (not_one (codes "br") n refl o) (
    past _ _ _ any_other (not_any (words (codes "area embed img keygen wbr")) n refl o) (
    past _ _ _ any_other (not_one (codes "image") n refl o) (
    past _ _ _ any_other (not_one (codes "input") n refl o) (
    past _ _ _ any_other (not_any (words (codes "param source track")) n refl o) (
    past _ _ _ any_other (not_one (codes "select") n refl o) (
    past _ _ _ any_other (not_one (codes "option") n refl o) (
    past _ _ _ any_other (not_one (codes "optgroup") n refl o) (
    past _ _ _ any_other (not_any (words (codes "rb rtc")) n refl o) (
    past _ _ _ any_other (not_any (words (codes "rp rt")) n refl o) (
    past _ _ _ any_other (not_one (codes "math") n refl o) (
    past _ _ _ any_other (not_one (codes "svg") n refl o) (
    head_group_outside n o)))))))))))))))

group_outside : (n : List ℕ) → is_among element_names n ≡ false → group n ≡ any_other
unfolding element_names
group_outside n o =
    past _ _ _ any_other (not_one (codes "html") n refl o) (
    past _ _ _ any_other (not_one (codes "head") n refl o) (
    past _ _ _ any_other (not_one (codes "body") n refl o) (
    past _ _ _ any_other (not_one (codes "p") n refl o) (
    past _ _ _ any_other (not_one (codes "a") n refl o) (
    past _ _ _ any_other (not_any (words format_names) n refl o) (
    past _ _ _ any_other (not_one (codes "table") n refl o) (
    past _ _ _ any_other (not_one (codes "caption") n refl o) (
    past _ _ _ any_other (not_one (codes "colgroup") n refl o) (
    past _ _ _ any_other (not_one (codes "col") n refl o) (
    past _ _ _ any_other (not_any table_sections n refl o) (
    past _ _ _ any_other (not_one (codes "tr") n refl o) (
    past _ _ _ any_other (not_any (words (codes "td th")) n refl o) (
    past _ _ _ any_other (not_any (words block_names) n refl o) (
    past _ _ _ any_other (not_any headings n refl o) (
    past _ _ _ any_other (not_any (words (codes "pre listing")) n refl o) (
    past _ _ _ any_other (not_one (codes "form") n refl o) (
    past _ _ _ any_other (not_one (codes "li") n refl o) (
    past _ _ _ any_other (not_any (words (codes "dd dt")) n refl o) (
    past _ _ _ any_other (not_one (codes "hr") n refl o) (
    past _ _ _ any_other (not_one (codes "frameset") n refl o) (
    past _ _ _ any_other (not_one (codes "frame") n refl o) (
    inner_group_outside n o))))))))))))))))))))))

pub outside : (n : List ℕ) → is_among element_names n ≡ false → group n ≡ group []
outside n o = group_outside n o
