-- Of a plain name neither foreign content nor raw text begins.
use Rattle.std.proofs.Common.{Bool, List, ap, codes, false, refl, subst, sym, true, true≢false, ℕ, ◌&&◌, ◌||◌, ◌∙◌, ◌≡◌, if◌then◌else◌}
use Rattle.std.specs.Str.{bytes_eq}
use Rattle.std.proofs.lemmas.Bool.{cond_both, false_from_ne_true, not-true, or_parts}
use Rattle.std.proofs.lemmas.Slice.Eq.{bytes_eq-Decides}
use Rattle.tl_names.specs.Elements.{headings, is_among, rawtext_names, rcdata_names, table_sections}
use Rattle.tl_html_spec.specs.Balanced.{is_one_of}
use Rattle.tl_html_spec.specs.HtmlTokenizer.{after_start, data_state}
use Rattle.tl_dom_spec.specs.Tags.{bare_tag}
use Rattle.tl_dom_spec.specs.Groups.{Group, block_names, format_names, group, head_group, inner_group}
use Rattle.tl_dom_spec.specs.Builder.{Flags, state_inside}
use Rattle.tl_dom_spec.specs.Dispatcher.{is_svg_start}
use Rattle.tl_dom_spec.specs.HtmlTree.{is_raw_in}
use Rattle.tl_dom_spec.specs.Lawful.{is_plain_name}
use Rattle.tl_dom_spec.proofs.HeadRules.{is_math_start, is_noscript}

-- what a plain name is not
record Plain (flags : Flags) (name : List ℕ) : Type 0 where
  math : bytes_eq name (codes "math") ≡ false
  svg : bytes_eq name (codes "svg") ≡ false
  rcdata : is_among rcdata_names name ≡ false
  rawtext : is_among rawtext_names name ≡ false
  script : bytes_eq name (codes "script") ≡ false
  plaintext : bytes_eq name (codes "plaintext") ≡ false
  noscript : flags.is_scripting ≡ true → bytes_eq name (codes "noscript") ≡ false

plain_parts : (flags : Flags) (name : List ℕ) → is_plain_name flags name ≡ true → Plain flags name
plain_parts flags name e =
    let texts = or_parts (is_one_of (codes "math svg") name || is_among rcdata_names name) (is_raw_in flags (bare_tag name)) (not-true _ e) in
    let outer = or_parts (is_one_of (codes "math svg") name) (is_among rcdata_names name) texts.0 in
    let foreign = or_parts (bytes_eq name (codes "math")) (bytes_eq name (codes "svg") || false) outer.0 in
    let others = or_parts (is_among rawtext_names name || is_one_of (codes "script plaintext") name) (flags.is_scripting && is_one_of (codes "noscript") name) texts.1 in
    let raws = or_parts (is_among rawtext_names name) (is_one_of (codes "script plaintext") name) others.0 in
    let scripts = or_parts (bytes_eq name (codes "script")) (bytes_eq name (codes "plaintext") || false) raws.1 in
    record {
      math = foreign.0;
      svg = (or_parts (bytes_eq name (codes "svg")) false foreign.1).0;
      rcdata = outer.1;
      rawtext = raws.0;
      script = scripts.0;
      plaintext = (or_parts (bytes_eq name (codes "plaintext")) false scripts.1).0;
      noscript = λ on. let none : is_one_of (codes "noscript") name ≡ false = sym (ap (λ v. v && is_one_of (codes "noscript") name) on) ∙ others.1 in
          (or_parts (bytes_eq name (codes "noscript")) false none).0;
    }

-- a test of names, the other way around
turned : (name word : List ℕ) → bytes_eq name word ≡ false → bytes_eq word name ≡ false
turned name word e =
    false_from_ne_true (bytes_eq word name)
    (λ y. absurd (true≢false (sym ((bytes_eq-Decides name word).1 (sym ((bytes_eq-Decides word name).0 y))) ∙ e)))

-- the state that such a name sets is the data state

pub plain_after : (flags : Flags) (name : List ℕ) → is_plain_name flags name ≡ true → after_start name ≡ data_state
plain_after flags name e = let own = plain_parts flags name e in rw (own.rcdata, own.rawtext, own.script, own.plaintext) refl

inside_other : (flags : Flags) (name : List ℕ) → is_plain_name flags name ≡ true → bytes_eq (codes "noscript") name ≡ false → state_inside name ≡ data_state
inside_other flags name e n = rw n (plain_after flags name e)

pub plain_inside : (flags : Flags) (name : List ℕ) → is_plain_name flags name ≡ true → is_noscript (group name) ≡ false → state_inside name ≡ data_state
plain_inside flags name e g =
    inside_other flags name e
    (false_from_ne_true (bytes_eq (codes "noscript") name)
    (λ y. true≢false (sym (subst (λ x. is_noscript (group x) ≡ true) ((bytes_eq-Decides (codes "noscript") name).0 y) refl) ∙ g)))

pub plain_scripted : (flags : Flags) (name : List ℕ) → is_plain_name flags name ≡ true → flags.is_scripting ≡ true → state_inside name ≡ data_state
plain_scripted flags name e on = inside_other flags name e (turned name (codes "noscript") ((plain_parts flags name e).noscript on))

-- its group is neither that of `math` nor that of `svg`

record AtHome (g : Group) : Type 0 where
  math : is_math_start g ≡ false
  svg : is_svg_start g ≡ false

skip : (c : Bool) {g h : Group} → AtHome g → AtHome h → AtHome (if c then g else h)
skip c {g} {h} own more = cond_both c g h AtHome (λ _. own) (λ _. more)

head_home : (n : List ℕ) → AtHome (head_group n)
head_home n =
    skip (bytes_eq (codes "base") n) (record { math = refl; svg = refl }) (
    skip (is_one_of (codes "basefont bgsound link meta") n) (record { math = refl; svg = refl }) (
    skip (bytes_eq (codes "title") n) (record { math = refl; svg = refl }) (
    skip (bytes_eq (codes "noframes") n) (record { math = refl; svg = refl }) (
    skip (bytes_eq (codes "style") n) (record { math = refl; svg = refl }) (
    skip (bytes_eq (codes "noscript") n) (record { math = refl; svg = refl }) (
    skip (bytes_eq (codes "script") n) (record { math = refl; svg = refl }) (
    skip (bytes_eq (codes "template") n) (record { math = refl; svg = refl }) (
    skip (bytes_eq (codes "textarea") n) (record { math = refl; svg = refl }) (
    skip (bytes_eq (codes "xmp") n) (record { math = refl; svg = refl }) (
    skip (bytes_eq (codes "iframe") n) (record { math = refl; svg = refl }) (
    skip (bytes_eq (codes "noembed") n) (record { math = refl; svg = refl }) (
    skip (bytes_eq (codes "plaintext") n) (record { math = refl; svg = refl }) (
    record { math = refl; svg = refl })))))))))))))

inner_home : (n : List ℕ) → bytes_eq (codes "math") n ≡ false → bytes_eq (codes "svg") n ≡ false → AtHome (inner_group n)
inner_home n m s =
    skip (bytes_eq (codes "button") n) (record { math = refl; svg = refl }) (
    skip (bytes_eq (codes "nobr") n) (record { math = refl; svg = refl }) (
    skip (is_one_of (codes "applet marquee object") n) (record { math = refl; svg = refl }) (
    skip (bytes_eq (codes "br") n) (record { math = refl; svg = refl }) (
    skip (is_one_of (codes "area embed img keygen wbr") n) (record { math = refl; svg = refl }) (
    skip (bytes_eq (codes "image") n) (record { math = refl; svg = refl }) (
    skip (bytes_eq (codes "input") n) (record { math = refl; svg = refl }) (
    skip (is_one_of (codes "param source track") n) (record { math = refl; svg = refl }) (
    skip (bytes_eq (codes "select") n) (record { math = refl; svg = refl }) (
    skip (bytes_eq (codes "option") n) (record { math = refl; svg = refl }) (
    skip (bytes_eq (codes "optgroup") n) (record { math = refl; svg = refl }) (
    skip (is_one_of (codes "rb rtc") n) (record { math = refl; svg = refl }) (
    skip (is_one_of (codes "rp rt") n) (record { math = refl; svg = refl }) (
    cond_both (bytes_eq (codes "math") n) _ _ AtHome (λ y. absurd (true≢false (sym y ∙ m))) (λ _.
    cond_both (bytes_eq (codes "svg") n) _ _ AtHome (λ y. absurd (true≢false (sym y ∙ s))) (λ _.
    head_home n)))))))))))))))

group_home : (n : List ℕ) → bytes_eq (codes "math") n ≡ false → bytes_eq (codes "svg") n ≡ false → AtHome (group n)
group_home n m s =
    skip (bytes_eq (codes "html") n) (record { math = refl; svg = refl }) (
    skip (bytes_eq (codes "head") n) (record { math = refl; svg = refl }) (
    skip (bytes_eq (codes "body") n) (record { math = refl; svg = refl }) (
    skip (bytes_eq (codes "p") n) (record { math = refl; svg = refl }) (
    skip (bytes_eq (codes "a") n) (record { math = refl; svg = refl }) (
    skip (is_one_of format_names n) (record { math = refl; svg = refl }) (
    skip (bytes_eq (codes "table") n) (record { math = refl; svg = refl }) (
    skip (bytes_eq (codes "caption") n) (record { math = refl; svg = refl }) (
    skip (bytes_eq (codes "colgroup") n) (record { math = refl; svg = refl }) (
    skip (bytes_eq (codes "col") n) (record { math = refl; svg = refl }) (
    skip (is_among table_sections n) (record { math = refl; svg = refl }) (
    skip (bytes_eq (codes "tr") n) (record { math = refl; svg = refl }) (
    skip (is_one_of (codes "td th") n) (record { math = refl; svg = refl }) (
    skip (is_one_of block_names n) (record { math = refl; svg = refl }) (
    skip (is_among headings n) (record { math = refl; svg = refl }) (
    skip (is_one_of (codes "pre listing") n) (record { math = refl; svg = refl }) (
    skip (bytes_eq (codes "form") n) (record { math = refl; svg = refl }) (
    skip (bytes_eq (codes "li") n) (record { math = refl; svg = refl }) (
    skip (is_one_of (codes "dd dt") n) (record { math = refl; svg = refl }) (
    skip (bytes_eq (codes "hr") n) (record { math = refl; svg = refl }) (
    skip (bytes_eq (codes "frameset") n) (record { math = refl; svg = refl }) (
    skip (bytes_eq (codes "frame") n) (record { math = refl; svg = refl }) (
    inner_home n m s))))))))))))))))))))))

plain_home : (flags : Flags) (name : List ℕ) → is_plain_name flags name ≡ true → AtHome (group name)
plain_home flags name e =
    let own = plain_parts flags name e in
    group_home name (turned name (codes "math") own.math) (turned name (codes "svg") own.svg)

pub plain_no_math : (flags : Flags) (name : List ℕ) → is_plain_name flags name ≡ true → is_math_start (group name) ≡ false
plain_no_math flags name e = (plain_home flags name e).math

pub plain_no_svg : (flags : Flags) (name : List ℕ) → is_plain_name flags name ≡ true → is_svg_start (group name) ≡ false
plain_no_svg flags name e = (plain_home flags name e).svg
