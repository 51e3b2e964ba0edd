-- A pretty print has the nodes of the trees, but for texts of white space.
use Rattle.std.proofs.Common.{Bool, List, Option, Some, ap, ap₂, false, if◌then◌else◌, refl, sym, true, zero, suc, ℕ, ◌&&◌, ◌*◌, ◌+◌, ◌∙◌, ◌≡◌}
use Rattle.std.specs.Char.{is_ascii_whitespace}
use Rattle.std.specs.List.{list_all}
use Rattle.std.specs.Prelude.{None, min, replicate}
use Rattle.tl_dom_spec.specs.HtmlForest.{HtmlForest, comment, doctype, element, no_trees, text}
use Rattle.tl_dom_spec.specs.Marks.{Marked, unmarked}
use Rattle.tl_dom_spec.specs.Tags.{Tag, is_any}
use Rattle.tl_html_print.proofs.Printing.{if-true}
use Rattle.tl_html_print.specs.Pretty.{after, after_lines, after_text, begins, begins_line, element_stand, ends_line, followed_by, is_opened, is_white, laid, laid_in, laid_out, last, late_names, line, with_line, without_white}
use Rattle.tl_html_print.specs.declared.pretty.spot.Before.{Before}
use Rattle.tl_html_print.specs.declared.pretty.spot.Before.TheVariants.{Begin, Edge}
use Rattle.tl_html_print.specs.declared.pretty.stand.Stand.TheVariants.{Alone, Unseen}

spaces-white : (n : ℕ) → list_all is_ascii_whitespace (replicate n 32) ≡ true
spaces-white zero = refl
spaces-white (suc n) = spaces-white n

-- without what may be white space
kept : Marked (List ℕ) → HtmlForest → HtmlForest
kept own later = if is_white own.said then later else text own later

without-line : (b : Bool) (d : ℕ) (f : HtmlForest) → without_white (with_line b d f) ≡ without_white f
without-line true d f = if-true (is_white (line d)) (without_white f) (text (unmarked (line d)) (without_white f)) (spaces-white (2 * min d 40))
without-line false d f = refl

followed-none : (f : HtmlForest) → followed_by f no_trees ≡ f
followed-none no_trees = refl
followed-none (text own more) = ap (text own) (followed-none more)
followed-none (comment own more) = ap (comment own) (followed-none more)
followed-none (doctype own more) = ap (doctype own) (followed-none more)
followed-none (element tag below more) = ap (element tag below) (followed-none more)

either-followed : (w : Bool) (own : Marked (List ℕ)) (f g : HtmlForest) → (if w then followed_by f g else text own (followed_by f g)) ≡ followed_by (if w then f else text own f) g
either-followed true own f g = refl
either-followed false own f g = refl

without-followed : (f g : HtmlForest) → without_white (followed_by f g) ≡ followed_by (without_white f) (without_white g)
without-followed no_trees g = refl
without-followed (text own more) g =
    ap (λ x. if is_white own.said then x else text own x) (without-followed more g)
    ∙ either-followed (is_white own.said) own (without_white more) (without_white g)
without-followed (comment own more) g = ap (comment own) (without-followed more g)
without-followed (doctype own more) g = ap (doctype own) (without-followed more g)
without-followed (element tag below more) g = ap (element tag (without_white below)) (without-followed more g)

either-text : (w g : Bool) (own : Marked (List ℕ)) (laid_more more : HtmlForest) → is_white own.said ≡ w → without_white laid_more ≡ without_white more →
    without_white (if w && g then laid_more else text own laid_more) ≡ without_white (text own more)
either-text true true own laid_more more white e = e ∙ sym (if-true (is_white own.said) (without_white more) (text own (without_white more)) white)
either-text true false own laid_more more white e = ap (λ x. if is_white own.said then x else text own x) e
either-text false g own laid_more more white e = ap (λ x. if is_white own.said then x else text own x) e

inside-same : (o b : Bool) (d : ℕ) (below laid_below : HtmlForest) → without_white laid_below ≡ without_white below →
    without_white (if o then followed_by laid_below (with_line b d no_trees) else below) ≡ without_white below
inside-same true b d below laid_below e =
    without-followed laid_below (with_line b d no_trees)
    ∙ ap₂ followed_by e (without-line b d no_trees)
    ∙ followed-none (without_white below)
inside-same false b d below laid_below e = refl

without-laid : (f : HtmlForest) (d : ℕ) (h : Option Tag) (b : Before) → without_white (laid d h b f) ≡ without_white f
without-laid no_trees d h b = refl
without-laid (text own more) d h b =
    either-text (is_white own.said) (begins h b more) own (laid d h (after_text b own.said) more) more refl (without-laid more d h (after_text b own.said))
without-laid (comment own more) d h b =
    without-line (begins_line b Unseen) d (comment own (laid d h (after b Unseen) more))
    ∙ ap (comment own) (without-laid more d h (after b Unseen))
without-laid (doctype own more) d h b =
    without-line (begins_line b Alone) d (doctype own (laid d h (after b Alone) more))
    ∙ ap (doctype own) (without-laid more d h (after b Alone))
without-laid (element tag below more) d h b =
    let own = if is_opened tag below then after_lines (is_any late_names tag) (last (Some tag) Edge below) else after b (element_stand h tag) in
    let inner = laid (d + 1) (Some tag) Edge below in
    without-line (begins_line b (element_stand h tag)) d (element tag (laid_in d tag below inner) (laid d h own more))
    ∙ ap₂ (element tag)
    (inside-same (is_opened tag below) (ends_line (last (Some tag) Edge below)) d below inner (without-laid below (d + 1) (Some tag) Edge))
    (without-laid more d h own)

pub same_nodes : (trees : HtmlForest) → without_white (laid_out trees) ≡ without_white trees
same_nodes trees =
    let ends = ends_line (last None Begin trees) in
    without-followed (laid 0 None Begin trees) (with_line ends 0 no_trees)
    ∙ ap₂ followed_by (without-laid trees 0 None Begin) (without-line ends 0 no_trees)
    ∙ followed-none (without_white trees)
