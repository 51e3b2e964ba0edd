use Rattle.std.proofs.Common.{Bool, List, ap, ap₂, codes, sym, ◌&&◌, ◌∙◌, ◌||◌, ℕ}
use Rattle.std.proofs.Math.Bool.{or-false}
use Rattle.std.specs.Str.{bytes_eq}
use Rattle.tl_html_spec.specs.Balanced.{is_one_of}
use Rattle.tl_html_print.proofs.Listed.{literal-listed}
use Rattle.tl_html_print.proofs.names.is_literal_name.Goals as goal

-- what a list and a name say of a name
abbrev either : Bool → List ℕ → Bool → Bool
either is_scripting name listed = listed || (is_scripting && is_one_of (codes "noscript") name)

pub returns-then-is_of : goal.returns-then-is_of
returns-then-is_of c =
    let name = c.args.name.now in
    let s = c.args.is_scripting in
    c.if-is_of.true ∙ ap (either s name) (sym c.if-is_of.true ∙ c.is_of.ensures ∙ literal-listed name)

pub returns-then-is_scripting : goal.returns-then-is_scripting
returns-then-is_scripting c =
    let name = c.args.name.now in
    let s = c.args.is_scripting in
    c.eq.ensures
    ∙ ap (λ (own : List ℕ). bytes_eq name own) c.as_slice.ensures
    ∙ sym (or-false (bytes_eq name (codes "noscript")))
    ∙ ap₂ (λ a b. a || (b && is_one_of (codes "noscript") name)) (sym c.if-is_of.false ∙ c.is_of.ensures ∙ literal-listed name) (sym c.if-is_scripting.true)

pub returns-else-is_scripting : goal.returns-else-is_scripting
returns-else-is_scripting c =
    let name = c.args.name.now in
    c.if-is_scripting.false
    ∙ ap₂ (λ a b. a || (b && is_one_of (codes "noscript") name)) (sym c.if-is_of.false ∙ c.is_of.ensures ∙ literal-listed name) (sym c.if-is_scripting.false)
