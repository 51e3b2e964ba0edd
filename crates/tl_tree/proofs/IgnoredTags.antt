-- Start tags that nothing becomes of.
use Rattle.std.proofs.Common.{ap, codes, cond, not, refl, suc, sym, true, false, zero, ◌∙◌, ◌≡◌, ◌&&◌, ◌||◌, Bool, Some, ℕ}
use Rattle.tl_dom_spec.specs.Body.{body_start}
use Rattle.tl_dom_spec.specs.Builder.{Again, Builder, Done, Mode, Outcome, a_start, adjusted_current_node, in_body, repeated}
use Rattle.tl_dom_spec.specs.Dispatcher.{bound, calm, count_token, dispatch, foreign_step, html_step, is_line_feed, is_svg_start, mode_step, token_done}
use Rattle.tl_dom_spec.specs.Groups.{Group}
use Rattle.tl_dom_spec.specs.Tags.{Tag, is_annotation, is_html, is_html_integration_point, is_text_integration_point}
use Rattle.tl_html_spec.specs.Balanced.{is_one_of}
use Rattle.tl_tree.specs.Inner.Taking.{taken, token_taken}

-- in HTML content, by the rules "in body"
pub ignored-step : (b : Builder) (g : Group) (t : Tag) (closes : Bool) → b.mode ≡ in_body → is_html (adjusted_current_node b) ≡ true → body_start (calm b) g t closes ≡ Done (calm b) → dispatch (a_start g t closes) (calm b) ≡ Done (calm b)
ignored-step b g t closes mode html none =
    let token = a_start g t closes in
    let own = calm b in
    let node = adjusted_current_node b in
    ap (λ (x : Bool). cond (x || is_html_integration_point node || (is_text_integration_point node && not (is_one_of (codes "mglyph malignmark") t.name)) || (is_annotation node && is_svg_start g)) (html_step own token) (foreign_step own token)) html
    ∙ (ap (λ (m : Mode). mode_step m own token) mode ∙ none)

once : (n : ℕ) (step : Builder → Outcome) (b : Builder) → step b ≡ Done b → repeated n step (Again b) ≡ b
once zero step b e = refl
once (suc n) step b e = ap (repeated n step) e ∙ done n
  where
    done : (n : ℕ) → repeated n step (Done b) ≡ b
    done zero = refl
    done (suc n) = refl

either-way : (x : Bool) (a b : Builder) → b ≡ a → cond x a b ≡ a
either-way x a b e =
    elim x as (λ (y : Bool). cond y a b ≡ a) [
      | true ↦ refl
      | false ↦ e
    ]

-- what is left of it is that it came
ignored-taken : (b : Builder) (g : Group) (t : Tag) (closes : Bool) → dispatch (a_start g t closes) (calm b) ≡ Done (calm b) → taken b (a_start g t closes) ≡ calm b
ignored-taken b g t closes none =
    let token = a_start g t closes in
    either-way (b.skips && is_line_feed token) (calm b) (repeated (bound b) (dispatch token) (Again (calm b)))
    (once (bound b) (dispatch token) (calm b) none)

-- any other tag of its group comes to the same
pub ignored-alike : (b : Builder) (g : Group) (t t' : Tag) (closes : Bool) → ((t : Tag) (closes : Bool) → dispatch (a_start g t closes) (calm b) ≡ Done (calm b)) → token_taken b (a_start g t' closes) ≡ token_done b (a_start g t closes)
ignored-alike b g t t' closes none =
    let own : Tag = record t { source = Some b.marks } in
    let behind : Builder → Builder = λ (d : Builder). record (count_token d) { marks = suc b.marks } in
    ap behind (ignored-taken b g t' closes (none t' closes) ∙ sym (ignored-taken b g own closes (none own closes)))
