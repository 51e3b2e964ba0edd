use Rattle.std.proofs.Common.{◌≡◌, ◌<◌, ◌+◌, ◌==◌, ◌&&◌, ◌∙◌, ℕ, Bool, List, ap, arith, drop, drop-drop, get_or, inl, inr, length, length-drop, not, sym, true}
use Rattle.std.proofs.lemmas.Bool.{and_parts, eqb-true, or_cases}
use Rattle.std.proofs.lemmas.List.{drop_more}
use Rattle.tl_html_tokens.specs.Inner.InTag.{IsInTag}
use Rattle.tl_html_tokens.proofs.InTag.{solidus_on, space_on}
use Rattle.tl_html_parts.specs.Bytes.{is_space}
use Rattle.tl_html_parts.specs.Inner.Tail.{begins_blank, begins_with}
use Rattle.tl_html_parts.specs.Rest.{tail_tokens}
use Rattle.tl_html_parts.proofs.Attributes.{blank-read, blank_some}
use Rattle.tl_html_parts.proofs.tail.after_blank.Goals as goal

blank_on : (t : List ℕ) (start at : ℕ) (e : Bool) → begins_blank (drop at t) ≡ true → at < length t → IsInTag t start at e → IsInTag t start (at + 1) e
blank_on t start at e blank l h =
    let b : ℕ = get_or t at 0 in
    elim (or_cases (is_space b) ((b == 47) && not (begins_with 62 (drop (at + 1) t))) (sym (ap begins_blank (drop_more t at 0 l)) ∙ blank)) [
      | inl y ↦ space_on t start at e h l y
      | inr y ↦ solidus_on t start at e h l (eqb-true b 47 (and_parts (b == 47) _ y).0)
    ]

pub loop-at-preserved : goal.loop-at-preserved
loop-at-preserved c =
    let t : List ℕ = c.args.text.now in
    let at : ℕ = c.loop-at.at in
    let own = c.loop-at.invariant in
    let blank = sym c.is_blank_at.ensures ∙ c.loop-at-test.true in
    let some = blank_some (drop at t) blank in
    let left = length-drop at t in
    let order = own.order in
    record {
      tokens = λ tag. own.tokens tag ∙ blank-read tag (drop at t) blank ∙ ap (tail_tokens tag) (drop-drop 1 at t);
      tag = λ start e h. blank_on t start at e blank (omega arith) (own.tag start e h);
      order = omega arith;
      within = omega arith;
    }
