use Rattle.std.proofs.Common.{◌≡◌, ℕ, List, ap, sym, ◌∙◌}
use Rattle.std.proofs.lemmas.Slice.Eq.{bytes_eq-Decides}
use Rattle.tl_html_tokens.specs.Characters.{characters_of}
use Rattle.tl_html_tokens.specs.declared.stage.TokenKind.TheVariants as kind
use Rattle.tl_patch_edit.proofs.put.text_part.Goals as goal

pub returns-clause-part : goal.returns-clause-part
returns-clause-part c =
    let form : c.text_form-bytes.result.now ≡ _ = c.text_form-bytes.ensures in
    let same : c.as_bytes.result.now ≡ c.args.text.now = (bytes_eq-Decides c.as_bytes.result.now c.args.text.now).0 (sym c.eq-is_it.ensures ∙ c.if-not-is_it.false) in
    record {
      is = ap (λ (b : List ℕ). record { kind = kind.Text; mode = c.args.mode; bytes = b }) form;
      said = ap (characters_of c.args.mode) (sym form) ∙ sym c.in_ok-said.ensures ∙ sym c.as_bytes.ensures ∙ same;
    }
