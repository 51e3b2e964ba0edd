-- Stages that none of some arms takes.
use Rattle.std.proofs.Common.{◌≡◌, ℕ, refl}
use Rattle.tl_html_tokens.specs.Inner.Machine as M
use Rattle.tl_html_tokens.specs.declared.mode.Mode.{Mode}
use Rattle.tl_html_tokens.specs.declared.stage.TokenKind.{TokenKind}
use Rattle.tl_html_tokens.specs.declared.stage.Tag.{Tag}
use Rattle.tl_html_tokens.specs.declared.stage.Quote.{Quote}
use Rattle.tl_html_tokens.specs.declared.stage.Place.{Place}
use Rattle.tl_html_tokens.specs.declared.stage.Stage.{Stage}
use Rattle.tl_html_tokens.specs.declared.stage.Stage.TheVariants as stage

pub in_no_tag : (c : Stage) (b : ℕ) → ((t : Tag) → c ≡ stage.BeforeKey t → ⊥) → ((t : Tag) → c ≡ stage.Key t → ⊥) → ((t : Tag) → c ≡ stage.AfterKey t → ⊥) →
    ((t : Tag) → c ≡ stage.BeforeValue t → ⊥) → ((q : Quote) (t : Tag) → c ≡ stage.Value q t → ⊥) → ((t : Tag) → c ≡ stage.AfterValue t → ⊥) →
    ((t : Tag) → c ≡ stage.SelfClosing t → ⊥) → M.late_turn c b ≡ M.tag_turn c b
in_no_tag (stage.BeforeKey t) b h1 h2 h3 h4 h5 h6 h7 = absurd (h1 t refl)
in_no_tag (stage.Key t) b h1 h2 h3 h4 h5 h6 h7 = absurd (h2 t refl)
in_no_tag (stage.AfterKey t) b h1 h2 h3 h4 h5 h6 h7 = absurd (h3 t refl)
in_no_tag (stage.BeforeValue t) b h1 h2 h3 h4 h5 h6 h7 = absurd (h4 t refl)
in_no_tag (stage.Value q t) b h1 h2 h3 h4 h5 h6 h7 = absurd (h5 q t refl)
in_no_tag (stage.AfterValue t) b h1 h2 h3 h4 h5 h6 h7 = absurd (h6 t refl)
in_no_tag (stage.SelfClosing t) b h1 h2 h3 h4 h5 h6 h7 = absurd (h7 t refl)
in_no_tag _ b h1 h2 h3 h4 h5 h6 h7 = refl

pub in_no_reference : (c : Stage) (b : ℕ) → ((k : TokenKind) (m : Mode) → c ≡ stage.Whole k m → ⊥) → ((p : Place) → c ≡ stage.Reference p → ⊥) →
    ((p : Place) → c ≡ stage.NamedReference p → ⊥) → ((p : Place) → c ≡ stage.NumericReference p → ⊥) → ((p : Place) → c ≡ stage.HexadecimalStart p → ⊥) →
    ((p : Place) → c ≡ stage.DecimalStart p → ⊥) → ((p : Place) → c ≡ stage.Hexadecimal p → ⊥) → ((p : Place) → c ≡ stage.Decimal p → ⊥) →
    (c ≡ stage.TagOpen → ⊥) → (c ≡ stage.EndTagOpen → ⊥) → ((m : Mode) → c ≡ stage.RawLessThan m → ⊥) → ((m : Mode) → c ≡ stage.RawEndTagOpen m → ⊥) →
    M.tag_turn c b ≡ M.plain_turn c b
in_no_reference (stage.Whole k m) b h1 h2 h3 h4 h5 h6 h7 h8 h9 ha hb hc = absurd (h1 k m refl)
in_no_reference (stage.Reference p) b h1 h2 h3 h4 h5 h6 h7 h8 h9 ha hb hc = absurd (h2 p refl)
in_no_reference (stage.NamedReference p) b h1 h2 h3 h4 h5 h6 h7 h8 h9 ha hb hc = absurd (h3 p refl)
in_no_reference (stage.NumericReference p) b h1 h2 h3 h4 h5 h6 h7 h8 h9 ha hb hc = absurd (h4 p refl)
in_no_reference (stage.HexadecimalStart p) b h1 h2 h3 h4 h5 h6 h7 h8 h9 ha hb hc = absurd (h5 p refl)
in_no_reference (stage.DecimalStart p) b h1 h2 h3 h4 h5 h6 h7 h8 h9 ha hb hc = absurd (h6 p refl)
in_no_reference (stage.Hexadecimal p) b h1 h2 h3 h4 h5 h6 h7 h8 h9 ha hb hc = absurd (h7 p refl)
in_no_reference (stage.Decimal p) b h1 h2 h3 h4 h5 h6 h7 h8 h9 ha hb hc = absurd (h8 p refl)
in_no_reference stage.TagOpen b h1 h2 h3 h4 h5 h6 h7 h8 h9 ha hb hc = absurd (h9 refl)
in_no_reference stage.EndTagOpen b h1 h2 h3 h4 h5 h6 h7 h8 h9 ha hb hc = absurd (ha refl)
in_no_reference (stage.RawLessThan m) b h1 h2 h3 h4 h5 h6 h7 h8 h9 ha hb hc = absurd (hb m refl)
in_no_reference (stage.RawEndTagOpen m) b h1 h2 h3 h4 h5 h6 h7 h8 h9 ha hb hc = absurd (hc m refl)
in_no_reference _ b h1 h2 h3 h4 h5 h6 h7 h8 h9 ha hb hc = refl
