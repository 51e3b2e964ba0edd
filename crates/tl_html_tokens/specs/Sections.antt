-- CDATA sections, which begin where the driver says that it is foreign (13.2.5.69 to .71).
use Rattle.std.specs.Prelude.{◌≡◌, ℕ, suc, ◌+◌, ◌-◌, Bool, true, List, [], ◌∷◌, codes, drop, take, ◌==◌, if◌then◌else◌}
use Rattle.std.specs.List.{starts_with}
use Rattle.tl_html_spec.specs.HtmlTokenizer.{data_state, with_feeds}
use Rattle.tl_html_spec.specs.Driven.{Driver, characters, driven, in_state, taken}
use Rattle.tl_html_tokens.specs.Driving.{begins_section}
use Rattle.tl_html_tokens.specs.declared.section.Section.{Section}

abbrev pub ends_section : List ℕ → Bool
ends_section text = starts_with ◌==◌ text (codes "]]>")

-- how many bytes stand in a section, which the end of the page ends too
abbrev pub section_len : List ℕ → ℕ
section_len [] = 0
section_len (b ∷ text) = if ends_section (b ∷ text) then 0 else suc (section_len text)

-- and up to behind its end
abbrev pub section_past : List ℕ → ℕ
section_past [] = 0
section_past (b ∷ text) = if ends_section (b ∷ text) then 3 else suc (section_past text)

-- `<![CDATA[`
abbrev pub begin_len : ℕ
begin_len = 9

pub record IsSection (page : List ℕ) (start : ℕ) (section : Section) : Type 0 where
  pub begins : begins_section (drop start page) ≡ true
  pub text_end : section.text_end ≡ start + begin_len + section_len (drop (start + begin_len) page)
  pub end : section.end ≡ start + begin_len + section_past (drop (start + begin_len) page)

-- the bytes in a section, in which a NUL stays
abbrev pub section_text : List ℕ → ℕ → Section → List ℕ
section_text page start section =
    take (section.text_end - (start + begin_len)) (drop (start + begin_len) page)

-- the driver takes the characters of the section, and goes on behind it
abbrev pub IsSectionDriven
    : {M : Type 0} → Driver M → M → List ℕ → ℕ → Section → Type 0
IsSectionDriven d memory page start section =
    driven d memory (in_state data_state) (with_feeds (drop start page))
    ≡ driven d (taken d memory (characters (with_feeds (section_text page start section))))
    (in_state data_state) (with_feeds (drop section.end page))
