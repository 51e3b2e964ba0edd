-- After the first character of a run: the mode is one that the others don't move, and what they would do but be put in was done.
use Rattle.std.proofs.Common.{◌≡◌, ◌⊎◌, ℕ, ◌==◌, Bool, true, false, List, [], ◌∷◌, refl, ap, sym, subst, inl, inr, ◌∙◌, if◌then◌else◌}
use Rattle.std.specs.Char.{is_ascii_whitespace}
use Rattle.std.specs.Prelude.{⊤, codes}
use Rattle.std.proofs.lemmas.Bool.{cases_Bool, cond_both, eq-eqb, eqb-true}
use Rattle.tl_html_spec.specs.HtmlTokenizer.{data_state}
use Rattle.tl_dom_spec.specs.Tags.{Tag, is_any}
use Rattle.tl_dom_spec.specs.Marks.{Marked, marked}
use Rattle.tl_dom_spec.specs.Path.{Path, Place, and_text, behind, here, into, into_head, is_open_number, new_frame, no_nodes, put, top}
use Rattle.tl_dom_spec.specs.Builder.{Builder, Entry, Mode, a_character, adjusted_current_node, after_after_body, after_after_frameset, after_body, after_frameset, after_head, appropriate_place, before_head, before_html, current_tag, formatting, in_body, in_caption, in_cell, in_column_group, in_frameset, in_head, in_head_noscript, in_row, in_table, in_table_body, in_table_text, in_template, initial, insert_bytes, marker, pushed_at, text_mode}
use Rattle.tl_dom_spec.specs.Formatting.{reconstruct_formatting, reopen, reopen_each}
use Rattle.tl_dom_spec.specs.Tables.{is_in_column_group, is_text_in_table}
use Rattle.tl_dom_spec.specs.Dispatcher.{is_html_content}
use Rattle.tl_dom_spec.specs.Runs.{Kind, insert_text, kind_of, null, plain, white}
use Rattle.tl_dom_spec.proofs.RunsPaths.{adjusted_same, open_same, top_tag_same}

-- Kinds

abbrev pub IsKind : Kind → ℕ → Type 0
IsKind null c = ((c == 0) ≡ true) × (is_ascii_whitespace c ≡ false)
IsKind white c = ((c == 0) ≡ false) × (is_ascii_whitespace c ≡ true)
IsKind plain c = ((c == 0) ≡ false) × (is_ascii_whitespace c ≡ false)

pub no_white : (c : ℕ) → (c == 0) ≡ true → is_ascii_whitespace c ≡ false
no_white c e = ap is_ascii_whitespace (eqb-true c 0 e)

pub seen : (c : ℕ) → IsKind (kind_of c) c
seen c = cond_both (c == 0) null (if is_ascii_whitespace c then white else plain) (λ k. IsKind k c)
    (λ e. (e, no_white c e))
    (λ e. cond_both (is_ascii_whitespace c) white plain (λ k. IsKind k c) (λ w. (e, w)) (λ w. (e, w)))

abbrev pub IsWhite : Kind → Type 0
IsWhite white = ⊤
IsWhite _ = ⊥

-- What holds between two characters of a run

abbrev pub Calm : Builder → Type 0
Calm b = (b.skips ≡ false) × (b.reads ≡ data_state)

-- whether characters go to the insertion mode
abbrev pub content : Builder → Bool
content b = is_html_content (adjusted_current_node b) (a_character 0)

-- the active formatting elements are reconstructed
abbrev pub Rebuilt : List Entry → Path → Type 0
Rebuilt [] path = ⊤
Rebuilt (marker ∷ entries) path = ⊤
Rebuilt (formatting k tag ∷ entries) path = is_open_number k path ≡ true

abbrev pub QuietBy : Kind → Bool → Type 0
QuietBy plain is_ok = is_ok ≡ false
QuietBy _ is_ok = ⊤

abbrev pub BodyBy : Kind → List Entry → Path → Bool → Type 0
BodyBy null entries path is_ok = ⊤
BodyBy k entries path is_ok = Rebuilt entries path × QuietBy k is_ok

abbrev pub TableBy : Kind → List Entry → Path → Bool → Bool → Type 0
TableBy k entries path is_ok fosters =
    (is_text_in_table (top path).tag ≡ true)
    ⊎ ((is_text_in_table (top path).tag ≡ false) × (fosters ≡ false) × BodyBy k entries path is_ok)

abbrev pub FramesBy : Kind → List Entry → Path → Type 0
FramesBy white entries path = Rebuilt entries path
FramesBy _ entries path = ⊤

abbrev pub is_group_on_top : Path → Bool
is_group_on_top path = is_any (codes "colgroup") (top path).tag

abbrev pub ModeBy : Mode → Kind → List Entry → Path → Bool → Bool → Type 0
ModeBy initial k es path is_ok fosters = IsWhite k
ModeBy before_html k es path is_ok fosters = IsWhite k
ModeBy before_head k es path is_ok fosters = IsWhite k
ModeBy in_head k es path is_ok fosters = IsWhite k
ModeBy in_head_noscript k es path is_ok fosters = IsWhite k
ModeBy after_head k es path is_ok fosters = IsWhite k
ModeBy in_body k es path is_ok fosters = BodyBy k es path is_ok
ModeBy text_mode k es path is_ok fosters = ⊤
ModeBy in_table k es path is_ok fosters = TableBy k es path is_ok fosters
ModeBy in_table_text k es path is_ok fosters = ⊤
ModeBy in_caption k es path is_ok fosters = BodyBy k es path is_ok
ModeBy in_column_group k es path is_ok fosters = IsWhite k ⊎ (is_group_on_top path ≡ false)
ModeBy in_table_body k es path is_ok fosters = TableBy k es path is_ok fosters
ModeBy in_row k es path is_ok fosters = TableBy k es path is_ok fosters
ModeBy in_cell k es path is_ok fosters = BodyBy k es path is_ok
ModeBy in_template k es path is_ok fosters = BodyBy k es path is_ok
ModeBy after_body k es path is_ok fosters = IsWhite k × BodyBy k es path is_ok
ModeBy in_frameset k es path is_ok fosters = ⊤
ModeBy after_frameset k es path is_ok fosters = ⊤
ModeBy after_after_body k es path is_ok fosters = IsWhite k × BodyBy k es path is_ok
ModeBy after_after_frameset k es path is_ok fosters = FramesBy k es path

abbrev pub Quiet : Kind → Builder → Type 0
Quiet k b = QuietBy k b.is_frameset_ok

abbrev pub BodyRest : Kind → Builder → Type 0
BodyRest k b = BodyBy k b.active b.path b.is_frameset_ok

abbrev pub TableRest : Kind → Builder → Type 0
TableRest k b = TableBy k b.active b.path b.is_frameset_ok b.is_fostering

abbrev pub FramesRest : Kind → Builder → Type 0
FramesRest k b = FramesBy k b.active b.path

abbrev pub ModeRest : Mode → Kind → Builder → Type 0
ModeRest m k b = ModeBy m k b.active b.path b.is_frameset_ok b.is_fostering

abbrev pub AtRest : Kind → Builder → Type 0
AtRest k b = Calm b × (((content b ≡ true) × ModeRest b.mode k b) ⊎ ((content b ≡ false) × Quiet k b))

-- a text that is put in leaves it so

content_put : (bytes : List ℕ) (b : Builder) → content (insert_bytes bytes b) ≡ content b
content_put bytes b = ap (λ (t : Tag). is_html_content t (a_character 0)) (adjusted_same b.context (appropriate_place b) (and_text no_nodes (marked b.marks bytes)) b.path)

tag_put : (bytes : List ℕ) (b : Builder) → current_tag (insert_bytes bytes b) ≡ current_tag b
tag_put bytes b = top_tag_same (appropriate_place b) (and_text no_nodes (marked b.marks bytes)) b.path

rebuilt_put : (entries : List Entry) (place : Place) (bytes : Marked (List ℕ)) (path : Path) → Rebuilt entries path → Rebuilt entries (put place (and_text no_nodes bytes) path)
rebuilt_put [] place bytes path r = tt
rebuilt_put (marker ∷ entries) place bytes path r = tt
rebuilt_put (formatting k tag ∷ entries) place bytes path r = open_same k place (and_text no_nodes bytes) path ∙ r

pub rebuilt_in : (bytes : List ℕ) (b : Builder) → Rebuilt b.active b.path → Rebuilt b.active (insert_bytes bytes b).path
rebuilt_in bytes b r = rebuilt_put b.active (appropriate_place b) (marked b.marks bytes) b.path r

body_put : (k : Kind) (bytes : List ℕ) (b : Builder) → BodyRest k b → BodyRest k (insert_bytes bytes b)
body_put null bytes b r = tt
body_put white bytes b r = (rebuilt_in bytes b r.0, tt)
body_put plain bytes b r = (rebuilt_in bytes b r.0, r.1)

table_put : (k : Kind) (bytes : List ℕ) (b : Builder) → TableRest k b → TableRest k (insert_bytes bytes b)
table_put k bytes b (inl y) = inl (ap is_text_in_table (tag_put bytes b) ∙ y)
table_put k bytes b (inr n) = inr (ap is_text_in_table (tag_put bytes b) ∙ n.0, n.1, body_put k bytes b n.2)

column_put : (k : Kind) (bytes : List ℕ) (b : Builder) → IsWhite k ⊎ (is_in_column_group b ≡ false) → IsWhite k ⊎ (is_in_column_group (insert_bytes bytes b) ≡ false)
column_put k bytes b (inl w) = inl w
column_put k bytes b (inr n) = inr (ap (λ (t : Tag). is_any (codes "colgroup") t) (tag_put bytes b) ∙ n)

frames_put : (k : Kind) (bytes : List ℕ) (b : Builder) → FramesRest k b → FramesRest k (insert_bytes bytes b)
frames_put null bytes b r = tt
frames_put white bytes b r = rebuilt_in bytes b r
frames_put plain bytes b r = tt

mode_put : (m : Mode) (k : Kind) (bytes : List ℕ) (b : Builder) → ModeRest m k b → ModeRest m k (insert_bytes bytes b)
mode_put in_body k bytes b r = body_put k bytes b r
mode_put in_table k bytes b r = table_put k bytes b r
mode_put in_caption k bytes b r = body_put k bytes b r
mode_put in_column_group k bytes b r = column_put k bytes b r
mode_put in_table_body k bytes b r = table_put k bytes b r
mode_put in_row k bytes b r = table_put k bytes b r
mode_put in_cell k bytes b r = body_put k bytes b r
mode_put in_template k bytes b r = body_put k bytes b r
mode_put after_body k bytes b r = (r.0, body_put k bytes b r.1)
mode_put after_after_body k bytes b r = (r.0, body_put k bytes b r.1)
mode_put after_after_frameset k bytes b r = frames_put k bytes b r
mode_put _ k bytes b r = r

quiet_put : (k : Kind) (bytes : List ℕ) (b : Builder) → Quiet k b → Quiet k (insert_bytes bytes b)
quiet_put null bytes b q = tt
quiet_put white bytes b q = tt
quiet_put plain bytes b q = q

pub rest_put : (k : Kind) (bytes : List ℕ) (b : Builder) → AtRest k b → AtRest k (insert_bytes bytes b)
rest_put k bytes b (c, inl h) = (c, inl (content_put bytes b ∙ h.0, mode_put b.mode k bytes b h.1))
rest_put k bytes b (c, inr f) = (c, inr (content_put bytes b ∙ f.0, quiet_put k bytes b f.1))

pub rest_text : (k : Kind) (bytes : List ℕ) (b : Builder) → AtRest k b → AtRest k (insert_text bytes b)
rest_text k [] b r = r
rest_text k (c ∷ bytes) b r = rest_put k (c ∷ bytes) b r

pub content_text : (bytes : List ℕ) (b : Builder) → content (insert_text bytes b) ≡ content b
content_text [] b = refl
content_text (c ∷ bytes) b = content_put (c ∷ bytes) b

-- Reconstructing

abbrev pub Same : Builder → Builder → Type 0
Same b c = (c.mode ≡ b.mode) × (c.skips ≡ b.skips) × (c.reads ≡ b.reads) × (c.is_fostering ≡ b.is_fostering)

pub reopened_same : (b : Builder) (entries : List Entry) → Same b (reopen_each b entries)
reopened_same b [] = (refl, refl, refl, refl)
reopened_same b (marker ∷ entries) = (refl, refl, refl, refl)
reopened_same b (formatting k tag ∷ entries) =
    elim (is_open_number k b.path) as (λ v. Same b (elim v as (λ _. Builder) [
      | true ↦ record b { active = formatting k tag ∷ entries }
      | false ↦ reopen tag (reopen_each b entries)
    ])) [
      | true ↦ (refl, refl, refl, refl)
      | false ↦ reopened_same b entries
    ]

pushed_open : (place : Place) (k : ℕ) (tag : Tag) (path : Path) → is_open_number k (pushed_at place (new_frame k tag place) path) ≡ true
pushed_open here k tag path = rw (eq-eqb k k refl) refl
pushed_open (into n) k tag path = rw (eq-eqb k k refl) refl
pushed_open (behind n) k tag path = rw (eq-eqb k k refl) refl
pushed_open into_head k tag path = rw (eq-eqb k k refl) refl

abbrev IsRebuilt : Builder → Type 0
IsRebuilt b = Rebuilt b.active b.path

abbrev either_way : Bool → ℕ → Tag → List Entry → Builder → Builder
either_way v k tag entries b =
    elim v as (λ _. Builder) [
      | true ↦ record b { active = formatting k tag ∷ entries }
      | false ↦ reopen tag (reopen_each b entries)
    ]

pub reopened_rebuilt : (b : Builder) (entries : List Entry) → IsRebuilt (reopen_each b entries)
reopened_rebuilt b [] = tt
reopened_rebuilt b (marker ∷ entries) = tt
reopened_rebuilt b (formatting k tag ∷ entries) = elim (cases_Bool (is_open_number k b.path)) [
  | inl y ↦ subst (λ v. IsRebuilt (either_way v k tag entries b)) (sym y) y
  | inr n ↦ (
      let c : Builder = reopen_each b entries in
      subst (λ v. IsRebuilt (either_way v k tag entries b)) (sym n) (pushed_open (appropriate_place c) c.next tag c.path))
]

-- twice is as once
pub rebuilt_same : (b : Builder) → IsRebuilt b → reconstruct_formatting b ≡ b
rebuilt_same b r = again b.active r refl
  where
    again : (entries : List Entry) → Rebuilt entries b.path → b.active ≡ entries → reopen_each b entries ≡ b
    again [] i e = ap (λ es. record b { active = es }) (sym e)
    again (marker ∷ entries) i e = ap (λ es. record b { active = es }) (sym e)
    again (formatting k tag ∷ entries) i e = ap (λ v. either_way v k tag entries b) i ∙ ap (λ es. record b { active = es }) (sym e)
