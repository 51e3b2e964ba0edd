-- The pending characters of a table: what is opened for them is no table and no template.
use Rattle.std.proofs.Common.{Bool, List, [], ap, false, if◌then◌else◌, refl, subst, suc, sym, true, ℕ, ◌==◌, ◌∙◌, ◌∷◌, ◌≡◌}
use Rattle.std.specs.Char.{is_ascii_whitespace}
use Rattle.std.specs.List.{list_all}
use Rattle.std.proofs.lemmas.Bool.{cond_both}
use Rattle.tl_dom_spec.specs.Tags.{Tag, is_table, is_template}
use Rattle.tl_dom_spec.specs.Marks.{marked}
use Rattle.tl_dom_spec.specs.Path.{and_text, is_open_number, new_frame, no_nodes}
use Rattle.tl_dom_spec.specs.Builder.{Builder, Entry, appropriate_place, formatting, fostering, frameset_not_ok, insert_bytes, insert_character, marker}
use Rattle.tl_dom_spec.specs.Formatting.{reconstruct_formatting, reopen, reopen_each}
use Rattle.tl_dom_spec.specs.Body.{body_character}
use Rattle.tl_dom_spec.specs.Tables.{body_characters, no_bytes, pending_inserted}
use Rattle.tl_dom_spec.specs.Lawful.{AreFormatting, AreTemplateModes, IsRooted, IsSteady, is_text_mode}
use Rattle.tl_dom_spec.proofs.PathTags.{pushed-Rooted, pushed-tags, put-Rooted, put-tags, tags}
use Rattle.tl_dom_spec.proofs.Measure.{below, count, is_head}

-- no table and no template
abbrev pub IsPlain : Tag → Type 0
IsPlain t = (is_table t ≡ false) × (is_template t ≡ false)

-- as many tables and templates as before
pub record AsMany (us ts : List Tag) : Type 0 where
  pub tables : count is_table ts ≡ count is_table us
  pub templates : count is_template ts ≡ count is_template us
  pub heads : below ts ≡ below us

all-same : (us : List Tag) → AsMany us us
all-same us = record { tables = refl; templates = refl; heads = refl }

plain-more : (t : Tag) (us ts : List Tag) → IsPlain t → AsMany us ts → AsMany us (t ∷ ts)
plain-more t us ts p m = record {
  tables = ap (λ (v : Bool). if v then suc (count is_table ts) else count is_table ts) p.0 ∙ m.tables;
  templates = ap (λ (v : Bool). if v then suc (count is_template ts) else count is_template ts) p.1 ∙ m.templates;
  heads = ap (λ (v : Bool). if v then count is_head ts else below ts) p.1 ∙ m.heads;
}

and-then : (us ts vs : List Tag) → AsMany us ts → AsMany ts vs → AsMany us vs
and-then us ts vs m n = record { tables = n.tables ∙ m.tables; templates = n.templates ∙ m.templates; heads = n.heads ∙ m.heads }

-- what else holds stays
abbrev pub Keeps : Builder → Builder → Type 0
Keeps b c = (IsRooted b.path → IsRooted c.path) × (c.original ≡ b.original) × (c.templates ≡ b.templates)

abbrev pub Reopened : Builder → Builder → Type 0
Reopened b c = AsMany (tags b.path) (tags c.path) × AreFormatting c.active × Keeps b c

abbrev same : (b : Builder) → Keeps b b
same b = ((λ r. r), refl, refl)

pub reopened : (b : Builder) (entries : List Entry) → AreFormatting entries → Reopened b (reopen_each b entries)
reopened b [] e = (all-same (tags b.path), tt, same b)
reopened b (marker ∷ entries) e = (all-same (tags b.path), e, same b)
reopened b (formatting k tag ∷ entries) e =
    elim (is_open_number k b.path) as (λ v. Reopened b (elim v as (λ _. Builder) [
      | true ↦ record b { active = formatting k tag ∷ entries }
      | false ↦ reopen tag (reopen_each b entries)
    ])) [
      | true ↦ (all-same (tags b.path), e, same b)
      | false ↦ (
          let c : Builder = reopen_each b entries in
          let r = reopened b entries e.1 in
          let keeps : Keeps b (reopen tag c) =
          ((λ q. pushed-Rooted (appropriate_place c) (new_frame c.next tag (appropriate_place c)) c.path (r.2.0 q)), r.2.1, r.2.2) in
          let is = pushed-tags (appropriate_place c) c.next tag (appropriate_place c) c.path in
          (subst (AsMany (tags b.path)) (sym is) (plain-more tag (tags b.path) (tags c.path) e.0 r.0), (e.0, r.1), keeps))
    ]

inserted : (b c : Builder) (bytes : List ℕ) → Reopened b c → Reopened b (insert_bytes bytes c)
inserted b c bytes r = (subst (AsMany (tags b.path)) (sym (put-tags (appropriate_place c) (and_text no_nodes (marked c.marks bytes)) c.path)) r.0, r.1, ((λ q. put-Rooted (appropriate_place c) (and_text no_nodes (marked c.marks bytes)) c.path (r.2.0 q)), r.2.1, r.2.2))

character-reopened : (n : ℕ) (b : Builder) → AreFormatting b.active → Reopened b (body_character n b)
character-reopened n b e =
    let r = inserted b (reconstruct_formatting b) (n ∷ []) (reopened b b.active e) in
    cond_both (n == 0) _ _ (Reopened b) (λ _. (all-same (tags b.path), e, same b))
    (λ _. cond_both (is_ascii_whitespace n) (insert_character n (reconstruct_formatting b)) (frameset_not_ok (insert_character n (reconstruct_formatting b))) (Reopened b) (λ _. r) (λ _. r))

characters-reopened : (bytes : List ℕ) (b : Builder) → AreFormatting b.active → Reopened b (body_characters bytes b)
characters-reopened [] b e = (all-same (tags b.path), e, same b)
characters-reopened (c ∷ bytes) b e =
    let first = character-reopened c b e in
    let more = characters-reopened bytes (body_character c b) first.1 in (
      and-then (tags b.path) (tags (body_character c b).path) (tags (body_characters bytes (body_character c b)).path) first.0 more.0,
      more.1,
      ((λ q. more.2.0 (first.2.0 q)), more.2.1 ∙ first.2.1, more.2.2 ∙ first.2.2),
    )

pending-reopened : (b : Builder) → AreFormatting b.active → Reopened b (pending_inserted b)
pending-reopened b e =
    cond_both (no_bytes b.pending) b _ (Reopened b) (λ _. (all-same (tags b.path), e, same b))
    (λ _. cond_both (list_all is_ascii_whitespace b.pending) (insert_bytes b.pending b) (fostering false (body_characters b.pending (fostering true b))) (Reopened b)
    (λ _. inserted b b b.pending (all-same (tags b.path), e, same b))
    (λ _. characters-reopened b.pending (fostering true b) e))

pub pending-same : (b : Builder) → AreFormatting b.active → AsMany (tags b.path) (tags (pending_inserted b).path)
pending-same b e = (pending-reopened b e).0

pub from_reopened : (b c : Builder) → Reopened b c → IsSteady b → IsSteady c
from_reopened b c p r = (p.2.0 r.0, ap is_text_mode p.2.1 ∙ r.1, subst AreTemplateModes (sym p.2.2) r.2, p.1)

pub pending-steady : (b : Builder) → IsSteady b → IsSteady (pending_inserted b)
pending-steady b r = from_reopened b (pending_inserted b) (pending-reopened b r.3) r
