-- The pending bytes as they are taken for characters, one after another.
use Rattle.std.proofs.Common.{List, ap, arith, cond, drop, false, get_or, length, nat_eq, refl, suc, sym, true, ℕ, [], ◌+◌, ◌<◌, ◌∙◌, ◌∷◌, ◌≡◌, ◌≤◌}
use Rattle.std.proofs.Math.Seq.{drop-cons}
use Rattle.std.proofs.lemmas.Bool.{ne_eqb}
use Rattle.std.proofs.lemmas.List.{drop_all}
use Rattle.std.specs.Char.{is_ascii_whitespace}
use Rattle.tl_dom_spec.specs.Body.{body_character}
use Rattle.tl_dom_spec.specs.Builder.{Builder, Entry, formatting, frameset_not_ok, insert_character, marker}
use Rattle.tl_dom_spec.specs.Formatting.{reconstruct_formatting, reopen, reopen_each}
use Rattle.tl_dom_spec.specs.Path.{is_open_number}
use Rattle.tl_dom_spec.specs.Tables.{body_characters, no_bytes}
use Rattle.tl_tree.specs.Inner.Builders.{builder_of}
use Rattle.tl_tree.specs.declared.builder.Builder as code

pub none-counted : (bytes : List ℕ) → nat_eq (length bytes) 0 ≡ no_bytes bytes
none-counted [] = refl
none-counted (c ∷ bytes) = ne_eqb (length (c ∷ bytes)) 0 (λ (none : length (c ∷ bytes) ≡ 0). omega arith)

-- none of them is gone

reopened-pending : (b : Builder) (entries : List Entry) → (reopen_each b entries).pending ≡ b.pending
reopened-pending b [] = refl
reopened-pending b (marker ∷ entries) = refl
reopened-pending b (formatting k tag ∷ entries) =
    elim (is_open_number k b.path) as (λ o. (elim o as (λ _. Builder) [
      | true ↦ record b { active = formatting k tag ∷ entries }
      | false ↦ reopen tag (reopen_each b entries)
    ]).pending ≡ b.pending) [
      | true ↦ refl
      | false ↦ reopened-pending b entries
    ]

pub character-pending : (c : ℕ) (b : Builder) → (body_character c b).pending ≡ b.pending
character-pending c b =
    let again = reconstruct_formatting b in
    elim (nat_eq c 0) as (λ zero. (cond zero b (cond (is_ascii_whitespace c) (insert_character c again) (frameset_not_ok (insert_character c again)))).pending ≡ b.pending) [
      | true ↦ refl
      | false ↦
          elim (is_ascii_whitespace c) as (λ blank. (cond blank (insert_character c again) (frameset_not_ok (insert_character c again))).pending ≡ b.pending) [
            | true ↦ reopened-pending b b.active
            | false ↦ reopened-pending b b.active
          ]
    ]

pub pending-same : (b new : code.Builder) (c : ℕ) → builder_of new ≡ body_character c (builder_of b) → new.pending.items ≡ b.pending.items
unfolding builder_of
pending-same b new c is =
    ap (λ (d : Builder). d.pending) is ∙ character-pending c (builder_of b)

pub characters-done : (bytes : List ℕ) (n : ℕ) (b start : Builder) → length bytes ≤ n → body_characters (drop n bytes) b ≡ body_characters bytes start → b ≡ body_characters bytes start
characters-done bytes n b start h so_far =
    sym (ap (λ all. body_characters all b) (drop_all n bytes h)) ∙ so_far

-- one of them
pub characters-next : (bytes : List ℕ) (n c : ℕ) (b : Builder) → n < length bytes → c ≡ get_or bytes n c → body_characters (drop (n + 1) bytes) (body_character c b) ≡ body_characters (drop n bytes) b
characters-next bytes n c b h is =
    let next : n + 1 ≡ suc n = omega arith in
    ap (λ i. body_characters (drop i bytes) (body_character c b)) next
    ∙ (ap (λ (own : ℕ). body_characters (drop (suc n) bytes) (body_character own b)) is
    ∙ sym (ap (λ all. body_characters all b) (drop-cons bytes n c h)))

pub characters-step : (own bytes : List ℕ) (n c : ℕ) (b new : Builder) → own ≡ bytes → n < length own → c ≡ get_or own n c → new ≡ body_character c b → body_characters (drop (n + 1) bytes) new ≡ body_characters (drop n bytes) b
characters-step own bytes n c b new same h is one =
    let many = ap length same in
    ap (body_characters (drop (n + 1) bytes)) one
    ∙ characters-next bytes n c b (omega arith) (is ∙ ap (λ all. get_or all n c) same)
