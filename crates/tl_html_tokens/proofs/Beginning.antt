-- How a piece begins is read at once.
use Rattle.std.proofs.Common.{◌≡◌, ◌≤◌, ◌<◌, ℕ, zero, suc, ◌+◌, ◌-◌, Bool, true, false, ◌==◌, List, length, take, drop, get_or, refl, ap, sym, subst, ◌∙◌, inl, inr, true≢false, arith, if◌then◌else◌}
use Rattle.std.specs.Char.{is_ascii_alphabetic}
use Rattle.std.specs.List.{list_all}
use Rattle.std.proofs.lemmas.Bool.{cases_Bool, eqb-true}
use Rattle.tl_html_spec.specs.Reader.{feed}
use Rattle.tl_html_tokens.specs.Inner.Machine as M
use Rattle.tl_html_tokens.specs.Inner.Quiet.{is_quiet, skip_quiet}
use Rattle.tl_html_tokens.specs.Inner.Scanned.{scanned, unless_ended}
use Rattle.tl_html_tokens.specs.Inner.Scans as S
use Rattle.tl_html_tokens.specs.declared.front.Scan.{Scan}
use Rattle.tl_html_tokens.specs.declared.front.Scanned.{Scanned}
use Rattle.tl_html_tokens.specs.declared.front.Scanned.TheVariants.{On, Before}
use Rattle.tl_html_tokens.specs.declared.mode.Mode.{Mode}
use Rattle.tl_html_tokens.specs.declared.mode.Mode.TheVariants as mode
use Rattle.tl_html_tokens.specs.declared.stage.Stage.{Stage}
use Rattle.tl_html_tokens.specs.declared.stage.Stage.TheVariants as stage
use Rattle.tl_html_tokens.specs.declared.stage.Turn.TheVariants.{Goes}
use Rattle.tl_html_tokens.proofs.Passing.{feed_is, pass_on}
use Rattle.tl_html_tokens.proofs.Places.{between}
use Rattle.tl_html_tokens.proofs.Reading.{Follows, IsScan, scan_first, scan_next}

abbrev scan_at : Stage → ℕ → Scan
scan_at c word = record { stage = c; after_return = false; word = word }

-- the first bytes of a tag

open_scan : (page : List ℕ) (start : ℕ) → get_or page start 0 ≡ 60 → S.first_scan page start mode.Data ≡ scan_at stage.TagOpen (start + 1)
open_scan page start e = ap (λ b. record { stage = M.first mode.Data (feed b); after_return = b == 13; word = start + 1 }) e

differs : (b k : ℕ) → is_ascii_alphabetic b ≡ true → is_ascii_alphabetic k ≡ false → (b == k) ≡ false
differs b k h n = elim (cases_Bool (b == k)) [
  | inl y ↦ absurd (true≢false (sym h ∙ ap is_ascii_alphabetic (eqb-true b k y) ∙ n))
  | inr d ↦ d
]

tag_letter : (b : ℕ) → is_ascii_alphabetic b ≡ true → M.tag_open b ≡ Goes (stage.TagName false)
tag_letter b h = rw (differs b 33 h refl, differs b 47 h refl, h) refl

end_letter : (b : ℕ) → is_ascii_alphabetic b ≡ true → M.end_tag_open b ≡ Goes (stage.TagName true)
end_letter b h = rw h refl

letter_on : (page : List ℕ) (place word : ℕ) (c : Stage) (is_end : Bool) → is_ascii_alphabetic (get_or page place 0) ≡ true →
    M.turn c (between page word place) (get_or page place 0) ≡ Goes (stage.TagName is_end) →
    S.next_scan (scan_at c word) page place ≡ On (scan_at (stage.TagName is_end) word)
letter_on page place word c is_end h t =
    let b : ℕ = get_or page place 0 in
    let r : (b == 13) ≡ false = differs b 13 h refl in
    ap (λ x. S.after_turn x (b == 13) word place) (ap (M.turn c (between page word place)) (feed_is b r) ∙ t)
    ∙ ap (λ (v : Bool). On (record { stage = stage.TagName is_end; after_return = v; word = word })) r

slash_on : (page : List ℕ) (place word : ℕ) → get_or page place 0 ≡ 47 → S.next_scan (scan_at stage.TagOpen word) page place ≡ On (scan_at stage.EndTagOpen (place + 1))
slash_on page place word e = ap (λ b. S.after_turn (M.turn stage.TagOpen (between page word place) (feed b)) (b == 13) word place) e

pub start_name : (page : List ℕ) (start : ℕ) → get_or page start 0 ≡ 60 → is_ascii_alphabetic (get_or page (start + 1) 0) ≡ true →
    scanned (start + 1 + 1 - (start + 1)) page (start + 1) (S.first_scan page start mode.Data) ≡ On (scan_at (stage.TagName false) (start + 1))
start_name page start e h =
    let one : start + 1 + 1 - (start + 1) ≡ suc zero = omega arith in
    ap (λ n. scanned n page (start + 1) (S.first_scan page start mode.Data)) one
    ∙ ap (λ x. scanned (suc zero) page (start + 1) x) (open_scan page start e)
    ∙ ap (unless_ended (λ next. On next)) (letter_on page (start + 1) (start + 1) stage.TagOpen false h (tag_letter (get_or page (start + 1) 0) h))

pub end_name : (page : List ℕ) (start : ℕ) → get_or page start 0 ≡ 60 → get_or page (start + 1) 0 ≡ 47 → is_ascii_alphabetic (get_or page (start + 1 + 1) 0) ≡ true →
    scanned (start + 1 + 2 - (start + 1)) page (start + 1) (S.first_scan page start mode.Data) ≡ On (scan_at (stage.TagName true) (start + 1 + 1))
end_name page start e s h =
    let two : start + 1 + 2 - (start + 1) ≡ suc (suc zero) = omega arith in
    ap (λ n. scanned n page (start + 1) (S.first_scan page start mode.Data)) two
    ∙ ap (λ x. scanned (suc (suc zero)) page (start + 1) x) (open_scan page start e)
    ∙ ap (unless_ended (λ next. scanned (suc zero) page (start + 1 + 1) next)) (slash_on page (start + 1) (start + 1) s)
    ∙ ap (unless_ended (λ next. On next)) (letter_on page (start + 1 + 1) (start + 1 + 1) stage.EndTagOpen true h (end_letter (get_or page (start + 1 + 1) 0) h))

-- reading has come so far

by_next : (page : List ℕ) (start : ℕ) (m : Mode) (n place : ℕ) (s : Scan) →
    ((x : Scan) → IsScan page start m (place + 1) x → scanned n page (place + 1) x ≡ On s → IsScan page start m (place + 1 + n) s) →
    (x : Scanned) → Follows page start m place x → unless_ended (λ next. scanned n page (place + 1) next) x ≡ On s → IsScan page start m (place + 1 + n) s
by_next page start m n place s go (On x) h e = go x h e
by_next page start m n place s go (Before k o) h e = absurd (let no : Before k o ≡ On s = e in (cc))

scanned_on : (page : List ℕ) (start : ℕ) (m : Mode) (n place : ℕ) (scan s : Scan) → IsScan page start m place scan → place + n ≤ length page →
    scanned n page place scan ≡ On s → IsScan page start m (place + n) s
scanned_on page start m zero place scan s h l e =
    let is : scan ≡ s = cc in
    let sum : place ≡ place + zero = omega arith in
    subst (λ k. IsScan page start m k s) sum (subst (IsScan page start m place) is h)
scanned_on page start m (suc n) place scan s h l e =
    let inside : place < length page = omega arith in
    let sum : place + 1 + n ≡ place + suc n = omega arith in
    subst (λ k. IsScan page start m k s) sum
    (by_next page start m n place s (λ x i q. scanned_on page start m n (place + 1) x s i (omega arith) q)
    (S.next_scan scan page place) (scan_next page start m place scan h inside) e)

pub scanned_to : (page : List ℕ) (start : ℕ) (m : Mode) (from to : ℕ) (scan s : Scan) → IsScan page start m from scan → from ≤ to → to ≤ length page →
    scanned (to - from) page from scan ≡ On s → IsScan page start m to s
scanned_to page start m from to scan s h order within e =
    let sum : from + (to - from) ≡ to = omega arith in
    subst (λ k. IsScan page start m k s) sum (scanned_on page start m (to - from) from scan s h (omega arith) e)

pub passed_to : (page : List ℕ) (start : ℕ) (m : Mode) (from to : ℕ) (scan s : Scan) → IsScan page start m from scan → from ≤ to → to ≤ length page →
    list_all (is_quiet scan.stage) (take (to - from) (drop from page)) ≡ true → s ≡ skip_quiet scan from (to - from) → IsScan page start m to s
passed_to page start m from to scan s h order within q e =
    let sum : from + (to - from) ≡ to = omega arith in
    subst (λ k. IsScan page start m k s) sum
    (subst (IsScan page start m (from + (to - from))) (sym e) (pass_on page start m from (to - from) scan h (omega arith) q))

-- past the first bytes, and those that leave the stage as it is
pub begun_to : (page : List ℕ) (start : ℕ) (m : Mode) (from to : ℕ) (scan s : Scan) → start < length page → scanned (from - (start + 1)) page (start + 1) (S.first_scan page start m) ≡ On scan →
    start < from → from ≤ length page → from ≤ to → to ≤ length page → list_all (is_quiet scan.stage) (take (to - from) (drop from page)) ≡ true → s ≡ skip_quiet scan from (to - from) →
    IsScan page start m to s
begun_to page start m from to scan s h read order inside on within q e =
    passed_to page start m from to scan s (scanned_to page start m (start + 1) from (S.first_scan page start m) scan (scan_first page start m h) (omega arith) inside read) on within q e
